-- Fields as one number, the first of them the most significant: a machine's word. What is done to the number is done to its fields, and fields cut out of
-- a number are its digits. So a word may be worked on as a whole and spoken of field by field.
use mathlib.Core.Path.{◌≡◌, refl, ◌∙◌, ap, sym}
use mathlib.Core.Bool.{Bool, true, false, cond}
use mathlib.Core.List.{List, [], ◌∷◌, ◌++◌, append-nil, map}
use Prim.Native.Nat.{ℕ, zero, suc, ◌+◌, ◌*◌, ◌-◌, ◌/◌, ◌%◌, ◌^◌, ◌<◌}
use native.Mathlib.Nat.{add_assoc, mod-eq_of_lt, mod-lt, zero-lt-suc}
use native.Mathlib.Omega.{arith}
use lib.Arith.{digits_lt}
use lib.Bits.{bit_and, and_block, and_mask, and_zero_r}
use lib.ListN.{length, replicate}
use lib.Seq.{drop_at, take_at}
use lib.Pow.{ones_lt, pow-add, pow_pos, split}
use Rattle.laws.specs.Digits.{binary}
use Rattle.laws.specs.Fields.{bits_of, bytes_of, digits, fields_bits, fields_of, total}
use Rattle.laws.proofs.Digits.{binary_append, binary_below, binary_digits, binary_digits_fit, digits_above, digits_binary, digits_bits, digits_cut, length_digits}
use Rattle.laws.proofs.Fields.{Fit, bits_back, bits_of_bits, bits_of_bytes_append, bytes_append, fields_back, fields_bits_law, fields_fit, fit_length, length_bits, length_bits_of, total_bytes}

unfoldable pub word : List ℕ → List ℕ → ℕ
unfolding total
word [] values = 0
word (width ∷ widths) [] = 0
word (width ∷ widths) (value ∷ values) = value * 2 ^ total widths + word widths values

pub word_below : (widths values : List ℕ) → Fit widths values → word widths values < 2 ^ total widths
unfolding word total
word_below [] [] h = zero-lt-suc 0
word_below [] (v ∷ values) h = absurd h
word_below (w ∷ widths) [] h = absurd h
word_below (w ∷ widths) (v ∷ values) h = rw (pow-add 2 w (total widths)) (digits_lt h.0 (word_below widths values h.1))

-- it is the number of the fields' bits
pub word_is : (widths values : List ℕ) → Fit widths values → binary (fields_bits widths values) ≡ word widths values
unfolding word fields_bits binary
word_is [] [] h = refl
word_is [] (v ∷ values) h = absurd h
word_is (w ∷ widths) [] h = absurd h
word_is (w ∷ widths) (v ∷ values) h =
    binary_append (digits w v) (fields_bits widths values)
    ∙ rw (binary_digits_fit w v h.0, length_bits widths values (fit_length widths values h.1), word_is widths values h.1)

module _ (widths values : List ℕ) (fit : Fit widths values) where
  -- the fields' bits are its digits
  pub bits-of-word : fields_bits widths values ≡ digits (total widths) (word widths values)
  bits-of-word =
      sym (digits_binary (fields_bits widths values) (fields_bits_law widths values))
      ∙ (ap (λ (n : ℕ). digits n (binary (fields_bits widths values))) (length_bits widths values (fit_length widths values fit))
      ∙ ap (digits (total widths)) (word_is widths values fit))

  -- and the fields cut out of its digits are the fields
  pub fields-of-word : fields_of widths (digits (total widths) (word widths values)) ≡ values
  fields-of-word = ap (fields_of widths) (sym bits-of-word) ∙ fields_back widths values fit

-- values that are too large stand in their fields without what lies above
abbrev pub reduced : List ℕ → List ℕ → List ℕ
reduced [] values = []
reduced (width ∷ widths) [] = []
reduced (width ∷ widths) (value ∷ values) = value % 2 ^ width ∷ reduced widths values

reduced_fit : (widths values : List ℕ) → length widths ≡ length values → Fit widths (reduced widths values)
reduced_fit [] values e = tt
reduced_fit (w ∷ widths) [] e = absurd (omega arith)
reduced_fit (w ∷ widths) (v ∷ values) e = (mod-lt v (pow_pos w), reduced_fit widths values (omega arith))

reduced_bits : (widths values : List ℕ) → fields_bits widths values ≡ fields_bits widths (reduced widths values)
unfolding fields_bits
reduced_bits [] values = refl
reduced_bits (w ∷ widths) [] = refl
reduced_bits (w ∷ widths) (v ∷ values) =
    rw (← reduced_bits widths values)
    (ap (λ (bits : List ℕ). bits ++ fields_bits widths values)
    (ap (digits w) (sym (split v w)) ∙ digits_above w (v / 2 ^ w) (v % 2 ^ w)))

pub bits_of_values : (widths values : List ℕ) → length widths ≡ length values → fields_bits widths values ≡ digits (total widths) (word widths (reduced widths values))
bits_of_values widths values e =
    reduced_bits widths values ∙ bits-of-word widths (reduced widths values) (reduced_fit widths values e)

-- every number is the word of the fields that are cut out of it
module _ (widths : List ℕ) (number : ℕ) where
  pub cut-fit : Fit widths (fields_of widths (digits (total widths) number))
  cut-fit = fields_fit widths (digits (total widths) number) (digits_bits (total widths) number) (length_digits (total widths) number)

  pub word-of-fields : number < 2 ^ total widths → word widths (fields_of widths (digits (total widths) number)) ≡ number
  word-of-fields h =
      sym (word_is widths (fields_of widths (digits (total widths) number)) cut-fit)
      ∙ (ap binary (bits_back widths (digits (total widths) number) (digits_bits (total widths) number) (length_digits (total widths) number))
      ∙ binary_digits_fit (total widths) number h)

-- each of them is so many of its digits, with those of the others after it, and some more below them all
abbrev pub cut_from : List ℕ → ℕ → ℕ → List ℕ
cut_from [] below number = []
cut_from (width ∷ widths) below number = number / 2 ^ (total widths + below) % 2 ^ width ∷ cut_from widths below number

pub fields_cut : (widths : List ℕ) (below number : ℕ) → fields_of widths (digits (total widths + below) number) ≡ cut_from widths below number
unfolding fields_of total
fields_cut [] below number = refl
fields_cut (w ∷ widths) below number =
    let under = total widths + below in
    let first = digits w (number / 2 ^ under) in
    let rest = digits under number in
    rw (
      add_assoc w (total widths) below,
      digits_cut w under number,
      take_at first rest w (length_digits w (number / 2 ^ under)),
      drop_at first rest w (length_digits w (number / 2 ^ under)),
      binary_digits w (number / 2 ^ under),
      fields_cut widths below number,
    )

-- ---- masks

-- a mask that keeps some fields and drops the others
unfoldable pub mask : List ℕ → List Bool → ℕ
unfolding total
mask [] keeps = 0
mask (width ∷ widths) [] = 0
mask (width ∷ widths) (keep ∷ keeps) = cond keep (2 ^ width - 1) 0 * 2 ^ total widths + mask widths keeps

abbrev pub kept : List Bool → List ℕ → List ℕ
kept [] values = []
kept (keep ∷ keeps) [] = []
kept (keep ∷ keeps) (value ∷ values) = cond keep value 0 ∷ kept keeps values

one_mask_below : (keep : Bool) (width : ℕ) → cond keep (2 ^ width - 1) 0 < 2 ^ width
one_mask_below true width = ones_lt width
one_mask_below false width = pow_pos width

mask_below : (widths : List ℕ) (keeps : List Bool) → mask widths keeps < 2 ^ total widths
unfolding mask total
mask_below [] keeps = zero-lt-suc 0
mask_below (w ∷ widths) [] = pow_pos (w + total widths)
mask_below (w ∷ widths) (keep ∷ keeps) = rw (pow-add 2 w (total widths)) (digits_lt (one_mask_below keep w) (mask_below widths keeps))

one_masked : (keep : Bool) (width value : ℕ) → value < 2 ^ width → bit_and value (cond keep (2 ^ width - 1) 0) ≡ cond keep value 0
one_masked true width value h = and_mask value width ∙ mod-eq_of_lt h
one_masked false width value h = and_zero_r value

pub masked : (widths : List ℕ) (keeps : List Bool) (values : List ℕ) → Fit widths values → length keeps ≡ length widths
    → bit_and (word widths values) (mask widths keeps) ≡ word widths (kept keeps values)
unfolding word mask
masked [] keeps [] h e = and_zero_r 0
masked [] keeps (v ∷ values) h e = absurd h
masked (w ∷ widths) keeps [] h e = absurd h
masked (w ∷ widths) [] (v ∷ values) h e = absurd (omega arith)
masked (w ∷ widths) (keep ∷ keeps) (v ∷ values) h e =
    and_block (total widths) v (cond keep (2 ^ w - 1) 0) (word widths values) (mask widths keeps) (word_below widths values h.1) (mask_below widths keeps)
    ∙ (ap (λ (n : ℕ). n * 2 ^ total widths + bit_and (word widths values) (mask widths keeps)) (one_masked keep w v h.0)
    ∙ ap (λ (n : ℕ). cond keep v 0 * 2 ^ total widths + n) (masked widths keeps values h.1 (omega arith)))

-- ---- bytes

-- so many bytes as one number
abbrev pub bytes_word : ℕ → List ℕ → ℕ
bytes_word n bytes = word (replicate n 8) bytes

pub bytes_word_law : (n : ℕ) (bytes : List ℕ) → length bytes ≡ n → Fit (replicate n 8) bytes → binary (bits_of bytes) ≡ bytes_word n bytes
unfolding bits_of
bytes_word_law n bytes e fit =
    ap (λ (k : ℕ). binary (fields_bits (replicate k 8) bytes)) e ∙ word_is (replicate n 8) bytes fit

pub bytes_of_word : (n : ℕ) (bytes : List ℕ) → Fit (replicate n 8) bytes → bytes_of n (digits (8 * n) (bytes_word n bytes)) ≡ bytes
unfolding bytes_of
bytes_of_word n bytes fit =
    ap (λ (k : ℕ). fields_of (replicate n 8) (digits k (bytes_word n bytes))) (sym (total_bytes n)) ∙ fields-of-word (replicate n 8) bytes fit

-- the same mask laid over each byte
module _ (y : ℕ) (small : y < 256) (f : ℕ → ℕ) (each : (x : ℕ) → x < 256 → bit_and x y ≡ f x) where
  repeated-fit : (n : ℕ) → Fit (replicate n 8) (replicate n y)
  repeated-fit zero = tt
  repeated-fit (suc n) = (small, repeated-fit n)

  pub bytes-masked : (n : ℕ) (bytes : List ℕ) → Fit (replicate n 8) bytes → bit_and (bytes_word n bytes) (bytes_word n (replicate n y)) ≡ bytes_word n (map f bytes)
  unfolding word
  bytes-masked zero [] h = and_zero_r 0
  bytes-masked zero (x ∷ bytes) h = absurd h
  bytes-masked (suc n) [] h = absurd h
  bytes-masked (suc n) (x ∷ bytes) h =
      let widths : List ℕ = replicate n 8 in
      and_block (total widths) x y (bytes_word n bytes) (bytes_word n (replicate n y)) (word_below widths bytes h.1) (word_below widths (replicate n y) (repeated-fit n))
      ∙ (ap (λ (k : ℕ). k * 2 ^ total widths + bit_and (bytes_word n bytes) (bytes_word n (replicate n y))) (each x h.0)
      ∙ ap (λ (k : ℕ). f x * 2 ^ total widths + k) (bytes-masked n bytes h.1))

-- ---- bytes, one by one

-- the last byte of a number, after those before it
pub last_byte : (n number : ℕ) → bytes_of (n + 1) (digits (8 * n + 8) number) ≡ bytes_of n (digits (8 * n) (number / 256)) ++ (number % 256 ∷ [])
unfolding bytes_of fields_of digits
last_byte n number =
    ap (bytes_of (n + 1)) (digits_cut (8 * n) 8 number)
    ∙ (bytes_append n 1 (digits (8 * n) (number / 256)) (digits 8 number) (length_digits (8 * n) (number / 256))
    ∙ ap (λ (byte : ℕ). bytes_of n (digits (8 * n) (number / 256)) ++ (byte ∷ [])) (binary_digits 8 number))

-- one byte more after others
pub next_byte : (bytes : List ℕ) (byte : ℕ) → byte < 256 → binary (bits_of (bytes ++ (byte ∷ []))) ≡ binary (bits_of bytes) * 256 + byte
unfolding bits_of fields_bits
next_byte bytes byte h =
    ap binary (bits_of_bytes_append bytes (byte ∷ []) ∙ ap (λ (bits : List ℕ). bits_of bytes ++ bits) (append-nil (digits 8 byte)))
    ∙ (binary_append (bits_of bytes) (digits 8 byte) ∙ rw (length_digits 8 byte, binary_digits_fit 8 byte h))

pub bytes_below : (bytes : List ℕ) → binary (bits_of bytes) < 2 ^ (8 * length bytes)
bytes_below bytes = rw (length_bits_of bytes) at (binary_below (bits_of bytes) (bits_of_bits bytes))
