-- Fields and their bits are one and the same, both ways: what is packed is read back, and what is read is packed into the same bits, for fields of any
-- widths. Bytes are fields of eight bits, so that a packed form and its bytes are two ways to cut the same bits.
use mathlib.Core.Path.{◌≡◌, refl, ◌∙◌, ap, sym}
use mathlib.Core.Bool.{true}
use mathlib.Core.List.{List, [], ◌∷◌, ◌++◌, append_assoc, append-nil}
use Prim.Native.Nat.{ℕ, zero, suc, ◌+◌, ◌*◌, ◌^◌, ◌<◌, ◌≤◌}
use native.Mathlib.Omega.{arith}
use borrow.Author.Tests.{lt-ltb, ltb-true}
use lib.Dec.{T, ltb}
use lib.ListN.{length, length-append, length-take, length-drop, length-replicate, replicate, replicate-append-replicate, take, drop, take-append-drop}
use lib.Seq.{take-append-le, drop-append-le, take_at, drop_at}
use Rattle.laws.specs.Digits.{binary}
use Rattle.laws.specs.Every.{every_pair}
use Rattle.laws.specs.Fields.{digits, fits, fields_bits, fields_of, total, bytes_of, bits_of}
use Rattle.laws.proofs.Bools.{both_left, both_right, passed}
use Rattle.laws.proofs.Digits.{AreBits, bits_append, bits_take, bits_drop, binary_below, binary_digits_fit, digits_binary, digits_bits, length_digits}

-- as many values as widths, and none too large for its bits
abbrev pub Fit : List ℕ → List ℕ → Type 0
Fit [] [] = Unit
Fit [] (value ∷ values) = ⊥
Fit (width ∷ widths) [] = ⊥
Fit (width ∷ widths) (value ∷ values) = (value < 2 ^ width) × Fit widths values

pub fit_tested : (widths values : List ℕ) → T (every_pair fits widths values) → Fit widths values
unfolding every_pair fits
fit_tested [] [] t = tt
fit_tested [] (v ∷ values) t = absurd t
fit_tested (w ∷ widths) [] t = absurd t
fit_tested (w ∷ widths) (v ∷ values) t = (
  ltb-true v (2 ^ w) (passed (ltb v (2 ^ w)) (both_left (ltb v (2 ^ w)) (every_pair fits widths values) t)),
  fit_tested widths values (both_right (ltb v (2 ^ w)) (every_pair fits widths values) t),
)

pub tested_fit : (widths values : List ℕ) → Fit widths values → every_pair fits widths values ≡ true
unfolding every_pair fits
tested_fit [] [] h = refl
tested_fit [] (v ∷ values) h = absurd h
tested_fit (w ∷ widths) [] h = absurd h
tested_fit (w ∷ widths) (v ∷ values) h = rw (lt-ltb v (2 ^ w) h.0, tested_fit widths values h.1)

pub fit_append : (widths values widths' values' : List ℕ) → Fit widths values → Fit widths' values' → Fit (widths ++ widths') (values ++ values')
fit_append [] [] widths' values' h k = k
fit_append [] (v ∷ values) widths' values' h k = absurd h
fit_append (w ∷ widths) [] widths' values' h k = absurd h
fit_append (w ∷ widths) (v ∷ values) widths' values' h k = (h.0, fit_append widths values widths' values' h.1 k)

pub fit_length : (widths values : List ℕ) → Fit widths values → length widths ≡ length values
fit_length [] [] h = refl
fit_length [] (v ∷ values) h = absurd h
fit_length (w ∷ widths) [] h = absurd h
fit_length (w ∷ widths) (v ∷ values) h = ap suc (fit_length widths values h.1)

-- ---- the bits of fields

pub fields_bits_law : (widths values : List ℕ) → AreBits (fields_bits widths values)
unfolding fields_bits
fields_bits_law [] values = tt
fields_bits_law (w ∷ widths) [] = tt
fields_bits_law (w ∷ widths) (v ∷ values) = bits_append (digits w v) (fields_bits widths values) (digits_bits w v) (fields_bits_law widths values)

pub length_bits : (widths values : List ℕ) → length widths ≡ length values → length (fields_bits widths values) ≡ total widths
unfolding fields_bits total
length_bits [] values e = refl
length_bits (w ∷ widths) [] e = absurd (omega arith)
length_bits (w ∷ widths) (v ∷ values) e =
    length-append (digits w v) (fields_bits widths values)
    ∙ rw (length_digits w v, length_bits widths values (omega arith))

pub length_fields : (widths bits : List ℕ) → length (fields_of widths bits) ≡ length widths
unfolding fields_of
length_fields [] bits = refl
length_fields (w ∷ widths) bits = ap suc (length_fields widths (drop w bits))

-- ---- there and back

-- what is packed is read back, whatever follows it
pub read_back_law : (widths values rest : List ℕ) → Fit widths values → fields_of widths (fields_bits widths values ++ rest) ≡ values
unfolding fields_bits fields_of
read_back_law [] [] rest h = refl
read_back_law [] (v ∷ values) rest h = absurd h
read_back_law (w ∷ widths) [] rest h = absurd h
read_back_law (w ∷ widths) (v ∷ values) rest h =
    rw (
      append_assoc (digits w v) (fields_bits widths values) rest,
      take_at (digits w v) (fields_bits widths values ++ rest) w (length_digits w v),
      drop_at (digits w v) (fields_bits widths values ++ rest) w (length_digits w v),
      binary_digits_fit w v h.0,
      read_back_law widths values rest h.1,
    )

pub fields_back : (widths values : List ℕ) → Fit widths values → fields_of widths (fields_bits widths values) ≡ values
fields_back widths values h = ap (fields_of widths) (sym (append-nil (fields_bits widths values))) ∙ read_back_law widths values [] h

-- what is read is packed into the same bits
pub bits_back : (widths bits : List ℕ) → AreBits bits → length bits ≡ total widths → fields_bits widths (fields_of widths bits) ≡ bits
unfolding fields_bits fields_of total
bits_back [] [] h e = refl
bits_back [] (b ∷ bits) h e = absurd (omega arith)
bits_back (w ∷ widths) bits h e =
    let front : length (take w bits) ≡ w = simp length-take (omega arith) in
    let left : length (drop w bits) ≡ total widths = simp length-drop (omega arith) in
    ap (λ (n : ℕ). digits n (binary (take w bits)) ++ fields_bits widths (fields_of widths (drop w bits))) (sym front)
    ∙ (ap (λ (xs : List ℕ). xs ++ fields_bits widths (fields_of widths (drop w bits))) (digits_binary (take w bits) (bits_take w bits h))
    ∙ (ap (λ (xs : List ℕ). take w bits ++ xs) (bits_back widths (drop w bits) (bits_drop w bits h) left) ∙ take-append-drop w bits))

-- and no value that is read is too large for its bits
pub fields_fit : (widths bits : List ℕ) → AreBits bits → length bits ≡ total widths → Fit widths (fields_of widths bits)
unfolding fields_of total
fields_fit [] bits h e = tt
fields_fit (w ∷ widths) bits h e =
    let front : length (take w bits) ≡ w = simp length-take (omega arith) in
    let left : length (drop w bits) ≡ total widths = simp length-drop (omega arith) in
    (rw front at (binary_below (take w bits) (bits_take w bits h)), fields_fit widths (drop w bits) (bits_drop w bits h) left)

-- the same bits cut at other widths, and cut back
pub recut : (widths values others : List ℕ) → Fit widths values → total widths ≡ total others
    → fields_of widths (fields_bits others (fields_of others (fields_bits widths values))) ≡ values
recut widths values others h e =
    ap (fields_of widths)
    (bits_back others (fields_bits widths values) (fields_bits_law widths values)
    (length_bits widths values (fit_length widths values h) ∙ e))
    ∙ fields_back widths values h

-- ---- one run of fields after another

pub bits_of_append : (widths values widths' values' : List ℕ) → length widths ≡ length values
    → fields_bits (widths ++ widths') (values ++ values') ≡ fields_bits widths values ++ fields_bits widths' values'
unfolding fields_bits
bits_of_append [] [] widths' values' e = refl
bits_of_append [] (v ∷ values) widths' values' e = absurd (omega arith)
bits_of_append (w ∷ widths) [] widths' values' e = absurd (omega arith)
bits_of_append (w ∷ widths) (v ∷ values) widths' values' e =
    rw (bits_of_append widths values widths' values' (omega arith), append_assoc (digits w v) (fields_bits widths values) (fields_bits widths' values'))

pub fields_of_append : (widths widths' xs ys : List ℕ) → length xs ≡ total widths
    → fields_of (widths ++ widths') (xs ++ ys) ≡ fields_of widths xs ++ fields_of widths' ys
unfolding fields_of total
fields_of_append [] widths' [] ys e = refl
fields_of_append [] widths' (x ∷ xs) ys e = absurd (omega arith)
fields_of_append (w ∷ widths) widths' xs ys e =
    let left : length (drop w xs) ≡ total widths = simp length-drop (omega arith) in
    let inside : w ≤ length xs = omega arith in
    rw (take-append-le w xs ys inside, drop-append-le w xs ys inside, fields_of_append widths widths' (drop w xs) ys left)

pub total_append : (widths widths' : List ℕ) → total (widths ++ widths') ≡ total widths + total widths'
unfolding total
total_append [] widths' = omega arith
total_append (w ∷ widths) widths' = rw (total_append widths widths') (omega arith)

-- ---- bytes

pub total_bytes : (n : ℕ) → total (replicate n 8) ≡ 8 * n
unfolding total
total_bytes zero = refl
total_bytes (suc n) = rw (total_bytes n) (omega arith)

pub length_bytes : (n : ℕ) (bits : List ℕ) → length (bytes_of n bits) ≡ n
unfolding bytes_of
length_bytes n bits = length_fields (replicate n 8) bits ∙ length-replicate n 8

pub length_bits_of : (bytes : List ℕ) → length (bits_of bytes) ≡ 8 * length bytes
unfolding bits_of
length_bits_of bytes =
    length_bits (replicate (length bytes) 8) bytes (length-replicate (length bytes) 8) ∙ total_bytes (length bytes)

pub bits_of_bits : (bytes : List ℕ) → AreBits (bits_of bytes)
unfolding bits_of
bits_of_bits bytes = fields_bits_law (replicate (length bytes) 8) bytes

pub bytes_append : (m n : ℕ) (xs ys : List ℕ) → length xs ≡ 8 * m → bytes_of (m + n) (xs ++ ys) ≡ bytes_of m xs ++ bytes_of n ys
unfolding bytes_of
bytes_append m n xs ys e =
    ap (λ (ws : List ℕ). fields_of ws (xs ++ ys)) (sym (replicate-append-replicate m n 8))
    ∙ fields_of_append (replicate m 8) (replicate n 8) xs ys (e ∙ sym (total_bytes m))

pub bits_of_bytes_append : (xs ys : List ℕ) → bits_of (xs ++ ys) ≡ bits_of xs ++ bits_of ys
unfolding bits_of
bits_of_bytes_append xs ys =
    ap (λ (n : ℕ). fields_bits (replicate n 8) (xs ++ ys)) (length-append xs ys)
    ∙ (ap (λ (ws : List ℕ). fields_bits ws (xs ++ ys)) (sym (replicate-append-replicate (length xs) (length ys) 8))
    ∙ bits_of_append (replicate (length xs) 8) xs (replicate (length ys) 8) ys (length-replicate (length xs) 8))

-- the bits of bytes that were cut from bits are those bits
pub bits_of_bytes : (n : ℕ) (bits : List ℕ) → AreBits bits → length bits ≡ 8 * n → bits_of (bytes_of n bits) ≡ bits
unfolding bits_of bytes_of
bits_of_bytes n bits h e =
    ap (λ (k : ℕ). fields_bits (replicate k 8) (fields_of (replicate n 8) bits)) (length_bytes n bits)
    ∙ bits_back (replicate n 8) bits h (e ∙ sym (total_bytes n))

-- each a byte
abbrev pub AreBytes : List ℕ → Type 0
AreBytes bytes = Fit (replicate (length bytes) 8) bytes

-- the bytes of the bits of bytes are those bytes
pub bytes_of_bits : (bytes : List ℕ) → AreBytes bytes → bytes_of (length bytes) (bits_of bytes) ≡ bytes
unfolding bits_of bytes_of
bytes_of_bits bytes h = fields_back (replicate (length bytes) 8) bytes h

pub bytes_are_bytes : (n : ℕ) (bits : List ℕ) → AreBits bits → length bits ≡ 8 * n → AreBytes (bytes_of n bits)
unfolding bytes_of
bytes_are_bytes n bits h e =
    rw (length_bytes n bits) (fields_fit (replicate n 8) bits h (e ∙ sym (total_bytes n)))
