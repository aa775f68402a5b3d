-- The five bytes before the cells: each byte of the values, and each value of the bytes, worked out.
use mathlib.Core.Path.{◌≡◌, refl, ◌∙◌, ap, sym}
use mathlib.Core.Bool.{Bool, true, false, cond}
use mathlib.Core.List.{List, [], ◌∷◌, ◌++◌, append-nil}
use Prim.Native.Nat.{ℕ, ◌+◌, ◌*◌, ◌/◌, ◌%◌, ◌^◌, ◌<◌, ◌≤◌}
use native.Mathlib.Nat.{div-div-eq-div-mul, mod-mod}
use native.Mathlib.Omega.{arith}
use mir.Val.{bool_byte}
use lib.Dec.{eqb}
use lib.ListN.{length, take, drop, take-append-drop}
use lib.Seq.{length-take-le, take-take}
use Rattle.laws.specs.Digits.{binary}
use Rattle.laws.specs.Fields.{bits_of, bytes_of, digits, fields_bits, fields_of, total}
use Rattle.laws.proofs.Digits.{binary_digits, digits_binary, three_runs}
use Rattle.laws.proofs.Fields.{bits_of_bits, bits_of_bytes_append, fields_of_append, length_bits_of}
use Rattle.laws.proofs.Tabulated.{cons_is}
use Rattle.laws.proofs.Words.{fields_cut}
use Rattle.grid.specs.Grid.{rows}
use Rattle.packet.specs.Headers.{header_values}
use Rattle.packet.specs.declared.Header.{Header}
use Rattle.packing.specs.Cells.{group_cells}
use Rattle.page.specs.Private.{head_bytes, head_fields, head_from}
use Rattle.page.specs.Records.{head_length, head_values, head_widths, magazine_from, magazine_value, row_code}
use Rattle.page.specs.declared.reading.Head.{Head}

module _ (g t u ht hu mt mu co cl z : ℕ) where
  -- the values' bits, cut where a byte ends
  cut : List ℕ
  cut =
      (digits 3 g ++ (digits 4 t ++ digits 1 (u / 8)))
      ++ ((digits 3 u ++ (digits 2 ht ++ digits 3 (hu / 2)))
      ++ ((digits 1 hu ++ (digits 3 mt ++ digits 4 mu)) ++ (digits 8 (co / 8) ++ (digits 3 co ++ (digits 1 cl ++ digits 4 z)))))

  cut-is : fields_bits head_widths (g ∷ t ∷ u ∷ ht ∷ hu ∷ mt ∷ mu ∷ co ∷ cl ∷ z ∷ []) ≡ cut
  unfolding cut digits fields_bits
  cut-is = simp div-div-eq-div-mul

  bytes-of-cut : ◌≡◌ {A = List ℕ}
      ((g % 8 * 32 + t % 16 * 2 + u / 8 % 2)
      ∷ (u % 8 * 32 + ht % 4 * 8 + hu / 2 % 8)
      ∷ (hu % 2 * 128 + mt % 8 * 16 + mu % 16)
      ∷ co / 8 % 256
      ∷ (co % 8 * 32 + cl % 2 * 16 + z % 16)
      ∷ [])
      (bytes_of head_length cut)
  unfolding cut digits bytes_of fields_of
  bytes-of-cut =
      cons_is (sym (three_runs 3 4 1 g t (u / 8)))
      (cons_is (sym (three_runs 3 2 3 u ht (hu / 2)))
      (cons_is (sym (three_runs 1 3 4 hu mt mu)) (cons_is (sym (binary_digits 8 (co / 8))) (cons_is (sym (three_runs 3 1 4 co cl z)) refl))))

-- the last byte's clean bit
clean_bit : (b : Bool) → bool_byte b ≡ cond b 1 0 % 2
clean_bit true = refl
clean_bit false = refl

pub bit_below : (b : Bool) → bool_byte b < 2
bit_below true = omega arith
bit_below false = omega arith

pub five_bytes : (magazine : ℕ) (h : Header) (clean : Bool) → ◌≡◌ {A = List ℕ}
    ((magazine % 8 * 32 + h.tens % 16 * 2 + h.units / 8 % 2)
    ∷ (h.units % 8 * 32 + h.hours_tens % 4 * 8 + h.hours_units / 2 % 8)
    ∷ (h.hours_units % 2 * 128 + h.minutes_tens % 8 * 16 + h.minutes_units % 16)
    ∷ h.control / 8 % 256
    ∷ (h.control % 8 * 32 + bool_byte clean * 16 + row_code rows)
    ∷ [])
    (head_bytes magazine h clean (row_code rows))
unfolding head_bytes head_values magazine_value header_values
five_bytes magazine h clean =
    cons_is (ap (λ (n : ℕ). n * 32 + h.tens % 16 * 2 + h.units / 8 % 2) (sym (mod-mod magazine 8)))
    (cons_is refl (cons_is refl (cons_is refl (cons_is (ap (λ (n : ℕ). h.control % 8 * 32 + n * 16 + row_code rows) (clean_bit clean)) refl))))
    ∙ (bytes-of-cut (magazine % 8) h.tens h.units h.hours_tens h.hours_units h.minutes_tens h.minutes_units h.control (cond clean 1 0) (row_code rows)
    ∙ ap (bytes_of head_length)
    (sym (cut-is (magazine % 8) h.tens h.units h.hours_tens h.hours_units h.minutes_tens h.minutes_units h.control (cond clean 1 0) (row_code rows))))

-- ---- and back

-- a record's first eight bytes, as one word: the head's bits are its first
pub values_of_word : (bytes : List ℕ) → group_cells ≤ length bytes
    → fields_of head_widths (digits 64 (binary (bits_of (take group_cells bytes)))) ≡ head_fields (take head_length bytes)
unfolding head_fields total fields_of
values_of_word bytes h =
    let eight = take group_cells bytes in
    let five : take head_length eight ≡ take head_length bytes = take-take head_length group_cells bytes (omega arith) in
    let bits : digits 64 (binary (bits_of eight)) ≡ bits_of eight =
    ap (λ (n : ℕ). digits n (binary (bits_of eight))) (sym (length_bits_of eight ∙ ap (λ (k : ℕ). 8 * k) (length-take-le group_cells bytes h)))
    ∙ digits_binary (bits_of eight) (bits_of_bits eight) in
    let parted : bits_of eight ≡ bits_of (take head_length eight) ++ bits_of (drop head_length eight) =
    ap bits_of (sym (take-append-drop head_length eight)) ∙ bits_of_bytes_append (take head_length eight) (drop head_length eight) in
    let long = length_bits_of (take head_length eight) ∙ ap (λ (k : ℕ). 8 * k) (ap length five ∙ length-take-le head_length bytes (omega arith)) in
    ap (fields_of head_widths) (bits ∙ parted)
    ∙ (fields_of_append head_widths [] (bits_of (take head_length eight)) (bits_of (drop head_length eight)) long
    ∙ (append-nil (fields_of head_widths (bits_of (take head_length eight))) ∙ ap (λ (xs : List ℕ). fields_of head_widths (bits_of xs)) five))

-- what they are, part by part
pub head_of_word : (word magazine : ℕ) → magazine ≡ magazine_from (word / 2 ^ 61 % 8) → ◌≡◌ {A = Head}
    (record {
      magazine = magazine;
      header = record {
        tens = word / 2 ^ 57 % 16;
        units = word / 2 ^ 53 % 16;
        hours_tens = word / 2 ^ 51 % 4;
        hours_units = word / 2 ^ 47 % 16;
        minutes_tens = word / 2 ^ 44 % 8;
        minutes_units = word / 2 ^ 40 % 16;
        control = word / 2 ^ 29 % 2048;
      };
      clean = eqb (word / 2 ^ 28 % 2) 1;
      code = word / 2 ^ 24 % 16;
    })
    (head_from (fields_of head_widths (digits 64 word)))
unfolding head_from total
head_of_word word magazine e = rw (e, fields_cut head_widths 24 word)
