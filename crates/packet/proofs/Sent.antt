-- What is read of a line that was sent by the rules and then damaged: what was sent, or a refusal.
use mathlib.Core.Path.{◌≡◌, sym, ap, ◌∙◌}
use mathlib.Core.Logic.{◌⊎◌, inl, inr, ⊎_elim}
use mathlib.Core.Bool.{Bool, true, false, ◌||◌}
use mathlib.Core.List.{List, map}
use mathlib.Core.Option.{Option, none, some}
use Prim.Native.Nat.{ℕ, ◌+◌, ◌-◌, ◌%◌, ◌≤◌, ◌<◌}
use native.Mathlib.Omega.{arith}
use borrow.Author.Tests.{eq-eqb, ne_eqb, le-leb}
use lib.Dec.{T, eqb, leb, eqb→eq, leb→le, lit<}
use lib.ListN.{length, get_or, length-map}
use Rattle.std.specs.Prelude.{Ok, Err}
use Rattle.laws.specs.Every.{every, every_pair}
use Rattle.laws.proofs.Bools.{passed, five, both_left, both_right}
use Rattle.laws.proofs.Every.{every_at, every_pair_at}
use Rattle.laws.proofs.Lists.{get_d_map, length_part}
use Rattle.coding.specs.Bits.{framing_code, framing_passes, odd, distance, turned_byte}
use Rattle.coding.specs.Characters.{character}
use Rattle.coding.specs.Hamming.{message, message_bits}
use Rattle.coding.proofs.Damage.{hamming-one, hamming-two, character_odd, character-kept, character-spoiled}
use Rattle.coding.proofs.Turning.{turned_small}
use Rattle.grid.specs.Grid.{columns, last_row}
use Rattle.packet.specs.Addresses.{address_of, shown}
use Rattle.packet.specs.Headers.{control_bytes, header_of, header_or}
use Rattle.packet.specs.Lines.{framed, framing_place, line_length, packet_byte, packet_bytes, packet_length, packet_of, packet_part, packet_place}
use Rattle.packet.specs.Sent.{line_packet, sent_first, sent_second, sent_magazine, sent_row, sent_header, sent_text}
use Rattle.packet.specs.Sent.{is_byte, exact_byte, odd_byte, row_by_rules, sent_by_rules, near, none_or_odd, row_damage, damage}
use Rattle.packet.specs.Texts.{column_bytes, header_column, header_text_bytes}
use Rattle.packet.specs.declared.Address.TheVariants.{Whole}
use Rattle.packet.specs.declared.HeaderError.TheVariants.{Spoiled}
use Rattle.packet.proofs.Bytes.{byte_at, length_bytes}
use Rattle.packet.proofs.Good.{header-good, header_is, header-or-spoiled}

-- what was sent, or nothing
abbrev pub AsSent : ℕ → Option ℕ → Type 0
AsSent sent found = (found ≡ some sent) ⊎ (found ≡ none)

-- ---- the parts of the two definitions

module _ (s : List ℕ) (sent : T (sent_by_rules s)) where
  pub sent-parts : T (eqb (length s) line_length)
      × T (every is_byte s)
      × T (eqb (get_or s framing_place 0) framing_code)
      × T (every exact_byte (packet_bytes (line_packet s) 1 2))
      × T (row_by_rules (sent_row s) (line_packet s))
  unfolding sent_by_rules
  sent-parts =
      five (eqb (length s) line_length) (every is_byte s) (eqb (get_or s framing_place 0) framing_code) (every exact_byte (packet_bytes (line_packet s) 1 2))
      (row_by_rules (sent_row s) (line_packet s)) sent

  pub sent-packet : length (line_packet s) ≡ packet_length
  unfolding line_packet
  sent-packet = length_part s packet_place packet_length (omega (arith, eqb→eq (length s) line_length sent-parts.0))

module _ (d : ℕ) (s r : List ℕ) (damaged : T (damage d s r)) where
  pub damage-parts : T (eqb (length r) line_length) × T (every is_byte r) × T (leb (distance (get_or r framing_place 0) (get_or s framing_place 0)) 1)
      × T (every_pair (near d) (packet_bytes (line_packet s) 1 2) (packet_bytes (line_packet r) 1 2)) × T (row_damage d (sent_row s) (line_packet s) (line_packet r))
  unfolding damage
  damage-parts =
      five (eqb (length r) line_length) (every is_byte r) (leb (distance (get_or r framing_place 0) (get_or s framing_place 0)) 1)
      (every_pair (near d) (packet_bytes (line_packet s) 1 2) (packet_bytes (line_packet r) 1 2))
      (row_damage d (sent_row s) (line_packet s) (line_packet r)) damaged

  received-length : length r ≡ line_length
  received-length = eqb→eq (length r) line_length damage-parts.0

  pub received-packet : length (line_packet r) ≡ packet_length
  unfolding line_packet
  received-packet = length_part r packet_place packet_length (omega (arith, received-length))

-- ---- bytes of two packets, pair by pair

module _ (p q : List ℕ) (first count : ℕ) (p-fits : (first - 1) + count ≤ length p) (q-fits : (first - 1) + count ≤ length q) (k : ℕ) (below : k < count) where
  each-byte : (test : ℕ → Bool) → T (every test (packet_bytes p first count)) → T (test (turned_byte (get_or p ((first - 1) + k) 0)))
  each-byte test t =
      rw (byte_at p first count p-fits k below) at
      (every_at test (packet_bytes p first count) t k 0 (rw (length_bytes p first count p-fits) below))

  each-pair : (test : ℕ → ℕ → Bool) → T (every_pair test (packet_bytes p first count) (packet_bytes q first count))
      → T (test (turned_byte (get_or p ((first - 1) + k) 0)) (turned_byte (get_or q ((first - 1) + k) 0)))
  each-pair test t =
      rw (byte_at p first count p-fits k below, byte_at q first count q-fits k below) at
      (every_pair_at test (packet_bytes p first count) (packet_bytes q first count) t k 0 0 (rw (length_bytes p first count p-fits) below))

-- ---- a Hamming byte of the two packets

within : (d sent received : ℕ) → T (near d sent received) → distance received sent ≤ d
unfolding near
within d sent received t = leb→le (distance received sent) d t

module _ (d sent received : ℕ) (by_rules : T (exact_byte (turned_byte sent))) (damaged : T (near d (turned_byte sent) (turned_byte received))) where
  pub read_one : d ≤ 1 → message (turned_byte received) ≡ some (message_bits (turned_byte sent))
  unfolding exact_byte
  read_one h =
      hamming-one (turned_byte sent) (turned_byte received) (turned_small sent) (turned_small received) by_rules
      (omega (arith, within d (turned_byte sent) (turned_byte received) damaged))

  pub read-two : d ≤ 2 → AsSent (message_bits (turned_byte sent)) (message (turned_byte received))
  unfolding exact_byte
  read-two h =
      hamming-two (turned_byte sent) (turned_byte received) (turned_small sent) (turned_small received) by_rules
      (omega (arith, within d (turned_byte sent) (turned_byte received) damaged))

-- ---- lines

framing_near : (a b : ℕ) → T (eqb a framing_code) → T (leb (distance b a) 1) → T (framing_passes b)
unfolding framing_passes
framing_near a b e t = rw (eqb→eq a framing_code e) at t

module _ (d : ℕ) (s r : List ℕ) (sent : T (sent_by_rules s)) (damaged : T (damage d s r)) where
  -- no line within the damage is refused
  pub delivered : framed r ≡ Ok tt
  unfolding framed
  delivered =
      let near-code : T (framing_passes (get_or r framing_place 0)) = framing_near (get_or s framing_place 0) (get_or r framing_place 0) (sent-parts s sent).2 (damage-parts d s r damaged).2 in
      rw (eq-eqb _ _ (received-length d s r damaged), passed (framing_passes (get_or r framing_place 0)) near-code)

  pub delivered-packet : packet_of r ≡ line_packet r
  unfolding packet_of packet_part line_packet
  delivered-packet = rw delivered

  -- the address bytes of the two packets
  address-fits : (p : List ℕ) → length p ≡ packet_length → 0 + 2 ≤ length p
  address-fits p e = omega arith

  address-byte : (k : ℕ) → k < 2
      → T (exact_byte (turned_byte (get_or (line_packet s) (0 + k) 0))) × T (near d (turned_byte (get_or (line_packet s) (0 + k) 0)) (turned_byte (get_or (line_packet r) (0 + k) 0)))
  address-byte k h =
      let ps = address-fits (line_packet s) (sent-packet s sent) in
      let pr = address-fits (line_packet r) (received-packet d s r damaged) in (
        each-byte (line_packet s) (line_packet r) 1 2 ps pr k h exact_byte (sent-parts s sent).3,
        each-pair (line_packet s) (line_packet r) 1 2 ps pr k h (near d) (damage-parts d s r damaged).3,
      )

  pub first_one : d ≤ 1 → message (packet_byte (line_packet r) 1) ≡ some (sent_first s)
  unfolding packet_byte sent_first
  first_one h = let b = address-byte 0 (lit< tt) in read_one d _ _ b.0 b.1 h

  pub second-one : d ≤ 1 → message (packet_byte (line_packet r) 2) ≡ some (sent_second s)
  unfolding packet_byte sent_second
  second-one h = let b = address-byte 1 (lit< tt) in read_one d _ _ b.0 b.1 h

  pub first_two : d ≤ 2 → AsSent (sent_first s) (message (packet_byte (line_packet r) 1))
  unfolding packet_byte sent_first
  first_two h = let b = address-byte 0 (lit< tt) in read-two d _ _ b.0 b.1 h

  pub second-two : d ≤ 2 → AsSent (sent_second s) (message (packet_byte (line_packet r) 2))
  unfolding packet_byte sent_second
  second-two h = let b = address-byte 1 (lit< tt) in read-two d _ _ b.0 b.1 h

  -- the address is what its two messages show
  pub address-shown : address_of (line_packet r) ≡ Ok (shown (message (packet_byte (line_packet r) 1)) (message (packet_byte (line_packet r) 2)))
  unfolding address_of
  address-shown = rw (eq-eqb _ _ (received-packet d s r damaged))

  -- and within one bit it is the one that was sent
  pub address-one : d ≤ 1 → address_of (line_packet r) ≡ Ok (Whole (sent_magazine s) (sent_row s))
  unfolding shown sent_magazine sent_row
  address-one h = address-shown ∙ (λ i. Ok (shown (first_one h i) (second-one h i)))

-- ---- headers

pub header_parts : (row : ℕ) (p : List ℕ) → row ≡ 0 → T (row_by_rules row p) → T (every exact_byte (control_bytes p)) × T (every odd_byte (header_text_bytes p))
unfolding row_by_rules
header_parts row p e t =
    let u = rw (eq-eqb row 0 e) at t in (
      both_left (every exact_byte (control_bytes p)) (every odd_byte (header_text_bytes p)) u,
      both_right (every exact_byte (control_bytes p)) (every odd_byte (header_text_bytes p)) u,
    )

pub header_damage : (d row : ℕ) (p q : List ℕ) → row ≡ 0 → T (row_damage d row p q)
    → T (every_pair (near d) (control_bytes p) (control_bytes q)) × T (every_pair none_or_odd (header_text_bytes p) (header_text_bytes q))
unfolding row_damage
header_damage d row p q e t =
    let u = rw (eq-eqb row 0 e) at t in (
      both_left (every_pair (near d) (control_bytes p) (control_bytes q)) (every_pair none_or_odd (header_text_bytes p) (header_text_bytes q)) u,
      both_right (every_pair (near d) (control_bytes p) (control_bytes q)) (every_pair none_or_odd (header_text_bytes p) (header_text_bytes q)) u,
    )

module _ (d : ℕ) (s r : List ℕ) (sent : T (sent_by_rules s)) (damaged : T (damage d s r)) (is_header : sent_row s ≡ 0) where
  control-fits : (p : List ℕ) → length p ≡ packet_length → 2 + 8 ≤ length p
  control-fits p e = omega arith

  sent_messages : List ℕ
  sent_messages = map message_bits (control_bytes (line_packet s))

  eight-sent : 8 ≡ length sent_messages
  unfolding sent_messages
  eight-sent =
      sym (length-map (control_bytes (line_packet s)) message_bits ∙ length_bytes (line_packet s) 3 8 (control-fits (line_packet s) (sent-packet s sent)))

  sent-message : (k : ℕ) → k < 8 → get_or sent_messages k 0 ≡ message_bits (turned_byte (get_or (line_packet s) (2 + k) 0))
  unfolding sent_messages
  sent-message k h =
      let fits = control-fits (line_packet s) (sent-packet s sent) in
      get_d_map message_bits (control_bytes (line_packet s)) k 0 0 (rw (length_bytes (line_packet s) 3 8 fits) h)
      ∙ ap message_bits (byte_at (line_packet s) 3 8 fits k h)

  control-byte : (k : ℕ) → k < 8
      → T (exact_byte (turned_byte (get_or (line_packet s) (2 + k) 0))) × T (near d (turned_byte (get_or (line_packet s) (2 + k) 0)) (turned_byte (get_or (line_packet r) (2 + k) 0)))
  control-byte k h =
      let ps = control-fits (line_packet s) (sent-packet s sent) in
      let pr = control-fits (line_packet r) (received-packet d s r damaged) in (
        each-byte (line_packet s) (line_packet r) 3 8 ps pr k h exact_byte (header_parts (sent_row s) (line_packet s) is_header (sent-parts s sent).4).0,
        each-pair (line_packet s) (line_packet r) 3 8 ps pr k h (near d)
            (header_damage d (sent_row s) (line_packet s) (line_packet r) is_header (damage-parts d s r damaged).4).0,
      )

  -- within one bit the header is the one that was sent
  pub header-one : d ≤ 1 → header_of (line_packet r) ≡ Ok (sent_header s)
  unfolding header_or sent_header sent_messages
  header-one h =
      header_is (line_packet r) (received-packet d s r damaged)
      (header-good (line_packet r) (received-packet d s r damaged) sent_messages eight-sent
      (λ k below. read_one d _ _ (control-byte k below).0 (control-byte k below).1 h ∙ ap {B = Option ℕ} some (sym (sent-message k below))))

  -- within two it is that, or spoiled
  pub header-two : d ≤ 2 → (header_of (line_packet r) ≡ Ok (sent_header s)) ⊎ (header_of (line_packet r) ≡ Err Spoiled)
  unfolding header_or sent_header sent_messages
  header-two h =
      ⊎_elim (λ good. inl (header_is (line_packet r) (received-packet d s r damaged) good))
      (λ spoiled. inr (header_is (line_packet r) (received-packet d s r damaged) spoiled))
      (header-or-spoiled (line_packet r) (received-packet d s r damaged) sent_messages eight-sent
      (λ k below.
      ⊎_elim (λ good. inl (good ∙ ap {B = Option ℕ} some (sym (sent-message k below)))) (λ refused. inr refused)
      (read-two d _ _ (control-byte k below).0 (control-byte k below).1 h)))

-- ---- characters

either : (a b : Bool) → T (a || b) → T a ⊎ T b
either true b t = inl tt
either false b t = inr t

-- a character byte within the damage is as it was sent, or refused
pub character_two : (sent received : ℕ) → sent < 256 → received < 256 → T (odd_byte sent) → T (none_or_odd sent received) → AsSent (sent % 128) (character received)
unfolding odd_byte none_or_odd
character_two sent received hs hr t damaged =
    ⊎_elim (λ none. inl (character-kept sent received hs hr t (eqb→eq (distance received sent) 0 none)))
    (λ some-odd. inr (character-spoiled sent received hs hr t some-odd))
    (either (eqb (distance received sent) 0) (odd (distance received sent)) damaged)

text_parts : (row : ℕ) (p : List ℕ) → 1 ≤ row → row ≤ last_row → T (row_by_rules row p) → T (every odd_byte (column_bytes p))
unfolding row_by_rules
text_parts row p low high t = rw (ne_eqb row 0 (λ e. omega arith), le-leb row last_row high) at t

text_damage : (d row : ℕ) (p q : List ℕ) → 1 ≤ row → row ≤ last_row → T (row_damage d row p q) → T (every_pair none_or_odd (column_bytes p) (column_bytes q))
unfolding row_damage
text_damage d row p q low high t = rw (ne_eqb row 0 (λ e. omega arith), le-leb row last_row high) at t

module _ (d : ℕ) (s r : List ℕ) (sent : T (sent_by_rules s)) (damaged : T (damage d s r)) where
  columns-fit : (p : List ℕ) → length p ≡ packet_length → 2 + columns ≤ length p
  columns-fit p e = omega arith

  column-of : (p : List ℕ) → length p ≡ packet_length → (c : ℕ) → c < columns → get_or (column_bytes p) c 0 ≡ turned_byte (get_or p (2 + c) 0)
  column-of p e c h = byte_at p 3 columns (columns-fit p e) c h

  pub sent-column : (c : ℕ) → c < columns → get_or (sent_text s) c 0 ≡ get_or (column_bytes (line_packet s)) c 0 % 128
  unfolding sent_text
  sent-column c h =
      get_d_map (λ (byte : ℕ). byte % 128) (column_bytes (line_packet s)) c 0 0
      (rw (length_bytes (line_packet s) 3 columns (columns-fit (line_packet s) (sent-packet s sent))) h)

  -- a column that carries a character: its byte is odd as sent, and damaged in no bit or in an odd number
  abbrev pub Carries : ℕ → Type 0
  Carries c =
      T (odd_byte (get_or (column_bytes (line_packet s)) c 0))
      × T (none_or_odd (get_or (column_bytes (line_packet s)) c 0) (get_or (column_bytes (line_packet r)) c 0))

  -- in the rows below row 0 that carry characters every column does
  pub text-carries : 1 ≤ sent_row s → sent_row s ≤ last_row → (c : ℕ) → c < columns → Carries c
  text-carries low high c h =
      let ps = sent-packet s sent in
      let pr = received-packet d s r damaged in (
        rw (column-of (line_packet s) ps c h)
            (each-byte (line_packet s) (line_packet r) 3 columns (columns-fit (line_packet s) ps) (columns-fit (line_packet r) pr) c h odd_byte
            (text_parts (sent_row s) (line_packet s) low high (sent-parts s sent).4)),
        rw (column-of (line_packet s) ps c h, column-of (line_packet r) pr c h)
            (each-pair (line_packet s) (line_packet r) 3 columns (columns-fit (line_packet s) ps) (columns-fit (line_packet r) pr) c h none_or_odd
            (text_damage d (sent_row s) (line_packet s) (line_packet r) low high (damage-parts d s r damaged).4)),
      )

  -- in row 0 those from column 8 on
  pub header-carries : sent_row s ≡ 0 → (c : ℕ) → header_column ≤ c → c < columns → Carries c
  header-carries e c low h =
      let ps = sent-packet s sent in
      let pr = received-packet d s r damaged in
      let k : ℕ = c - header_column in
      let below : k < columns - header_column = omega arith in
      let place : (2 + header_column) + k ≡ 2 + c = omega arith in
      let fits : (p : List ℕ) → length p ≡ packet_length → (2 + header_column) + (columns - header_column) ≤ length p = λ p e. omega arith in (
        rw (column-of (line_packet s) ps c h)
            (rw place at
            (each-byte (line_packet s) (line_packet r) (3 + header_column) (columns - header_column) (fits (line_packet s) ps) (fits (line_packet r) pr) k below odd_byte
            (header_parts (sent_row s) (line_packet s) e (sent-parts s sent).4).1)),
        rw (column-of (line_packet s) ps c h, column-of (line_packet r) pr c h)
            (rw place at
            (each-pair (line_packet s) (line_packet r) (3 + header_column) (columns - header_column) (fits (line_packet s) ps) (fits (line_packet r) pr) k below none_or_odd
            (header_damage d (sent_row s) (line_packet s) (line_packet r) e (damage-parts d s r damaged).4).1)),
      )

  -- such a column is read as it was sent, or refused
  pub column-two : (c : ℕ) → c < columns → Carries c → AsSent (get_or (sent_text s) c 0) (character (get_or (column_bytes (line_packet r)) c 0))
  column-two c h carries =
      let ps = sent-packet s sent in
      let pr = received-packet d s r damaged in
      rw (sent-column c h)
      (character_two _ _ (rw (column-of (line_packet s) ps c h) (turned_small _)) (rw (column-of (line_packet r) pr c h) (turned_small _)) carries.0 carries.1)

  -- and as it was sent where no bit of it is wrong
  pub column-kept : (c : ℕ) → c < columns → Carries c → get_or (column_bytes (line_packet r)) c 0 ≡ get_or (column_bytes (line_packet s)) c 0
      → character (get_or (column_bytes (line_packet r)) c 0) ≡ some (get_or (sent_text s) c 0)
  unfolding odd_byte
  column-kept c h carries e =
      rw (sent-column c h, e) (character_odd (get_or (column_bytes (line_packet s)) c 0) carries.0)
