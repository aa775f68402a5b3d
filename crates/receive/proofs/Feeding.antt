-- What is promised of a room that has room for all lines.
use mathlib.Core.Path.{◌≡◌, refl, sym, ◌∙◌, ap, subst}
use mathlib.Core.List.{List, []}
use Prim.Native.Nat.{ℕ, ◌-◌, ◌*◌, ◌/◌, ◌%◌, ◌≤◌, ◌<◌}
use native.Mathlib.Omega.{arith}
use lib.ListN.{length, take, drop, length-append}
use lib.Seq.{length-take-le, take_all, take_at, take-take}
use Rattle.packet.specs.Lines.{line_length}
use Rattle.announcing.specs.Said.{Saying, SaysAs, fitting, longest, said}
use Rattle.announcing.specs.declared.Announced.{Announced}
use Rattle.announcing.proofs.Walking.{drop_take}
use Rattle.receive.specs.Feeding.{Comes, Feeds, Turned, chunk_size, fed_from, last_part, lines_at_once, whole_lines}
use Rattle.receive.specs.declared.State.{State}
use Rattle.receive.specs.declared.Turn.{Turn}

all_fit : (room lines : List ℕ) → length room ≡ lines_at_once * longest → length lines ≤ chunk_size → fitting room lines ≡ lines
unfolding fitting
all_fit room lines size few =
    let enough : length room / longest * line_length ≡ chunk_size = ap (λ (n : ℕ). n / longest * line_length) size in
    take_all (length room / longest * line_length) lines (omega arith)

module _ {before : Saying} (lines : List ℕ) {found : Announced} {lent : List ℕ} (room : List ℕ) {after : List ℕ} (size : length room ≡ lines_at_once * longest)
    (few : length lines ≤ chunk_size) (says : SaysAs before (fitting room lines) found lent room after) where
  pub all_said : SaysAs before lines found lent room after
  all_said = subst (λ (l : List ℕ). SaysAs before l found lent room after) (all_fit room lines size few) says

  abbrev text : List ℕ
  text = (said before lines).text

  -- the text stands at the room's start
  pub text_first : take found.length after ≡ text
  text_first = ap (take found.length) all_said.written ∙ take_at text (drop (length text) room) found.length (sym all_said.counted)

  pub text-within : found.length ≤ length after
  text-within =
      let counted = all_said.counted in
      let both = ap length all_said.written ∙ length-append text (drop (length text) room) in
      omega arith

-- ---- the whole lines among some bytes

module _ (chunk : List ℕ) (full : ℕ) (fits : full ≤ length chunk) where
  abbrev bytes : List ℕ
  bytes = take full chunk

  whole-size : length bytes / line_length * line_length ≡ full - full % line_length
  whole-size = let size = length-take-le full chunk fits in ap (λ (n : ℕ). n / line_length * line_length) size ∙ (let e : full / line_length * line_length ≡ full - full % line_length = omega arith in e)

  whole_is : take (full - full % line_length) chunk ≡ whole_lines bytes
  unfolding whole_lines
  whole_is = sym (ap (λ (n : ℕ). take n bytes) whole-size ∙ take-take (full - full % line_length) full chunk (omega arith))

  part_is : take (full % line_length) (drop (full - full % line_length) chunk) ≡ last_part bytes
  unfolding last_part
  part_is =
      let rest : full - (full - full % line_length) ≡ full % line_length = omega arith in
      sym (ap (λ (n : ℕ). drop n bytes) whole-size ∙ (drop_take (full - full % line_length) full chunk ∙ ap (λ (n : ℕ). take n (drop (full - full % line_length) chunk)) rest))

  -- fed and carried over
  pub turned : (state after : State) (left : List ℕ) → Feeds (said (fed_from state) (take (full - full % line_length) chunk)) after
      → take (full % line_length) left ≡ take (full % line_length) (drop (full - full % line_length) chunk)
      → Turned state bytes (record { state = after; part = full % line_length }) left
  turned state after left feeds carries =
      record {
        fed = subst (λ (lines : List ℕ). Feeds (said (fed_from state) lines) after) whole_is feeds;
        carried = carries ∙ part_is;
      }

-- ---- what came behind a part

module _ (chunk : List ℕ) (part : ℕ) (fits : part ≤ length chunk) (after : List ℕ) (kept : take part after ≡ take part chunk) (state : State) where
  begins-with : (bytes : List ℕ) → take part bytes ≡ take part chunk → take (length (take part chunk)) bytes ≡ take part chunk
  begins-with bytes same = ap (λ (n : ℕ). take n bytes) (length-take-le part chunk fits) ∙ same

  pub some-came : (full : ℕ) → part ≤ full → (turn : Turn) (left : List ℕ) → Turned state (take full after) turn left → Comes state (take part chunk) turn left
  some-came full more turn left turned =
      record { bytes = take full after; begins = begins-with (take full after) (take-take part full after more ∙ kept); turned = turned }

  nothing-fed : Feeds (said (fed_from state) []) state
  unfolding said
  nothing-fed = record { kept = refl; watched = refl; left = refl }

  pub none_came : part < line_length → Comes state (take part chunk) (record { state = state; part = part }) after
  unfolding whole_lines last_part
  none_came small =
      let size = length-take-le part chunk fits in
      let none : length (take part chunk) / line_length * line_length ≡ 0 = omega arith in
      record {
        bytes = take part chunk;
        begins = begins-with (take part chunk) (take-take part part chunk (omega arith));
        turned =
            record {
              fed = subst (λ (n : ℕ). Feeds (said (fed_from state) (take n (take part chunk))) state) (sym none) nothing-fed;
              carried = kept ∙ sym (ap (λ (n : ℕ). drop n (take part chunk)) none);
            };
      }
