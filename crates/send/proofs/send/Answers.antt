-- `send::send` meets its contract: by the writer's answer, the lines and the closing line, or one line to standard error.
use mathlib.Core.Path.{sym, ◌∙◌, ap}
use Prim.Native.Nat.{ℕ, ◌*◌, ◌≤◌}
use native.Mathlib.Omega.{arith}
use mathlib.Core.List.{List}
use borrow.Author.Rules.{rules}
use lib.ListN.{length, length-replicate, length-take, take}
use lib.Seq.{length-take-le}
use Rattle.laws.specs.Text.{refused_text}
use Rattle.grid.specs.Grid.{rows}
use Rattle.packet.specs.Lines.{line_length}
use Rattle.page.specs.Reading.{page_given}
use Rattle.sending.specs.Sending.{sent_paper}
use Rattle.send.specs.Written.{room}
use Rattle.send.proofs.Parts.{lines_fit, output-is, read_again, refusal_is}
use Rattle.send.proofs.send.Goals as goal
use Rattle.send.proofs.send.Goals.{In-Ok}
use Rattle.send.proofs.send.Given.{Over}

-- the lines that were counted have room
fit : (g : Over) (c : In-Ok g) → c.in-Ok.count * line_length ≤ rows * line_length
fit g c = lines_fit c.args.«record».now c.args.wanted c.in-Ok.count (ap sent_paper (sym c.in-Ok.is) ∙ c.send_page.ensures.result_value)

-- no more than the room of every transmission
fits_room : (n : ℕ) (bytes : List ℕ) → n ≤ rows * line_length → length (take n bytes) ≤ length room
fits_room n bytes h = omega (arith, length-take n bytes, h, length-replicate {A = ℕ} (rows * line_length) 0)

pub unwrap-requires : goal.unwrap-requires
unwrap-requires g c =
    read_again c.args.«record».now c.args.wanted c.in-Ok.count (ap sent_paper (sym c.in-Ok.is) ∙ c.send_page.ensures.result_value) c.read_record.result c.read_record.ensures.answer

pub overflow_mul-room : goal.overflow_mul-room
overflow_mul-room g c = omega (arith, fit g (goal.at.overflow_mul-room g c).In-Ok)

pub slice_bounds-room-end : goal.slice_bounds-room-end
slice_bounds-room-end g c = omega (arith, fit g (goal.at.slice_bounds-room-end g c).In-Ok)

pub slice_bounds-print-end : goal.slice_bounds-print-end
slice_bounds-print-end g c = sym (length-take-le _ _ (omega (arith, fit g (goal.at.slice_bounds-print-end g c).In-Ok)))

pub print-requires : goal.print-requires
unfolding page_given
print-requires g c = (
  output-is c.args.«record».now c.args.wanted c.in-Ok.count (ap sent_paper (sym c.in-Ok.is) ∙ c.send_page.ensures.result_value) (search rules) _ c.send_page.ensures.room_after
      c.unwrap.result (ap page_given (sym c.unwrap.ensures) ∙ c.read_record.ensures.beside) c.closing_line-closing.result c.closing_line-closing.ensures,
  fits_room (c.in-Ok.count * line_length) c.send_page.new.room (fit g (goal.at.print-requires g c).In-Ok),
  search rules,
)

pub refuse-requires : goal.refuse-requires
refuse-requires g c =
    let refusal = refusal_is c.args.«record».now c.args.wanted c.in-Err.error (ap sent_paper (sym c.in-Err.is) ∙ c.send_page.ensures.result_value) in
    (c.refused_text.ensures ∙ (ap refused_text c.number.ensures ∙ refusal.0), refusal.1)
