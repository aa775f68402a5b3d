-- `sending::send_page` meets its contract: by the reader's answer, the page or a refusal.
use mathlib.Core.Path.{ap, ◌∙◌}
use Rattle.std.specs.Prelude.{Ok, Err}
use Rattle.std.proofs.lemmas.Result.{err_from_is_err_and}
use Rattle.page.specs.Reading.{page_given}
use Rattle.page.specs.declared.Page.{Page}
use Rattle.page.proofs.Papers.{read_is}
use Rattle.sending.specs.Sending.{sent_paper}
use Rattle.sending.proofs.Whole.{page_sent, refused_given}
use Rattle.sending.proofs.send_page.Goals as goal

pub returns-in_err-read_record : goal.returns-in_err-read_record
returns-in_err-read_record c =
    let error = c.in_err-read_record.field-0.0 in
    let e = read_is {A = Page} (Err error) _ c.in_err-read_record.ensures.answer in
    let both = refused_given c.args.«record».now c.args.wanted c.args.room.now error e in
    let handed = err_from_is_err_and _ c.from_residual.ensures.1 in
    record { result_value = ap sent_paper (handed.1 ∙ ap Err handed.2) ∙ both.0; room_after = both.1 }

pub returns : goal.returns
unfolding page_given
returns c =
    let read = c.in_ok-read_record in
    let e = read_is (Ok read.field-0) _ read.ensures.answer in
    let both = page_sent c.args.«record».now c.args.wanted c.args.room.now e read.field-0 read.ensures.beside _ _ c.send_whole.ensures.value c.send_whole.ensures.room_after in
    record { result_value = both.0; room_after = both.1 }
