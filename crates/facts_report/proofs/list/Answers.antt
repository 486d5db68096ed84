-- `facts_report::list` meets its contract. Assumes nothing.
use mathlib.Core.Path.{ap, ◌∙◌}
use mathlib.Core.Option.{Option}
use native.Mathlib.Omega.{arith}
use borrow.Author.Tests.{le-leb, lt-leb}
use Rattle.model.specs.declared.Question.{Question}
use Rattle.model.specs.Listing.{asked}
use Rattle.sheet_questions.specs.Check.{sized}
use Rattle.sheet_questions.proofs.FirstRefusal.{accepted, accepted_sheet, refused}
use Rattle.facts_report.proofs.ListingQuestions.{shown_as, listing_long, listing_asked, asked_refused}
use Rattle.facts_report.proofs.list.Goals as goal

pub returns-then-bytes-gt-MOST_BYTES : goal.returns-then-bytes-gt-MOST_BYTES
returns-then-bytes-gt-MOST_BYTES c =
    let a = c.args in
    let w = shown_as (listing_long a.bytes.now (lt-leb _ 65536 c.if-bytes-gt-MOST_BYTES.true)) c.too_large.ensures in
    (w.within, w.front, w.rest)

pub list_accepted-requires : goal.list_accepted-requires
list_accepted-requires c = (accepted_sheet _ _ c.in-Ok.ensures.answer c.in-Ok.ensures.bytes, omega arith)

pub returns-in-Err : goal.returns-in-Err
unfolding sized
returns-in-Err c =
    let a = c.args in
    let e = refused a.bytes.now c.in-Err.ensures.answer in
    let w = shown_as (listing_asked a.bytes.now (le-leb _ 65536 c.if-bytes-gt-MOST_BYTES.false) ∙ asked_refused a.bytes.now _ e) c.refused.ensures in
    (w.within, w.front, w.rest)

pub returns-in-Ok : goal.returns-in-Ok
unfolding sized
returns-in-Ok c =
    let a = c.args in
    let k = accepted a.bytes.now c.in-Ok.ensures.answer in
    let w = shown_as (listing_asked a.bytes.now (le-leb _ 65536 c.if-bytes-gt-MOST_BYTES.false) ∙ ap (λ (o : Option Question). asked o a.bytes.now) k.accepted) (rw (← c.in-Ok.ensures.bytes) c.list_accepted.ensures) in
    (w.within, w.front, w.rest)
