use Rattle.std.proofs.Common.{ap, ◌∙◌, subst, sym}
use Rattle.px_xpath.specs.Faults.{IsText, words}
use Rattle.px_xpath.specs.Filters.{Way}
use Rattle.px_xpath.specs.Machine.{Whole, BehindLast}
use Rattle.px_xpath.specs.TokenViews.{all_placed}
use Rattle.px_xpath.specs.Views.{way}
use Rattle.px_xpath.proofs.Exact.{written, refused}
use Rattle.px_xpath.proofs.Propers.{writes_proper}
use Rattle.px_xpath.proofs.parser.parse.Goals as goal

pub of-requires : goal.of-requires
of-requires c = record { proper = writes_proper (words (all_placed c.as_slice.result.now)) (way c.in-Ok.path) c.in-Ok.ensures.0 }

pub returns-in-Ok : goal.returns-in-Ok
returns-in-Ok c =
    let same = ap all_placed c.as_slice.ensures.value ∙ c.in_ok-tokens.ensures in
    let read = rw same at c.in-Ok.ensures in
    let P : Way → Type 0 = λ way. IsText c.args.text.now way in
    subst P (sym c.in_ok-of-in-Ok.ensures.same)
    (written c.args.text.now (way c.in-Ok.path) (BehindLast Whole) c.if-text-gt-MOST_BYTES.false read.0 read.1)

pub returns : goal.returns
returns c =
    let same = ap all_placed c.as_slice.ensures.value ∙ c.in_ok-tokens.ensures in
    let stops = rw same at c.in-Err.ensures in
    rw c.refusal.ensures (refused c.args.text.now c.in-Err.stop c.if-text-gt-MOST_BYTES.false stops)
