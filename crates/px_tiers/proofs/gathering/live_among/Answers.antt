-- A live one is wanted.
use Rattle.std.proofs.Common.{ℕ, refl, sym, subst}
use Rattle.px_workload.specs.Changes.{history}
use Rattle.px_xpath.specs.Histories.{IsLive, live}
use Rattle.px_tiers.proofs.Collecting.{wanted_more}
use Rattle.px_tiers.proofs.gathering.live_among.Goals as goal

pub loop-id-preserved : goal.loop-id-preserved
loop-id-preserved c = record {
  all = λ q h is.
      let P : ℕ → Type 0 = λ m. IsLive m (live (history c.args.journal.now.changes)) in
      wanted_more c.args.ids.now c.loop-id.found.items c.push_if.new.ids.items c.loop-id.id-index _ q c.is_live.result c.loop-id-test.true refl c.in_ok-push_if.ensures.pushed
      (λ e. c.is_live.ensures.1 (subst P (sym e) is)) (λ before. c.loop-id.invariant.all q before is) h;
}
