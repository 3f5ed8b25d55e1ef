-- What is at home behind is wanted.
use Rattle.std.proofs.Common.{ℕ, ◌<◌, refl, sym, subst}
use Rattle.px_tiers.specs.HomeTables.{home_of}
use Rattle.px_tiers.proofs.Collecting.{wanted_more, more_has}
use Rattle.px_tiers.proofs.gathering.gather_one.Goals as goal

pub loop-id-preserved : goal.loop-id-preserved
loop-id-preserved c = record {
  old = λ q h. more_has c.loop-id.gathered.items _ c.push_if.new.ids.items q c.in_ok-push_if.ensures.pushed (c.loop-id.invariant.old q h);
  new = λ q h behind.
      let P : ℕ → Type 0 = λ m. c.args.kept < home_of c.args.homes.now m in
      wanted_more c.args.ids.now c.loop-id.gathered.items c.push_if.new.ids.items c.loop-id.id-index _ q c.is_behind.result c.loop-id-test.true refl c.in_ok-push_if.ensures.pushed
      (λ e. c.is_behind.ensures.behind.1 (subst P (sym e) behind)) (λ before. c.loop-id.invariant.new q before behind) h;
}
