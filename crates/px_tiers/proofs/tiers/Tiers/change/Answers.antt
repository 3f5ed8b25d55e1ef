-- The id waits.
use Rattle.std.proofs.Common.{refl}
use Rattle.px_tiers.proofs.Settling.{changed_stand}
use Rattle.px_tiers.proofs.tiers.Tiers.change.Goals as goal

pub returns : goal.returns
returns c =
    let old = c.args.self.now in
    let new = record old { homes = c.set.new.self; waiting = c.push.new.self } in
    record { changed = changed_stand old new c.args.id refl c.in_ok-set.ensures.ok c.in_ok-push.ensures.items }
