-- The document waits.
use Rattle.std.proofs.Common.{refl}
use Rattle.px_gather.proofs.Taking.{kept}
use Rattle.px_gather.proofs.gathering.Gathering.keep.Goals as goal

pub returns : goal.returns
returns c =
    let old = c.args.self.now in
    kept c.args.document old (record old { documents = c.push.new.self; size = c.saturating_add-self.result }) c.in_ok-push.ensures.items refl refl
