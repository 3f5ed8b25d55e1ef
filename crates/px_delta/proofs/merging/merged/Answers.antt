use Rattle.std.proofs.Common.{◌∙◌, ◌++◌, ap}
use Rattle.px_delta.proofs.Joined.{merged}
use Rattle.px_delta.proofs.merging.merged.Goals as goal

pub returns : goal.returns
returns c = λ rising. c.of.ensures.same ∙ merged c.ascending.result.items _ c.args.added.now _ (c.in_ok-extend_from_slice.ensures.items ∙ ap (λ ns. ns ++ c.args.added.now) c.in_ok-all.ensures) c.ascending.ensures.rises c.ascending.ensures.same rising
