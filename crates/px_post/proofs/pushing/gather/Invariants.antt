use Rattle.std.proofs.Common.{◌≡◌, ◌++◌, drop}
use Rattle.px_post.specs.Sending.{routed, to_go}
use Rattle.px_post.proofs.pushing.gather.Given as goal

abbrev pub invariant-loop-id : goal.invariant-loop-id
invariant-loop-id l = l.left.items ++ to_go (routed l.routes.entries) (drop l.id-index l.ids) ≡ to_go (routed l.routes.entries) l.ids
