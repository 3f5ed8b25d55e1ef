use Rattle.std.proofs.Common.{ap}
use Rattle.px_post.specs.Sending.{Sending}
use Rattle.px_post.proofs.Posting.{slips_are}
use Rattle.px_post.proofs.sender.Sender.end.Goals as goal

pub returns : goal.returns
returns c = slips_are c.args.self c.self.inside.slips.items (ap (λ (s : Sending). s.ways) c.self.view_is) c.requires.none
