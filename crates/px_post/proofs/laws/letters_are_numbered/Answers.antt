use Rattle.px_post.proofs.Folding.{numbered}
use Rattle.px_post.proofs.laws.letters_are_numbered.Goals as goal

pub returns : goal.returns
returns c f b ds = numbered f b ds
