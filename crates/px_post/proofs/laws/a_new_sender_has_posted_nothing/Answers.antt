use Rattle.std.proofs.Common.{List, ◌++◌, length, ap, ◌∙◌}
use Rattle.px_post.specs.declared.letter.Letter.{Letter}
use Rattle.px_post.specs.declared.waiting.Waiting.{Waiting}
use Rattle.px_post.specs.Sending.{left_for}
use Rattle.px_post.proofs.laws.a_new_sender_has_posted_nothing.Goals as goal

pub returns : goal.returns
returns c s documents left none = record {
  documents = documents;
  letters = λ b w at.
      ap (λ (put : List Letter). put ++ left_for s.feeder b s.documents (length put) s.left) (none b w at)
      ∙ ap (λ (l : List Waiting). left_for s.feeder b s.documents 0 l) left;
}
