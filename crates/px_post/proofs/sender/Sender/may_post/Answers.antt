use Rattle.std.proofs.Common.{◌≡◌, ◌∙◌, ◌<◌, ◌↔◌, ℕ, List, true, length, ap, subst, arith}
use Rattle.std.specs.Prelude.{◌^◌, Some, slice_get}
use Rattle.px_post.specs.Mail.{Way}
use Rattle.px_post.specs.Sending.{Sending}
use Rattle.px_post.proofs.Posting.{may_post_where, no_letter}
use Rattle.px_post.proofs.sender.Sender.may_post.Goals as goal

pub returns : goal.returns
returns c =
    may_post_where c.args.self.now c.have_room.result
    (no_letter c.args.self.now.left c.left.result c.left.ensures (let h = c.if-left-gt0.false in omega arith))
    (let e = ap (λ (s : Sending). s.documents) c.self.view_is in let h = c.if-self-ge-LIMIT.false in omega arith)
    (subst (λ (l : List Way). (c.have_room.result ≡ true) ↔ ((b : ℕ) (w : Way) → slice_get l b ≡ Some w → length w.put < 2 ^ 62)) (c.as_slice.ensures.value ∙ ap (λ (s : Sending). s.ways) c.self.view_is) c.have_room.ensures)
