use Rattle.std.proofs.Common.{◌≡◌, ◌∙◌, List, ℕ, length, take, ap, subst, arith}
use Rattle.px_session.specs.Sessions.{Follows, joined}
use Rattle.px_hub.proofs.Adding.{take_whole}
use Rattle.px_session.proofs.Joining.{joined_one}
use Rattle.px_session.proofs.Staged.{followed}
use Rattle.px_session.proofs.pieces.feed_all.Goals as goal

pub loop-piece-preserved : goal.loop-piece-preserved
loop-piece-preserved g c = λ v follows.
    let front : List ℕ = joined (take c.loop-piece.piece-index c.args.pieces.now) in
    subst (λ (l : List ℕ). Follows g.N.HubName.table v c.feed.new.self l) (joined_one c.args.pieces.now c.loop-piece.piece-index c.piece-item.result c.as_slice.result.now c.loop-piece-test.true c.piece-item.is c.as_slice.ensures.same)
    (followed g.N.HubName.table v c.loop-piece.session c.feed.new.self front c.as_slice.result.now c.feed.result c.feed.ensures.ok c.feed.ensures.fault (λ fault stop. c.feed.ensures.stays v front fault stop) (c.loop-piece.invariant v follows))

pub returns : goal.returns
returns g c = λ v follows.
    let pieces : List (List ℕ) = c.args.pieces.now in
    let at = c.loop-piece.piece-index in
    let end = c.loop-piece.auto.piece-index-end in
    let last : at ≡ length pieces = omega (arith, c.loop-piece-test.false) in
    subst (λ (l : List ℕ). Follows g.N.HubName.table v c.loop-piece.session l) (ap (λ (n : ℕ). joined (take n pieces)) last ∙ ap joined (take_whole pieces)) (c.loop-piece.invariant v follows)
