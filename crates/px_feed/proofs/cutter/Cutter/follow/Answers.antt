-- The line does what it does outside documents.
use Rattle.std.proofs.Common.{◌++◌, ◌∷◌, [], Ok, sym, subst, append-nil}
use Rattle.px_feed.specs.Cutting.{CutTo, MayCome}
use Rattle.px_feed.specs.Effects.{DoesFit}
use Rattle.px_feed.proofs.Cuttings.{stands_skip, stands_bring, begins_here}
use Rattle.px_feed.proofs.cutter.Cutter.follow.Goals as goal

pub returns-in-Nothing-clause-cuts : goal.returns-in-Nothing-clause-cuts
returns-in-Nothing-clause-cuts c = λ before given s does may.
    stands_skip c.args.self.now.document before c.args.line.now given s may.1 (subst (λ effect. DoesFit (Ok effect) c.args.line.now) c.in-Nothing.is does)

pub returns-in-Gives-clause-cuts : goal.returns-in-Gives-clause-cuts
returns-in-Gives-clause-cuts c = λ before given s does may.
    stands_bring c.args.self.now.document before c.args.line.now given c.in-Gives.item s may.1 (subst (λ effect. DoesFit (Ok effect) c.args.line.now) c.in-Gives.is does)

pub returns-in-Begins-clause-cuts : goal.returns-in-Begins-clause-cuts
returns-in-Begins-clause-cuts c = λ before given s does may.
    let line = c.args.line.now in
    let here = begins_here before line may.1 (subst (λ effect. DoesFit (Ok effect) line) c.in-Begins.is does) in
    let same = append-nil before in
    subst (λ ls. CutTo c.go_on.result c.go_on.new.self (ls ++ line ∷ []) given) same
    (c.go_on.ensures.cuts before [] given s (λ e. here) (subst (λ ls. MayCome c.args.self.now ls line) (sym same) may))
