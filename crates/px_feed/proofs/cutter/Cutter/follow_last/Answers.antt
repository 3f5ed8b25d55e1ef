-- The last line does what it does outside documents.
use Rattle.std.proofs.Common.{◌++◌, ◌∷◌, [], Ok, sym, subst, append-nil}
use Rattle.px_reader.specs.Lines.{lines_of}
use Rattle.px_reader.proofs.LineCuts.{open_line}
use Rattle.px_feed.specs.Cutting.{EndsBy, MayCome}
use Rattle.px_feed.specs.Effects.{DoesFit}
use Rattle.px_feed.proofs.Cuttings.{skip_leads, bring_leads, begins_here}
use Rattle.px_feed.proofs.Leading.{ended}
use Rattle.px_feed.proofs.cutter.Cutter.follow_last.Goals as goal

pub returns-in-Nothing : goal.returns-in-Nothing
returns-in-Nothing c = λ before given s no_feed some does may.
    let line = c.args.line.now in
    ended (before ++ line ∷ []) given (skip_leads before line given s.leads may.1 (subst (λ effect. DoesFit (Ok effect) line) c.in-Nothing.is does))

pub returns-in-Gives : goal.returns-in-Gives
returns-in-Gives c = λ before given s no_feed some does may.
    let line = c.args.line.now in
    let (brought, is, leads) = bring_leads before line given c.in-Gives.item s.leads may.1 (subst (λ effect. DoesFit (Ok effect) line) c.in-Gives.is does) in
    (brought, is, ended (before ++ line ∷ []) (given ++ brought ∷ []) leads)

pub returns-in-Begins : goal.returns-in-Begins
returns-in-Begins c = λ before given s no_feed some does may.
    let line = c.args.line.now in
    let here = begins_here before line may.1 (subst (λ effect. DoesFit (Ok effect) line) c.in-Begins.is does) in
    let same = append-nil before in
    let answer = c.end_document.ensures before [] given s no_feed (λ e. (some, here)) (subst (λ ls. MayCome c.args.self.now ls line) (sym same) may) in
    subst (λ ls. EndsBy c.end_document.result (before ++ ls) given) (open_line line no_feed some)
    (subst (λ ls. EndsBy c.end_document.result (ls ++ lines_of line) given) same answer)
