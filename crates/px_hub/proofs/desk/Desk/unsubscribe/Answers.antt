use Rattle.std.proofs.Common.{◌≡◌, ◌++◌, ◌∷◌, [], ℕ, ◌∙◌, subst}
use Rattle.px_workload.specs.declared.change.Change.TheVariants.{Drop}
use Rattle.px_workload.proofs.Legal.{drop-is-legal}
use Rattle.px_hub.specs.Calls.{Accepted, seen_of}
use Rattle.px_hub.proofs.Adding.{dropped}
use Rattle.px_hub.proofs.desk.Desk.unsubscribe.Goals as goal

pub accept-requires-clause-legal : goal.accept-requires-clause-legal
accept-requires-clause-legal g c =
    drop-is-legal c.args.self.now.past.seen c.number-who.result c.args.id c.is_full.ensures.legal (c.is_live.ensures.0 c.if-not-is_live.false) (c.is_full.ensures.room c.if-is_full.false)

pub returns : goal.returns
returns g c =
    let v = c.args.pass.now in
    let w = c.accept.new.pass in
    let seen = c.args.self.now.past.seen in
    let d = c.in_ok-version.ensures.desk in
    let accepted = subst (λ (who : ℕ). Accepted (Drop who c.args.id) c.in_ok-version.version v w) c.number-who.ensures.number c.in_ok-version.ensures.accepted in
    let is_seen = subst (λ (who : ℕ). seen_of w ≡ seen ++ Drop who c.args.id ∷ []) c.number-who.ensures.number (d.1 ∙ d.0) in
    dropped c.in_ok-version.version v w seen c.args.id accepted is_seen (c.is_live.ensures.0 c.if-not-is_live.false) (c.is_full.ensures.room c.if-is_full.false)
