use Rattle.std.proofs.Common.{◌≡◌, ◌≤◌, ◌+◌, ◌++◌, ◌∷◌, [], ℕ, ◌∙◌, subst}
use Rattle.px_xpath.specs.Whole as whole
use Rattle.px_xpath.specs.Histories.{size}
use Rattle.px_workload.specs.declared.change.Change.TheVariants.{Add}
use Rattle.px_workload.proofs.Legal.{add-is-legal}
use Rattle.px_hub.specs.Calls.{Accepted, seen_of}
use Rattle.px_hub.proofs.Adding.{added}
use Rattle.px_hub.proofs.desk.Desk.subscribe.Goals as goal

pub accept-requires-clause-legal : goal.accept-requires-clause-legal
accept-requires-clause-legal g c =
    let fits = subst (λ (n : ℕ). n + size (whole.filter c.args.filter) ≤ 500_000) c.live_size-live.ensures (c.is_too_large.ensures.small c.if-is_too_large.false) in
    add-is-legal c.args.self.now.past.seen c.number-who.result c.args.filter c.is_full.ensures.legal fits (c.is_full.ensures.room c.if-is_full.false)

pub returns : goal.returns
returns g c =
    let v = c.args.pass.now in
    let w = c.accept.new.pass in
    let seen = c.args.self.now.past.seen in
    let d = c.in_ok-id.ensures.desk in
    let fits = subst (λ (n : ℕ). n + size (whole.filter c.args.filter) ≤ 500_000) c.live_size-live.ensures (c.is_too_large.ensures.small c.if-is_too_large.false) in
    let accepted = subst (λ (who : ℕ). Accepted (Add who c.args.filter) c.in_ok-id.id v w) c.number-who.ensures.number c.in_ok-id.ensures.accepted in
    let is_seen = subst (λ (who : ℕ). seen_of w ≡ seen ++ Add who c.args.filter ∷ []) c.number-who.ensures.number (d.1 ∙ d.0) in
    added c.in_ok-id.id v w seen c.args.filter accepted is_seen fits (c.is_full.ensures.room c.if-is_full.false)
