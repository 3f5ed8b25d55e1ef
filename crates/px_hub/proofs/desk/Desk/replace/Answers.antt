use Rattle.std.proofs.Common.{◌≡◌, ◌≤◌, ◌+◌, ◌++◌, ◌∷◌, [], ℕ, sym, ◌∙◌, subst}
use Rattle.px_xpath.specs.Whole as whole
use Rattle.px_xpath.specs.Histories.{size}
use Rattle.px_workload.specs.declared.change.Change.TheVariants.{Replace}
use Rattle.px_workload.proofs.Legal.{replace-is-legal}
use Rattle.px_hub.specs.Calls.{Accepted, seen_of}
use Rattle.px_hub.proofs.Adding.{put_in}
use Rattle.px_hub.proofs.desk.Desk.replace.Goals as goal

pub accept-requires-clause-legal : goal.accept-requires-clause-legal
accept-requires-clause-legal g c =
    let small = subst (λ (n : ℕ). n ≤ 500_000) (sym (c.size_beside-live.ensures.replaced c.args.filter)) (c.is_too_large.ensures.small c.if-is_too_large.false) in
    replace-is-legal c.args.self.now.past.seen c.number-who.result c.args.id c.args.filter c.is_full-is_full.ensures.legal (c.is_live.ensures.0 c.if-not-is_live.false) small (c.is_full-is_full.ensures.room c.if-is_full.false)

pub returns : goal.returns
returns g c =
    let v = c.args.pass.now in
    let w = c.accept.new.pass in
    let seen = c.args.self.now.past.seen in
    let d = c.in_ok-version.ensures.desk in
    let fits = subst (λ (n : ℕ). n + size (whole.filter c.args.filter) ≤ 500_000) c.size_beside-live.ensures.others (c.is_too_large.ensures.small c.if-is_too_large.false) in
    let accepted = subst (λ (who : ℕ). Accepted (Replace who c.args.id c.args.filter) c.in_ok-version.version v w) c.number-who.ensures.number c.in_ok-version.ensures.accepted in
    let is_seen = subst (λ (who : ℕ). seen_of w ≡ seen ++ Replace who c.args.id c.args.filter ∷ []) c.number-who.ensures.number (d.1 ∙ d.0) in
    put_in c.in_ok-version.version v w seen c.args.id c.args.filter accepted is_seen (c.is_live.ensures.0 c.if-not-is_live.false) fits (c.is_full-is_full.ensures.room c.if-is_full.false)
