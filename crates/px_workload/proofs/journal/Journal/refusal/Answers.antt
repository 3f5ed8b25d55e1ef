-- What is not refused goes on legally.
use Rattle.std.proofs.Common.{[], ◌∷◌, ◌++◌, sym, ◌∙◌, ap, subst, arith}
use Rattle.std.proofs.lemmas.List.{length-map}
use Rattle.px_xpath.specs.Histories.{IsLegal}
use Rattle.px_xpath.specs.Whole as whole
use Rattle.px_workload.specs.declared.change.Change.{Change}
use Rattle.px_workload.specs.declared.change.Change.TheVariants.{Add, Drop, Replace}
use Rattle.px_workload.specs.Changes.{change, history}
use Rattle.px_workload.specs.Refusals.{refuses_beside}
use Rattle.px_workload.proofs.Legal.{replace-is-legal}
use Rattle.px_workload.proofs.Refusing.{add-may-come, drop-may-come}
use Rattle.px_workload.proofs.journal.Journal.refusal.Goals as goal

pub returns-in-Add-clause-legal : goal.returns-in-Add-clause-legal
returns-in-Add-clause-legal c = λ e.
    let P : Change → Type 0 = λ one. IsLegal (history (c.args.self.now.changes ++ one ∷ [])) in
    subst P (sym c.in-Add.is)
    (add-may-come c.args.self.now.changes c.in-Add.who c.in-Add.filter c.version-version.ensures.legal (sym (c.refuses_beside.ensures.refusal ∙ ap (λ n. refuses_beside (history c.args.self.now.changes) n (whole.filter c.in-Add.filter)) c.live_size.ensures) ∙ e))

pub returns-in-Drop-clause-legal : goal.returns-in-Drop-clause-legal
returns-in-Drop-clause-legal c = λ e.
    let P : Change → Type 0 = λ one. IsLegal (history (c.args.self.now.changes ++ one ∷ [])) in
    subst P (sym c.in-Drop.is) (drop-may-come c.args.self.now.changes c.in-Drop.who c.in-Drop.id c.version-version.ensures.legal (sym c.refuses_drop.ensures.refusal ∙ e))

pub returns-in-Replace-clause-legal : goal.returns-in-Replace-clause-legal
returns-in-Replace-clause-legal c = λ e.
    let P : Change → Type 0 = λ one. IsLegal (history (c.args.self.now.changes ++ one ∷ [])) in
    let fits = c.refuses_replacement.ensures.fits e in
    let long = length-map c.args.self.now.changes change in
    subst P (sym c.in-Replace.is)
    (replace-is-legal c.args.self.now.changes c.in-Replace.who c.in-Replace.id c.in-Replace.filter c.version-version.ensures.legal (c.refuses_replacement.ensures.live e) fits.0 (omega (arith, long, fits.1)))
