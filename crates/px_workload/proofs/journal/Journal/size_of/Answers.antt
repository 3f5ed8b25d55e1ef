use Rattle.std.proofs.Common.{◌≡◌, ◌+◌, ◌∙◌, ap, sym, subst, arith, List}
use Rattle.px_xpath.specs.Histories.{Subscription, Replaces, after, is_of, IsLive, live, live_size, size}
use Rattle.px_xpath.specs.Whole as whole
use Rattle.std.specs.List.{find}
use Rattle.px_workload.specs.Accepted.{Accepted}
use Rattle.px_workload.specs.Changes.{history}
use Rattle.px_workload.proofs.Listing.{replaced-size}
use Rattle.px_workload.proofs.journal.Journal.size_of.Goals as goal

pub returns-clause-size : goal.returns-clause-size
returns-clause-size c =
    let lists = c.self.invariant.lists ∙ ap (λ (a : Accepted). live (history a.changes)) c.self.view_is in
    let e = sym (c.in-Some.ensures.found ∙ ap (find (is_of c.args.id)) lists) in
    rw e (omega (arith, c.size.ensures, c.in-Some.ensures.small))

pub returns-clause-others : goal.returns-clause-others
returns-clause-others c new =
    let lists = c.self.invariant.lists ∙ ap (λ (a : Accepted). live (history a.changes)) c.self.view_is in
    let P : List Subscription → Type 0 = IsLive c.args.id in
    let is_live = subst P (sym lists) c.requires.live in
    let sizes = replaced-size c.self.inside.table.slots.items c.args.id new c.in-Some.filter.now is_live (sym c.in-Some.ensures.found) in
    let Q : List Subscription → Type 0 =
    λ l. live_size (after 0 l (Replaces 0 c.args.id (whole.filter new))) + size (whole.filter c.in-Some.filter.now) ≡ live_size l + size (whole.filter new) in
    let same = subst Q lists sizes in omega (arith, same, c.size.ensures, c.in-Some.ensures.small)
