use Rattle.std.proofs.Common.{◌∷◌, ◌++◌, [], subst, sym}
use Rattle.px_text.specs.Sets.{Rising}
use Rattle.px_xpath.specs.Histories.{Drops, Replaces}
use Rattle.px_xpath.specs.Subscribed.{subscriptions}
use Rattle.px_xpath.specs.Whole as whole
use Rattle.px_workload.specs.Listed.{Listed}
use Rattle.px_workload.proofs.Following.{ids, taken-rises}
use Rattle.px_workload.proofs.live.Live.take.Goals as goal

pub invariant_of-self-in-Drop : goal.invariant_of-self-in-Drop
invariant_of-self-in-Drop c =
    let P : Listed → Type 0 = λ l. Rising (ids (subscriptions l.filters) ++ c.args.version ∷ []) in
    taken-rises c.args.version c.self.inside.filters.items c.remove.new.filters.items (Drops 0 c.in-Drop.id) (subst P (sym c.self.view_is) c.requires.next) c.remove.ensures.kept

pub invariant_of-self-in-Replace : goal.invariant_of-self-in-Replace
invariant_of-self-in-Replace c =
    let P : Listed → Type 0 = λ l. Rising (ids (subscriptions l.filters) ++ c.args.version ∷ []) in
    taken-rises c.args.version c.self.inside.filters.items c.replace.new.filters.items (Replaces 0 c.in-Replace.id (whole.filter c.in-Replace.filter))
    (subst P (sym c.self.view_is) c.requires.next) c.replace.ensures.kept
