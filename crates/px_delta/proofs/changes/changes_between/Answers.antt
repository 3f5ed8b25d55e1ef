-- Each list is that of what is live for its pass.
use Rattle.std.proofs.Common.{◌≤◌, List, map, sym, ap, ◌∙◌, subst}
use Rattle.px_text.specs.Sets.{Rising}
use Rattle.px_xpath.specs.Histories.{Subscription, live_size}
use Rattle.px_xpath.specs.Subscribed.{subscriptions}
use Rattle.px_delta.proofs.Fronts.{apart_told, are_live}
use Rattle.px_delta.proofs.changes.changes_between.Goals as goal

pub returns : goal.returns
returns g c =
    let old = c.as_slice-old.result.now in
    let new = c.as_slice-new.result.now in
    let e = ap subscriptions c.as_slice-old.ensures.same ∙ c.live.ensures in
    let f = ap subscriptions c.as_slice-new.ensures.same ∙ c.live-2.ensures in
    let small = c.live_filters_are_in_order.ensures.small _ c.version-version.ensures.legal in
    let P : List Subscription → Type 0 = λ xs. Rising (map (λ s. s.id) xs) in
    let Q : List Subscription → Type 0 = λ xs. live_size xs ≤ 500_000 in
    record {
      base_order = subst P c.live.ensures c.as_slice-old.ensures.order;
      front_order = subst P c.live-2.ensures c.as_slice-new.ensures.order;
      dropped = apart_told c.in_ok-changed.field-0.items old new _ _ e f c.in_ok-changed.ensures.pairs;
      added = apart_told c.in_ok-changed-2.field-0.items new old _ _ f e c.in_ok-changed-2.ensures.pairs;
      dropped_order = c.in_ok-changed.ensures.order;
      added_order = c.in_ok-changed-2.ensures.order;
      live = are_live c.in_ok-changed-2.field-0.items new old c.in_ok-changed-2.ensures.pairs c.in_ok-changed-2.ensures.order (subst Q (sym f) small);
    }
