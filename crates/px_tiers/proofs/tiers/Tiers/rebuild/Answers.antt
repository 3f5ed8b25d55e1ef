-- The new tier is that of all that is gathered.
use Rattle.std.proofs.Common.{ap, ◌∙◌, ◌+◌, ◌++◌, ◌∷◌, [], refl}
use Rattle.px_workload.specs.Changes.{history}
use Rattle.px_xpath.specs.Histories.{live}
use Rattle.px_xpath.specs.Subscribed.{subscriptions}
use Rattle.px_tiers.specs.HomeTables.{home_of}
use Rattle.px_tiers.specs.Parts.{among, moved}
use Rattle.px_tiers.proofs.Settling.{among_live, are_gathered, behind_taken, rebuilt}
use Rattle.px_tiers.proofs.tiers.Tiers.rebuild.Goals as goal

pub build-requires : goal.build-requires
build-requires c =
    let h = history c.args.journal.now.changes in
    let legal = c.version-version.ensures.legal in
    let laws = c.live_filters_are_in_order.ensures in
    let part_is = ap subscriptions c.deref-3.ensures.value ∙ c.in_ok-filters.ensures.filters in
    record { live = among_live (live h) c.deref-2.result.now c.deref-3.result.now part_is (laws.rising h legal) (laws.small h legal) }

pub returns : goal.returns
returns c =
    let h = history c.args.journal.now.changes in
    let old = c.args.self.now in
    let ids = c.ascending-ids.result.items in
    let new = record old { homes = c.set_all.new.self; tiers = c.push.new.self; waiting = c.clear.new.self } in
    let taken = behind_taken (home_of old.homes) c.args.kept c.gather.new.gathered.items old.tiers.items c.deref.result.now c.deref.ensures.value c.in_ok-gather.ensures.new in
    let all = are_gathered old (live h) c.requires.stand c.args.kept c.args.fresh.items c.gather.new.gathered.items ids c.requires.fresh c.in_ok-gather.ensures.old taken c.ascending-ids.ensures.same c.requires.within in
    let part_is = ap subscriptions c.deref-3.ensures.value ∙ c.in_ok-filters.ensures.filters ∙ ap (λ some. among some (live h)) c.deref-2.ensures.value in
    record {
      settled = rebuilt old new (live h) c.requires.stand c.args.kept (c.args.kept + 1) ids c.in_ok-tier.tier (subscriptions c.deref-3.result.now) c.requires.within refl all c.in_ok-tier.ensures.tier (c.in_ok-tier.ensures.bound ∙ c.share_of.ensures.share) part_is
          (λ q. c.in_ok-set_all.ensures.ok q ∙ ap (λ some. moved some (c.args.kept + 1) (home_of old.homes) q) c.deref-4.ensures.value)
          (c.in_ok-push.ensures.items ∙ ap (λ tiers. tiers ++ c.in_ok-tier.tier ∷ []) c.truncate.ensures.items) c.clear.ensures.items;
    }
