-- Tier by tier, each gives those that are at home in it.
use Rattle.std.proofs.Common.{◌<◌, ◌∙◌, List, [], drop, length, get_or, arith, subst, sym}
use Rattle.std.specs.Prelude.{All}
use Rattle.std.specs.List.{AllZip}
use Rattle.std.proofs.lemmas.List.{take_all}
use Rattle.std.proofs.lemmas.Slice.Zip.{AllZip-long}
use Rattle.px_xpath.specs.Meaning.{holds}
use Rattle.px_tiers.specs.declared.tier.Tier.{Tier}
use Rattle.px_tiers.specs.Bytes.{AreBounded, IsWithin}
use Rattle.px_tiers.specs.HomeTables.{home_of}
use Rattle.px_tiers.specs.Standings.{IsTier}
use Rattle.px_tiers.proofs.Remembering.{bounded_set, given_back, within_more}
use Rattle.px_tiers.proofs.Settling.{found_all, found_more, machine_at, machines_set}
use Rattle.px_tiers.proofs.tiers.found_by.Goals as goal

pub matches-requires-clause-stands : goal.matches-requires-clause-stands
matches-requires-clause-stands c =
    let parts = c.requires.stand.0 in
    let P : List Tier → Type 0 = λ tiers. AllZip IsTier tiers parts in
    let machines = c.loop-at.invariant.stand parts (subst P (sym c.deref_mut-tier-items.ensures.value) c.requires.stand.1) in
    let many = AllZip-long IsTier c.loop-at.tier-items parts machines in
    let within : c.loop-at.at < length parts = omega (arith, many, c.loop-at-test.true, c.loop-at.auto.tier-items) in
    (get_or parts c.loop-at.at [], machine_at c.loop-at.tier-items parts c.loop-at.at c.tier-item.result machines within)

pub loop-at-preserved : goal.loop-at-preserved
loop-at-preserved c = record {
  ids = λ parts root zip e q.
      let machines = c.loop-at.invariant.stand parts zip in
      let many = AllZip-long IsTier c.loop-at.tier-items parts machines in
      let within : c.loop-at.at < length parts = omega (arith, many, c.loop-at-test.true, c.loop-at.auto.tier-items) in
      let is = machine_at c.loop-at.tier-items parts c.loop-at.at c.tier-item.result machines within in
      found_more (home_of c.args.homes.now) (λ filter. holds filter root) c.loop-at.at parts c.loop-at.ids.items c.keep_at_home.new.kept.items c.as_slice.result.now q within
      (c.loop-at.invariant.ids parts root zip e q) (c.as_slice.ensures.same ∙ c.in_ok-accepted.ensures.ids (get_or parts c.loop-at.at []) root is e) (c.in_ok-keep_at_home.ensures.kept q);
  bounded = λ left b.
      bounded_set left c.loop-at.tier-items c.loop-at.at c.tier-item.result c.matches.new.self c.matches.ensures.bound (omega (arith, c.loop-at-test.true, c.loop-at.auto.tier-items))
      (c.loop-at.invariant.bounded left b);
  within = within_more c.loop-at.tier-items c.loop-at.at c.matches.new.self (omega (arith, c.loop-at-test.true, c.loop-at.auto.tier-items)) c.loop-at.invariant.within c.in_ok-accepted.ensures.within;
  stand = λ parts zip.
      let machines = c.loop-at.invariant.stand parts zip in
      let many = AllZip-long IsTier c.loop-at.tier-items parts machines in
      let within : c.loop-at.at < length parts = omega (arith, many, c.loop-at-test.true, c.loop-at.auto.tier-items) in
      let is = machine_at c.loop-at.tier-items parts c.loop-at.at c.tier-item.result machines within in
      machines_set c.loop-at.tier-items parts c.loop-at.at c.matches.new.self machines within (c.in_ok-accepted.ensures.stands (get_or parts c.loop-at.at []) is);
}

pub returns-clause-ids : goal.returns-clause-ids
returns-clause-ids c = λ parts root zip e q.
    let P : List Tier → Type 0 = λ tiers. AllZip IsTier tiers parts in
    let first = subst P (sym c.deref_mut-tier-items.ensures.value) zip in
    let many = AllZip-long IsTier c.loop-at.tier-items parts (c.loop-at.invariant.stand parts first) in
    found_all (home_of c.args.homes.now) (λ filter. holds filter root) c.loop-at.at parts c.loop-at.ids.items q (omega (arith, many, c.loop-at-test.false, c.loop-at.auto.tier-items)) (c.loop-at.invariant.ids parts root first e q)

pub returns-clause-bounded : goal.returns-clause-bounded
returns-clause-bounded c = λ left b.
    let P : List Tier → Type 0 = λ tiers. AreBounded left tiers in
    let all = given_back c.loop-at.tier-items (drop (length c.loop-at.tier-items) c.args.tiers.now.items) c.args.tiers.now.len (omega (arith, c.loop-at.auto.tier-items)) in
    subst P (sym all) (c.loop-at.invariant.bounded left (subst P (sym c.deref_mut-tier-items.ensures.value) b))

pub returns-clause-within : goal.returns-clause-within
returns-clause-within c =
    let P : List Tier → Type 0 = λ tiers. All IsWithin tiers in
    let whole = take_all c.loop-at.at c.loop-at.tier-items (omega (arith, c.loop-at-test.false, c.loop-at.auto.tier-items)) in
    let all = given_back c.loop-at.tier-items (drop (length c.loop-at.tier-items) c.args.tiers.now.items) c.args.tiers.now.len (omega (arith, c.loop-at.auto.tier-items)) in
    subst P (sym all) (subst P whole c.loop-at.invariant.within)
