use Rattle.std.proofs.Common.{rules, refl, ap, ◌∙◌}
use Rattle.px_banks.proofs.Clearing.{none_yet, at_now, one_more}
use Rattle.px_banks.proofs.banks.zero.Goals as goal

pub loop-place-init : goal.loop-place-init
loop-place-init g c = let b = c.requires.built in (refl, none_yet c.args.bank c.args.desk.now.view b.0 b.1 b.3)

pub zero_step-requires-clause-desk : goal.zero_step-requires-clause-desk
zero_step-requires-clause-desk g c = let b = c.requires.built in ap (λ v. v.past.kind) (c.loop-place.invariant.1 b.0 b.1) ∙ c.requires.desk

pub zero_step-requires-clause-built : goal.zero_step-requires-clause-built
zero_step-requires-clause-built g c =
    let b = c.requires.built in
    let n = c.loop-place.place in
    (record b.0 { zeroed = n }, at_now c.args.bank n c.args.desk.now.view c.loop-place.desk.view b.0 b.1 c.loop-place.invariant.1, b.2, refl)

pub loop-place-preserved : goal.loop-place-preserved
loop-place-preserved g c = let s = c.zero_step.ensures in
    (s.table ∙ c.loop-place.invariant.0, one_more c.args.bank c.loop-place.place c.args.desk.now.view c.loop-place.desk.view c.zero_step.new.desk.view c.loop-place.invariant.1 s.view)

pub returns-clause-past : goal.returns-clause-past
returns-clause-past g c = let b = c.requires.built in ap (λ v. v.past) (c.loop-place.invariant.1 b.0 b.1)

pub returns-clause-ready : goal.returns-clause-ready
returns-clause-ready g c =
    let b = c.requires.built in
    let n = c.loop-place.place in
    (record b.0 { zeroed = n }, at_now c.args.bank n c.args.desk.now.view c.loop-place.desk.view b.0 b.1 c.loop-place.invariant.1, b.2, search rules)
