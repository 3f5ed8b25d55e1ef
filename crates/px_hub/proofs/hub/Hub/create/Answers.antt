use Rattle.std.proofs.Common.{◌≡◌, ◌+◌, length, sym, ap, ◌∙◌, arith}
use Rattle.px_hub.proofs.Beginning.{every_new, closed_new, new_more}
use Rattle.px_hub.proofs.hub.Hub.create.Goals as goal

pub loop-number-preserved : goal.loop-number-preserved
loop-number-preserved g c =
    let i = c.loop-number.invariant in
    let e = c.push_reserved.ensures in (
      c.in_ok-pass.ensures.table ∙ i.0,
      c.in_ok-pass.ensures.desk,
      e.len ∙ ap (λ n. n + 1) i.2,
      (let a = i.3 in let b = e.capacity in omega arith),
      new_more c.loop-number.all.items c.push_reserved.new.self.items c.in_ok-pass.pass c.loop-number.number e.items (sym c.loop-number.all.ok.0 ∙ i.2) i.4 c.in_ok-pass.ensures.pass,
    )

pub returns-clause-every : goal.returns-clause-every
returns-clause-every g c =
    let i = c.loop-number.invariant in
    let long : length c.loop-number.all.items ≡ g.N.HubName.passes =
    sym c.loop-number.all.ok.0 ∙ (i.2 ∙ (let ended : c.loop-number.number ≡ c.args.parts.passes = omega arith in ended ∙ sym c.requires.passes)) in
    every_new g.N.HubName.passes c.loop-number.all.items long i.4

pub returns-clause-closed : goal.returns-clause-closed
returns-clause-closed g c = closed_new c.loop-number.all.items c.loop-number.invariant.4
