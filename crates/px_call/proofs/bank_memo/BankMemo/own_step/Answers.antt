use Rattle.std.proofs.Common.{ap}
use Rattle.std.specs.Prelude.{Result, Ok, Err, OnErr}
use Rattle.px_rule.specs.Table.{TableName}
use Rattle.px_call.proofs.Memories.{memory_on, beside_old, keeps_old, operands_old}
use Rattle.px_call.proofs.bank_memo.BankMemo.own_step.Goals as goal

on_err : {A B : Type 0} (P : Type 0) (r : Result A B) → P → OnErr r P
on_err P (Ok x) h = tt
on_err P (Err e) h = h

pub make_beside-requires-clause-operands : goal.make_beside-requires-clause-operands
make_beside-requires-clause-operands g c = (
  c.requires.operands.0,
  c.requires.operands.1,
  operands_old g.L.Law.right c.self.inside.compiled.now g.C.Entry.began c.self.inside.seat c.self.inside.tally c.args.self.now c.self.view_is c.self.inside.shared.now.shape (ap (λ (q : TableName). q.shape) c.self.invariant.at)
      c.args.op c.args.a.now c.args.b.now c.requires.operands.0 c.requires.operands.1 c.requires.operands.2,
)

pub invariant_of-self : goal.invariant_of-self
invariant_of-self g c = memory_on g.L.Law.right g.L.ProgramLaw.automata_of c.self.inside.shared.now c.self.inside.compiled.now g.C.Entry.began c.self.inside.seat c.make_beside.new.seat c.self.inside.tally c.self.inside.tally c.self.invariant c.make_beside.ensures.table c.make_beside.ensures.works.grew c.make_beside.ensures.works.sound

pub invariant_of-self-2 : goal.invariant_of-self-2
invariant_of-self-2 g c = memory_on g.L.Law.right g.L.ProgramLaw.automata_of c.self.inside.shared.now c.self.inside.compiled.now g.C.Entry.began c.self.inside.seat c.make_beside.new.seat c.self.inside.tally c.with_own-self-inside.result c.self.invariant c.make_beside.ensures.table c.make_beside.ensures.works.grew c.make_beside.ensures.works.sound

pub returns-in_err-held-clause-err : goal.returns-in_err-held-clause-err
returns-in_err-held-clause-err g c = on_err _ c.from_residual.result
    (keeps_old g.L.Law.right c.self.inside.compiled.now g.C.Entry.began c.self.inside.seat c.make_beside.new.seat c.self.inside.tally c.self.inside.tally c.make_beside.ensures.table c.make_beside.ensures.works.grew c.args.self.now c.self.view_is
    c.self.inside.shared.now.shape (ap (λ (q : TableName). q.shape) c.self.invariant.at) (λ e. e))

pub returns-clause-ok : goal.returns-clause-ok
returns-clause-ok g c =
    beside_old g.L.Law.right c.self.inside.compiled.now g.C.Entry.began c.self.inside.seat c.make_beside.new.seat c.self.inside.tally c.with_own-self-inside.result c.make_beside.ensures.table c.make_beside.ensures.works.grew c.args.self.now c.self.view_is
    c.self.inside.shared.now.shape (ap (λ (q : TableName). q.shape) c.self.invariant.at) c.make_beside.ensures.works.sound c.args.op c.args.a.now c.args.b.now c.requires.own c.in_ok-held.held c.with_own-self-inside.ensures.own c.with_own-self-inside.ensures.full c.in_ok-held.ensures.makes
