use Rattle.std.proofs.Common.{ap, subst, length, ◌≤◌}
use Rattle.px_afa.specs.Building.{Automata}
use Rattle.std.specs.Prelude.{Result, Ok, Err, OnErr}
use Rattle.px_rule.specs.Table.{TableName}
use Rattle.px_call.proofs.Memories.{memory_on, stepped_old, keeps_old, operands_old, small_old}
use Rattle.px_call.proofs.bank_memo.BankMemo.bank_step.Goals as goal

on_err : {A B : Type 0} (P : Type 0) (r : Result A B) → P → OnErr r P
on_err P (Ok x) h = tt
on_err P (Err e) h = h

pub make_step-requires-clause-small : goal.make_step-requires-clause-small
make_step-requires-clause-small g c =
    small_old g.L.Law.right c.self.inside.compiled.now g.C.Entry.began c.self.inside.seat c.self.inside.tally c.args.self.now c.self.view_is (subst (λ (a : Automata). length a.states ≤ 500_000) c.program.ensures.program c.sound.ensures.sound.few)
    c.args.op c.args.a.now c.args.b.now c.args.numbers.0 c.args.numbers.1 c.requires.operands.0 c.requires.operands.1 c.requires.operands.2 c.requires.numbers.0 c.requires.numbers.1

pub make_step-requires-clause-operands : goal.make_step-requires-clause-operands
make_step-requires-clause-operands g c = (
  c.requires.operands.0,
  c.requires.operands.1,
  operands_old g.L.Law.right c.self.inside.compiled.now g.C.Entry.began c.self.inside.seat c.self.inside.tally c.args.self.now c.self.view_is c.self.inside.shared.now.shape (ap (λ (q : TableName). q.shape) c.self.invariant.at)
      c.args.op c.args.a.now c.args.b.now c.requires.operands.0 c.requires.operands.1 c.requires.operands.2,
)

pub invariant_of-self : goal.invariant_of-self
invariant_of-self g c = memory_on g.L.Law.right g.L.ProgramLaw.automata_of c.self.inside.shared.now c.self.inside.compiled.now g.C.Entry.began c.self.inside.seat c.make_step.new.seat c.self.inside.tally c.self.inside.tally c.self.invariant c.make_step.ensures.table c.make_step.ensures.works.grew c.make_step.ensures.works.sound

pub invariant_of-self-2 : goal.invariant_of-self-2
invariant_of-self-2 g c = memory_on g.L.Law.right g.L.ProgramLaw.automata_of c.self.inside.shared.now c.self.inside.compiled.now g.C.Entry.began c.self.inside.seat c.make_step.new.seat c.self.inside.tally c.booked-held.result.0 c.self.invariant c.make_step.ensures.table c.make_step.ensures.works.grew c.make_step.ensures.works.sound

pub returns-in_err-outcome-clause-err : goal.returns-in_err-outcome-clause-err
returns-in_err-outcome-clause-err g c = on_err _ c.from_residual.result
    (keeps_old g.L.Law.right c.self.inside.compiled.now g.C.Entry.began c.self.inside.seat c.make_step.new.seat c.self.inside.tally c.self.inside.tally c.make_step.ensures.table c.make_step.ensures.works.grew c.args.self.now c.self.view_is
    c.self.inside.shared.now.shape (ap (λ (q : TableName). q.shape) c.self.invariant.at) (λ e. e))

pub returns-clause-ok : goal.returns-clause-ok
returns-clause-ok g c =
    stepped_old g.L.Law.right c.self.inside.compiled.now g.C.Entry.began c.self.inside.seat c.make_step.new.seat c.self.inside.tally c.booked-held.result.0 c.make_step.ensures.table c.make_step.ensures.works.grew c.args.self.now c.self.view_is
    c.self.inside.shared.now.shape (ap (λ (q : TableName). q.shape) c.self.invariant.at) g.L.Law.one_answer c.make_step.ensures.works.sound c.args.op c.args.a.now c.args.b.now c.args.numbers.0 c.args.numbers.1 c.in_ok-outcome.outcome c.booked-held.result.1 c.in_ok-outcome.ensures.makes c.booked-held.ensures.booked
