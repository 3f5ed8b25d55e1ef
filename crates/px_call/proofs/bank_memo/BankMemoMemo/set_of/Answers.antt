use Rattle.std.proofs.Common.{ap, refl}
use Rattle.std.specs.Prelude.{Result, Ok, Err, IfOk, OnErr}
use Rattle.std.proofs.lemmas.Result.{IfOk-weaker}
use Rattle.px_text.specs.Operands.{set_of}
use Rattle.px_rule.specs.Table.{TableName}
use Rattle.px_call.proofs.Memories.{memory_on, looked_old, keeps_old, value_old}
use Rattle.px_call.proofs.bank_memo.BankMemoMemo.set_of.Goals as goal

if_ok : {A B : Type 0} (P : Type 0) (r : Result A B) → P → IfOk r (λ _. P)
if_ok P (Ok x) h = h
if_ok P (Err e) h = tt

on_err : {A B : Type 0} (P : Type 0) (r : Result A B) → P → OnErr r P
on_err P (Ok x) h = tt
on_err P (Err e) h = h

pub read-requires-clause-operand : goal.read-requires-clause-operand
read-requires-clause-operand g c = (
  set_of c.requires.0,
  value_old g.L.Law.right c.self.inside.compiled.now g.C.Entry.began c.self.inside.seat c.self.inside.tally c.args.self.now c.self.view_is c.self.inside.shared.now.shape (ap (λ (q : TableName). q.shape) c.self.invariant.at) c.args.held.now c.requires.0 c.requires.1,
)

pub invariant_of-self : goal.invariant_of-self
invariant_of-self g c = memory_on g.L.Law.right g.L.ProgramLaw.automata_of c.self.inside.shared.now c.self.inside.compiled.now g.C.Entry.began c.self.inside.seat c.read.new.seat c.self.inside.tally c.self.inside.tally c.self.invariant c.read.ensures.table c.read.ensures.looked.grew c.read.ensures.looked.sound

pub returns-clause-set : goal.returns-clause-set
returns-clause-set g c = IfOk-weaker c.read.result _ _
    (λ found is set stands known. is set (value_old g.L.Law.right c.self.inside.compiled.now g.C.Entry.began c.self.inside.seat c.self.inside.tally c.args.self.now c.self.view_is c.self.inside.shared.now.shape (ap (λ (q : TableName). q.shape) c.self.invariant.at) c.args.held.now set stands))
    c.read.ensures.set

pub returns-clause-ok : goal.returns-clause-ok
returns-clause-ok g c = if_ok _ c.read.result
    (looked_old g.L.Law.right c.self.inside.compiled.now g.C.Entry.began c.self.inside.seat c.read.new.seat c.self.inside.tally c.self.inside.tally c.read.ensures.table c.read.ensures.looked.grew c.args.self.now c.self.view_is
    c.self.inside.shared.now.shape (ap (λ (q : TableName). q.shape) c.self.invariant.at) refl c.read.ensures.looked)

pub returns-clause-err : goal.returns-clause-err
returns-clause-err g c = on_err _ c.read.result
    (keeps_old g.L.Law.right c.self.inside.compiled.now g.C.Entry.began c.self.inside.seat c.read.new.seat c.self.inside.tally c.self.inside.tally c.read.ensures.table c.read.ensures.looked.grew c.args.self.now c.self.view_is
    c.self.inside.shared.now.shape (ap (λ (q : TableName). q.shape) c.self.invariant.at) (λ e. e))
