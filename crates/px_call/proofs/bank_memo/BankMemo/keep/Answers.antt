use Rattle.std.proofs.Common.{ap}
use Rattle.std.specs.Prelude.{Result, Ok, Err, OnErr}
use Rattle.px_rule.specs.Table.{TableName}
use Rattle.px_call.proofs.Memories.{memory_on, kept_old, keeps_old}
use Rattle.px_call.proofs.bank_memo.BankMemo.keep.Goals as goal

on_err : {A B : Type 0} (P : Type 0) (r : Result A B) → P → OnErr r P
on_err P (Ok x) h = tt
on_err P (Err e) h = h

pub invariant_of-self : goal.invariant_of-self
invariant_of-self g c = memory_on g.L.Law.right g.L.ProgramLaw.automata_of c.self.inside.shared.now c.self.inside.compiled.now g.C.Entry.began c.self.inside.seat c.keep.new.seat c.self.inside.tally c.self.inside.tally c.self.invariant c.keep.ensures.table c.keep.ensures.works.grew c.keep.ensures.works.sound

pub invariant_of-self-2 : goal.invariant_of-self-2
invariant_of-self-2 g c = memory_on g.L.Law.right g.L.ProgramLaw.automata_of c.self.inside.shared.now c.self.inside.compiled.now g.C.Entry.began c.self.inside.seat c.keep.new.seat c.self.inside.tally c.in_ok-held.tally c.self.invariant c.keep.ensures.table c.keep.ensures.works.grew c.keep.ensures.works.sound

pub returns-in_err-held-clause-err : goal.returns-in_err-held-clause-err
returns-in_err-held-clause-err g c = on_err _ c.from_residual.result
    (keeps_old g.L.Law.right c.self.inside.compiled.now g.C.Entry.began c.self.inside.seat c.keep.new.seat c.self.inside.tally c.self.inside.tally c.keep.ensures.table c.keep.ensures.works.grew c.args.self.now c.self.view_is
    c.self.inside.shared.now.shape (ap (λ (q : TableName). q.shape) c.self.invariant.at) (λ e. e))

pub returns-clause-ok : goal.returns-clause-ok
returns-clause-ok g c =
    (kept_old g.L.Law.right c.self.inside.compiled.now g.C.Entry.began c.self.inside.seat c.keep.new.seat c.self.inside.tally c.in_ok-held.tally c.keep.ensures.table c.keep.ensures.works.grew c.args.self.now c.self.view_is
    c.self.inside.shared.now.shape (ap (λ (q : TableName). q.shape) c.self.invariant.at) c.keep.ensures.works.sound c.args.set.now c.keep.ensures.wrote c.in_ok-held.held c.in_ok-held.ensures.kept).0

pub returns-clause-stands : goal.returns-clause-stands
returns-clause-stands g c =
    (kept_old g.L.Law.right c.self.inside.compiled.now g.C.Entry.began c.self.inside.seat c.keep.new.seat c.self.inside.tally c.in_ok-held.tally c.keep.ensures.table c.keep.ensures.works.grew c.args.self.now c.self.view_is
    c.self.inside.shared.now.shape (ap (λ (q : TableName). q.shape) c.self.invariant.at) c.keep.ensures.works.sound c.args.set.now c.keep.ensures.wrote c.in_ok-held.held c.in_ok-held.ensures.kept).1
