-- A line that has ended is `=`, or one more of the proof.
use Rattle.std.proofs.Common.{◌≡◌, ℕ, List, [], ◌∷◌, nat_eq, ap, sym, ◌∙◌}
use Rattle.std.specs.Cmp.Lexicographic.{pointwise}
use Rattle.px_explain.proofs.Incoming.{ends_there, then_on, then_feed, fault_further, is_equals}
use Rattle.px_explain.proofs.proof_reader.ProofReader.end_line.Goals as goal

pub returns-then-eq-clause-whole : goal.returns-then-eq-clause-whole
returns-then-eq-clause-whole c = λ e behind.
    let begun = c.begin_line.new.self.begun.items in
    let same : begun ≡ 61 ∷ [] =
    is_equals begun
    (ap (λ (ws : List ℕ). pointwise nat_eq ws (61 ∷ [])) (sym c.as_slice.ensures.value)
    ∙ ap (λ (vs : List ℕ). pointwise nat_eq c.as_slice.result.now vs) (sym c.as_slice-in-Ok.ensures) ∙ sym c.eq.ensures ∙ c.if-eq.true) in
    ends_there c.args.self.now c.begin_line.new.self c.args.part.now behind same c.in-Ok.ensures.more

pub returns-in-Ok-take_line-clause-more : goal.returns-in-Ok-take_line-clause-more
returns-in-Ok-take_line-clause-more c = λ e.
    then_on c.args.self.now c.begin_line.new.self c.take_line.new.self c.args.part.now (10 ∷ []) c.in-Ok.ensures.more c.in-Ok-take_line.ensures.more

pub returns-in-Err-take_line-clause-fault : goal.returns-in-Err-take_line-clause-fault
returns-in-Err-take_line-clause-fault c =
    then_feed c.args.self.now c.begin_line.new.self c.args.part.now (10 ∷ []) c.in-Err-take_line.fault c.in-Ok.ensures.more c.in-Err-take_line.ensures.fault

pub returns-in-Err-clause-fault : goal.returns-in-Err-clause-fault
returns-in-Err-clause-fault c = fault_further c.args.self.now c.args.part.now (10 ∷ []) c.in-Err.fault c.in-Err.ensures.fault
