-- What is known of the bytes is known of those that are moved out.
use Rattle.std.proofs.Common.{ap, sym, ◌∙◌, subst}
use Rattle.px_reader.specs.Verdicts.{HasVerdict, IsTree}
use Rattle.px_reader.proofs.recorder.doc_of.Goals as goal

pub told-requires-clause-spelt : goal.told-requires-clause-spelt
told-requires-clause-spelt c =
    let same = c.from_vec.ensures.same ∙ ap (λ v. v.items) c.replace-held.ensures.value in
    ∣ (c.requires.closed.0, subst (λ bs. HasVerdict bs (IsTree c.requires.closed.0)) (sym same) c.requires.closed.1) ∣₁
