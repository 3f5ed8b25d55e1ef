use Rattle.std.proofs.Common.{◌≡◌, List, ℕ, [], subst, sym, ap, ◌∙◌}
use Rattle.std.specs.Prelude.{replicate}
use Rattle.atomic_table.specs.Table.{opening}
use Rattle.px_rule.specs.Words.{words_of}
use Rattle.px_rule.specs.Rule.{Rule}
use Rattle.px_rule.specs.Steps.{opening_view}
use Rattle.px_rule.proofs.Opening.{opens}
use Rattle.px_rule.proofs.table.Table.create.Goals as goal

pub of_words-requires : goal.of_words-requires
of_words-requires g c =
    let z = c.args.shape in
    let words = c.deref.result.now in
    let zeros : words ≡ replicate (words_of z) 0 = c.deref.ensures.value ∙ (c.in_ok-zeros.ensures.items_if_clones_equal (λ y same. same) ∙ ap (λ (n : ℕ). replicate n 0) c.word_count.ensures) in
    subst (λ (words : List ℕ). Rule g.L.Law.who g.L.Law.legal g.L.Law.right z (opening words [] (opening_view z))) (sym zeros) (opens g.L.Law.who g.L.Law.legal g.L.Law.right z g.L.Law.legal_empty)
