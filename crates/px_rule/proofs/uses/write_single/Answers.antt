use Rattle.std.proofs.Common.{◌≡◌, ◌∙◌, ℕ, subst, sym, ap, arith}
use Rattle.px_rule.specs.declared.shape.Shape.{Shape}
use Rattle.px_rule.specs.Words.{IsShape, key_of, path_of}
use Rattle.px_rule.specs.Table.{bank_in, version_in}
use Rattle.px_rule.specs.Steps.{MayWrite}
use Rattle.px_rule.proofs.Paths.{long_wide, single_may}
use Rattle.px_rule.proofs.uses.write_single.Goals as goal

pub place-at-requires-clause-turn : goal.place-at-requires-clause-turn
place-at-requires-clause-turn g c = let l = long_wide c.shape.result (key_of c.node_word-word.result) c.shape.ensures.lawful in omega arith

pub write_step-requires-clause-word : goal.write_step-requires-clause-word
write_step-requires-clause-word g c =
    let z = c.args.shared.now.shape in
    let v = c.args.seat.now.view in
    let place = c.place-at.result in
    let word = c.node_word-word.ensures.word in
    let at : place ≡ path_of z (key_of c.node_word-word.result) 0 = c.place-at.ensures.place ∙ ap (λ (s : Shape). path_of s (key_of c.node_word-word.result) 0) c.shape.ensures.shape in
    subst (λ (w : ℕ). MayWrite g.L.Law.right z (bank_in v.stay.place) (version_in v.stay.place) place w v) (sym word)
    (single_may g.L.Law.right z (bank_in v.stay.place) (version_in v.stay.place) place c.args.element v (subst IsShape c.shape.ensures.shape c.shape.ensures.lawful) c.requires.element (at ∙ ap (λ (w : ℕ). path_of z (key_of w) 0) word))
