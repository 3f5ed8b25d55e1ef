use Rattle.std.proofs.Common.{◌≡◌, ℕ, true, false, List, [], ◌∷◌, ◌++◌, refl, sym, subst, ◌∙◌, Option, Some, unwrap_or}
use Rattle.px_text.specs.Names.{is_digit}
use Rattle.px_text.specs.Scans.{IsFraction, IsBegun}
use Rattle.px_text.specs.declared.scan.Stage.TheVariants.{Before}
use Rattle.px_text.proofs.Numbers.{digit_not_white, digit_not_minus}
use Rattle.px_text.proofs.Scanning.{taken, one_more_digit, first_other, whole_point}
use Rattle.px_text.proofs.scan.NumberScan.take_first.Goals as goal

pub returns-then-is_digit : goal.returns-then-is_digit
returns-then-is_digit c = λ text h.
    let b = c.args.byte in
    let digit : is_digit b ≡ true = sym c.is_digit.ensures ∙ c.if-is_digit.true in
    let begun : IsBegun Before c.args.self.now.is_negative h.whole h.fraction = rw c.requires at h.begun in
    taken c.args.self.now _ text b h (h.whole ++ b ∷ []) h.fraction (c.and-self.ensures h.whole h.whole_is) h.fraction_is (one_more_digit h.whole b h.whole_digits digit) h.fraction_digits begun.2
    (λ rest. rw (c.requires, begun.0, begun.1) (first_other b rest (digit_not_white b digit) (digit_not_minus b digit)))

pub returns-then-byte-eq46 : goal.returns-then-byte-eq46
returns-then-byte-eq46 c = λ text h.
    let begun : IsBegun Before c.args.self.now.is_negative h.whole h.fraction = rw c.requires at h.begun in
    let P : Option (List ℕ) → Type 0 = λ f. IsFraction c.args.self.now.fraction (unwrap_or f []) in
    taken c.args.self.now _ text c.args.byte h h.whole (Some []) h.whole_is (subst P begun.2 h.fraction_is) h.whole_digits refl refl
    (λ rest. rw (c.requires, begun.0, begun.1, c.if-byte-eq46.true) (whole_point false [] rest refl))
