use Rattle.std.proofs.Common.{◌≡◌, ℕ, true, false, ◌==◌, List, [], ◌∷◌, ◌++◌, refl, sym, ◌∙◌, Option, Some, None, unwrap_or, subst}
use Rattle.px_text.specs.Names.{is_digit, is_white}
use Rattle.px_text.specs.Scans.{IsFraction, IsBegun}
use Rattle.px_text.proofs.Numbers.{white_not_digit, white_not_point}
use Rattle.px_text.proofs.Scanning.{taken, one_more_digit, white_behind, other_behind, whole_digit, whole_point, whole_ends, is_not}
use Rattle.px_text.proofs.scan.NumberScan.take_in_whole.Goals as goal

pub returns-then-is_digit : goal.returns-then-is_digit
returns-then-is_digit c = λ text h.
    let digit : is_digit c.args.byte ≡ true = sym c.is_digit.ensures ∙ c.if-is_digit.true in
    let begun : IsBegun c.args.self.now.stage c.args.self.now.is_negative (h.whole ++ c.args.byte ∷ []) h.fraction = rw c.requires (rw c.requires at h.begun) in
    taken c.args.self.now _ text c.args.byte h (h.whole ++ c.args.byte ∷ []) h.fraction (c.and-self.ensures h.whole h.whole_is) h.fraction_is (one_more_digit h.whole c.args.byte h.whole_digits digit) h.fraction_digits begun
    (λ rest. rw c.requires (whole_digit c.args.self.now.is_negative h.whole c.args.byte rest))

pub returns-then-byte-eq46 : goal.returns-then-byte-eq46
returns-then-byte-eq46 c = λ text h.
    let no_fraction : h.fraction ≡ None = rw c.requires at h.begun in
    let P : Option (List ℕ) → Type 0 = λ f. IsFraction c.args.self.now.fraction (unwrap_or f []) in
    taken c.args.self.now _ text c.args.byte h h.whole (Some []) h.whole_is (subst P no_fraction h.fraction_is) h.whole_digits refl refl
    (λ rest. rw (c.requires, c.if-byte-eq46.true) (whole_point c.args.self.now.is_negative h.whole rest h.whole_digits))

pub returns-then-is_white : goal.returns-then-is_white
returns-then-is_white c = λ text h.
    let no_fraction : h.fraction ≡ None = rw c.requires at h.begun in
    let white : is_white c.args.byte ≡ true = sym c.is_white.ensures ∙ c.if-is_white.true in
    let not_digit : is_digit c.args.byte ≡ false = white_not_digit c.args.byte white in
    taken c.args.self.now _ text c.args.byte h h.whole h.fraction h.whole_is h.fraction_is h.whole_digits h.fraction_digits tt
    (λ rest. rw (c.requires, no_fraction) (whole_ends c.args.self.now.is_negative h.whole c.args.byte rest h.whole_digits not_digit (white_not_point c.args.byte white) ∙ white_behind c.args.self.now.is_negative h.whole None c.args.byte rest white))

pub returns-else-is_white : goal.returns-else-is_white
returns-else-is_white c = λ text h.
    let other : is_white c.args.byte ≡ false = sym c.is_white.ensures ∙ c.if-is_white.false in
    let not_digit : is_digit c.args.byte ≡ false = sym c.is_digit.ensures ∙ c.if-is_digit.false in
    let not_point : (c.args.byte == 46) ≡ false = is_not c.args.byte 46 c.if-byte-eq46.false in
    taken c.args.self.now _ text c.args.byte h h.whole h.fraction h.whole_is h.fraction_is h.whole_digits h.fraction_digits tt
    (λ rest. rw c.requires (whole_ends c.args.self.now.is_negative h.whole c.args.byte rest h.whole_digits not_digit not_point ∙ other_behind c.args.self.now.is_negative h.whole None c.args.byte rest other))
