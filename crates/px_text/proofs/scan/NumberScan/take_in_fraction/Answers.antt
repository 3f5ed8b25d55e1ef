use Rattle.std.proofs.Common.{◌≡◌, true, false, [], ◌∷◌, ◌++◌, refl, sym, ◌∙◌, Some, unwrap_or}
use Rattle.px_text.specs.Names.{is_digit, is_white}
use Rattle.px_text.specs.Scans.{IsBegun}
use Rattle.px_text.proofs.Numbers.{white_not_digit}
use Rattle.px_text.proofs.Scanning.{taken, one_more_digit, white_behind, other_behind, fraction_digit, fraction_ends}
use Rattle.px_text.proofs.scan.NumberScan.take_in_fraction.Goals as goal

pub returns-then-is_digit : goal.returns-then-is_digit
returns-then-is_digit c = λ text h.
    let digit : is_digit c.args.byte ≡ true = sym c.is_digit.ensures ∙ c.if-is_digit.true in
    let fraction = unwrap_or h.fraction [] in
    let begun : IsBegun c.args.self.now.stage c.args.self.now.is_negative h.whole (Some (fraction ++ c.args.byte ∷ [])) = rw c.requires refl in
    taken c.args.self.now _ text c.args.byte h h.whole (Some (fraction ++ c.args.byte ∷ [])) h.whole_is (c.and-self.ensures fraction h.fraction_is) h.whole_digits (one_more_digit fraction c.args.byte h.fraction_digits digit) begun
    (λ rest. rw c.requires (fraction_digit c.args.self.now.is_negative h.whole fraction c.args.byte rest digit))

pub returns-then-is_white : goal.returns-then-is_white
returns-then-is_white c = λ text h.
    let white : is_white c.args.byte ≡ true = sym c.is_white.ensures ∙ c.if-is_white.true in
    let not_digit : is_digit c.args.byte ≡ false = white_not_digit c.args.byte white in
    let fraction = unwrap_or h.fraction [] in
    taken c.args.self.now _ text c.args.byte h h.whole (Some fraction) h.whole_is h.fraction_is h.whole_digits h.fraction_digits tt
    (λ rest. rw c.requires (fraction_ends c.args.self.now.is_negative h.whole fraction c.args.byte rest not_digit ∙ white_behind c.args.self.now.is_negative h.whole (Some fraction) c.args.byte rest white))

pub returns-else-is_white : goal.returns-else-is_white
returns-else-is_white c = λ text h.
    let other : is_white c.args.byte ≡ false = sym c.is_white.ensures ∙ c.if-is_white.false in
    let not_digit : is_digit c.args.byte ≡ false = sym c.is_digit.ensures ∙ c.if-is_digit.false in
    let fraction = unwrap_or h.fraction [] in
    taken c.args.self.now _ text c.args.byte h h.whole h.fraction h.whole_is h.fraction_is h.whole_digits h.fraction_digits tt
    (λ rest. rw c.requires (fraction_ends c.args.self.now.is_negative h.whole fraction c.args.byte rest not_digit ∙ other_behind c.args.self.now.is_negative h.whole (Some fraction) c.args.byte rest other))
