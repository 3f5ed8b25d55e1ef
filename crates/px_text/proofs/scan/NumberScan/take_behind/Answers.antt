use Rattle.std.proofs.Common.{◌≡◌, true, false, sym, ◌∙◌}
use Rattle.px_text.specs.Names.{is_white}
use Rattle.px_text.proofs.Scanning.{taken, white_behind, other_behind}
use Rattle.px_text.proofs.scan.NumberScan.take_behind.Goals as goal

pub returns-then-not-is_white : goal.returns-then-not-is_white
returns-then-not-is_white c = λ text h.
    let other : is_white c.args.byte ≡ false = sym c.is_white.ensures ∙ c.if-not-is_white.true in
    taken c.args.self.now _ text c.args.byte h h.whole h.fraction h.whole_is h.fraction_is h.whole_digits h.fraction_digits tt
    (λ rest. rw c.requires (other_behind c.args.self.now.is_negative h.whole h.fraction c.args.byte rest other))

pub returns-else-not-is_white : goal.returns-else-not-is_white
returns-else-not-is_white c = λ text h.
    let white : is_white c.args.byte ≡ true = sym c.is_white.ensures ∙ c.if-not-is_white.false in
    taken c.args.self.now _ text c.args.byte h h.whole h.fraction h.whole_is h.fraction_is h.whole_digits h.fraction_digits h.begun
    (λ rest. rw c.requires (white_behind c.args.self.now.is_negative h.whole h.fraction c.args.byte rest white))
