use Rattle.std.proofs.Common.{◌∙◌, sym, refl}
use Rattle.px_afa.proofs.KnownLiterals.{literal_new}
use Rattle.px_afa.proofs.literals.Literals.add_text.Goals as goal

pub returns-in_ok-put-in-None : goal.returns-in_ok-put-in-None
returns-in_ok-put-in-None c = record {
  added = λ literals are. literal_new c.args.self.now _ literals c.args.text.now _ are (sym c.find.ensures.found ∙ c.in-None.is) refl c.in_ok-put-in-None.ensures.put refl;
}
