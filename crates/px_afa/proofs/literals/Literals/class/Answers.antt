use Rattle.std.proofs.Common.{◌∙◌, ap}
use Rattle.std.specs.Prelude.{unwrap_or}
use Rattle.px_afa.proofs.KnownLiterals.{literal_class}
use Rattle.px_afa.proofs.literals.Literals.class.Goals as goal

pub returns : goal.returns
returns c = record { class = λ literals are. c.unwrap_or.ensures ∙ (ap (λ o. unwrap_or o 0) c.find.ensures.found ∙ literal_class c.args.self.now literals c.args.text.now are) }
