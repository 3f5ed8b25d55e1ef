use Rattle.std.proofs.Common.{◌∙◌, ap}
use Rattle.std.specs.Prelude.{unwrap_or}
use Rattle.px_afa.proofs.KnownNames.{element_label}
use Rattle.px_afa.proofs.names.Names.element.Goals as goal

pub returns : goal.returns
returns c = record { label = λ kinds are. c.unwrap_or.ensures ∙ (ap (λ o. unwrap_or o 1) c.find.ensures.found ∙ element_label c.args.self.now kinds c.args.name.now are) }
