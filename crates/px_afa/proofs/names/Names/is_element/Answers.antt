use Rattle.std.proofs.Common.{◌∙◌, sym}
use Rattle.px_afa.proofs.KnownNames.{element_flagged}
use Rattle.px_afa.proofs.names.Names.is_element.Goals as goal

pub returns-in-Some : goal.returns-in-Some
returns-in-Some c = record { value = λ kinds are. element_flagged c.args.self.now kinds c.args.label _ are (sym c.in-Some.is ∙ c.flag.ensures.it) }

pub returns-in-None : goal.returns-in-None
returns-in-None c = record { value = λ kinds are. element_flagged c.args.self.now kinds c.args.label _ are (sym c.in-None.is ∙ c.flag.ensures.it) }
