use Rattle.std.proofs.Common.{◌∙◌, ap}
use Rattle.px_afa.specs.Dictionaries.{found}
use Rattle.px_afa.proofs.Dictionaries.{looked_up}
use Rattle.px_afa.proofs.dictionary.Dictionary.find.Goals as goal

pub returns : goal.returns
returns c =
    record { found = c.copied.ensures ∙ (c.get.ensures.value ∙ (looked_up c.self.inside.numbers.entries c.args.text.now ∙ ap (λ texts. found texts c.args.text.now) c.self.view_is)) }
