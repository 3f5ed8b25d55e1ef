use Rattle.std.proofs.Common.{◌+◌, ◌∙◌, sym, refl, ap}
use Rattle.px_afa.proofs.KnownNames.{attribute_new}
use Rattle.px_afa.proofs.names.Names.add_attribute.Goals as goal

pub returns-in_ok-push-in-None : goal.returns-in_ok-push-in-None
returns-in_ok-push-in-None c = record {
  added = λ kinds are.
      attribute_new c.args.self.now _ kinds c.args.name.now _ are (sym c.find.ensures.found ∙ c.in-None.is) (ap (λ n. 3 + n) (c.len.ensures ∙ c.args.self.now.are_elements.ok.0))
      c.in_ok-put-in-None.ensures.put refl c.in_ok-push-in-None.ensures.items;
}
