use Rattle.std.proofs.Common.{refl, ◌∙◌, ap, drop, take, ◌++◌}
use Rattle.std.proofs.lemmas.List.{take_rest}
use Rattle.px_machine.specs.Machines.{given_numbers}
use Rattle.px_machine.proofs.Moved.{end-on, end-below}
use Rattle.px_machine.proofs.machine.Machine.end.Goals as goal

pub gift-requires : goal.gift-requires
gift-requires c = record {
  below = end-below c.args.self.now c.text_values.new.self c.in_ok-values.values _ c.requires.at.0 c.requires.at.1 c.in_ok-values.ensures.grows c.in_ok-values.ensures.values.0
      (take_rest c.deref-2.result.now c.args.self.now.innermost.gathered ∙ ap (drop c.args.self.now.innermost.gathered) (c.deref-2.ensures.value ∙ c.in_ok-push.ensures.items));
}

pub returns-clause-ok : goal.returns-clause-ok
returns-clause-ok c =
    end-on c.args.self.now
    (record { facts = c.gift.new.self; bound = c.args.self.now.bound; innermost = c.in-Some.parent; outer = c.pop.new.self; gathered = c.give.new.gathered; text = c.args.self.now.text })
    c.text_values.new.self c.in-Some.parent c.in_ok-values.values c.in_ok-given.given _ _
    c.in-Some.ensures.items (take_rest c.deref.result.now c.args.self.now.innermost.text ∙ ap (drop c.args.self.now.innermost.text) c.deref.ensures.value)
    c.in_ok-values.ensures.same c.in_ok-values.ensures.grows c.in_ok-values.ensures.values
    (take_rest c.deref-2.result.now c.args.self.now.innermost.gathered ∙ ap (drop c.args.self.now.innermost.gathered) (c.deref-2.ensures.value ∙ c.in_ok-push.ensures.items))
    c.in_ok-given.ensures.same c.in_ok-given.ensures.grows c.first_is_empty.ensures.first c.in_ok-given.ensures.given
    (c.in_ok-give.ensures.given ∙ ap (λ l. l ++ given_numbers c.in_ok-given.given) (c.truncate.ensures.items ∙ ap (take c.args.self.now.innermost.gathered) c.in_ok-push.ensures.items)) refl refl
