use Rattle.std.proofs.Common.{refl}
use Rattle.px_machine.proofs.Moved.{leaf-on}
use Rattle.px_machine.proofs.machine.Machine.leaf.Goals as goal

pub returns-clause-ok : goal.returns-clause-ok
returns-clause-ok c =
    leaf-on c.args.self.now
    (record { facts = c.leaf.new.self; bound = c.args.self.now.bound; innermost = c.args.self.now.innermost; outer = c.args.self.now.outer; gathered = c.give.new.gathered; text = c.extend_from_slice.new.self })
    c.text_values.new.self c.in_ok-values.values c.in_ok-given.given c.args.label c.args.value.now c.args.said.now
    c.in_ok-values.ensures.same c.in_ok-values.ensures.grows c.in_ok-values.ensures.values
    c.in_ok-given.ensures.same c.in_ok-given.ensures.grows c.first_is_empty.ensures.first c.in_ok-given.ensures.given
    c.in_ok-give.ensures.given c.in_ok-extend_from_slice.ensures.items refl refl
