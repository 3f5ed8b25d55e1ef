use Rattle.std.proofs.Common.{◌≡◌, [], Some, None, sym, subst, refl, ap}
use Rattle.px_reader.specs.Happenings.{event_of}
use Rattle.px_reader.specs.declared.event.Event.TheVariants.{Start, Attr, Text, End}
use Rattle.px_afa.specs.Contents.{ElementKind, AttributeKind}
use Rattle.px_afa.specs.Steps.{label_of}
use Rattle.px_runner.specs.Operands.{IsLabel}
use Rattle.px_runner.proofs.Known.{label-known}
use Rattle.px_runner.proofs.Taken.{took_along, took_start, took_leaf}
use Rattle.px_runner.proofs.runner.Runner.take.Goals as goal

pub start-requires-clause-label : goal.start-requires-clause-label
start-requires-clause-label g c =
    let is : c.label_of_element-label.result ≡ label_of (g.M.Memo.automata c.args.memo.now).states (ElementKind c.in-Start.name.now) = cc in
    subst (λ l. IsLabel (g.M.Memo.automata c.args.memo.now).states l) (sym is) (label-known (g.M.Memo.automata c.args.memo.now).states (ElementKind c.in-Start.name.now))

pub leaf-requires-clause-label : goal.leaf-requires-clause-label
leaf-requires-clause-label g c =
    let is : c.label_of_attribute-label.result ≡ label_of (g.M.Memo.automata c.args.memo.now).states (AttributeKind c.in-Attr.name.now) = cc in
    subst (λ l. IsLabel (g.M.Memo.automata c.args.memo.now).states l) (sym is) (label-known (g.M.Memo.automata c.args.memo.now).states (AttributeKind c.in-Attr.name.now))

pub returns-in-Start-clause-ok : goal.returns-in-Start-clause-ok
returns-in-Start-clause-ok g c =
    let is : c.label_of_element-label.result ≡ label_of (g.M.Memo.automata c.args.memo.now).states (ElementKind c.in-Start.name.now) = cc in
    took_along g.M.Memo.automata g.M.Memo.stands_for g.M.Memo.tells c.args.memo.now c.start.new.memo c.args.self.now c.start.new.self c.start.result (Start c.in-Start.name.now) (event_of c.args.next) (ap event_of c.in-Start.is)
    (took_start g.M.Memo.automata g.M.Memo.stands_for g.M.Memo.tells c.args.memo.now c.start.new.memo c.args.self.now c.start.new.self c.start.result
    c.in-Start.name.now c.label_of_element-label.result is c.start.ensures.ok)

pub returns-in-Attr-clause-ok : goal.returns-in-Attr-clause-ok
returns-in-Attr-clause-ok g c =
    let is : c.label_of_attribute-label.result ≡ label_of (g.M.Memo.automata c.args.memo.now).states (AttributeKind c.in-Attr.name.now) = cc in
    took_along g.M.Memo.automata g.M.Memo.stands_for g.M.Memo.tells c.args.memo.now c.leaf.new.memo c.args.self.now c.leaf.new.self c.leaf.result (Attr c.in-Attr.name.now c.in-Attr.value.now) (event_of c.args.next) (ap event_of c.in-Attr.is)
    (took_leaf g.M.Memo.automata g.M.Memo.stands_for g.M.Memo.tells c.args.memo.now c.leaf.new.memo c.args.self.now c.leaf.new.self c.leaf.result
    (Some c.in-Attr.name.now) c.in-Attr.value.now c.in-Attr.value.now [] c.label_of_attribute-label.result is refl refl c.leaf.ensures.ok)

pub returns-in-Text-clause-ok : goal.returns-in-Text-clause-ok
returns-in-Text-clause-ok g c =
    took_along g.M.Memo.automata g.M.Memo.stands_for g.M.Memo.tells c.args.memo.now c.leaf-in-Text.new.memo c.args.self.now c.leaf-in-Text.new.self c.leaf-in-Text.result (Text c.in-Text.text.now) (event_of c.args.next) (ap event_of c.in-Text.is)
    (took_leaf g.M.Memo.automata g.M.Memo.stands_for g.M.Memo.tells c.args.memo.now c.leaf-in-Text.new.memo c.args.self.now c.leaf-in-Text.new.self c.leaf-in-Text.result
    None c.in-Text.text.now c.in-Text.text.now c.in-Text.text.now 0 refl refl refl c.leaf-in-Text.ensures.ok)

pub returns-in-End-clause-ok : goal.returns-in-End-clause-ok
returns-in-End-clause-ok g c =
    took_along g.M.Memo.automata g.M.Memo.stands_for g.M.Memo.tells c.args.memo.now c.end.new.memo c.args.self.now c.end.new.self c.end.result End (event_of c.args.next) (ap event_of c.in-End.is)
    c.end.ensures.ok
