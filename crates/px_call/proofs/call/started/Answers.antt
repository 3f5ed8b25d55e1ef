use Rattle.std.proofs.Common.{◌≡◌, ◌∙◌, ap, subst, rules}
use Rattle.px_rule.specs.declared.view.View.{View}
use Rattle.px_rule.specs.Table.{Seated, is_inside}
use Rattle.px_rule.specs.Kept.{Grew}
use Rattle.px_rule.proofs.Lasting.{grew_look}
use Rattle.px_call.proofs.Readings.{program_grew}
use Rattle.px_call.proofs.Running.{first_looked, runs_first}
use Rattle.px_call.proofs.call.started.Goals as goal

pub look_step-requires-clause-table : goal.look_step-requires-clause-table
look_step-requires-clause-table g c = c.requires.table

pub look_step-requires-clause-inside : goal.look_step-requires-clause-inside
look_step-requires-clause-inside g c = c.requires.inside

pub look_step-requires-clause-place : goal.look_step-requires-clause-place
look_step-requires-clause-place g c = search rules

pub new-memo-requires-clause-table : goal.new-memo-requires-clause-table
new-memo-requires-clause-table g c = c.look_step.ensures.table ∙ c.requires.table

pub new-memo-requires-clause-began : goal.new-memo-requires-clause-began
new-memo-requires-clause-began g c = c.look_step.ensures.table ∙ ap (λ (s : Seated _). s.table) c.requires.began

pub new-memo-requires-clause-grew : goal.new-memo-requires-clause-grew
new-memo-requires-clause-grew g c =
    subst (λ (s : Seated _). Grew s.view c.look_step.new.seat.view) c.requires.began (grew_look _ _ _ _ c.args.seat.view c.look_step.new.seat.view c.look_step.ensures.view)

pub new-memo-requires-clause-inside : goal.new-memo-requires-clause-inside
new-memo-requires-clause-inside g c = ap (λ (v : View _). is_inside v.stay.place) c.look_step.ensures.view ∙ c.requires.inside

pub new-memo-requires-clause-program : goal.new-memo-requires-clause-program
new-memo-requires-clause-program g c =
    program_grew g.L.ProgramLaw.automata_of c.args.seat.view c.look_step.new.seat.view (grew_look _ _ _ _ c.args.seat.view c.look_step.new.seat.view c.look_step.ensures.view) c.args.compiled.now c.requires.program

pub new-memo-requires-clause-sound : goal.new-memo-requires-clause-sound
new-memo-requires-clause-sound g c = c.look_step.ensures.sound

pub returns-clause-table : goal.returns-clause-table
returns-clause-table g c = c.end-seat.ensures.table

pub returns-clause-grew : goal.returns-clause-grew
returns-clause-grew g c = c.end-seat.ensures.grew

pub returns-clause-ok : goal.returns-clause-ok
returns-clause-ok g c =
    let seat = c.look_step.new.seat in
    let same = c.look_step.ensures.table ∙ ap (λ (s : Seated _). s.table) c.requires.began in
    let grew = subst (λ (s : Seated _). Grew s.view seat.view) c.requires.began (grew_look _ _ _ _ c.args.seat.view seat.view c.look_step.ensures.view) in
    runs_first g.L.Law.right c.args.compiled.now g.C.Entry.began seat c.end-seat.result.0 c.new.result c.end-seat.result.1 same grew c.end-seat.ensures.table c.end-seat.ensures.grew
    c.new-memo.result c.new-runner.new.memo c.new-memo.ensures.memo c.end-seat.ensures.memo c.new-runner.result
    (first_looked g.L.Law.right c.args.compiled.now g.C.Entry.began seat c.new.result c.args.shared.now (c.look_step.ensures.table ∙ c.requires.table) same grew
    (subst (λ (s : Seated _). seat.view.touch.wrote ≡ s.view.touch.wrote) c.requires.began (ap (λ (v : View _). v.touch.wrote) c.look_step.ensures.view))
    c.look_step.ensures.sound c.new.ensures.found c.new.ensures.computed c.new.ensures.own c.new.ensures.full)
    c.new-runner.ensures.ok c.new-runner.ensures.held
