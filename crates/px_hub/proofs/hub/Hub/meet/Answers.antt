use Rattle.std.proofs.Common.{◌≤◌, ◌<◌, inl, inr, List, length, refl, ◌∙◌, subst, arith}
use Rattle.std.specs.Arc.{arc_value}
use Rattle.px_workload.specs.declared.change.Change.{Change}
use Rattle.px_rule.specs.declared.view.View.{View}
use Rattle.px_hub.specs.Passes.{PassView, pass_view}
use Rattle.px_hub.specs.Calls.{Met}
use Rattle.px_hub.proofs.Settles.{longer_more}
use Rattle.px_hub.proofs.Meeting.{meets, longer_less}
use Rattle.px_hub.proofs.hub.Hub.meet.Goals as goal

pub invariant_of-pass : goal.invariant_of-pass
invariant_of-pass g c =
    let p : PassView = pass_view c.pass.inside.number c.pass.inside.seat.view (arc_value c.pass.inside.built).version c.pass.inside.home c.pass.inside.is_open in
    let u : View Change = c.note.inside.seat.view in
    let w : View Change = c.take_in.new.pass.view in
    let fits : length p.view.past.seen ≤ length u.past.seen = let t = c.if-pass-version.true in let a = c.pass.invariant.version_is in let b = c.note.invariant.version_is in omega arith in
    let both = meets g.N.HubName.table c.pass.inside.seat.table c.take_in.new.pass.table g.N.HubName.passes c.pass.inside.version c.note.inside.version (arc_value c.pass.inside.live).filters (arc_value c.note.inside.live).filters (arc_value c.pass.inside.built)
    p u w u.past.seen c.pass.invariant c.take_in.ensures.view c.take_in.ensures.told c.take_in.ensures.met (longer_more p.view.past.seen u.past.seen fits) (inr refl) (c.take_in.ensures.table ∙ c.pass.invariant.at_table)
    c.note.invariant.seen c.note.invariant.version_is c.note.invariant.live in
    both.0

pub returns-then-pass-version : goal.returns-then-pass-version
returns-then-pass-version g c =
    let p : PassView = pass_view c.pass.inside.number c.pass.inside.seat.view (arc_value c.pass.inside.built).version c.pass.inside.home c.pass.inside.is_open in
    let u : View Change = c.note.inside.seat.view in
    let w : View Change = c.take_in.new.pass.view in
    let fits : length p.view.past.seen ≤ length u.past.seen = let t = c.if-pass-version.true in let a = c.pass.invariant.version_is in let b = c.note.invariant.version_is in omega arith in
    let both = meets g.N.HubName.table c.pass.inside.seat.table c.take_in.new.pass.table g.N.HubName.passes c.pass.inside.version c.note.inside.version (arc_value c.pass.inside.live).filters (arc_value c.note.inside.live).filters (arc_value c.pass.inside.built)
    p u w u.past.seen c.pass.invariant c.take_in.ensures.view c.take_in.ensures.told c.take_in.ensures.met (longer_more p.view.past.seen u.past.seen fits) (inr refl) (c.take_in.ensures.table ∙ c.pass.invariant.at_table)
    c.note.invariant.seen c.note.invariant.version_is c.note.invariant.live in
    subst (λ (y : List Change × PassView). Met y.0 y.1 (pass_view c.pass.inside.number w (arc_value c.pass.inside.built).version c.pass.inside.home c.pass.inside.is_open)) (λ i. (c.note.view_is i, c.pass.view_is i)) both.1

pub invariant_of-pass-else-pass-version : goal.invariant_of-pass-else-pass-version
invariant_of-pass-else-pass-version g c =
    let p : PassView = pass_view c.pass.inside.number c.pass.inside.seat.view (arc_value c.pass.inside.built).version c.pass.inside.home c.pass.inside.is_open in
    let u : View Change = c.note.inside.seat.view in
    let w : View Change = c.take_in.new.pass.view in
    let fits : length u.past.seen < length p.view.past.seen = let t = c.if-pass-version.false in let a = c.pass.invariant.version_is in let b = c.note.invariant.version_is in omega arith in
    let both = meets g.N.HubName.table c.pass.inside.seat.table c.take_in.new.pass.table g.N.HubName.passes c.pass.inside.version c.pass.inside.version (arc_value c.pass.inside.live).filters (arc_value c.pass.inside.live).filters (arc_value c.pass.inside.built)
    p u w p.view.past.seen c.pass.invariant c.take_in.ensures.view c.take_in.ensures.told c.take_in.ensures.met (longer_less p.view.past.seen u.past.seen fits) (inl refl) (c.take_in.ensures.table ∙ c.pass.invariant.at_table)
    c.pass.invariant.seen c.pass.invariant.version_is c.pass.invariant.live in
    both.0

pub returns-else-pass-version : goal.returns-else-pass-version
returns-else-pass-version g c =
    let p : PassView = pass_view c.pass.inside.number c.pass.inside.seat.view (arc_value c.pass.inside.built).version c.pass.inside.home c.pass.inside.is_open in
    let u : View Change = c.note.inside.seat.view in
    let w : View Change = c.take_in.new.pass.view in
    let fits : length u.past.seen < length p.view.past.seen = let t = c.if-pass-version.false in let a = c.pass.invariant.version_is in let b = c.note.invariant.version_is in omega arith in
    let both = meets g.N.HubName.table c.pass.inside.seat.table c.take_in.new.pass.table g.N.HubName.passes c.pass.inside.version c.pass.inside.version (arc_value c.pass.inside.live).filters (arc_value c.pass.inside.live).filters (arc_value c.pass.inside.built)
    p u w p.view.past.seen c.pass.invariant c.take_in.ensures.view c.take_in.ensures.told c.take_in.ensures.met (longer_less p.view.past.seen u.past.seen fits) (inl refl) (c.take_in.ensures.table ∙ c.pass.invariant.at_table)
    c.pass.invariant.seen c.pass.invariant.version_is c.pass.invariant.live in
    subst (λ (y : List Change × PassView). Met y.0 y.1 (pass_view c.pass.inside.number w (arc_value c.pass.inside.built).version c.pass.inside.home c.pass.inside.is_open)) (λ i. (c.note.view_is i, c.pass.view_is i)) both.1
