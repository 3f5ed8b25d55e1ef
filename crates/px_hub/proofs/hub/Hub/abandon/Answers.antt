use Rattle.std.proofs.Common.{◌≡◌, sym, ◌∙◌, subst}
use Rattle.px_reader.specs.declared.event.Event.{Event}
use Rattle.px_hub.specs.declared.engine.Engine.{Engine}
use Rattle.px_hub.specs.Passes.{PassView}
use Rattle.px_hub.specs.Replying.{Stays, WroteOf}
use Rattle.px_hub.specs.OpenCalls.{StandsAs, IsOpen, HasTaken}
use Rattle.px_hub.proofs.Ending.{stays_closed, stays_behind, wrote_alone, wrote_left}
use Rattle.px_hub.proofs.hub.Hub.abandon.Goals as goal

pub close-requires : goal.close-requires
close-requires g c = record { outside = subst (λ (e : Engine). StandsAs e c.args.pass.now) (sym c.into_engine.ensures ∙ c.in-Private.is) c.requires.begun.1.stands }

pub returns-in-Private-clause-stays : goal.returns-in-Private-clause-stays
returns-in-Private-clause-stays g c = λ opened h.
    let p : PassView = c.args.pass.now in
    let o = subst (λ (e : Engine). IsOpen opened p e) (sym c.into_engine.ensures ∙ c.in-Private.is) h in
    subst (λ (w : PassView). Stays opened w) (sym c.close.ensures) (stays_closed opened p o.same o.stands)

pub returns-in-Private-clause-wrote : goal.returns-in-Private-clause-wrote
returns-in-Private-clause-wrote g c = λ opened given rest root h is.
    let p : PassView = c.args.pass.now in
    let t = subst (λ (e : Engine). HasTaken g.N.HubName.table opened p e given) (sym c.into_engine.ensures ∙ c.in-Private.is) h in
    subst (λ (w : PassView). WroteOf g.N.HubName.table.shape opened w root) (sym c.close.ensures) (wrote_alone g.N.HubName.table opened p root _ _ given t)

pub leave-requires : goal.leave-requires
leave-requires g c = record { is_in = subst (λ (e : Engine). StandsAs e c.args.pass.now) (sym c.into_engine.ensures ∙ c.in-Shared.is) c.requires.begun.1.stands }

pub returns-clause-stays : goal.returns-clause-stays
returns-clause-stays g c = λ opened h.
    let p : PassView = c.args.pass.now in
    subst (λ (w : PassView). Stays opened w) (sym c.leave.ensures) (stays_behind opened p h.same)

pub returns-clause-wrote : goal.returns-clause-wrote
returns-clause-wrote g c = λ opened given rest root h is.
    let p : PassView = c.args.pass.now in
    let t = subst (λ (e : Engine). HasTaken g.N.HubName.table opened p e given) (sym c.into_engine.ensures ∙ c.in-Shared.is) h in
    subst (λ (w : PassView). WroteOf g.N.HubName.table.shape opened w root) (sym c.leave.ensures) (wrote_left c.counts_hold_outside.ensures.moved c.only_words_of_the_run_are_written.ensures.words g.N.HubName.table opened p _ given rest root t is)
