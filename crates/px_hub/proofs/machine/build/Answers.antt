use Rattle.std.proofs.Common.{◌≡◌, length, sym, ap, ◌∙◌, subst}
use Rattle.px_xpath.specs.Subscribed.{subscriptions}
use Rattle.px_afa.specs.Building.{automata}
use Rattle.px_workload.specs.Changes.{history}
use Rattle.px_workload.specs.Listed.{Listed}
use Rattle.px_hub.specs.declared.at_version.AtVersion.{AtVersion}
use Rattle.px_hub.specs.Passes.{AreLiveBehind, IsBuilt}
use Rattle.px_hub.proofs.Machines.{are_live, is_built}
use Rattle.px_hub.proofs.machine.build.Goals as goal

pub build-requires : goal.build-requires
build-requires c =
    let changes = c.args.journal.now.changes in
    let live : Listed = c.in_ok-live.live in
    let legal = c.version-version.ensures.legal in
    let laws = c.live_filters_are_in_order.ensures in
    record { live = are_live c.as_slice.result.now live.filters changes c.as_slice.ensures.same c.in_ok-live.ensures.live (laws.rising (history changes) legal) (laws.small (history changes) legal) }

pub returns : goal.returns
returns c =
    let changes = c.args.journal.now.changes in
    let live : Listed = c.in_ok-live.live in
    let made : AtVersion = record { version = c.version-version.result; live = c.in_ok-live-2.live; program = c.in_ok-program.program; compiled = c.in_ok-compiled.compiled } in
    subst (λ (x : AtVersion). (x.version ≡ length changes) × IsBuilt changes x) (sym c.in_ok-new.ensures.ok)
    (is_built changes made c.version-version.ensures.version (subst (λ (l : Listed). AreLiveBehind changes l.filters) (sym c.in_ok-live-2.ensures.ok) c.in_ok-live.ensures.live)
    (c.in_ok-program.ensures.ok ∙ (c.in_ok-build.ensures.program ∙ (ap (λ l. automata (subscriptions l)) c.as_slice.ensures.same ∙ ap automata c.in_ok-live.ensures.live)))
    (c.in_ok-compiled.ensures.program ∙ c.in_ok-try_clone.ensures))
