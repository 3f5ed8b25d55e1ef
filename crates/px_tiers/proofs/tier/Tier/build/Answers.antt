-- The machine is that of the program of the filters.
use Rattle.std.proofs.Common.{[], ◌∙◌, subst}
use Rattle.px_afa.specs.Building.{Automata}
use Rattle.px_machine.specs.Machines.{HasRun}
use Rattle.px_tiers.proofs.Matching.{steps_of}
use Rattle.px_tiers.proofs.tier.Tier.build.Goals as goal

pub returns : goal.returns
returns c =
    let P : Automata → Type 0 = λ program. HasRun c.in_ok-machine.machine program [] in
    record {
      tier = record { run = subst P (c.in_ok-new.ensures.ok ∙ c.in_ok-program.ensures.program) c.in_ok-machine.ensures.new; steps = steps_of c.args.filters.now; ids = c.in_ok-ids.ensures.all };
      bound = c.in_ok-machine.ensures.bound;
    }
