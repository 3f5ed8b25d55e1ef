use Rattle.std.proofs.Common.{◌≡◌, ◌∙◌, ap, true, sym}
use Rattle.px_afa.specs.Building.{Automata}
use Rattle.px_afa.specs.Labels.{label_at}
use Rattle.px_afa.specs.Tables.{is_met}
use Rattle.px_afa.specs.Truth.{state_at}
use Rattle.px_prune.proofs.Pushed.{met_row, met_added}
use Rattle.px_prune.proofs.pushing.add_met.Goals as goal

pub of-requires : goal.of-requires
of-requires c =
    let same = c.program.ensures.program in
    let met = ap (λ (a : Automata). is_met (label_at a.states c.args.label) (state_at a.states c.args.p)) (sym same) ∙ sym c.is_met.ensures.value ∙ c.if-is_met.true in
    record { there = met_row c.args.compiled.now.states c.needs.result.now c.args.label c.args.p c.needs.ensures.needs met }

pub returns-in_ok-extend_from_slice : goal.returns-in_ok-extend_from_slice
returns-in_ok-extend_from_slice c =
    let same = c.program.ensures.program in
    let met = ap (λ (a : Automata). is_met (label_at a.states c.args.label) (state_at a.states c.args.p)) (sym same) ∙ sym c.is_met.ensures.value ∙ c.if-is_met.true in
    record {
      added =
          met_added c.args.compiled.now.states c.needs.result.now c.args.label c.args.p c.of.result.now c.args.inside.now.items c.extend_from_slice.new.self.items
          c.needs.ensures.needs met c.of.ensures.row c.in_ok-extend_from_slice.ensures.items;
    }
