-- The last name, or those before it.
use Rattle.std.proofs.Common.{◌≡◌, true, false, length, reverse, take, drop, ap, sym, ◌∙◌, subst, bytes_eq}
use Rattle.px_reader.specs.Spelling.{is_among}
use Rattle.px_reader.specs.Stacks.{names_in, AreCut}
use Rattle.px_reader.proofs.Stacked.{stack_last, stack_cut, or_first, or_second}
use Rattle.px_reader.proofs.name_stack.stands_in.Goals as goal

pub returns-then-eq : goal.returns-then-eq
returns-then-eq c =
    let name = c.args.name.now in
    let held = c.loop-start.held.now in
    let start = c.in-Some.start.now in
    let before = is_among name (names_in (take start held) (reverse c.in-Some.front.now)) in
    let same : bytes_eq name (drop start held) ≡ true = ap (bytes_eq name) (sym c.split_at.ensures.back) ∙ sym c.eq.ensures ∙ c.if-eq.true in
    sym (c.loop-start.invariant.same ∙ stack_last name held c.loop-start.rest.now c.in-Some.front.now start c.in-Some.ensures.cases.0 ∙ or_first (bytes_eq name (drop start held)) before same)

pub loop-start-preserved : goal.loop-start-preserved
loop-start-preserved c =
    let name = c.args.name.now in
    let held = c.loop-start.held.now in
    let start = c.in-Some.start.now in
    let front = c.in-Some.front.now in
    let other : bytes_eq name (drop start held) ≡ false = ap (bytes_eq name) (sym c.split_at.ensures.back) ∙ sym c.eq.ensures ∙ c.if-eq.false in
    let split = c.in-Some.ensures.cases.0 in
    record {
      cut = subst (λ bs. AreCut (length bs) (reverse front)) (sym c.split_at.ensures.front) (stack_cut held c.loop-start.rest.now front start split c.loop-start.invariant.cut);
      same = c.loop-start.invariant.same ∙ stack_last name held c.loop-start.rest.now front start split
          ∙ or_second (bytes_eq name (drop start held)) (is_among name (names_in (take start held) (reverse front))) other
          ∙ ap (λ bs. is_among name (names_in bs (reverse front))) (sym c.split_at.ensures.front);
    }
