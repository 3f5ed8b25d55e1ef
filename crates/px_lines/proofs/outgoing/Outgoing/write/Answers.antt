use Rattle.std.proofs.Common.{ℕ, List, refl, subst}
use Rattle.px_io.specs.Flows.{AddsTo}
use Rattle.px_lines.specs.Fronts.{AddsFront}
use Rattle.px_lines.proofs.outgoing.Outgoing.write.Goals as goal
use Rattle.px_lines.proofs.Spoken.{said_all, written_all, written_front}

pub returns-in-Whole-clause-rest : goal.returns-in-Whole-clause-rest
returns-in-Whole-clause-rest g c = λ held lines s.
    let before = g.K.Sink.held c.args.sink.now in let now = g.K.Sink.held c.write_whole.new.sink in
    let P : List ℕ → Type 0 = λ piece. AddsTo before piece now in
    let added = subst P c.as_slice.ensures.value (c.in-Whole.ensures.whole refl) in (
      said_all c.args.self.now (record c.args.self.now { pending = c.clear.new.self }) held before now lines s added c.clear.ensures.items refl,
      written_all c.args.self.now held before now lines s added,
      tt,
    )

pub returns-in-Failed-clause-rest : goal.returns-in-Failed-clause-rest
returns-in-Failed-clause-rest g c = λ held lines s.
    let before = g.K.Sink.held c.args.sink.now in let now = g.K.Sink.held c.write_whole.new.sink in
    let P : List ℕ → Type 0 = λ piece. AddsFront before piece now in
    (tt, tt, (refl, written_front c.args.self.now held before now lines s (subst P c.as_slice.ensures.value c.write_whole.ensures.front)))

pub returns-in-Memory-clause-rest : goal.returns-in-Memory-clause-rest
returns-in-Memory-clause-rest g c = λ held lines s.
    let before = g.K.Sink.held c.args.sink.now in let now = g.K.Sink.held c.write_whole.new.sink in
    let P : List ℕ → Type 0 = λ piece. AddsFront before piece now in
    (tt, tt, (refl, written_front c.args.self.now held before now lines s (subst P c.as_slice.ensures.value c.write_whole.ensures.front)))
