-- The document takes the line, or shows its fault.
use Rattle.std.proofs.Common.{◌≡◌, ◌∙◌, ◌+◌, ◌++◌, ◌∷◌, [], ap, sym, subst}
use Rattle.px_reader.specs.Lines.{lines_of}
use Rattle.px_reader.specs.Recorded.{recorded, AreFine}
use Rattle.px_reader.specs.Records.{Refuses}
use Rattle.px_reader.specs.Verdicts.{HasVerdict, IsTree}
use Rattle.px_feed.specs.Cutting.{Fails}
use Rattle.px_feed.specs.Recordings.{HasRecorded}
use Rattle.px_feed.proofs.Cuttings.{none_fine, stands_on, stands_closed}
use Rattle.px_feed.proofs.Faults.{refused_inside}
use Rattle.px_feed.proofs.cutter.Cutter.go_on.Goals as goal

pub returns-in-Err-clause-cuts : goal.returns-in-Err-clause-cuts
returns-in-Err-clause-cuts c = λ before inside given s one may.
    let line = c.args.line.now in
    subst (λ failure. Fails ((before ++ lines_of inside) ++ line ∷ []) given failure) (sym c.of_line.ensures)
    (refused_inside c.args.self.now.document before inside line given c.in-Err.fault c.next_line-number.result s c.requires one may.1 (c.next_line-number.ensures ∙ ap (λ n. n + 1) may.0)
    (subst (λ bs. Refuses bs line c.in-Err.fault) s.recorded.bytes_are c.in-Err.ensures.fault))

pub returns-then-not-is_closed-clause-cuts : goal.returns-then-not-is_closed-clause-cuts
returns-then-not-is_closed-clause-cuts c = λ before inside given s one may.
    let line = c.args.line.now in
    let same : recorded c.add.new.self ≡ inside ++ line = c.in_default.ensures.ok ∙ ap (λ bs. bs ++ line) s.recorded.bytes_are in
    let known : HasRecorded c.add.new.self (inside ++ line) = record { bytes_are = same; fine = subst (λ bs. AreFine bs) same c.in_default.ensures.fine } in
    stands_on c.args.self.now.document c.add.new.self before inside line given s c.requires one known (c.is_closed.ensures.still_open c.if-not-is_closed.true)

pub returns-clause-cuts : goal.returns-clause-cuts
returns-clause-cuts c = λ before inside given s one may.
    let line = c.args.line.now in
    let same = c.in_default.ensures.ok ∙ ap (λ bs. bs ++ line) s.recorded.bytes_are in
    let (root, v) = c.is_closed.ensures.closed c.if-not-is_closed.false in
    stands_closed c.args.self.now.document c.take-doc.new.self before inside line given c.take-doc.result root s c.requires one may.1
    (subst (λ bs. HasVerdict bs (IsTree root)) same v) (c.take-doc.ensures.doc ∙ same) (record { bytes_are = c.take-doc.ensures.none; fine = none_fine })
