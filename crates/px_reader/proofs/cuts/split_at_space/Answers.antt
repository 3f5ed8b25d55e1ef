-- The first space cuts the line.
use Rattle.std.proofs.Common.{◌≡◌, ◌+◌, [], drop, sym, arith, add-one}
use Rattle.std.proofs.lemmas.Grind.{common_steps}
use Rattle.px_reader.specs.Lines.{behind_space}
use Rattle.px_reader.proofs.Spaces.{split_found, split_none}
use Rattle.px_reader.proofs.cuts.split_at_space.Goals as goal

pub returns-in-Some-clause-name : goal.returns-in-Some-clause-name
returns-in-Some-clause-name c =
    let found = c.in-Some.ensures in
    sym (split_found c.args.line.now c.in-Some.space found.0.high found.0.before found.1).0

pub returns-in-Some-clause-value : goal.returns-in-Some-clause-value
returns-in-Some-clause-value c =
    let found = c.in-Some.ensures in
    let behind : behind_space c.args.line.now ≡ drop (c.in-Some.space + 1) c.args.line.now =
    rw add-one (split_found c.args.line.now c.in-Some.space found.0.high found.0.before found.1).1 in
    rw behind (grind (arith, common_steps))

pub returns-in-None-clause-name : goal.returns-in-None-clause-name
returns-in-None-clause-name c = sym (split_none c.args.line.now c.in-None.ensures).0

pub returns-in-None-clause-value : goal.returns-in-None-clause-value
returns-in-None-clause-value c =
    let behind : behind_space c.args.line.now ≡ [] = (split_none c.args.line.now c.in-None.ensures).1 in
    rw behind (grind (arith, common_steps))
