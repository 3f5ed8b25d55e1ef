-- One too many.
use Rattle.std.proofs.Common.{◌≡◌, ◌∙◌, ◌≤◌, true, false, length, sym, arith}
use Rattle.px_text.specs.Escapes.{unescaped}
use Rattle.px_reader.specs.Scanned.{run_of}
use Rattle.px_reader.specs.Scanning.{state_in}
use Rattle.px_reader.specs.Spelling.{is_among}
use Rattle.px_reader.specs.States.{is_giving}
use Rattle.px_reader.proofs.AttributeScans.{attribute_many}
use Rattle.px_reader.proofs.scanner.Scanner.give_named.Goals as goal

pub returns-then-len-ge-MAX_ATTRIBUTES-clause-taken : goal.returns-then-len-ge-MAX_ATTRIBUTES-clause-taken
returns-then-len-ge-MAX_ATTRIBUTES-clause-taken c =
    let old = c.args.self.now in
    let piece = c.args.piece.now in
    let giving : is_giving (state_in piece old) ≡ true = sym (c.is_giving.ensures piece) ∙ c.if-not-is_giving.false in
    let new : is_among c.args.name.now old.attributes ≡ false = sym c.contains.ensures ∙ c.if-contains.false in
    let many : 256 ≤ length old.attributes = omega arith in
    attribute_many old.phase old.attributes (run_of piece old) c.args.name.now (unescaped c.args.value.now) old.names giving new many
