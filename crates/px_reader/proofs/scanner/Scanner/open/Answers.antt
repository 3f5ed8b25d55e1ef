-- One that is too deep.
use Rattle.std.proofs.Common.{◌≡◌, ◌∙◌, ◌≤◌, true, false, length, sym, arith}
use Rattle.px_text.specs.Names.{is_pyx_name}
use Rattle.px_reader.specs.Scanned.{run_of}
use Rattle.px_reader.specs.Scanning.{state_in}
use Rattle.px_reader.specs.States.{is_after}
use Rattle.px_reader.proofs.Scans.{open_deep}
use Rattle.px_reader.proofs.scanner.Scanner.open.Goals as goal

pub returns-then-len-ge-MAX_DEPTH-clause-taken : goal.returns-then-len-ge-MAX_DEPTH-clause-taken
returns-then-len-ge-MAX_DEPTH-clause-taken c =
    let old = c.args.self.now in
    let piece = c.args.piece.now in
    let is_name : is_pyx_name c.args.name.now ≡ true = sym c.is_pyx_name.ensures ∙ c.if-not-is_pyx_name.false in
    let more : is_after (state_in piece old) ≡ false = sym (c.is_behind_root.ensures piece) ∙ c.if-is_behind_root.false in
    let deep : 512 ≤ length old.names = omega arith in
    open_deep old.phase old.attributes (run_of piece old) c.args.name.now old.names is_name more deep
