-- One byte more.
use Rattle.std.proofs.Common.{arith, ◌∙◌, sym}
use Rattle.std.specs.Cmp.Derive.{both_true}
use Rattle.std.proofs.lemmas.List.Folds.{list_all_more}
use Rattle.px_text.specs.Names.{continues_name}
use Rattle.px_reader.proofs.scanner.name_length.Goals as goal

pub loop-length-preserved : goal.loop-length-preserved
loop-length-preserved c = record {
  within = omega arith;
  name = list_all_more continues_name c.args.bytes.now c.loop-length.length 0 c.loop-length-test.true ∙ both_true c.loop-length.invariant.name (sym c.continues_name.ensures ∙ c.if-not-continues_name.false);
}
