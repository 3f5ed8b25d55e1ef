use Rattle.px_afa.specs.Building.{newest}
use Rattle.px_afa.specs.Labels.{names_of}
use Rattle.px_afa.proofs.PathKeeping.{tests-told}
use Rattle.px_afa.proofs.path_tables.PathTables.of.Goals as goal

pub returns : goal.returns
returns c = record {
  all = record {
    names = c.in_ok-names.ensures.all;
    tests = tests-told c.args.states.now (names_of (newest c.args.states.now)) _ c.in_ok-tests.ensures.all;
    guarded = c.in_ok-guarded.ensures.all;
    exactly = c.in_ok-exactly.ensures.all;
    any_elements = c.in_ok-any_elements.ensures.all;
    any_attributes = c.in_ok-any_attributes.ensures.all;
  };
}
