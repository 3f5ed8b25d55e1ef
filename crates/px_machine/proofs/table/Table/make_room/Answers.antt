use Rattle.std.proofs.Common.{refl, sym, ap, ◌∙◌}
use Rattle.std.specs.Prelude.{slice_get}
use Rattle.px_machine.specs.Tables.{told}
use Rattle.px_machine.proofs.table.Table.make_room.Goals as goal

pub returns : goal.returns
returns c = record {
  only = λ a b n h. let there = c.in_ok-self.ensures.only (told a b n) refl h in (there.0, ap (λ l. slice_get l there.0) (sym c.as_slice.ensures.value) ∙ there.1);
}
