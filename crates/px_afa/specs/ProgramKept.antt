-- What a program keeps beside its states.
use Rattle.std.specs.Prelude.{◌≡◌, ℕ, ◌≤◌, [], ◌∷◌, length}
use Rattle.px_afa.specs.declared.program.Program.TheInside.{Inside}
use Rattle.px_afa.specs.Building.{newest}
use Rattle.px_afa.specs.Lists.{row}
use Rattle.px_afa.specs.PathKept.{ArePathTables}
use Rattle.px_afa.specs.Sets.{accept}
use Rattle.px_afa.specs.Sound.{IsSound}
use Rattle.px_afa.specs.ValueKept.{AreValueTables}

pub record IsKept (program : Inside) : Type 0 where
  pub few : length program.states.items ≤ 500_000
  pub sound : IsSound (record { states = newest program.states.items; firsts = program.firsts.items })
  pub paths : ArePathTables program.paths (newest program.states.items)
  pub values : AreValueTables program.values (newest program.states.items)
  pub ids : (state : ℕ) → row program.ids state ≡ accept program.firsts.items (state ∷ [])
