-- How far a feed has come that is taken in.
use Rattle.std.specs.Prelude.{ℕ, ◌-◌, List, take, drop}
use Rattle.px_feed.specs.declared.intake.Intake.{Intake}
use Rattle.px_feed.specs.Progress.{Progress}

-- the bytes of the piece that are not taken yet
abbrev pub unread : Intake → List ℕ
unread intake = take (intake.end - intake.at) (drop intake.at intake.piece.items)

abbrev pub progress : Intake → Progress
progress intake = record {
  document = intake.joiner.cutter.document;
  lines = intake.joiner.cutter.extent.lines;
  size = intake.joiner.cutter.extent.bytes;
  kept = intake.joiner.kept.items;
  begun = intake.joiner.begun;
  unread = unread intake;
  ending = intake.ending;
}
