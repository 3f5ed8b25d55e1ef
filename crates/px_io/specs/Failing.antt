-- Sources and sinks that fail at the calls that they are told to fail at.
use Rattle.std.specs.Prelude.{◌≡◌, ℕ, ◌+◌, Bool, false, IsTrue, ◌==◌, List, ◌++◌, length, take, drop, min}
use Rattle.std.specs.List.{list_any}
use Rattle.px_io.specs.Faults.{last_count}
use Rattle.px_io.specs.declared.source.ReadAnswer.{ReadAnswer}
use Rattle.px_io.specs.declared.source.ReadAnswer.TheVariants.{Got, End, Failed}
use Rattle.px_io.specs.declared.sink.WriteAnswer.{WriteAnswer}
use Rattle.px_io.specs.declared.sink.WriteAnswer.TheVariants as write

-- the bytes that are left in a source or held by a sink, the most that one call moves, the numbers of the calls that fail, how many calls there were, and how many of them failed
pub record Failing : Type 0 where
  pub bytes : List ℕ
  pub piece : ℕ
  pub fails : List ℕ
  pub calls : ℕ
  pub faults : ℕ

-- Calls have the numbers 1, 2, .. in order. None that is told to fail comes behind the last count.
abbrev pub fails_next : Failing → Bool
fails_next f = list_any (λ number. number == f.calls + 1) f.fails

-- a count that stays at its last value
abbrev pub one_more : ℕ → ℕ
one_more count = min (count + 1) last_count

abbrev pub behind_call : Failing → Failing
behind_call f = record f { calls = one_more f.calls }

abbrev pub behind_fault : Failing → Failing
behind_fault f = record f { calls = one_more f.calls; faults = one_more f.faults }

-- which answer a read into so much room has: as many bytes as there are, up to the piece and the room
abbrev pub ReadsAs : ReadAnswer → Failing → (room : ℕ) → Type 0
ReadsAs (Got count) f room = (fails_next f ≡ false) × (count ≡ min (length f.bytes) (min f.piece room))
ReadsAs End f room = (fails_next f ≡ false) × (length f.bytes ≡ 0)
ReadsAs Failed f room = IsTrue (fails_next f)

abbrev pub behind_read : ReadAnswer → Failing → Failing
behind_read (Got count) f = record f { bytes = drop count f.bytes; calls = one_more f.calls }
behind_read End f = behind_call f
behind_read Failed f = behind_fault f

-- which answer a write of so many bytes has: all of them, up to the piece, unless there is no memory
abbrev pub WritesAs : WriteAnswer → Failing → (size : ℕ) → Type 0
WritesAs (write.Took count) f size = (fails_next f ≡ false) × (count ≡ min f.piece size)
WritesAs write.Failed f size = IsTrue (fails_next f)
WritesAs write.Memory f size = fails_next f ≡ false

abbrev pub behind_write : WriteAnswer → Failing → (piece : List ℕ) → Failing
behind_write (write.Took count) f piece = record f { bytes = f.bytes ++ take count piece; calls = one_more f.calls }
behind_write write.Failed f piece = behind_fault f
behind_write write.Memory f piece = behind_call f
