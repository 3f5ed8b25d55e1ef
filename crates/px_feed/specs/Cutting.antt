-- How lines are cut into items: what each line does, and what is known behind it.
use Rattle.std.specs.Prelude.{◌≡◌, ℕ, ◌+◌, ◌<◌, ◌≤◌, true, List, [], ◌∷◌, ◌++◌, length, take, Result, Ok, Err, Option, Some, None}
use Rattle.px_text.specs.Nodes.{Root}
use Rattle.px_reader.specs.Lines.{lines_of, is_whole, has_no_feed}
use Rattle.px_reader.specs.Spelling.{Spells}
use Rattle.px_reader.specs.declared.recorder.Recorder.{Recorder}
use Rattle.px_feed.specs.declared.cutter.Cutter.{Cutter}
use Rattle.px_feed.specs.declared.fault.Failure.{Failure}
use Rattle.px_feed.specs.declared.fault.Failure.TheVariants.{Fault, Memory}
use Rattle.px_feed.specs.declared.item.Item.{Item as Given}
use Rattle.px_feed.specs.declared.outside.Effect.{Effect}
use Rattle.px_feed.specs.Effects.{IsItem, DoesFit}
use Rattle.px_feed.specs.Recordings.{HasRecorded}
use Rattle.px_feed.specs.Items.{Item, Stop, AtEnd, AtFault, Begins, Gives, bytes_in, most_bytes}

-- Whatever comes behind these lines, which gave these items, gives its own.
abbrev pub Leads : (lines : List (List ℕ)) → List Item → Type 0
Leads lines given =
    (rest : List (List ℕ)) (items : List Item) (stop : Stop) → Gives lines rest items stop → Gives [] (lines ++ rest) (given ++ items) stop

-- Behind the lines before, which gave these items, a document has begun with the bytes inside; or none has, and they are none.
pub record Stands (document : Recorder) (before : List (List ℕ)) (inside : List ℕ) (given : List Item) : Type 0 where
  pub leads : Leads before given
  pub whole : is_whole inside ≡ true
  pub recorded : HasRecorded document inside
  pub begins : (line : List ℕ) (more : List (List ℕ)) → lines_of inside ≡ line ∷ more → Begins before line
  pub still_open : (j : ℕ) (root : Root) → j ≤ length (lines_of inside) → Spells (take j (lines_of inside)) root → ⊥

-- These lines gave these items, and the document of the last of them is recorded.
pub record Standing (document : Recorder) (lines : List (List ℕ)) (given : List Item) : Type 0 where
  pub before : List (List ℕ)
  pub inside : List ℕ
  pub lines_are : lines ≡ before ++ lines_of inside
  pub stands : Stands document before inside given

-- So many lines, of so many bytes, have ended and gave these items, and the document of the last of them is recorded.
pub record Cut (document : List ℕ) (count size : ℕ) (lines : List (List ℕ)) (given : List Item) : Type 0 where
  pub standing : Standing document lines given
  pub counts : count ≡ length lines
  pub sizes : size ≡ bytes_in lines

-- The cutter has taken these lines, which gave these items.
abbrev pub HasCut : Cutter → (lines : List (List ℕ)) → List Item → Type 0
HasCut cutter lines given = Cut cutter.document cutter.extent.lines cutter.extent.bytes lines given

-- Behind these items the lines have this fault, whatever comes behind them.
abbrev pub Fails : (lines : List (List ℕ)) → List Item → Failure → Type 0
Fails lines given (Fault fault) = (rest : List (List ℕ)) → Gives [] (lines ++ rest) given (AtFault fault.line fault.kind)
Fails lines given Memory = Unit {0}

-- The lines gave these items and the one that is answered, if there is one; or they have the fault.
abbrev pub Cuts : (Known : List Item → Type 0) → Result (Option Given) Failure → (lines : List (List ℕ)) → List Item → Type 0
Cuts Known (Ok None) lines given = Known given
Cuts Known (Ok (Some item)) lines given = (brought : Item) × IsItem item brought × Known (given ++ brought ∷ [])
Cuts Known (Err failure) lines given = Fails lines given failure

abbrev pub CutBy : Result (Option Given) Failure → Cutter → (lines : List (List ℕ)) → List Item → Type 0
CutBy result new lines given = Cuts (HasCut new lines) result lines given

abbrev pub CutTo : Result (Option Given) Failure → Cutter → (lines : List (List ℕ)) → List Item → Type 0
CutTo result new lines given = Cuts (Standing new.document lines) result lines given

-- A line may come behind the lines, and has the number that is counted.
abbrev pub MayCome : Cutter → (lines : List (List ℕ)) → List ℕ → Type 0
MayCome cutter lines line = (cutter.extent.lines ≡ length lines) × (bytes_in lines + length line ≤ most_bytes)

-- what a line does, wherever it stands
abbrev pub CutsLine : Cutter → List ℕ → Result (Option Given) Failure → Cutter → Type 0
CutsLine old line result new =
    (lines : List (List ℕ)) (given : List Item) → Standing old.document lines given → MayCome old lines line → CutTo result new (lines ++ line ∷ []) given

-- what a line does that goes on with a document, or begins one
abbrev pub CutsOn : Cutter → List ℕ → Result (Option Given) Failure → Cutter → Type 0
CutsOn old line result new =
    (before : List (List ℕ)) (inside : List ℕ) (given : List Item) → Stands old.document before inside given → (inside ≡ [] → Begins before line) →
    MayCome old (before ++ lines_of inside) line → CutTo result new ((before ++ lines_of inside) ++ line ∷ []) given

-- what a line outside documents does that has this effect
abbrev pub CutsEffect : Cutter → Effect → List ℕ → Result (Option Given) Failure → Cutter → Type 0
CutsEffect old effect line result new =
    (before : List (List ℕ)) (given : List Item) → Stands old.document before [] given → DoesFit (Ok effect) line →
    MayCome old before line → CutTo result new (before ++ line ∷ []) given

-- The lines are all. They gave these items and the one that is answered, if there is one; or they have the fault.
abbrev pub EndsBy : Result (Option Given) Failure → (lines : List (List ℕ)) → List Item → Type 0
EndsBy (Ok None) lines given = Gives [] lines given AtEnd
EndsBy (Ok (Some item)) lines given = (brought : Item) × IsItem item brought × Gives [] lines (given ++ brought ∷ []) AtEnd
EndsBy (Err (Fault fault)) lines given = Gives [] lines given (AtFault fault.line fault.kind)
EndsBy (Err Memory) lines given = Unit {0}

-- what the end of a document does, with the bytes behind its last line feed
abbrev pub EndsOn : Cutter → List ℕ → Result (Option Given) Failure → Type 0
EndsOn old line result =
    (before : List (List ℕ)) (inside : List ℕ) (given : List Item) → Stands old.document before inside given → has_no_feed line ≡ true →
    (inside ≡ [] → (0 < length line) × Begins before line) →
    MayCome old (before ++ lines_of inside) line → EndsBy result ((before ++ lines_of inside) ++ lines_of line) given

-- what the last line does, where it stands outside documents and has this effect
abbrev pub EndsEffect : Cutter → Effect → List ℕ → Result (Option Given) Failure → Type 0
EndsEffect old effect line result =
    (before : List (List ℕ)) (given : List Item) → Stands old.document before [] given → has_no_feed line ≡ true → 0 < length line →
    DoesFit (Ok effect) line → MayCome old before line → EndsBy result (before ++ line ∷ []) given
