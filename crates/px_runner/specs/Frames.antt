-- Open elements as the runner has them, and as the definitions do.
use Rattle.std.specs.Prelude.{◌≡◌, ℕ, ◌≤◌, List, [], ◌∷◌, length, take, drop}
use Rattle.px_afa.specs.Building.{Automata}
use Rattle.px_runner.specs.declared.held.Held.{Held}
use Rattle.px_runner.specs.declared.frame.Frame.{Frame}
use Rattle.px_runner.specs.Operands.{IsLabel}
use Rattle.px_runner.specs.Gives.{Holds}
use Rattle.px_runner.specs.Events.{Open}

-- The frame has the label and the sets of the element.
pub record IsOpen {M : Type 0} (automata : M → Automata) (stands_for : M → Held → List ℕ → Type 0) (memo : M) (frame : Frame) (o : Open) : Type 0 where
  pub label : frame.label ≡ o.label
  pub known : IsLabel (automata memo).states o.label
  pub needed : Holds automata stands_for memo frame.needed o.needed
  pub gathered : Holds automata stands_for memo frame.gathered o.gathered

-- frame by frame, from the inside out
abbrev pub AreOpen : {M : Type 0} (automata : M → Automata) (stands_for : M → Held → List ℕ → Type 0) (memo : M) → List Frame → List Open → Type 0
AreOpen automata stands_for memo [] [] = Unit {0}
AreOpen automata stands_for memo (frame ∷ frames) (o ∷ outer) = IsOpen automata stands_for memo frame o × AreOpen automata stands_for memo frames outer
AreOpen automata stands_for memo _ _ = ⊥

-- The buffer has the texts of the frames, the outermost first: that of the innermost is its end.
abbrev pub AreTexts : (buffer : List ℕ) → List Frame → List Open → Type 0
AreTexts buffer [] [] = buffer ≡ []
AreTexts buffer (frame ∷ frames) (o ∷ outer) =
    (frame.begins ≤ length buffer) × (drop frame.begins buffer ≡ o.text) × AreTexts (take frame.begins buffer) frames outer
AreTexts buffer _ _ = ⊥
