-- What workers do that work side by side.
use Rattle.std.specs.Prelude.{List, [], ◌∷◌}

abbrev pub AllReady : {W : Type 0} → (W → Type 0) → List W → Type 0
AllReady Ready [] = Unit {0}
AllReady Ready (w ∷ ws) = Ready w × AllReady Ready ws

module _ {P W : Type 0} where
  -- each worker has worked with its state and with what lay beside it
  abbrev pub AllWorked : (P → W → P → W → Type 0) → List P → List W → List P → List W → Type 0
  AllWorked Worked [] [] [] [] = Unit {0}
  AllWorked Worked (v ∷ vs) (a ∷ starts) (w ∷ ws) (b ∷ ends) = Worked v a w b × AllWorked Worked vs starts ws ends
  AllWorked Worked _ _ _ _ = ⊥
