-- Two crews that stand one behind the other.
use Rattle.std.proofs.Common.{List, [], ◌∷◌, ◌++◌}
use Rattle.px_crew.specs.Crews.{AllWorked}

pub worked_both : {P W : Type 0} (Worked : P → W → P → W → Type 0) (vs : List P) (starts : List W) (ws : List P) (ends : List W) (vs' : List P) (starts' : List W) (ws' : List P) (ends' : List W)
    → AllWorked Worked vs starts ws ends → AllWorked Worked vs' starts' ws' ends' → AllWorked Worked (vs ++ vs') (starts ++ starts') (ws ++ ws') (ends ++ ends')
worked_both Worked [] [] [] [] vs' starts' ws' ends' a b = b
worked_both Worked (v ∷ vs) (s ∷ starts) (w ∷ ws) (e ∷ ends) vs' starts' ws' ends' a b = (a.0, worked_both Worked vs starts ws ends vs' starts' ws' ends' a.1 b)
worked_both Worked (v ∷ vs) [] ws ends vs' starts' ws' ends' a b = absurd a
worked_both Worked (v ∷ vs) (s ∷ starts) [] ends vs' starts' ws' ends' a b = absurd a
worked_both Worked (v ∷ vs) (s ∷ starts) (w ∷ ws) [] vs' starts' ws' ends' a b = absurd a
worked_both Worked [] (s ∷ starts) ws ends vs' starts' ws' ends' a b = absurd a
worked_both Worked [] [] (w ∷ ws) ends vs' starts' ws' ends' a b = absurd a
worked_both Worked [] [] [] (e ∷ ends) vs' starts' ws' ends' a b = absurd a
