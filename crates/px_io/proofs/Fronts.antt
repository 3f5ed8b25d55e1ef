-- A front part that is copied, and what is left behind it.
use Rattle.std.proofs.Common.{◌≡◌, ℕ, ◌+◌, ◌-◌, ◌≤◌, List, ◌++◌, length, take, drop, sym, ◌∙◌, ap}
use Rattle.std.proofs.lemmas.List.{take-append-drop, take-take, drop-drop, take_rest}

-- what was left is the part that was copied, and what is left behind it
pub copied_then_left : (bytes copy : List ℕ) (at n : ℕ) → take n copy ≡ take n (take (length bytes - at) (drop at bytes)) →
    drop at bytes ≡ take n copy ++ drop (at + n) bytes
copied_then_left bytes copy at n e =
    sym (take-append-drop n (drop at bytes))
    ∙ ap (λ front. front ++ drop n (drop at bytes)) (sym (e ∙ ap (take n) (take_rest bytes at)))
    ∙ ap (λ rest. take n copy ++ rest) (drop-drop n at bytes)

-- the same where the copy is of a piece at most
pub piece_then_left : (bytes copy : List ℕ) (at n piece : ℕ) → n ≤ piece → take n copy ≡ take n (take piece (take (length bytes - at) (drop at bytes))) →
    drop at bytes ≡ take n copy ++ drop (at + n) bytes
piece_then_left bytes copy at n piece h e =
    copied_then_left bytes copy at n (e ∙ take-take n piece (take (length bytes - at) (drop at bytes)) h)
