-- Where the first line feed of bytes stands.
use Rattle.std.proofs.Common.{◌≡◌, ℕ, zero, suc, ◌+◌, ◌<◌, ◌≤◌, Bool, true, false, not, List, [], ◌∷◌, ◌==◌, length, take, get_or, refl, arith, add-one}
use Rattle.std.proofs.lemmas.Bool.{not_from_false}
use Rattle.std.specs.Cmp.Derive.{both_true}
use Rattle.px_reader.specs.Lines.{has_no_feed, is_ended}

-- no byte before place k is a line feed
abbrev pub NoFeed : List ℕ → ℕ → Type 0
NoFeed bytes k = (j : ℕ) → 0 ≤ j → j < k → (get_or bytes j 0 == 10) ≡ true → ⊥

head_not : (b : ℕ) (bytes : List ℕ) (k : ℕ) → NoFeed (b ∷ bytes) (suc k) → not (b == 10) ≡ true
head_not b bytes k n = on (b == 10) refl
  where
    on : (t : Bool) → (b == 10) ≡ t → not (b == 10) ≡ true
    on true e = absurd (n 0 (omega arith) (omega arith) e)
    on false e = not_from_false (b == 10) e

tail_no : (b : ℕ) (bytes : List ℕ) (k : ℕ) → NoFeed (b ∷ bytes) (suc k) → NoFeed bytes k
tail_no b bytes k n j low high e = n (suc j) (omega arith) (omega arith) e

pub feed_none : (bytes : List ℕ) → NoFeed bytes (length bytes) → has_no_feed bytes ≡ true
feed_none [] n = refl
feed_none (b ∷ bytes) n = both_true (head_not b bytes (length bytes) n) (feed_none bytes (tail_no b bytes (length bytes) n))

-- a byte that is no line feed in front of an ended line
pub longer : (b : ℕ) (line : List ℕ) → not (b == 10) ≡ true → is_ended line ≡ true → is_ended (b ∷ line) ≡ true
longer b [] n e = absurd (cc)
longer b (c ∷ line) n e = both_true n e

ended_at : (bytes : List ℕ) (k : ℕ) → k < length bytes → NoFeed bytes k → (get_or bytes k 0 == 10) ≡ true → is_ended (take (suc k) bytes) ≡ true
ended_at [] k l n e = absurd (omega arith)
ended_at (b ∷ bytes) zero l n e = e
ended_at (b ∷ bytes) (suc k) l n e = longer b (take (suc k) bytes) (head_not b bytes k n) (ended_at bytes k (omega arith) (tail_no b bytes k n) e)

pub feed_found : (bytes : List ℕ) (k : ℕ) → k < length bytes → NoFeed bytes k → (get_or bytes k 0 == 10) ≡ true → is_ended (take (k + 1) bytes) ≡ true
feed_found bytes k l n e = rw add-one (ended_at bytes k l n e)
