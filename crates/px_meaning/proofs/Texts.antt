-- The characters of nodes, one node at a time.
use Rattle.std.proofs.Common.{◌≡◌, ◌≢◌, ◌<◌, ℕ, zero, suc, ◌+◌, List, [], ◌∷◌, ◌++◌, length, take, drop, get_or, refl, ◌∙◌, sym, arith, append_assoc, append-nil, add-one, bytes_eq, Bool, true, false}
use Rattle.std.proofs.lemmas.List.{append_cancel_left}
use Rattle.std.proofs.lemmas.Slice.Eq.{bytes_eq-Decides}
use Rattle.px_text.specs.Nodes.{Nodes, characters, string_value}
use Rattle.px_tree.specs.declared.tree.Node.{Node, Elem', Text}
use Rattle.px_tree.specs.Trees.{nodes, then}
use Rattle.px_meaning.specs.Places.{place_of_node}

pub characters-then : (n : Node) (behind : Nodes) → characters (then n behind) ≡ string_value (place_of_node n) ++ characters behind
characters-then (Elem' name attributes _ children) behind = refl
characters-then (Text text) behind = refl

characters_at-suc : (xs : List Node) (i : ℕ) (n : Node) → i < length xs → n ≡ get_or xs i n →
    characters (nodes xs) ≡ characters (nodes (take i xs)) ++ (string_value (place_of_node n) ++ characters (nodes (drop (suc i) xs)))
characters_at-suc [] i n h e = absurd (omega arith)
characters_at-suc (x ∷ xs) zero n h e = rw e (characters-then x (nodes xs))
characters_at-suc (x ∷ xs) (suc i) n h e =
    let rest = characters_at-suc xs i n (omega arith) e in
    characters-then x (nodes xs) ∙ rw (rest, characters-then x (nodes (take i xs)), append_assoc)

-- the characters up to one node, those of that node, and those behind it
pub characters_at : (xs : List Node) (i : ℕ) (n : Node) → i < length xs → n ≡ get_or xs i n →
    characters (nodes xs) ≡ characters (nodes (take i xs)) ++ (string_value (place_of_node n) ++ characters (nodes (drop (i + 1) xs)))
characters_at xs i n h e = rw add-one (characters_at-suc xs i n h e)

characters_more-suc : (xs : List Node) (i : ℕ) (n : Node) → i < length xs → n ≡ get_or xs i n →
    characters (nodes (take (suc i) xs)) ≡ characters (nodes (take i xs)) ++ string_value (place_of_node n)
characters_more-suc [] i n h e = absurd (omega arith)
characters_more-suc (x ∷ xs) zero n h e = rw e (characters-then x (nodes []) ∙ append-nil _)
characters_more-suc (x ∷ xs) (suc i) n h e =
    let rest = characters_more-suc xs i n (omega arith) e in
    characters-then x (nodes (take (suc i) xs)) ∙ rw (rest, characters-then x (nodes (take i xs)), append_assoc)

-- the characters up to one node, and those of that node
pub characters_more : (xs : List Node) (i : ℕ) (n : Node) → i < length xs → n ≡ get_or xs i n →
    characters (nodes (take (i + 1) xs)) ≡ characters (nodes (take i xs)) ++ string_value (place_of_node n)
characters_more xs i n h e = rw add-one (characters_more-suc xs i n h e)

-- a text that begins with a piece more, where what was left of it begins so
pub begins_longer : (text front rest piece next : List ℕ) → text ≡ front ++ rest → rest ≡ piece ++ next → text ≡ (front ++ piece) ++ next
begins_longer text front rest piece next e f = rw append_assoc (rw (← f) e)

-- a text does not begin with pieces where what is left behind the first of them does not begin with the next
pub begins_no_longer : (text front rest piece behind more : List ℕ) → text ≡ front ++ rest → ((r : List ℕ) → rest ≢ piece ++ r) →
    text ≢ (front ++ (piece ++ behind)) ++ more
begins_no_longer text front rest piece behind more e h f =
    let both : front ++ rest ≡ front ++ (piece ++ (behind ++ more)) = sym e ∙ f ∙ simp append_assoc in
    h (behind ++ more) (append_cancel_left front rest (piece ++ (behind ++ more)) both)

-- a text that a literal does not begin with is not that literal
pub differs : (text literal : List ℕ) → ((rest : List ℕ) → literal ≢ text ++ rest) → bytes_eq text literal ≡ false
differs text literal h = cases (bytes_eq text literal) refl
  where
    cases : (b : Bool) → bytes_eq text literal ≡ b → b ≡ false
    cases false e = refl
    cases true e = absurd (h [] (sym ((bytes_eq-Decides text literal).0 e) ∙ sym (append-nil text)))
