-- The generator of feeds: first the adds, then the documents with the drops between them.
use Rattle.std.specs.Prelude.{ℕ, zero, suc, ◌+◌, ◌*◌, ◌/◌, ◌%◌, ◌==◌, ◌&&◌, nat_le, List, [], ◌∷◌, ◌++◌, codes, decimal, if◌then◌else◌}

-- the state behind a draw
unfoldable pub drawn : ℕ → ℕ
drawn x = (x * 1103515245 + 12345) % 2147483648

-- the state behind so many draws
abbrev pub after : (draws x : ℕ) → ℕ
after zero x = x
after (suc draws) x = after draws (drawn x)

-- what the n-th draw below k from the state x gives
abbrev pub draw : (n k x : ℕ) → ℕ
draw n k x = after n x / 65536 % k

-- that draw as a digit
abbrev pub digit : (n k x : ℕ) → List ℕ
digit n k x = (48 + draw n k x) ∷ []

-- the add line of a kind, with its first digit, from the state before the further draws
abbrev pub add_of : ℕ → List ℕ → ℕ → List ℕ
add_of zero a x = codes "+//e" ++ a ++ codes "[@k=" ++ digit 1 10 x ++ codes "]\n"
add_of (suc zero) a x = codes "+/r/e" ++ a ++ codes "/e" ++ digit 1 8 x ++ codes "\n"
add_of (suc (suc zero)) a x = codes "+//e" ++ a ++ codes "[not(e" ++ digit 1 8 x ++ codes ")]\n"
add_of _ a x = codes "+//e" ++ a ++ codes "[text()>" ++ digit 1 10 x ++ codes " or .//e" ++ digit 2 8 x ++ codes "]\n"

-- how many further draws an add of a kind takes
abbrev pub further : ℕ → ℕ
further zero = 1
further (suc zero) = 1
further (suc (suc zero)) = 1
further _ = 2

-- the next add: its kind is drawn below 4, and then its first digit below 8
abbrev pub add : ℕ → List ℕ
add x = add_of (draw 1 4 x) (digit 2 8 x) (after 2 x)

abbrev pub after_add : ℕ → ℕ
after_add x = after (further (draw 1 4 x)) (after 2 x)

-- so many adds, and the state behind them
abbrev pub adds : (count x : ℕ) → List ℕ
adds zero x = []
adds (suc count) x = add x ++ adds count (after_add x)

abbrev pub after_adds : (count x : ℕ) → ℕ
after_adds zero x = x
after_adds (suc count) x = after_adds count (after_add x)

-- a group of a document: an element with an attribute, and in it an element with a text
abbrev pub group : ℕ → List ℕ
group x =
    codes "(e" ++ digit 1 8 x ++ codes "\nAk " ++ digit 2 10 x ++ codes "\n(e" ++ digit 3 8 x ++ codes "\n-" ++ digit 4 10 x
    ++ codes "\n)e" ++ digit 3 8 x ++ codes "\n)e" ++ digit 1 8 x ++ codes "\n"

abbrev pub groups : (count x : ℕ) → List ℕ
groups zero x = []
groups (suc count) x = group x ++ groups count (after 4 x)

abbrev pub document : ℕ → List ℕ
document x = codes "(r\n" ++ groups 4 x ++ codes ")r\n"

-- the drop before a document: every sixteenth has one, while there are filters
abbrev pub drop_before : (filters number : ℕ) → List ℕ
drop_before filters number =
    if number % 16 == 0 && nat_le (number / 16) filters then codes "~" ++ decimal (number / 16) ++ codes "\n" else []

-- so many documents, from the one with this number on
abbrev pub documents : (filters count number x : ℕ) → List ℕ
documents filters zero number x = []
documents filters (suc count) number x = drop_before filters number ++ document x ++ documents filters count (number + 1) (after 16 x)

-- the feed of a seed, with so many filters and documents
abbrev pub feed : (seed filters count : ℕ) → List ℕ
feed seed filters count = adds filters seed ++ documents filters count 1 (after_adds filters seed)
