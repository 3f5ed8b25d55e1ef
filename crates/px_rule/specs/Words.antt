-- Words of banks, words of facts, where they stand, and the paths on which a fact is looked for.
use Rattle.std.specs.Prelude.{ℕ, suc, ◌+◌, ◌-◌, ◌*◌, ◌/◌, ◌%◌, ◌^◌, ◌<◌, ◌≤◌, Bool, cond, eqb, leb, ◌&&◌, min, List, slice_index}
use Rattle.px_text.specs.declared.op.Op.{Op}
use Rattle.px_rule.specs.declared.shape.Shape.{Shape}
use Rattle.px_rule.specs.Kinds.{kind_of}

-- The word of a bank: its version, whether it is being built, and how many seats are counted in
abbrev pub packed : ℕ → ℕ → ℕ → ℕ
packed version building count = version * 1048576 + building * 65536 + count

abbrev pub version_of : ℕ → ℕ
version_of w = w / 1048576

abbrev pub building_of : ℕ → ℕ
building_of w = w / 65536 % 2

abbrev pub count_of : ℕ → ℕ
count_of w = w % 65536

-- the word shows that its bank stands at version n
abbrev pub shows : ℕ → ℕ → Bool
shows n w = eqb (version_of w) n && eqb (building_of w) 0

-- all bits but 16 to 19
abbrev pub mask : ℕ
mask = 18446744073708568575

-- what four fields of a fact hold
abbrev pub Small : ℕ → Type 0
Small n = n < 1048576

-- The word of a node: a set by its least element and the number of the set of the others
abbrev pub node_word : ℕ → ℕ → ℕ
node_word element tail = 1152921504606846976 + element * 1099511627776 + tail * 1048576

-- The word of a step with its result
abbrev pub step_word : Op → ℕ → ℕ → ℕ → ℕ
step_word op a b r = kind_of op * 1152921504606846976 + a * 1099511627776 + b * 1048576 + r

-- the key of a word: all but the result
abbrev pub key_of : ℕ → ℕ
key_of w = w / 1048576 * 1048576

abbrev pub is_node : ℕ → Bool
is_node key = eqb (key / 1152921504606846976) 1

-- Banks from 1 to 16, and bits from 4 to 20
abbrev pub IsShape : Shape → Type 0
IsShape z = (1 ≤ z.banks) × (z.banks ≤ 16) × (4 ≤ z.node_bits) × (z.node_bits ≤ 20) × (4 ≤ z.step_bits) × (z.step_bits ≤ 20)

abbrev pub nodes_of : Shape → ℕ
nodes_of z = 2 ^ z.node_bits

abbrev pub steps_of : Shape → ℕ
steps_of z = 2 ^ z.step_bits

-- how many places a bank has, its node places first
abbrev pub size_of : Shape → ℕ
size_of z = nodes_of z + steps_of z

-- where the path of a key begins
abbrev pub start_of : ℕ → ℕ
start_of key = (key / 1152921504606846976 * 40503 + key / 1099511627776 % 1048576 * 2654435761 + key / 1048576 % 1048576 * 2246822519) % 4294967296

-- The place at a turn of the path of a key
abbrev pub path_of : Shape → ℕ → ℕ → ℕ
path_of z key i = cond (is_node key) (1 + (start_of key + i) % (nodes_of z - 1)) (nodes_of z + (start_of key + i) % steps_of z)

-- how many places a path has
abbrev pub long_of : Shape → ℕ → ℕ
long_of z key = cond (is_node key) (min 64 (nodes_of z - 1)) (min 64 (steps_of z))

-- how many words there are: the version word, a word for each bank, and the places of each bank
abbrev pub words_of : Shape → ℕ
words_of z = suc (z.banks + z.banks * size_of z)

abbrev pub bank_at : ℕ → ℕ
bank_at k = suc k

abbrev pub place_at : Shape → ℕ → ℕ → ℕ
place_at z k p = suc (z.banks + k * size_of z + p)

-- the word of bank k, and that of a place of it
abbrev pub bank_word : Shape → List ℕ → ℕ → ℕ
bank_word z words k = cond (leb (suc k) z.banks) (slice_index words (bank_at k)) 0

abbrev pub place_word : Shape → List ℕ → ℕ → ℕ → ℕ
place_word z words k p = cond (leb (suc p) (size_of z)) (slice_index words (place_at z k p)) 0
