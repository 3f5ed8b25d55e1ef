-- The third part of the rule: the places of banks, and the words that seats keep of them.
use Rattle.std.specs.Prelude.{◌≡◌, ◌≢◌, ℕ, ◌+◌, ◌<◌, ◌≤◌, List, take, All}
use mathlib.Core.Option.{some}
use lib.ListN.{get_elem?}
use Rattle.px_text.specs.declared.op.Op.{Op}
use Rattle.px_rule.specs.declared.view.Stand.{Stand}
use Rattle.px_rule.specs.declared.view.Found.{Found}
use Rattle.px_rule.specs.declared.view.Touch.{Touch}
use Rattle.px_text.specs.Operands.{Operand}
use Rattle.px_rule.specs.RightBanks.{RightBank}

module _ {E : Type 0} (nodes steps : ℕ) (path : ℕ → ℕ → ℕ) (long : ℕ → ℕ) (right : List E → Op → Operand → Operand → List ℕ → Type 0) where
  -- Bank and version of a kept word were reached, and while the bank has that version it stands and the word is at its place
  pub record Stays (stands : List Stand) (mem : ℕ → ℕ → ℕ) (f : Found) : Type 0 where
    pub bank : Stand
    pub at : get_elem? stands f.bank ≡ some bank
    pub reached : f.version ≤ bank.version
    pub still : f.version ≡ bank.version → (bank.building ≡ 0) × (mem f.bank f.place ≡ f.word)
    pub some_word : f.word ≢ 0
    pub within : f.place < nodes + steps

  -- `mem` gives the word at each place of each bank.
  pub record Places (log : List E) (stands : List Stand) (mem : ℕ → ℕ → ℕ) (views : List Touch) : Type 0 where
    pub standing : (k : ℕ) (b : Stand) → get_elem? stands k ≡ some b → b.building ≡ 0 → RightBank nodes steps path long (right (take b.version log)) (mem k)
    pub zeroed : (k : ℕ) (b : Stand) → get_elem? stands k ≡ some b → b.building ≡ 1 → (p : ℕ) → p < b.zeroed → mem k p ≡ 0
    pub each : (i : ℕ) (v : Touch) → get_elem? views i ≡ some v → All (Stays stands mem) v.kept
