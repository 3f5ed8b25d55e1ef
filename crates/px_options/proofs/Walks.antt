-- Where clap has a fault, and which rows it keeps, by a scan of the words.
use Rattle.std.proofs.Common.{◌≡◌, ◌∙◌, ◌++◌, ◌∷◌, [], Bool, true, false, not, ◌&&◌, List, Option, Some, None, refl, sym, ap, subst₂, option_and_then}
use Rattle.std.specs.Prelude.{fold}
use Rattle.std.specs.List.{list_all}
use Rattle.std.proofs.lemmas.Bool.{and_parts, not-true}
use Rattle.clap.specs.Lexer.{long_of}
use Rattle.clap.specs.Kinds.{Kinds, or_else}
use Rattle.clap.specs.Faults.{settle_fault, turn_fault, walk_fault}
use Rattle.clap.specs.Walk.{Text, Row, Walk, settled, walked}
use Rattle.clap.specs.Simple.{Shape}
use Rattle.clap.specs.declared.error.kind.ErrorKind.{ErrorKind}
use Rattle.px_options.specs.OptionAnswers.{is_word}
use Rattle.px_options.specs.OptionWords.{Use}
use Rattle.px_options.proofs.Lookups.{built_shape, knows}
use Rattle.px_options.proofs.Rows.{rows_for, walk_of}
use Rattle.px_options.proofs.Scan.{Stand, Idle, Asked, all_uses, end, scan, settles, step, step_from, when, has_use, is_bundle}
use Rattle.px_options.proofs.Turns.{Turns, is_known_stand, settle_kinds, settled_uses, settling, turn, unsettled}

-- the fault of the words that are left
abbrev pub rest_fault : Shape → Walk → List Text → Kinds
rest_fault s w words = or_else (walk_fault s [] w words) (settle_fault s.rules false (fold (walked s.rules []) w words).held)

abbrev pub rest_rows : Shape → Walk → List Text → List Row
rest_rows s w words = (settled s.rules (fold (walked s.rules []) w words).held).rows

abbrev pub Agrees : Kinds → List Row → Option (List Use) → Type 0
Agrees fault rows None = fault ≡ [] → ⊥
Agrees fault rows (Some uses) = (fault ≡ []) × (rows ≡ rows_for uses)

stays_faulty : (a b : Kinds) → (a ≡ [] → ⊥) → or_else a b ≡ [] → ⊥
stays_faulty [] b some e = some refl
stays_faulty (k ∷ ks) b some e = some e

has_kind : {fault : Kinds} {k : ErrorKind} → fault ≡ k ∷ [] → fault ≡ [] → ⊥
has_kind some none = absurd (cc)

behind_none : (a b : Kinds) → a ≡ [] → or_else a b ≡ b
behind_none a b e = ap (λ ks. or_else ks b) e

or_else-assoc : (a b c : Kinds) → or_else (or_else a b) c ≡ or_else a (or_else b c)
or_else-assoc [] b c = refl
or_else-assoc (k ∷ ks) b c = refl

one_more : (s : Shape) (w : Walk) (word : Text) (words : List Text) → rest_fault s w (word ∷ words) ≡ or_else (turn_fault s [] w word) (rest_fault s (walked s.rules [] w word) words)
unfolding walk_fault
one_more s w word words = or_else-assoc (turn_fault s [] w word) _ _

no_more : (s : Shape) (w : Walk) → rest_fault s w [] ≡ settle_fault s.rules false w.held
unfolding walk_fault
no_more s w = refl

abbrev IsKnownNext : List Text → Option Stand → Type 0
IsKnownNext names None = Unit {0}
IsKnownNext names (Some next) = is_known_stand names next ≡ true

known_when : (names : List Text) (b : Bool) (next : Stand) → (b ≡ true → is_known_stand names next ≡ true) → IsKnownNext names (when b next)
known_when names true next known = known refl
known_when names false next known = tt

known_next : (names : List Text) (stand : Stand) (word : Text) (look : Option (Text × Option Text)) → is_known_stand names stand ≡ true
    → IsKnownNext names (step_from names stand word look)
known_next names (Idle uses last) word None known = tt
known_next names (Idle uses last) word (Some (name, None)) known = known_when names _ (Asked (all_uses uses last) name) (λ e. (and_parts (knows names name) _ e).0)
known_next names (Idle uses last) word (Some (name, Some text)) known =
    known_when names (knows names name && (settles uses last && not (has_use name (all_uses uses last)))) (Idle (all_uses uses last ++ (name, text) ∷ []) None) (λ e. refl)
known_next names (Asked uses name) word None known = known_when names (not (is_bundle word)) (Idle uses (Some (name, word))) (λ e. known)
known_next names (Asked uses name) word (Some pair) known = tt

module _ (label : Text) (names : List Text) where
  stops : (stand : Stand) → is_known_stand names stand ≡ true
      → Agrees (rest_fault (built_shape label names) (walk_of stand) []) (rest_rows (built_shape label names) (walk_of stand) []) (end stand)
  stops (Asked uses name) known = has_kind (no_more (built_shape label names) (walk_of (Asked uses name)) ∙ unsettled names uses name known)
  stops (Idle uses last) known = go (settles uses last) refl
    where
      go : (b : Bool) → settles uses last ≡ b
          → Agrees (rest_fault (built_shape label names) (walk_of (Idle uses last)) []) (rest_rows (built_shape label names) (walk_of (Idle uses last)) []) (end (Idle uses last))
      go true e = rw e (no_more (built_shape label names) (walk_of (Idle uses last)) ∙ settling names uses last known ∙ ap settle_kinds e, settled_uses names uses last known e)
      go false e = rw (e, no_more (built_shape label names) (walk_of (Idle uses last)) ∙ settling names uses last known ∙ ap settle_kinds e) (λ f. absurd (cc))

  pub walks : (words : List Text) → list_all is_word words ≡ true → (stand : Stand) → is_known_stand names stand ≡ true
      → Agrees (rest_fault (built_shape label names) (walk_of stand) words) (rest_rows (built_shape label names) (walk_of stand) words) (scan names stand words)
  walks [] all stand known = stops stand known
  walks (word ∷ words) all stand known =
      go (step names stand word) (turn label names word (not-true _ parts.0) stand known) (known_next names stand word (long_of word) known) (walks words parts.1)
    where
      parts : (is_word word ≡ true) × (list_all is_word words ≡ true)
      parts = and_parts (is_word word) _ all

      s : Shape
      s = built_shape label names

      go : (next : Option Stand) → Turns s (walk_of stand) word next → IsKnownNext names next
          → ((behind : Stand) → is_known_stand names behind ≡ true → Agrees (rest_fault s (walk_of behind) words) (rest_rows s (walk_of behind) words) (scan names behind words))
          → Agrees (rest_fault s (walk_of stand) (word ∷ words)) (rest_rows s (walk_of stand) (word ∷ words)) (option_and_then (λ behind. scan names behind words) next)
      go None turns knows-next rest = λ e. stays_faulty _ _ turns (sym (one_more s (walk_of stand) word words) ∙ e)
      go (Some behind) turns knows-next rest =
          subst₂ (λ f rows. Agrees f rows (scan names behind words))
          (sym (one_more s (walk_of stand) word words ∙ behind_none _ _ turns.0 ∙ ap (λ w. rest_fault s w words) turns.1))
          (ap (λ w. rest_rows s w words) (sym turns.1)) (rest behind knows-next)
