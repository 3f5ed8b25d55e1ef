-- A scan of the words gives their uses.
use Rattle.std.proofs.Common.{◌≡◌, ◌∙◌, ◌∷◌, [], Bool, true, false, not, ◌&&◌, ◌++◌, List, Option, Some, None, refl, sym, ap, option_map, option_and_then, append_assoc, append-nil}
use Rattle.std.specs.List.{list_all}
use Rattle.std.proofs.lemmas.Bool.{and_from, and_parts}
use Rattle.clap.specs.Lexer.{long_of}
use Rattle.clap.specs.Walk.{Text}
use Rattle.px_options.specs.OptionAnswers.{is_word}
use Rattle.px_options.specs.OptionWords.{Use, is_numeral, uses_behind, uses_by}
use Rattle.px_options.proofs.Alike.{not_none, not_some, some_same}
use Rattle.px_options.proofs.Lookups.{knows}
use Rattle.px_options.proofs.Scan.{Stand, Idle, Asked, all_uses, has_use, is_bundle, scan, settles, step_from, when}
use Rattle.px_options.proofs.Spellings.{numeral_plain, spelling, spelt_is}
use Rattle.px_options.proofs.Turns.{is_known_stand}

abbrev pub is_named : List Text → Use → Bool
is_named names one = knows names one.0

abbrev pub is_numbered : Use → Bool
is_numbered one = is_numeral one.1

-- each use is the first of its option
abbrev pub adds : (before more : List Use) → Bool
adds before [] = true
adds before (one ∷ more) = not (has_use one.0 before) && adds (before ++ one ∷ []) more

-- the uses that were scanned, and those that the words behind give
abbrev pub before : Stand → List Use
before (Idle uses last) = all_uses uses last
before (Asked uses name) = uses

abbrev pub is_first : Stand → Bool
is_first (Idle uses last) = settles uses last
is_first (Asked uses name) = true

abbrev pub uses_after : Stand → List Text → Option (List Use)
uses_after (Idle uses last) words = uses_behind None words
uses_after (Asked uses name) words = uses_behind (Some name) words

pub record Found (names : List Text) (stand : Stand) (words : List Text) (all : List Use) : Type 0 where
  pub more : List Use
  pub given : uses_after stand words ≡ Some more
  pub whole : all ≡ before stand ++ more
  pub named : list_all (is_named names) more ≡ true
  pub once : adds (before stand) more ≡ true
  pub first : is_first stand ≡ true

-- a step that was taken was allowed
taken : (b : Bool) (next : Stand) (go_on : Stand → Option (List Use)) (all : List Use) → option_and_then go_on (when b next) ≡ Some all → (b ≡ true) × (go_on next ≡ Some all)
taken true next go_on all e = (refl, e)
taken false next go_on all e = absurd (not_some e)

module _ (names : List Text) where
  -- the uses that words give by what the first is
  abbrev uses_looked : Option (Text × Option Text) → List Text → Option (List Use)
  uses_looked look words = uses_by (spelling look) (λ waiting. uses_behind waiting words)

  first_use : (word : Text) (words : List Text) (look : Option (Text × Option Text)) → is_word word ≡ true → long_of word ≡ look
      → uses_behind None (word ∷ words) ≡ uses_looked look words
  first_use word words look whole e = ap (λ s. uses_by s (λ waiting. uses_behind waiting words)) (spelt_is word whole ∙ ap spelling e)

  idle_found : (uses : List Use) (last : Option Use) (word : Text) (words : List Text) (all : List Use) → is_word word ≡ true
      → (look : Option (Text × Option Text)) → long_of word ≡ look → ((stand : Stand) → is_known_stand names stand ≡ true → scan names stand words ≡ Some all → Found names stand words all)
      → option_and_then (λ next. scan names next words) (step_from names (Idle uses last) word look) ≡ Some all
      → Found names (Idle uses last) (word ∷ words) all
  idle_found uses last word words all whole None el behind e = absurd (not_some e)
  idle_found uses last word words all whole (Some (name, None)) el behind e =
      let step = taken (knows names name && settles uses last) (Asked (all_uses uses last) name) (λ next. scan names next words) all e in
      let parts = and_parts (knows names name) (settles uses last) step.0 in
      let found = behind (Asked (all_uses uses last) name) parts.0 step.1 in
      record {
        more = found.more;
        given = first_use word words _ whole el ∙ found.given;
        whole = found.whole;
        named = found.named;
        once = found.once;
        first = parts.1;
      }
  idle_found uses last word words all whole (Some (name, Some text)) el behind e =
      let step = taken (knows names name && (settles uses last && not (has_use name (all_uses uses last)))) (Idle (all_uses uses last ++ (name, text) ∷ []) None)
      (λ next. scan names next words) all e in
      let parts = and_parts (knows names name) _ step.0 in
      let inner = and_parts (settles uses last) _ parts.1 in
      let found = behind (Idle (all_uses uses last ++ (name, text) ∷ []) None) refl step.1 in
      record {
        more = (name, text) ∷ found.more;
        given = first_use word words _ whole el ∙ ap (option_map (λ uses. (name, text) ∷ uses)) found.given;
        whole = found.whole ∙ append_assoc (all_uses uses last) ((name, text) ∷ []) found.more;
        named = and_from _ _ parts.0 found.named;
        once = and_from _ _ inner.1 found.once;
        first = inner.0;
      }

  asked_found : (uses : List Use) (name word : Text) (words : List Text) (all : List Use) → knows names name ≡ true
      → (look : Option (Text × Option Text)) → ((stand : Stand) → is_known_stand names stand ≡ true → scan names stand words ≡ Some all → Found names stand words all)
      → option_and_then (λ next. scan names next words) (step_from names (Asked uses name) word look) ≡ Some all
      → Found names (Asked uses name) (word ∷ words) all
  asked_found uses name word words all known (Some long) behind e = absurd (not_some e)
  asked_found uses name word words all known None behind e =
      let step = taken (not (is_bundle word)) (Idle uses (Some (name, word))) (λ next. scan names next words) all e in
      let found = behind (Idle uses (Some (name, word))) known step.1 in
      record {
        more = (name, word) ∷ found.more;
        given = ap (option_map (λ uses. (name, word) ∷ uses)) found.given;
        whole = found.whole ∙ append_assoc uses ((name, word) ∷ []) found.more;
        named = and_from _ _ known found.named;
        once = and_from _ _ found.first found.once;
        first = refl;
      }

  pub found_by_scan : (words : List Text) → list_all is_word words ≡ true → (stand : Stand) (all : List Use) → is_known_stand names stand ≡ true
      → scan names stand words ≡ Some all → Found names stand words all
  found_by_scan [] whole (Asked uses name) all known e = absurd (not_some e)
  found_by_scan [] whole (Idle uses last) all known e = go (settles uses last) refl
    where
      go : (b : Bool) → settles uses last ≡ b → Found names (Idle uses last) [] all
      go true eb =
          let same : Some (all_uses uses last) ≡ Some all = rw eb at e in
          record { more = []; given = refl; whole = sym (some_same same) ∙ sym (append-nil (all_uses uses last)); named = refl; once = refl; first = eb }
      go false eb = let none : None ≡ Some all = rw eb at e in absurd (not_some none)
  found_by_scan (word ∷ words) whole (Idle uses last) all known e =
      idle_found uses last word words all (and_parts _ _ whole).0 (long_of word) refl (λ stand. found_by_scan words (and_parts _ _ whole).1 stand all) e
  found_by_scan (word ∷ words) whole (Asked uses name) all known e =
      asked_found uses name word words all known (long_of word) (λ stand. found_by_scan words (and_parts _ _ whole).1 stand all) e

-- ---- words that give numbers once to options are scanned

-- what a list of uses is behind its first
pub record Splits (first : Use) (rest : Option (List Use)) (more : List Use) : Type 0 where
  pub others : List Use
  pub behind : rest ≡ Some others
  pub parts : more ≡ first ∷ others

pub split_more : (first : Use) (rest : Option (List Use)) (more : List Use) → option_map (λ uses. first ∷ uses) rest ≡ Some more → Splits first rest more
split_more first None more e = absurd (not_some e)
split_more first (Some others) more e = record { others = others; behind = refl; parts = sym (some_same e) }

abbrev Fits : List Text → Stand → List Use → Type 0
Fits names stand more =
    (list_all (is_named names) more ≡ true) × (list_all is_numbered more ≡ true) × (adds (before stand) more ≡ true) × (is_first stand ≡ true)

module _ (names : List Text) where
  pub asked_named : (name : Text) (words : List Text) (more : List Use) → uses_behind (Some name) words ≡ Some more → list_all (is_named names) more ≡ true → knows names name ≡ true
  asked_named name [] more e named = absurd (not_some e)
  asked_named name (word ∷ words) more e named =
      let split = split_more (name, word) (uses_behind None words) more e in
      let all : list_all (is_named names) ((name, word) ∷ split.others) ≡ true = ap (list_all (is_named names)) (sym split.parts) ∙ named in
      (and_parts (knows names name) _ all).0

  abbrev Misses : Stand → List Text → Type 0
  Misses stand words = scan names stand words ≡ None → ⊥

  idle_scanned : (uses : List Use) (last : Option Use) (word : Text) (words : List Text) (more : List Use) → is_word word ≡ true
      → (look : Option (Text × Option Text)) → long_of word ≡ look
      → ((stand : Stand) (others : List Use) → uses_after stand words ≡ Some others → Fits names stand others → Misses stand words)
      → uses_behind None (word ∷ words) ≡ Some more → Fits names (Idle uses last) more
      → option_and_then (λ next. scan names next words) (step_from names (Idle uses last) word look) ≡ None → ⊥
  idle_scanned uses last word words more whole None el behind e fits = absurd (not_some (sym (first_use names word words _ whole el) ∙ e))
  idle_scanned uses last word words more whole (Some (name, None)) el behind e fits =
      let given : uses_behind (Some name) words ≡ Some more = sym (first_use names word words _ whole el) ∙ e in
      rw (asked_named name words more given fits.0, fits.3) (behind (Asked (all_uses uses last) name) more given (fits.0, fits.1, fits.2, refl))
  idle_scanned uses last word words more whole (Some (name, Some text)) el behind e fits =
      let split = split_more (name, text) (uses_behind None words) more (sym (first_use names word words _ whole el) ∙ e) in
      let named = and_parts (knows names name) _ (ap (list_all (is_named names)) (sym split.parts) ∙ fits.0) in
      let numbered = and_parts (is_numeral text) _ (ap (list_all is_numbered) (sym split.parts) ∙ fits.1) in
      let once = and_parts (not (has_use name (all_uses uses last))) _ (ap (adds (all_uses uses last)) (sym split.parts) ∙ fits.2) in
      rw (named.0, fits.3, once.0) (behind (Idle (all_uses uses last ++ (name, text) ∷ []) None) split.others split.behind (named.1, numbered.1, once.1, refl))

  asked_scanned : (uses : List Use) (name word : Text) (words : List Text) (more : List Use)
      → ((stand : Stand) (others : List Use) → uses_after stand words ≡ Some others → Fits names stand others → Misses stand words)
      → uses_behind (Some name) (word ∷ words) ≡ Some more → Fits names (Asked uses name) more
      → scan names (Asked uses name) (word ∷ words) ≡ None → ⊥
  asked_scanned uses name word words more behind e fits =
      let split = split_more (name, word) (uses_behind None words) more e in
      let named = and_parts (knows names name) _ (ap (list_all (is_named names)) (sym split.parts) ∙ fits.0) in
      let numbered = and_parts (is_numeral word) _ (ap (list_all is_numbered) (sym split.parts) ∙ fits.1) in
      let once = and_parts (not (has_use name uses)) _ (ap (adds uses) (sym split.parts) ∙ fits.2) in
      let plain = numeral_plain word numbered.0 in
      rw (plain.0, plain.1) (behind (Idle uses (Some (name, word))) split.others split.behind (named.1, numbered.1, once.1, once.0))

  pub scanned : (words : List Text) → list_all is_word words ≡ true → (stand : Stand) (more : List Use) → uses_after stand words ≡ Some more → Fits names stand more
      → scan names stand words ≡ None → ⊥
  scanned [] whole (Asked uses name) more e fits = absurd (not_some e)
  scanned [] whole (Idle uses last) more e fits = rw fits.3 not_none
  scanned (word ∷ words) whole (Idle uses last) more e fits =
      idle_scanned uses last word words more (and_parts _ _ whole).0 (long_of word) refl (scanned words (and_parts _ _ whole).1) e fits
  scanned (word ∷ words) whole (Asked uses name) more e fits = asked_scanned uses name word words more (scanned words (and_parts _ _ whole).1) e fits
