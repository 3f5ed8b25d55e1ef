-- One word more, as clap's walk takes it.
use Rattle.std.proofs.Common.{◌≡◌, ◌∙◌, ◌∷◌, [], ℕ, Bool, true, false, not, ◌&&◌, List, Option, Some, None, refl, sym, ap, is_some, if◌then◌else◌, slice_get}
use Rattle.std.specs.Prelude.{bytes_eq}
use Rattle.std.specs.Str.{chars}
use Rattle.std.proofs.lemmas.Bool.{not-true}
use Rattle.clap.specs.Lexer.{long_of, short_of}
use Rattle.clap.specs.Kinds.{Kinds, or_else}
use Rattle.clap.specs.Faults.{turn_fault, word_fault, flag_word_fault, step_fault, settle_fault, use_fault, bundle_fault, flags_fault}
use Rattle.clap.specs.Walk.{Text, Held, plain, plain_word, Walk, Waiting, idle, option, after_step, arg_by_long, bundle, bundle_met, long_or_other, settled, subcommand_met, walked, word_met, used}
use Rattle.clap.specs.Simple.{Shape}
use Rattle.clap.specs.declared.error.kind.ErrorKind.TheVariants as kind
use Rattle.px_options.specs.OptionWords.{Use}
use Rattle.px_options.proofs.Alike.{same_self}
use Rattle.px_options.proofs.Lookups.{built_shape, by_id, by_index, by_long, by_short, known_rule, knows, option_rule, rules_for}
use Rattle.px_options.proofs.Rows.{has_row_for, pending_for, rows_for, used_fresh, walk_at, walk_of}
use Rattle.px_options.proofs.Scan.{Stand, Idle, Asked, all_uses, has_use, is_bundle, long_step, settles, step, step_from, when}

-- an option that waits or is not settled is one of the command's
abbrev pub is_known_last : List Text → Option Use → Bool
is_known_last names None = true
is_known_last names (Some one) = knows names one.0

abbrev pub is_known_stand : List Text → Stand → Bool
is_known_stand names (Idle uses last) = is_known_last names last
is_known_stand names (Asked uses name) = knows names name

-- the walk takes the word so, or has a fault at it
abbrev pub Turns : Shape → Walk → Text → Option Stand → Type 0
Turns s w word None = turn_fault s [] w word ≡ [] → ⊥
Turns s w word (Some next) = (turn_fault s [] w word ≡ []) × (walked s.rules [] w word ≡ walk_of next)

-- ---- a use that is settled

abbrev pub settle_kinds : Bool → Kinds
settle_kinds true = []
settle_kinds false = kind.ArgumentConflict ∷ []

repeats : (b : Bool) → or_else (if b && true then kind.ArgumentConflict ∷ [] else []) [] ≡ settle_kinds (not b)
repeats true = refl
repeats false = refl

pub use_once : (name text : Text) (uses : List Use) → use_fault false (option_rule name) (text ∷ []) (rows_for uses) ≡ settle_kinds (not (has_use name uses))
use_once name text uses = rw (has_row_for name uses) (repeats (has_use name uses))

pub settling : (names : List Text) (uses : List Use) (last : Option Use) → is_known_last names last ≡ true
    → settle_fault (rules_for names) false (walk_of (Idle uses last)).held ≡ settle_kinds (settles uses last)
settling names uses None e = refl
settling names uses (Some one) e = rw (by_id names one.0, e) (use_once one.0 one.1 uses)

-- an option that waits has no value yet
pub unsettled : (names : List Text) (uses : List Use) (name : Text) → knows names name ≡ true
    → settle_fault (rules_for names) false (walk_of (Asked uses name)).held ≡ kind.InvalidValue ∷ []
unsettled names uses name known = rw (by_id names name, known) refl

pub settled_uses : (names : List Text) (uses : List Use) (last : Option Use) → is_known_last names last ≡ true → settles uses last ≡ true
    → (settled (rules_for names) (walk_of (Idle uses last)).held).rows ≡ rows_for (all_uses uses last)
settled_uses names uses None e once = refl
settled_uses names uses (Some one) e once = rw (by_id names one.0, e) (used_fresh one.0 one.1 uses (not-true _ once))

-- ---- a word

module _ (label : Text) (names : List Text) (word : Text) (whole : bytes_eq word (45 ∷ 45 ∷ []) ≡ false) where
  meets : (waiting : Waiting) (h : Held) → subcommand_met [] waiting word ≡ None
      → word_met (rules_for names) [] false waiting 1 word h ≡ long_or_other (rules_for names) waiting word (long_of word) h
  meets waiting h none = rw (none, whole) refl

  faults : (waiting : Waiting) (h : Held) → subcommand_met [] waiting word ≡ None
      → word_fault (built_shape label names) [] false waiting word h ≡ flag_word_fault (rules_for names) false (long_of word) word h
  faults waiting h none = rw (none, whole) refl

  -- the fault of the turn, and the walk after it, by what the word looks like
  abbrev looks_fault : Waiting → Held → Option (Text × Option Text) → Kinds
  looks_fault waiting h look =
      or_else (flag_word_fault (rules_for names) false look word h)
      (step_fault (built_shape label names) 1 (long_or_other (rules_for names) waiting word look h).0 (long_or_other (rules_for names) waiting word look h).1)

  abbrev looks_walk : Walk → Option (Text × Option Text) → Walk
  looks_walk w look =
      after_step (rules_for names) word w (long_or_other (rules_for names) w.waiting word look w.held).0 (long_or_other (rules_for names) w.waiting word look w.held).1

  looks : (rows : _) (pending : _) (waiting : Waiting) → subcommand_met [] waiting word ≡ None
      → turn_fault (built_shape label names) [] (walk_at rows pending waiting) word ≡ looks_fault waiting (walk_at rows pending waiting).held (long_of word)
  looks rows pending waiting none = rw (none, whole) refl

  looks_after : (rows : _) (pending : _) (waiting : Waiting) → subcommand_met [] waiting word ≡ None
      → walked (rules_for names) [] (walk_at rows pending waiting) word ≡ looks_walk (walk_at rows pending waiting) (long_of word)
  unfolding walked
  looks_after rows pending waiting none = rw (none, whole) refl

  abbrev Looks : Walk → Option (Text × Option Text) → Option Stand → Type 0
  Looks w look None = looks_fault w.waiting w.held look ≡ [] → ⊥
  Looks w look (Some next) = (looks_fault w.waiting w.held look ≡ []) × (looks_walk w look ≡ walk_of next)

  looked_up : (name : Text) (b : Bool) → knows names name ≡ b → arg_by_long (rules_for names) name ≡ known_rule b name
  looked_up name b e = by_long names name ∙ ap (λ k. known_rule k name) e

  settles_by : (uses : List Use) (last : Option Use) (b : Bool) → is_known_last names last ≡ true → settles uses last ≡ b
      → settle_fault (rules_for names) false (walk_of (Idle uses last)).held ≡ settle_kinds b
  settles_by uses last b known e = settling names uses last known ∙ ap settle_kinds e

  -- `--name` where nothing waits
  idle_alone : (uses : List Use) (last : Option Use) (name : Text) → is_known_last names last ≡ true
      → Looks (walk_of (Idle uses last)) (Some (name, None)) (long_step names uses last (name, None))
  idle_alone uses last name known = go (knows names name) (settles uses last) refl refl
    where
      go : (b d : Bool) → knows names name ≡ b → settles uses last ≡ d
          → Looks (walk_of (Idle uses last)) (Some (name, None)) (long_step names uses last (name, None))
      go false d eb ed = rw (eb, looked_up name false eb) (λ e. absurd (cc))
      go true false eb ed = rw (eb, ed, looked_up name true eb, settles_by uses last false known ed) (λ e. absurd (cc))
      go true true eb ed =
          rw (eb, ed, looked_up name true eb, settles_by uses last true known ed) (refl, ap (λ rows. walk_at rows (Some (name, [])) (option name)) (settled_uses names uses last known ed))

  -- `--name=text` where nothing waits
  idle_whole : (uses : List Use) (last : Option Use) (name text : Text) → is_known_last names last ≡ true
      → Looks (walk_of (Idle uses last)) (Some (name, Some text)) (long_step names uses last (name, Some text))
  idle_whole uses last name text known = go (knows names name) (settles uses last) (has_use name (all_uses uses last)) refl refl refl
    where
      once : (f : Bool) → settles uses last ≡ true → has_use name (all_uses uses last) ≡ f
          → use_fault false (option_rule name) (text ∷ []) (settled (rules_for names) (walk_of (Idle uses last)).held).rows ≡ settle_kinds (not f)
      once f ed ef = ap (use_fault false (option_rule name) (text ∷ [])) (settled_uses names uses last known ed) ∙ use_once name text (all_uses uses last) ∙ ap (λ b. settle_kinds (not b)) ef

      go : (b d f : Bool) → knows names name ≡ b → settles uses last ≡ d → has_use name (all_uses uses last) ≡ f
          → Looks (walk_of (Idle uses last)) (Some (name, Some text)) (long_step names uses last (name, Some text))
      go false d f eb ed ef = rw (eb, looked_up name false eb) (λ e. absurd (cc))
      go true false f eb ed ef = rw (eb, ed, looked_up name true eb, settles_by uses last false known ed) (λ e. absurd (cc))
      go true true true eb ed ef = rw (eb, ed, ef, looked_up name true eb, settles_by uses last true known ed, once true ed ef) (λ e. absurd (cc))
      go true true false eb ed ef =
          rw (eb, ed, ef, looked_up name true eb, settles_by uses last true known ed, once false ed ef) (
            refl,
            ap (λ rows. walk_at (used (option_rule name) (text ∷ []) rows) None idle) (settled_uses names uses last known ed)
                ∙ ap (λ rows. walk_at rows None idle) (used_fresh name text (all_uses uses last) ef),
          )

  -- a word of hyphen and characters is no short option of the command's
  bundle_unknown : (rows : _) (pending : _) (waiting : Waiting) (flags : Text) → is_some (slice_get (chars flags) 0) ≡ true
      → bundle_fault (rules_for names) false flags (walk_at rows pending waiting).held ≡ kind.UnknownArgument ∷ []
  unfolding flags_fault chars
  bundle_unknown rows pending waiting [] some = absurd (cc)
  bundle_unknown rows pending waiting (b ∷ flags) some = go (slice_get (chars (b ∷ flags)) 0) refl some
    where
      go : (first : Option ℕ) → slice_get (chars (b ∷ flags)) 0 ≡ first → is_some first ≡ true
          → bundle_fault (rules_for names) false (b ∷ flags) (walk_at rows pending waiting).held ≡ kind.UnknownArgument ∷ []
      go None e some = absurd (cc)
      go (Some x) e some = rw (e, by_short names x) refl

  bundle_empty : (rows : _) (pending : _) (waiting : Waiting) (flags : Text) → is_some (slice_get (chars flags) 0) ≡ false
      → (bundle_fault (rules_for names) false flags (walk_at rows pending waiting).held ≡ [])
      × (bundle (rules_for names) flags (walk_at rows pending waiting).held ≡ ((walk_at rows pending waiting).held, plain))
  unfolding flags_fault bundle_met
  bundle_empty rows pending waiting [] none = (refl, refl)
  bundle_empty rows pending waiting (b ∷ flags) none = go (slice_get (chars (b ∷ flags)) 0) refl none
    where
      go : (first : Option ℕ) → slice_get (chars (b ∷ flags)) 0 ≡ first → is_some first ≡ false
          → (bundle_fault (rules_for names) false (b ∷ flags) (walk_at rows pending waiting).held ≡ [])
          × (bundle (rules_for names) (b ∷ flags) (walk_at rows pending waiting).held ≡ ((walk_at rows pending waiting).held, plain))
      go None e none = rw e (refl, refl)
      go (Some x) e none = absurd (cc)

  bundle_refused : (rows : _) (pending : _) (waiting : Waiting) → is_bundle word ≡ true → looks_fault waiting (walk_at rows pending waiting).held None ≡ [] → ⊥
  bundle_refused rows pending waiting e = go (short_of word) refl
    where
      go : (look : Option Text) → short_of word ≡ look → looks_fault waiting (walk_at rows pending waiting).held None ≡ [] → ⊥
      go None es = absurd (cc)
      go (Some flags) es =
          let some : is_some (slice_get (chars flags) 0) ≡ true = rw es at e in
          rw (es, bundle_unknown rows pending waiting flags some) (λ e. absurd (cc))

  abbrev plain_fault : Waiting → Held → Kinds
  plain_fault waiting h = step_fault (built_shape label names) 1 (plain_word (rules_for names) waiting word h).0 (plain_word (rules_for names) waiting word h).1

  plain_taken : (rows : _) (pending : _) (waiting : Waiting) → is_bundle word ≡ false
      → (looks_fault waiting (walk_at rows pending waiting).held None ≡ plain_fault waiting (walk_at rows pending waiting).held)
      × (long_or_other (rules_for names) waiting word None (walk_at rows pending waiting).held ≡ plain_word (rules_for names) waiting word (walk_at rows pending waiting).held)
  plain_taken rows pending waiting e = go (short_of word) refl
    where
      go : (look : Option Text) → short_of word ≡ look
          → (looks_fault waiting (walk_at rows pending waiting).held None ≡ plain_fault waiting (walk_at rows pending waiting).held)
          × (long_or_other (rules_for names) waiting word None (walk_at rows pending waiting).held ≡ plain_word (rules_for names) waiting word (walk_at rows pending waiting).held)
      go None es = rw es (refl, refl)
      go (Some flags) es =
          let none : is_some (slice_get (chars flags) 0) ≡ false = rw es at e in
          let empty = bundle_empty rows pending waiting flags none in
          rw (es, empty.0, empty.1) (refl, refl)

  -- no option where nothing waits
  idle_other : (uses : List Use) (last : Option Use) → looks_fault idle (walk_of (Idle uses last)).held None ≡ [] → ⊥
  idle_other uses last = go (is_bundle word) refl
    where
      go : (b : Bool) → is_bundle word ≡ b → looks_fault idle (walk_of (Idle uses last)).held None ≡ [] → ⊥
      go true e = bundle_refused (rows_for uses) (pending_for last) idle e
      go false e = rw ((plain_taken (rows_for uses) (pending_for last) idle e).0, by_index names 1) (λ e. absurd (cc))

  -- an option where another waits for its value
  asked_long : (uses : List Use) (name : Text) (pair : Text × Option Text) → knows names name ≡ true
      → looks_fault (option name) (walk_of (Asked uses name)).held (Some pair) ≡ [] → ⊥
  asked_long uses name pair known = go (knows names pair.0) refl pair.1 refl
    where
      go : (b : Bool) → knows names pair.0 ≡ b → (text : Option Text) → pair.1 ≡ text → looks_fault (option name) (walk_of (Asked uses name)).held (Some pair) ≡ [] → ⊥
      go false e text et = rw (looked_up pair.0 false e) (λ e. absurd (cc))
      go true e None et = rw (looked_up pair.0 true e, et, unsettled names uses name known) (λ e. absurd (cc))
      go true e (Some text) et = rw (looked_up pair.0 true e, et, unsettled names uses name known) (λ e. absurd (cc))

  -- a value where an option waits for one
  asked_other : (uses : List Use) (name : Text) → knows names name ≡ true
      → Looks (walk_of (Asked uses name)) None (when (not (is_bundle word)) (Idle uses (Some (name, word))))
  asked_other uses name known = go (is_bundle word) refl
    where
      go : (b : Bool) → is_bundle word ≡ b → Looks (walk_of (Asked uses name)) None (when (not (is_bundle word)) (Idle uses (Some (name, word))))
      go true e = rw e (bundle_refused (rows_for uses) (Some (name, [])) (option name) e)
      go false e =
          let taken = plain_taken (rows_for uses) (Some (name, [])) (option name) e in
          rw (e, taken.0, taken.1, by_id names name, known, same_self name) (refl, refl)

  looked : (stand : Stand) → is_known_stand names stand ≡ true → (look : Option (Text × Option Text)) → Looks (walk_of stand) look (step_from names stand word look)
  looked (Idle uses last) known None = idle_other uses last
  looked (Idle uses last) known (Some (name, None)) = idle_alone uses last name known
  looked (Idle uses last) known (Some (name, Some text)) = idle_whole uses last name text known
  looked (Asked uses name) known None = asked_other uses name known
  looked (Asked uses name) known (Some pair) = asked_long uses name pair known

  turned : (stand : Stand) (next : Option Stand) → Looks (walk_of stand) (long_of word) next → Turns (built_shape label names) (walk_of stand) word next
  turned (Idle uses last) None refuses = λ e. refuses (sym (looks (rows_for uses) (pending_for last) idle refl) ∙ e)
  turned (Idle uses last) (Some next) goes =
      (looks (rows_for uses) (pending_for last) idle refl ∙ goes.0, looks_after (rows_for uses) (pending_for last) idle refl ∙ goes.1)
  turned (Asked uses name) None refuses = λ e. refuses (sym (looks (rows_for uses) (Some (name, [])) (option name) refl) ∙ e)
  turned (Asked uses name) (Some next) goes =
      (looks (rows_for uses) (Some (name, [])) (option name) refl ∙ goes.0, looks_after (rows_for uses) (Some (name, [])) (option name) refl ∙ goes.1)

  pub turn : (stand : Stand) → is_known_stand names stand ≡ true → Turns (built_shape label names) (walk_of stand) word (step names stand word)
  turn stand known = turned stand (step names stand word) (looked stand known (long_of word))
