-- The rows that clap keeps of uses.
use Rattle.std.proofs.Common.{◌≡◌, ◌∙◌, ◌++◌, ◌∷◌, [], Bool, true, false, ◌||◌, List, map, Option, Some, None, refl, ap, if◌then◌else◌}
use Rattle.std.specs.Prelude.{bytes_eq, fold}
use Rattle.std.proofs.lemmas.Bool.{or_parts}
use Rattle.clap.specs.Walk.{Text, Row, Walk, Waiting, idle, option, with_values, without, has_row, with_default, used}
use Rattle.clap.specs.Values.{reading_of}
use Rattle.clap.specs.declared.parser.matches.ValueSource.TheVariants.{CommandLine}
use Rattle.clap.specs.declared.builder.value_parser.ValueParser.TheVariants as vp
use Rattle.px_options.specs.OptionWords.{Use}
use Rattle.px_options.proofs.Lookups.{option_rule, rules_for}
use Rattle.px_options.proofs.Scan.{Stand, Idle, Asked, has_use}

abbrev pub row_for : Use → Row
row_for one = record {
  id = one.0;
  values = one.1 ∷ [];
  count = None;
  source = Some CommandLine;
  reading = reading_of vp.String;
}

abbrev pub rows_for : List Use → List Row
rows_for = map row_for

pub has_row_for : (name : Text) (uses : List Use) → has_row name (rows_for uses) ≡ has_use name uses
has_row_for name [] = refl
has_row_for name (one ∷ uses) = ap (λ b. bytes_eq one.0 name || b) (has_row_for name uses)

without_fresh : (name : Text) (uses : List Use) → has_use name uses ≡ false → without name (rows_for uses) ≡ rows_for uses
without_fresh name [] e = refl
without_fresh name (one ∷ uses) e =
    let p = or_parts (bytes_eq one.0 name) _ e in
    rw p.0 (ap (λ rows. row_for one ∷ rows) (without_fresh name uses p.1))

with_fresh : (name text : Text) (uses : List Use) → has_use name uses ≡ false
    → with_values name (reading_of vp.String) CommandLine (text ∷ []) (rows_for uses) ≡ rows_for (uses ++ (name, text) ∷ [])
with_fresh name text [] e = refl
with_fresh name text (one ∷ uses) e =
    let p = or_parts (bytes_eq one.0 name) _ e in
    rw p.0 (ap (λ rows. row_for one ∷ rows) (with_fresh name text uses p.1))

-- the first use of an option
pub used_fresh : (name text : Text) (uses : List Use) → has_use name uses ≡ false
    → used (option_rule name) (text ∷ []) (rows_for uses) ≡ rows_for (uses ++ (name, text) ∷ [])
used_fresh name text uses e =
    ap (λ rows. with_values name (reading_of vp.String) CommandLine (text ∷ []) rows) (without_fresh name uses e) ∙ with_fresh name text uses e

-- no option has a default of clap's
pub no_defaults : (names : List Text) (rows : List Row) → fold with_default rows (rules_for names) ≡ rows
no_defaults [] rows = refl
no_defaults (name ∷ names) rows =
    ap (λ now. fold with_default now (rules_for names)) (stays (has_row name rows)) ∙ no_defaults names rows
  where
    stays : (b : Bool) → (if b then rows else rows) ≡ rows
    stays true = refl
    stays false = refl

-- ---- where the walk stands

abbrev pub pending_for : Option Use → Option (Text × List Text)
pending_for None = None
pending_for (Some one) = Some (one.0, one.1 ∷ [])

abbrev pub walk_at : List Row → Option (Text × List Text) → Waiting → Walk
walk_at rows pending waiting = record {
  held = record { rows = rows; pending = pending; skip = 0 };
  waiting = waiting;
  position = 1;
  is_trailing = false;
  stopped = None;
}

abbrev pub walk_of : Stand → Walk
walk_of (Idle uses last) = walk_at (rows_for uses) (pending_for last) idle
walk_of (Asked uses name) = walk_at (rows_for uses) (Some (name, [])) (option name)
