-- How what is read of the steps makes the filter.
use Rattle.std.proofs.Common.{◌≡◌, ◌+◌, false, List, [], ◌∷◌, length, None, refl, ◌∙◌, arith, ◌==◌}
use Rattle.px_xpath.specs.declared.filter.Axis.{Axis}
use Rattle.px_xpath.specs.declared.filter.Axis.TheVariants.{Child, Below}
use Rattle.px_xpath.specs.declared.filter.Step.{Step}
use Rattle.px_xpath.specs.declared.token.Placed as token
use Rattle.px_xpath.specs.declared.descent.Stop.{Stop}
use Rattle.px_xpath.specs.declared.descent.Reason.TheVariants.{NotAFilter}
use Rattle.px_xpath.specs.Filters.{Way}
use Rattle.px_xpath.specs.Views.{ways}
use Rattle.px_xpath.specs.Tokens as tokens
use Rattle.px_xpath.specs.Tokens.{Token, Placed}
use Rattle.px_xpath.specs.TokenViews.{all_placed}
use Rattle.px_xpath.specs.Faults.{words}
use Rattle.px_xpath.specs.Grammar.{Stands, Steps, Writes, separator}
use Rattle.px_xpath.specs.Machine.{Around, Whole, State, Start, BeforeStep, BehindLast, step}
use Rattle.px_xpath.specs.Leads.{Leads, Stops, IsStopped, height_around}
use Rattle.px_xpath.specs.Reads.{Takes, ComesNot, is_separator}
use Rattle.px_xpath.proofs.Walks.{move, leads_then, stops_behind, stuck}

start_leads : (axis : Axis) (ts behind : List Placed) → Takes (separator axis) ts behind → Leads Start ts (BeforeStep Whole) behind
start_leads Child ts behind t = move Start (BeforeStep Whole) tokens.Slash ts behind refl refl t
start_leads Below ts behind t = move Start (BeforeStep Whole) tokens.Slashes ts behind refl refl t

pub filter_stops : (axis : Axis) (ts behind : List Placed) (stop : Stop) → Takes (separator axis) ts behind →
    ((around : Around) → height_around around + 64 ≡ 64 → Stops (BeforeStep around) behind stop) → Stops Start ts stop
filter_stops axis ts behind stop t f = stops_behind stop (start_leads axis ts behind t) (f Whole (omega arith))

pub filter_writes : (axis : Axis) (ss : List Step) (path : Way) (ts behind : List Placed) (rest : List token.Placed) → Takes (separator axis) ts behind →
    ((w : Way) × Stands (words behind) (Steps axis w) (words (all_placed rest)) × (ways ss ≡ w)) → path ≡ ways ss → length rest ≡ 0 → Writes (words ts) path
filter_writes axis ss path [] behind rest t s e n = absurd t
filter_writes axis ss path (p ∷ ts) behind [] (same, r) (w, s, f) e n = let g : path ≡ w = e ∙ f in (axis, same, rw (r, g) s)
filter_writes axis ss path (p ∷ ts) behind (q ∷ rest) t s e n = absurd (omega arith)

pub filter_leads : (axis : Axis) (ts behind : List Placed) (rest : List token.Placed) → Takes (separator axis) ts behind →
    ((around : Around) → height_around around + 64 ≡ 64 → Leads (BeforeStep around) behind (BehindLast around) (all_placed rest)) → length rest ≡ 0 →
    Leads Start ts (BehindLast Whole) []
filter_leads axis ts behind [] t l n = leads_then (start_leads axis ts behind t) (l Whole (omega arith))
filter_leads axis ts behind (q ∷ rest) t l n = absurd (omega arith)

-- more tokens stand behind a whole filter
pub filter_trails : (axis : Axis) (ts behind : List Placed) (rest : List token.Placed) → Takes (separator axis) ts behind →
    ((around : Around) → height_around around + 64 ≡ 64 → Leads (BeforeStep around) behind (BehindLast around) (all_placed rest)) → (length rest == 0) ≡ false →
    (end : State) × Leads Start ts end (all_placed rest) × IsStopped NotAFilter end (all_placed rest)
filter_trails axis ts behind [] t l n = absurd (cc)
filter_trails axis ts behind (q ∷ rest) t l n = (BehindLast Whole, leads_then (start_leads axis ts behind t) (l Whole (omega arith)), refl)

no_start : (t : Token) → is_separator t ≡ false → step Start t ≡ None
no_start tokens.Slash e = absurd (cc)
no_start tokens.Slashes e = absurd (cc)
no_start _ e = refl

pub start_stuck : (ts : List Placed) → ComesNot is_separator ts → (end : State) × Leads Start ts end ts × IsStopped NotAFilter end ts
start_stuck ts none = stuck Start is_separator ts refl no_start none
