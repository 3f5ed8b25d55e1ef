-- A line of which only the first bytes are kept.
use Rattle.std.proofs.Common.{◌≡◌, ℕ, zero, suc, ◌+◌, ◌-◌, ◌<◌, ◌≤◌, ◌⊎◌, inl, inr, List, [], ◌∷◌, ◌++◌, length, take, refl, ap, ◌∙◌, subst, Result, Ok, Err, arith}
use Rattle.std.proofs.lemmas.Bool.{cases_lt}
use Rattle.std.proofs.lemmas.List.{take_all, length-take-le}
use Rattle.px_reader.specs.declared.event.Event.{Event}
use Rattle.px_reader.specs.declared.fault.DocKind.TheVariants.{NotHere, NotUtf8, LineLong, TooDeep, TooManyAttributes, TooBig, Truncated}
use Rattle.px_reader.specs.declared.fault.LineFault.{LineFault}
use Rattle.px_reader.specs.declared.fault.LineFault.TheVariants.{Kind, LineMemory}
use Rattle.px_reader.specs.Lines.{without_end}
use Rattle.px_reader.specs.Machine.{State}
use Rattle.px_reader.specs.States.{Judging}
use Rattle.px_reader.proofs.LineCuts.{take_long}

-- a front of a line that has 1,048,579 bytes is as much too long as the line
long_front : (n k : ℕ) → n ≤ k + 2 → n ≡ 1_048_579 → 1_048_576 < k
long_front n k l e = omega arith

too_long : (old new : State) (line front : List ℕ) (answer : Result (Unit {0}) LineFault) (before behind : List Event) →
    1_048_576 < length (without_end line) → 1_048_576 < length (without_end front) → Judging old front answer new before behind → Judging old line answer new before behind
too_long old new line front (Ok u) before behind l f (fit, taken) = absurd (let m = fit.0 in omega (arith, m))
too_long old new line front (Err (Kind LineLong)) before behind l f (b, e) = (l, e)
too_long old new line front (Err (Kind NotUtf8)) before behind l f (b, e) = absurd (let m = b.0 in omega (arith, m))
too_long old new line front (Err (Kind NotHere)) before behind l f (b, e) = absurd (let m = b.0.0 in omega (arith, m))
too_long old new line front (Err (Kind TooDeep)) before behind l f (b, e) = absurd (let m = b.0.0 in omega (arith, m))
too_long old new line front (Err (Kind TooManyAttributes)) before behind l f (b, e) = absurd (let m = b.0.0 in omega (arith, m))
too_long old new line front (Err (Kind TooBig)) before behind l f (b, e) = absurd b
too_long old new line front (Err (Kind Truncated)) before behind l f (b, e) = absurd b
too_long old new line front (Err LineMemory) before behind l f (b, e) = (b, e)

-- what is judged of the first bytes of a line holds of the line
pub kept_judged : (old new : State) (line : List ℕ) (answer : Result (Unit {0}) LineFault) (before behind : List Event) →
    Judging old (take 1_048_579 line) answer new before behind → Judging old line answer new before behind
kept_judged old new line answer before behind j = kept 1_048_579 refl j
  where
    on : (n : ℕ) → n ≡ 1_048_579 → (n < length line) ⊎ (length line ≤ n) → Judging old (take n line) answer new before behind → Judging old line answer new before behind
    on n e (inr l) h = subst (λ bs. Judging old bs answer new before behind) (take_all n line l) h
    on n e (inl l) h =
        let s : length (take n line) ≡ n = length-take-le n line (omega arith) in
        let f : 1_048_576 < length (without_end (take n line)) = long_front (length (take n line)) (length (without_end (take n line))) (take_long (take n line)) (s ∙ e) in
        let w : 1_048_576 < length (without_end line) = let m = take_long line in omega (arith, m) in
        too_long old new line (take n line) answer before behind w f h

    kept : (n : ℕ) → n ≡ 1_048_579 → Judging old (take n line) answer new before behind → Judging old line answer new before behind
    kept n e h = on n e (cases_lt n (length line)) h

take_two : (n : ℕ) (begun part : List ℕ) → take n begun ++ take (n - length (take n begun)) part ≡ take n (begun ++ part)
take_two zero begun part = refl
take_two (suc n) [] part = ap (λ k. take k part) (less_none (suc n))
  where
    less_none : (k : ℕ) → k - 0 ≡ k
    less_none k = omega arith
take_two (suc n) (b ∷ begun) part =
    let m : suc n - suc (length (take n begun)) ≡ n - length (take n begun) = omega arith in
    ap (λ bs. b ∷ bs) (ap (λ k. take n begun ++ take k part) m ∙ take_two n begun part)

pub kept_of : (n : ℕ) (kept begun part : List ℕ) → kept ≡ take n begun → kept ++ take (n - length kept) part ≡ take n (begun ++ part)
kept_of n kept begun part e = rw e (take_two n begun part)

-- what is kept of a line that goes on
pub kept_more : (kept begun part : List ℕ) → kept ≡ take 1_048_579 begun → kept ++ take (1_048_579 - length kept) part ≡ take 1_048_579 (begun ++ part)
kept_more kept begun part e = kept_of 1_048_579 kept begun part e
