-- Every text is a filter or has a fault.
use Rattle.std.proofs.Common.{◌≡◌, ℕ, ◌<◌, ◌≤◌, ◌⊎◌, inl, inr, Bool, true, false, not, nat_le, List, [], ◌∷◌, length, Option, Some, None, IsTrue, refl, ◌∙◌, arith}
use Rattle.std.proofs.lemmas.Bool.{cases_lt}
use Rattle.std.proofs.lemmas.Bool.Decides.{nat_tests}
use Rattle.px_xpath.specs.declared.fault.FilterFault.{FilterFault}
use Rattle.px_xpath.specs.declared.fault.FilterFault.TheVariants as fault
use Rattle.px_xpath.specs.declared.descent.Reason.{Reason}
use Rattle.px_xpath.specs.declared.descent.Reason.TheVariants.{NotAFilter, TooNested, NumberLong}
use Rattle.px_xpath.specs.Filters.{Way}
use Rattle.px_xpath.specs.Tokens.{Token, Placed, OpenSquare, Open, Numeric, tokens}
use Rattle.px_xpath.specs.Faults.{words, is_long, HasFault, IsText}
use Rattle.px_xpath.specs.Machine.{State, Start, BeforeUnary, step, may_end, accepts}
use Rattle.px_xpath.specs.Leads.{height, height_in, fits, Leads, stays, moves, IsStopped}
use Rattle.px_xpath.proofs.Machine.{accepted_writes}
use Rattle.px_xpath.proofs.Exact.{written, ended, not_a_filter, too_nested, number_long}

-- where the tokens lead from a state: to their end, or to the first that stops the parse
data Journey (s : State) (ts : List Placed) : Type 0 where
  arrives : (end : State) → Leads s ts end [] → Journey s ts
  halts : (why : Reason) (end : State) (p : Placed) (back : List Placed) → Leads s ts end (p ∷ back) → IsStopped why end (p ∷ back) → Journey s ts

too_high : (n : ℕ) → nat_le n 64 ≡ false → 64 < n
too_high n e = grind (arith, nat_tests)

negated : (b : Bool) → not b ≡ false → b ≡ true
negated true e = refl
negated false e = absurd (cc)

-- a token that is not within the limits is above one of them
beyond : (t : Token) (next : State) → fits t next ≡ false → (64 < height next) ⊎ IsTrue (is_long t)
beyond OpenSquare (BeforeUnary group) e = inl (too_high (height_in group) e)
beyond Open (BeforeUnary group) e = inl (too_high (height_in group) e)
beyond (Numeric whole fraction) next e = inr (negated (is_long (Numeric whole fraction)) e)
beyond _ next e = absurd (cc)

-- a token that the machine takes
taken : (s : State) (p : Placed) (ts : List Placed) (next : State) → step s p.token ≡ Some next → (b : Bool) → fits p.token next ≡ b → Journey next ts → Journey s (p ∷ ts)
taken s p ts next e true f (arrives end l) = arrives end (moves e f l)
taken s p ts next e true f (halts why end q back l h) = halts why end q back (moves e f l) h
taken s p ts next e false f j = over (beyond p.token next f)
  where
    over : (64 < height next) ⊎ IsTrue (is_long p.token) → Journey s (p ∷ ts)
    over (inl high) = halts TooNested s p ts (stays refl) (next, e, high)
    over (inr long) = halts NumberLong s p ts (stays refl) (next, e, long)

journey : (s : State) (ts : List Placed) → Journey s ts
journey s [] = arrives s (stays refl)
journey s (p ∷ ts) = on (step s p.token) refl (λ next. journey next ts)
  where
    on : (o : Option State) → step s p.token ≡ o → ((next : State) → Journey next ts) → Journey s (p ∷ ts)
    on None e behind = halts NotAFilter s p ts (stays refl) e
    on (Some next) e behind = taken s p ts next e (fits p.token next) refl (behind next)

-- tokens that lead to their end are accepted where a filter may end there
leads_accepts : {s end : State} {ts : List Placed} → Leads s ts end [] → accepts s (words ts) ≡ may_end end
leads_accepts (stays e) = e
leads_accepts (moves e f l) = rw e (leads_accepts l)

abbrev IsJudged : List ℕ → Type 0
IsJudged text = ((filter : Way) × IsText text filter) ⊎ ((found : FilterFault) × HasFault text found)

-- the tokens lead to their end
at_end : (text : List ℕ) (end : State) (b : Bool) → length text ≤ 4_096 → Leads Start (tokens text) end [] → may_end end ≡ b → IsJudged text
at_end text end true h l e = let (filter, w) = accepted_writes (words (tokens text)) (leads_accepts l ∙ e) in inl (filter, written text filter end h w l)
at_end text end false h l e = inr (fault.NotAFilter (length text), ended text end h l e)

judged : (text : List ℕ) → length text ≤ 4_096 → Journey Start (tokens text) → IsJudged text
judged text h (arrives end l) = at_end text end (may_end end) h l refl
judged text h (halts NotAFilter end p back l s) = inr (fault.NotAFilter p.at, not_a_filter text end p back h l s)
judged text h (halts TooNested end p back l s) = inr (fault.TooNested p.at, too_nested text end p back h l s)
judged text h (halts NumberLong end p back l s) = inr (fault.NumberLong p.at, number_long text end p back h l s)

-- every text is a filter or has a fault
pub read-or-refused : (text : List ℕ) → ((filter : Way) × IsText text filter) ⊎ ((found : FilterFault) × HasFault text found)
read-or-refused text = on (cases_lt 4_096 (length text))
  where
    on : (4_096 < length text) ⊎ (length text ≤ 4_096) → IsJudged text
    on (inl long) = inr (fault.TooLong, long)
    on (inr short) = judged text short (journey Start (tokens text))
