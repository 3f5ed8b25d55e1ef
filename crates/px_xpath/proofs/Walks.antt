-- Walks of the machine over tokens, and where they stop.
use Rattle.std.proofs.Common.{◌≡◌, ◌<◌, Bool, true, false, List, [], ◌∷◌, Some, None, length, arith, refl, ◌∙◌}
use Rattle.px_xpath.specs.declared.descent.Reason.{Reason}
use Rattle.px_xpath.specs.declared.descent.Reason.TheVariants.{NotAFilter, TooNested, NumberLong}
use Rattle.px_xpath.specs.declared.descent.Stop.{Stop}
use Rattle.px_xpath.specs.declared.descent.Stop.TheVariants.{Memory, At}
use Rattle.px_xpath.specs.Tokens.{Token, Placed}
use Rattle.px_xpath.specs.Faults.{words, is_long}
use Rattle.px_xpath.specs.Machine.{State, step, may_end}
use Rattle.px_xpath.specs.Leads.{Alike, Leads, stays, moves, Stops, IsStopped, fits, height}
use Rattle.px_xpath.specs.Reads.{Takes, ComesNot}
use Rattle.px_xpath.specs.declared.token.Placed as token
use Rattle.px_xpath.specs.TokenViews.{all_placed}

pub alike_self : (s : State) (ts : List Placed) → Alike s s ts
alike_self s [] = refl
alike_self s (p ∷ ts) = refl

alike_then : (a b c : State) (ts : List Placed) → Alike a b ts → Alike b c ts → Alike a c ts
alike_then a b c [] e f = e ∙ f
alike_then a b c (p ∷ ts) e f = e ∙ f

pub leads_then : {a b c : State} {ts us vs : List Placed} → Leads a ts b us → Leads b us c vs → Leads a ts c vs
leads_then (stays e) (stays f) = stays (alike_then _ _ _ _ e f)
leads_then (stays e) (moves s f l) = moves (e ∙ s) f l
leads_then (moves s f l) m = moves s f (leads_then l m)

pub here : (s : State) (ts : List Placed) → Leads s ts s ts
here s ts = stays (alike_self s ts)

-- what stops a walk stops it behind an earlier walk too
pub stops_behind : {a b : State} {ts us : List Placed} (stop : Stop) → Leads a ts b us → Stops b us stop → Stops a ts stop
stops_behind Memory l s = tt
stops_behind (At reason rest) l (end, m, f) = (end, leads_then l m, f)

pub step_on : (s next end : State) (p : Placed) (ts rest : List Placed) → step s p.token ≡ Some next → fits p.token next ≡ true → Leads next ts end rest →
    Leads s (p ∷ ts) end rest
step_on s next end p ts rest e f l = moves e f l

-- the tokens that begin with one are written so
pub spelt : (t : Token) (ts rest : List Placed) → Takes t ts rest → words ts ≡ t ∷ words rest
spelt t [] rest takes = absurd takes
spelt t (p ∷ ts) rest (e, same) = rw (e, same) refl

pub move : (s next : State) (t : Token) (ts rest : List Placed) → step s t ≡ Some next → fits t next ≡ true → Takes t ts rest → Leads s ts next rest
move s next t [] rest e f takes = absurd takes
move s next t (p ∷ ts) rest e f (same, r) = rw r (step_on s next next p rest rest (rw same e) (rw same f) (here next rest))

-- no filter goes on with the next token, as none comes that passes the test
pub stuck : (s : State) (test : Token → Bool) (ts : List Placed) → may_end s ≡ false → ((t : Token) → test t ≡ false → step s t ≡ None) → ComesNot test ts →
    (end : State) × Leads s ts end ts × IsStopped NotAFilter end ts
stuck s test [] e f none = (s, here s [], e)
stuck s test (p ∷ ts) e f none = (s, here s (p ∷ ts), f p.token none)

pub stuck_at : (s : State) (t : Token) (ts rest : List Placed) → step s t ≡ None → Takes t ts rest → (end : State) × Leads s ts end ts × IsStopped NotAFilter end ts
stuck_at s t [] rest e takes = absurd takes
stuck_at s t (p ∷ ts) rest e (same, r) = (s, here s (p ∷ ts), rw same e)

-- the next bracket is one too many
pub nested : (s next : State) (t : Token) (ts rest : List Placed) → step s t ≡ Some next → 64 < height next → Takes t ts rest →
    (end : State) × Leads s ts end ts × IsStopped TooNested end ts
nested s next t [] rest e h takes = absurd takes
nested s next t (p ∷ ts) rest e h (same, r) = (s, here s (p ∷ ts), (next, rw same e, h))

-- the next number has too many digits
pub long : (s next : State) (t : Token) (ts rest : List Placed) → step s t ≡ Some next → is_long t ≡ true → Takes t ts rest →
    (end : State) × Leads s ts end ts × IsStopped NumberLong end ts
long s next t [] rest e h takes = absurd takes
long s next t (p ∷ ts) rest e h (same, r) = (s, here s (p ∷ ts), (next, rw same e, rw same h))

-- a rest that stands behind a walk
pub behind : {a b : State} {ts us vs : List Placed} → (reason : Reason) → Leads a ts b us → (end : State) × Leads b us end vs × IsStopped reason end vs →
    (end : State) × Leads a ts end vs × IsStopped reason end vs
behind reason l (end, m, f) = (end, leads_then l m, f)

pub nothing_comes : (test : Token → Bool) (found : List token.Placed) → length found ≡ 0 → ComesNot test (all_placed found)
nothing_comes test [] e = tt
nothing_comes test (p ∷ ps) e = absurd (omega arith)

-- a token is gone
pub one_less : (t : Token) (ts rest : List Placed) → Takes t ts rest → length rest < length ts
one_less t [] rest takes = absurd takes
one_less t (p ∷ ts) rest (e, r) = rw r (omega arith)
