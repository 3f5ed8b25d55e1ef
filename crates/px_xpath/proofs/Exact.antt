-- A walk of the machine over tokens says which token has which fault.
use Rattle.std.proofs.Common.{◌≡◌, ℕ, zero, suc, ◌≤◌, ◌<◌, true, false, List, [], ◌∷◌, ◌++◌, length, slice_get, Some, None, refl, ap, sym, ◌∙◌, subst, arith, append_assoc, append-nil, add-one, inl, inr}
use Rattle.px_xpath.specs.declared.fault.FilterFault.{FilterFault}
use Rattle.px_xpath.specs.declared.fault.FilterFault.TheVariants as fault
use Rattle.px_xpath.specs.declared.descent.Reason.TheVariants as reason
use Rattle.px_xpath.specs.declared.descent.Reason.{Reason}
use Rattle.px_xpath.specs.declared.descent.Stop.{Stop}
use Rattle.px_xpath.specs.declared.descent.Stop.TheVariants as stop
use Rattle.px_xpath.specs.Parses.{IsRefused, fault_of, refusal_of}
use Rattle.px_xpath.specs.Reads.{rest_of}
use Rattle.px_xpath.specs.Filters.{Way}
use Rattle.px_xpath.specs.Tokens.{Token, Placed, Numeric, tokens}
use Rattle.px_xpath.specs.Grammar.{Writes}
use Rattle.px_xpath.specs.Faults.{Begins, open_behind, words, before, through, is_long, Shows, AreFineBefore, IsFirstFault, HasFault, IsText}
use Rattle.px_xpath.specs.Machine.{State, Start, step, may_end, accepts, reaches}
use Rattle.px_xpath.specs.Leads.{height, fits, Alike, Leads, stays, moves, IsStopped, Stops}
use Rattle.px_xpath.proofs.Machine.{begins_iff, written_accepted}
use Rattle.px_xpath.proofs.Heights.{Opens, does, opens_none}

-- the machine goes over these tokens, and they are within the limits
data Walk : State → List Token → State → Type 0 where
  rests : {s : State} → Walk s [] s
  goes : {s next end : State} {t : Token} {ts : List Token} → step s t ≡ Some next → fits t next ≡ true → Walk next ts end → Walk s (t ∷ ts) end

-- the same, whatever the limits
data Went : State → List Token → State → Type 0 where
  rested : {s : State} → Went s [] s
  went : {s next end : State} {t : Token} {ts : List Token} → step s t ≡ Some next → Went next ts end → Went s (t ∷ ts) end

any_limits : {s end : State} {ts : List Token} → Walk s ts end → Went s ts end
any_limits rests = rested
any_limits (goes e f w) = went e (any_limits w)

one_further : {s mid next : State} {ts : List Token} (t : Token) → Went s ts mid → step mid t ≡ Some next → Went s (ts ++ t ∷ []) next
one_further t rested e = went e rested
one_further t (went f w) e = went f (one_further t w e)

went_reaches : {s end : State} {ts : List Token} → Went s ts end → reaches s ts ≡ Some end
went_reaches rested = refl
went_reaches (went e w) = rw e (went_reaches w)

went_accepts : {s end : State} {ts : List Token} → Went s ts end → accepts s ts ≡ may_end end
went_accepts rested = refl
went_accepts (went e w) = rw e (went_accepts w)

reaches_no_further : {s end : State} {ts : List Token} (t : Token) → Went s ts end → step end t ≡ None → reaches s (ts ++ t ∷ []) ≡ None
reaches_no_further t rested e = rw e refl
reaches_no_further t (went f w) e = rw f (reaches_no_further t w e)

went_opens : {s end : State} {ts : List Token} → Went s ts end → Opens s ts (height end)
went_opens (rested {s = s}) = opens_none s
went_opens (went {s = s} {next = next} {end = end} {t = t} {ts = ts} e w) = (does s t next ts (height end) e).0 (went_opens w)

walk_low : {s end : State} {ts : List Token} → Walk s ts end → height s ≤ 64 → height end ≤ 64
walk_low rests l = l
walk_low (goes {s = s} {next = next} {t = t} e f w) l = walk_low w ((does s t next [] 0 e).1 f l)

walk_cut : (us : List Token) {vs : List Token} {s end : State} → Walk s (us ++ vs) end → (mid : State) × Walk s us mid × Walk mid vs end
walk_cut [] w = (_, rests, w)
walk_cut (u ∷ us) (goes e f w) = let (mid, a, b) = walk_cut us w in (mid, goes e f a, b)

-- what leads to a rest goes over the tokens before it
walked : {s end : State} {ts rest : List Placed} → Leads s ts end rest →
    (front : List Placed) × (last : State) × (ts ≡ front ++ rest) × Walk s (words front) last × Alike last end rest
walked (stays e) = ([], _, refl, rests, e)
walked (moves {p = p} e f l) = let (front, last, same, w, a) = walked l in (p ∷ front, last, ap (λ us. p ∷ us) same, goes e f w, a)

pub words-append : (xs ys : List Placed) → words (xs ++ ys) ≡ words xs ++ words ys
words-append [] ys = refl
words-append (x ∷ xs) ys = ap (λ zs. x.token ∷ zs) (words-append xs ys)

-- a list at one of its places
pub cut_at : (xs : List Placed) (k : ℕ) → k < length xs → (front : List Placed) × (p : Placed) × (back : List Placed) × (xs ≡ front ++ (p ∷ back)) × (length front ≡ k)
cut_at [] k h = absurd (omega arith)
cut_at (x ∷ xs) zero h = ([], x, xs, refl, refl)
cut_at (x ∷ xs) (suc k) h = let (front, p, back, e, l) = cut_at xs k (omega arith) in (x ∷ front, p, back, ap (λ ys. x ∷ ys) e, ap suc l)

before_is : (front back : List Placed) → before (front ++ back) (length front) ≡ words front
before_is [] back = refl
before_is (x ∷ xs) back = ap (λ ys. x.token ∷ ys) (before_is xs back)

pub through_is : (front : List Placed) (p : Placed) (back : List Placed) → through (front ++ (p ∷ back)) (length front) ≡ words front ++ p.token ∷ []
through_is [] p back = refl
through_is (x ∷ xs) p back = rw add-one (ap (λ ys. x.token ∷ ys) (rw add-one at (through_is xs p back)))

pub get_is : (front : List Placed) (p : Placed) (back : List Placed) → slice_get (front ++ (p ∷ back)) (length front) ≡ Some p
get_is [] p back = refl
get_is (x ∷ xs) p back = get_is xs p back

begins_if : (ts : List Token) (end : State) → Went Start ts end → Begins ts
begins_if ts end w = (begins_iff ts).1 (rw (went_reaches w) refl)

begins_not : (ts : List Token) → reaches Start ts ≡ None → Begins ts → ⊥
begins_not ts e b = let s = (begins_iff ts).0 b in let f = rw e at s in absurd (cc)

short : (t : Token) (next : State) → fits t next ≡ true → is_long t ≡ true → ⊥
short (Numeric whole fraction) next f l = let g : false ≡ true = rw l at f in absurd (cc)
short _ next f l = absurd (cc)

last_short : {s end : State} {t : Token} → Walk s (t ∷ []) end → is_long t ≡ true → ⊥
last_short (goes {next = next} {t = t} e f w) l = short t next f l

-- a token that is walked over has no fault
no_fault : (front : List Placed) (p : Placed) (back : List Placed) (end : State) → Walk Start (words front ++ p.token ∷ []) end → (found : FilterFault) →
    Shows (front ++ (p ∷ back)) (length front) found → ⊥
no_fault front p back end w (fault.NotAFilter at) (a, b, n) = n (rw (through_is front p back) (begins_if (words front ++ p.token ∷ []) end (any_limits w)))
no_fault front p back end w fault.TooLong s = s
no_fault front p back end w (fault.TooNested at) (a, b, high) =
    let low = walk_low w (omega arith) in
    let same = went_opens (any_limits w) in
    let h = rw (through_is front p back, same) at high in omega arith
no_fault front p back end w (fault.NumberLong at) (t, get, b, l) =
    let (mid, u, v) = walk_cut (words front) w in
    let same : Some p ≡ Some (record { at = at; token = t }) = sym (get_is front p back) ∙ get in
    let placed : p ≡ record { at = at; token = t } = cc in
    let token : p.token ≡ t = ap (λ (q : Placed). q.token) placed in
    last_short v (rw token l)

no_fault_at : (ts front : List Placed) (p : Placed) (back : List Placed) (k : ℕ) (end : State) → ts ≡ front ++ (p ∷ back) → length front ≡ k →
    Walk Start (words front ++ p.token ∷ []) end → (found : FilterFault) → Shows ts k found → ⊥
no_fault_at ts front p back k end e l w found =
    subst (λ n. Shows ts n found → ⊥) l (λ s. no_fault front p back end w found (subst (λ xs. Shows xs (length front) found) e s))

fine_before : (ts front rest : List Placed) (last : State) → ts ≡ front ++ rest → Walk Start (words front) last → AreFineBefore ts (length front)
fine_before ts front rest last e w j found h s =
    let (a, p, b, same, l) = cut_at front j h in
    let whole : ts ≡ a ++ (p ∷ (b ++ rest)) = e ∙ ap (λ xs. xs ++ rest) same ∙ append_assoc a (p ∷ b) rest in
    let cut = walk_cut (words a ++ p.token ∷ []) (rw (same, words-append a (p ∷ b), ← append_assoc (words a) (p.token ∷ []) (words b)) at w) in
    no_fault_at ts a p (b ++ rest) j cut.0 whole l cut.1 found s

pub written : (text : List ℕ) (filter : Way) (end : State) → length text ≤ 4_096 → Writes (words (tokens text)) filter → Leads Start (tokens text) end [] → IsText text filter
written text filter end h w l =
    let (front, last, same, walk, a) = walked l in
    let all : tokens text ≡ front = same ∙ append-nil front in
    (h, rw (← all) at (fine_before (tokens text) front [] last same walk), w)

-- the text ends too early
pub ended : (text : List ℕ) (end : State) → length text ≤ 4_096 → Leads Start (tokens text) end [] → IsStopped reason.NotAFilter end [] →
    HasFault text (fault.NotAFilter (length text))
ended text end h l s =
    let (front, last, same, walk, a) = walked l in
    let all : tokens text ≡ front = same ∙ append-nil front in
    let refused = λ (filter : Way) (w : Writes (words (tokens text)) filter).
    let yes = written_accepted (words (tokens text)) filter w in
    let no : accepts Start (words (tokens text)) ≡ may_end last = ap (λ ts. accepts Start (words ts)) all ∙ went_accepts (any_limits walk) in
    let never : true ≡ false = sym yes ∙ no ∙ a ∙ s in absurd (cc) in
    (h, inr ((rw (← all) at (fine_before (tokens text) front [] last same walk), refused), refl))

-- a token that is at fault, behind those that are walked over
first_fault : (text : List ℕ) (front : List Placed) (p : Placed) (back : List Placed) (last : State) (found : FilterFault) → tokens text ≡ front ++ (p ∷ back) →
    Walk Start (words front) last → Shows (front ++ (p ∷ back)) (length front) found → IsFirstFault (tokens text) found
first_fault text front p back last found e w s =
    (length front, fine_before (tokens text) front (p ∷ back) last e w, subst (λ ts. Shows ts (length front) found) (sym e) s)

pub not_a_filter : (text : List ℕ) (end : State) (p : Placed) (back : List Placed) → length text ≤ 4_096 → Leads Start (tokens text) end (p ∷ back) →
    IsStopped reason.NotAFilter end (p ∷ back) → HasFault text (fault.NotAFilter p.at)
not_a_filter text end p back h l s =
    let (front, last, same, walk, a) = walked l in
    let begun = rw (← before_is front (p ∷ back)) at (begins_if (words front) last (any_limits walk)) in
    let over = λ (b : Begins (through (front ++ (p ∷ back)) (length front))).
    begins_not (words front ++ p.token ∷ []) (reaches_no_further p.token (any_limits walk) (a ∙ s)) (rw (through_is front p back) at b) in
    (h, inl (first_fault text front p back last (fault.NotAFilter p.at) same walk ((p.token, get_is front p back), begun, over)))

begins_through : (front : List Placed) (p : Placed) (back : List Placed) (last next : State) → Walk Start (words front) last → step last p.token ≡ Some next →
    Begins (through (front ++ (p ∷ back)) (length front))
begins_through front p back last next w e = rw (through_is front p back) (begins_if (words front ++ p.token ∷ []) next (one_further p.token (any_limits w) e))

pub too_nested : (text : List ℕ) (end : State) (p : Placed) (back : List Placed) → length text ≤ 4_096 → Leads Start (tokens text) end (p ∷ back) →
    IsStopped reason.TooNested end (p ∷ back) → HasFault text (fault.TooNested p.at)
too_nested text end p back h l (next, e, high) =
    let (front, last, same, walk, a) = walked l in
    let goes_on : step last p.token ≡ Some next = a ∙ e in
    let count = went_opens (one_further p.token (any_limits walk) goes_on) in
    let open_now : 64 < open_behind 0 (through (front ++ (p ∷ back)) (length front)) = rw (through_is front p back, count) high in
    (h, first_fault text front p back last (fault.TooNested p.at) same walk ((p.token, get_is front p back), begins_through front p back last next walk goes_on, open_now))

pub number_long : (text : List ℕ) (end : State) (p : Placed) (back : List Placed) → length text ≤ 4_096 → Leads Start (tokens text) end (p ∷ back) →
    IsStopped reason.NumberLong end (p ∷ back) → HasFault text (fault.NumberLong p.at)
number_long text end p back h l (next, e, long) =
    let (front, last, same, walk, a) = walked l in
    let goes_on : step last p.token ≡ Some next = a ∙ e in (
      h,
      first_fault text front p back last (fault.NumberLong p.at) same walk
          (p.token, get_is front p back, begins_through front p back last next walk goes_on, long),
    )

-- what stops the parse is the fault of the text
pub refused : (text : List ℕ) (stop : Stop) → length text ≤ 4_096 → Stops Start (tokens text) stop → IsRefused text (fault_of (length text) stop)
refused text stop.Memory h s = tt
refused text (stop.At why rest) h (end, l, s) = from why (rest_of rest) l s
  where
    from : (why : Reason) (left : List Placed) → Leads Start (tokens text) end left → IsStopped why end left → IsRefused text (refusal_of (length text) why left)
    from reason.NotAFilter [] l s = ended text end h l s
    from reason.NotAFilter (p ∷ back) l s = not_a_filter text end p back h l s
    from reason.TooNested [] l s = absurd s
    from reason.TooNested (p ∷ back) l s = too_nested text end p back h l s
    from reason.NumberLong [] l s = absurd s
    from reason.NumberLong (p ∷ back) l s = number_long text end p back h l s
