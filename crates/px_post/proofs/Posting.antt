-- A document that is posted, and its letters.
use Rattle.std.proofs.Common.{◌≡◌, ℕ, zero, suc, ◌+◌, ◌<◌, ◌≤◌, ◌⊎◌, ◌↔◌, inl, inr, length-append, Bool, true, cond, nat_eq, List, [], ◌∷◌, ◌++◌, length, get_or, drop, append_assoc, append-nil, refl, sym, ap, ◌∙◌, subst, arith}
use Rattle.std.proofs.lemmas.List.{drop_more}
use Rattle.std.specs.Prelude.{◌^◌, All, Option, Some, None, slice_get}
use Rattle.px_post.specs.declared.letter.Letter.{Letter}
use Rattle.px_post.specs.declared.waiting.Waiting.{Waiting}
use Rattle.px_post.specs.Letters.{Document, letter, is_there, letters_of, Letters}
use Rattle.px_post.specs.Mail.{Way}
use Rattle.px_post.specs.Sending.{Sending, routed, with_route, to_go, left_for, due, route_of, HasPosted, IsNextWay, MayPost, Lead, IsSender, Moves, Went, Ends, Posts, GoesOn, AreSlips, became}
use Rattle.px_post.proofs.Folding.{a_document_more}
use Rattle.px_post.proofs.Moving.{as_many, some_same}

one_front : (o : Option ℕ) (id : ℕ) (rest : List Waiting) → with_route o id [] ++ rest ≡ with_route o id rest
one_front None id rest = refl
one_front (Some b) id rest = refl

-- one id more is gathered
pub gathered : (route : ℕ → Option ℕ) (left left' all : List Waiting) (ids : List ℕ) (i d id : ℕ) → i < length ids → id ≡ get_or ids i d → left' ≡ left ++ with_route (route id) id []
    → left ++ to_go route (drop i ids) ≡ all → left' ++ to_go route (drop (i + 1) ids) ≡ all
gathered route left left' all ids i d id less at more is =
    ap (λ (l : List Waiting). l ++ to_go route (drop (i + 1) ids)) more
    ∙ append_assoc left (with_route (route id) id []) (to_go route (drop (i + 1) ids))
    ∙ ap (λ (l : List Waiting). left ++ l) (one_front (route id) id (to_go route (drop (i + 1) ids)))
    ∙ ap (λ (k : ℕ). left ++ to_go route (k ∷ drop (i + 1) ids)) at
    ∙ ap (λ (l : List ℕ). left ++ to_go route l) (sym (drop_more ids i d less))
    ∙ is

-- what is to go to b are the letters of b
goes : (f b n k : ℕ) (route : ℕ → Option ℕ) (ids : List ℕ) → left_for f b n k (to_go route ids) ≡ letters_of f b n k route ids
goes f b n k route [] = refl
goes f b n k route (id ∷ ids) = by_route (route id) (goes f b n (k + 1) route ids) (goes f b n k route ids)
  where
    by_route : (o : Option ℕ) → left_for f b n (k + 1) (to_go route ids) ≡ letters_of f b n (k + 1) route ids → left_for f b n k (to_go route ids) ≡ letters_of f b n k route ids
        → left_for f b n k (with_route o id (to_go route ids)) ≡ cond (is_there o b) (letter f (k + 1) n id ∷ letters_of f b n (k + 1) route ids) (letters_of f b n k route ids)
    by_route None there other = other
    by_route (Some c) there other = λ i. cond (nat_eq c b) (letter f (k + 1) n id ∷ there i) (other i)

-- what is due once a document is gathered
pub due_more : (f b n : ℕ) (w : Way) (route : ℕ → Option ℕ) (ids : List ℕ) (ds : List Document) → n ≡ length ds → due f b n w [] ≡ Letters f b ds
    → due f b (n + 1) w (to_go route ids) ≡ Letters f b (ds ++ record { ids = ids; route = route } ∷ [])
due_more f b n w route ids ds long is =
    let put : w.put ≡ Letters f b ds = sym (append-nil w.put) ∙ is in
    ap (λ (l : List Letter). w.put ++ l) (goes f b (n + 1) (length w.put) route ids)
    ∙ (λ i. put i ++ letters_of f b (let e : n + 1 ≡ 1 + length ds = omega arith in e i) (length (put i)) route ids)
    ∙ sym (a_document_more f b ds (record { ids = ids; route = route }))

few : (route : ℕ → Option ℕ) (ids : List ℕ) → length (to_go route ids) ≤ length ids
few route [] = omega arith
few route (id ∷ ids) = by_route (route id) (few route ids)
  where
    by_route : (o : Option ℕ) → length (to_go route ids) ≤ length ids → length (with_route o id (to_go route ids)) ≤ suc (length ids)
    by_route None h = omega arith
    by_route (Some b) h = omega arith

more_within : (boxes : ℕ) (x : Waiting) (xs : List Waiting) → x.mailbox < boxes → All (λ (y : Waiting). y.mailbox < boxes) xs → All (λ (y : Waiting). y.mailbox < boxes) (x ∷ xs)
more_within boxes x xs h rest zero d less = h
more_within boxes x xs h rest (suc k) d less = rest k d (omega arith)

within : (entries : List (ℕ × ℕ)) (boxes : ℕ) → Lead entries boxes → (ids : List ℕ) → All (λ (x : Waiting). x.mailbox < boxes) (to_go (routed entries) ids)
within entries boxes lead [] = λ k d less. absurd (omega arith)
within entries boxes lead (id ∷ ids) = by_route (routed entries id) (λ b e. lead id b e) (within entries boxes lead ids)
  where
    by_route : (o : Option ℕ) → ((b : ℕ) → o ≡ Some b → b < boxes) → All (λ (x : Waiting). x.mailbox < boxes) (to_go (routed entries) ids) → All (λ (x : Waiting). x.mailbox < boxes) (with_route o id (to_go (routed entries) ids))
    by_route None each rest = rest
    by_route (Some b) each rest = more_within boxes (record { mailbox = b; id = id }) (to_go (routed entries) ids) (each b refl) rest

-- a sender may keep what was gathered
pub gathered_sender : (f : ℕ) (entries : List (ℕ × ℕ)) (ways : List Way) (old left : List Waiting) (ids : List ℕ) → IsSender f entries ways old → left ≡ to_go (routed entries) ids → length left < 2 ^ 63
    → ((b : ℕ) (w : Way) → slice_get ways b ≡ Some w → length w.put < 2 ^ 62) → IsSender f entries ways left
gathered_sender f entries ways old left ids is e short room = record {
  ready = record {
    each = λ b w at. let h = is.ready.each b w at in let r = room b w at in (h.0, h.1, less (length w.put) (length left) r short);
    within = subst (λ (l : List Waiting). All (λ (x : Waiting). x.mailbox < length ways) l) (sym e) (within entries (length ways) is.lead ids);
  };
  lead = is.lead;
}
  where
    less : (a b : ℕ) → a < 2 ^ 62 → b < 2 ^ 63 → a + b < 2 ^ 64
    less a b h k = omega arith

-- the sender that has gathered the letters of a document
abbrev pub gathering : Sending → List ℕ → Sending
gathering s ids = record { feeder = s.feeder; routes = s.routes; documents = s.documents + 1; ways = s.ways; left = to_go (route_of s) ids }

pub gathering_posts : (s : Sending) (ids : List ℕ) → s.left ≡ [] → Posts s ids (gathering s ids)
gathering_posts s ids none ds is = record {
  documents = let e = is.documents in let l = one_longer ds in omega arith;
  letters = λ b w at. due_more s.feeder b s.documents w (route_of s) ids ds is.documents (subst (λ (l : List Waiting). due s.feeder b s.documents w l ≡ Letters s.feeder b ds) none (is.letters b w at));
}
  where
    one_longer : (ds : List Document) → length (ds ++ record { ids = ids; route = route_of s } ∷ []) ≡ length ds + 1
    one_longer [] = refl
    one_longer (d ∷ ds) = let h = one_longer ds in omega arith

-- letters that went change nothing of what was posted
pub moved_goes_on : (s : Sending) (ways : List Way) (left : List Waiting) → Moves s.feeder s.documents s.ways s.left ways left
    → GoesOn s (record { feeder = s.feeder; routes = s.routes; documents = s.documents; ways = ways; left = left })
moved_goes_on s ways left moves ds is = record {
  documents = is.documents;
  letters = λ b w at. let u = moves.due b w at in u.2 ∙ is.letters b u.0 u.1;
}

pub moved_sender : (f n : ℕ) (entries : List (ℕ × ℕ)) (ws : List Way) (xs : List Waiting) (vs : List Way) (ys : List Waiting) → Moves f n ws xs vs ys → IsSender f entries ws xs → IsSender f entries vs ys
moved_sender f n entries ws xs vs ys moves is = record {
  ready = moves.ready is.ready;
  lead = subst (Lead entries) (sym (as_many ws vs moves.same)) is.lead;
}

pub ends : (s : Sending) (stopped : Option ℕ) (k : ℕ) → k ≡ length s.left → Went s.ways s.left stopped → Ends s (became stopped k)
ends s None k long went = went
ends s (Some mailbox) k long went = (sym long, subst (λ (n : ℕ). 0 < n) (sym long) (some s.left went.first), went)
  where
    some : {x : Waiting} {rest : List Waiting} (l : List Waiting) → l ≡ x ∷ rest → 0 < length l
    some l e = subst (λ (l : List Waiting). 0 < length l) (sym e) (omega arith)

pub slips_are : (s : Sending) (slips : List Way) → slips ≡ s.ways → s.left ≡ [] → AreSlips s slips
slips_are s slips same none = record {
  same = same;
  letters = λ ds is b slip at. sym (append-nil slip.put) ∙ subst (λ (l : List Waiting). due s.feeder b s.documents slip l ≡ Letters s.feeder b ds) none (is.letters b slip (subst (λ (l : List Way). slice_get l b ≡ Some slip) same at));
}

abbrev is_none : Option Way → Type 0
is_none None = Unit {0}
is_none (Some _) = ⊥

get_last : (ws : List Way) (w v : Way) (b : ℕ) → slice_get (ws ++ w ∷ []) b ≡ Some v → (slice_get ws b ≡ Some v) ⊎ ((b ≡ length ws) × (w ≡ v))
get_last [] w v zero e = inr (refl, some_same w v e)
get_last [] w v (suc b) e = absurd (none_some e)
  where
    none_some : None ≡ Some v → ⊥
    none_some p = subst is_none p tt
get_last (x ∷ ws) w v zero e = inl e
get_last (x ∷ ws) w v (suc b) e = by_case (get_last ws w v b e)
  where
    by_case : (slice_get ws b ≡ Some v) ⊎ ((b ≡ length ws) × (w ≡ v)) → (slice_get ws b ≡ Some v) ⊎ ((suc b ≡ suc (length ws)) × (w ≡ v))
    by_case (inl h) = inl h
    by_case (inr h) = inr (ap suc h.0, h.1)

-- one way more
pub added : (s : Sending) (w : Way) → IsNextWay s w → IsSender s.feeder s.routes s.ways s.left → IsSender s.feeder s.routes (s.ways ++ w ∷ []) s.left
added s w next is = record {
  ready = record {
    each = λ b v e. by_case b v (get_last s.ways w v b e);
    within = subst (λ (l : List Waiting). All (λ (x : Waiting). x.mailbox < length (s.ways ++ w ∷ [])) l) (sym next.3) (λ k d less. absurd (omega arith));
  };
  lead = λ id b e. let h = is.lead id b e in let l = length-append s.ways (w ∷ []) in omega arith;
}
  where
    by_case : (b : ℕ) (v : Way) → (slice_get s.ways b ≡ Some v) ⊎ ((b ≡ length s.ways) × (w ≡ v)) → (v.feeder ≡ s.feeder) × (v.mailbox ≡ b) × (length v.put + length s.left < 2 ^ 64)
    by_case b v (inl h) = is.ready.each b v h
    by_case b v (inr h) = subst (λ (u : Way). (u.feeder ≡ s.feeder) × (u.mailbox ≡ b) × (length u.put + length s.left < 2 ^ 64)) h.1
        (next.0, next.1 ∙ sym h.0, let p = ap length next.2 in let q = ap length next.3 in omega arith)

-- when a sender may post
pub may_post_where : (s : Sending) (r : Bool) → s.left ≡ [] → s.documents < 2 ^ 62
    → (r ≡ true) ↔ ((b : ℕ) (w : Way) → slice_get s.ways b ≡ Some w → length w.put < 2 ^ 62) → (r ≡ true) ↔ MayPost s
may_post_where s r none few h = (λ e. record { none = none; documents = few; letters = h.0 e }, λ m. h.1 m.letters)

pub no_letter : (left : List Waiting) (k : ℕ) → k ≡ length left → k ≤ 0 → left ≡ []
no_letter [] k e h = refl
no_letter (x ∷ xs) k e h = absurd (omega arith)

-- a document was posted once what was gathered went on
pub posted : (s t : Sending) (ids : List ℕ) (left : List Waiting) → s.left ≡ [] → left ≡ to_go (route_of s) ids
    → GoesOn (record { feeder = s.feeder; routes = s.routes; documents = s.documents + 1; ways = s.ways; left = left }) t → Posts s ids t
posted s t ids left none e on ds is =
    let all = ds ++ record { ids = ids; route = route_of s } ∷ [] in
    on all (subst (λ (l : List Waiting). HasPosted (record { feeder = s.feeder; routes = s.routes; documents = s.documents + 1; ways = s.ways; left = l }) all) (sym e) (gathering_posts s ids none ds is))
