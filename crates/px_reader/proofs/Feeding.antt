-- One reading behind another, and what the end of a document shows.
use Rattle.std.proofs.Common.{◌≡◌, ℕ, ◌<◌, ◌≤◌, Bool, true, false, List, [], ◌++◌, ◌-◌, length, take, drop, refl, ap, sym, ◌∙◌, subst, append_assoc, append-nil, arith, ◌==◌, inl, inr}
use Rattle.std.proofs.lemmas.List.{length-drop, take_all, take-append-drop}
use Rattle.std.proofs.lemmas.Bool.Decides.{eqb_tells}
use Rattle.px_reader.specs.declared.event.Event.{Event}
use Rattle.px_reader.specs.declared.fault.DocKind.TheVariants.{Truncated}
use Rattle.px_reader.specs.declared.fault.ReaderFault.{ReaderFault}
use Rattle.px_reader.specs.declared.fault.ReaderFault.TheVariants.{Doc, Memory}
use Rattle.px_reader.specs.Progress.{Progress}
use Rattle.px_reader.specs.Judged.{BeginsTree}
use Rattle.px_reader.specs.Lines.{lines_of}
use Rattle.px_reader.specs.Machine.{State, Before, Attributes, Inside, After}
use Rattle.px_reader.specs.Reading.{Reading, HasRead, IsFirstFault, IsLastFault, ReadsOn, ReadsAll, GivesOn, EndsTree}
use Rattle.px_reader.specs.States.{is_after}
use Rattle.px_reader.specs.Verdicts.{HasVerdict, IsFaulty}
use Rattle.px_reader.proofs.Judged.{judged_tree, judged_truncated}
use Rattle.px_reader.proofs.Readings.{read_gives, judged_gives}

-- the same by equal counts
pub reading_as : (state : State) (kept kept' : List ℕ) (size size' lines lines' : ℕ) (bytes : List ℕ) (given : List Event) → Reading state kept size lines bytes given →
    kept' ≡ kept → size' ≡ size → lines' ≡ lines → Reading state kept' size' lines' bytes given
reading_as state kept kept' size size' lines lines' bytes given r k s l = rw (k, s, l) r

-- what has been read gives on
pub reads_give : (reader : Progress) (bytes : List ℕ) (given before behind : List Event) → ReadsOn reader bytes given before behind → GivesOn given before behind
reads_give reader bytes given before behind (more, e, h) =
    let g = read_gives reader.state reader.kept reader.size reader.lines bytes (given ++ more) h.reading in
    (more, e, g.0, g.1)

-- and so does what gives no more
pub still_gives : (reader : Progress) (bytes : List ℕ) (given before behind : List Event) → HasRead reader bytes given → behind ≡ before → GivesOn given before behind
still_gives reader bytes given before behind h e =
    let g = read_gives reader.state reader.kept reader.size reader.lines bytes given h.reading in
    let same : given ++ [] ≡ given = append-nil given in
    ([], e ∙ sym (append-nil before), subst BeginsTree (sym same) g.0, subst (λ (evs : List Event). length evs ≤ 16_777_216) (sym same) g.1)

-- all lines give on
pub all_give : (reader : Progress) (state : State) (lines : ℕ) (bytes : List ℕ) (given before behind : List Event) → HasRead reader bytes given →
    ReadsAll state lines bytes given before behind → GivesOn given before behind
all_give reader state lines bytes given before behind h (more, e, j, l) =
    let g = judged_gives bytes state (given ++ more) j in
    let small = h.reading.small in
    (more, e, g.0, within (length (given ++ more)) (length bytes) g.1 small)
  where
    within : (a b : ℕ) → a ≤ b → b ≤ 16_777_216 → a ≤ 16_777_216
    within a b h k = omega arith

-- a fault of bytes is one of all that begin with them
pub fault_behind : (bytes done part piece rest : List ℕ) (fault : ReaderFault) → IsFirstFault ((bytes ++ done) ++ part) fault → piece ≡ done ++ (part ++ rest) →
    IsFirstFault (bytes ++ piece) fault
fault_behind bytes done part piece rest Memory f e = tt
fault_behind bytes done part piece rest (Doc fault) f e = λ behind.
    let cut : (bytes ++ piece) ++ behind ≡ ((bytes ++ done) ++ part) ++ (rest ++ behind) = rw e (simp append_assoc) in
    subst (λ bs. HasVerdict bs (IsFaulty fault.line fault.kind)) (sym cut) (f (rest ++ behind))

-- one reading behind another
pub reads_on : (middle reader : Progress) (bytes part : List ℕ) (given before between behind : List Event) → ReadsOn middle bytes given before between →
    ((bytes : List ℕ) (given : List Event) → HasRead middle bytes given → ReadsOn reader (bytes ++ part) given between behind) → ReadsOn reader (bytes ++ part) given before behind
reads_on middle reader bytes part given before between behind (more, e, h) on =
    let (rest, f, k) = on bytes (given ++ more) h in
    (more ++ rest, f ∙ ap (λ evs. evs ++ rest) e ∙ append_assoc before more rest, subst (λ evs. HasRead reader (bytes ++ part) evs) (append_assoc given more rest) k)

-- the document has ended, with its tree or too early
pub all_tree : (state : State) (lines : ℕ) (bytes : List ℕ) (given before behind : List Event) → ReadsAll state lines bytes given before behind → is_after state ≡ true →
    EndsTree bytes given before behind
all_tree After lines bytes given before behind (more, e, j, l) a =
    let (root, evs, v) = judged_tree (lines_of bytes) (given ++ more) j in
    (root, more, e, evs, v)
all_tree Before lines bytes given before behind r a = absurd (cc)
all_tree (Attributes names name outer) lines bytes given before behind r a = absurd (cc)
all_tree (Inside text name outer) lines bytes given before behind r a = absurd (cc)

pub all_truncated : (state : State) (lines : ℕ) (bytes : List ℕ) (given before behind : List Event) → ReadsAll state lines bytes given before behind → is_after state ≡ false →
    HasVerdict bytes (IsFaulty lines Truncated)
all_truncated state lines bytes given before behind (more, e, j, l) a =
    subst (λ n. HasVerdict bytes (IsFaulty n Truncated)) l (judged_truncated (lines_of bytes) state (given ++ more) j (λ s. let t : is_after After ≡ false = subst (λ s. is_after s ≡ false) s a in cc))

-- The piece is read up to its rest.
pub record ReadsTo (old reader : Progress) (piece rest : List ℕ) (before behind : List Event) : Type 0 where
  pub done : List ℕ
  pub piece_is : piece ≡ done ++ rest
  pub reads : (bytes : List ℕ) (given : List Event) → HasRead old bytes given → ReadsOn reader (bytes ++ done) given before behind

-- what is read without an event
pub reads_quietly : (reader : Progress) (bytes : List ℕ) (given before : List Event) → HasRead reader bytes given → ReadsOn reader bytes given before before
reads_quietly reader bytes given before h =
    ([], sym (append-nil before), subst (λ evs. HasRead reader bytes evs) (sym (append-nil given)) h)

pub reads_to_start : (reader : Progress) (piece : List ℕ) (before : List Event) → ReadsTo reader reader piece piece before before
reads_to_start reader piece before = record {
  done = [];
  piece_is = refl;
  reads = λ bytes given h. subst (λ bs. ReadsOn reader bs given before before) (sym (append-nil bytes)) (reads_quietly reader bytes given before h);
}

pub reads_to_more : (old middle reader : Progress) (piece rest part left : List ℕ) (before between behind : List Event) → ReadsTo old middle piece rest before between →
    rest ≡ part ++ left → ((bytes : List ℕ) (given : List Event) → HasRead middle bytes given → ReadsOn reader (bytes ++ part) given between behind) →
    ReadsTo old reader piece left before behind
reads_to_more old middle reader piece rest part left before between behind r e on = record {
  done = r.done ++ part;
  piece_is = r.piece_is ∙ ap (λ bs. r.done ++ bs) e ∙ sym (append_assoc r.done part left);
  reads = λ bytes given h. subst (λ bs. ReadsOn reader bs given before behind) (append_assoc bytes r.done part) (reads_on middle reader (bytes ++ r.done) part given before between behind (r.reads bytes given h) on);
}

-- the rest of the piece is read too
pub reads_to_end : (old middle reader : Progress) (piece rest : List ℕ) (before between : List Event) → ReadsTo old middle piece rest before between →
    ((bytes : List ℕ) (given : List Event) → HasRead middle bytes given → HasRead reader (bytes ++ rest) given) →
    (bytes : List ℕ) (given : List Event) → HasRead old bytes given → ReadsOn reader (bytes ++ piece) given before between
reads_to_end old middle reader piece rest before between r on bytes given h =
    subst (λ bs. ReadsOn reader bs given before between) (append_assoc bytes r.done rest ∙ ap (λ bs. bytes ++ bs) (sym r.piece_is))
    (reads_on middle reader (bytes ++ r.done) rest given before between between (r.reads bytes given h) (λ bytes given h. reads_quietly reader (bytes ++ rest) given between (on bytes given h)))

pub reads_to_gives : (old middle : Progress) (piece rest : List ℕ) (before between behind : List Event) → ReadsTo old middle piece rest before between → behind ≡ between →
    (bytes : List ℕ) (given : List Event) → HasRead old bytes given → GivesOn given before behind
reads_to_gives old middle piece rest before between behind r e bytes given h =
    subst (λ evs. GivesOn given before evs) (sym e) (reads_give middle (bytes ++ r.done) given before between (r.reads bytes given h))

-- the next part of the piece shows a fault
pub reads_to_fault : (old middle : Progress) (piece rest part left : List ℕ) (before between : List Event) (fault : ReaderFault) → ReadsTo old middle piece rest before between →
    rest ≡ part ++ left → ((bytes : List ℕ) (given : List Event) → HasRead middle bytes given → IsFirstFault (bytes ++ part) fault) →
    (bytes : List ℕ) (given : List Event) → HasRead old bytes given → IsFirstFault (bytes ++ piece) fault
reads_to_fault old middle piece rest part left before between fault r e on bytes given h =
    let (more, behind, k) = r.reads bytes given h in
    fault_behind bytes r.done part piece left fault (on (bytes ++ r.done) (given ++ more) k) (r.piece_is ∙ ap (λ bs. r.done ++ bs) e)

-- a list up to a place and from there on
pub cut_at : (n : ℕ) (xs : List ℕ) → xs ≡ take n xs ++ take (length xs - n) (drop n xs)
cut_at n xs =
    let short : length (drop n xs) ≤ length xs - n = let l = length-drop n xs in omega arith in
    sym (ap (λ ys. take n xs ++ ys) (take_all (length xs - n) (drop n xs) short) ∙ take-append-drop n xs)

-- whether a count is nought
pub count_none : (n : ℕ) (t : Bool) → t ≡ (n == 0) → t ≡ true → n ≡ 0
count_none n t e h = elim (eqb_tells n 0) [ inl p ↦ p.1 | inr p ↦ absurd (let f : true ≡ false = sym h ∙ e ∙ p.0 in cc) ]

pub count_some : (n : ℕ) (t : Bool) → t ≡ (n == 0) → t ≡ false → 0 < n
count_some n t e h = elim (eqb_tells n 0) [ inl p ↦ absurd (let f : false ≡ true = sym h ∙ e ∙ p.0 in cc) | inr p ↦ let k = p.1 in omega arith ]

-- The reader has read the bytes up to the rest.
pub record HasBegun (reader : Progress) (bytes rest : List ℕ) : Type 0 where
  pub done : List ℕ
  pub given : List Event
  pub bytes_are : bytes ≡ done ++ rest
  pub read : HasRead reader done given

-- a fault of bytes that go on is the verdict on all of them
pub begun_fault : (old : Progress) (bytes rest piece left : List ℕ) (fault : ReaderFault) → HasBegun old bytes rest → rest ≡ piece ++ left →
    ((bytes : List ℕ) (given : List Event) → HasRead old bytes given → IsFirstFault (bytes ++ piece) fault) → IsLastFault bytes fault
begun_fault old bytes rest piece left Memory b e on = tt
begun_fault old bytes rest piece left (Doc fault) b e on =
    let cut : bytes ≡ (b.done ++ piece) ++ left = b.bytes_are ∙ ap (λ bs. b.done ++ bs) e ∙ sym (append_assoc b.done piece left) in
    subst (λ bs. HasVerdict bs (IsFaulty fault.line fault.kind)) (sym cut) (on b.done b.given b.read left)

pub two_parts : (n : ℕ) (xs front back : List ℕ) → front ≡ take n xs → back ≡ drop n xs → xs ≡ front ++ back
two_parts n xs front back f b = rw (f, b) (sym (take-append-drop n xs))
