-- A piece is taken line by line.
use Rattle.std.proofs.Common.{◌≡◌, ℕ, ◌+◌, ◌-◌, List, [], ◌∷◌, ◌++◌, length, take, refl, ap, sym, ◌∙◌, subst, append_assoc, append-nil, length-append, Ok, Err, Some, None, arith}
use Rattle.std.proofs.lemmas.List.{take_at}
use Rattle.px_feed.specs.declared.fault.Failure.{Failure}
use Rattle.px_feed.specs.declared.fault.Failure.TheVariants.{Fault, Memory}
use Rattle.px_feed.specs.declared.item.Item.{Item as Given}
use Rattle.px_feed.specs.declared.joiner.Joiner.{Joiner}
use Rattle.px_feed.specs.declared.joiner.Brought.TheVariants as found
use Rattle.px_feed.specs.Items.{Item, AtFault, HasItems}
use Rattle.px_feed.specs.Joining.{HasJoined, FailsOn, JoinsLine, JoinsPart, JoinsPiece, total}

-- The piece is taken up to its rest, and brought no item.
pub record TakesTo (old new : Joiner) (piece rest : List ℕ) : Type 0 where
  pub done : List ℕ
  pub piece_is : piece ≡ done ++ rest
  pub counted : total new ≡ total old + length done
  pub joins : (bytes : List ℕ) (given : List Item) → HasJoined old bytes given → HasJoined new (bytes ++ done) given

pub takes_none : (joiner : Joiner) (piece : List ℕ) → TakesTo joiner joiner piece piece
takes_none joiner piece = record {
  done = [];
  piece_is = refl;
  counted = omega arith;
  joins = λ bytes given j. subst (λ bs. HasJoined joiner bs given) (sym (append-nil bytes)) j;
}

-- one line more, without an item
pub takes_line : (old middle new : Joiner) (piece rest line behind : List ℕ) → TakesTo old middle piece rest → rest ≡ line ++ behind → total new ≡ total middle + length line →
    JoinsLine middle line (Ok None) new → TakesTo old new piece behind
takes_line old middle new piece rest line behind t e counted joins = record {
  done = t.done ++ line;
  piece_is = t.piece_is ∙ ap (λ bs. t.done ++ bs) e ∙ sym (append_assoc t.done line behind);
  counted = sum (total old) (total middle) (total new) (length t.done) (length line) (length (t.done ++ line)) t.counted counted (length-append t.done line);
  joins = λ bytes given j. subst (λ bs. HasJoined new bs given) (append_assoc bytes t.done line) (joins (bytes ++ t.done) given (t.joins bytes given j));
}
  where
    sum : (o m n d l s : ℕ) → m ≡ o + d → n ≡ m + l → s ≡ d + l → n ≡ o + s
    sum o m n d l s p q r = omega arith

-- a fault of a part is one of the piece
fails_behind : (bytes done part behind piece : List ℕ) (given : List Item) (failure : Failure) → piece ≡ done ++ (part ++ behind) → FailsOn ((bytes ++ done) ++ part) given failure → FailsOn (bytes ++ piece) given failure
fails_behind bytes done part behind piece given Memory e f = tt
fails_behind bytes done part behind piece given (Fault fault) e f = λ rest.
    let cut : (bytes ++ piece) ++ rest ≡ ((bytes ++ done) ++ part) ++ (behind ++ rest) = rw e (simp append_assoc) in
    subst (λ bs. HasItems bs given (AtFault fault.line fault.kind)) (sym cut) (f (behind ++ rest))

pub brings_fault : (old middle new last : Joiner) (piece rest line behind : List ℕ) (failure : Failure) → TakesTo old middle piece rest → rest ≡ line ++ behind →
    JoinsLine middle line (Err failure) new → JoinsPiece old piece (found.Failed failure) last
brings_fault old middle new last piece rest line behind failure t e joins bytes given j =
    fails_behind bytes t.done line behind piece given failure (t.piece_is ∙ ap (λ bs. t.done ++ bs) e) (joins (bytes ++ t.done) given (t.joins bytes given j))

-- an item, and how much of the piece it used
pub brings_item : (old middle new : Joiner) (piece rest line behind : List ℕ) (item : Given) (used : ℕ) → TakesTo old middle piece rest → rest ≡ line ++ behind →
    JoinsLine middle line (Ok (Some item)) new → used ≡ length piece - length behind → JoinsPiece old piece (found.Item used item) new
brings_item old middle new piece rest line behind item used t e joins u bytes given j =
    let (brought, is, k) = joins (bytes ++ t.done) given (t.joins bytes given j) in
    (brought, is, subst (λ bs. HasJoined new bs (given ++ brought ∷ [])) same k)
  where
    piece_is : piece ≡ (t.done ++ line) ++ behind
    piece_is = t.piece_is ∙ ap (λ bs. t.done ++ bs) e ∙ sym (append_assoc t.done line behind)

    used_is : used ≡ length (t.done ++ line)
    used_is = u ∙ less (length piece) (length (t.done ++ line)) (length behind) (ap length piece_is ∙ length-append (t.done ++ line) behind)
      where
        less : (p d b : ℕ) → p ≡ d + b → p - b ≡ d
        less p d b e = omega arith

    front : take used piece ≡ t.done ++ line
    front = ap (take used) piece_is ∙ take_at (t.done ++ line) behind used (sym used_is)

    same : (bytes ++ t.done) ++ line ≡ bytes ++ take used piece
    same = append_assoc bytes t.done line ∙ ap (λ bs. bytes ++ bs) (sym front)

-- the rest of the piece
pub brings_nothing : (old middle new : Joiner) (piece rest : List ℕ) (done : Unit {0}) → TakesTo old middle piece rest → JoinsPart middle rest (Ok done) new → JoinsPiece old piece found.Nothing new
brings_nothing old middle new piece rest done t joins bytes given j =
    let cut : (bytes ++ t.done) ++ rest ≡ bytes ++ piece = append_assoc bytes t.done rest ∙ ap (λ bs. bytes ++ bs) (sym t.piece_is) in
    subst (λ bs. HasJoined new bs given) cut (joins (bytes ++ t.done) given (t.joins bytes given j))

pub brings_last_fault : (old middle new last : Joiner) (piece rest : List ℕ) (failure : Failure) → TakesTo old middle piece rest → JoinsPart middle rest (Err failure) new →
    JoinsPiece old piece (found.Failed failure) last
brings_last_fault old middle new last piece rest failure t joins bytes given j =
    fails_behind bytes t.done rest [] piece given failure (t.piece_is ∙ ap (λ bs. t.done ++ bs) (sym (append-nil rest))) (joins (bytes ++ t.done) given (t.joins bytes given j))

pub counted_all : (old middle new : Joiner) (piece rest : List ℕ) → TakesTo old middle piece rest → total new ≡ total middle + length rest → total new ≡ total old + length piece
counted_all old middle new piece rest t e = sum (total old) (total middle) (total new) (length t.done) (length rest) (length piece) t.counted e (ap length t.piece_is ∙ length-append t.done rest)
  where
    sum : (o m n d l s : ℕ) → m ≡ o + d → n ≡ m + l → s ≡ d + l → n ≡ o + s
    sum o m n d l s p q r = omega arith
