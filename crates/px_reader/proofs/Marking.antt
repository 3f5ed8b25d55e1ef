-- Marks on bytes: more bytes behind them, and one more mark.
use Rattle.std.proofs.Common.{◌≡◌, ℕ, zero, suc, ◌+◌, ◌-◌, ◌<◌, ◌≤◌, List, [], ◌∷◌, ◌++◌, length, take, drop, get_or, Some, refl, ap, sym, ◌∙◌, subst, append_assoc, append-nil, length-append, length-drop, arith}
use Rattle.std.proofs.lemmas.List.{take-append-le, drop-append-le, take_at, drop_at, map_push}
use Rattle.std.specs.List.{slice_get}
use Rattle.std.specs.Option.{option_map}
use Rattle.std.proofs.lemmas.Option.{slice_get-map, slice_get_read}
use Rattle.px_reader.specs.declared.event.Event.{Event}
use Rattle.px_reader.specs.declared.event_list.Mark.{Mark}
use Rattle.px_reader.specs.declared.event_list.MarkKind.{MarkKind}
use Rattle.px_reader.specs.Marks.{part_of, made_of, marked, marked_all, IsMark, AreWithin}

pub part_kept : (bytes more : List ℕ) (at end : ℕ) → at ≤ end → end ≤ length bytes → part_of (bytes ++ more) at end ≡ part_of bytes at end
part_kept bytes more at end o w =
    let n = length-drop at bytes in
    ap (take (end - at)) (drop-append-le at bytes more (omega arith)) ∙ take-append-le (end - at) (drop at bytes) more (omega arith)

pub part_behind : (before part more : List ℕ) (at end : ℕ) → at ≡ length before → end ≡ at + length part → part_of (before ++ (part ++ more)) at end ≡ part
part_behind before part more at end a e =
    ap (take (end - at)) (drop_at before (part ++ more) at (sym a)) ∙ take_at part more (end - at) (omega arith)

pub marked_kept : (bytes more : List ℕ) (mark : Mark) → IsMark (length bytes) mark → marked (bytes ++ more) mark ≡ marked bytes mark
marked_kept bytes more mark within =
    ap (λ first. made_of mark.kind first (part_of (bytes ++ more) mark.middle mark.end)) (part_kept bytes more mark.start mark.middle within.first (omega arith))
    ∙ ap (made_of mark.kind (part_of bytes mark.start mark.middle)) (part_kept bytes more mark.middle mark.end within.second within.within)

pub all_kept : (bytes more : List ℕ) (marks : List Mark) → AreWithin (length bytes) marks → marked_all (bytes ++ more) marks ≡ marked_all bytes marks
all_kept bytes more [] within = refl
all_kept bytes more (mark ∷ marks) within =
    ap (λ event. event ∷ marked_all (bytes ++ more) marks) (marked_kept bytes more mark within.0) ∙ ap (λ events. marked bytes mark ∷ events) (all_kept bytes more marks within.1)

pub within_more : (n m : ℕ) (marks : List Mark) → n ≤ m → AreWithin n marks → AreWithin m marks
within_more n m [] l within = tt
within_more n m (mark ∷ marks) l within = (record { first = within.0.first; second = within.0.second; within = omega arith }, within_more n m marks l within.1)

pub within_one : (n : ℕ) (marks : List Mark) (mark : Mark) → AreWithin n marks → IsMark n mark → AreWithin n (marks ++ mark ∷ [])
within_one n [] mark within is = (is, tt)
within_one n (first ∷ marks) mark within is = (within.0, within_one n marks mark within.1 is)

-- an event's bytes come behind the others, and its mark
pub marked_one : (bytes first second : List ℕ) (marks : List Mark) (kind : MarkKind) (mark : Mark) →
    mark ≡ record { kind = kind; start = length bytes; middle = length bytes + length first; end = length bytes + length first + length second } →
    AreWithin (length bytes) marks → marked_all ((bytes ++ first) ++ second) (marks ++ mark ∷ []) ≡ marked_all bytes marks ++ made_of kind first second ∷ []
marked_one bytes first second marks kind mark is within =
    let all = (bytes ++ first) ++ second in
    let start = length bytes in
    let middle = length bytes + length first in
    let one : part_of all start middle ≡ first = ap (λ bs. part_of bs start middle) (append_assoc bytes first second) ∙ part_behind bytes first second start middle refl refl in
    let none : all ≡ (bytes ++ first) ++ (second ++ []) = ap (λ bs. (bytes ++ first) ++ bs) (sym (append-nil second)) in
    let two : part_of all middle (middle + length second) ≡ second =
    ap (λ bs. part_of bs middle (middle + length second)) none ∙ part_behind (bytes ++ first) second [] middle (middle + length second) (sym (length-append bytes first)) refl in
    let event : marked all mark ≡ made_of kind first second =
    ap (marked all) is ∙ ap (λ f. made_of kind f (part_of all middle (middle + length second))) one ∙ ap (made_of kind first) two in
    map_push (marked all) marks mark ∙ ap (λ es. es ++ marked all mark ∷ []) (ap (λ bs. marked_all bs marks) (append_assoc bytes first second) ∙ all_kept bytes (first ++ second) marks within)
    ∙ ap (λ e. marked_all bytes marks ++ e ∷ []) event

pub within_mark : (n first second : ℕ) (kind : MarkKind) (mark : Mark) → mark ≡ record { kind = kind; start = n; middle = n + first; end = n + first + second } → IsMark (n + first + second) mark
within_mark n first second kind mark is =
    subst (IsMark (n + first + second)) (sym is) (record { first = omega arith; second = omega arith; within = omega arith })

pub mark_at : (n : ℕ) (marks : List Mark) (i : ℕ) (mark : Mark) → AreWithin n marks → i < length marks → mark ≡ get_or marks i mark → IsMark n mark
mark_at n [] i mark within l e = absurd (omega arith)
mark_at n (first ∷ marks) zero mark within l e = subst (IsMark n) (sym e) within.0
mark_at n (first ∷ marks) (suc i) mark within l e = mark_at n marks i mark within.1 (omega arith) e

-- the event at a place, by its mark and its bytes
pub event_at : (bytes : List ℕ) (marks : List Mark) (events : List Event) (i : ℕ) (mark : Mark) (kind : MarkKind) (first second : List ℕ) →
    marked_all bytes marks ≡ events → i < length marks → mark ≡ get_or marks i mark → mark.kind ≡ kind →
    first ≡ part_of bytes mark.start mark.middle → second ≡ part_of bytes mark.middle mark.end → slice_get events i ≡ Some (made_of kind first second)
event_at bytes marks events i mark kind first second view l e k f s =
    ap (λ es. slice_get es i) (sym view) ∙ slice_get-map (marked bytes) marks i ∙ ap (option_map (marked bytes)) (slice_get_read marks (length marks) i mark refl l e)
    ∙ ap Some (ap (λ x. made_of x (part_of bytes mark.start mark.middle) (part_of bytes mark.middle mark.end)) k
    ∙ ap (λ x. made_of kind x (part_of bytes mark.middle mark.end)) (sym f) ∙ ap (made_of kind first) (sym s))

-- the same of lists that are called by other names
joined : (bytes first second half whole : List ℕ) → half ≡ bytes ++ first → whole ≡ half ++ second → whole ≡ (bytes ++ first) ++ second
joined bytes first second half whole h w = w ∙ ap (λ bs. bs ++ second) h

pub within_behind : (bytes first second half whole : List ℕ) (marks all : List Mark) → half ≡ bytes ++ first → whole ≡ half ++ second → all ≡ marks →
    AreWithin (length bytes) marks → AreWithin (length whole) all
within_behind bytes first second half whole marks all h w m within =
    let n = ap (λ (bs : List ℕ). length bs) (joined bytes first second half whole h w) in
    let a = length-append (bytes ++ first) second in
    let b = length-append bytes first in
    subst (AreWithin (length whole)) (sym m) (within_more (length bytes) (length whole) marks (omega arith) within)

pub one_behind : (bytes first second half whole : List ℕ) (marks all : List Mark) (kind : MarkKind) (mark : Mark) (n : ℕ) →
    half ≡ bytes ++ first → whole ≡ half ++ second → all ≡ marks ++ mark ∷ [] → n ≡ length bytes →
    mark ≡ record { kind = kind; start = n; middle = n + length first; end = n + length first + length second } →
    AreWithin (length bytes) marks → AreWithin (length whole) all
one_behind bytes first second half whole marks all kind mark n h w m start is within =
    let l = ap (λ (bs : List ℕ). length bs) (joined bytes first second half whole h w) in
    let a = length-append (bytes ++ first) second in
    let b = length-append bytes first in
    let size : n + length first + length second ≡ length whole = omega arith in
    let one : IsMark (length whole) mark = subst (λ k. IsMark k mark) size (within_mark n (length first) (length second) kind mark is) in
    subst (AreWithin (length whole)) (sym m) (within_one (length whole) marks mark (within_more (length bytes) (length whole) marks (omega arith) within) one)

pub view_behind : (bytes first second half whole : List ℕ) (marks all : List Mark) (kind : MarkKind) (mark : Mark) (n : ℕ) →
    half ≡ bytes ++ first → whole ≡ half ++ second → all ≡ marks ++ mark ∷ [] → n ≡ length bytes →
    mark ≡ record { kind = kind; start = n; middle = n + length first; end = n + length first + length second } →
    AreWithin (length bytes) marks → marked_all whole all ≡ marked_all bytes marks ++ made_of kind first second ∷ []
view_behind bytes first second half whole marks all kind mark n h w m start is within =
    let placed : mark ≡ record { kind = kind; start = length bytes; middle = length bytes + length first; end = length bytes + length first + length second } =
    is ∙ ap (λ (k : ℕ). let made : Mark = record { kind = kind; start = k; middle = k + length first; end = k + length first + length second } in made) start in
    ap (λ bs. marked_all bs all) (joined bytes first second half whole h w) ∙ ap (marked_all ((bytes ++ first) ++ second)) m
    ∙ marked_one bytes first second marks kind mark placed within
