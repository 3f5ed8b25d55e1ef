-- How far bytes have been read, one part of a line more, and what is known where they end.
use Rattle.std.proofs.Common.{◌≡◌, ℕ, zero, suc, ◌+◌, ◌-◌, ◌<◌, ◌≤◌, true, List, [], ◌∷◌, ◌++◌, length, take, refl, ap, sym, ◌∙◌, subst, Ok, Err, append_assoc, append-nil, length-append, arith}
use Rattle.std.specs.List.{sum_by}
use Rattle.std.specs.Cmp.Derive.{both_true}
use Rattle.std.proofs.lemmas.List.{length_push, length-take}
use Rattle.px_reader.specs.declared.event.Event.{Event}
use Rattle.px_reader.specs.declared.fault.DocKind.TheVariants.{TooBig}
use Rattle.px_reader.specs.declared.fault.LineFault.{LineFault}
use Rattle.px_reader.specs.declared.fault.LineFault.TheVariants.{Kind, LineMemory}
use Rattle.px_reader.specs.Lines.{lines_of, has_no_feed, is_whole, is_ended}
use Rattle.px_reader.specs.Spelling.{kinds}
use Rattle.px_reader.specs.Machine.{State}
use Rattle.px_reader.specs.States.{Judging}
use Rattle.px_reader.specs.Judged.{Judged, BeginsTree}
use Rattle.px_reader.specs.Reading.{Reading, IsFirstFault, IsLastFault, fault_at}
use Rattle.px_reader.specs.Verdicts.{IsFaulty, Judges, HasVerdict}
use Rattle.px_reader.proofs.LineCuts.{ended_is, whole_push, lines_push, lines_last, lines_behind, lines_whole, sizes}
use Rattle.px_reader.proofs.Judged.{judged_big}
use Rattle.px_reader.proofs.Prefixes.{given_begins, given_few, kinds_few}
use Rattle.px_reader.proofs.Pieces.{open_big}
use Rattle.px_reader.proofs.Taken.{line_taken, line_barred}
use Rattle.px_reader.proofs.Kept.{kept_judged, kept_more}
use Rattle.px_reader.proofs.Buffered.{no_feeds}

-- the events given begin those of some tree, and are not too many
pub judged_gives : (bytes : List ℕ) (state : State) (given : List Event) → Judged (lines_of bytes) state given → BeginsTree given × (length given ≤ length bytes)
judged_gives bytes state given j =
    let few = given_few (kinds (lines_of bytes)) state given j.led in
    let lines = kinds_few bytes in
    (given_begins (kinds (lines_of bytes)) state given j.led, small (length given) (length (kinds (lines_of bytes))) (length bytes) few lines)
  where
    small : (a b c : ℕ) → a ≤ b → b ≤ c → a ≤ c
    small a b c p q = omega arith

pub read_gives : (state : State) (kept : List ℕ) (size lines : ℕ) (bytes : List ℕ) (given : List Event) → Reading state kept size lines bytes given →
    BeginsTree given × (length given ≤ 16_777_216)
read_gives state kept size lines bytes given r =
    let g = judged_gives r.ended state given r.judged in
    (g.0, within (length given) (length r.ended) (length r.begun) (length bytes) g.1 (ap length r.bytes_are ∙ length-append r.ended r.begun) r.small)
  where
    within : (a b c n : ℕ) → a ≤ b → n ≡ b + c → n ≤ 16_777_216 → a ≤ 16_777_216
    within a b c n p q l = omega arith

-- the line that a part ends, behind the whole lines
record Ended (begun part bytes ended : List ℕ) : Type 0 where
  front : List ℕ
  goes_on : has_no_feed front ≡ true
  line_is : begun ++ part ≡ front ++ 10 ∷ []
  bytes_are : bytes ++ part ≡ ended ++ (front ++ 10 ∷ [])

ended_by : (state : State) (kept : List ℕ) (size lines : ℕ) (bytes : List ℕ) (given : List Event) (part : List ℕ) (r : Reading state kept size lines bytes given) →
    is_ended part ≡ true → Ended r.begun part bytes r.ended
ended_by state kept size lines bytes given part r e =
    let (front, n, same) = ended_is part e in
    let line : r.begun ++ part ≡ (r.begun ++ front) ++ 10 ∷ [] = ap (λ bs. r.begun ++ bs) same ∙ sym (append_assoc r.begun front (10 ∷ [])) in
    record {
      front = r.begun ++ front;
      goes_on = no_feeds r.begun front r.no_feed n;
      line_is = line;
      bytes_are = ap (λ bs. bs ++ part) r.bytes_are ∙ append_assoc r.ended r.begun part ∙ ap (λ bs. r.ended ++ bs) line;
    }

-- the size of the whole lines and one line more
sizes_are : (state : State) (kept : List ℕ) (size lines : ℕ) (bytes : List ℕ) (given : List Event) (part : List ℕ) (r : Reading state kept size lines bytes given) →
    sum_by length (lines_of r.ended) + length (r.begun ++ part) ≡ size + length part
sizes_are state kept size lines bytes given part r =
    added (sum_by length (lines_of r.ended)) (length r.ended) (length r.begun) (length part) (length (r.begun ++ part)) size (sizes r.ended) (length-append r.begun part)
    (r.size_is ∙ ap length r.bytes_are ∙ length-append r.ended r.begun)
  where
    added : (s w b p l n : ℕ) → s ≡ w → l ≡ b + p → n ≡ w + b → s + l ≡ n + p
    added s w b p l n e f g = omega arith

grown : (size : ℕ) (bytes part : List ℕ) → size ≡ length bytes → size + length part ≡ length (bytes ++ part)
grown size bytes part e = ap (λ n. n + length part) e ∙ sym (length-append bytes part)

-- a part that ends the line, which is taken
pub read_line_ok : (state : State) (kept : List ℕ) (size lines : ℕ) (bytes : List ℕ) (given : List Event) (part : List ℕ) (taken : Unit {0}) (new : State) (before behind : List Event) →
    Reading state kept size lines bytes given → is_ended part ≡ true → size + length part ≤ 16_777_216 →
    ((begun : List ℕ) → kept ≡ take 1_048_579 begun → Judging state (begun ++ part) (Ok taken) new before behind) →
    (more : List Event) × (behind ≡ before ++ more) × Reading new [] (size + length part) (lines + 1) (bytes ++ part) (given ++ more)
read_line_ok state kept size lines bytes given part taken new before behind r e fits judging = on (judging r.begun r.kept_are)
  where
    on : Judging state (r.begun ++ part) (Ok taken) new before behind →
        (more : List Event) × (behind ≡ before ++ more) × Reading new [] (size + length part) (lines + 1) (bytes ++ part) (given ++ more)
    on (fit, (room, (brought, s, b))) =
        let d = ended_by state kept size lines bytes given part r e in
        let within = subst (λ n. n ≤ 16_777_216) (sym (sizes_are state kept size lines bytes given part r)) fits in
        let j = line_taken (lines_of r.ended) state given (r.begun ++ part) new brought r.judged within fit room s in
        let same : lines_of (bytes ++ part) ≡ lines_of r.ended ++ (r.begun ++ part) ∷ [] =
        ap lines_of d.bytes_are ∙ lines_push r.ended d.front r.whole d.goes_on ∙ ap (λ l. lines_of r.ended ++ l ∷ []) (sym d.line_is) in (
          brought,
          b,
          record {
            ended = bytes ++ part;
            begun = [];
            bytes_are = sym (append-nil (bytes ++ part));
            whole = subst (λ bs. is_whole bs ≡ true) (sym d.bytes_are) (whole_push r.ended d.front);
            no_feed = refl;
            kept_are = refl;
            size_is = grown size bytes part r.size_is;
            small = subst (λ n. n ≤ 16_777_216) (grown size bytes part r.size_is) fits;
            lines_are = ap (λ n. n + 1) r.lines_are ∙ sym (length_push (lines_of r.ended) (r.begun ++ part)) ∙ ap length (sym same);
            judged = subst (λ ls. Judged ls new (given ++ brought)) (sym same) j;
          },
        )

-- a part that ends the line, and whatever comes behind it
lines_then : (state : State) (kept : List ℕ) (size lines : ℕ) (bytes : List ℕ) (given : List Event) (part rest : List ℕ) (r : Reading state kept size lines bytes given) →
    is_ended part ≡ true → lines_of ((bytes ++ part) ++ rest) ≡ lines_of r.ended ++ (r.begun ++ part) ∷ lines_of rest
lines_then state kept size lines bytes given part rest r e =
    let d = ended_by state kept size lines bytes given part r e in
    ap (λ bs. lines_of (bs ++ rest)) d.bytes_are ∙ ap lines_of (append_assoc r.ended (d.front ++ 10 ∷ []) rest) ∙ lines_behind r.ended d.front rest r.whole d.goes_on
    ∙ ap (λ l. lines_of r.ended ++ l ∷ lines_of rest) (sym d.line_is)

-- a part that ends the line, which is barred
pub read_line_bad : (state : State) (kept : List ℕ) (size lines : ℕ) (bytes : List ℕ) (given : List Event) (part : List ℕ) (fault : LineFault) (new : State) (before behind : List Event) →
    Reading state kept size lines bytes given → is_ended part ≡ true → size + length part ≤ 16_777_216 →
    ((begun : List ℕ) → kept ≡ take 1_048_579 begun → Judging state (begun ++ part) (Err fault) new before behind) →
    IsFirstFault (bytes ++ part) (fault_at (lines + 1) fault) × (behind ≡ before)
read_line_bad state kept size lines bytes given part LineMemory new before behind r e fits judging = (tt, (judging r.begun r.kept_are).1)
read_line_bad state kept size lines bytes given part (Kind kind) new before behind r e fits judging = (verdict, (judging r.begun r.kept_are).1)
  where
    verdict : (rest : List ℕ) → HasVerdict ((bytes ++ part) ++ rest) (IsFaulty (lines + 1) kind)
    verdict rest =
        let within = subst (λ n. n ≤ 16_777_216) (sym (sizes_are state kept size lines bytes given part r)) fits in
        let j = line_barred (lines_of r.ended) state given (r.begun ++ part) (lines_of rest) kind r.judged within (judging r.begun r.kept_are).0 in
        subst (λ ls. Judges ls (IsFaulty (lines + 1) kind)) (sym (lines_then state kept size lines bytes given part rest r e))
        (subst (λ n. Judges (lines_of r.ended ++ (r.begun ++ part) ∷ lines_of rest) (IsFaulty (n + 1) kind)) (sym r.lines_are) j)

-- a part that ends the line, and is too much
pub read_line_big : (state : State) (kept : List ℕ) (size lines : ℕ) (bytes : List ℕ) (given : List Event) (part : List ℕ) → Reading state kept size lines bytes given →
    is_ended part ≡ true → 16_777_216 < size + length part → IsFirstFault (bytes ++ part) (fault_at (lines + 1) (Kind TooBig))
read_line_big state kept size lines bytes given part r e big = λ rest.
    let over = subst (λ n. 16_777_216 < n) (sym (sizes_are state kept size lines bytes given part r)) big in
    let j = judged_big (lines_of r.ended) state given (r.begun ++ part) (lines_of rest) r.judged over in
    subst (λ ls. Judges ls (IsFaulty (lines + 1) TooBig)) (sym (lines_then state kept size lines bytes given part rest r e))
    (subst (λ n. Judges (lines_of r.ended ++ (r.begun ++ part) ∷ lines_of rest) (IsFaulty (n + 1) TooBig)) (sym r.lines_are) j)

-- a part without a line feed
pub read_part : (state : State) (kept : List ℕ) (size lines : ℕ) (bytes : List ℕ) (given : List Event) (part : List ℕ) → Reading state kept size lines bytes given →
    has_no_feed part ≡ true → size + length part ≤ 16_777_216 → (kept' : List ℕ) → kept' ≡ kept ++ take (1_048_579 - length kept) part →
    Reading state kept' (size + length part) lines (bytes ++ part) given
read_part state kept size lines bytes given part r n fits kept' k = record {
  ended = r.ended;
  begun = r.begun ++ part;
  bytes_are = ap (λ bs. bs ++ part) r.bytes_are ∙ append_assoc r.ended r.begun part;
  whole = r.whole;
  no_feed = no_feeds r.begun part r.no_feed n;
  kept_are = k ∙ kept_more kept r.begun part r.kept_are;
  size_is = grown size bytes part r.size_is;
  small = subst (λ n. n ≤ 16_777_216) (grown size bytes part r.size_is) fits;
  lines_are = r.lines_are;
  judged = r.judged;
}

-- a part without a line feed that is too much
pub read_part_big : (state : State) (kept : List ℕ) (size lines : ℕ) (bytes : List ℕ) (given : List Event) (part : List ℕ) → Reading state kept size lines bytes given →
    has_no_feed part ≡ true → 16_777_216 < size + length part → IsFirstFault (bytes ++ part) (fault_at (lines + 1) (Kind TooBig))
read_part_big state kept size lines bytes given part r n big = λ rest.
    let over = subst (λ n. 16_777_216 < n) (sym (sizes_are state kept size lines bytes given part r)) big in
    let j = open_big (lines_of r.ended) state given (r.begun ++ part) rest r.judged (no_feeds r.begun part r.no_feed n) over in
    let cut : (bytes ++ part) ++ rest ≡ r.ended ++ ((r.begun ++ part) ++ rest) =
    ap (λ bs. (bs ++ part) ++ rest) r.bytes_are ∙ ap (λ bs. bs ++ rest) (append_assoc r.ended r.begun part) ∙ append_assoc r.ended (r.begun ++ part) rest in
    let same : lines_of ((bytes ++ part) ++ rest) ≡ lines_of r.ended ++ lines_of ((r.begun ++ part) ++ rest) = ap lines_of cut ∙ lines_whole r.ended ((r.begun ++ part) ++ rest) r.whole in
    subst (λ ls. Judges ls (IsFaulty (lines + 1) TooBig)) (sym same)
    (subst (λ n. Judges (lines_of r.ended ++ lines_of ((r.begun ++ part) ++ rest)) (IsFaulty (n + 1) TooBig)) (sym r.lines_are) j)

-- something is kept of a line exactly where something has begun
kept_some : (n : ℕ) (begun : List ℕ) → 0 < length (take n begun) → 0 < length begun
kept_some n begun some = let e = length-take n begun in omega arith

kept_none : (n : ℕ) (begun : List ℕ) → 0 < n → length (take n begun) ≡ 0 → begun ≡ []
kept_none n [] some e = refl
kept_none zero (b ∷ begun) some e = absurd (omega arith)
kept_none (suc n) (b ∷ begun) some e = absurd (omega arith)

-- the last line of the bytes, where it has no line feed
lines_end : (state : State) (kept : List ℕ) (size lines : ℕ) (bytes : List ℕ) (given : List Event) (r : Reading state kept size lines bytes given) → 0 < length r.begun →
    lines_of bytes ≡ lines_of r.ended ++ r.begun ∷ []
lines_end state kept size lines bytes given r some = ap lines_of r.bytes_are ∙ lines_last r.ended r.begun r.whole r.no_feed some

size_end : (state : State) (kept : List ℕ) (size lines : ℕ) (bytes : List ℕ) (given : List Event) (r : Reading state kept size lines bytes given) →
    sum_by length (lines_of r.ended) + length r.begun ≤ 16_777_216
size_end state kept size lines bytes given r =
    within (sum_by length (lines_of r.ended)) (length r.ended) (length r.begun) (length bytes) (sizes r.ended) (ap length r.bytes_are ∙ length-append r.ended r.begun) r.small
  where
    within : (s w b n : ℕ) → s ≡ w → n ≡ w + b → n ≤ 16_777_216 → s + b ≤ 16_777_216
    within s w b n e f l = omega arith

begun_some : (state : State) (kept : List ℕ) (size lines : ℕ) (bytes : List ℕ) (given : List Event) (r : Reading state kept size lines bytes given) → 0 < length kept → 0 < length r.begun
begun_some state kept size lines bytes given r some = by_kept 1_048_579 r.kept_are
  where
    by_kept : (n : ℕ) → kept ≡ take n r.begun → 0 < length r.begun
    by_kept n e = kept_some n r.begun (subst (λ bs. 0 < length bs) e some)

-- the bytes end with a line that has no line feed, which is taken
pub last_line_ok : (state : State) (kept : List ℕ) (size lines : ℕ) (bytes : List ℕ) (given : List Event) (taken : Unit {0}) (new : State) (before behind : List Event) →
    Reading state kept size lines bytes given → 0 < length kept → Judging state kept (Ok taken) new before behind →
    (more : List Event) × (behind ≡ before ++ more) × Judged (lines_of bytes) new (given ++ more) × (length (lines_of bytes) ≡ lines + 1)
last_line_ok state kept size lines bytes given taken new before behind r some judging =
    on (kept_judged state new r.begun (Ok taken) before behind (subst (λ bs. Judging state bs (Ok taken) new before behind) r.kept_are judging))
  where
    on : Judging state r.begun (Ok taken) new before behind →
        (more : List Event) × (behind ≡ before ++ more) × Judged (lines_of bytes) new (given ++ more) × (length (lines_of bytes) ≡ lines + 1)
    on (fit, (room, (brought, s, b))) =
        let same = lines_end state kept size lines bytes given r (begun_some state kept size lines bytes given r some) in
        let j = line_taken (lines_of r.ended) state given r.begun new brought r.judged (size_end state kept size lines bytes given r) fit room s in (
          brought,
          b,
          subst (λ ls. Judged ls new (given ++ brought)) (sym same) j,
          ap length same ∙ length_push (lines_of r.ended) r.begun ∙ ap (λ n. n + 1) (sym r.lines_are),
        )

-- the bytes end with a line that has no line feed, which is barred
pub last_line_bad : (state : State) (kept : List ℕ) (size lines : ℕ) (bytes : List ℕ) (given : List Event) (fault : LineFault) (new : State) (before behind : List Event) →
    Reading state kept size lines bytes given → 0 < length kept → Judging state kept (Err fault) new before behind →
    IsLastFault bytes (fault_at (lines + 1) fault) × (behind ≡ before)
last_line_bad state kept size lines bytes given LineMemory new before behind r some judging = (tt, judging.1)
last_line_bad state kept size lines bytes given (Kind kind) new before behind r some judging =
    (on (kept_judged state new r.begun (Err (Kind kind)) before behind (subst (λ bs. Judging state bs (Err (Kind kind)) new before behind) r.kept_are judging)), judging.1)
  where
    on : Judging state r.begun (Err (Kind kind)) new before behind → HasVerdict bytes (IsFaulty (lines + 1) kind)
    on barred =
        let same = lines_end state kept size lines bytes given r (begun_some state kept size lines bytes given r some) in
        let j = line_barred (lines_of r.ended) state given r.begun [] kind r.judged (size_end state kept size lines bytes given r) barred.0 in
        subst (λ ls. Judges ls (IsFaulty (lines + 1) kind)) (sym same)
        (subst (λ n. Judges (lines_of r.ended ++ r.begun ∷ []) (IsFaulty (n + 1) kind)) (sym r.lines_are) j)

-- the bytes end with a line feed, or there are none
pub no_last_line : (state : State) (kept : List ℕ) (size lines : ℕ) (bytes : List ℕ) (given : List Event) → Reading state kept size lines bytes given → length kept ≡ 0 →
    Judged (lines_of bytes) state given × (length (lines_of bytes) ≡ lines)
no_last_line state kept size lines bytes given r none =
    let same : bytes ≡ r.ended = r.bytes_are ∙ ap (λ bs. r.ended ++ bs) (by_kept 1_048_579 (omega arith) r.kept_are) ∙ append-nil r.ended in
    (subst (λ bs. Judged (lines_of bs) state given) (sym same) r.judged, ap (λ bs. length (lines_of bs)) same ∙ sym r.lines_are)
  where
    by_kept : (n : ℕ) → 0 < n → kept ≡ take n r.begun → r.begun ≡ []
    by_kept n some e = kept_none n r.begun some (subst (λ bs. length bs ≡ 0) e none)
