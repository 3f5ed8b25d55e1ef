-- A proof that comes in pieces, in front of a document.
use Rattle.std.proofs.Common.{◌≡◌, ◌≢◌, ◌<◌, ◌≤◌, ◌+◌, ◌-◌, ◌*◌, ℕ, arith, Bool, true, false, ◌&&◌, not, nat_eq, nat_lt, List, [], ◌∷◌, ◌++◌, append_assoc, append-nil, length, length-append, get_or, take, drop, refl, ap, ◌∙◌, sym, subst, eq-eqb, if◌then◌else◌, inl, Some, None, codes}
use Rattle.std.specs.List.{list_any}
use Rattle.std.specs.Cmp.Lexicographic.{pointwise}
use Rattle.std.proofs.lemmas.Bool.{eqb-true, ltb-true, ltb-false, and_parts, and_from, or_parts}
use Rattle.std.proofs.lemmas.Fmt.{length-decimal-le}
use Rattle.std.proofs.lemmas.Grind.{flat_map-append}
use Rattle.std.proofs.lemmas.List.Folds.{list_all-append}
use Rattle.std.specs.Prelude.{decimal}
use Rattle.px_explain.specs.declared.node.ProofNode.{ProofNode}
use Rattle.px_explain.specs.declared.node.ProofNode.TheVariants.{Y, N, T, C, R, V, A, B, O, P, Bang}
use Rattle.px_explain.specs.declared.proof_reader.ProofReader.{ProofReader}
use Rattle.px_explain.specs.declared.reading.ProofFault.{ProofFault}
use Rattle.px_explain.specs.declared.reading.ProofFault.TheVariants.{NotAProof, TooMany}
use Rattle.px_explain.specs.Bounds.{has_above, AreSmall}
use Rattle.px_explain.specs.Incoming.{HasTaken, HasProof, IsFaultOf, TakesOn, EndsProof, FailsBy, fault_behind}
use Rattle.px_explain.specs.Lines.{node_of}
use Rattle.px_explain.specs.Openings.{AreLines, BeginsWithEnd, end_line, has_no_feed}
use Rattle.px_explain.specs.Texts.{words, line, text_of, BeginsWithLine}
use Rattle.px_explain.proofs.Bounded.{still_small}
use Rattle.px_explain.proofs.Numerals.{no_feed, no_feed_is, no_words, split_once, words_node, front_before, front_no_feed, line_cut, behind_line}

pub no_feed_of : (bs : List ℕ) → has_no_feed bs ≡ true → no_feed bs ≡ true
no_feed_of bs h = no_feed_is bs ∙ h

pub no_feed_both : (a b : List ℕ) → has_no_feed a ≡ true → has_no_feed b ≡ true → has_no_feed (a ++ b) ≡ true
no_feed_both a b h k = list_all-append (λ (c : ℕ). not (nat_eq c 10)) a b ∙ and_from (has_no_feed a) (has_no_feed b) h k

-- bytes without a line feed begin with none
beyond : (xs more ys m : List ℕ) → has_no_feed xs ≡ true → length ys < length xs → xs ++ more ≡ ys ++ 10 ∷ m → ⊥
beyond [] more ys m f l e = omega arith
beyond (x ∷ xs) more [] m f l e =
    let head : x ≡ 10 = cc in
    apart (sym (and_parts (not (nat_eq x 10)) (has_no_feed xs) f).0 ∙ ap not (eq-eqb x 10 head))
  where
    apart : true ≡ false → ⊥
    apart g = cc
beyond (x ∷ xs) more (y ∷ ys) m f l e =
    beyond xs more ys m (and_parts (not (nat_eq x 10)) (has_no_feed xs) f).1 (omega arith) (cc)

numbered_short : (n : ℕ) → n ≤ 4_294_967_295 → length (decimal n) ≤ 10
numbered_short n h = length-decimal-le 10 n (omega arith) (omega arith) (omega arith)

words_short : (node : ProofNode) → has_above 4_294_967_295 node ≡ false → length (words node) ≤ 12
words_short (Y n) h = let s = numbered_short n (ltb-false 4_294_967_295 n h) in omega arith
words_short (N n) h = let s = numbered_short n (ltb-false 4_294_967_295 n h) in omega arith
words_short T h = omega arith
words_short (C n) h = let s = numbered_short n (ltb-false 4_294_967_295 n h) in omega arith
words_short R h = omega arith
words_short V h = omega arith
words_short A h = omega arith
words_short (B n) h = let s = numbered_short n (ltb-false 4_294_967_295 n h) in omega arith
words_short (O n) h = let s = numbered_short n (ltb-false 4_294_967_295 n h) in omega arith
words_short P h = omega arith
words_short Bang h = omega arith

lines_short : (nodes : List ProofNode) → AreSmall nodes → length (text_of nodes) ≤ 13 * length nodes
lines_short [] s = omega arith
lines_short (node ∷ nodes) s =
    let p = or_parts (has_above 4_294_967_295 node) (list_any (has_above 4_294_967_295) nodes) s in
    let few = words_short node p.0 in
    let more = lines_short nodes p.1 in
    omega (arith, few, more, length-append (line node) (text_of nodes), length-append (words node) (10 ∷ []))

-- a proof that has not ended is short
pub taken_few : (reader : ProofReader) (bytes : List ℕ) → HasTaken reader bytes → length bytes ≤ 1_300_016
taken_few reader bytes h =
    let lines = lines_short reader.nodes.items h.lines.small in
    omega (arith, lines, h.lines.few, h.short, ap length h.lines.bytes_are, length-append (text_of reader.nodes.items) reader.begun.items)

-- so many bytes without a line feed begin no line, however they go on
pub no_line_so_long : (xs more : List ℕ) → has_no_feed xs ≡ true → 12 < length xs → BeginsWithLine (xs ++ more) → ⊥
no_line_so_long xs more f l b =
    let s = words_short b.0 b.2 in
    beyond xs more (words b.0) b.1 f (omega arith) (b.3 ∙ append_assoc (words b.0) (10 ∷ []) b.1)

pub no_end_so_long : (xs more : List ℕ) → has_no_feed xs ≡ true → 1 < length xs → BeginsWithEnd (xs ++ more) → ⊥
no_end_so_long xs more f l b = beyond xs more (61 ∷ []) b.0 f l b.1

-- a line that is another
pub no_other_end : (ws more : List ℕ) → has_no_feed ws ≡ true → ws ≢ codes "=" → BeginsWithEnd (ws ++ 10 ∷ more) → ⊥
no_other_end ws more f n b = n (split_once ws (61 ∷ []) more b.0 (no_feed_of ws f) (no_feed_of (61 ∷ []) refl) b.1).0

pub lines_more : (nodes : List ProofNode) (rest bytes more : List ℕ) → AreLines nodes rest bytes → AreLines nodes (rest ++ more) (bytes ++ more)
lines_more nodes rest bytes more a = record {
  small = a.small;
  few = a.few;
  bytes_are = ap (λ bs. bs ++ more) a.bytes_are ∙ append_assoc (text_of nodes) rest more;
}

pub lines_as : (nodes : List ProofNode) (rest other bytes same : List ℕ) → rest ≡ other → bytes ≡ same → AreLines nodes rest bytes → AreLines nodes other same
lines_as nodes rest other bytes same e f a = record { small = a.small; few = a.few; bytes_are = sym f ∙ a.bytes_are ∙ ap (λ bs. text_of nodes ++ bs) e }

-- what stands behind the lines begins none
pub at_fault : (nodes : List ProofNode) (rest bytes : List ℕ) → AreLines nodes rest bytes → rest ≢ [] → (BeginsWithLine rest → ⊥) → (BeginsWithEnd rest → ⊥) →
    IsFaultOf (fault_behind (length nodes)) bytes
at_fault nodes rest bytes a n l e = by_room (nat_lt (length nodes) 100_000) refl
  where
    by_room : (b : Bool) → nat_lt (length nodes) 100_000 ≡ b → IsFaultOf (if b then NotAProof (length nodes + 1) else TooMany) bytes
    by_room true t = (nodes, rest, a, refl, inl (ltb-true (length nodes) 100_000 t, l, e))
    by_room false t = (nodes, rest, a, all (length nodes) a.few (ltb-false (length nodes) 100_000 t), n, e)
      where
        all : (k : ℕ) → k ≤ 100_000 → 100_000 ≤ k → k ≡ 100_000
        all k h g = omega arith

not_nil : (xs more : List ℕ) → 0 < length xs → xs ++ more ≢ []
not_nil xs more l e = omega (arith, ap length e, length-append xs more)

-- more bytes have come than a line has
pub too_long : (reader : ProofReader) (part : List ℕ) → has_no_feed part ≡ true → 16 - length reader.begun.items < length part → FailsBy reader part (fault_behind (length reader.nodes.items))
too_long reader part f l = λ bytes more h.
    let begun = reader.begun.items in
    let all : 16 < length (begun ++ part) = omega (arith, l, h.short, length-append begun part) in
    let none = no_feed_both begun part h.no_feed f in
    at_fault reader.nodes.items ((begun ++ part) ++ more) ((bytes ++ part) ++ more)
    (lines_more reader.nodes.items (begun ++ part) (bytes ++ part) more (lines_more reader.nodes.items begun bytes part h.lines))
    (not_nil (begun ++ part) more (omega arith)) (no_line_so_long (begun ++ part) more none (omega arith)) (no_end_so_long (begun ++ part) more none (omega arith))

-- the line goes on
pub goes_on : (reader new : ProofReader) (part bytes : List ℕ) → has_no_feed part ≡ true → length part ≤ 16 - length reader.begun.items →
    new.nodes.items ≡ reader.nodes.items → new.begun.items ≡ reader.begun.items ++ part → HasTaken reader bytes → HasTaken new (bytes ++ part)
goes_on reader new part bytes f l same e h =
    let begun = reader.begun.items in record {
      lines = (let P : List ProofNode → Type 0 = λ nodes. AreLines nodes new.begun.items (bytes ++ part) in
          subst P (sym same) (lines_as reader.nodes.items (begun ++ part) new.begun.items (bytes ++ part) (bytes ++ part) (sym e) refl (lines_more reader.nodes.items begun bytes part h.lines)));
      no_feed = ap has_no_feed e ∙ no_feed_both begun part h.no_feed f;
      short = omega (arith, l, h.short, ap length e, length-append begun part);
    }

-- the line that has ended stands behind 100,000 others
pub one_beyond : (reader : ProofReader) → reader.begun.items ≢ codes "=" → 100_000 ≤ length reader.nodes.items → FailsBy reader (10 ∷ []) TooMany
one_beyond reader n l = λ bytes more h.
    let begun = reader.begun.items in
    let lines = lines_more reader.nodes.items (begun ++ 10 ∷ []) (bytes ++ 10 ∷ []) more (lines_more reader.nodes.items begun bytes (10 ∷ []) h.lines) in
    let few = h.lines.few in (
      reader.nodes.items,
      (begun ++ 10 ∷ []) ++ more,
      lines,
      omega arith,
      not_nil (begun ++ 10 ∷ []) more (omega (arith, length-append begun (10 ∷ []))),
      (let P : List ℕ → Type 0 = λ bs. BeginsWithEnd bs → ⊥ in subst P (sym (append_assoc begun (10 ∷ []) more)) (no_other_end begun more h.no_feed n)),
    )

-- the line that has ended is none of a proof
pub no_node : (reader : ProofReader) → reader.begun.items ≢ codes "=" → node_of reader.begun.items ≡ None → FailsBy reader (10 ∷ []) (fault_behind (length reader.nodes.items))
no_node reader n e = λ bytes more h.
    let begun = reader.begun.items in
    let P : List ℕ → Type 0 = λ bs. BeginsWithEnd bs → ⊥ in
    at_fault reader.nodes.items ((begun ++ 10 ∷ []) ++ more) ((bytes ++ 10 ∷ []) ++ more)
    (lines_more reader.nodes.items (begun ++ 10 ∷ []) (bytes ++ 10 ∷ []) more (lines_more reader.nodes.items begun bytes (10 ∷ []) h.lines))
    (not_nil (begun ++ 10 ∷ []) more (omega (arith, length-append begun (10 ∷ []))))
    (no_words ((begun ++ 10 ∷ []) ++ more) begun more (append_assoc begun (10 ∷ []) more) (no_feed_of begun h.no_feed) e)
    (subst P (sym (append_assoc begun (10 ∷ []) more)) (no_other_end begun more h.no_feed n))

-- a line more is taken
pub one_more : (reader new : ProofReader) (node : ProofNode) (bytes : List ℕ) → node_of reader.begun.items ≡ Some node → length reader.nodes.items < 100_000 →
    new.nodes.items ≡ reader.nodes.items ++ node ∷ [] → new.begun.items ≡ [] → HasTaken reader bytes → HasTaken new (bytes ++ 10 ∷ [])
one_more reader new node bytes e room nodes_are none h =
    let begun = reader.begun.items in
    let old = reader.nodes.items in
    let w = words_node begun node e in
    let P : List ProofNode → Type 0 = λ nodes. AreLines nodes [] (bytes ++ 10 ∷ []) in
    let Q : List ℕ → Type 0 = λ rest. AreLines new.nodes.items rest (bytes ++ 10 ∷ []) in
    record {
      lines = subst Q (sym none) (subst P (sym nodes_are) (record {
        small = still_small old node h.lines.small w.1;
        few = omega (arith, room, length-append old (node ∷ []));
        bytes_are = ap (λ bs. bs ++ 10 ∷ []) h.lines.bytes_are ∙ append_assoc (text_of old) begun (10 ∷ [])
            ∙ ap (λ ws. text_of old ++ (ws ++ 10 ∷ [])) w.0 ∙ ap (λ bs. text_of old ++ bs) (sym (append-nil (line node)))
            ∙ sym (flat_map-append line old (node ∷ [])) ∙ sym (append-nil (text_of (old ++ node ∷ [])));
      }));
      no_feed = ap has_no_feed none;
      short = omega (arith, ap length none);
    }

-- a part of a line, and then its line feed
pub then_feed : (reader between : ProofReader) (part rest : List ℕ) (fault : ProofFault) → TakesOn reader between part → FailsBy between rest fault → FailsBy reader (part ++ rest) fault
then_feed reader between part rest fault on by = λ bytes more h.
    let P : List ℕ → Type 0 = λ bs. IsFaultOf fault (bs ++ more) in
    subst P (append_assoc bytes part rest) (by (bytes ++ part) more (on bytes h))

-- a fault of the front is one of all
pub fault_further : (reader : ProofReader) (part rest : List ℕ) (fault : ProofFault) → FailsBy reader part fault → FailsBy reader (part ++ rest) fault
fault_further reader part rest fault by = λ bytes more h.
    let P : List ℕ → Type 0 = λ bs. IsFaultOf fault bs in
    subst P (sym (append_assoc (bytes ++ part) rest more) ∙ ap (λ bs. bs ++ more) (append_assoc bytes part rest)) (by bytes (rest ++ more) h)

pub then_on : (reader between new : ProofReader) (part rest : List ℕ) → TakesOn reader between part → TakesOn between new rest → TakesOn reader new (part ++ rest)
then_on reader between new part rest on by = λ bytes h.
    let P : List ℕ → Type 0 = λ bs. HasTaken new bs in subst P (append_assoc bytes part rest) (by (bytes ++ part) (on bytes h))

-- the line that has ended is `=`
pub ends_there : (reader between : ProofReader) (part behind : List ℕ) → between.begun.items ≡ codes "=" → TakesOn reader between part →
    EndsProof reader between (part ++ 10 ∷ behind) behind
ends_there reader between part behind e on = λ bytes h.
    let taken = on bytes h in record {
      lines = lines_as between.nodes.items (between.begun.items ++ 10 ∷ behind) (end_line ++ behind) ((bytes ++ part) ++ 10 ∷ behind) (bytes ++ (part ++ 10 ∷ behind))
          (ap (λ bs. bs ++ 10 ∷ behind) e) (append_assoc bytes part (10 ∷ behind)) (lines_more between.nodes.items between.begun.items (bytes ++ part) (10 ∷ behind) taken.lines);
    }

-- The piece is taken up to its rest.
pub record TakesTo (old reader : ProofReader) (piece rest : List ℕ) : Type 0 where
  pub done : List ℕ
  pub piece_is : piece ≡ done ++ rest
  pub takes : TakesOn old reader done

pub takes_none : (reader : ProofReader) (piece : List ℕ) → TakesTo reader reader piece piece
takes_none reader piece = record {
  done = [];
  piece_is = refl;
  takes = λ bytes h. (let P : List ℕ → Type 0 = λ bs. HasTaken reader bs in subst P (sym (append-nil bytes)) h);
}

pub takes_more : (old middle reader : ProofReader) (piece rest part left : List ℕ) → TakesTo old middle piece rest → rest ≡ part ++ left → TakesOn middle reader part →
    TakesTo old reader piece left
takes_more old middle reader piece rest part left t e on = record {
  done = t.done ++ part;
  piece_is = t.piece_is ∙ ap (λ bs. t.done ++ bs) e ∙ sym (append_assoc t.done part left);
  takes = then_on old middle reader t.done part t.takes on;
}

-- the rest is taken too
pub takes_all : (old middle reader : ProofReader) (piece rest : List ℕ) → TakesTo old middle piece rest → TakesOn middle reader rest → TakesOn old reader piece
takes_all old middle reader piece rest t on =
    let P : List ℕ → Type 0 = λ bs. TakesOn old reader bs in subst P (sym t.piece_is) (then_on old middle reader t.done rest t.takes on)

-- the next part of the piece shows a fault
pub takes_fault : (old middle : ProofReader) (piece rest part left : List ℕ) (fault : ProofFault) → TakesTo old middle piece rest → rest ≡ part ++ left → FailsBy middle part fault →
    FailsBy old piece fault
takes_fault old middle piece rest part left fault t e by =
    let P : List ℕ → Type 0 = λ bs. FailsBy old bs fault in
    subst P (sym (t.piece_is ∙ ap (λ bs. t.done ++ bs) e)) (then_feed old middle t.done (part ++ left) fault t.takes (fault_further middle part left fault by))

-- the proof ends in the piece
pub takes_end : (old middle reader : ProofReader) (piece rest part behind : List ℕ) → TakesTo old middle piece rest → rest ≡ part ++ 10 ∷ behind → EndsProof middle reader (part ++ 10 ∷ behind) behind →
    EndsProof old reader piece behind
takes_end old middle reader piece rest part behind t e on = λ bytes h.
    let P : List ℕ → Type 0 = λ bs. HasProof reader behind bs in
    subst P (append_assoc bytes t.done (part ++ 10 ∷ behind) ∙ ap (λ bs. bytes ++ bs) (sym (t.piece_is ∙ ap (λ bs. t.done ++ bs) e))) (on (bytes ++ t.done) (t.takes bytes h))

-- a piece up to its first line feed, and what is behind it
pub cut_line : (rest : List ℕ) (at : ℕ) → at < length rest → nat_eq (get_or rest at 0) 10 ≡ true → rest ≡ take at rest ++ 10 ∷ take (length rest - (at + 1)) (drop (at + 1) rest)
cut_line rest at l h = line_cut rest at l h ∙ ap (λ (ds : List ℕ). take at rest ++ 10 ∷ ds) (sym (behind_line rest at l))

pub cut_part : (rest : List ℕ) (at : ℕ) → at < length rest → nat_eq (get_or rest at 0) 10 ≡ true → rest ≡ (take at rest ++ 10 ∷ []) ++ take (length rest - (at + 1)) (drop (at + 1) rest)
cut_part rest at l h = cut_line rest at l h ∙ sym (append_assoc (take at rest) (10 ∷ []) (take (length rest - (at + 1)) (drop (at + 1) rest)))

pub part_has_none : (text : List ℕ) (at : ℕ) → at ≤ length text → ((k : ℕ) → 0 ≤ k → k < at → nat_eq (get_or text k 0) 10 ≡ true → ⊥) → has_no_feed (take at text) ≡ true
part_has_none text at l h = sym (no_feed_is (take at text)) ∙ front_before text at l h

pub all_has_none : (text : List ℕ) → ((k : ℕ) → 0 ≤ k → k < length text → nat_eq (get_or text k 0) 10 ≡ true → ⊥) → has_no_feed text ≡ true
all_has_none text h = sym (no_feed_is text) ∙ front_no_feed text (λ i l e. h i (omega arith) l (eq-eqb (get_or text i 0) 10 e))

-- bytes that are compared with `=`
pub is_equals : (ws : List ℕ) → pointwise nat_eq ws (61 ∷ []) ≡ true → ws ≡ 61 ∷ []
is_equals [] h = absurd (cc)
is_equals (w ∷ []) h = ap (λ (b : ℕ). b ∷ []) (eqb-true w 61 (and_parts (nat_eq w 61) true h).0)
is_equals (w ∷ v ∷ ws) h = absurd (none (and_parts (nat_eq w 61) false h).1)
  where
    none : false ≡ true → ⊥
    none e = cc
