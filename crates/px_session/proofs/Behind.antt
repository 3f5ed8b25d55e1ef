-- A fault behind lines that were read: what the lines before it bring begins with what those brought.
use Rattle.std.proofs.Common.{◌≡◌, ℕ, ◌+◌, ◌-◌, ◌<◌, ◌≤◌, ◌⊎◌, inl, inr, List, [], ◌∷◌, ◌++◌, length, take, refl, ap, sym, ◌∙◌, subst, Some, append_assoc, arith}
use Rattle.std.proofs.Math.Seq.{take-append-add}
use Rattle.px_reader.specs.declared.event.Event.{Event}
use Rattle.px_reader.specs.declared.fault.DocFault.{DocFault}
use Rattle.px_reader.specs.declared.fault.DocKind.{DocKind}
use Rattle.px_reader.specs.declared.fault.DocKind.TheVariants.{NotHere, NotUtf8, LineLong, TooDeep, TooManyAttributes, TooBig, Truncated}
use Rattle.px_reader.specs.Lines.{Line, lines_of}
use Rattle.px_reader.specs.Spelling.{kinds}
use Rattle.px_reader.specs.Machine.{State, Before, runs}
use Rattle.px_reader.specs.Judged.{Judged}
use Rattle.px_reader.specs.Verdicts.{Shows, IsFaulty, Judges, HasVerdict}
use Rattle.px_reader.specs.Progress.{Progress}
use Rattle.px_reader.specs.Reading.{HasRead}
use Rattle.px_reader.specs.Bringing.{Bring, lines_before}
use Rattle.px_reader.proofs.Begins.{kinds-append}
use Rattle.px_reader.proofs.LineCuts.{lines_whole}
use Rattle.px_reader.proofs.Judged.{fine_behind}
use Rattle.px_reader.proofs.Runs.{step_same, goes}
use Rattle.px_reader.proofs.Verdicts.{Faulty, Ends, split}
use Rattle.px_session.specs.Taking.{FaultBehind}

-- what lines and more lines bring begins with what the first bring
split_runs : (lines more : List Line) (state middle last : State) (given all : List Event) → runs state lines ≡ Some (middle, given) → runs state (lines ++ more) ≡ Some (last, all)
    → (brought : List Event) × (all ≡ given ++ brought)
split_runs [] more state middle last given all e f = (all, ap (λ es. es ++ all) (step_same (state, []) (middle, given) e).1)
split_runs (line ∷ lines) more state middle last given all e f =
    let g = goes line lines state middle given e in
    let h = goes line (lines ++ more) state last all f in
    let same = step_same h.found g.found (sym h.steps ∙ g.steps) in
    let ih = split_runs lines more g.found.0 middle last g.more h.more g.behind (subst (λ (s : State). runs s (lines ++ more) ≡ Some (last, h.more)) same.0 h.behind) in
    (ih.0, sym h.given_are ∙ ap (λ (es : List Event). es ++ h.more) same.1 ∙ ap (λ (es : List Event). g.found.1 ++ es) ih.1 ∙ sym (append_assoc g.found.1 g.more ih.0) ∙ ap (λ (es : List Event). es ++ ih.0) g.given_are)

-- the lines before a fault other than Truncated
firsts : (kind : DocKind) (line : ℕ) (lines : List (List ℕ)) → (kind ≡ Truncated → ⊥) → lines_before kind line lines ≡ take (line - 1) lines
firsts NotHere line lines n = refl
firsts NotUtf8 line lines n = refl
firsts LineLong line lines n = refl
firsts TooDeep line lines n = refl
firsts TooManyAttributes line lines n = refl
firsts TooBig line lines n = refl
firsts Truncated line lines n = absurd (n refl)

begins : (old rest : List (List ℕ)) (state : State) (given : List Event) → Judged old state given → (line : ℕ) (kind : DocKind) → Judges (old ++ rest) (IsFaulty line kind)
    → (brought : List Event) → Bring (lines_before kind line (old ++ rest)) brought → (more : List Event) × (brought ≡ given ++ more)
begins old rest state given j line kind v brought b = on (split (old ++ rest) line kind v)
  where
    from : (tail ls : List (List ℕ)) → ls ≡ old ++ tail → Bring ls brought → (more : List Event) × (brought ≡ given ++ more)
    from tail ls e (last, judged) =
        split_runs (kinds old) (kinds tail) Before state last given brought j.led
        (subst (λ (ks : List Line). runs Before ks ≡ Some (last, brought)) (ap kinds e ∙ kinds-append old tail) judged.led)

    cut : (k : ℕ) → length old ≤ k → take k (old ++ rest) ≡ old ++ take (k - length old) rest
    cut k l = ap (λ (n : ℕ). take n (old ++ rest)) (place k (length old) l) ∙ take-append-add old rest (k - length old)
      where
        place : (k n : ℕ) → n ≤ k → k ≡ n + (k - n)
        place k n l = omega arith

    within : (k n : ℕ) → (k < n → ⊥) → n ≤ k
    within k n f = grind arith

    on : Faulty (old ++ rest) line kind ⊎ ((kind ≡ Truncated) × Ends (old ++ rest) line) → (more : List Event) × (brought ≡ given ++ more)
    on (inl f) =
        let late : length old ≤ f.k = within f.k (length old) (λ l. fine_behind old rest f.k l (j.fine f.k l) kind f.shows) in
        let at : line - 1 ≡ f.k = ap (λ (n : ℕ). n - 1) f.at ∙ one f.k in
        from (take (f.k - length old) rest) (lines_before kind line (old ++ rest))
        (firsts kind line (old ++ rest) (λ e. subst (Shows (old ++ rest) f.k) e f.shows) ∙ ap (λ (n : ℕ). take n (old ++ rest)) at ∙ cut f.k late) b
      where
        one : (n : ℕ) → n + 1 - 1 ≡ n
        one n = omega arith
    on (inr e) = from rest (lines_before kind line (old ++ rest)) (ap (λ (k : DocKind). lines_before k line (old ++ rest)) e.0) b

-- a fault of the bytes and of what comes behind them stands behind what they brought
pub fault_behind : (reader : Progress) (bytes more : List ℕ) (given : List Event) (fault : DocFault) → HasRead reader bytes given → HasVerdict (bytes ++ more) (IsFaulty fault.line fault.kind)
    → FaultBehind (bytes ++ more) given fault
fault_behind reader bytes more given fault h v =
    let r = h.reading in
    let lines : lines_of (bytes ++ more) ≡ lines_of r.ended ++ lines_of (r.begun ++ more) =
    ap (λ (bs : List ℕ). lines_of (bs ++ more)) r.bytes_are ∙ ap lines_of (append_assoc r.ended r.begun more) ∙ lines_whole r.ended (r.begun ++ more) r.whole in
    record {
      verdict = v;
      begins = λ brought b. begins (lines_of r.ended) (lines_of (r.begun ++ more)) reader.state given r.judged fault.line fault.kind
          (subst (λ (ls : List (List ℕ)). Judges ls (IsFaulty fault.line fault.kind)) lines v) brought
          (subst (λ (ls : List (List ℕ)). Bring (lines_before fault.kind fault.line ls) brought) lines b);
    }
