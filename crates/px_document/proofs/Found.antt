-- What is found of a filter, a proof and a document.
use Rattle.std.proofs.Common.{◌≡◌, ◌⊎◌, ℕ, Bool, true, false, List, ◌++◌, Result, Ok, Err, IfOk, IsTrue, Option, Some, None, option_map, refl, ap, sym, ◌∙◌, subst, inl, inr, arith}
use Rattle.px_text.specs.Nodes.{Root}
use Rattle.px_io.specs.Flows.{TakesFrom, IsSpent}
use Rattle.px_reader.specs.declared.fault.DocFault.{DocFault}
use Rattle.px_reader.specs.declared.fault.DocKind.{DocKind}
use Rattle.px_reader.specs.declared.fault.DocKind.TheVariants.{NotHere, NotUtf8, LineLong, TooDeep, TooManyAttributes, TooBig, Truncated}
use Rattle.px_reader.specs.Verdicts.{HasVerdict, IsFaulty, IsTree}
use Rattle.px_xpath.specs.declared.fault.ParseFault.{ParseFault}
use Rattle.px_xpath.specs.declared.fault.ParseFault.TheVariants as parsing
use Rattle.px_xpath.specs.Faults.{IsText}
use Rattle.px_xpath.specs.Filters.{Way}
use Rattle.px_xpath.specs.Meaning.{holds}
use Rattle.px_xpath.specs.Parses.{IsRefused}
use Rattle.px_feed.specs.declared.line.FeedKind.TheVariants.{Doc}
use Rattle.px_feed.specs.declared.line.OutLine.TheVariants.{NoFilter}
use Rattle.px_feed.specs.Matches.{faulty}
use Rattle.px_explain.specs.Bounds.{Exceeds}
use Rattle.px_explain.specs.Canonical.{canonical}
use Rattle.px_explain.specs.Openings.{Opens, Opening, ProofThen, NoProofAt, TooManyLines}
use Rattle.px_explain.specs.Incoming as incoming
use Rattle.px_explain.specs.declared.checker.Checked.TheVariants as checked
use Rattle.px_explain.specs.declared.node.ProofNode.{ProofNode}
use Rattle.px_explain.specs.declared.reading.ProofFault.{ProofFault}
use Rattle.px_explain.specs.declared.reading.ProofFault.TheVariants as proof
use Rattle.px_document.specs.Documents.{GivesTree, GivesFault}
use Rattle.px_document.specs.Findings.{is_of_filter, is_truncated, needs_all}
use Rattle.px_document.specs.Outputs.{ExplainsDocument, ExplainsTree, IsFound, IsFoundUnder, UnderFilter, VerifiesInput, VerifiesVerdict}
use Rattle.px_document.specs.Proofs.{OpensDocument, Halts, HasBadDocument}
use Rattle.px_document.specs.Stops.{halt_of, no_filter_of, outcome_of, refusal_of}
use Rattle.px_document.specs.declared.finding.Finding.{Finding}
use Rattle.px_document.specs.declared.finding.Finding.TheVariants.{Line, NoProofLine, ProofTooMany, WrongNode, Explained}
use Rattle.px_document.specs.declared.opening.Halt.{Halt}
use Rattle.px_document.specs.declared.opening.Halt.TheVariants as halt
use Rattle.px_document.specs.declared.opening.Opened.{Opened}
use Rattle.px_document.specs.declared.stop.Cut.{Cut}
use Rattle.px_document.specs.declared.stop.Cut.TheVariants as cut
use Rattle.px_document.specs.declared.stop.Stop.{Stop}
use Rattle.px_document.specs.declared.stop.Stop.TheVariants as stop
use Rattle.px_document.proofs.Coming.{was_left}
use Rattle.px_document.proofs.Opened.{opens_more}

not_both : (b : Bool) → b ≡ false → IsTrue b → ⊥
not_both true e t = absurd (cc)
not_both false e t = absurd (cc)

-- what is found under a filter is found for its text
pub parsed_findings : {E : Type 0} (finds : Way → (bytes : List ℕ) → Finding → Type 0) (text : List ℕ) (way : Way) (left after : Option (List ℕ)) (result : Result Finding E) → IsText text way →
    IfOk result (λ finding. IsFoundUnder (finds way) left after finding) → IfOk result (λ finding. IsFound (λ bytes. UnderFilter (λ one. finds one bytes) text) left after finding)
parsed_findings finds text way left after (Ok finding) parsed under = record {
  found = λ bytes told. (Ok way, parsed, under.found bytes told);
  read_whole = under.read_whole;
  unread = λ t. absurd (not_both (is_of_filter finding) under.of_input t);
}
parsed_findings finds text way left after (Err e) parsed under = tt

-- what is found of a filter that was refused
pub refused_finding : (finds : Way → (bytes : List ℕ) → Finding → Type 0) (text : List ℕ) (left : Option (List ℕ)) (fault : ParseFault) (result : Result Finding Cut) → IsRefused text fault →
    result ≡ no_filter_of fault → IfOk result (λ finding. IsFound (λ bytes. UnderFilter (λ one. finds one bytes) text) left left finding)
refused_finding finds text left fault result h e = subst P (sym e) (by_fault fault h)
  where
    P : Result Finding Cut → Type 0
    P one = IfOk one (λ finding. IsFound (λ bytes. UnderFilter (λ way. finds way bytes) text) left left finding)

    by_fault : (one : ParseFault) → IsRefused text one → P (no_filter_of one)
    by_fault (parsing.Filter found) h = record { found = λ bytes told. (Err found, h, refl); read_whole = λ t. absurd (not_both false refl t); unread = λ t. refl }
    by_fault parsing.Memory h = tt

pub refused_by_source : (fault : ParseFault) (result : Result Finding Cut) → result ≡ no_filter_of fault → result ≡ Err cut.Source → ⊥
refused_by_source (parsing.Filter found) result e f = absurd (cc)
refused_by_source parsing.Memory result e f = absurd (cc)

-- only one kind of fault needs the whole input
truncated_only : (kind : DocKind) → IsTrue (is_truncated (Doc kind)) → kind ≡ Truncated
truncated_only Truncated t = refl
truncated_only NotHere t = absurd (cc)
truncated_only NotUtf8 t = absurd (cc)
truncated_only LineLong t = absurd (cc)
truncated_only TooDeep t = absurd (cc)
truncated_only TooManyAttributes t = absurd (cc)
truncated_only TooBig t = absurd (cc)

-- the reading of the document was stopped
pub stopped_finding : (way : Way) (left after : Option (List ℕ)) (by : Stop) (result : Result Finding Cut) → result ≡ outcome_of by →
    ((fault : DocFault) → by ≡ stop.Doc fault → GivesFault left after fault) → IfOk result (λ finding. IsFoundUnder (ExplainsDocument way) left after finding)
stopped_finding way left after by result e gives = subst P (sym e) (by_stop by gives)
  where
    P : Result Finding Cut → Type 0
    P one = IfOk one (λ finding. IsFoundUnder (ExplainsDocument way) left after finding)

    by_stop : (one : Stop) → ((fault : DocFault) → one ≡ stop.Doc fault → GivesFault left after fault) → P (outcome_of one)
    by_stop (stop.Doc fault) gives =
        let g = gives fault refl in record {
          found = λ bytes told. (IsFaulty fault.line fault.kind, g.verdict bytes told, refl);
          read_whole = λ t. g.spent (truncated_only fault.kind t);
          of_input = refl;
        }
    by_stop stop.Source gives = tt
    by_stop stop.Memory gives = tt

pub stopped_by_source : (by : Stop) (result : Result Finding Cut) → result ≡ outcome_of by → result ≡ Err cut.Source → by ≡ stop.Source
stopped_by_source (stop.Doc fault) result e f = absurd (cc)
stopped_by_source stop.Source result e f = refl
stopped_by_source stop.Memory result e f = absurd (cc)

-- the tree was explained
of_tree : (way : Way) (root : Root) (finding : Finding) → ExplainsTree way root finding → is_of_filter finding ≡ false
of_tree way root finding (inl much) = ap is_of_filter much.1
of_tree way root finding (inr proof) = ap is_of_filter proof.1

pub explained_finding : {E : Type 0} (way : Way) (left after : Option (List ℕ)) (root : Root) (result : Result Finding E) → GivesTree left after root →
    IfOk result (λ finding. ExplainsTree way root finding) → IfOk result (λ finding. IsFoundUnder (ExplainsDocument way) left after finding)
explained_finding way left after root (Ok finding) g x = record {
  found = λ bytes told. (IsTree root, g.verdict bytes told, x);
  read_whole = λ t. g.spent;
  of_input = of_tree way root finding x;
}
explained_finding way left after root (Err e) g x = tt

-- what was left is a proof and a document, of which the rest is known
behind : (left now : Option (List ℕ)) (bytes begun all : List ℕ) (nodes : List ProofNode) → TakesFrom left bytes now → Opens bytes (ProofThen nodes begun) → left ≡ Some all →
    (document : List ℕ) × Opens all (ProofThen nodes document) × (option_map (λ rest. begun ++ rest) now ≡ Some document)
behind left now bytes begun all nodes taken opens told =
    let found = was_left all bytes left now taken told in
    let P : List ℕ → Type 0 = λ one. Opens one (ProofThen nodes (begun ++ found.0)) in
    (begun ++ found.0, subst P (sym found.1) (opens_more bytes found.0 begun nodes opens), ap (option_map (λ rest. begun ++ rest)) found.2)

of_verdict : (way : Way) (nodes : List ProofNode) (root : Root) (finding : Finding) → VerifiesVerdict way nodes (IsTree root) finding → is_of_filter finding ≡ false
of_verdict way nodes root finding (checked.Yes, s, e) = ap is_of_filter e
of_verdict way nodes root finding (checked.No, s, e) = ap is_of_filter e
of_verdict way nodes root finding (checked.Wrong at, s, e) = ap is_of_filter e

-- the proof was checked
pub verified_finding : (way : Way) (left now after : Option (List ℕ)) (opened : Opened) (root : Root) (finding : Finding) → (o : OpensDocument left now opened) →
    GivesTree (option_map (λ rest. o.begun ++ rest) now) after root → VerifiesVerdict way opened.proof (IsTree root) finding → IsFoundUnder (VerifiesInput way) left after finding
verified_finding way left now after opened root finding o g v = record {
  found = λ all told.
      let parts = behind left now o.bytes o.begun all opened.proof o.taken o.opens told in
      (ProofThen opened.proof parts.0, parts.1, (IsTree root, g.verdict parts.0 parts.2, v));
  read_whole = λ t. g.spent;
  of_input = of_verdict way opened.proof root finding v;
}

-- the reading of the document behind a proof was stopped
pub verified_stopped : (way : Way) (left now after : Option (List ℕ)) (opened : Opened) (by : Stop) (result : Result Finding Cut) → (o : OpensDocument left now opened) → result ≡ outcome_of by →
    ((fault : DocFault) → by ≡ stop.Doc fault → GivesFault (option_map (λ rest. o.begun ++ rest) now) after fault) →
    IfOk result (λ finding. IsFoundUnder (VerifiesInput way) left after finding)
verified_stopped way left now after opened by result o e gives = subst P (sym e) (by_stop by gives)
  where
    P : Result Finding Cut → Type 0
    P one = IfOk one (λ finding. IsFoundUnder (VerifiesInput way) left after finding)

    by_stop : (one : Stop) → ((fault : DocFault) → one ≡ stop.Doc fault → GivesFault (option_map (λ rest. o.begun ++ rest) now) after fault) → P (outcome_of one)
    by_stop (stop.Doc fault) gives =
        let g = gives fault refl in record {
          found = λ all told.
              let parts = behind left now o.bytes o.begun all opened.proof o.taken o.opens told in
              (ProofThen opened.proof parts.0, parts.1, (IsFaulty fault.line fault.kind, g.verdict parts.0 parts.2, refl));
          read_whole = λ t. g.spent (truncated_only fault.kind t);
          of_input = refl;
        }
    by_stop stop.Source gives = tt
    by_stop stop.Memory gives = tt

-- the reading of a proof and a document was stopped
pub halted_finding : (way : Way) (left after : Option (List ℕ)) (by : Halt) (result : Result Finding Cut) → Halts by left → result ≡ halt_of by →
    IfOk result (λ finding. IsFoundUnder (VerifiesInput way) left after finding)
halted_finding way left after by result h e = subst P (sym e) (by_halt by h)
  where
    P : Result Finding Cut → Type 0
    P one = IfOk one (λ finding. IsFoundUnder (VerifiesInput way) left after finding)

    by_halt : (one : Halt) → Halts one left → P (halt_of one)
    by_halt (halt.Proof (proof.NotAProof at)) h = record { found = λ bytes told. (NoProofAt at, h bytes told, refl); read_whole = λ t. absurd (not_both false refl t); of_input = refl }
    by_halt (halt.Proof proof.TooMany) h = record { found = λ bytes told. (TooManyLines, h bytes told, refl); read_whole = λ t. absurd (not_both false refl t); of_input = refl }
    by_halt (halt.Proof proof.Memory) h = tt
    by_halt (halt.Document (stop.Doc fault)) h = record {
      found = λ bytes told. let v = h.verdict bytes told in (ProofThen v.0 v.1, v.2, (IsFaulty fault.line fault.kind, v.3, refl));
      read_whole = λ t. absurd (h.early (truncated_only fault.kind t));
      of_input = refl;
    }
    by_halt (halt.Document stop.Source) h = tt
    by_halt (halt.Document stop.Memory) h = tt

-- a run is cut short by its source only where the source stopped the reading
pub halted_by_source : (by : Halt) (result : Result Finding Cut) → result ≡ halt_of by → result ≡ Err cut.Source → by ≡ halt.Document stop.Source
halted_by_source (halt.Proof (proof.NotAProof at)) result e f = absurd (cc)
halted_by_source (halt.Proof proof.TooMany) result e f = absurd (cc)
halted_by_source (halt.Proof proof.Memory) result e f = absurd (cc)
halted_by_source (halt.Document (stop.Doc fault)) result e f = absurd (cc)
halted_by_source (halt.Document stop.Source) result e f = refl
halted_by_source (halt.Document stop.Memory) result e f = absurd (cc)
