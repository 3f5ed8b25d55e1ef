-- What the calls of one pass count, one behind the other.
use Rattle.std.proofs.Common.{◌≡◌, ◌≢◌, ℕ, ◌+◌, ◌<◌, ◌≤◌, eqb, List, [], ◌∷◌, length, sym, ap, ◌∙◌, subst, arith, ne_eqb}
use Rattle.std.specs.Prelude.{slice_get, Option, Some, None}
use mathlib.Core.Logic.{dite}
use native.Mathlib.Decide.{ℕ_discrete}
use Rattle.px_text.specs.Nodes.{Root}
use Rattle.px_reader.specs.declared.doc.Doc.{Doc}
use Rattle.px_rule.specs.declared.shape.Shape.{Shape}
use Rattle.px_rule.specs.declared.view.Past.{Past}
use Rattle.px_rule.specs.declared.view.Touch.{Touch}
use Rattle.px_rule.specs.Banks.{one_if}
use Rattle.px_rule.specs.Words.{version_of}
use Rattle.px_workload.specs.declared.change.Change.{Change}
use Rattle.px_workload.specs.Changes.{history}
use Rattle.px_xpath.specs.Histories.{matches}
use Rattle.px_afa.specs.Steps.{steps_of}
use Rattle.px_crew.specs.Drawn.{times}
use Rattle.px_hub.specs.declared.reply.Reply.{Reply}
use Rattle.px_hub.specs.declared.reply.Why.{Why}
use Rattle.px_hub.specs.declared.reply.Why.TheVariants.{Unsettled, NoBank, Gone, Full, Settled}
use Rattle.px_hub.specs.Passes.{PassView}
use Rattle.px_hub.specs.Replying.{SamePass, MadeBy, reached}
use Rattle.px_pool.specs.Batches.{AnswersAll}
use Rattle.px_pool.specs.Counting.{HasCause, IsReplyOf, entered}
use Rattle.px_pool.proofs.Staying.{same_on}

-- ---- one call

module _ (z : Shape) (v w : PassView) (root : Root) where
  -- what a call counts rises with it
  abbrev CallCounts : (found computed : ℕ) → Why → Type 0
  CallCounts found computed why = (v.view.touch.touches + (found + computed) ≤ w.view.touch.touches) × (w.view.stay.enters ≡ v.view.stay.enters + entered why)

  idle : (found computed : ℕ) → w.view.touch ≡ v.view.touch → found ≡ 0 → computed ≡ 0 → v.view.touch.touches + (found + computed) ≤ w.view.touch.touches
  idle found computed same f c = let e : w.view.touch.touches ≡ v.view.touch.touches = ap (λ (t : Touch). t.touches) same in omega arith

  one_call : (found computed own : ℕ) (why : Why) → MadeBy z v w root found computed own why → CallCounts found computed why
  one_call found computed own (Unsettled have) m = (idle found computed m.1 m.2 m.3, let e = m.0.2.0 in omega arith)
  one_call found computed own (NoBank words) m = (idle found computed m.1 m.2 m.3, let e = m.0.2.0 in omega arith)
  one_call found computed own (Gone word) m = (idle found computed m.1 m.2 m.3, m.0.2.0)
  one_call found computed own (Full word) m = ((let t = m.0.counts.counted.touched in omega arith), m.0.entered.0)
  one_call found computed own Settled m = ((let t = m.0.counts.counted.touched in omega arith), m.0.entered.0)

  one_cause : (found computed own : ℕ) (why : Why) → MadeBy z v w root found computed own why → HasCause v why
  one_cause found computed own (Unsettled have) m = (m.0.0, m.0.1)
  one_cause found computed own (NoBank words) m = (m.0.0, m.0.1)
  one_cause found computed own (Gone word) m = (m.0.0, m.0.1, m.0.3)
  one_cause found computed own (Full word) m = (m.0.have, (m.0.bank, m.0.home))
  one_cause found computed own Settled m = (m.0.have, (m.0.bank, m.0.home))

-- ---- a pass that was v before
same_reached : (v u : PassView) → SamePass v u → reached u ≡ reached v
same_reached v u s = ap (λ (p : Past Change). length p.seen) s.past

same_cause : (v u : PassView) → SamePass v u → (why : Why) → HasCause u why → HasCause v why
same_cause v u s (Unsettled have) c = (c.0 ∙ s.have, λ e. c.1 (s.have ∙ e ∙ sym (same_reached v u s)))
same_cause v u s (NoBank words) c = (sym s.have ∙ c.0 ∙ same_reached v u s, sym s.home ∙ c.1)
same_cause v u s (Gone word) c = (sym s.have ∙ c.0 ∙ same_reached v u s, (c.1.0, sym s.home ∙ c.1.1), subst (λ (n : ℕ). n < version_of word) s.have c.2)
same_cause v u s (Full word) c = (sym s.have ∙ c.0 ∙ same_reached v u s, (c.1.0, sym s.home ∙ c.1.1))
same_cause v u s Settled c = (sym s.have ∙ c.0 ∙ same_reached v u s, (c.1.0, sym s.home ∙ c.1.1))

-- ---- the calls of one pass
abbrev value : (Reply → ℕ) → Option Reply → ℕ
value f None = 0
value f (Some reply) = f reply

-- what f counts of the replies at these numbers
abbrev pub counted : (Reply → ℕ) → List Reply → List ℕ → ℕ
counted f replies [] = 0
counted f replies (n ∷ ns) = value f (slice_get replies n) + counted f replies ns

value_at : (f : Reply → ℕ) (replies : List Reply) (n : ℕ) (reply : Reply) → slice_get replies n ≡ Some reply → value f (slice_get replies n) ≡ f reply
value_at f replies n reply at = ap (value f) at

abbrev pub in_bank : Reply → ℕ
in_bank r = r.found + r.computed

abbrev pub enters_by : Reply → ℕ
enters_by r = entered r.why

module _ (z : Shape) (docs : List Doc) (replies : List Reply) where
  pub touches_rise : (v : PassView) (ns : List ℕ) (w : PassView) → AnswersAll z docs replies v ns w → v.view.touch.touches + counted in_bank replies ns ≤ w.view.touch.touches
  touches_rise v [] w is = let e : w.view.touch.touches ≡ v.view.touch.touches = ap (λ (p : PassView). p.view.touch.touches) is in omega arith
  touches_rise v (n ∷ ns) w c =
      let r = c.3.filters.2 in
      let one = (one_call z v c.0 c.3.filters.0 c.1.found c.1.computed c.1.own c.1.why r.made_by).0 in
      let rest = touches_rise c.0 ns w c.4 in
      let e = value_at in_bank replies n c.1 c.2 in omega arith

  pub enters_rise : (v : PassView) (ns : List ℕ) (w : PassView) → AnswersAll z docs replies v ns w → w.view.stay.enters ≡ v.view.stay.enters + counted enters_by replies ns
  enters_rise v [] w is = let e : w.view.stay.enters ≡ v.view.stay.enters = ap (λ (p : PassView). p.view.stay.enters) is in omega arith
  enters_rise v (n ∷ ns) w c =
      let r = c.3.filters.2 in
      let one = (one_call z v c.0 c.3.filters.0 c.1.found c.1.computed c.1.own c.1.why r.made_by).1 in
      let rest = enters_rise c.0 ns w c.4 in
      let e = value_at enters_by replies n c.1 c.2 in omega arith

  -- the reply at one of the numbers is that to its document, by the pass as it was before
  pub reply_of : (v u : PassView) (ns : List ℕ) (w : PassView) → SamePass v u → AnswersAll z docs replies u ns w → (i : ℕ) → 0 < times i ns
      → (doc : Doc) × (reply : Reply) × (slice_get docs i ≡ Some doc) × (slice_get replies i ≡ Some reply) × IsReplyOf v doc reply
  reply_of v u [] w s c i some = absurd (omega arith)
  reply_of v u (n ∷ ns) w s c i some = dite (ℕ_discrete n i) here (λ apart. reply_of v c.0 ns w (same_on v u c.0 s c.3.filters.2.stays.same) c.4 i (later apart))
    where
      here : n ≡ i → (doc : Doc) × (reply : Reply) × (slice_get docs i ≡ Some doc) × (slice_get replies i ≡ Some reply) × IsReplyOf v doc reply
      here e =
          let r = c.3.filters.2 in
          let past = ap (λ (p : Past Change). p.seen) s.past in (
            c.3.doc,
            c.1,
            subst (λ (m : ℕ). slice_get docs m ≡ Some c.3.doc) e c.3.at,
            subst (λ (m : ℕ). slice_get replies m ≡ Some c.1) e c.2,
            record {
              pass = r.pass ∙ s.number;
              version = r.version ∙ same_reached v u s;
              root = c.3.filters.0;
              verdict = c.3.filters.1;
              ids = r.ids ∙ ap (λ (h : List Change). matches (history h) c.3.filters.0) past;
              all_steps = r.all_steps ∙ ap (λ (h : List Change). steps_of (history h) c.3.filters.0) past;
              cause = same_cause v u s c.1.why (one_cause z u c.0 c.3.filters.0 c.1.found c.1.computed c.1.own c.1.why r.made_by);
            },
          )

      later : n ≢ i → 0 < times i ns
      later apart = let z0 : one_if (eqb n i) ≡ 0 = ap one_if (ne_eqb n i apart) in omega arith
