-- A document again, behind a settled reply.
use Rattle.std.proofs.Common.{◌≡◌, ◌⊎◌, inl, inr, ℕ, List, length, Option, Some, None, refl, sym, ap, ◌∙◌, subst, arith}
use Rattle.std.specs.Prelude.{Result, Ok, Err}
use Rattle.px_text.specs.Nodes.{Root}
use Rattle.px_reader.specs.Spelling.{events_of}
use Rattle.px_reader.specs.Verdicts.{HasVerdict, IsFaulty, IsTree}
use Rattle.px_reader.specs.Lines.{lines_of}
use Rattle.px_reader.proofs.Telling.{tree_one}
use Rattle.px_reader.proofs.Verdicts.{judges_one}
use Rattle.px_xpath.specs.Histories.{matches}
use Rattle.px_afa.specs.Building.{program}
use Rattle.px_afa.specs.Steps.{run}
use Rattle.px_workload.specs.declared.change.Change.{Change}
use Rattle.px_workload.specs.Changes.{history}
use Rattle.px_rule.specs.declared.shape.Shape.{Shape}
use Rattle.px_rule.specs.declared.view.Past.{Past}
use Rattle.px_rule.specs.Kept.{Since}
use Rattle.px_call.specs.declared.tally.Tally.{Tally}
use Rattle.px_call.specs.Counted.{Counts}
use Rattle.px_call.specs.Calls.{sets_held}
use Rattle.px_call.specs.Laws.{HeldInRun, SecondCall}
use Rattle.px_hub.specs.declared.home.Home.{Home}
use Rattle.px_hub.specs.declared.home.Home.TheVariants as home
use Rattle.px_hub.specs.declared.reply.Reply.{Reply}
use Rattle.px_hub.specs.declared.reply.Why.{Why}
use Rattle.px_hub.specs.declared.reply.Why.TheVariants.{Unsettled, NoBank, Gone, Full, Settled}
use Rattle.px_hub.specs.declared.reply.FilterCallFault.{FilterCallFault}
use Rattle.px_hub.specs.declared.reply.FilterCallFault.TheVariants.{Doc, Memory}
use Rattle.px_hub.specs.Entries.{IsRight}
use Rattle.px_hub.specs.Passes.{PassView}
use Rattle.px_hub.specs.Calls.{seen_of}
use Rattle.px_hub.specs.Replying.{Stays, BankServes, MadeBy, Replies, Filters, SameBetween, AnswersAgain, tally_of, history_of, program_of, reached}

abbrev bank_of : Home → Option ℕ
bank_of (home.Bank k) = Some k
bank_of (home.NoBank words) = None

same_bank : (j k : ℕ) → home.Bank j ≡ home.Bank k → j ≡ k
same_bank j k e = let both : Some j ≡ Some k = ap bank_of e in cc

other_home : (k : ℕ) (words : List ℕ) → home.Bank k ≡ home.NoBank words → ⊥
other_home k words e = let both : Some k ≡ None = ap bank_of e in absurd (cc)

-- a pass that is as it was
pub as_before : (v w : PassView) → Stays v w → SameBetween v w
as_before v w s = record {
  number = s.same.number;
  seen = ap (λ (x : Past Change). x.seen) s.same.past;
  have = s.same.have;
  home = s.same.home;
  since = s.same.since (reached v);
}

-- v and w are the pass before and after the settled call, and v' and w' before and after the other
module _ (held : HeldInRun) (second : SecondCall IsRight) (z : Shape) (v w v' w' : PassView) (root : Root) (found : ℕ) (stays : Stays v w) (between : SameBetween w v') where
  seen_again : seen_of v' ≡ seen_of v
  seen_again = between.seen ∙ ap (λ (x : Past Change). x.seen) stays.same.past

  reached_after : reached w ≡ reached v
  reached_after = ap (λ (x : Past Change). length x.seen) stays.same.past

  -- it computes nothing, and keeps nothing for itself
  twice : (computed : ℕ) (tally : Tally) → BankServes z v w root (tally_of found computed 0 None) → BankServes z v' w' root tally → (tally.computed ≡ 0) × (tally.own ≡ 0) × (tally.full ≡ None)
  twice computed tally first again =
      let k : ℕ = first.bank in
      let bank_is : again.bank ≡ k = same_bank again.bank k (sym again.home ∙ (between.home ∙ (stays.same.home ∙ first.home))) in
      let moved : Counts IsRight z k (length (seen_of v)) v'.view w'.view tally (run (history (seen_of v)) root) (sets_held (program (history (seen_of v))) (events_of root)) =
      subst (λ (l : List Change). Counts IsRight z k (length l) v'.view w'.view tally (run (history l) root) (sets_held (program (history l)) (events_of root))) seen_again
      (subst (λ (j : ℕ). Counts IsRight z j (reached v') v'.view w'.view tally (run (history_of v') root) (sets_held (program_of v') (events_of root))) bank_is again.counts) in
      let sets = sets_held (program_of v) (events_of root) in
      second z k (reached v) v.view w.view v'.view w'.view (tally_of found computed 0 None) tally (run (history_of v) root) sets sets (held (program_of v) root) first.counts refl
      (subst (λ (n : ℕ). Since n w.view v'.view) reached_after between.since) moved

  made_again : (computed : ℕ) → BankServes z v w root (tally_of found computed 0 None) → (f c o : ℕ) (why : Why) → MadeBy z v' w' root f c o why
      → ((why ≡ Settled) × (c ≡ 0)) ⊎ ((word : ℕ) × (why ≡ Gone word))
  made_again computed first f c o (Unsettled have) made = absurd (made.0.1 (between.have ∙ (stays.same.have ∙ (first.have ∙ ap length (sym seen_again)))))
  made_again computed first f c o (NoBank words) made = absurd (other_home first.bank words (sym first.home ∙ (sym stays.same.home ∙ (sym between.home ∙ made.0.1))))
  made_again computed first f c o (Gone word) made = inr (word, refl)
  made_again computed first f c o (Full word) made = let t = twice computed (tally_of f c o (Some word)) first made.0 in let some = made.1 in let none = t.1 in absurd (omega arith)
  made_again computed first f c o Settled made = let t = twice computed (tally_of f c o None) first made.0 in inl (refl, t.0)

  answers : (computed : ℕ) (bytes : List ℕ) (reply : Reply) (answer : Result Reply FilterCallFault) → HasVerdict bytes (IsTree root) → BankServes z v w root (tally_of found computed 0 None)
      → reply.ids ≡ matches (history_of v) root → Filters z v' w' bytes answer → AnswersAgain reply answer
  answers computed bytes reply (Ok again) verdict first ids filters =
      let r : Replies z v' w' root again = subst (λ (t : Root). Replies z v' w' t again) (tree_one bytes filters.0 root filters.1 verdict) filters.2 in (
        r.ids ∙ (ap (λ (l : List Change). matches (history l) root) seen_again ∙ sym ids),
        made_again computed first again.found again.computed again.own again.why r.made_by,
      )
  answers computed bytes reply (Err (Doc fault)) verdict first ids filters =
      let same : IsTree root ≡ IsFaulty fault.line fault.kind = judges_one (lines_of bytes) (IsTree root) (IsFaulty fault.line fault.kind) verdict filters.verdict in absurd (cc)
  answers computed bytes reply (Err Memory) verdict first ids filters = tt

-- behind a settled reply another call on the same bytes finds all steps, or its bank is gone
pub again : HeldInRun → SecondCall IsRight → (z : Shape) (v w v' w' : PassView) (bytes : List ℕ) (reply : Reply) (answer : Result Reply FilterCallFault) → Filters z v w bytes (Ok reply) → reply.why ≡ Settled
    → SameBetween w v' → Filters z v' w' bytes answer → AnswersAgain reply answer
again held second z v w v' w' bytes reply answer f settled between filters =
    let r = f.2 in
    let made = subst (MadeBy z v w f.0 reply.found reply.computed reply.own) settled r.made_by in
    let first = subst (λ (n : ℕ). BankServes z v w f.0 (tally_of reply.found reply.computed n None)) made.1 made.0 in
    answers held second z v w v' w' f.0 reply.found r.stays between reply.computed bytes reply answer f.1 first r.ids filters
