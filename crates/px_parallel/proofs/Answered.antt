-- A feed is asked of passes of which the first has seen all changes.
use Rattle.std.proofs.Common.{◌≡◌, ℕ, zero, suc, ◌<◌, ◌≤◌, ◌⊎◌, inl, inr, List, [], ◌∷◌, get_or, length, map, refl, sym, ap, ◌∙◌, subst, arith}
use Rattle.px_reader.specs.declared.doc.Doc.{Doc}
use Rattle.px_feed.specs.declared.item.Item.{Item as Given}
use Rattle.px_feed.specs.declared.line.OutLine.{OutLine}
use Rattle.px_feed.specs.Effects.{IsItem}
use Rattle.px_feed.specs.Items.{Item}
use Rattle.px_feed.specs.Outputs.{Reply, reply, history_behind, lines_for}
use Rattle.px_feed.proofs.Replies.{history-joined}
use Rattle.px_workload.specs.declared.change.Change.{Change}
use Rattle.px_workload.specs.Changes.{history}
use Rattle.px_xpath.specs.Histories as histories
use Rattle.px_xpath.specs.Histories.{IsLegal}
use Rattle.px_lines.specs.Replying.{Answered}
use Rattle.px_hub.specs.declared.reply.Reply as hub
use Rattle.px_hub.specs.Passes.{PassView}
use Rattle.px_hub.specs.Calls.{seen_of}
use Rattle.px_hub.specs.AllOfThem.{HoldsEvery}
use Rattle.px_changer.specs.Alone.{AllBy, HoldEvery}
use Rattle.px_changer.specs.Telling.{all_anonymous}
use Rattle.px_gather.specs.Asking.{AnswersChange, AnswersDocuments}
use Rattle.px_parallel.specs.Answering.{line_for}
use Rattle.px_parallel.specs.Leading.{AreLed, HaveAnswered, AreUnused, seen_first}
use Rattle.px_parallel.specs.Replying.{AreRepliesBehind}
use Rattle.px_parallel.proofs.Batching.{lines_asked}

module _ (passes : ℕ) where
  -- nothing was asked of passes that have seen nothing
  every_other : (first : PassView) (others : List PassView) → HoldsEvery passes (first ∷ others) → HoldEvery passes first.number others
  every_other first others every n low = at (every n low)
    where
      at : (k : ℕ) × (k < length (first ∷ others)) × ((d : PassView) → (get_or (first ∷ others) k d).number ≡ n) → (n ≡ first.number) ⊎ ((k : ℕ) × (k < length others) × ((d : PassView) → (get_or others k d).number ≡ n))
      at (zero, within, is) = inl (sym (is first))
      at (suc k, within, is) = inr (k, omega (arith, within), is)

  pub nothing_asked : (ps : List PassView) → HoldsEvery passes ps → 2 ≤ length ps → AreUnused ps → HaveAnswered passes ps []
  nothing_asked [] every several unused = absurd (omega (arith, several))
  nothing_asked (first ∷ others) every several unused =
      let none : [] ≡ seen_of first = sym (unused 0 first (omega arith)).0 in record {
        led = record {
          first = first;
          workers = others;
          are = refl;
          some = omega (arith, several);
          alone = record {
            first_closed = (unused 0 first (omega arith)).2;
            closed = λ k d low. (unused (suc k) d (omega arith)).2;
            idle = λ k d low. (unused (suc k) d (omega arith)).1;
            every = every_other first others every;
            all_own = subst (λ (seen : List Change). AllBy first.number seen) none tt;
            legal = subst (λ (seen : List Change). IsLegal (history seen)) none (tt, omega arith);
          };
        };
        history_is = ap (λ (seen : List Change). history (all_anonymous seen)) none;
      }

  -- a change was answered
  pub change_answers : (item : Given) (old new : List PassView) (line : OutLine) → AreLed passes new →
      ((brought : Item) → IsItem item brought → Answered brought (all_anonymous (seen_first old)) (all_anonymous (seen_first new)) line) → AnswersChange (λ ps asks. HaveAnswered passes ps asks) item old new line
  change_answers item old new line led answered before brought h is =
      let a = answered brought is in
      let replied : reply (history_behind [] before) a.0 ≡ (line, history (all_anonymous (seen_first new))) = ap (λ (now : List histories.Change). reply now a.0) h.history_is ∙ a.2 in (
        a.0,
        record { asked = (a.1, tt); lines_are = sym (ap (λ (r : Reply). r.0 ∷ []) replied) },
        record { led = led; history_is = history-joined [] before (a.0 ∷ []) ∙ ap (λ (r : Reply). r.1) replied },
      )

  -- documents were answered
  pub documents_answer : (docs : List Doc) (old new : List PassView) (replies : List hub.Reply) (lines : List OutLine) → AreLed passes new → seen_first new ≡ seen_first old →
      AreRepliesBehind (seen_first old) docs replies → lines ≡ map line_for replies → AnswersDocuments (λ ps asks. HaveAnswered passes ps asks) docs old new lines
  documents_answer docs old new replies lines led same are is before shown h show =
      let a = lines_asked (seen_first old) docs replies shown are show in (
        a.asks,
        record { asked = a.all; lines_are = is ∙ a.lines_are ∙ ap (λ (now : List histories.Change). lines_for now a.asks) (sym h.history_is) },
        record {
          led = led;
          history_is = history-joined [] before a.asks ∙ ap (λ (now : List histories.Change). history_behind now a.asks) h.history_is ∙ a.same
              ∙ ap (λ (seen : List Change). history (all_anonymous seen)) (sym same);
        },
      )
