-- A seat enters a bank, and leaves it.
use Rattle.std.proofs.Common.{◌≡◌, ℕ, ◌<◌, ◌^◌, true, List, [], ◌∷◌, ◌++◌, take, length, refl, sym, ap, ◌∙◌, subst}
use Rattle.std.specs.Prelude.{Result, Ok, Err, IfOk, OnErr}
use Rattle.px_text.specs.Nodes.{Root}
use Rattle.px_reader.specs.Spelling.{events_of}
use Rattle.px_afa.specs.Building.{Automata, program}
use Rattle.px_afa.specs.Steps.{Step, run_of}
use Rattle.px_runner.proofs.Fed.{tree-steps}
use Rattle.px_workload.specs.declared.change.Change.{Change}
use Rattle.px_workload.specs.Changes.{history}
use Rattle.px_rule.specs.declared.view.Place.{Place}
use Rattle.px_rule.specs.declared.view.Place.TheVariants.{Outside, Inside, Stray}
use Rattle.px_rule.specs.declared.view.Stay.{Stay}
use Rattle.px_rule.specs.declared.view.View.{View}
use Rattle.px_rule.specs.Kept.{Grew, Since}
use Rattle.px_rule.specs.Steps.{Leaves}
use Rattle.px_rule.specs.Table.{TableName, Seated, is_in, is_inside, bank_in, version_in}
use Rattle.px_rule.specs.Words.{shows}
use Rattle.px_rule.proofs.Since.{since_grew, since_trans, since_idle}
use Rattle.px_call.specs.declared.tally.Tally.{Tally}
use Rattle.px_call.specs.Calls.{HasFiltered, CountsAt, CountsOf, sets_held}
use Rattle.px_call.specs.Counted.{Counts}
use Rattle.px_call.specs.Laws.{KnowTheSame, CountsMove}
use Rattle.px_call.specs.Memory.{IsProgramAt}
use Rattle.px_hub.specs.declared.entrance.Entrance.{Entrance}
use Rattle.px_hub.specs.declared.entrance.Entrance.TheVariants as entrance
use Rattle.px_hub.specs.Entries.{IsRight}
use Rattle.px_hub.specs.OpenCalls.{entered_at, seated, HasLeft, EntranceGives, BeginsInside}
use Rattle.px_hub.proofs.Adding.{take_whole}

pub ok_then : {A E : Type 0} (P Q : A → Type 0) (r : Result A E) → ((a : A) → P a → Q a) → IfOk r P → IfOk r Q
ok_then P Q (Ok a) on h = on a h
ok_then P Q (Err e) on h = tt

pub err_then : {A E : Type 0} (P Q : Type 0) (r : Result A E) → (P → Q) → OnErr r P → OnErr r Q
err_then P Q (Ok a) on h = tt
err_then P Q (Err e) on h = on h

-- a seat that entered, and then left
pub left_entered : (bank version word : ℕ) (v m w : View Change) → m ≡ entered_at bank version word v → HasLeft m w → HasLeft v w
left_entered bank version word v m w is h =
    let entered : View Change = entered_at bank version word v in
    let l : HasLeft entered w = subst (λ (x : View Change). HasLeft x w) is h in
    record {
      past = l.past;
      place = l.place;
      front = l.front ++ (bank, version) ∷ [];
      stays = l.stays ∙ behind l.front (bank, version) v.stay.stays;
      busy = l.busy;
      since = λ n. since_trans n v entered w (since_idle n v entered refl refl) (l.since n);
    }
  where
    behind : (xs : List (ℕ × ℕ)) (x : ℕ × ℕ) (ys : List (ℕ × ℕ)) → xs ++ x ∷ ys ≡ (xs ++ x ∷ []) ++ ys
    behind [] x ys = refl
    behind (y ∷ xs) x ys = ap (λ l. y ∷ l) (behind xs x ys)

-- the counts of a whole call, between the seat before it had entered and the one that has left
pub counts_left : CountsMove IsRight → (automata : Automata) (began : Seated Change) (before m w : View Change) (tally : Tally) (root : Root) → KnowTheSame before began.view → Leaves m w → CountsOf IsRight automata began m tally root
    → CountsAt IsRight began.table.shape (bank_in began.view.stay.place) (version_in began.view.stay.place) automata before w tally (events_of root)
counts_left move automata began before m w tally root same is h =
    let k : ℕ = bank_in began.view.stay.place in
    let n : ℕ = version_in began.view.stay.place in
    let z = began.table.shape in
    let sets = sets_held automata (events_of root) in
    subst (λ (steps : List Step). Counts IsRight z k n before w tally steps sets) (sym (tree-steps automata root))
    (move z k n before began.view m w tally (run_of automata root) sets same (ap (λ (x : View Change). x.past) is, ap (λ (x : View Change). x.touch) is) h)
