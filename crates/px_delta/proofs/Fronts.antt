-- What the front makes of the base's reply.
use Rattle.std.proofs.Common.{◌≡◌, ℕ, ◌+◌, ◌≤◌, Bool, List, [], ◌∷◌, length, map, Result, Ok, Err, IfOk, sym, ap, ◌∙◌, subst, arith}
use Rattle.std.specs.Prelude.{◌==◌, if◌then◌else◌}
use Rattle.std.proofs.lemmas.List.{length-map}
use Rattle.px_text.specs.Nodes.{Root}
use Rattle.px_text.specs.Sets.{Rising}
use Rattle.px_reader.specs.Spelling.{events_of}
use Rattle.px_reader.specs.declared.event.Event.{Event}
use Rattle.px_reader.specs.Verdicts.{Verdict, HasVerdict, IsTree, AreEvents}
use Rattle.px_xpath.specs.declared.numbered.Numbered.{Numbered}
use Rattle.px_xpath.specs.Filters.{Way}
use Rattle.px_xpath.specs.Histories.{Subscription, live_size, matches}
use Rattle.px_xpath.specs.Meaning.{holds}
use Rattle.px_xpath.specs.Subscribed.{subscription, subscriptions}
use Rattle.px_afa.specs.Sound.{AreLive, AreRising}
use Rattle.px_afa.specs.Steps.{steps_of}
use Rattle.px_workload.specs.declared.change.Change.{Change}
use Rattle.px_workload.specs.Changes.{history}
use Rattle.px_workload.specs.Listed.{AreInOrder}
use Rattle.px_rule.specs.declared.shape.Shape.{Shape}
use Rattle.px_hub.specs.declared.reply.Reply.{Reply}
use Rattle.px_hub.specs.Calls.{seen_of, live_behind}
use Rattle.px_hub.specs.Passes.{PassView}
use Rattle.px_hub.specs.Replying as hub
use Rattle.px_delta.specs.declared.changes.Changes.{Changes}
use Rattle.px_delta.specs.declared.reply.DeltaReply.{DeltaReply}
use Rattle.px_delta.specs.Apart.{AreChanges, IsReply}
use Rattle.px_delta.specs.Deltas.{Replies, only_behind}
use Rattle.px_delta.specs.Lists.{TellsSame, matching, merge, without, without_ids}
use Rattle.px_delta.specs.Sameness.{same_way}
use Rattle.px_delta.proofs.Leaving.{rising_left, size_left}
use Rattle.px_delta.proofs.Stepping.{steps_alike}

rise : (ns : List ℕ) → Rising ns → AreRising ns
rise [] r = tt
rise (n ∷ ns) r = (r.1, rise ns r.2)

-- a program can be built of what is not in another list
pub are_live : (added new old : List Numbered) → subscriptions added ≡ without same_way (subscriptions new) (subscriptions old) → AreInOrder added → live_size (subscriptions new) ≤ 500_000 → AreLive (subscriptions added)
are_live added new old e order small = record {
  ids_rise = rise (map (λ s. s.id) (subscriptions added)) order;
  few = let all = ap live_size e in let left : live_size (without same_way (subscriptions new) (subscriptions old)) ≤ live_size (subscriptions new) = size_left _ (subscriptions new) in omega (arith, all, left);
}

-- what two lists have apart, of which it is known what they are
pub apart_told : (pairs first second : List Numbered) (a b : List Subscription) → subscriptions first ≡ a → subscriptions second ≡ b → subscriptions pairs ≡ without same_way (subscriptions first) (subscriptions second) →
    subscriptions pairs ≡ without same_way a b
apart_told pairs first second a b ea eb e = rw (ea, eb) at e

-- the ids of the front, when those of the added filters were found
pub ids_told : {E : Type 0} (r : Result (List ℕ) E) (events : List Event) (of_base found seen : List ℕ) (dropped ds added found_of : List Numbered) → seen ≡ found → ds ≡ dropped → found_of ≡ added → AreInOrder added →
    IfOk r (λ all. AreRising seen → all ≡ merge (without_ids of_base (subscriptions ds)) seen) →
    ((root : Root) → events ≡ events_of root → found ≡ matching (λ filter. holds filter root) (subscriptions found_of)) →
    IfOk r (λ ids. (root : Root) → events ≡ events_of root → ids ≡ merge (without_ids of_base (subscriptions dropped)) (matching (λ filter. holds filter root) (subscriptions added)))
ids_told (Ok all) events of_base found seen dropped ds added found_of es ed ea order h holding = λ root e.
    let some = matching (λ filter. holds filter root) (subscriptions added) in
    let is : seen ≡ some = es ∙ holding root e ∙ ap (λ xs. matching (λ filter. holds filter root) (subscriptions xs)) ea in
    let rising : AreRising some = rise some (rising_left (λ s. holds s.filter root) (subscriptions added) order) in
    h (subst AreRising (sym is) rising) ∙ ap (λ xs. merge (without_ids of_base (subscriptions xs)) seen) ed ∙ ap (merge (without_ids of_base (subscriptions dropped))) is
ids_told (Err fault) events of_base found seen dropped ds added found_of es ed ea order h holding = tt

-- the law of two live lists
abbrev pub MakeOne : Type 0
MakeOne = (same : Way → Way → Bool) (test : Way → Bool) (base front : List Subscription) → TellsSame same → Rising (map (λ s. s.id) base) → Rising (map (λ s. s.id) front) →
    matching test front ≡ merge (without_ids (matching test base) (without same base front)) (matching test (without same front base))

-- the parts of the reply are what it has to say
pub replies : TellsSame same_way → MakeOne → (base front : List Change) (changes : Changes) (reply : Reply) (r : DeltaReply) (root : Root) → AreChanges base front changes → IsReply base root reply →
    r.version ≡ length front → r.base ≡ reply →
    r.ids ≡ merge (without_ids reply.ids (subscriptions changes.dropped.items)) (matching (λ filter. holds filter root) (subscriptions changes.added.items)) →
    r.dropped ≡ length changes.dropped.items → r.added ≡ length changes.added.items →
    r.steps ≡ (if r.added == 0 then 0 else (reply.found + reply.computed + reply.own)) → Replies base front root r
replies tells law base front changes reply r root are is version same ids dropped added steps = record {
  version = version;
  ids = made
      ∙ ap (λ ns. merge (without_ids ns (only_behind base front)) (matching test (only_behind front base))) is.ids
      ∙ sym (law same_way test (live_behind base) (live_behind front) tells are.base_order are.front_order);
  made_of = made ∙ ap (λ b. merge (without_ids b.ids (only_behind base front)) (matching test (only_behind front base))) (sym same);
  dropped = dropped ∙ sym (length-map changes.dropped.items subscription) ∙ ap length are.dropped;
  added = added ∙ sym (length-map changes.added.items subscription) ∙ ap length are.added;
  steps = steps ∙ ap (λ n. if r.added == 0 then 0 else n) (is.all_steps ∙ steps_alike (history base) (history front) root);
}
  where
    test : Way → Bool
    test = λ filter. holds filter root

    made : r.ids ≡ merge (without_ids reply.ids (only_behind base front)) (matching test (only_behind front base))
    made = ids ∙ ap (λ xs. merge (without_ids reply.ids xs) (matching test (subscriptions changes.added.items))) are.dropped
        ∙ ap (λ xs. merge (without_ids reply.ids (only_behind base front)) (matching test xs)) are.added

-- no bytes spell two trees
abbrev pub OneVerdict : Type 0
OneVerdict = (bytes : List ℕ) (verdict other : Verdict) → HasVerdict bytes verdict → HasVerdict bytes other → verdict ≡ other

one_root : OneVerdict → (bytes : List ℕ) (a b : Root) → HasVerdict bytes (IsTree a) → HasVerdict bytes (IsTree b) → a ≡ b
one_root one bytes a b h k = tree (IsTree a) (IsTree b) (one bytes (IsTree a) (IsTree b) h k)
  where
    root_of : Root → Verdict → Root
    root_of d (IsTree r) = r
    root_of d _ = d

    tree : (v w : Verdict) → v ≡ w → root_of a v ≡ root_of a w
    tree v w e = ap (root_of a) e

pub events_told : OneVerdict → (bytes : List ℕ) (events : List Event) (root : Root) → AreEvents bytes events → HasVerdict bytes (IsTree root) → events ≡ events_of root
events_told one bytes events root are h = are.events_are ∙ ap events_of (one_root one bytes are.root root are.verdict h)

-- the reply of the base is that to the tree
pub reply_told : OneVerdict → (z : Shape) (v w : PassView) (bytes : List ℕ) (reply : Reply) → hub.Filters z v w bytes (Ok reply) → (root : Root) → HasVerdict bytes (IsTree root) → IsReply (seen_of w) root reply
reply_told one z v w bytes reply filters root h =
    let P : Root → Type 0 = λ x. hub.Replies z v w x reply in
    let told = subst P (one_root one bytes filters.0 root filters.1 h) filters.2 in
    let seen = ap (λ p. p.seen) told.stays.same.past in
    record { ids = told.ids ∙ ap (λ l. matches (history l) root) (sym seen); all_steps = told.all_steps ∙ ap (λ l. steps_of (history l) root) (sym seen) }
