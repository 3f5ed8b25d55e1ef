-- What the others of the passes answer where all have seen the same.
use Rattle.std.proofs.Common.{◌≡◌, ℕ, suc, ◌<◌, ◌⊎◌, inl, inr, List, [], ◌∷◌, length, get_or, refl, sym, ap, ◌∙◌, subst, arith}
use Rattle.std.specs.Prelude.{slice_get, Some, Result, Ok, Err, IfOk, OnOk}
use Rattle.std.proofs.lemmas.Option.{same_Some, slice_get_within, get_or_from_slice_get}
use Rattle.px_text.specs.Nodes.{Root}
use Rattle.px_reader.specs.declared.doc.Doc.{Doc}
use Rattle.px_reader.specs.Documents.{content}
use Rattle.px_reader.specs.Lines.{lines_of}
use Rattle.px_reader.specs.Verdicts.{IsTree}
use Rattle.px_reader.proofs.Verdicts.{judges_one}
use Rattle.px_workload.specs.declared.change.Change.{Change}
use Rattle.px_workload.specs.Changes.{history}
use Rattle.px_xpath.specs.Histories.{matches}
use Rattle.px_hub.specs.declared.reply.Reply.{Reply}
use Rattle.px_hub.specs.Passes.{PassView}
use Rattle.px_hub.specs.Calls.{seen_of}
use Rattle.px_changer.specs.Alone.{HoldEvery, IsAlone}
use Rattle.px_pool.specs.Batches.{AllStay, Batched}
use Rattle.px_pool.specs.Counting.{IsReplyOf, RepliesOf}
use Rattle.px_pool.proofs.Naming.{replies_of}
use Rattle.px_rule.specs.declared.shape.Shape.{Shape}
use Rattle.px_parallel.specs.Leading.{AreLed, AllHaveSeen}
use Rattle.px_parallel.specs.Replying.{IsReplyBehind, AreRepliesBehind}

-- ---- the replies
same_tree : (a b : Root) → IsTree a ≡ IsTree b → a ≡ b
same_tree a b e = cc

reply_behind : (seen : List Change) (v : PassView) (doc : Doc) (reply : Reply) → seen_of v ≡ seen → IsReplyOf v doc reply → IsReplyBehind seen doc reply
reply_behind seen v doc reply is r = record {
  version = r.version ∙ ap length is;
  ids = λ root of.
      let one = same_tree r.root root (judges_one (lines_of (content doc)) (IsTree r.root) (IsTree root) r.verdict of.verdict) in
      r.ids ∙ (λ i. matches (history (is i)) (one i));
}

seen_at : (seen : List Change) (vs : List PassView) (k : ℕ) (v : PassView) → AllHaveSeen seen vs → slice_get vs k ≡ Some v → seen_of v ≡ seen
seen_at seen vs k v all at = ap seen_of (sym (get_or_from_slice_get vs k v v at)) ∙ all k v (slice_get_within vs k v at)

module _ (seen : List Change) (vs : List PassView) (all : AllHaveSeen seen vs) where
  -- the reply at this place
  reply_at : (docs : List Doc) (replies : List Reply) (i : ℕ) (doc : Doc) (reply : Reply) → RepliesOf docs vs replies → i < length docs → slice_get docs i ≡ Some doc → slice_get replies i ≡ Some reply →
      IsReplyBehind seen doc reply
  reply_at docs replies i doc reply are low at there =
      let r = are i low in
      let is : IsReplyBehind seen r.0 r.1 = reply_behind seen r.3 r.0 r.1 (seen_at seen vs r.2 r.3 all r.6) r.7 in
      subst (λ (y : Doc × Reply). IsReplyBehind seen y.0 y.1) (λ j. (same_Some r.0 doc (sym r.4 ∙ at) j, same_Some r.1 reply (sym r.5 ∙ there) j)) is

  replies_behind : (docs : List Doc) (replies : List Reply) → length replies ≡ length docs → RepliesOf docs vs replies → AreRepliesBehind seen docs replies
  replies_behind [] [] long are = tt
  replies_behind [] (reply ∷ replies) long are = absurd (omega arith)
  replies_behind (doc ∷ docs) [] long are = absurd (omega arith)
  replies_behind (doc ∷ docs) (reply ∷ replies) long are = (
    reply_at (doc ∷ docs) (reply ∷ replies) 0 doc reply are (omega arith) refl refl,
    replies_behind docs replies (omega arith) (λ i low. are (suc i) (omega arith)),
  )

pub batch_replies : (z : Shape) (docs : List Doc) (vs ws : List PassView) (replies : List Reply) → Batched z docs vs replies ws → (seen : List Change) → AllHaveSeen seen vs → AreRepliesBehind seen docs replies
batch_replies z docs vs ws replies b seen all = replies_behind seen vs all docs replies b.long (replies_of z docs replies vs ws b)

-- ---- the passes behind a batch
pub alone_stays : (passes : ℕ) (first : PassView) (vs ws : List PassView) → IsAlone passes first vs → AllStay vs ws → IsAlone passes first ws
alone_stays passes first vs ws alone stay = record {
  first_closed = alone.first_closed;
  closed = λ k d low. (stay.each k d (there k low)).closed;
  idle = λ k d low. ap (λ p. p.mine) (stay.each k d (there k low)).same.past ∙ alone.idle k d (there k low);
  every = every;
  all_own = alone.all_own;
  legal = alone.legal;
}
  where
    there : (k : ℕ) → k < length ws → k < length vs
    there k low = let same = stay.as_many in omega arith

    every : HoldEvery passes first.number ws
    every n low = elim (alone.every n low) as (λ _. (n ≡ first.number) ⊎ ((k : ℕ) × (k < length ws) × ((d : PassView) → (get_or ws k d).number ≡ n))) [
      | inl same ↦ inl same
      | inr other ↦ inr (other.0, (let same = stay.as_many in let low = other.1 in omega arith), λ d. (stay.each other.0 d other.1).same.number ∙ other.2 d)
    ]

-- ---- the first and the others
abbrev first_of : PassView → List PassView → PassView
first_of d [] = d
first_of d (p ∷ ps) = p

abbrev tail_of : List PassView → List PassView
tail_of [] = []
tail_of (p ∷ ps) = ps

module _ (passes : ℕ) (ps : List PassView) (v : PassView) (vs : List PassView) (are : ps ≡ v ∷ vs) where
  -- the first made a change
  pub led_of : {T E : Type 0} (r : Result T E) (w : PassView) (ws : List PassView) → AreLed passes ps → length ws ≡ length vs → OnOk r (IsAlone passes w ws) → OnOk r (AreLed passes (w ∷ ws))
  led_of (Ok x) w ws l many alone =
      let same : l.workers ≡ vs = ap tail_of (sym l.are ∙ are) in
      record { first = w; workers = ws; are = refl; some = (let some = l.some in let n = ap length same in omega arith); alone = alone }
  led_of (Err e) w ws l many alone = tt

  -- the others filtered
  pub led_behind : (ws : List PassView) → AreLed passes ps → AllStay vs ws → AreLed passes (v ∷ ws)
  led_behind ws l stay =
      let same : l.first ∷ l.workers ≡ v ∷ vs = sym l.are ∙ are in
      let alone = subst (λ (y : List PassView). IsAlone passes (first_of l.first y) (tail_of y)) same l.alone in
      record { first = v; workers = ws; are = refl; some = (let some = l.some in let n = ap length same in let many = stay.as_many in omega arith); alone = alone_stays passes v vs ws alone stay }

  pub seen_behind : (seen : List Change) → AllHaveSeen seen ps → AllHaveSeen seen vs
  seen_behind seen all k d low = subst (λ (qs : List PassView). AllHaveSeen seen qs) are all (suc k) d (omega arith)

pub ok_then : {T E : Type 0} {P Q : T → Type 0} (r : Result T E) → IfOk r P → ((x : T) → P x → Q x) → IfOk r Q
ok_then (Ok x) h f = f x h
ok_then (Err e) h f = tt

pub ok_with : {T E : Type 0} {P Q : T → Type 0} {X : Type 0} (r : Result T E) → OnOk r X → IfOk r P → ((x : T) → X → P x → Q x) → IfOk r Q
ok_with (Ok x) also h f = f x also h
ok_with (Err e) also h f = tt
