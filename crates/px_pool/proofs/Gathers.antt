-- What is gathered of the workers, one after the other.
use Rattle.std.proofs.Common.{◌≡◌, ℕ, suc, ◌+◌, ◌<◌, eqb, List, [], ◌∷◌, ◌++◌, map, length, refl, sym, ap, ◌∙◌, subst, arith, ne_eqb, ⊎_elim, append_assoc, append-nil, length-append}
use Rattle.std.proofs.lemmas.List.{map-append, length-map}
use Rattle.std.specs.Prelude.{Option, Some, IsOkAnd}
use Rattle.std.proofs.Common.{le-leb}
use mathlib.Core.Logic.{inl, inr}
use Rattle.px_rule.specs.Banks.{one_if}
use Rattle.px_crew.specs.declared.rule.Hand.{Hand}
use Rattle.px_crew.specs.Drawn.{hand, both, times, once_below}
use Rattle.px_hub.specs.declared.reply.Reply.{Reply}
use Rattle.px_pool.specs.declared.worker.Answer.{Answer}
use Rattle.px_pool.specs.declared.worker.Worker.{Worker}
use Rattle.px_pool.specs.Working.{number_of}
use Rattle.px_pool.specs.Placing.{Placed, IsFull}
use Rattle.px_pool.specs.Gathering.{Brought, Brings, joined, Gathered, AreReplies}
use Rattle.px_pool.proofs.Places.{times_both, all_full, reply_at}

brings_more : (workers : List Worker) (lists : List (List Answer)) (w : Worker) (answers : List Answer) → Brings workers lists → IsOkAnd w.outcome (λ a. a.items ≡ answers) → Brings (workers ++ w ∷ []) (lists ++ answers ∷ [])
brings_more [] [] w answers b i = (i, tt)
brings_more (v ∷ vs) (l ∷ ls) w answers b i = (b.0, brings_more vs ls w answers b.1 i)
brings_more [] (l ∷ ls) w answers b i = absurd b
brings_more (v ∷ vs) [] w answers b i = absurd b

joined_more : (lists : List (List Answer)) (answers : List Answer) → joined (lists ++ answers ∷ []) ≡ joined lists ++ answers
joined_more [] answers = append-nil answers
joined_more (l ∷ ls) answers = ap (λ xs. l ++ xs) (joined_more ls answers) ∙ sym (append_assoc l (joined ls) answers)

pub takes_in : (before : List Worker) (whole : Hand) (slots : List (Option Reply)) (w : Worker) (answers : List Answer) (h now : Hand) (after : List (Option Reply))
    → Gathered before whole slots → IsOkAnd w.outcome (λ a. a.items ≡ answers) → Brought (length slots) answers h → now ≡ both whole h → length after ≡ length slots
    → ((first : List Answer) → Placed slots first → Placed after (first ++ answers)) → Gathered (before ++ w ∷ []) now after
takes_in before whole slots w answers h now after g i b is long place = record {
  lists = g.lists ++ answers ∷ [];
  brings = brings_more before g.lists w answers g.brings i;
  parts = let p = ap (λ (x : Hand). x.parts) is in let q = ap (λ (x : Hand). x.parts) b.drew in let l = length-append before (w ∷ []) in let r = g.parts in omega arith;
  drew = λ x low.
      let low' : x < length slots = subst (λ n. x < n) long low in
      let e : times x now.drawn ≡ times x whole.drawn + times x h.drawn = ap (λ (y : Hand). times x y.drawn) is ∙ times_both x whole.drawn h.drawn in
      let d : times x h.drawn ≡ times x (map number_of answers) + times x (b.end ∷ []) = ap (λ (y : Hand). times x y.drawn) b.drew ∙ times_both x (map number_of answers) (b.end ∷ []) in
      let z : one_if (eqb b.end x) ≡ 0 = ap one_if (ne_eqb b.end x (λ q. let c = b.beyond in absurd (omega arith))) in
      let j : times x (map number_of (joined (g.lists ++ answers ∷ []))) ≡ times x (map number_of (joined g.lists)) + times x (map number_of answers) =
      ap (λ xs. times x (map number_of xs)) (joined_more g.lists answers) ∙ ap (times x) (map-append number_of (joined g.lists) answers) ∙ times_both x (map number_of (joined g.lists)) (map number_of answers) in
      let was = g.drew x low' in omega arith;
  beyond = inr (let p = ap (λ (x : Hand). x.ends) is in let q = ap (λ (x : Hand). x.ends) b.drew in omega arith);
  placed = subst (λ xs. Placed after xs) (sym (joined_more g.lists answers)) (place (joined g.lists) g.placed);
}

-- where the drawer with every part drew each number below n once, and n is above all numbers of documents, each document's number was drawn once
module _ (workers : List Worker) (whole : Hand) (slots : List (Option Reply)) (n : ℕ) (g : Gathered workers whole slots) (some : 0 < length workers)
    (once : (x : ℕ) → times x whole.drawn ≡ once_below x n) (all : 0 < whole.ends → length slots < n) where
  enough : length slots < n
  enough = all (⊎_elim (λ (none : workers ≡ []). let z = ap length none in absurd (omega arith)) (λ (ended : 0 < whole.ends). ended) g.beyond)

  once_each : (i : ℕ) → i < length slots → times i (map number_of (joined g.lists)) ≡ 1
  once_each i low = let more = enough in let o : once_below i n ≡ 1 = ap one_if (le-leb (suc i) n (omega arith)) in let d = g.drew i low in let c = once i in omega arith

  pub are_full : IsFull slots
  are_full = all_full slots (joined g.lists) g.placed once_each

  pub are_replies : (replies : List Reply) (count : ℕ) → slots ≡ map Some replies → length slots ≡ count → AreReplies count workers replies
  are_replies replies count is long = record {
    lists = g.lists;
    brings = g.brings;
    long = sym (length-map replies Some) ∙ ap length (sym is) ∙ long;
    once = λ i low. once_each i (omega arith);
    there = λ a at low. reply_at slots replies a.number a.reply is (g.placed.there a at (once_each a.number (omega arith)));
  }

-- at first nothing is taken in
pub nothing_gathered : (slots : List (Option Reply)) → Placed slots [] → Gathered [] (hand 1 [] 0) slots
nothing_gathered slots p = record { lists = []; brings = tt; parts = refl; drew = λ x low. refl; beyond = inl refl; placed = p }
