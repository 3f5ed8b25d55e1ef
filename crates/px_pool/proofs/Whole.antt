-- A batch as a whole.
use Rattle.std.proofs.Common.{◌≡◌, ℕ, zero, suc, ◌<◌, List, [], ◌∷◌, ◌++◌, map, length, refl, sym, ap, ◌∙◌, subst, arith}
use Rattle.std.proofs.lemmas.List.{map-append}
use Rattle.std.specs.Prelude.{slice_get, slice_index_or, Some, Result, Ok, Err, IfOk, IsOkAnd}
use Rattle.std.proofs.lemmas.Option.{slice_get_within}
use mathlib.Core.Logic.{inl, inr}
use Rattle.px_reader.specs.declared.doc.Doc.{Doc}
use Rattle.px_rule.specs.declared.shape.Shape.{Shape}
use Rattle.px_crew.specs.Crews.{AllReady, AllWorked}
use Rattle.px_crew.specs.Drawn.{WordName, times}
use Rattle.px_hub.specs.declared.reply.Reply.{Reply}
use Rattle.px_hub.specs.AllOfThem.{AreClosed}
use Rattle.px_hub.specs.Passes.{PassView}
use Rattle.px_hub.specs.Replying.{Stays}
use Rattle.px_pool.specs.declared.worker.Answer.{Answer}
use Rattle.px_pool.specs.declared.worker.Worker.{Worker}
use Rattle.px_pool.specs.Working.{Calls, IsFresh, Worked, WorkedIfClosed, number_of}
use Rattle.px_pool.specs.Placing.{Among, AllWithin}
use Rattle.px_pool.specs.Gathering.{Brought, AllBrought, Brings, joined, AreReplies}
use Rattle.px_pool.specs.Batches.{AllStay, AnswersAll, EachAnswers, all_numbers, Batched}

pub ok_then : {T E : Type 0} {P Q : T → Type 0} (r : Result T E) → IfOk r P → ((x : T) → P x → Q x) → IfOk r Q
ok_then (Ok x) h f = f x h
ok_then (Err e) h f = tt

ok_both : {T E : Type 0} {P Q : T → Type 0} {C : Type 0} (r : Result T E) → IsOkAnd r P → IfOk r Q → ((x : T) → P x → Q x → C) → C
ok_both (Ok x) h k f = f x h k
ok_both (Err e) h k f = absurd h

among_left : (a : Answer) (xs ys : List Answer) → Among a xs → Among a (xs ++ ys)
among_left a [] ys at = absurd at
among_left a (x ∷ xs) ys (inl is) = inl is
among_left a (x ∷ xs) ys (inr at) = inr (among_left a xs ys at)

among_right : (a : Answer) (xs ys : List Answer) → Among a ys → Among a (xs ++ ys)
among_right a [] ys at = at
among_right a (x ∷ xs) ys at = inr (among_right a xs ys at)

abbrev numbers_in : List (List Answer) → List (List ℕ)
numbers_in lists = map (map number_of) lists

numbers_joined : (lists : List (List Answer)) → all_numbers (numbers_in lists) ≡ map number_of (joined lists)
numbers_joined [] = refl
numbers_joined (l ∷ ls) = ap (λ ns. map number_of l ++ ns) (numbers_joined ls) ∙ sym (map-append number_of l (joined ls))

module _ (z : Shape) (docs : List Doc) where
  within : (v : PassView) (answers : List Answer) (w : PassView) → Calls z docs v answers w → AllWithin (length docs) answers
  within v [] w c = tt
  within v (a ∷ rest) w c = (slice_get_within docs a.number c.1.doc c.1.at, within c.0 rest w c.2)

  brought : (v : PassView) (a : Worker) (w : PassView) (b : Worker) → Worked z docs v a w b → IfOk b.outcome (λ answers. Brought (length docs) answers.items b.drawer.hand)
  brought v a w b h = ok_then b.outcome h.done (λ answers d. record { end = d.end; beyond = d.beyond; drew = d.drew; within = within v answers.items w d.calls })

  -- no call was open on any of the passes
  pub all_worked : (vs : List PassView) (starts : List Worker) (ws : List PassView) (ends : List Worker) → AreClosed vs → AllWorked (WorkedIfClosed z docs) vs starts ws ends → AllWorked (Worked z docs) vs starts ws ends
  all_worked [] [] [] [] c h = tt
  all_worked (v ∷ vs) (a ∷ starts) (w ∷ ws) (b ∷ ends) c h = (h.0 (c 0 v (omega arith)), all_worked vs starts ws ends (λ k d low. c (suc k) d (omega arith)) h.1)
  all_worked (v ∷ vs) [] ws ends c h = absurd h
  all_worked (v ∷ vs) (a ∷ starts) [] ends c h = absurd h
  all_worked (v ∷ vs) (a ∷ starts) (w ∷ ws) [] c h = absurd h
  all_worked [] (a ∷ starts) ws ends c h = absurd h
  all_worked [] [] (w ∷ ws) ends c h = absurd h
  all_worked [] [] [] (b ∷ ends) c h = absurd h

  pub all_stay : (vs : List PassView) (starts : List Worker) (ws : List PassView) (ends : List Worker) → AllWorked (Worked z docs) vs starts ws ends → AllStay vs ws
  all_stay [] [] [] [] h = record { as_many = refl; each = λ k d low. absurd (omega arith) }
  all_stay (v ∷ vs) (a ∷ starts) (w ∷ ws) (b ∷ ends) h =
      let rest = all_stay vs starts ws ends h.1 in
      record { as_many = ap suc rest.as_many; each = each rest }
    where
      each : AllStay vs ws → (k : ℕ) (d : PassView) → k < length (v ∷ vs) → Stays (slice_index_or (v ∷ vs) k d) (slice_index_or (w ∷ ws) k d)
      each rest zero d low = h.0.left.stays
      each rest (suc k) d low = rest.each k d (omega arith)
  all_stay (v ∷ vs) [] ws ends h = absurd h
  all_stay (v ∷ vs) (a ∷ starts) [] ends h = absurd h
  all_stay (v ∷ vs) (a ∷ starts) (w ∷ ws) [] h = absurd h
  all_stay [] (a ∷ starts) ws ends h = absurd h
  all_stay [] [] (w ∷ ws) ends h = absurd h
  all_stay [] [] [] (b ∷ ends) h = absurd h

  pub all_brought : (draws : WordName) (vs : List PassView) (starts : List Worker) (ws : List PassView) (ends : List Worker) → AllReady (IsFresh draws) starts → AllWorked (Worked z docs) vs starts ws ends → AllBrought draws (length docs) ends
  all_brought draws [] [] [] [] f h = tt
  all_brought draws (v ∷ vs) (a ∷ starts) (w ∷ ws) (b ∷ ends) f h = ((h.0.left.table ∙ f.0.0, brought v a w b h.0), all_brought draws vs starts ws ends f.1 h.1)
  all_brought draws (v ∷ vs) [] ws ends f h = absurd h
  all_brought draws (v ∷ vs) (a ∷ starts) [] ends f h = absurd h
  all_brought draws (v ∷ vs) (a ∷ starts) (w ∷ ws) [] f h = absurd h
  all_brought draws [] (a ∷ starts) ws ends f h = absurd h
  all_brought draws [] [] (w ∷ ws) ends f h = absurd h
  all_brought draws [] [] [] (b ∷ ends) f h = absurd h

  module _ (replies : List Reply) where
    -- the reply of each of these answers stands at its number
    abbrev Stand : List Answer → Type 0
    Stand answers = (a : Answer) → Among a answers → a.number < length docs → slice_get replies a.number ≡ Some a.reply

    answers_of : (v : PassView) (answers : List Answer) (w : PassView) → Calls z docs v answers w → Stand answers → AnswersAll z docs replies v (map number_of answers) w
    answers_of v [] w c there = c
    answers_of v (a ∷ rest) w c there =
        (c.0, a.reply, there a (inl refl) (slice_get_within docs a.number c.1.doc c.1.at), c.1, answers_of c.0 rest w c.2 (λ b at. there b (inr at)))

    one_answers : (v : PassView) (a : Worker) (w : PassView) (b : Worker) (answers : List Answer) → IsOkAnd b.outcome (λ x. x.items ≡ answers) → Worked z docs v a w b → Stand answers → AnswersAll z docs replies v (map number_of answers) w
    one_answers v a w b answers fine h there =
        ok_both b.outcome fine h.done (λ x same d. answers_of v answers w (subst (λ (xs : List Answer). Calls z docs v xs w) same d.calls) there)

    each_answers : (vs : List PassView) (starts : List Worker) (ws : List PassView) (ends : List Worker) (lists : List (List Answer)) → AllWorked (Worked z docs) vs starts ws ends → Brings ends lists → Stand (joined lists)
        → EachAnswers z docs replies vs (numbers_in lists) ws
    each_answers [] [] [] [] [] h br there = tt
    each_answers (v ∷ vs) (a ∷ starts) (w ∷ ws) (b ∷ ends) (l ∷ ls) h br there =
        (one_answers v a w b l br.0 h.0 (λ x at. there x (among_left x l (joined ls) at)), each_answers vs starts ws ends ls h.1 br.1 (λ x at. there x (among_right x l (joined ls) at)))
    each_answers [] [] [] [] (l ∷ ls) h br there = absurd br
    each_answers (v ∷ vs) (a ∷ starts) (w ∷ ws) (b ∷ ends) [] h br there = absurd br
    each_answers (v ∷ vs) [] ws ends lists h br there = absurd h
    each_answers (v ∷ vs) (a ∷ starts) [] ends lists h br there = absurd h
    each_answers (v ∷ vs) (a ∷ starts) (w ∷ ws) [] lists h br there = absurd h
    each_answers [] (a ∷ starts) ws ends lists h br there = absurd h
    each_answers [] [] (w ∷ ws) ends lists h br there = absurd h
    each_answers [] [] [] (b ∷ ends) lists h br there = absurd h

    pub batched : (vs : List PassView) (starts : List Worker) (ws : List PassView) (ends : List Worker) → AllWorked (Worked z docs) vs starts ws ends → AreReplies (length docs) ends replies → Batched z docs vs replies ws
    batched vs starts ws ends h r = record {
      numbers = numbers_in r.lists;
      answers = each_answers vs starts ws ends r.lists h r.brings r.there;
      once = λ i low. ap (times i) (numbers_joined r.lists) ∙ r.once i low;
      long = r.long;
    }

-- there are as many workers as before
pub as_many : {P W : Type 0} (R : P → W → P → W → Type 0) (vs : List P) (starts : List W) (ws : List P) (ends : List W) → AllWorked R vs starts ws ends → length ends ≡ length starts
as_many R [] [] [] [] h = refl
as_many R (v ∷ vs) (a ∷ starts) (w ∷ ws) (b ∷ ends) h = ap suc (as_many R vs starts ws ends h.1)
as_many R (v ∷ vs) [] ws ends h = absurd h
as_many R (v ∷ vs) (a ∷ starts) [] ends h = absurd h
as_many R (v ∷ vs) (a ∷ starts) (w ∷ ws) [] h = absurd h
as_many R [] (a ∷ starts) ws ends h = absurd h
as_many R [] [] (w ∷ ws) ends h = absurd h
as_many R [] [] [] (b ∷ ends) h = absurd h

-- where no call was open on any of the passes
module _ (z : Shape) (docs : List Doc) (vs : List PassView) (starts : List Worker) (ws : List PassView) (ends : List Worker) (closed : AreClosed vs) (worked : AllWorked (WorkedIfClosed z docs) vs starts ws ends) where
  pub closed_stay : AllStay vs ws
  closed_stay = all_stay z docs vs starts ws ends (all_worked z docs vs starts ws ends closed worked)

  pub closed_brought : (draws : WordName) → AllReady (IsFresh draws) starts → AllBrought draws (length docs) ends
  closed_brought draws fresh = all_brought z docs draws vs starts ws ends fresh (all_worked z docs vs starts ws ends closed worked)

  pub closed_batched : (replies : List Reply) → AreReplies (length docs) ends replies → Batched z docs vs replies ws
  closed_batched replies r = batched z docs replies vs starts ws ends (all_worked z docs vs starts ws ends closed worked) r
