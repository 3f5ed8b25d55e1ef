-- A call ends with its reply.
use Rattle.std.proofs.Common.{◌≡◌, ◌⊎◌, inl, inr, ℕ, ◌+◌, ◌<◌, true, false, List, [], ◌∷◌, ◌++◌, length, Option, Some, None, take, Result, Ok, Err, refl, sym, ap, ◌∙◌, subst, arith}
use Rattle.std.specs.Prelude.{IfOk, OnErr, ◌^◌}
use Rattle.std.specs.Arc.{arc_value}
use Rattle.std.proofs.lemmas.List.{append-nil}
use Rattle.std.proofs.lemmas.List.Elements.{All-weaker}
use Rattle.px_text.specs.Nodes.{Root}
use Rattle.px_reader.specs.declared.event.Event.{Event}
use Rattle.px_reader.specs.Spelling.{events_of}
use Rattle.px_xpath.specs.declared.numbered.Numbered.{Numbered}
use Rattle.px_xpath.specs.Histories as histories
use Rattle.px_xpath.specs.Histories.{live, matches}
use Rattle.px_xpath.specs.Subscribed.{subscriptions}
use Rattle.px_afa.specs.Accepting.{HaveSteps}
use Rattle.px_afa.specs.Building.{Automata, program}
use Rattle.px_afa.specs.Sound.{AreProper}
use Rattle.px_afa.specs.Steps.{Step, run, run_of, steps_of}
use Rattle.px_afa.proofs.Soundness.{have-steps}
use Rattle.px_runner.proofs.Fed.{tree-steps}
use Rattle.px_workload.specs.declared.change.Change.{Change}
use Rattle.px_workload.specs.Changes.{history}
use Rattle.px_rule.specs.declared.shape.Shape.{Shape}
use Rattle.px_rule.specs.declared.view.Found.{Found}
use Rattle.px_rule.specs.declared.view.Past.{Past}
use Rattle.px_rule.specs.declared.view.Place.TheVariants.{Outside, Inside}
use Rattle.px_rule.specs.declared.view.Stay.{Stay}
use Rattle.px_rule.specs.declared.view.View.{View}
use Rattle.px_rule.specs.Kept.{IsAt, Since, Wrote}
use Rattle.px_rule.specs.Table.{TableName, Seated, bank_in, version_in}
use Rattle.px_rule.specs.Words.{shows}
use Rattle.px_call.specs.declared.tally.Tally.{Tally}
use Rattle.px_call.specs.Calls.{Call, HasFiltered, CountsAt, sets_held, steps_brought}
use Rattle.px_call.specs.Counted.{Counts, WordOf}
use Rattle.px_call.specs.Laws.{AddUp, SettledKeeps, FullOwns, HeldInRun, CountsMove, WritesOfRun, KnowTheSame}
use Rattle.px_call.specs.Memory.{IsProgramAt}
use Rattle.px_hub.specs.declared.at_version.AtVersion.{AtVersion}
use Rattle.px_hub.specs.declared.home.Home.TheVariants as home
use Rattle.px_hub.specs.declared.reply.Reply.{Reply}
use Rattle.px_hub.specs.declared.reply.Why.{Why}
use Rattle.px_hub.specs.declared.reply.Why.TheVariants.{Unsettled, NoBank, Gone, Full, Settled}
use Rattle.px_hub.specs.declared.lone.Lone.{Lone}
use Rattle.px_hub.specs.declared.engine.Engine.{Engine}
use Rattle.px_hub.specs.declared.engine.Engine.TheVariants.{Private, Shared}
use Rattle.px_hub.specs.Entries.{IsRight}
use Rattle.px_hub.specs.Passes.{PassView, pass_view, AreLiveBehind, IsBuilt}
use Rattle.px_hub.specs.Replying.{SamePass, Stays, NoneServes, BankServes, MadeBy, WroteOf, Replies, reached, program_of, history_of, tally_of}
use Rattle.px_hub.specs.OpenCalls.{entered_at, seated, HasLeft, HasTaken, IsInsideOrNot, CountSteps, closed, left, why_of, answer_of, answer_alone}
use Rattle.px_hub.specs.Counting.{HasCounted}
use Rattle.px_hub.proofs.Adding.{take_whole}
use Rattle.px_hub.proofs.Opening.{compiled_of, program_at}

are_proper : (filters : List Numbered) → AreProper (subscriptions filters)
are_proper [] = tt
are_proper (x ∷ filters) = (x.filter.proper, are_proper filters)

-- each live filter has a step
pub live_steps : (seen : List Change) (filters : List Numbered) → AreLiveBehind seen filters → HaveSteps (live (history seen))
live_steps seen filters h = subst HaveSteps h (have-steps (subscriptions filters) (are_proper filters))

-- nothing was written
wrote_nothing : (z : Shape) (v w : PassView) (root : Root) → w.view.touch ≡ v.view.touch → WroteOf z v w root
wrote_nothing z v w root same = record { words = []; since = ap (λ t. t.wrote) same; each = λ k d low. absurd (omega arith) }

-- each word of a call at the bank of the pass
wrote_at : (z : Shape) (v w : PassView) (root : Root) (bank : ℕ) → v.home ≡ home.Bank bank → Wrote (IsAt bank (reached v) (WordOf IsRight z bank (reached v) w.view (run (history_of v) root) [])) v.view w.view → WroteOf z v w root
wrote_at z v w root bank home_is h = record {
  words = h.words;
  since = h.since;
  each = All-weaker (IsAt bank (reached v) (WordOf IsRight z bank (reached v) w.view (run (history_of v) root) []))
      (λ f. (k : ℕ) × (v.home ≡ home.Bank k) × IsAt k (reached v) (WordOf IsRight z k (reached v) w.view (run (history_of v) root) []) f) (λ f i. (bank, home_is, i)) h.words h.each;
}

made_alone : (z : Shape) (v w : PassView) (root : Root) (own : ℕ) (why : Why) → NoneServes v w why → w.view.touch ≡ v.view.touch → MadeBy z v w root 0 0 own why
made_alone z v w root own (Unsettled have) cause touch = (cause, touch, refl, refl)
made_alone z v w root own (NoBank words) cause touch = (cause, touch, refl, refl)
made_alone z v w root own (Gone word) cause touch = (cause, touch, refl, refl)
made_alone z v w root own (Full word) cause touch = absurd cause
made_alone z v w root own Settled cause touch = absurd cause

none_closed : (v u : PassView) (why : Why) → NoneServes v u why → NoneServes v (closed u) why
none_closed v u (Unsettled have) h = h
none_closed v u (NoBank words) h = h
none_closed v u (Gone word) h = h
none_closed v u (Full word) h = h
none_closed v u Settled h = h

-- the reply of a call that nobody served
pub alone_replies : (table : TableName) (v p : PassView) (root : Root) (lone : Lone) (why : Why) (version number own : ℕ) (ids : List ℕ) → HasTaken table v p (Private lone why) (events_of root) → version ≡ reached p → number ≡ p.number
    → ids ≡ matches (history_of v) root → own ≡ steps_of (history_of v) root
    → Replies table.shape v (closed p) root (record { version = version; pass = number; ids = ids; found = 0; computed = 0; own = own; why = why })
alone_replies table v p root lone why version number own ids h version_is number_is ids_are own_is =
    let s = h.serves in
    let m = h.opened.same in
    record {
      stays = record { same = record { number = m.number; past = m.past; have = m.have; home = m.home; since = m.since }; closed = refl; outside = s.outside };
      version = version_is ∙ ap (λ (x : Past Change). length x.seen) m.past;
      pass = number_is ∙ m.number;
      ids = ids_are;
      all_steps = let same = own_is in omega arith;
      wrote = wrote_nothing table.shape v (closed p) root s.touch;
      made_by = made_alone table.shape v (closed p) root own why (none_closed v p why s.cause) s.touch;
    }

-- what a call over the bank of the pass leaves, once it has left the bank
pub record Ended (table : TableName) (v : PassView) (w : View Change) (call : Call Change) (tally : Tally) (root : Root) : Type 0 where
  pub left : HasLeft call.began.view w
  pub stay : w.stay ≡ record call.began.view.stay { place = Outside }
  pub counts : CountsAt IsRight call.began.table.shape (bank_in call.began.view.stay.place) (version_in call.began.view.stay.place) (program_of v) v.view w tally (events_of root)

-- the pass before the call knows the same of the history and of places as when it had entered
pub began_same : (table : TableName) (v p : PassView) (call : Call Change) (root : Root) → HasTaken table v p (Shared call) (events_of root) → KnowTheSame v.view call.began.view
began_same table v p call root h = let e = h.serves.began in (ap (λ (s : Seated Change). s.view.past) e, ap (λ (s : Seated Change). s.view.touch) e)

module _ (add_up : AddUp IsRight) (settled : SettledKeeps IsRight) (full : FullOwns IsRight) (held : HeldInRun) (words : WritesOfRun IsRight) where
  -- by whom the steps were made
  made : (z : Shape) (v w : PassView) (root : Root) (found computed own : ℕ) (first : Option ℕ) → BankServes z v w root (tally_of found computed own first) → MadeBy z v w root found computed own (why_of first)
  made z v w root found computed own None b =
      let sets = sets_held (program_of v) (events_of root) in
      (b, (settled z b.bank (reached v) v.view w.view (tally_of found computed own None) (run (history_of v) root) sets b.counts refl).0)
  made z v w root found computed own (Some word) b =
      let sets = sets_held (program_of v) (events_of root) in
      (b, full z b.bank (reached v) v.view w.view (tally_of found computed own (Some word)) (run (history_of v) root) sets (held (program_of v) root) b.counts word refl)

  -- the reply of a call over the bank of the pass
  pub inside_replies : (table : TableName) (v p : PassView) (w : View Change) (root : Root) (call : Call Change) (tally : Tally) (version number : ℕ) (ids : List ℕ) → HasTaken table v p (Shared call) (events_of root) → Ended table v w call tally root
      → version ≡ reached p → number ≡ p.number → ids ≡ matches (history_of v) root
      → Replies table.shape v (pass_view p.number w p.have p.home false) root
      (record { version = version; pass = number; ids = ids; found = tally.found; computed = tally.computed; own = tally.own; why = why_of tally.full })
  inside_replies table v p w root call tally version number ids h e version_is number_is ids_are =
      let s = h.serves in
      let m = h.opened.same in
      let z : Shape = table.shape in
      let n : ℕ = reached v in
      let q : PassView = pass_view p.number w p.have p.home false in
      let automata : Automata = program_of v in
      let sets = sets_held automata (events_of root) in
      let entered : View Change = entered_at s.bank n s.word v.view in
      let left : HasLeft entered w = subst (λ (x : Seated Change). HasLeft x.view w) s.began e.left in
      let stay : w.stay ≡ record entered.stay { place = Outside } = e.stay ∙ ap (λ (x : Seated Change). record x.view.stay { place = Outside }) s.began in
      let at : CountsAt IsRight z s.bank n automata v.view w tally (events_of root) =
      subst (λ (x : Seated Change). CountsAt IsRight x.table.shape (bank_in x.view.stay.place) (version_in x.view.stay.place) automata v.view w tally (events_of root)) s.began e.counts in
      let counts : Counts IsRight z s.bank n v.view w tally (run (history_of v) root) sets =
      subst (λ (steps : List Step). Counts IsRight z s.bank n v.view w tally steps sets) (tree-steps automata root) at in
      let serves : BankServes z v q root tally = record {
        have = s.have;
        bank = s.bank;
        home = s.home;
        word = s.word;
        entered = (ap (λ (x : Stay). x.enters) stay, ap (λ (x : Stay). x.found) stay);
        stood = s.stood;
        counts = counts;
      } in
      let wrote = words z s.bank n automata v.view w tally (events_of root) [] root (sym (append-nil (events_of root))) at in
      record {
        stays = record {
          same = record { number = m.number; past = left.past; have = m.have; home = m.home; since = λ k. let l : Since k entered w = left.since k in record { seen = l.seen; more = l.more; kept = l.kept; touched = l.touched; more_gaps = l.more_gaps; gaps = l.gaps } };
          closed = refl;
          outside = e.left.place;
        };
        version = version_is ∙ ap (λ (x : Past Change). length x.seen) m.past;
        pass = number_is ∙ m.number;
        ids = ids_are;
        all_steps = add_up z s.bank n v.view w tally (run (history_of v) root) sets counts;
        wrote = wrote_at z v q root s.bank s.home wrote;
        made_by = made z v q root tally.found tally.computed tally.own tally.full serves;
      }

-- what a call has written, when it has left its bank, is of every tree that its events begin
pub wrote_left : CountsMove IsRight → WritesOfRun IsRight → (table : TableName) (v p : PassView) (call : Call Change) (given rest : List Event) (root : Root) → HasTaken table v p (Shared call) given → events_of root ≡ given ++ rest
    → WroteOf table.shape v (left p) root
wrote_left move words table v p call given rest root h is =
    let s = h.serves in
    let n : ℕ = reached v in
    let automata : Automata = program_of v in
    let entered : View Change = entered_at s.bank n s.word v.view in
    let w : View Change = (left p).view in
    let inside : CountsAt IsRight table.shape s.bank n automata entered p.view call.tally given =
    subst (λ (x : Seated Change). CountsAt IsRight x.table.shape (bank_in x.view.stay.place) (version_in x.view.stay.place) automata x.view p.view call.tally given) s.began s.filtered.counts in
    let at : CountsAt IsRight table.shape s.bank n automata v.view w call.tally given =
    move table.shape s.bank n v.view entered p.view w call.tally (steps_brought automata given) (sets_held automata given) (refl, refl) (refl, refl) inside in
    wrote_at table.shape v (left p) root s.bank s.home (words table.shape s.bank n automata v.view w call.tally given rest root is at)

-- a call that nobody serves has written nothing
pub wrote_alone : (table : TableName) (v p : PassView) (root : Root) (lone : Lone) (why : Why) (given : List Event) → HasTaken table v p (Private lone why) given → WroteOf table.shape v (closed p) root
wrote_alone table v p root lone why given h = wrote_nothing table.shape v (closed p) root h.serves.touch

-- where the pass of an open call is
pub is_inside_or_not : (table : TableName) (v p : PassView) (e : Engine) (given : List Event) → HasTaken table v p e given → IsInsideOrNot v p
is_inside_or_not table v p (Private lone why) given h = inr (why, h.serves.cause)
is_inside_or_not table v p (Shared call) given h =
    let s = h.serves in
    let place : p.view.stay.place ≡ Inside s.bank (reached v) = ap (λ (x : Stay). x.place) s.filtered.grew.stay ∙ ap (λ (x : Seated Change). x.view.stay.place) s.began in
    inl (s.have, (s.bank, s.home, place))

-- the counts of an open call
pub counts_steps : AddUp IsRight → (table : TableName) (v p : PassView) (e : Engine) (given : List Event) → HasTaken table v p e given → CountSteps v e given
counts_steps add_up table v p (Private lone why) given h = let steps = h.serves.counted.steps in omega arith
counts_steps add_up table v p (Shared call) given h =
    let s = h.serves in
    let b = call.began in
    let automata : Automata = program_of v in
    add_up b.table.shape (bank_in b.view.stay.place) (version_in b.view.stay.place) b.view p.view call.tally (steps_brought automata given) (sets_held automata given) s.filtered.counts

-- a pass of a call that nobody served, once that is closed
pub stays_closed : (v p : PassView) → SamePass v p → p.view.stay.place ≡ Outside → Stays v (closed p)
stays_closed v p m outside = record { same = record { number = m.number; past = m.past; have = m.have; home = m.home; since = m.since }; closed = refl; outside = outside }

-- and of one that its bank served, once that is left
pub stays_behind : (v p : PassView) → SamePass v p → Stays v (left p)
stays_behind v p m = record {
  same = record { number = m.number; past = m.past; have = m.have; home = m.home; since = λ n. let s : Since n v.view p.view = m.since n in record { seen = s.seen; more = s.more; kept = s.kept; touched = s.touched; more_gaps = s.more_gaps; gaps = s.gaps } };
  closed = refl;
  outside = refl;
}

-- the seat of a call that has left its bank: it knows the same of the history and of stays as when the pass was inside
pub moved_out : (table : TableName) (v p : PassView) (w : View Change) (call : Call Change) (given : List Event) → HasTaken table v p (Shared call) given → HasLeft call.began.view w → w.stay ≡ record call.began.view.stay { place = Outside }
    → (w.past ≡ p.view.past) × (w.stay.stays ≡ p.view.stay.stays) × (w.stay.busy ≡ p.view.stay.busy) × (w.stay.place ≡ Outside)
moved_out table v p w call given h out stay =
    let g = h.serves.filtered.grew in (
      out.past ∙ sym g.past,
      ap (λ (s : Stay). s.stays) stay ∙ sym (ap (λ (s : Stay). s.stays) g.stay),
      ap (λ (s : Stay). s.busy) stay ∙ sym (ap (λ (s : Stay). s.busy) g.stay),
      out.place,
    )

-- what the call has, over the seat itself
pub filtered_at : (table : TableName) (v p : PassView) (seat : Seated Change) (call : Call Change) (given : List Event) (compiled : Automata) → seat ≡ seated table p.view → HasTaken table v p (Shared call) given → compiled ≡ program_of v
    → HasFiltered IsRight compiled call.began seat call given
filtered_at table v p seat call given compiled seat_is h is =
    subst (λ (x : Automata × Seated Change). HasFiltered IsRight x.0 call.began x.1 call given) (λ i. (sym is i, sym seat_is i)) h.serves.filtered

module _ (add_up : AddUp IsRight) (settled : SettledKeeps IsRight) (full : FullOwns IsRight) (held : HeldInRun) (words : WritesOfRun IsRight) where
  -- the answer of a call over the bank of the pass
  pub inside_answers : {E : Type 0} (table : TableName) (v p : PassView) (seat : Seated Change) (w : View Change) (root : Root) (call : Call Change) (compiled : Automata) (filters : List Numbered) (version number : ℕ) (done : Result (List ℕ × Tally) E)
      → seat ≡ seated table p.view → compiled ≡ program_of v → AreLiveBehind p.view.past.seen filters → HasTaken table v p (Shared call) (events_of root) → HasLeft call.began.view w → w.stay ≡ record call.began.view.stay { place = Outside }
      → version ≡ reached p → number ≡ p.number
      → IfOk done (λ r. (log : List histories.Change) (root : Root) → compiled ≡ program log → HaveSteps (live log) → HasFiltered IsRight compiled call.began seat call (events_of root) → r.0 ≡ matches log root)
      → IfOk done (λ r. (root : Root) (before : View Change) → length (events_of root) < 2 ^ 60 → HasFiltered IsRight compiled call.began seat call (events_of root) → KnowTheSame before call.began.view
      → CountsAt IsRight call.began.table.shape (bank_in call.began.view.stay.place) (version_in call.began.view.stay.place) compiled before w r.1 (events_of root))
      → IfOk (answer_of version number done) (λ reply. Replies table.shape v (pass_view p.number w p.have p.home false) root reply)
  inside_answers table v p seat w root call compiled filters version number (Err e) seat_is is live_is h out stay version_is number_is ids counts = tt
  inside_answers table v p seat w root call compiled filters version number (Ok r) seat_is is live_is h out stay version_is number_is ids counts =
      let f = filtered_at table v p seat call (events_of root) compiled seat_is h is in
      let steps = subst (λ (x : Past Change). HaveSteps (live (history x.seen))) h.opened.same.past (live_steps p.view.past.seen filters live_is) in
      let counted = counts root v.view h.few f (began_same table v p call root h) in
      let ended : Ended table v w call r.1 root = record {
        left = out;
        stay = stay;
        counts = subst (λ (x : Automata). CountsAt IsRight call.began.table.shape (bank_in call.began.view.stay.place) (version_in call.began.view.stay.place) x v.view w r.1 (events_of root)) is counted;
      } in
      inside_replies add_up settled full held words table v p w root call r.1 version number r.0 h ended version_is number_is (ids (history_of v) root is steps f)

-- the answer of a call that nobody served
pub alone_answers : {E : Type 0} (table : TableName) (v p : PassView) (root : Root) (lone : Lone) (why : Why) (filters : List Numbered) (version number : ℕ) (done : Result (List ℕ × ℕ) E) → AreLiveBehind p.view.past.seen filters
    → HasTaken table v p (Private lone why) (events_of root) → version ≡ reached p → number ≡ p.number
    → IfOk done (λ r. (history : List histories.Change) (root : Root) → HaveSteps (live history) → HasCounted lone (program history) (events_of root) → r.0 ≡ matches history root)
    → IfOk done (λ r. (history : List histories.Change) (root : Root) → HasCounted lone (program history) (events_of root) → r.1 ≡ steps_of history root)
    → IfOk (answer_alone version number why done) (λ reply. Replies table.shape v (closed p) root reply)
alone_answers table v p root lone why filters version number (Err e) live_is h version_is number_is ids own = tt
alone_answers table v p root lone why filters version number (Ok r) live_is h version_is number_is ids own =
    let steps = subst (λ (x : Past Change). HaveSteps (live (history x.seen))) h.opened.same.past (live_steps p.view.past.seen filters live_is) in
    alone_replies table v p root lone why version number r.1 r.0 h version_is number_is (ids (history_of v) root steps h.serves.counted) (own (history_of v) root h.serves.counted)

-- what holds of an answer for all documents
pub ok_of_all : {A E : Type 0} (P : PassView → Root → A → Type 0) (Q : PassView → Root → Type 0) (r : Result A E) → ((v : PassView) (root : Root) → Q v root → IfOk r (P v root)) → IfOk r (λ a. (v : PassView) (root : Root) → Q v root → P v root a)
ok_of_all P Q (Ok a) h = h
ok_of_all P Q (Err e) h = tt

pub err_alone : {E : Type 0} (P : Type 0) (version number : ℕ) (why : Why) (done : Result (List ℕ × ℕ) E) → P → OnErr (answer_alone version number why done) P
err_alone P version number why (Ok r) p = tt
err_alone P version number why (Err e) p = p

pub err_inside : {E : Type 0} (P : Type 0) (version number : ℕ) (done : Result (List ℕ × Tally) E) → P → OnErr (answer_of version number done) P
err_inside P version number (Ok r) p = tt
err_inside P version number (Err e) p = p

-- a pass that has left the bank that served its call
pub stays_out : (table : TableName) (v p : PassView) (w : View Change) (call : Call Change) (given : List Event) → HasTaken table v p (Shared call) given → HasLeft call.began.view w → Stays v (pass_view p.number w p.have p.home false)
stays_out table v p w call given h out =
    let m = h.opened.same in
    let entered : View Change = entered_at h.serves.bank (reached v) h.serves.word v.view in
    let l : HasLeft entered w = subst (λ (x : Seated Change). HasLeft x.view w) h.serves.began out in
    record {
      same = record { number = m.number; past = l.past; have = m.have; home = m.home; since = λ n. let s : Since n entered w = l.since n in record { seen = s.seen; more = s.more; kept = s.kept; touched = s.touched; more_gaps = s.more_gaps; gaps = s.gaps } };
      closed = refl;
      outside = out.place;
    }
