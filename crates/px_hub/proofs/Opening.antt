-- A pass whose seat has moved, and a call that begins on it and goes on.
use Rattle.std.proofs.Common.{◌≡◌, ℕ, zero, suc, ◌+◌, ◌<◌, ◌≤◌, ◌^◌, Bool, true, false, List, [], ◌∷◌, ◌++◌, take, length, Some, slice_get, Result, Ok, Err, refl, sym, ap, ◌∙◌, subst, arith}
use Rattle.std.specs.Prelude.{OnOk, IfOk}
use mathlib.Core.Option.{some}
use lib.ListN.{get_elem?}
use Rattle.std.proofs.lemmas.List.{take_more}
use Rattle.std.proofs.lemmas.Option.{slice_get_within, get_or_from_slice_get}
use Rattle.std.specs.Arc.{arc_value}
use Rattle.px_reader.specs.declared.event.Event.{Event}
use Rattle.px_xpath.specs.declared.numbered.Numbered.{Numbered}
use Rattle.px_afa.specs.Building.{Automata, program}
use Rattle.px_workload.specs.declared.change.Change.{Change}
use Rattle.px_workload.specs.Changes.{history}
use Rattle.px_rule.specs.declared.view.Past.{Past}
use Rattle.px_rule.specs.declared.view.Place.{Place}
use Rattle.px_rule.specs.declared.view.Place.TheVariants.{Outside, Inside}
use Rattle.px_rule.specs.declared.view.Stay.{Stay}
use Rattle.px_rule.specs.declared.view.View.{View}
use Rattle.px_rule.specs.Histories.{named}
use Rattle.px_rule.specs.Kept.{Grew, Since}
use Rattle.px_rule.specs.Table.{TableName, Seated, is_in, version_in}
use Rattle.px_rule.specs.Words.{shows, version_of}
use Rattle.px_rule.proofs.Since.{since_grew, since_trans, since_idle}
use Rattle.px_banks.specs.Answers.{missed}
use Rattle.px_call.specs.Calls.{Call, HasFiltered}
use Rattle.px_call.specs.Memory.{IsProgramAt}
use Rattle.px_hub.specs.declared.at_version.AtVersion.{AtVersion}
use Rattle.px_hub.specs.declared.home.Home.{Home}
use Rattle.px_hub.specs.declared.home.Home.TheVariants as home
use Rattle.px_hub.specs.declared.reply.Why.{Why}
use Rattle.px_hub.specs.declared.reply.Why.TheVariants.{Unsettled, NoBank, Gone, Full, Settled}
use Rattle.px_hub.specs.declared.lone.Lone.{Lone}
use Rattle.px_hub.specs.declared.engine.Engine.{Engine}
use Rattle.px_hub.specs.declared.engine.Engine.TheVariants.{Private, Shared}
use Rattle.px_hub.specs.declared.entrance.Entrance.{Entrance}
use Rattle.px_hub.specs.declared.entrance.Entrance.TheVariants as entrance
use Rattle.px_hub.specs.Entries.{who_of, IsRight}
use Rattle.px_hub.specs.Passes.{PassView, pass_view, IsSeen, AreLiveBehind, IsBuilt, IsHome, IsPass}
use Rattle.px_hub.specs.Replying.{SamePass, Stays, NoneServes, reached, program_of}
use Rattle.px_hub.specs.Counting.{HasCounted}
use Rattle.px_hub.specs.OpenCalls.{entered_at, seated, HasLeft, EntranceGives, ServesItself, IsServed, Serves, StandsAs, IsOpen, HasTaken, opened, BeginsAlone, Has, IsFor, IsAlike, MayGrow}
use Rattle.px_hub.proofs.Adding.{take_whole}
use Rattle.px_hub.proofs.Keeping.{home_grows}

-- a pass whose seat knows the same of the history, and perhaps more of stays
pub pass_moves : (table at at' : TableName) (passes version : ℕ) (filters : List Numbered) (c : AtVersion) (p : PassView) (w : View Change) (is_open : Bool) (front : List (ℕ × ℕ)) → IsPass table passes at version filters c p → at' ≡ table
    → w.past ≡ p.view.past → w.stay.stays ≡ front ++ p.view.stay.stays → w.stay.busy ≡ p.view.stay.busy → (is_open ≡ false → w.stay.place ≡ Outside)
    → IsPass table passes at' version filters c (pass_view p.number w p.have p.home is_open)
pass_moves table at at' passes version filters c p w is_open front i at_is past stays busy outside = record {
  at_table = at_is;
  kind = ap (λ (x : Past Change). x.kind) past ∙ i.kind;
  below = i.below;
  own = subst (λ (x : Past Change). named who_of p.number x.seen ≡ x.mine) (sym past) i.own;
  seen = subst (λ (x : Past Change). IsSeen passes x.seen) (sym past) i.seen;
  version_is = i.version_is ∙ ap (λ (x : Past Change). length x.seen) (sym past);
  live = subst (λ (x : Past Change). AreLiveBehind x.seen filters) (sym past) i.live;
  built = subst (λ (x : Past Change). IsBuilt x.seen c) (sym past) i.built;
  home = home_grows table.shape.banks p.number p.have p.view w p.home front [] stays busy i.home;
  outside = outside;
}

-- a pass whose call is opened or closed, with its seat as it was
pub pass_opens : (table at : TableName) (passes version : ℕ) (filters : List Numbered) (c : AtVersion) (p : PassView) (is_open : Bool) → IsPass table passes at version filters c p → (is_open ≡ false → p.view.stay.place ≡ Outside)
    → IsPass table passes at version filters c (pass_view p.number p.view p.have p.home is_open)
pass_opens table at passes version filters c p is_open i outside = record {
  at_table = i.at_table;
  kind = i.kind;
  below = i.below;
  own = i.own;
  seen = i.seen;
  version_is = i.version_is;
  live = i.live;
  built = i.built;
  home = i.home;
  outside = outside;
}

-- the program of a pass that has that of its version
pub program_is : (seen : List Change) (c : AtVersion) → c.version ≡ length seen → IsBuilt seen c → (arc_value c.program ≡ program (history seen)) × (arc_value c.compiled ≡ program (history seen))
program_is seen c version k =
    let whole : take c.version seen ≡ seen = ap (λ (n : ℕ). take n seen) version ∙ take_whole seen in
    let same = ap (λ l. program (history l)) whole in
    (k.program ∙ same, k.compiled ∙ same)

-- the bank of a pass is one of the hub's, at which the pass was told that it stood
pub bank_is : (banks number n : ℕ) (v : View Change) (h : Home) (k : ℕ) → h ≡ home.Bank k → IsHome banks number n v h → IsHome banks number n v (home.Bank k)
bank_is banks number n v h k e i = subst (λ (x : Home). IsHome banks number n v x) e i

pub same_pass : (v : PassView) (is_open : Bool) → SamePass v (pass_view v.number v.view v.have v.home is_open)
same_pass v is_open = record { number = refl; past = refl; have = refl; home = refl; since = λ n. since_idle n v.view v.view refl refl }

-- a pass with no call open stays as it is
pub stays_same : (v : PassView) → v.is_open ≡ false → v.view.stay.place ≡ Outside → Stays v v
stays_same v closed outside = record { same = same_pass v v.is_open; closed = closed; outside = outside }

-- behind a bank that was left a pass stays as it was
pub stays_left : (v : PassView) (w : View Change) (is_open : Bool) → is_open ≡ false → HasLeft v.view w → Stays v (pass_view v.number w v.have v.home is_open)
stays_left v w is_open closed h = record {
  same = record { number = refl; past = h.past; have = refl; home = refl; since = h.since };
  closed = closed;
  outside = h.place;
}

-- and so it does where it missed its bank
pub stays_missed : (v u : PassView) → u.is_open ≡ false → SamePass v u → u.view.stay.place ≡ Outside → Stays v u
stays_missed v u closed same outside = record { same = same; closed = closed; outside = outside }

-- a cause is one whether a call is open or not
none_serves : (v u : PassView) (is_open : Bool) (why : Why) → NoneServes v u why → NoneServes v (pass_view u.number u.view u.have u.home is_open) why
none_serves v u is_open (Unsettled have) h = h
none_serves v u is_open (NoBank words) h = h
none_serves v u is_open (Gone word) h = h
none_serves v u is_open (Full word) h = h
none_serves v u is_open Settled h = h

-- a call that nobody serves has taken nothing yet: v is the pass, and u the pass where it has missed its bank, or as it was
pub alone_begins : (table : TableName) (v u w : PassView) (why : Why) (engine : Engine) → SamePass v u → u.view.touch ≡ v.view.touch → u.view.stay.place ≡ Outside → NoneServes v u why → w ≡ opened u
    → BeginsAlone (program_of u) why engine → HasTaken table v w engine []
alone_begins table v u w why engine same touch outside cause is begins =
    let begun : HasCounted begins.0 (program_of v) [] = subst (λ (x : Past Change). HasCounted begins.0 (program (history x.seen)) []) same.past begins.2 in
    subst (λ (y : PassView × Engine). HasTaken table v y.0 y.1 []) (λ i. (sym is i, sym begins.1 i)) (record {
      opened = record { same = record { number = same.number; past = same.past; have = same.have; home = same.home; since = same.since }; is_open = refl; stands = outside };
      few = omega arith;
      serves = record { cause = none_serves v u true why cause; touch = touch; outside = outside; counted = begun };
    })

-- a call over the bank that a pass has entered has taken nothing yet
pub inside_begins : (table : TableName) (v : PassView) (seat now : Seated Change) (bank version : ℕ) (compiled : Automata) (call : Call Change) → seat ≡ seated table v.view → now.table ≡ table → version ≡ reached v → v.have ≡ reached v
    → v.home ≡ home.Bank bank → compiled ≡ program_of v → EntranceGives bank version compiled seat now (entrance.Inside call) → HasTaken table v (pass_view v.number now.view v.have v.home true) (Shared call) []
inside_begins table v seat now bank version compiled call seat_is table_is version_is have home compiled_is gives =
    let word : ℕ = gives.0 in
    let entered : View Change = entered_at bank (reached v) word v.view in
    let began : call.began ≡ seated table entered = gives.2 ∙ (λ i. seated (seat_is i).table (entered_at bank (version_is i) word (seat_is i).view)) in
    let filtered : HasFiltered IsRight (program_of v) call.began (seated table now.view) call [] =
    subst (λ (x : TableName × Automata). HasFiltered IsRight x.1 call.began (seated x.0 now.view) call []) (λ i. (table_is i, compiled_is i)) gives.3 in
    let grew : Grew entered now.view = subst (λ (s : Seated Change). Grew s.view now.view) began filtered.grew in
    record {
      opened = record {
        same = record { number = refl; past = grew.past; have = refl; home = refl; since = λ n. since_trans n v.view entered now.view (since_idle n v.view entered refl refl) (since_grew n entered now.view grew) };
        is_open = refl;
        stands = ap (λ (s : Stay). is_in s.place) grew.stay;
      };
      few = omega arith;
      serves = record { have = have; bank = bank; home = home; word = word; stood = subst (λ (n : ℕ). shows n word ≡ true) version_is gives.1; began = began; filtered = filtered };
    }

-- a call goes on by an event: w is what the seat knows then
pub goes_on : (table : TableName) (v p : PassView) (w : View Change) (compiled : Automata) (e e' : Engine) (given : List Event) (next : Event) → (v.have ≡ reached v → compiled ≡ program_of v) → HasTaken table v p e given → length given + 1 < 2 ^ 60
    → IsAlike e e' → MayGrow e p.view w → Has (program_of v) compiled (seated table w) e' (given ++ next ∷ []) → length (given ++ next ∷ []) ≡ length given + 1
    → HasTaken table v (pass_view p.number w p.have p.home p.is_open) e' (given ++ next ∷ [])
goes_on table v p w compiled (Private lone why) (Private lone' why') given next compiled_is h few alike grew has long =
    let s = h.serves in
    let cause : NoneServes v (pass_view p.number w p.have p.home p.is_open) why' =
    subst (λ (x : Why × View Change). NoneServes v (pass_view p.number x.1 p.have p.home p.is_open) x.0) (λ i. (sym alike i, sym grew i)) (none_serves v p p.is_open why s.cause) in
    record {
      opened = record {
        same = subst (λ (x : View Change). SamePass v (pass_view p.number x p.have p.home p.is_open)) (sym grew) (let m = h.opened.same in record { number = m.number; past = m.past; have = m.have; home = m.home; since = m.since });
        is_open = h.opened.is_open;
        stands = ap (λ (x : View Change). x.stay.place) grew ∙ s.outside;
      };
      few = omega arith;
      serves = record { cause = cause; touch = ap (λ (x : View Change). x.touch) grew ∙ s.touch; outside = ap (λ (x : View Change). x.stay.place) grew ∙ s.outside; counted = has };
    }
goes_on table v p w compiled (Shared call) (Shared call') given next compiled_is h few alike grew has long =
    let s = h.serves in
    let entered : View Change = entered_at s.bank (reached v) s.word v.view in
    let g : Grew entered w = subst (λ (x : Seated Change). Grew x.view w) s.began grew in
    record {
      opened = record {
        same = record { number = h.opened.same.number; past = g.past; have = h.opened.same.have; home = h.opened.same.home; since = λ n. since_trans n v.view entered w (since_idle n v.view entered refl refl) (since_grew n entered w g) };
        is_open = h.opened.is_open;
        stands = ap (λ (x : Stay). is_in x.place) g.stay;
      };
      few = omega arith;
      serves = record {
        have = s.have;
        bank = s.bank;
        home = s.home;
        word = s.word;
        stood = s.stood;
        began = alike ∙ s.began;
        filtered = subst (λ (x : Automata). HasFiltered IsRight x call'.began (seated table w) call' (given ++ next ∷ [])) (compiled_is s.have) has;
      };
    }
goes_on table v p w compiled (Private lone why) (Shared call) given next compiled_is h few alike grew has long = absurd alike
goes_on table v p w compiled (Shared call) (Private lone why) given next compiled_is h few alike grew has long = absurd alike

-- the engine has what the call has taken
pub has_taken : (table : TableName) (v p : PassView) (compiled : Automata) (e : Engine) (given : List Event) → (v.have ≡ reached v → compiled ≡ program_of v) → HasTaken table v p e given → Has (program_of v) compiled (seated table p.view) e given
has_taken table v p compiled (Private lone why) given compiled_is h = h.serves.counted
has_taken table v p compiled (Shared call) given compiled_is h = let s = h.serves in subst (λ (x : Automata). HasFiltered IsRight x call.began (seated table p.view) call given) (sym (compiled_is s.have)) s.filtered

-- a call whose event failed is open still
pub still_open : (table : TableName) (v p : PassView) (w : View Change) (e e' : Engine) (given : List Event) → HasTaken table v p e given → IsAlike e e' → MayGrow e p.view w → IsOpen v (pass_view p.number w p.have p.home p.is_open) e'
still_open table v p w (Private lone why) (Private lone' why') given h alike grew = record {
  same = subst (λ (x : View Change). SamePass v (pass_view p.number x p.have p.home p.is_open)) (sym grew) (let m = h.opened.same in record { number = m.number; past = m.past; have = m.have; home = m.home; since = m.since });
  is_open = h.opened.is_open;
  stands = ap (λ (x : View Change). x.stay.place) grew ∙ h.serves.outside;
}
still_open table v p w (Shared call) (Shared call') given h alike grew =
    let s = h.serves in
    let entered : View Change = entered_at s.bank (reached v) s.word v.view in
    let g : Grew entered w = subst (λ (x : Seated Change). Grew x.view w) s.began grew in
    record {
      same = record { number = h.opened.same.number; past = g.past; have = h.opened.same.have; home = h.opened.same.home; since = λ n. since_trans n v.view entered w (since_idle n v.view entered refl refl) (since_grew n entered w g) };
      is_open = h.opened.is_open;
      stands = ap (λ (x : Stay). is_in x.place) g.stay;
    }
still_open table v p w (Private lone why) (Shared call) given h alike grew = absurd alike
still_open table v p w (Shared call) (Private lone why) given h alike grew = absurd alike

-- the seat of an open call knows the same of the history, and has left out nothing of stays
pub stays_front : (table : TableName) (v p : PassView) (w : View Change) (e : Engine) (given : List Event) → HasTaken table v p e given → MayGrow e p.view w → (w.past ≡ p.view.past) × (w.stay ≡ p.view.stay)
stays_front table v p w (Private lone why) given h grew = (ap (λ (x : View Change). x.past) grew, ap (λ (x : View Change). x.stay) grew)
stays_front table v p w (Shared call) given h grew = let b = h.serves.filtered.grew in (grew.past ∙ sym b.past, grew.stay ∙ sym b.stay)

-- the first events, and the next
pub take_next : (at : ℕ) (events : List Event) (e : Event) → slice_get events at ≡ Some e → take (at + 1) events ≡ take at events ++ e ∷ []
take_next at events e is = take_more events at e (slice_get_within events at e is) ∙ ap (λ x. take at events ++ x ∷ []) (get_or_from_slice_get events at e e is)

-- no more events are taken than were counted
pub take_few : (at : ℕ) (events : List Event) → length (take at events) ≤ at
take_few zero events = omega arith
take_few (suc at) [] = omega arith
take_few (suc at) (e ∷ events) = let few = take_few at events in omega arith

pub ok_on : {A E : Type 0} (P Q : Type 0) (r : Result A E) → (P → Q) → OnOk r P → OnOk r Q
ok_on P Q (Ok a) on h = on h
ok_on P Q (Err e) on h = tt

pub ok_both : {A E : Type 0} (P : Type 0) (Q R : A → Type 0) (r : Result A E) → ((a : A) → P → Q a → R a) → OnOk r P → IfOk r Q → IfOk r R
ok_both P Q R (Ok a) on p q = on a p q
ok_both P Q R (Err e) on p q = tt

-- what a call over a bank has, of the engine that holds it
pub shared_ok : {A E : Type 0} (r : Result A E) (self : Engine) (call call' : Call Change) (seat seat' : Seated Change) (compiled : Automata) (next : Event) → self ≡ Shared call → call'.began ≡ call.began
    → OnOk r ((given : List Event) → HasFiltered IsRight compiled call.began seat call given → length given + 1 < 2 ^ 60 → HasFiltered IsRight compiled call.began seat' call' (given ++ next ∷ []))
    → OnOk r ((automata : Automata) (given : List Event) → Has automata compiled seat self given → length given + 1 < 2 ^ 60 → HasFiltered IsRight compiled call'.began seat' call' (given ++ next ∷ []))
shared_ok (Err e) self call call' seat seat' compiled next is began h = tt
shared_ok (Ok a) self call call' seat seat' compiled next is began h = λ automata given has few.
    let f : HasFiltered IsRight compiled call.began seat call given = subst (λ (e : Engine). Has automata compiled seat e given) is has in
    subst (λ (b : Seated Change). HasFiltered IsRight compiled b seat' call' (given ++ next ∷ [])) (sym began) (h given f few)

-- the compiled program of a pass that has that of its version
pub compiled_of : (v p : PassView) (c : AtVersion) (compiled : Automata) → SamePass v p → IsBuilt p.view.past.seen c → c.version ≡ p.have → compiled ≡ arc_value c.compiled → v.have ≡ reached v → compiled ≡ program_of v
compiled_of v p c compiled m built version is have =
    let reached_is : c.version ≡ length p.view.past.seen = version ∙ (m.have ∙ (have ∙ ap (λ (x : Past Change). length x.seen) (sym m.past))) in
    is ∙ ((program_is p.view.past.seen c reached_is built).1 ∙ ap (λ (x : Past Change). program (history x.seen)) m.past)

-- it is the program of the version that the pass is inside at
pub program_at : (table : TableName) (v p : PassView) (call : Call Change) (given : List Event) (compiled : Automata) → HasTaken table v p (Shared call) given → compiled ≡ program_of v → IsProgramAt (λ log. program (history log)) p.view compiled
program_at table v p call given compiled h is =
    let s = h.serves in
    let place : p.view.stay.place ≡ Inside s.bank (reached v) = ap (λ (x : Stay). x.place) s.filtered.grew.stay ∙ ap (λ (x : Seated Change). x.view.stay.place) s.began in
    let past : p.view.past ≡ v.view.past = h.opened.same.past in
    let whole : take (version_in p.view.stay.place) p.view.past.seen ≡ v.view.past.seen = (λ i. take (version_in (place i)) (past i).seen) ∙ take_whole v.view.past.seen in
    is ∙ ap (λ l. program (history l)) (sym whole)

-- over a bank the compiled program is that of the version that the seat is inside at
pub is_for : (table : TableName) (v p : PassView) (compiled : Automata) (e : Engine) (given : List Event) → (v.have ≡ reached v → compiled ≡ program_of v) → HasTaken table v p e given → IsFor p.view compiled e
is_for table v p compiled (Private lone why) given compiled_is h = tt
is_for table v p compiled (Shared call) given compiled_is h = program_at table v p call given compiled h (compiled_is h.serves.have)

-- a pass inside the bank that it has entered
pub entered_moved : (bank version : ℕ) (compiled : Automata) (seat now : Seated Change) (call : Call Change) → EntranceGives bank version compiled seat now (entrance.Inside call)
    → (now.view.past ≡ seat.view.past) × (now.view.stay.stays ≡ ((bank, version) ∷ []) ++ seat.view.stay.stays) × (now.view.stay.busy ≡ seat.view.stay.busy)
entered_moved bank version compiled seat now call gives =
    let g : Grew (entered_at bank version gives.0 seat.view) now.view = subst (λ (s : Seated Change). Grew s.view now.view) gives.2 gives.3.grew in
    (g.past, ap (λ (s : Stay). s.stays) g.stay, ap (λ (s : Stay). s.busy) g.stay)

-- a pass whose bank is gone: u is the pass behind it
pub gone_cause : (v u : PassView) (seat now : Seated Change) (bank version banks word : ℕ) (compiled : Automata) → seat.view ≡ v.view → u ≡ pass_view v.number now.view v.have v.home v.is_open → version ≡ reached v → v.have ≡ reached v → v.home ≡ home.Bank bank
    → IsHome banks v.number v.have v.view v.home → EntranceGives bank version compiled seat now (entrance.Gone word)
    → SamePass v u × (u.view.touch ≡ v.view.touch) × (u.view.stay.place ≡ Outside) × NoneServes v u (Gone word)
gone_cause v u seat now bank version banks word compiled seat_is u_is version_is have home is_home gives =
    let view : now.view ≡ record v.view { stay = missed word v.view.stay } = gives.0 ∙ ap (λ (x : View Change). record x { stay = missed word x.stay }) seat_is in
    let u_view : u.view ≡ record v.view { stay = missed word v.view.stay } = ap (λ (p : PassView). p.view) u_is ∙ view in
    let at = bank_is banks v.number v.have v.view v.home bank home is_home in
    let told : get_elem? seat.view.stay.stays at.1.0 ≡ some (bank, version) = (λ i. get_elem? (seat_is i).stay.stays at.1.0) ∙ (at.1.1 ∙ ap (λ (n : ℕ). some (bank, n)) (have ∙ sym version_is)) in
    let later : v.have < version_of word = subst (λ (n : ℕ). n < version_of word) (version_is ∙ sym have) (gives.1 at.1.0 told) in (
      record {
        number = ap (λ (p : PassView). p.number) u_is;
        past = ap (λ (x : View Change). x.past) u_view;
        have = ap (λ (p : PassView). p.have) u_is;
        home = ap (λ (p : PassView). p.home) u_is;
        since = λ n. since_idle n v.view u.view (ap (λ (x : View Change). take n x.past.seen) u_view) (ap (λ (x : View Change). x.touch) u_view);
      },
      ap (λ (x : View Change). x.touch) u_view,
      ap (λ (x : View Change). x.stay.place) u_view,
      (have, (bank, home), (ap (λ (x : View Change). x.stay.enters) u_view, ap (λ (x : View Change). x.stay.found) u_view), later),
    )
