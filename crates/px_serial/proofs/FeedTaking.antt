-- What a run of `serial` knows as it takes items from its feed.
use Rattle.std.proofs.Common.{◌≡◌, ℕ, ◌+◌, ◌≤◌, ◌⊎◌, List, [], ◌∷◌, ◌++◌, length, ap, sym, ◌∙◌, subst, inl, inr, arith, append-nil, length-append}
use Rattle.px_io.specs.Faults.{Rose}
use Rattle.px_io.proofs.Counts.{rose_later}
use Rattle.px_io.proofs.Flowing.{takes_nothing, takes_both}
use Rattle.px_feed.specs.declared.ending.Ending.TheVariants as ending
use Rattle.px_feed.specs.declared.ending.Taken.{Taken}
use Rattle.px_feed.specs.declared.ending.Taken.TheVariants as taken
use Rattle.px_feed.specs.declared.item.Item.{Item as Given}
use Rattle.px_feed.specs.Items.{Item, most_bytes}
use Rattle.px_feed.specs.Outputs.{lines_for}
use Rattle.px_feed.specs.Taking.{GoesFurther, HasTaken, HasEnded, TakesBy, Answers}
use Rattle.px_feed.proofs.Fewness.{few-items}
use Rattle.px_workload.specs.Changes.{history}
use Rattle.px_lines.specs.declared.outgoing.Outgoing.{Outgoing}
use Rattle.px_serial.specs.declared.serving.Serving.{Serving}
use Rattle.px_lines.specs.Standing.{Streams}
use Rattle.px_serial.specs.Standing.{Rests, Holds, Took}
use Rattle.px_lines.specs.Waiting.{HasSaid}
use Rattle.px_lines.proofs.FeedStands.{not_failed}
use Rattle.px_lines.proofs.FeedFronts.{begins}

-- no item waits
pub rest_taken : (serving : Serving) (first now : Streams) (least : ℕ) → (r : Rests serving first now least) → HasTaken serving.items now.left r.bytes r.given
rest_taken serving first now least r =
    let P : List Item → Type 0 = λ given. HasTaken serving.items now.left r.bytes given in subst P (append-nil r.given) r.taken

-- what was taken next
pub took_next : (found : Taken) (old new : Serving) (first before now : Streams) (least : ℕ) → (r : Rests old first before least) →
    new.journal.changes ≡ old.journal.changes → HasSaid new.outgoing first.held now.held (lines_for [] r.asks) →
    TakesBy found new.items before.left now.left r.bytes r.given → before.faults ≤ now.faults →
    (found ≡ taken.ReadFault → HasEnded old.items ending.ReadFault ⊎ Rose before.faults now.faults) → Took found new first now least
took_next found old new first before now least r same said by counts failed = record {
  bytes = r.bytes ++ by.0;
  read = takes_both first.left before.left now.left r.bytes by.0 r.read by.1;
  given = r.given;
  answers = by.2;
  asks = r.asks;
  asked = r.asked;
  changed = r.changed ∙ ap history (sym same);
  said = said;
  begun = begins old.items first.left before.left r.bytes r.given [] r.asks r.taken r.asked r.read;
  many = r.many;
  counted = omega (arith, r.counted, counts);
  failed = λ e. rose (failed e);
}
  where
    rose : HasEnded old.items ending.ReadFault ⊎ Rose before.faults now.faults → Rose first.faults now.faults
    rose (inl ended) = absurd (not_failed old.items before.left r.bytes (r.given ++ []) r.taken ended)
    rose (inr more) = rose_later first.faults before.faults now.faults r.counted more

-- the same of what stood in the bytes that were read
pub took_ready : (found : Taken) (old new : Serving) (first now : Streams) (least : ℕ) → (r : Rests old first now least) →
    new.journal.changes ≡ old.journal.changes → new.outgoing ≡ old.outgoing → Answers found new.items now.left r.bytes r.given →
    (found ≡ taken.ReadFault → HasEnded old.items ending.ReadFault) → Took found new first now least
took_ready found old new first now least r same same_outgoing answers failed =
    let P : List ℕ → Type 0 = λ bytes. Answers found new.items now.left bytes r.given in
    let Q : Outgoing → Type 0 = λ outgoing. HasSaid outgoing first.held now.held (lines_for [] r.asks) in
    took_next found old new first now now least r same (subst Q (sym same_outgoing) r.said)
    ([], takes_nothing now.left, subst P (sym (append-nil r.bytes)) answers) (omega arith) (λ e. inl (failed e))

-- no item stood there
pub rest_further : (old new : Serving) (first now : Streams) (least : ℕ) → (r : Rests old first now least) → new.journal.changes ≡ old.journal.changes →
    new.outgoing ≡ old.outgoing → GoesFurther new.items r.bytes r.given → Rests new first now least
rest_further old new first now least r same same_outgoing further =
    let P : List Item → Type 0 = λ given. HasTaken new.items now.left r.bytes given in
    let Q : Outgoing → Type 0 = λ outgoing. HasSaid outgoing first.held now.held (lines_for [] r.asks) in
    record {
      bytes = r.bytes;
      read = r.read;
      given = r.given;
      taken = subst P (sym (append-nil r.given)) (inl further);
      asks = r.asks;
      asked = r.asked;
      changed = r.changed ∙ ap history (sym same);
      said = subst Q (sym same_outgoing) r.said;
      many = r.many;
      counted = r.counted;
    }

-- an item was taken
pub took_item : (item : Given) (serving : Serving) (first now : Streams) (least : ℕ) → Took (taken.Item item) serving first now least →
    Holds item serving first now least
took_item item serving first now least t = (
  t.answers.0,
  t.answers.1,
  record {
    bytes = t.bytes;
    read = t.read;
    given = t.given;
    taken = t.answers.2;
    asks = t.asks;
    asked = t.asked;
    changed = t.changed;
    said = t.said;
    many = t.many;
    counted = t.counted;
  },
)

-- fewer items at least
pub holds_less : (item : Given) (serving : Serving) (first now : Streams) (most least : ℕ) → least ≤ most → Holds item serving first now most →
    Holds item serving first now least
holds_less item serving first now most least le h =
    let s = h.2 in (
      h.0,
      h.1,
      record {
        bytes = s.bytes;
        read = s.read;
        given = s.given;
        taken = s.taken;
        asks = s.asks;
        asked = s.asked;
        changed = s.changed;
        said = s.said;
        many = omega (arith, le, s.many);
        counted = s.counted;
      },
    )

-- a feed has not so many items
few : (most given : ℕ) → given + 1 ≤ most → most ≤ given → ⊥
few most given lt le = absurd (omega arith)

pub holds_few : (item : Given) (serving : Serving) (first now : Streams) → Holds item serving first now most_bytes → ⊥
holds_few item serving first now h =
    let s = h.2 in
    let within = few-items serving.items now.left s.bytes (s.given ++ h.0 ∷ []) s.taken in
    let P : ℕ → Type 0 = λ n. n ≤ most_bytes in
    few most_bytes (length s.given) (subst P (length-append s.given (h.0 ∷ [])) within) s.many
