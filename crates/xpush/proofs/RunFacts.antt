-- What the record of a run says, fact by fact.
use Rattle.std.proofs.Common.{◌≡◌, ◌++◌, ℕ, false, List, [], Option, Some, None, IsTrue, refl, ap, sym, ◌∙◌, subst, append-nil}
use Rattle.px_io.specs.Flows.{AddsTo}
use Rattle.px_feed.specs.declared.status.Status.{Status}
use Rattle.px_feed.specs.declared.status.Status.TheVariants.{Done, Refused, Usage, ReadFault, WriteFault, Memory}
use Rattle.px_feed.specs.Matches.{OutShow}
use Rattle.px_feed.specs.Outputs.{Out}
use Rattle.xpush.specs.Answers.{IsOutput, IsOfWhole, Moment, Ran, is_done}
use Rattle.xpush.specs.Forms.{Form, Explains, Loads, Makes, Matches, Serves, Shows, Verifies}
use Rattle.xpush.specs.Runs.{Answers, WritesFront, WritesWhole}
use Rattle.px_lines.specs.Served.{is_finished, is_cut_short}

not_true : IsTrue false → ⊥
not_true t = absurd (cc)

added_as : (held held_after : Option (List ℕ)) (written text : List ℕ) → AddsTo held written held_after → written ≡ text → AddsTo held text held_after
added_as held held_after written text added e = let P : List ℕ → Type 0 = λ bytes. AddsTo held bytes held_after in subst P e added

-- what a run answered that was not cut short
answered : (form : Form) (left after held held_after : Option (List ℕ)) (written : List ℕ) (status : Status) → AddsTo held written held_after →
    IsOutput form left after written status → Answers form left after held held_after status
answered (Matches filter) left after held held_after written status added o = record {
  line = o.answer;
  is_for = record { answers = o.answers; read_whole = o.read_whole; unread = o.unread };
  written = added_as held held_after written _ added o.written_is;
  ended = o.ended;
}
answered (Shows filter) left after held held_after written status added o = record {
  text = o.answer.0;
  is_for = let P : Status → Type 0 = λ one. OutShow filter o.answer.0 one in subst P (sym o.ended) (o.answers [] tt);
  written = added_as held held_after written _ added o.written_is;
  unread = o.unread refl;
}
answered (Explains filter) left after held held_after written status added o = record {
  finding = o.answer;
  is_found = record { found = o.answers; read_whole = o.read_whole; unread = o.unread };
  written = added_as held held_after written _ added o.written_is;
  ended = o.ended;
}
answered (Verifies filter) left after held held_after written status added o = record {
  finding = o.answer;
  is_found = record { found = o.answers; read_whole = o.read_whole; unread = o.unread };
  written = added_as held held_after written _ added o.written_is;
  ended = o.ended;
}
answered (Makes seed filters documents) left after held held_after written status added o =
    let made = o.answers [] tt in
    record {
      written = added_as held held_after written _ added (o.written_is ∙ made.0);
      ended = o.ended ∙ made.1;
      unread = o.unread refl;
    }
answered (Serves hub) left after held held_after written status added o = record {
  text = o.answer.0;
  is_for = λ bytes told. (let P : Status → Type 0 = λ one. Out bytes o.answer.0 one in subst P (sym o.ended) (o.answers bytes told));
  written = added_as held held_after written _ added o.written_is;
  read_whole = λ done. o.read_whole (all_read o.answer.1 (sym o.ended ∙ done));
}
  where
    all_read : (one : Status) → one ≡ Done → IsTrue (is_done one)
    all_read one e = let P : Status → Type 0 = λ status. IsTrue (is_done status) in subst P (sym e) refl
answered (Loads seed filters documents hub) left after held held_after written status added o =
    let made = o.answers [] tt in
    record {
      loaded = record {
        text = o.answer.0;
        is_for = made.0;
        written = added_as held held_after written _ added o.written_is;
        ended = o.ended ∙ made.1;
      };
      unread = o.unread refl;
    }

-- nothing more is held where nothing was added
same_held : (held held_after : Option (List ℕ)) (written : List ℕ) → AddsTo held written held_after → written ≡ [] → held_after ≡ held
same_held None held_after written added none = added
same_held (Some bytes) held_after written added none = added ∙ ap Some (ap (λ more. bytes ++ more) none ∙ append-nil bytes)

-- what a run wrote whose source met a fault
whole_written : (form : Form) (left after held held_after : Option (List ℕ)) (written : List ℕ) → AddsTo held written held_after →
    IsOfWhole form left after written → WritesWhole form left after held held_after
whole_written (Matches filter) left after held held_after written added w = (w.0, same_held held held_after written added w.1)
whole_written (Shows filter) left after held held_after written added w = w
whole_written (Explains filter) left after held held_after written added w = (w.0, same_held held held_after written added w.1)
whole_written (Verifies filter) left after held held_after written added w = (w.0, same_held held held_after written added w.1)
whole_written (Makes seed filters documents) left after held held_after written added w = w
whole_written (Serves hub) left after held held_after written added w = record {
  bytes = w.bytes;
  read = w.read;
  items = w.items;
  are_whole = w.are_whole;
  lines = w.lines;
  are_lines = w.are_lines;
  written = added_as held held_after written _ added w.written_is;
}
whole_written (Loads seed filters documents hub) left after held held_after written added w = w

pub says_output : (form : Form) (before after : Moment) (status : Status) → Ran form before after status → IsTrue (is_finished status) →
    Answers form before.left after.left before.held after.held status
says_output form before after Done r t = answered form before.left after.left before.held after.held r.written Done r.added r.wrote
says_output form before after Refused r t = answered form before.left after.left before.held after.held r.written Refused r.added r.wrote
says_output form before after Usage r t = absurd (not_true t)
says_output form before after ReadFault r t = absurd (not_true t)
says_output form before after WriteFault r t = absurd (not_true t)
says_output form before after Memory r t = absurd (not_true t)

pub says_front : (form : Form) (before after : Moment) (status : Status) → Ran form before after status → IsTrue (is_cut_short status) →
    WritesFront form before.left before.held after.held
says_front form before after WriteFault r t = record { bytes_written = r.written; written = r.added; is_front = r.wrote }
says_front form before after Memory r t = record { bytes_written = r.written; written = r.added; is_front = r.wrote }
says_front form before after Done r t = absurd (not_true t)
says_front form before after Refused r t = absurd (not_true t)
says_front form before after Usage r t = absurd (not_true t)
says_front form before after ReadFault r t = absurd (not_true t)

pub says_whole : (form : Form) (before after : Moment) (status : Status) → Ran form before after status → status ≡ ReadFault →
    WritesWhole form before.left after.left before.held after.held
says_whole form before after ReadFault r e = whole_written form before.left after.left before.held after.held r.written r.added r.wrote
says_whole form before after Done r e = absurd (cc)
says_whole form before after Refused r e = absurd (cc)
says_whole form before after Usage r e = absurd (cc)
says_whole form before after WriteFault r e = absurd (cc)
says_whole form before after Memory r e = absurd (cc)

pub no_usage : (form : Form) (before after : Moment) → Ran form before after Usage → ⊥
no_usage form before after r = r.wrote
