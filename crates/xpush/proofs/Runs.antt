-- The record of a run, of what the functions below say.
use Rattle.std.proofs.Common.{◌≡◌, ◌≤◌, ◌||◌, ◌⊎◌, ◌++◌, ℕ, false, List, [], Option, IsTrue, IsFalse, refl, sym, subst, inl, inr, arith}
use Rattle.px_io.specs.Faults.{Rose}
use Rattle.px_io.specs.Flows.{AddsTo}
use Rattle.px_io.proofs.Flowing.{adds_nothing}
use Rattle.px_feed.specs.declared.status.Status.{Status}
use Rattle.px_feed.specs.declared.status.Status.TheVariants.{Done, Refused, Usage, ReadFault, WriteFault, Memory}
use Rattle.px_feed.specs.Generator.{feed}
use Rattle.px_feed.specs.Lines.{line_text}
use Rattle.px_feed.specs.Outputs.{Out, text_of}
use Rattle.px_document.specs.Findings as findings
use Rattle.px_hub.specs.declared.config.Config.{Config}
use Rattle.px_lines.specs.Served.{ServedFront}
use Rattle.px_parallel.specs.Sums.{LoadFront, OutLoad}
use Rattle.xpush.specs.Answers.{Moment, IsFrontOfOut, IsOutput, IsOfWhole, Ran, Wrote, is_done, reads}
use Rattle.xpush.specs.Forms.{Form, Explains, Loads, Makes, Matches, Serves, Shows, Verifies}
use Rattle.xpush.specs.Runs.{Answers, WritesFront, WritesWhole}
use Rattle.px_lines.specs.Served.{is_finished, is_cut_short}

not_true : IsTrue false → ⊥
not_true t = absurd (cc)

-- what was written, and that it satisfies what is known by the status
abbrev pub Written : (left after held held_after : Option (List ℕ)) → Form → Status → Type 0
Written left after held held_after form status = (written : List ℕ) × AddsTo held written held_after × Wrote status form left after written

done_only : (status : Status) → IsTrue (is_done status) → status ≡ Done
done_only Done t = refl
done_only Refused t = absurd (not_true t)
done_only Usage t = absurd (not_true t)
done_only ReadFault t = absurd (not_true t)
done_only WriteFault t = absurd (not_true t)
done_only Memory t = absurd (not_true t)

-- a run that was not cut short
finished : (form : Form) (left after held held_after : Option (List ℕ)) (status : Status) → Answers form left after held held_after status →
    (written : List ℕ) × AddsTo held written held_after × IsOutput form left after written status
finished (Matches filter) left after held held_after status m = (
  line_text m.line,
  m.written,
  record { answer = m.line; answers = m.is_for.answers; written_is = refl; ended = m.ended; read_whole = m.is_for.read_whole; unread = m.is_for.unread },
)
finished (Shows filter) left after held held_after status s = (
  s.text,
  s.written,
  record { answer = (s.text, status); answers = λ bytes found. s.is_for; written_is = refl; ended = refl; read_whole = λ t. absurd (not_true t); unread = λ t. s.unread },
)
finished (Explains filter) left after held held_after status p = (
  findings.text p.finding,
  p.written,
  record { answer = p.finding; answers = p.is_found.found; written_is = refl; ended = p.ended; read_whole = p.is_found.read_whole; unread = p.is_found.unread },
)
finished (Verifies filter) left after held held_after status p = (
  findings.text p.finding,
  p.written,
  record { answer = p.finding; answers = p.is_found.found; written_is = refl; ended = p.ended; read_whole = p.is_found.read_whole; unread = p.is_found.unread },
)
finished (Makes seed filters documents) left after held held_after status m = (
  feed seed filters documents,
  m.written,
  record {
    answer = (feed seed filters documents, Done);
    answers = λ bytes found. (refl, refl);
    written_is = refl;
    ended = m.ended;
    read_whole = λ t. absurd (not_true t);
    unread = λ t. m.unread;
  },
)
finished (Serves hub) left after held held_after status s = (
  s.text,
  s.written,
  record {
    answer = (s.text, status);
    answers = s.is_for;
    written_is = refl;
    ended = refl;
    read_whole = λ t. s.read_whole (done_only status t);
    unread = λ t. absurd (not_true t);
  },
)
finished (Loads seed filters documents hub) left after held held_after status l = (
  l.loaded.text,
  l.loaded.written,
  record {
    answer = (l.loaded.text, Done);
    answers = λ bytes found. (l.loaded.is_for, refl);
    written_is = refl;
    ended = l.loaded.ended;
    read_whole = λ t. absurd (not_true t);
    unread = λ t. l.unread;
  },
)

-- nothing was written where nothing more is held
nothing_added : (held held_after : Option (List ℕ)) → held_after ≡ held → AddsTo held [] held_after
nothing_added held held_after e = let P : Option (List ℕ) → Type 0 = λ after. AddsTo held [] after in subst P (sym e) (adds_nothing held)

-- a run whose source met a fault
of_whole : (form : Form) (left after held held_after : Option (List ℕ)) → WritesWhole form left after held held_after →
    (written : List ℕ) × AddsTo held written held_after × IsOfWhole form left after written
of_whole (Matches filter) left after held held_after w = ([], nothing_added held held_after w.1, (w.0, refl))
of_whole (Shows filter) left after held held_after w = absurd w
of_whole (Explains filter) left after held held_after w = ([], nothing_added held held_after w.1, (w.0, refl))
of_whole (Verifies filter) left after held held_after w = ([], nothing_added held held_after w.1, (w.0, refl))
of_whole (Makes seed filters documents) left after held held_after w = absurd w
of_whole (Serves hub) left after held held_after w = (
  text_of w.lines,
  w.written,
  record { bytes = w.bytes; read = w.read; items = w.items; are_whole = w.are_whole; lines = w.lines; are_lines = w.are_lines; written_is = refl },
)
of_whole (Loads seed filters documents hub) left after held held_after w = absurd w

by_status : (form : Form) (left after held held_after : Option (List ℕ)) (status : Status) → (status ≡ Usage → ⊥) →
    (IsTrue (is_finished status) → Answers form left after held held_after status) → (IsTrue (is_cut_short status) → WritesFront form left held held_after) →
    (status ≡ ReadFault → WritesWhole form left after held held_after) → Written left after held held_after form status
by_status form left after held held_after Done no_usage output front whole = finished form left after held held_after Done (output refl)
by_status form left after held held_after Refused no_usage output front whole = finished form left after held held_after Refused (output refl)
by_status form left after held held_after Usage no_usage output front whole = absurd (no_usage refl)
by_status form left after held held_after ReadFault no_usage output front whole = of_whole form left after held held_after (whole refl)
by_status form left after held held_after WriteFault no_usage output front whole = let f = front refl in (f.bytes_written, f.written, f.is_front)
by_status form left after held held_after Memory no_usage output front whole = let f = front refl in (f.bytes_written, f.written, f.is_front)

-- a run of a form
pub ran : (form : Form) (before after : Moment) (status : Status) → (status ≡ Usage → ⊥) →
    (IsTrue (is_finished status) → Answers form before.left after.left before.held after.held status) →
    (IsTrue (is_cut_short status) → WritesFront form before.left before.held after.held) →
    (status ≡ ReadFault → WritesWhole form before.left after.left before.held after.held) → (IsFalse (reads form) → after.left ≡ before.left) →
    (status ≡ ReadFault → Rose before.read_faults after.read_faults) → (status ≡ WriteFault → Rose before.write_faults after.write_faults) →
    before.read_faults ≤ after.read_faults → before.write_faults ≤ after.write_faults → Ran form before after status
ran form before after status no_usage output front whole unread read_fault write_fault read_counts write_counts =
    let w = by_status form before.left after.left before.held after.held status no_usage output front whole in
    record {
      written = w.0;
      added = w.1;
      wrote = w.2;
      unread = unread;
      read_fault = read_fault;
      write_fault = write_fault;
      read_counts = read_counts;
      write_counts = write_counts;
    }

-- a run that reads nothing ends well or is cut short
pub never_usage : (status : Status) → IsTrue (is_finished status || is_cut_short status) → status ≡ Usage → ⊥
never_usage status t e = let P : Status → Type 0 = λ one. IsTrue (is_finished one || is_cut_short one) in not_true (subst P e t)

pub never_read_fault : (status : Status) → IsTrue (is_finished status || is_cut_short status) → status ≡ ReadFault → ⊥
never_read_fault status t e = let P : Status → Type 0 = λ one. IsTrue (is_finished one || is_cut_short one) in not_true (subst P e t)

-- a run for which there was no memory at its beginning
pub ran_out : (form : Form) (now : Moment) → Ran form now now Memory
ran_out form now = record {
  written = [];
  added = adds_nothing now.held;
  wrote = λ bytes found. inl refl;
  unread = λ t. refl;
  read_fault = λ e. absurd (cc);
  write_fault = λ e. absurd (cc);
  read_counts = omega arith;
  write_counts = omega arith;
}

-- the front of the output of a feed
pub feed_front : (hub : Option Config) (left held held_after : Option (List ℕ)) → ServedFront left held held_after → WritesFront (Serves hub) left held held_after
feed_front hub left held held_after f = record { bytes_written = f.bytes_written; written = f.written; is_front = λ bytes told. as_front bytes (f.is_front bytes told) }
  where
    as_front : (bytes : List ℕ) → (f.bytes_written ≡ []) ⊎ ((text rest : List ℕ) × (status : Status) × Out bytes text status × (text ≡ f.bytes_written ++ rest)) →
        IsFrontOfOut (Serves hub) bytes f.bytes_written
    as_front bytes (inl none) = inl none
    as_front bytes (inr (text, rest, status, out, begins)) = inr (text, rest, status, ((text, status), out, refl, refl), begins)

-- the front of the line of sums
pub load_front : (seed filters documents : ℕ) (hub : Config) (left held held_after : Option (List ℕ)) → LoadFront seed filters documents held held_after →
    WritesFront (Loads seed filters documents hub) left held held_after
load_front seed filters documents hub left held held_after f = record { bytes_written = f.bytes_written; written = f.written; is_front = λ bytes found. as_front bytes f.is_front }
  where
    as_front : (bytes : List ℕ) → (f.bytes_written ≡ []) ⊎ ((text rest : List ℕ) × OutLoad seed filters documents text × (text ≡ f.bytes_written ++ rest)) →
        IsFrontOfOut (Loads seed filters documents hub) bytes f.bytes_written
    as_front bytes (inl none) = inl none
    as_front bytes (inr (text, rest, out, begins)) = inr (text, rest, Done, ((text, Done), (out, refl), refl, refl), begins)
