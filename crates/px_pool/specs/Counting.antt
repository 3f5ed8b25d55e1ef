-- What the replies of a batch count together, and what each says of the pass that it names.
use Rattle.std.specs.Prelude.{◌≡◌, ◌≢◌, ℕ, ◌+◌, ◌<◌, ◌≤◌, List, length, Some, slice_get}
use Rattle.px_text.specs.Nodes.{Root}
use Rattle.px_reader.specs.declared.doc.Doc.{Doc}
use Rattle.px_reader.specs.Documents.{content}
use Rattle.px_reader.specs.Verdicts.{HasVerdict, IsTree}
use Rattle.px_xpath.specs.Histories.{matches}
use Rattle.px_afa.specs.Steps.{steps_of}
use Rattle.px_rule.specs.Banks.{total}
use Rattle.px_rule.specs.Histories.{named}
use Rattle.px_rule.specs.Words.{version_of}
use Rattle.px_hub.specs.declared.home.Home.TheVariants as home
use Rattle.px_hub.specs.declared.reply.Reply.{Reply}
use Rattle.px_hub.specs.declared.reply.Why.{Why}
use Rattle.px_hub.specs.declared.reply.Why.TheVariants.{Unsettled, NoBank, Gone, Full, Settled}
use Rattle.px_hub.specs.Passes.{PassView}
use Rattle.px_hub.specs.Replying.{reached, history_of}

-- Why steps of a reply are the call's own, by what its pass had before the batch
abbrev pub HasCause : PassView → Why → Type 0
HasCause v (Unsettled have) = (have ≡ v.have) × (v.have ≢ reached v)
HasCause v (NoBank words) = (v.have ≡ reached v) × (v.home ≡ home.NoBank words)
HasCause v (Gone word) = (v.have ≡ reached v) × ((k : ℕ) × (v.home ≡ home.Bank k)) × (v.have < version_of word)
HasCause v (Full word) = (v.have ≡ reached v) × ((k : ℕ) × (v.home ≡ home.Bank k))
HasCause v Settled = (v.have ≡ reached v) × ((k : ℕ) × (v.home ≡ home.Bank k))

-- The reply is that to the document, at the version that the pass had before the batch
pub record IsReplyOf (v : PassView) (doc : Doc) (reply : Reply) : Type 0 where
  pub pass : reply.pass ≡ v.number
  pub version : reply.version ≡ reached v
  pub root : Root
  pub verdict : HasVerdict (content doc) (IsTree root)
  pub ids : reply.ids ≡ matches (history_of v) root
  pub all_steps : reply.found + reply.computed + reply.own ≡ steps_of (history_of v) root
  pub cause : HasCause v reply.why

-- Each document has a reply, which is that of one of the passes
abbrev pub RepliesOf : List Doc → List PassView → List Reply → Type 0
RepliesOf docs vs replies = (i : ℕ) → i < length docs → (doc : Doc) × (reply : Reply) × (k : ℕ) × (v : PassView)
    × (slice_get docs i ≡ Some doc) × (slice_get replies i ≡ Some reply) × (slice_get vs k ≡ Some v) × IsReplyOf v doc reply

-- how many calls entered the bank of their pass
abbrev pub entered : Why → ℕ
entered (Unsettled have) = 0
entered (NoBank words) = 0
entered (Gone word) = 1
entered (Full word) = 1
entered Settled = 1

-- the pass that a reply names
abbrev pub pass_of : Reply → ℕ
pass_of r = r.pass

-- The pass touched at least as many places as its replies say of steps found and computed, and entered its bank once for each that is Settled, Gone or Full
pub record AddsUp (v w : PassView) (replies : List Reply) : Type 0 where
  pub touches : v.view.touch.touches + total (λ (r : Reply). r.found + r.computed) replies ≤ w.view.touch.touches
  pub enters : w.view.stay.enters ≡ v.view.stay.enters + total (λ (r : Reply). entered r.why) replies

-- no two have one number
abbrev pub AreDifferent : List PassView → Type 0
AreDifferent vs = (j k : ℕ) (v w : PassView) → slice_get vs j ≡ Some v → slice_get vs k ≡ Some w → v.number ≡ w.number → j ≡ k

-- the counts of each pass and the replies that name it
abbrev pub AddUp : List PassView → List PassView → List Reply → Type 0
AddUp vs ws replies = (k : ℕ) (v w : PassView) → slice_get vs k ≡ Some v → slice_get ws k ≡ Some w → AddsUp v w (named pass_of v.number replies)
