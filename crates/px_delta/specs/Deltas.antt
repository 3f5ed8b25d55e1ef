-- What contracts see of two passes, and what the calls on them answer. Everywhere d is before the call, and e after it.
use Rattle.std.specs.Prelude.{◌≡◌, ◌⊎◌, ℕ, ◌+◌, false, List, length, Result, Ok, Err, refl, ◌==◌, if◌then◌else◌}
use Rattle.std.specs.Coded.{Coded, code_by, coded×}
use Rattle.px_text.specs.Nodes.{Root}
use Rattle.px_reader.specs.Verdicts.{HasVerdict, IsTree}
use Rattle.px_xpath.specs.Histories.{Subscription, matches}
use Rattle.px_xpath.specs.Meaning.{holds}
use Rattle.px_afa.specs.Steps.{steps_of}
use Rattle.px_workload.specs.declared.change.Change.{Change}
use Rattle.px_workload.specs.Changes.{history}
use Rattle.px_rule.specs.declared.shape.Shape.{Shape}
use Rattle.px_hub.specs.declared.reply.FilterCallFault.{FilterCallFault}
use Rattle.px_hub.specs.Passes.{PassView, pass_code}
use Rattle.px_hub.specs.Calls.{seen_of, live_behind, Refreshed, Met}
use Rattle.px_hub.specs.Replying.{Filters, reached}
use Rattle.px_delta.specs.declared.reply.DeltaReply.{DeltaReply}
use Rattle.px_delta.specs.Lists.{without, without_ids, matching, merge}
use Rattle.px_delta.specs.Sameness.{same_way}

pub record DeltaView : Type 0 where
  pub base : PassView
  pub front : PassView

-- it is stored as the pair of its fields
abbrev pub delta_code : Coded DeltaView
delta_code = code_by (PassView × PassView) (coded× pass_code pass_code) (λ d. (d.base, d.front)) (λ p. record { base = p.0; front = p.1 }) (λ _. refl)

abbrev pub delta_view : PassView → PassView → DeltaView
delta_view base front = record { base = base; front = front }

-- no call is open on either
abbrev pub AreClosed : DeltaView → Type 0
AreClosed d = (d.base.is_open ≡ false) × (d.front.is_open ≡ false)

-- the pairs of id and filter that are live behind the first changes and not behind the others
abbrev pub only_behind : List Change → List Change → List Subscription
only_behind seen other = without same_way (live_behind seen) (live_behind other)

-- how many pairs are live for one of the passes alone
abbrev pub apart : DeltaView → ℕ
apart d = length (only_behind (seen_of d.base) (seen_of d.front)) + length (only_behind (seen_of d.front) (seen_of d.base))

-- The reply to a tree, where the base has seen the first changes and the front the others: the ids that match at the version of the front.
-- They are those of the base without the ids of the dropped pairs, and those of the added pairs that hold
pub record Replies (base front : List Change) (root : Root) (reply : DeltaReply) : Type 0 where
  pub version : reply.version ≡ length front
  pub ids : reply.ids ≡ matches (history front) root
  pub made_of : reply.ids ≡ merge (without_ids reply.base.ids (only_behind base front)) (matching (λ filter. holds filter root) (only_behind front base))
  pub dropped : reply.dropped ≡ length (only_behind base front)
  pub added : reply.added ≡ length (only_behind front base)
  pub steps : reply.steps ≡ (if reply.added == 0 then 0 else steps_of (history front) root)

-- `filter`: the base answers as its hub does, and the front is as it was
abbrev pub Answers : Shape → DeltaView → DeltaView → List ℕ → Result DeltaReply FilterCallFault → Type 0
Answers z d e bytes (Ok reply) = Filters z d.base e.base bytes (Ok reply.base) × (e.front ≡ d.front)
    × ((root : Root) → HasVerdict bytes (IsTree root) → Replies (seen_of d.base) (seen_of d.front) root reply)
Answers z d e bytes (Err fault) = Filters z d.base e.base bytes (Err fault) × (e.front ≡ d.front)

-- the pass was refreshed, to some version
abbrev pub Refreshes : ℕ → PassView → PassView → Type 0
Refreshes banks v w = (version : ℕ) × Refreshed banks version v w

-- `rebase`: the front was refreshed, the base met a note of it and was refreshed, and the front met a note of the base. Both have then seen the same, of which the base has the program
pub record Rebased (banks version : ℕ) (d e : DeltaView) : Type 0 where
  pub front : PassView
  pub base : PassView
  pub front_refreshed : Refreshes banks d.front front
  pub base_met : Met (seen_of front) d.base base
  pub base_refreshed : Refreshed banks version base e.base
  pub front_met : Met (seen_of e.base) front e.front
  pub base_mine : e.base.view.past.mine ≡ d.base.view.past.mine
  pub front_mine : e.front.view.past.mine ≡ d.front.view.past.mine
  pub same : seen_of e.front ≡ seen_of e.base
  pub version_is : version ≡ reached e.base
  pub have : e.base.have ≡ version

-- the base is as it was, or has met a note of the front, or was then refreshed too
abbrev pub CameSoFar : ℕ → List Change → PassView → PassView → Type 0
CameSoFar banks note v w = (w ≡ v) ⊎ (Met note v w ⊎ ((p : PassView) × Met note v p × Refreshes banks p w))

-- `rebase` at want of memory: the calls that came before the one that failed have done what they do
abbrev pub Stopped : ℕ → DeltaView → DeltaView → Type 0
Stopped banks d e = (e ≡ d) ⊎ (Refreshes banks d.front e.front × CameSoFar banks (seen_of e.front) d.base e.base)
