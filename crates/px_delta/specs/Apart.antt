-- What two live lists have apart, and what is known of the base's reply.
use Rattle.std.specs.Prelude.{◌≡◌, ◌+◌, List, map}
use Rattle.px_text.specs.Nodes.{Root}
use Rattle.px_text.specs.Sets.{Rising}
use Rattle.px_xpath.specs.Histories.{matches}
use Rattle.px_xpath.specs.Subscribed.{subscriptions}
use Rattle.px_afa.specs.Sound.{AreLive}
use Rattle.px_afa.specs.Steps.{steps_of}
use Rattle.px_workload.specs.declared.change.Change.{Change}
use Rattle.px_workload.specs.Changes.{history}
use Rattle.px_workload.specs.Listed.{AreInOrder}
use Rattle.px_hub.specs.declared.reply.Reply.{Reply}
use Rattle.px_hub.specs.Calls.{live_behind}
use Rattle.px_delta.specs.declared.changes.Changes.{Changes}
use Rattle.px_delta.specs.Deltas.{only_behind}

-- They are the pairs that only one of the live lists has, in order, and a program can be built of the added ones
pub record AreChanges (base front : List Change) (c : Changes) : Type 0 where
  pub base_order : Rising (map (λ s. s.id) (live_behind base))
  pub front_order : Rising (map (λ s. s.id) (live_behind front))
  pub dropped : subscriptions c.dropped.items ≡ only_behind base front
  pub added : subscriptions c.added.items ≡ only_behind front base
  pub dropped_order : AreInOrder c.dropped.items
  pub added_order : AreInOrder c.added.items
  pub live : AreLive (subscriptions c.added.items)

-- The ids of a reply are those that match behind these changes, and its counts add up
pub record IsReply (seen : List Change) (root : Root) (reply : Reply) : Type 0 where
  pub ids : reply.ids ≡ matches (history seen) root
  pub all_steps : reply.found + reply.computed + reply.own ≡ steps_of (history seen) root
