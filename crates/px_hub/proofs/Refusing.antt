-- A document that is filtered whole.
use Rattle.std.proofs.Common.{◌≡◌, ℕ, List, [], Ok, Err, refl, arith}
use Rattle.std.specs.Prelude.{IfOk, OnErr}
use Rattle.px_text.specs.Nodes.{Root}
use Rattle.px_reader.specs.declared.event.Event.{Event}
use Rattle.px_reader.specs.Spelling.{events_of}
use Rattle.px_reader.specs.Verdicts.{HasVerdict, IsTree, IsFaulty, AreEvents}
use Rattle.px_rule.specs.declared.shape.Shape.{Shape}
use Rattle.px_rule.specs.declared.view.Place.TheVariants.{Outside}
use Rattle.px_hub.specs.declared.reply.Reply.{Reply}
use Rattle.px_hub.specs.declared.reply.FilterCallFault.{FilterCallFault}
use Rattle.px_hub.specs.declared.reply.FilterCallFault.TheVariants.{Doc, Memory}
use Rattle.px_hub.specs.Passes.{PassView}
use Rattle.px_hub.specs.Replying.{Stays, Replies, Filters, WroteOf}
use Rattle.px_hub.specs.OpenCalls.{IsJudged}
use Rattle.px_hub.proofs.Opening.{stays_same}

-- bytes with a fault leave the pass as it was
pub refuses : (z : Shape) (v : PassView) (bytes : List ℕ) (fault : FilterCallFault) → Stays v v → IsJudged bytes fault → Filters z v v bytes (Err fault)
refuses z v bytes (Doc fault) stays judged = record {
  stays = stays;
  verdict = judged;
  wrote = λ given rest root brings is. record { words = []; since = refl; each = λ k d low. absurd (omega arith) };
}
refuses z v bytes Memory stays judged = stays

-- the reply to the events of the tree that the bytes spell
pub replies : (z : Shape) (v w : PassView) (bytes : List ℕ) (events : List Event) (reply : Reply) → AreEvents bytes events → ((root : Root) → events ≡ events_of root → Replies z v w root reply) → Filters z v w bytes (Ok reply)
replies z v w bytes events reply are h = (are.root, are.verdict, h are.root are.events_are)
