-- What a run that answers a feed knows of it.
use Rattle.std.proofs.Common.{◌≡◌, ℕ, List, [], Option, refl, ap, sym, inl, inr, arith}
use Rattle.px_io.proofs.Flowing.{takes_nothing}
use Rattle.px_feed.specs.declared.ending.Ending.TheVariants as ending
use Rattle.px_feed.specs.declared.feed.Items.{Items}
use Rattle.px_feed.specs.declared.status.Status.{Status}
use Rattle.px_feed.specs.declared.status.Status.TheVariants.{Memory}
use Rattle.px_feed.specs.Items.{Item}
use Rattle.px_feed.specs.Outputs.{lines_for}
use Rattle.px_feed.specs.Taking.{HasTaken, HasEnded}
use Rattle.px_workload.specs.declared.change.Change.{Change}
use Rattle.px_workload.specs.Changes.{history}
use Rattle.px_lines.specs.declared.outgoing.Outgoing.{Outgoing}
use Rattle.px_lines.specs.Standing.{Streams, Stands, Ended}
use Rattle.px_lines.specs.Waiting.{HasSaid, IsCut}
use Rattle.px_lines.proofs.FeedEnds.{cut_ended}
use Rattle.px_lines.proofs.FeedFronts.{begins}
use Rattle.px_lines.proofs.Spoken.{said_front}

-- before the first item
pub begun : (items : Items) (changes : List Change) (outgoing : Outgoing) (first : Streams) → HasTaken items first.left [] [] → changes ≡ [] →
    HasSaid outgoing first.held first.held [] → Stands items changes outgoing first first [] 0
begun items changes outgoing first taken none said = record {
  bytes = [];
  read = takes_nothing first.left;
  given = [];
  taken = taken;
  asks = [];
  asked = tt;
  changed = ap history (sym none);
  said = said;
  many = omega arith;
  counted = omega arith;
}

-- a run that stands so is cut short
pub stands_cut : (items : Items) (changes : List Change) (outgoing : Outgoing) (first before now : Streams) (waiting : List Item) (least : ℕ) (status : Status) →
    (s : Stands items changes outgoing first before waiting least) → IsCut status first.held now.held (lines_for [] s.asks) → Ended status first now
stands_cut items changes outgoing first before now waiting least status s cut =
    cut_ended status first now (lines_for [] s.asks) (begins items first.left before.left s.bytes s.given waiting s.asks s.taken s.asked s.read) cut

pub stands_memory : (items : Items) (changes : List Change) (outgoing : Outgoing) (first now : Streams) (waiting : List Item) (least : ℕ) →
    Stands items changes outgoing first now waiting least → Ended Memory first now
stands_memory items changes outgoing first now waiting least s =
    stands_cut items changes outgoing first now now waiting least Memory s (refl, said_front outgoing first.held now.held (lines_for [] s.asks) s.said)

-- a read fault has not ended the feed before
pub not_failed : (items : Items) (left : Option (List ℕ)) (bytes : List ℕ) (given : List Item) → HasTaken items left bytes given → HasEnded items ending.ReadFault → ⊥
not_failed items left bytes given (inl further) failed = let going = further.going in absurd (cc)
not_failed items left bytes given (inr end) failed = let ended = end.0 in absurd (cc)
