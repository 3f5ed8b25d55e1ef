-- The lines for the replies of a batch answer its documents.
use Rattle.std.proofs.Common.{◌≡◌, List, [], ◌∷◌, length, map, refl, sym, ◌∙◌}
use Rattle.px_text.specs.Nodes.{Root}
use Rattle.px_reader.specs.declared.doc.Doc.{Doc}
use Rattle.px_feed.specs.declared.line.OutLine.{OutLine}
use Rattle.px_feed.specs.declared.line.OutLine.TheVariants.{Matched}
use Rattle.px_feed.specs.Items.{Item, Adding, Removing, Replacing, Showing}
use Rattle.px_feed.specs.Outputs.{Ask, AsksMatches, AllAsk, history_behind, lines_for}
use Rattle.px_workload.specs.declared.change.Change.{Change}
use Rattle.px_workload.specs.Changes.{history}
use Rattle.px_xpath.specs.Histories as histories
use Rattle.px_xpath.specs.Histories.{matches}
use Rattle.px_hub.specs.declared.reply.Reply.{Reply}
use Rattle.px_lines.specs.Replying.{IsOf}
use Rattle.px_changer.specs.Telling.{all_anonymous}
use Rattle.px_changer.proofs.Anonymous.{same_matches, same_length}
use Rattle.px_gather.specs.Asking.{AreShown}
use Rattle.px_parallel.specs.Answering.{line_for}
use Rattle.px_parallel.specs.Replying.{IsReplyBehind, AreRepliesBehind}

-- what is asked behind a history, and leaves it as it is
pub record Asked (h : List histories.Change) (shown : List Item) (lines : List OutLine) : Type 0 where
  pub asks : List Ask
  pub all : AllAsk shown asks
  pub lines_are : lines ≡ lines_for h asks
  pub same : history_behind h asks ≡ h

module _ (seen : List Change) where
  abbrev h : List histories.Change
  h = history (all_anonymous seen)

  line_is : (doc : Doc) (reply : Reply) (root : Root) → IsReplyBehind seen doc reply → IsOf doc root → line_for reply ≡ Matched (length h) (matches h root)
  line_is doc reply root r is =
      let version = r.version ∙ sym (same_length seen) in
      let ids = r.ids root is ∙ sym (same_matches seen root) in
      λ i. Matched (version i) (ids i)

  pub lines_asked : (docs : List Doc) (replies : List Reply) (shown : List Item) → AreRepliesBehind seen docs replies → AreShown docs shown → Asked h shown (map line_for replies)
  lines_asked [] [] [] are show = record { asks = []; all = tt; lines_are = refl; same = refl }
  lines_asked [] [] (item ∷ shown) are show = absurd show
  lines_asked [] (reply ∷ replies) shown are show = absurd are
  lines_asked (doc ∷ docs) [] shown are show = absurd are
  lines_asked (doc ∷ docs) (reply ∷ replies) [] are show = absurd show
  lines_asked (doc ∷ docs) (reply ∷ replies) (Adding text ∷ shown) are show = absurd show
  lines_asked (doc ∷ docs) (reply ∷ replies) (Removing text ∷ shown) are show = absurd show
  lines_asked (doc ∷ docs) (reply ∷ replies) (Replacing name text ∷ shown) are show = absurd show
  lines_asked (doc ∷ docs) (reply ∷ replies) (Showing root ∷ shown) are show =
      let rest = lines_asked docs replies shown are.1 show.1 in record {
        asks = AsksMatches root ∷ rest.asks;
        all = (refl, rest.all);
        lines_are = λ i. line_is doc reply root are.0 show.0 i ∷ rest.lines_are i;
        same = rest.same;
      }
