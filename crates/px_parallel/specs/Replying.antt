-- What a batch answers of documents, where all its passes have seen the same.
use Rattle.std.specs.Prelude.{◌≡◌, List, [], ◌∷◌, length}
use Rattle.px_text.specs.Nodes.{Root}
use Rattle.px_reader.specs.declared.doc.Doc.{Doc}
use Rattle.px_workload.specs.declared.change.Change.{Change}
use Rattle.px_workload.specs.Changes.{history}
use Rattle.px_xpath.specs.Histories.{matches}
use Rattle.px_hub.specs.declared.reply.Reply.{Reply}
use Rattle.px_lines.specs.Replying.{IsOf}

-- the reply to the document behind these changes
pub record IsReplyBehind (seen : List Change) (doc : Doc) (reply : Reply) : Type 0 where
  pub version : reply.version ≡ length seen
  pub ids : (root : Root) → IsOf doc root → reply.ids ≡ matches (history seen) root

abbrev pub AreRepliesBehind : List Change → List Doc → List Reply → Type 0
AreRepliesBehind seen [] [] = Unit {0}
AreRepliesBehind seen (doc ∷ docs) (reply ∷ replies) = IsReplyBehind seen doc reply × AreRepliesBehind seen docs replies
AreRepliesBehind seen _ _ = ⊥
