-- The events of the whole document are those of its tree.
use Rattle.std.proofs.Common.{◌≡◌, refl, ◌∙◌}
use Rattle.px_reader.specs.declared.fault.DocFault.{DocFault}
use Rattle.px_tree.specs.Trees.{tree}
use Rattle.px_document.specs.declared.stop.Stop.TheVariants as stop
use Rattle.px_document.proofs.Coming.{all_events, tree_verdict, verdict_at_end, stopped_by_doc, refused_for_memory}
use Rattle.px_document.proofs.document.Document.finish.Goals as goal

pub tree_of-requires : goal.tree_of-requires
tree_of-requires c =
    let h = c.requires.come in
    let found = all_events c.args.self.reader c.args.self.events.items c.end.new.out.items h.0 c.in-Ok.ensures.tree h.1.read in
    record { of_a_tree = (found.0, c.as_slice.ensures.value ∙ found.1) }

pub returns-in-Ok-clause-tree : goal.returns-in-Ok-clause-tree
returns-in-Ok-clause-tree c = λ bytes h.
    let found = all_events c.args.self.reader c.args.self.events.items c.end.new.out.items bytes c.in-Ok.ensures.tree h.read in
    tree_verdict tree c.tree_of.result found.0 bytes (c.tree_of.ensures.tree found.0 (c.as_slice.ensures.value ∙ found.1)) found.2

pub returns-in-Ok-clause-fault : goal.returns-in-Ok-clause-fault
returns-in-Ok-clause-fault c = λ bytes fault h e. absurd (apart fault (refused_for_memory c.tree_of.result (stop.Doc fault) c.tree_of.ensures.refused e))
  where
    apart : (fault : DocFault) → stop.Doc fault ≡ stop.Memory → ⊥
    apart fault e = cc

pub returns-in-Ok-clause-not_read : goal.returns-in-Ok-clause-not_read
returns-in-Ok-clause-not_read c = λ e. apart (refused_for_memory c.tree_of.result stop.Source c.tree_of.ensures.refused e)
  where
    apart : stop.Source ≡ stop.Memory → ⊥
    apart e = cc

pub returns-clause-fault : goal.returns-clause-fault
returns-clause-fault c = λ bytes fault h e.
    verdict_at_end c.args.self.reader c.args.self.events.items bytes c.in-Err.fault fault c.in-Err.ensures.fault
    (stopped_by_doc _ c.in-Err.fault c.from.result fault refl c.from.ensures e) h.read
