-- The lines of the documents are heard.
use Rattle.std.proofs.Common.{List, ◌++◌, subst}
use Rattle.px_feed.specs.declared.line.OutLine.{OutLine}
use Rattle.px_parallel.proofs.Heard.{documents_heard}
use Rattle.px_parallel.proofs.running.Running.filter.Goals as goal

pub returns : goal.returns
returns g c =
    let heard = g.L.Listener.heard in
    let P : List OutLine → Type 0 = λ lines. (said : List OutLine) → heard c.args.listener.now said → heard c.hear.new.self (said ++ lines) in
    record {
      lines = documents_heard g.N.HubName.passes heard c.args.passes.now c.filter.new.passes c.args.listener.now c.hear.new.self c.args.documents.now
          c.in_ok-lines.lines.items c.in_ok-lines.ensures.lines (subst P c.as_slice.ensures.value c.in_ok-hear.ensures);
    }
