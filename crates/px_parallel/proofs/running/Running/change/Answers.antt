-- The line of the change is heard.
use Rattle.std.proofs.Common.{List, ◌++◌, subst}
use Rattle.px_feed.specs.declared.line.OutLine.{OutLine}
use Rattle.px_parallel.proofs.Heard.{change_heard}
use Rattle.px_parallel.proofs.running.Running.change.Goals as goal

pub returns : goal.returns
returns g c =
    let heard = g.L.Listener.heard in
    let P : List OutLine → Type 0 = λ lines. (said : List OutLine) → heard c.args.listener.now said → heard c.hear.new.self (said ++ lines) in
    record {
      line = change_heard g.N.HubName.passes heard c.args.passes.now c.change.new.passes c.args.listener.now c.hear.new.self c.args.item c.in_ok-line.line
          c.in_ok-line.ensures.line (subst P c.from_ref.ensures.value c.in_ok-hear.ensures);
    }
