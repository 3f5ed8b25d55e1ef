use Rattle.std.proofs.Common.{◌≡◌, Some, sym, ◌∙◌, subst}
use Rattle.std.proofs.lemmas.Result.{IfOk-at_ok}
use Rattle.px_reader.specs.Spelling.{events_of}
use Rattle.px_call.specs.Calls.{Call, HasFiltered, CountsOf}
use Rattle.px_call.proofs.Running.{running_of, counts_of_whole}
use Rattle.px_call.proofs.call.BankCall.finish.Goals as goal

pub returns-clause-counts : goal.returns-clause-counts
returns-clause-counts g c root short h =
    let right = g.L.Law.right in
    let compiled = c.args.compiled.now in
    let began = c.self.inside.began.value in
    let seat = c.args.seat.now in
    let new = c.close-ids.new.seat in
    let tally = c.close-ids.result.0 in
    let call : Call _ = record { began = began; runner = c.self.inside.runner; tally = c.self.inside.tally } in
    let had : call.runner ≡ Some c.in-Some.runner = sym c.take.ensures.value ∙ c.in-Some.is in
    subst (λ (k : Call _). HasFiltered right compiled k.began seat k (events_of root) → CountsOf right compiled k.began new.view tally root) c.self.view_is
    (λ h. counts_of_whole right compiled began new.view tally root
    (IfOk-at_ok _ c.in_ok-ids.was c.close-ids.ensures.counts (events_of root) short (running_of right compiled began seat call (events_of root) c.in-Some.runner had h))) h
