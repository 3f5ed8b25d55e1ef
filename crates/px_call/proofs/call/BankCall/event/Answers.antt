use Rattle.std.proofs.Common.{◌≡◌, ◌∷◌, [], ◌++◌, Some, refl, sym, ◌∙◌, subst}
use Rattle.std.proofs.lemmas.Result.{IfOk-at_ok}
use Rattle.px_reader.specs.Happenings.{event_of}
use Rattle.px_call.specs.Calls.{Call, HasFiltered}
use Rattle.px_call.proofs.Running.{running_of, filtered_of}
use Rattle.px_call.proofs.call.BankCall.event.Goals as goal

pub returns-clause-ok : goal.returns-clause-ok
returns-clause-ok g c given h short =
    let right = g.L.Law.right in
    let compiled = c.args.compiled.now in
    let began = c.self.inside.began.value in
    let seat = c.args.seat.now in
    let new = c.advance-went.new.seat in
    let call : Call _ = record { began = began; runner = c.self.inside.runner; tally = c.self.inside.tally } in
    let after : Call _ = record { began = began; runner = Some c.in_ok-went.field-0; tally = c.advance-went.result.0 } in
    let had : call.runner ≡ Some c.in-Some.runner = sym c.take.ensures.value ∙ c.in-Some.is in
    subst (λ (k : Call _). HasFiltered right compiled k.began seat k given → HasFiltered right compiled k.began new after (given ++ event_of c.args.next ∷ [])) c.self.view_is
    (λ h. filtered_of right compiled began new after (given ++ event_of c.args.next ∷ []) c.in_ok-went.field-0 refl h.inside c.advance-went.ensures.table c.advance-went.ensures.grew refl
    (IfOk-at_ok _ c.in_ok-went.was c.advance-went.ensures.ok given (running_of right compiled began seat call given c.in-Some.runner had h) short)) h
