use Rattle.std.proofs.Common.{[], ◌∷◌, arith}
use Rattle.px_text.specs.Nodes.{Root, NoNodes}
use Rattle.px_reader.specs.declared.event.Event.TheVariants.{Start, End}
use Rattle.px_call.proofs.Running.{of_its_seat}
use Rattle.px_hub_rows.proofs.calls.filtered.Goals as goal

pub event-requires-2-clause-begun : goal.event-requires-2-clause-begun
event-requires-2-clause-begun g c =
    let first = of_its_seat _ c.args.compiled.now c.args.seat.now c.begin.new.seat c.in_ok-call.call [] c.in_ok-call.ensures.ok in (
      Start c.args.name.now ∷ [],
      of_its_seat _ c.args.compiled.now c.in_ok-call.call.began c.event.new.seat c.event.new.self (Start c.args.name.now ∷ []) (c.in_ok-event.ensures.ok [] first (omega arith)),
      omega arith,
    )

pub finish-requires-clause-whole : goal.finish-requires-clause-whole
finish-requires-clause-whole g c =
    let first = of_its_seat _ c.args.compiled.now c.args.seat.now c.begin.new.seat c.in_ok-call.call [] c.in_ok-call.ensures.ok in
    let second = of_its_seat _ c.args.compiled.now c.in_ok-call.call.began c.event.new.seat c.event.new.self (Start c.args.name.now ∷ []) (c.in_ok-event.ensures.ok [] first (omega arith)) in
    let root : Root = record { name = c.args.name.now; attributes = []; children = NoNodes } in (
      root,
      of_its_seat _ c.args.compiled.now c.event.new.self.began c.event-2.new.seat c.event-2.new.self (Start c.args.name.now ∷ End ∷ []) (c.in_ok-event-2.ensures.ok (Start c.args.name.now ∷ []) second (omega arith)),
    )
