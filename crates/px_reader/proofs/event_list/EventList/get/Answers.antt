-- The mark at the place lies within the bytes.
use Rattle.std.proofs.Common.{◌<◌, ◌∙◌, ap, length, arith}
use Rattle.std.proofs.lemmas.List.{length-map}
use Rattle.px_reader.specs.Marks.{part_of, IsMark, marked}
use Rattle.px_reader.specs.declared.event_list.MarkKind.TheVariants.{Start, Attribute, Text, End}
use Rattle.px_reader.proofs.Marking.{mark_at, event_at}
use Rattle.px_reader.proofs.event_list.EventList.get.Goals as goal

pub part-first-requires : goal.part-first-requires
part-first-requires c =
    let n = ap length c.self.view_is in
    let m = length-map c.self.inside.marks.items (marked c.self.inside.bytes.items) in
    let at : c.args.place < length c.self.inside.marks.items = omega (arith, c.requires) in
    let mark : IsMark (length c.self.inside.bytes.items) c.index-mark.result.now = mark_at (length c.self.inside.bytes.items) c.self.inside.marks.items c.args.place c.index-mark.result.now c.self.invariant at c.index-mark.ensures in
    let size = ap length c.deref.ensures.value in
    (mark.first, omega arith)

pub part-second-requires : goal.part-second-requires
part-second-requires c =
    let n = ap length c.self.view_is in
    let m = length-map c.self.inside.marks.items (marked c.self.inside.bytes.items) in
    let at : c.args.place < length c.self.inside.marks.items = omega (arith, c.requires) in
    let mark : IsMark (length c.self.inside.bytes.items) c.index-mark.result.now = mark_at (length c.self.inside.bytes.items) c.self.inside.marks.items c.args.place c.index-mark.result.now c.self.invariant at c.index-mark.ensures in
    let size = ap length c.deref-2.ensures.value in
    (mark.second, omega arith)

pub returns-in-Start : goal.returns-in-Start
returns-in-Start c =
    let n = ap length c.self.view_is in
    let m = length-map c.self.inside.marks.items (marked c.self.inside.bytes.items) in
    let at : c.args.place < length c.self.inside.marks.items = omega (arith, c.requires) in
    let mark = c.index-mark.result.now in
    event_at c.self.inside.bytes.items c.self.inside.marks.items c.args.self.now c.args.place mark Start c.part-first.result.now c.part-second.result.now
    c.self.view_is at c.index-mark.ensures c.in-Start.is
    (c.part-first.ensures ∙ ap (λ bs. part_of bs mark.start mark.middle) c.deref.ensures.value)
    (c.part-second.ensures ∙ ap (λ bs. part_of bs mark.middle mark.end) c.deref-2.ensures.value)

pub returns-in-Attribute : goal.returns-in-Attribute
returns-in-Attribute c =
    let n = ap length c.self.view_is in
    let m = length-map c.self.inside.marks.items (marked c.self.inside.bytes.items) in
    let at : c.args.place < length c.self.inside.marks.items = omega (arith, c.requires) in
    let mark = c.index-mark.result.now in
    event_at c.self.inside.bytes.items c.self.inside.marks.items c.args.self.now c.args.place mark Attribute c.part-first.result.now c.part-second.result.now
    c.self.view_is at c.index-mark.ensures c.in-Attribute.is
    (c.part-first.ensures ∙ ap (λ bs. part_of bs mark.start mark.middle) c.deref.ensures.value)
    (c.part-second.ensures ∙ ap (λ bs. part_of bs mark.middle mark.end) c.deref-2.ensures.value)

pub returns-in-Text : goal.returns-in-Text
returns-in-Text c =
    let n = ap length c.self.view_is in
    let m = length-map c.self.inside.marks.items (marked c.self.inside.bytes.items) in
    let at : c.args.place < length c.self.inside.marks.items = omega (arith, c.requires) in
    let mark = c.index-mark.result.now in
    event_at c.self.inside.bytes.items c.self.inside.marks.items c.args.self.now c.args.place mark Text c.part-first.result.now c.part-second.result.now
    c.self.view_is at c.index-mark.ensures c.in-Text.is
    (c.part-first.ensures ∙ ap (λ bs. part_of bs mark.start mark.middle) c.deref.ensures.value)
    (c.part-second.ensures ∙ ap (λ bs. part_of bs mark.middle mark.end) c.deref-2.ensures.value)

pub returns-in-End : goal.returns-in-End
returns-in-End c =
    let n = ap length c.self.view_is in
    let m = length-map c.self.inside.marks.items (marked c.self.inside.bytes.items) in
    let at : c.args.place < length c.self.inside.marks.items = omega (arith, c.requires) in
    let mark = c.index-mark.result.now in
    event_at c.self.inside.bytes.items c.self.inside.marks.items c.args.self.now c.args.place mark End c.part-first.result.now c.part-second.result.now
    c.self.view_is at c.index-mark.ensures c.in-End.is
    (c.part-first.ensures ∙ ap (λ bs. part_of bs mark.start mark.middle) c.deref.ensures.value)
    (c.part-second.ensures ∙ ap (λ bs. part_of bs mark.middle mark.end) c.deref-2.ensures.value)
