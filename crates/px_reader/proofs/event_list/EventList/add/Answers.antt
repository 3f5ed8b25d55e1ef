-- The bytes come behind the others, and the mark behind the others.
use Rattle.std.proofs.Common.{◌≡◌, ◌++◌, ◌∷◌, [], length, ap, ◌∙◌, append_assoc, length-append, arith}
use Rattle.std.proofs.lemmas.Result.{err_from_is_err_and}
use Rattle.px_reader.specs.Marks.{marked_all, made_of}
use Rattle.px_reader.proofs.Marking.{all_kept, within_more, within_behind, one_behind, view_behind}
use Rattle.px_reader.proofs.event_list.EventList.add.Goals as goal

pub invariant_of-self-in_err-extend_from_slice-2 : goal.invariant_of-self-in_err-extend_from_slice-2
invariant_of-self-in_err-extend_from_slice-2 c =
    let n = ap length (c.in_ok-extend_from_slice.ensures.items) ∙ length-append c.self.inside.bytes.items c.args.first.now in
    let m = ap length (c.in_err-extend_from_slice-2.ensures.items) in
    within_more (length c.self.inside.bytes.items) (length c.extend_from_slice-2.new.self.items) c.self.inside.marks.items (omega arith) c.self.invariant

pub returns-in_err-extend_from_slice-2-clause-err : goal.returns-in_err-extend_from_slice-2-clause-err
returns-in_err-extend_from_slice-2-clause-err c =
    let p = err_from_is_err_and c.from_residual-in_err-extend_from_slice-2.result c.from_residual-in_err-extend_from_slice-2.ensures.1 in
    rw (p.1)
    (ap (λ bs. marked_all bs c.self.inside.marks.items) (c.in_err-extend_from_slice-2.ensures.items ∙ c.in_ok-extend_from_slice.ensures.items)
    ∙ all_kept c.self.inside.bytes.items c.args.first.now c.self.inside.marks.items c.self.invariant ∙ c.self.view_is)

pub invariant_of-self-in_err-push : goal.invariant_of-self-in_err-push
invariant_of-self-in_err-push c =
    within_behind c.self.inside.bytes.items c.args.first.now c.args.second.now c.extend_from_slice.new.self.items c.extend_from_slice-2.new.self.items
    c.self.inside.marks.items c.push.new.self.items
    c.in_ok-extend_from_slice.ensures.items c.in_ok-extend_from_slice-2.ensures.items c.in_err-push.ensures.items c.self.invariant

pub returns-in_err-push-clause-err : goal.returns-in_err-push-clause-err
returns-in_err-push-clause-err c =
    let p = err_from_is_err_and c.from_residual-in_err-push.result c.from_residual-in_err-push.ensures.1 in
    let whole : c.extend_from_slice-2.new.self.items ≡ c.self.inside.bytes.items ++ (c.args.first.now ++ c.args.second.now) =
    c.in_ok-extend_from_slice-2.ensures.items ∙ ap (λ bs. bs ++ c.args.second.now) c.in_ok-extend_from_slice.ensures.items ∙ append_assoc c.self.inside.bytes.items c.args.first.now c.args.second.now in
    rw (p.1)
    (ap (λ bs. marked_all bs c.push.new.self.items) whole ∙ ap (marked_all (c.self.inside.bytes.items ++ (c.args.first.now ++ c.args.second.now))) c.in_err-push.ensures.items
    ∙ all_kept c.self.inside.bytes.items (c.args.first.now ++ c.args.second.now) c.self.inside.marks.items c.self.invariant ∙ c.self.view_is)

pub invariant_of-self-2 : goal.invariant_of-self-2
invariant_of-self-2 c =
    one_behind c.self.inside.bytes.items c.args.first.now c.args.second.now c.extend_from_slice.new.self.items c.extend_from_slice-2.new.self.items
    c.self.inside.marks.items c.push.new.self.items c.args.kind c.in_ok-mark.mark c.len.result
    c.in_ok-extend_from_slice.ensures.items c.in_ok-extend_from_slice-2.ensures.items c.in_ok-push.ensures.items (omega arith) c.in_ok-mark.ensures c.self.invariant

pub returns-clause-ok : goal.returns-clause-ok
returns-clause-ok c =
    view_behind c.self.inside.bytes.items c.args.first.now c.args.second.now c.extend_from_slice.new.self.items c.extend_from_slice-2.new.self.items
    c.self.inside.marks.items c.push.new.self.items c.args.kind c.in_ok-mark.mark c.len.result
    c.in_ok-extend_from_slice.ensures.items c.in_ok-extend_from_slice-2.ensures.items c.in_ok-push.ensures.items (omega arith) c.in_ok-mark.ensures c.self.invariant
    ∙ ap (λ es. es ++ made_of c.args.kind c.args.first.now c.args.second.now ∷ []) c.self.view_is
