-- What is ready is taken, and else piece after piece is read, up to an item or the end.
use Rattle.std.proofs.Common.{◌≡◌, ◌∙◌, ◌++◌, [], Some, None, refl, sym, subst, append_assoc, append-nil, inl, arith}
use Rattle.px_feed.specs.Progressing.{progress}
use Rattle.px_feed.specs.Taking.{GoesFurther, HasTaken, AnswersSoFar}
use Rattle.px_feed.proofs.Takings.{nothing_taken, taken_on, joined_all, held_all, not_stopped}
use Rattle.px_feed.proofs.intake.Intake.next.Goals as goal

pub loop-init : goal.loop-init
loop-init g c = record {
  read = λ bytes given t. ([], nothing_taken _, subst (λ bs. HasTaken (progress c.args.self.now) (g.S.Source.left c.args.source.now) bs given) (sym (append-nil bytes)) t);
  going = refl;
  stays = λ ending ended. refl;
  many = omega arith;
  never_falls = omega arith;
}

pub returns-in-Some-clause-takes : goal.returns-in-Some-clause-takes
returns-in-Some-clause-takes g c = λ bytes given t.
    let (m, u, known) = c.loop.invariant.read bytes given t in
    (m, u, c.in-Some.ensures.takes (g.S.Source.left c.loop.source) (bytes ++ m) given known)

pub returns-in-Some-refill-clause-takes : goal.returns-in-Some-refill-clause-takes
returns-in-Some-refill-clause-takes g c = λ bytes given t.
    let (m, u, known) = c.loop.invariant.read bytes given t in
    let b = c.in_default.ensures.takes (g.S.Source.left c.loop.source) (bytes ++ m) given known in
    let d = c.in_default.ensures.drained refl in
    let (n, v, answer) = c.in-Some-refill.ensures.refills (bytes ++ m) given (joined_all (progress c.ready.new.self) (bytes ++ m) given d.0 b) d.1 in
    let after = g.S.Source.left c.refill.new.source in
    (m ++ n, taken_on _ _ _ m n u v, subst (λ bs. AnswersSoFar (Some c.in-Some-refill.taken) (progress c.refill.new.self) after bs given) (append_assoc bytes m n) answer)

pub returns-in-Some-refill-clause-stays : goal.returns-in-Some-refill-clause-stays
returns-in-Some-refill-clause-stays g c = λ ending ended.
    absurd (c.in_default.not-Some _ (c.ready.ensures.stays ending (c.loop.invariant.going ∙ ended)))

pub loop-preserved : goal.loop-preserved
loop-preserved g c =
    let old = c.loop.self in
    let d = c.in_default.ensures.drained refl in
    let none : c.args.self.now.ending ≡ None =
    sym c.loop.invariant.going ∙ not_stopped old.ending (λ last ended. c.in_default.not-Some _ (c.ready.ensures.stays last ended))
    in record {
      read = λ bytes given t.
          let (m, u, known) = c.loop.invariant.read bytes given t in
          let b = c.in_default.ensures.takes (g.S.Source.left c.loop.source) (bytes ++ m) given known in
          let (n, v, b2) = c.in_default-refill.ensures.refills (bytes ++ m) given (joined_all (progress c.ready.new.self) (bytes ++ m) given d.0 b) d.1 in
          (m ++ n, taken_on _ _ _ m n u v, inl (subst (λ bs. GoesFurther (progress c.refill.new.self) bs given) (append_assoc bytes m n) b2));
      going = c.in_default-refill.ensures.going refl ∙ d.1 ∙ sym none;
      stays = λ ending ended. let e : Some ending ≡ None = sym ended ∙ none in absurd (cc);
      many =
          let many = c.loop.invariant.many in
          let held = c.in_default.ensures.holds refl in
          let all = held_all (progress c.ready.new.self) d.0 in
          let more = c.in_default-refill.ensures.more refl in
          omega arith;
      never_falls = let m = c.in_default-refill.ensures.never_falls in let n = c.loop.invariant.never_falls in omega arith;
    }
