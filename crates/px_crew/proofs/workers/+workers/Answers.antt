use Rattle.std.proofs.Common.{sym, subst, List, ◌++◌}
use Rattle.px_crew.specs.Crews.{AllWorked}
use Rattle.px_crew.proofs.Pairs.{worked_both}
use Rattle.px_crew.proofs.workers.+workers.Goals as goal

pub run_crew-returns : goal.run_crew-returns
run_crew-returns g t c =
    let W = g.C.Crew.worked c.args.crew.now in
    let p = c.split_at_mut-front.ensures.value in
    let q = c.split_at_mut-first.ensures.value in
    record {
      worked = subst (λ vs. AllWorked W vs c.args.beside.now (c.run_halves.new.front ++ c.run_halves.new.back) (c.run_halves.new.first ++ c.run_halves.new.last)) (sym p)
          (subst (λ bs. AllWorked W (c.split_at_mut-front.result.0.now ++ c.split_at_mut-front.result.1.now) bs (c.run_halves.new.front ++ c.run_halves.new.back) (c.run_halves.new.first ++ c.run_halves.new.last)) (sym q)
          (worked_both W _ _ _ _ _ _ _ _ c.run_halves.ensures.front c.run_halves.ensures.back));
    }
