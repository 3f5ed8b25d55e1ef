-- The line that the kept bytes begin and the part ends is judged.
use Rattle.std.proofs.Common.{◌≡◌, ◌++◌, ◌∷◌, [], List, ℕ, ◌<◌, length, take, refl, sym, ap, ◌∙◌, subst, length-take, arith, vec_len}
use Rattle.px_reader.specs.Progressing.{state_apart}
use Rattle.px_reader.specs.States.{Judging}
use Rattle.px_reader.proofs.Feeding.{count_none}
use Rattle.px_reader.proofs.Kept.{kept_judged, kept_more}
use Rattle.px_reader.proofs.Stopping.{judging_appends}
use Rattle.px_reader.proofs.judge.Judge.take_line.Goals as goal

nothing_begun : (n : ℕ) (kept begun : List ℕ) → 0 < n → length kept ≡ 0 → kept ≡ take n begun → begun ≡ []
nothing_begun n kept [] some none e = refl
nothing_begun n kept (b ∷ begun) some none e = let l = ap length e ∙ length-take n (b ∷ begun) in absurd (omega arith)

pub returns-then-is_empty-clause-judged : goal.returns-then-is_empty-clause-judged
returns-then-is_empty-clause-judged c = λ begun e.
    let empty : length c.args.self.now.kept.items ≡ 0 = let l = count_none (vec_len c.args.self.now.kept) c.is_empty.result c.is_empty.ensures c.if-is_empty.true in omega arith in
    let none : begun ≡ [] = nothing_begun 1_048_579 c.args.self.now.kept.items begun (omega arith) empty e in
    subst (λ begun. Judging (state_apart c.args.self.now.scanner) (begun ++ c.args.part.now) c.judge_line.result (state_apart c.judge_line.new.scanner) c.args.out.now.items c.judge_line.new.out.items) (sym none) c.judge_line.ensures.judged

pub returns-clause-judged : goal.returns-clause-judged
returns-clause-judged c = λ begun e.
    let whole = begun ++ c.args.part.now in
    let kept : c.as_slice.result.now ≡ take 1_048_579 whole = c.as_slice.ensures.value ∙ c.in_ok-keep.ensures ∙ kept_more c.args.self.now.kept.items begun c.args.part.now e in
    let judged = subst (λ line. Judging (state_apart c.args.self.now.scanner) line c.judge_line-judged.result (state_apart c.judge_line-judged.new.scanner) c.args.out.now.items c.judge_line-judged.new.out.items) kept c.judge_line-judged.ensures.judged in
    kept_judged (state_apart c.args.self.now.scanner) (state_apart c.judge_line-judged.new.scanner) whole c.judge_line-judged.result c.args.out.now.items c.judge_line-judged.new.out.items judged

pub returns-then-is_empty-clause-appends : goal.returns-then-is_empty-clause-appends
returns-then-is_empty-clause-appends c =
    judging_appends (state_apart c.args.self.now.scanner) (state_apart c.judge_line.new.scanner) c.args.part.now c.judge_line.result c.args.out.now.items c.judge_line.new.out.items c.judge_line.ensures.judged

pub returns-clause-appends : goal.returns-clause-appends
returns-clause-appends c =
    judging_appends (state_apart c.args.self.now.scanner) (state_apart c.judge_line-judged.new.scanner) c.as_slice.result.now c.judge_line-judged.result c.args.out.now.items c.judge_line-judged.new.out.items c.judge_line-judged.ensures.judged
