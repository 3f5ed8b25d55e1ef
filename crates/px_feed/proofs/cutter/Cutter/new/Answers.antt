-- No lines gave no items, and no document has begun.
use Rattle.std.proofs.Common.{[], refl, subst, arith}
use Rattle.std.proofs.lemmas.List.{take_all}
use Rattle.px_reader.specs.Machine.{Before}
use Rattle.px_reader.specs.Spelling.{Spells}
use Rattle.px_reader.proofs.Judged.{judged_none, judged_truncated}
use Rattle.px_feed.proofs.Cuttings.{none_fine}
use Rattle.px_feed.proofs.cutter.Cutter.new.Goals as goal

pub returns : goal.returns
returns c = record {
  standing = record {
    before = [];
    inside = [];
    lines_are = refl;
    stands = record {
      leads = λ rest items stop gives. gives;
      whole = refl;
      recorded = record { bytes_are = c.new.ensures; fine = none_fine };
      begins = λ line more e. absurd (cc);
      still_open = λ j root l spells.
          (judged_truncated [] Before [] judged_none (λ e. absurd (cc))).1 root (subst (λ ls. Spells ls root) (take_all j [] (omega arith)) spells);
    };
  };
  counts = c.start.ensures.lines;
  sizes = c.start.ensures.bytes;
}
