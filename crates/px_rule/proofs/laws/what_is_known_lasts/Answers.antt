use Rattle.px_rule.proofs.Since.{kept_since, tells_since, key_since, blocked_since, gap_since, gap_gained}
use Rattle.px_rule.proofs.laws.what_is_known_lasts.Goals as goal

pub returns : goal.returns
returns g c = record {
  kept = λ k n p x v w since. kept_since k n v w since p x;
  told = tells_since g.L.Law.right;
  key = λ z k n word v w since. key_since z k n v w since word;
  set = blocked_since g.L.Law.right;
  gap = λ z k n before word v w since. gap_since z k n v w since before word;
  gained = gap_gained;
}
