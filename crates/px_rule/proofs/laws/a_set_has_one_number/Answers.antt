use Rattle.px_rule.proofs.RightBanks.{one_number, one_set, set_grow}
use Rattle.px_rule.proofs.laws.a_set_has_one_number.Goals as goal

pub returns : goal.returns
returns g c = record {
  one_number = λ nodes steps path long log. one_number nodes steps path long (g.L.Law.right log);
  one_set = one_set;
  lasts = set_grow;
}
