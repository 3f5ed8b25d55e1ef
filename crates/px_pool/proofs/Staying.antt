-- A pass that stays as it is, over one call and over several.
use Rattle.std.proofs.Common.{◌≡◌, false, refl, ◌∙◌}
use Rattle.px_rule.specs.declared.view.Place.TheVariants.{Outside}
use Rattle.px_rule.proofs.Since.{since_trans, since_idle}
use Rattle.px_hub.specs.Passes.{PassView}
use Rattle.px_hub.specs.Replying.{SamePass, Stays}

pub same : (v : PassView) → SamePass v v
same v = record { number = refl; past = refl; have = refl; home = refl; since = λ n. since_idle n v.view v.view refl refl }

pub stays_same : (v : PassView) → v.is_open ≡ false → v.view.stay.place ≡ Outside → Stays v v
stays_same v closed outside = record { same = same v; closed = closed; outside = outside }

pub same_on : (u v w : PassView) → SamePass u v → SamePass v w → SamePass u w
same_on u v w a b = record {
  number = b.number ∙ a.number;
  past = b.past ∙ a.past;
  have = b.have ∙ a.have;
  home = b.home ∙ a.home;
  since = λ n. since_trans n u.view v.view w.view (a.since n) (b.since n);
}

pub stays_on : (u v w : PassView) → Stays u v → Stays v w → Stays u w
stays_on u v w a b = record { same = same_on u v w a.same b.same; closed = b.closed; outside = b.outside }
