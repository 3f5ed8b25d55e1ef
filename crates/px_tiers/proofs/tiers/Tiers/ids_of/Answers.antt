-- What the tiers find is what is live and passes.
use Rattle.std.proofs.Common.{◌∙◌}
use Rattle.px_xpath.specs.Meaning.{holds}
use Rattle.px_tiers.proofs.Settling.{settled_find}
use Rattle.px_tiers.proofs.tiers.Tiers.ids_of.Goals as goal

pub found_by-requires : goal.found_by-requires
found_by-requires c = let settled = c.requires.settled in record { stand = (settled.1.stand.parts, settled.1.stand.machines); whole = c.requires.whole }

pub returns-clause-ids : goal.returns-clause-ids
returns-clause-ids c = λ live root settled rising e.
    c.of.ensures.same
    ∙ settled_find c.args.self.now live (λ filter. holds filter root) c.in_ok-ids.ids.items c.ascending.result.items settled rising (λ parts machines q. c.in_ok-ids.ensures.ids parts root machines e q)
    c.ascending.ensures.rises c.ascending.ensures.same

pub returns-clause-stand : goal.returns-clause-stand
returns-clause-stand c = λ live settled. record {
  parts = settled.stand.parts;
  machines = c.in_ok-ids.ensures.stand settled.stand.parts settled.stand.machines;
  shared = settled.stand.shared;
  bounded = c.in_ok-ids.ensures.bounded 134_217_728 settled.stand.bounded;
}
