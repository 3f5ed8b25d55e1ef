-- None of the changes that came is of another pass.
use Rattle.px_parallel.proofs.Refreshing.{led_every, led_refreshed}
use Rattle.px_parallel.proofs.workers.Workers.refresh.Goals as goal

pub refresh_all-requires-clause-every : goal.refresh_all-requires-clause-every
refresh_all-requires-clause-every g c = led_every g.N.HubName.passes c.args.passes.now c.requires.led

pub returns-in-Ok-clause-led : goal.returns-in-Ok-clause-led
returns-in-Ok-clause-led g c =
    (led_refreshed g.N.HubName.passes g.N.HubName.table.shape.banks c.in-Ok.field-0 c.args.passes.now c.refresh_all.new.passes c.index-passes-0.result c.requires.led (c.in-Ok.ensures {u = tt}).refreshed
    c.version.ensures.of_passes c.version.ensures.legal).0

pub returns-in-Ok-clause-same : goal.returns-in-Ok-clause-same
returns-in-Ok-clause-same g c =
    (led_refreshed g.N.HubName.passes g.N.HubName.table.shape.banks c.in-Ok.field-0 c.args.passes.now c.refresh_all.new.passes c.index-passes-0.result c.requires.led (c.in-Ok.ensures {u = tt}).refreshed
    c.version.ensures.of_passes c.version.ensures.legal).1

pub returns-in-Ok-clause-seen : goal.returns-in-Ok-clause-seen
returns-in-Ok-clause-seen g c =
    (led_refreshed g.N.HubName.passes g.N.HubName.table.shape.banks c.in-Ok.field-0 c.args.passes.now c.refresh_all.new.passes c.index-passes-0.result c.requires.led (c.in-Ok.ensures {u = tt}).refreshed
    c.version.ensures.of_passes c.version.ensures.legal).2
