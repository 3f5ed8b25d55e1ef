-- The values of the options are in their ranges.
use Rattle.std.proofs.Common.{slice_index_or}
use Rattle.px_options.specs.OptionAnswers.{texts}
use Rattle.xpush.proofs.Lawful.{feed_room, room_is_lawful}
use Rattle.xpush.proofs.hub_words.feed_command.Goals as goal

pub config_of-config-requires : goal.config_of-config-requires
config_of-config-requires c = (feed_room (texts c.args.words.now) c.read_options.new.values c.in-Ok.ensures).for_workers.1

pub returns-in-Ok-clause-lawful : goal.returns-in-Ok-clause-lawful
returns-in-Ok-clause-lawful c =
    let values = c.read_options.new.values in
    room_is_lawful c.config_of-config.result (slice_index_or values 0 0) (slice_index_or values 1 0) (slice_index_or values 2 0) (slice_index_or values 3 0)
    c.config_of-config.ensures (feed_room (texts c.args.words.now) values c.in-Ok.ensures)
