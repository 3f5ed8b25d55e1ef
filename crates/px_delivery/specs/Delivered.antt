-- What a call that delivers a document answers.
use Rattle.std.specs.Prelude.{Result, Ok, Err}
use Rattle.px_hub.specs.declared.reply.Reply.{Reply}
use Rattle.px_hub.specs.declared.reply.FilterCallFault.{FilterCallFault}
use Rattle.px_post.specs.declared.waiting.Resumed.{Resumed}
use Rattle.px_post.specs.declared.waiting.Resumed.TheVariants.{Done, Full}
use Rattle.px_delivery.specs.declared.sent.Sent.{Sent}
use Rattle.px_delivery.specs.declared.sent.Sent.TheVariants.{All, Part}

abbrev pub reply_of : Sent → Reply
reply_of (All reply) = reply
reply_of (Part reply mailbox left) = reply

-- what became of its letters
abbrev pub end_of : Sent → Resumed
end_of (All reply) = Done
end_of (Part reply mailbox left) = Full mailbox left

-- what the filter call answered, where want of memory behind it counts as its own
abbrev pub filtered : Result Sent FilterCallFault → Result Reply FilterCallFault
filtered (Ok sent) = Ok (reply_of sent)
filtered (Err fault) = Err fault
