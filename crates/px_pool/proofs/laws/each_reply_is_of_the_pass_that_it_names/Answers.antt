use Rattle.px_pool.proofs.Naming.{replies_of}
use Rattle.px_pool.proofs.laws.each_reply_is_of_the_pass_that_it_names.Goals as goal

pub returns : goal.returns
returns c z docs vs ws replies b = replies_of z docs replies vs ws b
