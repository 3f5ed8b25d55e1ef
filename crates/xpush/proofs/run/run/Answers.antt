-- The words name a command over a hub, or one that needs no runtime.
use Rattle.px_options.specs.OptionAnswers.{texts}
use Rattle.xpush.specs.Forms.{form_of, have_options}
use Rattle.xpush.proofs.run.run.Goals as goal

pub returns-in-Some-clause-ran : goal.returns-in-Some-clause-ran
returns-in-Some-clause-ran g c =
    (c.run_said.ensures (form_of (texts c.args.words.now)) (have_options (texts c.args.words.now)) (c.in-Some.ensures).said).0

pub returns-in-Some-clause-no_form : goal.returns-in-Some-clause-no_form
returns-in-Some-clause-no_form g c =
    (c.run_said.ensures (form_of (texts c.args.words.now)) (have_options (texts c.args.words.now)) (c.in-Some.ensures).said).1
