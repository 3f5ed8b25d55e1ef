-- The command is what the words say.
use Rattle.px_options.specs.OptionAnswers.{texts}
use Rattle.xpush.specs.Answers.{Ran, moment}
use Rattle.xpush.specs.Forms.{Form, form, plain_form_of}
use Rattle.xpush.proofs.Runs.{ran_out}
use Rattle.xpush.proofs.Saying.{of_any, of_form, in_form}
use Rattle.xpush.proofs.plain.plain.Goals as goal

pub returns-in-Ok-clause-ran : goal.returns-in-Ok-clause-ran
returns-in-Ok-clause-ran g c =
    let P : Form → Type 0 = λ said.
    Ran said
    (moment (g.S.Source.left c.args.source.now) (g.K.Sink.held c.args.sink.now) (g.S.Source.faults c.args.source.now) (g.K.Sink.faults c.args.sink.now))
    (moment (g.S.Source.left c.run_command.new.source) (g.K.Sink.held c.run_command.new.sink) (g.S.Source.faults c.run_command.new.source)
    (g.K.Sink.faults c.run_command.new.sink))
    c.run_command.result in
    of_form (plain_form_of (texts c.args.words.now)) (form c.in-Ok.command) P c.in-Ok.ensures c.run_command.ensures

pub returns-in-Ok-clause-no_form : goal.returns-in-Ok-clause-no_form
returns-in-Ok-clause-no_form g c = λ n. absurd (in_form (plain_form_of (texts c.args.words.now)) (form c.in-Ok.command) c.in-Ok.ensures n)

pub returns-in-Err-Memory-clause-ran : goal.returns-in-Err-Memory-clause-ran
returns-in-Err-Memory-clause-ran g c = of_any (plain_form_of (texts c.args.words.now)) _ (λ said. ran_out said _)
