-- clap's answer is that of the options' definition.
use Rattle.std.proofs.Common.{◌∙◌}
use Rattle.px_options.specs.OptionAnswers.{texts}
use Rattle.px_options.proofs.Answering.{answers_error, clap_refuses, clap_takes, hyphens, not_written, was_written, words_checked}
use Rattle.px_options.proofs.read_options.Goals as goal

pub returns-then-not-are_words : goal.returns-then-not-are_words
returns-then-not-are_words c =
    hyphens c.args.options.now (texts c.args.words.now) c.requires.named (words_checked c.args.words.now c.are_words.result _ c.are_words.ensures c.if-not-are_words.true)

pub returns-then-write_values : goal.returns-then-write_values
returns-then-write_values c =
    clap_takes c.args.options.now (texts c.args.words.now) c.in_ok-command.command c.in_ok-command.ensures
    (words_checked c.args.words.now c.are_words.result _ c.are_words.ensures c.if-not-are_words.false) c.in-Ok.matches c.in-Ok.ensures.matches c.in-Ok.ensures.kinds
    ∙ was_written _ _ _ c.write_values.ensures c.if-write_values.true

pub returns-in-Ok : goal.returns-in-Ok
returns-in-Ok c =
    clap_takes c.args.options.now (texts c.args.words.now) c.in_ok-command.command c.in_ok-command.ensures
    (words_checked c.args.words.now c.are_words.result _ c.are_words.ensures c.if-not-are_words.false) c.in-Ok.matches c.in-Ok.ensures.matches c.in-Ok.ensures.kinds
    ∙ not_written _ _ _ c.write_values.ensures c.if-write_values.false

pub returns : goal.returns
returns c =
    answers_error (Unit {0}) _ _ _ (λ usage.
    clap_refuses c.args.options.now (texts c.args.words.now) c.in_ok-command.command c.in_ok-command.ensures
    (words_checked c.args.words.now c.are_words.result _ c.are_words.ensures c.if-not-are_words.false) c.in-Err.error c.in-Err.ensures.kinds (c.refusal_of.ensures.usage usage))
