-- What was said is run, or nothing was.
use Rattle.std.proofs.Common.{◌≡◌, Bool, Option, Result, Err, inl, inr, refl, sym, subst}
use Rattle.px_feed.specs.declared.status.Status.{Status}
use Rattle.px_options.specs.declared.OptionsError.{OptionsError}
use Rattle.px_options.specs.declared.OptionsError.TheVariants.{Usage, Memory}
use Rattle.xpush.specs.declared.hub_words.HubCommand.{HubCommand}
use Rattle.xpush.specs.Answers.{Moment, RanSaid, moment, refused}
use Rattle.xpush.specs.Forms.{Form, IsSaid, hub_form}
use Rattle.xpush.proofs.Runs.{ran_out}
use Rattle.xpush.proofs.Saying.{none_said, of_any}
use Rattle.xpush.proofs.run.run_said.Goals as goal

unread : (form : Option Form) (has_options : Bool) (error : OptionsError) (now : Moment) → IsSaid hub_form form has_options (Err error) →
    RanSaid form has_options now now (refused error)
unread form has_options Usage now none = (none_said form none _, λ n. record { ended = inl refl; untouched = refl })
unread form has_options Memory now options = (of_any form _ (λ one. ran_out one now), λ n. record { ended = inr (options, refl); untouched = refl })

pub returns-in-Err : goal.returns-in-Err
returns-in-Err g c = λ form has_options said.
    let now = moment (g.S.Source.left c.args.source.now) (g.K.Sink.held c.args.sink.now) (g.S.Source.faults c.args.source.now) (g.K.Sink.faults c.args.sink.now) in
    let P : Result HubCommand OptionsError → Type 0 = λ one. IsSaid hub_form form has_options one in
    let Q : Status → Type 0 = λ status. RanSaid form has_options now now status in
    subst Q (sym c.refusal_of.ensures) (unread form has_options c.in-Err.error now (subst P c.in-Err.is said))
