use Rattle.px_text.specs.Names.{is_white}
use Rattle.px_xpath.proofs.Fronts.{past_counted}
use Rattle.px_xpath.proofs.tokenizer.behind_white.Goals as goal

pub returns-clause-same : goal.returns-clause-same
returns-clause-same c = past_counted is_white c.args.text.now c.white_count-count.result c.white_count-count.ensures
