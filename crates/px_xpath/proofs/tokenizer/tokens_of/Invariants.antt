use Rattle.std.proofs.Common.{◌≡◌, ◌-◌, ◌≤◌, length, ◌++◌}
use Rattle.px_xpath.specs.Tokens.{tokens, tokens_from}
use Rattle.px_xpath.specs.TokenViews.{all_placed}
use Rattle.px_xpath.proofs.tokenizer.tokens_of.Given as goal

abbrev pub invariant-loop : goal.invariant-loop
invariant-loop l = record {
  within : length l.rest ≤ length l.text;
  so_far : all_placed l.found.items ++ tokens_from (length l.text - l.index) l.is_behind_operand (length l.text - length l.rest) l.rest ≡ tokens l.text;
}
