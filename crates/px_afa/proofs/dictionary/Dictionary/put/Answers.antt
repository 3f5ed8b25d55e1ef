use Rattle.std.proofs.Common.{◌∙◌, refl, ap, cond, Some}
use Rattle.std.specs.Str.{bytes_eq}
use Rattle.px_afa.specs.Dictionaries.{found}
use Rattle.px_afa.proofs.Dictionaries.{put_entry, texts}
use Rattle.px_afa.proofs.dictionary.Dictionary.put.Goals as goal

pub returns : goal.returns
returns c = record {
  put = λ other.
      ap (λ entries. found (texts entries) other) c.in_ok-insert.ensures.entries
      ∙ (put_entry _ (λ a b. refl) c.self.inside.numbers.entries c.in_ok-key.key c.args.number other
      ∙ (ap (λ items. cond (bytes_eq other items) (Some c.args.number) (found (texts c.self.inside.numbers.entries) other)) c.in_ok-key.ensures.items
      ∙ ap (λ texts. cond (bytes_eq other c.args.text.now) (Some c.args.number) (found texts other)) c.self.view_is));
}
