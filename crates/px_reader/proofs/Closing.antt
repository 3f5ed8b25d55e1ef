-- What is known of a document where a line has ended.
use Rattle.std.proofs.Common.{◌≡◌, ℕ, true, false, not, ◌==◌, List, [], ◌∷◌, ◌++◌, length, sym, ◌∙◌, ap, subst, append-nil, refl}
use Rattle.std.proofs.lemmas.Bool.{and_parts, not-true}
use Rattle.px_reader.specs.declared.event.Event.{Event}
use Rattle.px_reader.specs.Progress.{Progress}
use Rattle.px_reader.specs.Judged.{Judged}
use Rattle.px_reader.specs.Lines.{lines_of, has_no_feed, is_whole}
use Rattle.px_reader.specs.Reading.{HasRead, IsClosed, IsStillOpen}
use Rattle.px_reader.specs.States.{is_after}
use Rattle.px_reader.proofs.Feeding.{all_tree, all_truncated}

-- whole bytes behind others
whole_behind : (a : List ℕ) (b : ℕ) (bytes : List ℕ) → is_whole (a ++ b ∷ bytes) ≡ is_whole (b ∷ bytes)
whole_behind [] b bytes = refl
whole_behind (x ∷ []) b bytes = refl
whole_behind (x ∷ y ∷ a) b bytes = whole_behind (y ∷ a) b bytes

-- bytes that end with a line feed have one
none_whole : (bytes : List ℕ) → is_whole bytes ≡ true → has_no_feed bytes ≡ true → bytes ≡ []
none_whole [] w n = refl
none_whole (b ∷ []) w n = let f : (b == 10) ≡ false = not-true (b == 10) (and_parts (not (b == 10)) true n).0 in let g : true ≡ false = sym w ∙ f in absurd (cc)
none_whole (b ∷ c ∷ bytes) w n = let e = none_whole (c ∷ bytes) w (and_parts (not (b == 10)) (has_no_feed (c ∷ bytes)) n).1 in absurd (cc)

-- nothing has begun behind whole bytes
none_begun : (ended begun : List ℕ) → is_whole (ended ++ begun) ≡ true → has_no_feed begun ≡ true → begun ≡ []
none_begun ended [] w n = refl
none_begun ended (b ∷ begun) w n = none_whole (b ∷ begun) (sym (whole_behind ended b begun) ∙ w) n

-- all lines of what was read are judged
pub read_judged : (reader : Progress) (bytes : List ℕ) (given : List Event) → HasRead reader bytes given → is_whole bytes ≡ true →
    Judged (lines_of bytes) (reader.state) given
read_judged reader bytes given h w =
    let r = h.reading in
    let none = none_begun r.ended r.begun (subst (λ bs. is_whole bs ≡ true) r.bytes_are w) r.no_feed in
    let same : bytes ≡ r.ended = r.bytes_are ∙ ap (λ bs. r.ended ++ bs) none ∙ append-nil r.ended in
    subst (λ bs. Judged (lines_of bs) (reader.state) given) (sym same) r.judged

pub closed_tree : (reader : Progress) → is_after (reader.state) ≡ true → IsClosed reader
closed_tree reader a bytes given h w =
    let (root, more, behind, all, verdict) = all_tree (reader.state) (length (lines_of bytes)) bytes given [] []
    ([], refl, subst (λ (evs : List Event). Judged (lines_of bytes) (reader.state) evs) (sym (append-nil given)) (read_judged reader bytes given h w), refl) a in
    (root, verdict)

pub open_no_tree : (reader : Progress) → is_after (reader.state) ≡ false → IsStillOpen reader
open_no_tree reader a bytes given h w root spells =
    let verdict = all_truncated (reader.state) (length (lines_of bytes)) bytes given [] []
    ([], refl, subst (λ (evs : List Event). Judged (lines_of bytes) (reader.state) evs) (sym (append-nil given)) (read_judged reader bytes given h w), refl) a in
    verdict.1 root spells
