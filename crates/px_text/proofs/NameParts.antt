-- Each test of a name, by the first byte and the bytes behind it.
use Rattle.std.proofs.Common.{◌≡◌, ℕ, ◌+◌, ◌<◌, ◌&&◌, ◌==◌, List, [], ◌∷◌, length, drop, get_or, refl, ap, if◌then◌else◌, add-one, arith}
use Rattle.std.proofs.Math.Seq.{drop-cons}
use Rattle.std.specs.List.{list_all}
use Rattle.px_text.specs.Names.{begins_name, continues_name, begins_part, continues_part, is_pyx_name, is_part, ends_filter_name, is_filter_name}

pub pyx_name_by_first : (text : List ℕ) → 0 < length text → is_pyx_name text ≡ (begins_name (get_or text 0 0) && list_all continues_name (drop 1 text))
pyx_name_by_first [] h = absurd (omega arith)
pyx_name_by_first (b ∷ bytes) h = refl

pub part_by_first : (text : List ℕ) → 0 < length text → is_part text ≡ (begins_part (get_or text 0 0) && list_all continues_part (drop 1 text))
part_by_first [] h = absurd (omega arith)
part_by_first (b ∷ bytes) h = refl

pub filter_name_by_first : (text : List ℕ) → 0 < length text → is_filter_name text ≡ (begins_part (get_or text 0 0) && ends_filter_name (drop 1 text))
filter_name_by_first [] h = absurd (omega arith)
filter_name_by_first (b ∷ bytes) h = refl

pub end_at : (text : List ℕ) (i : ℕ) → i < length text → ends_filter_name (drop i text)
    ≡ (if get_or text i 0 == 58 then is_part (drop (i + 1) text) else continues_part (get_or text i 0) && ends_filter_name (drop (i + 1) text))
end_at text i h = let e : drop i text ≡ get_or text i 0 ∷ drop (i + 1) text = rw (add-one, drop-cons text i 0) in ap ends_filter_name e
