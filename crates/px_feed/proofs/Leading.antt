-- What lines give behind others that gave items.
use Rattle.std.proofs.Common.{◌≡◌, ℕ, ◌+◌, ◌<◌, ◌≤◌, List, [], ◌∷◌, ◌++◌, length, take, refl, sym, subst, append_assoc, append-nil, arith}
use Rattle.std.proofs.lemmas.List.Sums.{sum_by-take-le}
use Rattle.px_text.specs.Nodes.{Root}
use Rattle.px_reader.specs.Lines.{without_end}
use Rattle.px_reader.specs.Spelling.{Spells}
use Rattle.px_reader.specs.Verdicts.{IsFine}
use Rattle.px_reader.specs.declared.fault.DocKind.TheVariants.{Truncated}
use Rattle.px_reader.proofs.LineCuts.{take_lines}
use Rattle.px_reader.proofs.Judged.{fine_behind}
use Rattle.px_feed.specs.declared.line.FeedKind.{FeedKind}
use Rattle.px_feed.specs.declared.line.FeedKind.TheVariants.{Doc, FeedLong}
use Rattle.px_feed.specs.Items.{Item, Showing, Stop, AtEnd, AtFault, Skips, Brings, outside, ShowsOutside, ShowsInside, IsFirst, HasNone, GoesOn, IsWhole, Begins, Gives, no_lines, skips, brings, outside_faulty, document, inside_faulty, truncated, bytes_in, most_bytes}
use Rattle.px_feed.specs.Cutting.{Leads}

-- the same by lines and items that are put together otherwise
again : (before lines rest : List (List ℕ)) (given more items : List Item) (stop : Stop) →
    Gives [] (before ++ (lines ++ rest)) (given ++ (more ++ items)) stop → Gives [] ((before ++ lines) ++ rest) ((given ++ more) ++ items) stop
again before lines rest given more items stop g =
    subst (λ its. Gives [] ((before ++ lines) ++ rest) its stop) (sym (append_assoc given more items))
    (subst (λ ls. Gives [] ls (given ++ (more ++ items)) stop) (sym (append_assoc before lines rest)) g)

pub leads_skip : (before : List (List ℕ)) (line : List ℕ) (given : List Item) → Leads before given → HasNone (ShowsOutside before line) →
    outside (without_end line) ≡ Skips → Leads (before ++ line ∷ []) given
leads_skip before line given leads fine e rest items stop g =
    subst (λ ls. Gives [] ls (given ++ items) stop) (sym (append_assoc before (line ∷ []) rest)) (leads (line ∷ rest) items stop (skips fine e g))

pub leads_bring : (before : List (List ℕ)) (line : List ℕ) (given : List Item) (item : Item) → Leads before given → HasNone (ShowsOutside before line) →
    outside (without_end line) ≡ Brings item → Leads (before ++ line ∷ []) (given ++ item ∷ [])
leads_bring before line given item leads fine e rest items stop g =
    again before (line ∷ []) rest given (item ∷ []) items stop (leads (line ∷ rest) (item ∷ items) stop (brings fine e g))

-- lines that begin a document
pub record Opening (before lines : List (List ℕ)) : Type 0 where
  pub first : List ℕ
  pub more : List (List ℕ)
  pub lines_are : lines ≡ first ∷ more
  pub begins : Begins before first

-- a document, and what stands behind it
pub gives_document : (before lines rest : List (List ℕ)) (root : Root) (items : List Item) (stop : Stop) → Opening before lines → IsWhole before lines root →
    Gives (before ++ lines) rest items stop → Gives before (lines ++ rest) (Showing root ∷ items) stop
gives_document before lines rest root items stop o whole g =
    subst (λ ls. Gives before (ls ++ rest) (Showing root ∷ items) stop) (sym o.lines_are) (document o.begins whole' behind)
  where
    whole' : IsWhole before (o.first ∷ o.more) root
    whole' = subst (λ ls. IsWhole before ls root) o.lines_are whole

    behind : Gives (before ++ o.first ∷ o.more) rest items stop
    behind = subst (λ ls. Gives (before ++ ls) rest items stop) o.lines_are g

pub leads_document : (before lines : List (List ℕ)) (given : List Item) (root : Root) → Leads before given → Opening before lines → IsWhole before lines root →
    Leads (before ++ lines) (given ++ Showing root ∷ [])
leads_document before lines given root leads o whole rest items stop g =
    again before lines rest given (Showing root ∷ []) items stop (leads (lines ++ rest) (Showing root ∷ items) stop (gives_document before lines rest root items stop o whole g))

-- the lines are all
pub ended : (lines : List (List ℕ)) (given : List Item) → Leads lines given → Gives [] lines given AtEnd
ended lines given leads =
    subst (λ its. Gives [] lines its AtEnd) (append-nil given) (subst (λ ls. Gives [] ls (given ++ []) AtEnd) (append-nil lines) (leads [] [] AtEnd no_lines))

-- the lines stop
stopped : (before lines : List (List ℕ)) (given : List Item) (stop : Stop) → Leads before given → Gives before lines [] stop → Gives [] (before ++ lines) given stop
stopped before lines given stop leads g = subst (λ its. Gives [] (before ++ lines) its stop) (append-nil given) (leads lines [] stop g)

pub fails_outside : (before : List (List ℕ)) (line : List ℕ) (given : List Item) (kind : FeedKind) (n : ℕ) → Leads before given → IsFirst (ShowsOutside before line) kind →
    n ≡ length before + 1 → (rest : List (List ℕ)) → Gives [] ((before ++ line ∷ []) ++ rest) given (AtFault n kind)
fails_outside before line given kind n leads first e rest =
    subst (λ k. Gives [] ((before ++ line ∷ []) ++ rest) given (AtFault k kind)) (sym e)
    (subst (λ ls. Gives [] ls given (AtFault (length before + 1) kind)) (sym (append_assoc before (line ∷ []) rest))
    (stopped before (line ∷ rest) given (AtFault (length before + 1) kind) leads (outside_faulty first)))

-- a document with a fault
pub gives_fault : (before lines : List (List ℕ)) (k : ℕ) (kind : FeedKind) → Opening before lines → k < length lines → GoesOn before lines k →
    IsFirst (ShowsInside before lines k) kind → Gives before lines [] (AtFault (length before + k + 1) kind)
gives_fault before lines k kind o l on first =
    subst (λ ls. Gives before ls [] (AtFault (length before + k + 1) kind)) (sym o.lines_are)
    (inside_faulty k o.begins (subst (λ ls. k < length ls) o.lines_are l) (subst (λ ls. GoesOn before ls k) o.lines_are on)
    (subst (λ ls. IsFirst (ShowsInside before ls k) kind) o.lines_are first))

pub fails_inside : (before lines : List (List ℕ)) (k : ℕ) (given : List Item) (kind : FeedKind) (n : ℕ) → Leads before given → Opening before lines → k < length lines →
    GoesOn before lines k → IsFirst (ShowsInside before lines k) kind → n ≡ length before + k + 1 → Gives [] (before ++ lines) given (AtFault n kind)
fails_inside before lines k given kind n leads o l on first e =
    subst (λ k. Gives [] (before ++ lines) given (AtFault k kind)) (sym e)
    (stopped before lines given (AtFault (length before + k + 1) kind) leads (gives_fault before lines k kind o l on first))

-- a document that does not end
pub gives_truncated : (before lines : List (List ℕ)) → Opening before lines → GoesOn before lines (length lines) →
    Gives before lines [] (AtFault (length before + length lines) (Doc Truncated))
gives_truncated before lines o on =
    subst (λ ls. Gives before ls [] (AtFault (length before + length ls) (Doc Truncated))) (sym o.lines_are)
    (truncated o.begins (subst (λ ls. GoesOn before ls (length ls)) o.lines_are on))

pub truncates : (before lines : List (List ℕ)) (given : List Item) (n : ℕ) → Leads before given → Opening before lines → GoesOn before lines (length lines) →
    n ≡ length before + length lines → Gives [] (before ++ lines) given (AtFault n (Doc Truncated))
truncates before lines given n leads o on e =
    subst (λ k. Gives [] (before ++ lines) given (AtFault k (Doc Truncated))) (sym e)
    (stopped before lines given (AtFault (length before + length lines) (Doc Truncated)) leads (gives_truncated before lines o on))

-- lines of a document with one more
pub opening_push : (before lines : List (List ℕ)) (line : List ℕ) (rest : List (List ℕ)) → (lines ≡ [] → Begins before line) →
    ((first : List ℕ) (more : List (List ℕ)) → lines ≡ first ∷ more → Begins before first) → Opening before (lines ++ line ∷ rest)
opening_push before [] line rest one begins = record { first = line; more = rest; lines_are = refl; begins = one refl }
opening_push before (first ∷ more) line rest one begins = record { first = first; more = more ++ line ∷ rest; lines_are = refl; begins = begins first more refl }

-- no line is too far behind the feed's first byte
pub not_long : (before lines more : List (List ℕ)) (k : ℕ) → k ≤ length lines → bytes_in before + bytes_in lines ≤ most_bytes →
    most_bytes < bytes_in before + bytes_in (take k (lines ++ more)) → ⊥
not_long before lines more k l fits long =
    over most_bytes (bytes_in before) (bytes_in lines) (bytes_in (take k lines)) (sum_by-take-le length lines k) fits
    (subst (λ ls. most_bytes < bytes_in before + bytes_in ls) (take_lines lines more k l) long)
  where
    over : (m a b c : ℕ) → c ≤ b → a + b ≤ m → m < a + c → ⊥
    over m a b c p q r = omega arith

-- none of the lines has a fault, whatever comes behind them
none_inside : (before lines more : List (List ℕ)) (j : ℕ) → ((k : ℕ) → k < length lines → IsFine lines k) → bytes_in before + bytes_in lines ≤ most_bytes →
    j < length lines → HasNone (ShowsInside before (lines ++ more) j)
none_inside before lines more j fine fits l FeedLong s = not_long before lines more (j + 1) (omega arith) fits s
none_inside before lines more j fine fits l (Doc kind) s = fine_behind lines more j l (fine j l) kind s

pub goes_on : (before lines more : List (List ℕ)) → ((k : ℕ) → k < length lines → IsFine lines k) →
    ((j : ℕ) (root : Root) → j ≤ length lines → Spells (take j lines) root → ⊥) → bytes_in before + bytes_in lines ≤ most_bytes → GoesOn before (lines ++ more) (length lines)
goes_on before lines more fine still fits = record {
  fine = λ j l. none_inside before lines more j fine fits l;
  still_open = λ j root l spells. still j root l (subst (λ ls. Spells ls root) (take_lines lines more j l) spells);
}

pub goes_on_all : (before lines : List (List ℕ)) → ((k : ℕ) → k < length lines → IsFine lines k) →
    ((j : ℕ) (root : Root) → j ≤ length lines → Spells (take j lines) root → ⊥) → bytes_in before + bytes_in lines ≤ most_bytes → GoesOn before lines (length lines)
goes_on_all before lines fine still fits = subst (λ ls. GoesOn before ls (length lines)) (append-nil lines) (goes_on before lines [] fine still fits)

pub is_whole_document : (before lines : List (List ℕ)) (root : Root) → ((k : ℕ) → k < length lines → IsFine lines k) →
    ((j : ℕ) (other : Root) → j < length lines → Spells (take j lines) other → ⊥) → Spells lines root → bytes_in before + bytes_in lines ≤ most_bytes → IsWhole before lines root
is_whole_document before lines root fine still spells fits = record {
  fine = λ j l. subst (λ ls. HasNone (ShowsInside before ls j)) (append-nil lines) (none_inside before lines [] j fine fits l);
  still_open = still;
  spells = spells;
}
