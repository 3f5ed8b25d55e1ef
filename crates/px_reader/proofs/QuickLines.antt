-- What the common lines are, by their parts.
use Rattle.std.proofs.Common.{◌≡◌, ℕ, Bool, true, false, not, ◌||◌, ◌==◌, List, [], ◌∷◌, ◌++◌, refl, ap, ◌∙◌, subst, inl, inr}
use Rattle.std.specs.List.{list_all}
use Rattle.std.specs.Cmp.Derive.{both_true}
use Rattle.std.proofs.lemmas.Bool.{and_parts, not-true}
use Rattle.std.proofs.lemmas.Bool.Decides.{eqb_tells}
use Rattle.px_text.specs.Names.{is_pyx_name, begins_name, continues_name, begins_part, is_digit}
use Rattle.px_text.specs.Escapes.{unescaped}
use Rattle.px_reader.specs.Lines.{Line, Opens, Closes, Gives, Says, named, given_by, line_of, without_end, until_space, behind_space}
use Rattle.px_reader.specs.Plain.{has_no_escape, ends_plain}
use Rattle.px_reader.proofs.LineCuts.{without_cr, without_end-feed}
use Rattle.std.proofs.Math.Bool.{or-true}

-- a byte of a name is no line feed, no carriage return and no space
pub name_byte : (b : ℕ) → continues_name b ≡ true → ((b == 10) ≡ false) × (((b == 13) ≡ false) × ((b == 32) ≡ false))
name_byte b c = (other 10 refl, (other 13 refl, other 32 refl))
  where
    other : (k : ℕ) → continues_name k ≡ false → (b == k) ≡ false
    other k n = elim (eqb_tells b k) [ inl p ↦ absurd (let f : continues_name k ≡ true = subst (λ x. continues_name x ≡ true) p.1 c in cc) | inr p ↦ p.0 ]

wider : (a x y z w : Bool) → (a || w) ≡ true → ((a || x || y || z) || w) ≡ true
wider true x y z w h = refl
wider false x y z true h = or-true (false || x || y || z)
wider false x y z false h = absurd (cc)

-- a name's bytes, the first like the others
pub name_bytes : (name : List ℕ) → is_pyx_name name ≡ true → list_all continues_name name ≡ true
name_bytes [] n = absurd (cc)
name_bytes (b ∷ bytes) n =
    let p = and_parts (begins_name b) (list_all continues_name bytes) n in
    both_true (begins_continues b p.0) p.1
  where
    begins_continues : (b : ℕ) → begins_name b ≡ true → continues_name b ≡ true
    begins_continues b h = wider (begins_part b) (is_digit b) (b == 45) (b == 46) (b == 58) h

-- bytes that end with no carriage return are a line without its end
pub name_no_return : (name : List ℕ) → list_all continues_name name ≡ true → without_cr name ≡ name
name_no_return [] n = refl
name_no_return (b ∷ []) n = let p = and_parts (continues_name b) true n in rw ((name_byte b p.0).1.0) refl
name_no_return (b ∷ c ∷ bytes) n =
    let p = and_parts (continues_name b) (list_all continues_name (c ∷ bytes)) n in
    ap (λ bs. b ∷ bs) (name_no_return (c ∷ bytes) p.1)

-- a first byte that is no carriage return
without_cr-first : (b : ℕ) (bytes : List ℕ) → (b == 13) ≡ false → without_cr bytes ≡ bytes → without_cr (b ∷ bytes) ≡ b ∷ bytes
without_cr-first b [] n e = rw n refl
without_cr-first b (c ∷ bytes) n e = ap (λ bs. b ∷ bs) e

pub until_name : (name rest : List ℕ) → list_all continues_name name ≡ true → (until_space (name ++ 32 ∷ rest) ≡ name) × (behind_space (name ++ 32 ∷ rest) ≡ rest)
until_name [] rest n = (refl, refl)
until_name (b ∷ bytes) rest n =
    let p = and_parts (continues_name b) (list_all continues_name bytes) n in
    let s = (name_byte b p.0).1.1 in
    let ih = until_name bytes rest p.1 in
    (rw s (ap (λ bs. b ∷ bs) ih.0), rw s ih.1)

named_is : (kind : List ℕ → Line) (name : List ℕ) → is_pyx_name name ≡ true → named kind name ≡ kind name
named_is kind name n = rw n refl

-- `(name`
pub opens_is : (name : List ℕ) → is_pyx_name name ≡ true →
    (without_end (40 ∷ (name ++ 10 ∷ [])) ≡ 40 ∷ name) × (line_of (without_end (40 ∷ (name ++ 10 ∷ []))) ≡ Opens name)
opens_is name n =
    let content : without_end (40 ∷ (name ++ 10 ∷ [])) ≡ 40 ∷ name = without_end-feed (40 ∷ name) ∙ without_cr-first 40 name refl (name_no_return name (name_bytes name n)) in
    (content, ap line_of content ∙ named_is (λ n. Opens n) name n)

-- `)name`
pub closes_is : (name : List ℕ) → is_pyx_name name ≡ true →
    (without_end (41 ∷ (name ++ 10 ∷ [])) ≡ 41 ∷ name) × (line_of (without_end (41 ∷ (name ++ 10 ∷ []))) ≡ Closes name)
closes_is name n =
    let content : without_end (41 ∷ (name ++ 10 ∷ [])) ≡ 41 ∷ name = without_end-feed (41 ∷ name) ∙ without_cr-first 41 name refl (name_no_return name (name_bytes name n)) in
    (content, ap line_of content ∙ named_is (λ n. Closes n) name n)

pub plain_text : (text : List ℕ) → has_no_escape text ≡ true → unescaped text ≡ text
plain_text [] n = refl
plain_text (b ∷ text) n =
    let p = and_parts (not (b == 92)) (has_no_escape text) n in
    rw (not-true (b == 92) p.0) (ap (λ bs. b ∷ bs) (plain_text text p.1))

pub no_return : (text : List ℕ) → ends_plain text ≡ true → without_cr text ≡ text
no_return [] n = refl
no_return (b ∷ []) n = rw (not-true (b == 13) n) refl
no_return (b ∷ c ∷ rest) n = ap (λ bs. b ∷ bs) (no_return (c ∷ rest) n)

-- `-text`
pub says_is : (text : List ℕ) → has_no_escape text ≡ true → ends_plain text ≡ true →
    (without_end (45 ∷ (text ++ 10 ∷ [])) ≡ 45 ∷ text) × (line_of (without_end (45 ∷ (text ++ 10 ∷ []))) ≡ Says text)
says_is text n e =
    let content : without_end (45 ∷ (text ++ 10 ∷ [])) ≡ 45 ∷ text = without_end-feed (45 ∷ text) ∙ without_cr-first 45 text refl (no_return text e) in
    (content, ap line_of content ∙ ap (λ t. Says t) (plain_text text n))

-- what stands behind a byte that is no carriage return
no_return-behind : (front : List ℕ) (b : ℕ) (text : List ℕ) → (b == 13) ≡ false → without_cr text ≡ text → without_cr (front ++ b ∷ text) ≡ front ++ b ∷ text
no_return-behind [] b text n e = without_cr-first b text n e
no_return-behind (a ∷ []) b text n e = ap (λ bs. a ∷ bs) (without_cr-first b text n e)
no_return-behind (a ∷ c ∷ front) b text n e = ap (λ bs. a ∷ bs) (no_return-behind (c ∷ front) b text n e)

-- `Aname value`
pub gives_is : (name value : List ℕ) → is_pyx_name name ≡ true → has_no_escape value ≡ true → ends_plain value ≡ true →
    (without_end (65 ∷ ((name ++ 32 ∷ value) ++ 10 ∷ [])) ≡ 65 ∷ (name ++ 32 ∷ value)) × (line_of (without_end (65 ∷ ((name ++ 32 ∷ value) ++ 10 ∷ []))) ≡ Gives name value)
gives_is name value n v e =
    let content : without_end (65 ∷ ((name ++ 32 ∷ value) ++ 10 ∷ [])) ≡ 65 ∷ (name ++ 32 ∷ value) =
    without_end-feed (65 ∷ (name ++ 32 ∷ value)) ∙ no_return-behind (65 ∷ name) 32 value refl (no_return value e) in
    let parts = until_name name value (name_bytes name n) in (
      content,
      ap line_of content ∙ given (name ++ 32 ∷ value) parts.0 parts.1,
    )
  where
    given : (bytes : List ℕ) → until_space bytes ≡ name → behind_space bytes ≡ value → given_by bytes ≡ Gives name value
    given bytes s b = rw (s, b, n) (ap (λ t. Gives name t) (plain_text value v))
