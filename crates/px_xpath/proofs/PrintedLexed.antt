-- A printed filter is read as its tokens.
use Rattle.std.proofs.Common.{◌≡◌, ℕ, Bool, true, false, ◌==◌, List, [], ◌∷◌, ◌++◌, length, refl, ap, sym, ◌∙◌, arith, if◌then◌else◌, ◌⊎◌, inl, inr, append_assoc, append-nil, subst}
use Rattle.std.specs.List.{list_all, list_any}
use Rattle.std.proofs.lemmas.Bool.Decides.{nat_tests}
use Rattle.px_text.specs.Names.{is_digit, begins_part, ends_filter_name, is_filter_name}
use Rattle.px_text.specs.Numbers.{is_empty, starts_with_byte, sign}
use Rattle.px_xpath.specs.declared.filter.Axis.{Axis}
use Rattle.px_xpath.specs.declared.filter.Axis.TheVariants.{Child, Below}
use Rattle.px_xpath.specs.declared.filter.Test.{Test}
use Rattle.px_xpath.specs.declared.filter.Test.TheVariants.{Element, AnyElement, Attribute, AnyAttribute, Text}
use Rattle.px_xpath.specs.declared.filter.Relation.{Relation}
use Rattle.px_xpath.specs.declared.filter.Relation.TheVariants.{Equal, NotEqual, Less, AtMost, Greater, AtLeast}
use Rattle.px_xpath.specs.declared.filter.Value.{Value}
use Rattle.px_xpath.specs.declared.filter.Value.TheVariants.{Number, Literal}
use Rattle.px_xpath.specs.declared.printer.Joint.{Joint}
use Rattle.px_xpath.specs.declared.printer.Joint.TheVariants.{Both, Either}
use Rattle.px_xpath.specs.Filters.{Way, Arrived, StepThen, Condition, Selects, Compares, EachOf, SomeOf, Fails, Conditions, NoConditions, CondThen}
use Rattle.px_xpath.specs.Tokens.{Token, Slash, Slashes, OpenSquare, CloseSquare, Open, Close, At, Star, Dot, Minus, Related, AndWord, OrWord, NotWord, TextWord, tokens}
use Rattle.px_xpath.specs.Grammar.{separator}
use Rattle.px_xpath.specs.Faults.{words}
use Rattle.px_xpath.specs.Printed.{printed_axis, printed_start, printed_test, printed_relation, printed_value, joining, in_brackets_if, stands_bracketed, quote_of, printed, printed_steps, printed_path, printed_preds, printed_condition, printed_members, printed_more}
use Rattle.px_xpath.proofs.PrintedNumbers.{printed_is, whole_digits, decimals_digits, whole_some, is_below_zero, printed_whole, printed_decimals, printed_fraction}
use Rattle.px_xpath.proofs.PrintedTokens.{test_tokens, start_tokens, value_tokens, minus_if, joining_token, open_if, close_if, steps_tokens, path_tokens, preds_tokens, condition_tokens, members_tokens, more_tokens}
use Rattle.px_xpath.proofs.Lexing.{Lexes, Ends, lexes_end, take_token, skip_space, lexes_name, lexes_literal, lexes_single, lexes_number}
use Rattle.px_xpath.proofs.Writable.{IsGoodTest, IsGoodValue, HasSteps, HasTwo, IsWritable, CanBeWritten, AreWritable}
use Rattle.std.proofs.lemmas.Bool.{and_parts}

-- The printed parts of a filter before a text.
abbrev axis_text : Axis → List ℕ → List ℕ
axis_text Child rest = 47 ∷ rest
axis_text Below rest = 47 ∷ 47 ∷ rest

abbrev start_text : Axis → List ℕ → List ℕ
start_text Child rest = rest
start_text Below rest = 46 ∷ 47 ∷ 47 ∷ rest

abbrev test_text : Test → List ℕ → List ℕ
test_text (Element name) rest = name ++ rest
test_text AnyElement rest = 42 ∷ rest
test_text (Attribute name) rest = 64 ∷ (name ++ rest)
test_text AnyAttribute rest = 64 ∷ 42 ∷ rest
test_text Text rest = 116 ∷ 101 ∷ 120 ∷ 116 ∷ 40 ∷ 41 ∷ rest

abbrev relation_text : Relation → List ℕ → List ℕ
relation_text Equal rest = 61 ∷ rest
relation_text NotEqual rest = 33 ∷ 61 ∷ rest
relation_text Less rest = 60 ∷ rest
relation_text AtMost rest = 60 ∷ 61 ∷ rest
relation_text Greater rest = 62 ∷ rest
relation_text AtLeast rest = 62 ∷ 61 ∷ rest

abbrev minus_text : Bool → List ℕ → List ℕ
minus_text true rest = 45 ∷ rest
minus_text false rest = rest

abbrev value_text : Value → List ℕ → List ℕ
value_text (Number units) rest = minus_text (is_below_zero units) (printed_whole units ++ (printed_fraction (printed_decimals units) ++ rest))
value_text (Literal text) rest = quote_of text ∷ (text ++ quote_of text ∷ rest)

abbrev joining_text : Joint → List ℕ → List ℕ
joining_text Both rest = 32 ∷ 97 ∷ 110 ∷ 100 ∷ 32 ∷ rest
joining_text Either rest = 32 ∷ 111 ∷ 114 ∷ 32 ∷ rest

abbrev open_text : Bool → List ℕ → List ℕ
open_text true rest = 40 ∷ rest
open_text false rest = rest

abbrev close_text : Bool → List ℕ → List ℕ
close_text true rest = 41 ∷ rest
close_text false rest = rest

abbrev mutual
  steps_text : Way → List ℕ → List ℕ
  steps_text Arrived rest = rest
  steps_text (StepThen axis t conds onward) rest = axis_text axis (test_text t (preds_text conds (steps_text onward rest)))

  path_text : Way → List ℕ → List ℕ
  path_text Arrived rest = rest
  path_text (StepThen axis t conds onward) rest = start_text axis (test_text t (preds_text conds (steps_text onward rest)))

  preds_text : Conditions → List ℕ → List ℕ
  preds_text NoConditions rest = rest
  preds_text (CondThen c cs) rest = 91 ∷ condition_text c (93 ∷ preds_text cs rest)

  condition_text : Condition → List ℕ → List ℕ
  condition_text (Selects path) rest = path_text path rest
  condition_text (Compares path r v) rest = path_text path (relation_text r (value_text v rest))
  condition_text (EachOf cs) rest = members_text Both cs rest
  condition_text (SomeOf cs) rest = members_text Either cs rest
  condition_text (Fails c) rest = 110 ∷ 111 ∷ 116 ∷ 40 ∷ condition_text c (41 ∷ rest)

  members_text : Joint → Conditions → List ℕ → List ℕ
  members_text joint NoConditions rest = rest
  members_text joint (CondThen c cs) rest = open_text (stands_bracketed joint c) (condition_text c (close_text (stands_bracketed joint c) (more_text joint cs rest)))

  more_text : Joint → Conditions → List ℕ → List ℕ
  more_text joint NoConditions rest = rest
  more_text joint (CondThen c cs) rest =
      joining_text joint (open_text (stands_bracketed joint c) (condition_text c (close_text (stands_bracketed joint c) (more_text joint cs rest))))

-- single tokens

lex_axis : (behind : Bool) (axis : Axis) (rest : List ℕ) (ts : List Token) → starts_with_byte 47 rest ≡ false → Lexes false rest ts →
    Lexes behind (axis_text axis rest) (separator axis ∷ ts)
lex_axis behind Child rest ts s l = take_token behind (47 ∷ rest) rest Slash 1 ts refl refl (rw s refl) refl (omega arith) l
lex_axis behind Below rest ts s l = take_token behind (47 ∷ 47 ∷ rest) rest Slashes 2 ts refl refl refl refl (omega arith) l

lex_start : (axis : Axis) (rest : List ℕ) (ts : List Token) → Lexes false rest ts → Lexes false (start_text axis rest) (start_tokens axis ts)
lex_start Child rest ts l = l
lex_start Below rest ts l =
    take_token false (46 ∷ 47 ∷ 47 ∷ rest) (47 ∷ 47 ∷ rest) Dot 1 (Slashes ∷ ts) refl refl refl refl (omega arith)
    (take_token false (47 ∷ 47 ∷ rest) rest Slashes 2 ts refl refl refl refl (omega arith) l)

lex_star : (rest : List ℕ) (ts : List Token) → Lexes true rest ts → Lexes false (42 ∷ rest) (Star ∷ ts)
lex_star rest ts l = take_token false (42 ∷ rest) rest Star 1 ts refl refl refl refl (omega arith) l

lex_at : (rest : List ℕ) (ts : List Token) → Lexes false rest ts → Lexes false (64 ∷ rest) (At ∷ ts)
lex_at rest ts l = take_token false (64 ∷ rest) rest At 1 ts refl refl refl refl (omega arith) l

lex_open : (rest : List ℕ) (ts : List Token) → Lexes false rest ts → Lexes false (40 ∷ rest) (Open ∷ ts)
lex_open rest ts l = take_token false (40 ∷ rest) rest Open 1 ts refl refl refl refl (omega arith) l

lex_close : (behind : Bool) (rest : List ℕ) (ts : List Token) → Lexes true rest ts → Lexes behind (41 ∷ rest) (Close ∷ ts)
lex_close behind rest ts l = take_token behind (41 ∷ rest) rest Close 1 ts refl refl refl refl (omega arith) l

lex_open_square : (rest : List ℕ) (ts : List Token) → Lexes false rest ts → Lexes true (91 ∷ rest) (OpenSquare ∷ ts)
lex_open_square rest ts l = take_token true (91 ∷ rest) rest OpenSquare 1 ts refl refl refl refl (omega arith) l

lex_close_square : (rest : List ℕ) (ts : List Token) → Lexes true rest ts → Lexes true (93 ∷ rest) (CloseSquare ∷ ts)
lex_close_square rest ts l = take_token true (93 ∷ rest) rest CloseSquare 1 ts refl refl refl refl (omega arith) l

lex_not : (rest : List ℕ) (ts : List Token) → Lexes false rest ts → Lexes false (110 ∷ 111 ∷ 116 ∷ 40 ∷ rest) (NotWord ∷ Open ∷ ts)
lex_not rest ts l =
    take_token false (110 ∷ 111 ∷ 116 ∷ 40 ∷ rest) (40 ∷ rest) NotWord 3 (Open ∷ ts) refl refl refl refl (omega arith) (lex_open rest ts l)

lex_text : (rest : List ℕ) (ts : List Token) → Lexes true rest ts → Lexes false (116 ∷ 101 ∷ 120 ∷ 116 ∷ 40 ∷ 41 ∷ rest) (TextWord ∷ Open ∷ Close ∷ ts)
lex_text rest ts l =
    take_token false (116 ∷ 101 ∷ 120 ∷ 116 ∷ 40 ∷ 41 ∷ rest) (40 ∷ 41 ∷ rest) TextWord 4 (Open ∷ Close ∷ ts) refl refl refl refl (omega arith)
    (lex_open (41 ∷ rest) (Close ∷ ts) (lex_close false rest ts l))

lex_joining : (joint : Joint) (rest : List ℕ) (ts : List Token) → Lexes false rest ts → Lexes true (joining_text joint rest) (joining_token joint ∷ ts)
lex_joining Both rest ts l =
    skip_space true (97 ∷ 110 ∷ 100 ∷ 32 ∷ rest) (AndWord ∷ ts)
    (take_token true (97 ∷ 110 ∷ 100 ∷ 32 ∷ rest) (32 ∷ rest) AndWord 3 ts refl refl refl refl (omega arith) (skip_space false rest ts l))
lex_joining Either rest ts l =
    skip_space true (111 ∷ 114 ∷ 32 ∷ rest) (OrWord ∷ ts)
    (take_token true (111 ∷ 114 ∷ 32 ∷ rest) (32 ∷ rest) OrWord 2 ts refl refl refl refl (omega arith) (skip_space false rest ts l))

lex_relation : (r : Relation) (rest : List ℕ) (ts : List Token) → starts_with_byte 61 rest ≡ false → Lexes false rest ts → Lexes true (relation_text r rest) (Related r ∷ ts)
lex_relation Equal rest ts s l = take_token true (61 ∷ rest) rest (Related Equal) 1 ts refl refl refl refl (omega arith) l
lex_relation NotEqual rest ts s l = take_token true (33 ∷ 61 ∷ rest) rest (Related NotEqual) 2 ts refl refl refl refl (omega arith) l
lex_relation Less rest ts s l = take_token true (60 ∷ rest) rest (Related Less) 1 ts refl refl (rw s refl) refl (omega arith) l
lex_relation AtMost rest ts s l = take_token true (60 ∷ 61 ∷ rest) rest (Related AtMost) 2 ts refl refl refl refl (omega arith) l
lex_relation Greater rest ts s l = take_token true (62 ∷ rest) rest (Related Greater) 1 ts refl refl (rw s refl) refl (omega arith) l
lex_relation AtLeast rest ts s l = take_token true (62 ∷ 61 ∷ rest) rest (Related AtLeast) 2 ts refl refl refl refl (omega arith) l

-- what begins a name begins no other token
begins_name : (name rest : List ℕ) (b : ℕ) → is_filter_name name ≡ true → (b == 95) ≡ false → begins_part b ≡ false → starts_with_byte b (name ++ rest) ≡ false
begins_name [] rest b h u k = absurd (cc)
begins_name (c ∷ name) rest b h u k = differs c (and_parts (begins_part c) (ends_filter_name name) h).0
  where
    differs : (c : ℕ) → begins_part c ≡ true → (c == b) ≡ false
    differs c p = by_test (c == b) refl
      where
        by_test : (t : Bool) → (c == b) ≡ t → t ≡ false
        by_test true e = let same : c ≡ b = grind (arith, nat_tests) in let q : begins_part b ≡ true = rw (← same) p in absurd (cc)
        by_test false e = refl

test_no_slash : (t : Test) (rest : List ℕ) → IsGoodTest t → starts_with_byte 47 (test_text t rest) ≡ false
test_no_slash (Element name) rest h = begins_name name rest 47 h refl refl
test_no_slash AnyElement rest h = refl
test_no_slash (Attribute name) rest h = refl
test_no_slash AnyAttribute rest h = refl
test_no_slash Text rest h = refl

lex_test : (t : Test) (rest : List ℕ) (ts : List Token) → IsGoodTest t → Ends rest → Lexes true rest ts → Lexes false (test_text t rest) (test_tokens t ts)
lex_test (Element name) rest ts h e l = lexes_name name rest ts h e l
lex_test AnyElement rest ts h e l = lex_star rest ts l
lex_test (Attribute name) rest ts h e l = lex_at (name ++ rest) _ (lexes_name name rest ts h e l)
lex_test AnyAttribute rest ts h e l = lex_at (42 ∷ rest) _ (lex_star rest ts l)
lex_test Text rest ts h e l = lex_text rest ts l

lex_minus : (is_negative : Bool) (rest : List ℕ) (ts : List Token) → Lexes false rest ts → Lexes false (minus_text is_negative rest) (minus_if is_negative ts)
lex_minus true rest ts l = take_token false (45 ∷ rest) rest Minus 1 ts refl refl refl refl (omega arith) l
lex_minus false rest ts l = l

lex_value : (r : Relation) (v : Value) (rest : List ℕ) (ts : List Token) → IsGoodValue r v → Ends rest → Lexes true rest ts → Lexes false (value_text v rest) (value_tokens v ts)
lex_value r (Number units) rest ts h e l =
    lex_minus (is_below_zero units) _ _
    (lexes_number false (printed_whole units) (printed_decimals units) rest ts (whole_digits units) (decimals_digits units) (whole_some units) e.part_ends l)
lex_value r (Literal text) rest ts h e l = by_quote (list_any (λ b. b == 34) text) refl h.1
  where
    by_quote : (t : Bool) → list_any (λ b. b == 34) text ≡ t → (list_any (λ b. b == 34) text ≡ false) ⊎ (list_any (λ b. b == 39) text ≡ false) →
        Lexes false (value_text (Literal text) rest) (value_tokens (Literal text) ts)
    by_quote true q (inl p) = absurd (cc)
    by_quote true q (inr p) = rw q (lexes_single false text rest ts p l)
    by_quote false q p = rw q (lexes_literal false text rest ts q l)

digits_no_equals : (whole rest : List ℕ) → list_all is_digit whole ≡ true → is_empty whole ≡ false → starts_with_byte 61 (whole ++ rest) ≡ false
digits_no_equals [] rest h e = absurd (cc)
digits_no_equals (d ∷ whole) rest h e =
    let digit = (and_parts (is_digit d) (list_all is_digit whole) h).0 in grind (arith, nat_tests)

value_no_equals : (r : Relation) (v : Value) (rest : List ℕ) → IsGoodValue r v → starts_with_byte 61 (value_text v rest) ≡ false
value_no_equals r (Number units) rest h = by_sign (is_below_zero units)
  where
    by_sign : (t : Bool) → starts_with_byte 61 (minus_text t (printed_whole units ++ (printed_fraction (printed_decimals units) ++ rest))) ≡ false
    by_sign true = refl
    by_sign false = digits_no_equals (printed_whole units) _ (whole_digits units) (whole_some units)
value_no_equals r (Literal text) rest h = by_quote (list_any (λ b. b == 34) text)
  where
    by_quote : (t : Bool) → ((if t then 39 else 34) == 61) ≡ false
    by_quote true = refl
    by_quote false = refl

-- what stands behind a path, a condition or a value ends it

ends_close : (rest : List ℕ) → Ends (41 ∷ rest)
ends_close rest = record { part_ends = refl; joins_no_part = refl; calls_nothing = refl }

ends_close_square : (rest : List ℕ) → Ends (93 ∷ rest)
ends_close_square rest = record { part_ends = refl; joins_no_part = refl; calls_nothing = refl }

ends_joining : (joint : Joint) (rest : List ℕ) → Ends (joining_text joint rest)
ends_joining Both rest = record { part_ends = refl; joins_no_part = refl; calls_nothing = refl }
ends_joining Either rest = record { part_ends = refl; joins_no_part = refl; calls_nothing = refl }

ends_relation : (r : Relation) (rest : List ℕ) → Ends (relation_text r rest)
ends_relation Equal rest = record { part_ends = refl; joins_no_part = refl; calls_nothing = refl }
ends_relation NotEqual rest = record { part_ends = refl; joins_no_part = refl; calls_nothing = refl }
ends_relation Less rest = record { part_ends = refl; joins_no_part = refl; calls_nothing = refl }
ends_relation AtMost rest = record { part_ends = refl; joins_no_part = refl; calls_nothing = refl }
ends_relation Greater rest = record { part_ends = refl; joins_no_part = refl; calls_nothing = refl }
ends_relation AtLeast rest = record { part_ends = refl; joins_no_part = refl; calls_nothing = refl }

ends_preds : (conds : Conditions) (rest : List ℕ) → Ends rest → Ends (preds_text conds rest)
ends_preds NoConditions rest e = e
ends_preds (CondThen c cs) rest e = record { part_ends = refl; joins_no_part = refl; calls_nothing = refl }

ends_steps : (way : Way) (rest : List ℕ) → Ends rest → Ends (steps_text way rest)
ends_steps Arrived rest e = e
ends_steps (StepThen Child t conds onward) rest e = record { part_ends = refl; joins_no_part = refl; calls_nothing = refl }
ends_steps (StepThen Below t conds onward) rest e = record { part_ends = refl; joins_no_part = refl; calls_nothing = refl }

ends_more : (joint : Joint) (cs : Conditions) (rest : List ℕ) → Ends rest → Ends (more_text joint cs rest)
ends_more joint NoConditions rest e = e
ends_more joint (CondThen c cs) rest e = ends_joining joint _

-- a member, in brackets or without
lex_member : (is_bracketed : Bool) (text : List ℕ → List ℕ) (read : List Token → List Token) →
    ((rest : List ℕ) (ts : List Token) → Ends rest → Lexes true rest ts → Lexes false (text rest) (read ts)) → (rest : List ℕ) (ts : List Token) → Ends rest → Lexes true rest ts →
    Lexes false (open_text is_bracketed (text (close_text is_bracketed rest))) (open_if is_bracketed (read (close_if is_bracketed ts)))
lex_member true text read f rest ts e l = lex_open _ _ (f (41 ∷ rest) (Close ∷ ts) (ends_close rest) (lex_close true rest ts l))
lex_member false text read f rest ts e l = f rest ts e l

mutual
  lex_steps : (way : Way) (rest : List ℕ) (ts : List Token) → IsWritable way → Ends rest → Lexes true rest ts → Lexes true (steps_text way rest) (steps_tokens way ts)
  lex_steps Arrived rest ts h e l = l
  lex_steps (StepThen axis t conds onward) rest ts h e l =
      lex_axis true axis _ _ (test_no_slash t _ h.0)
      (lex_test t _ _ h.0 (ends_preds conds _ (ends_steps onward rest e))
      (lex_preds conds _ _ h.2 (ends_steps onward rest e) (lex_steps onward rest ts h.3 e l)))

  lex_path : (path : Way) (rest : List ℕ) (ts : List Token) → HasSteps path → IsWritable path → Ends rest → Lexes true rest ts → Lexes false (path_text path rest) (path_tokens path ts)
  lex_path Arrived rest ts s h e l = absurd s
  lex_path (StepThen axis t conds onward) rest ts s h e l =
      lex_start axis _ _
      (lex_test t _ _ h.0 (ends_preds conds _ (ends_steps onward rest e))
      (lex_preds conds _ _ h.2 (ends_steps onward rest e) (lex_steps onward rest ts h.3 e l)))

  lex_preds : (conds : Conditions) (rest : List ℕ) (ts : List Token) → AreWritable conds → Ends rest → Lexes true rest ts → Lexes true (preds_text conds rest) (preds_tokens conds ts)
  lex_preds NoConditions rest ts h e l = l
  lex_preds (CondThen c cs) rest ts h e l =
      lex_open_square _ _ (lex_condition c _ _ h.0 (ends_close_square _) (lex_close_square _ _ (lex_preds cs rest ts h.1 e l)))

  lex_condition : (c : Condition) (rest : List ℕ) (ts : List Token) → CanBeWritten c → Ends rest → Lexes true rest ts → Lexes false (condition_text c rest) (condition_tokens c ts)
  lex_condition (Selects path) rest ts h e l = lex_path path rest ts h.0 h.1 e l
  lex_condition (Compares path r v) rest ts h e l =
      lex_path path _ _ h.0 h.1 (ends_relation r _) (lex_relation r _ _ (value_no_equals r v rest h.2) (lex_value r v rest ts h.2 e l))
  lex_condition (EachOf cs) rest ts h e l = lex_members Both cs rest ts h.0 h.1 e l
  lex_condition (SomeOf cs) rest ts h e l = lex_members Either cs rest ts h.0 h.1 e l
  lex_condition (Fails c) rest ts h e l = lex_not _ _ (lex_condition c _ _ h (ends_close rest) (lex_close true rest ts l))

  lex_members : (joint : Joint) (cs : Conditions) (rest : List ℕ) (ts : List Token) → HasTwo cs → AreWritable cs → Ends rest → Lexes true rest ts →
      Lexes false (members_text joint cs rest) (members_tokens joint cs ts)
  lex_members joint NoConditions rest ts two h e l = absurd two
  lex_members joint (CondThen c cs) rest ts two h e l =
      lex_member (stands_bracketed joint c) (condition_text c) (condition_tokens c) (λ us vs f k. lex_condition c us vs h.0 f k) _ _ (ends_more joint cs rest e)
      (lex_more joint cs rest ts h.1 e l)

  lex_more : (joint : Joint) (cs : Conditions) (rest : List ℕ) (ts : List Token) → AreWritable cs → Ends rest → Lexes true rest ts →
      Lexes true (more_text joint cs rest) (more_tokens joint cs ts)
  lex_more joint NoConditions rest ts h e l = l
  lex_more joint (CondThen c cs) rest ts h e l =
      lex_joining joint _ _
      (lex_member (stands_bracketed joint c) (condition_text c) (condition_tokens c) (λ us vs f k. lex_condition c us vs h.0 f k) _ _ (ends_more joint cs rest e)
      (lex_more joint cs rest ts h.1 e l))

-- the texts before a rest are the printed forms

axis_is : (axis : Axis) (rest : List ℕ) → axis_text axis rest ≡ printed_axis axis ++ rest
axis_is Child rest = refl
axis_is Below rest = refl

start_is : (axis : Axis) (rest : List ℕ) → start_text axis rest ≡ printed_start axis ++ rest
start_is Child rest = refl
start_is Below rest = refl

test_is : (t : Test) (rest : List ℕ) → test_text t rest ≡ printed_test t ++ rest
test_is (Element name) rest = refl
test_is AnyElement rest = refl
test_is (Attribute name) rest = refl
test_is AnyAttribute rest = refl
test_is Text rest = refl

relation_is : (r : Relation) (rest : List ℕ) → relation_text r rest ≡ printed_relation r ++ rest
relation_is Equal rest = refl
relation_is NotEqual rest = refl
relation_is Less rest = refl
relation_is AtMost rest = refl
relation_is Greater rest = refl
relation_is AtLeast rest = refl

value_is : (v : Value) (rest : List ℕ) → value_text v rest ≡ printed_value v ++ rest
value_is (Number units) rest = by_sign (is_below_zero units) ∙ ap (λ x. x ++ rest) (sym (printed_is units))
  where
    by_sign : (t : Bool) → minus_text t (printed_whole units ++ (printed_fraction (printed_decimals units) ++ rest))
        ≡ (sign t ++ (printed_whole units ++ printed_fraction (printed_decimals units))) ++ rest
    by_sign true = simp append_assoc
    by_sign false = simp append_assoc
value_is (Literal text) rest = simp append_assoc

joining_is : (joint : Joint) (rest : List ℕ) → joining_text joint rest ≡ joining joint ++ rest
joining_is Both rest = refl
joining_is Either rest = refl

member_is : (is_bracketed : Bool) (text : List ℕ → List ℕ) (shown : List ℕ) → ((rest : List ℕ) → text rest ≡ shown ++ rest) → (rest : List ℕ) →
    open_text is_bracketed (text (close_text is_bracketed rest)) ≡ in_brackets_if is_bracketed shown ++ rest
member_is true text shown e rest = ap (λ x. 40 ∷ x) (e (41 ∷ rest) ∙ sym (append_assoc shown (41 ∷ []) rest))
member_is false text shown e rest = e rest

mutual
  steps_is : (way : Way) (rest : List ℕ) → steps_text way rest ≡ printed_steps way ++ rest
  steps_is Arrived rest = refl
  steps_is (StepThen axis t conds onward) rest =
      let e : preds_text conds (steps_text onward rest) ≡ printed_preds conds ++ (printed_steps onward ++ rest) =
      preds_is conds (steps_text onward rest) ∙ ap (λ x. printed_preds conds ++ x) (steps_is onward rest) in
      rw (e, axis_is, test_is) (simp append_assoc)

  path_is : (path : Way) (rest : List ℕ) → path_text path rest ≡ printed_path path ++ rest
  path_is Arrived rest = refl
  path_is (StepThen axis t conds onward) rest =
      let e : preds_text conds (steps_text onward rest) ≡ printed_preds conds ++ (printed_steps onward ++ rest) =
      preds_is conds (steps_text onward rest) ∙ ap (λ x. printed_preds conds ++ x) (steps_is onward rest) in
      rw (e, start_is, test_is) (simp append_assoc)

  preds_is : (conds : Conditions) (rest : List ℕ) → preds_text conds rest ≡ printed_preds conds ++ rest
  preds_is NoConditions rest = refl
  preds_is (CondThen c cs) rest = rw (condition_is c (93 ∷ preds_text cs rest), preds_is cs rest) (simp append_assoc)

  condition_is : (c : Condition) (rest : List ℕ) → condition_text c rest ≡ printed_condition c ++ rest
  condition_is (Selects path) rest = path_is path rest
  condition_is (Compares path r v) rest = rw (path_is path (relation_text r (value_text v rest)), relation_is, value_is) (simp append_assoc)
  condition_is (EachOf cs) rest = members_is Both cs rest
  condition_is (SomeOf cs) rest = members_is Either cs rest
  condition_is (Fails c) rest = rw (condition_is c (41 ∷ rest)) (simp append_assoc)

  members_is : (joint : Joint) (cs : Conditions) (rest : List ℕ) → members_text joint cs rest ≡ printed_members joint cs ++ rest
  members_is joint NoConditions rest = refl
  members_is joint (CondThen c cs) rest =
      member_is (stands_bracketed joint c) (condition_text c) (printed_condition c) (λ x. condition_is c x) (more_text joint cs rest)
      ∙ ap (λ x. in_brackets_if (stands_bracketed joint c) (printed_condition c) ++ x) (more_is joint cs rest) ∙ simp append_assoc

  more_is : (joint : Joint) (cs : Conditions) (rest : List ℕ) → more_text joint cs rest ≡ printed_more joint cs ++ rest
  more_is joint NoConditions rest = refl
  more_is joint (CondThen c cs) rest =
      joining_is joint _ ∙ ap (λ x. joining joint ++ x)
      (member_is (stands_bracketed joint c) (condition_text c) (printed_condition c) (λ x. condition_is c x) (more_text joint cs rest)
      ∙ ap (λ x. in_brackets_if (stands_bracketed joint c) (printed_condition c) ++ x) (more_is joint cs rest)) ∙ simp append_assoc

filter_lexes : (filter : Way) → HasSteps filter → IsWritable filter → Lexes false (steps_text filter []) (steps_tokens filter [])
filter_lexes Arrived s h = absurd s
filter_lexes (StepThen axis t conds onward) s h =
    let e : Ends [] = record { part_ends = refl; joins_no_part = refl; calls_nothing = refl } in
    lex_axis false axis _ _ (test_no_slash t _ h.0)
    (lex_test t _ _ h.0 (ends_preds conds _ (ends_steps onward [] e))
    (lex_preds conds _ _ h.2 (ends_steps onward [] e) (lex_steps onward [] [] h.3 e (lexes_end true))))

-- a printed filter is read as its tokens
pub printed_words : (filter : Way) → HasSteps filter → IsWritable filter → words (tokens (printed filter)) ≡ steps_tokens filter []
printed_words filter s h =
    let e : steps_text filter [] ≡ printed filter = steps_is filter [] ∙ append-nil (printed_steps filter) in
    let P : List ℕ → Type 0 = λ text. words (tokens text) ≡ steps_tokens filter [] in
    subst P e (filter_lexes filter s h (length (steps_text filter [])) 0 (omega arith))
