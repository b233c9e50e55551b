-- What has a value, as the keys of a set.
use Rattle.std.specs.Prelude.{if◌then◌else◌}
use Rattle.std.specs.List.{list_any}
use Rattle.std.proofs.Common.{◌≡◌, ℕ, ◌+◌, ◌<◌, Bool, true, false, ◌||◌, is_some, Option, Some, None, List, [], ◌∷◌, ◌++◌, length, map, take, get_or, ℤ, refl, sym, ap, ap₂, ◌∙◌, append_assoc}
use Rattle.std.proofs.lemmas.List.{append-nil, map_push, take_more}
use Rattle.indexmap.specs.IndexSet.{insert_key}
use Rattle.lq_logic_predicates.specs.contracts.symbol.SymbolPartialEq.TheImpl as symbols
use Rattle.lq_logic_predicates.specs.declared.symbol.Symbol.{Symbol}
use Rattle.lq_logic_predicates.specs.declared.symbol.Symbol.TheVariants.{Value, Bound, Position}
use Rattle.lq_logic_predicates.specs.Formula.{Formula}
use Rattle.lq_logic_predicates.specs.SameLaws.{same-is}
use Rattle.lq_logic_predicates.specs.Sum.{var, same_symbol}
use Rattle.lq_logic_predicates.specs.Table.{by_factors}
use Rattle.lq_top_answers.specs.Failure.Collected.{valued_view, valued_views, with_one, with_each}
use Rattle.lq_logic_text.specs.Calling.{Calling}
use Rattle.lq_top_answers.specs.Failure.Failures.{given_line, given_lines}
use Rattle.lq_top_answers.specs.Failure.Occurrences.{Valued, number, truth_value, object, same_valued, in_formula, in_formulas, firsts}
use Rattle.lq_top_answers.specs.contracts.failure.collecting.ValuedPartialEq.TheImpl.{ghosts}
use Rattle.lq_top_answers.specs.declared.failure.collecting.Valued as code
use Rattle.lq_top_answers.specs.declared.failure.collecting.Valued.TheVariants.{Number, Truth, Object}
use Rattle.lq_top_answers.proofs.FailureLemmas.Firsts.{Tells, with_each_append, firsts_each}

symbol_test : (x y : Symbol) → symbols.ghosts.eq x y ≡ same_symbol x y
symbol_test Value Value = refl
symbol_test Value (Bound y) = refl
symbol_test Value (Position j) = refl
symbol_test (Bound x) Value = refl
symbol_test (Bound x) (Bound y) = refl
symbol_test (Bound x) (Position j) = refl
symbol_test (Position i) Value = refl
symbol_test (Position i) (Bound y) = refl
symbol_test (Position i) (Position j) = refl

one_test : (x y : code.Valued) → ghosts.eq x y ≡ same_valued (valued_view x) (valued_view y)
one_test (Number a) (Number b) = refl
one_test (Number a) (Truth y) = refl
one_test (Number a) (Object y) = refl
one_test (Truth x) (Number b) = refl
one_test (Truth x) (Truth y) = symbol_test x y
one_test (Truth x) (Object y) = refl
one_test (Object x) (Number b) = refl
one_test (Object x) (Truth y) = refl
one_test (Object x) (Object y) = symbol_test x y

any_view : (x : code.Valued) (keys : List code.Valued) → list_any (ghosts.eq x) keys ≡ list_any (same_valued (valued_view x)) (valued_views keys)
any_view x [] = refl
any_view x (k ∷ keys) = ap₂ (λ (a b : Bool). a || b) (one_test x k) (any_view x keys)

pub views_with : (keys : List code.Valued) (x : code.Valued) → valued_views (insert_key ghosts.eq keys x) ≡ with_one same_valued (valued_views keys) (valued_view x)
views_with keys x = by (list_any (ghosts.eq x) keys) ∙ ap (λ (b : Bool). if b then valued_views keys else valued_views keys ++ valued_view x ∷ []) (any_view x keys)
  where
    by : (b : Bool) → valued_views (if b then keys else keys ++ x ∷ []) ≡ (if b then valued_views keys else valued_views keys ++ valued_view x ∷ [])
    by true = refl
    by false = map_push valued_view keys x

valued_tells : Tells same_valued
valued_tells (number a) (number b) h = ap number (same-is a b h)
valued_tells (number a) (truth_value y) h = cc
valued_tells (number a) (object y) h = cc
valued_tells (truth_value x) (number b) h = cc
valued_tells (truth_value x) (truth_value y) h = let e : var x ≡ var y = same-is (var x) (var y) h in cc
valued_tells (truth_value x) (object y) h = cc
valued_tells (object x) (number b) h = cc
valued_tells (object x) (truth_value y) h = cc
valued_tells (object x) (object y) h = let e : var x ≡ var y = same-is (var x) (var y) h in cc

pub all_firsts : (xs : List Valued) → with_each same_valued [] xs ≡ firsts same_valued xs
all_firsts xs = firsts_each same_valued valued_tells xs

-- by whether a factor is a literal
pub some_literal : {X : Type 0} (a b : Option ℤ) (linear apart : X) → (is_some a || is_some b) ≡ true → by_factors a b linear apart ≡ linear
some_literal (Some n) b linear apart h = refl
some_literal None (Some n) linear apart h = refl
some_literal None None linear apart h = cc

pub no_literal : {X : Type 0} (a b : Option ℤ) (linear apart : X) → (is_some a || is_some b) ≡ false → by_factors a b linear apart ≡ apart
no_literal (Some n) b linear apart h = cc
no_literal None (Some n) linear apart h = cc
no_literal None None linear apart h = refl

in_formulas-append : (ps : List Formula) (p : Formula) → in_formulas (ps ++ p ∷ []) ≡ in_formulas ps ++ in_formula p
in_formulas-append [] p = append-nil (in_formula p)
in_formulas-append (q ∷ ps) p = ap (λ (l : List Valued). in_formula q ++ l) (in_formulas-append ps p) ∙ sym (append_assoc (in_formula q) (in_formulas ps) (in_formula p))

pub map_more : {A B : Type 0} (f : A → B) (xs : List A) (i : ℕ) (x : A) → i < length xs → x ≡ get_or xs i x → map f (take (i + 1) xs) ≡ map f (take i xs) ++ f x ∷ []
map_more f xs i x h is = ap (map f) (take_more xs i x h) ∙ map_push f (take i xs) (get_or xs i x) ∙ ap (λ y. map f (take i xs) ++ f y ∷ []) (sym is)

-- one predicate more
pub preds_more : {A : Type 0} (f : A → Formula) (xs : List A) (i : ℕ) (x : A) (start seen after : List Valued) → i < length xs → x ≡ get_or xs i x → seen ≡ with_each same_valued start (in_formulas (map f (take i xs)))
    → after ≡ with_each same_valued seen (in_formula (f x)) → after ≡ with_each same_valued start (in_formulas (map f (take (i + 1) xs)))
preds_more f xs i x start seen after h is before now =
    now
    ∙ ap (λ (l : List Valued). with_each same_valued l (in_formula (f x))) before
    ∙ sym (with_each_append same_valued start (in_formulas (map f (take i xs))) (in_formula (f x)))
    ∙ ap (with_each same_valued start) (sym (in_formulas-append (map f (take i xs)) (f x)) ∙ ap in_formulas (sym (map_more f xs i x h is)))

given_lines-append : (c : Calling) (ps : List Formula) (p : Formula) → given_lines c (ps ++ p ∷ []) ≡ given_lines c ps ++ given_line c p
given_lines-append c [] p = append-nil (given_line c p)
given_lines-append c (q ∷ ps) p = ap (λ (l : List ℕ). given_line c q ++ l) (given_lines-append c ps p) ∙ sym (append_assoc (given_line c q) (given_lines c ps) (given_line c p))

-- one hypothesis more
pub given_more : {A : Type 0} (f : A → Formula) (c : Calling) (xs : List A) (i : ℕ) (x : A) (start before after : List ℕ) → i < length xs → x ≡ get_or xs i x → before ≡ start ++ given_lines c (map f (take i xs))
    → after ≡ before ++ given_line c (f x) → after ≡ start ++ given_lines c (map f (take (i + 1) xs))
given_more f c xs i x start before after h is was now =
    now ∙ ap (λ (l : List ℕ). l ++ given_line c (f x)) was
    ∙ append_assoc start (given_lines c (map f (take i xs))) (given_line c (f x))
    ∙ ap (λ (l : List ℕ). start ++ l) (sym (given_lines-append c (map f (take i xs)) (f x)) ∙ ap (given_lines c) (sym (map_more f xs i x h is)))
