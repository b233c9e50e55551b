-- What stands in the trees of a scoped program: each variable is bound where it stands, and the forms are those that are left once
-- names are bound.
use Rattle.std.specs.Prelude.{ℕ, Bool, true, false, ◌&&◌, ◌==◌, List, [], ◌∷◌, ◌++◌}
use Rattle.std.specs.List.{list_any}
use Rattle.lq_text_tree.specs.declared.expr.Arguments.{Arguments}
use Rattle.lq_text_tree.specs.declared.expr.Arguments.TheVariants.{Apart, Listed}
use Rattle.lq_text_tree.specs.Items.{ItemTree, ItemForm, type_of, let_of, let_rec_of}
use Rattle.lq_text_tree.specs.Pattern.{Pattern, pattern, PatternForm, any, bind, nothing, tuple_of, build_of, bound_in}
use Rattle.lq_text_tree.specs.Tree.{Tree}
use Rattle.lq_text_walk.specs.Walk.Fold.{Arm, Algebra, fold}
use Rattle.lq_text_walk.specs.Walk.Shape.{Leaf, whole, flag, unit, use_of, qualified, assert_false, map_empty, Row, tuple, build, list_of, chain}

-- a binder is among the visible ones
abbrev pub is_visible : List ℕ → ℕ → Bool
is_visible vs x = list_any (λ v. v == x) vs

-- a parameter is a name, `_` or `()`
abbrev pub is_parameter_form : PatternForm → Bool
is_parameter_form any = true
is_parameter_form (bind x) = true
is_parameter_form nothing = true
is_parameter_form (tuple_of ps) = false
is_parameter_form (build_of c q ps) = false

abbrev pub is_parameter : Pattern → Bool
is_parameter (pattern p f) = is_parameter_form f

-- a variable is visible, and no name with a dot is left
abbrev pub is_scoped_leaf : List ℕ → Leaf → Bool
is_scoped_leaf vs (use_of x) = is_visible vs x
is_scoped_leaf vs (qualified m x) = false
is_scoped_leaf vs (whole n) = true
is_scoped_leaf vs (flag b) = true
is_scoped_leaf vs unit = true
is_scoped_leaf vs assert_false = true
is_scoped_leaf vs map_empty = true

abbrev pub is_apart : Arguments → Bool
is_apart Apart = true
is_apart Listed = false

-- each part of a constructor is an argument
abbrev pub is_scoped_row : Row → Bool
is_scoped_row (build c w) = is_apart w
is_scoped_row tuple = true
is_scoped_row list_of = true
is_scoped_row chain = true

-- what holds under the binders that are visible
abbrev pub Under : Type 0
Under = List ℕ → Bool

abbrev pub all_under : List Under → Under
all_under [] vs = true
all_under (a ∷ as_) vs = a vs && all_under as_ vs

abbrev pub arms_under : List (Arm Under) → Under
arms_under [] vs = true
arms_under (a ∷ as_) vs = a.body (bound_in a.pattern ++ vs) && arms_under as_ vs

abbrev pub scoping : Algebra Under
scoping = record {
  leaf = λ t h vs. is_scoped_leaf vs h;
  one = λ t h a vs. a vs;
  two = λ t h a b vs. a vs && b vs;
  three = λ t h a b c vs. a vs && (b vs && c vs);
  row = λ t h as_ vs. is_scoped_row h && all_under as_ vs;
  function = λ t p b vs. is_parameter p && b (bound_in p ++ vs);
  let_in = λ t p e b vs. e vs && b (bound_in p ++ vs);
  let_rec = λ t f i q p e b vs. is_parameter p && (e (bound_in p ++ f ∷ vs) && b (f ∷ vs));
  match_on = λ t e as_ vs. e vs && arms_under as_ vs;
}

-- a tree is scoped under these binders
abbrev pub is_scoped_tree : List ℕ → Tree → Bool
is_scoped_tree vs t = fold scoping t vs

abbrev pub is_scoped_form : List ℕ → ItemForm → Bool
is_scoped_form vs (type_of d) = false
is_scoped_form vs (let_of p e) = is_parameter p && is_scoped_tree vs e
is_scoped_form vs (let_rec_of f r) = is_parameter r.parameter && is_scoped_tree (bound_in r.parameter ++ f ∷ vs) r.body

-- the binders that are visible behind an item
abbrev pub visible_behind : List ℕ → ItemForm → List ℕ
visible_behind vs (type_of d) = vs
visible_behind vs (let_of p e) = bound_in p ++ vs
visible_behind vs (let_rec_of f r) = f ∷ vs

-- items are scoped under these binders, each under those before it too
abbrev pub are_scoped : List ℕ → List ItemTree → Bool
are_scoped vs [] = true
are_scoped vs (i ∷ is) = is_scoped_form vs i.form && are_scoped (visible_behind vs i.form) is
