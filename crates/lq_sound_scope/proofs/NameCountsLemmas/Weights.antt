-- A tree's weight: the names that its normal form may make.
use Rattle.std.proofs.Common.{ℕ, ◌+◌, List, [], ◌∷◌}
use Rattle.lq_meaning_normal_form.specs.Binders.Counting.{in_all}
use Rattle.lq_text_tree.specs.Items.{ItemTree, ItemForm, type_of, let_of, let_rec_of}
use Rattle.lq_text_tree.specs.Pattern.{Pattern, pattern, PatternForm, any, bind, nothing, tuple_of, build_of, Patterns, no_patterns, more_patterns}
use Rattle.lq_text_tree.specs.Tree.{Tree, Trees, Cases}
use Rattle.lq_text_walk.specs.Walk.Fold.{Arm, Algebra, fold, fold_all, fold_cases}

-- how often `_` stands in a pattern
abbrev mutual
  pub blanks : Pattern → ℕ
  blanks (pattern p f) = blanks_form f

  pub blanks_form : PatternForm → ℕ
  blanks_form any = 1
  blanks_form (bind x) = 0
  blanks_form nothing = 0
  blanks_form (tuple_of qs) = blanks_all qs
  blanks_form (build_of c o qs) = blanks_all qs

  pub blanks_all : Patterns → ℕ
  blanks_all no_patterns = 0
  blanks_all (more_patterns q qs) = blanks q + blanks_all qs

abbrev pub in_arms : List (Arm ℕ) → ℕ
in_arms [] = 0
in_arms (a ∷ as_) = blanks a.pattern + (a.body + in_arms as_)

-- A node is bound to a name at most, and to a second one for its cell of a list; a parameter may be a made name.
abbrev pub weighing : Algebra ℕ
weighing = record {
  leaf = λ t h. 2;
  one = λ t h a. 2 + a;
  two = λ t h a b. 2 + (a + b);
  three = λ t h a b c. 2 + (a + (b + c));
  row = λ t h as_. 2 + in_all as_;
  function = λ t q b. 3 + (blanks q + b);
  let_in = λ t q e b. 3 + (blanks q + (e + b));
  let_rec = λ t f i p q e b. 3 + (blanks q + (e + b));
  match_on = λ t e as_. 2 + (e + in_arms as_);
}

abbrev pub weight : Tree → ℕ
weight = fold weighing

abbrev pub weight_all : Trees → ℕ
weight_all es = in_all (fold_all weighing es)

abbrev pub weight_cases : Cases → ℕ
weight_cases cs = in_arms (fold_cases weighing cs)

abbrev pub weight_form : ItemForm → ℕ
weight_form (type_of d) = 0
weight_form (let_of q e) = weight e
weight_form (let_rec_of f r) = 1 + (blanks r.parameter + weight r.body)

abbrev pub weight_items : List ItemTree → ℕ
weight_items [] = 0
weight_items (i ∷ is) = weight_form i.form + weight_items is
