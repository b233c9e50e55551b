-- How often a number stands as a binder in a tree.
use Rattle.std.specs.Prelude.{ℕ, ◌+◌, ◌==◌, cond, List, [], ◌∷◌}
use Rattle.lq_text_tree.specs.Items.{ItemTree, ItemForm, type_of, let_of, let_rec_of}
use Rattle.lq_text_tree.specs.Pattern.{bound_in}
use Rattle.lq_text_tree.specs.Tree.{Tree, Trees, Cases}
use Rattle.lq_text_walk.specs.Walk.Fold.{Arm, Algebra, fold, fold_all, fold_cases}

abbrev pub once : ℕ → ℕ → ℕ
once x y = cond (y == x) 1 0

abbrev pub times : ℕ → List ℕ → ℕ
times x [] = 0
times x (y ∷ ys) = once x y + times x ys

abbrev pub in_all : List ℕ → ℕ
in_all [] = 0
in_all (n ∷ ns) = n + in_all ns

abbrev pub in_bodies : ℕ → List (Arm ℕ) → ℕ
in_bodies x [] = 0
in_bodies x (a ∷ as_) = times x (bound_in a.pattern) + (a.body + in_bodies x as_)

abbrev pub counting : ℕ → Algebra ℕ
counting x = record {
  leaf = λ t h. 0;
  one = λ t h a. a;
  two = λ t h a b. a + b;
  three = λ t h a b c. a + (b + c);
  row = λ t h as_. in_all as_;
  function = λ t p b. times x (bound_in p) + b;
  let_in = λ t p e b. times x (bound_in p) + (e + b);
  let_rec = λ t f i q p e b. once x f + (times x (bound_in p) + (e + b));
  match_on = λ t e as_. e + in_bodies x as_;
}

abbrev pub counted : ℕ → Tree → ℕ
counted x t = fold (counting x) t

abbrev pub counted_all : ℕ → Trees → ℕ
counted_all x es = in_all (fold_all (counting x) es)

abbrev pub counted_cases : ℕ → Cases → ℕ
counted_cases x cs = in_bodies x (fold_cases (counting x) cs)

abbrev pub counted_form : ℕ → ItemForm → ℕ
counted_form x (type_of d) = 0
counted_form x (let_of p e) = times x (bound_in p) + counted x e
counted_form x (let_rec_of f r) = once x f + (times x (bound_in r.parameter) + counted x r.body)

abbrev pub counted_items : ℕ → List ItemTree → ℕ
counted_items x [] = 0
counted_items x (i ∷ is) = counted_form x i.form + counted_items x is
