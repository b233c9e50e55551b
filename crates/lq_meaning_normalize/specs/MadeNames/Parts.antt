-- The names that parts of a block bind.
use Rattle.std.specs.Prelude.{ℕ, List, [], ◌∷◌, ◌++◌}
use Rattle.lq_meaning_normal_form.specs.Outcomes.Flattening.{Let, let_one, let_function}
use Rattle.lq_text_tree.specs.Pattern.{bound_in}
use Rattle.lq_text_tree.specs.TreeView.{Recursive}
use Rattle.lq_meaning_normalize.specs.MadeNames.Order.{names_of}

abbrev pub names_of_function : Recursive → List ℕ
names_of_function r = bound_in r.parameter ++ names_of r.body

abbrev pub names_of_let : Let → List ℕ
names_of_let (let_one i p q e) = names_of e ++ bound_in q
names_of_let (let_function i p f j m q e) = f ∷ (bound_in q ++ names_of e)

abbrev pub names_of_lets : List Let → List ℕ
names_of_lets [] = []
names_of_lets (l ∷ ls) = names_of_let l ++ names_of_lets ls
