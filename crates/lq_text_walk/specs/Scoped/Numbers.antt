-- The numbers of nodes and of binders, in the order in which a scoped program gives them.
use Rattle.std.specs.Prelude.{◌≡◌, ℕ, zero, suc, length, List, [], ◌∷◌, ◌++◌}
use Rattle.lq_text_tree.specs.Items.{ItemTree, ItemForm, type_of, let_of, let_rec_of}
use Rattle.lq_text_tree.specs.Pattern.{bound_in}
use Rattle.lq_text_tree.specs.Tree.{Tree, tree}
use Rattle.lq_text_walk.specs.Walk.Fold.{Arm, Algebra, fold}
use Rattle.lq_text_walk.specs.Walk.Visits.{Visit, enter_item, leave_item, enter, leave, leave_function, declare, show, hide, show_name, hide_name, visits_of_items}

abbrev pub number_of : Tree → ℕ
number_of (tree i p f) = i

abbrev pub numbers_in : List (List ℕ) → List ℕ
numbers_in [] = []
numbers_in (ns ∷ nss) = ns ++ numbers_in nss

abbrev pub numbers_in_arms : List (Arm (List ℕ)) → List ℕ
numbers_in_arms [] = []
numbers_in_arms (a ∷ as_) = a.body ++ numbers_in_arms as_

-- a node's number comes behind those of its parts
abbrev pub behind : List ℕ → Tree → List ℕ
behind ns t = ns ++ number_of t ∷ []

abbrev pub numbering : Algebra (List ℕ)
numbering = record {
  leaf = λ t h. number_of t ∷ [];
  one = λ t h a. behind a t;
  two = λ t h a b. behind (a ++ b) t;
  three = λ t h a b c. behind (a ++ (b ++ c)) t;
  row = λ t h as_. behind (numbers_in as_) t;
  function = λ t p b. behind b t;
  let_in = λ t p e b. behind (e ++ b) t;
  let_rec = λ t f i q p e b. behind (e ++ (i ∷ b)) t;
  match_on = λ t e as_. behind (e ++ numbers_in_arms as_) t;
}

-- the numbers of the nodes of a tree as they end
abbrev pub nodes_of : Tree → List ℕ
nodes_of = fold numbering

abbrev pub nodes_of_form : ItemForm → List ℕ
nodes_of_form (type_of d) = []
nodes_of_form (let_of p e) = nodes_of e
nodes_of_form (let_rec_of f r) = nodes_of r.body ++ r.id ∷ []

-- of the items of a program
abbrev pub nodes_of_items : List ItemTree → List ℕ
nodes_of_items [] = []
nodes_of_items (i ∷ is) = nodes_of_form i.form ++ nodes_of_items is

-- the binders that stand at a place of the text
abbrev pub binders_at : Visit → List ℕ
binders_at (declare p) = bound_in p
binders_at (show_name f) = f ∷ []
binders_at (enter_item i) = []
binders_at (leave_item i) = []
binders_at (enter t) = []
binders_at (leave t) = []
binders_at (leave_function r) = []
binders_at (show p) = []
binders_at (hide p) = []
binders_at (hide_name f) = []

abbrev pub binders_in : List Visit → List ℕ
binders_in [] = []
binders_in (v ∷ vs) = binders_at v ++ binders_in vs

-- the binders of a program in the order of the text
abbrev pub binders_of_items : List ItemTree → List ℕ
binders_of_items is = binders_in (visits_of_items is)

-- so many numbers from this one on
abbrev pub from_on : ℕ → ℕ → List ℕ
from_on n zero = []
from_on n (suc m) = n ∷ from_on (suc n) m

-- these are the numbers from this one on
abbrev pub AreFrom : ℕ → List ℕ → Type 0
AreFrom n xs = xs ≡ from_on n (length xs)
