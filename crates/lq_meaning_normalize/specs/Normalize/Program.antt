-- The pass over the definitions of a program.
use Rattle.std.specs.Prelude.{ℕ, List, [], ◌∷◌, ◌++◌}
use Rattle.lq_base_names.specs.declared.place.Place.{Place}
use Rattle.lq_text_tree.specs.Items.{ItemTree, ItemForm, type_of, let_of, let_rec_of}
use Rattle.lq_text_tree.specs.TreeView.{Recursive}
use Rattle.lq_meaning_normal_form.specs.Outcomes.Naming.{behind, parameter}
use Rattle.lq_meaning_normalize.specs.Pass.Forming.{Formed, block_of, body_under, formed}

-- what the body of a recursive function becomes
abbrev pub formed_body : ℕ → Recursive → Formed
formed_body k r = formed [] (behind k r.parameter) r.body

abbrev pub formed_function : ℕ → Recursive → Recursive
formed_function k r =
    record { id = r.id; place = r.place; parameter = parameter k r.parameter; body = body_under k r.parameter (block_of (formed_body k r)) }

-- what a definition becomes, and the next made name behind it; that of a datatype is left out
abbrev pub formed_item : ℕ → Place → ItemForm → List ItemTree
formed_item k p (type_of d) = []
formed_item k p (let_of q e) = record { place = p; form = let_of q (block_of (formed [] k e)) } ∷ []
formed_item k p (let_rec_of f r) = record { place = p; form = let_rec_of f (formed_function k r) } ∷ []

abbrev pub next_behind : ℕ → ItemForm → ℕ
next_behind k (type_of d) = k
next_behind k (let_of q e) = (formed [] k e).next
next_behind k (let_rec_of f r) = (formed_body k r).next

-- the same of all definitions
abbrev pub formed_program : ℕ → List ItemTree → List ItemTree
formed_program k [] = []
formed_program k (i ∷ is) = formed_item k i.place i.form ++ formed_program (next_behind k i.form) is

abbrev pub next_behind_all : ℕ → List ItemTree → ℕ
next_behind_all k [] = k
next_behind_all k (i ∷ is) = next_behind_all (next_behind k i.form) is
