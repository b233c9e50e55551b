-- The names that the items of a program define.
use Rattle.std.specs.Prelude.{◌≡◌, ℕ, List, [], ◌∷◌, ◌⊎◌}
use Rattle.lq_text_tree.specs.Items.{ItemTree, ItemForm, type_of, let_of, let_rec_of}
use Rattle.lq_text_tree.specs.Pattern.{Pattern, pattern, bind}

-- a pattern that is this name
abbrev pub IsName : Pattern → ℕ → Type 0
IsName (pattern l (bind y)) x = y ≡ x
IsName (pattern l f) x = ⊥

-- by `let x = ..` or `let rec x ..`
abbrev pub Defines : ItemForm → ℕ → Type 0
Defines (type_of d) x = ⊥
Defines (let_of q e) x = IsName q x
Defines (let_rec_of f r) x = f ≡ x

-- one of the items defines the name
abbrev pub IsDefined : List ItemTree → ℕ → Type 0
IsDefined [] x = ⊥
IsDefined (i ∷ is) x = Defines i.form x ⊎ IsDefined is x
