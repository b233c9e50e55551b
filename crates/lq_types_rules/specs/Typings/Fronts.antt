-- The rules up to a place: those of the items before it, and those of its own item's nodes that are not behind it.
use Rattle.std.specs.Prelude.{ℕ, List, [], ◌∷◌, ◌++◌}
use Rattle.lq_text_tree.specs.Items.{ItemTree, ItemForm, type_of, let_of, let_rec_of}
use Rattle.lq_text_tree.specs.Pattern.{bound_in}
use Rattle.lq_text_tree.specs.Types.{Signature, Names, plain}
use Rattle.lq_text_tree.specs.TypingRules.{Annotation, plain_names, FunctionIs, TreeIs, ItemIs}
use Rattle.lq_text_walk.specs.Walk.Visits.{Visit, enter_item, leave_item, enter, leave, leave_function, declare, show, hide, show_name, hide_name}
use Rattle.lq_types_rules.specs.Equations.Rows.{number_of}

-- the nodes of an item that are wanted obey the rules, under the names of the items before it; the function of a recursive definition is
-- a node too
abbrev pub NodesAre : Signature → Annotation → (ℕ → Type 0) → Names → ItemForm → Type 0
NodesAre g n wanted ns (type_of d) = Unit {0}
NodesAre g n wanted ns (let_of q e) = TreeIs g n wanted ns e
NodesAre g n wanted ns (let_rec_of f r) =
    (wanted r.id → FunctionIs g n r.parameter r.body (n.nodes r.id))
    × TreeIs g n wanted (plain_names n (bound_in r.parameter) ++ (f, plain (n.binders f)) ∷ ns) r.body

-- items obey the rules, each under the names of those before it, and something holds under the names that they leave
abbrev pub After : Signature → Annotation → Names → List ItemTree → (Names → Type 0) → Type 0
After g n ns [] rest = rest ns
After g n ns (i ∷ is) rest = ItemIs g n ns i.form (λ ms. After g n ms is rest)

-- the number of the node that is left, if one is
abbrev pub left_at : Visit → List ℕ
left_at (enter_item i) = []
left_at (leave_item i) = []
left_at (enter t) = []
left_at (leave t) = number_of t ∷ []
left_at (leave_function r) = r.id ∷ []
left_at (declare q) = []
left_at (show q) = []
left_at (hide q) = []
left_at (show_name x) = []
left_at (hide_name x) = []

-- the nodes that are left by these visits
abbrev pub left_in : List Visit → List ℕ
left_in [] = []
left_in (v ∷ vs) = left_at v ++ left_in vs
