-- That at most one answer is right for a program.
use Rattle.std.specs.Prelude.{◌≡◌, ℕ, ◌+◌, All}
use Rattle.lq_text_tree.specs.Items.{ItemTree}
use Rattle.lq_text_tree.specs.MlType.{MlType}
use Rattle.lq_text_walk.specs.Walk.Visits.{visits_of_item}
use Rattle.lq_text_walk.specs.Scoped.Numbers.{nodes_of_form, binders_in}
use Rattle.lq_text_walk.specs.Scoped.Scoping.{Scoping, IsScoped}
use Rattle.lq_types_rules.specs.Typings.Inference.{Answer, typed, ill_typed, weak, past, IsInference}
use Rattle.lq_types_rules.specs.Typings.Principal.{node_count}

-- the same types at the nodes and binders of an item
abbrev pub AreSameIn : ℕ → (ℕ → MlType) → (ℕ → MlType) → ItemTree → Type 0
AreSameIn nodes types others i =
    All (λ k. types k ≡ others k) (nodes_of_form i.form)
    × All (λ x. types (nodes + x) ≡ others (nodes + x)) (binders_in (visits_of_item i))

-- the same answer; of annotations what they say of the program counts
abbrev pub AreSame : Scoping → Answer → Answer → Type 0
AreSame s (typed types) (typed others) = All (AreSameIn (node_count s) types others) s.items
AreSame s (ill_typed p) (ill_typed q) = p ≡ q
AreSame s (weak p) (weak q) = p ≡ q
AreSame s (past p n) (past q m) = (p ≡ q) × (n ≡ m)
AreSame s (typed types) _ = ⊥
AreSame s (ill_typed p) _ = ⊥
AreSame s (weak p) _ = ⊥
AreSame s (past p n) _ = ⊥

-- a program has at most one answer
abbrev pub OneInference : Type 0
OneInference = (s : Scoping) → IsScoped s → (a b : Answer) → IsInference s a → IsInference s b → AreSame s a b
