-- That the rules of a program's visits are those of its trees.
use Rattle.std.specs.Prelude.{◌≡◌, ℕ, ◌<◌, List, [], ◌∷◌, ◌++◌, length}
use Rattle.lq_text_tree.specs.Items.{ItemTree}
use Rattle.lq_text_tree.specs.MlType.{MlType}
use Rattle.lq_text_tree.specs.Types.{Signature}
use Rattle.lq_text_tree.specs.TypingRules.{ItemsAre}
use Rattle.lq_text_walk.specs.Walk.Visits.{Visit, enter_item, visits_of_form, visits_of_items}
use Rattle.lq_text_walk.specs.Scoped.Scoping.{Scoping, IsScoped}
use Rattle.lq_types_rules.specs.Equations.Rows.{annotation_of}
use Rattle.lq_types_rules.specs.Typings.Uses.{ObeysUses}
use Rattle.lq_types_rules.specs.Typings.Fronts.{NodesAre, After, left_in}

-- An annotation of a scoped program, as types of its nodes, so many, and of its binders behind them, obeys the rules exactly where each
-- visit obeys its rule.
pub record AreRules (g : Signature) (nodes : ℕ) (types : ℕ → MlType) (s : Scoping) : Type 0 where
  pub visits_obey : ItemsAre g (annotation_of nodes types) [] s.items → ObeysUses g nodes (visits_of_items s.items) types
  pub items_obey : ObeysUses g nodes (visits_of_items s.items) types → ItemsAre g (annotation_of nodes types) [] s.items

abbrev pub VisitsAreRules : Type 0
VisitsAreRules = (g : Signature) (nodes : ℕ) (types : ℕ → MlType) (s : Scoping) → IsScoped s → AreRules g nodes types s

-- Items obey the rules exactly where each of their visits does.
pub record AreItemRules (g : Signature) (nodes : ℕ) (types : ℕ → MlType) (before : List ItemTree) : Type 0 where
  pub visits_obey : After g (annotation_of nodes types) [] before (λ ns. Unit {0}) → ObeysUses g nodes (visits_of_items before) types
  pub items_obey : ObeysUses g nodes (visits_of_items before) types → After g (annotation_of nodes types) [] before (λ ns. Unit {0})

-- the visits of these items, and of an item behind them so many
abbrev pub front_of : List ItemTree → ItemTree → List Visit → List Visit
front_of before i us = visits_of_items before ++ enter_item i ∷ us

-- Items obey the rules, and behind them the nodes of an item up to a place, exactly where the visits up to it do. So many nodes are left by
-- these visits, and those nodes have the numbers below theirs.
pub record AreFrontRules (g : Signature) (nodes : ℕ) (types : ℕ → MlType) (before : List ItemTree) (i : ItemTree) (us : List Visit) : Type 0 where
  pub visits_obey : After g (annotation_of nodes types) [] before (λ ns. NodesAre g (annotation_of nodes types) (λ k. k < length (left_in (front_of before i us))) ns i.form)
      → ObeysUses g nodes (front_of before i us) types
  pub nodes_obey : ObeysUses g nodes (front_of before i us) types
      → After g (annotation_of nodes types) [] before (λ ns. NodesAre g (annotation_of nodes types) (λ k. k < length (left_in (front_of before i us))) ns i.form)

abbrev pub FrontItemsAreRules : Type 0
FrontItemsAreRules = (g : Signature) (nodes : ℕ) (types : ℕ → MlType) (s : Scoping) → IsScoped s → (before rest : List ItemTree) → s.items ≡ before ++ rest
    → AreItemRules g nodes types before

abbrev pub FrontsAreRules : Type 0
FrontsAreRules = (g : Signature) (nodes : ℕ) (types : ℕ → MlType) (s : Scoping) → IsScoped s → (before rest : List ItemTree) (i : ItemTree) → s.items ≡ before ++ i ∷ rest
    → (us ws : List Visit) → visits_of_form i.form ≡ us ++ ws → AreFrontRules g nodes types before i us
