-- What doesn't stand on top.
use Rattle.std.specs.Prelude.{◌≡◌, ℕ, List, ◌∷◌}
use Rattle.lq_base_names.specs.declared.place.Place.{Place}
use Rattle.lq_text_tree.specs.Items.{Named, Construct, ItemTree}
use Rattle.lq_text_tree.specs.MeasureTrees.{EquationTree, MeasureTree}
use Rattle.lq_text_tree.specs.Pattern.{Pattern}
use Rattle.lq_text_tree.specs.PredTree.{PredTree}
use Rattle.lq_text_tree.specs.Qualifiers.{QualifierTree}
use Rattle.lq_text_tree.specs.Tree.{Tree}
use Rattle.lq_text_tree.specs.TreeView.{Case, Recursive}
use Rattle.lq_text_tree.specs.TypeTree.{TypeTree}
use Rattle.lq_text_actions.specs.Value.{Commas, Value, mark, named, expression, expressions, element, arms, recursive, pattern_read, patterns, type_read, types, parameters, constructors, items, predicate, qualifiers, equations, measures}

abbrev pub NoMark : List Value → Type 0
NoMark vs = (x : Place) (r : List Value) → vs ≡ mark x ∷ r → ⊥

abbrev pub NoName : List Value → Type 0
NoName vs = (x : ℕ) (y : Place) (r : List Value) → vs ≡ named x y ∷ r → ⊥

abbrev pub NoExpression : List Value → Type 0
NoExpression vs = (x : Tree) (y : Place) (z : Commas) (r : List Value) → vs ≡ expression x y z ∷ r → ⊥

abbrev pub NoRow : List Value → Type 0
NoRow vs = (x : List Tree) (y : Place) (r : List Value) → vs ≡ expressions x y ∷ r → ⊥

abbrev pub NoPattern : List Value → Type 0
NoPattern vs = (x : Pattern) (r : List Value) → vs ≡ pattern_read x ∷ r → ⊥

abbrev pub NoPatterns : List Value → Type 0
NoPatterns vs = (x : List Pattern) (y : Place) (r : List Value) → vs ≡ patterns x y ∷ r → ⊥

abbrev pub NoType : List Value → Type 0
NoType vs = (x : TypeTree) (y : Place) (r : List Value) → vs ≡ type_read x y ∷ r → ⊥

abbrev pub NoTypes : List Value → Type 0
NoTypes vs = (x : List TypeTree) (y : Place) (r : List Value) → vs ≡ types x y ∷ r → ⊥

abbrev pub NoPredicate : List Value → Type 0
NoPredicate vs = (x : PredTree) (y : Place) (r : List Value) → vs ≡ predicate x y ∷ r → ⊥

abbrev pub NoRecursive : List Value → Type 0
NoRecursive vs = (x : ℕ) (y : Recursive) (r : List Value) → vs ≡ recursive x y ∷ r → ⊥

abbrev pub NoItems : List Value → Type 0
NoItems vs = (x : List ItemTree) (r : List Value) → vs ≡ items x ∷ r → ⊥

abbrev pub NoParameters : List Value → Type 0
NoParameters vs = (x : List Named) (r : List Value) → vs ≡ parameters x ∷ r → ⊥

abbrev pub NoConstructors : List Value → Type 0
NoConstructors vs = (x : List Construct) (r : List Value) → vs ≡ constructors x ∷ r → ⊥

abbrev pub NoQualifiers : List Value → Type 0
NoQualifiers vs = (x : List QualifierTree) (r : List Value) → vs ≡ qualifiers x ∷ r → ⊥

abbrev pub NoEquations : List Value → Type 0
NoEquations vs = (x : List EquationTree) (r : List Value) → vs ≡ equations x ∷ r → ⊥

abbrev pub NoMeasures : List Value → Type 0
NoMeasures vs = (x : List MeasureTree) (r : List Value) → vs ≡ measures x ∷ r → ⊥

abbrev pub NoElement : List Value → Type 0
NoElement vs = (x : Tree) (y : Tree) (z : Place) (r : List Value) → vs ≡ element x y z ∷ r → ⊥

abbrev pub NoArms : List Value → Type 0
NoArms vs = (x : List Case) (r : List Value) → vs ≡ arms x ∷ r → ⊥

abbrev pub NoTwo : List Value → Type 0
NoTwo vs = (x1 : Tree) (x2 : Place) (x3 : Commas) (x4 : Tree) (x5 : Place) (x6 : Commas) (r : List Value) → vs ≡ expression x1 x2 x3 ∷ expression x4 x5 x6 ∷ r → ⊥

abbrev pub NoTwoPredicates : List Value → Type 0
NoTwoPredicates vs = (x1 : PredTree) (x2 : Place) (x3 : PredTree) (x4 : Place) (r : List Value) → vs ≡ predicate x1 x2 ∷ predicate x3 x4 ∷ r → ⊥

abbrev pub NoPredicateBehindMark : List Value → Type 0
NoPredicateBehindMark vs = (x1 : PredTree) (x2 : Place) (x3 : Place) (r : List Value) → vs ≡ predicate x1 x2 ∷ mark x3 ∷ r → ⊥
