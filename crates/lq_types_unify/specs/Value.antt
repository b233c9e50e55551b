-- The types that classes stand for.
use Rattle.std.specs.Prelude.{◌≡◌, ◌<◌, ℕ, zero, suc, List, [], Option, Some, None, All}
use Rattle.lq_types_unify.specs.Simple.{Simple, variable, made, each}
use Rattle.lq_types_unify.specs.Nodes.{Form}
use Rattle.lq_types_unify.specs.Classes.{up, root}

abbrev pub parts_of : Option Form → List ℕ
parts_of None = []
parts_of (Some f) = f.parts

-- the parts of the form that the class of a root has
abbrev pub inner : (ℕ → Option Form) → List ℕ → ℕ → List ℕ
inner forms shapes r = parts_of (forms (up shapes r))

abbrev pub built : (ℕ → Simple) → ℕ → Option Form → Simple
built types r None = variable r
built types r (Some f) = made f.head (each types f.parts)

-- a class without a form is a variable; the others are built, so many levels deep
abbrev pub value : ℕ → (ℕ → Option Form) → List ℕ → List ℕ → ℕ → Simple
value zero forms parents shapes i = variable (root parents i)
value (suc n) forms parents shapes i = built (value n forms parents shapes) (root parents i) (forms (up shapes (root parents i)))

-- the parts of a class are lower than the class
pub record IsRanked (forms : ℕ → Option Form) (parents shapes : List ℕ) (bound : ℕ) : Type 0 where
  pub rank : ℕ → ℕ
  pub below : (r : ℕ) → rank r < bound
  pub falls : (r : ℕ) → up parents r ≡ r → All (λ p. rank (root parents p) < rank r) (inner forms shapes r)
