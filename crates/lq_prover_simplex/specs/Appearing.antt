-- The forms of rows, by their first appearance.
use Rattle.std.specs.Prelude.{◌≡◌, ◌≢◌, ℕ, ◌<◌, ◌≤◌, ◌⊎◌, List, [], ◌∷◌, ◌++◌, Some, length, slice_get}
use Rattle.lq_logic_rows.specs.Row.{Row}
use Rattle.lq_logic_rows.specs.Forms.{Parts, IsNormal, AreMultiples}
use Rattle.lq_prover_simplex.specs.Systems.{form_at}

-- the row at this place is a multiple of the form, and none before it is
pub record IsFirst (rows : List Row) (form : Parts) (place : ℕ) : Type 0 where
  pub row : Row
  pub there : slice_get rows place ≡ Some row
  pub multiple : AreMultiples row.parts form
  pub before : (i : ℕ) (earlier : Row) → i < place → slice_get rows i ≡ Some earlier → ¬ (AreMultiples earlier.parts form)

-- the forms past the terms are those of the rows, by their first appearance, and each row with terms is a multiple of a form
pub record AreFormsOf (rows : List Row) (terms : ℕ) (forms : List Parts) : Type 0 where
  pub first : (k : ℕ) → terms ≤ k → k < length forms → (place : ℕ) × IsFirst rows (form_at forms k) place
  pub ascend : (j k p q : ℕ) → terms ≤ j → j < k → k < length forms → IsFirst rows (form_at forms j) p → IsFirst rows (form_at forms k) q → p < q
  pub covers : (i : ℕ) (row : Row) → slice_get rows i ≡ Some row → (row.parts ≡ []) ⊎ ((k : ℕ) × (k < length forms) × AreMultiples row.parts (form_at forms k))

-- the form is none of these, which are normal
abbrev pub IsFurther : List Parts → Parts → Type 0
IsFurther forms form = (k : ℕ) → k < length forms → IsNormal (form_at forms k) × (form_at forms k ≢ form)

-- a form was added that wasn't there, or none
abbrev pub IsExtended : List Parts → List Parts → Parts → Type 0
IsExtended old new form = (new ≡ old) ⊎ ((new ≡ old ++ form ∷ []) × IsFurther old form)

-- the form of these parts was added where it wasn't there
abbrev pub HasGrown : List Parts → List Parts → Parts → Type 0
HasGrown old new parts =
    (new ≡ old) ⊎ ((form : Parts) × (new ≡ old ++ form ∷ []) × IsNormal form × AreMultiples parts form × IsFurther old form)
