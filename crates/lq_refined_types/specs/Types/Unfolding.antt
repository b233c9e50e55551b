-- The types of a constructor's fields where its value has a refined type.
use Rattle.std.specs.Prelude.{ℕ, zero, suc, Bool, true, false, ◌&&◌, ◌==◌, cond, [], ◌∷◌, None}
use Rattle.lq_refined_types.specs.Parts.Part.{Parts, Scopes, parts_by}
use Rattle.lq_refined_types.specs.Parts.Substitution.{Subst}
use Rattle.lq_text_tree.specs.MlType as ml
use Rattle.lq_text_tree.specs.MlType.{MlType, MlTypes}
use Rattle.lq_refined_types.specs.Types.Refined.{Matrix, Refined, int_with, bool_with, unit_type, function, tuple_of, array_with, data_with, map_with, Refineds, none, more, type_at, count, strengthened}

-- a type without refinements, with types for its variables
abbrev mutual
  pub bare : Refineds → MlType → Refined
  bare by ml.int = int_with []
  bare by ml.bool = bool_with []
  bare by ml.unit = unit_type
  bare by (ml.var i) = type_at by i
  bare by (ml.arrow a b) = function None (bare by a) (bare by b)
  bare by (ml.tuple ts) = tuple_of (all_bare by ts)
  bare by (ml.array a) = array_with (bare by a) []
  bare by (ml.named d ts) = data_with d (all_bare by ts) [] []
  bare by (ml.map_of a) = map_with (bare by a) []

  pub all_bare : Refineds → MlTypes → Refineds
  all_bare by ml.no_types = none
  all_bare by (ml.more_types t ts) = more (bare by t) (all_bare by ts)

-- the variables from this one on, so many
abbrev pub are_parameters : ℕ → ℕ → MlTypes → Bool
are_parameters i zero ml.no_types = true
are_parameters i (suc n) (ml.more_types (ml.var j) ts) = i == j && are_parameters (suc i) n ts
are_parameters i n ts = false

-- a recursive field: the datatype of so many parameters again, with its own parameters in their order
abbrev pub is_again : ℕ → ℕ → MlType → Bool
is_again d n (ml.named e ts) = d == e && are_parameters 0 n ts
is_again d n _ = false

-- the parts of a matrix at a place
abbrev pub cell : Matrix → ℕ → ℕ → ℕ → Parts
cell [] c j i = []
cell (e ∷ m) c j i = cond (e.constructor == c && (e.field == j && e.parameter == i)) e.parts (cell m c j i)

module _ (scopes : Scopes) (θ : Subst) where
  -- the arguments, each with what the matrix has for it at a recursive field
  abbrev pub pushed : Matrix → ℕ → ℕ → ℕ → Refineds → Refineds
  pushed m c j i none = none
  pushed m c j i (more t ts) = more (strengthened (parts_by scopes θ (cell m c j i)) t) (pushed m c j (suc i) ts)

  -- The fields of a constructor, from the j-th on, where its value has the datatype with these arguments and this matrix: a
  -- recursive field has the datatype again, and what is put for names is put for `#1`, `#2`, ..
  abbrev pub unfolded_from : ℕ → Refineds → Matrix → ℕ → ℕ → MlTypes → Refineds
  unfolded_from d ts m c j ml.no_types = none
  unfolded_from d ts m c j (ml.more_types f fs) =
      more (cond (is_again d (count ts) f) (data_with d (pushed m c j 0 ts) m []) (bare ts f)) (unfolded_from d ts m c (suc j) fs)

  abbrev pub unfolded : ℕ → Refineds → Matrix → ℕ → MlTypes → Refineds
  unfolded d ts m c fs = unfolded_from d ts m c 0 fs
