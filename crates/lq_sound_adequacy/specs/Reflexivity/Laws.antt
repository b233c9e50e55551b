-- Each type is a subtype of itself.
use Rattle.std.specs.Prelude.{◌≡◌, [], ◌∷◌}
use Rattle.lq_refined_types.specs.Parts.Assignment.{Assignment}
use Rattle.lq_refined_types.specs.Types.Context.{Context}
use Rattle.lq_refined_types.specs.Types.Refined.{Matrix, Refined, int_with, bool_with, unit_type, function, tuple_of, array_with, data_with, map_with, type_variable, Refineds, none, more}
use Rattle.lq_refined_types.specs.Types.Unfolding.{cell}
use Rattle.lq_refined_types.specs.Subtyping.Subtype.{Setting, IsSubtype}

-- these entries are those of the matrix at their places: no earlier entry has the place of another one
abbrev pub AreFound : Matrix → Matrix → Type 0
AreFound m [] = Unit {0}
AreFound m (e ∷ n) = (cell m e.constructor e.field e.parameter ≡ e.parts) × AreFound m n

-- no two entries of a matrix in the type have one place
abbrev mutual
  pub HasOwnPlaces : Refined → Type 0
  HasOwnPlaces (int_with p) = Unit {0}
  HasOwnPlaces (bool_with p) = Unit {0}
  HasOwnPlaces unit_type = Unit {0}
  HasOwnPlaces (function x a b) = HasOwnPlaces a × HasOwnPlaces b
  HasOwnPlaces (tuple_of ts) = HaveOwnPlaces ts
  HasOwnPlaces (array_with e p) = HasOwnPlaces e
  HasOwnPlaces (data_with d ts m p) = HaveOwnPlaces ts × AreFound m m
  HasOwnPlaces (map_with e p) = HasOwnPlaces e
  HasOwnPlaces (type_variable i) = Unit {0}

  pub HaveOwnPlaces : Refineds → Type 0
  HaveOwnPlaces none = Unit {0}
  HaveOwnPlaces (more t ts) = HasOwnPlaces t × HaveOwnPlaces ts

-- in every environment and under every assignment
abbrev pub SubtypingIsReflexive : Type 0
SubtypingIsReflexive = (P : Setting) (A : Assignment) (Γ : Context) (t : Refined) → HasOwnPlaces t → IsSubtype P A Γ t t
