-- Equations of measures that are well sorted: they speak of v, an object, and of fields.
use Rattle.std.specs.Prelude.{◌≡◌, ℕ, suc, Some}
use Rattle.lq_refined_rules.specs.Checks.Basis.{Basis}
use Rattle.lq_sound_scope.specs.Scopes.Over.{kind_of}
use Rattle.lq_logic_predicates.specs.declared.symbol.Symbol.TheVariants.{Value, Position}
use Rattle.lq_refined_types.specs.Types.Refined.{object}
use Rattle.lq_text_qualifiers.specs.Faults.Shapes.{shape_of}
use Rattle.lq_text_tree.specs.MlType.{MlTypes, no_types, more_types}
use Rattle.lq_text_tree.specs.Types.{Constructor}
use Rattle.lq_sound_scope.specs.Sorts.Sorts.{AreWellSorted, Sorts, no_sorts, with_kind}

-- with `#k` for each of the fields from the one behind the first j on, at its kind whatever the parameters
abbrev pub with_fields : Sorts → ℕ → MlTypes → Sorts
with_fields N j no_types = N
with_fields N j (more_types f fs) = with_kind (with_fields N (suc j) fs) (kind_of (shape_of f)) (Position (suc j))

-- each equation of a constructor speaks of v and of its fields
abbrev pub AreEquationsWellSorted : Basis → Type 0
AreEquationsWellSorted P =
    (c : ℕ) (k : Constructor) → P.setting.constructors c ≡ Some k
    → AreWellSorted (with_kind (with_fields no_sorts 0 k.fields) object Value) (P.equations c)
