-- The kinds of names by the types of an annotation.
use Rattle.std.specs.Prelude.{ℕ, ◌-◌, ◌^◌, ltb, Bool, true, false, cond}
use Rattle.lq_sound_scope.specs.Scopes.Over.{kind_of}
use Rattle.lq_refined_templates.specs.Points.Annotation.{Annotation}
use Rattle.lq_sound_adequacy.specs.Obligations.Kinds.{NameKind}
use Rattle.lq_text_qualifiers.specs.Faults.Shapes.{shape_of}
use Rattle.lq_text_tree.specs.MlType.{MlType, int, bool, unit, var, arrow, tuple, array, named, map_of}

abbrev pub is_bare : MlType → Bool
is_bare int = false
is_bare bool = false
is_bare unit = false
is_bare (var i) = true
is_bare (arrow a b) = false
is_bare (tuple ts) = false
is_bare (array a) = false
is_bare (named d ts) = false
is_bare (map_of a) = false

-- the kind of values of the type, and whether it is a type variable alone
abbrev pub simple_kind : MlType → NameKind
simple_kind a = (kind_of (shape_of a), is_bare a)

abbrev pub is_small : ℕ → Bool
is_small x = ltb x (2 ^ 31)

-- the name whose twin this is; a name below 2^31 is its own
abbrev pub untwinned : ℕ → ℕ
untwinned x = cond (is_small x) x (x - 2 ^ 31)

-- names below 2^31 have the kinds of their types, and twins those of their names
abbrev pub kinds_by : Annotation → ℕ → NameKind
kinds_by n x = simple_kind (n.names (untwinned x))
