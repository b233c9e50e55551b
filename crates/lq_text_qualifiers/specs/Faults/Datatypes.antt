-- What datatypes say of the names of types and of constructors. The predeclared ones come first.
use Rattle.std.specs.Prelude.{ℕ, ◌==◌, List, [], ◌∷◌, ◌++◌, map, length, Option, Some, None, if◌then◌else◌}
use Rattle.std.specs.Option.{is_some}
use Rattle.lq_text_tree.specs.MlType.{MlTypes, no_types, more_types, var}
use Rattle.lq_text_tree.specs.Types.{list_type}
use Rattle.lq_text_walk.specs.Scoped.Signature.{ConstructorTree, DataTree}
use Rattle.lq_text_qualifiers.specs.Faults.Lookups.{Lookup, first_in}
use Rattle.lq_text_qualifiers.specs.Faults.Shapes.{Shape, int, bool, array, data_of, other}

-- a constructor's datatype and the types of its fields
pub record Made : Type 0 where
  pub datatype : ℕ
  pub fields : MlTypes

abbrev pub makes : ℕ → MlTypes → Made
makes d ts = record { datatype = d; fields = ts }

abbrev pub entry_of : ℕ → ConstructorTree → ℕ × Made
entry_of d c = (c.name, makes d c.fields)

abbrev pub constructors_in : List DataTree → List (ℕ × Made)
constructors_in [] = []
constructors_in (d ∷ ds) = map (entry_of d.name) d.constructors ++ constructors_in ds

-- how many constructors a datatype has
abbrev pub size_of : DataTree → ℕ × ℕ
size_of d = (d.name, length d.constructors)

abbrev pub built : ℕ → MlTypes → ConstructorTree
built c ts = record { name = c; fields = ts }

-- `list` with `[]` and `::`, and `option` with `None` and `Some`; `'a` is the parameter of both
abbrev pub predeclared : List DataTree
predeclared =
    (record { name = 4; parameters = 11 ∷ []; constructors = built 7 no_types ∷ built 8 (more_types (var 0) (more_types (list_type (var 0)) no_types)) ∷ [] })
    ∷ (record { name = 5; parameters = 11 ∷ []; constructors = built 9 no_types ∷ built 10 (more_types (var 0) no_types) ∷ [] }) ∷ []

-- what a constructor is where these datatypes are defined
abbrev pub constructor : List DataTree → Lookup Made
constructor ds = first_in (constructors_in (predeclared ++ ds))

-- how many constructors the datatype of a name has
abbrev pub size : List DataTree → Lookup ℕ
size ds = first_in (map size_of (predeclared ++ ds))

-- The shape that a name stands for, if it is a type, where datatypes have these sizes: int, bool, unit, array and map have the numbers 0, 1,
-- 2, 3 and 6.
abbrev pub shape_in : Lookup ℕ → ℕ → Option Shape
shape_in sizes x =
    if x == 0 then Some int
    else if x == 1 then Some bool
    else if x == 2 then Some other
    else if x == 3 then Some array
    else if x == 6 then Some other
    else if is_some (sizes x) then Some (data_of x)
    else None

abbrev pub shape_named : List DataTree → ℕ → Option Shape
shape_named ds = shape_in (size ds)
