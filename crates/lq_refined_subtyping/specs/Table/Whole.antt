-- What a table of refined types says.
use Rattle.std.specs.Prelude.{ℕ, List, [], length}
use Rattle.lq_refined_types.specs.Parts.Part.{Scopes}
use Rattle.lq_refined_types.specs.Types.Refined.{Refined}
use Rattle.lq_refined_subtyping.specs.declared.table.table.RefinedTypes.{RefinedTypes}
use Rattle.lq_refined_subtyping.specs.Table.Forms.{at}
use Rattle.lq_refined_subtyping.specs.Table.Rows.{grown, Extends, HasNode}

-- the types, in the order of their numbers, where the unknowns have these scopes
abbrev pub types_of : Scopes → RefinedTypes → List Refined
types_of scopes all = grown scopes [] all.rows.items

-- the type of a number
abbrev pub refined_at : Scopes → RefinedTypes → ℕ → Refined
refined_at scopes all i = at (types_of scopes all) i

-- how many types there are
abbrev pub count_of : RefinedTypes → ℕ
count_of all = length all.rows.items

-- the type of a number stands as one level, and not as something that is done to another type
abbrev pub IsNode : RefinedTypes → ℕ → Type 0
IsNode all i = HasNode all.rows.items i

-- the old types stay, under their numbers, and there are possibly more
abbrev pub Grows : RefinedTypes → RefinedTypes → Type 0
Grows old new = Extends old.rows.items new.rows.items
