-- What is known of a typed program, as it stands in memory.
use Rattle.std.specs.Prelude.{◌≡◌, ℕ, ◌<◌, ◌++◌, List, [], ◌∷◌, All, length, map, slice_index_or, Option}
use Rattle.lq_types_infer.specs.Annotation.Whole.{program_of, table_of, types_of}
use Rattle.lq_types_infer.specs.declared.annotation.annotated.Annotated.{Annotated}
use Rattle.lq_types_rules.specs.Visits.Laws.{slot_count}
use Rattle.lq_types_infer.specs.declared.instantiation.instantiated.Instantiated.{Instantiated}
use Rattle.lq_base_names.specs.declared.name.Name.{Name}
use Rattle.lq_text_walk.specs.Scoped.Views.{source_view}
use Rattle.lq_text_tree.specs.MlType.{unit}
use Rattle.lq_types_table.specs.Nodes.{at}
use Rattle.lq_types_table.specs.Whole as table
use Rattle.lq_types_table.specs.declared.type_table.TypeTable.{TypeTable}

-- numbers of the types of the first so many slots
pub record HasSlots (a : Annotated) (count : ℕ) (slots : List ℕ) : Type 0 where
  pub long : length slots ≡ count
  pub inside : All (λ r. r < length (table_of a)) slots
  pub types : (i : ℕ) → i < count → at (table_of a) (slice_index_or slots i 0) ≡ types_of a i

-- the types are those of the program's table and unit, the slots all slots, and the names those of all binders
pub record IsRightOf (i : Instantiated) (types : TypeTable) (unit_row : ℕ) (slots : List ℕ) (texts : List (Option Name)) : Type 0 where
  pub with_unit : table.types_of types ≡ table_of i.annotated ++ unit ∷ []
  pub last : unit_row ≡ length (table_of i.annotated)
  pub has_slots : HasSlots i.annotated (slot_count (program_of i.annotated)) slots
  pub sources : map source_view texts ≡ (program_of i.annotated).sources
