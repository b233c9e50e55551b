-- What is known of definitions, in memory.
use Rattle.std.specs.Prelude.{◌≡◌, ℕ, ◌≤◌, List, Some, None, reverse, take, length, slice_index_or}
use Rattle.std.specs.Option.{option_map}
use Rattle.lq_types_infer.specs.declared.inference.definitions.Definitions.{Definitions}
use Rattle.lq_types_infer.specs.declared.inference.definitions.Use.{Use}
use Rattle.lq_types_rules.specs.Typings.Uses.{Known, GeneralUse, before_in}

-- the first so many of a list, the last of them first
abbrev pub first_of : List ℕ → ℕ → List ℕ
first_of xs n = reverse (take n xs)

-- the use of a generalised definition
abbrev pub use_view : List ℕ → Use → GeneralUse
use_view plain u = record { node = u.node; binder = u.binder; before = first_of plain u.before }

-- the tables have what is known
pub record HasKnown (d : Definitions) (k : Known) : Type 0 where
  pub plain_is : k.plain ≡ reverse d.plain.items
  pub general_is : (x : ℕ) → before_in k.general x ≡ option_map (first_of d.plain.items) (slice_index_or d.general.items x None)
  pub low : (x n : ℕ) → slice_index_or d.general.items x None ≡ Some n → n ≤ length d.plain.items
