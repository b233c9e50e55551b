-- What is held of constructors: the numbers of their fields' types.
use Rattle.std.specs.Prelude.{◌≡◌, ℕ, ◌<◌, List, [], All, map, slice_index_or}
use Rattle.lq_refined_types.specs.Types.Refined.{Refined}
use Rattle.lq_text_tree.specs.Types.{Signature}
use Rattle.lq_refined_types.specs.Subtyping.Subtype.{fields_of}
use Rattle.lq_refined_subtyping.specs.Table.Forms.{each}
use Rattle.lq_refined_subtyping.specs.Table.Unfolding.{all_plain}
use Rattle.lq_refined_subtyping.specs.declared.split.fields.ConstructorFields.{ConstructorFields}

-- the fields of the constructor of this number
abbrev pub fields_at : ConstructorFields → ℕ → List ℕ
fields_at f c = slice_index_or (map (λ row. row.items) f.rows.items) c []

-- each of them is one of so many
abbrev pub AreThere : ℕ → ConstructorFields → Type 0
AreThere n f = (c : ℕ) → All (λ p. p < n) (fields_at f c)

-- under these numbers stand the types of the constructors' fields, with the parameters as variables
pub record KnowsFields (all : List Refined) (f : ConstructorFields) (g : Signature) : Type 0 where
  pub are : (c : ℕ) → each all (fields_at f c) ≡ all_plain (fields_of (g c))
