-- What is known of constructors, as it stands in memory.
use Rattle.std.specs.Prelude.{◌≡◌, ℕ, ◌<◌, ◌==◌, cond, List, [], ◌∷◌, ◌++◌, All, length, map}
use Rattle.lq_generate_operations.specs.Basis.Basis.{items_at}
use Rattle.lq_generate_fresh.specs.Fresh.Defined.{made_by, names_of}
use Rattle.lq_logic_predicates.specs.PredView.{formula_of}
use Rattle.lq_refined_types.specs.Types.Refined.{Refined}
use Rattle.lq_refined_subtyping.specs.Table.Forms.{at}
use Rattle.lq_refined_subtyping.specs.Table.Unfolding.{plain}
use Rattle.lq_text_qualifiers.specs.Sorting.Sorted.{Measure}
use Rattle.lq_text_tree.specs.MlType.{MlTypes, no_types, more_types}
use Rattle.lq_text_tree.specs.Types.{Constructor}
use Rattle.lq_generate_datatypes.specs.Equations.{equations_among}
use Rattle.lq_generate_datatypes.specs.declared.building.Building.{Building}

-- the types of fields in a row, without refinements
abbrev pub plains : MlTypes → List Refined
plains no_types = []
plains (more_types t ts) = plain t ∷ plains ts

-- those of all constructors of a name
abbrev pub fields_among : List (ℕ × Constructor) → ℕ → List Refined
fields_among [] c = []
fields_among (k ∷ ks) c = cond (k.0 == c) (plains k.1.fields) [] ++ fields_among ks c

-- what is known of these constructors, in a table of these types
pub record Holds (ms : List Measure) (all : List Refined) (b : Building) (ks : List (ℕ × Constructor)) : Type 0 where
  pub names : (d : ℕ) → map (λ n. n.0) (items_at b.constructors.items d) ≡ names_of (made_by d ks)
  pub equations : (c : ℕ) → map formula_of (items_at b.equations.items c) ≡ equations_among ms [] ks c
  pub fields : (c : ℕ) → map (at all) (items_at b.fields.items c) ≡ fields_among ks c
  pub there : (c : ℕ) → All (λ p. p < length all) (items_at b.fields.items c)
