-- Which definitions are generalised, in memory.
use Rattle.std.specs.Prelude.{◌≡◌, ℕ, false, slice_index_or}
use Rattle.std.specs.Option.{is_some}
use Rattle.lq_types_infer.specs.declared.instantiation.general.Generalised.{Generalised}
use Rattle.lq_types_infer.specs.declared.instantiation.general.Use.{Use}
use Rattle.lq_types_rules.specs.Typings.Uses.{Known, GeneralUse, before_in}

-- the node and the binder of a use
abbrev pub use_view : Use → ℕ × ℕ
use_view u = (u.node, u.binder)

abbrev pub place_in : GeneralUse → ℕ × ℕ
place_in u = (u.node, u.binder)

-- the table has what is known
pub record HasGeneral (d : Generalised) (k : Known) : Type 0 where
  pub general_is : (x : ℕ) → slice_index_or d.binders.items x false ≡ is_some (before_in k.general x)
