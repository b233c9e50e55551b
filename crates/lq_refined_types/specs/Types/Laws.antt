-- What operations on refined types keep.
use Rattle.std.specs.Prelude.{◌≡◌, ℕ}
use Rattle.lq_refined_types.specs.Parts.Assignment.{Assignment}
use Rattle.lq_refined_types.specs.Parts.Part.{Parts, Scopes}
use Rattle.lq_refined_types.specs.Parts.Substitution.{Atom, Subst, after}
use Rattle.lq_text_tree.specs.MlType.{MlTypes}
use Rattle.lq_text_tree.specs.Types as types
use Rattle.lq_refined_types.specs.Types.Operations.{instantiated, self_type, type_by, twin, under}
use Rattle.lq_refined_types.specs.Types.Refined.{Matrix, Refined, Refineds, erased, all_erased, strengthened}
use Rattle.lq_refined_types.specs.Types.Unfolding.{unfolded}

-- each operation on a type keeps its simple type, or makes of it what it makes of simple types
pub record KeepSimpleTypes : Type 0 where
  pub strengthening : (q : Parts) (t : Refined) → erased (strengthened q t) ≡ erased t
  pub putting : (scopes : Scopes) (θ : Subst) (t : Refined) → erased (type_by scopes θ t) ≡ erased t
  pub instantiating : (by : Refineds) (t : Refined) → erased (instantiated by t) ≡ types.put (types.type_at (all_erased by)) (erased t)
  pub naming : (t : Refined) (a : Atom) → erased (self_type t a) ≡ erased t
  pub twinning : (scopes : Scopes) (t : Refined) → erased (twin scopes t) ≡ erased t
  pub assigning : (A : Assignment) (t : Refined) → erased (under A t) ≡ erased t
  pub fields : (scopes : Scopes) (θ : Subst) (d : ℕ) (ts : Refineds) (m : Matrix) (c : ℕ) (fs : MlTypes)
      → all_erased (unfolded scopes θ d ts m c fs) ≡ types.put_all (types.type_at (all_erased ts)) fs

-- two substitutions one after the other are one: a type may be kept as one type and a chain of substitutions
abbrev pub TypeAfter : Type 0
TypeAfter = (scopes : Scopes) (θ σ : Subst) (t : Refined) → type_by scopes (after θ σ) t ≡ type_by scopes θ (type_by scopes σ t)
