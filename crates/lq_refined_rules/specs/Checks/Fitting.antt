-- What operations give, and what environments of arms have, has the simple types of a typed tree.
use Rattle.std.specs.Prelude.{◌≡◌, ℕ, [], ◌∷◌}
use Rattle.lq_refined_types.specs.Parts.Part.{Part}
use Rattle.lq_refined_types.specs.Types.Context.{guard, Context}
use Rattle.lq_refined_types.specs.Types.Refined.{Refined, erased}
use Rattle.lq_text_tree.specs.MlType.{MlType}
use Rattle.lq_refined_rules.specs.Checks.Basis.{Basis}
use Rattle.lq_refined_rules.specs.Checks.Match.{in_arm}
use Rattle.lq_refined_rules.specs.Checks.Operation.{type_of, bind}
use Rattle.lq_refined_rules.specs.Checks.Tree.{Use, Pattern, Operation}
use Rattle.lq_refined_rules.specs.Checks.Typing.{Points, AreTemplates, Types, type_of_use, HasPattern, IsPointed, HasOperation}

-- the environment has the names with these simple types, in this order
pub data Fits : Types → Context → Type 0 where
  fits_none : Fits [] []
  fits_bind : {Δ : Types} {Γ : Context} {x : ℕ} {a : MlType} {t : Refined} → erased t ≡ a → Fits Δ Γ → Fits ((x, a) ∷ Δ) (bind x t Γ)
  fits_guard : {Δ : Types} {Γ : Context} {p : Part} → Fits Δ Γ → Fits Δ (guard p ∷ Γ)

pub record GiveSimpleTypes (P : Basis) (Q : Points) : Type 0 where
  pub operations : (Δ : Types) (Γ : Context) (o : Operation) (a : MlType) → Fits Δ Γ → HasOperation P Q Δ o a → IsPointed Q o a
      → erased (type_of P Γ o) ≡ a
  pub arms : (Δ Θ : Types) (Γ : Context) (u : Use) (q : Pattern) → Fits Δ Γ → HasPattern P Δ (type_of_use Q Δ u) q Θ
      → Fits Θ (in_arm P Γ u q)

abbrev pub SimpleTypesAreGiven : Type 0
SimpleTypesAreGiven = (P : Basis) (Q : Points) → AreTemplates P Q → GiveSimpleTypes P Q
