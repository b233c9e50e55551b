-- The templates of one type are copies of each other.
use Rattle.std.specs.Prelude.{◌≡◌, ℕ, List, [], ◌∷◌, Option}
use Rattle.lq_refined_instances.specs.Scopes.{Scope}
use Rattle.lq_refined_types.specs.Renumbering.Renumbered.{renumbered}
use Rattle.lq_refined_copies.specs.Completed.{all_completed, mark}
use Rattle.lq_refined_templates.specs.Templates.Fresh.{fresh}
use Rattle.lq_text_tree.specs.MlType.{MlType}
use Rattle.lq_text_tree.specs.Types.{Signature}

-- a template from the unknown n on is the one from 0 on, renumbered, whatever is visible
abbrev pub TemplatesRenumber : Type 0
TemplatesRenumber =
    (g : Signature) (ordered : ℕ → List ℕ) (n : ℕ) (Γ : Scope) (xs : List (Option ℕ)) (t : MlType)
    → (fresh g ordered n Γ xs t).type ≡ renumbered n (fresh g ordered 0 (mark ∷ []) xs t).type

-- its unknowns are those where the mark alone is visible, completed by what is visible
abbrev pub TemplatesComplete : Type 0
TemplatesComplete =
    (g : Signature) (ordered : ℕ → List ℕ) (n : ℕ) (Γ : Scope) (xs : List (Option ℕ)) (t : MlType)
    → (fresh g ordered n Γ xs t).unknowns ≡ all_completed Γ (fresh g ordered 0 (mark ∷ []) xs t).unknowns
