-- Laws of substitution.
use Rattle.std.specs.Prelude.{◌≡◌, map}
use Rattle.lq_logic_predicates.specs.Formula.{Formula}
use Rattle.lq_refined_types.specs.Parts.Assignment.{Assignment, IsScoped, parts_under}
use Rattle.lq_refined_types.specs.Parts.Part.{Parts, Scopes, parts_by}
use Rattle.lq_refined_types.specs.Parts.Substitution.{Subst, after, formula_by}

-- two substitutions one after the other are one
abbrev pub FormulaAfter : Type 0
FormulaAfter = (θ σ : Subst) (p : Formula) → formula_by (after θ σ) p ≡ formula_by θ (formula_by σ p)

abbrev pub PartsAfter : Type 0
PartsAfter = (scopes : Scopes) (θ σ : Subst) (qs : Parts) → parts_by scopes (after θ σ) qs ≡ parts_by scopes θ (parts_by scopes σ qs)

-- an assignment of parts with something put for their names is that of the parts, with it put for their names
abbrev pub UnderBy : Type 0
UnderBy =
    (scopes : Scopes) (A : Assignment) (θ : Subst) (qs : Parts) → IsScoped scopes A → parts_under A (parts_by scopes θ qs) ≡ map (formula_by θ) (parts_under A qs)
