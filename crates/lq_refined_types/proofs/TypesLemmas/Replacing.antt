-- Two substitutions one after the other are one on types.
use Rattle.std.proofs.Common.{◌≡◌, refl, ap, ap₂}
use Rattle.lq_refined_types.specs.Parts.Laws.{PartsAfter}
use Rattle.lq_refined_types.specs.Parts.Part.{Scopes}
use Rattle.lq_refined_types.specs.Parts.Substitution.{Subst, after}
use Rattle.lq_refined_types.specs.Types.Operations.{type_by, types_by}
use Rattle.lq_refined_types.specs.Types.Refined.{Refined, int_with, bool_with, unit_type, function, tuple_of, array_with, data_with, map_with, type_variable, Refineds, none, more}

module _ (parts : PartsAfter) (scopes : Scopes) (θ σ : Subst) where
  mutual
    pub type-after : (t : Refined) → type_by scopes (after θ σ) t ≡ type_by scopes θ (type_by scopes σ t)
    type-after (int_with p) = ap int_with (parts scopes θ σ p)
    type-after (bool_with p) = ap bool_with (parts scopes θ σ p)
    type-after unit_type = refl
    type-after (function x a b) = ap₂ (function x) (type-after a) (type-after b)
    type-after (tuple_of ts) = ap tuple_of (types-after ts)
    type-after (array_with e p) = ap₂ array_with (type-after e) (parts scopes θ σ p)
    type-after (data_with d ts m p) = ap₂ (λ us q. data_with d us m q) (types-after ts) (parts scopes θ σ p)
    type-after (map_with e p) = ap₂ map_with (type-after e) (parts scopes θ σ p)
    type-after (type_variable i) = refl

    types-after : (ts : Refineds) → types_by scopes (after θ σ) ts ≡ types_by scopes θ (types_by scopes σ ts)
    types-after none = refl
    types-after (more t ts) = ap₂ more (type-after t) (types-after ts)
