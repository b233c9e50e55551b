-- Why a program's instances or implications aren't made is why there is nothing to be solved.
use Rattle.std.proofs.Common.{◌≡◌, ◌<◌, ◌≤◌, ◌⊎◌, inl, inr, List, refl, sym, subst}
use Rattle.lq_generate_implications.specs.Generate.Refusing as generate
use Rattle.lq_generate_implications.specs.declared.generate.error.GenerateError.{GenerateError}
use Rattle.lq_generate_implications.specs.declared.generate.error.GenerateError.TheVariants.{ImplicationsPast, Memory}
use Rattle.lq_refined_instances.specs.Instances.{told, total_count}
use Rattle.lq_refined_instances.specs.declared.finding.QualError.{QualError}
use Rattle.lq_refined_instances.specs.declared.finding.QualError.TheVariants as qual_error
use Rattle.lq_text_qualifiers.specs.Sorting.Sorted.{Qualifier}
use Rattle.lq_refined_types.specs.Subtyping.Implication.{Implication}
use Rattle.lq_refined_templates.specs.Templates.Scopes.{Unknown}
use Rattle.lq_generate_problem.specs.Refusing.{of_implications, of_instances, IsRefused}

pub refused_as : (qs : List Qualifier) (us : List Unknown) (is : List Implication) (e : GenerateError) → total_count qs us ≤ 262144
    → generate.IsRefused is e → IsRefused qs us is (of_implications e)
refused_as qs us is (ImplicationsPast n) within h = (within, h.0, h.1)
refused_as qs us is Memory within h = tt

pub refused_by_count : (qs : List Qualifier) (us vs : List Unknown) (is : List Implication) (e : QualError) → us ≡ vs
    → (e ≡ qual_error.Memory) ⊎ ((262144 < total_count qs us) × (e ≡ qual_error.InstancesPast (told (total_count qs us))))
    → IsRefused qs vs is (of_instances e)
refused_by_count qs us vs is e same (inl h) = subst (λ x. IsRefused qs vs is (of_instances x)) (sym h) tt
refused_by_count qs us vs is e same (inr h) =
    subst (λ (ws : List Unknown). IsRefused qs ws is (of_instances e)) same
    (subst (λ x. IsRefused qs us is (of_instances x)) (sym h.1) (h.0, refl))
