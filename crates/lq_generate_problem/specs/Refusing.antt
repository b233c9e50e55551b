-- Why there is nothing to be solved.
use Rattle.std.specs.Prelude.{◌≡◌, ◌<◌, ◌≤◌, List, length}
use Rattle.lq_generate_implications.specs.declared.generate.error.GenerateError as generate_error
use Rattle.lq_generate_implications.specs.declared.generate.error.GenerateError.{GenerateError}
use Rattle.lq_refined_instances.specs.Instances.{told, total_count}
use Rattle.lq_refined_instances.specs.declared.finding.QualError as qual_error
use Rattle.lq_refined_instances.specs.declared.finding.QualError.{QualError}
use Rattle.lq_text_qualifiers.specs.Sorting.Sorted.{Qualifier}
use Rattle.lq_refined_types.specs.Subtyping.Implication.{Implication}
use Rattle.lq_refined_templates.specs.Templates.Scopes.{Unknown}
use Rattle.lq_generate_problem.specs.declared.error.ProblemError.{ProblemError}
use Rattle.lq_generate_problem.specs.declared.error.ProblemError.TheVariants.{InstancesPast, ImplicationsPast, Memory}

abbrev pub of_instances : QualError → ProblemError
of_instances (qual_error.TheVariants.InstancesPast n) = InstancesPast n
of_instances qual_error.TheVariants.Memory = Memory

abbrev pub of_implications : GenerateError → ProblemError
of_implications (generate_error.TheVariants.ImplicationsPast n) = ImplicationsPast n
of_implications generate_error.TheVariants.Memory = Memory

-- There are more than 262,144 replacements of placeholders, so many; or there are no more of them and more than 262,144 implications, so many,
-- where they are no more than 2^64 - 1. Of want of memory nothing is said.
abbrev pub IsRefused : List Qualifier → List Unknown → List Implication → ProblemError → Type 0
IsRefused qs us is (InstancesPast n) = (262144 < total_count qs us) × (n ≡ told (total_count qs us))
IsRefused qs us is (ImplicationsPast n) = (total_count qs us ≤ 262144) × (262144 < length is) × (n ≡ told (length is))
IsRefused qs us is Memory = Unit {0}
