-- Why the implications of a program aren't made.
use Rattle.std.specs.Prelude.{◌≡◌, ◌<◌, ◌-◌, ◌^◌, List, length, min}
use Rattle.lq_refined_types.specs.Subtyping.Implication.{Implication}
use Rattle.lq_generate_implications.specs.declared.generate.error.GenerateError.{GenerateError}
use Rattle.lq_generate_implications.specs.declared.generate.error.GenerateError.TheVariants.{ImplicationsPast, Memory}

-- there are more than 262,144, so many, where they are no more than 2^64 - 1; of want of memory nothing is said
abbrev pub IsRefused : List Implication → GenerateError → Type 0
IsRefused is (ImplicationsPast n) = (262144 < length is) × (n ≡ min (length is) (2 ^ 64 - 1))
IsRefused is Memory = Unit {0}
