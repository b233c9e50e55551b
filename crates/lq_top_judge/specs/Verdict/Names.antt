-- What binders and the parameters of datatypes are called in reports.
use Rattle.std.specs.Prelude.{ℕ, true, false, ◌==◌, List, [], ◌∷◌, Option, if◌then◌else◌}
use Rattle.lq_text_walk.specs.Scoped.Signature.{DataTree}
use Rattle.lq_logic_text.specs.Calling.{Calling}
use Rattle.lq_top_answers.specs.TypeText.Types.{Writing}
use Rattle.lq_meaning_normalize.specs.MadeNames.Numbers.{made_number}
use Rattle.lq_top_pose.specs.Stages.{Typed, names_in, normal_in, program_in}

-- the parameters of the last of these datatypes with the name, or else these
abbrev pub parameters_among : List ℕ → List DataTree → ℕ → List ℕ
parameters_among known [] d = known
parameters_among known (x ∷ xs) d = parameters_among (if x.name == d then x.parameters else known) xs d

-- of `list` and `option`, whose numbers are 4 and 5, it is `'a`
abbrev pub parameters_in : List DataTree → ℕ → List ℕ
parameters_in ds d = if 5 == d then 11 ∷ [] else (if 4 == d then 11 ∷ [] else parameters_among [] ds d)

-- the k of each made name `%k` of the program's normal form
abbrev pub numbers_in : Typed → ℕ → Option ℕ
numbers_in t = made_number (program_in t).sources (normal_in t)

-- implications tell binders of one name apart
abbrev pub called_by : List (List ℕ) → List (Option ℕ) → (ℕ → Option ℕ) → Calling
called_by names sources numbers = record { names = names; sources = sources; made = numbers; told_apart = true }

abbrev pub called_in : Typed → Calling
called_in t = called_by (names_in t.bound) (program_in t).sources (numbers_in t)

-- types don't
abbrev pub written_by : List (List ℕ) → List (Option ℕ) → (ℕ → Option ℕ) → (ℕ → List ℕ) → Writing
written_by names sources numbers parameters =
    record { calling = record { names = names; sources = sources; made = numbers; told_apart = false }; parameters = parameters }

abbrev pub writing_in : Typed → Writing
writing_in t = written_by (names_in t.bound) (program_in t).sources (numbers_in t) (parameters_in (program_in t).datatypes)
