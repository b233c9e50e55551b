-- The generalised definitions that a program uses are items of it, and have source names.
use Rattle.std.specs.Prelude.{◌≡◌, ℕ, true, All, Option}
use Rattle.std.specs.Option.{is_some}
use Rattle.lq_text_walk.specs.Scoped.Scoping.{Scoping}
use Rattle.lq_types_infer.specs.Instantiation.Uses.{uses_of}
use Rattle.lq_generate_reading.specs.SourceNames.Texts.{DefinesTexts}
use Rattle.lq_generate_reading.specs.GeneralNames.Defined.{IsDefined}

-- Each use of a generalised definition is of a name that an item defines.
abbrev pub GeneralUsesAreDefined : Type 0
GeneralUsesAreDefined = (s : Scoping) → All (λ u. IsDefined s.items u.binder) (uses_of s)

-- Where what a program defines has source names, each use of a generalised definition is of a name of the source.
abbrev pub GeneralUsesHaveTexts : Type 0
GeneralUsesHaveTexts =
    (s : Scoping) (text : ℕ → Option ℕ) → DefinesTexts text s.items → All (λ u. is_some (text u.binder) ≡ true) (uses_of s)
