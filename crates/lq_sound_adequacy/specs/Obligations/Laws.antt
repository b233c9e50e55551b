-- What programs are asked for is well sorted.
use Rattle.std.specs.Prelude.{ℕ, [], All}
use Rattle.lq_refined_rules.specs.Checks.Basis.{Basis}
use Rattle.lq_refined_rules.specs.Checks.Tree.{Program}
use Rattle.lq_refined_rules.specs.Checks.Typing.{Points}
use Rattle.lq_refined_rules.specs.Obligations.Obligations.{obligations_of}
use Rattle.lq_refined_templates.specs.Templates.Scopes.{Unknown}
use Rattle.lq_sound_adequacy.specs.Subtypings.Laws.{IsPosed}
use Rattle.lq_sound_scope.specs.Sorts.Equations.{AreEquationsWellSorted}
use Rattle.lq_sound_scope.specs.Sorts.Types.{TypeSorted, TypesSorted}
use Rattle.lq_sound_adequacy.specs.Obligations.Kinds.{DefinitionsFixed, NameKind, ProgramKinds}
use Rattle.lq_sound_adequacy.specs.Obligations.Sorted.{IsSortedObligation, TwinsAlike, sorts_by}

-- Each name of a program has the kind that these give, and no definition's type is a type variable. At these kinds its templates and its types for
-- type variables are well sorted, and so are the equations of its measures.
pub record IsSortedBy (P : Basis) (unknowns : ℕ → Unknown) (K : ℕ → NameKind) (p : Program) : Type 0 where
  pub twins : TwinsAlike K
  pub names : ProgramKinds P K [] p
  pub fixed : DefinitionsFixed K p
  pub templates : (k : ℕ) → TypeSorted P.setting.constructors unknowns (sorts_by K) (P.template k)
  pub arguments : (i : ℕ) → TypesSorted P.setting.constructors unknowns (sorts_by K) (P.type_arguments i)
  pub equations : AreEquationsWellSorted P

-- In the environment of each obligation of such a program each name has the sort of its type, and all that is known and asked there is well sorted.
abbrev pub ObligationsAreSorted : Type 0
ObligationsAreSorted =
    (P : Basis) (unknowns : ℕ → Unknown) (Q : Points) (p : Program) → IsPosed P unknowns Q p → (K : ℕ → NameKind) → IsSortedBy P unknowns K p
    → All (IsSortedObligation P unknowns (sorts_by K)) (obligations_of P [] p)
