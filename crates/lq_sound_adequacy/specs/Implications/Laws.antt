-- Each implication of a program is well sorted.
use Rattle.std.specs.Prelude.{◌≡◌, ℕ, [], All}
use Rattle.lq_refined_rules.specs.Checks.Basis.{Basis}
use Rattle.lq_refined_rules.specs.Checks.Listing.{implications_of}
use Rattle.lq_refined_rules.specs.Checks.Tree.{Program}
use Rattle.lq_refined_rules.specs.Checks.Typing.{Points}
use Rattle.lq_refined_rules.specs.Obligations.Obligation.{all_implications}
use Rattle.lq_refined_rules.specs.Obligations.Obligations.{obligations_of}
use Rattle.lq_refined_types.specs.Parts.Assignment.{Assignment}
use Rattle.lq_refined_types.specs.Types.Context.{Context}
use Rattle.lq_refined_types.specs.Types.Refined.{Kind}
use Rattle.lq_refined_types.specs.Subtyping.Implication.{Implication}
use Rattle.lq_refined_types.specs.Subtyping.Subtype.{Setting}
use Rattle.lq_refined_templates.specs.Templates.Scopes.{Unknown}
use Rattle.lq_sound_adequacy.specs.Subtypings.Laws.{IsPosed}
use Rattle.lq_sound_scope.specs.Sorts.Sorts.{AreInstancesSorted}
use Rattle.lq_sound_adequacy.specs.Obligations.Kinds.{NameKind}
use Rattle.lq_sound_adequacy.specs.Obligations.Laws.{IsSortedBy}
use Rattle.lq_sound_adequacy.specs.Implications.Sorted.{AreImplicationsSorted, ArePredicatesSorted, IsSortedIn, sorts_and_value}

-- Of a program as it is posed, that is well sorted by kinds of its names, the implications are those of its obligations, and each is well sorted over
-- the names that its environment binds, each at the kind of its type, and v at one kind.
abbrev pub ImplicationsAreSorted : Type 0
ImplicationsAreSorted =
    (P : Basis) (unknowns : ℕ → Unknown) (Q : Points) (p : Program) → IsPosed P unknowns Q p → (K : ℕ → NameKind) → IsSortedBy P unknowns K p
    → let os = obligations_of P [] p in (implications_of P [] p ≡ all_implications P os) × All (AreImplicationsSorted P unknowns) os

-- Under well sorted instances each predicate of an implication that is well sorted in an environment is well sorted over the names that this binds,
-- and v.
abbrev pub PredicatesAreSorted : Type 0
PredicatesAreSorted =
    (P : Setting) (unknowns : ℕ → Unknown) (A : Assignment) → AreInstancesSorted unknowns A → (Γ : Context) (k : Kind) (i : Implication)
    → IsSortedIn P unknowns Γ k i → ArePredicatesSorted A (sorts_and_value Γ k) i
