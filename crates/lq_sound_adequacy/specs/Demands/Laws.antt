-- What is demanded in a program in scope speaks of names that its environment binds.
use Rattle.std.specs.Prelude.{ℕ, [], All}
use Rattle.lq_sound_values.specs.Inclusion.Symbols.{Symbols, FormulaOn}
use Rattle.lq_sound_values.specs.Runs.Closed.{names_in}
use Rattle.lq_refined_templates.specs.Templates.Scopes.{Unknown}
use Rattle.lq_refined_rules.specs.Checks.Basis.{Basis}
use Rattle.lq_refined_rules.specs.Checks.Tree.{Program}
use Rattle.lq_refined_rules.specs.Obligations.Obligation.{Asked, holds, fits, Obligation}
use Rattle.lq_refined_rules.specs.Obligations.Obligations.{obligations_of}
use Rattle.lq_sound_scope.specs.Scopes.InScope.{InScope, no_names}

-- a demand speaks of these names
abbrev pub IsAskedOf : Symbols → Asked → Type 0
IsAskedOf N (holds p) = FormulaOn N p
IsAskedOf N (fits l r) = Unit {0}

abbrev pub IsBound : Obligation → Type 0
IsBound o = IsAskedOf (names_in o.context) o.asked

-- of each obligation that is a demand
abbrev pub DemandsAreBound : Type 0
DemandsAreBound =
    (P : Basis) (unknowns : ℕ → Unknown) (program : Program) → InScope P unknowns no_names program → All IsBound (obligations_of P [] program)
