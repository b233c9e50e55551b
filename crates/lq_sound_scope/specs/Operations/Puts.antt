-- What is put for names speaks of names, and names of arguments are new.
use Rattle.std.specs.Prelude.{◌≡◌, true, false, Some, None}
use Rattle.lq_logic_predicates.specs.declared.symbol.Symbol.{Symbol}
use Rattle.lq_refined_types.specs.Parts.Substitution.{Atom, of_sum, of_formula, Subst, sum_at, flag_at}
use Rattle.lq_refined_types.specs.Types.Operations.{symbol_of, twin_of}
use Rattle.lq_refined_types.specs.Types.Refined.{Kind, number, truth_value, object, other, Refined, Refineds, int_with, bool_with, unit_type, function, tuple_of, array_with, data_with, map_with, type_variable, none, more}
use Rattle.lq_sound_values.specs.Inclusion.Symbols.{Symbols, with_symbol, SumOn}
use Rattle.lq_sound_values.specs.Runs.Closed.{SortedOn}
use Rattle.lq_sound_scope.specs.Scopes.Over.{Names}

abbrev pub AtomOver : Names → Atom → Type 0
AtomOver N (of_sum t) = SumOn N.terms t
AtomOver N (of_formula p) = SortedOn N.terms N.flags p

-- the atom stands for a value of the kind
abbrev pub HasKind : Kind → Atom → Type 0
HasKind number (of_sum t) = Unit {0}
HasKind number (of_formula p) = ⊥
HasKind truth_value (of_sum t) = ⊥
HasKind truth_value (of_formula p) = Unit {0}
HasKind object (of_sum t) = Unit {0}
HasKind object (of_formula p) = ⊥
HasKind other (of_sum t) = Unit {0}
HasKind other (of_formula p) = ⊥

-- What stands for the names of M is of N, and what stands for any other symbol is of N or the symbol itself.
pub record Puts (N : Names) (θ : Subst) (M : Names) : Type 0 where
  pub terms : (x : Symbol) → M.terms x ≡ true → SumOn N.terms (sum_at θ x)
  pub flags : (x : Symbol) → M.flags x ≡ true → SortedOn N.terms N.flags (flag_at θ x)
  pub any_term : (x : Symbol) → SumOn (with_symbol N.terms x) (sum_at θ x)
  pub any_flag : (x : Symbol) → SortedOn N.terms (with_symbol N.flags x) (flag_at θ x)

-- Each name of an argument in the type and its twin are none of these symbols nor of those further out.
abbrev mutual
  pub NamesAway : Symbols → Refined → Type 0
  NamesAway P (int_with p) = Unit {0}
  NamesAway P (bool_with p) = Unit {0}
  NamesAway P unit_type = Unit {0}
  NamesAway P (function None a b) = NamesAway P a × NamesAway P b
  NamesAway P (function (Some x) a b) =
      (P (symbol_of x) ≡ false) × (P (symbol_of (twin_of x)) ≡ false) × NamesAway P a
      × NamesAway (with_symbol (with_symbol P (symbol_of x)) (symbol_of (twin_of x))) b
  NamesAway P (tuple_of ts) = AllNamesAway P ts
  NamesAway P (array_with e p) = NamesAway P e
  NamesAway P (data_with d ts m p) = AllNamesAway P ts
  NamesAway P (map_with e p) = NamesAway P e
  NamesAway P (type_variable i) = Unit {0}

  pub AllNamesAway : Symbols → Refineds → Type 0
  AllNamesAway P none = Unit {0}
  AllNamesAway P (more t ts) = NamesAway P t × AllNamesAway P ts
