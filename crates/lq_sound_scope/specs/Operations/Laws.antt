-- What operations on types keep of the names of which types speak.
use Rattle.std.specs.Prelude.{◌≡◌, ℕ, [], ◌∷◌, Option}
use Rattle.lq_logic_predicates.specs.declared.symbol.Symbol.{Symbol}
use Rattle.lq_refined_types.specs.Parts.Part.{Scopes}
use Rattle.lq_refined_types.specs.Parts.Substitution.{Atom, Subst, swap}
use Rattle.lq_sound_values.specs.Inclusion.Symbols.{Symbols}
use Rattle.lq_refined_types.specs.Types.Operations.{applied, self_type, twin, type_by}
use Rattle.lq_refined_types.specs.Types.Refined.{Kind, Refined}
use Rattle.lq_refined_templates.specs.Templates.Scopes.{Unknown, symbols_in}
use Rattle.lq_text_tree.specs.Types.{Signature}
use Rattle.lq_sound_scope.specs.Scopes.Over.{AreWithin, Names, TypeOver, of_any_sort, with_argument, with_sort}
use Rattle.lq_sound_scope.specs.Operations.Puts.{AtomOver, HasKind, NamesAway, Puts}

pub record KeepNames (constructors : Signature) (unknowns : ℕ → Unknown) (scopes : Scopes) : Type 0 where
  -- more names
  pub widening : (N M : Names) → AreWithin N M → (t : Refined) → TypeOver constructors unknowns N t → TypeOver constructors unknowns M t
  -- something for names
  pub putting : (N M : Names) (θ : Subst) → Puts N θ M → (t : Refined) → TypeOver constructors unknowns M t
      → TypeOver constructors unknowns N (type_by scopes θ t)
  -- one thing for one name
  pub one : (N : Names) (x : Symbol) (k : Kind) (a : Atom) → AtomOver N a → HasKind k a → Puts N (swap x a ∷ []) (with_sort N k x)
  -- an argument for a function's name of it
  pub applying : (N : Names) (x : Option ℕ) (k : Kind) (a : Atom) → AtomOver N a → HasKind k a → (t : Refined)
      → TypeOver constructors unknowns (with_argument N x k) t → TypeOver constructors unknowns N (applied scopes x a t)
  -- that the value is an atom's
  pub naming : (N : Names) (a : Atom) → AtomOver N a → (t : Refined) → TypeOver constructors unknowns N t → TypeOver constructors unknowns N (self_type t a)
  -- twins for the names of arguments, which are away from symbols that have these names
  pub twinning : (N : Names) (Q : Symbols) → AreWithin N (of_any_sort Q) → (t : Refined) → NamesAway Q t → TypeOver constructors unknowns N t
      → TypeOver constructors unknowns N (twin scopes t)

-- where the scopes are those of the unknowns
abbrev pub NamesAreKept : Type 0
NamesAreKept =
    (constructors : Signature) (unknowns : ℕ → Unknown) (scopes : Scopes) → ((u : ℕ) → scopes u ≡ symbols_in (unknowns u).0)
    → KeepNames constructors unknowns scopes
