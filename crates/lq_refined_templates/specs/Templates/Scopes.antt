-- What an unknown of a template may speak of.
use Rattle.std.specs.Prelude.{ℕ, suc, List, [], ◌∷◌, ◌++◌, map, Option, Some, None}
use Rattle.lq_refined_instances.specs.Scopes.{Scope}
use Rattle.lq_logic_predicates.specs.declared.symbol.Symbol.{Symbol}
use Rattle.lq_logic_predicates.specs.declared.symbol.Symbol.TheVariants.{Value, Position}
use Rattle.lq_refined_types.specs.Types.Operations.{symbol_of}
use Rattle.lq_text_qualifiers.specs.Faults.Shapes.{Shape, int, bool, array, data_of, other}

-- a scope with one more symbol, where predicates speak of its shape
abbrev pub with_symbol : Symbol → Shape → Scope → Scope
with_symbol x int Γ = Γ ++ (x, int) ∷ []
with_symbol x bool Γ = Γ ++ (x, bool) ∷ []
with_symbol x array Γ = Γ ++ (x, array) ∷ []
with_symbol x (data_of d) Γ = Γ ++ (x, data_of d) ∷ []
with_symbol x other Γ = Γ

-- with a function's name of its argument, where it has one
abbrev pub with_argument : Option ℕ → Shape → Scope → Scope
with_argument None s Γ = Γ
with_argument (Some x) s Γ = with_symbol (symbol_of x) s Γ

-- with the component or the field behind the first k
abbrev pub with_position : ℕ → Shape → Scope → Scope
with_position k s Γ = with_symbol (Position (suc k)) s Γ

-- an unknown: its scope and its shape
abbrev pub Unknown : Type 0
Unknown = Scope × Shape

-- the symbols of which instances of an unknown may speak: `v`, and those of its scope
abbrev pub symbols_in : Scope → List Symbol
symbols_in Γ = Value ∷ map (λ e. e.0) Γ
