-- Symbols that are listed from the last to the first, when some of them are known to be hidden.
use Rattle.std.specs.Prelude.{List, [], ◌∷◌, ◌++◌, filter, not, Bool, true, Option, Some, None, if◌then◌else◌}
use Rattle.std.specs.List.{list_any}
use Rattle.lq_logic_predicates.specs.Sum.{same_symbol}
use Rattle.lq_logic_predicates.specs.declared.symbol.Symbol.{Symbol}
use Rattle.lq_text_qualifiers.specs.Faults.Shapes.{Shape, is_same}
use Rattle.lq_refined_instances.specs.Scopes.{Visible, Scope}

-- whether a symbol is among some
abbrev pub is_among : List Symbol → Symbol → Bool
is_among xs x = list_any (same_symbol x) xs

-- a scope without some symbols
abbrev pub not_among : List Symbol → Scope → Scope
not_among xs Γ = filter (λ e. not (is_among xs e.0)) Γ

-- some symbols with what is hidden behind them, unless it is there
abbrev pub with_hidden : List Symbol → Option Visible → List Symbol
with_hidden xs None = xs
with_hidden xs (Some h) = if is_among xs h.0 then xs else xs ++ h.0 ∷ []

-- whether a symbol is wanted: those of one shape are, or all
abbrev pub is_wanted : Option Shape → Visible → Bool
is_wanted None e = true
is_wanted (Some s) e = is_same s e.1

abbrev pub wanted : Option Shape → Scope → Scope
wanted w Γ = filter (is_wanted w) Γ
