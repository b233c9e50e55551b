-- Environments: names with their types, and guards, in which the last comes first.
use Rattle.std.specs.Prelude.{◌≡◌, false, cond, List, [], ◌∷◌, ◌++◌}
use Rattle.lq_refined_types.specs.Parts.Part.{Part, Parts, Scopes, parts_by}
use Rattle.lq_refined_types.specs.Parts.Substitution.{swap}
use Rattle.lq_logic_predicates.specs.Sum.{same_symbol}
use Rattle.lq_logic_predicates.specs.declared.symbol.Symbol.{Symbol}
use Rattle.lq_logic_predicates.specs.declared.symbol.Symbol.TheVariants.{Value}
use Rattle.lq_refined_types.specs.Types.Operations.{atom_of}
use Rattle.lq_refined_types.specs.Types.Refined.{Refined, unit_type, kind, top}

-- a name with its type, or a guard
pub data Entry : Type 0 where
  name : Symbol → Refined → Entry
  guard : Part → Entry

abbrev pub Context : Type 0
Context = List Entry

-- the hypotheses of an environment, in order: each name's top parts with the name for v, and each guard
abbrev pub hypotheses_of : Scopes → Context → Parts
hypotheses_of scopes [] = []
hypotheses_of scopes (name x t ∷ Γ) = hypotheses_of scopes Γ ++ parts_by scopes (swap Value (atom_of (kind t) x) ∷ []) (top t)
hypotheses_of scopes (guard p ∷ Γ) = hypotheses_of scopes Γ ++ p ∷ []

abbrev pub type_in : Context → Symbol → Refined
type_in [] x = unit_type
type_in (name y t ∷ Γ) x = cond (same_symbol y x) t (type_in Γ x)
type_in (guard p ∷ Γ) x = type_in Γ x

-- no entry is of the name
abbrev pub IsNew : Symbol → Context → Type 0
IsNew x [] = Unit {0}
IsNew x (name y t ∷ Γ) = (same_symbol y x ≡ false) × IsNew x Γ
IsNew x (guard p ∷ Γ) = IsNew x Γ
