-- Flags, looked up in a map of the code.
use Rattle.std.proofs.Common.{◌≡◌, List, [], ◌∷◌, Bool, cond, Some, refl, sym, ap₂, ◌∙◌}
use Rattle.std.specs.Map.{lookup}
use Rattle.lq_logic_points.specs.Values.{flag_value}
use Rattle.lq_logic_predicates.specs.Sum.{same_symbol}
use Rattle.lq_logic_predicates.specs.contracts.symbol.SymbolPartialEq.TheImpl as symbols
use Rattle.lq_logic_predicates.specs.declared.symbol.Symbol.{Symbol}
use Rattle.lq_logic_predicates.specs.declared.symbol.Symbol.TheVariants.{Value, Bound, Position}

-- the comparison of symbols in the code
symbol_eq : (x y : Symbol) → (symbols.eq-value).it x y ≡ same_symbol x y
symbol_eq Value Value = refl
symbol_eq (Bound x) (Bound y) = refl
symbol_eq (Position i) (Position j) = refl
symbol_eq Value (Bound y) = refl
symbol_eq Value (Position j) = refl
symbol_eq (Bound x) Value = refl
symbol_eq (Bound x) (Position j) = refl
symbol_eq (Position i) Value = refl
symbol_eq (Position i) (Bound y) = refl

flags_seen : (x : Symbol) (es : List (Symbol × Bool)) → lookup ((symbols.eq-value).it x) es ≡ flag_value es x
flags_seen x [] = refl
flags_seen x (e ∷ es) = ap₂ (λ b o. cond b (Some e.1) o) (symbol_eq x e.0) (flags_seen x es)

pub flags_updated : (old new : List (Symbol × Bool)) (x : Symbol) (b : Bool)
    → ((y : Symbol) → lookup ((symbols.eq-value).it y) new ≡ cond ((symbols.eq-value).it x y) (Some b) (lookup ((symbols.eq-value).it y) old)) → (y : Symbol)
    → flag_value new y ≡ cond (same_symbol x y) (Some b) (flag_value old y)
flags_updated old new x b h y = sym (flags_seen y new) ∙ h y ∙ ap₂ (λ c o. cond c (Some b) o) (symbol_eq x y) (flags_seen y old)
