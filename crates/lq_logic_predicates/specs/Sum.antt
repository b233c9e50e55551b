-- What a term is, without the memory that holds it.
use Rattle.std.specs.Prelude.{ℤ, Bool, true, false, ◌==◌, ◌&&◌}
use Rattle.std.specs.Ordering.{int_eq}
use Rattle.lq_base_names.specs.declared.name.Name.{Name}
use Rattle.lq_logic_predicates.specs.declared.symbol.Symbol.{Symbol}
use Rattle.lq_logic_predicates.specs.declared.symbol.Symbol.TheVariants.{Value, Bound, Position}

pub data Sum : Type 0 where
  whole : ℤ → Sum
  var : Symbol → Sum
  neg : Sum → Sum
  add : Sum → Sum → Sum
  sub : Sum → Sum → Sum
  mul : Sum → Sum → Sum
  div : Sum → Sum → Sum
  rem : Sum → Sum → Sum
  len : Sum → Sum
  measure : Name → Sum → Sum

-- whether two symbols are one
abbrev pub same_symbol : Symbol → Symbol → Bool
same_symbol Value Value = true
same_symbol (Bound x) (Bound y) = x.0 == y.0
same_symbol (Position i) (Position j) = i == j
same_symbol Value (Bound y) = false
same_symbol Value (Position j) = false
same_symbol (Bound x) Value = false
same_symbol (Bound x) (Position j) = false
same_symbol (Position i) Value = false
same_symbol (Position i) (Bound y) = false

-- whether two sums are one
abbrev pub same : Sum → Sum → Bool
same (whole n) (whole m) = int_eq n m
same (var x) (var y) = same_symbol x y
same (neg a) (neg b) = same a b
same (add a b) (add c d) = same a c && same b d
same (sub a b) (sub c d) = same a c && same b d
same (mul a b) (mul c d) = same a c && same b d
same (div a b) (div c d) = same a c && same b d
same (rem a b) (rem c d) = same a c && same b d
same (len a) (len b) = same a b
same (measure f a) (measure g b) = f.0 == g.0 && same a b
same _ _ = false
