-- What a term feeds a hasher.
use Rattle.std.specs.Prelude.{◌≡◌, true, ◌++◌}
use Rattle.std.proofs.Common.{ap}
use Rattle.std.specs.Hash as fed
use Rattle.std.specs.Hash.{HashWrites}
use Rattle.lq_logic_predicates.specs.declared.symbol.Symbol.{Symbol}
use Rattle.lq_logic_predicates.specs.declared.symbol.Symbol.TheVariants.{Value, Bound, Position}
use Rattle.lq_logic_predicates.specs.Sum.{Sum, whole, var, neg, add, sub, mul, div, rem, len, measure, same}
use Rattle.lq_logic_predicates.specs.SameLaws.{same-is}

abbrev pub symbol_writes : Symbol → HashWrites
symbol_writes Value = fed.u8 10
symbol_writes (Bound x) = fed.u8 11 ++ fed.u32 x.0
symbol_writes (Position i) = fed.u8 12 ++ fed.u32 i

abbrev pub writes_of : Sum → HashWrites
writes_of (whole n) = fed.u8 0 ++ fed.i128 n
writes_of (var x) = fed.u8 1 ++ symbol_writes x
writes_of (neg a) = fed.u8 2 ++ writes_of a
writes_of (add a b) = fed.u8 3 ++ (writes_of a ++ writes_of b)
writes_of (sub a b) = fed.u8 4 ++ (writes_of a ++ writes_of b)
writes_of (mul a b) = fed.u8 5 ++ (writes_of a ++ writes_of b)
writes_of (div a b) = fed.u8 6 ++ (writes_of a ++ writes_of b)
writes_of (rem a b) = fed.u8 7 ++ (writes_of a ++ writes_of b)
writes_of (len a) = fed.u8 8 ++ writes_of a
writes_of (measure f a) = fed.u8 9 ++ (fed.u32 f.0 ++ writes_of a)

pub writes-same : (a b : Sum) → same a b ≡ true → writes_of a ≡ writes_of b
writes-same a b h = ap writes_of (same-is a b h)
