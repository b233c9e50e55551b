-- What an instance feeds a hasher.
use Rattle.std.specs.Prelude.{◌≡◌, true, ◌++◌}
use Rattle.std.proofs.Common.{ap}
use Rattle.std.specs.Hash as fed
use Rattle.std.specs.Hash.{HashWrites}
use Rattle.lq_logic_predicates.specs.Sum.{var}
use Rattle.lq_logic_predicates.specs.Hashed as terms
use Rattle.lq_logic_predicates.specs.Formula.{Formula, truth, falsity, flag, compare, objects, negation, conjunction, disjunction, equivalence}
use Rattle.lq_refined_instances.specs.Same.{comparison_number, same_formula, same_formula-is}

abbrev pub writes_of : Formula → HashWrites
writes_of truth = fed.u8 0
writes_of falsity = fed.u8 1
writes_of (flag x) = fed.u8 2 ++ terms.writes_of (var x)
writes_of (compare o a b) = fed.u8 3 ++ (fed.u8 (comparison_number o) ++ (terms.writes_of a ++ terms.writes_of b))
writes_of (objects a b) = fed.u8 4 ++ (terms.writes_of a ++ terms.writes_of b)
writes_of (negation p) = fed.u8 5 ++ writes_of p
writes_of (conjunction p q) = fed.u8 6 ++ (writes_of p ++ writes_of q)
writes_of (disjunction p q) = fed.u8 7 ++ (writes_of p ++ writes_of q)
writes_of (equivalence p q) = fed.u8 8 ++ (writes_of p ++ writes_of q)

pub writes-same : (p q : Formula) → same_formula p q ≡ true → writes_of p ≡ writes_of q
writes-same p q h = ap writes_of (same_formula-is p q h)
