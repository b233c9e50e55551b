-- How many connectives a formula has, by which the reading of a predicate ends.
use Rattle.std.proofs.Common.{ℕ, ◌+◌}
use Rattle.lq_logic_predicates.specs.Formula.{Formula, truth, falsity, flag, compare, objects, negation, conjunction, disjunction, equivalence}

abbrev pub connectives : Formula → ℕ
connectives truth = 0
connectives falsity = 0
connectives (flag x) = 0
connectives (compare o a b) = 0
connectives (objects a b) = 0
connectives (negation p) = connectives p + 1
connectives (conjunction p q) = connectives p + connectives q + 1
connectives (disjunction p q) = connectives p + connectives q + 1
connectives (equivalence p q) = connectives p + connectives q + 1
