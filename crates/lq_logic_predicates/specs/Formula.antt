-- What a predicate is, without the memory that holds it.
use Rattle.lq_logic_predicates.specs.Sum.{Sum}
use Rattle.lq_logic_predicates.specs.declared.symbol.Symbol.{Symbol}
use Rattle.lq_base_names.specs.declared.operation.CompareOp.{CompareOp}

pub data Formula : Type 0 where
  truth : Formula
  falsity : Formula
  flag : Symbol → Formula
  compare : CompareOp → Sum → Sum → Formula
  objects : Sum → Sum → Formula
  negation : Formula → Formula
  conjunction : Formula → Formula → Formula
  disjunction : Formula → Formula → Formula
  equivalence : Formula → Formula → Formula
