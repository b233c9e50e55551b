-- What a written predicate or term is, without the memory that holds it. A name is its number.
use Rattle.std.specs.Prelude.{ℕ, ℤ, Bool}
use Rattle.lq_base_names.specs.declared.operation.ArithOp.{ArithOp}
use Rattle.lq_base_names.specs.declared.operation.CompareOp.{CompareOp}
use Rattle.lq_base_names.specs.declared.place.Place.{Place}

mutual
  pub data PredTree : Type 0 where
    pred_tree : Place → PredForm → PredTree

  pub data PredForm : Type 0 where
    flag : Bool → PredForm
    whole : ℤ → PredForm
    use_of : ℕ → PredForm
    placeholder : ℕ → PredForm
    applied : ℕ → PredTree → PredForm
    qualified : ℕ → ℕ → PredTree → PredForm
    arithmetic : ArithOp → PredTree → PredTree → PredForm
    negated : PredTree → PredForm
    compare : CompareOp → PredTree → PredTree → PredForm
    not_of : PredTree → PredForm
    and_of : PredTree → PredTree → PredForm
    or_of : PredTree → PredTree → PredForm
    iff : PredTree → PredTree → PredForm
