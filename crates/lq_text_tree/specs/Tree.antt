-- What an expression is, without the memory that holds it. A name or a binder is its number.
use Rattle.std.specs.Prelude.{ℕ, ℤ, Bool}
use Rattle.lq_text_tree.specs.declared.expr.Arguments.{Arguments}
use Rattle.lq_base_names.specs.declared.operation.ArithOp.{ArithOp}
use Rattle.lq_base_names.specs.declared.operation.CompareOp.{CompareOp}
use Rattle.lq_base_names.specs.declared.place.Place.{Place}
use Rattle.lq_text_tree.specs.Pattern.{Pattern}

mutual
  -- a node with its number, its place and its form
  pub data Tree : Type 0 where
    tree : ℕ → Place → Form → Tree

  pub data Form : Type 0 where
    whole : ℤ → Form
    flag : Bool → Form
    unit : Form
    use_of : ℕ → Form
    qualified : ℕ → ℕ → Form
    fun : Pattern → Tree → Form
    tuple : Trees → Form
    build : ℕ → Arguments → Trees → Form
    list_of : Trees → Form
    let_in : Pattern → Tree → Tree → Form
    -- the name, the function's number, place, parameter and body, and what follows
    let_rec : ℕ → ℕ → Place → Pattern → Tree → Tree → Form
    call : Tree → Tree → Form
    arithmetic : ArithOp → Tree → Tree → Form
    negated : Tree → Form
    compare : CompareOp → Tree → Tree → Form
    not_of : Tree → Form
    and_of : Tree → Tree → Form
    or_of : Tree → Tree → Form
    if_else : Tree → Tree → Tree → Form
    match_on : Tree → Cases → Form
    chain : Trees → Form
    assert : Tree → Form
    assert_false : Form
    make : Tree → Tree → Form
    length_of : Tree → Form
    fetch : Tree → Tree → Form
    store : Tree → Tree → Tree → Form
    print : Tree → Form
    read : Tree → Form
    map_empty : Form
    map_add : Tree → Tree → Tree → Form
    map_find : Tree → Tree → Form

  pub data Trees : Type 0 where
    no_trees : Trees
    more_trees : Tree → Trees → Trees

  pub data Cases : Type 0 where
    no_cases : Cases
    more_cases : Pattern → Tree → Cases → Cases
