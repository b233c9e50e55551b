-- When a tree is in normal form: bindings of names to operations over pure expressions, and a last operation. A constructor is a form; maps
-- are left out.
use Rattle.std.specs.Prelude.{ℕ, ℤ, Bool, List, [], ◌∷◌}
use Rattle.lq_base_names.specs.declared.operation.ArithOp.{ArithOp}
use Rattle.lq_base_names.specs.declared.operation.ArithOp.TheVariants as op
use Rattle.lq_base_names.specs.declared.operation.CompareOp.{CompareOp}
use Rattle.lq_base_names.specs.declared.place.Place.{Place}
use Rattle.lq_text_tree.specs.declared.expr.Arguments.{Arguments}
use Rattle.lq_text_tree.specs.Items.{ItemTree, ItemForm, type_of, let_of, let_rec_of, Datatype}
use Rattle.lq_text_tree.specs.Pattern as p
use Rattle.lq_text_tree.specs.Pattern.{Pattern, pattern, Patterns}
use Rattle.lq_text_tree.specs.TreeView.{Recursive}
use Rattle.lq_text_tree.specs.Tree as form
use Rattle.lq_text_tree.specs.Tree.{Tree, tree, Trees, no_trees, more_trees, Cases, no_cases, more_cases}

-- ---- patterns

pub data IsName : Pattern → Type 0 where
  is_name : {l : Place} {x : ℕ} → IsName (pattern l (p.bind x))

pub data AreNames : Patterns → Type 0 where
  no_names : AreNames p.no_patterns
  more_names : {q : Pattern} {qs : Patterns} → IsName q → AreNames qs → AreNames (p.more_patterns q qs)

-- of an arm: its parts are names
pub data IsArm : Pattern → Type 0 where
  arm_any : {l : Place} → IsArm (pattern l p.any)
  arm_name : {l : Place} {x : ℕ} → IsArm (pattern l (p.bind x))
  arm_unit : {l : Place} → IsArm (pattern l p.nothing)
  arm_tuple : {l : Place} {qs : Patterns} → AreNames qs → IsArm (pattern l (p.tuple_of qs))
  arm_build : {l m : Place} {c : ℕ} {qs : Patterns} → AreNames qs → IsArm (pattern l (p.build_of c m qs))

-- ---- pure expressions

pub data IsRing : ArithOp → Type 0 where
  ring_add : IsRing op.Add
  ring_subtract : IsRing op.Sub
  ring_multiply : IsRing op.Mul

pub data IsPure : Tree → Type 0 where
  pure_whole : {i : ℕ} {l : Place} {z : ℤ} → IsPure (tree i l (form.whole z))
  pure_flag : {i : ℕ} {l : Place} {b : Bool} → IsPure (tree i l (form.flag b))
  pure_unit : {i : ℕ} {l : Place} → IsPure (tree i l form.unit)
  pure_use : {i : ℕ} {l : Place} {x : ℕ} → IsPure (tree i l (form.use_of x))
  pure_arithmetic : {i : ℕ} {l : Place} {o : ArithOp} {a b : Tree} → IsRing o → IsPure a → IsPure b → IsPure (tree i l (form.arithmetic o a b))
  pure_negated : {i : ℕ} {l : Place} {a : Tree} → IsPure a → IsPure (tree i l (form.negated a))
  pure_compare : {i : ℕ} {l : Place} {o : CompareOp} {a b : Tree} → IsPure a → IsPure b → IsPure (tree i l (form.compare o a b))
  pure_not : {i : ℕ} {l : Place} {a : Tree} → IsPure a → IsPure (tree i l (form.not_of a))
  pure_and : {i : ℕ} {l : Place} {a b : Tree} → IsPure a → IsPure b → IsPure (tree i l (form.and_of a b))
  pure_or : {i : ℕ} {l : Place} {a b : Tree} → IsPure a → IsPure b → IsPure (tree i l (form.or_of a b))
  pure_length : {i : ℕ} {l : Place} {a : Tree} → IsPure a → IsPure (tree i l (form.length_of a))

pub data ArePure : Trees → Type 0 where
  no_pure : ArePure no_trees
  more_pure : {e : Tree} {es : Trees} → IsPure e → ArePure es → ArePure (more_trees e es)

pub data IsUse : Tree → Type 0 where
  is_use : {i : ℕ} {l : Place} {x : ℕ} → IsUse (tree i l (form.use_of x))

-- ---- operations and blocks

mutual
  pub data IsBlock : Tree → Type 0 where
    block_let : {i : ℕ} {l : Place} {q : Pattern} {e b : Tree} → IsName q → IsOperation e → IsBlock b → IsBlock (tree i l (form.let_in q e b))
    block_let_rec : {i f j : ℕ} {l m : Place} {q : Pattern} {b e : Tree} → IsName q → IsBlock b → IsBlock e
        → IsBlock (tree i l (form.let_rec f j m q b e))
    block_operation : {e : Tree} → IsOperation e → IsBlock e

  pub data IsOperation : Tree → Type 0 where
    is_pure : {e : Tree} → IsPure e → IsOperation e
    is_fun : {i : ℕ} {l : Place} {q : Pattern} {b : Tree} → IsName q → IsBlock b → IsOperation (tree i l (form.fun q b))
    is_if : {i : ℕ} {l : Place} {c a b : Tree} → IsPure c → IsBlock a → IsBlock b → IsOperation (tree i l (form.if_else c a b))
    is_match : {i : ℕ} {l : Place} {e : Tree} {cs : Cases} → IsUse e → AreArms cs → IsOperation (tree i l (form.match_on e cs))
    is_tuple : {i : ℕ} {l : Place} {es : Trees} → ArePure es → IsOperation (tree i l (form.tuple es))
    is_build : {i c : ℕ} {l : Place} {w : Arguments} {es : Trees} → ArePure es → IsOperation (tree i l (form.build c w es))
    is_call : {i : ℕ} {l : Place} {f a : Tree} → IsPure f → IsPure a → IsOperation (tree i l (form.call f a))
    is_quotient : {i : ℕ} {l : Place} {a b : Tree} → IsPure a → IsPure b → IsOperation (tree i l (form.arithmetic op.Div a b))
    is_remainder : {i : ℕ} {l : Place} {a b : Tree} → IsPure a → IsPure b → IsOperation (tree i l (form.arithmetic op.Mod a b))
    is_assert : {i : ℕ} {l : Place} {e : Tree} → IsPure e → IsOperation (tree i l (form.assert e))
    is_assert_false : {i : ℕ} {l : Place} → IsOperation (tree i l form.assert_false)
    is_make : {i : ℕ} {l : Place} {n e : Tree} → IsPure n → IsPure e → IsOperation (tree i l (form.make n e))
    -- what is indexed is a variable
    is_fetch : {i : ℕ} {l : Place} {a n : Tree} → IsUse a → IsPure n → IsOperation (tree i l (form.fetch a n))
    is_store : {i : ℕ} {l : Place} {a n e : Tree} → IsUse a → IsPure n → IsPure e → IsOperation (tree i l (form.store a n e))
    is_print : {i : ℕ} {l : Place} {e : Tree} → IsPure e → IsOperation (tree i l (form.print e))
    is_read : {i : ℕ} {l : Place} {e : Tree} → IsPure e → IsOperation (tree i l (form.read e))

  pub data AreArms : Cases → Type 0 where
    no_arms : AreArms no_cases
    more_arms : {q : Pattern} {b : Tree} {cs : Cases} → IsArm q → IsBlock b → AreArms cs → AreArms (more_cases q b cs)

-- the definition of a type, of a name, of `_` or of `()`, or of a recursive function
pub data IsItem : ItemForm → Type 0 where
  item_type : {d : Datatype} → IsItem (type_of d)
  item_name : {l : Place} {x : ℕ} {e : Tree} → IsBlock e → IsItem (let_of (pattern l (p.bind x)) e)
  item_any : {l : Place} {e : Tree} → IsBlock e → IsItem (let_of (pattern l p.any) e)
  item_unit : {l : Place} {e : Tree} → IsBlock e → IsItem (let_of (pattern l p.nothing) e)
  item_function : {f : ℕ} {r : Recursive} → IsName r.parameter → IsBlock r.body → IsItem (let_rec_of f r)

abbrev pub AreNormal : List ItemTree → Type 0
AreNormal [] = Unit {0}
AreNormal (i ∷ is) = IsItem i.form × AreNormal is
