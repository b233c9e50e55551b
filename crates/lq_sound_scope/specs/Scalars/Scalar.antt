-- Scalar programs: each match has an arm, and each definition is a value or has a type without variables.
use Rattle.std.specs.Prelude.{◌⊎◌, ℕ, ◌<◌, ◌^◌, List, [], ◌∷◌}
use Rattle.lq_base_names.specs.declared.operation.ArithOp.{ArithOp}
use Rattle.lq_base_names.specs.declared.operation.ArithOp.TheVariants as op
use Rattle.lq_refined_templates.specs.Points.Annotation.{Annotation}
use Rattle.lq_text_tree.specs.Items.{ItemTree, ItemForm, type_of, let_of, let_rec_of}
use Rattle.lq_text_tree.specs.MlType as ml
use Rattle.lq_text_tree.specs.MlType.{MlType, MlTypes}
use Rattle.lq_text_tree.specs.Pattern as patterns
use Rattle.lq_text_tree.specs.Pattern.{Pattern, pattern}
use Rattle.lq_text_tree.specs.Tree as form
use Rattle.lq_text_tree.specs.Tree.{Tree, tree, Form, Trees, no_trees, more_trees, Cases, no_cases, more_cases}

-- ---- types without variables, and values

abbrev mutual
  pub HasNoTypeVariables : MlType → Type 0
  HasNoTypeVariables ml.int = Unit {0}
  HasNoTypeVariables ml.bool = Unit {0}
  HasNoTypeVariables ml.unit = Unit {0}
  HasNoTypeVariables (ml.var i) = ⊥
  HasNoTypeVariables (ml.arrow a b) = HasNoTypeVariables a × HasNoTypeVariables b
  HasNoTypeVariables (ml.tuple ts) = HaveNoTypeVariables ts
  HasNoTypeVariables (ml.array a) = HasNoTypeVariables a
  HasNoTypeVariables (ml.named d ts) = HaveNoTypeVariables ts
  HasNoTypeVariables (ml.map_of a) = HasNoTypeVariables a

  pub HaveNoTypeVariables : MlTypes → Type 0
  HaveNoTypeVariables ml.no_types = Unit {0}
  HaveNoTypeVariables (ml.more_types t ts) = HasNoTypeVariables t × HaveNoTypeVariables ts

-- not `/` nor `mod`
abbrev pub IsTotal : ArithOp → Type 0
IsTotal op.Add = Unit {0}
IsTotal op.Sub = Unit {0}
IsTotal op.Mul = Unit {0}
IsTotal op.Div = ⊥
IsTotal op.Mod = ⊥

-- In normal form: bindings of pure expressions, functions, tuples and constructors, and a last one.
abbrev mutual
  pub IsValueTree : Tree → Type 0
  IsValueTree (tree i l f) = IsValueForm f

  pub IsValueForm : Form → Type 0
  IsValueForm (form.whole z) = Unit {0}
  IsValueForm (form.flag b) = Unit {0}
  IsValueForm form.unit = Unit {0}
  IsValueForm (form.use_of x) = Unit {0}
  IsValueForm (form.fun q b) = Unit {0}
  IsValueForm (form.tuple es) = Unit {0}
  IsValueForm (form.build c w es) = Unit {0}
  IsValueForm (form.let_in q e b) = IsValueTree e × IsValueTree b
  IsValueForm (form.arithmetic o a b) = IsTotal o
  IsValueForm (form.negated a) = Unit {0}
  IsValueForm (form.compare o a b) = Unit {0}
  IsValueForm (form.not_of a) = Unit {0}
  IsValueForm (form.and_of a b) = Unit {0}
  IsValueForm (form.or_of a b) = Unit {0}
  IsValueForm (form.length_of a) = Unit {0}
  IsValueForm _ = ⊥

-- what a definition of x gives: where it ends in a function, the type of that node
abbrev mutual
  pub end_type : Annotation → ℕ → Tree → MlType
  end_type n x (tree i l f) = end_form n x i f

  pub end_form : Annotation → ℕ → ℕ → Form → MlType
  end_form n x i (form.fun q b) = n.types i
  end_form n x i (form.let_in q e b) = end_type n x b
  end_form n x i (form.let_rec f j m q b e) = end_type n x e
  end_form n x i _ = n.names x

-- ---- expressions, definitions and programs

module _ (n : Annotation) where
  -- Forms are all but maps, and but lists and sequences, of which there are none in a normal form; a match has an arm.
  abbrev mutual
    pub IsScalarTree : Tree → Type 0
    IsScalarTree (tree i l f) = IsScalarForm i f

    pub IsScalarForm : ℕ → Form → Type 0
    IsScalarForm i (form.whole z) = Unit {0}
    IsScalarForm i (form.flag b) = Unit {0}
    IsScalarForm i form.unit = Unit {0}
    IsScalarForm i (form.use_of x) = Unit {0}
    IsScalarForm i (form.qualified m x) = ⊥
    IsScalarForm i (form.fun q b) = IsScalarTree b
    IsScalarForm i (form.tuple es) = AreScalarTrees es
    IsScalarForm i (form.build c w es) = AreScalarTrees es
    IsScalarForm i (form.list_of es) = ⊥
    IsScalarForm i (form.let_in q e b) = IsScalarTree e × IsScalarTree b
    IsScalarForm i (form.let_rec f j m q b e) = IsScalarTree b × IsScalarTree e
    IsScalarForm i (form.call f a) = IsScalarTree f × IsScalarTree a
    IsScalarForm i (form.arithmetic o a b) = IsScalarTree a × IsScalarTree b
    IsScalarForm i (form.negated a) = IsScalarTree a
    IsScalarForm i (form.compare o a b) = IsScalarTree a × IsScalarTree b
    IsScalarForm i (form.not_of a) = IsScalarTree a
    IsScalarForm i (form.and_of a b) = IsScalarTree a × IsScalarTree b
    IsScalarForm i (form.or_of a b) = IsScalarTree a × IsScalarTree b
    IsScalarForm i (form.if_else c a b) = IsScalarTree c × IsScalarTree a × IsScalarTree b
    IsScalarForm i (form.match_on e no_cases) = ⊥
    IsScalarForm i (form.match_on e (more_cases q b cs)) = IsScalarTree e × AreScalarCases (more_cases q b cs)
    IsScalarForm i (form.chain es) = ⊥
    IsScalarForm i (form.assert e) = IsScalarTree e
    IsScalarForm i form.assert_false = Unit {0}
    IsScalarForm i (form.make a b) = IsScalarTree a × IsScalarTree b
    IsScalarForm i (form.length_of a) = IsScalarTree a
    IsScalarForm i (form.fetch a b) = IsScalarTree a × IsScalarTree b
    IsScalarForm i (form.store a b c) = IsScalarTree a × IsScalarTree b × IsScalarTree c
    IsScalarForm i (form.print e) = IsScalarTree e
    IsScalarForm i (form.read e) = IsScalarTree e
    IsScalarForm i form.map_empty = ⊥
    IsScalarForm i (form.map_add a b c) = ⊥
    IsScalarForm i (form.map_find a b) = ⊥

    pub AreScalarTrees : Trees → Type 0
    AreScalarTrees no_trees = Unit {0}
    AreScalarTrees (more_trees e es) = IsScalarTree e × AreScalarTrees es

    pub AreScalarCases : Cases → Type 0
    AreScalarCases no_cases = Unit {0}
    AreScalarCases (more_cases q b cs) = IsScalarTree b × AreScalarCases cs

  -- where a definition of a name is no value, its type has no variables
  abbrev pub IsSettled : Pattern → Tree → Type 0
  IsSettled (pattern l (patterns.bind x)) e = IsValueTree e ⊎ HasNoTypeVariables (end_type n x e)
  IsSettled _ e = Unit {0}

  abbrev pub IsScalarItem : ItemForm → Type 0
  IsScalarItem (type_of d) = Unit {0}
  IsScalarItem (let_of q e) = IsScalarTree e × IsSettled q e
  IsScalarItem (let_rec_of f r) = IsScalarTree r.body

  -- definitions in normal form
  abbrev pub IsScalarProgram : List ItemTree → Type 0
  IsScalarProgram [] = Unit {0}
  IsScalarProgram (i ∷ is) = IsScalarItem i.form × IsScalarProgram is

-- ---- names

-- each of these names has a twin
abbrev pub HaveTwins : List ℕ → Type 0
HaveTwins [] = Unit {0}
HaveTwins (x ∷ xs) = (x < 2 ^ 31) × HaveTwins xs
