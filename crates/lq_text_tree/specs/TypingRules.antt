-- When an annotation of the scoped trees of a program obeys the rules of types, form by form.
use Rattle.std.specs.Prelude.{◌≡◌, ℕ, true, ◌==◌, List, [], ◌∷◌, ◌++◌}
use Rattle.std.specs.List.{list_any}
use Rattle.lq_text_tree.specs.MlType as ml
use Rattle.lq_text_tree.specs.MlType.{MlType, MlTypes}
use Rattle.lq_text_tree.specs.Items.{ItemTree, ItemForm, type_of, let_of, let_rec_of}
use Rattle.lq_text_tree.specs.Pattern.{Pattern, pattern, PatternForm, any, bind, nothing, tuple_of, build_of, Patterns, no_patterns, more_patterns, bound_in}
use Rattle.lq_text_tree.specs.Tree as form
use Rattle.lq_text_tree.specs.Tree.{Tree, tree, Form, Trees, no_trees, more_trees, Cases, no_cases, more_cases}
use Rattle.lq_text_tree.specs.Signatures.{signature_of}
use Rattle.lq_text_tree.specs.Types.{Signature, Scheme, plain, general, Names, scheme_in, IsUsedAt, Builds, Lists}

-- a type at each node, and one at each binder
pub record Annotation : Type 0 where
  pub nodes : ℕ → MlType
  pub binders : ℕ → MlType

abbrev pub type_in : Annotation → Tree → MlType
type_in n (tree i p f) = n.nodes i

abbrev pub types_in : Annotation → Trees → MlTypes
types_in n no_trees = ml.no_types
types_in n (more_trees t ts) = ml.more_types (type_in n t) (types_in n ts)

-- the type of the last part of a chain
abbrev pub last_type : Annotation → Tree → Trees → MlType
last_type n t no_trees = type_in n t
last_type n t (more_trees s ts) = last_type n s ts

-- variables that are bound with one type each
abbrev pub plain_names : Annotation → List ℕ → Names
plain_names n [] = []
plain_names n (x ∷ xs) = (x, plain (n.binders x)) ∷ plain_names n xs

-- a pattern is for values of the type
abbrev mutual
  pub PatternIs : Signature → Annotation → Pattern → MlType → Type 0
  PatternIs g n (pattern p f) a = PatternFormIs g n f a

  pub PatternFormIs : Signature → Annotation → PatternForm → MlType → Type 0
  PatternFormIs g n any a = Unit {0}
  PatternFormIs g n (bind x) a = n.binders x ≡ a
  PatternFormIs g n nothing a = a ≡ ml.unit
  PatternFormIs g n (tuple_of qs) a = (ts : MlTypes) × (a ≡ ml.tuple ts) × PatternsAre g n qs ts
  PatternFormIs g n (build_of c p qs) a = (ts : MlTypes) × Builds g c ts a × PatternsAre g n qs ts

  pub PatternsAre : Signature → Annotation → Patterns → MlTypes → Type 0
  PatternsAre g n no_patterns ts = ts ≡ ml.no_types
  PatternsAre g n (more_patterns q qs) ts = (a : MlType) × (rest : MlTypes) × (ts ≡ ml.more_types a rest) × PatternIs g n q a × PatternsAre g n qs rest

-- a function of this parameter and body has the type
abbrev pub FunctionIs : Signature → Annotation → Pattern → Tree → MlType → Type 0
FunctionIs g n q b a = (from : MlType) × (a ≡ ml.arrow from (type_in n b)) × PatternIs g n q from

-- arms for values of the one type give the other
abbrev pub CasesFit : Signature → Annotation → Cases → MlType → MlType → Type 0
CasesFit g n no_cases from a = Unit {0}
CasesFit g n (more_cases q e cs) from a = PatternIs g n q from × (type_in n e ≡ a) × CasesFit g n cs from a

-- The rule of a node, a row a form: what the types of its parts and its binders are to its own type.
abbrev pub RuleIs : Signature → Annotation → Names → Form → MlType → Type 0
RuleIs g n ns (form.whole m) a = a ≡ ml.int
RuleIs g n ns (form.flag b) a = a ≡ ml.bool
RuleIs g n ns form.unit a = a ≡ ml.unit
RuleIs g n ns (form.use_of x) a = IsUsedAt (scheme_in ns x) a
RuleIs g n ns (form.qualified m x) a = ⊥
RuleIs g n ns (form.fun q b) a = FunctionIs g n q b a
RuleIs g n ns (form.tuple es) a = a ≡ ml.tuple (types_in n es)
RuleIs g n ns (form.build c r es) a = Builds g c (types_in n es) a
RuleIs g n ns (form.list_of es) a = Lists (types_in n es) a
RuleIs g n ns (form.let_in q e b) a = (a ≡ type_in n b) × PatternIs g n q (type_in n e)
RuleIs g n ns (form.let_rec f i r q b e) a = (a ≡ type_in n e) × (n.nodes i ≡ n.binders f)
RuleIs g n ns (form.call f e) a = type_in n f ≡ ml.arrow (type_in n e) a
RuleIs g n ns (form.arithmetic o d e) a = (type_in n d ≡ ml.int) × (type_in n e ≡ ml.int) × (a ≡ ml.int)
RuleIs g n ns (form.negated e) a = (type_in n e ≡ ml.int) × (a ≡ ml.int)
RuleIs g n ns (form.compare o d e) a = (type_in n d ≡ ml.int) × (type_in n e ≡ ml.int) × (a ≡ ml.bool)
RuleIs g n ns (form.not_of e) a = (type_in n e ≡ ml.bool) × (a ≡ ml.bool)
RuleIs g n ns (form.and_of d e) a = (type_in n d ≡ ml.bool) × (type_in n e ≡ ml.bool) × (a ≡ ml.bool)
RuleIs g n ns (form.or_of d e) a = (type_in n d ≡ ml.bool) × (type_in n e ≡ ml.bool) × (a ≡ ml.bool)
RuleIs g n ns (form.if_else c d e) a = (type_in n c ≡ ml.bool) × (type_in n d ≡ a) × (type_in n e ≡ a)
RuleIs g n ns (form.match_on e cs) a = CasesFit g n cs (type_in n e) a
RuleIs g n ns (form.chain no_trees) a = a ≡ ml.unit
RuleIs g n ns (form.chain (more_trees e es)) a = a ≡ last_type n e es
RuleIs g n ns (form.assert e) a = (type_in n e ≡ ml.bool) × (a ≡ ml.unit)
RuleIs g n ns form.assert_false a = Unit {0}
RuleIs g n ns (form.make d e) a = (type_in n d ≡ ml.int) × (a ≡ ml.array (type_in n e))
RuleIs g n ns (form.length_of e) a = (element : MlType) × (type_in n e ≡ ml.array element) × (a ≡ ml.int)
RuleIs g n ns (form.fetch d i) a = (type_in n d ≡ ml.array a) × (type_in n i ≡ ml.int)
RuleIs g n ns (form.store d i e) a = (type_in n d ≡ ml.array (type_in n e)) × (type_in n i ≡ ml.int) × (a ≡ ml.unit)
RuleIs g n ns (form.print e) a = (type_in n e ≡ ml.int) × (a ≡ ml.unit)
RuleIs g n ns (form.read e) a = (type_in n e ≡ ml.unit) × (a ≡ ml.int)
RuleIs g n ns form.map_empty a = ⊥
RuleIs g n ns (form.map_add k e m) a = ⊥
RuleIs g n ns (form.map_find k m) a = ⊥

-- The nodes of the tree that are wanted obey their rules, under the names that are bound where they stand.
abbrev mutual
  pub TreeIs : Signature → Annotation → (ℕ → Type 0) → Names → Tree → Type 0
  TreeIs g n wanted ns (tree i p f) = (wanted i → RuleIs g n ns f (n.nodes i)) × PartsAre g n wanted ns f

  pub PartsAre : Signature → Annotation → (ℕ → Type 0) → Names → Form → Type 0
  PartsAre g n wanted ns (form.whole m) = Unit {0}
  PartsAre g n wanted ns (form.flag b) = Unit {0}
  PartsAre g n wanted ns form.unit = Unit {0}
  PartsAre g n wanted ns (form.use_of x) = Unit {0}
  PartsAre g n wanted ns (form.qualified m x) = Unit {0}
  PartsAre g n wanted ns (form.fun q b) = TreeIs g n wanted (plain_names n (bound_in q) ++ ns) b
  PartsAre g n wanted ns (form.tuple es) = TreesAre g n wanted ns es
  PartsAre g n wanted ns (form.build c r es) = TreesAre g n wanted ns es
  PartsAre g n wanted ns (form.list_of es) = TreesAre g n wanted ns es
  PartsAre g n wanted ns (form.let_in q e b) = TreeIs g n wanted ns e × TreeIs g n wanted (plain_names n (bound_in q) ++ ns) b
  -- the function is a node too
  PartsAre g n wanted ns (form.let_rec f i r q b e) =
      (wanted i → FunctionIs g n q b (n.nodes i)) × TreeIs g n wanted (plain_names n (bound_in q) ++ (f, plain (n.binders f)) ∷ ns) b
      × TreeIs g n wanted ((f, plain (n.binders f)) ∷ ns) e
  PartsAre g n wanted ns (form.call f e) = TreeIs g n wanted ns f × TreeIs g n wanted ns e
  PartsAre g n wanted ns (form.arithmetic o d e) = TreeIs g n wanted ns d × TreeIs g n wanted ns e
  PartsAre g n wanted ns (form.negated e) = TreeIs g n wanted ns e
  PartsAre g n wanted ns (form.compare o d e) = TreeIs g n wanted ns d × TreeIs g n wanted ns e
  PartsAre g n wanted ns (form.not_of e) = TreeIs g n wanted ns e
  PartsAre g n wanted ns (form.and_of d e) = TreeIs g n wanted ns d × TreeIs g n wanted ns e
  PartsAre g n wanted ns (form.or_of d e) = TreeIs g n wanted ns d × TreeIs g n wanted ns e
  PartsAre g n wanted ns (form.if_else c d e) = TreeIs g n wanted ns c × TreeIs g n wanted ns d × TreeIs g n wanted ns e
  PartsAre g n wanted ns (form.match_on e cs) = TreeIs g n wanted ns e × CasesAre g n wanted ns cs
  PartsAre g n wanted ns (form.chain es) = TreesAre g n wanted ns es
  PartsAre g n wanted ns (form.assert e) = TreeIs g n wanted ns e
  PartsAre g n wanted ns form.assert_false = Unit {0}
  PartsAre g n wanted ns (form.make d e) = TreeIs g n wanted ns d × TreeIs g n wanted ns e
  PartsAre g n wanted ns (form.length_of e) = TreeIs g n wanted ns e
  PartsAre g n wanted ns (form.fetch d i) = TreeIs g n wanted ns d × TreeIs g n wanted ns i
  PartsAre g n wanted ns (form.store d i e) = TreeIs g n wanted ns d × TreeIs g n wanted ns i × TreeIs g n wanted ns e
  PartsAre g n wanted ns (form.print e) = TreeIs g n wanted ns e
  PartsAre g n wanted ns (form.read e) = TreeIs g n wanted ns e
  PartsAre g n wanted ns form.map_empty = Unit {0}
  PartsAre g n wanted ns (form.map_add k e m) = TreeIs g n wanted ns k × TreeIs g n wanted ns e × TreeIs g n wanted ns m
  PartsAre g n wanted ns (form.map_find k m) = TreeIs g n wanted ns k × TreeIs g n wanted ns m

  pub TreesAre : Signature → Annotation → (ℕ → Type 0) → Names → Trees → Type 0
  TreesAre g n wanted ns no_trees = Unit {0}
  TreesAre g n wanted ns (more_trees e es) = TreeIs g n wanted ns e × TreesAre g n wanted ns es

  pub CasesAre : Signature → Annotation → (ℕ → Type 0) → Names → Cases → Type 0
  CasesAre g n wanted ns no_cases = Unit {0}
  CasesAre g n wanted ns (more_cases q e cs) = TreeIs g n wanted (plain_names n (bound_in q) ++ ns) e × CasesAre g n wanted ns cs

-- every node
abbrev pub Every : ℕ → Type 0
Every i = Unit {0}

-- ---- items

-- a syntactic value of the source: a literal, a variable, a function, or a tuple, constructor or list literal of such
abbrev mutual
  pub IsValueTree : Tree → Type 0
  IsValueTree (tree i p f) = IsValueForm f

  pub IsValueForm : Form → Type 0
  IsValueForm (form.whole m) = Unit {0}
  IsValueForm (form.flag b) = Unit {0}
  IsValueForm form.unit = Unit {0}
  IsValueForm (form.use_of x) = Unit {0}
  IsValueForm (form.fun q b) = Unit {0}
  IsValueForm (form.tuple es) = AreValueTrees es
  IsValueForm (form.build c r es) = AreValueTrees es
  IsValueForm (form.list_of es) = AreValueTrees es
  IsValueForm _ = ⊥

  pub AreValueTrees : Trees → Type 0
  AreValueTrees no_trees = Unit {0}
  AreValueTrees (more_trees e es) = IsValueTree e × AreValueTrees es

-- every variable of the type is among these
abbrev mutual
  pub IsWithin : List ℕ → MlType → Type 0
  IsWithin fixed ml.int = Unit {0}
  IsWithin fixed ml.bool = Unit {0}
  IsWithin fixed ml.unit = Unit {0}
  IsWithin fixed (ml.var i) = list_any (λ x. x == i) fixed ≡ true
  IsWithin fixed (ml.arrow a b) = IsWithin fixed a × IsWithin fixed b
  IsWithin fixed (ml.tuple ts) = AreWithin fixed ts
  IsWithin fixed (ml.array a) = IsWithin fixed a
  IsWithin fixed (ml.named d ts) = AreWithin fixed ts
  IsWithin fixed (ml.map_of a) = IsWithin fixed a

  pub AreWithin : List ℕ → MlTypes → Type 0
  AreWithin fixed ml.no_types = Unit {0}
  AreWithin fixed (ml.more_types t ts) = IsWithin fixed t × AreWithin fixed ts

-- The variables of the types of definitions that aren't generalised are fixed, and so is what was fixed before.
abbrev pub Covers : List ℕ → Names → Type 0
Covers fixed [] = Unit {0}
Covers fixed ((x, plain a) ∷ ns) = IsWithin fixed a × Covers fixed ns
Covers fixed ((x, general earlier a) ∷ ns) = ((i : ℕ) → list_any (λ x. x == i) earlier ≡ true → list_any (λ x. x == i) fixed ≡ true) × Covers fixed ns

-- The scheme of a definition of the type: of a syntactic value it is general, in the variables that aren't fixed; of another expression it
-- is the type alone.
abbrev pub DefinesBy : Names → Tree → MlType → Scheme → Type 0
DefinesBy ns e a (plain b) = (b ≡ a) × (IsValueTree e → ⊥)
DefinesBy ns e a (general fixed b) = (b ≡ a) × IsValueTree e × Covers fixed ns

-- an item's pattern is a variable or `_`, or `()` for unit
abbrev pub ItemPatternIs : Annotation → Pattern → MlType → Type 0
ItemPatternIs n (pattern p any) a = Unit {0}
ItemPatternIs n (pattern p (bind x)) a = n.binders x ≡ a
ItemPatternIs n (pattern p nothing) a = a ≡ ml.unit
ItemPatternIs n (pattern p (tuple_of qs)) a = ⊥
ItemPatternIs n (pattern p (build_of c m qs)) a = ⊥

-- the names behind an item
abbrev pub named : Pattern → Scheme → Names → Names
named (pattern p any) s ns = ns
named (pattern p (bind x)) s ns = (x, s) ∷ ns
named (pattern p nothing) s ns = ns
named (pattern p (tuple_of qs)) s ns = ns
named (pattern p (build_of c m qs)) s ns = ns

-- an item obeys the rules under the names of those before it, and so does what follows, under the names that are left to it
abbrev pub ItemIs : Signature → Annotation → Names → ItemForm → (Names → Type 0) → Type 0
ItemIs g n ns (type_of d) rest = rest ns
ItemIs g n ns (let_of q e) rest =
    (s : Scheme) × DefinesBy ns e (type_in n e) s × ItemPatternIs n q (type_in n e) × TreeIs g n Every ns e × rest (named q s ns)
ItemIs g n ns (let_rec_of f r) rest =
    (fixed : List ℕ) × (from : MlType) × Covers fixed ns × (n.nodes r.id ≡ n.binders f) × (n.binders f ≡ ml.arrow from (type_in n r.body)) × PatternIs g n r.parameter from
    × TreeIs g n Every (plain_names n (bound_in r.parameter) ++ (f, plain (n.binders f)) ∷ ns) r.body × rest ((f, general fixed (n.binders f)) ∷ ns)

abbrev pub ItemsAre : Signature → Annotation → Names → List ItemTree → Type 0
ItemsAre g n ns [] = Unit {0}
ItemsAre g n ns (i ∷ is) = ItemIs g n ns i.form (λ ms. ItemsAre g n ms is)

-- the annotation of a program obeys the rules, where its constructors are those that it defines
abbrev pub IsTyped : Annotation → List ItemTree → Type 0
IsTyped n is = ItemsAre (signature_of is) n [] is
