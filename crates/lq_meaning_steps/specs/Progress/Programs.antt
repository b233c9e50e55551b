-- When the items of a program have types, and what follows of its runs.
use Rattle.std.specs.Prelude.{◌≡◌, ℕ, List, [], ◌∷◌, ◌++◌}
use Rattle.lq_text_tree.specs.MlType as ml
use Rattle.lq_text_tree.specs.MlType.{MlType}
use Rattle.lq_text_tree.specs.Items.{ItemTree}
use Rattle.lq_text_tree.specs.TypingRules.{Annotation, IsTyped}
use Rattle.lq_meaning_steps.specs.Model.FromTree.{items_of}
use Rattle.lq_meaning_steps.specs.Model.Core.{Parameter, ignored, variable, empty, matched, Core, val, use_of, fun, row, let_in, let_rec, call, one, two, three, and_of, or_of, if_else, match_on, seq, assert_false, Cores, none, more}
use Rattle.lq_meaning_steps.specs.Model.Program.{Item, let_item, rec_item, IsNeverStuck}
use Rattle.lq_text_tree.specs.Types.{Signature, KnowsLists, Scheme, plain, general, Names, IsInstance}
use Rattle.lq_meaning_steps.specs.Progress.Typing.{Table, ParameterHas, Has}

-- A syntactic value: a literal, a variable, a function, or a row of such.
abbrev mutual
  pub IsSyntactic : Core → Type 0
  IsSyntactic (val v) = Unit {0}
  IsSyntactic (use_of x) = Unit {0}
  IsSyntactic (fun q b) = Unit {0}
  IsSyntactic (row r es) = AreSyntactic es
  IsSyntactic (let_in q e b) = ⊥
  IsSyntactic (let_rec f q b e) = ⊥
  IsSyntactic (call f e) = ⊥
  IsSyntactic (one o e) = ⊥
  IsSyntactic (two o d e) = ⊥
  IsSyntactic (three o c d e) = ⊥
  IsSyntactic (and_of d e) = ⊥
  IsSyntactic (or_of d e) = ⊥
  IsSyntactic (if_else c d e) = ⊥
  IsSyntactic (match_on p e cs) = ⊥
  IsSyntactic (seq d e) = ⊥
  IsSyntactic (assert_false p) = ⊥

  pub AreSyntactic : Cores → Type 0
  AreSyntactic none = Unit {0}
  AreSyntactic (more e es) = IsSyntactic e × AreSyntactic es

-- an item's parameter is a variable or `_`, or `()` for unit
abbrev pub IsItemParameter : Parameter → MlType → Type 0
IsItemParameter ignored a = Unit {0}
IsItemParameter (variable x) a = Unit {0}
IsItemParameter empty a = a ≡ ml.unit
IsItemParameter (matched p q) a = ⊥

-- what is defined has the type; or all types of a scheme, and then it is a syntactic value
abbrev pub LetHas : Signature → Table → Names → Parameter → Core → Scheme → Type 0
LetHas g t ns q e (plain a) = Has g t ns e a × IsItemParameter q a
LetHas g t ns q e (general fixed a) = IsSyntactic e × ((b : MlType) → IsInstance (general fixed a) b → Has g t ns e b) × IsItemParameter q a

-- a recursive function has the type, where its own name has that type alone
abbrev pub FunctionHas : Signature → Table → Names → ℕ → Parameter → Core → MlType → Type 0
FunctionHas g t ns f q b a =
    (from : MlType) × (to : MlType) × (ms : Names) × (a ≡ ml.arrow from to) × ParameterHas g q from ms × Has g t (ms ++ (f, plain (ml.arrow from to)) ∷ ns) b to

-- the names behind an item
abbrev pub named : Parameter → Scheme → Names → Names
named ignored s ns = ns
named (variable x) s ns = (x, s) ∷ ns
named empty s ns = ns
named (matched p q) s ns = ns

-- each item has types, under the names of those before it
abbrev pub ItemsHave : Signature → Table → Names → List Item → Type 0
ItemsHave g t ns [] = Unit {0}
ItemsHave g t ns (let_item q e ∷ is) = (s : Scheme) × LetHas g t ns q e s × ItemsHave g t (named q s ns) is
ItemsHave g t ns (rec_item f q b ∷ is) = (s : Scheme) × ((a : MlType) → IsInstance s a → FunctionHas g t ns f q b a) × ItemsHave g t ((f, s) ∷ ns) is

-- a program whose items have types never gets stuck
abbrev pub TypedIsNeverStuck : Type 0
TypedIsNeverStuck = (g : Signature) (is : List Item) → KnowsLists g → ItemsHave g [] [] is → IsNeverStuck is

-- nor does a program whose scoped trees have an annotation that obeys the rules
abbrev pub AnnotatedIsNeverStuck : Type 0
AnnotatedIsNeverStuck = (n : Annotation) (is : List ItemTree) → IsTyped n is → IsNeverStuck (items_of is)
