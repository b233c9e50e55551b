-- What flattening keeps.
use Rattle.std.specs.Prelude.{◌≡◌, ℕ, ℤ, Bool, false, ◌||◌, ◌==◌, List, [], ◌∷◌}
use Rattle.std.specs.List.{list_any}
use Rattle.lq_text_tree.specs.Items.{ItemTree, ItemForm, type_of, let_of, let_rec_of}
use Rattle.lq_text_tree.specs.Tree as form
use Rattle.lq_text_tree.specs.Tree.{Tree, tree, Form, Trees, no_trees, more_trees, Cases, no_cases, more_cases}
use Rattle.lq_meaning_steps.specs.Model.Core.{Parameter, Core, Pairs}
use Rattle.lq_meaning_steps.specs.Model.Operations.{World}
use Rattle.lq_meaning_steps.specs.Model.Meaning.{meaning, program_meaning}
use Rattle.lq_meaning_steps.specs.Model.FromTree.{core_of, items_of}
use Rattle.lq_meaning_normal_form.specs.Outcomes.Alike.{AlikePairs, AlikeWorlds, alike_answers}
use Rattle.lq_meaning_normal_form.specs.Outcomes.Named.{from, AvoidsItems, NeverStuck}
use Rattle.lq_meaning_normal_form.specs.Outcomes.Naming.{named_items}
use Rattle.lq_meaning_normal_form.specs.Outcomes.Flattening.{flat, flattened, let_names, flattened_items, normal_of}
use Rattle.lq_meaning_steps.specs.Model.Outcomes.{HaveSameOutcomes}

-- these names too
abbrev pub also : List ℕ → (ℕ → Bool) → ℕ → Bool
also xs hidden x = list_any (λ y. y == x) xs || hidden x

abbrev pub none : ℕ → Bool
none x = false

-- No use of a hidden name. Behind a let those names are hidden that flattening brings out of the expression that it binds. Where all
-- binders differ and each use is in the scope of its binder, none is used there.
abbrev mutual
  pub Clear : (ℕ → Bool) → Tree → Type 0
  Clear hidden (tree i p f) = ClearForm hidden f

  pub ClearForm : (ℕ → Bool) → Form → Type 0
  ClearForm hidden (form.use_of x) = hidden x ≡ false
  ClearForm hidden (form.fun q b) = Clear hidden b
  ClearForm hidden (form.tuple es) = ClearAll hidden es
  ClearForm hidden (form.build c w es) = ClearAll hidden es
  ClearForm hidden (form.list_of es) = ClearAll hidden es
  ClearForm hidden (form.let_in q e b) = Clear hidden e × Clear (also (let_names (flat e).lets) hidden) b
  ClearForm hidden (form.let_rec f j n q b e) = Clear hidden b × Clear hidden e
  ClearForm hidden (form.call f a) = Clear hidden f × Clear hidden a
  ClearForm hidden (form.arithmetic o a b) = Clear hidden a × Clear hidden b
  ClearForm hidden (form.negated e) = Clear hidden e
  ClearForm hidden (form.compare o a b) = Clear hidden a × Clear hidden b
  ClearForm hidden (form.not_of e) = Clear hidden e
  ClearForm hidden (form.and_of a b) = Clear hidden a × Clear hidden b
  ClearForm hidden (form.or_of a b) = Clear hidden a × Clear hidden b
  ClearForm hidden (form.if_else c a b) = Clear hidden c × Clear hidden a × Clear hidden b
  ClearForm hidden (form.match_on e cs) = Clear hidden e × ClearCases hidden cs
  ClearForm hidden (form.chain es) = ClearAll hidden es
  ClearForm hidden (form.assert e) = Clear hidden e
  ClearForm hidden (form.make a b) = Clear hidden a × Clear hidden b
  ClearForm hidden (form.length_of e) = Clear hidden e
  ClearForm hidden (form.fetch a b) = Clear hidden a × Clear hidden b
  ClearForm hidden (form.store a b c) = Clear hidden a × Clear hidden b × Clear hidden c
  ClearForm hidden (form.print e) = Clear hidden e
  ClearForm hidden (form.read e) = Clear hidden e
  ClearForm hidden _ = Unit {0}

  pub ClearAll : (ℕ → Bool) → Trees → Type 0
  ClearAll hidden no_trees = Unit {0}
  ClearAll hidden (more_trees e es) = Clear hidden e × ClearAll hidden es

  pub ClearCases : (ℕ → Bool) → Cases → Type 0
  ClearCases hidden no_cases = Unit {0}
  ClearCases hidden (more_cases q e cs) = Clear hidden e × ClearCases hidden cs

-- code that is flattened
pub record IsFlattened (hidden : ℕ → Bool) (q : Parameter) (b : Core) (r : Parameter) (c : Core) : Type 0 where
  pub body : Tree
  pub clear : Clear hidden body
  pub source : b ≡ core_of body
  pub parameter : r ≡ q
  pub flattened : c ≡ core_of (flattened body)

-- A clear tree and the flattened one mean alike, with every bound on nested calls and in environments and worlds that are alike.
abbrev pub FlatteningKeeps : Type 0
FlatteningKeeps =
    (n : ℕ) (hidden : ℕ → Bool) (t : Tree) (d g : Pairs) (w u : World) → Clear hidden t → AlikePairs IsFlattened hidden d g → AlikeWorlds IsFlattened w u
    → alike_answers IsFlattened (meaning n (core_of t) d w) (meaning n (core_of (flattened t)) g u)

abbrev pub ClearItem : ItemForm → Type 0
ClearItem (type_of d) = Unit {0}
ClearItem (let_of q e) = Clear none e
ClearItem (let_rec_of f r) = Clear none r.body

abbrev pub ClearItems : List ItemTree → Type 0
ClearItems [] = Unit {0}
ClearItems (i ∷ is) = ClearItem i.form × ClearItems is

abbrev pub FlatteningKeepsPrograms : Type 0
FlatteningKeepsPrograms =
    (is : List ItemTree) → ClearItems is → NeverStuck is → (input : List ℤ) (n : ℕ) → program_meaning n (items_of (flattened_items is)) input ≡ program_meaning n (items_of is) input

-- The normal form keeps every outcome of a program that never gets stuck, in both directions.
abbrev pub NormalFormKeepsOutcomes : Type 0
NormalFormKeepsOutcomes =
    (k : ℕ) (is : List ItemTree) → AvoidsItems (from k) is → ClearItems (named_items k is) → NeverStuck is → HaveSameOutcomes (items_of is) (items_of (normal_of k is))
