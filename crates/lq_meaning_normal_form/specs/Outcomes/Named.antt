-- What naming keeps.
use Rattle.std.specs.Prelude.{◌≡◌, ℕ, ◌≤◌, ℤ, Bool, false, not, nat_lt, List, [], ◌∷◌}
use Rattle.lq_text_tree.specs.Items.{ItemTree, ItemForm, type_of, let_of, let_rec_of}
use Rattle.lq_text_tree.specs.Pattern.{Pattern}
use Rattle.lq_text_tree.specs.Tree as form
use Rattle.lq_text_tree.specs.Tree.{Tree, tree, Form, Trees, no_trees, more_trees, Cases, no_cases, more_cases}
use Rattle.lq_meaning_steps.specs.Model.Core.{Parameter, Core, Pairs}
use Rattle.lq_meaning_steps.specs.Model.Operations.{World}
use Rattle.lq_meaning_steps.specs.Model.Program.{stuck}
use Rattle.lq_meaning_steps.specs.Model.Meaning.{meaning, program_meaning}
use Rattle.lq_meaning_steps.specs.Model.FromTree.{parameter_of, core_of, items_of}
use Rattle.lq_meaning_normal_form.specs.Outcomes.Naming.{block, closed, named, parameter, behind, under, named_items}
use Rattle.lq_meaning_normal_form.specs.Outcomes.Alike.{AlikePairs, AlikeWorlds, alike_answers}

-- no use of a hidden name
abbrev mutual
  pub Avoids : (ℕ → Bool) → Tree → Type 0
  Avoids hidden (tree i p f) = AvoidsForm hidden f

  pub AvoidsForm : (ℕ → Bool) → Form → Type 0
  AvoidsForm hidden (form.use_of x) = hidden x ≡ false
  AvoidsForm hidden (form.fun q b) = Avoids hidden b
  AvoidsForm hidden (form.tuple es) = AvoidsAll hidden es
  AvoidsForm hidden (form.build c w es) = AvoidsAll hidden es
  AvoidsForm hidden (form.list_of es) = AvoidsAll hidden es
  AvoidsForm hidden (form.let_in q e b) = Avoids hidden e × Avoids hidden b
  AvoidsForm hidden (form.let_rec f j n q b e) = Avoids hidden b × Avoids hidden e
  AvoidsForm hidden (form.call f a) = Avoids hidden f × Avoids hidden a
  AvoidsForm hidden (form.arithmetic o a b) = Avoids hidden a × Avoids hidden b
  AvoidsForm hidden (form.negated e) = Avoids hidden e
  AvoidsForm hidden (form.compare o a b) = Avoids hidden a × Avoids hidden b
  AvoidsForm hidden (form.not_of e) = Avoids hidden e
  AvoidsForm hidden (form.and_of a b) = Avoids hidden a × Avoids hidden b
  AvoidsForm hidden (form.or_of a b) = Avoids hidden a × Avoids hidden b
  AvoidsForm hidden (form.if_else c a b) = Avoids hidden c × Avoids hidden a × Avoids hidden b
  AvoidsForm hidden (form.match_on e cs) = Avoids hidden e × AvoidsCases hidden cs
  AvoidsForm hidden (form.chain es) = AvoidsAll hidden es
  AvoidsForm hidden (form.assert e) = Avoids hidden e
  AvoidsForm hidden (form.make a b) = Avoids hidden a × Avoids hidden b
  AvoidsForm hidden (form.length_of e) = Avoids hidden e
  AvoidsForm hidden (form.fetch a b) = Avoids hidden a × Avoids hidden b
  AvoidsForm hidden (form.store a b c) = Avoids hidden a × Avoids hidden b × Avoids hidden c
  AvoidsForm hidden (form.print e) = Avoids hidden e
  AvoidsForm hidden (form.read e) = Avoids hidden e
  AvoidsForm hidden _ = Unit {0}

  pub AvoidsAll : (ℕ → Bool) → Trees → Type 0
  AvoidsAll hidden no_trees = Unit {0}
  AvoidsAll hidden (more_trees e es) = Avoids hidden e × AvoidsAll hidden es

  pub AvoidsCases : (ℕ → Bool) → Cases → Type 0
  AvoidsCases hidden no_cases = Unit {0}
  AvoidsCases hidden (more_cases q e cs) = Avoids hidden e × AvoidsCases hidden cs

-- the names from here on are kept for made ones
abbrev pub from : ℕ → ℕ → Bool
from base x = not (nat_lt x base)

-- code that is named, from a made name on that no use has
pub record IsNamed (base : ℕ) (hidden : ℕ → Bool) (q : Parameter) (b : Core) (r : Parameter) (c : Core) : Type 0 where
  pub pattern : Pattern
  pub body : Tree
  pub first : ℕ
  pub hides : hidden ≡ from base
  pub above : base ≤ first
  pub avoids : Avoids (from base) body
  pub source : b ≡ core_of body
  pub taken : q ≡ parameter_of pattern
  pub parameter : r ≡ parameter_of (parameter first pattern)
  pub named : c ≡ core_of (under first pattern (closed (block (behind first pattern) body)))

-- Where no use in a tree has a name from `base` on, the tree and the named one mean alike, with every bound on nested calls and in
-- environments and worlds that are alike.
abbrev pub NamingKeeps : Type 0
NamingKeeps =
    (base n k : ℕ) (t : Tree) (d g : Pairs) (w u : World) → base ≤ k → Avoids (from base) t → AlikePairs (IsNamed base) (from base) d g → AlikeWorlds (IsNamed base) w u
    → alike_answers (IsNamed base) (meaning n (core_of t) d w) (meaning n (core_of (named k t)) g u)

-- ---- programs

abbrev pub AvoidsItem : (ℕ → Bool) → ItemForm → Type 0
AvoidsItem hidden (type_of d) = Unit {0}
AvoidsItem hidden (let_of q e) = Avoids hidden e
AvoidsItem hidden (let_rec_of f r) = Avoids hidden r.body

abbrev pub AvoidsItems : (ℕ → Bool) → List ItemTree → Type 0
AvoidsItems hidden [] = Unit {0}
AvoidsItems hidden (i ∷ is) = AvoidsItem hidden i.form × AvoidsItems hidden is

-- what a typed program never does
abbrev pub NeverStuck : List ItemTree → Type 0
NeverStuck is = (input : List ℤ) (n : ℕ) → (program_meaning n (items_of is) input).ending ≡ stuck → ⊥

-- a program that never gets stuck, and the named one, mean the same on each input, with every bound on nested calls
abbrev pub NamingKeepsPrograms : Type 0
NamingKeepsPrograms =
    (k : ℕ) (is : List ItemTree) → AvoidsItems (from k) is → NeverStuck is
    → (input : List ℤ) (n : ℕ) → program_meaning n (items_of (named_items k is)) input ≡ program_meaning n (items_of is) input
