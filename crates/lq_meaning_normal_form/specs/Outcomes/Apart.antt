-- Trees in which the names of lets that flattening brings out of a part aren't used in the other parts.
use Rattle.std.specs.Prelude.{◌≡◌, ℕ, ◌<◌, Bool, true, false, ◌||◌, ◌==◌, List, [], ◌∷◌}
use Rattle.std.specs.List.{list_any}
use Rattle.lq_text_tree.specs.Items.{ItemTree, ItemForm, type_of, let_of, let_rec_of}
use Rattle.lq_text_tree.specs.Pattern.{bound_in}
use Rattle.lq_text_tree.specs.TypingRules.{Annotation, IsTyped}
use Rattle.lq_text_tree.specs.Tree as form
use Rattle.lq_text_tree.specs.Tree.{Tree, tree, Form, Trees, no_trees, more_trees, Cases, no_cases, more_cases}
use Rattle.lq_meaning_normal_form.specs.Outcomes.Named.{from, Avoids, AvoidsAll, AvoidsCases, AvoidsItems}
use Rattle.lq_meaning_normal_form.specs.Outcomes.Naming.{named_items}
use Rattle.lq_meaning_normal_form.specs.Outcomes.Flattening.{normal_of}
use Rattle.lq_meaning_normal_form.specs.Outcomes.Flattened.{ClearItems}
use Rattle.lq_meaning_steps.specs.Model.Outcomes.{HaveSameOutcomes}
use Rattle.lq_meaning_steps.specs.Model.Program.{IsNeverStuck}
use Rattle.lq_meaning_steps.specs.Model.FromTree.{items_of}

abbrev pub is_in : List ℕ → ℕ → Bool
is_in xs x = list_any (λ y. y == x) xs

-- Whether a let of the tree binds this name, outside the bodies of `fun`, `if` and `match`: those go into the block around the tree.
abbrev mutual
  pub lets : Tree → ℕ → Bool
  lets (tree i p f) x = lets_form f x

  pub lets_form : Form → ℕ → Bool
  lets_form (form.tuple es) x = lets_all es x
  lets_form (form.build c w es) x = lets_all es x
  lets_form (form.list_of es) x = lets_all es x
  lets_form (form.let_in q e b) x = is_in (bound_in q) x || (lets e x || lets b x)
  lets_form (form.let_rec f j n q b e) x = (f == x) || lets e x
  lets_form (form.call f a) x = lets f x || lets a x
  lets_form (form.arithmetic o a b) x = lets a x || lets b x
  lets_form (form.negated e) x = lets e x
  lets_form (form.compare o a b) x = lets a x || lets b x
  lets_form (form.not_of e) x = lets e x
  lets_form (form.and_of a b) x = lets a x
  lets_form (form.or_of a b) x = lets a x
  lets_form (form.if_else c a b) x = lets c x
  lets_form (form.match_on e cs) x = lets e x
  lets_form (form.chain es) x = lets_all es x
  lets_form (form.assert e) x = lets e x
  lets_form (form.make a b) x = lets a x || lets b x
  lets_form (form.length_of e) x = lets e x
  lets_form (form.fetch a b) x = lets a x || lets b x
  lets_form (form.store a b c) x = lets a x || (lets b x || lets c x)
  lets_form (form.print e) x = lets e x
  lets_form (form.read e) x = lets e x
  lets_form _ x = false

  pub lets_all : Trees → ℕ → Bool
  lets_all no_trees x = false
  lets_all (more_trees e es) x = lets e x || lets_all es x

-- two parts of a form, neither of which uses a name that comes out of the other
abbrev pub TwoApart : Tree → Tree → Type 0
TwoApart a b = Avoids (lets a) b × Avoids (lets b) a

-- So it is in a tree whose binders all differ, and whose uses are in the scopes of their binders. The names of lets are below `base`.
abbrev mutual
  pub Apart : ℕ → Tree → Type 0
  Apart base (tree i p f) = ApartForm base f

  pub ApartForm : ℕ → Form → Type 0
  ApartForm base (form.fun q b) = Apart base b
  ApartForm base (form.tuple es) = ApartAll base es
  ApartForm base (form.build c w es) = ApartAll base es
  ApartForm base (form.list_of es) = ApartAll base es
  ApartForm base (form.let_in q e b) = ((x : ℕ) → is_in (bound_in q) x ≡ true → x < base) × Apart base e × Avoids (lets e) b × Apart base b
  ApartForm base (form.let_rec f j n q b e) = (f < base) × Apart base b × Apart base e
  ApartForm base (form.call a b) = Apart base a × TwoApart a b × Apart base b
  ApartForm base (form.arithmetic o a b) = Apart base a × TwoApart a b × Apart base b
  ApartForm base (form.negated e) = Apart base e
  ApartForm base (form.compare o a b) = Apart base a × TwoApart a b × Apart base b
  ApartForm base (form.not_of e) = Apart base e
  ApartForm base (form.and_of a b) = Apart base a × Avoids (lets a) b × Apart base b
  ApartForm base (form.or_of a b) = Apart base a × Avoids (lets a) b × Apart base b
  ApartForm base (form.if_else c a b) = Apart base c × Avoids (lets c) a × Avoids (lets c) b × Apart base a × Apart base b
  ApartForm base (form.match_on e cs) = Apart base e × AvoidsCases (lets e) cs × ApartCases base cs
  ApartForm base (form.chain es) = ApartAll base es
  ApartForm base (form.assert e) = Apart base e
  ApartForm base (form.make a b) = Apart base a × TwoApart a b × Apart base b
  ApartForm base (form.length_of e) = Apart base e
  ApartForm base (form.fetch a b) = Apart base a × TwoApart a b × Apart base b
  ApartForm base (form.store a b c) = Apart base a × TwoApart a b × TwoApart a c × Apart base b × TwoApart b c × Apart base c
  ApartForm base (form.print e) = Apart base e
  ApartForm base (form.read e) = Apart base e
  ApartForm base _ = Unit {0}

  pub ApartAll : ℕ → Trees → Type 0
  ApartAll base no_trees = Unit {0}
  ApartAll base (more_trees e es) = Apart base e × AvoidsAll (lets e) es × Avoids (lets_all es) e × ApartAll base es

  pub ApartCases : ℕ → Cases → Type 0
  ApartCases base no_cases = Unit {0}
  ApartCases base (more_cases q b cs) = Apart base b × ApartCases base cs

abbrev pub ApartItem : ℕ → ItemForm → Type 0
ApartItem base (type_of d) = Unit {0}
ApartItem base (let_of q e) = Apart base e
ApartItem base (let_rec_of f r) = Apart base r.body

abbrev pub ApartItems : ℕ → List ItemTree → Type 0
ApartItems base [] = Unit {0}
ApartItems base (i ∷ is) = ApartItem base i.form × ApartItems base is

-- then naming gives trees that are clear for flattening
abbrev pub NamedAreClear : Type 0
NamedAreClear = (k : ℕ) (is : List ItemTree) → AvoidsItems (from k) is → ApartItems k is → ClearItems (named_items k is)

-- The normal form keeps every outcome, in both directions, of a program that never gets stuck, whose parts are apart, and which has no name
-- from the first made one on.
abbrev pub NormalFormKeeps : Type 0
NormalFormKeeps =
    (k : ℕ) (is : List ItemTree) → AvoidsItems (from k) is → ApartItems k is → IsNeverStuck (items_of is) → HaveSameOutcomes (items_of is) (items_of (normal_of k is))

-- so it does of a program whose annotation obeys the rules of types
abbrev pub TypedNormalFormKeeps : Type 0
TypedNormalFormKeeps =
    (n : Annotation) (k : ℕ) (is : List ItemTree) → IsTyped n is → AvoidsItems (from k) is → ApartItems k is → HaveSameOutcomes (items_of is) (items_of (normal_of k is))
