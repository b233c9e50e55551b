-- How deep the trees of a value nest, and what an action finds on top of the values.
use Rattle.std.specs.Prelude.{max}
use Rattle.std.proofs.Common.{◌≡◌, ℕ, ◌+◌, ◌≤◌, refl, true, false, Option, Some, List, [], ◌∷◌, ◌++◌, arith}
use Rattle.lq_text_tree.specs.Items.{Construct, ItemTree}
use Rattle.lq_text_tree.specs.Levels.{nesting, nesting_of_all, nesting_of_cases, type_nesting, type_nesting_of_all, type_nesting_of_row, type_nesting_of_rest, pred_nesting, constructors_nesting, item_nesting, items_nesting}
use Rattle.lq_text_tree.specs.MeasureTrees.{EquationTree, MeasureTree, equations_nesting, definitions_nesting}
use Rattle.lq_text_tree.specs.Qualifiers.{QualifierTree, qualifiers_nesting}
use Rattle.lq_text_tree.specs.Tree.{Tree}
use Rattle.lq_text_tree.specs.TreeView.{Case, trees_of, cases_of}
use Rattle.lq_text_tree.specs.TypeTree.{TypeTree, TypeTrees, no_type_trees, more_type_trees}
use Rattle.lq_text_tree.specs.TypeView.{type_trees_of}
use Rattle.lq_text_actions.specs.Value as value
use Rattle.lq_text_actions.specs.Value.{Value, Making, with_values}
use Rattle.lq_text_actions.proofs.Sorts.{Sort, sort_of, Step, beside, below, Need}

abbrev pub value_nesting : Value → ℕ
value_nesting (value.expression e p c) = nesting e
value_nesting (value.expressions es p) = nesting_of_all (trees_of es)
value_nesting (value.element a i p) = max (nesting a) (nesting i + 1)
value_nesting (value.arms as_) = nesting_of_cases (cases_of as_)
value_nesting (value.recursive f r) = nesting r.body + 1
value_nesting (value.type_read t p) = type_nesting t
value_nesting (value.types ts p) = type_nesting_of_all (type_trees_of ts)
value_nesting (value.constructors cs) = constructors_nesting cs
value_nesting (value.items is) = items_nesting is
value_nesting (value.predicate e p) = pred_nesting e
value_nesting (value.qualifiers qs) = qualifiers_nesting qs
value_nesting (value.equations es) = equations_nesting es
value_nesting (value.measures ms) = definitions_nesting ms
value_nesting _ = 0

abbrev pub sunk : Step → ℕ → ℕ
sunk beside n = n
sunk below n = n + 1

-- these values are on top, and what is made of them nests no deeper than the bound
abbrev pub Held : ℕ → List Need → List Value → Type 0
Held bound [] vs = Unit {0}
Held bound (n ∷ ns) [] = true ≡ false
Held bound (n ∷ ns) (v ∷ vs) = (sort_of v ≡ n.sort) × (sunk n.step (value_nesting v) ≤ bound) × Held bound ns vs

abbrev pub behind : List Need → List Value → List Value
behind [] vs = vs
behind (n ∷ ns) [] = []
behind (n ∷ ns) (v ∷ vs) = behind ns vs

-- one value of this sort is put in place of what was needed
abbrev pub Gives : List Need → Sort → (List Value → Option (List Value)) → Type 0
Gives ns s f = (bound : ℕ) (vs : List Value) → Held bound ns vs → (v : Value) × (f vs ≡ Some (v ∷ behind ns vs)) × (sort_of v ≡ s) × (value_nesting v ≤ bound)

-- the same with the number of nodes
abbrev pub Makes : List Need → Sort → (ℕ → List Value → Option Making) → Type 0
Makes ns s f = (bound n : ℕ) (vs : List Value) → Held bound ns vs
    → (v : Value) × (m : ℕ) × (f n vs ≡ Some (record { made = m; values = v ∷ behind ns vs })) × (sort_of v ≡ s) × (value_nesting v ≤ bound) × (m ≤ n + 2)

pub gives-makes : (ns : List Need) (s : Sort) (f : List Value → Option (List Value)) → Gives ns s f → Makes ns s (λ n vs. with_values n (f vs))
gives-makes ns s f g bound n vs h = let r = g bound vs h in (r.0, n, rw r.1 refl, r.2, r.3, omega arith)

-- rows with one more at their end
pub trees-append : (es : List Tree) (e : Tree) (bound : ℕ) → nesting_of_all (trees_of es) ≤ bound → nesting e ≤ bound → nesting_of_all (trees_of (es ++ e ∷ [])) ≤ bound
trees-append [] e bound h g = omega arith
trees-append (x ∷ es) e bound h g = omega (arith, trees-append es e bound (omega arith) g)

pub cases-append : (cs : List Case) (c : Case) (bound : ℕ) → nesting_of_cases (cases_of cs) ≤ bound → nesting c.body ≤ bound → nesting_of_cases (cases_of (cs ++ c ∷ [])) ≤ bound
cases-append [] c bound h g = omega arith
cases-append (x ∷ cs) c bound h g = omega (arith, cases-append cs c bound (omega arith) g)

pub types-append : (ts : List TypeTree) (t : TypeTree) (bound : ℕ) → type_nesting_of_all (type_trees_of ts) ≤ bound → type_nesting t ≤ bound → type_nesting_of_all (type_trees_of (ts ++ t ∷ [])) ≤ bound
types-append [] t bound h g = omega arith
types-append (x ∷ ts) t bound h g = omega (arith, types-append ts t bound (omega arith) g)

pub constructors-append : (cs : List Construct) (c : Construct) (bound : ℕ) → constructors_nesting cs ≤ bound → type_nesting_of_all c.fields ≤ bound → constructors_nesting (cs ++ c ∷ []) ≤ bound
constructors-append [] c bound h g = omega arith
constructors-append (x ∷ cs) c bound h g = omega (arith, constructors-append cs c bound (omega arith) g)

pub items-append : (is : List ItemTree) (i : ItemTree) (bound : ℕ) → items_nesting is ≤ bound → item_nesting i.form ≤ bound → items_nesting (is ++ i ∷ []) ≤ bound
items-append [] i bound h g = omega arith
items-append (x ∷ is) i bound h g = omega (arith, items-append is i bound (omega arith) g)

pub qualifiers-append : (qs : List QualifierTree) (q : QualifierTree) (bound : ℕ) → qualifiers_nesting qs ≤ bound → pred_nesting q.predicate ≤ bound → qualifiers_nesting (qs ++ q ∷ []) ≤ bound
qualifiers-append [] q bound h g = omega arith
qualifiers-append (x ∷ qs) q bound h g = omega (arith, qualifiers-append qs q bound (omega arith) g)

pub equations-append : (es : List EquationTree) (e : EquationTree) (bound : ℕ) → equations_nesting es ≤ bound → pred_nesting e.term ≤ bound → equations_nesting (es ++ e ∷ []) ≤ bound
equations-append [] e bound h g = omega arith
equations-append (x ∷ es) e bound h g = omega (arith, equations-append es e bound (omega arith) g)

pub measures-append : (ms : List MeasureTree) (m : MeasureTree) (bound : ℕ) → definitions_nesting ms ≤ bound → equations_nesting m.equations ≤ bound → definitions_nesting (ms ++ m ∷ []) ≤ bound
measures-append [] m bound h g = omega arith
measures-append (x ∷ ms) m bound h g = omega (arith, measures-append ms m bound (omega arith) g)

-- a row in which the parts behind the first count one more
type-rest : (ts : TypeTrees) → type_nesting_of_rest ts ≤ type_nesting_of_all ts + 1
type-rest no_type_trees = omega arith
type-rest (more_type_trees t ts) = omega (arith, type-rest ts)

pub type-row : (ts : TypeTrees) → type_nesting_of_row ts ≤ type_nesting_of_all ts + 1
type-row no_type_trees = omega arith
type-row (more_type_trees t ts) = omega (arith, type-rest ts)
