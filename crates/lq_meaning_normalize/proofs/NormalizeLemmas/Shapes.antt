-- What a node becomes, and how much work it is, by the node's shape.
use Rattle.std.proofs.Common.{◌≡◌, ℕ, ◌+◌, Bool, List, [], ◌∷◌, map, refl, sym, ap, ◌∙◌, rules}
use Rattle.lq_base_names.specs.declared.name.Binder.{Binder}
use Rattle.lq_base_names.specs.declared.place.Place.{Place}
use Rattle.lq_text_tree.specs.Tree as form
use Rattle.lq_text_tree.specs.Tree.{Tree, tree, Form, Trees, no_trees, more_trees, Cases, no_cases, more_cases}
use Rattle.lq_text_tree.specs.TreeView.{Case, trees_of, cases_of, scoped_view, form_view}
use Rattle.lq_text_tree.specs.declared.expr.Expr.{Expr, out-Expr}
use Rattle.lq_text_tree.specs.declared.expr.Node.{the_lemmas}
use Rattle.lq_text_walk.specs.Walk.Fold.{Arm, Algebra, fold, fold_form, fold_all, fold_cases}
use Rattle.lq_text_walk.specs.Walk.Shape as shape
use Rattle.lq_text_walk.specs.Walk.Shape.{Shape, shape_of, listed, listed_cases}
use Rattle.lq_meaning_normal_form.specs.Outcomes.Flattening.{Let}
use Rattle.lq_meaning_normalize.specs.Pass.Forming.{Formed, scrutinee, over_cases, formed, formed_of, formed_shape, formed_cases, formed_all, formed_items, formed_chain, over_row}
use Rattle.lq_meaning_normalize.specs.Normalize.Work.{in_row, in_arms, sizing, size_of, sizes, case_sizes}

pub trees_back : (ts : Trees) → trees_of (listed ts) ≡ ts
trees_back no_trees = refl
trees_back (more_trees t ts) = ap (more_trees t) (trees_back ts)

pub cases_back : (cs : Cases) → cases_of (listed_cases cs) ≡ cs
cases_back no_cases = refl
cases_back (more_cases q b cs) = ap (more_cases q b) (cases_back cs)

pub listed_back : (ts : List Tree) → listed (trees_of ts) ≡ ts
listed_back [] = refl
listed_back (t ∷ ts) = ap (λ (us : List Tree). t ∷ us) (listed_back ts)

pub listed_cases_back : (cs : List Case) → listed_cases (cases_of cs) ≡ cs
listed_cases_back [] = refl
listed_cases_back (c ∷ cs) = ap (λ (ds : List Case). c ∷ ds) (listed_cases_back cs)

row_back : (h : shape.Row) (ls : List Let) (k i : ℕ) (p : Place) (es : Trees) → over_row h i p (formed_all ls k es) (formed_items ls k es) (formed_chain ls k i p es)
    ≡ formed_shape ls k i p (shape.row h (listed es))
row_back h ls k i p es = sym (ap (λ ts. over_row h i p (formed_all ls k ts) (formed_items ls k ts) (formed_chain ls k i p ts)) (trees_back es))

pub by_shape : (ls : List Let) (k i : ℕ) (p : Place) (f : Form) → formed_of ls k i p f ≡ formed_shape ls k i p (shape_of f)
by_shape ls k i p (form.whole n) = refl
by_shape ls k i p (form.flag b) = refl
by_shape ls k i p form.unit = refl
by_shape ls k i p (form.use_of x) = refl
by_shape ls k i p (form.qualified m x) = refl
by_shape ls k i p (form.fun q b) = refl
by_shape ls k i p (form.tuple es) = row_back shape.tuple ls k i p es
by_shape ls k i p (form.build c w es) = row_back (shape.build c w) ls k i p es
by_shape ls k i p (form.list_of es) = row_back shape.list_of ls k i p es
by_shape ls k i p (form.let_in q e b) = refl
by_shape ls k i p (form.let_rec f j n q b e) = refl
by_shape ls k i p (form.call a b) = refl
by_shape ls k i p (form.arithmetic o a b) = refl
by_shape ls k i p (form.negated e) = refl
by_shape ls k i p (form.compare o a b) = refl
by_shape ls k i p (form.not_of e) = refl
by_shape ls k i p (form.and_of a b) = refl
by_shape ls k i p (form.or_of a b) = refl
by_shape ls k i p (form.if_else c a b) = refl
by_shape ls k i p (form.match_on e cs) =
    let E = scrutinee e (formed ls k e) in ap (λ ds. over_cases i p E (formed_cases E.next ds)) (sym (cases_back cs))
by_shape ls k i p (form.chain es) = row_back shape.chain ls k i p es
by_shape ls k i p (form.assert e) = refl
by_shape ls k i p form.assert_false = refl
by_shape ls k i p (form.make a b) = refl
by_shape ls k i p (form.length_of e) = refl
by_shape ls k i p (form.fetch a b) = refl
by_shape ls k i p (form.store a b c) = refl
by_shape ls k i p (form.print e) = refl
by_shape ls k i p (form.read e) = refl
by_shape ls k i p form.map_empty = refl
by_shape ls k i p (form.map_add a b c) = refl
by_shape ls k i p (form.map_find a b) = refl

-- ---- work

row_sizes : (es : Trees) → in_row (fold_all sizing es) ≡ sizes (listed es)
row_sizes no_trees = refl
row_sizes (more_trees e es) = ap (λ n. ℕ.suc (size_of e + n)) (row_sizes es)

arm_sizes : (cs : Cases) → in_arms (fold_cases sizing cs) ≡ case_sizes (listed_cases cs)
arm_sizes no_cases = refl
arm_sizes (more_cases q b cs) = ap (λ n. ℕ.suc (size_of b + n)) (arm_sizes cs)

abbrev pub shape_size : Shape → ℕ
shape_size (shape.leaf h) = 1
shape_size (shape.one h a) = size_of a + 2
shape_size (shape.two h a b) = size_of a + (size_of b + 3)
shape_size (shape.three h a b c) = size_of a + (size_of b + (size_of c + 4))
shape_size (shape.row h es) = ℕ.suc (sizes es)
shape_size (shape.function q b) = size_of b + 2
shape_size (shape.let_in q e b) = size_of e + (size_of b + 3)
shape_size (shape.let_rec f j n q b e) = size_of b + (size_of e + 3)
shape_size (shape.match_on e cs) = size_of e + (case_sizes cs + 2)

size_by_shape : (i : ℕ) (p : Place) (f : Form) → size_of (tree i p f) ≡ shape_size (shape_of f)
size_by_shape i p (form.whole n) = refl
size_by_shape i p (form.flag b) = refl
size_by_shape i p form.unit = refl
size_by_shape i p (form.use_of x) = refl
size_by_shape i p (form.qualified m x) = refl
size_by_shape i p (form.fun q b) = refl
size_by_shape i p (form.tuple es) = ap ℕ.suc (row_sizes es)
size_by_shape i p (form.build c w es) = ap ℕ.suc (row_sizes es)
size_by_shape i p (form.list_of es) = ap ℕ.suc (row_sizes es)
size_by_shape i p (form.let_in q e b) = refl
size_by_shape i p (form.let_rec f j n q b e) = refl
size_by_shape i p (form.call a b) = refl
size_by_shape i p (form.arithmetic o a b) = refl
size_by_shape i p (form.negated e) = refl
size_by_shape i p (form.compare o a b) = refl
size_by_shape i p (form.not_of e) = refl
size_by_shape i p (form.and_of a b) = refl
size_by_shape i p (form.or_of a b) = refl
size_by_shape i p (form.if_else c a b) = refl
size_by_shape i p (form.match_on e cs) = ap (λ n. size_of e + (n + 2)) (arm_sizes cs)
size_by_shape i p (form.chain es) = ap ℕ.suc (row_sizes es)
size_by_shape i p (form.assert e) = refl
size_by_shape i p form.assert_false = refl
size_by_shape i p (form.make a b) = refl
size_by_shape i p (form.length_of e) = refl
size_by_shape i p (form.fetch a b) = refl
size_by_shape i p (form.store a b c) = refl
size_by_shape i p (form.print e) = refl
size_by_shape i p (form.read e) = refl
size_by_shape i p form.map_empty = refl
size_by_shape i p (form.map_add a b c) = refl
size_by_shape i p (form.map_find a b) = refl

-- ---- a tree in memory

pub tree_seen : (e : Expr Binder) → scoped_view e ≡ tree (out-Expr Binder e).id (out-Expr Binder e).place (form_view Binder (λ b. b.0) (out-Expr Binder e).node)
tree_seen e = search (rules, the_lemmas)

pub formed_seen : (e : Expr Binder) (s : Shape) (ls : List Let) (k : ℕ) → s ≡ shape_of (form_view Binder (λ b. b.0) (out-Expr Binder e).node)
    → formed_shape ls k (out-Expr Binder e).id (out-Expr Binder e).place s ≡ formed ls k (scoped_view e)
formed_seen e s ls k is =
    let x = out-Expr Binder e in let f = form_view Binder (λ b. b.0) x.node in
    ap (formed_shape ls k x.id x.place) is ∙ sym (by_shape ls k x.id x.place f) ∙ sym (ap (formed ls k) (tree_seen e))

pub size_seen : (e : Expr Binder) (s : Shape) → s ≡ shape_of (form_view Binder (λ b. b.0) (out-Expr Binder e).node) → shape_size s ≡ size_of (scoped_view e)
size_seen e s is =
    let x = out-Expr Binder e in let f = form_view Binder (λ b. b.0) x.node in
    ap shape_size is ∙ sym (size_by_shape x.id x.place f) ∙ sym (ap size_of (tree_seen e))
