-- The rule of a node rests on the types of the nodes and binders that it names.
use Rattle.std.proofs.Common.{ℕ, zero, suc, ◌+◌, ◌<◌, List, [], ◌∷◌, map, All, sym, ap, ap₂, subst, ◌∙◌, arith}
use Rattle.lq_text_tree.specs.MlType as ml
use Rattle.lq_text_tree.specs.MlType.{MlType, MlTypes}
use Rattle.lq_text_tree.specs.Pattern.{Pattern}
use Rattle.lq_text_tree.specs.Tree.{Tree}
use Rattle.lq_text_tree.specs.TreeView.{Case}
use Rattle.lq_text_tree.specs.Types.{Signature, Builds, Lists}
use Rattle.lq_text_walk.specs.Walk.Shape as shape
use Rattle.lq_text_walk.specs.Walk.Shape.{Leaf, One, Two, Three, Row, Shape}
use Rattle.lq_types_rules.specs.Equations.Solutions.{each}
use Rattle.lq_types_rules.specs.Equations.Adding.{Depends}
use Rattle.lq_types_rules.specs.Equations.Rows.{number_of, LeafIs, OneIs, TwoIs, ThreeIs, last_of, ChainIs, RowIs, FunIs, ArmsFit, ShapeIs}
use Rattle.lq_types_rules.specs.Equations.Within.{PatternIn, LeafIn, CaseIn, ShapeIn}
use Rattle.lq_types_rules.proofs.EquationsLemmas.Growing.{agree_each}
use Rattle.lq_types_rules.proofs.EquationsLemmas.Patterning.{pattern_depends, pattern_at_depends}

pub leaf_depends : (nodes n : ℕ) (h : Leaf) (at : ℕ) → at < n → LeafIn nodes n h → Depends n (LeafIs nodes h at)
leaf_depends nodes n (shape.whole m) at l i t later g e = g at l ∙ e
leaf_depends nodes n (shape.flag b) at l i t later g e = g at l ∙ e
leaf_depends nodes n shape.unit at l i t later g e = g at l ∙ e
leaf_depends nodes n (shape.use_of x) at l i t later g e = g at l ∙ e ∙ sym (g (nodes + x) i)
leaf_depends nodes n (shape.qualified m x) at l i t later g e = e
leaf_depends nodes n shape.assert_false at l i t later g e = e
leaf_depends nodes n shape.map_empty at l i t later g e = e

pub one_depends : (n : ℕ) (h : One) (a at : ℕ) → at < n → a < n → Depends n (OneIs h a at)
one_depends n shape.negated a at l i t later g e = (g a i ∙ e.0, g at l ∙ e.1)
one_depends n shape.not_of a at l i t later g e = (g a i ∙ e.0, g at l ∙ e.1)
one_depends n shape.assert a at l i t later g e = (g a i ∙ e.0, g at l ∙ e.1)
one_depends n shape.length_of a at l i t later g e = (e.0, g a i ∙ e.1, g at l ∙ e.2)
one_depends n shape.print a at l i t later g e = (g a i ∙ e.0, g at l ∙ e.1)
one_depends n shape.read a at l i t later g e = (g a i ∙ e.0, g at l ∙ e.1)

pub two_depends : (n : ℕ) (h : Two) (a b at : ℕ) → at < n → a < n → b < n → Depends n (TwoIs h a b at)
two_depends n shape.call a b at l i j t later g e = g a i ∙ e ∙ ap₂ ml.arrow (sym (g b j)) (sym (g at l))
two_depends n (shape.arithmetic o) a b at l i j t later g e = (g a i ∙ e.0, g b j ∙ e.1, g at l ∙ e.2)
two_depends n (shape.compare o) a b at l i j t later g e = (g a i ∙ e.0, g b j ∙ e.1, g at l ∙ e.2)
two_depends n shape.and_of a b at l i j t later g e = (g a i ∙ e.0, g b j ∙ e.1, g at l ∙ e.2)
two_depends n shape.or_of a b at l i j t later g e = (g a i ∙ e.0, g b j ∙ e.1, g at l ∙ e.2)
two_depends n shape.make a b at l i j t later g e = (g a i ∙ e.0, g at l ∙ e.1 ∙ ap ml.array (sym (g b j)))
two_depends n shape.fetch a b at l i j t later g e = (g a i ∙ e.0 ∙ ap ml.array (sym (g at l)), g b j ∙ e.1)
two_depends n shape.map_find a b at l i j t later g e = e

pub three_depends : (n : ℕ) (h : Three) (a b c at : ℕ) → at < n → a < n → b < n → c < n → Depends n (ThreeIs h a b c at)
three_depends n shape.if_else a b c at l i j k t later g e = (g a i ∙ e.0, g b j ∙ e.1 ∙ sym (g at l), g c k ∙ e.2 ∙ sym (g at l))
three_depends n shape.store a b c at l i j k t later g e = (g a i ∙ e.0 ∙ ap ml.array (sym (g c k)), g b j ∙ e.1, g at l ∙ e.2)
three_depends n shape.map_add a b c at l i j k t later g e = e

last_inside : (n a : ℕ) (as_ : List ℕ) → a < n → All (λ p. p < n) as_ → last_of a as_ < n
last_inside n a [] l h = l
last_inside n a (b ∷ bs) l h = last_inside n b bs (h 0 0 (omega arith)) (λ k d i. h (suc k) d (omega arith))

chain_depends : (n : ℕ) (ps : List ℕ) (at : ℕ) → at < n → All (λ p. p < n) ps → Depends n (ChainIs ps at)
chain_depends n [] at l h t later g e = g at l ∙ e
chain_depends n (a ∷ as_) at l h t later g e =
    g at l ∙ e ∙ sym (g (last_of a as_) (last_inside n a as_ (h 0 0 (omega arith)) (λ k d i. h (suc k) d (omega arith))))

pub row_depends : (g : Signature) (n : ℕ) (h : Row) (ps : List ℕ) (at : ℕ) → at < n → All (λ p. p < n) ps → Depends n (RowIs g h ps at)
row_depends s n shape.tuple ps at l h t later g e = g at l ∙ e ∙ ap ml.tuple (sym (agree_each n t later g ps h))
row_depends s n (shape.build c w) ps at l h t later g e = subst (Builds s c (each later ps)) (sym (g at l)) (subst (λ ts. Builds s c ts (t at)) (sym (agree_each n t later g ps h)) e)
row_depends s n shape.list_of ps at l h t later g e = subst (Lists (each later ps)) (sym (g at l)) (subst (λ ts. Lists ts (t at)) (sym (agree_each n t later g ps h)) e)
row_depends s n shape.chain ps at l h t later g e = chain_depends n ps at l h t later g e

pub fun_depends : (g : Signature) (nodes n : ℕ) (q : Pattern) (b at : ℕ) → at < n → PatternIn nodes n q → b < n → Depends n (FunIs g nodes q b at)
fun_depends s nodes n q b at l h i t later g e = (e.0, g at l ∙ e.1 ∙ ap (ml.arrow e.0) (sym (g b i)), pattern_depends s nodes n q h e.0 t later g e.2)

pub arms_depends : (g : Signature) (nodes n : ℕ) (cs : List Case) (m at : ℕ) → at < n → All (CaseIn nodes n) cs → m < n → Depends n (ArmsFit g nodes cs m at)
arms_depends s nodes n [] m at l h i t later g e = tt
arms_depends s nodes n (c ∷ cs) m at l h i t later g e =
    let x = h 0 c (omega arith) in
    (pattern_at_depends s nodes n c.pattern m x.0 i t later g e.0, g (number_of c.body) x.1 ∙ e.1 ∙ sym (g at l), arms_depends s nodes n cs m at l (λ k d j. h (suc k) d (omega arith)) i t later g e.2)

pub numbers_inside : (n : ℕ) (ts : List Tree) → All (λ t. number_of t < n) ts → All (λ p. p < n) (map number_of ts)
numbers_inside n [] h k d l = absurd (omega arith)
numbers_inside n (t ∷ ts) h zero d l = h 0 t (omega arith)
numbers_inside n (t ∷ ts) h (suc k) d l = numbers_inside n ts (λ j e i. h (suc j) e (omega arith)) k d (omega arith)

pub shape_depends : (g : Signature) (nodes n : ℕ) (h : Shape) (at : ℕ) → at < n → ShapeIn nodes n h → Depends n (ShapeIs g nodes h at)
shape_depends s nodes n (shape.leaf h) at l i t later g r = leaf_depends nodes n h at l i t later g r
shape_depends s nodes n (shape.one h a) at l i t later g r = one_depends n h (number_of a) at l i t later g r
shape_depends s nodes n (shape.two h a b) at l i t later g r = two_depends n h (number_of a) (number_of b) at l i.0 i.1 t later g r
shape_depends s nodes n (shape.three h a b c) at l i t later g r = three_depends n h (number_of a) (number_of b) (number_of c) at l i.0 i.1 i.2 t later g r
shape_depends s nodes n (shape.row h ts) at l i t later g r = row_depends s n h (map number_of ts) at l (numbers_inside n ts i) t later g r
shape_depends s nodes n (shape.function p b) at l i t later g r = fun_depends s nodes n p (number_of b) at l i.0 i.1 t later g r
shape_depends s nodes n (shape.let_in p e b) at l i t later g r = (g at l ∙ r.0 ∙ sym (g (number_of b) i.2), pattern_at_depends s nodes n p (number_of e) i.0 i.1 t later g r.1)
shape_depends s nodes n (shape.let_rec f k q p e b) at l i t later g r = (g at l ∙ r.0 ∙ sym (g (number_of b) i.2), g k i.1 ∙ r.1 ∙ sym (g (nodes + f) i.0))
shape_depends s nodes n (shape.match_on e as_) at l i t later g r = arms_depends s nodes n as_ (number_of e) at l i.1 i.0 t later g r
