-- Nodes around a tree, one more at a time.
use Rattle.std.proofs.Common.{◌≡◌, List, [], ◌∷◌, ◌++◌, Some, refl, sym, ap, subst}
use Rattle.lq_prover_proof_tree.specs.Trees.Path.{Fact, row_fact, Path, numbered_at}
use Rattle.lq_prover_proof_tree.specs.Trees.Proves.{Numbering, AreJoined, ApplyOne, Clashes, Proves, by_equal, by_clash}
use Rattle.lq_prover_proof_tree.specs.Trees.Tree.{Clash, Tree, equal, leaf}
use Rattle.lq_prover_proof_tree.specs.Trees.TreeView.{tag_items}
use Rattle.lq_prover_case.specs.Equations.Equating.{around, Wraps}
use Rattle.lq_prover_case.specs.declared.equations.chain.Joint.{Joint}
use Rattle.lq_logic_rows.specs.Row.{Row}
use Rattle.lq_logic_predicates.specs.Comparison.{IsRowOf}
use Rattle.lq_logic_predicates.specs.Literals.{equal_row}
use Rattle.lq_logic_predicates.specs.Reading.{Readings}
use Rattle.lq_logic_predicates.specs.Sum.{Sum}

pub around_push : (joints : List Joint) (j : Joint) (tree : Tree) → around (joints ++ j ∷ []) tree ≡ around joints (equal j.left j.right (tag_items j.tags) tree)
around_push [] j tree = refl
around_push (i ∷ joints) j tree = ap (equal i.left i.right (tag_items i.tags)) (around_push joints j tree)

-- two applications whose objects the facts join, and the row that they are equal
pub record IsJoint (n : Numbering) (facts : List Fact) (j : Joint) (r : Row) : Type 0 where
  pub s : Sum
  pub a : Sum
  pub t : Sum
  pub b : Sum
  pub left : numbered_at n.applications j.left ≡ Some s
  pub right : numbered_at n.applications j.right ≡ Some t
  pub one : ApplyOne s a t b
  pub joined : AreJoined facts (tag_items j.tags) a b
  pub row : IsRowOf n.terms (equal_row s t) r

pub wraps_push : (n : Numbering) (whole : Path) (choices : List (Readings Row)) (joints : List Joint) (j : Joint) (facts : List Fact) (r : Row) → IsJoint n facts j r
    → Wraps n whole choices joints facts → Wraps n whole choices (joints ++ j ∷ []) (facts ++ row_fact r ∷ [])
wraps_push n whole choices joints j facts r i w = λ tree p.
    subst (Proves n whole) (sym (around_push joints j tree))
    (w (equal j.left j.right (tag_items j.tags) tree)
    (by_equal (record { facts = facts; choices = choices }) j.left j.right (tag_items j.tags) i.s i.a i.t i.b r tree i.left i.right i.one i.joined i.row p))

pub begun : (n : Numbering) (choices : List (Readings Row)) (all facts : List Fact) → facts ≡ all → Wraps n (record { facts = all; choices = choices }) choices [] facts
begun n choices all facts e = λ tree p. subst (λ fs. Proves n (record { facts = fs; choices = choices }) tree) e p

pub ended : (n : Numbering) (whole : Path) (choices : List (Readings Row)) (joints : List Joint) (facts : List Fact) (c : Clash) → Wraps n whole choices joints facts → Clashes facts c
    → Proves n whole (around joints (leaf c))
ended n whole choices joints facts c w h = w (leaf c) (by_clash (record { facts = facts; choices = choices }) c h)
