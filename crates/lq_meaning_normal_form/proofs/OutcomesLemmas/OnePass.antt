-- One pass makes what naming and flattening make.
use Rattle.std.proofs.Common.{◌≡◌, ℕ, ◌+◌, Bool, true, false, ◌&&◌, if◌then◌else◌, List, [], ◌∷◌, ◌++◌, refl, sym, ap, ap₂, subst, ◌∙◌, append_assoc}
use Rattle.std.proofs.lemmas.List.{append-nil}
use Rattle.lq_base_names.specs.declared.place.Place.{Place}
use Rattle.lq_text_tree.specs.declared.expr.Arguments.TheVariants.{Apart}
use Rattle.lq_text_tree.specs.Pattern.{Pattern, pattern, any, bind, nothing, tuple_of, build_of}
use Rattle.lq_text_tree.specs.Tree as form
use Rattle.lq_text_tree.specs.Tree.{Tree, tree, Form, Trees, no_trees, more_trees, Cases, no_cases, more_cases}
use Rattle.lq_meaning_normal_form.specs.Outcomes.Naming.{is_pure, is_pure_form, is_pure_operator, id_of, place_of, Binding, Block, wrap, closed, plain, made, operand, scrutinee, Row, listed, parameter, behind, under, matched, named_pattern, NamedCases, block, block_of, operands, items, chained, cases}
use Rattle.lq_meaning_normal_form.specs.Outcomes.Flattening.{Let, let_one, let_function, FlatBlock, as_tree, alone, flat, flat_form, flat_all, flat_cases, flattened}
use Rattle.lq_meaning_normal_form.proofs.OutcomesLemmas.Pure.{both_true}
use Rattle.lq_meaning_normal_form.specs.Outcomes.OnePass.{Normal, NormalRow, NormalCases, tree_of, only, with_name, as_operand, as_scrutinee, body_under, list_of_atoms, normal, normal_of, all_operands, all_items, rest_of_chain, normal_cases, OnePassIsBoth}

abbrev the_block : List Let → Tree → FlatBlock
the_block ls t = record { lets = ls; last = t }

-- the lets that bindings become
abbrev flat_bindings : List Binding → List Let
flat_bindings [] = []
flat_bindings (b ∷ bs) = (flat b.bound).lets ++ let_one b.id b.place (pattern b.place (bind b.name)) (flat b.bound).last ∷ flat_bindings bs

bindings_append : (as_ bs : List Binding) → flat_bindings (as_ ++ bs) ≡ flat_bindings as_ ++ flat_bindings bs
bindings_append [] bs = refl
bindings_append (a ∷ as_) bs =
    let l = let_one a.id a.place (pattern a.place (bind a.name)) (flat a.bound).last in
    ap (λ r. (flat a.bound).lets ++ l ∷ r) (bindings_append as_ bs) ∙ sym (append_assoc (flat a.bound).lets (l ∷ flat_bindings as_) (flat_bindings bs))

flat_wrap : (bs : List Binding) (c : Tree) → flat (wrap bs c) ≡ record { lets = flat_bindings bs ++ (flat c).lets; last = (flat c).last }
flat_wrap [] c = refl
flat_wrap (b ∷ bs) c =
    let l = let_one b.id b.place (pattern b.place (bind b.name)) (flat b.bound).last in
    let step : flat (wrap (b ∷ bs) c) ≡ record { lets = (flat b.bound).lets ++ l ∷ (flat_bindings bs ++ (flat c).lets); last = (flat c).last } =
    ap (λ (F : FlatBlock). the_block ((flat b.bound).lets ++ l ∷ F.lets) F.last) (flat_wrap bs c) in
    step ∙ ap (λ ls. the_block ls (flat c).last) (sym (append_assoc (flat b.bound).lets (l ∷ flat_bindings bs) (flat c).lets))

record SameBlock (B : Block) (N : Normal) : Type 0 where
  block : flat (closed B) ≡ the_block N.lets N.last
  next : B.next ≡ N.next

-- where the last expression is no let
record SameLast (B : Block) (N : Normal) : Type 0 where
  lets : flat_bindings B.bindings ≡ N.lets
  last : flat B.last ≡ alone N.last
  next : B.next ≡ N.next

record SameRow (R : Row) (N : NormalRow) : Type 0 where
  lets : flat_bindings R.bindings ≡ N.lets
  atoms : flat_all R.atoms ≡ N.atoms
  next : R.next ≡ N.next

record SameCases (C : NamedCases) (N : NormalCases) : Type 0 where
  cases : flat_cases C.cases ≡ N.cases
  next : C.next ≡ N.next

record Both (B O : Block) (N M : Normal) : Type 0 where
  block : SameBlock B N
  operand : SameLast O M

from_last : (B : Block) (N : Normal) → SameLast B N → SameBlock B N
from_last B N h = record {
  block = flat_wrap B.bindings B.last ∙ ap₂ (λ ls (F : FlatBlock). the_block (ls ++ F.lets) F.last) h.lets h.last ∙ ap (λ ls. the_block ls N.last) (append-nil N.lets);
  next = h.next;
}

name_same : (i : ℕ) (p : Place) (B : Block) (N : Normal) → SameBlock B N → SameLast (made i p B) (with_name i p N)
name_same i p B N h = record {
  lets = ap₂ (λ (F : FlatBlock) n. F.lets ++ let_one i p (pattern p (bind n)) F.last ∷ []) h.block h.next;
  last = ap (λ n. alone (tree i p (form.use_of n))) h.next;
  next = ap (λ n. n + 1) h.next;
}

pick : (c : Bool) (i : ℕ) (p : Place) (B : Block) (N : Normal) → SameLast B N → Both B (if c then B else made i p B) N (if c then N else with_name i p N)
pick true i p B N h = record { block = from_last B N h; operand = h }
pick false i p B N h = record { block = from_last B N h; operand = name_same i p B N (from_last B N h) }

bound_same : (i : ℕ) (p : Place) (B : Block) (N : Normal) → SameBlock B N → Both B (made i p B) N (with_name i p N)
bound_same i p B N h = record { block = h; operand = name_same i p B N h }

either_same : (c : Bool) (i : ℕ) (p : Place) (X Y : Block) (N M : Normal) → (c ≡ true → SameLast X N) → SameLast Y M
    → Both (if c then X else Y) (if c then (if c then X else Y) else made i p (if c then X else Y)) (if c then N else M) (if c then (if c then N else M) else with_name i p (if c then N else M))
either_same true i p X Y N M h l = record { block = from_last X N (h refl); operand = h refl }
either_same false i p X Y N M h l = bound_same i p Y M (from_last Y M l)

-- the trees of equal blocks, and of atoms
tree_same : (B : Block) (N : Normal) → SameBlock B N → flattened (closed B) ≡ tree_of N
tree_same B N h = ap as_tree h.block

atom_same : (B : Block) (N : Normal) → SameLast B N → flattened B.last ≡ N.last
atom_same B N h = ap as_tree h.last

under_same : (q : Pattern) (k j : ℕ) (B : Block) (N : Normal) → k ≡ j → SameBlock B N → flat (under k q (closed B)) ≡ the_block (body_under j q N).lets (body_under j q N).last
under_same (pattern p any) k j B N e h = h.block
under_same (pattern p nothing) k j B N e h = h.block
under_same (pattern p (bind x)) k j B N e h = h.block
under_same (pattern p (tuple_of qs)) k j B N e h = ap₂ (λ n t. alone (matched n (pattern p (tuple_of qs)) p t)) e (tree_same B N h)
under_same (pattern p (build_of c m qs)) k j B N e h = ap₂ (λ n t. alone (matched n (pattern p (build_of c m qs)) p t)) e (tree_same B N h)

listed_same : (xs : Trees) (i : ℕ) (p : Place) (k : ℕ) → SameLast (listed i p k xs) (list_of_atoms i p k (flat_all xs))
listed_same no_trees i p k = record { lets = refl; last = refl; next = refl }
listed_same (more_trees x xs) i p k =
    let L = listed i p k xs in
    let M = list_of_atoms i p k (flat_all xs) in
    let h = name_same i p L M (from_last L M (listed_same xs i p k)) in
    record { lets = h.lets; last = ap (λ t. alone (tree i p (form.build 8 Apart (more_trees (flattened x) (more_trees t no_trees))))) (atom_same (made i p L) (with_name i p M) h); next = h.next }

scrutinee_same : (t : Tree) (k : ℕ) → Both (block k t) (operand t (block k t)) (normal k t) (as_operand t (normal k t)) → SameLast (scrutinee t (block k t)) (as_scrutinee t (normal k t))
scrutinee_same (tree i p (form.use_of x)) k h = h.operand
scrutinee_same (tree i p f) k h = name_same i p (block k (tree i p f)) (normal k (tree i p f)) h.block

-- what is pure has no let
mutual
  pure_flat : (t : Tree) → is_pure t ≡ true → flat t ≡ alone t
  pure_flat (tree i p f) is = pure_form_flat f i p is

  pure_form_flat : (f : Form) (i : ℕ) (p : Place) → is_pure_form f ≡ true → flat_form i p f ≡ alone (tree i p f)
  pure_form_flat (form.whole n) i p is = refl
  pure_form_flat (form.flag b) i p is = refl
  pure_form_flat form.unit i p is = refl
  pure_form_flat (form.use_of x) i p is = refl
  pure_form_flat (form.negated e) i p is = ap (λ t. alone (tree i p (form.negated t))) (ap as_tree (pure_flat e is))
  pure_form_flat (form.not_of e) i p is = ap (λ t. alone (tree i p (form.not_of t))) (ap as_tree (pure_flat e is))
  pure_form_flat (form.length_of e) i p is = ap (λ t. alone (tree i p (form.length_of t))) (ap as_tree (pure_flat e is))
  pure_form_flat (form.arithmetic o a b) i p is =
      let h = both_true (is_pure_operator o) (is_pure a && is_pure b) is in let l = both_true (is_pure a) (is_pure b) h.1 in
      ap₂ (λ x y. alone (tree i p (form.arithmetic o x y))) (ap as_tree (pure_flat a l.0)) (ap as_tree (pure_flat b l.1))
  pure_form_flat (form.compare o a b) i p is =
      let l = both_true (is_pure a) (is_pure b) is in ap₂ (λ x y. alone (tree i p (form.compare o x y))) (ap as_tree (pure_flat a l.0)) (ap as_tree (pure_flat b l.1))
  pure_form_flat (form.and_of a b) i p is =
      let l = both_true (is_pure a) (is_pure b) is in ap₂ (λ x y. alone (tree i p (form.and_of x y))) (ap as_tree (pure_flat a l.0)) (ap as_tree (pure_flat b l.1))
  pure_form_flat (form.or_of a b) i p is =
      let l = both_true (is_pure a) (is_pure b) is in ap₂ (λ x y. alone (tree i p (form.or_of x y))) (ap as_tree (pure_flat a l.0)) (ap as_tree (pure_flat b l.1))
  pure_form_flat _ i p is = cc

mutual
  all_same : (t : Tree) (k : ℕ) → Both (block k t) (operand t (block k t)) (normal k t) (as_operand t (normal k t))
  all_same (tree i p f) k = form_same f i p k

  form_same : (f : Form) (i : ℕ) (p : Place) (k : ℕ) → Both (block_of k i p f) (operand (tree i p f) (block_of k i p f)) (normal_of k i p f) (as_operand (tree i p f) (normal_of k i p f))
  form_same (form.whole n) i p k = pick true i p (plain k (tree i p (form.whole n))) (only k (tree i p (form.whole n))) (record { lets = refl; last = refl; next = refl })
  form_same (form.flag b) i p k = pick true i p (plain k (tree i p (form.flag b))) (only k (tree i p (form.flag b))) (record { lets = refl; last = refl; next = refl })
  form_same form.unit i p k = pick true i p (plain k (tree i p form.unit)) (only k (tree i p form.unit)) (record { lets = refl; last = refl; next = refl })
  form_same (form.use_of x) i p k = pick true i p (plain k (tree i p (form.use_of x))) (only k (tree i p (form.use_of x))) (record { lets = refl; last = refl; next = refl })
  form_same (form.qualified m x) i p k = pick false i p (plain k (tree i p (form.qualified m x))) (only k (tree i p (form.qualified m x))) (record { lets = refl; last = refl; next = refl })
  form_same form.map_empty i p k = pick false i p (plain k (tree i p form.map_empty)) (only k (tree i p form.map_empty)) (record { lets = refl; last = refl; next = refl })
  form_same (form.map_add x y z) i p k = pick false i p (plain k (tree i p (form.map_add x y z))) (only k (tree i p (form.map_add x y z))) (record { lets = refl; last = refl; next = refl })
  form_same (form.map_find x y) i p k = pick false i p (plain k (tree i p (form.map_find x y))) (only k (tree i p (form.map_find x y))) (record { lets = refl; last = refl; next = refl })
  form_same form.assert_false i p k = pick false i p (plain k (tree i p form.assert_false)) (only k (tree i p form.assert_false)) (record { lets = refl; last = refl; next = refl })
  form_same (form.chain no_trees) i p k = pick false i p (plain k (tree i p (form.chain no_trees))) (only k (tree i p (form.chain no_trees))) (record { lets = refl; last = refl; next = refl })
  form_same (form.negated e) i p k =
      let F = operand e (block k e) in let M = as_operand e (normal k e) in
      let h = (all_same e k).operand in
      pick true i p (record { bindings = F.bindings; last = tree i p (form.negated F.last); next = F.next }) (record { lets = M.lets; last = tree i p (form.negated M.last); next = M.next })
      (record { lets = h.lets; last = ap (λ t. alone (tree i p (form.negated t))) (atom_same F M h); next = h.next })
  form_same (form.not_of e) i p k =
      let F = operand e (block k e) in let M = as_operand e (normal k e) in
      let h = (all_same e k).operand in
      pick true i p (record { bindings = F.bindings; last = tree i p (form.not_of F.last); next = F.next }) (record { lets = M.lets; last = tree i p (form.not_of M.last); next = M.next })
      (record { lets = h.lets; last = ap (λ t. alone (tree i p (form.not_of t))) (atom_same F M h); next = h.next })
  form_same (form.length_of e) i p k =
      let F = operand e (block k e) in let M = as_operand e (normal k e) in
      let h = (all_same e k).operand in
      pick true i p (record { bindings = F.bindings; last = tree i p (form.length_of F.last); next = F.next }) (record { lets = M.lets; last = tree i p (form.length_of M.last); next = M.next })
      (record { lets = h.lets; last = ap (λ t. alone (tree i p (form.length_of t))) (atom_same F M h); next = h.next })
  form_same (form.assert e) i p k =
      let F = operand e (block k e) in let M = as_operand e (normal k e) in
      let h = (all_same e k).operand in
      pick false i p (record { bindings = F.bindings; last = tree i p (form.assert F.last); next = F.next }) (record { lets = M.lets; last = tree i p (form.assert M.last); next = M.next })
      (record { lets = h.lets; last = ap (λ t. alone (tree i p (form.assert t))) (atom_same F M h); next = h.next })
  form_same (form.print e) i p k =
      let F = operand e (block k e) in let M = as_operand e (normal k e) in
      let h = (all_same e k).operand in
      pick false i p (record { bindings = F.bindings; last = tree i p (form.print F.last); next = F.next }) (record { lets = M.lets; last = tree i p (form.print M.last); next = M.next })
      (record { lets = h.lets; last = ap (λ t. alone (tree i p (form.print t))) (atom_same F M h); next = h.next })
  form_same (form.read e) i p k =
      let F = operand e (block k e) in let M = as_operand e (normal k e) in
      let h = (all_same e k).operand in
      pick false i p (record { bindings = F.bindings; last = tree i p (form.read F.last); next = F.next }) (record { lets = M.lets; last = tree i p (form.read M.last); next = M.next })
      (record { lets = h.lets; last = ap (λ t. alone (tree i p (form.read t))) (atom_same F M h); next = h.next })
  form_same (form.call a b) i p k =
      let F = operand a (block k a) in let M = as_operand a (normal k a) in
      let h = (all_same a k).operand in
      let G = operand b (block F.next b) in let N = as_operand b (normal M.next b) in
      let l = subst (λ n. SameLast G (as_operand b (normal n b))) h.next (all_same b F.next).operand in
      pick false i p (record { bindings = F.bindings ++ G.bindings; last = tree i p (form.call F.last G.last); next = G.next }) (record { lets = M.lets ++ N.lets; last = tree i p (form.call M.last N.last); next = N.next })
      (record { lets = bindings_append F.bindings G.bindings ∙ ap₂ (λ x y. x ++ y) h.lets l.lets; last = ap₂ (λ x y. alone (tree i p (form.call x y))) (atom_same F M h) (atom_same G N l); next = l.next })
  form_same (form.arithmetic o a b) i p k =
      let F = operand a (block k a) in let M = as_operand a (normal k a) in
      let h = (all_same a k).operand in
      let G = operand b (block F.next b) in let N = as_operand b (normal M.next b) in
      let l = subst (λ n. SameLast G (as_operand b (normal n b))) h.next (all_same b F.next).operand in
      pick (is_pure_operator o) i p (record { bindings = F.bindings ++ G.bindings; last = tree i p (form.arithmetic o F.last G.last); next = G.next }) (record { lets = M.lets ++ N.lets; last = tree i p (form.arithmetic o M.last N.last); next = N.next })
      (record { lets = bindings_append F.bindings G.bindings ∙ ap₂ (λ x y. x ++ y) h.lets l.lets; last = ap₂ (λ x y. alone (tree i p (form.arithmetic o x y))) (atom_same F M h) (atom_same G N l); next = l.next })
  form_same (form.compare o a b) i p k =
      let F = operand a (block k a) in let M = as_operand a (normal k a) in
      let h = (all_same a k).operand in
      let G = operand b (block F.next b) in let N = as_operand b (normal M.next b) in
      let l = subst (λ n. SameLast G (as_operand b (normal n b))) h.next (all_same b F.next).operand in
      pick true i p (record { bindings = F.bindings ++ G.bindings; last = tree i p (form.compare o F.last G.last); next = G.next }) (record { lets = M.lets ++ N.lets; last = tree i p (form.compare o M.last N.last); next = N.next })
      (record { lets = bindings_append F.bindings G.bindings ∙ ap₂ (λ x y. x ++ y) h.lets l.lets; last = ap₂ (λ x y. alone (tree i p (form.compare o x y))) (atom_same F M h) (atom_same G N l); next = l.next })
  form_same (form.make a b) i p k =
      let F = operand a (block k a) in let M = as_operand a (normal k a) in
      let h = (all_same a k).operand in
      let G = operand b (block F.next b) in let N = as_operand b (normal M.next b) in
      let l = subst (λ n. SameLast G (as_operand b (normal n b))) h.next (all_same b F.next).operand in
      pick false i p (record { bindings = F.bindings ++ G.bindings; last = tree i p (form.make F.last G.last); next = G.next }) (record { lets = M.lets ++ N.lets; last = tree i p (form.make M.last N.last); next = N.next })
      (record { lets = bindings_append F.bindings G.bindings ∙ ap₂ (λ x y. x ++ y) h.lets l.lets; last = ap₂ (λ x y. alone (tree i p (form.make x y))) (atom_same F M h) (atom_same G N l); next = l.next })
  form_same (form.fetch a b) i p k =
      let F = operand a (block k a) in let M = as_operand a (normal k a) in
      let h = (all_same a k).operand in
      let G = operand b (block F.next b) in let N = as_operand b (normal M.next b) in
      let l = subst (λ n. SameLast G (as_operand b (normal n b))) h.next (all_same b F.next).operand in
      pick false i p (record { bindings = F.bindings ++ G.bindings; last = tree i p (form.fetch F.last G.last); next = G.next }) (record { lets = M.lets ++ N.lets; last = tree i p (form.fetch M.last N.last); next = N.next })
      (record { lets = bindings_append F.bindings G.bindings ∙ ap₂ (λ x y. x ++ y) h.lets l.lets; last = ap₂ (λ x y. alone (tree i p (form.fetch x y))) (atom_same F M h) (atom_same G N l); next = l.next })
  form_same (form.and_of a b) i p k =
      let F = operand a (block k a) in let M = as_operand a (normal k a) in
      let h = (all_same a k).operand in
      let G = block F.next b in let N = normal M.next b in
      let l = subst (λ n. SameBlock G (normal n b)) h.next (all_same b F.next).block in
      let c = tree i p (form.flag false) in
      either_same (is_pure a && is_pure b) i p (plain k (tree i p (form.and_of a b))) (record { bindings = F.bindings; last = tree i p (form.if_else F.last (closed G) c); next = G.next })
      (only k (tree i p (form.and_of a b))) (record { lets = M.lets; last = tree i p (form.if_else M.last (tree_of N) c); next = N.next })
      (λ is. record { lets = refl; last = pure_flat (tree i p (form.and_of a b)) is; next = refl }) (record { lets = h.lets; last = ap₂ (λ t u. alone (tree i p (form.if_else t u c))) (atom_same F M h) (tree_same G N l); next = l.next })
  form_same (form.or_of a b) i p k =
      let F = operand a (block k a) in let M = as_operand a (normal k a) in
      let h = (all_same a k).operand in
      let G = block F.next b in let N = normal M.next b in
      let l = subst (λ n. SameBlock G (normal n b)) h.next (all_same b F.next).block in
      let c = tree i p (form.flag true) in
      either_same (is_pure a && is_pure b) i p (plain k (tree i p (form.or_of a b))) (record { bindings = F.bindings; last = tree i p (form.if_else F.last c (closed G)); next = G.next })
      (only k (tree i p (form.or_of a b))) (record { lets = M.lets; last = tree i p (form.if_else M.last c (tree_of N)); next = N.next })
      (λ is. record { lets = refl; last = pure_flat (tree i p (form.or_of a b)) is; next = refl }) (record { lets = h.lets; last = ap₂ (λ t u. alone (tree i p (form.if_else t c u))) (atom_same F M h) (tree_same G N l); next = l.next })
  form_same (form.tuple es) i p k =
      let Q = operands k es in let N = all_operands k es in
      let h = operands_same es k in
      pick false i p (record { bindings = Q.bindings; last = tree i p (form.tuple Q.atoms); next = Q.next }) (record { lets = N.lets; last = tree i p (form.tuple N.atoms); next = N.next })
      (record { lets = h.lets; last = ap (λ ts. alone (tree i p (form.tuple ts))) h.atoms; next = h.next })
  form_same (form.build c w es) i p k =
      let Q = operands k es in let N = all_operands k es in
      let h = operands_same es k in
      pick false i p (record { bindings = Q.bindings; last = tree i p (form.build c w Q.atoms); next = Q.next }) (record { lets = N.lets; last = tree i p (form.build c w N.atoms); next = N.next })
      (record { lets = h.lets; last = ap (λ ts. alone (tree i p (form.build c w ts))) h.atoms; next = h.next })
  form_same (form.list_of es) i p k =
      let Q = items k es in let N = all_items k es in
      let h = items_same es k in
      let L = listed i p Q.next Q.atoms in
      let M = list_of_atoms i p N.next N.atoms in
      let l = subst (λ n. SameLast L (list_of_atoms i p n N.atoms)) h.next (subst (λ ts. SameLast L (list_of_atoms i p Q.next ts)) h.atoms (listed_same Q.atoms i p Q.next)) in
      pick false i p (record { bindings = Q.bindings ++ L.bindings; last = L.last; next = L.next }) (record { lets = N.lets ++ M.lets; last = M.last; next = M.next })
      (record { lets = bindings_append Q.bindings L.bindings ∙ ap₂ (λ x y. x ++ y) h.lets l.lets; last = l.last; next = l.next })
  form_same (form.store a b c) i p k =
      let F = operand a (block k a) in let M = as_operand a (normal k a) in
      let h = (all_same a k).operand in
      let G = operand b (block F.next b) in let N = as_operand b (normal M.next b) in
      let l = subst (λ n. SameLast G (as_operand b (normal n b))) h.next (all_same b F.next).operand in
      let H = operand c (block G.next c) in let O = as_operand c (normal N.next c) in
      let m = subst (λ n. SameLast H (as_operand c (normal n c))) l.next (all_same c G.next).operand in
      pick false i p (record { bindings = F.bindings ++ (G.bindings ++ H.bindings); last = tree i p (form.store F.last G.last H.last); next = H.next })
      (record { lets = M.lets ++ (N.lets ++ O.lets); last = tree i p (form.store M.last N.last O.last); next = O.next })
      (record {
        lets = bindings_append F.bindings (G.bindings ++ H.bindings) ∙ ap₂ (λ x y. x ++ y) h.lets (bindings_append G.bindings H.bindings ∙ ap₂ (λ x y. x ++ y) l.lets m.lets);
        last = ap₂ (λ x y. alone (tree i p (form.store x y (flattened H.last)))) (atom_same F M h) (atom_same G N l) ∙ ap (λ z. alone (tree i p (form.store M.last N.last z))) (atom_same H O m);
        next = m.next;
      })
  form_same (form.if_else c a b) i p k =
      let F = operand c (block k c) in let M = as_operand c (normal k c) in
      let h = (all_same c k).operand in
      let G = block F.next a in let N = normal M.next a in
      let l = subst (λ n. SameBlock G (normal n a)) h.next (all_same a F.next).block in
      let H = block G.next b in let O = normal N.next b in
      let m = subst (λ n. SameBlock H (normal n b)) l.next (all_same b G.next).block in
      pick false i p (record { bindings = F.bindings; last = tree i p (form.if_else F.last (closed G) (closed H)); next = H.next }) (record { lets = M.lets; last = tree i p (form.if_else M.last (tree_of N) (tree_of O)); next = O.next })
      (record {
        lets = h.lets;
        last = ap₂ (λ x y. alone (tree i p (form.if_else x y (flattened (closed H))))) (atom_same F M h) (tree_same G N l) ∙ ap (λ z. alone (tree i p (form.if_else M.last (tree_of N) z))) (tree_same H O m);
        next = m.next;
      })
  form_same (form.match_on e cs) i p k =
      let F = scrutinee e (block k e) in let M = as_scrutinee e (normal k e) in
      let h = scrutinee_same e k (all_same e k) in
      let C = cases F.next cs in let N = normal_cases M.next cs in
      let l = subst (λ n. SameCases C (normal_cases n cs)) h.next (cases_same cs F.next) in
      pick false i p (record { bindings = F.bindings; last = tree i p (form.match_on F.last C.cases); next = C.next }) (record { lets = M.lets; last = tree i p (form.match_on M.last N.cases); next = N.next })
      (record { lets = h.lets; last = ap₂ (λ x y. alone (tree i p (form.match_on x y))) (atom_same F M h) l.cases; next = l.next })
  form_same (form.fun q b) i p k =
      let B = block (behind k q) b in let N = normal (behind k q) b in
      let h = (all_same b (behind k q)).block in
      pick false i p (plain B.next (tree i p (form.fun (parameter k q) (under k q (closed B))))) (only N.next (tree i p (form.fun (parameter k q) (tree_of (body_under k q N)))))
      (record { lets = refl; last = ap (λ (F : FlatBlock). alone (tree i p (form.fun (parameter k q) (as_tree F)))) (under_same q k k B N refl h); next = h.next })
  form_same (form.let_in q e b) i p k =
      let E = block k e in let M = normal k e in
      let h = (all_same e k).block in
      let B = block (behind E.next q) b in let N = normal (behind M.next q) b in
      let l = subst (λ n. SameBlock B (normal (behind n q) b)) h.next (all_same b (behind E.next q)).block in
      let U = body_under M.next q N in
      let one = λ (n : ℕ) (X Y : FlatBlock). the_block (X.lets ++ let_one i p (parameter n q) X.last ∷ Y.lets) Y.last in
      bound_same i p (block_of k i p (form.let_in q e b)) (normal_of k i p (form.let_in q e b)) (record {
        block = ap (λ n. one n (flat (closed E)) (flat (under E.next q (closed B)))) h.next
            ∙ ap₂ (λ X Y. one M.next X Y) h.block (under_same q E.next M.next B N h.next l);
        next = l.next;
      })
  form_same (form.let_rec f j n q b e) i p k =
      let B = block (behind k q) b in let N = normal (behind k q) b in
      let h = (all_same b (behind k q)).block in
      let E = block B.next e in let M = normal N.next e in
      let l = subst (λ n. SameBlock E (normal n e)) h.next (all_same e B.next).block in
      bound_same i p (block_of k i p (form.let_rec f j n q b e)) (normal_of k i p (form.let_rec f j n q b e)) (record {
        block = ap₂ (λ (X Y : FlatBlock). the_block (let_function i p f j n (parameter k q) (as_tree X) ∷ Y.lets) Y.last) (under_same q k k B N refl h) l.block;
        next = l.next;
      })
  form_same (form.chain (more_trees e es)) i p k =
      bound_same i p (chained i p (block k e) es) (rest_of_chain i p (normal k e) es) (chain_same es i p (block k e) (normal k e) (all_same e k).block)

  operands_same : (es : Trees) (k : ℕ) → SameRow (operands k es) (all_operands k es)
  operands_same no_trees k = record { lets = refl; atoms = refl; next = refl }
  operands_same (more_trees e es) k =
      let F = operand e (block k e) in let M = as_operand e (normal k e) in
      let h = (all_same e k).operand in
      let l = subst (λ n. SameRow (operands F.next es) (all_operands n es)) h.next (operands_same es F.next) in
      record { lets = bindings_append F.bindings (operands F.next es).bindings ∙ ap₂ (λ x y. x ++ y) h.lets l.lets; atoms = ap₂ more_trees (atom_same F M h) l.atoms; next = l.next }

  items_same : (es : Trees) (k : ℕ) → SameRow (items k es) (all_items k es)
  items_same no_trees k = record { lets = refl; atoms = refl; next = refl }
  items_same (more_trees e es) k =
      let F = made (id_of e) (place_of e) (block k e) in let M = with_name (id_of e) (place_of e) (normal k e) in
      let h = name_same (id_of e) (place_of e) (block k e) (normal k e) (all_same e k).block in
      let l = subst (λ n. SameRow (items F.next es) (all_items n es)) h.next (items_same es F.next) in
      record { lets = bindings_append F.bindings (items F.next es).bindings ∙ ap₂ (λ x y. x ++ y) h.lets l.lets; atoms = ap₂ more_trees (atom_same F M h) l.atoms; next = l.next }

  chain_same : (es : Trees) (i : ℕ) (p : Place) (E : Block) (M : Normal) → SameBlock E M → SameBlock (chained i p E es) (rest_of_chain i p M es)
  chain_same no_trees i p E M h = h
  chain_same (more_trees e es) i p E M h =
      let l = subst (λ n. SameBlock (block (E.next + 1) e) (normal (n + 1) e)) h.next (all_same e (E.next + 1)).block in
      let m = chain_same es i p (block (E.next + 1) e) (normal (M.next + 1) e) l in
      let R = chained i p (block (E.next + 1) e) es in
      let one = λ (n : ℕ) (X Y : FlatBlock). the_block (X.lets ++ let_one i p (pattern p (bind n)) X.last ∷ Y.lets) Y.last in
      record { block = ap (λ n. one n (flat (closed E)) (flat (closed R))) h.next ∙ ap₂ (λ X Y. one M.next X Y) h.block m.block; next = m.next }

  cases_same : (cs : Cases) (k : ℕ) → SameCases (cases k cs) (normal_cases k cs)
  cases_same no_cases k = record { cases = refl; next = refl }
  cases_same (more_cases q b cs) k =
      let Q = named_pattern k q in
      let B = block Q.next b in let N = normal Q.next b in
      let h = (all_same b Q.next).block in
      let l = subst (λ n. SameCases (cases B.next cs) (normal_cases n cs)) h.next (cases_same cs B.next) in
      record { cases = ap₂ (λ t ds. more_cases Q.pattern t ds) (tree_same B N h) l.cases; next = l.next }

pub one_pass : OnePassIsBoth
one_pass k t = sym (tree_same (block k t) (normal k t) (all_same t k).block)
