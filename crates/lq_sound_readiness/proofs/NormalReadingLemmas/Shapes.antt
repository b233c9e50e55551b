-- Each part of a program that suits becomes what can be read.
use Rattle.std.proofs.Common.{◌≡◌, ◌∙◌, ℕ, ◌+◌, Bool, true, false, ◌&&◌, if◌then◌else◌, List, ◌∷◌, ◌++◌, refl, sym, subst}
use Rattle.std.proofs.lemmas.Bool.{and_parts}
use Rattle.lq_base_names.specs.declared.operation.ArithOp.{ArithOp}
use Rattle.lq_base_names.specs.declared.operation.ArithOp.TheVariants as op
use Rattle.lq_base_names.specs.declared.place.Place.{Place}
use Rattle.lq_text_tree.specs.Tree as form
use Rattle.lq_text_tree.specs.Tree.{Tree, tree, Form, Trees, no_trees, more_trees, Cases, no_cases, more_cases}
use Rattle.lq_text_walk.specs.Walk.Fold.{fold_all, fold_cases}
use Rattle.lq_meaning_normal_form.specs.Outcomes.Flattening.{Let, let_one}
use Rattle.lq_meaning_normal_form.specs.Outcomes.Naming as naming
use Rattle.lq_meaning_normal_form.specs.Outcomes.Naming.{is_pure_form, is_pure_operator, stands, id_of, place_of, parameter, behind, named_pattern}
use Rattle.lq_meaning_normal_form.specs.Outcomes.OnePass.{Normal, NormalRow, tree_of, with_name, as_operand, as_scrutinee, list_of_atoms, normal, normal_of, all_operands, all_items, rest_of_chain, normal_cases}
use Rattle.lq_meaning_normal_form.specs.Types.Written.{Each}
use Rattle.lq_sound_readiness.specs.Reading.Normal.{IsRing, ring_add, ring_subtract, ring_multiply, IsPure, pure_whole, pure_flag, pure_unit, pure_use, pure_arithmetic, pure_negated, pure_compare, pure_not, pure_and, pure_or, pure_length, ArePure, no_pure, more_pure, is_use, IsBlock, block_operation, IsOperation, is_pure, is_fun, is_if, is_match, is_tuple, is_build, is_call, is_quotient, is_remainder, is_assert, is_assert_false, is_make, is_fetch, is_store, is_print, is_read, AreArms, no_arms, more_arms, is_name}
use Rattle.lq_sound_readiness.specs.NormalReading.Suits.{EachArmSuits, Suits, being_suited}
use Rattle.lq_sound_readiness.proofs.NormalReadingLemmas.Lets.{AreLets, IsNormal, IsOperand, IsScrutinee, arm_is, block_is, item_is, lets_both, operand_is, parameter_is, scrutinee_is, under_same}

-- ---- what is pure as it is written

ring_by : (o : ArithOp) → is_pure_operator o ≡ true → IsRing o
ring_by op.Add h = ring_add
ring_by op.Sub h = ring_subtract
ring_by op.Mul h = ring_multiply
ring_by op.Div h = cc
ring_by op.Mod h = cc

mutual
  pure_by : (t : Tree) → naming.is_pure t ≡ true → IsPure t
  pure_by (tree i l f) h = pure_form_by i l f h

  pure_form_by : (i : ℕ) (l : Place) (f : Form) → is_pure_form f ≡ true → IsPure (tree i l f)
  pure_form_by i l (form.whole m) h = pure_whole
  pure_form_by i l (form.flag b) h = pure_flag
  pure_form_by i l form.unit h = pure_unit
  pure_form_by i l (form.use_of x) h = pure_use
  pure_form_by i l (form.arithmetic o a b) h =
      let both = and_parts (is_pure_operator o) (naming.is_pure a && naming.is_pure b) h in
      let parts = and_parts (naming.is_pure a) (naming.is_pure b) both.1 in pure_arithmetic (ring_by o both.0) (pure_by a parts.0) (pure_by b parts.1)
  pure_form_by i l (form.negated a) h = pure_negated (pure_by a h)
  pure_form_by i l (form.compare o a b) h = let parts = and_parts (naming.is_pure a) (naming.is_pure b) h in pure_compare (pure_by a parts.0) (pure_by b parts.1)
  pure_form_by i l (form.not_of a) h = pure_not (pure_by a h)
  pure_form_by i l (form.and_of a b) h = let parts = and_parts (naming.is_pure a) (naming.is_pure b) h in pure_and (pure_by a parts.0) (pure_by b parts.1)
  pure_form_by i l (form.or_of a b) h = let parts = and_parts (naming.is_pure a) (naming.is_pure b) h in pure_or (pure_by a parts.0) (pure_by b parts.1)
  pure_form_by i l (form.length_of a) h = pure_length (pure_by a h)
  pure_form_by i l (form.qualified m x) h = cc
  pure_form_by i l (form.fun q b) h = cc
  pure_form_by i l (form.tuple es) h = cc
  pure_form_by i l (form.build c w es) h = cc
  pure_form_by i l (form.list_of es) h = cc
  pure_form_by i l (form.let_in q e b) h = cc
  pure_form_by i l (form.let_rec f j m q b e) h = cc
  pure_form_by i l (form.call a b) h = cc
  pure_form_by i l (form.if_else c a b) h = cc
  pure_form_by i l (form.match_on e cs) h = cc
  pure_form_by i l (form.chain es) h = cc
  pure_form_by i l (form.assert e) h = cc
  pure_form_by i l form.assert_false h = cc
  pure_form_by i l (form.make a b) h = cc
  pure_form_by i l (form.fetch a b) h = cc
  pure_form_by i l (form.store a b c) h = cc
  pure_form_by i l (form.print e) h = cc
  pure_form_by i l (form.read e) h = cc
  pure_form_by i l form.map_empty h = cc
  pure_form_by i l (form.map_add a b c) h = cc
  pure_form_by i l (form.map_find a b) h = cc

-- ---- what a form becomes

-- a pure expression that isn't a variable, and an operation that isn't pure
not_true : {X : Type 0} → false ≡ true → X
not_true {X} h = absurd (no h)
  where
    no : false ≡ true → ⊥
    no e = cc

-- lets and a last expression that is pure
pure_last : (t : Tree) (N : Normal) → naming.is_use t ≡ false → AreLets N.lets → IsPure N.last → IsNormal t N
pure_last t N u h o = record { lets = h; last = is_pure o; pure = λ e. o; used = λ e. not_true (sym u ∙ e) }

-- one that is no variable, and that doesn't stand as it is
operation_last : (t : Tree) (N : Normal) → stands t ≡ false → naming.is_use t ≡ false → AreLets N.lets → IsOperation N.last → IsNormal t N
operation_last t N s u h o = record { lets = h; last = o; pure = λ e. not_true (sym s ∙ e); used = λ e. not_true (sym u ∙ e) }

-- sums, products, quotients and remainders
arithmetic_last : (i : ℕ) (l : Place) (o : ArithOp) (a b : Tree) (ls : List Let) (k : ℕ) (x y : Tree) → AreLets ls → IsPure x → IsPure y
    → IsNormal (tree i l (form.arithmetic o a b)) (record { lets = ls; last = tree i l (form.arithmetic o x y); next = k })
arithmetic_last i l op.Add a b ls k x y h d e = pure_last _ _ refl h (pure_arithmetic ring_add d e)
arithmetic_last i l op.Sub a b ls k x y h d e = pure_last _ _ refl h (pure_arithmetic ring_subtract d e)
arithmetic_last i l op.Mul a b ls k x y h d e = pure_last _ _ refl h (pure_arithmetic ring_multiply d e)
arithmetic_last i l op.Div a b ls k x y h d e = operation_last _ _ refl refl h (is_quotient d e)
arithmetic_last i l op.Mod a b ls k x y h d e = operation_last _ _ refl refl h (is_remainder d e)

-- operands in a row
record AreOperands (Q : NormalRow) : Type 0 where
  lets : AreLets Q.lets
  pure : ArePure Q.atoms

-- the cells of a list literal
record AreCells (N : Normal) : Type 0 where
  lets : AreLets N.lets
  last : IsOperation N.last

cells_are : (i : ℕ) (l : Place) (k : ℕ) (xs : Trees) → ArePure xs → AreCells (list_of_atoms i l k xs)
cells_are i l k no_trees no_pure = record { lets = tt; last = is_build no_pure }
cells_are i l k (more_trees x xs) (more_pure h hs) =
    let L : AreCells (list_of_atoms i l k xs) = cells_are i l k xs hs in
    record {
      lets = lets_both (list_of_atoms i l k xs).lets _ L.lets (is_name, L.last, tt);
      last = is_build (more_pure h (more_pure pure_use no_pure));
    }

either : (t : Tree) (c : Bool) (N M : Normal) → (c ≡ true → IsNormal t N) → (c ≡ false → IsNormal t M) → IsNormal t (if c then N else M)
either t true N M first second = first refl
either t false N M first second = second refl

mutual
  pub tree_is : (k : ℕ) (t : Tree) → Suits t → IsNormal t (normal k t)
  tree_is k (tree i l f) h = form_is k i l f h

  operand : (k : ℕ) (t : Tree) → Suits t → IsOperand t (as_operand t (normal k t))
  operand k (tree i l f) h = operand_is (tree i l f) (normal_of k i l f) (form_is k i l f h)

  form_is : (k i : ℕ) (l : Place) (f : Form) → Suits (tree i l f) → IsNormal (tree i l f) (normal_of k i l f)
  form_is k i l (form.whole m) h = pure_last _ _ refl tt pure_whole
  form_is k i l (form.flag b) h = pure_last _ _ refl tt pure_flag
  form_is k i l form.unit h = pure_last _ _ refl tt pure_unit
  form_is k i l (form.use_of x) h = record { lets = tt; last = is_pure pure_use; pure = λ e. pure_use; used = λ e. is_use }
  form_is k i l (form.qualified m x) h = elim h [ ]
  form_is k i l (form.fun q b) h =
      let B = normal (behind k q) b in
      let B' : IsNormal b B = tree_is (behind k q) b h.1 in
      operation_last _ _ refl refl tt (is_fun (parameter_is k q) (subst (λ (N : Normal). IsBlock (tree_of N)) (sym (under_same q k B h.0)) (block_is b B B')))
  form_is k i l (form.tuple es) h = let Q : AreOperands (all_operands k es) = operands k es h.1 in operation_last _ _ refl refl Q.lets (is_tuple Q.pure)
  form_is k i l (form.build c w es) h = let Q : AreOperands (all_operands k es) = operands k es h.1 in operation_last _ _ refl refl Q.lets (is_build Q.pure)
  form_is k i l (form.list_of es) h =
      let Q : AreOperands (all_items k es) = items k es h.1 in
      let L : AreCells (list_of_atoms i l (all_items k es).next (all_items k es).atoms) = cells_are i l (all_items k es).next (all_items k es).atoms Q.pure in
      operation_last _ _ refl refl (lets_both (all_items k es).lets _ Q.lets L.lets) L.last
  form_is k i l (form.let_in q e b) h =
      let E = normal k e in
      let B = normal (behind E.next q) b in
      let E' : IsNormal e E = tree_is k e h.1 in
      let B' : IsNormal b B = tree_is (behind E.next q) b h.2 in
      subst (λ (U : Normal). IsNormal (tree i l (form.let_in q e b)) (record { lets = E.lets ++ let_one i l (parameter E.next q) E.last ∷ U.lets; last = U.last; next = B.next }))
      (sym (under_same q E.next B h.0))
      (operation_last _ _ refl refl (lets_both E.lets _ E'.lets (parameter_is E.next q, E'.last, B'.lets)) B'.last)
  form_is k i l (form.let_rec f j m q b e) h =
      let B = normal (behind k q) b in
      let E = normal B.next e in
      let B' : IsNormal b B = tree_is (behind k q) b h.1 in
      let E' : IsNormal e E = tree_is B.next e h.2 in
      operation_last _ _ refl refl (parameter_is k q, subst (λ (N : Normal). IsBlock (tree_of N)) (sym (under_same q k B h.0)) (block_is b B B'), E'.lets) E'.last
  form_is k i l (form.negated e) h = let E = operand k e h.1 in pure_last _ _ refl E.lets (pure_negated E.pure)
  form_is k i l (form.not_of e) h = let E = operand k e h.1 in pure_last _ _ refl E.lets (pure_not E.pure)
  form_is k i l (form.length_of e) h = let E = operand k e h.1 in pure_last _ _ refl E.lets (pure_length E.pure)
  form_is k i l (form.assert e) h = let E = operand k e h.1 in operation_last _ _ refl refl E.lets (is_assert E.pure)
  form_is k i l (form.print e) h = let E = operand k e h.1 in operation_last _ _ refl refl E.lets (is_print E.pure)
  form_is k i l (form.read e) h = let E = operand k e h.1 in operation_last _ _ refl refl E.lets (is_read E.pure)
  form_is k i l (form.call a b) h =
      let A = as_operand a (normal k a) in
      let A' = operand k a h.1 in let B' = operand A.next b h.2 in
      operation_last _ _ refl refl (lets_both A.lets _ A'.lets B'.lets) (is_call A'.pure B'.pure)
  form_is k i l (form.arithmetic o a b) h =
      let A = as_operand a (normal k a) in
      let A' = operand k a h.1 in let B' = operand A.next b h.2 in
      arithmetic_last i l o a b _ _ _ _ (lets_both A.lets _ A'.lets B'.lets) A'.pure B'.pure
  form_is k i l (form.compare o a b) h =
      let A = as_operand a (normal k a) in
      let A' = operand k a h.1 in let B' = operand A.next b h.2 in
      pure_last _ _ refl (lets_both A.lets _ A'.lets B'.lets) (pure_compare A'.pure B'.pure)
  form_is k i l (form.make a b) h =
      let A = as_operand a (normal k a) in
      let A' = operand k a h.1 in let B' = operand A.next b h.2 in
      operation_last _ _ refl refl (lets_both A.lets _ A'.lets B'.lets) (is_make A'.pure B'.pure)
  form_is k i l (form.fetch a b) h =
      let A = as_operand a (normal k a) in
      let A' = operand k a h.1 in let B' = operand A.next b h.2 in
      operation_last _ _ refl refl (lets_both A.lets _ A'.lets B'.lets) (is_fetch (A'.indexed h.0) B'.pure)
  form_is k i l (form.and_of a b) h =
      let A = as_operand a (normal k a) in let B = normal A.next b in
      let A' = operand k a h.1 in let B' : IsNormal b B = tree_is A.next b h.2 in
      either (tree i l (form.and_of a b)) (naming.is_pure a && naming.is_pure b) _ _
      (λ e. let both = and_parts (naming.is_pure a) (naming.is_pure b) e in pure_last _ _ refl tt (pure_and (pure_by a both.0) (pure_by b both.1)))
      (λ e. operation_last _ _ (ends e) refl A'.lets (is_if A'.pure (block_is b B B') (block_operation (is_pure pure_flag))))
    where
      ends : (naming.is_pure a && naming.is_pure b) ≡ false → stands (tree i l (form.and_of a b)) ≡ false
      ends e = e
  form_is k i l (form.or_of a b) h =
      let A = as_operand a (normal k a) in let B = normal A.next b in
      let A' = operand k a h.1 in let B' : IsNormal b B = tree_is A.next b h.2 in
      either (tree i l (form.or_of a b)) (naming.is_pure a && naming.is_pure b) _ _
      (λ e. let both = and_parts (naming.is_pure a) (naming.is_pure b) e in pure_last _ _ refl tt (pure_or (pure_by a both.0) (pure_by b both.1)))
      (λ e. operation_last _ _ (ends e) refl A'.lets (is_if A'.pure (block_operation (is_pure pure_flag)) (block_is b B B')))
    where
      ends : (naming.is_pure a && naming.is_pure b) ≡ false → stands (tree i l (form.or_of a b)) ≡ false
      ends e = e
  form_is k i l (form.store a n e) h =
      let A = as_operand a (normal k a) in let N = as_operand n (normal A.next n) in
      let A' = operand k a h.1 in let N' = operand A.next n h.2 in let E' = operand N.next e h.3 in
      operation_last _ _ refl refl (lets_both A.lets _ A'.lets (lets_both N.lets _ N'.lets E'.lets)) (is_store (A'.indexed h.0) N'.pure E'.pure)
  form_is k i l (form.if_else c a b) h =
      let C = as_operand c (normal k c) in let A = normal C.next a in let B = normal A.next b in
      let C' = operand k c h.1 in
      let A' : IsNormal a A = tree_is C.next a h.2 in let B' : IsNormal b B = tree_is A.next b h.3 in
      operation_last _ _ refl refl C'.lets (is_if C'.pure (block_is a A A') (block_is b B B'))
  form_is k i l (form.match_on e cs) h =
      let E = as_scrutinee e (normal k e) in
      let E' : IsScrutinee E = scrutinee_is e (normal k e) (tree_is k e h.0) in
      operation_last _ _ refl refl E'.lets (is_match E'.used (arms E.next cs h.1))
  form_is k i l (form.chain no_trees) h = elim h.0 [ ]
  form_is k i l (form.chain (more_trees e es)) h =
      let E = normal k e in
      let C : AreCells (rest_of_chain i l E es) = rest i l e E (tree_is k e h.1.0) es h.1.1 in
      operation_last _ _ refl refl C.lets C.last
  form_is k i l form.assert_false h = operation_last _ _ refl refl tt is_assert_false
  form_is k i l form.map_empty h = elim h [ ]
  form_is k i l (form.map_add a b c) h = elim h.0 [ ]
  form_is k i l (form.map_find a b) h = elim h.0 [ ]

  operands : (k : ℕ) (es : Trees) → Each (fold_all being_suited es) → AreOperands (all_operands k es)
  operands k no_trees h = record { lets = tt; pure = no_pure }
  operands k (more_trees e es) h =
      let E = as_operand e (normal k e) in
      let E' = operand k e h.0 in let Q : AreOperands (all_operands E.next es) = operands E.next es h.1 in
      record { lets = lets_both E.lets _ E'.lets Q.lets; pure = more_pure E'.pure Q.pure }

  items : (k : ℕ) (es : Trees) → Each (fold_all being_suited es) → AreOperands (all_items k es)
  items k no_trees h = record { lets = tt; pure = no_pure }
  items k (more_trees e es) h =
      let E = with_name (id_of e) (place_of e) (normal k e) in
      let E' = item_is (id_of e) (place_of e) e (normal k e) (tree_is k e h.0) in
      let Q : AreOperands (all_items E.next es) = items E.next es h.1 in
      record { lets = lets_both E.lets _ E'.lets Q.lets; pure = more_pure E'.pure Q.pure }

  rest : (i : ℕ) (l : Place) (t : Tree) (E : Normal) → IsNormal t E → (es : Trees) → Each (fold_all being_suited es) → AreCells (rest_of_chain i l E es)
  rest i l t E E' no_trees h = record { lets = E'.lets; last = E'.last }
  rest i l t E E' (more_trees e es) h =
      let R : AreCells (rest_of_chain i l (normal (E.next + 1) e) es) = rest i l e (normal (E.next + 1) e) (tree_is (E.next + 1) e h.0) es h.1 in
      record { lets = lets_both E.lets _ E'.lets (is_name, E'.last, R.lets); last = R.last }

  arms : (k : ℕ) (cs : Cases) → EachArmSuits (fold_cases being_suited cs) → AreArms (normal_cases k cs).cases
  arms k no_cases h = no_arms
  arms k (more_cases q b cs) h =
      let Q = named_pattern k q in let B = normal Q.next b in
      more_arms (arm_is k q h.0) (block_is b B (tree_is Q.next b h.1)) (arms B.next cs h.2)
