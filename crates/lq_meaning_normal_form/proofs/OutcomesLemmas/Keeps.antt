-- Naming keeps what an expression means, where it keeps what calls come to.
use Rattle.std.proofs.Common.{◌≡◌, ℕ, ◌+◌, ◌≤◌, true, false, ◌&&◌, [], ◌∷◌, ◌++◌, refl, sym, subst, ◌∙◌, arith}
use Rattle.lq_base_names.specs.declared.place.Place.{Place}
use Rattle.lq_text_tree.specs.Tree as form
use Rattle.lq_text_tree.specs.Tree.{Tree, tree, Form, Trees, no_trees, more_trees, Cases, no_cases, more_cases}
use Rattle.lq_meaning_steps.specs.Model.Core.{bound_in, store, negate, invert, assert, length_of, print, read, comparison, make, fetch, Row, tuple, build, list_of, Core, Value, v_unit, v_flag, v_rec, Values, Pairs, without, close, row_value}
use Rattle.lq_meaning_steps.specs.Model.Operations.{World, unary_act, binary_act, ternary_act, fits}
use Rattle.lq_meaning_steps.specs.Model.Meaning.{Answer, comes, acts, on_truth, choose, with_parameter, eval, eval_all, eval_arms}
use Rattle.lq_meaning_steps.specs.Model.FromTree.{pattern_of, parameter_of, core_of, core_form, cores_of, rest_of, arms_of}
use Rattle.lq_meaning_normal_form.specs.Outcomes.Naming as naming
use Rattle.lq_meaning_normal_form.specs.Outcomes.Naming.{is_pure, id_of, place_of, Block, wrap, closed, plain, made, operand, scrutinee, over_one, over_two, over_three, listed, list_block, over_row, named_pattern, parameter, behind, under, block, block_of, operands, items, chained, cases}
use Rattle.lq_meaning_normal_form.specs.Outcomes.Alike.{Alike, alike_flag, alike_unit, alike_fun, alike_rec, no_pairs, both_have, one_has, AlikeWorlds, alike_answers}
use Rattle.lq_meaning_normal_form.specs.Outcomes.Named.{from, IsNamed, Avoids, AvoidsForm, AvoidsAll, AvoidsCases}
use Rattle.lq_meaning_normal_form.proofs.OutcomesLemmas.Alikes.{then_alike, truth_alike, choose_alike, unary_alike, binary_alike, ternary_alike, row_alike}
use Rattle.lq_meaning_normal_form.proofs.OutcomesLemmas.Patterns.{is_from, pattern_later, behind_later, pattern_fits, fitting_alike}
use Rattle.lq_meaning_normal_form.proofs.OutcomesLemmas.Running.{A, W, P, R, bind_all, wrapped, appended, NamedKeeps, KeepsOf, made_keeps, bound, standing, RowKeeps, no_row_keeps, more_row_keeps, all_eval}
use Rattle.lq_meaning_normal_form.proofs.OutcomesLemmas.Pure.{negate_gives, invert_gives, length_gives, comparison_gives, pure_at, pure_operand}
use Rattle.lq_meaning_normal_form.proofs.OutcomesLemmas.Parts.{last_keeps, act_one, act_two, act_three, pure_one, pure_two, arithmetic_keeps, either_keeps, scrutinee_keeps, under_keeps, listed_later, listed_comes}

further : (base k n : ℕ) → base ≤ k → k ≤ n → base ≤ n
further base k n le later = omega arith

-- calls come to answers that are alike
abbrev pub CallsKeep : ℕ → (Value → Value → World → Answer) → Type 0
CallsKeep base called = (f g v u : Value) (w t : World) → Alike (IsNamed base) f g → Alike (IsNamed base) v u → AlikeWorlds (IsNamed base) w t → alike_answers (IsNamed base) (called f v w) (called g u t)

module _ (base : ℕ) (called : Value → Value → World → Answer) (calls : CallsKeep base called) where
  abbrev Keeps : Tree → ℕ → Pairs → Pairs → Type 0
  Keeps t k d g = KeepsOf base called k (block k t) (operand t (block k t)) (core_of t) d g

  record RowKeepsOf (k : ℕ) (Q : naming.Row) (es : Trees) (d g : Pairs) : Type 0 where
    later : k ≤ Q.next
    keeps : RowKeeps base called k Q (cores_of es) d g

  record ChainKeeps (k : ℕ) (B : Block) (c : Core) (d g : Pairs) : Type 0 where
    later : k ≤ B.next
    keeps : NamedKeeps base called B c d g

  record CasesKeep (k : ℕ) (cs : Cases) (d g : Pairs) : Type 0 where
    later : k ≤ (cases k cs).next
    keeps : (p : Place) (v u : Value) (w t : World) → A base called v u → W base called w t
        → R base called (eval_arms called p (arms_of cs) v d w) (eval_arms called p (arms_of (cases k cs).cases) u g t)

  -- what is as it was: it is bound
  same : (k i : ℕ) (p : Place) (f : Form) (d g : Pairs) → base ≤ k → P base called d g → NamedKeeps base called (plain k (tree i p f)) (core_form p f) d g
      → KeepsOf base called k (plain k (tree i p f)) (made i p (plain k (tree i p f))) (core_form p f) d g
  same k i p f d g le rel keeps = bound base called i p k (plain k (tree i p f)) (core_form p f) d g le rel (omega arith) keeps

  nothing_keeps : (k i : ℕ) (p : Place) (f : Form) (d g : Pairs) → base ≤ k → P base called d g → ((h : Pairs) (w : World) → eval called (core_form p f) h w ≡ called v_unit v_unit w)
      → KeepsOf base called k (plain k (tree i p f)) (made i p (plain k (tree i p f))) (core_form p f) d g
  nothing_keeps k i p f d g le rel is =
      same k i p f d g le rel (λ w t world.
      subst (λ r. R base called r (eval called (core_form p f) g t)) (sym (is d w)) (subst (R base called (called v_unit v_unit w)) (sym (is g t)) (calls v_unit v_unit v_unit v_unit w t alike_unit alike_unit world)))

  pure_keeps : (k : ℕ) (t : Tree) (d g : Pairs) → base ≤ k → P base called d g → is_pure t ≡ true → Avoids (from base) t → KeepsOf base called k (plain k t) (plain k t) (core_of t) d g
  pure_keeps k t d g le rel is av = standing base called k (plain k t) (core_of t) d g (omega arith) (pure_operand base called k t d g rel (pure_at base called t is av k le d g rel))

  row_last : (Q : naming.Row) (es : Trees) (k : ℕ) (d g : Pairs) → RowKeeps base called k Q (cores_of es) d g → (r : Row) (mk : Trees → Tree)
      → ((as_ : Trees) (h : Pairs) (s : World) → eval called (core_of (mk as_)) h s ≡ eval_all called (cores_of as_) h s (λ vs u. comes (row_value r vs) u))
      → (w t : World) → W base called w t → R base called (eval_all called (cores_of es) d w (λ vs u. comes (row_value r vs) u)) (eval called (core_of (wrap Q.bindings (mk Q.atoms))) g t)
  row_last Q es k d g keeps r mk evals w t world =
      let go = λ (vs : Values) (u : World). comes (row_value r vs) u in
      subst (R base called (eval_all called (cores_of es) d w go)) (sym (wrapped base called Q.bindings (mk Q.atoms) g t))
      (keeps w t world go (λ h s. eval called (core_of (mk Q.atoms)) h s) (λ h vs us x y rel agree all world2 stay.
      subst (R base called (go vs x)) (sym (evals Q.atoms h y ∙ all_eval base called Q.atoms Q.next h us y go stay)) (row_alike (IsNamed base) r vs us all, world2)))

  mutual
    tree_keeps : (t : Tree) → Avoids (from base) t → (k : ℕ) → base ≤ k → (d g : Pairs) → P base called d g → Keeps t k d g
    tree_keeps (tree i p f) av k le d g rel = form_keeps f i p av k le d g rel

    form_keeps : (f : Form) (i : ℕ) (p : Place) → AvoidsForm (from base) f → (k : ℕ) → base ≤ k → (d g : Pairs) → P base called d g → Keeps (tree i p f) k d g
    form_keeps (form.whole n) i p av k le d g rel = pure_keeps k (tree i p (form.whole n)) d g le rel refl av
    form_keeps (form.flag b) i p av k le d g rel = pure_keeps k (tree i p (form.flag b)) d g le rel refl av
    form_keeps form.unit i p av k le d g rel = pure_keeps k (tree i p form.unit) d g le rel refl av
    form_keeps (form.use_of x) i p av k le d g rel = pure_keeps k (tree i p (form.use_of x)) d g le rel refl av
    form_keeps (form.qualified m x) i p av k le d g rel = nothing_keeps k i p (form.qualified m x) d g le rel (λ h w. refl)
    form_keeps form.map_empty i p av k le d g rel = nothing_keeps k i p form.map_empty d g le rel (λ h w. refl)
    form_keeps (form.map_add x y z) i p av k le d g rel = nothing_keeps k i p (form.map_add x y z) d g le rel (λ h w. refl)
    form_keeps (form.map_find x y) i p av k le d g rel = nothing_keeps k i p (form.map_find x y) d g le rel (λ h w. refl)
    form_keeps form.assert_false i p av k le d g rel = same k i p form.assert_false d g le rel (λ w t world. (refl, refl, world))
    form_keeps (form.fun q b) i p av k le d g rel =
        let n = behind k q in
        let first = behind_later q k in
        let K = tree_keeps b av n (further base k n le first) d g rel in
        let body = under k q (closed (block n b)) in
        let later = K.later in
        bound base called i p k (block k (tree i p (form.fun q b))) (core_of (tree i p (form.fun q b))) d g le rel (omega (arith, first, later)) (λ w t world. (
          alike_fun (from base) (parameter_of q) (parameter_of (parameter k q)) (core_of b) (core_of body) (close (without (bound_in (parameter_of q)) d) (core_of b)) (close (without (bound_in (parameter_of (parameter k q))) g) (core_of body)) d g
              (record { pattern = q; taken = refl; body = b; first = k; hides = refl; above = le; avoids = av; source = refl; parameter = refl; named = refl }) rel refl refl,
          world,
        ))
    form_keeps (form.let_rec f j m q b e) i p av k le d g rel =
        let n = behind k q in
        let first = behind_later q k in
        let K = tree_keeps b av.0 n (further base k n le first) d g rel in
        let B = block n b in
        let body = under k q (closed B) in
        let later = K.later in
        let le2 : base ≤ B.next = omega (arith, le, first, later) in
        let x = v_rec f (parameter_of q) (close (without (f ∷ bound_in (parameter_of q)) d) (core_of b)) in
        let y = v_rec f (parameter_of (parameter k q)) (close (without (f ∷ bound_in (parameter_of (parameter k q))) g) (core_of body)) in
        let a : A base called x y = alike_rec (from base) f (parameter_of q) (parameter_of (parameter k q)) (core_of b) (core_of body) (close (without (f ∷ bound_in (parameter_of q)) d) (core_of b)) (close (without (f ∷ bound_in (parameter_of (parameter k q))) g) (core_of body)) d g
        (record { pattern = q; taken = refl; body = b; first = k; hides = refl; above = le; avoids = av.0; source = refl; parameter = refl; named = refl }) rel refl refl in
        let E = tree_keeps e av.1 B.next le2 ((f, x) ∷ d) ((f, y) ∷ g) (both_have (from base) f x y d g a rel) in
        let last = E.later in
        bound base called i p k (block k (tree i p (form.let_rec f j m q b e))) (core_of (tree i p (form.let_rec f j m q b e))) d g le rel (omega (arith, first, later, last)) (λ w t world. E.named w t world)
    form_keeps (form.let_in q e b) i p av k le d g rel =
        let E = tree_keeps e av.0 k le d g rel in
        let m = (block k e).next in
        let first = E.later in
        let n = behind m q in
        let second = behind_later q m in
        let le2 : base ≤ m = omega (arith, le, first) in
        let le3 : base ≤ n = omega (arith, le2, second) in
        let K = tree_keeps b av.1 n le3 d g rel in
        let third = K.later in
        let B = closed (block n b) in
        bound base called i p k (block k (tree i p (form.let_in q e b))) (core_of (tree i p (form.let_in q e b))) d g le rel (omega (arith, first, second, third)) (λ w t world.
        then_alike (IsNamed base) (eval called (core_of e) d w) (eval called (core_of (closed (block k e))) g t) (λ v u. with_parameter (parameter_of q) v d (λ env s. eval called (core_of b) env s) u)
        (λ v u. with_parameter (parameter_of (parameter m q)) v g (λ env s. eval called (core_of (under m q B)) env s) u) (E.named w t world) (λ v u x y a world2.
        under_keeps base called q m B v u d g (λ env s. eval called (core_of b) env s) x y le2 a rel world2 (λ l h rel2. (tree_keeps b av.1 n le3 l h rel2).named x y world2)))
    form_keeps (form.call f a) i p av k le d g rel =
        let K = tree_keeps f av.0 k le d g rel in
        let F = operand f (block k f) in
        let le2 = further base k F.next le K.operand_later in
        act_two base called i p k d g f a (block k f) F (block F.next a) (operand a (block F.next a)) le rel K (λ h rel2. tree_keeps a av.1 F.next le2 d h rel2)
        (λ x y. tree i p (form.call x y)) (λ v z q. called v z q) (λ x y h s. refl) (λ v u x y r s av2 ax world. calls v u x y r s av2 ax world)
    form_keeps (form.arithmetic o a b) i p av k le d g rel =
        let K = tree_keeps a av.0 k le d g rel in
        let F = operand a (block k a) in
        let le2 = further base k F.next le K.operand_later in
        arithmetic_keeps base called o i p k d g a b (block k a) F (block F.next b) (operand b (block F.next b)) le rel K (λ h rel2. tree_keeps b av.1 F.next le2 d h rel2)
    form_keeps (form.compare o a b) i p av k le d g rel =
        let K = tree_keeps a av.0 k le d g rel in
        let F = operand a (block k a) in
        let le2 = further base k F.next le K.operand_later in
        pure_two base called k d g a b (block k a) F (block F.next b) (operand b (block F.next b)) rel K (λ h rel2. tree_keeps b av.1 F.next le2 d h rel2)
        (λ x y. tree i p (form.compare o x y)) (comparison o) (λ x y h s. refl) (comparison_gives base o)
    form_keeps (form.negated e) i p av k le d g rel =
        pure_one base called k d g e (block k e) (operand e (block k e)) (tree_keeps e av k le d g rel) (λ x. tree i p (form.negated x)) negate (λ x h s. refl) (negate_gives base)
    form_keeps (form.not_of e) i p av k le d g rel =
        pure_one base called k d g e (block k e) (operand e (block k e)) (tree_keeps e av k le d g rel) (λ x. tree i p (form.not_of x)) invert (λ x h s. refl) (invert_gives base)
    form_keeps (form.length_of e) i p av k le d g rel =
        pure_one base called k d g e (block k e) (operand e (block k e)) (tree_keeps e av k le d g rel) (λ x. tree i p (form.length_of x)) length_of (λ x h s. refl) (length_gives base)
    form_keeps (form.assert e) i p av k le d g rel =
        act_one base called i p k d g e (block k e) (operand e (block k e)) le rel (tree_keeps e av k le d g rel) (λ x. tree i p (form.assert x)) (λ v r. acts r (unary_act (assert p) v r)) (λ x h s. refl) (λ v u x y a world. unary_alike (IsNamed base) (assert p) v u x y a world)
    form_keeps (form.print e) i p av k le d g rel =
        act_one base called i p k d g e (block k e) (operand e (block k e)) le rel (tree_keeps e av k le d g rel) (λ x. tree i p (form.print x)) (λ v r. acts r (unary_act print v r)) (λ x h s. refl) (λ v u x y a world. unary_alike (IsNamed base) print v u x y a world)
    form_keeps (form.read e) i p av k le d g rel =
        act_one base called i p k d g e (block k e) (operand e (block k e)) le rel (tree_keeps e av k le d g rel) (λ x. tree i p (form.read x)) (λ v r. acts r (unary_act (read p) v r)) (λ x h s. refl) (λ v u x y a world. unary_alike (IsNamed base) (read p) v u x y a world)
    form_keeps (form.make a b) i p av k le d g rel =
        let K = tree_keeps a av.0 k le d g rel in
        let F = operand a (block k a) in
        let le2 = further base k F.next le K.operand_later in
        act_two base called i p k d g a b (block k a) F (block F.next b) (operand b (block F.next b)) le rel K (λ h rel2. tree_keeps b av.1 F.next le2 d h rel2)
        (λ x y. tree i p (form.make x y)) (λ v z q. acts q (binary_act (make p) v z q)) (λ x y h s. refl) (λ v u x y r s a2 ax world. binary_alike (IsNamed base) (make p) v u x y r s a2 ax world)
    form_keeps (form.fetch a b) i p av k le d g rel =
        let K = tree_keeps a av.0 k le d g rel in
        let F = operand a (block k a) in
        let le2 = further base k F.next le K.operand_later in
        act_two base called i p k d g a b (block k a) F (block F.next b) (operand b (block F.next b)) le rel K (λ h rel2. tree_keeps b av.1 F.next le2 d h rel2)
        (λ x y. tree i p (form.fetch x y)) (λ v z q. acts q (binary_act (fetch p) v z q)) (λ x y h s. refl) (λ v u x y r s a2 ax world. binary_alike (IsNamed base) (fetch p) v u x y r s a2 ax world)
    form_keeps (form.store a b c) i p av k le d g rel =
        let K = tree_keeps a av.0 k le d g rel in
        let F = operand a (block k a) in
        let le2 = further base k F.next le K.operand_later in
        let L = tree_keeps b av.1 F.next le2 d g rel in
        let N = operand b (block F.next b) in
        let le3 = further base F.next N.next le2 L.operand_later in
        act_three base called i p k d g a b c (block k a) F (block F.next b) N (block N.next c) (operand c (block N.next c)) le rel K (λ h rel2. tree_keeps b av.1 F.next le2 d h rel2) (λ h rel2. tree_keeps c av.2 N.next le3 d h rel2)
        (λ x y z. tree i p (form.store x y z)) (λ v m n r. acts r (ternary_act (store p) v m n r)) (λ x y z h s. refl) (λ v u x y m n r s a2 ax am world. ternary_alike (IsNamed base) (store p) v u x y m n r s a2 ax am world)
    form_keeps (form.tuple es) i p av k le d g rel =
        let Q = operands_keep es av k le d g rel in
        bound base called i p k (block k (tree i p (form.tuple es))) (core_of (tree i p (form.tuple es))) d g le rel Q.later (λ w t world.
        row_last (operands k es) es k d g Q.keeps tuple (λ as_. tree i p (form.tuple as_)) (λ as_ h s. refl) w t world)
    form_keeps (form.build c l es) i p av k le d g rel =
        let Q = operands_keep es av k le d g rel in
        bound base called i p k (block k (tree i p (form.build c l es))) (core_of (tree i p (form.build c l es))) d g le rel Q.later (λ w t world.
        row_last (operands k es) es k d g Q.keeps (build c) (λ as_. tree i p (form.build c l as_)) (λ as_ h s. refl) w t world)
    form_keeps (form.list_of es) i p av k le d g rel =
        let K = items_keep es av k le d g rel in
        let Q = items k es in
        let L = listed i p Q.next Q.atoms in
        let first = K.later in let second = listed_later base called i p Q.next Q.atoms in
        let last = λ (h : Pairs) (s : World). eval called (core_of L.last) h s in
        let go = λ (vs : Values) (u : World). comes (row_value list_of vs) u in
        bound base called i p k (block k (tree i p (form.list_of es))) (core_of (tree i p (form.list_of es))) d g le rel (omega (arith, first, second)) (λ w t world.
        subst (R base called (eval_all called (cores_of es) d w go)) (sym (wrapped base called (Q.bindings ++ L.bindings) L.last g t ∙ appended base called Q.bindings L.bindings g t last))
        (K.keeps w t world go (λ h s. bind_all base called L.bindings h s last) (λ h vs us x y rel2 agree all world2 stay.
        subst (R base called (go vs x)) (sym (sym (wrapped base called L.bindings L.last h y) ∙ listed_comes base called Q.atoms us i p Q.next h y stay)) (row_alike (IsNamed base) list_of vs us all, world2))))
    form_keeps (form.and_of a b) i p av k le d g rel =
        let K = tree_keeps a av.0 k le d g rel in
        let F = operand a (block k a) in
        let le2 = further base k F.next le K.operand_later in
        let B = block F.next b in
        let no = tree i p (form.flag false) in
        let last = tree i p (form.if_else F.last (closed B) no) in
        let first = K.operand_later in let second = (tree_keeps b av.1 F.next le2 d g rel).later in
        let Y : Block = record { bindings = F.bindings; last = last; next = B.next } in
        either_keeps base called i p (is_pure a && is_pure b) k (plain k (tree i p (form.and_of a b))) Y (core_of (tree i p (form.and_of a b))) d g (λ is. pure_keeps k (tree i p (form.and_of a b)) d g le rel is av) (λ is.
        bound base called i p k Y (core_of (tree i p (form.and_of a b))) d g le rel (omega (arith, first, second)) (λ w t world.
        last_keeps base called k F (core_of a) d g K.operand (λ x u. on_truth x (λ t s. choose t (λ r. eval called (core_of b) d r) (comes (v_flag false)) s) u)
        (λ h x u. on_truth x (λ t s. choose t (λ r. eval called (core_of (closed B)) h r) (comes (v_flag false)) s) u) last (λ h s. refl) (λ h v u x y rel2 a2 world2.
        truth_alike (IsNamed base) v u a2 (λ t s. choose t (λ r. eval called (core_of b) d r) (comes (v_flag false)) s) (λ t s. choose t (λ r. eval called (core_of (closed B)) h r) (comes (v_flag false)) s) x y (λ c.
        choose_alike (IsNamed base) c (λ r. eval called (core_of b) d r) (λ r. eval called (core_of (closed B)) h r) (comes (v_flag false)) (comes (v_flag false)) x y ((tree_keeps b av.1 F.next le2 d h rel2).named x y world2) (alike_flag false, world2))) w t world))
    form_keeps (form.or_of a b) i p av k le d g rel =
        let K = tree_keeps a av.0 k le d g rel in
        let F = operand a (block k a) in
        let le2 = further base k F.next le K.operand_later in
        let B = block F.next b in
        let yes = tree i p (form.flag true) in
        let last = tree i p (form.if_else F.last yes (closed B)) in
        let first = K.operand_later in let second = (tree_keeps b av.1 F.next le2 d g rel).later in
        let Y : Block = record { bindings = F.bindings; last = last; next = B.next } in
        either_keeps base called i p (is_pure a && is_pure b) k (plain k (tree i p (form.or_of a b))) Y (core_of (tree i p (form.or_of a b))) d g (λ is. pure_keeps k (tree i p (form.or_of a b)) d g le rel is av) (λ is.
        bound base called i p k Y (core_of (tree i p (form.or_of a b))) d g le rel (omega (arith, first, second)) (λ w t world.
        last_keeps base called k F (core_of a) d g K.operand (λ x u. on_truth x (λ t s. choose t (comes (v_flag true)) (λ r. eval called (core_of b) d r) s) u)
        (λ h x u. on_truth x (λ t s. choose t (comes (v_flag true)) (λ r. eval called (core_of (closed B)) h r) s) u) last (λ h s. refl) (λ h v u x y rel2 a2 world2.
        truth_alike (IsNamed base) v u a2 (λ t s. choose t (comes (v_flag true)) (λ r. eval called (core_of b) d r) s) (λ t s. choose t (comes (v_flag true)) (λ r. eval called (core_of (closed B)) h r) s) x y (λ c.
        choose_alike (IsNamed base) c (comes (v_flag true)) (comes (v_flag true)) (λ r. eval called (core_of b) d r) (λ r. eval called (core_of (closed B)) h r) x y (alike_flag true, world2) ((tree_keeps b av.1 F.next le2 d h rel2).named x y world2))) w t world))
    form_keeps (form.if_else c a b) i p av k le d g rel =
        let K = tree_keeps c av.0 k le d g rel in
        let C = operand c (block k c) in
        let le2 = further base k C.next le K.operand_later in
        let X = block C.next a in
        let second = (tree_keeps a av.1 C.next le2 d g rel).later in
        let le3 = further base C.next X.next le2 second in
        let Y = block X.next b in
        let last = tree i p (form.if_else C.last (closed X) (closed Y)) in
        let first = K.operand_later in let third = (tree_keeps b av.2 X.next le3 d g rel).later in
        bound base called i p k (block k (tree i p (form.if_else c a b))) (core_of (tree i p (form.if_else c a b))) d g le rel (omega (arith, first, second, third)) (λ w t world.
        last_keeps base called k C (core_of c) d g K.operand (λ x u. on_truth x (λ t s. choose t (λ r. eval called (core_of a) d r) (λ r. eval called (core_of b) d r) s) u)
        (λ h x u. on_truth x (λ t s. choose t (λ r. eval called (core_of (closed X)) h r) (λ r. eval called (core_of (closed Y)) h r) s) u) last (λ h s. refl) (λ h v u x y rel2 a2 world2.
        truth_alike (IsNamed base) v u a2 (λ t s. choose t (λ r. eval called (core_of a) d r) (λ r. eval called (core_of b) d r) s) (λ t s. choose t (λ r. eval called (core_of (closed X)) h r) (λ r. eval called (core_of (closed Y)) h r) s) x y (λ c2.
        choose_alike (IsNamed base) c2 (λ r. eval called (core_of a) d r) (λ r. eval called (core_of (closed X)) h r) (λ r. eval called (core_of b) d r) (λ r. eval called (core_of (closed Y)) h r) x y
        ((tree_keeps a av.1 C.next le2 d h rel2).named x y world2) ((tree_keeps b av.2 X.next le3 d h rel2).named x y world2))) w t world)
    form_keeps (form.match_on e cs) i p av k le d g rel =
        let S = scrutinee e (block k e) in
        let K = scrutinee_keeps base called e k d g le rel (tree_keeps e av.0 k le d g rel) in
        let le2 = further base k S.next le K.later in
        let C = cases S.next cs in
        let last = tree i p (form.match_on S.last C.cases) in
        let first = K.later in let second = (cases_keep cs av.1 S.next le2 d g rel).later in
        bound base called i p k (block k (tree i p (form.match_on e cs))) (core_of (tree i p (form.match_on e cs))) d g le rel (omega (arith, first, second)) (λ w t world.
        last_keeps base called k S (core_of e) d g K.operand (λ v u. eval_arms called p (arms_of cs) v d u) (λ h v u. eval_arms called p (arms_of C.cases) v h u) last (λ h s. refl)
        (λ h v u x y rel2 a2 world2. (cases_keep cs av.1 S.next le2 d h rel2).keeps p v u x y a2 world2) w t world)
    form_keeps (form.chain no_trees) i p av k le d g rel = same k i p (form.chain no_trees) d g le rel (λ w t world. (alike_unit, world))
    form_keeps (form.chain (more_trees e es)) i p av k le d g rel =
        let K = tree_keeps e av.0 k le d g rel in
        let Q = chained_keeps es av.1 i p (block k e) (core_of e) k le K.later d g rel K.named in
        bound base called i p k (block k (tree i p (form.chain (more_trees e es)))) (core_of (tree i p (form.chain (more_trees e es)))) d g le rel Q.later Q.keeps

    operands_keep : (es : Trees) → AvoidsAll (from base) es → (k : ℕ) → base ≤ k → (d g : Pairs) → P base called d g → RowKeepsOf k (operands k es) es d g
    operands_keep no_trees av k le d g rel = record { later = omega arith; keeps = no_row_keeps base called k d g rel }
    operands_keep (more_trees e es) av k le d g rel =
        let K = tree_keeps e av.0 k le d g rel in
        let F = operand e (block k e) in
        let le2 = further base k F.next le K.operand_later in
        let Q = operands_keep es av.1 F.next le2 d g rel in
        let first = K.operand_later in let second = Q.later in
        record {
          later = omega (arith, first, second);
          keeps = more_row_keeps base called k F (operands F.next es) e es d g first second K.operand (λ h rel2. (operands_keep es av.1 F.next le2 d h rel2).keeps);
        }

    items_keep : (es : Trees) → AvoidsAll (from base) es → (k : ℕ) → base ≤ k → (d g : Pairs) → P base called d g → RowKeepsOf k (items k es) es d g
    items_keep no_trees av k le d g rel = record { later = omega arith; keeps = no_row_keeps base called k d g rel }
    items_keep (more_trees e es) av k le d g rel =
        let K = tree_keeps e av.0 k le d g rel in
        let B = block k e in
        let F = made (id_of e) (place_of e) B in
        let later = K.later in
        let first : k ≤ F.next = omega (arith, later) in
        let le2 = further base k F.next le first in
        let Q = items_keep es av.1 F.next le2 d g rel in
        let second = Q.later in
        record {
          later = omega (arith, first, second);
          keeps = more_row_keeps base called k F (items F.next es) e es d g first second (made_keeps base called (id_of e) (place_of e) k B (core_of e) d g le later rel K.named) (λ h rel2. (items_keep es av.1 F.next le2 d h rel2).keeps);
        }

    chained_keeps : (es : Trees) → AvoidsAll (from base) es → (i : ℕ) (p : Place) (E : Block) (c : Core) (k : ℕ) → base ≤ k → k ≤ E.next → (d g : Pairs) → P base called d g
        → NamedKeeps base called E c d g → ChainKeeps k (chained i p E es) (rest_of es c) d g
    chained_keeps no_trees av i p E c k le later d g rel keeps = record { later = later; keeps = keeps }
    chained_keeps (more_trees e es) av i p E c k le later d g rel keeps =
        let n = E.next + 1 in
        let le2 : base ≤ n = omega (arith, le, later) in
        let le3 : base ≤ E.next = omega (arith, le, later) in
        let B = block n e in
        let K = tree_keeps e av.0 n le2 d g rel in
        let L = chained_keeps es av.1 i p B (core_of e) n le2 K.later d g rel K.named in
        let X = chained i p B es in
        let more = L.later in
        record {
          later = omega (arith, later, more);
          keeps = λ w t world.
              then_alike (IsNamed base) (eval called c d w) (eval called (core_of (closed E)) g t) (λ v u. eval called (rest_of es (core_of e)) d u) (λ v u. eval called (core_of (closed X)) ((E.next, v) ∷ g) u) (keeps w t world) (λ v u x y a world2.
              let h : Pairs = (E.next, u) ∷ g in
              let rel2 : P base called d h = one_has (from base) E.next u d g (is_from base E.next le3) rel in
              let K2 = tree_keeps e av.0 n le2 d h rel2 in
              (chained_keeps es av.1 i p B (core_of e) n le2 K2.later d h rel2 K2.named).keeps x y world2);
        }

    cases_keep : (cs : Cases) → AvoidsCases (from base) cs → (k : ℕ) → base ≤ k → (d g : Pairs) → P base called d g → CasesKeep k cs d g
    cases_keep no_cases av k le d g rel = record { later = omega arith; keeps = λ p v u w t a world. (refl, refl, world) }
    cases_keep (more_cases q b cs) av k le d g rel =
        let Q = named_pattern k q in
        let first = pattern_later q k in
        let le2 = further base k Q.next le first in
        let B = block Q.next b in
        let second = (tree_keeps b av.0 Q.next le2 d g rel).later in
        let le3 = further base Q.next B.next le2 second in
        let L = cases_keep cs av.1 B.next le3 d g rel in
        let third = L.later in
        record {
          later = omega (arith, first, second, third);
          keeps = λ p v u w t a world.
              fitting_alike (IsNamed base) (from base) (fits (pattern_of q) v) (fits (pattern_of Q.pattern) u) d g (λ env s. eval called (core_of b) env s) (λ env s. eval called (core_of (closed B)) env s)
              (λ s. eval_arms called p (arms_of cs) v d s) (λ s. eval_arms called p (arms_of (cases B.next cs).cases) u g s) w t (pattern_fits (IsNamed base) base q k le v u a) rel
              (λ l h rel2. (tree_keeps b av.0 Q.next le2 l h rel2).named w t world) (L.keeps p v u w t a world);
        }

  -- the theorem, where calls keep
  pub naming_keeps_by : (t : Tree) → Avoids (from base) t → (k : ℕ) → base ≤ k → (d g : Pairs) → P base called d g → (w u : World) → W base called w u
      → R base called (eval called (core_of t) d w) (eval called (core_of (naming.named k t)) g u)
  naming_keeps_by t av k le d g rel w u world = (tree_keeps t av k le d g rel).named w u world

  -- made names are numbered upwards
  pub naming_later_by : (t : Tree) → Avoids (from base) t → (k : ℕ) → base ≤ k → k ≤ (block k t).next
  naming_later_by t av k le = (tree_keeps t av k le [] [] (no_pairs (from base))).later
