-- Forms over named parts.
use Rattle.std.proofs.Common.{◌≡◌, ℕ, ◌+◌, ◌≤◌, Bool, true, false, if◌then◌else◌, ◌∷◌, ◌++◌, Option, inl, inr, refl, sym, ap, subst, ◌∙◌, arith}
use Rattle.lq_base_names.specs.declared.operation.ArithOp.{ArithOp}
use Rattle.lq_base_names.specs.declared.operation.ArithOp.TheVariants as op
use Rattle.lq_base_names.specs.declared.place.Place.{Place}
use Rattle.lq_text_tree.specs.Pattern.{Pattern, pattern, any, bind, nothing, tuple_of, build_of}
use Rattle.lq_text_tree.specs.Tree as form
use Rattle.lq_text_tree.specs.Tree.{Tree, tree, Form, Trees, no_trees, more_trees}
use Rattle.lq_meaning_steps.specs.declared.model.fault.FaultKind.TheVariants.{NoCase}
use Rattle.lq_meaning_steps.specs.Model.Core.{Operation, Binary, arithmetic, Core, Value, Values, no_values, more_values, v_build, Pairs, value_in, list_value}
use Rattle.lq_meaning_steps.specs.Model.Operations.{World, unary_act, binary_act, fits}
use Rattle.lq_meaning_steps.specs.Model.Meaning.{Answer, comes, fails, runs_out, too_deep, gets_stuck, and_then, acts, looked_up, fitting, with_parameter, eval}
use Rattle.lq_meaning_steps.specs.Model.FromTree.{pattern_of, parameter_of, arithmetic_at, core_of}
use Rattle.lq_meaning_normal_form.specs.Outcomes.Naming.{is_pure_operator, Block, wrap, closed, made, operand, scrutinee, over_one, over_two, over_three, listed, named_pattern, parameter, under, block}
use Rattle.lq_meaning_normal_form.specs.Outcomes.Alike.{both_have, one_has}
use Rattle.lq_meaning_normal_form.specs.Outcomes.Named.{from, IsNamed}
use Rattle.lq_meaning_normal_form.proofs.OutcomesLemmas.Alikes.{then_then, binary_alike}
use Rattle.lq_meaning_normal_form.proofs.OutcomesLemmas.Patterns.{is_from, pattern_fits, fitting_alike}
use Rattle.lq_meaning_normal_form.proofs.OutcomesLemmas.Pure.{Gives, arithmetic_gives}
use Rattle.lq_meaning_normal_form.proofs.OutcomesLemmas.Running.{agree_self, agree_more, found_self, A, W, P, R, bind_all, wrapped, Stays, OperandKeeps, made_keeps, KeepsOf, bound, standing, two_parts, three_parts, AllStay, one_eval, two_eval, three_eval}

module _ (base : ℕ) (called : Value → Value → World → Answer) where
  -- a form by the value of its first part
  pub last_keeps : (k : ℕ) (C : Block) (c : Core) (d g : Pairs) → OperandKeeps base called k C c d g → (go : Value → World → Answer) (to : Pairs → Value → World → Answer) (last : Tree)
      → ((h : Pairs) (s : World) → eval called (core_of last) h s ≡ and_then (eval called (core_of C.last) h s) (to h))
      → ((h : Pairs) (v u : Value) (x y : World) → P base called d h → A base called v u → W base called x y → R base called (go v x) (to h u y))
      → (w t : World) → W base called w t → R base called (and_then (eval called c d w) go) (eval called (core_of (wrap C.bindings last)) g t)
  last_keeps k C c d g keeps go to last evals respects w t world =
      subst (R base called (and_then (eval called c d w) go)) (sym (wrapped base called C.bindings last g t))
      (keeps w t world go (λ h s. eval called (core_of last) h s) (λ h v u x y rel agree a world2 stays.
      subst (R base called (go v x)) (sym (evals h y ∙ one_eval base called (core_of C.last) h y u (to h) (stays h (agree_self C.next h) y))) (respects h v u x y rel a world2)))

  -- an operation on one, two or three values that isn't pure
  pub act_one : (i : ℕ) (p : Place) (k : ℕ) (d g : Pairs) (a : Tree) (B F : Block) → base ≤ k → P base called d g → KeepsOf base called k B F (core_of a) d g
      → (mk : Tree → Tree) (go : Value → World → Answer) → ((x : Tree) (h : Pairs) (s : World) → eval called (core_of (mk x)) h s ≡ and_then (eval called (core_of x) h s) go)
      → ((v u : Value) (x y : World) → A base called v u → W base called x y → R base called (go v x) (go u y))
      → KeepsOf base called k (over_one F mk) (made i p (over_one F mk)) (core_of (mk a)) d g
  act_one i p k d g a B F le rel K mk go evals respects =
      bound base called i p k (over_one F mk) (core_of (mk a)) d g le rel K.operand_later (λ w t world.
      subst (λ r. R base called r (eval called (core_of (closed (over_one F mk))) g t)) (sym (evals a d w))
      (last_keeps k F (core_of a) d g K.operand go (λ h. go) (mk F.last) (λ h s. evals F.last h s) (λ h v u x y rel2 av world2. respects v u x y av world2) w t world))

  pub act_two : (i : ℕ) (p : Place) (k : ℕ) (d g : Pairs) (a b : Tree) (X F Y B : Block) → base ≤ k → P base called d g → KeepsOf base called k X F (core_of a) d g
      → ((h : Pairs) → P base called d h → KeepsOf base called F.next Y B (core_of b) d h)
      → (mk : Tree → Tree → Tree) (go : Value → Value → World → Answer)
      → ((x y : Tree) (h : Pairs) (s : World) → eval called (core_of (mk x y)) h s ≡ and_then (eval called (core_of x) h s) (λ v r. and_then (eval called (core_of y) h r) (λ z q. go v z q)))
      → ((v u x y : Value) (r s : World) → A base called v u → A base called x y → W base called r s → R base called (go v x r) (go u y s))
      → KeepsOf base called k (over_two F B mk) (made i p (over_two F B mk)) (core_of (mk a b)) d g
  act_two i p k d g a b X F Y B le rel K L mk go evals respects =
      let later = K.operand_later in let more = (L g rel).operand_later in
      bound base called i p k (over_two F B mk) (core_of (mk a b)) d g le rel (omega (arith, later, more)) (λ w t world.
      subst (λ r. R base called r (eval called (core_of (closed (over_two F B mk))) g t)) (sym (evals a b d w))
      (subst (R base called (and_then (eval called (core_of a) d w) (λ v r. and_then (eval called (core_of b) d r) (λ z q. go v z q)))) (sym (wrapped base called (F.bindings ++ B.bindings) (mk F.last B.last) g t))
      (two_parts base called k F B (core_of a) (core_of b) d g later more K.operand (λ h rel2. (L h rel2).operand) w t world go (λ h s. eval called (core_of (mk F.last B.last)) h s)
      (λ h v u x y r s rel2 agree av ax world2 first second.
      subst (R base called (go v x r)) (sym (evals F.last B.last h s ∙ two_eval base called (core_of F.last) (core_of B.last) h s u y go (first h (agree_self B.next h) s) (second h (agree_self B.next h) s)))
      (respects v u x y r s av ax world2)))))

  pub act_three : (i : ℕ) (p : Place) (k : ℕ) (d g : Pairs) (a b c : Tree) (X F Y B Z C : Block) → base ≤ k → P base called d g → KeepsOf base called k X F (core_of a) d g
      → ((h : Pairs) → P base called d h → KeepsOf base called F.next Y B (core_of b) d h)
      → ((h : Pairs) → P base called d h → KeepsOf base called B.next Z C (core_of c) d h)
      → (mk : Tree → Tree → Tree → Tree) (go : Value → Value → Value → World → Answer)
      → ((x y z : Tree) (h : Pairs) (s : World) → eval called (core_of (mk x y z)) h s ≡ and_then (eval called (core_of x) h s) (λ v r. and_then (eval called (core_of y) h r) (λ m q. and_then (eval called (core_of z) h q) (λ n j. go v m n j))))
      → ((v u x y m n : Value) (r s : World) → A base called v u → A base called x y → A base called m n → W base called r s → R base called (go v x m r) (go u y n s))
      → KeepsOf base called k (over_three F B C mk) (made i p (over_three F B C mk)) (core_of (mk a b c)) d g
  act_three i p k d g a b c X F Y B Z C le rel K L M mk go evals respects =
      let later = K.operand_later in let more = (L g rel).operand_later in let most = (M g rel).operand_later in
      bound base called i p k (over_three F B C mk) (core_of (mk a b c)) d g le rel (omega (arith, later, more, most)) (λ w t world.
      subst (λ r. R base called r (eval called (core_of (closed (over_three F B C mk))) g t)) (sym (evals a b c d w))
      (subst (R base called (and_then (eval called (core_of a) d w) (λ v r. and_then (eval called (core_of b) d r) (λ m q. and_then (eval called (core_of c) d q) (λ n j. go v m n j)))))
      (sym (wrapped base called (F.bindings ++ (B.bindings ++ C.bindings)) (mk F.last B.last C.last) g t))
      (three_parts base called k F B C (core_of a) (core_of b) (core_of c) d g later more most K.operand (λ h rel2. (L h rel2).operand) (λ h rel2. (M h rel2).operand) w t world go (λ h s. eval called (core_of (mk F.last B.last C.last)) h s)
      (λ h v u x y m n r s rel2 av ax am world2 first second third.
      subst (R base called (go v x m r))
      (sym (evals F.last B.last C.last h s ∙ three_eval base called (core_of F.last) (core_of B.last) (core_of C.last) h s u y n go (first h (agree_self C.next h) s) (second h (agree_self C.next h) s) (third h (agree_self C.next h) s)))
      (respects v u x y m n r s av ax am world2)))))

  -- pure operations
  pub pure_one : (k : ℕ) (d g : Pairs) (a : Tree) (B F : Block) → KeepsOf base called k B F (core_of a) d g
      → (mk : Tree → Tree) (o : Operation) → ((x : Tree) (h : Pairs) (s : World) → eval called (core_of (mk x)) h s ≡ and_then (eval called (core_of x) h s) (λ v r. acts r (unary_act o v r)))
      → ((x y : Value) → A base called x y → Gives base (unary_act o x) (unary_act o y))
      → KeepsOf base called k (over_one F mk) (over_one F mk) (core_of (mk a)) d g
  pure_one k d g a B F K mk o evals gives =
      standing base called k (over_one F mk) (core_of (mk a)) d g K.operand_later (λ w t world go next l.
      subst (λ r. R base called (and_then r go) (bind_all base called F.bindings g t next)) (sym (evals a d w))
      (subst (λ r. R base called r (bind_all base called F.bindings g t next)) (sym (then_then (eval called (core_of a) d w) (λ v r. acts r (unary_act o v r)) go))
      (K.operand w t world (λ v r. and_then (acts r (unary_act o v r)) go) next (λ h v u x y rel2 agree av world2 stays.
      by go next h v u x y world2 (λ p q ap_ stays2. l h p q x y rel2 agree ap_ world2 stays2) stays (gives v u av)))))
    where
      by : (go : Value → World → Answer) (next : Pairs → World → Answer) (h : Pairs) (v u : Value) (x y : World) → W base called x y
          → ((p q : Value) → A base called p q → Stays base called F.next (mk F.last) h q → R base called (go p x) (next h y)) → Stays base called F.next F.last h u
          → Gives base (unary_act o v) (unary_act o u) → R base called (and_then (acts x (unary_act o v x)) go) (next h y)
      by go next h v u x y world l stays (inl s) =
          subst (λ r. R base called (and_then (acts x r) go) (next h y)) (sym (s.3 x))
          (l s.0 s.1 s.2 (λ j agree z. evals F.last j z ∙ one_eval base called (core_of F.last) j z u (λ v r. acts r (unary_act o v r)) (stays j agree z) ∙ ap (acts z) (s.4 z)))
      by go next h v u x y world l stays (inr s) = subst (λ r. R base called (and_then (acts x r) go) (next h y)) (sym (s x)) tt

  pub pure_two : (k : ℕ) (d g : Pairs) (a b : Tree) (X F Y B : Block) → P base called d g → KeepsOf base called k X F (core_of a) d g
      → ((h : Pairs) → P base called d h → KeepsOf base called F.next Y B (core_of b) d h)
      → (mk : Tree → Tree → Tree) (o : Binary)
      → ((x y : Tree) (h : Pairs) (s : World) → eval called (core_of (mk x y)) h s ≡ and_then (eval called (core_of x) h s) (λ v r. and_then (eval called (core_of y) h r) (λ z q. acts q (binary_act o v z q))))
      → ((x y u v : Value) → A base called x y → A base called u v → Gives base (binary_act o x u) (binary_act o y v))
      → KeepsOf base called k (over_two F B mk) (over_two F B mk) (core_of (mk a b)) d g
  pure_two k d g a b X F Y B rel K L mk o evals gives =
      let later = K.operand_later in let more = (L g rel).operand_later in
      standing base called k (over_two F B mk) (core_of (mk a b)) d g (omega (arith, later, more)) (λ w t world go next l.
      subst (λ r. R base called (and_then r go) (bind_all base called (F.bindings ++ B.bindings) g t next)) (sym (evals a b d w))
      (subst (λ r. R base called r (bind_all base called (F.bindings ++ B.bindings) g t next)) (sym (regroup (eval called (core_of a) d w) (λ r. eval called (core_of b) d r) go))
      (two_parts base called k F B (core_of a) (core_of b) d g later more K.operand (λ h rel2. (L h rel2).operand) w t world (λ v z q. and_then (acts q (binary_act o v z q)) go) next
      (λ h v u x y r s rel2 agree av ax world2 first second.
      by go next h v u x y r s world2 (λ p q ap_ stays2. l h p q r s rel2 agree ap_ world2 stays2) first second (gives v u x y av ax)))))
    where
      inner : (r : Answer) (v : Value) (go : Value → World → Answer) → and_then (and_then r (λ z q. acts q (binary_act o v z q))) go ≡ and_then r (λ z q. and_then (acts q (binary_act o v z q)) go)
      inner r v go = then_then r (λ z q. acts q (binary_act o v z q)) go

      regroup : (r : Answer) (f : World → Answer) (go : Value → World → Answer)
          → and_then (and_then r (λ v s. and_then (f s) (λ z q. acts q (binary_act o v z q)))) go ≡ and_then r (λ v s. and_then (f s) (λ z q. and_then (acts q (binary_act o v z q)) go))
      regroup (comes v s) f go = inner (f s) v go
      regroup (fails x p s) f go = refl
      regroup (runs_out p s) f go = refl
      regroup (too_deep s) f go = refl
      regroup (gets_stuck s) f go = refl

      by : (go : Value → World → Answer) (next : Pairs → World → Answer) (h : Pairs) (v u x y : Value) (r s : World) → W base called r s
          → ((p q : Value) → A base called p q → Stays base called B.next (mk F.last B.last) h q → R base called (go p r) (next h s)) → Stays base called B.next F.last h u → Stays base called B.next B.last h y
          → Gives base (binary_act o v x) (binary_act o u y) → R base called (and_then (acts r (binary_act o v x r)) go) (next h s)
      by go next h v u x y r s world l first second (inl m) =
          subst (λ q. R base called (and_then (acts r q) go) (next h s)) (sym (m.3 r))
          (l m.0 m.1 m.2 (λ j agree z. evals F.last B.last j z ∙ two_eval base called (core_of F.last) (core_of B.last) j z u y (λ v n q. acts q (binary_act o v n q)) (first j agree z) (second j agree z) ∙ ap (acts z) (m.4 z)))
      by go next h v u x y r s world l first second (inr m) = subst (λ q. R base called (and_then (acts r q) go) (next h s)) (sym (m r)) tt

  pub arithmetic_keeps : (o : ArithOp) (i : ℕ) (p : Place) (k : ℕ) (d g : Pairs) (a b : Tree) (X F Y B : Block) → base ≤ k → P base called d g → KeepsOf base called k X F (core_of a) d g
      → ((h : Pairs) → P base called d h → KeepsOf base called F.next Y B (core_of b) d h)
      → (let mk = λ (x y : Tree). tree i p (form.arithmetic o x y) in
      KeepsOf base called k (over_two F B mk) (if is_pure_operator o then over_two F B mk else made i p (over_two F B mk)) (core_of (tree i p (form.arithmetic o a b))) d g)
  arithmetic_keeps op.Add i p k d g a b X F Y B le rel K L = pure_two k d g a b X F Y B rel K L (λ x y. tree i p (form.arithmetic op.Add x y)) (arithmetic (arithmetic_at p op.Add)) (λ x y h s. refl) (arithmetic_gives base op.Add p refl)
  arithmetic_keeps op.Sub i p k d g a b X F Y B le rel K L = pure_two k d g a b X F Y B rel K L (λ x y. tree i p (form.arithmetic op.Sub x y)) (arithmetic (arithmetic_at p op.Sub)) (λ x y h s. refl) (arithmetic_gives base op.Sub p refl)
  arithmetic_keeps op.Mul i p k d g a b X F Y B le rel K L = pure_two k d g a b X F Y B rel K L (λ x y. tree i p (form.arithmetic op.Mul x y)) (arithmetic (arithmetic_at p op.Mul)) (λ x y h s. refl) (arithmetic_gives base op.Mul p refl)
  arithmetic_keeps op.Div i p k d g a b X F Y B le rel K L =
      act_two i p k d g a b X F Y B le rel K L (λ x y. tree i p (form.arithmetic op.Div x y)) (λ v z q. acts q (binary_act (arithmetic (arithmetic_at p op.Div)) v z q)) (λ x y h s. refl) (λ v u x y r s av ax world. binary_alike (IsNamed base) (arithmetic (arithmetic_at p op.Div)) v u x y r s av ax world)
  arithmetic_keeps op.Mod i p k d g a b X F Y B le rel K L =
      act_two i p k d g a b X F Y B le rel K L (λ x y. tree i p (form.arithmetic op.Mod x y)) (λ v z q. acts q (binary_act (arithmetic (arithmetic_at p op.Mod)) v z q)) (λ x y h s. refl) (λ v u x y r s av ax world. binary_alike (IsNamed base) (arithmetic (arithmetic_at p op.Mod)) v u x y r s av ax world)

  -- what stands where it is pure as it is written, and else is another block that is bound
  pub either_keeps : (i : ℕ) (p : Place) (c : Bool) (k : ℕ) (X Y : Block) (e : Core) (d g : Pairs) → (c ≡ true → KeepsOf base called k X X e d g) → (c ≡ false → KeepsOf base called k Y (made i p Y) e d g)
      → KeepsOf base called k (if c then X else Y) (if c then (if c then X else Y) else made i p (if c then X else Y)) e d g
  either_keeps i p true k X Y e d g h l = h refl
  either_keeps i p false k X Y e d g h l = l refl

  -- ---- scrutinees

  pub record ScrutineeKeeps (k : ℕ) (S : Block) (e : Core) (d g : Pairs) : Type 0 where
    pub later : k ≤ S.next
    pub operand : OperandKeeps base called k S e d g

  pub scrutinee_keeps : (t : Tree) (k : ℕ) (d g : Pairs) → base ≤ k → P base called d g → KeepsOf base called k (block k t) (operand t (block k t)) (core_of t) d g
      → ScrutineeKeeps k (scrutinee t (block k t)) (core_of t) d g
  scrutinee_keeps (tree i p (form.use_of x)) k d g le rel K = record { later = K.operand_later; operand = K.operand }
  scrutinee_keeps (tree i p f) k d g le rel K =
      let B = block k (tree i p f) in
      let later = K.later in
      record { later = omega (arith, later); operand = made_keeps base called i p k B (core_of (tree i p f)) d g le later rel K.named }

  -- ---- parameters

  pub under_keeps : (q : Pattern) (k : ℕ) (b : Tree) (v u : Value) (d g : Pairs) (go : Pairs → World → Answer) (w t : World) → base ≤ k → A base called v u → P base called d g → W base called w t
      → ((e f : Pairs) → P base called e f → R base called (go e w) (eval called (core_of b) f t))
      → R base called (with_parameter (parameter_of q) v d go w) (with_parameter (parameter_of (parameter k q)) u g (λ f s. eval called (core_of (under k q b)) f s) t)
  under_keeps (pattern p (bind x)) k b v u d g go w t le a rel world h = h ((x, v) ∷ d) ((x, u) ∷ g) (both_have (from base) x v u d g a rel)
  under_keeps (pattern p any) k b v u d g go w t le a rel world h = h d ((k, u) ∷ g) (one_has (from base) k u d g (is_from base k le) rel)
  under_keeps (pattern p nothing) k b v u d g go w t le a rel world h = h d ((k, u) ∷ g) (one_has (from base) k u d g (is_from base k le) rel)
  under_keeps (pattern p (tuple_of qs)) k b v u d g go w t le a rel world h =
      let q = pattern p (tuple_of qs) in
      let Q = named_pattern (k + 1) q in
      let f : Pairs = (k, u) ∷ g in
      let to = λ (env : Pairs) (s : World). eval called (core_of b) env s in
      let more : base ≤ k + 1 = omega (arith, le) in
      let by : R base called (fitting (fits (pattern_of q) v) d go (fails NoCase p) w) (fitting (fits (pattern_of Q.pattern) u) f to (fails NoCase p) t) =
      fitting_alike (IsNamed base) (from base) (fits (pattern_of q) v) (fits (pattern_of Q.pattern) u) d f go to (fails NoCase p) (fails NoCase p) w t (pattern_fits (IsNamed base) base q (k + 1) more v u a) (one_has (from base) k u d g (is_from base k le) rel) h (refl, refl, world) in
      subst (λ (o : Option Value). R base called (fitting (fits (pattern_of q) v) d go (fails NoCase p) w) (and_then (looked_up o t) (λ m r. fitting (fits (pattern_of Q.pattern) m) f to (fails NoCase p) r))) (sym (found_self k u g)) by
  under_keeps (pattern p (build_of c n qs)) k b v u d g go w t le a rel world h =
      let q = pattern p (build_of c n qs) in
      let Q = named_pattern (k + 1) q in
      let f : Pairs = (k, u) ∷ g in
      let to = λ (env : Pairs) (s : World). eval called (core_of b) env s in
      let more : base ≤ k + 1 = omega (arith, le) in
      let by : R base called (fitting (fits (pattern_of q) v) d go (fails NoCase p) w) (fitting (fits (pattern_of Q.pattern) u) f to (fails NoCase p) t) =
      fitting_alike (IsNamed base) (from base) (fits (pattern_of q) v) (fits (pattern_of Q.pattern) u) d f go to (fails NoCase p) (fails NoCase p) w t (pattern_fits (IsNamed base) base q (k + 1) more v u a) (one_has (from base) k u d g (is_from base k le) rel) h (refl, refl, world) in
      subst (λ (o : Option Value). R base called (fitting (fits (pattern_of q) v) d go (fails NoCase p) w) (and_then (looked_up o t) (λ m r. fitting (fits (pattern_of Q.pattern) m) f to (fails NoCase p) r))) (sym (found_self k u g)) by

  -- ---- lists

  pub listed_later : (i : ℕ) (p : Place) (k : ℕ) (xs : Trees) → k ≤ (listed i p k xs).next
  listed_later i p k no_trees = omega arith
  listed_later i p k (more_trees x xs) = let h = listed_later i p k xs in omega (arith, h)

  pub listed_comes : (xs : Trees) (us : Values) (i : ℕ) (p : Place) (k : ℕ) (g : Pairs) (t : World) → AllStay base called k xs g us
      → eval called (core_of (closed (listed i p k xs))) g t ≡ comes (list_value us) t
  listed_comes no_trees no_values i p k g t stay = refl
  listed_comes (more_trees x xs) (more_values u us) i p k g t stay =
      let L = listed i p k xs in
      let l = list_value us in
      let h : Pairs = (L.next, l) ∷ g in
      let go = λ (env : Pairs) (v : Value) (r : World). and_then (looked_up (value_in env L.next) r) (λ m s. comes (v_build 8 (more_values v (more_values m no_values))) s) in
      let first = one_eval base called (core_of (closed L)) g t l (λ v s. and_then (eval called (core_of x) ((L.next, v) ∷ g) s) (go ((L.next, v) ∷ g))) (listed_comes xs us i p k g t stay.1) in
      let later = listed_later i p k xs in
      let second = one_eval base called (core_of x) h t u (go h) (stay.0 h (agree_more k L.next l g later) t) in
      let third = ap (λ o. and_then (looked_up o t) (λ m s. comes (v_build 8 (more_values u (more_values m no_values))) s)) (found_self L.next l g) in
      first ∙ second ∙ third
  listed_comes no_trees (more_values u us) i p k g t stay = absurd stay
  listed_comes (more_trees x xs) no_values i p k g t stay = absurd stay
