-- What operations make of values that are alike.
use Rattle.std.proofs.Common.{◌≡◌, ℕ, zero, suc, Bool, true, false, not, ◌==◌, if◌then◌else◌, List, [], ◌∷◌, ◌++◌, length, Option, Some, None, refl, ap, subst}
use Rattle.std.proofs.Math.IntN.{ℤ, pos, negsuc}
use Rattle.std.specs.Prelude.{slice_get, slice_set}
use Rattle.std.specs.Ordering.{int_eq}
use Rattle.std.specs.Prelude.{◌+ℤ◌, ◌-ℤ◌, ◌*ℤ◌, int_div, int_rem}
use Rattle.std.proofs.lemmas.Bool.{eqb-true}
use Rattle.lq_base_names.specs.declared.place.Place.{Place}
use Rattle.lq_meaning_steps.specs.declared.model.fault.FaultKind.TheVariants.{ZeroDivisor}
use Rattle.lq_meaning_steps.specs.Model.Core.{Arithmetic, sum, difference, product, quotient, remainder, Ternary, store, Operation, negate, invert, assert, length_of, print, read, Binary, arithmetic, comparison, make, fetch, Row, tuple, build, list_of, Value, v_whole, v_flag, v_unit, v_array, Values, no_values, more_values, Pairs, value_in, list_value, row_value}
use Rattle.lq_meaning_steps.specs.Model.Operations as act
use Rattle.lq_meaning_steps.specs.Model.Operations.{World, Act, unary_act, binary_act, ternary_act, store_act, arithmetic_act, copies, on_element, at_index, with_elements, read_act, assert_act, on_whole, make_act, compares}
use Rattle.lq_meaning_steps.specs.Model.Meaning.{Answer, comes, fails, runs_out, too_deep, gets_stuck, and_then, acts, looked_up, on_truth, choose}
use Rattle.lq_meaning_normal_form.specs.Outcomes.Alike.{CodeRelation, Alike, alike_whole, alike_flag, alike_unit, alike_array, alike_tuple, alike_build, AllAlike, none_alike, more_alike, AlikePairs, no_pairs, both_have, one_has, alike_elements, alike_arrays, AlikeWorlds, alike_answers}

pub then_then : (a : Answer) (f g : Value → World → Answer) → and_then (and_then a f) g ≡ and_then a (λ v w. and_then (f v w) g)
then_then (comes v w) f g = refl
then_then (fails k p w) f g = refl
then_then (runs_out p w) f g = refl
then_then (too_deep w) f g = refl
then_then (gets_stuck w) f g = refl

pub then_self : (a : Answer) → and_then a comes ≡ a
then_self (comes v w) = refl
then_self (fails k p w) = refl
then_self (runs_out p w) = refl
then_self (too_deep w) = refl
then_self (gets_stuck w) = refl

pub after : (a : Answer) (f g : Value → World → Answer) → ((v : Value) (w : World) → f v w ≡ g v w) → and_then a f ≡ and_then a g
after (comes v w) f g h = h v w
after (fails k p w) f g h = refl
after (runs_out p w) f g h = refl
after (too_deep w) f g h = refl
after (gets_stuck w) f g h = refl

module _ (Code : CodeRelation) where
  abbrev A : Value → Value → Type 0
  A = Alike Code

  abbrev W : World → World → Type 0
  W = AlikeWorlds Code

  abbrev R : Answer → Answer → Type 0
  R = alike_answers Code

  pub then_alike : (a b : Answer) (go to : Value → World → Answer) → R a b → ((v u : Value) (w t : World) → A v u → W w t → R (go v w) (to u t)) → R (and_then a go) (and_then b to)
  then_alike (gets_stuck w) b go to h k = tt
  then_alike (comes v w) (comes u t) go to h k = k v u w t h.0 h.1
  then_alike (fails x p w) (fails y q t) go to h k = h
  then_alike (runs_out p w) (runs_out q t) go to h k = h
  then_alike (too_deep w) (too_deep t) go to h k = h
  then_alike _ _ go to h k = absurd h

  pub truth_alike : (x y : Value) → A x y → (go to : Bool → World → Answer) (w t : World) → ((b : Bool) → R (go b w) (to b t)) → R (on_truth x go w) (on_truth y to t)
  truth_alike x y (alike_flag b) go to w t h = h b
  truth_alike x y _ go to w t h = tt

  pub choose_alike : (b : Bool) (go to other last : World → Answer) (w t : World) → R (go w) (to t) → R (other w) (last t) → R (choose b go other w) (choose b to last t)
  choose_alike true go to other last w t h k = h
  choose_alike false go to other last w t h k = k

  -- ---- variables

  -- what is found on the left is found on the right
  abbrev pub Found : Option Value → Option Value → Type 0
  Found (Some v) (Some u) = A v u
  Found (Some v) None = ⊥
  Found None o = Unit {0}

  found_both : (b : Bool) (v u : Value) (o r : Option Value) → A v u → Found o r → Found (if b then Some v else o) (if b then Some u else r)
  found_both true v u o r h k = h
  found_both false v u o r h k = k

  found_one : (b : Bool) (u : Value) (o r : Option Value) → b ≡ false → Found o r → Found o (if b then Some u else r)
  found_one true u o r h k = cc
  found_one false u o r h k = k

  other_name : (hidden : ℕ → Bool) (x y : ℕ) (b : Bool) → hidden x ≡ true → hidden y ≡ false → (x == y) ≡ b → b ≡ false
  other_name hidden x y false h k e = refl
  other_name hidden x y true h k e = let same : x ≡ y = eqb-true x y e in cc (h, k, ap hidden same)

  pub found_in : (hidden : ℕ → Bool) (d g : Pairs) → AlikePairs Code hidden d g → (x : ℕ) → hidden x ≡ false → Found (value_in d x) (value_in g x)
  found_in hidden d g (no_pairs h) x k = tt
  found_in hidden d g (both_have h y v u ps qs a rest) x k = found_both (y == x) v u (value_in ps x) (value_in qs x) a (found_in h ps qs rest x k)
  found_in hidden d g (one_has h y u ps qs is rest) x k =
      found_one (y == x) u (value_in ps x) (value_in qs x) (other_name h y x (y == x) is k refl) (found_in h ps qs rest x k)

  looked_alike : (o r : Option Value) (w t : World) → Found o r → W w t → R (looked_up o w) (looked_up r t)
  looked_alike None r w t h k = tt
  looked_alike (Some v) None w t h k = absurd h
  looked_alike (Some v) (Some u) w t h k = (h, k)

  pub use_alike : (hidden : ℕ → Bool) (d g : Pairs) → AlikePairs Code hidden d g → (x : ℕ) → hidden x ≡ false → (w t : World) → W w t
      → R (looked_up (value_in d x) w) (looked_up (value_in g x) t)
  use_alike hidden d g rel x h w t k = looked_alike (value_in d x) (value_in g x) w t (found_in hidden d g rel x h) k

  pub pairs_append : (hidden : ℕ → Bool) (d g ps qs : Pairs) → AlikePairs Code hidden d g → AlikePairs Code hidden ps qs → AlikePairs Code hidden (d ++ ps) (g ++ qs)
  pairs_append hidden d g ps qs (no_pairs h) k = k
  pairs_append hidden d g ps qs (both_have h x v u d2 g2 a rest) k = both_have h x v u (d2 ++ ps) (g2 ++ qs) a (pairs_append h d2 g2 ps qs rest k)
  pairs_append hidden d g ps qs (one_has h x u d2 g2 is rest) k = one_has h x u (d2 ++ ps) (g2 ++ qs) is (pairs_append h d2 g2 ps qs rest k)

  -- ---- arrays

  abbrev SomeElements : Option (List Value) → Option (List Value) → Type 0
  SomeElements (Some v) (Some u) = alike_elements Code v u
  SomeElements None None = Unit {0}
  SomeElements _ _ = ⊥

  get_elements : (vs us : List (List Value)) (r : ℕ) → alike_arrays Code vs us → SomeElements (slice_get vs r) (slice_get us r)
  get_elements [] [] r h = tt
  get_elements (v ∷ vs) (u ∷ us) zero h = h.0
  get_elements (v ∷ vs) (u ∷ us) (suc r) h = get_elements vs us r h.1
  get_elements _ _ r h = absurd h

  abbrev SomeValue : Option Value → Option Value → Type 0
  SomeValue (Some v) (Some u) = A v u
  SomeValue None None = Unit {0}
  SomeValue _ _ = ⊥

  get_value : (vs us : List Value) (i : ℕ) → alike_elements Code vs us → SomeValue (slice_get vs i) (slice_get us i)
  get_value [] [] i h = tt
  get_value (v ∷ vs) (u ∷ us) zero h = h.0
  get_value (v ∷ vs) (u ∷ us) (suc i) h = get_value vs us i h.1
  get_value _ _ i h = absurd h

  set_value : (vs us : List Value) (i : ℕ) (v u : Value) → alike_elements Code vs us → A v u → alike_elements Code (slice_set vs i v) (slice_set us i u)
  set_value [] [] i v u h k = tt
  set_value (x ∷ vs) (y ∷ us) zero v u h k = (k, h.1)
  set_value (x ∷ vs) (y ∷ us) (suc i) v u h k = (h.0, set_value vs us i v u h.1 k)
  set_value [] (y ∷ us) i v u h k = absurd h
  set_value (x ∷ vs) [] i v u h k = absurd h

  set_elements : (vs us : List (List Value)) (r : ℕ) (v u : List Value) → alike_arrays Code vs us → alike_elements Code v u → alike_arrays Code (slice_set vs r v) (slice_set us r u)
  set_elements [] [] r v u h k = tt
  set_elements (x ∷ vs) (y ∷ us) zero v u h k = (k, h.1)
  set_elements (x ∷ vs) (y ∷ us) (suc r) v u h k = (h.0, set_elements vs us r v u h.1 k)
  set_elements [] (y ∷ us) r v u h k = absurd h
  set_elements (x ∷ vs) [] r v u h k = absurd h

  copies_alike : (n : ℕ) (v u : Value) → A v u → alike_elements Code (copies n v) (copies n u)
  copies_alike zero v u h = tt
  copies_alike (suc n) v u h = (h, copies_alike n v u h)

  one_more_array : (vs us : List (List Value)) (v u : List Value) → alike_arrays Code vs us → alike_elements Code v u → alike_arrays Code (vs ++ v ∷ []) (us ++ u ∷ [])
  one_more_array [] [] v u h k = (k, tt)
  one_more_array (x ∷ vs) (y ∷ us) v u h k = (h.0, one_more_array vs us v u h.1 k)
  one_more_array [] (y ∷ us) v u h k = absurd h
  one_more_array (x ∷ vs) [] v u h k = absurd h

  as_many : (vs us : List (List Value)) → alike_arrays Code vs us → length vs ≡ length us
  as_many [] [] h = refl
  as_many (v ∷ vs) (u ∷ us) h = ap suc (as_many vs us h.1)
  as_many _ _ h = absurd h

  -- ---- operations

  divided_alike : (b : Bool) (p : Place) (n : ℤ) (w t : World) → W w t
      → R (acts w (Some (if b then act.faults ZeroDivisor p else act.gives (v_whole n) w))) (acts t (Some (if b then act.faults ZeroDivisor p else act.gives (v_whole n) t)))
  divided_alike true p n w t h = (refl, refl, h)
  divided_alike false p n w t h = (alike_whole n, h)

  arithmetic_alike : (o : Arithmetic) (m n : ℤ) (w t : World) → W w t → R (acts w (Some (arithmetic_act o m n w))) (acts t (Some (arithmetic_act o m n t)))
  arithmetic_alike sum m n w t h = (alike_whole (m +ℤ n), h)
  arithmetic_alike difference m n w t h = (alike_whole (m -ℤ n), h)
  arithmetic_alike product m n w t h = (alike_whole (m *ℤ n), h)
  arithmetic_alike (quotient p) m n w t h = divided_alike (int_eq n (pos 0)) p (int_div m n) w t h
  arithmetic_alike (remainder p) m n w t h = divided_alike (int_eq n (pos 0)) p (int_rem m n) w t h

  make_alike : (p : Place) (n : ℤ) (v u : Value) (w t : World) → A v u → W w t → R (acts w (Some (make_act p n v w))) (acts t (Some (make_act p n u t)))
  make_alike p (negsuc n) v u w t h k = (refl, refl, k)
  make_alike p (pos n) v u w t h k = (
    subst (λ (m : ℕ). A (v_array (length w.arrays) n) (v_array m n)) (as_many w.arrays t.arrays k.arrays) (alike_array (length w.arrays) n),
    record { arrays = one_more_array w.arrays t.arrays (copies n v) (copies n u) k.arrays (copies_alike n v u h); input = k.input; output = k.output },
  )

  element_alike : (p : Place) (o r : Option Value) (w t : World) → SomeValue o r → W w t
      → R (acts w (Some (on_element p o (λ v. act.gives v w)))) (acts t (Some (on_element p r (λ v. act.gives v t))))
  element_alike p None None w t h k = (refl, refl, k)
  element_alike p (Some v) (Some u) w t h k = (h, k)
  element_alike p None (Some u) w t h k = absurd h
  element_alike p (Some v) None w t h k = absurd h

  index_alike : (p : Place) (vs us : List Value) (i : ℤ) (w t : World) → alike_elements Code vs us → W w t
      → R (acts w (Some (at_index p vs i (λ j v. act.gives v w)))) (acts t (Some (at_index p us i (λ j v. act.gives v t))))
  index_alike p vs us (negsuc i) w t h k = (refl, refl, k)
  index_alike p vs us (pos i) w t h k = element_alike p (slice_get vs i) (slice_get us i) w t (get_value vs us i h) k

  fetch_alike : (p : Place) (o r : Option (List Value)) (i j : Value) (w t : World) → SomeElements o r → A i j → W w t
      → R (acts w (with_elements o (λ vs. on_whole i (λ k. Some (at_index p vs k (λ j v. act.gives v w)))))) (acts t (with_elements r (λ us. on_whole j (λ k. Some (at_index p us k (λ j v. act.gives v t))))))
  fetch_alike p None None i j w t h k l = tt
  fetch_alike p (Some vs) (Some us) i j w t h (alike_whole n) l = index_alike p vs us n w t h l
  fetch_alike p (Some vs) (Some us) i j w t h _ l = tt
  fetch_alike p None (Some us) i j w t h k l = absurd h
  fetch_alike p (Some vs) None i j w t h k l = absurd h

  stored_alike : (p : Place) (o r : Option Value) (vs us : List Value) (a i : ℕ) (v u : Value) (w t : World) → SomeValue o r → alike_elements Code vs us → A v u → W w t
      → R (acts w (Some (on_element p o (λ x. act.gives v_unit (record w { arrays = slice_set w.arrays a (slice_set vs i v) })))))
      (acts t (Some (on_element p r (λ x. act.gives v_unit (record t { arrays = slice_set t.arrays a (slice_set us i u) })))))
  stored_alike p None None vs us a i v u w t h e k l = (refl, refl, l)
  stored_alike p (Some x) (Some y) vs us a i v u w t h e k l = (
    alike_unit,
    record { arrays = set_elements w.arrays t.arrays a (slice_set vs i v) (slice_set us i u) l.arrays (set_value vs us i v u e k); input = l.input; output = l.output },
  )
  stored_alike p None (Some y) vs us a i v u w t h e k l = absurd h
  stored_alike p (Some x) None vs us a i v u w t h e k l = absurd h

  store_index : (p : Place) (vs us : List Value) (n : ℤ) (a : ℕ) (v u : Value) (w t : World) → alike_elements Code vs us → A v u → W w t
      → R (acts w (Some (at_index p vs n (λ j x. act.gives v_unit (record w { arrays = slice_set w.arrays a (slice_set vs j v) })))))
      (acts t (Some (at_index p us n (λ j x. act.gives v_unit (record t { arrays = slice_set t.arrays a (slice_set us j u) })))))
  store_index p vs us (negsuc i) a v u w t e k l = (refl, refl, l)
  store_index p vs us (pos i) a v u w t e k l = stored_alike p (slice_get vs i) (slice_get us i) vs us a i v u w t (get_value vs us i e) e k l

  store_elements : (p : Place) (o r : Option (List Value)) (a : ℕ) (i j v u : Value) (w t : World) → SomeElements o r → A i j → A v u → W w t
      → R (acts w (with_elements o (λ vs. on_whole i (λ n. Some (at_index p vs n (λ j x. act.gives v_unit (record w { arrays = slice_set w.arrays a (slice_set vs j v) })))))))
      (acts t (with_elements r (λ us. on_whole j (λ n. Some (at_index p us n (λ j x. act.gives v_unit (record t { arrays = slice_set t.arrays a (slice_set us j u) })))))))
  store_elements p None None a i j v u w t h k l m = tt
  store_elements p (Some vs) (Some us) a i j v u w t h (alike_whole n) l m = store_index p vs us n a v u w t h l m
  store_elements p (Some vs) (Some us) a i j v u w t h _ l m = tt
  store_elements p None (Some us) a i j v u w t h k l m = absurd h
  store_elements p (Some vs) None a i j v u w t h k l m = absurd h

  store_alike : (p : Place) (a b i j v u : Value) (w t : World) → A a b → A i j → A v u → W w t → R (acts w (store_act p a i v w)) (acts t (store_act p b j u t))
  store_alike p a b i j v u w t (alike_array r n) k l m = store_elements p (slice_get w.arrays r) (slice_get t.arrays r) r i j v u w t (get_elements w.arrays t.arrays r m.arrays) k l m
  store_alike p a b i j v u w t _ k l m = tt

  pub ternary_alike : (o : Ternary) (a b i j v u : Value) (w t : World) → A a b → A i j → A v u → W w t → R (acts w (ternary_act o a i v w)) (acts t (ternary_act o b j u t))
  ternary_alike (store p) a b i j v u w t h k l m = store_alike p a b i j v u w t h k l m

  whole_left : (x y : Value) (f g : ℤ → Option Act) (w t : World) → A x y → ((n : ℤ) → R (acts w (f n)) (acts t (g n))) → R (acts w (on_whole x f)) (acts t (on_whole y g))
  whole_left x y f g w t (alike_whole n) h = h n
  whole_left x y f g w t _ h = tt

  pub binary_alike : (o : Binary) (x y u v : Value) (w t : World) → A x y → A u v → W w t → R (acts w (binary_act o x u w)) (acts t (binary_act o y v t))
  binary_alike (arithmetic o) x y u v w t h k l =
      whole_left x y (λ m. on_whole u (λ n. Some (arithmetic_act o m n w))) (λ m. on_whole v (λ n. Some (arithmetic_act o m n t))) w t h (λ m.
      whole_left u v (λ n. Some (arithmetic_act o m n w)) (λ n. Some (arithmetic_act o m n t)) w t k (λ n. arithmetic_alike o m n w t l))
  binary_alike (comparison o) x y u v w t h k l =
      whole_left x y (λ m. on_whole u (λ n. Some (act.gives (v_flag (compares o m n)) w))) (λ m. on_whole v (λ n. Some (act.gives (v_flag (compares o m n)) t))) w t h (λ m.
      whole_left u v (λ n. Some (act.gives (v_flag (compares o m n)) w)) (λ n. Some (act.gives (v_flag (compares o m n)) t)) w t k (λ n. (alike_flag (compares o m n), l)))
  binary_alike (make p) x y u v w t h k l =
      whole_left x y (λ n. Some (make_act p n u w)) (λ n. Some (make_act p n v t)) w t h (λ n. make_alike p n u v w t k l)
  binary_alike (fetch p) x y u v w t (alike_array r n) k l = fetch_alike p (slice_get w.arrays r) (slice_get t.arrays r) u v w t (get_elements w.arrays t.arrays r l.arrays) k l
  binary_alike (fetch p) x y u v w t _ k l = tt

  assert_alike : (p : Place) (b : Bool) (w t : World) → W w t → R (acts w (Some (assert_act p b w))) (acts t (Some (assert_act p b t)))
  assert_alike p true w t h = (alike_unit, h)
  assert_alike p false w t h = (refl, refl, h)

  read_alike : (p : Place) (l : List ℤ) (w t : World) → W w t → R (acts w (Some (read_act p l w))) (acts t (Some (read_act p l t)))
  read_alike p [] w t h = (refl, h)
  read_alike p (n ∷ l) w t h = (alike_whole n, record { arrays = h.arrays; input = refl; output = h.output })

  pub unary_alike : (o : Operation) (x y : Value) (w t : World) → A x y → W w t → R (acts w (unary_act o x w)) (acts t (unary_act o y t))
  unary_alike negate x y w t (alike_whole n) h = (alike_whole (pos 0 -ℤ n), h)
  unary_alike negate x y w t _ h = tt
  unary_alike invert x y w t (alike_flag b) h = (alike_flag (not b), h)
  unary_alike invert x y w t _ h = tt
  unary_alike (assert p) x y w t (alike_flag b) h = assert_alike p b w t h
  unary_alike (assert p) x y w t _ h = tt
  unary_alike length_of x y w t (alike_array r n) h = (alike_whole (pos n), h)
  unary_alike length_of x y w t _ h = tt
  unary_alike print x y w t (alike_whole n) h = (alike_unit, record { arrays = h.arrays; input = h.input; output = ap (λ l. l ++ n ∷ []) h.output })
  unary_alike print x y w t _ h = tt
  unary_alike (read p) x y w t alike_unit h =
      subst (λ l. R (acts w (Some (read_act p w.input w))) (acts t (Some (read_act p l t)))) h.input (read_alike p w.input w t h)
  unary_alike (read p) x y w t _ h = tt

  -- ---- rows of values

  list_alike : (vs us : Values) → AllAlike Code vs us → A (list_value vs) (list_value us)
  list_alike vs us none_alike = alike_build 7 no_values no_values none_alike
  list_alike vs us (more_alike v u xs ys h k) =
      let r = list_alike xs ys k in
      alike_build 8 (more_values v (more_values (list_value xs) no_values)) (more_values u (more_values (list_value ys) no_values))
      (more_alike v u (more_values (list_value xs) no_values) (more_values (list_value ys) no_values) h (more_alike (list_value xs) (list_value ys) no_values no_values r none_alike))

  pub row_alike : (r : Row) (vs us : Values) → AllAlike Code vs us → A (row_value r vs) (row_value r us)
  row_alike tuple vs us h = alike_tuple vs us h
  row_alike (build c) vs us h = alike_build c vs us h
  row_alike list_of vs us h = list_alike vs us h
