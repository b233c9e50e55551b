-- Operations on values of their types.
use Rattle.std.proofs.Common.{◌≡◌, ℕ, zero, suc, ℤ, Bool, true, false, if◌then◌else◌, List, [], ◌∷◌, ◌++◌, slice_get, slice_set, Option, Some, None, refl, sym, subst}
use Rattle.std.proofs.Math.IntN.{pos, negsuc}
use Rattle.std.specs.Ordering.{int_eq}
use Rattle.lq_base_names.specs.declared.place.Place.{Place}
use Rattle.lq_text_tree.specs.MlType as ml
use Rattle.lq_text_tree.specs.MlType.{MlType, MlTypes}
use Rattle.lq_meaning_steps.specs.declared.model.fault.FaultKind.{FaultKind}
use Rattle.lq_meaning_steps.specs.Model.Core.{Operation, negate, invert, assert, length_of, print, read, Arithmetic, sum, difference, product, quotient, remainder, Binary, arithmetic, comparison, make, fetch, Ternary, store, Value, v_whole, v_unit, v_array}
use Rattle.lq_meaning_steps.specs.Model.Operations as act
use Rattle.lq_meaning_steps.specs.Model.Operations.{World, Act, arithmetic_act, copies, make_act, on_element, at_index, with_elements, fetch_act, store_act, unary_act, binary_act, ternary_act, read_act, assert_act}
use Rattle.lq_meaning_steps.specs.Model.Step.{Next, goes, faults, ends, done}
use Rattle.lq_meaning_steps.specs.Model.StepFunction.{acted}
use Rattle.lq_text_tree.specs.Types.{Signature}
use Rattle.lq_meaning_steps.specs.Progress.Typing.{Table, UnaryHas, BinaryHas, TernaryHas, Has, ValueHas, EachHas, FitsStore, Extends}
use Rattle.lq_meaning_steps.proofs.ProgressLemmas.Look.{looks}
use Rattle.lq_meaning_steps.proofs.ProgressLemmas.Growing.{extends_refl, extends_append, each_grows, stored_grow, stored_push, type_pushed, stored_at, stored_set, each_at, each_set}

-- what a step gives keeps the type
abbrev pub Keeps : Signature → Table → MlType → Next → Type 0
Keeps g t a (goes d w) = (u : Table) × Extends t u × Has g u [] d a × FitsStore g u w.arrays
Keeps g t a (faults k p) = Unit {0}
Keeps g t a (ends p) = Unit {0}

-- there is a step, and what it gives keeps the type
abbrev pub Moves : Signature → Table → MlType → Option Next → Type 0
Moves g t a None = ⊥
Moves g t a (Some n) = Keeps g t a n

module _ (g : Signature) (t : Table) where
  given : (v : Value) (w : World) (a : MlType) → ValueHas g t v a → FitsStore g t w.arrays → Keeps g t a (done (act.gives v w))
  given v w a h s = (t, extends_refl t, h, s)

  divided : (b : Bool) (k : FaultKind) (p : Place) (n : ℤ) (w : World) → FitsStore g t w.arrays → Keeps g t ml.int (done (if b then act.faults k p else act.gives (v_whole n) w))
  divided true k p n w s = tt
  divided false k p n w s = given (v_whole n) w ml.int refl s

  calculated : (o : Arithmetic) (m n : ℤ) (w : World) → FitsStore g t w.arrays → Keeps g t ml.int (done (arithmetic_act o m n w))
  calculated sum m n w s = (t, extends_refl t, refl, s)
  calculated difference m n w s = (t, extends_refl t, refl, s)
  calculated product m n w s = (t, extends_refl t, refl, s)
  calculated (quotient p) m n w s = divided (int_eq n (pos 0)) _ p _ w s
  calculated (remainder p) m n w s = divided (int_eq n (pos 0)) _ p _ w s

  each_copied : (n : ℕ) (v : Value) (a : MlType) → ValueHas g t v a → EachHas g t a (copies n v)
  each_copied zero v a h = tt
  each_copied (suc n) v a h = (h, each_copied n v a h)

  made : (p : Place) (n : ℤ) (v : Value) (a : MlType) (w : World) → ValueHas g t v a → FitsStore g t w.arrays → Keeps g t (ml.array a) (done (make_act p n v w))
  made p (negsuc n) v a w h s = tt
  made p (pos n) v a w h s =
      let u = t ++ a ∷ [] in
      let k : Extends t u = extends_append t (a ∷ []) in
      (u, k, (a, refl, type_pushed g t t w.arrays a s), stored_push g u t w.arrays a (copies n v) (stored_grow g t u k t w.arrays s) (each_grows g t u k a (copies n v) (each_copied n v a h)))

  -- ---- elements

  on_some : (p : Place) (a : MlType) (o : Option Value) (go : Value → Act) → ((v : Value) → o ≡ Some v → Keeps g t a (done (go v))) → Keeps g t a (done (on_element p o go))
  on_some p a None go h = tt
  on_some p a (Some v) go h = h v refl

  indexed : (p : Place) (a : MlType) (vs : List Value) (n : ℤ) (go : ℕ → Value → Act) → ((i : ℕ) (v : Value) → slice_get vs i ≡ Some v → Keeps g t a (done (go i v)))
      → Keeps g t a (done (at_index p vs n go))
  indexed p a vs (negsuc n) go h = tt
  indexed p a vs (pos i) go h = on_some p a (slice_get vs i) (go i) (h i)

  of_array : (a b : MlType) (r : ℕ) (w : World) (go : List Value → Option Act) → slice_get t r ≡ Some b → FitsStore g t w.arrays
      → ((vs : List Value) → EachHas g t b vs → Moves g t a (acted (go vs))) → Moves g t a (acted (with_elements (slice_get w.arrays r) go))
  of_array a b r w go e s h =
      let p = stored_at g t t w.arrays r b s e in subst (λ o. Moves g t a (acted (with_elements o go))) (sym p.1) (h p.0 p.2)

  fetched : (p : Place) (d i : Value) (a : MlType) (w : World) → ValueHas g t d (ml.array a) → ValueHas g t i ml.int → FitsStore g t w.arrays → Moves g t a (acted (fetch_act p d i w))
  fetched p d i a w h k s =
      let l = looks g t d (ml.array a) h in
      let n = looks g t i ml.int k in
      subst (λ x. Moves g t a (acted (fetch_act p x i w))) (sym l.2)
      (subst (λ x. Moves g t a (acted (fetch_act p (v_array l.0 l.1) x w))) (sym n.1)
      (of_array a a l.0 w _ l.3 s (λ vs e. indexed p a vs n.0 (λ j v. act.gives v w) (λ j v f. given v w a (each_at g t a vs j v e f) s))))

  stored : (p : Place) (d i v : Value) (a : MlType) (w : World) → ValueHas g t d (ml.array a) → ValueHas g t i ml.int → ValueHas g t v a → FitsStore g t w.arrays
      → Moves g t ml.unit (acted (store_act p d i v w))
  stored p d i v a w h k m s =
      let l = looks g t d (ml.array a) h in
      let n = looks g t i ml.int k in
      subst (λ x. Moves g t ml.unit (acted (store_act p x i v w))) (sym l.2)
      (subst (λ x. Moves g t ml.unit (acted (store_act p (v_array l.0 l.1) x v w))) (sym n.1)
      (of_array ml.unit a l.0 w _ l.3 s (λ vs e. indexed p ml.unit vs n.0 _
      (λ j u f. (t, extends_refl t, refl, stored_set g t t w.arrays l.0 a (slice_set vs j v) s l.3 (each_set g t a vs j v e m))))))

  -- ---- the operations

  pub binary_moves : (o : Binary) (u v : Value) (a b c : MlType) (w : World) → BinaryHas o a b c → ValueHas g t u a → ValueHas g t v b → FitsStore g t w.arrays → Moves g t c (acted (binary_act o u v w))
  binary_moves (arithmetic o) u v a b c w h k m s =
      let x = looks g t u ml.int (subst (λ y. ValueHas g t u y) h.0 k) in
      let y = looks g t v ml.int (subst (λ z. ValueHas g t v z) h.1 m) in
      subst (λ z. Moves g t z (acted (binary_act (arithmetic o) u v w))) (sym h.2)
      (subst (λ z. Moves g t ml.int (acted (binary_act (arithmetic o) z v w))) (sym x.1)
      (subst (λ z. Moves g t ml.int (acted (binary_act (arithmetic o) (v_whole x.0) z w))) (sym y.1) (calculated o x.0 y.0 w s)))
  binary_moves (comparison o) u v a b c w h k m s =
      let x = looks g t u ml.int (subst (λ y. ValueHas g t u y) h.0 k) in
      let y = looks g t v ml.int (subst (λ z. ValueHas g t v z) h.1 m) in
      subst (λ z. Moves g t z (acted (binary_act (comparison o) u v w))) (sym h.2)
      (subst (λ z. Moves g t ml.bool (acted (binary_act (comparison o) z v w))) (sym x.1)
      (subst (λ z. Moves g t ml.bool (acted (binary_act (comparison o) (v_whole x.0) z w))) (sym y.1) (t, extends_refl t, refl, s)))
  binary_moves (make p) u v a b c w h k m s =
      let x = looks g t u ml.int (subst (λ y. ValueHas g t u y) h.0 k) in
      subst (λ z. Moves g t z (acted (binary_act (make p) u v w))) (sym h.1)
      (subst (λ z. Moves g t (ml.array b) (acted (binary_act (make p) z v w))) (sym x.1) (made p x.0 v b w m s))
  binary_moves (fetch p) u v a b c w h k m s =
      fetched p u v c w (subst (λ y. ValueHas g t u y) h.0 k) (subst (λ z. ValueHas g t v z) h.1 m) s

  pub ternary_moves : (o : Ternary) (d u v : Value) (a b c e : MlType) (w : World) → TernaryHas o a b c e → ValueHas g t d a → ValueHas g t u b → ValueHas g t v c → FitsStore g t w.arrays
      → Moves g t e (acted (ternary_act o d u v w))
  ternary_moves (store p) d u v a b c e w h k m n s =
      subst (λ x. Moves g t x (acted (ternary_act (store p) d u v w))) (sym h.2)
      (stored p d u v c w (subst (λ y. ValueHas g t d y) h.0 k) (subst (λ y. ValueHas g t u y) h.1 m) n s)

  checked : (p : Place) (b : Bool) (w : World) → FitsStore g t w.arrays → Keeps g t ml.unit (done (assert_act p b w))
  checked p true w s = given v_unit w ml.unit refl s
  checked p false w s = tt

  read_on : (p : Place) (ns : List ℤ) (w : World) → FitsStore g t w.arrays → Keeps g t ml.int (done (read_act p ns w))
  read_on p [] w s = tt
  read_on p (n ∷ ns) w s = given (v_whole n) (record w { input = ns }) ml.int refl s

  pub unary_moves : (o : Operation) (v : Value) (a c : MlType) (w : World) → UnaryHas o a c → ValueHas g t v a → FitsStore g t w.arrays → Moves g t c (acted (unary_act o v w))
  unary_moves negate v a c w h k s =
      let x = looks g t v ml.int (subst (λ y. ValueHas g t v y) h.0 k) in
      subst (λ z. Moves g t z (acted (unary_act negate v w))) (sym h.1)
      (subst (λ z. Moves g t ml.int (acted (unary_act negate z w))) (sym x.1) (t, extends_refl t, refl, s))
  unary_moves invert v a c w h k s =
      let x = looks g t v ml.bool (subst (λ y. ValueHas g t v y) h.0 k) in
      subst (λ z. Moves g t z (acted (unary_act invert v w))) (sym h.1)
      (subst (λ z. Moves g t ml.bool (acted (unary_act invert z w))) (sym x.1) (t, extends_refl t, refl, s))
  unary_moves (assert p) v a c w h k s =
      let x = looks g t v ml.bool (subst (λ y. ValueHas g t v y) h.0 k) in
      subst (λ z. Moves g t z (acted (unary_act (assert p) v w))) (sym h.1)
      (subst (λ z. Moves g t ml.unit (acted (unary_act (assert p) z w))) (sym x.1) (checked p x.0 w s))
  unary_moves length_of v a c w h k s =
      let x = looks g t v (ml.array h.0) (subst (λ y. ValueHas g t v y) h.1 k) in
      subst (λ z. Moves g t z (acted (unary_act length_of v w))) (sym h.2)
      (subst (λ z. Moves g t ml.int (acted (unary_act length_of z w))) (sym x.2) (t, extends_refl t, refl, s))
  unary_moves print v a c w h k s =
      let x = looks g t v ml.int (subst (λ y. ValueHas g t v y) h.0 k) in
      subst (λ z. Moves g t z (acted (unary_act print v w))) (sym h.1)
      (subst (λ z. Moves g t ml.unit (acted (unary_act print z w))) (sym x.1) (given v_unit (record w { output = w.output ++ x.0 ∷ [] }) ml.unit refl s))
  unary_moves (read p) v a c w h k s =
      let x = looks g t v ml.unit (subst (λ y. ValueHas g t v y) h.0 k) in
      subst (λ z. Moves g t z (acted (unary_act (read p) v w))) (sym h.1)
      (subst (λ z. Moves g t ml.int (acted (unary_act (read p) z w))) (sym x) (read_on p w.input w s))
