-- Pure expressions: what they come to depends on no world, and on names before k alone.
use Rattle.std.proofs.Common.{◌≡◌, ℕ, ◌<◌, ◌≤◌, Bool, true, false, not, ◌&&◌, Option, Some, None, ◌⊎◌, inl, inr, refl, sym, ap, subst, ◌∙◌, arith}
use Rattle.std.proofs.Math.IntN.{ℤ, pos}
use Rattle.std.specs.Prelude.{◌+ℤ◌, ◌-ℤ◌, ◌*ℤ◌}
use Rattle.lq_base_names.specs.declared.operation.ArithOp.{ArithOp}
use Rattle.lq_base_names.specs.declared.operation.ArithOp.TheVariants as op
use Rattle.lq_base_names.specs.declared.operation.CompareOp.{CompareOp}
use Rattle.lq_base_names.specs.declared.place.Place.{Place}
use Rattle.lq_text_tree.specs.Tree as form
use Rattle.lq_text_tree.specs.Tree.{Tree, tree, Form}
use Rattle.lq_meaning_steps.specs.Model.Core.{Operation, negate, invert, length_of, Binary, arithmetic, comparison, Core, use_of, one, two, and_of, or_of, Value, v_whole, v_flag, v_unit, Pairs, value_in}
use Rattle.lq_meaning_steps.specs.Model.Operations as act
use Rattle.lq_meaning_steps.specs.Model.Operations.{World, Act, unary_act, binary_act, compares}
use Rattle.lq_meaning_steps.specs.Model.Meaning.{Answer, comes, gets_stuck, and_then, acts, looked_up, on_truth, choose, eval}
use Rattle.lq_meaning_steps.specs.Model.FromTree.{arithmetic_at, core_of, core_form}
use Rattle.lq_meaning_normal_form.specs.Outcomes.Naming.{is_pure_operator, is_pure, is_pure_form, plain}
use Rattle.lq_meaning_normal_form.specs.Outcomes.Alike.{Alike, alike_whole, alike_flag, alike_unit, alike_array}
use Rattle.lq_meaning_normal_form.specs.Outcomes.Named.{from, IsNamed, Avoids, AvoidsForm}
use Rattle.lq_meaning_normal_form.proofs.OutcomesLemmas.Alikes.{Found, found_in}
use Rattle.lq_meaning_normal_form.proofs.OutcomesLemmas.Patterns.{is_before}
use Rattle.lq_meaning_normal_form.proofs.OutcomesLemmas.Running.{Agree, agree_self, A, P, R, OperandKeeps, one_eval, two_eval}

pub both_true : (a b : Bool) → (a && b) ≡ true → (a ≡ true) × (b ≡ true)
both_true true true h = (refl, refl)
both_true true false h = cc
both_true false true h = cc
both_true false false h = cc

module _ (base : ℕ) where
  -- operations that give values that are alike in every world, or the first one none
  abbrev pub Gives : (World → Option Act) → (World → Option Act) → Type 0
  Gives f g =
      ((v : Value) × (u : Value) × Alike (IsNamed base) v u × ((w : World) → f w ≡ Some (act.gives v w)) × ((w : World) → g w ≡ Some (act.gives u w)))
      ⊎ ((w : World) → f w ≡ None)

  pub negate_gives : (x y : Value) → Alike (IsNamed base) x y → Gives (unary_act negate x) (unary_act negate y)
  negate_gives x y (alike_whole n) = inl (v_whole (pos 0 -ℤ n), v_whole (pos 0 -ℤ n), alike_whole (pos 0 -ℤ n), λ w. refl, λ w. refl)
  negate_gives x y _ = inr (λ w. refl)

  pub invert_gives : (x y : Value) → Alike (IsNamed base) x y → Gives (unary_act invert x) (unary_act invert y)
  invert_gives x y (alike_flag b) = inl (v_flag (not b), v_flag (not b), alike_flag (not b), λ w. refl, λ w. refl)
  invert_gives x y _ = inr (λ w. refl)

  pub length_gives : (x y : Value) → Alike (IsNamed base) x y → Gives (unary_act length_of x) (unary_act length_of y)
  length_gives x y (alike_array r n) = inl (v_whole (pos n), v_whole (pos n), alike_whole (pos n), λ w. refl, λ w. refl)
  length_gives x y _ = inr (λ w. refl)

  whole_gives : (o : ArithOp) (p : Place) (m n : ℤ) → is_pure_operator o ≡ true → Gives (binary_act (arithmetic (arithmetic_at p o)) (v_whole m) (v_whole n)) (binary_act (arithmetic (arithmetic_at p o)) (v_whole m) (v_whole n))
  whole_gives op.Add p m n h = inl (v_whole (m +ℤ n), v_whole (m +ℤ n), alike_whole (m +ℤ n), λ w. refl, λ w. refl)
  whole_gives op.Sub p m n h = inl (v_whole (m -ℤ n), v_whole (m -ℤ n), alike_whole (m -ℤ n), λ w. refl, λ w. refl)
  whole_gives op.Mul p m n h = inl (v_whole (m *ℤ n), v_whole (m *ℤ n), alike_whole (m *ℤ n), λ w. refl, λ w. refl)
  whole_gives op.Div p m n h = cc
  whole_gives op.Mod p m n h = cc

  pub arithmetic_gives : (o : ArithOp) (p : Place) → is_pure_operator o ≡ true → (x y u v : Value) → Alike (IsNamed base) x y → Alike (IsNamed base) u v
      → Gives (binary_act (arithmetic (arithmetic_at p o)) x u) (binary_act (arithmetic (arithmetic_at p o)) y v)
  arithmetic_gives o p is x y u v (alike_whole m) (alike_whole n) = whole_gives o p m n is
  arithmetic_gives o p is x y u v (alike_whole m) _ = inr (λ w. refl)
  arithmetic_gives o p is x y u v _ k = inr (λ w. refl)

  pub comparison_gives : (o : CompareOp) (x y u v : Value) → Alike (IsNamed base) x y → Alike (IsNamed base) u v → Gives (binary_act (comparison o) x u) (binary_act (comparison o) y v)
  comparison_gives o x y u v (alike_whole m) (alike_whole n) = inl (v_flag (compares o m n), v_flag (compares o m n), alike_flag (compares o m n), λ w. refl, λ w. refl)
  comparison_gives o x y u v (alike_whole m) _ = inr (λ w. refl)
  comparison_gives o x y u v _ k = inr (λ w. refl)

module _ (base : ℕ) (called : Value → Value → World → Answer) where
  -- the same as a tree that stays, of an expression
  abbrev pub Settles : ℕ → Core → Pairs → Value → Type 0
  Settles k c g u = (h : Pairs) → Agree k g h → (w : World) → eval called c h w ≡ comes u w

  -- it comes to values that are alike, in each world, or is stuck in each on the left
  abbrev pub IsPureAt : ℕ → Core → Pairs → Pairs → Type 0
  IsPureAt k c d g =
      ((v : Value) × (u : Value) × A base called v u × ((w : World) → eval called c d w ≡ comes v w) × Settles k c g u)
      ⊎ ((w : World) → eval called c d w ≡ gets_stuck w)

  one_pure : (k : ℕ) (o : Operation) (c : Core) (d g : Pairs) → ((x y : Value) → A base called x y → Gives base (unary_act o x) (unary_act o y)) → IsPureAt k c d g → IsPureAt k (one o c) d g
  one_pure k o c d g gives (inl h) = by (gives h.0 h.1 h.2)
    where
      by : Gives base (unary_act o h.0) (unary_act o h.1) → IsPureAt k (one o c) d g
      by (inl s) =
          inl (
            s.0,
            s.1,
            s.2,
            λ w. one_eval base called c d w h.0 (λ v u. acts u (unary_act o v u)) (h.3 w) ∙ ap (acts w) (s.3 w),
            λ j agree w. one_eval base called c j w h.1 (λ v u. acts u (unary_act o v u)) (h.4 j agree w) ∙ ap (acts w) (s.4 w),
          )
      by (inr s) = inr (λ w. one_eval base called c d w h.0 (λ v u. acts u (unary_act o v u)) (h.3 w) ∙ ap (acts w) (s w))
  one_pure k o c d g gives (inr h) = inr (λ w. ap (λ r. and_then r (λ v u. acts u (unary_act o v u))) (h w))

  two_pure : (k : ℕ) (o : Binary) (a b : Core) (d g : Pairs) → ((x y u v : Value) → A base called x y → A base called u v → Gives base (binary_act o x u) (binary_act o y v))
      → IsPureAt k a d g → IsPureAt k b d g → IsPureAt k (two o a b) d g
  two_pure k o a b d g gives (inl h) (inl l) = by (gives h.0 h.1 l.0 l.1 h.2 l.2)
    where
      by : Gives base (binary_act o h.0 l.0) (binary_act o h.1 l.1) → IsPureAt k (two o a b) d g
      by (inl s) =
          inl (
            s.0,
            s.1,
            s.2,
            λ w. two_eval base called a b d w h.0 l.0 (λ x y t. acts t (binary_act o x y t)) (h.3 w) (l.3 w) ∙ ap (acts w) (s.3 w),
            λ j agree w. two_eval base called a b j w h.1 l.1 (λ x y t. acts t (binary_act o x y t)) (h.4 j agree w) (l.4 j agree w) ∙ ap (acts w) (s.4 w),
          )
      by (inr s) = inr (λ w. two_eval base called a b d w h.0 l.0 (λ x y t. acts t (binary_act o x y t)) (h.3 w) (l.3 w) ∙ ap (acts w) (s w))
  two_pure k o a b d g gives (inl h) (inr l) =
      inr (λ w. one_eval base called a d w h.0 (λ x u. and_then (eval called b d u) (λ y t. acts t (binary_act o x y t))) (h.3 w) ∙ ap (λ r. and_then r (λ y t. acts t (binary_act o h.0 y t))) (l w))
  two_pure k o a b d g gives (inr h) l = inr (λ w. ap (λ r. and_then r (λ x u. and_then (eval called b d u) (λ y t. acts t (binary_act o x y t)))) (h w))

  and_pure : (k : ℕ) (a b : Core) (d g : Pairs) → IsPureAt k a d g → IsPureAt k b d g → IsPureAt k (and_of a b) d g
  and_pure k a b d g (inr h) l = inr (λ w. ap (λ r. and_then r (λ x u. on_truth x (λ t s. choose t (λ q. eval called b d q) (comes (v_flag false)) s) u)) (h w))
  and_pure k a b d g (inl h) l = by h.0 h.1 h.2 h.3 h.4 l
    where
      by : (v u : Value) → A base called v u → ((w : World) → eval called a d w ≡ comes v w) → Settles k a g u → IsPureAt k b d g → IsPureAt k (and_of a b) d g
      by v u (alike_flag true) x y (inl m) =
          inl (
            m.0,
            m.1,
            m.2,
            λ w. one_eval base called a d w (v_flag true) (λ x u. on_truth x (λ t s. choose t (λ q. eval called b d q) (comes (v_flag false)) s) u) (x w) ∙ m.3 w,
            λ j agree w. one_eval base called a j w (v_flag true) (λ x u. on_truth x (λ t s. choose t (λ q. eval called b j q) (comes (v_flag false)) s) u) (y j agree w) ∙ m.4 j agree w,
          )
      by v u (alike_flag true) x y (inr m) =
          inr (λ w. one_eval base called a d w (v_flag true) (λ x u. on_truth x (λ t s. choose t (λ q. eval called b d q) (comes (v_flag false)) s) u) (x w) ∙ m w)
      by v u (alike_flag false) x y m =
          inl (
            v_flag false,
            v_flag false,
            alike_flag false,
            λ w. one_eval base called a d w (v_flag false) (λ x u. on_truth x (λ t s. choose t (λ q. eval called b d q) (comes (v_flag false)) s) u) (x w),
            λ j agree w. one_eval base called a j w (v_flag false) (λ x u. on_truth x (λ t s. choose t (λ q. eval called b j q) (comes (v_flag false)) s) u) (y j agree w),
          )
      by v u _ x y m = inr (λ w. one_eval base called a d w v (λ x u. on_truth x (λ t s. choose t (λ q. eval called b d q) (comes (v_flag false)) s) u) (x w))

  or_pure : (k : ℕ) (a b : Core) (d g : Pairs) → IsPureAt k a d g → IsPureAt k b d g → IsPureAt k (or_of a b) d g
  or_pure k a b d g (inr h) l = inr (λ w. ap (λ r. and_then r (λ x u. on_truth x (λ t s. choose t (comes (v_flag true)) (λ q. eval called b d q) s) u)) (h w))
  or_pure k a b d g (inl h) l = by h.0 h.1 h.2 h.3 h.4 l
    where
      by : (v u : Value) → A base called v u → ((w : World) → eval called a d w ≡ comes v w) → Settles k a g u → IsPureAt k b d g → IsPureAt k (or_of a b) d g
      by v u (alike_flag false) x y (inl m) =
          inl (
            m.0,
            m.1,
            m.2,
            λ w. one_eval base called a d w (v_flag false) (λ x u. on_truth x (λ t s. choose t (comes (v_flag true)) (λ q. eval called b d q) s) u) (x w) ∙ m.3 w,
            λ j agree w. one_eval base called a j w (v_flag false) (λ x u. on_truth x (λ t s. choose t (comes (v_flag true)) (λ q. eval called b j q) s) u) (y j agree w) ∙ m.4 j agree w,
          )
      by v u (alike_flag false) x y (inr m) =
          inr (λ w. one_eval base called a d w (v_flag false) (λ x u. on_truth x (λ t s. choose t (comes (v_flag true)) (λ q. eval called b d q) s) u) (x w) ∙ m w)
      by v u (alike_flag true) x y m =
          inl (
            v_flag true,
            v_flag true,
            alike_flag true,
            λ w. one_eval base called a d w (v_flag true) (λ x u. on_truth x (λ t s. choose t (comes (v_flag true)) (λ q. eval called b d q) s) u) (x w),
            λ j agree w. one_eval base called a j w (v_flag true) (λ x u. on_truth x (λ t s. choose t (comes (v_flag true)) (λ q. eval called b j q) s) u) (y j agree w),
          )
      by v u _ x y m = inr (λ w. one_eval base called a d w v (λ x u. on_truth x (λ t s. choose t (comes (v_flag true)) (λ q. eval called b d q) s) u) (x w))

  use_pure : (k x : ℕ) (d g : Pairs) → x < k → (o r : Option Value) → value_in d x ≡ o → value_in g x ≡ r → Found (IsNamed base) o r → IsPureAt k (use_of x) d g
  use_pure k x d g lt None r e f h = inr (λ w. ap (λ o. looked_up o w) e)
  use_pure k x d g lt (Some v) None e f h = absurd h
  use_pure k x d g lt (Some v) (Some u) e f h = inl (v, u, h, λ w. ap (λ o. looked_up o w) e, λ j agree w. ap (λ o. looked_up o w) (agree x lt ∙ f))

  mutual
    pub pure_at : (t : Tree) → is_pure t ≡ true → Avoids (from base) t → (k : ℕ) → base ≤ k → (d g : Pairs) → P base called d g → IsPureAt k (core_of t) d g
    pure_at (tree i p f) is av k le d g rel = pure_form f p is av k le d g rel

    pure_form : (f : Form) (p : Place) → is_pure_form f ≡ true → AvoidsForm (from base) f → (k : ℕ) → base ≤ k → (d g : Pairs) → P base called d g → IsPureAt k (core_form p f) d g
    pure_form (form.whole n) p is av k le d g rel = inl (v_whole n, v_whole n, alike_whole n, λ w. refl, λ j agree w. refl)
    pure_form (form.flag b) p is av k le d g rel = inl (v_flag b, v_flag b, alike_flag b, λ w. refl, λ j agree w. refl)
    pure_form form.unit p is av k le d g rel = inl (v_unit, v_unit, alike_unit, λ w. refl, λ j agree w. refl)
    pure_form (form.use_of x) p is av k le d g rel =
        let lt = is_before base x av in let lt2 : x < k = omega (arith, lt, le) in
        use_pure k x d g lt2 (value_in d x) (value_in g x) refl refl (found_in (IsNamed base) (from base) d g rel x av)
    pure_form (form.arithmetic o a b) p is av k le d g rel =
        let h = both_true (is_pure_operator o) (is_pure a && is_pure b) is in
        let l = both_true (is_pure a) (is_pure b) h.1 in
        two_pure k (arithmetic (arithmetic_at p o)) (core_of a) (core_of b) d g (arithmetic_gives base o p h.0) (pure_at a l.0 av.0 k le d g rel) (pure_at b l.1 av.1 k le d g rel)
    pure_form (form.negated e) p is av k le d g rel = one_pure k negate (core_of e) d g (negate_gives base) (pure_at e is av k le d g rel)
    pure_form (form.compare o a b) p is av k le d g rel =
        let l = both_true (is_pure a) (is_pure b) is in
        two_pure k (comparison o) (core_of a) (core_of b) d g (comparison_gives base o) (pure_at a l.0 av.0 k le d g rel) (pure_at b l.1 av.1 k le d g rel)
    pure_form (form.not_of e) p is av k le d g rel = one_pure k invert (core_of e) d g (invert_gives base) (pure_at e is av k le d g rel)
    pure_form (form.and_of a b) p is av k le d g rel =
        let l = both_true (is_pure a) (is_pure b) is in and_pure k (core_of a) (core_of b) d g (pure_at a l.0 av.0 k le d g rel) (pure_at b l.1 av.1 k le d g rel)
    pure_form (form.or_of a b) p is av k le d g rel =
        let l = both_true (is_pure a) (is_pure b) is in or_pure k (core_of a) (core_of b) d g (pure_at a l.0 av.0 k le d g rel) (pure_at b l.1 av.1 k le d g rel)
    pure_form (form.length_of e) p is av k le d g rel = one_pure k length_of (core_of e) d g (length_gives base) (pure_at e is av k le d g rel)
    pure_form _ p is av k le d g rel = cc

  -- what is pure stands as it is
  pub pure_operand : (k : ℕ) (t : Tree) (d g : Pairs) → P base called d g → IsPureAt k (core_of t) d g → OperandKeeps base called k (plain k t) (core_of t) d g
  pure_operand k t d g rel (inl h) w s world go next l =
      subst (λ r. R base called (and_then r go) (next g s)) (sym (h.3 w)) (l g h.0 h.1 w s rel (agree_self k g) h.2 world h.4)
  pure_operand k t d g rel (inr h) w s world go next l = subst (λ r. R base called (and_then r go) (next g s)) (sym (h w)) tt
