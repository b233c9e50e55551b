-- Pure expressions of numbers, of truth values and of type unit.
use Rattle.std.proofs.Common.{◌≡◌, ℕ, suc, ℤ, pos, ◌&&◌, ◌||◌, Bool, true, false, cond, ◌==◌, [], ◌∷◌, Option, Some, None, refl, sym, ap, ◌∙◌, subst, if◌then◌else◌}
use Rattle.lq_base_names.specs.declared.operation.CompareOp.{CompareOp}
use Rattle.lq_base_names.specs.declared.operation.CompareOp.TheVariants as test
use Rattle.lq_logic_predicates.specs.declared.symbol.Symbol.{Symbol}
use Rattle.lq_logic_predicates.specs.declared.symbol.Symbol.TheVariants as symbol
use Rattle.lq_logic_predicates.specs.Sum as s
use Rattle.lq_logic_predicates.specs.Sum.{Sum, same_symbol}
use Rattle.lq_logic_predicates.specs.Formula as f
use Rattle.lq_logic_predicates.specs.Formula.{Formula}
use Rattle.lq_logic_predicates.specs.Truth as truths
use Rattle.lq_logic_predicates.specs.Truth.{truth_of, term_value}
use Rattle.lq_text_tree.specs.MlType as ml
use Rattle.lq_text_tree.specs.MlType.{MlType}
use Rattle.lq_meaning_steps.specs.Model.Core.{Core, val, use_of, one, two, and_of, or_of, Operation, Binary, negate, invert, length_of, arithmetic, sum, difference, product, comparison, Value, v_whole, v_flag, v_unit, v_array, value_in, replaced, close, as_value}
use Rattle.lq_meaning_steps.specs.Model.Operations as act
use Rattle.lq_meaning_steps.specs.Model.Operations.{World, gives, unary_act, binary_act}
use Rattle.lq_meaning_steps.specs.Model.Step.{goes, in_one, in_left, in_right, in_and, in_or}
use Rattle.lq_meaning_steps.specs.Model.StepFunction.{step}
use Rattle.lq_refined_types.specs.Types.Context.{Context, type_in}
use Rattle.lq_refined_types.specs.Types.Operations.{symbol_of}
use Rattle.lq_refined_types.specs.Types.Laws.{KeepSimpleTypes}
use Rattle.lq_refined_types.specs.Types.Refined.{Refined, int_with, bool_with, unit_type, function, tuple_of, array_with, data_with, map_with, type_variable, erased}
use Rattle.lq_refined_rules.specs.Checks.Fitting.{Fits, fits_none, fits_bind, fits_guard}
use Rattle.lq_refined_rules.specs.Checks.Basis.{Basis}
use Rattle.lq_refined_rules.specs.Checks.Pure.{sum_of, formula_of}
use Rattle.lq_refined_rules.specs.Checks.Pure as pures
use Rattle.lq_refined_rules.specs.Checks.Tree as tree
use Rattle.lq_refined_rules.specs.Checks.Tree.{Use, Pure}
use Rattle.lq_refined_rules.specs.Checks.Typing.{Points, AreTemplates, Types, simple_type_in, type_of_use, HasPure, has_whole, has_flag, has_unit, has_use, has_negated, has_add, has_subtract, has_multiply, has_length, has_compare, has_not, has_and, has_or}
use Rattle.lq_refined_rules.specs.Checks.Typing as typing
use Rattle.lq_sound_values.specs.Inhabitants.Truth.{Givens, value_at, as_number, as_flag, as_object, Objects, meaning_of, Scene}
use Rattle.lq_sound_values.specs.Inhabitants.Shut.{shut, Shuts}
use Rattle.lq_sound_values.specs.Inhabitants.Inhabits.{Table, Inhabits}
use Rattle.lq_sound_values.specs.Inhabitants.Runs.{RunsWell}
use Rattle.lq_sound_values.proofs.InhabitantsLemmas.Running.{runs_value, runs_step}
use Rattle.lq_sound_values.specs.Inclusion.Laws.{IsScene}
use Rattle.lq_sound_values.specs.Inclusion.Symbols.{TypeOn}
use Rattle.lq_sound_values.specs.Instantiation.Laws.{InstancedTypesOn, InstancesAreThere}
use Rattle.lq_refined_types.specs.Parts.Assignment.{Assignment}
use Rattle.lq_text_tree.specs.Types as types
use Rattle.lq_sound_values.specs.Runs.Closed.{names_in, IsClosed}
use Rattle.lq_sound_forms.specs.Pures.Cores.{pure_core}
use Rattle.lq_sound_values.specs.Runs.Meets.{pair_of, pairs, Variables, Meets}
use Rattle.lq_sound_forms.specs.Pures.Pures.{KnowsLengths, scene_of, EachUse, IsOf, ArgumentsOver, UseOver, PureOver, IsGeneralFor, UseIn, PureIn}
use Rattle.lq_sound_values.specs.Runs.Runs.{Exactly, RunsExactly, RunsToTruth, RunsToNumber, RunsToUnit}
use Rattle.lq_sound_values.proofs.RunsLemmas.Framing.{runs_in}
use Rattle.lq_sound_values.proofs.RunsLemmas.Lower.{Lower}
use Rattle.lq_sound_values.proofs.RunsLemmas.Meeting.{Looked, look}

-- ---- typing as a function of the expression

abbrev pub PureIs : Points → Types → Pure → MlType → Type 0
PureIs Q Δ (tree.whole n) a = a ≡ ml.int
PureIs Q Δ (tree.flag b) a = a ≡ ml.bool
PureIs Q Δ tree.unit a = a ≡ ml.unit
PureIs Q Δ (tree.use_of u) a = a ≡ type_of_use Q Δ u
PureIs Q Δ (tree.negated e) a = (a ≡ ml.int) × PureIs Q Δ e ml.int
PureIs Q Δ (tree.add d e) a = (a ≡ ml.int) × PureIs Q Δ d ml.int × PureIs Q Δ e ml.int
PureIs Q Δ (tree.subtract d e) a = (a ≡ ml.int) × PureIs Q Δ d ml.int × PureIs Q Δ e ml.int
PureIs Q Δ (tree.multiply d e) a = (a ≡ ml.int) × PureIs Q Δ d ml.int × PureIs Q Δ e ml.int
PureIs Q Δ (tree.length_of e) a = (a ≡ ml.int) × ((u : MlType) × PureIs Q Δ e (ml.array u))
PureIs Q Δ (tree.compare o d e) a = (a ≡ ml.bool) × PureIs Q Δ d ml.int × PureIs Q Δ e ml.int
PureIs Q Δ (tree.not_of e) a = (a ≡ ml.bool) × PureIs Q Δ e ml.bool
PureIs Q Δ (tree.and_of d e) a = (a ≡ ml.bool) × PureIs Q Δ d ml.bool × PureIs Q Δ e ml.bool
PureIs Q Δ (tree.or_of d e) a = (a ≡ ml.bool) × PureIs Q Δ d ml.bool × PureIs Q Δ e ml.bool

pub pure_is : (Q : Points) (Δ : Types) (e : Pure) (a : MlType) → HasPure Q Δ e a → PureIs Q Δ e a
pure_is Q Δ _ _ has_whole = refl
pure_is Q Δ _ _ has_flag = refl
pure_is Q Δ _ _ has_unit = refl
pure_is Q Δ _ _ has_use = refl
pure_is Q Δ _ _ (has_negated h) = (refl, pure_is Q Δ _ _ h)
pure_is Q Δ _ _ (has_add h k) = (refl, pure_is Q Δ _ _ h, pure_is Q Δ _ _ k)
pure_is Q Δ _ _ (has_subtract h k) = (refl, pure_is Q Δ _ _ h, pure_is Q Δ _ _ k)
pure_is Q Δ _ _ (has_multiply h k) = (refl, pure_is Q Δ _ _ h, pure_is Q Δ _ _ k)
pure_is Q Δ _ _ (has_length h) = (refl, (_, pure_is Q Δ _ _ h))
pure_is Q Δ _ _ (has_compare h k) = (refl, pure_is Q Δ _ _ h, pure_is Q Δ _ _ k)
pure_is Q Δ _ _ (has_not h) = (refl, pure_is Q Δ _ _ h)
pure_is Q Δ _ _ (has_and h k) = (refl, pure_is Q Δ _ _ h, pure_is Q Δ _ _ k)
pure_is Q Δ _ _ (has_or h k) = (refl, pure_is Q Δ _ _ h, pure_is Q Δ _ _ k)

pub type_fits : (Δ : Types) (Γ : Context) → Fits Δ Γ → (x : ℕ) → erased (type_in Γ (symbol_of x)) ≡ simple_type_in Δ x
type_fits _ _ fits_none x = refl
type_fits _ _ (fits_bind {Δ = Δ} {Γ = Γ} {x = y} {a = a} {t = t} e h) x = at (y == x) (type_fits Δ Γ h x)
  where
    at : (b : Bool) → erased (type_in Γ (symbol_of x)) ≡ simple_type_in Δ x → erased (cond b t (type_in Γ (symbol_of x))) ≡ cond b a (simple_type_in Δ x)
    at true k = e
    at false k = k
type_fits _ _ (fits_guard {Δ = Δ} {Γ = Γ} h) x = type_fits Δ Γ h x

-- ---- one operation

module _ (law : Lower) (S : Scene) (by : Variables) (Γ : Context) where
  pub one_exact : (o : Operation) (c : Core) (h k : Givens → Value) → ((σ : Givens) (w : World) → unary_act o (h σ) w ≡ Some (gives (k σ) w)) → RunsExactly S by Γ c h → RunsExactly S by Γ (one o c) k
  one_exact o c h k acts runs n W σ m i w =
      runs_in law (in_one o) tt i (close (pairs σ) c) w (Exactly (h σ) w) (Exactly (k σ) w) (runs n W σ m i w) (λ j d u x le is q.
      let at : as_value d ≡ Some (h σ) = is ∙ ap Some q.0 in
      let go : step (one o d) w ≡ Some (goes (val (k σ)) w) = rw (at, acts σ w) in
      subst (λ y. RunsWell j (one o d) y (Exactly (k σ) w)) (sym q.1) (runs_step j (one o d) (val (k σ)) w w (Exactly (k σ) w) refl go (λ z eq.
      runs_value z (val (k σ)) w (k σ) (Exactly (k σ) w) refl (refl, refl))))

  pub two_exact : (o : Binary) (c d : Core) (h k r : Givens → Value) → ((σ : Givens) (w : World) → binary_act o (h σ) (k σ) w ≡ Some (gives (r σ) w)) → RunsExactly S by Γ c h → RunsExactly S by Γ d k → RunsExactly S by Γ (two o c d) r
  two_exact o c d h k r acts first second n W σ m i w =
      let D = close (pairs σ) d in
      runs_in law (in_left o D) tt i (close (pairs σ) c) w (Exactly (h σ) w) (Exactly (r σ) w) (first n W σ m i w) (λ j e u x le is q.
      let at : as_value e ≡ Some (h σ) = is ∙ ap Some q.0 in
      subst (λ y. RunsWell j (two o e D) y (Exactly (r σ) w)) (sym q.1) (runs_in law (in_right o e) (h σ, at) j D w (Exactly (k σ) w) (Exactly (r σ) w) (second n W σ m j w) (λ y b u2 x2 le2 is2 q2.
      let at2 : as_value b ≡ Some (k σ) = is2 ∙ ap Some q2.0 in
      let go : step (two o e b) w ≡ Some (goes (val (r σ)) w) = rw (at, at2, acts σ w) in
      subst (λ z. RunsWell y (two o e b) z (Exactly (r σ) w)) (sym q2.1) (runs_step y (two o e b) (val (r σ)) w w (Exactly (r σ) w) refl go (λ z eq.
      runs_value z (val (r σ)) w (r σ) (Exactly (r σ) w) refl (refl, refl))))))

  pub value_exact : (v : Value) → RunsExactly S by Γ (val v) (λ σ. v)
  value_exact v n W σ m k w = runs_value k (val v) w v (Exactly v w) refl (refl, refl)

-- the program's comparisons are those of predicates
compares_same : (o : CompareOp) (i j : ℤ) → act.compares o i j ≡ truths.compares o i j
compares_same test.Eq i j = refl
compares_same test.Ne i j = refl
compares_same test.Lt i j = refl
compares_same test.Le i j = refl
compares_same test.Gt i j = refl
compares_same test.Ge i j = refl

-- ---- variables

if_cond : (b : Bool) (v : Value) (o p : Option Value) → o ≡ p → (if b then Some v else o) ≡ cond b (Some v) p
if_cond true v o p e = refl
if_cond false v o p e = e

-- the program's variables have the values that the names have
pub value_of_pair : (σ : Givens) (x : ℕ) → value_in (pairs σ) x ≡ value_at σ (symbol_of x)
value_of_pair [] x = refl
value_of_pair (g ∷ σ) x = at g.symbol g.value (value_of_pair σ x)
  where
    at : (y : Symbol) (v : Value) → value_in (pairs σ) x ≡ value_at σ (symbol_of x) → value_in (pair_of y v (pairs σ)) x ≡ cond (same_symbol y (symbol_of x)) (Some v) (value_at σ (symbol_of x))
    at symbol.Value v e = e
    at (symbol.Bound y) v e = if_cond (y.0 == x) v (value_in (pairs σ) x) (value_at σ (symbol_of x)) e
    at (symbol.Position j) v e = e

pub runs_variable : (n : ℕ) (σ : Givens) (x : ℕ) (v : Value) (w : World) → value_at σ (symbol_of x) ≡ Some v → RunsWell n (close (pairs σ) (use_of x)) w (Exactly v w)
runs_variable n σ x v w is =
    subst (λ o. RunsWell n (replaced x o) w (Exactly v w)) (sym (value_of_pair σ x ∙ is)) (runs_value n (val v) w v (Exactly v w) refl (refl, refl))

module _ (S : Scene) (n : ℕ) (W : Table) (σ : Givens) (by : Shuts) where
  pub whole_of : (t : Refined) → erased t ≡ ml.int → (v : Value) → Inhabits S n W (shut σ by t) v → v ≡ v_whole (as_number (Some v))
  whole_of (int_with p) e (v_whole i) h = refl
  whole_of (int_with p) e _ h = absurd h.0
  whole_of (bool_with p) e v h = absurd (cc)
  whole_of unit_type e v h = absurd (cc)
  whole_of (function x a b) e v h = absurd (cc)
  whole_of (tuple_of ts) e v h = absurd (cc)
  whole_of (array_with a p) e v h = absurd (cc)
  whole_of (data_with d ts m p) e v h = absurd (cc)
  whole_of (map_with a p) e v h = absurd (cc)
  whole_of (type_variable i) e v h = absurd (cc)

  pub flag_of : (t : Refined) → erased t ≡ ml.bool → (v : Value) → Inhabits S n W (shut σ by t) v → v ≡ v_flag (as_flag (Some v))
  flag_of (bool_with p) e (v_flag b) h = refl
  flag_of (bool_with p) e _ h = absurd h.0
  flag_of (int_with p) e v h = absurd (cc)
  flag_of unit_type e v h = absurd (cc)
  flag_of (function x a b) e v h = absurd (cc)
  flag_of (tuple_of ts) e v h = absurd (cc)
  flag_of (array_with a p) e v h = absurd (cc)
  flag_of (data_with d ts m p) e v h = absurd (cc)
  flag_of (map_with a p) e v h = absurd (cc)
  flag_of (type_variable i) e v h = absurd (cc)

  pub unit_of : (t : Refined) → erased t ≡ ml.unit → (v : Value) → Inhabits S n W (shut σ by t) v → v ≡ v_unit
  unit_of unit_type e v_unit h = refl
  unit_of unit_type e _ h = absurd h.0
  unit_of (int_with p) e v h = absurd (cc)
  unit_of (bool_with p) e v h = absurd (cc)
  unit_of (function x a b) e v h = absurd (cc)
  unit_of (tuple_of ts) e v h = absurd (cc)
  unit_of (array_with a p) e v h = absurd (cc)
  unit_of (data_with d ts m p) e v h = absurd (cc)
  unit_of (map_with a p) e v h = absurd (cc)
  unit_of (type_variable i) e v h = absurd (cc)

  -- an array, whose length is that of its number
  pub array_of : KnowsLengths S.objects → (t : Refined) (u : MlType) → erased t ≡ ml.array u → (v : Value) → Inhabits S n W (shut σ by t) v → (r : ℕ) × (k : ℕ) × (v ≡ v_array r k) × (S.objects.length (as_object S.objects (Some v)) ≡ pos k)
  array_of l (array_with a p) u e (v_array r k) h = (r, k, refl, l r k)
  array_of l (array_with a p) u e _ h = absurd h.0
  array_of l (int_with p) u e v h = absurd (cc)
  array_of l (bool_with p) u e v h = absurd (cc)
  array_of l unit_type u e v h = absurd (cc)
  array_of l (function x a b) u e v h = absurd (cc)
  array_of l (tuple_of ts) u e v h = absurd (cc)
  array_of l (data_with d ts m p) u e v h = absurd (cc)
  array_of l (map_with a p) u e v h = absurd (cc)
  array_of l (type_variable i) u e v h = absurd (cc)

module _ (law : Lower) (S : Scene) (by : Variables) (Γ : Context) where
  pub and_runs : (c d : Core) (p q : Formula) → RunsToTruth S by Γ c p → RunsToTruth S by Γ d q → RunsToTruth S by Γ (and_of c d) (f.conjunction p q)
  and_runs c d p q h k n W σ m i w =
      let D = close (pairs σ) d in
      let t = truth_of (meaning_of S.objects σ) p in
      let u = truth_of (meaning_of S.objects σ) q in
      runs_in law (in_and D) tt i (close (pairs σ) c) w (Exactly (v_flag t) w) (Exactly (v_flag (t && u)) w) (h n W σ m i w) (λ j e v x le is r.
      let at : as_value e ≡ Some (v_flag t) = is ∙ ap Some r.0 in
      let go : step (and_of e D) w ≡ Some (goes (if t then D else val (v_flag false)) w) = rw at in
      subst (λ y. RunsWell j (and_of e D) y (Exactly (v_flag (t && u)) w)) (sym r.1) (runs_step j (and_of e D) (if t then D else val (v_flag false)) w w (Exactly (v_flag (t && u)) w) refl go (λ z eq.
      decided z D w t u (k n W σ m z w))))
    where
      decided : (i : ℕ) (D : Core) (w : World) (t u : Bool) → RunsWell i D w (Exactly (v_flag u) w) → RunsWell i (if t then D else val (v_flag false)) w (Exactly (v_flag (t && u)) w)
      decided i D w true u h = h
      decided i D w false u h = runs_value i (val (v_flag false)) w (v_flag false) (Exactly (v_flag false) w) refl (refl, refl)

  pub or_runs : (c d : Core) (p q : Formula) → RunsToTruth S by Γ c p → RunsToTruth S by Γ d q → RunsToTruth S by Γ (or_of c d) (f.disjunction p q)
  or_runs c d p q h k n W σ m i w =
      let D = close (pairs σ) d in
      let t = truth_of (meaning_of S.objects σ) p in
      let u = truth_of (meaning_of S.objects σ) q in
      runs_in law (in_or D) tt i (close (pairs σ) c) w (Exactly (v_flag t) w) (Exactly (v_flag (t || u)) w) (h n W σ m i w) (λ j e v x le is r.
      let at : as_value e ≡ Some (v_flag t) = is ∙ ap Some r.0 in
      let go : step (or_of e D) w ≡ Some (goes (if t then val (v_flag true) else D) w) = rw at in
      subst (λ y. RunsWell j (or_of e D) y (Exactly (v_flag (t || u)) w)) (sym r.1) (runs_step j (or_of e D) (if t then val (v_flag true) else D) w w (Exactly (v_flag (t || u)) w) refl go (λ z eq.
      decided z D w t u (k n W σ m z w))))
    where
      decided : (i : ℕ) (D : Core) (w : World) (t u : Bool) → RunsWell i D w (Exactly (v_flag u) w) → RunsWell i (if t then val (v_flag true) else D) w (Exactly (v_flag (t || u)) w)
      decided i D w true u h = runs_value i (val (v_flag true)) w (v_flag true) (Exactly (v_flag true) w) refl (refl, refl)
      decided i D w false u h = h

-- ---- uses

-- what is so of each use is so of each, where the one gives the other
pub each_use : (F G : Use → Type 0) → ((u : Use) → F u → G u) → (e : Pure) → EachUse F e → EachUse G e
each_use F G f (tree.whole n) o = tt
each_use F G f (tree.flag b) o = tt
each_use F G f tree.unit o = tt
each_use F G f (tree.use_of u) o = f u o
each_use F G f (tree.negated a) o = each_use F G f a o
each_use F G f (tree.add a b) o = (each_use F G f a o.0, each_use F G f b o.1)
each_use F G f (tree.subtract a b) o = (each_use F G f a o.0, each_use F G f b o.1)
each_use F G f (tree.multiply a b) o = (each_use F G f a o.0, each_use F G f b o.1)
each_use F G f (tree.length_of a) o = each_use F G f a o
each_use F G f (tree.compare c a b) o = (each_use F G f a o.0, each_use F G f b o.1)
each_use F G f (tree.not_of a) o = each_use F G f a o
each_use F G f (tree.and_of a b) o = (each_use F G f a o.0, each_use F G f b o.1)
each_use F G f (tree.or_of a b) o = (each_use F G f a o.0, each_use F G f b o.1)

-- and both of two are
pub both_uses : (F G : Use → Type 0) (e : Pure) → EachUse F e → EachUse G e → EachUse (λ u. F u × G u) e
both_uses F G (tree.whole n) o m = tt
both_uses F G (tree.flag b) o m = tt
both_uses F G tree.unit o m = tt
both_uses F G (tree.use_of u) o m = (o, m)
both_uses F G (tree.negated a) o m = both_uses F G a o m
both_uses F G (tree.add a b) o m = (both_uses F G a o.0 m.0, both_uses F G b o.1 m.1)
both_uses F G (tree.subtract a b) o m = (both_uses F G a o.0 m.0, both_uses F G b o.1 m.1)
both_uses F G (tree.multiply a b) o m = (both_uses F G a o.0 m.0, both_uses F G b o.1 m.1)
both_uses F G (tree.length_of a) o m = both_uses F G a o m
both_uses F G (tree.compare c a b) o m = (both_uses F G a o.0 m.0, both_uses F G b o.1 m.1)
both_uses F G (tree.not_of a) o m = both_uses F G a o m
both_uses F G (tree.and_of a b) o m = (both_uses F G a o.0 m.0, both_uses F G b o.1 m.1)
both_uses F G (tree.or_of a b) o m = (both_uses F G a o.0 m.0, both_uses F G b o.1 m.1)

pub names_of : (P : Basis) (A : Assignment) (by : Variables) (Γ : Context) (e : Pure) → PureIn P A by Γ e → EachUse (IsOf (names_in Γ)) e
names_of P A by Γ e o = each_use (UseIn P A by Γ) (IsOf (names_in Γ)) (λ u h. h.0.0) e o

pub names_over : (P : Basis) (A : Assignment) (Γ : Context) (e : Pure) → PureOver P A Γ e → EachUse (IsOf (names_in Γ)) e
names_over P A Γ e o = each_use (UseOver P A Γ) (IsOf (names_in Γ)) (λ u h. h.0) e o

-- the environment of a typed tree has variables of the program alone
pub no_position : (Δ : Types) (Γ : Context) → Fits Δ Γ → (k : ℕ) → names_in Γ (symbol.Position k) ≡ false
no_position _ _ fits_none k = refl
no_position _ _ (fits_bind {Δ = Δ} {Γ = Γ} {x = x} e h) k = join (names_in Γ (symbol.Position k)) (no_position Δ Γ h k)
  where
    join : (b : Bool) → b ≡ false → b || false ≡ false
    join true z = absurd (cc)
    join false z = refl
no_position _ _ (fits_guard {Δ = Δ} {Γ = Γ} h) k = no_position Δ Γ h k

pub no_v : (Δ : Types) (Γ : Context) → Fits Δ Γ → names_in Γ symbol.Value ≡ false
no_v _ _ fits_none = refl
no_v _ _ (fits_bind {Δ = Δ} {Γ = Γ} {x = x} e h) = join (names_in Γ symbol.Value) (no_v Δ Γ h)
  where
    join : (b : Bool) → b ≡ false → b || false ≡ false
    join true z = absurd (cc)
    join false z = refl
no_v _ _ (fits_guard {Δ = Δ} {Γ = Γ} h) = no_v Δ Γ h

-- what is said of types at instances
pub record Instancing : Type 0 where
  pub there : InstancesAreThere
  pub on : InstancedTypesOn
  pub keeps : KeepSimpleTypes

-- the value of a used name, which inhabits the type of the use
pub record UsedAt (P : Basis) (A : Assignment) (O : Objects) (by : Variables) (Γ : Context) (n : ℕ) (W : Table) (σ : Givens) (x : ℕ) (t : Refined) : Type 0 where
  pub value : Value
  pub is : value_at σ (symbol_of x) ≡ Some value
  pub over : TypeOn A t (names_in Γ)
  pub fits : Inhabits (scene_of P A O) n W (shut σ by.types t) value

abbrev pub Used : Basis → Assignment → Objects → Variables → Context → ℕ → Table → Givens → Use → Type 0
Used P A O by Γ n W σ u = UsedAt P A O by Γ n W σ u.name (pures.type_of_use P Γ u)

-- ---- numbers and conditions

module _ (law : Lower) (inst : Instancing) (P : Basis) (A : Assignment) (O : Objects) (is : IsScene (scene_of P A O)) (lengths : KnowsLengths O) (by : Variables) (Q : Points) (are : AreTemplates P Q) (Δ : Types) (Γ : Context) (fits : Fits Δ Γ) (closed : IsClosed (scene_of P A O) Γ) where
  abbrev S : Scene
  S = scene_of P A O

  -- a use has the type of the name, at the types that it puts for variables
  pub use_type : (u : Use) → erased (pures.type_of_use P Γ u) ≡ type_of_use Q Δ u
  use_type u = at u.type_arguments
    where
      at : (o : Option ℕ) → erased (pures.instance_of P Γ o (type_in Γ (symbol_of u.name))) ≡ typing.instance_of Q o (simple_type_in Δ u.name)
      at None = type_fits Δ Γ fits u.name
      at (Some i) =
          inst.keeps.instantiating (P.type_arguments i) (type_in Γ (symbol_of u.name)) ∙ ap (λ ts. types.put (types.type_at ts) (erased (type_in Γ (symbol_of u.name)))) (are.type_arguments i) ∙ ap (types.put (types.type_at (Q.type_arguments i))) (type_fits Δ Γ fits u.name)

  pub look_up : (n : ℕ) (W : Table) (σ : Givens) → Meets S by n W Γ σ → (u : Use) → UseIn P A by Γ u → Used P A O by Γ n W σ u
  look_up n W σ m u o =
      found (look S by n W Γ σ closed m.named (symbol_of u.name) o.0.0) u.type_arguments o.0.1 o.1.1
    where
      t : Refined
      t = type_in Γ (symbol_of u.name)

      found : Looked S by n W σ (names_in Γ) Γ σ (symbol_of u.name) → (i : Option ℕ) → ArgumentsOver P A Γ t i → IsGeneralFor by u.name i → UsedAt P A O by Γ n W σ u.name (pures.instance_of P Γ i t)
      found l None a g = record { value = l.value; is = l.is; over = l.over; fits = l.fits.own o.1.0 }
      found l (Some i) a g =
          let Ts = P.type_arguments i in
          let at = inst.there S is Ts (names_in Γ) a.0 (no_position Δ Γ fits) t a.1 σ by.types in
          record {
            value = l.value;
            is = l.is;
            over = inst.on A t Ts (names_in Γ) l.over a.0;
            fits = at.1 n W l.value (l.fits.each g at.0);
          }

  number_use : (u : Use) → UseIn P A by Γ u → ml.int ≡ type_of_use Q Δ u → RunsToNumber S by Γ (use_of u.name) (s.var (symbol_of u.name))
  number_use u o e n W σ m k w =
      let x = symbol_of u.name in
      let l = look_up (suc n) W σ m u o in
      runs_variable k σ u.name (v_whole (as_number (value_at σ x))) w (l.is ∙ ap Some (whole_of S (suc n) W σ by.types (pures.type_of_use P Γ u) (use_type u ∙ sym e) l.value l.fits) ∙ ap (λ o. Some (v_whole (as_number o))) (sym l.is))

  flag_use : (u : Use) → UseIn P A by Γ u → ml.bool ≡ type_of_use Q Δ u → RunsToTruth S by Γ (use_of u.name) (f.flag (symbol_of u.name))
  flag_use u o e n W σ m k w =
      let x = symbol_of u.name in
      let l = look_up (suc n) W σ m u o in
      runs_variable k σ u.name (v_flag (as_flag (value_at σ x))) w (l.is ∙ ap Some (flag_of S (suc n) W σ by.types (pures.type_of_use P Γ u) (use_type u ∙ sym e) l.value l.fits) ∙ ap (λ o. Some (v_flag (as_flag o))) (sym l.is))

  unit_use : (u : Use) → UseIn P A by Γ u → ml.unit ≡ type_of_use Q Δ u → RunsToUnit S by Γ (use_of u.name)
  unit_use u o e n W σ m k w =
      let x = symbol_of u.name in
      let l = look_up (suc n) W σ m u o in
      runs_variable k σ u.name v_unit w (l.is ∙ ap Some (unit_of S (suc n) W σ by.types (pures.type_of_use P Γ u) (use_type u ∙ sym e) l.value l.fits))

  length_use : (u : Use) → UseIn P A by Γ u → (a : MlType) → ml.array a ≡ type_of_use Q Δ u → RunsToNumber S by Γ (one length_of (use_of u.name)) (s.len (s.var (symbol_of u.name)))
  length_use u o a e n W σ m k w =
      let x = symbol_of u.name in
      let l = look_up (suc n) W σ m u o in
      let z = array_of S (suc n) W σ by.types lengths (pures.type_of_use P Γ u) a (use_type u ∙ sym e) l.value l.fits in
      let v = v_array z.0 z.1 in
      let out = v_whole (term_value (meaning_of S.objects σ) (s.len (s.var x))) in
      let counted : pos z.1 ≡ term_value (meaning_of S.objects σ) (s.len (s.var x)) = sym (ap (λ o. S.objects.length (as_object S.objects o)) l.is ∙ z.3) in
      runs_in law (in_one length_of) tt k (close (pairs σ) (use_of u.name)) w (Exactly v w) (Exactly out w) (runs_variable k σ u.name v w (l.is ∙ ap Some z.2)) (λ j d y t le at q.
      let is2 : as_value d ≡ Some v = at ∙ ap Some q.0 in
      let go : step (one length_of d) w ≡ Some (goes (val (v_whole (pos z.1))) w) = rw is2 in
      subst (λ r. RunsWell j (one length_of d) r (Exactly out w)) (sym q.1) (runs_step j (one length_of d) (val (v_whole (pos z.1))) w w (Exactly out w) refl go (λ i eq.
      runs_value i (val (v_whole (pos z.1))) w (v_whole (pos z.1)) (Exactly out w) refl (ap v_whole counted, refl))))

  length_runs : (e : Pure) (a : MlType) → PureIs Q Δ e (ml.array a) → PureIn P A by Γ e → RunsToNumber S by Γ (pure_core (tree.length_of e)) (sum_of (tree.length_of e))
  length_runs (tree.use_of u) a h o = length_use u o a h
  length_runs (tree.whole i) a h o = absurd (cc)
  length_runs (tree.flag b) a h o = absurd (cc)
  length_runs tree.unit a h o = absurd (cc)
  length_runs (tree.negated e) a h o = let z = h.0 in absurd (cc)
  length_runs (tree.add d e) a h o = let z = h.0 in absurd (cc)
  length_runs (tree.subtract d e) a h o = let z = h.0 in absurd (cc)
  length_runs (tree.multiply d e) a h o = let z = h.0 in absurd (cc)
  length_runs (tree.length_of e) a h o = let z = h.0 in absurd (cc)
  length_runs (tree.compare c d e) a h o = let z = h.0 in absurd (cc)
  length_runs (tree.not_of e) a h o = let z = h.0 in absurd (cc)
  length_runs (tree.and_of d e) a h o = let z = h.0 in absurd (cc)
  length_runs (tree.or_of d e) a h o = let z = h.0 in absurd (cc)

  pub number_runs : (e : Pure) → PureIs Q Δ e ml.int → PureIn P A by Γ e → RunsToNumber S by Γ (pure_core e) (sum_of e)
  number_runs (tree.whole i) h o = value_exact law S by Γ (v_whole i)
  number_runs (tree.use_of u) h o = number_use u o h
  number_runs (tree.negated a) h o =
      one_exact law S by Γ negate (pure_core a) (λ σ. v_whole (term_value (meaning_of S.objects σ) (sum_of a))) (λ σ. v_whole (term_value (meaning_of S.objects σ) (s.neg (sum_of a)))) (λ σ w. refl) (number_runs a h.1 o)
  number_runs (tree.add a b) h o =
      two_exact law S by Γ (arithmetic sum) (pure_core a) (pure_core b) (λ σ. v_whole (term_value (meaning_of S.objects σ) (sum_of a))) (λ σ. v_whole (term_value (meaning_of S.objects σ) (sum_of b))) (λ σ. v_whole (term_value (meaning_of S.objects σ) (s.add (sum_of a) (sum_of b)))) (λ σ w. refl) (number_runs a h.1 o.0) (number_runs b h.2 o.1)
  number_runs (tree.subtract a b) h o =
      two_exact law S by Γ (arithmetic difference) (pure_core a) (pure_core b) (λ σ. v_whole (term_value (meaning_of S.objects σ) (sum_of a))) (λ σ. v_whole (term_value (meaning_of S.objects σ) (sum_of b))) (λ σ. v_whole (term_value (meaning_of S.objects σ) (s.sub (sum_of a) (sum_of b)))) (λ σ w. refl) (number_runs a h.1 o.0) (number_runs b h.2 o.1)
  number_runs (tree.multiply a b) h o =
      two_exact law S by Γ (arithmetic product) (pure_core a) (pure_core b) (λ σ. v_whole (term_value (meaning_of S.objects σ) (sum_of a))) (λ σ. v_whole (term_value (meaning_of S.objects σ) (sum_of b))) (λ σ. v_whole (term_value (meaning_of S.objects σ) (s.mul (sum_of a) (sum_of b)))) (λ σ w. refl) (number_runs a h.1 o.0) (number_runs b h.2 o.1)
  number_runs (tree.length_of a) h o = length_runs a h.1.0 h.1.1 o
  number_runs (tree.flag b) h o = absurd (cc)
  number_runs tree.unit h o = absurd (cc)
  number_runs (tree.compare c a b) h o = let z = h.0 in absurd (cc)
  number_runs (tree.not_of a) h o = let z = h.0 in absurd (cc)
  number_runs (tree.and_of a b) h o = let z = h.0 in absurd (cc)
  number_runs (tree.or_of a b) h o = let z = h.0 in absurd (cc)

  flag_runs : (b : Bool) → RunsToTruth S by Γ (pure_core (tree.flag b)) (formula_of (tree.flag b))
  flag_runs true = value_exact law S by Γ (v_flag true)
  flag_runs false = value_exact law S by Γ (v_flag false)

  pub condition_runs : (e : Pure) → PureIs Q Δ e ml.bool → PureIn P A by Γ e → RunsToTruth S by Γ (pure_core e) (formula_of e)
  condition_runs (tree.flag b) h o = flag_runs b
  condition_runs (tree.use_of u) h o = flag_use u o h
  condition_runs (tree.compare c a b) h o =
      two_exact law S by Γ (comparison c) (pure_core a) (pure_core b) (λ σ. v_whole (term_value (meaning_of S.objects σ) (sum_of a))) (λ σ. v_whole (term_value (meaning_of S.objects σ) (sum_of b))) (λ σ. v_flag (truth_of (meaning_of S.objects σ) (f.compare c (sum_of a) (sum_of b)))) (λ σ w. ap (λ b. Some (gives (v_flag b) w)) (compares_same c (term_value (meaning_of S.objects σ) (sum_of a)) (term_value (meaning_of S.objects σ) (sum_of b)))) (number_runs a h.1 o.0) (number_runs b h.2 o.1)
  condition_runs (tree.not_of a) h o =
      one_exact law S by Γ invert (pure_core a) (λ σ. v_flag (truth_of (meaning_of S.objects σ) (formula_of a))) (λ σ. v_flag (truth_of (meaning_of S.objects σ) (f.negation (formula_of a)))) (λ σ w. refl) (condition_runs a h.1 o)
  condition_runs (tree.and_of a b) h o =
      and_runs law S by Γ (pure_core a) (pure_core b) (formula_of a) (formula_of b) (condition_runs a h.1 o.0) (condition_runs b h.2 o.1)
  condition_runs (tree.or_of a b) h o =
      or_runs law S by Γ (pure_core a) (pure_core b) (formula_of a) (formula_of b) (condition_runs a h.1 o.0) (condition_runs b h.2 o.1)
  condition_runs (tree.whole i) h o = absurd (cc)
  condition_runs tree.unit h o = absurd (cc)
  condition_runs (tree.negated a) h o = let z = h.0 in absurd (cc)
  condition_runs (tree.add a b) h o = let z = h.0 in absurd (cc)
  condition_runs (tree.subtract a b) h o = let z = h.0 in absurd (cc)
  condition_runs (tree.multiply a b) h o = let z = h.0 in absurd (cc)
  condition_runs (tree.length_of a) h o = let z = h.0 in absurd (cc)

  pub unit_runs : (e : Pure) → PureIs Q Δ e ml.unit → PureIn P A by Γ e → RunsToUnit S by Γ (pure_core e)
  unit_runs tree.unit h o = value_exact law S by Γ v_unit
  unit_runs (tree.use_of u) h o = unit_use u o h
  unit_runs (tree.whole i) h o = absurd (cc)
  unit_runs (tree.flag b) h o = absurd (cc)
  unit_runs (tree.negated a) h o = let z = h.0 in absurd (cc)
  unit_runs (tree.add a b) h o = let z = h.0 in absurd (cc)
  unit_runs (tree.subtract a b) h o = let z = h.0 in absurd (cc)
  unit_runs (tree.multiply a b) h o = let z = h.0 in absurd (cc)
  unit_runs (tree.length_of a) h o = let z = h.0 in absurd (cc)
  unit_runs (tree.compare c a b) h o = let z = h.0 in absurd (cc)
  unit_runs (tree.not_of a) h o = let z = h.0 in absurd (cc)
  unit_runs (tree.and_of a b) h o = let z = h.0 in absurd (cc)
  unit_runs (tree.or_of a b) h o = let z = h.0 in absurd (cc)
