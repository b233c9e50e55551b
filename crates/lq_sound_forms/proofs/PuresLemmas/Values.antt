-- Pure expressions run to values of their types, and these speak of the environment's names.
use Rattle.std.proofs.Common.{◌≡◌, ℕ, suc, ℤ, Option, None, ◌||◌, Bool, true, false, cond, [], ◌∷◌, Some, refl, sym, ap}
use Rattle.std.proofs.lemmas.Bool.{eq-eqb}
use Rattle.std.proofs.lemmas.Bool.Decides.{Decides-int_eq}
use Rattle.std.specs.Ordering.{int_eq}
use Rattle.lq_base_names.specs.declared.operation.CompareOp.TheVariants.{Eq}
use Rattle.lq_logic_predicates.specs.declared.symbol.Symbol.{Symbol}
use Rattle.lq_logic_predicates.specs.declared.symbol.Symbol.TheVariants as symbol
use Rattle.lq_logic_predicates.specs.Formula as f
use Rattle.lq_logic_predicates.specs.Formula.{Formula}
use Rattle.lq_logic_predicates.specs.Sum as s
use Rattle.lq_logic_predicates.specs.Sum.{Sum, same_symbol}
use Rattle.lq_logic_predicates.specs.Truth.{term_value, truth_of, same_truth}
use Rattle.lq_meaning_steps.specs.Model.Core.{Core, Value, v_whole, v_flag, v_unit}
use Rattle.lq_refined_types.specs.Parts.Assignment.{Assignment}
use Rattle.lq_refined_types.specs.Parts.Part.{Scopes, known}
use Rattle.lq_text_tree.specs.MlType as ml
use Rattle.lq_text_tree.specs.MlType.{MlType}
use Rattle.lq_refined_types.specs.Types.Context.{Context, name, guard, type_in}
use Rattle.lq_refined_types.specs.Types.Operations.{symbol_of}
use Rattle.lq_refined_types.specs.Types.Refined.{Refined, int_with, bool_with, unit_type, function, tuple_of, array_with, data_with, map_with, type_variable}
use Rattle.lq_refined_rules.specs.Checks.Basis.{Basis}
use Rattle.lq_refined_rules.specs.Checks.Fitting.{Fits}
use Rattle.lq_refined_rules.specs.Checks.Pure.{sum_of, formula_of, variable_type, pure_type}
use Rattle.lq_refined_rules.specs.Checks.Pure as pures
use Rattle.lq_refined_rules.specs.Checks.Tree as tree
use Rattle.lq_refined_rules.specs.Checks.Tree.{Use, Pure}
use Rattle.lq_refined_rules.specs.Checks.Typing.{Points, AreTemplates, Types}
use Rattle.lq_sound_values.specs.Inhabitants.Truth.{Givens, given, value_at, as_number, as_flag, as_object, Objects, meaning_of, Scene}
use Rattle.lq_sound_values.specs.Inhabitants.Shut.{shut, Shuts}
use Rattle.lq_sound_values.specs.Inhabitants.Inhabits.{Table, Inhabits}
use Rattle.lq_sound_values.specs.Inclusion.Laws.{IsScene}
use Rattle.lq_sound_values.specs.Inclusion.Symbols.{Symbols, other_than, SumOn, FormulaOn, InsideOn, TypeOn}
use Rattle.lq_sound_values.proofs.InclusionLemmas.Truths.{SameOn, value_same, truth_same, same_agree, agree_back, agree_other, false_not}
use Rattle.lq_sound_values.specs.Runs.Closed.{names_in, with_value, SortedOn, IsTypeOver, IsClosedIn, IsClosed}
use Rattle.lq_sound_values.specs.Runs.Meets.{Variables}
use Rattle.lq_sound_values.specs.Runs.Runs.{RunsToValue, RunsToTruth, RunsToNumber}
use Rattle.lq_sound_values.proofs.RunsLemmas.Closing.{Within, or_right, sum_more, formula_more, within_with, value_apart, top_more}
use Rattle.lq_sound_values.proofs.RunsLemmas.Lower.{Lower}
use Rattle.lq_sound_forms.specs.Pures.Cores.{pure_core}
use Rattle.lq_sound_forms.specs.Pures.Pures.{KnowsLengths, scene_of, EachUse, IsOf, ArgumentsOver, UseOver, PureOver, UseIn, PureIn}
use Rattle.lq_sound_forms.specs.Pures.Values.{IsBasic, IsBasicIn}
use Rattle.lq_sound_forms.proofs.PuresLemmas.Pures.{Instancing, PureIs, names_of, names_over, number_runs, condition_runs, value_exact, look_up, runs_variable}

-- ---- of which names terms and predicates of expressions speak

pub sum_over : (P : Symbols) (e : Pure) → EachUse (IsOf P) e → SumOn P (sum_of e)
sum_over P (tree.whole n) o = tt
sum_over P (tree.flag b) o = tt
sum_over P tree.unit o = tt
sum_over P (tree.use_of u) o = o
sum_over P (tree.negated a) o = sum_over P a o
sum_over P (tree.add a b) o = (sum_over P a o.0, sum_over P b o.1)
sum_over P (tree.subtract a b) o = (sum_over P a o.0, sum_over P b o.1)
sum_over P (tree.multiply a b) o = (sum_over P a o.0, sum_over P b o.1)
sum_over P (tree.length_of a) o = sum_over P a o
sum_over P (tree.compare c a b) o = tt
sum_over P (tree.not_of a) o = tt
sum_over P (tree.and_of a b) o = tt
sum_over P (tree.or_of a b) o = tt

pub formula_over : (P : Symbols) (e : Pure) → EachUse (IsOf P) e → FormulaOn P (formula_of e)
formula_over P (tree.whole n) o = tt
formula_over P (tree.flag true) o = tt
formula_over P (tree.flag false) o = tt
formula_over P tree.unit o = tt
formula_over P (tree.use_of u) o = o
formula_over P (tree.negated a) o = tt
formula_over P (tree.add a b) o = tt
formula_over P (tree.subtract a b) o = tt
formula_over P (tree.multiply a b) o = tt
formula_over P (tree.length_of a) o = tt
formula_over P (tree.compare c a b) o = (sum_over P a o.0, sum_over P b o.1)
formula_over P (tree.not_of a) o = formula_over P a o
formula_over P (tree.and_of a b) o = (formula_over P a o.0, formula_over P b o.1)
formula_over P (tree.or_of a b) o = (formula_over P a o.0, formula_over P b o.1)

flags_over : (P Q : Symbols) → (p : Formula) → ((y : Symbol) → P y ≡ true → Q y ≡ true) → FormulaOn P p → SortedOn P Q p
flags_over P Q f.truth g o = tt
flags_over P Q f.falsity g o = tt
flags_over P Q (f.flag x) g o = g x o
flags_over P Q (f.compare c a b) g o = o
flags_over P Q (f.objects a b) g o = o
flags_over P Q (f.negation p) g o = flags_over P Q p g o
flags_over P Q (f.conjunction p q) g o = (flags_over P Q p g o.0, flags_over P Q q g o.1)
flags_over P Q (f.disjunction p q) g o = (flags_over P Q p g o.0, flags_over P Q q g o.1)
flags_over P Q (f.equivalence p q) g o = (flags_over P Q p g o.0, flags_over P Q q g o.1)

v_in : (P : Symbols) → with_value P symbol.Value ≡ true
v_in P = or_right (P symbol.Value) true refl

-- a number's type, a truth value's, an object's
module _ (S : Scene) (P : Symbols) where
  pub number_over : (t : Sum) → SumOn P t → IsTypeOver S P (int_with (known (f.compare Eq (s.var symbol.Value) t) ∷ []))
  number_over t o =
      let more = sum_more P (with_value P) (within_with P symbol.Value) t o in
      ((tt, ((v_in P, more), tt)), ((v_in P, more), tt))

  pub truth_over : (p : Formula) → FormulaOn P p → IsTypeOver S P (bool_with (known (f.equivalence (f.flag symbol.Value) p) ∷ []))
  truth_over p o =
      ((tt, ((v_in P, formula_more P (with_value P) (within_with P symbol.Value) p o), tt)), ((v_in P, flags_over P (with_value P) p (within_with P symbol.Value) o), tt))

  object_part : (x : Symbol) → P x ≡ true → SumOn (with_value P) (s.var symbol.Value) × SumOn (with_value P) (s.var x)
  object_part x o = (v_in P, within_with P symbol.Value x o)

  variable_over : (scopes : Scopes) (x : ℕ) (t : Refined) → IsBasic t → P (symbol_of x) ≡ true → InsideOn S.assignment t P → IsTypeOver S P (variable_type scopes x t)
  variable_over scopes x (int_with p) b o i = number_over (s.var (symbol_of x)) o
  variable_over scopes x (bool_with p) b o i = truth_over (f.flag (symbol_of x)) o
  variable_over scopes x unit_type b o i = ((tt, tt), tt)
  variable_over scopes x (function y c d) b o i = absurd b
  variable_over scopes x (tuple_of ts) b o i = absurd b
  variable_over scopes x (array_with e p) b o i = ((i, (object_part (symbol_of x) o, tt)), (object_part (symbol_of x) o, tt))
  variable_over scopes x (data_with d ts m p) b o i = ((i, (object_part (symbol_of x) o, tt)), (object_part (symbol_of x) o, tt))
  variable_over scopes x (map_with e p) b o i = absurd b
  variable_over scopes x (type_variable j) b o i = absurd b

-- ---- values

module _ (O : Objects) (σ : Givens) (v : Value) where
  beyond_value : SameOn (other_than symbol.Value) (meaning_of O (given symbol.Value v ∷ σ)) (meaning_of O σ)
  beyond_value =
      same_agree O (other_than symbol.Value) (given symbol.Value v ∷ σ) σ (agree_back (other_than symbol.Value) σ (given symbol.Value v ∷ σ) (agree_other σ symbol.Value v))

int_same : (n m : ℤ) → n ≡ m → int_eq n m ≡ true
int_same n m e = (Decides-int_eq n m).1 e

truth_is : (b c : Bool) → b ≡ c → same_truth b c ≡ true
truth_is true true e = refl
truth_is false false e = refl
truth_is true false e = absurd (cc)
truth_is false true e = absurd (cc)

module _ (law : Lower) (S : Scene) (by : Variables) (Γ : Context) (closed : IsClosed S Γ) where
  apart : (y : Symbol) → names_in Γ y ≡ true → other_than symbol.Value y ≡ true
  apart y h = false_not (same_symbol symbol.Value y) (value_apart S Γ closed y h)

  -- the value of a term has the type that says so
  pub number_fits : (t : Sum) → SumOn (names_in Γ) t → (n : ℕ) (W : Table) (σ : Givens) → Inhabits S n W (shut σ by.types (int_with (known (f.compare Eq (s.var symbol.Value) t) ∷ []))) (v_whole (term_value (meaning_of S.objects σ) t))
  number_fits t o n W σ =
      let k = term_value (meaning_of S.objects σ) t in
      let v = v_whole k in
      let same : k ≡ term_value (meaning_of S.objects (given symbol.Value v ∷ σ)) t = sym (value_same (other_than symbol.Value) (meaning_of S.objects (given symbol.Value v ∷ σ)) (meaning_of S.objects σ) (beyond_value S.objects σ v) t (sum_more (names_in Γ) (other_than symbol.Value) apart t o)) in
      (tt, ((int_same k (term_value (meaning_of S.objects (given symbol.Value v ∷ σ)) t) same, tt), tt))

  pub number_value : (c : Core) (t : Sum) → SumOn (names_in Γ) t → RunsToNumber S by Γ c t → RunsToValue S by Γ c (int_with (known (f.compare Eq (s.var symbol.Value) t) ∷ []))
  number_value c t o runs n W σ m = (v_whole (term_value (meaning_of S.objects σ) t), number_fits t o (suc n) W σ, runs n W σ m)

  pub truth_fits : (p : Formula) → FormulaOn (names_in Γ) p → (n : ℕ) (W : Table) (σ : Givens) → Inhabits S n W (shut σ by.types (bool_with (known (f.equivalence (f.flag symbol.Value) p) ∷ []))) (v_flag (truth_of (meaning_of S.objects σ) p))
  truth_fits p o n W σ =
      let b = truth_of (meaning_of S.objects σ) p in
      let v = v_flag b in
      let same : b ≡ truth_of (meaning_of S.objects (given symbol.Value v ∷ σ)) p = sym (truth_same (other_than symbol.Value) (meaning_of S.objects (given symbol.Value v ∷ σ)) (meaning_of S.objects σ) (beyond_value S.objects σ v) p (formula_more (names_in Γ) (other_than symbol.Value) apart p o)) in
      (tt, ((truth_is b (truth_of (meaning_of S.objects (given symbol.Value v ∷ σ)) p) same, tt), tt))

  pub truth_value : (c : Core) (p : Formula) → FormulaOn (names_in Γ) p → RunsToTruth S by Γ c p → RunsToValue S by Γ c (bool_with (known (f.equivalence (f.flag symbol.Value) p) ∷ []))
  truth_value c p o runs n W σ m = (v_flag (truth_of (meaning_of S.objects σ) p), truth_fits p o (suc n) W σ, runs n W σ m)

-- a variable's value has the type that says that it is the variable
pub own_value : (S : Scene) (n : ℕ) (W : Table) (σ : Givens) (by : Shuts) (scopes : Scopes) (x : ℕ) (v : Value) → value_at σ (symbol_of x) ≡ Some v → (t : Refined) → IsBasic t → Inhabits S n W (shut σ by t) v → Inhabits S n W (shut σ by (variable_type scopes x t)) v
own_value S n W σ by scopes x v is (int_with p) b h = (h.0, ((int_same (as_number (Some v)) (as_number (value_at σ (symbol_of x))) (ap as_number (sym is)), tt), tt))
own_value S n W σ by scopes x v is (bool_with p) b h = (h.0, ((truth_is (as_flag (Some v)) (as_flag (value_at σ (symbol_of x))) (ap as_flag (sym is)), tt), tt))
own_value S n W σ by scopes x v is unit_type b h = h
own_value S n W σ by scopes x v is (function y c d) b h = absurd b
own_value S n W σ by scopes x v is (tuple_of ts) b h = absurd b
own_value S n W σ by scopes x v is (array_with e p) b h =
    (h.0, ((eq-eqb (as_object S.objects (Some v)) (as_object S.objects (value_at σ (symbol_of x))) (ap (as_object S.objects) (sym is)), tt), tt))
own_value S n W σ by scopes x v is (data_with d ts m p) b h =
    (h.0, ((eq-eqb (as_object S.objects (Some v)) (as_object S.objects (value_at σ (symbol_of x))) (ap (as_object S.objects) (sym is)), tt), tt))
own_value S n W σ by scopes x v is (map_with e p) b h = absurd b
own_value S n W σ by scopes x v is (type_variable j) b h = absurd b

module _ (law : Lower) (inst : Instancing) (P : Basis) (A : Assignment) (O : Objects) (is : IsScene (scene_of P A O)) (lengths : KnowsLengths O) (by : Variables) (Q : Points) (are : AreTemplates P Q) (Δ : Types) (Γ : Context) (fits : Fits Δ Γ) (closed : IsClosed (scene_of P A O) Γ) where
  number_of : (e : Pure) → PureIs Q Δ e ml.int → PureIn P A by Γ e → RunsToValue (scene_of P A O) by Γ (pure_core e) (pures.number_type e)
  number_of e h o =
      number_value law (scene_of P A O) by Γ closed (pure_core e) (sum_of e) (sum_over (names_in Γ) e (names_of P A by Γ e o)) (number_runs law inst P A O is lengths by Q are Δ Γ fits closed e h o)

  truth_for : (e : Pure) → PureIs Q Δ e ml.bool → PureIn P A by Γ e → RunsToValue (scene_of P A O) by Γ (pure_core e) (pures.truth_type e)
  truth_for e h o =
      truth_value law (scene_of P A O) by Γ closed (pure_core e) (formula_of e) (formula_over (names_in Γ) e (names_of P A by Γ e o)) (condition_runs law inst P A O is lengths by Q are Δ Γ fits closed e h o)

  use_value : (u : Use) → UseIn P A by Γ u → IsBasic (pures.type_of_use P Γ u) → RunsToValue (scene_of P A O) by Γ (pure_core (tree.use_of u)) (pure_type P Γ (tree.use_of u))
  use_value u o b n W σ m =
      let l = look_up law inst P A O is lengths by Q are Δ Γ fits closed (suc n) W σ m u o in
      (l.value, own_value (scene_of P A O) (suc n) W σ by.types P.setting.scopes u.name l.value l.is (pures.type_of_use P Γ u) b l.fits, λ k w. runs_variable k σ u.name l.value w l.is)

  pub value_runs : (e : Pure) (a : MlType) → PureIs Q Δ e a → PureIn P A by Γ e → IsBasicIn P Γ e → RunsToValue (scene_of P A O) by Γ (pure_core e) (pure_type P Γ e)
  value_runs (tree.use_of u) a h o b = use_value u o b
  value_runs (tree.whole i) a h o b = number_of (tree.whole i) refl o
  value_runs (tree.flag c) a h o b = truth_for (tree.flag c) refl o
  value_runs tree.unit a h o b = λ n W σ m. (v_unit, (tt, tt), value_exact law (scene_of P A O) by Γ v_unit n W σ m)
  value_runs (tree.negated d) a h o b = number_of (tree.negated d) (refl, h.1) o
  value_runs (tree.add c d) a h o b = number_of (tree.add c d) (refl, h.1, h.2) o
  value_runs (tree.subtract c d) a h o b = number_of (tree.subtract c d) (refl, h.1, h.2) o
  value_runs (tree.multiply c d) a h o b = number_of (tree.multiply c d) (refl, h.1, h.2) o
  value_runs (tree.length_of d) a h o b = number_of (tree.length_of d) (refl, h.1) o
  value_runs (tree.compare z c d) a h o b = truth_for (tree.compare z c d) (refl, h.1, h.2) o
  value_runs (tree.not_of d) a h o b = truth_for (tree.not_of d) (refl, h.1) o
  value_runs (tree.and_of c d) a h o b = truth_for (tree.and_of c d) (refl, h.1, h.2) o
  value_runs (tree.or_of c d) a h o b = truth_for (tree.or_of c d) (refl, h.1, h.2) o

-- the type of a name speaks of names of the environment
type_in_known : (A : Assignment) (O : Objects) (P : Basis) (N : Symbols) (Γ : Context) → Within (names_in Γ) N → IsClosedIn (scene_of P A O) N Γ → (x : Symbol) → names_in Γ x ≡ true → TypeOn A (type_in Γ x) N
type_in_known A O P N [] f c x h = absurd (cc)
type_in_known A O P N (name y t ∷ Γ) f c x h =
    at (same_symbol y x) (λ s. type_in_known A O P N Γ earlier c.3 x (left_of (names_in Γ x) (same_symbol y x) h s))
  where
    earlier : Within (names_in Γ) N
    earlier z i = f z (within_with (names_in Γ) y z i)

    left_of : (a b : Bool) → a || b ≡ true → b ≡ false → a ≡ true
    left_of true b p q = refl
    left_of false true p q = absurd (cc)
    left_of false false p q = p

    at : (b : Bool) → (b ≡ false → TypeOn A (type_in Γ x) N) → TypeOn A (cond b t (type_in Γ x)) N
    at true g = (c.2.0.0, top_more A t (names_in Γ) N earlier c.2.0.1)
    at false g = g refl
type_in_known A O P N (guard p ∷ Γ) f c x h = type_in_known A O P N Γ f c.1 x h

pub type_known : (A : Assignment) (O : Objects) (P : Basis) (Γ : Context) → IsClosed (scene_of P A O) Γ → (x : Symbol) → names_in Γ x ≡ true → TypeOn A (type_in Γ x) (names_in Γ)
type_known A O P Γ c x h = type_in_known A O P (names_in Γ) Γ (λ y i. i) c x h

module _ (inst : Instancing) (P : Basis) (A : Assignment) (O : Objects) (Γ : Context) (closed : IsClosed (scene_of P A O) Γ) where
  -- so does the type of a use
  pub used_on : (u : Use) → UseOver P A Γ u → TypeOn A (pures.type_of_use P Γ u) (names_in Γ)
  used_on u o = at u.type_arguments o.1
    where
      at : (i : Option ℕ) → ArgumentsOver P A Γ (type_in Γ (symbol_of u.name)) i → TypeOn A (pures.instance_of P Γ i (type_in Γ (symbol_of u.name))) (names_in Γ)
      at None a = type_known A O P Γ closed (symbol_of u.name) o.0
      at (Some i) a = inst.on A (type_in Γ (symbol_of u.name)) (P.type_arguments i) (names_in Γ) (type_known A O P Γ closed (symbol_of u.name) o.0) a.0

  pub pure_over : (e : Pure) → PureOver P A Γ e → IsBasicIn P Γ e → IsTypeOver (scene_of P A O) (names_in Γ) (pure_type P Γ e)
  pure_over (tree.use_of u) o b = variable_over (scene_of P A O) (names_in Γ) P.setting.scopes u.name (pures.type_of_use P Γ u) b o.0 (used_on u o).0
  pure_over (tree.whole i) o b = number_over (scene_of P A O) (names_in Γ) (sum_of (tree.whole i)) tt
  pure_over (tree.flag c) o b = truth_over (scene_of P A O) (names_in Γ) (formula_of (tree.flag c)) (formula_over (names_in Γ) (tree.flag c) tt)
  pure_over tree.unit o b = ((tt, tt), tt)
  pure_over (tree.negated d) o b = number_over (scene_of P A O) (names_in Γ) (sum_of (tree.negated d)) (sum_over (names_in Γ) (tree.negated d) (names_over P A Γ (tree.negated d) o))
  pure_over (tree.add c d) o b = number_over (scene_of P A O) (names_in Γ) (sum_of (tree.add c d)) (sum_over (names_in Γ) (tree.add c d) (names_over P A Γ (tree.add c d) o))
  pure_over (tree.subtract c d) o b = number_over (scene_of P A O) (names_in Γ) (sum_of (tree.subtract c d)) (sum_over (names_in Γ) (tree.subtract c d) (names_over P A Γ (tree.subtract c d) o))
  pure_over (tree.multiply c d) o b = number_over (scene_of P A O) (names_in Γ) (sum_of (tree.multiply c d)) (sum_over (names_in Γ) (tree.multiply c d) (names_over P A Γ (tree.multiply c d) o))
  pure_over (tree.length_of d) o b = number_over (scene_of P A O) (names_in Γ) (sum_of (tree.length_of d)) (sum_over (names_in Γ) (tree.length_of d) (names_over P A Γ (tree.length_of d) o))
  pure_over (tree.compare z c d) o b = truth_over (scene_of P A O) (names_in Γ) (formula_of (tree.compare z c d)) (formula_over (names_in Γ) (tree.compare z c d) (names_over P A Γ (tree.compare z c d) o))
  pure_over (tree.not_of d) o b = truth_over (scene_of P A O) (names_in Γ) (formula_of (tree.not_of d)) (formula_over (names_in Γ) (tree.not_of d) (names_over P A Γ (tree.not_of d) o))
  pure_over (tree.and_of c d) o b = truth_over (scene_of P A O) (names_in Γ) (formula_of (tree.and_of c d)) (formula_over (names_in Γ) (tree.and_of c d) (names_over P A Γ (tree.and_of c d) o))
  pure_over (tree.or_of c d) o b = truth_over (scene_of P A O) (names_in Γ) (formula_of (tree.or_of c d)) (formula_over (names_in Γ) (tree.or_of c d) (names_over P A Γ (tree.or_of c d) o))

-- a condition may be a guard, and so may its negation
pub condition_guards : (S : Scene) (Γ : Context) → IsClosed S Γ → (e : Pure) → EachUse (IsOf (names_in Γ)) e → IsClosed S (guard (known (formula_of e)) ∷ Γ) × IsClosed S (guard (known (f.negation (formula_of e))) ∷ Γ)
condition_guards S Γ closed e o = let h = formula_over (names_in Γ) e o in (((h, tt), closed), ((h, tt), closed))
