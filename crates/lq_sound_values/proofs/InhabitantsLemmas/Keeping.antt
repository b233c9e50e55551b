-- Fields and datatypes keep the order of arguments: by the number of steps, and then by the size of the value.
use Rattle.std.proofs.Common.{◌≡◌, ℕ, zero, suc, ◌+◌, ◌<◌, ◌≤◌, Bool, true, false, [], ◌∷◌, Option, None, refl, sym, ap, ◌∙◌, subst, arith as numbers}
use Rattle.lq_logic_predicates.specs.declared.symbol.Symbol.TheVariants as symbol
use Rattle.lq_meaning_steps.specs.Model.Core.{val, call, Value, v_whole, v_flag, v_unit, v_fun, v_rec, v_tuple, v_array, v_build, Values, no_values, more_values}
use Rattle.lq_text_tree.specs.MlType as ml
use Rattle.lq_text_tree.specs.MlType.{MlType, MlTypes}
use Rattle.lq_refined_types.specs.Types.Refined.{Matrix, Refined, type_variable}
use Rattle.lq_refined_types.specs.Types.Unfolding.{is_again, cell}
use Rattle.lq_sound_values.specs.Inhabitants.Truth.{Givens, given, Scene, AreTrue}
use Rattle.lq_sound_values.specs.Inhabitants.Shut.{closed, Tops, Shut, shut, datatype, Shuts, no_shuts, more_shuts, shut_all, count_shuts, Form, function_form, tuple_form, array_form, data_form, tops_by, tops_at, tops, position, field_values, components, unrefined, all_unrefined, pushed, field_by, unfolded}
use Rattle.lq_sound_values.specs.Inhabitants.Inhabits.{Table, TopsTrue, HasForm, AllFitBy, CallsBelow, SameBelow, Inhabits}
use Rattle.lq_sound_values.specs.Inhabitants.Runs.{LandsIn}
use Rattle.lq_sound_values.specs.Inhabitants.Below.{Below, AllBelow}
use Rattle.lq_sound_values.specs.Inhabitants.Datatypes.{HasTops, AllHaveTops, Entails, NoVariable, AnyVariable, CovariantIn, AllCovariantIn, AreCovariant}
use Rattle.lq_sound_values.proofs.InhabitantsLemmas.Running.{runs_map}
use Rattle.lq_sound_values.proofs.InhabitantsLemmas.Numbers.{calls_at, calls_make, same_at, same_make}
use Rattle.lq_sound_values.proofs.InhabitantsLemmas.Topped.{tops_first, fits_tops, also_follows}

abbrev pub FormAt : Scene → ℕ → Table → Form → Value → Type 0
FormAt S n = HasForm S (CallsBelow S n) (SameBelow S n)

abbrev pub AllFit : Scene → ℕ → Table → Shuts → Values → Type 0
AllFit S n = AllFitBy S (CallsBelow S n) (SameBelow S n)

-- ---- sizes of values

abbrev mutual
  size : Value → ℕ
  size (v_whole i) = 0
  size (v_flag b) = 0
  size v_unit = 0
  size (v_fun q b) = 0
  size (v_rec f q b) = 0
  size (v_tuple vs) = suc (sizes vs)
  size (v_array r i) = 0
  size (v_build c vs) = suc (sizes vs)

  sizes : Values → ℕ
  sizes no_values = 0
  sizes (more_values v vs) = size v + sizes vs

-- ---- functions, arrays

pub function_by : (S : Scene) (n : ℕ) (W : Table) (σ τ : Givens) (by to : Shuts) (x y : Option ℕ) (A T B U : Refined) → ((g : Value) → CallsBelow S n g W σ by x A T → CallsBelow S n g W τ to y B U) → (v : Value) → FormAt S n W (function_form σ by x A T) v → FormAt S n W (function_form τ to y B U) v
function_by S n W σ τ by to x y A T B U f (v_fun q b) h = f (v_fun q b) h
function_by S n W σ τ by to x y A T B U f (v_rec z q b) h = f (v_rec z q b) h
function_by S n W σ τ by to x y A T B U f _ h = absurd h

pub array_by : (S : Scene) (n : ℕ) (W : Table) (E F : Shut) → ((m : ℕ) (V : Table) (v : Value) → m < n → (Inhabits S m V E v → Inhabits S m V F v) × (Inhabits S m V F v → Inhabits S m V E v)) → (v : Value) → FormAt S n W (array_form E) v → FormAt S n W (array_form F) v
array_by S n W E F f (v_array r i) h =
    (h.0, h.1, h.2, same_make S W h.0 F n (λ m lt V v e. let s = same_at S W h.0 E n m lt h.3 V v e in let t = f m V v lt in (λ q. t.0 (s.0 q), λ q. s.1 (t.1 q))))
array_by S n W E F f _ h = absurd h

-- ---- at fewer steps for each value, and at these for values of a size

abbrev AtMost : Scene → ℕ → Shut → Shut → Type 0
AtMost S m A B = (k : ℕ) → k ≤ m → (W : Table) (v : Value) → Inhabits S k W A v → Inhabits S k W B v

abbrev Before : Scene → ℕ → Shut → Shut → Type 0
Before S n A B = (m : ℕ) → m < n → (W : Table) (v : Value) → Inhabits S m W A v → Inhabits S m W B v

abbrev Sized : Scene → ℕ → ℕ → Shut → Shut → Type 0
Sized S n s A B = (W : Table) (v : Value) → size v < s → Inhabits S n W A v → Inhabits S n W B v

-- the type for a parameter
abbrev parameter : Shuts → ℕ → Shut
parameter As i = shut [] As (type_variable i)

abbrev Keeps : Scene → ℕ → Type 1
Keeps S m =
    (f : MlType) (P : ℕ → Type 0) (As Bs : Shuts) → CovariantIn P f → ((i : ℕ) → P i → AtMost S m (parameter As i) (parameter Bs i))
    → (W : Table) (v : Value) → Inhabits S m W (shut [] As (unrefined f)) v → Inhabits S m W (shut [] Bs (unrefined f)) v

abbrev FieldsSized : Scene → ℕ → ℕ → Type 1
FieldsSized S n s =
    (f : MlType) (P : ℕ → Type 0) (As Bs : Shuts) → CovariantIn P f → ((i : ℕ) → P i → Before S n (parameter As i) (parameter Bs i))
    → ((i : ℕ) → P i → Sized S n s (parameter As i) (parameter Bs i)) → Sized S n s (shut [] As (unrefined f)) (shut [] Bs (unrefined f))

pub record Related (S : Scene) (n s : ℕ) (As Bs : Shuts) : Type 0 where
  pub counts : count_shuts As ≡ count_shuts Bs
  pub before : (i : ℕ) → Before S n (parameter As i) (parameter Bs i)
  pub sized : (i : ℕ) → Sized S n s (parameter As i) (parameter Bs i)

abbrev DatasSized : Scene → ℕ → ℕ → Type 0
DatasSized S n s =
    (d : ℕ) (As Bs : Shuts) (M N : Matrix) → Entails S d As M N → Related S n s As Bs → Sized S n s (datatype d As M) (datatype d Bs N)

-- ---- tops of fields and of arguments

all_tops : (S : Scene) (n : ℕ) (W : Table) (Ts : Shuts) (vs : Values) → AllFit S n W Ts vs → AllHaveTops S Ts vs
all_tops S n W no_shuts no_values h = tt
all_tops S n W no_shuts (more_values v vs) h = absurd h
all_tops S n W (more_shuts T Ts) no_values h = absurd h
all_tops S n W (more_shuts T Ts) (more_values v vs) h =
    (fits_tops S (CallsBelow S n) (SameBelow S n) W T v h.0, all_tops S n W Ts vs h.1)

count-pushed : (τ : Givens) (M : Matrix) (c j k : ℕ) (As : Shuts) → count_shuts (pushed τ M c j k As) ≡ count_shuts As
count-pushed τ M c j k no_shuts = refl
count-pushed τ M c j k (more_shuts A As) = ap suc (count-pushed τ M c j (suc k) As)

-- what is strengthened has the top that it had
weaker_at : (S : Scene) (τ : Givens) (M : Matrix) (c j k : ℕ) (As : Shuts) (i : ℕ) (u : Value) → HasTops S (parameter (pushed τ M c j k As) i) u → HasTops S (parameter As i) u
weaker_at S τ M c j k no_shuts i u h = h
weaker_at S τ M c j k (more_shuts A As) zero u h = (h.0, tops_first S u (tops A) _ h.1)
weaker_at S τ M c j k (more_shuts A As) (suc i) u h = weaker_at S τ M c j (suc k) As i u h

weaker : (S : Scene) (τ : Givens) (M : Matrix) (c j : ℕ) (As : Shuts) (f : MlType) (u : Value) → HasTops S (shut [] (pushed τ M c j 0 As) (unrefined f)) u → HasTops S (shut [] As (unrefined f)) u
weaker S τ M c j As (ml.var a) u h = weaker_at S τ M c j 0 As a u h
weaker S τ M c j As ml.int u h = h
weaker S τ M c j As ml.bool u h = h
weaker S τ M c j As ml.unit u h = h
weaker S τ M c j As (ml.arrow a b) u h = h
weaker S τ M c j As (ml.tuple ts) u h = h
weaker S τ M c j As (ml.array a) u h = h
weaker S τ M c j As (ml.named d ts) u h = h
weaker S τ M c j As (ml.map_of a) u h = h

weaker_field : (S : Scene) (τ κ : Givens) (M : Matrix) (c j d b i : ℕ) (As : Shuts) (f : MlType) (x y : Bool) (u : Value) → x ≡ y → HasTops S (field_by x κ d (pushed τ M c j 0 As) M b i f) u → HasTops S (field_by y κ d As M b i f) u
weaker_field S τ κ M c j d b i As f true true u e h = h
weaker_field S τ κ M c j d b i As f false false u e h = weaker S τ M c j As f u h
weaker_field S τ κ M c j d b i As f true false u e h = absurd (cc)
weaker_field S τ κ M c j d b i As f false true u e h = absurd (cc)

weaker_all : (S : Scene) (τ : Givens) (M : Matrix) (c j : ℕ) (As : Shuts) (κ : Givens) (d b i : ℕ) (fs : MlTypes) (vs : Values) → AllHaveTops S (unfolded κ d (pushed τ M c j 0 As) M b i fs) vs → AllHaveTops S (unfolded κ d As M b i fs) vs
weaker_all S τ M c j As κ d b i ml.no_types vs h = h
weaker_all S τ M c j As κ d b i (ml.more_types f fs) no_values h = absurd h
weaker_all S τ M c j As κ d b i (ml.more_types f fs) (more_values v vs) h =
    (weaker_field S τ κ M c j d b i As f (is_again d (count_shuts (pushed τ M c j 0 As)) f) (is_again d (count_shuts As) f) v (ap (λ k. is_again d k f) (count-pushed τ M c j 0 As)) h.0, weaker_all S τ M c j As κ d b (suc i) fs vs h.1)

still_entails : (S : Scene) (d : ℕ) (As : Shuts) (M N : Matrix) (τ : Givens) (c j : ℕ) → Entails S d As M N → Entails S d (pushed τ M c j 0 As) M N
still_entails S d As M N τ c j e b k vs is h y i u arg t =
    e b k vs is (weaker_all S τ M c j As (field_values 0 vs) d b 0 k.fields vs h) y i u (weaker_at S τ M c j 0 As i u arg) t

-- arguments strengthened by the one matrix and by the other, at one number and value
abbrev Gives : Scene → Givens → ℕ → ℕ → Matrix → Matrix → ℕ → Shut → Value → Type 0
Gives S τ c j M N i A u =
    HasTops S A u → AreTrue S (given symbol.Value u ∷ τ) (cell M c j i) → AreTrue S (given symbol.Value u ∷ τ) (cell N c j i)

pushed_at : (S : Scene) (τ : Givens) (M N : Matrix) (c j k m : ℕ) (W : Table) (As Bs : Shuts) (i : ℕ) (u : Value) → count_shuts As ≡ count_shuts Bs → Gives S τ c j M N (i + k) (parameter As i) u → (Inhabits S m W (parameter As i) u → Inhabits S m W (parameter Bs i) u) → Inhabits S m W (parameter (pushed τ M c j k As) i) u → Inhabits S m W (parameter (pushed τ N c j k Bs) i) u
pushed_at S τ M N c j k m W no_shuts no_shuts i u e g f h = h
pushed_at S τ M N c j k m W no_shuts (more_shuts B Bs) i u e g f h = absurd (omega (numbers, e))
pushed_at S τ M N c j k m W (more_shuts A As) no_shuts i u e g f h = absurd (omega (numbers, e))
pushed_at S τ M N c j k m W (more_shuts A As) (more_shuts B Bs) zero u e g f h =
    let z : 0 + k ≡ k = omega numbers in
    also_follows S (CallsBelow S m) (SameBelow S m) W A B (closed τ (cell M c j k) ∷ []) (closed τ (cell N c j k) ∷ []) u f (λ t q.
    (subst (λ y. AreTrue S (given symbol.Value u ∷ τ) (cell N c j y)) z (g t (subst (λ y. AreTrue S (given symbol.Value u ∷ τ) (cell M c j y)) (sym z) q.0)), tt)) h
pushed_at S τ M N c j k m W (more_shuts A As) (more_shuts B Bs) (suc i) u e g f h =
    let z : suc i + k ≡ i + suc k = omega numbers in
    pushed_at S τ M N c j (suc k) m W As Bs i u (omega (numbers, e)) (subst (λ y. Gives S τ c j M N y (parameter As i) u) z g) f h

pushed_related : (S : Scene) (n s : ℕ) (τ : Givens) (M N : Matrix) (c j : ℕ) (As Bs : Shuts) → ((i : ℕ) (u : Value) → Gives S τ c j M N i (parameter As i) u) → Related S n s As Bs → Related S n s (pushed τ M c j 0 As) (pushed τ N c j 0 Bs)
pushed_related S n s τ M N c j As Bs g r =
    let at : (i : ℕ) (u : Value) → Gives S τ c j M N (i + 0) (parameter As i) u = λ i u.
    let z : i ≡ i + 0 = omega numbers in subst (λ y. Gives S τ c j M N y (parameter As i) u) z (g i u) in
    record { counts = count-pushed τ M c j 0 As ∙ r.counts ∙ sym (count-pushed τ N c j 0 Bs); before = λ i m lt W v h. pushed_at S τ M N c j 0 m W As Bs i v r.counts (at i v) (r.before i m lt W v) h; sized = λ i W v lt h. pushed_at S τ M N c j 0 n W As Bs i v r.counts (at i v) (r.sized i W v lt) h }

-- ---- the types for the arguments of a field that is a datatype

count-shut : (As Bs : Shuts) (ts : MlTypes) → count_shuts (shut_all [] As (all_unrefined ts)) ≡ count_shuts (shut_all [] Bs (all_unrefined ts))
count-shut As Bs ml.no_types = refl
count-shut As Bs (ml.more_types t ts) = ap suc (count-shut As Bs ts)

argument_at : (S : Scene) (P : ℕ → Type 0) (m : ℕ) (W : Table) (v : Value) (As Bs : Shuts) → ((t : MlType) → CovariantIn P t → Inhabits S m W (shut [] As (unrefined t)) v → Inhabits S m W (shut [] Bs (unrefined t)) v) → (ts : MlTypes) → AllCovariantIn P ts → (i : ℕ) → Inhabits S m W (parameter (shut_all [] As (all_unrefined ts)) i) v → Inhabits S m W (parameter (shut_all [] Bs (all_unrefined ts)) i) v
argument_at S P m W v As Bs f ml.no_types cov i h = h
argument_at S P m W v As Bs f (ml.more_types t ts) cov zero h = f t cov.0 h
argument_at S P m W v As Bs f (ml.more_types t ts) cov (suc i) h = argument_at S P m W v As Bs f ts cov.1 i h

-- the top of a type without refinements is empty, at whatever values it is read
bare_top : (S : Scene) (at : ℕ → Tops) (τ κ : Givens) (t : MlType) (v : Value) → TopsTrue S v (tops_by at τ (unrefined t)) → TopsTrue S v (tops_by at κ (unrefined t))
bare_top S at τ κ ml.int v h = h
bare_top S at τ κ ml.bool v h = h
bare_top S at τ κ ml.unit v h = h
bare_top S at τ κ (ml.var a) v h = h
bare_top S at τ κ (ml.arrow a b) v h = h
bare_top S at τ κ (ml.tuple ts) v h = h
bare_top S at τ κ (ml.array a) v h = h
bare_top S at τ κ (ml.named d ts) v h = h
bare_top S at τ κ (ml.map_of a) v h = h

-- ---- a size more

module _ (S : Scene) (cov : AreCovariant S.setting.constructors) (n : ℕ) (ih : (m : ℕ) → m < n → Keeps S m) (s : ℕ) (fields : FieldsSized S n s) (datas : DatasSized S n s) where
  field_keeps : (τ : Givens) (d : ℕ) (M N : Matrix) (c j : ℕ) (As Bs : Shuts) (f : MlType) → CovariantIn AnyVariable f → Entails S d As M N → ((i : ℕ) (u : Value) → Gives S τ c j M N i (parameter As i) u) → Related S n s As Bs → (x y : Bool) → x ≡ y → Sized S n s (field_by x τ d As M c j f) (field_by y τ d Bs N c j f)
  field_keeps τ d M N c j As Bs f o e g r true true is W v lt h =
      datas d (pushed τ M c j 0 As) (pushed τ N c j 0 Bs) M N (still_entails S d As M N τ c j e) (pushed_related S n s τ M N c j As Bs g r) W v lt h
  field_keeps τ d M N c j As Bs f o e g r false false is W v lt h =
      fields f AnyVariable As Bs o (λ i p. r.before i) (λ i p. r.sized i) W v lt h
  field_keeps τ d M N c j As Bs f o e g r true false is W v lt h = absurd (cc)
  field_keeps τ d M N c j As Bs f o e g r false true is W v lt h = absurd (cc)

  rows_keep : (vs : Values) (fs : MlTypes) → AllCovariantIn AnyVariable fs → sizes vs < s → (τ : Givens) (d : ℕ) (M N : Matrix) (c j : ℕ) (As Bs : Shuts) → Entails S d As M N → ((j i : ℕ) (u : Value) → Gives S τ c j M N i (parameter As i) u) → Related S n s As Bs → (W : Table) → AllFit S n W (unfolded τ d As M c j fs) vs → AllFit S n W (unfolded τ d Bs N c j fs) vs
  rows_keep no_values ml.no_types o lt τ d M N c j As Bs e g r W h = h
  rows_keep no_values (ml.more_types f fs) o lt τ d M N c j As Bs e g r W h = absurd h
  rows_keep (more_values v vs) ml.no_types o lt τ d M N c j As Bs e g r W h = absurd h
  rows_keep (more_values v vs) (ml.more_types f fs) o lt τ d M N c j As Bs e g r W h =
      (field_keeps τ d M N c j As Bs f o.0 e (g j) r (is_again d (count_shuts As) f) (is_again d (count_shuts Bs) f) (ap (λ k. is_again d k f) r.counts) W v (omega (numbers, lt)) h.0, rows_keep vs fs o.1 (omega (numbers, lt)) τ d M N c (suc j) As Bs e g r W h.1)

  data_keeps : (d : ℕ) (As Bs : Shuts) (M N : Matrix) → Entails S d As M N → Related S n s As Bs → (W : Table) (v : Value) → size v < suc s → FormAt S n W (data_form d As M) v → FormAt S n W (data_form d Bs N) v
  data_keeps d As Bs M N e r W (v_build c vs) lt h =
      (h.0, h.1, rows_keep vs h.0.fields (cov c h.0 h.1.0) (omega (numbers, lt)) (field_values 0 vs) d M N c 0 As Bs e (λ j i u. e c h.0 vs h.1 (all_tops S n W (unfolded (field_values 0 vs) d As M c 0 h.0.fields) vs h.2) j i u) r W h.2)
  data_keeps d As Bs M N e r W _ lt h = absurd h

  components_keep : (vs : Values) (ts : MlTypes) (P : ℕ → Type 0) (As Bs : Shuts) → AllCovariantIn P ts → sizes vs < s → ((i : ℕ) → P i → Before S n (parameter As i) (parameter Bs i)) → ((i : ℕ) → P i → Sized S n s (parameter As i) (parameter Bs i)) → (τ : Givens) (k : ℕ) (W : Table) → AllFit S n W (components [] As τ k (all_unrefined ts) vs) vs → AllFit S n W (components [] Bs τ k (all_unrefined ts) vs) vs
  components_keep no_values ml.no_types P As Bs o lt before sized τ k W h = h
  components_keep no_values (ml.more_types t ts) P As Bs o lt before sized τ k W h = absurd h
  components_keep (more_values v vs) ml.no_types P As Bs o lt before sized τ k W h = absurd h
  components_keep (more_values v vs) (ml.more_types t ts) P As Bs o lt before sized τ k W h =
      let r = fields t P As Bs o.0 before sized W v (omega (numbers, lt)) (h.0.0, bare_top S (tops_at As) τ [] t v h.0.1) in
      ((r.0, bare_top S (tops_at Bs) [] τ t v r.1), components_keep vs ts P As Bs o.1 (omega (numbers, lt)) before sized (position k v τ) (suc k) W h.1)

  tuple_keeps : (ts : MlTypes) (P : ℕ → Type 0) (As Bs : Shuts) → AllCovariantIn P ts → ((i : ℕ) → P i → Before S n (parameter As i) (parameter Bs i)) → ((i : ℕ) → P i → Sized S n s (parameter As i) (parameter Bs i)) → (W : Table) (v : Value) → size v < suc s → FormAt S n W (tuple_form [] As (all_unrefined ts)) v → FormAt S n W (tuple_form [] Bs (all_unrefined ts)) v
  tuple_keeps ts P As Bs o before sized W (v_tuple vs) lt h = components_keep vs ts P As Bs o (omega (numbers, lt)) before sized [] 0 W h
  tuple_keeps ts P As Bs o before sized W _ lt h = absurd h

  -- what holds no variable is the same with any types for variables
  fixed_same : (a : MlType) (As Bs : Shuts) → CovariantIn NoVariable a → (m : ℕ) → m < n → (W : Table) (v : Value) → Inhabits S m W (shut [] As (unrefined a)) v → Inhabits S m W (shut [] Bs (unrefined a)) v
  fixed_same a As Bs o m lt W v h = ih m lt a NoVariable As Bs o (λ i p. absurd p) W v h

  calls_keep : (a b : MlType) (P : ℕ → Type 0) (As Bs : Shuts) → CovariantIn NoVariable a → CovariantIn P b → ((i : ℕ) → P i → Before S n (parameter As i) (parameter Bs i)) → (W : Table) (g : Value) → CallsBelow S n g W [] As None (unrefined a) (unrefined b) → CallsBelow S n g W [] Bs None (unrefined a) (unrefined b)
  calls_keep a b P As Bs o p before W g h =
      calls_make S g W [] Bs None (unrefined a) (unrefined b) n (λ m lt Y u w e fit ag.
      runs_map m (call (val g) (val u)) w (LandsIn S Y (shut [] As (unrefined b))) (LandsIn S Y (shut [] Bs (unrefined b))) (λ k v z le q. (q.0, q.1, ih k (omega (numbers, lt, le)) b P As Bs p (λ i x j jle. before i x j (omega (numbers, lt, le, jle))) q.0 v q.2, q.3)) (calls_at S g W [] As None (unrefined a) (unrefined b) n m lt h Y u w e (fixed_same a Bs As o m lt Y u fit) ag))

  data_argument : (ts : MlTypes) (P : ℕ → Type 0) (As Bs : Shuts) → AllCovariantIn P ts → ((i : ℕ) → P i → Before S n (parameter As i) (parameter Bs i)) → ((i : ℕ) → P i → Sized S n s (parameter As i) (parameter Bs i)) → Related S n s (shut_all [] As (all_unrefined ts)) (shut_all [] Bs (all_unrefined ts))
  data_argument ts P As Bs o before sized =
      record { counts = count-shut As Bs ts; before = λ i m lt W v h. argument_at S P m W v As Bs (λ t c q. ih m lt t P As Bs c (λ z x j jle. before z x j (omega (numbers, lt, jle))) W v q) ts o i h; sized = λ i W v lt h. argument_at S P n W v As Bs (λ t c q. fields t P As Bs c before sized W v lt q) ts o i h }

  fields_more : FieldsSized S n (suc s)
  fields_more ml.int P As Bs o before sized W v lt h = h
  fields_more ml.bool P As Bs o before sized W v lt h = h
  fields_more ml.unit P As Bs o before sized W v lt h = h
  fields_more (ml.var i) P As Bs o before sized W v lt h = sized i o W v lt h
  fields_more (ml.map_of a) P As Bs o before sized W v lt h = h
  fields_more (ml.arrow a b) P As Bs o before sized W v lt h =
      (function_by S n W [] [] As Bs None None (unrefined a) (unrefined b) (unrefined a) (unrefined b) (calls_keep a b P As Bs o.0 o.1 before W) v h.0, tt)
  fields_more (ml.tuple ts) P As Bs o before sized W v lt h =
      (tuple_keeps ts P As Bs o before (λ i p W u l. sized i p W u (omega (numbers, l))) W v lt h.0, tt)
  fields_more (ml.array a) P As Bs o before sized W v lt h =
      (array_by S n W (shut [] As (unrefined a)) (shut [] Bs (unrefined a)) (λ m V u l. (fixed_same a As Bs o m l V u, fixed_same a Bs As o m l V u)) v h.0, h.1)
  fields_more (ml.named d ts) P As Bs o before sized W v lt h =
      (data_keeps d (shut_all [] As (all_unrefined ts)) (shut_all [] Bs (all_unrefined ts)) [] [] (λ c k vs is all j i u arg q. q) (data_argument ts P As Bs o before (λ i p W u l. sized i p W u (omega (numbers, l)))) W v lt h.0, h.1)

  datas_more : DatasSized S n (suc s)
  datas_more d As Bs M N e r W v lt h =
      (data_keeps d As Bs M N e record { counts = r.counts; before = r.before; sized = λ i W u l. r.sized i W u (omega (numbers, l)) } W v lt h.0, tt)

-- ---- all sizes, and all numbers

module _ (S : Scene) (cov : AreCovariant S.setting.constructors) where
  each_size : (n : ℕ) → ((m : ℕ) → m < n → Keeps S m) → (s : ℕ) → FieldsSized S n s × DatasSized S n s
  each_size n ih zero = (λ f P As Bs o before sized W v lt h. absurd (omega (numbers, lt)), λ d As Bs M N e r W v lt h. absurd (omega (numbers, lt)))
  each_size n ih (suc s) =
      let r = each_size n ih s in
      (fields_more S cov n ih s r.0 r.1, datas_more S cov n ih s r.0 r.1)

  keeps_by : (n : ℕ) → ((m : ℕ) → m < n → Keeps S m) → Keeps S n
  keeps_by n ih f P As Bs o r W v h =
      (each_size n ih (suc (size v))).0 f P As Bs o (λ i p m lt. r i p m (omega (numbers, lt))) (λ i p V u lt. r i p n (omega numbers) V u) W v (omega numbers) h

  keeps_below : (n m : ℕ) → m < n → Keeps S m
  keeps_below zero m lt = absurd (omega (numbers, lt))
  keeps_below (suc n) m lt = keeps_by m (λ k l. keeps_below n k (omega (numbers, lt, l)))

  all_at : (As Bs : Shuts) → AllBelow S As Bs → (i : ℕ) → Below S (parameter As i) (parameter Bs i)
  all_at no_shuts no_shuts h i n W v q = q
  all_at no_shuts (more_shuts B Bs) h i n W v q = absurd h
  all_at (more_shuts A As) no_shuts h i n W v q = absurd h
  all_at (more_shuts A As) (more_shuts B Bs) h zero n W v q = h.0 n W v q
  all_at (more_shuts A As) (more_shuts B Bs) h (suc i) n W v q = all_at As Bs h.1 i n W v q

  count-below : (As Bs : Shuts) → AllBelow S As Bs → count_shuts As ≡ count_shuts Bs
  count-below no_shuts no_shuts h = refl
  count-below no_shuts (more_shuts B Bs) h = absurd h
  count-below (more_shuts A As) no_shuts h = absurd h
  count-below (more_shuts A As) (more_shuts B Bs) h = ap suc (count-below As Bs h.1)

  pub field_below : (f : MlType) → CovariantIn AnyVariable f → (As Bs : Shuts) → AllBelow S As Bs → Below S (shut [] As (unrefined f)) (shut [] Bs (unrefined f))
  field_below f o As Bs h n W v q =
      keeps_by n (keeps_below n) f AnyVariable As Bs o (λ i p k le V u z. all_at As Bs h i k V u z) W v q

  pub data_below : (d : ℕ) (As Bs : Shuts) (M N : Matrix) → Entails S d As M N → AllBelow S As Bs → Below S (datatype d As M) (datatype d Bs N)
  data_below d As Bs M N e h n W v q =
      (each_size n (keeps_below n) (suc (size v))).1 d As Bs M N e record { counts = count-below As Bs h; before = λ i m lt V u z. all_at As Bs h i m V u z; sized = λ i V u lt z. all_at As Bs h i n V u z } W v (omega numbers) q
