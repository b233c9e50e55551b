-- What inhabits a type stays at smaller numbers, and under longer tables.
use Rattle.std.proofs.Common.{◌≡◌, ℕ, ◌≤◌, slice_get, Option, Some, arith as numbers}
use Rattle.lq_meaning_steps.specs.Model.Core.{Value, v_whole, v_flag, v_unit, v_fun, v_rec, v_tuple, v_array, v_build, Values, no_values, more_values}
use Rattle.lq_meaning_steps.specs.Model.Operations.{World}
use Rattle.lq_text_tree.specs.Types.{Signature}
use Rattle.lq_refined_types.specs.Types.Refined.{Refined}
use Rattle.lq_sound_values.specs.Inhabitants.Truth.{Givens, Scene}
use Rattle.lq_sound_values.specs.Inhabitants.Shut.{Shut, Shuts, no_shuts, more_shuts, Form, function_form, tuple_form, array_form, data_form, form, tops}
use Rattle.lq_sound_values.specs.Inhabitants.Inhabits.{Slot, Table, Extends, TopsTrue, Calls, OnFunction, OnTuple, OnArray, OnData, OnMore, Kept, HasForm, AllFitBy, FitsBy, CallsBelow, SameBelow, Inhabits, Agrees}
use Rattle.lq_sound_values.proofs.InhabitantsLemmas.Numbers.{calls_at, calls_make, same_at, same_make, elements_at, elements_make, extends_on, kept}

function_map : (c d : Calls) → ((σ : Givens) (by : Shuts) (x : Option ℕ) (A T : Refined) → c σ by x A T → d σ by x A T) → (F : Form) → OnFunction c F → OnFunction d F
function_map c d f (function_form σ by x A T) h = f σ by x A T h
function_map c d f _ h = absurd h

tuple_map : (f g : Shuts → Type 0) (vs : Values) → ((Ts : Shuts) → f Ts → g Ts) → (F : Form) → OnTuple f vs F → OnTuple g vs F
tuple_map f g vs k (tuple_form σ by Ts) h = k _ h
tuple_map f g vs k _ h = absurd h

array_map : (c d : Shut → Type 0) → ((E : Shut) → c E → d E) → (F : Form) → OnArray c F → OnArray d F
array_map c d f (array_form E) h = f E h
array_map c d f _ h = absurd h

data_map : (G : Signature) (f g : Shuts → Type 0) (c : ℕ) (vs : Values) → ((Ts : Shuts) → f Ts → g Ts) → (F : Form) → OnData G f c vs F → OnData G g c vs F
data_map G f g c vs k (data_form d As M) h = (h.0, h.1, k _ h.2)
data_map G f g c vs k _ h = absurd h

more_map : (f f' : Shut → Type 0) (g g' : Shuts → Type 0) → ((T : Shut) → f T → f' T) → ((Ts : Shuts) → g Ts → g' Ts) → (Ts : Shuts) → OnMore f g Ts → OnMore f' g' Ts
more_map f f' g g' k l no_shuts h = h
more_map f f' g g' k l (more_shuts T Ts) h = (k T h.0, l Ts h.1)

module _ (S : Scene) (c d : Value → Table → Calls) (s t : Table → Slot → Shut → Type 0) (W V : Table) (f : (g : Value) (σ : Givens) (by : Shuts) (x : Option ℕ) (A T : Refined) → c g W σ by x A T → d g V σ by x A T) (k : (r : ℕ) (K : Slot) (E : Shut) → slice_get W r ≡ Some K → s W K E → (slice_get V r ≡ Some K) × t V K E) where
  mutual
    form_map : (F : Form) (v : Value) → HasForm S c s W F v → HasForm S d t V F v
    form_map F (v_whole n) h = h
    form_map F (v_flag b) h = h
    form_map F v_unit h = h
    form_map F (v_fun q b) h = function_map (c (v_fun q b) W) (d (v_fun q b) V) (f (v_fun q b)) F h
    form_map F (v_rec z q b) h = function_map (c (v_rec z q b) W) (d (v_rec z q b) V) (f (v_rec z q b)) F h
    form_map F (v_tuple vs) h = tuple_map (λ Ts. AllFitBy S c s W Ts vs) (λ Ts. AllFitBy S d t V Ts vs) vs (λ Ts q. all_map Ts vs q) F h
    form_map F (v_array r n) h =
        array_map (λ E. Kept (s W) W r n E) (λ E. Kept (t V) V r n E) (λ E q. let z = k r q.0 E q.1 q.3 in (q.0, z.0, q.2, z.1)) F h
    form_map F (v_build b vs) h =
        data_map S.setting.constructors (λ Ts. AllFitBy S c s W Ts vs) (λ Ts. AllFitBy S d t V Ts vs) b vs (λ Ts q. all_map Ts vs q) F h

    pub all_map : (Ts : Shuts) (vs : Values) → AllFitBy S c s W Ts vs → AllFitBy S d t V Ts vs
    all_map Ts no_values h = h
    all_map Ts (more_values v vs) h =
        more_map (λ T. HasForm S c s W (form T) v × TopsTrue S v (tops T)) (λ T. HasForm S d t V (form T) v × TopsTrue S v (tops T)) (λ Us. AllFitBy S c s W Us vs) (λ Us. AllFitBy S d t V Us vs) (λ T q. (form_map (form T) v q.0, q.1)) (λ Us q. all_map Us vs q) Ts h

  pub fits_map : (T : Shut) (v : Value) → FitsBy S c s W T v → FitsBy S d t V T v
  fits_map T v h = (form_map (form T) v h.0, h.1)

calls_down : (S : Scene) (n m : ℕ) → m ≤ n → (g : Value) (W : Table) (σ : Givens) (by : Shuts) (x : Option ℕ) (A T : Refined) → CallsBelow S n g W σ by x A T → CallsBelow S m g W σ by x A T
calls_down S n m le g W σ by x A T h =
    calls_make S g W σ by x A T m (λ k lt. calls_at S g W σ by x A T n k (omega numbers) h)

same_down : (S : Scene) (n m : ℕ) → m ≤ n → (W : Table) (K : Slot) (E : Shut) → SameBelow S n W K E → SameBelow S m W K E
same_down S n m le W K E h = same_make S W K E m (λ k lt. same_at S W K E n k (omega numbers) h)

-- what inhabits a type at a number does so at smaller numbers
pub fit_down : (S : Scene) (n m : ℕ) (W : Table) (T : Shut) (v : Value) → m ≤ n → Inhabits S n W T v → Inhabits S m W T v
fit_down S n m W T v le h =
    fits_map S (CallsBelow S n) (CallsBelow S m) (SameBelow S n) (SameBelow S m) W W (λ g σ by x A U c. calls_down S n m le g W σ by x A U c) (λ r K E is s. (is, same_down S n m le W K E s)) T v h

pub all_fit_down : (S : Scene) (n m : ℕ) (W : Table) (Ts : Shuts) (vs : Values) → m ≤ n → AllFitBy S (CallsBelow S n) (SameBelow S n) W Ts vs → AllFitBy S (CallsBelow S m) (SameBelow S m) W Ts vs
all_fit_down S n m W Ts vs le h =
    all_map S (CallsBelow S n) (CallsBelow S m) (SameBelow S n) (SameBelow S m) W W (λ g σ by x A U c. calls_down S n m le g W σ by x A U c) (λ r K E is s. (is, same_down S n m le W K E s)) Ts vs h

-- and under tables that extend the table
pub fit_more : (S : Scene) (n : ℕ) (W V : Table) (T : Shut) (v : Value) → Extends W V → Inhabits S n W T v → Inhabits S n V T v
fit_more S n W V T v e h =
    fits_map S (CallsBelow S n) (CallsBelow S n) (SameBelow S n) (SameBelow S n) W V (λ g σ by x A U c. calls_make S g V σ by x A U n (λ k lt Y a w f fit ag. calls_at S g W σ by x A U n k lt c Y a w (extends_on W V Y e f) fit ag)) (λ r K E is s. (kept r W V K e is, same_make S V K E n (λ k lt Y u f. same_at S W K E n k lt s Y u (extends_on W V Y e f)))) T v h

pub agrees_down : (S : Scene) (n m : ℕ) (W : Table) (w : World) → m ≤ n → Agrees S n W w → Agrees S m W w
agrees_down S n m W w le h =
    (h.0, elements_make S W w m (λ k lt. elements_at S W w n k (omega numbers) h.1))
