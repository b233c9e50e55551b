-- The values that inhabit a closed refined type as far as n steps can tell.
use Rattle.std.specs.Prelude.{◌≡◌, ℕ, zero, suc, List, [], ◌∷◌, ◌++◌, length, slice_get, Option, Some, None}
use Rattle.lq_meaning_steps.specs.Model.Core.{Core, val, call, Value, v_whole, v_flag, v_unit, v_fun, v_rec, v_tuple, v_array, v_build, Values, no_values, more_values, as_value}
use Rattle.lq_meaning_steps.specs.Model.Operations.{World}
use Rattle.lq_meaning_steps.specs.Model.Step.{Next, goes, faults, ends}
use Rattle.lq_meaning_steps.specs.Model.StepFunction.{step}
use Rattle.lq_logic_predicates.specs.declared.symbol.Symbol.TheVariants as symbol
use Rattle.lq_text_tree.specs.Types.{Constructor, Signature}
use Rattle.lq_refined_types.specs.Types.Refined.{Refined}
use Rattle.lq_sound_values.specs.Inhabitants.Truth.{Givens, given, Scene, AreTrue}
use Rattle.lq_sound_values.specs.Inhabitants.Shut.{Tops, Shut, shut, Shuts, no_shuts, more_shuts, Form, int_form, bool_form, unit_form, function_form, tuple_form, array_form, data_form, form, tops, with_argument, field_values, components, unfolded}

-- what the table keeps for an array: its length, and the closed type of its elements
pub record Slot : Type 0 where
  pub size : ℕ
  pub kind : Shut

abbrev pub Table : Type 0
Table = List Slot

abbrev pub Fit : Type 1
Fit = Table → Shut → Value → Type 0

abbrev pub Extends : Table → Table → Type 0
Extends W V = (more : Table) × (V ≡ W ++ more)

-- what is asked of the next step: of a fault and where no step is, and of what follows; the input may end
abbrev pub OnNext : Option Next → Type 0 → (Core → World → Type 0) → Type 0
OnNext (Some (goes d u)) F go = go d u
OnNext (Some (faults f p)) F go = F
OnNext (Some (ends p)) F go = Unit {0}
OnNext None F go = F

abbrev pub Turn : Option Value → Option Next → Type 0 → (Value → Type 0) → (Core → World → Type 0) → Type 0
Turn (Some v) s F q go = q v
Turn None s F q go = OnNext s F go

abbrev pub FaultAfter : ℕ → Type 0
FaultAfter zero = Unit {0}
FaultAfter (suc n) = ⊥

-- the parts are true of the value
abbrev pub TopsTrue : Scene → Value → Tops → Type 0
TopsTrue S v [] = Unit {0}
TopsTrue S v (q ∷ qs) = AreTrue S (given symbol.Value v ∷ q.givens) q.parts × TopsTrue S v qs

-- ---- what is asked of the form of a type, by the form of the value

abbrev pub OnWhole : Form → Type 0
OnWhole int_form = Unit {0}
OnWhole _ = ⊥

abbrev pub OnFlag : Form → Type 0
OnFlag bool_form = Unit {0}
OnFlag _ = ⊥

abbrev pub OnUnit : Form → Type 0
OnUnit unit_form = Unit {0}
OnUnit _ = ⊥

-- of a function: at values for names and types for variables, of its own name of the argument, the argument's type and the result's
abbrev pub Calls : Type 1
Calls = Givens → Shuts → Option ℕ → Refined → Refined → Type 0

abbrev pub OnFunction : Calls → Form → Type 0
OnFunction calls (function_form σ by x A T) = calls σ by x A T
OnFunction calls _ = ⊥

-- of the types of components or of fields
abbrev pub OnTuple : (Shuts → Type 0) → Values → Form → Type 0
OnTuple fit vs (tuple_form σ by Ts) = fit (components σ by σ 0 Ts vs)
OnTuple fit vs _ = ⊥

-- the array's slot, of its length, has the same inhabitants as the type
abbrev pub Kept : (Slot → Shut → Type 0) → Table → ℕ → ℕ → Shut → Type 0
Kept same W r n E = (K : Slot) × (slice_get W r ≡ Some K) × (K.size ≡ n) × same K E

abbrev pub OnArray : (Shut → Type 0) → Form → Type 0
OnArray kept (array_form E) = kept E
OnArray kept _ = ⊥

-- what a name of a constructor stands for, where it makes values of the datatype
abbrev pub Makes : Signature → ℕ → ℕ → Constructor → Type 0
Makes g d c k = (g c ≡ Some k) × (k.datatype ≡ d)

abbrev pub OnData : Signature → (Shuts → Type 0) → ℕ → Values → Form → Type 0
OnData g fit c vs (data_form d As M) = (k : Constructor) × Makes g d c k × fit (unfolded (field_values 0 vs) d As M c 0 k.fields)
OnData g fit c vs _ = ⊥

abbrev pub NoneLeft : Shuts → Type 0
NoneLeft no_shuts = Unit {0}
NoneLeft (more_shuts T Ts) = ⊥

abbrev pub OnMore : (Shut → Type 0) → (Shuts → Type 0) → Shuts → Type 0
OnMore f g no_shuts = ⊥
OnMore f g (more_shuts T Ts) = f T × g Ts

-- ---- the relation, where it is known of calls and of arrays

abbrev mutual
  -- the value is of the form
  pub HasForm : Scene → (Value → Table → Calls) → (Table → Slot → Shut → Type 0) → Table → Form → Value → Type 0
  HasForm S calls same W F (v_whole n) = OnWhole F
  HasForm S calls same W F (v_flag b) = OnFlag F
  HasForm S calls same W F v_unit = OnUnit F
  HasForm S calls same W F (v_fun q b) = OnFunction (calls (v_fun q b) W) F
  HasForm S calls same W F (v_rec f q b) = OnFunction (calls (v_rec f q b) W) F
  HasForm S calls same W F (v_tuple vs) = OnTuple (λ Ts. AllFitBy S calls same W Ts vs) vs F
  HasForm S calls same W F (v_array r n) = OnArray (λ E. Kept (same W) W r n E) F
  HasForm S calls same W F (v_build c vs) = OnData S.setting.constructors (λ Ts. AllFitBy S calls same W Ts vs) c vs F

  pub AllFitBy : Scene → (Value → Table → Calls) → (Table → Slot → Shut → Type 0) → Table → Shuts → Values → Type 0
  AllFitBy S calls same W Ts no_values = NoneLeft Ts
  AllFitBy S calls same W Ts (more_values v vs) =
      OnMore (λ T. HasForm S calls same W (form T) v × TopsTrue S v (tops T)) (λ Us. AllFitBy S calls same W Us vs) Ts

-- it is of the type's form, and the parts of the type's top are true of it
abbrev pub FitsBy : Scene → (Value → Table → Calls) → (Table → Slot → Shut → Type 0) → Fit
FitsBy S calls same W T v = HasForm S calls same W (form T) v × TopsTrue S v (tops T)

-- as many arrays as slots, and as many elements as the slot says
abbrev pub Sized : Table → World → Type 0
Sized W w =
    (length W ≡ length w.arrays) × ((r : ℕ) (K : Slot) → slice_get W r ≡ Some K → (row : List Value) × (slice_get w.arrays r ≡ Some row) × (length row ≡ K.size))

abbrev pub Elements : Fit → Table → World → Type 0
Elements fit W w =
    (r j : ℕ) (K : Slot) (row : List Value) (v : Value) → slice_get W r ≡ Some K → slice_get w.arrays r ≡ Some row → slice_get row j ≡ Some v → fit W K.kind v

abbrev pub SameFits : Fit → Table → Slot → Shut → Type 0
SameFits fit W K E =
    (V : Table) (v : Value) → Extends W V → (fit V K.kind v → fit V E v) × (fit V E v → fit V K.kind v)

abbrev pub Lands : Fit → (Table → World → Type 0) → Table → Shut → Value → World → Type 0
Lands fit agrees W T v w = (V : Table) × Extends W V × fit V T v × agrees V w

abbrev mutual
  -- for each m below n, the call with an argument that inhabits its type at m, on a store that agrees at m, runs well for m steps
  pub CallsBelow : Scene → ℕ → Value → Table → Calls
  CallsBelow S zero g W σ by x A T = Unit {0}
  CallsBelow S (suc n) g W σ by x A T =
      let fit : Fit = FitsBy S (CallsBelow S n) (SameBelow S n) in
      let agrees : Table → World → Type 0 = λ V w. Sized V w × ElementsBelow S n V w in
      CallsBelow S n g W σ by x A T × ((V : Table) (a : Value) (w : World) → Extends W V → fit V (shut σ by A) a → agrees V w → Turn (as_value (call (val g) (val a))) (step (call (val g) (val a)) w) (FaultAfter n) (λ v. Lands fit agrees V (shut (with_argument x a σ) by T) v w) (λ d u. RunsBelow S n V (shut (with_argument x a σ) by T) d u))

  -- for each m below n, the slot's type and this one have the same inhabitants
  pub SameBelow : Scene → ℕ → Table → Slot → Shut → Type 0
  SameBelow S zero W K E = Unit {0}
  SameBelow S (suc n) W K E =
      let fit : Fit = FitsBy S (CallsBelow S n) (SameBelow S n) in
      SameBelow S n W K E × SameFits fit W K E

  -- for each m below n, each element inhabits its array's type
  pub ElementsBelow : Scene → ℕ → Table → World → Type 0
  ElementsBelow S zero W w = Unit {0}
  ElementsBelow S (suc n) W w =
      let fit : Fit = FitsBy S (CallsBelow S n) (SameBelow S n) in
      ElementsBelow S n W w × Elements fit W w

  -- no fault in the first steps below n, and a value that inhabits the type
  pub RunsBelow : Scene → ℕ → Table → Shut → Core → World → Type 0
  RunsBelow S zero W T e w = Unit {0}
  RunsBelow S (suc n) W T e w =
      let fit : Fit = FitsBy S (CallsBelow S n) (SameBelow S n) in
      let agrees : Table → World → Type 0 = λ V u. Sized V u × ElementsBelow S n V u in
      Turn (as_value e) (step e w) (FaultAfter n) (λ v. Lands fit agrees W T v w) (λ d u. RunsBelow S n W T d u)

-- a closed type, and the one with variables: all its instances
abbrev pub Inhabits : Scene → ℕ → Fit
Inhabits S n = FitsBy S (CallsBelow S n) (SameBelow S n)

abbrev pub Agrees : Scene → ℕ → Table → World → Type 0
Agrees S n W w = Sized W w × ElementsBelow S n W w
