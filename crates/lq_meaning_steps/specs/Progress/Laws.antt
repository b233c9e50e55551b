-- What types say of the steps of expressions.
use Rattle.std.specs.Prelude.{◌≡◌, ℕ, ℤ, Bool, [], ◌⊎◌, slice_get, Option, Some, None}
use Rattle.lq_text_tree.specs.MlType as ml
use Rattle.lq_text_tree.specs.MlType.{MlType, MlTypes}
use Rattle.lq_meaning_steps.specs.Model.Core.{Parameter, build, Core, Value, v_whole, v_flag, v_unit, v_fun, v_rec, v_tuple, v_build, v_array, Values, Pairs, value_in, close, as_value}
use Rattle.lq_meaning_steps.specs.Model.Operations.{World}
use Rattle.lq_meaning_steps.specs.Model.Step.{Next, goes, Step}
use Rattle.lq_meaning_steps.specs.Model.Adequacy.{Steps}
use Rattle.lq_text_tree.specs.Types.{Signature, KnowsLists, Scheme, Names, scheme_in, IsUsedAt}
use Rattle.lq_meaning_steps.specs.Progress.Typing.{Table, RowHas, Has, ValueHas, ValuesHave, FitsStore, Extends}

-- a value for a variable has each type at which the variable may be used; a variable that has no value keeps its types
abbrev pub AgreesAt : Signature → Table → Option Value → Option Scheme → Option Scheme → Type 0
AgreesAt g t (Some v) s d = (a : MlType) → IsUsedAt s a → ValueHas g t v a
AgreesAt g t None s d = (a : MlType) → IsUsedAt s a → IsUsedAt d a

abbrev pub Agrees : Signature → Table → Pairs → Names → Names → Type 0
Agrees g t ps ns ms = (x : ℕ) → AgreesAt g t (value_in ps x) (scheme_in ns x) (scheme_in ms x)

-- values in the place of variables of their types keep the type
abbrev pub ClosingKeepsTypes : Type 0
ClosingKeepsTypes =
    (g : Signature) (t : Table) (ps : Pairs) (ns ms : Names) (e : Core) (a : MlType) → Agrees g t ps ns ms → Has g t ns e a → Has g t ms (close ps e) a

-- a step keeps the type, under a table that has all that the earlier one has
abbrev pub IsKept : Type 0
IsKept =
    (g : Signature) (t : Table) (e d : Core) (w u : World) (a : MlType) → KnowsLists g → Has g t [] e a → FitsStore g t w.arrays → Step e w (goes d u)
    → (later : Table) × Extends t later × Has g later [] d a × FitsStore g later u.arrays

-- so do many steps; what they come to, a value too, has the type
abbrev pub IsKeptBySteps : Type 0
IsKeptBySteps =
    (g : Signature) (t : Table) (k : ℕ) (e d : Core) (w u : World) (a : MlType) → KnowsLists g → Has g t [] e a → FitsStore g t w.arrays → Steps k e w d u
    → (later : Table) × Extends t later × Has g later [] d a × FitsStore g later u.arrays

-- an expression of a type is a value of the type, or has a step: to another expression, to a fault, or to the end of the input
abbrev pub GoesOn : Type 0
GoesOn =
    (g : Signature) (t : Table) (e : Core) (w : World) (a : MlType) → KnowsLists g → Has g t [] e a → FitsStore g t w.arrays
    → ((v : Value) × (as_value e ≡ Some v) × ValueHas g t v a) ⊎ ((n : Next) × Step e w n)

-- what a value of a type looks like
abbrev pub Looks : Signature → Table → MlType → Value → Type 0
Looks g t ml.int v = (n : ℤ) × (v ≡ v_whole n)
Looks g t ml.bool v = (b : Bool) × (v ≡ v_flag b)
Looks g t ml.unit v = v ≡ v_unit
Looks g t (ml.var i) v = ⊥
Looks g t (ml.arrow a b) v = ((q : Parameter) × (e : Core) × (v ≡ v_fun q e)) ⊎ ((f : ℕ) × (q : Parameter) × (e : Core) × (v ≡ v_rec f q e))
Looks g t (ml.tuple ts) v = (vs : Values) × (v ≡ v_tuple vs) × ValuesHave g t vs ts
Looks g t (ml.array a) v = (r : ℕ) × (n : ℕ) × (v ≡ v_array r n) × (slice_get t r ≡ Some a)
Looks g t (ml.named d ts) v = (c : ℕ) × (vs : Values) × (parts : MlTypes) × (v ≡ v_build c vs) × ValuesHave g t vs parts × RowHas g (build c) parts (ml.named d ts)
Looks g t (ml.map_of a) v = ⊥

abbrev pub HasLook : Type 0
HasLook = (g : Signature) (t : Table) (v : Value) (a : MlType) → ValueHas g t v a → Looks g t a v
