-- The laws of the meaning.
use Rattle.std.specs.Prelude.{◌≡◌, ◌↔◌, ℕ, ◌+◌, ◌≤◌, ℤ, ◌==◌, List, [], ◌∷◌, ◌++◌, length, Some, None, is_some}
use Rattle.std.specs.List.{list_any}
use Rattle.lq_meaning_steps.specs.Model.Core.{Pattern, variables_of, Core, Value, Pairs, value_in, without, close, as_value}
use Rattle.lq_meaning_steps.specs.Model.Operations.{World, fits}
use Rattle.lq_meaning_steps.specs.Model.Step.{Next, Step, Frame, plug, IsReady}
use Rattle.lq_meaning_steps.specs.Model.StepFunction.{inside, step}
use Rattle.lq_meaning_steps.specs.Model.Meaning.{Answer, comes, fails, runs_out, too_deep, gets_stuck, meaning}
use Rattle.lq_meaning_steps.specs.Model.Program.{Item, close_items, State, Turn, Ending, running, finished, input_ended, fault, stuck, Outcome, outcome, started, IsCalm, IsSafe}
use Rattle.lq_meaning_steps.specs.Model.Run.{Transition, Reaches}

-- the function gives exactly what the rows give; so an expression has at most one step in a world
abbrev pub IsStepFunction : Type 0
IsStepFunction = (e : Core) (w : World) (n : Next) → Step e w n ↔ (step e w ≡ Some n)

abbrev pub IsDetermined : Type 0
IsDetermined = (e : Core) (w : World) (n m : Next) → Step e w n → Step e w m → n ≡ m

-- a state has at most one step
abbrev pub IsDeterminedOnStates : Type 0
IsDeterminedOnStates = (s : State) (t r : Turn) → Transition s t → Transition s r → t ≡ r

-- The steps of a program on an input have exactly one outcome, with one output, for each number of steps: it is the one that `outcome`
-- gives.
abbrev pub HasOneOutcome : Type 0
HasOneOutcome =
    (is : List Item) (input : List ℤ) (n : ℕ)
    → Reaches n (started is input) (outcome is input n) × ((o : Outcome) → Reaches n (started is input) o → o ≡ outcome is input n)

-- so a program is safe exactly where every outcome to which its steps come is neither a fault nor stuck
abbrev pub IsSafeBySteps : Type 0
IsSafeBySteps = (is : List Item) → IsSafe is ↔ ((input : List ℤ) (n : ℕ) (o : Outcome) → Reaches n (started is input) o → IsCalm o.ending)

abbrev pub IsOver : Ending → Type 0
IsOver running = ⊥
IsOver finished = Unit {0}
IsOver (input_ended p) = Unit {0}
IsOver (fault k p) = Unit {0}
IsOver stuck = Unit {0}

-- what a run has come to stays, with the same output
abbrev pub StaysOver : Type 0
StaysOver = (is : List Item) (input : List ℤ) (n m : ℕ) → IsOver (outcome is input n).ending → outcome is input (n + m) ≡ outcome is input n

-- the output of n steps begins that of n + 1, which has at most one number more
abbrev pub OutputGrows : Type 0
OutputGrows =
    (is : List Item) (input : List ℤ) (n : ℕ)
    → (more : List ℤ) × (length more ≤ 1) × ((outcome is input (n + 1)).output ≡ (outcome is input n).output ++ more)

-- so each beginning of the output of n steps is the output of n or fewer steps
abbrev pub OutputPasses : Type 0
OutputPasses =
    (is : List Item) (input : List ℤ) (n : ℕ) (o more : List ℤ) → (outcome is input n).output ≡ o ++ more
    → (k : ℕ) × (k ≤ n) × ((outcome is input k).output ≡ o)

-- two lists of pairs give the same values
abbrev pub SameIn : Pairs → Pairs → Type 0
SameIn d g = (x : ℕ) → value_in d x ≡ value_in g x

-- closing after closing is one closing, closing goes by the values alone, and closing by no value changes nothing
abbrev pub ClosesTwice : Type 0
ClosesTwice = (e : Core) (d g : Pairs) → close g (close d e) ≡ close (d ++ g) e

abbrev pub ClosesAlike : Type 0
ClosesAlike = (e : Core) (d g : Pairs) → SameIn d g → close d e ≡ close g e

abbrev pub ClosesByNone : Type 0
ClosesByNone = (e : Core) → close [] e ≡ e

-- a form steps as its leftmost part that isn't a value does
abbrev pub StepsInside : Type 0
StepsInside = (f : Frame) (e : Core) (w : World) → IsReady f → as_value e ≡ None → step (plug f e) w ≡ inside f (step e w)

-- a form with such a part is no value, and a value has no step
abbrev pub PartsWait : Type 0
PartsWait = (f : Frame) (e : Core) → as_value e ≡ None → as_value (plug f e) ≡ None

abbrev pub ValuesRest : Type 0
ValuesRest = (e : Core) (w : World) (v : Value) → as_value e ≡ Some v → step e w ≡ None

-- the pairs are of these variables
abbrev pub ArePairsOf : List ℕ → Pairs → Type 0
ArePairsOf xs ps = (x : ℕ) → is_some (value_in ps x) ≡ list_any (λ y. y == x) xs

-- one pair is of its one variable, and pairs of some variables with pairs of others behind them are of all of these
abbrev pub OneIsPaired : Type 0
OneIsPaired = (x : ℕ) (v : Value) → ArePairsOf (x ∷ []) ((x, v) ∷ [])

abbrev pub PairsJoin : Type 0
PairsJoin = (xs ys : List ℕ) (ps qs : Pairs) → ArePairsOf xs ps → ArePairsOf ys qs → ArePairsOf (xs ++ ys) (ps ++ qs)

-- Where variables were left out of a closing, closing by values for them is one closing, in which those values count. What a pattern
-- gives, where a value fits it, is of the variables that it binds.
abbrev pub ClosesBehind : Type 0
ClosesBehind = (xs : List ℕ) (ps env : Pairs) (e : Core) → ArePairsOf xs ps → close ps (close (without xs env) e) ≡ close (ps ++ env) e

abbrev pub FitsBinds : Type 0
FitsBinds = (q : Pattern) (v : Value) (ps : Pairs) → fits q v ≡ Some ps → ArePairsOf (variables_of q) ps

-- the same of the items of a program
abbrev pub ItemsCloseTwice : Type 0
ItemsCloseTwice = (is : List Item) (d g : Pairs) → close_items g (close_items d is) ≡ close_items (d ++ g) is

abbrev pub ItemsCloseAlike : Type 0
ItemsCloseAlike = (is : List Item) (d g : Pairs) → SameIn d g → close_items d is ≡ close_items g is

abbrev pub ItemsCloseByNone : Type 0
ItemsCloseByNone = (is : List Item) → close_items [] is ≡ is

abbrev pub ItemsCloseBehind : Type 0
ItemsCloseBehind =
    (xs : List ℕ) (ps env : Pairs) (is : List Item) → ArePairsOf xs ps → close_items ps (close_items (without xs env) is) ≡ close_items (ps ++ env) is

-- the meaning goes by the values of the environment alone, and a closing is an environment in front
abbrev pub MeansAlike : Type 0
MeansAlike = (n : ℕ) (e : Core) (d g : Pairs) (w : World) → SameIn d g → meaning n e d w ≡ meaning n e g w

abbrev pub MeansClosed : Type 0
MeansClosed = (n : ℕ) (e : Core) (d g : Pairs) (w : World) → meaning n (close d e) g w ≡ meaning n e (d ++ g) w

-- where calls don't nest too deep, a greater bound changes nothing
abbrev pub IsDeepEnough : Answer → Type 0
IsDeepEnough (comes v w) = Unit {0}
IsDeepEnough (fails k p w) = Unit {0}
IsDeepEnough (runs_out p w) = Unit {0}
IsDeepEnough (too_deep w) = ⊥
IsDeepEnough (gets_stuck w) = Unit {0}

abbrev pub MeansMore : Type 0
MeansMore = (n m : ℕ) (e : Core) (env : Pairs) (w : World) → IsDeepEnough (meaning n e env w) → meaning (n + m) e env w ≡ meaning n e env w
