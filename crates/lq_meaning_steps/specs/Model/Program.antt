-- What the first steps of a program give, and when a program is safe.
use Rattle.std.specs.Prelude.{◌≡◌, ℕ, zero, suc, ℤ, List, [], ◌∷◌, Option, Some, None}
use Rattle.lq_base_names.specs.declared.place.Place.{Place}
use Rattle.lq_meaning_steps.specs.declared.model.fault.FaultKind.{FaultKind}
use Rattle.lq_meaning_steps.specs.Model.Core.{Parameter, variable, bound_in, Core, Value, v_rec, Pairs, without, close, as_value}
use Rattle.lq_meaning_steps.specs.Model.Operations.{World}
use Rattle.lq_meaning_steps.specs.Model.Step.{Next, goes, faults, ends}
use Rattle.lq_meaning_steps.specs.Model.StepFunction.{step}

-- an item that takes steps: a definition, or a recursive function under its name
pub data Item : Type 0 where
  let_item : Parameter → Core → Item
  rec_item : ℕ → Parameter → Core → Item

-- Closed values in the place of variables in the items. Where an item defines a variable again, its right side still has the value, and
-- the items after it don't. A recursive function's own name and what its parameter binds aren't replaced in its body.
abbrev pub close_items : Pairs → List Item → List Item
close_items ps [] = []
close_items ps (let_item q e ∷ is) = let_item q (close ps e) ∷ close_items (without (bound_in q) ps) is
close_items ps (rec_item f q b ∷ is) = rec_item f q (close (without (f ∷ bound_in q) ps) b) ∷ close_items (without (f ∷ []) ps) is

-- the items with the value in place of the variable that the parameter is
abbrev pub defined : Parameter → Value → List Item → List Item
defined (variable x) v is = close_items ((x, v) ∷ []) is
defined _ v is = is

-- the items left, and the world
pub record State : Type 0 where
  pub items : List Item
  pub world : World

-- what a run has come to: more to do, no item left, an input that ended at a place, a fault at a place, or an item left and no step
pub data Ending : Type 0 where
  running : Ending
  finished : Ending
  input_ended : Place → Ending
  fault : FaultKind → Place → Ending
  stuck : Ending

pub record Outcome : Type 0 where
  pub ending : Ending
  pub output : List ℤ

abbrev pub outcome_of : Ending → World → Outcome
outcome_of e w = record { ending = e; output = w.output }

-- one step of a state, or what it has come to
pub data Turn : Type 0 where
  to : State → Turn
  over : Ending → Turn

abbrev pub item_next : Parameter → List Item → Option Next → Turn
item_next q is (Some (goes e w)) = to (record { items = let_item q e ∷ is; world = w })
item_next q is (Some (faults k p)) = over (fault k p)
item_next q is (Some (ends p)) = over (input_ended p)
item_next q is None = over stuck

-- `let p = v`: the value replaces the variable in the items after it, and the item is gone; else its expression steps
abbrev pub let_turn : Parameter → Core → List Item → World → Option Value → Turn
let_turn q e is w (Some v) = to (record { items = defined q v is; world = w })
let_turn q e is w None = item_next q is (step e w)

-- `let rec f = fun`: the recursive function replaces f in the items after it
abbrev pub turn_of : List Item → World → Turn
turn_of [] w = over finished
turn_of (let_item q e ∷ is) w = let_turn q e is w (as_value e)
turn_of (rec_item f q b ∷ is) w = to (record { items = close_items ((f, v_rec f q b) ∷ []) is; world = w })

abbrev pub turn : State → Turn
turn s = turn_of s.items s.world

-- a state before any further step
abbrev pub at_rest : List Item → Ending
at_rest [] = finished
at_rest (i ∷ is) = running

-- what n steps from a state give, and the output so far
abbrev pub after_turn : Turn → World → (State → Outcome) → Outcome
after_turn (to s) w go = go s
after_turn (over e) w go = outcome_of e w

abbrev pub outcome_from : ℕ → State → Outcome
outcome_from zero s = outcome_of (at_rest s.items) s.world
outcome_from (suc n) s = after_turn (turn s) s.world (outcome_from n)

abbrev pub started : List Item → List ℤ → State
started is input = record { items = is; world = record { arrays = []; input = input; output = [] } }

-- what the first n steps of the program give on this input
abbrev pub outcome : List Item → List ℤ → ℕ → Outcome
outcome is input n = outcome_from n (started is input)

-- neither a fault nor stuck
abbrev pub IsCalm : Ending → Type 0
IsCalm running = Unit {0}
IsCalm finished = Unit {0}
IsCalm (input_ended p) = Unit {0}
IsCalm (fault k p) = ⊥
IsCalm stuck = ⊥

-- On every finite list of whole numbers as input, no number of steps meets a fault or gets stuck.
abbrev pub IsSafe : List Item → Type 0
IsSafe is = (input : List ℤ) (n : ℕ) → IsCalm (outcome is input n).ending

-- on every input, no number of steps comes to an item left and no step
abbrev pub IsNeverStuck : List Item → Type 0
IsNeverStuck is = (input : List ℤ) (n : ℕ) → (outcome is input n).ending ≡ stuck → ⊥
