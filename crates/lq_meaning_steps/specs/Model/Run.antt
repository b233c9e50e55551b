-- One step of a program, as a relation on states with a row for each item, and the outcomes to which such steps come.
use Rattle.std.specs.Prelude.{◌≡◌, ℕ, suc, List, [], ◌∷◌, Some}
use Rattle.lq_base_names.specs.declared.place.Place.{Place}
use Rattle.lq_meaning_steps.specs.declared.model.fault.FaultKind.{FaultKind}
use Rattle.lq_meaning_steps.specs.Model.Core.{Parameter, Core, Value, v_rec, as_value}
use Rattle.lq_meaning_steps.specs.Model.Operations.{World}
use Rattle.lq_meaning_steps.specs.Model.Step.{goes, faults, ends, Step}
use Rattle.lq_meaning_steps.specs.Model.Program.{Item, let_item, rec_item, close_items, defined, State, finished, input_ended, fault, stuck, Ending, Outcome, outcome_of, Turn, to, over, at_rest}

-- these items are left, in this world: its arrays, what is left of its input, its output so far
abbrev pub state : List Item → World → State
state is w = record { items = is; world = w }

-- from a state to the next one, or to the ending with which the run is over
pub data Transition : State → Turn → Type 0 where
  -- `let p = v`: the value replaces the variable in the items after it, and the item is gone
  define_value : (q : Parameter) (e : Core) (v : Value) (is : List Item) (w : World) → as_value e ≡ Some v → Transition (state (let_item q e ∷ is) w) (to (state (defined q v is) w))
  -- `let rec f = fun`: the recursive function replaces f in the items after it, and the item is gone
  define_function : (f : ℕ) (q : Parameter) (b : Core) (is : List Item) (w : World) → Transition (state (rec_item f q b ∷ is) w) (to (state (close_items ((f, v_rec f q b) ∷ []) is) w))
  -- `let p = e`: the first item's expression steps
  item_goes : (q : Parameter) (e d : Core) (is : List Item) (w u : World) → Step e w (goes d u) → Transition (state (let_item q e ∷ is) w) (to (state (let_item q d ∷ is) u))
  -- its step is a fault, and the run is over
  item_faults : (q : Parameter) (e : Core) (k : FaultKind) (p : Place) (is : List Item) (w : World) → Step e w (faults k p) → Transition (state (let_item q e ∷ is) w) (over (fault k p))
  -- its step finds no input, and the run is over
  item_ends : (q : Parameter) (e : Core) (p : Place) (is : List Item) (w : World) → Step e w (ends p) → Transition (state (let_item q e ∷ is) w) (over (input_ended p))

-- a run from the state has come to this outcome after so many steps
pub data Reaches : ℕ → State → Outcome → Type 0 where
  -- after no step: finished where no item is left, else running
  no_steps : (s : State) → Reaches 0 s (outcome_of (at_rest s.items) s.world)
  -- a step to another state, and n steps from there
  goes_on : (n : ℕ) (s t : State) (o : Outcome) → Transition s (to t) → Reaches n t o → Reaches (suc n) s o
  -- a step that is a fault or ends the input: nothing follows it
  breaks_off : (n : ℕ) (s : State) (e : Ending) → Transition s (over e) → Reaches (suc n) s (outcome_of e s.world)
  -- no item is left: nothing more happens
  is_finished : (n : ℕ) (w : World) → Reaches (suc n) (state [] w) (outcome_of finished w)
  -- an item is left, and no row applies
  is_stuck : (n : ℕ) (i : Item) (is : List Item) (w : World) → ((t : Turn) → Transition (state (i ∷ is) w) t → ⊥) → Reaches (suc n) (state (i ∷ is) w) (outcome_of stuck w)
