-- One step of an expression, as a relation with a row for each form. The leftmost part that isn't a value is evaluated first.
use Rattle.std.specs.Prelude.{◌≡◌, ℕ, Bool, true, false, [], ◌∷◌, Option, Some, None, if◌then◌else◌}
use Rattle.lq_base_names.specs.declared.place.Place.{Place}
use Rattle.lq_meaning_steps.specs.declared.model.fault.FaultKind.{FaultKind}
use Rattle.lq_meaning_steps.specs.declared.model.fault.FaultKind.TheVariants.{AssertFailed, NoCase}
use Rattle.lq_meaning_steps.specs.Model.Core.{Parameter, ignored, variable, empty, matched, Operation, Binary, Ternary, Row, Core, val, row, let_in, let_rec, call, one, two, three, and_of, or_of, if_else, match_on, seq, assert_false, Cores, none, more, Arms, no_arms, more_arms, Value, v_flag, v_fun, v_rec, Values, Pairs, close, close_arms, as_value, as_values}
use Rattle.lq_meaning_steps.specs.Model.Operations as act
use Rattle.lq_meaning_steps.specs.Model.Operations.{World, Act, binary_act, unary_act, ternary_act, fits}

-- What one step gives: an expression and a world, a fault at a place, or the end of the input at a place. A fault and an ended input
-- are one step.
pub data Next : Type 0 where
  goes : Core → World → Next
  faults : FaultKind → Place → Next
  ends : Place → Next

abbrev pub done : Act → Next
done (act.gives v w) = goes (val v) w
done (act.faults f p) = faults f p
done (act.ends p) = ends p

-- ---- parts of expressions

-- An expression with a part left open. What stands before that part is meant to be values.
pub data Frame : Type 0 where
  in_row : Row → Cores → Cores → Frame
  in_let : Parameter → Core → Frame
  in_function : Core → Frame
  in_argument : Core → Frame
  in_one : Operation → Frame
  in_left : Binary → Core → Frame
  in_right : Binary → Core → Frame
  in_start : Ternary → Core → Core → Frame
  in_middle : Ternary → Core → Core → Frame
  in_end : Ternary → Core → Core → Frame
  in_and : Core → Frame
  in_or : Core → Frame
  in_condition : Core → Core → Frame
  in_scrutinee : Place → Arms → Frame
  in_first : Core → Frame

-- the parts before, the part, and the parts behind
abbrev pub placed : Cores → Core → Cores → Cores
placed none d behind = more d behind
placed (more e es) d behind = more e (placed es d behind)

-- the expression with this part
abbrev pub plug : Frame → Core → Core
plug (in_row r before behind) d = row r (placed before d behind)
plug (in_let q b) d = let_in q d b
plug (in_function a) d = call d a
plug (in_argument f) d = call f d
plug (in_one o) d = one o d
plug (in_left o b) d = two o d b
plug (in_right o a) d = two o a d
plug (in_start o b c) d = three o d b c
plug (in_middle o a c) d = three o a d c
plug (in_end o a b) d = three o a b d
plug (in_and b) d = and_of d b
plug (in_or b) d = or_of d b
plug (in_condition a b) d = if_else d a b
plug (in_scrutinee p cs) d = match_on p d cs
plug (in_first b) d = seq d b

abbrev pub IsValue : Core → Type 0
IsValue e = (v : Value) × (as_value e ≡ Some v)

abbrev pub AreValues : Cores → Type 0
AreValues es = (vs : Values) × (as_values es ≡ Some vs)

-- everything before the part is a value
abbrev pub IsReady : Frame → Type 0
IsReady (in_row r before behind) = AreValues before
IsReady (in_let q b) = Unit {0}
IsReady (in_function a) = Unit {0}
IsReady (in_argument f) = IsValue f
IsReady (in_one o) = Unit {0}
IsReady (in_left o b) = Unit {0}
IsReady (in_right o a) = IsValue a
IsReady (in_start o b c) = Unit {0}
IsReady (in_middle o a c) = IsValue a
IsReady (in_end o a b) = IsValue a × IsValue b
IsReady (in_and b) = Unit {0}
IsReady (in_or b) = Unit {0}
IsReady (in_condition a b) = Unit {0}
IsReady (in_scrutinee p cs) = Unit {0}
IsReady (in_first b) = Unit {0}

-- what a step of the part gives of the whole
abbrev pub within : Frame → Next → Next
within f (goes d w) = goes (plug f d) w
within f (faults k p) = faults k p
within f (ends p) = ends p

-- ---- functions and arms

-- The body with the value for its parameter, and with the pairs of a recursive function for its own name. A parameter that is a pattern
-- is a match on the value, at its place.
abbrev pub applied : Pairs → Parameter → Core → Value → Core
applied self ignored b v = close self b
applied self empty b v = close self b
applied self (variable x) b v = close ((x, v) ∷ self) b
applied self (matched p q) b v = match_on p (val v) (close_arms self (more_arms q b no_arms))

-- the body of a function with this argument
abbrev pub body_of : Value → Value → Option Core
body_of (v_fun q b) v = Some (applied [] q b v)
body_of (v_rec f q b) v = Some (applied ((f, v_rec f q b) ∷ []) q b v)
body_of _ v = None

-- the first arm whose pattern fits, with its variables replaced, or the fault
abbrev pub or_later : Option Pairs → Core → World → Next → Next
or_later None e w next = next
or_later (Some ps) e w next = goes (close ps e) w

abbrev pub first_arm : Place → Arms → Value → World → Next
first_arm p no_arms v w = faults NoCase p
first_arm p (more_arms q e cs) v w = or_later (fits q v) e w (first_arm p cs v w)

-- ---- the rows

pub data Step : Core → World → Next → Type 0 where
  -- the leftmost part that isn't a value steps
  part : (f : Frame) (e : Core) (w : World) (n : Next) → IsReady f → as_value e ≡ None → Step e w n → Step (plug f e) w (within f n)
  -- `let p = v in e`: e with the value in place of the variable
  let_value : (q : Parameter) (e b : Core) (v : Value) (w : World) → as_value e ≡ Some v → Step (let_in q e b) w (goes (applied [] q b v) w)
  -- `let rec f = fun in e`: e with the recursive function in place of f
  let_function : (f : ℕ) (q : Parameter) (b e : Core) (w : World) → Step (let_rec f q b e) w (goes (close ((f, v_rec f q b) ∷ []) e) w)
  -- `v w`: the body of v with w for its parameter, and with a recursive function also for its own name
  call_body : (f a : Core) (u v : Value) (b : Core) (w : World) → as_value f ≡ Some u → as_value a ≡ Some v → body_of u v ≡ Some b → Step (call f a) w (goes b w)
  -- an operation on one value: unary minus, `not`, `assert`, `Array.length`, `print_int`, `read_int`; what it gives, its fault or the end of the input
  unary : (o : Operation) (e : Core) (v : Value) (w : World) (a : Act) → as_value e ≡ Some v → unary_act o v w ≡ Some a → Step (one o e) w (done a)
  -- an operation on two values: arithmetic, comparisons, `Array.make n v`, `a.(i)`; what it gives, or its fault
  binary : (o : Binary) (d e : Core) (u v : Value) (w : World) (a : Act) → as_value d ≡ Some u → as_value e ≡ Some v → binary_act o u v w ≡ Some a → Step (two o d e) w (done a)
  -- an operation on three values: `a.(i) <- v`; what it gives, or its fault
  ternary : (o : Ternary) (a b c : Core) (t u v : Value) (w : World) (x : Act) → as_value a ≡ Some t → as_value b ≡ Some u → as_value c ≡ Some v → ternary_act o t u v w ≡ Some x
      → Step (three o a b c) w (done x)
  -- `v && e`, `v || e`: the left value if it decides, else the right expression
  and_value : (a b : Core) (t : Bool) (w : World) → as_value a ≡ Some (v_flag t) → Step (and_of a b) w (goes (if t then b else val (v_flag false)) w)
  or_value : (a b : Core) (t : Bool) (w : World) → as_value a ≡ Some (v_flag t) → Step (or_of a b) w (goes (if t then val (v_flag true) else b) w)
  -- `if`: the branch
  branch : (c a b : Core) (t : Bool) (w : World) → as_value c ≡ Some (v_flag t) → Step (if_else c a b) w (goes (if t then a else b) w)
  -- `match`: the first arm whose pattern fits, with its variables replaced, else the fault NoCase
  arm : (p : Place) (e : Core) (cs : Arms) (v : Value) (w : World) → as_value e ≡ Some v → Step (match_on p e cs) w (first_arm p cs v w)
  -- `v; rest`: the rest
  rest : (a b : Core) (v : Value) (w : World) → as_value a ≡ Some v → Step (seq a b) w (goes b w)
  -- `assert false`: the fault AssertFailed
  assertion : (p : Place) (w : World) → Step (assert_false p) w (faults AssertFailed p)
