-- What an expression comes to in an environment, where calls nest at most n deep. It goes by the form of the expression, and takes no
-- steps.
use Rattle.std.specs.Prelude.{ℕ, zero, suc, ℤ, Bool, true, false, List, [], ◌∷◌, ◌++◌, Option, Some, None}
use Rattle.lq_base_names.specs.declared.place.Place.{Place}
use Rattle.lq_meaning_steps.specs.declared.model.fault.FaultKind.{FaultKind}
use Rattle.lq_meaning_steps.specs.declared.model.fault.FaultKind.TheVariants.{AssertFailed, NoCase}
use Rattle.lq_meaning_steps.specs.Model.Core.{variables_of, Parameter, ignored, variable, empty, matched, bound_in, Core, val, use_of, fun, row, let_in, let_rec, call, one, two, three, and_of, or_of, if_else, match_on, seq, assert_false, Cores, none, more, Arms, no_arms, more_arms, Value, v_flag, v_unit, v_fun, v_rec, Values, no_values, more_values, Pairs, value_in, without, close, row_value}
use Rattle.lq_meaning_steps.specs.Model.Operations as act
use Rattle.lq_meaning_steps.specs.Model.Operations.{World, Act, unary_act, binary_act, ternary_act, fits}
use Rattle.lq_meaning_steps.specs.Model.Program.{Item, let_item, rec_item, running, finished, input_ended, fault, stuck, Outcome, outcome_of, started}

-- A value, a fault at a place, the end of the input at a place, calls that nest too deep, or a form that is no value and has no step; each
-- with the world as it is then.
pub data Answer : Type 0 where
  comes : Value → World → Answer
  fails : FaultKind → Place → World → Answer
  runs_out : Place → World → Answer
  too_deep : World → Answer
  gets_stuck : World → Answer

-- what is done with the value, where there is one
abbrev pub and_then : Answer → (Value → World → Answer) → Answer
and_then (comes v w) go = go v w
and_then (fails k p w) go = fails k p w
and_then (runs_out p w) go = runs_out p w
and_then (too_deep w) go = too_deep w
and_then (gets_stuck w) go = gets_stuck w

-- what an operation on values gives
abbrev pub acts : World → Option Act → Answer
acts w None = gets_stuck w
acts w (Some (act.gives v u)) = comes v u
acts w (Some (act.faults k p)) = fails k p w
acts w (Some (act.ends p)) = runs_out p w

abbrev pub looked_up : Option Value → World → Answer
looked_up None w = gets_stuck w
looked_up (Some v) w = comes v w

abbrev pub on_truth : Value → (Bool → World → Answer) → World → Answer
on_truth (v_flag b) go w = go b w
on_truth _ go w = gets_stuck w

abbrev pub choose : Bool → (World → Answer) → (World → Answer) → World → Answer
choose true go other w = go w
choose false go other w = other w

-- where a pattern fits, what follows under the values of its variables, which hide others; else another answer
abbrev pub fitting : Option Pairs → Pairs → (Pairs → World → Answer) → (World → Answer) → World → Answer
fitting None env go other w = other w
fitting (Some ps) env go other w = go (ps ++ env) w

-- what follows under the value of a parameter; one that is a pattern is a match at its place
abbrev pub with_parameter : Parameter → Value → Pairs → (Pairs → World → Answer) → World → Answer
with_parameter ignored v env go w = go env w
with_parameter empty v env go w = go env w
with_parameter (variable x) v env go w = go ((x, v) ∷ env) w
with_parameter (matched p q) v env go w = fitting (fits q v) env go (fails NoCase p) w

-- The form's parts in the order of their evaluation, and then what the form makes of their values. `called` says what a call of a function
-- on an argument comes to.
abbrev mutual
  pub eval : (Value → Value → World → Answer) → Core → Pairs → World → Answer
  eval called (val v) env w = comes v w
  eval called (use_of x) env w = looked_up (value_in env x) w
  eval called (fun q b) env w = comes (v_fun q (close (without (bound_in q) env) b)) w
  eval called (row r es) env w = eval_all called es env w (λ vs u. comes (row_value r vs) u)
  eval called (let_in q e b) env w = and_then (eval called e env w) (λ v u. with_parameter q v env (λ env1 t. eval called b env1 t) u)
  eval called (let_rec f q b e) env w = eval called e ((f, v_rec f q (close (without (f ∷ bound_in q) env) b)) ∷ env) w
  eval called (call f a) env w = and_then (eval called f env w) (λ g u. and_then (eval called a env u) (λ v t. called g v t))
  eval called (one o e) env w = and_then (eval called e env w) (λ v u. acts u (unary_act o v u))
  eval called (two o a b) env w = and_then (eval called a env w) (λ x u. and_then (eval called b env u) (λ y t. acts t (binary_act o x y t)))
  eval called (three o a b c) env w =
      and_then (eval called a env w) (λ x u. and_then (eval called b env u) (λ y t. and_then (eval called c env t) (λ z s. acts s (ternary_act o x y z s))))
  eval called (and_of a b) env w =
      and_then (eval called a env w) (λ x u. on_truth x (λ t s. choose t (λ r. eval called b env r) (comes (v_flag false)) s) u)
  eval called (or_of a b) env w =
      and_then (eval called a env w) (λ x u. on_truth x (λ t s. choose t (comes (v_flag true)) (λ r. eval called b env r) s) u)
  eval called (if_else c a b) env w =
      and_then (eval called c env w) (λ x u. on_truth x (λ t s. choose t (λ r. eval called a env r) (λ r. eval called b env r) s) u)
  eval called (match_on p e cs) env w = and_then (eval called e env w) (λ v u. eval_arms called p cs v env u)
  eval called (seq a b) env w = and_then (eval called a env w) (λ v u. eval called b env u)
  eval called (assert_false p) env w = fails AssertFailed p w

  -- the values of a row from left to right, and what is made of them
  pub eval_all : (Value → Value → World → Answer) → Cores → Pairs → World → (Values → World → Answer) → Answer
  eval_all called none env w go = go no_values w
  eval_all called (more e es) env w go = and_then (eval called e env w) (λ v u. eval_all called es env u (λ vs t. go (more_values v vs) t))

  -- the first arm whose pattern fits
  pub eval_arms : (Value → Value → World → Answer) → Place → Arms → Value → Pairs → World → Answer
  eval_arms called p no_arms v env w = fails NoCase p w
  eval_arms called p (more_arms q e cs) v env w =
      fitting (fits q v) env (λ env1 u. eval called e env1 u) (λ u. eval_arms called p cs v env u) w

-- what a call comes to, where it and those in it nest at most n deep
abbrev pub call_meaning : ℕ → Value → Value → World → Answer
call_meaning zero g v w = too_deep w
call_meaning (suc n) (v_fun q b) v w = with_parameter q v [] (λ env u. eval (call_meaning n) b env u) w
call_meaning (suc n) (v_rec f q b) v w = with_parameter q v ((f, v_rec f q b) ∷ []) (λ env u. eval (call_meaning n) b env u) w
call_meaning (suc n) _ v w = gets_stuck w

abbrev pub meaning : ℕ → Core → Pairs → World → Answer
meaning n e env w = eval (call_meaning n) e env w

-- ---- programs

-- the environment behind a definition; an item's parameter is a variable, or binds nothing
abbrev pub defining : Parameter → Value → Pairs → Pairs
defining ignored v env = env
defining empty v env = env
defining (variable x) v env = (x, v) ∷ env
defining (matched p q) v env = without (variables_of q) env

-- the items in order, each under the definitions before it
abbrev pub items_meaning : ℕ → List Item → Pairs → World → Answer
items_meaning n [] env w = comes v_unit w
items_meaning n (let_item q e ∷ is) env w = and_then (meaning n e env w) (λ v u. items_meaning n is (defining q v env) u)
items_meaning n (rec_item f q b ∷ is) env w = items_meaning n is ((f, v_rec f q (close (without (f ∷ bound_in q) env) b)) ∷ env) w

abbrev pub answered : Answer → Outcome
answered (comes v w) = outcome_of finished w
answered (fails k p w) = outcome_of (fault k p) w
answered (runs_out p w) = outcome_of (input_ended p) w
answered (too_deep w) = outcome_of running w
answered (gets_stuck w) = outcome_of stuck w

-- what a program comes to on this input, where calls nest at most n deep; running, where they nest deeper
abbrev pub program_meaning : ℕ → List Item → List ℤ → Outcome
program_meaning n is input = answered (items_meaning n is [] (started is input).world)
