-- One step as a function: what the relation gives, and None where no row applies.
use Rattle.std.specs.Prelude.{Bool, true, false, [], ◌∷◌, Option, Some, None, if◌then◌else◌}
use Rattle.lq_meaning_steps.specs.declared.model.fault.FaultKind.TheVariants.{AssertFailed}
use Rattle.lq_meaning_steps.specs.Model.Core.{Row, Core, val, use_of, fun, row, let_in, let_rec, call, one, two, three, and_of, or_of, if_else, match_on, seq, assert_false, Cores, none, more, Arms, no_arms, more_arms, Value, v_flag, v_rec, close, as_value}
use Rattle.lq_meaning_steps.specs.Model.Operations.{World, Act, unary_act, binary_act, ternary_act}
use Rattle.lq_meaning_steps.specs.Model.Step.{Next, goes, faults, done, Frame, in_row, in_let, in_function, in_argument, in_one, in_left, in_right, in_start, in_middle, in_end, in_and, in_or, in_condition, in_scrutinee, in_first, within, applied, body_of, first_arm}

abbrev pub inside : Frame → Option Next → Option Next
inside f None = None
inside f (Some n) = Some (within f n)

-- a part that is a value, or a step of that part
abbrev pub on_value : Option Value → Frame → Option Next → (Value → Option Next) → Option Next
on_value None f next go = inside f next
on_value (Some v) f next go = go v

abbrev pub acted : Option Act → Option Next
acted None = None
acted (Some a) = Some (done a)

abbrev pub goes_to : World → Option Core → Option Next
goes_to w None = None
goes_to w (Some e) = Some (goes e w)

abbrev pub on_flag : Value → (Bool → Option Next) → Option Next
on_flag (v_flag b) go = go b
on_flag _ go = None

-- the parts so far, and one more
abbrev pub with_part : Cores → Core → Cores
with_part none d = more d none
with_part (more e es) d = more e (with_part es d)

abbrev mutual
  pub step : Core → World → Option Next
  step (val v) w = None
  step (use_of x) w = None
  step (fun q b) w = None
  step (row r es) w = step_row r none es w
  step (let_in q e b) w = on_value (as_value e) (in_let q b) (step e w) (λ v. Some (goes (applied [] q b v) w))
  step (let_rec f q b e) w = Some (goes (close ((f, v_rec f q b) ∷ []) e) w)
  step (call f a) w =
      on_value (as_value f) (in_function a) (step f w) (λ u. on_value (as_value a) (in_argument f) (step a w) (λ v. goes_to w (body_of u v)))
  step (one o e) w = on_value (as_value e) (in_one o) (step e w) (λ v. acted (unary_act o v w))
  step (two o a b) w =
      on_value (as_value a) (in_left o b) (step a w) (λ u. on_value (as_value b) (in_right o a) (step b w) (λ v. acted (binary_act o u v w)))
  step (three o a b c) w =
      on_value (as_value a) (in_start o b c) (step a w) (λ t. on_value (as_value b) (in_middle o a c) (step b w)
      (λ u. on_value (as_value c) (in_end o a b) (step c w) (λ v. acted (ternary_act o t u v w))))
  step (and_of a b) w = on_value (as_value a) (in_and b) (step a w) (λ u. on_flag u (λ t. Some (goes (if t then b else val (v_flag false)) w)))
  step (or_of a b) w = on_value (as_value a) (in_or b) (step a w) (λ u. on_flag u (λ t. Some (goes (if t then val (v_flag true) else b) w)))
  step (if_else c a b) w = on_value (as_value c) (in_condition a b) (step c w) (λ u. on_flag u (λ t. Some (goes (if t then a else b) w)))
  step (match_on p e cs) w = on_value (as_value e) (in_scrutinee p cs) (step e w) (λ v. Some (first_arm p cs v w))
  step (seq a b) w = on_value (as_value a) (in_first b) (step a w) (λ v. Some (goes b w))
  step (assert_false p) w = Some (faults AssertFailed p)

  -- the first part that isn't a value, behind those before it
  pub step_row : Row → Cores → Cores → World → Option Next
  step_row r before none w = None
  step_row r before (more e es) w = on_value (as_value e) (in_row r before es) (step e w) (λ v. step_row r (with_part before e) es w)
