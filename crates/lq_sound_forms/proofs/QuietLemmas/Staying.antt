-- A step of a quiet expression goes to a quiet one in the same world.
use Rattle.std.proofs.Common.{◌≡◌, ℤ, Bool, true, false, ◌∷◌, [], Option, Some, None, refl, subst, if◌then◌else◌}
use Rattle.lq_meaning_steps.specs.Model.Core.{Parameter, ignored, variable, empty, matched, Operation, negate, invert, assert, length_of, print, read, sum, difference, product, quotient, remainder, Binary, arithmetic, comparison, make, fetch, Row, Core, val, use_of, fun, row, let_in, let_rec, call, one, two, three, and_of, or_of, if_else, match_on, seq, assert_false, Cores, none, more, Value, v_whole, v_flag, v_array, as_value}
use Rattle.lq_meaning_steps.specs.Model.Operations.{World, Act, on_whole, unary_act, binary_act, arithmetic_act, compares}
use Rattle.lq_meaning_steps.specs.Model.Operations as act
use Rattle.lq_meaning_steps.specs.Model.Step.{Next, goes, faults, ends, Frame, in_row, in_let, in_one, in_left, in_right, in_and, in_or, placed, plug, applied}
use Rattle.lq_meaning_steps.specs.Model.StepFunction.{inside, on_value, acted, on_flag, with_part, step, step_row}
use Rattle.lq_sound_forms.specs.Quiet.Quiet.{IsQuietUnary, IsQuietBinary, IsPlain, IsQuiet, AreQuiet}
use Rattle.lq_sound_forms.proofs.QuietLemmas.Closing.{close_quiet}

-- what follows, if anything does, is quiet in this world
abbrev pub Stays : World → Option Next → Type 0
Stays w (Some (goes d u)) = IsQuiet d × (u ≡ w)
Stays w (Some (faults x p)) = Unit {0}
Stays w (Some (ends p)) = Unit {0}
Stays w None = Unit {0}

inside_stays : (F : Frame) (w : World) (s : Option Next) → ((d : Core) → IsQuiet d → IsQuiet (plug F d)) → Stays w s → Stays w (inside F s)
inside_stays F w (Some (goes d u)) f h = (f d h.0, h.1)
inside_stays F w (Some (faults x p)) f h = tt
inside_stays F w (Some (ends p)) f h = tt
inside_stays F w None f h = tt

value_stays : (o : Option Value) (F : Frame) (w : World) (s : Option Next) (go : Value → Option Next)
    → ((d : Core) → IsQuiet d → IsQuiet (plug F d)) → Stays w s → ((v : Value) → Stays w (go v)) → Stays w (on_value o F s go)
value_stays None F w s go f h g = inside_stays F w s f h
value_stays (Some v) F w s go f h g = g v

flag_stays : (v : Value) (w : World) (go : Bool → Option Next) → ((b : Bool) → Stays w (go b)) → Stays w (on_flag v go)
flag_stays (v_flag b) w go f = f b
flag_stays _ w go f = tt

whole_stays : (v : Value) (w : World) (go : ℤ → Option Act) → ((n : ℤ) → Stays w (acted (go n))) → Stays w (acted (on_whole v go))
whole_stays (v_whole n) w go f = f n
whole_stays _ w go f = tt

choice_quiet : (b : Bool) (d e : Core) → IsQuiet d → IsQuiet e → IsQuiet (if b then d else e)
choice_quiet true d e h k = h
choice_quiet false d e h k = k

-- ---- operations

unary_stays : (o : Operation) (v : Value) (w : World) → IsQuietUnary o → Stays w (acted (unary_act o v w))
unary_stays negate (v_whole n) w h = (tt, refl)
unary_stays negate _ w h = tt
unary_stays invert (v_flag b) w h = (tt, refl)
unary_stays invert _ w h = tt
unary_stays (assert p) v w h = absurd h
unary_stays length_of (v_array r n) w h = (tt, refl)
unary_stays length_of _ w h = tt
unary_stays print v w h = absurd h
unary_stays (read p) v w h = absurd h

binary_stays : (o : Binary) (x y : Value) (w : World) → IsQuietBinary o → Stays w (acted (binary_act o x y w))
binary_stays (arithmetic sum) x y w h =
    whole_stays x w (λ m. on_whole y (λ n. Some (arithmetic_act sum m n w)))
    (λ m. whole_stays y w (λ n. Some (arithmetic_act sum m n w)) (λ n. (tt, refl)))
binary_stays (arithmetic difference) x y w h =
    whole_stays x w (λ m. on_whole y (λ n. Some (arithmetic_act difference m n w)))
    (λ m. whole_stays y w (λ n. Some (arithmetic_act difference m n w)) (λ n. (tt, refl)))
binary_stays (arithmetic product) x y w h =
    whole_stays x w (λ m. on_whole y (λ n. Some (arithmetic_act product m n w)))
    (λ m. whole_stays y w (λ n. Some (arithmetic_act product m n w)) (λ n. (tt, refl)))
binary_stays (arithmetic (quotient p)) x y w h = absurd h
binary_stays (arithmetic (remainder p)) x y w h = absurd h
binary_stays (comparison o) x y w h =
    whole_stays x w (λ m. on_whole y (λ n. Some (act.gives (v_flag (compares o m n)) w)))
    (λ m. whole_stays y w (λ n. Some (act.gives (v_flag (compares o m n)) w)) (λ n. (tt, refl)))
binary_stays (make p) x y w h = absurd h
binary_stays (fetch p) x y w h = absurd h

-- ---- forms

applied_quiet : (q : Parameter) (b : Core) (v : Value) → IsPlain q → IsQuiet b → IsQuiet (applied [] q b v)
applied_quiet ignored b v p h = close_quiet [] b h
applied_quiet (variable x) b v p h = close_quiet ((x, v) ∷ []) b h
applied_quiet empty b v p h = close_quiet [] b h
applied_quiet (matched l q) b v p h = absurd p

placed_quiet : (before : Cores) (d : Core) (behind : Cores) → AreQuiet before → IsQuiet d → AreQuiet behind → AreQuiet (placed before d behind)
placed_quiet none d behind f h g = (h, g)
placed_quiet (more e es) d behind f h g = (f.0, placed_quiet es d behind f.1 h g)

part_quiet : (before : Cores) (d : Core) → AreQuiet before → IsQuiet d → AreQuiet (with_part before d)
part_quiet none d f h = (h, tt)
part_quiet (more e es) d f h = (f.0, part_quiet es d f.1 h)

mutual
  pub step_stays : (e : Core) (w : World) → IsQuiet e → Stays w (step e w)
  step_stays (val v) w h = tt
  step_stays (use_of x) w h = tt
  step_stays (fun q b) w h = tt
  step_stays (row r es) w h = row_stays r none es w tt h
  step_stays (let_in q e b) w h =
      value_stays (as_value e) (in_let q b) w (step e w) (λ v. Some (goes (applied [] q b v) w)) (λ d k. (h.0, k, h.2))
      (step_stays e w h.1) (λ v. (applied_quiet q b v h.0 h.2, refl))
  step_stays (let_rec f q b e) w h = absurd h
  step_stays (call f a) w h = absurd h
  step_stays (one o e) w h =
      value_stays (as_value e) (in_one o) w (step e w) (λ v. acted (unary_act o v w)) (λ d k. (h.0, k))
      (step_stays e w h.1) (λ v. unary_stays o v w h.0)
  step_stays (two o a b) w h =
      let right : Value → Option Next = λ u. on_value (as_value b) (in_right o a) (step b w) (λ v. acted (binary_act o u v w)) in
      value_stays (as_value a) (in_left o b) w (step a w) right (λ d k. (h.0, k, h.2)) (step_stays a w h.1)
      (λ u. value_stays (as_value b) (in_right o a) w (step b w) (λ v. acted (binary_act o u v w)) (λ d k. (h.0, h.1, k))
      (step_stays b w h.2) (λ v. binary_stays o u v w h.0))
  step_stays (three o a b c) w h = absurd h
  step_stays (and_of a b) w h =
      let next : Bool → Option Next = λ t. Some (goes (if t then b else val (v_flag false)) w) in
      value_stays (as_value a) (in_and b) w (step a w) (λ u. on_flag u next) (λ d k. (k, h.1)) (step_stays a w h.0)
      (λ u. flag_stays u w next (λ t. (choice_quiet t b (val (v_flag false)) h.1 tt, refl)))
  step_stays (or_of a b) w h =
      let next : Bool → Option Next = λ t. Some (goes (if t then val (v_flag true) else b) w) in
      value_stays (as_value a) (in_or b) w (step a w) (λ u. on_flag u next) (λ d k. (k, h.1)) (step_stays a w h.0)
      (λ u. flag_stays u w next (λ t. (choice_quiet t (val (v_flag true)) b tt h.1, refl)))
  step_stays (if_else c a b) w h = absurd h
  step_stays (match_on p e cs) w h = absurd h
  step_stays (seq a b) w h = absurd h
  step_stays (assert_false p) w h = absurd h

  row_stays : (r : Row) (before es : Cores) (w : World) → AreQuiet before → AreQuiet es → Stays w (step_row r before es w)
  row_stays r before none w f h = tt
  row_stays r before (more e es) w f h =
      value_stays (as_value e) (in_row r before es) w (step e w) (λ v. step_row r (with_part before e) es w)
      (λ d k. placed_quiet before d es f k h.1) (step_stays e w h.0)
      (λ v. row_stays r (with_part before e) es w (part_quiet before e f h.0) h.1)

pub stays_at : (e d : Core) (w u : World) → IsQuiet e → step e w ≡ Some (goes d u) → IsQuiet d × (u ≡ w)
stays_at e d w u h s = subst (Stays w) s (step_stays e w h)
