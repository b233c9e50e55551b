-- The step function gives exactly what the rows of the relation give.
use Rattle.std.proofs.Common.{◌≡◌, Bool, true, false, if◌then◌else◌, [], Option, Some, None, refl, sym, ap, subst, ◌∙◌}
use Rattle.lq_meaning_steps.specs.Model.Core.{Row, Core, val, use_of, fun, row, let_in, let_rec, call, one, two, three, and_of, or_of, if_else, match_on, seq, assert_false, Cores, none, more, Arms, no_arms, more_arms, Value, v_whole, v_flag, v_unit, v_fun, v_rec, v_tuple, v_build, v_array, Values, no_values, more_values, as_value, as_values, both_values}
use Rattle.lq_meaning_steps.specs.Model.Operations.{World, Act, unary_act, binary_act, ternary_act}
use Rattle.lq_meaning_steps.specs.Model.Step.{Next, goes, done, Frame, in_row, in_let, in_function, in_argument, in_one, in_left, in_right, in_start, in_middle, in_end, in_and, in_or, in_condition, in_scrutinee, in_first, placed, plug, within, IsReady, AreValues, applied, body_of, first_arm, Step, part, let_value, let_function, call_body, unary, binary, ternary, and_value, or_value, branch, arm, rest, assertion}
use Rattle.lq_meaning_steps.specs.Model.StepFunction.{inside, on_value, acted, goes_to, on_flag, with_part, step, step_row}

-- ---- a part inside a frame

pub joined : Cores → Cores → Cores
joined acc none = acc
joined acc (more e es) = joined (with_part acc e) es

-- the parts before, put before the others
abbrev pub behind : Cores → Cores → Cores
behind none es = es
behind (more d ds) es = more d (behind ds es)

pub behind-part : (acc : Cores) (e : Core) (es : Cores) → behind (with_part acc e) es ≡ behind acc (more e es)
behind-part none e es = refl
behind-part (more d ds) e es = ap (more d) (behind-part ds e es)

behind-none : (acc : Cores) → behind acc none ≡ acc
behind-none none = refl
behind-none (more d ds) = ap (more d) (behind-none ds)

joined-behind : (acc es : Cores) → joined acc es ≡ behind acc es
unfolding joined
joined-behind acc none = sym (behind-none acc)
joined-behind acc (more e es) = joined-behind (with_part acc e) es ∙ behind-part acc e es

joined-none : (es : Cores) → joined none es ≡ es
joined-none es = joined-behind none es

pub first_value : (e : Core) (o : Option Value) (vs : Option Values) (us : Values) → both_values o vs ≡ Some us → (v : Value) × (ws : Values) × (o ≡ Some v) × (vs ≡ Some ws)
first_value e None vs us h = cc
first_value e (Some v) None us h = cc
first_value e (Some v) (Some ws) us h = (v, ws, refl, refl)

row_inside : (r : Row) (acc before : Cores) (e : Core) (behind : Cores) (w : World) (us : Values) → as_values before ≡ Some us → as_value e ≡ None
    → step_row r acc (placed before e behind) w ≡ inside (in_row r (joined acc before) behind) (step e w)
unfolding joined
row_inside r acc none e behind w us h k = ap (λ o. on_value o (in_row r acc behind) (step e w) (λ v. step_row r (with_part acc e) behind w)) k
row_inside r acc (more d ds) e behind w us h k =
    let p = first_value d (as_value d) (as_values ds) us h in
    ap (λ o. on_value o (in_row r acc (placed ds e behind)) (step d w) (λ v. step_row r (with_part acc d) (placed ds e behind) w)) p.2
    ∙ row_inside r (with_part acc d) ds e behind w p.1 p.3 k

pub frame_inside : (f : Frame) (e : Core) (w : World) → IsReady f → as_value e ≡ None → step (plug f e) w ≡ inside f (step e w)
frame_inside (in_row r before behind) e w h k = row_inside r none before e behind w h.0 h.1 k ∙ ap (λ l. inside (in_row r l behind) (step e w)) (joined-none before)
frame_inside (in_let q b) e w h k = ap (λ o. on_value o (in_let q b) (step e w) (λ v. Some (goes (applied [] q b v) w))) k
frame_inside (in_function a) e w h k = ap (λ o. on_value o (in_function a) (step e w) (λ u. on_value (as_value a) (in_argument e) (step a w) (λ v. goes_to w (body_of u v)))) k
frame_inside (in_argument f) e w h k =
    ap (λ o. on_value o (in_function e) (step f w) (λ u. on_value (as_value e) (in_argument f) (step e w) (λ v. goes_to w (body_of u v)))) h.1
    ∙ ap (λ o. on_value o (in_argument f) (step e w) (λ v. goes_to w (body_of h.0 v))) k
frame_inside (in_one o) e w h k = ap (λ x. on_value x (in_one o) (step e w) (λ v. acted (unary_act o v w))) k
frame_inside (in_left o b) e w h k = ap (λ x. on_value x (in_left o b) (step e w) (λ u. on_value (as_value b) (in_right o e) (step b w) (λ v. acted (binary_act o u v w)))) k
frame_inside (in_right o a) e w h k =
    ap (λ x. on_value x (in_left o e) (step a w) (λ u. on_value (as_value e) (in_right o a) (step e w) (λ v. acted (binary_act o u v w)))) h.1
    ∙ ap (λ x. on_value x (in_right o a) (step e w) (λ v. acted (binary_act o h.0 v w))) k
frame_inside (in_start o i x) e w h k =
    ap (λ y. on_value y (in_start o i x) (step e w) (λ t. on_value (as_value i) (in_middle o e x) (step i w) (λ u. on_value (as_value x) (in_end o e i) (step x w) (λ v. acted (ternary_act o t u v w))))) k
frame_inside (in_middle o a x) e w h k =
    ap (λ y. on_value y (in_start o e x) (step a w) (λ t. on_value (as_value e) (in_middle o a x) (step e w) (λ u. on_value (as_value x) (in_end o a e) (step x w) (λ v. acted (ternary_act o t u v w))))) h.1
    ∙ ap (λ y. on_value y (in_middle o a x) (step e w) (λ u. on_value (as_value x) (in_end o a e) (step x w) (λ v. acted (ternary_act o h.0 u v w)))) k
frame_inside (in_end o a i) e w h k =
    ap (λ y. on_value y (in_start o i e) (step a w) (λ t. on_value (as_value i) (in_middle o a e) (step i w) (λ u. on_value (as_value e) (in_end o a i) (step e w) (λ v. acted (ternary_act o t u v w))))) h.0.1
    ∙ ap (λ y. on_value y (in_middle o a e) (step i w) (λ u. on_value (as_value e) (in_end o a i) (step e w) (λ v. acted (ternary_act o h.0.0 u v w)))) h.1.1
    ∙ ap (λ y. on_value y (in_end o a i) (step e w) (λ v. acted (ternary_act o h.0.0 h.1.0 v w))) k
frame_inside (in_and b) e w h k = ap (λ o. on_value o (in_and b) (step e w) (λ u. on_flag u (λ t. Some (goes (if t then b else val (v_flag false)) w)))) k
frame_inside (in_or b) e w h k = ap (λ o. on_value o (in_or b) (step e w) (λ u. on_flag u (λ t. Some (goes (if t then val (v_flag true) else b) w)))) k
frame_inside (in_condition a b) e w h k = ap (λ o. on_value o (in_condition a b) (step e w) (λ u. on_flag u (λ t. Some (goes (if t then a else b) w)))) k
frame_inside (in_scrutinee p cs) e w h k = ap (λ o. on_value o (in_scrutinee p cs) (step e w) (λ v. Some (first_arm p cs v w))) k
frame_inside (in_first b) e w h k = ap (λ o. on_value o (in_first b) (step e w) (λ v. Some (goes b w))) k

-- ---- from the rows

pub step_from : (e : Core) (w : World) (n : Next) → Step e w n → step e w ≡ Some n
step_from _ _ _ (part f e w n h k s) = frame_inside f e w h k ∙ ap (inside f) (step_from e w n s)
step_from _ _ _ (let_value q e b v w h) = ap (λ o. on_value o (in_let q b) (step e w) (λ v. Some (goes (applied [] q b v) w))) h
step_from _ _ _ (let_function f q b e w) = refl
step_from _ _ _ (call_body f a u v b w h k m) =
    ap (λ o. on_value o (in_function a) (step f w) (λ u. on_value (as_value a) (in_argument f) (step a w) (λ v. goes_to w (body_of u v)))) h
    ∙ ap (λ o. on_value o (in_argument f) (step a w) (λ v. goes_to w (body_of u v))) k ∙ ap (goes_to w) m
step_from _ _ _ (unary o e v w a h k) = ap (λ x. on_value x (in_one o) (step e w) (λ v. acted (unary_act o v w))) h ∙ ap acted k
step_from _ _ _ (binary o d e u v w a h k m) =
    ap (λ x. on_value x (in_left o e) (step d w) (λ u. on_value (as_value e) (in_right o d) (step e w) (λ v. acted (binary_act o u v w)))) h
    ∙ ap (λ x. on_value x (in_right o d) (step e w) (λ v. acted (binary_act o u v w))) k ∙ ap acted m
step_from _ _ _ (ternary o d i e t u v w a h k l m) =
    ap (λ y. on_value y (in_start o i e) (step d w) (λ t. on_value (as_value i) (in_middle o d e) (step i w) (λ u. on_value (as_value e) (in_end o d i) (step e w) (λ v. acted (ternary_act o t u v w))))) h
    ∙ ap (λ y. on_value y (in_middle o d e) (step i w) (λ u. on_value (as_value e) (in_end o d i) (step e w) (λ v. acted (ternary_act o t u v w)))) k
    ∙ ap (λ y. on_value y (in_end o d i) (step e w) (λ v. acted (ternary_act o t u v w))) l ∙ ap acted m
step_from _ _ _ (and_value a b t w h) = ap (λ o. on_value o (in_and b) (step a w) (λ u. on_flag u (λ t. Some (goes (if t then b else val (v_flag false)) w)))) h
step_from _ _ _ (or_value a b t w h) = ap (λ o. on_value o (in_or b) (step a w) (λ u. on_flag u (λ t. Some (goes (if t then val (v_flag true) else b) w)))) h
step_from _ _ _ (branch c a b t w h) = ap (λ o. on_value o (in_condition a b) (step c w) (λ u. on_flag u (λ t. Some (goes (if t then a else b) w)))) h
step_from _ _ _ (arm p e cs v w h) = ap (λ o. on_value o (in_scrutinee p cs) (step e w) (λ v. Some (first_arm p cs v w))) h
step_from _ _ _ (rest a b v w h) = ap (λ o. on_value o (in_first b) (step a w) (λ v. Some (goes b w))) h
step_from _ _ _ (assertion p w) = refl

-- ---- to the rows

abbrev pub Gives : Core → World → Type 0
Gives e w = (m : Next) → step e w ≡ Some m → Step e w m

pub inside_from : (f : Frame) (o : Option Next) (n : Next) → inside f o ≡ Some n → (m : Next) × (o ≡ Some m) × (within f m ≡ n)
inside_from f None n h = cc
inside_from f (Some m) n h = (m, refl, cc)

-- a step of a part
by_part : (f : Frame) (e : Core) (w : World) (n : Next) → IsReady f → as_value e ≡ None → Gives e w → inside f (step e w) ≡ Some n → Step (plug f e) w n
by_part f e w n h k gives s =
    let p = inside_from f (step e w) n s in subst (Step (plug f e) w) p.2 (part f e w p.0 h k (gives p.0 p.1))

-- a part that is a value, or steps
on_part : (f : Frame) (e : Core) (w : World) (n : Next) (go : Value → Option Next) → IsReady f → Gives e w
    → ((v : Value) → as_value e ≡ Some v → go v ≡ Some n → Step (plug f e) w n)
    → on_value (as_value e) f (step e w) go ≡ Some n → Step (plug f e) w n
on_part f e w n go h gives next s = by (as_value e) refl s
  where
    by : (o : Option Value) → as_value e ≡ o → on_value o f (step e w) go ≡ Some n → Step (plug f e) w n
    by None k t = by_part f e w n h k gives t
    by (Some v) k t = next v k t

acted_from : (o : Option Act) (n : Next) → acted o ≡ Some n → (a : Act) × (o ≡ Some a) × (done a ≡ n)
acted_from None n h = cc
acted_from (Some a) n h = (a, refl, cc)

goes_from : (w : World) (o : Option Core) (n : Next) → goes_to w o ≡ Some n → (b : Core) × (o ≡ Some b) × (goes b w ≡ n)
goes_from w None n h = cc
goes_from w (Some b) n h = (b, refl, cc)

flag_from : (v : Value) (go : Bool → Option Next) (n : Next) → on_flag v go ≡ Some n → (t : Bool) × (v ≡ v_flag t) × (go t ≡ Some n)
flag_from (v_flag t) go n h = (t, refl, h)
flag_from (v_whole k) go n h = cc
flag_from v_unit go n h = cc
flag_from (v_fun q b) go n h = cc
flag_from (v_rec f q b) go n h = cc
flag_from (v_tuple vs) go n h = cc
flag_from (v_build c vs) go n h = cc
flag_from (v_array r k) go n h = cc

some_once : (a b : Next) → Some a ≡ Some b → a ≡ b
some_once a b h = cc

pub placed-behind : (acc : Cores) (e : Core) (es : Cores) → placed acc e es ≡ behind acc (more e es)
placed-behind none e es = refl
placed-behind (more d ds) e es = ap (more d) (placed-behind ds e es)

pub values_part : (acc : Cores) (e : Core) (us : Values) (v : Value) → as_values acc ≡ Some us → as_value e ≡ Some v → AreValues (with_part acc e)
values_part none e us v h k = (more_values v no_values, ap (λ o. both_values o (Some no_values)) k)
values_part (more d ds) e us v h k =
    let p = first_value d (as_value d) (as_values ds) us h in
    let rest = values_part ds e p.1 v p.3 k in
    (more_values p.0 rest.0, ap (λ o. both_values o (as_values (with_part ds e))) p.2 ∙ ap (λ o. both_values (Some p.0) o) rest.1)

abbrev pub EachGives : Cores → World → Type 0
EachGives none w = Unit {0}
EachGives (more e es) w = Gives e w × EachGives es w

row_steps : (r : Row) (acc es : Cores) (w : World) (n : Next) → AreValues acc → EachGives es w → step_row r acc es w ≡ Some n → Step (row r (behind acc es)) w n
row_steps r acc none w n h g s = cc
row_steps r acc (more e es) w n h g s =
    subst (λ l. Step (row r l) w n) (placed-behind acc e es)
    (on_part (in_row r acc es) e w n (λ v. step_row r (with_part acc e) es w) h g.0
    (λ v k t. subst (λ l. Step (row r l) w n) (behind-part acc e es ∙ sym (placed-behind acc e es))
    (row_steps r (with_part acc e) es w n (values_part acc e h.0 v h.1 k) g.1 t)) s)

mutual
  pub step_to : (e : Core) (w : World) → Gives e w
  step_to (val v) w n s = cc
  step_to (use_of x) w n s = cc
  step_to (fun q b) w n s = cc
  step_to (row r es) w n s = row_steps r none es w n (no_values, refl) (each_to es w) s
  step_to (let_in q e b) w n s =
      on_part (in_let q b) e w n (λ v. Some (goes (applied [] q b v) w)) tt (step_to e w)
      (λ v k t. subst (Step (let_in q e b) w) (some_once _ _ t) (let_value q e b v w k)) s
  step_to (let_rec f q b e) w n s = subst (Step (let_rec f q b e) w) (some_once _ _ s) (let_function f q b e w)
  step_to (call f a) w n s =
      on_part (in_function a) f w n (λ u. on_value (as_value a) (in_argument f) (step a w) (λ v. goes_to w (body_of u v))) tt (step_to f w)
      (λ u k t. on_part (in_argument f) a w n (λ v. goes_to w (body_of u v)) (u, k) (step_to a w)
      (λ v l m. let p = goes_from w (body_of u v) n m in subst (Step (call f a) w) p.2 (call_body f a u v p.0 w k l p.1)) t) s
  step_to (one o e) w n s =
      on_part (in_one o) e w n (λ v. acted (unary_act o v w)) tt (step_to e w)
      (λ v k t. let p = acted_from (unary_act o v w) n t in subst (Step (one o e) w) p.2 (unary o e v w p.0 k p.1)) s
  step_to (two o a b) w n s =
      on_part (in_left o b) a w n (λ u. on_value (as_value b) (in_right o a) (step b w) (λ v. acted (binary_act o u v w))) tt (step_to a w)
      (λ u k t. on_part (in_right o a) b w n (λ v. acted (binary_act o u v w)) (u, k) (step_to b w)
      (λ v l m. let p = acted_from (binary_act o u v w) n m in subst (Step (two o a b) w) p.2 (binary o a b u v w p.0 k l p.1)) t) s
  step_to (three o a i e) w n s =
      on_part (in_start o i e) a w n (λ t. on_value (as_value i) (in_middle o a e) (step i w) (λ u. on_value (as_value e) (in_end o a i) (step e w) (λ v. acted (ternary_act o t u v w)))) tt (step_to a w)
      (λ x k s. on_part (in_middle o a e) i w n (λ u. on_value (as_value e) (in_end o a i) (step e w) (λ v. acted (ternary_act o x u v w))) (x, k) (step_to i w)
      (λ y l s. on_part (in_end o a i) e w n (λ v. acted (ternary_act o x y v w)) ((x, k), (y, l)) (step_to e w)
      (λ z m s. let r = acted_from (ternary_act o x y z w) n s in subst (Step (three o a i e) w) r.2 (ternary o a i e x y z w r.0 k l m r.1)) s) s) s
  step_to (and_of a b) w n s =
      on_part (in_and b) a w n (λ u. on_flag u (λ t. Some (goes (if t then b else val (v_flag false)) w))) tt (step_to a w)
      (λ v k t. let p = flag_from v _ n t in subst (Step (and_of a b) w) (some_once _ _ p.2) (and_value a b p.0 w (k ∙ ap Some p.1))) s
  step_to (or_of a b) w n s =
      on_part (in_or b) a w n (λ u. on_flag u (λ t. Some (goes (if t then val (v_flag true) else b) w))) tt (step_to a w)
      (λ v k t. let p = flag_from v _ n t in subst (Step (or_of a b) w) (some_once _ _ p.2) (or_value a b p.0 w (k ∙ ap Some p.1))) s
  step_to (if_else c a b) w n s =
      on_part (in_condition a b) c w n (λ u. on_flag u (λ t. Some (goes (if t then a else b) w))) tt (step_to c w)
      (λ v k t. let p = flag_from v _ n t in subst (Step (if_else c a b) w) (some_once _ _ p.2) (branch c a b p.0 w (k ∙ ap Some p.1))) s
  step_to (match_on p e cs) w n s =
      on_part (in_scrutinee p cs) e w n (λ v. Some (first_arm p cs v w)) tt (step_to e w)
      (λ v k t. subst (Step (match_on p e cs) w) (some_once _ _ t) (arm p e cs v w k)) s
  step_to (seq a b) w n s =
      on_part (in_first b) a w n (λ v. Some (goes b w)) tt (step_to a w)
      (λ v k t. subst (Step (seq a b) w) (some_once _ _ t) (rest a b v w k)) s
  step_to (assert_false p) w n s = subst (Step (assert_false p) w) (some_once _ _ s) (assertion p w)

  pub each_to : (es : Cores) (w : World) → EachGives es w
  each_to none w = tt
  each_to (more e es) w = (step_to e w, each_to es w)

  pub arms_to : (cs : Arms) (w : World) → Unit {0}
  arms_to no_arms w = tt
  arms_to (more_arms q e cs) w = tt
