-- The steps of an expression do what it means in an environment.
use Rattle.std.proofs.Common.{◌≡◌, ℕ, zero, suc, ◌+◌, Bool, true, false, if◌then◌else◌, [], ◌∷◌, ◌++◌, Option, Some, None, refl, sym, ap, ap₂, subst, ◌∙◌, arith}
use Rattle.std.proofs.lemmas.List.{append-nil}
use Rattle.lq_base_names.specs.declared.place.Place.{Place}
use Rattle.lq_meaning_steps.specs.declared.model.fault.FaultKind.TheVariants.{NoCase}
use Rattle.lq_meaning_steps.specs.Model.Core.{Pattern, variables_of, Parameter, ignored, variable, empty, matched, bound_in, Row, Core, val, use_of, fun, row, let_in, let_rec, call, one, two, three, and_of, or_of, if_else, match_on, seq, assert_false, Cores, none, more, Arms, no_arms, more_arms, Value, v_whole, v_flag, v_unit, v_fun, v_rec, v_tuple, v_build, v_array, Values, no_values, more_values, Pairs, value_in, without, replaced, close, close_all, close_arms, as_value, as_values, both_values, row_value, with_values}
use Rattle.lq_meaning_steps.specs.Model.Operations as act
use Rattle.lq_meaning_steps.specs.Model.Operations.{World, Act, unary_act, binary_act, ternary_act, fits}
use Rattle.lq_meaning_steps.specs.Model.Step.{Next, goes, faults, ends, done, Frame, in_row, in_let, in_function, in_argument, in_one, in_left, in_right, in_start, in_middle, in_end, in_and, in_or, in_condition, in_scrutinee, in_first, placed, plug, IsReady, AreValues, applied, first_arm, or_later, Step, part, let_value, let_function, call_body, unary, binary, ternary, and_value, or_value, branch, arm, rest, assertion}
use Rattle.lq_meaning_steps.specs.Model.StepFunction.{on_value, on_flag, with_part, step, step_row}
use Rattle.lq_meaning_steps.specs.Model.Meaning.{Answer, comes, fails, runs_out, too_deep, gets_stuck, and_then, acts, looked_up, on_truth, choose, fitting, with_parameter, eval, eval_all, eval_arms, call_meaning}
use Rattle.lq_meaning_steps.specs.Model.Laws.{ArePairsOf}
use Rattle.lq_meaning_steps.specs.Model.Adequacy.{Steps, here, onward, IsStuck, Does, IsAdequate}
use Rattle.lq_meaning_steps.proofs.ModelLemmas.Rows.{step_from, step_to, frame_inside, first_value, inside_from, behind, behind-part, placed-behind, values_part}
use Rattle.lq_meaning_steps.proofs.ModelLemmas.Binding.{close_behind, pair_of, fits_binds}

-- ---- a value has no step

values_stay : (r : Row) (before es : Cores) (w : World) (vs : Values) → as_values es ≡ Some vs → step_row r before es w ≡ None
values_stay r before none w vs h = refl
values_stay r before (more e es) w vs h =
    let p = first_value e (as_value e) (as_values es) vs h in
    ap (λ o. on_value o (in_row r before es) (step e w) (λ v. step_row r (with_part before e) es w)) p.2 ∙ values_stay r (with_part before e) es w p.1 p.3

row_from : (r : Row) (o : Option Values) (v : Value) → with_values r o ≡ Some v → (vs : Values) × (o ≡ Some vs)
row_from r None v h = cc
row_from r (Some vs) v h = (vs, refl)

pub value_stays : (e : Core) (w : World) (v : Value) → as_value e ≡ Some v → step e w ≡ None
value_stays (val u) w v h = refl
value_stays (fun q b) w v h = refl
value_stays (row r es) w v h = let p = row_from r (as_values es) v h in values_stay r none es w p.0 p.1
value_stays _ w v h = cc

pub no_value : (e : Core) (w : World) (n : Next) → Step e w n → as_value e ≡ None
no_value e w n s = by (as_value e) refl
  where
    by : (o : Option Value) → as_value e ≡ o → o ≡ None
    by None h = refl
    by (Some v) h = cc (value_stays e w v h, step_from e w n s)

pub no_step : (e : Core) (w : World) → ((n : Next) → Step e w n → ⊥) → step e w ≡ None
no_step e w h = by (step e w) refl
  where
    by : (o : Option Next) → step e w ≡ o → o ≡ None
    by None k = refl
    by (Some n) k = absurd (h n (step_to e w n k))

-- ---- steps in a row, and of a part

after_one : (k m : ℕ) → suc (k + m) ≡ suc k + m
after_one k m = omega arith

after_none : (m : ℕ) → m ≡ 0 + m
after_none m = omega arith

pub joined : (k m : ℕ) (e d c : Core) (w u t : World) → Steps k e w d u → Steps m d u c t → Steps (k + m) e w c t
joined _ m _ _ c _ _ t (here e w) q = subst (λ j. Steps j e w c t) (after_none m) q
joined _ m _ _ b _ _ s (onward k e d c w u t h p) q =
    subst (λ j. Steps j e w b s) (after_one k m) (onward (k + m) e d b w u s h (joined k m d c b u t s p q))

pub framed : (f : Frame) → IsReady f → (k : ℕ) (e d : Core) (w u : World) → Steps k e w d u → Steps k (plug f e) w (plug f d) u
framed f r _ _ _ _ _ (here e w) = here (plug f e) w
framed f r _ _ _ _ _ (onward k e d c w u t h p) =
    onward k (plug f e) (plug f d) (plug f c) w u t (part f e w (goes d u) r (no_value e w (goes d u) h) h) (framed f r k d c u t p)

row_waits : (before : Cores) (d : Core) (es : Cores) → as_value d ≡ None → as_values (placed before d es) ≡ None
row_waits none d es h = ap (λ o. both_values o (as_values es)) h
row_waits (more e before) d es h = ap (both_values (as_value e)) (row_waits before d es h) ∙ none_later (as_value e)
  where
    none_later : (o : Option Value) → both_values o None ≡ None
    none_later None = refl
    none_later (Some v) = refl

-- a form with a part that is no value is no value
pub waits : (f : Frame) (d : Core) → as_value d ≡ None → as_value (plug f d) ≡ None
waits (in_row r before es) d h = ap (with_values r) (row_waits before d es h)
waits _ d h = refl

by_none : (e : Core) (w : World) → as_value e ≡ None → step e w ≡ None → IsStuck e w
by_none e w h k = (h, λ n s. cc (k, step_from e w n s))

stuck_in : (f : Frame) (d : Core) (u : World) → IsReady f → IsStuck d u → IsStuck (plug f d) u
stuck_in f d u r h = (
  waits f d h.0,
  λ n s.
      let m = inside_from f (step d u) n (sym (frame_inside f d u r h.0) ∙ step_from (plug f d) u n s) in h.1 m.0 (step_to d u m.0 m.1),
)

-- ---- what an expression does

pub does_after : (n k : ℕ) (e d : Core) (w u : World) (a : Answer) → Steps k e w d u → Does n d u a → Does n e w a
does_after n k e d w u (comes v t) p h = (k + h.0, h.1, joined k h.0 e d h.1 w u t p h.2, h.3)
does_after n k e d w u (fails f q t) p h = (k + h.0, h.1, joined k h.0 e d h.1 w u t p h.2, h.3)
does_after n k e d w u (runs_out q t) p h = (k + h.0, h.1, joined k h.0 e d h.1 w u t p h.2, h.3)
does_after n k e d w u (too_deep t) p h = let m = h.3 in (k + h.0, h.1, joined k h.0 e d h.1 w u t p h.2, omega (arith, m))
does_after n k e d w u (gets_stuck t) p h = (k + h.0, h.1, joined k h.0 e d h.1 w u t p h.2, h.3)

first_step : (e d : Core) (w u : World) → Step e w (goes d u) → Steps 1 e w d u
first_step e d w u s = onward 0 e d d w u u s (here d u)

-- a step, and then what the next expression does
pub does_next : (n : ℕ) (e d : Core) (w u : World) (a : Answer) → Step e w (goes d u) → Does n d u a → Does n e w a
does_next n e d w u a s h = does_after n 1 e d w u a (first_step e d w u s) h

-- the same, where it counts that a call takes a step
does_call : (n : ℕ) (e d : Core) (w u : World) (a : Answer) → Step e w (goes d u) → Does n d u a → Does (suc n) e w a
does_call n e d w u (comes v t) s h = (suc h.0, h.1, onward h.0 e d h.1 w u t s h.2, h.3)
does_call n e d w u (fails f q t) s h = (suc h.0, h.1, onward h.0 e d h.1 w u t s h.2, h.3)
does_call n e d w u (runs_out q t) s h = (suc h.0, h.1, onward h.0 e d h.1 w u t s h.2, h.3)
does_call n e d w u (too_deep t) s h = let m = h.3 in (suc h.0, h.1, onward h.0 e d h.1 w u t s h.2, omega (arith, m))
does_call n e d w u (gets_stuck t) s h = (suc h.0, h.1, onward h.0 e d h.1 w u t s h.2, h.3)

-- a part first, and then what the form does with its value
pub does_in : (f : Frame) → IsReady f → (n : ℕ) (e : Core) (w : World) (a : Answer) (go : Value → World → Answer) → Does n e w a
    → ((d : Core) (v : Value) (u : World) → as_value d ≡ Some v → Does n (plug f d) u (go v u)) → Does n (plug f e) w (and_then a go)
does_in f r n e w (comes v u) go h k =
    does_after n h.0 (plug f e) (plug f h.1) w u (go v u) (framed f r h.0 e h.1 w u h.2) (k h.1 v u h.3)
does_in f r n e w (fails x q u) go h k =
    (h.0, plug f h.1, framed f r h.0 e h.1 w u h.2, part f h.1 u (faults x q) r (no_value h.1 u (faults x q) h.3) h.3)
does_in f r n e w (runs_out q u) go h k = (h.0, plug f h.1, framed f r h.0 e h.1 w u h.2, part f h.1 u (ends q) r (no_value h.1 u (ends q) h.3) h.3)
does_in f r n e w (too_deep u) go h k = (h.0, plug f h.1, framed f r h.0 e h.1 w u h.2, h.3)
does_in f r n e w (gets_stuck u) go h k = (h.0, plug f h.1, framed f r h.0 e h.1 w u h.2, stuck_in f h.1 u r h.3)

-- an operation on values
does_act : (n : ℕ) (e : Core) (w : World) (o : Option Act) → ((a : Act) → o ≡ Some a → Step e w (done a)) → (o ≡ None → IsStuck e w) → Does n e w (acts w o)
does_act n e w None s k = (0, e, here e w, k refl)
does_act n e w (Some (act.gives v u)) s k = does_next n e (val v) w u (comes v u) (s (act.gives v u) refl) (0, val v, here (val v) u, refl)
does_act n e w (Some (act.faults x p)) s k = (0, e, here e w, s (act.faults x p) refl)
does_act n e w (Some (act.ends p)) s k = (0, e, here e w, s (act.ends p) refl)

replaced_does : (n x : ℕ) (o : Option Value) (w : World) → Does n (replaced x o) w (looked_up o w)
replaced_does n x None w = (0, use_of x, here (use_of x) w, by_none (use_of x) w refl refl)
replaced_does n x (Some v) w = (0, val v, here (val v) w, refl)

-- an arm whose pattern fits, or what follows
arm_does : (n : ℕ) (q : Pattern) (v : Value) (o : Option Pairs) → fits q v ≡ o → (env : Pairs) (b c e : Core) (w : World) (x : Next) (go : Pairs → World → Answer) (other : World → Answer)
    → ((ps : Pairs) → ArePairsOf (variables_of q) ps → close ps c ≡ close (ps ++ env) b) → Step e w (or_later o c w x)
    → ((env1 : Pairs) → Does n (close env1 b) w (go env1 w)) → (Step e w x → Does n e w (other w)) → Does n e w (fitting o env go other w)
arm_does n q v None is env b c e w x go other same s k later = later s
arm_does n q v (Some ps) is env b c e w x go other same s k later =
    does_next n e (close ps c) w w (go (ps ++ env) w) s (subst (λ d. Does n d w (go (ps ++ env) w)) (sym (same ps (fits_binds q v ps is))) (k (ps ++ env)))

-- a body under its parameter's value
match_does : (n : ℕ) (p : Place) (q : Pattern) (self env : Pairs) (c b : Core) (v : Value) (w : World) (go : Pairs → World → Answer)
    → ((ps : Pairs) → ArePairsOf (variables_of q) ps → close (ps ++ self) c ≡ close (ps ++ env) b) → ((env1 : Pairs) → Does n (close env1 b) w (go env1 w))
    → Does n (match_on p (val v) (close_arms self (more_arms q c no_arms))) w (fitting (fits q v) env go (fails NoCase p) w)
match_does n p q self env c b v w go same k =
    let d = close (without (variables_of q) self) c in
    let e = match_on p (val v) (more_arms q d no_arms) in
    arm_does n q v (fits q v) refl env b d e w (faults NoCase p) go (fails NoCase p) (λ ps h. close_behind (variables_of q) ps self c h ∙ same ps h)
    (arm p (val v) (more_arms q d no_arms) v w refl) k (λ s. (0, e, here e w, s))

parameter_does : (n : ℕ) (q : Parameter) (self env : Pairs) (c b : Core) (v : Value) (w : World) (go : Pairs → World → Answer)
    → ((ps : Pairs) → ArePairsOf (bound_in q) ps → close (ps ++ self) c ≡ close (ps ++ env) b) → ((env1 : Pairs) → Does n (close env1 b) w (go env1 w))
    → Does n (applied self q c v) w (with_parameter q v env go w)
parameter_does n ignored self env c b v w go same k = subst (λ d. Does n d w (go env w)) (sym (same [] (λ x. refl))) (k env)
parameter_does n empty self env c b v w go same k = subst (λ d. Does n d w (go env w)) (sym (same [] (λ x. refl))) (k env)
parameter_does n (variable x) self env c b v w go same k =
    subst (λ d. Does n d w (go ((x, v) ∷ env) w)) (sym (same ((x, v) ∷ []) (pair_of x v))) (k ((x, v) ∷ env))
parameter_does n (matched p q) self env c b v w go same k = match_does n p q self env c b v w go same k

-- what a `let` leaves open in its body
let_same : (q : Parameter) (env : Pairs) (b : Core) (ps : Pairs) → ArePairsOf (bound_in q) ps → close (ps ++ []) (close (without (bound_in q) env) b) ≡ close (ps ++ env) b
let_same q env b ps h = ap (λ l. close l (close (without (bound_in q) env) b)) (append-nil ps) ∙ close_behind (bound_in q) ps env b h

-- a form that goes by a truth value
truth_does : (n : ℕ) (e : Core) (w : World) (x : Value) (f : Bool → Option Next) (go : Bool → World → Answer) → as_value e ≡ None → step e w ≡ on_flag x f
    → ((t : Bool) → x ≡ v_flag t → Does n e w (go t w)) → Does n e w (on_truth x go w)
truth_does n e w (v_flag t) f go h s k = k t refl
truth_does n e w (v_whole i) f go h s k = (0, e, here e w, by_none e w h s)
truth_does n e w v_unit f go h s k = (0, e, here e w, by_none e w h s)
truth_does n e w (v_fun q b) f go h s k = (0, e, here e w, by_none e w h s)
truth_does n e w (v_rec g q b) f go h s k = (0, e, here e w, by_none e w h s)
truth_does n e w (v_tuple vs) f go h s k = (0, e, here e w, by_none e w h s)
truth_does n e w (v_build c vs) f go h s k = (0, e, here e w, by_none e w h s)
truth_does n e w (v_array r i) f go h s k = (0, e, here e w, by_none e w h s)

choose_does : (n : ℕ) (t : Bool) (e a b : Core) (w : World) (go other : World → Answer) → Step e w (goes (if t then a else b) w)
    → Does n a w (go w) → Does n b w (other w) → Does n e w (choose t go other w)
choose_does n true e a b w go other s h k = does_next n e a w w (go w) s h
choose_does n false e a b w go other s h k = does_next n e b w w (other w) s k

module _ (called : Value → Value → World → Answer) (n : ℕ) (calls_do : (f a : Core) (g v : Value) (w : World) → as_value f ≡ Some g → as_value a ≡ Some v → Does n (call f a) w (called g v w)) where
  mutual
    pub does : (e : Core) (env : Pairs) (w : World) → Does n (close env e) w (eval called e env w)
    does (val v) env w = (0, val v, here (val v) w, refl)
    does (use_of x) env w = replaced_does n x (value_in env x) w
    does (fun q b) env w = let d = fun q (close (without (bound_in q) env) b) in (0, d, here d w, refl)
    does (row r es) env w = does_all es env w r none (λ vs u. comes (row_value r vs) u) (no_values, refl) (λ ds vs u is. (0, row r ds, here (row r ds) u, ap (with_values r) is))
    does (let_in q e b) env w =
        let B = close (without (bound_in q) env) b in
        let body = λ (env1 : Pairs) (t : World). eval called b env1 t in
        does_in (in_let q B) tt n (close env e) w (eval called e env w) (λ v u. with_parameter q v env body u) (does e env w) (λ d v u is.
        does_next n (let_in q d B) (applied [] q B v) u u (with_parameter q v env body u) (let_value q d B v u is)
        (parameter_does n q [] env B b v u body (let_same q env b) (λ env1. does b env1 u)))
    does (let_rec f q b e) env w =
        let g = v_rec f q (close (without (f ∷ bound_in q) env) b) in
        let E = close (without (f ∷ []) env) e in
        does_next n (close env (let_rec f q b e)) (close ((f, g) ∷ []) E) w w (eval called e ((f, g) ∷ env) w) (let_function f q (close (without (f ∷ bound_in q) env) b) E w)
        (subst (λ d. Does n d w (eval called e ((f, g) ∷ env) w)) (sym (close_behind (f ∷ []) ((f, g) ∷ []) env e (pair_of f g))) (does e ((f, g) ∷ env) w))
    does (call f a) env w =
        let A = close env a in
        does_in (in_function A) tt n (close env f) w (eval called f env w) (λ g u. and_then (eval called a env u) (λ v t. called g v t)) (does f env w) (λ d g u is.
        does_in (in_argument d) (g, is) n A u (eval called a env u) (λ v t. called g v t) (does a env u) (λ c v t is2. calls_do d c g v t is is2))
    does (one o e) env w =
        does_in (in_one o) tt n (close env e) w (eval called e env w) (λ v u. acts u (unary_act o v u)) (does e env w) (λ d v u is.
        does_act n (one o d) u (unary_act o v u) (λ a h. unary o d v u a is h) (λ h. by_none (one o d) u refl (rw (is, h))))
    does (two o a b) env w =
        let B = close env b in
        does_in (in_left o B) tt n (close env a) w (eval called a env w) (λ x u. and_then (eval called b env u) (λ y t. acts t (binary_act o x y t))) (does a env w) (λ d x u is.
        does_in (in_right o d) (x, is) n B u (eval called b env u) (λ y t. acts t (binary_act o x y t)) (does b env u) (λ c y t is2.
        does_act n (two o d c) t (binary_act o x y t) (λ a h. binary o d c x y t a is is2 h) (λ h. by_none (two o d c) t refl (rw (is, is2, h)))))
    does (three o a i e) env w =
        let I = close env i in let E = close env e in
        does_in (in_start o I E) tt n (close env a) w (eval called a env w) (λ x u. and_then (eval called i env u) (λ y t. and_then (eval called e env t) (λ z s. acts s (ternary_act o x y z s)))) (does a env w) (λ d x u is.
        does_in (in_middle o d E) (x, is) n I u (eval called i env u) (λ y t. and_then (eval called e env t) (λ z s. acts s (ternary_act o x y z s))) (does i env u) (λ c y t is2.
        does_in (in_end o d c) ((x, is), (y, is2)) n E t (eval called e env t) (λ z s. acts s (ternary_act o x y z s)) (does e env t) (λ j z s is3.
        does_act n (three o d c j) s (ternary_act o x y z s) (λ a h. ternary o d c j x y z s a is is2 is3 h) (λ h. by_none (three o d c j) s refl (rw (is, is2, is3, h))))))
    does (and_of a b) env w =
        let B = close env b in let no = val (v_flag false) in
        let then_b = λ (r : World). eval called b env r in
        let go = λ (t : Bool) (s : World). choose t then_b (comes (v_flag false)) s in
        does_in (in_and B) tt n (close env a) w (eval called a env w) (λ x u. on_truth x go u) (does a env w) (λ d x u is.
        truth_does n (and_of d B) u x (λ t. Some (goes (if t then B else no) u)) go refl (rw is) (λ t h.
        choose_does n t (and_of d B) B no u then_b (comes (v_flag false)) (and_value d B t u (is ∙ ap Some h)) (does b env u) (0, no, here no u, refl)))
    does (or_of a b) env w =
        let B = close env b in let yes = val (v_flag true) in
        let then_b = λ (r : World). eval called b env r in
        let go = λ (t : Bool) (s : World). choose t (comes (v_flag true)) then_b s in
        does_in (in_or B) tt n (close env a) w (eval called a env w) (λ x u. on_truth x go u) (does a env w) (λ d x u is.
        truth_does n (or_of d B) u x (λ t. Some (goes (if t then yes else B) u)) go refl (rw is) (λ t h.
        choose_does n t (or_of d B) yes B u (comes (v_flag true)) then_b (or_value d B t u (is ∙ ap Some h)) (0, yes, here yes u, refl) (does b env u)))
    does (if_else c a b) env w =
        let A = close env a in let B = close env b in
        let then_a = λ (r : World). eval called a env r in let then_b = λ (r : World). eval called b env r in
        let go = λ (t : Bool) (s : World). choose t then_a then_b s in
        does_in (in_condition A B) tt n (close env c) w (eval called c env w) (λ x u. on_truth x go u) (does c env w) (λ d x u is.
        truth_does n (if_else d A B) u x (λ t. Some (goes (if t then A else B) u)) go refl (rw is) (λ t h.
        choose_does n t (if_else d A B) A B u then_a then_b (branch d A B t u (is ∙ ap Some h)) (does a env u) (does b env u)))
    does (match_on p e cs) env w =
        let C = close_arms env cs in
        does_in (in_scrutinee p C) tt n (close env e) w (eval called e env w) (λ v u. eval_arms called p cs v env u) (does e env w) (λ d v u is.
        does_arms cs env p v u (match_on p d C) (arm p d C v u is))
    does (seq a b) env w =
        let B = close env b in
        does_in (in_first B) tt n (close env a) w (eval called a env w) (λ v u. eval called b env u) (does a env w) (λ d v u is.
        does_next n (seq d B) B u u (eval called b env u) (rest d B v u is) (does b env u))
    does (assert_false p) env w = (0, assert_false p, here (assert_false p) w, assertion p w)

    pub does_all : (es : Cores) (env : Pairs) (w : World) (r : Row) (before : Cores) (go : Values → World → Answer) → AreValues before
        → ((ds : Cores) (vs : Values) (u : World) → as_values ds ≡ Some vs → Does n (row r (behind before ds)) u (go vs u))
        → Does n (row r (behind before (close_all env es))) w (eval_all called es env w go)
    does_all none env w r before go ready k = k none no_values w refl
    does_all (more e es) env w r before go ready k =
        let E = close_all env es in
        let later = λ (v : Value) (u : World). eval_all called es env u (λ vs t. go (more_values v vs) t) in
        subst (λ l. Does n (row r l) w (and_then (eval called e env w) later)) (placed-behind before (close env e) E)
        (does_in (in_row r before E) ready n (close env e) w (eval called e env w) later (does e env w) (λ d v u is.
        subst (λ l. Does n (row r l) u (later v u)) (behind-part before d E ∙ sym (placed-behind before d E))
        (does_all es env u r (with_part before d) (λ vs t. go (more_values v vs) t) (values_part before d ready.0 v ready.1 is) (λ ds vs t is2.
        subst (λ l. Does n (row r l) t (go (more_values v vs) t)) (sym (behind-part before d ds)) (k (more d ds) (more_values v vs) t (ap₂ both_values is is2))))))

    pub does_arms : (cs : Arms) (env : Pairs) (p : Place) (v : Value) (w : World) (e : Core) → Step e w (first_arm p (close_arms env cs) v w)
        → Does n e w (eval_arms called p cs v env w)
    does_arms no_arms env p v w e s = (0, e, here e w, s)
    does_arms (more_arms q b cs) env p v w e s =
        arm_does n q v (fits q v) refl env b (close (without (variables_of q) env) b) e w (first_arm p (close_arms env cs) v w) (λ env1 u. eval called b env1 u) (λ u. eval_arms called p cs v env u)
        (λ ps h. close_behind (variables_of q) ps env b h) s (λ env1. does b env1 w) (λ t. does_arms cs env p v w e t)

pub calls_do : (n : ℕ) (f a : Core) (g v : Value) (w : World) → as_value f ≡ Some g → as_value a ≡ Some v → Does n (call f a) w (call_meaning n g v w)
calls_do zero f a g v w h k = (0, call f a, here (call f a) w, omega arith)
calls_do (suc n) f a (v_fun q b) v w h k =
    let go = λ (env : Pairs) (u : World). eval (call_meaning n) b env u in
    does_call n (call f a) (applied [] q b v) w w (with_parameter q v [] go w) (call_body f a (v_fun q b) v (applied [] q b v) w h k refl)
    (parameter_does n q [] [] b b v w go (λ ps h. refl) (λ env. does (call_meaning n) n (calls_do n) b env w))
calls_do (suc n) f a (v_rec x q b) v w h k =
    let go = λ (env : Pairs) (u : World). eval (call_meaning n) b env u in
    let self : Pairs = (x, v_rec x q b) ∷ [] in
    does_call n (call f a) (applied self q b v) w w (with_parameter q v self go w) (call_body f a (v_rec x q b) v (applied self q b v) w h k refl)
    (parameter_does n q self self b b v w go (λ ps h. refl) (λ env. does (call_meaning n) n (calls_do n) b env w))
calls_do (suc n) f a (v_whole i) v w h k = (0, call f a, here (call f a) w, by_none (call f a) w refl (rw (h, k)))
calls_do (suc n) f a (v_flag t) v w h k = (0, call f a, here (call f a) w, by_none (call f a) w refl (rw (h, k)))
calls_do (suc n) f a v_unit v w h k = (0, call f a, here (call f a) w, by_none (call f a) w refl (rw (h, k)))
calls_do (suc n) f a (v_tuple vs) v w h k = (0, call f a, here (call f a) w, by_none (call f a) w refl (rw (h, k)))
calls_do (suc n) f a (v_build c vs) v w h k = (0, call f a, here (call f a) w, by_none (call f a) w refl (rw (h, k)))
calls_do (suc n) f a (v_array r i) v w h k = (0, call f a, here (call f a) w, by_none (call f a) w refl (rw (h, k)))

pub adequate : IsAdequate
adequate n e env w = does (call_meaning n) n (calls_do n) e env w
