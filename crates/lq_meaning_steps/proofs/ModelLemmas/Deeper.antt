-- A greater bound on nested calls changes nothing but what was too deep.
use Rattle.std.proofs.Common.{◌≡◌, ℕ, zero, suc, ◌+◌, Bool, true, false, [], ◌∷◌, ◌++◌, Option, Some, None, refl, sym, ap, subst, ◌∙◌, arith}
use Rattle.lq_base_names.specs.declared.place.Place.{Place}
use Rattle.lq_text_tree.specs.Pattern.{Pattern, pattern, any, bind, nothing, tuple_of, build_of}
use Rattle.lq_meaning_steps.specs.declared.model.fault.FaultKind.TheVariants.{NoCase}
use Rattle.lq_meaning_steps.specs.Model.Core.{Parameter, ignored, variable, empty, matched, bound_in, Core, val, use_of, fun, row, let_in, let_rec, call, one, two, three, and_of, or_of, if_else, match_on, seq, assert_false, Cores, none, more, Arms, no_arms, more_arms, Value, v_whole, v_flag, v_unit, v_fun, v_rec, v_tuple, v_build, v_array, Values, no_values, more_values, Pairs, value_in, without, close, row_value}
use Rattle.lq_meaning_steps.specs.Model.Operations.{World, unary_act, binary_act, ternary_act, fits}
use Rattle.lq_meaning_steps.specs.Model.Meaning.{Answer, comes, fails, runs_out, too_deep, gets_stuck, and_then, acts, looked_up, on_truth, choose, fitting, with_parameter, eval, eval_all, eval_arms, call_meaning, meaning}
use Rattle.lq_meaning_steps.specs.Model.Laws.{IsDeepEnough, MeansMore}

-- the same answer, unless the first is too deep
abbrev Below : Answer → Answer → Type 0
Below (comes v w) b = b ≡ comes v w
Below (fails k p w) b = b ≡ fails k p w
Below (runs_out p w) b = b ≡ runs_out p w
Below (too_deep w) b = Unit {0}
Below (gets_stuck w) b = b ≡ gets_stuck w

below_same : (a : Answer) → Below a a
below_same (comes v w) = refl
below_same (fails k p w) = refl
below_same (runs_out p w) = refl
below_same (too_deep w) = tt
below_same (gets_stuck w) = refl

then_below : (a b : Answer) (f g : Value → World → Answer) → Below a b → ((v : Value) (w : World) → Below (f v w) (g v w)) → Below (and_then a f) (and_then b g)
then_below (comes v w) b f g h k = subst (λ x. Below (f v w) (and_then x g)) (sym h) (k v w)
then_below (fails x p w) b f g h k = ap (λ y. and_then y g) h
then_below (runs_out p w) b f g h k = ap (λ y. and_then y g) h
then_below (too_deep w) b f g h k = tt
then_below (gets_stuck w) b f g h k = ap (λ y. and_then y g) h

truth_below : (x : Value) (f g : Bool → World → Answer) (w : World) → ((t : Bool) → Below (f t w) (g t w)) → Below (on_truth x f w) (on_truth x g w)
truth_below (v_flag t) f g w h = h t
truth_below (v_whole n) f g w h = refl
truth_below v_unit f g w h = refl
truth_below (v_fun q b) f g w h = refl
truth_below (v_rec k q b) f g w h = refl
truth_below (v_tuple vs) f g w h = refl
truth_below (v_build c vs) f g w h = refl
truth_below (v_array r n) f g w h = refl

choose_below : (t : Bool) (f g other last : World → Answer) (w : World) → Below (f w) (g w) → Below (other w) (last w) → Below (choose t f other w) (choose t g last w)
choose_below true f g other last w h k = h
choose_below false f g other last w h k = k

fitting_below : (o : Option Pairs) (env : Pairs) (go to : Pairs → World → Answer) (other last : World → Answer) (w : World)
    → ((env1 : Pairs) → Below (go env1 w) (to env1 w)) → Below (other w) (last w) → Below (fitting o env go other w) (fitting o env to last w)
fitting_below None env go to other last w h k = k
fitting_below (Some ps) env go to other last w h k = h (ps ++ env)

parameter_below : (q : Parameter) (v : Value) (env : Pairs) (go to : Pairs → World → Answer) (w : World)
    → ((env1 : Pairs) → Below (go env1 w) (to env1 w)) → Below (with_parameter q v env go w) (with_parameter q v env to w)
parameter_below ignored v env go to w h = h env
parameter_below empty v env go to w h = h env
parameter_below (variable x) v env go to w h = h ((x, v) ∷ env)
parameter_below (matched p q) v env go to w h = fitting_below (fits q v) env go to (fails NoCase p) (fails NoCase p) w h refl

module _ (called deeper : Value → Value → World → Answer) (calls : (g v : Value) (w : World) → Below (called g v w) (deeper g v w)) where
  mutual
    pub eval_below : (e : Core) (env : Pairs) (w : World) → Below (eval called e env w) (eval deeper e env w)
    eval_below (val v) env w = refl
    eval_below (use_of x) env w = below_same (looked_up (value_in env x) w)
    eval_below (fun q b) env w = refl
    eval_below (row r es) env w = all_below es env w (λ vs u. comes (row_value r vs) u) (λ vs u. comes (row_value r vs) u) (λ vs u. refl)
    eval_below (let_in q e b) env w =
        then_below _ _ _ _ (eval_below e env w) (λ v u. parameter_below q v env (λ env1 t. eval called b env1 t) (λ env1 t. eval deeper b env1 t) u (λ env1. eval_below b env1 u))
    eval_below (let_rec f q b e) env w = eval_below e ((f, v_rec f q (close (without (f ∷ bound_in q) env) b)) ∷ env) w
    eval_below (call f a) env w = then_below _ _ _ _ (eval_below f env w) (λ g u. then_below _ _ _ _ (eval_below a env u) (λ v t. calls g v t))
    eval_below (one o e) env w = then_below _ _ _ _ (eval_below e env w) (λ v u. below_same (acts u (unary_act o v u)))
    eval_below (two o a b) env w =
        then_below _ _ _ _ (eval_below a env w) (λ x u. then_below _ _ _ _ (eval_below b env u) (λ y t. below_same (acts t (binary_act o x y t))))
    eval_below (three o a i e) env w =
        then_below _ _ _ _ (eval_below a env w) (λ x u. then_below _ _ _ _ (eval_below i env u) (λ y t. then_below _ _ _ _ (eval_below e env t) (λ z s. below_same (acts s (ternary_act o x y z s)))))
    eval_below (and_of a b) env w =
        then_below _ _ _ _ (eval_below a env w) (λ x u. truth_below x _ _ u (λ t. choose_below t (λ r. eval called b env r) (λ r. eval deeper b env r) (comes (v_flag false)) (comes (v_flag false)) u (eval_below b env u) refl))
    eval_below (or_of a b) env w =
        then_below _ _ _ _ (eval_below a env w) (λ x u. truth_below x _ _ u (λ t. choose_below t (comes (v_flag true)) (comes (v_flag true)) (λ r. eval called b env r) (λ r. eval deeper b env r) u refl (eval_below b env u)))
    eval_below (if_else c a b) env w =
        then_below _ _ _ _ (eval_below c env w) (λ x u. truth_below x _ _ u (λ t. choose_below t (λ r. eval called a env r) (λ r. eval deeper a env r) (λ r. eval called b env r) (λ r. eval deeper b env r) u (eval_below a env u) (eval_below b env u)))
    eval_below (match_on p e cs) env w = then_below _ _ _ _ (eval_below e env w) (λ v u. arms_below cs p v env u)
    eval_below (seq a b) env w = then_below _ _ _ _ (eval_below a env w) (λ v u. eval_below b env u)
    eval_below (assert_false p) env w = refl

    pub all_below : (es : Cores) (env : Pairs) (w : World) (go to : Values → World → Answer) → ((vs : Values) (u : World) → Below (go vs u) (to vs u))
        → Below (eval_all called es env w go) (eval_all deeper es env w to)
    all_below none env w go to h = h no_values w
    all_below (more e es) env w go to h =
        then_below _ _ _ _ (eval_below e env w) (λ v u. all_below es env u (λ vs t. go (more_values v vs) t) (λ vs t. to (more_values v vs) t) (λ vs t. h (more_values v vs) t))

    pub arms_below : (cs : Arms) (p : Place) (v : Value) (env : Pairs) (w : World) → Below (eval_arms called p cs v env w) (eval_arms deeper p cs v env w)
    arms_below no_arms p v env w = refl
    arms_below (more_arms q e cs) p v env w =
        fitting_below (fits q v) env (λ env1 u. eval called e env1 u) (λ env1 u. eval deeper e env1 u) (λ u. eval_arms called p cs v env u) (λ u. eval_arms deeper p cs v env u) w
        (λ env1. eval_below e env1 w) (arms_below cs p v env w)

calls_below : (n : ℕ) (g v : Value) (w : World) → Below (call_meaning n g v w) (call_meaning (suc n) g v w)
calls_below zero g v w = tt
calls_below (suc n) (v_fun q b) v w =
    parameter_below q v [] (λ env u. eval (call_meaning n) b env u) (λ env u. eval (call_meaning (suc n)) b env u) w (λ env. eval_below (call_meaning n) (call_meaning (suc n)) (calls_below n) b env w)
calls_below (suc n) (v_rec f q b) v w =
    parameter_below q v ((f, v_rec f q b) ∷ []) (λ env u. eval (call_meaning n) b env u) (λ env u. eval (call_meaning (suc n)) b env u) w (λ env. eval_below (call_meaning n) (call_meaning (suc n)) (calls_below n) b env w)
calls_below (suc n) (v_whole i) v w = refl
calls_below (suc n) (v_flag t) v w = refl
calls_below (suc n) v_unit v w = refl
calls_below (suc n) (v_tuple vs) v w = refl
calls_below (suc n) (v_build c vs) v w = refl
calls_below (suc n) (v_array r i) v w = refl

same_if : (a b : Answer) → IsDeepEnough a → Below a b → b ≡ a
same_if (comes v w) b h k = k
same_if (fails x p w) b h k = k
same_if (runs_out p w) b h k = k
same_if (too_deep w) b h k = absurd h
same_if (gets_stuck w) b h k = k

no_more : (n : ℕ) → n + 0 ≡ n
no_more n = omega arith

one_more : (n m : ℕ) → n + suc m ≡ suc (n + m)
one_more n m = omega arith

pub means_more : MeansMore
means_more n zero e env w h = ap (λ k. meaning k e env w) (no_more n)
means_more n (suc m) e env w h =
    let before = means_more n m e env w h in
    ap (λ k. meaning k e env w) (one_more n m)
    ∙ same_if (meaning (n + m) e env w) (meaning (suc (n + m)) e env w) (subst IsDeepEnough (sym before) h) (eval_below (call_meaning (n + m)) (call_meaning (suc (n + m))) (calls_below (n + m)) e env w)
    ∙ before
