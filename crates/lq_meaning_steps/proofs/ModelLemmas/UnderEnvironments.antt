-- The meaning goes by the values of the environment alone, and a closing is an environment in front.
use Rattle.std.proofs.Common.{◌≡◌, ℕ, Bool, true, false, if◌then◌else◌, List, [], ◌∷◌, ◌++◌, Option, Some, None, ◌==◌, refl, sym, ap, ◌∙◌, append_assoc}
use Rattle.lq_base_names.specs.declared.place.Place.{Place}
use Rattle.lq_meaning_steps.specs.declared.model.fault.FaultKind.TheVariants.{NoCase}
use Rattle.lq_meaning_steps.specs.Model.Core.{Pattern, variables_of, Parameter, ignored, variable, empty, matched, bound_in, Core, val, use_of, fun, row, let_in, let_rec, call, one, two, three, and_of, or_of, if_else, match_on, seq, assert_false, Cores, none, more, Arms, no_arms, more_arms, Value, v_whole, v_flag, v_unit, v_fun, v_rec, v_tuple, v_build, v_array, Values, more_values, Pairs, value_in, without, replaced, close, close_all, close_arms, row_value}
use Rattle.lq_meaning_steps.specs.Model.Operations.{World, fits}
use Rattle.lq_meaning_steps.specs.Model.Meaning.{Answer, comes, fails, runs_out, too_deep, gets_stuck, and_then, looked_up, on_truth, choose, fitting, with_parameter, eval, eval_all, eval_arms, call_meaning}
use Rattle.lq_meaning_steps.specs.Model.Laws.{SameIn, ArePairsOf, MeansAlike, MeansClosed}
use Rattle.lq_meaning_steps.proofs.ModelLemmas.Substitution.{in_body, close-same, same_without}
use Rattle.lq_meaning_steps.proofs.ModelLemmas.Binding.{or_else, value_in-append, same_behind, pair_of, fits_binds}

-- ---- answers and what follows them

after : (a : Answer) (f g : Value → World → Answer) → ((v : Value) (w : World) → f v w ≡ g v w) → and_then a f ≡ and_then a g
after (comes v w) f g h = h v w
after (fails k p w) f g h = refl
after (runs_out p w) f g h = refl
after (too_deep w) f g h = refl
after (gets_stuck w) f g h = refl

pub then_both : (a b : Answer) (f g : Value → World → Answer) → a ≡ b → ((v : Value) (w : World) → f v w ≡ g v w) → and_then a f ≡ and_then b g
then_both a b f g e h = ap (λ x. and_then x f) e ∙ after b f g h

truth_same : (x : Value) (f g : Bool → World → Answer) (w : World) → ((t : Bool) → f t w ≡ g t w) → on_truth x f w ≡ on_truth x g w
truth_same (v_flag t) f g w h = h t
truth_same (v_whole n) f g w h = refl
truth_same v_unit f g w h = refl
truth_same (v_fun q b) f g w h = refl
truth_same (v_rec k q b) f g w h = refl
truth_same (v_tuple vs) f g w h = refl
truth_same (v_build c vs) f g w h = refl
truth_same (v_array r n) f g w h = refl

choose_same : (t : Bool) (f g other last : World → Answer) (w : World) → f w ≡ g w → other w ≡ last w → choose t f other w ≡ choose t g last w
choose_same true f g other last w h k = h
choose_same false f g other last w h k = k

-- two environments behind a pattern's values
fitting_same : (q : Pattern) (v : Value) (o : Option Pairs) → fits q v ≡ o → (d g : Pairs) (go to : Pairs → World → Answer) (other last : World → Answer) (w : World)
    → ((ps : Pairs) → ArePairsOf (variables_of q) ps → go (ps ++ d) w ≡ to (ps ++ g) w) → other w ≡ last w → fitting o d go other w ≡ fitting o g to last w
fitting_same q v None is d g go to other last w h k = k
fitting_same q v (Some ps) is d g go to other last w h k = h ps (fits_binds q v ps is)

parameter_same : (q : Parameter) (v : Value) (d g : Pairs) (go to : Pairs → World → Answer) (w : World)
    → ((ps : Pairs) → ArePairsOf (bound_in q) ps → go (ps ++ d) w ≡ to (ps ++ g) w) → with_parameter q v d go w ≡ with_parameter q v g to w
parameter_same ignored v d g go to w h = h [] (λ x. refl)
parameter_same empty v d g go to w h = h [] (λ x. refl)
parameter_same (variable x) v d g go to w h = h ((x, v) ∷ []) (pair_of x v)
parameter_same (matched p q) v d g go to w h = fitting_same q v (fits q v) refl d g go to (fails NoCase p) (fails NoCase p) w h refl

-- ---- environments with the same values

pub same_front : (ps d g : Pairs) → SameIn d g → SameIn (ps ++ d) (ps ++ g)
same_front ps d g h k = value_in-append ps d k ∙ ap (or_else (value_in ps k)) (h k) ∙ sym (value_in-append ps g k)

same_more : (x : ℕ) (v : Value) (d g : Pairs) → SameIn d g → SameIn ((x, v) ∷ d) ((x, v) ∷ g)
same_more x v d g h = same_front ((x, v) ∷ []) d g h

function_same : (f : ℕ) (q : Parameter) (b : Core) (d g : Pairs) → SameIn d g
    → v_rec f q (close (without (f ∷ bound_in q) d) b) ≡ v_rec f q (close (without (f ∷ bound_in q) g) b)
function_same f q b d g h = ap (v_rec f q) (close-same b (without (f ∷ bound_in q) d) (without (f ∷ bound_in q) g) (same_without (f ∷ bound_in q) d g h))

-- left out of the one, and put in front of both
same_left_out : (xs : List ℕ) (ps d g : Pairs) → ArePairsOf xs ps → SameIn (without xs d ++ (ps ++ g)) (ps ++ (d ++ g))
same_left_out xs ps d g h k =
    ap (λ l. value_in l k) (sym (append_assoc (without xs d) ps g)) ∙ value_in-append (without xs d ++ ps) g k
    ∙ ap (λ o. or_else o (value_in g k)) (same_behind xs ps d h k) ∙ sym (value_in-append (ps ++ d) g k) ∙ ap (λ l. value_in l k) (append_assoc ps d g)

module _ (called : Value → Value → World → Answer) where
  mutual
    pub eval-same : (e : Core) (d g : Pairs) (w : World) → SameIn d g → eval called e d w ≡ eval called e g w
    eval-same (val v) d g w h = refl
    eval-same (use_of x) d g w h = ap (λ o. looked_up o w) (h x)
    eval-same (fun q b) d g w h = ap (λ c. comes (v_fun q c) w) (close-same b (without (bound_in q) d) (without (bound_in q) g) (same_without (bound_in q) d g h))
    eval-same (row r es) d g w h = all-same es d g w (λ vs u. comes (row_value r vs) u) (λ vs u. comes (row_value r vs) u) h (λ vs u. refl)
    eval-same (let_in q e b) d g w h =
        then_both _ _ _ _ (eval-same e d g w h) (λ v u. parameter_same q v d g (λ env t. eval called b env t) (λ env t. eval called b env t) u (λ ps k. eval-same b (ps ++ d) (ps ++ g) u (same_front ps d g h)))
    eval-same (let_rec f q b e) d g w h =
        let c = v_rec f q (close (without (f ∷ bound_in q) d) b) in
        eval-same e ((f, c) ∷ d) ((f, c) ∷ g) w (same_more f c d g h) ∙ ap (λ u. eval called e ((f, u) ∷ g) w) (function_same f q b d g h)
    eval-same (call f a) d g w h = then_both _ _ _ _ (eval-same f d g w h) (λ c u. then_both _ _ _ _ (eval-same a d g u h) (λ v t. refl))
    eval-same (one o e) d g w h = then_both _ _ _ _ (eval-same e d g w h) (λ v u. refl)
    eval-same (two o a b) d g w h = then_both _ _ _ _ (eval-same a d g w h) (λ x u. then_both _ _ _ _ (eval-same b d g u h) (λ y t. refl))
    eval-same (three o a i e) d g w h =
        then_both _ _ _ _ (eval-same a d g w h) (λ x u. then_both _ _ _ _ (eval-same i d g u h) (λ y t. then_both _ _ _ _ (eval-same e d g t h) (λ z s. refl)))
    eval-same (and_of a b) d g w h =
        then_both _ _ _ _ (eval-same a d g w h) (λ x u. truth_same x _ _ u (λ t. choose_same t (λ r. eval called b d r) (λ r. eval called b g r) (comes (v_flag false)) (comes (v_flag false)) u (eval-same b d g u h) refl))
    eval-same (or_of a b) d g w h =
        then_both _ _ _ _ (eval-same a d g w h) (λ x u. truth_same x _ _ u (λ t. choose_same t (comes (v_flag true)) (comes (v_flag true)) (λ r. eval called b d r) (λ r. eval called b g r) u refl (eval-same b d g u h)))
    eval-same (if_else c a b) d g w h =
        then_both _ _ _ _ (eval-same c d g w h) (λ x u. truth_same x _ _ u (λ t. choose_same t (λ r. eval called a d r) (λ r. eval called a g r) (λ r. eval called b d r) (λ r. eval called b g r) u (eval-same a d g u h) (eval-same b d g u h)))
    eval-same (match_on p e cs) d g w h = then_both _ _ _ _ (eval-same e d g w h) (λ v u. arms-same cs p v d g u h)
    eval-same (seq a b) d g w h = then_both _ _ _ _ (eval-same a d g w h) (λ v u. eval-same b d g u h)
    eval-same (assert_false p) d g w h = refl

    pub all-same : (es : Cores) (d g : Pairs) (w : World) (go to : Values → World → Answer) → SameIn d g → ((vs : Values) (u : World) → go vs u ≡ to vs u) → eval_all called es d w go ≡ eval_all called es g w to
    all-same none d g w go to h k = k _ w
    all-same (more e es) d g w go to h k =
        then_both _ _ _ _ (eval-same e d g w h) (λ v u. all-same es d g u (λ vs t. go (more_values v vs) t) (λ vs t. to (more_values v vs) t) h (λ vs t. k (more_values v vs) t))

    pub arms-same : (cs : Arms) (p : Place) (v : Value) (d g : Pairs) (w : World) → SameIn d g → eval_arms called p cs v d w ≡ eval_arms called p cs v g w
    arms-same no_arms p v d g w h = refl
    arms-same (more_arms q e cs) p v d g w h =
        fitting_same q v (fits q v) refl d g (λ env u. eval called e env u) (λ env u. eval called e env u) (λ u. eval_arms called p cs v d u) (λ u. eval_arms called p cs v g u) w
        (λ ps k. eval-same e (ps ++ d) (ps ++ g) w (same_front ps d g h)) (arms-same cs p v d g w h)

  -- ---- a closing as an environment

  looked_later : (b : Bool) (v : Value) (x : ℕ) (g : Pairs) (w : World) (o r : Option Value) → eval called (replaced x o) g w ≡ looked_up r w
      → eval called (replaced x (if b then Some v else o)) g w ≡ looked_up (if b then Some v else r) w
  looked_later true v x g w o r h = refl
  looked_later false v x g w o r h = h

  looked_closed : (x : ℕ) (d g : Pairs) (w : World) → eval called (replaced x (value_in d x)) g w ≡ looked_up (value_in (d ++ g) x) w
  looked_closed x [] g w = refl
  looked_closed x (p ∷ d) g w = looked_later (p.0 == x) p.1 x g w (value_in d x) (value_in (d ++ g) x) (looked_closed x d g w)

  mutual
    pub eval-close : (e : Core) (d g : Pairs) (w : World) → eval called (close d e) g w ≡ eval called e (d ++ g) w
    eval-close (val v) d g w = refl
    eval-close (use_of x) d g w = looked_closed x d g w
    eval-close (fun q b) d g w = ap (λ c. comes (v_fun q c) w) (in_body (bound_in q) d g b)
    eval-close (row r es) d g w = all-close es d g w (λ vs u. comes (row_value r vs) u) (λ vs u. comes (row_value r vs) u) (λ vs u. refl)
    eval-close (let_in q e b) d g w =
        then_both _ _ _ _ (eval-close e d g w) (λ v u. parameter_same q v g (d ++ g) (λ env t. eval called (close (without (bound_in q) d) b) env t) (λ env t. eval called b env t) u
        (λ ps k. eval-close b (without (bound_in q) d) (ps ++ g) u ∙ eval-same b (without (bound_in q) d ++ (ps ++ g)) (ps ++ (d ++ g)) u (same_left_out (bound_in q) ps d g k)))
    eval-close (let_rec f q b e) d g w =
        let c = v_rec f q (close (without (f ∷ bound_in q) g) (close (without (f ∷ bound_in q) d) b)) in
        eval-close e (without (f ∷ []) d) ((f, c) ∷ g) w ∙ eval-same e (without (f ∷ []) d ++ (f, c) ∷ g) ((f, c) ∷ (d ++ g)) w (same_left_out (f ∷ []) ((f, c) ∷ []) d g (pair_of f c))
        ∙ ap (λ b. eval called e ((f, v_rec f q b) ∷ (d ++ g)) w) (in_body (f ∷ bound_in q) d g b)
    eval-close (call f a) d g w = then_both _ _ _ _ (eval-close f d g w) (λ c u. then_both _ _ _ _ (eval-close a d g u) (λ v t. refl))
    eval-close (one o e) d g w = then_both _ _ _ _ (eval-close e d g w) (λ v u. refl)
    eval-close (two o a b) d g w = then_both _ _ _ _ (eval-close a d g w) (λ x u. then_both _ _ _ _ (eval-close b d g u) (λ y t. refl))
    eval-close (three o a i e) d g w =
        then_both _ _ _ _ (eval-close a d g w) (λ x u. then_both _ _ _ _ (eval-close i d g u) (λ y t. then_both _ _ _ _ (eval-close e d g t) (λ z s. refl)))
    eval-close (and_of a b) d g w =
        then_both _ _ _ _ (eval-close a d g w) (λ x u. truth_same x _ _ u (λ t. choose_same t (λ r. eval called (close d b) g r) (λ r. eval called b (d ++ g) r) (comes (v_flag false)) (comes (v_flag false)) u (eval-close b d g u) refl))
    eval-close (or_of a b) d g w =
        then_both _ _ _ _ (eval-close a d g w) (λ x u. truth_same x _ _ u (λ t. choose_same t (comes (v_flag true)) (comes (v_flag true)) (λ r. eval called (close d b) g r) (λ r. eval called b (d ++ g) r) u refl (eval-close b d g u)))
    eval-close (if_else c a b) d g w =
        then_both _ _ _ _ (eval-close c d g w) (λ x u. truth_same x _ _ u (λ t. choose_same t (λ r. eval called (close d a) g r) (λ r. eval called a (d ++ g) r) (λ r. eval called (close d b) g r) (λ r. eval called b (d ++ g) r) u (eval-close a d g u) (eval-close b d g u)))
    eval-close (match_on p e cs) d g w = then_both _ _ _ _ (eval-close e d g w) (λ v u. arms-close cs p v d g u)
    eval-close (seq a b) d g w = then_both _ _ _ _ (eval-close a d g w) (λ v u. eval-close b d g u)
    eval-close (assert_false p) d g w = refl

    pub all-close : (es : Cores) (d g : Pairs) (w : World) (go to : Values → World → Answer) → ((vs : Values) (u : World) → go vs u ≡ to vs u) → eval_all called (close_all d es) g w go ≡ eval_all called es (d ++ g) w to
    all-close none d g w go to k = k _ w
    all-close (more e es) d g w go to k =
        then_both _ _ _ _ (eval-close e d g w) (λ v u. all-close es d g u (λ vs t. go (more_values v vs) t) (λ vs t. to (more_values v vs) t) (λ vs t. k (more_values v vs) t))

    pub arms-close : (cs : Arms) (p : Place) (v : Value) (d g : Pairs) (w : World) → eval_arms called p (close_arms d cs) v g w ≡ eval_arms called p cs v (d ++ g) w
    arms-close no_arms p v d g w = refl
    arms-close (more_arms q e cs) p v d g w =
        fitting_same q v (fits q v) refl g (d ++ g) (λ env u. eval called (close (without (variables_of q) d) e) env u) (λ env u. eval called e env u) (λ u. eval_arms called p (close_arms d cs) v g u) (λ u. eval_arms called p cs v (d ++ g) u) w
        (λ ps k. eval-close e (without (variables_of q) d) (ps ++ g) w ∙ eval-same e (without (variables_of q) d ++ (ps ++ g)) (ps ++ (d ++ g)) w (same_left_out (variables_of q) ps d g k)) (arms-close cs p v d g w)

pub means_alike : MeansAlike
means_alike n e d g w h = eval-same (call_meaning n) e d g w h

pub means_closed : MeansClosed
means_closed n e d g w = eval-close (call_meaning n) e d g w
