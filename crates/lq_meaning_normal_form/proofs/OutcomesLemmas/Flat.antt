-- Lets that go into the block around them.
use Rattle.std.proofs.Common.{◌≡◌, ℕ, Bool, true, false, ◌==◌, ◌||◌, if◌then◌else◌, List, [], ◌∷◌, ◌++◌, Option, Some, None, is_some, refl, sym, ap, subst, ◌∙◌}
use Rattle.std.specs.List.{list_any}
use Rattle.std.proofs.lemmas.List.Folds.{list_any-append}
use Rattle.lq_text_tree.specs.Tree.{Tree}
use Rattle.lq_meaning_steps.specs.declared.model.fault.FaultKind.TheVariants.{NoCase}
use Rattle.lq_meaning_steps.specs.Model.Core.{Pattern, any, bind, nothing, tuple_of, build_of, Patterns, no_patterns, more_patterns, variables_of, Parameter, ignored, variable, empty, matched, bound_in, Value, v_rec, Values, Pairs, value_in, without, close}
use Rattle.lq_meaning_steps.specs.Model.Operations.{World, fits, fits_all}
use Rattle.lq_meaning_steps.specs.Model.Meaning.{Answer, fails, and_then, fitting, with_parameter, eval}
use Rattle.lq_meaning_steps.specs.Model.FromTree.{parameter_of, core_of}
use Rattle.lq_meaning_steps.specs.Model.Laws.{ArePairsOf}
use Rattle.lq_meaning_normal_form.specs.Outcomes.Alike.{CodeRelation, Alike, alike_unit, alike_tuple, alike_build, AllAlike, none_alike, more_alike, AlikePairs, no_pairs, both_have, one_has, AlikeWorlds, alike_answers}
use Rattle.lq_meaning_normal_form.specs.Outcomes.Flattening.{Let, let_one, let_function, put_in}
use Rattle.lq_meaning_normal_form.specs.Outcomes.Flattened.{also}
use Rattle.lq_meaning_normal_form.proofs.OutcomesLemmas.Alikes.{pairs_append, after}
use Rattle.lq_meaning_normal_form.proofs.OutcomesLemmas.Patterns.{FitBoth, fit_pairs, fit_if, self_is}
use Rattle.lq_meaning_normal_form.proofs.OutcomesLemmas.Calls.{Environments}

-- ---- hidden names

abbrev pub Within : (ℕ → Bool) → (ℕ → Bool) → Type 0
Within h k = (x : ℕ) → h x ≡ true → k x ≡ true

pub or_right : (a b : Bool) → b ≡ true → (a || b) ≡ true
or_right true b h = refl
or_right false b h = h

pub or_left : (a b : Bool) → a ≡ true → (a || b) ≡ true
or_left true b h = refl
or_left false b h = cc

pub or_cases : (a b : Bool) (P : Type 0) → (a || b) ≡ true → (a ≡ true → P) → (b ≡ true → P) → P
or_cases true b P h f g = f refl
or_cases false b P h f g = g h

pub hidden_too : (xs : List ℕ) (h : ℕ → Bool) → Within h (also xs h)
hidden_too xs h x is = or_right (list_any (λ y. y == x) xs) (h x) is

module _ (Code : CodeRelation) where
  pub wider : (h k : ℕ → Bool) (d g : Pairs) → AlikePairs Code h d g → Within h k → AlikePairs Code k d g
  wider h k d g (no_pairs i) le = no_pairs k
  wider h k d g (both_have i x v u ps qs a rel) le = both_have k x v u ps qs a (wider i k ps qs rel le)
  wider h k d g (one_has i x u ps qs is rel) le = one_has k x u ps qs (le x is) (wider i k ps qs rel le)

  -- a pair of a hidden name needn't stand on the left
  pub drop_one : (h k : ℕ → Bool) (l g : Pairs) → AlikePairs Code h l g → (y : ℕ) (v : Value) (d : Pairs) → l ≡ (y, v) ∷ d → Within h k → k y ≡ true → AlikePairs Code k d g
  drop_one h k l g (no_pairs i) y v d e le is = cc
  drop_one h k l g (both_have i x z u ps qs a rel) y v d e le is =
      let same : ps ≡ d = cc in
      let one : ℕ × Value = (x, z) in
      let two : ℕ × Value = (y, v) in
      let p : one ≡ two = cc in
      let n : x ≡ y = ap (λ (q : ℕ × Value). q.0) p in
      one_has k x u d qs (subst (λ m. k m ≡ true) (sym n) is) (subst (λ m. AlikePairs Code k m qs) same (wider i k ps qs rel le))
  drop_one h k l g (one_has i x u ps qs hides rel) y v d e le is = one_has k x u d qs (le x hides) (drop_one i k ps qs rel y v d e le is)

  some_if : (b : Bool) (v : Value) (o : Option Value) → is_some o ≡ true → is_some (if b then Some v else o) ≡ true
  some_if true v o h = refl
  some_if false v o h = h

  pub drop_pairs : (ps : Pairs) (h k : ℕ → Bool) (d g : Pairs) → AlikePairs Code h (ps ++ d) g → Within h k → ((x : ℕ) → is_some (value_in ps x) ≡ true → k x ≡ true) → AlikePairs Code k d g
  drop_pairs [] h k d g rel le is = wider h k d g rel le
  drop_pairs (p ∷ ps) h k d g rel le is =
      let here = is p.0 (ap (λ (b : Bool). is_some (if b then Some p.1 else value_in ps p.0)) (self_is p.0)) in
      let rest : AlikePairs Code k (ps ++ d) g = drop_one h k ((p.0, p.1) ∷ (ps ++ d)) g rel p.0 p.1 (ps ++ d) refl le here in
      drop_pairs ps k k d g rest (λ x e. e) (λ x e. is x (some_if (p.0 == x) p.1 (value_in ps x) e))

  -- ---- the same pattern

  mutual
    pub same_fits : (q : Pattern) (hidden : ℕ → Bool) (v u : Value) → Alike Code v u → FitBoth Code hidden (fits q v) (fits q u)
    same_fits any hidden v u a = no_pairs hidden
    same_fits (bind x) hidden v u a = both_have hidden x v u [] [] a (no_pairs hidden)
    same_fits nothing hidden v u alike_unit = no_pairs hidden
    same_fits nothing hidden v u _ = tt
    same_fits (tuple_of qs) hidden v u (alike_tuple vs us h) = all_same_fit qs hidden vs us h
    same_fits (tuple_of qs) hidden v u _ = tt
    same_fits (build_of c qs) hidden v u (alike_build d vs us h) = fit_if Code hidden (c == d) (fits_all qs vs) (fits_all qs us) (all_same_fit qs hidden vs us h)
    same_fits (build_of c qs) hidden v u _ = tt

    pub all_same_fit : (qs : Patterns) (hidden : ℕ → Bool) (vs us : Values) → AllAlike Code vs us → FitBoth Code hidden (fits_all qs vs) (fits_all qs us)
    all_same_fit no_patterns hidden vs us none_alike = no_pairs hidden
    all_same_fit no_patterns hidden vs us (more_alike v u xs ys h r) = tt
    all_same_fit (more_patterns q qs) hidden vs us none_alike = tt
    all_same_fit (more_patterns q qs) hidden vs us (more_alike v u xs ys h r) =
        fit_pairs Code hidden (fits q v) (fits q u) (fits_all qs xs) (fits_all qs ys) (same_fits q hidden v u h) (all_same_fit qs hidden xs ys r)

  -- under the values of one pattern
  fitting_same : Environments → (q : Pattern) (v : Value) (hidden : ℕ → Bool) (o r : Option Pairs) → fits q v ≡ o → (d g : Pairs) (go to : Pairs → World → Answer) (other last : World → Answer) (w t : World)
      → FitBoth Code hidden o r → AlikePairs Code hidden d g
      → ((ps qs : Pairs) → ArePairsOf (variables_of q) ps → AlikePairs Code hidden (ps ++ d) (qs ++ g) → alike_answers Code (go (ps ++ d) w) (to (qs ++ g) t)) → alike_answers Code (other w) (last t)
      → alike_answers Code (fitting o d go other w) (fitting r g to last t)
  fitting_same laws q v hidden None None is d g go to other last w t h rel k l = l
  fitting_same laws q v hidden (Some ps) (Some qs) is d g go to other last w t h rel k l = k ps qs (laws.binds q v ps is) (pairs_append Code hidden ps qs d g h rel)
  fitting_same laws q v hidden None (Some qs) is d g go to other last w t h rel k l = absurd h
  fitting_same laws q v hidden (Some ps) None is d g go to other last w t h rel k l = absurd h

  pub parameter_both : Environments → (q : Parameter) (v u : Value) (hidden : ℕ → Bool) (d g : Pairs) (go to : Pairs → World → Answer) (w t : World) → Alike Code v u → AlikePairs Code hidden d g → AlikeWorlds Code w t
      → ((ps qs : Pairs) → ArePairsOf (bound_in q) ps → AlikePairs Code hidden (ps ++ d) (qs ++ g) → alike_answers Code (go (ps ++ d) w) (to (qs ++ g) t))
      → alike_answers Code (with_parameter q v d go w) (with_parameter q u g to t)
  parameter_both laws ignored v u hidden d g go to w t a rel world h = h [] [] (λ x. refl) rel
  parameter_both laws empty v u hidden d g go to w t a rel world h = h [] [] (λ x. refl) rel
  parameter_both laws (variable x) v u hidden d g go to w t a rel world h = h ((x, v) ∷ []) ((x, u) ∷ []) (laws.one x v) (both_have hidden x v u d g a rel)
  parameter_both laws (matched p q) v u hidden d g go to w t a rel world h =
      fitting_same laws q v hidden (fits q v) (fits q u) refl d g go to (fails NoCase p) (fails NoCase p) w t (same_fits q hidden v u a) rel h (refl, refl, world)

  pub arm_both : Environments → (q : Pattern) (v u : Value) (hidden : ℕ → Bool) (d g : Pairs) (go to : Pairs → World → Answer) (other last : World → Answer) (w t : World) → Alike Code v u → AlikePairs Code hidden d g
      → ((ps qs : Pairs) → ArePairsOf (variables_of q) ps → AlikePairs Code hidden (ps ++ d) (qs ++ g) → alike_answers Code (go (ps ++ d) w) (to (qs ++ g) t)) → alike_answers Code (other w) (last t)
      → alike_answers Code (fitting (fits q v) d go other w) (fitting (fits q u) g to last t)
  arm_both laws q v u hidden d g go to other last w t a rel h l = fitting_same laws q v hidden (fits q v) (fits q u) refl d g go to other last w t (same_fits q hidden v u a) rel h l

fitting_then : (o : Option Pairs) (d : Pairs) (f : Pairs → World → Answer) (other : World → Answer) (go : Value → World → Answer) (w : World) → and_then (fitting o d f other w) go ≡ fitting o d (λ e s. and_then (f e s) go) (λ s. and_then (other s) go) w
fitting_then None d f other go w = refl
fitting_then (Some ps) d f other go w = refl

pub parameter_then : (q : Parameter) (v : Value) (d : Pairs) (f : Pairs → World → Answer) (go : Value → World → Answer) (w : World) → and_then (with_parameter q v d f w) go ≡ with_parameter q v d (λ e s. and_then (f e s) go) w
parameter_then ignored v d f go w = refl
parameter_then empty v d f go w = refl
parameter_then (variable x) v d f go w = refl
parameter_then (matched p q) v d f go w = fitting_then (fits q v) d f (fails NoCase p) go w

parameter_after : (q : Parameter) (v : Value) (d : Pairs) (f g : Pairs → World → Answer) (w : World) → ((e : Pairs) (s : World) → f e s ≡ g e s) → with_parameter q v d f w ≡ with_parameter q v d g w
parameter_after ignored v d f g w h = h d w
parameter_after empty v d f g w h = h d w
parameter_after (variable x) v d f g w h = h ((x, v) ∷ d) w
parameter_after (matched p q) v d f g w h = by (fits q v)
  where
    by : (o : Option Pairs) → fitting o d f (fails NoCase p) w ≡ fitting o d g (fails NoCase p) w
    by None = refl
    by (Some ps) = h (ps ++ d) w

module _ (called : Value → Value → World → Answer) where
  -- the lets in order, and what follows
  abbrev pub let_all : List Let → Pairs → World → (Pairs → World → Answer) → Answer
  let_all [] env w next = next env w
  let_all (let_one i p q e ∷ ls) env w next = and_then (eval called (core_of e) env w) (λ v u. with_parameter (parameter_of q) v env (λ env1 s. let_all ls env1 s next) u)
  let_all (let_function i p f j m q b ∷ ls) env w next = let_all ls ((f, v_rec f (parameter_of q) (close (without (f ∷ bound_in (parameter_of q)) env) (core_of b))) ∷ env) w next

  pub put_means : (ls : List Let) (t : Tree) (env : Pairs) (w : World) → eval called (core_of (put_in ls t)) env w ≡ let_all ls env w (λ env1 u. eval called (core_of t) env1 u)
  put_means [] t env w = refl
  put_means (let_one i p q e ∷ ls) t env w =
      after (eval called (core_of e) env w) (λ v u. with_parameter (parameter_of q) v env (λ env1 s. eval called (core_of (put_in ls t)) env1 s) u) (λ v u. with_parameter (parameter_of q) v env (λ env1 s. let_all ls env1 s (λ env2 r. eval called (core_of t) env2 r)) u)
      (λ v u. parameter_after (parameter_of q) v env (λ env1 s. eval called (core_of (put_in ls t)) env1 s) (λ env1 s. let_all ls env1 s (λ env2 r. eval called (core_of t) env2 r)) u (λ env1 s. put_means ls t env1 s))
  put_means (let_function i p f j m q b ∷ ls) t env w = put_means ls t ((f, v_rec f (parameter_of q) (close (without (f ∷ bound_in (parameter_of q)) env) (core_of b))) ∷ env) w

  pub let_append : (ls ms : List Let) (env : Pairs) (w : World) (next : Pairs → World → Answer) → let_all (ls ++ ms) env w next ≡ let_all ls env w (λ env1 u. let_all ms env1 u next)
  let_append [] ms env w next = refl
  let_append (let_one i p q e ∷ ls) ms env w next =
      after (eval called (core_of e) env w) (λ v u. with_parameter (parameter_of q) v env (λ env1 s. let_all (ls ++ ms) env1 s next) u) (λ v u. with_parameter (parameter_of q) v env (λ env1 s. let_all ls env1 s (λ env2 r. let_all ms env2 r next)) u)
      (λ v u. parameter_after (parameter_of q) v env (λ env1 s. let_all (ls ++ ms) env1 s next) (λ env1 s. let_all ls env1 s (λ env2 r. let_all ms env2 r next)) u (λ env1 s. let_append ls ms env1 s next))
  let_append (let_function i p f j m q b ∷ ls) ms env w next = let_append ls ms ((f, v_rec f (parameter_of q) (close (without (f ∷ bound_in (parameter_of q)) env) (core_of b))) ∷ env) w next

  pub let_after : (ls : List Let) (env : Pairs) (w : World) (f g : Pairs → World → Answer) → ((e : Pairs) (s : World) → f e s ≡ g e s) → let_all ls env w f ≡ let_all ls env w g
  let_after [] env w f g h = h env w
  let_after (let_one i p q e ∷ ls) env w f g h =
      after (eval called (core_of e) env w) (λ v u. with_parameter (parameter_of q) v env (λ env1 s. let_all ls env1 s f) u) (λ v u. with_parameter (parameter_of q) v env (λ env1 s. let_all ls env1 s g) u)
      (λ v u. parameter_after (parameter_of q) v env (λ env1 s. let_all ls env1 s f) (λ env1 s. let_all ls env1 s g) u (λ env1 s. let_after ls env1 s f g h))
  let_after (let_function i p x j m q b ∷ ls) env w f g h = let_after ls ((x, v_rec x (parameter_of q) (close (without (x ∷ bound_in (parameter_of q)) env) (core_of b))) ∷ env) w f g h
