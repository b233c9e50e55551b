-- The implications of a program are valid exactly where it checks.
use Rattle.std.proofs.Common.{ℕ, Bool, true, false, cond, List, [], ◌∷◌, ◌++◌}
use Rattle.lq_base_names.specs.declared.place.Place.{Place}
use Rattle.lq_logic_predicates.specs.Formula.{falsity, negation}
use Rattle.lq_refined_types.specs.Parts.Assignment.{Assignment}
use Rattle.lq_refined_types.specs.Parts.Part.{known}
use Rattle.lq_refined_types.specs.Types.Context.{guard, Context}
use Rattle.lq_refined_types.specs.Types.Refined.{Refined, unit_type, argument_of, element_of}
use Rattle.lq_refined_types.specs.Subtyping.Implication.{of_assertion, of_index, of_divisor, of_length, of_case, of_argument, of_flow, Implication, AllHold}
use Rattle.lq_refined_types.specs.Subtyping.Splitting.{SplitIsSubtype}
use Rattle.lq_refined_rules.specs.Checks.Basis.{Basis}
use Rattle.lq_refined_rules.specs.Checks.Checks.{Obeys, obeys_pure, obeys_fun, obeys_if, obeys_data_match, obeys_other_match, obeys_call, obeys_tuple, obeys_build, obeys_make, obeys_fetch, obeys_store, obeys_divide, obeys_remainder, obeys_assert, obeys_assert_false, obeys_read, obeys_print, obeys_map_empty, obeys_map_add, obeys_map_find, Against, against_last, against_binding, against_recursive, IsRecursive, is_recursive, AreCases, cases_none, cases_more, IsCase, case_here, case_later, case_default, case_missing, IsDefault, default_none, default_here, default_later, IsFirst, first_none, first_arm, Gives, gives_last, gives_binding, gives_recursive, Checks, checks_none, checks_define, checks_recursive, checks_unit, checks_any}
use Rattle.lq_refined_rules.specs.Checks.Listing.{from, each, demand, subtyping, of_operation, of_block, of_recursive, of_constructor, of_default, of_first, of_given, of_definition, implications_of}
use Rattle.lq_refined_rules.specs.Checks.Binders.{AreNewNames}
use Rattle.lq_refined_rules.specs.Checks.Match.{is_data_match, matched_constructors, in_arm, missing_context}
use Rattle.lq_refined_rules.specs.Checks.Operation.{in_range, not_zero, not_negative, element_at, type_of, field_types, bind, body_context, body_type, recursive_context, recursive_type, last_context, last_type}
use Rattle.lq_refined_rules.specs.Checks.Pure.{formula_of, type_of_use, pure_type}
use Rattle.lq_refined_rules.specs.Checks.Ready.{IsReadyOperation, IsReadyBlock, IsReadyRecursive, IsReadyCase, IsReadyDefault, IsReadyFirst, IsReadyGiven, IsReady}
use Rattle.lq_refined_rules.specs.Checks.Tree.{Use, names_of, is_arm_of, takes_all, has_default, passes_on, has_template, Operation, pure, fun, if_else, match_on, call, tuple, build, make, fetch, store, divide, remainder, assert, assert_false, read, print, map_empty, map_add, map_find, Block, last, binding, recursive, Arms, no_arms, arm, Program, no_items, define, define_recursive, run_unit, run_any}
use Rattle.lq_refined_rules.proofs.ChecksLemmas.Listing.{hold_append, hold_first, hold_rest, demand_met, demand_hold, subtyping_met, subtyping_hold, operands_met, operands_hold, met_where, ready_where, unless_met, unless_hold, if_met, if_hold, decide}

module _ (law : SplitIsSubtype) (P : Basis) (A : Assignment) where
  pair_met : (is js : List Implication) → AllHold A is → AllHold A js → AllHold A (is ++ js)
  pair_met is js m n = hold_append A is js m n

  -- where the rules are obeyed, the implications are valid
  mutual
    operation_met : (l : Place) {Γ : Context} {o : Operation} {t : Refined} → Obeys P A Γ o t → IsReadyOperation P Γ o t
        → AllHold A (of_operation P Γ l o t)
    operation_met l obeys_pure r = tt
    operation_met l (obeys_fun n b) r = block_met b r.1
    operation_met l (obeys_if a b) r = pair_met _ _ (block_met a r.0) (block_met b r.1)
    operation_met l (obeys_data_match {Γ = Γ} {u = u} {arms = arms} {t = t} e cs d) r =
        let test = is_data_match P Γ u in
        let q : ((c : ℕ) → IsReadyCase P Γ u c t arms) × IsReadyDefault P Γ u arms t = ready_where law P A test true _
        (IsReadyFirst P Γ u arms t) e r in
        met_where law P A test true _ (of_first P Γ u arms t) e (pair_met _ _ (cases_met l cs q.0) (default_met d q.1))
    operation_met l (obeys_other_match {Γ = Γ} {u = u} {arms = arms} {t = t} e f) r =
        let test = is_data_match P Γ u in
        let q : IsReadyFirst P Γ u arms t = ready_where law P A test false
        (((c : ℕ) → IsReadyCase P Γ u c t arms) × IsReadyDefault P Γ u arms t) _ e r in
        met_where law P A test false
        (each (λ c. of_constructor P Γ l u (has_default arms) c t arms) (matched_constructors P Γ u) ++ of_default P Γ u arms t)
        (of_first P Γ u arms t) e (first_met f q)
    operation_met l (obeys_call {Γ = Γ} {g = g} {a = a} s) r =
        subtyping_met law P A Γ (pure_type P Γ a) (argument_of (pure_type P Γ g)) (from l of_argument) r s
    operation_met l obeys_tuple r = tt
    operation_met l (obeys_build {Γ = Γ} {p = p} {c = c} {es = es} f) r =
        operands_met law P A Γ es (field_types P Γ p c es) (from l of_argument) r f
    operation_met l (obeys_make {Γ = Γ} {p = p} {n = n} {e = e} h s) r =
        hold_append A (demand P Γ (not_negative n) (from l of_length)) _ (demand_met law P A Γ (not_negative n) (from l of_length) h)
        (subtyping_met law P A Γ (pure_type P Γ e) (P.template p) (from l of_argument) r s)
    operation_met l (obeys_fetch {Γ = Γ} {u = u} {i = i} h) r = demand_met law P A Γ (in_range u i) (from l of_index) h
    operation_met l (obeys_store {Γ = Γ} {u = u} {i = i} {e = e} h s) r =
        hold_append A (demand P Γ (in_range u i) (from l of_index)) _ (demand_met law P A Γ (in_range u i) (from l of_index) h)
        (subtyping_met law P A Γ (pure_type P Γ e) (element_of (type_of_use P Γ u)) (from l of_argument) r s)
    operation_met l (obeys_divide {Γ = Γ} {y = y} h) r = demand_met law P A Γ (not_zero y) (from l of_divisor) h
    operation_met l (obeys_remainder {Γ = Γ} {y = y} h) r = demand_met law P A Γ (not_zero y) (from l of_divisor) h
    operation_met l (obeys_assert {Γ = Γ} {e = e} h) r = demand_met law P A Γ (formula_of e) (from l of_assertion) h
    operation_met l (obeys_assert_false {Γ = Γ} h) r = demand_met law P A Γ falsity (from l of_assertion) h
    operation_met l obeys_read r = tt
    operation_met l obeys_print r = tt
    operation_met l obeys_map_empty r = tt
    operation_met l (obeys_map_add {Γ = Γ} {p = p} {k = k} {e = e} {m = m} s h) r =
        hold_append A (subtyping P Γ (pure_type P Γ e) (element_at P.setting.scopes k (P.template p)) (from l of_argument)) _
        (subtyping_met law P A Γ (pure_type P Γ e) (element_at P.setting.scopes k (P.template p)) (from l of_argument) r.0 s)
        (subtyping_met law P A Γ (pure_type P Γ m) (P.template p) (from l of_argument) r.1 h)
    operation_met l obeys_map_find r = tt

    block_met : {Γ : Context} {b : Block} {t : Refined} → Against P A Γ b t → IsReadyBlock P Γ b t → AllHold A (of_block P Γ b t)
    block_met (against_last {Γ = Γ} {l = l} {o = o} {t = t} h s) r =
        pair_met _ _ (operation_met l h r.0) (unless_met law P A (passes_on o) (from l of_flow) Γ (type_of P Γ o) t r.1 s)
    block_met (against_binding {l = l} h n b) r = pair_met _ _ (operation_met l h r.0) (block_met b r.2)
    block_met (against_recursive f c) r = pair_met _ _ (recursive_met f r.0) (block_met c r.1)

    recursive_met : {Γ : Context} {g p y : ℕ} {b : Block} → IsRecursive P A Γ g p y b → IsReadyRecursive P Γ g p y b
        → AllHold A (of_recursive P Γ g p y b)
    recursive_met (is_recursive n k b) r = block_met b r.2

    cases_met : (l : Place) {Γ : Context} {u : Use} {t : Refined} {arms : Arms} {cs : List ℕ} → AreCases P A Γ u arms t cs
        → ((k : ℕ) → IsReadyCase P Γ u k t arms) → AllHold A (each (λ k. of_constructor P Γ l u (has_default arms) k t arms) cs)
    cases_met l cases_none r = tt
    cases_met l (cases_more {c = c} k cs) r = pair_met _ _ (case_met l k (r c)) (cases_met l cs r)

    case_met : (l : Place) {Γ : Context} {u : Use} {d : Bool} {c : ℕ} {t : Refined} {arms : Arms} → IsCase P A Γ u d c t arms
        → IsReadyCase P Γ u c t arms → AllHold A (of_constructor P Γ l u d c t arms)
    case_met l (case_here {Γ = Γ} {u = u} {d = d} {c = c} {t = t} {q = q} {b = b} {arms = arms} e n h) r =
        let both : AreNewNames (names_of q) Γ × IsReadyBlock P (in_arm P Γ u q) b t = ready_where law P A (is_arm_of c q) true _
        (IsReadyCase P Γ u c t arms) e r in
        met_where law P A (is_arm_of c q) true (of_block P (in_arm P Γ u q) b t) (of_constructor P Γ l u d c t arms) e (block_met h both.1)
    case_met l (case_later {Γ = Γ} {u = u} {d = d} {c = c} {t = t} {q = q} {b = b} {arms = arms} e h) r =
        let rest : IsReadyCase P Γ u c t arms = ready_where law P A (is_arm_of c q) false
        (AreNewNames (names_of q) Γ × IsReadyBlock P (in_arm P Γ u q) b t) _ e r in
        met_where law P A (is_arm_of c q) false (of_block P (in_arm P Γ u q) b t) (of_constructor P Γ l u d c t arms) e (case_met l h rest)
    case_met l case_default r = tt
    case_met l (case_missing {Γ = Γ} {u = u} {c = c} h) r =
        demand_met law P A (missing_context P Γ u c) falsity (from l of_case) h

    default_met : {Γ : Context} {u : Use} {t : Refined} {arms : Arms} → IsDefault P A Γ u arms t → IsReadyDefault P Γ u arms t
        → AllHold A (of_default P Γ u arms t)
    default_met default_none r = tt
    default_met (default_here {Γ = Γ} {u = u} {t = t} {q = q} {b = b} {arms = arms} e n h) r =
        let both : AreNewNames (names_of q) Γ × IsReadyBlock P (in_arm P Γ u q) b t = ready_where law P A (takes_all q) true _
        (IsReadyDefault P Γ u arms t) e r in
        met_where law P A (takes_all q) true (of_block P (in_arm P Γ u q) b t) (of_default P Γ u arms t) e (block_met h both.1)
    default_met (default_later {Γ = Γ} {u = u} {t = t} {q = q} {b = b} {arms = arms} e h) r =
        let rest : IsReadyDefault P Γ u arms t = ready_where law P A (takes_all q) false
        (AreNewNames (names_of q) Γ × IsReadyBlock P (in_arm P Γ u q) b t) _ e r in
        met_where law P A (takes_all q) false (of_block P (in_arm P Γ u q) b t) (of_default P Γ u arms t) e (default_met h rest)

    first_met : {Γ : Context} {u : Use} {t : Refined} {arms : Arms} → IsFirst P A Γ u arms t → IsReadyFirst P Γ u arms t
        → AllHold A (of_first P Γ u arms t)
    first_met first_none r = tt
    first_met (first_arm n h) r = block_met h r.1

  given_met : {Γ : Context} {b : Block} → Gives P A Γ b → IsReadyGiven P Γ b → AllHold A (of_given P Γ b)
  given_met (gives_last {l = l} h) r = operation_met l h r
  given_met (gives_binding {l = l} h n b) r = pair_met _ _ (operation_met l h r.0) (given_met b r.2)
  given_met (gives_recursive f c) r = pair_met _ _ (recursive_met f r.0) (given_met c r.1)

  pub program_met : {Γ : Context} {p : Program} → Checks P A Γ p → IsReady P Γ p → AllHold A (implications_of P Γ p)
  program_met checks_none r = tt
  program_met (checks_define {Γ = Γ} {k = k} {l = l} {b = b} h s new c) r =
      pair_met _ _ (given_met h r.0)
      (pair_met _ _ (if_met law P A (has_template b) (from l of_flow) (last_context P Γ b) (last_type P Γ b) (P.template k) r.1 s)
      (program_met c r.3))
  program_met (checks_recursive f c) r = pair_met _ _ (recursive_met f r.0) (program_met c r.1)
  program_met (checks_unit b c) r = pair_met _ _ (block_met b r.0) (program_met c r.1)
  program_met (checks_any b c) r = pair_met _ _ (given_met b r.0) (program_met c r.1)

  cases_from : (f : ℕ → List Implication) (Γ : Context) (u : Use) (arms : Arms) (t : Refined) (cs : List ℕ)
      → ((k : ℕ) → AllHold A (f k) → IsCase P A Γ u (has_default arms) k t arms) → AllHold A (each f cs) → AreCases P A Γ u arms t cs
  cases_from f Γ u arms t [] g m = cases_none
  cases_from f Γ u arms t (c ∷ cs) g m =
      cases_more (g c (hold_first A (f c) (each f cs) m)) (cases_from f Γ u arms t cs g (hold_rest A (f c) (each f cs) m))

  missing_hold : (l : Place) (Γ : Context) (u : Use) (d : Bool) (c : ℕ) (t : Refined) → AllHold A (of_constructor P Γ l u d c t no_arms)
      → IsCase P A Γ u d c t no_arms
  missing_hold l Γ u true c t m = case_default
  missing_hold l Γ u false c t m =
      case_missing (demand_hold law P A (missing_context P Γ u c) falsity (from l of_case) m)

  -- where the implications are valid, the rules are obeyed
  mutual
    operation_hold : (l : Place) (Γ : Context) (o : Operation) (t : Refined) → IsReadyOperation P Γ o t → AllHold A (of_operation P Γ l o t)
        → Obeys P A Γ o t
    operation_hold l Γ (pure e) t r m = obeys_pure
    operation_hold l Γ (fun p y b) t r m = obeys_fun r.0 (block_hold (body_context Γ y t) b (body_type P.setting.scopes y t) r.1 m)
    operation_hold l Γ (if_else p c a b) t r m =
        let left = guard (known (formula_of c)) ∷ Γ in
        let right = guard (known (negation (formula_of c))) ∷ Γ in
        let first = of_block P left a t in
        let rest = of_block P right b t in
        obeys_if (block_hold left a t r.0 (hold_first A first rest m)) (block_hold right b t r.1 (hold_rest A first rest m))
    operation_hold l Γ (match_on p u arms) t r m =
        let f : ℕ → List Implication = λ c. of_constructor P Γ l u (has_default arms) c t arms in
        let cs = matched_constructors P Γ u in
        let D = of_default P Γ u arms t in
        decide law P A (is_data_match P Γ u) (((c : ℕ) → IsReadyCase P Γ u c t arms) × IsReadyDefault P Γ u arms t)
        (IsReadyFirst P Γ u arms t) (Obeys P A Γ (match_on p u arms) t) (each f cs ++ D) (of_first P Γ u arms t) r m
        (λ e q n. obeys_data_match e
        (cases_from f Γ u arms t cs (λ c k. case_hold l Γ u (has_default arms) c t arms (q.0 c) k) (hold_first A (each f cs) D n))
        (default_hold Γ u arms t q.1 (hold_rest A (each f cs) D n))) (λ e q n. obeys_other_match e (first_hold Γ u arms t q n))
    operation_hold l Γ (call g a) t r m =
        obeys_call (subtyping_hold law P A Γ (pure_type P Γ a) (argument_of (pure_type P Γ g)) (from l of_argument) r m)
    operation_hold l Γ (tuple es) t r m = obeys_tuple
    operation_hold l Γ (build p c es) t r m =
        obeys_build (operands_hold law P A Γ es (field_types P Γ p c es) (from l of_argument) r m)
    operation_hold l Γ (make p n e) t r m =
        let first = demand P Γ (not_negative n) (from l of_length) in
        let rest = subtyping P Γ (pure_type P Γ e) (P.template p) (from l of_argument) in
        obeys_make (demand_hold law P A Γ (not_negative n) (from l of_length) (hold_first A first rest m))
        (subtyping_hold law P A Γ (pure_type P Γ e) (P.template p) (from l of_argument) r (hold_rest A first rest m))
    operation_hold l Γ (fetch u i) t r m = obeys_fetch (demand_hold law P A Γ (in_range u i) (from l of_index) m)
    operation_hold l Γ (store u i e) t r m =
        let first = demand P Γ (in_range u i) (from l of_index) in
        let rest = subtyping P Γ (pure_type P Γ e) (element_of (type_of_use P Γ u)) (from l of_argument) in
        obeys_store (demand_hold law P A Γ (in_range u i) (from l of_index) (hold_first A first rest m))
        (subtyping_hold law P A Γ (pure_type P Γ e) (element_of (type_of_use P Γ u)) (from l of_argument) r (hold_rest A first rest m))
    operation_hold l Γ (divide x y) t r m = obeys_divide (demand_hold law P A Γ (not_zero y) (from l of_divisor) m)
    operation_hold l Γ (remainder x y) t r m = obeys_remainder (demand_hold law P A Γ (not_zero y) (from l of_divisor) m)
    operation_hold l Γ (assert e) t r m = obeys_assert (demand_hold law P A Γ (formula_of e) (from l of_assertion) m)
    operation_hold l Γ (assert_false p) t r m = obeys_assert_false (demand_hold law P A Γ falsity (from l of_assertion) m)
    operation_hold l Γ (read e) t r m = obeys_read
    operation_hold l Γ (print e) t r m = obeys_print
    operation_hold l Γ (map_empty p) t r m = obeys_map_empty
    operation_hold l Γ (map_add p k e n) t r m =
        let E = element_at P.setting.scopes k (P.template p) in
        let first = subtyping P Γ (pure_type P Γ e) E (from l of_argument) in
        let rest = subtyping P Γ (pure_type P Γ n) (P.template p) (from l of_argument) in
        obeys_map_add (subtyping_hold law P A Γ (pure_type P Γ e) E (from l of_argument) r.0 (hold_first A first rest m))
        (subtyping_hold law P A Γ (pure_type P Γ n) (P.template p) (from l of_argument) r.1 (hold_rest A first rest m))
    operation_hold l Γ (map_find k n) t r m = obeys_map_find

    block_hold : (Γ : Context) (b : Block) (t : Refined) → IsReadyBlock P Γ b t → AllHold A (of_block P Γ b t) → Against P A Γ b t
    block_hold Γ (last l o) t r m =
        let first = of_operation P Γ l o t in
        let rest = cond (passes_on o) [] (subtyping P Γ (type_of P Γ o) t (from l of_flow)) in
        against_last (operation_hold l Γ o t r.0 (hold_first A first rest m))
        (unless_hold law P A (passes_on o) (from l of_flow) Γ (type_of P Γ o) t r.1 (hold_rest A first rest m))
    block_hold Γ (binding x l o b) t r m =
        let first = of_operation P Γ l o (type_of P Γ o) in
        let Δ = bind x (type_of P Γ o) Γ in
        let rest = of_block P Δ b t in
        against_binding (operation_hold l Γ o (type_of P Γ o) r.0 (hold_first A first rest m)) r.1
        (block_hold Δ b t r.2 (hold_rest A first rest m))
    block_hold Γ (recursive g p y b c) t r m =
        let first = of_recursive P Γ g p y b in
        let Δ = bind g (P.template p) Γ in
        let rest = of_block P Δ c t in
        let body = block_hold (recursive_context P Γ g p y) b (recursive_type P p y) r.0.2 (hold_first A first rest m) in
        against_recursive (is_recursive r.0.0 r.0.1 body) (block_hold Δ c t r.1 (hold_rest A first rest m))

    case_hold : (l : Place) (Γ : Context) (u : Use) (d : Bool) (c : ℕ) (t : Refined) (arms : Arms) → IsReadyCase P Γ u c t arms
        → AllHold A (of_constructor P Γ l u d c t arms) → IsCase P A Γ u d c t arms
    case_hold l Γ u d c t no_arms r m = missing_hold l Γ u d c t m
    case_hold l Γ u d c t (arm q b arms) r m =
        let Δ = in_arm P Γ u q in
        decide law P A (is_arm_of c q) (AreNewNames (names_of q) Γ × IsReadyBlock P Δ b t) (IsReadyCase P Γ u c t arms)
        (IsCase P A Γ u d c t (arm q b arms)) (of_block P Δ b t) (of_constructor P Γ l u d c t arms) r m
        (λ e s n. case_here e s.0 (block_hold Δ b t s.1 n)) (λ e s n. case_later e (case_hold l Γ u d c t arms s n))

    default_hold : (Γ : Context) (u : Use) (arms : Arms) (t : Refined) → IsReadyDefault P Γ u arms t → AllHold A (of_default P Γ u arms t)
        → IsDefault P A Γ u arms t
    default_hold Γ u no_arms t r m = default_none
    default_hold Γ u (arm q b arms) t r m =
        let Δ = in_arm P Γ u q in
        decide law P A (takes_all q) (AreNewNames (names_of q) Γ × IsReadyBlock P Δ b t) (IsReadyDefault P Γ u arms t)
        (IsDefault P A Γ u (arm q b arms) t) (of_block P Δ b t) (of_default P Γ u arms t) r m
        (λ e s n. default_here e s.0 (block_hold Δ b t s.1 n)) (λ e s n. default_later e (default_hold Γ u arms t s n))

    first_hold : (Γ : Context) (u : Use) (arms : Arms) (t : Refined) → IsReadyFirst P Γ u arms t → AllHold A (of_first P Γ u arms t)
        → IsFirst P A Γ u arms t
    first_hold Γ u no_arms t r m = first_none
    first_hold Γ u (arm q b arms) t r m = first_arm r.0 (block_hold (in_arm P Γ u q) b t r.1 m)

  recursive_hold : (Γ : Context) (g p y : ℕ) (b : Block) → IsReadyRecursive P Γ g p y b → AllHold A (of_recursive P Γ g p y b)
      → IsRecursive P A Γ g p y b
  recursive_hold Γ g p y b r m =
      is_recursive r.0 r.1 (block_hold (recursive_context P Γ g p y) b (recursive_type P p y) r.2 m)

  given_hold : (Γ : Context) (b : Block) → IsReadyGiven P Γ b → AllHold A (of_given P Γ b) → Gives P A Γ b
  given_hold Γ (last l o) r m = gives_last (operation_hold l Γ o (type_of P Γ o) r m)
  given_hold Γ (binding x l o b) r m =
      let first = of_operation P Γ l o (type_of P Γ o) in
      let Δ = bind x (type_of P Γ o) Γ in
      let rest = of_given P Δ b in
      gives_binding (operation_hold l Γ o (type_of P Γ o) r.0 (hold_first A first rest m)) r.1
      (given_hold Δ b r.2 (hold_rest A first rest m))
  given_hold Γ (recursive g p y b c) r m =
      let first = of_recursive P Γ g p y b in
      let Δ = bind g (P.template p) Γ in
      let rest = of_given P Δ c in
      gives_recursive (recursive_hold Γ g p y b r.0 (hold_first A first rest m)) (given_hold Δ c r.1 (hold_rest A first rest m))

  pub program_hold : (Γ : Context) (p : Program) → IsReady P Γ p → AllHold A (implications_of P Γ p) → Checks P A Γ p
  program_hold Γ no_items r m = checks_none
  program_hold Γ (define x l k b p) r m =
      let E = last_context P Γ b in
      let S = last_type P Γ b in
      let first = of_given P Γ b in
      let second = of_definition P Γ l k b in
      let third = implications_of P (bind x S E) p in
      let rest = hold_rest A first (second ++ third) m in
      checks_define (given_hold Γ b r.0 (hold_first A first (second ++ third) m))
      (if_hold law P A (has_template b) (from l of_flow) E S (P.template k) r.1 (hold_first A second third rest)) r.2
      (program_hold (bind x S E) p r.3 (hold_rest A second third rest))
  program_hold Γ (define_recursive g q y b p) r m =
      let first = of_recursive P Γ g q y b in
      let Δ = bind g (P.template q) Γ in
      let rest = implications_of P Δ p in
      checks_recursive (recursive_hold Γ g q y b r.0 (hold_first A first rest m)) (program_hold Δ p r.1 (hold_rest A first rest m))
  program_hold Γ (run_unit b p) r m =
      let first = of_block P Γ b unit_type in
      let rest = implications_of P Γ p in
      checks_unit (block_hold Γ b unit_type r.0 (hold_first A first rest m)) (program_hold Γ p r.1 (hold_rest A first rest m))
  program_hold Γ (run_any b p) r m =
      let first = of_given P Γ b in
      let rest = implications_of P Γ p in
      checks_any (given_hold Γ b r.0 (hold_first A first rest m)) (program_hold Γ p r.1 (hold_rest A first rest m))
