-- What is demanded of a program in scope speaks of bound names: by recursion over the program.
use Rattle.std.proofs.Common.{◌≡◌, ℕ, Bool, true, false, cond, List, [], ◌∷◌, ◌++◌}
use Rattle.std.specs.List.{All}
use Rattle.std.proofs.lemmas.List.Elements.{All-nil, All-cons, All-append}
use Rattle.lq_base_names.specs.declared.place.Place.{Place}
use Rattle.lq_refined_types.specs.Parts.Part.{known}
use Rattle.lq_logic_predicates.specs.Formula.{Formula, falsity, negation}
use Rattle.lq_sound_values.specs.Inclusion.Symbols.{Symbols, FormulaOn}
use Rattle.lq_refined_types.specs.Types.Context.{guard, Context}
use Rattle.lq_refined_types.specs.Types.Operations.{symbol_of}
use Rattle.lq_refined_types.specs.Types.Refined.{Refined, unit_type, Refineds, argument_of, element_of}
use Rattle.lq_sound_values.specs.Runs.Closed.{names_in}
use Rattle.lq_refined_types.specs.Subtyping.Implication.{of_argument, of_assertion, of_divisor, of_flow, of_length, of_index, of_case, Origin}
use Rattle.lq_refined_types.specs.Subtyping.Splitting.{first_of, rest_of}
use Rattle.lq_refined_templates.specs.Templates.Scopes.{Unknown}
use Rattle.lq_refined_rules.specs.Checks.Basis.{Basis}
use Rattle.lq_refined_rules.specs.Checks.Listing.{from}
use Rattle.lq_refined_rules.specs.Checks.Match.{is_data_match, matched_constructors, in_arm, missing_context}
use Rattle.lq_refined_rules.specs.Checks.Operation.{in_range, not_zero, not_negative, element_at, type_of, field_types, bind, body_context, body_type, recursive_context, recursive_type, last_context, last_type}
use Rattle.lq_refined_rules.specs.Checks.Pure.{formula_of, type_of_use, pure_type}
use Rattle.lq_refined_rules.specs.Checks.Tree.{Use, Pure, names_of, is_arm_of, takes_all, has_default, passes_on, has_template, Operation, pure, fun, if_else, match_on, call, tuple, build, make, fetch, store, divide, remainder, assert, assert_false, read, print, map_empty, map_add, map_find, Block, last, binding, recursive, Arms, no_arms, arm, Program, no_items, define, define_recursive, run_unit, run_any}
use Rattle.lq_refined_rules.specs.Obligations.Obligation.{holds, fits, Obligation}
use Rattle.lq_refined_rules.specs.Obligations.Obligations.{each, demand, subtyping, operands, of_operation, of_block, of_constructor, of_default, of_first, of_recursive, of_given, of_definition, obligations_of}
use Rattle.lq_sound_scope.specs.Scopes.InScope.{OperationInScope, BlockInScope, ArmsInScope, InScope, PureInScope, no_names, with_name, with_names}
use Rattle.lq_sound_adequacy.specs.Demands.Laws.{DemandsAreBound, IsBound}
use Rattle.lq_sound_adequacy.proofs.DemandsLemmas.Names.{Binds, binds_one, formula_bound, in_arm_binds, last_binds, sum_bound}

abbrev Bound : List Obligation → Type 0
Bound os = All IsBound os

none_bound : Bound []
none_bound = All-nil IsBound

both : (os ps : List Obligation) → Bound os → Bound ps → Bound (os ++ ps)
both os ps a b = All-append IsBound os ps a b

by_test : (b : Bool) (os ps : List Obligation) → Bound os → Bound ps → Bound (cond b os ps)
by_test true os ps a c = a
by_test false os ps a c = c

each_bound : (f : ℕ → List Obligation) → ((c : ℕ) → Bound (f c)) → (cs : List ℕ) → Bound (each f cs)
each_bound f h [] = none_bound
each_bound f h (c ∷ cs) = both (f c) (each f cs) (h c) (each_bound f h cs)

module _ (P : Basis) (unknowns : ℕ → Unknown) where
  demand_bound : (Γ : Context) (p : Formula) (o : Origin) → FormulaOn (names_in Γ) p → Bound (demand P Γ p o)
  demand_bound Γ p o h = All-cons IsBound (record { context = Γ; asked = holds p; origin = o }) [] h none_bound

  subtyping_bound : (Γ : Context) (l r : Refined) (o : Origin) → Bound (subtyping P Γ l r o)
  subtyping_bound Γ l r o = All-cons IsBound (record { context = Γ; asked = fits l r; origin = o }) [] tt none_bound

  operands_bound : (Γ : Context) (es : List Pure) (ts : Refineds) (o : Origin) → Bound (operands P Γ es ts o)
  operands_bound Γ [] ts o = none_bound
  operands_bound Γ (e ∷ es) ts o =
      both (subtyping P Γ (pure_type P Γ e) (first_of ts) o) (operands P Γ es (rest_of ts) o)
      (subtyping_bound Γ (pure_type P Γ e) (first_of ts) o) (operands_bound Γ es (rest_of ts) o)

  range_bound : (N : Symbols) (Γ : Context) → Binds N Γ → (u : Use) (i : Pure) → N (symbol_of u.name) ≡ true → PureInScope P unknowns N i
      → FormulaOn (names_in Γ) (in_range u i)
  range_bound N Γ w u i e h =
      ((tt, sum_bound P unknowns N (names_in Γ) w i h), (sum_bound P unknowns N (names_in Γ) w i h, w (symbol_of u.name) e))

  mutual
    operation_bound : (N : Symbols) (Γ : Context) → Binds N Γ → (l : Place) (o : Operation) (t : Refined) → OperationInScope P unknowns N o → Bound (of_operation P Γ l o t)
    operation_bound N Γ w l (pure e) t h = none_bound
    operation_bound N Γ w l (fun p y b) t h =
        block_bound (with_name N y) (body_context Γ y t) (binds_one N Γ y (argument_of t) w) b (body_type P.setting.scopes y t) h.2
    operation_bound N Γ w l (if_else p c a b) t h =
        let yes : Context = guard (known (formula_of c)) ∷ Γ in
        let no : Context = guard (known (negation (formula_of c))) ∷ Γ in
        both (of_block P yes a t) (of_block P no b t) (block_bound N yes w a t h.2) (block_bound N no w b t h.3)
    operation_bound N Γ w l (match_on p u arms) t h =
        let cs = matched_constructors P Γ u in
        let f = λ (c : ℕ). of_constructor P Γ l u (has_default arms) c t arms in
        by_test (is_data_match P Γ u) (each f cs ++ of_default P Γ u arms t) (of_first P Γ u arms t)
        (both (each f cs) (of_default P Γ u arms t) (each_bound f (λ c. constructor_bound N Γ w l u (has_default arms) c t arms h.2) cs) (default_bound N Γ w u arms t h.2))
        (first_bound N Γ w u arms t h.2)
    operation_bound N Γ w l (call g a) t h = subtyping_bound Γ (pure_type P Γ a) (argument_of (pure_type P Γ g)) (from l of_argument)
    operation_bound N Γ w l (tuple es) t h = none_bound
    operation_bound N Γ w l (build p c es) t h = operands_bound Γ es (field_types P Γ p c es) (from l of_argument)
    operation_bound N Γ w l (make p n e) t h =
        both (demand P Γ (not_negative n) (from l of_length)) (subtyping P Γ (pure_type P Γ e) (P.template p) (from l of_argument))
        (demand_bound Γ (not_negative n) (from l of_length) (tt, sum_bound P unknowns N (names_in Γ) w n h.1))
        (subtyping_bound Γ (pure_type P Γ e) (P.template p) (from l of_argument))
    operation_bound N Γ w l (fetch u i) t h = demand_bound Γ (in_range u i) (from l of_index) (range_bound N Γ w u i h.0.0 h.1)
    operation_bound N Γ w l (store u i e) t h =
        let element = element_of (type_of_use P Γ u) in
        both (demand P Γ (in_range u i) (from l of_index)) (subtyping P Γ (pure_type P Γ e) element (from l of_argument))
        (demand_bound Γ (in_range u i) (from l of_index) (range_bound N Γ w u i h.0.0 h.1)) (subtyping_bound Γ (pure_type P Γ e) element (from l of_argument))
    operation_bound N Γ w l (divide x y) t h = demand_bound Γ (not_zero y) (from l of_divisor) (sum_bound P unknowns N (names_in Γ) w y h.1, tt)
    operation_bound N Γ w l (remainder x y) t h = demand_bound Γ (not_zero y) (from l of_divisor) (sum_bound P unknowns N (names_in Γ) w y h.1, tt)
    operation_bound N Γ w l (assert e) t h = demand_bound Γ (formula_of e) (from l of_assertion) (formula_bound P unknowns N (names_in Γ) w e h)
    operation_bound N Γ w l (assert_false p) t h = demand_bound Γ falsity (from l of_assertion) tt
    operation_bound N Γ w l (read e) t h = none_bound
    operation_bound N Γ w l (print e) t h = none_bound
    operation_bound N Γ w l (map_empty p) t h = none_bound
    operation_bound N Γ w l (map_add p k e m) t h =
        let element = element_at P.setting.scopes k (P.template p) in
        let o = from l of_argument in
        both (subtyping P Γ (pure_type P Γ e) element o) (subtyping P Γ (pure_type P Γ m) (P.template p) o)
        (subtyping_bound Γ (pure_type P Γ e) element o) (subtyping_bound Γ (pure_type P Γ m) (P.template p) o)
    operation_bound N Γ w l (map_find k m) t h = none_bound

    block_bound : (N : Symbols) (Γ : Context) → Binds N Γ → (b : Block) (t : Refined) → BlockInScope P unknowns N b → Bound (of_block P Γ b t)
    block_bound N Γ w (last l o) t h =
        let flow = subtyping P Γ (type_of P Γ o) t (from l of_flow) in
        both (of_operation P Γ l o t) (cond (passes_on o) [] flow) (operation_bound N Γ w l o t h)
        (by_test (passes_on o) [] flow none_bound (subtyping_bound Γ (type_of P Γ o) t (from l of_flow)))
    block_bound N Γ w (binding x l o b) t h =
        let s = type_of P Γ o in
        both (of_operation P Γ l o s) (of_block P (bind x s Γ) b t) (operation_bound N Γ w l o s h.0)
        (block_bound (with_name N x) (bind x s Γ) (binds_one N Γ x s w) b t h.1)
    block_bound N Γ w (recursive g p y b c) t h =
        let inner = recursive_context P Γ g p y in
        let rest = bind g (P.template p) Γ in
        let v = binds_one N Γ g (P.template p) w in
        both (of_block P inner b (recursive_type P p y)) (of_block P rest c t)
        (block_bound (with_name (with_name N g) y) inner (binds_one (with_name N g) rest y (argument_of (P.template p)) v) b (recursive_type P p y) h.2)
        (block_bound (with_name N g) rest v c t h.3)

    constructor_bound : (N : Symbols) (Γ : Context) → Binds N Γ → (l : Place) (u : Use) (d : Bool) (c : ℕ) (t : Refined) (arms : Arms) → ArmsInScope P unknowns N arms
        → Bound (of_constructor P Γ l u d c t arms)
    constructor_bound N Γ w l u d c t no_arms h =
        let missing = missing_context P Γ u c in
        by_test d [] (demand P missing falsity (from l of_case)) none_bound (demand_bound missing falsity (from l of_case) tt)
    constructor_bound N Γ w l u d c t (arm q b arms) h =
        let inner = in_arm P Γ u q in
        by_test (is_arm_of c q) (of_block P inner b t) (of_constructor P Γ l u d c t arms)
        (block_bound (with_names N (names_of q)) inner (in_arm_binds P N Γ u q w) b t h.0) (constructor_bound N Γ w l u d c t arms h.1)

    default_bound : (N : Symbols) (Γ : Context) → Binds N Γ → (u : Use) (arms : Arms) (t : Refined) → ArmsInScope P unknowns N arms → Bound (of_default P Γ u arms t)
    default_bound N Γ w u no_arms t h = none_bound
    default_bound N Γ w u (arm q b arms) t h =
        let inner = in_arm P Γ u q in
        by_test (takes_all q) (of_block P inner b t) (of_default P Γ u arms t)
        (block_bound (with_names N (names_of q)) inner (in_arm_binds P N Γ u q w) b t h.0) (default_bound N Γ w u arms t h.1)

    first_bound : (N : Symbols) (Γ : Context) → Binds N Γ → (u : Use) (arms : Arms) (t : Refined) → ArmsInScope P unknowns N arms → Bound (of_first P Γ u arms t)
    first_bound N Γ w u no_arms t h = none_bound
    first_bound N Γ w u (arm q b arms) t h = block_bound (with_names N (names_of q)) (in_arm P Γ u q) (in_arm_binds P N Γ u q w) b t h.0

  given_bound : (N : Symbols) (Γ : Context) → Binds N Γ → (b : Block) → BlockInScope P unknowns N b → Bound (of_given P Γ b)
  given_bound N Γ w (last l o) h = operation_bound N Γ w l o (type_of P Γ o) h
  given_bound N Γ w (binding x l o b) h =
      let s = type_of P Γ o in
      both (of_operation P Γ l o s) (of_given P (bind x s Γ) b) (operation_bound N Γ w l o s h.0)
      (given_bound (with_name N x) (bind x s Γ) (binds_one N Γ x s w) b h.1)
  given_bound N Γ w (recursive g p y b c) h =
      let inner = recursive_context P Γ g p y in
      let rest = bind g (P.template p) Γ in
      let v = binds_one N Γ g (P.template p) w in
      both (of_recursive P Γ g p y b) (of_given P rest c)
      (block_bound (with_name (with_name N g) y) inner (binds_one (with_name N g) rest y (argument_of (P.template p)) v) b (recursive_type P p y) h.2)
      (given_bound (with_name N g) rest v c h.3)

  program_bound : (N : Symbols) (Γ : Context) → Binds N Γ → (program : Program) → InScope P unknowns N program → Bound (obligations_of P Γ program)
  program_bound N Γ w no_items h = none_bound
  program_bound N Γ w (define x l k b rest) h =
      let end = last_context P Γ b in
      let s = last_type P Γ b in
      let later = bind x s end in
      let own = of_definition P Γ l k b in
      both (of_given P Γ b) (own ++ obligations_of P later rest) (given_bound N Γ w b h.0)
      (both own (obligations_of P later rest)
      (by_test (has_template b) (subtyping P end s (P.template k) (from l of_flow)) [] (subtyping_bound end s (P.template k) (from l of_flow)) none_bound)
      (program_bound (with_name N x) later (binds_one N end x s (last_binds P N Γ b w)) rest h.2))
  program_bound N Γ w (define_recursive g p y b rest) h =
      let inner = recursive_context P Γ g p y in
      let later = bind g (P.template p) Γ in
      let v = binds_one N Γ g (P.template p) w in
      both (of_recursive P Γ g p y b) (obligations_of P later rest)
      (block_bound (with_name (with_name N g) y) inner (binds_one (with_name N g) later y (argument_of (P.template p)) v) b (recursive_type P p y) h.2)
      (program_bound (with_name N g) later v rest h.3)
  program_bound N Γ w (run_unit b rest) h =
      both (of_block P Γ b unit_type) (obligations_of P Γ rest) (block_bound N Γ w b unit_type h.0) (program_bound N Γ w rest h.1)
  program_bound N Γ w (run_any b rest) h = both (of_given P Γ b) (obligations_of P Γ rest) (given_bound N Γ w b h.0) (program_bound N Γ w rest h.1)

pub demands_bound : DemandsAreBound
demands_bound P unknowns program h = program_bound P unknowns no_names [] (λ x e. e) program h
