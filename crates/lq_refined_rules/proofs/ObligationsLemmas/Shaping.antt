-- Of a program that is ready both types of each subtyping have one simple type: by recursion over the program.
use Rattle.std.proofs.Common.{ℕ, Bool, true, false, cond, List, [], ◌∷◌, ◌++◌}
use Rattle.std.specs.List.{All}
use Rattle.std.proofs.lemmas.List.Elements.{All-nil, All-cons, All-append}
use Rattle.lq_base_names.specs.declared.place.Place.{Place}
use Rattle.lq_refined_types.specs.Parts.Part.{known}
use Rattle.lq_logic_predicates.specs.Formula.{Formula, falsity, negation}
use Rattle.lq_refined_types.specs.Types.Context.{guard, Context}
use Rattle.lq_refined_types.specs.Types.Refined.{Refined, unit_type, Refineds, argument_of, element_of}
use Rattle.lq_refined_types.specs.Subtyping.Implication.{of_argument, of_assertion, of_divisor, of_flow, of_length, of_index, of_case, Origin}
use Rattle.lq_refined_types.specs.Subtyping.Splitting.{first_of, rest_of}
use Rattle.lq_refined_rules.specs.Checks.Basis.{Basis}
use Rattle.lq_refined_rules.specs.Checks.Listing.{from}
use Rattle.lq_refined_rules.specs.Checks.Match.{is_data_match, matched_constructors, in_arm, missing_context}
use Rattle.lq_refined_rules.specs.Checks.Operation.{in_range, not_zero, not_negative, element_at, type_of, field_types, bind, body_context, body_type, recursive_context, recursive_type, last_context, last_type}
use Rattle.lq_refined_rules.specs.Checks.Pure.{formula_of, type_of_use, pure_type}
use Rattle.lq_refined_rules.specs.Checks.Ready.{Where, SameType, SameTypes, IsReadyOperation, IsReadyBlock, IsReadyCase, IsReadyDefault, IsReadyFirst, IsReadyGiven, IsReady}
use Rattle.lq_refined_rules.specs.Checks.Tree.{Use, Pure, is_arm_of, takes_all, has_default, passes_on, has_template, Operation, pure, fun, if_else, match_on, call, tuple, build, make, fetch, store, divide, remainder, assert, assert_false, read, print, map_empty, map_add, map_find, Block, last, binding, recursive, Arms, no_arms, arm, Program, no_items, define, define_recursive, run_unit, run_any}
use Rattle.lq_refined_rules.specs.Obligations.Obligation.{holds, fits, Obligation, IsShaped}
use Rattle.lq_refined_rules.specs.Obligations.Obligations.{each, demand, subtyping, operands, of_operation, of_block, of_constructor, of_default, of_first, of_recursive, of_given, of_definition, obligations_of}

abbrev Shaped : List Obligation → Type 0
Shaped os = All IsShaped os

none_shaped : Shaped []
none_shaped = All-nil IsShaped

both : (os ps : List Obligation) → Shaped os → Shaped ps → Shaped (os ++ ps)
both os ps a b = All-append IsShaped os ps a b

-- one of two lists of which only the one that is taken is ready
where_shaped : (b : Bool) (X Y : Type 0) (os ps : List Obligation) → (X → Shaped os) → (Y → Shaped ps) → Where b X Y → Shaped (cond b os ps)
where_shaped true X Y os ps f g r = f r
where_shaped false X Y os ps f g r = g r

by_test : (b : Bool) (os ps : List Obligation) → Shaped os → Shaped ps → Shaped (cond b os ps)
by_test true os ps a c = a
by_test false os ps a c = c

each_shaped : (f : ℕ → List Obligation) → ((c : ℕ) → Shaped (f c)) → (cs : List ℕ) → Shaped (each f cs)
each_shaped f h [] = none_shaped
each_shaped f h (c ∷ cs) = both (f c) (each f cs) (h c) (each_shaped f h cs)

module _ (P : Basis) where
  demand_shaped : (Γ : Context) (p : Formula) (o : Origin) → Shaped (demand P Γ p o)
  demand_shaped Γ p o = All-cons IsShaped (record { context = Γ; asked = holds p; origin = o }) [] tt none_shaped

  subtyping_shaped : (Γ : Context) (l r : Refined) (o : Origin) → SameType l r → Shaped (subtyping P Γ l r o)
  subtyping_shaped Γ l r o e = All-cons IsShaped (record { context = Γ; asked = fits l r; origin = o }) [] e none_shaped

  operands_shaped : (Γ : Context) (es : List Pure) (ts : Refineds) (o : Origin) → SameTypes P Γ es ts → Shaped (operands P Γ es ts o)
  operands_shaped Γ [] ts o r = none_shaped
  operands_shaped Γ (e ∷ es) ts o r =
      both (subtyping P Γ (pure_type P Γ e) (first_of ts) o) (operands P Γ es (rest_of ts) o)
      (subtyping_shaped Γ (pure_type P Γ e) (first_of ts) o r.0) (operands_shaped Γ es (rest_of ts) o r.1)

  mutual
    operation_shaped : (Γ : Context) (l : Place) (o : Operation) (t : Refined) → IsReadyOperation P Γ o t → Shaped (of_operation P Γ l o t)
    operation_shaped Γ l (pure e) t r = none_shaped
    operation_shaped Γ l (fun p y b) t r = block_shaped (body_context Γ y t) b (body_type P.setting.scopes y t) r.1
    operation_shaped Γ l (if_else p c a b) t r =
        let yes : Context = guard (known (formula_of c)) ∷ Γ in
        let no : Context = guard (known (negation (formula_of c))) ∷ Γ in
        both (of_block P yes a t) (of_block P no b t) (block_shaped yes a t r.0) (block_shaped no b t r.1)
    operation_shaped Γ l (match_on p u arms) t r =
        let cs = matched_constructors P Γ u in
        let f = λ (c : ℕ). of_constructor P Γ l u (has_default arms) c t arms in
        where_shaped (is_data_match P Γ u) (((c : ℕ) → IsReadyCase P Γ u c t arms) × IsReadyDefault P Γ u arms t)
        (IsReadyFirst P Γ u arms t) (each f cs ++ of_default P Γ u arms t) (of_first P Γ u arms t)
        (λ h. both (each f cs) (of_default P Γ u arms t)
        (each_shaped f (λ c. constructor_shaped Γ l u (has_default arms) c t arms (h.0 c)) cs) (default_shaped Γ u arms t h.1))
        (λ h. first_shaped Γ u arms t h) r
    operation_shaped Γ l (call g a) t r = subtyping_shaped Γ (pure_type P Γ a) (argument_of (pure_type P Γ g)) (from l of_argument) r
    operation_shaped Γ l (tuple es) t r = none_shaped
    operation_shaped Γ l (build p c es) t r = operands_shaped Γ es (field_types P Γ p c es) (from l of_argument) r
    operation_shaped Γ l (make p n e) t r =
        both (demand P Γ (not_negative n) (from l of_length)) (subtyping P Γ (pure_type P Γ e) (P.template p) (from l of_argument))
        (demand_shaped Γ (not_negative n) (from l of_length))
        (subtyping_shaped Γ (pure_type P Γ e) (P.template p) (from l of_argument) r)
    operation_shaped Γ l (fetch u i) t r = demand_shaped Γ (in_range u i) (from l of_index)
    operation_shaped Γ l (store u i e) t r =
        let element = element_of (type_of_use P Γ u) in
        both (demand P Γ (in_range u i) (from l of_index)) (subtyping P Γ (pure_type P Γ e) element (from l of_argument))
        (demand_shaped Γ (in_range u i) (from l of_index)) (subtyping_shaped Γ (pure_type P Γ e) element (from l of_argument) r)
    operation_shaped Γ l (divide x y) t r = demand_shaped Γ (not_zero y) (from l of_divisor)
    operation_shaped Γ l (remainder x y) t r = demand_shaped Γ (not_zero y) (from l of_divisor)
    operation_shaped Γ l (assert e) t r = demand_shaped Γ (formula_of e) (from l of_assertion)
    operation_shaped Γ l (assert_false p) t r = demand_shaped Γ falsity (from l of_assertion)
    operation_shaped Γ l (read e) t r = none_shaped
    operation_shaped Γ l (print e) t r = none_shaped
    operation_shaped Γ l (map_empty p) t r = none_shaped
    operation_shaped Γ l (map_add p k e m) t r =
        let element = element_at P.setting.scopes k (P.template p) in
        let o = from l of_argument in
        both (subtyping P Γ (pure_type P Γ e) element o) (subtyping P Γ (pure_type P Γ m) (P.template p) o)
        (subtyping_shaped Γ (pure_type P Γ e) element o r.0) (subtyping_shaped Γ (pure_type P Γ m) (P.template p) o r.1)
    operation_shaped Γ l (map_find k m) t r = none_shaped

    block_shaped : (Γ : Context) (b : Block) (t : Refined) → IsReadyBlock P Γ b t → Shaped (of_block P Γ b t)
    block_shaped Γ (last l o) t r =
        let flow = subtyping P Γ (type_of P Γ o) t (from l of_flow) in
        both (of_operation P Γ l o t) (cond (passes_on o) [] flow) (operation_shaped Γ l o t r.0)
        (where_shaped (passes_on o) (Unit {0}) (SameType (type_of P Γ o) t) [] flow (λ h. none_shaped)
        (λ h. subtyping_shaped Γ (type_of P Γ o) t (from l of_flow) h) r.1)
    block_shaped Γ (binding x l o b) t r =
        let s = type_of P Γ o in
        both (of_operation P Γ l o s) (of_block P (bind x s Γ) b t) (operation_shaped Γ l o s r.0) (block_shaped (bind x s Γ) b t r.2)
    block_shaped Γ (recursive g p y b c) t r =
        let inner = recursive_context P Γ g p y in
        let rest = bind g (P.template p) Γ in
        both (of_block P inner b (recursive_type P p y)) (of_block P rest c t) (block_shaped inner b (recursive_type P p y) r.0.2)
        (block_shaped rest c t r.1)

    constructor_shaped : (Γ : Context) (l : Place) (u : Use) (d : Bool) (c : ℕ) (t : Refined) (arms : Arms) → IsReadyCase P Γ u c t arms
        → Shaped (of_constructor P Γ l u d c t arms)
    constructor_shaped Γ l u d c t no_arms r =
        let missing = missing_context P Γ u c in
        by_test d [] (demand P missing falsity (from l of_case)) none_shaped (demand_shaped missing falsity (from l of_case))
    constructor_shaped Γ l u d c t (arm q b arms) r =
        let inner = in_arm P Γ u q in
        where_shaped (is_arm_of c q) (_ × IsReadyBlock P inner b t) (IsReadyCase P Γ u c t arms) (of_block P inner b t)
        (of_constructor P Γ l u d c t arms) (λ h. block_shaped inner b t h.1) (λ h. constructor_shaped Γ l u d c t arms h) r

    default_shaped : (Γ : Context) (u : Use) (arms : Arms) (t : Refined) → IsReadyDefault P Γ u arms t → Shaped (of_default P Γ u arms t)
    default_shaped Γ u no_arms t r = none_shaped
    default_shaped Γ u (arm q b arms) t r =
        let inner = in_arm P Γ u q in
        where_shaped (takes_all q) (_ × IsReadyBlock P inner b t) (IsReadyDefault P Γ u arms t) (of_block P inner b t)
        (of_default P Γ u arms t) (λ h. block_shaped inner b t h.1) (λ h. default_shaped Γ u arms t h) r

    first_shaped : (Γ : Context) (u : Use) (arms : Arms) (t : Refined) → IsReadyFirst P Γ u arms t → Shaped (of_first P Γ u arms t)
    first_shaped Γ u no_arms t r = none_shaped
    first_shaped Γ u (arm q b arms) t r = block_shaped (in_arm P Γ u q) b t r.1

  given_shaped : (Γ : Context) (b : Block) → IsReadyGiven P Γ b → Shaped (of_given P Γ b)
  given_shaped Γ (last l o) r = operation_shaped Γ l o (type_of P Γ o) r
  given_shaped Γ (binding x l o b) r =
      let s = type_of P Γ o in
      both (of_operation P Γ l o s) (of_given P (bind x s Γ) b) (operation_shaped Γ l o s r.0) (given_shaped (bind x s Γ) b r.2)
  given_shaped Γ (recursive g p y b c) r =
      let rest = bind g (P.template p) Γ in
      both (of_recursive P Γ g p y b) (of_given P rest c) (block_shaped (recursive_context P Γ g p y) b (recursive_type P p y) r.0.2)
      (given_shaped rest c r.1)

  definition_shaped : (Γ : Context) (l : Place) (k : ℕ) (b : Block)
      → Where (has_template b) (SameType (last_type P Γ b) (P.template k)) (Unit {0}) → Shaped (of_definition P Γ l k b)
  definition_shaped Γ l k b r =
      let flow = subtyping P (last_context P Γ b) (last_type P Γ b) (P.template k) (from l of_flow) in
      where_shaped (has_template b) (SameType (last_type P Γ b) (P.template k)) (Unit {0}) flow []
      (λ h. subtyping_shaped (last_context P Γ b) (last_type P Γ b) (P.template k) (from l of_flow) h) (λ h. none_shaped) r

  pub program_shaped : (Γ : Context) (p : Program) → IsReady P Γ p → Shaped (obligations_of P Γ p)
  program_shaped Γ no_items r = none_shaped
  program_shaped Γ (define x l k b rest) r =
      let Δ = bind x (last_type P Γ b) (last_context P Γ b) in
      both (of_given P Γ b) (of_definition P Γ l k b ++ obligations_of P Δ rest) (given_shaped Γ b r.0)
      (both (of_definition P Γ l k b) (obligations_of P Δ rest) (definition_shaped Γ l k b r.1) (program_shaped Δ rest r.3))
  program_shaped Γ (define_recursive g p y b rest) r =
      let Δ = bind g (P.template p) Γ in
      both (of_recursive P Γ g p y b) (obligations_of P Δ rest)
      (block_shaped (recursive_context P Γ g p y) b (recursive_type P p y) r.0.2) (program_shaped Δ rest r.1)
  program_shaped Γ (run_unit b rest) r =
      both (of_block P Γ b unit_type) (obligations_of P Γ rest) (block_shaped Γ b unit_type r.0) (program_shaped Γ rest r.1)
  program_shaped Γ (run_any b rest) r = both (of_given P Γ b) (obligations_of P Γ rest) (given_shaped Γ b r.0) (program_shaped Γ rest r.1)
