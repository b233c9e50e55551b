-- The implications of a program are those of its obligations: by recursion over the program.
use Rattle.std.proofs.Common.{◌≡◌, ℕ, Bool, true, false, cond, List, [], ◌∷◌, ◌++◌, refl, ap, ◌∙◌, append_assoc}
use Rattle.lq_base_names.specs.declared.place.Place.{Place}
use Rattle.lq_refined_types.specs.Parts.Part.{known}
use Rattle.lq_logic_predicates.specs.Formula.{Formula, falsity, negation}
use Rattle.lq_refined_types.specs.Types.Context.{guard, Context}
use Rattle.lq_refined_types.specs.Types.Refined.{Refined, unit_type, Refineds, argument_of, element_of}
use Rattle.lq_refined_types.specs.Subtyping.Implication.{of_argument, of_flow, of_length, of_index, of_case, Origin, Implication}
use Rattle.lq_refined_types.specs.Subtyping.Splitting.{first_of, rest_of, split}
use Rattle.lq_refined_rules.specs.Checks.Basis.{Basis}
use Rattle.lq_refined_rules.specs.Checks.Listing as list
use Rattle.lq_refined_rules.specs.Checks.Listing.{from}
use Rattle.lq_refined_rules.specs.Checks.Match.{is_data_match, matched_constructors, in_arm, missing_context}
use Rattle.lq_refined_rules.specs.Checks.Operation.{in_range, not_negative, element_at, type_of, field_types, bind, body_context, body_type, recursive_context, recursive_type, last_context, last_type}
use Rattle.lq_refined_rules.specs.Checks.Pure.{formula_of, type_of_use, pure_type}
use Rattle.lq_refined_rules.specs.Checks.Tree.{Use, Pure, is_arm_of, takes_all, has_default, passes_on, has_template, Operation, pure, fun, if_else, match_on, call, tuple, build, make, fetch, store, divide, remainder, assert, assert_false, read, print, map_empty, map_add, map_find, Block, last, binding, recursive, Arms, no_arms, arm, Program, no_items, define, define_recursive, run_unit, run_any}
use Rattle.lq_refined_rules.specs.Obligations.Obligation.{Obligation, implications_in, all_implications}
use Rattle.lq_refined_rules.specs.Obligations.Obligations.{each, demand, subtyping, operands, of_operation, of_block, of_constructor, of_default, of_first, of_recursive, of_given, of_definition, obligations_of}

nil_right : (is : List Implication) → is ≡ is ++ []
nil_right [] = refl
nil_right (i ∷ is) = ap (λ l. i ∷ l) (nil_right is)

append_same : (P : Basis) (os ps : List Obligation) → all_implications P os ++ all_implications P ps ≡ all_implications P (os ++ ps)
append_same P [] ps = refl
append_same P (o ∷ os) ps =
    append_assoc (implications_in P o) (all_implications P os) (all_implications P ps) ∙ ap (λ l. implications_in P o ++ l) (append_same P os ps)

module _ (P : Basis) where
  -- a list of implications is that of a list of obligations
  abbrev Same : List Implication → List Obligation → Type 0
  Same is os = is ≡ all_implications P os

  both : (is js : List Implication) (os ps : List Obligation) → Same is os → Same js ps → Same (is ++ js) (os ++ ps)
  both is js os ps a b = ap (λ l. l ++ js) a ∙ ap (λ l. all_implications P os ++ l) b ∙ append_same P os ps

  by_test : (b : Bool) (is js : List Implication) (os ps : List Obligation) → Same is os → Same js ps → Same (cond b is js) (cond b os ps)
  by_test true is js os ps a c = a
  by_test false is js os ps a c = c

  each_same : (f : ℕ → List Implication) (g : ℕ → List Obligation) → ((c : ℕ) → Same (f c) (g c)) → (cs : List ℕ)
      → Same (list.each f cs) (each g cs)
  each_same f g h [] = refl
  each_same f g h (c ∷ cs) = both (f c) (list.each f cs) (g c) (each g cs) (h c) (each_same f g h cs)

  subtyping_same : (Γ : Context) (l r : Refined) (o : Origin) → Same (list.subtyping P Γ l r o) (subtyping P Γ l r o)
  subtyping_same Γ l r o = nil_right (split P.setting o Γ l r)

  operands_same : (Γ : Context) (es : List Pure) (ts : Refineds) (o : Origin) → Same (list.operands P Γ es ts o) (operands P Γ es ts o)
  operands_same Γ [] ts o = refl
  operands_same Γ (e ∷ es) ts o =
      ap (λ l. split P.setting o Γ (pure_type P Γ e) (first_of ts) ++ l) (operands_same Γ es (rest_of ts) o)

  demand_and : (Γ : Context) (p : Formula) (o : Origin) (is : List Implication) (os : List Obligation) → Same is os
      → Same (list.demand P Γ p o ++ is) (demand P Γ p o ++ os)
  demand_and Γ p o is os a = ap (λ l. list.demand P Γ p o ++ l) a

  mutual
    operation_same : (Γ : Context) (l : Place) (o : Operation) (t : Refined) → Same (list.of_operation P Γ l o t) (of_operation P Γ l o t)
    operation_same Γ l (pure e) t = refl
    operation_same Γ l (fun p y b) t = block_same (body_context Γ y t) b (body_type P.setting.scopes y t)
    operation_same Γ l (if_else p c a b) t =
        let yes : Context = guard (known (formula_of c)) ∷ Γ in
        let no : Context = guard (known (negation (formula_of c))) ∷ Γ in
        both (list.of_block P yes a t) (list.of_block P no b t) (of_block P yes a t) (of_block P no b t)
        (block_same yes a t) (block_same no b t)
    operation_same Γ l (match_on p u arms) t =
        let cs = matched_constructors P Γ u in
        let f = λ (c : ℕ). list.of_constructor P Γ l u (has_default arms) c t arms in
        let g = λ (c : ℕ). of_constructor P Γ l u (has_default arms) c t arms in
        by_test (is_data_match P Γ u) (list.each f cs ++ list.of_default P Γ u arms t) (list.of_first P Γ u arms t)
        (each g cs ++ of_default P Γ u arms t) (of_first P Γ u arms t)
        (both (list.each f cs) (list.of_default P Γ u arms t) (each g cs) (of_default P Γ u arms t)
        (each_same f g (λ c. constructor_same Γ l u (has_default arms) c t arms) cs) (default_same Γ u arms t))
        (first_same Γ u arms t)
    operation_same Γ l (call g a) t = subtyping_same Γ (pure_type P Γ a) (argument_of (pure_type P Γ g)) (from l of_argument)
    operation_same Γ l (tuple es) t = refl
    operation_same Γ l (build p c es) t = operands_same Γ es (field_types P Γ p c es) (from l of_argument)
    operation_same Γ l (make p n e) t =
        demand_and Γ (not_negative n) (from l of_length) (list.subtyping P Γ (pure_type P Γ e) (P.template p) (from l of_argument))
        (subtyping P Γ (pure_type P Γ e) (P.template p) (from l of_argument))
        (subtyping_same Γ (pure_type P Γ e) (P.template p) (from l of_argument))
    operation_same Γ l (fetch u i) t = refl
    operation_same Γ l (store u i e) t =
        let element = element_of (type_of_use P Γ u) in
        demand_and Γ (in_range u i) (from l of_index) (list.subtyping P Γ (pure_type P Γ e) element (from l of_argument))
        (subtyping P Γ (pure_type P Γ e) element (from l of_argument)) (subtyping_same Γ (pure_type P Γ e) element (from l of_argument))
    operation_same Γ l (divide x y) t = refl
    operation_same Γ l (remainder x y) t = refl
    operation_same Γ l (assert e) t = refl
    operation_same Γ l (assert_false p) t = refl
    operation_same Γ l (read e) t = refl
    operation_same Γ l (print e) t = refl
    operation_same Γ l (map_empty p) t = refl
    operation_same Γ l (map_add p k e m) t =
        let element = element_at P.setting.scopes k (P.template p) in
        let o = from l of_argument in
        both (list.subtyping P Γ (pure_type P Γ e) element o) (list.subtyping P Γ (pure_type P Γ m) (P.template p) o)
        (subtyping P Γ (pure_type P Γ e) element o) (subtyping P Γ (pure_type P Γ m) (P.template p) o)
        (subtyping_same Γ (pure_type P Γ e) element o) (subtyping_same Γ (pure_type P Γ m) (P.template p) o)
    operation_same Γ l (map_find k m) t = refl

    block_same : (Γ : Context) (b : Block) (t : Refined) → Same (list.of_block P Γ b t) (of_block P Γ b t)
    block_same Γ (last l o) t =
        let flow = from l of_flow in
        both (list.of_operation P Γ l o t) (cond (passes_on o) [] (list.subtyping P Γ (type_of P Γ o) t flow))
        (of_operation P Γ l o t) (cond (passes_on o) [] (subtyping P Γ (type_of P Γ o) t flow)) (operation_same Γ l o t)
        (by_test (passes_on o) [] (list.subtyping P Γ (type_of P Γ o) t flow) [] (subtyping P Γ (type_of P Γ o) t flow) refl
        (subtyping_same Γ (type_of P Γ o) t flow))
    block_same Γ (binding x l o b) t =
        let s = type_of P Γ o in
        both (list.of_operation P Γ l o s) (list.of_block P (bind x s Γ) b t) (of_operation P Γ l o s) (of_block P (bind x s Γ) b t)
        (operation_same Γ l o s) (block_same (bind x s Γ) b t)
    block_same Γ (recursive g p y b c) t =
        let inner = recursive_context P Γ g p y in
        let rest = bind g (P.template p) Γ in
        both (list.of_block P inner b (recursive_type P p y)) (list.of_block P rest c t) (of_block P inner b (recursive_type P p y))
        (of_block P rest c t) (block_same inner b (recursive_type P p y)) (block_same rest c t)

    constructor_same : (Γ : Context) (l : Place) (u : Use) (d : Bool) (c : ℕ) (t : Refined) (arms : Arms)
        → Same (list.of_constructor P Γ l u d c t arms) (of_constructor P Γ l u d c t arms)
    constructor_same Γ l u d c t no_arms =
        let missing = missing_context P Γ u c in
        by_test d [] (list.demand P missing falsity (from l of_case)) [] (demand P missing falsity (from l of_case)) refl refl
    constructor_same Γ l u d c t (arm q b arms) =
        let inner = in_arm P Γ u q in
        by_test (is_arm_of c q) (list.of_block P inner b t) (list.of_constructor P Γ l u d c t arms) (of_block P inner b t)
        (of_constructor P Γ l u d c t arms) (block_same inner b t) (constructor_same Γ l u d c t arms)

    default_same : (Γ : Context) (u : Use) (arms : Arms) (t : Refined) → Same (list.of_default P Γ u arms t) (of_default P Γ u arms t)
    default_same Γ u no_arms t = refl
    default_same Γ u (arm q b arms) t =
        let inner = in_arm P Γ u q in
        by_test (takes_all q) (list.of_block P inner b t) (list.of_default P Γ u arms t) (of_block P inner b t) (of_default P Γ u arms t)
        (block_same inner b t) (default_same Γ u arms t)

    first_same : (Γ : Context) (u : Use) (arms : Arms) (t : Refined) → Same (list.of_first P Γ u arms t) (of_first P Γ u arms t)
    first_same Γ u no_arms t = refl
    first_same Γ u (arm q b arms) t = block_same (in_arm P Γ u q) b t

  given_same : (Γ : Context) (b : Block) → Same (list.of_given P Γ b) (of_given P Γ b)
  given_same Γ (last l o) = operation_same Γ l o (type_of P Γ o)
  given_same Γ (binding x l o b) =
      let s = type_of P Γ o in
      both (list.of_operation P Γ l o s) (list.of_given P (bind x s Γ) b) (of_operation P Γ l o s) (of_given P (bind x s Γ) b)
      (operation_same Γ l o s) (given_same (bind x s Γ) b)
  given_same Γ (recursive g p y b c) =
      let rest = bind g (P.template p) Γ in
      both (list.of_recursive P Γ g p y b) (list.of_given P rest c) (of_recursive P Γ g p y b) (of_given P rest c)
      (block_same (recursive_context P Γ g p y) b (recursive_type P p y)) (given_same rest c)

  definition_same : (Γ : Context) (l : Place) (k : ℕ) (b : Block) → Same (list.of_definition P Γ l k b) (of_definition P Γ l k b)
  definition_same Γ l k b =
      let Δ = last_context P Γ b in
      let t = last_type P Γ b in
      by_test (has_template b) (list.subtyping P Δ t (P.template k) (from l of_flow)) [] (subtyping P Δ t (P.template k) (from l of_flow)) []
      (subtyping_same Δ t (P.template k) (from l of_flow)) refl

  pub program_same : (Γ : Context) (p : Program) → Same (list.implications_of P Γ p) (obligations_of P Γ p)
  program_same Γ no_items = refl
  program_same Γ (define x l k b rest) =
      let Δ = bind x (last_type P Γ b) (last_context P Γ b) in
      both (list.of_given P Γ b) (list.of_definition P Γ l k b ++ list.implications_of P Δ rest) (of_given P Γ b)
      (of_definition P Γ l k b ++ obligations_of P Δ rest) (given_same Γ b)
      (both (list.of_definition P Γ l k b) (list.implications_of P Δ rest) (of_definition P Γ l k b) (obligations_of P Δ rest)
      (definition_same Γ l k b) (program_same Δ rest))
  program_same Γ (define_recursive g p y b rest) =
      let Δ = bind g (P.template p) Γ in
      both (list.of_recursive P Γ g p y b) (list.implications_of P Δ rest) (of_recursive P Γ g p y b) (obligations_of P Δ rest)
      (block_same (recursive_context P Γ g p y) b (recursive_type P p y)) (program_same Δ rest)
  program_same Γ (run_unit b rest) =
      both (list.of_block P Γ b unit_type) (list.implications_of P Γ rest) (of_block P Γ b unit_type) (obligations_of P Γ rest)
      (block_same Γ b unit_type) (program_same Γ rest)
  program_same Γ (run_any b rest) =
      both (list.of_given P Γ b) (list.implications_of P Γ rest) (of_given P Γ b) (obligations_of P Γ rest) (given_same Γ b)
      (program_same Γ rest)
