-- The names of the environments of obligations differ: by recursion over the program.
use Rattle.std.proofs.Common.{ℕ, suc, ◌<◌, ◌^◌, Bool, true, false, cond, List, [], ◌∷◌, ◌++◌}
use Rattle.std.specs.List.{All}
use Rattle.std.proofs.lemmas.List.Elements.{All-nil, All-cons, All-append}
use Rattle.lq_base_names.specs.declared.place.Place.{Place}
use Rattle.lq_refined_types.specs.Parts.Part.{known, Parts}
use Rattle.lq_refined_types.specs.Parts.Substitution.{Subst}
use Rattle.lq_logic_predicates.specs.Formula.{Formula, falsity, negation}
use Rattle.lq_refined_types.specs.Types.Context.{guard, Context}
use Rattle.lq_refined_types.specs.Types.Refined.{Refined, Refineds, unit_type, argument_of, components_of, element_of, top, with_top}
use Rattle.lq_refined_types.specs.Parts.Part.{Scopes, parts_by}
use Rattle.lq_refined_types.specs.Subtyping.Implication.{of_argument, of_assertion, of_case, of_divisor, of_flow, of_length, of_index, Origin}
use Rattle.lq_refined_types.specs.Subtyping.Splitting.{first_of, rest_of}
use Rattle.lq_refined_types.specs.Subtyping.Subtype.{with_guards}
use Rattle.lq_refined_rules.specs.Checks.Basis.{Basis}
use Rattle.lq_refined_rules.specs.Checks.Binders.{AreNewNames, IsNewName, arms_binders, operation_binders, block_binders, binders}
use Rattle.lq_refined_rules.specs.Checks.Listing.{from}
use Rattle.lq_refined_rules.specs.Checks.Match.{bind_all, bind_components, fields_by, in_arm, is_data_match, matched_constructors, missing_context, name_for, names_for, value_as}
use Rattle.lq_refined_rules.specs.Checks.Operation.{bind, body_context, body_type, element_at, equations_by, field_types, in_range, last_context, last_type, not_negative, not_zero, recursive_context, recursive_type, type_of}
use Rattle.lq_refined_rules.specs.Checks.Pure.{formula_of, pure_type, type_of_use}
use Rattle.lq_refined_rules.specs.Checks.Ready.{IsReady, IsReadyBlock, IsReadyCase, IsReadyDefault, IsReadyFirst, IsReadyGiven, IsReadyOperation, Where}
use Rattle.lq_refined_rules.specs.Checks.Tree.{Use, Pure, names_of, is_arm_of, takes_all, has_default, has_template, passes_on, Pattern, pattern_any, pattern_name, pattern_unit, pattern_tuple, pattern_build, Operation, pure, fun, if_else, match_on, call, tuple, build, make, fetch, store, divide, remainder, assert, assert_false, read, print, map_empty, map_add, map_find, Block, last, binding, recursive, Arms, no_arms, arm, Program, no_items, define, define_recursive, run_unit, run_any}
use Rattle.lq_refined_rules.specs.Obligations.Obligation as asks
use Rattle.lq_refined_rules.specs.Obligations.Obligation.{Obligation}
use Rattle.lq_refined_rules.specs.Obligations.Obligations.{each, demand, subtyping, operands, of_operation, of_block, of_constructor, of_default, of_definition, of_first, of_given, of_recursive, obligations_of}
use Rattle.lq_sound_scope.specs.Scalars.Scalar.{HaveTwins}
use Rattle.lq_sound_scope.proofs.ScalarsLemmas.Components.{new_names}
use Rattle.lq_sound_scope.proofs.ScalarsLemmas.Forms.{twins_back, twins_front}
use Rattle.lq_sound_adequacy.specs.Subtypings.Bound.{NamesDiffer}
use Rattle.lq_sound_adequacy.specs.Subtypings.Laws.{EnvironmentsDiffer}

-- ---- environments

one_differs : (Γ : Context) (x : ℕ) (t : Refined) → NamesDiffer Γ → x < 2 ^ 31 → IsNewName x Γ → NamesDiffer (bind x t Γ)
one_differs Γ x t h low new = (low, new, h)

guards_differ : (qs : Parts) (Γ : Context) → NamesDiffer Γ → NamesDiffer (with_guards qs Γ)
guards_differ [] Γ h = h
guards_differ (q ∷ qs) Γ h = guards_differ qs (guard q ∷ Γ) h

-- one name for the next, whatever its type
next_new : (xs : List ℕ) (Γ : Context) (x : ℕ) (t : Refined) → AreNewNames xs (bind x unit_type Γ) → AreNewNames xs (bind x t Γ)
next_new xs Γ x t h = new_names xs (bind x unit_type Γ) (bind x t Γ) (λ y n. n) h

all_differ : (xs : List ℕ) (ts : Refineds) (Γ : Context) → NamesDiffer Γ → AreNewNames xs Γ → HaveTwins xs → NamesDiffer (bind_all xs ts Γ)
all_differ [] ts Γ h new low = h
all_differ (x ∷ xs) ts Γ h new low =
    let t = first_of ts in
    all_differ xs (rest_of ts) (bind x t Γ) (one_differs Γ x t h low.0 new.0) (next_new xs Γ x t new.1) low.1

components_differ : (scopes : Scopes) (θ : Subst) (j : ℕ) (xs : List ℕ) (ts : Refineds) (Γ : Context) → NamesDiffer Γ → AreNewNames xs Γ → HaveTwins xs
    → NamesDiffer (bind_components scopes θ j xs ts Γ)
components_differ scopes θ j [] ts Γ h new low = h
components_differ scopes θ j (x ∷ xs) ts Γ h new low =
    let s = first_of ts in
    let t = with_top (parts_by scopes θ (top s)) s in
    components_differ scopes (name_for j x s ∷ θ) (suc j) xs (rest_of ts) (bind x t Γ) (one_differs Γ x t h low.0 new.0) (next_new xs Γ x t new.1) low.1

arm_differs : (P : Basis) (Γ : Context) → NamesDiffer Γ → (u : Use) (q : Pattern) → AreNewNames (names_of q) Γ → HaveTwins (names_of q)
    → NamesDiffer (in_arm P Γ u q)
arm_differs P Γ h u pattern_any new low = h
arm_differs P Γ h u (pattern_name x) new low = (low.0, new.0, h)
arm_differs P Γ h u pattern_unit new low = h
arm_differs P Γ h u (pattern_tuple xs) new low = components_differ P.setting.scopes [] 0 xs (components_of (type_of_use P Γ u)) Γ h new low
arm_differs P Γ h u (pattern_build c xs) new low =
    let t = type_of_use P Γ u in
    let θ = names_for 0 xs (fields_by P Γ u.name t c []) in
    let ts = fields_by P Γ u.name t c θ in
    guards_differ (equations_by P c (value_as u.name ∷ θ)) (bind_all xs ts Γ) (all_differ xs ts Γ h new low)

-- ---- lists of obligations

abbrev IsD : Obligation → Type 0
IsD o = NamesDiffer o.context

abbrev Differ : List Obligation → Type 0
Differ os = All IsD os

none_differ : Differ []
none_differ = All-nil IsD

both : (os ps : List Obligation) → Differ os → Differ ps → Differ (os ++ ps)
both os ps a b = All-append IsD os ps a b

each_differ : (f : ℕ → List Obligation) → ((c : ℕ) → Differ (f c)) → (cs : List ℕ) → Differ (each f cs)
each_differ f h [] = none_differ
each_differ f h (c ∷ cs) = both (f c) (each f cs) (h c) (each_differ f h cs)

unless : (b : Bool) (os : List Obligation) → Differ os → Differ (cond b [] os)
unless true os h = none_differ
unless false os h = h

where_true : (b : Bool) (os : List Obligation) → Differ os → Differ (cond b os [])
where_true true os h = h
where_true false os h = none_differ

by_test : (b : Bool) (R S : Type 0) (os ps : List Obligation) → Where b R S → (R → Differ os) → (S → Differ ps) → Differ (cond b os ps)
by_test true R S os ps h f g = f h
by_test false R S os ps h f g = g h

module _ (P : Basis) where
  demand_differs : (Γ : Context) (p : Formula) (o : Origin) → NamesDiffer Γ → Differ (demand P Γ p o)
  demand_differs Γ p o h = All-cons IsD (record { context = Γ; asked = asks.holds p; origin = o }) [] h none_differ

  subtyping_differs : (Γ : Context) (l r : Refined) (o : Origin) → NamesDiffer Γ → Differ (subtyping P Γ l r o)
  subtyping_differs Γ l r o h = All-cons IsD (record { context = Γ; asked = asks.fits l r; origin = o }) [] h none_differ

  operands_differ : (Γ : Context) (es : List Pure) (ts : Refineds) (o : Origin) → NamesDiffer Γ → Differ (operands P Γ es ts o)
  operands_differ Γ [] ts o h = none_differ
  operands_differ Γ (e ∷ es) ts o h =
      both (subtyping P Γ (pure_type P Γ e) (first_of ts) o) (operands P Γ es (rest_of ts) o)
      (subtyping_differs Γ (pure_type P Γ e) (first_of ts) o h) (operands_differ Γ es (rest_of ts) o h)

  case_differs : (Γ : Context) (u : Use) (c : ℕ) (l : Place) → NamesDiffer Γ → Differ (demand P (missing_context P Γ u c) falsity (from l of_case))
  case_differs Γ u c l h =
      demand_differs (missing_context P Γ u c) falsity (from l of_case) (guards_differ (equations_by P c (value_as u.name ∷ [])) Γ h)

  mutual
    operation_differs : (o : Operation) (Γ : Context) (l : Place) (t : Refined) → NamesDiffer Γ → IsReadyOperation P Γ o t → HaveTwins (operation_binders o)
        → Differ (of_operation P Γ l o t)
    operation_differs (pure e) Γ l t h ready low = none_differ
    operation_differs (fun p y b) Γ l t h ready low =
        block_differs b (body_context Γ y t) (body_type P.setting.scopes y t) (one_differs Γ y (argument_of t) h low.0 ready.0) ready.1 low.1
    operation_differs (if_else p c a b) Γ l t h ready low =
        let x = guard (known (formula_of c)) ∷ Γ in
        let y = guard (known (negation (formula_of c))) ∷ Γ in
        both (of_block P x a t) (of_block P y b t) (block_differs a x t h ready.0 (twins_front (block_binders a) (block_binders b) low))
        (block_differs b y t h ready.1 (twins_back (block_binders a) (block_binders b) low))
    operation_differs (match_on p u arms) Γ l t h ready low =
        let d = has_default arms in
        let cs = matched_constructors P Γ u in
        let f = λ (c : ℕ). of_constructor P Γ l u d c t arms in
        by_test (is_data_match P Γ u) (((c : ℕ) → IsReadyCase P Γ u c t arms) × IsReadyDefault P Γ u arms t) (IsReadyFirst P Γ u arms t)
        (each f cs ++ of_default P Γ u arms t) (of_first P Γ u arms t) ready
        (λ r. both (each f cs) (of_default P Γ u arms t) (each_differ f (λ c. constructor_differs arms Γ l u d c t h (r.0 c) low) cs)
        (default_differs arms Γ u t h r.1 low))
        (λ r. first_differs arms Γ u t h r low)
    operation_differs (call g a) Γ l t h ready low = subtyping_differs Γ (pure_type P Γ a) (argument_of (pure_type P Γ g)) (from l of_argument) h
    operation_differs (tuple es) Γ l t h ready low = none_differ
    operation_differs (build p c es) Γ l t h ready low = operands_differ Γ es (field_types P Γ p c es) (from l of_argument) h
    operation_differs (make p n e) Γ l t h ready low =
        both (demand P Γ (not_negative n) (from l of_length)) (subtyping P Γ (pure_type P Γ e) (P.template p) (from l of_argument))
        (demand_differs Γ (not_negative n) (from l of_length) h) (subtyping_differs Γ (pure_type P Γ e) (P.template p) (from l of_argument) h)
    operation_differs (fetch u i) Γ l t h ready low = demand_differs Γ (in_range u i) (from l of_index) h
    operation_differs (store u i e) Γ l t h ready low =
        let element = element_of (type_of_use P Γ u) in
        both (demand P Γ (in_range u i) (from l of_index)) (subtyping P Γ (pure_type P Γ e) element (from l of_argument))
        (demand_differs Γ (in_range u i) (from l of_index) h) (subtyping_differs Γ (pure_type P Γ e) element (from l of_argument) h)
    operation_differs (divide x y) Γ l t h ready low = demand_differs Γ (not_zero y) (from l of_divisor) h
    operation_differs (remainder x y) Γ l t h ready low = demand_differs Γ (not_zero y) (from l of_divisor) h
    operation_differs (assert e) Γ l t h ready low = demand_differs Γ (formula_of e) (from l of_assertion) h
    operation_differs (assert_false p) Γ l t h ready low = demand_differs Γ falsity (from l of_assertion) h
    operation_differs (read e) Γ l t h ready low = none_differ
    operation_differs (print e) Γ l t h ready low = none_differ
    operation_differs (map_empty p) Γ l t h ready low = none_differ
    operation_differs (map_add p k e m) Γ l t h ready low =
        let element = element_at P.setting.scopes k (P.template p) in
        let o = from l of_argument in
        both (subtyping P Γ (pure_type P Γ e) element o) (subtyping P Γ (pure_type P Γ m) (P.template p) o)
        (subtyping_differs Γ (pure_type P Γ e) element o h) (subtyping_differs Γ (pure_type P Γ m) (P.template p) o h)
    operation_differs (map_find k m) Γ l t h ready low = none_differ

    block_differs : (b : Block) (Γ : Context) (t : Refined) → NamesDiffer Γ → IsReadyBlock P Γ b t → HaveTwins (block_binders b) → Differ (of_block P Γ b t)
    block_differs (last l o) Γ t h ready low =
        let flow = subtyping P Γ (type_of P Γ o) t (from l of_flow) in
        both (of_operation P Γ l o t) (cond (passes_on o) [] flow) (operation_differs o Γ l t h ready.0 low)
        (unless (passes_on o) flow (subtyping_differs Γ (type_of P Γ o) t (from l of_flow) h))
    block_differs (binding x l o b) Γ t h ready low =
        let s = type_of P Γ o in
        let later = twins_back (operation_binders o) (x ∷ block_binders b) low in
        both (of_operation P Γ l o s) (of_block P (bind x s Γ) b t)
        (operation_differs o Γ l s h ready.0 (twins_front (operation_binders o) (x ∷ block_binders b) low))
        (block_differs b (bind x s Γ) t (one_differs Γ x s h later.0 ready.1) ready.2 later.1)
    block_differs (recursive g p y b c) Γ t h ready low =
        let T = P.template p in
        let Λ = bind g T Γ in
        let own = one_differs Γ g T h low.0 ready.0.0 in
        both (of_block P (recursive_context P Γ g p y) b (recursive_type P p y)) (of_block P Λ c t)
        (block_differs b (recursive_context P Γ g p y) (recursive_type P p y) (one_differs Λ y (argument_of T) own low.1.0 ready.0.1) ready.0.2
        (twins_front (block_binders b) (block_binders c) low.1.1))
        (block_differs c Λ t own ready.1 (twins_back (block_binders b) (block_binders c) low.1.1))

    constructor_differs : (arms : Arms) (Γ : Context) (l : Place) (u : Use) (d : Bool) (c : ℕ) (t : Refined) → NamesDiffer Γ → IsReadyCase P Γ u c t arms
        → HaveTwins (arms_binders arms) → Differ (of_constructor P Γ l u d c t arms)
    constructor_differs no_arms Γ l u d c t h ready low =
        unless d (demand P (missing_context P Γ u c) falsity (from l of_case)) (case_differs Γ u c l h)
    constructor_differs (arm q b arms) Γ l u d c t h ready low =
        let Λ = in_arm P Γ u q in
        let own = twins_front (names_of q ++ block_binders b) (arms_binders arms) low in
        by_test (is_arm_of c q) (AreNewNames (names_of q) Γ × IsReadyBlock P Λ b t) (IsReadyCase P Γ u c t arms) (of_block P Λ b t)
        (of_constructor P Γ l u d c t arms) ready
        (λ r. block_differs b Λ t (arm_differs P Γ h u q r.0 (twins_front (names_of q) (block_binders b) own)) r.1
        (twins_back (names_of q) (block_binders b) own))
        (λ r. constructor_differs arms Γ l u d c t h r (twins_back (names_of q ++ block_binders b) (arms_binders arms) low))

    default_differs : (arms : Arms) (Γ : Context) (u : Use) (t : Refined) → NamesDiffer Γ → IsReadyDefault P Γ u arms t → HaveTwins (arms_binders arms)
        → Differ (of_default P Γ u arms t)
    default_differs no_arms Γ u t h ready low = none_differ
    default_differs (arm q b arms) Γ u t h ready low =
        let Λ = in_arm P Γ u q in
        let own = twins_front (names_of q ++ block_binders b) (arms_binders arms) low in
        by_test (takes_all q) (AreNewNames (names_of q) Γ × IsReadyBlock P Λ b t) (IsReadyDefault P Γ u arms t) (of_block P Λ b t)
        (of_default P Γ u arms t) ready
        (λ r. block_differs b Λ t (arm_differs P Γ h u q r.0 (twins_front (names_of q) (block_binders b) own)) r.1
        (twins_back (names_of q) (block_binders b) own))
        (λ r. default_differs arms Γ u t h r (twins_back (names_of q ++ block_binders b) (arms_binders arms) low))

    first_differs : (arms : Arms) (Γ : Context) (u : Use) (t : Refined) → NamesDiffer Γ → IsReadyFirst P Γ u arms t → HaveTwins (arms_binders arms)
        → Differ (of_first P Γ u arms t)
    first_differs no_arms Γ u t h ready low = none_differ
    first_differs (arm q b arms) Γ u t h ready low =
        let own = twins_front (names_of q ++ block_binders b) (arms_binders arms) low in
        block_differs b (in_arm P Γ u q) t (arm_differs P Γ h u q ready.0 (twins_front (names_of q) (block_binders b) own)) ready.1
        (twins_back (names_of q) (block_binders b) own)

  -- of a block of which no type is expected: its obligations, and the environment at its end
  given_differs : (b : Block) (Γ : Context) → NamesDiffer Γ → IsReadyGiven P Γ b → HaveTwins (block_binders b)
      → Differ (of_given P Γ b) × NamesDiffer (last_context P Γ b)
  given_differs (last l o) Γ h ready low = (operation_differs o Γ l (type_of P Γ o) h ready low, h)
  given_differs (binding x l o b) Γ h ready low =
      let s = type_of P Γ o in
      let later = twins_back (operation_binders o) (x ∷ block_binders b) low in
      let rest = given_differs b (bind x s Γ) (one_differs Γ x s h later.0 ready.1) ready.2 later.1 in
      (both (of_operation P Γ l o s) (of_given P (bind x s Γ) b) (operation_differs o Γ l s h ready.0 (twins_front (operation_binders o) (x ∷ block_binders b) low)) rest.0, rest.1)
  given_differs (recursive g p y b c) Γ h ready low =
      let T = P.template p in
      let Λ = bind g T Γ in
      let own = one_differs Γ g T h low.0 ready.0.0 in
      let rest = given_differs c Λ own ready.1 (twins_back (block_binders b) (block_binders c) low.1.1) in (
        both (of_recursive P Γ g p y b) (of_given P Λ c)
            (block_differs b (recursive_context P Γ g p y) (recursive_type P p y) (one_differs Λ y (argument_of T) own low.1.0 ready.0.1) ready.0.2
            (twins_front (block_binders b) (block_binders c) low.1.1)) rest.0,
        rest.1,
      )

  program_differs : (p : Program) (Γ : Context) → NamesDiffer Γ → IsReady P Γ p → HaveTwins (binders p) → Differ (obligations_of P Γ p)
  program_differs no_items Γ h ready low = none_differ
  program_differs (define x l k b rest) Γ h ready low =
      let T = last_type P Γ b in
      let Θ = last_context P Γ b in
      let later = twins_back (block_binders b) (x ∷ binders rest) low in
      let own = given_differs b Γ h ready.0 (twins_front (block_binders b) (x ∷ binders rest) low) in
      both (of_given P Γ b) (of_definition P Γ l k b ++ obligations_of P (bind x T Θ) rest) own.0
      (both (of_definition P Γ l k b) (obligations_of P (bind x T Θ) rest)
      (where_true (has_template b) (subtyping P Θ T (P.template k) (from l of_flow)) (subtyping_differs Θ T (P.template k) (from l of_flow) own.1))
      (program_differs rest (bind x T Θ) (one_differs Θ x T own.1 later.0 ready.2) ready.3 later.1))
  program_differs (define_recursive g p y b rest) Γ h ready low =
      let T = P.template p in
      let Λ = bind g T Γ in
      let own = one_differs Γ g T h low.0 ready.0.0 in
      both (of_recursive P Γ g p y b) (obligations_of P Λ rest)
      (block_differs b (recursive_context P Γ g p y) (recursive_type P p y) (one_differs Λ y (argument_of T) own low.1.0 ready.0.1) ready.0.2
      (twins_front (block_binders b) (binders rest) low.1.1))
      (program_differs rest Λ own ready.1 (twins_back (block_binders b) (binders rest) low.1.1))
  program_differs (run_unit b rest) Γ h ready low =
      both (of_block P Γ b unit_type) (obligations_of P Γ rest) (block_differs b Γ unit_type h ready.0 (twins_front (block_binders b) (binders rest) low))
      (program_differs rest Γ h ready.1 (twins_back (block_binders b) (binders rest) low))
  program_differs (run_any b rest) Γ h ready low =
      both (of_given P Γ b) (obligations_of P Γ rest) (given_differs b Γ h ready.0 (twins_front (block_binders b) (binders rest) low)).0
      (program_differs rest Γ h ready.1 (twins_back (block_binders b) (binders rest) low))

pub environments_differ : EnvironmentsDiffer
environments_differ P p ready low = program_differs P p [] tt ready low
