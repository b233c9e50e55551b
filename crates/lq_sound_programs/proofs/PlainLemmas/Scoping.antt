-- Programs of plain forms are in scope.
use Rattle.std.proofs.Common.{◌≡◌, ◌⊎◌, inl, inr, ℕ, suc, pos, Bool, true, false, List, [], ◌∷◌, refl}
use Rattle.lq_refined_types.specs.Parts.Assignment.{Assignment}
use Rattle.lq_refined_types.specs.Parts.Part.{known}
use Rattle.lq_logic_predicates.specs.Formula.{negation}
use Rattle.lq_logic_predicates.specs.Sum as sums
use Rattle.lq_logic_predicates.specs.Sum.{Sum, same_symbol}
use Rattle.lq_logic_predicates.specs.declared.symbol.Symbol.{Symbol}
use Rattle.lq_logic_predicates.specs.declared.symbol.Symbol.TheVariants as symbol
use Rattle.lq_base_names.specs.declared.place.Place.{Place}
use Rattle.lq_refined_types.specs.Types.Context.{Context, guard}
use Rattle.lq_refined_types.specs.Types.Refined.{Refined, int_with, bool_with, unit_type, function, tuple_of, array_with, data_with, map_with, type_variable, Refineds, none, more, argument_of, number}
use Rattle.lq_refined_rules.specs.Checks.Basis.{Basis}
use Rattle.lq_refined_rules.specs.Checks.Binders.{IsNewName}
use Rattle.lq_refined_rules.specs.Checks.Match.{is_data_match, matched_constructors, in_arm}
use Rattle.lq_refined_rules.specs.Checks.Ready.{Where}
use Rattle.lq_refined_rules.specs.Checks.Checks.{AreCases, IsCase, IsDefault, IsFirst, Obeys, obeys_fun, Against, against_last, against_binding, against_recursive, IsRecursive, is_recursive, Gives, gives_last, gives_binding, gives_recursive, Checks, checks_define, checks_recursive, checks_unit, checks_any}
use Rattle.lq_refined_rules.specs.Checks.Operation.{type_of, field_types, body_context, body_type, recursive_context, recursive_type, bind, quotient_facts, last_context, last_type}
use Rattle.lq_refined_rules.specs.Checks.Pure.{sum_of, formula_of, type_of_use, pure_type, pure_types}
use Rattle.lq_refined_rules.specs.Checks.Tree.{passes_on, is_arm_of, takes_all, has_default, Use, Arms, no_arms, arm, Pure, Operation, pure, fun, if_else, match_on, call, tuple, build, make, fetch, store, divide, remainder, assert, assert_false, read, print, map_empty, map_add, map_find, Block, last, binding, recursive, Program, no_items, define, define_recursive, run_unit, run_any}
use Rattle.lq_sound_values.specs.Inhabitants.Truth.{Objects, Scene}
use Rattle.lq_sound_values.specs.Inclusion.Laws.{IsScene}
use Rattle.lq_sound_values.specs.Inclusion.Symbols.{Symbols, with_symbol, SumOn, PartsOn, ComponentsOn, TypeOn}
use Rattle.lq_sound_values.specs.Twins.Names.{NamesApart, AllNamesApart, TwinsOutside, AllTwinsOutside}
use Rattle.lq_sound_values.specs.Runs.Closed.{names_in, with_value, PartsSorted, IsTypeOver, IsClosed, Binds}
use Rattle.lq_sound_values.proofs.RunsLemmas.Closing.{or_left, or_right, within_with, sum_more, type_more, closed_bind}
use Rattle.lq_sound_values.proofs.RunsLemmas.Lower.{Lower}
use Rattle.lq_sound_values.specs.NewNames.NewNames.{SubtypesAreApart}
use Rattle.lq_sound_forms.specs.Pures.Pures.{scene_of, PureOver}
use Rattle.lq_sound_forms.specs.Pures.Values.{PureTypesAreOver}
use Rattle.lq_sound_forms.specs.Calls.Operands.{KindsAgree, AllKindsAgree, IsUsable}
use Rattle.lq_sound_forms.specs.Tuples.Tuples.{HasComponentsOver}
use Rattle.lq_sound_programs.proofs.SafetyLemmas.Parts.{obeys_parts, where_true, where_false, here_true, here_false, where_both, case_parts, default_parts, first_parts, case_of}
use Rattle.lq_sound_forms.proofs.PuresLemmas.Pures.{Instancing, names_over}
use Rattle.lq_sound_forms.proofs.PuresLemmas.Values.{sum_over, condition_guards, used_on}
use Rattle.lq_sound_programs.specs.Plain.Plain.{IsRecursionOver, IsFlat, AreFlat, IsMatched, elements_type, IsGivenOver, ArePlain, IsArmClosed, IsPlain, IsPlainBlock, IsPlainCase, IsPlainDefault, IsPlainFirst, IsPlainGiven, IsPlainProgram}
use Rattle.lq_sound_programs.proofs.PlainLemmas.Datatypes.{flow_apart, IsClean, clean_bind, clean_arm, within_arm, arguments_apart}
use Rattle.lq_refined_types.specs.Types.Operations.{symbol_of}
use Rattle.lq_sound_programs.specs.Safety.Programs.{IsScopedGiven, IsScopedProgram}
use Rattle.lq_sound_programs.specs.Safety.Scoped.{IsIn, AreDatatypesFor, IsScoped, IsScopedBlock, IsScopedCase, IsScopedDefault, IsScopedFirst, IsScopedRecursive}

-- ---- flat types have no names of arguments

mutual
  flat_apart : (A : Assignment) (N : Symbols) (t : Refined) → IsFlat t → NamesApart A N t
  flat_apart A N (int_with p) f = tt
  flat_apart A N (bool_with p) f = tt
  flat_apart A N unit_type f = tt
  flat_apart A N (function x a b) f = absurd f
  flat_apart A N (tuple_of ts) f = flats_apart A N ts f
  flat_apart A N (array_with e p) f = flat_apart A N e f
  flat_apart A N (data_with d ts m p) f = flats_apart A N ts f
  flat_apart A N (map_with e p) f = tt
  flat_apart A N (type_variable i) f = tt

  flats_apart : (A : Assignment) (N : Symbols) (ts : Refineds) → AreFlat ts → AllNamesApart A N ts
  flats_apart A N none f = tt
  flats_apart A N (more t ts) f = (flat_apart A N t f.0, flats_apart A N ts f.1)

mutual
  flat_kinds : (Γ : Context) (t : Refined) → IsFlat t → KindsAgree Γ t
  flat_kinds Γ (int_with p) f = tt
  flat_kinds Γ (bool_with p) f = tt
  flat_kinds Γ unit_type f = tt
  flat_kinds Γ (function x a b) f = absurd f
  flat_kinds Γ (tuple_of ts) f = flats_kinds Γ ts f
  flat_kinds Γ (array_with e p) f = flat_kinds Γ e f
  flat_kinds Γ (data_with d ts m p) f = flats_kinds Γ ts f
  flat_kinds Γ (map_with e p) f = tt
  flat_kinds Γ (type_variable i) f = tt

  flats_kinds : (Γ : Context) (ts : Refineds) → AreFlat ts → AllKindsAgree Γ ts
  flats_kinds Γ none f = tt
  flats_kinds Γ (more t ts) f = (flat_kinds Γ t f.0, flats_kinds Γ ts f.1)

mutual
  flat_outside : (N : Symbols) (t : Refined) → IsFlat t → TwinsOutside N t
  flat_outside N (int_with p) f = tt
  flat_outside N (bool_with p) f = tt
  flat_outside N unit_type f = tt
  flat_outside N (function x a b) f = absurd f
  flat_outside N (tuple_of ts) f = flats_outside N ts f
  flat_outside N (array_with e p) f = flat_outside N e f
  flat_outside N (data_with d ts m p) f = flats_outside N ts f
  flat_outside N (map_with e p) f = tt
  flat_outside N (type_variable i) f = tt

  flats_outside : (N : Symbols) (ts : Refineds) → AreFlat ts → AllTwinsOutside N ts
  flats_outside N none f = tt
  flats_outside N (more t ts) f = (flat_outside N t f.0, flats_outside N ts f.1)

matched_usable : (S : Scene) (Γ : Context) (t : Refined) → IsMatched t → TypeOn S.assignment t (names_in Γ) → IsUsable S Γ t
matched_usable S Γ (int_with p) m o = tt
matched_usable S Γ (bool_with p) m o = tt
matched_usable S Γ unit_type m o = tt
matched_usable S Γ (function x a b) m o = absurd m
matched_usable S Γ (tuple_of ts) m o =
    record { over = names_in Γ; on = o; apart = flats_apart S.assignment (names_in Γ) ts m; kinds = flats_kinds Γ ts m; outside = flats_outside (names_in Γ) ts m }
matched_usable S Γ (array_with e p) m o = tt
matched_usable S Γ (data_with d ts m2 p) m o = tt
matched_usable S Γ (map_with e p) m o = tt
matched_usable S Γ (type_variable i) m o = tt

matched_by : (S : Scene) (Γ : Context) (t : Refined) → IsMatched t ⊎ IsUsable S Γ t → TypeOn S.assignment t (names_in Γ) → IsUsable S Γ t
matched_by S Γ t (inl m) o = matched_usable S Γ t m o
matched_by S Γ t (inr m) o = m

-- ---- quotients and remainders

v_in : (P : Symbols) → with_value P symbol.Value ≡ true
v_in P = or_right (P symbol.Value) true refl

-- what is known of a quotient speaks of the dividend and of v, as a hypothesis and as a part of a number's type
facts_on : (A : Assignment) (P : Symbols) (x y : Sum) → SumOn (with_value P) x → PartsOn A (with_symbol P symbol.Value) (quotient_facts x y)
facts_on A P x (sums.whole (pos (suc c))) o =
    (((((tt, o), ((tt, v_in P), o)), (o, ((tt, v_in P), tt))), (((o, tt), (o, (tt, v_in P))), ((tt, v_in P), (o, tt)))), tt)
facts_on A P x _ o = tt

facts_sorted : (A : Assignment) (P : Symbols) (x y : Sum) → SumOn (with_value P) x → PartsSorted A number P (quotient_facts x y)
facts_sorted A P x (sums.whole (pos (suc c))) o =
    (((((tt, o), ((tt, v_in P), o)), (o, ((tt, v_in P), tt))), (((o, tt), (o, (tt, v_in P))), ((tt, v_in P), (o, tt)))), tt)
facts_sorted A P x _ o = tt

-- ---- what has to be known of operands and of contexts

module _ (P : Basis) (A : Assignment) where
  fun_new : {Γ : Context} {p y : ℕ} {b : Block} {t : Refined} → Obeys P A Γ (fun p y b) t → IsNewName y Γ
  fun_new (obeys_fun n b) = n

  abbrev RecursionParts : Context → ℕ → ℕ → ℕ → Block → Type 0
  RecursionParts Γ g p y b =
      IsNewName g Γ × IsNewName y (bind g (P.template p) Γ) × Against P A (recursive_context P Γ g p y) b (recursive_type P p y)

  recursion_parts : {Γ : Context} {g p y : ℕ} {b : Block} → IsRecursive P A Γ g p y b → RecursionParts Γ g p y b
  recursion_parts (is_recursive n m b) = (n, m, b)

  recursive_block : {Γ : Context} {g p y : ℕ} {b c : Block} {t : Refined} → Against P A Γ (recursive g p y b c) t → RecursionParts Γ g p y b × Against P A (bind g (P.template p) Γ) c t
  recursive_block (against_recursive r c) = (recursion_parts r, c)

  recursive_given : {Γ : Context} {g p y : ℕ} {b c : Block} → Gives P A Γ (recursive g p y b c) → RecursionParts Γ g p y b × Gives P A (bind g (P.template p) Γ) c
  recursive_given (gives_recursive r c) = (recursion_parts r, c)

  recursive_define : {Γ : Context} {g p y : ℕ} {b : Block} {rest : Program} → Checks P A Γ (define_recursive g p y b rest) → RecursionParts Γ g p y b × Checks P A (bind g (P.template p) Γ) rest
  recursive_define (checks_recursive r rest) = (recursion_parts r, rest)

  last_parts : {Γ : Context} {l : Place} {o : Operation} {t : Refined} → Against P A Γ (last l o) t → Obeys P A Γ o t
  last_parts (against_last o f) = o

  binding_parts : {Γ : Context} {x : ℕ} {l : Place} {o : Operation} {b : Block} {t : Refined} → Against P A Γ (binding x l o b) t → Obeys P A Γ o (type_of P Γ o) × IsNewName x Γ × Against P A (bind x (type_of P Γ o) Γ) b t
  binding_parts (against_binding o n b) = (o, n, b)

  given_last : {Γ : Context} {l : Place} {o : Operation} → Gives P A Γ (last l o) → Obeys P A Γ o (type_of P Γ o)
  given_last (gives_last o) = o

  given_binding : {Γ : Context} {x : ℕ} {l : Place} {o : Operation} {b : Block} → Gives P A Γ (binding x l o b) → Obeys P A Γ o (type_of P Γ o) × IsNewName x Γ × Gives P A (bind x (type_of P Γ o) Γ) b
  given_binding (gives_binding o n b) = (o, n, b)

  define_parts : {Γ : Context} {x k : ℕ} {l : Place} {b : Block} {rest : Program} → Checks P A Γ (define x l k b rest) → Gives P A Γ b × IsNewName x (last_context P Γ b) × Checks P A (bind x (last_type P Γ b) (last_context P Γ b)) rest
  define_parts (checks_define b s n rest) = (b, n, rest)

  unit_parts : {Γ : Context} {b : Block} {rest : Program} → Checks P A Γ (run_unit b rest) → Against P A Γ b unit_type × Checks P A Γ rest
  unit_parts (checks_unit b rest) = (b, rest)

  any_parts : {Γ : Context} {b : Block} {rest : Program} → Checks P A Γ (run_any b rest) → Gives P A Γ b × Checks P A Γ rest
  any_parts (checks_any b rest) = (b, rest)

-- what the rules ask of a match
abbrev MatchParts : Basis → Assignment → Context → Use → Arms → Refined → Type 0
MatchParts P A Γ u arms t =
    ((is_data_match P Γ u ≡ true) × AreCases P A Γ u arms t (matched_constructors P Γ u) × IsDefault P A Γ u arms t)
    ⊎ ((is_data_match P Γ u ≡ false) × IsFirst P A Γ u arms t)

module _ (law : Lower) (inst : Instancing) (new : SubtypesAreApart) (P : Basis) (A : Assignment) (O : Objects) (is : IsScene (scene_of P A O)) (types : PureTypesAreOver) where
  abbrev Closed : Context → Type 0
  Closed Γ = IsClosed (scene_of P A O) Γ

  -- where branches are checked against a type
  abbrev Expected : Context → Operation → Refined → Type 0
  Expected Γ (if_else p c a b) t = TypeOn A t (names_in Γ)
  Expected Γ (match_on p u arms) t = TypeOn A t (names_in Γ)
  Expected Γ _ t = Unit {0}

  expected : (Γ : Context) (o : Operation) (t : Refined) → TypeOn A t (names_in Γ) → Expected Γ o t
  expected Γ (if_else p c a b) t on = on
  expected Γ (match_on p u arms) t on = on
  expected Γ _ t on = tt

  given : (Γ : Context) (o : Operation) → IsGivenOver P A O Γ o → Expected Γ o (type_of P Γ o)
  given Γ (if_else p c a b) g = g.0
  given Γ (match_on p u arms) g = g.0
  given Γ _ g = tt

  -- the types of operands in a row
  components_on : (Γ : Context) → Closed Γ → (es : List Pure) → ArePlain P A O Γ es → (k : ℕ) (Q : Symbols) → ((y : Symbol) → names_in Γ y ≡ true → Q y ≡ true) → ComponentsOn A (pure_types P Γ es) (names_in Γ) k Q
  components_on Γ c [] p k Q w = tt
  components_on Γ c (e ∷ es) p k Q w =
      let o = types P A O Γ c e p.0 p.1 in
      (o.0.0, (type_more A (pure_type P Γ e) (names_in Γ) Q w o.0).1, components_on Γ c es p.2 (suc k) (with_symbol Q (symbol.Position (suc k))) (λ y h. or_left (Q y) (same_symbol (symbol.Position (suc k)) y) (w y h)))

  operand_on : (Γ : Context) (e : Pure) → PureOver P A Γ e → SumOn (with_value (names_in Γ)) (sum_of e)
  operand_on Γ e o = sum_more (names_in Γ) (with_value (names_in Γ)) (within_with (names_in Γ) symbol.Value) (sum_of e) (sum_over (names_in Γ) e (names_over P A Γ e o))

  type_over : (Γ : Context) → Closed Γ → (o : Operation) → IsPlain P A O Γ o (type_of P Γ o) → IsGivenOver P A O Γ o → IsTypeOver (scene_of P A O) (names_in Γ) (type_of P Γ o)
  type_over Γ c (pure e) p (inl b) = types P A O Γ c e p.0 b
  type_over Γ c (pure e) p (inr o) = o
  type_over Γ c (if_else k e a b) p g = g
  type_over Γ c (divide x y) p g =
      let N = names_in Γ in
      let a = operand_on Γ x p.0 in
      let b = operand_on Γ y p.1 in
      ((tt, ((v_in N, (a, b)), facts_on A N (sum_of x) (sum_of y) a)), ((v_in N, (a, b)), facts_sorted A N (sum_of x) (sum_of y) a))
  type_over Γ c (remainder x y) p g =
      let v = v_in (names_in Γ) in
      let a = operand_on Γ x p.0 in
      let b = operand_on Γ y p.1 in
      ((tt, ((v, (a, b)), ((((a, tt), (b, tt)), ((tt, v), (v, b))), tt))), ((v, (a, b)), ((((a, tt), (b, tt)), ((tt, v), (v, b))), tt)))
  type_over Γ c (assert e) p g = ((tt, tt), tt)
  type_over Γ c (assert_false k) p g = g
  type_over Γ c (read e) p g = ((tt, tt), tt)
  type_over Γ c (print e) p g = ((tt, tt), tt)
  type_over Γ c (make k n e) p g =
      let v = v_in (names_in Γ) in
      let a = operand_on Γ n p.0 in
      ((p.2.0, ((v, a), tt)), ((v, a), tt))
  type_over Γ c (fetch u i) p g = g
  type_over Γ c (store u i e) p g = ((tt, tt), tt)
  type_over Γ c (fun k y b) p g = g
  type_over Γ c (match_on k u arms) p g = g
  type_over Γ c (call h a) p g = g
  type_over Γ c (tuple es) p (inl q) = ((components_on Γ c es q 0 (names_in Γ) (λ y h. h), tt), tt)
  type_over Γ c (tuple es) p (inr o) = o
  type_over Γ c (build k h es) p g = g
  type_over Γ c (map_empty k) p g = absurd p
  type_over Γ c (map_add k h e m) p g = absurd p
  type_over Γ c (map_find k m) p g = absurd p

  -- a match, where its arms are in scope
  match_by : (Γ : Context) (u : Use) (arms : Arms) (t : Refined) → MatchParts P A Γ u arms t → Where (is_data_match P Γ u) (AreDatatypesFor P A O Γ u × ((i : ℕ) → IsPlainCase P A O Γ u i t arms) × IsPlainDefault P A O Γ u t arms) (HasComponentsOver A (names_in Γ) (type_of_use P Γ u) × IsPlainFirst P A O Γ u t arms) → ((i : ℕ) → IsCase P A Γ u (has_default arms) i t arms → IsPlainCase P A O Γ u i t arms → IsScopedCase P A O Γ u i t arms) → (IsDefault P A Γ u arms t → IsPlainDefault P A O Γ u t arms → IsScopedDefault P A O Γ u t arms) → (IsFirst P A Γ u arms t → IsPlainFirst P A O Γ u t arms → IsScopedFirst P A O Γ u t arms) → Where (is_data_match P Γ u) (AreDatatypesFor P A O Γ u × ((i : ℕ) → IsIn (matched_constructors P Γ u) i → IsScopedCase P A O Γ u i t arms) × IsScopedDefault P A O Γ u t arms) (HasComponentsOver A (names_in Γ) (type_of_use P Γ u) × IsScopedFirst P A O Γ u t arms)
  match_by Γ u arms t (inl r) p case default first =
      let q = where_true (is_data_match P Γ u) _ _ r.0 p in
      here_true (is_data_match P Γ u) _ _ r.0 (q.0, (λ i listed. case i (case_of P A Γ u arms t (matched_constructors P Γ u) i listed r.1) (q.1 i)), default r.2 q.2)
  match_by Γ u arms t (inr r) p case default first =
      let q = where_false (is_data_match P Γ u) _ _ r.0 p in
      here_false (is_data_match P Γ u) _ _ r.0 (q.0, first r.1 q.1)

  mutual
    operation_scoped : (Γ : Context) → Closed Γ → IsClean Γ → (o : Operation) (t : Refined) → Obeys P A Γ o t → IsPlain P A O Γ o t → Expected Γ o t → IsScoped P A O Γ o t
    operation_scoped Γ c n (pure e) t h p x = p
    operation_scoped Γ c n (if_else k e a b) t h p x =
        let guards = condition_guards (scene_of P A O) Γ c e (names_over P A Γ e p.0) in
        let obeyed = obeys_parts P A h in (
          p.0,
          block_scoped (guard (known (formula_of e)) ∷ Γ) guards.0 n a t (type_more A t (names_in Γ) (names_in (guard (known (formula_of e)) ∷ Γ)) (λ y q. q) x) obeyed.0 p.1,
          block_scoped (guard (known (negation (formula_of e))) ∷ Γ) guards.1 n b t (type_more A t (names_in Γ) (names_in (guard (known (negation (formula_of e))) ∷ Γ)) (λ y q. q) x) obeyed.1 p.2,
        )
    operation_scoped Γ c n (divide a b) t h p x = p
    operation_scoped Γ c n (remainder a b) t h p x = p
    operation_scoped Γ c n (assert e) t h p x = p
    operation_scoped Γ c n (assert_false k) t h p x = tt
    operation_scoped Γ c n (read e) t h p x = p
    operation_scoped Γ c n (print e) t h p x = p
    operation_scoped Γ c n (make k z e) t h p x =
        let S = scene_of P A O in
        (p.0, p.1, (λ d. flow_apart law S is new Γ c n (pure_type P Γ e) (P.template k) p.3 d))
    operation_scoped Γ c n (fetch u i) t h p x = p
    operation_scoped Γ c n (store u i e) t h p x =
        let S = scene_of P A O in
        (p.0, p.1, p.2, (λ d. flow_apart law S is new Γ c n (pure_type P Γ e) (elements_type P A O Γ u) p.3 d))
    operation_scoped Γ c n (fun k y b) t h p x =
        let inner : Binds (scene_of P A O) (symbol_of y) (argument_of t) Γ = (refl, fun_new P A h, p.1, c) in
        (p.0, inner, block_scoped (body_context Γ y t) (closed_bind (scene_of P A O) (symbol_of y) (argument_of t) Γ inner) (clean_bind Γ y (argument_of t) n) b (body_type P.setting.scopes y t) p.2 (obeys_parts P A h) p.3)
    operation_scoped Γ c n (match_on k u arms) t h p x =
        let S = scene_of P A O in
        let own = type_of_use P Γ u in
        (p.0, matched_by S Γ own p.1 (used_on inst P A O Γ c u p.0), x, match_by Γ u arms t (obeys_parts P A h) p.2 (λ i r q. case_scoped Γ c n u i (has_default arms) arms t x r q) (λ r q. default_scoped Γ c n u arms t x r q) (λ r q. first_scoped Γ c n u arms t x r q))
    operation_scoped Γ c n (call g a) t h p x =
        (p.0, p.1, (λ d. flow_apart law (scene_of P A O) is new Γ c n (pure_type P Γ a) (argument_of (pure_type P Γ g)) p.2 d))
    operation_scoped Γ c n (tuple es) t h p x = p
    operation_scoped Γ c n (build k g es) t h p x =
        (p.0, arguments_apart law new P A O is Γ c n es (field_types P Γ k g es) p.1, p.2, p.3)
    operation_scoped Γ c n (map_empty k) t h p x = absurd p
    operation_scoped Γ c n (map_add k g e m) t h p x = absurd p
    operation_scoped Γ c n (map_find k m) t h p x = absurd p

    block_scoped : (Γ : Context) → Closed Γ → IsClean Γ → (b : Block) (t : Refined) → TypeOn A t (names_in Γ) → Against P A Γ b t → IsPlainBlock P A O Γ b t → IsScopedBlock P A O Γ b t
    block_scoped Γ c n (last l o) t on h p =
        (operation_scoped Γ c n o t (last_parts P A h) p.0 (expected Γ o t on), (λ e d. flow_apart law (scene_of P A O) is new Γ c n (type_of P Γ o) t (where_false (passes_on o) _ _ e p.1) d))
    block_scoped Γ c n (binding x l o b) t on h p =
        let parts = binding_parts P A h in
        let S = scene_of P A O in
        let binds : Binds S (symbol_of x) (type_of P Γ o) Γ = (refl, parts.1, type_over Γ c o p.0 p.1, c) in (
          operation_scoped Γ c n o (type_of P Γ o) parts.0 p.0 (given Γ o p.1),
          binds,
          on,
          block_scoped (bind x (type_of P Γ o) Γ) (closed_bind S (symbol_of x) (type_of P Γ o) Γ binds) (clean_bind Γ x (type_of P Γ o) n) b t (type_more A t (names_in Γ) (names_in (bind x (type_of P Γ o) Γ)) (within_with (names_in Γ) (symbol_of x)) on) parts.2 p.2,
        )
    block_scoped Γ c n (recursive g k y b d) t on h p =
        let T = P.template k in
        let parts = recursive_block P A h in
        let S = scene_of P A O in
        let own : Binds S (symbol_of g) T Γ = (refl, parts.0.0, p.0.1, c) in
        let closed = closed_bind S (symbol_of g) T Γ own in
        let inner : Binds S (symbol_of y) (argument_of T) (bind g T Γ) = (refl, parts.0.1, p.0.2, closed) in
        let clean = clean_bind Γ g T n in (
          block_scoped (recursive_context P Γ g k y) (closed_bind S (symbol_of y) (argument_of T) (bind g T Γ) inner) (clean_bind (bind g T Γ) y (argument_of T) clean) b (recursive_type P k y) p.0.3 parts.0.2 p.1,
          p.0.0,
          own,
          inner,
          p.0.1.0,
          on,
          block_scoped (bind g T Γ) closed clean d t (type_more A t (names_in Γ) (names_in (bind g T Γ)) (within_with (names_in Γ) (symbol_of g)) on) parts.1 p.2,
        )

    -- the arms that the rules check
    case_scoped : (Γ : Context) → Closed Γ → IsClean Γ → (u : Use) (i : ℕ) (d : Bool) (arms : Arms) (t : Refined) → TypeOn A t (names_in Γ) → IsCase P A Γ u d i t arms → IsPlainCase P A O Γ u i t arms → IsScopedCase P A O Γ u i t arms
    case_scoped Γ c n u i d no_arms t on r p = tt
    case_scoped Γ c n u i d (arm q b arms) t on r p =
        where_both (is_arm_of i q) (Against P A (in_arm P Γ u q) b t) (IsCase P A Γ u d i t arms) (IsArmClosed P A O Γ u q × IsPlainBlock P A O (in_arm P Γ u q) b t) (IsPlainCase P A O Γ u i t arms) (IsClosed (scene_of P A O) (in_arm P Γ u q) × IsScopedBlock P A O (in_arm P Γ u q) b t) (IsScopedCase P A O Γ u i t arms) (λ x y. (y.0 c, block_scoped (in_arm P Γ u q) (y.0 c) (clean_arm P Γ u q n) b t (type_more A t (names_in Γ) (names_in (in_arm P Γ u q)) (within_arm P Γ u q) on) x y.1)) (λ x y. case_scoped Γ c n u i d arms t on x y) (case_parts P A r) p

    default_scoped : (Γ : Context) → Closed Γ → IsClean Γ → (u : Use) (arms : Arms) (t : Refined) → TypeOn A t (names_in Γ) → IsDefault P A Γ u arms t → IsPlainDefault P A O Γ u t arms → IsScopedDefault P A O Γ u t arms
    default_scoped Γ c n u no_arms t on r p = tt
    default_scoped Γ c n u (arm q b arms) t on r p =
        where_both (takes_all q) (Against P A (in_arm P Γ u q) b t) (IsDefault P A Γ u arms t) (IsArmClosed P A O Γ u q × IsPlainBlock P A O (in_arm P Γ u q) b t) (IsPlainDefault P A O Γ u t arms) (IsClosed (scene_of P A O) (in_arm P Γ u q) × IsScopedBlock P A O (in_arm P Γ u q) b t) (IsScopedDefault P A O Γ u t arms) (λ x y. (y.0 c, block_scoped (in_arm P Γ u q) (y.0 c) (clean_arm P Γ u q n) b t (type_more A t (names_in Γ) (names_in (in_arm P Γ u q)) (within_arm P Γ u q) on) x y.1)) (λ x y. default_scoped Γ c n u arms t on x y) (default_parts P A r) p

    first_scoped : (Γ : Context) → Closed Γ → IsClean Γ → (u : Use) (arms : Arms) (t : Refined) → TypeOn A t (names_in Γ) → IsFirst P A Γ u arms t → IsPlainFirst P A O Γ u t arms → IsScopedFirst P A O Γ u t arms
    first_scoped Γ c n u no_arms t on r p = absurd p
    first_scoped Γ c n u (arm q b arms) t on r p =
        (p.0 c, block_scoped (in_arm P Γ u q) (p.0 c) (clean_arm P Γ u q n) b t (type_more A t (names_in Γ) (names_in (in_arm P Γ u q)) (within_arm P Γ u q) on) (first_parts P A r) p.1)

  -- a recursive function
  recursion_scoped : (Γ : Context) → Closed Γ → IsClean Γ → (g k y : ℕ) (b : Block) → IsRecursionOver P A O Γ g k y → RecursionParts P A Γ g k y b → IsPlainBlock P A O (recursive_context P Γ g k y) b (recursive_type P k y) → IsScopedRecursive P A O Γ g k y b
  recursion_scoped Γ c n g k y b p parts q =
      let T = P.template k in
      let S = scene_of P A O in
      let own : Binds S (symbol_of g) T Γ = (refl, parts.0, p.1, c) in
      let inner : Binds S (symbol_of y) (argument_of T) (bind g T Γ) = (refl, parts.1, p.2, closed_bind S (symbol_of g) T Γ own) in
      (block_scoped (recursive_context P Γ g k y) (closed_bind S (symbol_of y) (argument_of T) (bind g T Γ) inner) (clean_bind (bind g T Γ) y (argument_of T) (clean_bind Γ g T n)) b (recursive_type P k y) p.3 parts.2 q, p.0, own, inner, p.1.0)

  given_scoped : (Γ : Context) → Closed Γ → IsClean Γ → (b : Block) → Gives P A Γ b → IsPlainGiven P A O Γ b → IsScopedGiven P A O Γ b × Closed (last_context P Γ b) × IsClean (last_context P Γ b) × IsTypeOver (scene_of P A O) (names_in (last_context P Γ b)) (last_type P Γ b)
  given_scoped Γ c n (last l o) h p =
      (operation_scoped Γ c n o (type_of P Γ o) (given_last P A h) p.0 (given Γ o p.1), c, n, type_over Γ c o p.0 p.1)
  given_scoped Γ c n (binding x l o b) h p =
      let parts = given_binding P A h in
      let binds : Binds (scene_of P A O) (symbol_of x) (type_of P Γ o) Γ = (refl, parts.1, type_over Γ c o p.0 p.1, c) in
      let rest = given_scoped (bind x (type_of P Γ o) Γ) (closed_bind (scene_of P A O) (symbol_of x) (type_of P Γ o) Γ binds) (clean_bind Γ x (type_of P Γ o) n) b parts.2 p.2 in
      ((operation_scoped Γ c n o (type_of P Γ o) parts.0 p.0 (given Γ o p.1), binds, rest.0), rest.1, rest.2, rest.3)
  given_scoped Γ c n (recursive g k y b d) h p =
      let T = P.template k in
      let parts = recursive_given P A h in
      let r = recursion_scoped Γ c n g k y b p.0 parts.0 p.1 in
      let rest = given_scoped (bind g T Γ) (closed_bind (scene_of P A O) (symbol_of g) T Γ r.2) (clean_bind Γ g T n) d parts.1 p.2 in
      ((r, rest.0), rest.1, rest.2, rest.3)

  pub program_scoped : (V : Symbols) (Γ : Context) (p : Program) → Closed Γ → IsClean Γ → Checks P A Γ p → IsPlainProgram P A O V Γ p → IsScopedProgram P A O V Γ p
  program_scoped V Γ no_items c n h s = tt
  program_scoped V Γ (define x l k b rest) c n h s =
      let parts = define_parts P A h in
      let block = given_scoped Γ c n b parts.0 s.1 in
      let binds : Binds (scene_of P A O) (symbol_of x) (last_type P Γ b) (last_context P Γ b) = (refl, parts.1, block.3, block.1) in
      (s.0, block.0, binds, s.2, program_scoped (with_symbol V (symbol_of x)) (bind x (last_type P Γ b) (last_context P Γ b)) rest (closed_bind (scene_of P A O) (symbol_of x) (last_type P Γ b) (last_context P Γ b) binds) (clean_bind (last_context P Γ b) x (last_type P Γ b) block.2) parts.2 s.3)
  program_scoped V Γ (define_recursive g k y b rest) c n h s =
      let T = P.template k in
      let parts = recursive_define P A h in
      let r = recursion_scoped Γ c n g k y b s.1 parts.0 s.2 in
      (s.0, r, program_scoped (with_symbol V (symbol_of g)) (bind g T Γ) rest (closed_bind (scene_of P A O) (symbol_of g) T Γ r.2) (clean_bind Γ g T n) parts.1 s.3)
  program_scoped V Γ (run_unit b rest) c n h s =
      let parts = unit_parts P A h in
      (s.0, block_scoped Γ c n b unit_type (tt, tt) parts.0 s.1, program_scoped V Γ rest c n parts.1 s.2)
  program_scoped V Γ (run_any b rest) c n h s =
      let parts = any_parts P A h in
      (s.0, (given_scoped Γ c n b parts.0 s.1).0, program_scoped V Γ rest c n parts.1 s.2)
