-- What operations and blocks are asked for is well sorted: by recursion over blocks.
use Rattle.std.proofs.Common.{◌≡◌, ◌∙◌, inl, inr, ℕ, Bool, true, false, ◌==◌, cond, List, [], ◌∷◌, ◌++◌, Some, None, refl, sym, ap, subst}
use Rattle.std.specs.List.{All}
use Rattle.std.proofs.lemmas.List.Elements.{All-nil, All-cons, All-append}
use Rattle.lq_base_names.specs.declared.place.Place.{Place}
use Rattle.lq_refined_rules.specs.Checks.Basis.{Basis}
use Rattle.lq_refined_rules.specs.Checks.Binders.{AreNewNames}
use Rattle.lq_refined_rules.specs.Checks.Fitting.{Fits, fits_bind, fits_guard, GiveSimpleTypes}
use Rattle.lq_refined_rules.specs.Checks.Listing.{from}
use Rattle.lq_refined_rules.specs.Checks.Match.{in_arm, is_data_match, is_datatype, matched_constructors, missing_context, value_as}
use Rattle.lq_refined_rules.specs.Checks.Operation.{bind, body_context, body_type, equations_by, field_types, in_range, last_context, last_type, not_negative, not_zero, recursive_context, recursive_type, type_of}
use Rattle.lq_refined_rules.specs.Checks.Pure.{formula_of, pure_type, sum_of, type_of_use}
use Rattle.lq_refined_rules.specs.Checks.Ready.{IsReadyBlock, IsReadyCase, IsReadyDefault, IsReadyFirst, IsReadyGiven, IsReadyOperation, SameType, Where}
use Rattle.lq_refined_rules.specs.Checks.Tree.{names_of, is_arm_of, has_default, passes_on, takes_all, Use, Pattern, Arms, no_arms, arm, Pure, Operation, pure, fun, if_else, match_on, call, tuple, build, make, fetch, store, divide, remainder, assert, assert_false, read, print, map_empty, map_add, map_find, Block, last, binding, recursive}
use Rattle.lq_refined_rules.specs.Checks.Typing as typing
use Rattle.lq_refined_rules.specs.Checks.Typing.{AreTemplates, IsPointed, Points, Types, HasPure, HavePures, have_none, have_more, HasPattern, HasOperation, has_fun, has_if, has_match, has_call, has_build, has_make, has_fetch, has_store, has_divide, has_remainder, has_assert, HaveArms, HasBlock, HasEnd}
use Rattle.lq_refined_rules.specs.Obligations.Obligation as asks
use Rattle.lq_refined_rules.specs.Obligations.Obligation.{Obligation}
use Rattle.lq_refined_rules.specs.Obligations.Obligations.{each, demand, subtyping, operands, of_operation, of_block, of_constructor, of_default, of_first, of_given, of_recursive}
use Rattle.lq_refined_types.specs.Parts.Part.{known}
use Rattle.lq_refined_types.specs.Parts.Substitution.{of_sum, swap}
use Rattle.lq_logic_predicates.specs.Formula.{Formula, falsity, negation}
use Rattle.lq_logic_predicates.specs.Sum.{var}
use Rattle.lq_refined_types.specs.Types.Context.{Context, guard}
use Rattle.lq_refined_types.specs.Types.Operations.{applied, atom_of, renamed, symbol_of}
use Rattle.lq_refined_types.specs.Types.Refined.{Refined, Refineds, int_with, bool_with, unit_type, function, tuple_of, array_with, data_with, map_with, type_variable, none, more, Kind, object, kind, argument_of, element_of, erased}
use Rattle.lq_refined_types.proofs.TypesLemmas.Erasing.{type_by-erased}
use Rattle.lq_sound_scope.specs.Scalars.Written.{AreArmsWritten, EachUseIn, IsBlockWritten, IsOperationWritten}
use Rattle.lq_sound_scope.proofs.ScalarsLemmas.Typings.{RecursiveTyping, arm_typing, argument_in, binding_typing, end_binding_typing, end_last_fits, end_last_typing, end_recursive_typing, fun_typing, last_typing, match_typing, recursive_typing, result_in}
use Rattle.lq_sound_scope.proofs.ScalarsLemmas.Uses.{use_erased}
use Rattle.lq_refined_types.specs.Subtyping.Implication.{of_argument, of_assertion, of_divisor, of_flow, of_length, of_index, of_case, Origin}
use Rattle.lq_refined_templates.specs.Templates.Scopes.{Unknown, symbols_in}
use Rattle.lq_text_tree.specs.MlType as ml
use Rattle.lq_text_tree.specs.MlType.{MlType, MlTypes}
use Rattle.lq_sound_scope.specs.Sorts.Equations.{AreEquationsWellSorted}
use Rattle.lq_sound_scope.specs.Sorts.Sorts.{IsAtomOf, IsNumber, IsWellSorted, Sorts}
use Rattle.lq_sound_scope.specs.Sorts.Types.{TypeSorted, TypesSorted}
use Rattle.lq_sound_scope.proofs.SortsLemmas.Types.{parameter_put}
use Rattle.lq_sound_adequacy.specs.Obligations.Kinds.{ArmsKinds, BlockKinds, GivenKinds, NameKind, OperationKinds, PatternKinds, name_kind}
use Rattle.lq_sound_adequacy.specs.Obligations.Sorted.{IsSortedObligation, TwinsAlike}
use Rattle.lq_sound_adequacy.proofs.ObligationsLemmas.Arms.{arm_sorted}
use Rattle.lq_sound_adequacy.proofs.ObligationsLemmas.Cases.{missing_sorted}
use Rattle.lq_sound_adequacy.proofs.ObligationsLemmas.Operations as operations
use Rattle.lq_sound_adequacy.proofs.ObligationsLemmas.Pures as pures
use Rattle.lq_sound_adequacy.proofs.ObligationsLemmas.Pures.{IsFixed, Sorted, are_names, bind_sorted, name_has, pure_stands, use_has, use_sorted}

module _ (P : Basis) (unknowns : ℕ → Unknown) (K : ℕ → NameKind) (twins : TwinsAlike K)
    (arguments : (i : ℕ) → TypesSorted P.setting.constructors unknowns (pures.N P unknowns K) (P.type_arguments i))
    (agree : (u : ℕ) → P.setting.scopes u ≡ symbols_in (unknowns u).0) (Q : Points) (templates : AreTemplates P Q) (give : GiveSimpleTypes P Q)
    (sorted : (k : ℕ) → TypeSorted P.setting.constructors unknowns (pures.N P unknowns K) (P.template k)) (equations : AreEquationsWellSorted P)
    (only : (c : ℕ) → P.setting.constructors c ≡ None → P.equations c ≡ []) (C : Use → Type 0) (fixed : (u : Use) → C u → IsFixed P unknowns K u) where
  abbrev N : Sorts
  N = pures.N P unknowns K

  abbrev Over : Refined → Type 0
  Over t = TypeSorted P.setting.constructors unknowns N t

  abbrev Good : Context → Type 0
  Good = Sorted P unknowns K

  -- ---- lists of obligations

  abbrev IsS : Obligation → Type 0
  IsS = IsSortedObligation P unknowns N

  abbrev pub AllSorted : List Obligation → Type 0
  AllSorted os = All IsS os

  none_sorted : AllSorted []
  none_sorted = All-nil IsS

  pub both : (os ps : List Obligation) → AllSorted os → AllSorted ps → AllSorted (os ++ ps)
  both os ps a b = All-append IsS os ps a b

  each_sorted : (f : ℕ → List Obligation) → ((c : ℕ) → AllSorted (f c)) → (cs : List ℕ) → AllSorted (each f cs)
  each_sorted f h [] = none_sorted
  each_sorted f h (c ∷ cs) = both (f c) (each f cs) (h c) (each_sorted f h cs)

  -- one of two by a test, of one of two
  by_test : (b : Bool) (R S : Type 0) (os ps : List Obligation) → Where b R S → (b ≡ true → R → AllSorted os) → (b ≡ false → S → AllSorted ps)
      → AllSorted (cond b os ps)
  by_test true R S os ps h f g = f refl h
  by_test false R S os ps h f g = g refl h

  -- what doesn't pass its type on is ready for any
  ready_given : (Γ : Context) (o : Operation) (t s : Refined) → passes_on o ≡ false → IsReadyOperation P Γ o t → IsReadyOperation P Γ o s
  ready_given Γ (fun p y b) t s e r = cc
  ready_given Γ (if_else p c a b) t s e r = cc
  ready_given Γ (match_on p u arms) t s e r = cc
  ready_given Γ (pure x) t s e r = r
  ready_given Γ (call g a) t s e r = r
  ready_given Γ (tuple es) t s e r = r
  ready_given Γ (build p c es) t s e r = r
  ready_given Γ (make p n x) t s e r = r
  ready_given Γ (fetch u i) t s e r = r
  ready_given Γ (store u i x) t s e r = r
  ready_given Γ (divide x y) t s e r = r
  ready_given Γ (remainder x y) t s e r = r
  ready_given Γ (assert x) t s e r = r
  ready_given Γ (assert_false p) t s e r = r
  ready_given Γ (read x) t s e r = r
  ready_given Γ (print x) t s e r = r
  ready_given Γ (map_empty p) t s e r = r
  ready_given Γ (map_add p k x m) t s e r = r
  ready_given Γ (map_find k m) t s e r = r

  demand_sorted : (Γ : Context) → Good Γ → (p : Formula) (o : Origin) → IsWellSorted N p → AllSorted (demand P Γ p o)
  demand_sorted Γ good p o h =
      All-cons IsS (record { context = Γ; asked = asks.holds p; origin = o }) [] (inl (record { environment = good.0; asked = h })) none_sorted

  pub subtyping_sorted : (Γ : Context) → Good Γ → (l r : Refined) (o : Origin) → Over l → Over r → AllSorted (subtyping P Γ l r o)
  subtyping_sorted Γ good l r o h w =
      All-cons IsS (record { context = Γ; asked = asks.fits l r; origin = o }) [] (inl (record { environment = good.0; asked = (h, w) })) none_sorted

  case_sorted : (Γ : Context) → Good Γ → (u : Use) → IsAtomOf N object (of_sum (var (symbol_of u.name))) → (c : ℕ) (l : Place)
      → AllSorted (demand P (missing_context P Γ u c) falsity (from l of_case))
  case_sorted Γ good u has c l =
      All-cons IsS (record { context = missing_context P Γ u c; asked = asks.holds falsity; origin = from l of_case }) []
      (inr
      (record {
        reason = refl;
        asked = refl;
        before = Γ;
        equations = equations_by P c (value_as u.name ∷ []);
        are = refl;
        environment = good.0;
        constructor = c;
        sorted = missing_sorted P unknowns equations only N u.name has c;
      })) none_sorted

  -- ---- expressions

  abbrev Fixed : Use → Type 0
  Fixed = IsFixed P unknowns K

  number_at : (Δ : Types) (Γ : Context) → Fits Δ Γ → Good Γ → (e : Pure) → HasPure Q Δ e ml.int → EachUseIn C (e ∷ []) → IsNumber N (sum_of e)
  number_at Δ Γ f s e h w =
      pure_stands P unknowns K twins arguments agree Q templates give Δ Γ f s h
      (operations.each_fixed P unknowns K twins arguments agree Q templates give sorted equations C fixed e w.0)

  condition_at : (Δ : Types) (Γ : Context) → Fits Δ Γ → Good Γ → (e : Pure) → HasPure Q Δ e ml.bool → EachUseIn C (e ∷ []) → IsWellSorted N (formula_of e)
  condition_at Δ Γ f s e h w =
      pure_stands P unknowns K twins arguments agree Q templates give Δ Γ f s h
      (operations.each_fixed P unknowns K twins arguments agree Q templates give sorted equations C fixed e w.0)

  expression_at : (Δ : Types) (Γ : Context) → Fits Δ Γ → Good Γ → (e : Pure) {a : MlType} → HasPure Q Δ e a → EachUseIn C (e ∷ []) → Over (pure_type P Γ e)
  expression_at Δ Γ f s e h w =
      operations.expression_sorted P unknowns K twins arguments agree Q templates give sorted equations Δ Γ f s h
      (operations.each_fixed P unknowns K twins arguments agree Q templates give sorted equations C fixed e w.0)

  range_at : (Δ : Types) (Γ : Context) → Fits Δ Γ → Good Γ → (u : Use) → C u → {a : MlType} → typing.type_of_use Q Δ u ≡ ml.array a → (i : Pure)
      → HasPure Q Δ i ml.int → EachUseIn C (i ∷ []) → IsWellSorted N (in_range u i)
  range_at Δ Γ f s u c {a = a} e i h w =
      let n = number_at Δ Γ f s i h w in
      ((tt, n), (n, array_name (type_of_use P Γ u) u.name (use_erased P Q templates Δ Γ f u ∙ e) (use_has P unknowns K twins arguments agree Γ s u (fixed u c))))
    where
      array_name : (t : Refined) (x : ℕ) → erased t ≡ ml.array a → IsAtomOf N (kind t) (atom_of (kind t) (symbol_of x)) → N object (symbol_of x) ≡ true
      array_name (array_with b p) x e h = h
      array_name (int_with p) x e h = cc
      array_name (bool_with p) x e h = cc
      array_name unit_type x e h = cc
      array_name (function y b c) x e h = cc
      array_name (tuple_of ts) x e h = cc
      array_name (data_with d ts m p) x e h = cc
      array_name (map_with b p) x e h = cc
      array_name (type_variable j) x e h = cc

  operands_sorted : (Δ : Types) (Γ : Context) → Fits Δ Γ → Good Γ → (es : List Pure) {us : MlTypes} → HavePures Q Δ es us → EachUseIn C es → (ts : Refineds)
      → TypesSorted P.setting.constructors unknowns N ts → (o : Origin) → AllSorted (operands P Γ es ts o)
  operands_sorted Δ Γ f s [] h w ts a o = none_sorted
  operands_sorted Δ Γ f s (e ∷ es) (have_more h hs) w none a o =
      both (subtyping P Γ (pure_type P Γ e) unit_type o) (operands P Γ es none o)
      (subtyping_sorted Γ s (pure_type P Γ e) unit_type o (expression_at Δ Γ f s e h (w.0, tt)) (tt, tt)) (operands_sorted Δ Γ f s es hs w.1 none a o)
  operands_sorted Δ Γ f s (e ∷ es) (have_more h hs) w (more t ts) a o =
      both (subtyping P Γ (pure_type P Γ e) t o) (operands P Γ es ts o)
      (subtyping_sorted Γ s (pure_type P Γ e) t o (expression_at Δ Γ f s e h (w.0, tt)) (a.0, a.1)) (operands_sorted Δ Γ f s es hs w.1 ts a.2 o)

  -- ---- functions

  abbrev pub BlockSorted : Block → Type 0
  BlockSorted b =
      (Γ : Context) → Good Γ → (t : Refined) → IsBlockWritten P C true b → IsReadyBlock P Γ b t → BlockKinds P K Γ b t → Over t → (Δ : Types) → Fits Δ Γ
      → HasBlock P Q Δ b (erased t) → AllSorted (of_block P Γ b t)

  renamed_same : (x y : ℕ) (k : Kind) (r : Refined) → erased (renamed P.setting.scopes (Some x) (Some y) k r) ≡ erased r
  renamed_same x y k r = by (x == y)
    where
      by : (b : Bool) → erased (cond b r (applied P.setting.scopes (Some x) (atom_of k (symbol_of y)) r)) ≡ erased r
      by true = refl
      by false = type_by-erased P.setting.scopes (swap (symbol_of x) (atom_of k (symbol_of y)) ∷ []) r

  -- the body of a function, against its type
  body_sorted : (y : ℕ) (b : Block) → BlockSorted b → (Γ : Context) → Good Γ → (t : Refined) → IsBlockWritten P C true b
      → IsReadyBlock P (body_context Γ y t) b (body_type P.setting.scopes y t) → K y ≡ name_kind (argument_of t)
      → BlockKinds P K (body_context Γ y t) b (body_type P.setting.scopes y t) → Over t → (Δ : Types) (u v : MlType) → Fits Δ Γ
      → HasBlock P Q ((y, u) ∷ Δ) b v → erased t ≡ ml.arrow u v → AllSorted (of_block P (body_context Γ y t) b (body_type P.setting.scopes y t))
  body_sorted y b block Γ good (function None a r) written ready own kinds h Δ u v fits typed e =
      let f : v ≡ erased r = sym (ap result_in e) in
      block (bind y a Γ) (bind_sorted P unknowns K Γ good y a own (h.0.0, h.0.1)) r written ready kinds (h.0.2, h.0.3) ((y, u) ∷ Δ)
      (fits_bind (ap argument_in e) fits) (subst (λ s. HasBlock P Q ((y, u) ∷ Δ) b s) f typed)
  body_sorted y b block Γ good (function (Some x) a r) written ready own kinds h Δ u v fits typed e =
      let R = renamed P.setting.scopes (Some x) (Some y) (kind a) r in
      let f : v ≡ erased R = sym (ap result_in e) ∙ sym (renamed_same x y (kind a) r) in
      let o = parameter_put P.setting.constructors unknowns P.setting.scopes agree N (are_names P unknowns K twins) (kind a) x y h.0.0 (name_has K y a own) r
      (h.0.3, h.0.4) in
      block (bind y a Γ) (bind_sorted P unknowns K Γ good y a own (h.0.1, h.0.2)) R written ready kinds o ((y, u) ∷ Δ)
      (fits_bind (ap argument_in e) fits) (subst (λ s. HasBlock P Q ((y, u) ∷ Δ) b s) f typed)
  body_sorted y b block Γ good (int_with p) written ready own kinds h Δ u v fits typed e = cc
  body_sorted y b block Γ good (bool_with p) written ready own kinds h Δ u v fits typed e = cc
  body_sorted y b block Γ good unit_type written ready own kinds h Δ u v fits typed e = cc
  body_sorted y b block Γ good (tuple_of ts) written ready own kinds h Δ u v fits typed e = cc
  body_sorted y b block Γ good (array_with i p) written ready own kinds h Δ u v fits typed e = cc
  body_sorted y b block Γ good (data_with d ts n p) written ready own kinds h Δ u v fits typed e = cc
  body_sorted y b block Γ good (map_with i p) written ready own kinds h Δ u v fits typed e = cc
  body_sorted y b block Γ good (type_variable i) written ready own kinds h Δ u v fits typed e = cc

  -- a recursive function, by what its body is asked for
  pub recursive_by : (b : Block) → BlockSorted b → (Γ : Context) → Good Γ → (g p y : ℕ) → IsBlockWritten P C true b
      → IsReadyBlock P (recursive_context P Γ g p y) b (recursive_type P p y) → K g ≡ name_kind (P.template p) → K y ≡ name_kind (argument_of (P.template p))
      → BlockKinds P K (recursive_context P Γ g p y) b (recursive_type P p y) → (Δ : Types) → Fits Δ Γ → RecursiveTyping P Q Δ g p y b
      → AllSorted (of_block P (recursive_context P Γ g p y) b (recursive_type P p y)) × Good (bind g (P.template p) Γ)
  recursive_by b block Γ good g p y written ready own parameter kinds Δ fits typed =
      let t = P.template p in
      let inner = bind_sorted P unknowns K Γ good g t own (sorted p) in (
        body_sorted y b block (bind g t Γ) inner t written ready parameter kinds (sorted p) ((g, Q.point p) ∷ Δ) typed.0 typed.1.0
            (fits_bind (templates.templates p) fits) typed.1.1.0 (templates.templates p ∙ typed.1.1.1),
        inner,
      )

  -- ---- arms

  arm_by : (q : Pattern) (b : Block) → BlockSorted b → (Γ : Context) → Good Γ → (u : Use) → C u → (t : Refined) → IsBlockWritten P C true b
      → IsReadyBlock P (in_arm P Γ u q) b t → PatternKinds P K Γ u q × BlockKinds P K (in_arm P Γ u q) b t → Over t
      → (Δ Θ : Types) → Fits Δ Γ → HasPattern P Δ (typing.type_of_use Q Δ u) q Θ → HasBlock P Q Θ b (erased t) → AllSorted (of_block P (in_arm P Γ u q) b t)
  arm_by q b block Γ good u c t written ready kinds h Δ Θ fits pattern typed =
      block (in_arm P Γ u q) (arm_sorted P unknowns K twins arguments agree Q templates give equations Γ good u (fixed u c) q Δ Θ fits pattern kinds.0) t written
      ready kinds.1 h Θ (give.arms Δ Θ Γ u q fits pattern) typed

  abbrev ArmsSorted : Arms → (Context → Use → Refined → Type 0) → (Context → Use → Refined → List Obligation) → Type 0
  ArmsSorted arms Ready obligations =
      (Γ : Context) → Good Γ → (u : Use) → C u → (t : Refined) → AreArmsWritten P C arms → Ready Γ u t → ArmsKinds P K Γ u arms t → Over t → (Δ : Types)
      → Fits Δ Γ → HaveArms P Q Δ (typing.type_of_use Q Δ u) arms (erased t) → AllSorted (obligations Γ u t)

  -- ---- what typing says

  if_typed : {Δ : Types} {p : ℕ} {c : Pure} {a b : Block} {t : MlType} → HasOperation P Q Δ (if_else p c a b) t
      → HasPure Q Δ c ml.bool × HasBlock P Q Δ a t × HasBlock P Q Δ b t
  if_typed (has_if e h k) = (e, h, k)

  call_typed : {Δ : Types} {g e : Pure} {t : MlType} → HasOperation P Q Δ (call g e) t → (a : MlType) × (HasPure Q Δ g (ml.arrow a t) × HasPure Q Δ e a)
  call_typed (has_call {a = a} h k) = (a, (h, k))

  make_typed : {Δ : Types} {p : ℕ} {n e : Pure} {t : MlType} → HasOperation P Q Δ (make p n e) t
      → HasPure Q Δ n ml.int × ((a : MlType) × HasPure Q Δ e a)
  make_typed (has_make {a = a} q h k) = (h, (a, k))

  fetch_typed : {Δ : Types} {u : Use} {i : Pure} {t : MlType} → HasOperation P Q Δ (fetch u i) t
      → (a : MlType) × ((typing.type_of_use Q Δ u ≡ ml.array a) × HasPure Q Δ i ml.int)
  fetch_typed (has_fetch {a = a} e h) = (a, (e, h))

  store_typed : {Δ : Types} {u : Use} {i e : Pure} {t : MlType} → HasOperation P Q Δ (store u i e) t
      → (a : MlType) × ((typing.type_of_use Q Δ u ≡ ml.array a) × HasPure Q Δ i ml.int × HasPure Q Δ e a)
  store_typed (has_store {a = a} e h k) = (a, (e, h, k))

  divide_typed : {Δ : Types} {x y : Pure} {t : MlType} → HasOperation P Q Δ (divide x y) t → HasPure Q Δ y ml.int
  divide_typed (has_divide h k) = k

  remainder_typed : {Δ : Types} {x y : Pure} {t : MlType} → HasOperation P Q Δ (remainder x y) t → HasPure Q Δ y ml.int
  remainder_typed (has_remainder h k) = k

  assert_typed : {Δ : Types} {e : Pure} {t : MlType} → HasOperation P Q Δ (assert e) t → HasPure Q Δ e ml.bool
  assert_typed (has_assert h) = h

  built_asked : (Δ : Types) (Γ : Context) → Fits Δ Γ → Good Γ → (o : Origin) {p c : ℕ} {es : List Pure} {t : MlType} → HasOperation P Q Δ (build p c es) t
      → EachUseIn C es → AllSorted (operands P Γ es (field_types P Γ p c es) o)
  built_asked Δ Γ f s o {p = p} {c = c} {es = es} (has_build {k = k} {us = us} e n q h) w =
      let x = operations.built_sorted P unknowns K twins arguments agree Q templates give sorted equations Δ Γ f s p c es k us e (templates.templates p ∙ q) h
      (operations.all_fixed P unknowns K twins arguments agree Q templates give sorted equations C fixed es w) in
      operands_sorted Δ Γ f s es h w (field_types P Γ p c es) x.1 o

  -- the variable of a match on a datatype is an object
  data_name : (Γ : Context) → Good Γ → (u : Use) → C u → is_data_match P Γ u ≡ true → IsAtomOf N object (of_sum (var (symbol_of u.name)))
  data_name Γ s u c e = by (type_of_use P Γ u) e (use_has P unknowns K twins arguments agree Γ s u (fixed u c))
    where
      by : (t : Refined) → is_datatype t ≡ true → IsAtomOf N (kind t) (atom_of (kind t) (symbol_of u.name)) → IsAtomOf N object (of_sum (var (symbol_of u.name)))
      by (data_with d ts m p) e h = h
      by (int_with p) e h = cc
      by (bool_with p) e h = cc
      by unit_type e h = cc
      by (function y b c) e h = cc
      by (tuple_of ts) e h = cc
      by (array_with i p) e h = cc
      by (map_with i p) e h = cc
      by (type_variable j) e h = cc

  -- ---- operations and blocks

  mutual
    operation_asked : (o : Operation) (Γ : Context) → Good Γ → (l : Place) (t : Refined) → IsOperationWritten P C o → IsReadyOperation P Γ o t
        → OperationKinds P K Γ o t → Over t → (Δ : Types) → Fits Δ Γ → {a : MlType} → HasOperation P Q Δ o a → erased t ≡ a → AllSorted (of_operation P Γ l o t)
    operation_asked (pure e) Γ good l t written ready kinds h Δ fits typed same = none_sorted
    operation_asked (fun p y b) Γ good l t written ready kinds h Δ fits typed same =
        let f = fun_typing P Q typed in
        body_sorted y b (λ Θ i s w r k c n g d. block_asked b Θ i s w r k c n g d) Γ good t written ready.1 kinds.0 kinds.1 h Δ f.0 f.1.0 fits f.1.1.0
        (same ∙ f.1.1.1)
    operation_asked (if_else p c a b) Γ good l t written ready kinds h Δ fits typed same =
        let d = if_typed typed in
        let φ = condition_at Δ Γ fits good c d.0 (written.0, tt) in
        let x = guard (known (formula_of c)) ∷ Γ in
        let y = guard (known (negation (formula_of c))) ∷ Γ in
        both (of_block P x a t) (of_block P y b t)
        (block_asked a x ((φ, good.0), good.1) t written.1 ready.0 kinds.0 h Δ (fits_guard fits) (subst (λ z. HasBlock P Q Δ a z) (sym same) d.1))
        (block_asked b y ((φ, good.0), good.1) t written.2 ready.1 kinds.1 h Δ (fits_guard fits) (subst (λ z. HasBlock P Q Δ b z) (sym same) d.2))
    operation_asked (match_on p u arms) Γ good l t written ready kinds h Δ fits typed same =
        let cs = matched_constructors P Γ u in
        let d = has_default arms in
        let f = λ (c : ℕ). of_constructor P Γ l u d c t arms in
        let m = subst (λ z. HaveArms P Q Δ (typing.type_of_use Q Δ u) arms z) (sym same) (match_typing P Q typed) in
        by_test (is_data_match P Γ u) (((c : ℕ) → IsReadyCase P Γ u c t arms) × IsReadyDefault P Γ u arms t) (IsReadyFirst P Γ u arms t)
        (each f cs ++ of_default P Γ u arms t) (of_first P Γ u arms t) ready
        (λ is r.
        both (each f cs) (of_default P Γ u arms t)
        (each_sorted f (λ c. constructor_asked arms l d c Γ good u (data_name Γ good u written.0 is) written.0 t written.2 (r.0 c) kinds h Δ fits m) cs)
        (default_asked arms Γ good u written.0 t written.2 r.1 kinds h Δ fits m))
        (λ is r. first_asked arms Γ good u written.0 t written.2 r kinds h Δ fits m)
    operation_asked (call g e) Γ good l t written ready kinds h Δ fits typed same =
        let d = call_typed typed in
        subtyping_sorted Γ good (pure_type P Γ e) (argument_of (pure_type P Γ g)) (from l of_argument) (expression_at Δ Γ fits good e d.1.1 (written.1, tt))
        (operations.argument_sorted P unknowns K twins arguments agree Q templates give sorted equations (pure_type P Γ g)
        (expression_at Δ Γ fits good g d.1.0 (written.0, tt)))
    operation_asked (tuple es) Γ good l t written ready kinds h Δ fits typed same = none_sorted
    operation_asked (build p c es) Γ good l t written ready kinds h Δ fits typed same = built_asked Δ Γ fits good (from l of_argument) typed written.0
    operation_asked (make p n e) Γ good l t written ready kinds h Δ fits typed same =
        let d = make_typed typed in
        both (demand P Γ (not_negative n) (from l of_length)) (subtyping P Γ (pure_type P Γ e) (P.template p) (from l of_argument))
        (demand_sorted Γ good (not_negative n) (from l of_length) (tt, number_at Δ Γ fits good n d.0 (written.0, tt)))
        (subtyping_sorted Γ good (pure_type P Γ e) (P.template p) (from l of_argument) (expression_at Δ Γ fits good e d.1.1 (written.1, tt)) (sorted p))
    operation_asked (fetch u i) Γ good l t written ready kinds h Δ fits typed same =
        let d = fetch_typed typed in
        demand_sorted Γ good (in_range u i) (from l of_index) (range_at Δ Γ fits good u written.0 d.1.0 i d.1.1 (written.1, tt))
    operation_asked (store u i e) Γ good l t written ready kinds h Δ fits typed same =
        let d = store_typed typed in
        let T = type_of_use P Γ u in
        both (demand P Γ (in_range u i) (from l of_index)) (subtyping P Γ (pure_type P Γ e) (element_of T) (from l of_argument))
        (demand_sorted Γ good (in_range u i) (from l of_index) (range_at Δ Γ fits good u written.0 d.1.0 i d.1.1 (written.1, tt)))
        (subtyping_sorted Γ good (pure_type P Γ e) (element_of T) (from l of_argument) (expression_at Δ Γ fits good e d.1.2 (written.2, tt))
        (operations.element_sorted P unknowns K twins arguments agree Q templates give sorted equations T d.0 (use_erased P Q templates Δ Γ fits u ∙ d.1.0)
        (use_sorted P unknowns K twins arguments agree Γ good u)))
    operation_asked (divide x y) Γ good l t written ready kinds h Δ fits typed same =
        demand_sorted Γ good (not_zero y) (from l of_divisor) (number_at Δ Γ fits good y (divide_typed typed) (written.1, tt), tt)
    operation_asked (remainder x y) Γ good l t written ready kinds h Δ fits typed same =
        demand_sorted Γ good (not_zero y) (from l of_divisor) (number_at Δ Γ fits good y (remainder_typed typed) (written.1, tt), tt)
    operation_asked (assert e) Γ good l t written ready kinds h Δ fits typed same =
        demand_sorted Γ good (formula_of e) (from l of_assertion) (condition_at Δ Γ fits good e (assert_typed typed) (written, tt))
    operation_asked (assert_false p) Γ good l t written ready kinds h Δ fits typed same = demand_sorted Γ good falsity (from l of_assertion) tt
    operation_asked (read e) Γ good l t written ready kinds h Δ fits typed same = none_sorted
    operation_asked (print e) Γ good l t written ready kinds h Δ fits typed same = none_sorted
    operation_asked (map_empty p) Γ good l t written ready kinds h Δ fits typed same = absurd written
    operation_asked (map_add p k e n) Γ good l t written ready kinds h Δ fits typed same = absurd written
    operation_asked (map_find k n) Γ good l t written ready kinds h Δ fits typed same = absurd written

    constructor_asked : (arms : Arms) (l : Place) (d : Bool) (c : ℕ) (Γ : Context) → Good Γ → (u : Use)
        → IsAtomOf N object (of_sum (var (symbol_of u.name))) → C u → (t : Refined) → AreArmsWritten P C arms → IsReadyCase P Γ u c t arms
        → ArmsKinds P K Γ u arms t → Over t → (Δ : Types) → Fits Δ Γ → HaveArms P Q Δ (typing.type_of_use Q Δ u) arms (erased t)
        → AllSorted (of_constructor P Γ l u d c t arms)
    constructor_asked no_arms l d c Γ good u has w t written ready kinds h Δ fits typed = missing d
      where
        missing : (b : Bool) → AllSorted (cond b [] (demand P (missing_context P Γ u c) falsity (from l of_case)))
        missing true = none_sorted
        missing false = case_sorted Γ good u has c l
    constructor_asked (arm q b arms) l d c Γ good u has w t written ready kinds h Δ fits typed =
        let Λ = in_arm P Γ u q in
        let e = arm_typing P Q typed in
        by_test (is_arm_of c q) (AreNewNames (names_of q) Γ × IsReadyBlock P Λ b t) (IsReadyCase P Γ u c t arms) (of_block P Λ b t)
        (of_constructor P Γ l u d c t arms) ready
        (λ f r. arm_by q b (λ Θ i s v z k n j g a. block_asked b Θ i s v z k n j g a) Γ good u w t written.0 r.1 kinds.0 h Δ e.0 fits e.1.0 e.1.1)
        (λ f r. constructor_asked arms l d c Γ good u has w t written.1 r kinds.1 h Δ fits e.1.2)

    default_asked : (arms : Arms) → ArmsSorted arms (λ Γ u t. IsReadyDefault P Γ u arms t) (λ Γ u t. of_default P Γ u arms t)
    default_asked no_arms Γ good u w t written ready kinds h Δ fits typed = none_sorted
    default_asked (arm q b arms) Γ good u w t written ready kinds h Δ fits typed =
        let Λ = in_arm P Γ u q in
        let e = arm_typing P Q typed in
        by_test (takes_all q) (AreNewNames (names_of q) Γ × IsReadyBlock P Λ b t) (IsReadyDefault P Γ u arms t) (of_block P Λ b t)
        (of_default P Γ u arms t) ready
        (λ f r. arm_by q b (λ Θ i s v z k n j g a. block_asked b Θ i s v z k n j g a) Γ good u w t written.0 r.1 kinds.0 h Δ e.0 fits e.1.0 e.1.1)
        (λ f r. default_asked arms Γ good u w t written.1 r kinds.1 h Δ fits e.1.2)

    first_asked : (arms : Arms) → ArmsSorted arms (λ Γ u t. IsReadyFirst P Γ u arms t) (λ Γ u t. of_first P Γ u arms t)
    first_asked no_arms Γ good u w t written ready kinds h Δ fits typed = none_sorted
    first_asked (arm q b arms) Γ good u w t written ready kinds h Δ fits typed =
        let e = arm_typing P Q typed in
        arm_by q b (λ Θ i s v z k n j g a. block_asked b Θ i s v z k n j g a) Γ good u w t written.0 ready.1 kinds.0 h Δ e.0 fits e.1.0 e.1.1

    pub block_asked : (b : Block) → BlockSorted b
    block_asked (last l o) Γ good t written ready kinds h Δ fits typed =
        let d = last_typing P Q typed in
        both (of_operation P Γ l o t) (cond (passes_on o) [] (subtyping P Γ (type_of P Γ o) t (from l of_flow)))
        (operation_asked o Γ good l t written.0 ready.0 kinds h Δ fits d refl)
        (by_test (passes_on o) (Unit {0}) (SameType (type_of P Γ o) t) [] (subtyping P Γ (type_of P Γ o) t (from l of_flow)) ready.1 (λ e u. none_sorted)
        (λ e same.
        subtyping_sorted Γ good (type_of P Γ o) t (from l of_flow)
        (operations.operation_sorted P unknowns K twins arguments agree Q templates give sorted equations C fixed Δ Γ fits good o d written.0
        (ready_given Γ o t (type_of P Γ o) e ready.0)) h))
    block_asked (binding x l o b) Γ good t written ready kinds h Δ fits typed =
        let T = type_of P Γ o in
        let d = binding_typing P Q typed in
        let own = operations.operation_sorted P unknowns K twins arguments agree Q templates give sorted equations C fixed Δ Γ fits good o d.1.0 written.0 ready.0 in
        let is = give.operations Δ Γ o d.0 fits d.1.0 d.1.1 in
        both (of_operation P Γ l o T) (of_block P (bind x T Γ) b t) (operation_asked o Γ good l T written.0 ready.0 kinds.0 own Δ fits d.1.0 is)
        (block_asked b (bind x T Γ) (bind_sorted P unknowns K Γ good x T kinds.1 own) t written.2 ready.2 kinds.2 h ((x, d.0) ∷ Δ) (fits_bind is fits) d.1.2)
    block_asked (recursive g p y b c) Γ good t written ready kinds h Δ fits typed =
        let d = recursive_typing P Q typed in
        let r = recursive_by b (λ Θ i s w z k n j f a. block_asked b Θ i s w z k n j f a) Γ good g p y written.1 ready.0.2 kinds.0 kinds.1 kinds.2 Δ fits d.0 in
        both (of_block P (recursive_context P Γ g p y) b (recursive_type P p y)) (of_block P (bind g (P.template p) Γ) c t) r.0
        (block_asked c (bind g (P.template p) Γ) r.1 t written.2 ready.1 kinds.3 h ((g, Q.point p) ∷ Δ) (fits_bind (templates.templates p) fits) d.1)

  -- ---- blocks of which no type is expected

  pub record IsGivenSorted (Γ : Context) (b : Block) (Θ : Types) (a : MlType) : Type 0 where
    pub asked : AllSorted (of_given P Γ b)
    pub good : Good (last_context P Γ b)
    pub own : Over (last_type P Γ b)
    pub fits : Fits Θ (last_context P Γ b)
    pub typed : erased (last_type P Γ b) ≡ a

  pub given_asked : (b : Block) (Γ : Context) → Good Γ → IsBlockWritten P C false b → IsReadyGiven P Γ b → GivenKinds P K Γ b → (Δ Θ : Types) (a : MlType)
      → Fits Δ Γ → HasEnd P Q Δ b Θ a → IsGivenSorted Γ b Θ a
  given_asked (last l o) Γ good written ready kinds Δ Θ a fits typed =
      let d = end_last_typing P Q typed in
      let own = operations.operation_sorted P unknowns K twins arguments agree Q templates give sorted equations C fixed Δ Γ fits good o d.0 written.0 ready in
      let is = give.operations Δ Γ o a fits d.0 d.1 in
      record {
        asked = operation_asked o Γ good l (type_of P Γ o) written.0 ready kinds own Δ fits d.0 is;
        good = good;
        own = own;
        fits = end_last_fits P Q typed fits;
        typed = is;
      }
  given_asked (binding x l o b) Γ good written ready kinds Δ Θ a fits typed =
      let T = type_of P Γ o in
      let d = end_binding_typing P Q typed in
      let own = operations.operation_sorted P unknowns K twins arguments agree Q templates give sorted equations C fixed Δ Γ fits good o d.1.0 written.0 ready.0 in
      let is = give.operations Δ Γ o d.0 fits d.1.0 d.1.1 in
      let r = given_asked b (bind x T Γ) (bind_sorted P unknowns K Γ good x T kinds.1 own) written.2 ready.2 kinds.2 ((x, d.0) ∷ Δ) Θ a (fits_bind is fits) d.1.2 in
      record {
        asked = both (of_operation P Γ l o T) (of_given P (bind x T Γ) b) (operation_asked o Γ good l T written.0 ready.0 kinds.0 own Δ fits d.1.0 is) r.asked;
        good = r.good;
        own = r.own;
        fits = r.fits;
        typed = r.typed;
      }
  given_asked (recursive g p y b c) Γ good written ready kinds Δ Θ a fits typed =
      let d = end_recursive_typing P Q typed in
      let q = recursive_by b (block_asked b) Γ good g p y written.1 ready.0.2 kinds.0 kinds.1 kinds.2 Δ fits d.0 in
      let r = given_asked c (bind g (P.template p) Γ) q.1 written.2 ready.1 kinds.3 ((g, Q.point p) ∷ Δ) Θ a (fits_bind (templates.templates p) fits) d.1 in
      record {
        asked = both (of_recursive P Γ g p y b) (of_given P (bind g (P.template p) Γ) c) q.0 r.asked;
        good = r.good;
        own = r.own;
        fits = r.fits;
        typed = r.typed;
      }
