-- The types of operations in well sorted environments.
use Rattle.std.proofs.Common.{◌≡◌, ◌∙◌, ℕ, suc, pos, List, [], ◌∷◌, Some, None, refl, sym, ap, ap₂, subst}
use Rattle.lq_refined_rules.specs.Checks.Basis.{Basis}
use Rattle.lq_refined_rules.specs.Checks.Fitting.{Fits, GiveSimpleTypes}
use Rattle.lq_refined_rules.specs.Checks.Operation.{built_arguments, built_type, datatype_of, empty_type, empty_types, equations_by, field_types, quotient_facts, type_of}
use Rattle.lq_refined_rules.specs.Checks.Pure.{operands_for, pure_atom, pure_type, pure_types, sum_of, type_of_use}
use Rattle.lq_refined_rules.specs.Checks.Ready.{IsReadyOperation, SameType}
use Rattle.lq_refined_rules.specs.Checks.Tree.{Use, Pure, Operation, pure, fun, if_else, match_on, call, tuple, build, make, fetch, store, divide, remainder, assert, assert_false, read, print, map_empty, map_add, map_find}
use Rattle.lq_refined_rules.specs.Checks.Typing.{AreTemplates, Points, Types, HasPure, HavePures, have_none, have_more, HasOperation, has_pure, has_call, has_tuple, has_build, has_make, has_fetch, has_divide, has_remainder}
use Rattle.lq_logic_predicates.specs.Sum as sums
use Rattle.lq_logic_predicates.specs.Sum.{Sum}
use Rattle.lq_logic_predicates.specs.declared.symbol.Symbol.TheVariants.{Position, Value}
use Rattle.lq_sound_forms.specs.Pures.Pures.{EachUse}
use Rattle.lq_sound_forms.proofs.PuresLemmas.Pures.{each_use}
use Rattle.lq_refined_types.specs.Types.Context.{Context}
use Rattle.lq_refined_types.specs.Types.Operations.{applied}
use Rattle.lq_refined_types.specs.Types.Refined.{Refined, Refineds, int_with, bool_with, unit_type, function, tuple_of, array_with, data_with, map_with, type_variable, none, more, Kind, number, object, kind, argument_of, arguments_of, binder_of, element_of, matrix_of, result_of, erased, all_erased}
use Rattle.lq_refined_types.specs.Types.Unfolding.{unfolded}
use Rattle.lq_sound_scope.specs.Scalars.Written.{EachUseIn, IsOperationWritten}
use Rattle.lq_sound_scope.proofs.ScalarsLemmas.Types.{same_kind}
use Rattle.lq_sound_scope.proofs.ScalarsLemmas.Uses.{use_erased}
use Rattle.lq_refined_types.specs.Subtyping.Subtype.{fields_of}
use Rattle.lq_refined_templates.specs.Templates.Scopes.{Unknown, symbols_in}
use Rattle.lq_text_tree.specs.MlType as ml
use Rattle.lq_text_tree.specs.MlType.{MlType, MlTypes}
use Rattle.lq_text_tree.specs.Types as types
use Rattle.lq_text_tree.specs.Types.{Constructor, put_all}
use Rattle.lq_sound_scope.specs.Sorts.Equations.{AreEquationsWellSorted}
use Rattle.lq_sound_scope.specs.Sorts.Sorts.{IsAtomOf, IsNumber, IsWithin, Sorts, with_kind}
use Rattle.lq_sound_scope.specs.Sorts.Types.{ComponentsSorted, PartsSorted, TypeSorted, TypesSorted}
use Rattle.lq_sound_scope.proofs.SortsLemmas.Basics.{both_within, number_within, own_stands, within_kind}
use Rattle.lq_sound_scope.proofs.SortsLemmas.Fields.{FieldsStand, equations_sorted, fields_sorted, fields_within}
use Rattle.lq_sound_scope.proofs.SortsLemmas.Types.{argument_put, cells_same, left_stands, top_within}
use Rattle.lq_sound_adequacy.specs.Obligations.Kinds.{NameKind}
use Rattle.lq_sound_adequacy.specs.Obligations.Sorted.{TwinsAlike}
use Rattle.lq_sound_adequacy.proofs.ObligationsLemmas.Pures as pures
use Rattle.lq_sound_adequacy.proofs.ObligationsLemmas.Pures.{IsFixed, Sorted, are_names, atom_stands, pure_sorted, pure_stands, use_sorted}
use Rattle.lq_sound_adequacy.proofs.ObligationsLemmas.Fields.{operands_leave, operands_stand}

-- ---- arguments without values

module _ (P : Basis) (unknowns : ℕ → Unknown) where
  empty_sorted : (N : Sorts) (t : Refined) → TypeSorted P.setting.constructors unknowns N t → TypeSorted P.setting.constructors unknowns N (empty_type t)
  empty_sorted N (int_with p) h = (tt, (tt, tt))
  empty_sorted N (bool_with p) h = (tt, (tt, tt))
  empty_sorted N unit_type h = h
  empty_sorted N (function x a b) h = h
  empty_sorted N (tuple_of ts) h = h
  empty_sorted N (array_with e p) h = (h.0, (tt, tt))
  empty_sorted N (data_with d ts m p) h = (h.0, (tt, tt))
  empty_sorted N (map_with e p) h = h
  empty_sorted N (type_variable i) h = h

  all_empty_sorted : (N : Sorts) (ts : Refineds) → TypesSorted P.setting.constructors unknowns N ts → TypesSorted P.setting.constructors unknowns N (empty_types ts)
  all_empty_sorted N none h = tt
  all_empty_sorted N (more t ts) h = let x = empty_sorted N t (h.0, h.1) in (x.0, x.1, all_empty_sorted N ts h.2)

  arguments_built : (N : Sorts) (es : List Pure) (ts : Refineds) → TypesSorted P.setting.constructors unknowns N ts
      → TypesSorted P.setting.constructors unknowns N (built_arguments es ts)
  arguments_built N [] ts h = all_empty_sorted N ts h
  arguments_built N (e ∷ es) ts h = h

empty_erased : (t : Refined) → erased t ≡ erased (empty_type t)
empty_erased (int_with p) = refl
empty_erased (bool_with p) = refl
empty_erased unit_type = refl
empty_erased (function x a b) = refl
empty_erased (tuple_of ts) = refl
empty_erased (array_with e p) = refl
empty_erased (data_with d ts m p) = refl
empty_erased (map_with e p) = refl
empty_erased (type_variable i) = refl

all_empty_erased : (ts : Refineds) → all_erased ts ≡ all_erased (empty_types ts)
all_empty_erased none = refl
all_empty_erased (more t ts) = ap₂ ml.more_types (empty_erased t) (all_empty_erased ts)

built_erased : (es : List Pure) (ts : Refineds) → all_erased ts ≡ all_erased (built_arguments es ts)
built_erased [] ts = all_empty_erased ts
built_erased (e ∷ es) ts = refl

module _ (P : Basis) (unknowns : ℕ → Unknown) (K : ℕ → NameKind) (twins : TwinsAlike K)
    (arguments : (i : ℕ) → TypesSorted P.setting.constructors unknowns (pures.N P unknowns K) (P.type_arguments i))
    (agree : (u : ℕ) → P.setting.scopes u ≡ symbols_in (unknowns u).0) (Q : Points) (templates : AreTemplates P Q) (give : GiveSimpleTypes P Q)
    (sorted : (k : ℕ) → TypeSorted P.setting.constructors unknowns (pures.N P unknowns K) (P.template k)) (equations : AreEquationsWellSorted P) where
  abbrev N : Sorts
  N = pures.N P unknowns K

  abbrev Over : Refined → Type 0
  Over t = TypeSorted P.setting.constructors unknowns N t

  abbrev AllOver : Refineds → Type 0
  AllOver ts = TypesSorted P.setting.constructors unknowns N ts

  abbrev Fixed : Use → Type 0
  Fixed = IsFixed P unknowns K

  -- ---- parts of types

  pub element_sorted : (t : Refined) (a : MlType) → erased t ≡ ml.array a → Over t → Over (element_of t)
  element_sorted (array_with e p) a is h = h.0
  element_sorted (map_with e p) a is h = cc
  element_sorted (int_with p) a is h = cc
  element_sorted (bool_with p) a is h = cc
  element_sorted unit_type a is h = cc
  element_sorted (function x b c) a is h = cc
  element_sorted (tuple_of ts) a is h = cc
  element_sorted (data_with d ts n p) a is h = cc
  element_sorted (type_variable i) a is h = cc

  pub argument_sorted : (t : Refined) → Over t → Over (argument_of t)
  argument_sorted (function None a b) h = (h.0.0, h.0.1)
  argument_sorted (function (Some x) a b) h = (h.0.1, h.0.2)
  argument_sorted (int_with p) h = (tt, tt)
  argument_sorted (bool_with p) h = (tt, tt)
  argument_sorted unit_type h = (tt, tt)
  argument_sorted (tuple_of ts) h = (tt, tt)
  argument_sorted (array_with e p) h = (tt, tt)
  argument_sorted (data_with d ts n p) h = (tt, tt)
  argument_sorted (map_with e p) h = (tt, tt)
  argument_sorted (type_variable i) h = (tt, tt)

  called_sorted : (Γ : Context) (e : Pure) → IsAtomOf N (kind (pure_type P Γ e)) (pure_atom P Γ e) → (t : Refined) → Over t
      → SameType (pure_type P Γ e) (argument_of t) → Over (applied P.setting.scopes (binder_of t) (pure_atom P Γ e) (result_of t))
  called_sorted Γ e o (function None a b) h same = (h.0.2, h.0.3)
  called_sorted Γ e o (function (Some x) a b) h same =
      argument_put P.setting.constructors unknowns P.setting.scopes agree N (are_names P unknowns K twins) x (kind a) (pure_atom P Γ e) h.0.0
      (subst (λ (k : Kind). IsAtomOf N k (pure_atom P Γ e)) (same_kind (pure_type P Γ e) a same) o) b (h.0.3, h.0.4)
  called_sorted Γ e o (int_with p) h same = (tt, tt)
  called_sorted Γ e o (bool_with p) h same = (tt, tt)
  called_sorted Γ e o unit_type h same = (tt, tt)
  called_sorted Γ e o (tuple_of ts) h same = (tt, tt)
  called_sorted Γ e o (array_with u p) h same = (tt, tt)
  called_sorted Γ e o (data_with d ts n p) h same = (tt, tt)
  called_sorted Γ e o (map_with u p) h same = (tt, tt)
  called_sorted Γ e o (type_variable i) h same = (tt, tt)

  -- ---- numbers

  with_v : (t : Sum) → IsNumber N t → IsNumber (with_kind N number Value) t
  with_v t h = number_within N (with_kind N number Value) (within_kind N number Value) t h

  facts_sorted : (x y : Sum) → IsNumber (with_kind N number Value) x → PartsSorted unknowns (with_kind N number Value) (quotient_facts x y)
  facts_sorted x (sums.whole (pos (suc c))) o =
      let v = own_stands N number Value in
      (((((tt, o), ((tt, v), o)), (o, ((tt, v), tt))), (((o, tt), (o, (tt, v))), ((tt, v), (o, tt)))), tt)
  facts_sorted x _ o = tt

  -- ---- expressions

  pub number_stands : (Δ : Types) (Γ : Context) → Fits Δ Γ → Sorted P unknowns K Γ → {e : Pure} → HasPure Q Δ e ml.int → EachUse Fixed e → IsNumber N (sum_of e)
  number_stands Δ Γ f s h w = pure_stands P unknowns K twins arguments agree Q templates give Δ Γ f s h w

  pub expression_sorted : (Δ : Types) (Γ : Context) → Fits Δ Γ → Sorted P unknowns K Γ → {e : Pure} {a : MlType} → HasPure Q Δ e a → EachUse Fixed e
      → Over (pure_type P Γ e)
  expression_sorted Δ Γ f s h w = pure_sorted P unknowns K twins arguments agree Q templates give Δ Γ f s h w

  tuple_sorted : (Δ : Types) (Γ : Context) → Fits Δ Γ → Sorted P unknowns K Γ → {es : List Pure} {us : MlTypes} → HavePures Q Δ es us → EachUseIn Fixed es
      → (M : Sorts) → IsWithin N M → (j : ℕ) → ComponentsSorted P.setting.constructors unknowns N M j (pure_types P Γ es)
  tuple_sorted Δ Γ f s have_none w M v j = tt
  tuple_sorted Δ Γ f s (have_more {e = e} h hs) w M v j =
      let t = pure_type P Γ e in
      let x = expression_sorted Δ Γ f s h w.0 in
      let V = with_kind M (kind t) (Position (suc j)) in
      (x.0, top_within unknowns N M v t x.1, tuple_sorted Δ Γ f s hs w.1 V (both_within N M V v (within_kind M (kind t) (Position (suc j)))) (suc j))

  -- ---- constructors

  -- of a constructor of a template: its value, and what its operands are to have
  abbrev BuiltBy : Context → ℕ → List Pure → Refined → Type 0
  BuiltBy Γ c es t =
      let θ = operands_for P Γ 0 es in
      Over (data_with (datatype_of t) (built_arguments es (arguments_of t)) (matrix_of t) (equations_by P c θ))
      × AllOver (unfolded P.setting.scopes θ (datatype_of t) (arguments_of t) (matrix_of t) c (fields_of (P.setting.constructors c)))

  pub built_sorted : (Δ : Types) (Γ : Context) → Fits Δ Γ → Sorted P unknowns K Γ → (p c : ℕ) (es : List Pure) (k : Constructor) (us : MlTypes)
      → P.setting.constructors c ≡ Some k → erased (P.template p) ≡ ml.named k.datatype us → HavePures Q Δ es (put_all (types.type_at us) k.fields)
      → EachUseIn Fixed es → Over (built_type P Γ p c es) × AllOver (field_types P Γ p c es)
  built_sorted Δ Γ f s p c es k us e g h w = by (P.template p) (sorted p) g
    where
      by : (t : Refined) → Over t → erased t ≡ ml.named k.datatype us → BuiltBy Γ c es t
      by (data_with d ts M q) o g =
          let θ = operands_for P Γ 0 es in
          let is : fields_of (P.setting.constructors c) ≡ k.fields = ap fields_of e in
          let arguments_are : us ≡ all_erased ts = cc in
          let stand : FieldsStand N (all_erased ts) θ 0 k.fields = subst (λ (vs : MlTypes). FieldsStand N vs θ 0 k.fields) arguments_are
          (operands_stand P unknowns K twins arguments agree Q templates give Δ Γ f s us 0 es k.fields h w) in
          let V = with_kind N object Value in
          let left = operands_leave P Γ 0 es in (
            (
              (arguments_built P unknowns N es ts o.0.0, cells_same P.setting.constructors unknowns d (all_erased ts) (all_erased (built_arguments es ts)) M (built_erased es ts) o.0.1),
              equations_sorted unknowns V (all_erased ts) θ k.fields (left_stands V θ Value left object (own_stands N object Value))
                  (fields_within N V (within_kind N object Value) (all_erased ts) θ 0 k.fields stand) (P.equations c) (equations c k e),
            ),
            fields_sorted P.setting.constructors unknowns P.setting.scopes agree N θ left d ts M c
                (subst (λ (fs : MlTypes). FieldsStand N (all_erased ts) θ 0 fs) (sym is) stand) o.0.0 o.0.1 0 (fields_of (P.setting.constructors c)),
          )
      by (int_with q) o g = cc
      by (bool_with q) o g = cc
      by unit_type o g = cc
      by (function x a b) o g = cc
      by (tuple_of ts) o g = cc
      by (array_with i q) o g = cc
      by (map_with i q) o g = cc
      by (type_variable i) o g = cc

  -- ---- operations

  module _ (C : Use → Type 0) (fixed : (u : Use) → C u → IsFixed P unknowns K u) where
    pub each_fixed : (e : Pure) → EachUse C e → EachUse Fixed e
    each_fixed e w = each_use C Fixed fixed e w

    pub all_fixed : (es : List Pure) → EachUseIn C es → EachUseIn Fixed es
    all_fixed [] w = tt
    all_fixed (e ∷ es) w = (each_fixed e w.0, all_fixed es w.1)

    pub operation_sorted : (Δ : Types) (Γ : Context) → Fits Δ Γ → Sorted P unknowns K Γ → (o : Operation) {a : MlType} → HasOperation P Q Δ o a
        → IsOperationWritten P C o → IsReadyOperation P Γ o (type_of P Γ o) → Over (type_of P Γ o)
    operation_sorted Δ Γ f s (pure e) (has_pure h) w ready = expression_sorted Δ Γ f s h (each_fixed e w)
    operation_sorted Δ Γ f s (fun p y b) h w ready = sorted p
    operation_sorted Δ Γ f s (if_else p c a b) h w ready = sorted p
    operation_sorted Δ Γ f s (match_on p u arms) h w ready = sorted p
    operation_sorted Δ Γ f s (call g e) (has_call h k) w ready =
        called_sorted Γ e (atom_stands P unknowns K twins arguments agree Q templates give Δ Γ f s k (each_fixed e w.1)) (pure_type P Γ g)
        (expression_sorted Δ Γ f s h (each_fixed g w.0)) ready
    operation_sorted Δ Γ f s (tuple es) (has_tuple h) w ready = (tuple_sorted Δ Γ f s h (all_fixed es w) N (λ k x e. e) 0, tt)
    operation_sorted Δ Γ f s (build p c es) (has_build {k = k} {us = us} e n q h) w ready =
        (built_sorted Δ Γ f s p c es k us e (templates.templates p ∙ q) h (all_fixed es w.0)).0
    operation_sorted Δ Γ f s (make p n e) (has_make q h k) w ready =
        let V = with_kind N object Value in
        (sorted p, ((own_stands N object Value, number_within N V (within_kind N object Value) (sum_of n) (number_stands Δ Γ f s h (each_fixed n w.0))), tt))
    operation_sorted Δ Γ f s (fetch u i) (has_fetch {a = a} e h) w ready =
        element_sorted (type_of_use P Γ u) a (use_erased P Q templates Δ Γ f u ∙ e) (use_sorted P unknowns K twins arguments agree Γ s u)
    operation_sorted Δ Γ f s (store u i e) h w ready = (tt, tt)
    operation_sorted Δ Γ f s (divide x y) (has_divide h k) w ready =
        let v = own_stands N number Value in
        let a = with_v (sum_of x) (number_stands Δ Γ f s h (each_fixed x w.0)) in
        let b = with_v (sum_of y) (number_stands Δ Γ f s k (each_fixed y w.1)) in
        (tt, ((v, (a, b)), facts_sorted (sum_of x) (sum_of y) a))
    operation_sorted Δ Γ f s (remainder x y) (has_remainder h k) w ready =
        let v = own_stands N number Value in
        let a = with_v (sum_of x) (number_stands Δ Γ f s h (each_fixed x w.0)) in
        let b = with_v (sum_of y) (number_stands Δ Γ f s k (each_fixed y w.1)) in
        (tt, ((v, (a, b)), ((((a, tt), (b, tt)), ((tt, v), (v, b))), tt)))
    operation_sorted Δ Γ f s (assert e) h w ready = (tt, tt)
    operation_sorted Δ Γ f s (assert_false p) h w ready = sorted p
    operation_sorted Δ Γ f s (read e) h w ready = (tt, tt)
    operation_sorted Δ Γ f s (print e) h w ready = (tt, tt)
    operation_sorted Δ Γ f s (map_empty p) h w ready = absurd w
    operation_sorted Δ Γ f s (map_add p k e m) h w ready = absurd w
    operation_sorted Δ Γ f s (map_find k m) h w ready = absurd w
