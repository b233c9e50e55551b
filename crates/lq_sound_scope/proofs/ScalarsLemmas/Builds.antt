-- Values of constructors, and the types that their operands are to have.
use Rattle.std.proofs.Common.{◌≡◌, ◌∙◌, ℕ, suc, Bool, List, [], ◌∷◌, length, Some, refl, sym, ap, ap₂, subst, arith}
use Rattle.lq_refined_rules.specs.Checks.Basis.{Basis}
use Rattle.lq_refined_rules.specs.Checks.Operation.{built_arguments, datatype_of, empty_type, empty_types, equations_by}
use Rattle.lq_refined_rules.specs.Checks.Pure.{operands_for, pure_atom, pure_type}
use Rattle.lq_refined_rules.specs.Checks.Ready.{SameTypes}
use Rattle.lq_refined_rules.specs.Checks.Tree.{Pure}
use Rattle.lq_sound_values.specs.Inclusion.Symbols.{Symbols}
use Rattle.lq_sound_scope.specs.Scopes.Over.{CellsOver, Names, TypeOver, TypesOver, kind_of, of_any_sort, with_sort}
use Rattle.lq_sound_scope.proofs.ScopesLemmas.Made.{own_kind}
use Rattle.lq_sound_scope.proofs.ScopesLemmas.Symbols.{own_one, within_sort}
use Rattle.lq_sound_scope.specs.Operations.Laws.{KeepNames}
use Rattle.lq_sound_scope.specs.Operations.Puts.{HasKind}
use Rattle.lq_refined_types.specs.Parts.Substitution.{Subst}
use Rattle.lq_logic_predicates.specs.declared.symbol.Symbol.TheVariants.{Position, Value}
use Rattle.lq_sound_forms.specs.Pures.Pures.{IsOf}
use Rattle.lq_refined_types.specs.Types.Context.{Context}
use Rattle.lq_refined_types.specs.Types.Refined.{Matrix, Refined, Refineds, none, more, int_with, bool_with, unit_type, function, tuple_of, array_with, data_with, map_with, type_variable, object, kind, arguments_of, matrix_of, count, erased, all_erased}
use Rattle.lq_refined_types.specs.Types.Unfolding.{is_again, unfolded_from}
use Rattle.lq_refined_types.proofs.TypesLemmas.Erasing.{unfolded-erased}
use Rattle.lq_sound_values.specs.Runs.Closed.{names_in}
use Rattle.lq_text_qualifiers.specs.Faults.Shapes.{shape_of}
use Rattle.lq_refined_types.specs.Subtyping.Subtype.{fields_of}
use Rattle.lq_refined_templates.specs.Templates.Scopes.{Unknown, symbols_in}
use Rattle.lq_text_tree.specs.MlType as ml
use Rattle.lq_text_tree.specs.MlType.{MlType, MlTypes}
use Rattle.lq_text_tree.specs.Types as types
use Rattle.lq_text_tree.specs.Types.{Constructor, count_types, put}
use Rattle.lq_sound_scope.specs.Scalars.Data.{AreEquationsSorted}
use Rattle.lq_sound_scope.specs.Scalars.Written.{EachUseIn, IsNameless, LackEntries}
use Rattle.lq_sound_scope.proofs.ScalarsLemmas.NameKinds.{Naming}
use Rattle.lq_sound_scope.proofs.ScalarsLemmas.Contexts as contexts
use Rattle.lq_sound_scope.proofs.ScalarsLemmas.Datatypes.{equations_over, fields_more, no_field}
use Rattle.lq_sound_scope.proofs.ScalarsLemmas.Fields.{AreNameless, cells_same, field_nameless, field_over}
use Rattle.lq_sound_scope.proofs.ScalarsLemmas.Fine.{atom_over, own_has}
use Rattle.lq_sound_scope.proofs.ScalarsLemmas.Standing.{FieldsOver, ValueOver, fields_later, fields_scope, symbol_first, value_later, where_of}
use Rattle.lq_sound_scope.proofs.ScalarsLemmas.Types.{apart_nameless}
use Rattle.lq_sound_scope.proofs.ScalarsLemmas.Uses.{PuresOf, names_of_pures}

-- ---- arguments without values

empty_nameless : (t : Refined) → IsNameless t → IsNameless (empty_type t)
empty_nameless (int_with p) h = h
empty_nameless (bool_with p) h = h
empty_nameless unit_type h = h
empty_nameless (function x a b) h = h
empty_nameless (tuple_of ts) h = h
empty_nameless (array_with e p) h = h
empty_nameless (data_with d ts m p) h = h
empty_nameless (map_with e p) h = h
empty_nameless (type_variable i) h = h

all_empty_nameless : (ts : Refineds) → AreNameless ts → AreNameless (empty_types ts)
all_empty_nameless none h = (tt, tt)
all_empty_nameless (more t ts) h =
    let x = empty_nameless t (h.0.0, h.1.0) in
    let y = all_empty_nameless ts (h.0.1, h.1.1) in
    ((x.0, y.0), (x.1, y.1))

built_nameless : (es : List Pure) (ts : Refineds) → AreNameless ts → AreNameless (built_arguments es ts)
built_nameless [] ts h = all_empty_nameless ts h
built_nameless (e ∷ es) ts h = h

empty_erased : (t : Refined) → erased t ≡ erased (empty_type t)
empty_erased (int_with p) = refl
empty_erased (bool_with p) = refl
empty_erased unit_type = refl
empty_erased (function x a b) = refl
empty_erased (tuple_of ts) = refl
empty_erased (array_with e p) = refl
empty_erased (data_with d ts m p) = refl
empty_erased (map_with e p) = refl
empty_erased (type_variable i) = refl

all_empty_erased : (ts : Refineds) → all_erased ts ≡ all_erased (empty_types ts)
all_empty_erased none = refl
all_empty_erased (more t ts) = ap₂ ml.more_types (empty_erased t) (all_empty_erased ts)

built_erased : (es : List Pure) (ts : Refineds) → all_erased ts ≡ all_erased (built_arguments es ts)
built_erased [] ts = all_empty_erased ts
built_erased (e ∷ es) ts = refl

count_empty : (ts : Refineds) → count ts ≡ count (empty_types ts)
count_empty none = refl
count_empty (more t ts) = ap suc (count_empty ts)

count_built : (es : List Pure) (ts : Refineds) → count ts ≡ count (built_arguments es ts)
count_built [] ts = count_empty ts
count_built (e ∷ es) ts = refl

module _ (P : Basis) (unknowns : ℕ → Unknown) where
  empty_over : (N : Names) (t : Refined) → TypeOver P.setting.constructors unknowns N t → TypeOver P.setting.constructors unknowns N (empty_type t)
  empty_over N (int_with p) h = (tt, (tt, tt))
  empty_over N (bool_with p) h = (tt, (tt, tt))
  empty_over N unit_type h = h
  empty_over N (function x a b) h = h
  empty_over N (tuple_of ts) h = h
  empty_over N (array_with e p) h = (h.0, (tt, tt))
  empty_over N (data_with d ts m p) h = (h.0, (tt, tt))
  empty_over N (map_with e p) h = h
  empty_over N (type_variable i) h = h

  all_empty_over : (N : Names) (ts : Refineds) → TypesOver P.setting.constructors unknowns N ts
      → TypesOver P.setting.constructors unknowns N (empty_types ts)
  all_empty_over N none h = tt
  all_empty_over N (more t ts) h = let x = empty_over N t (h.0, h.1) in (x.0, x.1, all_empty_over N ts h.2)

  built_over : (N : Names) (es : List Pure) (ts : Refineds) → TypesOver P.setting.constructors unknowns N ts
      → TypesOver P.setting.constructors unknowns N (built_arguments es ts)
  built_over N [] ts h = all_empty_over N ts h
  built_over N (e ∷ es) ts h = h

-- ---- operands

abbrev pub first_type : MlTypes → MlType
first_type ml.no_types = ml.unit
first_type (ml.more_types t ts) = t

module _ (P : Basis) (Γ : Context) where
  -- each operand has the kind of its field, where the datatype has such arguments
  abbrev EachKind : MlTypes → List Pure → MlTypes → Type 0
  EachKind us [] ml.no_types = Unit {0}
  EachKind us [] (ml.more_types f fs) = ⊥
  EachKind us (e ∷ es) ml.no_types = Unit {0}
  EachKind us (e ∷ es) (ml.more_types f fs) = (kind (pure_type P Γ e) ≡ kind_of (shape_of (put (types.type_at us) f))) × EachKind us es fs

  each_kind : (θ : Subst) (d : ℕ) (ts : Refineds) (m : Matrix) (c j : ℕ) (es : List Pure) (fs : MlTypes) → length es ≡ count_types fs
      → SameTypes P Γ es (unfolded_from P.setting.scopes θ d ts m c j fs) → EachKind (all_erased ts) es fs
  each_kind θ d ts m c j [] ml.no_types l h = tt
  each_kind θ d ts m c j [] (ml.more_types f fs) l h = cc
  each_kind θ d ts m c j (e ∷ es) ml.no_types l h = tt
  each_kind θ d ts m c j (e ∷ es) (ml.more_types f fs) l h =
      let one : length es ≡ count_types fs = omega (arith, l) in
      let same = h.0 ∙ ap first_type (unfolded-erased P.setting.scopes θ d ts m c j (ml.more_types f ml.no_types)) in
      (own_kind (pure_type P Γ e) ∙ ap (λ (a : MlType). kind_of (shape_of a)) same, each_kind θ d ts m c (suc j) es fs one h.1)

  -- what stands for the fields are the operands
  operands_over : (skip : MlType → Bool) (N : Symbols) (us : MlTypes) (j : ℕ) (es : List Pure) (fs : MlTypes) → EachKind us es fs
      → EachUseIn (IsOf N) es
      → FieldsOver skip (of_any_sort N) us (operands_for P Γ j es) j fs
  operands_over skip N us j [] ml.no_types k o = tt
  operands_over skip N us j [] (ml.more_types f fs) k o = absurd k
  operands_over skip N us j (e ∷ es) ml.no_types k o = tt
  operands_over skip N us j (e ∷ es) (ml.more_types f fs) k o =
      let a = pure_atom P Γ e in
      let s = shape_of (put (types.type_at us) f) in
      let θ = operands_for P Γ (suc j) es in
      let own = subst (λ i. HasKind i a) k.0 (own_has (kind (pure_type P Γ e)) e) in (
        where_of (skip f) (symbol_first (of_any_sort N) a θ s (Position (suc j)) (atom_over N (kind (pure_type P Γ e)) e o.0) own),
        fields_later skip (of_any_sort N) us j a θ (suc j) fs (omega arith) (operands_over skip N us (suc j) es fs k.1 o.1),
      )

  value_operands : (N : Symbols) (j : ℕ) (es : List Pure) → ValueOver (of_any_sort N) (operands_for P Γ j es)
  value_operands N j [] = (own_one N Value, own_one N Value)
  value_operands N j (e ∷ es) = value_later (of_any_sort N) (pure_atom P Γ e) (operands_for P Γ (suc j) es) (suc j) (value_operands N (suc j) es)

-- ---- constructors

module _ (P : Basis) (unknowns : ℕ → Unknown) (keep : KeepNames P.setting.constructors unknowns P.setting.scopes) (m : Naming)
    (agree : (u : ℕ) → P.setting.scopes u ≡ symbols_in (unknowns u).0) where
  abbrev Fine : Symbols → Refined → Type 0
  Fine = contexts.IsFine P unknowns keep m

  abbrev Over : Symbols → Refined → Type 0
  Over N t = TypeOver P.setting.constructors unknowns (of_any_sort N) t

  -- types without names of arguments, over these names
  abbrev pub AreFields : Symbols → Refineds → Type 0
  AreFields N none = Unit {0}
  AreFields N (more t ts) = (IsNameless t × Over N t) × AreFields N ts

  fields_fine : (N : Symbols) (θ : Subst) → ValueOver (of_any_sort N) θ → (d : ℕ) (ts : Refineds) (M : Matrix) (c : ℕ)
      → AreNameless ts → LackEntries M 0 (all_erased ts) → TypesOver P.setting.constructors unknowns (of_any_sort N) ts
      → CellsOver P.setting.constructors unknowns d ts M
      → FieldsOver (is_again d (count_types (all_erased ts))) (of_any_sort N) (all_erased ts) θ 0 (fields_of (P.setting.constructors c)) → (j : ℕ)
      (fs : MlTypes) → AreFields N (unfolded_from P.setting.scopes θ d ts M c j fs)
  fields_fine N θ v d ts M c a lack h cells w j ml.no_types = tt
  fields_fine N θ v d ts M c a lack h cells w j (ml.more_types f fs) = (
    (
      field_nameless P.setting.scopes θ M c j d ts a lack f (is_again d (count ts) f),
      field_over P.setting.constructors unknowns P.setting.scopes agree keep (of_any_sort N) θ M c j v d ts cells h f (is_again d (count ts) f)
          (λ e. fields_scope (of_any_sort N) d (all_erased ts) θ 0 (fields_of (P.setting.constructors c)) [] w tt),
    ),
    fields_fine N θ v d ts M c a lack h cells w (suc j) fs,
  )

  -- the value of a constructor of a template, and what its operands are to have
  abbrev BuiltBy : Context → ℕ → List Pure → Refined → Refined
  BuiltBy Γ c es t =
      data_with (datatype_of t) (built_arguments es (arguments_of t)) (matrix_of t) (equations_by P c (operands_for P Γ 0 es))

  abbrev FieldsBy : Context → ℕ → List Pure → Refined → Refineds
  FieldsBy Γ c es t =
      unfolded_from P.setting.scopes (operands_for P Γ 0 es) (datatype_of t) (arguments_of t) (matrix_of t) c 0 (fields_of (P.setting.constructors c))

  abbrev number_in : MlType → ℕ
  number_in (ml.named d us) = d
  number_in _ = 0

  pub built_fine : AreEquationsSorted P → (Γ : Context) (c : ℕ) (es : List Pure) (k : Constructor)
      (us : MlTypes) (t : Refined) → P.setting.constructors c ≡ Some k → erased t ≡ ml.named k.datatype us → IsNameless t → Over (names_in Γ) t
      → length es ≡ count_types k.fields → PuresOf P unknowns keep m (names_in Γ) es → SameTypes P Γ es (FieldsBy Γ c es t)
      → Fine (names_in Γ) (BuiltBy Γ c es t) × AreFields (names_in Γ) (FieldsBy Γ c es t)
  built_fine equations Γ c es k us (data_with d ts M p) e g w h l o same =
      let N = names_in Γ in
      let θ = operands_for P Γ 0 es in
      let fs = fields_of (P.setting.constructors c) in
      let is : fs ≡ k.fields = ap fields_of e in
      let kinds = each_kind P Γ θ d ts M c 0 es fs (l ∙ ap count_types (sym is)) same in
      let v = value_operands P Γ N 0 es in
      let named = names_of_pures P unknowns keep m N es o in
      let a : AreNameless ts = (w.0.0, w.0.1) in
      let stand = operands_over P Γ (is_again d (count_types (all_erased ts))) N (all_erased ts) 0 es fs kinds named in
      let all = operands_over P Γ no_field N (all_erased ts) 0 es fs kinds named in
      let V = with_sort (of_any_sort N) object Value in
      let more = fields_more no_field (of_any_sort N) V (within_sort (of_any_sort N) object Value) (all_erased ts) θ 0 fs all in
      let own = built_nameless es ts a in
      let lack = subst (λ (vs : MlTypes). LackEntries M 0 vs) (built_erased es ts) w.0.2 in
      let b : IsNameless (BuiltBy Γ c es (data_with d ts M p)) = ((own.0, own.1, lack), own.1) in (
        record {
          scalar = b.0;
          over = (
            (
              built_over P unknowns (of_any_sort N) es ts h.0.0,
              cells_same P.setting.constructors unknowns d ts (built_arguments es ts) M (built_erased es ts) h.0.1,
            ),
            equations_over unknowns V (all_erased ts) θ k.fields v.0
                (subst (λ (gs : MlTypes). FieldsOver no_field V (all_erased ts) θ 0 gs) is more) (P.equations c) (equations c k e),
          );
          apart = apart_nameless N (BuiltBy Γ c es (data_with d ts M p)) b.0 b.1;
          named = tt;
        },
        fields_fine N θ v d ts M c a w.0.2 h.0.0 h.0.1 stand 0 fs,
      )
  built_fine equations Γ c es k us (int_with p) e g w h l o same = cc
  built_fine equations Γ c es k us (bool_with p) e g w h l o same = cc
  built_fine equations Γ c es k us unit_type e g w h l o same = cc
  built_fine equations Γ c es k us (function x a b) e g w h l o same = cc
  built_fine equations Γ c es k us (tuple_of ts) e g w h l o same = cc
  built_fine equations Γ c es k us (array_with i p) e g w h l o same = cc
  built_fine equations Γ c es k us (map_with i p) e g w h l o same = cc
  built_fine equations Γ c es k us (type_variable i) e g w h l o same = cc
