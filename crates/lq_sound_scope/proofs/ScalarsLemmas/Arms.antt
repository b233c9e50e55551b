-- The names that an arm gives to the fields of a constructor: they get known types, over the names outside and the earlier ones.
use Rattle.std.proofs.Common.{◌≡◌, ◌∙◌, ℕ, suc, ◌<◌, ◌^◌, Bool, true, cond, List, [], ◌∷◌, length, Some, refl, sym, ap, subst, arith}
use Rattle.lq_refined_rules.specs.Checks.Basis.{Basis}
use Rattle.lq_refined_rules.specs.Checks.Binders.{AreNewNames, IsNewName}
use Rattle.lq_refined_rules.specs.Checks.Match.{bind_all, build_context, fields_by, names_for, value_as}
use Rattle.lq_refined_rules.specs.Checks.Operation.{bind, equations_by}
use Rattle.lq_refined_rules.specs.Checks.Ready.{Where}
use Rattle.lq_sound_values.specs.Inclusion.Symbols.{Symbols, with_symbol, EachOn}
use Rattle.lq_sound_scope.specs.Scopes.InScope.{with_names}
use Rattle.lq_sound_scope.specs.Scopes.Laws.{TypesAreOver}
use Rattle.lq_sound_scope.specs.Scopes.Over.{AreSorted, CellsOver, IsWithin, PartsOver, SymbolOver, TopOver, TypeOver, TypesOver, kind_of, of_any_sort, with_sort}
use Rattle.lq_sound_scope.proofs.ScopesLemmas.Assigned.{each_on, each_within, parts_over}
use Rattle.lq_sound_scope.proofs.ScopesLemmas.Made.{own_kind}
use Rattle.lq_sound_scope.proofs.ScopesLemmas.Symbols.{own_one, within_one}
use Rattle.lq_sound_values.specs.Inhabitants.Truth.{Objects, Scene}
use Rattle.lq_sound_scope.specs.Operations.Laws.{KeepNames}
use Rattle.lq_sound_scope.specs.Operations.Puts.{AtomOver, HasKind}
use Rattle.lq_refined_types.specs.Parts.Assignment.{Assignment, parts_under}
use Rattle.lq_refined_types.specs.Parts.Part.{Parts}
use Rattle.lq_refined_types.specs.Parts.Substitution.{Subst, of_sum, swap}
use Rattle.lq_logic_predicates.specs.Sum.{var}
use Rattle.lq_logic_predicates.specs.declared.symbol.Symbol.TheVariants.{Position, Value}
use Rattle.lq_refined_types.specs.Types.Context.{Context, guard}
use Rattle.lq_refined_types.specs.Types.Operations.{atom_of, symbol_of}
use Rattle.lq_refined_types.specs.Types.Refined.{Matrix, Refined, Refineds, unit_type, data_with, Kind, number, truth_value, object, other, kind, top, count, all_erased}
use Rattle.lq_refined_types.specs.Types.Unfolding.{bare, is_again, pushed, unfolded_from}
use Rattle.lq_refined_types.proofs.TypesLemmas.Erasing.{unfolded-erased}
use Rattle.lq_sound_forms.specs.Pures.Pures.{scene_of}
use Rattle.lq_sound_values.specs.Runs.Closed.{names_in, with_value, IsClosedIn, PartsSorted}
use Rattle.lq_sound_values.proofs.RunsLemmas.Closing.{closed_more, with_within, within_with}
use Rattle.lq_text_qualifiers.specs.Faults.Shapes.{shape_of}
use Rattle.lq_refined_types.specs.Subtyping.Splitting.{first_of, rest_of}
use Rattle.lq_refined_types.specs.Subtyping.Subtype.{fields_of, with_guards}
use Rattle.lq_refined_templates.specs.Templates.Scopes.{Unknown, symbols_in}
use Rattle.lq_text_tree.specs.MlType as ml
use Rattle.lq_text_tree.specs.MlType.{MlType, MlTypes}
use Rattle.lq_text_tree.specs.Types as types
use Rattle.lq_text_tree.specs.Types.{Constructor, count_types, put}
use Rattle.lq_sound_scope.specs.Scalars.Data.{AreEquationsSorted}
use Rattle.lq_sound_scope.specs.Scalars.Scalar.{HaveTwins}
use Rattle.lq_sound_scope.specs.Scalars.Written.{IsNameless, LackEntries}
use Rattle.lq_sound_scope.proofs.ScalarsLemmas.Builds.{first_type}
use Rattle.lq_sound_scope.proofs.ScalarsLemmas.Components as opening
use Rattle.lq_sound_scope.proofs.ScalarsLemmas.Components.{new_names}
use Rattle.lq_sound_scope.proofs.ScalarsLemmas.Contexts as contexts
use Rattle.lq_sound_scope.proofs.ScalarsLemmas.Contexts.{fine_known, good_bind_in, good_guard, good_more, type_over}
use Rattle.lq_sound_scope.proofs.ScalarsLemmas.Datatypes.{equations_over, fields_value, no_field}
use Rattle.lq_sound_scope.proofs.ScalarsLemmas.Fields.{AreNameless, again_over, field_nameless, field_over_by, field_top_by}
use Rattle.lq_sound_scope.proofs.ScalarsLemmas.Fine.{nameless_fine}
use Rattle.lq_sound_scope.proofs.ScalarsLemmas.NameKinds.{Agree, IsBound, component_kinds, name_kind, Naming}
use Rattle.lq_sound_scope.proofs.ScalarsLemmas.Standing.{FieldsOver, ValueOver, fields_later, fields_scope, symbol_first, value_later, where_map, where_of}

-- ---- which names are there

-- the names of the fields that aren't skipped are among these
abbrev NamesThere : (MlType → Bool) → Symbols → List ℕ → MlTypes → Type 0
NamesThere skip N xs ml.no_types = Unit {0}
NamesThere skip N [] (ml.more_types f fs) = Where (skip f) (Unit {0}) ⊥ × NamesThere skip N [] fs
NamesThere skip N (x ∷ xs) (ml.more_types f fs) = Where (skip f) (Unit {0}) (N (symbol_of x) ≡ true) × NamesThere skip N xs fs

-- each of these names is there
abbrev AreThere : Symbols → List ℕ → Type 0
AreThere N [] = Unit {0}
AreThere N (x ∷ xs) = (N (symbol_of x) ≡ true) × AreThere N xs

all_there : (skip : MlType → Bool) (N : Symbols) (xs : List ℕ) (fs : MlTypes) → length xs ≡ count_types fs → AreThere N xs → NamesThere skip N xs fs
all_there skip N xs ml.no_types l h = tt
all_there skip N [] (ml.more_types f fs) l h = cc
all_there skip N (x ∷ xs) (ml.more_types f fs) l h =
    let one : length xs ≡ count_types fs = omega (arith, l) in (where_of (skip f) h.0, all_there skip N xs fs one h.1)

within_all : (xs : List ℕ) (ts : Refineds) (Γ : Context) → IsWithin (names_in Γ) (names_in (bind_all xs ts Γ))
within_all [] ts Γ y h = h
within_all (x ∷ xs) ts Γ y h = within_all xs (rest_of ts) (bind x (first_of ts) Γ) y (within_with (names_in Γ) (symbol_of x) y h)

bound_there : (xs : List ℕ) (ts : Refineds) (Γ : Context) → AreThere (names_in (bind_all xs ts Γ)) xs
bound_there [] ts Γ = tt
bound_there (x ∷ xs) ts Γ =
    let Λ = bind x (first_of ts) Γ in
    (within_all xs (rest_of ts) Λ (symbol_of x) (own_one (names_in Γ) (symbol_of x)), bound_there xs (rest_of ts) Λ)

named_all : (xs : List ℕ) (ts : Refineds) (N : Symbols) (Γ : Context) → IsWithin N (names_in Γ)
    → IsWithin (with_names N xs) (names_in (bind_all xs ts Γ))
named_all [] ts N Γ w = w
named_all (x ∷ xs) ts N Γ w =
    named_all xs (rest_of ts) (with_symbol N (symbol_of x)) (bind x (first_of ts) Γ) (with_within N (names_in Γ) (symbol_of x) w)

named_guards : (qs : Parts) (N : Symbols) (Γ : Context) → IsWithin N (names_in Γ) → IsWithin N (names_in (with_guards qs Γ))
named_guards [] N Γ w = w
named_guards (q ∷ qs) N Γ w = named_guards qs N (guard q ∷ Γ) (λ y h. w y h)

-- ---- names for fields

atom_there : (N : Symbols) (k : Kind) (x : ℕ) → N (symbol_of x) ≡ true → AtomOver (of_any_sort N) (atom_of k (symbol_of x))
atom_there N number x h = h
atom_there N truth_value x h = h
atom_there N object x h = h
atom_there N other x h = h

atom_has : (k : Kind) (x : ℕ) → HasKind k (atom_of k (symbol_of x))
atom_has number x = tt
atom_has truth_value x = tt
atom_has object x = tt
atom_has other x = tt

module _ (P : Basis) (d : ℕ) (ts : Refineds) (M : Matrix) (c : ℕ) where
  abbrev fields_at : Subst → ℕ → MlTypes → Refineds
  fields_at θ j fs = unfolded_from P.setting.scopes θ d ts M c j fs

  field_kind : (θ : Subst) (j : ℕ) (f : MlType)
      → kind (first_of (fields_at θ j (ml.more_types f ml.no_types))) ≡ kind_of (shape_of (put (types.type_at (all_erased ts)) f))
  field_kind θ j f =
      own_kind (first_of (fields_at θ j (ml.more_types f ml.no_types)))
      ∙ ap (λ vs. kind_of (shape_of (first_type vs))) (unfolded-erased P.setting.scopes θ d ts M c j (ml.more_types f ml.no_types))

  nothing_over : (skip : MlType → Bool) (N : Symbols) (j : ℕ) (fs : MlTypes) → NamesThere skip N [] fs
      → FieldsOver skip (of_any_sort N) (all_erased ts) [] j fs
  nothing_over skip N j ml.no_types h = tt
  nothing_over skip N j (ml.more_types f fs) h =
      let s = shape_of (put (types.type_at (all_erased ts)) f) in
      (where_map (skip f) ⊥ (SymbolOver (of_any_sort N) [] s (Position (suc j))) (λ k. absurd k) h.0, nothing_over skip N (suc j) fs h.1)

  -- what stands for the fields are their names
  names_over : (skip : MlType → Bool) (N : Symbols) (j : ℕ) (xs : List ℕ) (fs : MlTypes) → NamesThere skip N xs fs
      → FieldsOver skip (of_any_sort N) (all_erased ts) (names_for j xs (fields_at [] j fs)) j fs
  names_over skip N j xs ml.no_types h = tt
  names_over skip N j [] (ml.more_types f fs) h = nothing_over skip N j (ml.more_types f fs) h
  names_over skip N j (x ∷ xs) (ml.more_types f fs) h =
      let t = first_of (fields_at [] j (ml.more_types f fs)) in
      let a = atom_of (kind t) (symbol_of x) in
      let s = shape_of (put (types.type_at (all_erased ts)) f) in
      let θ = names_for (suc j) xs (fields_at [] (suc j) fs) in
      let own = subst (λ k. HasKind k a) (field_kind [] j f) (atom_has (kind t) x) in (
        where_map (skip f) (N (symbol_of x) ≡ true) (SymbolOver (of_any_sort N) (swap (Position (suc j)) a ∷ θ) s (Position (suc j)))
            (λ k. symbol_first (of_any_sort N) a θ s (Position (suc j)) (atom_there N (kind t) x k) own) h.0,
        fields_later skip (of_any_sort N) (all_erased ts) j a θ (suc j) fs (omega arith) (names_over skip N (suc j) xs fs h.1),
      )

  value_names : (N : Symbols) (j : ℕ) (xs : List ℕ) (us : Refineds) → ValueOver (of_any_sort N) (names_for j xs us)
  value_names N j [] us = (own_one N Value, own_one N Value)
  value_names N j (x ∷ xs) us =
      value_later (of_any_sort N) (atom_of (kind (first_of us)) (symbol_of x)) (names_for (suc j) xs (rest_of us)) (suc j)
      (value_names N (suc j) xs (rest_of us))

-- ---- arms

module _ (P : Basis) (unknowns : ℕ → Unknown) (keep : KeepNames P.setting.constructors unknowns P.setting.scopes) (m : Naming)
    (agree : (u : ℕ) → P.setting.scopes u ≡ symbols_in (unknowns u).0) (laws : TypesAreOver) (A : Assignment) (O : Objects)
    (sorted : AreSorted unknowns A) where
  abbrev Good : Context → Type 0
  Good = contexts.IsGood P unknowns keep m

  abbrev Opened : Context → Context → Type 0
  Opened = opening.IsOpened P unknowns keep m laws A O sorted

  abbrev S : Scene
  S = scene_of P A O

  abbrev Over : Symbols → Refined → Type 0
  Over N t = TypeOver P.setting.constructors unknowns (of_any_sort N) t

  abbrev AllOver : Symbols → Refineds → Type 0
  AllOver N ts = TypesOver P.setting.constructors unknowns (of_any_sort N) ts

  types_wide : (N L : Symbols) → IsWithin N L → (ts : Refineds) → AllOver N ts → AllOver L ts
  types_wide N L w ts h = (keep.widening (of_any_sort N) (of_any_sort L) (record { terms = w; flags = w }) (data_with 0 ts [] []) ((h, tt), tt)).0.0

  -- ---- environments in which what is inside the types may speak of names behind them

  abbrev GoodIn : Symbols → Context → Type 0
  GoodIn = contexts.IsGoodIn P unknowns keep m

  abbrev OpenedIn : Symbols → Context → Context → Type 0
  OpenedIn N Γ Λ = GoodIn N Λ × (IsClosedIn S N Γ → IsClosedIn S N Λ)

  -- the parts of a top
  top_sorted : (N : Symbols) (k : Kind) (ps : Parts) → PartsOver unknowns (with_sort (of_any_sort N) k Value) ps
      → EachOn (with_value N) (parts_under A ps) × PartsSorted A k N ps
  top_sorted N number ps h =
      let s = parts_over unknowns A sorted (with_sort (of_any_sort N) number Value) ps h in
      (each_on (with_value N) N (with_value N) (λ y e. e) (within_one N Value) (parts_under A ps) s, s)
  top_sorted N truth_value ps h =
      let s = parts_over unknowns A sorted (with_sort (of_any_sort N) truth_value Value) ps h in
      (each_on N (with_value N) (with_value N) (within_one N Value) (λ y e. e) (parts_under A ps) s, s)
  top_sorted N object ps h =
      let s = parts_over unknowns A sorted (with_sort (of_any_sort N) object Value) ps h in
      (each_on (with_value N) N (with_value N) (λ y e. e) (within_one N Value) (parts_under A ps) s, s)
  top_sorted N other ps h =
      let s = parts_over unknowns A sorted (of_any_sort N) ps h in (
        each_on N N (with_value N) (within_one N Value) (within_one N Value) (parts_under A ps) s,
        each_within N N (with_value N) N (within_one N Value) (λ y e. e) (parts_under A ps) s,
      )

  -- one more name, whose type's top speaks of the names before it
  nameless_opened : (N : Symbols) (Γ : Context) → GoodIn N Γ → (x : ℕ) (t : Refined) → IsNewName x Γ → x < 2 ^ 31 → IsBound m x (name_kind t)
      → IsNameless t
      → Over N t → TopOver unknowns (of_any_sort (names_in Γ)) t → OpenedIn N Γ (bind x t Γ)
  nameless_opened N Γ good x t new low is nameless o h =
      let k = fine_known P unknowns keep m N t (nameless_fine P unknowns keep m N t nameless o) in
      let parts = top_sorted (names_in Γ) (kind t) (top t) h in (
        good_bind_in P unknowns keep m N Γ good x t low is k h,
        (λ c. (refl, new, (((type_over P unknowns keep m laws A O sorted N t o).0.0, parts.0), parts.1), c)),
      )

  module _ (d : ℕ) (ts : Refineds) (M : Matrix) (c : ℕ) (θ : Subst) (a : AreNameless ts)
      (lack : LackEntries M 0 (all_erased ts)) (N : Symbols) (h : AllOver N ts)
      (again : (j : ℕ) → Over N (data_with d (pushed P.setting.scopes θ M c j 0 ts) M [])) where
    -- The fields, where these names are those of the environment with all of them: what is inside a field that is the datatype again speaks of
    -- the other fields.
    fields_opened : (j : ℕ) (xs : List ℕ) (fs : MlTypes) (Γ : Context) → GoodIn N Γ → AllOver (names_in Γ) ts
        → AreNewNames xs Γ → HaveTwins xs → Agree m (component_kinds xs (unfolded_from P.setting.scopes θ d ts M c j fs))
        → OpenedIn N Γ (bind_all xs (unfolded_from P.setting.scopes θ d ts M c j fs) Γ)
    fields_opened j [] fs Γ good before new twins kinds = (good, (λ k. k))
    fields_opened j (x ∷ xs) ml.no_types Γ good before new twins kinds =
        let one = nameless_opened N Γ good x unit_type new.0 twins.0 kinds.0 (tt, tt) (tt, tt) tt in
        let Λ = bind x unit_type Γ in
        let w = within_one (names_in Γ) (symbol_of x) in
        let rest = fields_opened j xs ml.no_types Λ one.0 (types_wide (names_in Γ) (names_in Λ) w ts before) new.1 twins.1 kinds.1 in
        (rest.0, (λ q. rest.1 (one.1 q)))
    fields_opened j (x ∷ xs) (ml.more_types f fs) Γ good before new twins kinds =
        let b = is_again d (count ts) f in
        let own = data_with d (pushed P.setting.scopes θ M c j 0 ts) M [] in
        let t : Refined = cond b own (bare ts f) in
        let nameless = field_nameless P.setting.scopes θ M c j d ts a lack f b in
        let o = field_over_by P.setting.constructors unknowns P.setting.scopes agree keep (of_any_sort N) ts h f b own (λ e. again j) in
        let p = field_top_by P.setting.constructors unknowns P.setting.scopes agree keep (of_any_sort (names_in Γ)) ts before f b own tt in
        let one = nameless_opened N Γ good x t new.0 twins.0 kinds.0 nameless o p in
        let Λ = bind x t Γ in
        let w = within_one (names_in Γ) (symbol_of x) in
        let rest = fields_opened (suc j) xs fs Λ one.0 (types_wide (names_in Γ) (names_in Λ) w ts before)
        (new_names xs (bind x unit_type Γ) Λ (λ y q. q) new.1) twins.1 kinds.1 in
        (rest.0, (λ q. rest.1 (one.1 q)))

  -- what is known, over the names of the environment
  guards_opened : (qs : Parts) (Γ : Context) → Good Γ → PartsOver unknowns (of_any_sort (names_in Γ)) qs → Opened Γ (with_guards qs Γ)
  guards_opened [] Γ good h = (good, (λ k. k))
  guards_opened (q ∷ qs) Γ good h =
      let N = names_in Γ in
      let on = each_on N N N (λ y e. e) (λ y e. e) (parts_under A (q ∷ [])) (parts_over unknowns A sorted (of_any_sort N) (q ∷ []) (h.0, tt)) in
      let rest = guards_opened qs (guard q ∷ Γ) (good_guard P unknowns keep m Γ q h.0 good) h.1 in
      (rest.0, (λ k. rest.1 (on, k)))

  -- the arm of a constructor, where the variable has a datatype
  pub build_opened : AreEquationsSorted P → (Γ : Context) → Good Γ → (x : ℕ)
      → names_in Γ (symbol_of x) ≡ true → (d : ℕ) (ts : Refineds) (M : Matrix) (p : Parts) → AreNameless ts
      → LackEntries M 0 (all_erased ts) → AllOver (names_in Γ) ts → CellsOver P.setting.constructors unknowns d ts M → (c : ℕ) (k : Constructor)
      → P.setting.constructors c ≡ Some k
      → k.datatype ≡ d → (xs : List ℕ) → length xs ≡ count_types k.fields → AreNewNames xs Γ → HaveTwins xs
      → let fs = fields_of (P.setting.constructors c) in
      Agree m (component_kinds xs (unfolded_from P.setting.scopes (names_for 0 xs (unfolded_from P.setting.scopes [] d ts M c 0 fs)) d ts M c 0 fs))
      → Opened Γ (build_context P Γ x (data_with d ts M p) c xs)
  build_opened equations Γ good x there d ts M p a lack h cells c k e same xs l new twins kinds =
      let fs = fields_of (P.setting.constructors c) in
      let us = unfolded_from P.setting.scopes [] d ts M c 0 fs in
      let θ = names_for 0 xs us in
      let is : fs ≡ k.fields = ap fields_of e in
      let ws = unfolded_from P.setting.scopes θ d ts M c 0 fs in
      let Λ = bind_all xs ws Γ in
      let N = names_in Λ in
      let w = within_all xs ws Γ in
      let there_all = bound_there xs ws Γ in
      let length_is = l ∙ ap count_types (sym is) in
      let skip = is_again d (count_types (all_erased ts)) in
      let others = names_over P d ts M c skip N 0 xs fs (all_there skip N xs fs length_is there_all) in
      let scope = fields_scope (of_any_sort N) d (all_erased ts) θ 0 fs [] others tt in
      let wide_all = types_wide (names_in Γ) N w ts h in
      let again = λ (j : ℕ). again_over P.setting.constructors unknowns P.setting.scopes agree keep (of_any_sort N) θ M c j
      (value_names P d ts M c N 0 xs us) d ts
      scope cells wide_all in
      let bound = fields_opened d ts M c θ a lack N wide_all again 0 xs fs Γ (good_more P unknowns keep m (names_in Γ) N w Γ good) h new
      twins kinds in
      let own = all_there no_field N xs fs length_is there_all in
      let stand = fields_value no_field (of_any_sort N) (all_erased ts) (of_sum (var (symbol_of x))) θ 0 fs
      (names_over P d ts M c no_field N 0 xs fs own) in
      let known = equations_over unknowns (of_any_sort N) (all_erased ts) (value_as x ∷ θ) k.fields (w (symbol_of x) there)
      (subst (λ (gs : MlTypes). FieldsOver no_field (of_any_sort N) (all_erased ts) (value_as x ∷ θ) 0 gs) is stand) (P.equations c)
      (equations c k e) in
      let guarded = guards_opened (equations_by P c (value_as x ∷ θ)) Λ bound.0 known in
      (guarded.0, (λ q. guarded.1 (bound.1 (closed_more S (names_in Γ) N w Γ q))))

-- the names of an arm
pub build_names : (P : Basis) (Γ : Context) (N : Symbols) → IsWithin N (names_in Γ) → (x : ℕ) (t : Refined) (c : ℕ) (xs : List ℕ)
    → IsWithin (with_names N xs) (names_in (build_context P Γ x t c xs))
build_names P Γ N w x t c xs =
    let θ = names_for 0 xs (fields_by P Γ x t c []) in
    let ts = fields_by P Γ x t c θ in
    named_guards (equations_by P c (value_as x ∷ θ)) (with_names N xs) (bind_all xs ts Γ) (named_all xs ts N Γ w)
