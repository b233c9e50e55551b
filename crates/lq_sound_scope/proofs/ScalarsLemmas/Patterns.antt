-- The environments of arms: their names get known types, and they are closed where that of the match is.
use Rattle.std.proofs.Common.{◌≡◌, ◌∙◌, ℕ, true, List, [], Option, Some, None, refl, sym, ap}
use Rattle.lq_refined_rules.specs.Checks.Basis.{Basis}
use Rattle.lq_refined_rules.specs.Checks.Binders.{AreNewNames}
use Rattle.lq_refined_rules.specs.Checks.Fitting.{Fits}
use Rattle.lq_refined_rules.specs.Checks.Match.{bind_components, build_context, fields_by, in_arm, is_data_match, is_datatype, names_for}
use Rattle.lq_refined_rules.specs.Checks.Operation.{datatype_of}
use Rattle.lq_refined_rules.specs.Checks.Pure.{pure_type, type_of_use}
use Rattle.lq_refined_rules.specs.Checks.Tree as tree
use Rattle.lq_refined_rules.specs.Checks.Tree.{names_of, Use, Pattern, pattern_any, pattern_name, pattern_unit, pattern_tuple, pattern_build}
use Rattle.lq_refined_rules.specs.Checks.Typing as typing
use Rattle.lq_refined_rules.specs.Checks.Typing.{AreTemplates, Points, Types, HasPattern, has_fields}
use Rattle.lq_sound_forms.specs.Fields.Fields.{IsDatatypeFor}
use Rattle.lq_sound_values.specs.Inclusion.Symbols.{Symbols}
use Rattle.lq_sound_scope.specs.Scopes.InScope as scopes
use Rattle.lq_sound_scope.specs.Scopes.Laws.{TypesAreOver}
use Rattle.lq_sound_scope.specs.Scopes.Over.{AreSorted, IsWithin, TypeOver, of_any_sort}
use Rattle.lq_sound_values.specs.Inhabitants.Truth.{Objects, Scene}
use Rattle.lq_sound_scope.specs.Operations.Laws.{KeepNames}
use Rattle.lq_sound_values.specs.NewNames.NewNames.{HasNoPositions}
use Rattle.lq_refined_types.specs.Parts.Assignment.{Assignment}
use Rattle.lq_sound_forms.specs.Pures.Pures.{scene_of}
use Rattle.lq_refined_types.specs.Types.Context.{Context}
use Rattle.lq_refined_types.specs.Types.Operations.{symbol_of}
use Rattle.lq_refined_types.specs.Types.Refined.{Refined, int_with, bool_with, unit_type, function, tuple_of, array_with, data_with, map_with, type_variable, components_of, erased}
use Rattle.lq_sound_values.specs.Runs.Closed.{names_in}
use Rattle.lq_sound_values.proofs.RunsLemmas.Closing.{with_within}
use Rattle.lq_sound_programs.specs.Safety.Scoped.{AreDatatypesFor}
use Rattle.lq_sound_scope.specs.Matrices.Laws.{ArgumentsLackFields, MatricesAreSorted}
use Rattle.lq_refined_templates.specs.Templates.Scopes.{Unknown, symbols_in}
use Rattle.lq_sound_forms.specs.Tuples.Tuples.{HasComponentsOver}
use Rattle.lq_text_tree.specs.MlType as ml
use Rattle.lq_text_tree.specs.MlType.{MlType, MlTypes}
use Rattle.lq_text_tree.specs.Types.{Constructor}
use Rattle.lq_sound_scope.specs.Scalars.Data.{HasDatatypes}
use Rattle.lq_sound_scope.specs.Scalars.Scalar.{HaveTwins}
use Rattle.lq_sound_scope.specs.Scalars.Written.{IsNameless, IsScalar}
use Rattle.lq_sound_scope.proofs.ScalarsLemmas.Arms.{build_names, build_opened}
use Rattle.lq_sound_scope.proofs.ScalarsLemmas.Contexts as contexts
use Rattle.lq_sound_scope.proofs.ScalarsLemmas.Components as opening
use Rattle.lq_sound_scope.proofs.ScalarsLemmas.Components.{known_opened, named_components, none_opened, tuple_opened, tuple_sorted}
use Rattle.lq_sound_scope.proofs.ScalarsLemmas.Contexts.{IsKnown, fine_known, pure_fine, use_known, wide}
use Rattle.lq_sound_scope.proofs.ScalarsLemmas.Datatypes.{datatype_for}
use Rattle.lq_sound_scope.proofs.ScalarsLemmas.NameKinds.{Agree, component_kinds, Naming, pattern_kinds}
use Rattle.lq_sound_scope.proofs.ScalarsLemmas.Uses.{UseOf, use_erased}

abbrev pub number_in : MlType → ℕ
number_in (ml.named d us) = d
number_in _ = 0

abbrev datatype_in : Option Constructor → ℕ
datatype_in None = 0
datatype_in (Some k) = k.datatype

module _ (over : TypesAreOver) (matrices : MatricesAreSorted) (lack : ArgumentsLackFields) (P : Basis) (unknowns : ℕ → Unknown)
    (keep : KeepNames P.setting.constructors unknowns P.setting.scopes) (m : Naming)
    (agree : (u : ℕ) → P.setting.scopes u ≡ symbols_in (unknowns u).0) (A : Assignment) (O : Objects) (sorted : AreSorted unknowns A)
    (datatypes : HasDatatypes P O) where
  abbrev S : Scene
  S = scene_of P A O

  abbrev Over : Symbols → Refined → Type 0
  Over N t = TypeOver P.setting.constructors unknowns (of_any_sort N) t

  abbrev Good : Context → Type 0
  Good = contexts.IsGood P unknowns keep m

  -- ---- patterns

  abbrev pub Opened : Context → Context → Type 0
  Opened = opening.IsOpened P unknowns keep m over A O sorted

  tuple_arm : (Γ : Context) → Good Γ → (xs : List ℕ) (t : Refined) → IsKnown P unknowns keep m (names_in Γ) t → AreNewNames xs Γ → HaveTwins xs
      → Agree m (component_kinds xs (components_of t)) → Opened Γ (bind_components P.setting.scopes [] 0 xs (components_of t) Γ)
  tuple_arm Γ good xs (tuple_of ts) k new twins kinds = tuple_opened P unknowns keep m over A O sorted xs ts Γ good k new twins kinds
  tuple_arm Γ good xs (int_with p) k new twins kinds = none_opened P unknowns keep m over A O sorted xs Γ good new twins kinds
  tuple_arm Γ good xs (bool_with p) k new twins kinds = none_opened P unknowns keep m over A O sorted xs Γ good new twins kinds
  tuple_arm Γ good xs unit_type k new twins kinds = none_opened P unknowns keep m over A O sorted xs Γ good new twins kinds
  tuple_arm Γ good xs (function x a b) k new twins kinds = none_opened P unknowns keep m over A O sorted xs Γ good new twins kinds
  tuple_arm Γ good xs (array_with e p) k new twins kinds = none_opened P unknowns keep m over A O sorted xs Γ good new twins kinds
  tuple_arm Γ good xs (data_with d ts n p) k new twins kinds = none_opened P unknowns keep m over A O sorted xs Γ good new twins kinds
  tuple_arm Γ good xs (map_with e p) k new twins kinds = none_opened P unknowns keep m over A O sorted xs Γ good new twins kinds
  tuple_arm Γ good xs (type_variable i) k new twins kinds = none_opened P unknowns keep m over A O sorted xs Γ good new twins kinds

  -- the arm of a constructor, where the variable has this type
  build_arm : (Γ : Context) → Good Γ → (x : ℕ) → names_in Γ (symbol_of x) ≡ true → (t : Refined) → IsKnown P unknowns keep m (names_in Γ) t
      → {Δ Θ : Types} {a : MlType} {c : ℕ} {xs : List ℕ} → erased t ≡ a → HasPattern P Δ a (pattern_build c xs) Θ → AreNewNames xs Γ → HaveTwins xs
      → Agree m (component_kinds xs (fields_by P Γ x t c (names_for 0 xs (fields_by P Γ x t c []))))
      → Opened Γ (build_context P Γ x t c xs)
  build_arm Γ good x there (data_with d ts M p) k e (has_fields {c = c} {k = z} {xs = xs} g n l) new twins kinds =
      let o = wide P unknowns keep m k.own (names_in Γ) k.within (data_with d ts M p) k.over in
      build_opened P unknowns keep m agree over A O sorted datatypes.equations Γ good x there d ts M p
      (k.scalar.0, k.scalar.1) k.scalar.2 o.0.0 o.0.1 c z g (sym (ap number_in e)) xs l new twins kinds
  build_arm Γ good x there (int_with p) k e (has_fields g n l) new twins kinds = cc
  build_arm Γ good x there (bool_with p) k e (has_fields g n l) new twins kinds = cc
  build_arm Γ good x there unit_type k e (has_fields g n l) new twins kinds = cc
  build_arm Γ good x there (function y b r) k e (has_fields g n l) new twins kinds = cc
  build_arm Γ good x there (tuple_of ts) k e (has_fields g n l) new twins kinds = cc
  build_arm Γ good x there (array_with i p) k e (has_fields g n l) new twins kinds = cc
  build_arm Γ good x there (map_with i p) k e (has_fields g n l) new twins kinds = cc
  build_arm Γ good x there (type_variable i) k e (has_fields g n l) new twins kinds = cc

  pub arm_opened : (Q : Points) → AreTemplates P Q → (Γ : Context) → Good Γ → (u : Use) → UseOf P unknowns keep m (names_in Γ) u
      → (q : Pattern) (Δ Θ : Types) → Fits Δ Γ
      → HasPattern P Δ (typing.type_of_use Q Δ u) q Θ → AreNewNames (names_of q) Γ → HaveTwins (names_of q) → Agree m (pattern_kinds P Γ u q)
      → Opened Γ (in_arm P Γ u q)
  arm_opened Q are Γ good u o pattern_any Δ Θ f h new twins kinds = (good, (λ c. c))
  arm_opened Q are Γ good u o (pattern_name x) Δ Θ f h new twins kinds =
      let t = pure_type P Γ (tree.use_of u) in
      let fine = pure_fine P unknowns keep m Γ good (tree.use_of u) o in
      known_opened P unknowns keep m over A O sorted Γ good x t new.0 twins.0 kinds.0 (fine_known P unknowns keep m (names_in Γ) t fine)
  arm_opened Q are Γ good u o pattern_unit Δ Θ f h new twins kinds = (good, (λ c. c))
  arm_opened Q are Γ good u o (pattern_tuple xs) Δ Θ f h new twins kinds =
      tuple_arm Γ good xs (type_of_use P Γ u) (use_known P unknowns keep m Γ good u o) new twins kinds
  arm_opened Q are Γ good u o (pattern_build c xs) Δ Θ f h new twins kinds =
      build_arm Γ good u.name o.0 (type_of_use P Γ u) (use_known P unknowns keep m Γ good u o) (use_erased P Q are Δ Γ f u) h new twins kinds

  pub arm_names : (N : Symbols) (Γ : Context) → IsWithin N (names_in Γ) → (u : Use) (q : Pattern)
      → IsWithin (scopes.with_names N (names_of q)) (names_in (in_arm P Γ u q))
  arm_names N Γ w u pattern_any = w
  arm_names N Γ w u (pattern_name x) = with_within N (names_in Γ) (symbol_of x) w
  arm_names N Γ w u pattern_unit = w
  arm_names N Γ w u (pattern_tuple xs) = named_components P xs [] 0 (components_of (type_of_use P Γ u)) N Γ w
  arm_names N Γ w u (pattern_build c xs) = build_names P Γ N w u.name (type_of_use P Γ u) c xs

  -- the components of a tuple's type, by sorts
  pub components_over : (N : Symbols) (t : Refined) → IsKnown P unknowns keep m N t → HasComponentsOver A N t
  components_over N (tuple_of ts) k = tuple_sorted P unknowns keep m over A O sorted N ts k
  components_over N (int_with p) k = tt
  components_over N (bool_with p) k = tt
  components_over N unit_type k = tt
  components_over N (function x a b) k = tt
  components_over N (array_with e p) k = tt
  components_over N (data_with d ts n p) k = tt
  components_over N (map_with e p) k = tt
  components_over N (type_variable i) k = tt

  -- ---- datatypes

  -- a known type that is a datatype is one for its constructors
  data_for : (N : Symbols) → HasNoPositions N → (t : Refined) → IsScalar t → Over N t → is_datatype t ≡ true → (c : ℕ) (k : Constructor)
      → P.setting.constructors c ≡ Some k → k.datatype ≡ datatype_of t → IsDatatypeFor S P c k t
  data_for N clean (data_with d ts M p) s h is c k e same =
      datatype_for matrices P unknowns A O sorted lack datatypes.equations N clean d ts M p s.2 h.0.0 h.0.1 c k e same
  data_for N clean (int_with p) s h is c k e same = cc
  data_for N clean (bool_with p) s h is c k e same = cc
  data_for N clean unit_type s h is c k e same = cc
  data_for N clean (function x a b) s h is c k e same = cc
  data_for N clean (tuple_of ts) s h is c k e same = cc
  data_for N clean (array_with i p) s h is c k e same = cc
  data_for N clean (map_with i p) s h is c k e same = cc
  data_for N clean (type_variable i) s h is c k e same = cc

  -- of a variable that is matched on
  pub matched_data : (Γ : Context) → Good Γ → (u : Use) → UseOf P unknowns keep m (names_in Γ) u → is_data_match P Γ u ≡ true
      → AreDatatypesFor P A O Γ u
  matched_data Γ good u o is =
      let t = type_of_use P Γ u in
      let k = use_known P unknowns keep m Γ good u o in (
        datatypes.measures,
        datatypes.listed,
        (λ c z h.
            data_for (names_in Γ) good.clean t k.scalar (wide P unknowns keep m k.own (names_in Γ) k.within t k.over) is c z h.0
            h.1),
      )

  -- of a template
  pub template_data : (N : Symbols) → HasNoPositions N → (t : Refined) → IsNameless t → Over N t → (c : ℕ) (z k : Constructor) (us : MlTypes)
      → erased t ≡ ml.named z.datatype us → P.setting.constructors c ≡ Some z → P.setting.constructors c ≡ Some k → IsDatatypeFor S P c k t
  template_data N clean (data_with d ts M p) s h c z k us e g i =
      data_for N clean (data_with d ts M p) s.0 h refl c k i (ap datatype_in (sym i ∙ g) ∙ sym (ap number_in e))
  template_data N clean (int_with p) s h c z k us e g i = cc
  template_data N clean (bool_with p) s h c z k us e g i = cc
  template_data N clean unit_type s h c z k us e g i = cc
  template_data N clean (function x a b) s h c z k us e g i = cc
  template_data N clean (tuple_of ts) s h c z k us e g i = cc
  template_data N clean (array_with j p) s h c z k us e g i = cc
  template_data N clean (map_with j p) s h c z k us e g i = cc
  template_data N clean (type_variable j) s h c z k us e g i = cc
