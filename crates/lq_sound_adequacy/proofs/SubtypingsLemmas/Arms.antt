-- The environments of arms get known types.
use Rattle.std.proofs.Common.{◌≡◌, ℕ, pos, true, List, [], sym, ap}
use Rattle.lq_refined_rules.specs.Checks.Basis.{Basis}
use Rattle.lq_refined_rules.specs.Checks.Binders.{AreNewNames}
use Rattle.lq_refined_rules.specs.Checks.Fitting.{Fits}
use Rattle.lq_refined_rules.specs.Checks.Match.{bind_components, build_context, fields_by, in_arm, names_for}
use Rattle.lq_refined_rules.specs.Checks.Pure.{pure_type, type_of_use}
use Rattle.lq_refined_rules.specs.Checks.Tree as tree
use Rattle.lq_refined_rules.specs.Checks.Tree.{names_of, Use, Pattern, pattern_any, pattern_name, pattern_unit, pattern_tuple, pattern_build}
use Rattle.lq_refined_rules.specs.Checks.Typing as typing
use Rattle.lq_refined_rules.specs.Checks.Typing.{AreTemplates, Points, Types, HasPattern, has_fields}
use Rattle.lq_sound_values.specs.Inclusion.Symbols.{Symbols}
use Rattle.lq_sound_scope.specs.Scopes.InScope as scopes
use Rattle.lq_sound_scope.specs.Scopes.Laws.{TypesAreOver}
use Rattle.lq_sound_scope.specs.Scopes.Over.{AreSorted, IsWithin}
use Rattle.lq_sound_values.specs.Inhabitants.Truth.{Objects}
use Rattle.lq_sound_scope.specs.Operations.Laws.{KeepNames}
use Rattle.lq_refined_types.specs.Parts.Assignment.{Assignment}
use Rattle.lq_refined_types.specs.Types.Context.{Context}
use Rattle.lq_refined_types.specs.Types.Operations.{symbol_of}
use Rattle.lq_refined_types.specs.Types.Refined.{Refined, int_with, bool_with, unit_type, function, tuple_of, array_with, data_with, map_with, type_variable, components_of, erased}
use Rattle.lq_sound_values.specs.Runs.Closed.{names_in}
use Rattle.lq_sound_values.proofs.RunsLemmas.Closing.{with_within}
use Rattle.lq_refined_templates.specs.Templates.Scopes.{Unknown, symbols_in}
use Rattle.lq_text_tree.specs.MlType.{MlType}
use Rattle.lq_sound_scope.specs.Scalars.Data.{AreEquationsSorted}
use Rattle.lq_sound_scope.specs.Scalars.Scalar.{HaveTwins}
use Rattle.lq_sound_scope.proofs.ScalarsLemmas.Arms.{build_names, build_opened}
use Rattle.lq_sound_scope.proofs.ScalarsLemmas.Contexts as contexts
use Rattle.lq_sound_scope.proofs.ScalarsLemmas.Components.{known_opened, named_components, none_opened, tuple_opened}
use Rattle.lq_sound_scope.proofs.ScalarsLemmas.Contexts.{IsKnown, fine_known, pure_fine, use_known, wide}
use Rattle.lq_sound_scope.proofs.ScalarsLemmas.NameKinds.{Agree, component_kinds, Naming, pattern_kinds}
use Rattle.lq_sound_scope.proofs.ScalarsLemmas.Patterns.{number_in}
use Rattle.lq_sound_scope.proofs.ScalarsLemmas.Uses.{UseOf, use_erased}

-- What is said of environments under an assignment isn't needed here: nothing is assigned, and no object is measured.
abbrev nothing_assigned : Assignment
nothing_assigned u = []

abbrev no_objects : Objects
no_objects = record { number_of = λ v. 0; length = λ n. pos 0; measured = λ f n. pos 0 }

nothing_sorted : (unknowns : ℕ → Unknown) → AreSorted unknowns nothing_assigned
nothing_sorted unknowns u = tt

module _ (over : TypesAreOver) (P : Basis) (unknowns : ℕ → Unknown) (keep : KeepNames P.setting.constructors unknowns P.setting.scopes) (m : Naming)
    (agree : (u : ℕ) → P.setting.scopes u ≡ symbols_in (unknowns u).0) (equations : AreEquationsSorted P) where
  abbrev A : Assignment
  A = nothing_assigned

  abbrev O : Objects
  O = no_objects

  sorted : AreSorted unknowns A
  sorted = nothing_sorted unknowns

  abbrev Good : Context → Type 0
  Good = contexts.IsGood P unknowns keep m

  none_good : (Γ : Context) → Good Γ → (xs : List ℕ) → AreNewNames xs Γ → HaveTwins xs → Agree m (component_kinds xs (components_of unit_type))
      → Good (bind_components P.setting.scopes [] 0 xs (components_of unit_type) Γ)
  none_good Γ good xs new twins kinds = (none_opened P unknowns keep m over A O sorted xs Γ good new twins kinds).0

  tuple_good : (Γ : Context) → Good Γ → (xs : List ℕ) (t : Refined) → IsKnown P unknowns keep m (names_in Γ) t → AreNewNames xs Γ → HaveTwins xs
      → Agree m (component_kinds xs (components_of t)) → Good (bind_components P.setting.scopes [] 0 xs (components_of t) Γ)
  tuple_good Γ good xs (tuple_of ts) k new twins kinds = (tuple_opened P unknowns keep m over A O sorted xs ts Γ good k new twins kinds).0
  tuple_good Γ good xs (int_with p) k new twins kinds = none_good Γ good xs new twins kinds
  tuple_good Γ good xs (bool_with p) k new twins kinds = none_good Γ good xs new twins kinds
  tuple_good Γ good xs unit_type k new twins kinds = none_good Γ good xs new twins kinds
  tuple_good Γ good xs (function x a b) k new twins kinds = none_good Γ good xs new twins kinds
  tuple_good Γ good xs (array_with e p) k new twins kinds = none_good Γ good xs new twins kinds
  tuple_good Γ good xs (data_with d ts n p) k new twins kinds = none_good Γ good xs new twins kinds
  tuple_good Γ good xs (map_with e p) k new twins kinds = none_good Γ good xs new twins kinds
  tuple_good Γ good xs (type_variable i) k new twins kinds = none_good Γ good xs new twins kinds

  -- the arm of a constructor, where the variable has this type
  build_good : (Γ : Context) → Good Γ → (x : ℕ) → names_in Γ (symbol_of x) ≡ true → (t : Refined) → IsKnown P unknowns keep m (names_in Γ) t
      → {Δ Θ : Types} {a : MlType} {c : ℕ} {xs : List ℕ} → erased t ≡ a → HasPattern P Δ a (pattern_build c xs) Θ → AreNewNames xs Γ → HaveTwins xs
      → Agree m (component_kinds xs (fields_by P Γ x t c (names_for 0 xs (fields_by P Γ x t c []))))
      → Good (build_context P Γ x t c xs)
  build_good Γ good x there (data_with d ts M p) k e (has_fields {c = c} {k = z} {xs = xs} g n l) new twins kinds =
      let o = wide P unknowns keep m k.own (names_in Γ) k.within (data_with d ts M p) k.over in
      (build_opened P unknowns keep m agree over A O sorted equations Γ good x there d ts M p
      (k.scalar.0, k.scalar.1) k.scalar.2 o.0.0 o.0.1 c z g (sym (ap number_in e)) xs l new twins kinds).0
  build_good Γ good x there (int_with p) k e (has_fields g n l) new twins kinds = cc
  build_good Γ good x there (bool_with p) k e (has_fields g n l) new twins kinds = cc
  build_good Γ good x there unit_type k e (has_fields g n l) new twins kinds = cc
  build_good Γ good x there (function y b r) k e (has_fields g n l) new twins kinds = cc
  build_good Γ good x there (tuple_of ts) k e (has_fields g n l) new twins kinds = cc
  build_good Γ good x there (array_with i p) k e (has_fields g n l) new twins kinds = cc
  build_good Γ good x there (map_with i p) k e (has_fields g n l) new twins kinds = cc
  build_good Γ good x there (type_variable i) k e (has_fields g n l) new twins kinds = cc

  pub arm_good : (Q : Points) → AreTemplates P Q → (Γ : Context) → Good Γ → (u : Use) → UseOf P unknowns keep m (names_in Γ) u
      → (q : Pattern) (Δ Θ : Types) → Fits Δ Γ
      → HasPattern P Δ (typing.type_of_use Q Δ u) q Θ → AreNewNames (names_of q) Γ → HaveTwins (names_of q) → Agree m (pattern_kinds P Γ u q)
      → Good (in_arm P Γ u q)
  arm_good Q are Γ good u o pattern_any Δ Θ f h new twins kinds = good
  arm_good Q are Γ good u o (pattern_name x) Δ Θ f h new twins kinds =
      let t = pure_type P Γ (tree.use_of u) in
      let fine = pure_fine P unknowns keep m Γ good (tree.use_of u) o in
      (known_opened P unknowns keep m over A O sorted Γ good x t new.0 twins.0 kinds.0 (fine_known P unknowns keep m (names_in Γ) t fine)).0
  arm_good Q are Γ good u o pattern_unit Δ Θ f h new twins kinds = good
  arm_good Q are Γ good u o (pattern_tuple xs) Δ Θ f h new twins kinds =
      tuple_good Γ good xs (type_of_use P Γ u) (use_known P unknowns keep m Γ good u o) new twins kinds
  arm_good Q are Γ good u o (pattern_build c xs) Δ Θ f h new twins kinds =
      build_good Γ good u.name o.0 (type_of_use P Γ u) (use_known P unknowns keep m Γ good u o) (use_erased P Q are Δ Γ f u) h new twins kinds

pub arm_names : (P : Basis) (N : Symbols) (Γ : Context) → IsWithin N (names_in Γ) → (u : Use) (q : Pattern)
    → IsWithin (scopes.with_names N (names_of q)) (names_in (in_arm P Γ u q))
arm_names P N Γ w u pattern_any = w
arm_names P N Γ w u (pattern_name x) = with_within N (names_in Γ) (symbol_of x) w
arm_names P N Γ w u pattern_unit = w
arm_names P N Γ w u (pattern_tuple xs) = named_components P xs [] 0 (components_of (type_of_use P Γ u)) N Γ w
arm_names P N Γ w u (pattern_build c xs) = build_names P Γ N w u.name (type_of_use P Γ u) c xs
