-- The environments of arms are well sorted.
use Rattle.std.proofs.Common.{◌≡◌, ◌∙◌, ℕ, suc, ◌<◌, true, List, [], ◌∷◌, length, Some, refl, sym, ap, subst, arith, Bool, false}
use Rattle.lq_refined_rules.specs.Checks.Basis.{Basis}
use Rattle.lq_refined_rules.specs.Checks.Fitting.{Fits, GiveSimpleTypes}
use Rattle.lq_refined_rules.specs.Checks.Match.{bind_all, bind_components, build_context, fields_by, in_arm, name_for, names_for, value_as}
use Rattle.lq_refined_rules.specs.Checks.Operation.{bind, equations_by}
use Rattle.lq_refined_rules.specs.Checks.Pure.{type_of_use}
use Rattle.lq_refined_rules.specs.Checks.Tree.{Use, Pattern, pattern_any, pattern_name, pattern_unit, pattern_tuple, pattern_build}
use Rattle.lq_refined_rules.specs.Checks.Typing as typing
use Rattle.lq_refined_rules.specs.Checks.Typing.{AreTemplates, Points, Types, HasPattern, has_components, has_fields}
use Rattle.lq_sound_scope.proofs.ScopesLemmas.Symbols.{same_is}
use Rattle.lq_refined_types.specs.Parts.Part.{Parts, parts_by}
use Rattle.lq_refined_types.specs.Parts.Substitution.{Subst, of_sum, swap}
use Rattle.lq_logic_predicates.specs.Sum.{same_symbol, var}
use Rattle.lq_logic_predicates.specs.declared.symbol.Symbol.{Symbol}
use Rattle.lq_logic_predicates.specs.declared.symbol.Symbol.TheVariants.{Position, Value}
use Rattle.lq_refined_types.specs.Types.Context.{Context, guard}
use Rattle.lq_refined_types.specs.Types.Operations.{atom_of, symbol_of}
use Rattle.lq_refined_types.specs.Types.Refined.{Refined, Refineds, int_with, bool_with, unit_type, function, tuple_of, array_with, data_with, map_with, type_variable, none, more, Kind, object, kind, top, with_top, components_of, erased, all_erased}
use Rattle.lq_refined_types.specs.Types.Unfolding.{unfolded_from}
use Rattle.lq_sound_scope.proofs.ScalarsLemmas.Uses.{use_erased}
use Rattle.lq_refined_types.specs.Subtyping.Splitting.{first_of, rest_of}
use Rattle.lq_refined_types.specs.Subtyping.Subtype.{fields_of, with_guards}
use Rattle.lq_refined_templates.specs.Templates.Scopes.{Unknown, symbols_in}
use Rattle.lq_text_tree.specs.MlType as ml
use Rattle.lq_text_tree.specs.MlType.{MlType, MlTypes}
use Rattle.lq_text_tree.specs.Types.{Constructor, count_types}
use Rattle.lq_sound_scope.specs.Sorts.Equations.{AreEquationsWellSorted}
use Rattle.lq_sound_scope.specs.Sorts.Sorts.{IsAtomOf, Sorts, StandsAt, with_kind}
use Rattle.lq_sound_scope.specs.Sorts.Types.{ComponentsSorted, InsideSorted, PartsSorted, TopSorted, TypeSorted, TypesSorted}
use Rattle.lq_sound_scope.proofs.SortsLemmas.Basics.{Stands, first_stands, later_stands, one_cases, self_stands}
use Rattle.lq_sound_scope.proofs.SortsLemmas.Fields.{FieldsStand, equations_sorted, fields_sorted}
use Rattle.lq_sound_scope.proofs.SortsLemmas.Parts.{parts_put}
use Rattle.lq_sound_scope.proofs.SortsLemmas.Types.{Leaves, inside_with, name_atom, stands_left, top_with}
use Rattle.lq_sound_adequacy.specs.Obligations.Kinds.{ComponentKinds, NameKind, PatternKinds, name_kind}
use Rattle.lq_sound_adequacy.specs.Obligations.Sorted.{TwinsAlike}
use Rattle.lq_sound_adequacy.proofs.ObligationsLemmas.Fields.{fields_value, names_leave, names_stand, position_leaves}
use Rattle.lq_sound_adequacy.proofs.ObligationsLemmas.Pures as pures
use Rattle.lq_sound_adequacy.proofs.ObligationsLemmas.Pures.{IsFixed, Sorted, bind_sorted, name_has, use_has, use_sorted, use_variable}

topped_kind : (q : Parts) (t : Refined) → name_kind (with_top q t) ≡ name_kind t
topped_kind q (int_with p) = refl
topped_kind q (bool_with p) = refl
topped_kind q unit_type = refl
topped_kind q (function x a b) = refl
topped_kind q (tuple_of ts) = refl
topped_kind q (array_with e p) = refl
topped_kind q (data_with d ts m p) = refl
topped_kind q (map_with e p) = refl
topped_kind q (type_variable i) = refl

-- ---- names for positions

-- no position behind the first j is of these sorts
abbrev IsFree : Sorts → ℕ → Type 0
IsFree M j = (k : Kind) (l : ℕ) → j < l → M k (Position l) ≡ true → ⊥

less_not : (j l : ℕ) → suc j < l → suc j ≡ l → ⊥
less_not j l h e = omega (arith, h, e)

same_position : (i j : ℕ) → Position i ≡ Position j → i ≡ j
same_position i j e = cc

free_more : (M : Sorts) (j : ℕ) → IsFree M j → (k : Kind) → IsFree (with_kind M k (Position (suc j))) (suc j)
free_more M j h k i l less e =
    one_cases M k i (Position (suc j)) (Position l) ⊥ e (h i l (omega (arith, less)))
    (λ a b. less_not j l less (same_position (suc j) l b))

module _ (N M : Sorts) (θ : Subst) (h : Stands N θ M) (j : ℕ) (free : IsFree M j) (k : Kind) (x : ℕ) (o : IsAtomOf N k (atom_of k (symbol_of x))) where
  -- one more name for a position
  name_stands : Stands N (swap (Position (suc j)) (atom_of k (symbol_of x)) ∷ θ) (with_kind M k (Position (suc j)))
  name_stands i y e =
      let a = atom_of k (symbol_of x) in
      one_cases M k i (Position (suc j)) y (StandsAt N (swap (Position (suc j)) a ∷ θ) i y) e (λ f. old (same_symbol (Position (suc j)) y) refl f)
      (λ f g.
      subst (λ (l : Kind). StandsAt N (swap (Position (suc j)) a ∷ θ) l y) f
      (subst (λ (z : Symbol). StandsAt N (swap (Position (suc j)) a ∷ θ) k z) g (first_stands N k (Position (suc j)) a θ o)))
    where
      old : (b : Bool) → same_symbol (Position (suc j)) y ≡ b → M i y ≡ true → StandsAt N (swap (Position (suc j)) (atom_of k (symbol_of x)) ∷ θ) i y
      old true s f =
          absurd (free i (suc j) (omega arith) (subst (λ (z : Symbol). M i z ≡ true) (sym (same_is (Position (suc j)) y s)) f))
      old false s f = later_stands N i (Position (suc j)) (atom_of k (symbol_of x)) θ y s (h i y f)

module _ (P : Basis) (unknowns : ℕ → Unknown) (K : ℕ → NameKind) (twins : TwinsAlike K)
    (arguments : (i : ℕ) → TypesSorted P.setting.constructors unknowns (pures.N P unknowns K) (P.type_arguments i))
    (agree : (u : ℕ) → P.setting.scopes u ≡ symbols_in (unknowns u).0) (Q : Points) (templates : AreTemplates P Q) (give : GiveSimpleTypes P Q)
    (equations : AreEquationsWellSorted P) where
  abbrev N : Sorts
  N = pures.N P unknowns K

  abbrev Over : Refined → Type 0
  Over t = TypeSorted P.setting.constructors unknowns N t

  abbrev Good : Context → Type 0
  Good = Sorted P unknowns K

  name_stands_for : (x : ℕ) (t : Refined) → K x ≡ name_kind t → IsAtomOf N (kind t) (atom_of (kind t) (symbol_of x))
  name_stands_for x t e = name_atom P.setting.constructors unknowns N (kind t) (symbol_of x) (name_has K x t e)

  -- ---- tuples

  first_inside : (M : Sorts) (j : ℕ) (ts : Refineds) → ComponentsSorted P.setting.constructors unknowns N M j ts
      → InsideSorted P.setting.constructors unknowns N (first_of ts) × TopSorted unknowns M (first_of ts)
  first_inside M j none h = (tt, tt)
  first_inside M j (more t ts) h = (h.0, h.1)

  rest_components : (M : Sorts) (j : ℕ) (ts : Refineds) → ComponentsSorted P.setting.constructors unknowns N M j ts
      → ComponentsSorted P.setting.constructors unknowns N (with_kind M (kind (first_of ts)) (Position (suc j))) (suc j) (rest_of ts)
  rest_components M j none h = tt
  rest_components M j (more t ts) h = h.2

  components_bound : (xs : List ℕ) (ts : Refineds) (θ : Subst) (j : ℕ) (Γ : Context) (M : Sorts) → Good Γ
      → ComponentsSorted P.setting.constructors unknowns N M j ts → Stands N θ M → Leaves θ Value → IsFree M j → ComponentKinds P K xs ts
      → Good (bind_components P.setting.scopes θ j xs ts Γ)
  components_bound [] ts θ j Γ M good h p l free kinds = good
  components_bound (x ∷ xs) ts θ j Γ M good h p l free kinds =
      let s = first_of ts in
      let q = parts_by P.setting.scopes θ (top s) in
      let t = with_top q s in
      let a = first_inside M j ts h in
      let o = name_stands_for x s kinds.0 in
      let over : Over t = (
        inside_with P.setting.constructors unknowns N q s a.0,
        top_with unknowns N q s
            (parts_put unknowns P.setting.scopes agree (with_kind N (kind s) Value) (with_kind M (kind s) Value) θ (stands_left N M θ p (kind s) Value l) (top s) a.1),
      ) in
      components_bound xs (rest_of ts) (name_for j x s ∷ θ) (suc j) (bind x t Γ) (with_kind M (kind s) (Position (suc j)))
      (bind_sorted P unknowns K Γ good x t (kinds.0 ∙ sym (topped_kind q s)) over) (rest_components M j ts h)
      (name_stands N M θ p j free (kind s) x o) (position_leaves (suc j) (atom_of (kind s) (symbol_of x)) θ l) (free_more M j free (kind s)) kinds.1

  no_position : IsFree N 0
  no_position k l less e = cc

  self_all : Stands N [] N
  self_all k x e = self_stands N k x e

  tuple_arm : (xs : List ℕ) (t : Refined) (Γ : Context) → Good Γ → Over t → ComponentKinds P K xs (components_of t)
      → Good (bind_components P.setting.scopes [] 0 xs (components_of t) Γ)
  tuple_arm xs (tuple_of ts) Γ good o kinds = components_bound xs ts [] 0 Γ N good o.0 self_all (refl, refl) no_position kinds
  tuple_arm xs (int_with p) Γ good o kinds = components_bound xs none [] 0 Γ N good tt self_all (refl, refl) no_position kinds
  tuple_arm xs (bool_with p) Γ good o kinds = components_bound xs none [] 0 Γ N good tt self_all (refl, refl) no_position kinds
  tuple_arm xs unit_type Γ good o kinds = components_bound xs none [] 0 Γ N good tt self_all (refl, refl) no_position kinds
  tuple_arm xs (function x a b) Γ good o kinds = components_bound xs none [] 0 Γ N good tt self_all (refl, refl) no_position kinds
  tuple_arm xs (array_with e p) Γ good o kinds = components_bound xs none [] 0 Γ N good tt self_all (refl, refl) no_position kinds
  tuple_arm xs (data_with d ts m p) Γ good o kinds = components_bound xs none [] 0 Γ N good tt self_all (refl, refl) no_position kinds
  tuple_arm xs (map_with e p) Γ good o kinds = components_bound xs none [] 0 Γ N good tt self_all (refl, refl) no_position kinds
  tuple_arm xs (type_variable i) Γ good o kinds = components_bound xs none [] 0 Γ N good tt self_all (refl, refl) no_position kinds

  -- ---- constructors

  all_bound : (xs : List ℕ) (ts : Refineds) (Γ : Context) → Good Γ → TypesSorted P.setting.constructors unknowns N ts → ComponentKinds P K xs ts
      → Good (bind_all xs ts Γ)
  all_bound [] ts Γ good h kinds = good
  all_bound (x ∷ xs) none Γ good h kinds = all_bound xs none (bind x unit_type Γ) (bind_sorted P unknowns K Γ good x unit_type kinds.0 (tt, tt)) tt kinds.1
  all_bound (x ∷ xs) (more t ts) Γ good h kinds = all_bound xs ts (bind x t Γ) (bind_sorted P unknowns K Γ good x t kinds.0 (h.0, h.1)) h.2 kinds.1

  guards_bound : (qs : Parts) (Γ : Context) → Good Γ → PartsSorted unknowns N qs → Good (with_guards qs Γ)
  guards_bound [] Γ good h = good
  guards_bound (q ∷ qs) Γ good h = guards_bound qs (guard q ∷ Γ) ((h.0, good.0), good.1) h.1

  build_arm : (Γ : Context) → Good Γ → (x : ℕ) (t : Refined) → Over t → IsAtomOf N (kind t) (atom_of (kind t) (symbol_of x)) → (c : ℕ) (k : Constructor)
      (us : MlTypes) (xs : List ℕ) → P.setting.constructors c ≡ Some k → erased t ≡ ml.named k.datatype us → length xs ≡ count_types k.fields
      → ComponentKinds P K xs (fields_by P Γ x t c (names_for 0 xs (fields_by P Γ x t c [])))
      → Good (build_context P Γ x t c xs)
  build_arm Γ good x (data_with d ts M p) o own c k us xs e is count kinds =
      let fs = fields_of (P.setting.constructors c) in
      let are : fs ≡ k.fields = ap fields_of e in
      let θ = names_for 0 xs (unfolded_from P.setting.scopes [] d ts M c 0 fs) in
      let stand = names_stand P unknowns K d ts M c θ 0 xs fs (count ∙ ap count_types (sym are)) kinds in
      let left = names_leave 0 xs (unfolded_from P.setting.scopes [] d ts M c 0 fs) in
      let fields = fields_sorted P.setting.constructors unknowns P.setting.scopes agree N θ left d ts M c stand o.0.0 o.0.1 0 fs in
      let a = of_sum (var (symbol_of x)) in
      let known_there = equations_sorted unknowns N (all_erased ts) (value_as x ∷ θ) k.fields (first_stands N object Value a θ own)
      (fields_value N (all_erased ts) a θ 0 k.fields (subst (λ (gs : MlTypes). FieldsStand N (all_erased ts) θ 0 gs) are stand)) (P.equations c) (equations c k e) in
      guards_bound (equations_by P c (value_as x ∷ θ)) (bind_all xs (unfolded_from P.setting.scopes θ d ts M c 0 fs) Γ)
      (all_bound xs (unfolded_from P.setting.scopes θ d ts M c 0 fs) Γ good fields kinds) known_there
  build_arm Γ good x (int_with p) o own c k us xs e is count kinds = cc
  build_arm Γ good x (bool_with p) o own c k us xs e is count kinds = cc
  build_arm Γ good x unit_type o own c k us xs e is count kinds = cc
  build_arm Γ good x (function y b r) o own c k us xs e is count kinds = cc
  build_arm Γ good x (tuple_of ts) o own c k us xs e is count kinds = cc
  build_arm Γ good x (array_with i p) o own c k us xs e is count kinds = cc
  build_arm Γ good x (map_with i p) o own c k us xs e is count kinds = cc
  build_arm Γ good x (type_variable i) o own c k us xs e is count kinds = cc

  build_pattern : (Γ : Context) → Good Γ → (u : Use) → IsFixed P unknowns K u → {Δ Θ : Types} {a : MlType} {c : ℕ} {xs : List ℕ}
      → erased (type_of_use P Γ u) ≡ a → HasPattern P Δ a (pattern_build c xs) Θ → PatternKinds P K Γ u (pattern_build c xs)
      → Good (in_arm P Γ u (pattern_build c xs))
  build_pattern Γ good u w e (has_fields {c = c} {k = k} {us = us} {xs = xs} g n l) kinds =
      build_arm Γ good u.name (type_of_use P Γ u) (use_sorted P unknowns K twins arguments agree Γ good u)
      (use_has P unknowns K twins arguments agree Γ good u w) c k us xs g e l kinds

  pub arm_sorted : (Γ : Context) → Good Γ → (u : Use) → IsFixed P unknowns K u → (q : Pattern) (Δ Θ : Types) → Fits Δ Γ
      → HasPattern P Δ (typing.type_of_use Q Δ u) q Θ → PatternKinds P K Γ u q → Good (in_arm P Γ u q)
  arm_sorted Γ good u w pattern_any Δ Θ f h kinds = good
  arm_sorted Γ good u w (pattern_name x) Δ Θ f h kinds =
      bind_sorted P unknowns K Γ good x _ kinds (use_variable P unknowns K twins arguments agree Q templates give Γ good u w)
  arm_sorted Γ good u w pattern_unit Δ Θ f h kinds = good
  arm_sorted Γ good u w (pattern_tuple xs) Δ Θ f h kinds =
      tuple_arm xs (type_of_use P Γ u) Γ good (use_sorted P unknowns K twins arguments agree Γ good u) kinds
  arm_sorted Γ good u w (pattern_build c xs) Δ Θ f h kinds = build_pattern Γ good u w (use_erased P Q templates Δ Γ f u) h kinds
