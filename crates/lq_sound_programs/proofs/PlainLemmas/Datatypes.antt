-- Subtypings of datatypes, tuples and arrays of base types, and of functions in scope, are apart.
use Rattle.std.proofs.Common.{◌≡◌, ℕ, suc, ◌≤◌, ◌==◌, false, List, [], ◌∷◌, inl, inr, refl, arith as numbers}
use Rattle.lq_logic_predicates.specs.declared.symbol.Symbol.TheVariants as symbol
use Rattle.lq_refined_types.specs.Parts.Assignment.{Assignment}
use Rattle.lq_refined_types.specs.Parts.Part.{Parts, parts_by}
use Rattle.lq_refined_types.specs.Parts.Substitution.{Subst}
use Rattle.lq_refined_types.specs.Types.Context.{Context, guard}
use Rattle.lq_refined_types.specs.Types.Operations.{symbol_of}
use Rattle.lq_refined_types.specs.Types.Refined.{Refined, Refineds, int_with, bool_with, unit_type, function, tuple_of, array_with, data_with, map_with, type_variable, none, more, top, with_top, components_of}
use Rattle.lq_refined_types.specs.Subtyping.Splitting.{first_of, rest_of}
use Rattle.lq_refined_types.specs.Subtyping.Subtype.{Setting, with_guards, IsSubtype, sub, in_int, in_bool, in_unit, in_tuple, in_array, in_data, IsInside, AreSubtypes, sub_none, sub_more, AreComponents, component_none, component_more}
use Rattle.lq_refined_rules.specs.Checks.Basis.{Basis}
use Rattle.lq_refined_rules.specs.Checks.Match.{in_arm, fields_by, names_for, value_as, bind_all, bind_components, name_for}
use Rattle.lq_refined_rules.specs.Checks.Operation.{equations_by, bind}
use Rattle.lq_refined_rules.specs.Checks.Pure.{variable_type, type_of_use, pure_type}
use Rattle.lq_refined_rules.specs.Checks.Tree.{Use, Pure, Pattern, pattern_any, pattern_name, pattern_unit, pattern_tuple, pattern_build}
use Rattle.lq_sound_values.specs.Inhabitants.Truth.{Objects, Scene}
use Rattle.lq_sound_values.specs.Inclusion.Apart.{Apart, ApartInside, AllApart, ApartComponents}
use Rattle.lq_sound_values.specs.Inclusion.Laws.{IsScene}
use Rattle.lq_sound_values.specs.Inclusion.Symbols.{Symbols, with_symbol}
use Rattle.lq_sound_values.specs.Runs.Closed.{names_in, IsClosed, Binds}
use Rattle.lq_sound_values.proofs.RunsLemmas.Closing.{Within, with_within, within_with, closed_bind, may_bind}
use Rattle.lq_sound_values.proofs.RunsLemmas.Lower.{Lower}
use Rattle.lq_sound_values.specs.NewNames.NewNames.{HasNoPositions, SubtypesAreApart}
use Rattle.lq_sound_values.proofs.NewNamesLemmas.Fields.{AllOver, both_false, less_apart, cells_apart}
use Rattle.lq_sound_values.proofs.NewNamesLemmas.Wider.{over_more, new_of}
use Rattle.lq_sound_forms.specs.Pures.Pures.{scene_of}
use Rattle.lq_sound_forms.specs.Builds.Builds.{ArgumentsApart}
use Rattle.lq_sound_programs.specs.Plain.Plain.{AreSides, IsBase, AreBase, AreBaseOver, IsBaseFlow, IsFlow, ArePlainArguments}

pub base_apart : (S : Scene) {P : Setting} {B : Assignment} {Γ : Context} (l t : Refined) → IsBase t → (d : IsSubtype P B Γ l t) → Apart S d
base_apart S l (int_with p) b (sub e in_int) = tt
base_apart S l (bool_with p) b (sub e in_bool) = tt
base_apart S l unit_type b (sub e in_unit) = tt
base_apart S l (function x a c) b d = absurd b
base_apart S l (tuple_of ts) b d = absurd b
base_apart S l (array_with e p) b d = absurd b
base_apart S l (data_with c ts m p) b d = absurd b
base_apart S l (map_with e p) b d = absurd b
base_apart S l (type_variable i) b d = absurd b

base_inside : (S : Scene) {P : Setting} {B : Assignment} {Γ : Context} (l t : Refined) → IsBase t → (d : IsInside P B Γ l t) → ApartInside S d
base_inside S l (int_with p) b in_int = tt
base_inside S l (bool_with p) b in_bool = tt
base_inside S l unit_type b in_unit = tt
base_inside S l (function x a c) b d = absurd b
base_inside S l (tuple_of ts) b d = absurd b
base_inside S l (array_with e p) b d = absurd b
base_inside S l (data_with c ts m p) b d = absurd b
base_inside S l (map_with e p) b d = absurd b
base_inside S l (type_variable i) b d = absurd b

all_apart : (S : Scene) {P : Setting} {B : Assignment} {Γ : Context} {ls rs : Refineds} → AreBase rs → (d : AreSubtypes P B Γ ls rs) → AllApart S d
all_apart S b sub_none = tt
all_apart S b (sub_more {l = l} {r = r} d ds) = (base_apart S l r b.0 d, all_apart S b.1 ds)

-- ---- environments without fields

-- no position is a name of the environment
abbrev pub IsClean : Context → Type 0
IsClean Γ = HasNoPositions (names_in Γ)

pub clean_bind : (Γ : Context) (x : ℕ) (t : Refined) → IsClean Γ → IsClean (bind x t Γ)
clean_bind Γ x t c k = both_false (names_in Γ (symbol.Position k)) false (c k) refl

clean_all : (xs : List ℕ) (ts : Refineds) (Γ : Context) → IsClean Γ → IsClean (bind_all xs ts Γ)
clean_all [] ts Γ c = c
clean_all (x ∷ xs) ts Γ c = clean_all xs (rest_of ts) (bind x (first_of ts) Γ) (clean_bind Γ x (first_of ts) c)

clean_components : (P : Basis) (xs : List ℕ) (θ : Subst) (j : ℕ) (ts : Refineds) (Γ : Context) → IsClean Γ → IsClean (bind_components P.setting.scopes θ j xs ts Γ)
clean_components P [] θ j ts Γ c = c
clean_components P (x ∷ xs) θ j ts Γ c =
    let t = with_top (parts_by P.setting.scopes θ (top (first_of ts))) (first_of ts) in
    clean_components P xs (name_for j x (first_of ts) ∷ θ) (suc j) (rest_of ts) (bind x t Γ) (clean_bind Γ x t c)

clean_guards : (gs : Parts) (Γ : Context) → IsClean Γ → IsClean (with_guards gs Γ)
clean_guards [] Γ c = c
clean_guards (q ∷ qs) Γ c = clean_guards qs (guard q ∷ Γ) c

pub clean_arm : (P : Basis) (Γ : Context) (u : Use) (q : Pattern) → IsClean Γ → IsClean (in_arm P Γ u q)
clean_arm P Γ u pattern_any c = c
clean_arm P Γ u (pattern_name y) c = clean_bind Γ y (variable_type P.setting.scopes u.name (type_of_use P Γ u)) c
clean_arm P Γ u pattern_unit c = c
clean_arm P Γ u (pattern_tuple xs) c = clean_components P xs [] 0 (components_of (type_of_use P Γ u)) Γ c
clean_arm P Γ u (pattern_build i xs) c =
    let t = type_of_use P Γ u in
    let θ = names_for 0 xs (fields_by P Γ u.name t i []) in
    let us = fields_by P Γ u.name t i θ in
    clean_guards (equations_by P i (value_as u.name ∷ θ)) (bind_all xs us Γ) (clean_all xs us Γ c)

-- an arm has the names outside
within_all : (xs : List ℕ) (ts : Refineds) (Γ : Context) → Within (names_in Γ) (names_in (bind_all xs ts Γ))
within_all [] ts Γ y h = h
within_all (x ∷ xs) ts Γ y h = within_all xs (rest_of ts) (bind x (first_of ts) Γ) y (within_with (names_in Γ) (symbol_of x) y h)

within_components : (P : Basis) (xs : List ℕ) (θ : Subst) (j : ℕ) (ts : Refineds) (Γ : Context) → Within (names_in Γ) (names_in (bind_components P.setting.scopes θ j xs ts Γ))
within_components P [] θ j ts Γ y h = h
within_components P (x ∷ xs) θ j ts Γ y h =
    let t = with_top (parts_by P.setting.scopes θ (top (first_of ts))) (first_of ts) in
    within_components P xs (name_for j x (first_of ts) ∷ θ) (suc j) (rest_of ts) (bind x t Γ) y (within_with (names_in Γ) (symbol_of x) y h)

within_guards : (gs : Parts) (Γ : Context) → Within (names_in Γ) (names_in (with_guards gs Γ))
within_guards [] Γ y h = h
within_guards (q ∷ qs) Γ y h = within_guards qs (guard q ∷ Γ) y h

pub within_arm : (P : Basis) (Γ : Context) (u : Use) (q : Pattern) → Within (names_in Γ) (names_in (in_arm P Γ u q))
within_arm P Γ u pattern_any y h = h
within_arm P Γ u (pattern_name x) y h = within_with (names_in Γ) (symbol_of x) y h
within_arm P Γ u pattern_unit y h = h
within_arm P Γ u (pattern_tuple xs) y h = within_components P xs [] 0 (components_of (type_of_use P Γ u)) Γ y h
within_arm P Γ u (pattern_build i xs) y h =
    let t = type_of_use P Γ u in
    let θ = names_for 0 xs (fields_by P Γ u.name t i []) in
    let us = fields_by P Γ u.name t i θ in
    within_guards (equations_by P i (value_as u.name ∷ θ)) (bind_all xs us Γ) y (within_all xs us Γ y h)

-- ---- subtypings

base_all : (S : Scene) (N : Symbols) (ts : Refineds) → AreBaseOver S N ts → AllOver S N ts
base_all S N none b = tt
base_all S N (more t ts) b = (b.1, base_all S N ts b.2)

module _ (law : Lower) (S : Scene) (is : IsScene S) where
  -- components, with names for the earlier ones
  components_apart : {P : Setting} {B : Assignment} {Γ Δ : Context} {k : ℕ} {ls rs : Refineds} (N : Symbols) → IsClosed S Δ → Within N (names_in Δ)
      → ((i : ℕ) → k ≤ i → names_in Δ (symbol.Position (suc i)) ≡ false) → AreSides S N k ls rs → (c : AreComponents P B Γ Δ k ls rs)
      → ApartComponents S c
  components_apart N closed w new a component_none = tt
  components_apart N closed w new a (component_more {Δ = Δ} {k = k} {l = l} {r = r} t i rest) =
      let x = symbol.Position (suc k) in
      let inner : Binds S x l Δ = (refl, new_of Δ x (new k (omega numbers)), over_more S N (names_in Δ) w l a.2, closed) in (
        base_inside S l r a.1 i,
        may_bind law S is Δ x l inner,
        components_apart (with_symbol N x) (closed_bind S x l Δ inner) (with_within N (names_in Δ) x w)
            (λ j le.
            both_false (names_in Δ (symbol.Position (suc j))) (suc k == suc j) (new j (omega (numbers, le)))
            (less_apart (suc k) (suc j) (omega (numbers, le))))
            a.3 rest,
      )

  base_flow_apart : (Γ : Context) → IsClosed S Γ → IsClean Γ → (l r : Refined) → IsBaseFlow S (names_in Γ) l r
      → (d : IsSubtype S.setting S.assignment Γ l r) → Apart S d
  base_flow_apart Γ closed clean (data_with i ls m p) (data_with j rs n q) a (sub t (in_data args cells)) =
      (all_apart S a.1 args, cells_apart law S is Γ closed clean i ls m n (base_all S (names_in Γ) ls a.0) a.2 a.3)
  base_flow_apart Γ closed clean (tuple_of ls) (tuple_of rs) a (sub t (in_tuple c)) =
      components_apart (names_in Γ) closed (λ y h. h) (λ k le. clean (suc k)) a c
  base_flow_apart Γ closed clean (array_with e p) (array_with f q) a (sub t (in_array d g)) = (base_apart S e f a.1 d, base_apart S f e a.0 g)
  base_flow_apart Γ closed clean l (int_with q) a d = base_apart S l (int_with q) tt d
  base_flow_apart Γ closed clean l (bool_with q) a d = base_apart S l (bool_with q) tt d
  base_flow_apart Γ closed clean l unit_type a d = base_apart S l unit_type tt d
  base_flow_apart Γ closed clean _ _ a d = absurd a

  -- the subtypings of plain programs
  pub flow_apart : SubtypesAreApart → (Γ : Context) → IsClosed S Γ → IsClean Γ → (l r : Refined) → IsFlow S (names_in Γ) l r
      → (d : IsSubtype S.setting S.assignment Γ l r) → Apart S d
  flow_apart new Γ closed clean l r (inl a) d = base_flow_apart Γ closed clean l r a d
  flow_apart new Γ closed clean l r (inr a) d = new S is Γ l r closed a.0 a.1 a.2 a.3 a.4 d

pub arguments_apart : Lower → SubtypesAreApart → (P : Basis) (A : Assignment) (O : Objects) → IsScene (scene_of P A O) → (Γ : Context) → IsClosed (scene_of P A O) Γ → IsClean Γ → (es : List Pure) (ts : Refineds) → ArePlainArguments P A O Γ es ts → ArgumentsApart P A O Γ es ts
arguments_apart law new P A O is Γ closed clean [] ts h = tt
arguments_apart law new P A O is Γ closed clean (e ∷ es) ts h =
    ((λ d. flow_apart law (scene_of P A O) is new Γ closed clean (pure_type P Γ e) (first_of ts) h.0 d), arguments_apart law new P A O is Γ closed clean es (rest_of ts) h.1)
