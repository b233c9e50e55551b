-- What stands for type variables allows uses, and still does in an environment with more names.
use Rattle.std.proofs.Common.{◌≡◌, ◌||◌, ℕ, suc, Bool, true, false, List, [], ◌∷◌, Option, Some, None, refl, subst}
use Rattle.lq_refined_types.specs.Parts.Assignment.{Assignment}
use Rattle.lq_refined_types.specs.Parts.Part.{Parts, Scopes, parts_by}
use Rattle.lq_refined_types.specs.Parts.Substitution.{Subst}
use Rattle.lq_logic_predicates.specs.declared.symbol.Symbol.{Symbol}
use Rattle.lq_logic_predicates.specs.Sum.{same_symbol}
use Rattle.lq_refined_types.specs.Types.Context.{Context, IsNew, guard, name}
use Rattle.lq_refined_types.specs.Types.Operations.{symbol_of}
use Rattle.lq_refined_types.specs.Types.Refined.{Refined, Refineds, top, with_top, components_of}
use Rattle.lq_refined_types.specs.Subtyping.Splitting.{first_of, rest_of}
use Rattle.lq_refined_types.specs.Subtyping.Subtype.{with_guards}
use Rattle.lq_refined_rules.specs.Checks.Basis.{Basis}
use Rattle.lq_refined_rules.specs.Checks.Match.{in_arm, bind_all, bind_components, name_for, names_for, fields_by, value_as}
use Rattle.lq_refined_rules.specs.Checks.Operation.{bind, equations_by}
use Rattle.lq_refined_rules.specs.Checks.Pure.{type_of_use}
use Rattle.lq_refined_rules.specs.Checks.Tree.{Use, Pure, Pattern, pattern_any, pattern_name, pattern_unit, pattern_tuple, pattern_build, names_of}
use Rattle.lq_sound_values.specs.Inhabitants.Truth.{Objects, Scene}
use Rattle.lq_sound_values.specs.Inclusion.Symbols.{Symbols, with_symbol}
use Rattle.lq_sound_values.proofs.InclusionLemmas.Truths.{same_symbol-is, same_symbol-refl, decide}
use Rattle.lq_sound_values.specs.Runs.Closed.{names_in, IsClosedIn, IsClosed}
use Rattle.lq_sound_values.specs.Runs.Meets.{Variables}
use Rattle.lq_sound_values.proofs.RunsLemmas.Closing.{or_parts, new_name}
use Rattle.lq_sound_forms.specs.Pures.Pures.{scene_of, MayUse, IsGeneralFor}
use Rattle.lq_sound_forms.proofs.PuresLemmas.Pures.{each_use}
use Rattle.lq_sound_forms.specs.Tuples.Tuples.{MayUseAll}
use Rattle.lq_sound_programs.specs.Safety.Programs.{with_names, IsUseOf, IsUse, ArePuresOf, Allows}

module _ (by : Variables) (G V : Symbols) (Γ : Context) (al : Allows by G V Γ) where
  pub may_use : (u : Use) → IsUse G V u → MayUse by u
  may_use u k = (al.shown (symbol_of u.name) k.0, at u.type_arguments k.1)
    where
      at : (i : Option ℕ) → IsUseOf G u.name i → IsGeneralFor by u.name i
      at None h = tt
      at (Some i) h = al.general (symbol_of u.name) h

  pub may_all : (es : List Pure) → ArePuresOf G V es → MayUseAll by es
  may_all [] k = tt
  may_all (e ∷ es) k = (each_use (IsUse G V) (MayUse by) may_use e k.0, may_all es k.1)

-- ---- more names

pub new_outside : (Γ : Context) (x : Symbol) → IsNew x Γ → names_in Γ x ≡ false
new_outside Γ x new = decide (names_in Γ x ≡ false) (names_in Γ x) (λ i. absurd (clash (same_symbol x x) (new_name Γ x x new i) (same_symbol-refl x))) (λ i. i)
  where
    clash : (b : Bool) → b ≡ false → b ≡ true → ⊥
    clash true p q = cc
    clash false p q = cc

pub not_left : (a b : Bool) → a || b ≡ false → a ≡ false
not_left true b h = absurd (cc)
not_left false b h = refl

pub allows_bind : (by : Variables) (G V : Symbols) (Γ : Context) (x : Symbol) (t : Refined) → IsNew x Γ → Allows by G V Γ → Allows by G (with_symbol V x) (name x t ∷ Γ)
allows_bind by G V Γ x t new al =
    record {
      within = λ y h. al.within y (not_left (names_in Γ y) (same_symbol x y) h);
      shown = λ y h. or_parts (by.hidden y ≡ false) (V y) (same_symbol x y) h (al.shown y) (λ e. subst (λ z. by.hidden z ≡ false) (same_symbol-is x y e) (al.within x (new_outside Γ x new)).1);
      general = al.general;
    }

module _ (S : Scene) (N : Symbols) where
  guards_inside : (gs : Parts) (Γ : Context) → IsClosedIn S N (with_guards gs Γ) → IsClosedIn S N Γ
  guards_inside [] Γ c = c
  guards_inside (q ∷ qs) Γ c = (guards_inside qs (guard q ∷ Γ) c).1

  all_inside : (xs : List ℕ) (ts : Refineds) (Γ : Context) → IsClosedIn S N (bind_all xs ts Γ) → IsClosedIn S N Γ
  all_inside [] ts Γ c = c
  all_inside (x ∷ xs) ts Γ c = (all_inside xs (rest_of ts) (bind x (first_of ts) Γ) c).3

  components_inside : (scopes : Scopes) (xs : List ℕ) (θ : Subst) (j : ℕ) (ts : Refineds) (Γ : Context) → IsClosedIn S N (bind_components scopes θ j xs ts Γ) → IsClosedIn S N Γ
  components_inside scopes [] θ j ts Γ c = c
  components_inside scopes (x ∷ xs) θ j ts Γ c =
      let t = first_of ts in
      (components_inside scopes xs (name_for j x t ∷ θ) (suc j) (rest_of ts) (bind x (with_top (parts_by scopes θ (top t)) t) Γ) c).3

  module _ (by : Variables) (G : Symbols) where
    allows_all : (xs : List ℕ) (ts : Refineds) (V : Symbols) (Γ : Context) → IsClosedIn S N (bind_all xs ts Γ) → Allows by G V Γ → Allows by G (with_names V xs) (bind_all xs ts Γ)
    allows_all [] ts V Γ c al = al
    allows_all (x ∷ xs) ts V Γ c al =
        let inner = all_inside xs (rest_of ts) (bind x (first_of ts) Γ) c in
        allows_all xs (rest_of ts) (with_symbol V (symbol_of x)) (bind x (first_of ts) Γ) c (allows_bind by G V Γ (symbol_of x) (first_of ts) inner.1 al)

    allows_components : (scopes : Scopes) (xs : List ℕ) (θ : Subst) (j : ℕ) (ts : Refineds) (V : Symbols) (Γ : Context) → IsClosedIn S N (bind_components scopes θ j xs ts Γ) → Allows by G V Γ → Allows by G (with_names V xs) (bind_components scopes θ j xs ts Γ)
    allows_components scopes [] θ j ts V Γ c al = al
    allows_components scopes (x ∷ xs) θ j ts V Γ c al =
        let t = first_of ts in
        let u = with_top (parts_by scopes θ (top t)) t in
        let inner = components_inside scopes xs (name_for j x t ∷ θ) (suc j) (rest_of ts) (bind x u Γ) c in
        allows_components scopes xs (name_for j x t ∷ θ) (suc j) (rest_of ts) (with_symbol V (symbol_of x)) (bind x u Γ) c (allows_bind by G V Γ (symbol_of x) u inner.1 al)

    allows_guards : (gs : Parts) (V : Symbols) (Γ : Context) → Allows by G V Γ → Allows by G V (with_guards gs Γ)
    allows_guards [] V Γ al = al
    allows_guards (q ∷ qs) V Γ al = allows_guards qs V (guard q ∷ Γ) record { within = al.within; shown = al.shown; general = al.general }

-- in an arm, whose names are new
pub allows_arm : (P : Basis) (A : Assignment) (O : Objects) (by : Variables) (G V : Symbols) (Γ : Context) (u : Use) (q : Pattern) → IsClosed (scene_of P A O) (in_arm P Γ u q) → Allows by G V Γ → Allows by G (with_names V (names_of q)) (in_arm P Γ u q)
allows_arm P A O by G V Γ u pattern_any c al = al
allows_arm P A O by G V Γ u (pattern_name y) c al = allows_bind by G V Γ (symbol_of y) _ c.1 al
allows_arm P A O by G V Γ u pattern_unit c al = al
allows_arm P A O by G V Γ u (pattern_tuple ys) c al =
    allows_components (scene_of P A O) (names_in (in_arm P Γ u (pattern_tuple ys))) by G P.setting.scopes ys [] 0 (components_of (type_of_use P Γ u)) V Γ c al
allows_arm P A O by G V Γ u (pattern_build i ys) c al =
    let S = scene_of P A O in
    let N = names_in (in_arm P Γ u (pattern_build i ys)) in
    let t = type_of_use P Γ u in
    let θ = names_for 0 ys (fields_by P Γ u.name t i []) in
    let ts = fields_by P Γ u.name t i θ in
    let gs = equations_by P i (value_as u.name ∷ θ) in
    allows_guards S N by G gs (with_names V ys) (bind_all ys ts Γ) (allows_all S N by G ys ts V Γ (guards_inside S N gs (bind_all ys ts Γ) c) al)
