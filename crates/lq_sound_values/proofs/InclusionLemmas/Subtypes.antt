-- What inhabits a type inhabits its supertypes.
use Rattle.std.proofs.Common.{ℕ, suc, ◌∷◌, ◌++◌, Option, Some, None}
use Rattle.lq_logic_predicates.specs.declared.symbol.Symbol.TheVariants as symbol
use Rattle.lq_meaning_steps.specs.Model.Core.{Value, Values, no_values, more_values}
use Rattle.lq_refined_types.specs.Parts.Assignment.{Assignment, IsScoped}
use Rattle.lq_refined_types.specs.Parts.Part.{Parts}
use Rattle.lq_refined_types.specs.Types.Context.{Context}
use Rattle.lq_refined_types.specs.Types.Operations.{symbol_of}
use Rattle.lq_refined_types.specs.Types.Refined.{Matrix, Refined, Refineds, data_with, object, top}
use Rattle.lq_refined_types.specs.Subtyping.Implication.{EachImplied}
use Rattle.lq_refined_types.specs.Subtyping.Subtype.{Setting, shared, with_binder, facts, IsSubtype, sub, IsInside, in_int, in_bool, in_unit, in_variable, in_function, in_tuple, in_array, in_data, in_map, AreSubtypes, sub_none, sub_more, AreComponents, component_none, component_more}
use Rattle.lq_sound_values.specs.Inhabitants.Truth.{Objects, Givens, given, Scene, AreTrue}
use Rattle.lq_sound_values.specs.Inhabitants.Shut.{shut, read_at, Shuts, shut_all, with_argument, position, components}
use Rattle.lq_sound_values.specs.Inhabitants.Inhabits.{Table, CallsBelow, SameBelow}
use Rattle.lq_sound_values.specs.Inhabitants.Below.{Below, AllBelow}
use Rattle.lq_sound_values.specs.Inhabitants.Datatypes.{HasKind, TypeHas, Entails, AreCovariant, DatatypesFit}
use Rattle.lq_sound_values.proofs.InhabitantsLemmas.Topped.{type_has, top_true}
use Rattle.lq_sound_values.proofs.InhabitantsLemmas.Keeping.{AllFit}
use Rattle.lq_sound_values.specs.Inclusion.Apart.{IsKnown, MayBindSome, Apart, ApartInside, AllApart, ApartComponents}
use Rattle.lq_sound_values.proofs.InclusionLemmas.Truths.{Lower, each_implied_true, parts_append, still_true}
use Rattle.lq_sound_values.proofs.InclusionLemmas.Knowing.{known_bind}
use Rattle.lq_sound_values.proofs.InclusionLemmas.Forms.{PartsGive, int_below, bool_below, function_below, array_below, map_below, tuple_below}
use Rattle.lq_sound_values.proofs.InclusionLemmas.Cells.{cells_entail}

pub data_by : DatatypesFit → (S : Scene) → AreCovariant S.setting.constructors → (κ μ σ τ : Givens) (by to : Shuts) (d : ℕ) (As Bs : Refineds) (M N : Matrix) (p q : Parts) → Entails S d (shut_all σ by As) M N → AllBelow S (shut_all σ by As) (shut_all τ to Bs) → PartsGive S (HasKind object) κ μ p q → Below S (read_at κ σ by (data_with d As M p)) (read_at μ τ to (data_with d Bs N q))
data_by fit S cov κ μ σ τ by to d As Bs M N p q e leq f n W v h =
    ((fit S cov d (shut_all σ by As) (shut_all τ to Bs) M N e leq n W v (h.0, tt)).0, (f v (type_has S (CallsBelow S n) (SameBelow S n) W κ σ by (data_with d As M p) v h) h.1.0, tt))

-- the shared name's value
known_some : Lower → (S : Scene) → IsScoped S.setting.scopes S.assignment → (Γ : Context) (σ : Givens) (z : Option ℕ) (U : Refined) (a : Value) → MayBindSome S z U Γ → IsKnown S Γ σ → TypeHas U a → AreTrue S (given symbol.Value a ∷ σ) (top U) → IsKnown S (with_binder z U Γ) (with_argument z a σ)
known_some law S scoped Γ σ None U a m k is h = k
known_some law S scoped Γ σ (Some x) U a m k is h = known_bind law S scoped Γ σ (symbol_of x) U a m k is h

-- what is known gives the right top where the left one is true
tops_give : Lower → (S : Scene) (Γ : Context) (τ : Givens) (p q : Parts) → EachImplied S.assignment (facts S.setting Γ ++ p) q → IsKnown S Γ τ → (u : Value) → AreTrue S (given symbol.Value u ∷ τ) p → AreTrue S (given symbol.Value u ∷ τ) q
tops_give law S Γ τ p q t k u h =
    each_implied_true law S (given symbol.Value u ∷ τ) (facts S.setting Γ ++ p) q t (parts_append S (given symbol.Value u ∷ τ) (facts S.setting Γ) p (still_true S τ symbol.Value u (facts S.setting Γ) k.lacks_value k.true_facts) h)

abbrev pub scene : Setting → Assignment → Objects → Scene
scene P B O = record { setting = P; assignment = B; objects = O }

module _ (law : Lower) (fit : DatatypesFit) (P : Setting) (B : Assignment) (O : Objects) (scoped : IsScoped P.scopes B) (cov : AreCovariant P.constructors) where
  mutual
    pub sub_below : {Γ : Context} {L R : Refined} (d : IsSubtype P B Γ L R) → Apart (scene P B O) d → (σ : Givens) (by : Shuts) → IsKnown (scene P B O) Γ σ → Below (scene P B O) (shut σ by L) (shut σ by R)
    sub_below {Γ = Γ} {L = L} {R = R} (sub t i) a σ by k =
        inside_below i a σ by k σ σ (λ u is q. tops_give law (scene P B O) Γ σ (top L) (top R) t k u q)

    inside_below : {Γ : Context} {L R : Refined} (i : IsInside P B Γ L R) → ApartInside (scene P B O) i → (σ : Givens) (by : Shuts) → IsKnown (scene P B O) Γ σ → (τ κ : Givens) → PartsGive (scene P B O) (TypeHas L) τ κ (top L) (top R) → Below (scene P B O) (read_at τ σ by L) (read_at κ σ by R)
    inside_below (in_int {p = p} {q = q}) a σ by k τ κ f = int_below (scene P B O) τ κ σ σ by by p q f
    inside_below (in_bool {p = p} {q = q}) a σ by k τ κ f = bool_below (scene P B O) τ κ σ σ by by p q f
    inside_below in_unit a σ by k τ κ f = λ n W v h. h
    inside_below (in_variable {i = b}) a σ by k τ κ f = λ n W v h. h
    inside_below (in_function {Γ = Γ} {x = x} {y = y} {a = A} {b = T} {c = U} {d = V} l r) a σ by k τ κ f =
        let S = scene P B O in
        let z = shared x y in
        function_below S τ κ σ σ by by x y A T U V (sub_below l a.0 σ by k) (λ m Y u fits n W v h.
        let is = type_has S (CallsBelow S m) (SameBelow S m) Y σ σ by U u fits in
        let known = known_some law S scoped Γ σ z U u a.2 k is (top_true S (CallsBelow S m) (SameBelow S m) Y σ σ by U u fits) in
        a.4 σ by u is k.no_value n W v (sub_below r a.1 (with_argument z u σ) by known n W v (a.3 σ by u is k.no_value n W v h)))
    inside_below (in_tuple {ls = Ls} {rs = Rs} c) a σ by k τ κ f =
        tuple_below (scene P B O) τ κ σ σ by by Ls Rs (λ n W vs h. components_below c a σ by k σ k n W vs h)
    inside_below (in_array {e = E} {f = F} {p = p} {q = q} l r) a σ by k τ κ f =
        array_below (scene P B O) τ κ σ σ by by E F p q f (sub_below l a.0 σ by k) (sub_below r a.1 σ by k)
    inside_below (in_data {Γ = Γ} {d = d} {ls = As} {rs = Bs} {m = M} {n = N} {p = p} {q = q} args cells) a σ by k τ κ f =
        data_by fit (scene P B O) cov τ κ σ σ by by d As Bs M N p q (cells_entail law (scene P B O) scoped Γ σ by d As M N k a.1 cells) (all_below args a.0 σ by k) f
    inside_below (in_map {e = E} {f = F} {p = p} {q = q} l) a σ by k τ κ f = map_below (scene P B O) τ κ σ σ by by E F p q

    all_below : {Γ : Context} {Ls Rs : Refineds} (args : AreSubtypes P B Γ Ls Rs) → AllApart (scene P B O) args → (σ : Givens) (by : Shuts) → IsKnown (scene P B O) Γ σ → AllBelow (scene P B O) (shut_all σ by Ls) (shut_all σ by Rs)
    all_below sub_none a σ by k = tt
    all_below (sub_more d ds) a σ by k = (sub_below d a.0 σ by k, all_below ds a.1 σ by k)

    components_below : {Γ Δ : Context} {j : ℕ} {Ls Rs : Refineds} (c : AreComponents P B Γ Δ j Ls Rs) → ApartComponents (scene P B O) c → (σ : Givens) (by : Shuts) → IsKnown (scene P B O) Γ σ → (τ : Givens) → IsKnown (scene P B O) Δ τ → (n : ℕ) (W : Table) (vs : Values) → AllFit (scene P B O) n W (components σ by τ j Ls vs) vs → AllFit (scene P B O) n W (components σ by τ j Rs vs) vs
    components_below component_none a σ by k τ l n W vs h = h
    components_below (component_more {Δ = Δ} {k = j} {l = L} {r = R} {ls = Ls} {rs = Rs} t i r) a σ by k τ l n W no_values h = absurd h
    components_below (component_more {Δ = Δ} {k = j} {l = L} {r = R} {ls = Ls} {rs = Rs} t i r) a σ by k τ l n W (more_values v vs) h =
        let S = scene P B O in
        let known = known_bind law S scoped Δ τ (symbol.Position (suc j)) L v a.1 l (type_has S (CallsBelow S n) (SameBelow S n) W τ σ by L v h.0) (top_true S (CallsBelow S n) (SameBelow S n) W τ σ by L v h.0) in
        (inside_below i a.0 σ by k τ τ (λ u is q. tops_give law S Δ τ (top L) (top R) t l u q) n W v h.0, components_below r a.2 σ by k (position j v τ) known n W vs h.1)
