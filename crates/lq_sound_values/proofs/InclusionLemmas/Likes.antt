-- Two types of one form, each read at values of its own.
use Rattle.std.proofs.Common.{ℕ}
use Rattle.lq_meaning_steps.specs.Model.Core.{Values, no_values, more_values}
use Rattle.lq_refined_types.specs.Types.Refined.{Refined, Refineds}
use Rattle.lq_sound_values.specs.Inhabitants.Truth.{Givens, Scene}
use Rattle.lq_sound_values.specs.Inhabitants.Shut.{shut, read_at, Shuts, shut_all, with_argument, components}
use Rattle.lq_sound_values.specs.Inhabitants.Inhabits.{Table, CallsBelow, SameBelow}
use Rattle.lq_sound_values.specs.Inhabitants.Below.{Below, AllBelow}
use Rattle.lq_sound_values.specs.Inhabitants.Datatypes.{AreCovariant, DatatypesFit}
use Rattle.lq_sound_values.proofs.InhabitantsLemmas.Topped.{type_has}
use Rattle.lq_sound_values.proofs.InhabitantsLemmas.Keeping.{AllFit}
use Rattle.lq_sound_values.specs.Inclusion.Like.{TopGives, Like, like_int, like_bool, like_unit, like_function, like_tuple, like_array, like_data, like_map, like_below, LikeAll, like_none, like_more, LikeComponents, like_no_component, like_component}
use Rattle.lq_sound_values.proofs.InclusionLemmas.Forms.{int_below, bool_below, function_below, array_below, map_below, tuple_below}
use Rattle.lq_sound_values.proofs.InclusionLemmas.Subtypes.{data_by}

module _ (fit : DatatypesFit) (S : Scene) (cov : AreCovariant S.setting.constructors) where
  mutual
    pub inside_like : {σ τ : Givens} {by to : Shuts} {T U : Refined} → Like S σ τ by to T U → (κ μ : Givens) → TopGives S κ μ T U → Below S (read_at κ σ by T) (read_at μ τ to U)
    inside_like (like_int {σ = σ} {τ = τ} {by = by} {to = to} {p = p} {q = q}) κ μ t = int_below S κ μ σ τ by to p q t
    inside_like (like_bool {σ = σ} {τ = τ} {by = by} {to = to} {p = p} {q = q}) κ μ t = bool_below S κ μ σ τ by to p q t
    inside_like like_unit κ μ t = λ n W v h. h
    inside_like (like_function {σ = σ} {τ = τ} {by = by} {to = to} {x = x} {y = y} {A = A} {T = T} {U = U} {V = V} l lt r rt) κ μ t =
        function_below S κ μ σ τ by to x y A T U V (inside_like l τ σ lt) (λ m Y a h.
        let is = type_has S (CallsBelow S m) (SameBelow S m) Y τ τ to U a h in
        inside_like (r a is) (with_argument x a σ) (with_argument y a τ) (rt a is))
    inside_like (like_tuple {σ = σ} {τ = τ} {by = by} {to = to} {Ts = Ts} {Us = Us} c) κ μ t =
        tuple_below S κ μ σ τ by to Ts Us (λ n W vs h. components_like c n W vs h)
    inside_like (like_array {σ = σ} {τ = τ} {by = by} {to = to} {E = E} {F = F} {p = p} {q = q} l lt r rt) κ μ t =
        array_below S κ μ σ τ by to E F p q t (inside_like l σ τ lt) (inside_like r τ σ rt)
    inside_like (like_data {σ = σ} {τ = τ} {by = by} {to = to} {d = d} {As = As} {Bs = Bs} {M = M} {p = p} {q = q} args) κ μ t =
        data_by fit S cov κ μ σ τ by to d As Bs M M p q (λ c k vs is tops j i u arg x. x) (all_like args) t
    inside_like (like_map {σ = σ} {τ = τ} {by = by} {to = to} {E = E} {F = F} {p = p} {q = q}) κ μ t = map_below S κ μ σ τ by to E F p q
    inside_like (like_below f) κ μ t = f κ μ t

    all_like : {σ τ : Givens} {by to : Shuts} {Ts Us : Refineds} → LikeAll S σ τ by to Ts Us → AllBelow S (shut_all σ by Ts) (shut_all τ to Us)
    all_like like_none = tt
    all_like (like_more {σ = σ} {τ = τ} l lt rest) = (inside_like l σ τ lt, all_like rest)

    components_like : {σ τ κ μ : Givens} {by to : Shuts} {k : ℕ} {Ts Us : Refineds} → LikeComponents S σ τ by to κ μ k Ts Us → (n : ℕ) (W : Table) (vs : Values) → AllFit S n W (components σ by κ k Ts vs) vs → AllFit S n W (components τ to μ k Us vs) vs
    components_like like_no_component n W no_values h = h
    components_like like_no_component n W (more_values v vs) h = h
    components_like (like_component l lt rest) n W no_values h = absurd h
    components_like (like_component {σ = σ} {κ = κ} {μ = μ} {by = by} {T = T} l lt rest) n W (more_values v vs) h =
        (inside_like l κ μ lt n W v h.0, components_like (rest v (type_has S (CallsBelow S n) (SameBelow S n) W κ σ by T v h.0)) n W vs h.1)

  pub like_fit : (σ τ : Givens) (by to : Shuts) (T U : Refined) → Like S σ τ by to T U → TopGives S σ τ T U → Below S (shut σ by T) (shut τ to U)
  like_fit σ τ by to T U l t = inside_like l σ τ t
