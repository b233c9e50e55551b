-- A type without type variables is like itself, whatever is put for variables.
use Rattle.std.proofs.Common.{ℕ, suc}
use Rattle.lq_meaning_steps.specs.Model.Core.{Value}
use Rattle.lq_refined_types.specs.Types.Refined.{Refined, Refineds, int_with, bool_with, unit_type, function, tuple_of, array_with, data_with, map_with, type_variable, none, more}
use Rattle.lq_sound_values.specs.Inhabitants.Truth.{Givens, Scene}
use Rattle.lq_sound_values.specs.Inhabitants.Shut.{Shuts, with_argument, position}
use Rattle.lq_sound_values.specs.Inclusion.Like.{TopGives, Like, like_int, like_bool, like_unit, like_function, like_tuple, like_array, like_data, like_map, LikeAll, like_none, like_more, LikeComponents, like_no_component, like_component}
use Rattle.lq_sound_values.specs.Instantiation.Instances.{HasNoVariables, HaveNoVariables}

pub own_top : (S : Scene) (σ : Givens) (t : Refined) → TopGives S σ σ t t
own_top S σ t v is h = h

module _ (S : Scene) where
  mutual
    pub closed_like : (t : Refined) → HasNoVariables t → (σ : Givens) (by to : Shuts) → Like S σ σ by to t t
    closed_like (int_with p) c σ by to = like_int
    closed_like (bool_with p) c σ by to = like_bool
    closed_like unit_type c σ by to = like_unit
    closed_like (function x a b) c σ by to =
        let results : (v : Value) → Like S (with_argument x v σ) (with_argument x v σ) by to b b = λ v. closed_like b c.1 (with_argument x v σ) by to in
        like_function (closed_like a c.0 σ to by) (own_top S σ a) (λ v is. results v) (λ v is. own_top S (with_argument x v σ) b)
    closed_like (tuple_of ts) c σ by to = like_tuple (closed_components ts c σ by to σ 0)
    closed_like (array_with e p) c σ by to =
        like_array (closed_like e c σ by to) (own_top S σ e) (closed_like e c σ to by) (own_top S σ e)
    closed_like (data_with d ts m p) c σ by to = like_data (closed_all ts c σ by to)
    closed_like (map_with e p) c σ by to = like_map
    closed_like (type_variable i) c σ by to = absurd c

    closed_all : (ts : Refineds) → HaveNoVariables ts → (σ : Givens) (by to : Shuts) → LikeAll S σ σ by to ts ts
    closed_all none c σ by to = like_none
    closed_all (more t ts) c σ by to = like_more (closed_like t c.0 σ by to) (own_top S σ t) (closed_all ts c.1 σ by to)

    closed_components : (ts : Refineds) → HaveNoVariables ts → (σ : Givens) (by to : Shuts) (κ : Givens) (k : ℕ)
        → LikeComponents S σ σ by to κ κ k ts ts
    closed_components none c σ by to κ k = like_no_component
    closed_components (more t ts) c σ by to κ k =
        like_component (closed_like t c.0 σ by to) (own_top S κ t) (λ v is. closed_components ts c.1 σ by to (position k v κ) (suc k))
