-- The implications of a subtyping are valid exactly where it holds.
use Rattle.std.proofs.Common.{ℕ, suc, List, ◌∷◌, ◌++◌}
use Rattle.lq_logic_predicates.specs.declared.symbol.Symbol.TheVariants.{Position}
use Rattle.lq_refined_types.specs.Parts.Assignment.{Assignment}
use Rattle.lq_refined_types.specs.Parts.Part.{Parts}
use Rattle.lq_text_tree.specs.MlType as ml
use Rattle.lq_text_tree.specs.MlType.{MlType, MlTypes}
use Rattle.lq_refined_types.specs.Types.Context.{name, Context}
use Rattle.lq_refined_types.specs.Types.Operations.{renamed}
use Rattle.lq_refined_types.specs.Types.Refined.{Matrix, Refined, Refineds, data_with, type_variable, kind, top, arguments_of, matrix_of, erased}
use Rattle.lq_refined_types.specs.Subtyping.Implication.{Origin, Implication, AllHold, EachImplied}
use Rattle.lq_refined_types.specs.Subtyping.Shaped.{HasShape, shape_int, shape_bool, shape_unit, shape_function, shape_tuple, shape_array, shape_data, shape_map, shape_variable, HaveShapes, shapes_none, shapes_more}
use Rattle.lq_refined_types.specs.Subtyping.Splitting.{tops, inside, components, arguments, split}
use Rattle.lq_refined_types.specs.Subtyping.Subtype.{Setting, shared, with_binder, with_key, facts, CellsImplied, IsSubtype, sub, IsInside, in_int, in_bool, in_unit, in_variable, in_function, in_tuple, in_array, in_data, in_map, AreSubtypes, sub_none, sub_more, AreComponents, component_none, component_more}
use Rattle.lq_refined_types.proofs.SubtypingLemmas.Listing.{hold_append, hold_first, hold_rest, goals_met, goals_hold, cells_met, cells_hold}
use Rattle.lq_refined_types.proofs.SubtypingLemmas.Shaping.{shape_renamed, shape_erased, argument_shapes}

module _ (P : Setting) (A : Assignment) (o : Origin) where
  both_met : (Γ Δ : Context) (s : MlType) (l r : Refined) → EachImplied A (facts P Δ ++ top l) (top r) → AllHold A (inside P o s Γ l r) → AllHold A (tops P o Δ l r ++ inside P o s Γ l r)
  both_met Γ Δ s l r h m = hold_append A (tops P o Δ l r) (inside P o s Γ l r) (goals_met A o (facts P Δ) (top l) (top r) h) m

  both_hold : (Γ Δ : Context) (s : MlType) (l r : Refined) → AllHold A (tops P o Δ l r ++ inside P o s Γ l r) → EachImplied A (facts P Δ ++ top l) (top r) × AllHold A (inside P o s Γ l r)
  both_hold Γ Δ s l r m =
      (goals_hold A o (facts P Δ) (top l) (top r) (hold_first A (tops P o Δ l r) (inside P o s Γ l r) m), hold_rest A (tops P o Δ l r) (inside P o s Γ l r) m)

  pair_met : (is js : List Implication) → AllHold A is → AllHold A js → AllHold A (is ++ js)
  pair_met is js m n = hold_append A is js m n

  -- where the subtyping holds, its implications are valid
  mutual
    subtype_met : {s : MlType} {Γ : Context} {l r : Refined} → IsSubtype P A Γ l r → HasShape s l → HasShape s r → AllHold A (tops P o Γ l r ++ inside P o s Γ l r)
    subtype_met {s = s} (sub {Γ = Γ} {l = l} {r = r} h i) a b = both_met Γ Γ s l r h (inside_met i a b)

    inside_met : {s : MlType} {Γ : Context} {l r : Refined} → IsInside P A Γ l r → HasShape s l → HasShape s r → AllHold A (inside P o s Γ l r)
    inside_met in_int shape_int b = tt
    inside_met in_bool shape_bool b = tt
    inside_met in_unit shape_unit b = tt
    inside_met in_variable shape_variable b = tt
    inside_met (in_function {x = x} {y = y} {a = a} {b = b} i j) (shape_function s u) (shape_function v w) =
        pair_met _ _ (subtype_met i v s) (subtype_met j (shape_renamed P.scopes x (shared x y) (kind a) b u) w)
    inside_met (in_tuple c) (shape_tuple ss) (shape_tuple us) = components_met c ss us
    inside_met (in_array i j) (shape_array s) (shape_array u) = pair_met _ _ (subtype_met i s u) (subtype_met j u s)
    inside_met (in_data {Γ = Γ} {d = d} {ls = ls} {m = m} {n = n} i c) (shape_data ss) u =
        pair_met _ _ (arguments_met i ss (argument_shapes u)) (cells_met A o P Γ d ls m n c)
    inside_met (in_map i) (shape_map s) (shape_map u) = subtype_met i s u

    arguments_met : {ss : MlTypes} {Γ : Context} {ls rs : Refineds} → AreSubtypes P A Γ ls rs → HaveShapes ss ls → HaveShapes ss rs → AllHold A (arguments P o ss Γ ls rs)
    arguments_met sub_none shapes_none u = tt
    arguments_met (sub_more i is) (shapes_more s ss) (shapes_more u us) = pair_met _ _ (subtype_met i s u) (arguments_met is ss us)

    components_met : {ss : MlTypes} {Γ Δ : Context} {k : ℕ} {ls rs : Refineds} → AreComponents P A Γ Δ k ls rs → HaveShapes ss ls → HaveShapes ss rs → AllHold A (components P o ss Γ Δ k ls rs)
    components_met component_none shapes_none u = tt
    components_met (component_more {Γ = Γ} {Δ = Δ} {l = l} {r = r} h i cs) (shapes_more {s = a} s ss) (shapes_more u us) =
        pair_met _ _ (both_met Γ Δ a l r h (inside_met i s u)) (components_met cs ss us)

  variable_hold : (Γ : Context) (i : ℕ) {r : Refined} → HasShape (ml.var i) r → IsInside P A Γ (type_variable i) r
  variable_hold Γ i shape_variable = in_variable

  data_hold : (Γ : Context) (d : ℕ) (ls : Refineds) (m : Matrix) (p : Parts) {ss : MlTypes} {r : Refined} → HasShape (ml.named d ss) r → AreSubtypes P A Γ ls (arguments_of r) → CellsImplied P A Γ d ls m (matrix_of r) → IsInside P A Γ (data_with d ls m p) r
  data_hold Γ d ls m p (shape_data us) i c = in_data i c

  data_arguments : {d : ℕ} {ss : MlTypes} {r : Refined} → HasShape (ml.named d ss) r → HaveShapes ss (arguments_of r)
  data_arguments (shape_data us) = us

  -- where its implications are valid, the subtyping holds
  mutual
    inside_hold : (s : MlType) (Γ : Context) (l r : Refined) → HasShape s l → HasShape s r → AllHold A (inside P o s Γ l r) → IsInside P A Γ l r
    inside_hold ml.int Γ _ _ shape_int shape_int m = in_int
    inside_hold ml.bool Γ _ _ shape_bool shape_bool m = in_bool
    inside_hold ml.unit Γ _ _ shape_unit shape_unit m = in_unit
    inside_hold (ml.var i) Γ _ r shape_variable u m = variable_hold Γ i u
    inside_hold (ml.arrow s u) Γ _ _ (shape_function {x = x} {a = a} {b = b} f g) (shape_function {x = y} {a = c} {b = d} v w) m =
        let z = shared x y in
        let e = renamed P.scopes x z (kind a) b in
        let Δ = with_binder z c Γ in
        let i = both_hold Γ Γ s c a (hold_first A _ _ m) in
        let j = both_hold Δ Δ u e d (hold_rest A (tops P o Γ c a ++ inside P o s Γ c a) _ m) in
        in_function (sub i.0 (inside_hold s Γ c a v f i.1)) (sub j.0 (inside_hold u Δ e d (shape_renamed P.scopes x z (kind a) b g) w j.1))
    inside_hold (ml.tuple ss) Γ _ _ (shape_tuple {ts = ls} fs) (shape_tuple {ts = rs} us) m = in_tuple (components_hold ss Γ Γ 0 ls rs fs us m)
    inside_hold (ml.array s) Γ _ _ (shape_array {e = e} f) (shape_array {e = g} u) m =
        let i = both_hold Γ Γ s e g (hold_first A _ _ m) in
        let j = both_hold Γ Γ s g e (hold_rest A (tops P o Γ e g ++ inside P o s Γ e g) _ m) in
        in_array (sub i.0 (inside_hold s Γ e g f u i.1)) (sub j.0 (inside_hold s Γ g e u f j.1))
    inside_hold (ml.named d ss) Γ _ r (shape_data {ts = ls} {m = n} {p = p} fs) u m =
        data_hold Γ d ls n p u (arguments_hold ss Γ ls (arguments_of r) fs (data_arguments u) (hold_first A _ _ m))
        (cells_hold A o P Γ d ls n (matrix_of r) (hold_rest A (arguments P o ss Γ ls (arguments_of r)) _ m))
    inside_hold (ml.map_of s) Γ _ _ (shape_map {e = e} f) (shape_map {e = g} u) m =
        let i = both_hold (with_key Γ) (with_key Γ) s e g m in in_map (sub i.0 (inside_hold s (with_key Γ) e g f u i.1))

    arguments_hold : (ss : MlTypes) (Γ : Context) (ls rs : Refineds) → HaveShapes ss ls → HaveShapes ss rs → AllHold A (arguments P o ss Γ ls rs) → AreSubtypes P A Γ ls rs
    arguments_hold ml.no_types Γ _ _ shapes_none shapes_none m = sub_none
    arguments_hold (ml.more_types s ss) Γ _ _ (shapes_more {t = l} {ts = ls} f fs) (shapes_more {t = r} {ts = rs} u us) m =
        let i = both_hold Γ Γ s l r (hold_first A _ _ m) in
        sub_more (sub i.0 (inside_hold s Γ l r f u i.1)) (arguments_hold ss Γ ls rs fs us (hold_rest A (tops P o Γ l r ++ inside P o s Γ l r) _ m))

    components_hold : (ss : MlTypes) (Γ Δ : Context) (k : ℕ) (ls rs : Refineds) → HaveShapes ss ls → HaveShapes ss rs → AllHold A (components P o ss Γ Δ k ls rs) → AreComponents P A Γ Δ k ls rs
    components_hold ml.no_types Γ Δ k _ _ shapes_none shapes_none m = component_none
    components_hold (ml.more_types s ss) Γ Δ k _ _ (shapes_more {t = l} {ts = ls} f fs) (shapes_more {t = r} {ts = rs} u us) m =
        let i = both_hold Γ Δ s l r (hold_first A _ _ m) in
        component_more i.0 (inside_hold s Γ l r f u i.1)
        (components_hold ss Γ (name (Position (suc k)) l ∷ Δ) (suc k) ls rs fs us (hold_rest A (tops P o Δ l r ++ inside P o s Γ l r) _ m))

  -- the list of a subtyping is valid exactly where it holds
  pub split_met : (Γ : Context) (l r : Refined) → HasShape (erased r) l → IsSubtype P A Γ l r → AllHold A (split P o Γ l r)
  split_met Γ l r a h = subtype_met h a (shape_erased r)

  pub split_hold : (Γ : Context) (l r : Refined) → HasShape (erased r) l → AllHold A (split P o Γ l r) → IsSubtype P A Γ l r
  split_hold Γ l r a m =
      let i = both_hold Γ Γ (erased r) l r m in sub i.0 (inside_hold (erased r) Γ l r a (shape_erased r) i.1)
