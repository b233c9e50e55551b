-- Templates have the types for which they were made.
use Rattle.std.proofs.Common.{◌≡◌, ℕ, suc, ◌+◌, List, [], length, Option, refl}
use Rattle.lq_refined_instances.specs.Scopes.{Scope}
use Rattle.lq_refined_types.specs.Parts.Part.{Parts}
use Rattle.lq_logic_predicates.specs.declared.symbol.Symbol.TheVariants.{Position}
use Rattle.lq_refined_types.specs.Types.Refined.{Refined, int_with, bool_with, unit_type, function, tuple_of, array_with, data_with, map_with, type_variable, with_top, erased, all_erased}
use Rattle.lq_text_qualifiers.specs.Faults.Shapes.{Shape, int, bool, array, data_of, other, shape_of}
use Rattle.lq_refined_templates.specs.Templates.Cells.{one_unknown}
use Rattle.lq_refined_templates.specs.Templates.Fresh.{Made, arguments, components, first_name, fresh, inside, later_names, topped}
use Rattle.lq_refined_templates.specs.Templates.Scopes.{with_argument, with_position, with_symbol}
use Rattle.lq_text_tree.specs.MlType as ml
use Rattle.lq_text_tree.specs.MlType.{MlType, MlTypes}
use Rattle.lq_text_tree.specs.Types.{Signature}

with_top_erased : (q : Parts) (t : Refined) → erased (with_top q t) ≡ erased t
with_top_erased q (int_with p) = refl
with_top_erased q (bool_with p) = refl
with_top_erased q unit_type = refl
with_top_erased q (function x a b) = refl
with_top_erased q (tuple_of ts) = refl
with_top_erased q (array_with e p) = refl
with_top_erased q (data_with d ts m p) = refl
with_top_erased q (map_with e p) = refl
with_top_erased q (type_variable i) = refl

topped_erased : (n : ℕ) (Δ : Scope) (s : Shape) (m : Made) → erased (topped n Δ s m).type ≡ erased m.type
topped_erased n Δ int m = with_top_erased (one_unknown (n + length m.unknowns)) m.type
topped_erased n Δ bool m = with_top_erased (one_unknown (n + length m.unknowns)) m.type
topped_erased n Δ array m = with_top_erased (one_unknown (n + length m.unknowns)) m.type
topped_erased n Δ (data_of d) m = with_top_erased (one_unknown (n + length m.unknowns)) m.type
topped_erased n Δ other m = refl

-- with an unknown at its top, which may speak of another scope
top_erased : (n : ℕ) (Δ : Scope) (t : MlType) (m : Made) → erased m.type ≡ t → erased (topped n Δ (shape_of t) m).type ≡ t
top_erased n Δ t m e = let f : erased (topped n Δ (shape_of t) m).type ≡ erased m.type = topped_erased n Δ (shape_of t) m in cc

module _ (g : Signature) (constructors : ℕ → List ℕ) where
  mutual
    inside_erased : (n : ℕ) (Γ : Scope) (xs : List (Option ℕ)) (t : MlType) → erased (inside g constructors n Γ xs t).type ≡ t
    inside_erased n Γ xs ml.int = refl
    inside_erased n Γ xs ml.bool = refl
    inside_erased n Γ xs ml.unit = refl
    inside_erased n Γ xs (ml.var i) = refl
    inside_erased n Γ xs (ml.arrow a b) =
        let s : Made = topped n Γ (shape_of a) (inside g constructors n Γ [] a) in
        let Δ : Scope = with_argument (first_name xs) (shape_of a) Γ in
        let k : ℕ = n + length s.unknowns in
        let e : erased s.type ≡ a = top_erased n Γ a (inside g constructors n Γ [] a) (inside_erased n Γ [] a) in
        let f : erased (topped k Δ (shape_of b) (inside g constructors k Δ (later_names xs) b)).type ≡ b = top_erased k Δ b (inside g constructors k Δ (later_names xs) b) (inside_erased k Δ (later_names xs) b) in
        cc
    inside_erased n Γ xs (ml.tuple ts) = let e : all_erased (components g constructors n Γ Γ 0 ts).types ≡ ts = components_erased n Γ Γ 0 ts in cc
    inside_erased n Γ xs (ml.array a) = let e : erased (topped n Γ (shape_of a) (inside g constructors n Γ [] a)).type ≡ a = top_erased n Γ a (inside g constructors n Γ [] a) (inside_erased n Γ [] a) in cc
    inside_erased n Γ xs (ml.named d ts) = let e : all_erased (arguments g constructors n Γ ts).types ≡ ts = arguments_erased n Γ ts in cc
    inside_erased n Γ xs (ml.map_of a) =
        let e : erased (topped n (with_symbol (Position 0) int Γ) (shape_of a) (inside g constructors n Γ [] a)).type ≡ a = top_erased n (with_symbol (Position 0) int Γ) a (inside g constructors n Γ [] a) (inside_erased n Γ [] a) in cc

    components_erased : (n : ℕ) (Γ Δ : Scope) (k : ℕ) (ts : MlTypes) → all_erased (components g constructors n Γ Δ k ts).types ≡ ts
    components_erased n Γ Δ k ml.no_types = refl
    components_erased n Γ Δ k (ml.more_types t ts) =
        let m : Made = topped n Δ (shape_of t) (inside g constructors n Γ [] t) in
        let e : erased m.type ≡ t = top_erased n Δ t (inside g constructors n Γ [] t) (inside_erased n Γ [] t) in
        let f : all_erased (components g constructors (n + length m.unknowns) Γ (with_position k (shape_of t) Δ) (suc k) ts).types ≡ ts =
        components_erased (n + length m.unknowns) Γ (with_position k (shape_of t) Δ) (suc k) ts in
        cc

    arguments_erased : (n : ℕ) (Γ : Scope) (ts : MlTypes) → all_erased (arguments g constructors n Γ ts).types ≡ ts
    arguments_erased n Γ ml.no_types = refl
    arguments_erased n Γ (ml.more_types t ts) =
        let m : Made = topped n Γ (shape_of t) (inside g constructors n Γ [] t) in
        let e : erased m.type ≡ t = top_erased n Γ t (inside g constructors n Γ [] t) (inside_erased n Γ [] t) in
        let f : all_erased (arguments g constructors (n + length m.unknowns) Γ ts).types ≡ ts = arguments_erased (n + length m.unknowns) Γ ts in
        cc

  pub fresh_erased : (n : ℕ) (Γ : Scope) (xs : List (Option ℕ)) (t : MlType) → erased (fresh g constructors n Γ xs t).type ≡ t
  fresh_erased n Γ xs t = top_erased n Γ t (inside g constructors n Γ xs t) (inside_erased n Γ xs t)
