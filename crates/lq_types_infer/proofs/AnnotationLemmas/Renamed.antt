-- Types of slots where a table's variables have other names.
use mathlib.Core.Path.{fun_ext}
use Rattle.std.specs.Prelude.{All, slice_index_or}
use Rattle.std.proofs.Common.{◌≡◌, ℕ, zero, suc, List, [], ◌∷◌, map, None, refl, sym, subst}
use Rattle.lq_text_tree.specs.MlType as ml
use Rattle.lq_text_tree.specs.MlType.{MlType}
use Rattle.lq_text_tree.specs.Types.{put}
use Rattle.lq_types_table.specs.Nodes.{at}
use Rattle.lq_text_walk.specs.Walk.Visits.{visits_of_items}
use Rattle.lq_text_walk.specs.Scoped.Scoping.{Scoping}
use Rattle.lq_types_rules.specs.Typings.Inference.{typed, IsInference}
use Rattle.lq_types_rules.specs.Typings.Principal.{node_count, IsPrincipalAnnotation, first_weak, first_past, placed_in}
use Rattle.lq_types_infer.specs.Annotation.Naming.{named, names_in, NumbersItem, NamedIsInference}
use Rattle.lq_types_infer.specs.Annotation.Slots.{slot_types}

at_map : (by : ℕ → MlType) (all : List MlType) (r : ℕ) → at (map (put by) all) r ≡ put by (at all r)
at_map by [] r = refl
at_map by (a ∷ as_) zero = refl
at_map by (a ∷ as_) (suc r) = at_map by as_ r

-- the answer stands in the renamed table
pub renamed_table : NamedIsInference → (s : Scoping) (all renamed : List MlType) (rows ns : List ℕ)
    → renamed ≡ map (put (λ v. ml.var (names_in ns v))) all → IsPrincipalAnnotation s (slot_types all rows)
    → first_weak (slot_types all rows) s.items ≡ None
    → first_past (slot_types all rows) (placed_in (visits_of_items s.items)) ≡ None
    → All (NumbersItem (node_count s) (slot_types all rows) (names_in ns)) s.items
    → IsInference s (typed (slot_types renamed rows))
renamed_table law s all renamed rows ns is principal weak past numbers =
    let by : ℕ → MlType = λ v. ml.var (names_in ns v) in
    let same : slot_types (map (put by) all) rows ≡ named (names_in ns) (slot_types all rows) = fun_ext
    (λ k. at_map by all (slice_index_or rows k 0)) in
    subst (λ (ts : List MlType). IsInference s (typed (slot_types ts rows))) (sym is)
    (subst (λ (t : ℕ → MlType). IsInference s (typed t)) (sym same) (law s (slot_types all rows) (names_in ns) principal weak past numbers))
