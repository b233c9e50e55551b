use Rattle.std.proofs.Common.{◌≡◌, ◌∙◌, ℕ, ◌<◌, List, [], ◌∷◌, length, map, slice_index_or, sym, ap, subst, arith}
use Rattle.std.proofs.lemmas.List.{get_or-map, length-map}
use Rattle.lq_refined_instances.specs.Counting.{count_of}
use Rattle.lq_refined_instances.specs.Instances.{told}
use Rattle.lq_refined_instances.specs.Scopes.{scope_in, Scope}
use Rattle.lq_refined_instances.specs.Views.{unknowns_view}
use Rattle.lq_refined_instances.specs.declared.unknowns.Unknowns.{Unknowns}
use Rattle.lq_text_qualifiers.specs.Sorting.Sorted.{Qualifier}
use Rattle.lq_text_qualifiers.specs.Sorting.Views.{qualifier_view, shape_view}
use Rattle.lq_text_qualifiers.specs.Faults.Shapes.{Shape}
use Rattle.lq_refined_copies.specs.Completed.{all_completed}
use Rattle.lq_refined_copies.specs.Patterns.{AreInner, IsInner}
use Rattle.lq_refined_copies.specs.Runs.{run_view, IsInside}
use Rattle.lq_refined_copies.specs.Views.{table_of}
use Rattle.lq_refined_copies.specs.declared.patterns.Inner.{Inner}
use Rattle.lq_refined_copies.specs.declared.unknowns.Run.{Run}
use Rattle.lq_refined_copies.specs.declared.unknowns.Run.TheVariants.{Copies}
use Rattle.lq_refined_copies.proofs.counting.run_count.Goals as goal

some_of : {X : Type 0} (xs : List X) (n : ℕ) → n < length xs → X
some_of [] n h = absurd (omega arith)
some_of (x ∷ xs) n h = x

-- the pattern, and what was counted of it
counted : (Γs : List Scope) (q : Qualifier) (ps : List Unknowns) (cs : List Inner) (n s : ℕ) (c : Inner) → IsInside Γs (map unknowns_view ps) (Copies n s) → AreInner q ps cs
    → c ≡ slice_index_or cs n c → (p : Unknowns) × IsInner q p c × (slice_index_or (map unknowns_view ps) n [] ≡ unknowns_view p)
counted Γs q ps cs n s c inside inner is =
    let l = length-map ps unknowns_view in
    let k = inside.1 in
    let m = inner.count in
    let low : n < length ps = omega (arith, l, k) in
    let less : n < length cs = omega (arith, low, m) in
    let d = some_of ps n low in
    (slice_index_or ps n d, subst (IsInner q (slice_index_or ps n d)) (sym is) (inner.each n d c less), get_or-map unknowns_view ps n d [] low)

pub pattern_count-requires-clause-inner : goal.pattern_count-requires-clause-inner
pattern_count-requires-clause-inner c = λ asked.
    let Γs = table_of c.args.shared.now in
    let ps = c.args.shared.now.patterns.items in
    let inside : IsInside Γs (map unknowns_view ps) (Copies c.in-Copies.pattern c.in-Copies.scope) = subst (IsInside Γs (map unknowns_view ps)) c.in-Copies.is c.requires.inside in
    let found = counted Γs (qualifier_view c.args.qualifier.now) ps c.args.inner.now c.in-Copies.pattern c.in-Copies.scope c.index-inner-at.result inside c.requires.inner c.index-inner-at.is in
    (found.1.columns asked).count ∙ length-map c.args.qualifier.now.placeholders.items shape_view

pub returns-in-Copies : goal.returns-in-Copies
returns-in-Copies c =
    let q = qualifier_view c.args.qualifier.now in
    let Γs = table_of c.args.shared.now in
    let ps = c.args.shared.now.patterns.items in
    let Γ = scope_in Γs c.in-Copies.scope in
    let inside : IsInside Γs (map unknowns_view ps) (Copies c.in-Copies.pattern c.in-Copies.scope) = subst (IsInside Γs (map unknowns_view ps)) c.in-Copies.is c.requires.inside in
    let found = counted Γs q ps c.args.inner.now c.in-Copies.pattern c.in-Copies.scope c.index-inner-at.result inside c.requires.inner c.index-inner-at.is in
    c.pattern_count.ensures Γs found.0 found.1 c.requires.columns
    ∙ ap (λ (us : List (Scope × Shape)). told (count_of q (all_completed Γ us))) (sym found.2)
    ∙ ap (λ (r : Run). told (count_of q (run_view Γs (map unknowns_view ps) r))) (sym c.in-Copies.is)
