-- Greatest selections choose the same instances, and first predicates that can't be gathered are one.
use mathlib.Core.Path.{fun_ext}
use Rattle.std.proofs.Common.{◌≡◌, ℕ, suc, ◌<◌, ◌≤◌, ◌+◌, Bool, true, false, cond, List, [], ◌∷◌, ◌++◌, length, refl, sym, ap, subst, ◌∙◌, arith}
use Rattle.std.specs.Prelude.{All}
use Rattle.std.proofs.lemmas.List.Elements.{All-head, All-tail}
use Rattle.lq_prover_proof_tree.specs.Literals.Gathered.{AllGathered, IsFirstPast}
use Rattle.lq_prover_proof_tree.specs.Literals.Sources.{Source}
use Rattle.lq_refined_types.specs.Parts.Flowing.{IsWithin, Selection, assigned, picked}
use Rattle.lq_logic_predicates.specs.Comparison.{CanGather}
use Rattle.lq_logic_predicates.specs.Formula.{Formula}

-- ---- selections

both_ways : (a b : Bool) → (a ≡ true → b ≡ true) → (b ≡ true → a ≡ true) → a ≡ b
both_ways true b f g = sym (f refl)
both_ways false true f g = g refl
both_ways false false f g = refl

picked_same : (f g : ℕ → Bool) (k : ℕ) (ps : List Formula) → ((i : ℕ) → k ≤ i → i < k + length ps → f i ≡ g i) → picked f k ps ≡ picked g k ps
picked_same f g k [] same = refl
picked_same f g k (p ∷ ps) same =
    let rest = picked_same f g (suc k) ps (λ i low high. same i (omega (arith, low)) (omega (arith, high))) in
    ap (λ b. cond b (p ∷ picked f (suc k) ps) (picked f (suc k) ps)) (same k (omega arith) (omega arith))
    ∙ ap (λ qs. cond (g k) (p ∷ qs) qs) rest

-- each within the other
pub same_assigned : (I : ℕ → List Formula) (c d : Selection) → IsWithin I c d → IsWithin I d c → assigned I c ≡ assigned I d
same_assigned I c d there back =
    fun_ext (λ u. picked_same (c u) (d u) 0 (I u) (λ i low high. both_ways (c u i) (d u i) (there u i (omega (arith, high))) (back u i (omega (arith, high)))))

-- ---- first predicates

abbrev Gathered : Source → Type 0
Gathered s = All CanGather s.literals

first_source : (es fs : List Source) (s t : Source) (ls ms : List Source) → es ++ (s ∷ ls) ≡ fs ++ (t ∷ ms) → AllGathered es → AllGathered fs
    → (All CanGather s.literals → ⊥) → (All CanGather t.literals → ⊥) → s ≡ t
first_source [] [] s t ls ms e gs hs p q = cc
first_source [] (f ∷ fs) s t ls ms e gs hs p q =
    let same : s ≡ f = cc in
    absurd (p (subst (λ (x : Source). All CanGather x.literals) (sym same) (All-head Gathered f fs hs)))
first_source (x ∷ es) [] s t ls ms e gs hs p q =
    let same : x ≡ t = cc in
    absurd (q (subst (λ (y : Source). All CanGather y.literals) same (All-head Gathered x es gs)))
first_source (x ∷ es) (f ∷ fs) s t ls ms e gs hs p q =
    let rest : es ++ (s ∷ ls) ≡ fs ++ (t ∷ ms) = cc in
    first_source es fs s t ls ms rest (All-tail Gathered x es gs) (All-tail Gathered f fs hs) p q

pub first_past_once : (ss : List Source) (p q : Formula) → IsFirstPast ss p → IsFirstPast ss q → p ≡ q
first_past_once ss p q a b =
    let s : Source = record { formula = p; literals = a.literals } in
    let t : Source = record { formula = q; literals = b.literals } in
    let same : s ≡ t = first_source a.earlier b.earlier s t a.later b.later (sym a.at ∙ b.at) a.gathered b.gathered a.past b.past in
    ap (λ (x : Source). x.formula) same
