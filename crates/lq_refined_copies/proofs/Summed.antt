-- Products over placeholders, and sums over unknowns.
use Rattle.std.proofs.Common.{◌≡◌, ◌∙◌, ℕ, zero, suc, get_or, ◌+◌, ◌*◌, ◌-◌, ◌^◌, ◌<◌, ◌≤◌, min, List, [], ◌∷◌, ◌++◌, All, Bool, true, false, if◌then◌else◌, filter, length, map, slice_index_or, replicate, take, Option, refl, sym, ap, ap₂, arith}
use Rattle.std.proofs.lemmas.List.{flat_map_more, length-append, map-append, take_more}
use Rattle.std.proofs.lemmas.List.Elements.{filter-append, All-head, All-tail}
use Rattle.lq_refined_instances.specs.Counting.{count_of, replaced_count, symbol_count}
use Rattle.lq_refined_instances.specs.Instances.{replacements, told}
use Rattle.lq_refined_instances.specs.Scopes.{symbols_of, Scope, Visible}
use Rattle.lq_refined_instances.specs.Views.{unknown_view}
use Rattle.lq_refined_instances.specs.declared.unknowns.Unknown.{Unknown}
use Rattle.lq_refined_instances.proofs.Counts.{replaced_count-more}
use Rattle.lq_refined_instances.proofs.Told.{told-plus, told-times}
use Rattle.lq_logic_predicates.specs.declared.symbol.Symbol.TheVariants.{Value, Bound, Position}
use Rattle.lq_text_qualifiers.specs.Sorting.Sorted.{Qualifier}
use Rattle.lq_text_qualifiers.specs.Sorting.Views.{shape_view}
use Rattle.lq_text_qualifiers.specs.Faults.Shapes.{int, is_same, Shape}
use Rattle.lq_refined_copies.specs.Completed.{all_completed, completed, unknown_completed}
use Rattle.lq_refined_copies.specs.Groups.{group_view, groups_view}
use Rattle.lq_refined_copies.specs.declared.groups.Group.{Group}
use Rattle.lq_refined_copies.specs.Counting.{completed_count, mark_of, IsSmall}

-- one placeholder more
pub product_step : (ss : List Shape) (k : ℕ) (Θ : Scope) (count c new : ℕ) → k < length ss → count ≡ replaced_count (take k ss) Θ
    → c ≡ symbol_count (slice_index_or ss k int) Θ → new ≡ min (count * c) (2 ^ 64 - 1) → new ≡ replaced_count (take (k + 1) ss) Θ
product_step ss k Θ count c new less inv value is =
    is ∙ ap₂ (λ (a b : ℕ). min (a * b) (2 ^ 64 - 1)) inv value ∙ replaced_count-more Θ (take k ss) (slice_index_or ss k int)
    ∙ ap (λ (l : List Shape). replaced_count l Θ) (sym (take_more ss k int less))

-- ---- symbols of completed scopes

symbols_cons : (v : Visible) (Δ : Scope) (s : Shape) → length (symbols_of (v ∷ Δ) s) ≡ (if is_same s v.1 then 1 else 0) + length (symbols_of Δ s)
symbols_cons v Δ s = by (is_same s v.1)
  where
    by : (b : Bool) → length (map (λ (e : Visible). e.0) (if b then v ∷ filter (λ e. is_same s e.1) Δ else filter (λ e. is_same s e.1) Δ))
        ≡ (if b then 1 else 0) + length (symbols_of Δ s)
    by true = omega arith
    by false = omega arith

symbols_both : (Γ Δ : Scope) (s : Shape) → length (symbols_of (Γ ++ Δ) s) ≡ length (symbols_of Γ s) + length (symbols_of Δ s)
symbols_both Γ Δ s =
    ap (λ (l : Scope). length (map (λ (e : Visible). e.0) l)) (filter-append (λ e. is_same s e.1) Γ Δ)
    ∙ ap length (map-append (λ (e : Visible). e.0) (filter (λ e. is_same s e.1) Γ) (filter (λ e. is_same s e.1) Δ))
    ∙ length-append (symbols_of Γ s) (symbols_of Δ s)

pub completed_symbols : (Γ Δ : Scope) (s : Shape) → length (symbols_of Δ s) ≤ 2 ^ 64 - 1
    → symbol_count s (completed Γ Δ) ≡ completed_count s (symbol_count s Γ) (symbol_count s Δ) (mark_of Δ)
completed_symbols Γ [] s h = refl
completed_symbols Γ ((Value, t) ∷ Δ) s h =
    let a = symbols_cons (Value, t) Δ s in
    let b = symbols_both Γ Δ s in omega arith
completed_symbols Γ ((Bound x, t) ∷ Δ) s h = refl
completed_symbols Γ ((Position k, t) ∷ Δ) s h = refl

pub completed_value : (s : Shape) (Γ Δ : Scope) (outside inside r : ℕ) (m : Option Shape) → outside ≡ symbol_count s Γ → inside ≡ symbol_count s Δ → m ≡ mark_of Δ → IsSmall Δ
    → r ≡ completed_count s outside inside m → r ≡ symbol_count s (completed Γ Δ)
completed_value s Γ Δ outside inside r m out within mark small is =
    is ∙ ap₂ (λ (a b : ℕ). completed_count s a b m) out within ∙ ap (completed_count s (symbol_count s Γ) (symbol_count s Δ)) mark ∙ sym (completed_symbols Γ Δ s (small s))

-- ---- sums over unknowns

pub count_append : (q : Qualifier) (us vs : List (Scope × Shape)) → count_of q (us ++ vs) ≡ count_of q us + count_of q vs
count_append q [] vs = omega arith
count_append q (u ∷ us) vs = let h = count_append q us vs in omega arith

pub count_step : (q : Qualifier) (us vs : List (Scope × Shape)) (total n new : ℕ) → total ≡ told (count_of q us) → n ≡ told (count_of q vs) → new ≡ min (total + n) (2 ^ 64 - 1)
    → new ≡ told (count_of q (us ++ vs))
count_step q us vs total n new inv one is =
    is ∙ ap₂ (λ (a b : ℕ). min (a + b) (2 ^ 64 - 1)) inv one ∙ told-plus (count_of q us) (count_of q vs) ∙ ap told (sym (count_append q us vs))

-- no unknown of the shape, nothing to count
pub none_counted : (q : Qualifier) (Γ : Scope) (table : List Scope) (us : List Unknown) → All (λ u. is_same (shape_view u.shape) q.shape ≡ false) us
    → count_of q (all_completed Γ (map (unknown_view table) us)) ≡ 0
none_counted q Γ table [] h = refl
none_counted q Γ table (u ∷ us) h =
    let here = All-head (λ (u : Unknown). is_same (shape_view u.shape) q.shape ≡ false) u us h in
    let rest = none_counted q Γ table us (All-tail (λ (u : Unknown). is_same (shape_view u.shape) q.shape ≡ false) u us h) in
    let step : count_of q (all_completed Γ (map (unknown_view table) (u ∷ us))) ≡ 0 + count_of q (all_completed Γ (map (unknown_view table) us)) =
    ap (λ (b : Bool). (if b then length (replacements (completed Γ (unknown_view table u).0) q.placeholders) else 0) + count_of q (all_completed Γ (map (unknown_view table) us))) here
    in omega (arith, step, rest)

-- ---- unknowns that are alike

repeated : (q : Qualifier) (Γ : Scope) (u : Scope × Shape) (n : ℕ) → count_of q (all_completed Γ (replicate n u)) ≡ count_of q (all_completed Γ (u ∷ [])) * n
repeated q Γ u zero = omega arith
repeated q Γ u (suc n) =
    let h = repeated q Γ u n in
    let x = count_of q (all_completed Γ (u ∷ [])) in
    let e : x * suc n ≡ x + x * n = omega arith in omega (arith, e, h)

times_told : (a t : ℕ) → told (told a * t) ≡ told (a * t)
times_told a t =
    let same : told (told a) ≡ told a = omega arith in
    sym (told-times (told a) t) ∙ ap (λ (n : ℕ). told (n * told t)) same ∙ told-times a t

pub group_told : (q : Qualifier) (Γ : Scope) (u : Scope × Shape) (t n m : ℕ) → n ≡ told (count_of q (all_completed Γ (u ∷ []))) → m ≡ min (n * t) (2 ^ 64 - 1)
    → m ≡ told (count_of q (all_completed Γ (replicate t u)))
group_told q Γ u t n m one is =
    is ∙ ap (λ (k : ℕ). told (k * t)) one ∙ times_told (count_of q (all_completed Γ (u ∷ []))) t ∙ ap told (sym (repeated q Γ u t))

pub groups_more : (Γ : Scope) (Γs : List Scope) (gs : List Group) (i : ℕ) (d : Group) → i < length gs
    → all_completed Γ (groups_view Γs (take (i + 1) gs)) ≡ all_completed Γ (groups_view Γs (take i gs)) ++ all_completed Γ (group_view Γs (get_or gs i d))
groups_more Γ Γs gs i d h =
    ap (all_completed Γ) (ap (groups_view Γs) (take_more gs i d h) ∙ sym (flat_map_more (group_view Γs) [] (take i gs) (get_or gs i d)))
    ∙ map-append (unknown_completed Γ) (groups_view Γs (take i gs)) (group_view Γs (get_or gs i d))
