-- Counts of replacements over scopes and over unknowns.
use Rattle.std.proofs.Common.{◌≡◌, ℕ, zero, suc, ◌+◌, ◌-◌, ◌^◌, ◌*◌, min, List, [], ◌∷◌, ◌++◌, map, filter, length, slice_get, Bool, true, false, if◌then◌else◌, refl, sym, ap, ◌∙◌, arith}
use Rattle.std.specs.List.{flat_map, zip}
use Rattle.std.proofs.lemmas.List.{length-append, map-append}
use Rattle.std.proofs.lemmas.List.Elements.{filter-append}
use Rattle.std.proofs.lemmas.Grind.{flat_map-append}
use Rattle.lq_text_qualifiers.specs.Faults.Shapes.{Shape, is_same}
use Rattle.lq_text_qualifiers.specs.Sorting.Sorted.{Qualifier}
use Rattle.lq_refined_instances.specs.Counting.{symbol_count, replaced_count, count_of, or_first}
use Rattle.lq_refined_instances.specs.Instances.{replacements, of_shape, replacement_count, total_count, told}
use Rattle.lq_refined_instances.specs.Scopes.{Visible, Scope, symbols_of, scope_in}
use Rattle.lq_refined_instances.proofs.Told.{told-plus, told-times}
use Rattle.lq_refined_instances.proofs.Replaced.{length-more}

symbols-one : (v : Visible) (s : Shape) → length (symbols_of (v ∷ []) s) ≡ (if is_same s v.1 then 1 else 0)
symbols-one v s = by (is_same s v.1)
  where
    by : (b : Bool) → length (map (λ e. e.0) (if b then v ∷ [] else [])) ≡ (if b then 1 else 0)
    by true = refl
    by false = refl

symbols-more : (Γ : Scope) (v : Visible) (s : Shape) → length (symbols_of (Γ ++ v ∷ []) s) ≡ length (symbols_of Γ s) + (if is_same s v.1 then 1 else 0)
symbols-more Γ v s =
    ap (λ l. length (map (λ e. e.0) l)) (filter-append (λ e. is_same s e.1) Γ (v ∷ []))
    ∙ ap length (map-append (λ e. e.0) (filter (λ e. is_same s e.1) Γ) (filter (λ e. is_same s e.1) (v ∷ [])))
    ∙ length-append (symbols_of Γ s) (symbols_of (v ∷ []) s)
    ∙ ap (λ n. length (symbols_of Γ s) + n) (symbols-one v s)

-- the count with one symbol more
pub symbol_count-more : (Γ : Scope) (v : Visible) (s : Shape) → min (symbol_count s Γ + (if is_same s v.1 then 1 else 0)) (2 ^ 64 - 1) ≡ symbol_count s (Γ ++ v ∷ [])
symbol_count-more Γ v s =
    ap (λ n. min (symbol_count s Γ + n) (2 ^ 64 - 1)) (small (is_same s v.1)) ∙ told-plus (length (symbols_of Γ s)) (if is_same s v.1 then 1 else 0)
    ∙ ap told (sym (symbols-more Γ v s))
  where
    small : (b : Bool) → (if b then 1 else 0) ≡ told (if b then 1 else 0)
    small true = refl
    small false = refl

-- the count with one placeholder more
pub replaced_count-more : (Γ : Scope) (ss : List Shape) (s : Shape) → told (replaced_count ss Γ * symbol_count s Γ) ≡ replaced_count (ss ++ s ∷ []) Γ
replaced_count-more Γ ss s = told-times (length (replacements Γ ss)) (length (symbols_of Γ s)) ∙ ap told (sym (length-more Γ ss s))

-- a count of each scope, looked up by the number of one
pub in-or_first : (f : Scope → ℕ) (all : List Scope) (i : ℕ) → or_first (slice_get (map f ([] ∷ all)) i) (map f ([] ∷ all)) ≡ f (scope_in ([] ∷ all) i)
in-or_first f all zero = refl
in-or_first f all (suc i) = by all i
  where
    by : (rest : List Scope) (i : ℕ) → or_first (slice_get (map f rest) i) (f [] ∷ map f all) ≡ f (scope_in rest i)
    by [] i = refl
    by (x ∷ rest) zero = refl
    by (x ∷ rest) (suc i) = by rest i

zipped : (f g : Scope → ℕ) (all : List Scope) → map (λ p. told (p.0 * p.1)) (zip (map f all) (map g all)) ≡ map (λ Γ. told (f Γ * g Γ)) all
zipped f g [] = refl
zipped f g (x ∷ all) = ap (λ r. told (f x * g x) ∷ r) (zipped f g all)

mapped : (f g : Scope → ℕ) → ((Γ : Scope) → f Γ ≡ g Γ) → (all : List Scope) → map f all ≡ map g all
mapped f g h [] = refl
mapped f g h (x ∷ all) = ap (λ n. n ∷ map f all) (h x) ∙ ap (λ r. g x ∷ r) (mapped f g h all)

-- products of the counts of placeholders and of those of one more
pub products-more : (all : List Scope) (ss : List Shape) (s : Shape)
    → map (λ p. told (p.0 * p.1)) (zip (map (replaced_count ss) all) (map (symbol_count s) all)) ≡ map (replaced_count (ss ++ s ∷ [])) all
products-more all ss s =
    zipped (replaced_count ss) (symbol_count s) all
    ∙ mapped (λ Γ. told (replaced_count ss Γ * symbol_count s Γ)) (replaced_count (ss ++ s ∷ [])) (λ Γ. replaced_count-more Γ ss s) all

pub count_of-more : (q : Qualifier) (us : List (Scope × Shape)) (u : Scope × Shape)
    → count_of q (us ++ u ∷ []) ≡ count_of q us + (if is_same u.1 q.shape then length (replacements u.0 q.placeholders) else 0)
count_of-more q [] u = omega arith
count_of-more q (v ∷ us) u = let h = count_of-more q us u in omega arith

of_one : (q : Qualifier) (Γ : Scope) (s : Shape) → length (flat_map (λ p. replacements Γ p.placeholders) (of_shape (q ∷ []) s)) ≡ (if is_same s q.shape then length (replacements Γ q.placeholders) else 0)
of_one q Γ s = by (is_same s q.shape)
  where
    by : (b : Bool) → length (flat_map (λ p. replacements Γ p.placeholders) (if b then q ∷ [] else [])) ≡ (if b then length (replacements Γ q.placeholders) else 0)
    by true = length-append (replacements Γ q.placeholders) [] ∙ omega arith
    by false = refl

replacement_count-more : (qs : List Qualifier) (q : Qualifier) (Γ : Scope) (s : Shape)
    → replacement_count (qs ++ q ∷ []) Γ s ≡ replacement_count qs Γ s + (if is_same s q.shape then length (replacements Γ q.placeholders) else 0)
replacement_count-more qs q Γ s =
    let f : Qualifier → List _ = λ p. replacements Γ p.placeholders in
    ap (λ l. length (flat_map f l)) (filter-append (λ p. is_same s p.shape) qs (q ∷ [])) ∙ ap length (flat_map-append f (of_shape qs s) (of_shape (q ∷ []) s))
    ∙ length-append (flat_map f (of_shape qs s)) (flat_map f (of_shape (q ∷ []) s)) ∙ ap (λ n. replacement_count qs Γ s + n) (of_one q Γ s)

pub total_count-none : (us : List (Scope × Shape)) → total_count [] us ≡ 0
total_count-none [] = refl
total_count-none (u ∷ us) = let h = total_count-none us in omega arith

pub total_count-more : (qs : List Qualifier) (q : Qualifier) (us : List (Scope × Shape)) → total_count (qs ++ q ∷ []) us ≡ total_count qs us + count_of q us
total_count-more qs q [] = refl
total_count-more qs q (u ∷ us) =
    let h = total_count-more qs q us in
    let k = replacement_count-more qs q u.0 u.1 in omega arith
