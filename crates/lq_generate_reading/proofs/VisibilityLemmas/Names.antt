-- Names that are visible, one after another.
use Rattle.std.proofs.Common.{◌≡◌, ◌∙◌, ℕ, zero, suc, ◌+◌, ◌-◌, ◌<◌, List, [], ◌∷◌, ◌++◌, length, take, drop, map, get_or, Result, Ok, Err, OnOk, OnErr, refl, sym, ap, ap₂, append_assoc, arith}
use Rattle.std.proofs.lemmas.List.{append-nil, take_more}
use Rattle.std.specs.declared.alloc.AllocError.{AllocError}
use Rattle.lq_refined_instances.specs.Scopes.{Added, Scope, grown, scope_in, shown}
use Rattle.lq_refined_instances.specs.Seen.{added_view}
use Rattle.lq_refined_instances.specs.Views.{scopes_view}
use Rattle.lq_refined_instances.specs.declared.scopes.Scopes.{Scopes}
use Rattle.lq_refined_templates.specs.Points.Annotation.{Annotation}
use Rattle.lq_refined_templates.specs.Points.Seen.{Seen, symbols_of}
use Rattle.lq_generate_reading.specs.Visibility.Growing.{front_dropped}
use Rattle.lq_generate_reading.specs.Visibility.Scopes.{symbol_if, Longer}
use Rattle.lq_generate_reading.specs.Visibility.Stack.{entry_view, stacked}
use Rattle.lq_generate_reading.specs.declared.visibility.bound.Entry.{Entry}

pub stacked-push : (Δ : List Seen) (es : List Entry) (e : Entry) → stacked Δ (es ++ e ∷ []) ≡ entry_view e ∷ stacked Δ es
stacked-push Δ [] e = refl
stacked-push Δ (x ∷ es) e = stacked-push (entry_view x ∷ Δ) es e

pub length-stacked : (Δ : List Seen) (es : List Entry) → length (stacked Δ es) ≡ length Δ + length es
length-stacked Δ [] = omega arith
length-stacked Δ (e ∷ es) = let k = length-stacked (entry_view e ∷ Δ) es in omega arith

-- the names of the last entries come first
pub stacked-append : (Δ : List Seen) (xs ys : List Entry) → (Γ : List Seen) × (stacked Δ (xs ++ ys) ≡ Γ ++ stacked Δ xs)
stacked-append Δ [] ys = on_top Δ ys
  where
    on_top : (Δ : List Seen) (ys : List Entry) → (Γ : List Seen) × (stacked Δ ys ≡ Γ ++ Δ)
    on_top Δ [] = ([], refl)
    on_top Δ (y ∷ ys) =
        let t = on_top (entry_view y ∷ Δ) ys in (t.0 ++ entry_view y ∷ [], t.1 ∙ sym (append_assoc t.0 (entry_view y ∷ []) Δ))
stacked-append Δ (x ∷ xs) ys = stacked-append (entry_view x ∷ Δ) xs ys

pub symbols_of-append : (n : Annotation) (xs ys : List ℕ) → symbols_of n (xs ++ ys) ≡ symbols_of n xs ++ symbols_of n ys
symbols_of-append n [] ys = refl
symbols_of-append n (x ∷ xs) ys =
    ap (λ l. symbol_if n x ++ l) (symbols_of-append n xs ys) ∙ sym (append_assoc (symbol_if n x) (symbols_of n xs) (symbols_of n ys))

first_of : (es : List Added) → (rest : List Scope) × (grown ([] ∷ []) es ≡ [] ∷ rest)
first_of es = starts [] es
  where
    starts : (all : List Scope) (es : List Added) → (rest : List Scope) × (grown ([] ∷ all) es ≡ [] ∷ rest)
    starts all [] = (all, refl)
    starts all (e ∷ es) = starts (all ++ shown ([] ∷ all) e ∷ []) es

-- the first scope of a table is empty
pub first_empty : (t : Scopes) → scope_in (scopes_view t) 0 ≡ []
first_empty t = ap (λ l. scope_in l 0) (first_of (map added_view t.additions.items)).1

pub first_there : (t : Scopes) → 0 < length (scopes_view t)
first_there t = let f = first_of (map added_view t.additions.items) in let e : length (scopes_view t) ≡ length ([] ∷ f.0) = ap length f.1 in omega arith

pub longer_either : (old new : List Scope) (Γ : Scope) (r : Result ℕ AllocError) → OnOk r (new ≡ old ++ Γ ∷ []) → OnErr r (new ≡ old) → Longer old new
longer_either old new Γ (Ok n) ok err = record { added = Γ ∷ []; is = ok }
longer_either old new Γ (Err e) ok err = record { added = []; is = err ∙ sym (append-nil old) }

-- the first entries alone are the last names without those in front of them
pub stacked_kept : (es : List Entry) (k : ℕ) → stacked [] (take k es) ≡ drop (length (stacked [] es) - k) (stacked [] es)
stacked_kept es k = by (stacked-append [] (take k es) (drop k es))
  where
    parts : (xs : List Entry) (k : ℕ) → take k xs ++ drop k xs ≡ xs
    parts [] zero = refl
    parts [] (suc k) = refl
    parts (x ∷ xs) zero = refl
    parts (x ∷ xs) (suc k) = ap (λ l. x ∷ l) (parts xs k)

    size : (xs : List Entry) (k : ℕ) → length xs - length (take k xs) ≡ length xs - k
    size [] zero = refl
    size [] (suc k) = omega arith
    size (x ∷ xs) zero = refl
    size (x ∷ xs) (suc k) = let h = size xs k in omega arith

    by : (Γ : List Seen) × (stacked [] (take k es ++ drop k es) ≡ Γ ++ stacked [] (take k es))
        → stacked [] (take k es) ≡ drop (length (stacked [] es) - k) (stacked [] es)
    by t =
        let whole : stacked [] es ≡ t.0 ++ stacked [] (take k es) = ap (stacked []) (sym (parts es k)) ∙ t.1 in
        let m : length (stacked [] es) - k ≡ length (t.0 ++ stacked [] (take k es)) - length (stacked [] (take k es)) =
        (let a = length-stacked [] es in
        let b = length-stacked [] (take k es) in
        let c : length (stacked [] es) ≡ length (t.0 ++ stacked [] (take k es)) = ap length whole in
        let d = size es k in
        omega arith) in
        sym (ap₂ drop m whole ∙ front_dropped t.0 (stacked [] (take k es)))

-- one more entry
pub entry_more : (es : List Entry) (i : ℕ) (d : Entry) → i < length es → stacked [] (take (i + 1) es) ≡ entry_view (get_or es i d) ∷ stacked [] (take i es)
entry_more es i d h = ap (stacked []) (take_more es i d h) ∙ stacked-push [] (take i es) (get_or es i d)
