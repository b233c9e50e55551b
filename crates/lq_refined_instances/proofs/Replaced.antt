-- Replacements, one placeholder after another.
use Rattle.std.proofs.Common.{◌≡◌, ℕ, zero, suc, ◌+◌, ◌*◌, List, [], ◌∷◌, ◌++◌, map, length, slice_get, Some, true, refl, sym, ap, ◌∙◌, arith}
use Rattle.std.specs.List.{flat_map}
use Rattle.std.proofs.lemmas.List.{length-append, length-map, map-append, append-nil}
use Rattle.std.proofs.lemmas.Grind.{flat_map-append}
use Rattle.lq_logic_predicates.specs.declared.symbol.Symbol.{Symbol}
use Rattle.lq_text_qualifiers.specs.Faults.Shapes.{Shape}
use Rattle.lq_refined_instances.specs.Instances.{replacements}
use Rattle.lq_refined_instances.specs.Replacing.{longer, each_longer, is_empty}
use Rattle.lq_refined_instances.specs.Scopes.{Scope, symbols_of}

cons-longer : (y : Symbol) (xs l : List Symbol) → longer xs (y ∷ l) ≡ map (λ k. y ∷ k) (longer xs l)
cons-longer y [] l = refl
cons-longer y (x ∷ xs) l = ap (λ r. (y ∷ (l ++ x ∷ [])) ∷ r) (cons-longer y xs l)

cons-each : (y : Symbol) (xs : List Symbol) (ls : List (List Symbol)) → each_longer xs (map (λ k. y ∷ k) ls) ≡ map (λ k. y ∷ k) (each_longer xs ls)
cons-each y xs [] = refl
cons-each y xs (l ∷ ls) =
    ap (λ r. r ++ each_longer xs (map (λ k. y ∷ k) ls)) (cons-longer y xs l) ∙ ap (λ r. map (λ k. y ∷ k) (longer xs l) ++ r) (cons-each y xs ls)
    ∙ sym (map-append (λ k. y ∷ k) (longer xs l) (each_longer xs ls))

each-under : (ys xs : List Symbol) (ls : List (List Symbol)) → flat_map (λ y. map (λ k. y ∷ k) (each_longer xs ls)) ys ≡ each_longer xs (flat_map (λ y. map (λ k. y ∷ k) ls) ys)
each-under [] xs ls = refl
each-under (y ∷ ys) xs ls =
    ap (λ r. r ++ flat_map (λ z. map (λ k. z ∷ k) (each_longer xs ls)) ys) (sym (cons-each y xs ls))
    ∙ ap (λ r. each_longer xs (map (λ k. y ∷ k) ls) ++ r) (each-under ys xs ls)
    ∙ sym (flat_map-append (longer xs) (map (λ k. y ∷ k) ls) (flat_map (λ z. map (λ k. z ∷ k) ls) ys))

singles : (xs : List Symbol) → flat_map (λ x. map (λ k. x ∷ k) ([] ∷ [])) xs ≡ longer xs []
singles [] = refl
singles (x ∷ xs) = ap (λ r. (x ∷ []) ∷ r) (singles xs)

-- one placeholder more is one more symbol behind each list
pub replacements-more : (Γ : Scope) (ss : List Shape) (s : Shape) → replacements Γ (ss ++ s ∷ []) ≡ each_longer (symbols_of Γ s) (replacements Γ ss)
replacements-more Γ [] s = singles (symbols_of Γ s) ∙ sym (append-nil (longer (symbols_of Γ s) []))
replacements-more Γ (t ∷ ss) s =
    ap (λ r. flat_map (λ y. map (λ k. y ∷ k) r) (symbols_of Γ t)) (replacements-more Γ ss s) ∙ each-under (symbols_of Γ t) (symbols_of Γ s) (replacements Γ ss)

length-each : (xs : List Symbol) (ls : List (List Symbol)) → length (each_longer xs ls) ≡ length ls * length xs
length-each xs [] = omega arith
length-each xs (l ∷ ls) =
    let h = length-each xs ls in
    let k = length-append (longer xs l) (each_longer xs ls) in
    let m : length (longer xs l) ≡ length xs = length-map xs (λ x. l ++ x ∷ []) in
    let e : suc (length ls) * length xs ≡ length xs + length ls * length xs = omega arith in omega arith

pub length-more : (Γ : Scope) (ss : List Shape) (s : Shape) → length (replacements Γ (ss ++ s ∷ [])) ≡ length (replacements Γ ss) * length (symbols_of Γ s)
length-more Γ ss s = ap length (replacements-more Γ ss s) ∙ length-each (symbols_of Γ s) (replacements Γ ss)

empty-is : (xs : List Symbol) → is_empty xs ≡ true → xs ≡ []
empty-is [] h = refl
empty-is (x ∷ xs) h = absurd (cc)

nothing_under : (ys : List Symbol) → flat_map (λ y. map (λ k. y ∷ k) []) ys ≡ []
nothing_under [] = refl
nothing_under (y ∷ ys) = nothing_under ys

-- a placeholder without a symbol leaves no replacement
pub replacements-none : (Γ : Scope) (ss : List Shape) (i : ℕ) (s : Shape) → slice_get ss i ≡ Some s → is_empty (symbols_of Γ s) ≡ true → replacements Γ ss ≡ []
replacements-none Γ [] i s h e = absurd (cc)
replacements-none Γ (t ∷ ss) zero s h e =
    let same : t ≡ s = cc in
    ap (λ u. flat_map (λ y. map (λ k. y ∷ k) (replacements Γ ss)) (symbols_of Γ u)) same
    ∙ ap (flat_map (λ y. map (λ k. y ∷ k) (replacements Γ ss))) (empty-is (symbols_of Γ s) e)
replacements-none Γ (t ∷ ss) (suc i) s h e =
    ap (λ r. flat_map (λ y. map (λ k. y ∷ k) r) (symbols_of Γ t)) (replacements-none Γ ss i s h e) ∙ nothing_under (symbols_of Γ t)
