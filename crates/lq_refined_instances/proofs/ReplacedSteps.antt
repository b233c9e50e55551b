-- Replacements of a loop after one item more.
use Rattle.std.proofs.Common.{◌≡◌, ℕ, ◌+◌, ◌<◌, List, [], ◌∷◌, ◌++◌, map, take, length, get_or, refl, sym, ap, ◌∙◌, append_assoc}
use Rattle.std.proofs.lemmas.List.{map-append}
use Rattle.std.proofs.lemmas.Grind.{flat_map-append}
use Rattle.std.proofs.lemmas.List.{append-nil, take_more}
use Rattle.lq_logic_predicates.specs.declared.symbol.Symbol.{Symbol}
use Rattle.lq_text_qualifiers.specs.Faults.Shapes as plain
use Rattle.lq_text_qualifiers.specs.Faults.Shapes.{is_same}
use Rattle.lq_refined_instances.specs.Replacing.{longer, each_longer}
use Rattle.lq_text_qualifiers.specs.Sorting.Views.{shape_view}
use Rattle.lq_text_qualifiers.specs.declared.sorting.shape.Shape.{Shape}
use Rattle.lq_refined_instances.specs.Instances.{replacements}
use Rattle.lq_refined_instances.specs.Scopes.{Scope, symbols_of}
use Rattle.lq_refined_instances.proofs.Replaced.{replacements-more}
use Rattle.lq_refined_instances.proofs.Taking.{seen-more}

pub longer-more : (xs : List Symbol) (x : Symbol) (l : List Symbol) → longer (xs ++ x ∷ []) l ≡ longer xs l ++ (l ++ x ∷ []) ∷ []
longer-more xs x l = map-append (λ y. l ++ y ∷ []) xs (x ∷ [])

pub each-more : (xs : List Symbol) (ls : List (List Symbol)) (l : List Symbol) → each_longer xs (ls ++ l ∷ []) ≡ each_longer xs ls ++ longer xs l
each-more xs ls l = flat_map-append (longer xs) ls (l ∷ []) ∙ ap (λ r. each_longer xs ls ++ r) (append-nil (longer xs l))

pub longer-step : (before : List (List Symbol)) (S : List Symbol) (i : ℕ) (d : Symbol) (list : List Symbol) (now new : List (List Symbol)) (made : List Symbol) → i < length S
    → now ≡ before ++ longer (take i S) list → made ≡ list ++ get_or S i d ∷ [] → new ≡ now ++ made ∷ [] → new ≡ before ++ longer (take (i + 1) S) list
longer-step before S i d list now new made less inv value pushed =
    pushed ∙ ap (λ (l : List (List Symbol)). l ++ made ∷ []) inv ∙ append_assoc before (longer (take i S) list) (made ∷ [])
    ∙ ap (λ (m : List Symbol). before ++ (longer (take i S) list ++ m ∷ [])) value
    ∙ ap (λ (l : List (List Symbol)). before ++ l) (sym (ap (λ (xs : List Symbol). longer xs list) (take_more S i d less) ∙ longer-more (take i S) (get_or S i d) list))

pub replaced-step : (Γ : Scope) (P : List Shape) (i : ℕ) (d : Shape) (row new : List (List Symbol)) (symbols : List Symbol) → i < length P → row ≡ replacements Γ (map shape_view (take i P))
    → symbols ≡ symbols_of Γ (shape_view (get_or P i d)) → new ≡ each_longer symbols row → new ≡ replacements Γ (map shape_view (take (i + 1) P))
replaced-step Γ P i d row new symbols less inv found is =
    is ∙ ap (λ (xs : List Symbol). each_longer xs row) found ∙ ap (each_longer (symbols_of Γ (shape_view (get_or P i d)))) inv
    ∙ sym (replacements-more Γ (map shape_view (take i P)) (shape_view (get_or P i d)))
    ∙ ap (λ (ss : List plain.Shape). replacements Γ ss) (sym (seen-more shape_view P i (get_or P i d) d less refl))
