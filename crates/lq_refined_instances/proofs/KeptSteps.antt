-- Instances of a loop after one item more.
use Rattle.std.proofs.Common.{◌≡◌, ℕ, ◌<◌, List, [], ◌∷◌, ◌++◌, map, length, Bool, true, false, if◌then◌else◌, refl, sym, ap, ◌∙◌, arith}
use Rattle.std.specs.List.{flat_map}
use Rattle.std.proofs.lemmas.List.{length-append, append-nil, map-append}
use Rattle.std.proofs.lemmas.List.Elements.{filter-append}
use Rattle.std.proofs.lemmas.Grind.{flat_map-append}
use Rattle.lq_logic_predicates.specs.Formula.{Formula}
use Rattle.lq_text_qualifiers.specs.Faults.Shapes.{Shape, is_same}
use Rattle.lq_text_qualifiers.specs.Sorting.Sorted.{Qualifier}
use Rattle.lq_refined_instances.specs.Instances.{made_of, of_shape, total_count, replacement_count}
use Rattle.lq_refined_instances.specs.Kept.{with_formula, kept}
use Rattle.lq_refined_instances.specs.Scopes.{Visible, Scope, scope_in}
use Rattle.lq_refined_instances.proofs.Keeping.{kept-append}
use Rattle.lq_refined_instances.proofs.Tables.{in-last}

pub kept-step : (before made : List Formula) (p : Formula) (now new : List Formula) → now ≡ kept before made → new ≡ with_formula now p → new ≡ kept before (made ++ p ∷ [])
kept-step before made p now new inv is = is ∙ ap (λ (l : List Formula). with_formula l p) inv ∙ sym (kept-append before made (p ∷ []))

pub map-twice : {A B C : Type 0} (g : B → C) (f : A → B) (xs : List A) → map (λ x. g (f x)) xs ≡ map g (map f xs)
map-twice g f [] = refl
map-twice g f (x ∷ xs) = ap (λ r. g (f x) ∷ r) (map-twice g f xs)

pub list-step : (ms : List ℕ) (Γ : Scope) (qs : List Qualifier) (q : Qualifier) (s : Shape) (b : Bool) (now new : List Formula) → is_same s q.shape ≡ b
    → now ≡ kept [] (flat_map (made_of ms Γ) (of_shape qs s)) → new ≡ (if b then kept now (made_of ms Γ q) else now)
    → new ≡ kept [] (flat_map (made_of ms Γ) (of_shape (qs ++ q ∷ []) s))
list-step ms Γ qs q s b now new same inv is =
    is ∙ by b ∙ ap (λ (b : Bool). kept [] (flat_map (made_of ms Γ) (of_shape qs s) ++ flat_map (made_of ms Γ) (if b then q ∷ [] else []))) (sym same)
    ∙ ap (kept []) (sym (ap (flat_map (made_of ms Γ)) (filter-append (λ p. is_same s p.shape) qs (q ∷ [])) ∙ flat_map-append (made_of ms Γ) (of_shape qs s) (of_shape (q ∷ []) s)))
  where
    by : (b : Bool) → (if b then kept now (made_of ms Γ q) else now) ≡ kept [] (flat_map (made_of ms Γ) (of_shape qs s) ++ flat_map (made_of ms Γ) (if b then q ∷ [] else []))
    by true =
        ap (λ (l : List Formula). kept l (made_of ms Γ q)) inv ∙ sym (kept-append [] (flat_map (made_of ms Γ) (of_shape qs s)) (made_of ms Γ q))
        ∙ ap (λ (l : List Formula). kept [] (flat_map (made_of ms Γ) (of_shape qs s) ++ l)) (sym (append-nil (made_of ms Γ q)))
    by false = inv ∙ ap (kept []) (sym (append-nil (flat_map (made_of ms Γ) (of_shape qs s))))

pub lists-step : {T U : Type 0} (view : T → List Formula) (f : U → List Formula) (lists : List T) (us : List U) (t : T) (u : U) → map view lists ≡ map f us → view t ≡ f u
    → map view (lists ++ t ∷ []) ≡ map f (us ++ u ∷ [])
lists-step view f lists us t u inv is =
    map-append view lists (t ∷ []) ∙ ap (λ (l : List (List Formula)). l ++ view t ∷ []) inv ∙ ap (λ (p : List Formula). map f us ++ p ∷ []) is ∙ sym (map-append f us (u ∷ []))

-- a scope that was added shows the one before it and a symbol more
pub added-step : (all new : List Scope) (last at : ℕ) (Γ : Scope) (v : Visible) → new ≡ all ++ (scope_in all last ++ v ∷ []) ∷ [] → at ≡ length all → scope_in all last ≡ Γ
    → (at < length new) × (scope_in new at ≡ Γ ++ v ∷ [])
added-step all new last at Γ v is number shows =
    let more = length-append all ((scope_in all last ++ v ∷ []) ∷ []) in
    let long : length new ≡ length (all ++ (scope_in all last ++ v ∷ []) ∷ []) = ap length is in (
      omega arith,
      ap (λ (l : List Scope). scope_in l at) is ∙ ap (scope_in (all ++ (scope_in all last ++ v ∷ []) ∷ [])) number ∙ in-last all (scope_in all last ++ v ∷ [])
          ∙ ap (λ (l : Scope). l ++ v ∷ []) shows,
    )
