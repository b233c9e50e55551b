-- Environments to which one more is added.
use Rattle.std.proofs.Common.{◌≡◌, ℕ, ◌+◌, ◌<◌, List, [], ◌∷◌, ◌++◌, length, map, take, get_or, slice_index_or, refl, sym, ap, ap₂, ◌∙◌, append_assoc, arith}
use Rattle.std.proofs.lemmas.List.{get_or_push, length-append, map_push, take_more}
use Rattle.lq_refined_substitution.specs.Implications.Views.{environment_in}
use Rattle.lq_refined_types.specs.Parts.Part as parts
use Rattle.lq_refined_types.specs.Parts.Part.{Parts, Scopes, part_by, parts_by}
use Rattle.lq_refined_types.specs.Parts.Substitution.{Subst}
use Rattle.lq_refined_substitution.specs.declared.substitution.parts.Part.{Part}
use Rattle.lq_refined_substitution.specs.Substitution.Views.{part_view}
use Rattle.lq_refined_subtyping.specs.Contexts.Growing.{HasMore}

module _ (init now new : List Parts) (hs : Parts) (q : parts.Part) (n : ℕ) (added : new ≡ now ++ (hs ++ q ∷ []) ∷ []) (number : n ≡ length now) where
  -- the new one's hypotheses
  pub added-facts : environment_in new n ≡ hs ++ q ∷ []
  added-facts = ap₂ (λ l k. slice_index_or l k []) added number ∙ get_or_push now (hs ++ q ∷ []) [] (length now) refl

  pub added-there : n < length new
  added-there = let k = length-append now ((hs ++ q ∷ []) ∷ []) in let m : length new ≡ length (now ++ (hs ++ q ∷ []) ∷ []) = ap length added in omega arith

  pub added-more : HasMore init now → HasMore init new
  added-more h = record {
    added = h.added ++ (hs ++ q ∷ []) ∷ [];
    is = added ∙ ap (λ l. l ++ (hs ++ q ∷ []) ∷ []) h.is ∙ append_assoc init h.added ((hs ++ q ∷ []) ∷ []);
  }

parts_by-push : (scopes : Scopes) (θ : Subst) (qs : Parts) (q : parts.Part)
    → parts_by scopes θ (qs ++ q ∷ []) ≡ parts_by scopes θ qs ++ part_by scopes θ q ∷ []
parts_by-push scopes θ [] q = refl
parts_by-push scopes θ (p ∷ qs) q = ap (λ l. part_by scopes θ p ∷ l) (parts_by-push scopes θ qs q)

module _ (base : Parts) (items : List Part) (i : ℕ) (part : Part) (inside : i < length items) (is : part ≡ get_or items i part) where
  viewed : map part_view (take (i + 1) items) ≡ map part_view (take i items) ++ part_view part ∷ []
  viewed =
      ap (map part_view) (take_more items i part inside) ∙ map_push part_view (take i items) (get_or items i part)
      ∙ ap (λ x. map part_view (take i items) ++ part_view x ∷ []) (sym is)

  -- one more part, with something put for its symbols, or as it is
  pub put-more : (scopes : Scopes) (θ : Subst) → (base ++ parts_by scopes θ (map part_view (take i items))) ++ part_by scopes θ (part_view part) ∷ []
      ≡ base ++ parts_by scopes θ (map part_view (take (i + 1) items))
  put-more scopes θ =
      append_assoc base (parts_by scopes θ (map part_view (take i items))) (part_by scopes θ (part_view part) ∷ [])
      ∙ ap (λ l. base ++ l) (sym (parts_by-push scopes θ (map part_view (take i items)) (part_view part)))
      ∙ ap (λ l. base ++ parts_by scopes θ l) (sym viewed)

  pub same-more : (base ++ map part_view (take i items)) ++ part_view part ∷ [] ≡ base ++ map part_view (take (i + 1) items)
  same-more = append_assoc base (map part_view (take i items)) (part_view part ∷ []) ∙ ap (λ l. base ++ l) (sym viewed)
