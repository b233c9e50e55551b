-- The implications of parts one after another.
use Rattle.std.proofs.Common.{◌≡◌, cond, Bool, true, false, List, [], ◌∷◌, ◌++◌, length, map, take, get_or, ◌<◌, ◌+◌, ℕ, min, refl, sym, ap, ◌∙◌}
use Rattle.std.proofs.lemmas.List.{take_more, map_push, length-append}
use Rattle.lq_refined_types.specs.Parts.Part.{Part, Parts, is_truth}
use Rattle.lq_refined_types.specs.Subtyping.Implication.{Implication, Origin, goals}
use Rattle.lq_refined_substitution.specs.declared.substitution.parts.Part as code
use Rattle.lq_refined_substitution.specs.Substitution.Views.{part_view}
use Rattle.lq_refined_substitution.proofs.ImplicationsLemmas.Limits.{kept-after, count-after}

module _ (hs ls : Parts) (o : Origin) where
  pub goals-append : (qs rs : Parts) → goals hs ls (qs ++ rs) o ≡ goals hs ls qs o ++ goals hs ls rs o
  goals-append [] rs = refl
  goals-append (q ∷ qs) rs = one _ _ _ _ (is_truth q) (goals-append qs rs)
    where
      one : (x : Implication) (a b c : List Implication) (t : Bool) → a ≡ b ++ c → cond t a (x ∷ a) ≡ cond t b (x ∷ b) ++ c
      one x a b c true h = h
      one x a b c false h = ap (λ l. x ∷ l) h

  -- of a part that is written `true` there is none
  pub goals-truth : (q : Part) → is_truth q ≡ true → goals hs ls (q ∷ []) o ≡ []
  goals-truth q e = pick (is_truth q) e _
    where
      pick : (b : Bool) → b ≡ true → (x : List Implication) → cond b [] x ≡ []
      pick true h x = refl
      pick false h x = cc

  -- one more part of those of the code
  pub goals-more : (parts : List code.Part) (i : ℕ) (q : code.Part) → i < length parts → q ≡ get_or parts i q
      → goals hs ls (map part_view (take (i + 1) parts)) o ≡ goals hs ls (map part_view (take i parts)) o ++ goals hs ls (part_view q ∷ []) o
  goals-more parts i q h e =
      ap (λ l. goals hs ls (map part_view l) o) (take_more parts i q h)
      ∙ ap (λ l. goals hs ls l o) (map_push part_view (take i parts) (get_or parts i q))
      ∙ goals-append (map part_view (take i parts)) (part_view (get_or parts i q) ∷ [])
      ∙ ap (λ x. goals hs ls (map part_view (take i parts)) o ++ goals hs ls (part_view x ∷ []) o) (sym e)

-- what is kept, and how many there are, behind one more part
module _ (n : ℕ) (init now next : List Implication) (hs there ls : Parts) (o : Origin) (parts : List code.Part) (i : ℕ) (q : code.Part) (same : there ≡ hs)
    (inside : i < length parts) (is : q ≡ get_or parts i q) where
  pub added-more : now ≡ take n (init ++ goals hs ls (map part_view (take i parts)) o) → next ≡ take n (now ++ goals there ls (part_view q ∷ []) o)
      → next ≡ take n (init ++ goals hs ls (map part_view (take (i + 1) parts)) o)
  added-more h k =
      kept-after n init (goals hs ls (map part_view (take i parts)) o) (goals hs ls (part_view q ∷ []) o) now next h
      (k ∙ ap (λ l. take n (now ++ goals l ls (part_view q ∷ []) o)) same)
      ∙ ap (λ l. take n (init ++ l)) (sym (goals-more hs ls o parts i q inside is))

  pub counted-more : (m a c d : ℕ) → c ≡ min (a + length (goals hs ls (map part_view (take i parts)) o)) m
      → d ≡ min (c + length (goals there ls (part_view q ∷ []) o)) m → d ≡ min (a + length (goals hs ls (map part_view (take (i + 1) parts)) o)) m
  counted-more m a c d h k =
      count-after m a (length (goals hs ls (map part_view (take i parts)) o)) c d (length (goals hs ls (part_view q ∷ []) o)) h
      (k ∙ ap (λ l. min (c + length (goals l ls (part_view q ∷ []) o)) m) same)
      ∙ ap (λ l. min (a + l) m)
      (sym (ap length (goals-more hs ls o parts i q inside is)
      ∙ length-append (goals hs ls (map part_view (take i parts)) o) (goals hs ls (part_view q ∷ []) o)))
