-- The chosen instances of lists.
use Rattle.std.specs.Prelude.{slice_get, slice_index_or}
use Rattle.std.proofs.Common.{◌≡◌, ℕ, zero, suc, ◌+◌, Bool, true, false, cond, List, [], ◌∷◌, ◌++◌, length, take, get_or, Some, refl, sym, ap, ◌∙◌, arith}
use Rattle.std.proofs.lemmas.List.{length-take, take_more}
use Rattle.std.proofs.lemmas.Option.{slice_get_within, slice_get-get_or}
use Rattle.lq_refined_types.specs.Parts.Flowing.{Selection, picked}
use Rattle.lq_logic_predicates.specs.Formula.{Formula}
use Rattle.lq_top_answers.specs.Inferred.Listed.{picked_from}

picked-append : (f : ℕ → Bool) (k n : ℕ) (ps : List Formula) (p : Formula) → n ≡ k + length ps → picked f k (ps ++ p ∷ []) ≡ picked f k ps ++ cond (f n) (p ∷ []) []
picked-append f k n [] p e = let same : n ≡ k = omega arith in ap (λ (m : ℕ). cond (f m) (p ∷ []) []) (sym same)
picked-append f k n (q ∷ ps) p e =
    ap (λ (l : List Formula). cond (f k) (q ∷ l) l) (picked-append f (suc k) n ps p (omega arith)) ∙ by (f k) (picked f (suc k) ps) (cond (f n) (p ∷ []) [])
  where
    by : (b : Bool) (l m : List Formula) → cond b (q ∷ (l ++ m)) (l ++ m) ≡ cond b (q ∷ l) l ++ m
    by true l m = refl
    by false l m = refl

take_at : {A : Type 0} (xs : List A) (k : ℕ) (x : A) → slice_get xs k ≡ Some x → take (k + 1) xs ≡ take k xs ++ x ∷ []
take_at xs k x is =
    let lt = slice_get_within xs k x is in
    let here : get_or xs k x ≡ x = (let e = slice_get-get_or xs k x lt in cc) in
    take_more xs k x lt ∙ ap (λ y. take k xs ++ y ∷ []) here

-- one instance more
pub picked_more : (f : ℕ → Bool) (ps : List Formula) (at : ℕ) (p : Formula) (before after : List Formula) → Some p ≡ slice_get ps at → before ≡ picked f 0 (take at ps)
    → after ≡ before ++ cond (f at) (p ∷ []) [] → after ≡ picked f 0 (take (at + 1) ps)
picked_more f ps at p before after here is now =
    let lt = slice_get_within ps at p (sym here) in
    let n = length-take at ps in
    now ∙ ap (λ (l : List Formula). l ++ cond (f at) (p ∷ []) []) is
    ∙ sym (picked-append f 0 at (take at ps) p (omega (arith, n)))
    ∙ ap (picked f 0) (sym (take_at ps at p (sym here)))

picked_from-append : (c : Selection) (u n : ℕ) (ls : List (List Formula)) (l : List Formula) → n ≡ u + length ls → picked_from c u (ls ++ l ∷ []) ≡ picked_from c u ls ++ picked (c n) 0 l ∷ []
picked_from-append c u n [] l e = let same : n ≡ u = omega arith in ap (λ (m : ℕ). picked (c m) 0 l ∷ []) (sym same)
picked_from-append c u n (k ∷ ls) l e = ap (λ (r : List (List Formula)). picked (c u) 0 k ∷ r) (picked_from-append c (suc u) n ls l (omega arith))

-- one unknown more
pub unknown_more : (c : Selection) (ls : List (List Formula)) (u : ℕ) (l : List Formula) (before after : List (List Formula)) → Some l ≡ slice_get ls u → before ≡ picked_from c 0 (take u ls)
    → after ≡ before ++ picked (c u) 0 l ∷ [] → after ≡ picked_from c 0 (take (u + 1) ls)
unknown_more c ls u l before after here is now =
    let lt = slice_get_within ls u l (sym here) in
    let n = length-take u ls in
    now ∙ ap (λ (r : List (List Formula)). r ++ picked (c u) 0 l ∷ []) is
    ∙ sym (picked_from-append c 0 u (take u ls) l (omega (arith, n)))
    ∙ ap (picked_from c 0) (sym (take_at ls u l (sym here)))

-- what an unknown stands for
pub picked_at : (c : Selection) (u n k : ℕ) (ls : List (List Formula)) → n ≡ u + k → slice_index_or (picked_from c u ls) k [] ≡ picked (c n) 0 (slice_index_or ls k [])
picked_at c u n k [] e = refl
picked_at c u n zero (l ∷ ls) e = let same : n ≡ u = omega arith in ap (λ (m : ℕ). picked (c m) 0 l) (sym same)
picked_at c u n (suc k) (l ∷ ls) e = picked_at c (suc u) n k ls (omega arith)
