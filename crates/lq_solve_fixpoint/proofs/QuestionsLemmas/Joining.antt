-- Conjunctions, one conjunct after another.
use Rattle.std.proofs.Common.{◌≡◌, ◌∙◌, ℕ, suc, ◌+◌, ◌<◌, ◌≤◌, length, take, get_or, arith, List, [], ◌∷◌, ◌++◌, map, refl, sym, ap, subst}
use Rattle.std.proofs.Math.Seq.{take-suc}
use Rattle.std.proofs.lemmas.List.{map-append, take_all}
use Rattle.lq_refined_types.specs.Parts.Assignment.{joined}
use Rattle.lq_logic_predicates.specs.Formula.{Formula, conjunction}

joined_last : (p : Formula) (qs : List Formula) (q : Formula) → joined p (qs ++ q ∷ []) ≡ conjunction (joined p qs) q
joined_last p [] q = refl
joined_last p (r ∷ qs) q = joined_last (conjunction p r) qs q

pub joined_next : {X : Type 0} (f : X → Formula) (p before after : Formula) (xs : List X) (at : ℕ) (d : X) → at < length xs → before ≡ joined p (map f (take at xs))
    → after ≡ conjunction before (f (get_or xs at d)) → after ≡ joined p (map f (take (at + 1) xs))
joined_next f p before after xs at d h b a =
    let x = get_or xs at d in
    let next : suc at ≡ at + 1 = omega arith in
    let taken : take (at + 1) xs ≡ take at xs ++ x ∷ [] = subst (λ m. take m xs ≡ take at xs ++ x ∷ []) next (take-suc xs at d h) in
    a ∙ ap (λ r. conjunction r (f x)) b ∙ sym (joined_last p (map f (take at xs)) (f x)) ∙ ap (joined p) (sym (map-append f (take at xs) (x ∷ []))) ∙ ap (λ l. joined p (map f l)) (sym taken)

pub joined_whole : {X : Type 0} (f : X → Formula) (p made : Formula) (xs : List X) (at : ℕ) → length xs ≤ at → made ≡ joined p (map f (take at xs)) → made ≡ joined p (map f xs)
joined_whole f p made xs at h e = e ∙ ap (λ l. joined p (map f l)) (take_all at xs h)
