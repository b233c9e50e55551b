-- Classes of objects, put into a map one after the other.
use Rattle.std.proofs.Common.{◌≡◌, ℕ, zero, suc, ◌+◌, ◌<◌, ◌⊎◌, inl, inr, List, [], ◌∷◌, Bool, true, false, cond, Some, map, slice_get, slice_index, refl, sym, ap, subst, ◌∙◌, arith}
use Rattle.lq_logic_points.specs.Values.{class_value}
use Rattle.lq_logic_predicates.specs.Numbering.{index_of-slice_get}
use Rattle.lq_logic_predicates.specs.SameLaws.{same-from, same-is}
use Rattle.lq_logic_predicates.specs.Sum.{Sum, same}
use Rattle.lq_logic_predicates.specs.Table.{all_differ, index_of}
use Rattle.lq_logic_predicates.specs.TermView.{sum_of}
use Rattle.lq_logic_predicates.specs.declared.term.Term.{Term}
use Rattle.lq_prover_case.proofs.EquationsLemmas.Equated.{fewer}

-- the first n objects have the classes that stand at their numbers
abbrev pub HasFirstClasses : List Sum → List ℕ → List (Term × ℕ) → ℕ → Type 0
HasFirstClasses objects classes made n = (k : ℕ) (a : Sum) → k < n → slice_get objects k ≡ Some a → class_value made a ≡ Some (slice_index classes k)

mapped_at : (terms : List Term) (k : ℕ) (a : Sum) → slice_get (map sum_of terms) k ≡ Some a → (t : Term) × (sum_of t ≡ a)
mapped_at [] k a e = cc
mapped_at (t ∷ terms) zero a e = (t, cc)
mapped_at (t ∷ terms) (suc k) a e = mapped_at terms k a e

pub classes_push : (terms : List Term) (classes : List ℕ) (old new : List (Term × ℕ)) (n : ℕ) (t : Sum) → all_differ (map sum_of terms) ≡ true → slice_get (map sum_of terms) n ≡ Some t
    → ((u : Term) → class_value new (sum_of u) ≡ cond (same t (sum_of u)) (Some (slice_index classes n)) (class_value old (sum_of u))) → HasFirstClasses (map sum_of terms) classes old n
    → HasFirstClasses (map sum_of terms) classes new (n + 1)
classes_push terms classes old new n t d at updates h k a l e =
    let u = mapped_at terms k a e in subst (λ z. class_value new z ≡ Some (slice_index classes k)) u.1 (updates u.0 ∙ by (same t (sum_of u.0)) refl (fewer k n (omega (arith, l))))
  where
    by : (c : Bool) → same t (sum_of (mapped_at terms k a e).0) ≡ c → (k < n) ⊎ (k ≡ n)
        → cond c (Some (slice_index classes n)) (class_value old (sum_of (mapped_at terms k a e).0)) ≡ Some (slice_index classes k)
    by true s w =
        let one : t ≡ a = same-is t _ s ∙ (mapped_at terms k a e).1 in
        let i = index_of-slice_get (map sum_of terms) n t d at in
        let j = index_of-slice_get (map sum_of terms) k a d e in
        let m : n ≡ k = sym i ∙ ap (index_of (map sum_of terms)) one ∙ j in ap (λ z. Some (slice_index classes z)) m
    by false s (inl less) = subst (λ z. class_value old z ≡ Some (slice_index classes k)) (sym (mapped_at terms k a e).1) (h k a less e)
    by false s (inr last) =
        let same_one : Some t ≡ Some a = sym at ∙ ap (slice_get (map sum_of terms)) (sym last) ∙ e in
        let one : t ≡ a = cc in
        let f = same-from t (sum_of (mapped_at terms k a e).0) (one ∙ sym (mapped_at terms k a e).1) in cc
