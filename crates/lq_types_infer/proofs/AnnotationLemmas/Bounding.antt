-- The number past the last variable of a type, from those of its parts.
use Rattle.std.specs.Prelude.{max, All, slice_index_or}
use Rattle.std.proofs.Common.{◌≡◌, ℕ, suc, ◌+◌, ◌<◌, ◌++◌, map, take, drop, get_or, drop-cons, List, [], ◌∷◌, length, inl, inr, refl, sym, ap, ap₂, subst, ◌∙◌, arith}
use Rattle.lq_text_tree.specs.MlType as ml
use Rattle.lq_text_tree.specs.MlType.{MlType}
use Rattle.lq_types_table.specs.declared.type_node.TypeHead.{TypeHead}
use Rattle.lq_types_table.specs.declared.type_node.TypeHead.TheVariants as head
use Rattle.lq_types_table.specs.Heads.{made, each, IsRight}
use Rattle.lq_types_table.specs.Nodes.{at}
use Rattle.lq_types_table.specs.Seen.{IsOver}
use Rattle.lq_types_infer.specs.Annotation.Bounds.{bound_of, bound_of_all, own_bound, largest}
use Rattle.lq_types_infer.proofs.AnnotationLemmas.Measuring.{taken_at, taken_more, one_more}
use Rattle.lq_types_infer.proofs.AnnotationLemmas.Types.{AllOf, from_all}

max_none : (a : ℕ) → a ≡ max 0 a
max_none a = omega arith

max_one : (a : ℕ) → a ≡ max 0 (max a 0)
max_one a = omega arith

max_two : (a b : ℕ) → max a b ≡ max 0 (max a (max b 0))
max_two a b = omega arith

module _ (types : ℕ → MlType) where
  bounds_are : (parts : List ℕ) → bound_of_all (each types parts) ≡ largest (λ p. bound_of (types p)) parts
  bounds_are [] = refl
  bounds_are (p ∷ ps) = ap (λ (n : ℕ). max (bound_of (types p)) n) (bounds_are ps)

  -- a head over the parts that it takes
  abbrev Over : TypeHead → List ℕ → Type 0
  Over h parts = bound_of (made h (each types parts)) ≡ max (own_bound (made h (each types parts))) (bound_of_all (each types parts))

  none_over : (h : TypeHead) → Over h [] → (parts : List ℕ) → length parts ≡ 0 → Over h parts
  none_over h o [] e = o
  none_over h o (p ∷ ps) e = absurd (omega (arith, e))

  one_over : (h : TypeHead) → ((p : ℕ) → Over h (p ∷ [])) → (parts : List ℕ) → length parts ≡ 1 → Over h parts
  one_over h o (p ∷ []) e = o p
  one_over h o [] e = absurd (omega (arith, e))
  one_over h o (p ∷ q ∷ ps) e = absurd (omega (arith, e))

  two_over : (h : TypeHead) → ((p q : ℕ) → Over h (p ∷ q ∷ [])) → (parts : List ℕ) → length parts ≡ 2 → Over h parts
  two_over h o (p ∷ q ∷ []) e = o p q
  two_over h o [] e = absurd (omega (arith, e))
  two_over h o (p ∷ []) e = absurd (omega (arith, e))
  two_over h o (p ∷ q ∷ r ∷ ps) e = absurd (omega (arith, e))

  over : (h : TypeHead) (parts : List ℕ) → IsRight h (length parts) → Over h parts
  over head.Int parts right = none_over head.Int (max_none 0) parts (right 0 refl)
  over head.Bool parts right = none_over head.Bool (max_none 0) parts (right 0 refl)
  over head.Unit parts right = none_over head.Unit (max_none 0) parts (right 0 refl)
  over head.Arrow parts right = two_over head.Arrow (λ p q. max_two (bound_of (types p)) (bound_of (types q))) parts (right 2 refl)
  over head.Tuple parts right = max_none (bound_of_all (each types parts))
  over head.Array parts right = one_over head.Array (λ p. max_one (bound_of (types p))) parts (right 1 refl)
  over head.Map parts right = one_over head.Map (λ p. max_one (bound_of (types p))) parts (right 1 refl)
  over (head.Named d) parts right = max_none (bound_of_all (each types parts))

variable_bound : (a : MlType) (v : ℕ) → a ≡ ml.var v → bound_of a ≡ max (own_bound a) 0
variable_bound a v is =
    let both : suc v ≡ max (suc v) 0 = omega arith in
    ap bound_of is ∙ both ∙ sym (ap (λ (b : MlType). max (own_bound b) 0) is)

pub bound_over : (all : List MlType) (i : ℕ) (parts : List ℕ) → IsOver all i parts
    → bound_of (at all i) ≡ max (own_bound (at all i)) (largest (λ p. bound_of (at all p)) parts)
bound_over all i parts (inl (v, is, none)) =
    subst (λ (ps : List ℕ). bound_of (at all i) ≡ max (own_bound (at all i)) (largest (λ p. bound_of (at all p)) ps)) (sym none)
    (variable_bound (at all i) v is)
bound_over all i parts (inr (h, is, right)) =
    ap bound_of is ∙ over (at all) h parts right
    ∙ ap₂ (λ (m : ℕ) (n : ℕ). max m n) (sym (ap own_bound is)) (bounds_are (at all) parts)

-- ---- a loop over parts

module _ (f : ℕ → ℕ) where
  regroup : (b x rest : ℕ) → max (max b x) rest ≡ max b (max x rest)
  regroup b x rest = omega arith

  pub largest_next : (xs : List ℕ) (i bound new goal : ℕ) → i < length xs → max bound (largest f (drop i xs)) ≡ goal
      → new ≡ max bound (f (get_or xs i 0)) → max new (largest f (drop (suc i) xs)) ≡ goal
  largest_next xs i bound new goal low h is =
      let e : largest f (drop i xs) ≡ max (f (get_or xs i 0)) (largest f (drop (suc i) xs)) = ap (largest f) (drop-cons xs i 0 low) in
      let rest = largest f (drop (suc i) xs) in
      ap (λ (n : ℕ). max n rest) is ∙ regroup bound (f (get_or xs i 0)) rest ∙ ap (λ (n : ℕ). max bound n) (sym e) ∙ h

  largest_same : (h : ℕ → ℕ) (P : ℕ → Type 0) → ((p : ℕ) → P p → f p ≡ h p) → (ps : List ℕ) → AllOf P ps → largest f ps ≡ largest h ps
  largest_same h P same [] all = refl
  largest_same h P same (p ∷ ps) all = ap₂ (λ (m : ℕ) (n : ℕ). max m n) (same p all.0) (largest_same h P same ps all.1)

-- ---- the table

pub bounds_next : (all : List MlType) (i : ℕ) (bounds parts : List ℕ) (bound : ℕ) → i < length all → bounds ≡ map bound_of (take i all)
    → IsOver all i parts → All (λ p. p < i) parts
    → bound ≡ max (own_bound (at all i)) (largest (λ p. slice_index_or bounds p 0) parts)
    → bounds ++ bound ∷ [] ≡ map bound_of (take (i + 1) all)
bounds_next all i bounds parts bound low are over_it earlier is =
    let same = largest_same (λ p. slice_index_or bounds p 0) (λ p. bound_of (at all p)) (λ p. p < i)
    (λ p l. ap (λ (ns : List ℕ). slice_index_or ns p 0) are ∙ taken_at bound_of 0 all i p l (omega (arith, l, low))) parts
    (from_all (λ p. p < i) parts earlier) in
    let own : bound ≡ bound_of (at all i) =
    is ∙ ap (λ (n : ℕ). max (own_bound (at all i)) n) same ∙ sym (bound_over all i parts over_it) in
    ap₂ (λ (xs : List ℕ) (n : ℕ). xs ++ n ∷ []) are own ∙ taken_more bound_of 0 all i low ∙ ap (λ (j : ℕ). map bound_of (take j all)) (one_more i)

pub bounds_end : (bound rest whole : ℕ) → rest ≡ 0 → max bound rest ≡ whole → bound ≡ whole
bounds_end bound rest whole none h = omega (arith, none, h)
