-- Lists whose names from a number on ascend, one by one.
use Rattle.std.proofs.Common.{◌≡◌, ◌⊎◌, inl, inr, ℕ, ◌+◌, ◌<◌, List, [], ◌∷◌, ◌++◌, refl, subst}
use Rattle.lq_text_tree.specs.Pattern.{Pattern, pattern, PatternForm, any, bind, nothing, tuple_of, build_of, Patterns, no_patterns, more_patterns, bound_in, bound_in_form, bound_in_all}
use Rattle.lq_meaning_normal_form.specs.Outcomes.Naming.{parameter, behind, named_part, named_form, named_parts, named_pattern}
use Rattle.lq_meaning_normal_form.specs.Types.Plain.{AreBelow}
use Rattle.lq_meaning_normal_form.specs.Types.Written.{Takes}

below-both : (m : ℕ) (xs ys : List ℕ) → AreBelow m (xs ++ ys) → AreBelow m xs × AreBelow m ys
below-both m [] ys h = (tt, h)
below-both m (x ∷ xs) ys h = let rest = below-both m xs ys h.1 in ((h.0, rest.0), rest.1)

module _ (base : ℕ) where
  -- each name is below the base or the next one, from the first number up to the other
  abbrev pub Ascends : ℕ → List ℕ → ℕ → Type 0
  Ascends k [] m = m ≡ k
  Ascends k (x ∷ xs) m = ((x < base) × Ascends k xs m) ⊎ ((x ≡ k) × Ascends (k + 1) xs m)

  pub both : (xs ys : List ℕ) (k j m : ℕ) → Ascends k xs j → Ascends j ys m → Ascends k (xs ++ ys) m
  both [] ys k j m h g = subst (λ i. Ascends i ys m) h g
  both (x ∷ xs) ys k j m (inl h) g = inl (h.0, both xs ys k j m h.1 g)
  both (x ∷ xs) ys k j m (inr h) g = inr (h.0, both xs ys (k + 1) j m h.1 g)

  pub low : (xs : List ℕ) (k : ℕ) → AreBelow base xs → Ascends k xs k
  low [] k h = refl
  low (x ∷ xs) k h = inl (h.0, low xs k h.1)

  pub next-one : (k : ℕ) → Ascends k (k ∷ []) (k + 1)
  next-one k = inr (refl, refl)

  -- ---- patterns

  mutual
    part-ascends : (q : Pattern) (k : ℕ) → AreBelow base (bound_in q) → Ascends k (bound_in (named_part k q).pattern) (named_part k q).next
    part-ascends (pattern p f) k h = form-ascends f k h

    form-ascends : (f : PatternForm) (k : ℕ) → AreBelow base (bound_in_form f) → Ascends k (bound_in_form (named_form k f).form) (named_form k f).next
    form-ascends any k h = next-one k
    form-ascends (bind x) k h = low (x ∷ []) k h
    form-ascends nothing k h = refl
    form-ascends (tuple_of qs) k h = parts-ascend qs k h
    form-ascends (build_of c o qs) k h = parts-ascend qs k h

    parts-ascend : (qs : Patterns) (k : ℕ) → AreBelow base (bound_in_all qs) → Ascends k (bound_in_all (named_parts k qs).parts) (named_parts k qs).next
    parts-ascend no_patterns k h = refl
    parts-ascend (more_patterns q qs) k h =
        let each = below-both base (bound_in q) (bound_in_all qs) h in let j = (named_part k q).next in
        both (bound_in (named_part k q).pattern) (bound_in_all (named_parts j qs).parts) k j (named_parts j qs).next (part-ascends q k each.0)
        (parts-ascend qs j each.1)

  pub pattern-ascends : (q : Pattern) (k : ℕ) → AreBelow base (bound_in q) → Ascends k (bound_in (named_pattern k q).pattern) (named_pattern k q).next
  pattern-ascends (pattern p any) k h = refl
  pattern-ascends (pattern p (bind x)) k h = form-ascends (bind x) k h
  pattern-ascends (pattern p nothing) k h = refl
  pattern-ascends (pattern p (tuple_of qs)) k h = form-ascends (tuple_of qs) k h
  pattern-ascends (pattern p (build_of c o qs)) k h = form-ascends (build_of c o qs) k h

  pub parameter-ascends : (q : Pattern) (k : ℕ) → Takes q → AreBelow base (bound_in q) → Ascends k (bound_in (parameter k q)) (behind k q)
  parameter-ascends (pattern p any) k takes h = next-one k
  parameter-ascends (pattern p (bind x)) k takes h = low (x ∷ []) k h
  parameter-ascends (pattern p nothing) k takes h = next-one k
  parameter-ascends (pattern p (tuple_of qs)) k takes h = absurd (cc)
  parameter-ascends (pattern p (build_of c o qs)) k takes h = absurd (cc)
