-- Numbers past unknowns.
use Rattle.std.proofs.Common.{◌≡◌, ◌⊎◌, inl, inr, ℕ, zero, suc, ◌+◌, ◌<◌, ◌≤◌, List, [], ◌∷◌, ◌++◌, Some, Result, Ok, Err, IfOk, length, map, take, get_or, slice_get, refl, sym, ap, subst, ◌∙◌, arith}
use Rattle.std.proofs.lemmas.List.{map_more, take_all}
use Rattle.std.proofs.lemmas.Option.{slice_get_within}
use Rattle.lq_refined_substitution.specs.Implications.Views.{environment_in, implication_view}
use Rattle.lq_refined_substitution.specs.declared.implications.implication.Implication.{Implication}
use Rattle.lq_refined_types.specs.Parts.Constraint.{Constraint}
use Rattle.lq_refined_types.specs.Parts.Part.{Part, Parts}
use Rattle.lq_refined_types.specs.Parts.Refuting.{IsUnknown, Speak, SpeaksOf}
use Rattle.lq_solve_fixpoint.specs.Questions.Covering.{AreBelow}
use Rattle.lq_refined_substitution.specs.Substitution.Views.{part_view, parts_view}
use Rattle.lq_refined_substitution.specs.declared.substitution.parts.Part as code
use Rattle.lq_refined_types.specs.Subtyping.Implication.{constraint_of}
use Rattle.lq_solve_strongest.proofs.WeakenLemmas.Those.{last_or}
use Rattle.lq_solve_strongest.specs.Weaken.Unknowns.{IsPast, IsPastEnvironments, IsPastImplications}

speak_split : (u : ℕ) (xs ys : Parts) → Speak u (xs ++ ys) → Speak u xs ⊎ Speak u ys
speak_split u [] ys s = inr s
speak_split u (x ∷ xs) ys (inl e) = inl (inl e)
speak_split u (x ∷ xs) ys (inr s) = elim (speak_split u xs ys s) [ inl a ↦ inl (inr a) | inr b ↦ inr b ]

-- one part more
past_next : (u : ℕ) (xs : Parts) (q : Part) → Speak u (xs ++ q ∷ []) → Speak u xs ⊎ IsUnknown u q
past_next u xs q s = elim (speak_split u xs (q ∷ []) s) [ inl a ↦ inl a | inr b ↦ last b ]
  where
    last : Speak u (q ∷ []) → Speak u xs ⊎ IsUnknown u q
    last (inl e) = inr e
    last (inr e) = absurd e

parts_next : (count n m : ℕ) (xs : Parts) (q : Part) → IsPast count (λ u. Speak u xs) n → IsPast n (λ u. IsUnknown u q) m → IsPast count (λ u. Speak u (xs ++ q ∷ [])) m
parts_next count n m xs q h k = record {
  kept = let a = h.kept in let b = k.kept in omega (arith, a, b);
  past = λ u s. elim (past_next u xs q s) [ inl a ↦ (let w = h.past u a in let b = k.kept in omega (arith, w, b)) | inr e ↦ k.past u e ];
}

-- one part more of the code
pub parts_step : (ps : List code.Part) (i : ℕ) (q : code.Part) (count n m : ℕ) → i < length ps → q ≡ get_or ps i q → IsPast count (λ u. Speak u (map part_view (take i ps))) n
    → IsPast n (λ u. IsUnknown u (part_view q)) m → IsPast count (λ u. Speak u (map part_view (take (i + 1) ps))) m
parts_step ps i q count n m w e h k =
    subst (λ xs. IsPast count (λ u. Speak u xs) m) (sym (map_more part_view ps i q w ∙ ap (λ x. map part_view (take i ps) ++ part_view x ∷ []) (sym e)))
    (parts_next count n m (map part_view (take i ps)) (part_view q) h k)

pub parts_whole : (ps : List code.Part) (i count n : ℕ) → length ps ≤ i → IsPast count (λ u. Speak u (map part_view (take i ps))) n → IsPast count (λ u. Speak u (map part_view ps)) n
parts_whole ps i count n w h = subst (λ xs. IsPast count (λ u. Speak u (map part_view xs)) n) (take_all i ps w) h

pub past_both : {E : Type 0} (r : Result ℕ E) (count n : ℕ) (P Q : ℕ → Type 0) → IsPast count P n → IfOk r (IsPast n Q) → IfOk r (IsPast count (λ u. P u ⊎ Q u))
past_both (Ok m) count n P Q h k = record {
  kept = let a = h.kept in let b = k.kept in omega (arith, a, b);
  past = λ u s. elim s [ inl p ↦ (let w = h.past u p in let b = k.kept in omega (arith, w, b)) | inr q ↦ k.past u q ];
}
past_both (Err e) count n P Q h k = tt

-- ---- environments

speak_there : (es : List Parts) (e u : ℕ) → Speak u (environment_in es e) → e < length es
speak_there [] zero u s = absurd s
speak_there [] (suc e) u s = absurd s
speak_there (x ∷ es) zero u s = omega arith
speak_there (x ∷ es) (suc e) u s = let w = speak_there es e u s in omega (arith, w)

environment_next : (es : List Parts) (env n m : ℕ) → n ≤ m → ((u : ℕ) → Speak u (environment_in es env) → u < m) → IsPastEnvironments es env n → IsPastEnvironments es (env + 1) m
environment_next es env n m l here h e u w s = by (last_or env e w)
  where
    by : (e < env) ⊎ (env ≡ e) → u < m
    by (inl v) = let b = h e u v s in omega (arith, b, l)
    by (inr q) = here u (subst (λ i. Speak u (environment_in es i)) (sym q) s)

pub environment_none : (es : List Parts) (env n : ℕ) → environment_in es env ≡ [] → IsPastEnvironments es env n → IsPastEnvironments es (env + 1) n
environment_none es env n e = environment_next es env n n (omega arith) (λ u s. let t : Speak u [] = subst (Speak u) e s in absurd t)

environment_more : (es : List Parts) (env parent n m : ℕ) (q : Part) → parent < env → environment_in es env ≡ environment_in es parent ++ q ∷ []
    → IsPast n (λ u. IsUnknown u q) m → IsPastEnvironments es env n → IsPastEnvironments es (env + 1) m
environment_more es env parent n m q w e k h = environment_next es env n m k.kept here h
  where
    here : (u : ℕ) → Speak u (environment_in es env) → u < m
    here u s = elim (past_next u (environment_in es parent) q (subst (Speak u) e s)) [ inl a ↦ (let b = h parent u w a in let l = k.kept in omega (arith, b, l)) | inr i ↦ k.past u i ]

pub environment_some : {E : Type 0} (r : Result ℕ E) (es : List Parts) (env parent n : ℕ) (q : Part) → parent < env → environment_in es env ≡ environment_in es parent ++ q ∷ []
    → IfOk r (IsPast n (λ u. IsUnknown u q)) → IfOk r (λ m. IsPastEnvironments es env n → IsPastEnvironments es (env + 1) m)
environment_some (Ok m) es env parent n q w e k = environment_more es env parent n m q w e k
environment_some (Err x) es env parent n q w e k = tt

pub environments_all : (es : List Parts) (env n : ℕ) → length es ≤ env → IsPastEnvironments es env n → IsPastEnvironments es (length es) n
environments_all es env n l h e u w s = h e u (omega (arith, w, l)) s

-- ---- implications

once : {X : Type 0} (x y : X) → Some x ≡ Some y → x ≡ y
once x y e = cc

abbrev Itself : Implication → ℕ → Type 0
Itself i u = Speak u (parts_view i.left) ⊎ IsUnknown u (part_view i.goal)

pub implications_next : (is : List Implication) (at n m : ℕ) (i : Implication) → Some i ≡ slice_get is at → IsPast n (Itself i) m → IsPastImplications is at n → IsPastImplications is (at + 1) m
implications_next is at n m i e k h j u w s = by (last_or at j w)
  where
    by : (j < at) ⊎ (at ≡ j) → u < m
    by (inl v) = let b = h j u v s in let l = k.kept in omega (arith, b, l)
    by (inr q) = k.past u (subst (λ x. Itself x u) (once s.implication i (sym s.here ∙ ap (slice_get is) (sym q) ∙ sym e)) s.speaks)

pub environments_kept : (es : List Parts) (count n m : ℕ) → n ≤ m → IsPastEnvironments es count n → IsPastEnvironments es count m
environments_kept es count n m l h e u w s = let b = h e u w s in omega (arith, b, l)

record IsMadeOf (es : List Parts) (is : List Implication) (at : ℕ) (k : Constraint) : Type 0 where
  item : Implication
  here : slice_get is at ≡ Some item
  is_it : constraint_of (implication_view es item) ≡ k

made_of : (es : List Parts) (is : List Implication) (at : ℕ) (k : Constraint) → slice_get (map constraint_of (map (implication_view es) is)) at ≡ Some k → IsMadeOf es is at k
made_of es [] at k e = absurd (cc)
made_of es (i ∷ is) zero k e = record { item = i; here = refl; is_it = once (constraint_of (implication_view es i)) k e }
made_of es (i ∷ is) (suc at) k e = let r = made_of es is at k e in record { item = r.item; here = r.here; is_it = r.is_it }

pub goal_of : (es : List Parts) (is : List Implication) (at : ℕ) (i : Implication) (k : Constraint) → Some i ≡ slice_get is at
    → slice_get (map constraint_of (map (implication_view es) is)) at ≡ Some k → k.goal ≡ part_view i.goal
goal_of es is at i k e f =
    let m : IsMadeOf es is at k = made_of es is at k f in
    sym (ap (λ (x : Constraint). x.goal) m.is_it) ∙ ap (λ (x : Implication). part_view x.goal) (once m.item i (sym m.here ∙ sym e))

pub all_below : (es : List Parts) (is : List Implication) (at n : ℕ) → length is ≤ at → IsPastEnvironments es (length es) n → IsPastImplications is at n
    → AreBelow n (map constraint_of (map (implication_view es) is))
all_below es is at n l h k u j c e s = by (subst (SpeaksOf u) (sym m.is_it) s)
  where
    m : IsMadeOf es is j c
    m = made_of es is j c e

    itself : Itself m.item u → u < n
    itself t = let w = slice_get_within is j m.item m.here in k j u (omega (arith, w, l)) (record { implication = m.item; here = m.here; speaks = t })

    by : SpeaksOf u (constraint_of (implication_view es m.item)) → u < n
    by (inl t) = elim (speak_split u (environment_in es m.item.env) (parts_view m.item.left) t) [ inl a ↦ h m.item.env u (speak_there es m.item.env u a) a | inr b ↦ itself (inl b) ]
    by (inr g) = itself (inr g)
