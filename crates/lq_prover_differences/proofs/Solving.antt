-- One more arc is admitted.
use Rattle.std.proofs.Common.{◌≡◌, ℕ, suc, zero, ◌+◌, ◌≤◌, refl, sym, ap, subst, arith, List, [], ◌∷◌, ◌++◌, Bool, false, Option, Some, None, IfSome, slice_get, take, drop, get_or}
use Rattle.std.proofs.Math.IntN.{ℤ, pos}
use Rattle.std.specs.Int.Signed.{◌≤ℤ◌}
use Rattle.std.proofs.lemmas.Int.{ints}
use Rattle.std.proofs.lemmas.List.{take-append-drop}
use Rattle.std.proofs.lemmas.Option.{slice_get_within, slice_get-get_or}
use Rattle.lq_prover_differences.specs.declared.arc.Arc.{Arc}
use Rattle.lq_prover_differences.specs.declared.vertex.Vertex.{Vertex}
use Rattle.lq_prover_differences.specs.Arcs.{Potentials, ArcHolds, Meets, IsGreatest, falls}
use Rattle.lq_prover_differences.specs.Range.{in_range}
use Rattle.lq_prover_differences.specs.Passes.{IsStuck, IsClosing, IsNext, IsNarrow}
use Rattle.lq_prover_differences.specs.Solving.{IsBounded, IsSolved}
use Rattle.lq_prover_differences.proofs.Passing.{each, there, at_front}

pub taken : {A : Type 0} (n : ℕ) (xs : List A) (k : ℕ) (a : A) → slice_get (take n xs) k ≡ Some a → slice_get xs k ≡ Some a
taken n [] k a e = by n e
  where
    by : (n : ℕ) → slice_get (take n []) k ≡ Some a → slice_get [] k ≡ Some a
    by zero e = e
    by (suc n) e = e
taken zero (x ∷ xs) k a e = absurd (cc)
taken (suc n) (x ∷ xs) zero a e = e
taken (suc n) (x ∷ xs) (suc k) a e = taken n xs k a e

pub taken_all : {A : Type 0} (n : ℕ) (xs : List A) (P : A → Type 0) → ((k : ℕ) → IfSome (slice_get xs k) P) → (k : ℕ) → IfSome (slice_get (take n xs) k) P
taken_all n xs P h = each (take n xs) (λ k a. P a) (λ k a e. there xs P k a (taken n xs k a e) (h k))

pub falls-append : (xs ys : List Arc) → falls (xs ++ ys) ≡ falls xs + falls ys
falls-append [] ys = omega arith
falls-append (x ∷ xs) ys = omega (arith, falls-append xs ys)

pub falls_taken : (n : ℕ) (xs : List Arc) → falls (take n xs) ≤ falls xs
falls_taken n xs = omega (arith, falls-append (take n xs) (drop n xs), ap falls (take-append-drop n xs))

pub narrow : (placed : ℕ → Bool) (arcs front : List Arc) (last : Arc) (k n : ℕ) (p : Potentials) → take k arcs ≡ front ++ last ∷ [] → IsGreatest placed front p → IsBounded n arcs
    → IsNarrow (falls front) n front last p
narrow placed arcs front last k n p e g b = record {
  meets = g.meets;
  range = in_range placed front p g;
  costs = subst (λ l. (j : ℕ) → IfSome (slice_get l j) (λ a. a.cost ≤ℤ pos n)) e (taken_all k arcs (λ a. a.cost ≤ℤ pos n) b.costs);
  room = omega (arith, b.fall, falls_taken k arcs, ap falls e, falls-append front (last ∷ []));
}

pub stuck_more : (arcs : List Arc) (k top closing : ℕ) (s : ℕ → Vertex) (order : ℕ → ℕ) → IsStuck (take k arcs) top closing s order → IsStuck arcs top closing s order
stuck_more arcs k top closing s order stuck = record {
  caused = λ t f. let c = stuck.caused t f in record { arc = c.arc; found = taken k arcs _ c.arc c.found; to = c.to; tight = c.tight; source = c.source };
  lowered = stuck.lowered;
  top_out = stuck.top_out;
  closes = by (slice_get (take k arcs) closing) refl stuck.closes;
  is_arc = slice_get_within arcs closing last (taken k arcs closing last at_last);
}
  where
    nothing : Arc
    nothing = record { tag = 0; from = 0; to = 0; cost = pos 0; forward = false }

    last : Arc
    last = get_or (take k arcs) closing nothing

    at_last : slice_get (take k arcs) closing ≡ Some last
    at_last = slice_get-get_or (take k arcs) closing nothing stuck.is_arc

    by : (o : Option Arc) → slice_get (take k arcs) closing ≡ o → IfSome o (IsClosing top s order) → IfSome (slice_get arcs closing) (IsClosing top s order)
    by None e h = absurd (let z = at_last in cc)
    by (Some a) e h = subst (λ o. IfSome o (IsClosing top s order)) (sym (taken k arcs closing a e)) h

front_meets : (front : List Arc) (last : Arc) (q : Potentials) → Meets q (front ++ last ∷ []) → Meets q front
front_meets front last q h = each front (λ k a. ArcHolds q a) (λ k a e. there (front ++ last ∷ []) (ArcHolds q) k a (at_front front last k a e) (h k))

pub solved_more : (arcs front : List Arc) (last : Arc) (p next : Potentials) → arcs ≡ front ++ last ∷ [] → IsSolved front p → IsNext arcs p next → IsSolved arcs next
solved_more arcs front last p next e s n = record {
  placed = s.placed;
  greatest = record {
    meets = n.meets;
    low = λ v f. lower _ _ (n.fell v) (s.greatest.low v f);
    greatest = λ q m l. n.most q m (s.greatest.greatest q (less q m) l);
    fixed = λ q r m o l. s.greatest.fixed q r (less q m) (less r o) l;
  };
}
  where
    lower : (x y : ℤ) → x ≤ℤ y → y ≤ℤ pos 0 → x ≤ℤ pos 0
    lower x y h k = omega (arith, ints)

    less : (q : Potentials) → Meets q arcs → Meets q front
    less q m = front_meets front last q (subst (λ l. Meets q l) e m)

pub solved_none : (p : Potentials) → ((v : ℕ) → p v ≡ pos 0) → IsSolved [] p
solved_none p h = record {
  placed = λ v. false;
  greatest = record {
    meets = λ k. tt;
    low = λ v f. zero_low (p v) (h v);
    greatest = λ q m l v. subst (λ x. q v ≤ℤ x) (sym (h v)) (l v refl);
    fixed = λ q r m o l v. l v refl;
  };
}
  where
    zero_low : (x : ℤ) → x ≡ pos 0 → x ≤ℤ pos 0
    zero_low x e = omega (arith, ints)
