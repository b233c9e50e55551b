-- The arcs from each vertex, one more at a time.
use Rattle.std.proofs.Common.{◌≡◌, ◌≢◌, ℕ, ◌+◌, ◌≤◌, ◌<◌, refl, sym, ap, subst, ◌∙◌, arith, List, inl, inr, length, take, get_or, Option, Some, None, IfSome, slice_get}
use Rattle.std.proofs.lemmas.Bool.{cases_lt}
use Rattle.std.proofs.lemmas.List.{get_or-set_same, get_or-set_other, length-take-le, get_or-take}
use Rattle.std.proofs.lemmas.Option.{slice_get_within}
use Rattle.std.proofs.Math.ListN.{set, length-set}
use Rattle.lq_prover_differences.specs.declared.arc.Arc.{Arc}
use Rattle.lq_prover_differences.specs.declared.vertex.Vertex.{Vertex}
use Rattle.lq_prover_differences.specs.Passes.{blank, vertex_at}
use Rattle.lq_prover_differences.specs.Links.{kept, IsLatest, AreLinked, HasLinks}
use Rattle.lq_prover_differences.proofs.Passing.{each, there, same_or}
use Rattle.lq_prover_differences.proofs.Solving.{taken}

taken_one : {A : Type 0} (n : ℕ) (xs : List A) (k : ℕ) (P : A → Type 0) → IfSome (slice_get xs k) P → IfSome (slice_get (take n xs) k) P
taken_one {A} n xs k P h = by (slice_get (take n xs) k) refl
  where
    by : (o : Option A) → slice_get (take n xs) k ≡ o → IfSome o P
    by None e = tt
    by (Some a) e = there xs P k a (taken n xs k a e) h

pub latest_taken : (arcs : List Arc) (m v upto n : ℕ) → IsLatest arcs v upto n → IsLatest (take m arcs) v upto n
latest_taken arcs m v upto n h = record {
  within = h.within;
  here = λ j e. taken_one m arcs j (λ (a : Arc). a.from ≡ v) (h.here j e);
  none = λ j l u. taken_one m arcs j (λ (a : Arc). a.from ≢ v) (h.none j l u);
}

pub linked_taken : (arcs : List Arc) (links : List ℕ) (s : ℕ → Vertex) (m : ℕ) → m ≤ length arcs → HasLinks arcs links s m → AreLinked (take m arcs) (take m links)
linked_taken arcs links s m l h = record {
  same = length-take-le m links (let e = h.same in omega arith) ∙ sym (length-take-le m arcs l);
  before = each (take m arcs) (λ j a. IsLatest (take m arcs) a.from j (get_or (take m links) j 0)) (λ j a e.
      let w : j < m = (let x = slice_get_within (take m arcs) j a e in let y = length-take-le m arcs l in omega arith) in
      subst (λ n. IsLatest (take m arcs) a.from j n) (sym (get_or-take m links j 0 w))
      (latest_taken arcs m a.from j (get_or links j 0) (there arcs (λ (b : Arc). IsLatest arcs b.from j (get_or links j 0)) j a (taken m arcs j a e) (h.before j w))));
}

pub latest_whole : (arcs : List Arc) (m v n : ℕ) → m ≤ length arcs → IsLatest arcs v m n → IsLatest (take m arcs) v (length (take m arcs)) n
latest_whole arcs m v n l h = subst (λ u. IsLatest (take m arcs) v u n) (sym (length-take-le m arcs l)) (latest_taken arcs m v m n h)

pub links_kept : (arcs : List Arc) (links : List ℕ) (s t : ℕ → Vertex) (k : ℕ) → HasLinks arcs links s k → ((v : ℕ) → (kept t v).last ≡ (kept s v).last) → HasLinks arcs links t k
links_kept arcs links s t k h e = record {
  same = h.same;
  before = h.before;
  last = λ v. subst (λ n. IsLatest arcs v k n) (sym (e v)) (h.last v);
}

pub link_step : (arcs : List Arc) (links : List ℕ) (vertices : List Vertex) (k n : ℕ) (a : Arc) (new : Vertex) → HasLinks arcs links (vertex_at vertices) k → slice_get arcs k ≡ Some a
    → a.from < length vertices → new.kept.last ≡ k + 1 → n ≡ (get_or vertices a.from blank).kept.last → HasLinks arcs (set links k n) (vertex_at (set vertices a.from new)) (k + 1)
link_step arcs links vertices k n a new h at inside ends is = record {
  same = length-set {A = ℕ} links k n ∙ h.same;
  before = before;
  last = λ v. same_or v a.from
      (λ e. subst (λ m. IsLatest arcs v (k + 1) m) (sym (ap (λ w. (vertex_at (set vertices a.from new) w).kept.last) e ∙ ap (λ (y : Vertex). y.kept.last) (get_or-set_same vertices a.from new blank inside) ∙ ends)) (here v e))
      (λ d. subst (λ m. IsLatest arcs v (k + 1) m) (sym (ap (λ (y : Vertex). y.kept.last) (get_or-set_other vertices a.from v new blank d))) (other v d));
}
  where
    within : k < length arcs
    within = slice_get_within arcs k a at

    before : (j : ℕ) → j < k + 1 → IfSome (slice_get arcs j) (λ b. IsLatest arcs b.from j (get_or (set links k n) j 0))
    before j l = elim (cases_lt j k) [
      | inl m ↦ subst (λ x. IfSome (slice_get arcs j) (λ b. IsLatest arcs b.from j x)) (sym (get_or-set_other links k j n 0 (λ e. omega arith))) (h.before j m)
      | inr m ↦ let e : k ≡ j = omega arith in
          subst (λ i. IfSome (slice_get arcs i) (λ b. IsLatest arcs b.from i (get_or (set links k n) i 0))) e
          (subst (λ x. IfSome (slice_get arcs k) (λ b. IsLatest arcs b.from k x)) (sym (get_or-set_same links k n 0 (let s = h.same in let w = within in omega arith) ∙ is))
          (subst (λ o. IfSome o (λ b. IsLatest arcs b.from k (kept (vertex_at vertices) a.from).last)) (sym at) (h.last a.from)))
    ]

    here : (v : ℕ) → v ≡ a.from → IsLatest arcs v (k + 1) (k + 1)
    here v e = record {
      within = omega arith;
      here = λ j q. let i : k ≡ j = omega arith in subst (λ i. IfSome (slice_get arcs i) (λ b. b.from ≡ v)) i (subst (λ o. IfSome o (λ (b : Arc). b.from ≡ v)) (sym at) (sym e));
      none = λ j l m. absurd (omega arith);
    }

    other : (v : ℕ) → v ≢ a.from → IsLatest arcs v (k + 1) (kept (vertex_at vertices) v).last
    other v d = let o = h.last v in record {
      within = let w = o.within in omega arith;
      here = o.here;
      none = λ j l m. elim (cases_lt j k) [
        | inl q ↦ o.none j l q
        | inr q ↦ let i : k ≡ j = omega arith in subst (λ i. IfSome (slice_get arcs i) (λ b. b.from ≢ v)) i (subst (λ o. IfSome o (λ (b : Arc). b.from ≢ v)) (sym at) (λ f. d (sym f)))
      ];
    }
