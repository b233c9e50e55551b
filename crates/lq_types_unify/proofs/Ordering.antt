-- The order of the classes that are done.
use Rattle.std.proofs.Common.{◌≡◌, ◌≢◌, inl, inr, ℕ, ◌<◌, ◌≤◌, List, [], ◌∷◌, ◌++◌, Option, All, length, get_or, set, refl, sym, ap, subst, ◌∙◌, arith}
use Rattle.std.proofs.lemmas.Bool.{cases_eq, cases_lt}
use Rattle.std.proofs.lemmas.List.{get_or_append_left, get_or_push, length_push, get_or_default}
use Rattle.lq_types_unify.specs.declared.order.Mark.{Mark}
use Rattle.lq_types_unify.specs.declared.order.Mark.TheVariants.{Fresh, Active, Done}
use Rattle.lq_types_unify.specs.Nodes.{Form}
use Rattle.lq_types_unify.specs.Classes.{up, root}
use Rattle.lq_types_unify.specs.Value.{inner}
use Rattle.lq_types_unify.specs.Visits.{IsTable, mark_at, AreDone, AreCalm}
use Rattle.lq_types_unify.specs.Order.{IsAmong, IsOrder, IsPut, AreOrdered}
use Rattle.lq_types_unify.proofs.Roots.{root_low, root_fixed}
use Rattle.lq_types_unify.proofs.Walking.{mark_same, mark_other, is_done_now}

-- what is among the first stays so
among_push : (order : List ℕ) (c k r : ℕ) → k ≤ length order → IsAmong order k r → IsAmong (order ++ c ∷ []) k r
among_push order c k r h (j, l, e) = (j, l, get_or_append_left order (c ∷ []) 0 j (omega arith) ∙ e)

among_more : (order : List ℕ) (k m r : ℕ) → k ≤ m → IsAmong order k r → IsAmong order m r
among_more order k m r h (j, l, e) = (j, omega arith, e)

-- a fact of each place and what stands there, with one place more
each_push : (P : ℕ → ℕ → Type 0) (order : List ℕ) (c : ℕ) → ((k : ℕ) → k < length order → P k (get_or order k 0)) → P (length order) c
    → (k : ℕ) → k < length (order ++ c ∷ []) → P k (get_or (order ++ c ∷ []) k 0)
each_push P order c each here k h = elim (cases_lt k (length order)) [
  | inl l ↦ subst (P k) (sym (get_or_append_left order (c ∷ []) 0 k l)) (each k l)
  | inr l ↦
      let e : k ≡ length order = omega (arith, length_push order c) in
      subst (P k) (sym (get_or_push order c 0 k (sym e))) (subst (λ (j : ℕ). P j c) (sym e) here)
]

pub order_push : (forms : ℕ → Option Form) (n : ℕ) (ps shapes order : List ℕ) (c : ℕ) → c < n → up ps c ≡ c → All (λ p. IsAmong order (length order) (root ps p)) (inner forms shapes c)
    → IsOrder forms n ps shapes order → IsOrder forms n ps shapes (order ++ c ∷ [])
order_push forms n ps shapes order c h r parts o = record {
  inside = each_push (λ k x. x < n) order c o.inside h;
  roots = each_push (λ k x. up ps x ≡ x) order c o.roots r;
  parts_first = each_push (λ k x. All (λ p. IsAmong (order ++ c ∷ []) k (root ps p)) (inner forms shapes x)) order c
      (λ k l j d m. among_push order c k (root ps (get_or (inner forms shapes (get_or order k 0)) j d)) (omega arith) (o.parts_first k l j d m))
      (λ j d m. among_push order c (length order) (root ps (get_or (inner forms shapes c) j d)) (omega arith) (parts j d m));
}

pub put_done : (forms : ℕ → Option Form) (n : ℕ) (ps shapes : List ℕ) (marks : List Mark) (order : List ℕ) (c : ℕ) → c < n → up ps c ≡ c
    → AreDone ps marks (inner forms shapes c) (length (inner forms shapes c)) → IsPut forms n ps shapes marks order → IsPut forms n ps shapes (set marks c Done) (order ++ c ∷ [])
put_done forms n ps shapes marks order c h r row p = record {
  listed = order_push forms n ps shapes order c h r
      (λ j d m. p.done (root ps (get_or (inner forms shapes c) j d)) (subst (λ x. mark_at marks (root ps x) ≡ Done) (get_or_default (inner forms shapes c) j 0 d m) (row j m m))) p.listed;
  done = λ q e. elim (cases_eq q c) [
    | inl f ↦ (length order, omega (arith, length_push order c), get_or_push order c 0 (length order) refl ∙ sym f)
    | inr f ↦ among_more (order ++ c ∷ []) (length order) (length (order ++ c ∷ [])) q (omega (arith, length_push order c))
        (among_push order c (length order) q (omega arith) (p.done q (sym (mark_other marks c q Done f) ∙ e)))
  ];
}

done_fresh : Done ≢ Fresh
done_fresh e = cc

pub put_start : (forms : ℕ → Option Form) (n : ℕ) (ps shapes : List ℕ) (marks : List Mark) (order : List ℕ) → order ≡ [] → ((r : ℕ) → mark_at marks r ≡ Fresh) → IsPut forms n ps shapes marks order
put_start forms n ps shapes marks order e fresh = subst (IsPut forms n ps shapes marks) (sym e) (record {
  listed = record { inside = λ k h. absurd (omega arith); roots = λ k h. absurd (omega arith); parts_first = λ k h. absurd (omega arith) };
  done = λ r f. absurd (done_fresh (sym f ∙ fresh r));
})

-- at the end all roots are there
pub all_ordered : (forms : ℕ → Option Form) (n : ℕ) (ps shapes : List ℕ) (marks : List Mark) (order : List ℕ) → IsTable forms n ps shapes → IsPut forms n ps shapes marks order → AreCalm marks
    → ((r : ℕ) → r < n → up ps r ≡ r → mark_at marks r ≢ Fresh) → AreOrdered forms n ps shapes order
all_ordered forms n ps shapes marks order t p calm seen = record {
  table = t;
  listed = p.listed;
  all = λ i h.
      let low : root ps i ≤ i = root_low ps t.down i in
      p.done (root ps i) (is_done_now (mark_at marks (root ps i)) (seen (root ps i) (omega arith) (root_fixed ps t.down i)) (calm (root ps i)));
}
