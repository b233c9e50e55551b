-- What was written over, and edges as they were.
use Rattle.std.proofs.Common.{◌≡◌, ◌≢◌, inl, inr, ℕ, suc, ◌<◌, ◌≤◌, true, false, cond, eqb, leb, List, [], ◌∷◌, ◌++◌, length, Option, Some, ◌-◌, None, get_or, set, refl, sym, ap, ◌∙◌, subst, arith, eq-eqb, get_or-set_other, get_or-set_same}
use Rattle.std.specs.List.{slice_get}
use Rattle.std.proofs.lemmas.Bool.{cases_eq}
use Rattle.std.proofs.lemmas.List.{length-set}
use Rattle.std.proofs.lemmas.Bool.Decides.{nat_tests}
use Rattle.lq_prover_congruence.specs.Classes.Forest.{edges_of, undone, AllLater, IsLog, Follows, Stays, Writes}
use Rattle.lq_prover_congruence.specs.declared.classes.forest.Edge.{Edge}
use Rattle.lq_prover_congruence.specs.declared.classes.forest.Forest.{Forest}
use Rattle.lq_prover_congruence.specs.declared.classes.forest.Written.{Written}
use Rattle.lq_prover_congruence.proofs.ClassesLemmas.Lasts.{ends-with}
use Rattle.lq_prover_congruence.proofs.ClassesLemmas.Trees.{Edges}

late : (k s : ℕ) → k ≤ s → leb k s ≡ true
late k s h = grind (arith, nat_tests)

early : (k s : ℕ) → s < k → leb k s ≡ false
early k s h = grind (arith, nat_tests)

other : (i j : ℕ) → (i ≡ j → ⊥) → eqb i j ≡ false
other i j h = grind (arith, nat_tests)

pub undone-same : (k : ℕ) (ws : List Written) (f g : Edges) → ((i : ℕ) → g i ≡ f i) → (i : ℕ) → undone k ws g i ≡ undone k ws f i
undone-same k [] f g h i = h i
undone-same k (w ∷ ws) f g h i = ap (λ z. cond (leb k w.step) (cond (eqb i w.term) w.was z) z) (undone-same k ws f g h i)

-- the last write is undone first
abbrev before : ℕ → Written → Edges → Edges
before k w f i = cond (leb k w.step) (cond (eqb i w.term) w.was (f i)) (f i)

undone-last : (k : ℕ) (ws : List Written) (w : Written) (f : Edges) (i : ℕ) → undone k (ws ++ w ∷ []) f i ≡ undone k ws (before k w f) i
undone-last k [] w f i = refl
undone-last k (v ∷ ws) w f i = ap (λ z. cond (leb k v.step) (cond (eqb i v.term) v.was z) z) (undone-last k ws w f i)

pub undone-none : (k n m : ℕ) (ws : List Written) (f : Edges) → IsLog n m ws → n ≤ k → (i : ℕ) → undone k ws f i ≡ f i
undone-none k n m [] f h l i = refl
undone-none k n m (w ∷ ws) f h l i =
    ap (λ b. cond b (cond (eqb i w.term) w.was (undone k ws f i)) (undone k ws f i)) (early k w.step (omega (arith, h.0))) ∙ undone-none k n m ws f h.3 l i

-- what a write undone gives
undone-write : (k : ℕ) (ws : List Written) (w : Written) (f g : Edges) → k ≤ w.step → f w.term ≡ w.was → ((i : ℕ) → i ≢ w.term → g i ≡ f i) → (i : ℕ) → undone k (ws ++ w ∷ []) g i ≡ undone k ws f i
undone-write k ws w f g l was others i = undone-last k ws w g i ∙ undone-same k ws f (before k w g) each i
  where
    each : (j : ℕ) → before k w g j ≡ f j
    each j =
        ap (λ b. cond b (cond (eqb j w.term) w.was (g j)) (g j)) (late k w.step l)
        ∙ elim (cases_eq j w.term) [
          | inl e ↦ ap (λ b. cond b w.was (g j)) (eq-eqb j w.term e) ∙ sym was ∙ ap f (sym e)
          | inr d ↦ ap (λ b. cond b w.was (g j)) (other j w.term d) ∙ others j d
        ]

later-last : (n : ℕ) (ws : List Written) (w : Written) → AllLater n ws → n ≤ w.step → AllLater n (ws ++ w ∷ [])
later-last n [] w h l = (l, tt)
later-last n (v ∷ ws) w h l = (h.0, later-last n ws w h.1 l)

pub log-room : (n o m p : ℕ) (ws : List Written) → n ≤ o → m ≤ p → IsLog n m ws → IsLog o p ws
log-room n o m p [] k l h = tt
log-room n o m p (w ∷ ws) k l h = (omega (arith, h.0), omega (arith, h.1), h.2, log-room n o m p ws k l h.3)

log-last : (s m p : ℕ) (ws : List Written) (w : Written) → IsLog (suc s) m ws → w.step ≡ s → w.term < p → m ≤ p → IsLog (suc s) p (ws ++ w ∷ [])
log-last s m p [] w h e l k = (omega arith, l, tt, tt)
log-last s m p (v ∷ ws) w h e l k = (h.0, omega (arith, h.1), later-last v.step ws w h.2 (omega (arith, h.0)), log-last s m p ws w h.3 e l k)

log-front : (n m : ℕ) (ws : List Written) (w : Written) → IsLog n m (ws ++ w ∷ []) → IsLog n m ws × (w.term < m)
log-front n m [] w h = (tt, h.1)
log-front n m (v ∷ ws) w h = let r = log-front n m ws w h.3 in ((h.0, h.1, later-front v.step ws w h.2, r.0), r.1)
  where
    later-front : (n : ℕ) (ws : List Written) (w : Written) → AllLater n (ws ++ w ∷ []) → AllLater n ws
    later-front n [] w h = tt
    later-front n (v ∷ ws) w h = (h.0, later-front n ws w h.1)

-- where the last one is early, all are
pub log-early : (k n m : ℕ) (ws : List Written) (w : Written) → IsLog n m (ws ++ w ∷ []) → w.step < k → IsLog k m (ws ++ w ∷ [])
log-early k n m [] w h l = (l, h.1, tt, tt)
log-early k n m (v ∷ ws) w h l = (omega (arith, least v.step ws w h.2), h.1, h.2, log-early k n m ws w h.3 l)
  where
    least : (n : ℕ) (ws : List Written) (w : Written) → AllLater n (ws ++ w ∷ []) → n ≤ w.step
    least n [] w h = h.0
    least n (v ∷ ws) w h = least n ws w h.1

-- ---- of a forest

pub follows-on : (n : ℕ) (s t u : Forest) → Follows n s t → Follows n t u → Follows n s u
follows-on n s t u h k = λ j i l. k j i l ∙ h j i l

pub follows-writes : (n : ℕ) (s t : Forest) (term : ℕ) (e : Edge) → Writes s t n term e → Follows n s t
follows-writes n s t term e h = λ k i l.
    let w : Written = record { step = n; term = term; was = edges_of s.toward.items term } in
    ap (λ ws. undone k ws (edges_of t.toward.items) i) h.log ∙ undone-write k s.log.items w (edges_of s.toward.items) (edges_of t.toward.items) l refl h.others i

pub log-stays : (n : ℕ) (s t : Forest) → Stays s t → IsLog n (length s.toward.items) s.log.items → IsLog n (length t.toward.items) t.log.items
log-stays n s t h l =
    let P : List Written → Type 0 = λ ws. IsLog n (length t.toward.items) ws in
    subst P (sym h.log) (log-room n n (length s.toward.items) (length t.toward.items) s.log.items (omega arith) h.room l)

pub log-writes : (n : ℕ) (s t : Forest) (term : ℕ) (e : Edge) → Writes s t n term e → IsLog (suc n) (length s.toward.items) s.log.items → IsLog (suc n) (length t.toward.items) t.log.items
log-writes n s t term e h l =
    let w : Written = record { step = n; term = term; was = edges_of s.toward.items term } in
    let P : List Written → Type 0 = λ ws. IsLog (suc n) (length t.toward.items) ws in
    subst P (sym h.log) (log-last n (length s.toward.items) (length t.toward.items) s.log.items w l refl h.within h.room)

-- ---- the last write taken back

-- where the last one is of an early step, all are
pub early-last : (k n m : ℕ) (ws : List Written) (w : Written) → slice_get ws (length ws - 1) ≡ Some w → w.step < k → IsLog n m ws → IsLog k m ws
early-last k n m ws w e l h =
    let v = ends-with ws w e in
    let Q : List Written → Type 0 = λ ys. IsLog n m ys in
    let R : List Written → Type 0 = λ ys. IsLog k m ys in
    subst R (sym v.1) (log-early k n m v.0 w (subst Q v.1 h) l)

pub last-within : (m n : ℕ) (xs ws : List Written) (w : Written) → IsLog n m xs → xs ≡ ws ++ w ∷ [] → w.term < m
last-within m n xs ws w h e = let P : List Written → Type 0 = λ l. IsLog n m l in (log-front n m ws w (subst P e h)).1

pub follows-unwrites : (k : ℕ) (ts : List (Option Edge)) (xs ws : List Written) (w : Written) → xs ≡ ws ++ w ∷ [] → w.term < length ts → k ≤ w.step → (j i : ℕ) → j ≤ k
    → undone j ws (edges_of (set ts w.term w.was)) i ≡ undone j xs (edges_of ts) i
follows-unwrites k ts xs ws w e l late j i m =
    sym (ap (λ ys. undone j ys (edges_of ts) i) e ∙ undone-write j ws w (edges_of (set ts w.term w.was)) (edges_of ts) (omega arith) here others i)
  where
    here : get_or (set ts w.term w.was) w.term None ≡ w.was
    here = rw get_or-set_same refl

    others : (x : ℕ) → x ≢ w.term → get_or ts x None ≡ get_or (set ts w.term w.was) x None
    others x d = (let ne : x ≡ w.term → ⊥ = d in sym (rw get_or-set_other refl))

pub log-unwrites : (n m p : ℕ) (xs ws : List Written) (w : Written) → xs ≡ ws ++ w ∷ [] → p ≡ m → IsLog n m xs → IsLog n p ws
log-unwrites n m p xs ws w e q l =
    let P : List Written → Type 0 = λ ys. IsLog n m ys in
    let Q : ℕ → Type 0 = λ r. IsLog n r ws in
    subst Q (sym q) (log-front n m ws w (subst P e l)).0

-- a forest whose last write is taken back
pub record Unwritten (s : Forest) (step : ℕ) (ts : List (Option Edge)) (ws : List Written) : Type 0 where
  pub past : (k i : ℕ) → k ≤ step → undone k ws (edges_of ts) i ≡ undone k s.log.items (edges_of s.toward.items) i
  pub log : (n : ℕ) × IsLog n (length ts) ws

pub unwritten : (t u : Forest) (w : Written) (step : ℕ) (s : Forest) → Follows step s t → (n : ℕ) → IsLog n (length t.toward.items) t.log.items → t.log.items ≡ u.log.items ++ w ∷ [] → step ≤ w.step → u.toward.items ≡ t.toward.items
    → Unwritten s step (set u.toward.items w.term w.was) u.log.items
unwritten t u w step s past n log e late same =
    let within = last-within (length t.toward.items) n t.log.items u.log.items w log e in
    let P : List (Option Edge) → Type 0 = λ ts. Unwritten s step (set ts w.term w.was) u.log.items in
    subst P (sym same) (record {
      past = λ k i l. follows-unwrites step t.toward.items t.log.items u.log.items w e within late k i l ∙ past k i l;
      log = (n, log-unwrites n (length t.toward.items) (length (set t.toward.items w.term w.was)) t.log.items u.log.items w e (length-set t.toward.items w.term w.was) log);
    })
