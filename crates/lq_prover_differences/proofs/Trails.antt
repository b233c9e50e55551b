-- The trail leads back to what was kept.
use Rattle.std.proofs.Common.{◌≡◌, ◌≢◌, ◌==◌, if◌then◌else◌, ℕ, zero, suc, ◌≤◌, ◌<◌, ◌+◌, ◌⊎◌, inl, inr, refl, sym, ap, subst, ◌∙◌, arith, Bool, false, List, [], ◌∷◌, ◌++◌, append_assoc, length, take, drop, get_or, Option, Some, None, Result, Ok, Err, IfOk, IfErr, IfSome, IfNone, slice_get}
use Rattle.std.proofs.lemmas.Bool.{cases_lt}
use Rattle.std.proofs.lemmas.List.{take-take, take_more, take-append-le, length-append, length-take-le, take-append-drop}
use Rattle.lq_prover_differences.specs.declared.arc.Arc.{Arc}
use Rattle.lq_prover_differences.specs.declared.vertex.Kept.{Kept}
use Rattle.lq_prover_differences.specs.declared.trail.Note.{Note}
use Rattle.lq_prover_differences.specs.declared.graph.Start.{Start}
use Rattle.lq_prover_differences.specs.Links.{IsLatest}
use Rattle.lq_prover_differences.specs.Passes.{IsListed, AllBelow, AllInRange}
use Rattle.lq_prover_differences.specs.Solving.{IsSolved, IsUnnamed, IsPlacing}
use Rattle.lq_prover_differences.specs.Trail.{first_of, notes_of, NotesBelow, IsTrailed, IsReached, start_at, kept_at, HasStarts}
use Rattle.lq_prover_differences.proofs.Passing.{there, same_or}
use Rattle.lq_prover_differences.proofs.Placing.{by_eqb, same_of, apart_of, one_potential}

-- ---- parts of a list
pub drop_more : {A : Type 0} (n : ℕ) (xs ys : List A) → n ≤ length xs → drop n (xs ++ ys) ≡ drop n xs ++ ys
drop_more zero xs ys h = refl
drop_more (suc n) [] ys h = absurd (omega arith)
drop_more (suc n) (x ∷ xs) ys h = drop_more n xs ys (omega arith)

drop_split : {A : Type 0} (m n : ℕ) (xs : List A) → m ≤ n → drop m xs ≡ drop m (take n xs) ++ drop n xs
drop_split zero n xs h = sym (take-append-drop n xs)
drop_split (suc m) zero xs h = absurd (omega arith)
drop_split (suc m) (suc n) [] h = refl
drop_split (suc m) (suc n) (x ∷ xs) h = drop_split m n xs (omega arith)

pub drop_all : {A : Type 0} (n : ℕ) (xs : List A) → length xs ≤ n → drop n xs ≡ []
drop_all zero [] h = refl
drop_all zero (x ∷ xs) h = absurd (omega arith)
drop_all (suc n) [] h = refl
drop_all (suc n) (x ∷ xs) h = drop_all n xs (omega arith)

slice_get_take : {A : Type 0} (n : ℕ) (xs : List A) (j : ℕ) → j < n → slice_get (take n xs) j ≡ slice_get xs j
slice_get_take zero xs j h = absurd (omega arith)
slice_get_take (suc n) [] j h = refl
slice_get_take (suc n) (x ∷ xs) zero h = refl
slice_get_take (suc n) (x ∷ xs) (suc j) h = slice_get_take n xs j (omega arith)

-- ---- notes
pub first_of-append : (xs ys : List Note) (v : ℕ) (x : Kept) → first_of (xs ++ ys) v x ≡ first_of xs v (first_of ys v x)
first_of-append [] ys v x = refl
first_of-append (c ∷ xs) ys v x = ap (λ (y : Kept). if c.vertex == v then c.kept else y) (first_of-append xs ys v x)

append_nil : {A : Type 0} (xs : List A) → xs ++ [] ≡ xs
append_nil [] = refl
append_nil (x ∷ xs) = ap (λ l. x ∷ l) (append_nil xs)

below-append : (xs ys : List Note) (n : ℕ) → NotesBelow xs n → NotesBelow ys n → NotesBelow (xs ++ ys) n
below-append [] ys n h k = k
below-append (c ∷ xs) ys n h k = (h.0, below-append xs ys n h.1 k)

below_first : (xs ys : List Note) (n : ℕ) → NotesBelow (xs ++ ys) n → NotesBelow xs n
below_first [] ys n h = tt
below_first (c ∷ xs) ys n h = (h.0, below_first xs ys n h.1)

pub below_taken : (k : ℕ) (xs : List Note) (n : ℕ) → NotesBelow xs n → NotesBelow (take k xs) n
below_taken k xs n h = below_first (take k xs) (drop k xs) n (subst (λ l. NotesBelow l n) (sym (take-append-drop k xs)) h)

pub below_notes : (s : ℕ → Kept) (places : List ℕ) (n : ℕ) → AllBelow places n → NotesBelow (notes_of s places) n
below_notes s [] n h = tt
below_notes s (x ∷ places) n h = (h 0, below_notes s places n (λ i. h (suc i)))

noted : (s t : ℕ → Kept) (places : List ℕ) (v : ℕ) → IsListed places v ⊎ (t v ≡ s v) → first_of (notes_of s places) v (t v) ≡ s v
noted s t [] v (inl l) = absurd (cc)
noted s t [] v (inr e) = e
noted s t (x ∷ places) v h =
    by_eqb x v
    (λ e. ap (λ (b : Bool). if b then s x else first_of (notes_of s places) v (t v)) e ∙ ap s (same_of x v e))
    (λ n. ap (λ (b : Bool). if b then s x else first_of (notes_of s places) v (t v)) n ∙ noted s t places v (less n h))
  where
    less : x == v ≡ false → IsListed (x ∷ places) v ⊎ (t v ≡ s v) → IsListed places v ⊎ (t v ≡ s v)
    less n (inl (zero, e)) = absurd (apart_of x v n (let q : x ≡ v = cc in q))
    less n (inl (suc i, e)) = inl (i, e)
    less n (inr e) = inr e

notes-append : (s : ℕ → Kept) (xs ys : List ℕ) → notes_of s (xs ++ ys) ≡ notes_of s xs ++ notes_of s ys
notes-append s [] ys = refl
notes-append s (x ∷ xs) ys = ap (λ (l : List Note). (record { vertex = x; kept = s x }) ∷ l) (notes-append s xs ys)

pub notes_more : (s : ℕ → Kept) (old trail new : List Note) (places : List ℕ) (k : ℕ) → k < length places → trail ≡ old ++ notes_of s (take k places)
    → new ≡ trail ++ (record { vertex = get_or places k 0; kept = s (get_or places k 0) }) ∷ [] → new ≡ old ++ notes_of s (take (k + 1) places)
notes_more s old trail new places k h e f =
    f ∙ ap (λ (l : List Note). l ++ (record { vertex = get_or places k 0; kept = s (get_or places k 0) }) ∷ []) e
    ∙ append_assoc old (notes_of s (take k places)) ((record { vertex = get_or places k 0; kept = s (get_or places k 0) }) ∷ [])
    ∙ ap (λ (l : List Note). old ++ l) (sym (ap (notes_of s) (take_more places k 0 h) ∙ notes-append s (take k places) (get_or places k 0 ∷ [])))

-- the last note is taken off
pub shorter : (to : ℕ) (trail new : List Note) (note : Note) → trail ≡ new ++ note ∷ [] → to < length trail → to ≤ length new
shorter to trail new note e l = let k = ap length e in let m = length-append new (note ∷ []) in omega arith

pub undone_one : (to : ℕ) (trail new : List Note) (note : Note) (v : ℕ) (x : Kept) → trail ≡ new ++ note ∷ [] → to < length trail
    → first_of (drop to new) v (first_of (note ∷ []) v x) ≡ first_of (drop to trail) v x
undone_one to trail new note v x e l =
    sym (ap (λ (t : List Note). first_of t v x) (ap (drop to) e ∙ drop_more to new (note ∷ []) (shorter to trail new note e l)) ∙ first_of-append (drop to new) (note ∷ []) v x)

pub below_before : (trail new : List Note) (note : Note) (n : ℕ) → trail ≡ new ++ note ∷ [] → NotesBelow trail n → NotesBelow new n
below_before trail new note n e h = below_first new (note ∷ []) n (subst (λ l. NotesBelow l n) e h)

pub front_before : (to : ℕ) (trail new : List Note) (note : Note) → trail ≡ new ++ note ∷ [] → to < length trail → take to new ≡ take to trail
front_before to trail new note e l = sym (ap (take to) e ∙ take-append-le to new (note ∷ []) (shorter to trail new note e l))

pub last_below : (trail new : List Note) (note : Note) (n : ℕ) → trail ≡ new ++ note ∷ [] → NotesBelow trail n → note.vertex < n
last_below trail new note n e h = by new (subst (λ l. NotesBelow l n) e h)
  where
    by : (xs : List Note) → NotesBelow (xs ++ note ∷ []) n → note.vertex < n
    by [] h = h.0
    by (x ∷ xs) h = by xs h.1

-- ---- what came on the trail
pub trailed_same : (n : ℕ) (trail : List Note) (s t : ℕ → Kept) → ((v : ℕ) → t v ≡ s v) → IsTrailed n trail trail s t
trailed_same n trail s t h = record { more = []; is = sym (append_nil trail); below = tt; back = h }

pub trailed_all : (n : ℕ) (old new : List Note) (s t : ℕ → Kept) (places : List ℕ) → new ≡ old ++ notes_of s places → AllBelow places n → ((v : ℕ) → IsListed places v ⊎ (t v ≡ s v))
    → IsTrailed n old new s t
trailed_all n old new s t places e b h = record { more = notes_of s places; is = e; below = below_notes s places n b; back = λ v. noted s t places v (h v) }

pub trailed_then : (n : ℕ) (a b c : List Note) (s t u : ℕ → Kept) → IsTrailed n a b s t → IsTrailed n b c t u → IsTrailed n a c s u
trailed_then n a b c s t u p q = record {
  more = p.more ++ q.more;
  is = q.is ∙ ap (λ l. l ++ q.more) p.is ∙ append_assoc a p.more q.more;
  below = below-append p.more q.more n p.below q.below;
  back = λ v. first_of-append p.more q.more v (u v) ∙ ap (λ x. first_of p.more v x) (q.back v) ∙ p.back v;
}

pub trailed_before : (n : ℕ) (a b : List Note) (r s t : ℕ → Kept) → ((v : ℕ) → s v ≡ r v) → IsTrailed n a b s t → IsTrailed n a b r t
trailed_before n a b r s t h p = record { more = p.more; is = p.is; below = p.below; back = λ v. p.back v ∙ h v }

pub below_trailed : (n : ℕ) (a b : List Note) (s t : ℕ → Kept) → IsTrailed n a b s t → NotesBelow a n → NotesBelow b n
below_trailed n a b s t p h = subst (λ l. NotesBelow l n) (sym p.is) (below-append a p.more n h p.below)

-- ---- what is reached, with other arcs behind the first
latest_same : (arcs others : List Arc) (v upto n : ℕ) → ((j : ℕ) → j < upto → slice_get others j ≡ slice_get arcs j) → IsLatest arcs v upto n → IsLatest others v upto n
latest_same arcs others v upto n same h = record {
  within = h.within;
  here = λ j e. subst (λ o. IfSome o (λ (a : Arc). a.from ≡ v)) (sym (same j (let w = h.within in omega arith))) (h.here j e);
  none = λ j l m. subst (λ o. IfSome o (λ (a : Arc). a.from ≡ v → ⊥)) (sym (same j m)) (h.none j l m);
}

pub reached_same : (arcs others : List Arc) (links more : List ℕ) (count : ℕ) (s t : ℕ → Kept) → take count others ≡ take count arcs → ((j : ℕ) → j < count → get_or more j 0 ≡ get_or links j 0)
    → ((v : ℕ) → t v ≡ s v) → IsReached arcs links count s → IsReached others more count t
reached_same arcs others links more count s t front linked same h = record {
  solved = subst (λ l. IsSolved l (λ v. (t v).value)) (sym front)
      (subst (λ p. IsSolved (take count arcs) p) (sym (one_potential (λ v. (t v).value) (λ v. (s v).value) (λ v. ap (λ (k : Kept). k.value) (same v)))) h.solved);
  unnamed = λ v e. subst (λ l. IsUnnamed l v) (sym front) (h.unnamed v (sym (ap (λ (k : Kept). k.touched) (same v)) ∙ e));
  before = λ j l. subst (λ o. IfSome o (λ (a : Arc). IsLatest others a.from j (get_or more j 0))) (sym (agree j l))
      (each_one j l (slice_get arcs j) (h.before j l));
  last = λ v. subst (λ n. IsLatest others v count n) (sym (ap (λ (k : Kept). k.last) (same v))) (latest_same arcs others v count (s v).last agree (h.last v));
}
  where
    agree : (j : ℕ) → j < count → slice_get others j ≡ slice_get arcs j
    agree j l = sym (slice_get_take count others j l) ∙ ap (λ x. slice_get x j) front ∙ slice_get_take count arcs j l

    each_one : (j : ℕ) → j < count → (o : Option Arc) → IfSome o (λ a. IsLatest arcs a.from j (get_or links j 0)) → IfSome o (λ a. IsLatest others a.from j (get_or more j 0))
    each_one j l None h = tt
    each_one j l (Some a) h =
        subst (λ n. IsLatest others a.from j n) (sym (linked j l)) (latest_same arcs others a.from j (get_or links j 0) (λ i m. agree i (omega arith)) h)

-- ---- the starts
pub front_length : {A : Type 0} (xs ys : List A) → take (length xs) ys ≡ xs → length xs ≤ length ys
front_length [] ys e = omega arith
front_length (x ∷ xs) [] e = absurd (cc)
front_length (x ∷ xs) (y ∷ ys) e = let q : take (length xs) ys ≡ xs = cc in let l = front_length xs ys q in omega arith

front_of : {A : Type 0} (n : ℕ) (xs ys : List A) → n ≤ length xs → take (length xs) ys ≡ xs → take n ys ≡ take n xs
front_of n xs ys h e = sym (take-take n (length xs) ys h) ∙ ap (take n) e

pub starts_more : (starts : List Start) (arcs others : List Arc) (links more : List ℕ) (n : ℕ) (a b : List Note) (s t : ℕ → Kept) → HasStarts starts arcs links a s
    → take (length arcs) others ≡ arcs → ((j : ℕ) → j < length arcs → get_or more j 0 ≡ get_or links j 0) → IsTrailed n a b s t → HasStarts starts others more b t
starts_more starts arcs others links more n a b s t h front linked p = record {
  arcs_in = λ i l. let k = h.arcs_in i l in let m = front_length arcs others front in omega arith;
  trail_in = λ i l. let k = h.trail_in i l in let m = ap length p.is in let o = length-append a p.more in omega arith;
  arcs_rise = h.arcs_rise;
  trail_rises = h.trail_rises;
  reached = λ i l. reached_same arcs others links more (start_at starts i).arcs (kept_at a (start_at starts i) s) (kept_at b (start_at starts i) t)
      (front_of (start_at starts i).arcs arcs others (h.arcs_in i l) front) (λ j m. linked j (let k = h.arcs_in i l in omega arith)) (back i l) (h.reached i l);
}
  where
    back : (i : ℕ) → i < length starts → (v : ℕ) → kept_at b (start_at starts i) t v ≡ kept_at a (start_at starts i) s v
    back i l v =
        ap (λ (x : List Note). first_of x v (t v)) (ap (drop (start_at starts i).trail) p.is ∙ drop_more (start_at starts i).trail a p.more (h.trail_in i l))
        ∙ first_of-append (drop (start_at starts i).trail a) p.more v (t v) ∙ ap (λ x. first_of (drop (start_at starts i).trail a) v x) (p.back v)

at_start : (starts : List Start) (start : Start) (i : ℕ) → i < length starts → start_at (starts ++ start ∷ []) i ≡ start_at starts i
at_start [] start i l = absurd (omega arith)
at_start (x ∷ starts) start zero l = refl
at_start (x ∷ starts) start (suc i) l = at_start starts start i (omega arith)

at_new : (starts : List Start) (start : Start) → start_at (starts ++ start ∷ []) (length starts) ≡ start
at_new [] start = refl
at_new (x ∷ starts) start = at_new starts start

length_more : (starts : List Start) (start : Start) → length (starts ++ start ∷ []) ≡ length starts + 1
length_more [] start = omega arith
length_more (x ∷ starts) start = let e = length_more starts start in omega arith

-- one more start, from what is kept now
pub starts_pushed : (starts : List Start) (start : Start) (arcs : List Arc) (links : List ℕ) (trail : List Note) (s : ℕ → Kept) → HasStarts starts arcs links trail s
    → IsReached arcs links (length arcs) s → start.arcs ≡ length arcs → start.trail ≡ length trail → HasStarts (starts ++ start ∷ []) arcs links trail s
starts_pushed starts start arcs links trail s h reached ea et = record {
  arcs_in = λ i l. by i l (λ x. x.arcs ≤ length arcs) (λ m. h.arcs_in i m) (omega arith);
  trail_in = λ i l. by i l (λ x. x.trail ≤ length trail) (λ m. h.trail_in i m) (omega arith);
  arcs_rise = λ i j m l. by j l (λ x. (start_at (starts ++ start ∷ []) i).arcs ≤ x.arcs)
      (λ k. subst (λ (x : Start). x.arcs ≤ (start_at starts j).arcs) (sym (at_start starts start i (omega arith))) (h.arcs_rise i j m k))
      (subst (λ (x : Start). x.arcs ≤ start.arcs) (sym (at_start starts start i (old i j m l))) (let k = h.arcs_in i (old i j m l) in omega arith));
  trail_rises = λ i j m l. by j l (λ x. (start_at (starts ++ start ∷ []) i).trail ≤ x.trail)
      (λ k. subst (λ (x : Start). x.trail ≤ (start_at starts j).trail) (sym (at_start starts start i (omega arith))) (h.trail_rises i j m k))
      (subst (λ (x : Start). x.trail ≤ start.trail) (sym (at_start starts start i (old i j m l))) (let k = h.trail_in i (old i j m l) in omega arith));
  reached = λ i l. by i l (λ x. IsReached arcs links x.arcs (kept_at trail x s)) (λ m. h.reached i m)
      (subst (λ n. IsReached arcs links n (kept_at trail start s)) (sym ea)
      (reached_same arcs arcs links links (length arcs) s (kept_at trail start s) refl (λ j m. refl)
      (λ v. ap (λ (x : List Note). first_of x v (s v)) (drop_all start.trail trail (omega arith))) reached));
}
  where
    old : (i j : ℕ) → i < j → j < length (starts ++ start ∷ []) → i < length starts
    old i j m l = let e = length_more starts start in omega arith

    by : (i : ℕ) → i < length (starts ++ start ∷ []) → (P : Start → Type 0) → (i < length starts → P (start_at starts i)) → P start → P (start_at (starts ++ start ∷ []) i)
    by i l P f g = elim (cases_lt i (length starts)) [
      | inl m ↦ subst P (sym (at_start starts start i m)) (f m)
      | inr m ↦ let e : i ≡ length starts = (let k = length_more starts start in omega arith) in
          subst (λ k. P (start_at (starts ++ start ∷ []) k)) (sym e) (subst P (sym (at_new starts start)) g)
    ]

at_taken : (starts : List Start) (r i : ℕ) → i < r → start_at (take r starts) i ≡ start_at starts i
at_taken starts zero i l = absurd (omega arith)
at_taken [] (suc r) i l = refl
at_taken (x ∷ starts) (suc r) zero l = refl
at_taken (x ∷ starts) (suc r) (suc i) l = at_taken starts r i (omega arith)

-- back at a start, what was reached then is kept again
pub reached_back : (starts : List Start) (r : ℕ) (arcs : List Arc) (links more : List ℕ) (trail : List Note) (s t : ℕ → Kept) → HasStarts starts arcs links trail s → r < length starts
    → ((v : ℕ) → t v ≡ kept_at trail (start_at starts r) s v) → ((j : ℕ) → j < (start_at starts r).arcs → get_or more j 0 ≡ get_or links j 0)
    → IsReached (take (start_at starts r).arcs arcs) more (length (take (start_at starts r).arcs arcs)) t
reached_back starts r arcs links more trail s t h l same linked =
    subst (λ n. IsReached (take (start_at starts r).arcs arcs) more n t) (sym (length-take-le (start_at starts r).arcs arcs (h.arcs_in r l)))
    (reached_same arcs (take (start_at starts r).arcs arcs) links more (start_at starts r).arcs (kept_at trail (start_at starts r) s) t
    (take-take (start_at starts r).arcs (start_at starts r).arcs arcs (omega arith)) linked same (h.reached r l))

pub starts_back : (starts : List Start) (r : ℕ) (arcs : List Arc) (links more : List ℕ) (trail : List Note) (s t : ℕ → Kept) → HasStarts starts arcs links trail s → r < length starts
    → ((v : ℕ) → t v ≡ kept_at trail (start_at starts r) s v) → ((j : ℕ) → j < (start_at starts r).arcs → get_or more j 0 ≡ get_or links j 0)
    → HasStarts (take r starts) (take (start_at starts r).arcs arcs) more (take (start_at starts r).trail trail) t
starts_back starts r arcs links more trail s t h l same linked = record {
  arcs_in = λ i m. at i m (λ x. x.arcs ≤ length (take (start_at starts r).arcs arcs))
      (λ k. let e = length-take-le (start_at starts r).arcs arcs (h.arcs_in r l) in let o = h.arcs_rise i r k l in omega arith);
  trail_in = λ i m. at i m (λ x. x.trail ≤ length (take (start_at starts r).trail trail))
      (λ k. let e = length-take-le (start_at starts r).trail trail (h.trail_in r l) in let o = h.trail_rises i r k l in omega arith);
  arcs_rise = λ i j k m. let a = at_taken starts r i (let o = first m in omega arith) in let b = at_taken starts r j (first m) in
      let o = h.arcs_rise i j k (let u = first m in omega arith) in subst (λ (x : Start). x.arcs ≤ (start_at (take r starts) j).arcs) (sym a) (subst (λ (x : Start). (start_at starts i).arcs ≤ x.arcs) (sym b) o);
  trail_rises = λ i j k m. let a = at_taken starts r i (let o = first m in omega arith) in let b = at_taken starts r j (first m) in
      let o = h.trail_rises i j k (let u = first m in omega arith) in subst (λ (x : Start). x.trail ≤ (start_at (take r starts) j).trail) (sym a) (subst (λ (x : Start). (start_at starts i).trail ≤ x.trail) (sym b) o);
  reached = λ i m. at i m (λ x. IsReached (take (start_at starts r).arcs arcs) more x.arcs (kept_at (take (start_at starts r).trail trail) x t))
      (λ k. reached_same arcs (take (start_at starts r).arcs arcs) links more (start_at starts i).arcs (kept_at trail (start_at starts i) s) (kept_at (take (start_at starts r).trail trail) (start_at starts i) t)
      (take-take (start_at starts i).arcs (start_at starts r).arcs arcs (h.arcs_rise i r k l)) (λ j o. linked j (let u = h.arcs_rise i r k l in omega arith))
      (λ v. back i k v) (h.reached i (omega arith)));
}
  where
    first : {i : ℕ} → i < length (take r starts) → i < r
    first {i} m = let e = length-take-le r starts (omega arith) in omega arith

    at : (i : ℕ) → i < length (take r starts) → (P : Start → Type 0) → (i < r → P (start_at starts i)) → P (start_at (take r starts) i)
    at i m P f = subst P (sym (at_taken starts r i (first m))) (f (first m))

    back : (i : ℕ) → i < r → (v : ℕ) → kept_at (take (start_at starts r).trail trail) (start_at starts i) t v ≡ kept_at trail (start_at starts i) s v
    back i k v =
        ap (λ x. first_of (drop (start_at starts i).trail (take (start_at starts r).trail trail)) v x) (same v)
        ∙ sym (first_of-append (drop (start_at starts i).trail (take (start_at starts r).trail trail)) (drop (start_at starts r).trail trail) v (s v))
        ∙ ap (λ (x : List Note). first_of x v (s v)) (sym (drop_split (start_at starts i).trail (start_at starts r).trail trail (h.trail_rises i r k l)))

-- ---- what is noted of the two vertices of an arc
ends_below : (from to n : ℕ) → from < n → to < n → AllBelow (from ∷ to ∷ []) n
ends_below from to n f t zero = f
ends_below from to n f t (suc zero) = t
ends_below from to n f t (suc (suc i)) = tt

pub trailed_ends : (n : ℕ) (old new : List Note) (s t : ℕ → Kept) (from to : ℕ) → new ≡ old ++ notes_of s (from ∷ to ∷ []) → from < n → to < n
    → ((v : ℕ) → v ≢ from → v ≢ to → t v ≡ s v) → IsTrailed n old new s t
trailed_ends n old new s t from to e f o h = trailed_all n old new s t (from ∷ to ∷ []) e (ends_below from to n f o) (λ v.
    same_or v from (λ q. inl (0, ap Some (sym q))) (λ d. same_or v to (λ q. inl (1, ap Some (sym q))) (λ m. inr (h v d m))))

pub placing_inside : (arcs : List Arc) (k n : ℕ) (touched : ℕ → Bool) (a : Arc) → IsPlacing arcs k touched a → AllInRange arcs n → (a.from < n) × (a.to < n)
placing_inside arcs k n touched a h r = elim h.pair [
  | inl e ↦ there arcs (λ (b : Arc). (b.from < n) × (b.to < n)) k a e.0 (r k)
  | inr e ↦ there arcs (λ (b : Arc). (b.from < n) × (b.to < n)) (k + 1) a e.1 (r (k + 1))
]

-- an arc of this number that leads from another vertex
abbrev pub LeadsElsewhere : List Arc → ℕ → ℕ → Type 0
LeadsElsewhere arcs k v = (b : Arc) × (slice_get arcs k ≡ Some b) × (v ≢ b.from)

pub first_elsewhere : (arcs : List Arc) (k v : ℕ) (touched : ℕ → Bool) (a : Arc) → IsPlacing arcs k touched a → v ≢ a.from → v ≢ a.to → LeadsElsewhere arcs k v
first_elsewhere arcs k v touched a h f t = elim h.pair [
  | inl e ↦ (a, e.0, f)
  | inr e ↦ (h.back, e.0, λ q. t (q ∙ h.opposite.from))
]

pub second_elsewhere : (arcs : List Arc) (k v : ℕ) (touched : ℕ → Bool) (a : Arc) → IsPlacing arcs k touched a → v ≢ a.from → v ≢ a.to → LeadsElsewhere arcs (k + 1) v
second_elsewhere arcs k v touched a h f t = elim h.pair [
  | inl e ↦ (h.back, e.1, λ q. t (q ∙ h.opposite.from))
  | inr e ↦ (a, e.1, f)
]

-- ---- what holds of an answer
pub none_of : {E : Type 0} (r : Result (Option ℕ) E) (N L M R : Type 0) → IfOk r (λ o. IfNone o N) → IfOk r (λ o. IfNone o L) → IfOk r (λ o. IfNone o M) → (N → L → M → R)
    → IfOk r (λ o. IfNone o R)
none_of (Ok None) N L M R n l m f = f n l m
none_of (Ok (Some k)) N L M R n l m f = n
none_of (Err e) N L M R n l m f = n

pub some_of : {E : Type 0} (r : Result (Option ℕ) E) (P Q : ℕ → Type 0) → ((k : ℕ) → P k → Q k) → IfOk r (λ o. IfSome o P) → IfOk r (λ o. IfSome o Q)
some_of (Ok None) P Q f h = h
some_of (Ok (Some k)) P Q f h = f k h
some_of (Err e) P Q f h = h

pub err_of : {A E : Type 0} (r : Result A E) (P Q : E → Type 0) → ((e : E) → P e → Q e) → IfErr r P → IfErr r Q
err_of (Ok a) P Q f h = h
err_of (Err e) P Q f h = f e h
