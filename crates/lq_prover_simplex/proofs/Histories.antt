-- What leads back to the limits of fewer rows.
use Rattle.std.proofs.Common.{◌≡◌, ◌≢◌, ◌==◌, if◌then◌else◌, ℕ, zero, suc, ◌+◌, ◌-◌, ◌<◌, ◌≤◌, ◌⊎◌, inl, inr, arith, refl, sym, ap, subst, ◌∙◌, Bool, false, List, [], ◌∷◌, ◌++◌, Some, None, IfSome, length, take, set, get_or}
use Rattle.std.specs.List.{All, AllPairs}
use Rattle.std.specs.Bool.{nat_lt}
use Rattle.std.proofs.lemmas.Bool.{cases_lt, lt-ltb, le-ltb, eq-eqb}
use Rattle.std.proofs.lemmas.List.{get_or-set_same, get_or-set_other, get_or_push, get_or_append_left, take-append-le, take-take, length-append, length-set, length-take, length_push}
use Rattle.std.proofs.Math.Seq.{take-length}
use Rattle.std.proofs.lemmas.Option.{slice_get-get_or}
use Rattle.std.proofs.lemmas.List.Elements.{All-head, All-tail, All-push, All-weaker}
use Rattle.std.proofs.lemmas.List.Quantifiers.{all_pairs_push}
use Rattle.lq_prover_simplex.specs.declared.row.Bound.{Bound}
use Rattle.lq_prover_simplex.specs.declared.row.Standing.{Standing}
use Rattle.lq_prover_simplex.specs.declared.limits.Change.{Change}
use Rattle.lq_prover_simplex.specs.declared.limits.Interval.{Interval}
use Rattle.lq_prover_simplex.specs.Bounds.{unlimited, interval_in, IsNarrowed, AreTightest}
use Rattle.lq_prover_simplex.specs.History.{before, IsBefore, IsHistory}
use Rattle.lq_prover_simplex.proofs.Combinations.{eq_or}
use Rattle.lq_prover_simplex.proofs.Limiting.{tightest_same, tightest_skip, tightest_step}

abbrev pub Ascend : List Change → Type 0
Ascend changes = AllPairs (λ (c d : Change). c.row < d.row) changes

-- ---- what an interval was
pub before-append : (xs ys : List Change) (count k : ℕ) (now : Interval) → before (xs ++ ys) count k now ≡ before xs count k (before ys count k now)
before-append [] ys count k now = refl
before-append (c ∷ xs) ys count k now = ap (λ (i : Interval). if nat_lt c.row count then i else (if c.variable == k then c.old else i)) (before-append xs ys count k now)

before_none : (xs : List Change) (count k : ℕ) (now : Interval) → All (λ c. c.row < count) xs → before xs count k now ≡ now
before_none [] count k now h = refl
before_none (c ∷ xs) count k now h =
    ap (λ (b : Bool). if b then before xs count k now else (if c.variable == k then c.old else before xs count k now)) (lt-ltb c.row count (All-head (λ (d : Change). d.row < count) c xs h))
    ∙ before_none xs count k now (All-tail (λ (d : Change). d.row < count) c xs h)

one_after : (c : Change) (count k : ℕ) (now : Interval) → count ≤ c.row → before (c ∷ []) count k now ≡ (if c.variable == k then c.old else now)
one_after c count k now h = ap (λ (b : Bool). if b then now else (if c.variable == k then c.old else now)) (le-ltb c.row count h)

eqb_no : (m n : ℕ) → m ≢ n → m == n ≡ false
eqb_no m n h = grind arith

-- a change that is undone
one_here : (c : Change) (count : ℕ) (now : Interval) → count ≤ c.row → before (c ∷ []) count c.variable now ≡ c.old
one_here c count now h = one_after c count c.variable now h ∙ ap (λ (b : Bool). if b then c.old else now) (eq-eqb c.variable c.variable refl)

one_elsewhere : (c : Change) (count k : ℕ) (now : Interval) → count ≤ c.row → k ≢ c.variable → before (c ∷ []) count k now ≡ now
one_elsewhere c count k now h n = one_after c count k now h ∙ ap (λ (b : Bool). if b then c.old else now) (eqb_no c.variable k (λ e. n (sym e)))

-- the interval of the variable is the old one again
put_back : (intervals : List Interval) (c : Change) (count k : ℕ) → count ≤ c.row → c.variable < length intervals → (k ≡ c.variable) ⊎ (k ≢ c.variable)
    → interval_in (set intervals c.variable c.old) k ≡ before (c ∷ []) count k (interval_in intervals k)
put_back intervals c count k h l (inl e) =
    ap (interval_in (set intervals c.variable c.old)) e ∙ get_or-set_same intervals c.variable c.old unlimited l
    ∙ sym (one_here c count (interval_in intervals k) h) ∙ ap (λ (m : ℕ). before (c ∷ []) count m (interval_in intervals k)) (sym e)
put_back intervals c count k h l (inr n) = get_or-set_other intervals c.variable k c.old unlimited n ∙ sym (one_elsewhere c count k (interval_in intervals k) h n)

pub undone : (trail new : List Change) (intervals : List Interval) (c : Change) (count k : ℕ) → trail ≡ new ++ c ∷ [] → count ≤ c.row → c.variable < length intervals
    → before new count k (interval_in (set intervals c.variable c.old) k) ≡ before trail count k (interval_in intervals k)
undone trail new intervals c count k e h l =
    ap (before new count k) (put_back intervals c count k h l (eq_or k c.variable))
    ∙ sym (before-append new (c ∷ []) count k (interval_in intervals k)) ∙ ap (λ (t : List Change). before t count k (interval_in intervals k)) (sym e)

-- ---- the first changes
pub all_first : {X : Type 0} (P : X → Type 0) (xs ys : List X) → All P (xs ++ ys) → All P xs
all_first P xs ys a k d h = subst P (get_or_append_left xs ys d k h) (a k d (let e = length-append xs ys in omega arith))

pub ascend_first : (xs ys : List Change) → Ascend (xs ++ ys) → Ascend xs
ascend_first xs ys a i j d h l =
    let e = length-append xs ys in
    let p = get_or_append_left xs ys d i (omega arith) in
    let q = get_or_append_left xs ys d j l in
    subst (λ (c : Change). c.row < (get_or xs j d).row) p (subst (λ (c : Change). (get_or (xs ++ ys) i d).row < c.row) q (a i j d h (omega arith)))

pub all_before : (changes : List Change) (count : ℕ) → Ascend changes → IsBefore changes count → All (λ (c : Change). c.row < count) changes
all_before changes count a b i d h =
    elim (cases_lt i (length changes - 1)) [
      | inl less ↦ let l = last in let m : (get_or changes i d).row < (get_or changes (length changes - 1) d).row = a i (length changes - 1) d less (omega arith) in omega arith
      | inr most ↦ let e : i ≡ length changes - 1 = omega arith in subst (λ (j : ℕ). (get_or changes j d).row < count) (sym e) last
    ]
  where
    last : (get_or changes (length changes - 1) d).row < count
    last = subst (λ o. IfSome o (λ (c : Change). c.row < count)) (slice_get-get_or changes (length changes - 1) d (omega arith)) b

-- one that is taken off
pub taken_inside : (all changes first more : List Change) (c : Change) (n : ℕ) → all ≡ changes ++ more → changes ≡ first ++ c ∷ [] → All (λ (d : Change). d.variable < n) all → c.variable < n
taken_inside all changes first more c n e f a =
    let within = all_first (λ (d : Change). d.variable < n) changes more (subst (All (λ (d : Change). d.variable < n)) e a) in
    subst (λ (d : Change). d.variable < n) (get_or_push first c c (length first) refl)
    (subst (All (λ (d : Change). d.variable < n)) f within (length first) c (let l = length_push first c in omega arith))

-- ---- histories
history_wider : (rows : List Standing) (is js : List Interval) (changes : List Change) → IsHistory rows is changes → length is ≤ length js → ((k : ℕ) → interval_in js k ≡ interval_in is k)
    → IsHistory rows js changes
history_wider rows is js changes h l e = record {
  rows_in = h.rows_in;
  variables_in = All-weaker (λ (c : Change). c.variable < length is) (λ (c : Change). c.variable < length js) (λ c m. omega arith) changes h.variables_in;
  ascend = h.ascend;
  prefixes = λ count m. tightest_same (take count rows) (λ k. before changes count k (interval_in is k)) (λ k. before changes count k (interval_in js k))
      (λ k. ap (before changes count k) (e k)) (h.prefixes count m);
}

interval_pushed : (is : List Interval) (k : ℕ) → interval_in (is ++ unlimited ∷ []) k ≡ interval_in is k
interval_pushed [] zero = refl
interval_pushed [] (suc k) = refl
interval_pushed (i ∷ is) zero = refl
interval_pushed (i ∷ is) (suc k) = interval_pushed is k

-- a place without limits for one variable more
pub history_place : (rows : List Standing) (is : List Interval) (changes : List Change) → IsHistory rows is changes → IsHistory rows (is ++ unlimited ∷ []) changes
history_place rows is changes h = history_wider rows is (is ++ unlimited ∷ []) changes h (let e = length_push is unlimited in omega arith) (interval_pushed is)

pub history_tight : (rows : List Standing) (is : List Interval) (changes : List Change) → IsHistory rows is changes → AreTightest rows (interval_in is)
history_tight rows is changes h =
    tightest_same rows (λ k. before changes (length rows) k (interval_in is k)) (interval_in is)
    (λ k. sym (before_none changes (length rows) k (interval_in is k) h.rows_in))
    (subst (λ (r : List Standing). AreTightest r (λ k. before changes (length rows) k (interval_in is k))) (take-length rows) (h.prefixes (length rows) (omega arith)))

history_step : (rows : List Standing) (s : Standing) (is js : List Interval) (cs ds : List Change) → IsHistory rows is cs → All (λ (c : Change). c.row < length rows + 1) ds
    → All (λ (c : Change). c.variable < length js) ds → Ascend ds → ((count k : ℕ) → count ≤ length rows → before ds count k (interval_in js k) ≡ before cs count k (interval_in is k))
    → AreTightest (rows ++ s ∷ []) (interval_in js) → IsHistory (rows ++ s ∷ []) js ds
history_step rows s is js cs ds h rows_in variables_in ascend past now = record {
  rows_in = All-weaker (λ (c : Change). c.row < length rows + 1) (λ (c : Change). c.row < length (rows ++ s ∷ [])) (λ c m. let e = length_push rows s in omega arith) ds rows_in;
  variables_in = variables_in;
  ascend = ascend;
  prefixes = λ count l. elim (cases_lt (length rows) count) [
    | inl all ↦ let e : count ≡ length (rows ++ s ∷ []) = (let m = length_push rows s in omega arith) in
        subst (λ (r : List Standing). AreTightest r (λ k. before ds count k (interval_in js k))) (sym (ap (λ n. take n (rows ++ s ∷ [])) e ∙ take-length (rows ++ s ∷ [])))
        (tightest_same (rows ++ s ∷ []) (interval_in js) (λ k. before ds count k (interval_in js k))
        (λ k. before_none ds count k (interval_in js k) (All-weaker (λ (c : Change). c.row < length rows + 1) (λ (c : Change). c.row < count) (λ c m. omega arith) ds rows_in)) now)
    | inr some ↦
        subst (λ (r : List Standing). AreTightest r (λ k. before ds count k (interval_in js k))) (sym (take-append-le count rows (s ∷ []) some))
        (tightest_same (take count rows) (λ k. before cs count k (interval_in is k)) (λ k. before ds count k (interval_in js k)) (λ k. past count k some) (h.prefixes count some))
  ];
}

more_rows : (n : ℕ) (changes : List Change) → All (λ (c : Change). c.row < n) changes → All (λ (c : Change). c.row < n + 1) changes
more_rows n changes = All-weaker (λ (c : Change). c.row < n) (λ (c : Change). c.row < n + 1) (λ c m. omega arith) changes

-- a row without a bound
pub history_skip : (rows : List Standing) (s : Standing) (is : List Interval) (changes : List Change) → IsHistory rows is changes → s.bound ≡ None → IsHistory (rows ++ s ∷ []) is changes
history_skip rows s is changes h n =
    history_step rows s is is changes changes h (more_rows (length rows) changes h.rows_in) h.variables_in h.ascend (λ count k l. refl)
    (tightest_skip rows s (interval_in is) (history_tight rows is changes h) n)

narrowed_from : (s : Standing) (b : Bound) (n row : ℕ) (equal : Bool) (i old new : Interval) → n ≡ row → s.row.equal ≡ equal → i ≡ old → IsNarrowed old row equal b new
    → IsNarrowed i n s.row.equal b new
narrowed_from s b n row equal i old new e q at narrowed =
    subst (λ (m : ℕ). IsNarrowed i m s.row.equal b new) (sym e)
    (subst (λ (p : Bool). IsNarrowed i row p b new) (sym q) (subst (λ (j : Interval). IsNarrowed j row equal b new) (sym at) narrowed))

-- one whose bound makes no interval narrower
pub history_stays : (rows : List Standing) (s : Standing) (b : Bound) (is : List Interval) (changes : List Change) (row : ℕ) (equal : Bool) (old : Interval) → IsHistory rows is changes → length rows ≡ row
    → s.row.equal ≡ equal → s.bound ≡ Some b → interval_in is b.variable ≡ old → IsNarrowed old row equal b old → IsHistory (rows ++ s ∷ []) is changes
history_stays rows s b is changes row equal old h e q g at narrowed =
    history_step rows s is is changes changes h (more_rows (length rows) changes h.rows_in) h.variables_in h.ascend (λ count k l. refl)
    (tightest_step rows s b (interval_in is) (interval_in is) (history_tight rows is changes h) g
    (subst (λ (i : Interval). IsNarrowed (interval_in is b.variable) (length rows) s.row.equal b i) (sym at)
    (narrowed_from s b (length rows) row equal (interval_in is b.variable) old old e q at narrowed)) (λ k n. refl))

-- one whose bound makes an interval narrower
changes_here : (rows : List Standing) (s : Standing) (b : Bound) (is : List Interval) (changes : List Change) (new : Interval) → IsHistory rows is changes → s.bound ≡ Some b
    → b.variable < length is → IsNarrowed (interval_in is b.variable) (length rows) s.row.equal b new
    → IsHistory (rows ++ s ∷ []) (set is b.variable new) (changes ++ (record { row = length rows; variable = b.variable; old = interval_in is b.variable }) ∷ [])
changes_here rows s b is changes new h e l narrowed =
    history_step rows s is (set is b.variable new) changes (changes ++ c ∷ []) h
    (All-push (λ (d : Change). d.row < length rows + 1) changes c (more_rows (length rows) changes h.rows_in) (omega arith))
    (All-push (λ (d : Change). d.variable < length (set is b.variable new)) changes c
    (All-weaker (λ (d : Change). d.variable < length is) (λ (d : Change). d.variable < length (set is b.variable new)) (λ d m. let n = length-set is b.variable new in omega arith) changes h.variables_in)
    (let n = length-set is b.variable new in omega arith))
    (all_pairs_push (λ (x y : Change). x.row < y.row) changes c h.ascend (λ k d m. h.rows_in k d m))
    (λ count k m. before-append changes (c ∷ []) count k (interval_in (set is b.variable new) k) ∙ ap (before changes count k) (was count k m (eq_or k b.variable)))
    (tightest_step rows s b (interval_in is) (interval_in (set is b.variable new)) (history_tight rows is changes h) e
    (subst (λ i. IsNarrowed (interval_in is b.variable) (length rows) s.row.equal b i) (sym (get_or-set_same is b.variable new unlimited l)) narrowed)
    (λ k n. get_or-set_other is b.variable k new unlimited n))
  where
    c : Change
    c = record { row = length rows; variable = b.variable; old = interval_in is b.variable }

    was : (count k : ℕ) → count ≤ length rows → (k ≡ b.variable) ⊎ (k ≢ b.variable) → before (c ∷ []) count k (interval_in (set is b.variable new) k) ≡ interval_in is k
    was count k m (inl q) =
        ap (λ (j : ℕ). before (c ∷ []) count j (interval_in (set is b.variable new) k)) q ∙ one_here c count (interval_in (set is b.variable new) k) m ∙ ap (interval_in is) (sym q)
    was count k m (inr n) = one_elsewhere c count k (interval_in (set is b.variable new) k) m n ∙ get_or-set_other is b.variable k new unlimited n

pub history_changes : (rows : List Standing) (s : Standing) (b : Bound) (is : List Interval) (changes : List Change) (row : ℕ) (equal : Bool) (old new : Interval) → IsHistory rows is changes
    → length rows ≡ row → s.row.equal ≡ equal → s.bound ≡ Some b → b.variable < length is → interval_in is b.variable ≡ old → IsNarrowed old row equal b new
    → IsHistory (rows ++ s ∷ []) (set is b.variable new) (changes ++ (record { row = row; variable = b.variable; old = old }) ∷ [])
history_changes rows s b is changes row equal old new h e q g l at narrowed =
    subst (λ (i : Interval). IsHistory (rows ++ s ∷ []) (set is b.variable new) (changes ++ (record { row = row; variable = b.variable; old = i }) ∷ [])) at
    (subst (λ (n : ℕ). IsHistory (rows ++ s ∷ []) (set is b.variable new) (changes ++ (record { row = n; variable = b.variable; old = interval_in is b.variable }) ∷ [])) e
    (changes_here rows s b is changes new h g l (narrowed_from s b (length rows) row equal (interval_in is b.variable) old new e q at narrowed)))

-- back at fewer rows
pub history_back : (rows : List Standing) (is js : List Interval) (changes first more : List Change) (count : ℕ) → IsHistory rows is changes → changes ≡ first ++ more → length js ≡ length is
    → ((n k : ℕ) → n ≤ count → before first n k (interval_in js k) ≡ before changes n k (interval_in is k)) → IsBefore first count → IsHistory (take count rows) js first
history_back rows is js changes first more count h e same back last =
    let rows_in : All (λ (c : Change). c.row < length rows) first = all_first (λ (c : Change). c.row < length rows) first more (subst (All (λ (c : Change). c.row < length rows)) e h.rows_in) in
    let variables_in : All (λ (c : Change). c.variable < length is) first = all_first (λ (c : Change). c.variable < length is) first more (subst (All (λ (c : Change). c.variable < length is)) e h.variables_in) in
    let ascend : Ascend first = ascend_first first more (subst Ascend e h.ascend) in
    let before_count : All (λ (c : Change). c.row < count) first = all_before first count ascend last in
    record {
      rows_in = λ i d l. let m = rows_in i d l in let n = before_count i d l in let t = length-take count rows in omega arith;
      variables_in = All-weaker (λ (c : Change). c.variable < length is) (λ (c : Change). c.variable < length js) (λ c m. omega arith) first variables_in;
      ascend = ascend;
      prefixes = λ n l. let t = length-take count rows in
          subst (λ (r : List Standing). AreTightest r (λ k. before first n k (interval_in js k))) (sym (take-take n count rows (omega arith)))
          (tightest_same (take n rows) (λ k. before changes n k (interval_in is k)) (λ k. before first n k (interval_in js k)) (λ k. back n k (omega arith)) (h.prefixes n (omega arith)));
    }
