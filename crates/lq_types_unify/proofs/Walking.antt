-- Steps of a walk through the classes.
use Rattle.std.proofs.Common.{◌≡◌, ◌≢◌, ◌⊎◌, inl, inr, ℕ, zero, suc, ◌+◌, ◌<◌, ◌≤◌, ◌==◌, Bool, true, false, if◌then◌else◌, List, [], ◌∷◌, ◌++◌, Option, All, AllPairs, length, get_or, set, refl, sym, ap, subst, ◌∙◌, arith, get_or-set_same, get_or-set_other, length-set}
use Rattle.std.proofs.lemmas.Bool.{cases_eq, cases_lt, eq-eqb, ne_eqb}
use Rattle.std.proofs.lemmas.List.{get_or_append_left, get_or_push, length_push, get_or_default}
use Rattle.std.proofs.lemmas.List.Quantifiers.{all_pairs_push}
use Rattle.lq_types_unify.specs.declared.order.Mark.{Mark}
use Rattle.lq_types_unify.specs.declared.order.Mark.TheVariants.{Fresh, Active, Done}
use Rattle.lq_types_unify.specs.declared.order.Visit.{Visit}
use Rattle.lq_types_unify.specs.Simple.{Simple, size}
use Rattle.lq_types_unify.specs.Nodes.{Form}
use Rattle.lq_types_unify.specs.Solution.{Fits}
use Rattle.lq_types_unify.specs.Classes.{up, root, AreShared}
use Rattle.lq_types_unify.specs.Value.{inner, IsRanked}
use Rattle.lq_types_unify.specs.Visits.{IsTable, mark_at, AreDone, IsNextVisit, IsVisit, IsAbove, IsOn, IsWalk, IsMarked, AreCalm, one_fresh, fresh, StaysSeen}
use Rattle.lq_types_unify.proofs.Linking.{All_push, All_front, All_last}
use Rattle.lq_types_unify.proofs.Sizes.{smaller}

pub mark_same : (ms : List Mark) (k : ℕ) (m : Mark) → k < length ms → mark_at (set ms k m) k ≡ m
mark_same ms k m h = get_or-set_same ms k m Fresh h

pub mark_other : (ms : List Mark) (k r : ℕ) (m : Mark) → r ≢ k → mark_at (set ms k m) r ≡ mark_at ms r
mark_other ms k r m h = get_or-set_other ms k r m Fresh h

fresh_set : (ms : List Mark) (k : ℕ) (m : Mark) → k < length ms → fresh (set ms k m) + one_fresh (mark_at ms k) ≡ fresh ms + one_fresh m
fresh_set [] k m h = absurd (omega arith)
fresh_set (n ∷ ms) zero m h = omega arith
fresh_set (n ∷ ms) (suc k) m h = let i = fresh_set ms k m (omega arith) in omega arith

done_active : Done ≢ Active
done_active e = cc

done_fresh : Done ≢ Fresh
done_fresh e = cc

pub fresh_done : (ms : List Mark) (k : ℕ) → k < length ms → fresh (set ms k Done) ≤ fresh ms
fresh_done ms k h = omega (arith, fresh_set ms k Done h)

pub fresh_active : (ms : List Mark) (k : ℕ) → k < length ms → mark_at ms k ≡ Fresh → fresh (set ms k Active) + 1 ≡ fresh ms
fresh_active ms k h e = let f : one_fresh (mark_at ms k) ≡ 1 = ap one_fresh e in omega (arith, fresh_set ms k Active h)

-- ---- what is done stays done

Later : List Mark → List Mark → Type 0
Later old new = (r : ℕ) → mark_at old r ≡ Done → mark_at new r ≡ Done

later_done : (ms : List Mark) (c : ℕ) → c < length ms → (r : ℕ) → mark_at ms r ≡ Done → mark_at (set ms c Done) r ≡ Done
later_done ms c h r e = elim (cases_eq r c) [
  | inl f ↦ ap (mark_at (set ms c Done)) f ∙ mark_same ms c Done h
  | inr f ↦ mark_other ms c r Done f ∙ e
]

later_active : (ms : List Mark) (c : ℕ) → mark_at ms c ≢ Done → (r : ℕ) → mark_at ms r ≡ Done → mark_at (set ms c Active) r ≡ Done
later_active ms c n r e = elim (cases_eq r c) [
  | inl f ↦ absurd (n (ap (mark_at ms) (sym f) ∙ e))
  | inr f ↦ mark_other ms c r Active f ∙ e
]

done_later : (ps : List ℕ) (old new : List Mark) (row : List ℕ) (next : ℕ) → ((r : ℕ) → mark_at old r ≡ Done → mark_at new r ≡ Done) → AreDone ps old row next → AreDone ps new row next
done_later ps old new row next h d k l m = h _ (d k l m)

visit_later : (forms : ℕ → Option Form) (n : ℕ) (ps shapes : List ℕ) (old new : List Mark) (v : Visit) → ((r : ℕ) → mark_at old r ≡ Done → mark_at new r ≡ Done)
    → IsVisit forms n ps shapes old v → IsVisit forms n ps shapes new v
visit_later forms n ps shapes old new v h i = record { inside = i.inside; is_root = i.is_root; before = done_later ps old new _ _ h i.before }

-- ---- rows of visits

pairs_front : {X : Type 0} (R : X → X → Type 0) (xs : List X) (x : X) → AllPairs R (xs ++ x ∷ []) → AllPairs R xs
pairs_front R xs x a i j d l m = subst (λ y. R y (get_or xs j d)) (get_or_append_left xs (x ∷ []) d i (omega arith))
    (subst (R (get_or (xs ++ x ∷ []) i d)) (get_or_append_left xs (x ∷ []) d j m) (a i j d l (omega (arith, length_push xs x))))

pairs_last : {X : Type 0} (R : X → X → Type 0) (xs : List X) (x : X) → AllPairs R (xs ++ x ∷ []) → All (λ y. R y x) xs
pairs_last R xs x a k d h = subst (λ y. R y x) (get_or_append_left xs (x ∷ []) d k h)
    (subst (R (get_or (xs ++ x ∷ []) k d)) (get_or_push xs x d (length xs) refl) (a k (length xs) d h (omega (arith, length_push xs x))))

on_left : (r : ℕ) (xs ys : List Visit) → IsOn r xs → IsOn r (xs ++ ys)
on_left r [] ys o = absurd o
on_left r (v ∷ xs) ys (inl e) = inl e
on_left r (v ∷ xs) ys (inr o) = inr (on_left r xs ys o)

on_last : (r : ℕ) (xs : List Visit) (v : Visit) → v.class ≡ r → IsOn r (xs ++ v ∷ [])
on_last r [] v e = inl e
on_last r (x ∷ xs) v e = inr (on_last r xs v e)

on_push : (r : ℕ) (xs : List Visit) (v : Visit) → IsOn r (xs ++ v ∷ []) → IsOn r xs ⊎ (v.class ≡ r)
on_push r [] v (inl e) = inr e
on_push r [] v (inr o) = absurd o
on_push r (x ∷ xs) v (inl e) = inl (inl e)
on_push r (x ∷ xs) v (inr o) = elim (on_push r xs v o) [ inl p ↦ inl (inr p) | inr p ↦ inr p ]

all_on : (P : ℕ → Type 0) (r : ℕ) (xs : List Visit) → IsOn r xs → All (λ v. P v.class) xs → P r
all_on P r [] o a = absurd o
all_on P r (v ∷ xs) (inl e) a = subst P e (a 0 v (omega arith))
all_on P r (v ∷ xs) (inr o) a = all_on P r xs o (λ k d h. a (suc k) d (omega arith))

-- ---- a class is done

pub walk_done : (forms : ℕ → Option Form) (n : ℕ) (ps shapes : List ℕ) (marks : List Mark) (front : List Visit) (v : Visit) → v.class < length marks
    → IsWalk forms n ps shapes marks (front ++ v ∷ []) → IsWalk forms n ps shapes (set marks v.class Done) front
walk_done forms n ps shapes marks front v h w = record {
  visits = λ k d l. visit_later forms n ps shapes marks (set marks v.class Done) _ (later_done marks v.class h) (All_front (IsVisit forms n ps shapes marks) front (v ∷ []) w.visits k d l);
  above = pairs_front (IsAbove forms ps) front v w.above;
  on = on;
}
  where
    on : (r : ℕ) → mark_at (set marks v.class Done) r ≡ Active → IsOn r front
    on r e = elim (cases_eq r v.class) [
      | inl f ↦ absurd (done_active (sym (mark_same marks v.class Done h) ∙ ap (mark_at (set marks v.class Done)) (sym f) ∙ e))
      | inr f ↦ elim (on_push r front v (w.on r (sym (mark_other marks v.class r Done f) ∙ e))) [ inl o ↦ o | inr g ↦ absurd (f (sym g)) ]
    ]

is_done : Mark → Bool
is_done Fresh = false
is_done Active = false
is_done Done = true

pub by_done : (m : Mark) {P : Type 0} → (m ≡ Done → P) → (m ≢ Done → P) → P
by_done Fresh f g = g (λ e. cc)
by_done Active f g = g (λ e. cc)
by_done Done f g = f refl

ranked : (rank : ℕ → ℕ) (c top r : ℕ) → ℕ
ranked rank c top r = if r == c then top else rank r

ranked_here : (rank : ℕ → ℕ) (c top r : ℕ) → r ≡ c → ranked rank c top r ≡ top
unfolding ranked
ranked_here rank c top r e = ap (λ t. if t then top else rank r) (eq-eqb r c e)

ranked_there : (rank : ℕ → ℕ) (c top r : ℕ) → r ≢ c → ranked rank c top r ≡ rank r
unfolding ranked
ranked_there rank c top r e = ap (λ t. if t then top else rank r) (ne_eqb r c e)

pub marked_done : (forms : ℕ → Option Form) (n : ℕ) (ps shapes : List ℕ) (marks : List Mark) (count c : ℕ) → c < length marks
    → AreDone ps marks (inner forms shapes c) (length (inner forms shapes c)) → IsMarked forms n ps shapes marks count → IsMarked forms n ps shapes (set marks c Done) (count + 1)
marked_done forms n ps shapes marks count c h row m = by_done (mark_at marks c)
    (λ e. record {
      marks_length = length-set marks c Done ∙ m.marks_length;
      rank = m.rank;
      below = λ r. let b = m.below r in omega arith;
      parts = λ r f. parts r f;
      falls = λ r f. m.falls r (old_done e r f);
    })
    (λ e. record {
      marks_length = length-set marks c Done ∙ m.marks_length;
      rank = ranked m.rank c (count + 1);
      below = λ r. elim (cases_eq r c) [
        | inl f ↦ omega (arith, ranked_here m.rank c (count + 1) r f)
        | inr f ↦ omega (arith, ranked_there m.rank c (count + 1) r f, m.below r)
      ];
      parts = λ r f. parts r f;
      falls = λ r f k d l. elim (cases_eq r c) [
        | inl g ↦ subst (λ (j : ℕ). ranked m.rank c (count + 1) (root ps (get_or (inner forms shapes j) k d)) < ranked m.rank c (count + 1) j) (sym g)
            (let part : ℕ = get_or (inner forms shapes c) k d in
            let l2 : k < length (inner forms shapes c) = subst (λ (j : ℕ). k < length (inner forms shapes j)) g l in
            let p : mark_at marks (root ps part) ≡ Done = at_any ps marks (inner forms shapes c) k d l2 (row k l2 l2) in
            omega (arith, ranked_here m.rank c (count + 1) c refl, ranked_there m.rank c (count + 1) (root ps part) (λ q. e (ap (mark_at marks) (sym q) ∙ p)), m.below (root ps part)))
        | inr g ↦
            let part : ℕ = get_or (inner forms shapes r) k d in
            let o : mark_at marks r ≡ Done = sym (mark_other marks c r Done g) ∙ f in
            let p : mark_at marks (root ps part) ≡ Done = at_any ps marks (inner forms shapes r) k d l (m.parts r o k l l) in
            omega (arith, ranked_there m.rank c (count + 1) r g, ranked_there m.rank c (count + 1) (root ps part) (λ q. e (ap (mark_at marks) (sym q) ∙ p)), m.falls r o k d l)
      ];
    })
  where
    at_any : (ps : List ℕ) (marks : List Mark) (row : List ℕ) (k d : ℕ) → k < length row → mark_at marks (root ps (get_or row k 0)) ≡ Done → mark_at marks (root ps (get_or row k d)) ≡ Done
    at_any ps marks row k d l e = subst (λ j. mark_at marks (root ps j) ≡ Done) (get_or_default row k 0 d l) e

    old_done : mark_at marks c ≡ Done → (r : ℕ) → mark_at (set marks c Done) r ≡ Done → mark_at marks r ≡ Done
    old_done e r f = elim (cases_eq r c) [
      | inl g ↦ ap (mark_at marks) g ∙ e
      | inr g ↦ sym (mark_other marks c r Done g) ∙ f
    ]

    parts : (r : ℕ) → mark_at (set marks c Done) r ≡ Done → AreDone ps (set marks c Done) (inner forms shapes r) (length (inner forms shapes r))
    parts r f = elim (cases_eq r c) [
      | inl g ↦ subst (λ j. AreDone ps (set marks c Done) (inner forms shapes j) (length (inner forms shapes j))) (sym g) (done_later ps marks (set marks c Done) _ _ (later_done marks c h) row)
      | inr g ↦ done_later ps marks (set marks c Done) _ _ (later_done marks c h) (m.parts r (sym (mark_other marks c r Done g) ∙ f))
    ]

-- ---- a part is visited

pub above_part : (forms : ℕ → Option Form) (n : ℕ) (ps shapes : List ℕ) (marks : List Mark) (v found w : Visit) → IsTable forms n ps shapes → up ps v.class ≡ v.class
    → IsNextVisit forms n ps shapes marks v found → w.class ≡ found.class → IsAbove forms ps v w
above_part forms n ps shapes marks v found w t r f e types fits shared =
    subst (λ (c : ℕ). size (types c) < size (types v.class)) (sym (e ∙ f.part)) (smaller forms n ps shapes types v.class t.own r fits shared found.next 0 f.at)

above_then : (forms : ℕ → Option Form) (ps : List ℕ) (u v w : Visit) → IsAbove forms ps u v → IsAbove forms ps v w → IsAbove forms ps u w
above_then forms ps u v w a b types fits shared = let x = a types fits shared in let y = b types fits shared in omega arith

above_same : (forms : ℕ → Option Form) (ps : List ℕ) (u v w : Visit) → w.class ≡ v.class → IsAbove forms ps u v → IsAbove forms ps u w
above_same forms ps u v w e a types fits shared = subst (λ (c : ℕ). size (types c) < size (types u.class)) (sym e) (a types fits shared)

pub walk_on : (forms : ℕ → Option Form) (n : ℕ) (ps shapes : List ℕ) (marks : List Mark) (front : List Visit) (v found x w : Visit) → IsTable forms n ps shapes → found.class < length marks
    → IsWalk forms n ps shapes marks (front ++ v ∷ []) → IsNextVisit forms n ps shapes marks v found → x.class ≡ v.class → x.next ≡ found.next → w.class ≡ found.class → w.next ≡ 0
    → IsWalk forms n ps shapes (set marks found.class Active) ((front ++ x ∷ []) ++ w ∷ [])
walk_on forms n ps shapes marks front v found x w t h walk f xc xn wc wn = record {
  visits = All_push (IsVisit forms n ps shapes new) (front ++ x ∷ []) w
      (All_push (IsVisit forms n ps shapes new) front x (λ k d l. visit_later forms n ps shapes marks new _ later (All_front (IsVisit forms n ps shapes marks) front (v ∷ []) walk.visits k d l)) at_x)
      at_w;
  above = all_pairs_push (IsAbove forms ps) (front ++ x ∷ []) w front_x
      (All_push (λ u. IsAbove forms ps u w) front x
      (λ k d l. above_then forms ps (get_or front k d) v w (pairs_last (IsAbove forms ps) front v walk.above k d l) below_v)
      (λ types fits shared. subst (λ (c : ℕ). size (types w.class) < size (types c)) (sym xc) (below_v types fits shared)));
  on = on;
}
  where
    new : List Mark
    new = set marks found.class Active

    later : (r : ℕ) → mark_at marks r ≡ Done → mark_at (set marks found.class Active) r ≡ Done
    later = later_active marks found.class f.undone

    here : IsVisit forms n ps shapes marks v
    here = All_last (IsVisit forms n ps shapes marks) front v walk.visits

    at_x : IsVisit forms n ps shapes (set marks found.class Active) x
    at_x = record {
      inside = subst (λ (c : ℕ). c < n) (sym xc) here.inside;
      is_root = ap (up ps) xc ∙ here.is_root ∙ sym xc;
      before = done_later ps marks (set marks found.class Active) _ _ later
          (subst (λ (c : ℕ). AreDone ps marks (inner forms shapes c) x.next) (sym xc) (subst (AreDone ps marks (inner forms shapes v.class)) (sym xn) f.before));
    }

    at_w : IsVisit forms n ps shapes (set marks found.class Active) w
    at_w = record {
      inside = subst (λ (c : ℕ). c < n) (sym wc) f.inside;
      is_root = ap (up ps) wc ∙ f.is_root ∙ sym wc;
      before = λ k l m. absurd (omega arith);
    }

    below_v : IsAbove forms ps v w
    below_v = above_part forms n ps shapes marks v found w t here.is_root f wc

    front_x : AllPairs (IsAbove forms ps) (front ++ x ∷ [])
    front_x = all_pairs_push (IsAbove forms ps) front x (pairs_front (IsAbove forms ps) front v walk.above)
        (λ k d l. above_same forms ps (get_or front k d) v x xc (pairs_last (IsAbove forms ps) front v walk.above k d l))

    on : (r : ℕ) → mark_at (set marks found.class Active) r ≡ Active → IsOn r ((front ++ x ∷ []) ++ w ∷ [])
    on r e = elim (cases_eq r found.class) [
      | inl g ↦ on_last r (front ++ x ∷ []) w (wc ∙ sym g)
      | inr g ↦ on_left r (front ++ x ∷ []) (w ∷ []) (elim (on_push r front v (walk.on r (sym (mark_other marks found.class r Active g) ∙ e))) [
        | inl o ↦ on_left r front (x ∷ []) o
        | inr o ↦ on_last r front x (xc ∙ o)
      ])
    ]

-- ---- a class that is its own part

pub no_cycle : (forms : ℕ → Option Form) (n : ℕ) (ps shapes : List ℕ) (marks : List Mark) (front : List Visit) (v found : Visit) → IsTable forms n ps shapes
    → IsWalk forms n ps shapes marks (front ++ v ∷ []) → IsNextVisit forms n ps shapes marks v found → mark_at marks found.class ≡ Active
    → (types : ℕ → Simple) → Fits forms types → AreShared ps types → ⊥
no_cycle forms n ps shapes marks front v found t walk f e types fits shared =
    let below : size (types found.class) < size (types v.class) = above_part forms n ps shapes marks v found found t (All_last (IsVisit forms n ps shapes marks) front v walk.visits).is_root f refl types fits shared in
    elim (on_push found.class front v (walk.on found.class e)) [
      | inl o ↦
          let over : size (types v.class) < size (types found.class) = all_on (λ c. size (types v.class) < size (types c)) found.class front o (λ k d l. pairs_last (IsAbove forms ps) front v walk.above k d l types fits shared) in
          omega arith
      | inr o ↦ let same : size (types v.class) ≡ size (types found.class) = ap (λ c. size (types c)) o in omega arith
    ]

-- ---- and at the end all are done

pub is_done_now : (m : Mark) → m ≢ Fresh → m ≢ Active → m ≡ Done
is_done_now Fresh f a = absurd (f refl)
is_done_now Active f a = absurd (a refl)
is_done_now Done f a = refl

pub all_ranked : (forms : ℕ → Option Form) (n : ℕ) (ps shapes : List ℕ) (marks : List Mark) (count : ℕ) → ((r : ℕ) → n ≤ r → length (inner forms shapes r) ≡ 0) → IsMarked forms n ps shapes marks count
    → AreCalm marks → ((r : ℕ) → r < n → up ps r ≡ r → mark_at marks r ≢ Fresh) → IsRanked forms ps shapes (count + 1)
all_ranked forms n ps shapes marks count past m calm seen = record {
  rank = m.rank;
  below = λ r. let b = m.below r in omega arith;
  falls = λ r e. elim (cases_lt r n) [
    | inl l ↦ m.falls r (is_done_now (mark_at marks r) (seen r l e) (calm r))
    | inr l ↦ λ k d h. absurd (let z = past r l in omega arith)
  ];
}

pub marked_start : (forms : ℕ → Option Form) (n : ℕ) (ps shapes : List ℕ) (marks : List Mark) (count : ℕ) → length marks ≡ n → ((r : ℕ) → mark_at marks r ≡ Fresh) → IsMarked forms n ps shapes marks count
marked_start forms n ps shapes marks count e fresh = record {
  marks_length = e;
  rank = λ r. 0;
  below = λ r. omega arith;
  parts = λ r f. absurd (done_fresh (sym f ∙ fresh r));
  falls = λ r f. absurd (done_fresh (sym f ∙ fresh r));
}
