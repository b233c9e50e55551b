-- Parts that are met, and goals that aren't.
use Rattle.std.proofs.Common.{◌≡◌, ◌∙◌, ◌⊎◌, inl, inr, ℕ, zero, suc, ◌+◌, ◌<◌, ◌≤◌, Bool, Result, Ok, Err, IfOk, OnOk, IsTrue, true, false, cond, List, [], ◌∷◌, ◌++◌, Some, None, MatchOption, length, map, slice_get, slice_index_or, refl, sym, ap, subst, arith}
use Rattle.std.proofs.lemmas.Option.{unwrap_or-slice_get}
use Rattle.std.specs.Option.{unwrap_or}
use Rattle.lq_refined_types.proofs.PartsLemmas.Flows.{some_of, MeetsSome}
use Rattle.lq_refined_types.specs.Parts.Assignment.{Assignment, all_joined, goal_under, part_under, parts_under}
use Rattle.lq_refined_types.specs.Parts.Constraint.{Constraint}
use Rattle.lq_refined_types.specs.Parts.Flowing.{Selection, assigned, picked}
use Rattle.lq_refined_types.specs.Parts.Part.{Part, Parts}
use Rattle.lq_refined_types.specs.Parts.Substitution.{Subst, formula_by}
use Rattle.lq_solve_facts.specs.Facts.Plain.{IsPlain}
use Rattle.lq_logic_predicates.specs.ClosedImplication.{MeetsEach}
use Rattle.lq_logic_predicates.specs.Formula.{Formula}
use Rattle.lq_logic_predicates.specs.Points.{Meets, Point}
use Rattle.lq_logic_predicates.specs.Reading.{reading_of}
use Rattle.lq_refined_substitution.specs.Implications.Views.{environment_in, implication_view}
use Rattle.lq_refined_substitution.specs.declared.implications.implication.Implication as code
use Rattle.lq_refined_substitution.specs.Substitution.Views.{part_view, parts_view}
use Rattle.lq_refined_types.specs.Subtyping.Implication as Implication
use Rattle.lq_refined_types.specs.Subtyping.Implication.{constraint_of}
use Rattle.lq_solve_fixpoint.specs.Weakening.Judging.{HoldsThere, Instances}
use Rattle.lq_solve_facts.specs.Nearest.Reading.{EachPlain}

some_is : {X : Type 0} (x y : X) → Some x ≡ Some y → x ≡ y
some_is x y e = cc

pub if_true : {E : Type 0} (r : Result Bool E) (P Q : Type 0) → (P → Q) → IfOk r (λ b. IsTrue b → P) → IfOk r (λ b. IsTrue b → Q)
if_true (Ok b) P Q f h = λ t. f (h t)
if_true (Err e) P Q f h = tt

pub on_ok : {X E : Type 0} (r : Result X E) (P Q : Type 0) → (P → Q) → OnOk r P → OnOk r Q
on_ok (Ok x) P Q f h = f h
on_ok (Err e) P Q f h = tt

-- the instances of an unknown, and none of one that isn't there
pub listed : (all : List (List Formula)) (u : ℕ) (qs : List Formula) → Some qs ≡ slice_get all u → slice_index_or all u [] ≡ qs
listed all u qs e = sym (unwrap_or-slice_get all u []) ∙ ap (λ o. unwrap_or o []) (sym e)

pub unlisted : (all : List (List Formula)) (u : ℕ) → None ≡ slice_get all u → slice_index_or all u [] ≡ []
unlisted all u e = sym (unwrap_or-slice_get all u []) ∙ ap (λ o. unwrap_or o []) (sym e)

-- ---- what is met of lists

pub each_left : (p : Point) (xs ys : List Formula) → MeetsEach p (xs ++ ys) → MeetsEach p xs
each_left p [] ys h = tt
each_left p (x ∷ xs) ys h = (h.0, each_left p xs ys h.1)

pub each_right : (p : Point) (xs ys : List Formula) → MeetsEach p (xs ++ ys) → MeetsEach p ys
each_right p [] ys h = h
each_right p (x ∷ xs) ys h = each_right p xs ys h.1

pub each_join : (p : Point) (xs ys : List Formula) → MeetsEach p xs → MeetsEach p ys → MeetsEach p (xs ++ ys)
each_join p [] ys h k = k
each_join p (x ∷ xs) ys h k = (h.0, each_join p xs ys h.1 k)

-- the first of some parts that are met, and the last one
pub parts_split : (A : Assignment) (p : Point) (xs : Parts) (q : Part) → MeetsEach p (parts_under A (xs ++ q ∷ [])) → MeetsEach p (parts_under A xs) × MeetsEach p (part_under A q)
parts_split A p [] q h = (tt, each_left p (part_under A q) [] h)
parts_split A p (x ∷ xs) q h =
    let r = parts_split A p xs q (each_right p (part_under A x) (parts_under A (xs ++ q ∷ [])) h) in
    (each_join p (part_under A x) (parts_under A xs) (each_left p (part_under A x) (parts_under A (xs ++ q ∷ [])) h) r.0, r.1)

pub last_split : (A : Assignment) (p : Point) (left xs : Parts) (q : Part) → left ≡ xs ++ q ∷ [] → MeetsEach p (parts_under A left) → MeetsEach p (parts_under A xs) × MeetsEach p (part_under A q)
last_split A p left xs q e h = parts_split A p xs q (subst (λ l. MeetsEach p (parts_under A l)) e h)

-- ---- chosen instances

pub chosen_met : (p : Point) (f : ℕ → Bool) (σ : Subst) (k : ℕ) (qs : List Formula) → MeetsEach p (map (formula_by σ) (picked f k qs)) → (n : ℕ) (q : Formula) → f (k + n) ≡ true
    → Some q ≡ slice_get qs n → Meets p (reading_of true (formula_by σ q))
chosen_met p f σ k [] h n q c e = absurd (cc)
chosen_met p f σ k (a ∷ qs) h zero q c e = by (f k) (subst (λ j. f j ≡ true) (omega arith) c) h
  where
    by : (b : Bool) → b ≡ true → MeetsEach p (map (formula_by σ) (cond b (a ∷ picked f (suc k) qs) (picked f (suc k) qs))) → Meets p (reading_of true (formula_by σ q))
    by true t g = subst (λ x. Meets p (reading_of true (formula_by σ x))) (some_is a q (sym e)) g.0
    by false t g = absurd (cc)
chosen_met p f σ k (a ∷ qs) h (suc n) q c e = by (f k) h (λ r. chosen_met p f σ (suc k) qs r n q (subst (λ j. f j ≡ true) (omega arith) c) e)
  where
    by : (b : Bool) → MeetsEach p (map (formula_by σ) (cond b (a ∷ picked f (suc k) qs) (picked f (suc k) qs)))
        → (MeetsEach p (map (formula_by σ) (picked f (suc k) qs)) → Meets p (reading_of true (formula_by σ q))) → Meets p (reading_of true (formula_by σ q))
    by true g rest = rest g.1
    by false g rest = rest g

pub chosen_is_met : (p : Point) (f : ℕ → Bool) (σ : Subst) (qs : List Formula) → MeetsEach p (map (formula_by σ) (picked f 0 qs)) → (n : ℕ) (q : Formula) → f n ≡ true
    → Some q ≡ slice_get qs n → Meets p (reading_of true (formula_by σ q))
chosen_is_met p f σ qs h n q c e = chosen_met p f σ 0 qs h n q (subst (λ j. f j ≡ true) (omega arith) c) e

-- each of the first n instances that is chosen has a negation that isn't met
abbrev pub NoneOf : Point → (ℕ → Bool) → Subst → ℕ → ℕ → List Formula → Type 0
NoneOf p f σ k n qs = (i : ℕ) (q : Formula) → i < n → f (k + i) ≡ true → Some q ≡ slice_get qs i → Meets p (reading_of false (formula_by σ q)) → ⊥

some_chosen : (p : Point) (f : ℕ → Bool) (σ : Subst) (k : ℕ) (qs : List Formula) → NoneOf p f σ k (length qs) qs → MeetsSome p (map (formula_by σ) (picked f k qs)) → ⊥
some_chosen p f σ k [] h m = absurd m
some_chosen p f σ k (a ∷ qs) h m = by (f k) refl m (some_chosen p f σ (suc k) qs rest)
  where
    rest : NoneOf p f σ (suc k) (length qs) qs
    rest i q w c e = h (suc i) q (omega (arith, w)) (subst (λ j. f j ≡ true) (omega arith) c) e

    by : (b : Bool) → f k ≡ b → MeetsSome p (map (formula_by σ) (cond b (a ∷ picked f (suc k) qs) (picked f (suc k) qs)))
        → (MeetsSome p (map (formula_by σ) (picked f (suc k) qs)) → ⊥) → ⊥
    by true t (inl x) none = h 0 a (omega arith) (subst (λ j. f j ≡ true) (omega arith) t) refl x
    by true t (inr s) none = none s
    by false t s none = none s

pub none_against : (p : Point) (f : ℕ → Bool) (σ : Subst) (qs : List Formula) → NoneOf p f σ 0 (length qs) qs → Meets p (reading_of false (all_joined (map (formula_by σ) (picked f 0 qs)))) → ⊥
none_against p f σ qs h m = some_chosen p f σ 0 qs h (some_of p (map (formula_by σ) (picked f 0 qs)) m)

pub none_past : (p : Point) (f : ℕ → Bool) (σ : Subst) (n : ℕ) (qs : List Formula) → length qs ≤ n → NoneOf p f σ 0 n qs → NoneOf p f σ 0 (length qs) qs
none_past p f σ n qs w h i q v = h i q (omega (arith, v, w))

below_next : (n k : ℕ) → k < n + 1 → (k < n) ⊎ (n ≡ k)
below_next zero zero w = inr refl
below_next zero (suc k) w = absurd (omega (arith, w))
below_next (suc n) zero w = inl (omega arith)
below_next (suc n) (suc k) w = elim (below_next n k (omega (arith, w))) [ inl v ↦ inl (omega (arith, v)) | inr e ↦ inr (omega (arith, e)) ]

pub none_next : (p : Point) (f : ℕ → Bool) (σ : Subst) (n : ℕ) (qs : List Formula) (a : Formula) → Some a ≡ slice_get qs n → NoneOf p f σ 0 n qs
    → (f n ≡ true → Meets p (reading_of false (formula_by σ a)) → ⊥) → NoneOf p f σ 0 (n + 1) qs
none_next p f σ n qs a e h g i q w c d m = by (below_next n i w)
  where
    by : (i < n) ⊎ (n ≡ i) → ⊥
    by (inl v) = h i q v c d m
    by (inr s) =
        let same : a ≡ q = some_is a q (e ∙ ap (slice_get qs) s ∙ sym d) in
        g (subst (λ j. f j ≡ true) (omega (arith, s)) c) (subst (λ x. Meets p (reading_of false (formula_by σ x))) (sym same) m)

-- each of the first n instances that is chosen is so
abbrev pub ChosenAre : (Formula → Type 0) → (ℕ → Bool) → ℕ → List Formula → Type 0
ChosenAre P f n qs = (i : ℕ) (q : Formula) → i < n → f i ≡ true → Some q ≡ slice_get qs i → P q

-- the chosen ones from the n-th on
abbrev pub ChosenFrom : (Formula → Type 0) → (ℕ → Bool) → ℕ → List Formula → Type 0
ChosenFrom P f n qs = (i : ℕ) (q : Formula) → n ≤ i → f i ≡ true → Some q ≡ slice_get qs i → P q

pub from_next : (P : Formula → Type 0) (f : ℕ → Bool) (m n : ℕ) (qs : List Formula) (a : Formula) → m ≤ n + 1 → Some a ≡ slice_get qs n → ChosenFrom P f m qs → (f n ≡ true → P a)
    → ChosenFrom P f n qs
from_next P f m n qs a w e h g i q v c d = by (below_next i n (omega (arith, v)))
  where
    by : (n < i) ⊎ (i ≡ n) → P q
    by (inl x) = h i q (omega (arith, w, x)) c d
    by (inr s) = subst P (some_is a q (e ∙ ap (slice_get qs) (sym s) ∙ sym d)) (g (subst (λ j. f j ≡ true) s c))

pub from_first : (P : Formula → Type 0) (f : ℕ → Bool) (n : ℕ) (qs : List Formula) → ChosenFrom P f 0 qs → ChosenAre P f n qs
from_first P f n qs h i q w c e = h i q (omega arith) c e

-- a formula with something put for its names is met, and is plain
abbrev pub IsMetBy : Point → Subst → Formula → Type 0
IsMetBy p σ q = Meets p (reading_of true (formula_by σ q)) × IsPlain (formula_by σ q)

chosen_from : (p : Point) (f : ℕ → Bool) (σ : Subst) (k : ℕ) (qs : List Formula)
    → ((i : ℕ) (q : Formula) → i < length qs → f (k + i) ≡ true → Some q ≡ slice_get qs i → IsMetBy p σ q)
    → MeetsEach p (map (formula_by σ) (picked f k qs)) × EachPlain (map (formula_by σ) (picked f k qs))
chosen_from p f σ k [] h = (tt, tt)
chosen_from p f σ k (a ∷ qs) h = by (f k) refl (chosen_from p f σ (suc k) qs (λ i q w c e. h (suc i) q (omega (arith, w)) (subst (λ j. f j ≡ true) (omega arith) c) e))
  where
    by : (b : Bool) → f k ≡ b → MeetsEach p (map (formula_by σ) (picked f (suc k) qs)) × EachPlain (map (formula_by σ) (picked f (suc k) qs))
        → MeetsEach p (map (formula_by σ) (cond b (a ∷ picked f (suc k) qs) (picked f (suc k) qs))) × EachPlain (map (formula_by σ) (cond b (a ∷ picked f (suc k) qs) (picked f (suc k) qs)))
    by true t rest = let here = h 0 a (omega arith) (subst (λ j. f j ≡ true) (omega arith) t) refl in ((here.0, rest.0), (here.1, rest.1))
    by false t rest = rest

pub all_chosen : (p : Point) (f : ℕ → Bool) (σ : Subst) (n : ℕ) (qs : List Formula) → length qs ≤ n → ChosenAre (IsMetBy p σ) f n qs
    → MeetsEach p (map (formula_by σ) (picked f 0 qs)) × EachPlain (map (formula_by σ) (picked f 0 qs))
all_chosen p f σ n qs w h = chosen_from p f σ 0 qs (λ i q v c e. h i q (omega (arith, v, w)) (subst (λ j. f j ≡ true) (omega arith) c) e)

-- ---- an implication

get_map : {X Y : Type 0} (f : X → Y) (xs : List X) (at : ℕ) (x : X) → slice_get xs at ≡ Some x → slice_get (map f xs) at ≡ Some (f x)
get_map f [] at x e = absurd (cc)
get_map f (a ∷ xs) zero x e = ap (λ y. Some (f y)) (some_is a x e)
get_map f (a ∷ xs) (suc at) x e = get_map f xs at x e

-- the hypotheses of the implication of a number, and its goal
abbrev pub AreIts : List Implication.Implication → ℕ → Parts → Type 0
AreIts is at hs = MatchOption (slice_get is at) (hs ≡ []) (λ i. hs ≡ i.hypotheses ++ i.left)

pub follows_there : (I : Instances) (c : Selection) (es : List Parts) (is : List code.Implication) (at : ℕ) (item : code.Implication) (hs : Parts) → Some item ≡ slice_get is at
    → AreIts (map (implication_view es) is) at hs
    → ((p : Point) → MeetsEach p (parts_under (assigned I c) hs) → Meets p (reading_of false (goal_under (assigned I c) (part_view item.goal))) → ⊥)
    → HoldsThere I (map constraint_of (map (implication_view es) is)) c at
follows_there I c es is at item hs e h f k g = λ p is_point meets against.
    let view : Implication.Implication = implication_view es item in
    let here : slice_get (map (implication_view es) is) at ≡ Some view = get_map (implication_view es) is at item (sym e) in
    let same : hs ≡ view.hypotheses ++ view.left = subst (λ o. MatchOption o (hs ≡ []) (λ i. hs ≡ i.hypotheses ++ i.left)) here h in
    let made : constraint_of view ≡ k = some_is (constraint_of view) k (sym (get_map constraint_of (map (implication_view es) is) at view here) ∙ g) in
    f p (subst (λ l. MeetsEach p (parts_under (assigned I c) l)) (sym (same ∙ ap (λ (x : Constraint). x.hypotheses) made)) meets)
    (subst (λ q. Meets p (reading_of false (goal_under (assigned I c) q))) (sym (ap (λ (x : Constraint). x.goal) made)) against)

-- of the code's implication at the number
pub follows_here : (I : Instances) (c : Selection) (es : List Parts) (is : List code.Implication) (at : ℕ) (item : code.Implication) → Some item ≡ slice_get is at
    → ((p : Point) → MeetsEach p (parts_under (assigned I c) (environment_in es item.env ++ parts_view item.left)) → Meets p (reading_of false (goal_under (assigned I c) (part_view item.goal))) → ⊥)
    → HoldsThere I (map constraint_of (map (implication_view es) is)) c at
follows_here I c es is at item e f = follows_there I c es is at item hs e (subst (λ o. MatchOption o (hs ≡ []) (λ i. hs ≡ i.hypotheses ++ i.left)) (sym (get_map (implication_view es) is at item (sym e))) refl) f
  where
    hs : Parts
    hs = environment_in es item.env ++ parts_view item.left
