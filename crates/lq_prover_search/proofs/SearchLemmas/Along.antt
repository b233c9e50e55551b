-- Pairs of one application after the other.
use Rattle.std.proofs.Common.{◌≡◌, ◌∙◌, ◌⊎◌, inl, inr, Bool, true, false, ℕ, zero, suc, ◌+◌, ◌<◌, ◌≤◌, List, [], ◌∷◌, ◌++◌, Option, Some, None, All, IfNone, IfSome, cond, if◌then◌else◌, map, slice_get, slice_index_or, take, length, refl, sym, ap, subst, add-one, arith, nat_le}
use Rattle.std.proofs.lemmas.Bool.Decides.{nat_tests}
use Rattle.std.specs.List.{filter}
use Rattle.std.specs.Option.{option_to_list}
use Rattle.std.proofs.lemmas.List.{append-nil}
use Rattle.std.proofs.lemmas.List.Elements.{All-nil, All-push, Contains-append_left, Contains-push}
use Rattle.lq_prover_proof_tree.specs.Trees.Proves.{ApplyTwo, five_ways}
use Rattle.lq_prover_proof_tree.specs.Literals.Gathered.{sizes}
use Rattle.lq_prover_proof_tree.specs.Literals.Parts.{is_application, places_from}
use Rattle.lq_logic_points.proofs.Walks.{pair_fits}
use Rattle.lq_logic_points.specs.Agreeing.{HasAllArguments}
use Rattle.lq_logic_predicates.specs.Comparison.{CanGather}
use Rattle.lq_logic_predicates.specs.Literals.{all_pairs, pair_rows}
use Rattle.lq_logic_predicates.specs.NnfView.{nnfs_view}
use Rattle.lq_logic_predicates.specs.Numbering.{slice_get-has_term}
use Rattle.lq_logic_predicates.specs.Sum.{Sum}
use Rattle.lq_logic_predicates.specs.TermView.{sum_of}
use Rattle.lq_prover_search.specs.Search.Operations.{operation_of, operation_view}
use Rattle.lq_prover_search.specs.Search.Pairs.{AreAllPairs, AreOrdered, ArePairsUpTo, AreWays, CanPair, HasPair, IsNumbered, IsOperationAt, IsPair, application_at}
use Rattle.lq_prover_search.specs.Search.SearchPath.{ways_of}
use Rattle.lq_prover_search.specs.Search.Sizes.{most_of_any, most_of_each, row_size}
use Rattle.lq_prover_search.specs.declared.search.applied.Operation.{Operation}
use Rattle.lq_prover_search.specs.declared.search.pair.Pair.{Pair}
use Rattle.lq_prover_search.proofs.SearchLemmas.Operations.{IsApplied, applied_is, applied_numbered, apply_two, one_operator, operates, operators_one, two_fit}
use Rattle.lq_prover_search.proofs.SearchLemmas.PairSizes.{all_pairs-push, all_pairs_more, before, before-push, before_more, pair_size, pairs_filtered, take_next, take_past}
use Rattle.lq_prover_search.proofs.SearchLemmas.Places.{place_at, place_rises, places_reach}

some_once : {A : Type 0} (x y : A) → Some x ≡ Some y → x ≡ y
some_once x y h = cc

-- ---- an application at a place

index_get : (xs : List ℕ) (k d : ℕ) → k < length xs → slice_get xs k ≡ Some (slice_index_or xs k d)
index_get [] k d h = absurd (omega (arith, h))
index_get (x ∷ xs) zero d h = refl
index_get (x ∷ xs) (suc k) d h = index_get xs k d (omega (arith, h))

get_inside : {A : Type 0} (xs : List A) (k : ℕ) (x : A) → slice_get xs k ≡ Some x → k < length xs
get_inside [] k x h = cc
get_inside (y ∷ xs) zero x h = omega arith
get_inside (y ∷ xs) (suc k) x h = let r = get_inside xs k x h in omega (arith, r)

pub place_of : (terms : List Sum) (places : List ℕ) (k : ℕ) → places ≡ places_from 0 terms → k < length places → slice_get (places_from 0 terms) k ≡ Some (slice_index_or places k 0)
place_of terms places k e h = subst (λ l. slice_get l k ≡ Some (slice_index_or places k 0)) e (index_get places k 0 h)

pub place_below : (terms : List Sum) (places : List ℕ) (k : ℕ) → places ≡ places_from 0 terms → k < length places → slice_index_or places k 0 < length terms
place_below terms places k e h =
    let r = place_at 0 terms k (slice_index_or places k 0) (place_of terms places k e h) in
    let w = get_inside terms r.at r.term r.here in let u = r.place in omega (arith, w, u)

-- the application at a place among the applications
pub here_at : (terms : List Sum) (k p : ℕ) (s : Sum) → slice_get (places_from 0 terms) k ≡ Some p → slice_get terms p ≡ Some s → application_at terms (suc k) s
here_at terms k p s e h =
    let r = place_at 0 terms k p e in
    let same : p ≡ r.at = let u = r.place in omega (arith, u) in
    let term : r.term ≡ s = some_once r.term s (sym r.here ∙ ap (slice_get terms) (sym same) ∙ h) in
    subst (λ z. slice_get (filter is_application terms) k ≡ Some z) term r.among

pub only_one : (terms : List Sum) (k p : ℕ) (s t : Sum) → slice_get (places_from 0 terms) k ≡ Some p → slice_get terms p ≡ Some s → application_at terms (suc k) t → t ≡ s
only_one terms k p s t e h a = some_once t s (sym a ∙ here_at terms k p s e h)

pub operation_at : (terms : List Sum) (places : List ℕ) (k : ℕ) (s : Sum) (found : Option Operation) (o : Operation) → places ≡ places_from 0 terms → k < length places
    → slice_get terms (slice_index_or places k 0) ≡ Some s → operation_view found ≡ operation_of s → found ≡ Some o → sum_of o.term.now ≡ s → IsOperationAt terms k o
operation_at terms places k s found o e h g v f t = record {
  place = slice_index_or places k 0;
  is_place = place_of terms places k e h;
  here = g ∙ ap Some (sym t);
  is = ap operation_of t ∙ sym v ∙ ap operation_view f;
}

pub numbered_at_place : (terms : List Sum) (k : ℕ) (o : Operation) → HasAllArguments terms terms → IsOperationAt terms k o
    → IsNumbered terms (sum_of o.term.now) (sum_of o.left.now) (sum_of o.right.now)
numbered_at_place terms k o h i =
    applied_numbered terms o.operator (sum_of o.term.now) (sum_of o.left.now) (sum_of o.right.now) (applied_is (sum_of o.term.now) o.operator (sum_of o.left.now) (sum_of o.right.now) i.is)
    (slice_get-has_term terms i.place (sum_of o.term.now) i.here) (h i.place (sum_of o.term.now) i.here)

pub can_pair : (terms : List Sum) (j k : ℕ) (o q : Operation) → j < k → All CanGather (all_pairs terms) → o.operator ≡ q.operator → IsOperationAt terms j o → IsOperationAt terms k q
    → CanPair (sum_of o.term.now) (sum_of o.left.now) (sum_of o.right.now) (sum_of q.term.now) (sum_of q.left.now) (sum_of q.right.now)
can_pair terms j k o q w fits e i l =
    two_fit q.operator (sum_of o.term.now) (sum_of o.left.now) (sum_of o.right.now) (sum_of q.term.now) (sum_of q.left.now) (sum_of q.right.now)
    (subst (λ z. IsApplied z (sum_of o.term.now) (sum_of o.left.now) (sum_of o.right.now)) e (applied_is (sum_of o.term.now) o.operator (sum_of o.left.now) (sum_of o.right.now) i.is))
    (applied_is (sum_of q.term.now) q.operator (sum_of q.left.now) (sum_of q.right.now) l.is)
    (pair_fits terms i.place l.place (sum_of o.term.now) (sum_of q.term.now) (place_rises 0 terms j k i.place l.place w i.is_place l.is_place) i.here l.here fits)

pub is_pair : (terms : List Sum) (j k : ℕ) (o q : Operation) (pair : Pair) → o.operator ≡ q.operator → IsOperationAt terms j o → IsOperationAt terms k q
    → pair.left ≡ j + 1 → pair.right ≡ k + 1
    → AreWays terms (five_ways (sum_of o.term.now) (sum_of o.left.now) (sum_of o.right.now) (sum_of q.term.now) (sum_of q.left.now) (sum_of q.right.now)) (nnfs_view pair.ways)
    → IsPair terms pair
is_pair terms j k o q pair e i l f g w = record {
  first = sum_of o.term.now;
  first_left = sum_of o.left.now;
  first_right = sum_of o.right.now;
  second = sum_of q.term.now;
  second_left = sum_of q.left.now;
  second_right = sum_of q.right.now;
  is_first = subst (λ n. application_at terms n (sum_of o.term.now)) one (here_at terms j i.place (sum_of o.term.now) i.is_place i.here);
  is_second = subst (λ n. application_at terms n (sum_of q.term.now)) two (here_at terms k l.place (sum_of q.term.now) l.is_place l.here);
  apply = apply_two q.operator (sum_of o.term.now) (sum_of o.left.now) (sum_of o.right.now) (sum_of q.term.now) (sum_of q.left.now) (sum_of q.right.now)
      (subst (λ z. IsApplied z (sum_of o.term.now) (sum_of o.left.now) (sum_of o.right.now)) e (applied_is (sum_of o.term.now) o.operator (sum_of o.left.now) (sum_of o.right.now) i.is))
      (applied_is (sum_of q.term.now) q.operator (sum_of q.left.now) (sum_of q.right.now) l.is);
  ways = w;
}
  where
    one : suc j ≡ pair.left
    one = omega (arith, f)

    two : suc k ≡ pair.right
    two = omega (arith, g)

-- ---- no pair

-- an application that is no operation is in no pair
pub no_first : (terms : List Sum) (places : List ℕ) (k : ℕ) (u : Sum) (found : Option Operation) → places ≡ places_from 0 terms → k < length places
    → slice_get terms (slice_index_or places k 0) ≡ Some u → operation_view found ≡ operation_of u → found ≡ None
    → (s a b t c d : Sum) → application_at terms (suc k) s → ApplyTwo s a b t c d → ⊥
no_first terms places k u found e h g v f s a b t c d i w =
    let same = only_one terms k (slice_index_or places k 0) u s (place_of terms places k e h) g i in
    let r = (one_operator s a b t c d w).one in
    let x : operation_of s ≡ None = ap operation_of same ∙ sym v ∙ ap operation_view f in cc (r, x)

pub no_second : (terms : List Sum) (places : List ℕ) (k : ℕ) (u : Sum) (found : Option Operation) → places ≡ places_from 0 terms → k < length places
    → slice_get terms (slice_index_or places k 0) ≡ Some u → operation_view found ≡ operation_of u → found ≡ None
    → (s a b t c d : Sum) → application_at terms (suc k) t → ApplyTwo s a b t c d → ⊥
no_second terms places k u found e h g v f s a b t c d i w =
    let same = only_one terms k (slice_index_or places k 0) u t (place_of terms places k e h) g i in
    let r = (one_operator s a b t c d w).other in
    let x : operation_of t ≡ None = ap operation_of same ∙ sym v ∙ ap operation_view f in cc (r, x)

pub no_two : (terms : List Sum) (j k : ℕ) (o q : Operation) → IsOperationAt terms j o → IsOperationAt terms k q → (o.operator ≡ q.operator → ⊥)
    → (s a b t c d : Sum) → application_at terms (suc j) s → application_at terms (suc k) t → ApplyTwo s a b t c d → ⊥
no_two terms j k o q i l differ s a b t c d h g w =
    let x = only_one terms j i.place (sum_of o.term.now) s i.is_place i.here h in
    let y = only_one terms k l.place (sum_of q.term.now) t l.is_place l.here g in
    let r = one_operator s a b t c d w in
    let m : operates o.operator (sum_of o.left.now) (sum_of o.right.now) ≡ operates r.operator a b = sym i.is ∙ ap operation_of (sym x) ∙ r.one in
    let n : operates q.operator (sum_of q.left.now) (sum_of q.right.now) ≡ operates r.operator c d = sym l.is ∙ ap operation_of (sym y) ∙ r.other in
    differ (operators_one o.operator q.operator r.operator (sum_of o.left.now) (sum_of o.right.now) a b (sum_of q.left.now) (sum_of q.right.now) c d m n)

-- ---- one pair after the other

abbrev ways_most : List Pair → ℕ
ways_most pairs = most_of_each (map (λ pair. nnfs_view pair.ways) pairs)

ways_most-push : (pairs : List Pair) (pair : Pair) → ways_most (pairs ++ pair ∷ []) ≡ ways_most pairs + most_of_any row_size (nnfs_view pair.ways)
ways_most-push [] pair = omega arith
ways_most-push (x ∷ pairs) pair = let k = ways_most-push pairs pair in omega (arith, k)

-- the pairs up to an application, and those of it with the first n before it
pub record IsAlong (terms table : List Sum) (start : List Pair) (right n : ℕ) (pairs : List Pair) : Type 0 where
  pub same : table ≡ terms
  pub keeps : (i j : ℕ) → HasPair start i j → HasPair pairs i j
  pub each : All (IsPair terms) start → All (IsPair terms) pairs
  pub all : (i : ℕ) (s a b t c d : Sum) → i ≤ n → application_at terms i s → application_at terms (suc right) t → ApplyTwo s a b t c d → HasPair pairs i (suc right)
  pub ordered : AreOrdered start → AreOrdered pairs
  pub sizes_are : (t : Sum) → application_at terms (suc right) t → ways_most pairs ≤ ways_most start + before t (take n (filter is_application terms))

pub along_start : (terms table : List Sum) (start : List Pair) (right : ℕ) → table ≡ terms → IsAlong terms table start right 0 start
along_start terms table start right e = record {
  same = e;
  keeps = λ i j h. h;
  each = λ h. h;
  all = λ i s a b t c d w h g k. absurd (none i s w h);
  ordered = λ h. h;
  sizes_are = λ t h. omega arith;
}
  where
    none : (i : ℕ) (s : Sum) → i ≤ 0 → application_at terms i s → ⊥
    none zero s w h = cc
    none (suc i) s w h = omega (arith, w)

first_or_next : (i n : ℕ) → i ≤ n + 1 → (i ≤ n) ⊎ (i ≡ suc n)
first_or_next i n h = by (nat_le i n) refl
  where
    by : (b : Bool) → nat_le i n ≡ b → (i ≤ n) ⊎ (i ≡ suc n)
    by true e = inl (grind (arith, nat_tests))
    by false e = inr (grind (arith, nat_tests))

has_more : (pairs : List Pair) (pair : Pair) (i j : ℕ) → HasPair pairs i j → HasPair (pairs ++ pair ∷ []) i j
has_more pairs pair i j h = record { pair = h.pair; among = Contains-append_left pairs (pair ∷ []) h.pair h.among; is_left = h.is_left; is_right = h.is_right }

-- the application behind the first n, and its size with the last one
more_before : (terms : List Sum) (n : ℕ) (s t : Sum) → application_at terms (suc n) s
    → before t (take (n + 1) (filter is_application terms)) ≡ before t (take n (filter is_application terms)) + sizes (pair_rows s t)
more_before terms n s t h =
    ap (λ k. before t (take k (filter is_application terms))) (add-one n) ∙ ap (before t) (take_next (filter is_application terms) n s h)
    ∙ before-push t (take n (filter is_application terms)) s

pub along_pair : (terms table new : List Sum) (start : List Pair) (right n : ℕ) (pairs : List Pair) (pair : Pair) → n < right → IsAlong terms table start right n pairs → new ≡ terms
    → IsPair terms pair → pair.left ≡ n + 1 → pair.right ≡ right + 1 → IsAlong terms new start right (n + 1) (pairs ++ pair ∷ [])
along_pair terms table new start right n pairs pair less a e is f g = record {
  same = e;
  keeps = λ i j h. has_more pairs pair i j (a.keeps i j h);
  each = λ h. All-push (IsPair terms) pairs pair (a.each h) is;
  all = λ i s x y t z w l h k m. by i s x y t z w (first_or_next i n l) h k m;
  ordered = λ h. All-push (λ (x : Pair). x.left < x.right) pairs pair (a.ordered h) (omega (arith, f, g, less));
  sizes_are = λ t h.
      let left : pair.left ≡ suc n = omega (arith, f) in let rights : pair.right ≡ suc right = omega (arith, g) in
      let first : application_at terms (suc n) is.first = subst (λ k. application_at terms k is.first) left is.is_first in
      let second : application_at terms (suc right) is.second = subst (λ k. application_at terms k is.second) rights is.is_second in
      let last : is.second ≡ t = some_once is.second t (sym second ∙ h) in
      let k = a.sizes_are t h in let m = ways_most-push pairs pair in let w = pair_size terms pair is in
      let x = ap (λ z. sizes (pair_rows is.first z)) last in let y = more_before terms n is.first t first in omega (arith, k, m, w, x, y);
}
  where
    by : (i : ℕ) (s x y t z w : Sum) → (i ≤ n) ⊎ (i ≡ suc n) → application_at terms i s → application_at terms (suc right) t → ApplyTwo s x y t z w
        → HasPair (pairs ++ pair ∷ []) i (suc right)
    by i s x y t z w (inl l) h k m = has_more pairs pair i (suc right) (a.all i s x y t z w l h k m)
    by i s x y t z w (inr l) h k m = record { pair = pair; among = Contains-push pairs pair; is_left = omega (arith, f, l); is_right = omega (arith, g) }

pub along_none : (terms table new : List Sum) (start : List Pair) (right n : ℕ) (pairs : List Pair) → IsAlong terms table start right n pairs → new ≡ terms
    → ((s a b t c d : Sum) → application_at terms (suc n) s → application_at terms (suc right) t → ApplyTwo s a b t c d → ⊥) → IsAlong terms new start right (n + 1) pairs
along_none terms table new start right n pairs a e none = record {
  same = e;
  keeps = a.keeps;
  each = a.each;
  all = λ i s x y t z w l h k m. by i s x y t z w (first_or_next i n l) h k m;
  ordered = a.ordered;
  sizes_are = λ t h. let k = a.sizes_are t h in let w = before_more t (filter is_application terms) n in omega (arith, k, w);
}
  where
    by : (i : ℕ) (s x y t z w : Sum) → (i ≤ n) ⊎ (i ≡ suc n) → application_at terms i s → application_at terms (suc right) t → ApplyTwo s x y t z w → HasPair pairs i (suc right)
    by i s x y t z w (inl l) h k m = a.all i s x y t z w l h k m
    by i s x y t z w (inr l) h k m = absurd (none s x y t z w (subst (λ q. application_at terms q s) l h) k m)

pub along_next : (terms table new : List Sum) (start : List Pair) (right n : ℕ) (pairs more : List Pair) (found : Option Pair) → n < right → IsAlong terms table start right n pairs → new ≡ terms
    → IfSome found (λ pair. IsPair terms pair × (pair.left ≡ n + 1) × (pair.right ≡ right + 1))
    → IfNone found ((s a b t c d : Sum) → application_at terms (suc n) s → application_at terms (suc right) t → ApplyTwo s a b t c d → ⊥)
    → more ≡ pairs ++ option_to_list found → IsAlong terms new start right (n + 1) more
along_next terms table new start right n pairs more None less a e i h m =
    subst (IsAlong terms new start right (n + 1)) (sym (m ∙ append-nil pairs)) (along_none terms table new start right n pairs a e h)
along_next terms table new start right n pairs more (Some pair) less a e i h m =
    subst (IsAlong terms new start right (n + 1)) (sym m) (along_pair terms table new start right n pairs pair less a e i.0 i.1 i.2)

-- ---- one application after the other

pub upto_next : (terms table : List Sum) (start : List Pair) (right n : ℕ) (last : Sum) (pairs : List Pair) → application_at terms (suc right) last → IsAlong terms table start right n pairs
    → right ≡ n → ArePairsUpTo terms right start → ArePairsUpTo terms (suc right) pairs
upto_next terms table start right n last pairs here a w u = record {
  each = a.each u.each;
  all = λ i j s x y t z v k l h g m. by i j s x y t z v k (first_or_next j right (omega (arith, l))) h g m;
  ordered = a.ordered u.ordered;
  sizes_are =
      let k = a.sizes_are last here in let m = u.sizes_are in
      let x = ap (λ i. before last (take i (filter is_application terms))) w in
      let y = ap (λ l. sizes (all_pairs l)) (take_next (filter is_application terms) right last here) in
      let z = all_pairs-push (take right (filter is_application terms)) last in omega (arith, k, m, x, y, z);
}
  where
    by : (i j : ℕ) (s x y t z v : Sum) → i < j → (j ≤ right) ⊎ (j ≡ suc right) → application_at terms i s → application_at terms j t → ApplyTwo s x y t z v → HasPair pairs i j
    by i j s x y t z v k (inl l) h g m = a.keeps i j (u.all i j s x y t z v k l h g m)
    by i j s x y t z v k (inr l) h g m =
        subst (HasPair pairs i) (sym l) (a.all i s x y t z v (omega (arith, k, l, w)) h (subst (λ q. application_at terms q t) l g) m)

pub upto_skip : (terms : List Sum) (right : ℕ) (pairs : List Pair) → ((s a b t c d : Sum) → application_at terms (suc right) t → ApplyTwo s a b t c d → ⊥) → ArePairsUpTo terms right pairs
    → ArePairsUpTo terms (suc right) pairs
upto_skip terms right pairs none u = record {
  each = u.each;
  all = λ i j s x y t z v k l h g m. by i j s x y t z v k (first_or_next j right (omega (arith, l))) h g m;
  ordered = u.ordered;
  sizes_are = let k = u.sizes_are in let w = all_pairs_more (filter is_application terms) right in omega (arith, k, w);
}
  where
    by : (i j : ℕ) (s x y t z v : Sum) → i < j → (j ≤ right) ⊎ (j ≡ suc right) → application_at terms i s → application_at terms j t → ApplyTwo s x y t z v → HasPair pairs i j
    by i j s x y t z v k (inl l) h g m = u.all i j s x y t z v k l h g m
    by i j s x y t z v k (inr l) h g m = absurd (none s x y t z v (subst (λ q. application_at terms q t) l g) m)

pub upto_ordered : (terms : List Sum) (n : ℕ) (pairs : List Pair) → ArePairsUpTo terms n pairs → AreOrdered pairs
upto_ordered terms n pairs u = u.ordered

length_places : (n : ℕ) (ts : List Sum) → length (places_from n ts) ≡ length (filter is_application ts)
length_places n [] = refl
length_places n (t ∷ ts) = by (length_places (suc n) ts) (is_application t)
  where
    by : length (places_from (suc n) ts) ≡ length (filter is_application ts) → (b : Bool)
        → length (if b then n ∷ places_from (suc n) ts else places_from (suc n) ts) ≡ length (cond b (t ∷ filter is_application ts) (filter is_application ts))
    by k true = ap suc k
    by k false = k

pub upto_sizes : (terms : List Sum) (n : ℕ) (pairs : List Pair) → length (places_from 0 terms) ≤ n → ArePairsUpTo terms n pairs → most_of_each (ways_of pairs) ≤ sizes (all_pairs terms)
upto_sizes terms n pairs w u =
    let e = length_places 0 terms in let k = u.sizes_are in let f = pairs_filtered terms in
    let x = ap (λ l. sizes (all_pairs l)) (take_past (filter is_application terms) n (omega (arith, w, e))) in omega (arith, k, f, x)

pub upto_end : (terms : List Sum) (n : ℕ) (pairs : List Pair) → length (places_from 0 terms) ≤ n → ArePairsUpTo terms n pairs → AreAllPairs terms pairs
upto_end terms n pairs w u = record { each = u.each; all = λ i j s a b t c d k h g m. u.all i j s a b t c d k (within j t g) h g m }
  where
    within : (j : ℕ) (t : Sum) → application_at terms j t → j ≤ n
    within zero t h = omega arith
    within (suc j) t h = let r = places_reach 0 terms j t h in omega (arith, r, w)
