-- A clash that speaks of none of some facts is one without them.
use Rattle.std.proofs.Common.{◌≡◌, ◌≢◌, ℕ, zero, suc, ◌+◌, List, [], ◌∷◌, ◌++◌, true, false, not, Option, Some, None, length, map, if◌then◌else◌, All, ◌<◌, ◌≤◌, slice_get, arith, refl, sym, ap, ap₂, subst, ◌∙◌}
use Rattle.std.proofs.lemmas.Bool.{eq-eqb, ne_eqb}
use Rattle.std.proofs.lemmas.List.Elements.{All-nil, All-cons, All-head, All-tail}
use Rattle.std.proofs.lemmas.Option.{slice_get_within}
use Rattle.lq_base_numbers.specs.Rationals.Rational.{ℚ, ◌+ℚ◌, ◌*ℚ◌}
use Rattle.lq_logic_rows.specs.Contradiction.{tagged, IsFair, AllFair, NamesOnce, level_of, weighted, IsContradiction}
use Rattle.lq_logic_rows.specs.Row.{Row, Valuation}
use Rattle.lq_logic_predicates.specs.Sum.{Sum}
use Rattle.lq_prover_proof_tree.specs.Trees.Path.{Fact, row_fact, flag_fact, objects_fact, never, numbered_at}
use Rattle.lq_prover_proof_tree.specs.Trees.Proves.{AreJoined, itself, onward, backward, Clashes, rows_clash, flags_clash, merges_clash, rows_from, rows_among}
use Rattle.lq_prover_proof_tree.specs.Trees.Tree.{Clash}
use Rattle.lq_prover_search.specs.Pruning.Moved.{ClashSpares, moved_clash}
use Rattle.lq_prover_search.specs.Pruning.Span.{IsOutside, moved}
use Rattle.lq_prover_search.specs.declared.pruning.span.Span.{Span}
use Rattle.lq_prover_search.proofs.PruningLemmas.Numbers.{moved_differ, number_moves}

abbrev row_in : Option Fact → Option Row
row_in (Some (row_fact r)) = Some r
row_in _ = None

tagged_late : (n t : ℕ) (facts : List Fact) → t < n → tagged (rows_from n facts) t ≡ None
tagged_late n t [] l = refl
tagged_late n t (row_fact r ∷ facts) l = ap₂ (λ b o. if b then Some r else o) (ne_eqb n t (λ e. omega (arith, l, e))) (tagged_late (suc n) t facts (omega (arith, l)))
tagged_late n t (flag_fact x sign ∷ facts) l = tagged_late (suc n) t facts (omega (arith, l))
tagged_late n t (objects_fact a b sign ∷ facts) l = tagged_late (suc n) t facts (omega (arith, l))
tagged_late n t (never ∷ facts) l = tagged_late (suc n) t facts (omega (arith, l))

-- the row of a number is that of the fact there
tagged_at : (n k : ℕ) (facts : List Fact) → tagged (rows_from n facts) (n + k) ≡ row_in (slice_get facts k)
tagged_at n k [] = refl
tagged_at n zero (row_fact r ∷ facts) = ap (λ b. if b then Some r else tagged (rows_from (suc n) facts) (n + zero)) (eq-eqb n (n + zero) (omega arith))
tagged_at n zero (flag_fact x sign ∷ facts) = tagged_late (suc n) (n + zero) facts (omega arith)
tagged_at n zero (objects_fact a b sign ∷ facts) = tagged_late (suc n) (n + zero) facts (omega arith)
tagged_at n zero (never ∷ facts) = tagged_late (suc n) (n + zero) facts (omega arith)
tagged_at n (suc k) (row_fact r ∷ facts) =
    ap₂ (λ b o. if b then Some r else o) (ne_eqb n (n + suc k) (λ e. omega (arith, e))) (ap (tagged (rows_from (suc n) facts)) (omega arith) ∙ tagged_at (suc n) k facts)
tagged_at n (suc k) (flag_fact x sign ∷ facts) = ap (tagged (rows_from (suc n) facts)) (omega arith) ∙ tagged_at (suc n) k facts
tagged_at n (suc k) (objects_fact a b sign ∷ facts) = ap (tagged (rows_from (suc n) facts)) (omega arith) ∙ tagged_at (suc n) k facts
tagged_at n (suc k) (never ∷ facts) = ap (tagged (rows_from (suc n) facts)) (omega arith) ∙ tagged_at (suc n) k facts

tagged_is : (facts : List Fact) (t : ℕ) → tagged (rows_among facts) t ≡ row_in (numbered_at facts t)
tagged_is facts zero = tagged_late 1 zero facts (omega arith)
tagged_is facts (suc k) = let e : suc k ≡ 1 + k = omega arith in ap (tagged (rows_from 1 facts)) e ∙ tagged_at 1 k facts

-- Facts that stand at other numbers in another list: what numbers they have there, of those that count.
pub record Moves (p q : List Fact) (there : ℕ → ℕ) (Counts : ℕ → Type 0) : Type 0 where
  pub moves : (t : ℕ) → Counts t → numbered_at p t ≡ numbered_at q (there t)
  pub differ : (s t : ℕ) → Counts s → Counts t → s ≢ t → there s ≢ there t

module _ (p q : List Fact) (there : ℕ → ℕ) (Counts : ℕ → Type 0) (M : Moves p q there Counts) where
  pub fact_moves : (t : ℕ) (x : Fact) → Counts t → numbered_at p t ≡ Some x → numbered_at q (there t) ≡ Some x
  fact_moves t x o e = sym (M.moves t o) ∙ e

  row_moves : (t : ℕ) → Counts t → tagged (rows_among p) t ≡ tagged (rows_among q) (there t)
  row_moves t o = tagged_is p t ∙ ap row_in (M.moves t o) ∙ sym (tagged_is q (there t))

  abbrev moves : List (ℕ × ℚ) → List (ℕ × ℚ)
  moves = map (λ m. (there m.0, m.1))

  abbrev AllCount : List (ℕ × ℚ) → Type 0
  AllCount = All (λ m. Counts m.0)

  fair_moves : (ms : List (ℕ × ℚ)) → AllCount ms → AllFair (rows_among p) ms → AllFair (rows_among q) (moves ms)
  fair_moves [] o a = tt
  fair_moves (m ∷ ms) o a =
      (subst (λ r. IsFair r m.1) (row_moves m.0 (All-head (λ n. Counts n.0) m ms o)) a.0, fair_moves ms (All-tail (λ n. Counts n.0) m ms o) a.1)

  others_move : (m : ℕ × ℚ) (ms : List (ℕ × ℚ)) → Counts m.0 → AllCount ms → All (λ other. other.0 ≢ m.0) ms → All (λ other. other.0 ≢ there m.0) (moves ms)
  others_move m [] i o a = All-nil (λ other. other.0 ≢ there m.0)
  others_move m (x ∷ ms) i o a =
      All-cons (λ other. other.0 ≢ there m.0) (there x.0, x.1) (moves ms)
      (M.differ x.0 m.0 (All-head (λ n. Counts n.0) x ms o) i (All-head (λ other. other.0 ≢ m.0) x ms a))
      (others_move m ms i (All-tail (λ n. Counts n.0) x ms o) (All-tail (λ other. other.0 ≢ m.0) x ms a))

  once_moves : (ms : List (ℕ × ℚ)) → AllCount ms → NamesOnce ms → NamesOnce (moves ms)
  once_moves [] o a = tt
  once_moves (m ∷ ms) o a = (others_move m ms (All-head (λ n. Counts n.0) m ms o) (All-tail (λ n. Counts n.0) m ms o) a.0, once_moves ms (All-tail (λ n. Counts n.0) m ms o) a.1)

  sum_moves : (v : Valuation) (ms : List (ℕ × ℚ)) → AllCount ms → weighted v (rows_among q) (moves ms) ≡ weighted v (rows_among p) ms
  sum_moves v [] o = refl
  sum_moves v (m ∷ ms) o = ap₂ (λ r x. m.1 *ℚ level_of v r +ℚ x) (sym (row_moves m.0 (All-head (λ n. Counts n.0) m ms o))) (sum_moves v ms (All-tail (λ n. Counts n.0) m ms o))

  pub contradiction_moves : (ms : List (ℕ × ℚ)) → AllCount ms → IsContradiction (rows_among p) ms → IsContradiction (rows_among q) (moves ms)
  contradiction_moves ms o i = record {
    fair = fair_moves ms o i.fair;
    once = once_moves ms o i.once;
    gap = i.gap;
    above = i.above;
    sum = λ v. sum_moves v ms o ∙ i.sum v;
  }

  pub joined_moves : (ts : List ℕ) (x y : Sum) → All Counts ts → AreJoined p ts x y → AreJoined q (map there ts) x y
  joined_moves _ _ _ o (itself a) = itself a
  joined_moves _ x z o (onward t ts _ y _ e j) =
      onward (there t) (map there ts) x y z (fact_moves t (objects_fact x y true) (All-head Counts t ts o) e) (joined_moves ts y z (All-tail Counts t ts o) j)
  joined_moves _ x z o (backward t ts _ y _ e j) =
      backward (there t) (map there ts) x y z (fact_moves t (objects_fact y x true) (All-head Counts t ts o) e) (joined_moves ts y z (All-tail Counts t ts o) j)

-- ---- without some facts

pub spared : (f g h : List Fact) (s : Span) → s.before ≡ length f → s.count ≡ length g → Moves (f ++ (g ++ h)) (f ++ h) (moved s) (IsOutside s)
spared f g h s b c = record { moves = λ t o. number_moves f g h s t b c o; differ = moved_differ s }

pub clash_moves : (f g h : List Fact) (s : Span) → s.before ≡ length f → s.count ≡ length g → (clash : Clash) → ClashSpares s clash → Clashes (f ++ (g ++ h)) clash
    → Clashes (f ++ h) (moved_clash s clash)
clash_moves f g h s b c _ o (rows_clash ms i) =
    rows_clash (map (λ m. (moved s m.0, m.1)) ms) (contradiction_moves (f ++ (g ++ h)) (f ++ h) (moved s) (IsOutside s) (spared f g h s b c) ms o i)
clash_moves f g h s b c _ o (flags_clash t u x sign d e) =
    let M = spared f g h s b c in
    flags_clash (moved s t) (moved s u) x sign (fact_moves (f ++ (g ++ h)) (f ++ h) (moved s) (IsOutside s) M t (flag_fact x sign) o.0 d)
    (fact_moves (f ++ (g ++ h)) (f ++ h) (moved s) (IsOutside s) M u (flag_fact x (not sign)) o.1 e)
clash_moves f g h s b c _ o (merges_clash t ts x y d j) =
    let M = spared f g h s b c in
    merges_clash (moved s t) (map (moved s) ts) x y (fact_moves (f ++ (g ++ h)) (f ++ h) (moved s) (IsOutside s) M t (objects_fact x y false) o.0 d)
    (joined_moves (f ++ (g ++ h)) (f ++ h) (moved s) (IsOutside s) M ts x y o.1 j)

-- ---- with more facts behind

numbered_stays : (f g : List Fact) (t : ℕ) → t ≤ length f → numbered_at f t ≡ numbered_at (f ++ g) t
numbered_stays f g zero l = refl
numbered_stays [] g (suc k) l = absurd (omega (arith, l))
numbered_stays (x ∷ f) g (suc zero) l = refl
numbered_stays (x ∷ f) g (suc (suc k)) l = numbered_stays f g (suc k) (omega (arith, l))

inside : (f : List Fact) (t : ℕ) (x : Fact) → numbered_at f t ≡ Some x → t ≤ length f
inside f zero x e = omega arith
inside f (suc k) x e = let w = slice_get_within f k x e in omega (arith, w)

row_inside : (f : List Fact) (t : ℕ) (m : ℚ) (o : Option Fact) → numbered_at f t ≡ o → IsFair (row_in o) m → t ≤ length f
row_inside f t m None e i = absurd i
row_inside f t m (Some x) e i = inside f t x e

all_inside : (f : List Fact) (ms : List (ℕ × ℚ)) → AllFair (rows_among f) ms → All (λ m. m.0 ≤ length f) ms
all_inside f [] a = All-nil (λ m. m.0 ≤ length f)
all_inside f (m ∷ ms) a =
    All-cons (λ m. m.0 ≤ length f) m ms (row_inside f m.0 m.1 (numbered_at f m.0) refl (subst (λ r. IsFair r m.1) (tagged_is f m.0) a.0)) (all_inside f ms a.1)

joined_inside : (f : List Fact) (ts : List ℕ) (x y : Sum) → AreJoined f ts x y → All (λ t. t ≤ length f) ts
joined_inside f _ _ _ (itself a) = All-nil (λ t. t ≤ length f)
joined_inside f _ x z (onward t ts _ y _ e j) = All-cons (λ t. t ≤ length f) t ts (inside f t (objects_fact x y true) e) (joined_inside f ts y z j)
joined_inside f _ x z (backward t ts _ y _ e j) = All-cons (λ t. t ≤ length f) t ts (inside f t (objects_fact y x true) e) (joined_inside f ts y z j)

stays : (f g : List Fact) → Moves f (f ++ g) (λ t. t) (λ t. t ≤ length f)
stays f g = record { moves = numbered_stays f g; differ = λ s t a b d. d }

map_same : {X : Type 0} (h : X → X) → ((x : X) → h x ≡ x) → (xs : List X) → map h xs ≡ xs
map_same h e [] = refl
map_same h e (x ∷ xs) = ap₂ (λ y ys. y ∷ ys) (e x) (map_same h e xs)

pub clash_stays : (f g : List Fact) (clash : Clash) → Clashes f clash → Clashes (f ++ g) clash
clash_stays f g _ (rows_clash ms i) =
    rows_clash ms (subst (IsContradiction (rows_among (f ++ g))) (map_same (λ m. (m.0, m.1)) (λ m. refl) ms)
    (contradiction_moves f (f ++ g) (λ t. t) (λ t. t ≤ length f) (stays f g) ms (all_inside f ms i.fair) i))
clash_stays f g _ (flags_clash t u x sign d e) =
    flags_clash t u x sign (sym (numbered_stays f g t (inside f t (flag_fact x sign) d)) ∙ d) (sym (numbered_stays f g u (inside f u (flag_fact x (not sign)) e)) ∙ e)
clash_stays f g _ (merges_clash t ts x y d j) =
    merges_clash t ts x y (sym (numbered_stays f g t (inside f t (objects_fact x y false) d)) ∙ d)
    (subst (λ us. AreJoined (f ++ g) us x y) (map_same (λ t. t) (λ t. refl) ts)
    (joined_moves f (f ++ g) (λ t. t) (λ t. t ≤ length f) (stays f g) ts x y (joined_inside f ts x y j) j))
