-- Where the limit on pivots is large enough it isn't spent.
use Rattle.std.proofs.Common.{◌≡◌, ◌≢◌, ℕ, zero, suc, ◌+◌, ◌*◌, ◌^◌, ◌<◌, ◌≤◌, ◌⊎◌, inl, inr, arith, refl, sym, ap, subst, ◌∙◌, List, [], ◌∷◌, All, true, pos, get_or, length, unsigned_abs}
use Rattle.std.specs.List.{Contains, slice_index_or}
use Rattle.std.proofs.Math.IntN.{ℤ, ◌+ℤ◌, ◌-ℤ◌}
use Rattle.std.proofs.lemmas.Int.{ints}
use Rattle.std.proofs.lemmas.Bool.{cases_lt}
use Rattle.std.proofs.lemmas.List.{get_or_default}
use Rattle.std.proofs.lemmas.List.Elements.{All-contains}
use Rattle.std.proofs.Math.Nat.{mul-le-mul_left}
use Rattle.lq_logic_rows.specs.Forms.{Parts, IsNormal, IsMultiple}
use Rattle.lq_logic_rows.specs.Row.{Row}
use Rattle.lq_prover_pivots.specs.Pivots.Laws.{choose}
use Rattle.lq_prover_pivots.specs.Pivots.Rows.{Variables, size, form}
use Rattle.lq_prover_pivots.specs.Pivots.Variables.{AreVariables}
use Rattle.lq_prover_pivots.proofs.PivotsLemmas.Counting.{at_most_so_many}
use Rattle.lq_logic_predicates.specs.ClosedImplication.{ClosedImplication, terms_in}
use Rattle.lq_base_numbers.specs.declared.fractions.past.NumberPast.{NumberPast}
use Rattle.lq_prover_proof_tree.specs.Trees.Proves.{AreRowsOf}
use Rattle.lq_logic_predicates.specs.Comparison.{Comparison, row_constant}
use Rattle.lq_logic_predicates.specs.LinearForm.{constant_of}
use Rattle.lq_logic_predicates.specs.Literals.{equal_row, implication_literals}
use Rattle.lq_logic_predicates.specs.Numbering.{has_term-here}
use Rattle.lq_logic_predicates.specs.Sum.{Sum}
use Rattle.lq_logic_predicates.specs.Table.{has_term}
use Rattle.lq_logic_predicates.specs.declared.pred.Stop.TheVariants.{Number, Pivots}
use Rattle.lq_prover_valid.specs.Small.{IsNoNumber, IsSmallImplication}
use Rattle.lq_prover_valid.specs.Stopping.{IsItsRow, IsSpentOn, StopsProving}
use Rattle.lq_prover_simplex.proofs.Combinations.{eq_or}
use Rattle.lq_prover_simplex.proofs.Determined.{spent_small}
use Rattle.lq_prover_simplex.proofs.Naming.{at_place}
use Rattle.lq_prover_small_rows.proofs.There.{rows_there}
use Rattle.lq_prover_pivots.specs.Work.Part.{AreAmong}
use Rattle.lq_prover_pivots.proofs.WorkLemmas.Normal.{normal_once}
use Rattle.lq_prover_pivots.proofs.WorkLemmas.OnPart.{small_sums_are_small}
use Rattle.lq_prover_pivots.proofs.WorkLemmas.Rows.{constant_most}
use Rattle.lq_solve_strongest.specs.Weaken.Deciding.{IsBounded, IsDecidable, IsSolvable}
use Rattle.lq_refined_types.specs.Parts.Constraint.{Constraint}
use Rattle.lq_refined_types.specs.Parts.Flowing.{Selection, assigned}
use Rattle.lq_solve_fixpoint.specs.Questions.Assigned.{closed_under}
use Rattle.lq_solve_fixpoint.specs.Weakening.Judging.{Instances}
use Rattle.lq_solve_strongest.proofs.WeakenLemmas.Bare.{bare_number, bare_differences}
use Rattle.lq_solve_strongest.specs.Selections.Fewer.{AreFewer, IsAlike}
use Rattle.lq_solve_strongest.proofs.SelectionsLemmas.Differences.{fewer_are_differences}
use Rattle.lq_solve_strongest.proofs.SelectionsLemmas.Fewer.{sizes_are_fewer, some_are_fewer, terms_differ}
use Rattle.lq_solve_strongest.proofs.SelectionsLemmas.Small.{fewer_are_small}

-- ---- in how many ways so many of n things can be chosen grows with n
choose_grows : (m n k : ℕ) → m ≤ n → choose m k ≤ choose n k
choose_grows m n zero h = omega arith
choose_grows zero n (suc k) h = omega arith
choose_grows (suc m) zero (suc k) h = absurd (omega arith)
choose_grows (suc m) (suc n) (suc k) h = let a = choose_grows m n k (omega arith) in let b = choose_grows m n (suc k) (omega arith) in omega arith

ways_grow : (m n k : ℕ) → m ≤ n → 3 ^ k * choose m k ≤ 3 ^ k * choose n k
ways_grow m n k h = mul-le-mul_left (3 ^ k) (choose_grows m n k h)

-- ---- there are no more numbers than a list has places, where each names one of them and no two the same
names_less : (m n : ℕ) (R : ℕ → ℕ → Type 0) → ((k : ℕ) → k < m → (p : ℕ) × (p < n) × R k p) → ((j k p : ℕ) → j < m → k < m → R j p → R k p → j ≡ k) → m ≤ n
names_less zero n R names once = omega arith
names_less (suc m) zero R names once = absurd (let h = names m (omega arith) in let l = h.1 in omega arith)
names_less (suc m) (suc n) R names once =
    let rest = names_less m n moved others apart in omega arith
  where
    -- the place of the last one is given to the one that has the last place
    last : (p : ℕ) × (p < suc n) × R m p
    last = names m (omega arith)

    moved : ℕ → ℕ → Type 0
    moved k p = (R k p × (p ≢ n)) ⊎ (R k n × (p ≡ last.0))

    others : (k : ℕ) → k < m → (p : ℕ) × (p < n) × moved k p
    others k l =
        let h = names k (omega arith) in
        elim (eq_or h.0 n) [
          | inl e ↦
              let away : last.0 ≢ n = (λ q. let same : k ≡ m = once k m n (omega arith) (omega arith) (subst (R k) e h.2) (subst (R m) q last.2) in absurd (omega arith)) in
              (last.0, (let b = last.1 in elim (eq_or last.0 n) [ inl q ↦ absurd (away q) | inr q ↦ omega (arith, q) ]), inr (subst (R k) e h.2, refl))
          | inr u ↦ (h.0, (let b = h.1 in omega (arith, u)), inl (h.2, u))
        ]

    apart : (j k p : ℕ) → j < m → k < m → moved j p → moved k p → j ≡ k
    apart j k p a b (inl x) (inl y) = once j k p (omega arith) (omega arith) x.0 y.0
    apart j k p a b (inl x) (inr y) = let same : j ≡ m = once j m p (omega arith) (omega arith) x.0 (subst (R m) (sym y.1) last.2) in absurd (omega arith)
    apart j k p a b (inr x) (inl y) = let same : k ≡ m = once k m p (omega arith) (omega arith) y.0 (subst (R m) (sym x.1) last.2) in absurd (omega arith)
    apart j k p a b (inr x) (inr y) = once j k n (omega arith) (omega arith) x.0 y.0

-- ---- rows of a list have no more variables than the list
has_parts : (parts ps : Parts) → IsNormal ps → IsMultiple ps parts → parts ≢ []
has_parts parts [] normal m e = normal.above
has_parts parts (p ∷ ps) normal m e = let q = m.is in absurd (cc)

variables_no_more : (all part : List Row) (vs us : Variables) → AreVariables all vs → AreVariables part us → AreAmong all part → us.terms ≡ vs.terms → size us ≤ size vs
variables_no_more all part vs us whole own among terms =
    names_less (size us) (size vs) (λ k p. (p < size vs) × (form us k ≡ form vs p)) (λ k l. named k l (cases_lt k us.terms))
    (λ j k p l o x y. own.once j k l o (x.1 ∙ sym y.1))
  where
    named : (k : ℕ) → k < size us → (k < us.terms) ⊎ (us.terms ≤ k) → (p : ℕ) × (p < size vs) × ((p < size vs) × (form us k ≡ form vs p))
    named k l (inl m) =
        let inside : k < size vs = (let t = whole.terms_in in omega arith) in
        (k, inside, (inside, own.named k m ∙ sym (whole.named k (omega arith))))
    named k l (inr m) =
        let c = own.comes k m l in
        let row = c.1.0 in
        let normal = own.normal k l in
        let has = whole.has row (among row (at_place part c.0 row c.1.1)) (has_parts row.parts (form us k) normal c.1.2) in
        (has.0, has.1, (has.1, normal_once row.parts (form us k) (form vs has.0) normal (whole.normal has.0 has.1) c.1.2 has.2))

turned_constant : (a b : ℤ) → unsigned_abs (a -ℤ b +ℤ pos 0) ≡ unsigned_abs (b -ℤ a +ℤ pos 0)
turned_constant a b = omega (arith, ints)

-- ---- rows of an implication are among those of its literals
its_rows : (i : ClosedImplication) (small : IsSmallImplication i) (rows : List Row) → All (IsItsRow i) rows → AreAmong small.rows rows
its_rows i small rows each r there =
    let h = All-contains (IsItsRow i) rows r each there in
    rows_there (terms_in i) (implication_literals i) small.rows h.literal r (terms_differ i) small.are h.among h.is

-- ---- so a limit that is enough isn't spent
pub not_spent : (limit : ℕ) (i : ClosedImplication) → IsBounded limit i → IsSpentOn limit i → ⊥
not_spent limit i b s =
    let vs = b.small.variables in let us = s.spent.variables in let n = length (terms_in i) in
    let whole : AreVariables b.small.rows vs = b.small.small.sized.variables in
    let over : us.terms ≡ n = s.spent.over in
    let count : size us ≤ size vs =
    variables_no_more b.small.rows s.ever vs us whole s.spent.listed (its_rows i b.small s.ever s.each) (over ∙ sym b.small.terms) in
    let spent : limit + 1 ≤ 3 ^ n * choose (size us) n = spent_small at_most_so_many n limit s.standing s.ever s.spent in
    let more = ways_grow (size us) (size vs) n count in
    let enough : 3 ^ n * choose (size vs) n ≤ limit = subst (λ t. 3 ^ t * choose (size vs) t ≤ limit) b.small.terms b.enough in omega arith

-- ---- what is solvable isn't stopped by a number, nor by pivots
pub number_beyond : (limit : ℕ) (i : ClosedImplication) (e : NumberPast) → StopsProving limit i (Number e) → (IsSmallImplication i → IsNoNumber (Number e)) → IsSolvable limit i → ⊥
number_beyond limit i e stops small (inl b) = small b.small
number_beyond limit i e stops small (inr bare) = bare_number limit i e bare stops

pub pivots_beyond : (limit : ℕ) (i : ClosedImplication) (n : ℕ) → StopsProving limit i (Pivots n) → IsSolvable limit i → ⊥
pivots_beyond limit i n stops (inl b) = not_spent limit i b stops.3
pivots_beyond limit i n stops (inr bare) = stops.1 (bare_differences i bare)

-- ---- with fewer literals and terms it stays solvable
all_from : {X : Type 0} (P : X → Type 0) (xs : List X) → ((x : X) → Contains xs x → P x) → All P xs
all_from P xs h k d l = h (get_or xs k d) (k, l, get_or_default xs k (get_or xs k d) d l)

abbrev IsConstant : Comparison → Type 0
IsConstant c = unsigned_abs (row_constant c) ≤ 2 ^ 40

alike_constant : (c d : Comparison) → IsAlike c d → IsConstant d → IsConstant c
alike_constant c d (inl e) h = subst IsConstant (sym e) h
alike_constant c d (inr e) h =
    let a = e.0 in let b = e.1 in
    let there : IsConstant (equal_row b a) = subst IsConstant e.3 h in
    let same : unsigned_abs (row_constant (equal_row a b)) ≡ unsigned_abs (row_constant (equal_row b a)) = turned_constant (constant_of a) (constant_of b) in
    subst IsConstant (sym e.2) (subst (λ k. k ≤ 2 ^ 40) (sym same) there)

alike_constants : (i j : ClosedImplication) → AreFewer i j → ((d : Comparison) → Contains (implication_literals j) d → IsConstant d)
    → All IsConstant (implication_literals i)
alike_constants i j fewer each =
    all_from IsConstant (implication_literals i) (λ c there. let d = fewer.literals c there in alike_constant c d.0 d.2 (each d.0 d.1))

-- the constant of a literal whose row is one of small sizes
row_constants : (terms : List Sum) (cs : List Comparison) (rs all : List Row) (k : ℕ) → AreRowsOf terms cs rs → ((r : Row) → Contains rs r → unsigned_abs r.constant ≤ k)
    → (d : Comparison) → Contains cs d → unsigned_abs (row_constant d) ≤ k
row_constants terms cs rs all k are most d there = at cs rs there.0 there.1 are there.2 most
  where
    at : (cs : List Comparison) (rs : List Row) (n : ℕ) → n < length cs → AreRowsOf terms cs rs → slice_index_or cs n d ≡ d → ((r : Row) → Contains rs r → unsigned_abs r.constant ≤ k)
        → unsigned_abs (row_constant d) ≤ k
    at [] rs n l a e h = absurd (omega arith)
    at (c ∷ cs) [] n l a e h = absurd a
    at (c ∷ cs) (r ∷ rs) zero l a e h =
        subst (λ x. unsigned_abs (row_constant x) ≤ k) e (subst (λ z. unsigned_abs z ≤ k) a.0.constant (h r (0, omega arith, refl)))
    at (c ∷ cs) (r ∷ rs) (suc n) l a e h = at cs rs n (omega arith) a.1 e (λ q there. let m = there.1 in h q (suc there.0, omega arith, there.2))

no_terms : (i j : ClosedImplication) → AreFewer i j → terms_in j ≡ [] → terms_in i ≡ []
no_terms i j fewer none = by (terms_in i) refl
  where
    by : (ts : List Sum) → terms_in i ≡ ts → ts ≡ []
    by [] e = refl
    by (t ∷ ts) e =
        let here : has_term (terms_in i) t ≡ true = ap (λ l. has_term l t) e ∙ has_term-here t ts in
        let there : has_term (terms_in j) t ≡ true = fewer.terms t here in
        let no : has_term [] t ≡ true = sym (ap (λ l. has_term l t) none) ∙ there in absurd (cc)

none_or_some : (ts : List Sum) → (ts ≡ []) ⊎ (1 ≤ length ts)
none_or_some [] = inl refl
none_or_some (t ∷ ts) = inr (omega arith)

fewer_solvable : (limit : ℕ) (i j : ClosedImplication) → AreFewer i j → IsSolvable limit j → IsSolvable limit i
fewer_solvable limit i j fewer (inl b) =
    elim (none_or_some (terms_in i)) [
      | inr least ↦
          let s = b.small in
          let h = fewer_are_small i j s.rows s.variables fewer least (record { rows_of = s.are; terms = s.terms; small = s.small }) in
          let small : IsSmallImplication i = record {
            rows = h.rows;
            are = h.are.rows_of;
            variables = h.variables;
            terms = h.are.terms;
            small = h.are.small;
          } in
          inl (record { small = small; enough = (let short = h.short in let enough = b.enough in omega (arith, short, enough)) })
      | inl none ↦
          let s = b.small in
          let largest = (small_sums_are_small s.rows s.variables s.small).largest in
          inr (record {
            terms = none;
            constants = alike_constants i j fewer
                (row_constants (terms_in j) (implication_literals j) s.rows s.rows (2 ^ 40) s.are (λ r there. let m = constant_most s.rows r there in omega (arith, m, largest)));
          })
    ]
fewer_solvable limit i j fewer (inr bare) =
    inr (record {
      terms = no_terms i j fewer bare.terms;
      constants = alike_constants i j fewer (λ d there. All-contains IsConstant (implication_literals j) d bare.constants there);
    })

-- what is decidable with all instances in place is so with some of them
pub fewer_decidable : (limit : ℕ) (I : Instances) (c : Selection) (k : Constraint) → IsDecidable limit (closed_under I k) → IsDecidable limit (closed_under (assigned I c) k)
fewer_decidable limit I c k (inl d) =
    inl (record {
      difference = fewer_are_differences (closed_under (assigned I c) k) (closed_under I k) (some_are_fewer I c k) d.difference;
      small = let all = d.small in let less = sizes_are_fewer I c k in omega (arith, all, less);
    })
fewer_decidable limit I c k (inr s) = inr (fewer_solvable limit (closed_under (assigned I c) k) (closed_under I k) (some_are_fewer I c k) s)
