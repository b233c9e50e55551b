-- Where readings and the rows of each two terms can be gathered, so can the literals of an implication.
use Rattle.std.proofs.Common.{◌≡◌, ℕ, suc, ◌<◌, List, [], ◌∷◌, ◌++◌, Bool, true, false, Some, slice_get, length, All, refl, subst, arith, below_more, ◌+◌}
use Rattle.std.proofs.lemmas.Option.{slice_get_within}
use Rattle.std.proofs.lemmas.List.Elements.{All-append, All-cons, All-nil}
use Rattle.lq_logic_predicates.specs.Sum.{Sum}
use Rattle.lq_logic_predicates.specs.Comparison.{Comparison, CanGather}
use Rattle.lq_logic_predicates.specs.Formula.{Formula, truth, falsity, flag, compare, objects, negation, conjunction, disjunction, equivalence}
use Rattle.lq_logic_predicates.specs.ClosedImplication.{ClosedImplication, terms_in}
use Rattle.lq_logic_predicates.specs.Literals.{Signs, positive, negative, both, comparisons_of, comparisons_in, literals_of, each_literals, equal_row, below_row, condition_rows, pair_rows, rows_with, all_pairs, implication_literals}
use Rattle.lq_logic_predicates.specs.Reading.{Reading, Readings, yes, no, row, flag_is, objects_are, all_of, any_of, none, more, reading_of, comparison_reading, AllFitIn, EachFits}
use Rattle.lq_cases_engines.specs.Engines.Askable.{SidesFit, EarlierFit}

-- the comparisons of a reading
mutual
  reading_fit : (r : Reading Comparison) → AllFitIn r → All CanGather (comparisons_of r)
  reading_fit yes h = All-nil CanGather
  reading_fit no h = All-nil CanGather
  reading_fit (row c) h = All-cons CanGather c [] h (All-nil CanGather)
  reading_fit (flag_is x sign) h = All-nil CanGather
  reading_fit (objects_are a b sign) h = All-nil CanGather
  reading_fit (all_of rs) h = readings_fit rs h
  reading_fit (any_of rs) h = readings_fit rs h

  readings_fit : (rs : Readings Comparison) → EachFits rs → All CanGather (comparisons_in rs)
  readings_fit none h = All-nil CanGather
  readings_fit (more r rs) h = All-append CanGather (comparisons_of r) (comparisons_in rs) (reading_fit r h.0) (readings_fit rs h.1)

-- the literals of a predicate that is read with both signs
both_fit : (p : Formula) → AllFitIn (reading_of true p) → AllFitIn (reading_of false p) → All CanGather (literals_of both p)
both_fit truth h k = All-nil CanGather
both_fit falsity h k = All-nil CanGather
both_fit (flag x) h k = All-nil CanGather
both_fit (compare o a b) h k =
    All-append CanGather (comparisons_of (comparison_reading true o a b)) (comparisons_of (comparison_reading false o a b))
    (reading_fit (comparison_reading true o a b) h) (reading_fit (comparison_reading false o a b) k)
both_fit (objects a b) h k = All-nil CanGather
both_fit (negation p) h k = both_fit p k h
both_fit (conjunction p q) h k = All-append CanGather (literals_of both p) (literals_of both q) (both_fit p h.0 k.0) (both_fit q h.1.0 k.1.0)
both_fit (disjunction p q) h k = All-append CanGather (literals_of both p) (literals_of both q) (both_fit p h.0 k.0) (both_fit q h.1.0 k.1.0)
both_fit (equivalence p q) h k =
    All-append CanGather (literals_of both p) (literals_of both q) (both_fit p h.0.0 h.1.0.0) (both_fit q h.0.1.0 h.1.0.1.0)

abbrev signs : Bool → Signs
signs true = positive
signs false = negative

literals_fit : (sign : Bool) (p : Formula) → AllFitIn (reading_of sign p) → All CanGather (literals_of (signs sign) p)
literals_fit true truth h = All-nil CanGather
literals_fit false truth h = All-nil CanGather
literals_fit true falsity h = All-nil CanGather
literals_fit false falsity h = All-nil CanGather
literals_fit true (flag x) h = All-nil CanGather
literals_fit false (flag x) h = All-nil CanGather
literals_fit true (compare o a b) h = reading_fit (comparison_reading true o a b) h
literals_fit false (compare o a b) h = reading_fit (comparison_reading false o a b) h
literals_fit true (objects a b) h = All-nil CanGather
literals_fit false (objects a b) h = All-nil CanGather
literals_fit true (negation p) h = literals_fit false p h
literals_fit false (negation p) h = literals_fit true p h
literals_fit true (conjunction p q) h = All-append CanGather (literals_of positive p) (literals_of positive q) (literals_fit true p h.0) (literals_fit true q h.1.0)
literals_fit false (conjunction p q) h = All-append CanGather (literals_of negative p) (literals_of negative q) (literals_fit false p h.0) (literals_fit false q h.1.0)
literals_fit true (disjunction p q) h = All-append CanGather (literals_of positive p) (literals_of positive q) (literals_fit true p h.0) (literals_fit true q h.1.0)
literals_fit false (disjunction p q) h = All-append CanGather (literals_of negative p) (literals_of negative q) (literals_fit false p h.0) (literals_fit false q h.1.0)
literals_fit true (equivalence p q) h =
    All-append CanGather (literals_of both p) (literals_of both q) (both_fit p h.0.0 h.1.0.0) (both_fit q h.0.1.0 h.1.0.1.0)
literals_fit false (equivalence p q) h =
    All-append CanGather (literals_of both p) (literals_of both q) (both_fit p h.0.0 h.1.0.0) (both_fit q h.1.0.1.0 h.0.1.0)

hypotheses_fit : (ps : List Formula) → All (λ p. AllFitIn (reading_of true p)) ps → All CanGather (each_literals ps)
hypotheses_fit [] h = All-nil CanGather
hypotheses_fit (p ∷ ps) h =
    All-append CanGather (literals_of positive p) (each_literals ps) (literals_fit true p (h 0 p (omega arith))) (hypotheses_fit ps (λ k d w. h (suc k) d (omega (arith, w))))

rows_fit : (s : Sum) (ts : List Sum) → ((j : ℕ) (t : Sum) → slice_get ts j ≡ Some t → All CanGather (pair_rows s t)) → All CanGather (rows_with s ts)
rows_fit s [] h = All-nil CanGather
rows_fit s (t ∷ ts) h = All-append CanGather (pair_rows s t) (rows_with s ts) (h 0 t refl) (rows_fit s ts (λ j u e. h (suc j) u e))

each_pair_fit : (ts : List Sum) → ((i j : ℕ) (s t : Sum) → i < j → slice_get ts i ≡ Some s → slice_get ts j ≡ Some t → All CanGather (pair_rows s t))
    → All CanGather (all_pairs ts)
each_pair_fit [] h = All-nil CanGather
each_pair_fit (s ∷ ts) h =
    All-append CanGather (rows_with s ts) (all_pairs ts) (rows_fit s ts (λ j t e. h 0 (suc j) s t (omega arith) refl e))
    (each_pair_fit ts (λ i j u t l e f. h (suc i) (suc j) u t (omega (arith, l)) e f))

pub pairs_fit : (ts : List Sum) → ((n : ℕ) → n < length ts → EarlierFit ts n n) → All CanGather (all_pairs ts)
pairs_fit ts h = each_pair_fit ts (λ i j s t l e f. h j (slice_get_within ts j t f) i s t l e f)

-- the literals of the implication
pub implication_fits : (i : ClosedImplication) → All (λ p. AllFitIn (reading_of true p)) i.hypotheses → AllFitIn (reading_of false i.goal)
    → All CanGather (all_pairs (terms_in i)) → All CanGather (implication_literals i)
implication_fits i hypotheses goal pairs =
    All-append CanGather (each_literals i.hypotheses ++ literals_of negative i.goal) (all_pairs (terms_in i))
    (All-append CanGather (each_literals i.hypotheses) (literals_of negative i.goal) (hypotheses_fit i.hypotheses hypotheses) (literals_fit false i.goal goal)) pairs

-- one term more
pub earlier_more : (ts : List Sum) (n k : ℕ) (s t : Sum) → EarlierFit ts n k → slice_get ts k ≡ Some s → slice_get ts n ≡ Some t → All CanGather (pair_rows s t)
    → EarlierFit ts n (k + 1)
earlier_more ts n k s t before at here fits i u v w e f =
    below_more (λ (j : ℕ). (x y : Sum) → slice_get ts j ≡ Some x → slice_get ts n ≡ Some y → All CanGather (pair_rows x y)) k
    (λ j l x y p q. before j x y l p q) (λ x y p q. same_rows x y p q) i w u v e f
  where
    same_rows : (x y : Sum) → slice_get ts k ≡ Some x → slice_get ts n ≡ Some y → All CanGather (pair_rows x y)
    same_rows x y p q =
        let left : s ≡ x = cc in let right : t ≡ y = cc in
        subst (λ a. All CanGather (pair_rows a y)) left (subst (λ b. All CanGather (pair_rows s b)) right fits)
