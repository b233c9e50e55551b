-- A reading whose comparisons can all be gathered, said of the list of these comparisons.
use Rattle.std.proofs.Common.{◌≡◌, ◌↔◌, Bool, true, false, Result, Ok, Err, IfOk, List, [], ◌∷◌, ◌++◌, map, refl, sym, ap, ap₂, subst, ◌∙◌, append_assoc}
use Rattle.std.specs.List.{All}
use Rattle.std.proofs.lemmas.List.{map-append, append-nil}
use Rattle.std.proofs.lemmas.List.Elements.{All-nil, All-cons, All-head, All-tail, All-append}
use Rattle.lq_logic_predicates.specs.ClosedImplication.{ClosedImplication, terms_in}
use Rattle.lq_logic_predicates.specs.Comparison.{Comparison, CanGather}
use Rattle.lq_logic_predicates.specs.Formula.{Formula, truth, falsity, flag, compare, objects, negation, conjunction, disjunction, equivalence}
use Rattle.lq_logic_predicates.specs.Literals.{Signs, positive, negative, both, opposite, comparisons_of, comparisons_in, literals_of, each_literals, implication_literals, all_pairs}
use Rattle.lq_logic_predicates.specs.Reading.{Reading, yes, no, row, flag_is, objects_are, all_of, any_of, Readings, none, more, AllFitIn, EachFits, reading_of, comparison_reading}
use Rattle.lq_prover_proof_tree.specs.Literals.Gathered.{CanBeGathered, AllGathered, PredicatesGather}
use Rattle.lq_prover_proof_tree.specs.Literals.Leaves.{Leaf, leaves_of, each_leaves, leaves_in}
use Rattle.lq_prover_proof_tree.specs.Literals.Sources.{Source, leaf_source, row_source, sources_of, literals_in}

pub all_left : {X : Type 0} (P : X → Type 0) (xs ys : List X) → All P (xs ++ ys) → All P xs
all_left P [] ys h = All-nil P
all_left P (x ∷ xs) ys h = All-cons P x xs (All-head P x (xs ++ ys) h) (all_left P xs ys (All-tail P x (xs ++ ys) h))

pub all_right : {X : Type 0} (P : X → Type 0) (xs ys : List X) → All P (xs ++ ys) → All P ys
all_right P [] ys h = h
all_right P (x ∷ xs) ys h = all_right P xs ys (All-tail P x (xs ++ ys) h)

mutual
  pub fits_all : (r : Reading Comparison) → AllFitIn r → All CanGather (comparisons_of r)
  fits_all yes h = All-nil CanGather
  fits_all no h = All-nil CanGather
  fits_all (row c) h = All-cons CanGather c [] h (All-nil CanGather)
  fits_all (flag_is x sign) h = All-nil CanGather
  fits_all (objects_are a b sign) h = All-nil CanGather
  fits_all (all_of rs) h = each_fits rs h
  fits_all (any_of rs) h = each_fits rs h

  each_fits : (rs : Readings Comparison) → EachFits rs → All CanGather (comparisons_in rs)
  each_fits none h = All-nil CanGather
  each_fits (more r rs) h = All-append CanGather (comparisons_of r) (comparisons_in rs) (fits_all r h.0) (each_fits rs h.1)

mutual
  pub all_fit : (r : Reading Comparison) → All CanGather (comparisons_of r) → AllFitIn r
  all_fit yes h = tt
  all_fit no h = tt
  all_fit (row c) h = All-head CanGather c [] h
  all_fit (flag_is x sign) h = tt
  all_fit (objects_are a b sign) h = tt
  all_fit (all_of rs) h = each_fit rs h
  all_fit (any_of rs) h = each_fit rs h

  each_fit : (rs : Readings Comparison) → All CanGather (comparisons_in rs) → EachFits rs
  each_fit none h = tt
  each_fit (more r rs) h =
      (all_fit r (all_left CanGather (comparisons_of r) (comparisons_in rs) h), each_fit rs (all_right CanGather (comparisons_of r) (comparisons_in rs) h))

-- ---- the literals of the sources

literals-append : (ss ts : List Source) → literals_in (ss ++ ts) ≡ literals_in ss ++ literals_in ts
literals-append [] ts = refl
literals-append (s ∷ ss) ts = ap (λ l. s.literals ++ l) (literals-append ss ts) ∙ sym (append_assoc s.literals (literals_in ss) (literals_in ts))

abbrev leaf_literals : List Leaf → List Comparison
leaf_literals ls = literals_in (map leaf_source ls)

two_parts : (ls ms : List Leaf) → leaf_literals (ls ++ ms) ≡ leaf_literals ls ++ leaf_literals ms
two_parts ls ms = ap literals_in (map-append leaf_source ls ms) ∙ literals-append (map leaf_source ls) (map leaf_source ms)

two_are : (ls ms : List Leaf) (cs ds : List Comparison) → leaf_literals ls ≡ cs → leaf_literals ms ≡ ds → leaf_literals (ls ++ ms) ≡ cs ++ ds
two_are ls ms cs ds e f = two_parts ls ms ∙ ap₂ (λ x y. x ++ y) e f

of_formula : (s : Signs) (p : Formula) → leaf_literals (leaves_of s p) ≡ literals_of s p
of_formula s truth = refl
of_formula s falsity = refl
of_formula s (flag x) = refl
of_formula s (compare o a b) = append-nil (literals_of s (compare o a b))
of_formula s (objects a b) = refl
of_formula s (negation p) = of_formula (opposite s) p
of_formula s (conjunction p q) = two_are (leaves_of s p) (leaves_of s q) (literals_of s p) (literals_of s q) (of_formula s p) (of_formula s q)
of_formula s (disjunction p q) = two_are (leaves_of s p) (leaves_of s q) (literals_of s p) (literals_of s q) (of_formula s p) (of_formula s q)
of_formula s (equivalence p q) = two_are (leaves_of both p) (leaves_of both q) (literals_of both p) (literals_of both q) (of_formula both p) (of_formula both q)

of_each : (ps : List Formula) → leaf_literals (each_leaves ps) ≡ each_literals ps
of_each [] = refl
of_each (p ∷ ps) = two_are (leaves_of positive p) (each_leaves ps) (literals_of positive p) (each_literals ps) (of_formula positive p) (of_each ps)

of_rows : (cs : List Comparison) → literals_in (map row_source cs) ≡ cs
of_rows [] = refl
of_rows (c ∷ cs) = ap (λ l. c ∷ l) (of_rows cs)

pub sources_literals : (i : ClosedImplication) → literals_in (sources_of i) ≡ implication_literals i
sources_literals i =
    literals-append (map leaf_source (leaves_in i)) (map row_source (all_pairs (terms_in i)))
    ∙ ap₂ (λ x y. x ++ y) (two_are (each_leaves i.hypotheses) (leaves_of negative i.goal) _ _ (of_each i.hypotheses) (of_formula negative i.goal)) (of_rows (all_pairs (terms_in i)))

gathered_all : (ss : List Source) → AllGathered ss → All CanGather (literals_in ss)
gathered_all [] h = All-nil CanGather
gathered_all (s ∷ ss) h =
    All-append CanGather s.literals (literals_in ss) (All-head (λ (t : Source). All CanGather t.literals) s ss h) (gathered_all ss (All-tail (λ (t : Source). All CanGather t.literals) s ss h))

all_gathered : (ss : List Source) → All CanGather (literals_in ss) → AllGathered ss
all_gathered [] h = All-nil (λ (t : Source). All CanGather t.literals)
all_gathered (s ∷ ss) h =
    All-cons (λ (t : Source). All CanGather t.literals) s ss (all_left CanGather s.literals (literals_in ss) h) (all_gathered ss (all_right CanGather s.literals (literals_in ss) h))

pub sources_gathered : (i : ClosedImplication) → AllGathered (sources_of i) ↔ CanBeGathered i
sources_gathered i =
    (λ h. subst (All CanGather) (sources_literals i) (gathered_all (sources_of i) h), λ h. all_gathered (sources_of i) (subst (All CanGather) (sym (sources_literals i)) h))

-- the leaves have the literals of the predicates
pub predicates_gathered : (i : ClosedImplication) → PredicatesGather i → AllGathered (map leaf_source (leaves_in i))
predicates_gathered i h =
    all_gathered (map leaf_source (leaves_in i))
    (subst (All CanGather) (sym (two_are (each_leaves i.hypotheses) (leaves_of negative i.goal) _ _ (of_each i.hypotheses) (of_formula negative i.goal))) h)

-- ---- a formula, with the signs with which it is read

pub record Fit (p : Formula) : Type 0 where
  pub as_true : All CanGather (literals_of positive p) ↔ AllFitIn (reading_of true p)
  pub as_false : All CanGather (literals_of negative p) ↔ AllFitIn (reading_of false p)
  pub as_both : All CanGather (literals_of both p) ↔ (AllFitIn (reading_of true p) × AllFitIn (reading_of false p))

nothing_fits : (p : Formula) → literals_of positive p ≡ [] → literals_of negative p ≡ [] → literals_of both p ≡ [] → AllFitIn (reading_of true p) → AllFitIn (reading_of false p) → Fit p
nothing_fits p d e f h k =
    record {
      as_true = (λ _. h, λ _. subst (All CanGather) (sym d) (All-nil CanGather));
      as_false = (λ _. k, λ _. subst (All CanGather) (sym e) (All-nil CanGather));
      as_both = (λ _. (h, k), λ _. subst (All CanGather) (sym f) (All-nil CanGather));
    }

pair_fits : (xs ys : List Comparison) (P Q : Type 0) → All CanGather xs ↔ P → All CanGather ys ↔ Q → All CanGather (xs ++ ys) ↔ (P × (Q × Unit {0}))
pair_fits xs ys P Q f g = (
  λ h. (f.0 (all_left CanGather xs ys h), (g.0 (all_right CanGather xs ys h), tt)),
  λ h. All-append CanGather xs ys (f.1 h.0) (g.1 h.1.0),
)

both_fit : (xs ys : List Comparison) (P Q R S : Type 0) → All CanGather xs ↔ (P × R) → All CanGather ys ↔ (Q × S)
    → All CanGather (xs ++ ys) ↔ ((P × (Q × Unit {0})) × (R × (S × Unit {0})))
both_fit xs ys P Q R S f g = (
  λ h.
      let a = f.0 (all_left CanGather xs ys h) in let b = g.0 (all_right CanGather xs ys h) in
      ((a.0, (b.0, tt)), (a.1, (b.1, tt))),
  λ h. All-append CanGather xs ys (f.1 (h.0.0, h.1.0)) (g.1 (h.0.1.0, h.1.1.0)),
)

-- both or neither of two, and the one without the other
same_fit : (xs ys : List Comparison) (P Q R S : Type 0) → All CanGather xs ↔ (P × R) → All CanGather ys ↔ (Q × S)
    → All CanGather (xs ++ ys) ↔ ((P × (Q × Unit {0})) × ((R × (S × Unit {0})) × Unit {0}))
same_fit xs ys P Q R S f g =
    let k = both_fit xs ys P Q R S f g in (λ h. let a = k.0 h in (a.0, (a.1, tt)), λ h. k.1 (h.0, h.1.0))

other_fit : (xs ys : List Comparison) (P Q R S : Type 0) → All CanGather xs ↔ (P × R) → All CanGather ys ↔ (Q × S)
    → All CanGather (xs ++ ys) ↔ ((P × (S × Unit {0})) × ((R × (Q × Unit {0})) × Unit {0}))
other_fit xs ys P Q R S f g = (
  λ h.
      let a = f.0 (all_left CanGather xs ys h) in let b = g.0 (all_right CanGather xs ys h) in
      ((a.0, (b.1, tt)), ((a.1, (b.0, tt)), tt)),
  λ h. All-append CanGather xs ys (f.1 (h.0.0, h.1.0.0)) (g.1 (h.1.0.1.0, h.0.1.0)),
)

pub fit : (p : Formula) → Fit p
fit truth = nothing_fits truth refl refl refl tt tt
fit falsity = nothing_fits falsity refl refl refl tt tt
fit (flag x) = nothing_fits (flag x) refl refl refl tt tt
fit (objects a b) = nothing_fits (objects a b) refl refl refl tt tt
fit (compare o a b) =
    let yes_is = comparison_reading true o a b in let no_is = comparison_reading false o a b in
    record {
      as_true = (all_fit yes_is, fits_all yes_is);
      as_false = (all_fit no_is, fits_all no_is);
      as_both = (
        λ h. (all_fit yes_is (all_left CanGather (comparisons_of yes_is) (comparisons_of no_is) h), all_fit no_is (all_right CanGather (comparisons_of yes_is) (comparisons_of no_is) h)),
        λ h. All-append CanGather (comparisons_of yes_is) (comparisons_of no_is) (fits_all yes_is h.0) (fits_all no_is h.1),
      );
    }
fit (negation p) =
    let f = fit p in
    record { as_true = f.as_false; as_false = f.as_true; as_both = (λ h. let a = f.as_both.0 h in (a.1, a.0), λ h. f.as_both.1 (h.1, h.0)) }
fit (conjunction p q) =
    let f = fit p in let g = fit q in
    record {
      as_true = pair_fits (literals_of positive p) (literals_of positive q) _ _ f.as_true g.as_true;
      as_false = pair_fits (literals_of negative p) (literals_of negative q) _ _ f.as_false g.as_false;
      as_both = both_fit (literals_of both p) (literals_of both q) _ _ _ _ f.as_both g.as_both;
    }
fit (disjunction p q) =
    let f = fit p in let g = fit q in
    record {
      as_true = pair_fits (literals_of positive p) (literals_of positive q) _ _ f.as_true g.as_true;
      as_false = pair_fits (literals_of negative p) (literals_of negative q) _ _ f.as_false g.as_false;
      as_both = both_fit (literals_of both p) (literals_of both q) _ _ _ _ f.as_both g.as_both;
    }
fit (equivalence p q) =
    let f = fit p in let g = fit q in
    let one = same_fit (literals_of both p) (literals_of both q) _ _ _ _ f.as_both g.as_both in
    let two = other_fit (literals_of both p) (literals_of both q) _ _ _ _ f.as_both g.as_both in
    record { as_true = one; as_false = two; as_both = (λ h. (one.0 h, two.0 h), λ h. one.1 h.0) }

-- ---- what a call says of whether something is past

pub past_of : {E : Type 0} (r : Result Bool E) (P Q : Type 0) → (Q → P) → IfOk r (λ b. b ≡ true → P → ⊥) → IfOk r (λ b. b ≡ true → Q → ⊥)
past_of (Ok b) P Q f h = λ e q. h e (f q)
past_of (Err x) P Q f h = tt

pub fits_of : {E : Type 0} (r : Result Bool E) (P Q : Type 0) → (P → Q) → IfOk r (λ b. b ≡ false → P) → IfOk r (λ b. b ≡ false → Q)
fits_of (Ok b) P Q f h = λ e. f (h e)
fits_of (Err x) P Q f h = tt

pub past_of_two : {E : Type 0} (r : Result Bool E) (P R Q : Type 0) → (Q → P × R) → IfOk r (λ b. b ≡ true → P → R → ⊥) → IfOk r (λ b. b ≡ true → Q → ⊥)
past_of_two (Ok b) P R Q f h = λ e q. let k = f q in h e k.0 k.1
past_of_two (Err x) P R Q f h = tt

pub fits_of_two : {E : Type 0} (r : Result Bool E) (P R Q : Type 0) → (P × R → Q) → IfOk r (λ b. b ≡ false → P) → IfOk r (λ b. b ≡ false → R) → IfOk r (λ b. b ≡ false → Q)
fits_of_two (Ok b) P R Q f h k = λ e. f (h e, k e)
fits_of_two (Err x) P R Q f h k = tt
