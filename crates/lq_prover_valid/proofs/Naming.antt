-- The flags and objects of an implication, and of its readings.
use Rattle.std.proofs.Common.{◌≡◌, ℕ, ℤ, ◌<◌, List, [], ◌∷◌, ◌++◌, All, Bool, true, false, ◌||◌, length, refl, sym, subst, if◌then◌else◌}
use Rattle.std.proofs.lemmas.Bool.{or_left, or_right}
use Rattle.std.proofs.lemmas.List.Elements.{All-head, All-tail}
use Rattle.std.specs.List.{list_any}
use Rattle.lq_prover_case.specs.Equations.Naming.{Keeps}
use Rattle.lq_logic_rows.specs.Difference.{TermsBelow}
use Rattle.lq_logic_rows.specs.Row.{Row}
use Rattle.lq_prover_proof_tree.specs.Literals.Leaves.{Leaf, leaves_of, leaves_in, each_leaves}
use Rattle.lq_prover_proof_tree.specs.Literals.Parts.{flags_after, flags_in, flags_with, objects_after, objects_in, objects_of, objects_with, with_flag}
use Rattle.lq_base_names.specs.declared.operation.CompareOp.{CompareOp}
use Rattle.lq_base_names.specs.declared.operation.CompareOp.TheVariants as op
use Rattle.lq_logic_predicates.specs.ClosedImplication.{ClosedImplication}
use Rattle.lq_logic_predicates.specs.Comparison.{Comparison, IsRowOf}
use Rattle.lq_logic_predicates.specs.Formula.{Formula, truth, falsity, flag, compare, objects, negation, conjunction, disjunction, equivalence}
use Rattle.lq_logic_predicates.specs.Literals.{Signs, positive, negative, both, opposite}
use Rattle.lq_logic_predicates.specs.Numbering.{has_term-append, has_term-with_term}
use Rattle.lq_logic_predicates.specs.Reading.{Reading, yes, no, row, flag_is, objects_are, all_of, any_of, Readings, none, more, reading_of, comparison_reading, Gathers, AllGather, gathers_yes, gathers_no, gathers_row, gathers_flag, gathers_objects, gathers_all, gathers_any, gather_none, gather_more}
use Rattle.lq_logic_predicates.specs.SameLaws.{same-refl}
use Rattle.lq_logic_predicates.specs.Sum.{Sum, whole, var, neg, add, sub, mul, div, rem, len, measure, same_symbol}
use Rattle.lq_logic_predicates.specs.Table.{has_term, with_term}
use Rattle.lq_logic_predicates.specs.declared.symbol.Symbol.{Symbol}
use Rattle.lq_prover_search.specs.Search.Scope.{AreWithin, IsWithin, Scope, has_flag}

-- ---- a row is over the terms

-- rows of comparisons are over the terms
abbrev pub RowsAreWithin : Type 0
RowsAreWithin = (terms : List Sum) (c : Comparison) (r : Row) → IsRowOf terms c r → All (λ part. part.0 < length terms) r.parts

pub below : (n : ℕ) (r : Row) → All (λ part. part.0 < n) r.parts → TermsBelow n r.parts
below n r h = by r.parts h
  where
    by : (parts : List (ℕ × ℤ)) → All (λ part. part.0 < n) parts → TermsBelow n parts
    by [] k = tt
    by (part ∷ parts) k = (All-head (λ (x : ℕ × ℤ). x.0 < n) part parts k, by parts (All-tail (λ (x : ℕ × ℤ). x.0 < n) part parts k))

-- ---- the names of a formula

abbrev pub HasNames : Scope → Formula → Type 0
HasNames s truth = Unit {0}
HasNames s falsity = Unit {0}
HasNames s (flag x) = has_flag s.flags x ≡ true
HasNames s (compare o a b) = Unit {0}
HasNames s (objects a b) = (has_term s.objects a ≡ true) × (has_term s.objects b ≡ true)
HasNames s (negation p) = HasNames s p
HasNames s (conjunction p q) = HasNames s p × HasNames s q
HasNames s (disjunction p q) = HasNames s p × HasNames s q
HasNames s (equivalence p q) = HasNames s p × HasNames s q

abbrev mutual
  ReadingHasNames : Scope → Reading Comparison → Type 0
  ReadingHasNames s yes = Unit {0}
  ReadingHasNames s no = Unit {0}
  ReadingHasNames s (row c) = Unit {0}
  ReadingHasNames s (flag_is x sign) = has_flag s.flags x ≡ true
  ReadingHasNames s (objects_are a b sign) = (has_term s.objects a ≡ true) × (has_term s.objects b ≡ true)
  ReadingHasNames s (all_of rs) = ReadingsHaveNames s rs
  ReadingHasNames s (any_of rs) = ReadingsHaveNames s rs

  ReadingsHaveNames : Scope → Readings Comparison → Type 0
  ReadingsHaveNames s none = Unit {0}
  ReadingsHaveNames s (more r rs) = ReadingHasNames s r × ReadingsHaveNames s rs

comparison_names : (s : Scope) (sign : Bool) (o : CompareOp) (a b : Sum) → ReadingHasNames s (comparison_reading sign o a b)
comparison_names s true op.Eq a b = tt
comparison_names s true op.Ne a b = (tt, (tt, tt))
comparison_names s true op.Lt a b = tt
comparison_names s true op.Le a b = tt
comparison_names s true op.Gt a b = tt
comparison_names s true op.Ge a b = tt
comparison_names s false op.Eq a b = (tt, (tt, tt))
comparison_names s false op.Ne a b = tt
comparison_names s false op.Lt a b = tt
comparison_names s false op.Le a b = tt
comparison_names s false op.Gt a b = tt
comparison_names s false op.Ge a b = tt

reading_names : (s : Scope) (sign : Bool) (p : Formula) → HasNames s p → ReadingHasNames s (reading_of sign p)
reading_names s true truth h = tt
reading_names s false truth h = tt
reading_names s true falsity h = tt
reading_names s false falsity h = tt
reading_names s true (flag x) h = h
reading_names s false (flag x) h = h
reading_names s true (compare o a b) h = comparison_names s true o a b
reading_names s false (compare o a b) h = comparison_names s false o a b
reading_names s true (objects a b) h = h
reading_names s false (objects a b) h = h
reading_names s true (negation p) h = reading_names s false p h
reading_names s false (negation p) h = reading_names s true p h
reading_names s true (conjunction p q) h = (reading_names s true p h.0, (reading_names s true q h.1, tt))
reading_names s false (conjunction p q) h = (reading_names s false p h.0, (reading_names s false q h.1, tt))
reading_names s true (disjunction p q) h = (reading_names s true p h.0, (reading_names s true q h.1, tt))
reading_names s false (disjunction p q) h = (reading_names s false p h.0, (reading_names s false q h.1, tt))
reading_names s true (equivalence p q) h =
    ((reading_names s true p h.0, (reading_names s true q h.1, tt)), ((reading_names s false p h.0, (reading_names s false q h.1, tt)), tt))
reading_names s false (equivalence p q) h =
    ((reading_names s true p h.0, (reading_names s false q h.1, tt)), ((reading_names s false p h.0, (reading_names s true q h.1, tt)), tt))

mutual
  gathered_within : RowsAreWithin → (s : Scope) (terms : List Sum) (c : Reading Comparison) (r : Reading Row) → s.terms ≡ terms → Gathers terms c r → ReadingHasNames s c → IsWithin s r
  gathered_within w s terms _ _ e gathers_yes h = tt
  gathered_within w s terms _ _ e gathers_no h = tt
  gathered_within w s terms _ _ e (gathers_row c r i) h = below (length s.terms) r (subst (λ l. All (λ part. part.0 < length l) r.parts) (sym e) (w terms c r i))
  gathered_within w s terms _ _ e (gathers_flag x sign) h = h
  gathered_within w s terms _ _ e (gathers_objects a b sign) h = h
  gathered_within w s terms _ _ e (gathers_all cs rs g) h = all_gathered_within w s terms cs rs e g h
  gathered_within w s terms _ _ e (gathers_any cs rs g) h = all_gathered_within w s terms cs rs e g h

  all_gathered_within : RowsAreWithin → (s : Scope) (terms : List Sum) (cs : Readings Comparison) (rs : Readings Row) → s.terms ≡ terms → AllGather terms cs rs → ReadingsHaveNames s cs
      → AreWithin s rs
  all_gathered_within w s terms _ _ e gather_none h = tt
  all_gathered_within w s terms _ _ e (gather_more c cs r rs g gs) h = (gathered_within w s terms c r e g h.0, all_gathered_within w s terms cs rs e gs h.1)

pub reading_within : RowsAreWithin → (s : Scope) (sign : Bool) (p : Formula) (r : Reading Row) → HasNames s p → Gathers s.terms (reading_of sign p) r → IsWithin s r
reading_within w s sign p r h g = gathered_within w s s.terms (reading_of sign p) r refl g (reading_names s sign p h)

-- ---- the names of leaves

abbrev LeavesHaveNames : Scope → List Leaf → Type 0
LeavesHaveNames s [] = Unit {0}
LeavesHaveNames s (l ∷ ls) = HasNames s l.formula × LeavesHaveNames s ls

names_left : (s : Scope) (xs ys : List Leaf) → LeavesHaveNames s (xs ++ ys) → LeavesHaveNames s xs
names_left s [] ys h = tt
names_left s (x ∷ xs) ys h = (h.0, names_left s xs ys h.1)

names_right : (s : Scope) (xs ys : List Leaf) → LeavesHaveNames s (xs ++ ys) → LeavesHaveNames s ys
names_right s [] ys h = h
names_right s (x ∷ xs) ys h = names_right s xs ys h.1

formula_names : (s : Scope) (g : Signs) (p : Formula) → LeavesHaveNames s (leaves_of g p) → HasNames s p
formula_names s g truth h = tt
formula_names s g falsity h = tt
formula_names s g (flag x) h = h.0
formula_names s g (compare o a b) h = tt
formula_names s g (objects a b) h = h.0
formula_names s g (negation p) h = formula_names s (opposite g) p h
formula_names s g (conjunction p q) h =
    (formula_names s g p (names_left s (leaves_of g p) (leaves_of g q) h), formula_names s g q (names_right s (leaves_of g p) (leaves_of g q) h))
formula_names s g (disjunction p q) h =
    (formula_names s g p (names_left s (leaves_of g p) (leaves_of g q) h), formula_names s g q (names_right s (leaves_of g p) (leaves_of g q) h))
formula_names s g (equivalence p q) h =
    (formula_names s both p (names_left s (leaves_of both p) (leaves_of both q) h), formula_names s both q (names_right s (leaves_of both p) (leaves_of both q) h))

abbrev pub EachHasNames : Scope → List Formula → Type 0
EachHasNames s [] = Unit {0}
EachHasNames s (p ∷ ps) = HasNames s p × EachHasNames s ps

each_names : (s : Scope) (ps : List Formula) → LeavesHaveNames s (each_leaves ps) → EachHasNames s ps
each_names s [] h = tt
each_names s (p ∷ ps) h =
    (formula_names s positive p (names_left s (leaves_of positive p) (each_leaves ps) h), each_names s ps (names_right s (leaves_of positive p) (each_leaves ps) h))

-- ---- the leaves of an implication

same_flag : (x : Symbol) → same_symbol x x ≡ true
same_flag x = same-refl (var x)

flag-append : (xs ys : List Symbol) (x : Symbol) → has_flag xs x ≡ true → has_flag (xs ++ ys) x ≡ true
flag-append [] ys x h = cc
flag-append (y ∷ xs) ys x h = by (flag-append xs ys x) (same_symbol x y) h
  where
    by : (has_flag xs x ≡ true → has_flag (xs ++ ys) x ≡ true) → (b : Bool) → (b || has_flag xs x) ≡ true → (b || has_flag (xs ++ ys) x) ≡ true
    by rest true k = refl
    by rest false k = rest k

flag-last : (xs : List Symbol) (x : Symbol) → has_flag (xs ++ x ∷ []) x ≡ true
flag-last [] x = or_left (same_symbol x x) false (same_flag x)
flag-last (y ∷ xs) x = or_right (same_symbol x y) (has_flag (xs ++ x ∷ []) x) (flag-last xs x)

keeps_flag : (xs : List Symbol) (y x : Symbol) → has_flag xs x ≡ true → has_flag (with_flag xs y) x ≡ true
keeps_flag xs y x h = by (list_any (same_symbol y) xs)
  where
    by : (b : Bool) → has_flag (if b then xs else xs ++ y ∷ []) x ≡ true
    by true = h
    by false = flag-append xs (y ∷ []) x h

has_new_flag : (xs : List Symbol) (x : Symbol) → has_flag (with_flag xs x) x ≡ true
has_new_flag xs x = by (list_any (same_symbol x) xs) refl
  where
    by : (b : Bool) → list_any (same_symbol x) xs ≡ b → has_flag (if b then xs else xs ++ x ∷ []) x ≡ true
    by true e = e
    by false e = flag-last xs x

keeps_flags_with : (xs : List Symbol) (p : Formula) (x : Symbol) → has_flag xs x ≡ true → has_flag (flags_with xs p) x ≡ true
keeps_flags_with xs truth x h = h
keeps_flags_with xs falsity x h = h
keeps_flags_with xs (flag y) x h = keeps_flag xs y x h
keeps_flags_with xs (compare o a b) x h = h
keeps_flags_with xs (objects a b) x h = h
keeps_flags_with xs (negation p) x h = h
keeps_flags_with xs (conjunction p q) x h = h
keeps_flags_with xs (disjunction p q) x h = h
keeps_flags_with xs (equivalence p q) x h = h

keeps_flags_after : (xs : List Symbol) (ls : List Leaf) (x : Symbol) → has_flag xs x ≡ true → has_flag (flags_after xs ls) x ≡ true
keeps_flags_after xs [] x h = h
keeps_flags_after xs (l ∷ ls) x h = keeps_flags_after (flags_with xs l.formula) ls x (keeps_flags_with xs l.formula x h)

keeps_object : (os : List Sum) (a t : Sum) → has_term os t ≡ true → has_term (with_term os a) t ≡ true
keeps_object os a t h = by (has_term os a)
  where
    by : (b : Bool) → has_term (if b then os else os ++ a ∷ []) t ≡ true
    by true = h
    by false = has_term-append os (a ∷ []) t h

keeps_objects_of : (os : List Sum) (a t : Sum) → has_term os t ≡ true → has_term (objects_of os a) t ≡ true
keeps_objects_of os (whole n) t h = h
keeps_objects_of os (var x) t h = h
keeps_objects_of os (neg a) t h = keeps_objects_of os a t h
keeps_objects_of os (add a b) t h = keeps_objects_of (objects_of os a) b t (keeps_objects_of os a t h)
keeps_objects_of os (sub a b) t h = keeps_objects_of (objects_of os a) b t (keeps_objects_of os a t h)
keeps_objects_of os (mul a b) t h = keeps_objects_of (objects_of os a) b t (keeps_objects_of os a t h)
keeps_objects_of os (div a b) t h = keeps_objects_of (objects_of os a) b t (keeps_objects_of os a t h)
keeps_objects_of os (rem a b) t h = keeps_objects_of (objects_of os a) b t (keeps_objects_of os a t h)
keeps_objects_of os (len a) t h = keeps_object os a t h
keeps_objects_of os (measure f a) t h = keeps_object os a t h

keeps_objects_with : (os : List Sum) (p : Formula) (t : Sum) → has_term os t ≡ true → has_term (objects_with os p) t ≡ true
keeps_objects_with os truth t h = h
keeps_objects_with os falsity t h = h
keeps_objects_with os (flag x) t h = h
keeps_objects_with os (compare o a b) t h = keeps_objects_of (objects_of os a) b t (keeps_objects_of os a t h)
keeps_objects_with os (objects a b) t h = keeps_object (with_term os a) b t (keeps_object os a t h)
keeps_objects_with os (negation p) t h = h
keeps_objects_with os (conjunction p q) t h = h
keeps_objects_with os (disjunction p q) t h = h
keeps_objects_with os (equivalence p q) t h = h

keeps_objects_after : (os : List Sum) (ls : List Leaf) (t : Sum) → has_term os t ≡ true → has_term (objects_after os ls) t ≡ true
keeps_objects_after os [] t h = h
keeps_objects_after os (l ∷ ls) t h = keeps_objects_after (objects_with os l.formula) ls t (keeps_objects_with os l.formula t h)

-- the flags and objects after some leaves are there
record Reaches (s : Scope) (flags : List Symbol) (os : List Sum) : Type 0 where
  flags_reach : (x : Symbol) → has_flag flags x ≡ true → has_flag s.flags x ≡ true
  objects_reach : (t : Sum) → has_term os t ≡ true → has_term s.objects t ≡ true

-- no leaf has connectives; those that come under one are passed over
abbrev IsLeafFormula : Formula → Type 0
IsLeafFormula (negation p) = ⊥
IsLeafFormula (conjunction p q) = ⊥
IsLeafFormula (disjunction p q) = ⊥
IsLeafFormula (equivalence p q) = ⊥
IsLeafFormula truth = Unit {0}
IsLeafFormula falsity = Unit {0}
IsLeafFormula (flag x) = Unit {0}
IsLeafFormula (compare o a b) = Unit {0}
IsLeafFormula (objects a b) = Unit {0}

abbrev AreLeaves : List Leaf → Type 0
AreLeaves [] = Unit {0}
AreLeaves (l ∷ ls) = IsLeafFormula l.formula × AreLeaves ls

leaves-append : (xs ys : List Leaf) → AreLeaves xs → AreLeaves ys → AreLeaves (xs ++ ys)
leaves-append [] ys a b = b
leaves-append (x ∷ xs) ys a b = (a.0, leaves-append xs ys a.1 b)

are_leaves : (g : Signs) (p : Formula) → AreLeaves (leaves_of g p)
are_leaves g truth = tt
are_leaves g falsity = tt
are_leaves g (flag x) = (tt, tt)
are_leaves g (compare o a b) = (tt, tt)
are_leaves g (objects a b) = (tt, tt)
are_leaves g (negation p) = are_leaves (opposite g) p
are_leaves g (conjunction p q) = leaves-append (leaves_of g p) (leaves_of g q) (are_leaves g p) (are_leaves g q)
are_leaves g (disjunction p q) = leaves-append (leaves_of g p) (leaves_of g q) (are_leaves g p) (are_leaves g q)
are_leaves g (equivalence p q) = leaves-append (leaves_of both p) (leaves_of both q) (are_leaves both p) (are_leaves both q)

each_are_leaves : (ps : List Formula) → AreLeaves (each_leaves ps)
each_are_leaves [] = tt
each_are_leaves (p ∷ ps) = leaves-append (leaves_of positive p) (each_leaves ps) (are_leaves positive p) (each_are_leaves ps)

leaf_names : (s : Scope) (xs : List Symbol) (os : List Sum) (p : Formula) (ls : List Leaf) → IsLeafFormula p → Reaches s (flags_after (flags_with xs p) ls) (objects_after (objects_with os p) ls)
    → HasNames s p
leaf_names s xs os truth ls i h = tt
leaf_names s xs os falsity ls i h = tt
leaf_names s xs os (flag x) ls i h = h.flags_reach x (keeps_flags_after (with_flag xs x) ls x (has_new_flag xs x))
leaf_names s xs os (compare o a b) ls i h = tt
leaf_names s xs os (objects a b) ls i h = (
  h.objects_reach a (keeps_objects_after (with_term (with_term os a) b) ls a (keeps_object (with_term os a) b a (has_term-with_term os a))),
  h.objects_reach b (keeps_objects_after (with_term (with_term os a) b) ls b (has_term-with_term (with_term os a) b)),
)
leaf_names s xs os (negation p) ls i h = absurd i
leaf_names s xs os (conjunction p q) ls i h = absurd i
leaf_names s xs os (disjunction p q) ls i h = absurd i
leaf_names s xs os (equivalence p q) ls i h = absurd i

all_names : (s : Scope) (xs : List Symbol) (os : List Sum) (ls : List Leaf) → AreLeaves ls → Reaches s (flags_after xs ls) (objects_after os ls) → LeavesHaveNames s ls
all_names s xs os [] a h = tt
all_names s xs os (l ∷ ls) a h = (leaf_names s xs os l.formula ls a.0 h, all_names s (flags_with xs l.formula) (objects_with os l.formula) ls a.1 h)

pub record ImplicationHasNames (s : Scope) (i : ClosedImplication) : Type 0 where
  pub hypotheses : EachHasNames s i.hypotheses
  pub goal : HasNames s i.goal

pub implication_names : (s : Scope) (i : ClosedImplication) → s.flags ≡ flags_in i → Keeps (objects_in i) s.objects → ImplicationHasNames s i
implication_names s i f k =
    let all = all_names s [] [] (leaves_in i) (leaves-append (each_leaves i.hypotheses) (leaves_of negative i.goal) (each_are_leaves i.hypotheses) (are_leaves negative i.goal))
    (record { flags_reach = λ x h. subst (λ l. has_flag l x ≡ true) (sym f) h; objects_reach = k }) in
    record {
      hypotheses = each_names s i.hypotheses (names_left s (each_leaves i.hypotheses) (leaves_of negative i.goal) all);
      goal = formula_names s negative i.goal (names_right s (each_leaves i.hypotheses) (leaves_of negative i.goal) all);
    }
