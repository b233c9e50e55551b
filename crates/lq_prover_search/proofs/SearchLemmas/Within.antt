-- Readings, and the facts and choices that they add.
use Rattle.std.proofs.Common.{◌≡◌, ℕ, zero, suc, ◌<◌, List, [], ◌∷◌, ◌++◌, All, length, get_or, map, subst, arith}
use Rattle.std.proofs.lemmas.List.Elements.{All-append, All-cons, All-head, All-nil, All-tail}
use Rattle.lq_prover_proof_tree.specs.Trees.Path.{Fact, row_fact, flag_fact, objects_fact, never}
use Rattle.lq_prover_case.specs.Equations.Naming.{AllBelow, HasAllSides, HasSides, IsBelow}
use Rattle.lq_logic_rows.specs.Row.{Row}
use Rattle.lq_prover_search.specs.Path.Readings.{AreOver, IsOver}
use Rattle.lq_prover_search.proofs.PathLemmas.Readings.{row_of}
use Rattle.lq_logic_predicates.specs.NnfView.{nnf_view}
use Rattle.lq_logic_predicates.specs.Reading.{Reading, yes, no, row, flag_is, objects_are, all_of, any_of, Readings, none, more}
use Rattle.lq_logic_predicates.specs.declared.nnf.Nnf.{Nnf}
use Rattle.lq_prover_search.proofs.PruningLemmas.Taking as taking
use Rattle.lq_prover_search.specs.Search.Scope.{AllMayHold, AllWithin, AreWithin, IsFactWithin, IsWithin, Scope}

mutual
  pub is_over : (s : Scope) (r : Reading Row) → IsWithin s r → IsOver (length s.terms) s.objects r
  is_over s yes h = tt
  is_over s no h = tt
  is_over s (row r) h = h
  is_over s (flag_is x sign) h = tt
  is_over s (objects_are a b sign) h = h
  is_over s (all_of rs) h = are_over s rs h
  is_over s (any_of rs) h = are_over s rs h

  pub are_over : (s : Scope) (rs : Readings Row) → AreWithin s rs → AreOver (length s.terms) s.objects rs
  are_over s none h = tt
  are_over s (more r rs) h = (is_over s r h.0, are_over s rs h.1)

pub item_within : (s : Scope) (items : List Nnf) (k : ℕ) (d : Nnf) → k < length items → AreWithin s (row_of items) → IsWithin s (nnf_view (get_or items k d))
item_within s [] k d h o = absurd (omega (arith, h))
item_within s (n ∷ items) zero d h o = o.0
item_within s (n ∷ items) (suc k) d h o = item_within s items k d (omega (arith, h)) o.1

-- ---- facts

pub within-append : (s : Scope) (xs ys : List Fact) → AllWithin s xs → AllWithin s ys → AllWithin s (xs ++ ys)
within-append s [] ys a b = b
within-append s (x ∷ xs) ys a b = (a.0, within-append s xs ys a.1 b)

pub may_hold-append : (xs ys : List Fact) → AllMayHold xs → AllMayHold ys → AllMayHold (xs ++ ys)
may_hold-append [] ys a b = b
may_hold-append (x ∷ xs) ys a b = (a.0, may_hold-append xs ys a.1 b)

mutual
  pub facts_within : (s : Scope) (r : Reading Row) → IsWithin s r → AllWithin s (taking.facts_of r)
  facts_within s yes h = tt
  facts_within s no h = (tt, tt)
  facts_within s (row r) h = (h, tt)
  facts_within s (flag_is x sign) h = (h, tt)
  facts_within s (objects_are a b sign) h = (h, tt)
  facts_within s (all_of rs) h = all_facts_within s rs h
  facts_within s (any_of rs) h = tt

  pub all_facts_within : (s : Scope) (rs : Readings Row) → AreWithin s rs → AllWithin s (taking.facts_of_all rs)
  all_facts_within s none h = tt
  all_facts_within s (more r rs) h = within-append s (taking.facts_of r) (taking.facts_of_all rs) (facts_within s r h.0) (all_facts_within s rs h.1)

fact_sides : (s : Scope) (f : Fact) → IsFactWithin s f → HasSides s.objects f
fact_sides s (row_fact r) h = tt
fact_sides s (flag_fact x value) h = tt
fact_sides s (objects_fact a b one) h = h
fact_sides s never h = tt

pub all_sides : (s : Scope) (fs : List Fact) → AllWithin s fs → HasAllSides s.objects fs
all_sides s [] h k f e = cc
all_sides s (x ∷ fs) h zero f e = let same : x ≡ f = cc in subst (HasSides s.objects) same (fact_sides s x h.0)
all_sides s (x ∷ fs) h (suc k) f e = all_sides s fs h.1 k f e

fact_below : (s : Scope) (f : Fact) → IsFactWithin s f → IsBelow (length s.terms) f
fact_below s (row_fact r) h = h
fact_below s (flag_fact x value) h = tt
fact_below s (objects_fact a b one) h = tt
fact_below s never h = tt

pub all_below : (s : Scope) (fs : List Fact) → AllWithin s fs → AllBelow (length s.terms) fs
all_below s [] h k f e = cc
all_below s (x ∷ fs) h zero f e = let same : x ≡ f = cc in subst (IsBelow (length s.terms)) same (fact_below s x h.0)
all_below s (x ∷ fs) h (suc k) f e = all_below s fs h.1 k f e

-- ---- choices

mutual
  pub choices_within : (s : Scope) (r : Reading Row) → IsWithin s r → All (AreWithin s) (taking.choices_of r)
  choices_within s yes h = All-nil (AreWithin s)
  choices_within s no h = All-nil (AreWithin s)
  choices_within s (row r) h = All-nil (AreWithin s)
  choices_within s (flag_is x sign) h = All-nil (AreWithin s)
  choices_within s (objects_are a b sign) h = All-nil (AreWithin s)
  choices_within s (all_of rs) h = all_choices_within s rs h
  choices_within s (any_of rs) h = All-cons (AreWithin s) rs [] h (All-nil (AreWithin s))

  pub all_choices_within : (s : Scope) (rs : Readings Row) → AreWithin s rs → All (AreWithin s) (taking.choices_of_all rs)
  all_choices_within s none h = All-nil (AreWithin s)
  all_choices_within s (more r rs) h =
      All-append (AreWithin s) (taking.choices_of r) (taking.choices_of_all rs) (choices_within s r h.0) (all_choices_within s rs h.1)

pub All-unmap : {X Y : Type 0} (P : Y → Type 0) (f : X → Y) (xs : List X) → All P (map f xs) → All (λ x. P (f x)) xs
All-unmap {X} {Y} P f [] h = All-nil (λ x. P (f x))
All-unmap {X} {Y} P f (x ∷ xs) h =
    All-cons (λ y. P (f y)) x xs (All-head P (f x) (map f xs) h) (All-unmap P f xs (All-tail P (f x) (map f xs) h))

pub All-left : {X : Type 0} (P : X → Type 0) (xs ys : List X) → All P (xs ++ ys) → All P xs
All-left {X} P [] ys h = All-nil P
All-left {X} P (x ∷ xs) ys h = All-cons P x xs (All-head P x (xs ++ ys) h) (All-left P xs ys (All-tail P x (xs ++ ys) h))

pub All-right : {X : Type 0} (P : X → Type 0) (xs ys : List X) → All P (xs ++ ys) → All P ys
All-right {X} P [] ys h = h
All-right {X} P (x ∷ xs) ys h = All-right P xs ys (All-tail P x (xs ++ ys) h)
