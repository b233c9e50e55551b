-- The stops of a path are those of the path before.
use Rattle.std.proofs.Common.{◌≡◌, ◌∙◌, ◌⊎◌, inl, inr, ℕ, zero, suc, ◌+◌, ◌^◌, ◌<◌, ◌≤◌, List, [], ◌∷◌, ◌++◌, Some, All, length, get_or, map, slice_get, take, refl, sym, ap, subst, arith}
use Rattle.std.proofs.lemmas.List.{map-append}
use Rattle.std.proofs.lemmas.List.Elements.{All-cons, All-head, All-nil, All-tail, All-weaker}
use Rattle.lq_prover_case.specs.State.PathState.{HasStops}
use Rattle.lq_prover_case.specs.State.RowState.{MayStop}
use Rattle.lq_prover_case.specs.State.Stored.{Stands}
use Rattle.lq_prover_case.proofs.StateLemmas.Handing.{may_stop_as, may_stop_less, of_standing}
use Rattle.lq_prover_proof_tree.specs.Trees.Path.{Fact, row_fact, flag_fact, objects_fact, never, Path, taken, with_choice}
use Rattle.lq_prover_proof_tree.specs.Trees.Proves.{rows_among, rows_from}
use Rattle.lq_prover_differences.specs.Stops.{StopsBy}
use Rattle.lq_prover_differences.specs.Table.{constants}
use Rattle.lq_prover_case.specs.Equations.Equating.{AddsEquations, AreOneFunction, equation, equation_fact}
use Rattle.lq_prover_case.proofs.EquationsLemmas.Sides.{parted, seen-more}
use Rattle.lq_logic_rows.specs.Contradiction.{Tagged}
use Rattle.lq_logic_rows.specs.Row.{Row}
use Rattle.lq_logic_rows.specs.declared.engine.LinearStop.{LinearStop}
use Rattle.lq_logic_rows.specs.declared.engine.LinearStop.TheVariants.{Number, Pivots, Memory}
use Rattle.lq_prover_search.proofs.PathLemmas.Readings.{row_of, view_items}
use Rattle.lq_logic_predicates.specs.NnfView.{nnf_items, nnf_view, nnfs_view}
use Rattle.lq_logic_predicates.specs.Reading.{Reading, yes, no, row, flag_is, objects_are, all_of, any_of, Readings, none, more}
use Rattle.lq_logic_predicates.specs.Sum.{Sum}
use Rattle.lq_logic_predicates.specs.declared.nnf.Nnf.{Nnf}
use Rattle.lq_logic_predicates.specs.declared.nnf.Nnfs.{Nnfs}
use Rattle.lq_prover_search.proofs.PruningLemmas.Taking as taking
use Rattle.lq_prover_search.specs.Search.Parts.{facts_of as part_facts, part_fact}
use Rattle.lq_prover_search.specs.Search.Scope.{Scope}
use Rattle.lq_prover_search.specs.Search.Stopping.{AnyHasRow, HasRow, MayReach, MayTake, StopsFrom, StopsOn, StopsSearch, of_choice, of_equation, of_fact, of_way}
use Rattle.lq_prover_search.specs.declared.search.pair.Pair.{Pair}
use Rattle.lq_prover_search.specs.declared.search.parts.Part.{Part}
use Rattle.lq_prover_search.specs.declared.search.search_path.SearchPath.{SearchPath}
use Rattle.lq_prover_search.proofs.SearchLemmas.Sizes.{fact_sizes, fact_sizes-append, sizes_among}

-- ---- places in lists

pub in_append : {X : Type 0} (xs ys : List X) (k : ℕ) (x : X) → slice_get (xs ++ ys) k ≡ Some x → (slice_get xs k ≡ Some x) ⊎ ((j : ℕ) × (slice_get ys j ≡ Some x))
in_append {X} [] ys k x e = inr (k, e)
in_append {X} (y ∷ xs) ys zero x e = inl e
in_append {X} (y ∷ xs) ys (suc k) x e = in_append xs ys k x e

at_last : {X : Type 0} (xs : List X) (x : X) → slice_get (xs ++ x ∷ []) (length xs) ≡ Some x
at_last {X} [] x = refl
at_last {X} (y ∷ xs) x = at_last xs x

in_front : {X : Type 0} (xs ys : List X) (k : ℕ) (x : X) → slice_get xs k ≡ Some x → slice_get (xs ++ ys) k ≡ Some x
in_front {X} [] ys k x e = cc
in_front {X} (y ∷ xs) ys zero x e = e
in_front {X} (y ∷ xs) ys (suc k) x e = in_front xs ys k x e

only_last : {X : Type 0} (x y : X) (k : ℕ) → slice_get (x ∷ []) k ≡ Some y → x ≡ y
only_last {X} x y zero e = cc
only_last {X} x y (suc k) e = cc

-- ---- the rows of a reading

mutual
  pub fact_has : (r : Reading Row) (k : ℕ) (q : Row) → slice_get (taking.facts_of r) k ≡ Some (row_fact q) → HasRow q r
  fact_has yes k q e = cc
  fact_has no k q e = let h = only_last never (row_fact q) k e in cc
  fact_has (row r) k q e = let h = only_last (row_fact r) (row_fact q) k e in cc
  fact_has (flag_is x sign) k q e = let h = only_last (flag_fact x sign) (row_fact q) k e in cc
  fact_has (objects_are a b sign) k q e = let h = only_last (objects_fact a b sign) (row_fact q) k e in cc
  fact_has (all_of rs) k q e = any_fact_has rs k q e
  fact_has (any_of rs) k q e = cc

  any_fact_has : (rs : Readings Row) (k : ℕ) (q : Row) → slice_get (taking.facts_of_all rs) k ≡ Some (row_fact q) → AnyHasRow q rs
  any_fact_has none k q e = cc
  any_fact_has (more r rs) k q e =
      elim (in_append (taking.facts_of r) (taking.facts_of_all rs) k (row_fact q) e) [ inl f ↦ inl (fact_has r k q f) | inr f ↦ inr (any_fact_has rs f.0 q f.1) ]

mutual
  pub choice_has : (r : Reading Row) (k : ℕ) (members : Readings Row) (q : Row) → slice_get (taking.choices_of r) k ≡ Some members → AnyHasRow q members → HasRow q r
  choice_has yes k ms q e h = cc
  choice_has no k ms q e h = cc
  choice_has (row r) k ms q e h = cc
  choice_has (flag_is x sign) k ms q e h = cc
  choice_has (objects_are a b sign) k ms q e h = cc
  choice_has (all_of rs) k ms q e h = any_choice_has rs k ms q e h
  choice_has (any_of rs) k ms q e h = subst (AnyHasRow q) (sym (only_last rs ms k e)) h

  any_choice_has : (rs : Readings Row) (k : ℕ) (members : Readings Row) (q : Row) → slice_get (taking.choices_of_all rs) k ≡ Some members → AnyHasRow q members → AnyHasRow q rs
  any_choice_has none k ms q e h = cc
  any_choice_has (more r rs) k ms q e h =
      elim (in_append (taking.choices_of r) (taking.choices_of_all rs) k ms e) [ inl f ↦ inl (choice_has r k ms q f h) | inr f ↦ inr (any_choice_has rs f.0 ms q f.1 h) ]

item_has : (items : List Nnf) (k : ℕ) (d : Nnf) (q : Row) → k < length items → HasRow q (nnf_view (get_or items k d)) → AnyHasRow q (row_of items)
item_has [] k d q l h = absurd (omega (arith, l))
item_has (n ∷ items) zero d q l h = inl h
item_has (n ∷ items) (suc k) d q l h = inr (item_has items k d q (omega (arith, l)) h)

member_has : (members : Nnfs) (items : List Nnf) (i : ℕ) (n : Nnf) → items ≡ nnf_items members → i < length items → n ≡ get_or items i n → (q : Row) → HasRow q (nnf_view n)
    → AnyHasRow q (nnfs_view members)
member_has members items i n e l is q h =
    subst (AnyHasRow q) (ap row_of e ∙ sym (view_items members)) (item_has items i n q l (subst (λ m. HasRow q (nnf_view m)) is h))

-- ---- the rows that a search may take

-- each row of one path may be taken on the other
abbrev pub TakesNoMore : List Sum → List (Readings Row) → Path → Path → Type 0
TakesNoMore ts ways p q = (r : Row) → MayTake ts p ways r → MayTake ts q ways r

equations_may : (ts : List Sum) (pairs : List (ℕ × ℕ)) → All (AreOneFunction ts) pairs → (k : ℕ) (q : Row) (path : Path) (ways : List (Readings Row)) → slice_get (map equation_fact pairs) k ≡ Some (row_fact q) → MayTake ts path ways q
equations_may ts [] a k q path ways e = cc
equations_may ts (p ∷ pairs) a zero q path ways e = let h : equation p ≡ q = cc in of_equation p (All-head (AreOneFunction ts) p pairs a) (sym h)
equations_may ts (p ∷ pairs) a (suc k) q path ways e = equations_may ts pairs (All-tail (AreOneFunction ts) p pairs a) k q path ways e

pub equations_take : (ts : List Sum) (ways : List (Readings Row)) (p q : Path) → AddsEquations ts p.facts q.facts → q.choices ≡ p.choices → TakesNoMore ts ways q p
equations_take ts ways p q a c r (of_fact k e) =
    elim (in_append p.facts (map equation_fact a.pairs) k (row_fact r) (ap (λ l. slice_get l k) (sym a.is) ∙ e)) [
      | inl f ↦ of_fact k f
      | inr f ↦ equations_may ts a.pairs a.each f.0 r p ways f.1
    ]
equations_take ts ways p q a c r (of_choice k ms e h) = of_choice k ms (ap (λ l. slice_get l k) (sym c) ∙ e) h
equations_take ts ways p q a c r (of_way k ms e h) = of_way k ms e h
equations_take ts ways p q a c r (of_equation x one e) = of_equation x one e

-- a reading that has no row but those of members
pub reading_takes : (ts : List Sum) (ways : List (Readings Row)) (p : Path) (r : Reading Row) (members : Readings Row) → ((q : Row) → HasRow q r → AnyHasRow q members)
    → TakesNoMore ts ways (taken p r) (with_choice p members)
reading_takes ts ways p r members f q m = by (subst (λ x. MayTake ts x ways q) (taking.taken_is p r) m)
  where
    to : HasRow q r → MayTake ts (with_choice p members) ways q
    to h = of_choice (length p.choices) members (at_last p.choices members) (f q h)

    by : MayTake ts (taking.path_with p (taking.facts_of r) (taking.choices_of r)) ways q → MayTake ts (with_choice p members) ways q
    by (of_fact k e) =
        elim (in_append p.facts (taking.facts_of r) k (row_fact q) e) [ inl g ↦ of_fact k g | inr g ↦ to (fact_has r g.0 q g.1) ]
    by (of_choice k ms e h) =
        elim (in_append p.choices (taking.choices_of r) k ms e) [ inl g ↦ of_choice k ms (in_front p.choices (members ∷ []) k ms g) h | inr g ↦ to (choice_has r g.0 ms q g.1 h) ]
    by (of_way k ms e h) = of_way k ms e h
    by (of_equation x one e) = of_equation x one e

-- a choice of the path
pub choice_takes : (ts : List Sum) (ways : List (Readings Row)) (p : Path) (at : ℕ) (members : Readings Row) → slice_get p.choices at ≡ Some members → TakesNoMore ts ways (with_choice p members) p
choice_takes ts ways p at members here q (of_fact k e) = of_fact k e
choice_takes ts ways p at members here q (of_choice k ms e h) =
    elim (in_append p.choices (members ∷ []) k ms e) [ inl g ↦ of_choice k ms g h | inr g ↦ of_choice at members here (subst (AnyHasRow q) (sym (only_last members ms g.0 g.1)) h) ]
choice_takes ts ways p at members here q (of_way k ms e h) = of_way k ms e h
choice_takes ts ways p at members here q (of_equation x one e) = of_equation x one e

-- the ways of a pair
pub way_takes : (ts : List Sum) (ways : List (Readings Row)) (p : Path) (at : ℕ) (members : Readings Row) → slice_get ways at ≡ Some members → TakesNoMore ts ways (with_choice p members) p
way_takes ts ways p at members here q (of_fact k e) = of_fact k e
way_takes ts ways p at members here q (of_choice k ms e h) =
    elim (in_append p.choices (members ∷ []) k ms e) [ inl g ↦ of_choice k ms g h | inr g ↦ of_way at members here (subst (AnyHasRow q) (sym (only_last members ms g.0 g.1)) h) ]
way_takes ts ways p at members here q (of_way k ms e h) = of_way k ms e h
way_takes ts ways p at members here q (of_equation x one e) = of_equation x one e

pub member_takes : (ts : List Sum) (ways : List (Readings Row)) (p : Path) (members : Nnfs) (items : List Nnf) (i : ℕ) (n : Nnf) → items ≡ nnf_items members → i < length items → n ≡ get_or items i n
    → TakesNoMore ts ways (taken p (nnf_view n)) (with_choice p (nnfs_view members))
member_takes ts ways p members items i n e l is = reading_takes ts ways p (nnf_view n) (nnfs_view members) (member_has members items i n e l is)

-- ---- stops

-- where no more is taken, and no larger sizes
pub reached_before : (ts : List Sum) (ways : List (Readings Row)) (p q : Path) (m n : ℕ) (facts : List Fact) → TakesNoMore ts ways p q → m ≤ n → MayReach ts p ways m facts → MayReach ts q ways n facts
reached_before ts ways p q m n facts takes le h = record {
  each = All-weaker {X = ℕ × Row} (λ r. MayTake ts p ways r.1) (λ r. MayTake ts q ways r.1) (λ r. takes r.1) (rows_among facts) h.each;
  sizes = let w = h.sizes in omega (arith, w, le);
}

pub stops_before : (ts : List Sum) (terms limit old_terms old_limit : ℕ) (ever later : List Row) (ways : List (Readings Row)) (p q : Path) (m n : ℕ) (stop : LinearStop) → terms ≡ old_terms → limit ≡ old_limit
    → TakesNoMore ts ways p q → All (MayTake ts q ways) later → m ≤ n → StopsSearch ts terms limit (ever ++ later) p ways m stop → StopsSearch ts old_terms old_limit ever q ways n stop
stops_before ts terms limit old_terms old_limit ever later ways p q m n stop same_terms same takes each le h =
    subst (λ k. StopsSearch ts k old_limit ever q ways n stop) same_terms (subst (λ l. StopsSearch ts terms l ever q ways n stop) same (by stop h))
  where
    on : (stop : LinearStop) → StopsOn ts terms limit (ever ++ later) p ways m stop → StopsOn ts terms limit ever q ways n stop
    on stop h = record {
      facts = h.facts;
      few = h.few;
      reached = reached_before ts ways p q m n h.facts takes le h.reached;
      stops = may_stop_less (MayTake ts q ways) terms limit ever later (rows_among h.facts) stop each
          (may_stop_as (MayTake ts p ways) (MayTake ts q ways) terms limit (ever ++ later) (rows_among h.facts) stop takes h.stops);
    }

    by : (stop : LinearStop) → StopsSearch ts terms limit (ever ++ later) p ways m stop → StopsSearch ts terms limit ever q ways n stop
    by Memory h = tt
    by (Number e) h = on (Number e) h
    by (Pivots k) h = on (Pivots k) h

-- the rows of the facts may be taken
facts_take : (P : Row → Type 0) (n : ℕ) (fs : List Fact) → ((k : ℕ) (r : Row) → slice_get fs k ≡ Some (row_fact r) → P r) → All (λ (r : ℕ × Row). P r.1) (rows_from n fs)
facts_take P n [] h = All-nil (λ (r : ℕ × Row). P r.1)
facts_take P n (row_fact r ∷ fs) h = All-cons (λ (r : ℕ × Row). P r.1) (n, r) (rows_from (suc n) fs) (h zero r refl) (facts_take P (suc n) fs (λ k. h (suc k)))
facts_take P n (flag_fact x value ∷ fs) h = facts_take P (suc n) fs (λ k. h (suc k))
facts_take P n (objects_fact a b one ∷ fs) h = facts_take P (suc n) fs (λ k. h (suc k))
facts_take P n (never ∷ fs) h = facts_take P (suc n) fs (λ k. h (suc k))

-- the facts of a path
pub reached_here : (ts : List Sum) (path : Path) (ways : List (Readings Row)) (n : ℕ) → constants (rows_among path.facts) ≤ n → MayReach ts path ways n path.facts
reached_here ts path ways n le = record { each = facts_take (MayTake ts path ways) 1 path.facts (λ k r e. of_fact k e); sizes = le }

-- a row that stands is one of them
pub standing_take : (ts : List Sum) (path : Path) (ways : List (Readings Row)) (r : Row) → Stands (rows_among path.facts) r → MayTake ts path ways r
standing_take ts path ways = of_standing (MayTake ts path ways) (rows_among path.facts) (facts_take (MayTake ts path ways) 1 path.facts (λ k r e. of_fact k e))

-- a stop of an engine on them
pub stops_here : (ts : List Sum) (terms limit : ℕ) (ever : List Row) (path : Path) (ways : List (Readings Row)) (n : ℕ) (stop : LinearStop) → constants (rows_among path.facts) ≤ n
    → length path.facts < 2 ^ 64 → HasStops terms limit ever (MayTake ts path ways) path.facts stop → StopsSearch ts terms limit ever path ways n stop
stops_here ts terms limit ever path ways n stop le few h = by stop h
  where
    on : (stop : LinearStop) → HasStops terms limit ever (MayTake ts path ways) path.facts stop → StopsOn ts terms limit ever path ways n stop
    on stop h = record { facts = path.facts; few = few; reached = reached_here ts path ways n le; stops = h }

    by : (stop : LinearStop) → HasStops terms limit ever (MayTake ts path ways) path.facts stop → StopsSearch ts terms limit ever path ways n stop
    by Memory h = tt
    by (Number e) h = on (Number e) h
    by (Pivots k) h = on (Pivots k) h

-- a stop by the sizes alone is one that an engine may answer
pub may_stop : (terms limit : ℕ) (ever : List Row) (P : Row → Type 0) (rows : Tagged) (stop : LinearStop) → StopsBy (constants rows) stop → MayStop terms limit ever P rows stop
may_stop terms limit ever P rows stop h = record { differences = λ d. h; any = inl h }

pub stops_larger : (m n : ℕ) (stop : LinearStop) → m ≤ n → StopsBy m stop → StopsBy n stop
stops_larger m n Memory le h = tt
stops_larger m n (Number e) le h = (h.0, let w = h.1 in omega (arith, w, le))
stops_larger m n (Pivots k) le h = h

-- the facts with the first literals and the next one have no larger sizes than with all
pub front_smaller : (base front : List Fact) (parts : List Part) (i : ℕ) (n : Part) → front ≡ base ++ part_facts (take i parts) → i < length parts → n ≡ get_or parts i n
    → constants (rows_among (front ++ part_fact n ∷ [])) ≤ constants (rows_among (base ++ part_facts parts))
front_smaller base front parts i n stands inside is =
    let rest = parted (i + 1) parts in
    let a = sizes_among (front ++ part_fact n ∷ []) in let b = sizes_among (base ++ part_facts parts) in
    let c = fact_sizes-append front (part_fact n ∷ []) in let d = fact_sizes-append base (part_facts parts) in
    let e = ap fact_sizes stands in let f = fact_sizes-append base (part_facts (take i parts)) in
    let g = ap fact_sizes (seen-more part_fact parts i n n inside is) in
    let h = fact_sizes-append (part_facts (take i parts)) (part_fact n ∷ []) in
    let k = ap (λ l. fact_sizes (part_facts l)) rest.1 in
    let l = ap fact_sizes (map-append part_fact (take (i + 1) parts) rest.0) in
    let m = fact_sizes-append (part_facts (take (i + 1) parts)) (part_facts rest.0) in omega (arith, a, b, c, d, e, f, g, h, k, l, m)
