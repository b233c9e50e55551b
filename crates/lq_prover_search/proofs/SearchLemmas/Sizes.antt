-- What the sizes of constants sum to on a path.
use Rattle.std.proofs.Common.{◌≡◌, ◌∙◌, ℕ, zero, suc, ◌+◌, ◌<◌, ◌≤◌, List, [], ◌∷◌, ◌++◌, true, false, Some, All, if◌then◌else◌, length, get_or, map, set, slice_get, refl, sym, ap, subst, arith}
use Rattle.std.proofs.lemmas.List.Elements.{All-head, All-tail}
use Rattle.lq_prover_proof_tree.specs.Trees.Path.{Fact, row_fact, flag_fact, objects_fact, never}
use Rattle.lq_prover_proof_tree.specs.Trees.Proves.{rows_among, rows_from}
use Rattle.lq_prover_differences.specs.Table.{constants}
use Rattle.lq_prover_case.specs.Equations.Equating.{AddsEquations, equation_fact}
use Rattle.lq_prover_case.specs.Equations.Naming.{name_in}
use Rattle.lq_logic_rows.specs.Row.{Row}
use Rattle.lq_prover_search.specs.Path.SearchPath.{choices_of}
use Rattle.lq_prover_search.specs.declared.path.choice.Choice.{Choice}
use Rattle.lq_prover_search.proofs.PathLemmas.Readings.{row_of, view_items}
use Rattle.lq_logic_predicates.specs.NnfView.{nnf_items, nnf_view, nnfs_view}
use Rattle.lq_logic_predicates.specs.Reading.{Reading, yes, no, row, flag_is, objects_are, all_of, any_of, Readings, none, more}
use Rattle.lq_logic_predicates.specs.declared.nnf.Nnf.{Nnf}
use Rattle.lq_logic_predicates.specs.declared.nnf.Nnfs.{Nnfs}
use Rattle.lq_prover_search.proofs.PruningLemmas.Taking as taking
use Rattle.lq_logic_predicates.specs.Sum.{Sum}
use Rattle.lq_prover_search.specs.Search.Scope.{Scope}
use Rattle.lq_prover_search.specs.Search.SearchPath.{IsBack, IsTaken, facts_of}
use Rattle.lq_prover_search.specs.Search.Sizes.{most, most_of_all, most_of_any, most_of_each, row_size}
use Rattle.lq_prover_search.specs.Search.Stopping.{choice_most, most_on, most_open}
use Rattle.lq_prover_search.specs.declared.search.search_path.SearchPath.{SearchPath}
use Rattle.lq_prover_search.proofs.SearchLemmas.Ready.{new_choices, new_facts}
use Rattle.lq_prover_search.proofs.SearchLemmas.Weights.{with_done}

-- ---- facts

abbrev pub fact_sizes : List Fact → ℕ
fact_sizes [] = 0
fact_sizes (row_fact r ∷ fs) = row_size r + fact_sizes fs
fact_sizes (flag_fact x value ∷ fs) = fact_sizes fs
fact_sizes (objects_fact a b one ∷ fs) = fact_sizes fs
fact_sizes (never ∷ fs) = fact_sizes fs

-- whatever the numbers of the facts are
sizes_from : (n : ℕ) (fs : List Fact) → constants (rows_from n fs) ≡ fact_sizes fs
sizes_from n [] = refl
sizes_from n (row_fact r ∷ fs) = ap (λ k. row_size r + k) (sizes_from (suc n) fs)
sizes_from n (flag_fact x value ∷ fs) = sizes_from (suc n) fs
sizes_from n (objects_fact a b one ∷ fs) = sizes_from (suc n) fs
sizes_from n (never ∷ fs) = sizes_from (suc n) fs

pub sizes_among : (fs : List Fact) → constants (rows_among fs) ≡ fact_sizes fs
sizes_among fs = sizes_from 1 fs

pub fact_sizes-append : (xs ys : List Fact) → fact_sizes (xs ++ ys) ≡ fact_sizes xs + fact_sizes ys
fact_sizes-append [] ys = omega arith
fact_sizes-append (row_fact r ∷ xs) ys = let k = fact_sizes-append xs ys in omega (arith, k)
fact_sizes-append (flag_fact x value ∷ xs) ys = fact_sizes-append xs ys
fact_sizes-append (objects_fact a b one ∷ xs) ys = fact_sizes-append xs ys
fact_sizes-append (never ∷ xs) ys = fact_sizes-append xs ys

-- equations have the constant 0
equations_add_nothing : (pairs : List (ℕ × ℕ)) → fact_sizes (map equation_fact pairs) ≡ 0
equations_add_nothing [] = refl
equations_add_nothing (p ∷ pairs) = let k = equations_add_nothing pairs in omega (arith, k)

pub sizes_equated : (terms : List Sum) (xs ys : List Fact) → AddsEquations terms xs ys → fact_sizes ys ≡ fact_sizes xs
sizes_equated terms xs ys a =
    let e = ap fact_sizes a.is in let f = fact_sizes-append xs (map equation_fact a.pairs) in let g = equations_add_nothing a.pairs in omega (arith, e, f, g)

-- ---- choices

pub most_of_each-append : (xs ys : List (Readings Row)) → most_of_each (xs ++ ys) ≡ most_of_each xs + most_of_each ys
most_of_each-append [] ys = omega arith
most_of_each-append (x ∷ xs) ys = let k = most_of_each-append xs ys in omega (arith, k)

pub most_open-append : (xs ys : List Choice) → most_open (xs ++ ys) ≡ most_open xs + most_open ys
most_open-append [] ys = omega arith
most_open-append (x ∷ xs) ys = let k = most_open-append xs ys in omega (arith, k)

pub most_open-open : (cs : List Choice) → All (λ c. c.is_done ≡ false) cs → most_open cs ≡ most_of_each (choices_of cs)
most_open-open [] h = refl
most_open-open (c ∷ cs) h =
    let k = most_open-open cs (All-tail (λ (x : Choice). x.is_done ≡ false) c cs h) in
    let e = ap (λ b. if b then 0 else most_of_any row_size (nnfs_view c.members.now)) (All-head (λ (x : Choice). x.is_done ≡ false) c cs h) in omega (arith, k, e)

-- a choice that is marked counts no longer
pub most_open-marked : (cs : List Choice) (at : ℕ) (c : Choice) → slice_get cs at ≡ Some c → c.is_done ≡ false
    → most_open (set cs at (with_done c true)) + most_of_any row_size (nnfs_view c.members.now) ≡ most_open cs
most_open-marked [] at c e h = cc
most_open-marked (d ∷ cs) zero c e h =
    let same : d ≡ c = cc in
    let w = ap choice_most same in
    let k = ap (λ b. if b then 0 else most_of_any row_size (nnfs_view c.members.now)) h in omega (arith, w, k)
most_open-marked (d ∷ cs) (suc at) c e h = let k = most_open-marked cs at c e h in omega (arith, k)

-- ---- readings

mutual
  -- the facts and the choices that a reading adds
  pub added_sizes : (r : Reading Row) → fact_sizes (taking.facts_of r) + most_of_each (taking.choices_of r) ≡ most row_size r
  added_sizes yes = omega arith
  added_sizes no = omega arith
  added_sizes (row r) = omega arith
  added_sizes (flag_is x sign) = omega arith
  added_sizes (objects_are a b sign) = omega arith
  added_sizes (all_of rs) = all_added_sizes rs
  added_sizes (any_of rs) = omega arith

  pub all_added_sizes : (rs : Readings Row) → fact_sizes (taking.facts_of_all rs) + most_of_each (taking.choices_of_all rs) ≡ most_of_all row_size rs
  all_added_sizes none = omega arith
  all_added_sizes (more r rs) =
      let a = added_sizes r in let b = all_added_sizes rs in
      let c = fact_sizes-append (taking.facts_of r) (taking.facts_of_all rs) in
      let d = most_of_each-append (taking.choices_of r) (taking.choices_of_all rs) in omega (arith, a, b, c, d)

pub item_most : (items : List Nnf) (k : ℕ) (d : Nnf) → k < length items → most row_size (nnf_view (get_or items k d)) ≤ most_of_any row_size (row_of items)
item_most [] k d h = absurd (omega (arith, h))
item_most (n ∷ items) zero d h = omega arith
item_most (n ∷ items) (suc k) d h = let r = item_most items k d (omega (arith, h)) in omega (arith, r)

pub member_most : (members : Nnfs) (items : List Nnf) (i : ℕ) (n : Nnf) → items ≡ nnf_items members → i < length items → n ≡ get_or items i n
    → most row_size (nnf_view n) ≤ most_of_any row_size (nnfs_view members)
member_most members items i n e l is =
    subst (λ m. most row_size (nnf_view m) ≤ most_of_any row_size (nnfs_view members)) (sym is)
    (subst (λ r. most row_size (nnf_view (get_or items i n)) ≤ most_of_any row_size r) (ap row_of e ∙ sym (view_items members)) (item_most items i n l))

-- ---- paths

-- the facts and the choices that aren't done
abbrev pub sizes_on : Scope → SearchPath → ℕ
sizes_on s p = fact_sizes (facts_of s p) + (most_open p.choices.items + most_open p.pairs.items)

pub on_is : (s : Scope) (p : SearchPath) → most_on s p ≡ sizes_on s p
on_is s p = ap (λ n. n + (most_open p.choices.items + most_open p.pairs.items)) (sizes_among (facts_of s p))

pub most_taken : (s : Scope) (r : Reading Row) (p q : SearchPath) → IsTaken s r p q → most_on s q ≡ most_on s p + most row_size r
most_taken s r p q t =
    let x = on_is s p in let y = on_is s q in
    let a = ap most_open t.adds.is in
    let b = most_open-append p.choices.items t.adds.more in
    let c = most_open-open t.adds.more t.adds.open_still in
    let d = ap most_of_each (new_choices s r p q t) in
    let e = added_sizes r in
    let f = ap most_open t.pairs_are in
    let g = ap fact_sizes (new_facts s r p q t) in
    let h = fact_sizes-append (facts_of s p) (taking.facts_of r) in omega (arith, x, y, a, b, c, d, e, f, g, h)

pub most_back : (s : Scope) (p q : SearchPath) → IsBack p q → most_on s q ≡ most_on s p
most_back s p q b =
    let f = ap (λ l. constants (rows_among l)) (b.facts (name_in s.objects)) in
    let c = ap most_open b.choices_are in let d = ap most_open b.pairs_are in omega (arith, f, c, d)

pub most_equated : (s : Scope) (p q : SearchPath) → AddsEquations s.terms (facts_of s p) (facts_of s q) → q.choices.items ≡ p.choices.items → q.pairs.items ≡ p.pairs.items
    → most_on s q ≡ most_on s p
most_equated s p q a c d =
    let x = on_is s p in let y = on_is s q in
    let e = sizes_equated s.terms (facts_of s p) (facts_of s q) a in let f = ap most_open c in let g = ap most_open d in omega (arith, x, y, e, f, g)
