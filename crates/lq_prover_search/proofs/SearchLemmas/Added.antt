-- What readings add to a path, counted.
use Rattle.std.proofs.Common.{◌≡◌, ℕ, zero, suc, ◌+◌, ◌<◌, ◌≤◌, Option, Some, None, IfNone, List, [], ◌∷◌, ◌++◌, length, map, take, drop, get_or, sym, ap, ap₂, ◌∙◌, arith, rules}
use Rattle.std.proofs.lemmas.List.{length-append, take_all, take_more, take-append-drop}
use Rattle.lq_prover_proof_tree.specs.Trees.Path.{Path, each_taken, nothing, taken}
use Rattle.lq_logic_rows.specs.Row.{Row}
use Rattle.lq_logic_predicates.specs.NnfView.{nnf_view, nnf_items, nnfs_view, readings_of}
use Rattle.lq_logic_predicates.specs.Reading.{Reading, yes, no, row, flag_is, objects_are, all_of, any_of, Readings, none, more}
use Rattle.lq_logic_predicates.specs.declared.nnf.Nnf.{Nnf, the_lemmas}
use Rattle.lq_logic_predicates.specs.declared.nnf.Nnfs.{Nnfs}
use Rattle.lq_prover_search.proofs.PruningLemmas.Taking.{choices_of, choices_of_all, each_taken_is, facts_of, facts_of_all, taken_is}

abbrev mutual
  pub size : Reading Row → ℕ
  size yes = 0
  size no = 0
  size (row r) = 0
  size (flag_is x sign) = 0
  size (objects_are a b sign) = 0
  size (all_of rs) = suc (size_each rs)
  size (any_of rs) = suc (size_each rs)

  pub size_each : Readings Row → ℕ
  size_each none = 0
  size_each (more r rs) = suc (size r + size_each rs)

abbrev pub facts_in_all : Readings Row → ℕ
facts_in_all rs = length (each_taken nothing rs).facts

abbrev pub choices_in_all : Readings Row → ℕ
choices_in_all rs = length (each_taken nothing rs).choices

abbrev pub row_of : List Nnf → Readings Row
row_of items = readings_of (map nnf_view items)

pub item_smaller : (items : List Nnf) (k : ℕ) (d : Nnf) → k < length items → size (nnf_view (get_or items k d)) < size_each (row_of items)
item_smaller [] k d h = absurd (omega (arith, h))
item_smaller (n ∷ items) zero d h = omega arith
item_smaller (n ∷ items) (suc k) d h = let r = item_smaller items k d (omega (arith, h)) in omega (arith, r)

facts_more : (r : Reading Row) (rs : Readings Row) → facts_in_all (more r rs) ≡ length (taken nothing r).facts + facts_in_all rs
facts_more r rs =
    ap (λ (p : Path). length p.facts) (each_taken_is nothing (more r rs)) ∙ length-append (facts_of r) (facts_of_all rs)
    ∙ sym (ap₂ (λ (p q : Path). length p.facts + length q.facts) (taken_is nothing r) (each_taken_is nothing rs))

choices_more : (r : Reading Row) (rs : Readings Row) → choices_in_all (more r rs) ≡ length (taken nothing r).choices + choices_in_all rs
choices_more r rs =
    ap (λ (p : Path). length p.choices) (each_taken_is nothing (more r rs)) ∙ length-append (choices_of r) (choices_of_all rs)
    ∙ sym (ap₂ (λ (p q : Path). length p.choices + length q.choices) (taken_is nothing r) (each_taken_is nothing rs))

-- the first items and the others
facts_append : (xs ys : List Nnf) → facts_in_all (row_of (xs ++ ys)) ≡ facts_in_all (row_of xs) + facts_in_all (row_of ys)
facts_append [] ys = omega arith
facts_append (x ∷ xs) ys =
    let a = facts_more (nnf_view x) (row_of (xs ++ ys)) in let b = facts_more (nnf_view x) (row_of xs) in let c = facts_append xs ys in omega (arith, a, b, c)

choices_append : (xs ys : List Nnf) → choices_in_all (row_of (xs ++ ys)) ≡ choices_in_all (row_of xs) + choices_in_all (row_of ys)
choices_append [] ys = omega arith
choices_append (x ∷ xs) ys =
    let a = choices_more (nnf_view x) (row_of (xs ++ ys)) in let b = choices_more (nnf_view x) (row_of xs) in let c = choices_append xs ys in omega (arith, a, b, c)

pub facts_next : (items : List Nnf) (i : ℕ) (n : Nnf) → i < length items → n ≡ get_or items i n
    → facts_in_all (row_of (take (i + 1) items)) ≡ facts_in_all (row_of (take i items)) + length (taken nothing (nnf_view n)).facts
facts_next items i n h e =
    let a = ap (λ l. facts_in_all (row_of l)) (take_more items i n h) in
    let b = facts_append (take i items) (get_or items i n ∷ []) in
    let c = facts_more (nnf_view (get_or items i n)) none in
    let d = ap (λ x. length (taken nothing (nnf_view x)).facts) e in omega (arith, a, b, c, d)

pub choices_next : (items : List Nnf) (i : ℕ) (n : Nnf) → i < length items → n ≡ get_or items i n
    → choices_in_all (row_of (take (i + 1) items)) ≡ choices_in_all (row_of (take i items)) + length (taken nothing (nnf_view n)).choices
choices_next items i n h e =
    let a = ap (λ l. choices_in_all (row_of l)) (take_more items i n h) in
    let b = choices_append (take i items) (get_or items i n ∷ []) in
    let c = choices_more (nnf_view (get_or items i n)) none in
    let d = ap (λ x. length (taken nothing (nnf_view x)).choices) e in omega (arith, a, b, c, d)

facts_within : (items : List Nnf) (i : ℕ) → facts_in_all (row_of items) ≡ facts_in_all (row_of (take i items)) + facts_in_all (row_of (drop i items))
facts_within items i = ap (λ l. facts_in_all (row_of l)) (sym (take-append-drop i items)) ∙ facts_append (take i items) (drop i items)

choices_within : (items : List Nnf) (i : ℕ) → choices_in_all (row_of items) ≡ choices_in_all (row_of (take i items)) + choices_in_all (row_of (drop i items))
choices_within items i = ap (λ l. choices_in_all (row_of l)) (sym (take-append-drop i items)) ∙ choices_append (take i items) (drop i items)

pub view_items : (nnfs : Nnfs) → nnfs_view nnfs ≡ row_of (nnf_items nnfs)
view_items nnfs = search (rules, the_lemmas)

-- all have at least what the first ones and the next one have
pub reached : (nnfs : Nnfs) (items : List Nnf) (i : ℕ) (n : Nnf) (m f g : ℕ) → items ≡ nnf_items nnfs → i < length items → n ≡ get_or items i n
    → m ≤ (f + length (taken nothing (nnf_view n)).facts) + (g + length (taken nothing (nnf_view n)).choices)
    → f ≤ facts_in_all (row_of (take i items)) → g ≤ choices_in_all (row_of (take i items)) → m ≤ facts_in_all (nnfs_view nnfs) + choices_in_all (nnfs_view nnfs)
reached nnfs items i n m f g e h is w v u =
    let same : row_of items ≡ nnfs_view nnfs = ap row_of e ∙ sym (view_items nnfs) in
    let a = facts_next items i n h is in let b = choices_next items i n h is in
    let c = facts_within items (i + 1) in let d = choices_within items (i + 1) in
    let x = ap facts_in_all same in let y = ap choices_in_all same in omega (arith, a, b, c, d, x, y, w, v, u)

pub if_none : {X : Type 0} (o : Option X) (m n : ℕ) → m ≤ n → IfNone o (m ≤ n)
if_none None m n h = h
if_none (Some x) m n h = tt

-- all of them
pub all_items : {X : Type 0} (measure : Readings Row → X) (nnfs : Nnfs) (items : List Nnf) (i : ℕ) → items ≡ nnf_items nnfs → length items ≤ i
    → measure (row_of (take i items)) ≡ measure (nnfs_view nnfs)
all_items measure nnfs items i e h = ap (λ l. measure (row_of l)) (take_all i items h ∙ e) ∙ sym (ap measure (view_items nnfs))
