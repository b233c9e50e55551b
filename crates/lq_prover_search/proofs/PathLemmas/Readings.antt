-- Readings of the code in a row, one at a time.
use Rattle.std.proofs.Common.{◌≡◌, ℕ, zero, suc, ◌+◌, ◌<◌, List, [], ◌∷◌, ◌++◌, length, map, take, drop, get_or, subst, refl, sym, ap, ◌∙◌, arith, rules, inl, inr, below_more}
use Rattle.std.proofs.lemmas.List.{get_or_default, take_more, take-append-drop}
use Rattle.lq_logic_rows.specs.Row.{Row, Valuation}
use Rattle.lq_prover_proof_tree.specs.Trees.Path.{Path, taken, each_taken}
use Rattle.lq_prover_proof_tree.specs.Trees.Tree.{Tree}
use Rattle.lq_logic_predicates.specs.NnfView.{nnf_view, nnfs_view, nnf_items, readings_of}
use Rattle.lq_logic_predicates.specs.Reading.{Reading, yes, no, row, flag_is, objects_are, all_of, any_of, Readings, none, more}
use Rattle.lq_logic_predicates.specs.Points.{Point}
use Rattle.lq_logic_predicates.specs.RowMeaning.{MeetsAllRows, MeetsAnyRow, MeetsRows}
use Rattle.lq_logic_predicates.specs.Sum.{Sum}
use Rattle.lq_logic_predicates.specs.declared.nnf.Nnf.{Nnf}
use Rattle.lq_logic_predicates.specs.declared.nnf.Nnfs.{Nnfs}
use Rattle.lq_logic_predicates.specs.declared.nnf.Nnf.{the_lemmas}
use Rattle.lq_prover_search.specs.Path.Meeting.{IsPastIn, IsPastInAny}
use Rattle.lq_prover_search.specs.Path.Readings.{IsOver, AreOver}
use Rattle.lq_prover_search.specs.Path.SearchPath.{Begins, IsLeafOf}
use Rattle.lq_prover_search.proofs.PathLemmas.Leaves.{ClashesStay, each_taken_begins, leaf_stays}

abbrev mutual
  pub size : Reading Row → ℕ
  size yes = 0
  size no = 0
  size (row r) = 0
  size (flag_is x sign) = 0
  size (objects_are a b sign) = 0
  size (all_of rs) = suc (size_each rs)
  size (any_of rs) = suc (size_each rs)

  pub size_each : Readings Row → ℕ
  size_each none = 0
  size_each (more r rs) = suc (size r + size_each rs)

abbrev pub row_of : List Nnf → Readings Row
row_of items = readings_of (map nnf_view items)

pub view_items : (nnfs : Nnfs) → nnfs_view nnfs ≡ row_of (nnf_items nnfs)
view_items nnfs = search (rules, the_lemmas)

pub item_smaller : (items : List Nnf) (k : ℕ) (d : Nnf) → k < length items → size (nnf_view (get_or items k d)) < size_each (row_of items)
item_smaller [] k d h = absurd (omega (arith, h))
item_smaller (n ∷ items) zero d h = omega arith
item_smaller (n ∷ items) (suc k) d h = let r = item_smaller items k d (omega (arith, h)) in omega (arith, r)

pub item_over : (n : ℕ) (objects : List Sum) (items : List Nnf) (k : ℕ) (d : Nnf) → k < length items → AreOver n objects (row_of items) → IsOver n objects (nnf_view (get_or items k d))
item_over n objects [] k d h o = absurd (omega (arith, h))
item_over n objects (x ∷ items) zero d h o = o.0
item_over n objects (x ∷ items) (suc k) d h o = item_over n objects items k d (omega (arith, h)) o.1

each_append : (p : Path) (xs ys : List Nnf) → each_taken p (row_of (xs ++ ys)) ≡ each_taken (each_taken p (row_of xs)) (row_of ys)
each_append p [] ys = refl
each_append p (x ∷ xs) ys = each_append (taken p (nnf_view x)) xs ys

pub one_more : (p : Path) (items : List Nnf) (i : ℕ) (n : Nnf) → i < length items → n ≡ get_or items i n
    → each_taken p (row_of (take (i + 1) items)) ≡ taken (each_taken p (row_of (take i items))) (nnf_view n)
one_more p items i n h e =
    ap (λ l. each_taken p (row_of l)) (take_more items i n h) ∙ each_append p (take i items) (get_or items i n ∷ [])
    ∙ ap (λ m. taken (each_taken p (row_of (take i items))) (nnf_view m)) (sym e)

-- a leaf of the path with the first readings is one with all
pub leaf_of_first : ClashesStay → (p : Path) (items : List Nnf) (i : ℕ) (n : Nnf) (t : Tree) → i < length items → n ≡ get_or items i n
    → IsLeafOf (taken (each_taken p (row_of (take i items))) (nnf_view n)) t → IsLeafOf (each_taken p (row_of items)) t
leaf_of_first stay p items i n t h e l =
    subst (λ xs. IsLeafOf (each_taken p (row_of xs)) t) (take-append-drop (i + 1) items)
    (leaf_stays stay (each_taken p (row_of (take (i + 1) items))) (each_taken p (row_of (take (i + 1) items ++ drop (i + 1) items))) t
    (subst (λ q. IsLeafOf q t) (sym (one_more p items i n h e)) l)
    (subst (Begins (each_taken p (row_of (take (i + 1) items)))) (sym (each_append p (take (i + 1) items) (drop (i + 1) items)))
    (each_taken_begins (each_taken p (row_of (take (i + 1) items))) (row_of (drop (i + 1) items)))))

-- ---- what all or some of the readings of the code in a row meet

pub all_met : (v : Valuation) (p : Point) (items : List Nnf) → ((k : ℕ) → k < length items → (d : Nnf) → MeetsRows v p (nnf_view (get_or items k d))) → MeetsAllRows v p (row_of items)
all_met v p [] h = tt
all_met v p (n ∷ items) h = (h 0 (omega arith) n, all_met v p items (λ k w d. h (suc k) (omega (arith, w)) d))

pub some_met : (v : Valuation) (p : Point) (items : List Nnf) (k : ℕ) (d : Nnf) → k < length items → MeetsRows v p (nnf_view (get_or items k d)) → MeetsAnyRow v p (row_of items)
some_met v p [] k d w h = absurd (omega (arith, w))
some_met v p (n ∷ items) zero d w h = inl h
some_met v p (n ∷ items) (suc k) d w h = inr (some_met v p items k d (omega (arith, w)) h)

-- ---- where it isn't known whether they are met

pub past_at : (v : Valuation) (items : List Nnf) (k : ℕ) (d : Nnf) → k < length items → IsPastIn v (nnf_view (get_or items k d)) → IsPastInAny v (row_of items)
past_at v [] k d w h = absurd (omega (arith, w))
past_at v (n ∷ items) zero d w h = inl h
past_at v (n ∷ items) (suc k) d w h = inr (past_at v items k d (omega (arith, w)) h)

pub met_at : (v : Valuation) (p : Point) (items : List Nnf) (k : ℕ) (d : Nnf) → k < length items → MeetsAllRows v p (row_of items) → MeetsRows v p (nnf_view (get_or items k d))
met_at v p [] k d w h = absurd (omega (arith, w))
met_at v p (n ∷ items) zero d w h = h.0
met_at v p (n ∷ items) (suc k) d w h = met_at v p items k d (omega (arith, w)) h.1

pub some_past : (v : Valuation) (p : Point) (items : List Nnf) → ((k : ℕ) → k < length items → (d : Nnf) → MeetsRows v p (nnf_view (get_or items k d)) → IsPastIn v (nnf_view (get_or items k d)))
    → MeetsAnyRow v p (row_of items) → IsPastInAny v (row_of items)
some_past v p [] h m = absurd m
some_past v p (n ∷ items) h (inl m) = inl (h 0 (omega arith) n m)
some_past v p (n ∷ items) h (inr m) = inr (some_past v p items (λ k w d. h (suc k) (omega (arith, w)) d) m)

pub past_next : (v : Valuation) (p : Point) (items : List Nnf) (i : ℕ) (n : Nnf) → i < length items → n ≡ get_or items i n
    → ((k : ℕ) → k < i → (d : Nnf) → MeetsRows v p (nnf_view (get_or items k d)) → IsPastIn v (nnf_view (get_or items k d)))
    → (MeetsRows v p (nnf_view n) → IsPastIn v (nnf_view n)) → (k : ℕ) → k < i + 1 → (d : Nnf) → MeetsRows v p (nnf_view (get_or items k d)) → IsPastIn v (nnf_view (get_or items k d))
past_next v p items i n inside is before here =
    below_more (λ k. (d : Nnf) → MeetsRows v p (nnf_view (get_or items k d)) → IsPastIn v (nnf_view (get_or items k d))) i before
    (λ d. subst (λ x. MeetsRows v p (nnf_view x) → IsPastIn v (nnf_view x)) (is ∙ get_or_default items i n d inside) here)
