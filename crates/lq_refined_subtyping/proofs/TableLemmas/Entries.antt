-- The types of rows.
use Rattle.std.proofs.Common.{◌≡◌, ℕ, zero, suc, ◌+◌, ◌<◌, List, [], ◌∷◌, ◌++◌, All, Bool, true, false, if◌then◌else◌, ◌⊎◌, inl, inr, length, map, get_or, slice_get, slice_index_or, Some, None, take, drop, refl, sym, ap, ap₂, subst, ◌∙◌, arith}
use Rattle.std.proofs.lemmas.List.{get_or_append_left, get_or_push, length-append, map_push, take_more, take-append-drop}
use Rattle.std.proofs.lemmas.List.Elements.{All-head, All-tail, All-weaker}
use Rattle.std.proofs.lemmas.Option.{slice_get_read}
use Rattle.lq_refined_types.specs.Parts.Part.{Parts, Scopes}
use Rattle.lq_refined_types.specs.Types.Operations.{instantiated}
use Rattle.lq_refined_types.specs.Types.Refined.{Refined, unit_type, function, tuple_of, array_with, data_with, map_with}
use Rattle.lq_refined_substitution.specs.Substitution.Views.{parts_view}
use Rattle.lq_refined_subtyping.specs.declared.table.changes.Change.{Change}
use Rattle.lq_refined_subtyping.specs.declared.table.changes.Change.TheVariants.{Put, Twin, Twinned, Instantiated, Renumbered}
use Rattle.lq_refined_subtyping.specs.declared.table.forms.Form.{Form}
use Rattle.lq_refined_subtyping.specs.declared.table.forms.Form.TheVariants as form
use Rattle.lq_refined_subtyping.specs.declared.table.table.Row.{Row}
use Rattle.lq_refined_subtyping.specs.declared.table.table.Row.TheVariants.{Node, Delayed}
use Rattle.lq_refined_subtyping.specs.Table.Changes.{changed, change_rows}
use Rattle.lq_refined_subtyping.specs.Table.Forms.{at, binder_view, each, form_rows, form_type, matrix_view, row_of}
use Rattle.lq_refined_subtyping.specs.Table.Growing.{length-grown, grown-append, grown-keeps, extends-at}
use Rattle.lq_refined_subtyping.specs.Table.Rows.{row_type, grown, row_rows, is_node, AreEarlier, Extends}

-- ---- rows over types that are the same at the numbers that they name

pub map-same : (all bll : List Refined) (is : List ℕ) → All (λ i. at all i ≡ at bll i) is → map (at all) is ≡ map (at bll) is
map-same all bll [] h = refl
map-same all bll (i ∷ is) h =
    ap₂ (λ t ts. t ∷ ts) (All-head (λ j. at all j ≡ at bll j) i is h) (map-same all bll is (All-tail (λ j. at all j ≡ at bll j) i is h))

pub each-same : (all bll : List Refined) (is : List ℕ) → All (λ i. at all i ≡ at bll i) is → each all is ≡ each bll is
each-same all bll is h = ap row_of (map-same all bll is h)

pub form_type-same : (all bll : List Refined) (f : Form) (p : Parts) → All (λ i. at all i ≡ at bll i) (form_rows f) → form_type all f p ≡ form_type bll f p
form_type-same all bll form.Int p h = refl
form_type-same all bll form.Bool p h = refl
form_type-same all bll form.Unit p h = refl
form_type-same all bll (form.Function x a b) p h = ap₂ (function (binder_view x)) (h 0 0 (omega arith)) (h 1 0 (omega arith))
form_type-same all bll (form.Tuple ts) p h = ap tuple_of (each-same all bll ts.items h)
form_type-same all bll (form.Array e) p h = ap (λ t. array_with t p) (h 0 0 (omega arith))
form_type-same all bll (form.Data d ts m) p h = ap (λ us. data_with d.0 us (matrix_view m) p) (each-same all bll ts.items h)
form_type-same all bll (form.Map e) p h = ap (λ t. map_with t p) (h 0 0 (omega arith))
form_type-same all bll (form.Variable i) p h = refl

pub changed-same : (scopes : Scopes) (all bll : List Refined) (c : Change) (t : Refined) → All (λ i. at all i ≡ at bll i) (change_rows c)
    → changed scopes all c t ≡ changed scopes bll c t
changed-same scopes all bll (Put θ) t h = refl
changed-same scopes all bll Twin t h = refl
changed-same scopes all bll (Twinned θ) t h = refl
changed-same scopes all bll (Renumbered n) t h = refl
changed-same scopes all bll (Instantiated by) t h = ap (λ ts. instantiated ts t) (each-same all bll by.items h)

-- and over a table that grows
pub changed-grown : (scopes : Scopes) (old new : List Row) (c : Change) (t : Refined) → Extends old new → All (λ p. p < length old) (change_rows c)
    → changed scopes (grown scopes [] new) c t ≡ changed scopes (grown scopes [] old) c t
changed-grown scopes old new c t e h =
    changed-same scopes (grown scopes [] new) (grown scopes [] old) c t
    (All-weaker (λ p. p < length old) (λ p. at (grown scopes [] new) p ≡ at (grown scopes [] old) p) (λ p l. extends-at scopes old new p e l) (change_rows c) h)

row_type-same : (scopes : Scopes) (all bll : List Refined) (r : Row) → All (λ i. at all i ≡ at bll i) (row_rows r) → row_type scopes all r ≡ row_type scopes bll r
row_type-same scopes all bll (Node n) h = form_type-same all bll n.form (parts_view n.top) h
row_type-same scopes all bll (Delayed c i) h =
    ap (changed scopes all c.value) (All-head (λ j. at all j ≡ at bll j) i (change_rows c.value) h)
    ∙ changed-same scopes all bll c.value (at bll i) (All-tail (λ j. at all j ≡ at bll j) i (change_rows c.value) h)

-- ---- the type of a number is that of its row

module _ (scopes : Scopes) where
  entry : (rs : List Row) (all : List Refined) (k : ℕ) (r : Row) → slice_get rs k ≡ Some r → All (λ p. p < length all + k) (row_rows r)
      → at (grown scopes all rs) (length all + k) ≡ row_type scopes (grown scopes all rs) r
  entry [] all k r e b = absurd (cc)
  entry (x ∷ rs) all zero r e b =
      let same : x ≡ r = cc in
      let new = row_type scopes all x in
      let next = all ++ new ∷ [] in
      let n : length next ≡ length all + 1 = length-append all (new ∷ []) in
      let i : length all + 0 ≡ length all = omega arith in
      ap (at (grown scopes next rs)) i ∙ grown-keeps scopes next rs (length all) (omega arith)
      ∙ get_or_push all new unit_type (length all) refl ∙ ap (row_type scopes all) same
      ∙ row_type-same scopes all (grown scopes next rs) r (All-weaker (λ p. p < length all + 0) (λ p. at all p ≡ at (grown scopes next rs) p)
      (λ p l. sym (grown-keeps scopes next rs p (omega arith) ∙ get_or_append_left all (new ∷ []) unit_type p (omega arith))) (row_rows r) b)
  entry (x ∷ rs) all (suc k) r e b =
      let new = row_type scopes all x in
      let n : length (all ++ new ∷ []) ≡ length all + 1 = length-append all (new ∷ []) in
      let i : length all + suc k ≡ length (all ++ new ∷ []) + k = omega arith in
      ap (at (grown scopes (all ++ new ∷ []) rs)) i ∙ entry rs (all ++ new ∷ []) k r e
      (All-weaker (λ p. p < length all + suc k) (λ p. p < length (all ++ new ∷ []) + k) (λ p l. omega arith) (row_rows r) b)

  nothing_before : (k : ℕ) → length {A = Refined} [] + k ≡ k
  nothing_before k = omega arith

  pub entry_read : (rs : List Row) (n k : ℕ) (r : Row) → AreEarlier rs → n ≡ length rs → k < n → r ≡ get_or rs k r
      → at (grown scopes [] rs) k ≡ row_type scopes (grown scopes [] rs) r
  entry_read rs n k r earlier long l read =
      let e = slice_get_read rs n k r long l read in
      subst (λ j. at (grown scopes [] rs) j ≡ row_type scopes (grown scopes [] rs) r) (nothing_before k)
      (entry rs [] k r e (subst (λ j. All (λ p. p < j) (row_rows r)) (sym (nothing_before k)) (earlier k r e)))

pub earlier_read : (rs : List Row) (n k : ℕ) (r : Row) → AreEarlier rs → n ≡ length rs → k < n → r ≡ get_or rs k r → All (λ p. p < k) (row_rows r)
earlier_read rs n k r earlier long l read = earlier k r (slice_get_read rs n k r long l read)

-- whether a row that is read is one level
pub node_read : (rs : List Row) (n k : ℕ) (r : Row) → n ≡ length rs → k < n → r ≡ get_or rs k r → slice_index_or (map is_node rs) k false ≡ is_node r
node_read rs n k r long l read = find rs k (slice_get_read rs n k r long l read)
  where
    find : (xs : List Row) (j : ℕ) → slice_get xs j ≡ Some r → slice_index_or (map is_node xs) j false ≡ is_node r
    find [] j e = absurd (cc)
    find (x ∷ xs) zero e = let same : x ≡ r = cc in ap is_node same
    find (x ∷ xs) (suc j) e = find xs j e

-- ---- one row more

one_more : (rs : List Row) (r x : Row) (k : ℕ) → slice_get (rs ++ r ∷ []) k ≡ Some x → (slice_get rs k ≡ Some x) ⊎ ((k ≡ length rs) × (r ≡ x))
one_more [] r x zero h = inr (refl, cc)
one_more [] r x (suc k) h = absurd (cc)
one_more (y ∷ rs) r x zero h = inl h
one_more (y ∷ rs) r x (suc k) h = by (one_more rs r x k h)
  where
    by : (slice_get rs k ≡ Some x) ⊎ ((k ≡ length rs) × (r ≡ x)) → (slice_get (y ∷ rs) (suc k) ≡ Some x) ⊎ ((suc k ≡ suc (length rs)) × (r ≡ x))
    by (inl s) = inl s
    by (inr p) = inr (ap suc p.0, p.1)

pub earlier-push : (b : Bool) (rs longer : List Row) (r : Row) → longer ≡ (if b then rs ++ r ∷ [] else rs) → AreEarlier rs
    → All (λ p. p < length rs) (row_rows r) → AreEarlier longer
earlier-push true rs longer r e earlier h k x s = by (one_more rs r x k (ap (λ l. slice_get l k) (sym e) ∙ s))
  where
    by : (slice_get rs k ≡ Some x) ⊎ ((k ≡ length rs) × (r ≡ x)) → All (λ p. p < k) (row_rows x)
    by (inl g) = earlier k x g
    by (inr q) = subst (λ y. All (λ p. p < k) (row_rows y)) q.1 (subst (λ n. All (λ p. p < n) (row_rows r)) (sym q.0) h)
earlier-push false rs longer r e earlier h k x s = earlier k x (ap (λ l. slice_get l k) (sym e) ∙ s)

-- the new row's type, and whether it is one level
module _ (scopes : Scopes) (rs longer : List Row) (r : Row) (e : longer ≡ rs ++ r ∷ []) where
  pub pushed_type : (n : ℕ) → n ≡ length rs → at (grown scopes [] longer) n ≡ row_type scopes (grown scopes [] rs) r
  pushed_type n i =
      let k = length-grown scopes [] rs in
      let j : length (grown scopes [] rs) ≡ n = omega arith in
      ap (λ l. at (grown scopes [] l) n) e ∙ ap (λ l. at l n) (grown-append scopes [] rs (r ∷ []))
      ∙ get_or_push (grown scopes [] rs) (row_type scopes (grown scopes [] rs) r) unit_type n j

pub pushed_node : (rs longer : List Row) (r : Row) (n : ℕ) → longer ≡ rs ++ r ∷ [] → n ≡ length rs → slice_index_or (map is_node longer) n false ≡ is_node r
pushed_node rs longer r n e i = ap (λ l. slice_index_or (map is_node l) n false) e ∙ ap (λ j. slice_index_or (map is_node (rs ++ r ∷ [])) j false) i ∙ last rs
  where
    last : (xs : List Row) → slice_index_or (map is_node (xs ++ r ∷ [])) (length xs) false ≡ is_node r
    last [] = refl
    last (x ∷ xs) = last xs

pub pushed_there : (rs longer : List Row) (r : Row) (n : ℕ) → longer ≡ rs ++ r ∷ [] → n ≡ length rs → n < length longer
pushed_there rs longer r n e i =
    let k = length-append rs (r ∷ []) in
    let m : length longer ≡ length (rs ++ r ∷ []) = ap length e in omega arith

-- ---- numbers of lists

pub number-in : (P : ℕ → Type 0) (xs : List ℕ) (v r : ℕ) → Some r ≡ slice_get xs v → All P xs → P r
number-in P [] v r e h = absurd (none e)
  where
    none : Some r ≡ None → ⊥
    none k = cc
number-in P (x ∷ xs) zero r e h = let same : r ≡ x = cc in subst P (sym same) (All-head P x xs h)
number-in P (x ∷ xs) (suc v) r e h = number-in P xs v r e (All-tail P x xs h)

pub map-grown : (scopes : Scopes) (old new : List Row) (is : List ℕ) → Extends old new → All (λ p. p < length old) is
    → map (at (grown scopes [] new)) is ≡ map (at (grown scopes [] old)) is
map-grown scopes old new is e h =
    map-same (grown scopes [] new) (grown scopes [] old) is
    (All-weaker (λ p. p < length old) (λ p. at (grown scopes [] new) p ≡ at (grown scopes [] old) p) (λ p l. extends-at scopes old new p e l) is h)

-- one more type behind those that were made
pub made-more : (F : ℕ → Refined) (now : List Refined) (made longer types : List ℕ) (i x d : ℕ) → map (at now) made ≡ map F (take i types)
    → longer ≡ made ++ x ∷ [] → at now x ≡ F (get_or types i d) → i < length types → map (at now) longer ≡ map F (take (i + 1) types)
made-more F now made longer types i x d h e v l =
    ap (map (at now)) e ∙ map_push (at now) made x ∙ ap₂ (λ ts t. ts ++ t ∷ []) h v
    ∙ sym (ap (map F) (take_more types i d l) ∙ map_push F (take i types) (get_or types i d))

-- ---- fewer rows

pub earlier-take : (n : ℕ) (rs shorter : List Row) → shorter ≡ take n rs → AreEarlier rs → AreEarlier shorter
earlier-take n rs shorter e earlier k r s = earlier k r (found n rs k (ap (λ l. slice_get l k) (sym e) ∙ s))
  where
    found : (m : ℕ) (xs : List Row) (j : ℕ) → slice_get (take m xs) j ≡ Some r → slice_get xs j ≡ Some r
    found zero xs j h = absurd (nothing h)
      where
        nothing : None ≡ Some r → ⊥
        nothing h = cc
    found (suc m) [] j h = absurd (nothing h)
      where
        nothing : None ≡ Some r → ⊥
        nothing h = cc
    found (suc m) (x ∷ xs) zero h = h
    found (suc m) (x ∷ xs) (suc j) h = found m xs j h

pub extends-take : (n : ℕ) (rs shorter : List Row) → shorter ≡ take n rs → Extends shorter rs
extends-take n rs shorter e = record { added = drop n rs; is = sym (take-append-drop n rs) ∙ ap (λ l. l ++ drop n rs) (sym e) }
