-- What is read of a row.
use Rattle.std.proofs.Common.{◌≡◌, ℕ, ◌+◌, ◌-◌, ◌<◌, ◌≤◌, List, [], All, length, take, drop, get_or, slice_get, Some, sym, ap, subst, ◌∙◌, arith}
use Rattle.std.proofs.Common.{length-drop, length-take-le}
use Rattle.std.proofs.lemmas.Option.{slice_get_read}
use Rattle.lq_text_tree.specs.MlType as ml
use Rattle.lq_types_table.specs.declared.type_node.TypeHead.{TypeHead}
use Rattle.lq_types_table.specs.declared.type_table.Row.{Row}
use Rattle.lq_types_table.specs.declared.type_table.Row.TheVariants.{Var, Made}
use Rattle.lq_types_table.specs.Heads.{made, each, IsRight}
use Rattle.lq_types_table.specs.Nodes.{at, grown, IsTable}
use Rattle.lq_types_table.proofs.Growing.{length-grown, grown-variable, grown-made}

-- a head's row, with its parts
pub record IsMade (parts : List ℕ) (rows : List Row) (i first count : ℕ) (h : TypeHead) (row : List ℕ) : Type 0 where
  pub fits : first + count ≤ length parts
  pub below : All (λ p. p < i) row
  pub right : IsRight h (length row)
  pub type : at (grown parts [] rows) i ≡ made h (each (at (grown parts [] rows)) row)

zero_more : (k : ℕ) → length {A = ℕ} [] + k ≡ k
zero_more k = omega arith

row-length : (xs : List ℕ) (first count : ℕ) → first + count ≤ length xs → length (take count (drop first xs)) ≡ count
row-length xs first count h = length-take-le count (drop first xs) (omega (arith, length-drop first xs))

made_at : (parts : List ℕ) (rows : List Row) (i : ℕ) (h : TypeHead) (first count : ℕ) → IsTable parts rows
    → slice_get rows i ≡ Some (Made h first count)
    → IsMade parts rows i first count h (take count (drop first parts))
made_at parts rows i h first count t e = record {
  fits = t.fits i h first count e;
  below = t.below i h first count e;
  right = subst (IsRight h) (sym (row-length parts first count (t.fits i h first count e))) (t.right i h first count e);
  type = subst (λ k. at (grown parts [] rows) k ≡ made h (each (at (grown parts [] rows)) (take count (drop first parts)))) (zero_more i)
      (grown-made parts rows [] i h first count e
      (subst (λ k. All (λ p. p < k) (take count (drop first parts))) (sym (zero_more i)) (t.below i h first count e)));
}

same_count : (first count : ℕ) → first + count - first ≡ count
same_count first count = omega arith

pub made_read : (parts : List ℕ) (rows : List Row) (i n : ℕ) (r : Row) (h : TypeHead) (first count : ℕ) → IsTable parts rows → n ≡ length rows
    → i < n → r ≡ get_or rows i r → r ≡ Made h first count
    → (whole : List ℕ) → whole ≡ parts → IsMade parts rows i first count h (take (first + count - first) (drop first whole))
made_read parts rows i n r h first count t long l read is whole w =
    subst (λ xs. IsMade parts rows i first count h (take (first + count - first) (drop first xs))) (sym w)
    (subst (λ k. IsMade parts rows i first count h (take k (drop first parts))) (sym (same_count first count))
    (made_at parts rows i h first count t (slice_get_read rows n i r long l read ∙ ap Some is)))

pub variable_read : (parts : List ℕ) (rows : List Row) (i n : ℕ) (r : Row) (v : ℕ) → n ≡ length rows → i < n → r ≡ get_or rows i r → r ≡ Var v
    → at (grown parts [] rows) i ≡ ml.var v
variable_read parts rows i n r v long l read is =
    subst (λ k. at (grown parts [] rows) k ≡ ml.var v) (zero_more i)
    (grown-variable parts rows [] i v (slice_get_read rows n i r long l read ∙ ap Some is))

pub row_there : (parts : List ℕ) (rows : List Row) (i n : ℕ) → n ≡ length rows → i < length (grown parts [] rows) → i < n
row_there parts rows i n e h = let k = length-grown parts [] rows in omega arith
