-- What is read of the parts of a class.
use Rattle.std.proofs.Common.{◌≡◌, inl, inr, ◌+◌, ℕ, ◌<◌, ◌≤◌, List, length, get_or, take, drop, sym, ap, subst, ◌∙◌, arith, Some}
use Rattle.std.proofs.lemmas.Bool.{cases_eq}
use Rattle.std.proofs.lemmas.List.{get_or_read, get_or_past}
use Rattle.lq_types_unify.specs.declared.arena.Head.{Head}
use Rattle.lq_types_unify.specs.declared.arena.Arena.{Arena}
use Rattle.lq_types_unify.specs.declared.arena.Node.{Node}
use Rattle.lq_types_unify.specs.declared.arena.Node.TheVariants.{Open, Made}
use Rattle.lq_types_unify.specs.declared.order.Mark.{Mark}
use Rattle.lq_types_unify.specs.declared.order.Mark.TheVariants.{Done}
use Rattle.lq_types_unify.specs.Nodes.{form_of, form_at, IsArena}
use Rattle.lq_types_unify.specs.Classes.{up, root}
use Rattle.lq_types_unify.specs.Value.{inner, parts_of}
use Rattle.lq_types_unify.specs.Visits.{IsTable, mark_at, AreDone}
use Rattle.lq_types_unify.proofs.Roots.{up_past, read_up, root_low}
use Rattle.lq_types_unify.proofs.Rows.{form_read, fits_read, row_length, row_at}

-- one part, as it is read
pub record IsPart (a : Arena) (parents shapes : List ℕ) (x at p c : ℕ) : Type 0 where
  pub at_in : at < length (inner (form_at a) shapes x)
  pub is : p ≡ get_or (inner (form_at a) shapes x) at 0
  pub node : p < length a.nodes.items
  pub class : c ≡ root parents p
  pub inside : c < length a.nodes.items

pub part_read : (a : Arena) (parents shapes : List ℕ) (x at p : ℕ) (y : Node) (h : Head) (first count : ℕ) → IsArena a → IsTable (form_at a) (length a.nodes.items) parents shapes
    → x < length a.nodes.items → y ≡ get_or a.nodes.items (get_or shapes x 0) y → y ≡ Made h first count → at < count → p ≡ get_or a.parts.items (first + at) p
    → IsPart a parents shapes x at p (get_or parents p 0)
part_read a parents shapes x at p y h first count w t x_in ye ym at_in pe = record {
  at_in = long;
  is = value ∙ sym (ap (λ l. get_or l at 0) row ∙ row_at a.parts.items first count at at_in);
  node = node;
  class = class;
  inside = let l : root parents p ≤ p = root_low parents t.down p in let m : p < length a.nodes.items = node in let e : get_or parents p 0 ≡ root parents p = class in omega arith;
}
  where
    kept : get_or shapes x 0 ≡ up shapes x
    kept = read_up shapes x (let e = t.shapes_length in omega arith)

    form : form_at a (up shapes x) ≡ Some (record { head = h; parts = take count (drop first a.parts.items) })
    form = form_read a (up shapes x) y h first count (t.inside x x_in) (ye ∙ ap (λ j. get_or a.nodes.items j y) kept) ym

    row : inner (form_at a) shapes x ≡ take count (drop first a.parts.items)
    row = ap parts_of form

    fits : first + count ≤ length a.parts.items
    fits = fits_read a w (up shapes x) y h first count (t.inside x x_in) (ye ∙ ap (λ j. get_or a.nodes.items j y) kept) ym

    long : at < length (inner (form_at a) shapes x)
    long = let e : length (inner (form_at a) shapes x) ≡ count = ap length row ∙ row_length a.parts.items first count fits in omega arith

    value : p ≡ get_or a.parts.items (first + at) 0
    value = get_or_read a.parts.items (first + at) p (let f : first + count ≤ length a.parts.items = fits in omega arith) pe 0

    node : p < length a.nodes.items
    node = subst (λ (j : ℕ). j < length a.nodes.items) (sym value) (w.inside (first + at) 0 (let f : first + count ≤ length a.parts.items = fits in omega arith))

    class : get_or parents p 0 ≡ root parents p
    class = read_up parents p (let e = t.parents_length in let l : p < length a.nodes.items = node in omega arith) ∙ t.flat p

pub done_more : (parents : List ℕ) (marks : List Mark) (row : List ℕ) (at : ℕ) → AreDone parents marks row at → mark_at marks (root parents (get_or row at 0)) ≡ Done → AreDone parents marks row (at + 1)
done_more parents marks row at d e k l m = elim (cases_eq k at) [
  | inl f ↦ subst (λ j. mark_at marks (root parents (get_or row j 0)) ≡ Done) (sym f) e
  | inr f ↦ d k (omega arith) m
]

-- what is no node has no parts
pub inner_past : (a : Arena) (shapes : List ℕ) (r : ℕ) → length shapes ≤ r → length a.nodes.items ≤ r → length (inner (form_at a) shapes r) ≡ 0
inner_past a shapes r h l = ap (λ (j : ℕ). length (parts_of (form_at a j))) (up_past shapes r h) ∙ ap (λ (y : Node). length (parts_of (form_of a.parts.items y))) (get_or_past a.nodes.items r Open l)
