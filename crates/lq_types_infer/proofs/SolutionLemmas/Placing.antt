-- The types of classes by their forms, and their numbers in a table.
use Rattle.std.proofs.Common.{◌≡◌, ℕ, zero, suc, ◌+◌, ◌-◌, ◌<◌, ◌≤◌, List, [], ◌∷◌, ◌++◌, Option, Some, None, All, length, take, drop, map, get_or}
use Rattle.std.proofs.Common.{set, inl, inr, refl, sym, ap, ap₂, subst, ◌∙◌, arith, add-one, get_or-set_same, get_or-set_other}
use Rattle.std.proofs.lemmas.Bool.{cases_eq}
use Rattle.std.proofs.lemmas.List.{get_or_read, get_or_append_left, get_or_push, length_push}
use Rattle.lq_text_tree.specs.MlType as ml
use Rattle.lq_text_tree.specs.MlType.{MlType}
use Rattle.lq_types_unify.specs.declared.arena.Head.{Head}
use Rattle.lq_types_unify.specs.declared.arena.Node.{Node}
use Rattle.lq_types_unify.specs.declared.arena.Node.TheVariants.{Open, Made}
use Rattle.lq_types_unify.specs.declared.solver.Solution.{Solution}
use Rattle.lq_types_unify.specs.Simple as simple
use Rattle.lq_types_unify.specs.Simple.{Simple}
use Rattle.lq_types_unify.specs.Nodes.{Form, form_of, form_at}
use Rattle.lq_types_unify.specs.Classes.{up, root}
use Rattle.lq_types_unify.specs.Value.{parts_of, inner, built, value}
use Rattle.lq_types_unify.proofs.Roots.{root_self, root_fixed}
use Rattle.lq_types_unify.proofs.Rows.{form_read, fits_read}
use Rattle.lq_types_unify.proofs.Listing.{slice_parts}
use Rattle.lq_types_unify.proofs.Seating.{parts_in}
use Rattle.lq_types_rules.specs.declared.equations.system.System.{System}
use Rattle.lq_types_rules.specs.Equations.Solutions as rules
use Rattle.lq_types_rules.specs.Equations.Adding as adding
use Rattle.lq_types_rules.specs.Equations.Adding.{count_of, forms_of}
use Rattle.lq_types_rules.specs.Equations.Solved.{read, types_in}
use Rattle.lq_types_table.specs.Heads as table
use Rattle.lq_types_table.specs.Nodes.{at}
use Rattle.lq_types_infer.specs.Solution.Heads.{head_of}
use Rattle.lq_types_infer.specs.Solution.Slots.{IsSettled, IsPlaced}
use Rattle.lq_types_infer.proofs.SolutionLemmas.Making.{made_as}

-- ---- the type of a class

value_root : (n : ℕ) (forms : ℕ → Option Form) (ps shapes : List ℕ) (x y : ℕ) → root ps x ≡ root ps y
    → value n forms ps shapes x ≡ value n forms ps shapes y
value_root zero forms ps shapes x y e = ap simple.variable e
value_root (suc n) forms ps shapes x y e = ap (λ r. built (value n forms ps shapes) r (forms (up shapes r))) e

-- nodes of one class have one type
pub type_root : (s : System) (found : Solution) (x y : ℕ) → root found.parents.items x ≡ root found.parents.items y
    → types_in s found x ≡ types_in s found y
type_root s found x y e = ap read (value_root (length found.order.items + 1) (form_at s.arena) found.parents.items found.shapes.items x y e)

value_open : (n : ℕ) (forms : ℕ → Option Form) (ps shapes : List ℕ) (c : ℕ) → root ps c ≡ c → forms (up shapes c) ≡ None
    → value (suc n) forms ps shapes c ≡ simple.variable c
value_open n forms ps shapes c e none =
    ap (λ r. built (value n forms ps shapes) r (forms (up shapes r))) e ∙ ap (built (value n forms ps shapes) c) none

-- a class without a form is a variable
open_type : (s : System) (found : Solution) (c : ℕ) → up found.parents.items c ≡ c → form_at s.arena (up found.shapes.items c) ≡ None
    → types_in s found c ≡ ml.var c
open_type s found c r none =
    ap (λ n. read (value n (form_at s.arena) found.parents.items found.shapes.items c)) (add-one (length found.order.items))
    ∙ ap read (value_open (length found.order.items) (form_at s.arena) found.parents.items found.shapes.items c
    (root_self found.parents.items c r) none)

-- a class with a form has a type of this form
made_type : (s : System) (found : Solution) (c : ℕ) (f : Form) → IsSettled s found → up found.parents.items c ≡ c
    → form_at s.arena (up found.shapes.items c) ≡ Some f
    → types_in s found c ≡ rules.made f.head (rules.each (types_in s found) f.parts)
made_type s found c f t r e =
    type_root s found c (up found.shapes.items c) (root_self found.parents.items c r ∙ sym (t.order.table.own c r))
    ∙ t.fits (up found.shapes.items c) f e

-- ---- what is read of a class

pub record IsMade (s : System) (found : Solution) (class : ℕ) (h : Head) (first count : ℕ) (row : List ℕ) : Type 0 where
  pub fits : first + count ≤ length s.arena.parts.items
  pub row_is : row ≡ inner (forms_of s) found.shapes.items class
  pub inside : All (λ p. p < count_of s) row
  pub right : adding.IsRight h (length row)
  pub type : types_in s found class ≡ rules.made h (rules.each (types_in s found) row)

made_at : (s : System) (found : Solution) (class : ℕ) (h : Head) (first count : ℕ) (row : List ℕ) → IsSettled s found
    → up found.parents.items class ≡ class → first + count ≤ length s.arena.parts.items
    → form_at s.arena (up found.shapes.items class) ≡ Some (record { head = h; parts = row }) → IsMade s found class h first count row
made_at s found class h first count row t r fits e = record {
  fits = fits;
  row_is = sym (ap parts_of e);
  inside = subst (All (λ p. p < count_of s)) (ap parts_of e) (parts_in s.arena t.system.arena (up found.shapes.items class));
  right = t.system.right (up found.shapes.items class) (record { head = h; parts = row }) e;
  type = made_type s found class (record { head = h; parts = row }) t r e;
}

shape_read : (s : System) (found : Solution) (class i : ℕ) → IsSettled s found → class < count_of s → i ≡ get_or found.shapes.items class i
    → i ≡ up found.shapes.items class
shape_read s found class i t h e = get_or_read found.shapes.items class i (let l = t.order.table.shapes_length in omega arith) e class

pub shape_in : (s : System) (found : Solution) (class i : ℕ) → IsSettled s found → class < count_of s → i ≡ get_or found.shapes.items class i
    → i < count_of s
shape_in s found class i t h e = subst (λ (j : ℕ). j < count_of s) (sym (shape_read s found class i t h e)) (t.order.table.inside class h)

pub made_read : (s : System) (found : Solution) (class i : ℕ) (x : Node) (h : Head) (first count : ℕ) (whole : List ℕ) → IsSettled s found
    → class < count_of s → up found.parents.items class ≡ class
    → i ≡ get_or found.shapes.items class i → x ≡ get_or s.arena.nodes.items i x → x ≡ Made h first count → whole ≡ s.arena.parts.items
    → IsMade s found class h first count (take (first + count - first) (drop first whole))
made_read s found class i x h first count whole t l r se xe xm we =
    let n = shape_in s found class i t l se in
    let kept = shape_read s found class i t l se in
    subst (IsMade s found class h first count) (sym (slice_parts s.arena.parts.items whole first count we))
    (made_at s found class h first count (take count (drop first s.arena.parts.items)) t r
    (fits_read s.arena t.system.arena i x h first count n xe xm)
    (ap (form_at s.arena) (sym kept) ∙ form_read s.arena i x h first count n xe xm))

pub open_read : (s : System) (found : Solution) (class i : ℕ) (x : Node) → IsSettled s found → class < count_of s
    → up found.parents.items class ≡ class
    → i ≡ get_or found.shapes.items class i → x ≡ get_or s.arena.nodes.items i x → x ≡ Open → types_in s found class ≡ ml.var class
open_read s found class i x t l r se xe xm =
    let n = shape_in s found class i t l se in
    open_type s found class r
    (ap (form_at s.arena) (sym (shape_read s found class i t l se))
    ∙ ap (form_of s.arena.parts.items) (sym (get_or_read s.arena.nodes.items i x n xe Open) ∙ xm))

-- ---- the numbers of the parts

each_placed : (all : List MlType) (rows : List ℕ) (types : ℕ → MlType) (ps row : List ℕ) → ((p : ℕ) → up ps p ≡ root ps p)
    → ((p : ℕ) → types (root ps p) ≡ types p)
    → All (λ p. IsPlaced all rows types (root ps p)) row → table.each (at all) (map (λ p. get_or rows (up ps p) 0) row) ≡ rules.each types row
each_placed all rows types ps [] flat same h = refl
each_placed all rows types ps (p ∷ row) flat same h =
    ap₂ ml.more_types (ap (λ i. at all (get_or rows i 0)) (flat p) ∙ (h 0 0 (omega arith)).1 ∙ same p)
    (each_placed all rows types ps row flat same (λ k d l. h (suc k) d (omega arith)))

inside_placed : (all : List MlType) (rows : List ℕ) (types : ℕ → MlType) (ps row : List ℕ) → ((p : ℕ) → up ps p ≡ root ps p)
    → All (λ p. IsPlaced all rows types (root ps p)) row → All (λ q. q < length all) (map (λ p. get_or rows (up ps p) 0) row)
inside_placed all rows types ps [] flat h k d l = absurd (omega arith)
inside_placed all rows types ps (p ∷ row) flat h zero d l = subst (λ i. get_or rows i 0 < length all) (sym (flat p)) (h 0 0 (omega arith)).0
inside_placed all rows types ps (p ∷ row) flat h (suc k) d l =
    inside_placed all rows types ps row flat (λ j e m. h (suc j) e (omega arith)) k d (omega arith)

length-map : (f : ℕ → ℕ) (xs : List ℕ) → length (map f xs) ≡ length xs
length-map f [] = refl
length-map f (x ∷ xs) = ap suc (length-map f xs)

-- the numbers of a class's parts
pub record AreNumbers (s : System) (found : Solution) (class : ℕ) (h : Head) (all : List MlType) (numbers : List ℕ) : Type 0 where
  pub inside : All (λ q. q < length all) numbers
  pub right : adding.IsRight h (length numbers)
  pub type : table.made (head_of h) (table.each (at all) numbers) ≡ types_in s found class

pub numbers_read : (s : System) (found : Solution) (class : ℕ) (h : Head) (first count : ℕ) (row : List ℕ) (all : List MlType)
    (rows numbers : List ℕ) → IsSettled s found
    → IsMade s found class h first count row → numbers ≡ map (λ p. get_or rows (up found.parents.items p) 0) row
    → All (λ p. IsPlaced all rows (types_in s found) (root found.parents.items p)) (inner (forms_of s) found.shapes.items class)
    → AreNumbers s found class h all numbers
numbers_read s found class h first count row all rows numbers t m e placed = subst (AreNumbers s found class h all) (sym e) (record {
  inside = inside_placed all rows (types_in s found) found.parents.items row t.order.table.flat here;
  right = subst (adding.IsRight h) (sym (length-map (λ p. get_or rows (up found.parents.items p) 0) row)) m.right;
  type = ap (λ ts. table.made (head_of h) ts) (each_placed all rows (types_in s found) found.parents.items row t.order.table.flat same here)
      ∙ made_as h (rules.each (types_in s found) row) ∙ sym m.type;
})
  where
    here : All (λ p. IsPlaced all rows (types_in s found) (root found.parents.items p)) row
    here = subst (All (λ p. IsPlaced all rows (types_in s found) (root found.parents.items p))) (sym m.row_is) placed

    same : (p : ℕ) → types_in s found (root found.parents.items p) ≡ types_in s found p
    same p = type_root s found (root found.parents.items p) p
        (root_self found.parents.items (root found.parents.items p) (root_fixed found.parents.items t.order.table.down p))

-- ---- one class more

placed_here : (all : List MlType) (rows : List ℕ) (types : ℕ → MlType) (c : ℕ) → c < length rows
    → IsPlaced (all ++ types c ∷ []) (set rows c (length all)) types c
placed_here all rows types c h = subst (λ n. (n < length (all ++ types c ∷ [])) × (at (all ++ types c ∷ []) n ≡ types c))
    (sym (get_or-set_same rows c (length all) 0 h))
    (omega (arith, length_push all (types c)), get_or_push all (types c) ml.unit (length all) refl)

placed_still : (all : List MlType) (rows : List ℕ) (types : ℕ → MlType) (c r : ℕ) → (r ≡ c → ⊥) → IsPlaced all rows types r
    → IsPlaced (all ++ types c ∷ []) (set rows c (length all)) types r
placed_still all rows types c r apart p =
    subst (λ n. (n < length (all ++ types c ∷ [])) × (at (all ++ types c ∷ []) n ≡ types r)) (sym (get_or-set_other rows c r (length all) 0 apart))
    (let b = p.0 in omega (arith, length_push all (types c)), get_or_append_left all (types c ∷ []) ml.unit (get_or rows r 0) p.0 ∙ p.1)

pub placed_more : (all more : List MlType) (rows : List ℕ) (types : ℕ → MlType) (c r row : ℕ) → c < length rows → more ≡ all ++ types c ∷ []
    → row ≡ length all → IsPlaced all rows types r
    → IsPlaced more (set rows c row) types r
placed_more all more rows types c r row h e n p =
    subst (λ l. IsPlaced l (set rows c row) types r) (sym e)
    (subst (λ (k : ℕ). IsPlaced (all ++ types c ∷ []) (set rows c k) types r) (sym n) (elim (cases_eq r c) [
      | inl f ↦ subst (IsPlaced (all ++ types c ∷ []) (set rows c (length all)) types) (sym f) (placed_here all rows types c h)
      | inr f ↦ placed_still all rows types c r f p
    ]))

pub placed_new : (all more : List MlType) (rows : List ℕ) (types : ℕ → MlType) (c row : ℕ) → c < length rows → more ≡ all ++ types c ∷ []
    → row ≡ length all → IsPlaced more (set rows c row) types c
placed_new all more rows types c row h e n =
    subst (λ l. IsPlaced l (set rows c row) types c) (sym e)
    (subst (λ (k : ℕ). IsPlaced (all ++ types c ∷ []) (set rows c k) types c) (sym n) (placed_here all rows types c h))
