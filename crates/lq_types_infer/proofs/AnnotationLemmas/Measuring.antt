-- The measures of a type from those of its parts.
use Rattle.std.specs.Prelude.{◌||◌, min, All, slice_index_or, ◌^◌, ◌-◌}
use Rattle.std.specs.List.{list_any}
use Rattle.std.proofs.Common.{◌≡◌, ℕ, zero, suc, ◌+◌, ◌<◌, ◌≤◌, ◌++◌, map, take, drop, get_or, drop-cons, Bool, true, false, List, [], ◌∷◌, length, inl, inr, refl, sym, ap, ap₂, subst, ◌∙◌, arith}
use Rattle.lq_text_tree.specs.MlType.{MlType}
use Rattle.lq_types_rules.specs.Constructors.Tasks.{size_of, size_of_all}
use Rattle.lq_types_table.specs.declared.type_node.TypeHead.{TypeHead}
use Rattle.lq_types_table.specs.declared.type_node.TypeHead.TheVariants as head
use Rattle.lq_types_table.specs.Heads.{made, each, IsRight}
use Rattle.lq_types_table.specs.Nodes.{at}
use Rattle.lq_types_table.specs.Seen.{IsOver}
use Rattle.lq_types_rules.specs.Typings.Principal.{counted, is_open, some_open}
use Rattle.lq_types_infer.specs.Annotation.Measuring.{total, is_variable}
use Rattle.lq_types_infer.proofs.AnnotationLemmas.Types.{AllOf, from_all}

none_of : (p : ℕ) (ps : List ℕ) → length (p ∷ ps) ≡ 0 → ⊥
none_of p ps h = omega (arith, h)

module _ (types : ℕ → MlType) where
  sizes_are : (parts : List ℕ) → size_of_all (each types parts) ≡ total (λ p. size_of (types p)) parts
  sizes_are [] = refl
  sizes_are (p ∷ ps) = ap (λ (n : ℕ). size_of (types p) + n) (sizes_are ps)

  opens_are : (parts : List ℕ) → some_open (each types parts) ≡ list_any (λ p. is_open (types p)) parts
  opens_are [] = refl
  opens_are (p ∷ ps) = ap (λ (b : Bool). is_open (types p) || b) (opens_are ps)

  -- a head over the parts that it takes
  record Over (h : TypeHead) (parts : List ℕ) : Type 0 where
    size : size_of (made h (each types parts)) ≡ suc (size_of_all (each types parts))
    open_ : is_open (made h (each types parts)) ≡ some_open (each types parts)
    other : is_variable (made h (each types parts)) ≡ false

  or_none : (b : Bool) → b ≡ (b || false)
  or_none true = refl
  or_none false = refl

  none_over : (h : TypeHead) → Over h [] → (parts : List ℕ) → length parts ≡ 0 → Over h parts
  none_over h o [] e = o
  none_over h o (p ∷ ps) e = absurd (none_of p ps e)

  one_over : (h : TypeHead) → ((p : ℕ) → Over h (p ∷ [])) → (parts : List ℕ) → length parts ≡ 1 → Over h parts
  one_over h o (p ∷ []) e = o p
  one_over h o [] e = absurd (omega (arith, e))
  one_over h o (p ∷ q ∷ ps) e = absurd (omega (arith, e))

  two_over : (h : TypeHead) → ((p q : ℕ) → Over h (p ∷ q ∷ [])) → (parts : List ℕ) → length parts ≡ 2 → Over h parts
  two_over h o (p ∷ q ∷ []) e = o p q
  two_over h o [] e = absurd (omega (arith, e))
  two_over h o (p ∷ []) e = absurd (omega (arith, e))
  two_over h o (p ∷ q ∷ r ∷ ps) e = absurd (omega (arith, e))

  over : (h : TypeHead) (parts : List ℕ) → IsRight h (length parts) → Over h parts
  over head.Int parts right = none_over head.Int (record { size = refl; open_ = refl; other = refl }) parts (right 0 refl)
  over head.Bool parts right = none_over head.Bool (record { size = refl; open_ = refl; other = refl }) parts (right 0 refl)
  over head.Unit parts right = none_over head.Unit (record { size = refl; open_ = refl; other = refl }) parts (right 0 refl)
  over head.Arrow parts right =
      two_over head.Arrow
      (λ p q. record { size = omega arith; open_ = ap (λ (b : Bool). is_open (types p) || b) (or_none (is_open (types q))); other = refl }) parts
      (right 2 refl)
  over head.Tuple parts right = record { size = refl; open_ = refl; other = refl }
  over head.Array parts right =
      one_over head.Array (λ p. record { size = omega arith; open_ = or_none (is_open (types p)); other = refl }) parts (right 1 refl)
  over head.Map parts right = one_over head.Map (λ p. record { size = omega arith; open_ = or_none (is_open (types p)); other = refl }) parts
      (right 1 refl)
  over (head.Named d) parts right = record { size = refl; open_ = refl; other = refl }

pub size_over : (all : List MlType) (i : ℕ) (parts : List ℕ) → IsOver all i parts → size_of (at all i) ≡ suc (total (λ p. size_of (at all p)) parts)
size_over all i parts (inl (v, is, none)) =
    subst (λ (ps : List ℕ). size_of (at all i) ≡ suc (total (λ p. size_of (at all p)) ps)) (sym none) (ap size_of is)
size_over all i parts (inr (h, is, right)) = ap size_of is ∙ (over (at all) h parts right).size ∙ ap (λ (n : ℕ). suc n) (sizes_are (at all) parts)

pub open_over : (all : List MlType) (i : ℕ) (parts : List ℕ) → IsOver all i parts
    → is_open (at all i) ≡ (is_variable (at all i) || list_any (λ p. is_open (at all p)) parts)
open_over all i parts (inl (v, is, none)) = ap is_open is ∙ ap (λ (a : MlType). is_variable a || list_any (λ p. is_open (at all p)) parts) (sym is)
open_over all i parts (inr (h, is, right)) =
    let o = over (at all) h parts right in
    ap is_open is ∙ o.open_ ∙ opens_are (at all) parts ∙ ap (λ (b : Bool). b || list_any (λ p. is_open (at all p)) parts)
    (sym (ap is_variable is ∙ o.other))

-- sums that stop at a limit
stop : (k a rest limit : ℕ) → min (k + (min a limit + rest)) limit ≡ min ((k + a) + rest) limit
stop k a rest limit = omega arith

pub stopped : (f : ℕ → ℕ) (k limit : ℕ) (ps : List ℕ) → min (k + total (λ p. min (f p) limit) ps) limit ≡ min (k + total f ps) limit
stopped f k limit [] = refl
stopped f k limit (p ∷ ps) =
    let rest = total (λ q. min (f q) limit) ps in
    let more_of : min ((k + f p) + rest) limit ≡ min ((k + f p) + total f ps) limit = stopped f (k + f p) limit ps in
    let last : min ((k + f p) + total f ps) limit ≡ min (k + (f p + total f ps)) limit = omega arith in
    stop k (f p) rest limit ∙ more_of ∙ last

-- ---- loops over parts

module _ (f : ℕ → ℕ) where
  both_stop : (k a rest limit : ℕ) → min (min (k + a) limit + rest) limit ≡ min (k + (a + rest)) limit
  both_stop k a rest limit = omega arith

  pub total_next : (xs : List ℕ) (i size new goal limit : ℕ) → i < length xs → min (size + total f (drop i xs)) limit ≡ goal
      → new ≡ min (size + f (get_or xs i 0)) limit → min (new + total f (drop (suc i) xs)) limit ≡ goal
  total_next xs i size new goal limit low h is =
      let e : total f (drop i xs) ≡ f (get_or xs i 0) + total f (drop (suc i) xs) = ap (total f) (drop-cons xs i 0 low) in
      let rest = total f (drop (suc i) xs) in
      let x = f (get_or xs i 0) in
      ap (λ (n : ℕ). min (n + rest) limit) is ∙ both_stop size x rest limit ∙ ap (λ (n : ℕ). min (size + n) limit) (sym e) ∙ h

  total_same : (h : ℕ → ℕ) (P : ℕ → Type 0) → ((p : ℕ) → P p → f p ≡ h p) → (ps : List ℕ) → AllOf P ps → total f ps ≡ total h ps
  total_same h P same [] all = refl
  total_same h P same (p ∷ ps) all = ap₂ (λ (m : ℕ) (n : ℕ). m + n) (same p all.0) (total_same h P same ps all.1)

module _ (f : ℕ → Bool) where
  pub any_next : (xs : List ℕ) (i : ℕ) (goal : Bool) → i < length xs → list_any f (drop i xs) ≡ goal → f (get_or xs i 0) ≡ false
      → list_any f (drop (suc i) xs) ≡ goal
  any_next xs i goal low h is = ap (λ (b : Bool). b || list_any f (drop (suc i) xs)) (sym is) ∙ ap (list_any f) (sym (drop-cons xs i 0 low)) ∙ h

  pub any_here : (xs : List ℕ) (i : ℕ) (goal : Bool) → i < length xs → list_any f (drop i xs) ≡ goal → f (get_or xs i 0) ≡ true → true ≡ goal
  any_here xs i goal low h is = ap (λ (b : Bool). b || list_any f (drop (suc i) xs)) (sym is) ∙ ap (list_any f) (sym (drop-cons xs i 0 low)) ∙ h

  any_same : (h : ℕ → Bool) (P : ℕ → Type 0) → ((p : ℕ) → P p → f p ≡ h p) → (ps : List ℕ) → AllOf P ps → list_any f ps ≡ list_any h ps
  any_same h P same [] all = refl
  any_same h P same (p ∷ ps) all = ap₂ (λ (m : Bool) (n : Bool). m || n) (same p all.0) (any_same h P same ps all.1)

-- ---- the table

module _ {A : Type 0} (h : MlType → A) (d : A) where
  pub taken_at : (all : List MlType) (i p : ℕ) → p < i → p < length all → slice_index_or (map h (take i all)) p d ≡ h (at all p)
  taken_at [] i p low less = absurd (omega (arith, less))
  taken_at (a ∷ as_) zero p low less = absurd (omega (arith, low))
  taken_at (a ∷ as_) (suc i) zero low less = refl
  taken_at (a ∷ as_) (suc i) (suc p) low less = taken_at as_ i p (omega (arith, low)) (omega (arith, less))

  pub taken_more : (all : List MlType) (i : ℕ) → i < length all → map h (take i all) ++ h (at all i) ∷ [] ≡ map h (take (suc i) all)
  taken_more [] i low = absurd (omega (arith, low))
  taken_more (a ∷ as_) zero low = refl
  taken_more (a ∷ as_) (suc i) low = ap (λ (bs : List A). h a ∷ bs) (taken_more as_ i (omega (arith, low)))

pub one_more : (i : ℕ) → suc i ≡ i + 1
one_more i = omega arith

one_stopped : (f : ℕ → ℕ) (limit : ℕ) (ps : List ℕ) → min (suc (total (λ p. min (f p) limit) ps)) limit ≡ min (suc (total f ps)) limit
one_stopped f limit ps =
    let one : suc (total (λ p. min (f p) limit) ps) ≡ 1 + total (λ p. min (f p) limit) ps = omega arith in
    let other : 1 + total f ps ≡ suc (total f ps) = omega arith in
    ap (λ (n : ℕ). min n limit) one ∙ stopped f 1 limit ps ∙ ap (λ (n : ℕ). min n limit) other

pub sizes_next : (all : List MlType) (i : ℕ) (sizes parts : List ℕ) (size : ℕ) → i < length all → sizes ≡ map counted (take i all)
    → IsOver all i parts
    → All (λ p. p < i) parts → size ≡ min (suc (total (λ p. slice_index_or sizes p 0) parts)) (2 ^ 64 - 1)
    → sizes ++ size ∷ [] ≡ map counted (take (i + 1) all)
sizes_next all i sizes parts size low are over_it earlier is =
    let limit = 2 ^ 64 - 1 in
    let same = total_same (λ p. slice_index_or sizes p 0) (λ p. counted (at all p)) (λ p. p < i)
    (λ p l. ap (λ (ns : List ℕ). slice_index_or ns p 0) are ∙ taken_at counted 0 all i p l (omega (arith, l, low))) parts
    (from_all (λ p. p < i) parts earlier) in
    let own : size ≡ counted (at all i) =
    is ∙ ap (λ (n : ℕ). min (suc n) limit) same ∙ one_stopped (λ p. size_of (at all p)) limit parts ∙ ap (λ (n : ℕ). min n limit)
    (sym (size_over all i parts over_it)) in
    ap₂ (λ (xs : List ℕ) (n : ℕ). xs ++ n ∷ []) are own ∙ taken_more counted 0 all i low ∙ ap (λ (j : ℕ). map counted (take j all)) (one_more i)

pub opens_next : (all : List MlType) (i : ℕ) (opens : List Bool) (parts : List ℕ) (open_ : Bool) → i < length all
    → opens ≡ map is_open (take i all) → IsOver all i parts
    → All (λ p. p < i) parts → open_ ≡ (is_variable (at all i) || list_any (λ p. slice_index_or opens p false) parts)
    → opens ++ open_ ∷ [] ≡ map is_open (take (i + 1) all)
opens_next all i opens parts open_ low are over_it earlier is =
    let same = any_same (λ p. slice_index_or opens p false) (λ p. is_open (at all p)) (λ p. p < i)
    (λ p l. ap (λ (bs : List Bool). slice_index_or bs p false) are ∙ taken_at is_open false all i p l (omega (arith, l, low))) parts
    (from_all (λ p. p < i) parts earlier) in
    let own : open_ ≡ is_open (at all i) = is ∙ ap (λ (b : Bool). is_variable (at all i) || b) same ∙ sym (open_over all i parts over_it) in
    ap₂ (λ (bs : List Bool) (b : Bool). bs ++ b ∷ []) are own ∙ taken_more is_open false all i low ∙ ap (λ (j : ℕ). map is_open (take j all))
    (one_more i)

pub at_end : (size rest whole limit : ℕ) → rest ≡ 0 → size ≤ limit → min (size + rest) limit ≡ min whole limit → size ≡ min whole limit
at_end size rest whole limit none small h = omega (arith, none, small, h)

-- a variable, or one that has one in its parts
pub open_first : (o v a any_of : Bool) → o ≡ true → v ≡ true → v ≡ a → o ≡ (a || any_of)
open_first o v a any_of yes_it is same = yes_it ∙ sym (ap (λ (b : Bool). b || any_of) (sym same ∙ is))

pub open_later : (o v a any_of r : Bool) → o ≡ r → v ≡ false → v ≡ a → r ≡ any_of → o ≡ (a || any_of)
open_later o v a any_of r told is same parts = told ∙ parts ∙ sym (ap (λ (b : Bool). b || any_of) (sym same ∙ is))
