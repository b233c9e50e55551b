-- Types by their parts.
use Rattle.std.specs.Prelude.{◌||◌}
use Rattle.std.specs.List.{list_any}
use Rattle.std.proofs.Common.{◌≡◌, ℕ, ◌≤◌, map, Bool, true, false, List, [], ◌∷◌, length, inl, inr, Some, None, refl, sym, ap, ap₂, ◌∙◌, arith}
use Rattle.lq_text_tree.specs.MlType as ml
use Rattle.lq_text_tree.specs.MlType.{MlType, MlTypes}
use Rattle.lq_text_tree.specs.Types.{put, put_all}
use Rattle.lq_types_table.specs.declared.type_node.TypeHead.{TypeHead}
use Rattle.lq_types_table.specs.declared.type_node.TypeHead.TheVariants as head
use Rattle.lq_types_table.specs.Heads.{made, each, IsRight}
use Rattle.lq_types_table.specs.Nodes.{at}
use Rattle.lq_types_table.specs.Seen.{IsOver}
use Rattle.lq_types_rules.specs.Typings.Principal.{is_open, some_open}
use Rattle.lq_types_rules.specs.Typings.Uses.{Each, EachIn}
use Rattle.lq_types_infer.specs.Annotation.Bounds.{bound_of, bound_of_all}
use Rattle.lq_types_infer.specs.Annotation.Numbering.{variable_in}

abbrev pub listed : MlTypes → List MlType
listed ml.no_types = []
listed (ml.more_types t ts) = t ∷ listed ts

-- the parts of a type
abbrev pub type_parts : MlType → List MlType
type_parts ml.int = []
type_parts ml.bool = []
type_parts ml.unit = []
type_parts (ml.var v) = []
type_parts (ml.arrow a b) = a ∷ b ∷ []
type_parts (ml.tuple ts) = listed ts
type_parts (ml.array a) = a ∷ []
type_parts (ml.named d ts) = listed ts
type_parts (ml.map_of a) = a ∷ []

-- ---- the parts of a type of a table

module _ (types : ℕ → MlType) where
  each_listed : (ps : List ℕ) → listed (each types ps) ≡ map types ps
  each_listed [] = refl
  each_listed (p ∷ ps) = ap (λ (l : List MlType). types p ∷ l) (each_listed ps)

  abbrev Over : TypeHead → List ℕ → Type 0
  Over h parts = type_parts (made h (each types parts)) ≡ map types parts

  none_over : (h : TypeHead) → Over h [] → (parts : List ℕ) → length parts ≡ 0 → Over h parts
  none_over h o [] e = o
  none_over h o (p ∷ ps) e = absurd (omega (arith, e))

  one_over : (h : TypeHead) → ((p : ℕ) → Over h (p ∷ [])) → (parts : List ℕ) → length parts ≡ 1 → Over h parts
  one_over h o (p ∷ []) e = o p
  one_over h o [] e = absurd (omega (arith, e))
  one_over h o (p ∷ q ∷ ps) e = absurd (omega (arith, e))

  two_over : (h : TypeHead) → ((p q : ℕ) → Over h (p ∷ q ∷ [])) → (parts : List ℕ) → length parts ≡ 2 → Over h parts
  two_over h o (p ∷ q ∷ []) e = o p q
  two_over h o [] e = absurd (omega (arith, e))
  two_over h o (p ∷ []) e = absurd (omega (arith, e))
  two_over h o (p ∷ q ∷ r ∷ ps) e = absurd (omega (arith, e))

  over : (h : TypeHead) (parts : List ℕ) → IsRight h (length parts) → Over h parts
  over head.Int parts right = none_over head.Int refl parts (right 0 refl)
  over head.Bool parts right = none_over head.Bool refl parts (right 0 refl)
  over head.Unit parts right = none_over head.Unit refl parts (right 0 refl)
  over head.Arrow parts right = two_over head.Arrow (λ p q. refl) parts (right 2 refl)
  over head.Tuple parts right = each_listed parts
  over head.Array parts right = one_over head.Array (λ p. refl) parts (right 1 refl)
  over head.Map parts right = one_over head.Map (λ p. refl) parts (right 1 refl)
  over (head.Named d) parts right = each_listed parts

pub parts_are : (all : List MlType) (i : ℕ) (parts : List ℕ) → IsOver all i parts → type_parts (at all i) ≡ map (at all) parts
parts_are all i parts (inl (v, is, none)) = ap type_parts is ∙ sym (ap (map (at all)) none)
parts_are all i parts (inr (h, is, right)) = ap type_parts is ∙ over (at all) h parts right

-- ---- with types for the variables

put_listed : (by : ℕ → MlType) (ts : MlTypes) → listed (put_all by ts) ≡ map (put by) (listed ts)
put_listed by ml.no_types = refl
put_listed by (ml.more_types t ts) = ap (λ (l : List MlType). put by t ∷ l) (put_listed by ts)

pub parts_put : (by : ℕ → MlType) (a : MlType) → variable_in a ≡ None → type_parts (put by a) ≡ map (put by) (type_parts a)
parts_put by ml.int h = refl
parts_put by ml.bool h = refl
parts_put by ml.unit h = refl
parts_put by (ml.var v) h = absurd (cc)
parts_put by (ml.arrow a b) h = refl
parts_put by (ml.tuple ts) h = put_listed by ts
parts_put by (ml.array a) h = refl
parts_put by (ml.named d ts) h = put_listed by ts
parts_put by (ml.map_of a) h = refl

-- ---- what holds of each variable

abbrev pub AllOf : {A : Type 0} → (A → Type 0) → List A → Type 0
AllOf P [] = Unit {0}
AllOf P (x ∷ xs) = P x × AllOf P xs

module _ (P : ℕ → Type 0) where
  each_in : (ts : MlTypes) → AllOf (Each P) (listed ts) → EachIn P ts
  each_in ml.no_types h = tt
  each_in (ml.more_types t ts) h = (h.0, each_in ts h.1)

  pub each_of : (a : MlType) → variable_in a ≡ None → AllOf (Each P) (type_parts a) → Each P a
  each_of ml.int n h = tt
  each_of ml.bool n h = tt
  each_of ml.unit n h = tt
  each_of (ml.var v) n h = absurd (cc)
  each_of (ml.arrow a b) n h = (h.0, h.1.0)
  each_of (ml.tuple ts) n h = each_in ts h
  each_of (ml.array a) n h = h.0
  each_of (ml.named d ts) n h = each_in ts h
  each_of (ml.map_of a) n h = h.0

  left_false : (a b : Bool) → (a || b) ≡ false → a ≡ false
  left_false false b h = refl
  left_false true b h = absurd (cc)

  right_false : (a b : Bool) → (a || b) ≡ false → b ≡ false
  right_false false b h = h
  right_false true b h = absurd (cc)

  mutual
    pub closed_each : (a : MlType) → is_open a ≡ false → Each P a
    closed_each ml.int h = tt
    closed_each ml.bool h = tt
    closed_each ml.unit h = tt
    closed_each (ml.var v) h = absurd (cc)
    closed_each (ml.arrow a b) h =
        (closed_each a (left_false (is_open a) (is_open b) h), closed_each b (right_false (is_open a) (is_open b) h))
    closed_each (ml.tuple ts) h = closed_in ts h
    closed_each (ml.array a) h = closed_each a h
    closed_each (ml.named d ts) h = closed_in ts h
    closed_each (ml.map_of a) h = closed_each a h

    closed_in : (ts : MlTypes) → some_open ts ≡ false → EachIn P ts
    closed_in ml.no_types h = tt
    closed_in (ml.more_types t ts) h =
        (closed_each t (left_false (is_open t) (some_open ts) h), closed_in ts (right_false (is_open t) (some_open ts) h))

module _ (P Q : ℕ → Type 0) (goes : (v : ℕ) → P v → Q v) where
  mutual
    pub each_more : (a : MlType) → Each P a → Each Q a
    each_more ml.int h = tt
    each_more ml.bool h = tt
    each_more ml.unit h = tt
    each_more (ml.var v) h = goes v h
    each_more (ml.arrow a b) h = (each_more a h.0, each_more b h.1)
    each_more (ml.tuple ts) h = each_more_in ts h
    each_more (ml.array a) h = each_more a h
    each_more (ml.named d ts) h = each_more_in ts h
    each_more (ml.map_of a) h = each_more a h

    each_more_in : (ts : MlTypes) → EachIn P ts → EachIn Q ts
    each_more_in ml.no_types h = tt
    each_more_in (ml.more_types t ts) h = (each_more t h.0, each_more_in ts h.1)

-- replacements that are the same for each variable
module _ (f h : ℕ → MlType) where
  mutual
    pub put_each : (a : MlType) → Each (λ v. f v ≡ h v) a → put f a ≡ put h a
    put_each ml.int e = refl
    put_each ml.bool e = refl
    put_each ml.unit e = refl
    put_each (ml.var v) e = e
    put_each (ml.arrow a b) e = ap₂ ml.arrow (put_each a e.0) (put_each b e.1)
    put_each (ml.tuple ts) e = ap ml.tuple (put_each_in ts e)
    put_each (ml.array a) e = ap ml.array (put_each a e)
    put_each (ml.named d ts) e = ap (ml.named d) (put_each_in ts e)
    put_each (ml.map_of a) e = ap ml.map_of (put_each a e)

    put_each_in : (ts : MlTypes) → EachIn (λ v. f v ≡ h v) ts → put_all f ts ≡ put_all h ts
    put_each_in ml.no_types e = refl
    put_each_in (ml.more_types t ts) e = ap₂ ml.more_types (put_each t e.0) (put_each_in ts e.1)

-- ---- bounds and variables of parts

bounds_listed : (n : ℕ) (ts : MlTypes) → bound_of_all ts ≤ n → AllOf (λ a. bound_of a ≤ n) (listed ts)
bounds_listed n ml.no_types h = tt
bounds_listed n (ml.more_types t ts) h = (omega (arith, h), bounds_listed n ts (omega (arith, h)))

pub bounds_parts : (n : ℕ) (a : MlType) → bound_of a ≤ n → AllOf (λ b. bound_of b ≤ n) (type_parts a)
bounds_parts n ml.int h = tt
bounds_parts n ml.bool h = tt
bounds_parts n ml.unit h = tt
bounds_parts n (ml.var v) h = tt
bounds_parts n (ml.arrow a b) h = (omega (arith, h), (omega (arith, h), tt))
bounds_parts n (ml.tuple ts) h = bounds_listed n ts h
bounds_parts n (ml.array a) h = (h, tt)
bounds_parts n (ml.named d ts) h = bounds_listed n ts h
bounds_parts n (ml.map_of a) h = (h, tt)

open_listed : (ts : MlTypes) → some_open ts ≡ list_any is_open (listed ts)
open_listed ml.no_types = refl
open_listed (ml.more_types t ts) = ap (λ (b : Bool). is_open t || b) (open_listed ts)

or_none : (b : Bool) → b ≡ (b || false)
or_none true = refl
or_none false = refl

pub open_parts : (a : MlType) → variable_in a ≡ None → is_open a ≡ list_any is_open (type_parts a)
open_parts ml.int h = refl
open_parts ml.bool h = refl
open_parts ml.unit h = refl
open_parts (ml.var v) h = absurd (cc)
open_parts (ml.arrow a b) h = ap (λ (c : Bool). is_open a || c) (or_none (is_open b))
open_parts (ml.tuple ts) h = open_listed ts
open_parts (ml.array a) h = or_none (is_open a)
open_parts (ml.named d ts) h = open_listed ts
open_parts (ml.map_of a) h = or_none (is_open a)

pub variable_is : (a : MlType) (v : ℕ) → variable_in a ≡ Some v → a ≡ ml.var v
variable_is ml.int v h = absurd (cc)
variable_is ml.bool v h = absurd (cc)
variable_is ml.unit v h = absurd (cc)
variable_is (ml.var w) v h = ap ml.var (cc)
variable_is (ml.arrow a b) v h = absurd (cc)
variable_is (ml.tuple ts) v h = absurd (cc)
variable_is (ml.array a) v h = absurd (cc)
variable_is (ml.named d ts) v h = absurd (cc)
variable_is (ml.map_of a) v h = absurd (cc)
