-- Tables that grow.
use Rattle.std.proofs.Common.{◌≡◌, ℕ, zero, suc, ◌+◌, ◌<◌, ◌≤◌, ◌^◌, List, [], ◌∷◌, ◌++◌, All, length, take, drop, get_or, slice_get, Some, Bool}
use Rattle.std.proofs.Common.{true, false, if◌then◌else◌, ◌⊎◌, inl, inr, refl, sym, ap, ap₂, subst, ◌∙◌, arith, length-drop}
use Rattle.std.proofs.lemmas.List.{length-append, get_or_append_left, get_or_push, take-append-le, drop-append-le}
use Rattle.std.proofs.Math.Seq.{drop-append_seam, take-length}
use Rattle.lq_text_tree.specs.MlType as ml
use Rattle.lq_text_tree.specs.MlType.{MlType}
use Rattle.lq_types_table.specs.declared.type_node.TypeHead.{TypeHead}
use Rattle.lq_types_table.specs.declared.type_table.Row.{Row}
use Rattle.lq_types_table.specs.declared.type_table.Row.TheVariants.{Var, Made}
use Rattle.lq_types_table.specs.Heads.{made, each, IsRight}
use Rattle.lq_types_table.specs.Nodes.{at, built, grown, IsTable}

-- ---- a row behind the others

pub length-grown : (parts : List ℕ) (all : List MlType) (rs : List Row) → length (grown parts all rs) ≡ length all + length rs
length-grown parts all [] = omega arith
length-grown parts all (r ∷ rs) =
    let new = built parts all r in
    let h = length-grown parts (all ++ new ∷ []) rs in
    let k = length-append all (new ∷ []) in omega arith

pub grown-push : (parts : List ℕ) (all : List MlType) (rs : List Row) (r : Row)
    → grown parts all (rs ++ r ∷ []) ≡ grown parts all rs ++ built parts (grown parts all rs) r ∷ []
grown-push parts all [] r = refl
grown-push parts all (x ∷ rs) r = grown-push parts (all ++ built parts all x ∷ []) rs r

-- what stands before a further row stays
grown-keeps : (parts : List ℕ) (all : List MlType) (rs : List Row) (i : ℕ) → i < length all → at (grown parts all rs) i ≡ at all i
grown-keeps parts all [] i h = refl
grown-keeps parts all (r ∷ rs) i h =
    let new = built parts all r in
    let k = length-append all (new ∷ []) in grown-keeps parts (all ++ new ∷ []) rs i (omega arith) ∙ get_or_append_left all (new ∷ []) ml.unit i h

each-by : (f g : ℕ → MlType) (is : List ℕ) → All (λ i. f i ≡ g i) is → each f is ≡ each g is
each-by f g [] h = refl
each-by f g (i ∷ is) h = ap₂ ml.more_types (h 0 0 (omega arith)) (each-by f g is (λ k d l. h (suc k) d (omega arith)))

-- a variable's row makes the variable
pub grown-variable : (parts : List ℕ) (rs : List Row) (all : List MlType) (k v : ℕ) → slice_get rs k ≡ Some (Var v)
    → at (grown parts all rs) (length all + k) ≡ ml.var v
grown-variable parts [] all k v h = absurd (cc)
grown-variable parts (x ∷ rs) all zero v h =
    let same : x ≡ Var v = cc in
    let new = built parts all x in
    let n = length-append all (new ∷ []) in
    let i : length all + 0 ≡ length all = omega arith in
    ap (at (grown parts (all ++ new ∷ []) rs)) i ∙ grown-keeps parts (all ++ new ∷ []) rs (length all) (omega arith)
    ∙ get_or_push all new ml.unit (length all) refl ∙ ap (built parts all) same
grown-variable parts (x ∷ rs) all (suc k) v h =
    let new = built parts all x in
    let n : length (all ++ new ∷ []) ≡ length all + 1 = length-append all (new ∷ []) in
    let i : length all + suc k ≡ length (all ++ new ∷ []) + k = omega arith in
    ap (at (grown parts (all ++ new ∷ []) rs)) i ∙ grown-variable parts rs (all ++ new ∷ []) k v h

-- a head's row makes the head over the types of its parts, where these stand before it
pub grown-made : (parts : List ℕ) (rs : List Row) (all : List MlType) (k : ℕ) (h : TypeHead) (first count : ℕ)
    → slice_get rs k ≡ Some (Made h first count)
    → All (λ p. p < length all + k) (take count (drop first parts))
    → at (grown parts all rs) (length all + k) ≡ made h (each (at (grown parts all rs)) (take count (drop first parts)))
grown-made parts [] all k h first count e b = absurd (cc)
grown-made parts (x ∷ rs) all zero h first count e b =
    let row = take count (drop first parts) in
    let same : x ≡ Made h first count = cc in
    let new = built parts all x in
    let next = all ++ new ∷ [] in
    let n : length next ≡ length all + 1 = length-append all (new ∷ []) in
    let i : length all + 0 ≡ length all = omega arith in
    let here : at (grown parts next rs) (length all) ≡ new = grown-keeps parts next rs (length all) (omega arith)
    ∙ get_or_push all new ml.unit (length all) refl in
    let there : each (at all) row ≡ each (at (grown parts next rs)) row =
    each-by (at all) (at (grown parts next rs)) row (λ j d l. let p : get_or row j d < length all + 0 = b j d l in
    sym (grown-keeps parts next rs (get_or row j d) (omega arith) ∙ get_or_append_left all (new ∷ []) ml.unit (get_or row j d) (omega arith))) in
    ap (at (grown parts next rs)) i ∙ here ∙ ap (built parts all) same ∙ ap (made h) there
grown-made parts (x ∷ rs) all (suc k) h first count e b =
    let new = built parts all x in
    let next = all ++ new ∷ [] in
    let n : length next ≡ length all + 1 = length-append all (new ∷ []) in
    let i : length all + suc k ≡ length next + k = omega arith in
    ap (at (grown parts next rs)) i ∙ grown-made parts rs next k h first count e
    (λ j d l. let p : get_or (take count (drop first parts)) j d < length all + suc k = b j d l in omega arith)

-- ---- more parts behind the others

-- a row that is there, where more parts stand behind
row-append : (parts more : List ℕ) (first count : ℕ) → first + count ≤ length parts
    → take count (drop first (parts ++ more)) ≡ take count (drop first parts)
row-append parts more first count h =
    ap (take count) (drop-append-le first parts more (omega arith)) ∙ take-append-le count (drop first parts) more (length_left parts first count h)
  where
    length_left : (xs : List ℕ) (i n : ℕ) → i + n ≤ length xs → n ≤ length (drop i xs)
    length_left xs i n l = omega (arith, length-drop i xs)

pub row-behind : (parts more : List ℕ) → take (length more) (drop (length parts) (parts ++ more)) ≡ more
row-behind parts more = ap (take (length more)) (drop-append_seam parts more) ∙ take-length more

built-append : (parts more : List ℕ) (all : List MlType) (r : Row)
    → ((h : TypeHead) (first count : ℕ) → r ≡ Made h first count → first + count ≤ length parts) → built (parts ++ more) all r ≡ built parts all r
built-append parts more all (Var v) f = refl
built-append parts more all (Made h first count) f = ap (λ l. made h (each (at all) l)) (row-append parts more first count (f h first count refl))

pub grown-append : (parts more : List ℕ) (all : List MlType) (rs : List Row)
    → ((i : ℕ) (h : TypeHead) (first count : ℕ) → slice_get rs i ≡ Some (Made h first count) → first + count ≤ length parts)
    → grown (parts ++ more) all rs ≡ grown parts all rs
grown-append parts more all [] f = refl
grown-append parts more all (r ∷ rs) f =
    ap (λ t. grown (parts ++ more) (all ++ t ∷ []) rs) (built-append parts more all r (λ h first count e. f 0 h first count (ap Some e)))
    ∙ grown-append parts more (all ++ built parts all r ∷ []) rs (λ i h first count e. f (suc i) h first count e)

-- ---- the table with one row more

one_more : (rs : List Row) (r x : Row) (k : ℕ) → slice_get (rs ++ r ∷ []) k ≡ Some x → (slice_get rs k ≡ Some x) ⊎ ((k ≡ length rs) × (r ≡ x))
one_more [] r x zero h = inr (refl, cc)
one_more [] r x (suc k) h = absurd (cc)
one_more (y ∷ rs) r x zero h = inl h
one_more (y ∷ rs) r x (suc k) h = by (one_more rs r x k h)
  where
    by : (slice_get rs k ≡ Some x) ⊎ ((k ≡ length rs) × (r ≡ x)) → (slice_get (y ∷ rs) (suc k) ≡ Some x) ⊎ ((suc k ≡ suc (length rs)) × (r ≡ x))
    by (inl s) = inl s
    by (inr p) = inr (ap suc p.0, p.1)

made_first : (h i : TypeHead) (a b m n : ℕ) → Made h a m ≡ Made i b n → a ≡ b
made_first h i a b m n e = cc

made_count : (h i : TypeHead) (a b m n : ℕ) → Made h a m ≡ Made i b n → m ≡ n
made_count h i a b m n e = cc

made_head : (h i : TypeHead) (a b m n : ℕ) → Made h a m ≡ Made i b n → h ≡ i
made_head h i a b m n e = cc

pub table-append : (parts more : List ℕ) (rows : List Row) → IsTable parts rows → IsTable (parts ++ more) rows
table-append parts more rows t = record {
  small = t.small;
  fits = λ i h first count e. let f = t.fits i h first count e in omega (arith, length-append parts more);
  below = λ i h first count e. subst (All (λ p. p < i)) (sym (row-append parts more first count (t.fits i h first count e)))
      (t.below i h first count e);
  right = t.right;
}

pub table-made : (parts more : List ℕ) (rows : List Row) (h : TypeHead) → IsTable parts rows → length rows + 1 < 2 ^ 32
    → All (λ p. p < length rows) more → IsRight h (length more)
    → IsTable (parts ++ more) (rows ++ Made h (length parts) (length more) ∷ [])
table-made parts more rows h t small below right = record {
  small = omega (arith, length-append rows (Made h (length parts) (length more) ∷ []));
  fits = λ i g first count e. elim (one_more rows (Made h (length parts) (length more)) (Made g first count) i e) [
    | inl f ↦ (table-append parts more rows t).fits i g first count f
    | inr f ↦ let a = made_first h g (length parts) first (length more) count f.1 in
        let b = made_count h g (length parts) first (length more) count f.1 in
        let c = length-append parts more in omega arith
  ];
  below = λ i g first count e. elim (one_more rows (Made h (length parts) (length more)) (Made g first count) i e) [
    | inl f ↦ (table-append parts more rows t).below i g first count f
    | inr f ↦ subst (λ j. All (λ p. p < j) (take count (drop first (parts ++ more)))) (sym f.0)
        (subst (λ j. All (λ p. p < length rows) (take j (drop first (parts ++ more)))) (made_count h g (length parts) first (length more) count f.1)
        (subst (λ j. All (λ p. p < length rows) (take (length more) (drop j (parts ++ more))))
        (made_first h g (length parts) first (length more) count f.1)
        (subst (All (λ p. p < length rows)) (sym (row-behind parts more)) below)))
  ];
  right = λ i g first count e. elim (one_more rows (Made h (length parts) (length more)) (Made g first count) i e) [
    | inl f ↦ t.right i g first count f
    | inr f ↦ subst (λ (j : ℕ). IsRight g j) (made_count h g (length parts) first (length more) count f.1)
        (subst (λ (j : TypeHead). IsRight j (length more)) (made_head h g (length parts) first (length more) count f.1) right)
  ];
}

-- ---- what a push leaves, whether it had memory or not

pub table-pushed : (b : Bool) (parts more whole : List ℕ) (rows longer : List Row) (h : TypeHead) (first count : ℕ) → whole ≡ parts ++ more
    → longer ≡ (if b then rows ++ Made h first count ∷ [] else rows)
    → first ≡ length parts → count ≡ length more → IsTable parts rows → length rows + 1 < 2 ^ 32 → All (λ p. p < length (grown parts [] rows)) more
    → IsRight h (length more) → IsTable whole longer
table-pushed true parts more whole rows longer h first count w l f n t small below right =
    subst (λ x. IsTable x longer) (sym w) (subst (IsTable (parts ++ more)) (sym (l ∙ ap₂ (λ a b. rows ++ Made h a b ∷ []) f n))
    (table-made parts more rows h t small (subst (λ k. All (λ p. p < k) more) (length-grown parts [] rows ∙ length_all) below) right))
  where
    length_all : 0 + length rows ≡ length rows
    length_all = omega arith
table-pushed false parts more whole rows longer h first count w l f n t small below right =
    subst (λ x. IsTable x longer) (sym w) (subst (IsTable (parts ++ more)) (sym l) (table-append parts more rows t))

pub types-pushed : (parts more whole : List ℕ) (rows longer : List Row) (h : TypeHead) (first count : ℕ) → whole ≡ parts ++ more
    → longer ≡ rows ++ Made h first count ∷ []
    → first ≡ length parts → count ≡ length more → IsTable parts rows
    → grown whole [] longer ≡ grown parts [] rows ++ made h (each (at (grown parts [] rows)) more) ∷ []
types-pushed parts more whole rows longer h first count w l f n t =
    ap₂ (λ a b. grown a [] b) w (l ∙ ap₂ (λ a b. rows ++ Made h a b ∷ []) f n)
    ∙ grown-push (parts ++ more) [] rows (Made h (length parts) (length more))
    ∙ ap₂ (λ a b. a ++ made h (each (at a) b) ∷ []) (grown-append parts more [] rows t.fits) (row-behind parts more)

pub types-kept : (parts more whole : List ℕ) (rows longer : List Row) → whole ≡ parts ++ more → longer ≡ rows → IsTable parts rows
    → grown whole [] longer ≡ grown parts [] rows
types-kept parts more whole rows longer w l t = ap₂ (λ a b. grown a [] b) w l ∙ grown-append parts more [] rows t.fits
