-- Readings of the code in a row, one at a time.
use Rattle.std.proofs.Common.{◌≡◌, ℕ, zero, suc, ◌+◌, ◌<◌, ◌≤◌, ◌⊎◌, inl, inr, Bool, true, false, IsTrue, Option, Some, None, List, [], ◌∷◌, ◌++◌, length, map, get_or, slice_get, take, refl, sym, ap, subst, arith, rules, ◌∙◌}
use Rattle.std.proofs.lemmas.List.{map-append, take-map}
use Rattle.lq_logic_rows.specs.Row.{Row, Valuation}
use Rattle.lq_logic_predicates.specs.NnfView.{nnf_items, nnf_view, nnfs_view, readings_of}
use Rattle.lq_logic_predicates.specs.Formula.{Formula}
use Rattle.lq_logic_predicates.specs.Points.{Meets, Point}
use Rattle.lq_logic_predicates.specs.Reading.{Reading, yes, no, row, flag_is, objects_are, all_of, any_of, Readings, none, more, reading_of}
use Rattle.lq_logic_predicates.specs.RowMeaning.{AgreesOn, MeetsAllRows, MeetsAnyRow, MeetsRows}
use Rattle.lq_logic_predicates.specs.Sum.{Sum}
use Rattle.lq_logic_predicates.specs.declared.nnf.Nnf.{Nnf}
use Rattle.lq_logic_predicates.specs.declared.symbol.Symbol.{Symbol}
use Rattle.lq_logic_predicates.specs.declared.nnf.Nnfs.{Nnfs}
use Rattle.lq_logic_predicates.specs.declared.nnf.Nnf.{the_lemmas}
use Rattle.lq_solve_facts.specs.Facts.Plain.{IsPlain}
use Rattle.lq_solve_facts.specs.Facts.Read.{IsReadOver, IsReading, hypothesis_reading, reading_or_never}
use Rattle.lq_solve_facts.specs.Facts.Values.{MeetsEachRow}
use Rattle.lq_solve_facts.specs.declared.facts.read.ReadPred.{ReadPred}

abbrev mutual
  pub size : Reading Row → ℕ
  size yes = 0
  size no = 0
  size (row r) = 0
  size (flag_is x sign) = 0
  size (objects_are a b sign) = 0
  size (all_of rs) = suc (size_each rs)
  size (any_of rs) = suc (size_each rs)

  pub size_each : Readings Row → ℕ
  size_each none = 0
  size_each (more r rs) = suc (size r + size_each rs)

abbrev pub row_of : List Nnf → Readings Row
row_of items = readings_of (map nnf_view items)

pub view_items : (nnfs : Nnfs) → nnfs_view nnfs ≡ row_of (nnf_items nnfs)
view_items nnfs = search (rules, the_lemmas)

pub row_seen : (r : Row) → nnf_view (Nnf.Row r) ≡ row r
row_seen r = search (rules, the_lemmas)

pub flag_seen : (x : Symbol) (b : Bool) → nnf_view (Nnf.Flag x b) ≡ flag_is x b
flag_seen x b = search (rules, the_lemmas)

pub item_smaller : (items : List Nnf) (k : ℕ) (d : Nnf) → k < length items → size (nnf_view (get_or items k d)) < size_each (row_of items)
item_smaller [] k d h = absurd (omega (arith, h))
item_smaller (n ∷ items) zero d h = omega arith
item_smaller (n ∷ items) (suc k) d h = let r = item_smaller items k d (omega (arith, h)) in omega (arith, r)

-- of readings that are all met each is met
pub item_met : (v : Valuation) (p : Point) (items : List Nnf) (k : ℕ) (d : Nnf) → k < length items → MeetsAllRows v p (row_of items) → MeetsRows v p (nnf_view (get_or items k d))
item_met v p [] k d w h = absurd (omega (arith, w))
item_met v p (n ∷ items) zero d w h = h.0
item_met v p (n ∷ items) (suc k) d w h = item_met v p items k d (omega (arith, w)) h.1

-- of readings of which one is met not each one is refuted
pub none_met : (v : Valuation) (p : Point) (items : List Nnf) → ((k : ℕ) → k < length items → (d : Nnf) → MeetsRows v p (nnf_view (get_or items k d)) → ⊥) → MeetsAnyRow v p (row_of items) → ⊥
none_met v p [] h m = absurd m
none_met v p (n ∷ items) h (inl m) = h 0 (omega arith) n m
none_met v p (n ∷ items) h (inr m) = none_met v p items (λ k w d. h (suc k) (omega (arith, w)) d) m

pub below_next : (n k : ℕ) → k < n + 1 → (k < n) ⊎ (n ≡ k)
below_next zero zero w = inr refl
below_next zero (suc k) w = absurd (omega (arith, w))
below_next (suc n) zero w = inl (omega arith)
below_next (suc n) (suc k) w = elim (below_next n k (omega (arith, w))) [ inl v ↦ inl (omega (arith, v)) | inr e ↦ inr (omega (arith, e)) ]

same_item : (items : List Nnf) (k : ℕ) (d e : Nnf) → k < length items → get_or items k d ≡ get_or items k e
same_item [] k d e w = absurd (omega (arith, w))
same_item (n ∷ items) zero d e w = refl
same_item (n ∷ items) (suc k) d e w = same_item items k d e (omega (arith, w))

-- one more of them isn't met
pub refuted_next : (v : Valuation) (p : Point) (items : List Nnf) (i : ℕ) (n : Nnf) → i < length items → n ≡ get_or items i n
    → ((k : ℕ) → k < i → (d : Nnf) → MeetsRows v p (nnf_view (get_or items k d)) → ⊥) → (MeetsRows v p (nnf_view n) → ⊥)
    → (k : ℕ) → k < i + 1 → (d : Nnf) → MeetsRows v p (nnf_view (get_or items k d)) → ⊥
refuted_next v p items i n w e h r k l d m = by (below_next i k l)
  where
    by : (k < i) ⊎ (i ≡ k) → ⊥
    by (inl u) = h k u d m
    by (inr q) =
        r (subst (λ x. MeetsRows v p (nnf_view x)) (same_item items i d n w ∙ sym e) (subst (λ j. MeetsRows v p (nnf_view (get_or items j d))) (sym q) m))

-- ---- what all or some of the readings of the code in a row meet

pub all_met : (v : Valuation) (p : Point) (items : List Nnf) → ((k : ℕ) → k < length items → (d : Nnf) → MeetsRows v p (nnf_view (get_or items k d))) → MeetsAllRows v p (row_of items)
all_met v p [] h = tt
all_met v p (n ∷ items) h = (h 0 (omega arith) n, all_met v p items (λ k w d. h (suc k) (omega (arith, w)) d))

pub some_met : (v : Valuation) (p : Point) (items : List Nnf) (k : ℕ) (d : Nnf) → k < length items → MeetsRows v p (nnf_view (get_or items k d)) → MeetsAnyRow v p (row_of items)
some_met v p [] k d w h = absurd (omega (arith, w))
some_met v p (n ∷ items) zero d w h = inl h
some_met v p (n ∷ items) (suc k) d w h = inr (some_met v p items k d (omega (arith, w)) h)

-- ---- what was read, item by item

some_is : {X : Type 0} (x y : X) → Some x ≡ Some y → x ≡ y
some_is x y e = cc

pub item_here : {X : Type 0} (xs : List X) (i : ℕ) (x : X) → i < length xs → x ≡ get_or xs i x → slice_get xs i ≡ Some x
item_here [] i x w e = absurd (omega (arith, w))
item_here (y ∷ xs) zero x w e = ap Some (sym e)
item_here (y ∷ xs) (suc i) x w e = item_here xs i x (omega (arith, w)) e

-- the readings of the first items are met
abbrev pub AreMetFirst : {X : Type 0} → Valuation → Point → ℕ → List X → (X → Reading Row) → Type 0
AreMetFirst {X} v p n items f = (k : ℕ) (x : X) → k < n → slice_get items k ≡ Some x → MeetsRows v p (f x)

pub met_next : {X : Type 0} (v : Valuation) (p : Point) (n : ℕ) (items : List X) (f : X → Reading Row) (x : X) → slice_get items n ≡ Some x → MeetsRows v p (f x)
    → AreMetFirst v p n items f → AreMetFirst v p (n + 1) items f
met_next v p n items f x here m h k y w e = by (below_next n k w)
  where
    by : (k < n) ⊎ (n ≡ k) → MeetsRows v p (f y)
    by (inl u) = h k y u e
    by (inr q) = subst (λ z. MeetsRows v p (f z)) (some_is x y (sym here ∙ ap (slice_get items) q ∙ e)) m

pub each_met : {X : Type 0} (v : Valuation) (p : Point) (n : ℕ) (items : List X) (f : X → Reading Row) → length items ≤ n → AreMetFirst v p n items f → MeetsEachRow v p (map f items)
each_met v p n [] f w h = tt
each_met v p zero (x ∷ items) f w h = absurd (omega (arith, w))
each_met v p (suc n) (x ∷ items) f w h = (h 0 x (omega arith) refl, each_met v p n items f (omega (arith, w)) (λ k y u e. h (suc k) y (omega (arith, u)) e))

pub each_split : (v : Valuation) (p : Point) (rs : List (Reading Row)) (r : Reading Row) → MeetsEachRow v p (rs ++ r ∷ []) → MeetsEachRow v p rs × MeetsRows v p r
each_split v p [] r m = (tt, m.0)
each_split v p (x ∷ rs) r m = let both = each_split v p rs r m.1 in ((m.0, both.0), both.1)

-- the readings with one more behind, and the first ones
pub with_reading : {X : Type 0} (items new : List X) (n : X) (rs : List (Reading Row)) (f : X → Reading Row) → map f items ≡ rs → new ≡ items ++ n ∷ [] → map f new ≡ rs ++ f n ∷ []
with_reading items new n rs f s e = ap (map f) e ∙ map-append f items (n ∷ []) ∙ ap (λ l. l ++ f n ∷ []) s

pub taken_readings : {X : Type 0} (n : ℕ) (items new : List X) (f : X → Reading Row) → new ≡ take n items → map f new ≡ take n (map f items)
taken_readings n items new f e = ap (map f) e ∙ sym (take-map f n items)

-- what is plain and met
pub plain_met : (v : Valuation) (p : Point) (b : Bool) (n : Nnf) (P : Type 0) → (IsTrue b → P) → MeetsRows v p (reading_or_never b (Some n)) → MeetsRows v p (nnf_view n) × P
plain_met v p true n P h m = (m, h refl)
plain_met v p false n P h m = absurd m

pub hypothesis_met : (terms : List Sum) (v : Valuation) (p : Point) (r : ReadPred) (h : Formula) → IsReadOver terms r h → AgreesOn terms v p → MeetsRows v p (hypothesis_reading r)
    → Meets p (reading_of true h) × IsPlain h
hypothesis_met terms v p r h i a = by r.is_plain r.met i.plain i.met
  where
    by : (b : Bool) (o : Option Nnf) → (IsTrue b → IsPlain h) → IsReading terms o true h → MeetsRows v p (reading_or_never b o) → Meets p (reading_of true h) × IsPlain h
    by true (Some n) plain met m = ((met v p a).0 m, plain refl)
    by true None plain met m = absurd m
    by false o plain met m = absurd m
