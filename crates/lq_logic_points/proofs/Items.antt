-- Readings of the code in a row, one at a time.
use Rattle.std.proofs.Common.{◌≡◌, ℕ, zero, suc, ◌+◌, ◌<◌, List, [], ◌∷◌, length, map, get_or, subst, ◌∙◌, arith, rules, below_more}
use Rattle.std.proofs.lemmas.Option.{slice_get-get_or}
use Rattle.lq_logic_rows.specs.Row.{Row}
use Rattle.lq_logic_predicates.specs.declared.nnf.Nnf.{Nnf}
use Rattle.lq_logic_predicates.specs.declared.nnf.Nnfs.{Nnfs}
use Rattle.lq_logic_predicates.specs.declared.nnf.Nnf.{the_lemmas}
use Rattle.lq_logic_predicates.specs.NnfView.{nnf_view, nnfs_view, nnf_items, readings_of}
use Rattle.lq_logic_predicates.specs.Reading.{Reading, Readings, none, more}

get_or-any : {A : Type 0} (xs : List A) (i : ℕ) (d e : A) → i < length xs → get_or xs i d ≡ get_or xs i e
get_or-any xs i d e h = let p = slice_get-get_or xs i d h in let q = slice_get-get_or xs i e h in cc

-- what holds of each item below i, and of the i-th, holds of each below i + 1
pub items_more : {A : Type 0} (P : A → Type 0) (xs : List A) (i : ℕ) (x : A) → i < length xs → x ≡ get_or xs i x → ((k : ℕ) → k < i → (d : A) → P (get_or xs k d)) → P x
    → (k : ℕ) → k < i + 1 → (d : A) → P (get_or xs k d)
items_more P xs i x h e below here = below_more (λ k. (d : _) → P (get_or xs k d)) i below (λ d. subst P (e ∙ get_or-any xs i x d h) here)

-- each item has a reading, and so has the row of them
pub each_item : (P : Reading Row → Type 0) (E : Readings Row → Type 0) → E none → ((r : Reading Row) (rs : Readings Row) → P r → E rs → E (more r rs))
    → (items : List Nnf) → ((k : ℕ) → k < length items → (d : Nnf) → P (nnf_view (get_or items k d))) → E (readings_of (map nnf_view items))
each_item P E start step [] h = start
each_item P E start step (n ∷ items) h =
    step (nnf_view n) (readings_of (map nnf_view items)) (h 0 (omega arith) n)
    (each_item P E start step items (λ k w d. h (suc k) (omega (arith, w)) d))

-- one item has it
pub some_item : (P : Reading Row → Type 0) (E : Readings Row → Type 0) → ((r : Reading Row) (rs : Readings Row) → P r → E (more r rs)) → ((r : Reading Row) (rs : Readings Row) → E rs → E (more r rs))
    → (items : List Nnf) (k : ℕ) (d : Nnf) → k < length items → P (nnf_view (get_or items k d)) → E (readings_of (map nnf_view items))
some_item P E here there [] k d w h = absurd (omega (arith, w))
some_item P E here there (n ∷ items) zero d w h = here (nnf_view n) (readings_of (map nnf_view items)) h
some_item P E here there (n ∷ items) (suc k) d w h = there (nnf_view n) (readings_of (map nnf_view items)) (some_item P E here there items k d (omega (arith, w)) h)

-- what the row has, each item has
pub item_of_each : (P : Reading Row → Type 0) (E : Readings Row → Type 0) → ((r : Reading Row) (rs : Readings Row) → E (more r rs) → P r) → ((r : Reading Row) (rs : Readings Row) → E (more r rs) → E rs)
    → (items : List Nnf) (k : ℕ) (d : Nnf) → k < length items → E (readings_of (map nnf_view items)) → P (nnf_view (get_or items k d))
item_of_each P E here there [] k d w h = absurd (omega (arith, w))
item_of_each P E here there (n ∷ items) zero d w h = here (nnf_view n) (readings_of (map nnf_view items)) h
item_of_each P E here there (n ∷ items) (suc k) d w h = item_of_each P E here there items k d (omega (arith, w)) (there (nnf_view n) (readings_of (map nnf_view items)) h)

pub view_items : (nnfs : Nnfs) → nnfs_view nnfs ≡ readings_of (map nnf_view (nnf_items nnfs))
view_items nnfs = search (rules, the_lemmas)
