-- Tables whose variables get other numbers.
use Rattle.std.proofs.Common.{◌≡◌, ℕ, zero, suc, ◌<◌, ◌^◌, List, [], ◌∷◌, ◌++◌, length, take, drop, map, get_or, slice_get, Some, refl, sym, ap, ap₂}
use Rattle.std.proofs.Common.{subst, ◌∙◌}
use Rattle.std.proofs.Math.ListN.{get_or-map}
use Rattle.lq_text_tree.specs.MlType as ml
use Rattle.lq_text_tree.specs.MlType.{MlType, MlTypes}
use Rattle.lq_text_tree.specs.Types.{put, put_all, type_at}
use Rattle.lq_types_table.specs.declared.type_node.TypeHead.{TypeHead}
use Rattle.lq_types_table.specs.declared.type_node.TypeHead.TheVariants as head
use Rattle.lq_types_table.specs.declared.type_table.Row.{Row}
use Rattle.lq_types_table.specs.declared.type_table.Row.TheVariants.{Var, Made}
use Rattle.lq_types_table.specs.Heads.{made, each}
use Rattle.lq_types_table.specs.Nodes.{at, built, grown, IsTable, renamed}

put-at : (by : ℕ → MlType) (ts : MlTypes) (i : ℕ) → put by (type_at ts i) ≡ type_at (put_all by ts) i
put-at by ml.no_types i = refl
put-at by (ml.more_types t ts) zero = refl
put-at by (ml.more_types t ts) (suc i) = put-at by ts i

put-made : (by : ℕ → MlType) (h : TypeHead) (ts : MlTypes) → put by (made h ts) ≡ made h (put_all by ts)
put-made by head.Int ts = refl
put-made by head.Bool ts = refl
put-made by head.Unit ts = refl
put-made by head.Arrow ts = ap₂ ml.arrow (put-at by ts 0) (put-at by ts 1)
put-made by head.Tuple ts = refl
put-made by head.Array ts = ap ml.array (put-at by ts 0)
put-made by head.Map ts = ap ml.map_of (put-at by ts 0)
put-made by (head.Named d) ts = refl

put-each : (by : ℕ → MlType) (all : List MlType) (is : List ℕ) → put_all by (each (at all) is) ≡ each (at (map (put by) all)) is
put-each by all [] = refl
put-each by all (i ∷ is) = ap₂ ml.more_types (sym (get_or-map (put by) all i ml.unit)) (put-each by all is)

-- the variable's other number as a type
abbrev named : List ℕ → ℕ → MlType
named names v = ml.var (get_or names v v)

built-renamed : (parts names : List ℕ) (all : List MlType) (r : Row)
    → built parts (map (put (named names)) all) (renamed names r) ≡ put (named names) (built parts all r)
built-renamed parts names all (Var v) = refl
built-renamed parts names all (Made h first count) =
    sym (put-made (named names) h (each (at all) (take count (drop first parts)))
    ∙ ap (made h) (put-each (named names) all (take count (drop first parts))))

map-push : (f : MlType → MlType) (xs : List MlType) (x : MlType) → map f (xs ++ x ∷ []) ≡ map f xs ++ f x ∷ []
map-push f [] x = refl
map-push f (y ∷ xs) x = ap (λ l. f y ∷ l) (map-push f xs x)

pub grown-renamed : (parts names : List ℕ) (all : List MlType) (rs : List Row)
    → grown parts (map (put (λ v. ml.var (get_or names v v))) all) (map (renamed names) rs) ≡ map (put (λ v. ml.var (get_or names v v)))
    (grown parts all rs)
grown-renamed parts names all [] = refl
grown-renamed parts names all (r ∷ rs) =
    let new = built parts all r in
    ap (λ l. grown parts l (map (renamed names) rs)) (ap (λ t. map (put (named names)) all ++ t ∷ []) (built-renamed parts names all r)
    ∙ sym (map-push (put (named names)) all new))
    ∙ grown-renamed parts names (all ++ new ∷ []) rs

made_before : (names : List ℕ) (r : Row) (h : TypeHead) (first count : ℕ) → renamed names r ≡ Made h first count → r ≡ Made h first count
made_before names (Var v) h first count e = absurd (cc)
made_before names (Made g a n) h first count e = e

some_row : (a b : Row) → Some a ≡ Some b → a ≡ b
some_row a b e = cc

row_before : (names : List ℕ) (rs : List Row) (i : ℕ) (h : TypeHead) (first count : ℕ)
    → slice_get (map (renamed names) rs) i ≡ Some (Made h first count) → slice_get rs i ≡ Some (Made h first count)
row_before names [] i h first count e = absurd (cc)
row_before names (r ∷ rs) zero h first count e = ap Some (made_before names r h first count (some_row (renamed names r) (Made h first count) e))
row_before names (r ∷ rs) (suc i) h first count e = row_before names rs i h first count e

length-map : (names : List ℕ) (rs : List Row) → length (map (renamed names) rs) ≡ length rs
length-map names [] = refl
length-map names (r ∷ rs) = ap suc (length-map names rs)

pub table-renamed : (parts names : List ℕ) (rs : List Row) → IsTable parts rs → IsTable parts (map (renamed names) rs)
table-renamed parts names rs t = record {
  small = subst (λ n. n < 2 ^ 32) (sym (length-map names rs)) t.small;
  fits = λ i h first count e. t.fits i h first count (row_before names rs i h first count e);
  below = λ i h first count e. t.below i h first count (row_before names rs i h first count e);
  right = λ i h first count e. t.right i h first count (row_before names rs i h first count e);
}
