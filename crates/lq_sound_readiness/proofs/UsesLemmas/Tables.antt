-- A type with the types of a table in place of its variables.
use Rattle.std.specs.Prelude.{max, slice_index_or}
use Rattle.std.proofs.Common.{◌≡◌, ℕ, zero, suc, ◌<◌, ◌≤◌, List, [], ◌∷◌, length, refl, sym, ap, ap₂, ◌∙◌, arith}
use Rattle.lq_text_tree.specs.MlType as ml
use Rattle.lq_text_tree.specs.MlType.{MlType, MlTypes}
use Rattle.lq_text_tree.specs.Types.{put, put_all, type_at}
use Rattle.lq_types_table.specs.Heads.{each}
use Rattle.lq_types_table.specs.Nodes.{at}
use Rattle.lq_types_infer.specs.Annotation.Bounds.{bound_of, bound_of_all}
use Rattle.lq_sound_readiness.specs.Reading.Uses.{instance_by}
use Rattle.lq_sound_readiness.specs.Uses.Instances.{types_if}

both_below : (a b c : ℕ) → max a b ≤ c → (a ≤ c) × (b ≤ c)
both_below a b c h = (omega (arith, h), omega (arith, h))

-- what stands for variables from the bound on doesn't count
module _ (by other : ℕ → MlType) (bound : ℕ) (same : (v : ℕ) → v < bound → by v ≡ other v) where
  mutual
    put_same : (a : MlType) → bound_of a ≤ bound → put by a ≡ put other a
    put_same ml.int low = refl
    put_same ml.bool low = refl
    put_same ml.unit low = refl
    put_same (ml.var v) low = same v (omega (arith, low))
    put_same (ml.arrow a b) low =
        let both = both_below (bound_of a) (bound_of b) bound low in ap₂ ml.arrow (put_same a both.0) (put_same b both.1)
    put_same (ml.tuple ts) low = ap ml.tuple (all_same ts low)
    put_same (ml.array a) low = ap ml.array (put_same a low)
    put_same (ml.named d ts) low = ap (ml.named d) (all_same ts low)
    put_same (ml.map_of a) low = ap ml.map_of (put_same a low)

    all_same : (ts : MlTypes) → bound_of_all ts ≤ bound → put_all by ts ≡ put_all other ts
    all_same ml.no_types low = refl
    all_same (ml.more_types t ts) low =
        let both = both_below (bound_of t) (bound_of_all ts) bound low in ap₂ ml.more_types (put_same t both.0) (all_same ts both.1)

mutual
  put_itself : (a : MlType) → put ml.var a ≡ a
  put_itself ml.int = refl
  put_itself ml.bool = refl
  put_itself ml.unit = refl
  put_itself (ml.var v) = refl
  put_itself (ml.arrow a b) = ap₂ ml.arrow (put_itself a) (put_itself b)
  put_itself (ml.tuple ts) = ap ml.tuple (all_itself ts)
  put_itself (ml.array a) = ap ml.array (put_itself a)
  put_itself (ml.named d ts) = ap (ml.named d) (all_itself ts)
  put_itself (ml.map_of a) = ap ml.map_of (put_itself a)

  all_itself : (ts : MlTypes) → put_all ml.var ts ≡ ts
  all_itself ml.no_types = refl
  all_itself (ml.more_types t ts) = ap₂ ml.more_types (put_itself t) (all_itself ts)

module _ (table : List MlType) where
  each_at : (rows : List ℕ) (v : ℕ) → v < length rows → type_at (each (at table) rows) v ≡ at table (slice_index_or rows v 0)
  each_at [] v low = absurd (omega (arith, low))
  each_at (r ∷ rs) zero low = refl
  each_at (r ∷ rs) (suc v) low = each_at rs v (omega (arith, low))

  -- a number for each variable, and no argument where there is none
  pub instance_is : (rows : List ℕ) (a : MlType) → length rows ≡ bound_of a
      → put (λ v. at table (slice_index_or rows v 0)) a ≡ instance_by (types_if table rows) a
  instance_is [] a count =
      put_same (λ v. at table (slice_index_or [] v 0)) ml.var 0 (λ v low. absurd (omega (arith, low))) a (omega (arith, count)) ∙ put_itself a
  instance_is (r ∷ rs) a count =
      put_same (λ v. at table (slice_index_or (r ∷ rs) v 0)) (type_at (each (at table) (r ∷ rs))) (length (r ∷ rs))
      (λ v low. sym (each_at (r ∷ rs) v low)) a (omega (arith, count))
