-- Fields that stand as types with variables are those of the unfolding.
use Rattle.std.proofs.Common.{◌≡◌, ℕ, All, suc, ◌+◌, cond, List, [], ◌∷◌, ◌++◌, None, length, map, refl, sym, ap, ap₂, ◌∙◌, ◌<◌, ◌≤◌, drop, get_or, add-one, append_assoc, drop-cons}
use Rattle.std.proofs.lemmas.List.{append-nil, drop_all, length-map}
use Rattle.lq_refined_types.specs.Parts.Part.{Scopes}
use Rattle.lq_refined_types.specs.Types.Operations.{instantiated, all_instantiated}
use Rattle.lq_refined_types.specs.Types.Refined.{Refined, int_with, bool_with, unit_type, function, tuple_of, array_with, data_with, map_with, type_variable, Refineds, more, count, strengthened}
use Rattle.lq_refined_types.specs.Types.Unfolding.{bare, all_bare, is_again, pushed, unfolded_from}
use Rattle.lq_refined_substitution.specs.Substitution.Views.{subst_view}
use Rattle.lq_text_tree.specs.MlType as ml
use Rattle.lq_text_tree.specs.MlType.{MlType, MlTypes}
use Rattle.lq_refined_subtyping.specs.declared.table.unfolding.Field.{Field}
use Rattle.lq_refined_subtyping.specs.declared.table.unfolding.Unfolded.{Unfolded}
use Rattle.lq_refined_subtyping.specs.Table.Forms.{at, each, matrix_view, row_of}
use Rattle.lq_refined_subtyping.specs.declared.table.table.Row.{Row}
use Rattle.lq_refined_subtyping.specs.Table.Growing.{extends-at}
use Rattle.lq_refined_subtyping.specs.Table.Rows.{grown, Extends}
use Rattle.lq_refined_subtyping.proofs.TableLemmas.Entries.{map-grown}
use Rattle.lq_refined_subtyping.specs.Table.Unfolding.{plain, all_plain, AreFields, field_type, numbered_from, pushed_type}

module _ (by : Refineds) where
  mutual
    pub plain-bare : (f : MlType) → instantiated by (plain f) ≡ bare by f
    plain-bare ml.int = refl
    plain-bare ml.bool = refl
    plain-bare ml.unit = refl
    plain-bare (ml.var i) = refl
    plain-bare (ml.arrow a b) = ap₂ (function None) (plain-bare a) (plain-bare b)
    plain-bare (ml.tuple ts) = ap tuple_of (all_plain-bare ts)
    plain-bare (ml.array a) = ap (λ t. array_with t []) (plain-bare a)
    plain-bare (ml.named d ts) = ap (λ us. data_with d us [] []) (all_plain-bare ts)
    plain-bare (ml.map_of a) = ap (λ t. map_with t []) (plain-bare a)

    all_plain-bare : (fs : MlTypes) → all_instantiated by (all_plain fs) ≡ all_bare by fs
    all_plain-bare ml.no_types = refl
    all_plain-bare (ml.more_types f fs) = ap₂ more (plain-bare f) (all_plain-bare fs)

count-row : (ts : List Refined) → count (row_of ts) ≡ length ts
count-row [] = refl
count-row (t ∷ ts) = ap suc (count-row ts)

count-each : (all : List Refined) (is : List ℕ) → count (each all is) ≡ length is
count-each all is = count-row (map (at all) is) ∙ length-map is (at all)

module _ (scopes : Scopes) (u : Unfolded) (all : List Refined) (c : ℕ) where
  pub fields-unfolded : (j : ℕ) (xs : List Field) (fs : MlTypes) → AreFields all u.name.0 (length u.arguments.now) xs fs
      → row_of (numbered_from (field_type scopes u all c) j xs)
      ≡ unfolded_from scopes (subst_view u.by.now) u.name.0 (each all u.arguments.now) (matrix_view u.matrix.now) c j fs
  fields-unfolded j [] ml.no_types h = refl
  fields-unfolded j [] (ml.more_types f fs) h = absurd h
  fields-unfolded j (x ∷ xs) ml.no_types h = absurd h
  fields-unfolded j (x ∷ xs) (ml.more_types f fs) h =
      let ts = each all u.arguments.now in
      ap₂ more
      (ap₂ (λ b t. cond b (data_with u.name.0 (pushed scopes (subst_view u.by.now) (matrix_view u.matrix.now) c j 0 ts) (matrix_view u.matrix.now) []) t)
      (h.1 ∙ ap (λ n. is_again u.name.0 n f) (sym (count-each all u.arguments.now)))
      (ap (instantiated ts) h.0 ∙ plain-bare ts f))
      (fields-unfolded (suc j) xs fs h.2)

module _ (scopes : Scopes) (u : Unfolded) (all : List Refined) (c j : ℕ) where
  pub arguments-pushed : (i : ℕ) (ps : List ℕ)
      → row_of (numbered_from (pushed_type scopes u all c j) i ps) ≡ pushed scopes (subst_view u.by.now) (matrix_view u.matrix.now) c j i (each all ps)
  arguments-pushed i [] = refl
  arguments-pushed i (p ∷ ps) = ap (more (pushed_type scopes u all c j i p)) (arguments-pushed (suc i) ps)

-- ---- one after another

module _ {A : Type 0} (F : ℕ → A → Refined) where
  next-number : (k : ℕ) (xs : List A) → numbered_from F (suc k) xs ≡ numbered_from F (k + 1) xs
  next-number k xs = ap (λ n. numbered_from F n xs) (sym (add-one k))

  pub numbered-step : (done longer whole : List Refined) (xs : List A) (k n : ℕ) (t : Refined) (d : A) → n ≡ k → k < length xs
      → done ++ numbered_from F k (drop k xs) ≡ whole → longer ≡ done ++ t ∷ [] → t ≡ F n (get_or xs k d)
      → longer ++ numbered_from F (k + 1) (drop (k + 1) xs) ≡ whole
  numbered-step done longer whole xs k n t d same l h e v =
      ap₂ (λ a b. a ++ b) (e ∙ ap (λ y. done ++ y ∷ []) (v ∙ ap (λ m. F m (get_or xs k d)) same))
      (sym (next-number k (drop (k + 1) xs)) ∙ ap (λ m. numbered_from F (suc k) (drop m xs)) (add-one k))
      ∙ append_assoc done (F k (get_or xs k d) ∷ []) (numbered_from F (suc k) (drop (suc k) xs))
      ∙ ap (λ l. done ++ numbered_from F k l) (sym (drop-cons xs k d l)) ∙ h

  pub numbered-end : (done whole : List Refined) (xs : List A) (k : ℕ) → length xs ≤ k → done ++ numbered_from F k (drop k xs) ≡ whole → done ≡ whole
  numbered-end done whole xs k l h = sym (append-nil done) ∙ ap (λ m. done ++ numbered_from F k m) (sym (drop_all k xs l)) ∙ h

-- a field's type stays where the table grows
pub field_type-grown : (scopes : Scopes) (u : Unfolded) (old new : List Row) (c j : ℕ) (x : Field) → Extends old new
    → All (λ p. p < length old) u.arguments.now → x.plain < length old
    → field_type scopes u (grown scopes [] new) c j x ≡ field_type scopes u (grown scopes [] old) c j x
field_type-grown scopes u old new c j x e h l =
    let θ = subst_view u.by.now in
    let m = matrix_view u.matrix.now in
    ap₂ (λ ts t. cond x.is_again (data_with u.name.0 (pushed scopes θ m c j 0 ts) m []) (instantiated ts t))
    (ap row_of (map-grown scopes old new u.arguments.now e h)) (extends-at scopes old new x.plain e l)
