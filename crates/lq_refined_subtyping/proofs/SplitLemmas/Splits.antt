-- The implications of subtypings, one place of a row after another.
use Rattle.std.proofs.Common.{◌≡◌, ℕ, suc, ◌+◌, ◌<◌, List, [], ◌∷◌, ◌++◌, get_or, length, map, take, sym, ap, ap₂, ◌∙◌, append_assoc, arith}
use Rattle.std.proofs.lemmas.List.{append-nil, length-map, length-take-le, map_push, take_more}
use Rattle.lq_logic_predicates.specs.declared.symbol.Symbol.TheVariants.{Position}
use Rattle.lq_refined_types.specs.Types.Context.{name, Context}
use Rattle.lq_refined_types.specs.Types.Refined.{Refined, all_erased, erased}
use Rattle.lq_refined_subtyping.specs.Table.Forms.{at, each, row_of}
use Rattle.lq_refined_types.specs.Subtyping.Implication.{Implication, Origin}
use Rattle.lq_refined_types.specs.Subtyping.Splitting.{arguments, components, inside, tops}
use Rattle.lq_refined_types.specs.Subtyping.Subtype.{Setting, with_fields}

module _ (all : List Refined) (row : List ℕ) (i : ℕ) (t : Refined) (h : i < length row) (e : t ≡ at all (get_or row i 0)) where
  row-more : map (at all) (take (i + 1) row) ≡ map (at all) (take i row) ++ t ∷ []
  row-more =
      ap (map (at all)) (take_more row i 0 h) ∙ map_push (at all) (take i row) (get_or row i 0)
      ∙ ap (λ u. map (at all) (take i row) ++ u ∷ []) (sym e)

  row-length : length (map (at all) (take i row)) ≡ i
  row-length = length-map (take i row) (at all) ∙ length-take-le i row (omega arith)

module _ (P : Setting) (o : Origin) where
  -- tops in one context, and what is inside in another
  abbrev pub pair : Context → Context → Refined → Refined → List Implication
  pair Γ Δ l r = tops P o Δ l r ++ inside P o (erased r) Γ l r

  arguments-push : (Γ : Context) (ls rs : List Refined) (l r : Refined) → length ls ≡ length rs
      → arguments P o (all_erased (row_of (rs ++ r ∷ []))) Γ (row_of (ls ++ l ∷ [])) (row_of (rs ++ r ∷ []))
      ≡ arguments P o (all_erased (row_of rs)) Γ (row_of ls) (row_of rs) ++ pair Γ Γ l r
  arguments-push Γ [] [] l r e = append-nil (pair Γ Γ l r)
  arguments-push Γ [] (y ∷ rs) l r e = absurd (omega arith)
  arguments-push Γ (x ∷ ls) [] l r e = absurd (omega arith)
  arguments-push Γ (x ∷ ls) (y ∷ rs) l r e =
      ap (λ is. pair Γ Γ x y ++ is) (arguments-push Γ ls rs l r (omega arith))
      ∙ sym (append_assoc (pair Γ Γ x y) (arguments P o (all_erased (row_of rs)) Γ (row_of ls) (row_of rs)) (pair Γ Γ l r))

  components-push : (Γ Δ : Context) (k : ℕ) (ls rs : List Refined) (l r : Refined) → length ls ≡ length rs
      → components P o (all_erased (row_of (rs ++ r ∷ []))) Γ Δ k (row_of (ls ++ l ∷ [])) (row_of (rs ++ r ∷ []))
      ≡ components P o (all_erased (row_of rs)) Γ Δ k (row_of ls) (row_of rs) ++ pair Γ (with_fields k (row_of ls) Δ) l r
  components-push Γ Δ k [] [] l r e = append-nil (pair Γ Δ l r)
  components-push Γ Δ k [] (y ∷ rs) l r e = absurd (omega arith)
  components-push Γ Δ k (x ∷ ls) [] l r e = absurd (omega arith)
  components-push Γ Δ k (x ∷ ls) (y ∷ rs) l r e =
      let Θ = name (Position (suc k)) x ∷ Δ in
      ap (λ is. pair Γ Δ x y ++ is) (components-push Γ Θ (suc k) ls rs l r (omega arith))
      ∙ sym (append_assoc (pair Γ Δ x y) (components P o (all_erased (row_of rs)) Γ Θ (suc k) (row_of ls) (row_of rs))
      (pair Γ (with_fields (suc k) (row_of ls) Θ) l r))

  module _ (all : List Refined) (ls rs : List ℕ) (i : ℕ) (l r : Refined) (h : i < length ls) (j : i < length rs)
      (e : l ≡ at all (get_or ls i 0)) (f : r ≡ at all (get_or rs i 0)) where
    abbrev lefts : List Refined
    lefts = map (at all) (take i ls)

    abbrev rights : List Refined
    rights = map (at all) (take i rs)

    places : length lefts ≡ length rights
    places = row-length all ls i l h e ∙ sym (row-length all rs i r j f)

    pub arguments-more : (Γ : Context)
        → arguments P o (all_erased (each all (take i rs))) Γ (each all (take i ls)) (each all (take i rs)) ++ pair Γ Γ l r
        ≡ arguments P o (all_erased (each all (take (i + 1) rs))) Γ (each all (take (i + 1) ls)) (each all (take (i + 1) rs))
    arguments-more Γ =
        sym (ap₂ (λ xs ys. arguments P o (all_erased (row_of ys)) Γ (row_of xs) (row_of ys)) (row-more all ls i l h e) (row-more all rs i r j f)
        ∙ arguments-push Γ lefts rights l r places)

    pub components-more : (Γ : Context)
        → components P o (all_erased (each all (take i rs))) Γ Γ 0 (each all (take i ls)) (each all (take i rs))
        ++ pair Γ (with_fields 0 (each all (take i ls)) Γ) l r
        ≡ components P o (all_erased (each all (take (i + 1) rs))) Γ Γ 0 (each all (take (i + 1) ls)) (each all (take (i + 1) rs))
    components-more Γ =
        sym (ap₂ (λ xs ys. components P o (all_erased (row_of ys)) Γ Γ 0 (row_of xs) (row_of ys)) (row-more all ls i l h e) (row-more all rs i r j f)
        ∙ components-push Γ Γ 0 lefts rights l r places)
