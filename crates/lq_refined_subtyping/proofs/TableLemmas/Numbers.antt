-- Refined types whose unknowns have greater numbers: one after another, and item by item.
use Rattle.std.proofs.Common.{◌≡◌, ℕ, ◌+◌, ◌<◌, List, [], ◌∷◌, ◌++◌, get_or, length, map, take, refl, sym, ap, ap₂, ◌∙◌, arith}
use Rattle.std.proofs.lemmas.List.{map_push, take_more}
use Rattle.lq_refined_types.specs.Parts.Part.{Part, Parts, Scopes, known, unknown}
use Rattle.lq_refined_types.specs.Types.Refined.{Cell, Matrix, Refined, int_with, bool_with, unit_type, function, tuple_of, array_with, data_with, map_with, type_variable, Refineds, none, more}
use Rattle.lq_refined_types.specs.Renumbering.Renumbered.{part_renumbered, parts_renumbered, cell_renumbered, matrix_renumbered, renumbered, all_renumbered}
use Rattle.lq_refined_substitution.specs.Substitution.Views.{part_view}
use Rattle.lq_refined_substitution.specs.declared.substitution.parts.Part as item
use Rattle.lq_refined_subtyping.specs.Table.Forms.{cell_view}
use Rattle.lq_refined_subtyping.specs.declared.table.forms.Cell as entry
use Rattle.lq_refined_subtyping.specs.declared.table.changes.Change.{Change}
use Rattle.lq_refined_subtyping.specs.declared.table.changes.Change.TheVariants.{Renumbered}
use Rattle.lq_refined_subtyping.specs.Table.Changes.{changed}

-- ---- item by item

module _ (n : ℕ) where
  parts-push : (ps : Parts) (p : Part) → parts_renumbered n (ps ++ p ∷ []) ≡ parts_renumbered n ps ++ part_renumbered n p ∷ []
  parts-push [] p = refl
  parts-push (q ∷ ps) p = ap (λ l. part_renumbered n q ∷ l) (parts-push ps p)

  matrix-push : (cs : Matrix) (c : Cell) → matrix_renumbered n (cs ++ c ∷ []) ≡ matrix_renumbered n cs ++ cell_renumbered n c ∷ []
  matrix-push [] c = refl
  matrix-push (d ∷ cs) c = ap (λ l. cell_renumbered n d ∷ l) (matrix-push cs c)

  -- one more part of a list
  pub parts-more : (items : List item.Part) (i : ℕ) (x : item.Part) (before made : Parts) → i < length items → x ≡ get_or items i x
      → before ≡ parts_renumbered n (map part_view (take i items)) → made ≡ before ++ part_renumbered n (part_view x) ∷ []
      → made ≡ parts_renumbered n (map part_view (take (i + 1) items))
  parts-more items i x before made l e h m =
      m ∙ ap (λ ps. ps ++ part_renumbered n (part_view x) ∷ []) h
      ∙ sym (ap (λ is. parts_renumbered n (map part_view is)) (take_more items i x l)
      ∙ ap (parts_renumbered n) (map_push part_view (take i items) (get_or items i x))
      ∙ parts-push (map part_view (take i items)) (part_view (get_or items i x))
      ∙ ap (λ y. parts_renumbered n (map part_view (take i items)) ++ part_renumbered n (part_view y) ∷ []) (sym e))

  -- one more entry of a matrix
  pub matrix-more : (items : List entry.Cell) (i : ℕ) (x : entry.Cell) (before made : Matrix) → i < length items → x ≡ get_or items i x
      → before ≡ matrix_renumbered n (map cell_view (take i items)) → made ≡ before ++ cell_renumbered n (cell_view x) ∷ []
      → made ≡ matrix_renumbered n (map cell_view (take (i + 1) items))
  matrix-more items i x before made l e h m =
      m ∙ ap (λ cs. cs ++ cell_renumbered n (cell_view x) ∷ []) h
      ∙ sym (ap (λ is. matrix_renumbered n (map cell_view is)) (take_more items i x l)
      ∙ ap (matrix_renumbered n) (map_push cell_view (take i items) (get_or items i x))
      ∙ matrix-push (map cell_view (take i items)) (cell_view (get_or items i x))
      ∙ ap (λ y. matrix_renumbered n (map cell_view (take i items)) ++ cell_renumbered n (cell_view y) ∷ []) (sym e))

-- ---- one after another

module _ (n m : ℕ) where
  part-twice : (p : Part) → part_renumbered (n + m) p ≡ part_renumbered n (part_renumbered m p)
  part-twice (known p) = refl
  part-twice (unknown u θ) = ap (λ i. unknown i θ) (omega arith)

  parts-twice : (ps : Parts) → parts_renumbered (n + m) ps ≡ parts_renumbered n (parts_renumbered m ps)
  parts-twice [] = refl
  parts-twice (p ∷ ps) = ap₂ (λ q qs. q ∷ qs) (part-twice p) (parts-twice ps)

  cell-twice : (c : Cell) → cell_renumbered (n + m) c ≡ cell_renumbered n (cell_renumbered m c)
  cell-twice c = ap (λ p. record { constructor = c.constructor; field = c.field; parameter = c.parameter; parts = p }) (parts-twice c.parts)

  matrix-twice : (cs : Matrix) → matrix_renumbered (n + m) cs ≡ matrix_renumbered n (matrix_renumbered m cs)
  matrix-twice [] = refl
  matrix-twice (c ∷ cs) = ap₂ (λ d ds. d ∷ ds) (cell-twice c) (matrix-twice cs)

  mutual
    pub twice : (t : Refined) → renumbered (n + m) t ≡ renumbered n (renumbered m t)
    twice (int_with p) = ap int_with (parts-twice p)
    twice (bool_with p) = ap bool_with (parts-twice p)
    twice unit_type = refl
    twice (function x a b) = ap₂ (function x) (twice a) (twice b)
    twice (tuple_of ts) = ap tuple_of (all-twice ts)
    twice (array_with e p) = ap₂ array_with (twice e) (parts-twice p)
    twice (data_with d ts cs p) =
        ap (λ us. data_with d us (matrix_renumbered (n + m) cs) (parts_renumbered (n + m) p)) (all-twice ts)
        ∙ ap₂ (data_with d (all_renumbered n (all_renumbered m ts))) (matrix-twice cs) (parts-twice p)
    twice (map_with e p) = ap₂ map_with (twice e) (parts-twice p)
    twice (type_variable i) = refl

    all-twice : (ts : Refineds) → all_renumbered (n + m) ts ≡ all_renumbered n (all_renumbered m ts)
    all-twice none = refl
    all-twice (more t ts) = ap₂ more (twice t) (all-twice ts)

-- numbers that are greater by a sum, behind those that are greater by one of them
pub renumbered-behind : (d : Change) (n m k : ℕ) → d ≡ Renumbered m → k ≡ n + m → (scopes : Scopes) (all : List Refined) (t : Refined)
    → renumbered k t ≡ renumbered n (changed scopes all d t)
renumbered-behind d n m k e s scopes all t =
    ap (λ i. renumbered i t) s ∙ twice n m t ∙ ap (λ c. renumbered n (changed scopes all c t)) (sym e)
