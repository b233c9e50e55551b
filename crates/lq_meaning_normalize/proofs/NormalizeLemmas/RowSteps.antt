-- What goes on behind the part of a row.
use Rattle.std.proofs.Common.{◌≡◌, ℕ, Bool, true, false, List, [], ◌∷◌, ◌++◌, refl, sym, ap, ◌∙◌, append_assoc}
use Rattle.lq_base_names.specs.declared.place.Place.{Place}
use Rattle.lq_text_tree.specs.Tree.{Tree}
use Rattle.lq_text_tree.specs.TreeView.{trees_of}
use Rattle.lq_text_walk.specs.Walk.Shape as shape
use Rattle.lq_text_walk.specs.Walk.Shape.{Row}
use Rattle.lq_meaning_normal_form.specs.Outcomes.Flattening.{Let}
use Rattle.lq_meaning_normalize.specs.Pass.Forming.{Formed, FormedRow, named, with_atom, settled, formed}
use Rattle.lq_meaning_normalize.specs.Normalize.Frames.{part_of_row, parts_of_row, row_of_parts, one_part, behind_parts, after_part, row_node, after_link}

-- one part more
parts_step : (h : Row) (ls : List Let) (k : ℕ) (e : Tree) (es : List Tree)
    → parts_of_row h ls k (trees_of (e ∷ es)) ≡ with_atom (part_of_row h e (formed ls k e)) (λ ms n. parts_of_row h ms n (trees_of es))
parts_step shape.tuple ls k e es = refl
parts_step (shape.build c w) ls k e es = refl
parts_step shape.list_of ls k e es = refl
parts_step shape.chain ls k e es = refl

abbrev is_chain : Row → Bool
is_chain shape.chain = true
is_chain h = false

-- a node of parts, but for a chain
row_is : (h : Row) (i : ℕ) (p : Place) (ls : List Let) (k : ℕ) (es : List Tree) → is_chain h ≡ false → row_of_parts h i p (parts_of_row h ls k (trees_of es)) ≡ row_node h i p ls k es
row_is shape.tuple i p ls k es is_none = refl
row_is (shape.build c w) i p ls k es is_none = refl
row_is shape.list_of i p ls k es is_none = refl
row_is shape.chain i p ls k es is_none = cc

module _ (h : Row) (i : ℕ) (p : Place) where
  abbrev finished : List Tree → List Tree → FormedRow → Formed
  finished xs es R =
      row_of_parts h i p (behind_parts xs (let Q = parts_of_row h R.lets R.next (trees_of es) in record { lets = Q.lets; next = Q.next; atoms = R.atoms ++ Q.atoms }))

  abbrev the_row : List Let → ℕ → List Tree → FormedRow
  the_row ls k xs = record { lets = ls; next = k; atoms = xs }

  -- a part is done, and another one is next
  pub part_more : (xs ys : List Tree) (e d : Tree) (es ds : List Tree) (F : Formed) (ls : List Let) (k : ℕ) (x : Tree) → the_row ls k (x ∷ []) ≡ one_part (part_of_row h e F)
      → ys ≡ xs ++ x ∷ [] → es ≡ d ∷ ds → after_part h i p ys d ds (formed ls k d) ≡ after_part h i p xs e es F
  part_more xs ys e d es ds F ls k x is more next =
      let W = with_atom (part_of_row h d (formed ls k d)) (λ ms n. parts_of_row h ms n (trees_of ds)) in
      ap (λ zs. row_of_parts h i p (the_row W.lets W.next (zs ++ W.atoms))) more
      ∙ ap (λ zs. row_of_parts h i p (the_row W.lets W.next zs)) (append_assoc xs (x ∷ []) W.atoms)
      ∙ ap (λ (R : FormedRow). row_of_parts h i p (the_row R.lets R.next (xs ++ (x ∷ R.atoms)))) (sym (parts_step h ls k d ds))
      ∙ ap (finished xs (d ∷ ds)) is
      ∙ ap (λ ts. after_part h i p xs e ts F) (sym next)
