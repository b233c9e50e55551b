-- The types of a row in memory, and those that are still to be looked at.
use Rattle.std.specs.Prelude.{◌==◌, ◌||◌}
use Rattle.std.proofs.Common.{◌≡◌, ℕ, zero, suc, ◌+◌, ◌-◌, ◌<◌, ◌≤◌, Bool, true, false, List, [], ◌∷◌, ◌++◌, map, drop, length, slice_get, Option, Some, None, refl, sym, ap, ◌∙◌, arith, rules}
use Rattle.std.proofs.lemmas.List.{append_assoc, append-nil, length-map, reverse-append}
use Rattle.lq_base_names.specs.declared.name.Name.{Name}
use Rattle.lq_base_names.specs.declared.place.Place.{Place}
use Rattle.lq_text_tree.specs.TypeTree.{TypeTree, type_tree, TypeForm, variable, apply, product, arrow, TypeTrees, no_type_trees, more_type_trees}
use Rattle.lq_text_tree.specs.TypeView.{type_view, types_view, type_exprs_items, type_trees_of, type_node_step, type_expr_step, type_exprs_step}
use Rattle.lq_text_tree.specs.declared.type_expr.TypeExpr.{TypeExpr, out-TypeExpr}
use Rattle.lq_text_tree.specs.declared.type_expr.TypeNode.{Apply, the_lemmas}
use Rattle.lq_text_tree.specs.declared.type_expr.TypeExprs.{TypeExprs, fold_out-TypeExprs}
use Rattle.lq_text_scope.specs.Complaints.{Complaint, least_with}
use Rattle.lq_text_scope.specs.Datatypes.{Frame, count_of, of_type, of_types, of_name, of_variable}
use Rattle.lq_text_scope.specs.Known.{array_name}
use Rattle.lq_text_scope.specs.Spots.{TypeAt, type_at, own_of, parts_in, spot_view, pending, spots_in, of_spot, of_spots, size_of, size_of_all, total}
use Rattle.lq_text_scope.specs.declared.datatypes.Spot.{Spot}
use Rattle.lq_text_scope.proofs.Rows.{least_acts, past}

pub types_listed : (ts : TypeExprs) → types_view ts ≡ type_trees_of (map type_view (type_exprs_items ts))
types_listed ts = fold_out-TypeExprs TypeForm TypeTree TypeTrees type_node_step type_expr_step type_exprs_step ts

counted_list : (ts : List TypeTree) → count_of (type_trees_of ts) ≡ length ts
counted_list [] = refl
counted_list (t ∷ ts) = ap suc (counted_list ts)

pub types_count : (ts : TypeExprs) → length (type_exprs_items ts) ≡ count_of (types_view ts)
types_count ts = sym (ap count_of (types_listed ts) ∙ counted_list (map type_view (type_exprs_items ts)) ∙ length-map (type_exprs_items ts) type_view)

pub applied : (t : TypeExpr) (row : TypeExprs) (name : Name) (q : Place) → (out-TypeExpr t).node ≡ Apply row name q → type_view t ≡ type_tree (out-TypeExpr t).place (apply (types_view row) name.0 q)
applied t row name q is = let it = is in search (rules, the_lemmas)

abbrev pub typed : Bool → TypeExpr → TypeAt
typed w t = record { wrongly = w; written = type_view t }

spots_listed : (w : Bool) (ts : List TypeExpr) → spots_in w (type_trees_of (map type_view ts)) ≡ map (typed w) ts
spots_listed w [] = refl
spots_listed w (t ∷ ts) = ap (λ (l : List TypeAt). typed w t ∷ l) (spots_listed w ts)

pub row_spots : (w : Bool) (ts : TypeExprs) → map (typed w) (type_exprs_items ts) ≡ spots_in w (types_view ts)
row_spots w ts = sym (ap (spots_in w) (types_listed ts) ∙ spots_listed w (type_exprs_items ts))

pub pending_more : (ss : List Spot) (s : Spot) → pending (ss ++ s ∷ []) ≡ spot_view s ∷ pending ss
pending_more ss s = ap (map spot_view) (reverse-append ss (s ∷ []))

-- a list from one of its places on
pub drop_here : {X : Type 0} (xs : List X) (i : ℕ) (x : X) → slice_get xs i ≡ Some x → drop i xs ≡ x ∷ drop (suc i) xs
drop_here [] i x is = absurd (let e = is in cc)
drop_here (y ∷ xs) zero x is = let same : y ≡ x = cc in ap (λ z. z ∷ xs) same
drop_here (y ∷ xs) (suc i) x is = drop_here xs i x is

pub pushed_before : (w : Bool) (xs : List TypeExpr) (count at : ℕ) (x : TypeExpr) (base old new : List TypeAt) → at < count → slice_get xs (count - 1 - at) ≡ Some x
    → old ≡ map (typed w) (drop (count - at) xs) ++ base → new ≡ typed w x ∷ old → new ≡ map (typed w) (drop (count - (at + 1)) xs) ++ base
pushed_before w xs count at x base old new less is before then =
    let here : count - (at + 1) ≡ count - 1 - at = omega (arith, less) in
    let next : count - at ≡ suc (count - 1 - at) = omega (arith, less) in
    then ∙ ap (λ (l : List TypeAt). typed w x ∷ l) (before ∙ ap (λ (n : ℕ). map (typed w) (drop n xs) ++ base) next)
    ∙ sym (ap (λ (n : ℕ). map (typed w) (drop n xs) ++ base) here ∙ ap (λ (l : List TypeExpr). map (typed w) l ++ base) (drop_here xs (count - 1 - at) x is))

pub none_left : (xs : List TypeExpr) (count at : ℕ) → count ≡ length xs → at < count → slice_get xs (count - 1 - at) ≡ None → ⊥
none_left xs count at is less none = let far = past xs (count - 1 - at) none in omega (arith, is, less, far)

pub all_pushed : (w : Bool) (xs : List TypeExpr) (count at : ℕ) (base now : List TypeAt) → count ≤ at → now ≡ map (typed w) (drop (count - at) xs) ++ base → now ≡ map (typed w) xs ++ base
all_pushed w xs count at base now over is = let none : count - at ≡ 0 = omega (arith, over) in is ∙ ap (λ (n : ℕ). map (typed w) (drop n xs) ++ base) none

spots_total : (w : Bool) (ts : TypeTrees) (ss : List TypeAt) → total (spots_in w ts ++ ss) ≡ size_of_all ts + total ss
spots_total w no_type_trees ss = omega arith
spots_total w (more_type_trees t ts) ss = let more = spots_total w ts ss in omega (arith, more)

spots_whole : (r : Frame) (w : Bool) (ts : TypeTrees) → of_types r w ts ≡ of_spots r (spots_in w ts)
spots_whole r w no_type_trees = refl
spots_whole r w (more_type_trees t ts) = ap (λ (l : List Complaint). of_type r w t ++ l) (spots_whole r w ts)

own_first : (r : Frame) (w : Bool) (t : TypeTree) → of_type r w t ≡ own_of r w t ++ of_spots r (parts_in w t)
own_first r w (type_tree p (variable a)) = sym (append-nil (of_variable r w p a))
own_first r w (type_tree p (apply ts x q)) = ap (λ (l : List Complaint). of_name r w q x (count_of ts) ++ l) (spots_whole r (w || (x == array_name)) ts)
own_first r w (type_tree p (product ts)) = spots_whole r w ts
own_first r w (type_tree p (arrow a b)) = ap (λ (l : List Complaint). of_type r true a ++ l) (sym (append-nil (of_type r w b)))

spots_append : (r : Frame) (ss us : List TypeAt) → of_spots r (ss ++ us) ≡ of_spots r ss ++ of_spots r us
spots_append r [] us = refl
spots_append r (s ∷ ss) us = ap (λ (l : List Complaint). of_spot r s ++ l) (spots_append r ss us) ∙ sym (append_assoc (of_spot r s) (of_spots r ss) (of_spots r us))

-- a type that is looked at gives way to its parts
pub looked_at : (r : Frame) (best new : Option Complaint) (w : Bool) (t : TypeTree) (ss us : List TypeAt) → new ≡ least_with best (own_of r w t) → us ≡ parts_in w t ++ ss
    → least_with new (of_spots r us) ≡ least_with best (of_spots r (type_at w t ∷ ss))
looked_at r best new w t ss us is left =
    ap (λ (b : Option Complaint). least_with b (of_spots r us)) is ∙ sym (least_acts best (own_of r w t) (of_spots r us))
    ∙ ap (least_with best) (ap (λ (l : List TypeAt). own_of r w t ++ of_spots r l) left ∙ ap (λ (l : List Complaint). own_of r w t ++ l) (spots_append r (parts_in w t) ss)
    ∙ sym (append_assoc (own_of r w t) (of_spots r (parts_in w t)) (of_spots r ss)) ∙ ap (λ (l : List Complaint). l ++ of_spots r ss) (sym (own_first r w t)))

parts_total : (w : Bool) (t : TypeTree) (ss : List TypeAt) → total (parts_in w t ++ ss) < size_of t + total ss
parts_total w (type_tree p (variable a)) ss = omega arith
parts_total w (type_tree p (apply ts x q)) ss = let is = spots_total (w || (x == array_name)) ts ss in omega (arith, is)
parts_total w (type_tree p (product ts)) ss = let is = spots_total w ts ss in omega (arith, is)
parts_total w (type_tree p (arrow a b)) ss = omega arith

pub fewer : (w : Bool) (t : TypeTree) (ss us : List TypeAt) → us ≡ parts_in w t ++ ss → total us < total (type_at w t ∷ ss)
fewer w t ss us left = let less = parts_total w t ss in let same = ap total left in omega (arith, less, same)

pub fields_first : (r : Frame) (best : Option Complaint) (ts : TypeTrees) (now : List TypeAt) → now ≡ spots_in false ts ++ [] → least_with best (of_spots r now) ≡ least_with best (of_types r false ts)
fields_first r best ts now is = ap (λ (l : List TypeAt). least_with best (of_spots r l)) (is ∙ append-nil (spots_in false ts)) ∙ sym (ap (least_with best) (spots_whole r false ts))
