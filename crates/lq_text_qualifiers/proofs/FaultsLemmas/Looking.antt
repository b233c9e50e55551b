-- A subtree that is looked at gives way to its parts.
use Rattle.std.proofs.Common.{◌≡◌, ℕ, ◌+◌, ◌<◌, List, [], ◌∷◌, ◌++◌, map, Option, Some, None, refl, sym, ap, ◌∙◌, arith}
use Rattle.std.proofs.lemmas.Bool.Decides.{Decides-eqb}
use Rattle.std.proofs.lemmas.List.{append_assoc, append-nil, reverse-append}
use Rattle.lq_base_names.specs.declared.place.Place.{Place}
use Rattle.lq_text_tree.specs.PredTree.{PredTree, pred_tree, PredForm, flag, whole, use_of, placeholder, applied, qualified, arithmetic, negated, compare, not_of, and_of, or_of, iff}
use Rattle.lq_text_qualifiers.specs.Faults.Complaints.{Complaint, least_with}
use Rattle.lq_text_qualifiers.specs.Faults.Lookups.{Lookup, or_else, first_in}
use Rattle.lq_text_qualifiers.specs.Faults.Predicates.{Setting, Spot, spot, spots, spots_in, uses, used_in, used_as, form_of, place_of, of_form, of_placeholder, of_spots, taken, length_takes, is_length}
use Rattle.lq_text_qualifiers.specs.Faults.Shapes.{Shape, int, bool}
use Rattle.lq_text_qualifiers.specs.Faults.Work.{parts_in, pending, spot_view, spots_of_all, size_of_form, total}
use Rattle.lq_text_qualifiers.specs.declared.faults.predicate.Spot.{Spot as Held}
use Rattle.lq_text_qualifiers.proofs.FaultsLemmas.Lookups.{some_less}
use Rattle.lq_text_qualifiers.proofs.FaultsLemmas.Rows.{least_acts}

pub pending_more : (ss : List Held) (s : Held) → pending (ss ++ s ∷ []) ≡ spot_view s ∷ pending ss
pending_more ss s = ap (map spot_view) (reverse-append ss (s ∷ []))

one_part : (s : Setting) (a : Option Shape) (e : PredTree) → spots s a e ≡ spots_of_all s (spot a e ∷ [])
one_part s a e = sym (append-nil (spots s a e))

two_parts : (s : Setting) (a b : Option Shape) (e f : PredTree) → spots s a e ++ spots s b f ≡ spots_of_all s (spot a e ∷ spot b f ∷ [])
two_parts s a b e f = ap (λ (l : List Spot). spots s a e ++ l) (one_part s b f)

parts_first : (s : Setting) (f : PredForm) → spots_in s f ≡ spots_of_all s (parts_in s f)
parts_first s (flag b) = refl
parts_first s (whole n) = refl
parts_first s (use_of x) = refl
parts_first s (placeholder x) = refl
parts_first s (applied m e) = one_part s (taken (s.measures m)) e
parts_first s (qualified m x e) = one_part s (length_takes (is_length s.texts m x)) e
parts_first s (arithmetic o a b) = two_parts s (Some int) (Some int) a b
parts_first s (negated e) = one_part s (Some int) e
parts_first s (compare o a b) = two_parts s (Some int) (Some int) a b
parts_first s (not_of e) = one_part s (Some bool) e
parts_first s (and_of a b) = two_parts s (Some bool) (Some bool) a b
parts_first s (or_of a b) = two_parts s (Some bool) (Some bool) a b
parts_first s (iff a b) = two_parts s (Some bool) (Some bool) a b

all_append : (s : Setting) (xs ys : List Spot) → spots_of_all s (xs ++ ys) ≡ spots_of_all s xs ++ spots_of_all s ys
all_append s [] ys = refl
all_append s (x ∷ xs) ys = ap (λ (l : List Spot). spots s x.asked x.tree ++ l) (all_append s xs ys) ∙ sym (append_assoc (spots s x.asked x.tree) (spots_of_all s xs) (spots_of_all s ys))

-- the subtrees of what is left are those of a tree but for itself, and of the rest
left_over : (s : Setting) (f : PredForm) (rest left : List Spot) → left ≡ parts_in s f ++ rest → spots_of_all s left ≡ spots_in s f ++ spots_of_all s rest
left_over s f rest left is =
    ap (spots_of_all s) is ∙ all_append s (parts_in s f) rest ∙ ap (λ (l : List Spot). l ++ spots_of_all s rest) (sym (parts_first s f))

-- a placeholder that was used up to here has the shape that it has in the whole
first_shape : (x : ℕ) (a : Option Shape) (own : Option ℕ) (p : Place) (used now later all : Option Shape) → now ≡ or_else used (first_in (used_as x a) x) → all ≡ or_else now later
    → of_placeholder own p a x now ≡ of_placeholder own p a x all
first_shape x a (Some i) p used now later all is then_ = refl
first_shape x a None p used (Some g) later all is then_ = ap (of_placeholder None p a x) (sym then_)
first_shape x None None p used None later all is then_ = by_shape all
  where
    by_shape : (o : Option Shape) → of_placeholder None p None x None ≡ of_placeholder None p None x o
    by_shape None = refl
    by_shape (Some g) = refl
first_shape x (Some g) None p used None later all is then_ = absurd (by_use used is)
  where
    there : first_in (used_as x (Some g)) x ≡ Some g
    there = let same = (Decides-eqb x x).1 refl in cc

    by_use : (u : Option Shape) → None ≡ or_else u (first_in (used_as x (Some g)) x) → ⊥
    by_use None wrong = let e : None ≡ Some g = wrong ∙ there in cc
    by_use (Some h) wrong = let e = wrong in cc

-- so a subtree may be looked at with the uses up to here
same_form : (s : Setting) (now all later : Lookup Shape) (used : Lookup Shape) (p : Place) (a : Option Shape) (f : PredForm) → ((x : ℕ) → now x ≡ or_else (used x) (first_in (used_in a f) x))
    → ((x : ℕ) → or_else (now x) (later x) ≡ all x) → of_form s now p a f ≡ of_form s all p a f
same_form s now all later used p a (placeholder x) is then_ = first_shape x a s.own p (used x) (now x) (later x) (all x) (is x) (sym (then_ x))
same_form s now all later used p a (flag b) is then_ = refl
same_form s now all later used p a (whole n) is then_ = refl
same_form s now all later used p a (use_of x) is then_ = refl
same_form s now all later used p a (applied m e) is then_ = refl
same_form s now all later used p a (qualified m x e) is then_ = refl
same_form s now all later used p a (arithmetic o b c) is then_ = refl
same_form s now all later used p a (negated e) is then_ = refl
same_form s now all later used p a (compare o b c) is then_ = refl
same_form s now all later used p a (not_of e) is then_ = refl
same_form s now all later used p a (and_of b c) is then_ = refl
same_form s now all later used p a (or_of b c) is then_ = refl
same_form s now all later used p a (iff b c) is then_ = refl

-- what a walk keeps: the uses so far with those that are left are all uses, and the complaints so far with those that are left are all
abbrev pub Uses : Setting → Lookup Shape → Lookup Shape → List Spot → Type 0
Uses s all used left = (x : ℕ) → or_else (used x) (first_in (uses (spots_of_all s left)) x) ≡ all x

pub used_before : (s : Setting) (all used now : Lookup Shape) (a : Option Shape) (t : PredTree) (rest left : List Spot) → left ≡ parts_in s (form_of t) ++ rest
    → ((x : ℕ) → now x ≡ or_else (used x) (first_in (used_in a (form_of t)) x)) → Uses s all used (spot a t ∷ rest) → Uses s all now left
used_before s all used now a (pred_tree p f) rest left is more before =
    let over = left_over s f rest left is in
    λ x. ap (λ (l : List Spot). or_else (now x) (first_in (uses l) x)) over
    ∙ some_less used now (used_in a f) (uses (spots_in s f ++ spots_of_all s rest)) all more before x

pub looked_at : (s : Setting) (all used now : Lookup Shape) (best new : Option Complaint) (a : Option Shape) (t : PredTree) (rest left : List Spot) → left ≡ parts_in s (form_of t) ++ rest
    → ((x : ℕ) → now x ≡ or_else (used x) (first_in (used_in a (form_of t)) x)) → Uses s all used (spot a t ∷ rest)
    → new ≡ least_with best (of_form s now (place_of t) a (form_of t))
    → least_with new (of_spots s all (spots_of_all s left)) ≡ least_with best (of_spots s all (spots_of_all s (spot a t ∷ rest)))
looked_at s all used now best new a (pred_tree p f) rest left is more before found =
    let over = left_over s f rest left is in
    let after = used_before s all used now a (pred_tree p f) rest left is more before in
    let same = same_form s now all (first_in (uses (spots_of_all s left))) used p a f more after in
    ap (λ (b : Option Complaint). least_with b (of_spots s all (spots_of_all s left))) (found ∙ ap (least_with best) same)
    ∙ ap (λ (l : List Spot). least_with (least_with best (of_form s all p a f)) (of_spots s all l)) over
    ∙ sym (least_acts best (of_form s all p a f) (of_spots s all (spots_in s f ++ spots_of_all s rest)))

total_parts : (s : Setting) (f : PredForm) (rest : List Spot) → total (parts_in s f ++ rest) ≡ size_of_form f + total rest
total_parts s (flag b) rest = omega arith
total_parts s (whole n) rest = omega arith
total_parts s (use_of x) rest = omega arith
total_parts s (placeholder x) rest = omega arith
total_parts s (applied m e) rest = omega arith
total_parts s (qualified m x e) rest = omega arith
total_parts s (arithmetic o a b) rest = omega arith
total_parts s (negated e) rest = omega arith
total_parts s (compare o a b) rest = omega arith
total_parts s (not_of e) rest = omega arith
total_parts s (and_of a b) rest = omega arith
total_parts s (or_of a b) rest = omega arith
total_parts s (iff a b) rest = omega arith

pub fewer : (s : Setting) (a : Option Shape) (t : PredTree) (rest left : List Spot) → left ≡ parts_in s (form_of t) ++ rest → total left < total (spot a t ∷ rest)
fewer s a (pred_tree p f) rest left is = let same = ap total is in let parts = total_parts s f rest in omega (arith, same, parts)
