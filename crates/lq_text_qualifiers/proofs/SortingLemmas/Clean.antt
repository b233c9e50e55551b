-- What follows of subtrees of which there is nothing to say.
use Rattle.std.proofs.Common.{◌≡◌, ℕ, Bool, true, false, List, [], ◌∷◌, ◌++◌, Option, Some, None, refl, sym, ap, ◌∙◌, if◌then◌else◌, subst}
use Rattle.std.proofs.lemmas.Bool.Decides.{Decides-eqb}
use Rattle.std.proofs.lemmas.List.{append_assoc}
use Rattle.lq_base_names.specs.declared.place.Place.{Place}
use Rattle.lq_text_qualifiers.specs.Faults.Complaints.{Complaint, at, bad_sort}
use Rattle.lq_text_qualifiers.specs.Faults.Lookups.{Lookup, or_else, one, first_in}
use Rattle.lq_text_qualifiers.specs.Faults.Predicates as sorts
use Rattle.lq_text_qualifiers.specs.Faults.Predicates.{Spot, form_of, mismatch, of_form, of_spots, place_of, used_in, uses}
use Rattle.lq_text_qualifiers.specs.Faults.Shapes.{Shape, int, bool, array, data_of, other, is_same}
use Rattle.lq_text_qualifiers.proofs.SortingLemmas.Lookups.{first_append}

pub both_none : {X : Type 0} (xs ys : List X) → xs ++ ys ≡ [] → (xs ≡ []) × (ys ≡ [])
both_none [] ys is = (refl, is)
both_none (x ∷ xs) ys is = absurd (let e = is in cc)

pub same_shape : (a g : Shape) → is_same a g ≡ true → a ≡ g
same_shape int int is = refl
same_shape bool bool is = refl
same_shape array array is = refl
same_shape (data_of d) (data_of e) is = ap (λ (n : ℕ). data_of n) ((Decides-eqb d e).0 is)
same_shape other other is = refl
same_shape _ _ is = absurd (let e = is in cc)

pub no_mismatch : (p : Place) (a g : Shape) → mismatch p (Some a) g ≡ [] → a ≡ g
no_mismatch p a g none = by_test (is_same a g) refl none
  where
    by_test : (t : Bool) → is_same a g ≡ t → (if t then [] else at p bad_sort ∷ []) ≡ [] → a ≡ g
    by_test true is none = same_shape a g is
    by_test false is none = absurd (let e = none in cc)

-- each use has a shape
abbrev pub Covers : Lookup Shape → List (ℕ × Shape) → Type 0
Covers shapes [] = Unit {0}
Covers shapes (u ∷ us) = ((g : Shape) × (shapes u.0 ≡ Some g)) × Covers shapes us

pub covers_both : (shapes : Lookup Shape) (us vs : List (ℕ × Shape)) → Covers shapes (us ++ vs) → Covers shapes us × Covers shapes vs
covers_both shapes [] vs is = (tt, is)
covers_both shapes (u ∷ us) vs is = let more = covers_both shapes us vs is.1 in ((is.0, more.0), more.1)

some_first : (f r : Option Shape) (u : ℕ × Shape) → (g : Shape) × (or_else f (or_else (one u.0 u.1 u.0) r) ≡ Some g)
some_first (Some g) r u = (g, refl)
some_first None r u = (u.1, there)
  where
    here : one u.0 u.1 u.0 ≡ Some u.1
    here = let same = (Decides-eqb u.0 u.0).1 refl in cc

    there : or_else None (or_else (one u.0 u.1 u.0) r) ≡ Some u.1
    there = ap (λ (o : Option Shape). or_else o r) here

append_one : (xs : List (ℕ × Shape)) (u : ℕ × Shape) (us : List (ℕ × Shape)) → (xs ++ u ∷ []) ++ us ≡ xs ++ u ∷ us
append_one [] u us = refl
append_one (x ∷ xs) u us = ap (λ (l : List (ℕ × Shape)). x ∷ l) (append_one xs u us)

covers_behind : (front us : List (ℕ × Shape)) → Covers (first_in (front ++ us)) us
covers_behind front [] = tt
covers_behind front (u ∷ us) =
    let found = some_first (first_in front u.0) (first_in us u.0) u in
    ((found.0, first_append front (u ∷ us) u.0 ∙ found.1), subst (λ l. Covers (first_in l) us) (append_one front u us) (covers_behind (front ++ u ∷ []) us))

pub covers_itself : (us : List (ℕ × Shape)) → Covers (first_in us) us
covers_itself us = covers_behind [] us

spots_both : (s : sorts.Setting) (shapes : Lookup Shape) (xs ys : List Spot) → of_spots s shapes (xs ++ ys) ≡ of_spots s shapes xs ++ of_spots s shapes ys
spots_both s shapes [] ys = refl
spots_both s shapes (x ∷ xs) ys =
    ap (λ (l : List Complaint). of_form s shapes (place_of x.tree) x.asked (form_of x.tree) ++ l) (spots_both s shapes xs ys)
    ∙ sym (append_assoc (of_form s shapes (place_of x.tree) x.asked (form_of x.tree)) (of_spots s shapes xs) (of_spots s shapes ys))

uses_both : (xs ys : List Spot) → uses (xs ++ ys) ≡ uses xs ++ uses ys
uses_both [] ys = refl
uses_both (x ∷ xs) ys =
    ap (λ (l : List (ℕ × Shape)). used_in x.asked (form_of x.tree) ++ l) (uses_both xs ys)
    ∙ sym (append_assoc (used_in x.asked (form_of x.tree)) (uses xs) (uses ys))

-- there is nothing to say of these subtrees, and their placeholders have shapes
pub record Clean (s : sorts.Setting) (shapes : Lookup Shape) (l : List Spot) : Type 0 where
  pub none : of_spots s shapes l ≡ []
  pub covered : Covers shapes (uses l)

pub clean_both : (s : sorts.Setting) (shapes : Lookup Shape) (xs ys : List Spot) → Clean s shapes (xs ++ ys) → Clean s shapes xs × Clean s shapes ys
clean_both s shapes xs ys clean =
    let nones = both_none (of_spots s shapes xs) (of_spots s shapes ys) (sym (spots_both s shapes xs ys) ∙ clean.none) in
    let covers = covers_both shapes (uses xs) (uses ys) (subst (λ (l : List (ℕ × Shape)). Covers shapes l) (uses_both xs ys) clean.covered) in
    (record { none = nones.0; covered = covers.0 }, record { none = nones.1; covered = covers.1 })

-- of the first subtree, and of the others
pub clean_first : (s : sorts.Setting) (shapes : Lookup Shape) (x : Spot) (xs : List Spot) → Clean s shapes (x ∷ xs)
    → (of_form s shapes (place_of x.tree) x.asked (form_of x.tree) ≡ []) × Covers shapes (used_in x.asked (form_of x.tree)) × Clean s shapes xs
clean_first s shapes x xs clean =
    let nones = both_none (of_form s shapes (place_of x.tree) x.asked (form_of x.tree)) (of_spots s shapes xs) clean.none in
    let covers = covers_both shapes (used_in x.asked (form_of x.tree)) (uses xs) clean.covered in
    (nones.0, covers.0, record { none = nones.1; covered = covers.1 })
