-- A written type of which nothing is complained is covariant.
use Rattle.std.specs.Prelude.{◌||◌, ◌==◌, if◌then◌else◌}
use Rattle.std.proofs.Common.{◌≡◌, ℕ, Bool, true, false, List, [], ◌∷◌, ◌++◌, refl}
use Rattle.lq_sound_values.specs.Inhabitants.Datatypes.{AllCovariantIn, AnyVariable, CovariantIn, NoVariable}
use Rattle.lq_base_names.specs.declared.place.Place.{Place}
use Rattle.lq_text_scope.specs.Complaints.{at, unknown, not_positive}
use Rattle.lq_text_scope.specs.Datatypes.{Frame, count_of, of_form, of_name, of_type, of_types}
use Rattle.lq_text_scope.specs.Known.{array_name, has}
use Rattle.lq_text_tree.specs.Items.{Named}
use Rattle.lq_text_tree.specs.MlType as ml
use Rattle.lq_text_tree.specs.MlType.{MlTypes}
use Rattle.lq_text_tree.specs.Signatures.{all_written, written}
use Rattle.lq_text_tree.specs.TypeTree.{TypeTree, type_tree, TypeForm, variable, apply, product, arrow, TypeTrees, no_type_trees, more_type_trees}
use Rattle.lq_text_tree.specs.Types.{type_at}

pub nil_left : {X : Type 0} (xs ys : List X) → xs ++ ys ≡ [] → xs ≡ []
nil_left [] ys e = refl
nil_left (x ∷ xs) ys e = absurd (let h : x ∷ (xs ++ ys) ≡ [] = e in cc)

pub nil_right : {X : Type 0} (xs ys : List X) → xs ++ ys ≡ [] → ys ≡ []
nil_right [] ys e = e
nil_right (x ∷ xs) ys e = absurd (let h : x ∷ (xs ++ ys) ≡ [] = e in cc)

-- what may stand left of an arrow or under `array`, and elsewhere
abbrev Among : Bool → ℕ → Type 0
Among true = NoVariable
Among false = AnyVariable

first_is : (P : ℕ → Type 0) (ts : MlTypes) → AllCovariantIn P ts → CovariantIn P (type_at ts 0)
first_is P ml.no_types all = tt
first_is P (ml.more_types t ts) all = all.0

-- by which type a name is
by_name : (w b0 b1 b2 b3 b6 : Bool) (d : ℕ) (ts : MlTypes) → AllCovariantIn (Among (w || b3)) ts
    → CovariantIn (Among w) (if b0 then ml.int else if b1 then ml.bool else if b2 then ml.unit else if b3 then ml.array (type_at ts 0) else if b6 then ml.map_of (type_at ts 0) else ml.named d ts)
by_name w true b1 b2 b3 b6 d ts all = tt
by_name w false true b2 b3 b6 d ts all = tt
by_name w false false true b3 b6 d ts all = tt
by_name true false false false true b6 d ts all = first_is NoVariable ts all
by_name false false false false true b6 d ts all = first_is NoVariable ts all
by_name true false false false false true d ts all = first_is NoVariable ts all
by_name false false false false false true d ts all = first_is AnyVariable ts all
by_name true false false false false false d ts all = all
by_name false false false false false false d ts all = all

no_complaint : {X : Type 0} (b : Bool) (p : Place) (a : ℕ) → (if b then at p not_positive ∷ [] else at p (unknown a) ∷ []) ≡ [] → X
no_complaint true p a e = absurd (let h : at p not_positive ∷ [] ≡ [] = e in cc)
no_complaint false p a e = absurd (let h : at p (unknown a) ∷ [] ≡ [] = e in cc)

module _ (r : Frame) (ps : List Named) where
  mutual
    type_is : (w : Bool) (t : TypeTree) → of_type r w t ≡ [] → CovariantIn (Among w) (written ps t)
    type_is w (type_tree p f) e = form_is w p f e

    form_is : (w : Bool) (p : Place) (f : TypeForm) → of_form r w p f ≡ [] → CovariantIn (Among w) (written ps (type_tree p f))
    form_is true p (variable a) e = no_complaint (has r.parameters a) p a e
    form_is false p (variable a) e = tt
    form_is w p (product ts) e = types_are w ts e
    form_is w p (arrow a b) e =
        (type_is true a (nil_left (of_type r true a) (of_type r w b) e), type_is w b (nil_right (of_type r true a) (of_type r w b) e))
    form_is w p (apply ts x q) e =
        let inside = nil_right (of_name r w q x (count_of ts)) (of_types r (w || (x == array_name)) ts) e in
        by_name w (x == 0) (x == 1) (x == 2) (x == 3) (x == 6) x (all_written ps ts) (types_are (w || (x == 3)) ts inside)

    pub types_are : (w : Bool) (ts : TypeTrees) → of_types r w ts ≡ [] → AllCovariantIn (Among w) (all_written ps ts)
    types_are w no_type_trees e = tt
    types_are w (more_type_trees t ts) e =
        (type_is w t (nil_left (of_type r w t) (of_types r w ts) e), types_are w ts (nil_right (of_type r w t) (of_types r w ts) e))
