-- What all constructors of a name have, one constructor after another.
use Rattle.std.proofs.Common.{◌≡◌, ◌∙◌, ℕ, Bool, true, false, ◌==◌, cond, if◌then◌else◌, List, [], ◌∷◌, ◌++◌, length, Option, Some, None, refl, sym, ap, ap₂, append_assoc}
use Rattle.std.proofs.lemmas.Bool.{eq-eqb, eqb-true, ne_eqb}
use Rattle.std.proofs.lemmas.List.{append-nil}
use Rattle.std.proofs.lemmas.List.Elements.{filter-append}
use Rattle.std.specs.List.{AllByRecursion, IsDistinct}
use Rattle.lq_generate_fresh.specs.Fresh.Defined.{made_by, names_of}
use Rattle.lq_refined_measures.specs.Equations.Facts.{equations}
use Rattle.lq_refined_types.specs.Types.Refined.{more}
use Rattle.lq_refined_subtyping.specs.Table.Forms.{row_of}
use Rattle.lq_refined_subtyping.specs.Table.Unfolding.{all_plain, plain}
use Rattle.lq_logic_predicates.specs.Sum.{var}
use Rattle.lq_logic_predicates.specs.declared.symbol.Symbol.TheVariants.{Value}
use Rattle.lq_sound_programs.specs.Scenes.Scenes.{equations_at, positions_from}
use Rattle.lq_text_qualifiers.specs.Sorting.Sorted.{Measure}
use Rattle.lq_refined_types.specs.Subtyping.Subtype.{fields_of}
use Rattle.lq_text_tree.specs.MlType.{MlTypes, no_types, more_types}
use Rattle.lq_text_tree.specs.Signatures.{constructor_in}
use Rattle.lq_text_tree.specs.Types.{Constructor, count_types}
use Rattle.lq_generate_datatypes.specs.Equations.{equations_among, equations_of, place_among}
use Rattle.lq_generate_datatypes.specs.Views.{fields_among, plains}

abbrev Named : Type 0
Named = ℕ × Constructor

-- ---- one more

pub equations-push : (ms : List Measure) (before ks : List Named) (k : Named) (c : ℕ)
    → equations_among ms before (ks ++ k ∷ []) c
    ≡ equations_among ms before ks c ++ cond (k.0 == c) (equations_of ms k (length (made_by k.1.datatype (before ++ ks)))) []
equations-push ms before [] k c =
    append-nil (cond (k.0 == c) (equations_of ms k (length (made_by k.1.datatype before))) [])
    ∙ ap (λ l. cond (k.0 == c) (equations_of ms k (length (made_by k.1.datatype l))) []) (sym (append-nil before))
equations-push ms before (j ∷ js) k c =
    let own = cond (j.0 == c) (equations_of ms j (length (made_by j.1.datatype before))) [] in
    ap (λ l. own ++ l) (equations-push ms (before ++ j ∷ []) js k c)
    ∙ sym (append_assoc own (equations_among ms (before ++ j ∷ []) js c) _)
    ∙ ap (λ l. (own ++ equations_among ms (before ++ j ∷ []) js c) ++ cond (k.0 == c) (equations_of ms k (length (made_by k.1.datatype l))) [])
    (append_assoc before (j ∷ []) js)

pub fields-push : (ks : List Named) (k : Named) (c : ℕ) → fields_among (ks ++ k ∷ []) c ≡ fields_among ks c ++ cond (k.0 == c) (plains k.1.fields) []
fields-push [] k c = append-nil (cond (k.0 == c) (plains k.1.fields) [])
fields-push (j ∷ js) k c =
    ap (λ l. cond (j.0 == c) (plains j.1.fields) [] ++ l) (fields-push js k c) ∙ sym (append_assoc (cond (j.0 == c) (plains j.1.fields) []) (fields_among js c) _)

-- ---- where names differ

abbrev Apart : ℕ → List Named → Type 0
Apart c ks = AllByRecursion (λ y. (c == y) ≡ false) (names_of ks)

other : (k c d : ℕ) → (d == c) ≡ true → (d == k) ≡ false → (k == c) ≡ false
other k c d e h = ne_eqb k c (λ s. let t : (d == k) ≡ true = eq-eqb d k (eqb-true d c e ∙ sym s) in absurd (cc))

no-equations : (ms : List Measure) (before ks : List Named) (c d : ℕ) → (d == c) ≡ true → Apart d ks → equations_among ms before ks c ≡ []
no-equations ms before [] c d e h = refl
no-equations ms before (k ∷ ks) c d e h =
    ap₂ (λ b l. cond b (equations_of ms k (length (made_by k.1.datatype before))) [] ++ l) (other k.0 c d e h.0) (no-equations ms (before ++ k ∷ []) ks c d e h.1)

no-fields : (ks : List Named) (c d : ℕ) → (d == c) ≡ true → Apart d ks → fields_among ks c ≡ []
no-fields [] c d e h = refl
no-fields (k ∷ ks) c d e h = ap₂ (λ b l. cond b (plains k.1.fields) [] ++ l) (other k.0 c d e h.0) (no-fields ks c d e h.1)

at-place : (ms : List Measure) (p q : ℕ → ℕ) (c : ℕ) (o : Option Constructor) → p c ≡ q c → equations_at ms p c o ≡ equations_at ms q c o
at-place ms p q c None e = refl
at-place ms p q c (Some k) e = ap (λ n. equations ms k.datatype n (positions_from 0 (count_types k.fields)) (var Value)) e

-- where names differ, the one constructor of a name has what all of them have
pub equations-one : (ms : List Measure) (before ks : List Named) (c : ℕ) → IsDistinct (λ a b. a == b) (names_of ks)
    → equations_among ms before ks c ≡ equations_at ms (place_among before ks) c (constructor_in ks c)
unfolding IsDistinct
equations-one ms before [] c h = refl
equations-one ms before (k ∷ ks) c h = by (equations-one ms (before ++ k ∷ []) ks c h.1) (k.0 == c) refl
  where
    by : equations_among ms (before ++ k ∷ []) ks c ≡ equations_at ms (place_among (before ++ k ∷ []) ks) c (constructor_in ks c) → (b : Bool) → (k.0 == c) ≡ b
        → equations_among ms before (k ∷ ks) c ≡ equations_at ms (place_among before (k ∷ ks)) c (constructor_in (k ∷ ks) c)
    by r true e =
        ap₂ (λ b l. cond b (equations_of ms k (length (made_by k.1.datatype before))) [] ++ l) e (no-equations ms (before ++ k ∷ []) ks c k.0 e h.0)
        ∙ append-nil (equations_of ms k (length (made_by k.1.datatype before)))
        ∙ ap (λ b. equations ms k.1.datatype (cond b (length (made_by k.1.datatype before)) (place_among (before ++ k ∷ []) ks c)) (positions_from 0 (count_types k.1.fields)) (var Value)) (sym e)
        ∙ ap (λ b. equations_at ms (place_among before (k ∷ ks)) c (if b then Some k.1 else constructor_in ks c)) (sym e)
    by r false e =
        ap (λ b. cond b (equations_of ms k (length (made_by k.1.datatype before))) [] ++ equations_among ms (before ++ k ∷ []) ks c) e
        ∙ r
        ∙ at-place ms (place_among (before ++ k ∷ []) ks) (place_among before (k ∷ ks)) c (constructor_in ks c)
        (ap (λ b. cond b (length (made_by k.1.datatype before)) (place_among (before ++ k ∷ []) ks c)) (sym e))
        ∙ ap (λ b. equations_at ms (place_among before (k ∷ ks)) c (if b then Some k.1 else constructor_in ks c)) (sym e)

pub fields-one : (ks : List Named) (c : ℕ) → IsDistinct (λ a b. a == b) (names_of ks) → fields_among ks c ≡ plains (fields_of (constructor_in ks c))
unfolding IsDistinct
fields-one [] c h = refl
fields-one (k ∷ ks) c h = by (fields-one ks c h.1) (k.0 == c) refl
  where
    by : fields_among ks c ≡ plains (fields_of (constructor_in ks c)) → (b : Bool) → (k.0 == c) ≡ b → fields_among (k ∷ ks) c ≡ plains (fields_of (constructor_in (k ∷ ks) c))
    by r true e =
        ap₂ (λ b l. cond b (plains k.1.fields) [] ++ l) e (no-fields ks c k.0 e h.0) ∙ append-nil (plains k.1.fields)
        ∙ ap (λ b. plains (fields_of (if b then Some k.1 else constructor_in ks c))) (sym e)
    by r false e =
        ap (λ b. cond b (plains k.1.fields) [] ++ fields_among ks c) e ∙ r
        ∙ ap (λ b. plains (fields_of (if b then Some k.1 else constructor_in ks c))) (sym e)

pub row-plains : (fs : MlTypes) → row_of (plains fs) ≡ all_plain fs
row-plains no_types = refl
row-plains (more_types f fs) = ap (more (plain f)) (row-plains fs)

pub made-push : (d : ℕ) (ks : List Named) (k : Named) → made_by d (ks ++ k ∷ []) ≡ made_by d ks ++ cond (k.1.datatype == d) (k ∷ []) []
made-push d ks k = filter-append (λ j. j.1.datatype == d) ks (k ∷ []) ∙ ap (λ l. made_by d ks ++ l) (one (k.1.datatype == d))
  where
    one : (b : Bool) → (if b then k ∷ [] else []) ≡ cond b (k ∷ []) []
    one true = refl
    one false = refl
