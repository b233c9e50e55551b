-- What is known of constructors once another one is added.
use Rattle.std.proofs.Common.{Result, Ok, Err, OnOk, ◌≡◌, ◌∙◌, ℕ, suc, ◌<◌, ◌==◌, Bool, true, false, cond, List, [], ◌∷◌, ◌++◌, All, length, map, refl, sym, ap, ap₂, subst, arith}
use Rattle.std.proofs.lemmas.List.{length-map, map-append}
use Rattle.std.proofs.lemmas.List.Elements.{All-append, All-weaker}
use Rattle.lq_generate_operations.specs.Basis.Basis.{items_at}
use Rattle.lq_generate_fresh.specs.Fresh.Defined.{made_by, names_of}
use Rattle.lq_refined_measures.specs.Equations.Facts.{equations}
use Rattle.lq_base_names.specs.declared.name.Name.{Name}
use Rattle.lq_refined_types.specs.Parts.Part.{Scopes}
use Rattle.lq_logic_predicates.specs.PredView.{formula_of}
use Rattle.lq_logic_predicates.specs.Sum.{var}
use Rattle.lq_logic_predicates.specs.declared.symbol.Symbol.TheVariants.{Value}
use Rattle.lq_refined_types.specs.Types.Refined.{Refined}
use Rattle.lq_refined_subtyping.specs.declared.table.table.Row.{Row}
use Rattle.lq_refined_subtyping.specs.Table.Forms.{at, each, row_of}
use Rattle.lq_refined_subtyping.specs.Table.Growing.{extends-there, length-grown}
use Rattle.lq_refined_subtyping.specs.Table.Rows.{grown, Extends}
use Rattle.lq_refined_subtyping.specs.Table.Unfolding.{all_plain, plain}
use Rattle.lq_sound_programs.specs.Scenes.Scenes.{positions_from}
use Rattle.lq_text_qualifiers.specs.Sorting.Sorted.{Measure}
use Rattle.lq_text_tree.specs.MlType.{MlTypes, no_types, more_types}
use Rattle.lq_text_tree.specs.Types.{Constructor, count_types}
use Rattle.lq_generate_datatypes.specs.Views.{plains, Holds}
use Rattle.lq_generate_datatypes.specs.declared.building.Building.{Building}
use Rattle.lq_generate_datatypes.proofs.Among.{equations-push, fields-push, made-push}
use Rattle.lq_generate_datatypes.proofs.Conds.{map-cond}
use Rattle.lq_generate_datatypes.proofs.Rows.{map-grown}

pub is-plains : (ts : List Refined) (fs : MlTypes) → row_of ts ≡ all_plain fs → ts ≡ plains fs
is-plains [] no_types e = refl
is-plains [] (more_types f fs) e = absurd (cc)
is-plains (t ∷ ts) no_types e = absurd (cc)
is-plains (t ∷ ts) (more_types f fs) e =
    let first : t ≡ plain f = cc in let rest : row_of ts ≡ all_plain fs = cc in ap₂ (λ u us. u ∷ us) first (is-plains ts fs rest)

pub as-many : (fs : MlTypes) → length (plains fs) ≡ count_types fs
as-many no_types = refl
as-many (more_types f fs) = ap suc (as-many fs)

module _ (ms : List Measure) (all : List Refined) (b b' : Building) (ks : List (ℕ × Constructor)) (datatype name : Name) (k : Constructor) (rows : List ℕ)
    (ns : (d : ℕ) → items_at b'.constructors.items d ≡ items_at b.constructors.items d ++ cond (datatype.0 == d) (name ∷ []) [])
    (es : (c : ℕ) → map formula_of (items_at b'.equations.items c) ≡ map formula_of (items_at b.equations.items c)
    ++ cond (name.0 == c) (equations ms datatype.0 (length (items_at b.constructors.items datatype.0)) (positions_from 0 (length rows)) (var Value)) [])
    (fs : (c : ℕ) → items_at b'.fields.items c ≡ items_at b.fields.items c ++ cond (name.0 == c) rows [])
    (q : k.datatype ≡ datatype.0) (p : each all rows ≡ all_plain k.fields) (low : All (λ r. r < length all) rows) (h : Holds ms all b ks) where
  abbrev one : ℕ × Constructor
  one = (name.0, k)

  abbrev number : Name → ℕ
  number n = n.0

  rows-are : map (at all) rows ≡ plains k.fields
  rows-are = is-plains (map (at all) rows) k.fields p

  count-is : length rows ≡ count_types k.fields
  count-is = sym (length-map rows (at all)) ∙ ap length rows-are ∙ as-many k.fields

  place-is : length (items_at b.constructors.items datatype.0) ≡ length (made_by k.datatype ks)
  place-is =
      sym (length-map (items_at b.constructors.items datatype.0) number) ∙ ap length (h.names datatype.0)
      ∙ length-map (made_by datatype.0 ks) (λ j. j.0) ∙ ap (λ d. length (made_by d ks)) (sym q)

  pub holds-more : Holds ms all b' (ks ++ one ∷ [])
  holds-more = record {
    names = λ d.
        ap (map number) (ns d) ∙ map-append number (items_at b.constructors.items d) (cond (datatype.0 == d) (name ∷ []) [])
        ∙ ap₂ (λ u v. u ++ v) (h.names d) (map-cond number (datatype.0 == d) (name ∷ []))
        ∙ ap (λ e. names_of (made_by d ks) ++ cond (e == d) (name.0 ∷ []) []) (sym q)
        ∙ ap (λ u. names_of (made_by d ks) ++ u) (sym (map-cond (λ j. j.0) (k.datatype == d) (one ∷ [])))
        ∙ sym (ap names_of (made-push d ks one) ∙ map-append (λ j. j.0) (made_by d ks) (cond (k.datatype == d) (one ∷ []) []));
    equations = λ c.
        es c
        ∙ ap₂ (λ u v. u ++ cond (name.0 == c) v []) (h.equations c)
        (ap₂ (λ d n. equations ms d n (positions_from 0 (length rows)) (var Value)) (sym q) place-is
        ∙ ap (λ n. equations ms k.datatype (length (made_by k.datatype ks)) (positions_from 0 n) (var Value)) count-is)
        ∙ sym (equations-push ms [] ks one c);
    fields = λ c.
        ap (map (at all)) (fs c) ∙ map-append (at all) (items_at b.fields.items c) (cond (name.0 == c) rows [])
        ∙ ap₂ (λ u v. u ++ v) (h.fields c) (map-cond (at all) (name.0 == c) rows ∙ ap (λ l. cond (name.0 == c) l []) rows-are)
        ∙ sym (fields-push ks one c);
    there = λ c. subst (All (λ r. r < length all)) (sym (fs c)) (All-append (λ r. r < length all) (items_at b.fields.items c) (cond (name.0 == c) rows []) (h.there c) (by (name.0 == c)));
  }
    where
      by : (e : Bool) → All (λ r. r < length all) (cond e rows [])
      by true = low
      by false = λ i d l. absurd (omega arith)

-- where the table of types grows
pub holds-grown : (ms : List Measure) (scopes : Scopes) (old new : List Row) (b : Building) (ks : List (ℕ × Constructor)) → Extends old new
    → Holds ms (grown scopes [] old) b ks → Holds ms (grown scopes [] new) b ks
holds-grown ms scopes old new b ks e h =
    let n = length-grown scopes [] old in
    let m = length-grown scopes [] new in
    let low = λ (c : ℕ). All-weaker (λ r. r < length (grown scopes [] old)) (λ r. r < length old) (λ r l. omega arith) (items_at b.fields.items c) (h.there c) in
    record {
      names = h.names;
      equations = h.equations;
      fields = λ c. map-grown scopes old new (items_at b.fields.items c) e (low c) ∙ h.fields c;
      there = λ c. All-weaker (λ r. r < length old) (λ r. r < length (grown scopes [] new))
          (λ r l. let k = extends-there old new r e l in omega arith) (items_at b.fields.items c) (low c);
    }

-- what a clause on a result gives
pub on-ok : {T E P Q : Type 0} (r : Result T E) → OnOk r P → (P → Q) → OnOk r Q
on-ok (Ok x) p f = f p
on-ok (Err e) p f = tt
