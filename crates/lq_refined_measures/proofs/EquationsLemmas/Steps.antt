-- Equations of a loop after one measure more.
use Rattle.std.proofs.Common.{◌≡◌, Option, Some, None, ℕ, ◌+◌, ◌<◌, length, take, get_or, List, [], ◌∷◌, ◌++◌, map, Bool, true, false, ◌==◌, if◌then◌else◌, refl, sym, ap, ◌∙◌}
use Rattle.std.specs.List.{flat_map}
use Rattle.std.proofs.lemmas.List.{append-nil, map-append, take_more}
use Rattle.std.proofs.lemmas.List.Elements.{filter-append}
use Rattle.std.proofs.lemmas.Grind.{flat_map-append}
use Rattle.lq_base_names.specs.declared.operation.CompareOp.TheVariants.{Eq}
use Rattle.lq_logic_predicates.specs.Formula.{Formula, compare}
use Rattle.lq_logic_predicates.specs.PredView.{formula_of}
use Rattle.lq_logic_predicates.specs.Sum.{Sum, measure}
use Rattle.lq_logic_predicates.specs.declared.pred.Pred.{Pred}
use Rattle.lq_text_qualifiers.specs.Sorting.Sorted.{Measure, Term}
use Rattle.lq_text_qualifiers.specs.Sorting.Views.{measure_view}
use Rattle.lq_text_qualifiers.specs.declared.sorting.sorted.ScopedMeasure.{ScopedMeasure}
use Rattle.lq_refined_measures.specs.Equations.Facts.{equation_of, measure_name, measures_of, with_fields}
use Rattle.lq_refined_measures.specs.Equations.Views.{name_of}

pub facts-step : (f : Measure → List Formula) (ms : List Measure) (m : Measure) (d : ℕ) (b : Bool) (now new : List Formula) → m.datatype == d ≡ b
    → now ≡ flat_map f (measures_of ms d) → new ≡ (if b then now ++ f m else now) → new ≡ flat_map f (measures_of (ms ++ m ∷ []) d)
facts-step f ms m d b now new same inv is =
    is ∙ by b ∙ ap (λ (c : Bool). flat_map f (measures_of ms d) ++ flat_map f (if c then m ∷ [] else [])) (sym same)
    ∙ sym (ap (flat_map f) (filter-append (λ (k : Measure). k.datatype == d) ms (m ∷ [])) ∙ flat_map-append f (measures_of ms d) (measures_of (m ∷ []) d))
  where
    by : (b : Bool) → (if b then now ++ f m else now) ≡ flat_map f (measures_of ms d) ++ flat_map f (if b then m ∷ [] else [])
    by true = ap (λ (l : List Formula). l ++ f m) inv ∙ ap (λ (l : List Formula). flat_map f (measures_of ms d) ++ l) (sym (append-nil (f m)))
    by false = inv ∙ sym (append-nil (flat_map f (measures_of ms d)))

pub names-seen : (ms : List ScopedMeasure) → map measure_name (map measure_view ms) ≡ map name_of ms
names-seen [] = refl
names-seen (m ∷ ms) = ap (λ (l : List ℕ). name_of m ∷ l) (names-seen ms)

pub seen-more : {X Y : Type 0} (view : X → Y) (xs : List X) (i : ℕ) (x d : X) → i < length xs → x ≡ get_or xs i d → map view (take (i + 1) xs) ≡ map view (take i xs) ++ view x ∷ []
seen-more {X} {Y} view xs i x d less is =
    ap (map view) (take_more xs i d less) ∙ map-append view (take i xs) (get_or xs i d ∷ []) ∙ ap (λ (y : X). map view (take i xs) ++ view y ∷ []) (sym is)

-- one equation more, where the measure has a term
pub equation-put : (ms : List ℕ) (xs : List Sum) (v : Sum) (f : ℕ) (o : Option Term) (t : Term) (before after : List Pred) (p : Pred) → o ≡ Some t → after ≡ before ++ p ∷ []
    → formula_of p ≡ compare Eq (measure (record { 0 = f }) v) (with_fields ms xs t) → map formula_of after ≡ map formula_of before ++ equation_of ms xs v f o
equation-put ms xs v f o t before after p found put is =
    ap (map formula_of) put ∙ map-append formula_of before (p ∷ []) ∙ ap (λ (q : Formula). map formula_of before ++ q ∷ []) is
    ∙ ap (λ (r : Option Term). map formula_of before ++ equation_of ms xs v f r) (sym found)

pub equation-none : (ms : List ℕ) (xs : List Sum) (v : Sum) (f : ℕ) (o : Option Term) (before : List Pred) → o ≡ None → map formula_of before ≡ map formula_of before ++ equation_of ms xs v f o
equation-none ms xs v f o before none =
    sym (append-nil (map formula_of before)) ∙ ap (λ (r : Option Term). map formula_of before ++ equation_of ms xs v f r) (sym none)
