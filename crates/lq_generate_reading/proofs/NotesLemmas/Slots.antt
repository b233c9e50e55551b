-- What is read of rows of numbers.
use Rattle.std.proofs.Common.{◌≡◌, ℕ, zero, suc, ◌+◌, ◌<◌, ◌⊎◌, inl, inr, List, [], ◌∷◌, ◌++◌, length, map, take, drop, slice_get, slice_index_or, Option, Some, None, refl, sym, ap, ap₂, ◌∙◌, arith}
use Rattle.std.proofs.lemmas.List.{get_or_append_left, get_or_push, length-append, map_push, take_more}
use Rattle.std.proofs.lemmas.List.Elements.{All-push}
use Rattle.std.proofs.lemmas.Option.{get_or_from_slice_get, slice_get-get_or, slice_get_within}
use Rattle.std.proofs.lemmas.Bool.{cases_eq}
use Rattle.lq_types_infer.specs.Annotation.Whole.{table_of, types_of}
use Rattle.lq_types_infer.specs.declared.annotation.annotated.Annotated.{Annotated}
use Rattle.lq_types_infer.specs.Instantiation.Instances.{rows_of}
use Rattle.lq_base_names.specs.declared.name.Name.{Name}
use Rattle.lq_text_walk.specs.Scoped.Views.{source_view}
use Rattle.lq_text_tree.specs.MlType as ml
use Rattle.lq_text_tree.specs.MlType.{MlType}
use Rattle.lq_types_table.specs.Heads.{each}
use Rattle.lq_types_table.specs.Nodes.{at}
use Rattle.lq_generate_reading.specs.Visibility.Notes.{between, text_if, type_if, types_if_any}
use Rattle.lq_generate_reading.specs.SourceNames.Texts.{text_in}
use Rattle.lq_generate_reading.specs.Notes.Slots.{HasSlots}

-- one slot more
pub one_slot : (a : Annotated) (k : ℕ) (slots : List ℕ) (r : ℕ) → HasSlots a k slots → r < length (table_of a) → at (table_of a) r ≡ types_of a k
    → HasSlots a (k + 1) (slots ++ r ∷ [])
one_slot a k slots r h low is = record {
  long = let l = h.long in let n = length-append slots (r ∷ []) in omega (arith, l, n);
  inside = All-push (λ r. r < length (table_of a)) slots r h.inside low;
  types = λ i less. at_either i less (cases_eq i k);
}
  where
    at_either : (i : ℕ) → i < k + 1 → (i ≡ k) ⊎ (i ≡ k → ⊥) → at (table_of a) (slice_index_or (slots ++ r ∷ []) i 0) ≡ types_of a i
    at_either i less (inl same) =
        let l = h.long in
        ap (at (table_of a)) (get_or_push slots r 0 i (omega (arith, same, l))) ∙ is ∙ ap (types_of a) (sym same)
    at_either i less (inr other) =
        let l = h.long in
        let low : i < k = omega (arith, less, other) in
        ap (at (table_of a)) (get_or_append_left slots (r ∷ []) 0 i (omega (arith, low, l))) ∙ h.types i low

pub type_there : (all : List MlType) (slots : List ℕ) (k : ℕ) → k < length slots
    → type_if all (slice_get slots k) ≡ at all (slice_index_or slots k 0)
type_there all slots k h = ap (type_if all) (slice_get-get_or slots k 0 h)

pub behind : (xs : List ℕ) (n k : ℕ) → slice_get (drop n xs) k ≡ slice_get xs (n + k)
behind xs zero k = let same : k ≡ 0 + k = omega arith in ap (slice_get xs) same
behind [] (suc n) k = refl
behind (x ∷ xs) (suc n) k = let same : suc (n + k) ≡ suc n + k = omega arith in behind xs n k ∙ ap (slice_get (x ∷ xs)) same

-- the type unit behind others changes none
pub at_with_unit : (all : List MlType) (i : ℕ) → at (all ++ ml.unit ∷ []) i ≡ at all i
at_with_unit [] zero = refl
at_with_unit [] (suc i) = refl
at_with_unit (t ∷ all) zero = refl
at_with_unit (t ∷ all) (suc i) = at_with_unit all i

each_with_unit : (all : List MlType) (rows : List ℕ) → each (at (all ++ ml.unit ∷ [])) rows ≡ each (at all) rows
each_with_unit all [] = refl
each_with_unit all (r ∷ rows) = ap₂ ml.more_types (at_with_unit all r) (each_with_unit all rows)

pub any_with_unit : (all : List MlType) (rows : List ℕ) → types_if_any (all ++ ml.unit ∷ []) rows ≡ types_if_any all rows
any_with_unit all [] = refl
any_with_unit all (r ∷ rows) = ap Some (each_with_unit all (r ∷ rows))

-- the part of a node
pub part_there : (rows starts : List ℕ) (k : ℕ) → suc k < length starts
    → between rows (slice_get starts k) (slice_get starts (k + 1)) ≡ rows_of rows starts k
part_there rows starts k h =
    let next : k + 1 ≡ suc k = omega arith in
    ap₂ (between rows) (slice_get-get_or starts k 0 (omega (arith, h))) (ap (slice_get starts) next ∙ slice_get-get_or starts (suc k) 0 h)

-- the source names
pub text_there : (texts : List (Option Name)) (x : ℕ) → text_if (slice_get texts x) ≡ text_in (map source_view texts) x
text_there [] x = refl
text_there (None ∷ texts) zero = refl
text_there (Some t ∷ texts) zero = refl
text_there (t ∷ texts) (suc x) = text_there texts x

-- one source name more
pub one_source : (sources : List (Option ℕ)) (texts : List (Option Name)) (s : Option Name) (k : ℕ) → map source_view texts ≡ take k sources
    → slice_get sources k ≡ Some (source_view s) → map source_view (texts ++ s ∷ []) ≡ take (k + 1) sources
one_source sources texts s k front is =
    map_push source_view texts s ∙ ap (λ (l : List (Option ℕ)). l ++ source_view s ∷ []) front
    ∙ ap (λ (o : Option ℕ). take k sources ++ o ∷ []) (sym (get_or_from_slice_get sources k (source_view s) None is))
    ∙ sym (take_more sources k None (slice_get_within sources k (source_view s) is))
