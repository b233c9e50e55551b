-- In which types of a table a variable stands, from their parts.
use Rattle.std.specs.Prelude.{◌||◌, All, slice_index_or}
use Rattle.std.specs.List.{list_any}
use Rattle.std.proofs.Common.{◌≡◌, ℕ, ◌+◌, ◌<◌, ◌++◌, map, take, Bool, true, false, List, [], ◌∷◌, length, Some, None, refl, sym, ap, ap₂, ◌∙◌, arith}
use Rattle.std.proofs.lemmas.List.{get_or-map, get_or-take, length-take-le, map-append, take_more}
use Rattle.std.proofs.lemmas.List.Elements.{All-head, All-tail}
use Rattle.lq_text_tree.specs.MlType as ml
use Rattle.lq_text_tree.specs.MlType.{MlType}
use Rattle.lq_types_table.specs.Nodes.{at}
use Rattle.lq_types_table.specs.Seen.{IsOver}
use Rattle.lq_types_rules.specs.Typings.Principal.{is_open}
use Rattle.lq_types_infer.specs.Annotation.Numbering.{variable_in}
use Rattle.lq_types_infer.proofs.InstantiationLemmas.Parts.{parts_are, open_parts, variable_is}

any_map : (types : ℕ → MlType) (ps : List ℕ) → list_any is_open (map types ps) ≡ list_any (λ p. is_open (types p)) ps
any_map types [] = refl
any_map types (p ∷ ps) = ap (λ (b : Bool). is_open (types p) || b) (any_map types ps)

module _ (f g : ℕ → Bool) (i : ℕ) (same : (p : ℕ) → p < i → f p ≡ g p) where
  any_same : (ps : List ℕ) → All (λ p. p < i) ps → list_any f ps ≡ list_any g ps
  any_same [] h = refl
  any_same (p ∷ ps) h =
      ap₂ (λ (a : Bool) (b : Bool). a || b) (same p (All-head (λ p. p < i) p ps h)) (any_same ps (All-tail (λ p. p < i) p ps h))

-- what the first types are is known
read_before : (all : List MlType) (i p : ℕ) → p < i → i < length all
    → slice_index_or (map is_open (take i all)) p false ≡ is_open (at all p)
read_before all i p low less =
    let l = length-take-le i all (omega arith) in
    get_or-map is_open (take i all) p ml.unit false (omega arith) ∙ ap is_open (get_or-take i all p ml.unit low)

pub open_by_parts : (all : List MlType) (i : ℕ) (opens : List Bool) (parts : List ℕ) → i < length all → opens ≡ map is_open (take i all)
    → IsOver all i parts → All (λ p. p < i) parts → variable_in (at all i) ≡ None
    → list_any (λ p. slice_index_or opens p false) parts ≡ is_open (at all i)
open_by_parts all i opens parts less are over_it earlier none =
    any_same (λ p. slice_index_or opens p false) (λ p. is_open (at all p)) i
    (λ p low. ap (λ (bs : List Bool). slice_index_or bs p false) are ∙ read_before all i p low less) parts earlier
    ∙ sym (any_map (at all) parts) ∙ sym (ap (list_any is_open) (parts_are all i parts over_it)) ∙ sym (open_parts (at all i) none)

pub open_variable : (a : MlType) (v : ℕ) → variable_in a ≡ Some v → is_open a ≡ true
open_variable a v h = ap is_open (variable_is a v h)

pub opens_more : (all : List MlType) (i : ℕ) (opens : List Bool) (b : Bool) → i < length all → opens ≡ map is_open (take i all)
    → b ≡ is_open (at all i) → opens ++ b ∷ [] ≡ map is_open (take (i + 1) all)
opens_more all i opens b less are is =
    ap₂ (λ (bs : List Bool) (c : Bool). bs ++ c ∷ []) are is ∙ sym (map-append is_open (take i all) (at all i ∷ []))
    ∙ ap (map is_open) (sym (take_more all i ml.unit less))
