-- Stacks of types, from which some are taken.
use Rattle.std.proofs.Common.{◌≡◌, ℕ, zero, suc, ◌+◌, List, [], ◌∷◌, ◌++◌, refl, sym, ap, ◌∙◌, arith}
use Rattle.std.proofs.lemmas.List.{append_assoc, map-append, reverse-append}
use Rattle.lq_text_tree.specs.MlType.{MlType, MlTypes}
use Rattle.lq_text_tree.specs.SimpleTypeView.{simple_type_view, simple_types_view, simple_types_items, simple_type_step, simple_types_step, types_of}
use Rattle.lq_text_tree.specs.Types.{type_at}
use Rattle.lq_text_tree.specs.declared.simple_type.SimpleType.{SimpleType}
use Rattle.lq_text_tree.specs.declared.simple_type.SimpleTypes.{SimpleTypes, fold_out-SimpleTypes}
use Rattle.lq_text_datatypes.specs.Tasks.{top, below, last_types, types_below}
use Rattle.lq_text_datatypes.specs.Views.{stack_view, types_in}

last_more : (n : ℕ) (vs : List MlType) → last_types (suc n) vs ≡ top (types_below n vs) ∷ last_types n vs
last_more zero vs = refl
last_more (suc n) vs = ap (λ (ts : List MlType). ts ++ top vs ∷ []) (last_more n (below vs))

below_more : (n : ℕ) (vs : List MlType) → types_below (suc n) vs ≡ below (types_below n vs)
below_more zero vs = refl
below_more (suc n) vs = below_more n (below vs)

pub stack_more : (front : List SimpleType) (t : SimpleType) → stack_view (front ++ t ∷ []) ≡ simple_type_view t ∷ stack_view front
stack_more front t = ap types_in (reverse-append front (t ∷ []))

-- one type more was taken
pub taken_more : (n : ℕ) (front : List SimpleType) (t : SimpleType) (vs ws : List MlType) → stack_view front ≡ last_types n vs → ws ≡ types_below n vs
    → simple_type_view t ≡ top ws → stack_view (front ++ t ∷ []) ≡ last_types (n + 1) vs
taken_more n front t vs ws before are is =
    stack_more front t ∙ ap (λ (m : MlType). m ∷ stack_view front) (is ∙ ap top are) ∙ ap (λ (ts : List MlType). top (types_below n vs) ∷ ts) before ∙ sym (last_more n vs)
    ∙ (let next : suc n ≡ n + 1 = omega arith in ap (λ (m : ℕ). last_types m vs) next)

pub left_below : (n : ℕ) (vs ws us : List MlType) → ws ≡ types_below n vs → us ≡ below ws → us ≡ types_below (n + 1) vs
left_below n vs ws us are is = is ∙ ap below are ∙ sym (below_more n vs) ∙ (let next : suc n ≡ n + 1 = omega arith in ap (λ (m : ℕ). types_below m vs) next)

-- the last of what was taken goes to the row
pub moved : (row front : List SimpleType) (t : SimpleType) (ts : List MlType) → types_in row ++ stack_view (front ++ t ∷ []) ≡ ts → types_in (row ++ t ∷ []) ++ stack_view front ≡ ts
moved row front t ts before =
    ap (λ (us : List MlType). us ++ stack_view front) (map-append simple_type_view row (t ∷ [])) ∙ append_assoc (types_in row) (simple_type_view t ∷ []) (stack_view front)
    ∙ ap (λ (us : List MlType). types_in row ++ us) (sym (stack_more front t)) ∙ before

pub first_is : (ts : List MlType) → type_at (types_of ts) 0 ≡ top ts
first_is [] = refl
first_is (t ∷ ts) = refl

pub row_seen : (ts : SimpleTypes) → simple_types_view ts ≡ types_of (types_in (simple_types_items ts))
row_seen ts = fold_out-SimpleTypes MlType MlTypes simple_type_step simple_types_step ts
