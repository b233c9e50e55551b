-- A template from another number on, in another scope, is the same, renumbered and completed.
use Rattle.std.proofs.Common.{◌≡◌, ◌∙◌, ℕ, suc, ◌+◌, arith, List, [], ◌∷◌, ◌++◌, length, Option, refl, sym, ap}
use Rattle.lq_refined_instances.specs.Scopes.{Scope}
use Rattle.lq_refined_types.specs.Parts.Part.{Parts}
use Rattle.lq_logic_predicates.specs.declared.symbol.Symbol.TheVariants.{Position}
use Rattle.lq_refined_types.specs.Types.Refined.{Refined, int_with, bool_with, unit_type, function, tuple_of, array_with, data_with, map_with, type_variable, more, with_top}
use Rattle.lq_refined_types.specs.Renumbering.Renumbered.{all_renumbered, parts_renumbered, renumbered}
use Rattle.lq_refined_copies.specs.Completed.{all_completed, completed, mark}
use Rattle.lq_text_qualifiers.specs.Faults.Shapes.{Shape, int, bool, array, data_of, other, shape_of}
use Rattle.lq_generate_fresh.proofs.CopiesLemmas.Cells as cells
use Rattle.lq_generate_fresh.proofs.CopiesLemmas.Cells.{both_completed, constructors_copied, next_number}
use Rattle.lq_generate_fresh.proofs.CopiesLemmas.Scopes.{Stands, stands_alone, stands_completed, stands_with_argument, stands_with_symbol}
use Rattle.lq_refined_templates.specs.Templates.Cells.{Cells, constructor_cells, one_unknown}
use Rattle.lq_refined_templates.specs.Templates.Fresh.{Made, AllMade, arguments, components, first_name, fresh, inside, later_names, topped}
use Rattle.lq_refined_templates.specs.Templates.Scopes.{Unknown, with_argument, with_position, with_symbol}
use Rattle.lq_text_tree.specs.MlType as ml
use Rattle.lq_text_tree.specs.MlType.{MlType, MlTypes}
use Rattle.lq_text_tree.specs.Types.{Signature}

-- the first is the second, renumbered by n and completed by Γ
pub record IsCopy (n : ℕ) (Γ : Scope) (a b : Made) : Type 0 where
  pub type : a.type ≡ renumbered n b.type
  pub unknowns : a.unknowns ≡ all_completed Γ b.unknowns

record AreCopies (n : ℕ) (Γ : Scope) (a b : AllMade) : Type 0 where
  pub types : a.types ≡ all_renumbered n b.types
  pub unknowns : a.unknowns ≡ all_completed Γ b.unknowns

-- ---- tops

with_top_renumbered : (n : ℕ) (q : Parts) (t : Refined) → renumbered n (with_top q t) ≡ with_top (parts_renumbered n q) (renumbered n t)
with_top_renumbered n q (int_with p) = refl
with_top_renumbered n q (bool_with p) = refl
with_top_renumbered n q unit_type = refl
with_top_renumbered n q (function x a b) = refl
with_top_renumbered n q (tuple_of ts) = refl
with_top_renumbered n q (array_with e p) = refl
with_top_renumbered n q (data_with d ts m p) = refl
with_top_renumbered n q (map_with e p) = refl
with_top_renumbered n q (type_variable i) = refl

-- the unknown at the top has the number behind those inside
top_copied : (n p k : ℕ) (Γ : Scope) (a b : Made) → p ≡ n + k → IsCopy n Γ a b
    → with_top (one_unknown (p + length a.unknowns)) a.type ≡ renumbered n (with_top (one_unknown (k + length b.unknowns)) b.type)
top_copied n p k Γ a b e h =
    let f : p + length a.unknowns ≡ n + (k + length b.unknowns) = next_number n p k Γ a.unknowns b.unknowns e h.unknowns in
    let t : a.type ≡ renumbered n b.type = h.type in
    let i : renumbered n (with_top (one_unknown (k + length b.unknowns)) b.type) ≡ with_top (one_unknown (n + (k + length b.unknowns))) (renumbered n b.type) =
    with_top_renumbered n (one_unknown (k + length b.unknowns)) b.type in
    ap (λ u. with_top (one_unknown u) a.type) f ∙ (ap (with_top (one_unknown (n + (k + length b.unknowns)))) t ∙ sym i)

last_copied : (Γ A B : Scope) (s : Shape) (us vs : List Unknown) → Stands Γ A B → us ≡ all_completed Γ vs → us ++ (A, s) ∷ [] ≡ all_completed Γ (vs ++ (B, s) ∷ [])
last_copied Γ A B s us vs h e =
    let f : A ≡ completed Γ B = stands_completed Γ A B h in both_completed Γ us ((A, s) ∷ []) vs ((B, s) ∷ []) e (ap (λ Δ. (Δ, s) ∷ []) f)

topped_copied : (n p k : ℕ) (Γ A B : Scope) (s : Shape) (a b : Made) → p ≡ n + k → Stands Γ A B → IsCopy n Γ a b → IsCopy n Γ (topped p A s a) (topped k B s b)
topped_copied n p k Γ A B int a b e w h = record { type = top_copied n p k Γ a b e h; unknowns = last_copied Γ A B int a.unknowns b.unknowns w h.unknowns }
topped_copied n p k Γ A B bool a b e w h = record { type = top_copied n p k Γ a b e h; unknowns = last_copied Γ A B bool a.unknowns b.unknowns w h.unknowns }
topped_copied n p k Γ A B array a b e w h = record { type = top_copied n p k Γ a b e h; unknowns = last_copied Γ A B array a.unknowns b.unknowns w h.unknowns }
topped_copied n p k Γ A B (data_of d) a b e w h = record { type = top_copied n p k Γ a b e h; unknowns = last_copied Γ A B (data_of d) a.unknowns b.unknowns w h.unknowns }
topped_copied n p k Γ A B other a b e w h = h

-- ---- types

module _ (g : Signature) (constructors : ℕ → List ℕ) (n : ℕ) (Γ : Scope) where
  mutual
    inside_copied : (p k : ℕ) (A B : Scope) (xs : List (Option ℕ)) (t : MlType) → p ≡ n + k → Stands Γ A B → IsCopy n Γ (inside g constructors p A xs t) (inside g constructors k B xs t)
    inside_copied p k A B xs ml.int e w = record { type = refl; unknowns = refl }
    inside_copied p k A B xs ml.bool e w = record { type = refl; unknowns = refl }
    inside_copied p k A B xs ml.unit e w = record { type = refl; unknowns = refl }
    inside_copied p k A B xs (ml.var i) e w = record { type = refl; unknowns = refl }
    inside_copied p k A B xs (ml.arrow a b) e w =
        let x : Option ℕ = first_name xs in
        let s : Made = topped p A (shape_of a) (inside g constructors p A [] a) in
        let r : Made = topped k B (shape_of a) (inside g constructors k B [] a) in
        let h : IsCopy n Γ s r = topped_copied n p k Γ A B (shape_of a) (inside g constructors p A [] a) (inside g constructors k B [] a) e w (inside_copied p k A B [] a e w) in
        let q : ℕ = p + length s.unknowns in
        let l : ℕ = k + length r.unknowns in
        let f : q ≡ n + l = next_number n p k Γ s.unknowns r.unknowns e h.unknowns in
        let C : Scope = with_argument x (shape_of a) A in
        let D : Scope = with_argument x (shape_of a) B in
        let v : Stands Γ C D = stands_with_argument Γ A B x (shape_of a) w in
        let t : Made = topped q C (shape_of b) (inside g constructors q C (later_names xs) b) in
        let u : Made = topped l D (shape_of b) (inside g constructors l D (later_names xs) b) in
        let i : IsCopy n Γ t u = topped_copied n q l Γ C D (shape_of b) (inside g constructors q C (later_names xs) b) (inside g constructors l D (later_names xs) b) f v (inside_copied q l C D (later_names xs) b f v) in
        record { type = ap (λ y. function x y t.type) h.type ∙ ap (function x (renumbered n r.type)) i.type; unknowns = both_completed Γ s.unknowns t.unknowns r.unknowns u.unknowns h.unknowns i.unknowns }
    inside_copied p k A B xs (ml.tuple ts) e w =
        let h : AreCopies n Γ (components g constructors p A A 0 ts) (components g constructors k B B 0 ts) = components_copied p k A B A B 0 ts e w w in
        record { type = ap tuple_of h.types; unknowns = h.unknowns }
    inside_copied p k A B xs (ml.array a) e w =
        let h : IsCopy n Γ (topped p A (shape_of a) (inside g constructors p A [] a)) (topped k B (shape_of a) (inside g constructors k B [] a)) = topped_copied n p k Γ A B (shape_of a) (inside g constructors p A [] a) (inside g constructors k B [] a) e w (inside_copied p k A B [] a e w) in
        record { type = ap (λ y. array_with y []) h.type; unknowns = h.unknowns }
    inside_copied p k A B xs (ml.named d ts) e w =
        let s : AllMade = arguments g constructors p A ts in
        let r : AllMade = arguments g constructors k B ts in
        let h : AreCopies n Γ s r = arguments_copied p k A B ts e w in
        let q : ℕ = p + length s.unknowns in
        let l : ℕ = k + length r.unknowns in
        let f : q ≡ n + l = next_number n p k Γ s.unknowns r.unknowns e h.unknowns in
        let c : Cells = constructor_cells g q d ts (constructors d) in
        let b : Cells = constructor_cells g l d ts (constructors d) in
        let i : cells.AreCopies n Γ c b = constructors_copied g n q l Γ d ts (constructors d) f in
        record { type = ap (λ y. data_with d y c.matrix []) h.types ∙ ap (λ m. data_with d (all_renumbered n r.types) m []) i.matrix; unknowns = both_completed Γ s.unknowns c.unknowns r.unknowns b.unknowns h.unknowns i.unknowns }
    inside_copied p k A B xs (ml.map_of a) e w =
        let C : Scope = with_symbol (Position 0) int A in
        let D : Scope = with_symbol (Position 0) int B in
        let v : Stands Γ C D = stands_with_symbol Γ A B (Position 0) int w in
        let h : IsCopy n Γ (topped p C (shape_of a) (inside g constructors p A [] a)) (topped k D (shape_of a) (inside g constructors k B [] a)) = topped_copied n p k Γ C D (shape_of a) (inside g constructors p A [] a) (inside g constructors k B [] a) e v (inside_copied p k A B [] a e w) in
        record { type = ap (λ y. map_with y []) h.type; unknowns = h.unknowns }

    components_copied : (p k : ℕ) (A B C D : Scope) (j : ℕ) (ts : MlTypes) → p ≡ n + k → Stands Γ A B → Stands Γ C D → AreCopies n Γ (components g constructors p A C j ts) (components g constructors k B D j ts)
    components_copied p k A B C D j ml.no_types e w v = record { types = refl; unknowns = refl }
    components_copied p k A B C D j (ml.more_types t ts) e w v =
        let s : Made = topped p C (shape_of t) (inside g constructors p A [] t) in
        let r : Made = topped k D (shape_of t) (inside g constructors k B [] t) in
        let h : IsCopy n Γ s r = topped_copied n p k Γ C D (shape_of t) (inside g constructors p A [] t) (inside g constructors k B [] t) e v (inside_copied p k A B [] t e w) in
        let q : ℕ = p + length s.unknowns in
        let l : ℕ = k + length r.unknowns in
        let f : q ≡ n + l = next_number n p k Γ s.unknowns r.unknowns e h.unknowns in
        let E : Scope = with_position j (shape_of t) C in
        let F : Scope = with_position j (shape_of t) D in
        let x : Stands Γ E F = stands_with_symbol Γ C D (Position (suc j)) (shape_of t) v in
        let y : AllMade = components g constructors q A E (suc j) ts in
        let z : AllMade = components g constructors l B F (suc j) ts in
        let i : AreCopies n Γ y z = components_copied q l A B E F (suc j) ts f w x in
        record { types = ap (λ a. more a y.types) h.type ∙ ap (more (renumbered n r.type)) i.types; unknowns = both_completed Γ s.unknowns y.unknowns r.unknowns z.unknowns h.unknowns i.unknowns }

    arguments_copied : (p k : ℕ) (A B : Scope) (ts : MlTypes) → p ≡ n + k → Stands Γ A B → AreCopies n Γ (arguments g constructors p A ts) (arguments g constructors k B ts)
    arguments_copied p k A B ml.no_types e w = record { types = refl; unknowns = refl }
    arguments_copied p k A B (ml.more_types t ts) e w =
        let s : Made = topped p A (shape_of t) (inside g constructors p A [] t) in
        let r : Made = topped k B (shape_of t) (inside g constructors k B [] t) in
        let h : IsCopy n Γ s r = topped_copied n p k Γ A B (shape_of t) (inside g constructors p A [] t) (inside g constructors k B [] t) e w (inside_copied p k A B [] t e w) in
        let q : ℕ = p + length s.unknowns in
        let l : ℕ = k + length r.unknowns in
        let f : q ≡ n + l = next_number n p k Γ s.unknowns r.unknowns e h.unknowns in
        let y : AllMade = arguments g constructors q A ts in
        let z : AllMade = arguments g constructors l B ts in
        let i : AreCopies n Γ y z = arguments_copied q l A B ts f w in
        record { types = ap (λ a. more a y.types) h.type ∙ ap (more (renumbered n r.type)) i.types; unknowns = both_completed Γ s.unknowns y.unknowns r.unknowns z.unknowns h.unknowns i.unknowns }

  fresh_copied : (xs : List (Option ℕ)) (t : MlType) → IsCopy n Γ (fresh g constructors n Γ xs t) (fresh g constructors 0 (mark ∷ []) xs t)
  fresh_copied xs t = let e : n ≡ n + 0 = omega arith in topped_copied n n 0 Γ Γ (mark ∷ []) (shape_of t) (inside g constructors n Γ xs t) (inside g constructors 0 (mark ∷ []) xs t) e (stands_alone Γ) (inside_copied n 0 Γ (mark ∷ []) xs t e (stands_alone Γ))

pub fresh_renumbered : (g : Signature) (constructors : ℕ → List ℕ) (n : ℕ) (Γ : Scope) (xs : List (Option ℕ)) (t : MlType)
    → (fresh g constructors n Γ xs t).type ≡ renumbered n (fresh g constructors 0 (mark ∷ []) xs t).type
fresh_renumbered g constructors n Γ xs t = (fresh_copied g constructors n Γ xs t).type

pub fresh_completed : (g : Signature) (constructors : ℕ → List ℕ) (n : ℕ) (Γ : Scope) (xs : List (Option ℕ)) (t : MlType)
    → (fresh g constructors n Γ xs t).unknowns ≡ all_completed Γ (fresh g constructors 0 (mark ∷ []) xs t).unknowns
fresh_completed g constructors n Γ xs t = (fresh_copied g constructors n Γ xs t).unknowns
