-- What loops have made so far, of a whole that is still to be finished.
use Rattle.std.proofs.Common.{◌≡◌, ◌∙◌, ℕ, zero, suc, ◌+◌, ◌<◌, ◌≤◌, cond, List, [], ◌∷◌, ◌++◌, length, map, drop, get_or, refl, sym, ap, ap₂, subst, append_assoc, arith}
use Rattle.std.proofs.lemmas.List.{append-nil}
use Rattle.lq_refined_instances.specs.Scopes.{Scope}
use Rattle.lq_refined_types.specs.Types.Refined.{Matrix}
use Rattle.lq_text_qualifiers.specs.Faults.Shapes as shapes
use Rattle.lq_refined_templates.specs.Templates.Cells.{Cells, both_cells, cell_of_shape, no_cells}
use Rattle.lq_refined_templates.specs.Templates.Scopes.{Unknown, with_position}
use Rattle.lq_generate_fresh.specs.Fresh.Fields.{Field, cells_of_constructors, cells_of_field, cells_of_fields, cells_of_parameters, is_field_again, scope_of_fields, shape_in}
use Rattle.lq_generate_fresh.specs.Fresh.Growing.{made_both, made_count, made_nothing}
use Rattle.lq_generate_fresh.specs.Fresh.Views.{unknowns_of, IsMade}
use Rattle.lq_generate_fresh.specs.declared.fresh.templates.Templates.{Templates}

cells : Matrix → List Unknown → Cells
cells m us = record { matrix = m; unknowns = us }

cells_assoc : (a b c : Cells) → both_cells (both_cells a b) c ≡ both_cells a (both_cells b c)
unfolding cells
cells_assoc a b c = ap₂ cells (append_assoc a.matrix b.matrix c.matrix) (append_assoc a.unknowns b.unknowns c.unknowns)

cells_end : (a : Cells) → both_cells a no_cells ≡ a
unfolding cells
cells_end a = ap₂ cells (append-nil a.matrix) (append-nil a.unknowns)

-- the cells that were added, where the rest begins at the next unknown
pub record CellsDone (old new : Templates) (before now : Matrix) (whole : Cells) (rest : ℕ → Cells) : Type 0 where
  pub done : Cells
  pub made : IsMade old new done.unknowns
  pub matrix : now ≡ before ++ done.matrix
  pub is : whole ≡ both_cells done (rest (length (unknowns_of new)))

pub cells_begin : (old : Templates) (before : Matrix) (rest : ℕ → Cells) → CellsDone old old before before (rest (length (unknowns_of old))) rest
cells_begin old before rest = record { done = no_cells; made = made_nothing old; matrix = sym (append-nil before); is = refl }

-- what was made before made no unknown
pub cells_after : (old mid : Templates) (before : Matrix) (rest : ℕ → Cells) → IsMade old mid []
    → CellsDone old mid before before (rest (length (unknowns_of old))) rest
cells_after old mid before rest p = record {
  done = no_cells;
  made = p;
  matrix = sym (append-nil before);
  is = ap rest (sym (ap length p.unknowns ∙ ap length (append-nil (unknowns_of old))));
}

pub cells_next : (old mid new : Templates) (before middle now : Matrix) (whole : Cells) (rest later : ℕ → Cells) (a : Cells)
    → CellsDone old mid before middle whole rest
    → rest (length (unknowns_of mid)) ≡ both_cells a (later (length (unknowns_of mid) + length a.unknowns)) → IsMade mid new a.unknowns
    → now ≡ middle ++ a.matrix → CellsDone old new before now whole later
cells_next old mid new before middle now whole rest later a h r p q = record {
  done = both_cells h.done a;
  made = made_both old mid new h.done.unknowns a.unknowns h.made p;
  matrix = q ∙ (ap (λ m. m ++ a.matrix) h.matrix ∙ append_assoc before h.done.matrix a.matrix);
  is =
      h.is
      ∙ (ap (both_cells h.done) (r ∙ ap (λ k. both_cells a (later k)) (sym (made_count mid new a.unknowns p)))
      ∙ sym (cells_assoc h.done a (later (length (unknowns_of new)))));
}

-- nothing is left
pub cells_all : (old new : Templates) (before now : Matrix) (whole : Cells) (rest : ℕ → Cells) → CellsDone old new before now whole rest
    → rest (length (unknowns_of new)) ≡ no_cells → IsMade old new whole.unknowns × (now ≡ before ++ whole.matrix)
cells_all old new before now whole rest h e =
    let all : whole ≡ h.done = h.is ∙ (ap (both_cells h.done) e ∙ cells_end h.done) in (
      subst (λ (c : Cells). IsMade old new c.unknowns) (sym all) h.made,
      subst (λ (c : Cells). now ≡ before ++ c.matrix) (sym all) h.matrix,
    )

pub one_more : (i : ℕ) → suc i ≡ i + 1
one_more i = omega arith

-- ---- loops over parameters, fields and constructors: one more of a list that is left

-- how far the parameters are done, from the i-th on
abbrev pub ParametersDone : Templates → Templates → Matrix → Matrix → Scope → ℕ → ℕ → List shapes.Shape → ℕ → List shapes.Shape → Type 0
ParametersDone old new before now Γ c j ss i rest =
    CellsDone old new before now (cells_of_parameters (length (unknowns_of old)) Γ c j 0 ss) (λ k. cells_of_parameters k Γ c j i rest)

pub parameters_next : (old mid new : Templates) (before middle now : Matrix) (Γ Δ : Scope) (c j : ℕ) (ss : List shapes.Shape) (i : ℕ)
    (l : List shapes.Shape) (s : shapes.Shape) (rest : List shapes.Shape) → ParametersDone old mid before middle Γ c j ss i l
    → l ≡ s ∷ rest → Δ ≡ Γ → IsMade mid new (cell_of_shape (length (unknowns_of mid)) Δ c j i s).unknowns
    → now ≡ middle ++ (cell_of_shape (length (unknowns_of mid)) Δ c j i s).matrix → ParametersDone old new before now Γ c j ss (i + 1) rest
parameters_next old mid new before middle now Γ Δ c j ss i l s rest h e d p q =
    let n : ℕ = length (unknowns_of mid) in
    subst (λ m. ParametersDone old new before now Γ c j ss m rest) (one_more i)
    (cells_next old mid new before middle now (cells_of_parameters (length (unknowns_of old)) Γ c j 0 ss) (λ k. cells_of_parameters k Γ c j i l)
    (λ k. cells_of_parameters k Γ c j (suc i) rest) (cell_of_shape n Δ c j i s) h
    (ap (cells_of_parameters n Γ c j i) e
    ∙ ap (λ (G : Scope). let a = cell_of_shape n G c j i s in both_cells a (cells_of_parameters (n + length a.unknowns) Γ c j (suc i) rest)) (sym d))
    p q)

abbrev pub FieldsDone : Templates → Templates → Matrix → Matrix → Scope → ℕ → List shapes.Shape → List Field → ℕ → List Field → Type 0
FieldsDone old new before now Γ c ss xs j rest =
    CellsDone old new before now (cells_of_fields (length (unknowns_of old)) Γ c ss 0 xs) (λ k. cells_of_fields k Γ c ss j rest)

pub fields_next : (old mid new : Templates) (before middle now : Matrix) (Γ Δ : Scope) (c : ℕ) (ss : List shapes.Shape) (xs : List Field) (j : ℕ)
    (l : List Field) (x : Field) (rest : List Field) → FieldsDone old mid before middle Γ c ss xs j l → l ≡ x ∷ rest → Δ ≡ Γ
    → IsMade mid new (cells_of_field (length (unknowns_of mid)) Δ c ss j x).unknowns
    → now ≡ middle ++ (cells_of_field (length (unknowns_of mid)) Δ c ss j x).matrix → FieldsDone old new before now Γ c ss xs (j + 1) rest
fields_next old mid new before middle now Γ Δ c ss xs j l x rest h e d p q =
    let n : ℕ = length (unknowns_of mid) in
    subst (λ m. FieldsDone old new before now Γ c ss xs m rest) (one_more j)
    (cells_next old mid new before middle now (cells_of_fields (length (unknowns_of old)) Γ c ss 0 xs) (λ k. cells_of_fields k Γ c ss j l)
    (λ k. cells_of_fields k Γ c ss (suc j) rest) (cells_of_field n Δ c ss j x) h
    (ap (cells_of_fields n Γ c ss j) e
    ∙ ap (λ (G : Scope). let a = cells_of_field n G c ss j x in both_cells a (cells_of_fields (n + length a.unknowns) Γ c ss (suc j) rest)) (sym d))
    p q)

abbrev pub ConstructorsDone : Templates → Templates → Matrix → ℕ → List shapes.Shape → List (ℕ × List Field) → List (ℕ × List Field) → Type 0
ConstructorsDone old new now d ss ks rest =
    CellsDone old new [] now (cells_of_constructors (length (unknowns_of old)) d ss ks) (λ k. cells_of_constructors k d ss rest)

pub constructors_next : (old mid new : Templates) (middle now : Matrix) (d : ℕ) (ss : List shapes.Shape) (ks l : List (ℕ × List Field))
    (x : ℕ × List Field) (rest : List (ℕ × List Field)) → ConstructorsDone old mid middle d ss ks l → l ≡ x ∷ rest
    → IsMade mid new (cells_of_fields (length (unknowns_of mid)) (scope_of_fields d ss 0 x.1 []) x.0 ss 0 x.1).unknowns
    → now ≡ middle ++ (cells_of_fields (length (unknowns_of mid)) (scope_of_fields d ss 0 x.1 []) x.0 ss 0 x.1).matrix
    → ConstructorsDone old new now d ss ks rest
constructors_next old mid new middle now d ss ks l x rest h e p q =
    cells_next old mid new [] middle now (cells_of_constructors (length (unknowns_of old)) d ss ks) (λ k. cells_of_constructors k d ss l)
    (λ k. cells_of_constructors k d ss rest) (cells_of_fields (length (unknowns_of mid)) (scope_of_fields d ss 0 x.1 []) x.0 ss 0 x.1) h
    (ap (cells_of_constructors (length (unknowns_of mid)) d ss) e) p q

-- the scope so far, and what is left
abbrev pub ScopeDone : Scope → ℕ → List shapes.Shape → List Field → ℕ → List Field → Type 0
ScopeDone Γ d ss xs j rest = scope_of_fields d ss 0 xs [] ≡ scope_of_fields d ss j rest Γ

pub scope_next : (Γ Δ : Scope) (d : ℕ) (ss : List shapes.Shape) (xs : List Field) (j m : ℕ) (l : List Field) (x : Field) (rest : List Field)
    → ScopeDone Γ d ss xs j l → l ≡ x ∷ rest → m ≡ length ss → Δ ≡ cond (is_field_again m x) Γ (with_position j (shape_in d ss x) Γ)
    → ScopeDone Δ d ss xs (j + 1) rest
scope_next Γ Δ d ss xs j m l x rest h e k q =
    subst (λ i. ScopeDone Δ d ss xs i rest) (one_more j)
    (h
    ∙ (ap (λ y. scope_of_fields d ss j y Γ) e
    ∙ ap (scope_of_fields d ss (suc j) rest)
    (ap (λ i. cond (is_field_again i x) Γ (with_position j (shape_in d ss x) Γ)) (sym k) ∙ sym q)))

-- ---- what is left of a list that is looked at through a function

pub rest_of : {X Y : Type 0} (f : X → Y) (xs : List X) (i : ℕ) (d : X) → i < length xs → drop i (map f xs) ≡ f (get_or xs i d) ∷ drop (i + 1) (map f xs)
rest_of {X} f xs i d h = subst (λ k. drop i (map f xs) ≡ f (get_or xs i d) ∷ drop k (map f xs)) (one_more i) (from xs i h)
  where
    from : (ys : List X) (k : ℕ) → k < length ys → drop k (map f ys) ≡ f (get_or ys k d) ∷ drop (suc k) (map f ys)
    from [] k h = absurd (omega arith)
    from (y ∷ ys) zero h = refl
    from (y ∷ ys) (suc k) h = from ys k (omega arith)

pub none_left : {X Y : Type 0} (f : X → Y) (xs : List X) (i : ℕ) → length xs ≤ i → drop i (map f xs) ≡ []
none_left f [] zero h = refl
none_left f [] (suc i) h = refl
none_left f (x ∷ xs) zero h = absurd (omega arith)
none_left f (x ∷ xs) (suc i) h = none_left f xs i (omega arith)

pub length_map : {X Y : Type 0} (f : X → Y) (xs : List X) → length (map f xs) ≡ length xs
length_map f [] = refl
length_map f (x ∷ xs) = ap suc (length_map f xs)
