-- The entries of a datatype's matrix from another number on are the same, renumbered.
use Rattle.std.proofs.Common.{◌≡◌, ◌∙◌, ℕ, suc, ◌+◌, arith, Bool, true, false, cond, List, [], ◌∷◌, ◌++◌, length, refl, sym, ap}
use Rattle.std.proofs.lemmas.List.{length-map, map-append}
use Rattle.lq_refined_instances.specs.Scopes.{Scope}
use Rattle.lq_refined_types.specs.Types.Refined.{Matrix}
use Rattle.lq_refined_types.specs.Types.Unfolding.{is_again}
use Rattle.lq_refined_types.specs.Renumbering.Renumbered.{cell_renumbered, matrix_renumbered}
use Rattle.lq_refined_copies.specs.Completed.{all_completed, completed, unknown_completed}
use Rattle.lq_text_qualifiers.specs.Faults.Shapes.{Shape, int, bool, array, data_of, other, shape_of}
use Rattle.lq_refined_types.specs.Subtyping.Subtype.{fields_of}
use Rattle.lq_generate_fresh.proofs.CopiesLemmas.Scopes.{IsOwn, own_completed, own_with_position}
use Rattle.lq_refined_templates.specs.Templates.Cells.{Cells, both_cells, cell_for, cell_of_shape, constructor_cells, field_cells, field_scope, no_cells, parameter_cells}
use Rattle.lq_refined_templates.specs.Templates.Scopes.{Unknown, with_position}
use Rattle.lq_text_tree.specs.MlType as ml
use Rattle.lq_text_tree.specs.MlType.{MlType, MlTypes}
use Rattle.lq_text_tree.specs.Types.{Signature, count_types, put, type_at}

-- ---- unknowns

pub completed_append : (Γ : Scope) (us vs : List Unknown) → all_completed Γ (us ++ vs) ≡ all_completed Γ us ++ all_completed Γ vs
completed_append Γ us vs = map-append (unknown_completed Γ) us vs

pub completed_length : (Γ : Scope) (us vs : List Unknown) → us ≡ all_completed Γ vs → length us ≡ length vs
completed_length Γ us vs e = ap length e ∙ length-map vs (unknown_completed Γ)

-- the next number on both sides
pub next_number : (n p k : ℕ) (Γ : Scope) (us vs : List Unknown) → p ≡ n + k → us ≡ all_completed Γ vs → p + length us ≡ n + (k + length vs)
next_number n p k Γ us vs e f = let h : length us ≡ length vs = completed_length Γ us vs f in omega arith

pub both_completed : (Γ : Scope) (us vs xs ys : List Unknown) → us ≡ all_completed Γ xs → vs ≡ all_completed Γ ys → us ++ vs ≡ all_completed Γ (xs ++ ys)
both_completed Γ us vs xs ys e f = let h : all_completed Γ (xs ++ ys) ≡ all_completed Γ xs ++ all_completed Γ ys = completed_append Γ xs ys in cc

-- ---- matrices

matrix_append : (n : ℕ) (a b : Matrix) → matrix_renumbered n (a ++ b) ≡ matrix_renumbered n a ++ matrix_renumbered n b
matrix_append n [] b = refl
matrix_append n (e ∷ a) b = ap (λ m. cell_renumbered n e ∷ m) (matrix_append n a b)

-- the first are the second, renumbered by n and completed by Γ
pub record AreCopies (n : ℕ) (Γ : Scope) (a b : Cells) : Type 0 where
  pub matrix : a.matrix ≡ matrix_renumbered n b.matrix
  pub unknowns : a.unknowns ≡ all_completed Γ b.unknowns

none_copied : (n : ℕ) (Γ : Scope) → AreCopies n Γ no_cells no_cells
none_copied n Γ = record { matrix = refl; unknowns = refl }

both_copied : (n : ℕ) (Γ : Scope) (a b x y : Cells) → AreCopies n Γ a x → AreCopies n Γ b y → AreCopies n Γ (both_cells a b) (both_cells x y)
both_copied n Γ a b x y h k =
    let e : a.matrix ≡ matrix_renumbered n x.matrix = h.matrix in
    let f : b.matrix ≡ matrix_renumbered n y.matrix = k.matrix in
    let i : matrix_renumbered n (x.matrix ++ y.matrix) ≡ matrix_renumbered n x.matrix ++ matrix_renumbered n y.matrix = matrix_append n x.matrix y.matrix in
    record { matrix = cc; unknowns = both_completed Γ a.unknowns b.unknowns x.unknowns y.unknowns h.unknowns k.unknowns }

one_copied : (n p k : ℕ) (Γ Δ : Scope) (c j i : ℕ) (s : Shape) → p ≡ n + k → IsOwn Δ → AreCopies n Γ (cell_for p Δ c j i s) (cell_for k Δ c j i s)
one_copied n p k Γ Δ c j i s e own =
    let o : completed Γ Δ ≡ Δ = own_completed Γ Δ own in
    record { matrix = ap (λ m. (cell_for m Δ c j i s).matrix) e; unknowns = ap (λ m. (m, s) ∷ []) (sym o) }

cell_copied : (n p k : ℕ) (Γ Δ : Scope) (c j i : ℕ) (s : Shape) → p ≡ n + k → IsOwn Δ → AreCopies n Γ (cell_of_shape p Δ c j i s) (cell_of_shape k Δ c j i s)
cell_copied n p k Γ Δ c j i int e own = one_copied n p k Γ Δ c j i int e own
cell_copied n p k Γ Δ c j i bool e own = one_copied n p k Γ Δ c j i bool e own
cell_copied n p k Γ Δ c j i array e own = one_copied n p k Γ Δ c j i array e own
cell_copied n p k Γ Δ c j i (data_of d) e own = one_copied n p k Γ Δ c j i (data_of d) e own
cell_copied n p k Γ Δ c j i other e own = none_copied n Γ

parameters_copied : (n p k : ℕ) (Γ Δ : Scope) (c j i : ℕ) (us : MlTypes) → p ≡ n + k → IsOwn Δ → AreCopies n Γ (parameter_cells p Δ c j i us) (parameter_cells k Δ c j i us)
parameters_copied n p k Γ Δ c j i ml.no_types e own = none_copied n Γ
parameters_copied n p k Γ Δ c j i (ml.more_types u us) e own =
    let a : Cells = cell_of_shape p Δ c j i (shape_of u) in
    let b : Cells = cell_of_shape k Δ c j i (shape_of u) in
    let h : AreCopies n Γ a b = cell_copied n p k Γ Δ c j i (shape_of u) e own in
    let f : p + length a.unknowns ≡ n + (k + length b.unknowns) = next_number n p k Γ a.unknowns b.unknowns e h.unknowns in
    both_copied n Γ a (parameter_cells (p + length a.unknowns) Δ c j (suc i) us) b (parameter_cells (k + length b.unknowns) Δ c j (suc i) us) h
    (parameters_copied n (p + length a.unknowns) (k + length b.unknowns) Γ Δ c j (suc i) us f own)

fields_copied : (n p k : ℕ) (Γ Δ : Scope) (d c : ℕ) (us : MlTypes) (j : ℕ) (fs : MlTypes) → p ≡ n + k → IsOwn Δ → AreCopies n Γ (field_cells p Δ d c us j fs) (field_cells k Δ d c us j fs)
fields_copied n p k Γ Δ d c us j ml.no_types e own = none_copied n Γ
fields_copied n p k Γ Δ d c us j (ml.more_types f fs) e own =
    let a : Cells = cond (is_again d (count_types us) f) (parameter_cells p Δ c j 0 us) no_cells in
    let b : Cells = cond (is_again d (count_types us) f) (parameter_cells k Δ c j 0 us) no_cells in
    let h : AreCopies n Γ a b = by (is_again d (count_types us) f) in
    let i : p + length a.unknowns ≡ n + (k + length b.unknowns) = next_number n p k Γ a.unknowns b.unknowns e h.unknowns in
    both_copied n Γ a (field_cells (p + length a.unknowns) Δ d c us (suc j) fs) b (field_cells (k + length b.unknowns) Δ d c us (suc j) fs) h
    (fields_copied n (p + length a.unknowns) (k + length b.unknowns) Γ Δ d c us (suc j) fs i own)
  where
    by : (t : Bool) → AreCopies n Γ (cond t (parameter_cells p Δ c j 0 us) no_cells) (cond t (parameter_cells k Δ c j 0 us) no_cells)
    by true = parameters_copied n p k Γ Δ c j 0 us e own
    by false = none_copied n Γ

own_field_scope : (d : ℕ) (us : MlTypes) (j : ℕ) (fs : MlTypes) (Δ : Scope) → IsOwn Δ → IsOwn (field_scope d us j fs Δ)
own_field_scope d us j ml.no_types Δ own = own
own_field_scope d us j (ml.more_types f fs) Δ own =
    own_field_scope d us (suc j) fs (cond (is_again d (count_types us) f) Δ (with_position j (shape_of (put (type_at us) f)) Δ)) (by (is_again d (count_types us) f))
  where
    by : (t : Bool) → IsOwn (cond t Δ (with_position j (shape_of (put (type_at us) f)) Δ))
    by true = own
    by false = own_with_position j (shape_of (put (type_at us) f)) Δ own

pub constructors_copied : (g : Signature) (n p k : ℕ) (Γ : Scope) (d : ℕ) (us : MlTypes) (cs : List ℕ) → p ≡ n + k → AreCopies n Γ (constructor_cells g p d us cs) (constructor_cells g k d us cs)
constructors_copied g n p k Γ d us [] e = none_copied n Γ
constructors_copied g n p k Γ d us (c ∷ cs) e =
    let fs : MlTypes = fields_of (g c) in
    let Δ : Scope = field_scope d us 0 fs [] in
    let a : Cells = field_cells p Δ d c us 0 fs in
    let b : Cells = field_cells k Δ d c us 0 fs in
    let h : AreCopies n Γ a b = fields_copied n p k Γ Δ d c us 0 fs e (own_field_scope d us 0 fs [] tt) in
    let i : p + length a.unknowns ≡ n + (k + length b.unknowns) = next_number n p k Γ a.unknowns b.unknowns e h.unknowns in
    both_copied n Γ a (constructor_cells g (p + length a.unknowns) d us cs) b (constructor_cells g (k + length b.unknowns) d us cs) h
    (constructors_copied g n (p + length a.unknowns) (k + length b.unknowns) Γ d us cs i)
