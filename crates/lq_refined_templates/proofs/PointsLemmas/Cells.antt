-- The unknowns of a matrix are numbered one after another.
use Rattle.std.proofs.Common.{◌≡◌, ◌∙◌, ℕ, suc, ◌+◌, arith, Bool, true, false, cond, List, [], ◌∷◌, ◌++◌, length, refl, sym, ap, subst, append_assoc}
use Rattle.lq_refined_instances.specs.Scopes.{Scope}
use Rattle.lq_refined_types.specs.Types.Refined.{Matrix}
use Rattle.lq_refined_types.specs.Types.Unfolding.{is_again}
use Rattle.lq_text_qualifiers.specs.Faults.Shapes.{Shape, int, bool, array, data_of, other, shape_of}
use Rattle.lq_refined_types.specs.Subtyping.Subtype.{fields_of}
use Rattle.lq_refined_templates.specs.Templates.Cells.{Cells, both_cells, cell_of_shape, constructor_cells, field_cells, field_scope, no_cells, parameter_cells}
use Rattle.lq_refined_templates.specs.Templates.Laws.{matrix_unknowns, numbers_from, part_unknowns}
use Rattle.lq_refined_templates.specs.Templates.Scopes.{Unknown}
use Rattle.lq_text_tree.specs.MlType as ml
use Rattle.lq_text_tree.specs.MlType.{MlTypes}
use Rattle.lq_text_tree.specs.Types.{Signature, count_types}

-- as many numbers, from n on, as there are unknowns
abbrev pub AreNumbered : ℕ → List Unknown → List ℕ → Type 0
AreNumbered n us l = l ≡ numbers_from n (length us)

joined : (n : ℕ) (us vs : List Unknown) → numbers_from n (length us) ++ numbers_from (n + length us) (length vs) ≡ numbers_from n (length (us ++ vs))
joined n [] vs = subst (λ j. numbers_from j (length vs) ≡ numbers_from n (length vs)) (omega arith) refl
joined n (x ∷ us) vs =
    let e : numbers_from (suc n) (length us) ++ numbers_from (suc n + length us) (length vs) ≡ numbers_from (suc n) (length (us ++ vs)) = joined (suc n) us vs in
    let f : suc n + length us ≡ n + suc (length us) = omega arith in
    ap (λ l. n ∷ l) (subst (λ j. numbers_from (suc n) (length us) ++ numbers_from j (length vs) ≡ numbers_from (suc n) (length (us ++ vs))) f e)

-- first some, then others
pub both : (n : ℕ) (us vs : List Unknown) (l k : List ℕ) → AreNumbered n us l → AreNumbered (n + length us) vs k → AreNumbered n (us ++ vs) (l ++ k)
both n us vs l k a b = same ∙ joined n us vs
  where
    same : l ++ k ≡ numbers_from n (length us) ++ numbers_from (n + length us) (length vs)
    same = cc

entries_append : (a b : Matrix) → matrix_unknowns (a ++ b) ≡ matrix_unknowns a ++ matrix_unknowns b
entries_append [] b = refl
entries_append (e ∷ a) b =
    ap (λ l. part_unknowns e.parts ++ l) (entries_append a b) ∙ sym (append_assoc (part_unknowns e.parts) (matrix_unknowns a) (matrix_unknowns b))

abbrev CellsNumbered : ℕ → Cells → Type 0
CellsNumbered n a = AreNumbered n a.unknowns (matrix_unknowns a.matrix)

cells_both : (n : ℕ) (a b : Cells) → CellsNumbered n a → CellsNumbered (n + length a.unknowns) b → CellsNumbered n (both_cells a b)
cells_both n a b x y =
    entries_append a.matrix b.matrix ∙ both n a.unknowns b.unknowns (matrix_unknowns a.matrix) (matrix_unknowns b.matrix) x y

cell_numbered : (n : ℕ) (Γ : Scope) (c j i : ℕ) (s : Shape) → CellsNumbered n (cell_of_shape n Γ c j i s)
cell_numbered n Γ c j i int = refl
cell_numbered n Γ c j i bool = refl
cell_numbered n Γ c j i array = refl
cell_numbered n Γ c j i (data_of d) = refl
cell_numbered n Γ c j i other = refl

parameters_numbered : (n : ℕ) (Γ : Scope) (c j i : ℕ) (us : MlTypes) → CellsNumbered n (parameter_cells n Γ c j i us)
parameters_numbered n Γ c j i ml.no_types = refl
parameters_numbered n Γ c j i (ml.more_types u us) =
    let a : Cells = cell_of_shape n Γ c j i (shape_of u) in
    cells_both n a (parameter_cells (n + length a.unknowns) Γ c j (suc i) us) (cell_numbered n Γ c j i (shape_of u))
    (parameters_numbered (n + length a.unknowns) Γ c j (suc i) us)

fields_numbered : (n : ℕ) (Γ : Scope) (d c : ℕ) (us : MlTypes) (j : ℕ) (fs : MlTypes) → CellsNumbered n (field_cells n Γ d c us j fs)
fields_numbered n Γ d c us j ml.no_types = refl
fields_numbered n Γ d c us j (ml.more_types f fs) =
    let a : Cells = cond (is_again d (count_types us) f) (parameter_cells n Γ c j 0 us) no_cells in
    cells_both n a (field_cells (n + length a.unknowns) Γ d c us (suc j) fs) (by (is_again d (count_types us) f))
    (fields_numbered (n + length a.unknowns) Γ d c us (suc j) fs)
  where
    by : (b : Bool) → CellsNumbered n (cond b (parameter_cells n Γ c j 0 us) no_cells)
    by true = parameters_numbered n Γ c j 0 us
    by false = refl

pub constructors_numbered : (g : Signature) (n d : ℕ) (us : MlTypes) (cs : List ℕ) → CellsNumbered n (constructor_cells g n d us cs)
constructors_numbered g n d us [] = refl
constructors_numbered g n d us (c ∷ cs) =
    let fs : MlTypes = fields_of (g c) in
    let a : Cells = field_cells n (field_scope d us 0 fs []) d c us 0 fs in
    cells_both n a (constructor_cells g (n + length a.unknowns) d us cs) (fields_numbered n (field_scope d us 0 fs []) d c us 0 fs)
    (constructors_numbered g (n + length a.unknowns) d us cs)
