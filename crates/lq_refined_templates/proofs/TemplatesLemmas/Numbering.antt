-- The unknowns of a template are numbered one after another.
use Rattle.std.proofs.Common.{◌≡◌, ◌∙◌, ℕ, suc, ◌+◌, arith, Bool, true, false, cond, List, [], ◌∷◌, ◌++◌, length, Option, refl, sym, ap, subst}
use Rattle.lq_refined_instances.specs.Scopes.{Scope}
use Rattle.lq_logic_predicates.specs.declared.symbol.Symbol.TheVariants.{Position}
use Rattle.lq_refined_types.specs.Types.Unfolding.{is_again}
use Rattle.lq_text_qualifiers.specs.Faults.Shapes.{Shape, int, bool, array, data_of, other, shape_of}
use Rattle.lq_refined_types.specs.Subtyping.Subtype.{fields_of}
use Rattle.lq_refined_templates.specs.Templates.Cells.{Cells, both_cells, cell_of_shape, constructor_cells, field_cells, field_scope, no_cells, parameter_cells}
use Rattle.lq_refined_templates.specs.Templates.Fresh.{Made, AllMade, arguments, components, first_name, fresh, inside, later_names, topped}
use Rattle.lq_refined_templates.specs.Templates.Laws.{matrix_unknowns, numbers_from, part_unknowns, type_unknowns, types_unknowns}
use Rattle.lq_refined_templates.specs.Templates.Scopes.{Unknown, with_argument, with_position, with_symbol}
use Rattle.lq_refined_types.specs.Types.Refined.{Matrix}
use Rattle.lq_text_tree.specs.MlType as ml
use Rattle.lq_text_tree.specs.MlType.{MlType, MlTypes}
use Rattle.lq_text_tree.specs.Types.{Signature, count_types}

-- as many numbers, from n on, as there are unknowns
abbrev AreNumbered : ℕ → List Unknown → List ℕ → Type 0
AreNumbered n us l = l ≡ numbers_from n (length us)

-- first some, then others
both : (n : ℕ) (us vs : List Unknown) (l k : List ℕ) → AreNumbered n us l → AreNumbered (n + length us) vs k → AreNumbered n (us ++ vs) (l ++ k)
both n us vs l k a b = a' ∙ joined n us vs
  where
    joined : (i : ℕ) (xs ys : List Unknown) → numbers_from i (length xs) ++ numbers_from (i + length xs) (length ys) ≡ numbers_from i (length (xs ++ ys))
    joined i [] ys = subst (λ j. numbers_from j (length ys) ≡ numbers_from i (length ys)) (omega arith) refl
    joined i (x ∷ xs) ys =
        let e : numbers_from (suc i) (length xs) ++ numbers_from (suc i + length xs) (length ys) ≡ numbers_from (suc i) (length (xs ++ ys)) = joined (suc i) xs ys in
        let f : suc i + length xs ≡ i + suc (length xs) = omega arith in
        ap (λ l. i ∷ l) (subst (λ j. numbers_from (suc i) (length xs) ++ numbers_from j (length ys) ≡ numbers_from (suc i) (length (xs ++ ys))) f e)

    a' : l ++ k ≡ numbers_from n (length us) ++ numbers_from (n + length us) (length vs)
    a' = cc

one : (n : ℕ) (us : List Unknown) (x : Unknown) → AreNumbered (n + length us) (x ∷ []) ((n + length us) ∷ [])
one n us x = refl

nothing_more : (n : ℕ) (us : List Unknown) (l : List ℕ) → AreNumbered n us l → AreNumbered n us (l ++ [])
nothing_more n us l a = subst (AreNumbered n us) (sym (end l)) a
  where
    end : (l : List ℕ) → l ++ [] ≡ l
    end [] = refl
    end (x ∷ l) = ap (λ k. x ∷ k) (end l)

-- ---- matrices

entries_append : (a b : Matrix) → matrix_unknowns (a ++ b) ≡ matrix_unknowns a ++ matrix_unknowns b
entries_append [] b = refl
entries_append (e ∷ a) b = ap (λ l. part_unknowns e.parts ++ l) (entries_append a b) ∙ sym (assoc (part_unknowns e.parts) (matrix_unknowns a) (matrix_unknowns b))
  where
    assoc : (x y z : List ℕ) → (x ++ y) ++ z ≡ x ++ (y ++ z)
    assoc [] y z = refl
    assoc (w ∷ x) y z = ap (λ l. w ∷ l) (assoc x y z)

abbrev CellsNumbered : ℕ → Cells → Type 0
CellsNumbered n a = AreNumbered n a.unknowns (matrix_unknowns a.matrix)

cells_both : (n : ℕ) (a b : Cells) → CellsNumbered n a → CellsNumbered (n + length a.unknowns) b → CellsNumbered n (both_cells a b)
cells_both n a b x y = entries_append a.matrix b.matrix ∙ both n a.unknowns b.unknowns (matrix_unknowns a.matrix) (matrix_unknowns b.matrix) x y

cell_numbered : (n : ℕ) (Γ : Scope) (c j i : ℕ) (s : Shape) → CellsNumbered n (cell_of_shape n Γ c j i s)
cell_numbered n Γ c j i int = refl
cell_numbered n Γ c j i bool = refl
cell_numbered n Γ c j i array = refl
cell_numbered n Γ c j i (data_of d) = refl
cell_numbered n Γ c j i other = refl

parameters_numbered : (n : ℕ) (Γ : Scope) (c j i : ℕ) (us : MlTypes) → CellsNumbered n (parameter_cells n Γ c j i us)
parameters_numbered n Γ c j i ml.no_types = refl
parameters_numbered n Γ c j i (ml.more_types u us) =
    let a : Cells = cell_of_shape n Γ c j i (shape_of u) in
    cells_both n a (parameter_cells (n + length a.unknowns) Γ c j (suc i) us) (cell_numbered n Γ c j i (shape_of u)) (parameters_numbered (n + length a.unknowns) Γ c j (suc i) us)

fields_numbered : (n : ℕ) (Γ : Scope) (d c : ℕ) (us : MlTypes) (j : ℕ) (fs : MlTypes) → CellsNumbered n (field_cells n Γ d c us j fs)
fields_numbered n Γ d c us j ml.no_types = refl
fields_numbered n Γ d c us j (ml.more_types f fs) =
    let a : Cells = cond (is_again d (count_types us) f) (parameter_cells n Γ c j 0 us) no_cells in
    cells_both n a (field_cells (n + length a.unknowns) Γ d c us (suc j) fs) (by (is_again d (count_types us) f)) (fields_numbered (n + length a.unknowns) Γ d c us (suc j) fs)
  where
    by : (b : Bool) → CellsNumbered n (cond b (parameter_cells n Γ c j 0 us) no_cells)
    by true = parameters_numbered n Γ c j 0 us
    by false = refl

constructors_numbered : (g : Signature) (n d : ℕ) (us : MlTypes) (cs : List ℕ) → CellsNumbered n (constructor_cells g n d us cs)
constructors_numbered g n d us [] = refl
constructors_numbered g n d us (c ∷ cs) =
    let fs : MlTypes = fields_of (g c) in
    let a : Cells = field_cells n (field_scope d us 0 fs []) d c us 0 fs in
    cells_both n a (constructor_cells g (n + length a.unknowns) d us cs) (fields_numbered n (field_scope d us 0 fs []) d c us 0 fs) (constructors_numbered g (n + length a.unknowns) d us cs)

-- ---- types

abbrev IsNumbered : ℕ → Made → Type 0
IsNumbered n m = AreNumbered n m.unknowns (type_unknowns m.type)

abbrev EachNumbered : ℕ → AllMade → Type 0
EachNumbered n m = AreNumbered n m.unknowns (types_unknowns m.types)

-- with an unknown at the top too, which may speak of another scope
abbrev IsToppedNumbered : ℕ → MlType → Made → Type 0
IsToppedNumbered n t m = IsNumbered n m × ((Δ : Scope) → IsNumbered n (topped n Δ (shape_of t) m))

assoc : (x y z : List ℕ) → (x ++ y) ++ z ≡ x ++ (y ++ z)
assoc [] y z = refl
assoc (w ∷ x) y z = ap (λ l. w ∷ l) (assoc x y z)

module _ (g : Signature) (constructors : ℕ → List ℕ) where
  mutual
    numbered : (n : ℕ) (Γ : Scope) (xs : List (Option ℕ)) (t : MlType) → IsToppedNumbered n t (inside g constructors n Γ xs t)
    numbered n Γ xs ml.int = (refl, λ Δ. both n [] ((Δ, int) ∷ []) [] ((n + 0) ∷ []) refl refl)
    numbered n Γ xs ml.bool = (refl, λ Δ. both n [] ((Δ, bool) ∷ []) [] ((n + 0) ∷ []) refl refl)
    numbered n Γ xs ml.unit = (refl, λ Δ. refl)
    numbered n Γ xs (ml.var i) = (refl, λ Δ. refl)
    numbered n Γ xs (ml.arrow a b) =
        let s : Made = topped n Γ (shape_of a) (inside g constructors n Γ [] a) in
        let Δ : Scope = with_argument (first_name xs) (shape_of a) Γ in
        let k : ℕ = n + length s.unknowns in
        let t : Made = topped k Δ (shape_of b) (inside g constructors k Δ (later_names xs) b) in
        let e : AreNumbered n (s.unknowns ++ t.unknowns) (type_unknowns s.type ++ type_unknowns t.type) =
        both n s.unknowns t.unknowns (type_unknowns s.type) (type_unknowns t.type) ((numbered n Γ [] a).1 Γ) ((numbered k Δ (later_names xs) b).1 Δ) in
        (e, λ _. e)
    numbered n Γ xs (ml.tuple ts) = let e : EachNumbered n (components g constructors n Γ Γ 0 ts) = components_numbered n Γ Γ 0 ts in (e, λ _. e)
    numbered n Γ xs (ml.array a) =
        let m : Made = topped n Γ (shape_of a) (inside g constructors n Γ [] a) in
        let e : IsNumbered n m = (numbered n Γ [] a).1 Γ in
        (nothing_more n m.unknowns (type_unknowns m.type) e, λ Δ. both n m.unknowns ((Δ, array) ∷ []) (type_unknowns m.type) ((n + length m.unknowns) ∷ []) e refl)
    numbered n Γ xs (ml.named d ts) =
        let m : AllMade = arguments g constructors n Γ ts in
        let c : Cells = constructor_cells g (n + length m.unknowns) d ts (constructors d) in
        let us : List Unknown = m.unknowns ++ c.unknowns in
        let l : List ℕ = types_unknowns m.types in
        let k : List ℕ = matrix_unknowns c.matrix in
        let a : AreNumbered n us (l ++ k) = both n m.unknowns c.unknowns l k (arguments_numbered n Γ ts) (constructors_numbered g (n + length m.unknowns) d ts (constructors d)) in
        (subst (AreNumbered n us) (assoc l k []) (nothing_more n us (l ++ k) a), λ Δ. subst (AreNumbered n (us ++ (Δ, data_of d) ∷ [])) (assoc l k ((n + length us) ∷ [])) (both n us ((Δ, data_of d) ∷ []) (l ++ k) ((n + length us) ∷ []) a refl))
    numbered n Γ xs (ml.map_of a) =
        let Δ : Scope = with_symbol (Position 0) int Γ in
        let m : Made = topped n Δ (shape_of a) (inside g constructors n Γ [] a) in
        let e : AreNumbered n m.unknowns (type_unknowns m.type ++ []) = nothing_more n m.unknowns (type_unknowns m.type) ((numbered n Γ [] a).1 Δ) in
        (e, λ _. e)

    components_numbered : (n : ℕ) (Γ Δ : Scope) (k : ℕ) (ts : MlTypes) → EachNumbered n (components g constructors n Γ Δ k ts)
    components_numbered n Γ Δ k ml.no_types = refl
    components_numbered n Γ Δ k (ml.more_types t ts) =
        let m : Made = topped n Δ (shape_of t) (inside g constructors n Γ [] t) in
        let r : AllMade = components g constructors (n + length m.unknowns) Γ (with_position k (shape_of t) Δ) (suc k) ts in
        both n m.unknowns r.unknowns (type_unknowns m.type) (types_unknowns r.types) ((numbered n Γ [] t).1 Δ) (components_numbered (n + length m.unknowns) Γ (with_position k (shape_of t) Δ) (suc k) ts)

    arguments_numbered : (n : ℕ) (Γ : Scope) (ts : MlTypes) → EachNumbered n (arguments g constructors n Γ ts)
    arguments_numbered n Γ ml.no_types = refl
    arguments_numbered n Γ (ml.more_types t ts) =
        let m : Made = topped n Γ (shape_of t) (inside g constructors n Γ [] t) in
        let r : AllMade = arguments g constructors (n + length m.unknowns) Γ ts in
        both n m.unknowns r.unknowns (type_unknowns m.type) (types_unknowns r.types) ((numbered n Γ [] t).1 Γ) (arguments_numbered (n + length m.unknowns) Γ ts)

  pub fresh_numbered : (n : ℕ) (Γ : Scope) (xs : List (Option ℕ)) (t : MlType) → type_unknowns (fresh g constructors n Γ xs t).type ≡ numbers_from n (length (fresh g constructors n Γ xs t).unknowns)
  fresh_numbered n Γ xs t = (numbered n Γ xs t).1 Γ
