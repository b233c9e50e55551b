-- The cells of a matrix are known from the shapes of arguments and fields.
use Rattle.std.proofs.Common.{◌≡◌, ◌∙◌, ℕ, suc, ◌+◌, Bool, true, false, ◌||◌, cond, List, [], ◌∷◌, length, refl, sym, ap, ap₂}
use Rattle.std.proofs.lemmas.Bool.{true≢false}
use Rattle.lq_refined_instances.specs.Scopes.{Scope}
use Rattle.lq_refined_types.specs.Types.Unfolding.{is_again}
use Rattle.lq_text_qualifiers.specs.Faults.Shapes.{Shape, shape_of}
use Rattle.lq_refined_types.specs.Subtyping.Subtype.{fields_of}
use Rattle.lq_refined_templates.specs.Templates.Cells.{Cells, both_cells, cell_of_shape, constructor_cells, field_cells, field_scope, no_cells, parameter_cells}
use Rattle.lq_refined_templates.specs.Templates.Scopes.{with_position}
use Rattle.lq_text_tree.specs.MlType as ml
use Rattle.lq_text_tree.specs.MlType.{MlType, MlTypes}
use Rattle.lq_text_tree.specs.Types.{Signature, count_types}
use Rattle.lq_generate_fresh.specs.Fresh.Fields.{any_again, AreConstructors, AreFields, Field, cells_of_constructors, cells_of_fields, cells_of_parameters, is_field_again, scope_of_fields, shape_in, shapes_of}

length_shapes : (us : MlTypes) → length (shapes_of us) ≡ count_types us
length_shapes ml.no_types = refl
length_shapes (ml.more_types u us) = ap suc (length_shapes us)

parameters_same : (n : ℕ) (Γ : Scope) (c j i : ℕ) (us : MlTypes) → cells_of_parameters n Γ c j i (shapes_of us) ≡ parameter_cells n Γ c j i us
parameters_same n Γ c j i ml.no_types = refl
parameters_same n Γ c j i (ml.more_types u us) =
    let a : Cells = cell_of_shape n Γ c j i (shape_of u) in
    ap (both_cells a) (parameters_same (n + length a.unknowns) Γ c j (suc i) us)

module _ (d : ℕ) (us : MlTypes) where
  again_same : (f : MlType) (x : Field) → ((n : ℕ) → is_again d n f ≡ is_field_again n x) → is_field_again (length (shapes_of us)) x ≡ is_again d (count_types us) f
  again_same f x h = ap (λ n. is_field_again n x) (length_shapes us) ∙ sym (h (count_types us))

  scope_same : (j : ℕ) (fs : MlTypes) (xs : List Field) (Γ : Scope) → AreFields d fs xs
      → scope_of_fields d (shapes_of us) j xs Γ ≡ field_scope d us j fs Γ
  scope_same j ml.no_types [] Γ h = refl
  scope_same j (ml.more_types f fs) (x ∷ xs) Γ h =
      scope_same (suc j) fs xs (cond (is_field_again (length (shapes_of us)) x) Γ (with_position j (shape_in d (shapes_of us) x) Γ)) h.1
      ∙ ap (field_scope d us (suc j) fs)
      (ap₂ (λ b s. cond b Γ (with_position j s Γ)) (again_same f x h.0.again) (sym (h.0.shape us)))
  scope_same j ml.no_types (x ∷ xs) Γ h = absurd h
  scope_same j (ml.more_types f fs) [] Γ h = absurd h

  fields_same : (n : ℕ) (Γ : Scope) (c j : ℕ) (fs : MlTypes) (xs : List Field) → AreFields d fs xs
      → cells_of_fields n Γ c (shapes_of us) j xs ≡ field_cells n Γ d c us j fs
  fields_same n Γ c j ml.no_types [] h = refl
  fields_same n Γ c j (ml.more_types f fs) (x ∷ xs) h =
      let a : Cells = cond (is_field_again (length (shapes_of us)) x) (cells_of_parameters n Γ c j 0 (shapes_of us)) no_cells in
      ap (both_cells a) (fields_same (n + length a.unknowns) Γ c (suc j) fs xs h.1)
      ∙ ap (λ (b : Cells). both_cells b (field_cells (n + length b.unknowns) Γ d c us (suc j) fs))
      (ap₂ (λ b p. cond b p no_cells) (again_same f x h.0.again) (parameters_same n Γ c j 0 us))
  fields_same n Γ c j ml.no_types (x ∷ xs) h = absurd h
  fields_same n Γ c j (ml.more_types f fs) [] h = absurd h

  pub constructors_same : (g : Signature) (n : ℕ) (cs : List ℕ) (ks : List (ℕ × List Field)) → AreConstructors g d cs ks
      → cells_of_constructors n d (shapes_of us) ks ≡ constructor_cells g n d us cs
  constructors_same g n [] [] h = refl
  constructors_same g n (c ∷ cs) (k ∷ ks) h =
      let fs : MlTypes = fields_of (g c) in
      let a : Cells = cells_of_fields n (scope_of_fields d (shapes_of us) 0 k.1 []) k.0 (shapes_of us) 0 k.1 in
      ap (both_cells a) (constructors_same g (n + length a.unknowns) cs ks h.2)
      ∙ ap (λ (b : Cells). both_cells b (constructor_cells g (n + length b.unknowns) d us cs))
      (ap₂ (λ (s : Scope) (e : ℕ). cells_of_fields n s e (shapes_of us) 0 k.1) (scope_same 0 fs k.1 [] h.1) h.0
      ∙ fields_same n (field_scope d us 0 fs []) c 0 fs k.1 h.1)
  constructors_same g n [] (k ∷ ks) h = absurd h
  constructors_same g n (c ∷ cs) [] h = absurd h

-- ---- where no field is the datatype again

pub none_again : (n : ℕ) (Γ : Scope) (c : ℕ) (ss : List Shape) (j : ℕ) (xs : List Field) → any_again (length ss) xs ≡ false
    → cells_of_fields n Γ c ss j xs ≡ no_cells
none_again n Γ c ss j [] h = refl
none_again n Γ c ss j (x ∷ xs) h = by (is_field_again (length ss) x) refl (none_again (n + 0) Γ c ss (suc j) xs)
  where
    by : (b : Bool) → is_field_again (length ss) x ≡ b
        → (any_again (length ss) xs ≡ false → cells_of_fields (n + 0) Γ c ss (suc j) xs ≡ no_cells)
        → cells_of_fields n Γ c ss j (x ∷ xs) ≡ no_cells
    by true e rest = absurd (true≢false (sym (ap (λ b. b || any_again (length ss) xs) e) ∙ h))
    by false e rest =
        ap (λ b. let a = cond b (cells_of_parameters n Γ c j 0 ss) no_cells in both_cells a (cells_of_fields (n + length a.unknowns) Γ c ss (suc j) xs)) e
        ∙ ap (both_cells no_cells) (rest (sym (ap (λ b. b || any_again (length ss) xs) e) ∙ h))
