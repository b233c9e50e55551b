-- Entries of matrices, in the environment of a constructor's fields.
use Rattle.std.proofs.Common.{◌≡◌, ◌∙◌, ℕ, zero, suc, Bool, true, false, cond, List, [], ◌∷◌, refl, sym, ap, subst}
use Rattle.std.proofs.lemmas.List.Elements.{All-nil, All-append}
use Rattle.lq_sound_scope.specs.Scopes.Over.{kind_of}
use Rattle.lq_sound_scope.proofs.ScopesLemmas.Made.{own_kind}
use Rattle.lq_sound_values.specs.Inclusion.Symbols.{Symbols}
use Rattle.lq_refined_types.specs.Parts.Part.{Parts}
use Rattle.lq_logic_predicates.specs.declared.symbol.Symbol.TheVariants.{Position, Value}
use Rattle.lq_refined_types.specs.Types.Context.{Context, guard, name}
use Rattle.lq_refined_types.specs.Types.Refined.{Cell, Matrix, Refineds, none, more, data_with, Kind, kind, top, type_at, count, all_erased}
use Rattle.lq_refined_types.specs.Types.Unfolding.{bare, cell, is_again, pushed, unfolded_from}
use Rattle.lq_refined_types.proofs.TypesLemmas.Erasing.{unfolded-erased}
use Rattle.lq_text_qualifiers.specs.Faults.Shapes.{shape_of}
use Rattle.lq_refined_types.specs.Subtyping.Implication.{Implication, Origin, goals}
use Rattle.lq_refined_types.specs.Subtyping.Splitting.{cells, first_of}
use Rattle.lq_refined_types.specs.Subtyping.Subtype.{Setting, cell_context, facts, fields_of, with_fields, with_guards}
use Rattle.lq_refined_templates.specs.Templates.Cells.{field_scope}
use Rattle.lq_refined_templates.specs.Templates.Scopes.{Unknown, symbols_in}
use Rattle.lq_text_tree.specs.MlType as ml
use Rattle.lq_text_tree.specs.MlType.{MlType, MlTypes}
use Rattle.lq_text_tree.specs.Types as types
use Rattle.lq_text_tree.specs.Types.{count_types, put}
use Rattle.lq_sound_scope.specs.Sorts.Sorts.{IsWithin, Sorts, StandsAt, scope_sorts, with_kind}
use Rattle.lq_sound_scope.specs.Sorts.Types.{CellsSorted, PartsSorted, TopSorted, cell_sorts}
use Rattle.lq_sound_scope.proofs.SortsLemmas.Basics.{both_within, own_stands, stands_within, wider_kind, within_kind}
use Rattle.lq_sound_scope.proofs.SortsLemmas.Fields.{FieldsStand, cell_sorted, fields_scope}
use Rattle.lq_sound_scope.proofs.SortsLemmas.Parts.{parts_within}
use Rattle.lq_sound_scope.proofs.SortsLemmas.Scopes.{sorts_in}
use Rattle.lq_sound_scope.proofs.SortsLemmas.Types.{top_within}
use Rattle.lq_sound_adequacy.specs.Implications.Sorted.{IsSortedFrom, sorts_and_value, sorts_of}
use Rattle.lq_sound_adequacy.proofs.ImplicationsLemmas.Parts as parts
use Rattle.lq_sound_adequacy.proofs.ImplicationsLemmas.Parts.{goals_sorted, guards_extend, guards_facts, with_name}
use Rattle.lq_sound_adequacy.proofs.ImplicationsLemmas.Types.{TypesIn}

kind_there : (ts : Refineds) (i : ℕ) → kind (type_at ts i) ≡ kind_of (shape_of (types.type_at (all_erased ts) i))
kind_there none i = refl
kind_there (more t ts) zero = own_kind t
kind_there (more t ts) (suc i) = kind_there ts i

abbrev first_type : MlTypes → MlType
first_type ml.no_types = ml.unit
first_type (ml.more_types t ts) = t

-- ---- fields

fields_within : (j : ℕ) (ts : Refineds) (Γ : Context) → IsWithin (sorts_of Γ) (sorts_of (with_fields j ts Γ))
fields_within j none Γ = λ k x e. e
fields_within j (more t ts) Γ =
    let Λ = name (Position (suc j)) t ∷ Γ in
    both_within (sorts_of Γ) (sorts_of Λ) (sorts_of (with_fields (suc j) ts Λ)) (within_kind (sorts_of Γ) (kind t) (Position (suc j))) (fields_within (suc j) ts Λ)

guards_within : (qs : Parts) (Γ : Context) → IsWithin (sorts_of Γ) (sorts_of (with_guards qs Γ))
guards_within [] Γ = λ k x e. e
guards_within (q ∷ qs) Γ = guards_within qs (guard q ∷ Γ)

module _ (P : Setting) (unknowns : ℕ → Unknown) (agree : (u : ℕ) → P.scopes u ≡ symbols_in (unknowns u).0) where
  abbrev TopsSorted : Sorts → Refineds → Type 0
  TopsSorted N none = Unit {0}
  TopsSorted N (more t ts) = TopSorted unknowns N t × TopsSorted N ts

  tops_within : (N M : Sorts) → IsWithin N M → (ts : Refineds) → TopsSorted N ts → TopsSorted M ts
  tops_within N M w none h = tt
  tops_within N M w (more t ts) h = (top_within unknowns N M w t h.0, tops_within N M w ts h.1)

  top_there : (N : Sorts) (ts : Refineds) → TypesIn P.constructors unknowns N ts → (i : ℕ) → TopSorted unknowns N (type_at ts i)
  top_there N none h i = tt
  top_there N (more t ts) h zero = h.1
  top_there N (more t ts) h (suc i) = top_there N ts h.2 i

  bare_top : (N : Sorts) (ts : Refineds) → TypesIn P.constructors unknowns N ts → (f : MlType) → TopSorted unknowns N (bare ts f)
  bare_top N ts h ml.int = tt
  bare_top N ts h ml.bool = tt
  bare_top N ts h ml.unit = tt
  bare_top N ts h (ml.var i) = top_there N ts h i
  bare_top N ts h (ml.arrow a b) = tt
  bare_top N ts h (ml.tuple us) = tt
  bare_top N ts h (ml.array a) = tt
  bare_top N ts h (ml.named e us) = tt
  bare_top N ts h (ml.map_of a) = tt

  -- the fields as more names
  module _ (X : Symbols) (start : Context) (positions : (i : ℕ) → X (Position i) ≡ true) where
    with_all : (j : ℕ) (ts : Refineds) (Γ : Context) → parts.IsEnvironment P unknowns agree X start Γ → TopsSorted (sorts_of Γ) ts
        → parts.IsEnvironment P unknowns agree X start (with_fields j ts Γ)
    with_all j none Γ h w = h
    with_all j (more t ts) Γ h w =
        let x = Position (suc j) in
        with_all (suc j) ts (name x t ∷ Γ) (with_name P unknowns agree X start Γ x t h (positions (suc j)) refl w.0)
        (tops_within (sorts_of Γ) (sorts_of (name x t ∷ Γ)) (within_kind (sorts_of Γ) (kind t) x) ts w.1)

  module _ (d : ℕ) (ts : Refineds) (m : Matrix) (c : ℕ) where
    abbrev fields : ℕ → MlTypes → Refineds
    fields j fs = unfolded_from P.scopes [] d ts m c j fs

    fields_tops : (N : Sorts) → TypesIn P.constructors unknowns N ts → (j : ℕ) (fs : MlTypes) → TopsSorted N (fields j fs)
    fields_tops N h j ml.no_types = tt
    fields_tops N h j (ml.more_types f fs) = (by (is_again d (count ts) f), fields_tops N h (suc j) fs)
      where
        by : (b : Bool) → TopSorted unknowns N (cond b (data_with d (pushed P.scopes [] m c j 0 ts) m []) (bare ts f))
        by true = tt
        by false = bare_top N ts h f

    field_kind : (j : ℕ) (f : MlType) (fs : MlTypes) → kind (first_of (fields j (ml.more_types f fs))) ≡ kind_of (shape_of (put (types.type_at (all_erased ts)) f))
    field_kind j f fs =
        own_kind (first_of (fields j (ml.more_types f fs)))
        ∙ ap (λ vs. kind_of (shape_of (first_type vs))) (unfolded-erased P.scopes [] d ts m c j (ml.more_types f fs))

    -- each field stands for itself
    fields_there : (j : ℕ) (fs : MlTypes) (Γ : Context) → FieldsStand (sorts_of (with_fields j (fields j fs) Γ)) (all_erased ts) [] j fs
    fields_there j ml.no_types Γ = tt
    fields_there j (ml.more_types f fs) Γ =
        let x = Position (suc j) in
        let t = first_of (fields j (ml.more_types f fs)) in
        let Λ = name x t ∷ Γ in (
          subst (λ (k : Kind). StandsAt (sorts_of (with_fields (suc j) (fields (suc j) fs) Λ)) [] k x) (field_kind j f fs)
              (stands_within (sorts_of Λ) (sorts_of (with_fields (suc j) (fields (suc j) fs) Λ)) (fields_within (suc j) (fields (suc j) fs) Λ) [] (kind t) x
              (own_stands (sorts_of Γ) (kind t) x)),
          fields_there (suc j) fs Λ,
        )

  -- ---- implications of entries

  module _ (X : Symbols) (start : Context) (positions : (i : ℕ) → X (Position i) ≡ true) (o : Origin) (Γ : Context)
      (h : parts.IsEnvironment P unknowns agree X start Γ) (d : ℕ) (ts rs : Refineds) (m : Matrix)
      (types_in : TypesIn P.constructors unknowns (sorts_of Γ) ts) (left : CellsSorted P.constructors unknowns d (all_erased ts) m)
      (same : all_erased ts ≡ all_erased rs) where
    abbrev entry_goals : Cell → List Implication
    entry_goals e = goals (facts P (cell_context P Γ d ts m e)) (cell m e.constructor e.field e.parameter) e.parts o

    one_sorted : (e : Cell) → PartsSorted unknowns (cell_sorts P.constructors unknowns d (all_erased rs) e.constructor e.parameter) e.parts
        → parts.AllSorted P unknowns agree X start (entry_goals e)
    one_sorted e w =
        let fs = fields_of (P.constructors e.constructor) in
        let us = unfolded_from P.scopes [] d ts m e.constructor 0 fs in
        let Λ = with_fields 0 us Γ in
        let guards = top (type_at ts e.parameter) in
        let Δ = with_guards guards Λ in
        let k = kind (type_at ts e.parameter) in
        let V = sorts_and_value Δ k in
        -- the environment
        let more = guards_within guards Λ in
        let all = with_all X start positions 0 us Γ h (fields_tops d ts m e.constructor (sorts_of Γ) types_in 0 fs) in
        let outer = both_within (sorts_of Γ) (sorts_of Λ) (sorts_of Δ) (fields_within 0 us Γ) more in
        let guard_sorted = parts_within unknowns (with_kind (sorts_of Γ) k Value) V (wider_kind (sorts_of Γ) (sorts_of Δ) outer k Value) guards
        (top_there (sorts_of Γ) ts types_in e.parameter) in
        let known = guards_facts P unknowns agree V guards Λ
        (parts_within unknowns (sorts_of Λ) V (both_within (sorts_of Λ) (sorts_of Δ) V more (within_kind (sorts_of Δ) k Value)) (facts P Λ) all.1) guard_sorted in
        -- the entries
        let F = field_scope d (all_erased ts) 0 fs [] in
        let scope = sorts_in (sorts_of Λ) F (fields_scope (sorts_of Λ) d (all_erased ts) [] 0 fs [] (fields_there d ts m e.constructor 0 fs Γ) tt) in
        let own : IsWithin (cell_sorts P.constructors unknowns d (all_erased ts) e.constructor e.parameter) V =
        subst (λ (j : Kind). IsWithin (with_kind (scope_sorts F) j Value) V) (kind_there ts e.parameter)
        (wider_kind (scope_sorts F) (sorts_of Δ) (both_within (scope_sorts F) (sorts_of Λ) (sorts_of Δ) scope more) k Value) in
        let left_sorted = parts_within unknowns (cell_sorts P.constructors unknowns d (all_erased ts) e.constructor e.parameter) V own
        (cell m e.constructor e.field e.parameter) (cell_sorted P.constructors unknowns d (all_erased ts) m left e.constructor e.field e.parameter) in
        let goal_sorted = parts_within unknowns (cell_sorts P.constructors unknowns d (all_erased ts) e.constructor e.parameter) V own e.parts
        (subst (λ (vs : MlTypes). PartsSorted unknowns (cell_sorts P.constructors unknowns d vs e.constructor e.parameter) e.parts) (sym same) w) in
        goals_sorted P unknowns agree X start Δ k o (cell m e.constructor e.field e.parameter) e.parts (guards_extend P unknowns agree X start guards Λ all.0)
        known left_sorted goal_sorted

    pub cells_sorted : (n : Matrix) → CellsSorted P.constructors unknowns d (all_erased rs) n → parts.AllSorted P unknowns agree X start (cells P o Γ d ts m n)
    cells_sorted [] w = All-nil (IsSortedFrom P unknowns X start)
    cells_sorted (e ∷ n) w = All-append (IsSortedFrom P unknowns X start) (entry_goals e) (cells P o Γ d ts m n) (one_sorted e w.0) (cells_sorted n w.1)
