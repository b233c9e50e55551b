-- What is put for the fields of constructors: operands, and the names of patterns.
use Rattle.std.proofs.Common.{◌≡◌, ◌∙◌, ℕ, suc, ◌<◌, true, List, [], ◌∷◌, length, refl, sym, ap, subst, arith}
use Rattle.lq_refined_rules.specs.Checks.Basis.{Basis}
use Rattle.lq_refined_rules.specs.Checks.Fitting.{Fits, GiveSimpleTypes}
use Rattle.lq_refined_rules.specs.Checks.Match.{names_for}
use Rattle.lq_refined_rules.specs.Checks.Pure.{operands_for, pure_atom}
use Rattle.lq_refined_rules.specs.Checks.Tree.{Pure}
use Rattle.lq_refined_rules.specs.Checks.Typing.{AreTemplates, Points, Types, HavePures, have_more}
use Rattle.lq_sound_scope.specs.Scopes.Over.{kind_of}
use Rattle.lq_sound_scope.proofs.ScopesLemmas.Made.{own_kind}
use Rattle.lq_sound_values.proofs.NewNamesLemmas.Fields.{less_apart}
use Rattle.lq_refined_types.specs.Parts.Substitution.{Atom, of_sum, of_formula, Subst, swap}
use Rattle.lq_logic_predicates.specs.declared.symbol.Symbol.TheVariants.{Position, Value}
use Rattle.lq_refined_types.specs.Types.Context.{Context}
use Rattle.lq_refined_types.specs.Types.Operations.{atom_of, symbol_of}
use Rattle.lq_refined_types.specs.Types.Refined.{Matrix, Refineds, Kind, kind, all_erased}
use Rattle.lq_refined_types.specs.Types.Unfolding.{unfolded_from}
use Rattle.lq_refined_types.proofs.TypesLemmas.Erasing.{unfolded-erased}
use Rattle.lq_sound_scope.specs.Scalars.Written.{EachUseIn}
use Rattle.lq_text_qualifiers.specs.Faults.Shapes.{shape_of}
use Rattle.lq_refined_types.specs.Subtyping.Splitting.{first_of, rest_of}
use Rattle.lq_refined_templates.specs.Templates.Scopes.{Unknown, symbols_in}
use Rattle.lq_text_tree.specs.MlType as ml
use Rattle.lq_text_tree.specs.MlType.{MlType, MlTypes}
use Rattle.lq_text_tree.specs.Types as types
use Rattle.lq_text_tree.specs.Types.{count_types, put, put_all}
use Rattle.lq_sound_scope.specs.Sorts.Sorts.{IsAtomOf, Sorts}
use Rattle.lq_sound_scope.specs.Sorts.Types.{TypesSorted}
use Rattle.lq_sound_scope.proofs.SortsLemmas.Basics.{first_stands, later_stands}
use Rattle.lq_sound_scope.proofs.SortsLemmas.Fields.{FieldsStand}
use Rattle.lq_sound_scope.proofs.SortsLemmas.Types.{Leaves, name_atom}
use Rattle.lq_sound_adequacy.specs.Obligations.Kinds.{ComponentKinds, NameKind}
use Rattle.lq_sound_adequacy.specs.Obligations.Sorted.{TwinsAlike}
use Rattle.lq_sound_adequacy.proofs.ObligationsLemmas.Pures as pures
use Rattle.lq_sound_adequacy.proofs.ObligationsLemmas.Pures.{IsFixed, Sorted, atom_stands, name_has, pure_kind}

-- v is left
pub position_leaves : (i : ℕ) (a : Atom) (θ : Subst) → Leaves θ Value → Leaves (swap (Position i) a ∷ θ) Value
position_leaves i (of_sum t) θ l = l
position_leaves i (of_formula p) θ l = l

pub names_leave : (j : ℕ) (xs : List ℕ) (ts : Refineds) → Leaves (names_for j xs ts) Value
names_leave j [] ts = (refl, refl)
names_leave j (x ∷ xs) ts =
    position_leaves (suc j) (atom_of (kind (first_of ts)) (symbol_of x)) (names_for (suc j) xs (rest_of ts)) (names_leave (suc j) xs (rest_of ts))

pub operands_leave : (P : Basis) (Γ : Context) (j : ℕ) (es : List Pure) → Leaves (operands_for P Γ j es) Value
operands_leave P Γ j [] = (refl, refl)
operands_leave P Γ j (e ∷ es) = position_leaves (suc j) (pure_atom P Γ e) (operands_for P Γ (suc j) es) (operands_leave P Γ (suc j) es)

module _ (N : Sorts) (us : MlTypes) where
  -- with something for an earlier position
  fields_later : (i : ℕ) (a : Atom) (θ : Subst) (j : ℕ) (fs : MlTypes) → i < j → FieldsStand N us θ j fs → FieldsStand N us (swap (Position (suc i)) a ∷ θ) j fs
  fields_later i a θ j ml.no_types l h = tt
  fields_later i a θ j (ml.more_types f fs) l h = (
    later_stands N (kind_of (shape_of (put (types.type_at us) f))) (Position (suc i)) a θ (Position (suc j)) (less_apart (suc i) (suc j) (omega (arith, l))) h.0,
    fields_later i a θ (suc j) fs (omega (arith, l)) h.1,
  )

  -- and for v
  pub fields_value : (a : Atom) (θ : Subst) (j : ℕ) (fs : MlTypes) → FieldsStand N us θ j fs → FieldsStand N us (swap Value a ∷ θ) j fs
  fields_value a θ j ml.no_types h = tt
  fields_value a θ j (ml.more_types f fs) h =
      (later_stands N (kind_of (shape_of (put (types.type_at us) f))) Value a θ (Position (suc j)) refl h.0, fields_value a θ (suc j) fs h.1)

  -- one field
  pub field_first : (a : Atom) (θ : Subst) (j : ℕ) (f : MlType) (fs : MlTypes) → IsAtomOf N (kind_of (shape_of (put (types.type_at us) f))) a
      → FieldsStand N us θ (suc j) fs → FieldsStand N us (swap (Position (suc j)) a ∷ θ) j (ml.more_types f fs)
  field_first a θ j f fs o h =
      (first_stands N (kind_of (shape_of (put (types.type_at us) f))) (Position (suc j)) a θ o, fields_later j a θ (suc j) fs (omega arith) h)

abbrev first_type : MlTypes → MlType
first_type ml.no_types = ml.unit
first_type (ml.more_types t ts) = t

module _ (P : Basis) (unknowns : ℕ → Unknown) (K : ℕ → NameKind) where
  abbrev N : Sorts
  N = pures.N P unknowns K

  module _ (d : ℕ) (ts : Refineds) (M : Matrix) (c : ℕ) where
    abbrev fields_at : Subst → ℕ → MlTypes → Refineds
    fields_at θ j fs = unfolded_from P.setting.scopes θ d ts M c j fs

    field_kind : (θ : Subst) (j : ℕ) (f : MlType) (fs : MlTypes)
        → kind (first_of (fields_at θ j (ml.more_types f fs))) ≡ kind_of (shape_of (put (types.type_at (all_erased ts)) f))
    field_kind θ j f fs =
        own_kind (first_of (fields_at θ j (ml.more_types f fs)))
        ∙ ap (λ vs. kind_of (shape_of (first_type vs))) (unfolded-erased P.setting.scopes θ d ts M c j (ml.more_types f fs))

    -- names of the kinds of fields
    pub names_stand : (θ : Subst) (j : ℕ) (xs : List ℕ) (fs : MlTypes) → length xs ≡ count_types fs → ComponentKinds P K xs (fields_at θ j fs)
        → FieldsStand N (all_erased ts) (names_for j xs (fields_at [] j fs)) j fs
    names_stand θ j xs ml.no_types l h = tt
    names_stand θ j [] (ml.more_types f fs) l h = cc
    names_stand θ j (x ∷ xs) (ml.more_types f fs) l h =
        let t = first_of (fields_at θ j (ml.more_types f fs)) in
        let k = kind_of (shape_of (put (types.type_at (all_erased ts)) f)) in
        let own = subst (λ (i : Kind). N i (symbol_of x) ≡ true) (field_kind θ j f fs) (name_has K x t h.0) in
        let a = subst (λ (i : Kind). IsAtomOf N k (atom_of i (symbol_of x))) (sym (field_kind [] j f fs)) (name_atom P.setting.constructors unknowns N k (symbol_of x) own) in
        let one : length xs ≡ count_types fs = omega (arith, l) in
        field_first N (all_erased ts) (atom_of (kind (first_of (fields_at [] j (ml.more_types f fs)))) (symbol_of x)) (names_for (suc j) xs (fields_at [] (suc j) fs)) j f fs a
        (names_stand θ (suc j) xs fs one h.1)

  module _ (twins : TwinsAlike K) (arguments : (i : ℕ) → TypesSorted P.setting.constructors unknowns N (P.type_arguments i))
      (agree : (u : ℕ) → P.setting.scopes u ≡ symbols_in (unknowns u).0) (Q : Points) (templates : AreTemplates P Q) (give : GiveSimpleTypes P Q) where
    -- operands of the kinds of fields
    pub operands_stand : (Δ : Types) (Γ : Context) → Fits Δ Γ → Sorted P unknowns K Γ → (us : MlTypes) (j : ℕ) (es : List Pure) (fs : MlTypes)
        → HavePures Q Δ es (put_all (types.type_at us) fs) → EachUseIn (IsFixed P unknowns K) es → FieldsStand N us (operands_for P Γ j es) j fs
    operands_stand Δ Γ f s us j es ml.no_types h w = tt
    operands_stand Δ Γ f s us j [] (ml.more_types g fs) h w = elim h [ ]
    operands_stand Δ Γ f s us j (e ∷ es) (ml.more_types g fs) (have_more h hs) w =
        field_first N us (pure_atom P Γ e) (operands_for P Γ (suc j) es) j g fs
        (subst (λ (k : Kind). IsAtomOf N k (pure_atom P Γ e)) (pure_kind P unknowns K twins arguments agree Q templates give Δ Γ f h)
        (atom_stands P unknowns K twins arguments agree Q templates give Δ Γ f s h w.0))
        (operands_stand Δ Γ f s us (suc j) es fs hs w.1)
