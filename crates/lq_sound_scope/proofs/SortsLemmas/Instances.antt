-- Types with types for their variables.
use Rattle.std.proofs.Common.{◌≡◌, ◌⊎◌, inl, inr, ℕ, zero, suc, true, [], ◌∷◌, Some, None, refl, sym, ap, ap₂, subst}
use Rattle.lq_sound_scope.specs.Scopes.Over.{kind_of}
use Rattle.lq_logic_predicates.specs.declared.symbol.Symbol.{Symbol}
use Rattle.lq_logic_predicates.specs.declared.symbol.Symbol.TheVariants.{Value, Position}
use Rattle.lq_refined_types.specs.Types.Operations.{all_instantiated, instantiated, symbol_of}
use Rattle.lq_refined_types.specs.Types.Refined.{Matrix, Refined, int_with, bool_with, unit_type, function, tuple_of, array_with, data_with, map_with, type_variable, Refineds, none, more, Kind, number, truth_value, object, other, kind, type_at, all_erased}
use Rattle.lq_refined_types.proofs.TypesLemmas.Erasing.{instantiated-erased}
use Rattle.lq_text_qualifiers.specs.Faults.Shapes.{shape_of}
use Rattle.lq_text_qualifiers.specs.Faults.Shapes as shape
use Rattle.lq_refined_types.specs.Subtyping.Subtype.{fields_of}
use Rattle.lq_refined_templates.specs.Templates.Cells.{field_scope}
use Rattle.lq_refined_templates.specs.Templates.Scopes.{Unknown}
use Rattle.lq_text_tree.specs.MlType as ml
use Rattle.lq_text_tree.specs.MlType.{MlTypes}
use Rattle.lq_text_tree.specs.Types as types
use Rattle.lq_text_tree.specs.Types.{Signature, put_all}
use Rattle.lq_sound_scope.specs.Sorts.Sorts.{HasName, IsWithin, Sorts, scope_sorts, with_kind}
use Rattle.lq_sound_scope.specs.Sorts.Types.{CellsSorted, ComponentsSorted, InsideSorted, TopSorted, TypeSorted, TypesSorted, cell_sorts}
use Rattle.lq_sound_scope.proofs.SortsLemmas.Basics.{both_within, wider_kind, within_kind}
use Rattle.lq_sound_scope.proofs.SortsLemmas.Parts.{parts_within}
use Rattle.lq_sound_scope.proofs.SortsLemmas.Scopes.{argument_grows, fields_grow, no_one}
use Rattle.lq_sound_scope.proofs.SortsLemmas.Types.{types_within}

only_other : (N : Sorts) (x : ℕ) → HasName N other x → N other (symbol_of x) ≡ true
only_other N x (inl q) = q
only_other N x (inr q) = q

-- one more symbol at a kind that grows
grown : (N M : Sorts) → IsWithin N M → (k j : Kind) → (k ≡ other) ⊎ (j ≡ k) → (x : Symbol) → IsWithin (with_kind N k x) (with_kind M j x)
grown N M w k j (inr e) x = subst (λ (i : Kind). IsWithin (with_kind N k x) (with_kind M i x)) (sym e) (wider_kind N M w k x)
grown N M w k j (inl e) x =
    subst (λ (i : Kind). IsWithin (with_kind N i x) (with_kind M j x)) (sym e) (both_within (with_kind N other x) M (with_kind M j x) plain (within_kind M j x))
  where
    plain : IsWithin (with_kind N other x) M
    plain = both_within (with_kind N other x) N M (no_one N x) w

module _ (g : Signature) (unknowns : ℕ → Unknown) where
  pub type_there : (N : Sorts) (ts : Refineds) → TypesSorted g unknowns N ts → (i : ℕ) → TypeSorted g unknowns N (type_at ts i)
  type_there N none h i = (tt, tt)
  type_there N (more t ts) h zero = (h.0, h.1)
  type_there N (more t ts) h (suc i) = type_there N ts h.2 i

  module _ (Ts : Refineds) where
    -- a variable's kind is one of which no predicate speaks
    pub kind_grows : (t : Refined) → (kind t ≡ other) ⊎ (kind (instantiated Ts t) ≡ kind t)
    kind_grows (int_with p) = inr refl
    kind_grows (bool_with p) = inr refl
    kind_grows unit_type = inl refl
    kind_grows (function x a b) = inl refl
    kind_grows (tuple_of ts) = inl refl
    kind_grows (array_with e p) = inr refl
    kind_grows (data_with d ts m p) = inr refl
    kind_grows (map_with e p) = inl refl
    kind_grows (type_variable i) = inl refl

    erased_instance : (ts : Refineds) → all_erased (all_instantiated Ts ts) ≡ put_all (types.type_at (all_erased Ts)) (all_erased ts)
    erased_instance none = refl
    erased_instance (more t ts) = ap₂ ml.more_types (instantiated-erased Ts t) (erased_instance ts)

    kind_of_grows : (us vs : MlTypes) (i : ℕ)
        → (shape_of (types.type_at us i) ≡ shape.other) ⊎ (shape_of (types.type_at vs i) ≡ shape_of (types.type_at us i))
        → (kind_of (shape_of (types.type_at us i)) ≡ other) ⊎ (kind_of (shape_of (types.type_at vs i)) ≡ kind_of (shape_of (types.type_at us i)))
    kind_of_grows us vs i (inl e) = inl (ap kind_of e)
    kind_of_grows us vs i (inr e) = inr (ap kind_of e)

    cells_by : (d : ℕ) (us : MlTypes) (m : Matrix) → CellsSorted g unknowns d us m
        → CellsSorted g unknowns d (put_all (types.type_at (all_erased Ts)) us) m
    cells_by d us [] h = tt
    cells_by d us (e ∷ m) h =
        let by = types.type_at (all_erased Ts) in
        let vs = put_all by us in
        let fs = fields_of (g e.constructor) in (
          parts_within unknowns (cell_sorts g unknowns d us e.constructor e.parameter) (cell_sorts g unknowns d vs e.constructor e.parameter)
              (grown (scope_sorts (field_scope d us 0 fs [])) (scope_sorts (field_scope d vs 0 fs [])) (fields_grow by d us fs)
              (kind_of (shape_of (types.type_at us e.parameter))) (kind_of (shape_of (types.type_at vs e.parameter)))
              (kind_of_grows us vs e.parameter (argument_grows by us e.parameter)) Value) e.parts h.0,
          cells_by d us m h.1,
        )

    cells_instance : (d : ℕ) (ts : Refineds) (m : Matrix) → CellsSorted g unknowns d (all_erased ts) m
        → CellsSorted g unknowns d (all_erased (all_instantiated Ts ts)) m
    cells_instance d ts m h =
        subst (λ (us : MlTypes). CellsSorted g unknowns d us m) (sym (erased_instance ts)) (cells_by d (all_erased ts) m h)

    -- tops over sorts that grow
    top_instance : (N M : Sorts) → IsWithin N M → TypesSorted g unknowns M Ts → (t : Refined) → TopSorted unknowns N t
        → TopSorted unknowns M (instantiated Ts t)
    top_instance N M w a (int_with p) h = parts_within unknowns (with_kind N number Value) (with_kind M number Value) (wider_kind N M w number Value) p h
    top_instance N M w a (bool_with p) h =
        parts_within unknowns (with_kind N truth_value Value) (with_kind M truth_value Value) (wider_kind N M w truth_value Value) p h
    top_instance N M w a unit_type h = tt
    top_instance N M w a (function x b c) h = tt
    top_instance N M w a (tuple_of ts) h = tt
    top_instance N M w a (array_with e p) h = parts_within unknowns (with_kind N object Value) (with_kind M object Value) (wider_kind N M w object Value) p h
    top_instance N M w a (data_with d ts m p) h =
        parts_within unknowns (with_kind N object Value) (with_kind M object Value) (wider_kind N M w object Value) p h
    top_instance N M w a (map_with e p) h = parts_within unknowns (with_kind N other Value) (with_kind M other Value) (wider_kind N M w other Value) p h
    top_instance N M w a (type_variable i) h = (type_there M Ts a i).1

    name_instance : (N : Sorts) (x : ℕ) (t : Refined) → HasName N (kind t) x → HasName N (kind (instantiated Ts t)) x
    name_instance N x t h = by (kind_grows t) h
      where
        by : (kind t ≡ other) ⊎ (kind (instantiated Ts t) ≡ kind t) → HasName N (kind t) x → HasName N (kind (instantiated Ts t)) x
        by (inr e) k = subst (λ (i : Kind). HasName N i x) (sym e) k
        by (inl e) k = inr (only_other N x (subst (λ (i : Kind). HasName N i x) e k))

    module _ (N : Sorts) (a : TypesSorted g unknowns N Ts) where
      mutual
        inside_instance : (t : Refined) → InsideSorted g unknowns N t → InsideSorted g unknowns N (instantiated Ts t)
        inside_instance (int_with p) h = tt
        inside_instance (bool_with p) h = tt
        inside_instance unit_type h = tt
        inside_instance (function None b c) h =
            (inside_instance b h.0, top_instance N N (λ k x e. e) a b h.1, inside_instance c h.2, top_instance N N (λ k x e. e) a c h.3)
        inside_instance (function (Some x) b c) h = (
          name_instance N x b h.0,
          inside_instance b h.1,
          top_instance N N (λ k x e. e) a b h.2,
          inside_instance c h.3,
          top_instance N N (λ k x e. e) a c h.4,
        )
        inside_instance (tuple_of ts) h = components_instance N N (λ k x e. e) (λ k x e. e) 0 ts h
        inside_instance (array_with e p) h = (inside_instance e h.0, top_instance N N (λ k x e. e) a e h.1)
        inside_instance (data_with d ts m p) h = (types_instance ts h.0, cells_instance d ts m h.1)
        inside_instance (map_with e p) h =
            let M = with_kind N number (Position 0) in
            (inside_instance e h.0, top_instance M M (λ k x e. e) (types_within g unknowns N M (within_kind N number (Position 0)) Ts a) e h.1)
        inside_instance (type_variable i) h = (type_there N Ts a i).0

        types_instance : (ts : Refineds) → TypesSorted g unknowns N ts → TypesSorted g unknowns N (all_instantiated Ts ts)
        types_instance none h = tt
        types_instance (more t ts) h = (inside_instance t h.0, top_instance N N (λ k x e. e) a t h.1, types_instance ts h.2)

        components_instance : (K L : Sorts) → IsWithin K L → IsWithin N L → (j : ℕ) (ts : Refineds) → ComponentsSorted g unknowns N K j ts
            → ComponentsSorted g unknowns N L j (all_instantiated Ts ts)
        components_instance K L v i j none h = tt
        components_instance K L v i j (more t ts) h =
            let x = Position (suc j) in
            let k = kind (instantiated Ts t) in (
              inside_instance t h.0,
              top_instance K L v (types_within g unknowns N L i Ts a) t h.1,
              components_instance (with_kind K (kind t) x) (with_kind L k x) (grown K L v (kind t) k (kind_grows t) x)
                  (both_within N L (with_kind L k x) i (within_kind L k x)) (suc j) ts h.2,
            )

      pub instance_sorted : (t : Refined) → TypeSorted g unknowns N t → TypeSorted g unknowns N (instantiated Ts t)
      instance_sorted t h = (inside_instance t h.0, top_instance N N (λ k x e. e) a t h.1)
