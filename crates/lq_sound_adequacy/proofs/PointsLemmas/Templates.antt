-- Templates have matrices whose entries have places of their own.
use Rattle.std.proofs.Common.{ℕ, zero, suc, ◌+◌, List, [], ◌∷◌, length, Option}
use Rattle.lq_refined_instances.specs.Scopes.{Scope}
use Rattle.lq_refined_types.specs.Parts.Part.{Parts}
use Rattle.lq_logic_predicates.specs.declared.symbol.Symbol.TheVariants.{Position}
use Rattle.lq_refined_types.specs.Types.Refined.{Refined, int_with, bool_with, unit_type, function, tuple_of, array_with, data_with, map_with, type_variable, Refineds, none, more, with_top}
use Rattle.lq_text_qualifiers.specs.Faults.Shapes.{Shape, int, bool, array, data_of, shape_of}
use Rattle.lq_text_qualifiers.specs.Faults.Shapes as shape
use Rattle.lq_refined_types.specs.Subtyping.Splitting.{first_of}
use Rattle.lq_refined_rules.specs.Checks.Binders.{AllDiffer}
use Rattle.lq_refined_rules.specs.Checks.Operation.{empty_type}
use Rattle.lq_refined_templates.specs.Templates.Cells.{constructor_cells, one_unknown}
use Rattle.lq_refined_templates.specs.Templates.Fresh.{Made, arguments, components, first_name, inside, later_names, topped}
use Rattle.lq_refined_templates.specs.Templates.Scopes as scopes
use Rattle.lq_refined_templates.specs.Templates.Scopes.{with_position}
use Rattle.lq_text_tree.specs.MlType as ml
use Rattle.lq_text_tree.specs.MlType.{MlType, MlTypes}
use Rattle.lq_text_tree.specs.Types.{Signature}
use Rattle.lq_refined_templates.specs.Points.Point.{Point, whole, inner, constant, empty, each, idle}
use Rattle.lq_refined_templates.specs.Points.Templates.{Datatypes, plain, all_plain, emptied, all_emptied, made_constant, made_at, templates_from, templates_at}
use Rattle.lq_sound_adequacy.specs.Reflexivity.Laws.{AreFound, HasOwnPlaces, HaveOwnPlaces}
use Rattle.lq_sound_adequacy.specs.Points.Laws.{TemplatesHaveOwnPlaces}
use Rattle.lq_sound_adequacy.proofs.PointsLemmas.Entries.{constructor_places, found}

with_top_places : (q : Parts) (t : Refined) → HasOwnPlaces t → HasOwnPlaces (with_top q t)
with_top_places q (int_with p) h = h
with_top_places q (bool_with p) h = h
with_top_places q unit_type h = h
with_top_places q (function x a b) h = h
with_top_places q (tuple_of ts) h = h
with_top_places q (array_with e p) h = h
with_top_places q (data_with d ts m p) h = h
with_top_places q (map_with e p) h = h
with_top_places q (type_variable i) h = h

topped_places : (n : ℕ) (Γ : Scope) (s : Shape) (m : Made) → HasOwnPlaces m.type → HasOwnPlaces (topped n Γ s m).type
topped_places n Γ int m h = with_top_places (one_unknown (n + length m.unknowns)) m.type h
topped_places n Γ bool m h = with_top_places (one_unknown (n + length m.unknowns)) m.type h
topped_places n Γ array m h = with_top_places (one_unknown (n + length m.unknowns)) m.type h
topped_places n Γ (data_of d) m h = with_top_places (one_unknown (n + length m.unknowns)) m.type h
topped_places n Γ shape.other m h = h

empty_places : (t : Refined) → HasOwnPlaces t → HasOwnPlaces (empty_type t)
empty_places (int_with p) h = h
empty_places (bool_with p) h = h
empty_places unit_type h = h
empty_places (function x a b) h = h
empty_places (tuple_of ts) h = h
empty_places (array_with e p) h = h
empty_places (data_with d ts m p) h = h
empty_places (map_with e p) h = h
empty_places (type_variable i) h = h

mutual
  plain_places : (t : MlType) → HasOwnPlaces (plain t)
  plain_places ml.int = tt
  plain_places ml.bool = tt
  plain_places ml.unit = tt
  plain_places (ml.var i) = tt
  plain_places (ml.arrow a b) = (plain_places a, plain_places b)
  plain_places (ml.tuple ts) = all_plain_places ts
  plain_places (ml.array a) = plain_places a
  plain_places (ml.named d ts) = (all_plain_places ts, tt)
  plain_places (ml.map_of a) = plain_places a

  all_plain_places : (ts : MlTypes) → HaveOwnPlaces (all_plain ts)
  all_plain_places ml.no_types = tt
  all_plain_places (ml.more_types t ts) = (plain_places t, all_plain_places ts)

module _ (g : Signature) (ordered : ℕ → List ℕ) (differ : (d : ℕ) → AllDiffer (ordered d)) where
  cells_found : (n d : ℕ) (us : MlTypes) → AreFound (constructor_cells g n d us (ordered d)).matrix (constructor_cells g n d us (ordered d)).matrix
  cells_found n d us = found (constructor_cells g n d us (ordered d)).matrix (constructor_places g n d us (ordered d) (differ d)).1

  mutual
    inside_places : (n : ℕ) (Γ : Scope) (xs : List (Option ℕ)) (t : MlType) → HasOwnPlaces (inside g ordered n Γ xs t).type
    inside_places n Γ xs ml.int = tt
    inside_places n Γ xs ml.bool = tt
    inside_places n Γ xs ml.unit = tt
    inside_places n Γ xs (ml.var i) = tt
    inside_places n Γ xs (ml.arrow a b) =
        let s : Made = topped n Γ (shape_of a) (inside g ordered n Γ [] a) in
        let Δ : Scope = scopes.with_argument (first_name xs) (shape_of a) Γ in
        let k : ℕ = n + length s.unknowns in (
          topped_places n Γ (shape_of a) (inside g ordered n Γ [] a) (inside_places n Γ [] a),
          topped_places k Δ (shape_of b) (inside g ordered k Δ (later_names xs) b) (inside_places k Δ (later_names xs) b),
        )
    inside_places n Γ xs (ml.tuple ts) = components_places n Γ Γ 0 ts
    inside_places n Γ xs (ml.array a) = topped_places n Γ (shape_of a) (inside g ordered n Γ [] a) (inside_places n Γ [] a)
    inside_places n Γ xs (ml.named d ts) = (arguments_places n Γ ts, cells_found (n + length (arguments g ordered n Γ ts).unknowns) d ts)
    inside_places n Γ xs (ml.map_of a) =
        topped_places n (scopes.with_symbol (Position 0) int Γ) (shape_of a) (inside g ordered n Γ [] a) (inside_places n Γ [] a)

    components_places : (n : ℕ) (Γ Δ : Scope) (k : ℕ) (ts : MlTypes) → HaveOwnPlaces (components g ordered n Γ Δ k ts).types
    components_places n Γ Δ k ml.no_types = tt
    components_places n Γ Δ k (ml.more_types t ts) =
        let m : Made = topped n Δ (shape_of t) (inside g ordered n Γ [] t) in (
          topped_places n Δ (shape_of t) (inside g ordered n Γ [] t) (inside_places n Γ [] t),
          components_places (n + length m.unknowns) Γ (with_position k (shape_of t) Δ) (suc k) ts,
        )

    arguments_places : (n : ℕ) (Γ : Scope) (ts : MlTypes) → HaveOwnPlaces (arguments g ordered n Γ ts).types
    arguments_places n Γ ml.no_types = tt
    arguments_places n Γ (ml.more_types t ts) =
        let m : Made = topped n Γ (shape_of t) (inside g ordered n Γ [] t) in
        (topped_places n Γ (shape_of t) (inside g ordered n Γ [] t) (inside_places n Γ [] t), arguments_places (n + length m.unknowns) Γ ts)

module _ (D : Datatypes) (differ : (d : ℕ) → AllDiffer (D.ordered d)) where
  own : (n : ℕ) (Γ : Scope) (xs : List (Option ℕ)) (t : MlType) → HasOwnPlaces (inside D.constructors D.ordered n Γ xs t).type
  own n Γ xs t = inside_places D.constructors D.ordered differ n Γ xs t

  all_emptied_places : (n : ℕ) (Γ : Scope) (ts : MlTypes) → HaveOwnPlaces (all_emptied D n Γ ts).types
  all_emptied_places n Γ ml.no_types = tt
  all_emptied_places n Γ (ml.more_types t ts) =
      let m : Made = emptied D n Γ t in
      (empty_places (inside D.constructors D.ordered n Γ [] t).type (own n Γ [] t), all_emptied_places (n + length m.unknowns) Γ ts)

  constant_places : (n : ℕ) (Γ : Scope) (t : MlType) → HasOwnPlaces (made_constant D n Γ t).type
  constant_places n Γ ml.int = tt
  constant_places n Γ ml.bool = tt
  constant_places n Γ ml.unit = tt
  constant_places n Γ (ml.var i) = tt
  constant_places n Γ (ml.arrow a b) = own n Γ [] (ml.arrow a b)
  constant_places n Γ (ml.tuple ts) = own n Γ [] (ml.tuple ts)
  constant_places n Γ (ml.array a) = own n Γ [] (ml.array a)
  constant_places n Γ (ml.named d ts) =
      (all_emptied_places n Γ ts, cells_found D.constructors D.ordered differ (n + length (all_emptied D n Γ ts).unknowns) d ts)
  constant_places n Γ (ml.map_of a) = own n Γ [] (ml.map_of a)

  made_places : (n : ℕ) (q : Point) → HaveOwnPlaces (made_at D n q).types
  made_places n (whole Γ xs t) = (topped_places n Γ (shape_of t) (inside D.constructors D.ordered n Γ xs t) (own n Γ xs t), tt)
  made_places n (inner Γ t) = (own n Γ [] t, tt)
  made_places n (constant Γ t) = (constant_places n Γ t, tt)
  made_places n (empty Γ t) = (empty_places (inside D.constructors D.ordered n Γ [] t).type (own n Γ [] t), tt)
  made_places n (each Γ ts) = arguments_places D.constructors D.ordered differ n Γ ts
  made_places n (idle ts) = all_plain_places ts

  all_places : (n : ℕ) (ps : List Point) (p : ℕ) → HaveOwnPlaces (templates_at (templates_from D n ps) p)
  all_places n [] p = tt
  all_places n (q ∷ ps) zero = made_places n q
  all_places n (q ∷ ps) (suc p) = all_places (n + length (made_at D n q).unknowns) ps p

first_places : (ts : Refineds) → HaveOwnPlaces ts → HasOwnPlaces (first_of ts)
first_places none h = tt
first_places (more t ts) h = h.0

pub template_places : TemplatesHaveOwnPlaces
template_places D differ ps p = first_places (templates_at (templates_from D 0 ps) p) (all_places D differ 0 ps p)
