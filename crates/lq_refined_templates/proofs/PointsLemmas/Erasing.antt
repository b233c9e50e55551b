-- Templates of points have the simple types of the points.
use Rattle.std.proofs.Common.{◌≡◌, ℕ, zero, suc, ◌+◌, List, [], ◌∷◌, length, refl, ap}
use Rattle.lq_refined_rules.specs.Checks.Operation.{empty_type}
use Rattle.lq_refined_rules.specs.Checks.Typing.{first_type}
use Rattle.lq_refined_instances.specs.Scopes.{Scope}
use Rattle.lq_refined_types.specs.Parts.Part.{Parts}
use Rattle.lq_refined_types.specs.Types.Refined.{Refined, int_with, bool_with, unit_type, function, tuple_of, array_with, data_with, map_with, type_variable, Refineds, none, more, with_top, erased, all_erased}
use Rattle.lq_text_qualifiers.specs.Faults.Shapes.{Shape, int, bool, array, data_of, other, shape_of}
use Rattle.lq_refined_types.specs.Subtyping.Splitting.{first_of}
use Rattle.lq_refined_templates.specs.Templates.Cells.{one_unknown}
use Rattle.lq_refined_templates.specs.Templates.Fresh.{Made, arguments, fresh, inside, topped}
use Rattle.lq_refined_templates.specs.Templates.Laws.{TemplatesErase}
use Rattle.lq_text_tree.specs.MlType as ml
use Rattle.lq_text_tree.specs.MlType.{MlType, MlTypes}
use Rattle.lq_refined_templates.specs.Points.Point.{Point, whole, inner, constant, empty, each, idle, simple_types}
use Rattle.lq_refined_templates.specs.Points.Templates.{Datatypes, plain, all_plain, emptied, all_emptied, made_constant, made_at, templates_from, templates_at, types_at}

with_top_erased : (q : Parts) (t : Refined) → erased (with_top q t) ≡ erased t
with_top_erased q (int_with p) = refl
with_top_erased q (bool_with p) = refl
with_top_erased q unit_type = refl
with_top_erased q (function x a b) = refl
with_top_erased q (tuple_of ts) = refl
with_top_erased q (array_with e p) = refl
with_top_erased q (data_with d ts m p) = refl
with_top_erased q (map_with e p) = refl
with_top_erased q (type_variable i) = refl

topped_erased : (n : ℕ) (Δ : Scope) (s : Shape) (m : Made) → erased (topped n Δ s m).type ≡ erased m.type
topped_erased n Δ int m = with_top_erased (one_unknown (n + length m.unknowns)) m.type
topped_erased n Δ bool m = with_top_erased (one_unknown (n + length m.unknowns)) m.type
topped_erased n Δ array m = with_top_erased (one_unknown (n + length m.unknowns)) m.type
topped_erased n Δ (data_of d) m = with_top_erased (one_unknown (n + length m.unknowns)) m.type
topped_erased n Δ other m = refl

empty_erased : (t : Refined) → erased (empty_type t) ≡ erased t
empty_erased (int_with p) = refl
empty_erased (bool_with p) = refl
empty_erased unit_type = refl
empty_erased (function x a b) = refl
empty_erased (tuple_of ts) = refl
empty_erased (array_with e p) = refl
empty_erased (data_with d ts m p) = refl
empty_erased (map_with e p) = refl
empty_erased (type_variable i) = refl

mutual
  plain_erased : (t : MlType) → erased (plain t) ≡ t
  plain_erased ml.int = refl
  plain_erased ml.bool = refl
  plain_erased ml.unit = refl
  plain_erased (ml.var i) = refl
  plain_erased (ml.arrow a b) = let e : erased (plain a) ≡ a = plain_erased a in let f : erased (plain b) ≡ b = plain_erased b in cc
  plain_erased (ml.tuple ts) = ap ml.tuple (all_plain_erased ts)
  plain_erased (ml.array a) = ap ml.array (plain_erased a)
  plain_erased (ml.named d ts) = ap (ml.named d) (all_plain_erased ts)
  plain_erased (ml.map_of a) = ap ml.map_of (plain_erased a)

  all_plain_erased : (ts : MlTypes) → all_erased (all_plain ts) ≡ ts
  all_plain_erased ml.no_types = refl
  all_plain_erased (ml.more_types t ts) =
      let e : erased (plain t) ≡ t = plain_erased t in let f : all_erased (all_plain ts) ≡ ts = all_plain_erased ts in cc

one_erased : (t : Refined) (a : MlType) → erased t ≡ a → all_erased (more t none) ≡ ml.more_types a ml.no_types
one_erased t a e = ap (λ b. ml.more_types b ml.no_types) e

first_erased : (ts : Refineds) (us : MlTypes) → all_erased ts ≡ us → erased (first_of ts) ≡ first_type us
first_erased ts us e = let f : erased (first_of ts) ≡ first_type (all_erased ts) = same ts in let g : first_type (all_erased ts) ≡ first_type us = ap first_type e in cc
  where
    same : (ts : Refineds) → erased (first_of ts) ≡ first_type (all_erased ts)
    same none = refl
    same (more t ts) = refl

module _ (law : TemplatesErase) (D : Datatypes) where
  inside_erased : (n : ℕ) (Γ : Scope) (t : MlType) → erased (inside D.constructors D.ordered n Γ [] t).type ≡ t
  inside_erased n Γ t =
      let m : Made = inside D.constructors D.ordered n Γ [] t in
      let e : erased (topped n Γ (shape_of t) m).type ≡ erased m.type = topped_erased n Γ (shape_of t) m in
      let f : erased (topped n Γ (shape_of t) m).type ≡ t = law D.constructors D.ordered n Γ [] t in
      cc

  arguments_erased : (n : ℕ) (Γ : Scope) (ts : MlTypes) → all_erased (arguments D.constructors D.ordered n Γ ts).types ≡ ts
  arguments_erased n Γ ml.no_types = refl
  arguments_erased n Γ (ml.more_types t ts) =
      let m : Made = fresh D.constructors D.ordered n Γ [] t in
      let e : erased m.type ≡ t = law D.constructors D.ordered n Γ [] t in
      let f : all_erased (arguments D.constructors D.ordered (n + length m.unknowns) Γ ts).types ≡ ts = arguments_erased (n + length m.unknowns) Γ ts in
      cc

  emptied_erased : (n : ℕ) (Γ : Scope) (t : MlType) → erased (emptied D n Γ t).type ≡ t
  emptied_erased n Γ t =
      let m : Made = inside D.constructors D.ordered n Γ [] t in
      let e : erased (empty_type m.type) ≡ erased m.type = empty_erased m.type in
      let f : erased m.type ≡ t = inside_erased n Γ t in
      cc

  all_emptied_erased : (n : ℕ) (Γ : Scope) (ts : MlTypes) → all_erased (all_emptied D n Γ ts).types ≡ ts
  all_emptied_erased n Γ ml.no_types = refl
  all_emptied_erased n Γ (ml.more_types t ts) =
      let m : Made = emptied D n Γ t in
      let e : erased m.type ≡ t = emptied_erased n Γ t in
      let f : all_erased (all_emptied D (n + length m.unknowns) Γ ts).types ≡ ts = all_emptied_erased (n + length m.unknowns) Γ ts in
      cc

  constant_erased : (n : ℕ) (Γ : Scope) (t : MlType) → erased (made_constant D n Γ t).type ≡ t
  constant_erased n Γ (ml.named d ts) = ap (ml.named d) (all_emptied_erased n Γ ts)
  constant_erased n Γ ml.int = inside_erased n Γ ml.int
  constant_erased n Γ ml.bool = inside_erased n Γ ml.bool
  constant_erased n Γ ml.unit = inside_erased n Γ ml.unit
  constant_erased n Γ (ml.var i) = inside_erased n Γ (ml.var i)
  constant_erased n Γ (ml.arrow a b) = inside_erased n Γ (ml.arrow a b)
  constant_erased n Γ (ml.tuple ts) = inside_erased n Γ (ml.tuple ts)
  constant_erased n Γ (ml.array a) = inside_erased n Γ (ml.array a)
  constant_erased n Γ (ml.map_of a) = inside_erased n Γ (ml.map_of a)

  point_erased : (n : ℕ) (p : Point) → all_erased (made_at D n p).types ≡ simple_types p
  point_erased n (whole Γ xs t) = one_erased (fresh D.constructors D.ordered n Γ xs t).type t (law D.constructors D.ordered n Γ xs t)
  point_erased n (inner Γ t) = one_erased (inside D.constructors D.ordered n Γ [] t).type t (inside_erased n Γ t)
  point_erased n (constant Γ t) = one_erased (made_constant D n Γ t).type t (constant_erased n Γ t)
  point_erased n (empty Γ t) = one_erased (emptied D n Γ t).type t (emptied_erased n Γ t)
  point_erased n (each Γ ts) = arguments_erased n Γ ts
  point_erased n (idle ts) = all_plain_erased ts

  pub points_erased : (n : ℕ) (ps : List Point) (i : ℕ) → all_erased (templates_at (templates_from D n ps) i) ≡ types_at ps i
  points_erased n [] i = refl
  points_erased n (p ∷ ps) zero = point_erased n p
  points_erased n (p ∷ ps) (suc i) = points_erased (n + length (made_at D n p).unknowns) ps i

  pub template_erased : (n : ℕ) (ps : List Point) (i : ℕ) → erased (first_of (templates_at (templates_from D n ps) i)) ≡ first_type (types_at ps i)
  template_erased n ps i = first_erased (templates_at (templates_from D n ps) i) (types_at ps i) (points_erased n ps i)
