-- The templates of points are well sorted.
use Rattle.std.proofs.Common.{◌≡◌, ℕ, zero, suc, ◌+◌, List, [], ◌∷◌, length, refl, sym, ◌∙◌, ap₂, subst}
use Rattle.lq_refined_rules.specs.Checks.Operation.{empty_type}
use Rattle.lq_sound_scope.specs.Scopes.Over.{unknown_in}
use Rattle.lq_sound_scope.proofs.ScopesLemmas.Made.{HasScopes, has_first, has_second}
use Rattle.lq_refined_instances.specs.Scopes.{Scope}
use Rattle.lq_refined_types.specs.Parts.Part.{Parts}
use Rattle.lq_refined_templates.specs.Points.Point.{Point, whole, inner, constant, empty, each, idle}
use Rattle.lq_refined_templates.specs.Points.Templates.{Datatypes, plain, all_plain, emptied, all_emptied, made_constant, made_at, templates_from, templates_at, unknowns_from, unknowns_of}
use Rattle.lq_logic_predicates.specs.declared.symbol.Symbol.TheVariants.{Value, Position}
use Rattle.lq_refined_types.specs.Types.Refined.{Refined, int_with, bool_with, unit_type, function, tuple_of, array_with, data_with, map_with, type_variable, Refineds, none, more, number, other, kind, top, with_top, erased, all_erased}
use Rattle.lq_text_qualifiers.specs.Faults.Shapes.{Shape, int, bool, array, data_of, shape_of}
use Rattle.lq_text_qualifiers.specs.Faults.Shapes as shape
use Rattle.lq_refined_types.specs.Subtyping.Splitting.{first_of}
use Rattle.lq_refined_templates.specs.Templates.Cells.{one_unknown}
use Rattle.lq_refined_templates.specs.Templates.Fresh.{Made, AllMade, inside, topped}
use Rattle.lq_refined_templates.specs.Templates.Laws.{TemplatesErase}
use Rattle.lq_refined_templates.specs.Templates.Scopes.{Unknown}
use Rattle.lq_text_tree.specs.MlType as ml
use Rattle.lq_text_tree.specs.MlType.{MlType, MlTypes}
use Rattle.lq_text_tree.specs.Types.{Signature}
use Rattle.lq_sound_scope.specs.Sorts.Sorts.{ScopeStands, Sorts, with_kind}
use Rattle.lq_sound_scope.specs.Sorts.Types.{ComponentsSorted, InsideSorted, PartsSorted, TopSorted, TypeSorted, TypesSorted}
use Rattle.lq_sound_adequacy.specs.Templates.Laws.{TemplatesAreSorted}
use Rattle.lq_sound_adequacy.specs.Templates.Points.{PointSorted, PointsSorted}
use Rattle.lq_sound_adequacy.proofs.TemplatesLemmas.Made.{arguments_over, constructors_over, fresh_over, inside_over, no_top}

module _ (g : Signature) (all : ℕ → Unknown) where
  empty_over : (N : Sorts) (t : Refined) → InsideSorted g all N t → top t ≡ [] → TypeSorted g all N (empty_type t)
  empty_over N (int_with p) h e = (tt, (tt, tt))
  empty_over N (bool_with p) h e = (tt, (tt, tt))
  empty_over N unit_type h e = (tt, tt)
  empty_over N (function x a b) h e = (h, tt)
  empty_over N (tuple_of ts) h e = (h, tt)
  empty_over N (array_with u p) h e = (h, (tt, tt))
  empty_over N (data_with d ts m p) h e = (h, (tt, tt))
  empty_over N (map_with u p) h e = (h, subst (λ ps. PartsSorted all (with_kind N other Value) ps) (sym e) tt)
  empty_over N (type_variable i) h e = (tt, tt)

  mutual
    plain_over : (N M : Sorts) (t : MlType) → InsideSorted g all N (plain t) × TopSorted all M (plain t)
    plain_over N M ml.int = (tt, tt)
    plain_over N M ml.bool = (tt, tt)
    plain_over N M ml.unit = (tt, tt)
    plain_over N M (ml.var i) = (tt, tt)
    plain_over N M (ml.arrow a b) =
        let x : InsideSorted g all N (plain a) × TopSorted all N (plain a) = plain_over N N a in
        let y : InsideSorted g all N (plain b) × TopSorted all N (plain b) = plain_over N N b in
        ((x.0, x.1, y.0, y.1), tt)
    plain_over N M (ml.tuple ts) = (plain_components N N 0 ts, tt)
    plain_over N M (ml.array a) = (plain_over N N a, tt)
    plain_over N M (ml.named d ts) = ((all_plain_over N ts, tt), tt)
    plain_over N M (ml.map_of a) = (plain_over N (with_kind N number (Position 0)) a, tt)

    plain_components : (N M : Sorts) (k : ℕ) (ts : MlTypes) → ComponentsSorted g all N M k (all_plain ts)
    plain_components N M k ml.no_types = tt
    plain_components N M k (ml.more_types t ts) =
        let x : InsideSorted g all N (plain t) × TopSorted all M (plain t) = plain_over N M t in
        (x.0, x.1, plain_components N (with_kind M (kind (plain t)) (Position (suc k))) (suc k) ts)

    all_plain_over : (N : Sorts) (ts : MlTypes) → TypesSorted g all N (all_plain ts)
    all_plain_over N ml.no_types = tt
    all_plain_over N (ml.more_types t ts) =
        let x : InsideSorted g all N (plain t) × TopSorted all N (plain t) = plain_over N N t in (x.0, x.1, all_plain_over N ts)

with_top_erased : (q : Parts) (t : Refined) → erased (with_top q t) ≡ erased t
with_top_erased q (int_with p) = refl
with_top_erased q (bool_with p) = refl
with_top_erased q unit_type = refl
with_top_erased q (function x a b) = refl
with_top_erased q (tuple_of ts) = refl
with_top_erased q (array_with e p) = refl
with_top_erased q (data_with d ts m p) = refl
with_top_erased q (map_with e p) = refl
with_top_erased q (type_variable i) = refl

topped_erased : (n : ℕ) (Δ : Scope) (s : Shape) (m : Made) → erased (topped n Δ s m).type ≡ erased m.type
topped_erased n Δ int m = with_top_erased (one_unknown (n + length m.unknowns)) m.type
topped_erased n Δ bool m = with_top_erased (one_unknown (n + length m.unknowns)) m.type
topped_erased n Δ array m = with_top_erased (one_unknown (n + length m.unknowns)) m.type
topped_erased n Δ (data_of d) m = with_top_erased (one_unknown (n + length m.unknowns)) m.type
topped_erased n Δ shape.other m = refl

empty_erased : (t : Refined) → erased (empty_type t) ≡ erased t
empty_erased (int_with p) = refl
empty_erased (bool_with p) = refl
empty_erased unit_type = refl
empty_erased (function x a b) = refl
empty_erased (tuple_of ts) = refl
empty_erased (array_with e p) = refl
empty_erased (data_with d ts m p) = refl
empty_erased (map_with e p) = refl
empty_erased (type_variable i) = refl

module _ (erases : TemplatesErase) (D : Datatypes) (all : ℕ → Unknown) where
  inside_only : (N : Sorts) (n : ℕ) (Γ : Scope) (t : MlType) → ScopeStands N [] Γ → HasScopes all n (inside D.constructors D.ordered n Γ [] t).unknowns
      → TypeSorted D.constructors all N (inside D.constructors D.ordered n Γ [] t).type
  inside_only N n Γ t h w = (
    inside_over D.constructors all erases D.ordered N n Γ [] t h tt w,
    subst (λ ps. PartsSorted all (with_kind N (kind (inside D.constructors D.ordered n Γ [] t).type) Value) ps)
        (sym (no_top D.constructors all erases D.ordered n Γ [] t)) tt,
  )

  emptied_over : (N : Sorts) (n : ℕ) (Γ : Scope) (t : MlType) → ScopeStands N [] Γ → HasScopes all n (emptied D n Γ t).unknowns
      → TypeSorted D.constructors all N (emptied D n Γ t).type
  emptied_over N n Γ t h w = empty_over D.constructors all N (inside D.constructors D.ordered n Γ [] t).type (inside_over D.constructors all erases D.ordered N n Γ [] t h tt w)
      (no_top D.constructors all erases D.ordered n Γ [] t)

  all_emptied_over : (N : Sorts) (n : ℕ) (Γ : Scope) (ts : MlTypes) → ScopeStands N [] Γ → HasScopes all n (all_emptied D n Γ ts).unknowns
      → TypesSorted D.constructors all N (all_emptied D n Γ ts).types
  all_emptied_over N n Γ ml.no_types h w = tt
  all_emptied_over N n Γ (ml.more_types t ts) h w =
      let m : Made = emptied D n Γ t in
      let x : TypeSorted D.constructors all N m.type = emptied_over N n Γ t h (has_first all n m.unknowns _ w) in
      (x.0, x.1, all_emptied_over N (n + length m.unknowns) Γ ts h (has_second all n m.unknowns _ w))

  pub all_emptied_erased : (n : ℕ) (Γ : Scope) (ts : MlTypes) → all_erased (all_emptied D n Γ ts).types ≡ ts
  all_emptied_erased n Γ ml.no_types = refl
  all_emptied_erased n Γ (ml.more_types t ts) =
      let m : Made = inside D.constructors D.ordered n Γ [] t in
      ap₂ ml.more_types (empty_erased m.type ∙ sym (topped_erased n Γ (shape_of t) m) ∙ erases D.constructors D.ordered n Γ [] t)
      (all_emptied_erased (n + length m.unknowns) Γ ts)

  constant_over : (N : Sorts) (n : ℕ) (Γ : Scope) (t : MlType) → ScopeStands N [] Γ → HasScopes all n (made_constant D n Γ t).unknowns
      → TypeSorted D.constructors all N (made_constant D n Γ t).type
  constant_over N n Γ ml.int h w = inside_only N n Γ ml.int h w
  constant_over N n Γ ml.bool h w = inside_only N n Γ ml.bool h w
  constant_over N n Γ ml.unit h w = inside_only N n Γ ml.unit h w
  constant_over N n Γ (ml.var i) h w = inside_only N n Γ (ml.var i) h w
  constant_over N n Γ (ml.arrow a b) h w = inside_only N n Γ (ml.arrow a b) h w
  constant_over N n Γ (ml.tuple ts) h w = inside_only N n Γ (ml.tuple ts) h w
  constant_over N n Γ (ml.array a) h w = inside_only N n Γ (ml.array a) h w
  constant_over N n Γ (ml.named d ts) h w =
      let m : AllMade = all_emptied D n Γ ts in (
        (
          all_emptied_over N n Γ ts h (has_first all n m.unknowns _ w),
          constructors_over D.constructors all (n + length m.unknowns) d ts m.types (D.ordered d) (all_emptied_erased n Γ ts) (has_second all n m.unknowns _ w),
        ),
        tt,
      )
  constant_over N n Γ (ml.map_of a) h w = inside_only N n Γ (ml.map_of a) h w

  made_over : (N : Sorts) (n : ℕ) (q : Point) → PointSorted N q → HasScopes all n (made_at D n q).unknowns → TypesSorted D.constructors all N (made_at D n q).types
  made_over N n (whole Γ xs t) h w = let x : TypeSorted D.constructors all N _ = fresh_over D.constructors all erases D.ordered N n Γ xs t h.0 h.1 w in (x.0, x.1, tt)
  made_over N n (inner Γ t) h w = let x : TypeSorted D.constructors all N _ = inside_only N n Γ t h w in (x.0, x.1, tt)
  made_over N n (constant Γ t) h w = let x : TypeSorted D.constructors all N _ = constant_over N n Γ t h w in (x.0, x.1, tt)
  made_over N n (empty Γ t) h w = let x : TypeSorted D.constructors all N _ = emptied_over N n Γ t h w in (x.0, x.1, tt)
  made_over N n (each Γ ts) h w = arguments_over D.constructors all erases D.ordered N n Γ ts h w
  made_over N n (idle ts) h w = all_plain_over D.constructors all N ts

-- ---- all points

scopes_later : (all : ℕ → Unknown) (n : ℕ) (us : List Unknown) → HasScopes (λ u. all (suc u)) n us → HasScopes all (suc n) us
scopes_later all n [] h = tt
scopes_later all n (u ∷ us) h = (h.0, scopes_later all (suc n) us h.1)

own_scopes : (us : List Unknown) → HasScopes (unknown_in us) 0 us
own_scopes [] = tt
own_scopes (u ∷ us) = (refl, scopes_later (unknown_in (u ∷ us)) 0 us (own_scopes us))

templates_over : (erases : TemplatesErase) (all : ℕ → Unknown) (D : Datatypes) (N : Sorts) (n : ℕ) (ps : List Point) → HasScopes all n (unknowns_from D n ps)
    → PointsSorted N ps → (k : ℕ) → TypesSorted D.constructors all N (templates_at (templates_from D n ps) k)
templates_over erases all D N n [] h s k = tt
templates_over erases all D N n (p ∷ ps) h s zero = made_over erases D all N n p s.0 (has_first all n (made_at D n p).unknowns _ h)
templates_over erases all D N n (p ∷ ps) h s (suc k) =
    let m : AllMade = made_at D n p in templates_over erases all D N (n + length m.unknowns) ps (has_second all n m.unknowns _ h) s.1 k

first_sorted : (g : Signature) (all : ℕ → Unknown) (N : Sorts) (ts : Refineds) → TypesSorted g all N ts → TypeSorted g all N (first_of ts)
first_sorted g all N none h = (tt, tt)
first_sorted g all N (more t ts) h = (h.0, h.1)

pub templates_sorted : TemplatesErase → TemplatesAreSorted
templates_sorted erases D ps N s k =
    let all = unknown_in (unknowns_of D ps) in
    let h = templates_over erases all D N 0 ps (own_scopes (unknowns_of D ps)) s k in
    (first_sorted D.constructors all N (templates_at (templates_from D 0 ps) k) h, h)
