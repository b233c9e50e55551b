-- The templates of points speak of the symbols of their points' scopes.
use Rattle.std.proofs.Common.{◌≡◌, ℕ, suc, ◌+◌, arith, Bool, true, false, cond, List, [], ◌∷◌, ◌++◌, length, refl, sym, ◌∙◌, ap, ap₂, subst, Option, Some, None, zero}
use Rattle.lq_refined_instances.specs.Scopes.{Scope, scope_in}
use Rattle.lq_refined_types.specs.Types.Refined.{Refined, int_with, bool_with, unit_type, function, tuple_of, array_with, data_with, map_with, type_variable, Refineds, number, other, kind, top, with_top, erased, all_erased, argument_of, result_of}
use Rattle.lq_refined_rules.specs.Checks.Operation.{empty_type}
use Rattle.lq_refined_types.specs.Subtyping.Splitting.{first_of}
use Rattle.lq_refined_templates.specs.Templates.Fresh.{Made, AllMade, first_name, inside, topped}
use Rattle.lq_refined_templates.specs.Templates.Laws.{TemplatesErase}
use Rattle.lq_text_qualifiers.specs.Faults.Shapes.{Shape, int, bool, array, data_of, shape_of}
use Rattle.lq_text_qualifiers.specs.Faults.Shapes as shape
use Rattle.lq_text_tree.specs.Types.{Signature}
use Rattle.lq_refined_types.specs.Parts.Part.{Parts}
use Rattle.lq_refined_templates.specs.Templates.Cells.{one_unknown}
use Rattle.lq_refined_templates.specs.Templates.Scopes.{Unknown, symbols_in}
use Rattle.lq_text_tree.specs.MlType as ml
use Rattle.lq_text_tree.specs.MlType.{MlType, MlTypes}
use Rattle.lq_logic_predicates.specs.declared.symbol.Symbol.TheVariants.{Value, Position}
use Rattle.lq_refined_templates.specs.Points.Point.{Point, whole, inner, constant, empty, each, idle, idled}
use Rattle.lq_refined_templates.specs.Points.Reading.{all_idled}
use Rattle.lq_refined_templates.specs.Points.Templates.{Datatypes, plain, all_plain, emptied, all_emptied, made_constant, made_at, templates_from, templates_at, unknowns_from, unknowns_of, basis_of, scopes_of}
use Rattle.lq_sound_scope.specs.Scopes.Over.{Names, unknown_in, with_sort, PartsOver, InsideOver, TopOver, TypesOver, TypeOver, ComponentsOver}
use Rattle.lq_sound_scope.proofs.ScopesLemmas.Symbols.{ScopeIn}
use Rattle.lq_sound_scope.proofs.ScopesLemmas.Made.{HasScopes, arguments_over, constructors_over, fresh_over, has_first, has_second, inside_over, no_top}

-- the scope of the point, where it has one, is of these symbols
abbrev pub PointIn : Names → Point → Type 0
PointIn N (whole Γ xs t) = ScopeIn N Γ
PointIn N (inner Γ t) = ScopeIn N Γ
PointIn N (constant Γ t) = ScopeIn N Γ
PointIn N (empty Γ t) = ScopeIn N Γ
PointIn N (each Γ ts) = ScopeIn N Γ
PointIn N (idle ts) = Unit {0}

module _ (g : Signature) (all : ℕ → Unknown) where
  empty_over : (N : Names) (t : Refined) → InsideOver g all N t → top t ≡ [] → TypeOver g all N (empty_type t)
  empty_over N (int_with p) h e = (tt, (tt, tt))
  empty_over N (bool_with p) h e = (tt, (tt, tt))
  empty_over N unit_type h e = (tt, tt)
  empty_over N (function x a b) h e = (h, tt)
  empty_over N (tuple_of ts) h e = (h, tt)
  empty_over N (array_with u p) h e = (h, (tt, tt))
  empty_over N (data_with d ts m p) h e = (h, (tt, tt))
  empty_over N (map_with u p) h e = (h, subst (λ ps. PartsOver all (with_sort N other Value) ps) (sym e) tt)
  empty_over N (type_variable i) h e = (tt, tt)

  mutual
    plain_over : (N M : Names) (t : MlType) → InsideOver g all N (plain t) × TopOver all M (plain t)
    plain_over N M ml.int = (tt, tt)
    plain_over N M ml.bool = (tt, tt)
    plain_over N M ml.unit = (tt, tt)
    plain_over N M (ml.var i) = (tt, tt)
    plain_over N M (ml.arrow a b) =
        let x : InsideOver g all N (plain a) × TopOver all N (plain a) = plain_over N N a in
        let y : InsideOver g all N (plain b) × TopOver all N (plain b) = plain_over N N b in
        ((x.0, x.1, y.0, y.1), tt)
    plain_over N M (ml.tuple ts) = (plain_components N N 0 ts, tt)
    plain_over N M (ml.array a) = (plain_over N N a, tt)
    plain_over N M (ml.named d ts) = ((all_plain_over N ts, tt), tt)
    plain_over N M (ml.map_of a) = (plain_over N (with_sort N number (Position 0)) a, tt)

    plain_components : (N M : Names) (k : ℕ) (ts : MlTypes) → ComponentsOver g all N M k (all_plain ts)
    plain_components N M k ml.no_types = tt
    plain_components N M k (ml.more_types t ts) =
        let x : InsideOver g all N (plain t) × TopOver all M (plain t) = plain_over N M t in
        (x.0, x.1, plain_components N (with_sort M (kind (plain t)) (Position (suc k))) (suc k) ts)

    all_plain_over : (N : Names) (ts : MlTypes) → TypesOver g all N (all_plain ts)
    all_plain_over N ml.no_types = tt
    all_plain_over N (ml.more_types t ts) =
        let x : InsideOver g all N (plain t) × TopOver all N (plain t) = plain_over N N t in (x.0, x.1, all_plain_over N ts)

with_top_erased : (q : Parts) (t : Refined) → erased (with_top q t) ≡ erased t
with_top_erased q (int_with p) = refl
with_top_erased q (bool_with p) = refl
with_top_erased q unit_type = refl
with_top_erased q (function x a b) = refl
with_top_erased q (tuple_of ts) = refl
with_top_erased q (array_with e p) = refl
with_top_erased q (data_with d ts m p) = refl
with_top_erased q (map_with e p) = refl
with_top_erased q (type_variable i) = refl

topped_erased : (n : ℕ) (Δ : Scope) (s : Shape) (m : Made) → erased (topped n Δ s m).type ≡ erased m.type
topped_erased n Δ int m = with_top_erased (one_unknown (n + length m.unknowns)) m.type
topped_erased n Δ bool m = with_top_erased (one_unknown (n + length m.unknowns)) m.type
topped_erased n Δ array m = with_top_erased (one_unknown (n + length m.unknowns)) m.type
topped_erased n Δ (data_of d) m = with_top_erased (one_unknown (n + length m.unknowns)) m.type
topped_erased n Δ shape.other m = refl

empty_erased : (t : Refined) → erased (empty_type t) ≡ erased t
empty_erased (int_with p) = refl
empty_erased (bool_with p) = refl
empty_erased unit_type = refl
empty_erased (function x a b) = refl
empty_erased (tuple_of ts) = refl
empty_erased (array_with e p) = refl
empty_erased (data_with d ts m p) = refl
empty_erased (map_with e p) = refl
empty_erased (type_variable i) = refl

module _ (erases : TemplatesErase) (D : Datatypes) (all : ℕ → Unknown) where
  inside_only : (N : Names) (n : ℕ) (Γ : Scope) (t : MlType) → ScopeIn N Γ → HasScopes all n (inside D.constructors D.ordered n Γ [] t).unknowns
      → TypeOver D.constructors all N (inside D.constructors D.ordered n Γ [] t).type
  inside_only N n Γ t h w = (
    inside_over D.constructors all erases D.ordered N n Γ [] t h w,
    subst (λ ps. PartsOver all (with_sort N (kind (inside D.constructors D.ordered n Γ [] t).type) Value) ps)
        (sym (no_top D.constructors all erases D.ordered n Γ [] t)) tt,
  )

  emptied_over : (N : Names) (n : ℕ) (Γ : Scope) (t : MlType) → ScopeIn N Γ → HasScopes all n (emptied D n Γ t).unknowns
      → TypeOver D.constructors all N (emptied D n Γ t).type
  emptied_over N n Γ t h w = empty_over D.constructors all N (inside D.constructors D.ordered n Γ [] t).type (inside_over D.constructors all erases D.ordered N n Γ [] t h w)
      (no_top D.constructors all erases D.ordered n Γ [] t)

  all_emptied_over : (N : Names) (n : ℕ) (Γ : Scope) (ts : MlTypes) → ScopeIn N Γ → HasScopes all n (all_emptied D n Γ ts).unknowns
      → TypesOver D.constructors all N (all_emptied D n Γ ts).types
  all_emptied_over N n Γ ml.no_types h w = tt
  all_emptied_over N n Γ (ml.more_types t ts) h w =
      let m : Made = emptied D n Γ t in
      let x : TypeOver D.constructors all N m.type = emptied_over N n Γ t h (has_first all n m.unknowns _ w) in
      (x.0, x.1, all_emptied_over N (n + length m.unknowns) Γ ts h (has_second all n m.unknowns _ w))

  pub all_emptied_erased : (n : ℕ) (Γ : Scope) (ts : MlTypes) → all_erased (all_emptied D n Γ ts).types ≡ ts
  all_emptied_erased n Γ ml.no_types = refl
  all_emptied_erased n Γ (ml.more_types t ts) =
      let m : Made = inside D.constructors D.ordered n Γ [] t in
      ap₂ ml.more_types (empty_erased m.type ∙ sym (topped_erased n Γ (shape_of t) m) ∙ erases D.constructors D.ordered n Γ [] t)
      (all_emptied_erased (n + length m.unknowns) Γ ts)

  constant_over : (N : Names) (n : ℕ) (Γ : Scope) (t : MlType) → ScopeIn N Γ → HasScopes all n (made_constant D n Γ t).unknowns
      → TypeOver D.constructors all N (made_constant D n Γ t).type
  constant_over N n Γ ml.int h w = inside_only N n Γ ml.int h w
  constant_over N n Γ ml.bool h w = inside_only N n Γ ml.bool h w
  constant_over N n Γ ml.unit h w = inside_only N n Γ ml.unit h w
  constant_over N n Γ (ml.var i) h w = inside_only N n Γ (ml.var i) h w
  constant_over N n Γ (ml.arrow a b) h w = inside_only N n Γ (ml.arrow a b) h w
  constant_over N n Γ (ml.tuple ts) h w = inside_only N n Γ (ml.tuple ts) h w
  constant_over N n Γ (ml.array a) h w = inside_only N n Γ (ml.array a) h w
  constant_over N n Γ (ml.named d ts) h w =
      let m : AllMade = all_emptied D n Γ ts in (
        (
          all_emptied_over N n Γ ts h (has_first all n m.unknowns _ w),
          constructors_over D.constructors all (n + length m.unknowns) d ts m.types (D.ordered d) (all_emptied_erased n Γ ts) (has_second all n m.unknowns _ w),
        ),
        tt,
      )
  constant_over N n Γ (ml.map_of a) h w = inside_only N n Γ (ml.map_of a) h w

  made_over : (N : Names) (n : ℕ) (q : Point) → PointIn N q → HasScopes all n (made_at D n q).unknowns → TypesOver D.constructors all N (made_at D n q).types
  made_over N n (whole Γ xs t) h w = let x : TypeOver D.constructors all N _ = fresh_over D.constructors all erases D.ordered N n Γ xs t h w in (x.0, x.1, tt)
  made_over N n (inner Γ t) h w = let x : TypeOver D.constructors all N _ = inside_only N n Γ t h w in (x.0, x.1, tt)
  made_over N n (constant Γ t) h w = let x : TypeOver D.constructors all N _ = constant_over N n Γ t h w in (x.0, x.1, tt)
  made_over N n (empty Γ t) h w = let x : TypeOver D.constructors all N _ = emptied_over N n Γ t h w in (x.0, x.1, tt)
  made_over N n (each Γ ts) h w = arguments_over D.constructors all erases D.ordered N n Γ ts h w
  made_over N n (idle ts) h w = all_plain_over D.constructors all N ts

-- ---- names of arguments

-- a function type with this name of its argument, or without one
abbrev pub NamesBy : Option ℕ → Refined → Type 0
NamesBy x (function None a b) = Unit {0}
NamesBy x (function (Some z) a b) = Some z ≡ x
NamesBy x (int_with p) = ⊥
NamesBy x (bool_with p) = ⊥
NamesBy x unit_type = ⊥
NamesBy x (tuple_of ts) = ⊥
NamesBy x (array_with e p) = ⊥
NamesBy x (data_with d ts m p) = ⊥
NamesBy x (map_with e p) = ⊥
NamesBy x (type_variable i) = ⊥

abbrev pub NamesFirst : MlType → Option ℕ → Refined → Type 0
NamesFirst (ml.arrow a b) x t = NamesBy x t
NamesFirst _ x t = Unit {0}

abbrev first_type : MlTypes → MlType
first_type ml.no_types = ml.unit
first_type (ml.more_types t ts) = t

-- the template of a function names its argument as its point says, or doesn't name it
abbrev pub IsNamed : Point → Refineds → Type 0
IsNamed (whole Γ xs t) ts = NamesFirst t (first_name xs) (first_of ts)
IsNamed (inner Γ t) ts = Unit {0}
IsNamed (constant Γ t) ts = Unit {0}
IsNamed (empty Γ t) ts = Unit {0}
IsNamed (each Γ us) ts = Unit {0}
IsNamed (idle us) ts = NamesFirst (first_type us) None (first_of ts)

unnamed : (x : Option ℕ) (t : Refined) → NamesBy None t → NamesBy x t
unnamed x (function None a b) h = tt
unnamed x (function (Some z) a b) h = absurd (no h)
  where
    no : Some z ≡ None → ⊥
    no e = cc
unnamed x (int_with p) h = h
unnamed x (bool_with p) h = h
unnamed x unit_type h = h
unnamed x (tuple_of ts) h = h
unnamed x (array_with e p) h = h
unnamed x (data_with d ts m p) h = h
unnamed x (map_with e p) h = h
unnamed x (type_variable i) h = h

first_unnamed : (t : MlType) (x : Option ℕ) (r : Refined) → NamesFirst t None r → NamesFirst t x r
first_unnamed ml.int x r h = tt
first_unnamed ml.bool x r h = tt
first_unnamed ml.unit x r h = tt
first_unnamed (ml.var i) x r h = tt
first_unnamed (ml.arrow a b) x r h = unnamed x r h
first_unnamed (ml.tuple ts) x r h = tt
first_unnamed (ml.array a) x r h = tt
first_unnamed (ml.named d ts) x r h = tt
first_unnamed (ml.map_of a) x r h = tt

pub named_idled : (q : Point) (ts : Refineds) → IsNamed (idled q) ts → IsNamed q ts
named_idled (whole Γ xs t) ts h = first_unnamed t (first_name xs) (first_of ts) h
named_idled (inner Γ t) ts h = tt
named_idled (constant Γ t) ts h = tt
named_idled (empty Γ t) ts h = tt
named_idled (each Γ us) ts h = tt
named_idled (idle us) ts h = h

own_name : (x : Option ℕ) (a b : Refined) → NamesBy x (function x a b)
own_name None a b = tt
own_name (Some z) a b = refl

whole_named : (D : Datatypes) (n : ℕ) (Γ : Scope) (xs : List (Option ℕ)) (t : MlType) → NamesFirst t (first_name xs) (first_of (made_at D n (whole Γ xs t)).types)
whole_named D n Γ xs ml.int = tt
whole_named D n Γ xs ml.bool = tt
whole_named D n Γ xs ml.unit = tt
whole_named D n Γ xs (ml.var i) = tt
whole_named D n Γ xs (ml.arrow a b) = own_name (first_name xs) (argument_of (first_of (made_at D n (whole Γ xs (ml.arrow a b))).types)) (result_of (first_of (made_at D n (whole Γ xs (ml.arrow a b))).types))
whole_named D n Γ xs (ml.tuple ts) = tt
whole_named D n Γ xs (ml.array a) = tt
whole_named D n Γ xs (ml.named d ts) = tt
whole_named D n Γ xs (ml.map_of a) = tt

idle_named : (us : MlTypes) → NamesFirst (first_type us) None (first_of (all_plain us))
idle_named ml.no_types = tt
idle_named (ml.more_types ml.int us) = tt
idle_named (ml.more_types ml.bool us) = tt
idle_named (ml.more_types ml.unit us) = tt
idle_named (ml.more_types (ml.var i) us) = tt
idle_named (ml.more_types (ml.arrow a b) us) = tt
idle_named (ml.more_types (ml.tuple ts) us) = tt
idle_named (ml.more_types (ml.array a) us) = tt
idle_named (ml.more_types (ml.named d ts) us) = tt
idle_named (ml.more_types (ml.map_of a) us) = tt

made_named : (D : Datatypes) (n : ℕ) (q : Point) → IsNamed q (made_at D n q).types
made_named D n (whole Γ xs t) = whole_named D n Γ xs t
made_named D n (inner Γ t) = tt
made_named D n (constant Γ t) = tt
made_named D n (empty Γ t) = tt
made_named D n (each Γ us) = tt
made_named D n (idle us) = idle_named us

-- ---- all points

-- the templates from the number k on are those of the points, wherever their scopes are
module _ (g : Signature) (all : ℕ → Unknown) (T : ℕ → Refineds) where
  abbrev pub IsMade : ℕ → Point → Type 0
  IsMade k q = ((N : Names) → PointIn N q → TypesOver g all N (T k)) × IsNamed q (T k)

  abbrev pub AreOver : ℕ → List Point → Type 0
  AreOver k [] = Unit {0}
  AreOver k (q ∷ qs) = IsMade k q × AreOver (suc k) qs

  pub over_first : (k : ℕ) (ps qs : List Point) → AreOver k (ps ++ qs) → AreOver k ps
  over_first k [] qs h = tt
  over_first k (p ∷ ps) qs h = (h.0, over_first (suc k) ps qs h.1)

  pub over_second : (k : ℕ) (ps qs : List Point) → AreOver k (ps ++ qs) → AreOver (k + length ps) qs
  over_second k [] qs h = let e : k ≡ k + 0 = omega arith in subst (λ (m : ℕ). AreOver m qs) e h
  over_second k (p ∷ ps) qs h =
      let e : suc k + length ps ≡ k + suc (length ps) = omega arith in subst (λ (m : ℕ). AreOver m qs) e (over_second (suc k) ps qs h.1)

  over_idled : (k : ℕ) (ps : List Point) → AreOver k (all_idled ps) → AreOver k ps
  over_idled k [] h = tt
  over_idled k (p ∷ ps) h = (((λ N i. h.0.0 N tt), named_idled p (T k) h.0.1), over_idled (suc k) ps h.1)

  idled_many : (ps : List Point) → length (all_idled ps) ≡ length ps
  idled_many [] = refl
  idled_many (p ∷ ps) = ap suc (idled_many ps)

  -- of an arm, whether a rule checks it or not
  pub over_arm : (k : ℕ) (b : Bool) (ps qs : List Point) → AreOver k (cond b ps (all_idled ps) ++ qs) → AreOver k ps
  over_arm k true ps qs h = over_first k ps qs h
  over_arm k false ps qs h = over_idled k ps (over_first k (all_idled ps) qs h)

  pub over_arms : (k : ℕ) (b : Bool) (ps qs : List Point) → AreOver k (cond b ps (all_idled ps) ++ qs) → AreOver (k + length ps) qs
  over_arms k true ps qs h = over_second k ps qs h
  over_arms k false ps qs h = subst (λ (m : ℕ). AreOver (k + m) qs) (idled_many ps) (over_second k (all_idled ps) qs h)

-- one number on
over_later : (g : Signature) (all : ℕ → Unknown) (T : ℕ → Refineds) (k : ℕ) (ps : List Point) → AreOver g all (λ i. T (suc i)) k ps → AreOver g all T (suc k) ps
over_later g all T k [] h = tt
over_later g all T k (p ∷ ps) h = (h.0, over_later g all T (suc k) ps h.1)

scopes_later : (all : ℕ → Unknown) (n : ℕ) (us : List Unknown) → HasScopes (λ u. all (suc u)) n us → HasScopes all (suc n) us
scopes_later all n [] h = tt
scopes_later all n (u ∷ us) h = (h.0, scopes_later all (suc n) us h.1)

own_scopes : (us : List Unknown) → HasScopes (unknown_in us) 0 us
own_scopes [] = tt
own_scopes (u ∷ us) = (refl, scopes_later (unknown_in (u ∷ us)) 0 us (own_scopes us))

templates_over : (erases : TemplatesErase) (all : ℕ → Unknown) (D : Datatypes) (n : ℕ) (ps : List Point) → HasScopes all n (unknowns_from D n ps)
    → AreOver D.constructors all (templates_at (templates_from D n ps)) 0 ps
templates_over erases all D n [] h = tt
templates_over erases all D n (p ∷ ps) h =
    let m : AllMade = made_at D n p in (
      ((λ N i. made_over erases D all N n p i (has_first all n m.unknowns _ h)), made_named D n p),
      over_later D.constructors all (templates_at (templates_from D n (p ∷ ps))) 0 ps (templates_over erases all D (n + length m.unknowns) ps (has_second all n m.unknowns _ h)),
    )

-- of a program's points, over the basis that they are
pub points_over : (erases : TemplatesErase) (D : Datatypes) (ps : List Point) → AreOver D.constructors (unknown_in (unknowns_of D ps)) (basis_of D ps).type_arguments 0 ps
points_over erases D ps = templates_over erases (unknown_in (unknowns_of D ps)) D 0 ps (own_scopes (unknowns_of D ps))

-- the scopes of the basis
scope_there : (us : List Unknown) (u : ℕ) → scope_in (scopes_of us) u ≡ (unknown_in us u).0
scope_there [] u = refl
scope_there (x ∷ us) zero = refl
scope_there (x ∷ us) (suc u) = scope_there us u

pub scopes_same : (D : Datatypes) (ps : List Point) (u : ℕ) → (basis_of D ps).setting.scopes u ≡ symbols_in (unknown_in (unknowns_of D ps) u).0
scopes_same D ps u = ap symbols_in (scope_there (unknowns_of D ps) u)
