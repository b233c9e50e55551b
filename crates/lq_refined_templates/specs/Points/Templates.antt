-- The templates of points, and the basis that they are for the typing rules.
use Rattle.std.specs.Prelude.{ℕ, zero, suc, ◌+◌, List, [], ◌∷◌, ◌++◌, length, None}
use Rattle.lq_refined_rules.specs.Checks.Basis.{Basis}
use Rattle.lq_refined_rules.specs.Checks.Operation.{empty_type}
use Rattle.lq_refined_rules.specs.Checks.Typing.{Points, first_type}
use Rattle.lq_refined_instances.specs.Scopes.{Scope, scope_in}
use Rattle.lq_logic_predicates.specs.Formula.{Formula}
use Rattle.lq_refined_types.specs.Types.Refined.{Refined, int_with, bool_with, unit_type, function, tuple_of, array_with, data_with, map_with, type_variable, Refineds, none, more}
use Rattle.lq_refined_types.specs.Subtyping.Splitting.{first_of}
use Rattle.lq_refined_templates.specs.Templates.Cells.{constructor_cells}
use Rattle.lq_refined_templates.specs.Templates.Fresh.{Made, AllMade, arguments, fresh, inside}
use Rattle.lq_refined_templates.specs.Templates.Scopes.{Unknown, symbols_in}
use Rattle.lq_text_tree.specs.MlType as ml
use Rattle.lq_text_tree.specs.MlType.{MlType, MlTypes, no_types}
use Rattle.lq_text_tree.specs.Types.{Signature}
use Rattle.lq_refined_templates.specs.Points.Point.{Point, whole, inner, constant, empty, each, idle, simple_types}

-- the datatypes of a program: what constructors stand for, those of each datatype in their order, and the equations of its measures
pub record Datatypes : Type 0 where
  pub constructors : Signature
  pub ordered : ℕ → List ℕ
  pub equations : ℕ → List Formula

-- types without parts
abbrev mutual
  pub plain : MlType → Refined
  plain ml.int = int_with []
  plain ml.bool = bool_with []
  plain ml.unit = unit_type
  plain (ml.var i) = type_variable i
  plain (ml.arrow a b) = function None (plain a) (plain b)
  plain (ml.tuple ts) = tuple_of (all_plain ts)
  plain (ml.array a) = array_with (plain a) []
  plain (ml.named d ts) = data_with d (all_plain ts) [] []
  plain (ml.map_of a) = map_with (plain a) []

  pub all_plain : MlTypes → Refineds
  all_plain ml.no_types = none
  all_plain (ml.more_types t ts) = more (plain t) (all_plain ts)

abbrev pub alone : Made → AllMade
alone m = record { types = more m.type none; unknowns = m.unknowns }

abbrev pub followed : Made → AllMade → AllMade
followed m rest = record { types = more m.type rest.types; unknowns = m.unknowns ++ rest.unknowns }

module _ (D : Datatypes) where
  -- of values of which there are none: `false` at the top, where predicates speak of the shape
  abbrev pub emptied : ℕ → Scope → MlType → Made
  emptied n Γ t = let m = inside D.constructors D.ordered n Γ [] t in record { type = empty_type m.type; unknowns = m.unknowns }

  abbrev pub all_emptied : ℕ → Scope → MlTypes → AllMade
  all_emptied n Γ ml.no_types = record { types = none; unknowns = [] }
  all_emptied n Γ (ml.more_types t ts) = let m = emptied n Γ t in followed m (all_emptied (n + length m.unknowns) Γ ts)

  -- of a constructor without a field
  abbrev pub made_constant : ℕ → Scope → MlType → Made
  made_constant n Γ (ml.named d ts) =
      let m = all_emptied n Γ ts in
      let c = constructor_cells D.constructors (n + length m.unknowns) d ts (D.ordered d) in
      record { type = data_with d m.types c.matrix []; unknowns = m.unknowns ++ c.unknowns }
  made_constant n Γ t = inside D.constructors D.ordered n Γ [] t

  -- the templates of a point, with unknowns from the number n on
  abbrev pub made_at : ℕ → Point → AllMade
  made_at n (whole Γ xs t) = alone (fresh D.constructors D.ordered n Γ xs t)
  made_at n (inner Γ t) = alone (inside D.constructors D.ordered n Γ [] t)
  made_at n (constant Γ t) = alone (made_constant n Γ t)
  made_at n (empty Γ t) = alone (emptied n Γ t)
  made_at n (each Γ ts) = arguments D.constructors D.ordered n Γ ts
  made_at n (idle ts) = record { types = all_plain ts; unknowns = [] }

  -- the templates of points in their order, and their unknowns, each point's behind those of the points before it
  abbrev pub templates_from : ℕ → List Point → List Refineds
  templates_from n [] = []
  templates_from n (p ∷ ps) = let m = made_at n p in m.types ∷ templates_from (n + length m.unknowns) ps

  abbrev pub unknowns_from : ℕ → List Point → List Unknown
  unknowns_from n [] = []
  unknowns_from n (p ∷ ps) = let m = made_at n p in m.unknowns ++ unknowns_from (n + length m.unknowns) ps

  -- the unknowns of a program with these points, in the order of their numbers
  abbrev pub unknowns_of : List Point → List Unknown
  unknowns_of ps = unknowns_from 0 ps

-- those of a point by its number; past the last one nothing
abbrev pub templates_at : List Refineds → ℕ → Refineds
templates_at [] p = none
templates_at (t ∷ ts) zero = t
templates_at (t ∷ ts) (suc p) = templates_at ts p

abbrev pub types_at : List Point → ℕ → MlTypes
types_at [] p = no_types
types_at (q ∷ ps) zero = simple_types q
types_at (q ∷ ps) (suc p) = types_at ps p

abbrev pub scopes_of : List Unknown → List Scope
scopes_of [] = []
scopes_of (u ∷ us) = u.0 ∷ scopes_of us

-- what a program with these points is checked over
abbrev pub basis_of : Datatypes → List Point → Basis
basis_of D ps = record {
  setting = record { scopes = λ u. symbols_in (scope_in (scopes_of (unknowns_of D ps)) u); constructors = D.constructors };
  constructors_of = D.ordered;
  equations = D.equations;
  template = λ p. first_of (templates_at (templates_from D 0 ps) p);
  type_arguments = λ i. templates_at (templates_from D 0 ps) i;
}

-- the simple types of the points
abbrev pub points_of : List Point → Points
points_of ps = record { point = λ p. first_type (types_at ps p); type_arguments = λ i. types_at ps i }
