-- What obligations in memory stand for: what is asked for, by the hypotheses of its environment.
use Rattle.std.specs.Prelude.{◌≡◌, ℕ, ◌<◌, List, map}
use Rattle.lq_refined_rules.specs.Checks.Basis.{Basis}
use Rattle.lq_refined_substitution.specs.Implications.Views.{environment_in, origin_view}
use Rattle.lq_refined_rules.specs.Obligations.Obligation as o
use Rattle.lq_refined_rules.specs.Obligations.Obligation.{holds, fits, IsShapedAsked}
use Rattle.lq_refined_types.specs.Parts.Part as parts
use Rattle.lq_refined_types.specs.Parts.Part.{Parts}
use Rattle.lq_logic_predicates.specs.PredView.{formula_of}
use Rattle.lq_refined_types.specs.Types.Refined.{Refined}
use Rattle.lq_refined_subtyping.specs.Table.Forms.{at}
use Rattle.lq_refined_subtyping.specs.Split.Fields.{KnowsFields}
use Rattle.lq_refined_substitution.specs.Substitution.Views.{scopes_view}
use Rattle.lq_refined_types.specs.Subtyping.Implication.{Origin}
use Rattle.lq_refined_types.specs.Subtyping.Subtype.{facts}
use Rattle.lq_generate_implications.specs.declared.obligations.obligation.Asked.{Asked}
use Rattle.lq_generate_implications.specs.declared.obligations.obligation.Asked.TheVariants as asked
use Rattle.lq_generate_implications.specs.declared.obligations.obligation.Obligation.{Obligation}
use Rattle.lq_generate_implications.specs.declared.obligations.obligation.Sources.{Sources}

pub record Stated : Type 0 where
  pub facts : Parts
  pub asked : o.Asked
  pub origin : Origin

-- an obligation in its context, over a basis
abbrev pub stated : Basis → o.Obligation → Stated
stated P x = record { facts = facts P.setting x.context; asked = x.asked; origin = x.origin }

-- where types have these numbers
abbrev pub asked_view : List Refined → Asked → o.Asked
asked_view types (asked.Holds p) = holds (formula_of p)
asked_view types (asked.Fits l r) = fits (at types l) (at types r)

-- where environments have these hypotheses
abbrev pub stated_view : List Parts → List Refined → Obligation → Stated
stated_view environments types x =
    record { facts = environment_in environments x.env; asked = asked_view types x.asked; origin = origin_view x.place x.reason }

abbrev pub all_stated : List Parts → List Refined → List Obligation → List Stated
all_stated environments types = map (stated_view environments types)

-- its types are there, of so many
abbrev pub IsAskedThere : ℕ → Asked → Type 0
IsAskedThere n (asked.Holds p) = Unit {0}
IsAskedThere n (asked.Fits l r) = (l < n) × (r < n)

-- and its environment too
pub record IsThere (environments types : ℕ) (x : Obligation) : Type 0 where
  pub env : x.env < environments
  pub asked : IsAskedThere types x.asked

-- both types of a subtyping have one simple type
abbrev pub IsShaped : List Refined → Obligation → Type 0
IsShaped types x = IsShapedAsked (asked_view types x.asked)

abbrev pub scopes_of : Sources → parts.Scopes
scopes_of s = scopes_view s.scopes.now

-- a basis has these scopes, and constructors have the fields that are held
pub record IsOver (P : Basis) (s : Sources) (types : List Refined) : Type 0 where
  pub scopes : P.setting.scopes ≡ scopes_of s
  pub fields : KnowsFields types s.fields.now P.setting.constructors
