-- The templates that are wanted for points, and what stands for them in memory.
use Rattle.std.specs.Prelude.{ℕ, ◌<◌, List, [], ◌∷◌, All, map}
use Rattle.std.specs.declared.alloc.Global.{Global}
use Rattle.std.specs.declared.vec.Vec.{Vec}
use Rattle.lq_generate_fresh.specs.Fresh.Views.{all_types}
use Rattle.lq_generate_fresh.specs.Fresh.Walking.{AllWanted, Wanted}
use Rattle.lq_generate_fresh.specs.declared.fresh.templates.Templates.{Templates}
use Rattle.lq_refined_instances.specs.Scopes.{Scope}
use Rattle.lq_refined_types.specs.Parts.Part.{known, Parts, Scopes}
use Rattle.lq_refined_templates.specs.Points.Point.{Point}
use Rattle.lq_refined_templates.specs.Points.Templates.{Datatypes, all_emptied, all_plain, emptied, made_at, made_constant, plain}
use Rattle.lq_logic_predicates.specs.Formula as f
use Rattle.lq_refined_types.specs.Types.Refined.{Kind, number, object, other, Refineds, truth_value}
use Rattle.lq_refined_subtyping.specs.Table.Forms.{each}
use Rattle.lq_refined_subtyping.specs.Table.Whole.{count_of}
use Rattle.lq_text_tree.specs.MlType.{MlType, MlTypes}
use Rattle.lq_text_tree.specs.Types.{Signature}

-- datatypes without equations: no template speaks of these
abbrev pub unmeasured : Signature → (ℕ → List ℕ) → Datatypes
unmeasured g ordered = record { constructors = g; ordered = ordered; equations = λ c. [] }

-- ---- the templates of one point, from an unknown on

abbrev pub emptied_wanted : ℕ → Scope → MlType → Wanted
emptied_wanted n Γ t = λ g ordered. emptied (unmeasured g ordered) n Γ t

abbrev pub all_emptied_wanted : ℕ → Scope → MlTypes → AllWanted
all_emptied_wanted n Γ ts = λ g ordered. all_emptied (unmeasured g ordered) n Γ ts

abbrev pub constant_wanted : ℕ → Scope → MlType → Wanted
constant_wanted n Γ t = λ g ordered. made_constant (unmeasured g ordered) n Γ t

abbrev pub plain_wanted : MlType → Wanted
plain_wanted t = λ g ordered. record { type = plain t; unknowns = [] }

abbrev pub all_plain_wanted : MlTypes → AllWanted
all_plain_wanted ts = λ g ordered. record { types = all_plain ts; unknowns = [] }

abbrev pub point_wanted : ℕ → Point → AllWanted
point_wanted n p = λ g ordered. made_at (unmeasured g ordered) n p

-- the parts at the top of a type of this kind of which there is no value
abbrev pub empty_parts : Kind → Parts
empty_parts number = known f.falsity ∷ []
empty_parts truth_value = known f.falsity ∷ []
empty_parts object = known f.falsity ∷ []
empty_parts other = []

-- ---- the numbers of the types of each point

abbrev pub Rows : Type 0
Rows = List (Vec ℕ Global)

abbrev pub rows_types : Scopes → Templates → Rows → List Refineds
rows_types scopes t rows = map (λ row. each (all_types scopes t) row.items) rows

-- each is that of a type of the table
abbrev pub AreRows : Templates → Rows → Type 0
AreRows t rows = All (λ row. All (λ r. r < count_of t.types) row.items) rows
