-- What a subtyping is made over.
use Rattle.std.specs.Prelude.{◌≡◌, ℕ}
use Rattle.lq_refined_types.specs.Parts.Part as parts
use Rattle.lq_text_tree.specs.Types.{Signature}
use Rattle.lq_refined_types.specs.Types.Context.{Context}
use Rattle.lq_refined_subtyping.specs.declared.table.table.RefinedTypes.{RefinedTypes}
use Rattle.lq_refined_subtyping.specs.Table.Whole.{types_of}
use Rattle.lq_refined_substitution.specs.Substitution.Views.{scopes_view}
use Rattle.lq_refined_types.specs.Subtyping.Implication.{Origin}
use Rattle.lq_refined_types.specs.Subtyping.Subtype.{Setting, facts}
use Rattle.lq_refined_substitution.specs.declared.implications.list.Implications.{Implications}
use Rattle.lq_refined_substitution.specs.Implications.Views.{environment_at, origin_view}
use Rattle.lq_refined_subtyping.specs.declared.split.given.Given.{Given}
use Rattle.lq_refined_subtyping.specs.Split.Fields.{KnowsFields}

abbrev pub scopes_of : Given → parts.Scopes
scopes_of given = scopes_view given.scopes.now

abbrev pub setting_of : Given → Signature → Setting
setting_of given g = record { scopes = scopes_of given; constructors = g }

abbrev pub origin_of : Given → Origin
origin_of given = origin_view given.origin.0 given.origin.1

-- whatever constructors have the fields that are held, and whatever context has the hypotheses of the environment
abbrev pub Over : Given → RefinedTypes → Implications → ℕ → (Setting → Context → Type 0) → Type 0
Over given types list env F =
    (g : Signature) (Γ : Context) → KnowsFields (types_of (scopes_of given) types) given.fields.now g
    → facts (setting_of given g) Γ ≡ environment_at list env → F (setting_of given g) Γ
