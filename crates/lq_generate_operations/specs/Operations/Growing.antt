-- Environments that stand in memory: the empty one, where tables grow, and where names are let go.
use Rattle.std.proofs.Common.{◌≡◌, ℕ, ◌<◌, [], ◌∷◌, length, sym, ap, ◌∙◌}
use Rattle.lq_refined_rules.specs.Checks.Basis as checks
use Rattle.lq_refined_subtyping.specs.Contexts.Growing.{HasMore}
use Rattle.lq_refined_substitution.specs.Implications.Views.{environment_at, environment_lists}
use Rattle.lq_refined_substitution.specs.declared.implications.list.Implications.{Implications}
use Rattle.lq_refined_types.specs.Parts.Part.{Parts}
use Rattle.lq_refined_types.specs.Types.Context.{guard, Context, hypotheses_of}
use Rattle.lq_refined_subtyping.specs.Table.Whole.{count_of, Grows}
use Rattle.lq_refined_subtyping.specs.declared.table.table.RefinedTypes.{RefinedTypes}
use Rattle.lq_refined_subtyping.specs.Split.Growing.{environment-kept}
use Rattle.lq_refined_types.specs.Subtyping.Subtype.{facts, with_guards}
use Rattle.lq_generate_operations.specs.Basis.Basis.{scopes_of, Stands}
use Rattle.lq_generate_operations.specs.Basis.Growing.{knows-grown, knows-guarded, knows-nothing, knows-same}
use Rattle.lq_generate_operations.specs.Basis.Knowing.{AreBelow, Knows}
use Rattle.lq_generate_operations.specs.Basis.Names.{bound}
use Rattle.lq_generate_operations.specs.declared.basis.basis.Basis.{Basis}
use Rattle.lq_generate_operations.specs.declared.basis.names.Names.{Names}
use Rattle.lq_generate_operations.specs.Operations.Over.{IsContext}

-- an environment stays where the tables grow
pub is_context-grown : (Γ : Context) (names : Names) (b : Basis) (old new : RefinedTypes) (list more : Implications) (env : ℕ)
    → Grows old new → AreBelow (count_of old) names → HasMore (environment_lists list) (environment_lists more)
    → env < length (environment_lists list) → IsContext Γ names b old list env → IsContext Γ names b new more env
is_context-grown Γ names b old new list more env g h m l k = record {
  knows = knows-grown Γ names b old new g h k.knows;
  facts = k.facts ∙ sym (environment-kept (environment_lists list) (environment_lists more) env m l);
}

-- and where the names are those that they were
pub is_context-same : (Γ : Context) (names new : Names) (b : Basis) (types : RefinedTypes) (list : Implications) (env : ℕ)
    → bound new ≡ bound names → IsContext Γ names b types list env → IsContext Γ new b types list env
is_context-same Γ names new b types list env e k = record { knows = knows-same Γ names new b types e k.knows; facts = k.facts }

-- guards have no names
pub knows-guards : (qs : Parts) (Γ : Context) (names : Names) (b : Basis) (types : RefinedTypes) → Knows Γ names b types
    → Knows (with_guards qs Γ) names b types
knows-guards [] Γ names b types k = k
knows-guards (q ∷ qs) Γ names b types k = knows-guards qs (guard q ∷ Γ) names b types (knows-guarded Γ names b types q k)
