-- What checks runs well.
use Rattle.std.specs.Prelude.{◌≡◌}
use Rattle.lq_refined_types.specs.Parts.Assignment.{Assignment}
use Rattle.lq_text_tree.specs.MlType.{MlType}
use Rattle.lq_refined_types.specs.Types.Context.{Context}
use Rattle.lq_refined_types.specs.Types.Refined.{Refined, erased}
use Rattle.lq_refined_rules.specs.Checks.Basis.{Basis}
use Rattle.lq_refined_rules.specs.Checks.Checks.{Against}
use Rattle.lq_refined_rules.specs.Checks.Fitting.{Fits}
use Rattle.lq_refined_rules.specs.Checks.Tree.{Block}
use Rattle.lq_refined_rules.specs.Checks.Typing.{Points, AreTemplates, Types, HasBlock}
use Rattle.lq_sound_values.specs.Inhabitants.Truth.{Objects}
use Rattle.lq_sound_values.specs.Inclusion.Laws.{IsScene}
use Rattle.lq_sound_values.specs.Inclusion.Symbols.{Symbols}
use Rattle.lq_sound_values.specs.Runs.Closed.{IsClosed}
use Rattle.lq_sound_values.specs.Runs.Meets.{Variables}
use Rattle.lq_sound_values.specs.Runs.Runs.{RunsTo}
use Rattle.lq_sound_forms.specs.Pures.Cores.{block_core}
use Rattle.lq_sound_forms.specs.Pures.Pures.{KnowsLengths, scene_of}
use Rattle.lq_sound_programs.specs.Safety.Programs.{BlockUsesOnly, Allows}
use Rattle.lq_sound_programs.specs.Safety.Scoped.{IsScopedBlock}

-- A simply typed block that checks against a type runs to it, where its names are in scope and what stands for type variables allows its
-- uses.
abbrev pub BlocksRun : Type 0
BlocksRun =
    (P : Basis) (A : Assignment) (O : Objects) → IsScene (scene_of P A O) → KnowsLengths O → (Q : Points) → AreTemplates P Q → (by : Variables)
    (b : Block) (Δ : Types) (Γ : Context) (t : Refined) (a : MlType) → Fits Δ Γ → IsClosed (scene_of P A O) Γ → HasBlock P Q Δ b a
    → erased t ≡ a → Against P A Γ b t → IsScopedBlock P A O Γ b t → (G V : Symbols) → Allows by G V Γ → BlockUsesOnly G V b
    → RunsTo (scene_of P A O) by Γ (block_core b) t
