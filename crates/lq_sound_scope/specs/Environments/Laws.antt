-- Templates in scope, under an assignment of instances that speak of what their unknowns may speak of, in an environment that binds the names.
use Rattle.std.specs.Prelude.{◌≡◌, ℕ}
use Rattle.lq_refined_types.specs.Parts.Assignment.{Assignment}
use Rattle.lq_refined_types.specs.Types.Context.{Context}
use Rattle.lq_sound_values.specs.Inhabitants.Truth.{Objects}
use Rattle.lq_sound_values.specs.Inclusion.Symbols.{Symbols}
use Rattle.lq_sound_values.specs.Runs.Closed.{names_in}
use Rattle.lq_refined_rules.specs.Checks.Basis.{Basis}
use Rattle.lq_sound_programs.specs.Plain.Plain.{IsTemplateOver, IsRecursionOver}
use Rattle.lq_refined_templates.specs.Templates.Scopes.{Unknown, symbols_in}
use Rattle.lq_sound_scope.specs.Scopes.InScope.{NamesParameter, TemplateOver}
use Rattle.lq_sound_scope.specs.Scopes.Over.{AreSorted, IsWithin}

-- a template over names is over them as soundness asks
abbrev pub TemplatesAreOver : Type 0
TemplatesAreOver =
    (P : Basis) (unknowns : ℕ → Unknown) (A : Assignment) (O : Objects) → AreSorted unknowns A → (N : Symbols) (Γ : Context)
    → IsWithin N (names_in Γ) → (p : ℕ) → TemplateOver P unknowns N p → IsTemplateOver P A O Γ p

-- So is the template of a recursive function that names its argument by the parameter or doesn't name it: its argument is over these names, and
-- its body's type over these, its own name and the parameter. The scopes are those of the unknowns.
abbrev pub RecursionsAreOver : Type 0
RecursionsAreOver =
    (P : Basis) (unknowns : ℕ → Unknown) (A : Assignment) (O : Objects) → AreSorted unknowns A
    → ((u : ℕ) → P.setting.scopes u ≡ symbols_in (unknowns u).0) → (N : Symbols) (Γ : Context) → IsWithin N (names_in Γ) → (g p y : ℕ)
    → TemplateOver P unknowns N p → NamesParameter y (P.template p) → IsRecursionOver P A O Γ g p y
