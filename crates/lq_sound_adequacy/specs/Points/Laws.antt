-- Templates are subtypes of themselves.
use Rattle.std.specs.Prelude.{ℕ, List}
use Rattle.lq_refined_types.specs.Parts.Assignment.{Assignment}
use Rattle.lq_refined_types.specs.Types.Context.{Context}
use Rattle.lq_refined_types.specs.Subtyping.Subtype.{IsSubtype}
use Rattle.lq_refined_rules.specs.Checks.Binders.{AllDiffer}
use Rattle.lq_refined_templates.specs.Points.Point.{Point}
use Rattle.lq_refined_templates.specs.Points.Templates.{Datatypes, basis_of}
use Rattle.lq_sound_adequacy.specs.Reflexivity.Laws.{HasOwnPlaces}

-- where each datatype lists its constructors once
abbrev pub TemplatesHaveOwnPlaces : Type 0
TemplatesHaveOwnPlaces = (D : Datatypes) → ((d : ℕ) → AllDiffer (D.ordered d)) → (ps : List Point) (p : ℕ) → HasOwnPlaces ((basis_of D ps).template p)

abbrev pub TemplatesAreSubtypesOfThemselves : Type 0
TemplatesAreSubtypesOfThemselves =
    (D : Datatypes) → ((d : ℕ) → AllDiffer (D.ordered d)) → (ps : List Point) (A : Assignment) (Γ : Context) (p : ℕ)
    → let P = basis_of D ps in IsSubtype P.setting A Γ (P.template p) (P.template p)
