-- What the walk over a simple type makes, where the datatypes are described right.
use Rattle.std.specs.Prelude.{◌≡◌, ℕ, suc, ◌<◌, List, [], ◌∷◌, max, All, Option}
use Rattle.lq_refined_instances.specs.Scopes.{Scope}
use Rattle.lq_refined_types.specs.Parts.Part.{Scopes}
use Rattle.lq_refined_subtyping.specs.Table.Forms.{each, form_rows, form_type}
use Rattle.lq_refined_subtyping.specs.Table.Whole.{count_of, refined_at}
use Rattle.lq_refined_subtyping.specs.declared.table.forms.Form.{Form}
use Rattle.lq_text_qualifiers.specs.Faults.Shapes.{shape_of}
use Rattle.lq_refined_templates.specs.Templates.Fresh.{AllMade, Made, arguments, components, inside, topped}
use Rattle.lq_text_tree.specs.MlType.{MlType, MlTypes}
use Rattle.lq_text_tree.specs.Types.{Signature}
use Rattle.lq_generate_fresh.specs.Fresh.Views.{all_types, Describes, IsGrown, IsMade}
use Rattle.lq_generate_fresh.specs.declared.fresh.fields.Datatypes.{Datatypes}
use Rattle.lq_generate_fresh.specs.declared.fresh.templates.Templates.{Templates}

-- a template, for what constructors stand for and the constructors of each datatype in their order
abbrev pub Wanted : Type 0
Wanted = Signature → (ℕ → List ℕ) → Made

abbrev pub AllWanted : Type 0
AllWanted = Signature → (ℕ → List ℕ) → AllMade

-- without its top, from an unknown on, in a scope
abbrev pub form_wanted : ℕ → Scope → List (Option ℕ) → MlType → Wanted
form_wanted n Γ xs t = λ g ordered. inside g ordered n Γ xs t

-- the second scope is the top's
abbrev pub template_wanted : ℕ → Scope → Scope → List (Option ℕ) → MlType → Wanted
template_wanted n Γ Δ xs t = λ g ordered. topped n Δ (shape_of t) (inside g ordered n Γ xs t)

abbrev pub components_wanted : ℕ → Scope → MlTypes → AllWanted
components_wanted n Γ ts = λ g ordered. components g ordered n Γ Γ 0 ts

abbrev pub arguments_wanted : ℕ → Scope → MlTypes → AllWanted
arguments_wanted n Γ ts = λ g ordered. arguments g ordered n Γ ts

-- the type of this number is the template, and its unknowns were added
pub record IsTemplate (D : Datatypes) (old new : Templates) (r : ℕ) (m : Wanted) : Type 0 where
  pub there : r < count_of new.types
  pub grown : IsGrown old new
  pub refined : (g : Signature) (ordered : ℕ → List ℕ) → Describes D g ordered → (scopes : Scopes) → refined_at scopes new.types r ≡ (m g ordered).type
  pub made : (g : Signature) (ordered : ℕ → List ℕ) → Describes D g ordered → IsMade old new (m g ordered).unknowns

-- the same of the type of this form with nothing at its top
pub record IsForm (D : Datatypes) (old new : Templates) (f : Form) (m : Wanted) : Type 0 where
  pub there : All (λ p. p < count_of new.types) (form_rows f)
  pub grown : IsGrown old new
  pub refined : (g : Signature) (ordered : ℕ → List ℕ) → Describes D g ordered → (scopes : Scopes)
      → form_type (all_types scopes new) f [] ≡ (m g ordered).type
  pub made : (g : Signature) (ordered : ℕ → List ℕ) → Describes D g ordered → IsMade old new (m g ordered).unknowns

-- the same of the types of these numbers
pub record AreTemplates (D : Datatypes) (old new : Templates) (rs : List ℕ) (m : AllWanted) : Type 0 where
  pub there : All (λ p. p < count_of new.types) rs
  pub grown : IsGrown old new
  pub refined : (g : Signature) (ordered : ℕ → List ℕ) → Describes D g ordered → (scopes : Scopes) → each (all_types scopes new) rs ≡ (m g ordered).types
  pub made : (g : Signature) (ordered : ℕ → List ℕ) → Describes D g ordered → IsMade old new (m g ordered).unknowns

-- what is above each of the numbers
abbrev pub above : List ℕ → ℕ
above [] = 0
above (p ∷ ps) = max (suc p) (above ps)
