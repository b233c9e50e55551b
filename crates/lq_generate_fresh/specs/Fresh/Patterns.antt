-- Patterns: templates in the scope of the mark alone, with unknowns from 0 on.
use Rattle.std.specs.Prelude.{◌≡◌, ℕ, ◌<◌, List, [], ◌∷◌, All, length, slice_index_or}
use Rattle.lq_refined_types.specs.Parts.Part.{Scopes}
use Rattle.lq_refined_subtyping.specs.Table.Whole.{count_of, refined_at}
use Rattle.lq_refined_copies.specs.Completed.{mark}
use Rattle.lq_refined_templates.specs.Templates.Fresh.{fresh}
use Rattle.lq_text_tree.specs.MlType.{MlType}
use Rattle.lq_text_tree.specs.Types.{Signature}
use Rattle.lq_types_table.specs.Nodes.{at}
use Rattle.lq_generate_fresh.specs.Fresh.Views.{patterns_of, Describes}
use Rattle.lq_generate_fresh.specs.Fresh.Walking.{Wanted}
use Rattle.lq_generate_fresh.specs.declared.fresh.fields.Datatypes.{Datatypes}
use Rattle.lq_generate_fresh.specs.declared.fresh.patterns.Pattern.{Pattern}
use Rattle.lq_generate_fresh.specs.declared.fresh.patterns.Patterns.{Patterns}
use Rattle.lq_generate_fresh.specs.declared.fresh.templates.Templates.{Templates}

-- the template of a type in the scope of the mark alone
abbrev pub pattern_wanted : MlType → Wanted
pattern_wanted t = λ g ordered. fresh g ordered 0 (mark ∷ []) [] t

-- the refined type that a pattern names is that template, and the list of unknowns that it names has its unknowns
pub record IsPattern (D : Datatypes) (types : List MlType) (t : Templates) (p : Pattern) : Type 0 where
  pub there : p.row < count_of t.types
  pub number : p.number < length (patterns_of t)
  pub refined : (g : Signature) (ordered : ℕ → List ℕ) → Describes D g ordered → (scopes : Scopes)
      → refined_at scopes t.types p.row ≡ (pattern_wanted (at types p.at) g ordered).type
  pub made : (g : Signature) (ordered : ℕ → List ℕ) → Describes D g ordered
      → slice_index_or (patterns_of t) p.number [] ≡ (pattern_wanted (at types p.at) g ordered).unknowns

-- each pattern that is remembered is one
abbrev pub ArePatterns : Datatypes → List MlType → Templates → Patterns → Type 0
ArePatterns D types t patterns = All (IsPattern D types t) patterns.made.items
