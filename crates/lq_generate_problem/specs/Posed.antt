-- What is to be solved for a program in normal form, by its annotation, its datatypes and its measures.
use Rattle.std.specs.Prelude.{◌≡◌, ℕ, List, map}
use Rattle.std.specs.declared.alloc.Global.{Global}
use Rattle.std.specs.declared.vec.Vec.{Vec}
use Rattle.lq_refined_rules.specs.Checks.Basis.{Basis}
use Rattle.lq_refined_rules.specs.Checks.Tree.{Program}
use Rattle.lq_generate_datatypes.specs.Equations.{place_in}
use Rattle.lq_generate_fresh.specs.Fresh.Defined.{ordered_in}
use Rattle.lq_refined_types.specs.Parts.Part.{Scopes}
use Rattle.lq_refined_templates.specs.Points.Annotation.{Annotation}
use Rattle.lq_refined_templates.specs.Points.Reading.{program_of}
use Rattle.lq_refined_templates.specs.Points.Templates.{Datatypes, basis_of, templates_from, unknowns_of}
use Rattle.lq_refined_types.specs.Types.Refined.{Refineds}
use Rattle.lq_refined_subtyping.specs.Table.Forms.{each}
use Rattle.lq_refined_subtyping.specs.Table.Whole.{types_of}
use Rattle.lq_refined_subtyping.specs.declared.table.table.RefinedTypes.{RefinedTypes}
use Rattle.lq_sound_programs.specs.Scenes.Scenes.{equations_at}
use Rattle.lq_text_walk.specs.Scoped.Signature.{DataTree, signature_in}
use Rattle.lq_text_qualifiers.specs.Sorting.Sorted.{Measure}
use Rattle.lq_refined_templates.specs.Templates.Scopes.{Unknown}
use Rattle.lq_text_tree.specs.Items.{ItemTree}

-- the program as the typing rules have it
abbrev pub read_of : Annotation → List ItemTree → Program
read_of n is = (program_of n is).read

module _ (ds : List DataTree) (ms : List Measure) where
  -- the predeclared datatypes and these, with the equations of these measures
  abbrev pub datatypes_of : Datatypes
  datatypes_of = record {
    constructors = signature_in ds;
    ordered = ordered_in ds;
    equations = λ c. equations_at ms (place_in ds) c (signature_in ds c);
  }

  -- what the program is checked over, the templates of its points, and their unknowns
  abbrev pub basis_for : Annotation → List ItemTree → Basis
  basis_for n is = basis_of datatypes_of (program_of n is).points

  abbrev pub templates_for : Annotation → List ItemTree → List Refineds
  templates_for n is = templates_from datatypes_of 0 (program_of n is).points

  abbrev pub unknowns_for : Annotation → List ItemTree → List Unknown
  unknowns_for n is = unknowns_of datatypes_of (program_of n is).points

-- Rows of numbers of a table stand for these types, whatever the scopes of unknowns are.
abbrev pub HasTemplates : RefinedTypes → List (Vec ℕ Global) → List Refineds → Type 0
HasTemplates types rows tss = (scopes : Scopes) → map (λ row. each (types_of scopes types) row.items) rows ≡ tss
