-- What is made of a program's points stands as its basis.
use Rattle.std.proofs.Common.{◌≡◌, ℕ, ◌<◌, List, [], ◌∷◌, All, map, refl, sym, ap, ap₂, subst, ◌∙◌}
use Rattle.std.proofs.lemmas.List.Elements.{All-head, All-tail, All-weaker}
use Rattle.std.specs.declared.alloc.Global.{Global}
use Rattle.std.specs.declared.vec.Vec.{Vec}
use Rattle.lq_generate_operations.specs.Basis.Basis.{arguments_at, constructors_at, equations_at, IsThere, Stands}
use Rattle.lq_generate_operations.specs.Basis.Growing.{each-grown}
use Rattle.lq_generate_operations.specs.declared.basis.basis.Basis.{Basis}
use Rattle.lq_generate_datatypes.specs.Equations.{place_in}
use Rattle.lq_generate_fresh.specs.Fresh.Defined.{ordered_in, ConstructorsDiffer}
use Rattle.lq_generate_fresh.specs.Fresh.Views.{unknowns_of}
use Rattle.lq_generate_fresh.specs.declared.fresh.templates.Templates.{Templates}
use Rattle.lq_refined_instances.specs.Scopes.{scope_in}
use Rattle.lq_generate_fresh.specs.Fresh.Standing.{rows_at, rows_at-below, types_at-rows}
use Rattle.lq_generate_fresh.specs.Fresh.Wanted.{rows_types, AreRows, Rows}
use Rattle.lq_refined_types.specs.Parts.Part.{Scopes}
use Rattle.lq_refined_templates.specs.Points.Annotation.{Annotation}
use Rattle.lq_refined_templates.specs.Points.Templates.{scopes_of, templates_at}
use Rattle.lq_logic_predicates.specs.PredView.{formula_of}
use Rattle.lq_refined_types.specs.Types.Refined.{Refineds}
use Rattle.lq_refined_subtyping.specs.Table.Forms.{each}
use Rattle.lq_refined_subtyping.specs.Table.Whole.{count_of, types_of, Grows}
use Rattle.lq_refined_subtyping.specs.declared.table.table.RefinedTypes.{RefinedTypes}
use Rattle.lq_sound_programs.specs.Scenes.Scenes as scenes
use Rattle.lq_text_walk.specs.Scoped.Signature.{DataTree, signature_in}
use Rattle.lq_refined_copies.specs.Views.{shared_view}
use Rattle.lq_refined_copies.specs.declared.unknowns.SharedUnknowns.{SharedUnknowns}
use Rattle.lq_text_qualifiers.specs.Sorting.Sorted.{Measure}
use Rattle.lq_refined_subtyping.specs.Split.Fields.{AreThere, KnowsFields}
use Rattle.lq_refined_subtyping.specs.Split.Growing.{all-grown}
use Rattle.lq_refined_substitution.specs.Substitution.Views.{scopes_view}
use Rattle.lq_refined_types.specs.Subtyping.Splitting.{first_of}
use Rattle.lq_refined_templates.specs.Templates.Scopes.{symbols_in, Unknown}
use Rattle.lq_text_tree.specs.Items.{ItemTree}
use Rattle.lq_generate_problem.specs.Posed.{basis_for, templates_for, unknowns_for}

-- ---- rows where the table grows

pub rows_kept : (S : Scopes) (t : Templates) (types : RefinedTypes) (rows : Rows) → Grows t.types types → AreRows t rows
    → map (λ row. each (types_of S types) row.items) rows ≡ rows_types S t rows
rows_kept S t types [] grows there = refl
rows_kept S t types (v ∷ rows) grows there =
    let IsRow : Vec ℕ Global → Type 0 = λ row. All (λ r. r < count_of t.types) row.items in
    ap₂ (λ x (xs : List Refineds). x ∷ xs) (each-grown S t.types.rows.items types.rows.items v.items grows (All-head IsRow v rows there))
    (rows_kept S t types rows grows (All-tail IsRow v rows there))

pub rows_below : (t : Templates) (types : RefinedTypes) (rows : Rows) → Grows t.types types → AreRows t rows
    → All (λ row. All (λ r. r < count_of types) row.items) rows
rows_below t types rows grows there =
    All-weaker (λ (row : Vec ℕ Global). All (λ r. r < count_of t.types) row.items) (λ row. All (λ r. r < count_of types) row.items)
    (λ row h. all-grown t.types.rows.items types.rows.items row.items grows h) rows there

-- ---- the basis

-- what is known of rows and unknowns that were made for a program
pub record IsMadeFor (ds : List DataTree) (ms : List Measure) (n : Annotation) (is : List ItemTree) (t : Templates) (rows : Rows) : Type 0 where
  pub templates_are : (S : Scopes) → rows_types S t rows ≡ templates_for ds ms n is
  pub unknowns_are : unknowns_of t ≡ unknowns_for ds ms n is
  pub there : AreRows t rows

-- what is known of constructors that were declared
pub record IsDeclared (ds : List DataTree) (ms : List Measure) (b : Basis) (types : RefinedTypes) : Type 0 where
  pub fields : (S : Scopes) → KnowsFields (types_of S types) b.fields.now (signature_in ds)
  pub constructors : (d : ℕ) → constructors_at b.declared.now d ≡ ordered_in ds d
  pub equations : (c : ℕ) → map formula_of (equations_at b.declared.now c) ≡ scenes.equations_at ms (place_in ds) c (signature_in ds c)

pub declared_same : (ds es : List DataTree) (ms : List Measure) (b : Basis) (types : RefinedTypes) → ds ≡ es → ConstructorsDiffer es
    → (ConstructorsDiffer ds → IsDeclared ds ms b types) → IsDeclared es ms b types
declared_same ds es ms b types same differ h =
    subst (λ (l : List DataTree). IsDeclared l ms b types) same (h (subst ConstructorsDiffer (sym same) differ))

abbrev scopes_from : List Unknown → Scopes
scopes_from us = λ u. symbols_in (scope_in (scopes_of us) u)

module _ (ds : List DataTree) (ms : List Measure) (n : Annotation) (is : List ItemTree) (t : Templates) (rows : Rows) (made : IsMadeFor ds ms n is t rows) where
  pub scopes_same : (u : SharedUnknowns) (S : Scopes) → u ≡ t.unknowns → S ≡ scopes_from (shared_view u) → S ≡ (basis_for ds ms n is).setting.scopes
  scopes_same u S same h = h ∙ ap scopes_from (ap shared_view same ∙ made.unknowns_are)

  module _ (b : Basis) (types : RefinedTypes) (grows : Grows t.types types) (templates_same : b.templates.now ≡ rows) where
    pub basis_there : AreThere (count_of types) b.fields.now → IsThere (count_of types) b
    basis_there fields = record {
      fields = fields;
      templates = λ p.
          subst (λ (l : Rows). All (λ r. r < count_of types) (rows_at l p)) (sym templates_same)
          (all-grown t.types.rows.items types.rows.items (rows_at rows p) grows (rows_at-below t rows p made.there));
    }

    point_types : (S : Scopes) (p : ℕ) → arguments_at (types_of S types) b.templates.now p ≡ templates_at (templates_for ds ms n is) p
    point_types S p =
        ap (λ (l : Rows). arguments_at (types_of S types) l p) templates_same
        ∙ each-grown S t.types.rows.items types.rows.items (rows_at rows p) grows (rows_at-below t rows p made.there) ∙ types_at-rows S t rows p
        ∙ ap (λ (l : List Refineds). templates_at l p) (made.templates_are S)

    pub basis_stands : scopes_view b.scopes.now ≡ (basis_for ds ms n is).setting.scopes → IsDeclared ds ms b types → Stands (basis_for ds ms n is) b types
    basis_stands scopes d = record {
      scopes = sym scopes;
      fields = d.fields (scopes_view b.scopes.now);
      constructors = d.constructors;
      equations = d.equations;
      template = λ p. ap first_of (point_types (scopes_view b.scopes.now) p);
      type_arguments = point_types (scopes_view b.scopes.now);
    }
