-- What is read and what is described is that of the program.
use Rattle.std.proofs.Common.{◌≡◌, List, sym, ap₂, subst, ◌∙◌}
use Rattle.lq_generate_fresh.specs.Fresh.Defined.{ordered_in, ConstructorsDiffer}
use Rattle.lq_generate_fresh.specs.Fresh.Views.{Describes}
use Rattle.lq_generate_fresh.specs.declared.fresh.fields.Datatypes.{Datatypes}
use Rattle.lq_refined_instances.specs.Scopes.{Scope}
use Rattle.lq_refined_templates.specs.Programs.PointView.{points_view}
use Rattle.lq_refined_templates.specs.declared.programs.point.Point.{Point}
use Rattle.lq_refined_templates.specs.Points.Annotation.{Annotation}
use Rattle.lq_refined_templates.specs.Points.Reading.{program_of}
use Rattle.lq_refined_templates.specs.Points.Templates as templates
use Rattle.lq_text_walk.specs.Scoped.Signature.{DataTree, signature_in}
use Rattle.lq_text_tree.specs.Items.{ItemTree}
use Rattle.lq_text_tree.specs.MlType.{MlType}

pub described : (made : Datatypes) (D : templates.Datatypes) (ds es : List DataTree) → ds ≡ es → ConstructorsDiffer es
    → (ConstructorsDiffer ds → Describes made (signature_in ds) (ordered_in ds)) → D.constructors ≡ signature_in es → D.ordered ≡ ordered_in es
    → Describes made D.constructors D.ordered
described made D ds es same differ describes constructors ordered =
    let h : Describes made (signature_in es) (ordered_in es) =
    subst (λ (l : List DataTree). Describes made (signature_in l) (ordered_in l)) same
    (describes (subst ConstructorsDiffer (sym same) differ)) in
    subst (λ o. Describes made D.constructors o) (sym ordered) (subst (λ g. Describes made g (ordered_in es)) (sym constructors) h)

pub points_same : (S T : List Scope) (types : List MlType) (ps qs : List Point) (n m : Annotation) (is js : List ItemTree) → S ≡ T → ps ≡ qs
    → points_view T types qs ≡ (program_of n is).points → n ≡ m → is ≡ js → points_view S types ps ≡ (program_of m js).points
points_same S T types ps qs n m is js a b h d e =
    ap₂ (λ s p. points_view s types p) a b ∙ h ∙ ap₂ (λ k l. (program_of k l).points) d e
