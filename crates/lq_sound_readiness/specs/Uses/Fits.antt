-- Uses of names in a program of the source that fit its annotation.
use Rattle.std.specs.Prelude.{◌≡◌, ℕ, List, All}
use Rattle.lq_text_tree.specs.Items.{ItemTree}
use Rattle.lq_text_tree.specs.Tree.{tree, Form, use_of}
use Rattle.lq_text_walk.specs.Walk.Visits.{Visit, leave, visits_of_items}
use Rattle.lq_refined_templates.specs.Points.Annotation.{Annotation, arguments_at}
use Rattle.lq_sound_readiness.specs.Reading.Uses.{instance_by}

-- a use has the name's type, or the instance of it that the annotation gives at this node
abbrev pub FormFits : Annotation → ℕ → Form → Type 0
FormFits n i (use_of x) = n.types i ≡ instance_by (arguments_at n i x) (n.names x)
FormFits n i f = Unit {0}

-- a node that is left fits
abbrev pub VisitFits : Annotation → Visit → Type 0
VisitFits n (leave (tree i p f)) = FormFits n i f
VisitFits n v = Unit {0}

-- each use in a program fits
abbrev pub SourceUsesFit : Annotation → List ItemTree → Type 0
SourceUsesFit n is = All (VisitFits n) (visits_of_items is)
