-- Uses of names.
use Rattle.std.proofs.Common.{◌≡◌, rules}
use Rattle.lq_refined_rules.specs.Checks.Tree as t
use Rattle.lq_refined_templates.specs.Programs.PureView.{pure_view, use_view}
use Rattle.lq_refined_templates.specs.declared.programs.pure.Pure.{the_lemmas}
use Rattle.lq_refined_templates.specs.declared.programs.pure.Pure.TheVariants as pure
use Rattle.lq_refined_templates.specs.declared.programs.pure.Use.{Use}

pub seen-use : (u : Use) → pure_view (pure.Use u) ≡ t.use_of (use_view u)
seen-use u = search (rules, the_lemmas)
