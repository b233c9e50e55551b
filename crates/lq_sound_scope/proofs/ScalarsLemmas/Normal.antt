-- What is read of a scalar program in normal form is plain.
use Rattle.std.proofs.Common.{[], subst}
use Rattle.lq_refined_rules.specs.Checks.Tree.{Program}
use Rattle.lq_refined_rules.specs.Checks.Typing.{HasProgram}
use Rattle.lq_sound_scope.specs.Scopes.InScope.{InScope, no_names}
use Rattle.lq_sound_scope.specs.Scopes.Laws.{ScopesAreOfUnknowns, TemplatesAreInScope}
use Rattle.lq_sound_scope.specs.Scopes.Over.{unknown_in}
use Rattle.lq_refined_templates.specs.Points.Laws.{TemplatesAreOfPoints}
use Rattle.lq_refined_templates.specs.Points.Pure.{Read}
use Rattle.lq_refined_templates.specs.Points.Reading.{program_of}
use Rattle.lq_refined_templates.specs.Points.Templates.{basis_of, points_of, unknowns_of}
use Rattle.lq_sound_readiness.specs.Reading.Laws.{ReadIsTyped}
use Rattle.lq_sound_scope.specs.Scalars.Laws.{ScalarNormalFormsArePlain, ScalarProgramsArePlain, TemplatesAreWritten}

pub normal_plain : TemplatesAreInScope → ScopesAreOfUnknowns → TemplatesAreOfPoints → ReadIsTyped → TemplatesAreWritten → ScalarProgramsArePlain
    → ScalarNormalFormsArePlain
normal_plain scope scopes templates typed written plain D n by is A O same normal obeys uses scalar datatypes sorted ready differ twins before =
    let p : Read Program = program_of n is in
    plain (basis_of D p.points) (unknown_in (unknowns_of D p.points)) A O sorted (scopes D p.points) datatypes (points_of p.points)
    (templates D p.points) p.read
    (subst (λ (q : Read Program). HasProgram (basis_of D q.points) (points_of q.points) [] q.read) same (typed D by is normal obeys uses)) ready
    (subst (λ (q : Read Program). InScope (basis_of D q.points) (unknown_in (unknowns_of D q.points)) no_names q.read) same
    (scope D by is normal obeys uses))
    differ twins (written D n is normal scalar) before
