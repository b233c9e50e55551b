-- What is read of a scalar program in normal form is posed as asked.
use Rattle.std.proofs.Common.{[], subst}
use Rattle.lq_refined_rules.specs.Checks.Tree.{Program}
use Rattle.lq_refined_rules.specs.Checks.Typing.{HasProgram}
use Rattle.lq_sound_scope.specs.Scopes.InScope.{InScope, no_names}
use Rattle.lq_sound_scope.specs.Scopes.Laws.{ScopesAreOfUnknowns, TemplatesAreInScope}
use Rattle.lq_sound_scope.specs.Scopes.Over.{unknown_in}
use Rattle.lq_refined_templates.specs.Points.Laws.{TemplatesAreOfPoints}
use Rattle.lq_refined_templates.specs.Points.Pure.{Read}
use Rattle.lq_refined_templates.specs.Points.Reading.{program_of}
use Rattle.lq_refined_templates.specs.Points.Templates.{basis_of, points_of, unknowns_of}
use Rattle.lq_sound_readiness.specs.Reading.Laws.{ReadIsTyped}
use Rattle.lq_sound_scope.specs.Scalars.Laws.{DefinitionsAreNameless, TemplatesAreWritten}
use Rattle.lq_sound_adequacy.specs.Subtypings.Laws.{NormalFormsArePosed}

pub normal_posed : TemplatesAreInScope → ScopesAreOfUnknowns → TemplatesAreOfPoints → ReadIsTyped → TemplatesAreWritten → DefinitionsAreNameless
    → NormalFormsArePosed
normal_posed scope scopes templates typed written nameless D n by is same normal obeys uses scalar equations only ready differ twins before =
    let p : Read Program = program_of n is in
    record {
      scopes = scopes D p.points;
      equations = equations;
      others = only;
      templates = templates D p.points;
      typed = subst (λ (q : Read Program). HasProgram (basis_of D q.points) (points_of q.points) [] q.read) same (typed D by is normal obeys uses);
      ready = ready;
      scoped = subst (λ (q : Read Program). InScope (basis_of D q.points) (unknown_in (unknowns_of D q.points)) no_names q.read) same
          (scope D by is normal obeys uses);
      differ = differ;
      twins = twins;
      written = written D n is normal scalar;
      nameless = nameless D n is normal;
      before = before;
    }
