-- What is read of a normal form is sorted by its annotation.
use Rattle.std.proofs.Common.{[], sym, subst}
use Rattle.lq_refined_rules.specs.Checks.Binders.{binders}
use Rattle.lq_refined_rules.specs.Checks.Tree.{Program}
use Rattle.lq_sound_scope.specs.Scopes.Over.{unknown_in}
use Rattle.lq_refined_templates.specs.Points.Pure.{Read}
use Rattle.lq_refined_templates.specs.Points.Reading.{program_of}
use Rattle.lq_refined_templates.specs.Points.Templates.{basis_of, points_of, unknowns_of}
use Rattle.lq_sound_adequacy.specs.Subtypings.Laws.{NormalFormsArePosed}
use Rattle.lq_sound_adequacy.specs.Obligations.Kinds.{ProgramKinds}
use Rattle.lq_sound_adequacy.specs.Obligations.Sorted.{sorts_by}
use Rattle.lq_sound_adequacy.specs.Templates.Laws.{EachName, ProgramPointsAreSorted, TemplatesAreSorted}
use Rattle.lq_sound_adequacy.specs.Templates.Points.{PointsSorted}
use Rattle.lq_sound_adequacy.specs.Programs.Kinds.{is_small, kinds_by}
use Rattle.lq_sound_adequacy.specs.Programs.Laws.{DefinitionsAreFixed, NamesAreOfTheirKinds, NormalFormsAreSorted}
use Rattle.lq_sound_adequacy.proofs.ProgramsLemmas.Twins.{name_kinds, small_kind, small_names, twins_alike}

pub programs_sorted : TemplatesAreSorted → ProgramPointsAreSorted → NamesAreOfTheirKinds → DefinitionsAreFixed → NormalFormsArePosed → NormalFormsAreSorted
programs_sorted made points names fixed forms D n by is same normal typed uses scalar spoken others ready differ twins before equations =
    let p : Read Program = program_of n is in
    let small : EachName is_small (binders p.read) = small_names (binders p.read) twins in
    let there : EachName is_small (binders (program_of by is).read) =
    subst (λ (q : Read Program). EachName is_small (binders q.read)) (sym same) small in
    let sorted : PointsSorted (sorts_by (kinds_by by)) p.points =
    subst (λ (q : Read Program). PointsSorted (sorts_by (kinds_by by)) q.points) same
    (points D by is_small (sorts_by (kinds_by by)) (name_kinds by) is normal typed there) in
    let kinds : ProgramKinds (basis_of D p.points) (kinds_by by) [] p.read =
    subst (λ (q : Read Program). ProgramKinds (basis_of D q.points) (kinds_by by) [] q.read) same
    (names D by is_small (kinds_by by) (small_kind by) is normal typed uses there) in
    record {
      twins = twins_alike by;
      names = kinds;
      fixed =
          fixed (basis_of D p.points) (unknown_in (unknowns_of D p.points)) (points_of p.points) p.read
          (forms D n by is same normal typed uses scalar spoken others ready differ twins before) (kinds_by by) kinds;
      templates = λ k. (made D p.points (sorts_by (kinds_by by)) sorted k).0;
      arguments = λ i. (made D p.points (sorts_by (kinds_by by)) sorted i).1;
      equations = equations;
    }
