-- What is accepted is safe, and what is small is decided.
use Rattle.std.proofs.Common.{ℕ, ◌≤◌, List, Ok, length, map, sym, subst}
use Rattle.lq_types_infer.specs.Annotation.Whole as annotated
use Rattle.lq_text_front.specs.Bytes.Stages.{Bytes}
use Rattle.lq_sound_texts.specs.Variance.Covariant.{NamedProgramsAreCovariant}
use Rattle.lq_sound_scope.specs.NameCounts.Short.{IsOfShortText}
use Rattle.lq_sound_values.specs.Inhabitants.Datatypes.{AreCovariant}
use Rattle.lq_text_lexer.specs.declared.limits.TheConstants.{TEXT_LIMIT}
use Rattle.lq_generate_reading.specs.Notes.Noted.{annotation_of, NotedAreKnown}
use Rattle.lq_generate_reading.specs.declared.notes.noted.Noted.{Noted}
use Rattle.lq_refined_types.specs.Parts.Assignment.{Assignment}
use Rattle.lq_refined_types.specs.Parts.Flowing.{assigned}
use Rattle.lq_refined_templates.specs.Points.Annotation.{Annotation}
use Rattle.lq_refined_templates.specs.Points.Reading.{program_of}
use Rattle.lq_top_pose.specs.Stages.{PosesTo, Typed, constraints_in, normal_in, program_in, unknowns_in}
use Rattle.lq_logic_predicates.specs.declared.pred.Stop.{Stop}
use Rattle.lq_logic_predicates.specs.declared.pred.Stop.TheVariants.{Number, Gather, Pivots, Memory as MemoryStop}
use Rattle.lq_generate_problem.specs.Posed.{datatypes_of}
use Rattle.lq_text_walk.specs.Scoped.Scoping.{Scoping}
use Rattle.lq_text_walk.specs.Scoped.Signature.{signature_in}
use Rattle.lq_sound_texts.specs.Texts.Laws.{IsSortedIn, TextsAreSafe}
use Rattle.lq_sound_texts.specs.Instances.Laws.{InstancesAreSorted, QualifiersAreSorted}
use Rattle.lq_sound_texts.specs.Measures.Laws.{AreMeasuresOf}
use Rattle.lq_sound_texts.specs.TypedTexts.Instances.{InstancesAreScoped}
use Rattle.lq_sound_texts.specs.TypedTexts.Safety.{IsSafe, IsSolvedBy}
use Rattle.lq_solve_strongest.specs.Weaken.Stops.{StopsSolving, StopsUnder}
use Rattle.lq_solve_fixpoint.specs.declared.weakening.error.SolveError.TheVariants.{At}
use Rattle.lq_top_judge.specs.Judgement.Agreeing.{IsOfProver}
use Rattle.lq_top_judge.specs.Verdict.Judgement.{IsAccepted, instances_of}
use Rattle.lq_top_judge.specs.Judgement.Safety.{IsNotedOf, SmallAreDecided}
use Rattle.lq_top_judge.proofs.JudgementLemmas.Texts.{measures_text, named_text, of_short_text, sorted_qualifiers}

pub record Laws : Type 1 where
  pub known : NotedAreKnown
  pub scoped : InstancesAreScoped
  pub safe : TextsAreSafe
  pub qualifiers : QualifiersAreSorted
  pub instances : InstancesAreSorted
  pub covariant : NamedProgramsAreCovariant

module _ (laws : Laws) (m : Noted) (b : Bytes) (t : Typed) (types : List ℕ) (short : length b.program ≤ TEXT_LIMIT) (noted : IsNotedOf m t) (posed : PosesTo b (Ok t)) (is : IsAccepted t types) where
  abbrev assignment : Assignment
  assignment = assigned (instances_of t) is.solution

  -- the assignment solves what is read by this annotation
  solved : IsSolvedBy (program_in t) t.bound.texts.measures t.annotation assignment
  solved =
      record {
        holds = is.strongest.meets;
        scoped = laws.scoped (datatypes_of (program_in t).datatypes t.bound.texts.measures) (program_of t.annotation (normal_in t)).points
            (map (λ x. x.name) t.bound.texts.measures) t.bound.texts.qualifiers is.solution;
      }

  -- of the program and the annotation that stand in memory
  abbrev there : Scoping
  there = annotated.program_of m.program.annotated

  solved_there : IsSolvedBy there t.bound.texts.measures (annotation_of m) assignment
  solved_there =
      subst (λ (s : Scoping). IsSolvedBy s t.bound.texts.measures (annotation_of m) assignment) (sym noted.program)
      (subst (λ (n : Annotation). IsSolvedBy (program_in t) t.bound.texts.measures n assignment) (sym noted.annotation) solved)

  text_there : IsOfShortText there
  text_there = subst IsOfShortText (sym noted.program) (of_short_text b t posed short)

  covariant_there : AreCovariant (signature_in there.datatypes)
  covariant_there =
      let named = named_text b t posed in
      let all = laws.covariant named.names named.items named.none in
      subst (λ (s : Scoping). AreCovariant (signature_in s.datatypes)) (sym noted.program)
      (subst (λ ds. AreCovariant (signature_in ds)) (sym named.datatypes) all)

  measures_there : AreMeasuresOf there.datatypes t.bound.texts.measures
  measures_there = subst (λ (s : Scoping). AreMeasuresOf s.datatypes t.bound.texts.measures) (sym noted.program) (measures_text b t posed)

  sorted : IsSortedIn (program_in t) t.bound.texts.measures t.annotation assignment
  sorted =
      laws.instances (unknowns_in t) (map (λ x. x.name) t.bound.texts.measures) t.bound.texts.qualifiers is.solution
      (sorted_qualifiers laws.qualifiers b t posed)

  sorted_there : IsSortedIn there t.bound.texts.measures (annotation_of m) assignment
  sorted_there =
      subst (λ (s : Scoping). IsSortedIn s t.bound.texts.measures (annotation_of m) assignment) (sym noted.program)
      (subst (λ (n : Annotation). IsSortedIn (program_in t) t.bound.texts.measures n assignment) (sym noted.annotation) sorted)

  pub safe : IsSafe (program_in t).items
  safe =
      subst (λ (s : Scoping). IsSafe s.items) noted.program
      (laws.safe m.program (annotation_of m) t.bound.texts.measures assignment text_there (laws.known m) sorted_there measures_there covariant_there
      solved_there)

pub decided : SmallAreDecided
decided limit t cause is small prover = by_stop is.stop is.stops prover
  where
    stopped : (s : Stop) → StopsUnder limit (instances_of t) (constraints_in t) is.at s → ⊥
    stopped s u = u.beyond (small is.at u.constraint u.here)

    by_stop : (s : Stop) → StopsSolving limit (instances_of t) (constraints_in t) (At is.at s) → IsOfProver s → ⊥
    by_stop (Number e) stops p = stopped (Number e) stops.1
    by_stop (Pivots n) stops p = stopped (Pivots n) stops.1
    by_stop (Gather q) stops p = p
    by_stop MemoryStop stops p = p
