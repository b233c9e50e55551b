-- What stands in memory is what is judged.
use Rattle.std.proofs.Common.{◌≡◌, ℕ, ◌<◌, ◌≤◌, ◌^◌, List, [], Option, Some, None, Ok, Err, IfSome, IfOk, IfErr, OnOk, length, map, sym, ap, subst, ◌∙◌, arith}
use Rattle.std.specs.Prelude.{Result, slice_get, slice_index_or}
use Rattle.std.proofs.lemmas.List.{length-map}
use Rattle.std.proofs.lemmas.Option.{slice_get_within}
use Rattle.lq_types_infer.specs.Annotation.Whole.{program_of}
use Rattle.lq_top_answers.specs.Failure.Failures.{IsExplained, IsFailure, undecided_lines}
use Rattle.lq_refined_substitution.specs.Implications.Views.{implications_of}
use Rattle.lq_refined_substitution.specs.declared.implications.list.Implications.{Implications}
use Rattle.lq_top_answers.specs.Inferred.Lines.{Inferred, types_text_of}
use Rattle.lq_top_answers.specs.Inferred.Views.{inferred_in}
use Rattle.lq_refined_types.specs.Parts.Assignment.{Assignment}
use Rattle.lq_refined_types.specs.Parts.Constraint.{Constraint, IsFirstFailing}
use Rattle.lq_refined_types.specs.Parts.Flowing.{IsStrongest, Selection, assigned}
use Rattle.lq_logic_points.specs.Values.{as_point}
use Rattle.lq_logic_points.specs.declared.point.Point.{Point}
use Rattle.lq_refined_templates.specs.Programs.BlockView.{program_view}
use Rattle.lq_refined_templates.specs.Points.Templates.{templates_at}
use Rattle.lq_meaning_normalize.specs.MadeNames.Numbers.{made_number}
use Rattle.lq_meaning_normalize.specs.Normalize.Made.{normal_view}
use Rattle.lq_top_pose.specs.Stages.{Typed, basis_in, constraints_in, implications_in, normal_in, read_in}
use Rattle.lq_top_pose.specs.Views.{IsPosedView}
use Rattle.lq_top_pose.specs.declared.posing.PosedTexts.{PosedTexts}
use Rattle.lq_logic_predicates.specs.ClosedImplication.{ClosedImplication}
use Rattle.lq_logic_predicates.specs.Formula.{Formula}
use Rattle.lq_logic_predicates.specs.declared.pred.Stop.{Stop}
use Rattle.lq_logic_predicates.specs.declared.pred.Stop.TheVariants.{Number, Gather, Pivots, Memory as MemoryStop}
use Rattle.lq_logic_text.specs.Calling.{Calling}
use Rattle.lq_solve_fixpoint.specs.Questions.Assigned.{closed_under, constraints_of, instances_in as lists_in}
use Rattle.lq_refined_types.specs.Types.Refined.{Refined, Refineds}
use Rattle.lq_text_walk.specs.Scoped.Scoping.{Scoping}
use Rattle.lq_refined_substitution.specs.Substitution.Views.{scopes_view}
use Rattle.lq_refined_types.specs.Subtyping.Implication.{Implication, constraint_of}
use Rattle.lq_refined_types.specs.Subtyping.Splitting.{first_of}
use Rattle.lq_text_tree.specs.Items.{ItemTree}
use Rattle.lq_top_answers.specs.TypeText.Types.{Writing}
use Rattle.lq_solve_strongest.specs.Weaken.Gathering.{AreGathered}
use Rattle.lq_solve_strongest.specs.Weaken.Stops.{StopsSolving}
use Rattle.lq_solve_fixpoint.specs.Weakening.Judging.{Instances}
use Rattle.lq_solve_fixpoint.specs.Weakening.Solving.{HasNoSolution, IsSolved}
use Rattle.lq_solve_fixpoint.specs.declared.weakening.error.SolveError.{SolveError}
use Rattle.lq_solve_fixpoint.specs.declared.weakening.error.SolveError.TheVariants.{At}
use Rattle.lq_solve_fixpoint.specs.declared.weakening.solving.Solved.{Solved}
use Rattle.lq_top_judge.specs.Verdict.Judgement.{IsVerdictOn, Refutes, instances_of, types_by}
use Rattle.lq_top_judge.specs.Verdict.Names.{called_by, called_in, numbers_in, parameters_in, writing_in, written_by}
use Rattle.lq_top_judge.specs.Verdict.Posed.{IsPosed, IsSolution}
use Rattle.lq_top_judge.specs.declared.verdict.judgement.Judgement.TheVariants.{Accepted, Rejected, Undecided}
use Rattle.lq_top_judge.proofs.VerdictLemmas.Scoped.{scoped_text}

module _ (m : PosedTexts) (t : Typed) (is : IsPosedView m t) where
  pub lists_are : lists_in m.problem.instances ≡ instances_of t
  lists_are = let each : List (List Formula) → ℕ → List Formula = λ ls u. slice_index_or ls u [] in ap each is.problem.instances

  pub constraints_are : constraints_of m.problem.implications ≡ constraints_in t
  constraints_are = ap (map constraint_of) is.problem.implications

  -- what holds of these holds of the others
  pub moved : (P : Instances → List Constraint → Type 0) → P (lists_in m.problem.instances) (constraints_of m.problem.implications)
      → P (instances_of t) (constraints_in t)
  moved P holds =
      subst (λ (cs : List Constraint). P (instances_of t) cs) constraints_are
      (subst (λ (I : Instances). P I (constraints_of m.problem.implications)) lists_are holds)

  pub assignments_are : (c : Selection) → assigned (lists_in m.problem.instances) c ≡ assigned (instances_of t) c
  assignments_are c = ap (λ (I : Instances). assigned I c) lists_are

  -- ---- names

  abbrev texts_sources : List (Option ℕ)
  texts_sources = (program_of m.texts.noted.program.annotated).sources

  pub numbers_are : made_number texts_sources (normal_view m.texts.normal).items ≡ numbers_in t
  numbers_are =
      ap (λ (is : List ItemTree). made_number texts_sources is) is.normal
      ∙ ap (λ (s : Scoping). made_number s.sources (normal_in t)) is.program

  pub called_are : called_by m.texts.names texts_sources (made_number texts_sources (normal_view m.texts.normal).items) ≡ called_in t
  called_are =
      ap (λ (names : List (List ℕ)). called_by names texts_sources (made_number texts_sources (normal_view m.texts.normal).items)) is.names
      ∙ ap (λ (numbers : ℕ → Option ℕ). called_by (names_of t) texts_sources numbers) numbers_are
      ∙ ap (λ (s : Scoping). called_by (names_of t) s.sources (numbers_in t)) is.program
    where
      names_of : Typed → List (List ℕ)
      names_of u = (called_in u).names

  pub written_are :
      written_by m.texts.names texts_sources (made_number texts_sources (normal_view m.texts.normal).items) (parameters_in (program_of m.texts.noted.program.annotated).datatypes)
      ≡ writing_in t
  written_are =
      ap (λ (names : List (List ℕ)). written_by names texts_sources (made_number texts_sources (normal_view m.texts.normal).items) (parameters_in (program_of m.texts.noted.program.annotated).datatypes)) is.names
      ∙ ap (λ (numbers : ℕ → Option ℕ). written_by (called_in t).names texts_sources numbers (parameters_in (program_of m.texts.noted.program.annotated).datatypes)) numbers_are
      ∙ ap (λ (s : Scoping). written_by (called_in t).names s.sources (numbers_in t) (parameters_in s.datatypes)) is.program

  -- ---- types

  abbrev made : Assignment → Writing → Inferred
  made A w = inferred_in (scopes_view m.problem.scopes) m.problem.types m.problem.templates.items A w

  templates_are : (made (λ u. []) (writing_in t)).template ≡ (basis_in t).template
  templates_are =
      let first : List Refineds → ℕ → Refined = λ tss k. first_of (templates_at tss k) in
      ap first (is.problem.templates (scopes_view m.problem.scopes))

  pub types_are : (c : Selection) (w : Writing) → w ≡ writing_in t
      → types_text_of (made (assigned (lists_in m.problem.instances) c) w) (read_in t) ≡ types_by t (assigned (instances_of t) c)
  types_are c w same =
      ap (λ (A : Assignment). types_text_of (made A w) (read_in t)) (assignments_are c)
      ∙ ap (λ (x : Writing). types_text_of (made (assigned (instances_of t) c) x) (read_in t)) same
      ∙ ap (λ (f : ℕ → Refined). types_text_of (record { template = f; assignment = assigned (instances_of t) c; writing = writing_in t }) (read_in t)) templates_are

-- ---- the judgement

if_some : {X : Type 0} (o : Option X) (P : X → Type 0) (x : X) → IfSome o P → o ≡ Some x → P x
if_some None P x is e = absurd (let h : None ≡ Some x = e in cc)
if_some (Some y) P x is e = let same : y ≡ x = cc in subst P same is

module _ (m : PosedTexts) (t : Typed) (is : IsPosedView m t) where
  abbrev sources : List (Option ℕ)
  sources = (program_of m.texts.noted.program.annotated).sources

  abbrev numbers : ℕ → Option ℕ
  numbers = made_number sources (normal_view m.texts.normal).items

  abbrev lists : Instances
  lists = lists_in m.problem.instances

  abbrev constraints : List Constraint
  constraints = constraints_of m.problem.implications

  pub accepted_is : (limit : ℕ) (c : Selection) (text : List ℕ) → AreGathered lists constraints → IsStrongest lists constraints c
      → text ≡ types_text_of (made m t is (assigned lists c) (written_by m.texts.names sources numbers (parameters_in (program_of m.texts.noted.program.annotated).datatypes)))
      (program_view m.problem.program.items) → IsVerdictOn limit t (Accepted text)
  accepted_is limit c text gathered strongest written =
      let w = written_by m.texts.names sources numbers (parameters_in (program_of m.texts.noted.program.annotated).datatypes) in
      record {
        gathered = moved m t is AreGathered gathered;
        solution = c;
        strongest = moved m t is (λ I cs. IsStrongest I cs c) strongest;
        written = written ∙ ap (types_text_of (made m t is (assigned lists c) w)) is.problem.program ∙ types_are m t is c w (written_are m t is);
      }

  module _ (c : Selection) (at : ℕ) (p : Point) (closed : ClosedImplication) (none : HasNoSolution lists constraints c at p)
      (told : IfSome (slice_get constraints at) (λ k. closed ≡ closed_under (assigned lists c) k)) where
    there : HasNoSolution (instances_of t) (constraints_in t) c at p
    there = moved m t is (λ I cs. HasNoSolution I cs c at p) none

    closed_is : closed ≡ closed_under (assigned (instances_of t) c) there.first.constraint
    closed_is =
        moved m t is (λ I cs. (k : Constraint) → slice_get cs at ≡ Some k → closed ≡ closed_under (assigned I c) k)
        (λ k e. if_some (slice_get constraints at) (λ x. closed ≡ closed_under (assigned lists c) x) k told e) there.first.constraint there.first.is

    -- what is told of the one is told of the other
    retold : (R : Calling → List Implication → ClosedImplication → Type 0) → R (called_by m.texts.names sources numbers) (implications_of m.problem.implications) closed
        → R (called_in t) (implications_in t) (closed_under (assigned (instances_of t) c) there.first.constraint)
    retold R holds =
        subst (R (called_in t) (implications_in t)) closed_is
        (subst (λ (l : List Implication). R (called_in t) l closed) is.problem.implications
        (subst (λ (C : Calling). R C (implications_of m.problem.implications) closed) (called_are m t is) holds))

    pub rejected_is : (limit : ℕ) (failure explained : List ℕ) → AreGathered lists constraints
        → IsFailure (called_by m.texts.names sources numbers) (implications_of m.problem.implications) at closed (as_point p) failure
        → IsExplained (called_by m.texts.names sources numbers) (implications_of m.problem.implications) at closed (as_point p) explained
        → IsVerdictOn limit t (Rejected failure explained)
    rejected_is limit failure explained gathered fails explains =
        let first = there.first in
        let refutes : Refutes t at c (as_point p) = record {
          gathered = moved m t is AreGathered gathered;
          flowing = there.flowing;
          first = first;
          fails = there.fails first.constraint first.is;
          none_solves = there.none_solves;
        } in
        record {
          at = at;
          solution = c;
          point = as_point p;
          refutes = refutes;
          failing = retold (λ C l i. IsFailure C l at i (as_point p) failure) fails;
          explaining = retold (λ C l i. IsExplained C l at i (as_point p) explained) explains;
        }

  pub undecided_is : (limit at : ℕ) (stop : Stop) (text : List ℕ) → StopsSolving limit lists constraints (At at stop)
      → text ≡ undecided_lines (called_by m.texts.names sources numbers) (implications_of m.problem.implications) at stop → IsVerdictOn limit t (Undecided text)
  undecided_is limit at stop text stops written =
      record {
        at = at;
        stop = stop;
        stops = moved m t is (λ I cs. StopsSolving limit I cs (At at stop)) stops;
        written = written ∙ ap (λ (C : Calling). undecided_lines C (implications_of m.problem.implications) at stop) (called_are m t is)
            ∙ ap (λ (l : List Implication). undecided_lines (called_in t) l at stop) is.problem.implications;
      }

-- ---- what is asked of the texts

within : (is : Implications) (at : ℕ) (k : Constraint) → slice_get (constraints_of is) at ≡ Some k → at < length (implications_of is)
within is at k here =
    let inside = slice_get_within (constraints_of is) at k here in
    let same = length-map (implications_of is) constraint_of in
    omega (arith, inside, same)

pub failing_within : (is : Implications) (A : Assignment) (at : ℕ) → IsFirstFailing A (constraints_of is) at → at < length (implications_of is)
failing_within is A at first = within is at first.constraint first.is

pub stop_within : (is : Implications) (I : Instances) (limit at : ℕ) (stop : Stop) → StopsSolving limit I (constraints_of is) (At at stop)
    → at < length (implications_of is)
stop_within is I limit at (Number e) stops = within is at stops.1.constraint stops.1.here
stop_within is I limit at (Pivots n) stops = within is at stops.1.constraint stops.1.here
stop_within is I limit at (Gather p) stops = within is at stops.constraint stops.here
stop_within is I limit at MemoryStop stops = absurd stops

pub stop_has_cause : (is : Implications) (I : Instances) (limit at : ℕ) (stop : Stop) → StopsSolving limit I (constraints_of is) (At at stop)
    → stop ≡ MemoryStop → ⊥
stop_has_cause is I limit at stop stops e = subst (λ (s : Stop). StopsSolving limit I (constraints_of is) (At at s)) e stops

-- ---- what solving gives

pub if_ok : {X E : Type 0} (P Q : X → Type 0) (r : Result X E) → ((x : X) → P x → Q x) → IfOk r P → IfOk r Q
if_ok P Q (Ok x) f holds = f x holds
if_ok P Q (Err e) f holds = holds

pub solution_is : (limit : ℕ) (I : Instances) (cs : List Constraint) (r : Result Solved SolveError) → IfOk r (IsSolved I cs) → OnOk r (AreGathered I cs)
    → IfErr r (StopsSolving limit I cs) → IsSolution limit I cs r
solution_is limit I cs (Ok s) solved gathered stop = (gathered, solved)
solution_is limit I cs (Err e) solved gathered stop = stop

-- the binders are few
pub few_sources : (m : PosedTexts) → IsPosed m → length (program_of m.texts.noted.program.annotated).sources ≤ 2 ^ 31
few_sources m is =
    let scoped = scoped_text is.bytes is.typed is.poses in
    subst (λ (s : Scoping). length s.sources ≤ 2 ^ 31) (sym is.view.program) scoped.few_binders
