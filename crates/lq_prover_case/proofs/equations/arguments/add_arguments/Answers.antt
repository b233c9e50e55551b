use Rattle.std.proofs.Common.{sym, subst, take}
use Rattle.lq_prover_case.specs.Equations.Naming.{HasAllArguments, objects_of}
use Rattle.lq_prover_case.proofs.EquationsLemmas.Sides.{all_arguments_push, take_next}
use Rattle.lq_logic_predicates.specs.TableView.{terms_of}
use Rattle.lq_logic_predicates.specs.TermView.{sum_of}
use Rattle.lq_prover_case.proofs.equations.arguments.add_arguments.Goals as goal

pub loop-at-preserved : goal.loop-at-preserved
loop-at-preserved c =
    let old = objects_of c.loop-at.objects in
    let new = objects_of c.add_argument.new.objects in
    let terms = terms_of c.args.table.now in
    let e = c.in_ok-add_argument.ensures in
    record {
      keeps = λ t h. e.keeps t (c.loop-at.invariant.keeps t h);
      has = subst (HasAllArguments new) (sym (take_next terms c.loop-at.at (sum_of c.term.result.now) c.term.ensures))
          (all_arguments_push old new (take c.loop-at.at terms) (sum_of c.term.result.now) c.loop-at.invariant.has e.keeps e.has);
    }
