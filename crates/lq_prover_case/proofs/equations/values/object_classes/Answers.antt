use Rattle.std.proofs.Common.{◌∙◌, Some, cond, ap, arith, slice_index}
use Rattle.std.proofs.lemmas.Option.{slice_get_within}
use Rattle.lq_prover_case.specs.Equations.Naming.{objects_of}
use Rattle.lq_prover_case.proofs.EquationsLemmas.Classes.{classes_push}
use Rattle.lq_logic_points.specs.Values.{class_value}
use Rattle.lq_logic_predicates.specs.Sum.{same}
use Rattle.lq_logic_predicates.specs.TermView.{sum_of}
use Rattle.lq_prover_case.proofs.equations.values.object_classes.Goals as goal

pub loop-object-preserved : goal.loop-object-preserved
loop-object-preserved c =
    classes_push c.args.objects.now.terms.keys c.args.classes.now c.loop-object.made.entries c.insert.new.self.entries c.loop-object.object (sum_of c.object.result.now) c.len-object-end.ensures.distinct c.object.ensures
    (λ u. c.in_ok-insert.ensures.updates.0 u
    ∙ ap (λ z. cond (same z (sum_of u)) (Some (slice_index c.args.classes.now c.loop-object.object)) (class_value c.loop-object.made.entries (sum_of u))) c.in_ok-term.ensures)
    c.loop-object.invariant

pub returns : goal.returns
returns c = λ k a e. c.loop-object.invariant k a (let l = slice_get_within (objects_of c.args.objects.now) k a e in let m = c.len-object-end.ensures.count in let n = c.loop-object-test.false in omega arith) e
