use Rattle.std.proofs.Common.{◌≡◌, ◌++◌, length, map, sym, ap, subst, ◌∙◌}
use Rattle.std.proofs.lemmas.Result.{on_ok_weaker}
use Rattle.lq_base_names.specs.declared.name.Binder.{Binder}
use Rattle.lq_types_rules.specs.Typings.Fronts.{left_at}
use Rattle.lq_text_walk.specs.Walk.Pending.{visit_view}
use Rattle.lq_types_infer.specs.Annotation.Whole.{program_of, table_of, types_of}
use Rattle.lq_types_infer.specs.Instantiation.General.{HasGeneral}
use Rattle.lq_types_infer.specs.Instantiation.Matching.{IsMatching}
use Rattle.lq_types_infer.proofs.InstantiationLemmas.Ahead.{is_use}
use Rattle.lq_types_infer.proofs.InstantiationLemmas.Going.{gone, matching_merely, use_merely}
use Rattle.lq_types_infer.proofs.instantiation.visiting.Pass.go.Goals as goal

pub add_left-requires-clause-matching : goal.add_left-requires-clause-matching
add_left-requires-clause-matching c =
    matching_merely c.args.annotated.now (visit_view Binder (λ b. b.0) c.args.visit) c.args.self.now c.requires.there

pub add_left-requires-clause-used : goal.add_left-requires-clause-used
add_left-requires-clause-used c =
    use_merely c.args.annotated.now (visit_view Binder (λ b. b.0) c.args.visit) c.args.self.now c.requires.there

pub returns : goal.returns
returns c =
    let a = c.args.annotated.now in
    let v = visit_view Binder (λ b. b.0) c.args.visit in
    let old = c.args.self.now in
    let one = c.add_left.new.self in
    let two = c.end_node.new.self in
    let first = c.in_ok-add_left.ensures in
    let second = c.in_ok-end_node.ensures in
    let more = first.rows.0 in
    let rows : two.rows.items ≡ old.rows.items ++ more = ap (λ r. r.items) second.rows ∙ first.rows.1 in
    let starts : two.starts.items ≡ old.starts.items ++ map (λ i. length two.rows.items) (left_at v) =
    second.starts ∙ ap (λ s. s.items ++ map (λ i. length one.rows.items) (left_at v)) first.starts
    ∙ ap (λ r. old.starts.items ++ map (λ i. length r.items) (left_at v)) (sym second.rows) in
    let matching : IsMatching (table_of a) two.matching = subst (IsMatching (table_of a)) (sym second.matching) first.matching in
    record {
      gone = on_ok_weaker c.leave.result
          (λ e k vs at_it. gone a k v vs old
          (record { definitions = c.leave.new.self; matching = two.matching; rows = two.rows; starts = two.starts }) more at_it rows starts
          first.rows.2
          (first.rows.3 k at_it.general (is_use (program_of a) (types_of a) k v vs at_it.count at_it.ahead)) matching
          (e k (subst (λ d. HasGeneral d k) (sym (second.definitions ∙ first.definitions)) at_it.general))) c.leave.ensures;
    }
