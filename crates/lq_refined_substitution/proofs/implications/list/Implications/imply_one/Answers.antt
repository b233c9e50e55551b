use Rattle.std.proofs.Common.{◌≡◌, ◌++◌, length, min, true, take, sym, ap, ◌∙◌, arith}
use Rattle.std.proofs.lemmas.List.{length-map}
use Rattle.lq_refined_types.specs.Parts.Part.{is_truth}
use Rattle.lq_refined_substitution.specs.Substitution.Views.{part_view, parts_view}
use Rattle.lq_refined_substitution.specs.Implications.Growing.{Continues-either}
use Rattle.lq_refined_substitution.specs.Implications.Views.{count_of, environment_at, implications_of, origin_view}
use Rattle.lq_refined_substitution.proofs.ImplicationsLemmas.Goals.{goals-truth}
use Rattle.lq_refined_substitution.proofs.ImplicationsLemmas.Limits.{kept-nothing}
use Rattle.lq_refined_substitution.proofs.implications.list.Implications.imply_one.Goals as goal

pub returns-then-is_truth-clause-added : goal.returns-then-is_truth-clause-added
returns-then-is_truth-clause-added c =
    let self = c.args.self.now in
    let n : length (implications_of self) ≡ length self.items.items = length-map self.items.items _ in
    let k : length self.items.items ≡ min (count_of self) 262144 = self.counted in
    let e : is_truth (part_view c.args.goal.now) ≡ true = sym c.is_truth.ensures ∙ c.if-is_truth.true in
    kept-nothing 262144 (implications_of self) (omega arith)
    ∙ ap (λ l. take 262144 (implications_of self ++ l))
    (sym (goals-truth (environment_at self c.args.env) (parts_view c.args.left.now) (origin_view c.args.origin.0 c.args.origin.1) (part_view c.args.goal.now) e))

pub returns-clause-continues : goal.returns-clause-continues
returns-clause-continues c =
    Continues-either c.push.result c.args.self.now c.push.new.self _ 1 c.push.ensures.added c.push.ensures.counted c.push.ensures.kept c.push.ensures.uncounted
