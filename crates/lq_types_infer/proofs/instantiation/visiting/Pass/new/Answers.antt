use Rattle.std.proofs.Common.{◌≡◌, [], ◌∷◌, ◌++◌, ap, subst, ◌∙◌}
use Rattle.lq_types_infer.specs.Instantiation.Matching.{IsMatching}
use Rattle.lq_types_infer.proofs.InstantiationLemmas.Going.{begun}
use Rattle.lq_types_infer.proofs.instantiation.visiting.Pass.new.Goals as goal

pub returns : goal.returns
returns c =
    let starts : c.push.new.self.items ≡ 0 ∷ [] = c.in_ok-push.ensures.items ∙ ap (λ l. l ++ 0 ∷ []) c.new-starts.ensures.items in
    begun c.args.annotated.now
    (record { definitions = c.new.result; matching = c.in_ok-new.field-0; rows = c.new-3.result; starts = c.push.new.self })
    c.new-3.ensures.items starts
    (subst (λ all. IsMatching all c.in_ok-new.field-0) c.types.ensures c.in_ok-new.ensures) c.new.ensures
