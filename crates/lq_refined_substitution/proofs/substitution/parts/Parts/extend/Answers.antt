use Rattle.std.proofs.Common.{◌++◌, map, take, Result, Ok, Err, OnErr, sym, ap, ap₂, ◌∙◌}
use Rattle.std.proofs.lemmas.List.{take-map}
use Rattle.lq_refined_substitution.specs.Substitution.Views.{part_items, part_view}
use Rattle.lq_refined_substitution.proofs.substitution.parts.Parts.extend.Goals as goal

on_err : {T E P : Type 0} (r : Result T E) → P → OnErr r P
on_err (Ok x) p = tt
on_err (Err e) p = p

pub returns-in_err-copy-clause-err : goal.returns-in_err-copy-clause-err
returns-in_err-copy-clause-err c =
    let i = c.loop-part.part-index in
    on_err c.from_residual-in_err-copy.result
    (record {
      count = i;
      is = c.loop-part.invariant
          ∙ ap₂ (λ a b. map part_view a ++ b) c.reserve_exact.ensures.items
          (ap (λ l. map part_view (take i l)) c.deref-part-items.ensures.value ∙ sym (take-map part_view i (part_items c.args.parts.now)));
    })

pub returns-in_err-push-clause-err : goal.returns-in_err-push-clause-err
returns-in_err-push-clause-err c =
    let i = c.loop-part.part-index in
    on_err c.from_residual-in_err-push.result
    (record {
      count = i;
      is = ap (map part_view) c.in_err-push.ensures.items ∙ c.loop-part.invariant
          ∙ ap₂ (λ a b. map part_view a ++ b) c.reserve_exact.ensures.items
          (ap (λ l. map part_view (take i l)) c.deref-part-items.ensures.value ∙ sym (take-map part_view i (part_items c.args.parts.now)));
    })
