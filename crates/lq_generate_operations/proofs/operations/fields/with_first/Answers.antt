use Rattle.std.proofs.Common.{◌≡◌, ◌<◌, ◌++◌, ◌∷◌, [], slice_get, take, Some, None, subst, sym, ap, ap₂, ◌∙◌}
use Rattle.std.proofs.Math.Numerals.{add-one}
use Rattle.std.specs.Option.{option_copied}
use Rattle.lq_refined_types.specs.Parts.Substitution.{swap}
use Rattle.lq_refined_substitution.specs.Substitution.Views.{atom_view, subst_view, swap_items}
use Rattle.lq_generate_operations.proofs.OperationsLemmas.Datatypes.{take-found, not-found}
use Rattle.lq_generate_operations.proofs.operations.fields.with_first.Goals as goal
use Rattle.lq_generate_operations.proofs.operations.fields.with_first.Goals.{in-Some+in_ok-copy-in-Some+in_ok-push-in-Some, in-None}

pub loop-at-preserved : goal.loop-at-preserved
loop-at-preserved c =
    let by = subst_view c.args.by.now in
    let items = swap_items c.args.by.now in
    let i = c.loop-at.at in
    let first = swap c.args.symbol (atom_view c.args.atom) in
    elim c.match-get.branch [
      | in-Some+in_ok-copy-in-Some+in_ok-push-in-Some w ↦
          let x = w.in-Some.swap.now in
          let e : Some x ≡ slice_get items i = sym (ap option_copied w.in-Some.is) ∙ c.get.ensures in
          ap subst_view w.made-is ∙ w.in_ok-push-in-Some.ensures.ok
          ∙ ap₂ (λ l a. l ++ swap x.symbol a ∷ []) c.loop-at.invariant w.in_ok-copy-in-Some.ensures
          ∙ ap (λ l. first ∷ l) (sym (ap (λ k. take k by) (add-one i) ∙ take-found items i x e))
      | in-None w ↦
          let e : None ≡ slice_get items i = sym (ap option_copied w.in-None.is) ∙ c.get.ensures in
          absurd (not-found items i e (subst (λ n. i < n) c.len-at-end.ensures c.loop-at-test.true))
    ]
