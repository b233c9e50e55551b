use Rattle.std.proofs.Common.{◌≡◌, suc, ◌++◌, ◌∷◌, [], get_or, sym, ap, ap₂, ◌∙◌}
use Rattle.std.proofs.Math.Numerals.{add-one}
use Rattle.lq_refined_types.specs.Parts.Substitution.{swap}
use Rattle.lq_logic_predicates.specs.declared.symbol.Symbol.TheVariants.{Position}
use Rattle.lq_refined_types.specs.Types.Operations.{atom_of, symbol_of}
use Rattle.lq_refined_subtyping.specs.Table.Forms.{each}
use Rattle.lq_refined_subtyping.specs.Table.Whole.{types_of}
use Rattle.lq_generate_operations.proofs.OperationsLemmas.Places.{names_for-more, no_name}
use Rattle.lq_generate_operations.proofs.operations.tuples.names_for.Goals as goal

pub loop-index-preserved : goal.loop-index-preserved
loop-index-preserved c =
    let i = c.loop-index.index in
    let names = c.args.names.now in
    let x = (get_or names i no_name).0 in
    let next : c.in_ok-position.position ≡ suc i = c.in_ok-position.ensures ∙ ap suc c.loop-index.invariant.position in
    record {
      position = next ∙ sym (add-one i);
      by = λ S.
          let ts = each (types_of S c.args.types.now) c.args.rows.now in
          c.in_ok-push.ensures.ok
          ∙ ap₂ (λ l s. l ++ s ∷ []) (c.loop-index.invariant.by S)
          (ap₂ (λ k a. swap (Position k) a) next (c.atom_of.ensures ∙ ap (λ k. atom_of k (symbol_of x)) (c.kind_at-kind.ensures S)))
          ∙ sym (names_for-more names i c.loop-index-test.true ts);
    }
