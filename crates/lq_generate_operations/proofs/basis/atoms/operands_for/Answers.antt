use Rattle.std.proofs.Common.{◌≡◌, ◌++◌, ◌∷◌, [], suc, sym, ap, ap₂, ◌∙◌}
use Rattle.std.proofs.Math.Numerals.{add-one}
use Rattle.lq_refined_types.specs.Parts.Substitution.{swap}
use Rattle.lq_logic_predicates.specs.declared.symbol.Symbol.TheVariants.{Position}
use Rattle.lq_refined_subtyping.specs.Table.Growing.{Extends-trans}
use Rattle.lq_generate_operations.specs.Basis.Growing.{knows-grown, stands-grown}
use Rattle.lq_generate_operations.proofs.BasisLemmas.Rows.{operands-more}
use Rattle.lq_generate_operations.proofs.basis.atoms.operands_for.Goals as goal

pub loop-e-preserved : goal.loop-e-preserved
loop-e-preserved c =
    let init = c.args.types.now in
    let now = c.loop-e.types in
    let new = c.pure_atom.new.types in
    let b = c.args.basis.now in
    let i = c.loop-e.invariant in
    let at = c.in_ok-position.position in
    let next : at ≡ suc c.loop-e.e-index = c.in_ok-position.ensures ∙ ap suc i.position in
    record {
      position = next ∙ sym (add-one c.loop-e.e-index);
      operands = λ P Γ s k.
          c.in_ok-push.ensures.ok
          ∙ ap₂ (λ l a. l ++ swap (Position at) a ∷ []) (i.operands P Γ s k)
          (c.in_ok-atom.ensures.atom P Γ (stands-grown P b init now i.grows c.requires.there s)
          (knows-grown Γ c.args.names.now b init now i.grows c.requires.names k))
          ∙ sym (operands-more P Γ c.args.es.now c.loop-e.e-index at c.e-item.result c.loop-e-test.true c.e-item.is next);
      grows = Extends-trans init.rows.items now.rows.items new.rows.items i.grows c.in_ok-atom.ensures.grows;
    }
