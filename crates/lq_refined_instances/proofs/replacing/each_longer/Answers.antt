use Rattle.std.proofs.Common.{Vec, Global, List, ◌++◌, map, take, sym, ap, ◌∙◌}
use Rattle.lq_logic_predicates.specs.declared.symbol.Symbol.{Symbol}
use Rattle.lq_refined_instances.specs.Replacing.{longer, each_longer}
use Rattle.lq_refined_instances.proofs.ReplacedSteps.{each-more}
use Rattle.lq_refined_instances.proofs.Taking.{seen-more}
use Rattle.lq_refined_instances.proofs.replacing.each_longer.Goals as goal

pub loop-list-preserved : goal.loop-list-preserved
loop-list-preserved c =
    let items : Vec Symbol Global → List Symbol = λ v. v.items in
    let S = c.args.symbols.now in
    let L = c.args.lists.now in
    let i = c.loop-list.list-index in
    let x = c.list-item.result in
    c.in_ok-push_longer.ensures ∙ ap (λ (l : List (List Symbol)). l ++ longer S c.deref.result.now) c.loop-list.invariant
    ∙ ap (λ (l : List Symbol). each_longer S (map items (take i L)) ++ longer S l) c.deref.ensures.value
    ∙ sym (ap (each_longer S) (seen-more items L i x x c.loop-list-test.true c.list-item.is) ∙ each-more S (map items (take i L)) x.items)
