use Rattle.std.proofs.Common.{◌≡◌, Vec, Global, List, [], ◌∷◌, ◌++◌, map, get_or, ap, ◌∙◌}
use Rattle.std.proofs.lemmas.List.{map-append}
use Rattle.lq_logic_predicates.specs.declared.symbol.Symbol.{Symbol}
use Rattle.lq_logic_predicates.specs.declared.symbol.Symbol.TheVariants.{Value}
use Rattle.lq_refined_instances.proofs.ReplacedSteps.{longer-step}
use Rattle.lq_refined_instances.proofs.replacing.push_longer.Goals as goal

pub loop-symbol-preserved : goal.loop-symbol-preserved
loop-symbol-preserved c =
    let items : Vec Symbol Global → List Symbol = λ v. v.items in
    let S = c.args.symbols.now in
    let i = c.loop-symbol.symbol-index in
    let list = c.args.list.now in
    let made : c.push.new.self.items ≡ list ++ get_or S i Value ∷ [] =
    c.in_ok-push.ensures.items ∙ ap (λ (l : List Symbol). l ++ get_or S i Value ∷ []) (c.in_ok-extend_from_slice.ensures.items ∙ ap (λ (l : List Symbol). l ++ list) c.new-next.ensures.items)
    in
    longer-step (map items c.args.row.now.items) S i Value list (map items c.loop-symbol.row.items) (map items c.push-in-loop-symbol.new.self.items) c.push.new.self.items
    c.loop-symbol-test.true c.loop-symbol.invariant made (ap (map items) c.in_ok-push-2.ensures.items ∙ map-append items c.loop-symbol.row.items (c.push.new.self ∷ []))
