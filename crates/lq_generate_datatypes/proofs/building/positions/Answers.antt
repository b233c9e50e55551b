use Rattle.std.proofs.Common.{◌≡◌, ◌∙◌, ◌+◌, [], ◌∷◌, ◌++◌, map, ap}
use Rattle.std.proofs.lemmas.List.{map-append}
use Rattle.lq_logic_predicates.specs.Sum.{var}
use Rattle.lq_logic_predicates.specs.declared.symbol.Symbol.TheVariants.{Position}
use Rattle.lq_logic_predicates.specs.TermView.{sum_of, term_items}
use Rattle.lq_generate_datatypes.proofs.Positions.{position-more}
use Rattle.lq_generate_datatypes.proofs.building.positions.Goals as goal

pub loop-preserved : goal.loop-preserved
loop-preserved c =
    let next : c.in_ok-position.position ≡ c.loop.counter + 1 = c.in_ok-position.ensures ∙ ap (λ n. n + 1) c.loop.invariant.position in
    record {
      terms = ap (map sum_of) c.in_ok-push.ensures.ok ∙ map-append sum_of (term_items c.loop.terms) _
          ∙ ap (λ l. l ++ var (Position c.in_ok-position.position) ∷ []) c.loop.invariant.terms ∙ position-more c.loop.counter c.in_ok-position.position next;
      position = next;
    }
