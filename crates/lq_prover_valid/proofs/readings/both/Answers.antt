use Rattle.std.proofs.Common.{◌∙◌, ◌++◌, ◌∷◌, [], ap, map}
use Rattle.lq_logic_predicates.specs.NnfView.{nnf_view, readings_of}
use Rattle.lq_logic_predicates.specs.Reading.{all_of}
use Rattle.lq_prover_valid.proofs.Seen.{all_seen}
use Rattle.lq_prover_valid.proofs.readings.both.Goals as goal

pub returns : goal.returns
returns c =
    all_seen c.push-2.new.self
    ∙ ap (λ l. all_of (readings_of (map nnf_view l)))
    (c.in_ok-push-2.ensures.ok ∙ ap (λ l. l ++ c.args.second ∷ []) (c.in_ok-push.ensures.ok ∙ ap (λ l. l ++ c.args.first ∷ []) c.in_ok-readings.ensures))
