use Rattle.std.proofs.Common.{◌∙◌, ap, map, sym}
use Rattle.lq_logic_predicates.specs.NnfView.{nnf_view, readings_of}
use Rattle.lq_logic_predicates.specs.Reading.{all_of}
use Rattle.lq_prover_valid.proofs.Halves.{two_seen}
use Rattle.lq_prover_valid.proofs.Seen.{all_seen}
use Rattle.lq_prover_valid.proofs.readings.halves.Goals as goal

pub returns-else-items-ne2 : goal.returns-else-items-ne2
returns-else-items-ne2 c =
    let items = c.as_slice-items.result.now in
    ap nnf_view c.in-All.is ∙ all_seen c.in-All.readings ∙ ap (λ l. all_of (readings_of (map nnf_view l))) (sym c.as_slice-items.ensures)
    ∙ ap all_of (two_seen items c.index-items-0.result c.index-items-1.result c.if-items-ne2.false c.index-items-0.is c.index-items-1.is)
