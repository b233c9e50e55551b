use Rattle.std.proofs.Common.{◌≡◌, map}
use Rattle.lq_logic_predicates.specs.TermView.{sum_of, term_items}
use Rattle.lq_sound_programs.specs.Scenes.Scenes.{positions_from}
use Rattle.lq_generate_datatypes.proofs.building.positions.Given as goal

abbrev pub invariant-loop : goal.invariant-loop
invariant-loop l = record {
  terms : map sum_of (term_items l.terms) ≡ positions_from 0 l.counter;
  position : l.position ≡ l.counter;
}
