use Rattle.std.proofs.Common.{Bool, refl}
use Rattle.lq_prover_case.specs.State.Flags.{find_given}
use Rattle.lq_prover_case.specs.State.RowState.{row_point}
use Rattle.lq_logic_predicates.specs.RowMeaning.{point_by}
use Rattle.lq_logic_predicates.specs.TableView.{terms_of}
use Rattle.lq_logic_predicates.specs.declared.symbol.Symbol.{Symbol}
use Rattle.lq_solve_facts.specs.Facts.Values.{given_value}
use Rattle.lq_solve_facts.proofs.facts.known.Known.has_point.Goals as goal

pub returns : goal.returns
returns c = λ class_of.
    let ts = terms_of c.args.self.now.table in
    let v = row_point c.args.self.now.state.rows in
    let holds : Symbol → Bool = λ x. given_value (find_given c.args.self.now.state.flags x) in record {
      point = point_by ts v holds class_of;
      at = record { terms = c.rows_say_what_comparisons_say.ensures.point ts v holds class_of c.len-count.ensures.distinct; flags = λ x. refl };
      classes = refl;
    }
