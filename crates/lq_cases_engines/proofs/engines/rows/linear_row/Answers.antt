use Rattle.std.proofs.Common.{subst, sym}
use Rattle.lq_logic_rows.specs.Row.{Row}
use Rattle.lq_cases_engines.specs.Engines.Rows.{IsBelow}
use Rattle.lq_cases_engines.proofs.EnginesLemmas.Making.{row_more}
use Rattle.lq_cases_engines.proofs.engines.rows.linear_row.Goals as goal

pub returns : goal.returns
returns c = subst (λ (r : Row). IsBelow 64 r.parts) (sym c.new.ensures)
    (row_more c.loop-term.next 64 c.loop-term.parts.items c.loop-term.invariant.below c.loop-term.invariant.within)
