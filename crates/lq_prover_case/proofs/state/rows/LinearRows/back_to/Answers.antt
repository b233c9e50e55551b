use Rattle.std.proofs.Common.{◌≡◌, ◌∙◌, List, ap, sym, subst, arith, length, take}
use Rattle.lq_logic_rows.specs.Row.{Row}
use Rattle.lq_prover_case.specs.State.RowState.{RowState}
use Rattle.lq_prover_case.specs.State.Stored.{MayBeFilled, WasHanded, tagged_rows}
use Rattle.lq_prover_case.proofs.StateLemmas.Handing.{first_handed}
use Rattle.lq_prover_case.proofs.StateLemmas.Keeping.{filled_first}
use Rattle.lq_prover_case.proofs.StateLemmas.Kept.{tagged-length, tagged-take}
use Rattle.lq_prover_case.proofs.state.rows.LinearRows.back_to.Goals as goal

pub keep-requires-clause-within : goal.keep-requires-clause-within
keep-requires-clause-within c = let n = tagged-length c.self.inside.rows.items in let e = ap (λ (s : RowState). length s.rows) c.self.view_is in let h = c.requires in omega arith

pub invariant_of-self : goal.invariant_of-self
invariant_of-self c =
    let rows : tagged_rows c.keep.new.rows.items ≡ take c.args.mark.0 (tagged_rows c.self.inside.rows.items) = ap tagged_rows c.keep.ensures.rows ∙ tagged-take c.args.mark.0 c.self.inside.rows.items in (
      c.keep.ensures.terms ∙ c.self.invariant.0,
      record {
        kept = c.keep.ensures.kept;
        filled = subst (λ l. MayBeFilled c.keep.new.distances.terms c.self.inside.pivots l c.keep_first.new.tableau) (sym rows)
            (subst (λ n. MayBeFilled n c.self.inside.pivots (take c.args.mark.0 (tagged_rows c.self.inside.rows.items)) c.keep_first.new.tableau) (sym c.keep.ensures.terms)
            (filled_first c.self.inside.distances.terms c.self.inside.pivots c.args.mark.0 (tagged_rows c.self.inside.rows.items) c.self.inside.tableau c.keep_first.new.tableau c.self.invariant.1.filled c.keep_first.ensures));
        found_by = tt;
      },
    )

pub returns-clause-rows : goal.returns-clause-rows
returns-clause-rows c =
    ap tagged_rows c.keep.ensures.rows ∙ tagged-take c.args.mark.0 c.self.inside.rows.items ∙ ap (λ (s : RowState). take c.args.mark.0 s.rows) c.self.view_is

pub returns-clause-handed : goal.returns-clause-handed
returns-clause-handed c =
    subst (λ (s : RowState). (ever : List Row) → WasHanded s.tableau ever → WasHanded c.keep_first.new.tableau ever) c.self.view_is
    (first_handed c.args.mark.0 c.self.inside.tableau c.keep_first.new.tableau c.keep_first.ensures)
