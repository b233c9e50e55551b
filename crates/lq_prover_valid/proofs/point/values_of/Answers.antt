use Rattle.std.proofs.Common.{◌∙◌, ◌<◌, ap, length, subst, sym}
use Rattle.lq_prover_case.specs.Equations.Values.{HasClasses}
use Rattle.lq_logic_rows.specs.Steps.{valuation_of}
use Rattle.lq_prover_valid.specs.Values.{HasFlagsOf}
use Rattle.lq_prover_search.specs.Search.SearchPath.{scope_of}
use Rattle.lq_prover_valid.proofs.point.values_of.Goals as goal

pub returns : goal.returns
returns c =
    let s = scope_of c.args.givens.now in
    let table = c.in_ok-table.ensures ∙ sym c.requires.terms in record {
      table = c.new.ensures.table ∙ table;
      numbers = λ k l. ap (λ n. valuation_of n k) c.new.ensures.numbers ∙ c.in_ok-numbers.ensures.each k (subst (λ ts. k < length ts) (sym table) l);
      flags = subst (HasFlagsOf s.flags c.args.state.now) (sym c.new.ensures.flags) c.in_ok-flags.ensures;
      class_of = c.classes.result.now;
      classes = subst (HasClasses s.objects c.classes.result.now) (sym c.new.ensures.classes) c.in_ok-classes.ensures;
      one = λ a b l r. c.classes.ensures.one a b (subst (λ n. a < n) (sym c.requires.count) l) (subst (λ n. b < n) (sym c.requires.count) r);
    }
