use Rattle.std.proofs.Common.{◌∙◌, ◌<◌, ap, sym, subst, length, map}
use Rattle.lq_prover_decide.specs.Case.{fact_of}
use Rattle.lq_prover_decide.specs.CaseView.{case_of}
use Rattle.lq_prover_case.specs.Equations.Naming.{objects_of}
use Rattle.lq_prover_decide.specs.Settled.{AgreeOnFlags, HasFlags}
use Rattle.lq_prover_case.specs.Equations.Values.{HasClasses}
use Rattle.lq_prover_decide.proofs.Settling.{flags_agree}
use Rattle.lq_logic_rows.specs.Steps.{valuation_of}
use Rattle.lq_logic_predicates.specs.ClosedImplication.{terms_in}
use Rattle.lq_prover_decide.proofs.values.case_values.Goals as goal

pub term_values-requires : goal.term_values-requires
term_values-requires c = c.requires.settled.solved

pub flag_values-requires : goal.flag_values-requires
flag_values-requires c =
    subst AgreeOnFlags (sym (ap (map fact_of) c.as_slice.ensures ∙ c.facts.ensures)) (flags_agree (objects_of c.args.objects.now) (case_of c.args.literals.now) c.args.state.now c.requires.settled)

pub returns : goal.returns
returns c =
    let case = case_of c.args.literals.now in
    let objects = objects_of c.args.objects.now in
    let facts_are = ap (map fact_of) c.as_slice.ensures ∙ c.facts.ensures in
    let table = c.in_ok-table.ensures ∙ ap terms_in c.implication.ensures ∙ sym c.requires.fits.complete in record {
      table = c.new.ensures.table ∙ table;
      numbers = λ k l. ap (λ n. valuation_of n k) c.new.ensures.numbers ∙ c.in_ok-numbers.ensures.each k (subst (λ ts. k < length ts) (sym table) l);
      flags = subst (HasFlags case.facts) (sym c.new.ensures.flags) (subst (λ fs. HasFlags fs c.in_ok-flags.flags.entries) facts_are c.in_ok-flags.ensures);
      class_of = c.classes.result.now;
      classes = subst (HasClasses objects c.classes.result.now) (sym c.new.ensures.classes) c.in_ok-classes.ensures;
      one = λ a b l r. c.classes.ensures.one a b (subst (λ n. a < n) (sym c.requires.count) l) (subst (λ n. b < n) (sym c.requires.count) r);
    }
