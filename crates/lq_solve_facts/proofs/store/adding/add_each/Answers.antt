use Rattle.std.proofs.Common.{arith, sym}
use Rattle.lq_solve_facts.proofs.FactsLemmas.Holding.{agrees_before, keeps_self, keeps_then, read_kept}
use Rattle.lq_solve_facts.proofs.FactsLemmas.Members.{item_here}
use Rattle.lq_solve_facts.proofs.NearestLemmas.Meeting.{IsMetBy, chosen_is_met}
use Rattle.lq_refined_types.specs.Parts.Substitution.{formula_by}
use Rattle.lq_logic_predicates.specs.TableView.{terms_of}
use Rattle.lq_solve_facts.proofs.StoreLemmas.Readings.{OfNumber, each_chosen_met, item_next, of_number}
use Rattle.lq_solve_facts.proofs.store.adding.add_each.Goals as goal

pub loop-instance-init : goal.loop-instance-init
loop-instance-init c = record { held = λ f σ qs a p h m. h; keeps = keeps_self _; read = λ f σ qs a v p g m. (m, λ at r w e. absurd (omega (arith, w))) }

pub loop-instance-preserved : goal.loop-instance-preserved
loop-instance-preserved c =
    let before = c.loop-instance.invariant in
    let reads = c.args.reads.now in
    let i = c.loop-instance.instance-index in
    let r = c.instance-item.result in
    let here = item_here reads i r c.loop-instance-test.true c.instance-item.is in
    let old = c.loop-instance.known in record {
      held = λ f σ qs a p h m.
          let one = a.each i r here in
          c.in_ok-add_read.ensures.held (formula_by σ one.instance) (read_kept c.args.known.now old r.read.value (formula_by σ one.instance) before.keeps one.read) p (before.held f σ qs a p h m)
          (chosen_is_met p f σ qs m r.number one.instance one.is_chosen (sym one.here));
      keeps = keeps_then _ _ _ before.keeps c.in_ok-add_read.ensures.keeps;
      read = λ f σ qs a v p g m.
          let one = a.each i r here in
          let now = c.in_ok-add_read.ensures.read (formula_by σ one.instance) (read_kept c.args.known.now old r.read.value (formula_by σ one.instance) before.keeps one.read) v p g m in
          let rest = before.read f σ qs a v p (agrees_before (terms_of old.table) (terms_of c.add_read.new.self.table) v p c.in_ok-add_read.ensures.keeps.terms g) now.0 in
          (rest.0, item_next i reads (OfNumber qs (IsMetBy p σ)) r here (of_number qs (IsMetBy p σ) r one.instance one.here now.1) rest.1);
    }

pub returns-clause-read : goal.returns-clause-read
returns-clause-read c = λ f σ qs a v p g m.
    let rest = c.loop-instance.invariant.read f σ qs a v p g m in
    (rest.0, each_chosen_met c.args.known.now f σ qs c.args.reads.now c.loop-instance.instance-index p a c.loop-instance-test.false rest.1)

pub returns-in_err-add_read-clause-keeps : goal.returns-in_err-add_read-clause-keeps
returns-in_err-add_read-clause-keeps c = keeps_then _ _ _ c.loop-instance.invariant.keeps c.in_err-add_read.ensures.keeps
