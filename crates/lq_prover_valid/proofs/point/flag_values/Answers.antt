use Rattle.std.proofs.Common.{◌≤◌, length, ap, subst, arith}
use Rattle.std.proofs.lemmas.List.{take_all}
use Rattle.lq_prover_case.proofs.EquationsLemmas.Flags.{flags_updated}
use Rattle.lq_logic_points.specs.Values.{flag_value}
use Rattle.lq_prover_valid.specs.Values.{HasFlagsOf}
use Rattle.lq_prover_valid.proofs.Flagged.{flags_next}
use Rattle.lq_prover_valid.proofs.point.flag_values.Goals as goal

pub loop-at-init : goal.loop-at-init
loop-at-init c = λ x. ap (λ l. flag_value l x) c.new-values.ensures.empty

pub loop-at-preserved : goal.loop-at-preserved
loop-at-preserved c =
    let old = c.loop-at.values.entries in
    let new = c.insert.new.self.entries in
    flags_next c.args.flags.now.keys c.args.state.now old new c.loop-at.at c.flag_at-flag.result c.value_of.result c.flag_at-flag.ensures c.value_of.ensures
    (flags_updated old new c.flag_at-flag.result c.value_of.result c.in_ok-insert.ensures.updates.0) c.loop-at.invariant

pub returns : goal.returns
returns c =
    let past_end : length c.args.flags.now.keys ≤ c.loop-at.at = (let m = c.len-at-end.ensures.len in let n = c.loop-at-test.false in omega (arith, m, n)) in
    subst (λ l. HasFlagsOf l c.args.state.now c.loop-at.values.entries) (take_all c.loop-at.at c.args.flags.now.keys past_end) c.loop-at.invariant
