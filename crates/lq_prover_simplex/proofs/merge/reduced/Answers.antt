use Rattle.std.proofs.Common.{◌/◌, ◌≤◌, sym, arith}
use Rattle.std.proofs.Math.Nat.{pos_of_dvd_of_pos, div-le_self, div-mul_cancel}
use Rattle.std.proofs.lemmas.Nat.Gcd.{le_of_dvd}
use Rattle.lq_base_numbers.specs.Rationals.Reduction.{quotient_some}
use Rattle.lq_prover_simplex.proofs.Numerators.{divided_entries}
use Rattle.lq_prover_simplex.proofs.merge.reduced.Goals as goal

pub divided-requires-clause-small : goal.divided-requires-clause-small
divided-requires-clause-small c =
    let l : c.shared-shared.result ≤ c.args.line.denominator = le_of_dvd c.args.line.positive c.shared-shared.ensures.denominator in
    let s = c.args.line.small in omega arith

pub nonzero_div-result : goal.nonzero_div-result
nonzero_div-result c = pos_of_dvd_of_pos c.shared-shared.ensures.denominator c.args.line.positive

pub invariant_of-result : goal.invariant_of-result
invariant_of-result c =
    let l : c.args.line.denominator / c.shared-shared.result ≤ c.args.line.denominator = div-le_self c.args.line.denominator c.shared-shared.result in
    let s = c.args.line.small in
    record {
      positive = quotient_some c.args.line.denominator c.shared-shared.result c.args.line.positive c.shared-shared.ensures.denominator;
      small = omega arith;
    }

pub returns : goal.returns
returns c =
    let line = c.args.line in
    divided_entries c.shared-shared.result line.denominator (line.denominator / c.shared-shared.result) line.parts.items c.in_ok-parts.parts.items line.positive line.small _ _
    (div-mul_cancel c.shared-shared.result c.shared-shared.ensures.denominator)
    (rw (sym c.as_slice-2.ensures.value) c.in_ok-parts.ensures)
