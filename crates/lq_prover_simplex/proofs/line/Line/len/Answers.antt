use Rattle.std.proofs.Common.{◌≡◌, ◌∙◌, ap, sym, length, arith}
use Rattle.lq_prover_simplex.specs.WholeLines.{whole_entries, kept_entries}
use Rattle.lq_prover_simplex.proofs.Numerators.{length-entries}
use Rattle.lq_prover_simplex.proofs.line.Line.len.Goals as goal

pub returns-in-Whole : goal.returns-in-Whole
returns-in-Whole c =
    let whole = c.in-Whole.whole in
    let view : length (whole_entries whole) ≡ length c.args.self.now = ap length (ap kept_entries (sym c.in-Whole.is) ∙ c.self.view_is) in
    let e = c.len.ensures in let k = whole.parts.ok.0 in
    let same = length-entries whole.parts.items whole.denominator whole.positive whole.small in omega arith
