use Rattle.std.proofs.Common.{◌∙◌, ◌≤◌, ap, ap₂, sym, subst, rules, List, FitsSigned, to_z, of_z}
use Rattle.std.specs.Int.{w128}
use Rattle.std.proofs.lemmas.Int.{to_z-of_z}
use Rattle.lq_base_numbers.specs.Rationals.Rational.{◌+ℚ◌, ◌*ℚ◌}
use Rattle.lq_base_numbers.specs.Fractions.Value.{value_of}
use Rattle.lq_prover_simplex.specs.declared.whole.Part.{Part}
use Rattle.lq_prover_simplex.specs.Lines.{combine, IsLine}
use Rattle.lq_prover_simplex.specs.WholeLines.{entries_of}
use Rattle.lq_prover_simplex.proofs.Merging.{merge_start, merge_end}
use Rattle.lq_prover_simplex.proofs.Numerators.{PartsMerged, entries_same, length-entries, parts_step, parts_fall}
use Rattle.lq_prover_simplex.proofs.merge.merged.Goals as goal

pub loop-i-init : goal.loop-i-init
loop-i-init c =
    let l = c.args.left.now in let r = c.args.right.now in
    subst (λ (ps : List Part). PartsMerged c.as_slice-first.result.now c.as_slice-second.result.now l.denominator r.denominator l.positive l.small r.positive r.small (value_of c.args.times.now) c.args.scale.now 0 0 ps)
    (sym c.in_ok-parts.ensures.items)
    (merge_start (entries_of c.as_slice-first.result.now l.denominator l.positive l.small) (entries_of c.as_slice-second.result.now r.denominator r.positive r.small) (value_of c.args.times.now))

pub loop-i-preserved : goal.loop-i-preserved
loop-i-preserved c =
    let l = c.args.left.now in let r = c.args.right.now in
    let fits : FitsSigned w128 c.in-Some.numerator = search rules in
    parts_step c.as_slice-first.result.now c.as_slice-second.result.now l.denominator r.denominator l.positive l.small r.positive r.small (value_of c.args.times.now) c.args.scale.now
    c.loop-i.i c.loop-i.j c.least-variable.result c.head-own.result.next c.head-other.result.next c.loop-i.parts.items c.put.new.parts.items
    c.head-own.result.numerator c.head-other.result.numerator (to_z w128 (of_z w128 c.in-Some.numerator)) c.requires.scales c.loop-i.invariant
    (subst (λ (ps : List Part). IsLine (entries_of ps l.denominator l.positive l.small)) (sym c.as_slice-first.ensures.value) c.requires.left)
    (subst (λ (ps : List Part). IsLine (entries_of ps r.denominator r.positive r.small)) (sym c.as_slice-second.ensures.value) c.requires.right)
    c.least-variable.ensures.one c.least-variable.ensures.left c.least-variable.ensures.right c.head-own.ensures c.head-other.ensures
    (to_z-of_z w128 c.in-Some.numerator fits ∙ c.in-Some.ensures) c.in_ok-put.ensures

pub loop-i-smaller : goal.loop-i-smaller
loop-i-smaller c =
    let l = c.args.left.now in let r = c.args.right.now in
    parts_fall c.as_slice-first.result.now c.as_slice-second.result.now l.denominator r.denominator l.positive l.small r.positive r.small (value_of c.args.times.now) c.args.scale.now
    c.loop-i.i c.loop-i.j c.least-variable.result c.head-own.result.next c.head-other.result.next c.loop-i.parts.items
    c.head-own.result.numerator c.head-other.result.numerator c.loop-i.invariant c.least-variable.ensures.one c.head-own.ensures c.head-other.ensures

pub returns-clause-sum : goal.returns-clause-sum
returns-clause-sum c = λ x.
    let l = c.args.left.now in let r = c.args.right.now in let w = c.args.scale.now in let t = value_of c.args.times.now in
    let first = c.as_slice-first.result.now in let second = c.as_slice-second.result.now in
    ap (combine x) (entries_same c.loop-i.parts.items w.denominator _ w.positive _ w.small)
    ∙ merge_end (entries_of first l.denominator l.positive l.small) (entries_of second r.denominator r.positive r.small) t c.loop-i.i c.loop-i.j
    (entries_of c.loop-i.parts.items w.denominator w.positive w.small) c.loop-i.invariant
    (subst (λ n. n ≤ c.loop-i.i) (sym (length-entries first l.denominator l.positive l.small)) c.if-i-first.false)
    (subst (λ n. n ≤ c.loop-i.j) (sym (length-entries second r.denominator r.positive r.small)) c.if-j-second.false) x
    ∙ ap₂ (λ (ps qs : List Part). combine x (entries_of ps l.denominator l.positive l.small) +ℚ t *ℚ combine x (entries_of qs r.denominator r.positive r.small))
    c.as_slice-first.ensures.value c.as_slice-second.ensures.value

pub returns-clause-line : goal.returns-clause-line
returns-clause-line c =
    let w = c.args.scale.now in
    subst IsLine (entries_same c.loop-i.parts.items w.denominator w.positive _ w.small _) c.loop-i.invariant.ascends
