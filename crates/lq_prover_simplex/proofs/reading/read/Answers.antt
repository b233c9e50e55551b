use Rattle.std.proofs.Common.{◌≡◌, ◌∙◌, inl, inr, sym, ap, ap₂, subst, rules, FitsSigned, pos, arith, to_z, of_z, Err, ◌≢◌, ◌<◌, length, []}
use Rattle.std.specs.Int.{w128}
use Rattle.std.specs.Int.Signed.{◌<ℤ◌}
use Rattle.std.proofs.lemmas.Int.{to_z-of_z, ints}
use Rattle.lq_base_numbers.specs.Rationals.Rational.{whole, ◌-ℚ◌, ◌*ℚ◌, neg_ℚ}
use Rattle.lq_base_numbers.specs.Fractions.Value.{value_of}
use Rattle.lq_logic_rows.specs.Row.{sum_at}
use Rattle.lq_logic_rows.specs.Forms.{Parts, times, FirstAbove, IsNormal, AreMultiples}
use Rattle.lq_prover_simplex.specs.Standing.{signed}
use Rattle.lq_prover_simplex.specs.RowParts.{turned_by, IsTurned, IsDivided, IsGreatest}
use Rattle.lq_prover_simplex.proofs.Readings.{turned_below, divided_below, turned_first, form_normal, row_reads}
use Rattle.lq_prover_simplex.proofs.Multiples.{form_multiple, form_times}
use Rattle.lq_prover_simplex.specs.declared.error.TableauError.TheVariants.{Past}
use Rattle.lq_logic_rows.specs.Forms.{DividesAll}
use Rattle.lq_prover_simplex.specs.Operations.{IsAdding, IsBounding, IsRowRead, IsDivisorOf}
use Rattle.lq_prover_simplex.proofs.Operations.{stops_past, stops_were, past_among, divisor_turned}
use Rattle.lq_prover_simplex.proofs.reading.read.Goals as goal

pub variable-requires-clause-below : goal.variable-requires-clause-below
variable-requires-clause-below c =
    let parts = c.args.row.now.parts in let made = c.in_ok-made.made.items in let form = c.in_ok-divided.field-0.items in let n = c.args.basis.now.terms in
    let t : IsTurned c.is_turned-turned.result parts made = rw (sym c.parts-parts.ensures.value) c.in_ok-made.ensures.turned in
    let d : IsDivided (pos c.shared-divisor.result) made form = rw (sym c.as_slice-2.ensures.value) c.in_ok-divided.ensures in
    rw c.new-form.ensures (divided_below (pos c.shared-divisor.result) n made form d (turned_below c.is_turned-turned.result n parts made t c.requires))

pub variable-requires-clause-normal : goal.variable-requires-clause-normal
variable-requires-clause-normal c =
    let parts = c.args.row.now.parts in let made = c.in_ok-made.made.items in let form = c.in_ok-divided.field-0.items in let d = c.shared-divisor.result in
    let t : IsTurned c.is_turned-turned.result parts made = rw (sym c.parts-parts.ensures.value) c.in_ok-made.ensures.turned in
    let q : IsDivided (pos d) made form = rw (sym c.as_slice-2.ensures.value) c.in_ok-divided.ensures in
    let first : FirstAbove c.is_turned-turned.result parts = rw (sym c.parts-parts.ensures.value) c.is_turned-turned.ensures in
    let greatest : IsGreatest d made = rw (sym c.as_slice.ensures.value) c.shared-divisor.ensures.greatest in
    rw c.new-form.ensures (form_normal d made form c.shared-divisor.ensures.some (turned_first c.is_turned-turned.result parts made t first) greatest q)

pub returns-clause-reads : goal.returns-clause-reads
returns-clause-reads c =
    let parts = c.args.row.now.parts in let made = c.in_ok-made.made.items in let form = c.in_ok-divided.field-0.items in let d = c.shared-divisor.result in
    let t : IsTurned c.is_turned-turned.result parts made = rw (sym c.parts-parts.ensures.value) c.in_ok-made.ensures.turned in
    let q : IsDivided (pos d) made form = rw (sym c.as_slice-2.ensures.value) c.in_ok-divided.ensures in
    let small = c.shared-divisor.ensures.small in
    let fits : FitsSigned w128 (pos d) = search rules in
    let same : to_z w128 d ≡ pos d = to_z-of_z w128 (pos d) fits in
    let constant : FitsSigned w128 c.constant.result = search rules in
    let is : to_z w128 (of_z w128 c.constant.result) ≡ c.args.row.now.constant = to_z-of_z w128 c.constant.result constant ∙ c.constant.ensures in
    record {
      inside = c.in_ok-variable.ensures.found.0;
      form = subst (AreMultiples parts) (sym (c.in_ok-variable.ensures.found.1 ∙ c.new-form.ensures)) (form_multiple c.is_turned-turned.result d parts made form c.shared-divisor.ensures.some t q);
      scaled = form_times c.is_turned-turned.result d parts made form t q
          ∙ ap₂ (λ z (f : Parts). times (turned_by c.is_turned-turned.result z) f) (sym same) (sym (c.in_ok-variable.ensures.found.1 ∙ c.new-form.ensures));
      divides = subst (λ z. pos 0 <ℤ z) (sym same) (let s = c.shared-divisor.ensures.some in omega (arith, ints));
      level = λ v.
          row_reads c.is_turned-turned.result v parts made form c.args.row.now.constant d (value_of c.in_ok-value.value) t q
          (c.in_ok-value.ensures.exact ∙ ap (λ z. neg_ℚ (whole z)) is)
          ∙ ap₂ (λ z (f : Parts). signed c.is_turned-turned.result (whole z) *ℚ (sum_at v f -ℚ value_of c.in_ok-value.value)) (sym same) (sym (c.in_ok-variable.ensures.found.1 ∙ c.new-form.ensures));
    }

pub returns-clause-grown : goal.returns-clause-grown
returns-clause-grown c =
    let parts = c.args.row.now.parts in let made = c.in_ok-made.made.items in let form = c.in_ok-divided.field-0.items in let d = c.shared-divisor.result in
    let t : IsTurned c.is_turned-turned.result parts made = rw (sym c.parts-parts.ensures.value) c.in_ok-made.ensures.turned in
    let q : IsDivided (pos d) made form = rw (sym c.as_slice-2.ensures.value) c.in_ok-divided.ensures in
    let first : FirstAbove c.is_turned-turned.result parts = rw (sym c.parts-parts.ensures.value) c.is_turned-turned.ensures in
    let greatest : IsGreatest d made = rw (sym c.as_slice.ensures.value) c.shared-divisor.ensures.greatest in
    elim (c.in_ok-variable.ensures.extended) [
      | inl e ↦ inl e
      | inr g ↦ inr (
        c.new-form.result,
        g.0,
        subst IsNormal (sym c.new-form.ensures) (form_normal d made form c.shared-divisor.ensures.some (turned_first c.is_turned-turned.result parts made t first) greatest q),
        subst (AreMultiples parts) (sym c.new-form.ensures) (form_multiple c.is_turned-turned.result d parts made form c.shared-divisor.ensures.some t q),
        g.1,
      )
    ]

pub returns-in_err-value-clause-stop : goal.returns-in_err-value-clause-stop
returns-in_err-value-clause-stop c =
    let parts = c.args.row.now.parts in let made = c.in_ok-made.made.items in let d = c.shared-divisor.result in
    let t : IsTurned c.is_turned-turned.result parts made = rw (sym c.parts-parts.ensures.value) c.in_ok-made.ensures.turned in
    let greatest : IsGreatest d made = rw (sym c.as_slice.ensures.value) c.shared-divisor.ensures.greatest in
    let divides : DividesAll d made = rw (sym c.as_slice.ensures.value) c.shared-divisor.ensures.divides in
    let constant : FitsSigned w128 c.constant.result = search rules in
    let is : to_z w128 (of_z w128 c.constant.result) ≡ c.args.row.now.constant = to_z-of_z w128 c.constant.result constant ∙ c.constant.ensures in
    let Is = IsRowRead c.args.basis.now c.args.row.now in
    let e = c.in_err-value.field-0.0 in
    let was : c.from_residual-in_err-value.result ≡ Err (Past e) = search rules in
    let positive : 0 < length c.parts-parts.result.now = search rules in
    let some : parts ≢ [] = (λ z. let q = ap length (c.parts-parts.ensures.value ∙ z) in absurd (omega arith)) in
    let of : IsDivisorOf parts d = divisor_turned c.is_turned-turned.result d parts made t divides greatest in
    stops_past Is c.from_residual-in_err-value.result e was
    (past_among (IsBounding (to_z w128 (of_z w128 c.constant.result)) d) Is e
    (λ op x y h. IsRowRead.bounding some d of (subst (λ z. IsBounding z d op x y) is h)) c.in_err-value.ensures.stop)

pub returns-in_err-variable-clause-stop : goal.returns-in_err-variable-clause-stop
returns-in_err-variable-clause-stop c =
    let parts = c.args.row.now.parts in let made = c.in_ok-made.made.items in let form = c.in_ok-divided.field-0.items in let d = c.shared-divisor.result in
    let t : IsTurned c.is_turned-turned.result parts made = rw (sym c.parts-parts.ensures.value) c.in_ok-made.ensures.turned in
    let q : IsDivided (pos d) made form = rw (sym c.as_slice-2.ensures.value) c.in_ok-divided.ensures in
    let Is = IsRowRead c.args.basis.now c.args.row.now in
    let e = c.in_err-variable.field-0.0 in
    let was : c.from_residual-in_err-variable.result ≡ Err e = search rules in
    let multiple : AreMultiples parts c.new-form.result =
    subst (AreMultiples parts) (sym c.new-form.ensures) (form_multiple c.is_turned-turned.result d parts made form c.shared-divisor.ensures.some t q) in
    stops_were (IsAdding c.args.basis.now c.new-form.result) Is c.from_residual-in_err-variable.result e
    (λ op x y h. IsRowRead.adding c.new-form.result multiple h) was c.in_err-variable.ensures.stop
