use Rattle.std.proofs.Common.{◌≡◌, ◌∙◌, ap, ap₂, sym, subst, true, false, IfOk, OnOk, Some, pos, negsuc, refl, rules, to_z, of_z, FitsSigned}
use Rattle.std.specs.Int.{w128}
use Rattle.std.proofs.lemmas.Int.{to_z-of_z}
use Rattle.lq_logic_predicates.specs.Sum.{neg, add, sub, mul}
use Rattle.lq_logic_predicates.specs.Table.{literal_of}
use Rattle.lq_logic_predicates.specs.TableView.{terms_of}
use Rattle.lq_logic_predicates.specs.TermView.{sum_of}
use Rattle.lq_logic_predicates.specs.LinearForm.{IsFit, HasFit, coefficient, constant_of, one_at}
use Rattle.lq_logic_predicates.specs.FormOf.{IsFormOf}
use Rattle.lq_logic_predicates.proofs.Forms.{grown, combined_form, fit_parts, fit_scale, fit_negated, left_factor, right_factor, scaled_left, scaled_right, no_literal, kept_fit, and_two_kept}
use Rattle.lq_logic_predicates.proofs.gathering.+form.Goals as goal

pub returns-in_ok-right-in-Add-clause-form : goal.returns-in_ok-right-in-Add-clause-form
returns-in_ok-right-in-Add-clause-form t c =
    let a = sum_of c.deref-in-Add.result.now in let b = sum_of c.deref-in-Add-2.result.now in
    let is : add a b ≡ sum_of c.args.term.now = ap₂ add (ap sum_of c.deref-in-Add.ensures) (ap sum_of c.deref-in-Add-2.ensures) ∙ sym (ap sum_of c.in-Add.is) in
    let old = terms_of c.form-in-Add.new.table in let all = terms_of c.form-in-Add-2.new.table in
    let f = c.in_ok-left-in-Add.left in let g = c.in_ok-right-in-Add.right in
    subst (λ s. IfOk c.plus.result (λ h. IsFormOf all h s)) is
    (combined_form false c.plus.result all f g (constant_of a) (constant_of b) (coefficient a) (coefficient b)
    (grown old all f (constant_of a) (coefficient a) c.in_ok-left-in-Add.ensures.form c.in_ok-right-in-Add.ensures.grows)
    c.in_ok-right-in-Add.ensures.form c.plus.ensures.constant c.plus.ensures.coefficients c.plus.ensures.fit)

pub returns-in_ok-right-in-Add-clause-fit : goal.returns-in_ok-right-in-Add-clause-fit
returns-in_ok-right-in-Add-clause-fit t c =
    let a = sum_of c.deref-in-Add.result.now in let b = sum_of c.deref-in-Add-2.result.now in
    let is : add a b ≡ sum_of c.args.term.now = ap₂ add (ap sum_of c.deref-in-Add.ensures) (ap sum_of c.deref-in-Add-2.ensures) ∙ sym (ap sum_of c.in-Add.is) in
    let old = terms_of c.form-in-Add.new.table in let all = terms_of c.form-in-Add-2.new.table in
    let f = c.in_ok-left-in-Add.left in let g = c.in_ok-right-in-Add.right in
    subst (λ s. OnOk c.plus.result (IsFit s)) is
    (and_two_kept (IsFit a) (IsFit b) (HasFit (add a b)) c.plus.result c.in_ok-left-in-Add.ensures.fit c.in_ok-right-in-Add.ensures.fit (kept_fit c.plus.result all (add a b)
    (combined_form false c.plus.result all f g (constant_of a) (constant_of b) (coefficient a) (coefficient b)
    (grown old all f (constant_of a) (coefficient a) c.in_ok-left-in-Add.ensures.form c.in_ok-right-in-Add.ensures.grows)
    c.in_ok-right-in-Add.ensures.form c.plus.ensures.constant c.plus.ensures.coefficients c.plus.ensures.fit)))

pub returns-in_ok-right-in-Add-clause-past : goal.returns-in_ok-right-in-Add-clause-past
returns-in_ok-right-in-Add-clause-past t c = λ e fit.
    let a = sum_of c.deref-in-Add.result.now in let b = sum_of c.deref-in-Add-2.result.now in
    let is : add a b ≡ sum_of c.args.term.now = ap₂ add (ap sum_of c.deref-in-Add.ensures) (ap sum_of c.deref-in-Add-2.ensures) ∙ sym (ap sum_of c.in-Add.is) in
    let old = terms_of c.form-in-Add.new.table in let all = terms_of c.form-in-Add-2.new.table in
    let f = c.in_ok-left-in-Add.left in let g = c.in_ok-right-in-Add.right in
    let fits = subst IsFit (sym is) fit in
    let parts = fit_parts false old all f g (constant_of a) (constant_of b) (coefficient a) (coefficient b) c.form-in-Add-2.new.table.distinct
    c.in_ok-left-in-Add.ensures.form c.in_ok-right-in-Add.ensures.grows c.in_ok-right-in-Add.ensures.form (fits.2).constant (fits.2).coefficients in
    c.plus.ensures.past e parts.0 parts.1

pub returns-in_ok-right-in-Sub-clause-form : goal.returns-in_ok-right-in-Sub-clause-form
returns-in_ok-right-in-Sub-clause-form t c =
    let a = sum_of c.deref-in-Sub.result.now in let b = sum_of c.deref-in-Sub-2.result.now in
    let is : sub a b ≡ sum_of c.args.term.now = ap₂ sub (ap sum_of c.deref-in-Sub.ensures) (ap sum_of c.deref-in-Sub-2.ensures) ∙ sym (ap sum_of c.in-Sub.is) in
    let old = terms_of c.form-in-Sub.new.table in let all = terms_of c.form-in-Sub-2.new.table in
    let f = c.in_ok-left-in-Sub.left in let g = c.in_ok-right-in-Sub.right in
    subst (λ s. IfOk c.minus.result (λ h. IsFormOf all h s)) is
    (combined_form true c.minus.result all f g (constant_of a) (constant_of b) (coefficient a) (coefficient b)
    (grown old all f (constant_of a) (coefficient a) c.in_ok-left-in-Sub.ensures.form c.in_ok-right-in-Sub.ensures.grows)
    c.in_ok-right-in-Sub.ensures.form c.minus.ensures.constant c.minus.ensures.coefficients c.minus.ensures.fit)

pub returns-in_ok-right-in-Sub-clause-fit : goal.returns-in_ok-right-in-Sub-clause-fit
returns-in_ok-right-in-Sub-clause-fit t c =
    let a = sum_of c.deref-in-Sub.result.now in let b = sum_of c.deref-in-Sub-2.result.now in
    let is : sub a b ≡ sum_of c.args.term.now = ap₂ sub (ap sum_of c.deref-in-Sub.ensures) (ap sum_of c.deref-in-Sub-2.ensures) ∙ sym (ap sum_of c.in-Sub.is) in
    let old = terms_of c.form-in-Sub.new.table in let all = terms_of c.form-in-Sub-2.new.table in
    let f = c.in_ok-left-in-Sub.left in let g = c.in_ok-right-in-Sub.right in
    subst (λ s. OnOk c.minus.result (IsFit s)) is
    (and_two_kept (IsFit a) (IsFit b) (HasFit (sub a b)) c.minus.result c.in_ok-left-in-Sub.ensures.fit c.in_ok-right-in-Sub.ensures.fit (kept_fit c.minus.result all (sub a b)
    (combined_form true c.minus.result all f g (constant_of a) (constant_of b) (coefficient a) (coefficient b)
    (grown old all f (constant_of a) (coefficient a) c.in_ok-left-in-Sub.ensures.form c.in_ok-right-in-Sub.ensures.grows)
    c.in_ok-right-in-Sub.ensures.form c.minus.ensures.constant c.minus.ensures.coefficients c.minus.ensures.fit)))

pub returns-in_ok-right-in-Sub-clause-past : goal.returns-in_ok-right-in-Sub-clause-past
returns-in_ok-right-in-Sub-clause-past t c = λ e fit.
    let a = sum_of c.deref-in-Sub.result.now in let b = sum_of c.deref-in-Sub-2.result.now in
    let is : sub a b ≡ sum_of c.args.term.now = ap₂ sub (ap sum_of c.deref-in-Sub.ensures) (ap sum_of c.deref-in-Sub-2.ensures) ∙ sym (ap sum_of c.in-Sub.is) in
    let old = terms_of c.form-in-Sub.new.table in let all = terms_of c.form-in-Sub-2.new.table in
    let f = c.in_ok-left-in-Sub.left in let g = c.in_ok-right-in-Sub.right in
    let fits = subst IsFit (sym is) fit in
    let parts = fit_parts true old all f g (constant_of a) (constant_of b) (coefficient a) (coefficient b) c.form-in-Sub-2.new.table.distinct
    c.in_ok-left-in-Sub.ensures.form c.in_ok-right-in-Sub.ensures.grows c.in_ok-right-in-Sub.ensures.form (fits.2).constant (fits.2).coefficients in
    c.minus.ensures.past e parts.0 parts.1

pub returns-in_ok-inner-in-Neg-clause-past : goal.returns-in_ok-inner-in-Neg-clause-past
returns-in_ok-inner-in-Neg-clause-past t c = λ e fit.
    let a = sum_of c.deref.result.now in
    let is : neg a ≡ sum_of c.args.term.now = ap neg (ap sum_of c.deref.ensures) ∙ sym (ap sum_of c.in-Neg.is) in
    let fits = subst IsFit (sym is) fit in
    let parts = fit_scale (negsuc 0) (negsuc 0) refl (terms_of c.form.new.table) c.in_ok-inner-in-Neg.inner (constant_of a) (coefficient a) c.form.new.table.distinct
    c.in_ok-inner-in-Neg.ensures.form (fit_negated (constant_of a) (fits.1).constant) (λ u. fit_negated (coefficient a u) ((fits.1).coefficients u)) in
    c.times.ensures.past e parts.0 parts.1

pub returns-in-Some-clause-past : goal.returns-in-Some-clause-past
returns-in-Some-clause-past t c = λ e fit.
    let a = sum_of c.deref-in-Mul.result.now in let b = sum_of c.deref-in-Some.result.now in
    let n = c.in-Some.n in
    let o : literal_of a ≡ Some n = sym c.literal.ensures ∙ c.in-Some.is in
    let is : mul a b ≡ sum_of c.args.term.now = ap₂ mul (ap sum_of c.deref-in-Mul.ensures) (ap sum_of c.deref-in-Some.ensures) ∙ sym (ap sum_of c.in-Mul.is) in
    let fits = left_factor (literal_of a) (literal_of b) n (IsFit a × IsFit b × HasFit (mul a b)) o (subst IsFit (sym is) fit) in
    let nf : FitsSigned w128 n = search rules in
    let parts = fit_scale (to_z w128 (of_z w128 n)) n (to_z-of_z w128 n nf) (terms_of c.form-in-Some.new.table) c.in_ok-right-in-Mul.right (constant_of b) (coefficient b) c.form-in-Some.new.table.distinct
    c.in_ok-right-in-Mul.ensures.form
    (subst (FitsSigned w128) (scaled_left (literal_of a) (literal_of b) n (constant_of a) (constant_of b) (pos 0) o) (fits.2).constant)
    (λ u. subst (FitsSigned w128) (scaled_left (literal_of a) (literal_of b) n (coefficient a u) (coefficient b u) (one_at (mul a b) u) o) ((fits.2).coefficients u)) in
    c.times-in-Some.ensures.past e parts.0 parts.1

pub returns-in-Some-literal-clause-past : goal.returns-in-Some-literal-clause-past
returns-in-Some-literal-clause-past t c = λ e fit.
    let a = sum_of c.deref-in-Mul.result.now in let b = sum_of c.deref-in-Mul-2.result.now in
    let n = c.in-Some-literal.n in
    let none = no_literal c.literal.result (literal_of a) c.literal.ensures c.in_default.not-Some in
    let o : literal_of b ≡ Some n = sym c.literal-in-Mul.ensures ∙ c.in-Some-literal.is in
    let is : mul a b ≡ sum_of c.args.term.now = ap₂ mul (ap sum_of c.deref-in-Mul.ensures) (ap sum_of c.deref-in-Mul-2.ensures) ∙ sym (ap sum_of c.in-Mul.is) in
    let fits = right_factor (literal_of a) (literal_of b) n (IsFit a × IsFit b × HasFit (mul a b)) o (subst IsFit (sym is) fit) in
    let here : sum_of c.deref-in-Some-literal.result.now ≡ a = ap sum_of (c.deref-in-Some-literal.ensures ∙ sym c.deref-in-Mul.ensures) in
    let form = subst (IsFormOf (terms_of c.form-in-Some-literal.new.table) c.in_ok-left-in-Mul.left) here c.in_ok-left-in-Mul.ensures.form in
    let nf : FitsSigned w128 n = search rules in
    let parts = fit_scale (to_z w128 (of_z w128 n)) n (to_z-of_z w128 n nf) (terms_of c.form-in-Some-literal.new.table) c.in_ok-left-in-Mul.left (constant_of a) (coefficient a) c.form-in-Some-literal.new.table.distinct
    form
    (subst (FitsSigned w128) (scaled_right (literal_of a) (literal_of b) n (constant_of a) (constant_of b) (pos 0) none o) (fits.2).constant)
    (λ u. subst (FitsSigned w128) (scaled_right (literal_of a) (literal_of b) n (coefficient a u) (coefficient b u) (one_at (mul a b) u) none o) ((fits.2).coefficients u)) in
    c.times-in-Some-literal.ensures.past e parts.0 parts.1
