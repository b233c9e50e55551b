use Rattle.std.proofs.Common.{◌≡◌, ◌∙◌, ◌<◌, rules, sym, ap, subst, length, arith, Err, IfErr}
use Rattle.lq_base_numbers.specs.Rationals.Rational.{◌-ℚ◌}
use Rattle.lq_base_numbers.specs.Fractions.Value.{value_of}
use Rattle.lq_prover_simplex.specs.Systems.{System, IsFree}
use Rattle.lq_prover_simplex.specs.Configurations.{Brings}
use Rattle.lq_prover_simplex.proofs.Systems.{shifted_system}
use Rattle.lq_prover_simplex.proofs.Resting.{shift_brings}
use Rattle.lq_prover_simplex.proofs.Values.{value_there}
use Rattle.lq_base_numbers.specs.declared.fractions.past.NumOp.TheVariants.{Sub}
use Rattle.lq_base_numbers.specs.Rationals.Rational.{ℚ}
use Rattle.lq_logic_rows.specs.Steps.{valuation_of}
use Rattle.lq_prover_simplex.specs.declared.error.TableauError.TheVariants.{Past}
use Rattle.lq_prover_simplex.specs.Operations.{IsBringing, IsShifting, StopsIn}
use Rattle.lq_prover_simplex.proofs.Operations.{past_in, stops_past, stops_were}
use Rattle.lq_prover_simplex.proofs.basis.Basis.shift.Goals as goal

pub invariant_of-self : goal.invariant_of-self
invariant_of-self c =
    let s : System = record { terms = c.self.inside.terms; forms = c.self.inside.forms.items; lines = c.self.inside.lines.items; values = c.self.inside.values.items } in
    shifted_system s c.in_ok-self-inside.field-0.items c.args.variable (value_of c.in_ok-by.by) c.self.invariant
    (rw (sym c.deref.ensures.value, sym c.deref-2.ensures.value) c.in_ok-self-inside.ensures.shifted)

pub returns-clause-brought : goal.returns-clause-brought
returns-clause-brought c =
    let s : System = record { terms = c.self.inside.terms; forms = c.self.inside.forms.items; lines = c.self.inside.lines.items; values = c.self.inside.values.items } in
    let is : s ≡ c.args.self.now = c.self.view_is in
    let values = c.in_ok-self-inside.field-0.items in
    let free : IsFree s.lines c.args.variable = subst (λ (t : System). IsFree t.lines c.args.variable) (sym is) c.requires in
    let within : c.args.variable < length s.values = (let f = free.inside in let e = c.self.invariant.are_lines.same in let v = c.self.invariant.valued in omega arith) in
    subst (λ (t : System). Brings t (record { terms = s.terms; forms = s.forms; lines = s.lines; values = values }) c.args.variable (value_of c.args.bound.now)) is
    (shift_brings s values c.args.variable (value_of c.args.bound.now) (value_of c.in_ok-by.by) free
    (c.in_ok-by.ensures.exact ∙ ap (λ t. value_of c.args.bound.now -ℚ t) (sym (value_there s.values c.args.variable c.index.result.now within c.index.ensures)))
    (rw (sym c.deref.ensures.value, sym c.deref-2.ensures.value) c.in_ok-self-inside.ensures.shifted))

pub returns-clause-system : goal.returns-clause-system
returns-clause-system c =
    let s : System = record { terms = c.self.inside.terms; forms = c.self.inside.forms.items; lines = c.self.inside.lines.items; values = c.self.inside.values.items } in
    shifted_system s c.in_ok-self-inside.field-0.items c.args.variable (value_of c.in_ok-by.by) c.self.invariant
    (rw (sym c.deref.ensures.value, sym c.deref-2.ensures.value) c.in_ok-self-inside.ensures.shifted)

pub returns-in_err-by-clause-stop : goal.returns-in_err-by-clause-stop
returns-in_err-by-clause-stop c =
    let s : System = record { terms = c.self.inside.terms; forms = c.self.inside.forms.items; lines = c.self.inside.lines.items; values = c.self.inside.values.items } in
    let b = value_of c.args.bound.now in
    let free : IsFree s.lines c.args.variable = subst (λ (t : System). IsFree t.lines c.args.variable) (sym c.self.view_is) c.requires in
    let within : c.args.variable < length s.values = (let f = free.inside in let e = c.self.invariant.are_lines.same in let v = c.self.invariant.valued in omega arith) in
    let Is = IsBringing s c.args.variable b in
    let e = c.in_err-by.field-0.0 in
    let was : c.from_residual.result ≡ Err (Past e) = search rules in
    subst (λ (t : System). IfErr c.from_residual.result (StopsIn (IsBringing t c.args.variable b))) c.self.view_is
    (stops_past Is c.from_residual.result e was
    (past_in Is e Sub c.args.bound.now c.index.result.now c.in_err-by.ensures.carries c.in_err-by.ensures.past
    (subst (λ y. Is Sub b y) (value_there s.values c.args.variable c.index.result.now within c.index.ensures) IsBringing.difference)))

pub returns-in_err-self-inside-clause-stop : goal.returns-in_err-self-inside-clause-stop
returns-in_err-self-inside-clause-stop c =
    let s : System = record { terms = c.self.inside.terms; forms = c.self.inside.forms.items; lines = c.self.inside.lines.items; values = c.self.inside.values.items } in
    let b = value_of c.args.bound.now in
    let free : IsFree s.lines c.args.variable = subst (λ (t : System). IsFree t.lines c.args.variable) (sym c.self.view_is) c.requires in
    let within : c.args.variable < length s.values = (let f = free.inside in let e = c.self.invariant.are_lines.same in let v = c.self.invariant.valued in omega arith) in
    let e = c.in_err-self-inside.field-0.0 in
    let was : c.from_residual-in_err-self-inside.result ≡ Err e = search rules in
    let by : value_of c.in_ok-by.by ≡ b -ℚ valuation_of s.values c.args.variable =
    c.in_ok-by.ensures.exact ∙ ap (λ t. b -ℚ t) (sym (value_there s.values c.args.variable c.index.result.now within c.index.ensures)) in
    subst (λ (t : System). IfErr c.from_residual-in_err-self-inside.result (StopsIn (IsBringing t c.args.variable b))) c.self.view_is
    (stops_were (IsShifting s.lines (valuation_of s.values) c.args.variable (value_of c.in_ok-by.by)) (IsBringing s c.args.variable b) c.from_residual-in_err-self-inside.result e
    (λ op x y h. IsBringing.shifting op x y (subst (λ (d : ℚ). IsShifting s.lines (valuation_of s.values) c.args.variable d op x y) by h)) was
    (rw (sym c.deref.ensures.value, sym c.deref-2.ensures.value) c.in_err-self-inside.ensures.stop))
