use Rattle.std.proofs.Common.{◌≡◌, rules, sym, ap, subst, ◌∙◌, length, arith, [], drop, ◌<◌, Err, IfErr}
use Rattle.std.proofs.lemmas.List.{take_at}
use Rattle.lq_base_numbers.specs.Rationals.Rational.{◌-ℚ◌, ◌*ℚ◌}
use Rattle.lq_base_numbers.specs.Fractions.Value.{value_of}
use Rattle.lq_logic_rows.specs.Steps.{valuation_of}
use Rattle.lq_prover_simplex.specs.Systems.{System, line_at}
use Rattle.lq_prover_simplex.specs.Configurations.{Exchanges}
use Rattle.lq_prover_simplex.proofs.Systems.{IsPivot, pivot_of, pivoted_system}
use Rattle.lq_prover_simplex.proofs.Resting.{quotient_times, pivot_exchanges}
use Rattle.lq_prover_simplex.proofs.Combinations.{entry_apart}
use Rattle.lq_prover_simplex.proofs.Values.{element, value_there}
use Rattle.lq_base_numbers.specs.declared.fractions.past.NumOp.TheVariants.{Sub, Div}
use Rattle.lq_prover_simplex.specs.declared.error.TableauError.TheVariants.{Past}
use Rattle.lq_base_numbers.specs.Rationals.Rational.{ℚ}
use Rattle.lq_base_numbers.specs.Rationals.RationalQuotient.{◌/ℚ◌}
use Rattle.lq_prover_simplex.specs.Operations.{IsChanging, IsExchange, IsRelating, IsShifting, StopsIn}
use Rattle.lq_prover_simplex.proofs.Operations.{past_in, stops_past, stops_were}
use Rattle.lq_prover_simplex.proofs.basis.Basis.pivot.Goals as goal

pub div-requires : goal.div-requires
div-requires c =
    let there = rw (sym c.self.view_is) at c.requires.entry in
    entry_apart (line_at c.self.inside.lines.items c.args.leaving) 0 there.0 c.args.entering (c.self.invariant.are_lines.line c.args.leaving) there.1

pub relation-requires-clause-apart : goal.relation-requires-clause-apart
relation-requires-clause-apart c =
    let there = rw (sym c.self.view_is) at c.requires.entry in
    entry_apart (line_at c.self.inside.lines.items c.args.leaving) 0 there.0 c.args.entering (c.self.invariant.are_lines.line c.args.leaving) there.1

pub invariant_of-self : goal.invariant_of-self
invariant_of-self c =
    let s : System = record { terms = c.self.inside.terms; forms = c.self.inside.forms.items; lines = c.self.inside.lines.items; values = c.self.inside.values.items } in
    let there = rw (sym c.self.view_is) at c.requires.entry in
    let inside = rw (sym c.self.view_is) at c.requires.inside in
    let within : c.args.leaving < length s.lines = (let e = c.self.invariant.are_lines.same in omega arith) in
    let line : c.index-2.result.now ≡ line_at s.lines c.args.leaving = sym (element s.lines c.args.leaving c.index-2.result.now [] within c.index-2.ensures) in
    let same : length c.install.new.lines ≡ c.self.inside.lines.len = omega (arith, c.install.auto.lines, c.deref_mut.ensures.len) in
    let pivot : IsPivot s.lines c.install.new.lines c.args.leaving c.args.entering.variable (value_of c.args.entering.factor) c.in_ok-zero.zero =
    pivot_of s c.install.new.lines c.args.leaving there.0 c.args.entering c.in_ok-zero.zero c.in_ok-changed.changed.items
    c.self.invariant inside there.1 c.requires.apart
    (rw (sym line) c.in_ok-zero.ensures.sum)
    (rw (sym c.deref-3.ensures.value) c.in_ok-changed.ensures.added)
    (c.install.auto.lines ∙ ap length c.deref_mut.ensures.value)
    (λ r. rw (sym c.deref_mut.ensures.value) (c.install.ensures r)) in
    rw (take_at c.install.new.lines (drop (length c.install.new.lines) c.self.inside.lines.items) c.self.inside.lines.len same)
    (pivoted_system s c.install.new.lines c.in_ok-values.values.items c.args.leaving c.args.entering.variable (value_of c.args.entering.factor) (value_of c.in_ok-by.by) c.in_ok-zero.zero
    c.self.invariant pivot (rw (sym c.deref.ensures.value, sym c.deref-2.ensures.value) c.in_ok-values.ensures.shifted))

pub returns-clause-exchanged : goal.returns-clause-exchanged
returns-clause-exchanged c =
    let s : System = record { terms = c.self.inside.terms; forms = c.self.inside.forms.items; lines = c.self.inside.lines.items; values = c.self.inside.values.items } in
    let is : s ≡ c.args.self.now = c.self.view_is in
    let there = rw (sym c.self.view_is) at c.requires.entry in
    let inside = rw (sym c.self.view_is) at c.requires.inside in
    let within : c.args.leaving < length s.lines = (let e = c.self.invariant.are_lines.same in omega arith) in
    let valued : c.args.leaving < length s.values = (let e = c.self.invariant.valued in omega arith) in
    let line : c.index-2.result.now ≡ line_at s.lines c.args.leaving = sym (element s.lines c.args.leaving c.index-2.result.now [] within c.index-2.ensures) in
    let same : length c.install.new.lines ≡ c.self.inside.lines.len = omega (arith, c.install.auto.lines, c.deref_mut.ensures.len) in
    let f = value_of c.args.entering.factor in let bound = value_of c.args.bound.now in let values = c.in_ok-values.values.items in
    let pivot : IsPivot s.lines c.install.new.lines c.args.leaving c.args.entering.variable f c.in_ok-zero.zero =
    pivot_of s c.install.new.lines c.args.leaving there.0 c.args.entering c.in_ok-zero.zero c.in_ok-changed.changed.items
    c.self.invariant inside there.1 c.requires.apart
    (rw (sym line) c.in_ok-zero.ensures.sum)
    (rw (sym c.deref-3.ensures.value) c.in_ok-changed.ensures.added)
    (c.install.auto.lines ∙ ap length c.deref_mut.ensures.value)
    (λ r. rw (sym c.deref_mut.ensures.value) (c.install.ensures r)) in
    let way : value_of c.in_ok-by.by *ℚ f ≡ bound -ℚ valuation_of s.values c.args.leaving =
    quotient_times (value_of c.in_ok-by.by) (value_of c.in_ok-way.way) f pivot.some c.in_ok-by.ensures.exact ∙ c.in_ok-way.ensures.exact
    ∙ ap (λ t. bound -ℚ t) (sym (value_there s.values c.args.leaving c.index.result.now valued c.index.ensures)) in
    rw (take_at c.install.new.lines (drop (length c.install.new.lines) c.self.inside.lines.items) c.self.inside.lines.len same)
    (subst (λ (t : System). Exchanges t (record { terms = s.terms; forms = s.forms; lines = c.install.new.lines; values = values }) c.args.leaving c.args.entering.variable bound) is
    (pivot_exchanges s c.install.new.lines values c.args.leaving c.args.entering.variable f c.in_ok-zero.zero bound (value_of c.in_ok-by.by) c.self.invariant.are_lines pivot way
    (rw (sym c.deref.ensures.value, sym c.deref-2.ensures.value) c.in_ok-values.ensures.shifted)))

pub returns-clause-system : goal.returns-clause-system
returns-clause-system c =
    let s : System = record { terms = c.self.inside.terms; forms = c.self.inside.forms.items; lines = c.self.inside.lines.items; values = c.self.inside.values.items } in
    let there = rw (sym c.self.view_is) at c.requires.entry in
    let inside = rw (sym c.self.view_is) at c.requires.inside in
    let within : c.args.leaving < length s.lines = (let e = c.self.invariant.are_lines.same in omega arith) in
    let line : c.index-2.result.now ≡ line_at s.lines c.args.leaving = sym (element s.lines c.args.leaving c.index-2.result.now [] within c.index-2.ensures) in
    let same : length c.install.new.lines ≡ c.self.inside.lines.len = omega (arith, c.install.auto.lines, c.deref_mut.ensures.len) in
    let pivot : IsPivot s.lines c.install.new.lines c.args.leaving c.args.entering.variable (value_of c.args.entering.factor) c.in_ok-zero.zero =
    pivot_of s c.install.new.lines c.args.leaving there.0 c.args.entering c.in_ok-zero.zero c.in_ok-changed.changed.items
    c.self.invariant inside there.1 c.requires.apart
    (rw (sym line) c.in_ok-zero.ensures.sum)
    (rw (sym c.deref-3.ensures.value) c.in_ok-changed.ensures.added)
    (c.install.auto.lines ∙ ap length c.deref_mut.ensures.value)
    (λ r. rw (sym c.deref_mut.ensures.value) (c.install.ensures r)) in
    rw (take_at c.install.new.lines (drop (length c.install.new.lines) c.self.inside.lines.items) c.self.inside.lines.len same)
    (pivoted_system s c.install.new.lines c.in_ok-values.values.items c.args.leaving c.args.entering.variable (value_of c.args.entering.factor) (value_of c.in_ok-by.by) c.in_ok-zero.zero
    c.self.invariant pivot (rw (sym c.deref.ensures.value, sym c.deref-2.ensures.value) c.in_ok-values.ensures.shifted))

pub returns-in_err-way-clause-stop : goal.returns-in_err-way-clause-stop
returns-in_err-way-clause-stop c =
    let s : System = record { terms = c.self.inside.terms; forms = c.self.inside.forms.items; lines = c.self.inside.lines.items; values = c.self.inside.values.items } in
    let f = value_of c.args.entering.factor in let b = value_of c.args.bound.now in
    let inside = rw (sym c.self.view_is) at c.requires.inside in
    let valued : c.args.leaving < length s.values = (let e = c.self.invariant.valued in omega arith) in
    let Is = IsExchange s c.args.leaving c.args.entering.variable f b in
    let e = c.in_err-way.field-0.0 in
    let was : c.from_residual.result ≡ Err (Past e) = search rules in
    subst (λ (t : System). IfErr c.from_residual.result (StopsIn (IsExchange t c.args.leaving c.args.entering.variable f b))) c.self.view_is
    (stops_past Is c.from_residual.result e was
    (past_in Is e Sub c.args.bound.now c.index.result.now c.in_err-way.ensures.carries c.in_err-way.ensures.past
    (subst (λ y. Is Sub b y) (value_there s.values c.args.leaving c.index.result.now valued c.index.ensures) IsExchange.difference)))

pub returns-in_err-by-clause-stop : goal.returns-in_err-by-clause-stop
returns-in_err-by-clause-stop c =
    let s : System = record { terms = c.self.inside.terms; forms = c.self.inside.forms.items; lines = c.self.inside.lines.items; values = c.self.inside.values.items } in
    let f = value_of c.args.entering.factor in let b = value_of c.args.bound.now in
    let inside = rw (sym c.self.view_is) at c.requires.inside in
    let valued : c.args.leaving < length s.values = (let e = c.self.invariant.valued in omega arith) in
    let Is = IsExchange s c.args.leaving c.args.entering.variable f b in
    let e = c.in_err-by.field-0.0 in
    let was : c.from_residual-in_err-by.result ≡ Err (Past e) = search rules in
    let way : value_of c.in_ok-way.way ≡ b -ℚ valuation_of s.values c.args.leaving =
    c.in_ok-way.ensures.exact ∙ ap (λ t. b -ℚ t) (sym (value_there s.values c.args.leaving c.index.result.now valued c.index.ensures)) in
    subst (λ (t : System). IfErr c.from_residual-in_err-by.result (StopsIn (IsExchange t c.args.leaving c.args.entering.variable f b))) c.self.view_is
    (stops_past Is c.from_residual-in_err-by.result e was
    (past_in Is e Div c.in_ok-way.way c.args.entering.factor c.in_err-by.ensures.carries c.in_err-by.ensures.past (subst (λ x. Is Div x f) (sym way) IsExchange.quotient)))

pub returns-in_err-values-clause-stop : goal.returns-in_err-values-clause-stop
returns-in_err-values-clause-stop c =
    let s : System = record { terms = c.self.inside.terms; forms = c.self.inside.forms.items; lines = c.self.inside.lines.items; values = c.self.inside.values.items } in
    let f = value_of c.args.entering.factor in let b = value_of c.args.bound.now in let k = c.args.entering.variable in
    let inside = rw (sym c.self.view_is) at c.requires.inside in
    let valued : c.args.leaving < length s.values = (let e = c.self.invariant.valued in omega arith) in
    let e = c.in_err-values.field-0.0 in
    let was : c.from_residual-in_err-values.result ≡ Err e = search rules in
    let way : value_of c.in_ok-way.way ≡ b -ℚ valuation_of s.values c.args.leaving =
    c.in_ok-way.ensures.exact ∙ ap (λ t. b -ℚ t) (sym (value_there s.values c.args.leaving c.index.result.now valued c.index.ensures)) in
    let by : value_of c.in_ok-by.by ≡ (b -ℚ valuation_of s.values c.args.leaving) /ℚ f = c.in_ok-by.ensures.exact ∙ ap (λ t. t /ℚ f) way in
    subst (λ (t : System). IfErr c.from_residual-in_err-values.result (StopsIn (IsExchange t c.args.leaving k f b))) c.self.view_is
    (stops_were (IsShifting s.lines (valuation_of s.values) k (value_of c.in_ok-by.by)) (IsExchange s c.args.leaving k f b) c.from_residual-in_err-values.result e
    (λ op x y h. IsExchange.shifting op x y (subst (λ (d : ℚ). IsShifting s.lines (valuation_of s.values) k d op x y) by h)) was
    (rw (sym c.deref.ensures.value, sym c.deref-2.ensures.value) c.in_err-values.ensures.stop))

pub returns-in_err-zero-clause-stop : goal.returns-in_err-zero-clause-stop
returns-in_err-zero-clause-stop c =
    let s : System = record { terms = c.self.inside.terms; forms = c.self.inside.forms.items; lines = c.self.inside.lines.items; values = c.self.inside.values.items } in
    let f = value_of c.args.entering.factor in let b = value_of c.args.bound.now in let k = c.args.entering.variable in
    let inside = rw (sym c.self.view_is) at c.requires.inside in
    let within : c.args.leaving < length s.lines = (let e = c.self.invariant.are_lines.same in omega arith) in
    let line : c.index-2.result.now ≡ line_at s.lines c.args.leaving = sym (element s.lines c.args.leaving c.index-2.result.now [] within c.index-2.ensures) in
    let e = c.in_err-zero.field-0.0 in
    let was : c.from_residual-in_err-zero.result ≡ Err e = search rules in
    subst (λ (t : System). IfErr c.from_residual-in_err-zero.result (StopsIn (IsExchange t c.args.leaving k f b))) c.self.view_is
    (stops_were (IsRelating (line_at s.lines c.args.leaving) c.args.leaving f) (IsExchange s c.args.leaving k f b) c.from_residual-in_err-zero.result e
    (λ op x y h. IsExchange.relating op x y h) was (rw (sym line) c.in_err-zero.ensures.stop))

pub returns-in_err-changed-clause-stop : goal.returns-in_err-changed-clause-stop
returns-in_err-changed-clause-stop c =
    let s : System = record { terms = c.self.inside.terms; forms = c.self.inside.forms.items; lines = c.self.inside.lines.items; values = c.self.inside.values.items } in
    let f = value_of c.args.entering.factor in let b = value_of c.args.bound.now in let k = c.args.entering.variable in
    let inside = rw (sym c.self.view_is) at c.requires.inside in
    let within : c.args.leaving < length s.lines = (let e = c.self.invariant.are_lines.same in omega arith) in
    let line : c.index-2.result.now ≡ line_at s.lines c.args.leaving = sym (element s.lines c.args.leaving c.index-2.result.now [] within c.index-2.ensures) in
    let e = c.in_err-changed.field-0.0 in
    let was : c.from_residual-in_err-changed.result ≡ Err e = search rules in
    subst (λ (t : System). IfErr c.from_residual-in_err-changed.result (StopsIn (IsExchange t c.args.leaving k f b))) c.self.view_is
    (stops_were (IsChanging s.lines k c.in_ok-zero.zero) (IsExchange s c.args.leaving k f b) c.from_residual-in_err-changed.result e
    (λ op x y h. IsExchange.changing c.in_ok-zero.zero op x y (c.in_ok-zero.ensures.line, rw (sym line) c.in_ok-zero.ensures.sum) h) was
    (rw (sym c.deref-3.ensures.value) c.in_err-changed.ensures.stop))
