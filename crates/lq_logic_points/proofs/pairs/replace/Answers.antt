use Rattle.std.proofs.Common.{◌≡◌, ◌∙◌, Some, List, ℕ, refl, sym, ap, ap₂, if◌then◌else◌}
use Rattle.std.specs.Map.{lookup}
use Rattle.lq_logic_predicates.specs.TermView.{sum_of}
use Rattle.lq_logic_points.specs.contracts.agreeing.FunctionPartialEq.TheImpl.{ghosts}
use Rattle.lq_logic_points.specs.declared.agreeing.Function.{Function}
use Rattle.lq_logic_points.specs.declared.agreeing.Function.TheVariants.{Product, Quotient, Remainder, Length, Measure}
use Rattle.lq_logic_points.specs.Function.{applied}
use Rattle.lq_logic_points.specs.Nearest.{same_function, place_of, new_place}
use Rattle.lq_logic_points.proofs.pairs.replace.Goals as goal

one_test : (f g : Function) → ghosts.eq f g ≡ same_function f g
one_test Product Product = refl
one_test Product Quotient = refl
one_test Product Remainder = refl
one_test Product Length = refl
one_test Product (Measure g) = refl
one_test Quotient Product = refl
one_test Quotient Quotient = refl
one_test Quotient Remainder = refl
one_test Quotient Length = refl
one_test Quotient (Measure g) = refl
one_test Remainder Product = refl
one_test Remainder Quotient = refl
one_test Remainder Remainder = refl
one_test Remainder Length = refl
one_test Remainder (Measure g) = refl
one_test Length Product = refl
one_test Length Quotient = refl
one_test Length Remainder = refl
one_test Length Length = refl
one_test Length (Measure g) = refl
one_test (Measure f) Product = refl
one_test (Measure f) Quotient = refl
one_test (Measure f) Remainder = refl
one_test (Measure f) Length = refl
one_test (Measure f) (Measure g) = refl

one_place : (es : List (Function × ℕ)) (f : Function) → place_of es f ≡ lookup (ghosts.eq f) es
one_place es f = sym (λ i. lookup (λ g. one_test f g i) es)

pub returns-in_ok-insert-in-Some-clause-new : goal.returns-in_ok-insert-in-Some-clause-new
returns-in_ok-insert-in-Some-clause-new c = λ f.
    let old = place_of c.args.latest.now.entries f in
    let is : Some c.in-Some.function ≡ applied (sum_of c.args.term.now) = sym c.in-Some.is ∙ c.function_of.ensures in
    one_place c.insert.new.self.entries f ∙ (c.in_ok-insert-in-Some.ensures.updates).0 f
    ∙ ap₂ (λ b o. if b then Some c.args.at else o) (one_test c.in-Some.function f) (sym (one_place c.args.latest.now.entries f))
    ∙ ap (λ o. new_place o c.args.at f old) is
