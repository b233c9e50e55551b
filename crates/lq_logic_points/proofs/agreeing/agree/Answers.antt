use Rattle.std.proofs.Common.{◌≡◌, ◌∙◌, ap, ap₂, sym}
use Rattle.lq_logic_predicates.specs.Sum.{mul, div, rem}
use Rattle.lq_logic_predicates.specs.TableView.{terms_of}
use Rattle.lq_logic_predicates.specs.TermView.{sum_of}
use Rattle.lq_logic_points.proofs.TwoArguments.{product, quotient, remainder, first_fits, second_fits, two_answer, two_step}
use Rattle.lq_logic_points.proofs.agreeing.agree.Goals as goal

pub arguments_agree-requires-clause-first_fits : goal.arguments_agree-requires-clause-first_fits
arguments_agree-requires-clause-first_fits c =
    let a = sum_of c.deref.result.now in let b = sum_of c.deref-in-Mul-right.result.now in let x = sum_of c.deref-in-Mul-right-2.result.now in let y = sum_of c.deref-in-Mul-right-3.result.now in
    let left : sum_of c.args.left.now ≡ mul a b = sym (ap₂ mul (ap sum_of c.deref.ensures) (ap sum_of c.deref-in-Mul-right.ensures) ∙ sym (ap sum_of c.in-Mul.is)) in
    let right : sum_of c.args.right.now ≡ mul x y = sym (ap₂ mul (ap sum_of c.deref-in-Mul-right-2.ensures) (ap sum_of c.deref-in-Mul-right-3.ensures) ∙ sym (ap sum_of c.in-Mul-right.is)) in
    first_fits mul product (sum_of c.args.left.now) (sum_of c.args.right.now) a b x y left right c.requires.fits

pub arguments_agree-requires-clause-second_fits : goal.arguments_agree-requires-clause-second_fits
arguments_agree-requires-clause-second_fits c =
    let a = sum_of c.deref.result.now in let b = sum_of c.deref-in-Mul-right.result.now in let x = sum_of c.deref-in-Mul-right-2.result.now in let y = sum_of c.deref-in-Mul-right-3.result.now in
    let left : sum_of c.args.left.now ≡ mul a b = sym (ap₂ mul (ap sum_of c.deref.ensures) (ap sum_of c.deref-in-Mul-right.ensures) ∙ sym (ap sum_of c.in-Mul.is)) in
    let right : sum_of c.args.right.now ≡ mul x y = sym (ap₂ mul (ap sum_of c.deref-in-Mul-right-2.ensures) (ap sum_of c.deref-in-Mul-right-3.ensures) ∙ sym (ap sum_of c.in-Mul-right.is)) in
    second_fits mul product (sum_of c.args.left.now) (sum_of c.args.right.now) a b x y left right c.requires.fits

pub returns-in-Mul-right-clause-answer : goal.returns-in-Mul-right-clause-answer
returns-in-Mul-right-clause-answer c =
    let a = sum_of c.deref.result.now in let b = sum_of c.deref-in-Mul-right.result.now in let x = sum_of c.deref-in-Mul-right-2.result.now in let y = sum_of c.deref-in-Mul-right-3.result.now in
    let left : sum_of c.args.left.now ≡ mul a b = sym (ap₂ mul (ap sum_of c.deref.ensures) (ap sum_of c.deref-in-Mul-right.ensures) ∙ sym (ap sum_of c.in-Mul.is)) in
    let right : sum_of c.args.right.now ≡ mul x y = sym (ap₂ mul (ap sum_of c.deref-in-Mul-right-2.ensures) (ap sum_of c.deref-in-Mul-right-3.ensures) ∙ sym (ap sum_of c.in-Mul-right.is)) in
    two_answer mul product c.arguments_agree.result c.is_same_number-same.result (terms_of c.args.table.now) c.args.numbers.now c.args.classes.now.entries
    (sum_of c.args.left.now) (sum_of c.args.right.now) a b x y left right c.is_same_number-same.ensures c.arguments_agree.ensures.answer

pub returns-in-Mul-right-clause-step : goal.returns-in-Mul-right-clause-step
returns-in-Mul-right-clause-step c =
    let a = sum_of c.deref.result.now in let b = sum_of c.deref-in-Mul-right.result.now in let x = sum_of c.deref-in-Mul-right-2.result.now in let y = sum_of c.deref-in-Mul-right-3.result.now in
    let left : sum_of c.args.left.now ≡ mul a b = sym (ap₂ mul (ap sum_of c.deref.ensures) (ap sum_of c.deref-in-Mul-right.ensures) ∙ sym (ap sum_of c.in-Mul.is)) in
    let right : sum_of c.args.right.now ≡ mul x y = sym (ap₂ mul (ap sum_of c.deref-in-Mul-right-2.ensures) (ap sum_of c.deref-in-Mul-right-3.ensures) ∙ sym (ap sum_of c.in-Mul-right.is)) in
    two_step mul product c.arguments_agree.result (terms_of c.args.table.now) c.args.numbers.now (sum_of c.args.left.now) (sum_of c.args.right.now) a b x y left right c.arguments_agree.ensures.step

pub arguments_agree-requires-in-Div-right-clause-first_fits : goal.arguments_agree-requires-in-Div-right-clause-first_fits
arguments_agree-requires-in-Div-right-clause-first_fits c =
    let a = sum_of c.deref-in-Div-right.result.now in let b = sum_of c.deref-in-Div-right-2.result.now in let x = sum_of c.deref-in-Div-right-3.result.now in let y = sum_of c.deref-in-Div-right-4.result.now in
    let left : sum_of c.args.left.now ≡ div a b = sym (ap₂ div (ap sum_of c.deref-in-Div-right.ensures) (ap sum_of c.deref-in-Div-right-2.ensures) ∙ sym (ap sum_of c.in-Div.is)) in
    let right : sum_of c.args.right.now ≡ div x y = sym (ap₂ div (ap sum_of c.deref-in-Div-right-3.ensures) (ap sum_of c.deref-in-Div-right-4.ensures) ∙ sym (ap sum_of c.in-Div-right.is)) in
    first_fits div quotient (sum_of c.args.left.now) (sum_of c.args.right.now) a b x y left right c.requires.fits

pub arguments_agree-requires-in-Div-right-clause-second_fits : goal.arguments_agree-requires-in-Div-right-clause-second_fits
arguments_agree-requires-in-Div-right-clause-second_fits c =
    let a = sum_of c.deref-in-Div-right.result.now in let b = sum_of c.deref-in-Div-right-2.result.now in let x = sum_of c.deref-in-Div-right-3.result.now in let y = sum_of c.deref-in-Div-right-4.result.now in
    let left : sum_of c.args.left.now ≡ div a b = sym (ap₂ div (ap sum_of c.deref-in-Div-right.ensures) (ap sum_of c.deref-in-Div-right-2.ensures) ∙ sym (ap sum_of c.in-Div.is)) in
    let right : sum_of c.args.right.now ≡ div x y = sym (ap₂ div (ap sum_of c.deref-in-Div-right-3.ensures) (ap sum_of c.deref-in-Div-right-4.ensures) ∙ sym (ap sum_of c.in-Div-right.is)) in
    second_fits div quotient (sum_of c.args.left.now) (sum_of c.args.right.now) a b x y left right c.requires.fits

pub returns-in-Div-right-clause-answer : goal.returns-in-Div-right-clause-answer
returns-in-Div-right-clause-answer c =
    let a = sum_of c.deref-in-Div-right.result.now in let b = sum_of c.deref-in-Div-right-2.result.now in let x = sum_of c.deref-in-Div-right-3.result.now in let y = sum_of c.deref-in-Div-right-4.result.now in
    let left : sum_of c.args.left.now ≡ div a b = sym (ap₂ div (ap sum_of c.deref-in-Div-right.ensures) (ap sum_of c.deref-in-Div-right-2.ensures) ∙ sym (ap sum_of c.in-Div.is)) in
    let right : sum_of c.args.right.now ≡ div x y = sym (ap₂ div (ap sum_of c.deref-in-Div-right-3.ensures) (ap sum_of c.deref-in-Div-right-4.ensures) ∙ sym (ap sum_of c.in-Div-right.is)) in
    two_answer div quotient c.arguments_agree-in-Div-right.result c.is_same_number-same-in-Div-right.result (terms_of c.args.table.now) c.args.numbers.now c.args.classes.now.entries
    (sum_of c.args.left.now) (sum_of c.args.right.now) a b x y left right c.is_same_number-same-in-Div-right.ensures c.arguments_agree-in-Div-right.ensures.answer

pub returns-in-Div-right-clause-step : goal.returns-in-Div-right-clause-step
returns-in-Div-right-clause-step c =
    let a = sum_of c.deref-in-Div-right.result.now in let b = sum_of c.deref-in-Div-right-2.result.now in let x = sum_of c.deref-in-Div-right-3.result.now in let y = sum_of c.deref-in-Div-right-4.result.now in
    let left : sum_of c.args.left.now ≡ div a b = sym (ap₂ div (ap sum_of c.deref-in-Div-right.ensures) (ap sum_of c.deref-in-Div-right-2.ensures) ∙ sym (ap sum_of c.in-Div.is)) in
    let right : sum_of c.args.right.now ≡ div x y = sym (ap₂ div (ap sum_of c.deref-in-Div-right-3.ensures) (ap sum_of c.deref-in-Div-right-4.ensures) ∙ sym (ap sum_of c.in-Div-right.is)) in
    two_step div quotient c.arguments_agree-in-Div-right.result (terms_of c.args.table.now) c.args.numbers.now (sum_of c.args.left.now) (sum_of c.args.right.now) a b x y left right c.arguments_agree-in-Div-right.ensures.step

pub arguments_agree-requires-in-Mod-right-clause-first_fits : goal.arguments_agree-requires-in-Mod-right-clause-first_fits
arguments_agree-requires-in-Mod-right-clause-first_fits c =
    let a = sum_of c.deref-in-Mod-right.result.now in let b = sum_of c.deref-in-Mod-right-2.result.now in let x = sum_of c.deref-in-Mod-right-3.result.now in let y = sum_of c.deref-in-Mod-right-4.result.now in
    let left : sum_of c.args.left.now ≡ rem a b = sym (ap₂ rem (ap sum_of c.deref-in-Mod-right.ensures) (ap sum_of c.deref-in-Mod-right-2.ensures) ∙ sym (ap sum_of c.in-Mod.is)) in
    let right : sum_of c.args.right.now ≡ rem x y = sym (ap₂ rem (ap sum_of c.deref-in-Mod-right-3.ensures) (ap sum_of c.deref-in-Mod-right-4.ensures) ∙ sym (ap sum_of c.in-Mod-right.is)) in
    first_fits rem remainder (sum_of c.args.left.now) (sum_of c.args.right.now) a b x y left right c.requires.fits

pub arguments_agree-requires-in-Mod-right-clause-second_fits : goal.arguments_agree-requires-in-Mod-right-clause-second_fits
arguments_agree-requires-in-Mod-right-clause-second_fits c =
    let a = sum_of c.deref-in-Mod-right.result.now in let b = sum_of c.deref-in-Mod-right-2.result.now in let x = sum_of c.deref-in-Mod-right-3.result.now in let y = sum_of c.deref-in-Mod-right-4.result.now in
    let left : sum_of c.args.left.now ≡ rem a b = sym (ap₂ rem (ap sum_of c.deref-in-Mod-right.ensures) (ap sum_of c.deref-in-Mod-right-2.ensures) ∙ sym (ap sum_of c.in-Mod.is)) in
    let right : sum_of c.args.right.now ≡ rem x y = sym (ap₂ rem (ap sum_of c.deref-in-Mod-right-3.ensures) (ap sum_of c.deref-in-Mod-right-4.ensures) ∙ sym (ap sum_of c.in-Mod-right.is)) in
    second_fits rem remainder (sum_of c.args.left.now) (sum_of c.args.right.now) a b x y left right c.requires.fits

pub returns-in-Mod-right-clause-answer : goal.returns-in-Mod-right-clause-answer
returns-in-Mod-right-clause-answer c =
    let a = sum_of c.deref-in-Mod-right.result.now in let b = sum_of c.deref-in-Mod-right-2.result.now in let x = sum_of c.deref-in-Mod-right-3.result.now in let y = sum_of c.deref-in-Mod-right-4.result.now in
    let left : sum_of c.args.left.now ≡ rem a b = sym (ap₂ rem (ap sum_of c.deref-in-Mod-right.ensures) (ap sum_of c.deref-in-Mod-right-2.ensures) ∙ sym (ap sum_of c.in-Mod.is)) in
    let right : sum_of c.args.right.now ≡ rem x y = sym (ap₂ rem (ap sum_of c.deref-in-Mod-right-3.ensures) (ap sum_of c.deref-in-Mod-right-4.ensures) ∙ sym (ap sum_of c.in-Mod-right.is)) in
    two_answer rem remainder c.arguments_agree-in-Mod-right.result c.is_same_number-same-in-Mod-right.result (terms_of c.args.table.now) c.args.numbers.now c.args.classes.now.entries
    (sum_of c.args.left.now) (sum_of c.args.right.now) a b x y left right c.is_same_number-same-in-Mod-right.ensures c.arguments_agree-in-Mod-right.ensures.answer

pub returns-in-Mod-right-clause-step : goal.returns-in-Mod-right-clause-step
returns-in-Mod-right-clause-step c =
    let a = sum_of c.deref-in-Mod-right.result.now in let b = sum_of c.deref-in-Mod-right-2.result.now in let x = sum_of c.deref-in-Mod-right-3.result.now in let y = sum_of c.deref-in-Mod-right-4.result.now in
    let left : sum_of c.args.left.now ≡ rem a b = sym (ap₂ rem (ap sum_of c.deref-in-Mod-right.ensures) (ap sum_of c.deref-in-Mod-right-2.ensures) ∙ sym (ap sum_of c.in-Mod.is)) in
    let right : sum_of c.args.right.now ≡ rem x y = sym (ap₂ rem (ap sum_of c.deref-in-Mod-right-3.ensures) (ap sum_of c.deref-in-Mod-right-4.ensures) ∙ sym (ap sum_of c.in-Mod-right.is)) in
    two_step rem remainder c.arguments_agree-in-Mod-right.result (terms_of c.args.table.now) c.args.numbers.now (sum_of c.args.left.now) (sum_of c.args.right.now) a b x y left right c.arguments_agree-in-Mod-right.ensures.step
