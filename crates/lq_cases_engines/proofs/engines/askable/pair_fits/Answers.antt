use Rattle.std.proofs.Common.{◌≡◌, ◌∙◌, Bool, All, Result, IfOk, IsTrue, refl, sym, ap, ap₂, subst}
use Rattle.lq_logic_predicates.specs.Comparison.{CanGather}
use Rattle.lq_logic_predicates.specs.Literals.{condition_rows, pair_rows}
use Rattle.lq_logic_predicates.specs.Sum.{Sum, mul, div, rem}
use Rattle.lq_logic_predicates.specs.TermView.{sum_of}
use Rattle.lq_cases_engines.proofs.engines.askable.pair_fits.Goals as goal

two_rows : {E : Type 0} (f : Sum → Sum → Sum) (is : (a b x y : Sum) → pair_rows (f a b) (f x y) ≡ condition_rows (f a b) a b (f x y) x y)
    (r : Result Bool E) (l m a b x y : Sum) → l ≡ f a b → m ≡ f x y
    → IfOk r (λ fits. IsTrue fits → All CanGather (condition_rows l a b m x y)) → IfOk r (λ fits. IsTrue fits → All CanGather (pair_rows l m))
two_rows f is r l m a b x y p q h =
    let same : condition_rows l a b m x y ≡ pair_rows l m = ap₂ (λ u v. condition_rows u a b v x y) p q ∙ sym (is a b x y) ∙ sym (ap₂ pair_rows p q) in
    subst (λ rows. IfOk r (λ fits. IsTrue fits → All CanGather rows)) same h

pub returns-in-Mul-right : goal.returns-in-Mul-right
returns-in-Mul-right c =
    let a = sum_of c.deref.result.now in let b = sum_of c.deref-in-Mul-right.result.now in let x = sum_of c.deref-in-Mul-right-2.result.now in let y = sum_of c.deref-in-Mul-right-3.result.now in
    let left : sum_of c.args.left.now ≡ mul a b = sym (ap₂ mul (ap sum_of c.deref.ensures) (ap sum_of c.deref-in-Mul-right.ensures) ∙ sym (ap sum_of c.in-Mul.is)) in
    let right : sum_of c.args.right.now ≡ mul x y = sym (ap₂ mul (ap sum_of c.deref-in-Mul-right-2.ensures) (ap sum_of c.deref-in-Mul-right-3.ensures) ∙ sym (ap sum_of c.in-Mul-right.is)) in
    two_rows mul (λ _ _ _ _. refl) c.arguments_fit.result (sum_of c.args.left.now) (sum_of c.args.right.now) a b x y left right c.arguments_fit.ensures

pub returns-in-Div-right : goal.returns-in-Div-right
returns-in-Div-right c =
    let a = sum_of c.deref-in-Div-right.result.now in let b = sum_of c.deref-in-Div-right-2.result.now in let x = sum_of c.deref-in-Div-right-3.result.now in let y = sum_of c.deref-in-Div-right-4.result.now in
    let left : sum_of c.args.left.now ≡ div a b = sym (ap₂ div (ap sum_of c.deref-in-Div-right.ensures) (ap sum_of c.deref-in-Div-right-2.ensures) ∙ sym (ap sum_of c.in-Div.is)) in
    let right : sum_of c.args.right.now ≡ div x y = sym (ap₂ div (ap sum_of c.deref-in-Div-right-3.ensures) (ap sum_of c.deref-in-Div-right-4.ensures) ∙ sym (ap sum_of c.in-Div-right.is)) in
    two_rows div (λ _ _ _ _. refl) c.arguments_fit-in-Div-right.result (sum_of c.args.left.now) (sum_of c.args.right.now) a b x y left right c.arguments_fit-in-Div-right.ensures

pub returns-in-Mod-right : goal.returns-in-Mod-right
returns-in-Mod-right c =
    let a = sum_of c.deref-in-Mod-right.result.now in let b = sum_of c.deref-in-Mod-right-2.result.now in let x = sum_of c.deref-in-Mod-right-3.result.now in let y = sum_of c.deref-in-Mod-right-4.result.now in
    let left : sum_of c.args.left.now ≡ rem a b = sym (ap₂ rem (ap sum_of c.deref-in-Mod-right.ensures) (ap sum_of c.deref-in-Mod-right-2.ensures) ∙ sym (ap sum_of c.in-Mod.is)) in
    let right : sum_of c.args.right.now ≡ rem x y = sym (ap₂ rem (ap sum_of c.deref-in-Mod-right-3.ensures) (ap sum_of c.deref-in-Mod-right-4.ensures) ∙ sym (ap sum_of c.in-Mod-right.is)) in
    two_rows rem (λ _ _ _ _. refl) c.arguments_fit-in-Mod-right.result (sum_of c.args.left.now) (sum_of c.args.right.now) a b x y left right c.arguments_fit-in-Mod-right.ensures
