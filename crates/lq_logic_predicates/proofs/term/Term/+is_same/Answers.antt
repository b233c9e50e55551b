use Rattle.std.proofs.Common.{◌∙◌, ap, sym}
use Rattle.lq_logic_predicates.specs.Sum.{same}
use Rattle.lq_logic_predicates.specs.TermView.{sum_of}
use Rattle.lq_logic_predicates.proofs.TermForms.{not_whole, not_var, not_neg, not_add, not_sub, not_mul, not_div, not_mod, not_length, not_measure}
use Rattle.lq_logic_predicates.proofs.term.Term.+is_same.Goals as goal

pub returns-in_default : goal.returns-in_default
returns-in_default t c =
    not_whole _ c.args.other.now c.in_default.not-Whole-1 ∙ ap (λ u. same (sum_of u) (sum_of c.args.other.now)) (sym c.in_default.is-0)

pub returns-in_default-2 : goal.returns-in_default-2
returns-in_default-2 t c =
    not_var _ c.args.other.now c.in_default.not-Var-1 ∙ ap (λ u. same (sum_of u) (sum_of c.args.other.now)) (sym c.in_default.is-0)

pub returns-in_default-3 : goal.returns-in_default-3
returns-in_default-3 t c =
    not_neg _ c.args.other.now c.in_default.not-Neg-1 ∙ ap (λ u. same (sum_of u) (sum_of c.args.other.now)) (sym c.in_default.is-0)

pub returns-in_default-4 : goal.returns-in_default-4
returns-in_default-4 t c =
    not_add _ _ c.args.other.now c.in_default.not-Add-1 ∙ ap (λ u. same (sum_of u) (sum_of c.args.other.now)) (sym c.in_default.is-0)

pub returns-in_default-5 : goal.returns-in_default-5
returns-in_default-5 t c =
    not_sub _ _ c.args.other.now c.in_default.not-Sub-1 ∙ ap (λ u. same (sum_of u) (sum_of c.args.other.now)) (sym c.in_default.is-0)

pub returns-in_default-6 : goal.returns-in_default-6
returns-in_default-6 t c =
    not_mul _ _ c.args.other.now c.in_default.not-Mul-1 ∙ ap (λ u. same (sum_of u) (sum_of c.args.other.now)) (sym c.in_default.is-0)

pub returns-in_default-7 : goal.returns-in_default-7
returns-in_default-7 t c =
    not_div _ _ c.args.other.now c.in_default.not-Div-1 ∙ ap (λ u. same (sum_of u) (sum_of c.args.other.now)) (sym c.in_default.is-0)

pub returns-in_default-8 : goal.returns-in_default-8
returns-in_default-8 t c =
    not_mod _ _ c.args.other.now c.in_default.not-Mod-1 ∙ ap (λ u. same (sum_of u) (sum_of c.args.other.now)) (sym c.in_default.is-0)

pub returns-in_default-9 : goal.returns-in_default-9
returns-in_default-9 t c =
    not_length _ c.args.other.now c.in_default.not-Length-1 ∙ ap (λ u. same (sum_of u) (sum_of c.args.other.now)) (sym c.in_default.is-0)

pub returns-in_default-10 : goal.returns-in_default-10
returns-in_default-10 t c =
    not_measure _ _ c.args.other.now c.in_default.not-Measure-1 ∙ ap (λ u. same (sum_of u) (sum_of c.args.other.now)) (sym c.in_default.is-0)
