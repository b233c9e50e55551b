use Rattle.std.proofs.Common.{sym, ap, ◌∙◌}
use Rattle.lq_text_scope.specs.Uses.{given_to}
use Rattle.lq_text_scope.proofs.Building.{parts_of, parts_counted, first_given, none_given}
use Rattle.lq_text_scope.proofs.checker.given_to.Goals as goal

pub returns-in-Apart : goal.returns-in-Apart
returns-in-Apart c = c.len.ensures ∙ parts_counted c.args.parts.now ∙ ap (λ h. given_to c.args.wanted h (parts_of c.args.parts.now)) (sym c.in-Apart.is)

pub returns-in-Some : goal.returns-in-Some
returns-in-Some c =
    c.as_arguments.ensures ∙ first_given c.args.wanted c.args.parts.now c.in-Some.part.now (sym c.in-Some.ensures)
    ∙ ap (λ h. given_to c.args.wanted h (parts_of c.args.parts.now)) (sym c.in-Listed.is)

pub returns-in-None : goal.returns-in-None
returns-in-None c = none_given c.args.wanted c.args.parts.now (sym c.in-None.ensures) ∙ ap (λ h. given_to c.args.wanted h (parts_of c.args.parts.now)) (sym c.in-Listed.is)
