use Rattle.std.proofs.Common.{subst, sym}
use Rattle.lq_text_lexer.specs.declared.front.Front.{Front}
use Rattle.lq_text_lexer.specs.Front.{FitsIn}
use Rattle.lq_text_lexer.proofs.Fronts.{front_fits}
use Rattle.lq_text_lexer.proofs.front.front_of.Goals as goal

pub returns-clause-fits : goal.returns-clause-fits
returns-clause-fits c = subst (λ (f : Front). FitsIn f c.args.text.now) (sym c.classified.ensures) (front_fits c.args.kind c.args.text.now)
