use Rattle.std.proofs.Common.{refl, sym, ap, ◌∙◌, [], ◌∷◌, pos}
use Rattle.lq_base_numbers.specs.Rationals.Rational.{◌+ℚ◌, ◌*ℚ◌}
use Rattle.lq_base_numbers.specs.Rationals.Solver.{var, con, ◌⊕◌, ◌⊗◌, solve}
use Rattle.lq_prover_simplex.specs.Lines.{combine}
use Rattle.lq_prover_simplex.proofs.basis.change.Goals as goal

pub returns-in-None-clause-change : goal.returns-in-None-clause-change
returns-in-None-clause-change c = record {
  sum = λ x.
      solve (combine x c.args.line.now ∷ combine x c.args.zero.now ∷ []) (var 0) (var 0 ⊕ con (pos 0) ⊗ var 1) refl
      ∙ ap (λ t. combine x c.args.line.now +ℚ t *ℚ combine x c.args.zero.now) (sym c.in-None.ensures.none);
  line = c.requires.line;
}
