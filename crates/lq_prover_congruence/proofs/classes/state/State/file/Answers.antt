-- The table gets the term.
use Rattle.std.proofs.Common.{[], ◌∷◌, ◌++◌, sym, ap, ◌∙◌, refl}
use Rattle.lq_prover_congruence.specs.Classes.Terms.{find_in, term_in}
use Rattle.lq_prover_congruence.specs.Classes.Core.{signature}
use Rattle.lq_prover_congruence.proofs.classes.state.State.file.Goals as goal

pub returns-clause-filed : goal.returns-clause-filed
returns-clause-filed c =
    let s = c.args.self.now in
    let sig = signature s.labels.items (term_in s.known c.args.term) in
    record {
      none = ap (find_in s.filed) (sym c.in_ok-key.ensures) ∙ sym c.find.ensures ∙ c.in_default.is;
      now = record { known = refl; labels = refl; next = refl; entry = (sig, c.args.term); filed = c.in_default-insert.ensures.ok ∙ ap (λ t. s.filed ++ (t, c.args.term) ∷ []) c.in_ok-key.ensures };
      entry = refl;
      trail = c.in_ok-push.ensures.items;
      beside = record { known = refl; uses = refl; sizes = refl; steps = refl };
    }
