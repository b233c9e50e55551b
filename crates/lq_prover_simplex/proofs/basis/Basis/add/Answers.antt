use Rattle.std.proofs.Common.{◌≡◌, ◌≢◌, ◌<◌, ℕ, sym, subst, length, ◌++◌, ◌∷◌, []}
use Rattle.lq_base_numbers.specs.Fractions.Value.{value_of}
use Rattle.lq_logic_rows.specs.Row.{Valuation, sum_at}
use Rattle.lq_logic_rows.specs.Steps.{valuation_of}
use Rattle.lq_prover_simplex.specs.Lines.{combine}
use Rattle.lq_logic_rows.specs.Difference.{TermsBelow}
use Rattle.lq_prover_simplex.specs.Systems.{System, form_at, line_at}
use Rattle.lq_prover_simplex.specs.Configurations.{AllStay}
use Rattle.lq_prover_simplex.proofs.Forms.{further_system, further_stays}
use Rattle.lq_prover_simplex.proofs.basis.Basis.add.Goals as goal

pub invariant_of-self-2 : goal.invariant_of-self-2
invariant_of-self-2 c =
    let s : System = record { terms = c.self.inside.terms; forms = c.self.inside.forms.items; lines = c.self.inside.lines.items; values = c.self.inside.values.items } in
    let is : s ≡ c.args.self.now = c.self.view_is in
    rw (c.in_ok-extend.ensures.forms, c.in_ok-extend.ensures.lines, c.in_ok-extend.ensures.values)
    (further_system s c.args.form c.args.line c.args.value c.self.invariant
    (subst (λ (t : System). TermsBelow t.terms c.args.form) (sym is) c.requires.below) c.requires.normal
    (subst (λ (t : System). (k : ℕ) → k < length t.forms → form_at t.forms k ≢ c.args.form) (sym is) c.requires.absent) c.requires.line
    (subst (λ (t : System). (x : Valuation) → combine x c.args.line ≡ sum_at (λ k. combine x (line_at t.lines k)) c.args.form) (sym is) c.requires.sum)
    (subst (λ (t : System). value_of c.args.value ≡ sum_at (valuation_of t.values) c.args.form) (sym is) c.requires.value))

pub returns-clause-stays : goal.returns-clause-stays
returns-clause-stays c =
    let s : System = record { terms = c.self.inside.terms; forms = c.self.inside.forms.items; lines = c.self.inside.lines.items; values = c.self.inside.values.items } in
    let is : s ≡ c.args.self.now = c.self.view_is in
    let more : System = record { terms = s.terms; forms = s.forms ++ c.args.form ∷ []; lines = s.lines ++ c.args.line ∷ []; values = s.values ++ c.args.value ∷ [] } in
    rw (c.in_ok-extend.ensures.lines, c.in_ok-extend.ensures.values)
    (subst (λ (t : System). AllStay t more) is
    (further_stays s c.args.form c.args.line c.args.value c.self.invariant
    (subst (λ (t : System). (x : Valuation) → combine x c.args.line ≡ sum_at (λ k. combine x (line_at t.lines k)) c.args.form) (sym is) c.requires.sum)))
