use Rattle.std.proofs.Common.{◌≢◌, ℕ, ◌<◌, inr, sym, subst, arith, length}
use Rattle.lq_logic_rows.specs.Difference.{TermsBelow}
use Rattle.lq_prover_simplex.specs.Systems.{System, form_at}
use Rattle.lq_prover_simplex.specs.Appearing.{IsFurther}
use Rattle.lq_prover_simplex.proofs.Forms.{terms_below}
use Rattle.lq_prover_simplex.proofs.basis.Basis.variable.Goals as goal

pub line_of-requires-clause-below : goal.line_of-requires-clause-below
line_of-requires-clause-below c =
    let b : TermsBelow c.self.inside.terms c.args.form = subst (λ (t : System). TermsBelow t.terms c.args.form) (sym c.self.view_is) c.requires.below in
    rw (c.deref-2.ensures.value, c.parts-2.ensures)
    (terms_below c.self.inside.terms (length c.self.inside.lines.items) c.args.form b (let e = c.self.invariant.are_lines.same in let h = c.self.invariant.are_forms.terms_in in omega arith))

pub form_value-requires : goal.form_value-requires
form_value-requires c =
    let b : TermsBelow c.self.inside.terms c.args.form = subst (λ (t : System). TermsBelow t.terms c.args.form) (sym c.self.view_is) c.requires.below in
    rw (c.deref-3.ensures.value, c.parts-3.ensures)
    (terms_below c.self.inside.terms (length c.self.inside.values.items) c.args.form b (let e = c.self.invariant.valued in let h = c.self.invariant.are_forms.terms_in in omega arith))

pub returns-clause-extended : goal.returns-clause-extended
returns-clause-extended c =
    let s : System = record { terms = c.self.inside.terms; forms = c.self.inside.forms.items; lines = c.self.inside.lines.items; values = c.self.inside.values.items } in
    let absent : (k : ℕ) → k < length s.forms → form_at s.forms k ≢ c.args.form = rw (sym c.deref.ensures.value, sym c.parts.ensures) c.in_default.ensures.none in
    inr (c.in_ok-add.ensures.added, subst (λ (t : System). IsFurther t.forms c.args.form) c.self.view_is (λ k h. (c.self.invariant.are_forms.normal k h, absent k h)))
