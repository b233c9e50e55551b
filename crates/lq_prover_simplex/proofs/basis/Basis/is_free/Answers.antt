use Rattle.std.proofs.Common.{◌<◌, ◌∙◌, sym, ap, subst, length, arith, []}
use Rattle.lq_prover_simplex.specs.Lines.{owns}
use Rattle.lq_prover_simplex.specs.Systems.{System, IsFree}
use Rattle.lq_prover_simplex.proofs.Values.{element}
use Rattle.lq_prover_simplex.proofs.Keeping.{owns_free, free_owns}
use Rattle.lq_prover_simplex.proofs.basis.Basis.is_free.Goals as goal

pub returns-clause-yes : goal.returns-clause-yes
returns-clause-yes c = λ yes.
    let s : System = record { terms = c.self.inside.terms; forms = c.self.inside.forms.items; lines = c.self.inside.lines.items; values = c.self.inside.values.items } in
    let inside : c.args.variable < length s.forms = rw (sym c.self.view_is) at c.requires in
    let within : c.args.variable < length s.lines = (let e = c.self.invariant.are_lines.same in omega arith) in
    let line = sym (element s.lines c.args.variable c.index.result.now [] within c.index.ensures) in
    subst (λ (t : System). IsFree t.lines c.args.variable) c.self.view_is
    (owns_free s.forms s.lines c.args.variable c.self.invariant.are_lines (ap (λ es. owns es c.args.variable) (sym line) ∙ sym c.owns.ensures ∙ yes))

pub returns-clause-no : goal.returns-clause-no
returns-clause-no c = λ free.
    let s : System = record { terms = c.self.inside.terms; forms = c.self.inside.forms.items; lines = c.self.inside.lines.items; values = c.self.inside.values.items } in
    let inside : c.args.variable < length s.forms = rw (sym c.self.view_is) at c.requires in
    let within : c.args.variable < length s.lines = (let e = c.self.invariant.are_lines.same in omega arith) in
    let line = sym (element s.lines c.args.variable c.index.result.now [] within c.index.ensures) in
    c.owns.ensures ∙ ap (λ es. owns es c.args.variable) line
    ∙ free_owns s.forms s.lines c.args.variable c.self.invariant.are_lines (subst (λ (t : System). IsFree t.lines c.args.variable) (sym c.self.view_is) free)
