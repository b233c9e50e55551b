use Rattle.std.proofs.Common.{◌≡◌, ◌∙◌, ◌++◌, ◌∷◌, [], rules, sym, ap, subst, Err, IfErr}
use Rattle.lq_logic_rows.specs.Row.{Row}
use Rattle.lq_prover_simplex.specs.Standing.{standing_of, ReadsBy}
use Rattle.lq_prover_simplex.proofs.Tables.{standing_push, read_on, read_push, apart_push}
use Rattle.lq_prover_simplex.proofs.Resting.{among_push, rests_on}
use Rattle.lq_prover_simplex.proofs.Appearing.{appear_row}
use Rattle.lq_prover_simplex.specs.Table.{StopsReading}
use Rattle.lq_prover_simplex.proofs.Extending.{reading_work}
use Rattle.lq_prover_simplex.proofs.tableau.stand.Goals as goal

pub returns-clause-added : goal.returns-clause-added
returns-clause-added c = ap standing_of (c.push_reserved.ensures.items ∙ ap (λ l. l ++ (record { tag = c.args.tag; row = c.in_ok-copied.copied; bound = c.in_ok-bound.bound }) ∷ []) c.reserve.ensures.items) ∙ standing_push c.args.rows.now.items _ ∙ ap (λ (r : Row). standing_of c.args.rows.now.items ++ (c.args.tag, r) ∷ []) c.in_ok-copied.ensures

pub returns-clause-read : goal.returns-clause-read
returns-clause-read c =
    rw (c.push_reserved.ensures.items, c.reserve.ensures.items)
    (read_push c.read.new.basis.forms c.args.rows.now.items (record { tag = c.args.tag; row = c.in_ok-copied.copied; bound = c.in_ok-bound.bound })
    (read_on c.args.basis.now.forms c.read.new.basis.forms c.args.rows.now.items c.read.ensures.forms c.requires.read)
    (subst (λ (r : Row). ReadsBy c.read.new.basis.forms r c.in_ok-bound.bound) (sym c.in_ok-copied.ensures) c.in_ok-bound.ensures.reads))

pub returns-clause-apart : goal.returns-clause-apart
returns-clause-apart c =
    rw (c.push_reserved.ensures.items, c.reserve.ensures.items)
    (apart_push c.args.rows.now.items (record { tag = c.args.tag; row = c.in_ok-copied.copied; bound = c.in_ok-bound.bound }) c.requires.apart c.requires.fresh)

pub returns-clause-among : goal.returns-clause-among
returns-clause-among c = λ ever among. rw (c.push_reserved.ensures.items, c.reserve.ensures.items)
    (among_push ever c.args.rows.now.items (record { tag = c.args.tag; row = c.in_ok-copied.copied; bound = c.in_ok-bound.bound }) c.args.row.now c.in_ok-copied.ensures among)

pub returns-clause-rests : goal.returns-clause-rests
returns-clause-rests c = λ ever rests. rests_on ever c.args.basis.now c.read.new.basis c.read.ensures.stays c.read.ensures.forms rests

pub returns-clause-forms : goal.returns-clause-forms
returns-clause-forms c = λ ever a.
    rw c.in_ok-bound.ensures.terms
    (appear_row ever c.args.basis.now.terms c.args.basis.now.forms c.read.new.basis.forms c.args.row.now c.in_ok-bound.bound c.in_ok-bound.ensures.grown c.in_ok-bound.ensures.reads a)

pub returns-in_err-bound-clause-stop : goal.returns-in_err-bound-clause-stop
returns-in_err-bound-clause-stop c =
    let s = c.args.basis.now in let row = c.args.row.now in
    let e = c.in_err-bound.field-0.0 in
    let was : c.from_residual-in_err-bound.result ≡ Err e = search rules in
    subst (λ r. IfErr r (StopsReading s row)) (sym was) (reading_work s row e c.in_err-bound.ensures.stop)
