use Rattle.std.proofs.Common.{◌≡◌, ℕ, zero, suc, ◌<◌, length, inl, inr, arith, rules, refl, ◌∙◌, sym, ap, subst, slice_get, List, Some, None, Err, IfErr}
use Rattle.std.proofs.lemmas.Result.{IfOk-weaker, IfErr-weaker}
use Rattle.lq_logic_rows.specs.Forms.{Parts}
use Rattle.lq_prover_simplex.specs.declared.line.Entry.{Entry}
use Rattle.lq_prover_simplex.specs.Conflicts.{IsKept}
use Rattle.lq_prover_simplex.specs.Systems.{System}
use Rattle.lq_prover_simplex.specs.Standing.{AllRead, AllBare}
use Rattle.lq_prover_simplex.proofs.Tables.{crossed_kept, all_solved, none_weaker}
use Rattle.lq_prover_simplex.proofs.Resting.{rests_settled}
use Rattle.lq_prover_simplex.proofs.Chaining.{settled_cause, explained_cause}
use Rattle.lq_base_numbers.specs.Fractions.Value.{value_of}
use Rattle.lq_base_numbers.specs.declared.fractions.frac.Frac.{Frac}
use Rattle.lq_prover_pivots.specs.Work.Work.{IsOneOrEntry}
use Rattle.lq_prover_simplex.specs.WholeLines.{only}
use Rattle.lq_prover_simplex.specs.Table.{HasCause}
use Rattle.lq_prover_simplex.proofs.Bounding.{variables_of}
use Rattle.lq_prover_simplex.proofs.Configuring.{configuration_of}
use Rattle.lq_prover_simplex.proofs.tableau.decide.Goals as goal

pub explain-requires : goal.explain-requires
explain-requires c =
    let e = c.in-Some-crossed.ensures.some in
    subst (λ (es : List Entry). IsKept c.args.rows.now c.args.limits.now c.in-Some-crossed.broken es) (sym c.in_ok-own.ensures)
    (crossed_kept c.args.basis.now.forms c.args.rows.now c.args.limits.now c.in-Some-crossed.broken c.whole.result e.0 c.requires.read c.requires.apart c.requires.tightest.given
    c.whole.ensures.value e.1 e.2 e.3)

pub returns-clause-solved : goal.returns-clause-solved
returns-clause-solved c =
    let rows = c.args.rows.now in let s : System = c.pivots.new.basis in
    let bare : AllBare rows = rw c.in_default.is at c.in_ok-found.ensures.none in
    let forms : s.forms ≡ c.args.basis.now.forms = c.pivots.ensures.forms ∙ c.in_ok-settle.ensures.forms in
    let read : AllRead s.forms rows = subst (λ (f : List Parts). AllRead f rows) (sym forms) c.requires.read in
    IfOk-weaker c.pivots.result _ _ (λ found. none_weaker found (λ all. all_solved s rows c.args.limits.now read bare c.requires.tightest all)) c.pivots.ensures.solved

pub returns-in_err-settle-clause-rests : goal.returns-in_err-settle-clause-rests
returns-in_err-settle-clause-rests c = λ ever among rests.
    let rows = c.args.rows.now in let limits = c.args.limits.now in
    rests_settled ever rows limits c.args.basis.now c.settle.new.basis c.requires.read c.requires.tightest.given
    c.in_err-settle.ensures.forms c.in_err-settle.ensures.settles among rests

pub returns-clause-rests : goal.returns-clause-rests
returns-clause-rests c = λ ever among rests.
    let rows = c.args.rows.now in let limits = c.args.limits.now in
    let given = c.requires.tightest.given in
    let forms = c.in_ok-settle.ensures.forms in
    rests_settled ever rows limits c.settle.new.basis c.pivots.new.basis (subst (λ (f : List Parts). AllRead f rows) (sym forms) c.requires.read) given
    c.pivots.ensures.forms c.pivots.ensures.settles among
    (rests_settled ever rows limits c.args.basis.now c.settle.new.basis c.requires.read given forms c.in_ok-settle.ensures.settles among rests)

pub settle-requires : goal.settle-requires
settle-requires c k h = c.in_default-crossed.ensures.none k (let n = c.len.ensures.count in omega arith)

pub pivots-requires-clause-uncrossed : goal.pivots-requires-clause-uncrossed
pivots-requires-clause-uncrossed c k h =
    c.in_default-crossed.ensures.none k (rw c.len.ensures.count (subst (λ (f : List Parts). k < length f) c.in_ok-settle.ensures.forms h))

pub returns-clause-stop : goal.returns-clause-stop
returns-clause-stop c =
    let rows = c.args.rows.now in let s : System = c.settle.new.basis in
    IfErr-weaker c.pivots.result _ _
    (λ stop cause. settled_cause c.args.basis.now s rows c.args.limits.now c.args.limit stop c.requires.read c.requires.tightest c.in_ok-settle.ensures.terms c.in_ok-settle.ensures.forms
    c.in_ok-settle.ensures.settles cause) c.pivots.ensures.stop

-- the one entry of a variable alone
only_entry : (variable : ℕ) (one : Frac) (k : ℕ) (f : Entry) → slice_get (only variable one) k ≡ Some f → f.factor ≡ one
only_entry variable one zero f h = let q : (record { variable = variable; factor = one }) ≡ f = cc in ap (λ (g : Entry). g.factor) (sym q)
only_entry variable one (suc k) f h = absurd (let q : None ≡ Some f = h in cc)

pub returns-in_err-explain-clause-stop : goal.returns-in_err-explain-clause-stop
returns-in_err-explain-clause-stop c =
    let s = c.args.basis.now in let rows = c.args.rows.now in
    let line : List Entry = c.in_ok-own.own in
    let e = c.in_err-explain.field-0.0 in
    let was : c.from_residual-in_err-explain.result ≡ Err e = search rules in
    let entries : (k : ℕ) (f : Entry) → slice_get line k ≡ Some f → IsOneOrEntry (variables_of s) (configuration_of s) (value_of f.factor) =
    (λ k f there.
    inl
    (ap value_of (only_entry c.in-Some-crossed.broken.variable c.whole.result k f (subst (λ (es : List Entry). slice_get es k ≡ Some f) c.in_ok-own.ensures there))
    ∙ c.whole.ensures.value)) in
    subst (λ r. IfErr r (HasCause s rows c.args.limit)) (sym was)
    (explained_cause s s rows c.args.limits.now c.args.limit line e c.requires.read c.requires.tightest refl refl (λ j f. inr (f, refl)) c.len.ensures.system entries
    c.in_err-explain.ensures.stop)
