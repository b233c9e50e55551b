use Rattle.std.proofs.Common.{◌≡◌, ◌+◌, ◌*◌, ◌∙◌, ap, ap₂, sym, subst, true, false, not, arith}
use Rattle.lq_logic_predicates.specs.Formula.{truth, falsity, flag, objects, negation, conjunction, disjunction, equivalence}
use Rattle.lq_logic_predicates.specs.NnfView.{nnf_view, joined_reading}
use Rattle.lq_logic_predicates.specs.PredView.{formula_of}
use Rattle.lq_logic_predicates.specs.Reading.{reading_of, formula_numbered, Gathers}
use Rattle.lq_logic_predicates.specs.TableView.{terms_of}
use Rattle.lq_logic_predicates.specs.TermView.{sum_of}
use Rattle.lq_logic_predicates.specs.declared.nnf.Nnf as nnf
use Rattle.lq_logic_predicates.specs.Again.{formula_again}
use Rattle.lq_logic_predicates.specs.Growing.{Extends-same}
use Rattle.lq_logic_predicates.proofs.FormulaSizes.{connectives}
use Rattle.lq_logic_predicates.proofs.NnfViews.{view-flag, view-same}
use Rattle.lq_logic_predicates.proofs.Readings.{gathers_grown, truth_gathers, falsity_gathers, flag_gathers, objects_gathers, joined_gathers, equivalence_gathers}
use Rattle.lq_logic_predicates.proofs.tightening.+tighten.Goals as goal

pub tighten-returns-in-True-clause-reading : goal.tighten-returns-in-True-clause-reading
tighten-returns-in-True-clause-reading t c =
    subst (λ p. Gathers (terms_of c.args.table.now) (reading_of c.args.positive p) (nnf_view c.constant.result)) (sym (ap formula_of c.in-True.is))
    (subst (λ v. Gathers (terms_of c.args.table.now) (reading_of c.args.positive truth) v) (sym c.constant.ensures) (truth_gathers c.args.positive (terms_of c.args.table.now)))

pub tighten-returns-in-False-clause-reading : goal.tighten-returns-in-False-clause-reading
tighten-returns-in-False-clause-reading t c =
    subst (λ p. Gathers (terms_of c.args.table.now) (reading_of c.args.positive p) (nnf_view c.constant-in-False.result)) (sym (ap formula_of c.in-False.is))
    (subst (λ v. Gathers (terms_of c.args.table.now) (reading_of c.args.positive falsity) v) (sym c.constant-in-False.ensures) (falsity_gathers c.args.positive (terms_of c.args.table.now)))

pub tighten-returns-in-Flag-clause-reading : goal.tighten-returns-in-Flag-clause-reading
tighten-returns-in-Flag-clause-reading t c =
    subst (λ p. Gathers (terms_of c.args.table.now) (reading_of c.args.positive p) (nnf_view (nnf.Flag c.in-Flag.x c.args.positive))) (sym (ap formula_of c.in-Flag.is))
    (subst (λ v. Gathers (terms_of c.args.table.now) (reading_of c.args.positive (flag c.in-Flag.x)) v) (sym (view-flag c.in-Flag.x c.args.positive))
    (flag_gathers c.args.positive (terms_of c.args.table.now) c.in-Flag.x))

pub tighten-returns-in_ok-second-in-Same-clause-reading : goal.tighten-returns-in_ok-second-in-Same-clause-reading
tighten-returns-in_ok-second-in-Same-clause-reading t c =
    let a = sum_of c.in_ok-first-in-Same.first in let b = sum_of c.in_ok-second-in-Same.second in
    subst (λ p. Gathers (terms_of c.args.table.now) (reading_of c.args.positive p) (nnf_view (nnf.Same c.in_ok-first-in-Same.first c.in_ok-second-in-Same.second c.args.positive))) (ap₂ objects c.in_ok-first-in-Same.ensures c.in_ok-second-in-Same.ensures ∙ sym (ap formula_of c.in-Same.is))
    (subst (λ v. Gathers (terms_of c.args.table.now) (reading_of c.args.positive (objects a b)) v) (sym (view-same c.in_ok-first-in-Same.first c.in_ok-second-in-Same.second c.args.positive))
    (objects_gathers c.args.positive (terms_of c.args.table.now) a b))

pub tighten_both-returns-clause-reading : goal.tighten_both-returns-clause-reading
tighten_both-returns-clause-reading t c =
    let p = reading_of c.args.left_positive (formula_of c.args.left.now) in let q = reading_of c.args.right_positive (formula_of c.args.right.now) in
    let old = terms_of c.tighten.new.table in let all = terms_of c.tighten-2.new.table in
    let first = nnf_view c.in_ok-first.first in let second = nnf_view c.in_ok-second.second in
    subst (Gathers all (joined_reading c.args.all p q)) (sym c.in_ok-joined.ensures)
    (joined_gathers c.args.all all p q first second (gathers_grown old all c.in_ok-second.ensures.grows p first c.in_ok-first.ensures.reading) c.in_ok-second.ensures.reading)

pub tighten-returns-in_ok-joined-in-Iff-clause-numbered : goal.tighten-returns-in_ok-joined-in-Iff-clause-numbered
tighten-returns-in_ok-joined-in-Iff-clause-numbered t c =
    let p = formula_of c.deref-in-Iff.result.now in let q = formula_of c.deref-in-Iff-2.result.now in
    let same_p : formula_of c.deref-in-Iff-3.result.now ≡ p = ap formula_of (c.deref-in-Iff-3.ensures ∙ sym c.deref-in-Iff.ensures) in
    let same_q : formula_of c.deref-in-Iff-4.result.now ≡ q = ap formula_of (c.deref-in-Iff-4.ensures ∙ sym c.deref-in-Iff-2.ensures) in
    let start = terms_of c.args.table.now in let one = terms_of c.tighten_both-in-Iff.new.table in
    let is : equivalence p q ≡ formula_of c.args.pred.now = ap₂ equivalence (ap formula_of c.deref-in-Iff.ensures) (ap formula_of c.deref-in-Iff-2.ensures) ∙ sym (ap formula_of c.in-Iff.is) in
    c.in_ok-neither-in-Iff.ensures.numbered ∙ ap₂ (λ u v. formula_numbered (formula_numbered one u) v) same_p same_q
    ∙ formula_again start one (equivalence p q) (Extends-same _ _ c.in_ok-both-in-Iff.ensures.numbered)
    ∙ c.in_ok-both-in-Iff.ensures.numbered ∙ ap (formula_numbered start) is

pub tighten-returns-in_ok-joined-in-Iff-clause-reading : goal.tighten-returns-in_ok-joined-in-Iff-clause-reading
tighten-returns-in_ok-joined-in-Iff-clause-reading t c =
    let p = formula_of c.deref-in-Iff.result.now in let q = formula_of c.deref-in-Iff-2.result.now in
    let same_p : formula_of c.deref-in-Iff-3.result.now ≡ p = ap formula_of (c.deref-in-Iff-3.ensures ∙ sym c.deref-in-Iff.ensures) in
    let same_q : formula_of c.deref-in-Iff-4.result.now ≡ q = ap formula_of (c.deref-in-Iff-4.ensures ∙ sym c.deref-in-Iff-2.ensures) in
    let one = terms_of c.tighten_both-in-Iff.new.table in let all = terms_of c.tighten_both-in-Iff-2.new.table in
    let s = c.args.positive in
    let is : equivalence p q ≡ formula_of c.args.pred.now = ap₂ equivalence (ap formula_of c.deref-in-Iff.ensures) (ap formula_of c.deref-in-Iff-2.ensures) ∙ sym (ap formula_of c.in-Iff.is) in
    subst (λ r. Gathers all (reading_of s r) (nnf_view c.in_ok-joined-in-Iff.field-0)) is
    (subst (Gathers all (reading_of s (equivalence p q))) (sym c.in_ok-joined-in-Iff.ensures)
    (equivalence_gathers s all p q (nnf_view c.in_ok-both-in-Iff.both) (nnf_view c.in_ok-neither-in-Iff.neither)
    (gathers_grown one all c.in_ok-neither-in-Iff.ensures.grows (joined_reading true (reading_of true p) (reading_of s q)) (nnf_view c.in_ok-both-in-Iff.both) c.in_ok-both-in-Iff.ensures.reading)
    (subst (λ r. Gathers all r (nnf_view c.in_ok-neither-in-Iff.neither))
    (ap₂ (λ u v. joined_reading true (reading_of false u) (reading_of (not s) v)) same_p same_q) c.in_ok-neither-in-Iff.ensures.reading)))

pub tighten-tighten-requires : goal.tighten-tighten-requires
tighten-tighten-requires t c =
    let m : 2 * connectives (formula_of c.args.pred.now) ≡ t = c.decreases in
    let e : connectives (formula_of c.deref.result.now) + 1 ≡ connectives (formula_of c.args.pred.now) =
    ap connectives (ap negation (ap formula_of c.deref.ensures) ∙ sym (ap formula_of c.in-Not.is)) in
    (omega (arith, e, m), tt)

pub tighten-tighten_both-requires : goal.tighten-tighten_both-requires
tighten-tighten_both-requires t c =
    let m : 2 * connectives (formula_of c.args.pred.now) ≡ t = c.decreases in
    let e : connectives (formula_of c.deref-in-And.result.now) + connectives (formula_of c.deref-in-And-2.result.now) + 1 ≡ connectives (formula_of c.args.pred.now) =
    ap connectives (ap₂ conjunction (ap formula_of c.deref-in-And.ensures) (ap formula_of c.deref-in-And-2.ensures) ∙ sym (ap formula_of c.in-And.is)) in
    (omega (arith, e, m), tt)

pub tighten-tighten_both-requires-in-Or : goal.tighten-tighten_both-requires-in-Or
tighten-tighten_both-requires-in-Or t c =
    let m : 2 * connectives (formula_of c.args.pred.now) ≡ t = c.decreases in
    let e : connectives (formula_of c.deref-in-Or.result.now) + connectives (formula_of c.deref-in-Or-2.result.now) + 1 ≡ connectives (formula_of c.args.pred.now) =
    ap connectives (ap₂ disjunction (ap formula_of c.deref-in-Or.ensures) (ap formula_of c.deref-in-Or-2.ensures) ∙ sym (ap formula_of c.in-Or.is)) in
    (omega (arith, e, m), tt)

pub tighten-tighten_both-requires-in-Iff : goal.tighten-tighten_both-requires-in-Iff
tighten-tighten_both-requires-in-Iff t c =
    let m : 2 * connectives (formula_of c.args.pred.now) ≡ t = c.decreases in
    let e : connectives (formula_of c.deref-in-Iff.result.now) + connectives (formula_of c.deref-in-Iff-2.result.now) + 1 ≡ connectives (formula_of c.args.pred.now) =
    ap connectives (ap₂ equivalence (ap formula_of c.deref-in-Iff.ensures) (ap formula_of c.deref-in-Iff-2.ensures) ∙ sym (ap formula_of c.in-Iff.is)) in
    (omega (arith, e, m), tt)

pub tighten-tighten_both-requires-in-Iff-2 : goal.tighten-tighten_both-requires-in-Iff-2
tighten-tighten_both-requires-in-Iff-2 t c =
    let m : 2 * connectives (formula_of c.args.pred.now) ≡ t = c.decreases in
    let e : connectives (formula_of c.deref-in-Iff-3.result.now) + connectives (formula_of c.deref-in-Iff-4.result.now) + 1 ≡ connectives (formula_of c.args.pred.now) =
    ap connectives (ap₂ equivalence (ap formula_of c.deref-in-Iff-3.ensures) (ap formula_of c.deref-in-Iff-4.ensures) ∙ sym (ap formula_of c.in-Iff.is)) in
    (omega (arith, e, m), tt)
