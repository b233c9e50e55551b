use Rattle.std.proofs.Common.{sym, subst, All, true, false}
use Rattle.lq_prover_proof_tree.specs.Literals.LeafView.{signs_of}
use Rattle.lq_prover_proof_tree.proofs.LiteralsLemmas.Fits.{fit, past_of, fits_of, past_of_two, fits_of_two}
use Rattle.lq_logic_predicates.specs.Comparison.{CanGather}
use Rattle.lq_logic_predicates.specs.Literals.{literals_of}
use Rattle.lq_logic_predicates.specs.PredView.{formula_of}
use Rattle.lq_logic_predicates.specs.Reading.{reading_of, AllFitIn}
use Rattle.lq_prover_proof_tree.proofs.literals.ungathered.is_leaf_past.Goals as goal

pub returns-in-Positive-clause-past : goal.returns-in-Positive-clause-past
returns-in-Positive-clause-past c =
    let p = formula_of c.args.leaf.now.pred.now in
    past_of c.is_past.result (AllFitIn (reading_of true p)) (All CanGather (literals_of (signs_of c.args.leaf.now.polarity) p))
    (λ all. (fit p).as_true.0 (subst (λ x. All CanGather (literals_of (signs_of x) p)) c.in-Positive.is all)) c.is_past.ensures.past

pub returns-in-Positive-clause-fits : goal.returns-in-Positive-clause-fits
returns-in-Positive-clause-fits c =
    let p = formula_of c.args.leaf.now.pred.now in
    fits_of c.is_past.result (AllFitIn (reading_of true p)) (All CanGather (literals_of (signs_of c.args.leaf.now.polarity) p))
    (λ h. subst (λ x. All CanGather (literals_of (signs_of x) p)) (sym c.in-Positive.is) ((fit p).as_true.1 h)) c.is_past.ensures.fits

pub returns-in-Negative-clause-past : goal.returns-in-Negative-clause-past
returns-in-Negative-clause-past c =
    let p = formula_of c.args.leaf.now.pred.now in
    past_of c.is_past-in-Negative.result (AllFitIn (reading_of false p)) (All CanGather (literals_of (signs_of c.args.leaf.now.polarity) p))
    (λ all. (fit p).as_false.0 (subst (λ x. All CanGather (literals_of (signs_of x) p)) c.in-Negative.is all)) c.is_past-in-Negative.ensures.past

pub returns-in-Negative-clause-fits : goal.returns-in-Negative-clause-fits
returns-in-Negative-clause-fits c =
    let p = formula_of c.args.leaf.now.pred.now in
    fits_of c.is_past-in-Negative.result (AllFitIn (reading_of false p)) (All CanGather (literals_of (signs_of c.args.leaf.now.polarity) p))
    (λ h. subst (λ x. All CanGather (literals_of (signs_of x) p)) (sym c.in-Negative.is) ((fit p).as_false.1 h)) c.is_past-in-Negative.ensures.fits

pub returns-in-Both-clause-past : goal.returns-in-Both-clause-past
returns-in-Both-clause-past c =
    let p = formula_of c.args.leaf.now.pred.now in
    past_of_two c.is_either_past.result (AllFitIn (reading_of true p)) (AllFitIn (reading_of false p)) (All CanGather (literals_of (signs_of c.args.leaf.now.polarity) p))
    (λ all. (fit p).as_both.0 (subst (λ x. All CanGather (literals_of (signs_of x) p)) c.in-Both.is all)) c.is_either_past.ensures.past

pub returns-in-Both-clause-fits : goal.returns-in-Both-clause-fits
returns-in-Both-clause-fits c =
    let p = formula_of c.args.leaf.now.pred.now in
    fits_of_two c.is_either_past.result (AllFitIn (reading_of true p)) (AllFitIn (reading_of false p)) (All CanGather (literals_of (signs_of c.args.leaf.now.polarity) p))
    (λ h. subst (λ x. All CanGather (literals_of (signs_of x) p)) (sym c.in-Both.is) ((fit p).as_both.1 h)) c.is_either_past.ensures.as_true c.is_either_past.ensures.as_false
