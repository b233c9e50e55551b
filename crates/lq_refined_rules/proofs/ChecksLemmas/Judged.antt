-- A program that checks under every assignment, and one that checks under none.
use Rattle.std.proofs.Common.{◌≡◌, pos, Bool, true, false, refl, sym, ◌∙◌}
use Rattle.lq_base_numbers.specs.Rationals.Rational.{whole as rational}
use Rattle.lq_logic_predicates.specs.Points.{Point}
use Rattle.lq_refined_types.specs.Subtyping.Subtype.{sub, in_unit}
use Rattle.lq_refined_rules.specs.Checks.Checks.{obeys_fun, obeys_if, obeys_assert, against_last, gives_last, checks_none, checks_define}
use Rattle.lq_refined_rules.specs.Checks.JudgedExamples.{GuardedChecks, UnguardedFails}

differ : {b : Bool} → b ≡ true → b ≡ false → ⊥
differ e f = no (sym e ∙ f)
  where
    no : true ≡ false → ⊥
    no h = cc

no_term : false ≡ true → ⊥
no_term h = cc

pub guarded_checks : GuardedChecks
guarded_checks A =
    checks_define
    (gives_last
    (obeys_fun tt
    (against_last
    (obeys_if (against_last (obeys_assert (λ p is h n. differ h.0 n)) (λ e. sub tt in_unit))
    (against_last (obeys_assert (λ p is h n. differ n h.0)) (λ e. sub tt in_unit))) (λ e. absurd (no_flow e)))))
    (λ e. absurd (no_flow (sym e))) tt checks_none
  where
    no_flow : true ≡ false → ⊥
    no_flow h = cc

-- at which nothing holds
nowhere : Point
nowhere = record { number = λ s. rational (pos 0); holds = λ x. false; class_of = λ s. 0 }

pub unguarded_fails : UnguardedFails
unfolding nowhere
unguarded_fails A (checks_define (gives_last (obeys_fun n (against_last (obeys_assert h) s))) k m c) =
    h nowhere (λ s t e f. absurd (no_term e)) tt refl
