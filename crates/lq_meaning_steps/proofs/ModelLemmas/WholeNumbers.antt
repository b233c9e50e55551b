-- Arithmetic in the meaning is that of whole numbers.
use Rattle.std.proofs.Common.{◌≡◌, ◌≢◌, zero, suc, ◌<◌, Bool, true, false, if◌then◌else◌, List, [], ◌∷◌, Some, refl, arith, unsigned_abs, int_div, int_rem}
use Rattle.std.proofs.Math.IntN.{ℤ, pos, negsuc}
use Rattle.std.specs.Prelude.{◌≤ℤ◌}
use Rattle.std.specs.Ordering.{int_eq}
use Rattle.std.proofs.lemmas.Bool.Decides.{Decides-int_eq}
use Rattle.std.proofs.Math.Nat.{mod-le}
use Rattle.std.proofs.lemmas.Int.{quot-rem, rem_below, ints}
use Rattle.lq_base_names.specs.declared.place.Place.{Place}
use Rattle.lq_meaning_steps.specs.declared.model.fault.FaultKind.TheVariants.{ZeroDivisor}
use Rattle.lq_meaning_steps.specs.Model.Core.{empty, v_whole, print}
use Rattle.lq_meaning_steps.specs.Model.Operations as act
use Rattle.lq_meaning_steps.specs.Model.Operations.{World}
use Rattle.lq_meaning_steps.specs.Model.Step.{done, in_one, within}
use Rattle.lq_meaning_steps.specs.Model.Program.{finished, item_next, after_turn, outcome_from}
use Rattle.lq_meaning_steps.specs.Model.Numbers.{HaveNoBound, DividesTowardZero}

pub have_no_bound : HaveNoBound
have_no_bound m n p input = ((3, refl), (4, refl), (4, refl), (4, refl), (4, refl), (4, refl))

-- one of two acts, printed
print_if : (b : Bool) (p : Place) (q : ℤ) (input : List ℤ) → b ≡ false
    → (let w : World = record { arrays = []; input = input; output = [] } in
    after_turn (item_next empty [] (Some (within (in_one print) (done (if b then act.faults ZeroDivisor p else act.gives (v_whole q) w))))) w (outcome_from 3)
    ≡ record { ending = finished; output = q ∷ [] })
print_if true p q input h = cc
print_if false p q input h = refl

not_zero : (n : ℤ) → n ≢ pos 0 → int_eq n (pos 0) ≡ false
not_zero n h = by (int_eq n (pos 0)) refl
  where
    by : (b : Bool) → int_eq n (pos 0) ≡ b → b ≡ false
    by false e = refl
    by true e = absurd (h ((Decides-int_eq n (pos 0)).0 e))

size_above : (n : ℤ) → n ≢ pos 0 → 0 < unsigned_abs n
size_above (pos zero) h = absurd (h refl)
size_above (pos (suc k)) h = omega arith
size_above (negsuc k) h = omega arith

rest_up : (m n : ℤ) → pos 0 ≤ℤ m → pos 0 ≤ℤ int_rem m n
rest_up (pos a) n h = omega (arith, ints)
rest_up (negsuc a) n h = absurd (h.le)

rest_down : (m n : ℤ) → m ≤ℤ pos 0 → int_rem m n ≤ℤ pos 0
rest_down (pos a) n h = let k = mod-le a (unsigned_abs n) in omega (arith, ints, k, h)
rest_down (negsuc a) n h = omega (arith, ints)

pub divides_toward_zero : DividesTowardZero
divides_toward_zero m n p input h =
    let e = not_zero n h in (
      int_div m n,
      int_rem m n,
      (4, print_if (int_eq n (pos 0)) p (int_div m n) input e),
      (4, print_if (int_eq n (pos 0)) p (int_rem m n) input e),
      (quot-rem m n, rem_below m n (size_above n h), rest_up m n, rest_down m n),
    )
