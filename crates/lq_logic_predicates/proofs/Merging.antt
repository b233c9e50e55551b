-- One coefficient of a form is changed.
use Rattle.std.proofs.Common.{◌≡◌, ℕ, ℤ, pos, Bool, true, false, Option, Some, None, cond, unwrap_or, ◌⊎◌, inl, inr, refl, sym, ap, ap₂, ◌∙◌, subst, FitsSigned, arith, to_z, of_z}
use Rattle.std.proofs.Math.IntN.{◌+ℤ◌, ◌-ℤ◌, ◌*ℤ◌}
use Rattle.std.proofs.lemmas.Int.{ints, to_z-of_z}
use Rattle.std.specs.Int.{w128}
use Rattle.std.specs.Option.{option_map}
use Rattle.std.specs.Ordering.{nat_cmp}
use Rattle.std.specs.BTreeMap.{BTreeMap, get, is_at}
use Rattle.std.proofs.lemmas.Bool.Decides.{nat_tests}
use Rattle.lq_logic_predicates.specs.FormOf.{at, AllFit, combined}

-- what a map has after a write or a removal at one key
abbrev pub Changes : BTreeMap ℕ ℤ → BTreeMap ℕ ℤ → ℕ → Option ℤ → Type 0
Changes m n k w = (q : ℕ) → get nat_cmp n q ≡ cond (is_at (nat_cmp k) q) w (get nat_cmp m q)

at_key : (k q : ℕ) → is_at (nat_cmp k) q ≡ true → k ≡ q
at_key k q h = grind (arith, nat_tests)

combined-zero : (subtract : Bool) (x : ℤ) → combined subtract x (pos 0) ≡ x
combined-zero true x = omega (arith, ints)
combined-zero false x = omega (arith, ints)

pub merge_step : (subtract : Bool) (into other new rest : BTreeMap ℕ ℤ) (k : ℕ) (c v : ℤ) (total : ℕ → ℤ)
    → get nat_cmp other k ≡ Some c → Changes other rest k None → Changes into new k (Some v) → v ≡ combined subtract (at into k) c
    → ((q : ℕ) → combined subtract (at into q) (at other q) ≡ total q)
    → (q : ℕ) → combined subtract (at new q) (at rest q) ≡ total q
merge_step subtract into other new rest k c v total has taken put is so_far q =
    ap₂ (λ x y. combined subtract (unwrap_or x (pos 0)) (unwrap_or y (pos 0))) (put q) (taken q) ∙ by (is_at (nat_cmp k) q) refl
  where
    by : (b : Bool) → is_at (nat_cmp k) q ≡ b
        → combined subtract (unwrap_or (cond b (Some v) (get nat_cmp into q)) (pos 0)) (unwrap_or (cond b None (get nat_cmp other q)) (pos 0)) ≡ total q
    by true h =
        combined-zero subtract v ∙ is ∙ ap (λ o. combined subtract (at into k) (unwrap_or o (pos 0))) (sym has) ∙ so_far k ∙ ap total (at_key k q h)
    by false h = so_far q

pub fit_step : (into new : BTreeMap ℕ ℤ) (k : ℕ) (v : ℤ) → Changes into new k (Some v) → FitsSigned w128 v → AllFit into → AllFit new
fit_step into new k v put fits all q = subst (λ o. FitsSigned w128 (unwrap_or o (pos 0))) (sym (put q)) (by (is_at (nat_cmp k) q))
  where
    by : (b : Bool) → FitsSigned w128 (unwrap_or (cond b (Some v) (get nat_cmp into q)) (pos 0))
    by true = fits
    by false = all q

abbrev pub Scaled : ℤ → Option ℤ → Option ℤ → Option ℤ → Type 0
Scaled n left all done = ((left ≡ all) × (done ≡ None)) ⊎ ((left ≡ None) × (done ≡ option_map (λ c. n *ℤ c) all))

pub scale_step : (n : ℤ) (all from into rest new : BTreeMap ℕ ℤ) (k : ℕ) (c v : ℤ)
    → get nat_cmp from k ≡ Some c → Changes from rest k None → Changes into new k (Some v) → v ≡ n *ℤ c
    → ((q : ℕ) → Scaled n (get nat_cmp from q) (get nat_cmp all q) (get nat_cmp into q))
    → (q : ℕ) → Scaled n (get nat_cmp rest q) (get nat_cmp all q) (get nat_cmp new q)
scale_step n all from into rest new k c v has taken put is so_far q =
    subst (λ o. Scaled n o (get nat_cmp all q) (get nat_cmp new q)) (sym (taken q))
    (subst (λ o. Scaled n (cond (is_at (nat_cmp k) q) None (get nat_cmp from q)) (get nat_cmp all q) o) (sym (put q)) (by (is_at (nat_cmp k) q) refl))
  where
    here : Scaled n (get nat_cmp from k) (get nat_cmp all k) (get nat_cmp into k) → Scaled n None (get nat_cmp all k) (Some v)
    here (inl h) = inr (refl, ap Some is ∙ ap (option_map (λ x. n *ℤ x)) (sym has ∙ h.0))
    here (inr h) = let clash : None ≡ Some c = sym h.0 ∙ has in cc

    by : (b : Bool) → is_at (nat_cmp k) q ≡ b → Scaled n (cond b None (get nat_cmp from q)) (get nat_cmp all q) (cond b (Some v) (get nat_cmp into q))
    by true h = subst (λ p. Scaled n None (get nat_cmp all p) (Some v)) (at_key k q h) (here (so_far k))
    by false h = so_far q

-- what was written, without the casts round it
pub put_plain : (into new : BTreeMap ℕ ℤ) (k : ℕ) (v : ℤ) → FitsSigned w128 v → Changes into new k (Some (to_z w128 (of_z w128 v))) → Changes into new k (Some v)
put_plain into new k v fits h = subst (λ x. Changes into new k (Some x)) (to_z-of_z w128 v fits) h

-- the arguments of a call, without the casts round them
pub plain_result : (subtract : Bool) (x y v : ℤ) → FitsSigned w128 x → FitsSigned w128 y
    → FitsSigned w128 (combined subtract (to_z w128 (of_z w128 x)) (to_z w128 (of_z w128 y))) → v ≡ combined subtract (to_z w128 (of_z w128 x)) (to_z w128 (of_z w128 y))
    → FitsSigned w128 v × (v ≡ combined subtract x y)
plain_result subtract x y v fx fy fits is =
    (subst (FitsSigned w128) (sym is) fits, is ∙ ap₂ (combined subtract) (to_z-of_z w128 x fx) (to_z-of_z w128 y fy))

pub plain_constant : (x y z v : ℤ) → FitsSigned w128 x → FitsSigned w128 y → FitsSigned w128 z
    → FitsSigned w128 (to_z w128 (of_z w128 x) -ℤ to_z w128 (of_z w128 y) +ℤ to_z w128 (of_z w128 z))
    → v ≡ to_z w128 (of_z w128 x) -ℤ to_z w128 (of_z w128 y) +ℤ to_z w128 (of_z w128 z)
    → FitsSigned w128 v × (v ≡ x -ℤ y +ℤ z)
plain_constant x y z v fx fy fz fits is = (
  subst (FitsSigned w128) (sym is) fits,
  is ∙ ap₂ (λ a b. a -ℤ b +ℤ to_z w128 (of_z w128 z)) (to_z-of_z w128 x fx) (to_z-of_z w128 y fy) ∙ ap (λ c. x -ℤ y +ℤ c) (to_z-of_z w128 z fz),
)
