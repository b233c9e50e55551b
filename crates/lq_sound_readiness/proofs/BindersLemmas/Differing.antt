-- Numbers that each stand in a list at most once all differ.
use Rattle.std.proofs.Common.{◌≡◌, ℕ, ◌≤◌, Bool, true, false, ◌==◌, cond, List, [], ◌∷◌, length, refl, ap, subst, sym, arith}
use Rattle.std.proofs.lemmas.Bool.Decides.{Decides-eqb}
use Rattle.lq_meaning_normal_form.specs.Binders.Counting.{once, times}
use Rattle.lq_refined_rules.specs.Checks.Binders.{AllDiffer, IsNotIn, binders}
use Rattle.lq_sound_readiness.specs.NormalScope.Laws.{NormalFormsBindOnce}
use Rattle.lq_meaning_normal_form.specs.Types.Programs.{normal_items}
use Rattle.lq_refined_templates.specs.Points.Reading.{program_of}
use Rattle.lq_sound_readiness.specs.Binders.Laws.{BindersOfNormalFormsDiffer, ReadBindsTheSame}

once_same : (x : ℕ) → once x x ≡ 1
once_same x = ap (λ b. cond b 1 0) ((Decides-eqb x x).1 refl)

-- a number that stands nowhere in a list differs from each
not_in : (x : ℕ) (ys : List ℕ) → times x ys ≡ 0 → IsNotIn ys x
not_in x [] e = tt
not_in x (y ∷ ys) e = by_test (not_in x ys (omega (arith, e))) (y == x) refl
  where
    by_test : IsNotIn ys x → (b : Bool) → (y == x) ≡ b → IsNotIn (y ∷ ys) x
    by_test rest true f = absurd (let is : once x y ≡ 1 = ap (λ b. cond b 1 0) f in omega (arith, e, is))
    by_test rest false f = (f, rest)

all_differ : (xs : List ℕ) → ((x : ℕ) → times x xs ≤ 1) → AllDiffer xs
all_differ [] h = tt
all_differ (y ∷ ys) h =
    let own = h y in let same = once_same y in (not_in y ys (omega (arith, own, same)), all_differ ys (λ x. let most = h x in omega (arith, most)))

pub binders_differ : ReadBindsTheSame → NormalFormsBindOnce → BindersOfNormalFormsDiffer
binders_differ reads once s scoped plain normal n =
    let is = normal_items (length s.sources) s.items in
    all_differ (binders (program_of n is).read) (λ x. subst (λ (m : ℕ). m ≤ 1) (sym (reads n is normal x)) (once s scoped plain x))
