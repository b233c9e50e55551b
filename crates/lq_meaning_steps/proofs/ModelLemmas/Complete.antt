-- What an expression comes to by its steps, it means.
use Rattle.std.proofs.Common.{◌≡◌, ℕ, suc, ◌≤◌, ◌<◌, Some, None, ◌⊎◌, inl, inr, ⊎_elim, refl, ap, subst, ◌∙◌, arith}
use Rattle.lq_meaning_steps.specs.Model.Core.{Core, close}
use Rattle.lq_meaning_steps.specs.Model.Operations.{World}
use Rattle.lq_meaning_steps.specs.Model.Step.{goes, faults, ends, Step}
use Rattle.lq_meaning_steps.specs.Model.StepFunction.{step}
use Rattle.lq_meaning_steps.specs.Model.Meaning.{Answer, comes, fails, runs_out, too_deep, gets_stuck, meaning}
use Rattle.lq_meaning_steps.specs.Model.Adequacy.{Steps, here, onward, Does, end_by, end_of, IsComplete}
use Rattle.lq_meaning_steps.proofs.ModelLemmas.Rows.{step_from}
use Rattle.lq_meaning_steps.proofs.ModelLemmas.Adequate.{no_value, no_step, adequate}

-- an expression that goes on has come to nothing
going : (e d : Core) (w u : World) → Step e w (goes d u) → end_of e w ≡ None
going e d w u s = ap (λ o. end_by o (step e w) w) (no_value e w (goes d u) s) ∙ ap (λ o. end_by None o w) (step_from e w (goes d u) s)

record Onward (m : ℕ) (e c : Core) (w t : World) : Type 0 where
  count : ℕ
  is_one_more : m ≡ suc count
  next : Core
  world : World
  step : Step e w (goes next world)
  steps : Steps count next world c t

-- no step, or a first one
begins : (m : ℕ) (e c : Core) (w t : World) → Steps m e w c t → ((e ≡ c) × (w ≡ t) × (m ≡ 0)) ⊎ Onward m e c w t
begins _ _ _ _ _ (here e w) = inl (refl, refl, refl)
begins _ _ _ _ _ (onward k e d c w u t s p) = inr (record { count = k; is_one_more = refl; next = d; world = u; step = s; steps = p })

-- after the same first step
same_next : (k m : ℕ) (e d x c : Core) (w u y t : World) → Step e w (goes d u) → Step e w (goes x y) → Steps m x y c t → Steps m d u c t
same_next k m e d x c w u y t s r q =
    let g : goes x y ≡ goes d u = cc (step_from e w (goes d u) s, step_from e w (goes x y) r) in
    let h : x ≡ d = cc in let j : y ≡ u = cc in subst (λ z. Steps m z u c t) h (subst (λ z. Steps m x z c t) j q)

-- two runs of one expression that have come to something have come to the same
same_end : (k m : ℕ) (e d c : Core) (w u t : World) (a b : Answer) → Steps k e w d u → end_of d u ≡ Some a → Steps m e w c t → end_of c t ≡ Some b → a ≡ b
same_end _ m _ _ c _ _ t a b (here e w) h q g =
    ⊎_elim (λ z. let y = z.0 in let x = z.1 in cc) (λ o. let n = going e o.next w o.world o.step in cc) (begins m e c w t q)
same_end _ m _ _ c _ _ t a b (onward k e d x w u y s p) h q g =
    ⊎_elim (λ z. let y = z.0 in let x = z.1 in let n = going e d w u s in cc)
    (λ o. same_end k o.count d x c u y t a b p h (same_next k o.count e d o.next c w u o.world t s o.step o.steps) g) (begins m e c w t q)

-- a run is no longer than one that has come to something
not_longer : (k m : ℕ) (e d c : Core) (w u t : World) (a : Answer) → Steps k e w d u → end_of d u ≡ Some a → Steps m e w c t → m ≤ k
not_longer _ m _ _ c _ _ t a (here e w) h q =
    ⊎_elim (λ z. let y = z.2 in omega (arith, y)) (λ o. let n = going e o.next w o.world o.step in absurd (cc (n, h))) (begins m e c w t q)
not_longer _ m _ _ c _ _ t a (onward k e d x w u y s p) h q =
    ⊎_elim (λ z. let y = z.2 in omega (arith, y))
    (λ o. let le = not_longer k o.count d x c u y t a p h (same_next k o.count e d o.next c w u o.world t s o.step o.steps) in let more = o.is_one_more in omega (arith, le, more))
    (begins m e c w t q)

some_end : (n k : ℕ) (e d : Core) (w u : World) (a b : Answer) → k < n → Steps k e w d u → end_of d u ≡ Some a → Does n e w b → b ≡ a
some_end n k e d w u a (comes v t) lt p h does =
    same_end does.0 k e does.1 d w t u (comes v t) a does.2 (ap (λ o. end_by o (step does.1 t) t) does.3) p h
some_end n k e d w u a (fails f x t) lt p h does =
    same_end does.0 k e does.1 d w t u (fails f x t) a does.2
    (ap (λ o. end_by o (step does.1 t) t) (no_value does.1 t (faults f x) does.3) ∙ ap (λ o. end_by None o t) (step_from does.1 t (faults f x) does.3)) p h
some_end n k e d w u a (runs_out x t) lt p h does =
    same_end does.0 k e does.1 d w t u (runs_out x t) a does.2
    (ap (λ o. end_by o (step does.1 t) t) (no_value does.1 t (ends x) does.3) ∙ ap (λ o. end_by None o t) (step_from does.1 t (ends x) does.3)) p h
some_end n k e d w u a (gets_stuck t) lt p h does =
    same_end does.0 k e does.1 d w t u (gets_stuck t) a does.2
    (ap (λ o. end_by o (step does.1 t) t) does.3.0 ∙ ap (λ o. end_by None o t) (no_step does.1 t does.3.1)) p h
some_end n k e d w u a (too_deep t) lt p h does =
    let le = not_longer k does.0 e d does.1 w u t a p h does.2 in let many = does.3 in absurd (omega (arith, le, many, lt))

pub complete : IsComplete
complete n k e d env w u a lt p h = some_end n k (close env e) d w u a (meaning n e env w) lt p h (adequate n e env w)
