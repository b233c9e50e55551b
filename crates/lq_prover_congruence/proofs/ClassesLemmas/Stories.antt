-- How the classes came to be what they are, entry by entry.
use Rattle.std.proofs.Common.{◌≡◌, ◌<◌, List, [], ◌∷◌, ◌++◌, length, refl, sym, ap, subst, arith, append-nil, append_assoc}
use Rattle.lq_prover_congruence.specs.Classes.Core.{Core, IsShaped}
use Rattle.lq_prover_congruence.specs.Classes.Standing.{step_of, steps_of, Does, Leads, ExactBefore, Story}
use Rattle.lq_prover_congruence.specs.declared.classes.steps.Step.{Step}
use Rattle.lq_prover_congruence.specs.declared.classes.steps.Entry.{Entry}
use Rattle.lq_prover_congruence.specs.declared.classes.steps.Entry.TheVariants.{Done, Joined, Filed}

-- the last of a list
pub snoc : (es : List Entry) → 0 < length es → (front : List Entry) × (e : Entry) × (es ≡ front ++ e ∷ [])
snoc [] h = absurd (omega arith)
snoc (x ∷ []) h = ([], x, refl)
snoc (x ∷ y ∷ es) h = let r = snoc (y ∷ es) (omega arith) in (x ∷ r.0, r.1, ap (λ l. x ∷ l) r.2)

pub entries-some : (es : List Entry) → 0 < length (steps_of es) → 0 < length es
entries-some [] h = absurd (omega arith)
entries-some (x ∷ es) h = omega arith

pub story-last : (ss : List Step) (xs : List Entry) (e : Entry) (o c : Core) → Story ss (xs ++ e ∷ []) o c → (m : Core) × Story ss xs o m × IsShaped m × Does e m c × ExactBefore e (ss ++ steps_of xs) m
story-last ss [] e o c h =
    let P : Core → Type 0 = λ x. Does e o x in
    let Q : List Step → Type 0 = λ l. ExactBefore e l o in
    (o, refl, h.1, subst P h.4 h.2, subst Q (sym (append-nil ss)) h.3)
story-last ss (x ∷ xs) e o c h =
    let r = story-last (ss ++ step_of x) xs e h.0 c h.4 in
    let Q : List Step → Type 0 = λ l. ExactBefore e l r.0 in
    (r.0, (h.0, h.1, h.2, h.3, r.1), r.2, r.3, subst Q (append_assoc ss (step_of x) (steps_of xs)) r.4)

pub story-done : (ss : List Step) (xs : List Entry) (e : Entry) (o m c : Core) → Story ss xs o m → IsShaped m → Does e m c → ExactBefore e (ss ++ steps_of xs) m → Story ss (xs ++ e ∷ []) o c
story-done ss [] e o m c h k d x =
    let P : Core → Type 0 = λ y. IsShaped y in
    let Q : Core → Type 0 = λ y. Does e y c in
    let R : Core → Type 0 = λ y. ExactBefore e (ss ++ []) y in
    let S : List Step → Type 0 = λ l. ExactBefore e l o in
    (c, subst P (sym h) k, subst Q (sym h) d, subst S (append-nil ss) (subst R (sym h) x), refl)
story-done ss (y ∷ xs) e o m c h k d x =
    let Q : List Step → Type 0 = λ l. ExactBefore e l m in
    (h.0, h.1, h.2, h.3, story-done (ss ++ step_of y) xs e h.0 m c h.4 k d (subst Q (sym (append_assoc ss (step_of y) (steps_of xs))) x))

leads-story : (ss : List Step) (es : List Entry) (o c : Core) → Leads es o c → steps_of es ≡ [] → Story ss es o c
leads-story ss [] o c h e = h
leads-story ss (Done s ∷ es) o c h e = absurd (let z = ap length e in omega arith)
leads-story ss (Joined k m ∷ es) o c h e = (h.0, h.1, h.2, tt, leads-story (ss ++ []) es h.0 c h.3 e)
leads-story ss (Filed ∷ es) o c h e = (h.0, h.1, h.2, tt, leads-story (ss ++ []) es h.0 c h.3 e)

pub story-leads : (ss : List Step) (xs es : List Entry) (o m c : Core) → Story ss xs o m → Leads es m c → steps_of es ≡ [] → Story ss (xs ++ es) o c
story-leads ss [] es o m c h l e = let P : Core → Type 0 = λ x. Story ss es x c in subst P (sym h) (leads-story ss es m c l e)
story-leads ss (x ∷ xs) es o m c h l e = (h.0, h.1, h.2, h.3, story-leads (ss ++ step_of x) xs es h.0 m c h.4 l e)
