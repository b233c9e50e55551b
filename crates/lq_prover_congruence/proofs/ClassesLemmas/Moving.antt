-- What terms that are joined and filed keep.
use Rattle.std.proofs.Common.{◌≡◌, ◌≢◌, ◌⊎◌, inl, inr, ℕ, zero, suc, ◌+◌, ◌<◌, ◌≤◌, cond, eqb, List, [], ◌∷◌, ◌++◌, length, get_or, Option, Some, IfSome, refl, sym, ap, ap₂, ◌∙◌, subst, arith, append-nil, append_assoc}
use Rattle.std.proofs.lemmas.Bool.{cases_eq}
use Rattle.std.proofs.lemmas.Grind.{get_or_default_zero}
use Rattle.std.proofs.lemmas.Bool.Decides.{nat_tests}
use Rattle.lq_prover_congruence.specs.Ring.Ring.{times}
use Rattle.lq_prover_congruence.specs.Classes.Terms.{Term, find_in, term_in}
use Rattle.lq_prover_congruence.specs.Classes.Steps.{IsSame, turned, onward}
use Rattle.lq_prover_congruence.specs.Classes.Core.{Core, signature, relabelled, IsShaped, IsFound, AllFound}
use Rattle.lq_prover_congruence.specs.Classes.Standing.{core_of, step_of, steps_of, HasUses, IsJoined, IsSound, Does, Leads}
use Rattle.lq_prover_congruence.specs.Classes.Moves.{IsBeside, IsAsBefore, Unites, IsOwn, Goes, roots, Files, IsWorking, IsClash}
use Rattle.lq_prover_congruence.specs.declared.classes.steps.Step.{Step}
use Rattle.lq_prover_congruence.specs.declared.classes.steps.Entry.{Entry}
use Rattle.lq_prover_congruence.specs.declared.classes.steps.Entry.TheVariants.{Joined, Filed}
use Rattle.lq_prover_congruence.specs.declared.classes.state.State.{State}
use Rattle.lq_prover_congruence.proofs.ClassesLemmas.Labels.{Joins, joins, coarser}
use Rattle.lq_prover_congruence.proofs.ClassesLemmas.Joins.{label, shaped-joined, sound-joined, found-joined}
use Rattle.lq_prover_congruence.proofs.ClassesLemmas.Filing.{found-same, shaped-filed, find-more, find-new}

-- ---- lists of entries

pub leads-append : (xs ys : List Entry) (o m c : Core) → Leads xs o m → Leads ys m c → Leads (xs ++ ys) o c
leads-append [] ys o m c h k = let P : Core → Type 0 = λ x. Leads ys x c in subst P (sym h) k
leads-append (x ∷ xs) ys o m c h k = (h.0, h.1, h.2, leads-append xs ys h.0 m c h.3 k)

pub leads-last : (xs : List Entry) (e : Entry) (o c : Core) → Leads (xs ++ e ∷ []) o c → (m : Core) × Leads xs o m × IsShaped m × Does e m c
leads-last [] e o c h = let P : Core → Type 0 = λ x. Does e o x in (o, refl, h.1, subst P h.3 h.2)
leads-last (x ∷ xs) e o c h = let r = leads-last xs e h.0 c h.3 in (r.0, (h.0, h.1, h.2, r.1), r.2, r.3)

pub steps-append : (xs ys : List Entry) → steps_of (xs ++ ys) ≡ steps_of xs ++ steps_of ys
steps-append [] ys = refl
steps-append (x ∷ xs) ys = ap (λ l. step_of x ++ l) (steps-append xs ys) ∙ sym (append_assoc (step_of x) (steps_of xs) (steps_of ys))

-- ---- one after the other

pub beside-both : (s t u : State) → IsBeside s t → IsBeside t u → IsBeside s u
beside-both s t u h k = record { known = k.known ∙ h.known; uses = k.uses ∙ h.uses; sizes = k.sizes ∙ h.sizes; steps = k.steps ∙ h.steps }

pub goes-nowhere : (s t : State) → IsShaped (core_of s) → IsAsBefore s t → Goes s t
goes-nowhere s t k h = record {
  entries = [];
  trail = h.trail ∙ sym (append-nil s.trail.items);
  steps = refl;
  leads = sym h.core;
  shaped = (let P : Core → Type 0 = λ c. IsShaped c in subst P (sym h.core) k);
  coarser = λ i j k l e. (let P : Core → Type 0 = λ c. get_or c.labels i 0 ≡ get_or c.labels j 0 in subst P (sym h.core) e);
  beside = h.beside;
}

pub goes-on : (s t u : State) → Goes s t → Goes t u → Goes s u
goes-on s t u h k = record {
  entries = h.entries ++ k.entries;
  trail = k.trail ∙ ap (λ l. l ++ k.entries) h.trail ∙ append_assoc s.trail.items h.entries k.entries;
  steps = steps-append h.entries k.entries ∙ ap₂ (λ x y. x ++ y) h.steps k.steps;
  leads = leads-append h.entries k.entries (core_of s) (core_of t) (core_of u) h.leads k.leads;
  shaped = k.shaped;
  coarser = λ i j l m e. (let n = ap length h.beside.known in k.coarser i j (omega arith) (omega arith) (h.coarser i j l m e));
  beside = beside-both s t u h.beside k.beside;
}

pub steps-stay : (s t : State) → Goes s t → steps_of t.trail.items ≡ steps_of s.trail.items
steps-stay s t h = ap steps_of h.trail ∙ steps-append s.trail.items h.entries ∙ ap (λ l. steps_of s.trail.items ++ l) h.steps ∙ append-nil (steps_of s.trail.items)

-- ---- two classes joined

pub united : (s t : State) (kept moved : ℕ) (queue more : List ℕ) → IsShaped (core_of s) → Unites s t kept moved queue more → Goes s t × IsShaped (core_of t) × Joins (core_of s) (core_of t) kept moved
united s t kept moved queue more h u =
    let j = joins (core_of s) (core_of t) kept moved u.joined h in (
      record {
        entries = Joined kept moved ∷ [];
        trail = u.trail;
        steps = refl;
        leads = (core_of t, h, u.joined, refl);
        shaped = shaped-joined (core_of s) (core_of t) kept moved j u.rings;
        coarser = coarser (core_of s) (core_of t) kept moved j;
        beside = u.beside;
      },
      shaped-joined (core_of s) (core_of t) kept moved j u.rings,
      j,
    )

-- the work goes on after a join of two labels
pub working-on : (s t : State) (kept moved l r : ℕ) (queue more : List ℕ) → IsWorking s queue l r → Unites s t kept moved queue more → IsSame (steps_of s.trail.items) kept moved
    → (((l ≡ kept) × (r ≡ moved)) ⊎ ((l ≡ moved) × (r ≡ kept))) ⊎ (l ≡ r) → IsWorking t more 0 0
working-on s t kept moved l r queue more w u one pair =
    let b = core_of s in
    let c = core_of t in
    let x = united s t kept moved queue more w.sound.shaped u in
    let P : List Step → Type 0 = λ ss. IsSound ss c in
    let Q : List (Term × ℕ) → List (List ℕ) → Type 0 = HasUses in
    let Q1 : List (Term × ℕ) → Type 0 = λ ks. HasUses ks s.uses.items in
    let Q2 : List (List ℕ) → Type 0 = λ us. HasUses t.known us in
    record {
      sound = subst P (sym (steps-stay s t x.0)) (sound-joined (steps_of s.trail.items) b c kept moved x.2 x.1 w.sound one);
      uses = subst Q2 (sym u.beside.uses) (subst Q1 (sym u.beside.known) w.uses);
      sizes = u.beside.sizes ∙ w.sizes ∙ sym (ap length u.beside.known);
      found = found-joined b c kept moved l r queue more x.2 w.found (together b c x.2) u.keeps u.users;
    }
  where
    together : (b c : Core) → Joins b c kept moved → (x y : ℕ) → x < length b.known → y < length b.known → label b x ≡ l → label b y ≡ r → label c x ≡ label c y
    together b c j x y k m e f =
        elim pair [
          | inl p ↦ elim p [
            | inl q ↦ to-kept b c j x k (e ∙ q.0) ∙ sym (to-moved b c j y m (f ∙ q.1))
            | inr q ↦ to-moved b c j x k (e ∙ q.0) ∙ sym (to-kept b c j y m (f ∙ q.1))
          ]
          | inr p ↦ coarser b c kept moved j x y k m (e ∙ p ∙ sym f)
        ]
      where
        to-kept : (b c : Core) → Joins b c kept moved → (x : ℕ) → x < length b.known → label b x ≡ kept → label c x ≡ kept
        to-kept b c j x k e = elim (j.each x k) [ inl p ↦ p.1 | inr p ↦ p.1 ∙ e ]

        to-moved : (b c : Core) → Joins b c kept moved → (x : ℕ) → x < length b.known → label b x ≡ moved → label c x ≡ kept
        to-moved b c j x k e = elim (j.each x k) [ inl p ↦ p.1 | inr p ↦ absurd (p.0 e) ]

-- ---- nothing that counts changed

pub working-before : (s t : State) (queue : List ℕ) (l m : ℕ) → IsAsBefore s t → IsWorking s queue l m → IsWorking t queue l m
working-before s t queue l m h w =
    let P : List Entry → Core → Type 0 = λ es c. IsSound (steps_of es) c in
    let P1 : List Entry → Type 0 = λ es. P es (core_of s) in
    let P2 : Core → Type 0 = λ c. P t.trail.items c in
    let F : Core → Type 0 = λ c. AllFound c l m queue in
    let U1 : List (Term × ℕ) → Type 0 = λ ks. HasUses ks s.uses.items in
    let U2 : List (List ℕ) → Type 0 = λ us. HasUses t.known us in
    record {
      sound = subst P2 (sym h.core) (subst P1 (sym h.trail) w.sound);
      uses = subst U2 (sym h.beside.uses) (subst U1 (sym h.beside.known) w.uses);
      sizes = h.beside.sizes ∙ w.sizes ∙ sym (ap length h.beside.known);
      found = subst F (sym h.core) w.found;
    }

-- ---- a term that was filed, found or passed over

times-last : (i x : ℕ) (xs queue : List ℕ) → queue ≡ xs ++ x ∷ [] → 0 < times i queue → (0 < times i xs) ⊎ (i ≡ x)
times-last i x xs queue e h =
    elim (cases_eq i x) [
      | inl d ↦ inr d
      | inr d ↦ inl (omega (arith, ap (times i) e, append i xs (x ∷ []), other i x [] d))
    ]
  where
    append : (i : ℕ) (xs ys : List ℕ) → times i (xs ++ ys) ≡ times i xs + times i ys
    append i [] ys = omega arith
    append i (x ∷ xs) ys = omega (arith, append i xs ys)

    other : (i x : ℕ) (xs : List ℕ) → (i ≡ x → ⊥) → times i (x ∷ xs) ≡ times i xs
    other i x xs h = grind (arith, nat_tests)

pub working-skip : (s : State) (queue rest : List ℕ) (term : ℕ) → queue ≡ rest ++ term ∷ [] → length s.known ≤ term → IsWorking s queue 0 0 → IsWorking s rest 0 0
working-skip s queue rest term e k w = record {
  sound = w.sound;
  uses = w.uses;
  sizes = w.sizes;
  found = λ i l. elim (w.found i l) [
    | inl q ↦ elim (times-last i term rest queue e q) [ inl p ↦ inl p | inr p ↦ absurd (omega arith) ]
    | inr f ↦ inr f
  ];
}

pub with-pair : (c : Core) (l m i : ℕ) → IsFound c 0 0 i → IsFound c l m i
with-pair c l m i f = record { by = f.by; found = f.found; within = f.within; label = inl (elim f.label [ inl e ↦ e | inr p ↦ p.1 ∙ sym p.0 ]) }

pub working-found : (s : State) (queue rest : List ℕ) (term by : ℕ) (l m : ℕ) → queue ≡ rest ++ term ∷ [] → IsWorking s queue 0 0 → term < length s.known
    → find_in s.filed (signature s.labels.items (term_in s.known term)) ≡ Some by
    → (get_or s.labels.items by 0 ≡ get_or s.labels.items term 0) ⊎ ((get_or s.labels.items term 0 ≡ l) × (get_or s.labels.items by 0 ≡ m)) → IsWorking s rest l m
working-found s queue rest term by l m e w k f label = record {
  sound = w.sound;
  uses = w.uses;
  sizes = w.sizes;
  found = λ i n. elim (w.found i n) [
    | inl q ↦ elim (times-last i term rest queue e q) [
      | inl p ↦ inl p
      | inr p ↦ inr (let P : ℕ → Type 0 = λ x. IsFound (core_of s) l m x in
          subst P (sym p) (record { by = by; found = f; within = (found-same (steps_of s.trail.items) (core_of s) term by w.sound k f).1; label = label }))
    ]
    | inr g ↦ inr (with-pair (core_of s) l m i g)
  ];
}

pub clash : (s : State) (queue : List ℕ) (term by : ℕ) → IsWorking s queue 0 0 → term < length s.known
    → find_in s.filed (signature s.labels.items (term_in s.known term)) ≡ Some by → (get_or s.labels.items term 0 ≡ get_or s.labels.items by 0 → ⊥)
    → IsClash s (get_or s.labels.items term 0) (get_or s.labels.items by 0)
clash s queue term by w k f d =
    let steps = steps_of s.trail.items in
    let g = found-same steps (core_of s) term by w.sound k f in
    let h = w.sound.shaped in
    let own : (i : ℕ) → i < length s.known → IsSame steps (get_or s.labels.items i 0) i = λ i l. w.sound.sound (get_or s.labels.items i 0) i (h.below i l) l (h.rests i l) in
    record {
      left = (h.below term k, h.rests term k);
      right = (h.below by g.1, h.rests by g.1);
      differ = d;
      same = steps_of_onward steps (get_or s.labels.items term 0) term by (get_or s.labels.items by 0) (own term k) g.0 (own by g.1);
    }
  where
    steps_of_onward : (steps : List Step) (a b c d : ℕ) → IsSame steps a b → IsSame steps b c → IsSame steps d c → IsSame steps a d
    steps_of_onward steps a b c d p q r = onward a b d p (onward b c d q (turned d c r))

pub files-goes : (s t : State) (term : ℕ) → IsShaped (core_of s) → term < length s.known → Files s t term → Goes s t
files-goes s t term h k f = record {
  entries = Filed ∷ [];
  trail = f.trail;
  steps = refl;
  leads = (core_of t, h, f.now, refl);
  shaped = shaped-filed (core_of s) (core_of t) term f.now f.entry h k;
  coarser = λ i j l m e. (let P : List ℕ → Type 0 = λ ls. get_or ls i 0 ≡ get_or ls j 0 in subst P (sym f.now.labels) e);
  beside = f.beside;
}

pub working-filed : (s t : State) (queue rest : List ℕ) (term : ℕ) → queue ≡ rest ++ term ∷ [] → IsWorking s queue 0 0 → term < length s.known → Files s t term → IsWorking t rest 0 0
working-filed s t queue rest term e w k f =
    let b = core_of s in
    let c = core_of t in
    let x = files-goes s t term w.sound.shaped k f in
    let shaped = shaped-filed b c term f.now f.entry w.sound.shaped k in
    let P : List Step → Type 0 = λ ss. IsSound ss c in
    let U1 : List (Term × ℕ) → Type 0 = λ ks. HasUses ks s.uses.items in
    let U2 : List (List ℕ) → Type 0 = λ us. HasUses t.known us in
    let sig : (i : ℕ) → signature c.labels (term_in c.known i) ≡ signature b.labels (term_in b.known i) = λ i. ap₂ (λ ls ks. signature ls (term_in ks i)) f.now.labels f.now.known in
    let lab : (i : ℕ) → get_or c.labels i 0 ≡ get_or b.labels i 0 = λ i. ap (λ ls. get_or ls i 0) f.now.labels in
    let n : length c.known ≡ length b.known = ap length f.now.known in
    record {
      sound = subst P (sym (steps-stay s t x)) (record {
        shaped = shaped;
        terms = f.now.known ∙ w.sound.terms;
        sound = λ i j l m z. w.sound.sound i j (omega arith) (omega arith) (sym (lab i) ∙ z ∙ lab j);
      });
      uses = subst U2 (sym f.beside.uses) (subst U1 (sym f.beside.known) w.uses);
      sizes = f.beside.sizes ∙ w.sizes ∙ sym (ap length f.beside.known);
      found = λ i l. elim (w.found i (omega arith)) [
        | inl q ↦ elim (times-last i term rest queue e q) [
          | inl p ↦ inl p
          | inr p ↦ inr (let Q : ℕ → Type 0 = λ y. IsFound c 0 0 y in
              subst Q (sym p) (record {
                by = term;
                found = ap₂ find_in (f.now.filed ∙ ap (λ z. b.filed ++ z ∷ []) f.entry) (sig term) ∙ find-new b.filed (signature b.labels (term_in b.known term)) term f.none;
                within = omega arith;
                label = inl refl;
              }))
        ]
        | inr g ↦ inr (record {
          by = g.by;
          found = ap₂ find_in f.now.filed (sig i) ∙ find-more b.filed f.now.entry (signature b.labels (term_in b.known i)) g.by g.found;
          within = omega (arith, g.within);
          label = inl (lab g.by ∙ elim g.label [ inl z ↦ z | inr z ↦ z.1 ∙ sym z.0 ] ∙ sym (lab i));
        })
      ];
    }

-- ---- a class fewer

abbrev own : ℕ → ℕ → ℕ
own l n = cond (eqb l n) 1 0

first-moved : (l n kept moved : ℕ) → l ≡ moved → (n ≡ kept → ⊥) → own (cond (eqb l moved) kept l) n ≡ 0
first-moved l n kept moved e d = grind (arith, nat_tests)

first-stays : (l n kept moved : ℕ) → (l ≡ moved → ⊥) → own (cond (eqb l moved) kept l) n ≡ own l n
first-stays l n kept moved d = grind (arith, nat_tests)

first-own : (l n : ℕ) → l ≡ n → own l n ≡ 1
first-own l n e = grind (arith, nat_tests)

roots-same : (n : ℕ) (ls : List ℕ) (kept moved : ℕ) → ((i : ℕ) → i < length ls → n + i ≡ kept → get_or ls i 0 ≡ moved → ⊥) → roots n (relabelled ls kept moved) ≤ roots n ls
roots-same n [] kept moved h = omega arith
roots-same n (l ∷ ls) kept moved h =
    let rest = roots-same (suc n) ls kept moved (λ i k e. h (suc i) (omega arith) (omega arith)) in
    elim (cases_eq l moved) [
      | inl e ↦ omega (arith, first-moved l n kept moved e (λ z. h 0 (omega arith) (omega arith) e), rest)
      | inr e ↦ omega (arith, first-stays l n kept moved e, rest)
    ]

roots-less : (n : ℕ) (ls : List ℕ) (kept moved at : ℕ) → kept ≢ moved → ((i : ℕ) → i < length ls → n + i ≡ kept → get_or ls i 0 ≡ moved → ⊥) → at < length ls → n + at ≡ moved → get_or ls at 0 ≡ moved → roots n (relabelled ls kept moved) < roots n ls
roots-less n [] kept moved at d h k e f = absurd (omega arith)
roots-less n (l ∷ ls) kept moved zero d h k e f =
    let rest = roots-same (suc n) ls kept moved (λ i k z. h (suc i) (omega arith) (omega arith)) in
    let no : n ≡ moved = omega arith in
    omega (arith, first-moved l n kept moved f (λ z. d (sym z ∙ no)), first-own l n (f ∙ sym no), rest)
roots-less n (l ∷ ls) kept moved (suc at) d h k e f =
    let rest = roots-less (suc n) ls kept moved at d (λ i k z. h (suc i) (omega arith) (omega arith)) (omega arith) (omega arith) f in
    elim (cases_eq l moved) [
      | inl p ↦ omega (arith, first-moved l n kept moved p (λ z. h 0 (omega arith) (omega arith) p), rest)
      | inr p ↦ omega (arith, first-stays l n kept moved p, rest)
    ]

pub fewer-roots : (b c : Core) (kept moved : ℕ) → IsShaped b → IsJoined kept moved b c → roots 0 c.labels < roots 0 b.labels
fewer-roots b c kept moved h j =
    let P : List ℕ → Type 0 = λ ls. roots 0 ls < roots 0 b.labels in
    subst P (sym j.labels) (roots-less 0 b.labels kept moved moved j.differ
    (λ i k e f. j.differ (sym j.kept_rests ∙ ap (λ x. get_or b.labels x 0) (sym (let z : i ≡ kept = omega arith in z)) ∙ f))
    (omega (arith, j.moved_in, h.labelled)) (omega arith) j.moved_rests)

-- after a join of the labels of a clash: the work goes on, and a label fewer is its own
pub joined-on : (s t : State) (l r : ℕ) (queue more : List ℕ) → IsWorking s queue l r → IsClash s l r → (Unites s t l r queue more) ⊎ (Unites s t r l queue more) → Goes s t × IsWorking t more 0 0 × (roots 0 t.labels.items < roots 0 s.labels.items)
joined-on s t l r queue more w h u =
    let steps = steps_of s.trail.items in
    elim u [
      | inl v ↦ ((united s t l r queue more w.sound.shaped v).0, working-on s t l r l r queue more w v h.same (inl (inl (refl, refl))), fewer-roots (core_of s) (core_of t) l r w.sound.shaped v.joined)
      | inr v ↦ ((united s t r l queue more w.sound.shaped v).0, working-on s t r l l r queue more w v (turned l r h.same) (inl (inr (refl, refl))), fewer-roots (core_of s) (core_of t) r l w.sound.shaped v.joined)
    ]

-- a term whose signature another has
pub record Seen (s t : State) (rest : List ℕ) (term by : ℕ) : Type 0 where
  pub goes : Goes s t
  pub labels : t.labels.items ≡ s.labels.items
  pub term_in : term < length t.labels.items
  pub within : by < length t.labels.items
  pub differ : (x y : ℕ) → x ≡ get_or t.labels.items term x → y ≡ get_or t.labels.items by y → (x ≡ y → ⊥) → IsWorking t rest x y × IsClash t x y
  pub equal : (x y : ℕ) → x ≡ get_or t.labels.items term x → y ≡ get_or t.labels.items by y → x ≡ y → IsWorking t rest 0 0

pub seen : (s t : State) (queue rest : List ℕ) (term by : ℕ) (p : Option ℕ) → queue ≡ rest ++ term ∷ [] → IsWorking s queue 0 0 → term < length s.known
    → IfSome p (λ b. (find_in s.filed (signature s.labels.items (term_in s.known term)) ≡ Some b) × IsAsBefore s t) → p ≡ Some by → Seen s t rest term by
seen s t queue rest term by p e w k h i =
    let P : Option ℕ → Type 0 = λ o. IfSome o (λ b. (find_in s.filed (signature s.labels.items (term_in s.known term)) ≡ Some b) × IsAsBefore s t) in
    let f = subst P i h in
    let same = f.1 in
    let labels : t.labels.items ≡ s.labels.items = ap (λ c. c.labels) same.core in
    let g = found-same (steps_of s.trail.items) (core_of s) term by w.sound k f.0 in
    let term_in = (let z : term < length t.labels.items = omega (arith, ap length labels, w.sound.shaped.labelled) in z) in
    let within = (let z : by < length t.labels.items = omega (arith, ap length labels, w.sound.shaped.labelled, g.1) in z) in
    let at : (j x : ℕ) → j < length t.labels.items → x ≡ get_or t.labels.items j x → x ≡ get_or s.labels.items j 0 = λ j x l q. q ∙ get_or_default_zero t.labels.items j x l ∙ ap (λ ls. get_or ls j 0) labels in
    record {
      goes = goes-nowhere s t w.sound.shaped same;
      labels = labels;
      term_in = term_in;
      within = within;
      differ = λ x y a b d.
          let a0 = at term x term_in a in
          let b0 = at by y within b in
          let C : ℕ → ℕ → Type 0 = λ m n. IsClash s m n in
          let c = clash s queue term by w k f.0 (λ z. d (a0 ∙ z ∙ sym b0)) in
          let D : ℕ → Type 0 = λ m. IsClash s m (get_or s.labels.items by 0) in
          let E : ℕ → Type 0 = λ n. IsClash s x n in
          let c2 = subst E (sym b0) (subst D (sym a0) c) in
          (working-before s t rest x y same (working-found s queue rest term by x y e w k f.0 (inr (sym a0, sym b0))), clash-before s t x y same c2);
      equal = λ x y a b z. working-before s t rest 0 0 same (working-found s queue rest term by 0 0 e w k f.0 (inl (sym (at by y within b) ∙ sym z ∙ at term x term_in a)));
    }
  where
    clash-before : (s t : State) (l m : ℕ) → IsAsBefore s t → IsClash s l m → IsClash t l m
    clash-before s t l m h c =
        let own : (n : ℕ) → IsOwn s n → IsOwn t n = λ n o. (omega (arith, o.0, ap length h.beside.known), ap (λ d. get_or d.labels n 0) h.core ∙ o.1) in
        let P : List Entry → Type 0 = λ es. IsSame (steps_of es) l m in
        record { left = own l c.left; right = own m c.right; differ = c.differ; same = subst P (sym h.trail) c.same }
