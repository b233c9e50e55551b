-- Steps, each with what follows from it, and steps taken back.
use Rattle.std.proofs.Common.{◌≡◌, ◌⊎◌, ◌↔◌, inl, inr, ℕ, ◌+◌, ◌<◌, ◌≤◌, List, [], ◌∷◌, ◌++◌, length, take, get_or, refl, sym, ap, ◌∙◌, subst, arith, length-append, append_assoc, append-nil}
use Rattle.lq_prover_congruence.specs.Ring.Ring.{IsTogether, times}
use Rattle.lq_prover_congruence.specs.Classes.Terms.{Term}
use Rattle.lq_prover_congruence.specs.Classes.Steps.{terms_of, IsSame, turned, onward}
use Rattle.lq_prover_congruence.specs.Classes.Core.{Core, empty, AllBelow, IsShaped, AllFound}
use Rattle.lq_prover_congruence.specs.Classes.Standing.{core_of, step_of, steps_of, HasUses, IsAdded, IsSound, IsExact, MergesMet, DifferencesIn, StepDoes, Does, Leads, ExactBefore, Story, IsStanding, numbered}
use Rattle.lq_prover_congruence.specs.Classes.Moves.{IsAsBefore, IsBack, IsInOrder, IsOwn, IsClash, IsWorking, Unites, LastLed, LedFrom, Goes, GoesBack, Steps, KeepsUses}
use Rattle.lq_prover_congruence.specs.declared.classes.head.Head.{Head}
use Rattle.lq_prover_congruence.specs.declared.classes.steps.Step.{Step}
use Rattle.lq_prover_congruence.specs.declared.classes.steps.Step.TheVariants.{Added, Merged, Differed}
use Rattle.lq_prover_congruence.specs.declared.classes.steps.Entry.{Entry}
use Rattle.lq_prover_congruence.specs.declared.classes.steps.Entry.TheVariants.{Done, Joined, Filed}
use Rattle.lq_prover_congruence.specs.declared.classes.state.State.{State}
use Rattle.lq_prover_congruence.proofs.ClassesLemmas.Clashes.{left-of, right-of, kind-of}
use Rattle.lq_prover_congruence.proofs.ClassesLemmas.Joins.{label, front-all}
use Rattle.lq_prover_congruence.proofs.ClassesLemmas.Labels.{Joins, length-numbered}
use Rattle.std.proofs.lemmas.Grind.{get_or_default_zero}
use Rattle.lq_prover_congruence.proofs.ClassesLemmas.Moving.{leads-last, steps-append, steps-stay, goes-nowhere, with-pair, united, joined-on}
use Rattle.lq_prover_congruence.proofs.ClassesLemmas.Longer.{merge-last, difference-last, same-more, terms-noted}
use Rattle.lq_prover_congruence.proofs.ClassesLemmas.Stories.{snoc, entries-some, story-last, story-done, story-leads}
use Rattle.lq_prover_congruence.proofs.ClassesLemmas.Growing.{more, found-added, sound-added, shaped-added, uses-added, uses-kept}
use Rattle.lq_prover_congruence.proofs.ClassesLemmas.Trail.{steps-last}

-- ---- entries taken back

-- what is left of the entries past a length
abbrev pub Left : State → State → ℕ → Type 0
Left s t n = (base entries : List Entry) (from : Core) → s.trail.items ≡ base ++ entries → length base ≡ n
    → Leads entries from (core_of s) → (es : List Entry) × (t.trail.items ≡ base ++ es) × Leads es from (core_of t)

-- the last entry was taken back
pub record Undoes (s t : State) : Type 0 where
  pub trail : (before : List Entry) (entry : Entry) → s.trail.items ≡ before ++ entry ∷ [] → t.trail.items ≡ before
  pub core : (before : List Entry) (entry : Entry) (from : Core) → s.trail.items ≡ before ++ entry ∷ [] → IsShaped from → Does entry from (core_of s) → core_of t ≡ from

pub left-none : (s : State) (n : ℕ) → Left s s n
left-none s n = λ base entries from t l h. (entries, t, h)

pub last-led : (s : State) (n : ℕ) → LedFrom s n → n < length s.trail.items → LastLed s
last-led s n h k =
    let some : 0 < length h.entries = omega (arith, ap length h.trail, length-append h.base h.entries, h.long) in
    let v = snoc h.entries some in
    let P : List Entry → Type 0 = λ es. Leads es h.from (core_of s) in
    let l = leads-last v.0 v.1 h.from (core_of s) (subst P v.2 h.leads) in
    record {
      before = h.base ++ v.0;
      entry = v.1;
      trail = h.trail ∙ ap (λ es. h.base ++ es) v.2 ∙ sym (append_assoc h.base v.0 (v.1 ∷ []));
      from = l.0;
      shaped = l.2;
      did = l.3;
    }

pub led-left : (s t : State) (n : ℕ) → LedFrom s n → Left s t n → LedFrom t n
led-left s t n h l =
    let r = l h.base h.entries h.from h.trail h.long h.leads in
    record { base = h.base; entries = r.0; trail = r.1; long = h.long; from = h.from; leads = r.2 }

pub left-less : (s t u : State) (n : ℕ) → Left s t n → n < length t.trail.items → Undoes t u → Left s u n
left-less s t u n h k x = λ base entries from e l leads.
    let r = h base entries from e l leads in
    let some : 0 < length r.0 = omega (arith, ap length r.1, length-append base r.0) in
    let v = snoc r.0 some in
    let P : List Entry → Type 0 = λ es. Leads es from (core_of t) in
    let m = leads-last v.0 v.1 from (core_of t) (subst P v.2 r.2) in
    let trail = r.1 ∙ ap (λ es. base ++ es) v.2 ∙ sym (append_assoc base v.0 (v.1 ∷ [])) in
    let Q : Core → Type 0 = λ c. Leads v.0 from c in
    (v.0, x.trail (base ++ v.0) v.1 trail, subst Q (sym (x.core (base ++ v.0) v.1 m.0 trail m.2 m.3)) m.1)

pub left-all : (s t : State) (n : ℕ) → Left s t n → length t.trail.items ≤ n → GoesBack s t n
left-all s t n h k = λ base entries from e l leads.
    let r = h base entries from e l leads in
    nothing base r.0 from r.1 (omega (arith, ap length r.1, length-append base r.0)) r.2
  where
    nothing : (base es : List Entry) (from : Core) → t.trail.items ≡ base ++ es → length es ≡ 0 → Leads es from (core_of t) → (t.trail.items ≡ base) × (core_of t ≡ from)
    nothing base [] from e z leads = (e ∙ append-nil base, sym leads)
    nothing base (x ∷ es) from e z leads = absurd (omega arith)

-- ---- a step

pub steps-now : (s t : State) (step : Step) → Steps s t step → steps_of t.trail.items ≡ steps_of s.trail.items ++ step ∷ []
steps-now s t step h = ap steps_of h.trail ∙ steps-append s.trail.items (Done step ∷ [])

pub order-of : (s : State) → IsStanding s → IsInOrder s
order-of s h = record { shaped = h.exact.is.shaped; uses = h.uses; sizes = h.sizes; steps = h.steps }

pub order-goes : (s t : State) → IsInOrder s → Goes s t → IsInOrder t
order-goes s t h g =
    let P : List (Term × ℕ) → Type 0 = λ ks. HasUses ks s.uses.items in
    let Q : List (List ℕ) → Type 0 = λ us. HasUses t.known us in
    record {
      shaped = g.shaped;
      uses = subst Q (sym g.beside.uses) (subst P (sym g.beside.known) h.uses);
      sizes = g.beside.sizes ∙ h.sizes ∙ sym (ap length g.beside.known);
      steps = g.beside.steps ∙ h.steps ∙ ap length (sym (steps-stay s t g));
    }

did-more : (step : Step) (b c : Core) → StepDoes step b c → length b.known ≤ length c.known
did-more (Added h xs) b c d = omega (arith, ap length d.known, length-append b.known (((h, xs), length b.known) ∷ []))
did-more (Merged l r reason) b c d = omega (arith, ap (λ x. length x.known) d)
did-more (Differed l r) b c d = omega (arith, ap (λ x. length x.known) d)

did-coarser : (step : Step) (b c : Core) → StepDoes step b c → length b.labels ≡ length b.known → (i : ℕ) → i < length b.known → get_or c.labels i 0 ≡ get_or b.labels i 0
did-coarser (Added h xs) b c d l i k = (more (h, xs) b c d l).old i k
did-coarser (Merged x y reason) b c d l i k = ap (λ x. get_or x.labels i 0) (sym d)
did-coarser (Differed x y) b c d l i k = ap (λ x. get_or x.labels i 0) (sym d)

-- what a step asks for is met
pub record Met (step : Step) (c : Core) : Type 0 where
  pub merge : (a b r : ℕ) → step ≡ Merged a b r → (a < length c.known) × (b < length c.known) × (get_or c.labels a 0 ≡ get_or c.labels b 0)
  pub difference : (a b : ℕ) → step ≡ Differed a b → (a < length c.known) × (b < length c.known)

pub standing-after : (s t u : State) (step : Step) → IsStanding s → Steps s t step → Goes t u → IsWorking u [] 0 0 → Met step (core_of u) → IsStanding u
standing-after s t u step h n g w m =
    let old = steps_of s.trail.items in
    let now : steps_of u.trail.items ≡ old ++ step ∷ [] = steps-stay t u g ∙ steps-now s t step n in
    let grown : length s.known ≤ length u.known = omega (arith, did-more step (core_of s) (core_of t) n.did, ap length g.beside.known) in
    let order = order-goes t u n.order g in
    let P : List Step → Type 0 = λ ss. MergesMet ss (core_of u) in
    let Q : List Step → Type 0 = λ ss. DifferencesIn ss (core_of u) in
    let R : List Entry → Type 0 = λ es. Story [] es empty (core_of u) in
    let S : List Entry → Type 0 = λ es. Story [] es empty (core_of t) in
    let before = story-done [] s.trail.items (Done step) empty (core_of s) (core_of t) h.story h.exact.is.shaped n.did h.exact in
    record {
      exact = record {
        is = w.sound;
        merges = subst P (sym now) (λ a b r k. elim (merge-last old step a b r k) [
          | inl z ↦
              let q = h.exact.merges a b r z in (
                omega (arith, q.0),
                omega (arith, q.1),
                g.coarser a b (omega (arith, q.0, did-more step (core_of s) (core_of t) n.did)) (omega (arith, q.1, did-more step (core_of s) (core_of t) n.did))
                    (did-coarser step (core_of s) (core_of t) n.did h.exact.is.shaped.labelled a q.0 ∙ q.2 ∙ sym (did-coarser step (core_of s) (core_of t) n.did h.exact.is.shaped.labelled b q.1)),
              )
          | inr z ↦ m.merge a b r z
        ]);
        differences = subst Q (sym now) (λ a b k. elim (difference-last old step a b k) [
          | inl z ↦ let q = h.exact.differences a b z in (omega (arith, q.0), omega (arith, q.1))
          | inr z ↦ m.difference a b z
        ]);
        found = w.found;
      };
      story = subst R (sym g.trail) (story-leads [] t.trail.items g.entries empty (core_of t) (core_of u) (subst S (sym n.trail) before) g.leads g.steps);
      uses = order.uses;
      sizes = order.sizes;
      steps = order.steps;
    }

-- what follows from a step that gets no further is taken back
led-trail : (s t u : State) (step : Step) → Steps s t step → (g : Goes t u) → u.trail.items ≡ s.trail.items ++ (Done step ∷ g.entries)
led-trail s t u step n g = g.trail ∙ ap (λ es. es ++ g.entries) n.trail ∙ append_assoc s.trail.items (Done step ∷ []) g.entries

pub led-step : (s t u : State) (step : Step) → IsStanding s → Steps s t step → Goes t u → LedFrom u (length s.trail.items)
led-step s t u step h n g = record {
  base = s.trail.items;
  entries = Done step ∷ g.entries;
  trail = led-trail s t u step n g;
  long = refl;
  from = core_of s;
  leads = (core_of t, h.exact.is.shaped, n.did, g.leads);
}

back-from : (s v : State) → IsStanding s → (v.trail.items ≡ s.trail.items) × (core_of v ≡ core_of s) → IsInOrder v → IsBack s v
back-from s v h r o = record {
  core = r.1;
  trail = r.0;
  uses = o.uses;
  sizes = o.sizes;
  steps = o.steps ∙ ap (λ es. length (steps_of es)) r.0 ∙ sym h.steps;
}

pub standing-back : (s t : State) → IsStanding s → IsBack s t → IsStanding t
standing-back s t h b =
    let P : List Entry → Core → Type 0 = λ es c. IsExact (steps_of es) c in
    let P1 : List Entry → Type 0 = λ es. P es (core_of s) in
    let P2 : Core → Type 0 = λ c. P t.trail.items c in
    let Q : List Entry → Core → Type 0 = λ es c. Story [] es empty c in
    let Q1 : List Entry → Type 0 = λ es. Q es (core_of s) in
    let Q2 : Core → Type 0 = λ c. Q t.trail.items c in
    record {
      exact = subst P2 (sym b.core) (subst P1 (sym b.trail) h.exact);
      story = subst Q2 (sym b.core) (subst Q1 (sym b.trail) h.story);
      uses = b.uses;
      sizes = b.sizes;
      steps = b.steps ∙ h.steps ∙ ap (λ es. length (steps_of es)) (sym b.trail);
    }

-- ---- steps that add no term

pub working-noted : (s t : State) (step : Step) → IsStanding s → Steps s t step → core_of t ≡ core_of s → terms_of (step ∷ []) ≡ [] → IsWorking t [] 0 0
working-noted s t step h n c none =
    let old = steps_of s.trail.items in
    let P : List Step → Type 0 = λ ss. IsSound ss (core_of t) in
    let Q : Core → Type 0 = λ x. IsSound (old ++ step ∷ []) x in
    let F : Core → Type 0 = λ x. AllFound x 0 0 [] in
    let is = h.exact.is in
    record {
      sound = subst P (sym (steps-now s t step n)) (subst Q (sym c) (record {
        shaped = is.shaped;
        terms = is.terms ∙ ap (numbered 0) (sym (terms-noted old step none));
        sound = λ i j k l e. same-more old (step ∷ []) i j (is.sound i j k l e);
      }));
      uses = n.order.uses;
      sizes = n.order.sizes;
      found = subst F (sym c) h.exact.found;
    }

goes-self : (t : State) → IsShaped (core_of t) → Goes t t
goes-self t h = goes-nowhere t t h (record { core = refl; trail = refl; beside = record { known = refl; uses = refl; sizes = refl; steps = refl } })

pub differ-standing : (s t : State) (a b : ℕ) → IsStanding s → Steps s t (Differed a b) → a < length s.known → b < length s.known → IsStanding t
differ-standing s t a b h n k l =
    let same : length s.known ≡ length t.known = ap (λ c. length c.known) n.did in
    standing-after s t t (Differed a b) h n (goes-self t n.order.shaped) (working-noted s t (Differed a b) h n (sym n.did) refl) (record {
      merge = λ x y r e. absurd (kinds a b x y r e);
      difference = λ x y e. (let p : a ≡ x = lefts a b x y e in omega arith, let p : b ≡ y = rights a b x y e in omega arith);
    })
  where
    kinds : (a b x y r : ℕ) → Differed a b ≡ Merged x y r → ⊥
    kinds a b x y r e = let z = ap kind-of e in omega arith

    lefts : (a b x y : ℕ) → Differed a b ≡ Differed x y → a ≡ x
    lefts a b x y e = ap left-of e

    rights : (a b x y : ℕ) → Differed a b ≡ Differed x y → b ≡ y
    rights a b x y e = ap right-of e

pub merge-standing : (s t u : State) (a b r : ℕ) → IsStanding s → Steps s t (Merged a b r) → Goes t u → IsWorking u [] 0 0 → get_or u.labels.items a 0 ≡ get_or u.labels.items b 0 → a < length s.known → b < length s.known → IsStanding u
merge-standing s t u a b r h n g w met k l =
    let same : length s.known ≡ length u.known = ap (λ c. length c.known) n.did ∙ ap length (sym g.beside.known) in
    let k2 : a < length u.known = omega arith in
    let l2 : b < length u.known = omega arith in
    let P : ℕ → ℕ → Type 0 = λ x y. (x < length u.known) × (y < length u.known) × (get_or u.labels.items x 0 ≡ get_or u.labels.items y 0) in
    standing-after s t u (Merged a b r) h n g w (record {
      merge = λ x y q e. (let P1 : ℕ → Type 0 = λ x. P x y in let P2 : ℕ → Type 0 = λ y. P a y in subst P1 (lefts a b r x y q e) (subst P2 (rights a b r x y q e) (k2, l2, met)));
      difference = λ x y e. absurd (kinds a b r x y e);
    })
  where
    kinds : (a b r x y : ℕ) → Merged a b r ≡ Differed x y → ⊥
    kinds a b r x y e = let z = ap kind-of e in omega arith

    lefts : (a b r x y q : ℕ) → Merged a b r ≡ Merged x y q → a ≡ x
    lefts a b r x y q e = ap left-of e

    rights : (a b r x y q : ℕ) → Merged a b r ≡ Merged x y q → b ≡ y
    rights a b r x y q e = ap right-of e

pub led-at : (s t u : State) (step : Step) (n : ℕ) → IsStanding s → Steps s t step → Goes t u → length s.trail.items ≡ n → LedFrom u n
led-at s t u step n h k g e = let P : ℕ → Type 0 = λ m. LedFrom u m in subst P e (led-step s t u step h k g)

pub step-undone : (s t u v : State) (step : Step) (n : ℕ) → IsStanding s → Steps s t step → Goes t u → length s.trail.items ≡ n → GoesBack u v n → IsInOrder v → IsStanding v × (steps_of v.trail.items ≡ steps_of s.trail.items)
step-undone s t u v step n h k g e b o =
    let P : ℕ → Type 0 = λ m. GoesBack u v m in
    let all = subst P (sym e) b in
    let back = back-from s v h (all s.trail.items (Done step ∷ g.entries) (core_of s) (led-trail s t u step k g) refl (core_of t, h.exact.is.shaped, k.did, g.leads)) o in
    (standing-back s v h back, ap steps_of back.trail)

-- ---- two terms brought together

pub record Brought (s t : State) (a b : ℕ) (more : List ℕ) : Type 0 where
  pub goes : Goes s t
  pub working : IsWorking t more 0 0
  pub met : get_or t.labels.items a 0 ≡ get_or t.labels.items b 0

met-joined : (b c : Core) (kept moved x y : ℕ) → Joins b c kept moved → x < length b.known → y < length b.known → label b x ≡ kept → label b y ≡ moved → label c x ≡ label c y
met-joined b c kept moved x y j k l e f = elim (j.each x k) [ inl p ↦ p.1 | inr p ↦ p.1 ∙ e ] ∙ sym (elim (j.each y l) [ inl p ↦ p.1 | inr p ↦ absurd (p.0 f) ])

pub brought : (s t : State) (a b l r : ℕ) (queue more : List ℕ) → IsWorking s [] 0 0 → a < length s.known → b < length s.known → IsSame (steps_of s.trail.items) a b → l ≡ get_or s.labels.items a l → r ≡ get_or s.labels.items b r → (l ≡ r → ⊥)
    → (Unites s t l r queue more) ⊎ (Unites s t r l queue more) → Brought s t a b more
brought s t a b l r queue more w k m same e f d u =
    let steps = steps_of s.trail.items in
    let is = w.sound.shaped in
    let e0 : l ≡ get_or s.labels.items a 0 = e ∙ get_or_default_zero s.labels.items a l (omega (arith, is.labelled)) in
    let f0 : r ≡ get_or s.labels.items b 0 = f ∙ get_or_default_zero s.labels.items b r (omega (arith, is.labelled)) in
    let own : (i x : ℕ) → i < length s.known → x ≡ get_or s.labels.items i 0 → IsOwn s x = λ i x n q. (omega (arith, is.below i n), ap (λ y. get_or s.labels.items y 0) q ∙ is.rests i n ∙ sym q) in
    let rest : (i x : ℕ) → i < length s.known → x ≡ get_or s.labels.items i 0 → IsSame steps x i = λ i x n q. w.sound.sound x i (own i x n q).0 n ((own i x n q).1 ∙ q) in
    let work : IsWorking s queue l r = record { sound = w.sound; uses = w.uses; sizes = w.sizes; found = λ i n. elim (w.found i n) [ inl z ↦ absurd (omega arith) | inr g ↦ inr (with-pair (core_of s) l r i g) ] } in
    let clash : IsClash s l r = record { left = own a l k e0; right = own b r m f0; differ = d; same = onward l a r (rest a l k e0) (onward a b r same (turned r b (rest b r m f0))) } in
    let j = joined-on s t l r queue more work clash u in
    record {
      goes = j.0;
      working = j.1;
      met = elim u [
        | inl v ↦ met-joined (core_of s) (core_of t) l r a b (united s t l r queue more is v).2 k m (sym e0) (sym f0)
        | inr v ↦ sym (met-joined (core_of s) (core_of t) r l b a (united s t r l queue more is v).2 m k (sym f0) (sym e0))
      ];
    }

-- ---- the number of terms

pub terms-known : (steps : List Step) (c : Core) → IsExact steps c → length (terms_of steps) ≡ length c.known
terms-known steps c h = omega (arith, ap length h.is.terms, length-numbered 0 (terms_of steps))

pub known-terms : (s : State) (now : List Step) → IsStanding s → steps_of s.trail.items ≡ now → length (terms_of now) ≡ length s.known
known-terms s now h e = ap (λ ss. length (terms_of ss)) (sym e) ∙ terms-known (steps_of s.trail.items) (core_of s) h.exact

-- ---- a term that is added

pub grown : (s t : State) (u : List (List ℕ)) (head : Head) (xs : List ℕ) (users : List ℕ) → IsInOrder s → AllBelow (length s.known) xs → IsAdded (head, xs) (core_of s) (core_of t)
    → ((i j : ℕ) → IsTogether t.rings i j ↔ (IsTogether s.rings i j ⊎ ((i ≡ length s.rings) × (j ≡ i)))) → t.trail.items ≡ s.trail.items ++ Done (Added head xs) ∷ [] → length t.sizes.items ≡ length s.sizes.items + 1 → t.steps ≡ s.steps + 1
    → t.uses.items ≡ u ++ users ∷ [] → KeepsUses s.uses.items u → length u ≡ length s.uses.items → ((a : ℕ) → 0 < times a xs → 0 < times (length s.known) (get_or u a [])) → Steps s t (Added head xs)
grown s t u head xs users h below added rings trail sizes steps e kept long own =
    let b = core_of s in
    let c = core_of t in
    record {
      did = added;
      trail = trail;
      order = record {
        shaped = shaped-added (head, xs) b c added h.shaped below rings;
        uses = uses-added (head, xs) b c u t.uses.items users added h.shaped (uses-kept s.known s.uses.items u h.uses kept long) below own e;
        sizes = omega (arith, sizes, h.sizes, ap length added.known, length-append s.known (((head, xs), length s.known) ∷ []));
        steps = omega (arith, steps, h.steps, ap (λ es. length (steps_of es)) trail, steps-last s.trail.items (Done (Added head xs)));
      };
    }

pub add-standing : (s t u : State) (head : Head) (xs : List ℕ) → IsStanding s → Steps s t (Added head xs) → Goes t u → IsWorking u [] 0 0 → IsStanding u
add-standing s t u head xs h n g w = standing-after s t u (Added head xs) h n g w (record {
  merge = λ x y q e. absurd (merges head xs x y q e);
  difference = λ x y e. absurd (differs head xs x y e);
})
  where
    merges : (head : Head) (xs : List ℕ) (x y r : ℕ) → Added head xs ≡ Merged x y r → ⊥
    merges head xs x y r e = let z = ap kind-of e in omega arith

    differs : (head : Head) (xs : List ℕ) (x y : ℕ) → Added head xs ≡ Differed x y → ⊥
    differs head xs x y e = let z = ap kind-of e in omega arith

pub working-added : (s t : State) (head : Head) (xs : List ℕ) → IsStanding s → Steps s t (Added head xs) → IsWorking t (length s.known ∷ []) 0 0
working-added s t head xs h n =
    let P : List Step → Type 0 = λ ss. IsSound ss (core_of t) in
    record {
      sound = subst P (sym (steps-now s t (Added head xs) n)) (sound-added (steps_of s.trail.items) head xs (core_of s) (core_of t) n.did n.order.shaped h.exact.is);
      uses = n.order.uses;
      sizes = n.order.sizes;
      found = found-added (head, xs) (core_of s) (core_of t) n.did h.exact.is.shaped h.exact.found;
    }

-- ---- back to a number of steps

-- what holds while steps are taken back
pub record IsGoingBack (s t : State) (n : ℕ) : Type 0 where
  pub order : IsInOrder t
  pub story : Story [] t.trail.items empty (core_of t)
  pub enough : n ≤ t.steps
  pub rest : List Step
  pub prefix : steps_of s.trail.items ≡ steps_of t.trail.items ++ rest
  pub exact : t.steps ≡ n → IsExact (steps_of t.trail.items) (core_of t)

pub going-first : (s : State) (n : ℕ) → IsStanding s → n ≤ length (steps_of s.trail.items) → IsGoingBack s s n
going-first s n h k = record {
  order = order-of s h;
  story = h.story;
  enough = omega (arith, h.steps);
  rest = [];
  prefix = sym (append-nil (steps_of s.trail.items));
  exact = λ e. h.exact;
}

-- the last entry, and what it led from
abbrev LastStory : State → Type 0
LastStory t = (before : List Entry) × (e : Entry) × (t.trail.items ≡ before ++ e ∷ []) × (m : Core) × Story [] before empty m × IsShaped m × Does e m (core_of t) × ((s : Step) → e ≡ Done s → IsExact (steps_of before) m)

exact-before : (e : Entry) (ss : List Step) (m : Core) → ExactBefore e ss m → (s : Step) → e ≡ Done s → IsExact ss m
exact-before (Done x) ss m h s e = h
exact-before (Joined k l) ss m h s e = absurd (let z = ap (λ y. length (step_of y)) e in omega arith)
exact-before Filed ss m h s e = absurd (let z = ap (λ y. length (step_of y)) e in omega arith)

last-story : (t : State) → Story [] t.trail.items empty (core_of t) → 0 < length (steps_of t.trail.items) → LastStory t
last-story t h k =
    let v = snoc t.trail.items (entries-some t.trail.items k) in
    let P : List Entry → Type 0 = λ es. Story [] es empty (core_of t) in
    let l = story-last [] v.0 v.1 empty (core_of t) (subst P v.2 h) in
    (v.0, v.1, v.2, l.0, l.1, l.2, l.3, exact-before v.1 (steps_of v.0) l.0 l.4)

pub going-led : (s t : State) (n : ℕ) → IsGoingBack s t n → n < t.steps → LastLed t
going-led s t n g k =
    let l = last-story t g.story (omega (arith, g.order.steps)) in
    record { before = l.0; entry = l.1; trail = l.2; from = l.3; shaped = l.5; did = l.6 }

one-step : (e : Entry) → (length (step_of e) ≡ 0) ⊎ ((s : Step) × (e ≡ Done s) × (length (step_of e) ≡ 1))
one-step (Done s) = inr (s, refl, refl)
one-step (Joined k m) = inl refl
one-step Filed = inl refl

pub going-on : (s t u : State) (n : ℕ) → IsGoingBack s t n → n < t.steps → Undoes t u → IsInOrder u → IsGoingBack s u n
going-on s t u n g k x o =
    let l = last-story t g.story (omega (arith, g.order.steps)) in
    let trail = x.trail l.0 l.1 l.2 in
    let core = x.core l.0 l.1 l.3 l.2 l.5 l.6 in
    let P : List Entry → Core → Type 0 = λ es c. Story [] es empty c in
    let P1 : List Entry → Type 0 = λ es. P es l.3 in
    let P2 : Core → Type 0 = λ c. P u.trail.items c in
    let E : List Entry → Core → Type 0 = λ es c. IsExact (steps_of es) c in
    let E1 : List Entry → Type 0 = λ es. E es l.3 in
    let E2 : Core → Type 0 = λ c. E u.trail.items c in
    let now : steps_of t.trail.items ≡ steps_of u.trail.items ++ (step_of l.1 ++ []) = ap steps_of l.2 ∙ steps-append l.0 (l.1 ∷ []) ∙ ap (λ es. steps_of es ++ (step_of l.1 ++ [])) (sym trail) in
    let count : t.steps ≡ u.steps + length (step_of l.1) = omega (arith, g.order.steps, o.steps, ap length now, length-append (steps_of u.trail.items) (step_of l.1 ++ []), ap length (append-nil (step_of l.1))) in
    let story = subst P2 (sym core) (subst P1 (sym trail) l.4) in
    let enough : n ≤ u.steps = elim (one-step l.1) [ inl z ↦ omega arith | inr z ↦ omega (arith, z.2) ] in
    record {
      order = o;
      story = story;
      enough = enough;
      rest = (step_of l.1 ++ []) ++ g.rest;
      prefix = g.prefix ∙ ap (λ ss. ss ++ g.rest) now ∙ append_assoc (steps_of u.trail.items) (step_of l.1 ++ []) g.rest;
      exact = λ e. elim (one-step l.1) [
        | inl z ↦ absurd (omega arith)
        | inr z ↦ subst E2 (sym core) (subst E1 (sym trail) (l.7 z.0 z.1))
      ];
    }

pub gone-back : (s t : State) (n : ℕ) → IsGoingBack s t n → t.steps ≤ n → IsStanding t × (steps_of t.trail.items ≡ take n (steps_of s.trail.items))
gone-back s t n g k =
    let e : t.steps ≡ n = omega (arith, g.enough) in (
      record {
        exact = g.exact e;
        story = g.story;
        uses = g.order.uses;
        sizes = g.order.sizes;
        steps = g.order.steps;
      },
      sym (ap (take n) g.prefix ∙ front-all n (steps_of t.trail.items) g.rest (omega (arith, g.order.steps))),
    )
