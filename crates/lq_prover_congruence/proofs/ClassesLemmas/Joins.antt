-- Two classes joined.
use Rattle.std.proofs.Common.{◌≡◌, ◌⊎◌, ◌↔◌, inl, inr, ℕ, ◌<◌, ◌≤◌, cond, eqb, List, [], ◌∷◌, ◌++◌, length, take, map, get_or, refl, sym, ap, ap₂, ◌∙◌, subst, arith}
use Rattle.std.proofs.lemmas.Bool.{cases_eq}
use Rattle.std.proofs.lemmas.Bool.Decides.{nat_tests}
use Rattle.std.proofs.lemmas.List.{length-map, take-append-le, take_all, ext_get_or}
use Rattle.std.proofs.lemmas.List.Edits.{length-swap}
use Rattle.lq_prover_congruence.specs.Ring.Ring.{IsTogether, times}
use Rattle.lq_prover_congruence.specs.Classes.Terms.{Term, find_in, term_in}
use Rattle.lq_prover_congruence.specs.Classes.Steps.{IsSame, turned, onward}
use Rattle.lq_prover_congruence.specs.Classes.Core.{Core, signature, relabelled, AllBelow, SameLabels, AllFiled, IsShaped, AllFound}
use Rattle.lq_prover_congruence.specs.Classes.Standing.{IsSound}
use Rattle.lq_prover_congruence.specs.declared.classes.steps.Step.{Step}
use Rattle.lq_prover_congruence.proofs.ClassesLemmas.Labels.{Joins, coarser, labels-kept, label-relabelled}

abbrev pub JoinsRings : List ℕ → List ℕ → ℕ → ℕ → Type 0
JoinsRings old new kept moved = (i j : ℕ) → IsTogether new i j ↔ (IsTogether old i j ⊎ ((IsTogether old i kept × IsTogether old moved j) ⊎ (IsTogether old i moved × IsTogether old kept j)))

abbrev pub label : Core → ℕ → ℕ
label c i = get_or c.labels i 0

kept-stays : (b c : Core) (kept moved : ℕ) → Joins b c kept moved → label c kept ≡ kept
kept-stays b c kept moved h =
    elim (h.each kept h.is.kept_in) [ inl p ↦ p.1 | inr p ↦ p.1 ∙ h.is.kept_rests ]

-- who was with kept or moved has the label kept
of-kept : (b c : Core) (kept moved : ℕ) → Joins b c kept moved → (i : ℕ) → i < length b.known → label b i ≡ kept → label c i ≡ kept
of-kept b c kept moved h i k e = elim (h.each i k) [ inl p ↦ p.1 | inr p ↦ p.1 ∙ e ]

of-moved : (b c : Core) (kept moved : ℕ) → Joins b c kept moved → (i : ℕ) → i < length b.known → label b i ≡ moved → label c i ≡ kept
of-moved b c kept moved h i k e = elim (h.each i k) [ inl p ↦ p.1 | inr p ↦ absurd (p.0 e) ]

filed-joined : (b c : Core) (kept moved : ℕ) → Joins b c kept moved → (es : List (Term × ℕ)) → AllFiled b es → AllFiled c es
filed-joined b c kept moved h [] a = tt
filed-joined b c kept moved h (e ∷ es) a =
    let f = a.0 in
    let same = h.is.known in
    let n = ap length same in
    let P : List (Term × ℕ) → Type 0 = λ l. (term_in l e.1).0 ≡ e.0.0 in
    let Q : List (Term × ℕ) → Type 0 = λ l. SameLabels c.labels (length l) (term_in l e.1).1 e.0.1 in (
      record {
        within = omega (arith, f.within);
        head = subst P (sym same) f.head;
        args = subst Q (sym same) (labels-kept b.labels c.labels (length b.known) (length b.known) (term_in b.known e.1).1 e.0.1 (omega arith) (coarser b c kept moved h) (within e.1 (term_in b.known e.1).1 f.within (h.shaped.args e.1 f.within)) f.args);
      },
      filed-joined b c kept moved h es a.1,
    )
  where
    within : (v : ℕ) (xs : List ℕ) → v < length b.known → AllBelow v xs → AllBelow (length b.known) xs
    within v [] k s = tt
    within v (x ∷ xs) k s = (omega (arith, s.0), within v xs k s.1)

pub shaped-joined : (b c : Core) (kept moved : ℕ) → Joins b c kept moved → JoinsRings b.next c.next kept moved → IsShaped c
shaped-joined b c kept moved h t =
    let s = h.shaped in
    let n = ap length h.is.known in
    let m : length c.labels ≡ length b.labels = ap length h.is.labels ∙ length-map b.labels (λ l. cond (eqb l moved) kept l) in
    let P : List (Term × ℕ) → Type 0 = λ l. (i : ℕ) → i < length l → AllBelow i (term_in l i).1 in
    let Q : List (Term × ℕ) → Type 0 = λ l. AllFiled c l in
    record {
      labelled = omega (arith, s.labelled);
      ringed = omega (arith, s.ringed, ap length h.is.next, length-swap b.next kept moved);
      below = λ i k. elim (h.each i (omega arith)) [ inl p ↦ omega (arith, p.1, h.is.kept_in) | inr p ↦ omega (arith, p.1, s.below i (omega arith)) ];
      rests = λ i k. elim (h.each i (omega arith)) [
        | inl p ↦ ap (label c) p.1 ∙ kept-stays b c kept moved h ∙ sym p.1
        | inr p ↦ ap (label c) p.1 ∙ still i (omega arith) p.0 ∙ sym p.1
      ];
      rings = λ i j. (
        λ u. elim ((t i j).0 u) [
          | inl v ↦ let w = (s.rings i j).0 v in (omega (arith, w.0), omega (arith, w.1), coarser b c kept moved h i j w.0 w.1 w.2)
          | inr v ↦ elim v [
            | inl v ↦ let w = (s.rings i kept).0 v.0 in let x = (s.rings moved j).0 v.1 in
                (omega (arith, w.0), omega (arith, x.1), of-kept b c kept moved h i w.0 (w.2 ∙ h.is.kept_rests) ∙ sym (of-moved b c kept moved h j x.1 (sym x.2 ∙ h.is.moved_rests)))
            | inr v ↦ let w = (s.rings i moved).0 v.0 in let x = (s.rings kept j).0 v.1 in
                (omega (arith, w.0), omega (arith, x.1), of-moved b c kept moved h i w.0 (w.2 ∙ h.is.moved_rests) ∙ sym (of-kept b c kept moved h j x.1 (sym x.2 ∙ h.is.kept_rests)))
          ]
        ],
        λ u.
            let i_in : i < length b.known = omega (arith, u.0) in
            let j_in : j < length b.known = omega (arith, u.1) in
            (t i j).1 (elim (h.each i i_in) [
              | inl p ↦ elim (h.each j j_in) [
                | inl q ↦ inl ((s.rings i j).1 (i_in, j_in, p.0 ∙ sym q.0))
                | inr q ↦ inr (inr ((s.rings i moved).1 (i_in, h.is.moved_in, p.0 ∙ sym h.is.moved_rests), (s.rings kept j).1 (h.is.kept_in, j_in, h.is.kept_rests ∙ sym p.1 ∙ u.2 ∙ q.1)))
              ]
              | inr p ↦ elim (h.each j j_in) [
                | inl q ↦ inr (inl ((s.rings i kept).1 (i_in, h.is.kept_in, sym p.1 ∙ u.2 ∙ q.1 ∙ sym h.is.kept_rests), (s.rings moved j).1 (h.is.moved_in, j_in, h.is.moved_rests ∙ sym q.0)))
                | inr q ↦ inl ((s.rings i j).1 (i_in, j_in, sym p.1 ∙ u.2 ∙ q.1))
              ]
            ]),
      );
      args = subst P (sym h.is.known) s.args;
      filed = subst Q (sym h.is.filed) (filed-joined b c kept moved h b.filed s.filed);
    }
  where
    still : (i : ℕ) → i < length b.known → (label b i ≡ moved → ⊥) → label c (label b i) ≡ label b i
    still i k d = elim (h.each (label b i) (h.shaped.below i k)) [
      | inl p ↦ absurd (d (sym (h.shaped.rests i k) ∙ p.0))
      | inr p ↦ p.1 ∙ h.shaped.rests i k
    ]

pub sound-joined : (steps : List Step) (b c : Core) (kept moved : ℕ) → Joins b c kept moved → IsShaped c → IsSound steps b → IsSame steps kept moved → IsSound steps c
sound-joined steps b c kept moved h shaped s one =
    let n = ap length h.is.known in
    let to_kept : (i : ℕ) → i < length b.known → label b i ≡ kept → IsSame steps i kept = λ i k e. s.sound i kept k h.is.kept_in (e ∙ sym h.is.kept_rests) in
    let to_moved : (i : ℕ) → i < length b.known → label b i ≡ moved → IsSame steps i moved = λ i k e. s.sound i moved k h.is.moved_in (e ∙ sym h.is.moved_rests) in
    record {
      shaped = shaped;
      terms = h.is.known ∙ s.terms;
      sound = λ i j k l e.
          let i_in : i < length b.known = omega arith in
          let j_in : j < length b.known = omega arith in
          elim (h.each i i_in) [
            | inl p ↦ elim (h.each j j_in) [
              | inl q ↦ s.sound i j i_in j_in (p.0 ∙ sym q.0)
              | inr q ↦ onward i moved j (to_moved i i_in p.0) (onward moved kept j (turned kept moved one) (turned j kept (to_kept j j_in (sym q.1 ∙ sym e ∙ p.1))))
            ]
            | inr p ↦ elim (h.each j j_in) [
              | inl q ↦ onward i kept j (to_kept i i_in (sym p.1 ∙ e ∙ q.1)) (onward kept moved j one (turned j moved (to_moved j j_in q.0)))
              | inr q ↦ s.sound i j i_in j_in (sym p.1 ∙ e ∙ q.1)
            ]
          ];
    }

-- the labels of the arguments stay, or one of them was moved
abbrev Touched : Core → ℕ → List ℕ → Type 0
Touched b moved xs = (a : ℕ) × (0 < times a xs) × (label b a ≡ moved)

touched-or-not : (b c : Core) (kept moved : ℕ) → Joins b c kept moved → (v : ℕ) (xs : List ℕ) → v < length b.known → AllBelow v xs → Touched b moved xs ⊎ (map (λ a. get_or c.labels a 0) xs ≡ map (λ a. get_or b.labels a 0) xs)
touched-or-not b c kept moved h v [] k s = inr refl
touched-or-not b c kept moved h v (x ∷ xs) k s =
    elim (h.each x (omega (arith, s.0))) [
      | inl p ↦ inl (x, here x xs, p.0)
      | inr p ↦ elim (touched-or-not b c kept moved h v xs k s.1) [
        | inl t ↦ inl (t.0, omega (arith, t.1), t.2)
        | inr e ↦ inr (ap₂ (λ y l. y ∷ l) p.1 e)
      ]
    ]
  where
    here : (x : ℕ) (xs : List ℕ) → 0 < times x (x ∷ xs)
    here x xs = grind (arith, nat_tests)

pub found-joined : (b c : Core) (kept moved : ℕ) (l r : ℕ) (queue more : List ℕ) → Joins b c kept moved → AllFound b l r queue
    → ((x y : ℕ) → x < length b.known → y < length b.known → label b x ≡ l → label b y ≡ r → label c x ≡ label c y)
    → ((i : ℕ) → 0 < times i queue → 0 < times i more)
    → ((i a : ℕ) → i < length b.known → 0 < times a (term_in b.known i).1 → label b a ≡ moved → 0 < times i more)
    → AllFound c 0 0 more
found-joined b c kept moved l r queue more h f pair keeps users i k =
    let i_in : i < length b.known = omega (arith, ap length h.is.known) in
    elim (f i i_in) [
      | inl q ↦ inl (keeps i q)
      | inr q ↦ elim (touched-or-not b c kept moved h i (term_in b.known i).1 i_in (h.shaped.args i i_in)) [
        | inl t ↦ inl (users i t.0 i_in t.1 t.2)
        | inr e ↦
            let known_i = ap (λ ks. term_in ks i) h.is.known in
            let sig : signature c.labels (term_in c.known i) ≡ signature b.labels (term_in b.known i) = ap (signature c.labels) known_i ∙ ap (λ m. ((term_in b.known i).0, m)) e in
            inr (record {
              by = q.by;
              found = ap₂ find_in h.is.filed sig ∙ q.found;
              within = omega (arith, ap length h.is.known, q.within);
              label = inl (elim q.label [ inl z ↦ coarser b c kept moved h q.by i q.within i_in z | inr z ↦ sym (pair i q.by i_in q.within z.0 z.1) ]);
            })
      ]
    ]

-- what is among the arguments of a term comes before it
pub among-below : (n : ℕ) (xs : List ℕ) (a : ℕ) → AllBelow n xs → 0 < times a xs → a < n
among-below n [] a h k = absurd (omega arith)
among-below n (x ∷ xs) a h k =
    elim (cases_eq a x) [
      | inl e ↦ omega (arith, h.0)
      | inr d ↦ among-below n xs a h.1 (let z : times a (x ∷ xs) ≡ times a xs = other a x xs d in omega arith)
    ]
  where
    other : (i x : ℕ) (xs : List ℕ) → (i ≡ x → ⊥) → times i (x ∷ xs) ≡ times i xs
    other i x xs h = grind (arith, nat_tests)

pub relabelled-is : (c : Core) (kept moved : ℕ) (new : List ℕ) → IsShaped c → length new ≡ length c.labels → moved < length c.known → label c moved ≡ moved
    → ((i : ℕ) → IsTogether c.next moved i → get_or new i 0 ≡ kept) → ((i : ℕ) → (IsTogether c.next moved i → ⊥) → get_or new i 0 ≡ label c i) → new ≡ relabelled c.labels kept moved
relabelled-is c kept moved new h l m r ring others =
    ext_get_or 0 new (relabelled c.labels kept moved) (omega (arith, length-map c.labels (λ x. cond (eqb x moved) kept x))) (λ i k.
    let i_in : i < length c.labels = omega arith in
    elim (label-relabelled c.labels kept moved i i_in) [
      | inl p ↦ ring i ((h.rings moved i).1 (m, omega (arith, h.labelled), r ∙ sym p.0)) ∙ sym p.1
      | inr p ↦ others i (λ t. p.0 (sym ((h.rings moved i).0 t).2 ∙ r)) ∙ sym p.1
    ])

pub front-all : {A : Type 0} (n : ℕ) (xs ys : List A) → n ≡ length xs → take n (xs ++ ys) ≡ xs
front-all n xs ys h =
    let le : n ≤ length xs = omega arith in
    let ge : length xs ≤ n = omega arith in
    take-append-le n xs ys le ∙ take_all n xs ge
