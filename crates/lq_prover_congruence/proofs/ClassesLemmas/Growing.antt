-- One more term.
use Rattle.std.proofs.Common.{◌≡◌, ◌⊎◌, ◌↔◌, inl, inr, ℕ, ◌+◌, ◌<◌, ◌≤◌, List, [], ◌∷◌, ◌++◌, length, map, get_or, refl, sym, ap, ap₂, ◌∙◌, subst, arith, length-append}
use Rattle.std.proofs.lemmas.Bool.{cases_eq}
use Rattle.std.proofs.lemmas.Bool.Decides.{nat_tests}
use Rattle.std.proofs.lemmas.List.{get_or_append_left}
use Rattle.std.proofs.Math.Seq.{get_or-append_seam}
use Rattle.lq_prover_congruence.specs.Ring.Ring.{IsTogether, times}
use Rattle.lq_prover_congruence.specs.Classes.Terms.{Term, find_in, term_in}
use Rattle.lq_prover_congruence.specs.Classes.Steps.{terms_of, IsSame, itself}
use Rattle.lq_prover_congruence.specs.Classes.Core.{Core, signature, AllBelow, SameLabels, AllFiled, IsShaped, AllFound}
use Rattle.lq_prover_congruence.specs.Classes.Standing.{numbered, HasUses, IsAdded, IsSound}
use Rattle.lq_prover_congruence.specs.Classes.Moves.{KeepsUses}
use Rattle.lq_prover_congruence.proofs.ClassesLemmas.Joins.{among-below}
use Rattle.lq_prover_congruence.specs.declared.classes.head.Head.{Head}
use Rattle.lq_prover_congruence.specs.declared.classes.steps.Step.{Step}
use Rattle.lq_prover_congruence.specs.declared.classes.steps.Step.TheVariants.{Added}
use Rattle.lq_prover_congruence.proofs.ClassesLemmas.Labels.{labels-kept, length-numbered}
use Rattle.lq_prover_congruence.proofs.ClassesLemmas.Longer.{same-more, numbered-last, terms-append}
use Rattle.lq_prover_congruence.proofs.ClassesLemmas.Undone.{added-args, term-front}

-- what is known of the lists with one term more
pub record More (t : Term) (b c : Core) : Type 0 where
  pub known : length c.known ≡ length b.known + 1
  pub labels : length c.labels ≡ length b.labels + 1
  pub next : length c.next ≡ length b.next + 1
  pub old : (i : ℕ) → i < length b.known → get_or c.labels i 0 ≡ get_or b.labels i 0
  pub last : get_or c.labels (length b.known) 0 ≡ length b.known
  pub term_old : (i : ℕ) → i < length b.known → term_in c.known i ≡ term_in b.known i
  pub term_last : term_in c.known (length b.known) ≡ t

pub more : (t : Term) (b c : Core) → IsAdded t b c → length b.labels ≡ length b.known → More t b c
more t b c h l =
    let n = length b.known in
    record {
      known = ap length h.known ∙ length-append b.known ((t, n) ∷ []);
      labels = ap length h.labels ∙ length-append b.labels (n ∷ []);
      next = ap length h.next ∙ length-append b.next (n ∷ []);
      old = λ i k. ap (λ ls. get_or ls i 0) h.labels ∙ get_or_append_left b.labels (n ∷ []) 0 i (omega arith);
      last = ap (λ ls. get_or ls n 0) h.labels ∙ ap (λ m. get_or (b.labels ++ n ∷ []) m 0) (sym l) ∙ get_or-append_seam b.labels n [] 0;
      term_old = λ i k. ap (λ ks. term_in ks i) h.known ∙ term-front b.known (t, n) i k;
      term_last = added-args t b c h;
    }

-- an index is an old one or the last
pub old-or-last : (i n m : ℕ) → m ≡ n + 1 → i < m → (i < n) ⊎ (i ≡ n)
old-or-last i n m e h = elim (cases_eq i n) [ inl q ↦ inr q | inr d ↦ inl (let ne : i ≡ n → ⊥ = d in omega arith) ]

same-map : (b c : Core) (t : Term) → More t b c → (n : ℕ) (xs : List ℕ) → n ≤ length b.known → AllBelow n xs → map (λ a. get_or c.labels a 0) xs ≡ map (λ a. get_or b.labels a 0) xs
same-map b c t m n [] k h = refl
same-map b c t m n (x ∷ xs) k h = ap₂ (λ y l. y ∷ l) (m.old x (omega (arith, h.0))) (same-map b c t m n xs k h.1)

all-filed : (t : Term) (b c : Core) → More t b c → IsShaped b → (es : List (Term × ℕ)) → AllFiled b es → AllFiled c es
all-filed t b c m h [] a = tt
all-filed t b c m h (e ∷ es) a =
    let f = a.0 in
    let same = m.term_old e.1 f.within in
    let Q : Term → Type 0 = λ x. SameLabels c.labels (length c.known) x.1 e.0.1 in (
      record {
        within = omega (arith, f.within, m.known);
        head = ap (λ x. x.0) same ∙ f.head;
        args = subst Q (sym same) (labels-kept b.labels c.labels (length b.known) (length c.known) (term_in b.known e.1).1 e.0.1 (omega (arith, m.known))
            (λ x y k l z. m.old x k ∙ z ∙ sym (m.old y l)) (within e.1 (term_in b.known e.1).1 f.within (h.args e.1 f.within)) f.args);
      },
      all-filed t b c m h es a.1,
    )
  where
    within : (v : ℕ) (xs : List ℕ) → v < length b.known → AllBelow v xs → AllBelow (length b.known) xs
    within v [] k s = tt
    within v (x ∷ xs) k s = (omega (arith, s.0), within v xs k s.1)

pub shaped-added : (t : Term) (b c : Core) → IsAdded t b c → IsShaped b → AllBelow (length b.known) t.1
    → ((i j : ℕ) → IsTogether c.next i j ↔ (IsTogether b.next i j ⊎ ((i ≡ length b.next) × (j ≡ i)))) → IsShaped c
shaped-added t b c h s below rings =
    let m = more t b c h s.labelled in
    let n = length b.known in
    let F : List (Term × ℕ) → Type 0 = λ l. AllFiled c l in
    record {
      labelled = omega (arith, m.labels, m.known, s.labelled);
      ringed = omega (arith, m.next, m.known, s.ringed);
      below = λ i k. elim (old-or-last i n (length c.known) m.known k) [
        | inl l ↦ omega (arith, m.old i l, s.below i l, m.known)
        | inr e ↦ omega (arith, ap (λ x. get_or c.labels x 0) e, m.last, m.known)
      ];
      rests = λ i k. elim (old-or-last i n (length c.known) m.known k) [
        | inl l ↦ ap (λ x. get_or c.labels x 0) (m.old i l) ∙ m.old (get_or b.labels i 0) (s.below i l) ∙ s.rests i l ∙ sym (m.old i l)
        | inr e ↦
            let lab : get_or c.labels i 0 ≡ n = ap (λ x. get_or c.labels x 0) e ∙ m.last in
            ap (λ x. get_or c.labels x 0) lab ∙ m.last ∙ sym lab
      ];
      rings = λ i j. (
        λ u. elim ((rings i j).0 u) [
          | inl v ↦ let w = (s.rings i j).0 v in (omega (arith, w.0, m.known), omega (arith, w.1, m.known), m.old i w.0 ∙ w.2 ∙ sym (m.old j w.1))
          | inr v ↦ (omega (arith, v.0, m.known, s.ringed), omega (arith, v.0, v.1, m.known, s.ringed), ap (λ x. get_or c.labels x 0) (sym v.1))
        ],
        λ u. (rings i j).1 (elim (old-or-last i n (length c.known) m.known u.0) [
          | inl l ↦ elim (old-or-last j n (length c.known) m.known u.1) [
            | inl r ↦ inl ((s.rings i j).1 (l, r, sym (m.old i l) ∙ u.2 ∙ m.old j r))
            | inr e ↦ absurd (omega (arith, m.old i l, s.below i l, u.2, ap (λ x. get_or c.labels x 0) e, m.last))
          ]
          | inr e ↦ elim (old-or-last j n (length c.known) m.known u.1) [
            | inl r ↦ absurd (omega (arith, m.old j r, s.below j r, u.2, ap (λ x. get_or c.labels x 0) e, m.last))
            | inr f ↦ inr (omega (arith, s.ringed), omega arith)
          ]
        ]),
      );
      args = λ i k. elim (old-or-last i n (length c.known) m.known k) [
        | inl l ↦ (let P : Term → Type 0 = λ x. AllBelow i x.1 in subst P (sym (m.term_old i l)) (s.args i l))
        | inr e ↦
            (let P : ℕ → Type 0 = λ x. AllBelow x (term_in c.known x).1 in
            let Q : Term → Type 0 = λ x. AllBelow n x.1 in
            subst P (sym e) (subst Q (sym m.term_last) below))
      ];
      filed = subst F (sym h.filed) (all-filed t b c m s b.filed s.filed);
    }

-- the new term waits, and all others are found
pub found-added : (t : Term) (b c : Core) → IsAdded t b c → IsShaped b → AllFound b 0 0 [] → AllFound c 0 0 (length b.known ∷ [])
found-added t b c h s f i k =
    let m = more t b c h s.labelled in
    let n = length b.known in
    elim (old-or-last i n (length c.known) m.known k) [
      | inr e ↦ inl (here i n e)
      | inl l ↦ elim (f i l) [
        | inl z ↦ absurd (omega arith)
        | inr g ↦
            let same : signature c.labels (term_in c.known i) ≡ signature b.labels (term_in b.known i) = ap (signature c.labels) (m.term_old i l) ∙ ap (λ z. ((term_in b.known i).0, z)) (same-map b c t m i (term_in b.known i).1 (omega arith) (s.args i l)) in
            inr (record {
              by = g.by;
              found = ap₂ find_in h.filed same ∙ g.found;
              within = omega (arith, g.within, m.known);
              label = inl (m.old g.by g.within ∙ elim g.label [ inl z ↦ z | inr z ↦ z.1 ∙ sym z.0 ] ∙ sym (m.old i l));
            })
      ]
    ]
  where
    here : (i n : ℕ) → i ≡ n → 0 < times i (n ∷ [])
    here i n e = grind (arith, nat_tests)

pub sound-added : (steps : List Step) (head : Head) (xs : List ℕ) (b c : Core) → IsAdded (head, xs) b c → IsShaped c → IsSound steps b → IsSound (steps ++ Added head xs ∷ []) c
sound-added steps head xs b c h shaped s =
    let t : Term = (head, xs) in
    let ss = steps ++ Added head xs ∷ [] in
    let m = more t b c h s.shaped.labelled in
    let n = length b.known in
    let ts = terms_of steps in
    let long : n ≡ 0 + length ts = omega (arith, ap length s.terms, length-numbered 0 ts) in
    record {
      shaped = shaped;
      terms = h.known ∙ ap₂ (λ ks x. ks ++ (t, x) ∷ []) s.terms long ∙ sym (numbered-last 0 ts t) ∙ ap (numbered 0) (sym (terms-append steps (Added head xs ∷ [])));
      sound = λ i j k l e. elim (old-or-last i n (length c.known) m.known k) [
        | inl p ↦ elim (old-or-last j n (length c.known) m.known l) [
          | inl q ↦ same-more steps (Added head xs ∷ []) i j (s.sound i j p q (sym (m.old i p) ∙ e ∙ m.old j q))
          | inr q ↦ absurd (omega (arith, m.old i p, s.shaped.below i p, e, ap (λ x. get_or c.labels x 0) q, m.last))
        ]
        | inr p ↦ elim (old-or-last j n (length c.known) m.known l) [
          | inl q ↦ absurd (omega (arith, m.old j q, s.shaped.below j q, e, ap (λ x. get_or c.labels x 0) p, m.last))
          | inr q ↦ (let P : ℕ → Type 0 = λ x. IsSame ss i x in subst P (let z : i ≡ j = omega arith in z) (itself i))
        ]
      ];
    }

-- ---- users

pub uses-kept : (known : List (Term × ℕ)) (old new : List (List ℕ)) → HasUses known old → KeepsUses old new → length new ≡ length old → HasUses known new
uses-kept known old new h k l = record {
  each = l ∙ h.each;
  listed = λ i a n z. k a i (h.listed i a n z);
}

pub uses-added : (t : Term) (b c : Core) (uses new : List (List ℕ)) (users : List ℕ) → IsAdded t b c → IsShaped b → HasUses b.known uses → AllBelow (length b.known) t.1
    → ((a : ℕ) → 0 < times a t.1 → 0 < times (length b.known) (get_or uses a [])) → new ≡ uses ++ users ∷ [] → HasUses c.known new
uses-added t b c uses new users h s u below own e =
    let m = more t b c h s.labelled in
    let n = length b.known in
    let Q : List (List ℕ) → Type 0 = λ us. (i a : ℕ) → i < length c.known → 0 < times a (term_in c.known i).1 → 0 < times i (get_or us a []) in
    record {
      each = omega (arith, ap length e, length-append uses (users ∷ []), u.each, m.known);
      listed = subst Q (sym e) (λ i a k z. elim (old-or-last i n (length c.known) m.known k) [
        | inl l ↦
            (let P : Term → Type 0 = λ x. 0 < times a x.1 in
            let y = subst P (m.term_old i l) z in
            let a_in : a < length uses = omega (arith, among-below i (term_in b.known i).1 a (s.args i l) y, u.each) in
            let R : List ℕ → Type 0 = λ us. 0 < times i us in
            subst R (sym (get_or_append_left uses (users ∷ []) [] a a_in)) (u.listed i a l y))
        | inr q ↦
            (let P : Term → Type 0 = λ x. 0 < times a x.1 in
            let T : ℕ → Type 0 = λ x. 0 < times a (term_in c.known x).1 in
            let y = subst P m.term_last (subst T q z) in
            let a_in : a < length uses = omega (arith, among-below n t.1 a below y, u.each) in
            let R : List ℕ → Type 0 = λ us. 0 < times n us in
            let S : ℕ → Type 0 = λ x. 0 < times x (get_or (uses ++ users ∷ []) a []) in
            subst S (sym q) (subst R (sym (get_or_append_left uses (users ∷ []) [] a a_in)) (own a y)))
      ]);
    }
