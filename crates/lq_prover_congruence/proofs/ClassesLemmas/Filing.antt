-- Terms filed under their signatures.
use Rattle.std.proofs.Common.{◌≡◌, ◌↔◌, inl, inr, ℕ, zero, suc, ◌<◌, true, cond, ◌&&◌, List, [], ◌∷◌, ◌++◌, length, map, get_or, Some, None, refl, sym, ap, ap₂, ◌∙◌, subst, arith, eq-eqb, eqb-true}
use Rattle.std.proofs.lemmas.Bool.{cases_Bool, and_parts}
use Rattle.std.proofs.lemmas.Slice.Eq.{bytes_eq-Decides}
use Rattle.std.specs.Str.{bytes_eq}
use Rattle.lq_prover_congruence.specs.Ring.Ring.{IsTogether}
use Rattle.lq_logic_predicates.specs.Sum.{same_symbol, var}
use Rattle.lq_logic_predicates.specs.SameLaws.{same-is, same-refl}
use Rattle.lq_logic_predicates.specs.declared.symbol.Symbol.{Symbol}
use Rattle.lq_prover_congruence.specs.Classes.Terms.{Term, same_head, same_term, find_in, term_in}
use Rattle.lq_prover_congruence.specs.Classes.Steps.{terms_of, term_at, IsSame, applied}
use Rattle.lq_prover_congruence.specs.Classes.Core.{Core, signature, AllBelow, SameLabels, IsFiled, AllFiled, IsShaped}
use Rattle.lq_prover_congruence.specs.Classes.Standing.{IsFiledNow, IsSound}
use Rattle.lq_prover_congruence.specs.declared.classes.head.Head.{Head}
use Rattle.lq_prover_congruence.specs.declared.classes.head.Head.TheVariants.{Symbol as Named, Length, Measure}
use Rattle.lq_prover_congruence.specs.declared.classes.steps.Step.{Step}
use Rattle.lq_prover_congruence.proofs.ClassesLemmas.Labels.{term-numbered, length-numbered}

symbol-is : (x y : Symbol) → same_symbol x y ≡ true → x ≡ y
symbol-is x y h = let e = same-is (var x) (var y) h in cc

pub head-is : (h k : Head) → same_head h k ≡ true → h ≡ k
head-is (Named x) (Named y) h = ap Named (symbol-is x y h)
head-is Length Length h = refl
head-is (Measure f) (Measure g) h = ap (λ n. Measure (record { 0 = n })) (eqb-true f.0 g.0 h)
head-is (Named x) Length h = cc
head-is (Named x) (Measure g) h = cc
head-is Length (Named y) h = cc
head-is Length (Measure g) h = cc
head-is (Measure f) (Named y) h = cc
head-is (Measure f) Length h = cc

pub head-refl : (h : Head) → same_head h h ≡ true
head-refl (Named x) = same-refl (var x)
head-refl Length = refl
head-refl (Measure f) = eq-eqb f.0 f.0 refl

pub term-is : (s t : Term) → same_term s t ≡ true → s ≡ t
term-is s t h =
    let p = and_parts (same_head s.0 t.0) (bytes_eq s.1 t.1) h in
    ap₂ (λ x y. (x, y)) (head-is s.0 t.0 p.0) ((bytes_eq-Decides s.1 t.1).0 p.1)

pub term-refl : (t : Term) → same_term t t ≡ true
term-refl t = ap₂ (λ x y. x && y) (head-refl t.0) ((bytes_eq-Decides t.1 t.1).1 refl)

pub find-more : (es : List (Term × ℕ)) (e : Term × ℕ) (t : Term) (v : ℕ) → find_in es t ≡ Some v → find_in (es ++ e ∷ []) t ≡ Some v
find-more [] e t v h = cc
find-more (x ∷ es) e t v h =
    elim (cases_Bool (same_term t x.0)) [
      | inl b ↦ ap (λ q. cond q (Some x.1) (find_in (es ++ e ∷ []) t)) b ∙ sym (ap (λ q. cond q (Some x.1) (find_in es t)) b) ∙ h
      | inr b ↦ ap (λ q. cond q (Some x.1) (find_in (es ++ e ∷ []) t)) b ∙ find-more es e t v (sym (ap (λ q. cond q (Some x.1) (find_in es t)) b) ∙ h)
    ]

pub find-new : (es : List (Term × ℕ)) (t : Term) (v : ℕ) → find_in es t ≡ None → find_in (es ++ (t, v) ∷ []) t ≡ Some v
find-new [] t v h = ap (λ q. cond q (Some v) None) (term-refl t)
find-new (x ∷ es) t v h =
    elim (cases_Bool (same_term t x.0)) [
      | inl b ↦ let z : Some x.1 ≡ None = sym (ap (λ q. cond q (Some x.1) (find_in es t)) b) ∙ h in cc
      | inr b ↦ ap (λ q. cond q (Some x.1) (find_in (es ++ (t, v) ∷ []) t)) b ∙ find-new es t v (sym (ap (λ q. cond q (Some x.1) (find_in es t)) b) ∙ h)
    ]

pub found-filed : (c : Core) (es : List (Term × ℕ)) (t : Term) (v : ℕ) → AllFiled c es → find_in es t ≡ Some v → IsFiled c t v
found-filed c [] t v a h = cc
found-filed c (x ∷ es) t v a h =
    elim (cases_Bool (same_term t x.0)) [
      | inl b ↦
          let w : x.1 ≡ v = let z : Some x.1 ≡ Some v = sym (ap (λ q. cond q (Some x.1) (find_in es t)) b) ∙ h in cc in
          let P : Term → Type 0 = λ s. IsFiled c s v in
          let Q : ℕ → Type 0 = λ n. IsFiled c x.0 n in
          subst P (sym (term-is t x.0 b)) (subst Q w a.0)
      | inr b ↦ found-filed c es t v a.1 (sym (ap (λ q. cond q (Some x.1) (find_in es t)) b) ∙ h)
    ]

-- the arguments of two terms with one signature are the same
args-same : (steps : List Step) (c : Core) → IsSound steps c → (v n : ℕ) (xs ys : List ℕ) → v < length c.known → n < length c.known → AllBelow v xs → AllBelow n ys → SameLabels c.labels (length c.known) ys (map (λ a. get_or c.labels a 0) xs) → (length xs ≡ length ys) × ((k : ℕ) → k < length xs → IsSame steps (get_or xs k 0) (get_or ys k 0))
args-same steps c h v n [] [] k l p q s = (refl, λ i z. absurd (omega arith))
args-same steps c h v n [] (y ∷ ys) k l p q s = absurd s
args-same steps c h v n (x ∷ xs) [] k l p q s = absurd s
args-same steps c h v n (x ∷ xs) (y ∷ ys) k l p q s =
    let x_in : x < length c.known = omega (arith, p.0) in
    let rest = args-same steps c h v n xs ys k l p.1 q.1 s.2 in
    let here : IsSame steps x y = h.sound x y x_in (omega (arith, q.0)) (sym (h.shaped.rests x x_in) ∙ sym s.1) in
    (ap suc rest.0, each x xs y ys here rest.1)
  where
    each : (x : ℕ) (xs : List ℕ) (y : ℕ) (ys : List ℕ) → IsSame steps x y → ((k : ℕ) → k < length xs → IsSame steps (get_or xs k 0) (get_or ys k 0)) → (k : ℕ) → k < suc (length xs) → IsSame steps (get_or (x ∷ xs) k 0) (get_or (y ∷ ys) k 0)
    each x xs y ys one more zero z = one
    each x xs y ys one more (suc k) z = more k (omega arith)

pub found-same : (steps : List Step) (c : Core) (i v : ℕ) → IsSound steps c → i < length c.known → find_in c.filed (signature c.labels (term_in c.known i)) ≡ Some v → IsSame steps i v × (v < length c.known)
found-same steps c i v h k e =
    let f = found-filed c c.filed (signature c.labels (term_in c.known i)) v h.shaped.filed e in
    let ts = terms_of steps in
    let long : length c.known ≡ length ts = ap length h.terms ∙ length-numbered 0 ts in
    let at_i : term_at ts i ≡ term_in c.known i = sym (ap (λ l. term_in l i) h.terms ∙ term-numbered 0 ts i) in
    let at_v : term_at ts v ≡ term_in c.known v = sym (ap (λ l. term_in l v) h.terms ∙ term-numbered 0 ts v) in
    let xs = (term_in c.known i).1 in
    let ys = (term_in c.known v).1 in
    let a = args-same steps c h i v xs ys k f.within (h.shaped.args i k) (h.shaped.args v f.within) f.args in
    let head : (term_in c.known v).0 ≡ (term_in c.known i).0 = f.head in
    (applied i v (term_in c.known i).0 xs ys (omega (arith, k, long), at_i) (omega (arith, f.within, long), at_v ∙ ap (λ z. (z, ys)) head) a.0 a.1, f.within)

-- ---- a term is filed
filed-now : (b c : Core) (w : IsFiledNow b c) (es : List (Term × ℕ)) → AllFiled b es → AllFiled c es
filed-now b c w [] a = tt
filed-now b c w (e ∷ es) a =
    let P : List (Term × ℕ) → List ℕ → Type 0 = λ ks ls. SameLabels ls (length ks) (term_in ks e.1).1 e.0.1 in
    let Q : List (Term × ℕ) → Type 0 = λ ks. SameLabels b.labels (length ks) (term_in ks e.1).1 e.0.1 in
    let R : List ℕ → Type 0 = λ ls. SameLabels ls (length c.known) (term_in c.known e.1).1 e.0.1 in (
      record {
        within = omega (arith, a.0.within, ap length w.known);
        head = ap (λ ks. (term_in ks e.1).0) w.known ∙ a.0.head;
        args = subst R (sym w.labels) (subst Q (sym w.known) a.0.args);
      },
      filed-now b c w es a.1,
    )

own-labels : (c : Core) (i : ℕ) (xs : List ℕ) → IsShaped c → i < length c.known → AllBelow i xs → SameLabels c.labels (length c.known) xs (map (λ a. get_or c.labels a 0) xs)
own-labels c i [] h k s = tt
own-labels c i (x ∷ xs) h k s =
    let x_in : x < length c.known = omega (arith, s.0) in
    (h.below x x_in, sym (h.rests x x_in), own-labels c i xs h k s.1)

all-filed-append : (c : Core) (es : List (Term × ℕ)) (e : Term × ℕ) → AllFiled c es → IsFiled c e.0 e.1 → AllFiled c (es ++ e ∷ [])
all-filed-append c [] e a f = (f, tt)
all-filed-append c (x ∷ es) e a f = (a.0, all-filed-append c es e a.1 f)

pub shaped-filed : (b c : Core) (i : ℕ) (w : IsFiledNow b c) → w.entry ≡ (signature b.labels (term_in b.known i), i) → IsShaped b → i < length b.known → IsShaped c
shaped-filed b c i w e h k =
    let n = ap length w.known in
    let own : IsFiled b w.entry.0 w.entry.1 =
    (let P : Term × ℕ → Type 0 = λ z. IsFiled b z.0 z.1 in
    subst P (sym e) (record { within = k; head = refl; args = own-labels b i (term_in b.known i).1 h k (h.args i k) })) in
    let all = filed-now b c w (b.filed ++ w.entry ∷ []) (all-filed-append b b.filed w.entry h.filed own) in
    let P : List ℕ → Type 0 = λ l. (i : ℕ) → i < length b.known → get_or l i 0 < length b.known in
    let F : List (Term × ℕ) → Type 0 = λ l. AllFiled c l in
    let A : List (Term × ℕ) → Type 0 = λ l. (i : ℕ) → i < length l → AllBelow i (term_in l i).1 in
    record {
      labelled = omega (arith, h.labelled, ap length w.labels);
      ringed = omega (arith, h.ringed, ap length w.next);
      below = λ i l. omega (arith, h.below i (omega arith), ap (λ ls. get_or ls i 0) w.labels);
      rests = λ i l. (let R : List ℕ → Type 0 = λ ls. get_or ls (get_or ls i 0) 0 ≡ get_or ls i 0 in subst R (sym w.labels) (h.rests i (omega arith)));
      rings = λ i j.
          (let G : List ℕ → List ℕ → Type 0 = λ ns ls. IsTogether ns i j ↔ ((i < length b.known) × (j < length b.known) × (get_or ls i 0 ≡ get_or ls j 0)) in
          let G1 : List ℕ → Type 0 = λ ns. G ns b.labels in
          let G2 : List ℕ → Type 0 = λ ls. G c.next ls in
          let g = subst G2 (sym w.labels) (subst G1 (sym w.next) (h.rings i j)) in
          (λ t. let z = g.0 t in (omega (arith, z.0), omega (arith, z.1), z.2), λ z. g.1 (omega (arith, z.0), omega (arith, z.1), z.2)));
      args = subst A (sym w.known) h.args;
      filed = subst F (sym w.filed) all;
    }
