-- The forest keeps to the steps.
use Rattle.std.proofs.Common.{◌≡◌, ◌⊎◌, inl, inr, ℕ, zero, suc, ◌<◌, ◌≤◌, List, [], ◌∷◌, ◌++◌, length, take, Option, Some, None, Result, Ok, Err, OnOk, OnErr, refl, sym, ap, ◌∙◌, subst, arith, length-append}
use Rattle.std.proofs.lemmas.Bool.{cases_eq}
use Rattle.std.proofs.lemmas.List.{take_all, take-append-le}
use Rattle.std.specs.declared.alloc.AllocError.{AllocError}
use Rattle.lq_prover_congruence.specs.Classes.Terms.{Term}
use Rattle.lq_prover_congruence.specs.Classes.Steps.{terms_of, term_at, IsTerm, IsMerge, IsSame, merged, itself, turned, onward, applied}
use Rattle.lq_prover_congruence.specs.Classes.Chains.{IsName, AllNamed, IsChain}
use Rattle.lq_prover_congruence.specs.Classes.Forest.{edges_of, IsPath, IsRoot, AreJoined, AreApart, IsForest, undone, IsLog, Follows, AreEnds, Links, IsKept, Notes}
use Rattle.lq_prover_congruence.specs.Classes.Ways.{IsWay}
use Rattle.lq_prover_congruence.specs.declared.classes.head.Head.{Head}
use Rattle.lq_prover_congruence.specs.declared.classes.steps.Step.{Step}
use Rattle.lq_prover_congruence.specs.declared.classes.steps.Step.TheVariants.{Added, Merged, Differed}
use Rattle.lq_prover_congruence.specs.declared.classes.forest.Edge.{Edge}
use Rattle.lq_prover_congruence.specs.declared.classes.forest.Forest.{Forest}
use Rattle.lq_prover_congruence.specs.declared.classes.forest.Written.{Written}
use Rattle.lq_prover_congruence.specs.Classes.Core.{Core}
use Rattle.lq_prover_congruence.specs.Classes.Standing.{IsExact}
use Rattle.lq_prover_congruence.proofs.ClassesLemmas.Clashes.{kind-of}
use Rattle.lq_prover_congruence.proofs.ClassesLemmas.Following.{terms-known}
use Rattle.lq_prover_congruence.proofs.ClassesLemmas.Longer.{terms-append, terms-noted, term-before, term-more, merge-more, merge-here, merge-last}
use Rattle.lq_prover_congruence.proofs.ClassesLemmas.Logs.{undone-none, log-room, follows-on}
use Rattle.lq_prover_congruence.proofs.ClassesLemmas.Trees.{Edges, rooted-same, joined-same, joined-turned, joined-onward, joined-itself}

-- each number of a merge is that of a term
abbrev pub MergesIn : List Step → Type 0
MergesIn steps = (a b r : ℕ) → IsMerge steps a b r → (a < length (terms_of steps)) × (b < length (terms_of steps))

abbrev pub AreOnce : List Step → Type 0
AreOnce steps = (i j : ℕ) (t : Term) → IsTerm steps i t → IsTerm steps j t → i ≡ j

pub forest-same : (steps : List Step) (f g : Edges) → ((i : ℕ) → g i ≡ f i) → IsForest steps f → IsForest steps g
forest-same steps f g h k = record {
  rooted = rooted-same f g h k.rooted;
  edges = λ i e q. k.edges i e (sym (h i) ∙ q);
  met = λ n a b r m. joined-same f g h a b (k.met n a b r m);
}

-- ---- names, in longer lists

name-before : (xs ys : List Step) (i : ℕ) → i < length (terms_of xs) → IsName (xs ++ ys) i → IsName xs i
name-before xs ys i l h =
    let e = ap (λ ts. term_at ts i) (terms-append xs ys) ∙ term-before (terms_of xs) (terms_of ys) i l in
    (h.0, h.1, (l, sym e ∙ h.2.1))

named-before : (xs ys : List Step) → MergesIn xs → AllNamed (xs ++ ys) → AllNamed xs
named-before xs ys h n = λ a b r m. (let p = n a b r (merge-more xs ys a b r m) in let l = h a b r m in (name-before xs ys a l.0 p.0, name-before xs ys b l.1 p.1))

-- ---- names that are the same are joined

same-joined : (steps : List Step) (f : Edges) → IsForest steps f → AllNamed steps → AreOnce steps → (i j : ℕ) → IsSame steps i j → IsName steps i ⊎ IsName steps j → AreJoined f i j × IsName steps i × IsName steps j
same-joined steps f h n o i j (merged _ _ r m) k = let q = n i j r m in (h.met n i j r m, q.0, q.1)
same-joined steps f h n o i j (itself _) k = let x : IsName steps i = elim k [ inl z ↦ z | inr z ↦ z ] in (joined-itself f h.rooted i, x, x)
same-joined steps f h n o i j (turned _ _ s) k =
    let r = same-joined steps f h n o j i s (elim k [ inl z ↦ inr z | inr z ↦ inl z ]) in
    (joined-turned f j i r.0, r.2, r.1)
same-joined steps f h n o i j (onward _ l _ s t) k =
    elim k [
      | inl z ↦
          let p = same-joined steps f h n o i l s (inl z) in
          let q = same-joined steps f h n o l j t (inl p.2) in
          (joined-onward f i l j p.0 q.0, p.1, q.2)
      | inr z ↦
          let q = same-joined steps f h n o l j t (inr z) in
          let p = same-joined steps f h n o i l s (inr q.1) in
          (joined-onward f i l j p.0 q.0, p.1, q.2)
    ]
same-joined steps f h n o i j (applied _ _ head xs ys t u l s) k =
    let none : length xs ≡ 0 =
    elim k [
      | inl z ↦ ap (λ v. length v.1) (sym t.1 ∙ z.2.1)
      | inr z ↦ l ∙ ap (λ v. length v.1) (sym u.1 ∙ z.2.1)
    ] in
    let e : xs ≡ ys = empty xs ys none (sym l ∙ none) in
    let P : List ℕ → Type 0 = λ zs. IsTerm steps j (head, zs) in
    let same : i ≡ j = o i j (head, xs) t (subst P (sym e) u) in
    let Q : ℕ → Type 0 = λ y. AreJoined f i y × IsName steps i × IsName steps y in
    let N : ℕ → Type 0 = λ y. IsName steps y in
    let x : IsName steps i = elim k [ inl z ↦ z | inr z ↦ subst N (sym same) z ] in
    subst Q same (joined-itself f h.rooted i, x, x)
  where
    empty : (xs ys : List ℕ) → length xs ≡ 0 → length ys ≡ 0 → xs ≡ ys
    empty [] [] p q = refl
    empty [] (y ∷ ys) p q = absurd (omega arith)
    empty (x ∷ xs) ys p q = absurd (omega arith)

-- terms of one tree are the same
path-class : (steps : List Step) (f : Edges) → IsForest steps f → (k i r : ℕ) → IsPath f k i r → IsSame steps i r
path-class steps f h zero i r p = let P : ℕ → Type 0 = λ y. IsSame steps i y in subst P p.0 (itself i)
path-class steps f h (suc k) i r p =
    let e = p.0 in
    let up : IsSame steps i e.to =
    elim (h.edges i e p.1) [
      | inl m ↦ merged i e.to e.reason m
      | inr m ↦ turned e.to i (merged e.to i e.reason m)
    ] in
    onward i e.to r up (path-class steps f h k e.to r p.2)

pub joined-class : (steps : List Step) (f : Edges) → IsForest steps f → (i j : ℕ) → AreJoined f i j → IsSame steps i j
joined-class steps f h i j p = onward i p.0 j (path-class steps f h p.1.0 i p.0 p.1.1) (turned j p.0 (path-class steps f h p.2.0 j p.0 p.2.1))

pub apart-class : (steps : List Step) (f : Edges) → IsForest steps f → (i j : ℕ) → (IsSame steps i j → ⊥) → AreApart f i j
apart-class steps f h i j d =
    let r = h.rooted i in
    let s = h.rooted j in
    let P : ℕ → Type 0 = λ y. IsRoot f j y in
    (r.0, s.0, r.1, s.1, λ e. d (joined-class steps f h i j (r.0, r.1, subst P (sym e) s.1)))

-- ---- a step more

pub forest-noted : (steps : List Step) (s : Step) (f : Edges) → MergesIn steps → ((a b r : ℕ) → s ≡ Merged a b r → ⊥) → IsForest steps f → IsForest (steps ++ s ∷ []) f
forest-noted steps s f l d h = record {
  rooted = h.rooted;
  edges = λ i e q. elim (h.edges i e q) [
    | inl m ↦ inl (merge-more steps (s ∷ []) i e.to e.reason m)
    | inr m ↦ inr (merge-more steps (s ∷ []) e.to i e.reason m)
  ];
  met = λ n a b r m. elim (merge-last steps s a b r m) [
    | inl k ↦ h.met (named-before steps (s ∷ []) l n) a b r k
    | inr e ↦ absurd (d a b r e)
  ];
}

ends : (f : Edges) (x y z a b r : ℕ) → Merged x y z ≡ Merged a b r → AreJoined f x y → AreJoined f a b
ends f x y z a b r e j =
    let p : x ≡ a = cc in
    let q : y ≡ b = cc in
    let P : ℕ → Type 0 = λ v. AreJoined f v y in
    let Q : ℕ → Type 0 = λ v. AreJoined f a v in
    subst Q q (subst P p j)

-- two that were the same are merged
pub forest-met : (steps : List Step) (f : Edges) (x y z : ℕ) → MergesIn steps → AreOnce steps → x < length (terms_of steps) → IsSame steps x y → IsForest steps f → IsForest (steps ++ Merged x y z ∷ []) f
forest-met steps f x y z l o within same h =
    let s = Merged x y z in
    record {
      rooted = h.rooted;
      edges = λ i e q. elim (h.edges i e q) [
        | inl m ↦ inl (merge-more steps (s ∷ []) i e.to e.reason m)
        | inr m ↦ inr (merge-more steps (s ∷ []) e.to i e.reason m)
      ];
      met = λ n a b r m. (let names = named-before steps (s ∷ []) l n in
          elim (merge-last steps s a b r m) [
            | inl k ↦ h.met names a b r k
            | inr e ↦
                let name = name-before steps (s ∷ []) x within (n x y z (merge-here steps s x y z refl)).0 in
                ends f x y z a b r e (same-joined steps f h names o x y same (inl name)).0
          ]);
    }

ends-merge : (x y z a b r : ℕ) → a ≡ x → b ≡ y → r ≡ z → Merged x y z ≡ Merged a b r
ends-merge x y z a b r p q w = cc

turned-round : (steps : List Step) (f : Edges) → IsForest steps f → (i : ℕ) (e : Edge) → f e.to ≡ Some (record { to = i; reason = e.reason }) → IsMerge steps i e.to e.reason ⊎ IsMerge steps e.to i e.reason
turned-round steps f h i e q = elim (h.edges e.to (record { to = i; reason = e.reason }) q) [ inl m ↦ inr m | inr m ↦ inl m ]

-- two trees are joined by a merge
pub forest-linked : (steps : List Step) (s t : Forest) (x y from to z : ℕ) → MergesIn steps → ((from ≡ x) × (to ≡ y)) ⊎ ((from ≡ y) × (to ≡ x)) → Links s t from to z → IsForest steps (edges_of s.toward.items)
    → IsForest (steps ++ Merged x y z ∷ []) (edges_of t.toward.items)
forest-linked steps s t x y from to z l either k h =
    let f = edges_of s.toward.items in
    let g = edges_of t.toward.items in
    let step = Merged x y z in
    let longer : (a b r : ℕ) → IsMerge steps a b r ⊎ IsMerge steps b a r → IsMerge (steps ++ step ∷ []) a b r ⊎ IsMerge (steps ++ step ∷ []) b a r =
    (λ a b r m. elim m [ inl n ↦ inl (merge-more steps (step ∷ []) a b r n) | inr n ↦ inr (merge-more steps (step ∷ []) b a r n) ]) in
    let forth : (a b r : ℕ) → a ≡ x → b ≡ y → r ≡ z → IsMerge (steps ++ step ∷ []) a b r = (λ a b r p q w. merge-here steps step a b r (ends-merge x y z a b r p q w)) in
    let new : (a b r : ℕ) → AreEnds from to a b → r ≡ z → IsMerge (steps ++ step ∷ []) a b r ⊎ IsMerge (steps ++ step ∷ []) b a r =
    (λ a b r p w. elim either [
      | inl v ↦ elim p [
        | inl q ↦ inl (forth a b r (q.0 ∙ v.0) (q.1 ∙ v.1) w)
        | inr q ↦ inr (forth b a r (q.1 ∙ v.0) (q.0 ∙ v.1) w)
      ]
      | inr v ↦ elim p [
        | inl q ↦ inr (forth b a r (q.1 ∙ v.1) (q.0 ∙ v.0) w)
        | inr q ↦ inl (forth a b r (q.0 ∙ v.1) (q.1 ∙ v.0) w)
      ]
    ]) in
    let joined : AreJoined g x y =
    (let P : ℕ → ℕ → Type 0 = λ u v. AreJoined g u v in
    elim either [
      | inl v ↦ (let P1 : ℕ → Type 0 = λ u. P u to in let P2 : ℕ → Type 0 = λ w. P x w in subst P2 v.1 (subst P1 v.0 k.linked))
      | inr v ↦ (let P1 : ℕ → Type 0 = λ u. P u to in let P2 : ℕ → Type 0 = λ w. P y w in joined-turned g y x (subst P2 v.1 (subst P1 v.0 k.linked)))
    ]) in
    record {
      rooted = k.rooted;
      edges = λ i e q. elim (k.edges i e q) [
        | inl old ↦ longer i e.to e.reason (h.edges i e old)
        | inr z ↦ elim z [
          | inl old ↦ longer i e.to e.reason (turned-round steps f h i e old)
          | inr n ↦ new i e.to e.reason n.0 n.1
        ]
      ];
      met = λ n a b r m. elim (merge-last steps step a b r m) [
        | inl o ↦ k.joined a b (h.met (named-before steps (step ∷ []) l n) a b r o)
        | inr e ↦ ends g x y z a b r e joined
      ];
    }

-- ---- what is kept

pub kept-forest : (steps : List Step) (s : Forest) → IsKept steps s → IsForest steps (edges_of s.toward.items)
kept-forest steps s h =
    let n = length steps in
    let f = edges_of s.toward.items in
    let le : n ≤ n = omega arith in
    let P : List Step → Type 0 = λ ss. IsForest ss (undone n s.log.items f) in
    forest-same steps (undone n s.log.items f) f (λ i. sym (undone-none n n (length s.toward.items) s.log.items f h.log le i)) (subst P (take_all n steps le) (h.stands n le))

-- a step more, and edges that follow
pub kept-grown : (steps : List Step) (step : Step) (s t : Forest) → IsKept steps s → Follows (length steps) s t → IsLog (suc (length steps)) (length t.toward.items) t.log.items
    → IsForest (steps ++ step ∷ []) (edges_of t.toward.items) → AreOnce (steps ++ step ∷ []) → IsKept (steps ++ step ∷ []) t
kept-grown steps step s t h past log forest once =
    let n = length steps in
    let more = steps ++ step ∷ [] in
    let long : length more ≡ suc n = let z = length-append steps (step ∷ []) in omega arith in
    let L : ℕ → Type 0 = λ m. IsLog m (length t.toward.items) t.log.items in
    let f = edges_of t.toward.items in
    record {
      stands = λ k l. elim (cases_eq k (suc n)) [
        | inl e ↦
            let le : length more ≤ k = omega arith in
            let P : List Step → Type 0 = λ ss. IsForest ss (undone k t.log.items f) in
            let enough : suc n ≤ k = omega arith in
            subst P (sym (take_all k more le)) (forest-same more f (undone k t.log.items f) (λ i. undone-none k (suc n) (length t.toward.items) t.log.items f log enough i) forest)
        | inr d ↦
            let le : k ≤ n = omega arith in
            let P : List Step → Type 0 = λ ss. IsForest ss (undone k t.log.items f) in
            subst P (sym (take-append-le k steps (step ∷ []) le)) (forest-same (take k steps) (undone k s.log.items (edges_of s.toward.items)) (undone k t.log.items f) (λ i. past k i le) (h.stands k le))
      ];
      log = subst L (sym long) log;
      once = once;
    }

-- steps taken back
pub kept-back : (steps : List Step) (k : ℕ) (s t : Forest) → IsKept steps s → k ≤ length steps → Follows k s t → IsLog k (length t.toward.items) t.log.items → IsKept (take k steps) t
kept-back steps k s t h le past log =
    let long : length (take k steps) ≡ k = length-first k steps le in
    let L : ℕ → Type 0 = λ m. IsLog m (length t.toward.items) t.log.items in
    record {
      stands = λ j l.
          let m : j ≤ k = omega arith in
          let P : List Step → Type 0 = λ ss. IsForest ss (undone j t.log.items (edges_of t.toward.items)) in
          subst P (sym (first-first j k steps m)) (forest-same (take j steps) (undone j s.log.items (edges_of s.toward.items)) (undone j t.log.items (edges_of t.toward.items)) (λ i. past j i m) (h.stands j (omega arith)));
      log = subst L (sym long) log;
      once = λ i j t p q. h.once i j t (whole k steps i t p) (whole k steps j t q);
    }
  where
    length-first : (k : ℕ) (xs : List Step) → k ≤ length xs → length (take k xs) ≡ k
    length-first zero xs l = refl
    length-first (suc k) [] l = absurd (omega arith)
    length-first (suc k) (x ∷ xs) l = ap suc (length-first k xs (omega arith))

    first-first : (j k : ℕ) (xs : List Step) → j ≤ k → take j (take k xs) ≡ take j xs
    first-first zero k xs l = refl
    first-first (suc j) zero xs l = absurd (omega arith)
    first-first (suc j) (suc k) [] l = refl
    first-first (suc j) (suc k) (x ∷ xs) l = ap (λ ys. x ∷ ys) (first-first j k xs (omega arith))

    split : (k : ℕ) (xs : List Step) → (ys : List Step) × (xs ≡ take k xs ++ ys)
    split zero xs = (xs, refl)
    split (suc k) [] = ([], refl)
    split (suc k) (x ∷ xs) = let r = split k xs in (r.0, ap (λ l. x ∷ l) r.1)

    whole : (k : ℕ) (xs : List Step) (i : ℕ) (t : Term) → IsTerm (take k xs) i t → IsTerm xs i t
    whole k xs i t p =
        let r = split k xs in
        let P : List Step → Type 0 = λ ss. IsTerm ss i t in
        subst P (sym r.1) (term-more (take k xs) r.0 i t p)

-- a step that was refused
pub kept-refused : (steps : List Step) (s t : Forest) → IsKept steps s → Follows (length steps) s t → IsLog (length steps) (length t.toward.items) t.log.items → IsKept steps t
kept-refused steps s t h past log =
    let le : length steps ≤ length steps = omega arith in
    let P : List Step → Type 0 = λ ss. IsKept ss t in
    subst P (take_all (length steps) steps le) (kept-back steps (length steps) s t h le past log)

-- ---- a way along edges is a chain of merges

pub way-chain : (steps : List Step) (f : Edges) → IsForest steps f → (a b : ℕ) (rs : List ℕ) → IsWay f a b rs → IsChain steps a b rs
way-chain steps f h a b [] w = w
way-chain steps f h a b (r ∷ rs) w =
    let m = w.0 in
    let here : IsMerge steps a m r ⊎ IsMerge steps m a r =
    elim w.1 [
      | inl e ↦ h.edges a (record { to = m; reason = r }) e
      | inr e ↦ turned-round steps f h a (record { to = m; reason = r }) e
    ] in
    (m, here, way-chain steps f h m b rs w.2)

pub names-joined : (steps : List Step) (s : Forest) → IsKept steps s → AllNamed steps → (i j : ℕ) → IsName steps i → IsSame steps i j → AreJoined (edges_of s.toward.items) i j
names-joined steps s h n i j name same = (same-joined steps (edges_of s.toward.items) (kept-forest steps s h) n h.once i j same (inl name)).0

-- ---- steps that aren't merges

pub exact-in : (steps : List Step) (c : Core) → IsExact steps c → MergesIn steps
exact-in steps c h = λ a b r m. let p = h.merges a b r m in let n = terms-known steps c h in (omega (arith, p.0), omega (arith, p.1))

-- a step that is no merge, beside which the forest stays
pub kept-noted : (steps : List Step) (s : Step) (f : Forest) → MergesIn steps → ((a b r : ℕ) → s ≡ Merged a b r → ⊥) → AreOnce (steps ++ s ∷ []) → IsKept steps f → IsKept (steps ++ s ∷ []) f
kept-noted steps s f l d o h =
    let n = length steps in
    let m = length f.toward.items in
    kept-grown steps s f f h (λ k i x. refl) (log-room n (suc n) m m f.log.items (omega arith) (omega arith) h.log)
    (forest-noted steps s (edges_of f.toward.items) l d (kept-forest steps f h)) o

once-same : (steps : List Step) (s : Step) → terms_of (s ∷ []) ≡ [] → AreOnce steps → AreOnce (steps ++ s ∷ [])
once-same steps s e h =
    let P : List Term → Type 0 = λ ts. (i j : ℕ) (t : Term) → (i < length ts) × (term_at ts i ≡ t) → (j < length ts) × (term_at ts j ≡ t) → i ≡ j in
    subst P (sym (terms-noted steps s e)) h

once-more : (steps : List Step) (head : Head) (xs : List ℕ) → ((i : ℕ) → IsTerm steps i (head, xs) → ⊥) → AreOnce steps → AreOnce (steps ++ Added head xs ∷ [])
once-more steps head xs none h =
    let ts = terms_of steps in
    let P : List Term → Type 0 = λ us. (i j : ℕ) (t : Term) → (i < length us) × (term_at us i ≡ t) → (j < length us) × (term_at us j ≡ t) → i ≡ j in
    subst P (sym (terms-append steps (Added head xs ∷ []))) (λ i j t p q. (
    let long = length-append ts ((head, xs) ∷ []) in
    elim (cases_eq i (length ts)) [
      | inl e ↦ elim (cases_eq j (length ts)) [
        | inl d ↦ e ∙ sym d
        | inr d ↦
            let old : j < length ts = omega (arith, q.0) in
            absurd (none j (old, sym (term-before ts ((head, xs) ∷ []) j old) ∙ q.1 ∙ sym p.1 ∙ ap (term_at (ts ++ (head, xs) ∷ [])) e ∙ term-last ts (head, xs)))
      ]
      | inr e ↦
          let old_i : i < length ts = omega (arith, p.0) in
          elim (cases_eq j (length ts)) [
            | inl d ↦ absurd (none i (old_i, sym (term-before ts ((head, xs) ∷ []) i old_i) ∙ p.1 ∙ sym q.1 ∙ ap (term_at (ts ++ (head, xs) ∷ [])) d ∙ term-last ts (head, xs)))
            | inr d ↦
                let old_j : j < length ts = omega (arith, q.0) in
                h i j t (old_i, sym (term-before ts ((head, xs) ∷ []) i old_i) ∙ p.1) (old_j, sym (term-before ts ((head, xs) ∷ []) j old_j) ∙ q.1)
          ]
    ]))
  where
    term-last : (ts : List Term) (t : Term) → term_at (ts ++ t ∷ []) (length ts) ≡ t
    term-last [] t = refl
    term-last (x ∷ ts) t = term-last ts t

kinds : (s : Step) (n : ℕ) → kind-of s ≡ n → (n ≡ 1 → ⊥) → (a b r : ℕ) → s ≡ Merged a b r → ⊥
kinds s n k d a b r e = d (sym k ∙ ap kind-of e)

pub kept-differed : (steps : List Step) (a b : ℕ) (c : Core) (f : Forest) → IsExact steps c → IsKept steps f → IsKept (steps ++ Differed a b ∷ []) f
kept-differed steps a b c f x h = kept-noted steps (Differed a b) f (exact-in steps c x) (kinds (Differed a b) 2 refl (λ e. absurd (omega arith))) (once-same steps (Differed a b) refl h.once) h

pub kept-added : (steps : List Step) (head : Head) (xs : List ℕ) (c : Core) (f : Forest) → IsExact steps c → ((i : ℕ) → IsTerm steps i (head, xs) → ⊥) → IsKept steps f → IsKept (steps ++ Added head xs ∷ []) f
kept-added steps head xs c f x none h = kept-noted steps (Added head xs) f (exact-in steps c x) (kinds (Added head xs) 0 refl (λ e. absurd (omega arith))) (once-more steps head xs none h.once) h

-- a merge of which the edges tell
pub kept-merged : (steps : List Step) (a b r : ℕ) (s t : Forest) → IsKept steps s → Notes steps (Merged a b r) s t → IsKept (steps ++ Merged a b r ∷ []) t
kept-merged steps a b r s t h n = kept-grown steps (Merged a b r) s t h n.past n.log n.forest (once-same steps (Merged a b r) refl h.once)

-- ---- either answer of a call

pub either : (r : Result (Unit {0}) AllocError) (P Q R : Type 0) → OnOk r P → OnErr r Q → (P → R) → (Q → R) → R
either (Ok x) P Q R p q f g = f p
either (Err x) P Q R p q f g = g q

on-err : (r : Result (Unit {0}) AllocError) (P : Type 0) → P → OnErr r P
on-err (Ok x) P p = tt
on-err (Err x) P p = p

-- ---- a merge noted

pub noted-met : (steps : List Step) (a b r : ℕ) (c : Core) (s : Forest) → IsExact steps c → IsKept steps s → a < length c.known → IsSame steps a b → Notes steps (Merged a b r) s s
noted-met steps a b r c s x h within same =
    let n = length steps in
    let m = length s.toward.items in
    record {
      past = λ k i l. refl;
      log = log-room n (suc n) m m s.log.items (omega arith) (omega arith) h.log;
      forest = forest-met steps (edges_of s.toward.items) a b r (exact-in steps c x) h.once (let z = terms-known steps c x in omega arith) same (kept-forest steps s h);
    }

pub noted-linked : (steps : List Step) (n a b r : ℕ) (p : ℕ × ℕ) (c : Core) (s t : Forest) → n ≡ length steps → IsExact steps c → IsKept steps s → (p ≡ (a, b)) ⊎ (p ≡ (b, a)) → Follows n s t → IsLog (suc n) (length t.toward.items) t.log.items × Links s t p.0 p.1 r
    → Notes steps (Merged a b r) s t
noted-linked steps n a b r p c s t e x h ends past new =
    let F : ℕ → Type 0 = λ k. Follows k s t in
    let L : ℕ → Type 0 = λ k. IsLog (suc k) (length t.toward.items) t.log.items in
    record {
      past = subst F e past;
      log = subst L e new.0;
      forest = forest-linked steps s t a b p.0 p.1 r (exact-in steps c x) (elim ends [
        | inl q ↦ inl (ap (λ z. z.0) q, ap (λ z. z.1) q)
        | inr q ↦ inr (ap (λ z. z.0) q, ap (λ z. z.1) q)
      ]) new.1 (kept-forest steps s h);
    }

pub apart-ends : (steps : List Step) (f : Edges) → IsForest steps f → (a b : ℕ) (p : ℕ × ℕ) → (p ≡ (a, b)) ⊎ (p ≡ (b, a)) → (IsSame steps a b → ⊥) → AreApart f p.0 p.1
apart-ends steps f h a b p ends d =
    let P : ℕ × ℕ → Type 0 = λ z. AreApart f z.0 z.1 in
    elim ends [
      | inl q ↦ subst P (sym q) (apart-class steps f h a b d)
      | inr q ↦ subst P (sym q) (apart-class steps f h b a (λ z. d (turned b a z)))
    ]

-- a merge noted that was refused
pub kept-unnoted : (steps : List Step) (step : Step) (n : ℕ) (s t u : Forest) → n ≡ length steps → IsKept steps s → Notes steps step s t → Follows n t u → IsLog n (length u.toward.items) u.log.items → IsKept steps u
kept-unnoted steps step n s t u e h k past log =
    let F : ℕ → Type 0 = λ m. Follows m t u in
    let L : ℕ → Type 0 = λ m. IsLog m (length u.toward.items) u.log.items in
    kept-refused steps s u h (follows-on (length steps) s t u k.past (subst F e past)) (subst L e log)

pub kept-unlinked : (steps : List Step) (n : ℕ) (s t : Forest) (r : Result (Unit {0}) AllocError) → n ≡ length steps → IsKept steps s → Follows n s t → IsLog n (length t.toward.items) t.log.items → OnErr r (IsKept steps t)
kept-unlinked steps n s t r e h past log =
    let F : ℕ → Type 0 = λ m. Follows m s t in
    let L : ℕ → Type 0 = λ m. IsLog m (length t.toward.items) t.log.items in
    on-err r (IsKept steps t) (kept-refused steps s t h (subst F e past) (subst L e log))

-- ---- nothing yet

pub kept-fresh : (f : Forest) → f.toward.items ≡ [] → f.log.items ≡ [] → IsKept [] f
kept-fresh f t l =
    let P : List (Option Edge) → List Written → Type 0 = λ ts ws. IsForest [] (undone 0 ws (edges_of ts)) in
    let P1 : List (Option Edge) → Type 0 = λ ts. P ts [] in
    let P2 : List Written → Type 0 = λ ws. P f.toward.items ws in
    let L : List Written → Type 0 = λ ws. IsLog 0 (length f.toward.items) ws in
    let none : IsForest [] (edges_of []) = record {
      rooted = λ i. (i, (0, (refl, refl)));
      edges = λ i e q. absurd (no-edge e q);
      met = λ n a b r m. absurd m;
    } in
    record {
      stands = λ k z. first k (omega arith) (subst P2 (sym l) (subst P1 (sym t) none));
      log = subst L (sym l) tt;
      once = λ i j t p q. absurd (let z = p.0 in omega arith);
    }
  where
    no-edge : (e : Edge) → None ≡ Some e → ⊥
    no-edge e h = cc

    first : (k : ℕ) → k ≡ 0 → IsForest [] (undone 0 f.log.items (edges_of f.toward.items)) → IsForest (take k []) (undone k f.log.items (edges_of f.toward.items))
    first zero e h = h
    first (suc k) e h = absurd (omega arith)
