-- Places of definitions whose types may have variables.
use Rattle.std.proofs.Common.{◌≡◌, ◌⊎◌, inl, inr, ℕ, zero, suc, ◌+◌, ◌<◌, ◌≤◌, List, [], ◌∷◌, ◌++◌, take, reverse, map, All, length, get_or, refl, sym, ap, subst, ◌∙◌, arith}
use Rattle.std.proofs.lemmas.List.{reverse-append, length-append}
use Rattle.std.proofs.lemmas.List.Elements.{All-append}
use Rattle.std.proofs.lemmas.Bool.{cases_lt}
use Rattle.std.proofs.Math.Seq.{take-suc}
use Rattle.lq_text_tree.specs.MlType.{MlType}
use Rattle.lq_types_unify.specs.Opens.{IsIn}
use Rattle.lq_types_rules.specs.declared.equations.system.System.{System}
use Rattle.lq_types_rules.specs.Equations.Solved.{Solves}
use Rattle.lq_types_infer.specs.Inference.Copying.{IsDetermined}
use Rattle.lq_types_infer.specs.Inference.Opening.{IsClosed, AreTold, IsSifted}

-- ---- lists with one more

pub in_left : (xs ys : List ℕ) (r : ℕ) → IsIn xs r → IsIn (xs ++ ys) r
in_left xs ys r (k, l, e) = (k, let x = length-append xs ys in omega arith, at_left xs ys k l ∙ e)
  where
    at_left : (as_ bs : List ℕ) (j : ℕ) → j < length as_ → get_or (as_ ++ bs) j 0 ≡ get_or as_ j 0
    at_left [] bs j m = absurd (omega arith)
    at_left (a ∷ as_) bs zero m = refl
    at_left (a ∷ as_) bs (suc j) m = at_left as_ bs j (omega arith)

in_right : (xs ys : List ℕ) (r : ℕ) → IsIn ys r → IsIn (xs ++ ys) r
in_right [] ys r q = q
in_right (x ∷ xs) ys r q = let t = in_right xs ys r q in (suc t.0, let l = t.1 in omega arith, t.2)

pub in_last : (xs : List ℕ) (r : ℕ) → IsIn (xs ++ r ∷ []) r
in_last xs r = in_right xs (r ∷ []) r (0, omega arith, refl)

all_one : (P : ℕ → Type 0) (x : ℕ) → P x → All P (x ∷ [])
all_one P x h zero d l = h
all_one P x h (suc k) d l = absurd (omega arith)

in_turned : (xs : List ℕ) (r : ℕ) → IsIn xs r → IsIn (reverse xs) r
in_turned [] r (k, l, e) = absurd (omega arith)
in_turned (x ∷ xs) r (zero, l, e) = subst (λ ys. IsIn ys r) (sym (reverse-append (x ∷ []) xs)) (subst (λ y. IsIn (reverse xs ++ y ∷ []) r) (sym e) (in_last (reverse xs) r))
in_turned (x ∷ xs) r (suc k, l, e) = subst (λ ys. IsIn ys r) (sym (reverse-append (x ∷ []) xs)) (in_left (reverse xs) (x ∷ []) r (in_turned xs r (k, omega arith, e)))

all_turned : (P : ℕ → Type 0) (xs : List ℕ) → All P xs → All P (reverse xs)
all_turned P [] a = a
all_turned P (x ∷ xs) a =
    subst (All P) (sym (reverse-append (x ∷ []) xs)) (All-append P (reverse xs) (x ∷ []) (all_turned P xs (λ k d l. a (suc k) d (omega arith))) (all_one P x (a 0 x (omega arith))))

in_mapped : (f : ℕ → ℕ) (xs : List ℕ) (r : ℕ) → IsIn xs r → IsIn (map f xs) (f r)
in_mapped f [] r (k, l, e) = absurd (omega arith)
in_mapped f (x ∷ xs) r (zero, l, e) = (0, omega arith, ap f e)
in_mapped f (x ∷ xs) r (suc k, l, e) = let t = in_mapped f xs r (k, omega arith, e) in (suc t.0, let m = t.1 in omega arith, t.2)

in_taken : (n : ℕ) (xs : List ℕ) (j : ℕ) → j < n → j < length xs → IsIn (take n xs) (get_or xs j 0)
in_taken zero xs j l m = absurd (omega arith)
in_taken (suc n) [] j l m = absurd (omega arith)
in_taken (suc n) (x ∷ xs) zero l m = (0, omega arith, refl)
in_taken (suc n) (x ∷ xs) (suc j) l m = let t = in_taken n xs j (omega arith) (omega arith) in (suc t.0, let k = t.1 in omega arith, t.2)

all_taken : (P : ℕ → Type 0) (n : ℕ) (xs : List ℕ) → ((j : ℕ) → j < n → j < length xs → P (get_or xs j 0)) → All P (take n xs)
all_taken P zero xs h k d l = absurd (omega arith)
all_taken P (suc n) [] h k d l = absurd (omega arith)
all_taken P (suc n) (x ∷ xs) h zero d l = h 0 (omega arith) (omega arith)
all_taken P (suc n) (x ∷ xs) h (suc k) d l = all_taken P n xs (λ j a b. h (suc j) (omega arith) (omega arith)) k d (omega arith)

all_mapped : (P : ℕ → Type 0) (f : ℕ → ℕ) (xs : List ℕ) → All (λ x. P (f x)) xs → All P (map f xs)
all_mapped P f [] h k d l = absurd (omega arith)
all_mapped P f (x ∷ xs) h zero d l = h 0 x (omega arith)
all_mapped P f (x ∷ xs) h (suc k) d l = all_mapped P f xs (λ j e m. h (suc j) e (omega arith)) k d (omega arith)

pub of_taken : (P : ℕ → Type 0) (n : ℕ) (xs : List ℕ) → All P (take n xs) → (j : ℕ) → j < n → j < length xs → P (get_or xs j 0)
of_taken P n xs a j l m = let q = in_taken n xs j l m in subst P q.2 (a q.0 0 q.1)

get_left : (xs ys : List ℕ) (j : ℕ) → j < length xs → get_or (xs ++ ys) j 0 ≡ get_or xs j 0
get_left [] ys j l = absurd (omega arith)
get_left (x ∷ xs) ys zero l = refl
get_left (x ∷ xs) ys (suc j) l = get_left xs ys j (omega arith)

-- ---- places that are sifted, one more

module _ (nodes : ℕ) (s : System) (plain : List ℕ) (before : ℕ) where
  module _ (done kept asked : List ℕ) (j : ℕ) (i : IsSifted nodes s plain before done kept asked) where
    kept_stay : All (λ x. IsIn (kept ++ j ∷ []) x ⊎ IsClosed nodes s plain x) done
    kept_stay k d l = elim (i.stay k d l) [ inl q ↦ inl (in_left kept (j ∷ []) (get_or done k d) q) | inr c ↦ inr c ]

    -- it comes later
    pub sifted_later : before ≤ j → IsSifted nodes s plain before (done ++ j ∷ []) (kept ++ j ∷ []) asked
    sifted_later l = record {
      stay = All-append (λ x. IsIn (kept ++ j ∷ []) x ⊎ IsClosed nodes s plain x) done (j ∷ []) kept_stay (all_one (λ x. IsIn (kept ++ j ∷ []) x ⊎ IsClosed nodes s plain x) j (inl (in_last kept j)));
      each = All-append (λ x. x < before → IsIn asked (nodes + get_or plain x 0) ⊎ IsClosed nodes s plain x) done (j ∷ []) i.each
          (all_one (λ x. x < before → IsIn asked (nodes + get_or plain x 0) ⊎ IsClosed nodes s plain x) j (λ m. absurd (omega arith)));
      among = i.among;
    }

    -- its type has no variables
    pub sifted_closed : IsClosed nodes s plain j → IsSifted nodes s plain before (done ++ j ∷ []) kept asked
    sifted_closed c = record {
      stay = All-append (λ x. IsIn kept x ⊎ IsClosed nodes s plain x) done (j ∷ []) i.stay (all_one (λ x. IsIn kept x ⊎ IsClosed nodes s plain x) j (inr c));
      each = All-append (λ x. x < before → IsIn asked (nodes + get_or plain x 0) ⊎ IsClosed nodes s plain x) done (j ∷ []) i.each
          (all_one (λ x. x < before → IsIn asked (nodes + get_or plain x 0) ⊎ IsClosed nodes s plain x) j (λ m. inr c));
      among = i.among;
    }

    -- it is asked
    pub sifted_asked : j < before → IsSifted nodes s plain before (done ++ j ∷ []) (kept ++ j ∷ []) (asked ++ (nodes + get_or plain j 0) ∷ [])
    sifted_asked l = record {
      stay = All-append (λ x. IsIn (kept ++ j ∷ []) x ⊎ IsClosed nodes s plain x) done (j ∷ []) kept_stay (all_one (λ x. IsIn (kept ++ j ∷ []) x ⊎ IsClosed nodes s plain x) j (inl (in_last kept j)));
      each = All-append (λ x. x < before → IsIn (asked ++ (nodes + get_or plain j 0) ∷ []) (nodes + get_or plain x 0) ⊎ IsClosed nodes s plain x) done (j ∷ []) each_more
          (all_one (λ x. x < before → IsIn (asked ++ (nodes + get_or plain j 0) ∷ []) (nodes + get_or plain x 0) ⊎ IsClosed nodes s plain x) j (λ m. inl (in_last asked (nodes + get_or plain j 0))));
      among = All-append (λ y. (x : ℕ) × (x < before) × (nodes + get_or plain x 0 ≡ y)) asked ((nodes + get_or plain j 0) ∷ []) i.among
          (all_one (λ y. (x : ℕ) × (x < before) × (nodes + get_or plain x 0 ≡ y)) (nodes + get_or plain j 0) (j, l, refl));
    }
      where
        each_more : All (λ x. x < before → IsIn (asked ++ (nodes + get_or plain j 0) ∷ []) (nodes + get_or plain x 0) ⊎ IsClosed nodes s plain x) done
        each_more k d m b = elim (i.each k d m b) [ inl q ↦ inl (in_left asked ((nodes + get_or plain j 0) ∷ []) (nodes + get_or plain (get_or done k d) 0) q) | inr c ↦ inr c ]

  -- the next of a list of places
  pub next_place : (places : List ℕ) (n : ℕ) (kept asked : List ℕ) → n < length places → IsSifted nodes s plain before (take n places ++ get_or places n 0 ∷ []) kept asked → IsSifted nodes s plain before (take (n + 1) places) kept asked
  next_place places n kept asked l i =
      let e : suc n ≡ n + 1 = omega arith in
      subst (λ m. IsSifted nodes s plain before (take m places) kept asked) e (subst (λ xs. IsSifted nodes s plain before xs kept asked) (sym (take-suc places n 0 l)) i)

-- ---- what is told of definitions

module _ (nodes : ℕ) (s : System) (plain : List ℕ) (told : ℕ) (places : List ℕ) (t : AreTold nodes s plain told places) where
  -- more of them
  pub told_more : (n : ℕ) (more : List ℕ) → n ≤ length plain → ((j : ℕ) → IsIn places j → IsIn more j) → ((j : ℕ) → told ≤ j → j < n → IsIn more j) → AreTold nodes s plain n more
  told_more n more l f g = record {
    low = l;
    others = λ j m. elim (cases_lt j told) [
      | inl k ↦ elim (t.others j k) [ inl q ↦ inl (f j q) | inr c ↦ inr c ]
      | inr k ↦ inl (g j k m)
    ];
  }

  pub told_sifted : (before : ℕ) (kept asked : List ℕ) → IsSifted nodes s plain before places kept asked → AreTold nodes s plain told kept
  told_sifted before kept asked i = record {
    low = t.low;
    others = λ j l. elim (t.others j l) [
      | inl q ↦ subst (λ (x : ℕ). IsIn kept x ⊎ IsClosed nodes s plain x) q.2 (i.stay q.0 0 q.1)
      | inr c ↦ inr c
    ];
  }

  -- with more equations
  pub told_later : (new : System) → ((types : ℕ → MlType) → Solves new new.equations.items types → Solves s s.equations.items types) → AreTold nodes new plain told places
  told_later new f = record {
    low = t.low;
    others = λ j l. elim (t.others j l) [ inl q ↦ inl q | inr c ↦ inr (λ types others a b e. c types others (f types a) (f others b) e) ];
  }

  -- with more definitions
  pub told_grown : (all more : List ℕ) → all ≡ plain ++ more → AreTold nodes s all told places
  told_grown all more e = subst (λ xs. AreTold nodes s xs told places) (sym e) (record {
    low = let x = t.low in let y = length-append plain more in omega arith;
    others = λ j l. elim (t.others j l) [
      | inl q ↦ inl q
      | inr c ↦ inr (subst (λ (x : ℕ). IsDetermined s [] (nodes + x)) (sym (get_left plain more j (let x = t.low in omega arith))) c)
    ];
  })

  -- ---- the slots that are asked are enough

  module _ (before : ℕ) (kept asked : List ℕ) (i : IsSifted nodes s plain before places kept asked) (l : before ≤ told) where
    pub asked_others : All (λ i. IsIn asked i ⊎ IsDetermined s [] i) (map (λ x. nodes + x) (reverse (take before plain)))
    asked_others = all_mapped (λ i. IsIn asked i ⊎ IsDetermined s [] i) (λ x. nodes + x) (reverse (take before plain))
        (all_turned (λ x. IsIn asked (nodes + x) ⊎ IsDetermined s [] (nodes + x)) (take before plain)
        (all_taken (λ x. IsIn asked (nodes + x) ⊎ IsDetermined s [] (nodes + x)) before plain (λ j m k. one j m)))
      where
        one : (j : ℕ) → j < before → IsIn asked (nodes + get_or plain j 0) ⊎ IsDetermined s [] (nodes + get_or plain j 0)
        one j m = elim (t.others j (omega arith)) [
          | inl q ↦ subst (λ (x : ℕ). x < before → IsIn asked (nodes + get_or plain x 0) ⊎ IsClosed nodes s plain x) q.2 (i.each q.0 0 q.1) m
          | inr c ↦ inr c
        ]

    pub asked_among : All (IsIn (map (λ x. nodes + x) (reverse (take before plain)))) asked
    asked_among k d m =
        let q = i.among k d m in
        subst (IsIn (map (λ x. nodes + x) (reverse (take before plain)))) q.2
        (in_mapped (λ x. nodes + x) (reverse (take before plain)) (get_or plain q.0 0)
        (in_turned (take before plain) (get_or plain q.0 0) (in_taken before plain q.0 q.1 (let x = q.1 in let y = t.low in omega arith))))

-- one place more, where all before it are there
pub in_more : (xs : List ℕ) (at j : ℕ) → (j < at → IsIn xs j) → j < at + 1 → IsIn (xs ++ at ∷ []) j
in_more xs at j f l = elim (cases_lt j at) [
  | inl m ↦ in_left xs (at ∷ []) j (f m)
  | inr m ↦ let e : at ≡ j = omega arith in subst (IsIn (xs ++ at ∷ [])) e (in_last xs at)
]
