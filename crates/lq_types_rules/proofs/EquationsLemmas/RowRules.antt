-- Rules over rows of nodes.
use Rattle.std.proofs.Common.{◌≡◌, ℕ, ◌+◌, ◌<◌, List, [], ◌∷◌, ◌++◌, take, All, length, get_or, refl, sym, ap, ap₂, subst, ◌∙◌, arith, length-take-le}
use Rattle.std.proofs.lemmas.List.{take_more}
use Rattle.lq_text_tree.specs.MlType as ml
use Rattle.lq_text_tree.specs.MlType.{MlType, MlTypes}
use Rattle.lq_text_tree.specs.Types.{AreAll}
use Rattle.lq_types_rules.specs.declared.equations.system.System.{System}
use Rattle.lq_types_rules.specs.Equations.Solutions.{each}
use Rattle.lq_types_rules.specs.Equations.Adding.{Adds, count_of}
use Rattle.lq_types_rules.specs.Equations.Rows.{last_of}
use Rattle.lq_types_rules.proofs.EquationsLemmas.Composing.{after, adds_as, depends_alike}

module _ (t : ℕ → MlType) where
  rows_more : (xs ys : List ℕ) (x y : ℕ) → length xs ≡ length ys → each t xs ≡ each t ys → t x ≡ t y → each t (xs ++ x ∷ []) ≡ each t (ys ++ y ∷ [])
  rows_more [] [] x y l e h = ap (λ a. ml.more_types a ml.no_types) h
  rows_more [] (b ∷ ys) x y l e h = absurd (omega arith)
  rows_more (a ∷ xs) [] x y l e h = absurd (omega arith)
  rows_more (a ∷ xs) (b ∷ ys) x y l e h =
      let p : t a ≡ t b = cc in
      let q : each t xs ≡ each t ys = cc in
      ap₂ ml.more_types p (rows_more xs ys x y (omega arith) q h)

  rows_less : (xs ys : List ℕ) (x y : ℕ) → length xs ≡ length ys → each t (xs ++ x ∷ []) ≡ each t (ys ++ y ∷ []) → (each t xs ≡ each t ys) × (t x ≡ t y)
  rows_less [] [] x y l e = (refl, cc)
  rows_less [] (b ∷ ys) x y l e = absurd (omega arith)
  rows_less (a ∷ xs) [] x y l e = absurd (omega arith)
  rows_less (a ∷ xs) (b ∷ ys) x y l e =
      let p : t a ≡ t b = cc in
      let q : each t (xs ++ x ∷ []) ≡ each t (ys ++ y ∷ []) = cc in
      let r = rows_less xs ys x y (omega arith) q in
      (ap₂ ml.more_types p r.0, r.1)

  all_more : (a : MlType) (xs : List ℕ) (x : ℕ) → AreAll a (each t xs) → t x ≡ a → AreAll a (each t (xs ++ x ∷ []))
  all_more a [] x h e = (e, tt)
  all_more a (y ∷ ys) x h e = (h.0, all_more a ys x h.1 e)

  all_less : (a : MlType) (xs : List ℕ) (x : ℕ) → AreAll a (each t (xs ++ x ∷ [])) → AreAll a (each t xs) × (t x ≡ a)
  all_less a [] x h = (tt, h.0)
  all_less a (y ∷ ys) x h = let r = all_less a ys x h.1 in ((h.0, r.0), r.1)

pub same_more : (old mid new : System) (lefts rights : List ℕ) (at : ℕ) → at < length lefts → length rights ≡ length lefts
    → All (λ a. a < count_of old) lefts → All (λ a. a < count_of old) rights → Adds old mid (λ t. each t (take at lefts) ≡ each t (take at rights))
    → Adds mid new (λ t. t (get_or lefts at 0) ≡ t (get_or rights at 0)) → Adds old new (λ t. each t (take (at + 1) lefts) ≡ each t (take (at + 1) rights))
same_more old mid new lefts rights at h l ls rs a b =
    let x = get_or lefts at 0 in
    let y = get_or rights at 0 in
    let short : length (take at lefts) ≡ length (take at rights) = omega (arith, length-take-le at lefts (omega arith), length-take-le at rights (omega arith)) in
    let more_left : take (at + 1) lefts ≡ take at lefts ++ x ∷ [] = take_more lefts at 0 h in
    let more_right : take (at + 1) rights ≡ take at rights ++ y ∷ [] = take_more rights at 0 (omega arith) in
    adds_as old new (λ t. (each t (take at lefts) ≡ each t (take at rights)) × (t x ≡ t y)) (λ t. each t (take (at + 1) lefts) ≡ each t (take (at + 1) rights))
    (after old mid new (λ t. each t (take at lefts) ≡ each t (take at rights)) (λ t. t x ≡ t y) a b (depends_alike (count_of old) x y (ls at 0 h) (rs at 0 (omega arith))))
    (λ t e. ap (each t) more_left ∙ rows_more t (take at lefts) (take at rights) x y short e.0 e.1 ∙ sym (ap (each t) more_right))
    (λ t e. rows_less t (take at lefts) (take at rights) x y short (sym (ap (each t) more_left) ∙ e ∙ ap (each t) more_right))

pub alike_more : (old mid new : System) (parts : List ℕ) (one at : ℕ) → at < length parts → one < count_of old → All (λ a. a < count_of old) parts
    → Adds old mid (λ t. AreAll (t one) (each t (take at parts))) → Adds mid new (λ t. t (get_or parts at 0) ≡ t one) → Adds old new (λ t. AreAll (t one) (each t (take (at + 1) parts)))
alike_more old mid new parts one at h o ps a b =
    let x = get_or parts at 0 in
    let longer : take (at + 1) parts ≡ take at parts ++ x ∷ [] = take_more parts at 0 h in
    adds_as old new (λ t. AreAll (t one) (each t (take at parts)) × (t x ≡ t one)) (λ t. AreAll (t one) (each t (take (at + 1) parts)))
    (after old mid new (λ t. AreAll (t one) (each t (take at parts))) (λ t. t x ≡ t one) a b (depends_alike (count_of old) x one (ps at 0 h) o))
    (λ t e. subst (λ qs. AreAll (t one) (each t qs)) (sym longer) (all_more t (t one) (take at parts) x e.0 e.1))
    (λ t e. all_less t (t one) (take at parts) x (subst (λ qs. AreAll (t one) (each t qs)) longer e))

-- the last of a row, by its place
pub last_is : (a : ℕ) (as_ : List ℕ) → last_of a as_ ≡ get_or (a ∷ as_) (length as_) 0
last_is a [] = refl
last_is a (b ∷ bs) = last_is b bs
