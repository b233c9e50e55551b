-- Replacing variables.
use Rattle.std.proofs.Common.{◌≡◌, ℕ, suc, List, [], ◌∷◌, refl, ap, ap₂, arith, All}
use Rattle.lq_types_unify.specs.declared.arena.Head.{Head}
use Rattle.lq_types_unify.specs.Simple.{Simple, variable, made, Simples, none, more, each, replaced, replaced_all}
use Rattle.lq_types_unify.specs.Variables.{Each, EachIn}

mutual
  pub replaced_twice : (f g : ℕ → Simple) (t : Simple) → replaced g (replaced f t) ≡ replaced (λ v. replaced g (f v)) t
  replaced_twice f g (variable v) = refl
  replaced_twice f g (made h ts) = ap (made h) (replaced_all_twice f g ts)

  replaced_all_twice : (f g : ℕ → Simple) (ts : Simples) → replaced_all g (replaced_all f ts) ≡ replaced_all (λ v. replaced g (f v)) ts
  replaced_all_twice f g none = refl
  replaced_all_twice f g (more t ts) = ap₂ more (replaced_twice f g t) (replaced_all_twice f g ts)

mutual
  pub replaced_alike : (f g : ℕ → Simple) (t : Simple) → Each (λ v. f v ≡ g v) t → replaced f t ≡ replaced g t
  replaced_alike f g (variable v) h = h
  replaced_alike f g (made k ts) h = ap (made k) (replaced_all_alike f g ts h)

  replaced_all_alike : (f g : ℕ → Simple) (ts : Simples) → EachIn (λ v. f v ≡ g v) ts → replaced_all f ts ≡ replaced_all g ts
  replaced_all_alike f g none h = refl
  replaced_all_alike f g (more t ts) h = ap₂ more (replaced_alike f g t h.0) (replaced_all_alike f g ts h.1)

parts_alike : (k : Head) (ts us : Simples) → made k ts ≡ made k us → ts ≡ us
parts_alike k ts us e = cc

first_alike : (t u : Simple) (ts us : Simples) → more t ts ≡ more u us → t ≡ u
first_alike t u ts us e = cc

rest_alike : (t u : Simple) (ts us : Simples) → more t ts ≡ more u us → ts ≡ us
rest_alike t u ts us e = cc

mutual
  pub alike_from : (f g : ℕ → Simple) (t : Simple) → replaced f t ≡ replaced g t → Each (λ v. f v ≡ g v) t
  alike_from f g (variable v) e = e
  alike_from f g (made k ts) e = all_alike_from f g ts (parts_alike k _ _ e)

  all_alike_from : (f g : ℕ → Simple) (ts : Simples) → replaced_all f ts ≡ replaced_all g ts → EachIn (λ v. f v ≡ g v) ts
  all_alike_from f g none e = tt
  all_alike_from f g (more t ts) e = (alike_from f g t (first_alike _ _ _ _ e), all_alike_from f g ts (rest_alike _ _ _ _ e))

mutual
  pub replaced_same : (t : Simple) → replaced variable t ≡ t
  replaced_same (variable v) = refl
  replaced_same (made k ts) = ap (made k) (replaced_all_same ts)

  replaced_all_same : (ts : Simples) → replaced_all variable ts ≡ ts
  replaced_all_same none = refl
  replaced_all_same (more t ts) = ap₂ more (replaced_same t) (replaced_all_same ts)

mutual
  pub each_map : (P Q : ℕ → Type 0) (t : Simple) → ((v : ℕ) → P v → Q v) → Each P t → Each Q t
  each_map P Q (variable v) h p = h v p
  each_map P Q (made k ts) h p = each_in_map P Q ts h p

  each_in_map : (P Q : ℕ → Type 0) (ts : Simples) → ((v : ℕ) → P v → Q v) → EachIn P ts → EachIn Q ts
  each_in_map P Q none h p = tt
  each_in_map P Q (more t ts) h p = (each_map P Q t h p.0, each_in_map P Q ts h p.1)

mutual
  pub each_both : (P Q : ℕ → Type 0) (t : Simple) → Each P t → Each Q t → Each (λ v. P v × Q v) t
  each_both P Q (variable v) p q = (p, q)
  each_both P Q (made k ts) p q = each_in_both P Q ts p q

  each_in_both : (P Q : ℕ → Type 0) (ts : Simples) → EachIn P ts → EachIn Q ts → EachIn (λ v. P v × Q v) ts
  each_in_both P Q none p q = tt
  each_in_both P Q (more t ts) p q = (each_both P Q t p.0 q.0, each_in_both P Q ts p.1 q.1)

mutual
  -- the variables of a replaced type are those of what was put in
  pub each_replaced : (P : ℕ → Type 0) (f : ℕ → Simple) (t : Simple) → Each P (replaced f t) → Each (λ v. Each P (f v)) t
  each_replaced P f (variable v) p = p
  each_replaced P f (made k ts) p = each_in_replaced P f ts p

  each_in_replaced : (P : ℕ → Type 0) (f : ℕ → Simple) (ts : Simples) → EachIn P (replaced_all f ts) → EachIn (λ v. Each P (f v)) ts
  each_in_replaced P f none p = tt
  each_in_replaced P f (more t ts) p = (each_replaced P f t p.0, each_in_replaced P f ts p.1)

-- a row of types with variables replaced
pub each_is : (f g : ℕ → Simple) (by : ℕ → Simple) (ps : List ℕ) → All (λ p. f p ≡ replaced by (g p)) ps → each f ps ≡ replaced_all by (each g ps)
each_is f g by [] h = refl
each_is f g by (p ∷ ps) h = ap₂ more (h 0 0 (omega arith)) (each_is f g by ps (λ k d l. h (suc k) d (omega arith)))

pub each_as : (f g : ℕ → Simple) (ps : List ℕ) → All (λ p. f p ≡ g p) ps → each f ps ≡ each g ps
each_as f g [] h = refl
each_as f g (p ∷ ps) h = ap₂ more (h 0 0 (omega arith)) (each_as f g ps (λ k d l. h (suc k) d (omega arith)))
