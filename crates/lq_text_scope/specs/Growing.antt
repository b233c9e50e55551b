-- Lists that grow: of names, each after those before it, and of what is known, the last first.
use Rattle.std.proofs.Common.{◌≡◌, List, [], ◌∷◌, ◌++◌, refl, sym, ap, ◌∙◌, append_assoc}
use Rattle.std.proofs.lemmas.List.{append-nil}
use Rattle.lq_text_scope.specs.Known.{Arity}
use Rattle.lq_text_scope.specs.declared.binders.Binding.{Binding}

-- the names of the first list stand first in the second
pub record Extends (old new : List Binding) : Type 0 where
  pub more : List Binding
  pub is : new ≡ old ++ more

pub Extends-refl : (a : List Binding) → Extends a a
Extends-refl a = record { more = []; is = sym (append-nil a) }

pub Extends-trans : (a b c : List Binding) → Extends a b → Extends b c → Extends a c
Extends-trans a b c p q = record { more = p.more ++ q.more; is = q.is ∙ ap (λ l. l ++ q.more) p.is ∙ append_assoc a p.more q.more }

pub Extends-same : (a b : List Binding) → b ≡ a → Extends a b
Extends-same a b e = record { more = []; is = e ∙ sym (append-nil a) }

pub Extends-by : (a b c : List Binding) → b ≡ a ++ c → Extends a b
Extends-by a b c e = record { more = c; is = e }

-- what the first knows stands last in the second, behind what became known since
pub record StaysUnder (old new : List Arity) : Type 0 where
  pub more : List Arity
  pub is : new ≡ more ++ old

pub StaysUnder-refl : (a : List Arity) → StaysUnder a a
StaysUnder-refl a = record { more = []; is = refl }

pub StaysUnder-one : (a b c : List Arity) (x : Arity) → StaysUnder a b → c ≡ x ∷ b → StaysUnder a c
StaysUnder-one a b c x p e = record { more = x ∷ p.more; is = e ∙ ap (λ (l : List Arity). x ∷ l) p.is }

pub StaysUnder-same : (a b c : List Arity) → StaysUnder a b → c ≡ b → StaysUnder a c
StaysUnder-same a b c p e = record { more = p.more; is = e ∙ p.is }

pub ruleset growing = (Extends-refl, Extends-trans, Extends-same, Extends-by, StaysUnder-refl, StaysUnder-one, StaysUnder-same)
