-- Lists of terms that grow.
use Rattle.std.proofs.Common.{◌≡◌, List, [], ◌∷◌, ◌++◌, Bool, true, false, refl, sym, ap, subst, ◌∙◌, append_assoc, if◌then◌else◌}
use Rattle.std.proofs.lemmas.List.{append-nil}
use Rattle.lq_logic_predicates.specs.Sum.{Sum}
use Rattle.lq_logic_predicates.specs.Table.{has_term, with_term, Extends}

pub Extends-refl : (t : List Sum) → Extends t t
Extends-refl t = record { more = []; is = sym (append-nil t) }

pub Extends-trans : (a b c : List Sum) → Extends a b → Extends b c → Extends a c
Extends-trans a b c p q = record { more = p.more ++ q.more; is = q.is ∙ ap (λ l. l ++ q.more) p.is ∙ append_assoc a p.more q.more }

pub Extends-with_term : (terms : List Sum) (t : Sum) → Extends terms (with_term terms t)
Extends-with_term terms t = by (has_term terms t)
  where
    by : (b : Bool) → Extends terms (if b then terms else terms ++ t ∷ [])
    by true = Extends-refl terms
    by false = record { more = t ∷ []; is = refl }

pub Extends-same : (a b : List Sum) → b ≡ a → Extends a b
Extends-same a b e = record { more = []; is = e ∙ sym (append-nil a) }

pub Extends-put : (a b : List Sum) (t : Sum) → b ≡ with_term a t → Extends a b
Extends-put a b t e = subst (Extends a) (sym e) (Extends-with_term a t)

pub ruleset growing = (Extends-refl, Extends-trans, Extends-same, Extends-put)
