-- A pass that goes on.
use Rattle.std.proofs.Common.{◌≡◌, ◌≤◌, [], ◌∷◌, ◌++◌, sym, ap, ◌∙◌, arith, append_assoc}
use Rattle.std.proofs.lemmas.List.{append-nil}
use Rattle.lq_meaning_normal_form.specs.Outcomes.Flattening.{Let}
use Rattle.lq_meaning_normalize.specs.Pass.Views.{GoesOn, lets_of}
use Rattle.lq_meaning_normalize.specs.declared.pass.making.Pass.{Pass}

pub GoesOn-refl : (P : Pass) → GoesOn P P
GoesOn-refl P = record { more = []; lets = sym (append-nil (lets_of P)); next = omega arith }

pub GoesOn-trans : (P Q R : Pass) → GoesOn P Q → GoesOn Q R → GoesOn P R
GoesOn-trans P Q R p q = record {
  more = p.more ++ q.more;
  lets = q.lets ∙ ap (λ l. l ++ q.more) p.lets ∙ append_assoc (lets_of P) p.more q.more;
  next = let a = p.next in let b = q.next in omega arith;
}

-- no binding more
pub GoesOn-same : (P Q : Pass) → lets_of Q ≡ lets_of P → P.next ≤ Q.next → GoesOn P Q
GoesOn-same P Q e n = record { more = []; lets = e ∙ sym (append-nil (lets_of P)); next = n }

pub GoesOn-by : (P Q : Pass) (l : Let) → lets_of Q ≡ lets_of P ++ l ∷ [] → Q.next ≡ P.next → GoesOn P Q
GoesOn-by P Q l e n = record { more = l ∷ []; lets = e; next = omega arith }

pub ruleset going = (GoesOn-refl, GoesOn-trans, GoesOn-same, GoesOn-by)
