-- Texts that are continued.
use Rattle.std.specs.Prelude.{is_ok, if◌then◌else◌}
use Rattle.std.proofs.Common.{◌≡◌, ℕ, List, [], ◌++◌, Result, Ok, Err, sym, ap, ◌∙◌, append_assoc}
use Rattle.std.proofs.lemmas.List.{append-nil}

-- the second text begins with the first
pub record Continues (old new : List ℕ) : Type 0 where
  pub more : List ℕ
  pub is : new ≡ old ++ more

pub Continues-refl : (t : List ℕ) → Continues t t
Continues-refl t = record { more = []; is = sym (append-nil t) }

pub Continues-trans : (a b c : List ℕ) → Continues a b → Continues b c → Continues a c
Continues-trans a b c p q = record { more = p.more ++ q.more; is = q.is ∙ ap (λ l. l ++ q.more) p.is ∙ append_assoc a p.more q.more }

pub Continues-by : (a b c : List ℕ) → b ≡ a ++ c → Continues a b
Continues-by a b c e = record { more = c; is = e }

pub Continues-tried : {T E : Type 0} (r : Result T E) (a b c : List ℕ) → b ≡ (if is_ok r then a ++ c else a) → Continues a b
Continues-tried (Ok x) a b c e = Continues-by a b c e
Continues-tried (Err x) a b c e = record { more = []; is = e ∙ sym (append-nil a) }

pub ruleset continuing = (Continues-refl, Continues-trans, Continues-by, Continues-tried)
