-- What a token has, where something is made of it.
use Rattle.std.specs.Prelude.{nat_lt, if◌then◌else◌}
use Rattle.std.proofs.Common.{◌≡◌, ◌<◌, ◌≤◌, ℕ, refl, Bool, true, false, Option, None, List, arith}
use Rattle.std.proofs.lemmas.Bool.Decides.{nat_tests}
use Rattle.lq_base_names.specs.declared.limits.TheConstants.{LITERAL_LIMIT}
use Rattle.lq_text_actions.specs.Value.{Content, some_name, some_number, neither, by_name, by_number, Value, Making, with_values}
use Rattle.lq_text_parser.proofs.SyntaxLemmas.Doing.{After}

pub name-is : (c : Content) (f : ℕ → Option (List Value)) (n : ℕ) (F : Making → Type 0) → After (with_values n (by_name c f)) F → (x : ℕ) × (c ≡ some_name x) × After (with_values n (f x)) F
name-is (some_name x) f n F h = (x, refl, h)
name-is (some_number v) f n F h = absurd h
name-is neither f n F h = absurd h

pub node-name-is : (c : Content) (f : ℕ → Option Making) (F : Making → Type 0) → After (by_name c f) F → (x : ℕ) × (c ≡ some_name x) × After (f x) F
node-name-is (some_name x) f F h = (x, refl, h)
node-name-is (some_number v) f F h = absurd h
node-name-is neither f F h = absurd h

pub number-is : (c : Content) (f : ℕ → Option (List Value)) (n : ℕ) (F : Making → Type 0) → After (with_values n (by_number c f)) F → (v : ℕ) × (c ≡ some_number v) × After (with_values n (f v)) F
number-is (some_number v) f n F h = (v, refl, h)
number-is (some_name x) f n F h = absurd h
number-is neither f n F h = absurd h

pub node-number-is : (c : Content) (f : ℕ → Option Making) (F : Making → Type 0) → After (by_number c f) F → (v : ℕ) × (c ≡ some_number v) × After (f v) F
node-number-is (some_number v) f F h = (v, refl, h)
node-number-is (some_name x) f F h = absurd h
node-number-is neither f F h = absurd h

pub below : (v : ℕ) (o : Option Making) (F : Making → Type 0) → After (if nat_lt v LITERAL_LIMIT then o else None) F → (v < LITERAL_LIMIT) × After o F
below v o F h = go (nat_lt v LITERAL_LIMIT) refl h
  where
    go : (b : Bool) → nat_lt v LITERAL_LIMIT ≡ b → After (if b then o else None) F → (v < LITERAL_LIMIT) × After o F
    go true e w = (grind (arith, nat_tests), w)
    go false e w = absurd w

pub up-to : (v : ℕ) (o : Option Making) (F : Making → Type 0) → After (if nat_lt LITERAL_LIMIT v then None else o) F → (v ≤ LITERAL_LIMIT) × After o F
up-to v o F h = go (nat_lt LITERAL_LIMIT v) refl h
  where
    go : (b : Bool) → nat_lt LITERAL_LIMIT v ≡ b → After (if b then None else o) F → (v ≤ LITERAL_LIMIT) × After o F
    go true e w = absurd w
    go false e w = (grind (arith, nat_tests), w)

pub below-value : (v : ℕ) (o : Option (List Value)) (n : ℕ) (F : Making → Type 0) → After (with_values n (if nat_lt v LITERAL_LIMIT then o else None)) F → (v < LITERAL_LIMIT) × After (with_values n o) F
below-value v o n F h = go (nat_lt v LITERAL_LIMIT) refl h
  where
    go : (b : Bool) → nat_lt v LITERAL_LIMIT ≡ b → After (with_values n (if b then o else None)) F → (v < LITERAL_LIMIT) × After (with_values n o) F
    go true e w = (grind (arith, nat_tests), w)
    go false e w = absurd w

pub up-to-value : (v : ℕ) (o : Option (List Value)) (n : ℕ) (F : Making → Type 0) → After (with_values n (if nat_lt LITERAL_LIMIT v then None else o)) F → (v ≤ LITERAL_LIMIT) × After (with_values n o) F
up-to-value v o n F h = go (nat_lt LITERAL_LIMIT v) refl h
  where
    go : (b : Bool) → nat_lt LITERAL_LIMIT v ≡ b → After (with_values n (if b then None else o)) F → (v ≤ LITERAL_LIMIT) × After (with_values n o) F
    go true e w = absurd w
    go false e w = (grind (arith, nat_tests), w)
