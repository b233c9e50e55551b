-- Values of flags, put into a map one after the other.
use Rattle.std.proofs.Common.{◌≡◌, ◌∙◌, ℕ, zero, suc, ◌+◌, List, [], ◌∷◌, ◌++◌, Bool, true, false, ◌||◌, cond, Some, None, slice_get, take, refl, sym, ap, arith, if◌then◌else◌}
use Rattle.std.proofs.lemmas.Bool.{or_right}
use Rattle.lq_prover_case.specs.State.Flags.{find_given}
use Rattle.lq_prover_case.specs.State.PathState.{PathState}
use Rattle.lq_prover_search.specs.Path.Meeting.{given_value}
use Rattle.lq_logic_points.specs.Values.{flag_value}
use Rattle.lq_logic_predicates.specs.SameLaws.{same-is, same-symm}
use Rattle.lq_logic_predicates.specs.Sum.{same_symbol, var}
use Rattle.lq_logic_predicates.specs.declared.symbol.Symbol.{Symbol}
use Rattle.lq_prover_search.specs.Search.Scope.{has_flag}
use Rattle.lq_prover_valid.specs.Values.{HasFlagsOf}

take_one : {X : Type 0} (xs : List X) (i : ℕ) (x : X) → slice_get xs i ≡ Some x → take (i + 1) xs ≡ take i xs ++ x ∷ []
take_one {X} [] i x e = cc
take_one {X} (y ∷ xs) zero x e = let same : y ≡ x = cc in ap (λ z. z ∷ []) same
take_one {X} (y ∷ xs) (suc i) x e = let k : suc i + 1 ≡ suc (i + 1) = omega arith in ap (λ n. take n (y ∷ xs)) k ∙ ap (λ l. y ∷ l) (take_one xs i x e)

or_nothing : (a : Bool) → (a || false) ≡ a
or_nothing true = refl
or_nothing false = refl

or_three : (a b c : Bool) → (a || (b || c)) ≡ ((a || b) || c)
or_three true b c = refl
or_three false b c = refl

flag_last : (xs : List Symbol) (x y : Symbol) → has_flag (xs ++ x ∷ []) y ≡ (has_flag xs y || same_symbol y x)
flag_last [] x y = or_nothing (same_symbol y x)
flag_last (z ∷ xs) x y = ap (λ b. same_symbol y z || b) (flag_last xs x y) ∙ or_three (same_symbol y z) (has_flag xs y) (same_symbol y x)

same_flag : (x y : Symbol) → same_symbol x y ≡ true → x ≡ y
same_flag x y h = let e : var x ≡ var y = same-is (var x) (var y) h in cc

pub flags_next : (flags : List Symbol) (s : PathState) (old new : List (Symbol × Bool)) (n : ℕ) (x : Symbol) (b : Bool) → slice_get flags n ≡ Some x → b ≡ given_value (find_given s.flags x)
    → ((y : Symbol) → flag_value new y ≡ cond (same_symbol x y) (Some b) (flag_value old y)) → HasFlagsOf (take n flags) s old → HasFlagsOf (take (n + 1) flags) s new
flags_next flags s old new n x b at is updates h y =
    updates y ∙ by (same_symbol x y) refl ∙ sym (ap (λ l. if has_flag l y then Some (given_value (find_given s.flags y)) else None) (take_one flags n x at)
    ∙ ap (λ c. if c then Some (given_value (find_given s.flags y)) else None) (flag_last (take n flags) x y))
  where
    by : (c : Bool) → same_symbol x y ≡ c
        → cond c (Some b) (flag_value old y) ≡ (if has_flag (take n flags) y || same_symbol y x then Some (given_value (find_given s.flags y)) else None)
    by true e =
        let one : x ≡ y = same_flag x y e in
        ap Some (is ∙ ap (λ z. given_value (find_given s.flags z)) one)
        ∙ sym (ap (λ c. if c then Some (given_value (find_given s.flags y)) else None) (or_right (has_flag (take n flags) y) (same_symbol y x) (same-symm (var y) (var x) ∙ e)))
    by false e =
        h y ∙ sym (ap (λ c. if c then Some (given_value (find_given s.flags y)) else None) (ap (λ c. has_flag (take n flags) y || c) (same-symm (var y) (var x) ∙ e) ∙ or_nothing (has_flag (take n flags) y)))
