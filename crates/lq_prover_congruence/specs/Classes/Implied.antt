-- Applications of one head whose arguments are the same.
use Rattle.std.specs.Prelude.{◌≡◌, ◌≢◌, ◌⊎◌, ◌≤◌, ℕ, zero, suc, ◌+◌, ◌-◌, ◌<◌, Bool, cond, eqb, nat_lt, ◌&&◌, List, [], ◌∷◌, ◌++◌, length, slice_index, Option, Some, None}
use Rattle.lq_prover_congruence.specs.Ring.Ring.{times}
use Rattle.lq_prover_congruence.specs.Ring.Walk.{until}
use Rattle.lq_prover_congruence.specs.Classes.Terms.{find_in, same_term, term_in}
use Rattle.lq_prover_congruence.specs.Classes.Steps.{IsTerm, IsSame}
use Rattle.lq_prover_congruence.specs.Classes.Core.{Core, IsShaped, signature}
use Rattle.lq_prover_congruence.specs.declared.classes.head.Head.{Head}
use Rattle.lq_prover_congruence.specs.declared.classes.steps.Pair.{Pair}
use Rattle.lq_prover_congruence.specs.declared.classes.steps.Step.{Step}

-- two applications of one head, the first before the other, whose arguments are the same
pub record IsImplied (steps : List Step) (i j : ℕ) : Type 0 where
  pub before : i < j
  pub head : Head
  pub left : List ℕ
  pub right : List ℕ
  pub is_left : IsTerm steps i (head, left)
  pub is_right : IsTerm steps j (head, right)
  pub some : 0 < length left
  pub even : length left ≡ length right
  pub same : (k : ℕ) → k < length left → IsSame steps (slice_index left k) (slice_index right k)

-- how often a pair is in a list
abbrev pub pair_times : ℕ → ℕ → List Pair → ℕ
pair_times i j [] = 0
pair_times i j (p ∷ ps) = cond (eqb i p.left && eqb j p.right) 1 0 + pair_times i j ps

-- two terms of which one is the other or stands for it
abbrev pub StandsFor : List Pair → ℕ → ℕ → Type 0
StandsFor pairs k i = (k ≡ i) ⊎ (0 < pair_times k i pairs)

-- two terms for which one stands
abbrev pub HaveOne : List Pair → ℕ → ℕ → Type 0
HaveOne pairs i j = (k : ℕ) × StandsFor pairs k i × StandsFor pairs k j

-- the same by labels
pub record IsPartner (c : Core) (i j : ℕ) : Type 0 where
  pub before : i < j
  pub some : 0 < length (term_in c.known i).1
  pub same : signature c.labels (term_in c.known i) ≡ signature c.labels (term_in c.known j)

abbrev pub is_partner : Core → ℕ → ℕ → Bool
is_partner c i j = nat_lt i j && (nat_lt 0 (length (term_in c.known i).1) && same_term (signature c.labels (term_in c.known i)) (signature c.labels (term_in c.known j)))

abbrev pub pair : ℕ → ℕ → Pair
pair i j = record { left = i; right = j }

-- the partners of a term in a list
abbrev pub partners : Core → ℕ → List ℕ → List Pair
partners c i [] = []
partners c i (j ∷ js) = cond (is_partner c i j) (pair i j ∷ partners c i js) (partners c i js)

-- the partners of so many terms, from one on, each in its ring
abbrev pub pairs_on : Core → ℕ → ℕ → List Pair
pairs_on c zero i = []
pairs_on c (suc n) i = partners c i (until (length c.next) c.next i i) ++ pairs_on c n (suc i)

-- what is left, where a walk is under way or none
abbrev pub left_pairs : Core → ℕ → Option (List ℕ) → List Pair
left_pairs c i None = pairs_on c (length c.known - i) i
left_pairs c i (Some w) = partners c i w ++ pairs_on c (length c.known - suc i) (suc i)

abbrev pub IsUnderWay : Core → ℕ → Option (List ℕ) → Type 0
IsUnderWay c i None = Unit {0}
IsUnderWay c i (Some w) = (i < length c.known) × ((j : ℕ) → 0 < times j w → j < length c.known)

-- where a search for pairs has come to
pub record IsPlace (c : Core) (n i : ℕ) (walk : Option (List ℕ)) : Type 0 where
  pub shaped : IsShaped c
  pub count : n ≡ length c.known
  pub under_way : IsUnderWay c i walk

-- of the first terms, each application for which another one stands, behind that one
pub record Represents (c : Core) (n : ℕ) (pairs : List Pair) : Type 0 where
  pub each : (k i : ℕ) → 0 < pair_times k i pairs → (i < n) × (0 < length (term_in c.known i).1) × (find_in c.filed (signature c.labels (term_in c.known i)) ≡ Some k) × (k ≢ i)
  pub all : (i k : ℕ) → i < n → 0 < length (term_in c.known i).1 → find_in c.filed (signature c.labels (term_in c.known i)) ≡ Some k → StandsFor pairs k i
  pub few : length pairs ≤ n
