-- How much is left to split.
use Rattle.std.proofs.Common.{◌≡◌, ℕ, zero, suc, ◌+◌, ◌<◌, ◌≤◌, List, [], ◌∷◌, ◌++◌, Bool, true, false, Some, All, if◌then◌else◌, length, get_or, set, slice_get, refl, ap, arith}
use Rattle.std.proofs.lemmas.List.Elements.{All-head, All-tail}
use Rattle.lq_logic_rows.specs.Row.{Row}
use Rattle.lq_prover_search.specs.Path.SearchPath.{choices_of}
use Rattle.lq_prover_search.specs.declared.path.choice.Choice.{Choice}
use Rattle.lq_prover_search.proofs.PathLemmas.Readings.{row_of}
use Rattle.lq_logic_predicates.specs.NnfView.{nnf_view, nnfs_view}
use Rattle.lq_logic_predicates.specs.Reading.{Reading, yes, no, row, flag_is, objects_are, all_of, any_of, Readings, none, more}
use Rattle.lq_logic_predicates.specs.declared.nnf.Nnf.{Nnf}
use Rattle.lq_prover_search.proofs.PruningLemmas.Taking as taking
use Rattle.lq_prover_search.specs.declared.search.search_path.SearchPath.{SearchPath}

-- the choices in a reading, nested ones too
abbrev mutual
  pub weight : Reading Row → ℕ
  weight yes = 0
  weight no = 0
  weight (row r) = 0
  weight (flag_is x sign) = 0
  weight (objects_are a b sign) = 0
  weight (all_of rs) = weights rs
  weight (any_of rs) = suc (weights rs)

  pub weights : Readings Row → ℕ
  weights none = 0
  weights (more r rs) = weight r + weights rs

abbrev pub choice_weight : Choice → ℕ
choice_weight c = if c.is_done then 0 else suc (weights (nnfs_view c.members.now))

abbrev pub total : List Choice → ℕ
total [] = 0
total (c ∷ cs) = choice_weight c + total cs

-- what is left of a path
abbrev pub left : SearchPath → ℕ
left p = total p.choices.items + total p.pairs.items

abbrev pub all_weights : List (Readings Row) → ℕ
all_weights [] = 0
all_weights (rs ∷ rss) = suc (weights rs) + all_weights rss

pub all_weights-append : (xs ys : List (Readings Row)) → all_weights (xs ++ ys) ≡ all_weights xs + all_weights ys
all_weights-append [] ys = omega arith
all_weights-append (x ∷ xs) ys = let k = all_weights-append xs ys in omega (arith, k)

pub total-append : (xs ys : List Choice) → total (xs ++ ys) ≡ total xs + total ys
total-append [] ys = omega arith
total-append (x ∷ xs) ys = let k = total-append xs ys in omega (arith, k)

pub total-open : (cs : List Choice) → All (λ c. c.is_done ≡ false) cs → total cs ≡ all_weights (choices_of cs)
total-open [] h = refl
total-open (c ∷ cs) h =
    let k = total-open cs (All-tail (λ (x : Choice). x.is_done ≡ false) c cs h) in
    let e = ap (λ b. if b then 0 else suc (weights (nnfs_view c.members.now))) (All-head (λ (x : Choice). x.is_done ≡ false) c cs h) in omega (arith, k, e)

mutual
  -- the choices that a reading adds are the ones in it
  pub added_weight : (r : Reading Row) → all_weights (taking.choices_of r) ≡ weight r
  added_weight yes = refl
  added_weight no = refl
  added_weight (row r) = refl
  added_weight (flag_is x sign) = refl
  added_weight (objects_are a b sign) = refl
  added_weight (all_of rs) = added_weights rs
  added_weight (any_of rs) = omega arith

  pub added_weights : (rs : Readings Row) → all_weights (taking.choices_of_all rs) ≡ weights rs
  added_weights none = refl
  added_weights (more r rs) =
      let a = added_weight r in let b = added_weights rs in let c = all_weights-append (taking.choices_of r) (taking.choices_of_all rs) in omega (arith, a, b, c)

pub item_weight : (items : List Nnf) (k : ℕ) (d : Nnf) → k < length items → weight (nnf_view (get_or items k d)) ≤ weights (row_of items)
item_weight [] k d h = absurd (omega (arith, h))
item_weight (n ∷ items) zero d h = omega arith
item_weight (n ∷ items) (suc k) d h = let r = item_weight items k d (omega (arith, h)) in omega (arith, r)

abbrev pub with_done : Choice → Bool → Choice
with_done c is_done = record { members = c.members; is_done = is_done }

-- a choice that is marked counts no longer
pub total-marked : (cs : List Choice) (at : ℕ) (c : Choice) → slice_get cs at ≡ Some c → c.is_done ≡ false
    → total (set cs at (with_done c true)) + suc (weights (nnfs_view c.members.now)) ≡ total cs
total-marked [] at c e h = cc
total-marked (d ∷ cs) zero c e h =
    let same : d ≡ c = cc in
    let w = ap choice_weight same in
    let k = ap (λ b. if b then 0 else suc (weights (nnfs_view c.members.now))) h in omega (arith, w, k)
total-marked (d ∷ cs) (suc at) c e h = let k = total-marked cs at c e h in omega (arith, k)
