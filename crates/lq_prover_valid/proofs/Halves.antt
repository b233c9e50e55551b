-- A reading that is both of two.
use Rattle.std.proofs.Common.{◌≡◌, ℕ, zero, suc, List, [], ◌∷◌, ◌++◌, Some, get_or, length, map, slice_get, sym, ap₂, subst, arith}
use Rattle.lq_prover_proof_tree.specs.Trees.Path.{Path, row_fact}
use Rattle.lq_logic_rows.specs.Row.{Row}
use Rattle.lq_prover_search.specs.Path.SearchPath.{Begins}
use Rattle.lq_logic_predicates.specs.NnfView.{nnf_view, readings_of}
use Rattle.lq_logic_predicates.specs.Reading.{Readings, more, none}
use Rattle.lq_logic_predicates.specs.Sum.{Sum}
use Rattle.lq_logic_predicates.specs.declared.nnf.Nnf.{Nnf}
use Rattle.lq_prover_search.specs.Search.Stopping.{of_choice, of_equation, of_fact, of_way}
use Rattle.lq_prover_search.proofs.SearchLemmas.Stops.{TakesNoMore}

pub two_seen : (items : List Nnf) (a b : Nnf) → length items ≡ 2 → a ≡ get_or items 0 a → b ≡ get_or items 1 b → readings_of (map nnf_view items) ≡ more (nnf_view a) (more (nnf_view b) none)
two_seen [] a b l e f = cc
two_seen (x ∷ []) a b l e f = cc
two_seen (x ∷ (y ∷ [])) a b l e f = ap₂ (λ u v. more (nnf_view u) (more (nnf_view v) none)) (sym e) (sym f)
two_seen (x ∷ (y ∷ (z ∷ items))) a b l e f = absurd (omega (arith, l))

-- ---- a path takes no more than one that begins with it

still_there : {X : Type 0} (xs ys : List X) (k : ℕ) (x : X) → slice_get xs k ≡ Some x → slice_get (xs ++ ys) k ≡ Some x
still_there {X} [] ys k x e = cc
still_there {X} (y ∷ xs) ys zero x e = e
still_there {X} (y ∷ xs) ys (suc k) x e = still_there xs ys k x e

pub begins_takes : (ts : List Sum) (ways : List (Readings Row)) (p q : Path) → Begins p q → TakesNoMore ts ways p q
begins_takes ts ways p q b r (of_fact k e) = of_fact k (subst (λ l. slice_get l k ≡ Some (row_fact r)) (sym b.are_facts) (still_there p.facts b.facts k (row_fact r) e))
begins_takes ts ways p q b r (of_choice k members e h) = of_choice k members (subst (λ l. slice_get l k ≡ Some members) (sym b.are_choices) (still_there p.choices b.choices k members e)) h
begins_takes ts ways p q b r (of_way k members e h) = of_way k members e h
begins_takes ts ways p q b r (of_equation t one e) = of_equation t one e
