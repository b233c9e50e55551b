-- Leaves of paths, and of paths with more behind.
use Rattle.std.proofs.Common.{◌≡◌, ℕ, zero, suc, List, [], ◌∷◌, ◌++◌, Some, length, refl, sym, ap, subst, ◌∙◌, append_assoc, append-nil}
use Rattle.lq_prover_proof_tree.specs.Trees.Path.{Fact, never, Path, with_fact, taken, each_taken, numbered_at}
use Rattle.lq_prover_proof_tree.specs.Trees.Proves.{Clashes}
use Rattle.lq_prover_proof_tree.specs.Trees.Tree.{Clash, Tree, absurdity}
use Rattle.lq_logic_rows.specs.Row.{Row}
use Rattle.lq_logic_predicates.specs.Reading.{Reading, yes, no, row, flag_is, objects_are, all_of, any_of, Readings, none, more}
use Rattle.lq_prover_search.specs.Path.SearchPath.{Begins, IsLeafOf, by_never, by_facts}

-- a clash of facts is one of more facts
abbrev pub ClashesStay : Type 0
ClashesStay = (f g : List Fact) (clash : Clash) → Clashes f clash → Clashes (f ++ g) clash

pub begins_itself : (p : Path) → Begins p p
begins_itself p = record { facts = []; choices = []; are_facts = sym (append-nil p.facts); are_choices = sym (append-nil p.choices) }

pub begins_then : (p q r : Path) → Begins p q → Begins q r → Begins p r
begins_then p q r a b = record {
  facts = a.facts ++ b.facts;
  choices = a.choices ++ b.choices;
  are_facts = b.are_facts ∙ ap (λ l. l ++ b.facts) a.are_facts ∙ append_assoc p.facts a.facts b.facts;
  are_choices = b.are_choices ∙ ap (λ l. l ++ b.choices) a.are_choices ∙ append_assoc p.choices a.choices b.choices;
}

pub with_fact_begins : (p : Path) (f : Fact) → Begins p (with_fact p f)
with_fact_begins p f = record { facts = f ∷ []; choices = []; are_facts = refl; are_choices = sym (append-nil p.choices) }

mutual
  pub taken_begins : (p : Path) (r : Reading Row) → Begins p (taken p r)
  taken_begins p yes = begins_itself p
  taken_begins p no = with_fact_begins p _
  taken_begins p (row r) = with_fact_begins p _
  taken_begins p (flag_is x sign) = with_fact_begins p _
  taken_begins p (objects_are a b sign) = with_fact_begins p _
  taken_begins p (all_of rs) = each_taken_begins p rs
  taken_begins p (any_of rs) = record { facts = []; choices = rs ∷ []; are_facts = sym (append-nil p.facts); are_choices = refl }

  pub each_taken_begins : (p : Path) (rs : Readings Row) → Begins p (each_taken p rs)
  each_taken_begins p none = begins_itself p
  each_taken_begins p (more r rs) = begins_then p (taken p r) (each_taken (taken p r) rs) (taken_begins p r) (each_taken_begins (taken p r) rs)

numbered_stays : {X : Type 0} (f g : List X) (t : ℕ) (x : X) → numbered_at f t ≡ Some x → numbered_at (f ++ g) t ≡ Some x
numbered_stays f g zero x e = cc
numbered_stays [] g (suc k) x e = cc
numbered_stays (y ∷ f) g (suc zero) x e = e
numbered_stays (y ∷ f) g (suc (suc k)) x e = numbered_stays f g (suc k) x e

numbered_next : {X : Type 0} (f : List X) (x : X) → numbered_at (f ++ x ∷ []) (suc (length f)) ≡ Some x
numbered_next [] x = refl
numbered_next (y ∷ f) x = numbered_next f x

pub never_is_next : (p : Path) (n : ℕ) → n ≡ suc (length p.facts) → IsLeafOf (taken p no) (absurdity n)
never_is_next p n e = by_never n (subst (λ m. numbered_at (p.facts ++ never ∷ []) m ≡ Some never) (sym e) (numbered_next p.facts never))

pub leaf_stays : ClashesStay → (p q : Path) (t : Tree) → IsLeafOf p t → Begins p q → IsLeafOf q t
leaf_stays stay p q _ (by_never t e) b = by_never t (subst (λ l. numbered_at l t ≡ Some never) (sym b.are_facts) (numbered_stays p.facts b.facts t never e))
leaf_stays stay p q _ (by_facts c h) b = by_facts c (subst (λ l. Clashes l c) (sym b.are_facts) (stay p.facts b.facts c h))
