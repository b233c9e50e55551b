-- What goes on behind a parameter, what a let binds, a scrutinee, and an arm.
use Rattle.std.proofs.Common.{◌≡◌, ℕ, Bool, true, false, if◌then◌else◌, List, [], ◌∷◌, ◌++◌, Option, Some, None, refl, sym, ap, ap₂, ◌∙◌, append_assoc, append-nil}
use Rattle.lq_meaning_normal_tree.specs.BlockView.{local_view}
use Rattle.lq_meaning_normal_tree.specs.declared.block.Local.{Local}
use Rattle.lq_base_names.specs.declared.name.Binder.{Binder}
use Rattle.lq_base_names.specs.declared.place.Place.{Place}
use Rattle.lq_text_tree.specs.Pattern.{Pattern}
use Rattle.lq_text_tree.specs.Tree as form
use Rattle.lq_text_tree.specs.Tree.{Tree, tree, Cases}
use Rattle.lq_text_tree.specs.TreeView.{Case, Recursive, cases_of}
use Rattle.lq_text_tree.specs.declared.pattern.Pat.{Pat}
use Rattle.lq_text_walk.specs.Walk.Shape.{listed_cases}
use Rattle.lq_meaning_normal_form.specs.Outcomes.Flattening.{Let, let_one, let_function}
use Rattle.lq_meaning_normal_form.specs.Outcomes.Naming.{NamedPattern, behind, named_pattern, parameter}
use Rattle.lq_meaning_normalize.specs.Pass.Forming.{Formed, FormedRow, FormedCases, operation, block_of, body_under, is_matched, bound, scrutinee, over_cases, settled, formed, formed_cases}
use Rattle.lq_meaning_normalize.specs.Pass.Views.{under_view, is_there}
use Rattle.lq_meaning_normalize.specs.Normalize.Frames.{forms, under_parameter, after_body, after_under, after_function, function_node, recursive_node, match_with, after_arm, looked_at, after_scrutinee, one_part}
use Rattle.lq_meaning_normalize.specs.declared.normalize.frames.Label.{Label}
use Rattle.lq_meaning_normalize.specs.declared.normalize.frames.Parameter.{Parameter}
use Rattle.lq_meaning_normalize.proofs.NormalizeLemmas.Shapes.{cases_back}
use Rattle.lq_meaning_normalize.proofs.NormalizeLemmas.Steps.{if_true, if_false}

abbrev first_or : Tree → List Tree → Tree
first_or x [] = x
first_or x (t ∷ ts) = t

module _ (i : ℕ) (p : Place) where
  -- ---- functions

  abbrev the_function : List Let → ℕ → ℕ → ℕ → Place → Pattern → Tree → Tree → Formed
  the_function ls n f j r q b e = settled (formed (ls ++ let_function i p f j r q b ∷ []) n e)

  -- ---- lets

  abbrev behind_let : List Let → Pattern → Tree → List Let
  behind_let ls q t = ls ++ let_one i p q t ∷ []

  pub bound_matches : (q : Pattern) (E : Formed) (b : Tree) (ls ms ns os : List Let) (k m : ℕ) (x : Pattern) (t : Tree) (l : Local) (r : Pat Binder) → is_matched q ≡ true → x ≡ parameter E.next q
      → ls ≡ E.lets → ms ≡ behind_let ls x t → t ≡ E.last → k ≡ behind E.next q → os ≡ ms → ns ≡ [] → m ≡ k → ((d : Tree) → under_view l (Some r) d ≡ body_under E.next q d)
      → after_under os l r (formed ns m b) ≡ bound i p q E (forms b)
  bound_matches q E b ls ms ns os k m x t l r is_one local same pushed is next around none kept under =
      let whole = behind_let E.lets (parameter E.next q) E.last in
      let B = formed [] (behind E.next q) b in
      ap₂ (λ ns m. after_under os l r (formed ns m b)) none (kept ∙ next)
      ∙ ap₂ (λ os d. operation os B.next d) (around ∙ pushed ∙ ap (λ ls. behind_let ls x t) same ∙ ap₂ (behind_let E.lets) local is) (under (block_of B))
      ∙ sym (if_true (is_matched q) (operation whole B.next (body_under E.next q (block_of B))) (settled (formed whole (behind E.next q) b)) is_one)

  -- ---- matches

  abbrev the_match : List Let → ℕ → Tree → List Case → Formed
  the_match ls n x cs = operation ls n (tree i p (form.match_on x (cases_of cs)))

  abbrev the_arm : Pattern → Tree → Case
  the_arm q b = record { pattern = q; body = b }

  abbrev with_pattern : List Let → Tree → List Case → Tree → List Case → NamedPattern → Formed
  with_pattern ls x done b ds Q =
      let B = formed [] Q.next b in let R = formed_cases B.next (cases_of ds) in the_match ls R.next x (done ++ the_arm Q.pattern (block_of B) ∷ listed_cases R.cases)

  pub arm_done : (F : Formed) (ls ms : List Let) (x : Tree) (done more cs : List Case) (k : ℕ) (q : Pattern) (b : Tree) → ms ≡ ls → k ≡ F.next → b ≡ block_of F
      → more ≡ done ++ the_arm q b ∷ [] → match_with i p ms x more (formed_cases k (cases_of cs)) ≡ after_arm i p ls x done q cs F
  arm_done F ls ms x done more cs k q b around next is pushed =
      ap₂ (λ ms es. match_with i p ms x es (formed_cases k (cases_of cs))) around (pushed ∙ ap (λ t. done ++ the_arm q t ∷ []) is)
      ∙ ap (λ n. match_with i p ls x (done ++ the_arm q (block_of F) ∷ []) (formed_cases n (cases_of cs))) next

  abbrev matched_on : List Case → FormedRow → Tree → Formed
  matched_on cs R x = let C = formed_cases R.next (cases_of cs) in operation R.lets C.next (tree i p (form.match_on x C.cases))

  pub scrutinee_done : (e : Tree) (F : Formed) (ls : List Let) (k : ℕ) (x : Tree) (cs : List Case) → record { lets = ls; next = k; atoms = x ∷ [] } ≡ one_part (looked_at e F)
      → match_with i p ls x [] (formed_cases k (cases_of cs)) ≡ after_scrutinee i p e cs F
  scrutinee_done e F ls k x cs is =
      let C = formed_cases k (cases_of cs) in
      ap (λ ds. operation ls C.next (tree i p (form.match_on x ds))) (cases_back C.cases)
      ∙ ap (λ (R : FormedRow). matched_on cs R (first_or x R.atoms)) is

-- what a variable becomes is itself
looked_same : (e : Tree) (ls : List Let) (k : ℕ) → looked_at e (formed ls k e) ≡ scrutinee e (formed ls k e)
looked_same (tree i p (form.use_of x)) ls k = refl
looked_same (tree i p _) ls k = refl

pub match_next : (i : ℕ) (p : Place) (e : Tree) (cs : List Case) (ls : List Let) (k : ℕ)
    → after_scrutinee i p e cs (formed ls k e) ≡ (let E = scrutinee e (formed ls k e) in over_cases i p E (formed_cases E.next (cases_of cs)))
match_next i p e cs ls k = ap (λ (E : Formed). over_cases i p E (formed_cases E.next (cases_of cs))) (looked_same e ls k)
