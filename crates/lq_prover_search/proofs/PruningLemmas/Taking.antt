-- What a reading adds to a path.
use Rattle.std.proofs.Common.{◌≡◌, List, [], ◌∷◌, ◌++◌, map, sym, ap, ap₂, ◌∙◌, append_assoc, append-nil}
use Rattle.lq_prover_proof_tree.specs.Trees.Path.{Fact, row_fact, flag_fact, objects_fact, never, Path, with_fact, with_rows, taken, each_taken}
use Rattle.lq_logic_rows.specs.Row.{Row}
use Rattle.lq_logic_predicates.specs.Reading.{Reading, yes, no, row, flag_is, objects_are, all_of, any_of, Readings, none, more}

abbrev mutual
  pub facts_of : Reading Row → List Fact
  facts_of yes = []
  facts_of no = never ∷ []
  facts_of (row r) = row_fact r ∷ []
  facts_of (flag_is x sign) = flag_fact x sign ∷ []
  facts_of (objects_are a b sign) = objects_fact a b sign ∷ []
  facts_of (all_of rs) = facts_of_all rs
  facts_of (any_of rs) = []

  pub facts_of_all : Readings Row → List Fact
  facts_of_all none = []
  facts_of_all (more r rs) = facts_of r ++ facts_of_all rs

abbrev mutual
  pub choices_of : Reading Row → List (Readings Row)
  choices_of (all_of rs) = choices_of_all rs
  choices_of (any_of rs) = rs ∷ []
  choices_of _ = []

  pub choices_of_all : Readings Row → List (Readings Row)
  choices_of_all none = []
  choices_of_all (more r rs) = choices_of r ++ choices_of_all rs

abbrev pub path_with : Path → List Fact → List (Readings Row) → Path
path_with p f c = record { facts = p.facts ++ f; choices = p.choices ++ c }

with_none : (p : Path) → p ≡ path_with p [] []
with_none p = ap₂ (λ f c. record { facts = f; choices = c }) (sym (append-nil p.facts)) (sym (append-nil p.choices))

with_both : (p : Path) (f g : List Fact) (c d : List (Readings Row)) → path_with (path_with p f c) g d ≡ path_with p (f ++ g) (c ++ d)
with_both p f g c d = ap₂ (λ x y. record { facts = x; choices = y }) (append_assoc p.facts f g) (append_assoc p.choices c d)

pub one_fact : (p : Path) (f : Fact) → with_fact p f ≡ path_with p (f ∷ []) []
one_fact p f = ap (λ c. record { facts = p.facts ++ f ∷ []; choices = c }) (sym (append-nil p.choices))

mutual
  pub taken_is : (p : Path) (r : Reading Row) → taken p r ≡ path_with p (facts_of r) (choices_of r)
  taken_is p yes = with_none p
  taken_is p no = one_fact p never
  taken_is p (row r) = one_fact p (row_fact r)
  taken_is p (flag_is x sign) = one_fact p (flag_fact x sign)
  taken_is p (objects_are a b sign) = one_fact p (objects_fact a b sign)
  taken_is p (all_of rs) = each_taken_is p rs
  taken_is p (any_of rs) = ap (λ f. record { facts = f; choices = p.choices ++ rs ∷ [] }) (sym (append-nil p.facts))

  pub each_taken_is : (p : Path) (rs : Readings Row) → each_taken p rs ≡ path_with p (facts_of_all rs) (choices_of_all rs)
  each_taken_is p none = with_none p
  each_taken_is p (more r rs) =
      each_taken_is (taken p r) rs ∙ ap (λ q. path_with q (facts_of_all rs) (choices_of_all rs)) (taken_is p r)
      ∙ with_both p (facts_of r) (facts_of_all rs) (choices_of r) (choices_of_all rs)

pub with_rows_is : (p : Path) (rs : List Row) → with_rows p rs ≡ path_with p (map row_fact rs) []
with_rows_is p [] = with_none p
with_rows_is p (r ∷ rs) =
    with_rows_is (with_fact p (row_fact r)) rs
    ∙ ap (λ f. record { facts = f; choices = p.choices ++ [] }) (append_assoc p.facts (row_fact r ∷ []) (map row_fact rs))
