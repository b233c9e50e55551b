-- Points that meet paths, and paths with more facts.
use Rattle.std.proofs.Common.{◌≡◌, ℕ, zero, suc, List, [], ◌∷◌, ◌++◌, true, Some, slice_get, refl, sym, subst, ◌∙◌, eqb-true}
use Rattle.lq_logic_rows.specs.Contradiction.{Solves}
use Rattle.lq_logic_rows.specs.Row.{Row, Valuation, RowHolds}
use Rattle.lq_logic_predicates.specs.Points.{Point}
use Rattle.lq_logic_predicates.specs.Reading.{Reading, yes, no, row, flag_is, objects_are, all_of, any_of, Readings, none, more}
use Rattle.lq_logic_predicates.specs.RowMeaning.{MeetsRows, MeetsAllRows, MeetsAnyRow}
use Rattle.lq_logic_predicates.specs.Sum.{Sum}
use Rattle.lq_prover_proof_tree.specs.Trees.Met.{FactHolds, AllHold, AllChosen, MeetsPath}
use Rattle.lq_prover_proof_tree.specs.Trees.Path.{Fact, row_fact, flag_fact, objects_fact, never, Path, with_fact, with_rows, taken, each_taken, numbered_at}
use Rattle.lq_prover_proof_tree.specs.Trees.Proves.{AreJoined, itself, onward, backward, rows_from}

-- ---- facts by their numbers

fact_at : (v : Valuation) (p : Point) (facts : List Fact) (k : ℕ) (f : Fact) → AllHold v p facts → slice_get facts k ≡ Some f → FactHolds v p f
fact_at v p [] k f h e = cc
fact_at v p (g ∷ facts) zero f h e = let same : g ≡ f = cc in subst (FactHolds v p) same h.0
fact_at v p (g ∷ facts) (suc k) f h e = fact_at v p facts k f h.1 e

pub fact_numbered : (v : Valuation) (p : Point) (facts : List Fact) (k : ℕ) (f : Fact) → AllHold v p facts → numbered_at facts k ≡ Some f → FactHolds v p f
fact_numbered v p facts zero f h e = cc
fact_numbered v p facts (suc k) f h e = fact_at v p facts k f h e

choice_at : (v : Valuation) (p : Point) (choices : List (Readings Row)) (k : ℕ) (rs : Readings Row) → AllChosen v p choices → slice_get choices k ≡ Some rs
    → MeetsAnyRow v p rs
choice_at v p [] k rs h e = cc
choice_at v p (g ∷ choices) zero rs h e = let same : g ≡ rs = cc in subst (MeetsAnyRow v p) same h.0
choice_at v p (g ∷ choices) (suc k) rs h e = choice_at v p choices k rs h.1 e

pub choice_numbered : (v : Valuation) (p : Point) (choices : List (Readings Row)) (k : ℕ) (rs : Readings Row) → AllChosen v p choices
    → numbered_at choices k ≡ Some rs → MeetsAnyRow v p rs
choice_numbered v p choices zero rs h e = cc
choice_numbered v p choices (suc k) rs h e = choice_at v p choices k rs h e

-- objects that facts join are of one class
pub joined_same : (v : Valuation) (p : Point) (facts : List Fact) (ts : List ℕ) (a b : Sum) → AllHold v p facts → AreJoined facts ts a b → p.class_of a ≡ p.class_of b
joined_same v p facts _ _ _ h (itself a) = refl
joined_same v p facts _ _ _ h (onward t ts a b c e j) =
    eqb-true (p.class_of a) (p.class_of b) (fact_numbered v p facts t (objects_fact a b true) h e) ∙ joined_same v p facts ts b c h j
joined_same v p facts _ _ _ h (backward t ts a b c e j) =
    sym (eqb-true (p.class_of b) (p.class_of a) (fact_numbered v p facts t (objects_fact b a true) h e)) ∙ joined_same v p facts ts b c h j

-- the rows among facts that hold are solved
pub solves_rows : (v : Valuation) (p : Point) (n : ℕ) (facts : List Fact) → AllHold v p facts → Solves v (rows_from n facts)
solves_rows v p n [] h = tt
solves_rows v p n (row_fact r ∷ facts) h = (h.0, solves_rows v p (suc n) facts h.1)
solves_rows v p n (flag_fact x sign ∷ facts) h = solves_rows v p (suc n) facts h.1
solves_rows v p n (objects_fact a b sign ∷ facts) h = solves_rows v p (suc n) facts h.1
solves_rows v p n (never ∷ facts) h = absurd h.0

-- ---- more facts and choices

hold_more : (v : Valuation) (p : Point) (facts : List Fact) (f : Fact) → AllHold v p facts → FactHolds v p f → AllHold v p (facts ++ f ∷ [])
hold_more v p [] f h k = (k, tt)
hold_more v p (g ∷ facts) f h k = (h.0, hold_more v p facts f h.1 k)

hold_fewer : (v : Valuation) (p : Point) (facts : List Fact) (f : Fact) → AllHold v p (facts ++ f ∷ []) → AllHold v p facts × FactHolds v p f
hold_fewer v p [] f h = (tt, h.0)
hold_fewer v p (g ∷ facts) f h = let k = hold_fewer v p facts f h.1 in ((h.0, k.0), k.1)

chosen_more : (v : Valuation) (p : Point) (choices : List (Readings Row)) (rs : Readings Row) → AllChosen v p choices → MeetsAnyRow v p rs → AllChosen v p (choices ++ rs ∷ [])
chosen_more v p [] rs h k = (k, tt)
chosen_more v p (g ∷ choices) rs h k = (h.0, chosen_more v p choices rs h.1 k)

chosen_fewer : (v : Valuation) (p : Point) (choices : List (Readings Row)) (rs : Readings Row) → AllChosen v p (choices ++ rs ∷ []) → AllChosen v p choices × MeetsAnyRow v p rs
chosen_fewer v p [] rs h = (tt, h.0)
chosen_fewer v p (g ∷ choices) rs h = let k = chosen_fewer v p choices rs h.1 in ((h.0, k.0), k.1)

pub meets_fact : (v : Valuation) (p : Point) (path : Path) (f : Fact) → MeetsPath v p path → FactHolds v p f → MeetsPath v p (with_fact path f)
meets_fact v p path f m h = record { facts = hold_more v p path.facts f m.facts h; choices = m.choices }

meets_without : (v : Valuation) (p : Point) (path : Path) (f : Fact) → MeetsPath v p (with_fact path f) → MeetsPath v p path × FactHolds v p f
meets_without v p path f m = let k = hold_fewer v p path.facts f m.facts in (record { facts = k.0; choices = m.choices }, k.1)

abbrev pub AllRowsHold : Valuation → List Row → Type 0
AllRowsHold v [] = Unit {0}
AllRowsHold v (r ∷ rs) = RowHolds v r × AllRowsHold v rs

pub meets_with_rows : (v : Valuation) (p : Point) (path : Path) (rs : List Row) → MeetsPath v p path → AllRowsHold v rs → MeetsPath v p (with_rows path rs)
meets_with_rows v p path [] m h = m
meets_with_rows v p path (r ∷ rs) m h = meets_with_rows v p (with_fact path (row_fact r)) rs (meets_fact v p path (row_fact r) m h.0) h.1

-- ---- readings that are taken

mutual
  pub meets_taken : (v : Valuation) (p : Point) (path : Path) (r : Reading Row) → MeetsPath v p path → MeetsRows v p r → MeetsPath v p (taken path r)
  meets_taken v p path yes m h = m
  meets_taken v p path no m h = absurd h
  meets_taken v p path (row r) m h = meets_fact v p path (row_fact r) m h
  meets_taken v p path (flag_is x sign) m h = meets_fact v p path (flag_fact x sign) m h
  meets_taken v p path (objects_are a b sign) m h = meets_fact v p path (objects_fact a b sign) m h
  meets_taken v p path (all_of rs) m h = meets_each_taken v p path rs m h
  meets_taken v p path (any_of rs) m h = record { facts = m.facts; choices = chosen_more v p path.choices rs m.choices h }

  meets_each_taken : (v : Valuation) (p : Point) (path : Path) (rs : Readings Row) → MeetsPath v p path → MeetsAllRows v p rs → MeetsPath v p (each_taken path rs)
  meets_each_taken v p path none m h = m
  meets_each_taken v p path (more r rs) m h = meets_each_taken v p (taken path r) rs (meets_taken v p path r m h.0) h.1

mutual
  pub taken_meets : (v : Valuation) (p : Point) (path : Path) (r : Reading Row) → MeetsPath v p (taken path r) → MeetsPath v p path × MeetsRows v p r
  taken_meets v p path yes m = (m, tt)
  taken_meets v p path no m = meets_without v p path never m
  taken_meets v p path (row r) m = meets_without v p path (row_fact r) m
  taken_meets v p path (flag_is x sign) m = meets_without v p path (flag_fact x sign) m
  taken_meets v p path (objects_are a b sign) m = meets_without v p path (objects_fact a b sign) m
  taken_meets v p path (all_of rs) m = each_taken_meets v p path rs m
  taken_meets v p path (any_of rs) m =
      let k = chosen_fewer v p path.choices rs m.choices in (record { facts = m.facts; choices = k.0 }, k.1)

  each_taken_meets : (v : Valuation) (p : Point) (path : Path) (rs : Readings Row) → MeetsPath v p (each_taken path rs) → MeetsPath v p path × MeetsAllRows v p rs
  each_taken_meets v p path none m = (m, tt)
  each_taken_meets v p path (more r rs) m =
      let k = each_taken_meets v p (taken path r) rs m in
      let l = taken_meets v p path r k.0 in (l.0, (l.1, k.1))
