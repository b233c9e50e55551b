-- Literals of readings over the terms of a table are over them.
use Rattle.std.proofs.Common.{◌≡◌, ℕ, zero, suc, ◌<◌, List, [], ◌∷◌, ◌++◌, All, OnOk, Result, Ok, Err, length, map, get_or, sym, subst, ap, ◌∙◌, arith, rules}
use Rattle.std.proofs.lemmas.List.{map-append}
use Rattle.std.proofs.lemmas.List.Elements.{All-head, All-tail}
use Rattle.std.specs.Prelude.{ℤ}
use Rattle.lq_prover_proof_tree.specs.Trees.Path as path
use Rattle.lq_prover_proof_tree.specs.Trees.Path.{row_fact, flag_fact, objects_fact, never}
use Rattle.lq_prover_decide.specs.Case.{fact_of}
use Rattle.lq_prover_decide.specs.Deciding.{AllFactsBelow}
use Rattle.lq_prover_decide.specs.declared.fact.Fact.{Fact}
use Rattle.lq_cases_prover.specs.Decide.Reading.{AreRowsBelow, IsRowBelow}
use Rattle.lq_logic_rows.specs.Difference.{TermsBelow}
use Rattle.lq_logic_rows.specs.Row.{Row}
use Rattle.lq_logic_predicates.specs.Comparison.{Comparison, IsRowOf}
use Rattle.lq_logic_predicates.specs.NnfView.{nnf_items, nnf_view, nnfs_view, readings_of}
use Rattle.lq_logic_predicates.specs.Reading.{Reading, Readings, row, Gathers, AllGather, gathers_yes, gathers_no, gathers_row, gathers_flag, gathers_objects, gathers_all, gathers_any, gather_none, gather_more}
use Rattle.lq_logic_predicates.specs.Sum.{Sum}
use Rattle.lq_logic_predicates.specs.declared.nnf.Nnf.{Nnf, the_lemmas}
use Rattle.lq_logic_predicates.specs.declared.nnf.Nnfs.{Nnfs}

-- ---- literals

push_below : (n : ℕ) (fs : List path.Fact) (f : path.Fact) → AllFactsBelow n fs → AllFactsBelow n (f ∷ []) → AllFactsBelow n (fs ++ f ∷ [])
push_below n [] f h k = k
push_below n (row_fact r ∷ fs) f h k = (h.0, push_below n fs f h.1 k)
push_below n (flag_fact x value ∷ fs) f h k = push_below n fs f h k
push_below n (objects_fact a b one ∷ fs) f h k = push_below n fs f h k
push_below n (never ∷ fs) f h k = push_below n fs f h k

-- one literal more
pub added : (n : ℕ) (old new : List Fact) (f : Fact) → new ≡ old ++ f ∷ [] → AllFactsBelow n (map fact_of old) → AllFactsBelow n (fact_of f ∷ []) → AllFactsBelow n (map fact_of new)
added n old new f e h k =
    subst (AllFactsBelow n) (sym (ap (map fact_of) e ∙ map-append fact_of old (f ∷ []))) (push_below n (map fact_of old) (fact_of f) h k)

-- a literal that is a row
pub row_below : (n : ℕ) (reading : Nnf) (r copied : Row) → reading ≡ Nnf.Row r → copied ≡ r → IsRowBelow n (nnf_view reading) → TermsBelow n copied.parts
row_below n reading r copied e c h =
    let seen : nnf_view (Nnf.Row r) ≡ row r = search (rules, the_lemmas) in
    subst (λ x. TermsBelow n x.parts) (sym c) (subst (IsRowBelow n) (ap nnf_view e ∙ seen) h)

-- ---- readings

-- of readings over the terms each is
pub item_below : (n : ℕ) (items : List Nnf) (k : ℕ) (d : Nnf) → k < length items → AreRowsBelow n (readings_of (map nnf_view items)) → IsRowBelow n (nnf_view (get_or items k d))
item_below n [] k d w h = absurd (omega (arith, w))
item_below n (x ∷ items) zero d w h = h.0
item_below n (x ∷ items) (suc k) d w h = item_below n items k d (omega (arith, w)) h.1

pub view_items : (nnfs : Nnfs) → nnfs_view nnfs ≡ readings_of (map nnf_view (nnf_items nnfs))
view_items nnfs = search (rules, the_lemmas)

-- rows of comparisons are over the terms
abbrev pub RowsAreWithin : Type 0
RowsAreWithin = (terms : List Sum) (c : Comparison) (r : Row) → IsRowOf terms c r → All (λ part. part.0 < length terms) r.parts

below : (n : ℕ) (r : Row) → All (λ part. part.0 < n) r.parts → TermsBelow n r.parts
below n r h = by r.parts h
  where
    by : (parts : List (ℕ × ℤ)) → All (λ part. part.0 < n) parts → TermsBelow n parts
    by [] k = tt
    by (part ∷ parts) k = (All-head (λ (x : ℕ × ℤ). x.0 < n) part parts k, by parts (All-tail (λ (x : ℕ × ℤ). x.0 < n) part parts k))

mutual
  pub gathered_below : RowsAreWithin → (terms : List Sum) (c : Reading Comparison) (r : Reading Row) → Gathers terms c r → IsRowBelow (length terms) r
  gathered_below w terms _ _ gathers_yes = tt
  gathered_below w terms _ _ gathers_no = tt
  gathered_below w terms _ _ (gathers_row c r i) = below (length terms) r (w terms c r i)
  gathered_below w terms _ _ (gathers_flag x sign) = tt
  gathered_below w terms _ _ (gathers_objects a b sign) = tt
  gathered_below w terms _ _ (gathers_all cs rs g) = all_gathered_below w terms cs rs g
  gathered_below w terms _ _ (gathers_any cs rs g) = all_gathered_below w terms cs rs g

  all_gathered_below : RowsAreWithin → (terms : List Sum) (cs : Readings Comparison) (rs : Readings Row) → AllGather terms cs rs → AreRowsBelow (length terms) rs
  all_gathered_below w terms _ _ gather_none = tt
  all_gathered_below w terms _ _ (gather_more c cs r rs g gs) = (gathered_below w terms c r g, all_gathered_below w terms cs rs gs)

pub on_ok : {A E P Q : Type 0} (r : Result A E) → (P → Q) → OnOk r P → OnOk r Q
on_ok (Ok x) f h = f h
on_ok (Err e) f h = tt
