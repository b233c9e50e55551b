-- Readings, from those of their parts.
use Rattle.std.proofs.Common.{◌≡◌, ℕ, ◌≤◌, length, length-append, List, ◌++◌, Bool, true, false, not, refl, sym, ap, subst, ◌∙◌, arith}
use Rattle.lq_logic_rows.specs.Row.{Row}
use Rattle.lq_logic_predicates.specs.Sum.{Sum}
use Rattle.lq_logic_predicates.specs.Table.{has_term, index_of, Extends}
use Rattle.lq_logic_predicates.specs.Comparison.{Comparison, entry, row_coefficient, IsRowOf}
use Rattle.lq_logic_predicates.specs.Formula.{Formula, truth, falsity, flag, objects, equivalence}
use Rattle.lq_logic_predicates.specs.declared.symbol.Symbol.{Symbol}
use Rattle.lq_logic_predicates.specs.Reading.{Reading, Readings, flag_is, objects_are, all_of, any_of, none, more, pair_of, reading_of, Gathers, AllGather, gathers_yes, gathers_no, gathers_row, gathers_flag, gathers_objects, gathers_all, gathers_any, gather_none, gather_more}
use Rattle.lq_logic_predicates.specs.NnfView.{joined_reading, constant_reading}
use Rattle.lq_logic_predicates.specs.Numbering.{index_of-append_present, index_of-append_absent, index_of-absent}

pub row_grown : (old new : List Sum) (c : Comparison) (r : Row) → IsRowOf old c r → Extends old new → IsRowOf new c r
row_grown old new c r h x = record {
  formed = h.formed;
  constant = h.constant;
  equal = h.equal;
  coefficients = λ t. subst (λ l. entry r.parts (index_of l t) ≡ row_coefficient c t) (sym x.is) (by t (has_term old t) refl);
  within = λ q p. h.within q (subst (λ l. length l ≤ q → length old ≤ q) (sym x.is) (λ w. shorter w) p);
}
  where
    shorter : {q : ℕ} → length (old ++ x.more) ≤ q → length old ≤ q
    shorter w = omega (arith, w, length-append old x.more)

    by : (t : Sum) (b : Bool) → has_term old t ≡ b → entry r.parts (index_of (old ++ x.more) t) ≡ row_coefficient c t
    by t true e = ap (entry r.parts) (index_of-append_present old x.more t e) ∙ h.coefficients t
    by t false e =
        h.within (index_of (old ++ x.more) t) (index_of-append_absent old x.more t e)
        ∙ sym (h.within (index_of old t) (let i = index_of-absent old t e in omega (arith, i)))
        ∙ h.coefficients t

mutual
  pub gathers_grown : (old new : List Sum) → Extends old new → (c : Reading Comparison) (r : Reading Row) → Gathers old c r → Gathers new c r
  gathers_grown old new x _ _ gathers_yes = gathers_yes
  gathers_grown old new x _ _ gathers_no = gathers_no
  gathers_grown old new x _ _ (gathers_row c r h) = gathers_row c r (row_grown old new c r h x)
  gathers_grown old new x _ _ (gathers_flag y sign) = gathers_flag y sign
  gathers_grown old new x _ _ (gathers_objects a b sign) = gathers_objects a b sign
  gathers_grown old new x _ _ (gathers_all cs rs h) = gathers_all cs rs (all_grown old new x cs rs h)
  gathers_grown old new x _ _ (gathers_any cs rs h) = gathers_any cs rs (all_grown old new x cs rs h)

  pub all_grown : (old new : List Sum) → Extends old new → (cs : Readings Comparison) (rs : Readings Row) → AllGather old cs rs → AllGather new cs rs
  all_grown old new x _ _ gather_none = gather_none
  all_grown old new x _ _ (gather_more c cs r rs h hs) = gather_more c cs r rs (gathers_grown old new x c r h) (all_grown old new x cs rs hs)

gathers_pair : (terms : List Sum) (a b : Reading Comparison) (v w : Reading Row) → Gathers terms a v → Gathers terms b w → AllGather terms (pair_of a b) (pair_of v w)
gathers_pair terms a b v w p q = gather_more a (more b none) v (more w none) p (gather_more b none w none q gather_none)

pub gathers_both : (terms : List Sum) (a b : Reading Comparison) (v w : Reading Row) → Gathers terms a v → Gathers terms b w
    → Gathers terms (all_of (pair_of a b)) (joined_reading true v w)
gathers_both terms a b v w p q = gathers_all (pair_of a b) (pair_of v w) (gathers_pair terms a b v w p q)

pub gathers_either : (terms : List Sum) (a b : Reading Comparison) (v w : Reading Row) → Gathers terms a v → Gathers terms b w
    → Gathers terms (any_of (pair_of a b)) (joined_reading false v w)
gathers_either terms a b v w p q = gathers_any (pair_of a b) (pair_of v w) (gathers_pair terms a b v w p q)

pub joined_gathers : (all : Bool) (terms : List Sum) (a b : Reading Comparison) (v w : Reading Row) → Gathers terms a v → Gathers terms b w
    → Gathers terms (joined_reading all a b) (joined_reading all v w)
joined_gathers true terms a b v w p q = gathers_both terms a b v w p q
joined_gathers false terms a b v w p q = gathers_either terms a b v w p q

pub equivalence_gathers : (sign : Bool) (terms : List Sum) (p q : Formula) (v w : Reading Row)
    → Gathers terms (joined_reading true (reading_of true p) (reading_of sign q)) v → Gathers terms (joined_reading true (reading_of false p) (reading_of (not sign) q)) w
    → Gathers terms (reading_of sign (equivalence p q)) (joined_reading false v w)
equivalence_gathers true terms p q v w h k = gathers_either terms _ _ v w h k
equivalence_gathers false terms p q v w h k = gathers_either terms _ _ v w h k

pub truth_gathers : (sign : Bool) (terms : List Sum) → Gathers terms (reading_of sign truth) (constant_reading sign)
truth_gathers true terms = gathers_yes
truth_gathers false terms = gathers_no

pub falsity_gathers : (sign : Bool) (terms : List Sum) → Gathers terms (reading_of sign falsity) (constant_reading (not sign))
falsity_gathers true terms = gathers_no
falsity_gathers false terms = gathers_yes

pub flag_gathers : (sign : Bool) (terms : List Sum) (x : Symbol) → Gathers terms (reading_of sign (flag x)) (flag_is x sign)
flag_gathers true terms x = gathers_flag x true
flag_gathers false terms x = gathers_flag x false

pub objects_gathers : (sign : Bool) (terms : List Sum) (a b : Sum) → Gathers terms (reading_of sign (objects a b)) (objects_are a b sign)
objects_gathers true terms a b = gathers_objects a b true
objects_gathers false terms a b = gathers_objects a b false
