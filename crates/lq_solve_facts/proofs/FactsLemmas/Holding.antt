-- Facts that hold, more facts behind them, and facts that clash.
use Rattle.std.proofs.Common.{◌≡◌, ◌∙◌, ◌≤◌, ℕ, zero, suc, arith, length, length-append, take, List, [], ◌∷◌, ◌++◌, Bool, true, false, Option, Some, None, IfSome, slice_get, IsTrue, refl, sym, ap, subst, append_assoc}
use Rattle.std.proofs.lemmas.List.{append-nil, take-append-le, take-take}
use Rattle.lq_prover_proof_tree.specs.Trees.Met.{AllHold, EachAgree, FactHolds, MeetsPath}
use Rattle.lq_prover_proof_tree.specs.Trees.Path.{Fact, Path}
use Rattle.lq_prover_proof_tree.specs.Trees.Proves.{Clashes, Numbering, Proves, by_clash}
use Rattle.lq_prover_proof_tree.specs.Trees.Tree.{Clash, Tree, leaf}
use Rattle.lq_logic_rows.specs.Row.{Row, Valuation}
use Rattle.lq_logic_predicates.specs.Points.{Point}
use Rattle.lq_logic_predicates.specs.Reading.{Reading}
use Rattle.lq_logic_predicates.specs.RowMeaning.{AgreesOn}
use Rattle.lq_logic_predicates.specs.Sum.{Sum}
use Rattle.lq_logic_predicates.specs.Table.{Extends, all_differ}
use Rattle.lq_logic_predicates.specs.TableView.{terms_of}
use Rattle.lq_logic_predicates.specs.Formula.{Formula}
use Rattle.lq_logic_predicates.specs.declared.nnf.Nnf.{Nnf}
use Rattle.lq_solve_facts.specs.Facts.Facts.{Grows, facts_of}
use Rattle.lq_solve_facts.specs.Facts.Known.{IsReadOf, Keeps, readings_of}
use Rattle.lq_solve_facts.specs.Facts.Read.{IsReadOver, IsReading}
use Rattle.lq_solve_facts.specs.declared.facts.known.Known.{Known}
use Rattle.lq_solve_facts.specs.declared.facts.read.ReadPred.{ReadPred}

pub hold_more : (v : Valuation) (p : Point) (old new : List Fact) (f : Fact) → new ≡ old ++ f ∷ [] → AllHold v p old → FactHolds v p f → AllHold v p new
hold_more v p old new f e h k = subst (AllHold v p) (sym e) (along old h)
  where
    along : (fs : List Fact) → AllHold v p fs → AllHold v p (fs ++ f ∷ [])
    along [] g = (k, tt)
    along (x ∷ fs) g = (g.0, along fs g.1)

pub hold_same : (v : Valuation) (p : Point) (old new : List Fact) → new ≡ old → AllHold v p old → AllHold v p new
hold_same v p old new e h = subst (AllHold v p) (sym e) h

-- no point meets a path that a tree proves
abbrev pub NoPoint : Type 0
NoPoint =
    (n : Numbering) (v : Valuation) (p : Point) (path : Path) (tree : Tree) → IsTrue (all_differ n.terms) → AgreesOn n.terms v p → EachAgree p n.applications → MeetsPath v p path → Proves n path tree → ⊥

pub clash_none : NoPoint → (v : Valuation) (p : Point) (facts : List Fact) (k : Clash) → Clashes facts k → AllHold v p facts → ⊥
clash_none law v p facts k c h =
    let path : Path = record { facts = facts; choices = [] } in
    let n : Numbering = record { terms = []; applications = [] } in
    law n v p path (leaf k) refl (λ i t e. cc) (λ s t e. cc) (record { facts = h; choices = tt }) (by_clash path k c)

pub grows_same : (old new : List Fact) → new ≡ old → Grows old new
grows_same old new e = record { more = []; is = e ∙ sym (append-nil old) }

pub grows_then : (a b c : List Fact) → Grows a b → Grows b c → Grows a c
grows_then a b c g h = record { more = g.more ++ h.more; is = h.is ∙ ap (λ l. l ++ h.more) g.is ∙ append_assoc a g.more h.more }

get_append : (ts us : List Sum) (k : ℕ) (t : Sum) → slice_get ts k ≡ Some t → slice_get (ts ++ us) k ≡ Some t
get_append [] us k t e = absurd (cc)
get_append (x ∷ ts) us zero t e = e
get_append (x ∷ ts) us (suc k) t e = get_append ts us k t e

pub agrees_before : (old new : List Sum) (v : Valuation) (p : Point) → Extends old new → AgreesOn new v p → AgreesOn old v p
agrees_before old new v p x a k t e = a k t (subst (λ l. slice_get l k ≡ Some t) (sym x.is) (get_append old x.more k t e))

pub grows_length : (a b : List Fact) → Grows a b → length a ≤ length b
grows_length a b g = let e = ap length g.is in let f = length-append a g.more in omega (arith, e, f)

pub grows_take : (a b : List Fact) (n : ℕ) → Grows a b → n ≡ length a → take n b ≡ a
grows_take a b n g e = ap (λ m. take m b) e ∙ ap (take (length a)) g.is ∙ front a g.more
  where
    front : (xs ys : List Fact) → take (length xs) (xs ++ ys) ≡ xs
    front [] ys = refl
    front (x ∷ xs) ys = ap (λ l. x ∷ l) (front xs ys)

-- ---- the first ones of facts

pub first_more : (v : Valuation) (p : Point) (old new : List Fact) (n : ℕ) → Grows old new → n ≤ length old → AllHold v p (take n old) → AllHold v p (take n new)
first_more v p old new n g w h = subst (AllHold v p) (sym (ap (take n) g.is ∙ take-append-le n old g.more w)) h

pub first_same : (v : Valuation) (p : Point) (old new : List Fact) (n : ℕ) → new ≡ old → AllHold v p (take n old) → AllHold v p (take n new)
first_same v p old new n e h = subst (λ l. AllHold v p (take n l)) (sym e) h

pub first_fewer : (v : Valuation) (p : Point) (old new : List Fact) (n m : ℕ) → new ≡ take m old → n ≤ m → AllHold v p (take n old) → AllHold v p (take n new)
first_fewer v p old new n m e w h = subst (AllHold v p) (sym (ap (take n) e ∙ take-take n m old w)) h

pub count_same : (old new : List Fact) → new ≡ old → length old ≤ length new
count_same old new e = let f = ap length e in omega (arith, f)

-- ---- the first ones of readings and terms

pub first_readings : (old new : List (Reading Row)) (r : Reading Row) (n : ℕ) → new ≡ old ++ r ∷ [] → n ≤ length old → take n new ≡ take n old
first_readings old new r n e w = ap (take n) e ∙ take-append-le n old (r ∷ []) w

pub more_readings : (old new : List (Reading Row)) (r : Reading Row) → new ≡ old ++ r ∷ [] → length old ≤ length new
more_readings old new r e = let l = ap length e in let s = length-append old (r ∷ []) in omega (arith, l, s)

pub as_many : (old new : List (Reading Row)) → new ≡ old → length old ≤ length new
as_many old new e = let l = ap length e in omega (arith, l)

pub extends_self : (a : List Sum) → Extends a a
extends_self a = record { more = []; is = sym (append-nil a) }

pub extends_then : (a b c : List Sum) → Extends a b → Extends b c → Extends a c
extends_then a b c g h = record { more = g.more ++ h.more; is = h.is ∙ ap (λ l. l ++ h.more) g.is ∙ append_assoc a g.more h.more }

pub keeps_self : (k : Known) → Keeps k k
keeps_self k = record { count = omega arith; first = λ n p w h. h; reading_count = omega arith; readings = λ n w. refl; terms = extends_self (terms_of k.table) }

pub keeps_then : (a b c : Known) → Keeps a b → Keeps b c → Keeps a c
keeps_then a b c g h = record {
  count = let m = g.count in let n = h.count in omega (arith, m, n);
  first = λ n p w k. h.first n p (let m = g.count in omega (arith, w, m)) (g.first n p w k);
  reading_count = let m = g.reading_count in let n = h.reading_count in omega (arith, m, n);
  readings = λ n w. h.readings n (let m = g.reading_count in omega (arith, w, m)) ∙ g.readings n w;
  terms = extends_then (terms_of a.table) (terms_of b.table) (terms_of c.table) g.terms h.terms;
}

-- where terms alone come, all that is known stays
pub keeps_table : (old new : Known) → facts_of new.state ≡ facts_of old.state → readings_of new ≡ readings_of old → Extends (terms_of old.table) (terms_of new.table) → Keeps old new
keeps_table old new e r x = record {
  count = count_same (facts_of old.state) (facts_of new.state) e;
  first = λ n p w h v a. first_same v p (facts_of old.state) (facts_of new.state) n e (h v (agrees_before (terms_of old.table) (terms_of new.table) v p x a));
  reading_count = as_many (readings_of old) (readings_of new) r;
  readings = λ n w. ap (take n) r;
  terms = x;
}

-- ---- what was read stays so as terms come

pub reading_grows : (old new : List Sum) (o : Option Nnf) (sign : Bool) (h : Formula) → Extends old new → IsReading old o sign h → IsReading new o sign h
reading_grows old new None sign h x r = tt
reading_grows old new (Some n) sign h x r = λ v p a. r v p (agrees_before old new v p x a)

pub read_over : (old new : List Sum) (r : ReadPred) (h : Formula) → Extends old new → IsReadOver old r h → IsReadOver new r h
read_over old new r h x i = record { met = reading_grows old new r.met true h x i.met; against = reading_grows old new r.against false h x i.against; plain = i.plain }

pub read_kept : (old new : Known) (r : ReadPred) (h : Formula) → Keeps old new → IsReadOf old r h → IsReadOf new r h
read_kept old new r h k i = read_over (terms_of old.table) (terms_of new.table) r h k.terms i

-- ---- what is said of an answer

pub if_some_map : (o : Option Bool) (A B : Bool → Type 0) → ((b : Bool) → A b → B b) → IfSome o A → IfSome o B
if_some_map None A B f h = tt
if_some_map (Some b) A B f h = f b h
