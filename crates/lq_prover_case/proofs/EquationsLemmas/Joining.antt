-- Two applications of one function of one object make a node.
use Rattle.std.proofs.Common.{◌≡◌, ℕ, suc, ◌+◌, ◌<◌, List, true, Option, Some, None, length, refl, sym, ap, subst, ◌∙◌, arith, slice_get}
use Rattle.std.specs.List.{filter}
use Rattle.std.proofs.lemmas.Option.{slice_get_within}
use Rattle.lq_prover_proof_tree.specs.Trees.Path.{Fact, numbered_at}
use Rattle.lq_prover_proof_tree.specs.Trees.Proves.{AreJoined, ApplyOne, lengths, measures}
use Rattle.lq_prover_proof_tree.specs.Trees.TreeView.{tag_items}
use Rattle.lq_logic_rows.specs.Difference.{TermsBelow}
use Rattle.lq_logic_rows.specs.Row.{Row}
use Rattle.lq_prover_proof_tree.specs.Literals.Parts.{is_application, places_from}
use Rattle.lq_base_names.specs.declared.name.Name.{Name}
use Rattle.lq_logic_predicates.specs.Comparison.{IsRowOf}
use Rattle.lq_logic_predicates.specs.Literals.{equal_row}
use Rattle.lq_logic_predicates.specs.Sum.{Sum}
use Rattle.lq_logic_predicates.specs.Table.{all_differ}
use Rattle.lq_prover_case.specs.Equations.Equating.{AreOneFunction, IsApplication, applied, equation, numbering_by}
use Rattle.lq_prover_case.specs.Equations.Naming.{name_in, term_or}
use Rattle.lq_prover_case.specs.declared.equations.application.Application.{Application}
use Rattle.lq_prover_case.specs.declared.equations.chain.Joint.{Joint}
use Rattle.lq_prover_case.proofs.EquationsLemmas.Chains.{IsJoint}
use Rattle.lq_prover_case.proofs.EquationsLemmas.Places.{place_at, place_rises}
use Rattle.lq_prover_case.proofs.EquationsLemmas.Rows.{is_row_of}

-- an application is there under its number
numbered_place : (terms : List Sum) (i p n : ℕ) (s : Sum) → slice_get (places_from 0 terms) i ≡ Some p → slice_get terms p ≡ Some s → n ≡ i + 1
    → numbered_at (filter is_application terms) n ≡ Some s
numbered_place terms i p n s h g e =
    let r = place_at 0 terms i p h in
    let q : p ≡ r.at = (let x = r.place in omega arith) in
    let w : Some r.term ≡ Some s = sym r.here ∙ ap (slice_get terms) (sym q) ∙ g in
    let m : suc i ≡ n = omega arith in
    subst (λ k. numbered_at (filter is_application terms) k ≡ Some s) m (r.among ∙ w)

apply_one : (m : Option Name) (a b : Sum) → ApplyOne (applied m a) a (applied m b) b
apply_one None a b = lengths a b
apply_one (Some f) a b = measures f a b

-- an earlier application has an earlier term
pub rises : (objects terms : List Sum) (first later : Application) → IsApplication objects terms first → IsApplication objects terms later → first.index < later.index → first.term < later.term
rises objects terms first later f l b = place_rises 0 terms first.index later.index first.term later.term b f.place l.place

pub object_within : (objects terms : List Sum) (x : Application) (n : ℕ) → n ≡ length objects → IsApplication objects terms x → x.object < n
object_within objects terms x n e i = subst (λ k. x.object < k) (sym e) (slice_get_within objects x.object i.argument i.object)

pub parts_below : (objects terms : List Sum) (first later : Application) (n : ℕ) (r : Row) → n ≡ length terms → IsApplication objects terms first → IsApplication objects terms later
    → r ≡ equation (first.term, later.term) → TermsBelow n r.parts
parts_below objects terms first later n r e f l is =
    subst (λ (x : Row). TermsBelow n x.parts) (sym is) (
      subst (λ k. first.term < k) (sym e) (slice_get_within terms first.term (applied first.measure f.argument) f.term),
      (subst (λ k. later.term < k) (sym e) (slice_get_within terms later.term (applied later.measure l.argument) l.term), tt),
    )

pub joint_of : (objects terms : List Sum) (facts : List Fact) (first later : Application) (j : Joint) (r : Row) → all_differ terms ≡ true → IsApplication objects terms first
    → IsApplication objects terms later → first.measure ≡ later.measure → first.index < later.index → j.left ≡ first.index + 1 → j.right ≡ later.index + 1
    → AreJoined facts (tag_items j.tags) (name_in objects first.object) (name_in objects later.object)
    → r ≡ equation (first.term, later.term) → IsJoint (numbering_by terms) facts j r
joint_of objects terms facts first later j r d f l m b left right joined is = record {
  s = applied first.measure f.argument;
  a = f.argument;
  t = applied first.measure l.argument;
  b = l.argument;
  left = numbered_place terms first.index first.term j.left (applied first.measure f.argument) f.place f.term left;
  right = numbered_place terms later.index later.term j.right (applied first.measure l.argument) l.place later_is right;
  one = apply_one first.measure f.argument l.argument;
  joined = subst (λ x. AreJoined facts (tag_items j.tags) x l.argument) (ap term_or f.object)
      (subst (λ x. AreJoined facts (tag_items j.tags) (name_in objects first.object) x) (ap term_or l.object) joined);
  row = subst (IsRowOf terms (equal_row (applied first.measure f.argument) (applied first.measure l.argument))) (sym is)
      (is_row_of terms first.term later.term (applied first.measure f.argument) (applied first.measure l.argument) first.measure f.argument l.argument d f.term later_is
      (rises objects terms first later f l b) refl refl);
}
  where
    later_is : slice_get terms later.term ≡ Some (applied first.measure l.argument)
    later_is = subst (λ k. slice_get terms later.term ≡ Some (applied k l.argument)) (sym m) l.term

pub one_function : (objects terms : List Sum) (first later : Application) → all_differ terms ≡ true → IsApplication objects terms first → IsApplication objects terms later
    → first.measure ≡ later.measure → first.index < later.index → AreOneFunction terms (first.term, later.term)
one_function objects terms first later d f l m b =
    let later_is = subst (λ k. slice_get terms later.term ≡ Some (applied k l.argument)) (sym m) l.term in
    let before = rises objects terms first later f l b in record {
      function = first.measure;
      left = f.argument;
      right = l.argument;
      before = before;
      is_left = f.term;
      is_right = later_is;
      row = is_row_of terms first.term later.term (applied first.measure f.argument) (applied first.measure l.argument) first.measure f.argument l.argument d f.term later_is before refl refl;
    }

-- ---- parts of what is known
pub second : {A B C : Type 0} → A × B × C → B
second {A} {B} {C} (a, b, c) = b

pub place_within : (terms : List Sum) (i p : ℕ) → slice_get (places_from 0 terms) i ≡ Some p → p < length terms
place_within terms i p h = let r = place_at 0 terms i p h in let q = r.place in let w = slice_get_within terms r.at r.term r.here in omega (arith, q, w)

pub third : {A B C : Type 0} → A × B × C → C
third {A} {B} {C} (a, b, c) = c

pub second_of_four : {A B C D : Type 0} → A × B × C × D → B
second_of_four {A} {B} {C} {D} (a, b, c, d) = b

pub third_of_four : {A B C D : Type 0} → A × B × C × D → C
third_of_four {A} {B} {C} {D} (a, b, c, d) = c

pub fourth : {A B C D : Type 0} → A × B × C × D → D
fourth {A} {B} {C} {D} (a, b, c, d) = d
