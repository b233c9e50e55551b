-- The applications of an implication are terms of it.
use Rattle.std.proofs.Common.{◌≡◌, Bool, true, false, List, [], ◌∷◌, cond, ◌||◌, refl}
use Rattle.std.specs.List.{filter}
use Rattle.lq_prover_proof_tree.specs.Trees.Met.{EachAgree}
use Rattle.lq_prover_proof_tree.specs.Literals.Parts.{applications_in, is_application}
use Rattle.lq_logic_predicates.specs.ClosedImplication.{ClosedImplication, IsPoint, terms_in}
use Rattle.lq_logic_predicates.specs.Points.{Point}
use Rattle.lq_logic_predicates.specs.Sum.{Sum, same}
use Rattle.lq_logic_predicates.specs.Table.{has_term}

either : (a b : Bool) (P : Type 0) → (a || b) ≡ true → (a ≡ true → P) → (b ≡ true → P) → P
either true b P h f g = f refl
either false b P h f g = g h

or_right : (a b : Bool) → b ≡ true → (a || b) ≡ true
or_right true b h = refl
or_right false b h = h

or_left : (a b : Bool) → a ≡ true → (a || b) ≡ true
or_left true b h = refl
or_left false b h = cc

pub has_filtered : (ts : List Sum) (s : Sum) → has_term (filter is_application ts) s ≡ true → has_term ts s ≡ true
has_filtered [] s h = h
has_filtered (t ∷ ts) s h = by (is_application t) (has_filtered ts s) h
  where
    by : (b : Bool) → (has_term (filter is_application ts) s ≡ true → has_term ts s ≡ true)
        → has_term (cond b (t ∷ filter is_application ts) (filter is_application ts)) s ≡ true → has_term (t ∷ ts) s ≡ true
    by true f h =
        either (same s t) (has_term (filter is_application ts) s) (has_term (t ∷ ts) s ≡ true) h (or_left (same s t) (has_term ts s))
        (λ k. or_right (same s t) (has_term ts s) (f k))
    by false f h = or_right (same s t) (has_term ts s) (f h)

pub each_agree : (i : ClosedImplication) (p : Point) → IsPoint i p → EachAgree p (applications_in i)
each_agree i p h = λ s t a b. h s t (has_filtered (terms_in i) s a) (has_filtered (terms_in i) t b)
