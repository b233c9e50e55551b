-- Functions of two numbers: what their arguments say of two applications.
use Rattle.std.proofs.Common.{◌≡◌, ℕ, Bool, true, List, [], ◌∷◌, All, Result, Ok, Err, IfOk, IfErr, refl, sym, ap, subst, ◌∙◌}
use Rattle.std.proofs.lemmas.List.Elements.{All-head, All-tail, Contains-append_left}
use Rattle.lq_base_numbers.specs.Rationals.Rational.{ℚ}
use Rattle.lq_base_numbers.specs.declared.fractions.frac.Frac.{Frac}
use Rattle.lq_base_numbers.specs.declared.fractions.past.NumberPast.{NumberPast}
use Rattle.lq_logic_rows.specs.Steps.{valuation_of}
use Rattle.lq_logic_predicates.specs.declared.symbol.Symbol.{Symbol}
use Rattle.lq_logic_predicates.specs.declared.term.Term.{Term}
use Rattle.lq_logic_predicates.specs.Sum.{Sum, mul, div, rem}
use Rattle.lq_logic_predicates.specs.Table.{index_of}
use Rattle.lq_logic_predicates.specs.Comparison.{Comparison, CanGather}
use Rattle.lq_logic_predicates.specs.Points.{Point}
use Rattle.lq_logic_predicates.specs.ClosedImplication.{Agree, AgreeOrApart}
use Rattle.lq_logic_predicates.specs.Literals.{equal_row, below_row, condition_rows, pair_rows}
use Rattle.lq_logic_points.specs.declared.error.PointError.{PointError}
use Rattle.lq_logic_points.specs.declared.error.PointError.TheVariants.{Past}
use Rattle.lq_logic_points.specs.Evaluation.{IsStepOf}
use Rattle.lq_logic_points.specs.Values.{point_from}
use Rattle.lq_logic_points.proofs.Reading.{widened}

-- a function of two numbers
pub record IsTwo (f : Sum → Sum → Sum) : Type 0 where
  pub agree : (p : Point) (a b c d : Sum) → AgreeOrApart p a b c d (p.number (f a b)) (p.number (f c d)) → Agree p (f a b) (f c d)
  pub apart : (p : Point) (a b c d : Sum) → Agree p (f a b) (f c d) → AgreeOrApart p a b c d (p.number (f a b)) (p.number (f c d))
  pub rows : (a b c d : Sum) → pair_rows (f a b) (f c d) ≡ condition_rows (f a b) a b (f c d) c d

pub product : IsTwo mul
product = record { agree = λ p a b c d h. h; apart = λ p a b c d h. h; rows = λ a b c d. refl }

pub quotient : IsTwo div
quotient = record { agree = λ p a b c d h. h; apart = λ p a b c d h. h; rows = λ a b c d. refl }

pub remainder : IsTwo rem
remainder = record { agree = λ p a b c d h. h; apart = λ p a b c d h. h; rows = λ a b c d. refl }

rows_of : (f : Sum → Sum → Sum) → IsTwo f → (x y a b c d : Sum) → x ≡ f a b → y ≡ f c d → pair_rows x y ≡ condition_rows (f a b) a b (f c d) c d
rows_of f k x y a b c d e h = ap (λ z. pair_rows z y) e ∙ ap (pair_rows (f a b)) h ∙ k.rows a b c d

-- the rows of a condition past the first two
abbrev further : (Sum → Sum → Sum) → Sum → Sum → Sum → Sum → List Comparison
further f a b c d = equal_row (f a b) (f c d) ∷ (below_row a c ∷ (below_row c a ∷ (below_row b d ∷ (below_row d b ∷ []))))

two_fit : (a b : Comparison) (l : List Comparison) → All CanGather (a ∷ (b ∷ l)) → CanGather a × CanGather b
two_fit a b l h = (All-head CanGather a (b ∷ l) h, All-head CanGather b l (All-tail CanGather a (b ∷ l) h))

pub first_fits : (f : Sum → Sum → Sum) → IsTwo f → (x y a b c d : Sum) → x ≡ f a b → y ≡ f c d → All CanGather (pair_rows x y) → CanGather (equal_row a c)
first_fits f k x y a b c d e h fits =
    (two_fit (equal_row a c) (equal_row b d) (further f a b c d) (subst (All CanGather) (rows_of f k x y a b c d e h) fits)).0

pub second_fits : (f : Sum → Sum → Sum) → IsTwo f → (x y a b c d : Sum) → x ≡ f a b → y ≡ f c d → All CanGather (pair_rows x y) → CanGather (equal_row b d)
second_fits f k x y a b c d e h fits =
    (two_fit (equal_row a c) (equal_row b d) (further f a b c d) (subst (All CanGather) (rows_of f k x y a b c d e h) fits)).1

pub two_answer : {E : Type 0} (f : Sum → Sum → Sum) → IsTwo f → (r : Result Bool E) (same : Bool) (terms : List Sum) (numbers : List Frac) (classes : List (Term × ℕ)) (x y a b c d : Sum)
    → x ≡ f a b → y ≡ f c d
    → (same ≡ true → valuation_of numbers (index_of terms x) ≡ valuation_of numbers (index_of terms y)) × (valuation_of numbers (index_of terms x) ≡ valuation_of numbers (index_of terms y) → same ≡ true)
    → IfOk r (λ answer. (flags : List (Symbol × Bool)) (classes : List (Term × ℕ)) (u v : ℚ) → (same ≡ true → u ≡ v) × (u ≡ v → same ≡ true)
    → (answer ≡ true → AgreeOrApart (point_from terms numbers flags classes) a b c d u v) × (AgreeOrApart (point_from terms numbers flags classes) a b c d u v → answer ≡ true))
    → IfOk r (λ answer. (flags : List (Symbol × Bool)) → (answer ≡ true → Agree (point_from terms numbers flags classes) x y) × (Agree (point_from terms numbers flags classes) x y → answer ≡ true))
two_answer f k (Err e) same terms numbers classes x y a b c d l m q h = tt
two_answer f k (Ok answer) same terms numbers classes x y a b c d l m q h = λ flags.
    let p = point_from terms numbers flags classes in
    let one : (same ≡ true → p.number (f a b) ≡ p.number (f c d)) × (p.number (f a b) ≡ p.number (f c d) → same ≡ true) =
    subst (λ z. (same ≡ true → p.number (f a b) ≡ p.number z) × (p.number (f a b) ≡ p.number z → same ≡ true)) m
    (subst (λ z. (same ≡ true → p.number z ≡ p.number y) × (p.number z ≡ p.number y → same ≡ true)) l q) in
    let both = h flags classes (p.number (f a b)) (p.number (f c d)) one in (
      λ t. subst (λ z. Agree p z y) (sym l) (subst (λ z. Agree p (f a b) z) (sym m) (k.agree p a b c d (both.0 t))),
      λ g. both.1 (k.apart p a b c d (subst (λ z. Agree p (f a b) z) m (subst (λ z. Agree p z y) l g))),
    )

pub two_step : {X : Type 0} (f : Sum → Sum → Sum) → IsTwo f → (r : Result X PointError) (terms : List Sum) (numbers : List Frac) (x y a b c d : Sum) → x ≡ f a b → y ≡ f c d
    → IfErr r (λ e. (n : NumberPast) → e ≡ Past n → IsStepOf (equal_row a c ∷ (equal_row b d ∷ [])) terms numbers n)
    → IfErr r (λ e. (n : NumberPast) → e ≡ Past n → IsStepOf (pair_rows x y) terms numbers n)
two_step f k (Ok z) terms numbers x y a b c d l m h = tt
two_step f k (Err e) terms numbers x y a b c d l m h = λ n is.
    subst (λ rows. IsStepOf rows terms numbers n) (sym (rows_of f k x y a b c d l m))
    (widened (equal_row a c ∷ (equal_row b d ∷ [])) (condition_rows (f a b) a b (f c d) c d) terms numbers n
    (λ z w. Contains-append_left (equal_row a c ∷ (equal_row b d ∷ []))
    (further f a b c d) z w) (h n is))
