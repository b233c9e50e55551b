-- At most one line or the texts are due.
use Rattle.std.proofs.Common.{◌≡◌, inl, inr, ℕ, List, [], ◌∷◌, ◌++◌, All, length, Option, Some, None, sym, ap, subst, ◌∙◌, arith}
use Rattle.std.proofs.lemmas.List.Elements.{All-head, All-tail, All-same}
use Rattle.lq_top_words.specs.Inputs.Visits.{Visit, IsFileFault, IsHanded}
use Rattle.lq_top_words.specs.Inputs.Wanted.{names_in, Came, IsHandedIfNamed}
use Rattle.lq_top_words.specs.Inputs.Once.{Tells, FaultsAreOne, IsFaultOrHanded, HandedAreOne}
use Rattle.lq_top_words.proofs.InputsLemmas.Within.{all_came}

-- a file that came is at fault by no line
not_came : (v : Visit) (name line : List ℕ) → Tells v → IsFileFault v name line → Came v name → ⊥
not_came v name line t (inl a) c = let none = a.0.lacks t.held t.told in let some = (c t.held t.told).1 in cc
not_came v name line t (inr (inl a)) c = omega (arith, t.calm, t.low, a.0)
not_came v name line t (inr (inr a)) c =
    let long = a.0.longer t.held t.told in
    let some = c t.held t.told in
    let same : long.0 ≡ some.0 = (let e = long.1 in let f = some.1 in cc) in
    omega (arith, ap length same, long.2, some.2)

-- one file is at fault by one line
one_line : (v : Visit) (name line other : List ℕ) → Tells v → IsFileFault v name line → IsFileFault v name other → line ≡ other
one_line v name line other t (inl a) (inl b) = a.1 ∙ sym b.1
one_line v name line other t (inl a) (inr (inl b)) = absurd (omega (arith, t.calm, t.low, b.0))
one_line v name line other t (inl a) (inr (inr b)) = absurd (let none = a.0.lacks t.held t.told in let some = (b.0.longer t.held t.told).1 in cc)
one_line v name line other t (inr (inl a)) (inl b) = absurd (omega (arith, t.calm, t.low, a.0))
one_line v name line other t (inr (inl a)) (inr (inl b)) = a.1 ∙ sym b.1
one_line v name line other t (inr (inl a)) (inr (inr b)) = absurd (omega (arith, t.calm, t.low, a.0))
one_line v name line other t (inr (inr a)) (inl b) = absurd (let none = b.0.lacks t.held t.told in let some = (a.0.longer t.held t.told).1 in cc)
one_line v name line other t (inr (inr a)) (inr (inl b)) = absurd (omega (arith, t.calm, t.low, b.0))
one_line v name line other t (inr (inr a)) (inr (inr b)) = a.1 ∙ sym b.1

-- what stands in a list is of what all its items are
among : {X : Type 0} (P : X → Type 0) (front : List X) (x : X) (back : List X) → All P (front ++ x ∷ back) → P x
among P [] x back all = All-head P x back all
among P (y ∷ front) x back all = among P front x back (All-tail P y (front ++ x ∷ back) all)

module _ {X : Type 0} (P : X → Type 0) (x y : X) (not_x : P x → ⊥) (not_y : P y → ⊥) (back rest : List X) where
  -- the first of a list that isn't so is one
  first_is_one : (front other : List X) → front ++ x ∷ back ≡ other ++ y ∷ rest → All P front → All P other → x ≡ y
  first_is_one [] [] e p q = cc
  first_is_one [] (b ∷ bs) e p q =
      let is : b ≡ x = cc in
      absurd (not_x (subst P is (All-head P b bs q)))
  first_is_one (a ∷ fs) [] e p q =
      let is : a ≡ y = cc in
      absurd (not_y (subst P is (All-head P a fs p)))
  first_is_one (a ∷ fs) (b ∷ bs) e p q =
      let tails : fs ++ x ∷ back ≡ bs ++ y ∷ rest = cc in
      first_is_one fs bs tails (All-tail P a fs p) (All-tail P b bs q)

pub faults : FaultsAreOne
faults v names line other t a b =
    let same : a.name ≡ b.name =
    first_is_one (Came v) a.name b.name (not_came v a.name line t a.fault) (not_came v b.name other t b.fault) a.back b.back a.front b.front
    (sym a.order ∙ b.order) a.came b.came in
    one_line v b.name line other t (subst (λ (n : List ℕ). IsFileFault v n line) same a.fault) b.fault

pub fault_or_handed : IsFaultOrHanded
fault_or_handed v w line p m q t f h =
    not_came v f.name line t f.fault
    (among (Came v) f.front f.name f.back (All-same (Came v) (f.front ++ f.name ∷ f.back) (names_in w) (sym f.order) (all_came v w p m q h)))

one_text : (v : Visit) (name text other : List ℕ) → Tells v → IsHanded v name text → IsHanded v name other → text ≡ other
one_text v name text other t a b = let some = a.holds t.held t.told in let also = b.holds t.held t.told in cc

one_text_if : (v : Visit) (named : Option (List ℕ)) (text other : List ℕ) → Tells v → IsHandedIfNamed v named text → IsHandedIfNamed v named other → text ≡ other
one_text_if v None text other t a b = a ∙ sym b
one_text_if v (Some name) text other t a b = one_text v name text other t a b

pub handed : HandedAreOne
handed v w p m q r n s t a b = (
  one_text v w.program p r t a.program_is b.program_is,
  one_text_if v w.measures m n t a.measures_are b.measures_are,
  one_text_if v w.quals q s t a.quals_are b.quals_are,
)
