-- The points of a part have their types at their numbers among all points.
use Rattle.std.proofs.Common.{◌≡◌, ℕ, suc, ◌+◌, arith, Bool, true, false, cond, List, [], ◌∷◌, ◌++◌, length, refl, ap, subst}
use Rattle.lq_refined_templates.specs.Points.Point.{Point, simple_types}
use Rattle.lq_refined_templates.specs.Points.Reading.{all_idled}
use Rattle.lq_refined_templates.specs.Points.Templates.{types_at}

-- from the number k on
abbrev pub HasAt : List Point → ℕ → List Point → Type 0
HasAt all k [] = Unit {0}
HasAt all k (p ∷ ps) = (types_at all k ≡ simple_types p) × HasAt all (suc k) ps

pub at_first : (all : List Point) (k : ℕ) (ps qs : List Point) → HasAt all k (ps ++ qs) → HasAt all k ps
at_first all k [] qs h = tt
at_first all k (p ∷ ps) qs h = (h.0, at_first all (suc k) ps qs h.1)

pub at_second : (all : List Point) (k : ℕ) (ps qs : List Point) → HasAt all k (ps ++ qs) → HasAt all (k + length ps) qs
at_second all k [] qs h = let e : k ≡ k + 0 = omega arith in subst (λ (m : ℕ). HasAt all m qs) e h
at_second all k (p ∷ ps) qs h =
    let e : suc k + length ps ≡ k + suc (length ps) = omega arith in subst (λ (m : ℕ). HasAt all m qs) e (at_second all (suc k) ps qs h.1)

at_idled : (all : List Point) (k : ℕ) (ps : List Point) → HasAt all k (all_idled ps) → HasAt all k ps
at_idled all k [] h = tt
at_idled all k (p ∷ ps) h = (h.0, at_idled all (suc k) ps h.1)

idled_many : (ps : List Point) → length (all_idled ps) ≡ length ps
idled_many [] = refl
idled_many (p ∷ ps) = ap suc (idled_many ps)

-- of an arm, whether a rule checks it or not
pub arm_first : (all : List Point) (k : ℕ) (b : Bool) (ps qs : List Point) → HasAt all k (cond b ps (all_idled ps) ++ qs) → HasAt all k ps
arm_first all k true ps qs h = at_first all k ps qs h
arm_first all k false ps qs h = at_idled all k ps (at_first all k (all_idled ps) qs h)

pub arm_second : (all : List Point) (k : ℕ) (b : Bool) (ps qs : List Point) → HasAt all k (cond b ps (all_idled ps) ++ qs) → HasAt all (k + length ps) qs
arm_second all k true ps qs h = at_second all k ps qs h
arm_second all k false ps qs h = subst (λ (m : ℕ). HasAt all (k + m) qs) (idled_many ps) (at_second all k (all_idled ps) qs h)

-- all have their own
pub all_at : (ps : List Point) → HasAt ps 0 ps
all_at ps = behind [] ps
  where
    here : (qs : List Point) (p : Point) (rest : List Point) → types_at (qs ++ p ∷ rest) (length qs) ≡ simple_types p
    here [] p rest = refl
    here (q ∷ qs) p rest = here qs p rest

    moved : (qs : List Point) (p : Point) (rest : List Point) → (qs ++ p ∷ []) ++ rest ≡ qs ++ p ∷ rest
    moved [] p rest = refl
    moved (q ∷ qs) p rest = ap (λ (l : List Point). q ∷ l) (moved qs p rest)

    longer : (qs : List Point) (p : Point) → length (qs ++ p ∷ []) ≡ suc (length qs)
    longer [] p = refl
    longer (q ∷ qs) p = ap suc (longer qs p)

    behind : (qs rest : List Point) → HasAt (qs ++ rest) (length qs) rest
    behind qs [] = tt
    behind qs (p ∷ rest) = (
      here qs p rest,
      subst (λ (l : List Point). HasAt l (suc (length qs)) rest) (moved qs p rest)
          (subst (λ (m : ℕ). HasAt ((qs ++ p ∷ []) ++ rest) m rest) (longer qs p) (behind (qs ++ p ∷ []) rest)),
    )
