-- What is stated of an obligation gives its implications.
use Rattle.std.proofs.Common.{Result, Ok, Err, OnOk, ◌≡◌, ℕ, ◌+◌, ◌<◌, List, [], ◌∷◌, ◌++◌, get_or, length, map, min, take, refl, sym, ap, ap₂, ◌∙◌, append_assoc, arith}
use Rattle.std.proofs.lemmas.List.{append-nil, length-append, length-map, get_or-map, take_more}
use Rattle.lq_refined_rules.specs.Checks.Basis.{Basis}
use Rattle.lq_refined_rules.specs.Obligations.Obligation.{holds, fits, Obligation, implications_by, implications_in, all_implications}
use Rattle.lq_refined_types.specs.Parts.Part.{Parts}
use Rattle.lq_logic_predicates.specs.Formula.{Formula, truth}
use Rattle.lq_refined_types.specs.Types.Refined.{Refined}
use Rattle.lq_refined_types.specs.Subtyping.Implication.{Origin, Implication}
use Rattle.lq_refined_types.specs.Subtyping.Splitting.{split}
use Rattle.lq_refined_types.specs.Subtyping.Subtype.{Setting}
use Rattle.lq_generate_implications.specs.Obligations.Views.{Stated, stated}

-- of two types, in a setting that is the basis's
pub of-fits : (P : Basis) (S : Setting) (x : Obligation) (hs : Parts) (l r : Refined) (o : Origin) → P.setting ≡ S
    → stated P x ≡ record { facts = hs; asked = fits l r; origin = o } → implications_in P x ≡ split S o x.context l r
of-fits P S x hs l r o h e =
    ap (implications_by P x.context x.origin) (ap (λ s. s.asked) e) ∙ ap (λ q. split P.setting q x.context l r) (ap (λ s. s.origin) e)
    ∙ ap (λ s. split s o x.context l r) h

-- a setting by its parts
pub setting-is : (P : Basis) (S : Setting) → P.setting.scopes ≡ S.scopes → P.setting.constructors ≡ S.constructors → P.setting ≡ S
setting-is P S e h = ap₂ (λ s c. record { scopes = s; constructors = c }) e h

-- ---- rows of them

module _ (P : Basis) where
  pub all-append : (xs ys : List Obligation) → all_implications P (xs ++ ys) ≡ all_implications P xs ++ all_implications P ys
  all-append [] ys = refl
  all-append (x ∷ xs) ys =
      ap (λ l. implications_in P x ++ l) (all-append xs ys) ∙ sym (append_assoc (implications_in P x) (all_implications P xs) (all_implications P ys))

  pub all-one : (x : Obligation) → all_implications P (x ∷ []) ≡ implications_in P x
  all-one x = append-nil (implications_in P x)

  -- one more
  pub all-more : (xs : List Obligation) (i : ℕ) (d : Obligation) → i < length xs
      → all_implications P (take (i + 1) xs) ≡ all_implications P (take i xs) ++ implications_in P (get_or xs i d)
  all-more xs i d h =
      ap (all_implications P) (take_more xs i d h) ∙ all-append (take i xs) (get_or xs i d ∷ [])
      ∙ ap (λ l. all_implications P (take i xs) ++ l) (all-one (get_or xs i d))

  module _ {Y : Type 0} (v : Y → Stated) (xs : List Obligation) (ys : List Y) (e : map (stated P) xs ≡ map v ys) where
    pub as-many : length xs ≡ length ys
    as-many = sym (length-map xs (stated P)) ∙ ap length e ∙ length-map ys v

    pub stated-at : (i : ℕ) (d : Obligation) (y : Y) → i < length ys → stated P (get_or xs i d) ≡ v (get_or ys i y)
    stated-at i d y h =
        let n = as-many in
        let a : i < length xs = omega arith in
        let k = length-map ys v in
        let m = length-map xs (stated P) in
        sym (get_or-map (stated P) xs i d (stated P d) a)
        ∙ ap (λ l. get_or l i (stated P d)) e
        ∙ get_or-map v ys i y (stated P d) h

-- something that stands in no program
abbrev pub nothing : Origin → Obligation
nothing o = record { context = []; asked = holds truth; origin = o }

-- a count that goes on
pub count-on : (a b m : ℕ) (xs ys zs : List Implication) → zs ≡ xs ++ ys → a ≡ min (length xs) m → b ≡ min (length ys) m → min (a + b) m ≡ min (length zs) m
count-on a b m xs ys zs e h k = let n = length-append xs ys in let z : length zs ≡ length (xs ++ ys) = ap length e in omega arith

-- what a clause on a result gives
pub on-ok : {T E P Q : Type 0} (r : Result T E) → OnOk r P → (P → Q) → OnOk r Q
on-ok (Ok x) p f = f p
on-ok (Err e) p f = tt
