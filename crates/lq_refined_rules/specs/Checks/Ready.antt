-- What holds of a program and its templates whatever the assignment: both sides of each subtyping have one simple type, and each name is
-- new where it is bound.
use Rattle.std.specs.Prelude.{◌≡◌, ℕ, Bool, true, false, List, [], ◌∷◌}
use Rattle.lq_refined_types.specs.Parts.Part.{known}
use Rattle.lq_logic_predicates.specs.Formula.{negation}
use Rattle.lq_refined_types.specs.Types.Context.{guard, Context}
use Rattle.lq_refined_types.specs.Types.Refined.{Refined, unit_type, Refineds, argument_of, element_of, erased}
use Rattle.lq_refined_types.specs.Subtyping.Splitting.{first_of, rest_of}
use Rattle.lq_refined_rules.specs.Checks.Basis.{Basis}
use Rattle.lq_refined_rules.specs.Checks.Binders.{IsNewName, AreNewNames}
use Rattle.lq_refined_rules.specs.Checks.Match.{is_data_match, in_arm}
use Rattle.lq_refined_rules.specs.Checks.Operation.{element_at, type_of, field_types, bind, body_context, body_type, recursive_context, recursive_type, last_context, last_type}
use Rattle.lq_refined_rules.specs.Checks.Pure.{formula_of, type_of_use, pure_type}
use Rattle.lq_refined_rules.specs.Checks.Tree.{Use, Pure, names_of, is_arm_of, takes_all, passes_on, has_template, Operation, pure, fun, if_else, match_on, call, tuple, build, make, fetch, store, divide, remainder, assert, assert_false, read, print, map_empty, map_add, map_find, Block, last, binding, recursive, Arms, no_arms, arm, Program, no_items, define, define_recursive, run_unit, run_any}

-- one of two, by a test
abbrev pub Where : Bool → Type 0 → Type 0 → Type 0
Where true X Y = X
Where false X Y = Y

abbrev pub SameType : Refined → Refined → Type 0
SameType l r = erased l ≡ erased r

module _ (P : Basis) where
  abbrev pub SameTypes : Context → List Pure → Refineds → Type 0
  SameTypes Γ [] ts = Unit {0}
  SameTypes Γ (e ∷ es) ts = SameType (pure_type P Γ e) (first_of ts) × SameTypes Γ es (rest_of ts)

  abbrev mutual
    pub IsReadyOperation : Context → Operation → Refined → Type 0
    IsReadyOperation Γ (fun p y b) t = IsNewName y Γ × IsReadyBlock (body_context Γ y t) b (body_type P.setting.scopes y t)
    IsReadyOperation Γ (if_else p c a b) t =
        IsReadyBlock (guard (known (formula_of c)) ∷ Γ) a t × IsReadyBlock (guard (known (negation (formula_of c))) ∷ Γ) b t
    IsReadyOperation Γ (match_on p u arms) t =
        Where (is_data_match P Γ u) (((c : ℕ) → IsReadyCase Γ u c t arms) × IsReadyDefault Γ u arms t) (IsReadyFirst Γ u arms t)
    IsReadyOperation Γ (call g a) t = SameType (pure_type P Γ a) (argument_of (pure_type P Γ g))
    IsReadyOperation Γ (build p c es) t = SameTypes Γ es (field_types P Γ p c es)
    IsReadyOperation Γ (make p n e) t = SameType (pure_type P Γ e) (P.template p)
    IsReadyOperation Γ (store u i e) t = SameType (pure_type P Γ e) (element_of (type_of_use P Γ u))
    IsReadyOperation Γ (map_add p k e m) t =
        SameType (pure_type P Γ e) (element_at P.setting.scopes k (P.template p)) × SameType (pure_type P Γ m) (P.template p)
    IsReadyOperation Γ (pure e) t = Unit {0}
    IsReadyOperation Γ (tuple es) t = Unit {0}
    IsReadyOperation Γ (fetch u i) t = Unit {0}
    IsReadyOperation Γ (divide x y) t = Unit {0}
    IsReadyOperation Γ (remainder x y) t = Unit {0}
    IsReadyOperation Γ (assert e) t = Unit {0}
    IsReadyOperation Γ (assert_false p) t = Unit {0}
    IsReadyOperation Γ (read e) t = Unit {0}
    IsReadyOperation Γ (print e) t = Unit {0}
    IsReadyOperation Γ (map_empty p) t = Unit {0}
    IsReadyOperation Γ (map_find k m) t = Unit {0}

    pub IsReadyBlock : Context → Block → Refined → Type 0
    IsReadyBlock Γ (last l o) t = IsReadyOperation Γ o t × Where (passes_on o) (Unit {0}) (SameType (type_of P Γ o) t)
    IsReadyBlock Γ (binding x l o b) t =
        IsReadyOperation Γ o (type_of P Γ o) × IsNewName x Γ × IsReadyBlock (bind x (type_of P Γ o) Γ) b t
    IsReadyBlock Γ (recursive g p y b c) t =
        (IsNewName g Γ × IsNewName y (bind g (P.template p) Γ) × IsReadyBlock (recursive_context P Γ g p y) b (recursive_type P p y))
        × IsReadyBlock (bind g (P.template p) Γ) c t

    pub IsReadyCase : Context → Use → ℕ → Refined → Arms → Type 0
    IsReadyCase Γ u c t no_arms = Unit {0}
    IsReadyCase Γ u c t (arm q b arms) =
        Where (is_arm_of c q) (AreNewNames (names_of q) Γ × IsReadyBlock (in_arm P Γ u q) b t) (IsReadyCase Γ u c t arms)

    pub IsReadyDefault : Context → Use → Arms → Refined → Type 0
    IsReadyDefault Γ u no_arms t = Unit {0}
    IsReadyDefault Γ u (arm q b arms) t =
        Where (takes_all q) (AreNewNames (names_of q) Γ × IsReadyBlock (in_arm P Γ u q) b t) (IsReadyDefault Γ u arms t)

    pub IsReadyFirst : Context → Use → Arms → Refined → Type 0
    IsReadyFirst Γ u no_arms t = Unit {0}
    IsReadyFirst Γ u (arm q b arms) t = AreNewNames (names_of q) Γ × IsReadyBlock (in_arm P Γ u q) b t

  abbrev pub IsReadyRecursive : Context → ℕ → ℕ → ℕ → Block → Type 0
  IsReadyRecursive Γ g p y b =
      IsNewName g Γ × IsNewName y (bind g (P.template p) Γ) × IsReadyBlock (recursive_context P Γ g p y) b (recursive_type P p y)

  abbrev pub IsReadyGiven : Context → Block → Type 0
  IsReadyGiven Γ (last l o) = IsReadyOperation Γ o (type_of P Γ o)
  IsReadyGiven Γ (binding x l o b) =
      IsReadyOperation Γ o (type_of P Γ o) × IsNewName x Γ × IsReadyGiven (bind x (type_of P Γ o) Γ) b
  IsReadyGiven Γ (recursive g p y b c) = IsReadyRecursive Γ g p y b × IsReadyGiven (bind g (P.template p) Γ) c

  abbrev pub IsReady : Context → Program → Type 0
  IsReady Γ no_items = Unit {0}
  IsReady Γ (define x l k b rest) =
      IsReadyGiven Γ b × Where (has_template b) (SameType (last_type P Γ b) (P.template k)) (Unit {0})
      × IsNewName x (last_context P Γ b) × IsReady (bind x (last_type P Γ b) (last_context P Γ b)) rest
  IsReady Γ (define_recursive g p y b rest) = IsReadyRecursive Γ g p y b × IsReady (bind g (P.template p) Γ) rest
  IsReady Γ (run_unit b rest) = IsReadyBlock Γ b unit_type × IsReady Γ rest
  IsReady Γ (run_any b rest) = IsReadyGiven Γ b × IsReady Γ rest
