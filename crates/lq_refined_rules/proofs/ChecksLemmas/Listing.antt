-- Lists of implications that hold, and those that come of a test.
use Rattle.std.proofs.Common.{◌≡◌, Bool, true, false, cond, List, [], ◌∷◌, ◌++◌, refl, sym, ap, subst}
use Rattle.lq_logic_predicates.specs.Formula.{Formula}
use Rattle.lq_refined_types.specs.Parts.Assignment.{Assignment, Implied}
use Rattle.lq_refined_types.specs.Parts.Part.{known, Parts}
use Rattle.lq_refined_types.specs.Types.Context.{Context}
use Rattle.lq_refined_types.specs.Types.Refined.{Refined, Refineds}
use Rattle.lq_refined_types.specs.Subtyping.Implication.{Origin, Implication, AllHold}
use Rattle.lq_refined_types.specs.Subtyping.Splitting.{SplitIsSubtype, first_of, rest_of}
use Rattle.lq_refined_types.specs.Subtyping.Subtype.{facts, IsSubtype}
use Rattle.lq_refined_rules.specs.Checks.Basis.{Basis}
use Rattle.lq_refined_rules.specs.Checks.Checks.{Demanded, AreArguments}
use Rattle.lq_refined_rules.specs.Checks.Listing.{demand, subtyping, operands}
use Rattle.lq_refined_rules.specs.Checks.Pure.{pure_type}
use Rattle.lq_refined_rules.specs.Checks.Ready.{Where, SameType, SameTypes}
use Rattle.lq_refined_rules.specs.Checks.Tree.{Pure}
use Rattle.lq_refined_rules.proofs.ChecksLemmas.Shaping.{same_shape}

nil_right : (ps : Parts) → ps ++ [] ≡ ps
nil_right [] = refl
nil_right (p ∷ ps) = ap (λ l. p ∷ l) (nil_right ps)

pub hold_append : (A : Assignment) (is js : List Implication) → AllHold A is → AllHold A js → AllHold A (is ++ js)
hold_append A [] js m n = n
hold_append A (i ∷ is) js m n = (m.0, hold_append A is js m.1 n)

pub hold_first : (A : Assignment) (is js : List Implication) → AllHold A (is ++ js) → AllHold A is
hold_first A [] js m = tt
hold_first A (i ∷ is) js m = (m.0, hold_first A is js m.1)

pub hold_rest : (A : Assignment) (is js : List Implication) → AllHold A (is ++ js) → AllHold A js
hold_rest A [] js m = m
hold_rest A (i ∷ is) js m = hold_rest A is js m.1

module _ (law : SplitIsSubtype) (P : Basis) (A : Assignment) where
  pub demand_met : (Γ : Context) (p : Formula) (o : Origin) → Demanded P A Γ p → AllHold A (demand P Γ p o)
  demand_met Γ p o h = (subst (λ l. Implied A l (known p)) (sym (nil_right (facts P.setting Γ))) h, tt)

  pub demand_hold : (Γ : Context) (p : Formula) (o : Origin) → AllHold A (demand P Γ p o) → Demanded P A Γ p
  demand_hold Γ p o m = subst (λ l. Implied A l (known p)) (nil_right (facts P.setting Γ)) m.0

  pub subtyping_met : (Γ : Context) (l r : Refined) (o : Origin) → SameType l r → IsSubtype P.setting A Γ l r
      → AllHold A (subtyping P Γ l r o)
  subtyping_met Γ l r o e s = (law P.setting A o Γ l r (same_shape l r e)).1 s

  pub subtyping_hold : (Γ : Context) (l r : Refined) (o : Origin) → SameType l r → AllHold A (subtyping P Γ l r o)
      → IsSubtype P.setting A Γ l r
  subtyping_hold Γ l r o e m = (law P.setting A o Γ l r (same_shape l r e)).0 m

  pub operands_met : (Γ : Context) (es : List Pure) (ts : Refineds) (o : Origin) → SameTypes P Γ es ts → AreArguments P A Γ es ts
      → AllHold A (operands P Γ es ts o)
  operands_met Γ [] ts o r f = tt
  operands_met Γ (e ∷ es) ts o r f =
      hold_append A (subtyping P Γ (pure_type P Γ e) (first_of ts) o) (operands P Γ es (rest_of ts) o)
      (subtyping_met Γ (pure_type P Γ e) (first_of ts) o r.0 f.0) (operands_met Γ es (rest_of ts) o r.1 f.1)

  pub operands_hold : (Γ : Context) (es : List Pure) (ts : Refineds) (o : Origin) → SameTypes P Γ es ts
      → AllHold A (operands P Γ es ts o) → AreArguments P A Γ es ts
  operands_hold Γ [] ts o r m = tt
  operands_hold Γ (e ∷ es) ts o r m =
      let first = subtyping P Γ (pure_type P Γ e) (first_of ts) o in
      let rest = operands P Γ es (rest_of ts) o in
      let others = operands_hold Γ es (rest_of ts) o r.1 (hold_rest A first rest m) in
      (subtyping_hold Γ (pure_type P Γ e) (first_of ts) o r.0 (hold_first A first rest m), others)

  -- one of two lists, by a test
  pub met_where : (b c : Bool) (U V : List Implication) → b ≡ c → AllHold A (cond c U V) → AllHold A (cond b U V)
  met_where b c U V e m = subst (λ x. AllHold A (cond x U V)) (sym e) m

  pub ready_where : (b c : Bool) (X Y : Type 0) → b ≡ c → Where b X Y → Where c X Y
  ready_where b c X Y e r = subst (λ x. Where x X Y) e r

  -- a subtyping that is asked for by a test
  pub unless_met : (b : Bool) (o : Origin) (Γ : Context) (l r : Refined) → Where b (Unit {0}) (SameType l r)
      → (b ≡ false → IsSubtype P.setting A Γ l r) → AllHold A (cond b [] (subtyping P Γ l r o))
  unless_met true o Γ l r s f = tt
  unless_met false o Γ l r s f = subtyping_met Γ l r o s (f refl)

  pub unless_hold : (b : Bool) (o : Origin) (Γ : Context) (l r : Refined) → Where b (Unit {0}) (SameType l r)
      → AllHold A (cond b [] (subtyping P Γ l r o)) → b ≡ false → IsSubtype P.setting A Γ l r
  unless_hold true o Γ l r s m e = absurd (cc)
  unless_hold false o Γ l r s m e = subtyping_hold Γ l r o s m

  pub if_met : (b : Bool) (o : Origin) (Γ : Context) (l r : Refined) → Where b (SameType l r) (Unit {0})
      → (b ≡ true → IsSubtype P.setting A Γ l r)
      → AllHold A (cond b (subtyping P Γ l r o) [])
  if_met true o Γ l r s f = subtyping_met Γ l r o s (f refl)
  if_met false o Γ l r s f = tt

  pub if_hold : (b : Bool) (o : Origin) (Γ : Context) (l r : Refined) → Where b (SameType l r) (Unit {0})
      → AllHold A (cond b (subtyping P Γ l r o) []) → b ≡ true → IsSubtype P.setting A Γ l r
  if_hold true o Γ l r s m e = subtyping_hold Γ l r o s m
  if_hold false o Γ l r s m e = absurd (cc)

  -- one of two lists and of two premises, by a test
  pub decide : (b : Bool) (X Y F : Type 0) (U V : List Implication) → Where b X Y → AllHold A (cond b U V)
      → (b ≡ true → X → AllHold A U → F) → (b ≡ false → Y → AllHold A V → F) → F
  decide true X Y F U V r m f g = f refl r m
  decide false X Y F U V r m f g = g refl r m
