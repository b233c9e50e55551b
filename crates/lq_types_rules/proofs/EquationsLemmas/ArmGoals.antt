-- What the pass over arms has to show.
use Rattle.std.proofs.Common.{◌≡◌, ℕ, zero, suc, ◌+◌, ◌<◌, ◌≤◌, List, [], ◌∷◌, map, take, Some, All, length, slice_get, sym, ap, subst, ◌∙◌, arith}
use Rattle.std.proofs.lemmas.List.{map-append, take_all}
use Rattle.lq_base_names.specs.declared.name.Binder.{Binder}
use Rattle.lq_text_tree.specs.PatternView.{pat_view}
use Rattle.lq_text_tree.specs.TreeView.{Case, tree_view, case_view, cases_view, arms_items}
use Rattle.lq_text_tree.specs.declared.expr.Arm.{Arm, out-Arm}
use Rattle.lq_text_tree.specs.declared.expr.Arms.{Arms}
use Rattle.lq_text_tree.specs.Types.{Signature}
use Rattle.lq_text_tree.specs.TypingRules.{PatternIs}
use Rattle.lq_text_walk.specs.Walk.Shape.{listed_cases}
use Rattle.lq_types_rules.specs.declared.equations.system.System.{System}
use Rattle.lq_types_rules.specs.declared.equations.template.Constructors.{Constructors}
use Rattle.lq_types_rules.specs.Equations.Adding.{IsLonger, Adds, count_of}
use Rattle.lq_types_rules.specs.Equations.Rows.{annotation_of, number_of, ArmsFit}
use Rattle.lq_types_rules.specs.Equations.Within.{PatternIn, CaseIn}
use Rattle.lq_types_rules.specs.Equations.Templates.{HasSignature}
use Rattle.lq_types_rules.proofs.EquationsLemmas.Composing.{after, adds_as, depends_alike}
use Rattle.lq_types_rules.proofs.EquationsLemmas.Seen.{arms_listed, arm_pattern, arm_body, taken_more}
use Rattle.lq_types_rules.proofs.EquationsLemmas.Shaping.{arm_then}

-- the arms before a place are seen
pub record IsArmStep (old new : System) (cs : Constructors) (nodes : ℕ) (arms : Arms Binder) (matched at next : ℕ) : Type 0 where
  pub longer : IsLonger old new
  pub adds : (g : Signature) → HasSignature cs g → Adds old new (ArmsFit g nodes (map (case_view Binder (λ b. b.0)) (take next (arms_items Binder arms))) matched at)

pub pattern_in : (nodes n : ℕ) (a : Arm Binder) → CaseIn nodes n (case_view Binder (λ b. b.0) a) → PatternIn nodes n (pat_view Binder (λ b. b.0) (out-Arm Binder a).pattern)
pattern_in nodes n a h = subst (PatternIn nodes n) (arm_pattern a) h.0

pub body_in : (nodes n : ℕ) (a : Arm Binder) → CaseIn nodes n (case_view Binder (λ b. b.0) a) → number_of (tree_view Binder (λ b. b.0) (out-Arm Binder a).body.value) < n
body_in nodes n a h = subst (λ t. number_of t < n) (arm_body a) h.1

pub one_arm : (g : Signature) (nodes : ℕ) (old mid new : System) (a : Arm Binder) (matched at body : ℕ) → CaseIn nodes (count_of old) (case_view Binder (λ b. b.0) a) → at < count_of old
    → body ≡ number_of (tree_view Binder (λ b. b.0) (out-Arm Binder a).body.value)
    → Adds old mid (λ t. PatternIs g (annotation_of nodes t) (pat_view Binder (λ b. b.0) (out-Arm Binder a).pattern) (t matched)) → Adds mid new (λ t. t body ≡ t at)
    → Adds old new (ArmsFit g nodes (case_view Binder (λ b. b.0) a ∷ []) matched at)
one_arm g nodes old mid new a matched at body inside la is p b =
    let c = case_view Binder (λ b. b.0) a in
    let q = pat_view Binder (λ b. b.0) (out-Arm Binder a).pattern in
    let same : body ≡ number_of c.body = is ∙ sym (ap number_of (arm_body a)) in
    adds_as old new (λ t. PatternIs g (annotation_of nodes t) q (t matched) × (t body ≡ t at)) (ArmsFit g nodes (c ∷ []) matched at)
    (after old mid new (λ t. PatternIs g (annotation_of nodes t) q (t matched)) (λ t. t body ≡ t at) p b (depends_alike (count_of old) body at (subst (λ (n : ℕ). n < count_of old) (sym same) inside.1) la))
    (λ t e. (subst (λ r. PatternIs g (annotation_of nodes t) r (t matched)) (sym (arm_pattern a)) e.0, ap t (sym same) ∙ e.1, tt))
    (λ t e. (subst (λ r. PatternIs g (annotation_of nodes t) r (t matched)) (arm_pattern a) e.0, ap t same ∙ e.1))

case_of : (P : Case → Type 0) (xs : List (Arm Binder)) (at : ℕ) (x : Arm Binder) → slice_get xs at ≡ Some x → All P (map (case_view Binder (λ b. b.0)) xs) → P (case_view Binder (λ b. b.0) x)
case_of P [] at x e h = absurd (cc)
case_of P (y ∷ ys) zero x e h = let f : y ≡ x = cc in subst (λ z. P (case_view Binder (λ b. b.0) z)) f (h 0 (case_view Binder (λ b. b.0) y) (omega arith))
case_of P (y ∷ ys) (suc at) x e h = case_of P ys at x e (λ k d l. h (suc k) d (omega arith))

pub arm_in : (nodes n : ℕ) (arms : Arms Binder) (at : ℕ) (x : Arm Binder) → slice_get (arms_items Binder arms) at ≡ Some x → All (CaseIn nodes n) (listed_cases (cases_view Binder (λ b. b.0) arms)) → CaseIn nodes n (case_view Binder (λ b. b.0) x)
arm_in nodes n arms at x e h = case_of (CaseIn nodes n) (arms_items Binder arms) at x e (subst (All (CaseIn nodes n)) (arms_listed arms) h)

pub case_wider : (nodes n m : ℕ) (c : Case) → n ≤ m → CaseIn nodes n c → CaseIn nodes m c
case_wider nodes n m c le h = (λ k d l. let x = h.0 k d l in omega arith, let x = h.1 in omega arith)

pub arm_step : (g : Signature) (nodes : ℕ) (old mid new : System) (arms : Arms Binder) (matched at next : ℕ) (x : Arm Binder) → slice_get (arms_items Binder arms) next ≡ Some x → at < count_of old → matched < count_of old
    → CaseIn nodes (count_of old) (case_view Binder (λ b. b.0) x) → Adds old mid (ArmsFit g nodes (map (case_view Binder (λ b. b.0)) (take next (arms_items Binder arms))) matched at)
    → Adds mid new (ArmsFit g nodes (case_view Binder (λ b. b.0) x ∷ []) matched at) → Adds old new (ArmsFit g nodes (map (case_view Binder (λ b. b.0)) (take (next + 1) (arms_items Binder arms))) matched at)
arm_step g nodes old mid new arms matched at next x is la lm inside a b =
    let seen = case_view Binder (λ b. b.0) in
    let xs = arms_items Binder arms in
    arm_then g nodes old mid new (map seen (take next xs)) (map seen (take (next + 1) xs)) (seen x) matched at la lm inside (ap (map seen) (taken_more xs next x is) ∙ map-append seen (take next xs) (x ∷ [])) a b

pub arms_done : (g : Signature) (nodes : ℕ) (old new : System) (arms : Arms Binder) (matched at next : ℕ) → length (arms_items Binder arms) ≤ next
    → Adds old new (ArmsFit g nodes (map (case_view Binder (λ b. b.0)) (take next (arms_items Binder arms))) matched at) → Adds old new (ArmsFit g nodes (listed_cases (cases_view Binder (λ b. b.0) arms)) matched at)
arms_done g nodes old new arms matched at next h a =
    subst (λ cs. Adds old new (ArmsFit g nodes cs matched at)) (ap (map (case_view Binder (λ b. b.0))) (take_all next (arms_items Binder arms) h) ∙ sym (arms_listed arms)) a
