-- Calls of functions that are alike.
use Rattle.std.proofs.Common.{◌≡◌, ℕ, zero, suc, ◌≤◌, Bool, true, false, ◌==◌, ◌||◌, List, [], ◌∷◌, ◌++◌, Option, Some, None, refl, sym, ap, subst, ◌∙◌, append_assoc, arith}
use Rattle.std.specs.List.{list_any}
use Rattle.std.proofs.lemmas.List.{append-nil}
use Rattle.std.proofs.lemmas.List.Folds.{list_any-append}
use Rattle.lq_text_tree.specs.Pattern.{Pattern}
use Rattle.lq_meaning_steps.specs.declared.model.fault.FaultKind.TheVariants.{NoCase}
use Rattle.lq_meaning_steps.specs.Model.Core as core
use Rattle.lq_meaning_steps.specs.Model.Core.{variables_of, Parameter, ignored, variable, empty, matched, bound_in, Core, Value, v_fun, v_rec, Pairs, without, close}
use Rattle.lq_meaning_steps.specs.Model.Operations.{World, fits}
use Rattle.lq_meaning_steps.specs.Model.Meaning.{Answer, fails, fitting, with_parameter, call_meaning, meaning}
use Rattle.lq_meaning_steps.specs.Model.FromTree.{parameter_of, core_of}
use Rattle.lq_meaning_steps.specs.Model.Laws.{ArePairsOf, MeansClosed, ClosesBehind, FitsBinds, OneIsPaired, PairsJoin}
use Rattle.lq_meaning_normal_form.specs.Outcomes.Naming.{block, closed, parameter, behind, under}
use Rattle.lq_meaning_normal_form.specs.Outcomes.Alike.{Alike, alike_fun, alike_rec, AlikePairs, both_have, AlikeWorlds, alike_answers}
use Rattle.lq_meaning_normal_form.specs.Outcomes.Named.{from, IsNamed, NamingKeeps}
use Rattle.lq_meaning_normal_form.proofs.OutcomesLemmas.Patterns.{behind_later}
use Rattle.lq_meaning_normal_form.proofs.OutcomesLemmas.Parts.{under_keeps}
use Rattle.lq_meaning_normal_form.proofs.OutcomesLemmas.Keeps.{CallsKeep, naming_keeps_by}

-- what is known of closings and environments
pub record Environments : Type 0 where
  pub closed : MeansClosed
  pub behind : ClosesBehind
  pub binds : FitsBinds
  pub one : OneIsPaired
  pub together : PairsJoin

-- a closed body under values for what was left out
closed_means : Environments → (n : ℕ) (xs : List ℕ) (ps d : Pairs) (b x : Core) (w : World) → x ≡ close (without xs d) b → ArePairsOf xs ps → meaning n x ps w ≡ meaning n b (ps ++ d) w
closed_means laws n xs ps d b x w e h =
    ap (λ l. meaning n x l w) (sym (append-nil ps)) ∙ sym (laws.closed n x ps [] w) ∙ ap (λ c. meaning n c [] w) (ap (close ps) e ∙ laws.behind xs ps d b h)
    ∙ laws.closed n b (ps ++ d) [] w ∙ ap (λ l. meaning n b l w) (append-nil (ps ++ d))

fitting_means : Environments → (q : core.Pattern) (v : Value) (o : Option Pairs) → fits q v ≡ o → (d g : Pairs) (go to : Pairs → World → Answer) (other : World → Answer) (w : World)
    → ((ps : Pairs) → ArePairsOf (variables_of q) ps → go (ps ++ d) w ≡ to (ps ++ g) w) → fitting o d go other w ≡ fitting o g to other w
fitting_means laws q v None is d g go to other w h = refl
fitting_means laws q v (Some ps) is d g go to other w h = h ps (laws.binds q v ps is)

parameter_means : Environments → (q : Parameter) (v : Value) (d g : Pairs) (go to : Pairs → World → Answer) (w : World)
    → ((ps : Pairs) → ArePairsOf (bound_in q) ps → go (ps ++ d) w ≡ to (ps ++ g) w) → with_parameter q v d go w ≡ with_parameter q v g to w
parameter_means laws ignored v d g go to w h = h [] (λ x. refl)
parameter_means laws empty v d g go to w h = h [] (λ x. refl)
parameter_means laws (variable x) v d g go to w h = h ((x, v) ∷ []) (laws.one x v)
parameter_means laws (matched p q) v d g go to w h = fitting_means laws q v (fits q v) refl d g go to (fails NoCase p) w h

-- a call of a closed function
pub fun_means : Environments → (n : ℕ) (q : Parameter) (b x : Core) (d : Pairs) (v : Value) (w : World) → x ≡ close (without (bound_in q) d) b
    → call_meaning (suc n) (v_fun q x) v w ≡ with_parameter q v d (λ env u. meaning n b env u) w
fun_means laws n q b x d v w e =
    parameter_means laws q v [] d (λ env u. meaning n x env u) (λ env u. meaning n b env u) w (λ ps h.
    ap (λ l. meaning n x l w) (append-nil ps) ∙ closed_means laws n (bound_in q) ps d b x w e h)

turned : (a b : Bool) → (a || (b || false)) ≡ (b || a)
turned true true = refl
turned true false = refl
turned false true = refl
turned false false = refl

with_self : Environments → (f : ℕ) (c : Value) (xs : List ℕ) (ps : Pairs) → ArePairsOf xs ps → ArePairsOf (f ∷ xs) (ps ++ (f, c) ∷ [])
with_self laws f c xs ps h k =
    laws.together xs (f ∷ []) ps ((f, c) ∷ []) h (laws.one f c) k ∙ list_any-append (λ y. y == k) xs (f ∷ []) ∙ turned (list_any (λ y. y == k) xs) (f == k)

pub rec_means : Environments → (n f : ℕ) (q : Parameter) (b x : Core) (d : Pairs) (v : Value) (w : World) → x ≡ close (without (f ∷ bound_in q) d) b
    → call_meaning (suc n) (v_rec f q x) v w ≡ with_parameter q v ((f, v_rec f q x) ∷ d) (λ env u. meaning n b env u) w
rec_means laws n f q b x d v w e =
    let c = v_rec f q x in
    parameter_means laws q v ((f, c) ∷ []) ((f, c) ∷ d) (λ env u. meaning n x env u) (λ env u. meaning n b env u) w (λ ps h.
    closed_means laws n (f ∷ bound_in q) (ps ++ (f, c) ∷ []) d b x w e (with_self laws f c (bound_in q) ps h) ∙ ap (λ l. meaning n b l w) (append_assoc ps ((f, c) ∷ []) d))

module _ (base : ℕ) where
  -- code that is named, under its parameter
  code_keeps : (n : ℕ) → CallsKeep base (call_meaning n) → (hidden : ℕ → Bool) (q r : Parameter) (b c : Core) (d g : Pairs) (v u : Value) (w t : World) → IsNamed base hidden q b r c
      → AlikePairs (IsNamed base) hidden d g → Alike (IsNamed base) v u → AlikeWorlds (IsNamed base) w t
      → alike_answers (IsNamed base) (with_parameter q v d (λ env s. meaning n b env s) w) (with_parameter r u g (λ env s. meaning n c env s) t)
  code_keeps n calls hidden q r b c d g v u w t code rel a world =
      let k = code.first in
      let z : Pattern = code.pattern in
      let B = closed (block (behind k z) code.body) in
      let first = code.above in let second = behind_later z k in
      let le : base ≤ behind k z = omega (arith, first, second) in
      let rel2 : AlikePairs (IsNamed base) (from base) d g = subst (λ (l : ℕ → Bool). AlikePairs (IsNamed base) l d g) code.hides rel in
      let source = λ (p : Parameter) (x : Core). with_parameter p v d (λ env s. meaning n x env s) w in
      let target = λ (p : Parameter) (x : Core). with_parameter p u g (λ env s. meaning n x env s) t in
      let by : alike_answers (IsNamed base) (source (parameter_of z) (core_of code.body)) (target (parameter_of (parameter k z)) (core_of (under k z B))) =
      under_keeps base (call_meaning n) z k B v u d g (λ env s. meaning n (core_of code.body) env s) w t first a rel2 world (λ l h rel3.
      naming_keeps_by base (call_meaning n) calls code.body code.avoids (behind k z) le l h rel3 w t world) in
      subst (λ p. alike_answers (IsNamed base) (source p b) (target r c)) (sym code.taken)
      (subst (λ x. alike_answers (IsNamed base) (source (parameter_of z) x) (target r c)) (sym code.source)
      (subst (λ p. alike_answers (IsNamed base) (source (parameter_of z) (core_of code.body)) (target p c)) (sym code.parameter)
      (subst (λ x. alike_answers (IsNamed base) (source (parameter_of z) (core_of code.body)) (target (parameter_of (parameter k z)) x)) (sym code.named) by)))

  pub calls_keep : Environments → (n : ℕ) → CallsKeep base (call_meaning n)
  calls_keep laws zero f g v u w t a b world = world
  calls_keep laws (suc n) f g v u w t (alike_fun hidden q r b c x y d e code rel is are) a world =
      subst (λ z. alike_answers (IsNamed base) z (call_meaning (suc n) (v_fun r y) u t)) (sym (fun_means laws n q b x d v w is))
      (subst (alike_answers (IsNamed base) (with_parameter q v d (λ env s. meaning n b env s) w)) (sym (fun_means laws n r c y e u t are))
      (code_keeps n (calls_keep laws n) hidden q r b c d e v u w t code rel a world))
  calls_keep laws (suc n) f g v u w t (alike_rec hidden i q r b c x y d e code rel is are) a world =
      let self = (i, v_rec i q x) ∷ d in
      let other = (i, v_rec i r y) ∷ e in
      subst (λ z. alike_answers (IsNamed base) z (call_meaning (suc n) (v_rec i r y) u t)) (sym (rec_means laws n i q b x d v w is))
      (subst (alike_answers (IsNamed base) (with_parameter q v self (λ env s. meaning n b env s) w)) (sym (rec_means laws n i r c y e u t are))
      (code_keeps n (calls_keep laws n) hidden q r b c self other v u w t code
      (both_have hidden i (v_rec i q x) (v_rec i r y) d e (alike_rec hidden i q r b c x y d e code rel is are) rel) a world))
  calls_keep laws (suc n) f g v u w t _ a world = tt

pub naming_keeps : Environments → NamingKeeps
naming_keeps laws base n k t d g w u le av rel world = naming_keeps_by base (call_meaning n) (calls_keep base laws n) t av k le d g rel w u world
