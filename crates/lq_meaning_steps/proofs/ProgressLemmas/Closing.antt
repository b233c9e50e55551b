-- Values in the place of variables of their types keep the type.
use Rattle.std.proofs.Common.{◌≡◌, ℕ, Bool, true, false, ◌==◌, ◌||◌, if◌then◌else◌, List, [], ◌∷◌, ◌++◌, Option, Some, None, is_some, refl, sym, ap, ap₂, subst, ◌∙◌}
use Rattle.std.specs.List.{list_any}
use Rattle.std.proofs.lemmas.List.Folds.{list_any-append}
use Rattle.lq_text_tree.specs.MlType as ml
use Rattle.lq_text_tree.specs.MlType.{MlType, MlTypes}
use Rattle.lq_meaning_steps.specs.Model.Leaving.{unless, value_in-without}
use Rattle.lq_meaning_steps.specs.Model.Core.{Pattern, any, bind, nothing, tuple_of, build_of, Patterns, no_patterns, more_patterns, variables_of, variables_of_all, Parameter, ignored, variable, empty, matched, bound_in, Core, val, use_of, fun, row, let_in, let_rec, call, one, two, three, and_of, or_of, if_else, match_on, seq, assert_false, Cores, none, more, Arms, no_arms, more_arms, Value, Pairs, value_in, without, replaced, close, close_all, close_arms}
use Rattle.lq_text_tree.specs.Types.{Signature, Scheme, plain, Names, scheme_in, IsInstance, IsUsedAt}
use Rattle.lq_meaning_steps.specs.Progress.Typing.{Table, PatternHas, PatternsHave, ParameterHas, Has, AllHave, ArmsHave, ValueHas}
use Rattle.lq_meaning_steps.specs.Progress.Laws.{AgreesAt, Agrees}

-- ---- names in front

abbrev pub or_else : Option Scheme → Option Scheme → Option Scheme
or_else (Some s) o = Some s
or_else None o = o

or_else_if : (b : Bool) (s : Scheme) (o r : Option Scheme) → (if b then Some s else or_else o r) ≡ or_else (if b then Some s else o) r
or_else_if true s o r = refl
or_else_if false s o r = refl

pub scheme_in-append : (ns ms : Names) (k : ℕ) → scheme_in (ns ++ ms) k ≡ or_else (scheme_in ns k) (scheme_in ms k)
scheme_in-append [] ms k = refl
scheme_in-append (n ∷ ns) ms k =
    ap (λ o. if n.0 == k then Some n.1 else o) (scheme_in-append ns ms k) ∙ or_else_if (n.0 == k) n.1 (scheme_in ns k) (scheme_in ms k)

-- the names are these variables
abbrev pub AreNamesOf : List ℕ → Names → Type 0
AreNamesOf xs ns = (k : ℕ) → is_some (scheme_in ns k) ≡ list_any (λ y. y == k) xs

some_if : (b : Bool) (s : Scheme) → is_some (if b then Some s else None) ≡ (b || false)
some_if true s = refl
some_if false s = refl

some_or : (o r : Option Scheme) → is_some (or_else o r) ≡ (is_some o || is_some r)
some_or (Some v) r = refl
some_or None r = refl

pub name_of : (x : ℕ) (s : Scheme) → AreNamesOf (x ∷ []) ((x, s) ∷ [])
name_of x s k = some_if (x == k) s

names_append : (xs ys : List ℕ) (ns ms : Names) → AreNamesOf xs ns → AreNamesOf ys ms → AreNamesOf (xs ++ ys) (ns ++ ms)
names_append xs ys ns ms h g k =
    ap is_some (scheme_in-append ns ms k) ∙ some_or (scheme_in ns k) (scheme_in ms k) ∙ ap₂ (λ a b. a || b) (h k) (g k)
    ∙ sym (list_any-append (λ y. y == k) xs ys)

mutual
  pub pattern_names : (q : Pattern) (g : Signature) (a : MlType) (ns : Names) → PatternHas g q a ns → AreNamesOf (variables_of q) ns
  pattern_names any g a ns h = subst (AreNamesOf []) (sym h) (λ k. refl)
  pattern_names (bind x) g a ns h = subst (AreNamesOf (x ∷ [])) (sym h) (name_of x (plain a))
  pattern_names nothing g a ns h = subst (AreNamesOf []) (sym h.1) (λ k. refl)
  pattern_names (tuple_of qs) g a ns h = patterns_names qs g h.0 ns h.2
  pattern_names (build_of c qs) g a ns h = patterns_names qs g h.0 ns h.2

  patterns_names : (qs : Patterns) (g : Signature) (ts : MlTypes) (ns : Names) → PatternsHave g qs ts ns → AreNamesOf (variables_of_all qs) ns
  patterns_names no_patterns g ts ns h = subst (AreNamesOf []) (sym h.1) (λ k. refl)
  patterns_names (more_patterns q qs) g ts ns h =
      subst (AreNamesOf (variables_of q ++ variables_of_all qs)) (sym h.5)
      (names_append (variables_of q) (variables_of_all qs) h.2 h.3 (pattern_names q g h.0 h.2 h.6) (patterns_names qs g h.1 h.3 h.7))

parameter_names : (q : Parameter) (g : Signature) (a : MlType) (ns : Names) → ParameterHas g q a ns → AreNamesOf (bound_in q) ns
parameter_names ignored g a ns h = subst (AreNamesOf []) (sym h) (λ k. refl)
parameter_names (variable x) g a ns h = subst (AreNamesOf (x ∷ [])) (sym h) (name_of x (plain a))
parameter_names empty g a ns h = subst (AreNamesOf []) (sym h.1) (λ k. refl)
parameter_names (matched p q) g a ns h = pattern_names q g a ns h

-- ---- agreement

agrees_by : (g : Signature) (t : Table) (o p : Option Value) (s r d c : Option Scheme) → o ≡ p → s ≡ r → d ≡ c → AgreesAt g t p r c → AgreesAt g t o s d
agrees_by g t o p s r d c eo es ed h =
    subst (λ x. AgreesAt g t x s d) (sym eo) (subst (λ x. AgreesAt g t p x d) (sym es) (subst (λ x. AgreesAt g t p r x) (sym ed) h))

left_out : (g : Signature) (t : Table) (b : Bool) (o : Option Value) (h s d : Option Scheme) → is_some h ≡ b → AgreesAt g t o s d → AgreesAt g t (unless b o) (or_else h s) (or_else h d)
left_out g t true o (Some r) s d e a = λ x k. k
left_out g t true o None s d e a = cc
left_out g t false o (Some r) s d e a = cc
left_out g t false o None s d e a = a

-- behind names that are bound anew
pub agrees_inside : (g : Signature) (t : Table) (xs : List ℕ) (ls : Names) (ps : Pairs) (ns ms : Names) → AreNamesOf xs ls → Agrees g t ps ns ms → Agrees g t (without xs ps) (ls ++ ns) (ls ++ ms)
agrees_inside g t xs ls ps ns ms h a k =
    agrees_by g t (value_in (without xs ps) k) (unless (list_any (λ x. x == k) xs) (value_in ps k)) (scheme_in (ls ++ ns) k) (or_else (scheme_in ls k) (scheme_in ns k))
    (scheme_in (ls ++ ms) k) (or_else (scheme_in ls k) (scheme_in ms k)) (value_in-without xs ps k) (scheme_in-append ls ns k) (scheme_in-append ls ms k)
    (left_out g t (list_any (λ x. x == k) xs) (value_in ps k) (scheme_in ls k) (scheme_in ns k) (scheme_in ms k) (h k) (a k))

first_agrees : (g : Signature) (t : Table) (b : Bool) (v : Value) (s : Scheme) (o : Option Value) (r d : Option Scheme)
    → ((a : MlType) → IsInstance s a → ValueHas g t v a) → AgreesAt g t o r d → AgreesAt g t (if b then Some v else o) (if b then Some s else r) d
first_agrees g t true v s o r d h k = h
first_agrees g t false v s o r d h k = k

-- one value more
pub agrees_more : (g : Signature) (t : Table) (x : ℕ) (v : Value) (s : Scheme) (ps : Pairs) (ns ms : Names)
    → ((a : MlType) → IsInstance s a → ValueHas g t v a) → Agrees g t ps ns ms → Agrees g t ((x, v) ∷ ps) ((x, s) ∷ ns) ms
agrees_more g t x v s ps ns ms h k y = first_agrees g t (x == y) v s (value_in ps y) (scheme_in ns y) (scheme_in ms y) h (k y)

-- none
pub agrees_none : (g : Signature) (t : Table) (ns : Names) → Agrees g t [] ns ns
agrees_none g t ns y a h = h

-- ---- closing

module _ (g : Signature) (t : Table) where
  closed_use : (x : ℕ) (o : Option Value) (s : Option Scheme) (ms : Names) (a : MlType) → AgreesAt g t o s (scheme_in ms x) → IsUsedAt s a → Has g t ms (replaced x o) a
  closed_use x None s ms a h k = h a k
  closed_use x (Some v) s ms a h k = h a k

  inside_pattern : (q : Pattern) (a : MlType) (ls : Names) (ps : Pairs) (ns ms : Names) → PatternHas g q a ls → Agrees g t ps ns ms → Agrees g t (without (variables_of q) ps) (ls ++ ns) (ls ++ ms)
  inside_pattern q a ls ps ns ms h k = agrees_inside g t (variables_of q) ls ps ns ms (pattern_names q g a ls h) k

  inside_parameter : (q : Parameter) (a : MlType) (ls : Names) (ps : Pairs) (ns ms : Names) → ParameterHas g q a ls → Agrees g t ps ns ms → Agrees g t (without (bound_in q) ps) (ls ++ ns) (ls ++ ms)
  inside_parameter q a ls ps ns ms h k = agrees_inside g t (bound_in q) ls ps ns ms (parameter_names q g a ls h) k

  -- where a function's own name and its parameter are bound
  pub inside_function : (f : ℕ) (q : Parameter) (a : MlType) (s : Scheme) (ls : Names) (ps : Pairs) (ns ms : Names) → ParameterHas g q a ls → Agrees g t ps ns ms
      → Agrees g t (without (f ∷ bound_in q) ps) (ls ++ (f, s) ∷ ns) (ls ++ (f, s) ∷ ms)
  inside_function f q a s ls ps ns ms h k y =
      agrees_by g t (value_in (without (f ∷ bound_in q) ps) y) (unless (list_any (λ x. x == y) (f ∷ bound_in q)) (value_in ps y))
      (scheme_in (ls ++ (f, s) ∷ ns) y) (or_else (scheme_in ls y) (scheme_in ((f, s) ∷ ns) y))
      (scheme_in (ls ++ (f, s) ∷ ms) y) (or_else (scheme_in ls y) (scheme_in ((f, s) ∷ ms) y))
      (value_in-without (f ∷ bound_in q) ps y) (scheme_in-append ls ((f, s) ∷ ns) y) (scheme_in-append ls ((f, s) ∷ ms) y)
      (both_out (f == y) (list_any (λ x. x == y) (bound_in q)) (value_in ps y) (scheme_in ls y) (scheme_in ns y) (scheme_in ms y) (parameter_names q g a ls h y) (k y))
    where
      both_out : (b c : Bool) (o : Option Value) (l r d : Option Scheme) → is_some l ≡ c → AgreesAt g t o r d
          → AgreesAt g t (unless (b || c) o) (or_else l (if b then Some s else r)) (or_else l (if b then Some s else d))
      both_out true c o (Some u) r d e z = λ x w. w
      both_out true c o None r d e z = λ x w. w
      both_out false true o (Some u) r d e z = λ x w. w
      both_out false true o None r d e z = cc
      both_out false false o (Some u) r d e z = cc
      both_out false false o None r d e z = z

  mutual
    pub closes : (e : Core) (ps : Pairs) (ns ms : Names) (a : MlType) → Agrees g t ps ns ms → Has g t ns e a → Has g t ms (close ps e) a
    closes (val v) ps ns ms a k h = h
    closes (use_of x) ps ns ms a k h = closed_use x (value_in ps x) (scheme_in ns x) ms a (k x) h
    closes (fun q b) ps ns ms a k h =
        (h.0, h.1, h.2, h.3, h.4, closes b (without (bound_in q) ps) (h.2 ++ ns) (h.2 ++ ms) h.1 (inside_parameter q h.0 h.2 ps ns ms h.4 k) h.5)
    closes (row r es) ps ns ms a k h = (h.0, all_close es ps ns ms h.0 k h.1, h.2)
    closes (let_in q e b) ps ns ms a k h =
        (h.0, h.1, closes e ps ns ms h.0 k h.2, h.3, closes b (without (bound_in q) ps) (h.1 ++ ns) (h.1 ++ ms) a (inside_parameter q h.0 h.1 ps ns ms h.3 k) h.4)
    closes (let_rec f q b e) ps ns ms a k h = (
      h.0,
      h.1,
      h.2,
      h.3,
      closes b (without (f ∷ bound_in q) ps) (h.2 ++ (f, plain (ml.arrow h.0 h.1)) ∷ ns) (h.2 ++ (f, plain (ml.arrow h.0 h.1)) ∷ ms) h.1 (inside_function f q h.0 (plain (ml.arrow h.0 h.1)) h.2 ps ns ms h.3 k) h.4,
      closes e (without (f ∷ []) ps) ((f, plain (ml.arrow h.0 h.1)) ∷ ns) ((f, plain (ml.arrow h.0 h.1)) ∷ ms) a
          (agrees_inside g t (f ∷ []) ((f, plain (ml.arrow h.0 h.1)) ∷ []) ps ns ms (name_of f (plain (ml.arrow h.0 h.1))) k) h.5,
    )
    closes (call f e) ps ns ms a k h = (h.0, closes f ps ns ms (ml.arrow h.0 a) k h.1, closes e ps ns ms h.0 k h.2)
    closes (one o e) ps ns ms a k h = (h.0, closes e ps ns ms h.0 k h.1, h.2)
    closes (two o d e) ps ns ms a k h = (h.0, h.1, closes d ps ns ms h.0 k h.2, closes e ps ns ms h.1 k h.3, h.4)
    closes (three o c d e) ps ns ms a k h = (h.0, h.1, h.2, closes c ps ns ms h.0 k h.3, closes d ps ns ms h.1 k h.4, closes e ps ns ms h.2 k h.5, h.6)
    closes (and_of d e) ps ns ms a k h = (closes d ps ns ms ml.bool k h.0, closes e ps ns ms ml.bool k h.1, h.2)
    closes (or_of d e) ps ns ms a k h = (closes d ps ns ms ml.bool k h.0, closes e ps ns ms ml.bool k h.1, h.2)
    closes (if_else c d e) ps ns ms a k h = (closes c ps ns ms ml.bool k h.0, closes d ps ns ms a k h.1, closes e ps ns ms a k h.2)
    closes (match_on p e cs) ps ns ms a k h = (h.0, closes e ps ns ms h.0 k h.1, arms_close cs ps ns ms h.0 a k h.2)
    closes (seq d e) ps ns ms a k h = (h.0, closes d ps ns ms h.0 k h.1, closes e ps ns ms a k h.2)
    closes (assert_false p) ps ns ms a k h = h

    pub all_close : (es : Cores) (ps : Pairs) (ns ms : Names) (ts : MlTypes) → Agrees g t ps ns ms → AllHave g t ns es ts → AllHave g t ms (close_all ps es) ts
    all_close none ps ns ms ts k h = h
    all_close (more e es) ps ns ms ts k h = (h.0, h.1, h.2, closes e ps ns ms h.0 k h.3, all_close es ps ns ms h.1 k h.4)

    pub arms_close : (cs : Arms) (ps : Pairs) (ns ms : Names) (from a : MlType) → Agrees g t ps ns ms → ArmsHave g t ns cs from a → ArmsHave g t ms (close_arms ps cs) from a
    arms_close no_arms ps ns ms from a k h = h
    arms_close (more_arms q e cs) ps ns ms from a k h =
        (h.0, h.1, closes e (without (variables_of q) ps) (h.0 ++ ns) (h.0 ++ ms) a (inside_pattern q from h.0 ps ns ms h.1 k) h.2, arms_close cs ps ns ms from a k h.3)
