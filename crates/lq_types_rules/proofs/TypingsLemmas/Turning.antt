-- The rules of a tree stay where types are put for variables, the same ones at all its nodes and binders.
use Rattle.std.specs.Prelude.{◌==◌, if◌then◌else◌}
use Rattle.std.proofs.Common.{◌≡◌, ℕ, zero, suc, ◌+◌, Bool, true, false, List, [], ◌∷◌, ◌++◌, Some, refl, sym, ap, ap₂, subst, ◌∙◌, append_assoc}
use Rattle.lq_base_names.specs.declared.place.Place.{Place}
use Rattle.lq_text_tree.specs.MlType as ml
use Rattle.lq_text_tree.specs.MlType.{MlType, MlTypes}
use Rattle.lq_text_tree.specs.Pattern.{Pattern, pattern, PatternForm, any, bind, nothing, tuple_of, build_of, Patterns, no_patterns, more_patterns, bound_in, bound_in_form, bound_in_all}
use Rattle.lq_text_tree.specs.Tree as form
use Rattle.lq_text_tree.specs.Tree.{Tree, tree, Form, Trees, no_trees, more_trees, Cases, no_cases, more_cases}
use Rattle.lq_text_tree.specs.TreeView.{Recursive}
use Rattle.lq_text_tree.specs.Types.{Signature, put, put_all, type_at, count_types, Builds, Lists, AreAll, Names, plain, scheme_in, IsUsedAt}
use Rattle.lq_text_tree.specs.TypingRules.{type_in, types_in, last_type, plain_names, PatternIs, PatternFormIs, PatternsAre, FunctionIs, CasesFit, RuleIs, Every, TreeIs, TreesAre, CasesAre}
use Rattle.lq_text_walk.specs.Walk.Fold.{Arm, fold_all, fold_cases}
use Rattle.lq_text_walk.specs.Walk.Visits.{Visit, leave, leave_function, declare, hide, show_name, hide_name, visiting, visits_of, around, under, in_row, in_arms, in_match, in_function, is_let}
use Rattle.lq_text_walk.specs.Scoped.Numbers.{binders_at, numbering, nodes_of, numbers_in, numbers_in_arms}
use Rattle.lq_types_rules.specs.Equations.Rows.{annotation_of}
use Rattle.lq_types_rules.proofs.TypingsLemmas.Lists.{AllOf, all_left, all_right, all_in}
use Rattle.lq_types_rules.proofs.TypingsLemmas.Roots.{root}

-- ---- replacements

mutual
  pub put_put : (a : MlType) (f h : ℕ → MlType) → put h (put f a) ≡ put (λ i. put h (f i)) a
  put_put ml.int f h = refl
  put_put ml.bool f h = refl
  put_put ml.unit f h = refl
  put_put (ml.var i) f h = refl
  put_put (ml.arrow a b) f h = ap₂ ml.arrow (put_put a f h) (put_put b f h)
  put_put (ml.tuple ts) f h = ap ml.tuple (all_put_put ts f h)
  put_put (ml.array a) f h = ap ml.array (put_put a f h)
  put_put (ml.named d ts) f h = ap (ml.named d) (all_put_put ts f h)
  put_put (ml.map_of a) f h = ap ml.map_of (put_put a f h)

  all_put_put : (ts : MlTypes) (f h : ℕ → MlType) → put_all h (put_all f ts) ≡ put_all (λ i. put h (f i)) ts
  all_put_put ml.no_types f h = refl
  all_put_put (ml.more_types t ts) f h = ap₂ ml.more_types (put_put t f h) (all_put_put ts f h)

mutual
  put_same : (a : MlType) (f h : ℕ → MlType) → ((i : ℕ) → f i ≡ h i) → put f a ≡ put h a
  put_same ml.int f h e = refl
  put_same ml.bool f h e = refl
  put_same ml.unit f h e = refl
  put_same (ml.var i) f h e = e i
  put_same (ml.arrow a b) f h e = ap₂ ml.arrow (put_same a f h e) (put_same b f h e)
  put_same (ml.tuple ts) f h e = ap ml.tuple (all_put_same ts f h e)
  put_same (ml.array a) f h e = ap ml.array (put_same a f h e)
  put_same (ml.named d ts) f h e = ap (ml.named d) (all_put_same ts f h e)
  put_same (ml.map_of a) f h e = ap ml.map_of (put_same a f h e)

  all_put_same : (ts : MlTypes) (f h : ℕ → MlType) → ((i : ℕ) → f i ≡ h i) → put_all f ts ≡ put_all h ts
  all_put_same ml.no_types f h e = refl
  all_put_same (ml.more_types t ts) f h e = ap₂ ml.more_types (put_same t f h e) (all_put_same ts f h e)

at_put : (by : ℕ → MlType) (ts : MlTypes) (i : ℕ) → put by (type_at ts i) ≡ type_at (put_all by ts) i
at_put by ml.no_types i = refl
at_put by (ml.more_types t ts) zero = refl
at_put by (ml.more_types t ts) (suc i) = at_put by ts i

count_put : (by : ℕ → MlType) (ts : MlTypes) → count_types (put_all by ts) ≡ count_types ts
count_put by ml.no_types = refl
count_put by (ml.more_types t ts) = ap (λ (k : ℕ). suc k) (count_put by ts)

module _ (g : Signature) (nodes : ℕ) (t u by : ℕ → MlType) where
  builds_turn : (c : ℕ) (ts : MlTypes) (a : MlType) → Builds g c ts a → Builds g c (put_all by ts) (put by a)
  builds_turn c ts a h = (
    h.0,
    put_all by h.1,
    h.2,
    ap (put by) h.3,
    ap (put_all by) h.4 ∙ all_put_put h.0.fields (type_at h.1) by ∙ all_put_same h.0.fields (λ i. put by (type_at h.1 i)) (type_at (put_all by h.1)) (at_put by h.1),
    count_put by h.1 ∙ h.5,
  )

  all_turn : (a : MlType) (ts : MlTypes) → AreAll a ts → AreAll (put by a) (put_all by ts)
  all_turn a ml.no_types h = tt
  all_turn a (ml.more_types b ts) h = (ap (put by) h.0, all_turn a ts h.1)

  lists_turn : (ts : MlTypes) (a : MlType) → Lists ts a → Lists (put_all by ts) (put by a)
  lists_turn ts a h = (put by h.0, ap (put by) h.1, all_turn h.0 ts h.2)

  -- the types of a node, and of a binder, become these
  abbrev pub Same : ℕ → Type 0
  Same k = u k ≡ put by (t k)

  abbrev pub SameBinder : ℕ → Type 0
  SameBinder x = u (nodes + x) ≡ put by (t (nodes + x))

  abbrev pub SameAt : Visit → Type 0
  SameAt v = AllOf SameBinder (binders_at v)

  mutual
    pattern_turn : (q : Pattern) (a : MlType) → AllOf SameBinder (bound_in q) → PatternIs g (annotation_of nodes t) q a
        → PatternIs g (annotation_of nodes u) q (put by a)
    pattern_turn (pattern p f) a s h = pattern_form_turn f a s h

    pattern_form_turn : (f : PatternForm) (a : MlType) → AllOf SameBinder (bound_in_form f) → PatternFormIs g (annotation_of nodes t) f a
        → PatternFormIs g (annotation_of nodes u) f (put by a)
    pattern_form_turn any a s h = tt
    pattern_form_turn (bind x) a s h = s.0 ∙ ap (put by) h
    pattern_form_turn nothing a s h = ap (put by) h
    pattern_form_turn (tuple_of qs) a s h = (put_all by h.0, ap (put by) h.1, patterns_turn qs h.0 s h.2)
    pattern_form_turn (build_of c p qs) a s h = (put_all by h.0, builds_turn c h.0 a h.1, patterns_turn qs h.0 s h.2)

    patterns_turn : (qs : Patterns) (ts : MlTypes) → AllOf SameBinder (bound_in_all qs) → PatternsAre g (annotation_of nodes t) qs ts
        → PatternsAre g (annotation_of nodes u) qs (put_all by ts)
    patterns_turn no_patterns ts s h = ap (put_all by) h
    patterns_turn (more_patterns q qs) ts s h = (
      put by h.0,
      put_all by h.1,
      ap (put_all by) h.2,
      pattern_turn q h.0 (all_left SameBinder (bound_in q) (bound_in_all qs) s) h.3,
      patterns_turn qs h.1 (all_right SameBinder (bound_in q) (bound_in_all qs) s) h.4,
    )

  -- what names allow they allow where the types are put
  abbrev pub Agree : Names → Names → Type 0
  Agree ns ms = (x : ℕ) (a : MlType) → IsUsedAt (scheme_in ns x) a → IsUsedAt (scheme_in ms x) (put by a)

  pub at_tree : (e : Tree) → AllOf Same (nodes_of e) → type_in (annotation_of nodes u) e ≡ put by (type_in (annotation_of nodes t) e)
  at_tree (tree i p f) h = root Same (tree i p f) h

  at_trees : (es : Trees) → AllOf Same (numbers_in (fold_all numbering es))
      → types_in (annotation_of nodes u) es ≡ put_all by (types_in (annotation_of nodes t) es)
  at_trees no_trees h = refl
  at_trees (more_trees e es) h =
      let more_of = numbers_in (fold_all numbering es) in
      ap₂ ml.more_types (at_tree e (all_left Same (nodes_of e) more_of h)) (at_trees es (all_right Same (nodes_of e) more_of h))

  at_last : (e : Tree) (es : Trees) → AllOf Same (numbers_in (fold_all numbering (more_trees e es)))
      → last_type (annotation_of nodes u) e es ≡ put by (last_type (annotation_of nodes t) e es)
  at_last e no_trees h = at_tree e (all_left Same (nodes_of e) [] h)
  at_last e (more_trees d es) h = at_last d es (all_right Same (nodes_of e) (numbers_in (fold_all numbering (more_trees d es))) h)

  cases_fit : (cs : Cases) (from a : MlType) → AllOf Same (numbers_in_arms (fold_cases numbering cs))
      → AllOf SameAt (in_arms (fold_cases visiting cs))
      → CasesFit g (annotation_of nodes t) cs from a → CasesFit g (annotation_of nodes u) cs (put by from) (put by a)
  cases_fit no_cases from a s v h = tt
  cases_fit (more_cases q e cs) from a s v h =
      let more_of = numbers_in_arms (fold_cases numbering cs) in (
        pattern_turn q from v.0 h.0,
        at_tree e (all_left Same (nodes_of e) more_of s) ∙ ap (put by) h.1,
        cases_fit cs from a (all_right Same (nodes_of e) more_of s) (all_right SameAt (under q (visits_of e)) (in_arms (fold_cases visiting cs)) v.1) h.2,
      )

  -- ---- shapes

  pub record Turns (A B : Names → Type 0) (ks : List ℕ) (us : List Visit) : Type 0 where
    pub turn : (ns ms : Names) → Agree ns ms → AllOf Same ks → AllOf SameAt us → A ns → B ms

  none_turn : Turns (λ ns. Unit {0}) (λ ns. Unit {0}) [] []
  none_turn = record { turn = λ ns ms agree s v h. tt }

  pair_turn : {A B C D : Names → Type 0} {ks ls : List ℕ} {us ws : List Visit} → Turns A B ks us → Turns C D ls ws
      → Turns (λ ns. A ns × C ns) (λ ns. B ns × D ns) (ks ++ ls) (us ++ ws)
  pair_turn {ks = ks} {ls = ls} {us = us} {ws = ws} a b = record {
    turn = λ ns ms agree s v h.
        (a.turn ns ms agree (all_left Same ks ls s) (all_left SameAt us ws v) h.0, b.turn ns ms agree (all_right Same ks ls s) (all_right SameAt us ws v) h.1);
  }

  triple_turn : {A B C D E F : Names → Type 0} {ks ls js : List ℕ} {us ws xs : List Visit} → Turns A B ks us → Turns C D ls ws → Turns E F js xs
      → Turns (λ ns. A ns × C ns × E ns) (λ ns. B ns × D ns × F ns) (ks ++ (ls ++ js)) (us ++ (ws ++ xs))
  triple_turn a b c = let all = pair_turn a (pair_turn b c) in record {
    turn = λ ns ms agree s v h. let out = all.turn ns ms agree s v (h.0, (h.1, h.2)) in (out.0, out.1.0, out.1.1);
  }

  at_one : (x y : ℕ) (ns ms : Names) (a b c : MlType) (w : Bool) → b ≡ put by a → Agree ns ms
      → IsUsedAt (if w then Some (plain a) else scheme_in ns y) c
      → IsUsedAt (if w then Some (plain b) else scheme_in ms y) (put by c)
  at_one x y ns ms a b c true e agree h = ap (put by) h ∙ sym e
  at_one x y ns ms a b c false e agree h = agree y c h

  agree_one : (x : ℕ) (ns ms : Names) (a b : MlType) → b ≡ put by a → Agree ns ms → Agree ((x, plain a) ∷ ns) ((x, plain b) ∷ ms)
  agree_one x ns ms a b e agree y c h = at_one x y ns ms a b c (x == y) e agree h

  agree_many : (xs : List ℕ) (ns ms : Names) → AllOf SameBinder xs → Agree ns ms
      → Agree (plain_names (annotation_of nodes t) xs ++ ns) (plain_names (annotation_of nodes u) xs ++ ms)
  agree_many [] ns ms s agree = agree
  agree_many (x ∷ xs) ns ms s agree =
      agree_one x (plain_names (annotation_of nodes t) xs ++ ns) (plain_names (annotation_of nodes u) xs ++ ms) (t (nodes + x)) (u (nodes + x)) s.0 (agree_many xs ns ms s.1 agree)

  let_turn : {A B C D : Names → Type 0} {ks ls : List ℕ} {us ws : List Visit} (q : Pattern) → Turns A B ks us → Turns C D ls ws
      → Turns (λ ns. A ns × C (plain_names (annotation_of nodes t) (bound_in q) ++ ns)) (λ ns. B ns × D (plain_names (annotation_of nodes u) (bound_in q) ++ ns)) (ks ++ ls) (declare q ∷ (us ++ under q ws))
  let_turn {ks = ks} {ls = ls} {us = us} {ws = ws} q a b = record {
    turn = λ ns ms agree s v h.
        let inside = all_left SameAt ws (hide q ∷ []) (all_right SameAt us (under q ws) v.1).1 in (
          a.turn ns ms agree (all_left Same ks ls s) (all_left SameAt us (under q ws) v.1) h.0,
          b.turn (plain_names (annotation_of nodes t) (bound_in q) ++ ns) (plain_names (annotation_of nodes u) (bound_in q) ++ ms) (agree_many (bound_in q) ns ms v.0 agree) (all_right Same ks ls s) inside h.1,
        );
  }

  function_turn : {C D : Names → Type 0} {ls : List ℕ} {ws : List Visit} (q : Pattern) → Turns C D ls ws
      → Turns (λ ns. C (plain_names (annotation_of nodes t) (bound_in q) ++ ns)) (λ ns. D (plain_names (annotation_of nodes u) (bound_in q) ++ ns)) ls (declare q ∷ under q ws)
  function_turn q b = let both = let_turn q none_turn b in record { turn = λ ns ms agree s v h. (both.turn ns ms agree s v (tt, h)).1 }

  pub named_turn : {A B : Names → Type 0} {ks : List ℕ} {us : List Visit} (f : ℕ) → Turns A B ks us
      → Turns (λ ns. A ((f, plain (t (nodes + f))) ∷ ns)) (λ ns. B ((f, plain (u (nodes + f))) ∷ ns)) ks (show_name f ∷ us)
  named_turn f a = record {
    turn = λ ns ms agree s v h.
        a.turn ((f, plain (t (nodes + f))) ∷ ns) ((f, plain (u (nodes + f))) ∷ ms) (agree_one f ns ms (t (nodes + f)) (u (nodes + f)) v.0.0 agree) s v.1 h;
  }

  ended_turn : {A B : Names → Type 0} {ks : List ℕ} {us : List Visit} (v : Visit) → Turns A B ks us → Turns A B ks (us ++ v ∷ [])
  ended_turn {us = us} v a = record { turn = λ ns ms agree s w h. a.turn ns ms agree s (all_left SameAt us (v ∷ []) w) h }

  -- ---- rules of nodes

  only_of : (e : Tree) (i : ℕ) → AllOf Same (nodes_of e ++ i ∷ []) → type_in (annotation_of nodes u) e ≡ put by (type_in (annotation_of nodes t) e)
  only_of e i s = at_tree e (all_left Same (nodes_of e) (i ∷ []) s)

  first_of : (d e : Tree) (i : ℕ) → AllOf Same ((nodes_of d ++ nodes_of e) ++ i ∷ [])
      → type_in (annotation_of nodes u) d ≡ put by (type_in (annotation_of nodes t) d)
  first_of d e i s = at_tree d (all_left Same (nodes_of d) (nodes_of e) (all_left Same (nodes_of d ++ nodes_of e) (i ∷ []) s))

  second_of : (d e : Tree) (i : ℕ) → AllOf Same ((nodes_of d ++ nodes_of e) ++ i ∷ [])
      → type_in (annotation_of nodes u) e ≡ put by (type_in (annotation_of nodes t) e)
  second_of d e i s = at_tree e (all_right Same (nodes_of d) (nodes_of e) (all_left Same (nodes_of d ++ nodes_of e) (i ∷ []) s))

  abbrev Three : Tree → Tree → Tree → ℕ → Type 0
  Three c d e i = AllOf Same ((nodes_of c ++ (nodes_of d ++ nodes_of e)) ++ i ∷ [])

  three_of : (c d e : Tree) (i : ℕ) → Three c d e i
      → (type_in (annotation_of nodes u) c ≡ put by (type_in (annotation_of nodes t) c)) × (type_in (annotation_of nodes u) d ≡ put by (type_in (annotation_of nodes t) d))
      × (type_in (annotation_of nodes u) e ≡ put by (type_in (annotation_of nodes t) e))
  three_of c d e i s =
      let all = all_left Same (nodes_of c ++ (nodes_of d ++ nodes_of e)) (i ∷ []) s in let rest = all_right Same (nodes_of c) (nodes_of d ++ nodes_of e) all in
      (at_tree c (all_left Same (nodes_of c) (nodes_of d ++ nodes_of e) all), at_tree d (all_left Same (nodes_of d) (nodes_of e) rest), at_tree e (all_right Same (nodes_of d) (nodes_of e) rest))

  row_of : (es : Trees) (i : ℕ) → AllOf Same (numbers_in (fold_all numbering es) ++ i ∷ [])
      → types_in (annotation_of nodes u) es ≡ put_all by (types_in (annotation_of nodes t) es)
  row_of es i s = at_trees es (all_left Same (numbers_in (fold_all numbering es)) (i ∷ []) s)

  match_all : (w : Bool) (us : List Visit) (as_ : List (Arm (List Visit))) → AllOf SameAt (in_match w us as_) → AllOf SameAt (us ++ in_arms as_)
  match_all false us as_ h = h
  match_all true us [] h = h
  match_all true us (a ∷ as_) h = all_in SameAt (declare a.pattern) us (under a.pattern a.body ++ in_arms as_) h

  abbrev RuleTurns : ℕ → Place → Form → Type 0
  RuleTurns i p f = (ns ms : Names) → Agree ns ms → Same i → AllOf Same (nodes_of (tree i p f)) → AllOf SameAt (visits_of (tree i p f))
      → RuleIs g (annotation_of nodes t) ns f (t i) → RuleIs g (annotation_of nodes u) ms f (u i)

  rule_turn : (i : ℕ) (p : Place) (f : Form) → RuleTurns i p f
  rule_turn i p (form.whole m) ns ms agree o s v h = o ∙ ap (put by) h
  rule_turn i p (form.flag b) ns ms agree o s v h = o ∙ ap (put by) h
  rule_turn i p form.unit ns ms agree o s v h = o ∙ ap (put by) h
  rule_turn i p (form.use_of x) ns ms agree o s v h = subst (λ a. IsUsedAt (scheme_in ms x) a) (sym o) (agree x (t i) h)
  rule_turn i p (form.qualified m x) ns ms agree o s v h = h
  rule_turn i p (form.fun q b) ns ms agree o s v h =
      (put by h.0, o ∙ ap (put by) h.1 ∙ ap (λ (a : MlType). ml.arrow (put by h.0) a) (sym (only_of b i s)), pattern_turn q h.0 v.1.0 h.2)
  rule_turn i p (form.tuple es) ns ms agree o s v h = o ∙ ap (put by) h ∙ ap ml.tuple (sym (row_of es i s))
  rule_turn i p (form.build c w es) ns ms agree o s v h =
      subst (λ ts. Builds g c ts (u i)) (sym (row_of es i s)) (subst (λ a. Builds g c (put_all by (types_in (annotation_of nodes t) es)) a) (sym o) (builds_turn c (types_in (annotation_of nodes t) es) (t i) h))
  rule_turn i p (form.list_of es) ns ms agree o s v h =
      subst (λ ts. Lists ts (u i)) (sym (row_of es i s)) (subst (λ a. Lists (put_all by (types_in (annotation_of nodes t) es)) a) (sym o) (lists_turn (types_in (annotation_of nodes t) es) (t i) h))
  rule_turn i p (form.let_in q e b) ns ms agree o s v h =
      (o ∙ ap (put by) h.0 ∙ sym (second_of e b i s), subst (λ a. PatternIs g (annotation_of nodes u) q a) (sym (first_of e b i s)) (pattern_turn q (type_in (annotation_of nodes t) e) v.1.0 h.1))
  rule_turn i p (form.let_rec f j r q b e) ns ms agree o s v h =
      let rest = all_right Same (nodes_of b) (j ∷ nodes_of e) (all_left Same (nodes_of b ++ (j ∷ nodes_of e)) (i ∷ []) s) in
      (o ∙ ap (put by) h.0 ∙ sym (at_tree e rest.1), rest.0 ∙ ap (put by) h.1 ∙ sym v.1.0.0)
  rule_turn i p (form.call d e) ns ms agree o s v h = first_of d e i s ∙ ap (put by) h ∙ ap₂ ml.arrow (sym (second_of d e i s)) (sym o)
  rule_turn i p (form.arithmetic k d e) ns ms agree o s v h = (first_of d e i s ∙ ap (put by) h.0, second_of d e i s ∙ ap (put by) h.1, o ∙ ap (put by) h.2)
  rule_turn i p (form.negated e) ns ms agree o s v h = (only_of e i s ∙ ap (put by) h.0, o ∙ ap (put by) h.1)
  rule_turn i p (form.compare k d e) ns ms agree o s v h = (first_of d e i s ∙ ap (put by) h.0, second_of d e i s ∙ ap (put by) h.1, o ∙ ap (put by) h.2)
  rule_turn i p (form.not_of e) ns ms agree o s v h = (only_of e i s ∙ ap (put by) h.0, o ∙ ap (put by) h.1)
  rule_turn i p (form.and_of d e) ns ms agree o s v h = (first_of d e i s ∙ ap (put by) h.0, second_of d e i s ∙ ap (put by) h.1, o ∙ ap (put by) h.2)
  rule_turn i p (form.or_of d e) ns ms agree o s v h = (first_of d e i s ∙ ap (put by) h.0, second_of d e i s ∙ ap (put by) h.1, o ∙ ap (put by) h.2)
  rule_turn i p (form.if_else c d e) ns ms agree o s v h =
      let all = three_of c d e i s in (all.0 ∙ ap (put by) h.0, all.1 ∙ ap (put by) h.1 ∙ sym o, all.2 ∙ ap (put by) h.2 ∙ sym o)
  rule_turn i p (form.match_on e cs) ns ms agree o s v h =
      let arms = numbers_in_arms (fold_cases numbering cs) in let inside = all_left Same (nodes_of e ++ arms) (i ∷ []) s in
      let us = in_match (is_let (tree i p (form.match_on e cs))) (visits_of e) (fold_cases visiting cs) in
      let shown = match_all (is_let (tree i p (form.match_on e cs))) (visits_of e) (fold_cases visiting cs) (all_left SameAt us (leave (tree i p (form.match_on e cs)) ∷ []) v.1) in
      subst (λ a. CasesFit g (annotation_of nodes u) cs a (u i)) (sym (at_tree e (all_left Same (nodes_of e) arms inside)))
      (subst (λ a. CasesFit g (annotation_of nodes u) cs (put by (type_in (annotation_of nodes t) e)) a) (sym o)
      (cases_fit cs (type_in (annotation_of nodes t) e) (t i) (all_right Same (nodes_of e) arms inside) (all_right SameAt (visits_of e) (in_arms (fold_cases visiting cs)) shown) h))
  rule_turn i p (form.chain no_trees) ns ms agree o s v h = o ∙ ap (put by) h
  rule_turn i p (form.chain (more_trees e es)) ns ms agree o s v h =
      o ∙ ap (put by) h ∙ sym (at_last e es (all_left Same (numbers_in (fold_all numbering (more_trees e es))) (i ∷ []) s))
  rule_turn i p (form.assert e) ns ms agree o s v h = (only_of e i s ∙ ap (put by) h.0, o ∙ ap (put by) h.1)
  rule_turn i p form.assert_false ns ms agree o s v h = tt
  rule_turn i p (form.make d e) ns ms agree o s v h = (first_of d e i s ∙ ap (put by) h.0, o ∙ ap (put by) h.1 ∙ ap ml.array (sym (second_of d e i s)))
  rule_turn i p (form.length_of e) ns ms agree o s v h = (put by h.0, only_of e i s ∙ ap (put by) h.1, o ∙ ap (put by) h.2)
  rule_turn i p (form.fetch d e) ns ms agree o s v h = (first_of d e i s ∙ ap (put by) h.0 ∙ ap ml.array (sym o), second_of d e i s ∙ ap (put by) h.1)
  rule_turn i p (form.store c d e) ns ms agree o s v h =
      let all = three_of c d e i s in (all.0 ∙ ap (put by) h.0 ∙ ap ml.array (sym all.2), all.1 ∙ ap (put by) h.1, o ∙ ap (put by) h.2)
  rule_turn i p (form.print e) ns ms agree o s v h = (only_of e i s ∙ ap (put by) h.0, o ∙ ap (put by) h.1)
  rule_turn i p (form.read e) ns ms agree o s v h = (only_of e i s ∙ ap (put by) h.0, o ∙ ap (put by) h.1)
  rule_turn i p form.map_empty ns ms agree o s v h = h
  rule_turn i p (form.map_add c d e) ns ms agree o s v h = h
  rule_turn i p (form.map_find d e) ns ms agree o s v h = h

  -- ---- trees

  with_rule : {A B : Names → Type 0} {ks : List ℕ} {us : List Visit} (i : ℕ) (p : Place) (f : Form) → nodes_of (tree i p f) ≡ ks ++ i ∷ []
      → visits_of (tree i p f) ≡ around (tree i p f) us
      → Turns A B ks us → Turns (λ ns. (Every i → RuleIs g (annotation_of nodes t) ns f (t i)) × A ns) (λ ns. (Every i → RuleIs g (annotation_of nodes u) ns f (u i)) × B ns)
      (nodes_of (tree i p f)) (visits_of (tree i p f))
  with_rule {ks = ks} {us = us} i p f listed visited a = record {
    turn = λ ns ms agree s v h. (
      λ w. rule_turn i p f ns ms agree (root Same (tree i p f) s) s v (h.0 w),
      a.turn ns ms agree (all_left Same ks (i ∷ []) (subst (AllOf Same) listed s)) (all_left SameAt us (leave (tree i p f) ∷ []) (subst (AllOf SameAt) visited v).1) h.1,
    );
  }

  abbrev pub TreeTurns : Tree → Type 0
  TreeTurns e = Turns (λ ns. TreeIs g (annotation_of nodes t) Every ns e) (λ ns. TreeIs g (annotation_of nodes u) Every ns e) (nodes_of e) (visits_of e)

  function_is : (q : Pattern) (b : Tree) (j : ℕ) → Same j → AllOf Same (nodes_of b) → AllOf SameBinder (bound_in q)
      → FunctionIs g (annotation_of nodes t) q b (t j)
      → FunctionIs g (annotation_of nodes u) q b (u j)
  function_is q b j o s v h = (put by h.0, o ∙ ap (put by) h.1 ∙ ap (λ (a : MlType). ml.arrow (put by h.0) a) (sym (at_tree b s)), pattern_turn q h.0 v h.2)

  pub body_turn : (r : Recursive) → TreeTurns r.body
      → Turns (λ ns. (Every r.id → FunctionIs g (annotation_of nodes t) r.parameter r.body (t r.id)) × TreeIs g (annotation_of nodes t) Every (plain_names (annotation_of nodes t) (bound_in r.parameter) ++ ns) r.body)
      (λ ns. (Every r.id → FunctionIs g (annotation_of nodes u) r.parameter r.body (u r.id)) × TreeIs g (annotation_of nodes u) Every (plain_names (annotation_of nodes u) (bound_in r.parameter) ++ ns) r.body)
      (nodes_of r.body ++ r.id ∷ []) (in_function r (visits_of r.body))
  body_turn r b = record {
    turn = λ ns ms agree s v h.
        let inside = all_left Same (nodes_of r.body) (r.id ∷ []) s in (
          λ w. function_is r.parameter r.body r.id (all_right Same (nodes_of r.body) (r.id ∷ []) s).0 inside v.0 (h.0 w),
          (function_turn r.parameter b).turn ns ms agree inside (all_left SameAt (declare r.parameter ∷ under r.parameter (visits_of r.body)) (leave_function r ∷ []) v) h.1,
        );
  }

  rec_turn : (f j : ℕ) (r : Place) (q : Pattern) (b e : Tree) → TreeTurns b → TreeTurns e
      → Turns (λ ns. (Every j → FunctionIs g (annotation_of nodes t) q b (t j)) × TreeIs g (annotation_of nodes t) Every (plain_names (annotation_of nodes t) (bound_in q) ++ (f, plain (t (nodes + f))) ∷ ns) b
      × TreeIs g (annotation_of nodes t) Every ((f, plain (t (nodes + f))) ∷ ns) e)
      (λ ns. (Every j → FunctionIs g (annotation_of nodes u) q b (u j)) × TreeIs g (annotation_of nodes u) Every (plain_names (annotation_of nodes u) (bound_in q) ++ (f, plain (u (nodes + f))) ∷ ns) b
      × TreeIs g (annotation_of nodes u) Every ((f, plain (u (nodes + f))) ∷ ns) e)
      (nodes_of b ++ (j ∷ nodes_of e)) (show_name f ∷ (in_function (record { id = j; place = r; parameter = q; body = b }) (visits_of b) ++ (visits_of e ++ hide_name f ∷ [])))
  rec_turn f j r q b e tb te =
      let both = named_turn f (pair_turn (body_turn (record { id = j; place = r; parameter = q; body = b }) tb) (ended_turn (hide_name f) te)) in
      record {
        turn = λ ns ms agree s v h.
            let out = both.turn ns ms agree (subst (AllOf Same) (sym (append_assoc (nodes_of b) (j ∷ []) (nodes_of e))) s) v ((h.0, h.1), h.2) in
            (out.0.0, out.0.1, out.1);
      }

  match_turn : {A B : Names → Type 0} {ks : List ℕ} (w : Bool) (us : List Visit) (as_ : List (Arm (List Visit))) → Turns A B ks (us ++ in_arms as_)
      → Turns A B ks (in_match w us as_)
  match_turn w us as_ a = record { turn = λ ns ms agree s v h. a.turn ns ms agree s (match_all w us as_ v) h }

  mutual
    pub tree_turn : (e : Tree) → TreeTurns e
    tree_turn (tree i p f) = form_turn i p f

    form_turn : (i : ℕ) (p : Place) (f : Form) → TreeTurns (tree i p f)
    form_turn i p (form.whole m) = with_rule i p (form.whole m) refl refl none_turn
    form_turn i p (form.flag b) = with_rule i p (form.flag b) refl refl none_turn
    form_turn i p form.unit = with_rule i p form.unit refl refl none_turn
    form_turn i p (form.use_of x) = with_rule i p (form.use_of x) refl refl none_turn
    form_turn i p (form.qualified m x) = with_rule i p (form.qualified m x) refl refl none_turn
    form_turn i p (form.fun q b) = with_rule i p (form.fun q b) refl refl (function_turn q (tree_turn b))
    form_turn i p (form.tuple es) = with_rule i p (form.tuple es) refl refl (row_turn es)
    form_turn i p (form.build c w es) = with_rule i p (form.build c w es) refl refl (row_turn es)
    form_turn i p (form.list_of es) = with_rule i p (form.list_of es) refl refl (row_turn es)
    form_turn i p (form.let_in q e b) = with_rule i p (form.let_in q e b) refl refl (let_turn q (tree_turn e) (tree_turn b))
    form_turn i p (form.let_rec f j r q b e) = with_rule i p (form.let_rec f j r q b e) refl refl (rec_turn f j r q b e (tree_turn b) (tree_turn e))
    form_turn i p (form.call d e) = with_rule i p (form.call d e) refl refl (pair_turn (tree_turn d) (tree_turn e))
    form_turn i p (form.arithmetic k d e) = with_rule i p (form.arithmetic k d e) refl refl (pair_turn (tree_turn d) (tree_turn e))
    form_turn i p (form.negated e) = with_rule i p (form.negated e) refl refl (tree_turn e)
    form_turn i p (form.compare k d e) = with_rule i p (form.compare k d e) refl refl (pair_turn (tree_turn d) (tree_turn e))
    form_turn i p (form.not_of e) = with_rule i p (form.not_of e) refl refl (tree_turn e)
    form_turn i p (form.and_of d e) = with_rule i p (form.and_of d e) refl refl (pair_turn (tree_turn d) (tree_turn e))
    form_turn i p (form.or_of d e) = with_rule i p (form.or_of d e) refl refl (pair_turn (tree_turn d) (tree_turn e))
    form_turn i p (form.if_else c d e) = with_rule i p (form.if_else c d e) refl refl (triple_turn (tree_turn c) (tree_turn d) (tree_turn e))
    form_turn i p (form.match_on e cs) =
        with_rule i p (form.match_on e cs) refl refl (match_turn (is_let (tree i p (form.match_on e cs))) (visits_of e) (fold_cases visiting cs) (pair_turn (tree_turn e) (cases_turn cs)))
    form_turn i p (form.chain es) = with_rule i p (form.chain es) refl refl (row_turn es)
    form_turn i p (form.assert e) = with_rule i p (form.assert e) refl refl (tree_turn e)
    form_turn i p form.assert_false = with_rule i p form.assert_false refl refl none_turn
    form_turn i p (form.make d e) = with_rule i p (form.make d e) refl refl (pair_turn (tree_turn d) (tree_turn e))
    form_turn i p (form.length_of e) = with_rule i p (form.length_of e) refl refl (tree_turn e)
    form_turn i p (form.fetch d e) = with_rule i p (form.fetch d e) refl refl (pair_turn (tree_turn d) (tree_turn e))
    form_turn i p (form.store c d e) = with_rule i p (form.store c d e) refl refl (triple_turn (tree_turn c) (tree_turn d) (tree_turn e))
    form_turn i p (form.print e) = with_rule i p (form.print e) refl refl (tree_turn e)
    form_turn i p (form.read e) = with_rule i p (form.read e) refl refl (tree_turn e)
    form_turn i p form.map_empty = with_rule i p form.map_empty refl refl none_turn
    form_turn i p (form.map_add c d e) = with_rule i p (form.map_add c d e) refl refl (triple_turn (tree_turn c) (tree_turn d) (tree_turn e))
    form_turn i p (form.map_find d e) = with_rule i p (form.map_find d e) refl refl (pair_turn (tree_turn d) (tree_turn e))

    row_turn : (es : Trees) → Turns (λ ns. TreesAre g (annotation_of nodes t) Every ns es) (λ ns. TreesAre g (annotation_of nodes u) Every ns es) (numbers_in (fold_all numbering es)) (in_row (fold_all visiting es))
    row_turn no_trees = none_turn
    row_turn (more_trees e es) = pair_turn (tree_turn e) (row_turn es)

    cases_turn : (cs : Cases)
        → Turns (λ ns. CasesAre g (annotation_of nodes t) Every ns cs) (λ ns. CasesAre g (annotation_of nodes u) Every ns cs) (numbers_in_arms (fold_cases numbering cs)) (in_arms (fold_cases visiting cs))
    cases_turn no_cases = none_turn
    cases_turn (more_cases q e cs) = pair_turn (function_turn q (tree_turn e)) (cases_turn cs)
