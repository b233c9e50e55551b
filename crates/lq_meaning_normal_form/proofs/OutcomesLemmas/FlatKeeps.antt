-- Flattening keeps what an expression means, where it keeps what calls come to.
use Rattle.std.proofs.Common.{◌≡◌, ℕ, zero, suc, Bool, true, false, ◌==◌, ◌||◌, List, [], ◌∷◌, ◌++◌, refl, sym, ap, ap₂, subst, ◌∙◌, append_assoc}
use Rattle.std.specs.List.{list_any}
use Rattle.std.proofs.lemmas.List.Folds.{list_any-append}
use Rattle.lq_base_names.specs.declared.place.Place.{Place}
use Rattle.lq_text_tree.specs.Pattern as source
use Rattle.lq_text_tree.specs.Pattern.{Pattern, bound_in, bound_in_all}
use Rattle.lq_text_tree.specs.Tree as form
use Rattle.lq_text_tree.specs.Tree.{Tree, tree, Form, Trees, no_trees, more_trees, Cases, no_cases, more_cases}
use Rattle.lq_meaning_steps.specs.Model.Core as core
use Rattle.lq_meaning_steps.specs.Model.Core.{variables_of, variables_of_all, Parameter, Ternary, store, Operation, negate, invert, assert, length_of, print, read, Binary, arithmetic, comparison, make, fetch, Row, tuple, build, list_of, Core, one, two, Value, v_whole, v_unit, v_flag, v_fun, v_rec, Values, more_values, Pairs, value_in, without, close, row_value}
use Rattle.lq_meaning_steps.specs.Model.Operations.{World, unary_act, binary_act, ternary_act}
use Rattle.lq_meaning_steps.specs.Model.Meaning.{Answer, comes, and_then, acts, on_truth, choose, with_parameter, eval, eval_all, eval_arms, call_meaning, meaning}
use Rattle.lq_meaning_steps.specs.Model.FromTree.{pattern_of, patterns_of, parameter_of, arithmetic_at, core_of, core_form, cores_of, rest_of, arms_of}
use Rattle.lq_meaning_steps.specs.Model.Laws.{ArePairsOf}
use Rattle.lq_meaning_normal_form.specs.Outcomes.Alike.{Alike, alike_whole, alike_flag, alike_unit, alike_fun, alike_rec, AllAlike, none_alike, more_alike, AlikePairs, both_have, AlikeWorlds, alike_answers}
use Rattle.lq_meaning_normal_form.specs.Outcomes.Flattening.{Let, let_one, let_function, FlatBlock, as_tree, alone, flat, flat_form, flat_all, flat_cases, flattened, let_names}
use Rattle.lq_meaning_normal_form.specs.Outcomes.Flattened.{also, Clear, ClearForm, ClearAll, ClearCases, IsFlattened, FlatteningKeeps}
use Rattle.lq_meaning_normal_form.proofs.OutcomesLemmas.Alikes.{then_then, then_self, then_alike, truth_alike, choose_alike, unary_alike, binary_alike, ternary_alike, row_alike, use_alike}
use Rattle.lq_meaning_normal_form.proofs.OutcomesLemmas.Patterns.{self_is}
use Rattle.lq_meaning_normal_form.proofs.OutcomesLemmas.Flat.{Within, hidden_too, wider, drop_one, drop_pairs, parameter_both, arm_both, parameter_then, let_all, put_means, let_append, let_after}
use Rattle.lq_meaning_normal_form.proofs.OutcomesLemmas.Calls.{Environments, fun_means, rec_means}

-- ---- the names of a parameter

mutual
  pattern_names : (q : Pattern) → variables_of (pattern_of q) ≡ bound_in q
  pattern_names (source.pattern p source.any) = refl
  pattern_names (source.pattern p (source.bind x)) = refl
  pattern_names (source.pattern p source.nothing) = refl
  pattern_names (source.pattern p (source.tuple_of qs)) = patterns_names qs
  pattern_names (source.pattern p (source.build_of c n qs)) = patterns_names qs

  patterns_names : (qs : source.Patterns) → variables_of_all (patterns_of qs) ≡ bound_in_all qs
  patterns_names source.no_patterns = refl
  patterns_names (source.more_patterns q qs) = ap₂ (λ a b. a ++ b) (pattern_names q) (patterns_names qs)

parameter_names : (q : Pattern) → core.bound_in (parameter_of q) ≡ bound_in q
parameter_names (source.pattern p source.any) = refl
parameter_names (source.pattern p (source.bind x)) = refl
parameter_names (source.pattern p source.nothing) = refl
parameter_names (source.pattern p (source.tuple_of qs)) = patterns_names qs
parameter_names (source.pattern p (source.build_of c n qs)) = patterns_names qs

-- ---- names

any_append : (xs ys : List ℕ) (k : ℕ) → list_any (λ y. y == k) (xs ++ ys) ≡ (list_any (λ y. y == k) xs || list_any (λ y. y == k) ys)
any_append xs ys k = list_any-append (λ y. y == k) xs ys

three : (a b c h : Bool) → (c || (a || h)) ≡ true → ((a || (b || c)) || h) ≡ true
three true b c h e = refl
three false true c h e = refl
three false false true h e = refl
three false false false h e = e

middle : (a b c h : Bool) → b ≡ true → ((a || (b || c)) || h) ≡ true
middle true b c h e = refl
middle false true c h e = refl
middle false false c h e = cc

spread : (xs ys zs : List ℕ) (hidden : ℕ → Bool) (k : ℕ)
    → also (xs ++ (ys ++ zs)) hidden k ≡ ((list_any (λ y. y == k) xs || (list_any (λ y. y == k) ys || list_any (λ y. y == k) zs)) || hidden k)
spread xs ys zs hidden k =
    ap (λ b. b || hidden k) (any_append xs (ys ++ zs) k ∙ ap (λ b. list_any (λ y. y == k) xs || b) (any_append ys zs k))

in_all : (xs ys zs : List ℕ) (hidden : ℕ → Bool) → Within (also zs (also xs hidden)) (also (xs ++ (ys ++ zs)) hidden)
in_all xs ys zs hidden k is =
    spread xs ys zs hidden k ∙ three (list_any (λ y. y == k) xs) (list_any (λ y. y == k) ys) (list_any (λ y. y == k) zs) (hidden k) is

in_middle : (xs ys zs : List ℕ) (hidden : ℕ → Bool) (k : ℕ) → list_any (λ y. y == k) ys ≡ true → also (xs ++ (ys ++ zs)) hidden k ≡ true
in_middle xs ys zs hidden k is =
    spread xs ys zs hidden k ∙ middle (list_any (λ y. y == k) xs) (list_any (λ y. y == k) ys) (list_any (λ y. y == k) zs) (hidden k) is

extra : (a b h : Bool) → (b || h) ≡ true → ((a || b) || h) ≡ true
extra true b h e = refl
extra false b h e = e

one_wider : (f : ℕ) (names : List ℕ) (hidden : ℕ → Bool) → Within (also names hidden) (also (f ∷ names) hidden)
one_wider f names hidden k is = extra (f == k) (list_any (λ y. y == k) names) (hidden k) is

one_named : (f : ℕ) (names : List ℕ) (hidden : ℕ → Bool) → also (f ∷ names) hidden f ≡ true
one_named f names hidden = ap (λ b. (b || list_any (λ y. y == f) names) || hidden f) (self_is f)

pub names_append : (ls ms : List Let) → let_names (ls ++ ms) ≡ let_names ls ++ let_names ms
names_append [] ms = refl
names_append (let_one i p q e ∷ ls) ms = ap (λ l. bound_in q ++ l) (names_append ls ms) ∙ sym (append_assoc (bound_in q) (let_names ls) (let_names ms))
names_append (let_function i p f j m q e ∷ ls) ms = ap (λ l. f ∷ l) (names_append ls ms)

abbrev Af : Value → Value → Type 0
Af = Alike IsFlattened

abbrev Wf : World → World → Type 0
Wf = AlikeWorlds IsFlattened

abbrev Pf : (ℕ → Bool) → Pairs → Pairs → Type 0
Pf = AlikePairs IsFlattened

abbrev Rf : Answer → Answer → Type 0
Rf = alike_answers IsFlattened

abbrev pub CallsKeepFlat : (Value → Value → World → Answer) → Type 0
CallsKeepFlat called = (f g v u : Value) (w t : World) → Alike IsFlattened f g → Alike IsFlattened v u → AlikeWorlds IsFlattened w t → alike_answers IsFlattened (called f v w) (called g u t)

module _ (laws : Environments) (called : Value → Value → World → Answer) (calls : CallsKeepFlat called) where
  -- the lets and the last expression of a block, whatever follows
  abbrev FlatKeeps : (ℕ → Bool) → FlatBlock → Core → Pairs → Pairs → Type 0
  FlatKeeps hidden B e d g =
      (w t : World) → Wf w t → (go : Value → World → Answer) (next : Pairs → Value → World → Answer)
      → ((h : Pairs) (v u : Value) (x y : World) → Pf (also (let_names B.lets) hidden) d h → Af v u → Wf x y → Rf (go v x) (next h u y))
      → Rf (and_then (eval called e d w) go) (let_all called B.lets g t (λ h s. and_then (eval called (core_of B.last) h s) (next h)))

  abbrev TreeKeeps : Tree → Core → Pairs → Pairs → Type 0
  TreeKeeps b e d g = (w t : World) → Wf w t → Rf (eval called e d w) (eval called (core_of b) g t)

  -- no let
  alone_keeps : (hidden : ℕ → Bool) (t : Tree) (e : Core) (d g : Pairs) → Pf hidden d g → TreeKeeps t e d g → FlatKeeps hidden (alone t) e d g
  alone_keeps hidden b e d g rel keeps w t world go next h =
      then_alike IsFlattened (eval called e d w) (eval called (core_of b) g t) go (next g) (keeps w t world) (λ v u x y a world2. h g v u x y (wider IsFlattened hidden (also [] hidden) d g rel (hidden_too [] hidden)) a world2)

  -- the block as a tree
  put_keeps : (hidden : ℕ → Bool) (B : FlatBlock) (e : Core) (d g : Pairs) → FlatKeeps hidden B e d g → TreeKeeps (as_tree B) e d g
  put_keeps hidden B e d g keeps w t world =
      let last = λ (h : Pairs) (s : World). eval called (core_of B.last) h s in
      let by = keeps w t world comes (λ h. comes) (λ h v u x y rel a world2. (a, world2)) in
      subst (Rf (eval called e d w)) (sym (put_means called B.lets B.last g t))
      (subst (Rf (eval called e d w)) (let_after called B.lets g t (λ h s. and_then (last h s) comes) last (λ h s. then_self (last h s)))
      (subst (λ r. Rf r (let_all called B.lets g t (λ h s. and_then (last h s) comes))) (then_self (eval called e d w)) by))

  -- a let and its body
  let_keeps : (hidden : ℕ → Bool) (i : ℕ) (p : Place) (q : Pattern) (E B : FlatBlock) (e b : Core) (d g : Pairs) → FlatKeeps hidden E e d g
      → ((l h : Pairs) → Pf (also (let_names E.lets) hidden) l h → FlatKeeps (also (let_names E.lets) hidden) B b l h)
      → (w t : World) → Wf w t → (go : Value → World → Answer) (next : Pairs → Value → World → Answer)
      → ((h : Pairs) (v u : Value) (x y : World) → Pf (also (let_names (E.lets ++ let_one i p q E.last ∷ B.lets)) hidden) d h → Af v u → Wf x y → Rf (go v x) (next h u y))
      → Rf (and_then (and_then (eval called e d w) (λ v u. with_parameter (parameter_of q) v d (λ env s. eval called b env s) u)) go)
      (let_all called (E.lets ++ let_one i p q E.last ∷ B.lets) g t (λ h s. and_then (eval called (core_of B.last) h s) (next h)))
  let_keeps hidden i p q E B e b d g first second w t world go next h =
      let K = λ (l : Pairs) (s : World). and_then (eval called (core_of B.last) l s) (next l) in
      let nE = let_names E.lets in
      let nB = let_names B.lets in
      let all = nE ++ (bound_in q ++ nB) in
      let body = λ (env : Pairs) (s : World). eval called b env s in
      let by : Rf (and_then (eval called e d w) (λ v u. and_then (with_parameter (parameter_of q) v d body u) go)) (let_all called E.lets g t (λ l s. and_then (eval called (core_of E.last) l s) (λ u r. with_parameter (parameter_of q) u l (λ l2 r2. let_all called B.lets l2 r2 K) r))) =
      first w t world (λ v u. and_then (with_parameter (parameter_of q) v d body u) go) (λ l u r. with_parameter (parameter_of q) u l (λ l2 r2. let_all called B.lets l2 r2 K) r) (λ l v u x y rel a world2.
      subst (λ r. Rf r (with_parameter (parameter_of q) u l (λ l2 r2. let_all called B.lets l2 r2 K) y)) (sym (parameter_then (parameter_of q) v d body go x))
      (parameter_both IsFlattened laws (parameter_of q) v u (also nE hidden) d l (λ env s. and_then (body env s) go) (λ l2 r2. let_all called B.lets l2 r2 K) x y a rel world2 (λ ps qs are rel2.
      second (ps ++ d) (qs ++ l) rel2 x y world2 go next (λ m z n o r rel3 a2 world3.
      h m z n o r
      (subst (λ names. Pf (also names hidden) d m) (sym (names_append E.lets (let_one i p q E.last ∷ B.lets)))
      (drop_pairs IsFlattened ps (also nB (also nE hidden)) (also all hidden) d m rel3 (λ k is. in_all nE (bound_in q) nB hidden k is)
      (λ k is. in_middle nE (bound_in q) nB hidden k (sym (subst (λ names. ArePairsOf names ps) (parameter_names q) are k) ∙ is)))) a2 world3)))) in
      subst (λ r. Rf r (let_all called (E.lets ++ let_one i p q E.last ∷ B.lets) g t K)) (sym (then_then (eval called e d w) (λ v u. with_parameter (parameter_of q) v d body u) go))
      (subst (Rf (and_then (eval called e d w) (λ v u. and_then (with_parameter (parameter_of q) v d body u) go))) (sym (let_append called E.lets (let_one i p q E.last ∷ B.lets) g t K)) by)

  -- ---- forms of parts

  abbrev CoreKeeps : Core → Core → Pairs → Pairs → Type 0
  CoreKeeps b e d g = (w t : World) → Wf w t → Rf (eval called e d w) (eval called b g t)

  one_flat : (o : Operation) (a b : Core) (d g : Pairs) → CoreKeeps b a d g → CoreKeeps (one o b) (one o a) d g
  one_flat o a b d g first w t world =
      then_alike IsFlattened (eval called a d w) (eval called b g t) (λ v u. acts u (unary_act o v u)) (λ v u. acts u (unary_act o v u)) (first w t world) (λ v u x y h world2. unary_alike IsFlattened o v u x y h world2)

  two_flat : (o : Binary) (a b m n : Core) (d g : Pairs) → CoreKeeps b a d g → CoreKeeps n m d g → CoreKeeps (two o b n) (two o a m) d g
  two_flat o a b m n d g first second w t world =
      then_alike IsFlattened (eval called a d w) (eval called b g t) (λ x u. and_then (eval called m d u) (λ y s. acts s (binary_act o x y s))) (λ x u. and_then (eval called n g u) (λ y s. acts s (binary_act o x y s))) (first w t world) (λ v u x y h world2.
      then_alike IsFlattened (eval called m d x) (eval called n g y) (λ z s. acts s (binary_act o v z s)) (λ z s. acts s (binary_act o u z s)) (second x y world2) (λ i j r s k world3. binary_alike IsFlattened o v u i j r s h k world3))

  call_flat : (a b m n : Core) (d g : Pairs) → CoreKeeps b a d g → CoreKeeps n m d g → CoreKeeps (core.call b n) (core.call a m) d g
  call_flat a b m n d g first second w t world =
      then_alike IsFlattened (eval called a d w) (eval called b g t) (λ x u. and_then (eval called m d u) (λ y s. called x y s)) (λ x u. and_then (eval called n g u) (λ y s. called x y s)) (first w t world) (λ v u x y h world2.
      then_alike IsFlattened (eval called m d x) (eval called n g y) (λ z s. called v z s) (λ z s. called u z s) (second x y world2) (λ i j r s k world3. calls v u i j r s h k world3))

  ternary_flat : (o : Ternary) (a b m n i j : Core) (d g : Pairs) → CoreKeeps b a d g → CoreKeeps n m d g → CoreKeeps j i d g → CoreKeeps (core.three o b n j) (core.three o a m i) d g
  ternary_flat o a b m n i j d g first second third w t world =
      then_alike IsFlattened (eval called a d w) (eval called b g t) (λ x u. and_then (eval called m d u) (λ y s. and_then (eval called i d s) (λ z r. acts r (ternary_act o x y z r))))
      (λ x u. and_then (eval called n g u) (λ y s. and_then (eval called j g s) (λ z r. acts r (ternary_act o x y z r)))) (first w t world) (λ v u x y h world2.
      then_alike IsFlattened (eval called m d x) (eval called n g y) (λ y s. and_then (eval called i d s) (λ z r. acts r (ternary_act o v y z r))) (λ y s. and_then (eval called j g s) (λ z r. acts r (ternary_act o u y z r))) (second x y world2) (λ k l r s h2 world3.
      then_alike IsFlattened (eval called i d r) (eval called j g s) (λ z q. acts q (ternary_act o v k z q)) (λ z q. acts q (ternary_act o u l z q)) (third r s world3) (λ e f y2 q h3 world4. ternary_alike IsFlattened o v u k l e f y2 q h h2 h3 world4)))

  if_flat : (c e : Core) (go to other last : Pairs → World → Answer) (d g : Pairs) → CoreKeeps e c d g → ((w t : World) → Wf w t → Rf (go d w) (to g t)) → ((w t : World) → Wf w t → Rf (other d w) (last g t)) → (w t : World) → Wf w t
      → Rf (and_then (eval called c d w) (λ x u. on_truth x (λ b s. choose b (go d) (other d) s) u)) (and_then (eval called e g t) (λ x u. on_truth x (λ b s. choose b (to g) (last g) s) u))
  if_flat c e go to other last d g first second third w t world =
      then_alike IsFlattened (eval called c d w) (eval called e g t) (λ x u. on_truth x (λ b s. choose b (go d) (other d) s) u) (λ x u. on_truth x (λ b s. choose b (to g) (last g) s) u) (first w t world) (λ v u x y h world2.
      truth_alike IsFlattened v u h (λ b s. choose b (go d) (other d) s) (λ b s. choose b (to g) (last g) s) x y (λ b. choose_alike IsFlattened b (go d) (to g) (other d) (last g) x y (second x y world2) (third x y world2)))

  seq_flat : (a b m n : Core) (d g : Pairs) → CoreKeeps b a d g → CoreKeeps n m d g → CoreKeeps (core.seq b n) (core.seq a m) d g
  seq_flat a b m n d g first second w t world =
      then_alike IsFlattened (eval called a d w) (eval called b g t) (λ v u. eval called m d u) (λ v u. eval called n g u) (first w t world) (λ v u x y h world2. second x y world2)

  record RowFlat (es : Trees) (d g : Pairs) : Type 0 where
    keeps : (w t : World) (go to : Values → World → Answer) → Wf w t → ((vs us : Values) (x y : World) → AllAlike IsFlattened vs us → Wf x y → Rf (go vs x) (to us y))
        → Rf (eval_all called (cores_of es) d w go) (eval_all called (cores_of (flat_all es)) g t to)

  row_flat : (r : Row) (es : Trees) (d g : Pairs) → RowFlat es d g → CoreKeeps (core.row r (cores_of (flat_all es))) (core.row r (cores_of es)) d g
  row_flat r es d g rows w t world =
      rows.keeps w t (λ vs u. comes (row_value r vs) u) (λ vs u. comes (row_value r vs) u) world (λ vs us x y all world2. (row_alike IsFlattened r vs us all, world2))

  nothing_flat : (d g : Pairs) (w t : World) → Wf w t → Rf (called v_unit v_unit w) (called v_unit v_unit t)
  nothing_flat d g w t world = calls v_unit v_unit v_unit v_unit w t alike_unit alike_unit world

  mutual
    flat_keeps : (t : Tree) (hidden : ℕ → Bool) → Clear hidden t → (d g : Pairs) → Pf hidden d g → FlatKeeps hidden (flat t) (core_of t) d g
    flat_keeps (tree i p f) hidden av d g rel = form_flat f i p hidden av d g rel

    form_flat : (f : Form) (i : ℕ) (p : Place) (hidden : ℕ → Bool) → ClearForm hidden f → (d g : Pairs) → Pf hidden d g → FlatKeeps hidden (flat_form i p f) (core_form p f) d g
    form_flat (form.whole n) i p hidden av d g rel = alone_keeps hidden (tree i p (form.whole n)) (core_form p (form.whole n)) d g rel (λ w t world. (alike_whole n, world))
    form_flat (form.flag b) i p hidden av d g rel = alone_keeps hidden (tree i p (form.flag b)) (core_form p (form.flag b)) d g rel (λ w t world. (alike_flag b, world))
    form_flat form.unit i p hidden av d g rel = alone_keeps hidden (tree i p form.unit) (core_form p form.unit) d g rel (λ w t world. (alike_unit, world))
    form_flat (form.use_of x) i p hidden av d g rel = alone_keeps hidden (tree i p (form.use_of x)) (core_form p (form.use_of x)) d g rel (λ w t world. use_alike IsFlattened hidden d g rel x av w t world)
    form_flat (form.qualified m x) i p hidden av d g rel = alone_keeps hidden (tree i p (form.qualified m x)) (core_form p (form.qualified m x)) d g rel (nothing_flat d g)
    form_flat form.map_empty i p hidden av d g rel = alone_keeps hidden (tree i p form.map_empty) (core_form p form.map_empty) d g rel (nothing_flat d g)
    form_flat (form.map_add x y z) i p hidden av d g rel = alone_keeps hidden (tree i p (form.map_add x y z)) (core_form p (form.map_add x y z)) d g rel (nothing_flat d g)
    form_flat (form.map_find x y) i p hidden av d g rel = alone_keeps hidden (tree i p (form.map_find x y)) (core_form p (form.map_find x y)) d g rel (nothing_flat d g)
    form_flat form.assert_false i p hidden av d g rel = alone_keeps hidden (tree i p form.assert_false) (core_form p form.assert_false) d g rel (λ w t world. (refl, refl, world))
    form_flat (form.let_in q e b) i p hidden av d g rel =
        let_keeps hidden i p q (flat e) (flat b) (core_of e) (core_of b) d g (flat_keeps e hidden av.0 d g rel) (λ l h rel2. flat_keeps b (also (let_names (flat e).lets) hidden) av.1 l h rel2)
    form_flat (form.let_rec f j m q b e) i p hidden av d g rel = λ w t world go next h.
        let body = as_tree (flat b) in
        let x = v_rec f (parameter_of q) (close (without (f ∷ core.bound_in (parameter_of q)) d) (core_of b)) in
        let y = v_rec f (parameter_of q) (close (without (f ∷ core.bound_in (parameter_of q)) g) (core_of body)) in
        let a : Af x y = alike_rec hidden f (parameter_of q) (parameter_of q) (core_of b) (core_of body) (close (without (f ∷ core.bound_in (parameter_of q)) d) (core_of b)) (close (without (f ∷ core.bound_in (parameter_of q)) g) (core_of body)) d g
        (record { body = b; clear = av.0; source = refl; parameter = refl; flattened = refl }) rel refl refl in
        let names = let_names (flat e).lets in
        flat_keeps e hidden av.1 ((f, x) ∷ d) ((f, y) ∷ g) (both_have hidden f x y d g a rel) w t world go next (λ l v u r s rel2 a2 world2.
        h l v u r s (drop_one IsFlattened (also names hidden) (also (f ∷ names) hidden) ((f, x) ∷ d) l rel2 f x d refl (λ k is. one_wider f names hidden k is) (one_named f names hidden)) a2 world2)
    form_flat (form.fun q b) i p hidden av d g rel =
        let body = as_tree (flat b) in
        alone_keeps hidden (tree i p (form.fun q body)) (core_form p (form.fun q b)) d g rel (λ w t world. (
          alike_fun hidden (parameter_of q) (parameter_of q) (core_of b) (core_of body) (close (without (core.bound_in (parameter_of q)) d) (core_of b)) (close (without (core.bound_in (parameter_of q)) g) (core_of body)) d g
              (record { body = b; clear = av; source = refl; parameter = refl; flattened = refl }) rel refl refl,
          world,
        ))
    form_flat (form.tuple es) i p hidden av d g rel = alone_keeps hidden (tree i p (form.tuple (flat_all es))) (core_form p (form.tuple es)) d g rel (row_flat tuple es d g (all_flat es hidden av d g rel))
    form_flat (form.build c l es) i p hidden av d g rel = alone_keeps hidden (tree i p (form.build c l (flat_all es))) (core_form p (form.build c l es)) d g rel (row_flat (build c) es d g (all_flat es hidden av d g rel))
    form_flat (form.list_of es) i p hidden av d g rel = alone_keeps hidden (tree i p (form.list_of (flat_all es))) (core_form p (form.list_of es)) d g rel (row_flat list_of es d g (all_flat es hidden av d g rel))
    form_flat (form.call f a) i p hidden av d g rel =
        alone_keeps hidden (tree i p (form.call (flattened f) (flattened a))) (core_form p (form.call f a)) d g rel
        (call_flat (core_of f) (core_of (flattened f)) (core_of a) (core_of (flattened a)) d g (put_keeps hidden (flat f) (core_of f) d g (flat_keeps f hidden av.0 d g rel)) (put_keeps hidden (flat a) (core_of a) d g (flat_keeps a hidden av.1 d g rel)))
    form_flat (form.arithmetic o a b) i p hidden av d g rel =
        alone_keeps hidden (tree i p (form.arithmetic o (flattened a) (flattened b))) (core_form p (form.arithmetic o a b)) d g rel
        (two_flat (arithmetic (arithmetic_at p o)) (core_of a) (core_of (flattened a)) (core_of b) (core_of (flattened b)) d g (put_keeps hidden (flat a) (core_of a) d g (flat_keeps a hidden av.0 d g rel)) (put_keeps hidden (flat b) (core_of b) d g (flat_keeps b hidden av.1 d g rel)))
    form_flat (form.compare o a b) i p hidden av d g rel =
        alone_keeps hidden (tree i p (form.compare o (flattened a) (flattened b))) (core_form p (form.compare o a b)) d g rel
        (two_flat (comparison o) (core_of a) (core_of (flattened a)) (core_of b) (core_of (flattened b)) d g (put_keeps hidden (flat a) (core_of a) d g (flat_keeps a hidden av.0 d g rel)) (put_keeps hidden (flat b) (core_of b) d g (flat_keeps b hidden av.1 d g rel)))
    form_flat (form.make a b) i p hidden av d g rel =
        alone_keeps hidden (tree i p (form.make (flattened a) (flattened b))) (core_form p (form.make a b)) d g rel
        (two_flat (make p) (core_of a) (core_of (flattened a)) (core_of b) (core_of (flattened b)) d g (put_keeps hidden (flat a) (core_of a) d g (flat_keeps a hidden av.0 d g rel)) (put_keeps hidden (flat b) (core_of b) d g (flat_keeps b hidden av.1 d g rel)))
    form_flat (form.fetch a b) i p hidden av d g rel =
        alone_keeps hidden (tree i p (form.fetch (flattened a) (flattened b))) (core_form p (form.fetch a b)) d g rel
        (two_flat (fetch p) (core_of a) (core_of (flattened a)) (core_of b) (core_of (flattened b)) d g (put_keeps hidden (flat a) (core_of a) d g (flat_keeps a hidden av.0 d g rel)) (put_keeps hidden (flat b) (core_of b) d g (flat_keeps b hidden av.1 d g rel)))
    form_flat (form.negated e) i p hidden av d g rel =
        alone_keeps hidden (tree i p (form.negated (flattened e))) (core_form p (form.negated e)) d g rel (one_flat negate (core_of e) (core_of (flattened e)) d g (put_keeps hidden (flat e) (core_of e) d g (flat_keeps e hidden av d g rel)))
    form_flat (form.not_of e) i p hidden av d g rel =
        alone_keeps hidden (tree i p (form.not_of (flattened e))) (core_form p (form.not_of e)) d g rel (one_flat invert (core_of e) (core_of (flattened e)) d g (put_keeps hidden (flat e) (core_of e) d g (flat_keeps e hidden av d g rel)))
    form_flat (form.assert e) i p hidden av d g rel =
        alone_keeps hidden (tree i p (form.assert (flattened e))) (core_form p (form.assert e)) d g rel (one_flat (assert p) (core_of e) (core_of (flattened e)) d g (put_keeps hidden (flat e) (core_of e) d g (flat_keeps e hidden av d g rel)))
    form_flat (form.length_of e) i p hidden av d g rel =
        alone_keeps hidden (tree i p (form.length_of (flattened e))) (core_form p (form.length_of e)) d g rel (one_flat length_of (core_of e) (core_of (flattened e)) d g (put_keeps hidden (flat e) (core_of e) d g (flat_keeps e hidden av d g rel)))
    form_flat (form.print e) i p hidden av d g rel =
        alone_keeps hidden (tree i p (form.print (flattened e))) (core_form p (form.print e)) d g rel (one_flat print (core_of e) (core_of (flattened e)) d g (put_keeps hidden (flat e) (core_of e) d g (flat_keeps e hidden av d g rel)))
    form_flat (form.read e) i p hidden av d g rel =
        alone_keeps hidden (tree i p (form.read (flattened e))) (core_form p (form.read e)) d g rel (one_flat (read p) (core_of e) (core_of (flattened e)) d g (put_keeps hidden (flat e) (core_of e) d g (flat_keeps e hidden av d g rel)))
    form_flat (form.store a b c) i p hidden av d g rel =
        alone_keeps hidden (tree i p (form.store (flattened a) (flattened b) (flattened c))) (core_form p (form.store a b c)) d g rel
        (ternary_flat (store p) (core_of a) (core_of (flattened a)) (core_of b) (core_of (flattened b)) (core_of c) (core_of (flattened c)) d g (put_keeps hidden (flat a) (core_of a) d g (flat_keeps a hidden av.0 d g rel)) (put_keeps hidden (flat b) (core_of b) d g (flat_keeps b hidden av.1 d g rel)) (put_keeps hidden (flat c) (core_of c) d g (flat_keeps c hidden av.2 d g rel)))
    form_flat (form.and_of a b) i p hidden av d g rel =
        alone_keeps hidden (tree i p (form.and_of (flattened a) (flattened b))) (core_form p (form.and_of a b)) d g rel
        (if_flat (core_of a) (core_of (flattened a)) (λ l r. eval called (core_of b) l r) (λ l r. eval called (core_of (flattened b)) l r) (λ l. comes (v_flag false)) (λ l. comes (v_flag false)) d g (put_keeps hidden (flat a) (core_of a) d g (flat_keeps a hidden av.0 d g rel))
        (put_keeps hidden (flat b) (core_of b) d g (flat_keeps b hidden av.1 d g rel)) (λ w t world. (alike_flag false, world)))
    form_flat (form.or_of a b) i p hidden av d g rel =
        alone_keeps hidden (tree i p (form.or_of (flattened a) (flattened b))) (core_form p (form.or_of a b)) d g rel
        (if_flat (core_of a) (core_of (flattened a)) (λ l. comes (v_flag true)) (λ l. comes (v_flag true)) (λ l r. eval called (core_of b) l r) (λ l r. eval called (core_of (flattened b)) l r) d g (put_keeps hidden (flat a) (core_of a) d g (flat_keeps a hidden av.0 d g rel))
        (λ w t world. (alike_flag true, world)) (put_keeps hidden (flat b) (core_of b) d g (flat_keeps b hidden av.1 d g rel)))
    form_flat (form.if_else c a b) i p hidden av d g rel =
        alone_keeps hidden (tree i p (form.if_else (flattened c) (flattened a) (flattened b))) (core_form p (form.if_else c a b)) d g rel
        (if_flat (core_of c) (core_of (flattened c)) (λ l r. eval called (core_of a) l r) (λ l r. eval called (core_of (flattened a)) l r) (λ l r. eval called (core_of b) l r) (λ l r. eval called (core_of (flattened b)) l r) d g
        (put_keeps hidden (flat c) (core_of c) d g (flat_keeps c hidden av.0 d g rel)) (put_keeps hidden (flat a) (core_of a) d g (flat_keeps a hidden av.1 d g rel)) (put_keeps hidden (flat b) (core_of b) d g (flat_keeps b hidden av.2 d g rel)))
    form_flat (form.match_on e cs) i p hidden av d g rel =
        alone_keeps hidden (tree i p (form.match_on (flattened e) (flat_cases cs))) (core_form p (form.match_on e cs)) d g rel (λ w t world.
        then_alike IsFlattened (eval called (core_of e) d w) (eval called (core_of (flattened e)) g t) (λ v u. eval_arms called p (arms_of cs) v d u) (λ v u. eval_arms called p (arms_of (flat_cases cs)) v g u)
        (put_keeps hidden (flat e) (core_of e) d g (flat_keeps e hidden av.0 d g rel) w t world) (λ v u x y a world2. cases_flat cs hidden av.1 d g rel p v u x y a world2))
    form_flat (form.chain no_trees) i p hidden av d g rel = alone_keeps hidden (tree i p (form.chain no_trees)) (core_form p (form.chain no_trees)) d g rel (λ w t world. (alike_unit, world))
    form_flat (form.chain (more_trees e es)) i p hidden av d g rel =
        alone_keeps hidden (tree i p (form.chain (flat_all (more_trees e es)))) (core_form p (form.chain (more_trees e es))) d g rel
        (chain_flat es hidden av.1 d g rel (core_of e) (core_of (flattened e)) (put_keeps hidden (flat e) (core_of e) d g (flat_keeps e hidden av.0 d g rel)))

    all_flat : (es : Trees) (hidden : ℕ → Bool) → ClearAll hidden es → (d g : Pairs) → Pf hidden d g → RowFlat es d g
    all_flat no_trees hidden av d g rel = record { keeps = λ w t go to world h. h _ _ w t none_alike world }
    all_flat (more_trees e es) hidden av d g rel =
        let rest = all_flat es hidden av.1 d g rel in
        record {
          keeps = λ w t go to world h.
              then_alike IsFlattened (eval called (core_of e) d w) (eval called (core_of (flattened e)) g t) (λ v u. eval_all called (cores_of es) d u (λ vs s. go (more_values v vs) s)) (λ v u. eval_all called (cores_of (flat_all es)) g u (λ vs s. to (more_values v vs) s))
              (put_keeps hidden (flat e) (core_of e) d g (flat_keeps e hidden av.0 d g rel) w t world) (λ v u x y a world2.
              rest.keeps x y (λ vs s. go (more_values v vs) s) (λ vs s. to (more_values u vs) s) world2 (λ vs us r s all world3. h (more_values v vs) (more_values u us) r s (more_alike v u vs us a all) world3));
        }

    chain_flat : (es : Trees) (hidden : ℕ → Bool) → ClearAll hidden es → (d g : Pairs) → Pf hidden d g → (c b : Core) → CoreKeeps b c d g → CoreKeeps (rest_of (flat_all es) b) (rest_of es c) d g
    chain_flat no_trees hidden av d g rel c b first = first
    chain_flat (more_trees e es) hidden av d g rel c b first =
        seq_flat c b (rest_of es (core_of e)) (rest_of (flat_all es) (core_of (flattened e))) d g first
        (chain_flat es hidden av.1 d g rel (core_of e) (core_of (flattened e)) (put_keeps hidden (flat e) (core_of e) d g (flat_keeps e hidden av.0 d g rel)))

    cases_flat : (cs : Cases) (hidden : ℕ → Bool) → ClearCases hidden cs → (d g : Pairs) → Pf hidden d g → (p : Place) (v u : Value) (w t : World) → Af v u → Wf w t
        → Rf (eval_arms called p (arms_of cs) v d w) (eval_arms called p (arms_of (flat_cases cs)) u g t)
    cases_flat no_cases hidden av d g rel p v u w t a world = (refl, refl, world)
    cases_flat (more_cases q b cs) hidden av d g rel p v u w t a world =
        arm_both IsFlattened laws (pattern_of q) v u hidden d g (λ env s. eval called (core_of b) env s) (λ env s. eval called (core_of (flattened b)) env s) (λ s. eval_arms called p (arms_of cs) v d s) (λ s. eval_arms called p (arms_of (flat_cases cs)) u g s) w t a rel
        (λ ps qs are rel2. put_keeps hidden (flat b) (core_of b) (ps ++ d) (qs ++ g) (flat_keeps b hidden av.0 (ps ++ d) (qs ++ g) rel2) w t world) (cases_flat cs hidden av.1 d g rel p v u w t a world)

  pub flattening_keeps_by : (t : Tree) (hidden : ℕ → Bool) → Clear hidden t → (d g : Pairs) → AlikePairs IsFlattened hidden d g → (w u : World) → AlikeWorlds IsFlattened w u
      → alike_answers IsFlattened (eval called (core_of t) d w) (eval called (core_of (flattened t)) g u)
  flattening_keeps_by t hidden av d g rel w u world = put_keeps hidden (flat t) (core_of t) d g (flat_keeps t hidden av d g rel) w u world

-- ---- calls

code_flat : Environments → (n : ℕ) → CallsKeepFlat (call_meaning n) → (hidden : ℕ → Bool) (q r : Parameter) (b c : Core) (d g : Pairs) (v u : Value) (w t : World) → IsFlattened hidden q b r c → Pf hidden d g → Af v u → Wf w t
    → Rf (with_parameter q v d (λ env s. meaning n b env s) w) (with_parameter r u g (λ env s. meaning n c env s) t)
code_flat laws n calls hidden q r b c d g v u w t code rel a world =
    let source = λ (x : Core). with_parameter q v d (λ env s. meaning n x env s) w in
    let target = λ (p : Parameter) (x : Core). with_parameter p u g (λ env s. meaning n x env s) t in
    let by : Rf (source (core_of code.body)) (target q (core_of (flattened code.body))) =
    parameter_both IsFlattened laws q v u hidden d g (λ env s. meaning n (core_of code.body) env s) (λ env s. meaning n (core_of (flattened code.body)) env s) w t a rel world (λ ps qs are rel2.
    flattening_keeps_by laws (call_meaning n) calls code.body hidden code.clear (ps ++ d) (qs ++ g) rel2 w t world) in
    subst (λ x. Rf (source x) (target r c)) (sym code.source) (subst (λ p. Rf (source (core_of code.body)) (target p c)) (sym code.parameter) (subst (λ x. Rf (source (core_of code.body)) (target q x)) (sym code.flattened) by))

pub calls_flat : Environments → (n : ℕ) → CallsKeepFlat (call_meaning n)
calls_flat laws zero f g v u w t a b world = world
calls_flat laws (suc n) f g v u w t (alike_fun hidden q r b c x y d e code rel is are) a world =
    subst (λ z. Rf z (call_meaning (suc n) (v_fun r y) u t)) (sym (fun_means laws n q b x d v w is))
    (subst (Rf (with_parameter q v d (λ env s. meaning n b env s) w)) (sym (fun_means laws n r c y e u t are)) (code_flat laws n (calls_flat laws n) hidden q r b c d e v u w t code rel a world))
calls_flat laws (suc n) f g v u w t (alike_rec hidden i q r b c x y d e code rel is are) a world =
    let self = (i, v_rec i q x) ∷ d in
    let other = (i, v_rec i r y) ∷ e in
    subst (λ z. Rf z (call_meaning (suc n) (v_rec i r y) u t)) (sym (rec_means laws n i q b x d v w is))
    (subst (Rf (with_parameter q v self (λ env s. meaning n b env s) w)) (sym (rec_means laws n i r c y e u t are))
    (code_flat laws n (calls_flat laws n) hidden q r b c self other v u w t code (both_have hidden i (v_rec i q x) (v_rec i r y) d e (alike_rec hidden i q r b c x y d e code rel is are) rel) a world))
calls_flat laws (suc n) f g v u w t _ a world = tt

pub flattening_keeps : Environments → FlatteningKeeps
flattening_keeps laws n hidden t d g w u av rel world = flattening_keeps_by laws (call_meaning n) (calls_flat laws n) t hidden av d g rel w u world
