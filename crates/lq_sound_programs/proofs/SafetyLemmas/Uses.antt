-- A block closes alike by values that agree on the variables that it uses.
use Rattle.std.proofs.Common.{◌≡◌, ℕ, Bool, true, false, ◌||◌, ◌==◌, List, [], ◌∷◌, refl, sym, ap, ap₂, ◌∙◌}
use Rattle.std.specs.List.{list_any}
use Rattle.lq_base_names.specs.declared.place.Place.{Place}
use Rattle.lq_meaning_steps.specs.Model.Core as core
use Rattle.lq_meaning_steps.specs.Model.Core.{Core, Pairs, value_in, without, replaced, variables_of, variables_of_all, close, close_all, close_arms}
use Rattle.lq_meaning_steps.specs.Model.Leaving.{unless, value_in-without}
use Rattle.lq_refined_types.specs.Types.Operations.{symbol_of}
use Rattle.lq_refined_rules.specs.Checks.Tree as tree
use Rattle.lq_refined_rules.specs.Checks.Tree.{Pure, Arms, Operation, Block}
use Rattle.lq_sound_values.specs.Inclusion.Symbols.{Symbols, with_symbol}
use Rattle.lq_sound_forms.specs.Pures.Cores.{pure_core, pure_cores, name_patterns, arm_pattern, operation_core, block_core, arms_core}
use Rattle.lq_sound_forms.specs.Pures.Pures.{EachUse}
use Rattle.lq_sound_programs.specs.Safety.Programs.{with_names, IsUse, ArePuresOf, UsesOnly, BlockUsesOnly, ArmsUseOnly}

abbrev pub SameOn : Symbols → Pairs → Pairs → Type 0
SameOn V ps qs = (x : ℕ) → V (symbol_of x) ≡ true → value_in ps x ≡ value_in qs x

module _ (G V : Symbols) (ps qs : Pairs) (f : SameOn V ps qs) where
  pure_same : (e : Pure) → EachUse (IsUse G V) e → close ps (pure_core e) ≡ close qs (pure_core e)
  pure_same (tree.whole n) o = refl
  pure_same (tree.flag b) o = refl
  pure_same tree.unit o = refl
  pure_same (tree.use_of u) o = ap (replaced u.name) (f u.name o.0)
  pure_same (tree.negated a) o = ap (core.one core.negate) (pure_same a o)
  pure_same (tree.add a b) o = ap₂ (core.two (core.arithmetic core.sum)) (pure_same a o.0) (pure_same b o.1)
  pure_same (tree.subtract a b) o = ap₂ (core.two (core.arithmetic core.difference)) (pure_same a o.0) (pure_same b o.1)
  pure_same (tree.multiply a b) o = ap₂ (core.two (core.arithmetic core.product)) (pure_same a o.0) (pure_same b o.1)
  pure_same (tree.length_of a) o = ap (core.one core.length_of) (pure_same a o)
  pure_same (tree.compare c a b) o = ap₂ (core.two (core.comparison c)) (pure_same a o.0) (pure_same b o.1)
  pure_same (tree.not_of a) o = ap (core.one core.invert) (pure_same a o)
  pure_same (tree.and_of a b) o = ap₂ core.and_of (pure_same a o.0) (pure_same b o.1)
  pure_same (tree.or_of a b) o = ap₂ core.or_of (pure_same a o.0) (pure_same b o.1)

-- under one more variable
same_without : (V : Symbols) (ps qs : Pairs) (x : ℕ) → SameOn V ps qs → SameOn (with_symbol V (symbol_of x)) (without (x ∷ []) ps) (without (x ∷ []) qs)
same_without V ps qs x f y h = value_in-without (x ∷ []) ps y ∙ at (x == y) (V (symbol_of y)) h (f y) ∙ sym (value_in-without (x ∷ []) qs y)
  where
    at : (b v : Bool) → v || b ≡ true → (v ≡ true → value_in ps y ≡ value_in qs y) → unless (b || false) (value_in ps y) ≡ unless (b || false) (value_in qs y)
    at true v h g = refl
    at false true h g = g refl
    at false false h g = absurd (cc)

-- under a recursive function's name and its parameter
pub same_without_two : (V : Symbols) (ps qs : Pairs) (g y : ℕ) → SameOn V ps qs → SameOn (with_symbol (with_symbol V (symbol_of g)) (symbol_of y)) (without (g ∷ y ∷ []) ps) (without (g ∷ y ∷ []) qs)
same_without_two V ps qs g y f x h = value_in-without (g ∷ y ∷ []) ps x ∙ at (g == x) (y == x) (V (symbol_of x)) h (f x) ∙ sym (value_in-without (g ∷ y ∷ []) qs x)
  where
    at : (b c v : Bool) → (v || b) || c ≡ true → (v ≡ true → value_in ps x ≡ value_in qs x) → unless (b || (c || false)) (value_in ps x) ≡ unless (b || (c || false)) (value_in qs x)
    at true c v h k = refl
    at false true v h k = refl
    at false false true h k = k refl
    at false false false h k = absurd (cc)

-- under the names of a pattern
not_among : (V : Symbols) (xs : List ℕ) (k : ℕ) → with_names V xs (symbol_of k) ≡ true → list_any (λ x. x == k) xs ≡ false → V (symbol_of k) ≡ true
not_among V [] k h e = h
not_among V (x ∷ xs) k h e = other (V (symbol_of k)) (x == k) (list_any (λ y. y == k) xs) e (λ i. not_among (with_symbol V (symbol_of x)) xs k h i)
  where
    other : (v b c : Bool) → b || c ≡ false → (c ≡ false → v || b ≡ true) → v ≡ true
    other true b c i f = refl
    other false true c i f = absurd (cc)
    other false false c i f = f i

same_without_all : (V : Symbols) (xs : List ℕ) (ps qs : Pairs) → SameOn V ps qs → SameOn (with_names V xs) (without xs ps) (without xs qs)
same_without_all V xs ps qs f k h = value_in-without xs ps k ∙ at (list_any (λ x. x == k) xs) (λ e. f k (not_among V xs k h e)) ∙ sym (value_in-without xs qs k)
  where
    at : (b : Bool) → (b ≡ false → value_in ps k ≡ value_in qs k) → unless b (value_in ps k) ≡ unless b (value_in qs k)
    at true g = refl
    at false g = g refl

variables-names : (xs : List ℕ) → variables_of_all (name_patterns xs) ≡ xs
variables-names [] = refl
variables-names (x ∷ xs) = ap (λ ys. x ∷ ys) (variables-names xs)

pattern-names : (q : tree.Pattern) → variables_of (arm_pattern q) ≡ tree.names_of q
pattern-names tree.pattern_any = refl
pattern-names (tree.pattern_name x) = refl
pattern-names tree.pattern_unit = refl
pattern-names (tree.pattern_tuple xs) = variables-names xs
pattern-names (tree.pattern_build c xs) = variables-names xs

pures_same : (G V : Symbols) (ps qs : Pairs) (f : SameOn V ps qs) (es : List Pure) → ArePuresOf G V es → close_all ps (pure_cores es) ≡ close_all qs (pure_cores es)
pures_same G V ps qs f [] u = refl
pures_same G V ps qs f (e ∷ es) u = ap₂ core.more (pure_same G V ps qs f e u.0) (pures_same G V ps qs f es u.1)

mutual
  operation_same : (o : Operation) (l : Place) (G V : Symbols) (ps qs : Pairs) → SameOn V ps qs → UsesOnly G V o → close ps (operation_core l o) ≡ close qs (operation_core l o)
  operation_same (tree.pure e) l G V ps qs f u = pure_same G V ps qs f e u
  operation_same (tree.if_else p e a b) l G V ps qs f u =
      ap (λ z. core.if_else z (close ps (block_core a)) (close ps (block_core b))) (pure_same G V ps qs f e u.0) ∙ ap₂ (core.if_else (close qs (pure_core e))) (block_same a G V ps qs f u.1) (block_same b G V ps qs f u.2)
  operation_same (tree.assert e) l G V ps qs f u = ap (core.one (core.assert l)) (pure_same G V ps qs f e u)
  operation_same (tree.read e) l G V ps qs f u = ap (core.one (core.read l)) (pure_same G V ps qs f e u)
  operation_same (tree.print e) l G V ps qs f u = ap (core.one core.print) (pure_same G V ps qs f e u)
  operation_same (tree.divide x y) l G V ps qs f u =
      ap₂ (core.two (core.arithmetic (core.quotient l))) (pure_same G V ps qs f x u.0) (pure_same G V ps qs f y u.1)
  operation_same (tree.remainder x y) l G V ps qs f u =
      ap₂ (core.two (core.arithmetic (core.remainder l))) (pure_same G V ps qs f x u.0) (pure_same G V ps qs f y u.1)
  operation_same (tree.assert_false p) l G V ps qs f u = refl
  operation_same (tree.fun p y b) l G V ps qs f u =
      ap (core.fun (core.variable y)) (block_same b G (with_symbol V (symbol_of y)) (without (y ∷ []) ps) (without (y ∷ []) qs) (same_without V ps qs y f) u)
  operation_same (tree.match_on p x arms) l G V ps qs f u =
      ap₂ (core.match_on l) (pure_same G V ps qs f (tree.use_of x) u.0) (arms_same arms G V ps qs f u.1)
  operation_same (tree.call g e) l G V ps qs f u = ap₂ core.call (pure_same G V ps qs f g u.0) (pure_same G V ps qs f e u.1)
  operation_same (tree.tuple es) l G V ps qs f u = ap (core.row core.tuple) (pures_same G V ps qs f es u)
  operation_same (tree.build p i es) l G V ps qs f u = ap (core.row (core.build i)) (pures_same G V ps qs f es u)
  operation_same (tree.make p n e) l G V ps qs f u = ap₂ (core.two (core.make l)) (pure_same G V ps qs f n u.0) (pure_same G V ps qs f e u.1)
  operation_same (tree.fetch x i) l G V ps qs f u =
      ap₂ (core.two (core.fetch l)) (pure_same G V ps qs f (tree.use_of x) u.0) (pure_same G V ps qs f i u.1)
  operation_same (tree.store x i e) l G V ps qs f u =
      ap (λ z. core.three (core.store l) z (close ps (pure_core i)) (close ps (pure_core e))) (pure_same G V ps qs f (tree.use_of x) u.0) ∙ ap₂ (core.three (core.store l) (close qs (core.use_of x.name))) (pure_same G V ps qs f i u.1) (pure_same G V ps qs f e u.2)
  operation_same (tree.map_empty p) l G V ps qs f u = absurd u
  operation_same (tree.map_add p i e m) l G V ps qs f u = absurd u
  operation_same (tree.map_find i m) l G V ps qs f u = absurd u

  pub block_same : (b : Block) (G V : Symbols) (ps qs : Pairs) → SameOn V ps qs → BlockUsesOnly G V b → close ps (block_core b) ≡ close qs (block_core b)
  block_same (tree.last l o) G V ps qs f u = operation_same o l G V ps qs f u
  block_same (tree.binding x l o b) G V ps qs f u =
      ap₂ (core.let_in (core.variable x)) (operation_same o l G V ps qs f u.0) (block_same b G (with_symbol V (symbol_of x)) (without (x ∷ []) ps) (without (x ∷ []) qs) (same_without V ps qs x f) u.1)
  block_same (tree.recursive g p y b c) G V ps qs f u =
      ap₂ (core.let_rec g (core.variable y)) (block_same b G (with_symbol (with_symbol V (symbol_of g)) (symbol_of y)) (without (g ∷ y ∷ []) ps) (without (g ∷ y ∷ []) qs) (same_without_two V ps qs g y f) u.0) (block_same c G (with_symbol V (symbol_of g)) (without (g ∷ []) ps) (without (g ∷ []) qs) (same_without V ps qs g f) u.1)

  arms_same : (arms : Arms) (G V : Symbols) (ps qs : Pairs) → SameOn V ps qs → ArmsUseOnly G V arms → close_arms ps (arms_core arms) ≡ close_arms qs (arms_core arms)
  arms_same tree.no_arms G V ps qs f u = refl
  arms_same (tree.arm q b arms) G V ps qs f u =
      let body : close (without (variables_of (arm_pattern q)) ps) (block_core b) ≡ close (without (variables_of (arm_pattern q)) qs) (block_core b) = ap (λ xs. close (without xs ps) (block_core b)) (pattern-names q) ∙ block_same b G (with_names V (tree.names_of q)) (without (tree.names_of q) ps) (without (tree.names_of q) qs) (same_without_all V (tree.names_of q) ps qs f) u.0 ∙ sym (ap (λ xs. close (without xs qs) (block_core b)) (pattern-names q)) in
      ap₂ (core.more_arms (arm_pattern q)) body (arms_same arms G V ps qs f u.1)
