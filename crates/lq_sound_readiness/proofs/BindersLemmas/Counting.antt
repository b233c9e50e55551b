-- Blocks and programs that are read bind what they bind, each number as often.
use Rattle.std.proofs.Common.{◌≡◌, ℕ, suc, ◌+◌, Bool, true, false, List, [], ◌∷◌, ◌++◌, length, ◌∙◌, refl, ap, sym, arith}
use Rattle.lq_base_names.specs.declared.operation.ArithOp.{ArithOp}
use Rattle.lq_base_names.specs.declared.operation.ArithOp.TheVariants as op
use Rattle.lq_base_names.specs.declared.place.Place.{Place}
use Rattle.lq_text_tree.specs.Items.{ItemTree, ItemForm}
use Rattle.lq_text_tree.specs.Pattern.{Pattern, bound_in}
use Rattle.lq_text_tree.specs.Tree.{Tree, Trees, Cases}
use Rattle.lq_meaning_normal_form.specs.Binders.Counting.{times, counted, counted_all, counted_cases, counted_form, counted_items}
use Rattle.lq_refined_rules.specs.Checks.Binders.{operation_binders, block_binders, arms_binders, binders}
use Rattle.lq_refined_rules.specs.Checks.Tree as t
use Rattle.lq_refined_rules.specs.Checks.Tree.{has_template, last_operation, names_of}
use Rattle.lq_refined_templates.specs.Points.Annotation.{Annotation}
use Rattle.lq_refined_templates.specs.Points.Pure.{Read, after, pure_of, variable_of}
use Rattle.lq_refined_templates.specs.Points.Reading as reading
use Rattle.lq_refined_templates.specs.Points.Point.{whole}
use Rattle.lq_refined_templates.specs.Points.Reading.{arms_of, block_of, defined, item, own_point, pattern_of, program_from, quotient_of}
use Rattle.lq_refined_templates.specs.Points.Seen.{Seen, seen, seen_until, all_seen, scope_at}
use Rattle.lq_text_walk.specs.Scoped.Numbers.{number_of}
use Rattle.lq_sound_readiness.specs.Binders.Laws.{ReadBindsTheSame}
use Rattle.lq_sound_readiness.specs.Reading.Normal.{IsName, is_name, IsArm, arm_any, arm_name, arm_unit, arm_tuple, arm_build, IsPure, pure_whole, pure_flag, pure_unit, pure_use, pure_arithmetic, pure_negated, pure_compare, pure_not, pure_and, pure_or, pure_length, ArePure, no_pure, more_pure, IsUse, is_use, IsBlock, block_let, block_let_rec, block_operation, IsOperation, is_pure, is_fun, is_if, is_match, is_tuple, is_build, is_call, is_quotient, is_remainder, is_assert, is_assert_false, is_make, is_fetch, is_store, is_print, is_read, AreArms, no_arms, more_arms, IsItem, item_type, item_name, item_any, item_unit, item_function, AreNormal}

-- an arm's names are those that its pattern binds
names_read : {q : Pattern} → IsArm q → names_of (pattern_of q) ≡ bound_in q
names_read arm_any = refl
names_read arm_name = refl
names_read arm_unit = refl
names_read (arm_tuple h) = refl
names_read (arm_build h) = refl

-- no operator binds
quotient_binds : (o : ArithOp) (a b : t.Pure) → operation_binders (quotient_of o a b) ≡ []
quotient_binds op.Add a b = refl
quotient_binds op.Sub a b = refl
quotient_binds op.Mul a b = refl
quotient_binds op.Div a b = refl
quotient_binds op.Mod a b = refl

module _ (x : ℕ) where
  times_both : (xs ys : List ℕ) → times x (xs ++ ys) ≡ times x xs + times x ys
  times_both [] ys = omega arith
  times_both (y ∷ xs) ys = let more = times_both xs ys in omega (arith, more)

  -- two lists, of which it stands so often in each
  both : (xs ys : List ℕ) {m k : ℕ} → times x xs ≡ m → times x ys ≡ k → times x (xs ++ ys) ≡ m + k
  both xs ys d e = let sum = times_both xs ys in omega (arith, sum, d, e)

  -- nothing twice is nothing
  none_both : {m k : ℕ} → m ≡ 0 → k ≡ 0 → m + k ≡ 0
  none_both d e = omega (arith, d, e)

  -- ---- pure expressions bind nothing

  pure_binds : {e : Tree} → IsPure e → counted x e ≡ 0
  pure_binds pure_whole = refl
  pure_binds pure_flag = refl
  pure_binds pure_unit = refl
  pure_binds pure_use = refl
  pure_binds (pure_arithmetic r h w) = none_both (pure_binds h) (pure_binds w)
  pure_binds (pure_negated h) = pure_binds h
  pure_binds (pure_compare h w) = none_both (pure_binds h) (pure_binds w)
  pure_binds (pure_not h) = pure_binds h
  pure_binds (pure_and h w) = none_both (pure_binds h) (pure_binds w)
  pure_binds (pure_or h w) = none_both (pure_binds h) (pure_binds w)
  pure_binds (pure_length h) = pure_binds h

  pures_bind : {es : Trees} → ArePure es → counted_all x es ≡ 0
  pures_bind no_pure = refl
  pures_bind (more_pure h hs) = none_both (pure_binds h) (pures_bind hs)

  use_binds : {e : Tree} → IsUse e → counted x e ≡ 0
  use_binds is_use = refl

  -- ---- blocks

  -- the block, or its one operation
  abbrev Binds : Bool → t.Block → ℕ → Type 0
  Binds true B m = times x (block_binders B) ≡ m
  Binds false B m = times x (operation_binders (last_operation B)) ≡ m

  last_binds : (g : Bool) (l : Place) (o : t.Operation) (m : ℕ) → times x (operation_binders o) ≡ m → Binds g (t.last l o) m
  last_binds true l o m e = e
  last_binds false l o m e = e

  -- an operation without blocks
  none_binds : (g : Bool) (l : Place) (o : t.Operation) (m : ℕ) → operation_binders o ≡ [] → m ≡ 0 → Binds g (t.last l o) m
  none_binds g l o m e z = last_binds g l o m (ap (times x) e ∙ sym z)

  module _ (n : Annotation) where
    pure_block_binds : (m g : Bool) (k : ℕ) (Δ : List Seen) {e : Tree} → IsPure e → Binds m (block_of n g k Δ e).read (counted x e)
    pure_block_binds m g k Δ pure_whole = none_binds m _ _ _ refl refl
    pure_block_binds m g k Δ pure_flag = none_binds m _ _ _ refl refl
    pure_block_binds m g k Δ pure_unit = none_binds m _ _ _ refl refl
    pure_block_binds m g k Δ pure_use = none_binds m _ _ _ refl refl
    pure_block_binds m g k Δ (pure_arithmetic {o = o} r h w) = none_binds m _ _ _ (quotient_binds o _ _) (none_both (pure_binds h) (pure_binds w))
    pure_block_binds m g k Δ (pure_negated h) = none_binds m _ _ _ refl (pure_binds h)
    pure_block_binds m g k Δ (pure_compare h w) = none_binds m _ _ _ refl (none_both (pure_binds h) (pure_binds w))
    pure_block_binds m g k Δ (pure_not h) = none_binds m _ _ _ refl (pure_binds h)
    pure_block_binds m g k Δ (pure_and h w) = none_binds m _ _ _ refl (none_both (pure_binds h) (pure_binds w))
    pure_block_binds m g k Δ (pure_or h w) = none_binds m _ _ _ refl (none_both (pure_binds h) (pure_binds w))
    pure_block_binds m g k Δ (pure_length h) = none_binds m _ _ _ refl (pure_binds h)

    mutual
      block_binds : (g : Bool) (k : ℕ) (Δ : List Seen) {e : Tree} → IsBlock e → times x (block_binders (block_of n g k Δ e).read) ≡ counted x e
      block_binds g k Δ (block_let {i = i} {e = e} {b = b} (is_name {x = y}) w u) =
          let E : Read t.Block = block_of n false k Δ e in
          let B : Read t.Block = block_of n g (after k E) (seen_until i y ∷ Δ) b in
          let first : times x (operation_binders (last_operation E.read)) ≡ counted x e = operation_binds false false k Δ w in
          let rest : times x (block_binders B.read) ≡ counted x b = block_binds g (after k E) (seen_until i y ∷ Δ) u in
          let sum = times_both (operation_binders (last_operation E.read)) (y ∷ block_binders B.read) in
          omega (arith, sum, first, rest)
      block_binds g k Δ (block_let_rec {i = i} {f = f} {b = b} {e = e} (is_name {x = y}) w u) =
          let Θ : List Seen = seen_until i f ∷ Δ in
          let B : Read t.Block = block_of n true (suc k) (seen y ∷ Θ) b in
          let E : Read t.Block = block_of n g (after (suc k) B) Θ e in
          let first : times x (block_binders B.read) ≡ counted x b = block_binds true (suc k) (seen y ∷ Θ) w in
          let rest : times x (block_binders E.read) ≡ counted x e = block_binds g (after (suc k) B) Θ u in
          let sum = both (block_binders B.read) (block_binders E.read) first rest in
          omega (arith, sum)
      block_binds g k Δ (block_operation h) = operation_binds true g k Δ h

      operation_binds : (m g : Bool) (k : ℕ) (Δ : List Seen) {e : Tree} → IsOperation e → Binds m (block_of n g k Δ e).read (counted x e)
      operation_binds m g k Δ (is_pure h) = pure_block_binds m g k Δ h
      operation_binds m g k Δ (is_fun {l = l} {b = b} (is_name {x = y}) w) =
          let B : Read t.Block = block_of n true (suc k) (seen y ∷ Δ) b in
          let body : times x (block_binders B.read) ≡ counted x b = block_binds true (suc k) (seen y ∷ Δ) w in
          last_binds m l (t.fun k y B.read) (times x (y ∷ []) + counted x b) (omega (arith, body))
      operation_binds m g k Δ (is_if {l = l} {c = c} {a = a} {b = b} h w u) =
          let X : Read t.Pure = pure_of n Δ (suc k) c in
          let A : Read t.Block = block_of n true (after (suc k) X) Δ a in
          let B : Read t.Block = block_of n true (after (after (suc k) X) A) Δ b in
          let none = pure_binds h in
          let sum = both (block_binders A.read) (block_binders B.read) (block_binds true (after (suc k) X) Δ w) (block_binds true (after (after (suc k) X) A) Δ u) in
          last_binds m l (t.if_else k X.read A.read B.read) (counted x c + (counted x a + counted x b)) (omega (arith, none, sum))
      operation_binds m g k Δ (is_match {l = l} {e = e} {cs = cs} h w) =
          let X : Read t.Use = variable_of n Δ (suc k) e in
          let none = use_binds h in
          let arms = arms_bind (after (suc k) X) Δ [] w in
          last_binds m l (t.match_on k X.read (arms_of n (after (suc k) X) Δ [] cs).read) (counted x e + counted_cases x cs) (omega (arith, none, arms))
      operation_binds m g k Δ (is_tuple h) = none_binds m _ _ _ refl (pures_bind h)
      operation_binds m g k Δ (is_build h) = none_binds m _ _ _ refl (pures_bind h)
      operation_binds m g k Δ (is_call h w) = none_binds m _ _ _ refl (none_both (pure_binds h) (pure_binds w))
      operation_binds m g k Δ (is_quotient h w) = none_binds m _ _ _ refl (none_both (pure_binds h) (pure_binds w))
      operation_binds m g k Δ (is_remainder h w) = none_binds m _ _ _ refl (none_both (pure_binds h) (pure_binds w))
      operation_binds m g k Δ (is_assert h) = none_binds m _ _ _ refl (pure_binds h)
      operation_binds m g k Δ is_assert_false = none_binds m _ _ _ refl refl
      operation_binds m g k Δ (is_make h w) = none_binds m _ _ _ refl (none_both (pure_binds h) (pure_binds w))
      operation_binds m g k Δ (is_fetch h w) = none_binds m _ _ _ refl (none_both (use_binds h) (pure_binds w))
      operation_binds m g k Δ (is_store h w u) = none_binds m _ _ _ refl (none_both (use_binds h) (none_both (pure_binds w) (pure_binds u)))
      operation_binds m g k Δ (is_print h) = none_binds m _ _ _ refl (pure_binds h)
      operation_binds m g k Δ (is_read h) = none_binds m _ _ _ refl (pure_binds h)

      arms_bind : (k : ℕ) (Δ : List Seen) (qs : List t.Pattern) {cs : Cases} → AreArms cs → times x (arms_binders (arms_of n k Δ qs cs).read) ≡ counted_cases x cs
      arms_bind k Δ qs no_arms = refl
      arms_bind k Δ qs (more_arms {q = r} {b = b} {cs = cs} h w u) =
          let q : t.Pattern = pattern_of r in
          let B : Read t.Block = block_of n true k (all_seen (names_of q) Δ) b in
          let rest = arms_of n (after k B) Δ (qs ++ q ∷ []) cs in
          let own = both (names_of q) (block_binders B.read) (ap (times x) (names_read h)) (block_binds true k (all_seen (names_of q) Δ) w) in
          let sum = both (names_of q ++ block_binders B.read) (arms_binders rest.read) own (arms_bind (after k B) Δ (qs ++ q ∷ []) u) in
          omega (arith, sum)

    -- ---- programs

    -- what is behind an item binds so often
    abbrev RestBinds : (ℕ → List Seen → Read t.Program) → ℕ → Type 0
    RestBinds rest m = (k : ℕ) (Θ : List Seen) → times x (binders (rest k Θ).read) ≡ m

    defined_binds : (k : ℕ) (Δ : List Seen) (l : Place) (y : ℕ) {e : Tree} (rest : ℕ → List Seen → Read t.Program) (m : ℕ) → IsBlock e → RestBinds rest m
        → times x (binders (defined n k Δ l y e rest).read) ≡ (times x (y ∷ []) + counted x e) + m
    defined_binds k Δ l y {e} rest m h r =
        let B : Read t.Block = block_of n false k Δ e in
        let j : ℕ = after k B + length (own_point n (has_template B.read) (whole (scope_at n Δ (number_of e)) [] (n.names y))) in
        let body : times x (block_binders B.read) ≡ counted x e = block_binds false k Δ h in
        let behind = r j (seen y ∷ Δ) in
        let sum = times_both (block_binders B.read) (y ∷ binders (rest j (seen y ∷ Δ)).read) in
        omega (arith, body, behind, sum)

    item_binds : (k : ℕ) (Δ : List Seen) {i : ItemForm} (rest : ℕ → List Seen → Read t.Program) (m : ℕ) → IsItem i → RestBinds rest m
        → times x (binders (item n k Δ i rest).read) ≡ counted_form x i + m
    item_binds k Δ rest m item_type r = let behind = r k Δ in omega (arith, behind)
    item_binds k Δ rest m (item_name {l = l} {x = y} h) r = defined_binds k Δ l y rest m h r
    item_binds k Δ rest m (item_unit {e = e} h) r =
        let B : Read t.Block = block_of n true k Δ e in
        let sum = both (block_binders B.read) (binders (rest (after k B) Δ).read) (block_binds true k Δ h) (r (after k B) Δ) in
        omega (arith, sum)
    item_binds k Δ rest m (item_any {e = e} h) r =
        let B : Read t.Block = block_of n false k Δ e in
        let sum = both (block_binders B.read) (binders (rest (after k B) Δ).read) (block_binds false k Δ h) (r (after k B) Δ) in
        omega (arith, sum)
    item_binds k Δ rest m (item_function {f = f} {r = s} h w) r =
        let y : ℕ = reading.parameter_of s.parameter in
        let Θ : List Seen = seen f ∷ Δ in
        let B : Read t.Block = block_of n true (suc k) (seen y ∷ Θ) s.body in
        let one = name_binds h in
        let sum = both (block_binders B.read) (binders (rest (after (suc k) B) Θ).read) (block_binds true (suc k) (seen y ∷ Θ) w) (r (after (suc k) B) Θ) in
        omega (arith, one, sum)
      where
        name_binds : {q : Pattern} → IsName q → times x (reading.parameter_of q ∷ []) ≡ times x (bound_in q)
        name_binds is_name = refl

    items_bind : (is : List ItemTree) → AreNormal is → RestBinds (λ k Δ. program_from n k Δ is) (counted_items x is)
    items_bind [] h k Δ = refl
    items_bind (i ∷ is) h k Δ = item_binds k Δ (λ m Θ. program_from n m Θ is) (counted_items x is) h.0 (items_bind is h.1)

pub program_binds : ReadBindsTheSame
program_binds n is h x = items_bind x n is h 0 []
