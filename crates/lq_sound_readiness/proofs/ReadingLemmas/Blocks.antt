-- Blocks and programs that are read run as they do.
use Rattle.std.proofs.Common.{◌≡◌, ℕ, suc, ◌+◌, Bool, true, false, List, [], ◌∷◌, ◌++◌, length, ◌∙◌, refl, ap, ap₂}
use Rattle.lq_base_names.specs.declared.operation.ArithOp.{ArithOp}
use Rattle.lq_base_names.specs.declared.operation.ArithOp.TheVariants as op
use Rattle.lq_base_names.specs.declared.place.Place.{Place}
use Rattle.lq_text_tree.specs.Items.{ItemTree, ItemForm}
use Rattle.lq_text_tree.specs.Tree as form
use Rattle.lq_text_tree.specs.Tree.{Tree, tree, Form, Trees, no_trees, more_trees, Cases, no_cases, more_cases}
use Rattle.lq_text_walk.specs.Walk.Visits.{place_of}
use Rattle.lq_refined_rules.specs.Checks.Tree as t
use Rattle.lq_refined_rules.specs.Checks.Tree.{has_template, last_operation, names_of}
use Rattle.lq_meaning_steps.specs.Model.Core as core
use Rattle.lq_meaning_steps.specs.Model.FromTree as model
use Rattle.lq_meaning_steps.specs.Model.FromTree.{arithmetic_at, core_form, core_of, cores_of, items_of, parameter_of, pattern_of, with_item}
use Rattle.lq_meaning_steps.specs.Model.Program.{Item, let_item, rec_item}
use Rattle.lq_sound_forms.specs.Pures.Cores.{arms_core, block_core, items_core, operation_core, pure_core}
use Rattle.lq_refined_templates.specs.Points.Annotation.{Annotation}
use Rattle.lq_refined_templates.specs.Points.Pure.{Read, after, pure_of, variable_of}
use Rattle.lq_refined_templates.specs.Points.Reading as reading
use Rattle.lq_refined_templates.specs.Points.Point.{whole}
use Rattle.lq_refined_templates.specs.Points.Reading.{arms_of, block_form, block_of, defined, item, own_point, program_from, quotient_of}
use Rattle.lq_refined_templates.specs.Points.Seen.{Seen, seen, seen_until, all_seen, scope_at}
use Rattle.lq_text_walk.specs.Scoped.Numbers.{number_of}
use Rattle.lq_sound_readiness.specs.Reading.Laws.{ReadMeansTheSame}
use Rattle.lq_sound_readiness.specs.Reading.Normal.{IsPure, pure_whole, pure_flag, pure_unit, pure_use, pure_arithmetic, pure_negated, pure_compare, pure_not, pure_and, pure_or, pure_length, IsBlock, block_let, block_let_rec, block_operation, IsOperation, is_pure, is_fun, is_if, is_match, is_tuple, is_build, is_call, is_quotient, is_remainder, is_assert, is_assert_false, is_make, is_fetch, is_store, is_print, is_read, AreArms, no_arms, more_arms, IsItem, item_type, item_name, item_any, item_unit, item_function, AreNormal}
use Rattle.lq_sound_readiness.proofs.ReadingLemmas.Pures.{arm_read, parameter_read, pure_read, pures_read, variable_read}

-- sums and products are pure, quotients and remainders have their place
quotient_read : (l : Place) (o : ArithOp) (a b : t.Pure) (c d : core.Core) → pure_core a ≡ c → pure_core b ≡ d
    → operation_core l (quotient_of o a b) ≡ core.two (core.arithmetic (arithmetic_at l o)) c d
quotient_read l op.Add a b c d e f = ap₂ (core.two (core.arithmetic core.sum)) e f
quotient_read l op.Sub a b c d e f = ap₂ (core.two (core.arithmetic core.difference)) e f
quotient_read l op.Mul a b c d e f = ap₂ (core.two (core.arithmetic core.product)) e f
quotient_read l op.Div a b c d e f = ap₂ (core.two (core.arithmetic (core.quotient l))) e f
quotient_read l op.Mod a b c d e f = ap₂ (core.two (core.arithmetic (core.remainder l))) e f

-- what is made of equal parts
three : {A B C D : Type 0} (f : A → B → C → D) {a x : A} {b y : B} {c z : C} → a ≡ x → b ≡ y → c ≡ z → f a b c ≡ f x y z
three f {a} {x} {b} {y} {c} {z} d e g = ap (λ (u : _). f u b c) d ∙ ap₂ (f x) e g

-- the block, or its one operation
abbrev Reads : Bool → Place → t.Block → core.Core → Type 0
Reads true l B c = block_core B ≡ c
Reads false l B c = operation_core l (last_operation B) ≡ c

last_reads : (m : Bool) (l : Place) (o : t.Operation) (c : core.Core) → operation_core l o ≡ c → Reads m l (t.last l o) c
last_reads true l o c e = e
last_reads false l o c e = e

module _ (n : Annotation) where
  pure_block_read : (m g : Bool) (k : ℕ) (Δ : List Seen) {e : Tree} → IsPure e → Reads m (place_of e) (block_of n g k Δ e).read (core_of e)
  pure_block_read m g k Δ (pure_whole {i = i} {l = l} {z = z}) = last_reads m l _ (core_of (tree i l (form.whole z))) (pure_read n Δ k (pure_whole {i = i} {l = l} {z = z}))
  pure_block_read m g k Δ (pure_flag {i = i} {l = l} {b = b}) = last_reads m l _ (core_of (tree i l (form.flag b))) (pure_read n Δ k (pure_flag {i = i} {l = l} {b = b}))
  pure_block_read m g k Δ (pure_unit {i = i} {l = l}) = last_reads m l _ (core_of (tree i l form.unit)) (pure_read n Δ k (pure_unit {i = i} {l = l}))
  pure_block_read m g k Δ (pure_use {i = i} {l = l} {x = x}) = last_reads m l _ (core_of (tree i l (form.use_of x))) (pure_read n Δ k (pure_use {i = i} {l = l} {x = x}))
  pure_block_read m g k Δ (pure_negated {i = i} {l = l} {a = a} h) = last_reads m l _ (core_of (tree i l (form.negated a))) (pure_read n Δ k (pure_negated {i = i} {l = l} {a = a} h))
  pure_block_read m g k Δ (pure_compare {i = i} {l = l} {o = o} {a = a} {b = b} h w) = last_reads m l _ (core_of (tree i l (form.compare o a b))) (pure_read n Δ k (pure_compare {i = i} {l = l} {o = o} {a = a} {b = b} h w))
  pure_block_read m g k Δ (pure_not {i = i} {l = l} {a = a} h) = last_reads m l _ (core_of (tree i l (form.not_of a))) (pure_read n Δ k (pure_not {i = i} {l = l} {a = a} h))
  pure_block_read m g k Δ (pure_and {i = i} {l = l} {a = a} {b = b} h w) = last_reads m l _ (core_of (tree i l (form.and_of a b))) (pure_read n Δ k (pure_and {i = i} {l = l} {a = a} {b = b} h w))
  pure_block_read m g k Δ (pure_or {i = i} {l = l} {a = a} {b = b} h w) = last_reads m l _ (core_of (tree i l (form.or_of a b))) (pure_read n Δ k (pure_or {i = i} {l = l} {a = a} {b = b} h w))
  pure_block_read m g k Δ (pure_length {i = i} {l = l} {a = a} h) = last_reads m l _ (core_of (tree i l (form.length_of a))) (pure_read n Δ k (pure_length {i = i} {l = l} {a = a} h))
  pure_block_read m g k Δ (pure_arithmetic {i = i} {l = l} {o = o} {a = a} {b = b} r h w) =
      last_reads m l _ (core_of (tree i l (form.arithmetic o a b)))
      (quotient_read l o (pure_of n Δ k a).read (pure_of n Δ (after k (pure_of n Δ k a)) b).read (core_of a) (core_of b) (pure_read n Δ k h)
      (pure_read n Δ (after k (pure_of n Δ k a)) w))

  mutual
    block_read : (g : Bool) (k : ℕ) (Δ : List Seen) {e : Tree} → IsBlock e → block_core (block_of n g k Δ e).read ≡ core_of e
    block_read g k Δ (block_let {i = i} {l = l} {q = q} {e = e} {b = b} h w u) =
        let E : Read t.Block = block_of n false k Δ e in
        three core.let_in (parameter_read h) (operation_read false false k Δ w) (block_read g (after k E) (seen_until i (reading.parameter_of q) ∷ Δ) u)
    block_read g k Δ (block_let_rec {i = i} {f = f} {j = j} {l = l} {m = r} {q = q} {b = b} {e = e} h w u) =
        let Θ : List Seen = seen_until i f ∷ Δ in
        let B : Read t.Block = block_of n true (suc k) (seen (reading.parameter_of q) ∷ Θ) b in
        three (core.let_rec f) (parameter_read h) (block_read true (suc k) (seen (reading.parameter_of q) ∷ Θ) w) (block_read g (after (suc k) B) Θ u)
    block_read g k Δ (block_operation h) = operation_read true g k Δ h

    operation_read : (m g : Bool) (k : ℕ) (Δ : List Seen) {e : Tree} → IsOperation e → Reads m (place_of e) (block_of n g k Δ e).read (core_of e)
    operation_read m g k Δ (is_pure h) = pure_block_read m g k Δ h
    operation_read m g k Δ (is_fun {i = i} {l = l} {q = q} {b = b} h w) =
        last_reads m l _ (core_of (tree i l (form.fun q b))) (ap₂ core.fun (parameter_read h) (block_read true (suc k) (seen (reading.parameter_of q) ∷ Δ) w))
    operation_read m g k Δ (is_if {i = i} {l = l} {c = c} {a = a} {b = b} h w u) =
        last_reads m l _ (core_of (tree i l (form.if_else c a b))) (
        let x : Read t.Pure = pure_of n Δ (suc k) c in
        let A : Read t.Block = block_of n true (after (suc k) x) Δ a in
        three core.if_else (pure_read n Δ (suc k) h) (block_read true (after (suc k) x) Δ w) (block_read true (after (after (suc k) x) A) Δ u))
    operation_read m g k Δ (is_match {i = i} {l = l} {e = e} {cs = cs} h w) =
        last_reads m l _ (core_of (tree i l (form.match_on e cs))) (ap₂ (core.match_on l) (variable_read n Δ (suc k) h) (arms_read (after (suc k) (variable_of n Δ (suc k) e)) Δ [] w))
    operation_read m g k Δ (is_tuple {i = i} {l = l} {es = es} h) =
        last_reads m l _ (core_of (tree i l (form.tuple es))) (ap (core.row core.tuple) (pures_read n Δ k h))
    operation_read m g k Δ (is_build {i = i} {c = c} {l = l} {w = w} {es = es} h) =
        last_reads m l _ (core_of (tree i l (form.build c w es))) (ap (core.row (core.build c)) (pures_read n Δ (suc k) h))
    operation_read m g k Δ (is_call {i = i} {l = l} {f = f} {a = a} h w) =
        last_reads m l _ (core_of (tree i l (form.call f a))) (ap₂ core.call (pure_read n Δ k h) (pure_read n Δ (after k (pure_of n Δ k f)) w))
    operation_read m g k Δ (is_quotient {i = i} {l = l} {a = a} {b = b} h w) =
        last_reads m l _ (core_of (tree i l (form.arithmetic op.Div a b))) (ap₂ (core.two (core.arithmetic (core.quotient l))) (pure_read n Δ k h) (pure_read n Δ (after k (pure_of n Δ k a)) w))
    operation_read m g k Δ (is_remainder {i = i} {l = l} {a = a} {b = b} h w) =
        last_reads m l _ (core_of (tree i l (form.arithmetic op.Mod a b))) (ap₂ (core.two (core.arithmetic (core.remainder l))) (pure_read n Δ k h) (pure_read n Δ (after k (pure_of n Δ k a)) w))
    operation_read m g k Δ (is_assert {i = i} {l = l} {e = e} h) =
        last_reads m l _ (core_of (tree i l (form.assert e))) (ap (core.one (core.assert l)) (pure_read n Δ k h))
    operation_read m g k Δ (is_assert_false {i = i} {l = l}) =
        last_reads m l _ (core_of (tree i l form.assert_false)) refl
    operation_read m g k Δ (is_make {i = i} {l = l} {n = a} {e = b} h w) =
        last_reads m l _ (core_of (tree i l (form.make a b))) (ap₂ (core.two (core.make l)) (pure_read n Δ (suc k) h) (pure_read n Δ (after (suc k) (pure_of n Δ (suc k) a)) w))
    operation_read m g k Δ (is_fetch {i = i} {l = l} {a = a} {n = b} h w) =
        last_reads m l _ (core_of (tree i l (form.fetch a b))) (ap₂ (core.two (core.fetch l)) (variable_read n Δ k h) (pure_read n Δ (after k (variable_of n Δ k a)) w))
    operation_read m g k Δ (is_store {i = i} {l = l} {a = a} {n = b} {e = c} h w u) =
        last_reads m l _ (core_of (tree i l (form.store a b c))) (
        let x : Read t.Use = variable_of n Δ k a in
        let y : Read t.Pure = pure_of n Δ (after k x) b in
        three (core.three (core.store l)) (variable_read n Δ k h) (pure_read n Δ (after k x) w) (pure_read n Δ (after (after k x) y) u))
    operation_read m g k Δ (is_print {i = i} {l = l} {e = e} h) =
        last_reads m l _ (core_of (tree i l (form.print e))) (ap (core.one core.print) (pure_read n Δ k h))
    operation_read m g k Δ (is_read {i = i} {l = l} {e = e} h) =
        last_reads m l _ (core_of (tree i l (form.read e))) (ap (core.one (core.read l)) (pure_read n Δ k h))

    arms_read : (k : ℕ) (Δ : List Seen) (qs : List t.Pattern) {cs : Cases} → AreArms cs → arms_core (arms_of n k Δ qs cs).read ≡ model.arms_of cs
    arms_read k Δ qs no_arms = refl
    arms_read k Δ qs (more_arms {q = r} {b = b} {cs = cs} h w u) =
        let q : t.Pattern = reading.pattern_of r in
        let B : Read t.Block = block_of n true k (all_seen (names_of q) Δ) b in
        three core.more_arms (arm_read h) (block_read true k (all_seen (names_of q) Δ) w) (arms_read (after k B) Δ (qs ++ q ∷ []) u)

  -- ---- programs

  defined_read : (k : ℕ) (Δ : List Seen) (l : Place) (x : ℕ) (e : Tree) (rest : ℕ → List Seen → Read t.Program) (items : List Item) → IsBlock e
      → ((m : ℕ) (Θ : List Seen) → items_core (rest m Θ).read ≡ items)
      → items_core (defined n k Δ l x e rest).read ≡ let_item (core.variable x) (core_of e) ∷ items
  defined_read k Δ l x e rest items h r =
      let B : Read t.Block = block_of n false k Δ e in
      ap₂ (λ (c : core.Core) (is : List Item). let_item (core.variable x) c ∷ is) (block_read false k Δ h)
      (r (after k B + length (own_point n (has_template B.read) (whole (scope_at n Δ (number_of e)) [] (n.names x)))) (seen x ∷ Δ))

  item_read : (k : ℕ) (Δ : List Seen) {i : ItemForm} (rest : ℕ → List Seen → Read t.Program) (items : List Item) → IsItem i
      → ((m : ℕ) (Θ : List Seen) → items_core (rest m Θ).read ≡ items) → items_core (item n k Δ i rest).read ≡ with_item i items
  item_read k Δ rest items item_type r = r k Δ
  item_read k Δ rest items (item_name {l = l} {x = x} {e = e} h) r = defined_read k Δ l x e rest items h r
  item_read k Δ rest items (item_unit {e = e} h) r =
      let B : Read t.Block = block_of n true k Δ e in
      ap₂ (λ (c : core.Core) (is : List Item). let_item core.empty c ∷ is) (block_read true k Δ h) (r (after k B) Δ)
  item_read k Δ rest items (item_any {e = e} h) r =
      let B : Read t.Block = block_of n false k Δ e in
      ap₂ (λ (c : core.Core) (is : List Item). let_item core.ignored c ∷ is) (block_read false k Δ h) (r (after k B) Δ)
  item_read k Δ rest items (item_function {f = f} {r = s} h w) r =
      let x : ℕ = reading.parameter_of s.parameter in
      let Θ : List Seen = seen f ∷ Δ in
      let B : Read t.Block = block_of n true (suc k) (seen x ∷ Θ) s.body in
      three (λ (q : core.Parameter) (c : core.Core) (is : List Item). rec_item f q c ∷ is) (parameter_read h) (block_read true (suc k) (seen x ∷ Θ) w)
      (r (after (suc k) B) Θ)

  items_read : (is : List ItemTree) → AreNormal is → (k : ℕ) (Δ : List Seen) → items_core (program_from n k Δ is).read ≡ items_of is
  items_read [] h k Δ = refl
  items_read (i ∷ is) h k Δ = item_read k Δ (λ m Θ. program_from n m Θ is) (items_of is) h.0 (λ m Θ. items_read is h.1 m Θ)

pub program_read : ReadMeansTheSame
program_read n is h = items_read n is h 0 []
