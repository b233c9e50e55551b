-- One visit more.
use Rattle.std.proofs.Common.{◌≡◌, ◌⊎◌, inl, inr, Bool, true, false, ℕ, zero, suc, ◌+◌, ◌<◌, ◌≤◌, List, [], ◌∷◌, ◌++◌, take, reverse, Option, Some, None, Result, Ok, Err, IfOk, All, length, refl, sym, ap, subst, ◌∙◌, arith}
use Rattle.std.proofs.lemmas.List.{reverse-append, reverse-reverse, append-nil, map-append, length-append}
use Rattle.std.proofs.Math.Seq.{take-append_seam}
use Rattle.lq_text_tree.specs.Tree.{Tree, tree}
use Rattle.lq_text_tree.specs.MlType.{MlType}
use Rattle.lq_text_tree.specs.Items.{ItemForm, type_of, let_of, let_rec_of}
use Rattle.lq_text_tree.specs.Pattern.{Pattern, pattern, any, bind, nothing, tuple_of, build_of}
use Rattle.lq_text_tree.specs.Types.{Signature}
use Rattle.lq_types_unify.specs.declared.arena.Equation.{Equation}
use Rattle.lq_types_unify.specs.Knowing.{IsLonger, Knows}
use Rattle.lq_text_walk.specs.Walk.Shape as shape
use Rattle.lq_text_walk.specs.Walk.Shape.{Leaf, Shape, shape_of}
use Rattle.lq_text_walk.specs.Walk.Visits.{Visit, enter_item, leave_item, enter, leave, leave_function, declare, show, hide, show_name, hide_name}
use Rattle.lq_types_rules.specs.declared.equations.system.System.{System}
use Rattle.lq_types_rules.specs.Equations.Adding.{IsSystem, Adds, Grows}
use Rattle.lq_types_rules.specs.Equations.Solved.{Solves}
use Rattle.lq_types_rules.specs.Equations.Gathered.{VisitRule, VisitIn}
use Rattle.lq_types_rules.specs.Equations.Within.{LeafIn, ShapeIn, TreeIn}
use Rattle.lq_types_rules.specs.Visits.Owning.{binder_slots, visit_slots, slots_by, slots_at}
use Rattle.lq_types_rules.specs.Typings.Uses.{Known, GeneralUse, use_at, use_at_tree, use_at_shape, use_at_leaf, use_by, before_in, with_name, behind_let, behind_form, behind, is_value}
use Rattle.lq_types_infer.specs.declared.inference.equations.Equations.{Equations}
use Rattle.lq_types_infer.specs.Inference.Copying.{AreClear, AddsUse}
use Rattle.lq_types_infer.specs.Inference.Adding.{IsAdded}
use Rattle.lq_types_infer.specs.Inference.Defining.{HasKnown}
use Rattle.lq_types_infer.specs.Inference.Opening.{AreTold}
use Rattle.lq_types_infer.specs.declared.inference.definitions.Definitions.{Definitions}
use Rattle.lq_types_infer.specs.Inference.Gathering.{StepBy, IsStep}
use Rattle.lq_types_infer.proofs.InferenceLemmas.Sharing.{same_system, same_longer, same_keeps}
use Rattle.lq_types_infer.proofs.InferenceLemmas.Using.{keeps}
use Rattle.lq_types_infer.proofs.InferenceLemmas.Opened.{told_later}
use Rattle.lq_types_infer.proofs.InferenceLemmas.Naming.{all_left, all_right, all_first, all_rest}

-- ---- the slots of binders

pub slots_low : (nodes m : ℕ) (ps : List ℕ) → All (λ i. i < m) (binder_slots nodes (reverse ps)) → All (λ p. nodes + p < m) ps
slots_low nodes m [] h = λ k d l. absurd (omega arith)
slots_low nodes m (p ∷ ps) h =
    one_more (subst (All (λ i. i < m)) turned h) (slots_low nodes m ps (all_left (λ i. i < m) (binder_slots nodes (reverse ps)) ((nodes + p) ∷ []) (subst (All (λ i. i < m)) turned h)))
  where
    turned : binder_slots nodes (reverse (p ∷ ps)) ≡ binder_slots nodes (reverse ps) ++ (nodes + p) ∷ []
    turned = ap (binder_slots nodes) (reverse-append (p ∷ []) ps) ∙ map-append (λ x. nodes + x) (reverse ps) (p ∷ [])

    one_more : All (λ i. i < m) (binder_slots nodes (reverse ps) ++ (nodes + p) ∷ []) → All (λ q. nodes + q < m) ps → All (λ q. nodes + q < m) (p ∷ ps)
    one_more a rest zero d l = all_right (λ i. i < m) (binder_slots nodes (reverse ps)) ((nodes + p) ∷ []) a 0 0 (omega arith)
    one_more a rest (suc k) d l = rest k d (omega arith)

-- ---- the definition of a use is in range

binder_by : (nodes n i x : ℕ) (o : Option (List ℕ)) (u : GeneralUse) → nodes + x < n → use_by i x o ≡ Some u → nodes + u.binder < n
binder_by nodes n i x None u l e = absurd (cc)
binder_by nodes n i x (Some ps) u l e = subst (λ (y : GeneralUse). nodes + y.binder < n) (some_same (record { node = i; binder = x; before = ps }) u e) l
  where
    some_same : (y z : GeneralUse) → Some y ≡ Some z → y ≡ z
    some_same y z r = cc

binder_of_leaf : (k : Known) (nodes n i : ℕ) (h : Leaf) (u : GeneralUse) → LeafIn nodes n h → use_at_leaf k i h ≡ Some u → nodes + u.binder < n
binder_of_leaf k nodes n i (shape.use_of x) u l e = binder_by nodes n i x (before_in k.general x) u l e
binder_of_leaf k nodes n i (shape.whole m) u l e = absurd (cc)
binder_of_leaf k nodes n i (shape.flag b) u l e = absurd (cc)
binder_of_leaf k nodes n i shape.unit u l e = absurd (cc)
binder_of_leaf k nodes n i (shape.qualified m x) u l e = absurd (cc)
binder_of_leaf k nodes n i shape.assert_false u l e = absurd (cc)
binder_of_leaf k nodes n i shape.map_empty u l e = absurd (cc)

binder_of_shape : (k : Known) (nodes n i : ℕ) (h : Shape) (u : GeneralUse) → ShapeIn nodes n h → use_at_shape k i h ≡ Some u → nodes + u.binder < n
binder_of_shape k nodes n i (shape.leaf h) u l e = binder_of_leaf k nodes n i h u l e
binder_of_shape k nodes n i (shape.one h a) u l e = absurd (cc)
binder_of_shape k nodes n i (shape.two h a b) u l e = absurd (cc)
binder_of_shape k nodes n i (shape.three h a b c) u l e = absurd (cc)
binder_of_shape k nodes n i (shape.row h ts) u l e = absurd (cc)
binder_of_shape k nodes n i (shape.function p b) u l e = absurd (cc)
binder_of_shape k nodes n i (shape.let_in p a b) u l e = absurd (cc)
binder_of_shape k nodes n i (shape.let_rec f m q p a b) u l e = absurd (cc)
binder_of_shape k nodes n i (shape.match_on a as_) u l e = absurd (cc)

binder_of_tree : (k : Known) (nodes n : ℕ) (t : Tree) (u : GeneralUse) → TreeIn nodes n t → use_at_tree k t ≡ Some u → nodes + u.binder < n
binder_of_tree k nodes n (tree i p f) u l e = binder_of_shape k nodes n i (shape_of f) u l.1 e

pub binder_in : (k : Known) (nodes n : ℕ) (v : Visit) (u : GeneralUse) → VisitIn nodes n v → use_at k v ≡ Some u → nodes + u.binder < n
binder_in k nodes n (leave t) u l e = binder_of_tree k nodes n t u l e
binder_in k nodes n (enter_item i) u l e = absurd (cc)
binder_in k nodes n (leave_item i) u l e = absurd (cc)
binder_in k nodes n (enter t) u l e = absurd (cc)
binder_in k nodes n (leave_function r) u l e = absurd (cc)
binder_in k nodes n (declare q) u l e = absurd (cc)
binder_in k nodes n (show q) u l e = absurd (cc)
binder_in k nodes n (hide q) u l e = absurd (cc)
binder_in k nodes n (show_name x) u l e = absurd (cc)
binder_in k nodes n (hide_name x) u l e = absurd (cc)

module _ (nodes : ℕ) (k : Known) (v : Visit) (u : GeneralUse) (e : use_at k v ≡ Some u) where
  slots_are : slots_at nodes k v ≡ u.node ∷ binder_slots nodes u.before
  slots_are = ap (λ o. slots_by nodes o (visit_slots nodes v)) e

  pub use_node_in : (n : ℕ) → All (λ i. i < n) (slots_at nodes k v) → u.node < n
  use_node_in n a = all_first (λ i. i < n) u.node (binder_slots nodes u.before) (subst (All (λ i. i < n)) slots_are a)

  pub use_fixed_in : (n : ℕ) → All (λ i. i < n) (slots_at nodes k v) → All (λ i. i < n) (binder_slots nodes u.before)
  use_fixed_in n a = all_rest (λ i. i < n) u.node (binder_slots nodes u.before) (subst (All (λ i. i < n)) slots_are a)

  pub use_step : (g : Signature) (old new : System) → AddsUse old new (binder_slots nodes u.before) (nodes + u.binder) u.node → IsStep g nodes k v old new
  use_step g old new c = subst (λ o. StepBy g nodes o v old new) (sym e) c

pub rule_step : (g : Signature) (nodes : ℕ) (k : Known) (v : Visit) (old new : System) → use_at k v ≡ None → Adds old new (VisitRule g nodes v) → IsStep g nodes k v old new
rule_step g nodes k v old new e a = subst (λ o. StepBy g nodes o v old new) (sym e) a

-- ---- more equations

pub front_is : (old new more : List Equation) → new ≡ old ++ more → take (length old) new ≡ old
front_is old new more e = ap (take (length old)) e ∙ take-append_seam old more

pub front_short : (old new more : List Equation) → new ≡ old ++ more → length old ≤ length new
front_short old new more e = let x = ap length e in let y = length-append old more in omega arith

-- a use adds one equation
pub use_keeps : (old new : System) (fixed : List ℕ) (definition node : ℕ) → IsSystem old → AddsUse old new fixed definition node → (types : ℕ → MlType) → Solves new new.equations.items types → Solves old old.equations.items types
use_keeps old new fixed definition node s (inl c) = keeps old new fixed definition node s c c.definition_in c.node_in c.fixed_in
use_keeps old new fixed definition node s (inr c) = same_keeps old new fixed definition node c

pub use_added : (nodes : ℕ) (old new : Equations) (fixed : List ℕ) (definition node : ℕ) → IsSystem old.system → Knows new.system.arena old.system.equations.items new.solver → AreClear new.weak.items → new.definitions ≡ old.definitions
    → AreTold nodes old.system new.definitions.plain.items new.opened.told new.opened.places.items → AddsUse old.system new.system fixed definition node → IsAdded nodes old new
use_added nodes old new fixed definition node sound knows clear same told added = by added
  where
    now_told : AreTold nodes new.system new.definitions.plain.items new.opened.told new.opened.places.items
    now_told = told_later nodes old.system new.definitions.plain.items new.opened.told new.opened.places.items told new.system (use_keeps old.system new.system fixed definition node sound added)

    by : AddsUse old.system new.system fixed definition node → IsAdded nodes old new
    by (inl c) = record {
      system = c.system;
      longer = c.longer;
      room = front_short old.system.equations.items _ _ c.equations_are;
      front = front_is old.system.equations.items _ _ c.equations_are;
      knows = knows;
      clear = clear;
      told = now_told;
      same = same;
    }
    by (inr c) = record {
      system = same_system old.system new.system fixed definition node c sound;
      longer = same_longer old.system new.system fixed definition node c;
      room = front_short old.system.equations.items _ _ c.equations_are;
      front = front_is old.system.equations.items _ _ c.equations_are;
      knows = knows;
      clear = clear;
      told = now_told;
      same = same;
    }

-- what is known behind a visit has one more definition that isn't generalised, or none
plain_by_name : (k : Known) (x : ℕ) (value : Bool) → ((with_name k x value).plain ≡ k.plain) ⊎ ((y : ℕ) × ((with_name k x value).plain ≡ y ∷ k.plain))
plain_by_name k x true = inl refl
plain_by_name k x false = inr (x, refl)

plain_by_let : (k : Known) (q : Pattern) (value : Bool) → ((behind_let k q value).plain ≡ k.plain) ⊎ ((y : ℕ) × ((behind_let k q value).plain ≡ y ∷ k.plain))
plain_by_let k (pattern p any) value = inl refl
plain_by_let k (pattern p (bind x)) value = plain_by_name k x value
plain_by_let k (pattern p nothing) value = inl refl
plain_by_let k (pattern p (tuple_of qs)) value = inl refl
plain_by_let k (pattern p (build_of c m qs)) value = inl refl

plain_by_form : (k : Known) (f : ItemForm) → ((behind_form k f).plain ≡ k.plain) ⊎ ((y : ℕ) × ((behind_form k f).plain ≡ y ∷ k.plain))
plain_by_form k (type_of d) = inl refl
plain_by_form k (let_of q e) = plain_by_let k q (is_value e)
plain_by_form k (let_rec_of f r) = inl refl

plain_by : (k : Known) (v : Visit) → ((behind k v).plain ≡ k.plain) ⊎ ((y : ℕ) × ((behind k v).plain ≡ y ∷ k.plain))
plain_by k (enter_item i) = inl refl
plain_by k (leave_item i) = plain_by_form k i.form
plain_by k (enter t) = inl refl
plain_by k (leave t) = inl refl
plain_by k (leave_function r) = inl refl
plain_by k (declare q) = inl refl
plain_by k (show q) = inl refl
plain_by k (hide q) = inl refl
plain_by k (show_name x) = inl refl
plain_by k (hide_name x) = inl refl

pub plain_grows : (k : Known) (v : Visit) (old new : Definitions) → HasKnown old k → HasKnown new (behind k v) → (more : List ℕ) × (new.plain.items ≡ old.plain.items ++ more)
plain_grows k v old new h g = by (plain_by k v)
  where
    turned : (d : Definitions) (j : Known) → HasKnown d j → d.plain.items ≡ reverse j.plain
    turned d j x = sym (ap reverse x.plain_is ∙ reverse-reverse d.plain.items)

    by : ((behind k v).plain ≡ k.plain) ⊎ ((y : ℕ) × ((behind k v).plain ≡ y ∷ k.plain)) → (more : List ℕ) × (new.plain.items ≡ old.plain.items ++ more)
    by (inl e) = ([], turned new (behind k v) g ∙ ap reverse e ∙ sym (turned old k h) ∙ sym (append-nil old.plain.items))
    by (inr (y, e)) = (y ∷ [], turned new (behind k v) g ∙ ap reverse e ∙ reverse-append (y ∷ []) k.plain ∙ ap (λ xs. xs ++ y ∷ []) (sym (turned old k h)))

pub longer_arena : (old new : System) (more : List Equation) → Grows old new more → IsLonger old.arena new.arena
longer_arena old new more g = record { more = g.longer; same = g.kept }

pub if_ok : {A E : Type 0} (P Q : A → Type 0) (r : Result A E) → ((x : A) → P x → Q x) → IfOk r P → IfOk r Q
if_ok P Q (Ok x) f h = f x h
if_ok P Q (Err e) f h = tt
