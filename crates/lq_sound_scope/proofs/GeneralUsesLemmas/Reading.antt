-- What is read of trees uses names that were defined before where the trees do.
use Rattle.std.proofs.Common.{ℕ, suc, Bool, true, false, List, [], ◌∷◌, ◌++◌, Option, Some, None}
use Rattle.lq_base_names.specs.declared.operation.ArithOp.{ArithOp}
use Rattle.lq_base_names.specs.declared.operation.ArithOp.TheVariants as op
use Rattle.lq_base_names.specs.declared.place.Place.{Place}
use Rattle.lq_text_tree.specs.Items.{ItemTree, ItemForm, type_of, let_of, let_rec_of}
use Rattle.lq_text_tree.specs.MlType.{MlTypes}
use Rattle.lq_text_tree.specs.Pattern.{Pattern, pattern, any, bind, nothing, tuple_of, build_of}
use Rattle.lq_text_tree.specs.Tree as form
use Rattle.lq_text_tree.specs.Tree.{Tree, tree, Form, Trees, no_trees, more_trees, Cases, no_cases, more_cases}
use Rattle.lq_text_walk.specs.Walk.Fold.{fold_all, fold_cases}
use Rattle.lq_meaning_normal_form.specs.Types.Written.{Each, EachBody}
use Rattle.lq_refined_rules.specs.Checks.Tree as t
use Rattle.lq_refined_rules.specs.Checks.Tree.{Pure, Block, names_of, last_operation, has_template}
use Rattle.lq_sound_values.specs.Inclusion.Symbols.{Symbols}
use Rattle.lq_refined_templates.specs.Points.Annotation.{Annotation, arguments_at}
use Rattle.lq_refined_templates.specs.Points.Pure.{after, arithmetic_of, use_with, variable_form, variable_of, pure_of, pure_form, pures_of}
use Rattle.lq_refined_templates.specs.Points.Reading.{parameter_of, pattern_of, quotient_of, operation_form, block_of, block_form, arms_of, Rest, let_item, item, program_from}
use Rattle.lq_refined_templates.specs.Points.Seen.{Seen, seen, seen_until, all_seen}
use Rattle.lq_sound_scope.specs.Scalars.Uses.{IsUseBefore, PureUsesBefore, PuresUseBefore, UsesBefore, BlockUsesBefore, ArmsUseBefore, ProgramUsesBefore}
use Rattle.lq_sound_scope.specs.GeneralUses.Trees.{IsInstanceOf, using, TreeUses, ItemUses, with_item, ItemsUseBefore}
use Rattle.lq_sound_scope.specs.GeneralUses.Laws.{ReadProgramsUseBefore}

module _ (n : Annotation) (G : Symbols) where
  -- ---- pure expressions

  use_is : (Δ : List Seen) (k i x : ℕ) (o : Option MlTypes) → IsInstanceOf G x o → IsUseBefore G (use_with n Δ k i x o).read
  use_is Δ k i x None h = tt
  use_is Δ k i x (Some ts) h = h

  variable_form_is : (Δ : List Seen) (k i : ℕ) (p : Place) (f : Form) → TreeUses n G (tree i p f) → IsUseBefore G (variable_form n Δ k i f).read
  variable_form_is Δ k i p (form.use_of x) h = use_is Δ k i x (arguments_at n i x) h
  variable_form_is Δ k i p f h = tt

  variable_is : (Δ : List Seen) (k : ℕ) (e : Tree) → TreeUses n G e → IsUseBefore G (variable_of n Δ k e).read
  variable_is Δ k (tree i p f) h = variable_form_is Δ k i p f h

  arithmetic_is : (o : ArithOp) (a b : Pure) → PureUsesBefore G a → PureUsesBefore G b → PureUsesBefore G (arithmetic_of o a b)
  arithmetic_is op.Add a b h l = (h, l)
  arithmetic_is op.Sub a b h l = (h, l)
  arithmetic_is op.Mul a b h l = (h, l)
  arithmetic_is op.Div a b h l = tt
  arithmetic_is op.Mod a b h l = tt

  quotient_is : (o : ArithOp) (a b : Pure) → PureUsesBefore G a → PureUsesBefore G b → UsesBefore G (quotient_of o a b)
  quotient_is op.Add a b h l = (h, l)
  quotient_is op.Sub a b h l = (h, l)
  quotient_is op.Mul a b h l = (h, l)
  quotient_is op.Div a b h l = (h, l)
  quotient_is op.Mod a b h l = (h, l)

  mutual
    pure_is : (Δ : List Seen) (k : ℕ) (e : Tree) → TreeUses n G e → PureUsesBefore G (pure_of n Δ k e).read
    pure_is Δ k (tree i p f) h = pure_form_is Δ k i p f h

    pure_form_is : (Δ : List Seen) (k i : ℕ) (p : Place) (f : Form) → TreeUses n G (tree i p f) → PureUsesBefore G (pure_form n Δ k i f).read
    pure_form_is Δ k i p (form.use_of x) h = use_is Δ k i x (arguments_at n i x) h
    pure_form_is Δ k i p (form.arithmetic o a b) h =
        let x = pure_of n Δ k a in
        arithmetic_is o x.read (pure_of n Δ (after k x) b).read (pure_is Δ k a h.0) (pure_is Δ (after k x) b h.1)
    pure_form_is Δ k i p (form.negated a) h = pure_is Δ k a h
    pure_form_is Δ k i p (form.compare o a b) h = (pure_is Δ k a h.0, pure_is Δ (after k (pure_of n Δ k a)) b h.1)
    pure_form_is Δ k i p (form.not_of a) h = pure_is Δ k a h
    pure_form_is Δ k i p (form.and_of a b) h = (pure_is Δ k a h.0, pure_is Δ (after k (pure_of n Δ k a)) b h.1)
    pure_form_is Δ k i p (form.or_of a b) h = (pure_is Δ k a h.0, pure_is Δ (after k (pure_of n Δ k a)) b h.1)
    pure_form_is Δ k i p (form.length_of a) h = pure_is Δ k a h
    pure_form_is Δ k i p f h = tt

  pures_are : (Δ : List Seen) (k : ℕ) (es : Trees) → Each (fold_all (using n G) es) → PuresUseBefore G (pures_of n Δ k es).read
  pures_are Δ k no_trees h = tt
  pures_are Δ k (more_trees e es) h = (pure_is Δ k e h.0, pures_are Δ (after k (pure_of n Δ k e)) es h.1)

  -- ---- operations

  two_are : (Δ : List Seen) (k : ℕ) (a b : Tree) → TreeUses n G a × TreeUses n G b
      → let x = pure_of n Δ k a in PureUsesBefore G x.read × PureUsesBefore G (pure_of n Δ (after k x) b).read
  two_are Δ k a b h = (pure_is Δ k a h.0, pure_is Δ (after k (pure_of n Δ k a)) b h.1)

  operation_is : (k : ℕ) (Δ : List Seen) (i : ℕ) (p : Place) (f : Form) → TreeUses n G (tree i p f) → UsesBefore G (operation_form n k Δ i f).read
  operation_is k Δ i p (form.tuple es) h = pures_are Δ k es h
  operation_is k Δ i p (form.build c w es) h = pures_are Δ (suc k) es h
  operation_is k Δ i p (form.call f a) h = two_are Δ k f a h
  operation_is k Δ i p (form.arithmetic o a b) h =
      let x = pure_of n Δ k a in let both = two_are Δ k a b h in quotient_is o x.read (pure_of n Δ (after k x) b).read both.0 both.1
  operation_is k Δ i p (form.assert e) h = pure_is Δ k e h
  operation_is k Δ i p form.assert_false h = tt
  operation_is k Δ i p (form.make a b) h = two_are Δ (suc k) a b h
  operation_is k Δ i p (form.fetch a b) h = (variable_is Δ k a h.0, pure_is Δ (after k (variable_of n Δ k a)) b h.1)
  operation_is k Δ i p (form.store a b c) h =
      let x = variable_of n Δ k a in let y = pure_of n Δ (after k x) b in
      (variable_is Δ k a h.0, pure_is Δ (after k x) b h.1, pure_is Δ (after (after k x) y) c h.2)
  operation_is k Δ i p (form.print e) h = pure_is Δ k e h
  operation_is k Δ i p (form.read e) h = pure_is Δ k e h
  operation_is k Δ i p form.map_empty h = tt
  operation_is k Δ i p (form.map_add a b c) h =
      let x = pure_of n Δ (suc k) a in let y = pure_of n Δ (after (suc k) x) b in
      (pure_is Δ (suc k) a h.0, pure_is Δ (after (suc k) x) b h.1, pure_is Δ (after (after (suc k) x) y) c h.2)
  operation_is k Δ i p (form.map_find a b) h = two_are Δ k a b h
  operation_is k Δ i p f h = pure_form_is Δ k i p f h

  -- ---- blocks

  last_is : (b : Block) → BlockUsesBefore G b → UsesBefore G (last_operation b)
  last_is (t.last l o) h = h
  last_is (t.binding x l o b) h = last_is b h.1
  last_is (t.recursive g p y b c) h = last_is c h.1

  mutual
    pub block_is : (g : Bool) (k : ℕ) (Δ : List Seen) (e : Tree) → TreeUses n G e → BlockUsesBefore G (block_of n g k Δ e).read
    block_is g k Δ (tree i p f) h = block_form_is g k Δ i p f h

    block_form_is : (g : Bool) (k : ℕ) (Δ : List Seen) (i : ℕ) (l : Place) (f : Form) → TreeUses n G (tree i l f)
        → BlockUsesBefore G (block_form n g k Δ i l f).read
    block_form_is g k Δ i l (form.let_in q e b) h =
        let E = block_of n false k Δ e in
        (last_is E.read (block_is false k Δ e h.0), block_is g (after k E) (seen_until i (parameter_of q) ∷ Δ) b h.1)
    block_form_is g k Δ i l (form.let_rec f j m q b e) h =
        let Θ = seen_until i f ∷ Δ in let B = block_of n true (suc k) (seen (parameter_of q) ∷ Θ) b in
        (block_is true (suc k) (seen (parameter_of q) ∷ Θ) b h.0, block_is g (after (suc k) B) Θ e h.1)
    block_form_is g k Δ i l (form.fun q b) h = block_is true (suc k) (seen (parameter_of q) ∷ Δ) b h
    block_form_is g k Δ i l (form.if_else c a b) h =
        let x = pure_of n Δ (suc k) c in let A = block_of n true (after (suc k) x) Δ a in (
          pure_is Δ (suc k) c h.0,
          block_is true (after (suc k) x) Δ a h.1,
          block_is true (after (after (suc k) x) A) Δ b h.2,
        )
    block_form_is g k Δ i l (form.match_on e cs) h =
        (variable_is Δ (suc k) e h.0, arms_are (after (suc k) (variable_of n Δ (suc k) e)) Δ [] cs h.1)
    block_form_is g k Δ i l f h = operation_is k Δ i l f h

    arms_are : (k : ℕ) (Δ : List Seen) (qs : List t.Pattern) (cs : Cases) → EachBody (fold_cases (using n G) cs)
        → ArmsUseBefore G (arms_of n k Δ qs cs).read
    arms_are k Δ qs no_cases h = tt
    arms_are k Δ qs (more_cases r b cs) h =
        let q = pattern_of r in let B = block_of n true k (all_seen (names_of q) Δ) b in
        (block_is true k (all_seen (names_of q) Δ) b h.0, arms_are (after k B) Δ (qs ++ q ∷ []) cs h.1)

-- ---- programs

module _ (n : Annotation) where
  -- what comes behind an item does
  abbrev RestUses : Symbols → Rest n → Type 0
  RestUses G rest = (m : ℕ) (Θ : List Seen) → ProgramUsesBefore G (rest m Θ).read

  let_is : (G : Symbols) (k : ℕ) (Δ : List Seen) (q : Pattern) (e : Tree) (rest : Rest n) → TreeUses n G e → RestUses (with_item G (let_of q e)) rest
      → ProgramUsesBefore G (let_item n k Δ q e rest).read
  let_is G k Δ (pattern l (bind x)) e rest h later = (block_is n G false k Δ e h, later _ _)
  let_is G k Δ (pattern l nothing) e rest h later = (block_is n G true k Δ e h, later _ _)
  let_is G k Δ (pattern l any) e rest h later = (block_is n G false k Δ e h, later _ _)
  let_is G k Δ (pattern l (tuple_of qs)) e rest h later = (block_is n G false k Δ e h, later _ _)
  let_is G k Δ (pattern l (build_of c m qs)) e rest h later = (block_is n G false k Δ e h, later _ _)

  item_is : (G : Symbols) (k : ℕ) (Δ : List Seen) (f : ItemForm) (rest : Rest n) → ItemUses n G f → RestUses (with_item G f) rest
      → ProgramUsesBefore G (item n k Δ f rest).read
  item_is G k Δ (type_of d) rest h later = later k Δ
  item_is G k Δ (let_of q e) rest h later = let_is G k Δ q e rest h later
  item_is G k Δ (let_rec_of f r) rest h later =
      (block_is n G true (suc k) (seen (parameter_of r.parameter) ∷ (seen f ∷ Δ)) r.body h, later _ _)

  program_is : (is : List ItemTree) (G : Symbols) (k : ℕ) (Δ : List Seen) → ItemsUseBefore n G is → ProgramUsesBefore G (program_from n k Δ is).read
  program_is [] G k Δ h = tt
  program_is (i ∷ is) G k Δ h =
      item_is G k Δ i.form (λ m Θ. program_from n m Θ is) h.0 (λ m Θ. program_is is (with_item G i.form) m Θ h.1)

pub read_use : ReadProgramsUseBefore
read_use n G is h = program_is n is G 0 [] h
