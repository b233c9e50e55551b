-- Definitions, one after another.
use Rattle.std.proofs.Common.{◌≡◌, ◌∙◌, ℕ, suc, ◌+◌, Bool, false, true, cond, not, List, [], ◌∷◌, ◌++◌, length, None, refl, sym, ap, ap₂, subst, append_assoc, arith, rules}
use Rattle.std.proofs.lemmas.List.{length-append}
use Rattle.std.specs.declared.alloc.Global.{Global}
use Rattle.std.specs.declared.boxed.Box.{Box}
use Rattle.lq_meaning_normal_tree.specs.BlockView.{recursive_view}
use Rattle.lq_meaning_normal_tree.specs.declared.block.Recursive.{Recursive, out-Recursive}
use Rattle.lq_refined_rules.specs.Checks.Tree as t
use Rattle.lq_refined_rules.specs.Checks.Tree.{has_template, is_fun, last_operation}
use Rattle.lq_base_names.specs.declared.name.Binder.{Binder}
use Rattle.lq_base_names.specs.declared.name.Name.{Name}
use Rattle.lq_base_names.specs.declared.place.Place.{Place}
use Rattle.lq_refined_templates.specs.Programs.BlockView as made
use Rattle.lq_refined_templates.specs.declared.programs.block.Binding.{Binding as MadeBinding, out-Binding, map-Binding, fold_out-Binding, the_lemmas as made_lemmas}
use Rattle.lq_refined_templates.specs.declared.programs.block.Binding.TheOpen.{Binding-F, Operation-F}
use Rattle.lq_refined_templates.specs.declared.programs.block.Block.{Block as MadeBlock, out-Block}
use Rattle.lq_refined_templates.specs.declared.programs.block.Arm.{Arm as MadeArm}
use Rattle.lq_refined_templates.specs.declared.programs.block.Item.{Item}
use Rattle.lq_refined_templates.specs.declared.programs.block.Operation.{Operation as MadeOperation, out-Operation, roll-Operation, roll-out-Operation, map-Operation, fold_out-Operation}
use Rattle.lq_refined_templates.specs.declared.programs.block.Operation.TheVariants as made_operation
use Rattle.lq_refined_templates.specs.declared.programs.block.Quotient.TheVariants as quotient
use Rattle.lq_refined_templates.specs.Points.Annotation.{Annotation}
use Rattle.lq_refined_templates.specs.Points.Point.{whole}
use Rattle.lq_refined_templates.specs.Points.Pure.{Read, after, with_one, with_two}
use Rattle.lq_refined_templates.specs.Points.Reading.{block_of, function_names, function_point, item, own_point, parameter_of, program_from}
use Rattle.lq_refined_templates.specs.Points.Seen.{Seen, seen, scope_at}
use Rattle.lq_text_walk.specs.Scoped.Numbers.{number_of}
use Rattle.lq_text_tree.specs.Items.{ItemForm, ItemTree, type_of, let_of, let_rec_of}
use Rattle.lq_text_tree.specs.Pattern as p
use Rattle.lq_text_tree.specs.Pattern.{pattern}
use Rattle.lq_text_tree.specs.PatternView.{pat_form_view, pat_view, pats_view}
use Rattle.lq_text_tree.specs.Tree.{Tree}
use Rattle.lq_text_tree.specs.declared.pattern.Pat.{Pat, the_lemmas as pattern_lemmas}
use Rattle.lq_text_tree.specs.declared.pattern.PatNode.TheVariants as pat
use Rattle.lq_text_tree.specs.declared.pattern.Pats.{Pats}
use Rattle.lq_generate_reading.specs.Visibility.Growing.{Longer-trans}
use Rattle.lq_generate_reading.specs.Visibility.Notes.{annotation_view}
use Rattle.lq_generate_reading.specs.declared.visibility.notes.Notes.{Notes}
use Rattle.lq_generate_reading.specs.Reading.Blocks.{block_read, recursive_of, recursive_read}
use Rattle.lq_generate_reading.specs.Reading.Items.{defined_point_of, defined_point_read, item_of, item_seen, items_onto, program_read, Before, ItemReads}
use Rattle.lq_generate_reading.specs.Reading.Names.{Sees}
use Rattle.lq_generate_reading.specs.Reading.State.{count_of, noted, points_in, scopes_of, seen_of, Reads, Stands}
use Rattle.lq_generate_reading.specs.Reading.Through.{Through}
use Rattle.lq_generate_reading.specs.declared.reading.state.State.{State}
use Rattle.lq_generate_reading.proofs.ReadingLemmas.Composing.{count_after, reads_nothing}
use Rattle.lq_generate_reading.proofs.ReadingLemmas.LetForms.{count_of_points, recursive_seen}
use Rattle.lq_generate_reading.proofs.ReadingLemmas.Made.{made_fun}
use Rattle.lq_generate_reading.proofs.ReadingLemmas.OwnForms.{after_behind}

-- what follows a definition behind what it is read as
pub item_next : (n : Annotation) (k : ℕ) (Δ : List Seen) (i : ItemForm) (rest : ℕ → List Seen → Read t.Program)
    → item n k Δ i rest ≡ with_two (item_of n k Δ i) (rest (after k (item_of n k Δ i)) (item_seen n i Δ)) (λ f r. f r)
item_next n k Δ (type_of d) rest = ap (λ j. rest j Δ) (here k)
  where
    here : (k : ℕ) → k ≡ k + 0
    here k = omega arith
item_next n k Δ (let_of (pattern l (p.bind x)) e) rest =
    let B = block_of n false k Δ e in
    let P = defined_point_of n (after k B) Δ x (number_of e) B.read in
    let count : after k B + length P.points ≡ k + length (B.points ++ P.points) = (let h = length-append B.points P.points in omega arith) in
    ap (λ j. let R = rest j (seen x ∷ Δ) in record { read = t.define x l P.read B.read R.read; points = B.points ++ (P.points ++ R.points) }) count
    ∙ ap
    (λ ps. record { read = t.define x l P.read B.read (rest (k + length (B.points ++ P.points)) (seen x ∷ Δ)).read; points = ps })
    (sym (append_assoc B.points P.points (rest (k + length (B.points ++ P.points)) (seen x ∷ Δ)).points))
item_next n k Δ (let_of (pattern l p.nothing) e) rest = refl
item_next n k Δ (let_of (pattern l p.any) e) rest = refl
item_next n k Δ (let_of (pattern l (p.tuple_of qs)) e) rest = refl
item_next n k Δ (let_of (pattern l (p.build_of c m qs)) e) rest = refl
item_next n k Δ (let_rec_of f r) rest =
    let Θ = seen f ∷ Δ in
    let x = parameter_of r.parameter in
    let w = whole (scope_at n Θ r.id) (function_names n r.parameter r.body) (n.names f) in
    let B : Read t.Block = block_of n true (suc k) (seen x ∷ Θ) r.body in
    ap (λ j. let R = rest j Θ in record { read = t.define_recursive f k x B.read R.read; points = w ∷ (B.points ++ R.points) })
    (sym (after_behind {A = ℕ × t.Block} k w (with_one B (λ c. (k, c)))))

pub items_onto-push : (is : List Item) (i : Item) (rest : t.Program) → items_onto (is ++ i ∷ []) rest ≡ items_onto is (made.item_view i rest)
items_onto-push [] i rest = refl
items_onto-push (j ∷ is) i rest = ap (made.item_view j) (items_onto-push is i rest)

pub items_onto-all : (is : List Item) → items_onto is t.no_items ≡ made.program_view is
items_onto-all [] = refl
items_onto-all (i ∷ is) = ap (made.item_view i) (items_onto-all is)

module _ (m : Notes) where
  -- one definition more
  pub items_next : (old mid new : State) (f h x : Before) (i : ItemTree) (is : List ItemTree) (W : Read t.Program)
      → Through m old mid f W (program_read m mid (i ∷ is)) → ItemReads m mid new x i.form → ((r : t.Program) → h r ≡ f (x r))
      → Through m old new h W (program_read m new is)
  items_next old mid new f h x i is W s d u = record {
    between = s.between ++ r.points;
    points = d.points ∙ (ap (λ ps. ps ++ r.points) s.points ∙ append_assoc (points_in m old) s.between r.points);
    is = s.is
        ∙ (ap (λ R. record { read = f R.read; points = s.between ++ R.points }) (item_next n (count_of mid) (seen_of mid) i.form (λ j Θ. program_from n j Θ is))
        ∙ (ap₂ (λ b ps. record { read = b; points = ps }) (ap f (sym (d.read rest.read)) ∙ sym (u rest.read)) (sym (append_assoc s.between r.points rest.points))
        ∙ ap (λ R. record { read = h R.read; points = (s.between ++ r.points) ++ R.points }) (sym moves)));
    scopes = Longer-trans (scopes_of old) (scopes_of mid) (scopes_of new) s.scopes d.scopes;
    stands = d.stands;
  }
    where
      n : Annotation
      n = annotation_view m

      r : Read Before
      r = item_of n (count_of mid) (seen_of mid) i.form

      rest : Read t.Program
      rest = program_from n (after (count_of mid) r) (item_seen n i.form (seen_of mid)) is

      moves : program_from n (count_of new) (seen_of new) is ≡ rest
      moves = ap₂ (λ k Δ. program_from n k Δ is) (count_of_points m mid new r.points d.points) d.seen

  -- a name is defined
  pub item_defined : (old mid two new : State) (l : Place) (x : Binder) (e : Tree) (b : t.Block) (k : ℕ) → Reads m old mid b (block_read m old false e)
      → Reads m mid two k (defined_point_read m mid x.0 (number_of e) b) → Sees m two new (record { name = x.0; until = None } ∷ seen_of two)
      → ItemReads m old new (λ rest. t.define x.0 l k b rest) (let_of (pattern l (p.bind x.0)) e)
  item_defined old mid two new l x e b k d q s = record {
    read = λ rest. ap₂ (λ j c. t.define x.0 l j c rest) point.read d.read;
    points = s.points ∙ (point.points ∙ (ap (λ ps. ps ++ P.points) d.points ∙ append_assoc (points_in m old) B.points P.points));
    seen = s.seen ∙ ap (λ Δ. seen x.0 ∷ Δ) (point.seen ∙ d.seen);
    scopes = Longer-trans (scopes_of old) (scopes_of mid) (scopes_of new) d.scopes (Longer-trans (scopes_of mid) (scopes_of two) (scopes_of new) point.scopes s.scopes);
    stands = s.stands;
  }
    where
      n : Annotation
      n = annotation_view m

      B : Read t.Block
      B = block_read m old false e

      P : Read ℕ
      P = defined_point_of n (after (count_of old) B) (seen_of old) x.0 (number_of e) B.read

      here : defined_point_read m mid x.0 (number_of e) b ≡ P
      here = ap₂ (λ j c. defined_point_of n j (seen_of mid) x.0 (number_of e) c) (count_after m old mid b B d) d.read
          ∙ ap (λ Δ. defined_point_of n (after (count_of old) B) Δ x.0 (number_of e) B.read) d.seen

      point : Reads m mid two k P
      point = subst (Reads m mid two k) here q

  -- a recursive function is defined
  pub item_function : (old mid new : State) (f : Binder) (r : Recursive) (y : ℕ × t.Block) → Sees m old mid (record { name = f.0; until = None } ∷ seen_of old)
      → Reads m mid new y (recursive_read m mid f.0 (recursive_view r))
      → ItemReads m old new (λ rest. t.define_recursive f.0 y.0 (out-Recursive r).parameter.binder.0 y.1 rest) (let_rec_of f.0 (recursive_view r))
  item_function old mid new f r y s d = record {
    read = λ rest.
        ap (λ z. t.define_recursive f.0 z.0 (out-Recursive r).parameter.binder.0 z.1 rest) (d.read ∙ ap (λ q. q.read) here)
        ∙ ap (λ q. t.define_recursive f.0 W.read.0 q W.read.1 rest) (sym parameter);
    points = d.points ∙ (ap (λ ps. ps ++ (recursive_read m mid f.0 (recursive_view r)).points) s.points ∙ ap (λ q. points_in m old ++ q.points) here);
    seen = d.seen ∙ s.seen;
    scopes = Longer-trans (scopes_of old) (scopes_of mid) (scopes_of new) s.scopes d.scopes;
    stands = d.stands;
  }
    where
      W : Read (ℕ × t.Block)
      W = recursive_of (annotation_view m) (count_of old) (seen f.0 ∷ seen_of old) f.0 (recursive_view r).id (recursive_view r).parameter (recursive_view r).body

      here : recursive_read m mid f.0 (recursive_view r) ≡ W
      here = ap₂ (λ k Δ. recursive_of (annotation_view m) k Δ f.0 (recursive_view r).id (recursive_view r).parameter (recursive_view r).body) s.count s.seen

      parameter : parameter_of (recursive_view r).parameter ≡ (out-Recursive r).parameter.binder.0
      parameter = ap (λ w. parameter_of w.parameter) (recursive_seen r)

  -- nothing is defined
  pub item_unit : (old new : State) (l : Place) (e : Tree) (b : t.Block) → Reads m old new b (block_read m old true e)
      → ItemReads m old new (λ rest. t.run_unit b rest) (let_of (pattern l p.nothing) e)
  item_unit old new l e b d =
      record { read = λ rest. ap (λ c. t.run_unit c rest) d.read; points = d.points; seen = d.seen; scopes = d.scopes; stands = d.stands }

  pub item_any : (old new : State) (l : Place) (e : Tree) (b : t.Block) → Reads m old new b (block_read m old false e)
      → ItemReads m old new (λ rest. t.run_any b rest) (let_of (pattern l p.any) e)
  item_any old new l e b d =
      record { read = λ rest. ap (λ c. t.run_any c rest) d.read; points = d.points; seen = d.seen; scopes = d.scopes; stands = d.stands }

  pub item_tuple : (old new : State) (l : Place) (qs : p.Patterns) (e : Tree) (b : t.Block) → Reads m old new b (block_read m old false e)
      → ItemReads m old new (λ rest. t.run_any b rest) (let_of (pattern l (p.tuple_of qs)) e)
  item_tuple old new l qs e b d =
      record { read = λ rest. ap (λ c. t.run_any c rest) d.read; points = d.points; seen = d.seen; scopes = d.scopes; stands = d.stands }

  pub item_build : (old new : State) (l j : Place) (c : ℕ) (qs : p.Patterns) (e : Tree) (b : t.Block) → Reads m old new b (block_read m old false e)
      → ItemReads m old new (λ rest. t.run_any b rest) (let_of (pattern l (p.build_of c j qs)) e)
  item_build old new l j c qs e b d =
      record { read = λ rest. ap (λ x. t.run_any x rest) d.read; points = d.points; seen = d.seen; scopes = d.scopes; stands = d.stands }

-- ---- the last operation of a block that was made

abbrev Layer : Type 0
Layer = Binding-F MadeBinding MadeOperation MadeArm MadeBlock

abbrev layer_seen : Layer → made.Around
layer_seen l =
    made.binding_step
    (map-Binding MadeBinding MadeOperation MadeArm MadeBlock made.Around t.Operation made.Branch t.Block made.binding_view made.operation_view made.arm_view
    made.block_view l)

binding_last : (b : MadeBinding) (c : t.Block) → last_operation (made.binding_view b c) ≡ last_operation c
binding_last b c = by_layer (out-Binding b) refl
  where
    is : (l : Layer) → out-Binding b ≡ l → made.binding_view b ≡ layer_seen l
    is l e =
        fold_out-Binding made.Around t.Operation made.Branch t.Block made.binding_step made.operation_step made.arm_step made.block_step b ∙ ap layer_seen e

    by_layer : (l : Layer) → out-Binding b ≡ l → last_operation (made.binding_view b c) ≡ last_operation c
    by_layer (Binding-F.Value x l o) e = ap (λ f. last_operation (f c)) (is (Binding-F.Value x l o) e)
    by_layer (Binding-F.Function f k y d) e = ap (λ g. last_operation (g c)) (is (Binding-F.Function f k y d) e)

bindings_last : (bs : List MadeBinding) (c : t.Block) → last_operation (made.bindings_view bs c) ≡ last_operation c
bindings_last [] c = refl
bindings_last (b ∷ bs) c = binding_last b (made.bindings_view bs c) ∙ bindings_last bs c

made_block_seen : (b : MadeBlock) → made.block_view b ≡ made.bindings_view (out-Block b).bindings.items (t.last (out-Block b).place (made.operation_view (out-Block b).last))
made_block_seen b = search (rules, made_lemmas)

pub block_last : (b : MadeBlock) → last_operation (made.block_view b) ≡ made.operation_view (out-Block b).last
block_last b =
    ap last_operation (made_block_seen b) ∙ bindings_last (out-Block b).bindings.items (t.last (out-Block b).place (made.operation_view (out-Block b).last))

abbrev OperationLayer : Type 0
OperationLayer = Operation-F MadeBinding MadeOperation MadeArm MadeBlock

abbrev operation_layer_seen : OperationLayer → t.Operation
operation_layer_seen l =
    made.operation_step
    (map-Operation MadeBinding MadeOperation MadeArm MadeBlock made.Around t.Operation made.Branch t.Block made.binding_view made.operation_view made.arm_view
    made.block_view l)

pub no_function : (o : MadeOperation) → ((k : ℕ) (x : Binder) (b : Box MadeBlock Global) → o ≡ made_operation.Fun k x b → ⊥) → is_fun (made.operation_view o) ≡ false
no_function o other = by_layer (out-Operation o) refl
  where
    is : (l : OperationLayer) → out-Operation o ≡ l → made.operation_view o ≡ operation_layer_seen l
    is l e =
        fold_out-Operation made.Around t.Operation made.Branch t.Block made.binding_step made.operation_step made.arm_step made.block_step o
        ∙ ap operation_layer_seen e

    by_layer : (l : OperationLayer) → out-Operation o ≡ l → is_fun (made.operation_view o) ≡ false
    by_layer (Operation-F.Fun k x b) e =
        absurd (other k x b (sym (roll-out-Operation o) ∙ (ap (λ (m : OperationLayer). roll-Operation m) e ∙ made_operation.rolls-Fun k x b)))
    by_layer (Operation-F.Divide quotient.Div a b) e = ap is_fun (is (Operation-F.Divide quotient.Div a b) e)
    by_layer (Operation-F.Divide quotient.Mod a b) e = ap is_fun (is (Operation-F.Divide quotient.Mod a b) e)
    by_layer l e = ap is_fun (is l e)

-- ---- patterns

pub pattern_seen : (q : Pat Binder) → pat_view Binder (λ x. x.0) q ≡ pattern q.place (pat_form_view Binder (λ x. x.0) q.node)
pattern_seen q = search (rules, pattern_lemmas)

pub seen_bind : (x : Binder) → pat_form_view Binder (λ y. y.0) (pat.Bind x) ≡ p.bind x.0
seen_bind x = search (rules, pattern_lemmas)

pub seen_unit : pat_form_view Binder (λ y. y.0) pat.Unit ≡ p.nothing
seen_unit = search (rules, pattern_lemmas)

pub seen_any : pat_form_view Binder (λ y. y.0) pat.Any ≡ p.any
seen_any = search (rules, pattern_lemmas)

pub seen_tuple : (qs : Pats Binder) → pat_form_view Binder (λ y. y.0) (pat.Tuple qs) ≡ p.tuple_of (pats_view Binder (λ y. y.0) qs)
seen_tuple qs = search (rules, pattern_lemmas)

pub seen_build : (c : Name) (l : Place) (qs : Pats Binder) → pat_form_view Binder (λ y. y.0) (pat.Build c l qs) ≡ p.build_of c.0 l (pats_view Binder (λ y. y.0) qs)
seen_build c l qs = search (rules, pattern_lemmas)

module _ (m : Notes) (old new : State) (k : ℕ) (x i : ℕ) where
  abbrev point_by : t.Operation → Read ℕ
  point_by o = record {
    read = cond (not (is_fun o)) (count_of old) (function_point (annotation_view m) o);
    points = own_point (annotation_view m) (not (is_fun o)) (whole (scope_at (annotation_view m) (seen_of old) i) [] ((annotation_view m).names x));
  }

  -- the point of the function that a block ends in
  pub point_of_function : (b : MadeBlock) (y : Binder) (c : Box MadeBlock Global) → (out-Block b).last ≡ made_operation.Fun k y c → Stands m old
      → Reads m old old k (defined_point_read m old x i (made.block_view b))
  point_of_function b y c e h =
      subst (λ (o : t.Operation). Reads m old old k (point_by o)) (sym (block_last b ∙ (ap made.operation_view e ∙ made_fun k y c)))
      (reads_nothing m old k h)

  -- a point of its own
  pub point_of_block : (b : MadeBlock) → ((j : ℕ) (y : Binder) (c : Box MadeBlock Global) → (out-Block b).last ≡ made_operation.Fun j y c → ⊥)
      → Reads m old new k (noted (count_of old) (whole (scope_at (annotation_view m) (seen_of old) i) [] ((annotation_view m).names x)))
      → Reads m old new k (defined_point_read m old x i (made.block_view b))
  point_of_block b other d =
      subst (Reads m old new k) (sym (ap by_flag (ap is_fun (block_last b) ∙ no_function (out-Block b).last other))) d
    where
      by_flag : Bool → Read ℕ
      by_flag f = record {
        read = cond (not f) (count_of old) (function_point (annotation_view m) (last_operation (made.block_view b)));
        points = own_point (annotation_view m) (not f) (whole (scope_at (annotation_view m) (seen_of old) i) [] ((annotation_view m).names x));
      }
