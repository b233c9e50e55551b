-- What blocks in memory stand for, one level at a time.
use Rattle.std.proofs.Common.{◌≡◌, ℕ, ◌+◌, ◌<◌, List, [], ◌∷◌, ◌++◌, length, map, take, get_or, not, refl, sym, ap, ◌∙◌, rules}
use Rattle.std.proofs.lemmas.List.{map-append, take_more}
use Rattle.std.specs.declared.alloc.Global.{Global}
use Rattle.std.specs.declared.boxed.Box.{Box}
use Rattle.std.specs.declared.vec.Vec.{Vec}
use Rattle.lq_refined_rules.specs.Checks.Tree as t
use Rattle.lq_refined_rules.specs.Checks.Tree.{has_template, is_fun, last_operation}
use Rattle.lq_base_names.specs.declared.name.Binder.{Binder}
use Rattle.lq_base_names.specs.declared.place.Place.{Place}
use Rattle.lq_refined_templates.specs.Programs.BlockView.{around, arm_view, arm_step, binding_step, binding_view, bindings_view, block_step, block_view, operation_step, operation_view, pattern_view, quotient_view, Around, Branch}
use Rattle.lq_refined_templates.specs.Programs.PureView.{pure_view, pures_view, use_view}
use Rattle.lq_refined_templates.specs.declared.programs.block.Quotient.{Quotient}
use Rattle.lq_base_names.specs.declared.name.Name.{Name}
use Rattle.lq_refined_templates.specs.declared.programs.block.Arm.{Arm}
use Rattle.lq_refined_templates.specs.declared.programs.block.Binding.{Binding, out-Binding, map-Binding, fold_out-Binding}
use Rattle.lq_refined_templates.specs.declared.programs.block.Binding.TheOpen.{Binding-F}
use Rattle.lq_refined_templates.specs.declared.programs.block.Binding.TheVariants as binding
use Rattle.lq_refined_templates.specs.declared.programs.block.Block.{Block}
use Rattle.lq_refined_templates.specs.declared.programs.block.Operation.{Operation, the_lemmas}
use Rattle.lq_refined_templates.specs.declared.programs.block.Operation.TheVariants as operation
use Rattle.lq_refined_templates.specs.declared.programs.pure.Pure.{Pure}
use Rattle.lq_refined_templates.specs.declared.programs.pure.Use.{Use}

pub arm_seen : (a : Arm) → arm_view a ≡ record { pattern = pattern_view a.pattern; body = block_view a.body }
arm_seen a = search (rules, the_lemmas)

pub block_seen : (x : Block) → block_view x ≡ bindings_view x.bindings.items (t.last x.place (operation_view x.last))
block_seen x = search (rules, the_lemmas)

pub value_seen : (x : Binder) (l : Place) (o : Operation) → binding_view (binding.Value x l o) ≡ (λ b. t.binding x.0 l (operation_view o) b)
value_seen x l o = search (rules, the_lemmas)

pub function_seen : (f : Binder) (p : ℕ) (y : Binder) (c : Box Block Global)
    → binding_view (binding.Function f p y c) ≡ (λ b. t.recursive f.0 p y.0 (block_view c.value) b)
function_seen f p y c = search (rules, the_lemmas)

pub fun_seen : (p : ℕ) (y : Binder) (b : Box Block Global) → operation_view (operation.Fun p y b) ≡ t.fun p y.0 (block_view b.value)
fun_seen p y b = search (rules, the_lemmas)

pub if_seen : (p : ℕ) (c : Pure) (a b : Box Block Global) → operation_view (operation.If p c a b) ≡ t.if_else p (pure_view c) (block_view a.value) (block_view b.value)
if_seen p c a b = search (rules, the_lemmas)

-- ---- operations without branches

pub call_seen : (f a : Pure) → operation_view (operation.Call f a) ≡ t.call (pure_view f) (pure_view a)
call_seen f a = search (rules, the_lemmas)

pub build_seen : (p : ℕ) (c : Name) (es : Vec Pure Global) → operation_view (operation.Build p c es) ≡ t.build p c.0 (pures_view es.items)
build_seen p c es = search (rules, the_lemmas)

pub make_seen : (p : ℕ) (n e : Pure) → operation_view (operation.Make p n e) ≡ t.make p (pure_view n) (pure_view e)
make_seen p n e = search (rules, the_lemmas)

pub fetch_seen : (u : Use) (i : Pure) → operation_view (operation.Fetch u i) ≡ t.fetch (use_view u) (pure_view i)
fetch_seen u i = search (rules, the_lemmas)

pub store_seen : (u : Use) (i e : Pure) → operation_view (operation.Store u i e) ≡ t.store (use_view u) (pure_view i) (pure_view e)
store_seen u i e = search (rules, the_lemmas)

pub assert_seen : (e : Pure) → operation_view (operation.Assert e) ≡ t.assert (pure_view e)
assert_seen e = search (rules, the_lemmas)

pub assert_false_seen : (p : ℕ) → operation_view (operation.AssertFalse p) ≡ t.assert_false p
assert_false_seen p = search (rules, the_lemmas)

pub map_add_seen : (p : ℕ) (k e m : Pure) → operation_view (operation.MapAdd p k e m) ≡ t.map_add p (pure_view k) (pure_view e) (pure_view m)
map_add_seen p k e m = search (rules, the_lemmas)

pub divide_seen : (q : Quotient) (x y : Pure) → operation_view (operation.Divide q x y) ≡ quotient_view q (pure_view x) (pure_view y)
divide_seen q x y = search (rules, the_lemmas)

-- bindings behind bindings
pub around-append : (xs ys : List Around) (b : t.Block) → around (xs ++ ys) b ≡ around xs (around ys b)
around-append [] ys b = refl
around-append (x ∷ xs) ys b = ap x (around-append xs ys b)

-- ---- a binding leaves the last operation of the block behind it

abbrev Layer : Type 0
Layer = Binding-F Binding Operation Arm Block

abbrev layer_seen : Layer → Around
layer_seen l = binding_step (map-Binding Binding Operation Arm Block Around t.Operation Branch t.Block binding_view operation_view arm_view block_view l)

binding_is : (a : Binding) (l : Layer) → out-Binding a ≡ l → binding_view a ≡ layer_seen l
binding_is a l e = fold_out-Binding Around t.Operation Branch t.Block binding_step operation_step arm_step block_step a ∙ ap layer_seen e

binding-last : (a : Binding) (b : t.Block) → last_operation (binding_view a b) ≡ last_operation b
binding-last a b = by_layer (out-Binding a) refl
  where
    by_layer : (l : Layer) → out-Binding a ≡ l → last_operation (binding_view a b) ≡ last_operation b
    by_layer (Binding-F.Value x l o) e = ap (λ f. last_operation (f b)) (binding_is a (Binding-F.Value x l o) e)
    by_layer (Binding-F.Function f p y c) e = ap (λ g. last_operation (g b)) (binding_is a (Binding-F.Function f p y c) e)

bindings-last : (bs : List Binding) (b : t.Block) → last_operation (bindings_view bs b) ≡ last_operation b
bindings-last [] b = refl
bindings-last (x ∷ xs) b = binding-last x (bindings_view xs b) ∙ bindings-last xs b

pub template-by-last : (x : Block) → has_template (block_view x) ≡ not (is_fun (operation_view x.last))
template-by-last x = ap has_template (block_seen x) ∙ ap (λ o. not (is_fun o)) (bindings-last x.bindings.items (t.last x.place (operation_view x.last)))

-- one binding more
pub bindings-more : (bs : List Binding) (i : ℕ) (d : Binding) (x : t.Block) → i < length bs
    → bindings_view (take i bs) (binding_view (get_or bs i d) x) ≡ bindings_view (take (i + 1) bs) x
bindings-more bs i d x h =
    sym (ap (λ l. around l x) (ap (map binding_view) (take_more bs i d h) ∙ map-append binding_view (take i bs) (get_or bs i d ∷ []))
    ∙ around-append (map binding_view (take i bs)) (binding_view (get_or bs i d) ∷ []) x)
