-- The operations, blocks and programs that those in memory stand for.
use Rattle.std.specs.Prelude.{ℕ, List, [], ◌∷◌, map}
use Rattle.lq_base_names.specs.declared.name.Binder.{Binder}
use Rattle.lq_base_names.specs.declared.place.Place.{Place}
use Rattle.lq_refined_rules.specs.Checks.Tree as t
use Rattle.lq_refined_templates.specs.Programs.PureView.{pure_view, pures_view, use_view}
use Rattle.lq_refined_templates.specs.declared.programs.block.Arm.{Arm, fold-Arm}
use Rattle.lq_refined_templates.specs.declared.programs.block.Binding.{Binding, fold-Binding}
use Rattle.lq_refined_templates.specs.declared.programs.block.Block.{Block, fold-Block}
use Rattle.lq_refined_templates.specs.declared.programs.block.Item.{Item}
use Rattle.lq_refined_templates.specs.declared.programs.block.Item.TheVariants as item
use Rattle.lq_refined_templates.specs.declared.programs.block.Operation.{Operation, fold-Operation}
use Rattle.lq_refined_templates.specs.declared.programs.block.Binding.TheOpen.{Binding-F, Operation-F, Arm-F, Block-F}
use Rattle.lq_refined_templates.specs.declared.programs.block.Pattern.{Pattern}
use Rattle.lq_refined_templates.specs.declared.programs.block.Pattern.TheVariants as pattern
use Rattle.lq_refined_templates.specs.declared.programs.block.Quotient.{Quotient}
use Rattle.lq_refined_templates.specs.declared.programs.block.Quotient.TheVariants as quotient

abbrev pub names_view : List Binder → List ℕ
names_view = map (λ x. x.0)

abbrev pub pattern_view : Pattern → t.Pattern
pattern_view pattern.Any = t.pattern_any
pattern_view (pattern.Name x) = t.pattern_name x.0
pattern_view pattern.Unit = t.pattern_unit
pattern_view (pattern.Tuple xs) = t.pattern_tuple (names_view xs.items)
pattern_view (pattern.Build c xs) = t.pattern_build c.0 (names_view xs.items)

abbrev pub quotient_view : Quotient → t.Pure → t.Pure → t.Operation
quotient_view quotient.Div a b = t.divide a b
quotient_view quotient.Mod a b = t.remainder a b

-- what a binding makes of the block behind it
abbrev pub Around : Type 0
Around = t.Block → t.Block

-- an arm, by itself
pub record Branch : Type 0 where
  pub pattern : t.Pattern
  pub body : t.Block

abbrev pub arms_of : List Branch → t.Arms
arms_of [] = t.no_arms
arms_of (a ∷ as_) = t.arm a.pattern a.body (arms_of as_)

abbrev pub around : List Around → t.Block → t.Block
around [] b = b
around (x ∷ xs) b = x (around xs b)

-- one level, with what is inside already seen
abbrev pub operation_step : Operation-F Around t.Operation Branch t.Block → t.Operation
operation_step (Operation-F.Pure e) = t.pure (pure_view e)
operation_step (Operation-F.Fun p y b) = t.fun p y.0 b.value
operation_step (Operation-F.If p c a b) = t.if_else p (pure_view c) a.value b.value
operation_step (Operation-F.Match p u as_) = t.match_on p (use_view u) (arms_of as_.items)
operation_step (Operation-F.Call f a) = t.call (pure_view f) (pure_view a)
operation_step (Operation-F.Tuple es) = t.tuple (pures_view es.items)
operation_step (Operation-F.Build p c es) = t.build p c.0 (pures_view es.items)
operation_step (Operation-F.Make p n e) = t.make p (pure_view n) (pure_view e)
operation_step (Operation-F.Fetch u i) = t.fetch (use_view u) (pure_view i)
operation_step (Operation-F.Store u i e) = t.store (use_view u) (pure_view i) (pure_view e)
operation_step (Operation-F.Divide o x y) = quotient_view o (pure_view x) (pure_view y)
operation_step (Operation-F.Assert e) = t.assert (pure_view e)
operation_step (Operation-F.AssertFalse p) = t.assert_false p
operation_step (Operation-F.Read e) = t.read (pure_view e)
operation_step (Operation-F.Print e) = t.print (pure_view e)
operation_step (Operation-F.MapEmpty p) = t.map_empty p
operation_step (Operation-F.MapAdd p k e m) = t.map_add p (pure_view k) (pure_view e) (pure_view m)
operation_step (Operation-F.MapFind k m) = t.map_find (pure_view k) (pure_view m)

abbrev pub block_step : Block-F Around t.Operation Branch t.Block → t.Block
block_step b = around b.bindings.items (t.last b.place b.last)

abbrev pub binding_step : Binding-F Around t.Operation Branch t.Block → Around
binding_step (Binding-F.Value x l o) = λ b. t.binding x.0 l o b
binding_step (Binding-F.Function f p y c) = λ b. t.recursive f.0 p y.0 c.value b

abbrev pub arm_step : Arm-F Around t.Operation Branch t.Block → Branch
arm_step a = record { pattern = pattern_view a.pattern; body = a.body }

abbrev pub operation_view : Operation → t.Operation
operation_view = fold-Operation Around t.Operation Branch t.Block binding_step operation_step arm_step block_step

abbrev pub block_view : Block → t.Block
block_view = fold-Block Around t.Operation Branch t.Block binding_step operation_step arm_step block_step

abbrev pub binding_view : Binding → Around
binding_view = fold-Binding Around t.Operation Branch t.Block binding_step operation_step arm_step block_step

abbrev pub arm_view : Arm → Branch
arm_view = fold-Arm Around t.Operation Branch t.Block binding_step operation_step arm_step block_step

abbrev pub arms_view : List Arm → t.Arms
arms_view as_ = arms_of (map arm_view as_)

abbrev pub bindings_view : List Binding → t.Block → t.Block
bindings_view bs = around (map binding_view bs)

-- an item, and the program behind it
abbrev pub item_view : Item → t.Program → t.Program
item_view (item.Define x l k b) rest = t.define x.0 l k (block_view b) rest
item_view (item.DefineFunction f p y b) rest = t.define_recursive f.0 p y.0 (block_view b) rest
item_view (item.RunUnit b) rest = t.run_unit (block_view b) rest
item_view (item.RunAny b) rest = t.run_any (block_view b) rest

abbrev pub program_view : List Item → t.Program
program_view [] = t.no_items
program_view (i ∷ is) = item_view i (program_view is)
