-- What is made of operations, and what it stands for.
use Rattle.std.proofs.Common.{◌≡◌, ◌∙◌, ℕ, sym, ap, subst, rules}
use Rattle.std.specs.declared.alloc.Global.{Global}
use Rattle.std.specs.declared.boxed.Box.{Box}
use Rattle.std.specs.declared.vec.Vec.{Vec}
use Rattle.lq_refined_rules.specs.Checks.Tree as t
use Rattle.lq_base_names.specs.declared.name.Binder.{Binder}
use Rattle.lq_base_names.specs.declared.name.Name.{Name}
use Rattle.lq_refined_templates.specs.Programs.BlockView.{arms_view, block_view, operation_view}
use Rattle.lq_refined_templates.specs.Programs.PureView.{pure_view, pures_view, use_view}
use Rattle.lq_refined_templates.specs.declared.programs.block.Arm.{Arm}
use Rattle.lq_refined_templates.specs.declared.programs.block.Block.{Block}
use Rattle.lq_refined_templates.specs.declared.programs.block.Operation.{the_lemmas}
use Rattle.lq_refined_templates.specs.declared.programs.block.Operation.TheVariants as operation
use Rattle.lq_refined_templates.specs.declared.programs.pure.Pure.{Pure, the_lemmas as pure_lemmas}
use Rattle.lq_refined_templates.specs.declared.programs.pure.Pure.TheVariants as pure
use Rattle.lq_refined_templates.specs.declared.programs.pure.Use.{Use}
use Rattle.lq_refined_templates.specs.Points.Pure.{Read}
use Rattle.lq_generate_reading.specs.declared.visibility.notes.Notes.{Notes}
use Rattle.lq_generate_reading.specs.Reading.State.{Reads}
use Rattle.lq_generate_reading.specs.declared.reading.state.State.{State}

pub made_pure : (e : Pure) → operation_view (operation.Pure e) ≡ t.pure (pure_view e)
made_pure e = search (rules, the_lemmas)

pub made_build : (k : ℕ) (c : Name) (es : Vec Pure Global) → operation_view (operation.Build k c es) ≡ t.build k c.0 (pures_view es.items)
made_build k c es = search (rules, the_lemmas)

pub made_make : (k : ℕ) (a b : Pure) → operation_view (operation.Make k a b) ≡ t.make k (pure_view a) (pure_view b)
made_make k a b = search (rules, the_lemmas)

pub made_fetch : (u : Use) (a : Pure) → operation_view (operation.Fetch u a) ≡ t.fetch (use_view u) (pure_view a)
made_fetch u a = search (rules, the_lemmas)

pub made_store : (u : Use) (a b : Pure) → operation_view (operation.Store u a b) ≡ t.store (use_view u) (pure_view a) (pure_view b)
made_store u a b = search (rules, the_lemmas)

pub made_map_add : (k : ℕ) (a b c : Pure) → operation_view (operation.MapAdd k a b c) ≡ t.map_add k (pure_view a) (pure_view b) (pure_view c)
made_map_add k a b c = search (rules, the_lemmas)

pub made_unit : operation_view (operation.Pure pure.Unit) ≡ t.pure t.unit
made_unit = made_pure pure.Unit ∙ ap t.pure unit
  where
    unit : pure_view pure.Unit ≡ t.unit
    unit = search (rules, pure_lemmas)

module _ (m : Notes) (old new : State) where
  -- what is made may be said otherwise, and what it is read as
  pub said : {A : Type 0} (x y : A) (r s : Read A) → x ≡ y → s ≡ r → Reads m old new y r → Reads m old new x s
  said x y r s p q h = subst (λ z. Reads m old new z s) (sym p) (subst (Reads m old new y) (sym q) h)

pub made_fun : (k : ℕ) (x : Binder) (b : Box Block Global) → operation_view (operation.Fun k x b) ≡ t.fun k x.0 (block_view b.value)
made_fun k x b = search (rules, the_lemmas)

pub made_if : (k : ℕ) (c : Pure) (a b : Box Block Global) → operation_view (operation.If k c a b) ≡ t.if_else k (pure_view c) (block_view a.value) (block_view b.value)
made_if k c a b = search (rules, the_lemmas)

pub made_match : (k : ℕ) (u : Use) (as_ : Vec Arm Global) → operation_view (operation.Match k u as_) ≡ t.match_on k (use_view u) (arms_view as_.items)
made_match k u as_ = search (rules, the_lemmas)
