use Rattle.std.proofs.Common.{◌≡◌, ℕ, Bor, refl}
use Rattle.lq_base_names.specs.declared.name.Binder.{Binder}
use Rattle.lq_text_tree.specs.declared.expr.Expr.{Expr}
use Rattle.lq_text_tree.specs.declared.expr.Function.{Function}
use Rattle.lq_text_tree.specs.declared.item.Item.{Item}
use Rattle.lq_text_tree.specs.Types.{Signature}
use Rattle.lq_text_walk.specs.Walk.Pending.{visit_view}
use Rattle.lq_text_walk.specs.declared.walk.walk.Visit.{Visit}
use Rattle.lq_text_walk.specs.declared.walk.walk.Visit.TheVariants.{EnterItem, LeaveItem, Enter, Leave, LeaveFunction, Declare, Show, Hide, ShowName, HideName}
use Rattle.lq_types_rules.specs.declared.equations.system.System.{System}
use Rattle.lq_types_rules.specs.Equations.Adding.{IsSystem, Adds}
use Rattle.lq_types_rules.specs.Equations.Gathered.{VisitRule}
use Rattle.lq_types_rules.proofs.EquationsLemmas.Composing.{adds_nothing, longer_none}
use Rattle.lq_types_rules.proofs.equations.system.System.with_visit.Goals as goal

-- what enters, or is a pattern's or a name's, has no rule
ruleless : (g : Signature) (nodes : ℕ) (s : System) (v : Visit Binder) → IsSystem s → ((x : Bor (Expr Binder)) → v ≡ Leave x → ⊥) → ((x : Bor (Item Binder)) → v ≡ LeaveItem x → ⊥)
    → ((x : Bor (Function Binder)) → v ≡ LeaveFunction x → ⊥) → Adds s s (VisitRule g nodes (visit_view Binder (λ b. b.0) v))
ruleless g nodes s (EnterItem i) h a b d = adds_nothing s h
ruleless g nodes s (LeaveItem i) h a b d = absurd (b i refl)
ruleless g nodes s (Enter e) h a b d = adds_nothing s h
ruleless g nodes s (Leave e) h a b d = absurd (a e refl)
ruleless g nodes s (LeaveFunction f) h a b d = absurd (d f refl)
ruleless g nodes s (Declare q) h a b d = adds_nothing s h
ruleless g nodes s (Show q) h a b d = adds_nothing s h
ruleless g nodes s (Hide q) h a b d = adds_nothing s h
ruleless g nodes s (ShowName x) h a b d = adds_nothing s h
ruleless g nodes s (HideName x) h a b d = adds_nothing s h

pub returns-in_default : goal.returns-in_default
returns-in_default c = record {
  grows = longer_none c.args.self c.requires.system;
  rule = λ g h. ruleless g c.args.nodes c.args.self c.args.visit c.requires.system c.in_default.not-Leave c.in_default.not-LeaveItem c.in_default.not-LeaveFunction;
}
