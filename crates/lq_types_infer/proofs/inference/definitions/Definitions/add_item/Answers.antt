use Rattle.std.proofs.Common.{sym, subst}
use Rattle.lq_base_names.specs.declared.name.Binder.{Binder}
use Rattle.lq_text_tree.specs.Items.{item_form_view}
use Rattle.lq_types_infer.specs.Inference.Defining.{HasKnown}
use Rattle.lq_types_rules.specs.Typings.Uses.{behind_form}
use Rattle.lq_types_infer.proofs.inference.definitions.Definitions.add_item.Goals as goal

pub returns-in_ok-add_general-in-LetRec : goal.returns-in_ok-add_general-in-LetRec
returns-in_ok-add_general-in-LetRec c = λ k h.
    subst (λ f. HasKnown c.add_general.new.self (behind_form k (item_form_view Binder (λ b. b.0) f))) (sym c.in-LetRec.is) (c.in_ok-add_general-in-LetRec.ensures k h)
