-- A whole program.
use Rattle.std.proofs.Common.{ℕ, ◌+◌, [], sym, subst}
use Rattle.std.proofs.lemmas.Bool.{false≢true}
use Rattle.std.proofs.lemmas.List.Elements.{All-nil}
use Rattle.std.specs.Prelude.{length}
use Rattle.lq_text_tree.specs.MlType.{MlType}
use Rattle.lq_text_tree.specs.Types.{Signature}
use Rattle.lq_text_tree.specs.TypingRules.{IsWithin}
use Rattle.lq_text_walk.specs.Walk.Visits.{visits_of_items}
use Rattle.lq_text_walk.specs.Scoped.Numbers.{binders_in}
use Rattle.lq_text_walk.specs.Scoped.Scoping.{Scoping, IsScoped}
use Rattle.lq_types_rules.specs.Typings.Uses.{none_known}
use Rattle.lq_types_rules.specs.Typings.Laws.{AreRules}
use Rattle.lq_types_rules.proofs.TypingsLemmas.Numbers.{Rising, rising_from}
use Rattle.lq_types_rules.proofs.TypingsLemmas.Items.{StateTo, StateBack, items_to, items_back}

module _ (g : Signature) (nodes : ℕ) (types : ℕ → MlType) where
  -- before any item
  pub state_to : StateTo g nodes types none_known [] [] 0
  state_to = record { agree = λ x i seen h. absurd (false≢true seen); covered = λ fixed h. All-nil (λ p. IsWithin fixed (types (nodes + p))); below = tt }

  pub state_back : StateBack g nodes types none_known [] [] 0
  state_back = record { agree = λ x i seen h. absurd (false≢true seen); covers = tt; below = tt }

pub rising : (s : Scoping) → IsScoped s → Rising 0 (binders_in (visits_of_items s.items))
rising s is = let xs = binders_in (visits_of_items s.items) in subst (λ ys. Rising 0 ys) (sym is.binders) (rising_from 0 (length xs))

pub visits_are_rules : (g : Signature) (nodes : ℕ) (types : ℕ → MlType) (s : Scoping) → IsScoped s → AreRules g nodes types s
visits_are_rules g nodes types s is = record {
  visits_obey = λ h. items_to g nodes types s.items none_known [] [] 0 (state_to g nodes types) is.scoped (rising s is) h;
  items_obey = λ h. items_back g nodes types s.items none_known [] [] 0 (state_back g nodes types) is.scoped (rising s is) h;
}
