-- Stacks of which the tops may be gone.
use Rattle.std.proofs.Common.{◌≡◌, List, [], ◌++◌, sym, ap, ◌∙◌, append_assoc}
use Rattle.std.proofs.lemmas.List.{append-nil}
use Rattle.lq_logic_predicates.specs.declared.pred.Pred.{Pred}
use Rattle.lq_logic_predicates.specs.declared.term.Term.{Term}
use Rattle.lq_cases_kit.specs.declared.words.Stacks.{Stacks}

-- the old list begins with the new one
pub record IsFront {X : Type 0} (old new : List X) : Type 0 where
  pub gone : List X
  pub is : old ≡ new ++ gone

-- the terms and predicates that were read last may be gone, those before them stand
pub record IsLeft (old new : Stacks) : Type 0 where
  pub terms : IsFront old.terms.items new.terms.items
  pub preds : IsFront old.preds.items new.preds.items

all_front : {X : Type 0} (old new : List X) → new ≡ old → IsFront old new
all_front old new e = record { gone = []; is = sym e ∙ sym (append-nil new) }

front_then : {X : Type 0} (a b c : List X) → IsFront a b → IsFront b c → IsFront a c
front_then a b c p q = record { gone = q.gone ++ p.gone; is = p.is ∙ ap (λ l. l ++ p.gone) q.is ∙ append_assoc c q.gone p.gone }

pub Left-same : (a b : Stacks) → b.terms.items ≡ a.terms.items → b.preds.items ≡ a.preds.items → IsLeft a b
Left-same a b e f = record { terms = all_front a.terms.items b.terms.items e; preds = all_front a.preds.items b.preds.items f }

pub Left-term : (a b : Stacks) (gone : List Term) → a.terms.items ≡ b.terms.items ++ gone → b.preds.items ≡ a.preds.items → IsLeft a b
Left-term a b gone e f = record { terms = record { gone = gone; is = e }; preds = all_front a.preds.items b.preds.items f }

pub Left-pred : (a b : Stacks) (gone : List Pred) → a.preds.items ≡ b.preds.items ++ gone → b.terms.items ≡ a.terms.items → IsLeft a b
Left-pred a b gone e f = record { terms = all_front a.terms.items b.terms.items f; preds = record { gone = gone; is = e } }

pub Left-then : (a b c : Stacks) → IsLeft a b → IsLeft b c → IsLeft a c
Left-then a b c p q = record {
  terms = front_then a.terms.items b.terms.items c.terms.items p.terms q.terms;
  preds = front_then a.preds.items b.preds.items c.preds.items p.preds q.preds;
}

pub ruleset leaving = (Left-same, Left-term, Left-pred, Left-then)
