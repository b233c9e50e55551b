use Rattle.std.proofs.Common.{[], ◌∷◌, sym, ap, ◌∙◌, append-nil}
use Rattle.std.proofs.lemmas.List.{map-append}
use Rattle.lq_logic_predicates.specs.NnfView.{nnfs_view}
use Rattle.lq_prover_search.specs.Path.SearchPath.{choices_of}
use Rattle.lq_prover_search.specs.declared.path.choice.Choice.{Choice}
use Rattle.lq_prover_search.proofs.path.taking.add_choice.Goals as goal

pub returns-in-Ok-clause-begins : goal.returns-in-Ok-clause-begins
returns-in-Ok-clause-begins c = λ facts. record {
  facts = [];
  choices = nnfs_view c.args.members.now ∷ [];
  are_facts = sym (append-nil facts);
  are_choices = ap choices_of c.in-Ok.ensures.items ∙ map-append (λ (x : Choice). nnfs_view x.members.now) c.args.choices.now.items _;
}

pub returns-in-Err-clause-begins : goal.returns-in-Err-clause-begins
returns-in-Err-clause-begins c = λ facts. record {
  facts = [];
  choices = [];
  are_facts = sym (append-nil facts);
  are_choices = ap choices_of c.in-Err.ensures.items ∙ sym (append-nil (choices_of c.args.choices.now.items));
}
