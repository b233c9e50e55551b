use Rattle.std.proofs.Common.{◌≡◌, ◌∙◌, vec_len, List, length, ap, arith}
use Rattle.lq_refined_instances.specs.Counting.{count_of}
use Rattle.lq_refined_instances.specs.Instances.{told}
use Rattle.lq_refined_instances.specs.Scopes.{scope_in, Scope}
use Rattle.lq_refined_instances.specs.Views.{scopes_view}
use Rattle.lq_text_qualifiers.specs.Sorting.Views.{qualifier_view}
use Rattle.lq_text_qualifiers.specs.Faults.Shapes.{Shape}
use Rattle.lq_refined_copies.specs.Completed.{all_completed}
use Rattle.lq_refined_copies.proofs.Counted.{few}
use Rattle.lq_refined_copies.proofs.patterns.pattern_count.Goals as goal

pub returns-then-inner : goal.returns-then-inner
returns-then-inner c = λ all p h out.
    let asked = c.if-inner.true in
    let v : vec_len p.scopes.additions ≡ length p.scopes.additions.items = p.scopes.additions.ok.0 in
    c.copies_count.ensures all (scopes_view p.scopes) out (h.columns asked) (h.marks asked) (λ i s. few p.scopes i s (omega arith))
    ∙ ap (λ (us : List (Scope × Shape)). told (count_of (qualifier_view c.args.qualifier.now) (all_completed (scope_in all c.args.scope) us))) (h.groups asked)
