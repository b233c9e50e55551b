use Rattle.std.proofs.Common.{◌≡◌, ◌∙◌, ◌++◌, List, map, ap₂}
use Rattle.lq_refined_instances.specs.Scopes.{scope_in}
use Rattle.lq_refined_instances.specs.Views.{scopes_view}
use Rattle.lq_refined_instances.specs.declared.unknowns.Unknown.{Unknown}
use Rattle.lq_refined_copies.specs.Flattening.{numbered}
use Rattle.lq_refined_copies.proofs.Completing.{all_are, all_there, first_empty, first_there}
use Rattle.lq_refined_copies.proofs.flattening.add_copies.Goals as goal
use Rattle.std.specs.Prelude.{ℕ}

pub returns-clause-there : goal.returns-clause-there
returns-clause-there c =
    let old = scopes_view c.args.flat.now.scopes in
    let all = scopes_view c.all_numbers.new.scopes in
    let us = c.args.flat.now.unknowns.items in
    let ps = c.args.pattern.now.unknowns.items in
    let ns = c.in_ok-numbers.numbers.items in
    let is : c.add_numbered.new.unknowns.items ≡ us ++ map (numbered ns) ps =
    c.in_ok-add_numbered.ensures
    ∙ ap₂ (λ (ns : List ℕ) (ps : List Unknown). us ++ map (numbered ns) ps) c.deref-2.ensures.value c.deref.ensures.value
    in
    all_there (scope_in old c.args.scope) (scopes_view c.args.pattern.now.scopes) old all ns c.in_ok-numbers.ensures.longer c.in_ok-numbers.ensures.made us ps
    c.add_numbered.new.unknowns.items (first_there c.all_numbers.new.scopes) c.requires.there is

pub returns-clause-unknowns : goal.returns-clause-unknowns
returns-clause-unknowns c =
    let old = scopes_view c.args.flat.now.scopes in
    let all = scopes_view c.all_numbers.new.scopes in
    let us = c.args.flat.now.unknowns.items in
    let ps = c.args.pattern.now.unknowns.items in
    let ns = c.in_ok-numbers.numbers.items in
    let is : c.add_numbered.new.unknowns.items ≡ us ++ map (numbered ns) ps =
    c.in_ok-add_numbered.ensures
    ∙ ap₂ (λ (ns : List ℕ) (ps : List Unknown). us ++ map (numbered ns) ps) c.deref-2.ensures.value c.deref.ensures.value
    in
    all_are (scope_in old c.args.scope) (scopes_view c.args.pattern.now.scopes) old all ns c.in_ok-numbers.ensures.longer c.in_ok-numbers.ensures.made us ps
    c.add_numbered.new.unknowns.items c.in_ok-numbers.ensures.all (first_empty c.all_numbers.new.scopes) c.requires.there is
