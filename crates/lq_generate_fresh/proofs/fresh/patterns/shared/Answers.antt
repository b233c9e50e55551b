use Rattle.std.proofs.Common.{[], refl, ap}
use Rattle.lq_generate_fresh.specs.Fresh.Growing.{scope_kept}
use Rattle.lq_generate_fresh.specs.Fresh.Views.{scope_at, scopes_of}
use Rattle.lq_generate_fresh.proofs.FreshLemmas.Copying.{patterns_kept, patterns_pushed, template_after}
use Rattle.lq_generate_fresh.proofs.FreshLemmas.Walked.{grown_made}
use Rattle.lq_types_table.specs.Nodes as types
use Rattle.lq_types_table.specs.Whole.{types_of}
use Rattle.lq_generate_fresh.proofs.fresh.patterns.shared.Goals as goal

pub returns-in-Some-clause-patterns : goal.returns-in-Some-clause-patterns
returns-in-Some-clause-patterns c =
    let ps = c.args.patterns.now in
    patterns_kept c.args.given.now.datatypes.now (types_of c.args.given.now.types.now) c.args.templates.now c.copied.new.templates ps ps
    c.in_ok-row.ensures.grown refl c.requires.patterns

pub returns-then-not-is_taken_again-clause-patterns : goal.returns-then-not-is_taken_again-clause-patterns
returns-then-not-is_taken_again-clause-patterns c =
    patterns_kept c.args.given.now.datatypes.now (types_of c.args.given.now.types.now) c.args.templates.now c.fresh.new.self c.args.patterns.now
    c.is_taken_again.new.self c.in_ok-row-2.ensures.grown (ap (λ made. made.items) c.is_taken_again.ensures) c.requires.patterns

pub returns-clause-template : goal.returns-clause-template
returns-clause-template c =
    let old = c.args.templates.now in
    let mid = c.pattern_of.new.templates in
    let F = types.at (types_of c.args.given.now.types.now) in
    let p = c.in_ok-pattern.pattern in
    let made = c.in_ok-pattern.ensures.made in
    template_after c.args.given.now.datatypes.now (types_of c.args.given.now.types.now) old mid c.copied-2.new.templates c.in_ok-row-3.row
    (scope_at old c.args.scope)
    (scope_at mid c.args.scope) (F c.args.at) (F p.at) made (scope_kept (scopes_of old) (scopes_of mid) c.args.scope made.scopes c.requires.scope)
    (ap F c.in_ok-pattern.ensures.is) c.in_ok-row-3.ensures

pub returns-clause-patterns : goal.returns-clause-patterns
returns-clause-patterns c =
    let D = c.args.given.now.datatypes.now in
    let all = types_of c.args.given.now.types.now in
    let old = c.args.templates.now in
    let mid = c.pattern_of.new.templates in
    let later = c.is_taken_again.new.self in
    let last = c.add.new.self in
    patterns_kept D all mid c.copied-2.new.templates last last c.in_ok-row-3.ensures.grown refl
    (patterns_pushed D all mid later last c.in_ok-pattern.pattern c.in_ok-add.ensures
    (patterns_kept D all old mid c.args.patterns.now later (grown_made old mid [] c.in_ok-pattern.ensures.made)
    (ap (λ made. made.items) c.is_taken_again.ensures) c.requires.patterns)
    c.in_ok-pattern.ensures.pattern)
