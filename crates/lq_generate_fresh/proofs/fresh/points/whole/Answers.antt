use Rattle.std.proofs.Common.{refl}
use Rattle.lq_types_table.specs.Whole.{types_of}
use Rattle.lq_generate_fresh.proofs.FreshLemmas.Copying.{patterns_kept}
use Rattle.lq_generate_fresh.proofs.fresh.points.whole.Goals as goal

pub returns-clause-patterns : goal.returns-clause-patterns
returns-clause-patterns c =
    let ps = c.args.patterns.now in
    patterns_kept c.args.given.now.datatypes.now (types_of c.args.given.now.types.now) c.args.templates.now c.fresh.new.self ps ps
    c.in_ok-row-2.ensures.grown refl c.requires.patterns
