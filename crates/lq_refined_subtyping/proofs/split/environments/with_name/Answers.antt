use Rattle.std.proofs.Common.{◌≡◌, arith}
use Rattle.lq_refined_subtyping.specs.Table.Growing.{extends-count}
use Rattle.lq_refined_subtyping.specs.Table.Whole.{count_of}
use Rattle.lq_refined_subtyping.proofs.SplitLemmas.Rows.{extends-back}
use Rattle.lq_refined_subtyping.proofs.split.environments.with_name.Goals as goal

pub returns-clause-grows : goal.returns-clause-grows
returns-clause-grows c =
    let init = c.args.types.now in
    let last = c.expose.new.self in
    let new = c.truncate.new.self in
    let grown = c.in_ok-exposed.ensures.grows in
    let more = extends-count init.rows.items last.rows.items grown in
    let cut = c.truncate.ensures.count in
    let len = c.len-len.ensures in
    let same : count_of new ≡ count_of init = omega arith in
    extends-back init.rows.items new.rows.items last.rows.items grown c.truncate.ensures.kept same
