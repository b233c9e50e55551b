use Rattle.std.proofs.Common.{◌<◌, sym, ap, length, rules}
use Rattle.std.proofs.lemmas.Option.{slice_get_within, get_or_from_slice_get}
use Rattle.lq_prover_simplex.specs.declared.row.Standing.{Standing}
use Rattle.lq_prover_simplex.proofs.conflict.share.Goals as goal

pub offset_bounds-rows-limit : goal.offset_bounds-rows-limit
offset_bounds-rows-limit c =
    let n = c.requires.given.1 in
    let b : c.args.limit.now.row < length c.args.rows.now = slice_get_within c.args.rows.now c.args.limit.now.row n.standing n.stands in
    search rules

pub bounds-rows-limit : goal.bounds-rows-limit
bounds-rows-limit c = let n = c.requires.given.1 in slice_get_within c.args.rows.now c.args.limit.now.row n.standing n.stands

pub returns-clause-names : goal.returns-clause-names
returns-clause-names c =
    let n = c.requires.given.1 in
    record {
      standing = n.standing;
      stands = n.stands;
      gives = n.gives;
      is = sym (ap (λ (s : Standing). s.tag) (get_or_from_slice_get c.args.rows.now c.args.limit.now.row n.standing c.index-rows-limit.result n.stands));
    }
