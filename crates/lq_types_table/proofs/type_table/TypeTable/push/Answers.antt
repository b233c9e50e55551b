use Rattle.std.proofs.Common.{◌≡◌, ◌+◌, ◌<◌, ◌^◌, [], length, vec_len, refl, ◌∙◌, arith, is_ok, rules}
use Rattle.lq_types_table.proofs.Growing.{length-grown, table-pushed, types-pushed, types-kept}
use Rattle.lq_types_table.proofs.type_table.TypeTable.push.Goals as goal

pub invariant_of-self-2 : goal.invariant_of-self-2
invariant_of-self-2 c =
    let small : length c.args.self.now.rows.items + 1 < 2 ^ 32 =
    let v : vec_len c.args.self.now.rows ≡ length c.args.self.now.rows.items = c.args.self.now.rows.ok.0 in let n = c.len-next.ensures in
    let f = c.if-next.false in omega arith in
    record {
      earlier = table-pushed (is_ok c.push.result) c.args.self.now.parts.items c.args.parts.now c.extend_from_slice.new.self.items
          c.args.self.now.rows.items c.push.new.self.items c.args.head
          c.len-2.result (length c.args.parts.now) c.in_ok-extend_from_slice.ensures.items c.push.ensures.items (c.len-2.ensures
          ∙ c.args.self.now.parts.ok.0) refl c.args.self.now.earlier small
          c.requires.parts c.requires.right;
    }

pub returns-in_err-push-clause-kept : goal.returns-in_err-push-clause-kept
returns-in_err-push-clause-kept c =
    let kept = types-kept c.args.self.now.parts.items c.args.parts.now c.extend_from_slice.new.self.items c.args.self.now.rows.items
    c.push.new.self.items
    c.in_ok-extend_from_slice.ensures.items c.in_err-push.ensures.items c.args.self.now.earlier in
    search rules

pub returns-clause-added : goal.returns-clause-added
returns-clause-added c =
    types-pushed c.args.self.now.parts.items c.args.parts.now c.extend_from_slice.new.self.items c.args.self.now.rows.items c.push.new.self.items
    c.args.head
    c.len-2.result (length c.args.parts.now) c.in_ok-extend_from_slice.ensures.items c.in_ok-push.ensures.items (c.len-2.ensures
    ∙ c.args.self.now.parts.ok.0) refl c.args.self.now.earlier

pub returns-clause-number : goal.returns-clause-number
returns-clause-number c =
    let v : vec_len c.args.self.now.rows ≡ length c.args.self.now.rows.items = c.args.self.now.rows.ok.0 in
    let k = length-grown c.args.self.now.parts.items [] c.args.self.now.rows.items in
    let n = c.len-next.ensures in omega arith
