use Rattle.std.proofs.Common.{◌∙◌, is_ok}
use Rattle.lq_refined_subtyping.proofs.TableLemmas.Entries.{earlier-push}
use Rattle.lq_refined_subtyping.specs.Table.Growing.{Extends-pushed}
use Rattle.lq_refined_subtyping.proofs.table.table.RefinedTypes.add.Goals as goal

pub invariant_of-self : goal.invariant_of-self
invariant_of-self c =
    let rows = c.args.self.now.rows.items in
    record { earlier = earlier-push (is_ok c.push.result) rows c.push.new.self.items c.args.row c.push.ensures.items c.args.self.now.earlier c.requires }

pub returns-in_err-push-clause-grows : goal.returns-in_err-push-clause-grows
returns-in_err-push-clause-grows c =
    Extends-pushed (is_ok c.push.result) c.args.self.now.rows.items c.push.new.self.items c.args.row c.push.ensures.items

pub returns-clause-added : goal.returns-clause-added
returns-clause-added c = (c.len-number.ensures ∙ c.args.self.now.rows.ok.0, c.in_ok-push.ensures.items)

pub returns-clause-grows : goal.returns-clause-grows
returns-clause-grows c =
    Extends-pushed (is_ok c.push.result) c.args.self.now.rows.items c.push.new.self.items c.args.row c.push.ensures.items
