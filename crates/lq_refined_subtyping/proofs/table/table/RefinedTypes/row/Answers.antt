use Rattle.std.proofs.Common.{◌≡◌, ℕ, ◌<◌, vec_len, length, sym, ◌∙◌, arith}
use Rattle.lq_refined_subtyping.proofs.TableLemmas.Entries.{entry_read, earlier_read, node_read}
use Rattle.lq_refined_subtyping.proofs.table.table.RefinedTypes.row.Goals as goal

within : (n m k : ℕ) → n ≡ m → k < m → k < n
within n m k e h = omega arith

pub index-requires : goal.index-requires
index-requires c = within (vec_len c.args.self.now.rows) (length c.args.self.now.rows.items) c.args.at c.args.self.now.rows.ok.0 c.requires

pub returns-clause-refined : goal.returns-clause-refined
returns-clause-refined c =
    let self = c.args.self.now in
    let there = within (vec_len self.rows) (length self.rows.items) c.args.at self.rows.ok.0 c.requires in
    λ scopes. entry_read scopes self.rows.items (vec_len self.rows) c.args.at c.index.result.now self.earlier self.rows.ok.0 there c.index.ensures

pub returns-clause-earlier : goal.returns-clause-earlier
returns-clause-earlier c =
    let self = c.args.self.now in
    let there = within (vec_len self.rows) (length self.rows.items) c.args.at self.rows.ok.0 c.requires in
    earlier_read self.rows.items (vec_len self.rows) c.args.at c.index.result.now self.earlier self.rows.ok.0 there c.index.ensures

pub returns-clause-node : goal.returns-clause-node
returns-clause-node c =
    let self = c.args.self.now in
    let there = within (vec_len self.rows) (length self.rows.items) c.args.at self.rows.ok.0 c.requires in
    λ h. sym (node_read self.rows.items (vec_len self.rows) c.args.at c.index.result.now self.rows.ok.0 there c.index.ensures) ∙ h

pub returns-clause-whether : goal.returns-clause-whether
returns-clause-whether c =
    let self = c.args.self.now in
    let there = within (vec_len self.rows) (length self.rows.items) c.args.at self.rows.ok.0 c.requires in
    λ h. node_read self.rows.items (vec_len self.rows) c.args.at c.index.result.now self.rows.ok.0 there c.index.ensures ∙ h
