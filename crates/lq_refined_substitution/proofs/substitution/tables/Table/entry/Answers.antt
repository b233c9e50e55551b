use Rattle.std.proofs.Common.{◌∙◌, [], ◌∷◌, ap, arith}
use Rattle.lq_refined_substitution.specs.Substitution.Tables.{table_at}
use Rattle.lq_refined_substitution.proofs.SubstitutionLemmas.Growing.{entry-is, entry-within, entry-earlier, grown-keeps}
use Rattle.lq_refined_substitution.proofs.SubstitutionLemmas.Jumps.{entry-agrees, entry-outward}
use Rattle.lq_refined_substitution.proofs.substitution.tables.Table.entry.Goals as goal

pub returns-then-at-eq0-clause-symbols : goal.returns-then-at-eq0-clause-symbols
returns-then-at-eq0-clause-symbols c =
    ap (table_at c.args.self.now) c.if-at-eq0.true ∙ grown-keeps ([] ∷ []) c.args.self.now.entries.items 0 (omega arith)

pub returns-clause-symbols : goal.returns-clause-symbols
returns-clause-symbols c =
    let self = c.args.self.now in entry-is self.entries.items c.args.at c.if-at-eq0.false self.parents c.added.result c.added.ensures

pub returns-clause-within : goal.returns-clause-within
returns-clause-within c =
    let self = c.args.self.now in entry-within self.entries.items c.args.at c.if-at-eq0.false self.parents c.added.result c.added.ensures self.within

pub returns-clause-earlier : goal.returns-clause-earlier
returns-clause-earlier c =
    let self = c.args.self.now in entry-earlier self.entries.items c.args.at c.if-at-eq0.false self.parents c.added.result c.added.ensures

pub returns-clause-outward : goal.returns-clause-outward
returns-clause-outward c =
    let self = c.args.self.now in entry-outward self.entries.items c.args.at c.if-at-eq0.false self.parents self.jumps c.added.result c.added.ensures

pub returns-clause-agree : goal.returns-clause-agree
returns-clause-agree c =
    let self = c.args.self.now in entry-agrees self.entries.items c.args.at c.if-at-eq0.false self.parents self.jumps c.added.result c.added.ensures
