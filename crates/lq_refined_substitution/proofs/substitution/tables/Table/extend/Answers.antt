use Rattle.std.proofs.Common.{◌≡◌, length, vec_len, [], ◌∷◌, arith, ◌∙◌, ap, is_ok}
use Rattle.lq_refined_substitution.specs.Substitution.Scopes.{grown, list_at}
use Rattle.lq_refined_substitution.specs.declared.substitution.tables.Entry.{Entry}
use Rattle.lq_refined_substitution.proofs.SubstitutionLemmas.Growing.{length-grown, grown-push, below-pushed, shown-within, within-pushed}
use Rattle.lq_refined_substitution.proofs.SubstitutionLemmas.Jumps.{jumps-pushed}
use Rattle.lq_refined_substitution.proofs.substitution.tables.Table.extend.Goals as goal

pub invariant_of-self : goal.invariant_of-self
invariant_of-self c =
    let old = c.args.self.now.entries.items in
    let new = c.push.new.self.items in
    let self = c.args.self.now in
    let e : Entry = record { parent = c.args.parent; symbol = c.args.symbol; hidden = c.args.hidden; highest = c.highest_of-highest.result; jump = c.jump_of-jump.result } in
    let k = length-grown ([] ∷ []) old in
    let r = c.requires in
    let all = shown-within e (list_at (grown ([] ∷ []) old) c.args.parent) c.highest_of-highest.ensures.parent c.highest_of-highest.ensures.symbol in
    record {
      parents = below-pushed (is_ok c.push.result) old new e c.push.ensures.items self.parents (omega arith);
      within = within-pushed (is_ok c.push.result) old new e c.push.ensures.items self.parents self.within (omega arith) all;
      jumps = jumps-pushed (is_ok c.push.result) old new e c.push.ensures.items self.parents self.jumps (omega arith)
          ((let j = c.jump_of-jump.ensures.earlier in omega arith), c.jump_of-jump.ensures.agree);
    }

pub returns-clause-added : goal.returns-clause-added
returns-clause-added c =
    let e : Entry = record { parent = c.args.parent; symbol = c.args.symbol; hidden = c.args.hidden; highest = c.highest_of-highest.result; jump = c.jump_of-jump.result } in
    ap (grown ([] ∷ [])) c.in_ok-push.ensures.items ∙ grown-push ([] ∷ []) c.args.self.now.entries.items e

pub returns-clause-number : goal.returns-clause-number
returns-clause-number c =
    let v : vec_len c.args.self.now.entries ≡ length c.args.self.now.entries.items = c.args.self.now.entries.ok.0 in
    let k = length-grown ([] ∷ []) c.args.self.now.entries.items in
    let n = c.len.ensures in omega arith
