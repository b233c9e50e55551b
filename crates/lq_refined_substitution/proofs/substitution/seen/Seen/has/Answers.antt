use Rattle.std.proofs.Common.{◌<◌, inl, inr, sym, subst}
use Rattle.lq_refined_substitution.proofs.SubstitutionLemmas.Growing.{outside}
use Rattle.lq_refined_substitution.proofs.substitution.seen.Seen.has.Goals as goal

pub returns-then-own-self : goal.returns-then-own-self
returns-then-own-self c =
    let s = c.args.self.now in
    sym (outside s.lowest s.highest s.items.items c.args.symbol s.bounds (inl (subst (λ k. k < s.lowest) c.rank-own.ensures c.if-own-self.true)))

pub returns-then-self-own : goal.returns-then-self-own
returns-then-self-own c =
    let s = c.args.self.now in
    sym (outside s.lowest s.highest s.items.items c.args.symbol s.bounds (inr (subst (λ k. s.highest < k) c.rank-own.ensures c.if-self-own.true)))
