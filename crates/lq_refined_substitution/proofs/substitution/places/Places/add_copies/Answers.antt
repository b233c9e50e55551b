use Rattle.std.proofs.Common.{◌≡◌, ◌+◌, List, length, vec_len, ap, sym, subst, ◌∙◌, arith}
use Rattle.std.proofs.lemmas.List.{length-append}
use Rattle.lq_refined_substitution.specs.Substitution.Placed.{patterns_of}
use Rattle.lq_refined_substitution.specs.Substitution.Places.{copied, mixed, ArePlaced}
use Rattle.lq_refined_substitution.specs.declared.substitution.places.Copies.{Copies}
use Rattle.lq_refined_substitution.proofs.SubstitutionLemmas.Placing.{length-copied, mixed-copies, placed-copies}
use Rattle.lq_refined_substitution.proofs.substitution.places.Places.add_copies.Goals as goal

pub invariant_of-self-2 : goal.invariant_of-self-2
invariant_of-self-2 c =
    let self = c.args.self.now in
    let ps = patterns_of self in
    let alone = self.alone.items in
    let cs = self.copies.items in
    let d : Copies = record { first = self.count; before = c.len.result; pattern = c.args.pattern; scope = c.args.scope } in
    let items = c.in_ok-push.ensures.items in
    let v : vec_len self.alone ≡ length alone = self.alone.ok.0 in
    let all = c.len.ensures in
    let before : c.len.result ≡ length alone = omega (arith, v, all) in
    let counted = self.counted in
    let first : self.count ≡ 0 + length (mixed ps alone 0 cs) = omega (arith, counted) in
    let more = length-append (mixed ps alone 0 cs) (copied ps d) in
    let long = length-copied ps d in
    let pattern = ap length c.pattern.ensures in
    let count = c.in-Some.ensures.1 in
    let whole = ap length (ap (mixed ps alone 0) items ∙ mixed-copies ps alone 0 0 cs d self.placed before) in
    record {
      placed = subst (λ (l : List Copies). ArePlaced ps (length alone) 0 0 l) (sym items) (placed-copies ps alone 0 0 cs d self.placed before first c.requires);
      counted = omega (arith, count, counted, more, long, pattern, whole);
    }

pub returns-clause-added : goal.returns-clause-added
returns-clause-added c =
    let self = c.args.self.now in
    let ps = patterns_of self in
    let alone = self.alone.items in
    let d : Copies = record { first = self.count; before = c.len.result; pattern = c.args.pattern; scope = c.args.scope } in
    let v : vec_len self.alone ≡ length alone = self.alone.ok.0 in
    let all = c.len.ensures in
    let before : c.len.result ≡ length alone = omega (arith, v, all) in
    ap (mixed ps alone 0) c.in_ok-push.ensures.items ∙ mixed-copies ps alone 0 0 self.copies.items d self.placed before
