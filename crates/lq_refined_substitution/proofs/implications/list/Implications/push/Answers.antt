use Rattle.std.proofs.Common.{◌≡◌, ◌<◌, ◌≤◌, [], ◌∷◌, length, map, min, vec_len, sym, ap, ◌∙◌, arith}
use Rattle.std.proofs.lemmas.List.{length-map, map_push}
use Rattle.lq_refined_substitution.specs.Implications.Views.{count_of, environment_lists, implication_view}
use Rattle.lq_refined_substitution.proofs.ImplicationsLemmas.Limits.{kept-full, kept-whole}
use Rattle.lq_refined_substitution.proofs.implications.list.Implications.push.Goals as goal

pub returns-then-len-lt-IMPLICATION_LIMIT-clause-added : goal.returns-then-len-lt-IMPLICATION_LIMIT-clause-added
returns-then-len-lt-IMPLICATION_LIMIT-clause-added c =
    let self = c.args.self.now in
    let view = implication_view (environment_lists self) in
    let items = self.items.items in
    let h : c.len.result < 262144 = c.if-len-lt-IMPLICATION_LIMIT.true in
    let l : c.len.result ≡ vec_len self.items = c.len.ensures in
    let v : vec_len self.items ≡ length items = self.items.ok.0 in
    let n : length (map view items) ≡ length items = length-map items view in
    ap (map view) c.in_ok-push.ensures.items ∙ map_push view items c.args.implication
    ∙ sym (kept-whole 262144 (map view items) (view c.args.implication ∷ []) (omega arith))

pub returns-clause-added : goal.returns-clause-added
returns-clause-added c =
    let self = c.args.self.now in
    let view = implication_view (environment_lists self) in
    let items = self.items.items in
    let h : 262144 ≤ c.len.result = c.if-len-lt-IMPLICATION_LIMIT.false in
    let l : c.len.result ≡ vec_len self.items = c.len.ensures in
    let v : vec_len self.items ≡ length items = self.items.ok.0 in
    let k : length items ≡ min (count_of self) 262144 = self.counted in
    let n : length (map view items) ≡ length items = length-map items view in
    sym (kept-full 262144 (map view items) (view c.args.implication ∷ []) (omega arith))
