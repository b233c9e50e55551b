use Rattle.std.proofs.Common.{◌≡◌, ◌∙◌, ◌<◌, ◌⊎◌, inl, inr, ℕ, List, Some, length, map, slice_get, true, suc, [], ◌∷◌, refl, sym, ap, subst, arith}
use Rattle.lq_prover_case.specs.Equations.Naming.{objects_of}
use Rattle.lq_prover_case.proofs.EquationsLemmas.Equated.{fewer}
use Rattle.lq_prover_case.proofs.EquationsLemmas.Sides.{argument_keeps, keeps_new}
use Rattle.lq_logic_predicates.specs.Numbering.{index_of-present, slice_get-index_of}
use Rattle.lq_logic_predicates.specs.Sum.{Sum}
use Rattle.lq_logic_predicates.specs.Table.{has_term, index_of}
use Rattle.lq_logic_predicates.specs.TermView.{sum_of}
use Rattle.lq_logic_predicates.specs.declared.term.Term.{Term}
use Rattle.lq_prover_valid.proofs.names.object_table.Goals as goal

-- one object more
named_next : (keys old new : List Sum) (n k : ℕ) (a x : Sum) → ((t : Sum) → has_term old t ≡ true → has_term new t ≡ true) → has_term new x ≡ true → slice_get keys n ≡ Some x
    → ((k : ℕ) (a : Sum) → k < n → slice_get keys k ≡ Some a → has_term old a ≡ true) → (k < n) ⊎ (k ≡ n) → slice_get keys k ≡ Some a → has_term new a ≡ true
named_next keys old new n k a x keeps has at h (inl l) e = keeps a (h k a l e)
named_next keys old new n k a x keeps has at h (inr m) e =
    let same : Some x ≡ Some a = sym at ∙ ap (slice_get keys) (sym m) ∙ e in
    let one : x ≡ a = cc in subst (λ t. has_term new t ≡ true) one has

mapped_length : (terms : List Term) → length (map sum_of terms) ≡ length terms
mapped_length [] = refl
mapped_length (t ∷ terms) = ap suc (mapped_length terms)

pub loop-at-init : goal.loop-at-init
loop-at-init c = record { arguments = c.in_ok-add_arguments.ensures.has; named = λ k a l e. absurd (omega (arith, l)) }

pub loop-at-preserved : goal.loop-at-preserved
loop-at-preserved c =
    let old = objects_of c.loop-at.objects in
    let new = objects_of c.add.new.self in
    let x = sum_of c.named_at.result.now in
    let n = keeps_new old new x c.in_ok-add.ensures.added in
    record {
      arguments = λ k t e. argument_keeps old new t n.0 (c.loop-at.invariant.arguments k t e);
      named = λ k a l e. named_next (map sum_of c.args.named.now.keys) old new c.loop-at.at k a x n.0 n.1 c.named_at.ensures c.loop-at.invariant.named (fewer k c.loop-at.at (omega (arith, l))) e;
    }

pub returns-clause-named : goal.returns-clause-named
returns-clause-named c = λ t h.
    let keys = map sum_of c.args.named.now.keys in
    let within = index_of-present keys t h in
    let count : length keys ≡ length c.args.named.now.keys = mapped_length c.args.named.now.keys in
    let m = c.len-at-end.ensures.len in
    let n = c.loop-at-test.false in
    c.loop-at.invariant.named (index_of keys t) t (omega (arith, within, count, m, n)) (slice_get-index_of keys t h)
