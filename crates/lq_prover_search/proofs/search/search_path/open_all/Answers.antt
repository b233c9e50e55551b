use Rattle.std.proofs.Common.{◌≡◌, ◌∙◌, ℕ, zero, suc, List, [], ◌∷◌, All, Some, false, length, set, slice_get, take, refl, sym, ap, subst, add-one, arith}
use Rattle.std.proofs.lemmas.List.{take_all}
use Rattle.std.proofs.lemmas.List.Elements.{All-cons, All-head, All-nil, All-tail}
use Rattle.lq_prover_search.specs.Path.SearchPath.{choices_of}
use Rattle.lq_prover_search.specs.declared.path.choice.Choice.{Choice}
use Rattle.lq_prover_search.proofs.SearchLemmas.Ready.{marked_members}
use Rattle.lq_prover_search.proofs.SearchLemmas.Weights.{with_done}
use Rattle.lq_prover_search.proofs.search.search_path.open_all.Goals as goal

same_length : (cs ds : List Choice) → choices_of cs ≡ choices_of ds → length cs ≡ length ds
same_length [] [] e = refl
same_length [] (d ∷ ds) e = cc
same_length (c ∷ cs) [] e = cc
same_length (c ∷ cs) (d ∷ ds) e = ap suc (same_length cs ds cc)

open_next : (cs : List Choice) (at : ℕ) (c : Choice) → slice_get cs at ≡ Some c → All (λ (x : Choice). x.is_done ≡ false) (take at cs)
    → All (λ (x : Choice). x.is_done ≡ false) (take (suc at) (set cs at (with_done c false)))
open_next [] at c e h = cc
open_next (d ∷ cs) zero c e h = All-cons (λ (x : Choice). x.is_done ≡ false) (with_done c false) [] refl (All-nil (λ (x : Choice). x.is_done ≡ false))
open_next (d ∷ cs) (suc at) c e h =
    All-cons (λ (x : Choice). x.is_done ≡ false) d (take (suc at) (set cs at (with_done c false))) (All-head (λ (x : Choice). x.is_done ≡ false) d (take at cs) h)
    (open_next cs at c e (All-tail (λ (x : Choice). x.is_done ≡ false) d (take at cs) h))

pub set_done-requires : goal.set_done-requires
set_done-requires c =
    let n = same_length c.loop-at.choices.items c.args.choices.now.items c.loop-at.invariant.members in let w = c.loop-at-test.true in omega (arith, n, w)

pub loop-at-preserved : goal.loop-at-preserved
loop-at-preserved c =
    let d = c.set_done.ensures in
    let cs = c.loop-at.choices.items in
    record {
      members = ap choices_of d.is ∙ marked_members cs c.loop-at.at d.choice false d.here ∙ c.loop-at.invariant.members;
      open_still = subst (λ k. All (λ (x : Choice). x.is_done ≡ false) (take k c.set_done.new.choices.items)) (sym (add-one c.loop-at.at))
          (subst (λ l. All (λ (x : Choice). x.is_done ≡ false) (take (suc c.loop-at.at) l)) (sym d.is)
          (open_next cs c.loop-at.at d.choice d.here c.loop-at.invariant.open_still));
    }

pub returns-clause-open_still : goal.returns-clause-open_still
returns-clause-open_still c =
    let cs = c.loop-at.choices.items in
    let n = same_length cs c.args.choices.now.items c.loop-at.invariant.members in
    let w = c.loop-at-test.false in
    subst (All (λ (x : Choice). x.is_done ≡ false)) (take_all c.loop-at.at cs (omega (arith, n, w))) c.loop-at.invariant.open_still
