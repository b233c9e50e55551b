use Rattle.std.proofs.Common.{◌≡◌, ◌∙◌, ◌<◌, IfNone, IfOk, IfSome, Some, false, get_or, length, set, slice_get, true, refl, sym, ap, subst, arith}
use Rattle.std.proofs.lemmas.Option.{slice_get-get_or, slice_get_within}
use Rattle.std.proofs.lemmas.Result.{err_from_is_err_and}
use Rattle.lq_prover_case.specs.State.PathState.{facts_in, objects_in}
use Rattle.lq_prover_proof_tree.specs.Trees.Path.{taken}
use Rattle.lq_prover_proof_tree.specs.Trees.Proves.{Clashes, Proves, by_clash}
use Rattle.lq_prover_proof_tree.specs.Trees.TreeView.{clash_of, tree_view, trees_view}
use Rattle.lq_prover_case.specs.Equations.Equating.{AreEquated, numbering_by}
use Rattle.lq_prover_case.specs.Equations.Naming.{name_in}
use Rattle.lq_prover_case.proofs.EquationsLemmas.Chains.{begun, ended}
use Rattle.lq_prover_search.specs.Path.SearchPath.{Begins}
use Rattle.lq_prover_search.specs.declared.path.choice.Choice.{Choice}
use Rattle.lq_prover_search.proofs.PathLemmas.Leaves.{begins_itself}
use Rattle.lq_prover_search.proofs.PathLemmas.Readings.{view_items}
use Rattle.lq_logic_predicates.specs.NnfView.{nnf_items, nnf_view, nnfs_view}
use Rattle.lq_logic_predicates.specs.Reading.{any_of, yes}
use Rattle.lq_prover_search.specs.Search.Branches.{BranchProves, SplitProves}
use Rattle.lq_prover_search.specs.Search.Scope.{AreWithin, IsWithin}
use Rattle.lq_prover_search.specs.Search.SearchPath.{Always, EndsMet, IsBack, IsReadyForAny, facts_of, path_of, scope_of}
use Rattle.lq_prover_search.specs.declared.search.pair.Pair.{Pair}
use Rattle.lq_prover_search.specs.declared.search.search_path.SearchPath.{SearchPath}
use Rattle.lq_prover_search.proofs.SearchLemmas.Nodes.{leaf_seen, no_trees, one_more}
use Rattle.lq_prover_search.proofs.SearchLemmas.Ready.{ready_back, ready_equated, ready_marked, ready_pair_marked}
use Rattle.lq_prover_search.proofs.SearchLemmas.Reaching.{check_hands, check_stops, checked_reaches, equating_stops, hands_more, hands_same, hands_step, if_err_more, if_ok_none, reached_step, step_checked, step_equated, step_kept, step_marked, step_member, step_pair_marked, step_taken, stops_step}
use Rattle.lq_prover_search.proofs.SearchLemmas.Steps.{all_members, back_itself, back_then, choice_at, ends_at, ends_before, if_ok_some, left_back, left_taken, longer_back, marked_path, marks, member_inside, member_is, member_weight, members_at, path_back, ready_member, same_item, set_length, unmarked_is, ways_at, ways_length}
use Rattle.lq_prover_search.proofs.SearchLemmas.Weights.{total, total-marked, weights, with_done}
use Rattle.lq_prover_search.proofs.SearchLemmas.Within.{item_within}
use Rattle.lq_prover_search.proofs.search.searching.+search.Goals as goal

-- ---- each member

pub refute_each-loop-member-init : goal.refute_each-loop-member-init
refute_each-loop-member-init t c = record {
  back = back_itself c.args.path.now;
  handed = hands_same (any_of (nnfs_view c.args.members.now)) (scope_of c.args.givens.now) c.args.givens.now.pairs.now c.args.path.now c.args.path.now (λ ever h. h);
  proves = no_trees (numbering_by (scope_of c.args.givens.now).terms) (path_of (scope_of c.args.givens.now) c.args.path.now) c.in-Ok.trees c.in-Ok.ensures;
}

pub refute_each-refute_with-requires : goal.refute_each-refute_with-requires
refute_each-refute_with-requires t c =
    let s = scope_of c.args.givens.now in
    let pairs = c.args.givens.now.pairs.now in
    let items = c.as_slice-member-items.result.now in
    let i = c.loop-member.member-index in
    let n = c.member-item.result in
    let e = c.as_slice-member-items.ensures in
    let inside = c.loop-member-test.true in
    let is = c.member-item.is in
    let same = left_back c.args.path.now c.loop-member.path c.loop-member.invariant.back in
    let w = member_weight c.args.members.now items i n e inside is in
    let at = c.decreases in (
      omega (arith, same, w, at),
      (
        c.requires.given,
        (
          subst (λ m. IsWithin s (nnf_view m)) (sym (member_is c.args.members.now items i n e is))
              (item_within s (nnf_items c.args.members.now) i n (member_inside c.args.members.now items i e inside) (subst (AreWithin s) (view_items c.args.members.now) c.requires.within)),
          ready_member s pairs c.args.path.now c.loop-member.path c.args.members.now items i n e inside is c.requires.ready c.loop-member.invariant.back,
        ),
      ),
    )

pub refute_each-loop-member-preserved : goal.refute_each-loop-member-preserved
refute_each-loop-member-preserved t c =
    let s = scope_of c.args.givens.now in
    let n = numbering_by s.terms in
    let items = c.as_slice-member-items.result.now in
    let i = c.loop-member.member-index in
    let member = c.member-item.result in
    let before = c.loop-member.invariant in
    let branch = rw c.in-Some-Own.is at c.in_ok-refute_with.ensures.branch in
    let own = subst (BranchProves n (path_of s c.loop-member.path) (nnf_view member)) c.in-Some-Own.field-0-is branch in
    let pairs = c.args.givens.now.pairs.now in
    let step = step_member s pairs c.args.path.now c.loop-member.path c.args.members.now items i member c.as_slice-member-items.ensures c.loop-member-test.true c.member-item.is before.back before.handed in
    record {
      handed = hands_step s pairs (any_of (nnfs_view c.args.members.now)) c.args.path.now (nnf_view member) c.loop-member.path c.refute_with.new.path step
          (rw c.in-Some-Own.is at c.in_ok-refute_with.ensures.handed);
      back = back_then c.args.path.now c.loop-member.path c.refute_with.new.path before.back (rw c.in-Some-Own.is at c.in_ok-refute_with.ensures.back);
      proves = one_more n (path_of s c.args.path.now) items i member c.loop-member.trees c.push.new.self c.in-Some-Own.tree c.loop-member-test.true c.member-item.is c.in-Ok-push.ensures.ok before.proves
          (subst (λ p. Proves n (taken p (nnf_view member)) (tree_view c.in-Some-Own.tree)) (path_back s c.args.path.now c.loop-member.path before.back) own);
    }

pub refute_each-returns-clause-split : goal.refute_each-returns-clause-split
refute_each-returns-clause-split t c =
    let s = scope_of c.args.givens.now in
    all_members (numbering_by s.terms) (path_of s c.args.path.now) c.args.members.now c.as_slice-member-items.result.now c.loop-member.member-index (trees_view c.loop-member.trees)
    c.as_slice-member-items.ensures c.loop-member-test.false c.loop-member.invariant.proves

pub refute_with-returns-in-None-clause-met : goal.refute_with-returns-in-None-clause-met
refute_with-returns-in-None-clause-met t c =
    let s = scope_of c.args.givens.now in
    ends_before s c.args.givens.now.pairs.now (path_of s c.args.path.now) (nnf_view c.args.member.now) c.search_with.new.path (rw c.in-None.is at c.in_ok-tree.ensures.met)

-- ---- equations, and what is split

pub search-returns-in-Some-clause-tree : goal.search-returns-in-Some-clause-tree
search-returns-in-Some-clause-tree t c =
    let s = scope_of c.args.givens.now in
    let n = numbering_by s.terms in
    let p = path_of s c.args.path.now in
    let after = facts_in (name_in s.objects) c.equate_all.new.state in
    let base = begun n p.choices p.facts p.facts refl in
    subst (Proves n p) (sym c.in_ok-leaf_around.ensures.tree)
    (ended n p p.choices c.in_ok-joints.joints.items after (clash_of c.in-Some.clash) (c.in_ok-joints.ensures.wraps p p.choices base) (rw c.in-Some.is at c.in_ok-joints.ensures.clash))

pub search-search_on-requires : goal.search-search_on-requires
search-search_on-requires t c =
    let s = scope_of c.args.givens.now in
    let e = c.in_ok-joints.ensures in
    let q : SearchPath = record { state = c.equate_all.new.state; choices = c.args.path.now.choices; pairs = c.args.path.now.pairs; order = c.args.path.now.order } in
    let at = c.decreases in (
      omega (arith, at),
      (
        c.requires.given,
        (
          ready_equated s c.args.givens.now.pairs.now c.args.path.now q c.requires.ready
              (record { adds = e.adds (name_in s.objects); about = e.objects; limits = e.limits; choices_are = refl; pairs_are = refl }),
          rw c.in_default.is at e.equated,
        ),
      ),
    )

pub search_on-returns-in-Some-2-clause-tree : goal.search_on-returns-in-Some-2-clause-tree
search_on-returns-in-Some-2-clause-tree t c =
    let s = scope_of c.args.givens.now in
    let n = numbering_by s.terms in
    let p = path_of s c.args.path.now in
    let name = name_in s.objects in
    let k = clash_of c.in-Some-2.clash in
    subst (Proves n p) (sym (leaf_seen c.in-Some-2.clash))
    (by_clash p k (subst (λ fs. Clashes fs k) (c.in_ok-clash.ensures.facts name) ((rw c.in-Some-2.is at c.in_ok-clash.ensures.some) name)))

pub search_on-returns-in-None-clause-met : goal.search_on-returns-in-None-clause-met
search_on-returns-in-None-clause-met t c =
    let s = scope_of c.args.givens.now in
    let pairs = c.args.givens.now.pairs.now in
    let name = name_in s.objects in
    let e = c.in_ok-clash.ensures in
    let p = c.args.path.now in
    let q : SearchPath = record { state = c.check.new.self; choices = c.args.path.now.choices; pairs = c.args.path.now.pairs; order = c.args.path.now.order } in
    let back : IsBack p q = record { facts = e.facts; choices_are = refl; pairs_are = refl; limits = e.limits } in
    let solves = rw c.in_default-2.is at e.solves in record {
      begins = subst (λ x. Begins x (path_of s q)) (path_back s p q back) (begins_itself (path_of s q));
      settled = record {
        ready = ready_back Always s pairs p q c.requires.ready back;
        solved = solves.0;
        solves = solves.1 name;
        flags = (rw c.in_default-2.is at e.flags) name;
        apart = rw c.in_default-2.is at e.apart;
        equated = subst (λ about. AreEquated s.objects s.terms about (facts_of s q)) (sym e.objects)
            (subst (AreEquated s.objects s.terms (objects_in p.state)) (sym (e.facts name)) c.requires.equated);
        choices_met = c.in-None.ensures.choices;
        pairs_met = c.in-None.ensures.pairs;
      };
    }

-- ---- a reading is taken

pub search_with-search-requires : goal.search_with-search-requires
search_with-search-requires t c =
    let s = scope_of c.args.givens.now in
    let e = c.in_ok-leaf.ensures in
    let w = left_taken s (nnf_view c.args.reading.now) c.args.path.now c.take_reading.new.path (rw c.in_default.is at e.taken) in
    let at = c.decreases in (
      omega (arith, w, at),
      (c.requires.given, rw c.in_default.is at e.ready),
    )

pub search_with-returns-clause-tree : goal.search_with-returns-clause-tree
search_with-returns-clause-tree t c =
    let s = scope_of c.args.givens.now in
    let is = rw c.in_default.is at c.in_ok-leaf.ensures.taken in
    subst (λ x. IfOk c.search.result (λ found. IfSome found (λ tree. Proves (numbering_by s.terms) x (tree_view tree)))) is.path c.search.ensures.tree

pub search_with-returns-clause-longer : goal.search_with-returns-clause-longer
search_with-returns-clause-longer t c =
    let s = scope_of c.args.givens.now in
    let e = c.in_ok-leaf.ensures in
    let is = rw c.in_default.is at e.taken in
    if_ok_some c.search.result (λ b. longer_back s (nnf_view c.args.reading.now) c.args.path.now c.take_reading.new.path c.search.new.path is e.longer.facts b) c.search.ensures.back

pub search_with-returns-clause-met : goal.search_with-returns-clause-met
search_with-returns-clause-met t c =
    let s = scope_of c.args.givens.now in
    let is = rw c.in_default.is at c.in_ok-leaf.ensures.taken in
    subst (λ x. IfOk c.search.result (λ found. IfNone found (EndsMet s c.args.givens.now.pairs.now x c.search.new.path))) is.path c.search.ensures.met

-- ---- a choice is split

pub split_choice-refute_each-requires : goal.split_choice-refute_each-requires
split_choice-refute_each-requires t c =
    let s = scope_of c.args.givens.now in
    let pairs = c.args.givens.now.pairs.now in
    let p = c.args.path.now in
    let at = c.args.at in
    let choice = c.index.result.now in
    let open_at = c.requires.is_open in
    let inside = slice_get_within p.choices.items at open_at.choice open_at.here in
    let here : slice_get p.choices.items at ≡ Some choice = slice_get-get_or p.choices.items at choice inside ∙ ap Some (sym c.index.ensures) in
    let is_open : choice.is_done ≡ false = ap (λ (x : Choice). x.is_done) (same_item p.choices.items at choice open_at.choice here open_at.here) ∙ open_at.open_still in
    let q : SearchPath = record { state = p.state; choices = c.set_done.new.choices; pairs = p.pairs; order = c.split.new.self } in
    let is : q.choices.items ≡ set p.choices.items at (with_done choice true) = marks p.choices.items c.set_done.new.choices.items at choice here c.set_done.ensures in
    let counted = total-marked p.choices.items at choice here is_open in
    let marked = ap total is in
    let measure = c.decreases in (
      omega (arith, counted, marked, measure),
      (
        c.requires.given,
        (
          choice_at (λ (x : Choice). AreWithin s (nnfs_view x.members.now)) p.choices.items at choice c.requires.ready.choices_in here,
          ready_marked s pairs p q at choice c.requires.ready refl here is refl,
        ),
      ),
    )

pub split_choice-set_done-requires-in-Some : goal.split_choice-set_done-requires-in-Some
split_choice-set_done-requires-in-Some t c =
    let p = c.args.path.now in
    let at = c.args.at in
    let choice = c.index.result.now in
    let open_at = c.requires.is_open in
    let inside = slice_get_within p.choices.items at open_at.choice open_at.here in
    let here : slice_get p.choices.items at ≡ Some choice = slice_get-get_or p.choices.items at choice inside ∙ ap Some (sym c.index.ensures) in
    let is = marks p.choices.items c.set_done.new.choices.items at choice here c.set_done.ensures in
    let back = (rw c.in-Some.is at c.in_ok-split.ensures.back) in
    subst (λ n. at < n) (sym (ap length (back.choices_are ∙ is) ∙ set_length p.choices.items at (with_done choice true))) inside

pub split_choice-returns-in-Some-clause-tree : goal.split_choice-returns-in-Some-clause-tree
split_choice-returns-in-Some-clause-tree t c =
    let s = scope_of c.args.givens.now in
    let n = numbering_by s.terms in
    let p = c.args.path.now in
    let at = c.args.at in
    let choice = c.index.result.now in
    let open_at = c.requires.is_open in
    let inside = slice_get_within p.choices.items at open_at.choice open_at.here in
    let here : slice_get p.choices.items at ≡ Some choice = slice_get-get_or p.choices.items at choice inside ∙ ap Some (sym c.index.ensures) in
    let q : SearchPath = record { state = p.state; choices = c.set_done.new.choices; pairs = p.pairs; order = c.split.new.self } in
    let is : q.choices.items ≡ set p.choices.items at (with_done choice true) = marks p.choices.items c.set_done.new.choices.items at choice here c.set_done.ensures in
    c.any_tree.ensures n (path_of s p) (nnfs_view choice.members.now) (members_at p.choices.items at choice here)
    (subst (λ x. SplitProves n x (nnfs_view choice.members.now) c.in-Some.split) (marked_path s p q at choice refl here is) (rw c.in-Some.is at c.in_ok-split.ensures.split))

pub split_choice-returns-in-Some-clause-back : goal.split_choice-returns-in-Some-clause-back
split_choice-returns-in-Some-clause-back t c =
    let p = c.args.path.now in
    let at = c.args.at in
    let choice = c.index.result.now in
    let open_at = c.requires.is_open in
    let inside = slice_get_within p.choices.items at open_at.choice open_at.here in
    let here : slice_get p.choices.items at ≡ Some choice = slice_get-get_or p.choices.items at choice inside ∙ ap Some (sym c.index.ensures) in
    let is_open : choice.is_done ≡ false = ap (λ (x : Choice). x.is_done) (same_item p.choices.items at choice open_at.choice here open_at.here) ∙ open_at.open_still in
    let is = marks p.choices.items c.set_done.new.choices.items at choice here c.set_done.ensures in
    let back = (rw c.in-Some.is at c.in_ok-split.ensures.back) in
    record {
      facts = back.facts;
      choices_are = unmarked_is p.choices.items c.refute_each.new.path.choices.items c.set_done-in-Some.new.choices.items at choice here is_open (back.choices_are ∙ is) c.set_done-in-Some.ensures;
      pairs_are = back.pairs_are;
      limits = back.limits;
    }

pub split_choice-returns-in-None-clause-met : goal.split_choice-returns-in-None-clause-met
split_choice-returns-in-None-clause-met t c =
    let s = scope_of c.args.givens.now in
    let p = c.args.path.now in
    let at = c.args.at in
    let choice = c.index.result.now in
    let open_at = c.requires.is_open in
    let inside = slice_get_within p.choices.items at open_at.choice open_at.here in
    let here : slice_get p.choices.items at ≡ Some choice = slice_get-get_or p.choices.items at choice inside ∙ ap Some (sym c.index.ensures) in
    let q : SearchPath = record { state = p.state; choices = c.set_done.new.choices; pairs = p.pairs; order = c.split.new.self } in
    let is : q.choices.items ≡ set p.choices.items at (with_done choice true) = marks p.choices.items c.set_done.new.choices.items at choice here c.set_done.ensures in
    ends_at s c.args.givens.now.pairs.now (path_of s q) (path_of s p) c.refute_each.new.path (marked_path s p q at choice refl here is) (rw c.in-None.is at c.in_ok-split.ensures.met)

-- ---- a pair is split

pub split_pair-refute_each-requires : goal.split_pair-refute_each-requires
split_pair-refute_each-requires t c =
    let s = scope_of c.args.givens.now in
    let pairs = c.args.givens.now.pairs.now in
    let p = c.args.path.now in
    let at = c.args.at in
    let open_at = c.requires.is_open in
    let choice = open_at.choice in
    let here = open_at.here in
    let pair = c.index-givens-at.result in
    let q : SearchPath = record { state = p.state; choices = p.choices; pairs = c.set_done.new.choices; order = p.order } in
    let is : q.pairs.items ≡ set p.pairs.items at (with_done choice true) = marks p.pairs.items c.set_done.new.choices.items at choice here c.set_done.ensures in
    let ways : nnfs_view choice.members.now ≡ nnfs_view pair.ways = ways_at pairs p.pairs.items at choice pair c.requires.ready.pairs_are here c.index-givens-at.is in
    let counted = total-marked p.pairs.items at choice here open_at.open_still in
    let marked = ap total is in
    let same = ap weights ways in
    let measure = c.decreases in
    let inside : at < length pairs = subst (λ n. at < n) (ways_length pairs p.pairs.items c.requires.ready.pairs_are) (slice_get_within p.pairs.items at choice here) in
    let taken_ways = ways ∙ ap (λ (x : Pair). nnfs_view x.ways) c.index-givens-at.is in
    let read = ap (λ (x : Pair). weights (nnfs_view x.ways)) c.index-givens-at.is in (
      omega (arith, counted, marked, same, read, measure),
      (
        c.requires.given,
        (
          c.requires.given.within at pair inside,
          subst (λ rs. IsReadyForAny rs s pairs q) taken_ways (ready_pair_marked s pairs p q at choice c.requires.ready refl here is refl),
        ),
      ),
    )

pub split_pair-set_done-requires-in-Some : goal.split_pair-set_done-requires-in-Some
split_pair-set_done-requires-in-Some t c =
    let p = c.args.path.now in
    let at = c.args.at in
    let open_at = c.requires.is_open in
    let choice = open_at.choice in
    let inside = slice_get_within p.pairs.items at choice open_at.here in
    let is = marks p.pairs.items c.set_done.new.choices.items at choice open_at.here c.set_done.ensures in
    let back = (rw c.in-Some.is at c.in_ok-split.ensures.back) in
    subst (λ n. at < n) (sym (ap length (back.pairs_are ∙ is) ∙ set_length p.pairs.items at (with_done choice true))) inside

pub split_pair-returns-in-Some-clause-tree : goal.split_pair-returns-in-Some-clause-tree
split_pair-returns-in-Some-clause-tree t c =
    let s = scope_of c.args.givens.now in
    let n = numbering_by s.terms in
    let p = c.args.path.now in
    let at = c.args.at in
    let pairs = c.args.givens.now.pairs.now in
    let open_at = c.requires.is_open in
    let inside : at < length pairs = subst (λ m. at < m) (ways_length pairs p.pairs.items c.requires.ready.pairs_are) (slice_get_within p.pairs.items at open_at.choice open_at.here) in
    c.apart_tree.ensures n (path_of s p) refl (c.requires.given.each at c.index-givens-at.result inside) (rw c.in-Some.is at c.in_ok-split.ensures.split)

pub split_pair-returns-in-Some-clause-back : goal.split_pair-returns-in-Some-clause-back
split_pair-returns-in-Some-clause-back t c =
    let p = c.args.path.now in
    let at = c.args.at in
    let open_at = c.requires.is_open in
    let choice = open_at.choice in
    let is = marks p.pairs.items c.set_done.new.choices.items at choice open_at.here c.set_done.ensures in
    let back = (rw c.in-Some.is at c.in_ok-split.ensures.back) in
    record {
      facts = back.facts;
      choices_are = back.choices_are;
      pairs_are = unmarked_is p.pairs.items c.refute_each.new.path.pairs.items c.set_done-in-Some.new.choices.items at choice open_at.here open_at.open_still (back.pairs_are ∙ is) c.set_done-in-Some.ensures;
      limits = back.limits;
    }

-- ---- stops, and facts that are reached

pub search-returns-in_err-joints-clause-stop : goal.search-returns-in_err-joints-clause-stop
search-returns-in_err-joints-clause-stop t c =
    let p = err_from_is_err_and c.from_residual.result c.from_residual.ensures.1 in
    rw (p.1, p.2) (equating_stops (scope_of c.args.givens.now) c.args.givens.now.pairs.now c.args.path.now c.in_err-joints.field-0.0
    (c.facts_are_few.ensures (name_in (scope_of c.args.givens.now).objects)) c.in_err-joints.ensures.stop)

pub search-returns-in_err-tree-clause-stop : goal.search-returns-in_err-tree-clause-stop
search-returns-in_err-tree-clause-stop t c =
    let r = err_from_is_err_and c.from_residual-in_err-tree.result c.from_residual-in_err-tree.ensures.1 in
    let s = scope_of c.args.givens.now in
    let p = c.args.path.now in
    let e = c.in_ok-joints.ensures in
    let q : SearchPath = record { state = c.equate_all.new.state; choices = p.choices; pairs = p.pairs; order = p.order } in
    let step = step_equated s c.args.givens.now.pairs.now p q e.adds refl refl e.limits e.handed in
    rw (r.1, r.2) (stops_step s c.args.givens.now.pairs.now yes p yes q c.in_err-tree.field-0.0 step c.in_err-tree.ensures.stop)

pub search-returns-in-None-clause-reached : goal.search-returns-in-None-clause-reached
search-returns-in-None-clause-reached t c =
    let s = scope_of c.args.givens.now in
    let p = c.args.path.now in
    let e = c.in_ok-joints.ensures in
    let q : SearchPath = record { state = c.equate_all.new.state; choices = p.choices; pairs = p.pairs; order = p.order } in
    let step = step_equated s c.args.givens.now.pairs.now p q e.adds refl refl e.limits e.handed in
    reached_step s c.args.givens.now.pairs.now yes p yes q c.search_on.new.path step (rw c.in-None.is at c.in_ok-tree.ensures.reached)

pub search_on-returns-in_err-clash-clause-stop : goal.search_on-returns-in_err-clash-clause-stop
search_on-returns-in_err-clash-clause-stop t c =
    let r = err_from_is_err_and c.from_residual.result c.from_residual.ensures.1 in
    let s = scope_of c.args.givens.now in
    rw (r.1, r.2) (check_stops s c.args.givens.now.pairs.now c.args.path.now c.in_err-clash.field-0.0 (c.facts_are_few.ensures (name_in s.objects))
    (c.in_err-clash.ensures.stop (name_in s.objects)))

pub search_on-returns-in-None-clause-reached : goal.search_on-returns-in-None-clause-reached
search_on-returns-in-None-clause-reached t c =
    let s = scope_of c.args.givens.now in
    let p = c.args.path.now in
    let q : SearchPath = record { state = c.check.new.self; choices = p.choices; pairs = p.pairs; order = p.order } in
    let e = c.in_ok-clash.ensures in
    let back : IsBack p q = record { facts = e.facts; choices_are = refl; pairs_are = refl; limits = e.limits } in
    checked_reaches s c.args.givens.now.pairs.now p q back (c.check.ensures.handed (name_in s.objects))

pub refute_each-returns-in_err-refute_with-clause-stop : goal.refute_each-returns-in_err-refute_with-clause-stop
refute_each-returns-in_err-refute_with-clause-stop t c =
    let r = err_from_is_err_and c.from_residual.result c.from_residual.ensures.1 in
    let s = scope_of c.args.givens.now in
    let pairs = c.args.givens.now.pairs.now in
    let p = c.args.path.now in
    let n = c.member-item.result in
    let step = step_member s pairs p c.loop-member.path c.args.members.now c.as_slice-member-items.result.now c.loop-member.member-index n c.as_slice-member-items.ensures
    c.loop-member-test.true c.member-item.is c.loop-member.invariant.back c.loop-member.invariant.handed in
    rw (r.1, r.2) (stops_step s pairs (any_of (nnfs_view c.args.members.now)) p (nnf_view n) c.loop-member.path c.in_err-refute_with.field-0.0 step c.in_err-refute_with.ensures.stop)

pub refute_each-returns-in-None-clause-reached : goal.refute_each-returns-in-None-clause-reached
refute_each-returns-in-None-clause-reached t c =
    let s = scope_of c.args.givens.now in
    let pairs = c.args.givens.now.pairs.now in
    let p = c.args.path.now in
    let n = c.member-item.result in
    let step = step_member s pairs p c.loop-member.path c.args.members.now c.as_slice-member-items.result.now c.loop-member.member-index n c.as_slice-member-items.ensures
    c.loop-member-test.true c.member-item.is c.loop-member.invariant.back c.loop-member.invariant.handed in
    reached_step s pairs (any_of (nnfs_view c.args.members.now)) p (nnf_view n) c.loop-member.path c.refute_with.new.path step (rw c.in-None.is at c.in_ok-refute_with.ensures.reached)

pub search_with-returns-clause-reached : goal.search_with-returns-clause-reached
search_with-returns-clause-reached t c =
    let s = scope_of c.args.givens.now in
    let r = nnf_view c.args.reading.now in
    let p = c.args.path.now in
    let pairs = c.args.givens.now.pairs.now in
    let q = c.take_reading.new.path in
    let e = c.in_ok-leaf.ensures in
    if_ok_none c.search.result (λ h. reached_step s pairs r p yes q c.search.new.path (step_taken s pairs r p q (rw c.in_default.is at e.taken) e.longer.facts e.handed) h) c.search.ensures.reached

pub search_with-returns-clause-stop : goal.search_with-returns-clause-stop
search_with-returns-clause-stop t c =
    let s = scope_of c.args.givens.now in
    let r = nnf_view c.args.reading.now in
    let p = c.args.path.now in
    let pairs = c.args.givens.now.pairs.now in
    let q = c.take_reading.new.path in
    let e = c.in_ok-leaf.ensures in
    if_err_more c.search.result (λ stop h. stops_step s pairs r p yes q stop (step_taken s pairs r p q (rw c.in_default.is at e.taken) e.longer.facts e.handed) h) c.search.ensures.stop

pub split_choice-any_tree-requires : goal.split_choice-any_tree-requires
split_choice-any_tree-requires t c =
    let choices = c.args.path.now.choices in
    let open_at = c.requires.is_open in
    let inside = slice_get_within choices.items c.args.at open_at.choice open_at.here in
    omega (arith, inside, choices.ok.0, choices.ok.1, choices.small)

pub split_choice-returns-in_err-split-clause-stop : goal.split_choice-returns-in_err-split-clause-stop
split_choice-returns-in_err-split-clause-stop t c =
    let r = err_from_is_err_and c.from_residual.result c.from_residual.ensures.1 in
    let s = scope_of c.args.givens.now in
    let pairs = c.args.givens.now.pairs.now in
    let p = c.args.path.now in
    let at = c.args.at in
    let choice = c.index.result.now in
    let open_at = c.requires.is_open in
    let inside = slice_get_within p.choices.items at open_at.choice open_at.here in
    let here : slice_get p.choices.items at ≡ Some choice = slice_get-get_or p.choices.items at choice inside ∙ ap Some (sym c.index.ensures) in
    let is_open : choice.is_done ≡ false = ap (λ (x : Choice). x.is_done) (same_item p.choices.items at choice open_at.choice here open_at.here) ∙ open_at.open_still in
    let q : SearchPath = record { state = p.state; choices = c.set_done.new.choices; pairs = p.pairs; order = c.split.new.self } in
    let is : q.choices.items ≡ set p.choices.items at (with_done choice true) = marks p.choices.items c.set_done.new.choices.items at choice here c.set_done.ensures in
    rw (r.1, r.2) (stops_step s pairs yes p (any_of (nnfs_view choice.members.now)) q c.in_err-split.field-0.0 (step_marked s pairs p q at choice refl here is_open is refl) c.in_err-split.ensures.stop)

pub split_choice-returns-in-None-clause-reached : goal.split_choice-returns-in-None-clause-reached
split_choice-returns-in-None-clause-reached t c =
    let s = scope_of c.args.givens.now in
    let pairs = c.args.givens.now.pairs.now in
    let p = c.args.path.now in
    let at = c.args.at in
    let choice = c.index.result.now in
    let open_at = c.requires.is_open in
    let inside = slice_get_within p.choices.items at open_at.choice open_at.here in
    let here : slice_get p.choices.items at ≡ Some choice = slice_get-get_or p.choices.items at choice inside ∙ ap Some (sym c.index.ensures) in
    let is_open : choice.is_done ≡ false = ap (λ (x : Choice). x.is_done) (same_item p.choices.items at choice open_at.choice here open_at.here) ∙ open_at.open_still in
    let q : SearchPath = record { state = p.state; choices = c.set_done.new.choices; pairs = p.pairs; order = c.split.new.self } in
    let is : q.choices.items ≡ set p.choices.items at (with_done choice true) = marks p.choices.items c.set_done.new.choices.items at choice here c.set_done.ensures in
    reached_step s pairs yes p (any_of (nnfs_view choice.members.now)) q c.refute_each.new.path (step_marked s pairs p q at choice refl here is_open is refl) (rw c.in-None.is at c.in_ok-split.ensures.reached)

pub split_pair-returns-in_err-split-clause-stop : goal.split_pair-returns-in_err-split-clause-stop
split_pair-returns-in_err-split-clause-stop t c =
    let r = err_from_is_err_and c.from_residual.result c.from_residual.ensures.1 in
    let s = scope_of c.args.givens.now in
    let pairs = c.args.givens.now.pairs.now in
    let p = c.args.path.now in
    let at = c.args.at in
    let open_at = c.requires.is_open in
    let choice = open_at.choice in
    let here = open_at.here in
    let pair = c.index-givens-at.result in
    let q : SearchPath = record { state = p.state; choices = p.choices; pairs = c.set_done.new.choices; order = p.order } in
    let is : q.pairs.items ≡ set p.pairs.items at (with_done choice true) = marks p.pairs.items c.set_done.new.choices.items at choice here c.set_done.ensures in
    let members = nnfs_view (get_or pairs at pair).ways in
    let ways : nnfs_view choice.members.now ≡ members = ways_at pairs p.pairs.items at choice pair c.requires.ready.pairs_are here c.index-givens-at.is ∙ ap (λ (x : Pair). nnfs_view x.ways) c.index-givens-at.is in
    let step = step_pair_marked s pairs p q at choice members c.requires.ready.pairs_are ways refl here open_at.open_still is refl in
    rw (r.1, r.2) (stops_step s pairs yes p (any_of members) q c.in_err-split.field-0.0 step c.in_err-split.ensures.stop)

pub split_pair-returns-in-None-clause-reached : goal.split_pair-returns-in-None-clause-reached
split_pair-returns-in-None-clause-reached t c =
    let s = scope_of c.args.givens.now in
    let pairs = c.args.givens.now.pairs.now in
    let p = c.args.path.now in
    let at = c.args.at in
    let open_at = c.requires.is_open in
    let choice = open_at.choice in
    let here = open_at.here in
    let pair = c.index-givens-at.result in
    let q : SearchPath = record { state = p.state; choices = p.choices; pairs = c.set_done.new.choices; order = p.order } in
    let is : q.pairs.items ≡ set p.pairs.items at (with_done choice true) = marks p.pairs.items c.set_done.new.choices.items at choice here c.set_done.ensures in
    let members = nnfs_view (get_or pairs at pair).ways in
    let ways : nnfs_view choice.members.now ≡ members = ways_at pairs p.pairs.items at choice pair c.requires.ready.pairs_are here c.index-givens-at.is ∙ ap (λ (x : Pair). nnfs_view x.ways) c.index-givens-at.is in
    let step = step_pair_marked s pairs p q at choice members c.requires.ready.pairs_are ways refl here open_at.open_still is refl in
    reached_step s pairs yes p (any_of members) q c.refute_each.new.path step (rw c.in-None.is at c.in_ok-split.ensures.reached)

-- ---- rows that are handed

pub search-returns-in-Some-clause-handed : goal.search-returns-in-Some-clause-handed
search-returns-in-Some-clause-handed t c =
    hands_same yes (scope_of c.args.givens.now) c.args.givens.now.pairs.now c.args.path.now c.back_to.new.self (λ ever h. c.back_to.ensures.handed ever (c.equate_all.ensures.handed ever h))

pub search_on-returns-in-Some-2-clause-handed : goal.search_on-returns-in-Some-2-clause-handed
search_on-returns-in-Some-2-clause-handed t c =
    let s = scope_of c.args.givens.now in
    let p = c.args.path.now in
    let q : SearchPath = record { state = c.check.new.self; choices = p.choices; pairs = p.pairs; order = p.order } in
    check_hands s c.args.givens.now.pairs.now p q (c.check.ensures.handed (name_in s.objects))

pub refute_each-returns-in-Some-Whole-clause-handed : goal.refute_each-returns-in-Some-Whole-clause-handed
refute_each-returns-in-Some-Whole-clause-handed t c =
    let s = scope_of c.args.givens.now in
    let pairs = c.args.givens.now.pairs.now in
    let p = c.args.path.now in
    let n = c.member-item.result in
    let step = step_member s pairs p c.loop-member.path c.args.members.now c.as_slice-member-items.result.now c.loop-member.member-index n c.as_slice-member-items.ensures
    c.loop-member-test.true c.member-item.is c.loop-member.invariant.back c.loop-member.invariant.handed in
    hands_step s pairs (any_of (nnfs_view c.args.members.now)) p (nnf_view n) c.loop-member.path c.refute_with.new.path step (rw c.in-Some-Whole.is at c.in_ok-refute_with.ensures.handed)

pub refute_with-returns-in_ok-branch_of-in-Some-clause-handed : goal.refute_with-returns-in_ok-branch_of-in-Some-clause-handed
refute_with-returns-in_ok-branch_of-in-Some-clause-handed t c =
    hands_more (nnf_view c.args.member.now) (scope_of c.args.givens.now) c.args.givens.now.pairs.now c.args.path.now c.search_with.new.path c.back_to.new.self
    (rw c.in-Some.is at c.in_ok-tree.ensures.handed) c.back_to.ensures.handed

pub search_with-returns-in-Some-clause-handed : goal.search_with-returns-in-Some-clause-handed
search_with-returns-in-Some-clause-handed t c =
    hands_same (nnf_view c.args.reading.now) (scope_of c.args.givens.now) c.args.givens.now.pairs.now c.args.path.now c.take_reading.new.path c.take_reading.ensures.handed

pub search_with-returns-clause-handed : goal.search_with-returns-clause-handed
search_with-returns-clause-handed t c =
    let s = scope_of c.args.givens.now in
    let r = nnf_view c.args.reading.now in
    let p = c.args.path.now in
    let pairs = c.args.givens.now.pairs.now in
    let q = c.take_reading.new.path in
    let e = c.in_ok-leaf.ensures in
    if_ok_some c.search.result (λ h. hands_step s pairs r p yes q c.search.new.path (step_taken s pairs r p q (rw c.in_default.is at e.taken) e.longer.facts e.handed) h) c.search.ensures.handed

pub split_choice-returns-in-Some-clause-handed : goal.split_choice-returns-in-Some-clause-handed
split_choice-returns-in-Some-clause-handed t c =
    let s = scope_of c.args.givens.now in
    let pairs = c.args.givens.now.pairs.now in
    let p = c.args.path.now in
    let at = c.args.at in
    let choice = c.index.result.now in
    let open_at = c.requires.is_open in
    let inside = slice_get_within p.choices.items at open_at.choice open_at.here in
    let here : slice_get p.choices.items at ≡ Some choice = slice_get-get_or p.choices.items at choice inside ∙ ap Some (sym c.index.ensures) in
    let is_open : choice.is_done ≡ false = ap (λ (x : Choice). x.is_done) (same_item p.choices.items at choice open_at.choice here open_at.here) ∙ open_at.open_still in
    let q : SearchPath = record { state = p.state; choices = c.set_done.new.choices; pairs = p.pairs; order = c.split.new.self } in
    let is : q.choices.items ≡ set p.choices.items at (with_done choice true) = marks p.choices.items c.set_done.new.choices.items at choice here c.set_done.ensures in
    hands_step s pairs yes p (any_of (nnfs_view choice.members.now)) q c.refute_each.new.path (step_marked s pairs p q at choice refl here is_open is refl) (rw c.in-Some.is at c.in_ok-split.ensures.handed)

pub split_pair-returns-in-Some-clause-handed : goal.split_pair-returns-in-Some-clause-handed
split_pair-returns-in-Some-clause-handed t c =
    let s = scope_of c.args.givens.now in
    let pairs = c.args.givens.now.pairs.now in
    let p = c.args.path.now in
    let at = c.args.at in
    let open_at = c.requires.is_open in
    let choice = open_at.choice in
    let here = open_at.here in
    let pair = c.index-givens-at.result in
    let q : SearchPath = record { state = p.state; choices = p.choices; pairs = c.set_done.new.choices; order = p.order } in
    let is : q.pairs.items ≡ set p.pairs.items at (with_done choice true) = marks p.pairs.items c.set_done.new.choices.items at choice here c.set_done.ensures in
    let members = nnfs_view (get_or pairs at pair).ways in
    let ways : nnfs_view choice.members.now ≡ members = ways_at pairs p.pairs.items at choice pair c.requires.ready.pairs_are here c.index-givens-at.is ∙ ap (λ (x : Pair). nnfs_view x.ways) c.index-givens-at.is in
    let step = step_pair_marked s pairs p q at choice members c.requires.ready.pairs_are ways refl here open_at.open_still is refl in
    hands_step s pairs yes p (any_of members) q c.refute_each.new.path step (rw c.in-Some.is at c.in_ok-split.ensures.handed)

pub search-returns-in_ok-tree_around-in-Some-2-clause-handed : goal.search-returns-in_ok-tree_around-in-Some-2-clause-handed
search-returns-in_ok-tree_around-in-Some-2-clause-handed t c =
    let s = scope_of c.args.givens.now in
    let pairs = c.args.givens.now.pairs.now in
    let p = c.args.path.now in
    let e = c.in_ok-joints.ensures in
    let q : SearchPath = record { state = c.equate_all.new.state; choices = p.choices; pairs = p.pairs; order = p.order } in
    let step = step_equated s pairs p q e.adds refl refl e.limits c.equate_all.ensures.handed in
    hands_more yes s pairs p c.search_on.new.path c.back_to-in-Some-2.new.self
    (hands_step s pairs yes p yes q c.search_on.new.path step (rw c.in-Some-2.is at c.in_ok-tree.ensures.handed)) c.back_to-in-Some-2.ensures.handed

-- ---- after a check

pub search_on-returns-in-Some-Choice-clause-handed : goal.search_on-returns-in-Some-Choice-clause-handed
search_on-returns-in-Some-Choice-clause-handed t c =
    let s = scope_of c.args.givens.now in
    let pairs = c.args.givens.now.pairs.now in
    let p = c.args.path.now in
    let e = c.in_ok-clash.ensures in
    let q : SearchPath = record { state = c.check.new.self; choices = p.choices; pairs = p.pairs; order = p.order } in
    let back : IsBack p q = record { facts = e.facts; choices_are = refl; pairs_are = refl; limits = e.limits } in
    if_ok_some c.split_choice-in-Some-Choice.result (λ h. hands_step s pairs yes p yes q c.split_choice-in-Some-Choice.new.path (step_checked s pairs p q back (c.check.ensures.handed (name_in s.objects))) h) c.split_choice-in-Some-Choice.ensures.handed

pub search_on-returns-in-Some-Choice-clause-stop : goal.search_on-returns-in-Some-Choice-clause-stop
search_on-returns-in-Some-Choice-clause-stop t c =
    let s = scope_of c.args.givens.now in
    let pairs = c.args.givens.now.pairs.now in
    let p = c.args.path.now in
    let e = c.in_ok-clash.ensures in
    let q : SearchPath = record { state = c.check.new.self; choices = p.choices; pairs = p.pairs; order = p.order } in
    let back : IsBack p q = record { facts = e.facts; choices_are = refl; pairs_are = refl; limits = e.limits } in
    if_err_more c.split_choice-in-Some-Choice.result (λ stop h. stops_step s pairs yes p yes q stop (step_checked s pairs p q back (c.check.ensures.handed (name_in s.objects))) h) c.split_choice-in-Some-Choice.ensures.stop

pub search_on-returns-in-Some-Pair-clause-handed : goal.search_on-returns-in-Some-Pair-clause-handed
search_on-returns-in-Some-Pair-clause-handed t c =
    let s = scope_of c.args.givens.now in
    let pairs = c.args.givens.now.pairs.now in
    let p = c.args.path.now in
    let e = c.in_ok-clash.ensures in
    let q : SearchPath = record { state = c.check.new.self; choices = p.choices; pairs = p.pairs; order = p.order } in
    let back : IsBack p q = record { facts = e.facts; choices_are = refl; pairs_are = refl; limits = e.limits } in
    if_ok_some c.split_probed.result (λ h. hands_step s pairs yes p yes q c.split_probed.new.path (step_checked s pairs p q back (c.check.ensures.handed (name_in s.objects))) h) c.split_probed.ensures.handed

pub search_on-returns-in-Some-Pair-clause-stop : goal.search_on-returns-in-Some-Pair-clause-stop
search_on-returns-in-Some-Pair-clause-stop t c =
    let s = scope_of c.args.givens.now in
    let pairs = c.args.givens.now.pairs.now in
    let p = c.args.path.now in
    let e = c.in_ok-clash.ensures in
    let q : SearchPath = record { state = c.check.new.self; choices = p.choices; pairs = p.pairs; order = p.order } in
    let back : IsBack p q = record { facts = e.facts; choices_are = refl; pairs_are = refl; limits = e.limits } in
    if_err_more c.split_probed.result (λ stop h. stops_step s pairs yes p yes q stop (step_checked s pairs p q back (c.check.ensures.handed (name_in s.objects))) h) c.split_probed.ensures.stop

pub search_on-returns-in-Some-Choice-clause-reached : goal.search_on-returns-in-Some-Choice-clause-reached
search_on-returns-in-Some-Choice-clause-reached t c =
    let s = scope_of c.args.givens.now in
    let pairs = c.args.givens.now.pairs.now in
    let p = c.args.path.now in
    let e = c.in_ok-clash.ensures in
    let q : SearchPath = record { state = c.check.new.self; choices = p.choices; pairs = p.pairs; order = p.order } in
    let back : IsBack p q = record { facts = e.facts; choices_are = refl; pairs_are = refl; limits = e.limits } in
    if_ok_none c.split_choice-in-Some-Choice.result (λ h. reached_step s pairs yes p yes q c.split_choice-in-Some-Choice.new.path (step_checked s pairs p q back (c.check.ensures.handed (name_in s.objects))) h) c.split_choice-in-Some-Choice.ensures.reached

pub search_on-returns-in-Some-Pair-clause-reached : goal.search_on-returns-in-Some-Pair-clause-reached
search_on-returns-in-Some-Pair-clause-reached t c =
    let s = scope_of c.args.givens.now in
    let pairs = c.args.givens.now.pairs.now in
    let p = c.args.path.now in
    let e = c.in_ok-clash.ensures in
    let q : SearchPath = record { state = c.check.new.self; choices = p.choices; pairs = p.pairs; order = p.order } in
    let back : IsBack p q = record { facts = e.facts; choices_are = refl; pairs_are = refl; limits = e.limits } in
    if_ok_none c.split_probed.result (λ h. reached_step s pairs yes p yes q c.split_probed.new.path (step_checked s pairs p q back (c.check.ensures.handed (name_in s.objects))) h) c.split_probed.ensures.reached

-- ---- a pair behind probing

pub split_probed-split_pair-requires : goal.split_probed-split_pair-requires
split_probed-split_pair-requires t c =
    let s = scope_of c.args.givens.now in
    let pairs = c.args.givens.now.pairs.now in
    let p = c.args.path.now in
    let q = c.probed_pair-at.new.path in
    let e = c.probed_pair-at.ensures in
    let same = left_back p q e.back in
    let at = c.decreases in (
      omega (arith, same, at),
      (c.requires.given, (ready_back Always s pairs p q c.requires.ready e.back, e.is_open)),
    )

pub split_probed-returns-clause-tree : goal.split_probed-returns-clause-tree
split_probed-returns-clause-tree t c =
    let s = scope_of c.args.givens.now in
    let pairs = c.args.givens.now.pairs.now in
    let p = c.args.path.now in
    let q = c.probed_pair-at.new.path in
    let e = c.probed_pair-at.ensures in
    subst (λ x. IfOk c.split_pair.result (λ found. IfSome found (λ tree. Proves (numbering_by s.terms) x (tree_view tree)))) (path_back s p q e.back) c.split_pair.ensures.tree

pub split_probed-returns-clause-back : goal.split_probed-returns-clause-back
split_probed-returns-clause-back t c =
    let s = scope_of c.args.givens.now in
    let pairs = c.args.givens.now.pairs.now in
    let p = c.args.path.now in
    let q = c.probed_pair-at.new.path in
    let e = c.probed_pair-at.ensures in
    if_ok_some c.split_pair.result (λ b. back_then p q c.split_pair.new.path e.back b) c.split_pair.ensures.back

pub split_probed-returns-clause-met : goal.split_probed-returns-clause-met
split_probed-returns-clause-met t c =
    let s = scope_of c.args.givens.now in
    let pairs = c.args.givens.now.pairs.now in
    let p = c.args.path.now in
    let q = c.probed_pair-at.new.path in
    let e = c.probed_pair-at.ensures in
    subst (λ x. IfOk c.split_pair.result (λ found. IfNone found (EndsMet s pairs x c.split_pair.new.path))) (path_back s p q e.back) c.split_pair.ensures.met

pub split_probed-returns-clause-reached : goal.split_probed-returns-clause-reached
split_probed-returns-clause-reached t c =
    let s = scope_of c.args.givens.now in
    let pairs = c.args.givens.now.pairs.now in
    let p = c.args.path.now in
    let q = c.probed_pair-at.new.path in
    let e = c.probed_pair-at.ensures in
    if_ok_none c.split_pair.result (λ h. reached_step s pairs yes p yes q c.split_pair.new.path (step_kept s pairs p q e.back e.handed) h) c.split_pair.ensures.reached

pub split_probed-returns-clause-handed : goal.split_probed-returns-clause-handed
split_probed-returns-clause-handed t c =
    let s = scope_of c.args.givens.now in
    let pairs = c.args.givens.now.pairs.now in
    let p = c.args.path.now in
    let q = c.probed_pair-at.new.path in
    let e = c.probed_pair-at.ensures in
    if_ok_some c.split_pair.result (λ h. hands_step s pairs yes p yes q c.split_pair.new.path (step_kept s pairs p q e.back e.handed) h) c.split_pair.ensures.handed

pub split_probed-returns-clause-stop : goal.split_probed-returns-clause-stop
split_probed-returns-clause-stop t c =
    let s = scope_of c.args.givens.now in
    let pairs = c.args.givens.now.pairs.now in
    let p = c.args.path.now in
    let q = c.probed_pair-at.new.path in
    let e = c.probed_pair-at.ensures in
    if_err_more c.split_pair.result (λ stop h. stops_step s pairs yes p yes q stop (step_kept s pairs p q e.back e.handed) h) c.split_pair.ensures.stop
