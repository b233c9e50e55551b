use Rattle.std.proofs.Common.{◌≡◌, ℕ, ◌<◌, [], ◌∷◌, ◌++◌, length, get_or, set, sym, ap, subst, ◌∙◌, arith, append-nil, IsSome, Vec, Global}
use Rattle.lq_types_unify.specs.declared.arena.Equation.{Equation}
use Rattle.lq_types_unify.specs.Nodes.{form_at}
use Rattle.lq_types_unify.specs.Classes.{up, IsFound, Grows}
use Rattle.lq_types_unify.proofs.Roots.{read_up}
use Rattle.lq_types_unify.proofs.Same.{same_self, same_grows}
use Rattle.lq_types_unify.proofs.Linking.{IsLink, linked_low, linked_high, linked_grows, linked_state, kept_both, kept_high, kept_low, found_here, pairs_later, All_push, moved}
use Rattle.lq_types_unify.proofs.classes.link.Goals as goal
use Rattle.lq_types_unify.proofs.classes.link.Goals.{then-is_made+then-is_made-2+in_ok-push, then-is_made+else-is_made-2, else-is_made}

pub returns-clause-state : goal.returns-clause-state
returns-clause-state c =
    let forms = form_at c.args.arena.now in
    let n = length c.args.arena.now.nodes.items in
    let ps = c.args.parents.now in
    let shapes = c.args.shapes.now in
    let low : ℕ = c.args.low in
    let high : ℕ = c.args.high in
    let s = c.requires.state in
    let before = c.args.found.now.items in
    let high_in : high < n = c.requires.inside in
    let low_in : low < n = let o = c.requires.order in omega arith in
    let l : IsLink ps low high = record { down = s.down; order = c.requires.order; inside = let e = s.parents_length in omega arith; low_root = c.requires.low_root; high_root = c.requires.high_root } in
    let kept : get_or shapes low 0 ≡ up shapes low = read_up shapes low (let e = s.shapes_length in omega arith) in
    let lost : get_or shapes high 0 ≡ up shapes high = read_up shapes high (let e = s.shapes_length in omega arith) in
    elim c.if-is_made.branch [
      | then-is_made+then-is_made-2+in_ok-push w ↦
          let e : Equation = record { left = get_or shapes low 0; right = get_or shapes high 0 } in
          let one : IsSome (forms (up shapes low)) = subst (λ j. IsSome (forms j)) kept (w.is_made-then-is_made.ensures.yes w.if-is_made-2.true) in
          let other : IsSome (forms (up shapes high)) = subst (λ j. IsSome (forms j)) lost (c.is_made.ensures.yes w.if-is_made.true) in
          moved forms n (set ps high low) _ shapes _ (before ++ e ∷ []) w.shapes-is (ap (λ (v : Vec Equation Global). v.items) w.found-is ∙ w.in_ok-push.ensures.items)
          (linked_state forms n ps shapes shapes low high before (before ++ e ∷ []) l s
          (kept_both forms n ps shapes low high before e s kept lost one)
          (All_push (IsFound forms n (set ps high low)) before e (pairs_later forms n ps low high before l s.pairs) (found_here forms n ps shapes low high before e l s low_in high_in kept lost one other)))
      | then-is_made+else-is_made-2 w ↦
          let other : IsSome (forms (up shapes high)) = subst (λ j. IsSome (forms j)) lost (c.is_made.ensures.yes w.if-is_made.true) in
          moved forms n (set ps high low) _ (set shapes low (get_or shapes high 0)) _ before w.shapes-is (ap (λ (v : Vec Equation Global). v.items) w.found-is)
          (linked_state forms n ps shapes (set shapes low (get_or shapes high 0)) low high before before l s
          (kept_high forms n ps shapes low high (get_or shapes high 0) before s low_in high_in lost
          (λ h. w.is_made-then-is_made.ensures.no w.if-is_made-2.false (subst (λ j. IsSome (forms j)) (sym kept) h)) other)
          (pairs_later forms n ps low high before l s.pairs))
      | else-is_made w ↦
          moved forms n (set ps high low) _ shapes _ before w.shapes-is (ap (λ (v : Vec Equation Global). v.items) w.found-is)
          (linked_state forms n ps shapes shapes low high before before l s
          (kept_low forms n ps shapes low high before s (λ h. c.is_made.ensures.no w.if-is_made.false (subst (λ j. IsSome (forms j)) (sym lost) h)))
          (pairs_later forms n ps low high before l s.pairs))
    ]

pub returns-clause-grows : goal.returns-clause-grows
returns-clause-grows c =
    let ps = c.args.parents.now in
    let before = c.args.found.now.items in
    let l : IsLink ps c.args.low c.args.high = record { down = c.requires.state.down; order = c.requires.order; inside = let s = c.requires.state.parents_length in omega arith; low_root = c.requires.low_root; high_root = c.requires.high_root } in
    elim c.if-is_made.branch [
      | then-is_made+then-is_made-2+in_ok-push w ↦
          linked_grows ps c.args.low c.args.high l before _ (record { left = get_or c.args.shapes.now c.args.low 0; right = get_or c.args.shapes.now c.args.high 0 } ∷ [])
          (ap (λ (v : Vec Equation Global). v.items) w.found-is ∙ w.in_ok-push.ensures.items) (omega arith)
      | then-is_made+else-is_made-2 w ↦ linked_grows ps c.args.low c.args.high l before _ [] (ap (λ (v : Vec Equation Global). v.items) w.found-is ∙ sym (append-nil before)) (omega arith)
      | else-is_made w ↦ linked_grows ps c.args.low c.args.high l before _ [] (ap (λ (v : Vec Equation Global). v.items) w.found-is ∙ sym (append-nil before)) (omega arith)
    ]

pub returns-clause-same : goal.returns-clause-same
returns-clause-same c =
    let l : IsLink c.args.parents.now c.args.low c.args.high = record { down = c.requires.state.down; order = c.requires.order; inside = let s = c.requires.state.parents_length in omega arith; low_root = c.requires.low_root; high_root = c.requires.high_root } in
    linked_low _ _ _ l ∙ sym (linked_high _ _ _ l)

pub returns-in_err-push-clause-grows : goal.returns-in_err-push-clause-grows
returns-in_err-push-clause-grows c =
    let ps = c.args.parents.now in
    subst (Grows ps ps c.args.found.now.items) (sym c.in_err-push.ensures.items) (same_grows ps ps c.args.found.now.items c.requires.state.down (same_self ps c.requires.state.down))
