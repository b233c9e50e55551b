use Rattle.std.proofs.Common.{◌≡◌, ℕ, ◌+◌, ◌<◌, List, [], ◌∷◌, ◌++◌, length, set, refl, sym, ap, subst, ◌∙◌, arith}
use Rattle.std.proofs.lemmas.List.{length_push}
use Rattle.lq_types_unify.specs.declared.order.Mark.TheVariants.{Active, Done}
use Rattle.lq_types_unify.specs.declared.order.Visit.{Visit}
use Rattle.lq_types_unify.specs.Nodes.{form_at}
use Rattle.lq_types_unify.specs.Visits.{IsVisit, IsWalk, IsMarked}
use Rattle.lq_types_unify.proofs.Linking.{All_last}
use Rattle.lq_types_unify.proofs.Walking.{walk_done, marked_done, walk_on, fresh_done, fresh_active, no_cycle}
use Rattle.lq_types_unify.specs.Order.{IsPut}
use Rattle.lq_types_unify.proofs.Ordering.{put_done}
use Rattle.lq_types_unify.proofs.order.step.Goals as goal

pub returns-in_ok-push-in-None-clause-walk : goal.returns-in_ok-push-in-None-clause-walk
returns-in_ok-push-in-None-clause-walk c = λ t.
    let v = All_last (IsVisit (form_at c.args.arena.now) (length c.args.arena.now.nodes.items) c.args.parents.now c.args.shapes.now c.args.marks.now) c.args.stack.now.items c.args.visit c.requires.walk.visits in
    let inside : c.args.visit.class < length c.args.marks.now = let i = v.inside in let m = c.requires.marked.marks_length in omega arith in
    walk_done _ _ _ _ c.args.marks.now c.args.stack.now.items c.args.visit inside c.requires.walk

pub returns-in_ok-push-in-None-clause-marked : goal.returns-in_ok-push-in-None-clause-marked
returns-in_ok-push-in-None-clause-marked c = λ t.
    let v = All_last (IsVisit (form_at c.args.arena.now) (length c.args.arena.now.nodes.items) c.args.parents.now c.args.shapes.now c.args.marks.now) c.args.stack.now.items c.args.visit c.requires.walk.visits in
    let inside : c.args.visit.class < length c.args.marks.now = let i = v.inside in let m = c.requires.marked.marks_length in omega arith in
    let more : length c.push.new.self.items ≡ length c.args.order.now.items + 1 = ap length c.in_ok-push-in-None.ensures.items ∙ length_push c.args.order.now.items c.args.visit.class in
    subst (IsMarked _ _ c.args.parents.now c.args.shapes.now (set c.args.marks.now c.args.visit.class Done)) (sym more)
    (marked_done _ _ _ _ c.args.marks.now (length c.args.order.now.items) c.args.visit.class inside c.in-None.ensures.none c.requires.marked)

pub returns-in_ok-push-in-None-clause-put : goal.returns-in_ok-push-in-None-clause-put
returns-in_ok-push-in-None-clause-put c = λ t.
    let v = All_last (IsVisit (form_at c.args.arena.now) (length c.args.arena.now.nodes.items) c.args.parents.now c.args.shapes.now c.args.marks.now) c.args.stack.now.items c.args.visit c.requires.walk.visits in
    subst (IsPut _ _ c.args.parents.now c.args.shapes.now (set c.args.marks.now c.args.visit.class Done)) (sym c.in_ok-push-in-None.ensures.items)
    (put_done _ _ _ _ c.args.marks.now c.args.order.now.items c.args.visit.class v.inside v.is_root c.in-None.ensures.none c.requires.put)

pub returns-in_ok-push-in-None-clause-shorter : goal.returns-in_ok-push-in-None-clause-shorter
returns-in_ok-push-in-None-clause-shorter c = λ t.
    let v = All_last (IsVisit (form_at c.args.arena.now) (length c.args.arena.now.nodes.items) c.args.parents.now c.args.shapes.now c.args.marks.now) c.args.stack.now.items c.args.visit c.requires.walk.visits in
    let inside : c.args.visit.class < length c.args.marks.now = let i = v.inside in let m = c.requires.marked.marks_length in omega arith in
    omega (arith, fresh_done c.args.marks.now c.args.visit.class inside)

abbrev here : Visit → ℕ → Visit
here v next = record { class = v.class; next = next }

pub returns-in_ok-push-in-Fresh-2-clause-walk : goal.returns-in_ok-push-in-Fresh-2-clause-walk
returns-in_ok-push-in-Fresh-2-clause-walk c = λ t.
    let found = c.in-Some.found in
    let n = c.in-Some.ensures.some in
    let inside : found.class < length c.args.marks.now = let i = n.inside in let m = c.requires.marked.marks_length in omega arith in
    let items : c.push-in-Fresh-2.new.self.items ≡ (c.args.stack.now.items ++ here c.args.visit found.next ∷ []) ++ here found 0 ∷ [] =
    c.in_ok-push-in-Fresh-2.ensures.items ∙ ap (λ (l : List Visit). l ++ here found 0 ∷ []) c.in_ok-push-in-Fresh.ensures.items in
    subst (IsWalk (form_at c.args.arena.now) (length c.args.arena.now.nodes.items) c.args.parents.now c.args.shapes.now (set c.args.marks.now found.class Active)) (sym items)
    (walk_on _ _ _ _ c.args.marks.now c.args.stack.now.items c.args.visit found (here c.args.visit found.next) (here found 0) c.requires.table inside c.requires.walk n refl refl refl refl)

pub returns-in_ok-push-in-Fresh-2-clause-shorter : goal.returns-in_ok-push-in-Fresh-2-clause-shorter
returns-in_ok-push-in-Fresh-2-clause-shorter c = λ t.
    let found = c.in-Some.found in
    let n = c.in-Some.ensures.some in
    let inside : found.class < length c.args.marks.now = let i = n.inside in let m = c.requires.marked.marks_length in omega arith in
    let items : c.push-in-Fresh-2.new.self.items ≡ (c.args.stack.now.items ++ here c.args.visit found.next ∷ []) ++ here found 0 ∷ [] =
    c.in_ok-push-in-Fresh-2.ensures.items ∙ ap (λ (l : List Visit). l ++ here found 0 ∷ []) c.in_ok-push-in-Fresh.ensures.items in
    let more : length c.push-in-Fresh-2.new.self.items ≡ length c.args.stack.now.items + 2 =
    (let a = length_push (c.args.stack.now.items ++ here c.args.visit found.next ∷ []) (here found 0) in let b = length_push c.args.stack.now.items (here c.args.visit found.next) in omega (arith, ap length items)) in
    omega (arith, fresh_active c.args.marks.now found.class inside c.in-Fresh.is)

pub returns-in-Active-clause-cycle : goal.returns-in-Active-clause-cycle
returns-in-Active-clause-cycle c = λ t types fits shared.
    no_cycle _ _ _ _ c.args.marks.now c.args.stack.now.items c.args.visit c.in-Some.found c.requires.table c.requires.walk c.in-Some.ensures.some c.in-Active.is types fits shared
