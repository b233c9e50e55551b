use Rattle.std.proofs.Common.{◌≡◌, ℕ, ◌+◌, ◌≤◌, length, take, drop, sym, ap, subst, ◌∙◌, map}
use Rattle.lq_types_unify.specs.Simple.{each}
use Rattle.lq_types_unify.specs.Nodes.{Form, form_at}
use Rattle.lq_types_unify.specs.Classes.{root}
use Rattle.lq_types_unify.proofs.Same.{same_self, same_grows}
use Rattle.lq_types_unify.proofs.Rows.{form_read, fits_read, pair_types, same_made, rooted_at, rows_map, rows_types, row_length, made_head, made_parts, each_length}
use Rattle.lq_types_unify.proofs.classes.join_parts.Goals as goal
use Rattle.lq_types_unify.proofs.classes.join_parts.Goals.{then-not-is_same-via-then-not-is_same, then-not-is_same-via-else-not-is_same+then-count-number}

pub returns-then-not-is_same-clause-grows : goal.returns-then-not-is_same-clause-grows
returns-then-not-is_same-clause-grows c = same_grows _ _ _ c.requires.state.down (same_self _ c.requires.state.down)

pub returns-then-not-is_same-clause-clash : goal.returns-then-not-is_same-clause-clash
returns-then-not-is_same-clause-clash c = λ t types fits shared.
    let a = c.args.arena.now in
    let xs = a.parts.items in
    let m = c.in-Made-Made in
    let p = c.requires.pair in
    let f : Form = record { head = m.head; parts = take m.count (drop m.first xs) } in
    let g : Form = record { head = m.other; parts = take m.number (drop m.start xs) } in
    let left = form_read a c.args.pair.left _ m.head m.first m.count p.left_in c.index.ensures m.is-0 in
    let right = form_read a c.args.pair.right _ m.other m.start m.number p.right_in c.index-2.ensures m.is-1 in
    let first_in = fits_read a c.requires.arena c.args.pair.left _ m.head m.first m.count p.left_in c.index.ensures m.is-0 in
    let start_in = fits_read a c.requires.arena c.args.pair.right _ m.other m.start m.number p.right_in c.index-2.ensures m.is-1 in
    let e = same_made (form_at a) types c.args.pair.left c.args.pair.right f g fits left right (pair_types _ types _ _ shared p.same) in
    elim c.then-not-is_same.branch [
      | then-not-is_same-via-then-not-is_same w ↦ c.is_same.ensures.no w.if-not-is_same.true (made_head _ _ _ _ e)
      | then-not-is_same-via-else-not-is_same+then-count-number w ↦
          w.if-count-number.true (sym (row_length xs m.first m.count first_in) ∙ each_length types f.parts g.parts (made_parts _ _ _ _ e) ∙ row_length xs m.start m.number start_in)
    ]

pub returns-clause-same : goal.returns-clause-same
returns-clause-same c = λ t.
    let a = c.args.arena.now in
    let xs = a.parts.items in
    let m = c.in-Made-Made in
    let p = c.requires.pair in
    let number : m.count ≡ m.number = c.if-count-number.false in
    let f : Form = record { head = m.head; parts = take m.count (drop m.first xs) } in
    let g : Form = record { head = m.other; parts = take m.number (drop m.start xs) } in
    let left = form_read a c.args.pair.left _ m.head m.first m.count p.left_in c.index.ensures m.is-0 in
    let right = form_read a c.args.pair.right _ m.other m.start m.number p.right_in c.index-2.ensures m.is-1 in
    let first_in = fits_read a c.requires.arena c.args.pair.left _ m.head m.first m.count p.left_in c.index.ensures m.is-0 in
    let start_in = fits_read a c.requires.arena c.args.pair.right _ m.other m.start m.number p.right_in c.index-2.ensures m.is-1 in
    let ps = c.join_rows.new.parents in
    rooted_at (form_at a) ps c.args.pair.left c.args.pair.right f g left right (c.is_same.ensures.yes c.if-not-is_same.false)
    (rows_map (root ps) xs m.first m.start m.count first_in (subst (λ (k : ℕ). m.start + k ≤ length xs) (sym number) start_in) c.in_ok-join_rows-in-Made-Made.ensures.same
    ∙ ap (λ (k : ℕ). map (root ps) (take k (drop m.start xs))) number)

pub returns-clause-shared : goal.returns-clause-shared
returns-clause-shared c = λ types fits shared.
    let a = c.args.arena.now in
    let xs = a.parts.items in
    let m = c.in-Made-Made in
    let p = c.requires.pair in
    let number : m.count ≡ m.number = c.if-count-number.false in
    let f : Form = record { head = m.head; parts = take m.count (drop m.first xs) } in
    let g : Form = record { head = m.other; parts = take m.number (drop m.start xs) } in
    let left = form_read a c.args.pair.left _ m.head m.first m.count p.left_in c.index.ensures m.is-0 in
    let right = form_read a c.args.pair.right _ m.other m.start m.number p.right_in c.index-2.ensures m.is-1 in
    let first_in = fits_read a c.requires.arena c.args.pair.left _ m.head m.first m.count p.left_in c.index.ensures m.is-0 in
    let e = same_made (form_at a) types c.args.pair.left c.args.pair.right f g fits left right (pair_types _ types _ _ shared p.same) in
    c.in_ok-join_rows-in-Made-Made.ensures.shared types shared
    (rows_types types xs m.first m.start m.count first_in (made_parts _ _ _ _ e ∙ ap (λ (k : ℕ). each types (take k (drop m.start xs))) (sym number)))

pub returns-in_err-join_rows-in-Made-Made-clause-shared : goal.returns-in_err-join_rows-in-Made-Made-clause-shared
returns-in_err-join_rows-in-Made-Made-clause-shared c = λ types fits shared.
    let a = c.args.arena.now in
    let xs = a.parts.items in
    let m = c.in-Made-Made in
    let p = c.requires.pair in
    let number : m.count ≡ m.number = c.if-count-number.false in
    let f : Form = record { head = m.head; parts = take m.count (drop m.first xs) } in
    let g : Form = record { head = m.other; parts = take m.number (drop m.start xs) } in
    let left = form_read a c.args.pair.left _ m.head m.first m.count p.left_in c.index.ensures m.is-0 in
    let right = form_read a c.args.pair.right _ m.other m.start m.number p.right_in c.index-2.ensures m.is-1 in
    let first_in = fits_read a c.requires.arena c.args.pair.left _ m.head m.first m.count p.left_in c.index.ensures m.is-0 in
    let e = same_made (form_at a) types c.args.pair.left c.args.pair.right f g fits left right (pair_types _ types _ _ shared p.same) in
    c.join_rows.ensures.shared types shared
    (rows_types types xs m.first m.start m.count first_in (made_parts _ _ _ _ e ∙ ap (λ (k : ℕ). each types (take k (drop m.start xs))) (sym number)))
