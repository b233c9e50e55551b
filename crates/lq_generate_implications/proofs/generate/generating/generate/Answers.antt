use Rattle.std.proofs.Common.{◌≡◌, [], length, map, sym, ap, ◌∙◌, arith}
use Rattle.std.proofs.lemmas.List.Elements.{All-same, All-weaker}
use Rattle.lq_refined_rules.specs.Checks.Listing as listing
use Rattle.lq_refined_substitution.specs.Implications.Views.{environment_lists, implications_of}
use Rattle.lq_refined_rules.specs.Obligations.Obligation.{all_implications}
use Rattle.lq_refined_rules.specs.Obligations.Obligations.{obligations_of}
use Rattle.lq_refined_templates.specs.Programs.BlockView.{program_view}
use Rattle.lq_refined_subtyping.specs.Split.Growing.{HasMore-refl}
use Rattle.lq_generate_implications.specs.Obligations.Views.{all_stated, stated, IsShaped, IsThere}
use Rattle.lq_generate_implications.proofs.ObligationsLemmas.Keeping.{there-kept}
use Rattle.lq_generate_operations.specs.Basis.Basis.{scopes_of, types_in}
use Rattle.lq_generate_operations.specs.Basis.Growing.{is_there-grown, stands-grown}
use Rattle.lq_generate_implications.proofs.GenerateLemmas.Making.{all-stated-kept, all-there, are-few, are-past}
use Rattle.lq_generate_implications.proofs.GenerateLemmas.Shaping.{shaped-stated}
use Rattle.lq_generate_implications.proofs.generate.generating.generate.Goals as goal

pub count_all-requires-clause-shaped : goal.count_all-requires-clause-shaped
count_all-requires-clause-shaped c =
    let rules = c.requires.ready.0 in
    let w = c.in_ok-types.field-0 in
    let b = c.args.basis.now in
    let p = program_view c.args.program.now in
    All-same (IsShaped (types_in b w.types)) c.deref.result.now w.asked.items (cc)
    (shaped-stated rules (environment_lists w.list) (types_in b w.types) (obligations_of rules [] p) w.asked.items
    (sym (c.in_ok-types.ensures.asked rules c.requires.ready.1))
    (c.obligations_are_shaped.ensures rules [] p c.requires.ready.2))

pub returns-then-count-clause-refused : goal.returns-then-count-clause-refused
returns-then-count-clause-refused c rules stands =
    let w = c.in_ok-types.field-0 in
    let d : c.deref.result.now ≡ w.asked.items = cc in
    let b = c.args.basis.now in
    let p = program_view c.args.program.now in
    let xs = obligations_of rules [] p in
    let e : map (stated rules) xs ≡ all_stated (environment_lists w.list) (types_in b w.types) c.deref.result.now =
    sym (c.in_ok-types.ensures.asked rules stands) ∙ ap (all_stated (environment_lists w.list) (types_in b w.types)) (sym d) in
    are-past (listing.implications_of rules [] p) (all_implications rules xs) (c.obligations_are_implications.ensures rules [] p) c.in_ok-count.count
    (c.in_ok-count.ensures.count rules xs (environment_lists w.list) e) c.if-count.true

pub imply_all-requires-clause-there : goal.imply_all-requires-clause-there
imply_all-requires-clause-there c =
    let w = c.in_ok-types.field-0 in
    let es = environment_lists w.list in
    let old = w.types.rows.items in
    let new = c.count_all.new.types.rows.items in
    let P = IsThere (length es) (length old) in
    let Q = IsThere (length es) (length new) in
    All-same Q c.deref-2.result.now w.asked.items (cc)
    (All-weaker P Q (λ x h. there-kept (scopes_of c.args.basis.now) old new c.count_all.ensures.grows es es (HasMore-refl es) x h) w.asked.items
    c.in_ok-types.ensures.there)

pub imply_all-requires-clause-fields : goal.imply_all-requires-clause-fields
imply_all-requires-clause-fields c =
    let w = c.in_ok-types.field-0 in
    let h = is_there-grown w.types c.count_all.new.types c.args.basis.now c.count_all.ensures.grows c.in_ok-types.ensures.basis in h.fields

pub imply_all-requires-clause-shaped : goal.imply_all-requires-clause-shaped
imply_all-requires-clause-shaped c =
    let rules = c.requires.ready.0 in
    let w = c.in_ok-types.field-0 in
    let b = c.args.basis.now in
    let p = program_view c.args.program.now in
    let es = environment_lists w.list in
    let new = c.count_all.new.types in
    All-same (IsShaped (types_in b new)) c.deref-2.result.now w.asked.items (cc)
    (shaped-stated rules es (types_in b new) (obligations_of rules [] p) w.asked.items
    (sym (c.in_ok-types.ensures.asked rules c.requires.ready.1)
    ∙ sym (all-stated-kept (scopes_of b) w.types.rows.items new.rows.items c.count_all.ensures.grows es w.asked.items c.in_ok-types.ensures.there))
    (c.obligations_are_shaped.ensures rules [] p c.requires.ready.2))

pub returns-clause-implications : goal.returns-clause-implications
returns-clause-implications c rules stands =
    let w = c.in_ok-types.field-0 in
    let d : c.deref.result.now ≡ w.asked.items = cc in
    let d2 : c.deref-2.result.now ≡ w.asked.items = cc in
    let b = c.args.basis.now in
    let p = program_view c.args.program.now in
    let xs = obligations_of rules [] p in
    let es = environment_lists w.list in
    let new = c.count_all.new.types in
    let asked = sym (c.in_ok-types.ensures.asked rules stands) in
    let e1 : map (stated rules) xs ≡ all_stated es (types_in b w.types) c.deref.result.now =
    asked ∙ ap (all_stated es (types_in b w.types)) (sym d) in
    let e2 : map (stated rules) xs ≡ all_stated es (types_in b new) c.deref-2.result.now =
    asked ∙ sym (all-stated-kept (scopes_of b) w.types.rows.items new.rows.items c.count_all.ensures.grows es w.asked.items c.in_ok-types.ensures.there)
    ∙ ap (all_stated es (types_in b new)) (sym d2) in
    let s1 = stands-grown rules b c.args.types w.types c.in_ok-types.ensures.grows c.requires.there stands in
    let s2 = stands-grown rules b w.types new c.count_all.ensures.grows c.in_ok-types.ensures.basis s1 in
    let added = c.in_ok-imply_all.ensures.added rules xs record { scopes = s2.scopes; fields = s2.fields } e2 in
    all-there (listing.implications_of rules [] p) (all_implications rules xs) (c.obligations_are_implications.ensures rules [] p) c.in_ok-count.count
    (c.in_ok-count.ensures.count rules xs es e1) (implications_of w.list) (implications_of c.imply_all.new.list) c.in_ok-types.ensures.implications
    added.kept (let h = c.if-count.false in omega arith)

pub returns-clause-few : goal.returns-clause-few
returns-clause-few c rules stands =
    let w = c.in_ok-types.field-0 in
    let d : c.deref.result.now ≡ w.asked.items = cc in
    let b = c.args.basis.now in
    let p = program_view c.args.program.now in
    let xs = obligations_of rules [] p in
    let es = environment_lists w.list in
    let e : map (stated rules) xs ≡ all_stated es (types_in b w.types) c.deref.result.now =
    sym (c.in_ok-types.ensures.asked rules stands) ∙ ap (all_stated es (types_in b w.types)) (sym d) in
    are-few (listing.implications_of rules [] p) (all_implications rules xs) (c.obligations_are_implications.ensures rules [] p) c.in_ok-count.count
    (c.in_ok-count.ensures.count rules xs es e) (let h = c.if-count.false in omega arith)
