use Rattle.std.proofs.Common.{◌≡◌, ◌∙◌, ◌+◌, List, [], ◌∷◌, ◌++◌, drop, refl, ap, subst}
use Rattle.std.proofs.lemmas.List.{append-nil}
use Rattle.lq_meaning_normal_tree.specs.AtomView.{atom_view}
use Rattle.lq_meaning_normal_tree.specs.BlockView.{atoms_view}
use Rattle.lq_refined_rules.specs.Checks.Tree as t
use Rattle.lq_refined_templates.specs.Programs.PureView.{pure_view, pures_view}
use Rattle.lq_refined_templates.specs.Points.Pure.{pures_of}
use Rattle.lq_generate_reading.specs.Visibility.Notes.{annotation_view}
use Rattle.lq_generate_reading.specs.Reading.Pures.{pure_read, pures_read}
use Rattle.lq_generate_reading.specs.Reading.State.{Reads}
use Rattle.lq_generate_reading.proofs.ReadingLemmas.Looping.{part_next, through_as, through_begin, through_end, through_of}
use Rattle.lq_generate_reading.proofs.ReadingLemmas.Rows.{dropped_all, dropped_next, view_pushed}
use Rattle.lq_generate_reading.proofs.reading.state.State.pures.Goals as goal

pub loop-atom-init : goal.loop-atom-init
loop-atom-init c =
    let m = c.args.notes.now in
    let s = c.args.self.now in
    let W = pures_read m s (atoms_view c.args.atoms.now) in
    record {
      through = through_as m s s (λ es. es) (λ es. pures_view c.new-made.result.items ++ es) W W (λ es. ap (λ l. pures_view l ++ es) c.new-made.ensures.items)
          (through_begin m s W c.requires);
      seen = refl;
    }

pub pure-requires : goal.pure-requires
pure-requires c = c.loop-atom.invariant.through.stands

pub loop-atom-preserved : goal.loop-atom-preserved
loop-atom-preserved c =
    let m = c.args.notes.now in
    let old = c.args.self.now in
    let mid = c.loop-atom.self in
    let new = c.pure.new.self in
    let all = c.args.atoms.now in
    let i = c.loop-atom.atom-index in
    let W = pures_read m old (atoms_view all) in
    let f = λ (es : List t.Pure). pures_view c.loop-atom.made.items ++ es in
    let e : drop i all ≡ c.atom-item.result ∷ drop (i + 1) all = dropped_next all i c.atom-item.result c.loop-atom-test.true c.atom-item.is in
    record {
      through = part_next m old mid new f (λ es. pures_view c.push.new.self.items ++ es) W (pure_view c.in_ok-pure.pure) (pure_read m mid (atom_view c.atom-item.result))
          (λ y ys. y ∷ ys) (λ k Δ. pures_of (annotation_view m) Δ k (atoms_view (drop (i + 1) all)))
          (through_of m old mid f W (pures_read m mid (atoms_view (drop i all))) (pures_read m mid (atoms_view (c.atom-item.result ∷ drop (i + 1) all)))
          (ap (λ l. pures_read m mid (atoms_view l)) e) c.loop-atom.invariant.through)
          c.in_ok-pure.ensures
          (view_pushed pure_view c.loop-atom.made.items c.push.new.self.items c.in_ok-pure.pure c.in_ok-push.ensures.items);
      seen = c.in_ok-pure.ensures.seen ∙ c.loop-atom.invariant.seen;
    }

pub returns : goal.returns
returns c =
    let m = c.args.notes.now in
    let old = c.args.self.now in
    let new = c.loop-atom.self in
    let all = c.args.atoms.now in
    let i = c.loop-atom.atom-index in
    let W = pures_read m old (atoms_view all) in
    let made = pures_view c.loop-atom.made.items in
    subst (λ es. Reads m old new es W) (append-nil made)
    (through_end m old new (λ es. made ++ es) W [] (pures_read m new (atoms_view (drop i all))) c.loop-atom.invariant.through
    (ap (λ l. pures_read m new (atoms_view l)) (dropped_all all i c.loop-atom-test.false)) c.loop-atom.invariant.seen)
