-- The ring and the labels from before.
use Rattle.std.proofs.Common.{◌≡◌, ℕ, List, length, get_or, drop, sym, ap, ◌∙◌, subst, arith, refl}
use Rattle.lq_prover_congruence.specs.Ring.Ring.{IsTogether}
use Rattle.lq_prover_congruence.specs.Classes.Standing.{core_of}
use Rattle.lq_prover_congruence.proofs.ClassesLemmas.Joins.{front-all}
use Rattle.lq_prover_congruence.proofs.ClassesLemmas.Undone.{parted-labels, parted-together, same-core}
use Rattle.lq_prover_congruence.proofs.classes.state.State.part.Goals as goal

pub split_after-requires : goal.split_after-requires
split_after-requires c = record { differ = c.requires.joined.2.differ; together = parted-together c.requires.joined.0 (core_of c.args.self.now) c.args.kept c.args.moved c.requires.joined.1 c.requires.ready.shaped c.requires.joined.2 }

pub relabel-requires : goal.relabel-requires
relabel-requires c =
    let h = c.requires.ready.shaped in
    let j = c.requires.joined.2 in
    record {
      from = omega (arith, c.split_after.ensures.len, h.ringed, j.moved_in, ap length j.known);
      room = omega (arith, c.split_after.ensures.len, h.ringed, h.labelled, ap length c.deref_mut.ensures.value);
    }

pub subtract_size-requires : goal.subtract_size-requires
subtract_size-requires c =
    let j = c.requires.joined.2 in
    let n = ap length c.deref_mut-2.ensures.value in
    record {
      kept = omega (arith, n, c.requires.ready.sizes, j.kept_in, ap length j.known);
      moved = omega (arith, n, c.requires.ready.sizes, j.moved_in, ap length j.known);
    }

pub returns-clause-core : goal.returns-clause-core
returns-clause-core c = λ before h j.
    let s = c.args.self.now in
    let rings = c.split_after.ensures.undoes before.next j.next in
    let long : length c.relabel.new.labels ≡ length s.labels.items = c.relabel.auto.labels ∙ ap length c.deref_mut.ensures.value in
    let P : List ℕ → Type 0 = λ ns. (i : ℕ) → IsTogether ns c.args.moved i → get_or c.relabel.new.labels i 0 ≡ c.args.moved in
    let Q : List ℕ → Type 0 = λ ns. (i : ℕ) → (IsTogether ns c.args.moved i → ⊥) → get_or c.relabel.new.labels i 0 ≡ get_or s.labels.items i 0 in
    let new = parted-labels before (core_of s) c.args.kept c.args.moved c.relabel.new.labels h j long (subst P rings c.relabel.ensures.ring) (subst Q rings (λ i n. c.relabel.ensures.others i n ∙ ap (λ l. get_or l i 0) c.deref_mut.ensures.value)) in
    same-core s.known before.known _ before.labels c.split_after.new.self before.next s.filed before.filed j.known (front-all s.labels.len c.relabel.new.labels (drop (length c.relabel.new.labels) s.labels.items) (s.labels.ok.0 ∙ sym long) ∙ new) rings j.filed

pub returns-clause-beside : goal.returns-clause-beside
returns-clause-beside c =
    let s = c.args.self.now in
    record {
      known = refl;
      uses = refl;
      steps = refl;
      sizes =
          let even : length c.subtract_size.new.sizes ≡ length s.sizes.items = c.subtract_size.auto.sizes ∙ ap length c.deref_mut-2.ensures.value in
          ap length (front-all s.sizes.len c.subtract_size.new.sizes (drop (length c.subtract_size.new.sizes) s.sizes.items) (s.sizes.ok.0 ∙ sym even)) ∙ even;
    }
