-- Two classes become one.
use Rattle.std.proofs.Common.{◌≡◌, ℕ, ◌<◌, List, [], length, get_or, drop, sym, ap, ◌∙◌, subst, arith, refl}
use Rattle.lq_prover_congruence.specs.Ring.Ring.{times}
use Rattle.lq_prover_congruence.specs.Classes.Terms.{term_in}
use Rattle.lq_prover_congruence.specs.Classes.Standing.{core_of}
use Rattle.lq_prover_congruence.proofs.ClassesLemmas.Joins.{relabelled-is, among-below, front-all}
use Rattle.lq_prover_congruence.proofs.classes.state.State.unite.Goals as goal

pub returns-clause-ok : goal.returns-clause-ok
returns-clause-ok c =
    let s = c.args.self.now in
    let h = c.requires.ready.shaped in
    let moved_in = c.requires.moved.0 in
    let moved_rests = c.requires.moved.1 in
    let long : length c.relabel.new.labels ≡ length s.labels.items = c.relabel.auto.labels ∙ ap length c.deref_mut.ensures.value in
    let new = relabelled-is (core_of s) c.args.kept c.args.moved c.relabel.new.labels h long moved_in moved_rests c.relabel.ensures.ring (λ i n. c.relabel.ensures.others i n ∙ ap (λ l. get_or l i 0) c.deref_mut.ensures.value) in
    record {
      joined = record {
        known = refl;
        labels = front-all s.labels.len c.relabel.new.labels (drop (length c.relabel.new.labels) s.labels.items) (s.labels.ok.0 ∙ sym long) ∙ new;
        next = c.splice.ensures.links;
        filed = refl;
        kept_in = c.requires.kept.0;
        moved_in = moved_in;
        kept_rests = c.requires.kept.1;
        moved_rests = moved_rests;
        differ = c.requires.differ;
      };
      rings = c.splice.ensures.together;
      trail = c.in_ok-push.ensures.items;
      beside = record {
        known = refl;
        uses = refl;
        steps = refl;
        sizes =
            let even : length c.add_size.new.sizes ≡ length s.sizes.items = c.add_size.auto.sizes ∙ ap length c.deref_mut-2.ensures.value in
            ap length (front-all s.sizes.len c.add_size.new.sizes (drop (length c.add_size.new.sizes) s.sizes.items) (s.sizes.ok.0 ∙ sym even)) ∙ even;
      };
      keeps = c.queue_users.ensures.kept;
      users = λ i a k t e.
          let a_in : a < length s.known = omega (arith, among-below i (term_in s.known i).1 a (h.args i k) t) in
          let P : List (List ℕ) → Type 0 = λ us. 0 < times i (get_or us a []) in
          c.in_ok-queue_users.ensures.users a i ((h.rings c.args.moved a).1 (moved_in, a_in, moved_rests ∙ sym e)) (subst P (sym c.deref.ensures.value) (c.requires.ready.uses.listed i a k t));
    }
