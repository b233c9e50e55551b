-- Parts are read one behind another.
use Rattle.std.proofs.Common.{◌≡◌, ◌∙◌, ℕ, List, [], ◌++◌, refl, sym, ap, ap₂, subst, append_assoc}
use Rattle.std.proofs.lemmas.List.{append-nil}
use Rattle.lq_refined_templates.specs.Points.Pure.{Read, after, with_two}
use Rattle.lq_refined_templates.specs.Points.Seen.{Seen}
use Rattle.lq_generate_reading.specs.Visibility.Growing.{Longer-refl, Longer-trans}
use Rattle.lq_generate_reading.specs.declared.visibility.notes.Notes.{Notes}
use Rattle.lq_generate_reading.specs.Reading.State.{count_of, points_in, scopes_of, seen_of, Reads, Stands}
use Rattle.lq_generate_reading.specs.declared.reading.state.State.{State}
use Rattle.lq_generate_reading.specs.Reading.Through.{Through}
use Rattle.lq_generate_reading.proofs.ReadingLemmas.Composing.{count_after}

module _ (m : Notes) where
  pub through_begin : {B : Type 0} (s : State) (W : Read B) → Stands m s → Through m s s (λ b. b) W W
  through_begin s W h = record {
    between = [];
    points = sym (append-nil (points_in m s));
    is = refl;
    scopes = Longer-refl (scopes_of s);
    stands = h;
  }

  -- what goes around may be said otherwise
  pub through_as : {B : Type 0} (old now : State) (f h : B → B) (W R : Read B) → ((b : B) → h b ≡ f b) → Through m old now f W R → Through m old now h W R
  through_as old now f h W R e t = record {
    between = t.between;
    points = t.points;
    is = t.is ∙ ap (λ b. record { read = b; points = t.between ++ R.points }) (sym (e R.read));
    scopes = t.scopes;
    stands = t.stands;
  }

  -- the rest may be said otherwise
  pub through_of : {B : Type 0} (old now : State) (f : B → B) (W R S : Read B) → R ≡ S → Through m old now f W R → Through m old now f W S
  through_of old now f W R S e t = subst (Through m old now f W) e t

  -- one part more
  pub part_next : {A B : Type 0} (old mid new : State) (f h : B → B) (W : Read B) (x : A) (r : Read A) (g : A → B → B) (F : ℕ → List Seen → Read B)
      → Through m old mid f W (with_two r (F (after (count_of mid) r) (seen_of mid)) g) → Reads m mid new x r → ((b : B) → h b ≡ f (g x b))
      → Through m old new h W (F (count_of new) (seen_of new))
  part_next {A} {B} old mid new f h W x r g F t d e = record {
    between = t.between ++ r.points;
    points = d.points ∙ (ap (λ l. l ++ r.points) t.points ∙ append_assoc (points_in m old) t.between r.points);
    is = t.is
        ∙ (ap₂ (λ b l. record { read = b; points = l }) (ap (λ y. f (g y rest.read)) (sym d.read) ∙ sym (e rest.read))
        (sym (append_assoc t.between r.points rest.points))
        ∙ ap (λ R. record { read = h R.read; points = (t.between ++ r.points) ++ R.points }) (sym moves));
    scopes = Longer-trans (scopes_of old) (scopes_of mid) (scopes_of new) t.scopes d.scopes;
    stands = d.stands;
  }
    where
      rest : Read B
      rest = F (after (count_of mid) r) (seen_of mid)

      moves : F (count_of new) (seen_of new) ≡ F (after (count_of mid) r) (seen_of mid)
      moves = ap₂ F (count_after m mid new x r d) d.seen

  -- all of it
  pub through_end : {B : Type 0} (old now : State) (f : B → B) (W : Read B) (y : B) (R : Read B) → Through m old now f W R
      → R ≡ record { read = y; points = [] } → seen_of now ≡ seen_of old → Reads m old now (f y) W
  through_end old now f W y R t e s = record {
    read = ap (λ r. f r.read) (sym e) ∙ ap (λ r. r.read) (sym t.is);
    points = t.points
        ∙ ap (λ l. points_in m old ++ l)
        (sym (append-nil t.between) ∙ (ap (λ r. t.between ++ r.points) (sym e) ∙ ap (λ r. r.points) (sym t.is)));
    seen = s;
    scopes = t.scopes;
    stands = t.stands;
  }

  -- with a last part
  pub through_last : {B : Type 0} (old mid new : State) (f : B → B) (W : Read B) (y : B) (R : Read B) → Through m old mid f W R → Reads m mid new y R
      → seen_of mid ≡ seen_of old → Reads m old new (f y) W
  through_last old mid new f W y R t d s = record {
    read = ap f d.read ∙ ap (λ r. r.read) (sym t.is);
    points = d.points
        ∙ (ap (λ l. l ++ R.points) t.points ∙ (append_assoc (points_in m old) t.between R.points
        ∙ ap (λ l. points_in m old ++ l) (ap (λ r. r.points) (sym t.is))));
    seen = d.seen ∙ s;
    scopes = Longer-trans (scopes_of old) (scopes_of mid) (scopes_of new) t.scopes d.scopes;
    stands = d.stands;
  }
