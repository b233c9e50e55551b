-- One part is read behind another.
use Rattle.std.proofs.Common.{◌≡◌, ◌∙◌, ℕ, suc, ◌+◌, List, ◌∷◌, ◌++◌, length, refl, sym, ap, ap₂, subst, append_assoc, arith}
use Rattle.std.proofs.lemmas.List.{append-nil, length-append, length-map}
use Rattle.lq_refined_templates.specs.Programs.PointView.{point_view}
use Rattle.lq_refined_templates.specs.Points.Point as p
use Rattle.lq_refined_templates.specs.Points.Pure.{Read, after, with_one, with_two, without_points}
use Rattle.lq_refined_templates.specs.Points.Seen.{Seen}
use Rattle.lq_generate_reading.specs.Visibility.Growing.{Longer-refl, Longer-trans}
use Rattle.lq_generate_reading.specs.Visibility.Notes.{types_in}
use Rattle.lq_generate_reading.specs.declared.visibility.notes.Notes.{Notes}
use Rattle.lq_generate_reading.specs.Reading.State.{count_of, noted, points_in, scopes_of, seen_of, Reads, Stands}
use Rattle.lq_generate_reading.specs.declared.reading.state.State.{State}

module _ (m : Notes) where
  pub reads_nothing : {A : Type 0} (s : State) (x : A) → Stands m s → Reads m s s x (without_points x)
  reads_nothing s x h = record {
    read = refl;
    points = sym (append-nil (points_in m s));
    seen = refl;
    scopes = Longer-refl (scopes_of s);
    stands = h;
  }

  -- how many points there are afterwards
  pub count_after : {A : Type 0} (old new : State) (x : A) (r : Read A) → Reads m old new x r → count_of new ≡ after (count_of old) r
  count_after old new x r h =
      let e : length (points_in m new) ≡ length (points_in m old ++ r.points) = ap length h.points in
      let k = length-append (points_in m old) r.points in
      let a = length-map new.points.items (point_view (scopes_of new) (types_in m)) in
      let b = length-map old.points.items (point_view (scopes_of old) (types_in m)) in
      omega arith

  -- a part that was read in the state behind another
  pub moved : {A B : Type 0} (old mid new : State) (x : A) (r : Read A) (y : B) (F : ℕ → List Seen → Read B) → Reads m old mid x r
      → Reads m mid new y (F (count_of mid) (seen_of mid)) → Reads m mid new y (F (after (count_of old) r) (seen_of old))
  moved old mid new x r y F g h = subst (Reads m mid new y) (ap₂ F (count_after old mid x r g) g.seen) h

  pub one : {A B : Type 0} (old new : State) (x : A) (r : Read A) (f : A → B) → Reads m old new x r → Reads m old new (f x) (with_one r f)
  one old new x r f h = record { read = ap f h.read; points = h.points; seen = h.seen; scopes = h.scopes; stands = h.stands }

  pub two : {A B C : Type 0} (old mid new : State) (x : A) (r : Read A) (y : B) (s : Read B) (f : A → B → C) → Reads m old mid x r → Reads m mid new y s
      → Reads m old new (f x y) (with_two r s f)
  two old mid new x r y s f g h = record {
    read = ap₂ f g.read h.read;
    points = h.points ∙ (ap (λ l. l ++ s.points) g.points ∙ append_assoc (points_in m old) r.points s.points);
    seen = h.seen ∙ g.seen;
    scopes = Longer-trans (scopes_of old) (scopes_of mid) (scopes_of new) g.scopes h.scopes;
    stands = h.stands;
  }

  pub both : {A B C : Type 0} (old mid new : State) (x : A) (r : Read A) (y : B) (F : ℕ → List Seen → Read B) (f : A → B → C) → Reads m old mid x r
      → Reads m mid new y (F (count_of mid) (seen_of mid)) → Reads m old new (f x y) (with_two r (F (after (count_of old) r) (seen_of old)) f)
  both old mid new x r y F f g h = two old mid new x r y (F (after (count_of old) r) (seen_of old)) f g (moved old mid new x r y F g h)

  -- a point, and what is read behind it
  pub pointed : {A B : Type 0} (old mid new : State) (k : ℕ) (q : p.Point) (y : A) (F : ℕ → List Seen → Read A) (f : ℕ → A → B)
      → Reads m old mid k (noted (count_of old) q) → Reads m mid new y (F (count_of mid) (seen_of mid))
      → Reads m old new (f k y) (record { read = f (count_of old) (F (suc (count_of old)) (seen_of old)).read; points = q ∷ (F (suc (count_of old)) (seen_of old)).points })
  pointed old mid new k q y F f g h =
      subst (λ n. Reads m old new (f k y) (record { read = f (count_of old) (F n (seen_of old)).read; points = q ∷ (F n (seen_of old)).points }))
      (one_more (count_of old)) (both old mid new k (noted (count_of old) q) y F f g h)
    where
      one_more : (k : ℕ) → k + 1 ≡ suc k
      one_more k = omega arith

  -- a point at a scope
  pub noted_behind : {A : Type 0} (old mid new : State) (x : A) (k : ℕ) (q r : p.Point) → Reads m old mid x (without_points x)
      → Reads m mid new k (noted (count_of mid) q) → q ≡ r → Reads m old new k (noted (count_of old) r)
  noted_behind old mid new x k q r g h e =
      subst (λ y. Reads m old new k (noted (count_of old) y)) e
      (subst (λ n. Reads m old new k (noted n q)) (same (count_of mid) (count_of old) (count_after old mid x (without_points x) g))
      (two old mid new x (without_points x) k (noted (count_of mid) q) (λ a b. b) g h))
    where
      same : (a b : ℕ) → a ≡ b + 0 → a ≡ b
      same a b h = omega arith
