-- Names are bound for a part, and let go behind it.
use Rattle.std.proofs.Common.{◌≡◌, ◌∙◌, ℕ, ◌+◌, ◌-◌, ◌<◌, List, [], ◌∷◌, ◌++◌, length, take, drop, get_or, refl, sym, ap, ap₂, subst, append_assoc}
use Rattle.std.proofs.lemmas.List.{map-append, take_more}
use Rattle.lq_base_names.specs.declared.name.Binder.{Binder}
use Rattle.lq_refined_templates.specs.Points.Pure.{Read}
use Rattle.lq_refined_templates.specs.Points.Seen.{Seen, all_seen, seen}
use Rattle.lq_generate_reading.specs.Visibility.Growing.{front_dropped, Longer-trans}
use Rattle.lq_generate_reading.specs.Visibility.Stack.{names_view}
use Rattle.lq_generate_reading.specs.declared.visibility.notes.Notes.{Notes}
use Rattle.lq_generate_reading.specs.Reading.Names.{left_of, Sees}
use Rattle.lq_generate_reading.specs.Reading.State.{count_of, scopes_of, seen_of, Reads}
use Rattle.lq_generate_reading.specs.declared.reading.state.State.{State}

all_seen-push : (xs : List ℕ) (x : ℕ) (Δ : List Seen) → all_seen (xs ++ x ∷ []) Δ ≡ seen x ∷ all_seen xs Δ
all_seen-push [] x Δ = refl
all_seen-push (y ∷ xs) x Δ = all_seen-push xs x (seen y ∷ Δ)

pub all_more : (xs : List Binder) (i : ℕ) (d : Binder) (Δ : List Seen) → i < length xs
    → all_seen (names_view (take (i + 1) xs)) Δ ≡ seen (get_or xs i d).0 ∷ all_seen (names_view (take i xs)) Δ
all_more xs i d Δ h =
    ap (λ l. all_seen (names_view l) Δ) (take_more xs i d h)
    ∙ (ap (λ l. all_seen l Δ) (map-append (λ x. x.0) (take i xs) (get_or xs i d ∷ []))
    ∙ all_seen-push (names_view (take i xs)) (get_or xs i d).0 Δ)

-- the names that a pattern binds come first
pub all_above : (xs : List ℕ) (Δ : List Seen) → (Γ : List Seen) × (all_seen xs Δ ≡ Γ ++ Δ)
all_above [] Δ = ([], refl)
all_above (x ∷ xs) Δ =
    let t = all_above xs (seen x ∷ Δ) in (t.0 ++ seen x ∷ [], t.1 ∙ sym (append_assoc t.0 (seen x ∷ []) Δ))

module _ (m : Notes) where
  pub sees_more : (old mid new : State) (F : List Seen → List Seen) (Δ Θ : List Seen) → Sees m old mid Δ → Sees m mid new (F (seen_of mid)) → Θ ≡ F Δ
      → Sees m old new Θ
  sees_more old mid new F Δ Θ g h e = record {
    seen = h.seen ∙ (ap F g.seen ∙ sym e);
    count = h.count ∙ g.count;
    points = h.points ∙ g.points;
    scopes = Longer-trans (scopes_of old) (scopes_of mid) (scopes_of new) g.scopes h.scopes;
    stands = h.stands;
  }

  -- a part is read where more names are bound, and then they are let go
  pub under : {B : Type 0} (old one two new : State) (Γ Δ : List Seen) (y : B) (F : ℕ → List Seen → Read B) → Sees m old one Δ → Δ ≡ Γ ++ seen_of old
      → Reads m one two y (F (count_of one) (seen_of one)) → Sees m two new (left_of two (length (seen_of old))) → Reads m old new y (F (count_of old) Δ)
  under old one two new Γ Δ y F g e r h =
      let s : Reads m one two y (F (count_of old) Δ) = subst (Reads m one two y) (ap₂ F g.count g.seen) r in
      let all : seen_of two ≡ Γ ++ seen_of old = s.seen ∙ (g.seen ∙ e) in
      record {
        read = s.read;
        points = h.points ∙ (s.points ∙ ap (λ l. l ++ (F (count_of old) Δ).points) g.points);
        seen = h.seen ∙ (ap (λ l. drop (length l - length (seen_of old)) l) all ∙ front_dropped Γ (seen_of old));
        scopes = Longer-trans (scopes_of old) (scopes_of one) (scopes_of new) g.scopes (Longer-trans (scopes_of one) (scopes_of two) (scopes_of new) s.scopes h.scopes);
        stands = h.stands;
      }
