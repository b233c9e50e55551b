-- Points that are turned into idle ones, one after another.
use Rattle.std.proofs.Common.{◌≡◌, ◌∙◌, ℕ, List, [], ◌∷◌, ◌++◌, All, map, reverse, take, drop, sym, ap, ap₂, subst}
use Rattle.std.proofs.lemmas.List.{append-nil, drop-map, reverse-append, take-map}
use Rattle.std.proofs.lemmas.List.Elements.{All-head, All-tail}
use Rattle.lq_refined_instances.specs.Scopes.{Scope}
use Rattle.lq_refined_templates.specs.Programs.PointView.{point_view, points_view}
use Rattle.lq_refined_templates.specs.declared.programs.point.Point.{Point}
use Rattle.lq_refined_templates.specs.Points.Point as p
use Rattle.lq_refined_templates.specs.Points.Point.{idled}
use Rattle.lq_refined_templates.specs.Points.Reading.{all_idled}
use Rattle.lq_text_tree.specs.MlType.{MlType}
use Rattle.lq_generate_reading.proofs.ReadingLemmas.Rows.{view_pushed}

reverse-push : {X : Type 0} (xs : List X) (x : X) → reverse (xs ++ x ∷ []) ≡ x ∷ reverse xs
reverse-push xs x = reverse-append xs (x ∷ [])

-- the points from a mark on are left
pub idle_begin : (scopes : List Scope) (types : List MlType) (k : ℕ) (qs ps rest : List Point) → ps ≡ take k qs → rest ≡ drop k qs
    → points_view scopes types ps ++ all_idled (points_view scopes types rest) ≡ take k (points_view scopes types qs) ++ all_idled (drop k (points_view scopes types qs))
idle_begin scopes types k qs ps rest e f =
    let view = point_view scopes types in
    ap₂ (λ a b. a ++ all_idled b) (ap (map view) e ∙ sym (take-map view k qs)) (ap (map view) f ∙ sym (drop-map view k qs))

-- one more is turned
pub idle_next : (scopes : List Scope) (types : List MlType) (ps new rest left : List Point) (q r : Point) (W : List p.Point)
    → points_view scopes types ps ++ all_idled (points_view scopes types (reverse rest)) ≡ W → rest ≡ left ++ q ∷ [] → new ≡ ps ++ r ∷ []
    → point_view scopes types r ≡ idled (point_view scopes types q)
    → points_view scopes types new ++ all_idled (points_view scopes types (reverse left)) ≡ W
idle_next scopes types ps new rest left q r W h e f g =
    let view = point_view scopes types in
    view_pushed view ps new r f (all_idled (map view (reverse left)))
    ∙ (ap (λ x. map view ps ++ x ∷ all_idled (map view (reverse left))) g
    ∙ (sym (ap (λ l. map view ps ++ all_idled (map view l)) (ap reverse e ∙ reverse-push left q)) ∙ h))

pub idle_end : (scopes : List Scope) (types : List MlType) (ps rest : List Point) (W : List p.Point)
    → points_view scopes types ps ++ all_idled (points_view scopes types (reverse rest)) ≡ W → rest ≡ [] → points_view scopes types ps ≡ W
idle_end scopes types ps rest W h e =
    let view = point_view scopes types in
    sym (append-nil (map view ps)) ∙ (sym (ap (λ l. map view ps ++ all_idled (map view (reverse l))) e) ∙ h)

pub left_head : (P : Point → Type 0) (rest left : List Point) (q : Point) → rest ≡ left ++ q ∷ [] → All P (reverse rest) → P q
left_head P rest left q e h = All-head P q (reverse left) (subst (All P) (ap reverse e ∙ reverse-push left q) h)

pub left_tail : (P : Point → Type 0) (rest left : List Point) (q : Point) → rest ≡ left ++ q ∷ [] → All P (reverse rest) → All P (reverse left)
left_tail P rest left q e h = All-tail P q (reverse left) (subst (All P) (ap reverse e ∙ reverse-push left q) h)
