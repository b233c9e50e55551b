-- The counts of a loop after one item more.
use Rattle.std.proofs.Common.{◌≡◌, ℕ, ◌+◌, ◌-◌, ◌*◌, ◌^◌, ◌<◌, min, List, [], ◌∷◌, ◌++◌, map, take, length, slice_get, get_or, Bool, true, false, if◌then◌else◌, refl, sym, ap, subst, ◌∙◌, arith, ◌≤◌, Some, Option}
use Rattle.std.specs.List.{zip}
use Rattle.std.specs.Option.{option_map}
use Rattle.std.proofs.lemmas.List.{map-append, length-map}
use Rattle.lq_text_qualifiers.specs.Faults.Shapes as plain
use Rattle.lq_text_qualifiers.specs.Faults.Shapes.{is_same}
use Rattle.lq_text_qualifiers.specs.Sorting.Sorted.{Qualifier}
use Rattle.lq_text_qualifiers.specs.Sorting.Views.{shape_view}
use Rattle.lq_text_qualifiers.specs.declared.sorting.shape.Shape.{Shape}
use Rattle.lq_refined_instances.specs.Counting.{count_after, symbol_count, replaced_count, count_of, or_first}
use Rattle.lq_refined_instances.specs.Instances.{replacements, total_count, told}
use Rattle.lq_refined_instances.specs.Scopes.{Visible, Scope, Added, symbols_of, grown, scope_in, shown, without, hidden_count, IsCounted, AreBelow, AreCounted}
use Rattle.lq_refined_instances.specs.Seen.{added_view, hidden_view, visible_view}
use Rattle.lq_refined_instances.specs.Views.{unknown_view}
use Rattle.lq_refined_instances.specs.declared.scopes.Addition.{Addition}
use Rattle.lq_refined_instances.specs.declared.unknowns.Unknown.{Unknown}
use Rattle.lq_refined_instances.proofs.Counts.{symbol_count-more, in-or_first, products-more, count_of-more, total_count-more}
use Rattle.lq_refined_instances.proofs.Hiding.{few-symbols}
use Rattle.lq_refined_instances.proofs.Tables.{grown-push, grown-starts, get-map, read-at, early-scope, length_take}
use Rattle.lq_refined_instances.proofs.Taking.{seen-more}
use Rattle.lq_refined_instances.proofs.Told.{told-plus}

-- the count of a scope after what it hides and what it adds
after-is : (Γ : Scope) (h : Option Visible) (v : Visible) (s : plain.Shape) → IsCounted h Γ → length (symbols_of Γ s) ≤ 2 ^ 64 - 1
    → count_after s (symbol_count s Γ) h v ≡ symbol_count s (without h Γ ++ v ∷ [])
after-is Γ h v s counted few =
    let c = counted s in
    let n : symbol_count s Γ ≡ length (symbols_of Γ s) = omega arith in
    let m : symbol_count s Γ - hidden_count s h ≡ symbol_count s (without h Γ) = omega arith in
    ap (λ (k : ℕ). min (k + (if is_same s v.1 then 1 else 0)) (2 ^ 64 - 1)) m ∙ symbol_count-more (without h Γ) v s

step-by : (A : List Addition) (i : ℕ) (d : Addition) (s : plain.Shape) (counts new : List ℕ) (r : ℕ) → i < length A → length A ≤ 2 ^ 64 - 1
    → AreBelow (map added_view A) → AreCounted (map added_view A) → counts ≡ map (symbol_count s) (grown ([] ∷ []) (map added_view (take i A)))
    → r ≡ count_after s (or_first (slice_get counts (get_or A i d).parent) counts) (hidden_view (get_or A i d).hidden) (visible_view (get_or A i d).visible) → new ≡ counts ++ r ∷ []
    → new ≡ map (symbol_count s) (grown ([] ∷ []) (map added_view (take (i + 1) A)))
step-by A i d s counts new r less small below counted inv is pushed =
    let x : Addition = get_or A i d in
    let es : List Added = map added_view A in
    let G : List Scope = grown ([] ∷ []) (map added_view (take i A)) in
    let next : Scope = shown G (added_view x) in
    let starts = grown-starts [] [] (map added_view (take i A)) in
    let before : or_first (slice_get counts x.parent) counts ≡ symbol_count s (scope_in G x.parent) =
    ap (λ (l : List ℕ). or_first (slice_get l x.parent) l) (inv ∙ ap (map (symbol_count s)) starts.1) ∙ in-or_first (symbol_count s) starts.0 x.parent
    ∙ ap (λ (l : List Scope). symbol_count s (scope_in l x.parent)) (sym starts.1)
    in
    let at : slice_get es i ≡ Some (added_view x) = get-map added_view A i ∙ ap (option_map added_view) (read-at A i d less) in
    let early : scope_in (grown ([] ∷ []) es) x.parent ≡ scope_in G x.parent = early-scope added_view A i x.parent less (below i (added_view x) at) in
    let there : IsCounted (hidden_view x.hidden) (scope_in G x.parent) = subst (IsCounted (hidden_view x.hidden)) early (counted i (added_view x) at) in
    let few = few-symbols (map added_view (take i A)) x.parent s in
    let m = length-map (take i A) added_view in
    let l = length_take A i less in
    let value : r ≡ symbol_count s next =
    is ∙ ap (λ (n : ℕ). count_after s n (hidden_view x.hidden) (visible_view x.visible)) before
    ∙ after-is (scope_in G x.parent) (hidden_view x.hidden) (visible_view x.visible) s there (omega arith)
    in
    let grows : grown ([] ∷ []) (map added_view (take (i + 1) A)) ≡ G ++ next ∷ [] =
    ap (grown ([] ∷ [])) (seen-more added_view A i x d less refl) ∙ grown-push ([] ∷ []) (map added_view (take i A)) (added_view x)
    in
    pushed ∙ ap (λ (l : List ℕ). l ++ r ∷ []) inv ∙ ap (λ (n : ℕ). map (symbol_count s) G ++ n ∷ []) value
    ∙ sym (ap (map (symbol_count s)) grows ∙ map-append (symbol_count s) G (next ∷ []))

-- the same where the list is lent
pub symbols-step : (A B : List Addition) (i : ℕ) (d : Addition) (s : plain.Shape) (counts new : List ℕ) (r : ℕ) → B ≡ A → i < length B → length A ≤ 2 ^ 64 - 1
    → AreBelow (map added_view A) → AreCounted (map added_view A) → counts ≡ map (symbol_count s) (grown ([] ∷ []) (map added_view (take i A)))
    → r ≡ count_after s (or_first (slice_get counts (get_or B i d).parent) counts) (hidden_view (get_or B i d).hidden) (visible_view (get_or B i d).visible) → new ≡ counts ++ r ∷ []
    → new ≡ map (symbol_count s) (grown ([] ∷ []) (map added_view (take (i + 1) A)))
symbols-step A B i d s counts new r lent less small below counted inv is pushed =
    step-by A i d s counts new r (subst (λ (l : List Addition). i < length l) lent less) small below counted inv
    (is ∙ ap (λ (l : List Addition). count_after s (or_first (slice_get counts (get_or l i d).parent) counts) (hidden_view (get_or l i d).hidden) (visible_view (get_or l i d).visible)) lent) pushed

pub products-step : (P : List Shape) (i : ℕ) (d : Shape) (all : List Scope) (counts symbols new : List ℕ) → i < length P
    → counts ≡ map (replaced_count (map shape_view (take i P))) all → symbols ≡ map (symbol_count (shape_view (get_or P i d))) all
    → new ≡ map (λ p. told (p.0 * p.1)) (zip counts symbols) → new ≡ map (replaced_count (map shape_view (take (i + 1) P))) all
products-step P i d all counts symbols new less inv column is =
    is ∙ ap (λ (l : List ℕ). map (λ p. told (p.0 * p.1)) (zip l symbols)) inv
    ∙ ap (λ (l : List ℕ). map (λ p. told (p.0 * p.1)) (zip (map (replaced_count (map shape_view (take i P))) all) l)) column
    ∙ products-more all (map shape_view (take i P)) (shape_view (get_or P i d))
    ∙ ap (λ (ss : List plain.Shape). map (replaced_count ss) all) (sym (seen-more shape_view P i (get_or P i d) d less refl))

counted : (q : Qualifier) (us : List (Scope × plain.Shape)) (u : Scope × plain.Shape) (b : Bool) (total total' : ℕ) → total ≡ told (count_of q us) → is_same u.1 q.shape ≡ b
    → total' ≡ (if b then min (total + replaced_count q.placeholders u.0) (2 ^ 64 - 1) else total) → total' ≡ told (count_of q (us ++ u ∷ []))
counted q us u true total total' inv same is =
    is ∙ ap (λ (n : ℕ). min (n + replaced_count q.placeholders u.0) (2 ^ 64 - 1)) inv ∙ told-plus (count_of q us) (length (replacements u.0 q.placeholders))
    ∙ ap told (sym (count_of-more q us u ∙ ap (λ (b : Bool). count_of q us + (if b then length (replacements u.0 q.placeholders) else 0)) same))
counted q us u false total total' inv same is =
    is ∙ inv ∙ ap told (sym (count_of-more q us u ∙ ap (λ (b : Bool). count_of q us + (if b then length (replacements u.0 q.placeholders) else 0)) same ∙ omega arith))

count-by : (q : Qualifier) (all rest : List Scope) (U : List Unknown) (i : ℕ) (d : Unknown) (counts : List ℕ) (b : Bool) (total total' : ℕ) → all ≡ [] ∷ rest → i < length U
    → total ≡ told (count_of q (map (unknown_view all) (take i U))) → counts ≡ map (replaced_count q.placeholders) all
    → is_same (shape_view (get_or U i d).shape) q.shape ≡ b
    → total' ≡ (if b then min (total + or_first (slice_get counts (get_or U i d).scope) counts) (2 ^ 64 - 1) else total)
    → total' ≡ told (count_of q (map (unknown_view all) (take (i + 1) U)))
count-by q all rest U i d counts b total total' starts less inv column same is =
    let u : Unknown = get_or U i d in
    let at : or_first (slice_get counts u.scope) counts ≡ replaced_count q.placeholders (scope_in all u.scope) =
    ap (λ (l : List ℕ). or_first (slice_get l u.scope) l) (column ∙ ap (map (replaced_count q.placeholders)) starts) ∙ in-or_first (replaced_count q.placeholders) rest u.scope
    ∙ ap (λ (l : List Scope). replaced_count q.placeholders (scope_in l u.scope)) (sym starts)
    in
    counted q (map (unknown_view all) (take i U)) (unknown_view all u) b total total' inv same
    (is ∙ ap (λ (n : ℕ). if b then min (total + n) (2 ^ 64 - 1) else total) at)
    ∙ ap (λ (l : List (Scope × plain.Shape)). told (count_of q l)) (sym (seen-more (unknown_view all) U i u d less refl))

pub count-step : (q : Qualifier) (all rest : List Scope) (U V : List Unknown) (i : ℕ) (d : Unknown) (counts : List ℕ) (b : Bool) (total total' : ℕ) → V ≡ U → all ≡ [] ∷ rest → i < length V
    → total ≡ told (count_of q (map (unknown_view all) (take i U))) → counts ≡ map (replaced_count q.placeholders) all
    → is_same (shape_view (get_or V i d).shape) q.shape ≡ b
    → total' ≡ (if b then min (total + or_first (slice_get counts (get_or V i d).scope) counts) (2 ^ 64 - 1) else total)
    → total' ≡ told (count_of q (map (unknown_view all) (take (i + 1) U)))
count-step q all rest U V i d counts b total total' lent starts less inv column same is =
    count-by q all rest V i d counts b total total' starts less (inv ∙ ap (λ (l : List Unknown). told (count_of q (map (unknown_view all) (take i l)))) (sym lent)) column same is
    ∙ ap (λ (l : List Unknown). told (count_of q (map (unknown_view all) (take (i + 1) l)))) lent

pub total-step : (qs : List Qualifier) (q : Qualifier) (us : List (Scope × plain.Shape)) (total count total' : ℕ) → total ≡ told (total_count qs us) → count ≡ told (count_of q us)
    → total' ≡ min (total + count) (2 ^ 64 - 1) → total' ≡ told (total_count (qs ++ q ∷ []) us)
total-step qs q us total count total' inv one is =
    is ∙ ap (λ (n : ℕ). min (n + count) (2 ^ 64 - 1)) inv ∙ ap (λ (n : ℕ). min (told (total_count qs us) + n) (2 ^ 64 - 1)) one
    ∙ told-plus (total_count qs us) (count_of q us) ∙ ap told (sym (total_count-more qs q us))

pub ones-step : (A B : List Addition) (i : ℕ) (d : Addition) (counts new : List ℕ) → B ≡ A → i < length B → counts ≡ map (λ _. 1) (grown ([] ∷ []) (map added_view (take i A)))
    → new ≡ counts ++ 1 ∷ [] → new ≡ map (λ _. 1) (grown ([] ∷ []) (map added_view (take (i + 1) A)))
ones-step A B i d counts new lent less inv pushed =
    let long : i < length A = subst (λ (l : List Addition). i < length l) lent less in
    let x : Addition = get_or A i d in
    let G : List Scope = grown ([] ∷ []) (map added_view (take i A)) in
    let next : Scope = shown G (added_view x) in
    let grows : grown ([] ∷ []) (map added_view (take (i + 1) A)) ≡ G ++ next ∷ [] =
    ap (grown ([] ∷ [])) (seen-more added_view A i x d long refl) ∙ grown-push ([] ∷ []) (map added_view (take i A)) (added_view x)
    in
    let one : Scope → ℕ = λ _. 1 in pushed ∙ ap (λ (l : List ℕ). l ++ 1 ∷ []) inv ∙ sym (ap (map one) grows ∙ map-append one G (next ∷ []))
