use Rattle.std.proofs.Common.{◌≡◌, ℕ, List, [], ◌∷◌, ◌++◌, map, refl, sym, ap, ◌∙◌}
use Rattle.std.proofs.lemmas.List.{append-nil}
use Rattle.lq_logic_predicates.specs.ClosedImplication.{ClosedImplication}
use Rattle.lq_logic_predicates.specs.Points.{Point}
use Rattle.lq_logic_text.specs.Calling.{Calling}
use Rattle.lq_top_answers.specs.Failure.Failures.{DifferInValues}
use Rattle.lq_top_answers.specs.Failure.Occurrences.{Valued, shown}
use Rattle.lq_top_answers.specs.Failure.PointLines.{PointValue, label, ShowsPoint}
use Rattle.lq_top_answers.proofs.failure.laws.failures_differ_in_values.Goals as goal

labels : (c : Calling) (ls : List (Valued × PointValue)) → map (λ (l : List ℕ × PointValue). l.0) (map (λ (l : Valued × PointValue). (label c l.0, l.1)) ls) ≡ map (label c) (map (λ (l : Valued × PointValue). l.0) ls)
labels c [] = refl
labels c (l ∷ ls) = ap (λ (t : List (List ℕ)). label c l.0 ∷ t) (labels c ls)

labels_of : (c : Calling) (i : ClosedImplication) (p : Point) (text : List ℕ) (s : ShowsPoint c i p text) → map (λ (l : List ℕ × PointValue). l.0) (map (λ (l : Valued × PointValue). (label c l.0, l.1)) s.lines) ≡ map (label c) (shown i)
labels_of c i p text s = labels c s.lines ∙ ap (map (label c)) s.valued.of

differ : (c : Calling) (i : ClosedImplication) (p q : Point) (front back lines other_lines text other : List ℕ) → ShowsPoint c i p lines → ShowsPoint c i q other_lines
    → text ≡ front ++ lines ++ back → other ≡ front ++ other_lines ++ back → DifferInValues front back text other
differ c i p q front back lines other_lines text other s r e f = record {
  lines = map (λ l. (label c l.0, l.1)) s.lines;
  other_lines = map (λ l. (label c l.0, l.1)) r.lines;
  same = labels_of c i p lines s ∙ sym (labels_of c i q other_lines r);
  written = e ∙ ap (λ (l : List ℕ). front ++ l ++ back) s.written;
  other_written = f ∙ ap (λ (l : List ℕ). front ++ l ++ back) r.written;
}

pub returns-clause-failures : goal.returns-clause-failures
returns-clause-failures c = λ calling is at i p q text other a b.
    differ calling i p q _ [] a.lines b.lines text other a.shows b.shows (a.written ∙ sym (append-nil _)) (b.written ∙ sym (append-nil _))

pub returns-clause-explanations : goal.returns-clause-explanations
returns-clause-explanations c = λ calling is at i p q text other a b.
    differ calling i p q _ _ a.fails.lines b.fails.lines text other a.fails.shows b.fails.shows (a.written ∙ ap (λ (l : List ℕ). l ++ _) a.fails.written) (b.written ∙ ap (λ (l : List ℕ). l ++ _) b.fails.written)
