-- What is remembered stays right.
use Rattle.std.proofs.Common.{◌≡◌, ◌∙◌, ℕ, ◌<◌, List, [], ◌∷◌, ◌++◌, length, reverse, take, get_or, Option, Some, None, Result, Ok, Err, IfOk, OnOk, OnErr, sym, ap, subst, arith}
use Rattle.std.proofs.lemmas.List.{length-append}
use Rattle.std.specs.declared.alloc.AllocError.{AllocError}
use Rattle.lq_refined_instances.specs.Scopes.{Scope, scope_in}
use Rattle.lq_refined_templates.specs.Points.Annotation.{Annotation}
use Rattle.lq_generate_reading.specs.Visibility.Fits.{Fits}
use Rattle.lq_generate_reading.specs.Visibility.Latest.{changed, latest_in, name_number, of_text, text_number}
use Rattle.lq_generate_reading.specs.Visibility.Levels.{AreLevels, IsLevel}
use Rattle.lq_generate_reading.specs.Visibility.Notes.{annotation_view}
use Rattle.lq_generate_reading.specs.Visibility.Scopes.{Longer}
use Rattle.lq_generate_reading.specs.Visibility.Stack.{entry_view, stacked}
use Rattle.lq_generate_reading.specs.declared.visibility.bound.Bound.{Bound}
use Rattle.lq_generate_reading.specs.declared.visibility.bound.Entry.{Entry}
use Rattle.lq_generate_reading.specs.declared.visibility.level.Level.{Level}
use Rattle.lq_generate_reading.specs.declared.visibility.notes.Notes.{Notes}
use Rattle.lq_generate_reading.proofs.VisibilityLemmas.LevelSteps.{change_back, change_sets, level_down, level_up, levels_kept, levels_within, no_change}

pub same_scope : (r : Result ℕ AllocError) (all : List Scope) (X Y : Scope) → X ≡ Y → IfOk r (λ s. scope_in all s ≡ X) → IfOk r (λ s. scope_in all s ≡ Y)
same_scope (Ok s) all X Y e h = h ∙ e
same_scope (Err e) all X Y p h = h

-- the last level is forgotten
pub forgotten : (n : Annotation) (all : List Scope) (es : List Entry) (items ls : List Level) (l : Level) (f g : ℕ → Option ℕ) → items ≡ ls ++ l ∷ []
    → AreLevels n all (reverse items) (stacked [] (take (length items) es)) f → (r : Result (Unit {0}) AllocError)
    → OnOk r (g ≡ changed (text_number l.text) (name_number l.hides) f) → OnErr r (g ≡ f) → OnErr r (of_text f (text_number l.text) ≡ None)
    → AreLevels n all (reverse ls) (stacked [] (take (length ls) es)) g
forgotten n all es items ls l f g e h r ok err absent = by r ok err absent
  where
    none : Entry
    none = record { name = record { 0 = 0 }; until = None }

    short : length ls < length es
    short =
        let w = levels_within n all items es f h in
        let a = length-append ls (l ∷ []) in
        let b : length items ≡ length (ls ++ l ∷ []) = ap length e in
        omega arith

    down : AreLevels n all (l ∷ reverse ls) (entry_view (get_or es (length ls) none) ∷ stacked [] (take (length ls) es)) f
    down = level_down n all es ls l none f short (subst (λ ys. AreLevels n all (reverse ys) (stacked [] (take (length ys) es)) f) e h)

    by : (r : Result (Unit {0}) AllocError) → OnOk r (g ≡ changed (text_number l.text) (name_number l.hides) f) → OnErr r (g ≡ f)
        → OnErr r (of_text f (text_number l.text) ≡ None) → AreLevels n all (reverse ls) (stacked [] (take (length ls) es)) g
    by (Ok u) ok err absent = subst (AreLevels n all (reverse ls) (stacked [] (take (length ls) es))) (sym ok) down.2
    by (Err u) ok err absent = subst (AreLevels n all (reverse ls) (stacked [] (take (length ls) es)))
        (no_change (text_number l.text) (get_or es (length ls) none).name.0 (name_number l.hides) f down.1 absent ∙ sym err) down.2

module _ (m : Notes) (old new : List Scope) (grown : Longer old new) (b c : Bound) (entries : c.entries.items ≡ b.entries.items) (h : Fits m old b) where
  abbrev n : Annotation
  n = annotation_view m

  abbrev fits : List Entry → List Level → (ℕ → Option ℕ) → Type 0
  fits es ls f = AreLevels n new (reverse ls) (stacked [] (take (length ls) es)) f

  moved : fits b.entries.items c.levels.items (latest_in c.latest.entries) → Fits m new c
  moved k = let t = subst (λ es. fits es c.levels.items (latest_in c.latest.entries)) (sym entries) k in record { levels = t }

  kept : AreLevels n new (reverse b.levels.items) (stacked [] (take (length b.levels.items) b.entries.items)) (latest_in b.latest.entries)
  kept = levels_kept n old new grown (reverse b.levels.items) (stacked [] (take (length b.levels.items) b.entries.items)) (latest_in b.latest.entries) h.levels

  pub fits_same : c.levels.items ≡ b.levels.items → latest_in c.latest.entries ≡ latest_in b.latest.entries → Fits m new c
  fits_same levels latest = moved
      (subst (λ ls. fits b.entries.items ls (latest_in c.latest.entries)) (sym levels)
      (subst (λ f. fits b.entries.items b.levels.items f) (sym latest) kept))

  more_levels : (l : Level) (d : Entry) → length b.levels.items < length b.entries.items → c.levels.items ≡ b.levels.items ++ l ∷ []
      → latest_in c.latest.entries
      ≡ changed (text_number l.text) (Some (get_or b.entries.items (length b.levels.items) d).name.0) (latest_in b.latest.entries)
      → name_number l.hides ≡ of_text (latest_in b.latest.entries) (text_number l.text)
      → IsLevel n new (entry_view (get_or b.entries.items (length b.levels.items) d) ∷ stacked [] (take (length b.levels.items) b.entries.items))
      (changed (text_number l.text) (Some (get_or b.entries.items (length b.levels.items) d).name.0) (latest_in b.latest.entries)) l
      → Fits m new c
  more_levels l d more levels latest hides level = moved
      (subst (λ ls. fits b.entries.items ls (latest_in c.latest.entries)) (sym levels)
      (subst (λ f. fits b.entries.items (b.levels.items ++ l ∷ []) f) (sym latest) (level_up n new es ls l d g more (level, change_sets o x f, below))))
    where
      es : List Entry
      es = b.entries.items

      ls : List Level
      ls = b.levels.items

      x : ℕ
      x = (get_or es (length ls) d).name.0

      f : ℕ → Option ℕ
      f = latest_in b.latest.entries

      o : Option ℕ
      o = text_number l.text

      g : ℕ → Option ℕ
      g = changed o (Some x) f

      below : AreLevels n new (reverse ls) (stacked [] (take (length ls) es)) (changed o (name_number l.hides) g)
      below = subst (AreLevels n new (reverse ls) (stacked [] (take (length ls) es))) (sym (ap (λ y. changed o y g) hides ∙ change_back o (Some x) f)) kept

  pub fits_more : (l : Level) (e : Entry) → length b.levels.items < length b.entries.items → e ≡ get_or b.entries.items (length b.levels.items) e
      → c.levels.items ≡ b.levels.items ++ l ∷ []
      → latest_in c.latest.entries ≡ changed (text_number l.text) (Some e.name.0) (latest_in b.latest.entries)
      → name_number l.hides ≡ of_text (latest_in b.latest.entries) (text_number l.text)
      → IsLevel n new (entry_view e ∷ stacked [] (take (length b.levels.items) b.entries.items))
      (changed (text_number l.text) (Some e.name.0) (latest_in b.latest.entries)) l
      → Fits m new c
  fits_more l e more is levels latest hides level =
      let t = subst Last is (latest, level) in more_levels l e more levels t.0 hides t.1
    where
      Last : Entry → Type 0
      Last x = (latest_in c.latest.entries ≡ changed (text_number l.text) (Some x.name.0) (latest_in b.latest.entries))
          × IsLevel n new (entry_view x ∷ stacked [] (take (length b.levels.items) b.entries.items))
          (changed (text_number l.text) (Some x.name.0) (latest_in b.latest.entries)) l
