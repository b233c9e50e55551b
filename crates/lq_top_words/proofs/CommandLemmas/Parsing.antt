-- What a parse gives is what stands at the places of the line.
use Rattle.std.proofs.Common.{◌≡◌, ◌∙◌, ◌⊎◌, inl, inr, Bool, cond, true, false, not, refl, sym, ap, ap₂, subst, subst₂, List, [], ◌∷◌, ◌++◌, map, drop, length, Option, Some, None, is_some, ◌&&◌, ◌||◌, Result, Ok, Err, string_bytes, String, ℕ, IsUtf8}
use Rattle.std.specs.Prelude.{option_and_then, codes}
use Rattle.std.specs.List.{fold, list_any}
use Rattle.std.specs.Str.{bytes_eq}
use Rattle.std.proofs.lemmas.Str.{IsUtf8-string_bytes}
use Rattle.clap.specs.Walk.{Held, Walk, Row, Rule, Text, finished, first_of, has_row, is_empty, nothing_held, rows_after, rows_of, settled, walk, walk_from, walked, with_default, idle}
use Rattle.clap.specs.Simple.{App, Shape, argument_words, built, matches_of}
use Rattle.clap.specs.Takes.{is_given}
use Rattle.clap.specs.Kinds.{HasKind, IsAmong, Kinds, check_kinds, or_else}
use Rattle.clap.specs.Matches.{first_value}
use Rattle.clap.specs.Faults.{built_fault, check_fault, default_fault, defaults_fault, given_default_fault, fault_of, level_fault, settle_fault, walk_fault}
use Rattle.clap.specs.declared.error.kind.ErrorKind.{ErrorKind}
use Rattle.clap.specs.declared.error.kind.ErrorKind.TheVariants.{MissingRequiredArgument, OutOfMemory}
use Rattle.clap.specs.declared.error.Error.{Error}
use Rattle.clap.specs.Values.{kind_of}
use Rattle.clap.specs.declared.parser.matches.Found.{Found}
use Rattle.clap.proofs.FaultLemmas.{leaf_fault}
use Rattle.clap.proofs.WalkLemmas.{first_value-rows}
use Rattle.lq_top_words.specs.Command.Arguments.{arguments, line_found}
use Rattle.lq_top_words.specs.Command.Line.{Line, Place, at_place, blank, complete, filled, line_of, the_measures, the_mode, the_pivots, the_quals, the_subject}
use Rattle.lq_top_words.specs.Command.Pieces.{pieces}
use Rattle.lq_top_words.proofs.CommandLemmas.Rows.{Agree, Meets, agree_blank, built_is, first_at, given_at, help, id_of, rule, shape, the_rules}
use Rattle.lq_top_words.proofs.CommandLemmas.Walking.{AreTexts, Fits, all_fits}

-- ---- behind the walk

no_default_of : (p : Place) (rows : List Row) → default_fault rows (rule p) ≡ []
no_default_of p rows = go (has_row (rule p).id rows)
  where
    go : (b : Bool) → cond (b || true) [] (given_default_fault (rule p) []) ≡ []
    go true = refl
    go false = refl

-- no argument has a default
no_defaults_of : (ps : List Place) (rows : List Row) → defaults_fault rows (map rule ps ++ help ∷ []) ≡ []
unfolding defaults_fault
no_defaults_of [] rows = go (has_row help.id rows)
  where
    go : (b : Bool) → or_else (cond (b || true) [] (given_default_fault help [])) [] ≡ []
    go true = refl
    go false = refl
no_defaults_of (p ∷ ps) rows = ap₂ or_else (no_default_of p rows) (no_defaults_of ps (with_default rows (rule p)))

no_defaults : (rows : List Row) → defaults_fault rows the_rules ≡ []
unfolding the_rules
no_defaults rows = no_defaults_of (the_mode ∷ the_subject ∷ the_quals ∷ the_measures ∷ the_pivots ∷ []) rows

kept_of : (ps : List Place) (rows : List Row) → fold with_default rows (map rule ps ++ help ∷ []) ≡ rows
kept_of [] rows = go (has_row help.id rows)
  where
    go : (b : Bool) → cond b rows rows ≡ rows
    go true = refl
    go false = refl
kept_of (p ∷ ps) rows = ap (λ (rs : List Row). fold with_default rs (map rule ps ++ help ∷ [])) (go (has_row (rule p).id rows)) ∙ kept_of ps rows
  where
    go : (b : Bool) → cond b rows rows ≡ rows
    go true = refl
    go false = refl

kept : (rows : List Row) → fold with_default rows the_rules ≡ rows
unfolding the_rules
kept rows = kept_of (the_mode ∷ the_subject ∷ the_quals ∷ the_measures ∷ the_pivots ∷ []) rows

-- both words are wanted
checks : (rows : List Row) → check_fault shape rows false
    ≡ cond (not (is_given (codes "MODE") rows) || (not (is_given (codes "SUBJECT") rows) || false)) (MissingRequiredArgument ∷ []) []
unfolding the_rules
checks rows = refl

-- ---- the whole parse

-- a parse with these kinds of failure and these rows gives the line
abbrev Ends : Kinds → List Row → Option Line → Type 0
Ends kinds rows None = kinds ≡ [] → ⊥
Ends kinds rows (Some line) = (kinds ≡ []) × Agree rows line × (complete line ≡ Some line)

ends_line : (rows : List Row) (line : Line) → Agree rows line → Ends (check_fault shape rows false) rows (complete line)
ends_line rows line a =
    subst (λ (ks : Kinds). Ends ks rows (complete line))
    (sym (checks rows ∙ ap₂ (λ (m s : Bool). cond (not m || (not s || false)) (MissingRequiredArgument ∷ []) []) (given_at the_mode rows line a) (given_at the_subject rows line a)))
    (by_two (is_some line.mode) (is_some line.subject) refl refl)
  where
    by_two : (m s : Bool) → m ≡ is_some line.mode → s ≡ is_some line.subject
        → Ends (cond (not m || (not s || false)) (MissingRequiredArgument ∷ []) []) rows (cond (m && s) (Some line) None)
    by_two true true em es = (refl, a, ap₂ (λ (m s : Bool). cond (m && s) (Some line) None) (sym em) (sym es))
    by_two true false em es = λ e. cc
    by_two false s em es = λ e. cc

nil_of_both : (a b c : Kinds) → or_else a (or_else b c) ≡ [] → or_else a b ≡ []
nil_of_both [] [] c e = refl
nil_of_both [] (k ∷ ks) c e = cc
nil_of_both (k ∷ ks) b c e = cc

nil_first : (a b : Kinds) → or_else a b ≡ [] → a ≡ []
nil_first [] b e = refl
nil_first (k ∷ ks) b e = cc

nil_second : (a b : Kinds) → or_else a b ≡ [] → b ≡ []
nil_second [] b e = e
nil_second (k ∷ ks) b e = cc

ends_by : (a b : Kinds) (rows : List Row) (spec : Option Line) → Meets (or_else a b) rows spec
    → Ends (or_else a (or_else b (check_fault shape rows false))) rows (option_and_then complete spec)
ends_by a b rows None m = λ e. m (nil_of_both a b (check_fault shape rows false) e)
ends_by a b rows (Some line) m =
    subst (λ (ks : Kinds). Ends ks rows (complete line))
    (sym (ap₂ (λ (x y : Kinds). or_else x (or_else y (check_fault shape rows false))) (nil_first a b m.0) (nil_second a b m.0))) (ends_line rows line m.1)

abbrev start : Walk
start = walk_from nothing_held

abbrev end_of : List Text → Held
end_of words = (fold (walked the_rules []) start words).held

fault_is : (words : List Text) → fault_of arguments words
    ≡ or_else (walk_fault shape [] start (drop 1 words)) (or_else (settle_fault the_rules false (end_of (drop 1 words)))
    (check_fault shape (settled the_rules (end_of (drop 1 words))).rows false))
unfolding arguments
fault_is words =
    let h : Held = end_of (drop 1 words) in
    leaf_fault (built arguments) nothing_held (drop 1 words) refl ∙ ap (λ (s : Shape). level_fault s [] nothing_held (drop 1 words) false []) built_is
    ∙ ap₂ (λ (d : Kinds) (rs : List Row). or_else (walk_fault shape [] start (drop 1 words)) (or_else (settle_fault the_rules false h) (or_else d (check_fault shape rs false))))
    (no_defaults (settled the_rules h).rows) (kept (settled the_rules h).rows)

matches_are : (words : List Text) → matches_of arguments words ≡ (settled the_rules (end_of (drop 1 words))).rows
unfolding arguments
matches_are words =
    ap (λ (s : Shape). rows_after s.rules [] (drop 1 words)) built_is ∙ kept (settled the_rules (end_of (drop 1 words))).rows

whole : (words : List Text) → AreTexts (drop 1 words) → Ends (fault_of arguments words) (matches_of arguments words) (line_of words)
whole words u =
    let h : Held = end_of (drop 1 words) in
    let fits : Fits start (drop 1 words) (option_and_then (λ ps. filled ps blank) (pieces (drop 1 words) None)) = all_fits (drop 1 words) u in
    subst₂ (λ (ks : Kinds) (rs : List Row). Ends ks rs (line_of words)) (sym (fault_is words)) (sym (matches_are words))
    (ends_by (walk_fault shape [] start (drop 1 words)) (settle_fault the_rules false h) (settled the_rules h).rows
    (option_and_then (λ ps. filled ps blank) (pieces (drop 1 words) None)) fits.goes)

-- ---- what the caller asks

pub are_texts : {Z : Type 0} (words : List (String Z)) → AreTexts (drop 1 (map string_bytes words))
are_texts [] = tt
are_texts {Z} (word ∷ rest) = each rest
  where
    each : (words : List (String Z)) → AreTexts (map string_bytes words)
    each [] = tt
    each (word ∷ rest) = (IsUtf8-string_bytes word, each rest)

pub parsed_line : (f : Found) (words : List Text) → AreTexts (drop 1 words) → rows_of f ≡ matches_of arguments words → fault_of arguments words ≡ []
    → complete (line_found f) ≡ line_of words
parsed_line f words u rows none = go (line_of words) (whole words u)
  where
    go : (spec : Option Line) → Ends (fault_of arguments words) (matches_of arguments words) spec → complete (line_found f) ≡ spec
    go None m = absurd (m none)
    go (Some line) m = ap complete same ∙ m.2
      where
        found : (p : Place) → first_value f (id_of p) ≡ at_place p line
        found p = first_value-rows f (id_of p) ∙ ap (first_of (id_of p)) rows ∙ first_at p (matches_of arguments words) line m.1

        same : line_found f ≡ line
        same = λ i. record {
          mode = found the_mode i;
          subject = found the_subject i;
          quals = found the_quals i;
          measures = found the_measures i;
          pivots = found the_pivots i;
        }

pub failed_line : (e : Error) (words : List Text) → AreTexts (drop 1 words) → HasKind (fault_of arguments words) e → (kind_of e ≡ OutOfMemory → ⊥)
    → None ≡ line_of words
failed_line e words u kinds other = go (line_of words) (whole words u)
  where
    go : (spec : Option Line) → Ends (fault_of arguments words) (matches_of arguments words) spec → None ≡ spec
    go None m = refl
    go (Some line) m = absurd (elim kinds [
      | inl memory ↦ other memory
      | inr among ↦ subst (IsAmong (kind_of e)) m.0 among
    ])
