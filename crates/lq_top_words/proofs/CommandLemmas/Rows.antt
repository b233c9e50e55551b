-- The rows that a parse holds, beside what stands at the places of a line.
use Rattle.std.proofs.Common.{◌≡◌, ◌∙◌, ℕ, Bool, cond, true, false, not, refl, sym, ap, ap₂, subst, List, [], ◌∷◌, ◌++◌, append-nil, Option, Some, None, is_some, option_map, codes, ◌&&◌, ◌||◌}
use Rattle.std.specs.List.{find, list_any}
use Rattle.std.specs.Option.{option_or, option_map_or}
use Rattle.std.specs.Prelude.{option_and_then, slice_get}
use Rattle.std.specs.Str.{bytes_eq}
use Rattle.std.proofs.lemmas.List.Folds.{find-append}
use Rattle.clap.specs.Facts.{explicit_source}
use Rattle.clap.specs.Walk.{Row, Rule, Text, at_row, first_of, has_row, more_values, used}
use Rattle.clap.specs.Simple.{Shape, built}
use Rattle.clap.specs.Takes.{is_given}
use Rattle.clap.specs.Kinds.{Kinds}
use Rattle.clap.specs.Faults.{use_fault}
use Rattle.clap.specs.declared.builder.action.ArgAction.TheVariants.{Set, Help}
use Rattle.clap.specs.declared.builder.value_parser.ValueParser.TheVariants as vp
use Rattle.clap.specs.declared.builder.value_parser.Reading.TheVariants as reading
use Rattle.clap.specs.declared.parser.matches.ValueSource.TheVariants.{CommandLine}
use Rattle.lq_top_words.specs.Command.Line.{Line, Place, at_place, blank, put, the_measures, the_mode, the_pivots, the_quals, the_subject, with_place}
use Rattle.lq_top_words.specs.Command.Arguments.{arguments}

-- ---- the arguments, as they are built

abbrev pub id_of : Place → Text
id_of the_mode = codes "MODE"
id_of the_subject = codes "SUBJECT"
id_of the_quals = codes "quals"
id_of the_measures = codes "measures"
id_of the_pivots = codes "pivots"

abbrev pub long_name : Place → Option Text
long_name the_mode = None
long_name the_subject = None
long_name the_quals = Some (codes "quals")
long_name the_measures = Some (codes "measures")
long_name the_pivots = Some (codes "pivots")

abbrev pub index_of : Place → Option ℕ
index_of the_mode = Some 1
index_of the_subject = Some 2
index_of the_quals = None
index_of the_measures = None
index_of the_pivots = None

abbrev pub is_wanted : Place → Bool
is_wanted the_mode = true
is_wanted the_subject = true
is_wanted the_quals = false
is_wanted the_measures = false
is_wanted the_pivots = false

abbrev pub rule : Place → Rule
rule p = record {
  id = id_of p;
  long = long_name p;
  aliases = [];
  short = None;
  short_aliases = [];
  index = index_of p;
  action = Some Set;
  range = Some (record { start_inclusive = 1; end_inclusive = 1 });
  value_names = 0;
  defaults = [];
  missing = [];
  trailing_var_arg = false;
  parser = Some vp.String;
  ignore_case = false;
  required = is_wanted p;
  is_simple = true;
  is_free = true;
}

abbrev pub help : Rule
help = record {
  id = codes "help";
  long = Some (codes "help");
  aliases = [];
  short = Some 104;
  short_aliases = [];
  index = None;
  action = Some Help;
  range = Some (record { start_inclusive = 0; end_inclusive = 0 });
  value_names = 0;
  defaults = [];
  missing = [];
  trailing_var_arg = false;
  parser = Some vp.String;
  ignore_case = false;
  required = false;
  is_simple = true;
  is_free = true;
}

unfoldable pub the_rules : List Rule
the_rules = rule the_mode ∷ rule the_subject ∷ rule the_quals ∷ rule the_measures ∷ rule the_pivots ∷ help ∷ []

abbrev pub shape : Shape
shape = record {
  name = codes "lq";
  aliases = [];
  rules = the_rules;
  is_plain = true;
  is_leaf = true;
  no_binary_name = false;
  disable_help_flag = false;
  disable_help_subcommand = true;
  disable_version_flag = false;
  propagate_version = false;
  has_version = false;
  has_long_version = false;
  args_override_self = false;
  arg_required_else_help = false;
  subcommand_required = false;
  subcommand_negates_reqs = false;
  is_built = true;
}

pub built_is : (built arguments).top ≡ shape
unfolding the_rules arguments
built_is = refl

-- ---- rows

abbrev pub row : Place → Text → Row
row p text = record {
  id = id_of p;
  values = text ∷ [];
  count = None;
  source = Some CommandLine;
  reading = reading.AsWritten;
}

abbrev found_at : Place → List Row → Option Row
found_at p rows = find (λ r. bytes_eq r.id (id_of p)) rows

-- the rows have what stands at the places, and nothing else of these
pub record Agree (rows : List Row) (line : Line) : Type 0 where
  pub at : (p : Place) → found_at p rows ≡ option_map (row p) (at_place p line)

pub agree_blank : Agree [] blank
agree_blank = record { at = none }
  where
    none : (p : Place) → found_at p [] ≡ option_map (row p) (at_place p blank)
    none the_mode = refl
    none the_subject = refl
    none the_quals = refl
    none the_measures = refl
    none the_pivots = refl

any_found : {X : Type 0} (test : X → Bool) (xs : List X) → list_any test xs ≡ is_some (find test xs)
any_found test [] = refl
any_found test (x ∷ xs) = go (test x) (any_found test xs)
  where
    go : (b : Bool) → list_any test xs ≡ is_some (find test xs) → (b || list_any test xs) ≡ is_some (cond b (Some x) (find test xs))
    go true e = refl
    go false e = e

some_row : (p : Place) (o : Option Text) → is_some (option_map (row p) o) ≡ is_some o
some_row p None = refl
some_row p (Some t) = refl

pub has_row_at : (p : Place) (rows : List Row) (line : Line) → Agree rows line → has_row (id_of p) rows ≡ is_some (at_place p line)
has_row_at p rows line a = any_found (λ r. bytes_eq r.id (id_of p)) rows ∙ ap is_some (a.at p) ∙ some_row p (at_place p line)

given_row : (p : Place) (o : Option Text) → option_map_or (λ r. explicit_source r.source) (option_map (row p) o) false ≡ is_some o
given_row p None = refl
given_row p (Some t) = refl

pub given_at : (p : Place) (rows : List Row) (line : Line) → Agree rows line → is_given (id_of p) rows ≡ is_some (at_place p line)
given_at p rows line a = ap (λ o. option_map_or (λ (r : Row). explicit_source r.source) o false) (a.at p) ∙ given_row p (at_place p line)

first_row : (p : Place) (o : Option Text) → option_and_then (λ (r : Row). slice_get r.values 0) (option_map (row p) o) ≡ o
first_row p None = refl
first_row p (Some t) = refl

pub first_at : (p : Place) (rows : List Row) (line : Line) → Agree rows line → first_of (id_of p) rows ≡ at_place p line
first_at p rows line a = ap (option_and_then (λ (r : Row). slice_get r.values 0)) (a.at p) ∙ first_row p (at_place p line)

-- ---- one more row

at_row_none : (id : Text) (change : Row → List Row) (missing rows : List Row) → has_row id rows ≡ false → at_row id change missing rows ≡ rows ++ missing
at_row_none id change missing [] none = refl
at_row_none id change missing (r ∷ rs) none = go (bytes_eq r.id id) (λ e. at_row_none id change missing rs e) none
  where
    go : (b : Bool) → (has_row id rs ≡ false → at_row id change missing rs ≡ rs ++ missing) → (b || has_row id rs) ≡ false
        → cond b (change r ++ rs) (r ∷ at_row id change missing rs) ≡ r ∷ rs ++ missing
    go true more e = cc
    go false more e = ap (λ xs. r ∷ xs) (more e)

used_is : (p : Place) (text : Text) (rows : List Row) → has_row (id_of p) rows ≡ false → used (rule p) (text ∷ []) rows ≡ rows ++ row p text ∷ []
used_is p text rows none =
    let gone : at_row (id_of p) (λ _. []) [] rows ≡ rows = at_row_none (id_of p) (λ _. []) [] rows none ∙ append-nil rows in
    ap (at_row (id_of p) (more_values CommandLine (text ∷ [])) (row p text ∷ [])) gone
    ∙ at_row_none (id_of p) (more_values CommandLine (text ∷ [])) (row p text ∷ []) rows none

or_none : {X : Type 0} (o : Option X) → option_or o None ≡ o
or_none None = refl
or_none (Some x) = refl

-- the new row stands at its place alone
after_row : (p q : Place) (text : Text) (line : Line) → at_place p line ≡ None
    → option_or (option_map (row q) (at_place q line)) (cond (bytes_eq (id_of p) (id_of q)) (Some (row p text)) None)
    ≡ option_map (row q) (at_place q (with_place p text line))
after_row the_mode the_mode text line empty = rw empty refl
after_row the_mode q text line empty = or_none (option_map (row q) (at_place q line))
after_row the_subject the_subject text line empty = rw empty refl
after_row the_subject q text line empty = or_none (option_map (row q) (at_place q line))
after_row the_quals the_quals text line empty = rw empty refl
after_row the_quals q text line empty = or_none (option_map (row q) (at_place q line))
after_row the_measures the_measures text line empty = rw empty refl
after_row the_measures q text line empty = or_none (option_map (row q) (at_place q line))
after_row the_pivots the_pivots text line empty = rw empty refl
after_row the_pivots q text line empty = or_none (option_map (row q) (at_place q line))

pub agree_more : (p : Place) (text : Text) (rows : List Row) (line : Line) → Agree rows line → at_place p line ≡ None
    → Agree (rows ++ row p text ∷ []) (with_place p text line)
agree_more p text rows line a empty = record {
  at = λ q. find-append (λ r. bytes_eq r.id (id_of q)) rows (row p text ∷ [])
      ∙ ap (λ o. option_or o (cond (bytes_eq (id_of p) (id_of q)) (Some (row p text)) None)) (a.at q) ∙ after_row p q text line empty;
}

-- ---- what a use comes to

-- a parse with these kinds of failure and these rows goes as the line says
abbrev pub Meets : Kinds → List Row → Option Line → Type 0
Meets kinds rows None = kinds ≡ [] → ⊥
Meets kinds rows (Some line) = (kinds ≡ []) × Agree rows line

pub use_meets : (p : Place) (text : Text) (rows : List Row) (line : Line) → Agree rows line
    → Meets (use_fault false (rule p) (text ∷ []) rows) (used (rule p) (text ∷ []) rows) (put (Some p) text line)
use_meets p text rows line a = go (at_place p line) refl (has_row_at p rows line a)
  where
    go : (o : Option Text) → at_place p line ≡ o → has_row (id_of p) rows ≡ is_some (at_place p line)
        → Meets (use_fault false (rule p) (text ∷ []) rows) (used (rule p) (text ∷ []) rows) (cond (is_some o) None (Some (with_place p text line)))
    go None e has =
        let none : has_row (id_of p) rows ≡ false = has ∙ ap is_some e in
        (rw none refl, subst (λ rs. Agree rs (with_place p text line)) (sym (used_is p text rows none)) (agree_more p text rows line a e))
    go (Some t) e has =
        let full : has_row (id_of p) rows ≡ true = has ∙ ap is_some e in
        rw full (λ bad. cc)
