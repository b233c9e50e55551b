-- The walk of a parse over the words goes as their pieces say.
use Rattle.std.proofs.Common.{◌≡◌, ◌∙◌, ◌⊎◌, inl, inr, ℕ, zero, suc, Bool, cond, true, false, not, refl, sym, ap, ap₂, subst, subst₂, List, [], ◌∷◌, ◌++◌, map, length, drop, Option, Some, None, is_some, option_map, codes, ◌&&◌, ◌||◌, ◌+◌, ◌==◌, min, IsUtf8, chars, bytes_eq}
use Rattle.std.specs.Prelude.{option_and_then, slice_get}
use Rattle.std.specs.Char.{encode_utf8}
use Rattle.std.specs.List.{find, fold}
use Rattle.std.specs.Option.{option_map_or}
use Rattle.std.specs.Str.{chars as chars_of}
use Rattle.std.proofs.lemmas.Str.{encodes-chars}
use Rattle.std.proofs.lemmas.Slice.Eq.{bytes_eq-Decides}
use Rattle.clap.specs.Lexer.{long_of, short_of, short_of_rest, usize_max}
use Rattle.std.specs.Str.{encode_utf8_all}
use Rattle.std.proofs.lemmas.Bool.{eqb-true}
use Rattle.clap.specs.Walk.{Held, Outcome, after_flag, long_met, long_word, option_word, plain_word, short_or_plain, short_word, subcommand_met, Row, Rule, Step, Text, Waiting, Walk, after_step, arg_by_id, arg_by_index, arg_by_long, arg_by_short, idle, is_pending, long_or_other, next, option, positional_held, pushed, reacted, settled, subcommand_or_other, takes_several, takes_values, to_positional, trailing, used, used_by_id, value, walked, word_met}
use Rattle.clap.specs.Kinds.{Kinds, or_else}
use Rattle.clap.specs.declared.error.kind.ErrorKind.TheVariants.{DisplayHelp, TooManyValues, UnknownArgument}
use Rattle.clap.specs.Faults.{bundle_fault, bundle_step_fault, flag_word_fault, flags_fault, long_fault, option_fault, other_fault, positional_fault, react_fault, settle_fault, short_fault, step_fault, turn_fault, use_fault, walk_fault, word_fault}
use Rattle.lq_top_words.specs.Command.Pieces.{Look, Piece, dashes, given, hyphened, long, look, met, pieces, plain, short, single}
use Rattle.lq_top_words.specs.Command.Line.{Line, Place, at_place, blank, filled, next_place, place_named, place_of, put, text_of, the_measures, the_mode, the_pivots, the_quals, the_subject, with_place}
use Rattle.lq_top_words.proofs.CommandLemmas.Rows.{Agree, Meets, agree_blank, help, id_of, rule, shape, the_rules, use_meets}

-- ---- which arguments the rules give

pub by_id : (p : Place) → arg_by_id the_rules (id_of p) ≡ Some (rule p)
unfolding the_rules
by_id the_mode = refl
by_id the_subject = refl
by_id the_quals = refl
by_id the_measures = refl
by_id the_pivots = refl

pub by_index : (i : ℕ) → arg_by_index the_rules i ≡ cond (1 == i) (Some (rule the_mode)) (cond (2 == i) (Some (rule the_subject)) None)
unfolding the_rules
by_index i = refl

by_short : (x : ℕ) → arg_by_short the_rules x ≡ cond (104 == x) (Some help) None
unfolding the_rules
by_short x = go (104 == x)
  where
    go : (b : Bool) → cond (b || false) (Some help) None ≡ cond b (Some help) None
    go true = refl
    go false = refl

-- an option by its name: one with a value, help or none
data Named (name : Text) : Type 0 where
  known : (p : Place) → place_named name ≡ Some p → arg_by_long the_rules name ≡ Some (rule p) → name ≡ id_of p → Named name
  asks : place_named name ≡ None → arg_by_long the_rules name ≡ Some help → Named name
  unknown : place_named name ≡ None → arg_by_long the_rules name ≡ None → Named name

by_name : (name : Text) → Named name
unfolding the_rules
by_name name = go (bytes_eq (codes "quals") name) refl (bytes_eq (codes "measures") name) refl (bytes_eq (codes "pivots") name) refl (bytes_eq (codes "help") name) refl
  where
    go : (q : Bool) → bytes_eq (codes "quals") name ≡ q → (m : Bool) → bytes_eq (codes "measures") name ≡ m → (p : Bool) → bytes_eq (codes "pivots") name ≡ p
        → (h : Bool) → bytes_eq (codes "help") name ≡ h → Named name
    go true q m em p ep h eh = known the_quals (rw q refl) (rw q refl) (sym ((bytes_eq-Decides (codes "quals") name).0 q))
    go false q true em p ep h eh = known the_measures (rw (q, em) refl) (rw (q, em) refl) (sym ((bytes_eq-Decides (codes "measures") name).0 em))
    go false q false em true ep h eh = known the_pivots (rw (q, em, ep) refl) (rw (q, em, ep) refl) (sym ((bytes_eq-Decides (codes "pivots") name).0 ep))
    go false q false em false ep true eh = asks (rw (q, em, ep) refl) (rw (q, em, ep, eh) refl)
    go false q false em false ep false eh = unknown (rw (q, em, ep) refl) (rw (q, em, ep, eh) refl)

-- ---- kinds

either_fails : (a b : Kinds) → (a ≡ [] → ⊥) → or_else a b ≡ [] → ⊥
either_fails [] b bad e = bad refl
either_fails (k ∷ ks) b bad e = cc

later_fails : (a b : Kinds) → (b ≡ [] → ⊥) → or_else a b ≡ [] → ⊥
later_fails [] b bad e = bad e
later_fails (k ∷ ks) b bad e = cc

or_else_assoc : (a b c : Kinds) → or_else (or_else a b) c ≡ or_else a (or_else b c)
or_else_assoc [] b c = refl
or_else_assoc (k ∷ ks) b c = refl

-- ---- the state between two words

abbrev held : List Row → Option (Text × List Text) → Held
held rows pending = record { rows = rows; pending = pending; skip = 0 }

abbrev stand_at : List Row → Option (Text × List Text) → Waiting → ℕ → Bool → Walk
stand_at rows pending waiting position is_trailing = record {
  held = held rows pending;
  waiting = waiting;
  position = position;
  is_trailing = is_trailing;
  stopped = None;
}

abbrev kinds_from : Walk → List Text → Kinds
kinds_from w words = or_else (walk_fault shape [] w words) (settle_fault the_rules false (fold (walked the_rules []) w words).held)

abbrev rows_from : Walk → List Text → List Row
rows_from w words = (settled the_rules (fold (walked the_rules []) w words).held).rows

-- the parse from here on goes as the line says
pub record Fits (w : Walk) (words : List Text) (line : Option Line) : Type 0 where
  pub goes : Meets (kinds_from w words) (rows_from w words) line

-- the same, with what the word before it comes to
record Goes (kinds : Kinds) (w : Walk) (words : List Text) (line : Option Line) : Type 0 where
  goes : Meets (or_else kinds (kinds_from w words)) (rows_from w words) line

turned : (w : Walk) (word : Text) (rest : List Text) (line : Option Line) → Goes (turn_fault shape [] w word) (walked the_rules [] w word) rest line
    → Fits w (word ∷ rest) line
unfolding walk_fault
turned w word rest line g = record {
  goes = subst (λ (ks : Kinds). Meets ks (rows_from (walked the_rules [] w word) rest) line)
      (sym (or_else_assoc (turn_fault shape [] w word) (walk_fault shape [] (walked the_rules [] w word) rest) (settle_fault the_rules false (fold (walked the_rules []) (walked the_rules [] w word) rest).held)))
      g.goes;
}

go_on : (kinds : Kinds) (w : Walk) (words : List Text) (line : Option Line) → kinds ≡ [] → Fits w words line → Goes kinds w words line
go_on kinds w words line e f = record { goes = subst (λ (ks : Kinds). Meets (or_else ks (kinds_from w words)) (rows_from w words) line) (sym e) f.goes }

go_wrong : (kinds : Kinds) (w : Walk) (words : List Text) → (kinds ≡ [] → ⊥) → Goes kinds w words None
go_wrong kinds w words bad = record { goes = either_fails kinds (kinds_from w words) bad }

-- ---- the pieces of the rest, put to a line

abbrev put_all : Option (List Piece) → Option Line → Option Line
put_all ps None = None
put_all ps (Some line) = option_and_then (λ qs. filled qs line) ps

none_put : (st : Option Line) → None ≡ put_all None st
none_put None = refl
none_put (Some line) = refl

some_put : (qs : List Piece) (st : Option Line) → option_and_then (filled qs) st ≡ put_all (Some qs) st
some_put qs None = refl
some_put qs (Some line) = refl

piece_first : (p : Piece) (line : Line) (ps : Option (List Piece))
    → put_all (option_map (λ qs. p ∷ qs) ps) (Some line) ≡ put_all ps (put (place_of p line) (text_of p) line)
piece_first p line None = none_put (put (place_of p line) (text_of p) line)
piece_first p line (Some qs) = some_put qs (put (place_of p line) (text_of p) line)

-- where the next word by itself goes
data At (position : ℕ) (line : Line) : Type 0 where
  first : position ≡ 1 → line.mode ≡ None → line.subject ≡ None → At position line
  second : position ≡ 2 → is_some line.mode ≡ true → line.subject ≡ None → At position line
  third : position ≡ 3 → is_some line.mode ≡ true → is_some line.subject ≡ true → At position line

abbrev Placed : ℕ → Option Line → Type 0
Placed position None = Unit {0}
Placed position (Some line) = At position line

record Stands (h : Held) (position : ℕ) (st : Option Line) : Type 0 where
  meets : Meets (settle_fault the_rules false h) (settled the_rules h).rows st
  placed : Placed position st

pending_meets : (p : Place) (text : Text) (rows : List Row) (line : Line) → Agree rows line
    → Meets (settle_fault the_rules false (held rows (Some (id_of p, text ∷ [])))) (settled the_rules (held rows (Some (id_of p, text ∷ [])))).rows (put (Some p) text line)
pending_meets p text rows line a =
    subst (λ (o : Option Rule). Meets (option_map_or (λ r. use_fault false r (text ∷ []) rows) o []) (used_by_id o (text ∷ []) rows) (put (Some p) text line))
    (sym (by_id p)) (use_meets p text rows line a)

-- ---- a word by itself

positional_is : (p : Place) (h : Held) → positional_fault the_rules false (rule p) h ≡ settle_fault the_rules false h
positional_is p h = go (is_pending (rule p) h.pending)
  where
    go : (b : Bool) → cond (b && false) [] (settle_fault the_rules false h) ≡ settle_fault the_rules false h
    go true = refl
    go false = refl

held_is : (p : Place) (word : Text) (h : Held) → positional_held the_rules (rule p) word h ≡ pushed (id_of p) word (settled the_rules h)
held_is p word h = go (is_pending (rule p) h.pending)
  where
    go : (b : Bool) → pushed (id_of p) word (cond (b && false) h (settled the_rules h)) ≡ pushed (id_of p) word (settled the_rules h)
    go true = refl
    go false = refl

or_false : (b : Bool) → (b || false) ≡ b
or_false true = refl
or_false false = refl

abbrev to_place : Walk → Text → Walk
to_place w word = to_positional the_rules (arg_by_index the_rules w.position) word w w.held

stray_fails : (position : ℕ) (h : Held) → (settle_fault the_rules false h ≡ [] → ⊥) → step_fault shape position h value ≡ [] → ⊥
stray_fails position h bad e = go (1 == position) (2 == position) (rw (by_index position) at e)
  where
    go : (a b : Bool) → option_map_or (λ r. positional_fault the_rules false r h) (cond a (Some (rule the_mode)) (cond b (Some (rule the_subject)) None)) (UnknownArgument ∷ []) ≡ []
        → ⊥
    go true b e = bad (sym (positional_is the_mode h) ∙ e)
    go false true e = bad (sym (positional_is the_subject h) ∙ e)
    go false false e = cc

-- a word by itself comes to the place p
comes_to : (p : Place) (rows : List Row) (pending : Option (Text × List Text)) (waiting : Waiting) (position : ℕ) (dashed : Bool) (word : Text) (rest : List Text)
    (line : Line) (ps : Option (List Piece)) → settle_fault the_rules false (held rows pending) ≡ [] → Agree (settled the_rules (held rows pending)).rows line
    → arg_by_index the_rules position ≡ Some (rule p) → next_place line ≡ Some p → Placed (min (position + 1) usize_max) (put (Some p) word line)
    → ((rows' : List Row) (pending' : Option (Text × List Text)) (position' : ℕ) (st : Option Line) → Stands (held rows' pending') position' st
    → Fits (stand_at rows' pending' idle position' dashed) rest (put_all ps st))
    → Goes (step_fault shape position (held rows pending) value) (to_place (stand_at rows pending waiting position dashed) word) rest
    (put_all (option_map (λ qs. single word ∷ qs) ps) (Some line))
comes_to p rows pending waiting position dashed word rest line ps none agree arg there placed more =
    let h : Held = held rows pending in
    let w : Walk = stand_at rows pending waiting position dashed in
    let after : Walk = stand_at (settled the_rules h).rows (Some (id_of p, word ∷ [])) idle (min (position + 1) usize_max) dashed in
    let st : Option Line = put (Some p) word line in
    let fits : Fits after rest (put_all ps st) = more (settled the_rules h).rows (Some (id_of p, word ∷ [])) (min (position + 1) usize_max) st
    (record { meets = pending_meets p word (settled the_rules h).rows line agree; placed = placed }) in
    let kinds_is : step_fault shape position h value ≡ [] =
    ap (λ (o : Option Rule). option_map_or (λ r. positional_fault the_rules false r h) o (UnknownArgument ∷ [])) arg ∙ (positional_is p h ∙ none) in
    let walk_is : to_place w word ≡ after = ap (λ (o : Option Rule). to_positional the_rules o word w h) arg
    ∙ ap₂ (λ (k : Held) (b : Bool). record {
      held = k;
      waiting = idle;
      position = min (position + 1) usize_max;
      is_trailing = b;
      stopped = None;
    }) (held_is p word h) (or_false dashed) in
    let line_is : put_all (option_map (λ qs. single word ∷ qs) ps) (Some line) ≡ put_all ps st =
    piece_first (single word) line ps ∙ ap (λ (o : Option Place). put_all ps (put o word line)) there in
    go_on (step_fault shape position h value) (to_place w word) rest (put_all (option_map (λ qs. single word ∷ qs) ps) (Some line)) kinds_is
    (subst (λ (k : Walk). Fits k rest (put_all (option_map (λ qs. single word ∷ qs) ps) (Some line))) (sym walk_is)
    (subst (λ (l : Option Line). Fits after rest l) (sym line_is) fits))

stand : (rows : List Row) (pending : Option (Text × List Text)) (waiting : Waiting) (position : ℕ) (dashed : Bool) (word : Text) (rest : List Text)
    (st : Option Line) (ps : Option (List Piece)) → Stands (held rows pending) position st
    → ((rows' : List Row) (pending' : Option (Text × List Text)) (position' : ℕ) (st' : Option Line) → Stands (held rows' pending') position' st'
    → Fits (stand_at rows' pending' idle position' dashed) rest (put_all ps st'))
    → Goes (step_fault shape position (held rows pending) value) (to_place (stand_at rows pending waiting position dashed) word) rest
    (put_all (option_map (λ qs. single word ∷ qs) ps) st)
stand rows pending waiting position dashed word rest None ps s more =
    go_wrong (step_fault shape position (held rows pending) value) (to_place (stand_at rows pending waiting position dashed) word) rest
    (stray_fails position (held rows pending) s.meets)
stand rows pending waiting position dashed word rest (Some line) ps s more = place s.placed
  where
    w : Walk
    w = stand_at rows pending waiting position dashed

    kinds : Kinds
    kinds = step_fault shape position (held rows pending) value

    place : At position line → Goes (step_fault shape position (held rows pending) value) (to_place (stand_at rows pending waiting position dashed) word) rest
        (put_all (option_map (λ qs. single word ∷ qs) ps) (Some line))
    place (first i m b) =
        let arg : arg_by_index the_rules position ≡ Some (rule the_mode) =
        by_index position ∙ ap (λ (k : ℕ). cond (1 == k) (Some (rule the_mode)) (cond (2 == k) (Some (rule the_subject)) None)) i in
        let there : next_place line ≡ Some the_mode =
        ap (λ (o : Option Text). cond (not (is_some o)) (Some the_mode) (cond (not (is_some line.subject)) (Some the_subject) None)) m in
        let at : At (min (position + 1) usize_max) (with_place the_mode word line) = second (ap (λ (k : ℕ). min (k + 1) usize_max) i) refl b in
        comes_to the_mode rows pending waiting position dashed word rest line ps s.meets.0 s.meets.1 arg there
        (subst (λ (o : Option Text). Placed (min (position + 1) usize_max) (cond (is_some o) None (Some (with_place the_mode word line)))) (sym m) at) more
    place (second i m b) =
        let arg : arg_by_index the_rules position ≡ Some (rule the_subject) =
        by_index position ∙ ap (λ (k : ℕ). cond (1 == k) (Some (rule the_mode)) (cond (2 == k) (Some (rule the_subject)) None)) i in
        let there : next_place line ≡ Some the_subject =
        ap₂ (λ (x : Bool) (o : Option Text). cond (not x) (Some the_mode) (cond (not (is_some o)) (Some the_subject) None)) m b in
        let at : At (min (position + 1) usize_max) (with_place the_subject word line) = third (ap (λ (k : ℕ). min (k + 1) usize_max) i) m refl in
        comes_to the_subject rows pending waiting position dashed word rest line ps s.meets.0 s.meets.1 arg there
        (subst (λ (o : Option Text). Placed (min (position + 1) usize_max) (cond (is_some o) None (Some (with_place the_subject word line)))) (sym b) at) more
    place (third i m b) =
        let arg : arg_by_index the_rules position ≡ None =
        by_index position ∙ ap (λ (k : ℕ). cond (1 == k) (Some (rule the_mode)) (cond (2 == k) (Some (rule the_subject)) None)) i in
        let there : next_place line ≡ None =
        ap₂ (λ (x y : Bool). cond (not x) (Some the_mode) (cond (not y) (Some the_subject) None)) m b in
        let kinds_is : step_fault shape position (held rows pending) value ≡ UnknownArgument ∷ [] =
        ap (λ (o : Option Rule). option_map_or (λ r. positional_fault the_rules false r (held rows pending)) o (UnknownArgument ∷ [])) arg in
        let line_is : put_all (option_map (λ qs. single word ∷ qs) ps) (Some line) ≡ None =
        piece_first (single word) line ps ∙ ap (λ (o : Option Place). put_all ps (put o word line)) there in
        subst (λ (l : Option Line). Goes (step_fault shape position (held rows pending) value) (to_place (stand_at rows pending waiting position dashed) word) rest l) (sym line_is)
        (go_wrong (step_fault shape position (held rows pending) value) (to_place (stand_at rows pending waiting position dashed) word) rest
        (λ e. let bad : UnknownArgument ∷ [] ≡ [] = sym kinds_is ∙ e in cc))

end_meets : (kinds : Kinds) (rows : List Row) (st : Option Line) → Meets kinds rows st → Meets kinds rows (put_all (Some []) st)
end_meets kinds rows None m = m
end_meets kinds rows (Some line) m = m

-- behind `--`
trail : (words : List Text) (rows : List Row) (pending : Option (Text × List Text)) (waiting : Waiting) (position : ℕ) (st : Option Line)
    → Stands (held rows pending) position st → Fits (stand_at rows pending waiting position true) words (put_all (Some (map single words)) st)
unfolding walk_fault walked
trail [] rows pending waiting position st s = record { goes = end_meets (settle_fault the_rules false (held rows pending)) (settled the_rules (held rows pending)).rows st s.meets }
trail (word ∷ rest) rows pending waiting position st s =
    turned (stand_at rows pending waiting position true) word rest (put_all (Some (map single (word ∷ rest))) st)
    (stand rows pending waiting position true word rest st (Some (map single rest)) s (λ r p i st' s'. trail rest r p idle i st' s'))

-- ---- words that are no values

empty_fails : (p : Place) (rows : List Row) → settle_fault the_rules false (held rows (Some (id_of p, []))) ≡ [] → ⊥
empty_fails p rows e =
    let bad : use_fault false (rule p) [] rows ≡ [] = sym (ap (λ (o : Option Rule). option_map_or (λ r. use_fault false r [] rows) o []) (by_id p)) ∙ e in
    cc

long_fails : (found : Option Rule) (v : Option Text) (h : Held) → (settle_fault the_rules false h ≡ [] → ⊥) → long_fault the_rules false found v h ≡ [] → ⊥
long_fails None v h bad e = cc
long_fails (Some a) v h bad e = go (takes_values a) v e
  where
    go : (b : Bool) (v : Option Text)
        → cond b (option_fault the_rules false a v h) (cond (is_some v) (TooManyValues ∷ []) (react_fault the_rules false a [] h)) ≡ [] → ⊥
    go true None e = bad e
    go true (Some t) e = either_fails (settle_fault the_rules false h) (use_fault false a (t ∷ []) (settled the_rules h).rows) bad e
    go false None e = either_fails (settle_fault the_rules false h) (use_fault false a [] (settled the_rules h).rows) bad e
    go false (Some t) e = cc

help_fails : (v : Option Text) (h : Held) → long_fault the_rules false (Some help) v h ≡ [] → ⊥
help_fails None h e = later_fails (settle_fault the_rules false h) (DisplayHelp ∷ []) (λ bad. cc) e
help_fails (Some t) h e = cc

-- the text begins with a character
abbrev Spelled : Text → Type 0
Spelled flags = (f : ℕ) × (fs : Text) × (flags ≡ f ∷ fs) × (y : ℕ) × (ys : List ℕ) × (chars_of (f ∷ fs) ≡ y ∷ ys)

asked_fails : (b : Bool) (rest : Text) (h : Held) (then : Held → Kinds) → short_fault the_rules false (cond b (Some help) None) rest h then ≡ [] → ⊥
asked_fails true rest h then e =
    either_fails (react_fault the_rules false help [] h) (then (reacted the_rules help [] h))
    (later_fails (settle_fault the_rules false h) (DisplayHelp ∷ []) (λ bad. cc)) e
asked_fails false rest h then e = cc

short_fails : (flags : Text) (rows : List Row) (pending : Option (Text × List Text)) → Spelled flags → bundle_fault the_rules false flags (held rows pending) ≡ [] → ⊥
unfolding flags_fault
short_fails flags rows pending s e = starts (subst (λ (t : Text). bundle_fault the_rules false t (held rows pending) ≡ []) s.2 e)
  where
    step : (y : ℕ) (rest : Text) → short_fault the_rules false (arg_by_short the_rules y) rest (held rows pending) (flags_fault the_rules false (length s.1) rest 0) ≡ [] → ⊥
    step y rest e = asked_fails (104 == y) rest (held rows pending) (flags_fault the_rules false (length s.1) rest 0)
        (subst (λ (o : Option Rule). short_fault the_rules false o rest (held rows pending) (flags_fault the_rules false (length s.1) rest 0) ≡ []) (by_short y) e)

    starts : bundle_fault the_rules false (s.0 ∷ s.1) (held rows pending) ≡ [] → ⊥
    starts e = step s.3 (drop (length (encode_utf8 s.3)) (s.0 ∷ s.1))
        (subst (λ (cs : List ℕ). bundle_step_fault the_rules false (slice_get cs 0) (s.0 ∷ s.1) 0 (held rows pending) (flags_fault the_rules false (length s.1)) ≡ []) s.5 e)

has_character : (y : ℕ) (ys : Text) → IsUtf8 (45 ∷ y ∷ ys) → (z : ℕ) × (zs : List ℕ) × (chars_of (y ∷ ys) ≡ z ∷ zs)
unfolding chars_of encode_utf8
has_character y ys u = go (chars_of (y ∷ ys)) refl
  where
    go : (cs : List ℕ) → chars_of (y ∷ ys) ≡ cs → (z : ℕ) × (zs : List ℕ) × (chars_of (y ∷ ys) ≡ z ∷ zs)
    go (z ∷ zs) e = (z, zs, e)
    go [] e =
        let bad : 45 ∷ [] ≡ 45 ∷ y ∷ ys = sym (ap (λ (cs : List ℕ). encode_utf8_all (45 ∷ cs)) e) ∙ encodes-chars (45 ∷ y ∷ ys) u in
        cc

-- a word that begins with one hyphen, of a text, goes on with a character
pub spelled : (word flags : Text) → IsUtf8 word → short_of word ≡ Some flags → Spelled flags
spelled [] flags u e = cc
spelled (x ∷ xs) flags u e = hyphen (x == 45) refl xs u e
  where
    named : (y : ℕ) (ys : Text) → flags ≡ y ∷ ys → IsUtf8 (45 ∷ y ∷ ys) → Spelled flags
    named y ys same u = let c = has_character y ys u in (y, ys, same, c.0, c.1, c.2)

    behind : (b : Bool) (y : ℕ) (ys : Text) → IsUtf8 (45 ∷ y ∷ ys) → cond b None (Some (y ∷ ys)) ≡ Some flags → Spelled flags
    behind true y ys u e = cc
    behind false y ys u e = named y ys (cc) u

    hyphen : (b : Bool) → (x == 45) ≡ b → (xs : Text) → IsUtf8 (x ∷ xs) → option_and_then short_of_rest (cond b (Some xs) None) ≡ Some flags → Spelled flags
    hyphen false is xs u e = cc
    hyphen true is [] u e = cc
    hyphen true is (y ∷ ys) u e = behind (y == 45) y ys (subst (λ (z : ℕ). IsUtf8 (z ∷ y ∷ ys)) (eqb-true x 45 is) u) e

-- ---- what the pieces of other words come to

no_long : (name : Text) (v : Option Text) (word waiting : Text) (rest : List Text) (then : Option Text → Option (List Piece))
    → met (long name v) word (Some waiting) rest then ≡ None
no_long name None word waiting rest then = refl
no_long name (Some v) word waiting rest then = refl

-- an option that isn't known has no place
unknown_given : (name text : Text) (line : Line) (ps : Option (List Piece)) → place_named name ≡ None
    → put_all (option_map (λ qs. given name text ∷ qs) ps) (Some line) ≡ None
unknown_given name text line ps none = piece_first (given name text) line ps ∙ ap (λ (o : Option Place). put_all ps (put o text line)) none

unknown_waits : (name : Text) (words : List Text) (line : Line) → place_named name ≡ None → put_all (pieces words (Some name)) (Some line) ≡ None
unknown_waits name [] line none = refl
unknown_waits name (word ∷ rest) line none = go (look word)
  where
    go : (l : Look) → put_all (met l word (Some name) rest (pieces rest)) (Some line) ≡ None
    go dashes = refl
    go (long n v) = ap (λ ps. put_all ps (Some line)) (no_long n v word name rest (pieces rest))
    go short = refl
    go plain = unknown_given name word line (pieces rest None) none

unknown_met : (name : Text) (v : Option Text) (word : Text) (rest : List Text) (line : Line) → place_named name ≡ None
    → put_all (met (long name v) word None rest (pieces rest)) (Some line) ≡ None
unknown_met name None word rest line none = unknown_waits name rest line none
unknown_met name (Some v) word rest line none = unknown_given name v line (pieces rest None) none

-- an option leaves the words by themselves as they were
still : (position : ℕ) (line other : Line) → other.mode ≡ line.mode → other.subject ≡ line.subject → At position line → At position other
still position line other m b (first i x y) = first i (m ∙ x) (b ∙ y)
still position line other m b (second i x y) = second i (ap is_some m ∙ x) (b ∙ y)
still position line other m b (third i x y) = third i (ap is_some m ∙ x) (ap is_some b ∙ y)

stays : (p : Place) (text : Text) (position : ℕ) (line : Line) → place_named (id_of p) ≡ Some p → At position line → Placed position (put (Some p) text line)
stays p text position line named at = by_place p named (is_some (at_place p line))
  where
    by_place : (p : Place) → place_named (id_of p) ≡ Some p → (b : Bool) → Placed position (cond b None (Some (with_place p text line)))
    by_place the_mode named b = cc
    by_place the_subject named b = cc
    by_place p named true = tt
    by_place the_quals named false = still position line (with_place the_quals text line) refl refl at
    by_place the_measures named false = still position line (with_place the_measures text line) refl refl at
    by_place the_pivots named false = still position line (with_place the_pivots text line) refl refl at

-- ---- the walk

-- what is known of the words behind
record Rest (rest : List Text) : Type 0 where
  idles : (rows : List Row) (pending : Option (Text × List Text)) (position : ℕ) (st : Option Line) → Stands (held rows pending) position st
      → Fits (stand_at rows pending idle position false) rest (put_all (pieces rest None) st)
  waits : (p : Place) (rows : List Row) (position : ℕ) (line : Line) → place_named (id_of p) ≡ Some p → Agree rows line → At position line
      → Fits (stand_at rows (Some (id_of p, [])) (option (id_of p)) position false) rest (put_all (pieces rest (Some (id_of p))) (Some line))

value_taken : (p : Place) (word : Text) (rows : List Row)
    → option_word (arg_by_id the_rules (id_of p)) (id_of p) word (held rows (Some (id_of p, []))) ≡ (held rows (Some (id_of p, word ∷ [])), idle)
unfolding the_rules
value_taken the_mode word rows = refl
value_taken the_subject word rows = refl
value_taken the_quals word rows = refl
value_taken the_measures word rows = refl
value_taken the_pivots word rows = refl

-- what a word comes to, by its look
abbrev word_kinds : Held → Option (Text × Option Text) → Option Text → Kinds
word_kinds h (Some q) s = long_fault the_rules false (arg_by_long the_rules q.0) q.1 h
word_kinds h None s = option_map_or (λ flags. bundle_fault the_rules false flags h) s []

abbrev other_met : Waiting → Text → Held → Option (Text × Option Text) → Option Text → Held × Step
other_met waiting word h (Some q) s = long_word the_rules waiting word q.0 q.1 h
other_met waiting word h None (Some flags) = short_word the_rules waiting word flags h
other_met waiting word h None None = plain_word the_rules waiting word h

abbrev met_by : Walk → Text → Bool → Option (Text × Option Text) → Option Text → Held × Step
met_by w word b l s = cond b (w.held, trailing w.position) (other_met w.waiting word w.held l s)

abbrev turn_kinds : Walk → Text → Bool → Option (Text × Option Text) → Option Text → Kinds
turn_kinds w word b l s = or_else (cond b [] (word_kinds w.held l s)) (step_fault shape w.position (met_by w word b l s).0 (met_by w word b l s).1)

abbrev turn_walk : Walk → Text → Bool → Option (Text × Option Text) → Option Text → Walk
turn_walk w word b l s = after_step the_rules word w (met_by w word b l s).0 (met_by w word b l s).1

abbrev Takes : Walk → Text → List Text → Option Text → Option Line → Bool → Option (Text × Option Text) → Option Text → Type 0
Takes w word rest waiting st b l s =
    Goes (turn_kinds w word b l s) (turn_walk w word b l s) rest (put_all (met (cond b dashes (hyphened l s)) word waiting rest (pieces rest)) st)

-- an option waits for its value, and a word comes
waits_by : (p : Place) (rows : List Row) (position : ℕ) (line : Line) (word : Text) (rest : List Text) → place_named (id_of p) ≡ Some p → Agree rows line
    → At position line → ((flags : Text) → short_of word ≡ Some flags → Spelled flags) → Rest rest
    → (b : Bool) (l : Option (Text × Option Text)) (s : Option Text) → short_of word ≡ s
    → Takes (stand_at rows (Some (id_of p, [])) (option (id_of p)) position false) word rest (Some (id_of p)) (Some line) b l s
waits_by p rows position line word rest named agree at shorts behind true l s e =
    let w : Walk = stand_at rows (Some (id_of p, [])) (option (id_of p)) position false in
    go_on (turn_kinds w word true l s) (turn_walk w word true l s) rest None refl
    (trail rest rows (Some (id_of p, [])) (option (id_of p)) position None (record { meets = empty_fails p rows; placed = tt }))
waits_by p rows position line word rest named agree at shorts behind false (Some q) s e =
    let w : Walk = stand_at rows (Some (id_of p, [])) (option (id_of p)) position false in
    let none : put_all (met (long q.0 q.1) word (Some (id_of p)) rest (pieces rest)) (Some line) ≡ None =
    ap (λ ps. put_all ps (Some line)) (no_long q.0 q.1 word (id_of p) rest (pieces rest)) in
    subst (λ (o : Option Line). Goes (turn_kinds w word false (Some q) s) (turn_walk w word false (Some q) s) rest o) (sym none)
    (go_wrong (turn_kinds w word false (Some q) s) (turn_walk w word false (Some q) s) rest
    (either_fails (word_kinds w.held (Some q) s) (step_fault shape position (met_by w word false (Some q) s).0 (met_by w word false (Some q) s).1)
    (long_fails (arg_by_long the_rules q.0) q.1 w.held (empty_fails p rows))))
waits_by p rows position line word rest named agree at shorts behind false None (Some flags) e =
    let w : Walk = stand_at rows (Some (id_of p, [])) (option (id_of p)) position false in
    go_wrong (turn_kinds w word false None (Some flags)) (turn_walk w word false None (Some flags)) rest
    (either_fails (word_kinds w.held None (Some flags)) (step_fault shape position (met_by w word false None (Some flags)).0 (met_by w word false None (Some flags)).1)
    (short_fails flags rows (Some (id_of p, [])) (shorts flags e)))
waits_by p rows position line word rest named agree at shorts behind false None None e =
    let w : Walk = stand_at rows (Some (id_of p, [])) (option (id_of p)) position false in
    let spec : Option Line = put_all (option_map (λ qs. given (id_of p) word ∷ qs) (pieces rest None)) (Some line) in
    let is : spec ≡ put_all (pieces rest None) (put (Some p) word line) =
    piece_first (given (id_of p) word) line (pieces rest None) ∙ ap (λ (o : Option Place). put_all (pieces rest None) (put o word line)) named in
    let fits : Fits (stand_at rows (Some (id_of p, word ∷ [])) idle position false) rest (put_all (pieces rest None) (put (Some p) word line)) =
    behind.idles rows (Some (id_of p, word ∷ [])) position (put (Some p) word line)
    (record { meets = pending_meets p word rows line agree; placed = stays p word position line named at }) in
    go_on (turn_kinds w word false None None) (turn_walk w word false None None) rest spec refl
    (subst (λ (m : Held × Waiting). Fits (record w { held = m.0; waiting = m.1 }) rest spec) (sym (value_taken p word rows))
    (subst (λ (o : Option Line). Fits (stand_at rows (Some (id_of p, word ∷ [])) idle position false) rest o) (sym is) fits))

-- an option by its name, where nothing waits
abbrev name_kinds : Walk → Text → Option Text → Option Rule → Kinds
name_kinds w word v o = or_else (long_fault the_rules false o v w.held)
    (step_fault shape w.position (after_flag the_rules w.waiting word (long_met the_rules o v w.held).0 (long_met the_rules o v w.held).1).0
    (after_flag the_rules w.waiting word (long_met the_rules o v w.held).0 (long_met the_rules o v w.held).1).1)

abbrev name_walk : Walk → Text → Option Text → Option Rule → Walk
name_walk w word v o =
    after_step the_rules word w (after_flag the_rules w.waiting word (long_met the_rules o v w.held).0 (long_met the_rules o v w.held).1).0
    (after_flag the_rules w.waiting word (long_met the_rules o v w.held).0 (long_met the_rules o v w.held).1).1

abbrev NameTakes : Walk → Text → Text → Option Text → List Text → Line → Option Rule → Type 0
NameTakes w word name v rest line o =
    Goes (name_kinds w word v o) (name_walk w word v o) rest (put_all (met (long name v) word None rest (pieces rest)) (Some line))

used_by : (p : Place) (text : Text) (rows : List Row) (pending : Option (Text × List Text)) (position : ℕ) (word : Text) (rest : List Text) → Rest rest
    → settle_fault the_rules false (held rows pending) ≡ [] → (st : Option Line)
    → Meets (use_fault false (rule p) (text ∷ []) (settled the_rules (held rows pending)).rows) (used (rule p) (text ∷ []) (settled the_rules (held rows pending)).rows) st
    → Placed position st
    → Goes (name_kinds (stand_at rows pending idle position false) word (Some text) (Some (rule p)))
    (name_walk (stand_at rows pending idle position false) word (Some text) (Some (rule p))) rest (put_all (pieces rest None) st)
used_by p text rows pending position word rest behind none None m placed =
    let w : Walk = stand_at rows pending idle position false in
    go_wrong (name_kinds w word (Some text) (Some (rule p))) (name_walk w word (Some text) (Some (rule p))) rest
    (either_fails (long_fault the_rules false (Some (rule p)) (Some text) w.held) []
    (later_fails (settle_fault the_rules false w.held) (use_fault false (rule p) (text ∷ []) (settled the_rules w.held).rows) m))
used_by p text rows pending position word rest behind none (Some line) m placed =
    let w : Walk = stand_at rows pending idle position false in
    let fit : or_else (settle_fault the_rules false w.held) (use_fault false (rule p) (text ∷ []) (settled the_rules w.held).rows) ≡ [] =
    ap₂ or_else none m.0 in
    go_on (name_kinds w word (Some text) (Some (rule p))) (name_walk w word (Some text) (Some (rule p))) rest (put_all (pieces rest None) (Some line))
    (ap (λ (ks : Kinds). or_else ks []) fit)
    (behind.idles (used (rule p) (text ∷ []) (settled the_rules w.held).rows) None position (Some line) (record { meets = (refl, m.1); placed = placed }))

named_by : (name : Text) (v : Option Text) (rows : List Row) (pending : Option (Text × List Text)) (position : ℕ) (line : Line) (word : Text) (rest : List Text)
    → Stands (held rows pending) position (Some line) → Rest rest → Named name
    → NameTakes (stand_at rows pending idle position false) word name v rest line (arg_by_long the_rules name)
named_by name (Some text) rows pending position line word rest s behind (known p place found same) =
    let w : Walk = stand_at rows pending idle position false in
    let is : put_all (option_map (λ qs. given name text ∷ qs) (pieces rest None)) (Some line) ≡ put_all (pieces rest None) (put (Some p) text line) =
    piece_first (given name text) line (pieces rest None) ∙ ap (λ (o : Option Place). put_all (pieces rest None) (put o text line)) place in
    let own : place_named (id_of p) ≡ Some p = subst (λ (t : Text). place_named t ≡ Some p) same place in
    subst (λ (o : Option Rule). NameTakes w word name (Some text) rest line o) (sym found)
    (subst (λ (o : Option Line). Goes (name_kinds w word (Some text) (Some (rule p))) (name_walk w word (Some text) (Some (rule p))) rest o) (sym is)
    (used_by p text rows pending position word rest behind s.meets.0 (put (Some p) text line)
    (use_meets p text (settled the_rules w.held).rows line s.meets.1) (stays p text position line own s.placed)))
named_by name None rows pending position line word rest s behind (known p place found same) =
    let w : Walk = stand_at rows pending idle position false in
    let own : place_named (id_of p) ≡ Some p = subst (λ (t : Text). place_named t ≡ Some p) same place in
    let fits : Fits (name_walk w word None (Some (rule p))) rest (put_all (pieces rest (Some (id_of p))) (Some line)) =
    behind.waits p (settled the_rules w.held).rows position line own s.meets.1 s.placed in
    subst (λ (o : Option Rule). NameTakes w word name None rest line o) (sym found)
    (go_on (name_kinds w word None (Some (rule p))) (name_walk w word None (Some (rule p))) rest (put_all (pieces rest (Some name)) (Some line))
    (ap (λ (ks : Kinds). or_else ks []) s.meets.0)
    (subst (λ (t : Text). Fits (name_walk w word None (Some (rule p))) rest (put_all (pieces rest (Some t)) (Some line))) (sym same) fits))
named_by name v rows pending position line word rest s behind (asks none found) =
    let w : Walk = stand_at rows pending idle position false in
    subst (λ (o : Option Rule). NameTakes w word name v rest line o) (sym found)
    (subst (λ (o : Option Line). Goes (name_kinds w word v (Some help)) (name_walk w word v (Some help)) rest o) (sym (unknown_met name v word rest line none))
    (go_wrong (name_kinds w word v (Some help)) (name_walk w word v (Some help)) rest
    (either_fails (long_fault the_rules false (Some help) v w.held)
    (step_fault shape position (after_flag the_rules idle word (long_met the_rules (Some help) v w.held).0 (long_met the_rules (Some help) v w.held).1).0
    (after_flag the_rules idle word (long_met the_rules (Some help) v w.held).0 (long_met the_rules (Some help) v w.held).1).1)
    (help_fails v w.held))))
named_by name v rows pending position line word rest s behind (unknown none found) =
    let w : Walk = stand_at rows pending idle position false in
    subst (λ (o : Option Rule). NameTakes w word name v rest line o) (sym found)
    (subst (λ (o : Option Line). Goes (name_kinds w word v None) (name_walk w word v None) rest o) (sym (unknown_met name v word rest line none))
    (go_wrong (name_kinds w word v None) (name_walk w word v None) rest (λ e. cc)))

idles_by : (rows : List Row) (pending : Option (Text × List Text)) (position : ℕ) (st : Option Line) (word : Text) (rest : List Text)
    → Stands (held rows pending) position st → ((flags : Text) → short_of word ≡ Some flags → Spelled flags) → Rest rest
    → (b : Bool) (l : Option (Text × Option Text)) (s : Option Text) → short_of word ≡ s
    → Takes (stand_at rows pending idle position false) word rest None st b l s
idles_by rows pending position st word rest stands shorts behind true l s e =
    let w : Walk = stand_at rows pending idle position false in
    go_on (turn_kinds w word true l s) (turn_walk w word true l s) rest (put_all (Some (map single rest)) st) refl
    (trail rest rows pending idle position st stands)
idles_by rows pending position None word rest stands shorts behind false (Some q) s e =
    let w : Walk = stand_at rows pending idle position false in
    go_wrong (turn_kinds w word false (Some q) s) (turn_walk w word false (Some q) s) rest
    (either_fails (word_kinds w.held (Some q) s) (step_fault shape position (met_by w word false (Some q) s).0 (met_by w word false (Some q) s).1)
    (long_fails (arg_by_long the_rules q.0) q.1 w.held stands.meets))
idles_by rows pending position (Some line) word rest stands shorts behind false (Some q) s e =
    named_by q.0 q.1 rows pending position line word rest stands behind (by_name q.0)
idles_by rows pending position st word rest stands shorts behind false None (Some flags) e =
    let w : Walk = stand_at rows pending idle position false in
    subst (λ (o : Option Line). Goes (turn_kinds w word false None (Some flags)) (turn_walk w word false None (Some flags)) rest o) (none_put st)
    (go_wrong (turn_kinds w word false None (Some flags)) (turn_walk w word false None (Some flags)) rest
    (either_fails (word_kinds w.held None (Some flags)) (step_fault shape position (met_by w word false None (Some flags)).0 (met_by w word false None (Some flags)).1)
    (short_fails flags rows pending (shorts flags e))))
idles_by rows pending position st word rest stands shorts behind false None None e =
    stand rows pending idle position false word rest st (pieces rest None) stands behind.idles

-- ---- the looks of a word

word_kinds_are : (h : Held) (word : Text) (l : Option (Text × Option Text)) → flag_word_fault the_rules false l word h ≡ word_kinds h l (short_of word)
word_kinds_are h word None = refl
word_kinds_are h word (Some q) = refl

short_is : (waiting : Waiting) (word : Text) (h : Held) (s : Option Text) → short_or_plain the_rules waiting word s h ≡ other_met waiting word h None s
short_is waiting word h None = refl
short_is waiting word h (Some flags) = refl

other_is : (waiting : Waiting) (word : Text) (h : Held) (l : Option (Text × Option Text))
    → long_or_other the_rules waiting word l h ≡ other_met waiting word h l (short_of word)
other_is waiting word h None = short_is waiting word h (short_of word)
other_is waiting word h (Some q) = refl

no_subcommand : (waiting : Waiting) (word : Text) → subcommand_met [] waiting word ≡ None
no_subcommand idle word = refl
no_subcommand waiting word = refl

by_look : (rows : List Row) (pending : Option (Text × List Text)) (waiting : Waiting) (position : ℕ) (word : Text) (rest : List Text) (wait : Option Text)
    (st : Option Line) → Takes (stand_at rows pending waiting position false) word rest wait st (bytes_eq word (45 ∷ 45 ∷ [])) (long_of word) (short_of word)
    → Fits (stand_at rows pending waiting position false) (word ∷ rest) (put_all (pieces (word ∷ rest) wait) st)
unfolding walked
by_look rows pending waiting position word rest wait st t =
    let h : Held = held rows pending in
    let w : Walk = stand_at rows pending waiting position false in
    let b : Bool = bytes_eq word (45 ∷ 45 ∷ []) in
    let kinds : word_fault shape [] false waiting word h ≡ cond b [] (word_kinds h (long_of word) (short_of word)) =
    ap (λ (o : Option Text). other_fault shape o word h) (no_subcommand waiting word) ∙ ap (λ (ks : Kinds). cond b [] ks) (word_kinds_are h word (long_of word)) in
    let met_is : word_met the_rules [] false waiting position word h ≡ met_by w word b (long_of word) (short_of word) =
    ap (λ (o : Option Text). subcommand_or_other the_rules o waiting position word h) (no_subcommand waiting word)
    ∙ ap (λ (m : Held × Step). cond b (h, trailing position) m) (other_is waiting word h (long_of word)) in
    turned w word rest (put_all (pieces (word ∷ rest) wait) st)
    (subst₂ (λ (ks : Kinds) (m : Held × Step). Goes (or_else ks (step_fault shape position m.0 m.1)) (after_step the_rules word w m.0 m.1) rest (put_all (pieces (word ∷ rest) wait) st))
    (sym kinds) (sym met_is) t)

-- each word is a text
abbrev pub AreTexts : List Text → Type 0
AreTexts [] = Unit {0}
AreTexts (word ∷ rest) = IsUtf8 word × AreTexts rest

all_rest : (words : List Text) → AreTexts words → Rest words
unfolding walk_fault
all_rest [] u = record {
  idles = λ rows pending position st s. record { goes = ends (settle_fault the_rules false (held rows pending)) (settled the_rules (held rows pending)).rows st s.meets };
  waits = λ p rows position line named agree at. record { goes = empty_fails p rows };
}
  where
    ends : (kinds : Kinds) (rows : List Row) (st : Option Line) → Meets kinds rows st → Meets kinds rows (put_all (Some []) st)
    ends kinds rows None m = m
    ends kinds rows (Some line) m = m
all_rest (word ∷ rest) u =
    let behind : Rest rest = all_rest rest u.1 in
    record {
      idles = λ rows pending position st s. by_look rows pending idle position word rest None st
          (idles_by rows pending position st word rest s (λ flags e. spelled word flags u.0 e) behind (bytes_eq word (45 ∷ 45 ∷ [])) (long_of word) (short_of word) refl);
      waits = λ p rows position line named agree at. by_look rows (Some (id_of p, [])) (option (id_of p)) position word rest (Some (id_of p)) (Some line)
          (waits_by p rows position line word rest named agree at (λ flags e. spelled word flags u.0 e) behind (bytes_eq word (45 ∷ 45 ∷ [])) (long_of word) (short_of word) refl);
    }

-- the walk over all words, from nothing
pub all_fits : (words : List Text) → AreTexts words → Fits (stand_at [] None idle 1 false) words (put_all (pieces words None) (Some blank))
all_fits words u = (all_rest words u).idles [] None 1 (Some blank) (record { meets = (refl, agree_blank); placed = first refl refl refl })
