-- Parts in a row run one after another.
use Rattle.std.proofs.Common.{◌≡◌, ℕ, Some, refl, sym, ap, ◌∙◌, subst}
use Rattle.lq_meaning_steps.specs.Model.Core.{Row, Core, row, Cores, none, more, Value, Values, no_values, more_values, row_value, with_values, as_value, as_values}
use Rattle.lq_meaning_steps.specs.Model.Operations.{World}
use Rattle.lq_meaning_steps.specs.Model.Step.{in_row, placed}
use Rattle.lq_sound_values.specs.Inhabitants.Runs.{RunsWell}
use Rattle.lq_sound_values.proofs.InhabitantsLemmas.Running.{runs_value}
use Rattle.lq_sound_values.specs.Runs.Runs.{Exactly}
use Rattle.lq_sound_values.proofs.RunsLemmas.Framing.{runs_in}
use Rattle.lq_sound_values.proofs.RunsLemmas.Lower.{Lower}

abbrev add : Cores → Cores → Cores
add none ds = ds
add (more e es) ds = more e (add es ds)

abbrev join : Values → Values → Values
join no_values us = us
join (more_values v vs) us = more_values v (join vs us)

add-none : (es : Cores) → add es none ≡ es
add-none none = refl
add-none (more e es) = ap (more e) (add-none es)

add-add : (es : Cores) (d : Core) (ds : Cores) → add (add es (more d none)) ds ≡ add es (more d ds)
add-add none d ds = refl
add-add (more e es) d ds = ap (more e) (add-add es d ds)

placed-add : (es : Cores) (d : Core) (ds : Cores) → placed es d ds ≡ add es (more d ds)
placed-add none d ds = refl
placed-add (more e es) d ds = ap (more e) (placed-add es d ds)

join-none : (vs : Values) → join vs no_values ≡ vs
join-none no_values = refl
join-none (more_values v vs) = ap (more_values v) (join-none vs)

join-join : (vs : Values) (u : Value) (us : Values) → join (join vs (more_values u no_values)) us ≡ join vs (more_values u us)
join-join no_values u us = refl
join-join (more_values v vs) u us = ap (more_values v) (join-join vs u us)

-- the parts are these values
abbrev AreThese : Cores → Values → Type 0
AreThese none no_values = Unit {0}
AreThese none (more_values v vs) = ⊥
AreThese (more e es) no_values = ⊥
AreThese (more e es) (more_values v vs) = (as_value e ≡ Some v) × AreThese es vs

these_values : (es : Cores) (vs : Values) → AreThese es vs → as_values es ≡ Some vs
these_values none no_values h = refl
these_values none (more_values v vs) h = absurd h
these_values (more e es) no_values h = absurd h
these_values (more e es) (more_values v vs) h = rw (h.0, these_values es vs h.1)

one_more : (es : Cores) (vs : Values) (d : Core) (u : Value) → AreThese es vs → as_value d ≡ Some u → AreThese (add es (more d none)) (join vs (more_values u no_values))
one_more none no_values d u h e = (e, tt)
one_more none (more_values v vs) d u h e = absurd h
one_more (more c es) no_values d u h e = absurd h
one_more (more c es) (more_values v vs) d u h e = (h.0, one_more es vs d u h.1 e)

-- each part runs to exactly its value
abbrev pub AllExactly : World → Cores → Values → Type 0
AllExactly w none no_values = Unit {0}
AllExactly w none (more_values v vs) = ⊥
AllExactly w (more e es) no_values = ⊥
AllExactly w (more e es) (more_values v vs) = ((k : ℕ) → RunsWell k e w (Exactly v w)) × AllExactly w es vs

row_from : Lower → (r : Row) (w : World) (es : Cores) (vs : Values) → AllExactly w es vs → (before : Cores) (bs : Values) → AreThese before bs → (n : ℕ) → RunsWell n (row r (add before es)) w (Exactly (row_value r (join bs vs)) w)
row_from law r w none no_values h before bs is n =
    let at : as_value (row r (add before none)) ≡ Some (row_value r (join bs no_values)) = ap (λ es. with_values r (as_values es)) (add-none before) ∙ ap (with_values r) (these_values before bs is) ∙ ap (λ vs. Some (row_value r vs)) (sym (join-none bs)) in
    runs_value n (row r (add before none)) w (row_value r (join bs no_values)) (Exactly (row_value r (join bs no_values)) w) at (refl, refl)
row_from law r w none (more_values v vs) h before bs is n = absurd h
row_from law r w (more e es) no_values h before bs is n = absurd h
row_from law r w (more e es) (more_values v vs) h before bs is n =
    let R = Exactly (row_value r (join bs (more_values v vs))) w in
    subst (λ ds. RunsWell n (row r ds) w R) (placed-add before e es) (runs_in law (in_row r before es) (bs, these_values before bs is) n e w (Exactly v w) R (h.0 n) (λ k d u x le at q.
    let rest = row_from law r w es vs h.1 (add before (more d none)) (join bs (more_values v no_values)) (one_more before bs d v is (at ∙ ap Some q.0)) k in
    let here : RunsWell k (row r (placed before d es)) w R = subst (λ us. RunsWell k (row r (placed before d es)) w (Exactly (row_value r us) w)) (join-join bs v vs) (subst (λ ds. RunsWell k (row r ds) w (Exactly (row_value r (join (join bs (more_values v no_values)) vs)) w)) (add-add before d es ∙ sym (placed-add before d es)) rest) in
    subst (λ y. RunsWell k (row r (placed before d es)) y R) (sym q.1) here))

-- the row runs to what it makes of the values
pub row_exact : Lower → (r : Row) (w : World) (es : Cores) (vs : Values) → AllExactly w es vs → (n : ℕ) → RunsWell n (row r es) w (Exactly (row_value r vs) w)
row_exact law r w es vs h n = row_from law r w es vs h none no_values tt n
