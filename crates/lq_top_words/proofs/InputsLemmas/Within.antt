-- What is so of the end of a visit is so of the whole, where nothing failed before.
use Rattle.std.proofs.Common.{◌≡◌, inl, inr, ◌≤◌, ℕ, List, [], ◌∷◌, ◌++◌, All, Option, Some, None, option_to_list, Result, Err, IfErr, refl, sym, subst, ◌∙◌, arith}
use Rattle.std.proofs.lemmas.List.Elements.{All-nil, All-cons, All-append}
use Rattle.lq_base_io.specs.Causes.{Rose}
use Rattle.lq_top_words.specs.Inputs.Visits.{Visit, IsAbsent, IsTooLong, IsHanded, IsFileFault}
use Rattle.lq_top_words.specs.Inputs.Wanted.{Wanted, names_in, Came, AreHanded, IsFaultIfNamed, IsHandedIfNamed, IfTold, WasFault}
use Rattle.lq_top_words.specs.declared.inputs.fault.NotFetched.{NotFetched}
use Rattle.lq_top_words.specs.declared.inputs.fault.NotFetched.TheVariants.{File, Memory}

-- the end of a visit, before which nothing failed
pub record EndsWith (whole part : Visit) : Type 0 where
  pub files : whole.files ≡ part.files
  pub absents : whole.absents ≤ part.absents
  pub absents_now : whole.absents_now ≡ part.absents_now
  pub failures : whole.failures ≡ part.failures
  pub failures_now : whole.failures_now ≡ part.failures_now

module _ (whole part : Visit) (ends : EndsWith whole part) (name : List ℕ) where
  absent : IsAbsent part name → IsAbsent whole name
  absent a = record {
    rose = omega (arith, a.rose, ends.absents, ends.absents_now);
    calm = ends.failures_now ∙ a.calm ∙ sym ends.failures;
    lacks = λ held told. a.lacks held (sym ends.files ∙ told);
  }

  failed : Rose part.failures part.failures_now → Rose whole.failures whole.failures_now
  failed r = omega (arith, r, ends.failures, ends.failures_now)

  long : IsTooLong part name → IsTooLong whole name
  long a = record {
    calm = ends.failures_now ∙ a.calm ∙ sym ends.failures;
    longer = λ held told. a.longer held (sym ends.files ∙ told);
  }

  pub fault_within : (line : List ℕ) → IsFileFault part name line → IsFileFault whole name line
  fault_within line (inl a) = inl (absent a.0, a.1)
  fault_within line (inr (inl a)) = inr (inl (failed a.0, a.1))
  fault_within line (inr (inr a)) = inr (inr (long a.0, a.1))

pub fault_if_within : (whole part : Visit) → EndsWith whole part → (named : Option (List ℕ)) (line : List ℕ) → IsFaultIfNamed part named line → IsFaultIfNamed whole named line
fault_if_within whole part ends None line f = absurd f
fault_if_within whole part ends (Some name) line f = fault_within whole part ends name line f

module _ (whole part : Visit) (same : whole.files ≡ part.files) where
  pub handed_within : (name text : List ℕ) → IsHanded part name text → IsHanded whole name text
  handed_within name text h = record { bound = h.bound; holds = λ held told. h.holds held (sym same ∙ told) }

  pub handed_if_within : (named : Option (List ℕ)) (text : List ℕ) → IsHandedIfNamed part named text → IsHandedIfNamed whole named text
  handed_if_within None text h = h
  handed_if_within (Some name) text h = handed_within name text h

-- ---- what came

pub came : (v : Visit) (name text : List ℕ) → IsHanded v name text → Came v name
came v name text h = λ held told. (text, h.holds held told, h.bound)

pub came_if : (v : Visit) (named : Option (List ℕ)) (text : List ℕ) → IsHandedIfNamed v named text → All (Came v) (option_to_list named)
came_if v None text h = All-nil (Came v)
came_if v (Some name) text h = All-cons (Came v) name [] (came v name text h) (All-nil (Came v))

pub all_came : (v : Visit) (w : Wanted) (p m q : List ℕ) → AreHanded v w p m q → All (Came v) (names_in w)
all_came v w p m q h =
    All-cons (Came v) w.program _ (came v w.program p h.program_is)
    (All-append (Came v) (option_to_list w.measures) (option_to_list w.quals) (came_if v w.measures m h.measures_are) (came_if v w.quals q h.quals_are))

-- ---- the first that didn't come

pub program_fault : (v : Visit) (w : Wanted) (line : List ℕ) → IsFileFault v w.program line → WasFault v (names_in w) line
program_fault v w line f = record {
  front = [];
  name = w.program;
  back = option_to_list w.measures ++ option_to_list w.quals;
  order = refl;
  came = All-nil (Came v);
  fault = f;
}

pub measures_fault : (v : Visit) (w : Wanted) (text line : List ℕ) → IsHanded v w.program text → IsFaultIfNamed v w.measures line → WasFault v (names_in w) line
measures_fault v w text line h = by w.measures refl
  where
    by : (named : Option (List ℕ)) → w.measures ≡ named → IsFaultIfNamed v named line → WasFault v (names_in w) line
    by None e f = absurd f
    by (Some name) e f = record {
      front = w.program ∷ [];
      name = name;
      back = option_to_list w.quals;
      order = rw e refl;
      came = All-cons (Came v) w.program [] (came v w.program text h) (All-nil (Came v));
      fault = f;
    }

pub quals_fault : (v : Visit) (w : Wanted) (text more line : List ℕ) → IsHanded v w.program text → IsHandedIfNamed v w.measures more → IsFaultIfNamed v w.quals line
    → WasFault v (names_in w) line
quals_fault v w text more line h m = by w.quals refl
  where
    by : (named : Option (List ℕ)) → w.quals ≡ named → IsFaultIfNamed v named line → WasFault v (names_in w) line
    by None e f = absurd f
    by (Some name) e f = record {
      front = w.program ∷ option_to_list w.measures;
      name = name;
      back = [];
      order = rw e refl;
      came = All-cons (Came v) w.program (option_to_list w.measures) (came v w.program text h) (came_if v w.measures more m);
      fault = f;
    }

-- ---- lines that are told

pub told_as : (P Q : List ℕ → Type 0) → ((line : List ℕ) → P line → Q line) → (e : NotFetched) → IfTold P e → IfTold Q e
told_as P Q f (File line) p = f line p
told_as P Q f Memory p = tt

pub told_of : {T : Type 0} (P Q : List ℕ → Type 0) → ((line : List ℕ) → P line → Q line) → (r : Result T NotFetched) (e : NotFetched) → r ≡ Err e → IfTold P e → IfErr r (IfTold Q)
told_of {T} P Q f r e is p = subst (λ (x : Result T NotFetched). IfErr x (IfTold Q)) (sym is) (told_as P Q f e p)
