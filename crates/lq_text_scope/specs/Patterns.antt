-- What is wrong with the names of a pattern.
use Rattle.std.specs.Prelude.{ℕ, suc, List, [], ◌∷◌, ◌++◌, map, reverse, if◌then◌else◌}
use Rattle.lq_base_names.specs.declared.place.Place.{Place}
use Rattle.lq_text_tree.specs.Items.{Named}
use Rattle.lq_text_tree.specs.Pattern.{Pattern, pattern, PatternForm, any, bind, nothing, tuple_of, build_of, Patterns, no_patterns, more_patterns}
use Rattle.lq_text_scope.specs.Complaints.{Complaint, at, unknown, twice}
use Rattle.lq_text_scope.specs.Known.{Arity, arity_in, counted, defined, has}

-- how many patterns stand in a row
abbrev pub count_of : Patterns → ℕ
count_of no_patterns = 0
count_of (more_patterns p ps) = suc (count_of ps)

-- the names that a pattern binds, each where it stands, from left to right
abbrev mutual
  pub binders_in : Pattern → List Named
  binders_in (pattern p f) = binders_in_form p f

  pub binders_in_form : Place → PatternForm → List Named
  binders_in_form p any = []
  binders_in_form p (bind x) = (record { name = x; place = p }) ∷ []
  binders_in_form p nothing = []
  binders_in_form p (tuple_of ps) = binders_in_all ps
  binders_in_form p (build_of c q ps) = binders_in_all ps

  pub binders_in_all : Patterns → List Named
  binders_in_all no_patterns = []
  binders_in_all (more_patterns p ps) = binders_in p ++ binders_in_all ps

-- names that become visible, the last first
abbrev pub shown_name : Named → Arity
shown_name n = defined n.name 0

abbrev pub shown_names : List Named → List Arity
shown_names ns = reverse (map shown_name ns)

-- a name that is among these is defined again
abbrev pub again : List ℕ → Named → List Complaint
again before n = if has before n.name then at n.place (twice n.name) ∷ [] else []

-- each of these that is among those before it, or among the ones at the beginning
abbrev pub repeated : List ℕ → List Named → List Complaint
repeated before [] = []
repeated before (n ∷ ns) = again before n ++ repeated (n.name ∷ before) ns

-- the constructors of a pattern, over those that are defined: a constructor has as many arguments as fields
abbrev mutual
  pub built_in : List Arity → Pattern → List Complaint
  built_in known (pattern p f) = built_in_form known f

  pub built_in_form : List Arity → PatternForm → List Complaint
  built_in_form known any = []
  built_in_form known (bind x) = []
  built_in_form known nothing = []
  built_in_form known (tuple_of ps) = built_in_all known ps
  built_in_form known (build_of c q ps) = counted q (arity_in known c) (unknown c) (count_of ps) ++ built_in_all known ps

  pub built_in_all : List Arity → Patterns → List Complaint
  built_in_all known no_patterns = []
  built_in_all known (more_patterns p ps) = built_in known p ++ built_in_all known ps

abbrev pub of_pattern : List Arity → Pattern → List Complaint
of_pattern known p = built_in known p ++ repeated [] (binders_in p)
