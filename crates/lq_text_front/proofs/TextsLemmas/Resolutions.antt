-- At most one resolution of the three texts.
use Rattle.std.proofs.Common.{◌≡◌, Bool, true, false, if◌then◌else◌, List, [], ◌∷◌, Option, Some, None, refl, sym, ap, ◌∙◌}
use Rattle.lq_text_scope.specs.Complaints as program
use Rattle.lq_text_scope.specs.Uses.{of_program}
use Rattle.lq_text_qualifiers.specs.Faults.Complaints as sorts
use Rattle.lq_text_qualifiers.specs.Faults.Complaints.{is_less, least, least_with}
use Rattle.lq_text_front.specs.Texts.Resolution.{Sources, resolved, in_program, in_measures, in_qualifiers, OneResolution, measure_complaints, qualifier_complaints}

some_same : {A : Type 0} (a b : A) → Some a ≡ Some b → a ≡ b
some_same a b is = cc

-- nothing is told where there are no complaints
nothing_told : {C : Type 0} (told : List C → Option C) (cs : List C) (c : C) → told [] ≡ None → cs ≡ [] → told cs ≡ Some c → ⊥
nothing_told told cs c none are is = let wrong : None ≡ Some c = sym none ∙ sym (ap told are) ∙ is in let e = wrong in absurd (cc)

no_program : (t : Sources) (c : program.Complaint) → of_program t.names t.items ≡ [] → program.least (of_program t.names t.items) ≡ Some c → ⊥
no_program t c = nothing_told program.least (of_program t.names t.items) c refl

pub one_resolution : OneResolution
one_resolution t (resolved a) (resolved b) first second = ap (λ x. resolved x) (first.3 ∙ sym second.3)
one_resolution t (resolved a) (in_program c) first second = absurd (no_program t c first.0 second)
one_resolution t (resolved a) (in_measures c) first second = absurd (nothing_told least (measure_complaints t) c refl first.1 second.1)
one_resolution t (resolved a) (in_qualifiers c) first second = absurd (nothing_told least (qualifier_complaints t) c refl first.2 second.2)
one_resolution t (in_program c) (resolved b) first second = absurd (no_program t c second.0 first)
one_resolution t (in_program c) (in_program d) first second = ap (λ x. in_program x) (some_same c d (sym first ∙ second))
one_resolution t (in_program c) (in_measures d) first second = absurd (no_program t c second.0 first)
one_resolution t (in_program c) (in_qualifiers d) first second = absurd (no_program t c second.0 first)
one_resolution t (in_measures c) (resolved b) first second = absurd (nothing_told least (measure_complaints t) c refl second.1 first.1)
one_resolution t (in_measures c) (in_program d) first second = absurd (no_program t d first.0 second)
one_resolution t (in_measures c) (in_measures d) first second = ap (λ x. in_measures x) (some_same c d (sym first.1 ∙ second.1))
one_resolution t (in_measures c) (in_qualifiers d) first second = absurd (nothing_told least (measure_complaints t) c refl second.1 first.1)
one_resolution t (in_qualifiers c) (resolved b) first second = absurd (nothing_told least (qualifier_complaints t) c refl second.2 first.2)
one_resolution t (in_qualifiers c) (in_program d) first second = absurd (no_program t d first.0 second)
one_resolution t (in_qualifiers c) (in_measures d) first second = absurd (nothing_told least (measure_complaints t) d refl first.1 second.1)
one_resolution t (in_qualifiers c) (in_qualifiers d) first second = ap (λ x. in_qualifiers x) (some_same c d (sym first.2 ∙ second.2))

-- nothing is told only of no complaints
never_none : (c : sorts.Complaint) (cs : List sorts.Complaint) → least_with (Some c) cs ≡ None → ⊥
never_none c [] is = let e = is in absurd (cc)
never_none c (d ∷ cs) is = by_test (is_less d c) (never_none d cs) (never_none c cs) is
  where
    by_test : (t : Bool) → (least_with (Some d) cs ≡ None → ⊥) → (least_with (Some c) cs ≡ None → ⊥) → least_with (if t then Some d else Some c) cs ≡ None → ⊥
    by_test true new old is = new is
    by_test false new old is = old is

pub none_told : (cs : List sorts.Complaint) → least cs ≡ None → cs ≡ []
none_told [] is = refl
none_told (c ∷ cs) is = absurd (never_none c cs is)
