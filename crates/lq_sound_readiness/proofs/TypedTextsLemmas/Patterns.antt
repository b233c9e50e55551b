-- What the lines of the grammar read as patterns is flat, and stays so where its names are bound.
use Rattle.std.proofs.Common.{ℕ, ◌+◌, List, [], ◌∷◌, ◌++◌, length, refl}
use Rattle.lq_text_tree.specs.Pattern as p
use Rattle.lq_text_tree.specs.Pattern.{Pattern, pattern, PatternForm, Patterns, bound_in}
use Rattle.lq_text_tree.specs.PatternView.{patterns_of}
use Rattle.lq_text_resolve.specs.Binding.Binding.{numbered, numbered_all}
use Rattle.lq_text_parser.specs.Syntax.Patterns.{PatternPhrase, a_simple, a_parameter, a_pattern, members, inside, ReadsPattern, simple_name, simple_any, parameter_simple, parameter_unit, parameter_tuple, inside_end, inside_more, pattern_simple, pattern_unit, pattern_nil, pattern_cons, pattern_tuple, pattern_inside, pattern_alone, pattern_one, pattern_many, members_end, members_more}
use Rattle.lq_text_parser.specs.Syntax.Tokens.{Token}
use Rattle.lq_sound_readiness.specs.NormalReading.Suits.{AreParts, IsFlat, IsPart}
use Rattle.lq_sound_readiness.specs.TypedTexts.Flat.{IsParameter}

-- a name or `_` may be a parameter
part_taken : (q : Pattern) → IsPart q → IsParameter q
part_taken (pattern l p.any) h = (tt, refl)
part_taken (pattern l (p.bind x)) h = (tt, refl)
part_taken (pattern l p.nothing) h = elim h [ ]
part_taken (pattern l (p.tuple_of qs)) h = elim h [ ]
part_taken (pattern l (p.build_of c m qs)) h = elim h [ ]

parts_more : (qs : List Pattern) (q : Pattern) → AreParts (patterns_of qs) → IsPart q → AreParts (patterns_of (qs ++ q ∷ []))
parts_more [] q hs h = (h, tt)
parts_more (r ∷ qs) q hs h = (hs.0, parts_more qs q hs.1 h)

-- what is known of what was read
abbrev pub PatternFits : PatternPhrase → Type 0
PatternFits (a_simple q) = IsPart q
PatternFits (a_parameter q) = IsParameter q
PatternFits (a_pattern q) = IsFlat q
PatternFits (members qs rs) = AreParts (patterns_of qs) → AreParts (patterns_of rs)
PatternFits (inside qs rs) = AreParts (patterns_of qs) → AreParts (patterns_of rs)

pub pattern_fits : {x : PatternPhrase} {ts us : List Token} → ReadsPattern x ts us → PatternFits x
pattern_fits (simple_name i) = tt
pattern_fits (simple_any i) = tt
pattern_fits (parameter_simple {a = a} d) = part_taken a (pattern_fits d)
pattern_fits (parameter_unit i j) = (tt, refl)
pattern_fits (parameter_tuple i d j e r) = (pattern_fits r (pattern_fits d, (pattern_fits e, tt)), refl)
pattern_fits (inside_end i) = λ hs. hs
pattern_fits (inside_more {rs = qs} {b = q} i d r) = λ hs. pattern_fits r (parts_more qs q hs (pattern_fits d))
pattern_fits (pattern_simple {a = a} d s) = (part_taken a (pattern_fits d)).0
pattern_fits (pattern_unit i j) = tt
pattern_fits (pattern_nil i j) = tt
pattern_fits (pattern_cons d i e) = (pattern_fits d, (pattern_fits e, tt))
pattern_fits (pattern_tuple d i e r) = pattern_fits r (pattern_fits d, (pattern_fits e, tt))
pattern_fits (pattern_inside i d j) = pattern_fits d
pattern_fits (pattern_alone i s) = tt
pattern_fits (pattern_one i d) = (pattern_fits d, tt)
pattern_fits (pattern_many i j d r) = pattern_fits r (pattern_fits d, tt)
pattern_fits (members_end s) = λ hs. hs
pattern_fits (members_more {rs = qs} {b = q} i d r) = λ hs. pattern_fits r (parts_more qs q hs (pattern_fits d))

-- ---- binders for names

part_kept : (n : ℕ) (q : Pattern) → IsPart q → IsPart (numbered n q)
part_kept n (pattern l p.any) h = tt
part_kept n (pattern l (p.bind x)) h = tt
part_kept n (pattern l p.nothing) h = h
part_kept n (pattern l (p.tuple_of qs)) h = h
part_kept n (pattern l (p.build_of c m qs)) h = h

parts_kept : (n : ℕ) (qs : Patterns) → AreParts qs → AreParts (numbered_all n qs)
parts_kept n p.no_patterns h = tt
parts_kept n (p.more_patterns q qs) h = (part_kept n q h.0, parts_kept (n + length (bound_in q)) qs h.1)

pub flat_kept : (n : ℕ) (q : Pattern) → IsFlat q → IsFlat (numbered n q)
flat_kept n (pattern l p.any) h = tt
flat_kept n (pattern l (p.bind x)) h = tt
flat_kept n (pattern l p.nothing) h = tt
flat_kept n (pattern l (p.tuple_of qs)) h = parts_kept n qs h
flat_kept n (pattern l (p.build_of c m qs)) h = parts_kept n qs h
