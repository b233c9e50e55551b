-- Over which symbols a type is with types for its variables, and which names its functions have for their arguments then.
use Rattle.std.proofs.Common.{ℕ, zero, suc, Option, Some, None}
use Rattle.lq_logic_predicates.specs.declared.symbol.Symbol.TheVariants as symbol
use Rattle.lq_refined_types.specs.Parts.Assignment.{Assignment}
use Rattle.lq_refined_types.specs.Types.Operations.{symbol_of, instantiated, all_instantiated}
use Rattle.lq_refined_types.specs.Types.Refined.{Refined, Refineds, int_with, bool_with, unit_type, function, tuple_of, array_with, data_with, map_with, type_variable, none, more, type_at}
use Rattle.lq_sound_values.specs.Inclusion.Symbols.{Symbols, with_symbol, with_some, InsideOn, TopOn, ArgumentsOn, ComponentsOn, TypeOn}
use Rattle.lq_sound_values.proofs.TwinsLemmas.Widening.{Within, within_with, type_more}
use Rattle.lq_sound_values.specs.Instantiation.Instances.{NamesOutside, AllNamesOutside, AllTypesOn}
use Rattle.lq_sound_values.proofs.InstantiationLemmas.Instancing.{type_on}

-- ---- names of arguments

name_at : (P : Symbols) (ts : Refineds) → AllNamesOutside P ts → (i : ℕ) → NamesOutside P (type_at ts i)
name_at P none o i = tt
name_at P (more t ts) o zero = o.0
name_at P (more t ts) o (suc i) = name_at P ts o.1 i

module _ (P : Symbols) (Ts : Refineds) (on : AllNamesOutside P Ts) where
  mutual
    pub names_stay : (t : Refined) → NamesOutside P t → NamesOutside P (instantiated Ts t)
    names_stay (int_with p) o = tt
    names_stay (bool_with p) o = tt
    names_stay unit_type o = tt
    names_stay (function None a b) o = (names_stay a o.0, names_stay b o.1)
    names_stay (function (Some x) a b) o = (o.0, names_stay a o.1, names_stay b o.2)
    names_stay (tuple_of ts) o = all_names_stay ts o
    names_stay (array_with e p) o = names_stay e o
    names_stay (data_with d ts m p) o = all_names_stay ts o
    names_stay (map_with e p) o = tt
    names_stay (type_variable i) o = name_at P Ts on i

    all_names_stay : (ts : Refineds) → AllNamesOutside P ts → AllNamesOutside P (all_instantiated Ts ts)
    all_names_stay none o = tt
    all_names_stay (more t ts) o = (names_stay t o.0, all_names_stay ts o.1)

-- ---- symbols

within_some : (P Q : Symbols) (x : Option ℕ) → Within P Q → Within P (with_some Q x)
within_some P Q None f y h = f y h
within_some P Q (Some x) f y h = within_with Q (symbol_of x) y (f y h)

module _ (A : Assignment) (P : Symbols) (Ts : Refineds) (on : AllTypesOn A Ts P) where
  -- a variable's type, over more symbols
  variable_on : (Q : Symbols) → Within P Q → (i : ℕ) → TypeOn A (type_at Ts i) Q
  variable_on Q f i = type_more A (type_at Ts i) P Q f (type_on A Ts P on i)

  top_stays : (t : Refined) (Q : Symbols) → Within P Q → TopOn A t Q → TopOn A (instantiated Ts t) Q
  top_stays (int_with p) Q f o = o
  top_stays (bool_with p) Q f o = o
  top_stays unit_type Q f o = o
  top_stays (function x a b) Q f o = o
  top_stays (tuple_of ts) Q f o = o
  top_stays (array_with e p) Q f o = o
  top_stays (data_with d ts m p) Q f o = o
  top_stays (map_with e p) Q f o = o
  top_stays (type_variable i) Q f o = (variable_on Q f i).1

  mutual
    inside_stays : (t : Refined) (Q : Symbols) → Within P Q → InsideOn A t Q → InsideOn A (instantiated Ts t) Q
    inside_stays (int_with p) Q f o = tt
    inside_stays (bool_with p) Q f o = tt
    inside_stays unit_type Q f o = tt
    inside_stays (function x a b) Q f o =
        let g = within_some P Q x f in
        (inside_stays a Q f o.0, top_stays a Q f o.1, inside_stays b (with_some Q x) g o.2, top_stays b (with_some Q x) g o.3)
    inside_stays (tuple_of ts) Q f o = components_stay ts Q f 0 Q f o
    inside_stays (array_with e p) Q f o = (inside_stays e Q f o.0, top_stays e Q f o.1)
    inside_stays (data_with d ts m p) Q f o = arguments_stay ts Q f o
    inside_stays (map_with e p) Q f o = tt
    inside_stays (type_variable i) Q f o = (variable_on Q f i).0

    arguments_stay : (ts : Refineds) (Q : Symbols) → Within P Q → ArgumentsOn A ts Q → ArgumentsOn A (all_instantiated Ts ts) Q
    arguments_stay none Q f o = tt
    arguments_stay (more t ts) Q f o = (inside_stays t Q f o.0, top_stays t Q f o.1, arguments_stay ts Q f o.2)

    components_stay : (ts : Refineds) (Q : Symbols) → Within P Q → (k : ℕ) (R : Symbols) → Within P R
        → ComponentsOn A ts Q k R → ComponentsOn A (all_instantiated Ts ts) Q k R
    components_stay none Q f k R g o = tt
    components_stay (more t ts) Q f k R g o =
        let x = symbol.Position (suc k) in
        let rest = components_stay ts Q f (suc k) (with_symbol R x) (λ y h. within_with R x y (g y h)) o.2 in
        (inside_stays t Q f o.0, top_stays t R g o.1, rest)

  pub type_stays : (t : Refined) → TypeOn A t P → TypeOn A (instantiated Ts t) P
  type_stays t o = (inside_stays t P (λ y h. h) o.0, top_stays t P (λ y h. h) o.1)
