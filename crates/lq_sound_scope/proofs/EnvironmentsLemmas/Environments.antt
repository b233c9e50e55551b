-- Templates and bodies' types over names, in an environment that binds these.
use Rattle.std.proofs.Common.{◌≡◌, ℕ, cond, Some, None, refl, sym, subst}
use Rattle.std.proofs.lemmas.Bool.{eq-eqb}
use Rattle.lq_logic_predicates.specs.declared.symbol.Symbol.{Symbol}
use Rattle.lq_refined_types.specs.Parts.Assignment.{Assignment}
use Rattle.lq_refined_types.specs.Types.Context.{Context}
use Rattle.lq_refined_types.specs.Types.Operations.{applied, atom_of, renamed, symbol_of}
use Rattle.lq_refined_types.specs.Types.Refined.{Refined, int_with, bool_with, unit_type, function, tuple_of, array_with, data_with, map_with, type_variable, Kind, number, truth_value, object, other, kind, argument_of}
use Rattle.lq_sound_values.specs.Inhabitants.Truth.{Objects}
use Rattle.lq_sound_values.specs.Inclusion.Symbols.{Symbols, with_symbol, TypeOn}
use Rattle.lq_sound_forms.specs.Pures.Pures.{scene_of}
use Rattle.lq_sound_values.specs.Runs.Closed.{IsTypeOver, names_in}
use Rattle.lq_refined_rules.specs.Checks.Basis.{Basis}
use Rattle.lq_refined_rules.specs.Checks.Operation.{body_type}
use Rattle.lq_sound_programs.specs.Safety.Scoped.{NamesArgument}
use Rattle.lq_refined_templates.specs.Templates.Scopes.{Unknown, symbols_in}
use Rattle.lq_sound_scope.specs.Scopes.InScope.{NamesParameter}
use Rattle.lq_sound_scope.specs.Scopes.Laws.{TypesAreOver}
use Rattle.lq_sound_scope.specs.Scopes.Over.{AreSorted, AreWithin, IsWithin, TypeOver, of_any_sort, with_sort}
use Rattle.lq_sound_scope.proofs.ScopesLemmas.Assigned.{wider}
use Rattle.lq_sound_scope.proofs.ScopesLemmas.Symbols.{within_one}
use Rattle.lq_sound_scope.specs.Operations.Laws.{KeepNames, NamesAreKept}
use Rattle.lq_sound_scope.specs.Environments.Laws.{RecursionsAreOver, TemplatesAreOver}

any_within : (N M : Symbols) → IsWithin N M → AreWithin (of_any_sort N) (of_any_sort M)
any_within N M w = record { terms = w; flags = w }

-- one more name at its sort is one more of any sort
sort_within : (N : Symbols) (k : Kind) (x : Symbol) → AreWithin (with_sort (of_any_sort N) k x) (of_any_sort (with_symbol N x))
sort_within N number x = record { terms = λ y e. e; flags = within_one N x }
sort_within N truth_value x = record { terms = within_one N x; flags = λ y e. e }
sort_within N object x = record { terms = λ y e. e; flags = within_one N x }
sort_within N other x = record { terms = within_one N x; flags = within_one N x }

-- widening asks for no more than scopes of the unknowns
module _ (over : TypesAreOver) (kept : NamesAreKept) (P : Basis) (unknowns : ℕ → Unknown) (A : Assignment) (O : Objects) (sorted : AreSorted unknowns A) where
  abbrev Keep : Type 0
  Keep = KeepNames P.setting.constructors unknowns (λ u. symbols_in (unknowns u).0)

  wide : Keep
  wide = kept P.setting.constructors unknowns (λ u. symbols_in (unknowns u).0) (λ u. refl)

  type_over : (N M : Symbols) → IsWithin N M → (t : Refined) → TypeOver P.setting.constructors unknowns (of_any_sort N) t → IsTypeOver (scene_of P A O) M t
  type_over N M w t h = over P.setting.constructors unknowns (scene_of P A O) sorted M t (wide.widening (of_any_sort N) (of_any_sort M) (any_within N M w) t h)

  module _ (agree : (u : ℕ) → P.setting.scopes u ≡ symbols_in (unknowns u).0) (N : Symbols) (Γ : Context) (w : IsWithin N (names_in Γ)) (g y : ℕ) where
    -- these with the function's own name and the parameter
    abbrev Inner : Symbols
    Inner = with_symbol (with_symbol (names_in Γ) (symbol_of g)) (symbol_of y)

    inner_within : IsWithin (with_symbol N (symbol_of y)) Inner
    inner_within = wider N (with_symbol (names_in Γ) (symbol_of g)) (symbol_of y) (λ z e. within_one (names_in Γ) (symbol_of g) z (w z e))

    -- a result whose argument is named by the parameter, or not at all
    unnamed_over : (b : Refined) → TypeOver P.setting.constructors unknowns (of_any_sort N) b → TypeOn A b Inner
    unnamed_over b h = (type_over N Inner (λ z e. inner_within z (within_one N (symbol_of y) z e)) b h).0

    named_over : (x : ℕ) → x ≡ y → (k : Kind) (b : Refined) → TypeOver P.setting.constructors unknowns (with_sort (of_any_sort N) k (symbol_of x)) b
        → TypeOn A (renamed P.setting.scopes (Some x) (Some y) k b) Inner
    named_over x e k b h =
        let M = with_symbol N (symbol_of x) in
        let o = wide.widening (with_sort (of_any_sort N) k (symbol_of x)) (of_any_sort M) (sort_within N k (symbol_of x)) b h in
        let own = subst (λ z. TypeOver P.setting.constructors unknowns (of_any_sort (with_symbol N (symbol_of z))) b) e o in
        subst (λ c. TypeOn A (cond c b (applied P.setting.scopes (Some x) (atom_of k (symbol_of y)) b)) Inner) (sym (eq-eqb x y e))
        (type_over (with_symbol N (symbol_of y)) Inner inner_within b own).0

    -- of a function type
    record FunctionOver (t : Refined) : Type 0 where
      names : NamesArgument A (names_in Γ) y t
      argument : IsTypeOver (scene_of P A O) (with_symbol (names_in Γ) (symbol_of g)) (argument_of t)
      body : TypeOn A (body_type P.setting.scopes y t) (with_symbol (with_symbol (names_in Γ) (symbol_of g)) (symbol_of y))

    function_over : (t : Refined) → TypeOver P.setting.constructors unknowns (of_any_sort N) t → NamesParameter y t → FunctionOver t
    function_over (function None a b) h n =
        record {
          names = (type_over N (names_in Γ) w b (h.0.2, h.0.3)).0;
          argument = type_over N (with_symbol (names_in Γ) (symbol_of g)) (λ z e. within_one (names_in Γ) (symbol_of g) z (w z e)) a (h.0.0, h.0.1);
          body = unnamed_over b (h.0.2, h.0.3);
        }
    function_over (function (Some x) a b) h n =
        record {
          names = n;
          argument = type_over N (with_symbol (names_in Γ) (symbol_of g)) (λ z e. within_one (names_in Γ) (symbol_of g) z (w z e)) a (h.0.0, h.0.1);
          body = named_over x n (kind a) b (h.0.2, h.0.3);
        }
    function_over (int_with p) h n = absurd n
    function_over (bool_with p) h n = absurd n
    function_over unit_type h n = absurd n
    function_over (tuple_of ts) h n = absurd n
    function_over (array_with e p) h n = absurd n
    function_over (data_with d ts m p) h n = absurd n
    function_over (map_with e p) h n = absurd n
    function_over (type_variable i) h n = absurd n

pub template_over : TypesAreOver → NamesAreKept → TemplatesAreOver
template_over over kept P unknowns A O sorted N Γ w p h = type_over over kept P unknowns A O sorted N (names_in Γ) w (P.template p) h

pub recursion_over : TypesAreOver → NamesAreKept → RecursionsAreOver
recursion_over over kept P unknowns A O sorted agree N Γ w g p y h n =
    let f : FunctionOver over kept P unknowns A O sorted agree N Γ w g y (P.template p) = function_over over kept P unknowns A O sorted agree N Γ w g y (P.template p) h n in
    (f.names, type_over over kept P unknowns A O sorted N (names_in Γ) w (P.template p) h, f.argument, f.body)
