-- The command that is built has the arguments, and its parse goes by them.
use Rattle.std.proofs.Common.{◌≡◌, ◌∙◌, Some, true, IfOk, Result, ap, ap₂, codes, refl, subst, map, List, ℕ, string_bytes}
use Rattle.std.proofs.lemmas.Result.{IfOk-weaker}
use Rattle.clap.specs.declared.builder.arg.Arg.{Arg}
use Rattle.clap.specs.declared.parser.matches.ArgMatches.{ArgMatches}
use Rattle.clap.specs.declared.error.Error.{Error}
use Rattle.clap.specs.Words.{App, FailsBy, HasMatchesOf, Rule, found_of, rows_of, app_of, fault_of, is_simple, is_simple_and_free, matches_of, new_app, rule_of, with_rule}
use Rattle.lq_top_words.specs.Command.Arguments.{arguments, option, positional}
use Rattle.lq_top_words.proofs.command.line.matches.Goals as goal

abbrev two : App
two = with_rule (with_rule (new_app (codes "lq")) (positional (codes "MODE"))) (positional (codes "SUBJECT"))

abbrev three : App
three = with_rule two (option (codes "quals"))

abbrev four : App
four = with_rule three (option (codes "measures"))

simple : is_simple arguments ≡ true
unfolding arguments
simple = refl

free : is_simple_and_free arguments ≡ true
unfolding arguments
free = refl

rows_by : (a b : App) (words : List (List ℕ)) (r : Result ArgMatches Error) → a ≡ b → is_simple b ≡ true → IfOk r (HasMatchesOf a words)
    → IfOk r (λ m. rows_of (found_of m) ≡ matches_of b words)
rows_by a b words r same simple_b h =
    IfOk-weaker r (HasMatchesOf b words) (λ m. rows_of (found_of m) ≡ matches_of b words) (λ m has. (has simple_b).0)
    (subst (λ (x : App). IfOk r (HasMatchesOf x words)) same h)

fails_by : (a b : App) (words : List (List ℕ)) (r : Result ArgMatches Error) → a ≡ b → is_simple_and_free b ≡ true
    → (is_simple_and_free a ≡ true → FailsBy (fault_of a words) r) → FailsBy (fault_of b words) r
fails_by a b words r same free_b h = subst (λ (x : App). is_simple_and_free x ≡ true → FailsBy (fault_of x words) r) same h free_b

pub returns : goal.returns
unfolding arguments
returns c =
    let mode_is : rule_of c.required-mode.result ≡ positional (codes "MODE") =
    ap rule_of c.required-mode.ensures ∙ ap (λ (r : Rule). record r { required = true }) c.new.ensures.rule in
    let subject_is : rule_of c.required-subject.result ≡ positional (codes "SUBJECT") =
    ap rule_of c.required-subject.ensures ∙ ap (λ (r : Rule). record r { required = true }) c.new-2.ensures.rule in
    let quals_is : rule_of c.long-quals.result ≡ option (codes "quals") =
    ap rule_of c.long-quals.ensures ∙ ap (λ (r : Rule). record r { long = Some (codes "quals") }) c.new-3.ensures.rule in
    let measures_is : rule_of c.long-measures.result ≡ option (codes "measures") =
    ap rule_of c.long-measures.ensures ∙ ap (λ (r : Rule). record r { long = Some (codes "measures") }) c.new-4.ensures.rule in
    let pivots_is : rule_of c.long-pivots.result ≡ option (codes "pivots") =
    ap rule_of c.long-pivots.ensures ∙ ap (λ (r : Rule). record r { long = Some (codes "pivots") }) c.new-5.ensures.rule in
    let first : app_of c.in_ok-arg.field-0 ≡ with_rule (new_app (codes "lq")) (positional (codes "MODE")) =
    c.in_ok-arg.ensures.shape (ap (λ (a : Arg). a.global) c.required-mode.ensures ∙ c.new.ensures.optional.1) ∙ ap₂ with_rule c.new-6.ensures.app mode_is in
    let second : app_of c.in_ok-arg-2.field-0 ≡ two =
    c.in_ok-arg-2.ensures.shape (ap (λ (a : Arg). a.global) c.required-subject.ensures ∙ c.new-2.ensures.optional.1) ∙ ap₂ with_rule first subject_is in
    let third : app_of c.in_ok-arg-3.field-0 ≡ three =
    c.in_ok-arg-3.ensures.shape (ap (λ (a : Arg). a.global) c.long-quals.ensures ∙ c.new-3.ensures.optional.1) ∙ ap₂ with_rule second quals_is in
    let fourth : app_of c.in_ok-arg-4.field-0 ≡ four =
    c.in_ok-arg-4.ensures.shape (ap (λ (a : Arg). a.global) c.long-measures.ensures ∙ c.new-4.ensures.optional.1) ∙ ap₂ with_rule third measures_is in
    let all : app_of c.in_ok-command.command ≡ arguments =
    c.in_ok-command.ensures.shape (ap (λ (a : Arg). a.global) c.long-pivots.ensures ∙ c.new-5.ensures.optional.1) ∙ ap₂ with_rule fourth pivots_is in
    let parse = c.try_get_matches_from in
    record {
      rows = rows_by (app_of c.in_ok-command.command) arguments (map string_bytes c.args.words.now) parse.result all simple parse.ensures.matches;
      fails = fails_by (app_of c.in_ok-command.command) arguments (map string_bytes c.args.words.now) parse.result all free parse.ensures.kinds;
    }
