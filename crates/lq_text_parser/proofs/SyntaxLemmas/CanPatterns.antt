-- Patterns that the lines of the grammar read can be read.
use Rattle.std.proofs.Common.{◌≡◌, ℕ, List, ◌∷◌, inl, inr}
use Rattle.lq_base_names.specs.declared.place.Place.{Place}
use Rattle.lq_text_grammar.specs.declared.kind.Kind.TheVariants as kind
use Rattle.lq_text_grammar.specs.declared.rule.Rule.TheVariants.{InBinding, InExpression, InPattern}
use Rattle.lq_text_grammar.specs.declared.rule.BindingPart.TheVariants.{LetTail, LetRest, FunTail, FunRest, Parameter, SimplesInside, Simple}
use Rattle.lq_text_grammar.specs.declared.rule.ExpressionPart.TheVariants.{Seq, LetTuple}
use Rattle.lq_text_grammar.specs.declared.rule.PatternPart.TheVariants.{Pattern as PatternPart, PatternTuple, ArgumentsInside}
use Rattle.lq_text_tree.specs.Pattern.{Pattern, pattern, tuple_of}
use Rattle.lq_text_tree.specs.PatternView.{patterns_of}
use Rattle.lq_text_actions.specs.Value.{Lexeme, Value, pattern_read, patterns}
use Rattle.lq_text_parser.specs.Syntax.Patterns.{ReadsPattern, a_simple, a_parameter, a_pattern, members, inside, simple_name, simple_any, parameter_simple, parameter_unit, parameter_tuple, inside_end, inside_more, pattern_simple, pattern_unit, pattern_nil, pattern_cons, pattern_tuple, pattern_inside, pattern_alone, pattern_one, pattern_many, members_end, members_more}
use Rattle.lq_text_parser.specs.Syntax.Tokens.{Token, Is}
use Rattle.lq_text_parser.proofs.SyntaxLemmas.Doing.{State, state, Can, can}

pub can-simple : {a : Pattern} {ts us : List Token} → ReadsPattern (a_simple a) ts us → (l : Lexeme) (n : ℕ) (vs : List Value) (K : State → Type 0) → ((m : Lexeme) → K (state us m n (pattern_read a ∷ vs))) → Can (InBinding Simple) (state ts l n vs) K
can-simple (simple_name i) l n vs K k = can _ _ _ (inl (tt, (i.0, rw i.1 (k _))))
can-simple (simple_any i) l n vs K k = can _ _ _ (inr (inl (tt, (i, k _))))

pub can-inside : {ps qs : List Pattern} {ts us : List Token} → ReadsPattern (inside ps qs) ts us → (l : Lexeme) (n : ℕ) (vs : List Value) (p : Place) (K : State → Type 0) → ((m : Lexeme) → K (state us m n (patterns qs p ∷ vs))) → Can (InBinding SimplesInside) (state ts l n (patterns ps p ∷ vs)) K
can-inside (inside_end i) l n vs p K k = can _ _ _ (inl (tt, (i, k _)))
can-inside (inside_more i d e) l n vs p K k = can _ _ _ (inr (inl (tt, (i, can-simple d _ _ _ _ (λ m. can-inside e _ _ _ _ _ k)))))

pub can-arguments : {ps qs : List Pattern} {ts us : List Token} → ReadsPattern (inside ps qs) ts us → (l : Lexeme) (n : ℕ) (vs : List Value) (p : Place) (K : State → Type 0) → ((m : Lexeme) → K (state us m n (patterns qs p ∷ vs))) → Can (InPattern ArgumentsInside) (state ts l n (patterns ps p ∷ vs)) K
can-arguments (inside_end i) l n vs p K k = can _ _ _ (inl (tt, (i, k _)))
can-arguments (inside_more i d e) l n vs p K k = can _ _ _ (inr (inl (tt, (i, can-simple d _ _ _ _ (λ m. can-arguments e _ _ _ _ _ k)))))

can-members : {ps qs : List Pattern} {ts us : List Token} → ReadsPattern (members ps qs) ts us → (l : Lexeme) (n : ℕ) (vs : List Value) (p : Place) (K : State → Type 0) → ((m : Lexeme) → K (state us m n (pattern_read (pattern p (tuple_of (patterns_of qs))) ∷ vs))) → Can (InPattern PatternTuple) (state ts l n (patterns ps p ∷ vs)) K
can-members (members_end g) l n vs p K k = can _ _ _ (inr (inl (g, k l)))
can-members (members_more i d e) l n vs p K k = can _ _ _ (inl (tt, (i, can-simple d _ _ _ _ (λ m. can-members e _ _ _ _ _ k))))

pub let-members : {ps qs : List Pattern} {ts us vs : List Token} {u : Token} → ReadsPattern (members ps qs) ts us → us ≡ u ∷ vs → Is kind.Equal u → (l : Lexeme) (n : ℕ) (ws : List Value) (p : Place) (K : State → Type 0) → ((m : Lexeme) → Can (InExpression Seq) (state vs m n (pattern_read (pattern p (tuple_of (patterns_of qs))) ∷ ws)) K) → Can (InExpression LetTuple) (state ts l n (patterns ps p ∷ ws)) K
let-members (members_end g) e i l n ws p K k = rw e (can _ _ _ (inr (inl (tt, (i, k _)))))
let-members (members_more j d f) e i l n ws p K k = can _ _ _ (inl (tt, (j, can-simple d _ _ _ _ (λ m. let-members f e i _ _ _ _ _ k))))

pub can-parameter : {a : Pattern} {ts us : List Token} → ReadsPattern (a_parameter a) ts us → (l : Lexeme) (n : ℕ) (vs : List Value) (K : State → Type 0) → ((m : Lexeme) → K (state us m n (pattern_read a ∷ vs))) → Can (InBinding Parameter) (state ts l n vs) K
can-parameter (parameter_simple (simple_name i)) l n vs K k = can _ _ _ (inl (tt, (i.0, rw i.1 (k _))))
can-parameter (parameter_simple (simple_any i)) l n vs K k = can _ _ _ (inr (inl (tt, (i, k _))))
can-parameter (parameter_unit i j) l n vs K k = can _ _ _ (inr (inr (inl (tt, (i, can _ _ _ (inl (tt, (j, k _))))))))
can-parameter (parameter_tuple i d j e f) l n vs K k = can _ _ _ (inr (inr (inl (tt, (i, can _ _ _ (inr (inl (tt, can-simple d _ _ _ _ (λ m. (j, can-simple e _ _ _ _ (λ o. can-inside f _ _ _ _ _ k)))))))))))

pub let-parameter : {a : Pattern} {ts us : List Token} → ReadsPattern (a_parameter a) ts us → (l : Lexeme) (n : ℕ) (vs : List Value) (K : State → Type 0) → ((m : Lexeme) → Can (InBinding LetRest) (state us m n (pattern_read a ∷ vs)) K) → Can (InBinding LetTail) (state ts l n vs) K
let-parameter (parameter_simple (simple_name i)) l n vs K k = can _ _ _ (inr (inl (tt, (i.0, rw i.1 (k _)))))
let-parameter (parameter_simple (simple_any i)) l n vs K k = can _ _ _ (inr (inr (inl (tt, (i, k _)))))
let-parameter (parameter_unit i j) l n vs K k = can _ _ _ (inr (inr (inr (inl (tt, (i, can _ _ _ (inl (tt, (j, k _)))))))))
let-parameter (parameter_tuple i d j e f) l n vs K k = can _ _ _ (inr (inr (inr (inl (tt, (i, can _ _ _ (inr (inl (tt, can-simple d _ _ _ _ (λ m. (j, can-simple e _ _ _ _ (λ o. can-inside f _ _ _ _ _ k))))))))))))

pub fun-parameter : {a : Pattern} {ts us : List Token} → ReadsPattern (a_parameter a) ts us → (l : Lexeme) (n : ℕ) (vs : List Value) (K : State → Type 0) → ((m : Lexeme) → Can (InBinding FunRest) (state us m n (pattern_read a ∷ vs)) K) → Can (InBinding FunTail) (state ts l n vs) K
fun-parameter (parameter_simple (simple_name i)) l n vs K k = can _ _ _ (inr (inl (tt, (i.0, rw i.1 (k _)))))
fun-parameter (parameter_simple (simple_any i)) l n vs K k = can _ _ _ (inr (inr (inl (tt, (i, k _)))))
fun-parameter (parameter_unit i j) l n vs K k = can _ _ _ (inr (inr (inr (inl (tt, (i, can _ _ _ (inl (tt, (j, k _)))))))))
fun-parameter (parameter_tuple i d j e f) l n vs K k = can _ _ _ (inr (inr (inr (inl (tt, (i, can _ _ _ (inr (inl (tt, can-simple d _ _ _ _ (λ m. (j, can-simple e _ _ _ _ (λ o. can-inside f _ _ _ _ _ k))))))))))))

pub can-pattern : {a : Pattern} {ts us : List Token} → ReadsPattern (a_pattern a) ts us → (l : Lexeme) (n : ℕ) (vs : List Value) (K : State → Type 0) → ((m : Lexeme) → K (state us m n (pattern_read a ∷ vs))) → Can (InPattern PatternPart) (state ts l n vs) K
can-pattern (pattern_simple (simple_name i) g) l n vs K k = can _ _ _ (inl (tt, (i.0, rw i.1 (can _ _ _ (inr (inr (inl (g, k _))))))))
can-pattern (pattern_cons (simple_name i) j d) l n vs K k = can _ _ _ (inl (tt, (i.0, rw i.1 (can _ _ _ (inl (tt, (j, can-simple d _ _ _ _ (λ m. k m))))))))
can-pattern (pattern_tuple (simple_name i) j d e) l n vs K k = can _ _ _ (inl (tt, (i.0, rw i.1 (can _ _ _ (inr (inl (tt, (j, can-simple d _ _ _ _ (λ m. can-members e _ _ _ _ _ k)))))))))
can-pattern (pattern_simple (simple_any i) g) l n vs K k = can _ _ _ (inr (inl (tt, (i, can _ _ _ (inr (inr (inl (g, k _))))))))
can-pattern (pattern_cons (simple_any i) j d) l n vs K k = can _ _ _ (inr (inl (tt, (i, can _ _ _ (inl (tt, (j, can-simple d _ _ _ _ (λ m. k m))))))))
can-pattern (pattern_tuple (simple_any i) j d e) l n vs K k = can _ _ _ (inr (inl (tt, (i, can _ _ _ (inr (inl (tt, (j, can-simple d _ _ _ _ (λ m. can-members e _ _ _ _ _ k)))))))))
can-pattern (pattern_unit i j) l n vs K k = can _ _ _ (inr (inr (inl (tt, (i, can _ _ _ (inl (tt, (j, k _))))))))
can-pattern (pattern_nil i j) l n vs K k = can _ _ _ (inr (inr (inr (inl (tt, (i, (j, k _)))))))
can-pattern (pattern_inside i d j) l n vs K k = can _ _ _ (inr (inr (inl (tt, (i, can _ _ _ (inr (inl (tt, can-pattern d _ _ _ _ (λ m. (j, k _))))))))))
can-pattern (pattern_alone i g) l n vs K k = can _ _ _ (inr (inr (inr (inr (inl (tt, (i.0, rw i.1 (can _ _ _ (inr (inr (inr (inl (g, k _)))))))))))))
can-pattern (pattern_one i (simple_name j)) l n vs K k = can _ _ _ (inr (inr (inr (inr (inl (tt, (i.0, rw i.1 (can _ _ _ (inl (tt, (j.0, rw j.1 (k _))))))))))))
can-pattern (pattern_one i (simple_any j)) l n vs K k = can _ _ _ (inr (inr (inr (inr (inl (tt, (i.0, rw i.1 (can _ _ _ (inr (inl (tt, (j, k _))))))))))))
can-pattern (pattern_many i j d e) l n vs K k = can _ _ _ (inr (inr (inr (inr (inl (tt, (i.0, rw i.1 (can _ _ _ (inr (inr (inl (tt, (j, can-simple d _ _ _ _ (λ m. can-arguments e _ _ _ _ _ k))))))))))))))
