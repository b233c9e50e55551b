-- Forms of programs that are scalar: types for what is written, flows, and uses.
use Rattle.std.proofs.Common.{◌≡◌, ℕ, Bool, true, List, [], ◌∷◌, ◌++◌, Some, None, refl, subst}
use Rattle.lq_refined_rules.specs.Checks.Basis.{Basis}
use Rattle.lq_refined_rules.specs.Checks.Tree as tree
use Rattle.lq_refined_rules.specs.Checks.Tree.{names_of, Use, Pure, Operation, pure, fun, if_else, match_on, call, tuple, build, make, fetch, store, divide, remainder, assert, assert_false, read, print, map_empty, map_add, map_find, Arms, no_arms, arm, Block, last, binding, recursive}
use Rattle.lq_sound_values.specs.Inclusion.Symbols.{Symbols, with_symbol}
use Rattle.lq_sound_scope.specs.Scopes.InScope as scopes
use Rattle.lq_sound_scope.specs.Scopes.InScope.{ArmsInScope, BlockInScope, OperationInScope, PureInScope, PuresInScope, UseInScope}
use Rattle.lq_refined_types.specs.Types.Operations.{symbol_of}
use Rattle.lq_refined_types.specs.Types.Refined.{Refined, int_with, bool_with, unit_type, function, tuple_of, array_with, data_with, map_with, type_variable}
use Rattle.lq_sound_programs.specs.Safety.Programs.{ArePuresOf, ArmsUseOnly, BlockUsesOnly, IsUse, UsesOnly, with_names}
use Rattle.lq_sound_forms.specs.Pures.Pures.{EachUse}
use Rattle.lq_refined_templates.specs.Templates.Scopes.{Unknown}
use Rattle.lq_sound_scope.specs.Scalars.Scalar.{HaveTwins}
use Rattle.lq_sound_scope.specs.Scalars.Uses.{ArmsUseBefore, BlockUsesBefore, IsUseBefore, PureUsesBefore, PuresUseBefore, UsesBefore}
use Rattle.lq_sound_scope.specs.Scalars.Written.{AreArmsWritten, ArmsHaveForms, BlockHasForms, EachUseIn, HasForms, IsBlockFor, IsBlockWritten, IsFunctionFor, IsNameless, IsOperationFor, IsOperationWritten, IsScalar}

-- ---- twins of binders

pub twins_front : (xs ys : List ℕ) → HaveTwins (xs ++ ys) → HaveTwins xs
twins_front [] ys h = tt
twins_front (x ∷ xs) ys h = (h.0, twins_front xs ys h.1)

pub twins_back : (xs ys : List ℕ) → HaveTwins (xs ++ ys) → HaveTwins ys
twins_back [] ys h = h
twins_back (x ∷ xs) ys h = twins_back xs ys h.1

-- ---- types for what is written

mutual
  pub nameless_block : (b : Block) (t : Refined) → IsNameless t → IsBlockFor b t
  nameless_block (last l o) t h = nameless_operation o t h
  nameless_block (binding x l o b) t h = h
  nameless_block (recursive g p y b c) t h = h

  nameless_operation : (o : Operation) (t : Refined) → IsNameless t → IsOperationFor o t
  nameless_operation (fun p y b) (function None a r) h = (tt, (h.0.0, h.0.1), nameless_block b r (h.0.2, h.1.1))
  nameless_operation (fun p y b) (function (Some x) a r) h = absurd h.1
  nameless_operation (fun p y b) (int_with q) h = h
  nameless_operation (fun p y b) (bool_with q) h = h
  nameless_operation (fun p y b) unit_type h = h
  nameless_operation (fun p y b) (tuple_of ts) h = h
  nameless_operation (fun p y b) (array_with e q) h = h
  nameless_operation (fun p y b) (data_with d ts m q) h = h
  nameless_operation (fun p y b) (map_with e q) h = h
  nameless_operation (fun p y b) (type_variable i) h = h
  nameless_operation (pure e) t h = h
  nameless_operation (if_else p c a b) t h = h
  nameless_operation (match_on p u arms) t h = h
  nameless_operation (call g a) t h = h
  nameless_operation (tuple es) t h = h
  nameless_operation (build p c es) t h = h
  nameless_operation (make p n e) t h = h
  nameless_operation (fetch u i) t h = h
  nameless_operation (store u i e) t h = h
  nameless_operation (divide x y) t h = h
  nameless_operation (remainder x y) t h = h
  nameless_operation (assert e) t h = h
  nameless_operation (assert_false p) t h = h
  nameless_operation (read e) t h = h
  nameless_operation (print e) t h = h
  nameless_operation (map_empty p) t h = h
  nameless_operation (map_add p k e m) t h = h
  nameless_operation (map_find k m) t h = h

pub nameless_function : (y : ℕ) (b : Block) (t : Refined) → IsNameless t → IsFunctionFor y b t
nameless_function y b t h = nameless_operation (fun 0 y b) t h

mutual
  pub block_scalar : (b : Block) (t : Refined) → IsBlockFor b t → IsScalar t
  block_scalar (last l o) t h = operation_scalar o t h
  block_scalar (binding x l o b) t h = h.0
  block_scalar (recursive g p y b c) t h = h.0

  operation_scalar : (o : Operation) (t : Refined) → IsOperationFor o t → IsScalar t
  operation_scalar (fun p y b) (function x a r) h = (h.1.0, h.1.1, block_scalar b r h.2)
  operation_scalar (fun p y b) (int_with q) h = h.0
  operation_scalar (fun p y b) (bool_with q) h = h.0
  operation_scalar (fun p y b) unit_type h = h.0
  operation_scalar (fun p y b) (tuple_of ts) h = h.0
  operation_scalar (fun p y b) (array_with e q) h = h.0
  operation_scalar (fun p y b) (data_with d ts m q) h = h.0
  operation_scalar (fun p y b) (map_with e q) h = h.0
  operation_scalar (fun p y b) (type_variable i) h = h.0
  operation_scalar (pure e) t h = h.0
  operation_scalar (if_else p c a b) t h = h.0
  operation_scalar (match_on p u arms) t h = h.0
  operation_scalar (call g a) t h = h.0
  operation_scalar (tuple es) t h = h.0
  operation_scalar (build p c es) t h = h.0
  operation_scalar (make p n e) t h = h.0
  operation_scalar (fetch u i) t h = h.0
  operation_scalar (store u i e) t h = h.0
  operation_scalar (divide x y) t h = h.0
  operation_scalar (remainder x y) t h = h.0
  operation_scalar (assert e) t h = h.0
  operation_scalar (assert_false p) t h = h.0
  operation_scalar (read e) t h = h.0
  operation_scalar (print e) t h = h.0
  operation_scalar (map_empty p) t h = h.0
  operation_scalar (map_add p k e m) t h = h.0
  operation_scalar (map_find k m) t h = h.0

pub function_scalar : (y p : ℕ) (b : Block) (t : Refined) → IsFunctionFor y b t → IsScalar t
function_scalar y p b t h = operation_scalar (fun p y b) t h

-- ---- forms

module _ (P : Basis) (C : Use → Type 0) where
  mutual
    operation_forms : (o : Operation) → IsOperationWritten P C o → HasForms C o
    operation_forms (pure e) w = w
    operation_forms (fun p y b) w = block_forms true b w
    operation_forms (if_else p c a b) w = (w.0, block_forms true a w.1, block_forms true b w.2)
    operation_forms (match_on p u arms) w = (w.0, arms_forms arms w.2)
    operation_forms (call g a) w = w
    operation_forms (tuple es) w = w
    operation_forms (build p c es) w = w.0
    operation_forms (make p n e) w = (w.0, w.1)
    operation_forms (fetch u i) w = w
    operation_forms (store u i e) w = w
    operation_forms (divide x y) w = w
    operation_forms (remainder x y) w = w
    operation_forms (assert e) w = w
    operation_forms (assert_false p) w = tt
    operation_forms (read e) w = w
    operation_forms (print e) w = w
    operation_forms (map_empty p) w = absurd w
    operation_forms (map_add p k e m) w = absurd w
    operation_forms (map_find k m) w = absurd w

    pub block_forms : (g : Bool) (b : Block) → IsBlockWritten P C g b → BlockHasForms C b
    block_forms g (last l o) w = operation_forms o w.0
    block_forms g (binding x l o b) w = (operation_forms o w.0, block_forms g b w.2)
    block_forms g (recursive f p y b c) w = (block_forms true b w.1, block_forms g c w.2)

    pub arms_forms : (arms : Arms) → AreArmsWritten P C arms → ArmsHaveForms C arms
    arms_forms no_arms w = tt
    arms_forms (arm q b arms) w = (block_forms true b w.0, arms_forms arms w.1)

-- ---- scopes

-- the names of a pattern
pub same_names : (N : Symbols) (xs : List ℕ) → scopes.with_names N xs ≡ with_names N xs
same_names N [] = refl
same_names N (x ∷ xs) = same_names (with_symbol N (symbol_of x)) xs

module _ (P : Basis) (unknowns : ℕ → Unknown) (G : Symbols) (C : Use → Type 0) (before : (u : Use) → C u → IsUseBefore G u) where
  use_is : (N : Symbols) (u : Use) → UseInScope P unknowns N u → C u → IsUse G N u
  use_is N u h c = (h.0, before u c)

  pure_is : (N : Symbols) (e : Pure) → PureInScope P unknowns N e → EachUse C e → EachUse (IsUse G N) e
  pure_is N (tree.whole n) h w = tt
  pure_is N (tree.flag b) h w = tt
  pure_is N tree.unit h w = tt
  pure_is N (tree.use_of u) h w = use_is N u h w
  pure_is N (tree.negated a) h w = pure_is N a h w
  pure_is N (tree.add a b) h w = (pure_is N a h.0 w.0, pure_is N b h.1 w.1)
  pure_is N (tree.subtract a b) h w = (pure_is N a h.0 w.0, pure_is N b h.1 w.1)
  pure_is N (tree.multiply a b) h w = (pure_is N a h.0 w.0, pure_is N b h.1 w.1)
  pure_is N (tree.length_of a) h w = pure_is N a h w
  pure_is N (tree.compare c a b) h w = (pure_is N a h.0 w.0, pure_is N b h.1 w.1)
  pure_is N (tree.not_of a) h w = pure_is N a h w
  pure_is N (tree.and_of a b) h w = (pure_is N a h.0 w.0, pure_is N b h.1 w.1)
  pure_is N (tree.or_of a b) h w = (pure_is N a h.0 w.0, pure_is N b h.1 w.1)

  pures_are : (N : Symbols) (es : List Pure) → PuresInScope P unknowns N es → EachUseIn C es → ArePuresOf G N es
  pures_are N [] h w = tt
  pures_are N (e ∷ es) h w = (pure_is N e h.0 w.0, pures_are N es h.1 w.1)

  mutual
    operation_uses : (N : Symbols) (o : Operation) → OperationInScope P unknowns N o → HasForms C o → UsesOnly G N o
    operation_uses N (pure e) h w = pure_is N e h w
    operation_uses N (fun p y b) h w = form_uses (with_symbol N (symbol_of y)) b h.2 w
    operation_uses N (if_else p c a b) h w = (pure_is N c h.1 w.0, form_uses N a h.2 w.1, form_uses N b h.3 w.2)
    operation_uses N (match_on p u arms) h w = (use_is N u h.1 w.0, arms_uses N arms h.2 w.1)
    operation_uses N (call g a) h w = (pure_is N g h.0 w.0, pure_is N a h.1 w.1)
    operation_uses N (tuple es) h w = pures_are N es h w
    operation_uses N (build p c es) h w = pures_are N es h.1 w
    operation_uses N (make p n e) h w = (pure_is N n h.1 w.0, pure_is N e h.2 w.1)
    operation_uses N (fetch u i) h w = (use_is N u h.0 w.0, pure_is N i h.1 w.1)
    operation_uses N (store u i e) h w = (use_is N u h.0 w.0, pure_is N i h.1 w.1, pure_is N e h.2 w.2)
    operation_uses N (divide x y) h w = (pure_is N x h.0 w.0, pure_is N y h.1 w.1)
    operation_uses N (remainder x y) h w = (pure_is N x h.0 w.0, pure_is N y h.1 w.1)
    operation_uses N (assert e) h w = pure_is N e h w
    operation_uses N (assert_false p) h w = tt
    operation_uses N (read e) h w = pure_is N e h w
    operation_uses N (print e) h w = pure_is N e h w
    operation_uses N (map_empty p) h w = absurd w
    operation_uses N (map_add p k e m) h w = absurd w
    operation_uses N (map_find k m) h w = absurd w

    form_uses : (N : Symbols) (b : Block) → BlockInScope P unknowns N b → BlockHasForms C b → BlockUsesOnly G N b
    form_uses N (last l o) h w = operation_uses N o h w
    form_uses N (binding x l o b) h w = (operation_uses N o h.0 w.0, form_uses (with_symbol N (symbol_of x)) b h.1 w.1)
    form_uses N (recursive f p y b c) h w =
        (form_uses (with_symbol (with_symbol N (symbol_of f)) (symbol_of y)) b h.2 w.0, form_uses (with_symbol N (symbol_of f)) c h.3 w.1)

    arms_uses : (N : Symbols) (arms : Arms) → ArmsInScope P unknowns N arms → ArmsHaveForms C arms → ArmsUseOnly G N arms
    arms_uses N no_arms h w = tt
    arms_uses N (arm q b arms) h w =
        (form_uses (with_names N (names_of q)) b (subst (λ M. BlockInScope P unknowns M b) (same_names N (names_of q)) h.0) w.0, arms_uses N arms h.1 w.1)

module _ (P : Basis) (unknowns : ℕ → Unknown) (G : Symbols) (C : Use → Type 0) (before : (u : Use) → C u → IsUseBefore G u) where
  pub block_uses : (g : Bool) (N : Symbols) (b : Block) → BlockInScope P unknowns N b → IsBlockWritten P C g b → BlockUsesOnly G N b
  block_uses g N b h w = form_uses P unknowns G C before N b h (block_forms P C g b w)

-- ---- uses that are two things

module _ (C D : Use → Type 0) where
  abbrev Both : Use → Type 0
  Both u = C u × D u

  pure_both : (e : Pure) → EachUse C e → EachUse D e → EachUse Both e
  pure_both (tree.whole n) c d = tt
  pure_both (tree.flag b) c d = tt
  pure_both tree.unit c d = tt
  pure_both (tree.use_of u) c d = (c, d)
  pure_both (tree.negated a) c d = pure_both a c d
  pure_both (tree.add a b) c d = (pure_both a c.0 d.0, pure_both b c.1 d.1)
  pure_both (tree.subtract a b) c d = (pure_both a c.0 d.0, pure_both b c.1 d.1)
  pure_both (tree.multiply a b) c d = (pure_both a c.0 d.0, pure_both b c.1 d.1)
  pure_both (tree.length_of a) c d = pure_both a c d
  pure_both (tree.compare o a b) c d = (pure_both a c.0 d.0, pure_both b c.1 d.1)
  pure_both (tree.not_of a) c d = pure_both a c d
  pure_both (tree.and_of a b) c d = (pure_both a c.0 d.0, pure_both b c.1 d.1)
  pure_both (tree.or_of a b) c d = (pure_both a c.0 d.0, pure_both b c.1 d.1)

module _ (P : Basis) (C : Use → Type 0) (G : Symbols) where
  abbrev KnownUse : Use → Type 0
  KnownUse u = C u × IsUseBefore G u

  one : (e : Pure) → EachUse C e → PureUsesBefore G e → EachUse KnownUse e
  one e c d = pure_both C (IsUseBefore G) e c d

  ones : (es : List Pure) → EachUseIn C es → PuresUseBefore G es → EachUseIn KnownUse es
  ones [] c d = tt
  ones (e ∷ es) c d = (one e c.0 d.0, ones es c.1 d.1)

  mutual
    operation_before : (o : Operation) → IsOperationWritten P C o → UsesBefore G o → IsOperationWritten P KnownUse o
    operation_before (pure e) w d = one e w d
    operation_before (fun p y b) w d = block_before true b w d
    operation_before (if_else p c a b) w d = (one c w.0 d.0, block_before true a w.1 d.1, block_before true b w.2 d.2)
    operation_before (match_on p u arms) w d = ((w.0, d.0), w.1, arms_before arms w.2 d.1)
    operation_before (call g a) w d = (one g w.0 d.0, one a w.1 d.1)
    operation_before (tuple es) w d = ones es w d
    operation_before (build p c es) w d = (ones es w.0 d, w.1)
    operation_before (make p n e) w d = (one n w.0 d.0, one e w.1 d.1, w.2)
    operation_before (fetch u i) w d = ((w.0, d.0), one i w.1 d.1)
    operation_before (store u i e) w d = ((w.0, d.0), one i w.1 d.1, one e w.2 d.2)
    operation_before (divide x y) w d = (one x w.0 d.0, one y w.1 d.1)
    operation_before (remainder x y) w d = (one x w.0 d.0, one y w.1 d.1)
    operation_before (assert e) w d = one e w d
    operation_before (assert_false p) w d = w
    operation_before (read e) w d = one e w d
    operation_before (print e) w d = one e w d
    operation_before (map_empty p) w d = absurd w
    operation_before (map_add p k e m) w d = absurd w
    operation_before (map_find k m) w d = absurd w

    pub block_before : (g : Bool) (b : Block) → IsBlockWritten P C g b → BlockUsesBefore G b → IsBlockWritten P KnownUse g b
    block_before g (last l o) w d = (operation_before o w.0 d, w.1)
    block_before g (binding x l o b) w d = (operation_before o w.0 d.0, w.1, block_before g b w.2 d.1)
    block_before g (recursive f p y b c) w d = (w.0, block_before true b w.1 d.0, block_before g c w.2 d.1)

    arms_before : (arms : Arms) → AreArmsWritten P C arms → ArmsUseBefore G arms → AreArmsWritten P KnownUse arms
    arms_before no_arms w d = tt
    arms_before (arm q b arms) w d = (block_before true b w.0 d.0, arms_before arms w.1 d.1)
