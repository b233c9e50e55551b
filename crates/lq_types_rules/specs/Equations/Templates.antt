-- Constructors as nodes that can be copied: the parameters come first, and what the fields' types are made of stands behind them.
use Rattle.std.specs.Prelude.{◌≡◌, ℕ, zero, suc, ◌+◌, ◌<◌, ◌≤◌, List, [], ◌∷◌, Option, Some, None, All, length, slice_index_or}
use Rattle.std.specs.Option.{option_map}
use Rattle.lq_text_tree.specs.MlType as ml
use Rattle.lq_text_tree.specs.MlType.{MlType, MlTypes}
use Rattle.lq_text_tree.specs.Types.{type_at, put_all, count_types, Constructor, Signature}
use Rattle.lq_types_unify.specs.declared.arena.Arena.{Arena}
use Rattle.lq_types_unify.specs.Nodes.{Form, renamed, form_at, IsArena}
use Rattle.lq_types_rules.specs.declared.equations.system.System.{System}
use Rattle.lq_types_rules.specs.declared.equations.template.Template.{Template}
use Rattle.lq_types_rules.specs.declared.equations.template.Constructors.{Constructors}
use Rattle.lq_types_rules.specs.Equations.Solutions.{each, Fits}
use Rattle.lq_types_rules.specs.Equations.Adding.{IsRight, count_of, forms_of}

-- the numbers from one on, so many
abbrev pub upto : ℕ → ℕ → List ℕ
upto first zero = []
upto first (suc n) = first ∷ upto (suc first) n

-- nodes of which each stands behind its parts
pub record IsStore (a : Arena) : Type 0 where
  pub arena : IsArena a
  pub right : (i : ℕ) (f : Form) → form_at a i ≡ Some f → IsRight f.head (length f.parts)
  pub lower : (i : ℕ) (f : Form) → form_at a i ≡ Some f → All (λ p. p < i) f.parts

-- the template's nodes can be copied
pub record IsWhole (t : Template) : Type 0 where
  pub store : IsStore t.types
  pub room : t.parameters ≤ length t.types.nodes.items
  pub fields_in : All (λ f. f < length t.types.nodes.items) t.fields.items

-- the template stands for the constructor
pub record IsTemplate (t : Template) (k : Constructor) : Type 0 where
  pub datatype : t.datatype ≡ k.datatype
  pub parameters : t.parameters ≡ k.parameters
  -- the fields' nodes have the fields' types, with the types of the parameters' nodes for the parameters
  pub reads : (types : ℕ → MlType) → Fits (form_at t.types) types → each types t.fields.items ≡ put_all (type_at (each types (upto 0 t.parameters))) k.fields
  -- and these may be any
  pub fills : (arguments : MlTypes) → count_types arguments ≡ k.parameters → (types : ℕ → MlType) × Fits (form_at t.types) types × (each types (upto 0 t.parameters) ≡ arguments)

abbrev pub IsEntry : Option Template → Option Constructor → Type 0
IsEntry None None = Unit {0}
IsEntry None (Some k) = ⊥
IsEntry (Some t) None = ⊥
IsEntry (Some t) (Some k) = IsTemplate t k

abbrev pub entry : Constructors → ℕ → Option Template
entry cs c = slice_index_or cs.entries.items c None

-- every template of the table can be copied
abbrev pub AreWhole : Constructors → Type 0
AreWhole cs = (c : ℕ) (t : Template) → entry cs c ≡ Some t → IsWhole t

-- the table has the constructors of the signature, by their names' numbers
abbrev pub HasSignature : Constructors → Signature → Type 0
HasSignature cs g = (c : ℕ) → IsEntry (entry cs c) (g c)

-- the type of a constructor's value where the fields have these types
abbrev pub Makes : Constructor → MlTypes → MlType → Type 0
Makes k ts t = (arguments : MlTypes) × (t ≡ ml.named k.datatype arguments) × (ts ≡ put_all (type_at arguments) k.fields) × (count_types arguments ≡ k.parameters)

-- the form with so much more for each part's number
abbrev pub shifted : ℕ → Option Form → Option Form
shifted base o = option_map (renamed (λ p. base + p)) o

-- the first nodes of a store, so many, again behind those that there were
pub record IsCopied (old new : System) (types : Arena) (base count : ℕ) : Type 0 where
  pub base_is : base ≡ count_of old
  pub long : count_of new ≡ base + count
  pub arena : IsArena new.arena
  pub kept : (i : ℕ) → i < base → forms_of new i ≡ forms_of old i
  pub copies : (i : ℕ) → i < count → forms_of new (base + i) ≡ shifted base (form_at types i)
  pub equations_are : new.equations.items ≡ old.equations.items
