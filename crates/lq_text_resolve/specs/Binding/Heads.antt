-- Primitives by their names, and with a part of their arguments.
use Rattle.std.specs.Prelude.{ℕ, List, Option, Some, None, if◌then◌else◌, codes}
use Rattle.std.specs.Str.{bytes_eq}
use Rattle.lq_text_tree.specs.Tree as form
use Rattle.lq_text_tree.specs.Tree.{Tree, Form}

-- a primitive that lacks arguments, with those that it has
pub data Head : Type 0 where
  read : Head
  print : Head
  length_of : Head
  make : Head
  make_of : Tree → Head
  find : Head
  find_of : Tree → Head
  add : Head
  add_of : Tree → Head
  add_to : Tree → Tree → Head

-- a primitive with one argument more: a form, once it has all
pub data Given : Type 0 where
  done : Form → Given
  lacking : Head → Given

abbrev pub given : Head → Tree → Given
given read a = done (form.read a)
given print a = done (form.print a)
given length_of a = done (form.length_of a)
given make a = lacking (make_of a)
given (make_of n) a = done (form.make n a)
given find a = lacking (find_of a)
given (find_of k) a = done (form.map_find k a)
given add a = lacking (add_of a)
given (add_of k) a = lacking (add_to k a)
given (add_to k e) a = done (form.map_add k e a)

-- how many arguments it lacks
abbrev pub lack_of : Head → ℕ
lack_of read = 1
lack_of print = 1
lack_of length_of = 1
lack_of make = 2
lack_of (make_of n) = 1
lack_of find = 2
lack_of (find_of k) = 1
lack_of add = 3
lack_of (add_of k) = 2
lack_of (add_to k e) = 1

-- the primitive of this name, and of this name behind an upper name and a dot
abbrev pub primitive_named : List ℕ → Option Given
primitive_named text =
    if bytes_eq text (codes "read_int") then Some (lacking read) else if bytes_eq text (codes "print_int") then Some (lacking print) else None

abbrev pub array_primitive : List ℕ → Option Given
array_primitive text = if bytes_eq text (codes "make") then Some (lacking make) else if bytes_eq text (codes "length") then Some (lacking length_of) else None

abbrev pub map_primitive : List ℕ → Option Given
map_primitive text =
    if bytes_eq text (codes "empty") then Some (done form.map_empty)
    else if bytes_eq text (codes "add") then Some (lacking add)
    else if bytes_eq text (codes "find") then Some (lacking find)
    else None

abbrev pub primitive_in : List ℕ → List ℕ → Option Given
primitive_in front text =
    if bytes_eq front (codes "Array") then array_primitive text else if bytes_eq front (codes "Map") then map_primitive text else None
