-- The names that a program reads, assigns and calls, and the names of its cells, each as often as it stands in the
-- text. In an accepted program the names of a section's parameters and locals differ from each other and from those of
-- the top level.
use Rattle.std.specs.List.{flat_map}
use Rattle.std.specs.Prelude.{Bool, true, false, List, [], ◌∷◌, ◌++◌, if◌then◌else◌}
use Rattle.syntax.specs.Trees.{Ident, Place, lone, element, path, Expr, int, null, place, paren, prefix, chain}
use Rattle.syntax.specs.Trees.{compare, Links, no_links, link, Stmt, let_local, let_owned, let_call, var_local, assign}
use Rattle.syntax.specs.Trees.{if_then, while, print, return_value, Stmts, Member, field_member, Section, Item}
use Rattle.syntax.specs.Trees.{repeat, Items, no_items, item, Decl, struct, global, array, atomic, helper, thread}
use Rattle.syntax.specs.Trees as tree
use Rattle.explanation_names.specs.Vars.{all_of}

-- ---- expressions

module _ (with_fields : Bool) where
  abbrev mutual
    -- the names in an expression, with those after dots where `with_fields` is true
    pub names_in : Expr → List Ident
    names_in (int n) = []
    names_in (null at) = []
    names_in (place p) = names_at p
    names_in (paren at e) = names_in e
    names_in (prefix o at e) = names_in e
    names_in (chain level e links) = names_in e ++ names_behind links
    names_in (compare a c b) = names_in a ++ names_in b

    -- the names in a place
    pub names_at : Place → List Ident
    names_at (lone x) = x ∷ []
    names_at (element x e) = x ∷ names_in e
    names_at (path x fs) = x ∷ (if with_fields then fs else [])

    -- the names in the further operands of a chain
    pub names_behind : Links → List Ident
    names_behind no_links = []
    names_behind (link o e rest) = names_in e ++ names_behind rest

-- the names of locals, globals, arrays and pools
abbrev pub read_in : Expr → List Ident
read_in = names_in false

-- these names and those of fields
abbrev pub all_in : Expr → List Ident
all_in = names_in true

-- ---- statements

-- the names that an assignment reads before its `=`: those of an index, and the object of a field
abbrev pub read_ahead : Place → List Ident
read_ahead (lone x) = []
read_ahead (element x e) = names_at false (element x e)
read_ahead (path x fs) = names_at false (path x fs)

-- the names that a statement itself reads, without those of its blocks
abbrev pub reads : Stmt → List Ident
reads (let_local l) = read_in l.value
reads (let_owned l o) = read_in l.value ++ o.local ∷ []
reads (let_call l) = flat_map read_in l.call.arguments
reads (var_local l) = read_in l.value
reads (assign p e) = read_ahead p ++ read_in e
reads (if_then start e body close other) = read_in e
reads (while start e body close) = read_in e
reads (print start e) = read_in e
reads (return_value start e) = read_in e
reads (tree.call start c) = flat_map read_in c.arguments

-- the names that a body reads
abbrev pub read_among : Stmts → List Ident
read_among body = flat_map reads (all_of body)

-- the name after the last dot
abbrev pub last_of : Ident → List Ident → Ident
last_of x [] = x
last_of x (y ∷ ys) = last_of y ys

-- the variable, array or field that an assignment writes
abbrev pub written : Place → Ident
written (lone x) = x
written (element x e) = x
written (path x fs) = last_of x fs

-- the names that a statement itself may write; a helper that it calls may write all cells, whose names these are
abbrev pub writes : List Ident → Stmt → List Ident
writes cells (assign p e) = written p ∷ []
writes cells (let_call l) = cells
writes cells (tree.call start c) = cells
writes cells _ = []

-- the names that a body may write
abbrev pub written_among : List Ident → Stmts → List Ident
written_among cells body = flat_map (writes cells) (all_of body)

-- the helper that a statement itself calls
abbrev pub calls : Stmt → List Ident
calls (let_call l) = l.call.helper ∷ []
calls (tree.call start c) = c.helper ∷ []
calls _ = []

-- ---- declarations

-- the helpers that the statements of a section call
abbrev pub called_in : Section → List Ident
called_in s = flat_map calls (all_of s.body.stmts)

-- the helpers that a declaration calls
abbrev pub helpers_called : Decl → List Ident
helpers_called (atomic s) = called_in s
helpers_called (helper s) = called_in s
helpers_called _ = []

abbrev mutual
  -- the sections that a part of a thread calls
  pub called_by : Item → List Ident
  called_by (tree.Item.call c) = c.section ∷ []
  called_by (repeat n is) = called_by_all is

  -- the sections that these parts of a thread call
  pub called_by_all : Items → List Ident
  called_by_all no_items = []
  called_by_all (item i rest) = called_by i ++ called_by_all rest

-- the sections that a declaration calls
abbrev pub sections_called : Decl → List Ident
sections_called (thread t) = called_by_all t.items
sections_called _ = []

-- the name of the field that a member is, if it is one
abbrev pub field_name : Member → List Ident
field_name (field_member f) = f.name ∷ []
field_name _ = []

-- the globals, arrays and fields that a declaration declares
abbrev pub cell_names : Decl → List Ident
cell_names (global v) = v.name ∷ []
cell_names (array a) = a.name ∷ []
cell_names (struct s) = flat_map field_name s.members
cell_names _ = []
