-- The notes on a cycle of lock classes: for each edge where a lock of its class is used, where the root of a path of
-- the next class is bound, and whether this binding itself uses a lock of the edge's class.
use Rattle.std.specs.Prelude.{◌≡◌, ◌<◌, ◌≤◌, ℕ, List, [], ◌∷◌, ◌++◌, slice_get, Some, None, codes, string_bytes}
use Rattle.core_lang.specs.declared.tree.Section.{Section}
use Rattle.core_lang.specs.declared.typed.Typed.{Typed}
use Rattle.flow.specs.Points.{Point, points, start_of}
use Rattle.locks.specs.LockPaths.{LockPath, Uses, BindsRoot}
use Rattle.locks.specs.Texts.{class_name, path_text}
use Rattle.lockorder.specs.declared.ranks.Edge.{Edge}
use Rattle.lockorder.specs.Edges.{UsesClass}
use Rattle.explanation.specs.Notes.{Note}

-- in SECTION: PATH of class CLASS WORDS
abbrev pub said : Typed → Section → LockPath → List ℕ → List ℕ
said program section path words =
    codes "in " ++ string_bytes section.name ++ codes ": " ++ path_text program section path ++ codes " of class "
    ++ class_name program path.class ++ codes " " ++ words

-- the words on a use
abbrev pub used_words : List ℕ
used_words = codes "is used here"

-- the words on a binding
abbrev pub bound_words : List ℕ
bound_words = codes "is used later, and its root is bound here"

-- the note stands at the start of the section's point with this number
abbrev pub StandsAt : Section → ℕ → Note → Type 0
StandsAt section p note = (point : Point) × (slice_get (points section) p ≡ Some point) × (note.start ≡ Some (start_of point))

-- a path of the class is used at the section's point with this number, and the note says so
pub record TellsUse (program : Typed) (section : Section) (p class : ℕ) (note : Note) : Type 0 where
  pub path : LockPath
  pub uses : Uses program section p path
  pub of_class : path.class ≡ class
  pub stands : StandsAt section p note
  pub words : note.words ≡ said program section path used_words

-- the root of a path of the class, which some point uses, is bound at the section's point with this number, and the
-- note says so
pub record TellsBinding (program : Typed) (section : Section) (p class : ℕ) (note : Note) : Type 0 where
  pub path : LockPath
  pub user : ℕ
  pub uses : Uses program section user path
  pub binds : BindsRoot section p path
  pub of_class : path.class ≡ class
  pub stands : StandsAt section p note
  pub words : note.words ≡ said program section path bound_words

-- the notes on the use and on the binding of an edge that leads to a class, in the edge's section
pub record TellsEdge (program : Typed) (e : Edge) (next : ℕ) (usage binding : Note) : Type 0 where
  pub section : Section
  pub here : slice_get program.sections.items e.section ≡ Some section
  pub tells_use : TellsUse program section e.used e.class usage
  pub tells_binding : TellsBinding program section e.bound next binding

-- ---- ways to avoid an edge

-- this binding uses no lock of class CLASS: ..
abbrev pub apart_words : Typed → ℕ → List ℕ
apart_words program class =
    codes "this binding uses no lock of class " ++ class_name program class
    ++ codes " itself: put it before that use, where what it names is known there"

-- the words where, besides, the binding stands before that use in the text and comes after it by a loop
abbrev pub around_words : Typed → ℕ → List ℕ
around_words program class =
    codes "this binding stands before that use, and comes after it by a loop, while a lock of class " ++ class_name program class
    ++ codes " is held: bind each object by a let before the loop, or list a class in the section's head, lock(S.l), or take a common owner by where"

-- this binding uses a lock of class CLASS: ..
abbrev pub within_words : Typed → ℕ → List ℕ
within_words program class =
    codes "this binding uses a lock of class " ++ class_name program class
    ++ codes " itself: take a parameter or a final reference, or list a class in the section's head, lock(S.l)"

-- a note of these words without a place
abbrev pub on_no_place : List ℕ → Note
on_no_place words = record { start = None; words = words }

-- the note says whether the section's point with the number p, which binds, uses a lock of the class, and otherwise
-- whether it stands before the use at the point with the number u, each with a way to avoid the edge
pub data TellsWay (program : Typed) (section : Section) (u p class : ℕ) (note : Note) : Type 0 where
  apart : (UsesClass program section p class → ⊥) → u ≤ p → note ≡ on_no_place (apart_words program class) →
      TellsWay program section u p class note
  around : (UsesClass program section p class → ⊥) → p < u → note ≡ on_no_place (around_words program class) →
      TellsWay program section u p class note
  within : UsesClass program section p class → note ≡ on_no_place (within_words program class) →
      TellsWay program section u p class note

-- the note on a way to avoid an edge, in the edge's section
pub record TellsWayOut (program : Typed) (e : Edge) (way : Note) : Type 0 where
  pub section : Section
  pub here : slice_get program.sections.items e.section ≡ Some section
  pub tells : TellsWay program section e.used e.bound e.class way

-- ---- cycles

-- the class of the next edge, or `first` after the last edge
abbrev pub class_of_next : ℕ → List Edge → ℕ
class_of_next first [] = first
class_of_next first (e ∷ rest) = e.class

-- the notes on each edge: its use, its binding, and a way to avoid it; an edge leads to the class of the next one, the
-- last edge to `first`
abbrev pub TellEdges : Typed → ℕ → List Edge → List Note → Type 0
TellEdges program first [] [] = Unit {0}
TellEdges program first (e ∷ rest) (usage ∷ binding ∷ way ∷ notes) =
    TellsEdge program e (class_of_next first rest) usage binding × TellsWayOut program e way × TellEdges program first rest notes
TellEdges program first (e ∷ rest) _ = ⊥
TellEdges program first [] (note ∷ notes) = ⊥

-- the notes on a cycle
abbrev pub AreCycleNotes : Typed → List Edge → List Note → Type 0
AreCycleNotes program [] notes = ⊥
AreCycleNotes program (e ∷ rest) notes = TellEdges program e.class (e ∷ rest) notes
