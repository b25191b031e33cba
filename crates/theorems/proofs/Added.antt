-- An expansion with some helpers is an expansion with more.
use Rattle.std.proofs.Common.{◌≡◌, ◌∙◌, ℕ, zero, suc, List, [], ◌∷◌, ◌++◌, length, Option, Some, sym, ap, subst}
use Rattle.std.specs.Prelude.{slice_get}
use Rattle.core_lang.specs.declared.shape.Shape.{Shape}
use Rattle.core_lang.specs.declared.tree.Stmt.{Stmt}
use Rattle.core_lang.specs.declared.tree.Action.{Action, Bind, SetLocal, SetGlobal, SetElement, SetField, Call, Print}
use Rattle.core_lang.specs.declared.tree.Action.{If', IfElse', While', Row_of-Stmt, end_of-Stmt, more_of-Stmt}
use Rattle.core_lang.specs.declared.tree.Return.{Return}
use Rattle.core_lang.specs.declared.tree.Section.{Section}
use Rattle.core_lang.specs.declared.typed.Typed.{Typed}
use Rattle.core_lang.specs.Serial.{Invocation}
use Rattle.core_lang.specs.Expansion.{At, Bodies, Writes, WritesRow, WritesAll, WritesBody, HelpersWritten}
use Rattle.core_lang.specs.Expansion.{IsWrittenOut, HasSamePlaces}
use Rattle.core_lang.specs.Laws.{CallsFill, ExpansionsRunAlike}
use Rattle.theorems.specs.Meanings.{UncalledHelpersChangeNoExpansion, UncalledHelpersChangeNoRun}

-- ---- with more bodies

abbrev Within : Bodies → Bodies → Type 0
Within Body More =
    (helper count first : ℕ) (body : List Stmt) (r : Option Return) (fresh : ℕ) → Body helper count first body r fresh → More helper count first body r fresh

module _ (Body More : Bodies) (within : Within Body More) where
  mutual
    writes : (x : Action) (start : ℕ) (a : At) (ys : List Stmt) (b : At) → Writes Body x start a ys b →
        Writes More x start a ys b
    writes (Bind k e) start a ys b w = w
    writes (SetLocal k e) start a ys b w = w
    writes (SetGlobal cell e) start a ys b w = w
    writes (SetElement array i e) start a ys b w = w
    writes (SetField p s f e) start a ys b w = w
    writes (Call helper arguments result) start a ys b (lets, body, last, r, fresh, given, inside, bound, is) =
        (lets, body, last, r, fresh, given, within helper (length arguments.items) a.fresh body r fresh inside, bound, is)
    writes (Print e) start a ys b w = w
    writes (If' c m block) start a ys b (c', block', after, test, inside, is, end) =
        (c', block', after, test, row block a block'.items after inside, is, end)
    writes (IfElse' c m block k otherwise) start a ys b (c', block', otherwise', middle, after, test, first, second, is, end) =
        (c', block', otherwise', middle, after, test, row block a block'.items middle first, row otherwise _ otherwise'.items after second, is, end)
    writes (While' c m body) start a ys b (c', body', after, test, inside, is, end) =
        (c', body', after, test, row body a body'.items after inside, is, end)

    row : {m : _} (xs : Row_of-Stmt m) (a : At) (ys : List Stmt) (b : At) → WritesRow Body xs a ys b →
        WritesRow More xs a ys b
    row end_of-Stmt a ys b w = w
    row (more_of-Stmt start x rest) a ys b (front, back, middle, w, ws, is) =
        (front, back, middle, writes x start a front middle w, row rest middle back b ws, is)

  all : (xs : List Stmt) (a : At) (ys : List Stmt) (b : At) → WritesAll Body xs a ys b → WritesAll More xs a ys b
  all [] a ys b w = w
  all (x ∷ xs) a ys b (front, back, middle, w, ws, is) = (front, back, middle, writes x.action x.start a front middle w, all xs middle back b ws, is)

  body_writes : (section : Section) (first : ℕ) (ys : List Stmt) (r : Option Return) (fresh : ℕ) →
      WritesBody Body section first ys r fresh →
      WritesBody More section first ys r fresh
  body_writes section first ys r fresh (b, w, result, own, end) = (b, all section.body.items _ ys b w, result, own, end)

-- ---- with more helpers

still_there : (xs ys : List Section) (k : ℕ) (x : Section) → slice_get xs k ≡ Some x → slice_get (xs ++ ys) k ≡ Some x
still_there [] ys k x e = absurd cc
still_there (z ∷ xs) ys zero x e = e
still_there (z ∷ xs) ys (suc k) x e = still_there xs ys k x e

helpers_within : (shape more : Shape) (added : List Section) → more.helpers.items ≡ shape.helpers.items ++ added →
    (depth : ℕ) →
    Within (HelpersWritten shape depth) (HelpersWritten more depth)
helpers_within shape more added is zero helper count first ys r fresh w = w
helpers_within shape more added is (suc depth) helper count first ys r fresh (h, found, many, w) = (
  h,
  ap (λ (hs : List Section). slice_get hs helper) is ∙ still_there shape.helpers.items added helper h found,
  many,
  body_writes (HelpersWritten shape depth) (HelpersWritten more depth) (helpers_within shape more added is depth) h first ys r fresh w,
)

written_out : (shape more : Shape) (added : List Section) → more.helpers.items ≡ shape.helpers.items ++ added →
    (section out : Section) →
    IsWrittenOut shape section out → IsWrittenOut more section out
written_out shape more added is section out w = record {
  parameters = w.parameters;
  result_type = w.result_type;
  body = body_writes (HelpersWritten shape 8) (HelpersWritten more 8) (helpers_within shape more added is 8) section 0 out.body.items out.result
      (length out.locals.items) w.body;
}

-- ---- programs

from_more : (shape more written : Shape) → HasSamePlaces shape more → HasSamePlaces shape written →
    HasSamePlaces more written
from_more shape more written p q = record {
  arrays = q.arrays ∙ sym p.arrays;
  pools = q.pools ∙ sym p.pools;
  objects = q.objects ∙ sym p.objects;
  finals = q.finals ∙ sym p.finals;
}

pub same_expansion : UncalledHelpersChangeNoExpansion
same_expansion program more written has e =
    let (added, is) = has.helpers in record {
      places = from_more program.shape more.shape written.shape has.places e.places;
      helpers = e.helpers;
      cells = e.cells ∙ sym has.cells;
      there = λ k section found.
          let (out, there, w) = e.there k section (subst (λ (ss : List Section). slice_get ss k ≡ Some section) has.sections found) in
          (out, there, written_out program.shape more.shape added is section out w);
      back = λ k out found.
          let (section, there, w) = e.back k out found in (
            section,
            subst (λ (ss : List Section). slice_get ss k ≡ Some section) (sym has.sections) there,
            written_out program.shape more.shape added is section out w,
          );
    }

fills : (program more : Typed) (calls : List Invocation) → more.sections.items ≡ program.sections.items →
    CallsFill program calls → CallsFill more calls
fills program more [] same f = f
fills program more (call ∷ calls) same f =
    (λ section found. f.0 section (subst (λ (ss : List Section). slice_get ss call.section ≡ Some section) same found), fills program more calls same f.1)

pub same_runs : ExpansionsRunAlike → UncalledHelpersChangeNoRun
same_runs law program more written heap last calls ends has e fill =
    let first = law program written heap last calls ends e fill in
    let second = law more written heap last calls ends (same_expansion program more written has e) (fills program more calls has.sections fill) in
    (λ s. second.1 (first.0 s), λ s. first.1 (second.0 s))
