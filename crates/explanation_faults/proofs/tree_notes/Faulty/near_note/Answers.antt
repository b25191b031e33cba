use Rattle.std.proofs.Common.{inl, refl, sym}
use Rattle.syntax.specs.Views.{ident}
use Rattle.explanation_faults.specs.Working.Values.{decls_of, tokens_of}
use Rattle.explanation_names.specs.Working.Viewed.{text_at}
use Rattle.explanation_faults.proofs.NearNames.{none_told, none_near}
use Rattle.explanation_faults.proofs.tree_notes.Faulty.near_note.Goals as goal

pub returns-in_default : goal.returns-in_default
returns-in_default c =
    let x = c.args.self.now in
    none_told (tokens_of x) (decls_of x) x.at c.in_default.ensures

pub null_note-requires : goal.null_note-requires
null_note-requires c =
    let x = c.args.self.now in
    record {
      there = sym c.in-Some.ensures;
      none = none_near (tokens_of x) (decls_of x) x.at (text_at c.in-Some.text) c.in-Some.ensures (rw c.in_default-2.is at c.in_ok-name.ensures);
    }

pub returns : goal.returns
returns c =
    let found = rw c.in-Some-2.is at c.in_ok-name.ensures in
    rw c.in_ok-note.ensures (inl record {
      unknown = text_at c.in-Some.text;
      there = sym c.in-Some.ensures;
      name = ident c.in-Some-2.name.now;
      nearest = found;
      said = refl;
    })
