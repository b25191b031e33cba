-- What holds of the changes that notes propose.
use Rattle.std.specs.Prelude.{◌≡◌, true, codes}
use Rattle.std.specs.List.{list_all}
use Rattle.explanation_faults.specs.FaultNotes.{lock_note, near_note, null_meant_note}
use Rattle.source.specs.Texts.{is_name_byte}
use Rattle.syntax.specs.Trees.{Ident}
use Rattle.language_server.specs.Changes.{first_word, meant}

-- a note on a near name says to write that
abbrev pub ReadsNearNames : Type 0
ReadsNearNames = (x : Ident) → list_all is_name_byte x.text ≡ true → meant (near_note x) ≡ x.text

abbrev pub ReadsNull : Type 0
ReadsNull = meant null_meant_note ≡ codes "null"

-- a note on a lock says to name that in the annotation
abbrev pub ReadsLocks : Type 0
ReadsLocks = (x : Ident) → list_all is_name_byte x.text ≡ true → first_word (lock_note x).words ≡ x.text
