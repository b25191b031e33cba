use Rattle.std.proofs.Common.{subst}
use Rattle.source.specs.declared.fault.Code.{Code}
use Rattle.source.specs.declared.fault.Code.TheVariants.{WrongArgumentCount, NotAssignable}
use Rattle.source.specs.declared.fault.Code.TheVariants.{DeclaredTwice, UnknownName, WrongType}
use Rattle.source.specs.declared.fault.Code.TheVariants.{NeitherFinalNorProtected, ProtectedByPassesNonFinal}
use Rattle.source.specs.declared.fault.Code.TheVariants.{UnstableBase, LimitExceeded, FinalWithoutOpeningValue}
use Rattle.source.specs.declared.fault.Code.TheVariants.{InitOutOfRangeOrRepeated}
use Rattle.explanation_faults.specs.Working.Values.{decls_of, FoundWhy}
use Rattle.explanation_faults.proofs.Telling.{told_as, told_so, twice_told, lock_told, passed_told}
use Rattle.explanation_faults.proofs.Telling.{type_told, count_told_of, target_told}
use Rattle.explanation_faults.proofs.Telling.{again_told, var_told}
use Rattle.explanation_faults.proofs.tree_notes.Faulty.note.Goals as goal

pub returns-in-DeclaredTwice : goal.returns-in-DeclaredTwice
returns-in-DeclaredTwice c =
    let x = c.args.self.now in
    told_as x c.args.code DeclaredTwice c.in-DeclaredTwice.is c.declared_note.result (twice_told (decls_of x) x.at) c.declared_note.ensures

pub returns-in-UnknownName : goal.returns-in-UnknownName
returns-in-UnknownName c =
    let x = c.args.self.now in
    told_so x c.args.code UnknownName c.in-UnknownName.is c.near_note.result c.near_note.ensures

pub returns-in-WrongType : goal.returns-in-WrongType
returns-in-WrongType c =
    let x = c.args.self.now in
    told_so x c.args.code WrongType c.in-WrongType.is c.reason_note.result (type_told x c.reason_note.result c.reason_note.ensures)

pub reason_note-requires : goal.reason_note-requires
reason_note-requires c =
    let x = c.args.self.now in
    subst (λ (code : Code). FoundWhy (decls_of x) code x.at x.why) c.in-WrongType.is c.requires

pub returns-in-WrongArgumentCount : goal.returns-in-WrongArgumentCount
returns-in-WrongArgumentCount c =
    let x = c.args.self.now in
    let r = c.reason_note-in-WrongArgumentCount in
    told_so x c.args.code WrongArgumentCount c.in-WrongArgumentCount.is r.result (count_told_of x r.result r.ensures)

pub returns-in-NotAssignable : goal.returns-in-NotAssignable
returns-in-NotAssignable c =
    let x = c.args.self.now in
    let r = c.reason_note-in-NotAssignable in
    told_so x c.args.code NotAssignable c.in-NotAssignable.is r.result (target_told x r.result r.ensures)

pub returns-in-NeitherFinalNorProtected : goal.returns-in-NeitherFinalNorProtected
returns-in-NeitherFinalNorProtected c =
    let x = c.args.self.now in
    told_as x c.args.code NeitherFinalNorProtected c.in-NeitherFinalNorProtected.is c.lock_note.result (lock_told (decls_of x) x.at) c.lock_note.ensures

pub returns-in-ProtectedByPassesNonFinal : goal.returns-in-ProtectedByPassesNonFinal
returns-in-ProtectedByPassesNonFinal c =
    let x = c.args.self.now in
    told_as x c.args.code ProtectedByPassesNonFinal c.in-ProtectedByPassesNonFinal.is c.passed_note.result (passed_told (decls_of x) x.at) c.passed_note.ensures

pub returns-in-FinalWithoutOpeningValue : goal.returns-in-FinalWithoutOpeningValue
returns-in-FinalWithoutOpeningValue c =
    let x = c.args.self.now in
    told_so x c.args.code FinalWithoutOpeningValue c.in-FinalWithoutOpeningValue.is c.final_note.result c.final_note.ensures

pub returns-in-InitOutOfRangeOrRepeated : goal.returns-in-InitOutOfRangeOrRepeated
returns-in-InitOutOfRangeOrRepeated c =
    let x = c.args.self.now in
    told_as x c.args.code InitOutOfRangeOrRepeated c.in-InitOutOfRangeOrRepeated.is c.given_note.result (again_told (decls_of x) x.at) c.given_note.ensures

pub returns-in-UnstableBase : goal.returns-in-UnstableBase
returns-in-UnstableBase c =
    let x = c.args.self.now in
    told_so x c.args.code UnstableBase c.in-UnstableBase.is c.var_note.result (var_told x c.var_note.result c.var_note.ensures)

pub returns-in-LimitExceeded : goal.returns-in-LimitExceeded
returns-in-LimitExceeded c =
    let x = c.args.self.now in
    told_so x c.args.code LimitExceeded c.in-LimitExceeded.is c.limit_note.result c.limit_note.ensures
