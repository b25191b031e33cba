-- The message of an engine that fails names a file of the command line, or says that writing failed.
use Rattle.std.proofs.Common.{◌≡◌, Bool, true, false, ℕ, List, [], ◌∷◌, map, Option, Some, None, inl, inr, refl}
use Rattle.std.proofs.Common.{subst, if◌then◌else◌}
use Rattle.std.specs.Prelude.{◌⊎◌}
use Rattle.driver.specs.{Serves, Reading, Tells, cannot_read, cannot_write, writing_failed}
use Rattle.driver.specs.Engines.{first_unread}
use Rattle.driver.specs.declared.streams.Streams.{Streams}
use Rattle.driver.specs.declared.status.Status.{Status}
use Rattle.driver.specs.declared.status.Status.TheVariants.{Failed}
use Rattle.autolock.specs.Asked.{NamesOneOf}

abbrev pub names_of : List Reading → List (List ℕ)
names_of files = map (λ (f : Reading). f.name) files

-- the first file that could not be read is one of the files that the command line names
unread_named : (Told : List ℕ → Type 0) (files : List Reading) (file : Reading) → first_unread files ≡ Some file →
    Told (cannot_read file.name) → NamesOneOf Told (names_of files)
unread_named Told [] file is told = absurd cc
unread_named Told (f ∷ fs) file is told = by f.failed refl is (λ e. unread_named Told fs file e told)
  where
    by : (b : Bool) → f.failed ≡ b → first_unread (f ∷ fs) ≡ Some file →
        (first_unread fs ≡ Some file → NamesOneOf Told (names_of fs)) →
        NamesOneOf Told (f.name ∷ names_of fs)
    by true e is rest =
        let some : Some f ≡ Some file = subst (λ (b : Bool). (if b then Some f else first_unread fs) ≡ Some file) e is in
        let same : f ≡ file = cc in
        inl (rw same told)
    by false e is rest = inr (rest (subst (λ (b : Bool). (if b then Some f else first_unread fs) ≡ Some file) e is))

module _ {O E : Type 0} {Answers : List ℕ → List (List ℕ) → Status → List ℕ → List ℕ → Type 0} {program : Reading}
    {others : List Reading} {contents : O → Option (List ℕ)} {told : E → Option (List ℕ)} {old new : Streams O E} {status : Status}
    (served : Serves Answers program others contents told old new status) (failed : status ≡ Failed) where
  by_unread : (o : Option Reading) → first_unread (program ∷ others) ≡ o →
      NamesOneOf (Tells told old.err new.err) (names_of (program ∷ others)) ⊎ Tells told old.err new.err cannot_write
  by_unread (Some file) is = inl (unread_named (Tells told old.err new.err) (program ∷ others) file is (served.unread file is).1)
  by_unread None is =
      let written : writing_failed new.out ≡ true = rw is at served.failed.0 failed in
      inr (served.unwritten is written)

  pub failure_told : (files : List (List ℕ)) → names_of (program ∷ others) ≡ files →
      NamesOneOf (Tells told old.err new.err) files ⊎ Tells told old.err new.err cannot_write
  failure_told files named = rw (← named) (by_unread (first_unread (program ∷ others)) refl)
