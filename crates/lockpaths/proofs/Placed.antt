-- Lock paths by the numbers of their normal forms, with more of these.
use Rattle.std.proofs.Common.{◌≡◌, ◌∙◌, ℕ, ◌+◌, ◌<◌, List, [], ◌∷◌, ◌++◌, length, map, get_or, take, Option}
use Rattle.std.proofs.Common.{refl, sym, ap}
use Rattle.std.specs.List.{All}
use Rattle.std.proofs.lemmas.List.{get_or_append_left, map_push, take_more}
use Rattle.std.proofs.lemmas.List.Elements.{All-head, All-tail}
use Rattle.source.specs.declared.mistake.Mistake.{Mistake}
use Rattle.locks.specs.declared.path.Root.{Root}
use Rattle.locks.specs.declared.path.Root.TheVariants.{Local}
use Rattle.locks.specs.declared.path.LockPath as written
use Rattle.locks.specs.LockPaths.{StablePath, LockPath, lock_path_of}
use Rattle.lockpaths.specs.Working.Forms.{Replacement}
use Rattle.lockpaths.specs.Working.Nodes.{nowhere, IsGrown}
use Rattle.lockpaths.specs.Working.States.{Known, IsKept}
use Rattle.lockpaths.specs.declared.found.Start.{Start}
use Rattle.lockpaths.specs.declared.found.Start.TheVariants.{GlobalLock, WholeClass, Form}
use Rattle.lockpaths.specs.declared.found.Destination.{Destination}
use Rattle.lockpaths.specs.Working.Gathering.{Gathered}
use Rattle.lockpaths.specs.Working.Places.{root_at, finals_at, path_at, IsNumbered, IsPlace, AreFound, gathered_of}
use Rattle.lockpaths.specs.Working.Told.{Seen, Told, seen}

module _ (old new : List StablePath) (grown : IsGrown old new) where
  there : (n : ℕ) → n < length old → get_or new n nowhere ≡ get_or old n nowhere
  there n lt = ap (λ (ps : List StablePath). get_or ps n nowhere) grown.1 ∙ get_or_append_left old grown.0 nowhere n lt

  root_same : (s : Start) → IsNumbered old s → root_at new s ≡ root_at old s
  root_same GlobalLock is = refl
  root_same (WholeClass s) is = refl
  root_same (Form n) is = ap (λ (p : StablePath). Local p.root) (there n is)

  finals_same : (s : Start) → IsNumbered old s → finals_at new s ≡ finals_at old s
  finals_same GlobalLock is = refl
  finals_same (WholeClass s) is = refl
  finals_same (Form n) is = ap (λ (p : StablePath). p.finals) (there n is)

  pub path_same : (p : Destination) → IsPlace old p → path_at new p ≡ path_at old p
  path_same p is =
      ap (λ (r : Root). record { root = r; finals = finals_at new p.start; class = p.class }) (root_same p.start is)
      ∙ ap (λ (fs : List ℕ). record { root = root_at old p.start; finals = fs; class = p.class }) (finals_same p.start is)

  pub paths_same : (ps : List Destination) → All (IsPlace old) ps → map (path_at new) ps ≡ map (path_at old) ps
  paths_same [] all = refl
  paths_same (p ∷ ps) all =
      ap (λ (x : LockPath). x ∷ map (path_at new) ps) (path_same p (All-head (IsPlace old) p ps all))
      ∙ ap (λ (xs : List LockPath). path_at old p ∷ xs) (paths_same ps (All-tail (IsPlace old) p ps all))

pub told_same : (s t : List Replacement) (g h : Gathered) → s ≡ t → g ≡ h →
    ◌≡◌ {A = Told} (record { table = s; gathered = g }) (record { table = t; gathered = h })
told_same s t g h a b = ap (λ (x : List Replacement). record { table = x; gathered = g }) a ∙ ap (λ (x : Gathered). record { table = t; gathered = x }) b

-- found paths stay the same if more normal forms are known
pub found_same : (old new : Known) (places : List Destination) (numbers ends : List ℕ) (least : Option Mistake) (now : Seen) → AreFound old.paths places → IsKept old new →
    record { known = old; gathered = gathered_of old.paths places numbers ends least } ≡ now →
    record { table = new.table; gathered = gathered_of new.paths places numbers ends least } ≡ seen now
found_same old new places numbers ends least now are kept is =
    told_same new.table old.table (gathered_of new.paths places numbers ends least) (gathered_of old.paths places numbers ends least) kept.table
    (ap (λ (ps : List LockPath). record { paths = ps; numbers = numbers; ends = ends; least = least }) (paths_same old.paths new.paths kept.paths places are.within))
    ∙ ap seen is

-- one lock path more that is written out
pub one_written : (paths : List StablePath) (places : List Destination) (i : ℕ) (p : Destination) (made : written.LockPath) (list more : List written.LockPath) → i < length places → p ≡ get_or places i p →
    map lock_path_of list ≡ map (path_at paths) (take i places) → lock_path_of made ≡ path_at paths p → more ≡ list ++ made ∷ [] →
    map lock_path_of more ≡ map (path_at paths) (take (i + 1) places)
one_written paths places i p made list more lt is before one grown =
    ap (map lock_path_of) grown ∙ map_push lock_path_of list made
    ∙ ap (λ (xs : List LockPath). xs ++ lock_path_of made ∷ []) before
    ∙ ap (λ (x : LockPath). map (path_at paths) (take i places) ++ x ∷ []) one
    ∙ sym (map_push (path_at paths) (take i places) p)
    ∙ sym (ap (map (path_at paths)) (take_more places i p lt ∙ ap (λ (x : Destination). take i places ++ x ∷ []) (sym is)))
