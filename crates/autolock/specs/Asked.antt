-- The requests of a command line.
use Rattle.std.specs.Prelude.{◌≡◌, ◌⊎◌, ℕ, List, [], ◌∷◌, codes}
use Rattle.clap.specs.declared.error.kind.ErrorKind.{ErrorKind}
use Rattle.clap.specs.declared.error.kind.ErrorKind.TheVariants.{DisplayHelp, DisplayVersion}
use Rattle.driver.specs.{cannot_read}
use Rattle.driver_words.specs.declared.line.Line.{Line}
use Rattle.driver_words.specs.declared.line.Request.{Request}
use Rattle.driver_words.specs.declared.line.Request.TheVariants.{Alone, Beside, Code, Lsp}

-- the names of the files that a request reads, the first of which is the program's file
abbrev pub files_read : List ℕ → Request → List (List ℕ)
files_read file (Code code) = []
files_read file Lsp = codes "standard input" ∷ []
files_read file (Alone request) = file ∷ []
files_read file (Beside request other) = file ∷ other.now ∷ []

-- the names of the files that a line names
abbrev pub files_of : Line → List (List ℕ)
files_of line = files_read line.file.now line.request

-- a message reports one of these files as one that can't be read
abbrev pub NamesOneOf : (List ℕ → Type 0) → List (List ℕ) → Type 0
NamesOneOf Told [] = ⊥
NamesOneOf Told (file ∷ files) = Told (cannot_read file) ⊎ NamesOneOf Told files

-- the command line asks for help or the version
abbrev pub IsAsked : ErrorKind → Type 0
IsAsked kind = (kind ≡ DisplayHelp) ⊎ (kind ≡ DisplayVersion)
