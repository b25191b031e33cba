-- The methods of requests about documents, what each finds, and the capabilities of the server.
use Rattle.std.specs.Prelude.{◌≡◌, ℕ, Bool, true, List, codes, Option, Some, None, IfSome, if◌then◌else◌}
use Rattle.std.specs.Option.{is_some}
use Rattle.std.specs.Str.{bytes_eq}
use Rattle.serde_json.specs.Data.{Data, array, boolean, no_items, null, number, object, string, unsigned, member, no_members}
use Rattle.language_server.specs.Parameters.{lines, new_place, position, range, with_declaration}
use Rattle.language_server.specs.declared.method.Method.{Method}
use Rattle.language_server.specs.declared.method.Method.TheVariants as method
use Rattle.language_server.specs.Actions.{AreActionsOf}
use Rattle.lsp_texts.specs.Edits.{AreEditsOf}
use Rattle.language_server.specs.Hints.{AreHintsOf}
use Rattle.language_server.specs.Hovers.{IsHoverOf}
use Rattle.lsp_texts.specs.Links.{definition_data, references_data}
use Rattle.lsp_texts.specs.Renames.{IsName, rename_data}
use Rattle.lsp_texts.specs.Told.{IsToldOf}
use Rattle.lsp_texts.specs.declared.walking.Position.{Position}
use Rattle.lsp_texts.specs.DocumentSymbols.{AreSymbolsOf}

-- the method with this name
abbrev pub method_named : List ℕ → Option Method
method_named name =
    if bytes_eq name (codes "textDocument/codeAction") then Some method.CodeAction else
    if bytes_eq name (codes "textDocument/definition") then Some method.Definition else
    if bytes_eq name (codes "textDocument/documentSymbol") then Some method.DocumentSymbol else
    if bytes_eq name (codes "textDocument/formatting") then Some method.Formatting else
    if bytes_eq name (codes "textDocument/hover") then Some method.Hover else
    if bytes_eq name (codes "textDocument/inlayHint") then Some method.InlayHint else
    if bytes_eq name (codes "textDocument/references") then Some method.References else
    if bytes_eq name (codes "textDocument/rename") then Some method.Rename else None

-- some method has this name
abbrev pub is_method : List ℕ → Bool
is_method name = is_some (method_named name)

-- something is found, and `Is` holds of it
abbrev pub Gives : Option Data → (Data → Type 0) → Type 0
Gives None Is = ⊥
Gives (Some told) Is = Is told

-- the parameter is given, and `Is` holds of what is found; or it is missing, and nothing is found
abbrev pub WithThat : {X : Type 0} → Option X → Option Data → (X → Data → Type 0) → Type 0
WithThat None found Is = found ≡ None
WithThat (Some x) found Is = Gives found (Is x)

-- the declaration of the name at the position; `null`, where the text has a lexical fault
abbrev pub IsDefinitionOf : List ℕ → List ℕ → Position → Data → Type 0
IsDefinitionOf uri text place = IsToldOf text (definition_data uri text place) null

-- the references of the name at the position; an empty list, where the text has a lexical fault
abbrev pub AreReferencesOf : List ℕ → List ℕ → Bool → Position → Data → Type 0
AreReferencesOf uri text itself place = IsToldOf text (references_data uri text place itself) (array no_items)

-- the edits for a new name, or `null`, where it is not a name of the language
pub record IsRenameOf (uri text : List ℕ) (asked : Position × List ℕ) (told : Data) : Type 0 where
  pub named : IsName asked.1 → IsToldOf text (rename_data uri text asked.0 asked.1) null told
  pub unnamed : (IsName asked.1 → ⊥) → told ≡ null

-- what a method finds in a document with this URI and this text, with these parameters
abbrev pub Finds : Method → List ℕ → List ℕ → Data → Option Data → Type 0
Finds method.CodeAction uri text params found = WithThat (range params) found (AreActionsOf uri text)
Finds method.Definition uri text params found = WithThat (position params) found (IsDefinitionOf uri text)
Finds method.DocumentSymbol uri text params found = Gives found (AreSymbolsOf text)
Finds method.Formatting uri text params found = Gives found (AreEditsOf text)
Finds method.Hover uri text params found = WithThat (position params) found (IsHoverOf text)
Finds method.InlayHint uri text params found = WithThat (lines params) found (λ asked. AreHintsOf text asked.0 asked.1)
Finds method.References uri text params found = WithThat (position params) found (AreReferencesOf uri text (with_declaration params))
Finds method.Rename uri text params found = WithThat (new_place params) found (IsRenameOf uri text)

-- the same for the method with this name
abbrev pub finds : List ℕ → List ℕ → List ℕ → Data → Option Data → Type 0
finds name uri text params found = IfSome (method_named name) (λ method. Finds method uri text params found)

-- what the server says of itself: {"capabilities":{..},"serverInfo":{"name":"autolock"}}
abbrev pub capabilities : Data
capabilities =
    object (member (codes "capabilities") (object (
    member (codes "codeActionProvider") (boolean true) (
    member (codes "definitionProvider") (boolean true) (
    member (codes "documentFormattingProvider") (boolean true) (
    member (codes "documentSymbolProvider") (boolean true) (
    member (codes "hoverProvider") (boolean true) (
    member (codes "inlayHintProvider") (boolean true) (
    member (codes "positionEncoding") (string (codes "utf-16")) (
    member (codes "referencesProvider") (boolean true) (
    member (codes "renameProvider") (boolean true) (
    member (codes "textDocumentSync") (object (
    member (codes "change") (number (unsigned 1)) (
    member (codes "openClose") (boolean true) no_members))) no_members))))))))))) (
    member (codes "serverInfo") (object (member (codes "name") (string (codes "autolock")) no_members)) no_members))
