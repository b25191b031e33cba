-- The list of the names of the top level, as the protocol's JSON.
use Rattle.std.specs.Prelude.{◌≡◌, ◌⊎◌, ℕ, ◌+◌, List, [], codes, length, map, Option, Some, unwrap_or}
use Rattle.std.specs.List.{slice_get}
use Rattle.serde_json.specs.Data.{Data, array, no_items, number, object, string, unsigned, member, no_members}
use Rattle.serde_json.specs.View.{items_of}
use Rattle.source.specs.declared.fault.Code.{Code}
use Rattle.source.specs.declared.token.Token.{Token}
use Rattle.source.specs.declared.token.Token.TheVariants as token
use Rattle.source.specs.Texts.{HasTokens, IsFault}
use Rattle.source.specs.Tokens.{seen}
use Rattle.lsp_texts.specs.Names.{text_at, symbols}
use Rattle.lsp_texts.specs.declared.names.SymbolKind.{SymbolKind}
use Rattle.lsp_texts.specs.declared.names.SymbolKind.TheVariants as kind
use Rattle.lsp_texts.specs.declared.names.Symbol.{Symbol}
use Rattle.lsp_texts.specs.Ranges.{range_data}

-- the protocol's numbers: a constant, a struct, a variable, an array, a function, an event
abbrev pub kind_code : SymbolKind → ℕ
kind_code kind.Lock = 14
kind_code kind.Struct = 23
kind_code kind.Global = 13
kind_code kind.Pool = 18
kind_code kind.Section = 12
kind_code kind.Helper = 12
kind_code kind.Thread = 24

-- the first byte of the name that a token is; 0 where it is not a name
abbrev pub start_in : Option Token → ℕ
start_in (Some (token.Name start text)) = start
start_in _ = 0

-- the first byte of a name, and its text
abbrev pub start_at : List Token → ℕ → ℕ
start_at tokens at = start_in (slice_get tokens at)

-- the text of a name; empty where the token is not a name
abbrev pub name_at : List Token → ℕ → List ℕ
name_at tokens at = unwrap_or (text_at tokens at) []

-- the range of a name
abbrev pub name_range : List ℕ → List Token → ℕ → Data
name_range text tokens at = range_data text (start_at tokens at) (start_at tokens at + length (name_at tokens at))

-- {"kind":KIND,"name":NAME,"range":RANGE,"selectionRange":RANGE}
abbrev pub named_data : SymbolKind → List ℕ → Data → Data
named_data kind name range =
    object (member (codes "kind") (number (unsigned (kind_code kind))) (member (codes "name") (string name)
    (member (codes "range") range (member (codes "selectionRange") range no_members))))

-- a name of the top level as the protocol's JSON
abbrev pub symbol_data : List ℕ → List Token → Symbol → Data
symbol_data text tokens symbol = named_data symbol.kind (name_at tokens symbol.at) (name_range text tokens symbol.at)

-- the list of all names of the top level
abbrev pub symbols_data : List ℕ → List Token → Data
symbols_data text tokens = array (items_of (map (symbol_data text tokens) (symbols tokens)))

-- the list is that of the text's tokens; for a text with a lexical fault it is empty
abbrev pub AreSymbolsOf : List ℕ → Data → Type 0
AreSymbolsOf text told = ((tokens : List Token) × HasTokens text (seen tokens) × (told ≡ symbols_data text tokens))
    ⊎ ((code : Code) × (start : ℕ) × IsFault text code start × (told ≡ array no_items))
