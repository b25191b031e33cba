-- The messages that a server writes, as JSON data. The members of an object are ordered by their keys.
use Rattle.std.specs.Prelude.{ℕ, ℤ, negsuc, List, codes, Option, unwrap_or}
use Rattle.serde_json.specs.Data.{Data, null, number, negative, object, string, member, no_members}
use Rattle.lsp_protocol.specs.declared.replies.Failure.{Failure}
use Rattle.lsp_protocol.specs.declared.replies.Failure.TheVariants.{NoJson, InvalidRequest, NoMethod, InvalidParameters, OutOfMemory, NotInitialized}

-- the error code of a failure; `negsuc n` is -(n + 1)
abbrev pub code_of : Failure → ℤ
code_of NoJson = negsuc 32699
code_of InvalidRequest = negsuc 32599
code_of NoMethod = negsuc 32600
code_of InvalidParameters = negsuc 32601
code_of OutOfMemory = negsuc 32602
code_of NotInitialized = negsuc 32001

-- the error message of a failure
abbrev pub text_of : Failure → List ℕ
text_of NoJson = codes "no JSON"
text_of InvalidRequest = codes "no request that may come here"
text_of NoMethod = codes "no such method"
text_of InvalidParameters = codes "no such parameters"
text_of OutOfMemory = codes "no memory"
text_of NotInitialized = codes "not initialized"

-- {"id":ID,"jsonrpc":"2.0","result":FOUND}
abbrev pub response : Data → Data → Data
response id found =
    object (member (codes "id") id (member (codes "jsonrpc") (string (codes "2.0")) (member (codes "result") found no_members)))

-- {"error":{"code":CODE,"message":TEXT},"id":ID,"jsonrpc":"2.0"}, with `null` for no id
abbrev pub failure : Option Data → Failure → Data
failure id why =
    object (member (codes "error") (object (member (codes "code") (number (negative (code_of why))) (member (codes "message") (string (text_of why)) no_members)))
    (member (codes "id") (unwrap_or id null) (member (codes "jsonrpc") (string (codes "2.0")) no_members)))

-- {"jsonrpc":"2.0","method":"textDocument/publishDiagnostics","params":{"diagnostics":TOLD,"uri":URI}}
abbrev pub diagnostics : List ℕ → Data → Data
diagnostics uri told =
    object (member (codes "jsonrpc") (string (codes "2.0")) (member (codes "method") (string (codes "textDocument/publishDiagnostics"))
    (member (codes "params") (object (member (codes "diagnostics") told (member (codes "uri") (string uri) no_members))) no_members)))
